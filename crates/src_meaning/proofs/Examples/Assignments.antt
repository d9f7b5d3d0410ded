-- The right operand of an assignment is evaluated before its place.
use Rattle.std.proofs.Common.{◌≡◌, refl, [], ◌∷◌, pos}
use Rattle.std.specs.Prelude.{codes}
use Rattle.mir_base.specs.declared.int_kind.IntKind.{IntKind}
use Rattle.mir_base.specs.declared.trace.End.{End}
use Rattle.mir_base.specs.declared.trace.Event.TheVariants.{Call as call, Return as return, Make as make, Dropped as drop}
use Rattle.mir_ty.specs.declared.ty.Ty.{Ty}
use Rattle.mir_ty.specs.declared.ty.TyId.{TyId}
use Rattle.mir_ty.specs.ItemTable.{ItemTable}
use Rattle.typed_tree.specs.declared.node.Use.{Use}
use Rattle.typed_tree.specs.Tree.{no_node, absent, present, Number, Variable, Index, Assign, Call, Array, Block, BodyTree, ProgramTree}
use Rattle.src_meaning.specs.Programs.{source}
use Rattle.src_meaning.proofs.Examples.Words.{a_name, unit, n, used, nodes, let_, stmt, body, ty_no, head}
use Rattle.src_meaning.proofs.Examples.WithD.{d_ty, d, drop_d, take, with_d}

abbrev array_d_2_ty : TyId
array_d_2_ty = ty_no 7

abbrev usize : TyId
usize = ty_no 8

abbrev items : ItemTable
items = with_d (record {
  types = Ty.Array d_ty 2 ∷ Ty.Int IntKind.Usize ∷ [];
  adts = [];
  traits = [];
  impls = [];
  closures = [];
  bodies = head (codes "one") [] usize ∷ head (codes "make") [] d_ty ∷ head (codes "main") [] unit ∷ [];
})

-- fn one() -> usize { 1 }
abbrev one : BodyTree
one = body 2 [] usize (n 0 usize (Block no_node (present (n 1 usize (Number (pos 1))))))

-- fn make() -> D { D(7) }
abbrev makes : BodyTree
makes = body 3 [] d_ty (n 0 d_ty (Block no_node (present (d 1 (pos 7)))))

-- fn main() { let mut a = [D(5), D(6)]; a[one()] = make(); }
abbrev main_element : BodyTree
main_element = body 4 [] unit
    (n 0 unit (Block (nodes (
    (let_ 1 (used 2 array_d_2_ty Use.Move a_name)
    (n 3 array_d_2_ty (Array (nodes ((d 4 (pos 5)) ∷ (d 6 (pos 6)) ∷ [])))))
    ∷ (stmt 8 (n 9 unit (Assign (used 10 d_ty Use.Store
    (Index (n 11 array_d_2_ty (Variable 2)) (n 12 usize (Call 2 no_node)) 2)) (n 13 d_ty (Call 3 no_node)))))
    ∷ [])) absent))

abbrev pub element : ProgramTree
element = record { items = items; bodies = drop_d ∷ take ∷ one ∷ makes ∷ main_element ∷ [] }

the_value_before_the_place : source element [] 100
    ≡ (
      call 4 ∷ make 0 1 ∷ make 0 2 ∷ call 3 ∷ make 0 3 ∷ return 3 ∷ call 2 ∷ return 2 ∷ drop 0 2 ∷
          return 0 ∷ drop 0 1 ∷ return 0 ∷ drop 0 3 ∷ return 0 ∷ return 4 ∷ [],
      End.Returned,
    )
the_value_before_the_place = refl
