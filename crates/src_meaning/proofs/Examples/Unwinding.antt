-- What a panic drops: the rest of a box, and destinations that are pending.
use Rattle.std.proofs.Common.{◌≡◌, refl, [], ◌∷◌, pos, negsuc}
use Rattle.std.specs.Prelude.{None, codes}
use Rattle.mir_base.specs.declared.trace.End.{End}
use Rattle.mir_base.specs.declared.trace.Event.TheVariants.{Call as call, Return as return, Unwind as unwind, Make as make, Boxed as box, Dropped as drop, Freed as free, Panicked as panic}
use Rattle.mir_base.specs.declared.trace.Why.{Why}
use Rattle.mir_ty.specs.declared.ty.Ty.{Ty}
use Rattle.mir_ty.specs.declared.ty.TyId.{TyId}
use Rattle.mir_ty.specs.ItemTable.{ItemTable}
use Rattle.typed_tree.specs.declared.node.Use.{Use}
use Rattle.typed_tree.specs.Tree.{absent, present, Tuple, NewBox, Block, Wildcard, TuplePattern, BodyTree, ProgramTree}
use Rattle.src_meaning.specs.Programs.{source}
use Rattle.src_meaning.proofs.Examples.Words.{a_name, unit, n, used, nodes, let_, body, ty_no, struct, head}
use Rattle.src_meaning.proofs.Examples.WithN.{n_ty, nn, drop_n, with_n}

abbrev s_ty : TyId
s_ty = ty_no 6

abbrev boxed_n_ty : TyId
boxed_n_ty = ty_no 7

abbrev tuple_n_n_ty : TyId
tuple_n_n_ty = ty_no 8

abbrev items : ItemTable
items = with_n (record {
  types = Ty.Adt 1 ∷ Ty.Boxed n_ty ∷ Ty.Tuple (n_ty ∷ n_ty ∷ []) ∷ [];
  adts = struct (codes "S") (n_ty ∷ []) None ∷ [];
  traits = [];
  impls = [];
  closures = [];
  bodies = head (codes "main") [] unit ∷ [];
})

-- fn main() { let b = Box::new(N(-1)); }
abbrev main_box : BodyTree
main_box = body 1 [] unit
    (n 0 unit (Block (nodes ((let_ 1 (used 2 boxed_n_ty Use.Move a_name)
    (n 3 boxed_n_ty (NewBox (nn 4 (negsuc 0))))) ∷ [])) absent))

abbrev pub boxed : ProgramTree
boxed = record { items = items; bodies = drop_n ∷ main_box ∷ [] }

a_box_is_freed_after_its_content_panicked : source boxed [] 100
    ≡ (call 1 ∷ make 0 1 ∷ box 2 ∷ drop 0 1 ∷ panic Why.Explicit ∷ unwind 0 ∷ free 2 ∷ unwind 1 ∷ [], End.Panicked)
a_box_is_freed_after_its_content_panicked = refl

-- fn main() { let (x, _) = { let y = N(-1); (N(2), N(3)) }; }
abbrev main_let : BodyTree
main_let = body 1 [] unit
    (n 0 unit (Block (nodes (
    (let_ 1 (n 2 tuple_n_n_ty (TuplePattern (nodes ((used 3 n_ty Use.Move a_name) ∷ (n 4 n_ty Wildcard) ∷ []))))
    (n 5 tuple_n_n_ty (Block (nodes ((let_ 6 (used 7 n_ty Use.Move a_name) (nn 8 (negsuc 0))) ∷ []))
    (present (n 10 tuple_n_n_ty (Tuple (nodes ((nn 11 (pos 2)) ∷ (nn 13 (pos 3)) ∷ []))))))))
    ∷ [])) absent))

abbrev pub of_let : ProgramTree
of_let = record { items = items; bodies = drop_n ∷ main_let ∷ [] }

the_temporary_of_a_let_is_pending : source of_let [] 100
    ≡ (
      call 1 ∷ make 0 1 ∷ make 0 2 ∷ make 0 3 ∷ drop 0 1 ∷ panic Why.Explicit ∷ unwind 0 ∷ drop 0 2 ∷
          return 0 ∷ drop 0 3 ∷ return 0 ∷ unwind 1 ∷ [],
      End.Panicked,
    )
the_temporary_of_a_let_is_pending = refl
