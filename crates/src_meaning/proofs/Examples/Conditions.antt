-- A value that is moved on one way, and what is left on the others.
use Rattle.std.proofs.Common.{◌≡◌, refl, [], ◌∷◌, pos}
use Rattle.std.specs.Prelude.{codes}
use Rattle.mir_base.specs.declared.operator.Cmp.{Cmp}
use Rattle.mir_base.specs.declared.trace.End.{End}
use Rattle.mir_base.specs.declared.trace.Event.TheVariants.{Call as call, Return as return, Unwind as unwind, Make as make, Dropped as drop, Asked as asked, Panicked as panic}
use Rattle.mir_base.specs.declared.trace.Why.{Why}
use Rattle.mir_ty.specs.ItemTable.{ItemTable}
use Rattle.typed_tree.specs.declared.node.Use.{Use}
use Rattle.typed_tree.specs.Tree.{absent, present, Number, Variable, Comparison, Call, Ask, Block, If, BodyTree, ProgramTree}
use Rattle.src_meaning.specs.Programs.{source}
use Rattle.src_meaning.proofs.Examples.Words.{a_name, i32, unit, bool, n, used, nodes, let_, stmt, body, head}
use Rattle.src_meaning.proofs.Examples.WithD.{d_ty, d, drop_d, take, with_d}

abbrev pub items : ItemTable
items = with_d (record {
  types = [];
  adts = [];
  traits = [];
  impls = [];
  closures = [];
  bodies = head (codes "main") [] unit ∷ [];
})

-- fn main() { let x = D(1); if ask() == 0 { take(x); } }
abbrev pub main_if : BodyTree
main_if = body 2 [] unit
    (n 0 unit (Block (nodes ((let_ 1 (used 2 d_ty Use.Move a_name) (d 3 (pos 1))) ∷ []))
    (present (n 5 unit (If (n 6 bool (Comparison Cmp.Eq (n 7 i32 Ask) (n 8 i32 (Number (pos 0)))))
    (n 9 unit (Block (nodes ((stmt 10 (n 11 unit (Call 1 (nodes ((used 12 d_ty Use.Move (Variable 2)) ∷ []))))) ∷
    [])) absent)) absent)))))

abbrev pub moved_if : ProgramTree
moved_if = record { items = items; bodies = drop_d ∷ take ∷ main_if ∷ [] }

moved : source moved_if (pos 0 ∷ []) 100
    ≡ (call 2 ∷ make 0 1 ∷ asked (pos 0) ∷ call 1 ∷ drop 0 1 ∷ return 0 ∷ return 1 ∷ return 2 ∷ [], End.Returned)
moved = refl

kept : source moved_if (pos 1 ∷ []) 100
    ≡ (call 2 ∷ make 0 1 ∷ asked (pos 1) ∷ drop 0 1 ∷ return 0 ∷ return 2 ∷ [], End.Returned)
kept = refl

unwound : source moved_if [] 100
    ≡ (call 2 ∷ make 0 1 ∷ panic Why.Ask ∷ drop 0 1 ∷ return 0 ∷ unwind 2 ∷ [], End.Panicked)
unwound = refl
