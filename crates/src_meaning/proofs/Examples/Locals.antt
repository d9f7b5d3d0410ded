-- Locals are dropped in the reverse order of their declaration, and ticks end a run at once.
use Rattle.std.proofs.Common.{◌≡◌, refl, [], ◌∷◌, pos}
use Rattle.std.specs.Prelude.{codes}
use Rattle.mir_base.specs.declared.trace.End.{End}
use Rattle.mir_base.specs.declared.trace.Event.TheVariants.{Call as call, Return as return, Make as make, Dropped as drop}
use Rattle.mir_ty.specs.ItemTable.{ItemTable}
use Rattle.typed_tree.specs.declared.node.Use.{Use}
use Rattle.typed_tree.specs.Tree.{absent, Variable, Assign, Call, Block, BodyTree, ProgramTree}
use Rattle.src_meaning.specs.Programs.{source}
use Rattle.src_meaning.proofs.Examples.Words.{a_name, unit, n, used, nodes, let_, stmt, body, head}
use Rattle.src_meaning.proofs.Examples.WithD.{d_ty, d, drop_d, take, with_d}

abbrev items : ItemTable
items = with_d (record {
  types = [];
  adts = [];
  traits = [];
  impls = [];
  closures = [];
  bodies = head (codes "main") [] unit ∷ [];
})

-- fn main() { let a = D(1); let b = D(2); }
abbrev main_two : BodyTree
main_two = body 2 [] unit
    (n 0 unit (Block (nodes (
    (let_ 1 (used 2 d_ty Use.Move a_name) (d 3 (pos 1)))
    ∷ (let_ 5 (used 6 d_ty Use.Move a_name) (d 7 (pos 2)))
    ∷ [])) absent))

abbrev pub two : ProgramTree
two = record { items = items; bodies = drop_d ∷ take ∷ main_two ∷ [] }

the_younger_first : source two [] 100
    ≡ (call 2 ∷ make 0 1 ∷ make 0 2 ∷ drop 0 2 ∷ return 0 ∷ drop 0 1 ∷ return 0 ∷ return 2 ∷ [], End.Returned)
the_younger_first = refl

in_three_ticks : source two [] 3
    ≡ (call 2 ∷ make 0 1 ∷ make 0 2 ∷ drop 0 2 ∷ return 0 ∷ drop 0 1 ∷ return 0 ∷ return 2 ∷ [], End.Returned)
in_three_ticks = refl

out_of_ticks_in_the_second_destructor : source two [] 2
    ≡ (call 2 ∷ make 0 1 ∷ make 0 2 ∷ drop 0 2 ∷ return 0 ∷ [], End.OutOfTicks)
out_of_ticks_in_the_second_destructor = refl

out_of_ticks_at_once : source two [] 0
    ≡ ([], End.OutOfTicks)
out_of_ticks_at_once = refl

-- fn main() { let mut x = D(1); take(x); x = D(2); take(x); }
abbrev pub main_again : BodyTree
main_again = body 2 [] unit
    (n 0 unit (Block (nodes (
    (let_ 1 (used 2 d_ty Use.Move a_name) (d 3 (pos 1)))
    ∷ (stmt 5 (n 6 unit (Call 1 (nodes ((used 7 d_ty Use.Move (Variable 2)) ∷ [])))))
    ∷ (stmt 8 (n 9 unit (Assign (used 10 d_ty Use.Store (Variable 2)) (d 11 (pos 2)))))
    ∷ (stmt 13 (n 14 unit (Call 1 (nodes ((used 15 d_ty Use.Move (Variable 2)) ∷ [])))))
    ∷ [])) absent))

abbrev pub again : ProgramTree
again = record { items = items; bodies = drop_d ∷ take ∷ main_again ∷ [] }

a_moved_variable_is_assigned_again : source again [] 100
    ≡ (
      call 2 ∷ make 0 1 ∷ call 1 ∷ drop 0 1 ∷ return 0 ∷ return 1 ∷ make 0 2 ∷ call 1 ∷ drop 0 2 ∷
          return 0 ∷ return 1 ∷ return 2 ∷ [],
      End.Returned,
    )
a_moved_variable_is_assigned_again = refl
