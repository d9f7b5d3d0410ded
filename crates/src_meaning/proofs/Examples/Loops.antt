-- Jumps out of loops, and what a turn holds.
use Rattle.std.proofs.Common.{◌≡◌, refl, [], ◌∷◌, pos}
use Rattle.std.specs.Prelude.{true, false, codes}
use Rattle.mir_base.specs.declared.operator.Cmp.{Cmp}
use Rattle.mir_base.specs.declared.trace.End.{End}
use Rattle.mir_base.specs.declared.trace.Event.TheVariants.{Call as call, Return as return, Make as make, Dropped as drop, Printed as printed, Asked as asked}
use Rattle.mir_ty.specs.declared.ty.Ty.{Ty}
use Rattle.mir_ty.specs.declared.ty.TyId.{TyId}
use Rattle.mir_ty.specs.ItemTable.{ItemTable}
use Rattle.typed_tree.specs.declared.node.Use.{Use}
use Rattle.typed_tree.specs.Tree.{no_node, no_field, absent, present, Number, Variable, Field, Deref, Comparison, Call, Make, Print, Ask, Borrow, Block, If, Loop, While, WhileLet, Break, Continue, VariantPattern, BodyTree, ProgramTree}
use Rattle.src_meaning.specs.Programs.{source}
use Rattle.src_meaning.proofs.Examples.Words.{a_name, i32, unit, bool, never, n, used, nodes, fields, let_, stmt, body, param, ty_no, variant, enum, head}
use Rattle.src_meaning.proofs.Examples.WithD.{d_ty, shared_d_ty, d, drop_d, take, with_d}

abbrev j_ty : TyId
j_ty = ty_no 7

abbrev items : ItemTable
items = with_d (record {
  types = Ty.Adt 1 ∷ [];
  adts = enum (codes "J") (variant (codes "None") [] ∷ variant (codes "One") (i32 ∷ []) ∷ []) ∷ [];
  traits = [];
  impls = [];
  closures = [];
  bodies = head (codes "main") [] unit ∷ head (codes "j") (shared_d_ty ∷ []) j_ty ∷ [];
})

-- fn main() { let x = 'a: loop { let y = D(1); loop { break 'a 7; } }; print(x); }
abbrev main_break : BodyTree
main_break = body 2 [] unit
    (n 0 unit (Block (nodes (
    (let_ 1 (used 2 i32 Use.Copy a_name)
    (n 3 i32 (Loop (n 4 never (Block (nodes ((let_ 5 (used 6 d_ty Use.Move a_name) (d 7 (pos 1))) ∷ []))
    (present (n 9 never (Loop (n 10 never
    (Block (nodes ((stmt 11 (n 12 never (Break 3 (present (n 13 i32 (Number (pos 7))))))) ∷ [])) absent))))))))))
    ∷ (stmt 14 (n 15 unit (Print (used 16 i32 Use.Copy (Variable 2)))))
    ∷ [])) absent))

-- fn j(r: &D) -> J { if ask() == 0 { J::One(r.0) } else { J::None } }
abbrev j : BodyTree
j = body 3 (param (used 0 shared_d_ty Use.Copy a_name) shared_d_ty ∷ []) j_ty
    (n 1 j_ty (Block no_node (present (n 2 j_ty
    (If (n 3 bool (Comparison Cmp.Eq (n 4 i32 Ask) (n 5 i32 (Number (pos 0)))))
    (n 6 j_ty (Block no_node (present
    (n 7 j_ty (Make 1 1 (fields
    ((0, (used 8 i32 Use.Copy (Field (n 9 d_ty (Deref (n 10 shared_d_ty (Variable 0)))) 0))) ∷ [])))))))
    (present (n 11 j_ty (Block no_node (present (n 12 j_ty (Make 1 0 no_field)))))))))))

abbrev pub breaking : ProgramTree
breaking = record { items = items; bodies = drop_d ∷ take ∷ main_break ∷ j ∷ [] }

a_break_out_of_two_loops : source breaking [] 4
    ≡ (call 2 ∷ make 0 1 ∷ drop 0 1 ∷ return 0 ∷ printed (pos 7) ∷ return 2 ∷ [], End.Returned)
a_break_out_of_two_loops = refl

in_no_less_than_four_ticks : source breaking [] 3
    ≡ (call 2 ∷ make 0 1 ∷ [], End.OutOfTicks)
in_no_less_than_four_ticks = refl

-- fn main() { while let J::One(b) = j(&D(7)) { print(b); } }
abbrev main_while_let : BodyTree
main_while_let = body 2 [] unit
    (n 0 unit (Block no_node (present (n 1 unit
    (WhileLet (used 2 j_ty Use.Test (VariantPattern 1 true (fields ((0, (used 3 i32 Use.Copy a_name)) ∷ []))))
    (n 4 j_ty (Call 3 (nodes ((n 5 shared_d_ty (Borrow false (d 6 (pos 7)))) ∷ []))))
    (n 8 unit (Block (nodes ((stmt 9 (n 10 unit (Print (used 11 i32 Use.Copy (Variable 3))))) ∷ [])) absent)))))))

abbrev pub while_let : ProgramTree
while_let = record { items = items; bodies = drop_d ∷ take ∷ main_while_let ∷ j ∷ [] }

temporaries_live_to_the_end_of_the_turn : source while_let (pos 0 ∷ pos 1 ∷ []) 100
    ≡ (
      call 2 ∷ make 0 1 ∷ call 3 ∷ asked (pos 0) ∷ return 3 ∷ printed (pos 7) ∷ drop 0 1 ∷ return 0 ∷
          make 0 2 ∷ call 3 ∷ asked (pos 1) ∷ return 3 ∷ drop 0 2 ∷ return 0 ∷ return 2 ∷ [],
      End.Returned,
    )
temporaries_live_to_the_end_of_the_turn = refl

-- fn main() { while ask() == 0 { let x = D(1); continue; } }
abbrev main_continue : BodyTree
main_continue = body 2 [] unit
    (n 0 unit (Block no_node (present (n 1 unit
    (While (n 2 bool (Comparison Cmp.Eq (n 3 i32 Ask) (n 4 i32 (Number (pos 0)))))
    (n 5 never (Block (nodes ((let_ 6 (used 7 d_ty Use.Move a_name) (d 8 (pos 1))) ∷
    (stmt 10 (n 11 never (Continue 1))) ∷ [])) absent)))))))

abbrev pub continuing : ProgramTree
continuing = record { items = items; bodies = drop_d ∷ take ∷ main_continue ∷ j ∷ [] }

a_continue_leaves_the_body : source continuing (pos 0 ∷ pos 0 ∷ pos 1 ∷ []) 100
    ≡ (
      call 2 ∷ asked (pos 0) ∷ make 0 1 ∷ drop 0 1 ∷ return 0 ∷ asked (pos 0) ∷ make 0 2 ∷ drop 0 2 ∷
          return 0 ∷ asked (pos 1) ∷ return 2 ∷ [],
      End.Returned,
    )
a_continue_leaves_the_body = refl
