-- Where the temporaries of a tail, of a condition and of `if let` are dropped.
use Rattle.std.proofs.Common.{◌≡◌, refl, [], ◌∷◌, pos}
use Rattle.std.specs.Prelude.{true, false, codes}
use Rattle.mir_base.specs.declared.operator.Cmp.{Cmp}
use Rattle.mir_base.specs.declared.trace.End.{End}
use Rattle.mir_base.specs.declared.trace.Event.TheVariants.{Call as call, Return as return, Make as make, Dropped as drop, Printed as printed}
use Rattle.mir_ty.specs.declared.ty.Ty.{Ty}
use Rattle.mir_ty.specs.declared.ty.TyId.{TyId}
use Rattle.mir_ty.specs.ItemTable.{ItemTable}
use Rattle.typed_tree.specs.declared.node.Use.{Use}
use Rattle.typed_tree.specs.Tree.{no_node, no_field, absent, present, Number, Comparison, Call, Make, Print, Borrow, Block, If, IfLet, Match, Arm, Wildcard, NumberPattern, VariantPattern, BodyTree, ProgramTree}
use Rattle.src_meaning.specs.Programs.{source}
use Rattle.src_meaning.proofs.Examples.Words.{a_name, i32, unit, bool, n, used, nodes, fields, let_, stmt, body, param, ty_no, variant, enum, head}
use Rattle.src_meaning.proofs.Examples.WithD.{d_ty, shared_d_ty, d, drop_d, take, with_d}

abbrev j_ty : TyId
j_ty = ty_no 7

abbrev items : ItemTable
items = with_d (record {
  types = Ty.Adt 1 ∷ [];
  adts = enum (codes "J") (variant (codes "None") [] ∷ variant (codes "One") (i32 ∷ []) ∷ []) ∷ [];
  traits = [];
  impls = [];
  closures = [];
  bodies = head (codes "g") (shared_d_ty ∷ []) i32 ∷ head (codes "h") [] i32 ∷ head (codes "main") [] unit ∷
      head (codes "j") (shared_d_ty ∷ []) j_ty ∷ [];
})

abbrev g : BodyTree
g = body 2 (param (used 0 shared_d_ty Use.Copy a_name) shared_d_ty ∷ []) i32
    (n 1 i32 (Block no_node (present (n 2 i32 (Number (pos 5))))))

-- fn h() -> i32 { let x = D(1); g(&D(2)) }
abbrev h : BodyTree
h = body 3 [] i32
    (n 0 i32 (Block (nodes ((let_ 1 (used 2 d_ty Use.Move a_name) (d 3 (pos 1))) ∷ []))
    (present (n 5 i32 (Call 2 (nodes ((n 6 shared_d_ty (Borrow false (d 7 (pos 2)))) ∷ [])))))))

abbrev main_h : BodyTree
main_h = body 4 [] unit (n 0 unit (Block (nodes ((stmt 1 (n 2 unit (Print (n 3 i32 (Call 3 no_node))))) ∷ [])) absent))

-- fn j(r: &D) -> J { J::None }
abbrev j : BodyTree
j = body 5 (param (used 0 shared_d_ty Use.Copy a_name) shared_d_ty ∷ []) j_ty
    (n 1 j_ty (Block no_node (present (n 2 j_ty (Make 1 0 no_field)))))

abbrev pub tail : ProgramTree
tail = record { items = items; bodies = drop_d ∷ take ∷ g ∷ h ∷ main_h ∷ j ∷ [] }

of_a_tail_before_the_locals : source tail [] 100
    ≡ (
      call 4 ∷ call 3 ∷ make 0 1 ∷ make 0 2 ∷ call 2 ∷ return 2 ∷ drop 0 2 ∷ return 0 ∷ drop 0 1 ∷
          return 0 ∷ return 3 ∷ printed (pos 5) ∷ return 4 ∷ [],
      End.Returned,
    )
of_a_tail_before_the_locals = refl

-- fn main() { if let J::One(b) = j(&D(1)) { print(1); } else { print(2); } }
abbrev main_if_let : BodyTree
main_if_let = body 4 [] unit
    (n 0 unit (Block no_node (present (n 1 unit
    (IfLet (used 2 j_ty Use.Test (VariantPattern 1 true (fields ((0, (used 3 i32 Use.Copy a_name)) ∷ []))))
    (n 4 j_ty (Call 5 (nodes ((n 5 shared_d_ty (Borrow false (d 6 (pos 1)))) ∷ []))))
    (n 8 unit (Block (nodes ((stmt 9 (n 10 unit (Print (n 11 i32 (Number (pos 1)))))) ∷ [])) absent))
    (present (n 12 unit (Block (nodes ((stmt 13 (n 14 unit (Print (n 15 i32 (Number (pos 2)))))) ∷ []))
    absent))))))))

abbrev pub if_let : ProgramTree
if_let = record { items = items; bodies = drop_d ∷ take ∷ g ∷ h ∷ main_if_let ∷ j ∷ [] }

of_if_let_before_the_else_block : source if_let [] 100
    ≡ (call 4 ∷ make 0 1 ∷ call 5 ∷ return 5 ∷ drop 0 1 ∷ return 0 ∷ printed (pos 2) ∷ return 4 ∷ [], End.Returned)
of_if_let_before_the_else_block = refl

-- fn main() { if g(&D(1)) == 5 { print(1); } }
abbrev main_if : BodyTree
main_if = body 4 [] unit
    (n 0 unit (Block no_node (present (n 1 unit
    (If (n 2 bool (Comparison Cmp.Eq (n 3 i32
    (Call 2 (nodes ((n 4 shared_d_ty (Borrow false (d 5 (pos 1)))) ∷ [])))) (n 7 i32 (Number (pos 5)))))
    (n 8 unit (Block (nodes ((stmt 9 (n 10 unit (Print (n 11 i32 (Number (pos 1)))))) ∷ [])) absent)) absent)))))

abbrev pub if_ : ProgramTree
if_ = record { items = items; bodies = drop_d ∷ take ∷ g ∷ h ∷ main_if ∷ j ∷ [] }

of_a_condition_before_the_branch : source if_ [] 100
    ≡ (call 4 ∷ make 0 1 ∷ call 2 ∷ return 2 ∷ drop 0 1 ∷ return 0 ∷ printed (pos 1) ∷ return 4 ∷ [], End.Returned)
of_a_condition_before_the_branch = refl

-- fn main() { match g(&D(1)) { 5 => { print(1); }, _ => {} }; }
abbrev main_match : BodyTree
main_match = body 4 [] unit
    (n 0 unit (Block (nodes (
    (stmt 1 (n 2 unit (Match (n 3 i32 (Call 2 (nodes ((n 4 shared_d_ty (Borrow false (d 5 (pos 1)))) ∷ [])))) (nodes (
    (n 7 unit (Arm (used 8 i32 Use.Test (NumberPattern (pos 5))) absent
    (n 9 unit (Block (nodes ((stmt 10 (n 11 unit (Print (n 12 i32 (Number (pos 1)))))) ∷ [])) absent))))
    ∷ (n 13 unit (Arm (n 14 i32 Wildcard) absent (n 15 unit (Block no_node absent))))
    ∷ [])))))
    ∷ [])) absent))

abbrev pub match_ : ProgramTree
match_ = record { items = items; bodies = drop_d ∷ take ∷ g ∷ h ∷ main_match ∷ j ∷ [] }

of_a_scrutinee_after_the_match : source match_ [] 100
    ≡ (call 4 ∷ make 0 1 ∷ call 2 ∷ return 2 ∷ printed (pos 1) ∷ drop 0 1 ∷ return 0 ∷ return 4 ∷ [], End.Returned)
of_a_scrutinee_after_the_match = refl
