-- Names of patterns, matches, and guards.
use Rattle.std.proofs.Common.{◌≡◌, refl, [], ◌∷◌, pos}
use Rattle.std.specs.Prelude.{true, codes}
use Rattle.mir_base.specs.declared.operator.Cmp.{Cmp}
use Rattle.mir_base.specs.declared.trace.End.{End}
use Rattle.mir_base.specs.declared.trace.Event.TheVariants.{Call as call, Return as return, Make as make, Dropped as drop, Printed as printed, Asked as asked}
use Rattle.mir_ty.specs.declared.ty.Ty.{Ty}
use Rattle.mir_ty.specs.declared.ty.TyId.{TyId}
use Rattle.mir_ty.specs.ItemTable.{ItemTable}
use Rattle.typed_tree.specs.declared.node.Use.{Use}
use Rattle.typed_tree.specs.Tree.{no_node, no_field, absent, present, Number, Variable, Comparison, Call, Make, Tuple, Print, Ask, Block, Match, Arm, Wildcard, NumberPattern, VariantPattern, TuplePattern, OrPattern, BodyTree, ProgramTree}
use Rattle.src_meaning.specs.Programs.{source}
use Rattle.src_meaning.proofs.Examples.Words.{a_name, another_name, i32, unit, bool, n, used, nodes, fields, let_, stmt, body, param, ty_no, variant, enum, head}
use Rattle.src_meaning.proofs.Examples.WithD.{d_ty, d, drop_d, take, with_d}

abbrev tuple_d_d_ty : TyId
tuple_d_d_ty = ty_no 7

abbrev j_ty : TyId
j_ty = ty_no 8

abbrev tuple_i32_i32_ty : TyId
tuple_i32_i32_ty = ty_no 9

abbrev items : ItemTable
items = with_d (record {
  types = Ty.Tuple (d_ty ∷ d_ty ∷ []) ∷ Ty.Adt 1 ∷ Ty.Tuple (i32 ∷ i32 ∷ []) ∷ [];
  adts = enum (codes "J") (variant (codes "None") [] ∷ variant (codes "One") (d_ty ∷ i32 ∷ []) ∷ []) ∷ [];
  traits = [];
  impls = [];
  closures = [];
  bodies = head (codes "p") (tuple_d_d_ty ∷ tuple_d_d_ty ∷ []) unit ∷ head (codes "pair") [] tuple_d_d_ty ∷
      head (codes "main") [] unit ∷ [];
})

-- fn p((x, _): (D, D), (_, y): (D, D)) {}
abbrev p : BodyTree
p = body 2 (param (n 0 tuple_d_d_ty (TuplePattern (nodes ((used 1 d_ty Use.Move a_name) ∷ (n 2 d_ty Wildcard) ∷ []))))
    tuple_d_d_ty ∷ param (n 3 tuple_d_d_ty
    (TuplePattern (nodes ((n 4 d_ty Wildcard) ∷ (used 5 d_ty Use.Move another_name) ∷ [])))) tuple_d_d_ty ∷ []) unit
    (n 6 unit (Block no_node absent))

abbrev pair : BodyTree
pair = body 3 [] tuple_d_d_ty
    (n 0 tuple_d_d_ty (Block no_node (present (n 1 tuple_d_d_ty (Tuple (nodes ((d 2 (pos 1)) ∷ (d 4 (pos 2)) ∷ [])))))))

-- fn main() { p((D(1), D(2)), (D(3), D(4))); }
abbrev main_params : BodyTree
main_params = body 4 [] unit
    (n 0 unit (Block (nodes (
    (stmt 1 (n 2 unit (Call 2 (nodes (
    (n 3 tuple_d_d_ty (Tuple (nodes ((d 4 (pos 1)) ∷ (d 6 (pos 2)) ∷ []))))
    ∷ (n 8 tuple_d_d_ty (Tuple (nodes ((d 9 (pos 3)) ∷ (d 11 (pos 4)) ∷ []))))
    ∷ [])))))
    ∷ [])) absent))

abbrev pub params : ProgramTree
params = record { items = items; bodies = drop_d ∷ take ∷ p ∷ pair ∷ main_params ∷ [] }

names_of_parameters_are_entries_after_their_parameter : source params [] 100
    ≡ (
      call 4 ∷ make 0 1 ∷ make 0 2 ∷ make 0 3 ∷ make 0 4 ∷ call 2 ∷ drop 0 4 ∷ return 0 ∷ drop 0 3 ∷
          return 0 ∷ drop 0 1 ∷ return 0 ∷ drop 0 2 ∷ return 0 ∷ return 2 ∷ return 4 ∷ [],
      End.Returned,
    )
names_of_parameters_are_entries_after_their_parameter = refl

-- fn main() { let (a, _) = pair(); print(7); }
abbrev main_let : BodyTree
main_let = body 4 [] unit
    (n 0 unit (Block (nodes (
    (let_ 1 (n 2 tuple_d_d_ty (TuplePattern (nodes ((used 3 d_ty Use.Move a_name) ∷ (n 4 d_ty Wildcard) ∷ []))))
    (n 5 tuple_d_d_ty (Call 3 no_node)))
    ∷ (stmt 6 (n 7 unit (Print (n 8 i32 (Number (pos 7))))))
    ∷ [])) absent))

abbrev pub of_let : ProgramTree
of_let = record { items = items; bodies = drop_d ∷ take ∷ p ∷ pair ∷ main_let ∷ [] }

what_a_let_does_not_take_is_dropped_with_the_statement : source of_let [] 100
    ≡ (
      call 4 ∷ call 3 ∷ make 0 1 ∷ make 0 2 ∷ return 3 ∷ drop 0 2 ∷ return 0 ∷ printed (pos 7) ∷ drop 0 1 ∷
          return 0 ∷ return 4 ∷ [],
      End.Returned,
    )
what_a_let_does_not_take_is_dropped_with_the_statement = refl

-- fn main() { let j = J::One(D(1), 4); match j { J::One(d, n) if n == ask() => take(d), J::One(_, n) => print(n), J::None => {} } }
abbrev main_match : BodyTree
main_match = body 4 [] unit
    (n 0 unit (Block (nodes (
    (let_ 1 (used 2 j_ty Use.Move a_name)
    (n 3 j_ty (Make 1 1 (fields ((0, (d 4 (pos 1))) ∷ (1, (n 6 i32 (Number (pos 4)))) ∷ [])))))
    ∷ [])) (present (n 7 unit (Match (used 8 j_ty Use.Borrow (Variable 2)) (nodes (
    (n 9 unit (Arm (used 10 j_ty Use.Test
    (VariantPattern 1 true (fields ((0, (used 11 d_ty Use.Move a_name)) ∷ (1, (used 12 i32 Use.Copy another_name)) ∷
    [])))) (present (n 13 bool (Comparison Cmp.Eq (used 14 i32 Use.Copy (Variable 12)) (n 15 i32 Ask))))
    (n 16 unit (Call 1 (nodes ((used 17 d_ty Use.Move (Variable 11)) ∷ []))))))
    ∷ (n 18 unit (Arm (used 19 j_ty Use.Test
    (VariantPattern 1 true (fields ((0, (n 20 d_ty Wildcard)) ∷ (1, (used 21 i32 Use.Copy a_name)) ∷ [])))) absent
    (n 22 unit (Print (used 23 i32 Use.Copy (Variable 21))))))
    ∷ (n 24 unit (Arm (used 25 j_ty Use.Test (VariantPattern 0 true no_field)) absent
    (n 26 unit (Block no_node absent))))
    ∷ [])))))))

abbrev pub match_ : ProgramTree
match_ = record { items = items; bodies = drop_d ∷ take ∷ p ∷ pair ∷ main_match ∷ [] }

the_guard_holds : source match_ (pos 4 ∷ []) 100
    ≡ (call 4 ∷ make 0 1 ∷ asked (pos 4) ∷ call 1 ∷ drop 0 1 ∷ return 0 ∷ return 1 ∷ return 4 ∷ [], End.Returned)
the_guard_holds = refl

the_guard_fails : source match_ (pos 5 ∷ []) 100
    ≡ (call 4 ∷ make 0 1 ∷ asked (pos 5) ∷ printed (pos 4) ∷ drop 0 1 ∷ return 0 ∷ return 4 ∷ [], End.Returned)
the_guard_fails = refl

-- fn main() { match (1, 2) { (1, _) | (_, 2) if ask() == 0 => print(1), _ => print(2) } }
abbrev main_or : BodyTree
main_or = body 4 [] unit
    (n 0 unit (Block no_node (present (n 1 unit
    (Match (n 2 tuple_i32_i32_ty (Tuple (nodes ((n 3 i32 (Number (pos 1))) ∷ (n 4 i32 (Number (pos 2))) ∷ []))))
    (nodes (
    (n 5 unit (Arm (n 6 tuple_i32_i32_ty (OrPattern (nodes (
    (n 7 tuple_i32_i32_ty (TuplePattern
    (nodes ((used 8 i32 Use.Test (NumberPattern (pos 1))) ∷ (n 9 i32 Wildcard) ∷ []))))
    ∷ (n 10 tuple_i32_i32_ty (TuplePattern
    (nodes ((n 11 i32 Wildcard) ∷ (used 12 i32 Use.Test (NumberPattern (pos 2))) ∷ []))))
    ∷ [])))) (present (n 13 bool (Comparison Cmp.Eq (n 14 i32 Ask) (n 15 i32 (Number (pos 0))))))
    (n 16 unit (Print (n 17 i32 (Number (pos 1)))))))
    ∷ (n 18 unit (Arm (n 19 tuple_i32_i32_ty Wildcard) absent (n 20 unit (Print (n 21 i32 (Number (pos 2)))))))
    ∷ [])))))))

abbrev pub or_ : ProgramTree
or_ = record { items = items; bodies = drop_d ∷ take ∷ p ∷ pair ∷ main_or ∷ [] }

a_guard_is_evaluated_once : source or_ (pos 1 ∷ pos 0 ∷ []) 100
    ≡ (call 4 ∷ asked (pos 1) ∷ printed (pos 2) ∷ return 4 ∷ [], End.Returned)
a_guard_is_evaluated_once = refl
