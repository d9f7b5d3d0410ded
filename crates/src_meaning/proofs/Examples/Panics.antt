-- Destructors that panic: the rest is dropped while unwinding, and a second panic aborts.
use Rattle.std.proofs.Common.{◌≡◌, refl, [], ◌∷◌, pos, negsuc}
use Rattle.std.specs.Prelude.{None, codes}
use Rattle.mir_base.specs.declared.trace.End.{End}
use Rattle.mir_base.specs.declared.trace.Event.TheVariants.{Call as call, Return as return, Unwind as unwind, Make as make, Dropped as drop, Panicked as panic}
use Rattle.mir_base.specs.declared.trace.Why.{Why}
use Rattle.mir_ty.specs.declared.ty.Ty.{Ty}
use Rattle.mir_ty.specs.declared.ty.TyId.{TyId}
use Rattle.mir_ty.specs.ItemTable.{ItemTable}
use Rattle.typed_tree.specs.declared.node.Use.{Use}
use Rattle.typed_tree.specs.Tree.{no_node, absent, present, Variable, Assign, Call, Make, Block, BodyTree, ProgramTree}
use Rattle.src_meaning.specs.Programs.{source}
use Rattle.src_meaning.proofs.Examples.Words.{a_name, unit, n, used, nodes, fields, let_, stmt, body, param, ty_no, struct, head}
use Rattle.src_meaning.proofs.Examples.WithN.{n_ty, nn, drop_n, with_n}

abbrev s_ty : TyId
s_ty = ty_no 6

abbrev items : ItemTable
items = with_n (record {
  types = Ty.Adt 1 ∷ [];
  adts = struct (codes "S") (n_ty ∷ n_ty ∷ n_ty ∷ []) None ∷ [];
  traits = [];
  impls = [];
  closures = [];
  bodies = head (codes "h") (n_ty ∷ []) n_ty ∷ head (codes "main") [] unit ∷ [];
})

-- fn h(p: N) -> N { N(5) }
abbrev h : BodyTree
h = body 1 (param (used 0 n_ty Use.Move a_name) n_ty ∷ []) n_ty (n 1 n_ty (Block no_node (present (nn 2 (pos 5)))))

-- fn main() { let s = S { a: N(-1), b: N(2), c: N(3) }; }
abbrev main_struct : BodyTree
main_struct = body 2 [] unit
    (n 0 unit (Block (nodes (
    (let_ 1 (used 2 s_ty Use.Move a_name)
    (n 3 s_ty (Make 1 0 (fields ((0, (nn 4 (negsuc 0))) ∷ (1, (nn 6 (pos 2))) ∷ (2, (nn 8 (pos 3))) ∷ [])))))
    ∷ [])) absent))

-- fn main() { let s = S { a: N(-1), b: N(-2), c: N(3) }; }
abbrev main_twice : BodyTree
main_twice = body 2 [] unit
    (n 0 unit (Block (nodes (
    (let_ 1 (used 2 s_ty Use.Move a_name)
    (n 3 s_ty (Make 1 0 (fields ((0, (nn 4 (negsuc 0))) ∷ (1, (nn 6 (negsuc 1))) ∷ (2, (nn 8 (pos 3))) ∷ [])))))
    ∷ [])) absent))

abbrev pub struct_ : ProgramTree
struct_ = record { items = items; bodies = drop_n ∷ h ∷ main_struct ∷ [] }

abbrev pub twice : ProgramTree
twice = record { items = items; bodies = drop_n ∷ h ∷ main_twice ∷ [] }

the_rest_of_a_value_is_dropped : source struct_ [] 100
    ≡ (
      call 2 ∷ make 0 1 ∷ make 0 2 ∷ make 0 3 ∷ drop 0 1 ∷ panic Why.Explicit ∷ unwind 0 ∷ drop 0 2 ∷
          return 0 ∷ drop 0 3 ∷ return 0 ∷ unwind 2 ∷ [],
      End.Panicked,
    )
the_rest_of_a_value_is_dropped = refl

a_second_panic_aborts : source twice [] 100
    ≡ (
      call 2 ∷ make 0 1 ∷ make 0 2 ∷ make 0 3 ∷ drop 0 1 ∷ panic Why.Explicit ∷ unwind 0 ∷ drop 0 2 ∷
          panic Why.Explicit ∷ unwind 0 ∷ [],
      End.Aborted,
    )
a_second_panic_aborts = refl

-- fn main() { let mut x = N(-1); x = N(2); }
abbrev main_assign : BodyTree
main_assign = body 2 [] unit
    (n 0 unit (Block (nodes (
    (let_ 1 (used 2 n_ty Use.Move a_name) (nn 3 (negsuc 0)))
    ∷ (stmt 5 (n 6 unit (Assign (used 7 n_ty Use.Store (Variable 2)) (nn 8 (pos 2)))))
    ∷ [])) absent))

abbrev pub assigned : ProgramTree
assigned = record { items = items; bodies = drop_n ∷ h ∷ main_assign ∷ [] }

the_new_value_is_stored_all_the_same : source assigned [] 100
    ≡ (
      call 2 ∷ make 0 1 ∷ make 0 2 ∷ drop 0 1 ∷ panic Why.Explicit ∷ unwind 0 ∷ drop 0 2 ∷ return 0 ∷
          unwind 2 ∷ [],
      End.Panicked,
    )
the_new_value_is_stored_all_the_same = refl

-- fn main() { h(N(-1)); }
abbrev main_result : BodyTree
main_result = body 2 [] unit (n 0 unit
    (Block (nodes ((stmt 1 (n 2 n_ty (Call 1 (nodes ((nn 3 (negsuc 0)) ∷ []))))) ∷ [])) absent))

abbrev pub result : ProgramTree
result = record { items = items; bodies = drop_n ∷ h ∷ main_result ∷ [] }

a_result_is_dropped_after_the_parameters : source result [] 100
    ≡ (
      call 2 ∷ make 0 1 ∷ call 1 ∷ make 0 2 ∷ drop 0 1 ∷ panic Why.Explicit ∷ unwind 0 ∷ drop 0 2 ∷
          return 0 ∷ unwind 1 ∷ unwind 2 ∷ [],
      End.Panicked,
    )
a_result_is_dropped_after_the_parameters = refl

-- fn main() { let x = { let y = N(-1); N(7) }; }
abbrev main_pending : BodyTree
main_pending = body 2 [] unit
    (n 0 unit (Block (nodes (
    (let_ 1 (used 2 n_ty Use.Move a_name)
    (n 3 n_ty (Block (nodes ((let_ 4 (used 5 n_ty Use.Move a_name) (nn 6 (negsuc 0))) ∷ []))
    (present (nn 8 (pos 7))))))
    ∷ [])) absent))

abbrev pub pending : ProgramTree
pending = record { items = items; bodies = drop_n ∷ h ∷ main_pending ∷ [] }

a_pending_destination_is_dropped : source pending [] 100
    ≡ (
      call 2 ∷ make 0 1 ∷ make 0 2 ∷ drop 0 1 ∷ panic Why.Explicit ∷ unwind 0 ∷ drop 0 2 ∷ return 0 ∷
          unwind 2 ∷ [],
      End.Panicked,
    )
a_pending_destination_is_dropped = refl
