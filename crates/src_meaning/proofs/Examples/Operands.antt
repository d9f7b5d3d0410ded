-- Operands and temporaries are dropped by age, whatever the exit is, and jumps leave an operand's scope.
use Rattle.std.proofs.Common.{◌≡◌, refl, [], ◌∷◌, pos}
use Rattle.std.specs.Prelude.{false, codes}
use Rattle.mir_base.specs.declared.trace.End.{End}
use Rattle.mir_base.specs.declared.trace.Event.TheVariants.{Call as call, Return as return, Unwind as unwind, Make as make, Dropped as drop, Panicked as panic}
use Rattle.mir_base.specs.declared.trace.Why.{Why}
use Rattle.mir_ty.specs.declared.ty.Ty.{Ty}
use Rattle.mir_ty.specs.declared.ty.TyId.{TyId}
use Rattle.mir_ty.specs.ItemTable.{ItemTable}
use Rattle.typed_tree.specs.declared.node.Use.{Use}
use Rattle.typed_tree.specs.Tree.{no_node, absent, present, Number, Call, Tuple, Panic, Borrow, Block, Loop, Break, BodyTree, ProgramTree}
use Rattle.src_meaning.specs.Programs.{source}
use Rattle.src_meaning.proofs.Examples.Words.{a_name, another_name, third_name, i32, unit, never, n, used, nodes, stmt, body, param, ty_no, head}
use Rattle.src_meaning.proofs.Examples.WithD.{d_ty, shared_d_ty, d, drop_d, take, with_d}

abbrev tuple_d_d_ty : TyId
tuple_d_d_ty = ty_no 7

abbrev tuple_d_d_tuple_d_d_d_ty : TyId
tuple_d_d_tuple_d_d_d_ty = ty_no 8

abbrev items : ItemTable
items = with_d (record {
  types = Ty.Tuple (d_ty ∷ d_ty ∷ never ∷ []) ∷ Ty.Tuple (d_ty ∷ d_ty ∷ tuple_d_d_ty ∷ d_ty ∷ []) ∷ [];
  adts = [];
  traits = [];
  impls = [];
  closures = [];
  bodies = head (codes "a") [] d_ty ∷ head (codes "t") [] d_ty ∷ head (codes "g") (shared_d_ty ∷ []) d_ty ∷
      head (codes "f") (d_ty ∷ d_ty ∷ d_ty ∷ []) unit ∷ head (codes "main") [] unit ∷
      head (codes "f2") (d_ty ∷ i32 ∷ i32 ∷ []) unit ∷ head (codes "g2") (shared_d_ty ∷ []) i32 ∷ [];
})

abbrev a : BodyTree
a = body 2 [] d_ty (n 0 d_ty (Block no_node (present (d 1 (pos 1)))))

abbrev t : BodyTree
t = body 3 [] d_ty (n 0 d_ty (Block no_node (present (d 1 (pos 2)))))

abbrev g : BodyTree
g = body 4 (param (used 0 shared_d_ty Use.Copy a_name) shared_d_ty ∷ []) d_ty
    (n 1 d_ty (Block no_node (present (d 2 (pos 3)))))

abbrev f : BodyTree
f = body 5 (param (used 0 d_ty Use.Move a_name) d_ty ∷ param (used 1 d_ty Use.Move another_name) d_ty ∷
    param (used 2 d_ty Use.Move third_name) d_ty ∷ []) unit
    (n 3 unit (Block no_node absent))

-- fn f2(x: D, n: i32, k: i32) {}
abbrev f2 : BodyTree
f2 = body 7 (param (used 0 d_ty Use.Move a_name) d_ty ∷ param (used 1 i32 Use.Copy another_name) i32 ∷
    param (used 2 i32 Use.Copy third_name) i32 ∷ []) unit
    (n 3 unit (Block no_node absent))

-- fn g2(r: &D) -> i32 { 0 }
abbrev g2 : BodyTree
g2 = body 8 (param (used 0 shared_d_ty Use.Copy a_name) shared_d_ty ∷ []) i32
    (n 1 i32 (Block no_node (present (n 2 i32 (Number (pos 0))))))

-- fn main() { loop { (D(1), D(2), (D(3), D(4), break), D(5)); } }
abbrev main_loop : BodyTree
main_loop = body 6 [] unit
    (n 0 unit (Block no_node (present (n 1 unit (Loop (n 2 unit (Block (nodes (
    (stmt 3 (n 4 tuple_d_d_tuple_d_d_d_ty (Tuple (nodes (
    (d 5 (pos 1))
    ∷ (d 7 (pos 2))
    ∷ (n 9 tuple_d_d_ty (Tuple (nodes ((d 10 (pos 3)) ∷ (d 12 (pos 4)) ∷ (n 14 never (Break 1 absent)) ∷ []))))
    ∷ (d 15 (pos 5))
    ∷ [])))))
    ∷ [])) absent)))))))

abbrev pub break_in_operands : ProgramTree
break_in_operands = record { items = items; bodies = drop_d ∷ take ∷ a ∷ t ∷ g ∷ f ∷ main_loop ∷ f2 ∷ g2 ∷ [] }

break_drops_operands : source break_in_operands [] 100
    ≡ (
      call 6 ∷ make 0 1 ∷ make 0 2 ∷ make 0 3 ∷ make 0 4 ∷ drop 0 4 ∷ return 0 ∷ drop 0 3 ∷ return 0 ∷
          drop 0 2 ∷ return 0 ∷ drop 0 1 ∷ return 0 ∷ return 6 ∷ [],
      End.Returned,
    )
break_drops_operands = refl

-- fn main() { f(a(), g(&t()), panic!()); }
abbrev main_panic : BodyTree
main_panic = body 6 [] unit
    (n 0 unit (Block (nodes (
    (stmt 1 (n 2 unit (Call 5 (nodes (
    (n 3 d_ty (Call 2 no_node))
    ∷ (n 4 d_ty (Call 4 (nodes ((n 5 shared_d_ty (Borrow false (n 6 d_ty (Call 3 no_node)))) ∷ []))))
    ∷ (n 7 never Panic)
    ∷ [])))))
    ∷ [])) absent))

abbrev pub panic_in_operands : ProgramTree
panic_in_operands = record { items = items; bodies = drop_d ∷ take ∷ a ∷ t ∷ g ∷ f ∷ main_panic ∷ f2 ∷ g2 ∷ [] }

a_panic_drops_operands_before_temporaries_of_the_statement : source panic_in_operands [] 100
    ≡ (
      call 6 ∷ call 2 ∷ make 0 1 ∷ return 2 ∷ call 3 ∷ make 0 2 ∷ return 3 ∷ call 4 ∷ make 0 3 ∷ return 4 ∷
          panic Why.Explicit ∷ drop 0 3 ∷ return 0 ∷ drop 0 1 ∷ return 0 ∷ drop 0 2 ∷ return 0 ∷ unwind 6 ∷ [],
      End.Panicked,
    )
a_panic_drops_operands_before_temporaries_of_the_statement = refl

-- fn main() { f2(D(6), g2(&D(7)), panic!()) }
abbrev main_tail : BodyTree
main_tail = body 6 [] unit
    (n 0 unit (Block no_node (present (n 1 unit (Call 7 (nodes (
    (d 2 (pos 6))
    ∷ (n 4 i32 (Call 8 (nodes ((n 5 shared_d_ty (Borrow false (d 6 (pos 7)))) ∷ []))))
    ∷ (n 8 never Panic)
    ∷ [])))))))

abbrev pub panic_in_a_tail : ProgramTree
panic_in_a_tail = record { items = items; bodies = drop_d ∷ take ∷ a ∷ t ∷ g ∷ f ∷ main_tail ∷ f2 ∷ g2 ∷ [] }

operands_and_temporaries_of_one_node_go_by_age : source panic_in_a_tail [] 100
    ≡ (
      call 6 ∷ make 0 1 ∷ make 0 2 ∷ call 8 ∷ return 8 ∷ panic Why.Explicit ∷ drop 0 2 ∷ return 0 ∷
          drop 0 1 ∷ return 0 ∷ unwind 6 ∷ [],
      End.Panicked,
    )
operands_and_temporaries_of_one_node_go_by_age = refl
