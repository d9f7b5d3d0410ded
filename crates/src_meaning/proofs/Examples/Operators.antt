-- Bounds and overflow panic, and what is held is dropped.
use Rattle.std.proofs.Common.{◌≡◌, refl, [], ◌∷◌, pos, negsuc}
use Rattle.std.specs.Prelude.{codes}
use Rattle.mir_base.specs.declared.int_kind.IntKind.{IntKind}
use Rattle.mir_base.specs.declared.operator.Math.{Math}
use Rattle.mir_base.specs.declared.trace.End.{End}
use Rattle.mir_base.specs.declared.trace.Event.TheVariants.{Call as call, Return as return, Unwind as unwind, Make as make, Dropped as drop, Printed as printed, Asked as asked, Panicked as panic}
use Rattle.mir_base.specs.declared.trace.Why.{Why}
use Rattle.mir_ty.specs.declared.ty.Ty.{Ty}
use Rattle.mir_ty.specs.declared.ty.TyId.{TyId}
use Rattle.mir_ty.specs.ItemTable.{ItemTable}
use Rattle.typed_tree.specs.declared.node.Use.{Use}
use Rattle.typed_tree.specs.Tree.{absent, Number, Variable, Field, Index, Arithmetic, Array, Print, Ask, Block, BodyTree, ProgramTree}
use Rattle.src_meaning.specs.Programs.{source}
use Rattle.src_meaning.proofs.Examples.Words.{a_name, i32, unit, n, used, nodes, let_, stmt, body, ty_no, head}
use Rattle.src_meaning.proofs.Examples.WithD.{d_ty, d, drop_d, take, with_d}

abbrev array_d_2_ty : TyId
array_d_2_ty = ty_no 7

abbrev usize : TyId
usize = ty_no 8

abbrev items : ItemTable
items = with_d (record {
  types = Ty.Array d_ty 2 ∷ Ty.Int IntKind.Usize ∷ [];
  adts = [];
  traits = [];
  impls = [];
  closures = [];
  bodies = head (codes "main") [] unit ∷ [];
})

-- fn main() { let a = [D(5), D(6)]; let i: usize = 2; print(a[i].0); }
abbrev main_index : BodyTree
main_index = body 2 [] unit
    (n 0 unit (Block (nodes (
    (let_ 1 (used 2 array_d_2_ty Use.Move a_name)
    (n 3 array_d_2_ty (Array (nodes ((d 4 (pos 5)) ∷ (d 6 (pos 6)) ∷ [])))))
    ∷ (let_ 8 (used 9 usize Use.Copy a_name) (n 10 usize (Number (pos 2))))
    ∷ (stmt 11 (n 12 unit (Print (used 13 i32 Use.Copy
    (Field (n 14 d_ty (Index (n 15 array_d_2_ty (Variable 2)) (used 16 usize Use.Copy (Variable 9)) 2)) 0)))))
    ∷ [])) absent))

abbrev pub past_the_end : ProgramTree
past_the_end = record { items = items; bodies = drop_d ∷ take ∷ main_index ∷ [] }

an_index_past_the_end : source past_the_end [] 100
    ≡ (
      call 2 ∷ make 0 1 ∷ make 0 2 ∷ panic Why.Index ∷ drop 0 1 ∷ return 0 ∷ drop 0 2 ∷ return 0 ∷
          unwind 2 ∷ [],
      End.Panicked,
    )
an_index_past_the_end = refl

-- the same with let i: usize = 1
abbrev main_element : BodyTree
main_element = body 2 [] unit
    (n 0 unit (Block (nodes (
    (let_ 1 (used 2 array_d_2_ty Use.Move a_name)
    (n 3 array_d_2_ty (Array (nodes ((d 4 (pos 5)) ∷ (d 6 (pos 6)) ∷ [])))))
    ∷ (let_ 8 (used 9 usize Use.Copy a_name) (n 10 usize (Number (pos 1))))
    ∷ (stmt 11 (n 12 unit (Print (used 13 i32 Use.Copy
    (Field (n 14 d_ty (Index (n 15 array_d_2_ty (Variable 2)) (used 16 usize Use.Copy (Variable 9)) 2)) 0)))))
    ∷ [])) absent))

abbrev pub within : ProgramTree
within = record { items = items; bodies = drop_d ∷ take ∷ main_element ∷ [] }

an_index_within_the_array : source within [] 100
    ≡ (
      call 2 ∷ make 0 1 ∷ make 0 2 ∷ printed (pos 6) ∷ drop 0 1 ∷ return 0 ∷ drop 0 2 ∷ return 0 ∷
          return 2 ∷ [],
      End.Returned,
    )
an_index_within_the_array = refl

-- fn main() { print(2147483647 + ask()); }
abbrev main_sum : BodyTree
main_sum = body 2 [] unit
    (n 0 unit (Block (nodes (
    (stmt 1 (n 2 unit (Print (n 3 i32 (Arithmetic Math.Add (n 4 i32 (Number (pos 2147483647))) (n 5 i32 Ask))))))
    ∷ [])) absent))

abbrev pub sum_ : ProgramTree
sum_ = record { items = items; bodies = drop_d ∷ take ∷ main_sum ∷ [] }

a_sum_that_overflows : source sum_ (pos 1 ∷ []) 100
    ≡ (call 2 ∷ asked (pos 1) ∷ panic Why.Overflow ∷ unwind 2 ∷ [], End.Panicked)
a_sum_that_overflows = refl

a_sum_that_fits : source sum_ (pos 0 ∷ []) 100
    ≡ (call 2 ∷ asked (pos 0) ∷ printed (pos 2147483647) ∷ return 2 ∷ [], End.Returned)
a_sum_that_fits = refl

-- fn main() { print(-7 % ask()); }
abbrev main_rem : BodyTree
main_rem = body 2 [] unit
    (n 0 unit (Block (nodes (
    (stmt 1 (n 2 unit (Print (n 3 i32 (Arithmetic Math.Rem (n 4 i32 (Number (negsuc 6))) (n 5 i32 Ask))))))
    ∷ [])) absent))

abbrev pub remainder : ProgramTree
remainder = record { items = items; bodies = drop_d ∷ take ∷ main_rem ∷ [] }

a_remainder_has_the_sign_of_the_dividend : source remainder (pos 2 ∷ []) 100
    ≡ (call 2 ∷ asked (pos 2) ∷ printed (negsuc 0) ∷ return 2 ∷ [], End.Returned)
a_remainder_has_the_sign_of_the_dividend = refl

a_remainder_by_zero : source remainder (pos 0 ∷ []) 100
    ≡ (call 2 ∷ asked (pos 0) ∷ panic Why.Divide ∷ unwind 2 ∷ [], End.Panicked)
a_remainder_by_zero = refl
