-- A longer program: a queue of jobs, which are trait objects, moved out of an enum and back at each turn.
use Rattle.std.proofs.Common.{◌≡◌, refl, [], ◌∷◌, pos}
use Rattle.std.specs.Prelude.{◌++◌, Some, None, true, false, codes}
use Rattle.mir_base.specs.declared.operator.Cmp.{Cmp}
use Rattle.mir_base.specs.declared.operator.Math.{Math}
use Rattle.mir_base.specs.declared.trace.End.{End}
use Rattle.mir_base.specs.declared.trace.Event.TheVariants.{Call as call, Return as return, Unwind as unwind, Make as make, Boxed as box, Dropped as drop, Freed as free, Printed as printed, Asked as asked, Panicked as panic}
use Rattle.mir_base.specs.declared.trace.Why.{Why}
use Rattle.mir_ty.specs.declared.ty.Ty.{Ty}
use Rattle.mir_ty.specs.declared.ty.TyId.{TyId}
use Rattle.mir_ty.specs.ItemTable.{ItemTable}
use Rattle.typed_tree.specs.declared.node.Use.{Use}
use Rattle.typed_tree.specs.Tree.{no_node, no_field, absent, present, Number, Truth, Variable, Field, Deref, Not, Arithmetic, Comparison, And, Assign, Call, VirtualCall, Make, NewBox, Print, Ask, Panic, Borrow, Unsize, Block, If, Match, Arm, While, Return, Wildcard, VariantPattern, BodyTree, ProgramTree}
use Rattle.src_meaning.specs.Programs.{source}
use Rattle.src_meaning.proofs.Examples.Words.{a_name, another_name, i32, unit, bool, never, scalars, n, used, nodes, fields, let_, stmt, body, param, ty_no, variant, struct, enum, head}

abbrev buf_ty : TyId
buf_ty = ty_no 4

abbrev unique_buf_ty : TyId
unique_buf_ty = ty_no 5

abbrev send_ty : TyId
send_ty = ty_no 6

abbrev shared_send_ty : TyId
shared_send_ty = ty_no 7

abbrev unique_send_ty : TyId
unique_send_ty = ty_no 8

abbrev fail_ty : TyId
fail_ty = ty_no 9

abbrev shared_fail_ty : TyId
shared_fail_ty = ty_no 10

abbrev unique_fail_ty : TyId
unique_fail_ty = ty_no 11

abbrev dyn_job_ty : TyId
dyn_job_ty = ty_no 12

abbrev shared_dyn_job_ty : TyId
shared_dyn_job_ty = ty_no 13

abbrev unique_dyn_job_ty : TyId
unique_dyn_job_ty = ty_no 14

abbrev boxed_dyn_job_ty : TyId
boxed_dyn_job_ty = ty_no 15

abbrev boxed_send_ty : TyId
boxed_send_ty = ty_no 16

abbrev boxed_fail_ty : TyId
boxed_fail_ty = ty_no 17

abbrev slot_ty : TyId
slot_ty = ty_no 18

abbrev shared_slot_ty : TyId
shared_slot_ty = ty_no 19

abbrev queue_ty : TyId
queue_ty = ty_no 20

abbrev items : ItemTable
items = record {
  types = scalars ++ Ty.Adt 0 ∷ Ty.Unique buf_ty ∷ Ty.Adt 1 ∷ Ty.Shared send_ty ∷ Ty.Unique send_ty ∷ Ty.Adt 2 ∷
      Ty.Shared fail_ty ∷ Ty.Unique fail_ty ∷ Ty.Dyn 0 ∷ Ty.Shared dyn_job_ty ∷ Ty.Unique dyn_job_ty ∷
      Ty.Boxed dyn_job_ty ∷ Ty.Boxed send_ty ∷ Ty.Boxed fail_ty ∷ Ty.Adt 3 ∷ Ty.Shared slot_ty ∷ Ty.Adt 4 ∷ [];
  adts = struct (codes "Buf") (i32 ∷ []) (Some 0) ∷ struct (codes "Send") (buf_ty ∷ buf_ty ∷ i32 ∷ []) None ∷
      struct (codes "Fail") (buf_ty ∷ []) None ∷ enum (codes "Slot")
      (variant (codes "Free") [] ∷ variant (codes "Ready") (boxed_dyn_job_ty ∷ []) ∷
      variant (codes "Done") (i32 ∷ []) ∷ []) ∷ struct (codes "Queue") (slot_ty ∷ slot_ty ∷ []) None ∷ [];
  traits = (record {
    name = codes "Job";
    methods = head (codes "cost") (shared_dyn_job_ty ∷ []) i32 ∷
        head (codes "run") (unique_dyn_job_ty ∷ i32 ∷ []) bool ∷ [];
  }) ∷ [];
  impls = (record { trait_no = 0; adt = 1; bodies = 2 ∷ 3 ∷ [] }) ∷
      (record { trait_no = 0; adt = 2; bodies = 4 ∷ 5 ∷ [] }) ∷ [];
  closures = [];
  bodies = head (codes "Buf::drop") (unique_buf_ty ∷ []) unit ∷ head (codes "Send::new") (i32 ∷ []) send_ty ∷
      head (codes "Send::cost") (shared_send_ty ∷ []) i32 ∷ head (codes "Send::run") (unique_send_ty ∷ i32 ∷ [])
      bool ∷ head (codes "Fail::cost") (shared_fail_ty ∷ []) i32 ∷
      head (codes "Fail::run") (unique_fail_ty ∷ i32 ∷ []) bool ∷ head (codes "step") (slot_ty ∷ i32 ∷ []) slot_ty ∷
      head (codes "is_done") (shared_slot_ty ∷ []) bool ∷ head (codes "main") [] unit ∷ [];
}

-- fn drop(&mut self) { print(self.0); }
abbrev drop_buf : BodyTree
drop_buf = body 0 (param (used 0 unique_buf_ty Use.Copy a_name) unique_buf_ty ∷ []) unit
    (n 1 unit (Block (nodes (
    (stmt 2 (n 3 unit (Print (used 4 i32 Use.Copy (Field (n 5 buf_ty (Deref (n 6 unique_buf_ty (Variable 0)))) 0)))))
    ∷ [])) absent))

-- fn new(n: i32) -> Self { Send { head: Buf(n), body: Buf(n + 1), sent: 0 } }
abbrev send_new : BodyTree
send_new = body 1 (param (used 0 i32 Use.Copy a_name) i32 ∷ []) send_ty
    (n 1 send_ty (Block no_node (present (n 2 send_ty (Make 1 0 (fields (
    (0, (n 3 buf_ty (Make 0 0 (fields ((0, (used 4 i32 Use.Copy (Variable 0))) ∷ [])))))
    ∷ (
      1,
      (n 5 buf_ty (Make 0 0 (fields (
          (0, (n 6 i32 (Arithmetic Math.Add (used 7 i32 Use.Copy (Variable 0)) (n 8 i32 (Number (pos 1))))))
          ∷ [])))),
    )
    ∷ (2, (n 9 i32 (Number (pos 0))))
    ∷ [])))))))

-- fn cost(&self) -> i32 { 2 - self.sent }
abbrev send_cost : BodyTree
send_cost = body 2 (param (used 0 shared_send_ty Use.Copy a_name) shared_send_ty ∷ []) i32
    (n 1 i32 (Block no_node (present (n 2 i32
    (Arithmetic Math.Sub (n 3 i32 (Number (pos 2)))
    (used 4 i32 Use.Copy (Field (n 5 send_ty (Deref (n 6 shared_send_ty (Variable 0)))) 2)))))))

-- fn run(&mut self, turn: i32) -> bool { self.sent = self.sent + 1; if self.sent == 1 { self.body = Buf(turn); return false; } true }
abbrev send_run : BodyTree
send_run = body 3 (param (used 0 unique_send_ty Use.Copy a_name) unique_send_ty ∷
    param (used 1 i32 Use.Copy another_name) i32 ∷ []) bool
    (n 2 bool (Block (nodes (
    (stmt 3 (n 4 unit (Assign (used 5 i32 Use.Store (Field (n 6 send_ty (Deref (n 7 unique_send_ty (Variable 0)))) 2))
    (n 8 i32 (Arithmetic Math.Add (used 9 i32 Use.Copy
    (Field (n 10 send_ty (Deref (n 11 unique_send_ty (Variable 0)))) 2)) (n 12 i32 (Number (pos 1))))))))
    ∷ (stmt 13 (n 14 unit (If (n 15 bool
    (Comparison Cmp.Eq (used 16 i32 Use.Copy (Field (n 17 send_ty (Deref (n 18 unique_send_ty (Variable 0)))) 2))
    (n 19 i32 (Number (pos 1))))) (n 20 never (Block (nodes (
    (stmt 21 (n 22 unit (Assign (used 23 buf_ty Use.Store
    (Field (n 24 send_ty (Deref (n 25 unique_send_ty (Variable 0)))) 1))
    (n 26 buf_ty (Make 0 0 (fields ((0, (used 27 i32 Use.Copy (Variable 1))) ∷ [])))))))
    ∷ (stmt 28 (n 29 never (Return (present (n 30 bool (Truth false))))))
    ∷ [])) absent)) absent)))
    ∷ [])) (present (n 31 bool (Truth true)))))

-- fn cost(&self) -> i32 { 1 }
abbrev fail_cost : BodyTree
fail_cost = body 4 (param (used 0 shared_fail_ty Use.Copy a_name) shared_fail_ty ∷ []) i32
    (n 1 i32 (Block no_node (present (n 2 i32 (Number (pos 1))))))

-- fn run(&mut self, turn: i32) -> bool { if turn > 2 { panic!("job failed") } true }
abbrev fail_run : BodyTree
fail_run = body 5 (param (used 0 unique_fail_ty Use.Copy a_name) unique_fail_ty ∷
    param (used 1 i32 Use.Copy another_name) i32 ∷ []) bool
    (n 2 bool (Block (nodes (
    (stmt 3 (n 4 unit (If (n 5 bool (Comparison Cmp.Gt (used 6 i32 Use.Copy (Variable 1)) (n 7 i32 (Number (pos 2)))))
    (n 8 never (Block no_node (present (n 9 never Panic)))) absent)))
    ∷ [])) (present (n 10 bool (Truth true)))))

-- fn step(slot: Slot, turn: i32) -> Slot { match slot { Slot::Ready(mut job) => { if job.cost() > 3 { return Slot::Free; } if job.run(turn) { return Slot::Done(turn); } Slot::Ready(job) } other => other, } }
abbrev step : BodyTree
step = body 6 (param (used 0 slot_ty Use.Move a_name) slot_ty ∷ param (used 1 i32 Use.Copy another_name) i32 ∷ []) slot_ty
    (n 2 slot_ty (Block no_node (present (n 3 slot_ty (Match (used 4 slot_ty Use.Borrow (Variable 0)) (nodes (
    (n 5 slot_ty (Arm (used 6 slot_ty Use.Test
    (VariantPattern 1 true (fields ((0, (used 7 boxed_dyn_job_ty Use.Move a_name)) ∷ [])))) absent
    (n 8 slot_ty (Block (nodes (
    (stmt 9 (n 10 unit (If (n 11 bool (Comparison Cmp.Gt
    (n 12 i32 (VirtualCall 0 0 (n 13 shared_dyn_job_ty
    (Borrow false (used 14 dyn_job_ty Use.Borrow (Deref (n 15 boxed_dyn_job_ty (Variable 7)))))) no_node))
    (n 16 i32 (Number (pos 3))))) (n 17 never
    (Block (nodes ((stmt 18 (n 19 never (Return (present (n 20 slot_ty (Make 3 0 no_field)))))) ∷ [])) absent))
    absent)))
    ∷ (stmt 21 (n 22 unit (If (n 23 bool
    (VirtualCall 0 1 (n 24 unique_dyn_job_ty
    (Borrow true (used 25 dyn_job_ty Use.BorrowMut (Deref (n 26 boxed_dyn_job_ty (Variable 7))))))
    (nodes ((used 27 i32 Use.Copy (Variable 1)) ∷ [])))) (n 28 never (Block (nodes (
    (stmt 29 (n 30 never (Return (present
    (n 31 slot_ty (Make 3 2 (fields ((0, (used 32 i32 Use.Copy (Variable 1))) ∷ []))))))))
    ∷ [])) absent)) absent)))
    ∷ [])) (present (n 33 slot_ty (Make 3 1 (fields ((0, (used 34 boxed_dyn_job_ty Use.Move (Variable 7))) ∷ [])))))))))
    ∷ (n 35 slot_ty (Arm (used 36 slot_ty Use.Move a_name) absent (used 37 slot_ty Use.Move (Variable 36))))
    ∷ [])))))))

-- fn is_done(slot: &Slot) -> bool { match *slot { Slot::Done(_) => true, _ => false, } }
abbrev is_done : BodyTree
is_done = body 7 (param (used 0 shared_slot_ty Use.Copy a_name) shared_slot_ty ∷ []) bool
    (n 1 bool (Block no_node (present (n 2 bool
    (Match (used 3 slot_ty Use.Borrow (Deref (n 4 shared_slot_ty (Variable 0)))) (nodes (
    (n 5 bool (Arm (used 6 slot_ty Use.Test (VariantPattern 2 true (fields ((0, (n 7 i32 Wildcard)) ∷ [])))) absent
    (n 8 bool (Truth true))))
    ∷ (n 9 bool (Arm (n 10 slot_ty Wildcard) absent (n 11 bool (Truth false))))
    ∷ [])))))))

-- fn main() { let mut q = Queue { a: Slot::Ready(Box::new(Send::new(10))), b: Slot::Ready(Box::new(Fail(Buf(20)))) }; let mut turn = ask(); while !(is_done(&q.a) && is_done(&q.b)) { q.a = step(q.a, turn); q.b = step(q.b, turn); turn = turn + 1; } print(turn); }
abbrev main_ : BodyTree
main_ = body 8 [] unit
    (n 0 unit (Block (nodes (
    (let_ 1 (used 2 queue_ty Use.Move a_name) (n 3 queue_ty (Make 4 0 (fields ((
      0,
      (n 4 slot_ty (Make 3 1 (fields ((
        0,
        (n 5 boxed_dyn_job_ty (Unsize 0
            (n 6 boxed_send_ty (NewBox (n 7 send_ty (Call 1 (nodes ((n 8 i32 (Number (pos 10))) ∷ [])))))))),
      )
          ∷ [])))),
    )
    ∷ (
      1,
      (n 9 slot_ty (Make 3 1 (fields ((
        0,
        (n 10 boxed_dyn_job_ty (Unsize 0 (n 11 boxed_fail_ty (NewBox (n 12 fail_ty (Make 2 0 (fields (
            (0, (n 13 buf_ty (Make 0 0 (fields ((0, (n 14 i32 (Number (pos 20)))) ∷ [])))))
            ∷ [])))))))),
      )
          ∷ [])))),
    )
    ∷ [])))))
    ∷ (let_ 15 (used 16 i32 Use.Copy a_name) (n 17 i32 Ask))
    ∷ (stmt 18 (n 19 unit (While (n 20 bool (Not (n 21 bool (And (n 22 bool (Call 7 (nodes (
    (n 23 shared_slot_ty (Borrow false (used 24 slot_ty Use.Borrow (Field (n 25 queue_ty (Variable 2)) 0))))
    ∷ [])))) (n 26 bool (Call 7 (nodes (
    (n 27 shared_slot_ty (Borrow false (used 28 slot_ty Use.Borrow (Field (n 29 queue_ty (Variable 2)) 1))))
    ∷ [])))))))) (n 30 unit (Block (nodes (
    (stmt 31 (n 32 unit (Assign (used 33 slot_ty Use.Store (Field (n 34 queue_ty (Variable 2)) 0))
    (n 35 slot_ty (Call 6 (nodes (
    (used 36 slot_ty Use.Move (Field (n 37 queue_ty (Variable 2)) 0))
    ∷ (used 38 i32 Use.Copy (Variable 16))
    ∷ [])))))))
    ∷ (stmt 39 (n 40 unit (Assign (used 41 slot_ty Use.Store (Field (n 42 queue_ty (Variable 2)) 1))
    (n 43 slot_ty (Call 6 (nodes (
    (used 44 slot_ty Use.Move (Field (n 45 queue_ty (Variable 2)) 1))
    ∷ (used 46 i32 Use.Copy (Variable 16))
    ∷ [])))))))
    ∷ (stmt 47 (n 48 unit (Assign (used 49 i32 Use.Store (Variable 16))
    (n 50 i32 (Arithmetic Math.Add (used 51 i32 Use.Copy (Variable 16)) (n 52 i32 (Number (pos 1))))))))
    ∷ [])) absent)))))
    ∷ (stmt 53 (n 54 unit (Print (used 55 i32 Use.Copy (Variable 16)))))
    ∷ [])) absent))

abbrev pub job_queue : ProgramTree
job_queue = record {
  items = items;
  bodies = drop_buf ∷ send_new ∷ send_cost ∷ send_run ∷ fail_cost ∷ fail_run ∷
      step ∷ is_done ∷ main_ ∷ [];
}

both_jobs_are_done : source job_queue (pos 1 ∷ []) 10000
    ≡ (
      call 8 ∷ call 1 ∷ make 0 1 ∷ make 0 2 ∷ return 1 ∷ box 3 ∷ make 0 4 ∷ box 5 ∷ asked (pos 1) ∷ call 7 ∷
          return 7 ∷ call 6 ∷ call 2 ∷ return 2 ∷ call 3 ∷ make 0 6 ∷ drop 0 2 ∷ printed (pos 11) ∷ return 0 ∷
          return 3 ∷ return 6 ∷ call 6 ∷ call 4 ∷ return 4 ∷ call 5 ∷ return 5 ∷ drop 0 4 ∷ printed (pos 20) ∷
          return 0 ∷ free 5 ∷ return 6 ∷ call 7 ∷ return 7 ∷ call 6 ∷ call 2 ∷ return 2 ∷ call 3 ∷ return 3 ∷
          drop 0 1 ∷ printed (pos 10) ∷ return 0 ∷ drop 0 6 ∷ printed (pos 1) ∷ return 0 ∷ free 3 ∷ return 6 ∷
          call 6 ∷ return 6 ∷ call 7 ∷ return 7 ∷ call 7 ∷ return 7 ∷ printed (pos 3) ∷ return 8 ∷ [],
      End.Returned,
    )
both_jobs_are_done = refl

the_second_job_fails : source job_queue (pos 3 ∷ []) 10000
    ≡ (
      call 8 ∷ call 1 ∷ make 0 1 ∷ make 0 2 ∷ return 1 ∷ box 3 ∷ make 0 4 ∷ box 5 ∷ asked (pos 3) ∷ call 7 ∷
          return 7 ∷ call 6 ∷ call 2 ∷ return 2 ∷ call 3 ∷ make 0 6 ∷ drop 0 2 ∷ printed (pos 11) ∷ return 0 ∷
          return 3 ∷ return 6 ∷ call 6 ∷ call 4 ∷ return 4 ∷ call 5 ∷ panic Why.Explicit ∷ unwind 5 ∷ drop 0 4 ∷
          printed (pos 20) ∷ return 0 ∷ free 5 ∷ unwind 6 ∷ drop 0 1 ∷ printed (pos 10) ∷ return 0 ∷ drop 0 6 ∷
          printed (pos 3) ∷ return 0 ∷ free 3 ∷ unwind 8 ∷ [],
      End.Panicked,
    )
the_second_job_fails = refl
