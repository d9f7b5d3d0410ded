-- Drops of values, worked out by hand and closed by computation: in a program with a struct `D` that has a `Drop` body,
-- a pair of two `D`s, and a box of one. The `Drop` body of the value with the number 1 panics, and that of the value with
-- the number 4 stores another box with it in local 2.
use Rattle.std.proofs.Common.{◌≡◌, ℕ, zero, suc, pred, refl, [], ◌∷◌, List}
use Rattle.std.specs.Prelude.{Some, None, false, codes}
use Rattle.mir_base.specs.declared.trace.Event.{Event}
use Rattle.mir_base.specs.declared.trace.Event.TheVariants.{Dropped as drop, Freed as free}
use Rattle.mir_base.specs.Trace.{Trace}
use Rattle.mir_ty.specs.declared.ty.Ty.{Ty}
use Rattle.mir_ty.specs.declared.ty.TyId.{TyId}
use Rattle.mir_ty.specs.ItemTable.{no_items}
use Rattle.store_model.specs.Concrete.Effects.{drop as drops}
use Rattle.store_model.specs.Values.Datum.{Datum, Gone, Aggregate, Box, no_part, a_part}
use Rattle.store_model.specs.Effects.{Normal, Unwinding, Mode, Halt, Aborted, Out, Go, Unwind, Halts}
use Rattle.store_model.specs.Places.Place.{whole_local}
use Rattle.store_model.specs.Concrete.Location.{Setting, root_address, stored_at}
use Rattle.store_model.specs.Concrete.State.{State, with_event, Answer, Returns, Unwinds, Bodies, Activation, cell}

abbrev d_ty : TyId
d_ty = record { 0 = 0 }

-- local 1 is a pair, local 2 a box
abbrev ty_of_local : ℕ → TyId
ty_of_local local = record { 0 = local }

abbrev setting : Setting
setting = record {
  items = record no_items {
    types = Ty.Adt 0 ∷ Ty.Tuple (d_ty ∷ d_ty ∷ []) ∷ Ty.Boxed d_ty ∷ [];
    adts = (record {
      name = codes "D";
      is_enum = false;
      variants =
          (record { name = codes "D"; fields = []; field_names = [] }) ∷ [];
      copy = false;
      drop_body = Some 0;
    }) ∷ [];
  };
  local_ty = λ body local. Some (ty_of_local local);
  strict = false;
}

abbrev d : ℕ → Datum
d serial = Aggregate 0 (Some serial) no_part

abbrev end_of_body : ℕ → State → Answer
end_of_body (suc zero) w = Unwinds w
end_of_body (suc (suc (suc (suc zero)))) w = Returns Gone (stored_at (root_address 0 2) (Box 8 None (d 4)) w)
end_of_body serial w = Returns Gone w

abbrev bodies : Bodies
bodies (Event.Dropped adt serial) body args w =
    end_of_body serial (record (with_event (Event.Dropped adt serial) w) { ticks = pred w.ticks })
bodies event body args w = Returns Gone w

abbrev holding : ℕ → Datum → State
holding local value = record {
  asked = [];
  ticks = 5;
  serial = 9;
  activations =
      (record { body = 0; cells = (local, value) ∷ [] }) ∷ [];
  trace = [];
}

-- how a drop ends, what it tells, and what stands in its place then
pub data Outcome : Type 0 where
  GoesOn : (trace : Trace) (value : Datum) → Outcome
  Panics : (trace : Trace) (value : Datum) → Outcome
  Ends : (halt : Halt) (trace : Trace) → Outcome

abbrev value_in : ℕ → List Activation → Datum
value_in local [] = Gone
value_in local (a ∷ older) = cell local a.cells

abbrev outcome : ℕ → Out State → Outcome
outcome local (Go w) = GoesOn w.trace (value_in local w.activations)
outcome local (Unwind w) = Panics w.trace (value_in local w.activations)
outcome local (Halts halt w) = Ends halt w.trace

abbrev dropped : Mode → ℕ → Datum → Outcome
dropped mode local value =
    outcome local (drops setting bodies 6 mode (record { node = 0; place = whole_local local }) (holding local value))

abbrev pair : Datum → Datum → Datum
pair one other = Aggregate 0 None (a_part one (a_part other no_part))

parts_from_first_to_last : dropped Normal 1 (pair (d 2) (d 3)) ≡ GoesOn (drop 0 2 ∷ drop 0 3 ∷ []) Gone
parts_from_first_to_last = refl

what_is_gone_is_not_dropped : dropped Normal 1 (pair Gone (d 3)) ≡ GoesOn (drop 0 3 ∷ []) Gone
what_is_gone_is_not_dropped = refl

the_rest_is_dropped_after_a_panic : dropped Normal 1 (pair (d 1) (d 3)) ≡ Panics (drop 0 1 ∷ drop 0 3 ∷ []) Gone
the_rest_is_dropped_after_a_panic = refl

a_second_panic_aborts : dropped Normal 1 (pair (d 1) (d 1)) ≡ Ends Aborted (drop 0 1 ∷ drop 0 1 ∷ [])
a_second_panic_aborts = refl

a_panic_while_unwinding_aborts : dropped Unwinding 1 (pair (d 1) (d 3)) ≡ Ends Aborted (drop 0 1 ∷ [])
a_panic_while_unwinding_aborts = refl

a_box_after_its_content : dropped Normal 2 (Box 7 None (d 2)) ≡ GoesOn (drop 0 2 ∷ free 7 ∷ []) Gone
a_box_after_its_content = refl

a_box_without_its_content : dropped Normal 2 (Box 7 None Gone) ≡ GoesOn (free 7 ∷ []) Gone
a_box_without_its_content = refl

a_box_whose_content_panicked : dropped Normal 2 (Box 7 None (d 1)) ≡ Panics (drop 0 1 ∷ free 7 ∷ []) Gone
a_box_whose_content_panicked = refl

a_box_that_was_stored_meanwhile : dropped Normal 2 (Box 7 None (d 4)) ≡ GoesOn (drop 0 4 ∷ free 8 ∷ []) Gone
a_box_that_was_stored_meanwhile = refl
