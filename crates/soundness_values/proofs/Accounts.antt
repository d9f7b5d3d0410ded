-- The account of serial numbers: each number that was made is held somewhere or has ended, once; those whose `Drop`
-- bodies run are held and have ended. It is kept while values are dropped.
use Rattle.std.proofs.Common.{◌≡◌, ℕ, ◌+◌, ◌<◌, ◌≤◌, List, [], ◌∷◌, ◌++◌, Option, Some, if◌then◌else◌, refl, ap, ◌∙◌, arith}
use Rattle.std.proofs.lemmas.Bool.Decides.{Decides-eqb}
use Rattle.mir_base.specs.declared.trace.Event.{Event}
use Rattle.mir_base.specs.Trace.{Trace}
use Rattle.mir_ty.specs.declared.ty.TyId.{TyId}
use Rattle.store_model.specs.Values.Datum.{Gone, Box}
use Rattle.store_model.specs.Values.Wholeness.{serials}
use Rattle.store_model.specs.Concrete.Location.{Setting, Located, located_at, stored_at}
use Rattle.store_model.specs.Concrete.State.{State, with_event}
use Rattle.mir_base.specs.Once.{serial_made, serial_ended, made_in, ended_in, times, EndsWhatWasMade, a_line, IsOnce, IsAtMostOnce}
use Rattle.soundness_values.proofs.Counts.{times_append, in_value, held, held_stored}
use Rattle.soundness_values.proofs.LadderEnds.{Room, Kept}

pub made_after : (k : ℕ) (trace : Trace) (event : Event) → times k (made_in (trace ++ event ∷ [])) ≡ times k
    (made_in trace) + times k (serial_made event)
made_after k [] event = times_append k (serial_made event) []
    ∙ (let z : times k (serial_made event) + 0 ≡ 0 + times k (serial_made event) = omega arith in z)
made_after k (first ∷ trace) event =
    let later = made_after k trace event in
    let one = times_append k (serial_made first) (made_in (trace ++ event ∷ [])) in
    let other = times_append k (serial_made first) (made_in trace) in
    omega arith

pub ended_after : (k : ℕ) (trace : Trace) (event : Event) → times k (ended_in (trace ++ event ∷ [])) ≡ times k
    (ended_in trace) + times k (serial_ended event)
ended_after k [] event = times_append k (serial_ended event) []
    ∙ (let z : times k (serial_ended event) + 0 ≡ 0 + times k (serial_ended event) = omega arith in z)
ended_after k (first ∷ trace) event =
    let later = ended_after k trace event in
    let one = times_append k (serial_ended first) (ended_in (trace ++ event ∷ [])) in
    let other = times_append k (serial_ended first) (ended_in trace) in
    omega arith

pub times_one : (k : ℕ) → times k (k ∷ []) ≡ 1
times_one k = ap (λ b. if b then 1 else 0) ((Decides-eqb k k).1 refl)

module _ (size : ℕ → ℕ) where
  pub record Accounted (dropping : List ℕ) (w : State) : Type 0 where
    pub sum : (k : ℕ) → held size k w.activations + times k (ended_in w.trace) ≡ times k dropping + times k
        (made_in w.trace)
    pub once : (k : ℕ) → times k (made_in w.trace) ≤ 1
    pub has_ended : (k : ℕ) → times k dropping ≤ times k (ended_in w.trace)
    pub is_held : (k : ℕ) → times k dropping ≤ held size k w.activations
    pub fresh : (k : ℕ) → w.serial ≤ k → times k (made_in w.trace) ≡ 0
    pub in_order : EndsWhatWasMade w.trace

  -- the run may halt at any point
  pub halts_accounted : (dropping : List ℕ) (w : State) → Accounted dropping w → IsAtMostOnce w.trace
  halts_accounted dropping w a = record {
    made_once = a.once;
    ends_at_most_once = λ k. let sum = a.sum k in let held = a.is_held k in omega arith;
    in_order = a.in_order;
  }

  -- where nothing is held, each number has ended
  pub ends_accounted : (w : State) → Accounted [] w → ((k : ℕ) → held size k w.activations ≡ 0) → IsOnce w.trace
  ends_accounted w a h = record {
    made_once = a.once;
    ends_once = λ k. let sum = a.sum k in let none = h k in omega arith;
    in_order = a.in_order;
  }

  module _ (setting : Setting) (sized : (body key : ℕ) (id : TyId) → setting.local_ty body key ≡ Some id →
      key < size body) where
    pub gone_accounted : (dropping : List ℕ) (w : State) (s : Located) → located_at setting w s.address ≡ Some s →
        Room size dropping w s.value → Accounted (serials s.value ++ dropping) w →
        Accounted dropping (stored_at s.address Gone w)
    gone_accounted dropping w s e m a = record {
      sum = λ k. let change = held_stored size k setting sized w s.address s Gone e in let sum = a.sum k in let all =
          times_append k (serials s.value) dropping in omega arith;
      once = a.once;
      has_ended = λ k. let ended = a.has_ended k in let all = times_append k (serials s.value) dropping in
          omega arith;
      is_held = λ k. let change = held_stored size k setting sized w s.address s Gone e in let room =
          m k in omega arith;
      fresh = a.fresh;
      in_order = a.in_order;
    }

    pub freed_accounted : (dropping : List ℕ) (w : State) (s : Located) (serial : ℕ) (impl_no : Option ℕ) →
        s.value ≡ Box serial impl_no Gone → located_at setting w s.address ≡ Some s →
        Room size dropping w s.value → Accounted dropping w →
        Accounted dropping (with_event (Event.Freed serial) (stored_at s.address Gone w))
    freed_accounted dropping w s serial impl_no is_box e m a = record {
      sum = λ k.
          let change = held_stored size k setting sized w s.address s Gone e in
          let own : in_value k s.value ≡ times k (serial ∷ []) = ap (in_value k) is_box in
          let sum = a.sum k in
          let ended = ended_after k w.trace (Event.Freed serial) in
          let made = made_after k w.trace (Event.Freed serial) in
          omega arith;
      once = λ k. let made = made_after k w.trace (Event.Freed serial) in let before = a.once k in omega arith;
      has_ended = λ k. let ended = ended_after k w.trace (Event.Freed serial) in let before = a.has_ended k in
          omega arith;
      is_held = λ k. let change = held_stored size k setting sized w s.address s Gone e in let room =
          m k in omega arith;
      fresh = λ k l. let made = made_after k w.trace (Event.Freed serial) in let before = a.fresh k l in omega arith;
      in_order = a_line w.trace (Event.Freed serial) a.in_order (λ k same. made_before k same);
    }
      where
        made_before : (k : ℕ) → serial ∷ [] ≡ k ∷ [] → 1 ≤ times k (made_in w.trace)
        made_before k same =
            let is_it : serial ≡ k = cc in
            let own : in_value k s.value ≡ times k (serial ∷ []) = ap (in_value k) is_box in
            let one : times k (serial ∷ []) ≡ 1 = ap (λ n. times k (n ∷ [])) is_it ∙ times_one k in
            let room = m k in
            let sum = a.sum k in
            let ended = a.has_ended k in
            omega arith

    -- what is kept while values are dropped
    pub accounts : Kept setting size
    accounts = record {
      good = Accounted;
      halted = λ w. IsAtMostOnce w.trace;
      at_halt = halts_accounted;
      goes = gone_accounted;
      frees = freed_accounted;
    }
