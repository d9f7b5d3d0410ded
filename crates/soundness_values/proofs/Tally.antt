-- The account of serial numbers in one activation: how it begins, from a call with the numbers of its arguments in
-- flight, how it goes on by what is told, and how it ends, with those of the result.
use Rattle.std.proofs.Common.{◌≡◌, ℕ, ◌+◌, ◌≤◌, List, [], ◌∷◌, ◌++◌, refl, ap, sym, ◌∙◌, subst, arith, append_assoc}
use Rattle.std.proofs.lemmas.List.{append-nil}
use Rattle.mir_base.specs.declared.trace.Event.{Event}
use Rattle.mir_base.specs.Once.{serial_made, serial_ended, made_in, ended_in, times, EndsWhatWasMade, a_line, IsOnce, IsAtMostOnce}
use Rattle.mir_base.specs.Trace.{Trace}
use Rattle.store_model.specs.Values.Datum.{Datum}
use Rattle.store_model.specs.Values.Wholeness.{serials}
use Rattle.store_model.specs.Concrete.Bodies.{cells_of_youngest}
use Rattle.store_model.specs.Concrete.Effects.{with_events}
use Rattle.store_model.specs.Concrete.Location.{Setting}
use Rattle.store_model.specs.Concrete.State.{State, Activation, Cells, cell, with_event, without_activation, older_of}
use Rattle.src_meaning.specs.Programs.{arguments_from}
use Rattle.soundness_values.proofs.Accounts.{Accounted, made_after, ended_after, times_one}
use Rattle.soundness_values.proofs.Bodies.{begun}
use Rattle.soundness_values.proofs.Counts.{times_append, in_value, in_cells, held}
use Rattle.soundness_values.proofs.Forgotten.{InFlight}
use Rattle.soundness_values.proofs.NumbersHeld.{serials_of_args}

plus_none : (n : ℕ) → n + 0 ≡ n
plus_none n = omega arith

-- ---- an event that tells of no number

made_none : (k : ℕ) (trace : Trace) (event : Event) → serial_made event ≡ [] →
    times k (made_in (trace ++ event ∷ [])) ≡ times k (made_in trace)
made_none k trace event e = made_after k trace event ∙ ap (λ l. times k (made_in trace) + times k l) e
    ∙ plus_none (times k (made_in trace))

ended_none : (k : ℕ) (trace : Trace) (event : Event) → serial_ended event ≡ [] →
    times k (ended_in (trace ++ event ∷ [])) ≡ times k (ended_in trace)
ended_none k trace event e = ended_after k trace event ∙ ap (λ l. times k (ended_in trace) + times k l) e
    ∙ plus_none (times k (ended_in trace))

in_order_none : (trace : Trace) (event : Event) → serial_ended event ≡ [] → EndsWhatWasMade trace →
    EndsWhatWasMade (trace ++ event ∷ [])
in_order_none trace event e h =
    a_line trace event h (λ k f. absurd (let never : [] ≡ k ∷ [] = sym e ∙ f in let no : ⊥ = cc in no))

module _ (size : ℕ → ℕ) where
  pub tells : (flying dropping : List ℕ) (w : State) (event : Event) → serial_made event ≡ [] →
      serial_ended event ≡ [] → InFlight size flying dropping w → InFlight size flying dropping (with_event event w)
  tells flying dropping w event m n a = record {
    sum = λ k. let made = made_none k w.trace event m in let ended = ended_none k w.trace event n in let sum =
        a.sum k in omega arith;
    once = λ k. let made = made_none k w.trace event m in let before = a.once k in omega arith;
    has_ended = λ k. let ended = ended_none k w.trace event n in let before = a.has_ended k in omega arith;
    fresh = λ k l. let made = made_none k w.trace event m in let before = a.fresh k l in omega arith;
    in_order = in_order_none w.trace event n a.in_order;
  }

  -- of a state with the same activations, trace and next number the same is counted
  pub counted_alike : (flying dropping : List ℕ) (w v : State) → v.activations ≡ w.activations → v.trace ≡ w.trace →
      v.serial ≡ w.serial → InFlight size flying dropping w → InFlight size flying dropping v
  counted_alike flying dropping w v e t n a = record {
    sum = λ k. let acts = ap (held size k) e in let made = ap (λ x. times k (made_in x)) t in let ended =
        ap (λ x. times k (ended_in x)) t in let sum = a.sum k in omega arith;
    once = λ k. let made = ap (λ x. times k (made_in x)) t in let before = a.once k in omega arith;
    has_ended = λ k. let ended = ap (λ x. times k (ended_in x)) t in let before = a.has_ended k in omega arith;
    fresh = λ k l. ap (λ x. times k (made_in x)) t ∙ a.fresh k (subst (λ m. m ≤ k) n l);
    in_order = subst EndsWhatWasMade (sym t) a.in_order;
  }

  -- the same numbers are in flight
  pub flying_alike : (one other dropping : List ℕ) (w : State) → ((k : ℕ) → times k one ≡ times k other) →
      InFlight size one dropping w → InFlight size other dropping w
  flying_alike one other dropping w e a = record {
    sum = λ k. let same = e k in let sum = a.sum k in omega arith;
    once = a.once;
    has_ended = a.has_ended;
    fresh = a.fresh;
    in_order = a.in_order;
  }

  -- ---- what is forgotten has ended

  in_order_all : (events : List Event) (trace : Trace) → EndsWhatWasMade trace →
      ((k : ℕ) → 1 ≤ times k (ended_in events) → 1 ≤ times k (made_in trace)) → EndsWhatWasMade (trace ++ events)
  in_order_all [] trace h f = subst EndsWhatWasMade (sym (append-nil trace)) h
  in_order_all (event ∷ events) trace h f =
      subst EndsWhatWasMade (append_assoc trace (event ∷ []) events)
      (in_order_all events (trace ++ event ∷ [])
      (a_line trace event h (λ k e. f k
      (let both = times_append k (serial_ended event) (ended_in events) in
      let own : times k (serial_ended event) ≡ 1 = ap (times k) e ∙ times_one k in
      let all : times k (ended_in (event ∷ events)) ≡ times k (serial_ended event ++ ended_in events) = refl in
      omega arith)))
      (λ k l.
      let both = times_append k (serial_ended event) (ended_in events) in
      let all : times k (ended_in (event ∷ events)) ≡ times k (serial_ended event ++ ended_in events) = refl in
      let before = f k (let more : 1 ≤ times k (ended_in (event ∷ events)) = omega arith in more) in
      let made = made_after k trace event in
      omega arith))

  made_append : (k : ℕ) (events : List Event) (trace : Trace) → made_in events ≡ [] →
      times k (made_in (trace ++ events)) ≡ times k (made_in trace)
  made_append k events [] e = ap (times k) e
  made_append k events (event ∷ trace) e =
      let later = made_append k events trace e in
      let one = times_append k (serial_made event) (made_in (trace ++ events)) in
      let other = times_append k (serial_made event) (made_in trace) in
      omega arith

  ended_append : (k : ℕ) (events : List Event) (trace : Trace) →
      times k (ended_in (trace ++ events)) ≡ times k (ended_in trace) + times k (ended_in events)
  ended_append k events [] = let z : times k (ended_in events) ≡ 0 + times k (ended_in events) = omega arith in z
  ended_append k events (event ∷ trace) =
      let later = ended_append k events trace in
      let one = times_append k (serial_ended event) (ended_in (trace ++ events)) in
      let other = times_append k (serial_ended event) (ended_in trace) in
      omega arith

  -- what was in flight is told to have ended
  pub ends_flying : (setting : Setting) (events : List Event) (numbers flying dropping : List ℕ) (w : State) →
      made_in events ≡ [] → ended_in events ≡ numbers → InFlight size (numbers ++ flying) dropping w →
      InFlight size flying dropping (with_events setting events w)
  ends_flying setting events numbers flying dropping w m n a = record {
    sum = λ k.
        let made = made_append k events w.trace m in
        let ended = ended_append k events w.trace in
        let own : times k (ended_in events) ≡ times k numbers = ap (times k) n in
        let all = times_append k numbers flying in
        let sum = a.sum k in
        omega arith;
    once = λ k. let made = made_append k events w.trace m in let before = a.once k in omega arith;
    has_ended = λ k. let ended = ended_append k events w.trace in let before = a.has_ended k in omega arith;
    fresh = λ k l. let made = made_append k events w.trace m in let before = a.fresh k l in omega arith;
    in_order = in_order_all events w.trace a.in_order (λ k l.
        let own : times k (ended_in events) ≡ times k numbers = ap (times k) n in
        let all = times_append k numbers flying in
        let sum = a.sum k in
        let before = a.has_ended k in
        omega arith);
  }

  -- ---- a call

  -- the numbers of the arguments come into the locals, and that of a value whose `Drop` body is entered has ended
  pub begins : (dropping : List ℕ) (event : Event) (n : ℕ) (args : List Datum) (ticks : ℕ) (w : State) →
      serial_made event ≡ [] → ((k : ℕ) → serial_ended event ≡ k ∷ [] → 1 ≤ times k (made_in w.trace)) →
      ((k : ℕ) → in_cells k (size n) (arguments_from 1 args) ≡ times k (serials_of_args args)) →
      InFlight size (serials_of_args args) dropping w →
      InFlight size [] (serial_ended event ++ dropping) (begun event n args ticks w)
  begins dropping event n args ticks w m was local a = record {
    sum = λ k.
        let made = made_none k w.trace event m in
        let ended = ended_after k w.trace event in
        let own = local k in
        let all = times_append k (serial_ended event) dropping in
        let now : held size k (begun event n args ticks w).activations ≡ in_cells k (size n) (arguments_from 1 args)
        + held size k w.activations = refl in
        let none : times k [] ≡ 0 = refl in
        let sum = a.sum k in
        omega arith;
    once = λ k. let made = made_none k w.trace event m in let before = a.once k in omega arith;
    has_ended = λ k.
        let ended = ended_after k w.trace event in
        let all = times_append k (serial_ended event) dropping in
        let before = a.has_ended k in
        omega arith;
    fresh = λ k l. let made = made_none k w.trace event m in let before = a.fresh k l in omega arith;
    in_order = a_line w.trace event a.in_order was;
  }

  -- the body has ended: what its locals hold is in flight
  leaves : (flying dropping : List ℕ) (v : State) (body : ℕ) (c : Cells) (older : List Activation) →
      v.activations ≡ (record { body = body; cells = c }) ∷ older →
      ((k : ℕ) → in_cells k (size body) c ≡ times k flying) → InFlight size [] dropping v →
      InFlight size flying dropping (without_activation v)
  leaves flying dropping v body c older e local a = record {
    sum = λ k.
        let was : held size k v.activations ≡ in_cells k (size body) c + held size k older = ap (held size k) e in
        let now : held size k (older_of v.activations) ≡ held size k older =
        ap (λ l. held size k (older_of l)) e in
        let own = local k in
        let none : times k [] ≡ 0 = refl in
        let sum = a.sum k in
        omega arith;
    once = a.once;
    has_ended = a.has_ended;
    fresh = a.fresh;
    in_order = a.in_order;
  }

  -- with its result
  pub returns : (dropping : List ℕ) (v : State) (body : ℕ) (c : Cells) (older : List Activation) →
      v.activations ≡ (record { body = body; cells = c }) ∷ older →
      ((k : ℕ) → in_cells k (size body) c ≡ in_value k (cell 0 c)) → InFlight size [] dropping v →
      InFlight size (serials (cell 0 (cells_of_youngest v.activations))) dropping
      (with_event (Event.Return body) (without_activation v))
  returns dropping v body c older e local a =
      tells (serials (cell 0 (cells_of_youngest v.activations))) dropping (without_activation v) (Event.Return body) refl
      refl
      (subst (λ (d : Datum). InFlight size (serials d) dropping (without_activation v))
      (sym (ap (λ l. cell 0 (cells_of_youngest l)) e))
      (leaves (serials (cell 0 c)) dropping v body c older e local a))

  -- by a panic, with nothing
  pub panics_out : (dropping : List ℕ) (v : State) (body : ℕ) (c : Cells) (older : List Activation) →
      v.activations ≡ (record { body = body; cells = c }) ∷ older → ((k : ℕ) → in_cells k (size body) c ≡ 0) →
      InFlight size [] dropping v →
      InFlight size [] dropping (with_event (Event.Unwind body) (without_activation v))
  panics_out dropping v body c older e local a =
      tells [] dropping (without_activation v) (Event.Unwind body) refl refl
      (leaves [] dropping v body c older e local a)

  -- ---- the law of once

  -- where the numbers whose `Drop` bodies run are still held, each has ended at most once
  pub at_most_once : (flying dropping : List ℕ) (w : State) → ((k : ℕ) → times k dropping ≤ held size k w.activations) →
      InFlight size flying dropping w → IsAtMostOnce w.trace
  at_most_once flying dropping w room a = record {
    made_once = a.once;
    ends_at_most_once = λ k. let sum = a.sum k in let held_so = room k in omega arith;
    in_order = a.in_order;
  }

  pub exactly_once : (w : State) → w.activations ≡ [] → InFlight size [] [] w → IsOnce w.trace
  exactly_once w e a = record {
    made_once = a.once;
    ends_once = λ k.
        let none : held size k w.activations ≡ 0 = ap (held size k) e in
        let no_flying : times k [] ≡ 0 = refl in
        let sum = a.sum k in
        omega arith;
    in_order = a.in_order;
  }

  -- what the ladder of drops keeps is counted so, and the other way round
  pub accounted : (dropping : List ℕ) (w : State) → ((k : ℕ) → times k dropping ≤ held size k w.activations) →
      InFlight size [] dropping w → Accounted size dropping w
  accounted dropping w room a = record {
    sum = λ k. let none : times k [] ≡ 0 = refl in let sum = a.sum k in omega arith;
    once = a.once;
    has_ended = a.has_ended;
    is_held = room;
    fresh = a.fresh;
    in_order = a.in_order;
  }

  pub counted : (dropping : List ℕ) (w : State) → Accounted size dropping w → InFlight size [] dropping w
  counted dropping w a = record {
    sum = λ k. let none : times k [] ≡ 0 = refl in let sum = a.sum k in omega arith;
    once = a.once;
    has_ended = a.has_ended;
    fresh = a.fresh;
    in_order = a.in_order;
  }
