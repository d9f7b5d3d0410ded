-- What is left as bodies are called.
use Rattle.std.proofs.Common.{◌≡◌, ℕ, suc, Bool, true, false, List, [], ◌∷◌, ◌++◌, Option, Some, None, refl, ap, sym, subst, ◌∙◌, arith}
use Rattle.std.specs.Prelude.{option_and_then}
use Rattle.std.specs.Option.{option_map_or}
use Rattle.cfg_graph.specs.declared.graph.Body.{Body}
use Rattle.cfg_graph.specs.declared.graph.Graph.{Graph}
use Rattle.cfg_graph.specs.declared.place.Operand.{Operand}
use Rattle.cfg_graph.specs.declared.place.Place.{Place}
use Rattle.cfg_graph.specs.declared.terminator.Term.{Term}
use Rattle.cfg_meaning.specs.Actions.{site_of, operand_of, operands_of}
use Rattle.cfg_meaning.specs.Laws.{bodies_of, concrete_effects_of}
use Rattle.cfg_meaning.specs.Programs.{setting_of}
use Rattle.cfg_meaning.specs.Walk.{naming, stuck_in, term_does}
use Rattle.mir_base.specs.declared.trace.End.{End}
use Rattle.mir_base.specs.declared.trace.Event.{Event}
use Rattle.mir_base.specs.Trace.{Trace}
use Rattle.mir_machine.proofs.RunsLeft.{call_on}
use Rattle.mir_machine.proofs.TasksLeft.{all_wait_with_less, task_waits}
use Rattle.mir_machine.proofs.TermsLeft.{AtOut, stuck_out, term_out}
use Rattle.mir_machine.specs.declared.tasks.Doing.{Doing}
use Rattle.mir_machine.specs.declared.tasks.Post.{Post}
use Rattle.mir_machine.specs.declared.tasks.Task.{Task}
use Rattle.mir_machine.specs.Continuation.{ForCall, goes_on, left, resumed, walks}
use Rattle.mir_machine.specs.Tasks.{AtEntry, AtTerm, Keeps, Next, place_in, result_of}
use Rattle.machine_steps.specs.declared.world.World.{World}
use Rattle.machine_steps.specs.Worlds.{state_of, run_setting}
use Rattle.machine_store.specs.Standing.{with_activations}
use Rattle.store_model.proofs.Concrete.Effects.{ticks_of}
use Rattle.store_model.specs.Concrete.Bodies.{ended}
use Rattle.store_model.specs.Concrete.Effects.{act, evaluate_operand, evaluate_operands, never_at, virtual_body, whole_at}
use Rattle.store_model.specs.Concrete.Location.{Setting, Located, stored_at}
use Rattle.store_model.specs.Concrete.State.{Bodies, State}
use Rattle.store_model.specs.Effects as actions
use Rattle.store_model.specs.Effects.{Action, EffectSite, Stuck, Out, Go, Halts, halting_if, stores_where}
use Rattle.store_model.specs.Values.Datum as a_datum
use Rattle.store_model.specs.Values.Datum.{Datum, Gone}

-- Operands spend no ticks.

second_of : {A : Type 0} (a b : A) (w after : State) → ◌≡◌ {A = Option (A × State)} (Some (a, w)) (Some (b, after)) → w ≡ after
second_of {A} a b w after e = ap (λ (o : Option (A × State)). option_map_or {U = State} (λ (p : A × State). p.1) o w) e

found_ticks : (now after : State) (value : Datum) (o : Option Located) (f : Located → State) → ((s : Located) → (f s).ticks ≡ now.ticks) →
    option_map_or {U = Option (Datum × State)} (λ s. Some (s.value, f s)) o None ≡ Some (value, after) → after.ticks ≡ now.ticks
found_ticks now after value None f same e = absurd (cc)
found_ticks now after value (Some s) f same e = ap ticks_of (sym (second_of s.value value (f s) after e)) ∙ same s

operand_ticks : (setting : Setting) (operand : Operand) (now after : State) (value : Datum) → evaluate_operand setting (operand_of 0 operand) now ≡ Some (value, after) → after.ticks ≡ now.ticks
operand_ticks setting (Operand.Copied place) now after value e = found_ticks now after value (whole_at setting now (site_of 0 place)) (λ s. now) (λ s. refl) e
operand_ticks setting (Operand.Moved place) now after value e = found_ticks now after value (whole_at setting now (site_of 0 place)) (λ s. stored_at s.address Gone now) (λ s. refl) e
operand_ticks setting (Operand.Number number kind) now after value e = ap ticks_of (sym (second_of (a_datum.Number number) value now after e))
operand_ticks setting (Operand.Truth truth) now after value e = ap ticks_of (sym (second_of (a_datum.Truth truth) value now after e))
operand_ticks setting Operand.Unit now after value e = ap ticks_of (sym (second_of a_datum.UnitValue value now after e))

pub operands_ticks : (setting : Setting) (operands : List Operand) (now after : State) (values : List Datum) → evaluate_operands setting (operands_of 0 operands) now ≡ Some (values, after) → after.ticks ≡ now.ticks
operands_ticks setting [] now after values e = ap ticks_of (sym (second_of [] values now after e))
operands_ticks setting (operand ∷ rest) now after values e = go (evaluate_operand setting (operand_of 0 operand) now) refl (λ mid last others. operands_ticks setting rest mid last others)
  where
    go : (o : Option (Datum × State)) → evaluate_operand setting (operand_of 0 operand) now ≡ o →
        ((mid last : State) (others : List Datum) → evaluate_operands setting (operands_of 0 rest) mid ≡ Some (others, last) → last.ticks ≡ mid.ticks) → after.ticks ≡ now.ticks
    go None f rest_ticks = absurd (let k : ◌≡◌ {A = Option (List Datum × State)} None (Some (values, after)) = sym (rw f refl) ∙ e in cc)
    go (Some (value, mid)) f rest_ticks = by (evaluate_operands setting (operands_of 0 rest) mid) refl
      where
        by : (o : Option (List Datum × State)) → evaluate_operands setting (operands_of 0 rest) mid ≡ o → after.ticks ≡ now.ticks
        by None g = absurd (let k : ◌≡◌ {A = Option (List Datum × State)} None (Some (values, after)) = sym (rw (f, g) refl) ∙ e in cc)
        by (Some (others, last)) g =
            let k : ◌≡◌ {A = Option (List Datum × State)} (Some (value ∷ others, last)) (Some (values, after)) = sym (rw (f, g) refl) ∙ e in
            ap ticks_of (sym (second_of (value ∷ others) values last after k)) ∙ rest_ticks mid last others g ∙ operand_ticks setting operand now mid value f

-- An action that has no step has none with the rule on `!` either.
stays_stuck : (never : Bool) (w : State) → halting_if never Stuck (Halts Stuck w) ≡ Halts Stuck w
stays_stuck true w = refl
stays_stuck false w = refl

module _ (setting : Setting) (bodies : Bodies) (to : Place) (args : List Operand) (w : State) where
  call_nothing : (body : ℕ) → evaluate_operands setting (operands_of 0 args) w ≡ None → act setting bodies (actions.Call (site_of 0 to) body (operands_of 0 args)) w ≡ Halts Stuck w
  call_nothing body e = rw e (stays_stuck (never_at setting w (site_of 0 to)) w)

  virtual_nothing : (trait_no method : ℕ) → evaluate_operands setting (operands_of 0 args) w ≡ None → act setting bodies (actions.CallVirtual (site_of 0 to) trait_no method (operands_of 0 args)) w ≡ Halts Stuck w
  virtual_nothing trait_no method e = rw e (stays_stuck (never_at setting w (site_of 0 to)) w)

  virtual_lost : (trait_no method : ℕ) (values : List Datum) (after : State) → evaluate_operands setting (operands_of 0 args) w ≡ Some (values, after) → virtual_body setting trait_no method after values ≡ None →
      act setting bodies (actions.CallVirtual (site_of 0 to) trait_no method (operands_of 0 args)) w ≡ Halts Stuck after
  virtual_lost trait_no method values after e none = rw (e, none) (stays_stuck (never_at setting w (site_of 0 to)) after)

-- A method is called as its body is.
virtual_on : (strict : Bool) (graph : Graph) (ticks : ℕ) (post : Post) (body : Body) (to : Place) (trait_no method callee : ℕ) (args : List Operand) (w after : State) (values : List Datum) →
    evaluate_operands (setting_of strict graph) (operands_of 0 args) w ≡ Some (values, after) → virtual_body (setting_of strict graph) trait_no method after values ≡ Some callee →
    ended post.number 0 (term_does (naming (stuck_in post.number post.block) (concrete_effects_of strict graph ticks)) 0 (Term.Virtual to trait_no method args post.onward post.unwind) (walks strict graph ticks post.number body) w)
    ≡ resumed strict graph ticks (ForCall (place_in post body) (site_of 0 to) (never_at (setting_of strict graph) w (site_of 0 to))) (bodies_of strict graph ticks (Event.Call callee) callee values after)
virtual_on strict graph ticks post body to trait_no method callee args w after values e b = rw (e, b) refl

module _ (graph : Graph) (tasks : List Task) (old mid : World) (post : Post) (to : Place) (args : List Operand) (same : run_setting mid ≡ run_setting old) where
  -- no value was given
  module _ (term : Term) (action : Action)
      (does : (strict : Bool) (ticks : ℕ) (body : Body) (w : State) → ended post.number 0 (term_does (naming (stuck_in post.number post.block) (concrete_effects_of strict graph ticks)) 0 term (walks strict graph ticks post.number body) w)
      ≡ goes_on strict graph ticks (place_in post body) (act (setting_of strict graph) (bodies_of strict graph ticks) action w)) where
    pub keeps_stuck : (doing : Doing) → doing ≡ Doing.Ended (End.Stuck post.number post.block) →
        ((strict : Bool) (ticks : ℕ) (before : Trace) → run_setting old ≡ setting_of strict graph → (v : State) × (act (setting_of strict graph) (bodies_of strict graph ticks) action (state_of before old) ≡ Halts Stuck v)
        × (v.trace ≡ (state_of before mid).trace)) →
        Keeps graph old mid (AtTerm graph tasks post.number post.block term) (Next graph tasks doing)
    keeps_stuck doing is halts strict ticks run before ranked runs h =
        let w = state_of before old in
        let stops = halts strict ticks before runs in (
          same ∙ runs,
          subst (λ doing. Next graph tasks doing strict ticks run (state_of before mid)) (sym is)
              (stuck_out strict graph ticks run tasks post w stops.0
              (subst (AtOut strict graph ticks run tasks post w) stops.1 (term_out strict graph ticks run tasks post term w (act (setting_of strict graph) (bodies_of strict graph ticks) action w) (λ body. does strict ticks body w) h.1))
              ∙ ap (λ t. (t, End.Stuck post.number post.block)) stops.2),
        )

  module _ (none : (before : Trace) → (evaluate_operands (run_setting old) (operands_of 0 args) (state_of before old) ≡ None) × ((state_of before mid).trace ≡ (state_of before old).trace)) (doing : Doing)
      (is : doing ≡ Doing.Ended (End.Stuck post.number post.block)) where
    pub call_without_values : (body : ℕ) → Keeps graph old mid (AtTerm graph tasks post.number post.block (Term.Call to body args post.onward post.unwind)) (Next graph tasks doing)
    call_without_values body =
        keeps_stuck (Term.Call to body args post.onward post.unwind) (actions.Call (site_of 0 to) body (operands_of 0 args)) (λ strict ticks body w. refl) doing is
        (λ strict ticks before runs. (
          state_of before old,
          call_nothing (setting_of strict graph) (bodies_of strict graph ticks) to args (state_of before old) body (ap (λ s. evaluate_operands s (operands_of 0 args) (state_of before old)) (sym runs) ∙ (none before).0),
          sym (none before).1,
        ))

    pub virtual_without_values : (trait_no method : ℕ) → Keeps graph old mid (AtTerm graph tasks post.number post.block (Term.Virtual to trait_no method args post.onward post.unwind)) (Next graph tasks doing)
    virtual_without_values trait_no method =
        keeps_stuck (Term.Virtual to trait_no method args post.onward post.unwind) (actions.CallVirtual (site_of 0 to) trait_no method (operands_of 0 args)) (λ strict ticks body w. refl) doing is
        (λ strict ticks before runs. (
          state_of before old,
          virtual_nothing (setting_of strict graph) (bodies_of strict graph ticks) to args (state_of before old) trait_no method (ap (λ s. evaluate_operands s (operands_of 0 args) (state_of before old)) (sym runs) ∙ (none before).0),
          sym (none before).1,
        ))

  module _ (values : List Datum) (gave : (before : Trace) → evaluate_operands (run_setting old) (operands_of 0 args) (state_of before old) ≡ Some (values, state_of before mid)) where
    pub virtual_without_body : (trait_no method : ℕ) → ((before : Trace) → virtual_body (run_setting mid) trait_no method (state_of before mid) values ≡ None) → (doing : Doing) → doing ≡ Doing.Ended (End.Stuck post.number post.block) →
        Keeps graph old mid (AtTerm graph tasks post.number post.block (Term.Virtual to trait_no method args post.onward post.unwind)) (Next graph tasks doing)
    virtual_without_body trait_no method none doing is =
        keeps_stuck (Term.Virtual to trait_no method args post.onward post.unwind) (actions.CallVirtual (site_of 0 to) trait_no method (operands_of 0 args)) (λ strict ticks body w. refl) doing is
        (λ strict ticks before runs. (
          state_of before mid,
          virtual_lost (setting_of strict graph) (bodies_of strict graph ticks) to args (state_of before old) trait_no method values (state_of before mid)
              (ap (λ s. evaluate_operands s (operands_of 0 args) (state_of before old)) (sym runs) ∙ gave before) (ap (λ s. virtual_body s trait_no method (state_of before mid) values) (sym (same ∙ runs)) ∙ none before),
          refl,
        ))

    module _ (new : World) (lost : Bool) (doing : Doing) (is_lost : lost ≡ never_at (run_setting old) (state_of [] old) (site_of 0 to)) where
      abbrev with_call : List Task
      with_call = tasks ++ Task.Call post lost ∷ []

      -- the caller waits for the body
      waits_for : (term : Term) (callee : ℕ) → result_of term ≡ Some to →
          ((strict : Bool) (ticks : ℕ) (body : Body) (before : Trace) → run_setting old ≡ setting_of strict graph →
          ended post.number 0 (term_does (naming (stuck_in post.number post.block) (concrete_effects_of strict graph ticks)) 0 term (walks strict graph ticks post.number body) (state_of before old))
          ≡ resumed strict graph ticks (ForCall (place_in post body) (site_of 0 to) (never_at (setting_of strict graph) (state_of before old) (site_of 0 to))) (bodies_of strict graph ticks (Event.Call callee) callee values (state_of before mid))) →
          Keeps graph mid new (AtEntry graph with_call (Event.Call callee) callee values) (Next graph with_call doing) → Keeps graph old new (AtTerm graph tasks post.number post.block term) (Next graph with_call doing)
      waits_for term callee to_is does k strict ticks run before ranked runs h =
          let w = state_of before old in
          let v = state_of before mid in
          let kept : v.ticks ≡ w.ticks = operands_ticks (run_setting old) args w v values (gave before) in
          let lost_is : lost ≡ never_at (setting_of strict graph) w (site_of 0 to) = is_lost ∙ ap (λ s. never_at s w (site_of 0 to)) runs in
          let r = h.1 in
          let waiting = ForCall (place_in post r.is_answer.body) (site_of 0 to) lost in
          k strict ticks run before ranked (same ∙ runs)
          (record {
            waiting = waiting ∷ r.waiting;
            waits = task_waits strict graph ticks v.ticks tasks (Task.Call post lost) waiting [] r.waiting
                (all_wait_with_less strict graph ticks (suc w.ticks) v.ticks (omega arith) tasks [] r.waiting r.waits)
                (record { body = r.is_answer.body; there = r.is_answer.there; to = to; leads = ap (option_and_then result_of) h.0 ∙ to_is; is = refl });
            answer = bodies_of strict graph ticks (Event.Call callee) callee values v;
            is_answer = refl;
            is = r.is ∙ ap (left strict graph ticks r.waiting)
                (r.is_answer.ends ∙ does strict ticks r.is_answer.body before runs
                ∙ ap (λ l. resumed strict graph ticks (ForCall (place_in post r.is_answer.body) (site_of 0 to) l) (bodies_of strict graph ticks (Event.Call callee) callee values v)) (sym lost_is));
            within = (let i = r.within in omega arith);
          })

      pub call_waits : (callee : ℕ) → Keeps graph mid new (AtEntry graph with_call (Event.Call callee) callee values) (Next graph with_call doing) →
          Keeps graph old new (AtTerm graph tasks post.number post.block (Term.Call to callee args post.onward post.unwind)) (Next graph with_call doing)
      call_waits callee =
          waits_for (Term.Call to callee args post.onward post.unwind) callee refl
          (λ strict ticks body before runs. call_on strict graph ticks (place_in post body) to callee args (state_of before old) (state_of before mid) values
          (ap (λ s. evaluate_operands s (operands_of 0 args) (state_of before old)) (sym runs) ∙ gave before))

      pub virtual_waits : (trait_no method callee : ℕ) → ((before : Trace) → virtual_body (run_setting mid) trait_no method (state_of before mid) values ≡ Some callee) →
          Keeps graph mid new (AtEntry graph with_call (Event.Call callee) callee values) (Next graph with_call doing) →
          Keeps graph old new (AtTerm graph tasks post.number post.block (Term.Virtual to trait_no method args post.onward post.unwind)) (Next graph with_call doing)
      virtual_waits trait_no method callee some =
          waits_for (Term.Virtual to trait_no method args post.onward post.unwind) callee refl
          (λ strict ticks body before runs. virtual_on strict graph ticks post body to trait_no method callee args (state_of before old) (state_of before mid) values
          (ap (λ s. evaluate_operands s (operands_of 0 args) (state_of before old)) (sym runs) ∙ gave before) (ap (λ s. virtual_body s trait_no method (state_of before mid) values) (sym (same ∙ runs)) ∙ some before))

-- the body of a method goes by the activations alone
pub virtual_same : (world : World) (trait_no method : ℕ) (before : Trace) (values : List Datum) →
    virtual_body (run_setting world) trait_no method (state_of before world) values ≡ virtual_body (setting_of true world.graph.now) trait_no method (with_activations (state_of [] world).activations) values
virtual_same world trait_no method before [] = refl
virtual_same world trait_no method before (a_datum.Address address ∷ rest) = refl
virtual_same world trait_no method before other = refl
