-- What is left as bodies are entered, go on by a choice, panic, return and unwind.
use Rattle.std.proofs.Common.{◌≡◌, ℕ, zero, suc, Bool, true, false, List, [], ◌∷◌, length, Option, Some, None, refl, ap, sym, subst, ◌∙◌, arith}
use Rattle.std.proofs.lemmas.Bool.Decides.{Decides-eqb}
use Rattle.std.specs.Prelude.{slice_get}
use Rattle.std.specs.Option.{option_map_or}
use Rattle.cfg_graph.specs.declared.graph.Body.{Body}
use Rattle.cfg_graph.specs.declared.graph.Graph.{Graph}
use Rattle.cfg_graph.specs.declared.terminator.Term.{Term}
use Rattle.cfg_graph.specs.declared.terminator.Unwind.{Unwind}
use Rattle.cfg_meaning.specs.Laws.{bodies_of, concrete_effects_of}
use Rattle.cfg_meaning.specs.Programs.{arguments_from, setting_of}
use Rattle.cfg_meaning.specs.Walk.{branch, naming, renamed, renamed_choice, stuck_in, term_does}
use Rattle.mir_base.specs.declared.trace.End.{End}
use Rattle.mir_base.specs.declared.trace.Event.{Event}
use Rattle.mir_base.specs.declared.trace.Why.{Why}
use Rattle.mir_base.specs.Trace.{Trace}
use Rattle.mir_machine.proofs.RunsLeft.{body_on}
use Rattle.mir_machine.proofs.TasksLeft.{ends_halted, ends_lost, moved}
use Rattle.mir_machine.proofs.TermsLeft.{choice_left, graph_laws}
use Rattle.mir_machine.specs.declared.tasks.Doing.{Doing}
use Rattle.mir_machine.specs.declared.tasks.Post.{Post}
use Rattle.mir_machine.specs.declared.tasks.Task.{Task}
use Rattle.mir_machine.specs.Continuation.{goes_on, walks}
use Rattle.mir_machine.specs.Tasks.{AtEntry, AtOutcome, AtTerm, DoingLeft, EndsByTerm, Keeps, Next, PostEnds, RunLeftFrom, chosen_doing, lost_end}
use Rattle.machine_steps.specs.declared.actions.Outcome.{Outcome}
use Rattle.machine_steps.specs.declared.world.World.{World}
use Rattle.machine_steps.specs.Steps.{seen_choice, Chooses}
use Rattle.machine_steps.specs.Worlds.{state_of, run_setting}
use Rattle.store_model.proofs.Concrete.Effects.{ticks_of}
use Rattle.store_model.specs.Concrete.Bodies.{cells_of_youngest, ended}
use Rattle.store_model.specs.Concrete.Effects.{choose, evaluate_operand, give, whole_at}
use Rattle.store_model.specs.Concrete.Location.{Setting, Located, OfType, root_address, stored_at}
use Rattle.store_model.specs.Concrete.State.{Activation, Bodies, Returns, State, Unwinds, cell, with_activation, with_cell_at, with_event, without_activation}
use Rattle.store_model.specs.Effects as actions
use Rattle.store_model.specs.Effects.{Test, EffectSite, OutOfTicks, Stuck, StuckAt, Out, Go, Halts, Choice, Yes, No, Neither}
use Rattle.store_model.specs.Places.Place.{whole_local}
use Rattle.store_model.specs.Values.Datum.{Datum, Gone}
use Rattle.store_model.specs.declared.value.Value.{Value}
use Rattle.store_model.specs.Values.Access.{replaced}
use Rattle.store_model.specs.Values.Datum.{datum_of}
use Rattle.store_model.specs.Values.Wholeness.{IsWhole, is_whole}
use Rattle.store_model.specs.declared.address.Addr.{Addr}
use Rattle.store_model.specs.Concrete.State.{at_depth}
use Rattle.mir_ty.specs.declared.ty.TyId.{TyId}

-- Choices.

module _ (graph : Graph) (tasks : List Task) (old mid : World) (number block if_true if_false : ℕ) (test : Test) (term : Term) (choice : Option Bool) (doing : Doing) where
  pub keeps_choosing :
      ((strict : Bool) (ticks : ℕ) (body : Body) (w : State) → ended number 0 (term_does (naming (stuck_in number block) (concrete_effects_of strict graph ticks)) 0 term (walks strict graph ticks number body) w)
      ≡ ended number 0 (branch (renamed_choice (stuck_in number block) (choose (setting_of strict graph) test w)) (walks strict graph ticks number body if_true) (walks strict graph ticks number body if_false))) →
      doing ≡ chosen_doing number block choice if_true if_false → run_setting mid ≡ run_setting old → Chooses test old choice mid →
      Keeps graph old mid (AtTerm graph tasks number block term) (Next graph tasks doing)
  keeps_choosing f is same chooses strict ticks run before ranked runs h =
      let w = state_of before old in
      let chosen = choose (setting_of strict graph) test w in
      let by = λ (body : Body) (c : Choice State). ended number 0 (branch (renamed_choice (stuck_in number block) c) (walks strict graph ticks number body if_true) (walks strict graph ticks number body if_false)) in (
        same ∙ runs,
        subst (λ doing. DoingLeft strict graph ticks run tasks (state_of before mid) doing) (sym is)
            (choice_left strict graph ticks run tasks number block if_true if_false term w (state_of before mid) chosen choice
            (ap (λ (s : Setting). seen_choice (choose s test w)) (sym runs) ∙ chooses before)
            ((graph_laws strict graph ticks).choosing test w)
            (λ body x e. f strict ticks body w ∙ ap (by body) e) (λ body x e. f strict ticks body w ∙ ap (by body) e) (λ body x e. f strict ticks body w ∙ ap (by body) e) h.1),
      )

-- Panics.

module _ (graph : Graph) (tasks : List Task) (old mid new : World) (number block : ℕ) (why : Why) (unwind : Unwind) (doing : Doing) where
  abbrev panic_post : Post
  panic_post = record { number = number; block = block; onward = 0; unwind = unwind }

  pub keeps_panicking : run_setting mid ≡ run_setting old → ((before : Trace) → state_of before mid ≡ with_event (Event.Panicked why) (state_of before old)) →
      Keeps graph mid new (AtOutcome graph tasks panic_post Outcome.Panics) (Next graph tasks doing) → Keeps graph old new (AtTerm graph tasks number block (Term.Panic why unwind)) (Next graph tasks doing)
  keeps_panicking same told k strict ticks run before ranked runs h =
      let w = state_of before old in
      let v = state_of before mid in
      let left : v.ticks ≡ w.ticks = ap ticks_of (told before) in
      k strict ticks run before ranked (same ∙ runs)
      (moved strict graph ticks run tasks (suc w.ticks) (suc v.ticks) w v (EndsByTerm strict graph ticks number block (Term.Panic why unwind) w) (PostEnds strict graph ticks panic_post (λ out. out ≡ actions.Unwind v))
      (omega arith) (omega arith)
      (λ answer p. record {
        body = p.body;
        there = p.there;
        out = actions.Unwind v;
        is_out = refl;
        ends = p.ends ∙ ap (λ v. goes_on strict graph ticks (record { number = number; body = p.body; block = block; onward = 0; unwind = unwind }) (actions.Unwind v)) (sym (told before));
      }) h.1)

-- Ends of bodies.

module _ (graph : Graph) (tasks : List Task) (old new : World) (number block : ℕ) where
  pub keeps_resuming : run_setting new ≡ run_setting old → ((before : Trace) → state_of before new ≡ with_event (Event.Unwind number) (without_activation (state_of before old))) →
      Keeps graph old new (AtTerm graph tasks number block Term.Resume) (Next graph tasks Doing.Unwound)
  keeps_resuming same left strict ticks run before ranked runs h =
      let w = state_of before old in
      let v = state_of before new in
      let kept : v.ticks ≡ w.ticks = ap ticks_of (left before) in (
        same ∙ runs,
        moved strict graph ticks run tasks (suc w.ticks) (suc v.ticks) w v (EndsByTerm strict graph ticks number block Term.Resume w) (λ answer. answer ≡ Unwinds v)
            (omega arith) (omega arith) (λ answer p. p.ends ∙ ap Unwinds (sym (left before))) h.1,
      )

-- what the local holds to which an address leads
abbrev root_by : Addr → State → Datum
root_by address w = option_map_or (λ (a : Activation). cell address.key.0 a.cells) (at_depth address.depth w.activations) Gone

abbrev pub result_site : EffectSite
result_site = record { node = 0; place = whole_local 0 }

-- the result is that of the youngest body
record IsResult (setting : Setting) (w : State) (s : Located) : Type 0 where
  pub first : Activation
  pub older : List Activation
  pub is : w.activations ≡ first ∷ older
  pub value : s.value ≡ cell 0 first.cells
  pub depth : s.address.depth ≡ length older

result_found : (setting : Setting) (w : State) (s : Located) → whole_at setting w result_site ≡ Some s → IsResult setting w s
result_found setting w s is = go w.activations refl
  where
    go : (l : List Activation) → w.activations ≡ l → IsResult setting w s
    go [] e = absurd (let k : None ≡ Some s = sym (rw e refl) ∙ is in cc)
    go (a ∷ older) e = typed (setting.local_ty a.body 0) refl
      where
        typed : (o : Option TyId) → setting.local_ty a.body 0 ≡ o → IsResult setting w s
        typed None t = absurd (let k : None ≡ Some s = sym (rw (e, t) refl) ∙ is in cc)
        typed (Some id) t = whole (is_whole (cell 0 a.cells)) refl
          where
            whole : (b : Bool) → is_whole (cell 0 a.cells) ≡ b → IsResult setting w s
            whole false d = absurd (let k : None ≡ Some s = sym (rw (e, t, d) refl) ∙ is in cc)
            whole true d =
                let root : Located = record { address = root_address (length older) 0; dynamic = OfType id; value = cell 0 a.cells } in
                let k : Some root ≡ Some s = sym (rw (e, t, d) refl) ∙ is in
                let same : root ≡ s = cc in
                record { first = a; older = older; is = e; value = ap (λ (s : Located). s.value) (sym same); depth = ap (λ (s : Located). s.address.depth) (sym same) }

youngest_changed : (w : State) (depth key : ℕ) (value : Datum) (a : Activation) (older : List Activation) → depth ≡ length older →
    without_activation (record w { activations = with_cell_at depth key value (a ∷ older) }) ≡ without_activation (record w { activations = a ∷ older })
youngest_changed w depth key value a older e = rw ((Decides-eqb depth (length older)).1 e) refl

module _ (setting : Setting) (bodies : Bodies) (w after : State) (v : Datum) where
  record Gives : Type 0 where
    pub goes : give setting bodies result_site w ≡ Go w
    pub value : v ≡ cell 0 (cells_of_youngest w.activations)
    pub left : without_activation after ≡ without_activation w

  gives : evaluate_operand setting (actions.Moved result_site) w ≡ Some (v, after) → Gives
  gives is = go (whole_at setting w result_site) refl
    where
      go : (o : Option Located) → whole_at setting w result_site ≡ o → Gives
      go None e = absurd (let k : ◌≡◌ {A = Option (Datum × State)} None (Some (v, after)) = sym (rw e refl) ∙ is in cc)
      go (Some s) e =
          let found = result_found setting w s e in
          let gone = stored_at s.address Gone w in
          let k : ◌≡◌ {A = Option (Datum × State)} (Some (s.value, gone)) (Some (v, after)) = sym (rw e refl) ∙ is in
          let value_is : s.value ≡ v = ap (λ (o : Option (Datum × State)). option_map_or {U = Datum} (λ (p : Datum × State). p.0) o v) k in
          let after_is : gone ≡ after = ap (λ (o : Option (Datum × State)). option_map_or {U = State} (λ (p : Datum × State). p.1) o after) k in
          record {
            goes = rw e refl;
            value = sym value_is ∙ found.value ∙ ap (λ l. cell 0 (cells_of_youngest l)) (sym found.is);
            left = ap without_activation (sym after_is)
                ∙ ap (λ l. without_activation (record w { activations = with_cell_at s.address.depth s.address.key.0 (replaced s.address.path Gone (root_by s.address w)) l })) found.is
                ∙ youngest_changed w s.address.depth s.address.key.0 (replaced s.address.path Gone (root_by s.address w)) found.first found.older found.depth
                ∙ ap (λ l. without_activation (record w { activations = l })) (sym found.is);
          }

  gives_nothing : evaluate_operand setting (actions.Moved result_site) w ≡ None → give setting bodies result_site w ≡ Halts Stuck w
  gives_nothing is = go (whole_at setting w result_site) refl
    where
      go : (o : Option Located) → whole_at setting w result_site ≡ o → give setting bodies result_site w ≡ Halts Stuck w
      go None e = rw e refl
      go (Some s) e = absurd (let k : ◌≡◌ {A = Option (Datum × State)} (Some (s.value, stored_at s.address Gone w)) None = sym (rw e refl) ∙ is in cc)

module _ (graph : Graph) (tasks : List Task) (old mid new : World) (number block : ℕ) where
  abbrev evaluates_result : Trace → Option (Datum × State)
  evaluates_result before = evaluate_operand (run_setting old) (actions.Moved result_site) (state_of before old)

  pub keeps_giving : (value : Value) → IsWhole (datum_of value) → run_setting new ≡ run_setting old →
      ((before : Trace) → evaluate_operand (run_setting old) (actions.Moved result_site) (state_of before old) ≡ Some (datum_of value, state_of before mid)) →
      ((before : Trace) → state_of before new ≡ with_event (Event.Return number) (without_activation (state_of before mid))) →
      Keeps graph old new (AtTerm graph tasks number block Term.Return) (Next graph tasks (Doing.Returned value))
  keeps_giving value whole same evaluated left strict ticks run before ranked runs h =
      let w = state_of before old in
      let v = state_of before new in
      let setting = setting_of strict graph in
      let bodies = bodies_of strict graph ticks in
      let g = gives setting bodies w (state_of before mid) (datum_of value) (ap (λ s. evaluate_operand s (actions.Moved result_site) w) (sym runs) ∙ evaluated before) in
      let new_is : v ≡ with_event (Event.Return number) (without_activation w) = left before ∙ ap (with_event (Event.Return number)) g.left in
      let kept : v.ticks ≡ w.ticks = ap ticks_of new_is in (
        same ∙ runs,
        moved strict graph ticks run tasks (suc w.ticks) (suc v.ticks) w v (EndsByTerm strict graph ticks number block Term.Return w) (λ answer. IsWhole (datum_of value) × (answer ≡ Returns (datum_of value) v))
            (omega arith) (omega arith)
            (λ answer p. (
              whole,
              p.ends ∙ ap (λ out. ended number 0 (renamed (stuck_in number block) out)) g.goes ∙ ap (λ d. Returns d (with_event (Event.Return number) (without_activation w))) (sym g.value)
                  ∙ ap (Returns (datum_of value)) (sym new_is),
            )) h.1,
      )

  pub keeps_stuck_giving : run_setting mid ≡ run_setting old →
      ((before : Trace) → (evaluate_operand (run_setting old) (actions.Moved result_site) (state_of before old) ≡ None) × (state_of before mid ≡ state_of before old)) →
      Keeps graph old mid (AtTerm graph tasks number block Term.Return) (Next graph tasks (Doing.Ended (End.Stuck number block)))
  keeps_stuck_giving same evaluated strict ticks run before ranked runs h =
      let w = state_of before old in
      let setting = setting_of strict graph in
      let bodies = bodies_of strict graph ticks in
      let none = gives_nothing setting bodies w w Gone (ap (λ s. evaluate_operand s (actions.Moved result_site) w) (sym runs) ∙ (evaluated before).0) in (
        same ∙ runs,
        ends_halted strict graph ticks run tasks (suc w.ticks) w (StuckAt number block) tt w
            (record {
              waiting = h.1.waiting;
              waits = h.1.waits;
              answer = h.1.answer;
              is_answer = h.1.is_answer.ends ∙ ap (λ out. ended number 0 (renamed (stuck_in number block) out)) none;
              is = h.1.is;
              within = h.1.within;
            })
            ∙ ap (λ (v : State). (v.trace, End.Stuck number block)) (sym (evaluated before).1),
      )

-- Entries.

module _ (strict : Bool) (graph : Graph) (ticks : ℕ) (run : Trace × End) (tasks : List Task) (event : Event) (number : ℕ) (args : List Datum) (w : State) where
  abbrev entered_state : ℕ → State
  entered_state n = with_activation (record { body = number; cells = arguments_from 1 args }) (with_event event (record w { ticks = n }))

  abbrev first_walk : ℕ → Out State
  first_walk n = option_map_or (λ body. walks strict graph ticks number body 0 (entered_state n)) (slice_get graph.bodies number) (Halts Stuck (entered_state n))

  entry_is : RunLeftFrom strict graph ticks w.ticks run tasks w (λ answer. answer ≡ bodies_of strict graph ticks event number args w) → (n : ℕ) → w.ticks ≡ suc n →
      RunLeftFrom strict graph ticks w.ticks run tasks w (λ answer. answer ≡ ended number 0 (first_walk n))
  entry_is h n e = record {
    waiting = h.waiting;
    waits = h.waits;
    answer = h.answer;
    is_answer = h.is_answer ∙ body_on strict graph ticks event number args w h.within ∙ rw e refl;
    is = h.is;
    within = h.within;
  }

  pub out_of_ticks : AtEntry graph tasks event number args strict ticks run w → w.ticks ≡ zero → run ≡ (w.trace, End.OutOfTicks)
  out_of_ticks h e =
      ends_halted strict graph ticks run tasks w.ticks w OutOfTicks tt w
      (record {
        waiting = h.waiting;
        waits = h.waits;
        answer = h.answer;
        is_answer = h.is_answer ∙ body_on strict graph ticks event number args w h.within ∙ rw e refl;
        is = h.is;
        within = h.within;
      })

  pub no_body : AtEntry graph tasks event number args strict ticks run w → (n : ℕ) → w.ticks ≡ suc n → slice_get graph.bodies number ≡ None → (v : State) → v ≡ entered_state n → run ≡ (v.trace, lost_end tasks)
  no_body h n e none v is =
      let k = entry_is h n e in
      ends_lost strict graph ticks run tasks w.ticks w (entered_state n)
      (record { waiting = k.waiting; waits = k.waits; answer = k.answer; is_answer = k.is_answer ∙ rw none refl; is = k.is; within = k.within })
      ∙ ap (λ (v : State). (v.trace, lost_end tasks)) (sym is)

  pub body_walks : AtEntry graph tasks event number args strict ticks run w → (n : ℕ) → w.ticks ≡ suc n → (body : Body) → slice_get graph.bodies number ≡ Some body → (v : State) → v ≡ entered_state n →
      DoingLeft strict graph ticks run tasks v (Doing.Walks number 0)
  body_walks h n e body some v is =
      let kept : v.ticks ≡ n = ap ticks_of is in
      moved strict graph ticks run tasks w.ticks (suc v.ticks) w v (λ answer. answer ≡ ended number 0 (first_walk n)) _ (omega arith) (omega arith)
      (λ answer p. record { body = body; there = some; ends = p ∙ rw some (ap (λ v. ended number 0 (walks strict graph ticks number body 0 v)) (sym is)) }) (entry_is h n e)
