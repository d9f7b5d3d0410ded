-- What is left after what a terminator does.
use Rattle.std.proofs.Common.{◌≡◌, ℕ, suc, Bool, true, false, List, Option, Some, None, refl, ap, sym, subst, ◌∙◌, arith}
use Rattle.cfg_graph.specs.declared.graph.Body.{Body}
use Rattle.cfg_graph.specs.declared.graph.Graph.{Graph}
use Rattle.cfg_graph.specs.declared.terminator.Term.{Term}
use Rattle.cfg_meaning.proofs.Runs.{graph_keeps}
use Rattle.cfg_meaning.specs.Actions.{mode_of}
use Rattle.cfg_meaning.specs.Laws.{bodies_of, concrete_effects_of}
use Rattle.cfg_meaning.specs.Programs.{code_of, setting_of}
use Rattle.cfg_meaning.specs.Walk.{naming, stuck_in, term_does}
use Rattle.machine_steps.specs.declared.drops.Turn.{Turn}
use Rattle.machine_steps.specs.Continuation.{found_as}
use Rattle.machine_steps.specs.Turns.{TurnLeft, mode_by}
use Rattle.mir_base.specs.declared.trace.End.{End}
use Rattle.mir_base.specs.Trace.{Trace}
use Rattle.mir_machine.proofs.TasksLeft.{ends_halted, moved}
use Rattle.mir_machine.specs.declared.tasks.Doing.{Doing}
use Rattle.mir_machine.specs.declared.tasks.Post.{Post}
use Rattle.mir_machine.specs.declared.tasks.Task.{Task}
use Rattle.mir_machine.specs.Continuation.{goes_on, walks}
use Rattle.mir_machine.specs.Tasks.{AtOutcome, AtTerm, DoingLeft, DropsThat, EndsByTerm, Keeps, Next, PostEnds, RunLeft, chosen_doing, place_in}
use Rattle.machine_steps.specs.Acting.{DoesAct}
use Rattle.machine_steps.specs.declared.actions.Outcome.{Outcome}
use Rattle.machine_steps.specs.declared.world.World.{World}
use Rattle.machine_steps.specs.Steps.{seen, leaves, seen_choice, leaves_choice}
use Rattle.machine_steps.specs.Worlds.{state_of, run_setting}
use Rattle.machine_store.specs.declared.types.Dynamic.{Dynamic}
use Rattle.machine_store.specs.Standing.{dynamic_of}
use Rattle.store_model.proofs.Concrete.Effects.{ticks_of, values_laws, body_thrifty}
use Rattle.store_model.proofs.Effects.Laws.{Laws, NoMore, NoMoreOf}
use Rattle.store_model.specs.Concrete.Bodies.{ended}
use Rattle.store_model.specs.Concrete.Drops.{Begins, drop_at}
use Rattle.store_model.specs.Concrete.Effects.{act, drop, whole_at}
use Rattle.store_model.specs.Concrete.Location.{Setting, Located, Reached, Reaches, CutOff, Nowhere, reach}
use Rattle.store_model.specs.Concrete.State.{Bodies, HaltsIn, State}
use Rattle.store_model.specs.declared.address.Addr.{Addr}
use Rattle.store_model.specs.Effects.{Action, Mode, EffectSite, Stuck, StuckAt, Out, Go, Unwind as Unwinds, Halts, Choice, Yes, No, Neither}
use Rattle.store_model.specs.Values.Datum.{Gone}
use Rattle.store_model.specs.Values.Wholeness.{is_whole}

pub graph_laws : (strict : Bool) (graph : Graph) (ticks : ℕ) → Laws (concrete_effects_of strict graph ticks) ticks_of
graph_laws strict graph ticks = values_laws (setting_of strict graph) (bodies_of strict graph ticks) (body_thrifty (setting_of strict graph) (code_of graph) (graph_keeps graph) ticks) (suc ticks)

module _ (strict : Bool) (graph : Graph) (ticks : ℕ) (run : Trace × End) (tasks : List Task) where
  abbrev pub AtOut : Post → State → Out State → Type 0
  AtOut post w out = RunLeft strict graph ticks run tasks w (PostEnds strict graph ticks post (λ o. o ≡ out))

  pub stuck_out : (post : Post) (w v : State) → AtOut post w (Halts Stuck v) → run ≡ (v.trace, End.Stuck post.number post.block)
  stuck_out post w v h =
      ends_halted strict graph ticks run tasks (suc w.ticks) w (StuckAt post.number post.block) tt v
      (record {
        waiting = h.waiting;
        waits = h.waits;
        answer = h.answer;
        is_answer = h.is_answer.ends ∙ ap (goes_on strict graph ticks (place_in post h.is_answer.body)) h.is_answer.is_out;
        is = h.is;
        within = h.within;
      })

  -- what a terminator has come to, as the machine does it
  pub outcome_left : (post : Post) (w v : State) (out : Out State) (outcome : Outcome) → seen out ≡ leaves outcome v → NoMore ticks_of w.ticks out → AtOut post w out → AtOutcome graph tasks post outcome strict ticks run v
  outcome_left post w v (Go x) Outcome.Goes e l h =
      let same : x ≡ v = cc in
      moved strict graph ticks run tasks (suc w.ticks) (suc v.ticks) w v (PostEnds strict graph ticks post (λ o. o ≡ Go x)) (PostEnds strict graph ticks post (λ o. o ≡ Go v))
      (let k = ap ticks_of same in omega arith) (let k = ap ticks_of same in omega arith)
      (λ answer p. record { body = p.body; there = p.there; out = p.out; is_out = p.is_out ∙ ap Go same; ends = p.ends }) h
  outcome_left post w v (Go x) Outcome.Panics e l h = absurd (cc)
  outcome_left post w v (Go x) Outcome.Stuck e l h = absurd (cc)
  outcome_left post w v (Unwinds x) Outcome.Panics e l h =
      let same : x ≡ v = cc in
      moved strict graph ticks run tasks (suc w.ticks) (suc v.ticks) w v (PostEnds strict graph ticks post (λ o. o ≡ Unwinds x)) (PostEnds strict graph ticks post (λ o. o ≡ Unwinds v))
      (let k = ap ticks_of same in omega arith) (let k = ap ticks_of same in omega arith)
      (λ answer p. record { body = p.body; there = p.there; out = p.out; is_out = p.is_out ∙ ap Unwinds same; ends = p.ends }) h
  outcome_left post w v (Unwinds x) Outcome.Goes e l h = absurd (cc)
  outcome_left post w v (Unwinds x) Outcome.Stuck e l h = absurd (cc)
  outcome_left post w v (Halts halt x) Outcome.Stuck e l h =
      let same : halt ≡ Stuck = cc in
      let trace : x.trace ≡ v.trace = cc in
      stuck_out post w x (subst (λ halt. AtOut post w (Halts halt x)) same h) ∙ ap (λ t. (t, End.Stuck post.number post.block)) trace
  outcome_left post w v (Halts halt x) Outcome.Goes e l h = absurd (cc)
  outcome_left post w v (Halts halt x) Outcome.Panics e l h = absurd (cc)

  -- what a terminator does is what it comes to
  pub term_out : (post : Post) (term : Term) (w : State) (out : Out State) →
      ((body : Body) → ended post.number 0 (term_does (naming (stuck_in post.number post.block) (concrete_effects_of strict graph ticks)) 0 term (walks strict graph ticks post.number body) w)
      ≡ goes_on strict graph ticks (place_in post body) out) →
      RunLeft strict graph ticks run tasks w (EndsByTerm strict graph ticks post.number post.block term w) → AtOut post w out
  term_out post term w out f h = record {
    waiting = h.waiting;
    waits = h.waits;
    answer = h.answer;
    is_answer = record { body = h.is_answer.body; there = h.is_answer.there; out = out; is_out = refl; ends = h.is_answer.ends ∙ f h.is_answer.body };
    is = h.is;
    within = h.within;
  }

  -- a choice leads on
  pub choice_left : (number block if_true if_false : ℕ) (term : Term) (w v : State) (chosen : Choice State) (choice : Option Bool) → seen_choice chosen ≡ leaves_choice choice v → NoMoreOf ticks_of w.ticks chosen →
      ((body : Body) (x : State) → chosen ≡ Yes x → ended number 0 (term_does (naming (stuck_in number block) (concrete_effects_of strict graph ticks)) 0 term (walks strict graph ticks number body) w)
      ≡ ended number 0 (walks strict graph ticks number body if_true x)) →
      ((body : Body) (x : State) → chosen ≡ No x → ended number 0 (term_does (naming (stuck_in number block) (concrete_effects_of strict graph ticks)) 0 term (walks strict graph ticks number body) w)
      ≡ ended number 0 (walks strict graph ticks number body if_false x)) →
      ((body : Body) (x : State) → chosen ≡ Neither Stuck x → ended number 0 (term_does (naming (stuck_in number block) (concrete_effects_of strict graph ticks)) 0 term (walks strict graph ticks number body) w)
      ≡ HaltsIn (StuckAt number block) x) →
      RunLeft strict graph ticks run tasks w (EndsByTerm strict graph ticks number block term w) → DoingLeft strict graph ticks run tasks v (chosen_doing number block choice if_true if_false)
  choice_left number block if_true if_false term w v (Yes x) (Some true) e l f g k h =
      let same : x ≡ v = cc in
      moved strict graph ticks run tasks (suc w.ticks) (suc v.ticks) w v (EndsByTerm strict graph ticks number block term w) _
      (let k = ap ticks_of same in omega arith) (let k = ap ticks_of same in omega arith)
      (λ answer p. record { body = p.body; there = p.there; ends = p.ends ∙ f p.body x refl ∙ ap (λ x. ended number 0 (walks strict graph ticks number p.body if_true x)) same }) h
  choice_left number block if_true if_false term w v (Yes x) (Some false) e l f g k h = absurd (cc)
  choice_left number block if_true if_false term w v (Yes x) None e l f g k h = absurd (cc)
  choice_left number block if_true if_false term w v (No x) (Some false) e l f g k h =
      let same : x ≡ v = cc in
      moved strict graph ticks run tasks (suc w.ticks) (suc v.ticks) w v (EndsByTerm strict graph ticks number block term w) _
      (let k = ap ticks_of same in omega arith) (let k = ap ticks_of same in omega arith)
      (λ answer p. record { body = p.body; there = p.there; ends = p.ends ∙ g p.body x refl ∙ ap (λ x. ended number 0 (walks strict graph ticks number p.body if_false x)) same }) h
  choice_left number block if_true if_false term w v (No x) (Some true) e l f g k h = absurd (cc)
  choice_left number block if_true if_false term w v (No x) None e l f g k h = absurd (cc)
  choice_left number block if_true if_false term w v (Neither halt x) None e l f g k h =
      let same : halt ≡ Stuck = cc in
      let trace : x.trace ≡ v.trace = cc in
      ends_halted strict graph ticks run tasks (suc w.ticks) w (StuckAt number block) tt x
      (record {
        waiting = h.waiting;
        waits = h.waits;
        answer = h.answer;
        is_answer = h.is_answer.ends ∙ k h.is_answer.body x (ap (λ halt. Neither halt x) same);
        is = h.is;
        within = h.within;
      })
      ∙ ap (λ t. (t, End.Stuck number block)) trace
  choice_left number block if_true if_false term w v (Neither halt x) (Some true) e l f g k h = absurd (cc)
  choice_left number block if_true if_false term w v (Neither halt x) (Some false) e l f g k h = absurd (cc)

  -- a drop begins
  pub drop_begins : (post : Post) (w : State) (out : Out State) (address : Addr) (dynamic : Dynamic) (doing : Doing) → DropsThat post address dynamic doing →
      out ≡ drop_at (setting_of strict graph) (bodies_of strict graph ticks) (suc ticks) Begins
      (found_as (setting_of strict graph) (bodies_of strict graph ticks) address.depth address.key.0 address.path (dynamic_of dynamic) Gone) (mode_of post.unwind) w →
      AtOut post w out → DoingLeft strict graph ticks run tasks w doing
  drop_begins post w out address dynamic (Doing.Drops post_of drops turn) d e h =
      let setting = setting_of strict graph in
      let bodies = bodies_of strict graph ticks in
      let unwinds = d.2.0 in
      let begins = d.2.2 setting bodies w (suc ticks) dynamic (let i = h.within in omega arith) in
      let is : drop_at setting bodies (suc ticks) Begins (found_as setting bodies address.depth address.key.0 address.path (dynamic_of dynamic) Gone) (mode_by unwinds) w ≡ out =
      ap (λ mode. drop_at setting bodies (suc ticks) Begins (found_as setting bodies address.depth address.key.0 address.path (dynamic_of dynamic) Gone) mode w) d.2.1 ∙ sym e
      in
      let turns = subst (λ o. TurnLeft setting bodies w o drops (Turn.Visits false (Some dynamic))) is begins in
      record {
        waiting = h.waiting;
        waits = h.waits;
        answer = h.answer;
        is_answer = subst (λ p. PostEnds strict graph ticks p (λ o. TurnLeft setting bodies w o drops turn) h.answer) (sym d.0)
            (record {
              body = h.is_answer.body;
              there = h.is_answer.there;
              out = h.is_answer.out;
              is_out = subst (λ o. TurnLeft setting bodies w o drops turn) (sym h.is_answer.is_out) (subst (λ t. TurnLeft setting bodies w out drops t) (sym d.1) turns);
              ends = h.is_answer.ends;
            });
        is = h.is;
        within = h.within;
      }
  drop_begins post w out address dynamic (Doing.Walks number block) d e h = absurd d
  drop_begins post w out address dynamic (Doing.Returned value) d e h = absurd d
  drop_begins post w out address dynamic Doing.Unwound d e h = absurd d
  drop_begins post w out address dynamic (Doing.Ended end) d e h = absurd d

-- what a drop of a place does
module _ (setting : Setting) (bodies : Bodies) (fuel : ℕ) (mode : Mode) (site : EffectSite) (w : State) where
  pub drops_whole : (s : Located) → setting.strict ≡ true → whole_at setting w site ≡ Some s → drop setting bodies fuel mode site w ≡ drop_at setting bodies fuel Begins s mode w
  drops_whole s strict is = go (reach setting w site.place) refl
    where
      go : (r : Reached) → reach setting w site.place ≡ r → drop setting bodies fuel mode site w ≡ drop_at setting bodies fuel Begins s mode w
      go CutOff e = absurd (let k : None ≡ Some s = sym (rw e refl) ∙ is in cc)
      go Nowhere e = absurd (let k : None ≡ Some s = sym (rw e refl) ∙ is in cc)
      go (Reaches found) e = by (is_whole found.value) refl
        where
          by : (b : Bool) → is_whole found.value ≡ b → drop setting bodies fuel mode site w ≡ drop_at setting bodies fuel Begins s mode w
          by false d = absurd (let k : None ≡ Some s = sym (rw (e, d) refl) ∙ is in cc)
          by true d =
              let k : Some found ≡ Some s = sym (rw (e, d) refl) ∙ is in
              let same : found ≡ s = cc in
              rw (e, strict, d) (ap (λ s. drop_at setting bodies fuel Begins s mode w) same)

  pub drops_no_part : setting.strict ≡ true → whole_at setting w site ≡ None → drop setting bodies fuel mode site w ≡ Halts Stuck w
  drops_no_part strict is = go (reach setting w site.place) refl
    where
      go : (r : Reached) → reach setting w site.place ≡ r → drop setting bodies fuel mode site w ≡ Halts Stuck w
      go CutOff e = rw (e, strict) refl
      go Nowhere e = rw e refl
      go (Reaches found) e = by (is_whole found.value) refl
        where
          by : (b : Bool) → is_whole found.value ≡ b → drop setting bodies fuel mode site w ≡ Halts Stuck w
          by false d = rw (e, strict, d) refl
          by true d = absurd (let k : Some found ≡ None = sym (rw (e, d) refl) ∙ is in cc)

  pub drops_rest : (s : Located) → setting.strict ≡ false → reach setting w site.place ≡ Reaches s → drop setting bodies fuel mode site w ≡ drop_at setting bodies fuel Begins s mode w
  drops_rest s strict e = rw (e, strict) refl

  pub drops_nothing : setting.strict ≡ false → reach setting w site.place ≡ CutOff → drop setting bodies fuel mode site w ≡ Go w
  drops_nothing strict e = rw (e, strict) refl

  pub drops_nowhere : reach setting w site.place ≡ Nowhere → drop setting bodies fuel mode site w ≡ Halts Stuck w
  drops_nowhere e = rw e refl

-- Terminators that act.
module _ (graph : Graph) (tasks : List Task) (old mid new : World) (post : Post) (term : Term) (action : Action) (outcome : Outcome) (doing : Doing) where
  pub keeps_acting :
      ((strict : Bool) (ticks : ℕ) (body : Body) (w : State) → ended post.number 0 (term_does (naming (stuck_in post.number post.block) (concrete_effects_of strict graph ticks)) 0 term (walks strict graph ticks post.number body) w)
      ≡ goes_on strict graph ticks (place_in post body) (act (setting_of strict graph) (bodies_of strict graph ticks) action w)) →
      run_setting mid ≡ run_setting old → DoesAct action old outcome mid → Keeps graph mid new (AtOutcome graph tasks post outcome) (Next graph tasks doing) →
      Keeps graph old new (AtTerm graph tasks post.number post.block term) (Next graph tasks doing)
  keeps_acting f same does k strict ticks run before ranked runs h =
      let w = state_of before old in
      let out = act (setting_of strict graph) (bodies_of strict graph ticks) action w in
      k strict ticks run before ranked (same ∙ runs)
      (outcome_left strict graph ticks run tasks post w (state_of before mid) out outcome
      (ap (λ (s : Setting). seen (act s (bodies_of strict graph ticks) action w)) (sym runs) ∙ does (bodies_of strict graph ticks) before)
      ((graph_laws strict graph ticks).acting action w)
      (term_out strict graph ticks run tasks post term w out (λ body. f strict ticks body w) h.1))
