-- What is left as a body that waited goes on.
use Rattle.std.proofs.Common.{◌≡◌, ℕ, suc, Bool, true, false, List, [], ◌∷◌, ◌++◌, Some, None, refl, ap, sym, subst, ◌∙◌, arith}
use Rattle.std.proofs.lemmas.Bool.{true≢false}
use Rattle.cfg_graph.specs.declared.graph.Graph.{Graph}
use Rattle.cfg_graph.specs.declared.place.Place.{Place}
use Rattle.cfg_meaning.specs.Actions.{site_of}
use Rattle.cfg_meaning.specs.Laws.{bodies_of}
use Rattle.cfg_meaning.specs.Programs.{setting_of}
use Rattle.machine_steps.specs.declared.drops.Drops.{Drops}
use Rattle.machine_steps.specs.Turns.{TurnLeft}
use Rattle.mir_base.specs.declared.trace.End.{End}
use Rattle.mir_machine.proofs.RunsLeft.{halts_end}
use Rattle.mir_machine.proofs.TasksLeft.{tasks_halt, youngest_waits}
use Rattle.mir_machine.proofs.TermsLeft.{outcome_left}
use Rattle.mir_machine.specs.declared.tasks.Doing.{Doing}
use Rattle.mir_machine.specs.declared.tasks.Post.{Post}
use Rattle.mir_machine.specs.declared.tasks.Task.{Task}
use Rattle.mir_machine.specs.Continuation.{Waiting, ForCall, ForDrop, goes_on, left, resumed}
use Rattle.mir_machine.specs.Tasks.{AllWait, AtOutcome, AtResult, AtReturn, AtUnwound, Keeps, Next, PostEnds, ResumesSo, destination_in, place_in}
use Rattle.machine_steps.proofs.ActsDone.{stops}
use Rattle.machine_steps.specs.Acting.{stopped}
use Rattle.machine_steps.specs.declared.actions.Outcome.{Outcome}
use Rattle.machine_steps.specs.declared.world.World.{World}
use Rattle.machine_steps.specs.Steps.{seen, Does}
use Rattle.machine_steps.specs.Worlds.{state_of, run_setting}
use Rattle.machine_store.specs.declared.types.Dynamic.{Dynamic}
use Rattle.store_model.proofs.Concrete.Effects.{ticks_of}
use Rattle.store_model.proofs.Effects.Laws.{NoMore}
use Rattle.store_model.specs.Concrete.Effects.{put}
use Rattle.store_model.specs.Concrete.Location.{Setting, Reached, Reaches, CutOff, Nowhere, reach}
use Rattle.store_model.specs.Concrete.State.{Returns, State, Unwinds}
use Rattle.store_model.specs.declared.value.Value.{Value}
use Rattle.store_model.specs.Effects.{EffectSite, Aborted, Stuck, Unwind, halting_if}
use Rattle.store_model.specs.Values.Datum.{Datum, datum_of}

-- a store spends no ticks
put_ticks : (setting : Setting) (to : EffectSite) (value : Datum) (lost : Bool) (w : State) → NoMore ticks_of w.ticks (halting_if lost Stuck (put setting to value w))
put_ticks setting to value lost w = go (reach setting w to.place) refl lost
  where
    go : (r : Reached) → reach setting w to.place ≡ r → (lost : Bool) → NoMore ticks_of w.ticks (halting_if lost Stuck (put setting to value w))
    go (Reaches s) e true = rw e tt
    go (Reaches s) e false = rw e (omega arith)
    go CutOff e true = rw e tt
    go CutOff e false = rw e tt
    go Nowhere e true = rw e tt
    go Nowhere e false = rw e tt

module _ (graph : Graph) (tasks : List Task) (old mid new : World) (post : Post) (lost : Bool) (value : Datum) (to : Place) (outcome : Outcome) (doing : Doing) where
  pub result_stored : destination_in graph post.number post.block ≡ Some to → run_setting mid ≡ run_setting old → Does (put (run_setting old) (site_of 0 to) value) old outcome mid →
      Keeps graph mid new (AtOutcome graph tasks post (stopped lost outcome)) (Next graph tasks doing) → Keeps graph old new (AtResult graph tasks post lost value) (Next graph tasks doing)
  result_stored leads same does k strict ticks run before ranked runs h =
      let w = state_of before old in
      let one : Some h.0 ≡ Some to = sym h.1 ∙ leads in
      let there : h.0 ≡ to = cc in
      let out = halting_if lost Stuck (put (setting_of strict graph) (site_of 0 to) value w) in
      let seen_is = ap (λ (s : Setting). seen (put s (site_of 0 to) value w)) (sym runs) ∙ does before in
      k strict ticks run before ranked (same ∙ runs)
      (outcome_left strict graph ticks run tasks post w (state_of before mid) out (stopped lost outcome)
      (stops lost (put (setting_of strict graph) (site_of 0 to) value w) outcome (state_of before mid) seen_is) (put_ticks (setting_of strict graph) (site_of 0 to) value lost w)
      (record {
        waiting = h.2.waiting;
        waits = h.2.waits;
        answer = h.2.answer;
        is_answer = record {
          body = h.2.is_answer.body;
          there = h.2.is_answer.there;
          out = h.2.is_answer.out;
          is_out = h.2.is_answer.is_out ∙ ap (λ (p : Place). halting_if lost Stuck (put (setting_of strict graph) (site_of 0 p) value w)) there;
          ends = h.2.is_answer.ends;
        };
        is = h.2.is;
        within = h.2.within;
      }))

  pub no_destination : destination_in graph post.number post.block ≡ None → Keeps graph old old (AtResult graph tasks post lost value) (Next graph tasks doing)
  no_destination none strict ticks run before ranked runs h = absurd (let k : None ≡ Some h.0 = sym none ∙ h.1 in cc)

module _ (graph : Graph) (old : World) where
  -- nothing waits
  nothing_waits : (strict : Bool) (ticks least : ℕ) (tasks : List Task) (waiting : List Waiting) → tasks ≡ [] → AllWait strict graph ticks least tasks [] waiting → waiting ≡ []
  nothing_waits strict ticks least tasks waiting e h = subst (λ tasks. AllWait strict graph ticks least tasks [] waiting) e h

  pub run_returns : (tasks rest : List Task) (value : Value) → tasks ≡ [] → Keeps graph old old (AtReturn graph tasks value) (Next graph rest (Doing.Ended End.Returned))
  run_returns tasks rest value e strict ticks run before ranked runs h =
      (runs, h.is ∙ ap (λ l. left strict graph ticks l h.answer) (nothing_waits strict ticks _ tasks h.waiting e h.waits) ∙ ap (left strict graph ticks []) h.is_answer.1)

  pub run_panics : (tasks rest : List Task) → tasks ≡ [] → Keeps graph old old (AtUnwound graph tasks) (Next graph rest (Doing.Ended End.Panicked))
  run_panics tasks rest e strict ticks run before ranked runs h =
      (runs, h.is ∙ ap (λ l. left strict graph ticks l h.answer) (nothing_waits strict ticks _ tasks h.waiting e h.waits) ∙ ap (left strict graph ticks []) h.is_answer)

  module _ (tasks rest : List Task) (post : Post) (lost : Bool) (is : tasks ≡ rest ++ Task.Call post lost ∷ []) where
    pub call_returned : (value : Value) (new : World) (doing : Doing) → Keeps graph old new (AtResult graph rest post lost (datum_of value)) (Next graph rest doing) → Keeps graph old new (AtReturn graph tasks value) (Next graph rest doing)
    call_returned value new doing k strict ticks run before ranked runs h =
        let w = state_of before old in
        let y = youngest_waits strict graph ticks (suc w.ticks) rest (Task.Call post lost) [] h.waiting (subst (λ t. AllWait strict graph ticks (suc w.ticks) t [] h.waiting) is h.waits) in
        k strict ticks run before ranked runs (
          y.waits.to,
          y.waits.leads,
          record {
            waiting = y.others;
            waits = y.rest;
            answer = resumed strict graph ticks y.first h.answer;
            is_answer = record {
              body = y.waits.body;
              there = y.waits.there;
              out = halting_if lost Stuck (put (setting_of strict graph) (site_of 0 y.waits.to) (datum_of value) w);
              is_out = refl;
              ends = ap (λ f. resumed strict graph ticks f h.answer) y.waits.is ∙ ap (resumed strict graph ticks (ForCall (place_in post y.waits.body) (site_of 0 y.waits.to) lost)) h.is_answer.1;
            };
            is = h.is ∙ ap (λ l. left strict graph ticks l h.answer) y.is;
            within = h.within;
          },
        )

    pub call_unwound : (new : World) (doing : Doing) → Keeps graph old new (AtOutcome graph rest post Outcome.Panics) (Next graph rest doing) → Keeps graph old new (AtUnwound graph tasks) (Next graph rest doing)
    call_unwound new doing k strict ticks run before ranked runs h =
        let w = state_of before old in
        let y = youngest_waits strict graph ticks (suc w.ticks) rest (Task.Call post lost) [] h.waiting (subst (λ t. AllWait strict graph ticks (suc w.ticks) t [] h.waiting) is h.waits) in
        k strict ticks run before ranked runs
        (record {
          waiting = y.others;
          waits = y.rest;
          answer = resumed strict graph ticks y.first h.answer;
          is_answer = record {
            body = y.waits.body;
            there = y.waits.there;
            out = Unwind w;
            is_out = refl;
            ends = ap (λ f. resumed strict graph ticks f h.answer) y.waits.is ∙ ap (resumed strict graph ticks (ForCall (place_in post y.waits.body) (site_of 0 y.waits.to) lost)) h.is_answer
                ∙ ap (goes_on strict graph ticks (place_in post y.waits.body)) (by lost);
          };
          is = h.is ∙ ap (λ l. left strict graph ticks l h.answer) y.is;
          within = h.within;
        })
      where
        by : (lost : Bool) → halting_if lost Stuck (Unwind (state_of before old)) ≡ Unwind (state_of before old)
        by true = refl
        by false = refl

  module _ (tasks rest : List Task) (post : Post) (drops : Drops) (dynamic : Dynamic) (is : tasks ≡ rest ++ Task.Drop post drops dynamic ∷ []) where
    pub drop_returned : (value : Value) (doing : Doing) → ResumesSo post drops dynamic false doing → Keeps graph old old (AtReturn graph tasks value) (Next graph rest doing)
    drop_returned value (Doing.Drops post_of after turn) r strict ticks run before ranked runs h =
        let w = state_of before old in
        let y = youngest_waits strict graph ticks (suc w.ticks) rest (Task.Drop post drops dynamic) [] h.waiting (subst (λ t. AllWait strict graph ticks (suc w.ticks) t [] h.waiting) is h.waits) in
        let outs = y.waits.0 in
        let d = y.waits.1 in (
          runs,
          record {
            waiting = y.others;
            waits = y.rest;
            answer = resumed strict graph ticks y.first h.answer;
            is_answer = subst (λ p. PostEnds strict graph ticks p (λ out. TurnLeft (setting_of strict graph) (bodies_of strict graph ticks) w out after turn) (resumed strict graph ticks y.first h.answer)) (sym r.0)
                (record {
                  body = d.body;
                  there = d.there;
                  out = outs (Returns (datum_of value) w);
                  is_out = r.1 (setting_of strict graph) (bodies_of strict graph ticks) d.w w outs d.later d.awaits (datum_of value);
                  ends = ap (λ f. resumed strict graph ticks f h.answer) d.is ∙ ap (resumed strict graph ticks (ForDrop (place_in post d.body) outs)) h.is_answer.1;
                });
            is = h.is ∙ ap (λ l. left strict graph ticks l h.answer) y.is;
            within = h.within;
          },
        )
    drop_returned value (Doing.Ended end) r strict ticks run before ranked runs h =
        let w = state_of before old in
        let y = youngest_waits strict graph ticks (suc w.ticks) rest (Task.Drop post drops dynamic) [] h.waiting (subst (λ t. AllWait strict graph ticks (suc w.ticks) t [] h.waiting) is h.waits) in
        let d = y.waits.1 in
        absurd (true≢false (sym (r.1.1 (setting_of strict graph) (bodies_of strict graph ticks) d.w w y.waits.0 d.later d.awaits).0))
    drop_returned value (Doing.Walks number block) r strict ticks run before ranked runs h = absurd r
    drop_returned value (Doing.Returned other) r strict ticks run before ranked runs h = absurd r
    drop_returned value Doing.Unwound r strict ticks run before ranked runs h = absurd r

    pub drop_unwound : (doing : Doing) → ResumesSo post drops dynamic true doing → Keeps graph old old (AtUnwound graph tasks) (Next graph rest doing)
    drop_unwound (Doing.Drops post_of after turn) r strict ticks run before ranked runs h =
        let w = state_of before old in
        let y = youngest_waits strict graph ticks (suc w.ticks) rest (Task.Drop post drops dynamic) [] h.waiting (subst (λ t. AllWait strict graph ticks (suc w.ticks) t [] h.waiting) is h.waits) in
        let outs = y.waits.0 in
        let d = y.waits.1 in (
          runs,
          record {
            waiting = y.others;
            waits = y.rest;
            answer = resumed strict graph ticks y.first h.answer;
            is_answer = subst (λ p. PostEnds strict graph ticks p (λ out. TurnLeft (setting_of strict graph) (bodies_of strict graph ticks) w out after turn) (resumed strict graph ticks y.first h.answer)) (sym r.0)
                (record {
                  body = d.body;
                  there = d.there;
                  out = outs (Unwinds w);
                  is_out = r.1 (setting_of strict graph) (bodies_of strict graph ticks) d.w w outs d.later d.awaits;
                  ends = ap (λ f. resumed strict graph ticks f h.answer) d.is ∙ ap (resumed strict graph ticks (ForDrop (place_in post d.body) outs)) h.is_answer;
                });
            is = h.is ∙ ap (λ l. left strict graph ticks l h.answer) y.is;
            within = h.within;
          },
        )
    drop_unwound (Doing.Ended end) r strict ticks run before ranked runs h =
        let w = state_of before old in
        let y = youngest_waits strict graph ticks (suc w.ticks) rest (Task.Drop post drops dynamic) [] h.waiting (subst (λ t. AllWait strict graph ticks (suc w.ticks) t [] h.waiting) is h.waits) in
        let outs = y.waits.0 in
        let d = y.waits.1 in
        let aborts = (r.1.1 (setting_of strict graph) (bodies_of strict graph ticks) d.w w outs d.later d.awaits).1 in (
          runs,
          h.is ∙ ap (λ l. left strict graph ticks l h.answer) y.is
              ∙ ap (left strict graph ticks y.others)
              (ap (λ f. resumed strict graph ticks f h.answer) d.is ∙ ap (resumed strict graph ticks (ForDrop (place_in post d.body) outs)) h.is_answer ∙ ap (goes_on strict graph ticks (place_in post d.body)) aborts)
              ∙ halts_end strict graph ticks y.others Aborted w (tasks_halt strict graph ticks (suc w.ticks) rest y.others y.rest) tt
              ∙ ap (λ e. (w.trace, e)) (sym r.0),
        )
    drop_unwound (Doing.Walks number block) r strict ticks run before ranked runs h = absurd r
    drop_unwound (Doing.Returned other) r strict ticks run before ranked runs h = absurd r
    drop_unwound Doing.Unwound r strict ticks run before ranked runs h = absurd r
