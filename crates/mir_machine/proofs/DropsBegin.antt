-- How drops of places begin, and go on.
use Rattle.std.proofs.Common.{◌≡◌, ℕ, suc, Bool, true, false, List, [], ◌∷◌, ◌++◌, Option, Some, None, refl, ap, sym, subst, ◌∙◌, arith}
use Rattle.cfg_graph.specs.declared.graph.Graph.{Graph}
use Rattle.cfg_graph.specs.declared.place.Place.{Place}
use Rattle.cfg_graph.specs.declared.terminator.Term.{Term}
use Rattle.cfg_meaning.specs.Actions.{mode_of, site_of}
use Rattle.cfg_meaning.specs.Laws.{bodies_of}
use Rattle.cfg_meaning.specs.Programs.{setting_of}
use Rattle.machine_steps.specs.declared.drops.Drops.{Drops}
use Rattle.machine_steps.specs.declared.drops.Turn.{Turn}
use Rattle.machine_steps.specs.Continuation.{finished}
use Rattle.machine_steps.specs.Turns.{TurnLeft}
use Rattle.mir_base.specs.declared.trace.End.{End}
use Rattle.mir_base.specs.declared.trace.Event.{Event}
use Rattle.mir_base.specs.Trace.{Trace}
use Rattle.mir_machine.proofs.TasksLeft.{all_wait_with_less, moved, task_waits}
use Rattle.mir_machine.proofs.TermsLeft.{AtOut, drop_begins, drops_no_part, drops_nothing, drops_nowhere, drops_rest, drops_whole, outcome_left, stuck_out, term_out}
use Rattle.mir_machine.specs.declared.tasks.Doing.{Doing}
use Rattle.mir_machine.specs.declared.tasks.Post.{Post}
use Rattle.mir_machine.specs.declared.tasks.Task.{Task}
use Rattle.mir_machine.specs.Continuation.{ForDrop, goes_on, left}
use Rattle.mir_machine.specs.Tasks.{AtEntry, AtOutcome, AtTerm, AtTurn, DoingLeft, DropsThat, Keeps, Next, PostEnds, drop_outcome, place_in}
use Rattle.machine_steps.proofs.Operands.{whole_same}
use Rattle.machine_steps.specs.declared.actions.Outcome.{Outcome}
use Rattle.machine_steps.specs.declared.world.World.{World}
use Rattle.machine_steps.specs.Steps.{seen, Halted}
use Rattle.machine_steps.specs.Worlds.{state_of, run_setting}
use Rattle.machine_store.proofs.SameReach.{reach_same}
use Rattle.machine_store.specs.declared.location.Located.{Located}
use Rattle.machine_store.specs.declared.types.Dynamic.{Dynamic}
use Rattle.machine_store.specs.Standing.{located_of, with_activations}
use Rattle.store_model.specs.Concrete.Effects.{drop, whole_at}
use Rattle.store_model.specs.Concrete.Location as location
use Rattle.store_model.specs.Concrete.Location.{Setting, reach}
use Rattle.store_model.proofs.Concrete.Effects.{ticks_of}
use Rattle.store_model.proofs.Effects.Laws.{NoMore}
use Rattle.store_model.specs.Concrete.State.{Bodies, State}
use Rattle.store_model.specs.declared.address.Addr.{Addr}
use Rattle.store_model.specs.Effects.{Stuck, Out, Go, Unwind, Halts}
use Rattle.store_model.specs.Values.Datum.{Datum, Address, datum_of, datum_of_layer}
use Rattle.store_model.specs.declared.value.Value.{Value, Value-F, fold-roll-Value}
use Rattle.store_model.specs.declared.value.Value.TheVariants.{rolls-Address}

module _ (graph : Graph) (tasks : List Task) (world : World) (post : Post) (place : Place) where
  abbrev drop_term : Term
  drop_term = Term.DropAt place post.onward post.unwind

  -- what is left where a drop of a place does this
  dropped_out : (strict : Bool) (ticks : ℕ) (run : Trace × End) (before : Trace) (out : Out State) →
      drop (setting_of strict graph) (bodies_of strict graph ticks) (suc ticks) (mode_of post.unwind) (site_of 0 place) (state_of before world) ≡ out →
      AtTerm graph tasks post.number post.block drop_term strict ticks run (state_of before world) → AtOut strict graph ticks run tasks post (state_of before world) out
  dropped_out strict ticks run before out e h =
      subst (AtOut strict graph ticks run tasks post (state_of before world)) e
      (term_out strict graph ticks run tasks post drop_term (state_of before world)
      (drop (setting_of strict graph) (bodies_of strict graph ticks) (suc ticks) (mode_of post.unwind) (site_of 0 place) (state_of before world)) (λ body. refl) h.1)

  stuck_there : (strict : Bool) (ticks : ℕ) (run : Trace × End) (before : Trace) (doing : Doing) → doing ≡ Doing.Ended (End.Stuck post.number post.block) →
      drop (setting_of strict graph) (bodies_of strict graph ticks) (suc ticks) (mode_of post.unwind) (site_of 0 place) (state_of before world) ≡ Halts Stuck (state_of before world) →
      AtTerm graph tasks post.number post.block drop_term strict ticks run (state_of before world) → DoingLeft strict graph ticks run tasks (state_of before world) doing
  stuck_there strict ticks run before doing is e h =
      let w = state_of before world in
      subst (λ doing. DoingLeft strict graph ticks run tasks w doing) (sym is)
      (stuck_out strict graph ticks run tasks post w w (dropped_out strict ticks run before (Halts Stuck w) e h))

  module _ (strict : Bool) (runs : run_setting world ≡ setting_of strict graph) (before : Trace) where
    is_strict : (setting_of strict graph).strict ≡ world.strict
    is_strict = ap (λ (s : Setting). s.strict) (sym runs)

    whole_is : whole_at (setting_of strict graph) (state_of before world) (site_of 0 place)
        ≡ whole_at (setting_of true world.graph.now) (with_activations (state_of before world).activations) (site_of 0 place)
    whole_is =
        ap (λ (s : Setting). whole_at s (state_of before world) (site_of 0 place)) (sym runs) ∙ whole_same world.strict world.graph.now (state_of before world) (site_of 0 place)

    reach_is : reach (setting_of strict graph) (state_of before world) (site_of 0 place).place
        ≡ reach (setting_of true world.graph.now) (with_activations (state_of before world).activations) (site_of 0 place).place
    reach_is =
        ap (λ (s : Setting). reach s (state_of before world) (site_of 0 place).place) (sym runs) ∙ reach_same world.strict world.graph.now (state_of before world) (site_of 0 place).place

  abbrev whole_there : Option location.Located
  whole_there = whole_at (setting_of true world.graph.now) (with_activations (state_of [] world).activations) (site_of 0 place)

  abbrev reach_there : location.Reached
  reach_there = reach (setting_of true world.graph.now) (with_activations (state_of [] world).activations) (site_of 0 place).place

  pub whole_drops : (s : Located) (doing : Doing) → whole_there ≡ Some (located_of s) → DropsThat post s.address s.dynamic doing → world.strict ≡ true →
      Keeps graph world world (AtTerm graph tasks post.number post.block drop_term) (Next graph tasks doing)
  whole_drops s doing is that strictly strict ticks run before ranked runs h =
      let w = state_of before world in
      let e = drops_whole (setting_of strict graph) (bodies_of strict graph ticks) (suc ticks) (mode_of post.unwind) (site_of 0 place) w (located_of s) (is_strict strict runs before ∙ strictly) (whole_is strict runs before ∙ is) in
      (runs, drop_begins strict graph ticks run tasks post w _ s.address s.dynamic doing that refl (dropped_out strict ticks run before _ e h))

  pub whole_missing : (doing : Doing) → whole_there ≡ None → doing ≡ Doing.Ended (End.Stuck post.number post.block) → world.strict ≡ true →
      Keeps graph world world (AtTerm graph tasks post.number post.block drop_term) (Next graph tasks doing)
  whole_missing doing is stuck strictly strict ticks run before ranked runs h = (
    runs,
    stuck_there strict ticks run before doing stuck
        (drops_no_part (setting_of strict graph) (bodies_of strict graph ticks) (suc ticks) (mode_of post.unwind) (site_of 0 place) (state_of before world) (is_strict strict runs before ∙ strictly) (whole_is strict runs before ∙ is)) h,
  )

  pub rest_drops : (s : Located) (doing : Doing) → reach_there ≡ location.Reaches (located_of s) → DropsThat post s.address s.dynamic doing → world.strict ≡ false →
      Keeps graph world world (AtTerm graph tasks post.number post.block drop_term) (Next graph tasks doing)
  rest_drops s doing is that raw strict ticks run before ranked runs h =
      let w = state_of before world in
      let e = drops_rest (setting_of strict graph) (bodies_of strict graph ticks) (suc ticks) (mode_of post.unwind) (site_of 0 place) w (located_of s) (is_strict strict runs before ∙ raw) (reach_is strict runs before ∙ is) in
      (runs, drop_begins strict graph ticks run tasks post w _ s.address s.dynamic doing that refl (dropped_out strict ticks run before _ e h))

  pub rest_nothing : reach_there ≡ location.CutOff → world.strict ≡ false →
      Keeps graph world world (AtTerm graph tasks post.number post.block drop_term) (Next graph tasks (Doing.Walks post.number post.onward))
  rest_nothing is raw strict ticks run before ranked runs h =
      let w = state_of before world in
      let e = drops_nothing (setting_of strict graph) (bodies_of strict graph ticks) (suc ticks) (mode_of post.unwind) (site_of 0 place) w (is_strict strict runs before ∙ raw) (reach_is strict runs before ∙ is) in
      let out = dropped_out strict ticks run before (Go w) e h in (
        runs,
        moved strict graph ticks run tasks (suc w.ticks) (suc w.ticks) w w (PostEnds strict graph ticks post (λ o. o ≡ Go w)) _ (omega arith) (omega arith)
            (λ answer p. record { body = p.body; there = p.there; ends = p.ends ∙ ap (goes_on strict graph ticks (place_in post p.body)) p.is_out }) out,
      )

  pub rest_nowhere : (doing : Doing) → reach_there ≡ location.Nowhere → doing ≡ Doing.Ended (End.Stuck post.number post.block) → world.strict ≡ false →
      Keeps graph world world (AtTerm graph tasks post.number post.block drop_term) (Next graph tasks doing)
  rest_nowhere doing is stuck raw strict ticks run before ranked runs h = (
    runs,
    stuck_there strict ticks run before doing stuck
        (drops_nowhere (setting_of strict graph) (bodies_of strict graph ticks) (suc ticks) (mode_of post.unwind) (site_of 0 place) (state_of before world) (reach_is strict runs before ∙ is)) h,
  )

-- Turns.

module _ (graph : Graph) (tasks : List Task) (old new : World) (post : Post) (drops : Drops) (doing : Doing) where
  -- a drop that ended goes on by how it ended
  pub ended_goes_on : Keeps graph old new (AtOutcome graph tasks post (drop_outcome drops.panicked)) (Next graph tasks doing) → Keeps graph old new (AtTurn graph tasks post drops Turn.Ends) (Next graph tasks doing)
  ended_goes_on k strict ticks run before ranked runs h = k strict ticks run before ranked runs (by drops.panicked refl)
    where
      by : (b : Bool) → drops.panicked ≡ b → AtOutcome graph tasks post (drop_outcome b) strict ticks run (state_of before old)
      by true e = record {
        waiting = h.waiting;
        waits = h.waits;
        answer = h.answer;
        is_answer = record { body = h.is_answer.body; there = h.is_answer.there; out = h.is_answer.out; is_out = h.is_answer.is_out ∙ ap (λ p. finished p (Go (state_of before old))) e; ends = h.is_answer.ends };
        is = h.is;
        within = h.within;
      }
      by false e = record {
        waiting = h.waiting;
        waits = h.waits;
        answer = h.answer;
        is_answer = record { body = h.is_answer.body; there = h.is_answer.there; out = h.is_answer.out; is_out = h.is_answer.is_out ∙ ap (λ p. finished p (Go (state_of before old))) e; ends = h.is_answer.ends };
        is = h.is;
        within = h.within;
      }

module _ (graph : Graph) (tasks : List Task) (world : World) (post : Post) (drops : Drops) where
  pub stuck_turn : Keeps graph world world (AtTurn graph tasks post drops Turn.Stuck) (Next graph tasks (Doing.Ended (End.Stuck post.number post.block)))
  stuck_turn strict ticks run before ranked runs h =
      let w = state_of before world in (
        runs,
        outcome_left strict graph ticks run tasks post w w h.is_answer.out Outcome.Stuck h.is_answer.is_out (halted w.ticks w.trace h.is_answer.out h.is_answer.is_out)
            (record {
              waiting = h.waiting;
              waits = h.waits;
              answer = h.answer;
              is_answer = record { body = h.is_answer.body; there = h.is_answer.there; out = h.is_answer.out; is_out = refl; ends = h.is_answer.ends };
              is = h.is;
              within = h.within;
            }),
      )
    where
      halted : (m : ℕ) (t : Trace) (out : Out State) → seen out ≡ Halted Stuck t → NoMore ticks_of m out
      halted m t (Go v) e = absurd (cc)
      halted m t (Unwind v) e = absurd (cc)
      halted m t (Halts halt v) e = tt

-- a turn leaves what was left
module _ (graph : Graph) (tasks : List Task) (old new : World) (post : Post) (drops after : Drops) (turn next : Turn) where
  pub turn_kept : run_setting new ≡ run_setting old → new.ticks ≡ old.ticks →
      ((before : Trace) (run : Bodies) (out : Out State) → TurnLeft (run_setting old) run (state_of before old) out drops turn → TurnLeft (run_setting old) run (state_of before new) out after next) →
      Keeps graph old new (AtTurn graph tasks post drops turn) (Next graph tasks (Doing.Drops post after next))
  turn_kept same kept left strict ticks run before ranked runs h =
      let w = state_of before old in
      let v = state_of before new in
      let bodies = bodies_of strict graph ticks in (
        same ∙ runs,
        moved strict graph ticks run tasks (suc w.ticks) (suc v.ticks) w v (PostEnds strict graph ticks post (λ out. TurnLeft (setting_of strict graph) bodies w out drops turn)) _ (omega arith) (omega arith)
            (λ answer p. record {
              body = p.body;
              there = p.there;
              out = p.out;
              is_out = subst (λ s. TurnLeft s bodies v p.out after next) runs (left before bodies p.out (subst (λ s. TurnLeft s bodies w p.out drops turn) (sym runs) p.is_out));
              ends = p.ends;
            }) h,
      )

-- the `Drop` body is entered, and its drop waits
module _ (graph : Graph) (tasks : List Task) (old new : World) (post : Post) (drops : Drops) (dynamic : Dynamic) (adt serial body : ℕ) (doing : Doing) where
  pub drop_waits : Keeps graph old new (AtEntry graph (tasks ++ Task.Drop post drops dynamic ∷ []) (Event.Dropped adt serial) body (Address drops.address ∷ [])) (Next graph (tasks ++ Task.Drop post drops dynamic ∷ []) doing) →
      Keeps graph old new (AtTurn graph tasks post drops (Turn.Enters adt serial body dynamic)) (Next graph (tasks ++ Task.Drop post drops dynamic ∷ []) doing)
  drop_waits k strict ticks run before ranked runs h =
      let w = state_of before old in
      let enters = h.is_answer.is_out in
      k strict ticks run before ranked runs
      (record {
        waiting = ForDrop (place_in post h.is_answer.body) enters.outs ∷ h.waiting;
        waits = task_waits strict graph ticks w.ticks tasks (Task.Drop post drops dynamic) (ForDrop (place_in post h.is_answer.body) enters.outs) [] h.waiting
            (all_wait_with_less strict graph ticks (suc w.ticks) w.ticks (omega arith) tasks [] h.waiting h.waits)
            (enters.outs, record { body = h.is_answer.body; there = h.is_answer.there; w = w; later = omega arith; awaits = enters.awaits; is = refl });
        answer = bodies_of strict graph ticks (Event.Dropped adt serial) body (Address drops.address ∷ []) w;
        is_answer = refl;
        is = h.is ∙ ap (left strict graph ticks h.waiting) (h.is_answer.ends ∙ ap (goes_on strict graph ticks (place_in post h.is_answer.body)) enters.is);
        within = h.within;
      })

pub datum_of_address : (address : Addr) → datum_of (Value.Address address) ≡ Address address
datum_of_address address = ap datum_of (sym (rolls-Address address)) ∙ fold-roll-Value Datum datum_of_layer (Value-F.Address address)
