use Rattle.std.proofs.Common.{◌≡◌, ◌++◌, true, option_map, map, ap, sym, subst, ◌∙◌}
use Rattle.std.proofs.lemmas.Result.{IfOk-weaker}
use Rattle.cfg_meaning.specs.Programs.{setting_of}
use Rattle.machine_steps.specs.Continuation.{is_expected}
use Rattle.machine_steps.specs.Seen.{IsSeen}
use Rattle.machine_steps.specs.Swept.{SweptSo, Sweeping, freed, with_events}
use Rattle.machine_steps.specs.Turns.{TurnLeft, stage_by}
use Rattle.machine_steps.specs.declared.drops.Turn.{Turn}
use Rattle.machine_steps.proofs.TurnsLeft.{visited_nothing, visited_unexpected, visited_reads, visited_swept, nothing_found, something_found, is_of_run}
use Rattle.machine_store.specs.Activations.{activations_of}
use Rattle.machine_store.specs.Standing.{dynamic_of, with_activations}
use Rattle.machine_steps.specs.Worlds.{event_of, state_of, run_setting}
use Rattle.store_model.specs.Concrete.Location.{located_at, stored_at}
use Rattle.store_model.specs.Values.Datum.{Gone}
use Rattle.machine_steps.proofs.visit.visit.Goals as goal

pub returns-in_default-clause-left : goal.returns-in_default-clause-left
returns-in_default-clause-left c = λ before run out h.
    let world = c.args.world.now in
    let address = c.args.drops.now.address in
    let there = located_at (setting_of true world.graph.now) (with_activations (activations_of world.store)) address in
    let sees = IsSeen world.graph.now.items c.args.has_run there (map event_of c.new-told.result) (map event_of c.look.new.told) in
    visited_nothing (run_setting world) run (state_of before world) out c.args.drops.now c.args.has_run c.args.expected h
    (nothing_found world before address (subst sees c.in_default.is c.in_ok-sight.ensures))

pub returns-then-not-is_expected-clause-left : goal.returns-then-not-is_expected-clause-left
returns-then-not-is_expected-clause-left c = λ before run out h.
    let world = c.args.world.now in
    let address = c.args.drops.now.address in
    let there = located_at (setting_of true world.graph.now) (with_activations (activations_of world.store)) address in
    let sees = IsSeen world.graph.now.items c.args.has_run there (map event_of c.new-told.result) (map event_of c.look.new.told) in
    let finds = (subst sees c.in-Some.is c.in_ok-sight.ensures).finds in
    visited_unexpected (run_setting world) run (state_of before world) out c.args.drops.now c.args.has_run c.args.expected h finds.s
    (something_found world before address c.in-Some.sight.found finds)
    (ap (is_expected world.graph.now.items (option_map dynamic_of c.args.expected)) finds.dynamic_is ∙ sym c.is_expected.ensures ∙ c.if-not-is_expected.true)

pub returns-in-Over-clause-left : goal.returns-in-Over-clause-left
returns-in-Over-clause-left c = λ before run out h.
    let world = c.args.world.now in
    let items = world.graph.now.items in
    let address = c.args.drops.now.address in
    let there = located_at (setting_of true world.graph.now) (with_activations (activations_of world.store)) address in
    let told = map event_of c.look.new.told in
    let sight = subst (IsSeen items c.args.has_run there (map event_of c.new-told.result) told) c.in-Some.is c.in_ok-sight.ensures in
    let finds = sight.finds in
    let swept = subst (λ pass. SweptSo pass (Sweeping items (stage_by c.args.has_run) finds.s.value finds.s.dynamic (map event_of c.new-told.result) told)) c.in-Over.is sight.swept in
    let gone = stored_at address Gone (state_of before world) in
    let is : state_of before c.put_aside.new.world ≡ with_events (freed finds.s.value) gone =
    c.in_ok-put_aside-in-Over.ensures.gone before
    ∙ ap (λ l. with_events (map event_of l) gone) c.as_slice.ensures
    ∙ ap (λ l. with_events l gone) (swept.told ∙ ap (λ l. map event_of l ++ freed finds.s.value) c.new-told.ensures)
    in
    subst (λ v. TurnLeft (run_setting world) run v out c.args.drops.now Turn.Leaves) (sym is)
    (visited_swept (run_setting world) run (state_of before world) out c.args.drops.now c.args.has_run c.args.expected h finds.s
    (something_found world before address c.in-Some.sight.found finds)
    (ap (is_expected items (option_map dynamic_of c.args.expected)) finds.dynamic_is ∙ sym c.is_expected.ensures ∙ c.if-not-is_expected.false)
    swept.swept swept.stands)

pub returns-clause-left : goal.returns-clause-left
returns-clause-left c =
    let world = c.args.world.now in
    let items = world.graph.now.items in
    let address = c.args.drops.now.address in
    let there = located_at (setting_of true world.graph.now) (with_activations (activations_of world.store)) address in
    let sees = IsSeen items c.args.has_run there (map event_of c.new-told.result) (map event_of c.look.new.told) in
    let sight = subst sees c.in-Some.is c.in_ok-sight.ensures in
    let finds = sight.finds in
    IfOk-weaker c.begin.result _ _
    (λ turn f before run out h.
    f items c.args.has_run sight.own (run_setting world) run (state_of before world) out finds.s (is_of_run world before) (something_found world before address c.in-Some.sight.found finds) finds.dynamic_is finds.shows
    (visited_reads (run_setting world) run (state_of before world) out c.args.drops.now c.args.has_run c.args.expected h finds.s (something_found world before address c.in-Some.sight.found finds)
    (ap (is_expected items (option_map dynamic_of c.args.expected)) finds.dynamic_is ∙ sym c.is_expected.ensures ∙ c.if-not-is_expected.false)))
    c.begin.ensures
