use Rattle.std.proofs.Common.{map, ap, sym, subst, ◌∙◌}
use Rattle.std.proofs.lemmas.Result.{IfOk-weaker}
use Rattle.cfg_graph.specs.declared.terminator.Term.{Term}
use Rattle.mir_base.specs.declared.trace.Event.{Event}
use Rattle.mir_machine.proofs.CallsLeft.{virtual_waits, virtual_without_body, virtual_without_values, virtual_same}
use Rattle.mir_machine.specs.Tasks.{AtEntry, AtTerm, Keeps, Next}
use Rattle.machine_steps.proofs.StepsDone.{values_whole}
use Rattle.machine_steps.specs.Worlds.{EvaluatesAll, state_of, run_setting}
use Rattle.machine_store.specs.Standing.{with_activations}
use Rattle.machine_store.specs.Activations.{activations_of}
use Rattle.cfg_meaning.specs.Programs.{setting_of}
use Rattle.std.proofs.Common.{true}
use Rattle.store_model.specs.Concrete.Effects.{virtual_body}
use Rattle.store_model.specs.Values.Datum.{datum_of}
use Rattle.mir_machine.proofs.calls.call_virtual.Goals as goal

pub returns-in_default : goal.returns-in_default
returns-in_default c =
    let old = c.args.world.now in
    let mid = c.evaluate_all.new.self in
    virtual_without_values c.args.graph.now c.args.tasks.now old mid c.args.post c.args.to.now c.args.args.now c.in_ok-values.ensures.run
    (λ before. subst (λ t. EvaluatesAll (run_setting old) c.args.args.now (state_of before old) t (state_of before mid)) c.in_default.is (c.in_ok-values.ensures.taken before)) c.stuck.result c.stuck.ensures c.args.trait_no c.args.method

pub returns-in_default-2 : goal.returns-in_default-2
returns-in_default-2 c =
    let old = c.args.world.now in
    let mid = c.evaluate_all.new.self in
    let values = map datum_of c.in-Some.values in
    virtual_without_body c.args.graph.now c.args.tasks.now old mid c.args.post c.args.to.now c.args.args.now c.in_ok-values.ensures.run values
    (λ before. (subst (λ t. EvaluatesAll (run_setting old) c.args.args.now (state_of before old) t (state_of before mid)) c.in-Some.is (c.in_ok-values.ensures.taken before)).1)
    c.args.trait_no c.args.method
    (λ before. virtual_same mid c.args.trait_no c.args.method before values
    ∙ ap (λ l. virtual_body (setting_of true mid.graph.now) c.args.trait_no c.args.method (with_activations (activations_of mid.store)) (map datum_of l)) (sym c.as_slice.ensures)
    ∙ sym c.in_ok-body.ensures ∙ c.in_default-2.is)
    c.stuck-in_default-2.result c.stuck-in_default-2.ensures

pub enter-requires : goal.enter-requires
enter-requires c = values_whole c.args.world.now c.evaluate_all.new.self c.args.args.now c.in_ok-values.field-0 c.in_ok-values.ensures.taken c.in-Some.values c.in-Some.is

pub returns : goal.returns
returns c =
    let graph = c.args.graph.now in
    let old = c.args.world.now in
    let mid = c.evaluate_all.new.self in
    let new = c.enter.new.world in
    let values = map datum_of c.in-Some.values in
    let pushed = c.in_ok-push.ensures.pushed in
    IfOk-weaker c.enter.result _ _
    (λ doing k.
    subst (λ tasks. Keeps graph old new (AtTerm graph c.args.tasks.now c.args.post.number c.args.post.block (Term.Virtual c.args.to.now c.args.trait_no c.args.method c.args.args.now c.args.post.onward c.args.post.unwind)) (Next graph tasks doing)) (sym pushed)
    (virtual_waits graph c.args.tasks.now old mid c.args.post c.args.to.now c.args.args.now c.in_ok-values.ensures.run values
    (λ before. (subst (λ t. EvaluatesAll (run_setting old) c.args.args.now (state_of before old) t (state_of before mid)) c.in-Some.is (c.in_ok-values.ensures.taken before)).1) new c.is_never-lost.result doing c.is_never-lost.ensures
    c.args.trait_no c.args.method c.in-Some-2.body
    (λ before. virtual_same mid c.args.trait_no c.args.method before values
    ∙ ap (λ l. virtual_body (setting_of true mid.graph.now) c.args.trait_no c.args.method (with_activations (activations_of mid.store)) (map datum_of l)) (sym c.as_slice.ensures)
    ∙ sym c.in_ok-body.ensures ∙ c.in-Some-2.is)
    (subst (λ tasks. Keeps graph mid new (AtEntry graph tasks (Event.Call c.in-Some-2.body) c.in-Some-2.body values) (Next graph tasks doing)) pushed k)))
    c.enter.ensures
