use Rattle.std.proofs.Common.{subst}
use Rattle.std.proofs.lemmas.Result.{IfOk-weaker}
use Rattle.cfg_meaning.specs.Actions.{site_of}
use Rattle.machine_steps.specs.Steps.{Does}
use Rattle.machine_steps.specs.Worlds.{run_setting}
use Rattle.machine_steps.proofs.StepsDone.{values_whole, then_all_do, stuck_all_do, in_setting}
use Rattle.store_model.specs.Concrete.Effects.{put, built}
use Rattle.store_model.specs.Effects.{OfTuple}
use Rattle.store_model.specs.Values.Datum.{datum_of}
use Rattle.machine_steps.proofs.world.World.aggregate.Goals as goal

pub aggregate_of-requires : goal.aggregate_of-requires
aggregate_of-requires c = values_whole c.args.self.now c.evaluate_all.new.self c.args.parts.now c.in_ok-parts.field-0 c.in_ok-parts.ensures.taken c.in-Some.parts c.in-Some.is

pub returns-in-Some-clause-does : goal.returns-in-Some-clause-does
returns-in-Some-clause-does c =
    let setting = run_setting c.args.self.now in
    let mid = c.evaluate_all.new.self in
    IfOk-weaker c.put.result _ _
    (λ outcome h run. then_all_do c.args.self.now mid c.args.parts.now c.in_ok-parts.field-0 c.in_ok-parts.ensures.taken c.in-Some.parts c.in-Some.is
    (built setting (site_of 0 c.args.to.now) OfTuple) outcome c.put.new.self
    (subst (λ d. Does (put setting (site_of 0 c.args.to.now) d) mid outcome c.put.new.self) c.aggregate_of.ensures.value
    (in_setting (run_setting mid) setting c.in_ok-parts.ensures.run (λ s. put s (site_of 0 c.args.to.now) (datum_of c.aggregate_of.result)) mid outcome c.put.new.self h)))
    c.put.ensures.does

pub returns-in-None-clause-does : goal.returns-in-None-clause-does
returns-in-None-clause-does c = λ run.
    stuck_all_do c.args.self.now c.evaluate_all.new.self c.args.parts.now c.in_ok-parts.field-0 c.in_ok-parts.ensures.taken c.in-None.is (built (run_setting c.args.self.now) (site_of 0 c.args.to.now) OfTuple)
