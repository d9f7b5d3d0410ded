use Rattle.std.proofs.lemmas.Result.{IfOk-weaker}
use Rattle.cfg_meaning.specs.Actions.{site_of}
use Rattle.machine_steps.specs.Worlds.{run_setting}
use Rattle.machine_steps.proofs.StepsDone.{value_whole, then_does, stuck_does, in_setting}
use Rattle.store_model.specs.Concrete.Effects.{put}
use Rattle.store_model.specs.Values.Datum.{datum_of}
use Rattle.machine_steps.proofs.world.World.assign.Goals as goal

pub put-requires : goal.put-requires
put-requires c = value_whole c.args.self.now c.evaluate.new.self c.args.from.now c.in_ok-value.field-0 c.in_ok-value.ensures.taken c.in-Some.value c.in-Some.is

pub returns-in-Some-clause-does : goal.returns-in-Some-clause-does
returns-in-Some-clause-does c =
    IfOk-weaker c.put.result _ _
    (λ outcome h run. then_does c.args.self.now c.evaluate.new.self c.args.from.now c.in_ok-value.field-0 c.in_ok-value.ensures.taken c.in-Some.value c.in-Some.is
    (put (run_setting c.args.self.now) (site_of 0 c.args.to.now)) outcome c.put.new.self
    (in_setting (run_setting c.evaluate.new.self) (run_setting c.args.self.now) c.in_ok-value.ensures.run (λ setting. put setting (site_of 0 c.args.to.now) (datum_of c.in-Some.value))
    c.evaluate.new.self outcome c.put.new.self h))
    c.put.ensures.does

pub returns-in-None-clause-does : goal.returns-in-None-clause-does
returns-in-None-clause-does c = λ run.
    stuck_does c.args.self.now c.evaluate.new.self c.args.from.now c.in_ok-value.field-0 c.in_ok-value.ensures.taken c.in-None.is (put (run_setting c.args.self.now) (site_of 0 c.args.to.now))
