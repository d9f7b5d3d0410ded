use Rattle.std.proofs.Common.{◌∙◌, subst}
use Rattle.std.proofs.lemmas.Result.{IfOk-weaker}
use Rattle.cfg_meaning.specs.Actions.{site_of}
use Rattle.mir_base.specs.declared.trace.Event.{Event}
use Rattle.machine_steps.specs.Steps.{Does, stored_and_told}
use Rattle.machine_steps.specs.Worlds.{run_setting}
use Rattle.machine_steps.proofs.StepsDone.{value_whole, then_does, stuck_does, in_setting, box_made}
use Rattle.store_model.specs.Concrete.Effects.{boxed}
use Rattle.store_model.specs.Values.Datum.{datum_of}
use Rattle.machine_steps.proofs.world.World.new_box.Goals as goal

pub returns-in_default-clause-does : goal.returns-in_default-clause-does
returns-in_default-clause-does c = λ run.
    stuck_does c.args.self.now c.evaluate.new.self c.args.content.now c.in_ok-value.field-0 c.in_ok-value.ensures.taken c.in_default.is (boxed (run_setting c.args.self.now) (site_of 0 c.args.to.now))

pub box_of-requires : goal.box_of-requires
box_of-requires c = value_whole c.args.self.now c.evaluate.new.self c.args.content.now c.in_ok-value.field-0 c.in_ok-value.ensures.taken c.in-Some.value c.in-Some.is

pub returns-clause-does : goal.returns-clause-does
returns-clause-does c =
    let setting = run_setting c.args.self.now in
    let mid = c.evaluate.new.self in
    let drawn = c.draw.new.self in
    let new = c.put_and_tell.new.self in
    let serial = c.in_ok-serial.serial in
    IfOk-weaker c.put_and_tell.result _ _
    (λ outcome h run. then_does c.args.self.now mid c.args.content.now c.in_ok-value.field-0 c.in_ok-value.ensures.taken c.in-Some.value c.in-Some.is
    (boxed setting (site_of 0 c.args.to.now)) outcome new
    (box_made setting (site_of 0 c.args.to.now) mid drawn new outcome serial (datum_of c.in-Some.value) c.in_ok-serial.ensures.drawn c.in_ok-serial.ensures.next
    (subst (λ d. Does (stored_and_told setting (site_of 0 c.args.to.now) d (Event.Boxed serial)) drawn outcome new) c.in_ok-boxed.ensures.value
    (in_setting (run_setting drawn) setting (c.in_ok-serial.ensures.run ∙ c.in_ok-value.ensures.run)
    (λ s. stored_and_told s (site_of 0 c.args.to.now) (datum_of c.in_ok-boxed.boxed) (Event.Boxed serial)) drawn outcome new h))))
    c.put_and_tell.ensures.does
