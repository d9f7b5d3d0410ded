use Rattle.std.proofs.Common.{◌≡◌, None, slice_get, map, ap, sym, subst, ◌∙◌}
use Rattle.std.specs.Option.{option_map_or}
use Rattle.mir_ty.specs.declared.adt.Adt.{Adt}
use Rattle.store_model.specs.Concrete.Location.{Setting}
use Rattle.std.proofs.lemmas.Result.{IfOk-weaker}
use Rattle.cfg_meaning.specs.Actions.{site_of}
use Rattle.mir_base.specs.declared.trace.Event.{Event}
use Rattle.machine_steps.specs.Steps.{Does, stored_and_told}
use Rattle.machine_steps.specs.Worlds.{run_setting}
use Rattle.machine_steps.proofs.StepsDone.{values_whole, then_all_do, stuck_all_do, in_setting, unnumbered_made, numbered_made, none_there, some_there}
use Rattle.store_model.specs.Concrete.Effects.{built, put}
use Rattle.store_model.specs.Effects.{OfVariant}
use Rattle.store_model.specs.Values.Datum.{datum_of}
use Rattle.machine_steps.proofs.world.World.make.Goals as goal

pub returns-in_default-clause-does : goal.returns-in_default-clause-does
returns-in_default-clause-does c = λ run.
    stuck_all_do c.args.self.now c.evaluate_all.new.self c.args.parts.now c.in_ok-parts.field-0 c.in_ok-parts.ensures.taken c.in_default.is
    (built (run_setting c.args.self.now) (site_of 0 c.args.to.now) (OfVariant c.args.adt c.args.variant))

pub aggregate_of-requires : goal.aggregate_of-requires
aggregate_of-requires c = values_whole c.args.self.now c.evaluate_all.new.self c.args.parts.now c.in_ok-parts.field-0 c.in_ok-parts.ensures.taken c.in-Some.parts c.in-Some.is

pub aggregate_of-made-requires : goal.aggregate_of-made-requires
aggregate_of-made-requires c = values_whole c.args.self.now c.evaluate_all.new.self c.args.parts.now c.in_ok-parts.field-0 c.in_ok-parts.ensures.taken c.in-Some.parts c.in-Some.is

pub returns-then-is_none-clause-does : goal.returns-then-is_none-clause-does
returns-then-is_none-clause-does c =
    let setting = run_setting c.args.self.now in
    let mid = c.evaluate_all.new.self in
    let to = site_of 0 c.args.to.now in
    let is : option_map_or (λ (adt : Adt). adt.drop_body) (slice_get setting.items.adts c.args.adt) None ≡ c.drop_body_of.result =
    ap (λ (s : Setting). option_map_or (λ (adt : Adt). adt.drop_body) (slice_get s.items.adts c.args.adt) None) (sym c.in_ok-parts.ensures.run) ∙ sym c.drop_body_of.ensures
    in
    IfOk-weaker c.put.result _ _
    (λ outcome h run. then_all_do c.args.self.now mid c.args.parts.now c.in_ok-parts.field-0 c.in_ok-parts.ensures.taken c.in-Some.parts c.in-Some.is (built setting to (OfVariant c.args.adt c.args.variant))
    outcome c.put.new.self
    (unnumbered_made setting to c.args.adt c.args.variant (map datum_of c.in-Some.parts) mid c.drop_body_of.result is (none_there c.drop_body_of.result c.if-is_none.ensures) outcome c.put.new.self
    (subst (λ d. Does (put setting to d) mid outcome c.put.new.self) c.aggregate_of.ensures.value
    (in_setting (run_setting mid) setting c.in_ok-parts.ensures.run (λ s. put s to (datum_of c.aggregate_of.result)) mid outcome c.put.new.self h))))
    c.put.ensures.does

pub returns-clause-does : goal.returns-clause-does
returns-clause-does c =
    let setting = run_setting c.args.self.now in
    let mid = c.evaluate_all.new.self in
    let drawn = c.draw.new.self in
    let new = c.put_and_tell.new.self in
    let to = site_of 0 c.args.to.now in
    let serial = c.in_ok-serial.serial in
    let is : option_map_or (λ (adt : Adt). adt.drop_body) (slice_get setting.items.adts c.args.adt) None ≡ c.drop_body_of.result =
    ap (λ (s : Setting). option_map_or (λ (adt : Adt). adt.drop_body) (slice_get s.items.adts c.args.adt) None) (sym c.in_ok-parts.ensures.run) ∙ sym c.drop_body_of.ensures
    in
    let some = some_there c.drop_body_of.result c.if-is_none.ensures in
    IfOk-weaker c.put_and_tell.result _ _
    (λ outcome h run. then_all_do c.args.self.now mid c.args.parts.now c.in_ok-parts.field-0 c.in_ok-parts.ensures.taken c.in-Some.parts c.in-Some.is (built setting to (OfVariant c.args.adt c.args.variant))
    outcome new
    (numbered_made setting to c.args.adt c.args.variant (map datum_of c.in-Some.parts) mid c.drop_body_of.result is some.0 some.1 drawn new outcome serial c.in_ok-serial.ensures.drawn c.in_ok-serial.ensures.next
    (subst (λ d. Does (stored_and_told setting to d (Event.Make c.args.adt serial)) drawn outcome new) c.aggregate_of-made.ensures.value
    (in_setting (run_setting drawn) setting (c.in_ok-serial.ensures.run ∙ c.in_ok-parts.ensures.run) (λ s. stored_and_told s to (datum_of c.aggregate_of-made.result) (Event.Make c.args.adt serial)) drawn outcome new h))))
    c.put_and_tell.ensures.does
