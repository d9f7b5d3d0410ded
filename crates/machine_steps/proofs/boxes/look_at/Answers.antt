use Rattle.std.proofs.Common.{◌≡◌, ◌&&◌, ap, sym, ◌∙◌}
use Rattle.std.specs.List.{list_all}
use Rattle.std.specs.Option.{is_some}
use Rattle.machine_steps.specs.Boxes.{is_numberless}
use Rattle.store_model.specs.Values.Datum.{datum_of}
use Rattle.machine_steps.proofs.BoxesDone.{numberless_parts, numbered_parts, numbered_box, and_false}
use Rattle.machine_steps.proofs.boxes.look_at.Goals as goal

pub returns-in_ok-add_all-in-Parts : goal.returns-in_ok-add_all-in-Parts
returns-in_ok-add_all-in-Parts c =
    ap (λ b. list_all (λ value. is_numberless (datum_of value.now)) c.args.work.now && b)
    (numberless_parts c.args.value.now c.in-Parts.variant c.in-Parts.serial c.in-Parts.parts c.in-Parts.is (sym c.if-is_some.ensures)
    ∙ ap (list_all (λ part. is_numberless (datum_of part))) (sym c.as_slice.ensures))
    ∙ sym c.in_ok-add_all-in-Parts.ensures

pub returns-in-Boxed : goal.returns-in-Boxed
returns-in-Boxed c = and_false _ _ (numbered_box c.args.value.now c.in-Boxed.serial c.in-Boxed.impl_no c.in-Boxed.inside c.in-Boxed.is)

pub returns-then-is_some : goal.returns-then-is_some
returns-then-is_some c = and_false _ _ (numbered_parts c.args.value.now c.in-Parts.variant c.in-Parts.serial c.in-Parts.parts c.in-Parts.is (sym c.if-is_some.ensures))
