use Rattle.std.proofs.Common.{Some, None, [], ap, ◌∙◌, sym}
use Rattle.std.proofs.lemmas.Result.{on_ok_weaker}
use Rattle.std.specs.Prelude.{option_map}
use Rattle.machine_steps.specs.Forgetting.{lines_before, parts_lines}
use Rattle.machine_steps.specs.Worlds.{event_of}
use Rattle.std.specs.Prelude.{map, ◌++◌}
use Rattle.machine_store.specs.Standing.{dynamic_of}
use Rattle.machine_steps.proofs.ForgettingDone.{lines_pushed, parts_next, content_next, box_next}
use Rattle.machine_steps.specs.declared.forget.Forgets.{Forgets}
use Rattle.store_model.specs.Concrete.Effects.{forgotten}
use Rattle.store_model.specs.Values.Datum.{datum_of}
use Rattle.machine_steps.proofs.forget.go_over_value.Goals as goal

pub returns-in_ok-tell_made-in-Parts : goal.returns-in_ok-tell_made-in-Parts
returns-in_ok-tell_made-in-Parts c =
    let items = c.args.items.now in
    on_ok_weaker c.push.result
    (λ pushed after. parts_next items c.args.value.now c.in-Parts.variant c.in-Parts.serial c.in-Parts.parts (dynamic_of c.args.dynamic) c.in-Parts.is (map event_of c.args.told.now) (map event_of c.tell_made.new.told)
    (lines_before items c.args.work.now after) (lines_before items c.push.new.self after) c.in_ok-tell_made-in-Parts.ensures
    (ap (λ w. lines_before items w after) pushed ∙ lines_pushed items c.args.work.now _ after
    ∙ ap (λ p. parts_lines items p 0 c.in-Parts.variant (dynamic_of c.args.dynamic) ++ lines_before items c.args.work.now after) c.as_slice.ensures))
    c.push.ensures.pushed

pub returns-in-Some : goal.returns-in-Some
returns-in-Some c =
    let items = c.args.items.now in
    on_ok_weaker c.push-in-Some.result
    (λ pushed after. content_next items c.args.value.now c.in-Boxed.serial c.in-Boxed.impl_no c.in-Boxed.inside (dynamic_of c.args.dynamic) c.in-Boxed.is (dynamic_of c.in-Some.found)
    (sym c.type_of_part.ensures ∙ ap (option_map dynamic_of) c.in-Some.is) (map event_of c.args.told.now) (lines_before items c.args.work.now after) (lines_before items c.push-in-Some.new.self after)
    (ap (λ w. lines_before items w after) pushed ∙ lines_pushed items c.push-in-Boxed.new.self _ after
    ∙ ap (λ d. forgotten items (datum_of d) (dynamic_of c.in-Some.found) ++ lines_before items c.push-in-Boxed.new.self after) c.deref.ensures
    ∙ ap (λ l. forgotten items (datum_of c.in-Boxed.inside.value) (dynamic_of c.in-Some.found) ++ l)
    (ap (λ w. lines_before items w after) c.in_ok-push-in-Boxed.ensures.pushed ∙ lines_pushed items c.args.work.now (Forgets.Boxed c.in-Boxed.serial) after)))
    c.push-in-Some.ensures.pushed

pub returns-in-None : goal.returns-in-None
returns-in-None c = λ after.
    let items = c.args.items.now in
    box_next items c.args.value.now c.in-Boxed.serial c.in-Boxed.impl_no c.in-Boxed.inside (dynamic_of c.args.dynamic) c.in-Boxed.is
    (sym c.type_of_part.ensures ∙ ap (option_map dynamic_of) c.in-None.is) (map event_of c.args.told.now) (lines_before items c.args.work.now after) (lines_before items c.push-in-Boxed.new.self after)
    (ap (λ w. lines_before items w after) c.in_ok-push-in-Boxed.ensures.pushed ∙ lines_pushed items c.args.work.now (Forgets.Boxed c.in-Boxed.serial) after)
