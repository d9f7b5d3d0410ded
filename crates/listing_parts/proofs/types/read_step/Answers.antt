use Rattle.std.proofs.Common.{rules, ◌≡◌, ◌-◌, Some, None, Ok, length, ap, subst, ◌∙◌, arith}
use Rattle.listing_write.specs.Reading.Words.{bind}
use Rattle.listing_parts.specs.OpenTypes.{Steps, goes_on}
use Rattle.listing_parts.specs.TypeReading.{begin_read, rest_read, type_read}
use Rattle.listing_parts.specs.declared.types.Step.{Step}
use Rattle.listing_parts.proofs.DepthFree.{begin_left, read_unfolds}
use Rattle.listing_parts.proofs.Leaves.{begin_leaf}
use Rattle.listing_parts.proofs.OpenSteps.{no_step, then_steps}
use Rattle.listing_parts.proofs.Texts.{same_types}
use Rattle.listing_parts.proofs.types.read_step.Goals as goal

pub begin-requires-clause-leaf : goal.begin-requires-clause-leaf
begin-requires-clause-leaf c =
    let found : begin_read c.args.heads.now c.args.text.now ≡ Some (c.in-Some.first, c.in-Some.rest.now) = search rules in
    begin_leaf c.args.heads.now c.args.text.now c.in-Some.first c.in-Some.rest.now found

pub returns-in-Ok-Whole-clause-steps : goal.returns-in-Ok-Whole-clause-steps
returns-in-Ok-Whole-clause-steps c =
    let heads = c.args.heads.now in
    let items = c.args.items.now in
    let found : begin_read heads c.args.text.now ≡ Some (c.in-Some.first, c.in-Some.rest.now) = search rules in
    let begun : Steps heads items c.begin.new.items c.begin.new.opens (Ok (Step.Whole c.in-Ok-Whole.id c.in-Ok-Whole.rest)) (goes_on heads items c.args.opens.now (rest_read (type_read heads) heads (c.in-Some.first, c.in-Some.rest.now))) (length c.in-Some.rest.now) =
    subst (λ s. Steps heads items c.begin.new.items c.begin.new.opens (Ok s) (goes_on heads items c.args.opens.now (rest_read (type_read heads) heads (c.in-Some.first, c.in-Some.rest.now))) (length c.in-Some.rest.now)) c.in-Ok-Whole.field-0-is c.in-Ok-Whole.ensures in
    let shorter = begin_left heads c.args.text.now (c.in-Some.first, c.in-Some.rest.now) found in
    let less = begun.shorter in
    then_steps heads items c.begin.new.items c.end_types.new.items c.end_types.new.opens c.end_types.result _ _ (length c.in-Ok-Whole.rest.now) (length c.args.text.now - 1)
    (ap (goes_on heads items c.args.opens.now) (read_unfolds heads c.args.text.now ∙ ap (λ o. bind o (rest_read (type_read heads) heads)) found) ∙ begun.there)
    (omega (arith, shorter, less)) begun.grow c.end_types.ensures.steps

pub returns-in-Ok-Next-clause-steps : goal.returns-in-Ok-Next-clause-steps
returns-in-Ok-Next-clause-steps c =
    let heads = c.args.heads.now in
    let items = c.args.items.now in
    let found : begin_read heads c.args.text.now ≡ Some (c.in-Some.first, c.in-Some.rest.now) = search rules in
    let shorter = begin_left heads c.args.text.now (c.in-Some.first, c.in-Some.rest.now) found in
    then_steps heads items items c.begin.new.items c.begin.new.opens _ _ _ (length c.in-Some.rest.now) (length c.args.text.now - 1)
    (ap (goes_on heads items c.args.opens.now) (read_unfolds heads c.args.text.now ∙ ap (λ o. bind o (rest_read (type_read heads) heads)) found))
    (omega (arith, shorter)) (record { types = c.requires.read; others = same_types items })
    (subst (λ s. Steps heads items c.begin.new.items c.begin.new.opens (Ok s) (goes_on heads items c.args.opens.now (rest_read (type_read heads) heads (c.in-Some.first, c.in-Some.rest.now))) (length c.in-Some.rest.now)) c.in-Ok-Next.field-0-is c.in-Ok-Next.ensures)

pub returns-in-Err-clause-steps : goal.returns-in-Err-clause-steps
returns-in-Err-clause-steps c =
    let heads = c.args.heads.now in
    let items = c.args.items.now in
    let found : begin_read heads c.args.text.now ≡ Some (c.in-Some.first, c.in-Some.rest.now) = search rules in
    let shorter = begin_left heads c.args.text.now (c.in-Some.first, c.in-Some.rest.now) found in
    then_steps heads items items c.begin.new.items c.begin.new.opens _ _ _ (length c.in-Some.rest.now) (length c.args.text.now - 1)
    (ap (goes_on heads items c.args.opens.now) (read_unfolds heads c.args.text.now ∙ ap (λ o. bind o (rest_read (type_read heads) heads)) found))
    (omega (arith, shorter)) (record { types = c.requires.read; others = same_types items }) c.in-Err.ensures

pub returns-in-None-clause-steps : goal.returns-in-None-clause-steps
returns-in-None-clause-steps c =
    let heads = c.args.heads.now in
    let items = c.args.items.now in
    let found : begin_read heads c.args.text.now ≡ None = search rules in
    no_step heads items c.args.opens.now _ (length c.args.text.now - 1) c.requires.read c.requires.opens
    (read_unfolds heads c.args.text.now ∙ ap (λ o. bind o (rest_read (type_read heads) heads)) found)
