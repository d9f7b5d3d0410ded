use Rattle.std.proofs.Common.{sym, subst, arith, ◌∙◌, [], ◌∷◌, ap, length, slice_get}
use Rattle.std.proofs.lemmas.List.{length-append}
use Rattle.std.proofs.lemmas.Option.{slice_get_within}
use Rattle.vtable_rows.proofs.RowByRow.{SoFar, begins, goes_on, ends, as_types}
use Rattle.vtable_rows.proofs.build_rows.rows.Goals as goal

pub loop-of-init : goal.loop-of-init
loop-of-init c = subst (SoFar c.args.items.now) (sym c.new-made.ensures) (begins c.args.items.now)

pub overflow_cast-len : goal.overflow_cast-len
overflow_cast-len c = let short = c.loop-of.invariant.short in grind arith

pub loop-of-smaller : goal.loop-of-smaller
loop-of-smaller c =
    let within = slice_get_within c.args.items.now.impls (length c.loop-of.made) c.in-Some.of.now (ap (slice_get c.args.items.now.impls) (sym c.len.ensures) ∙ sym c.in-Some.ensures.value) in
    let more = length-append c.loop-of.made (c.in_ok-row_for.field-0 ∷ []) in
    let pushed = c.in_ok-push.ensures.pushed in
    grind (arith, within, more, pushed)

pub loop-of-preserved : goal.loop-of-preserved
loop-of-preserved c =
    subst (SoFar c.args.items.now) (sym c.in_ok-push.ensures.pushed)
    (goes_on c.args.items.now c.loop-of.made c.in-Some.of.now c.in_ok-row_for.field-0 c.loop-of.invariant c.impl_def.ensures.sound
    (ap (slice_get c.args.items.now.impls) (sym c.len.ensures) ∙ sym c.in-Some.ensures.value) c.in_ok-row_for.ensures)

pub returns-clause-each : goal.returns-clause-each
returns-clause-each c = c.from_list.ensures ∙ ends c.args.items.now c.loop-of.made c.loop-of.invariant (ap (slice_get c.args.items.now.impls) (sym c.len.ensures) ∙ sym c.in_default.ensures.value)

pub returns-clause-types : goal.returns-clause-types
returns-clause-types c =
    as_types c.args.items.now c.from_list.result (c.from_list.ensures ∙ ends c.args.items.now c.loop-of.made c.loop-of.invariant (ap (slice_get c.args.items.now.impls) (sym c.len.ensures) ∙ sym c.in_default.ensures.value))
