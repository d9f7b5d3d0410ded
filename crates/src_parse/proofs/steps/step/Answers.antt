use Rattle.std.proofs.Common.{rules, ◌≡◌, Some, ◌∷◌, ◌++◌, [], sym, ap, ◌∙◌}
use Rattle.src_tree.specs.Reading.{only_if}
use Rattle.src_tree.specs.Table.{rest_of, rest_at}
use Rattle.src_parse.specs.Counting.{inside}
use Rattle.src_parse.specs.View.{frame_of, stack_of}
use Rattle.src_parse.proofs.Turns.{act_moves, act_opens, act_joins, act_ends, act_hands, act_refuses, handed_less, stack_push}
use Rattle.src_parse.proofs.steps.step.Goals as goal

pub returns-in-Some : goal.returns-in-Some
returns-in-Some c =
    let S = stack_of c.loop-point.below in
    let f = frame_of c.loop-point.top in
    let q = rest_of c.in-Some.point in
    sym c.loop-point.invariant ∙ act_moves S f c.args.token c.args.at q (sym c.in-Some.ensures) ∙ ap (λ z. Some (z ∷ S)) (sym c.in_ok-take.ensures)

pub returns-in-Some-opens : goal.returns-in-Some-opens
returns-in-Some-opens c =
    let S = stack_of c.loop-point.below in
    let f = frame_of c.loop-point.top in
    let t = c.args.token in
    let p = c.in-Some-opens.place in
    let q = rest_at c.in-Some-opens.point in
    let k : frame_of c.replace.new.dest ≡ inside f p q c.args.at t = search rules in
    let p2 : c.push.new.self ≡ c.loop-point.below ++ c.loop-point.top ∷ [] = search rules in
    let s : stack_of c.push.new.self ≡ f ∷ S = ap stack_of p2 ∙ stack_push c.loop-point.below c.loop-point.top in
    sym c.loop-point.invariant ∙ act_opens S f t c.args.at p q (sym c.in_default.ensures) (sym c.in-Some-opens.ensures) ∙ ap (λ z. Some (z ∷ f ∷ S)) (sym k) ∙ ap (λ z. Some (frame_of c.replace.new.dest ∷ z)) (sym s)

pub returns-in_default-row_at_end : goal.returns-in_default-row_at_end
returns-in_default-row_at_end c =
    sym c.loop-point.invariant ∙ act_ends (stack_of c.loop-point.below) (frame_of c.loop-point.top) c.args.token c.args.at (sym c.in_default.ensures) (sym c.in_default-opens.ensures) (sym c.in_default-row_at_end.ensures)

pub returns-in-Some-joins : goal.returns-in-Some-joins
returns-in-Some-joins c =
    let S = stack_of c.loop-point.below in
    let f = frame_of c.loop-point.top in
    let r = c.in-Some-row_at_end.row in
    let q = rest_at c.in-Some-joins.point in
    sym c.loop-point.invariant ∙ act_joins S f c.args.token c.args.at r q (sym c.in_default.ensures) (sym c.in_default-opens.ensures) (sym c.in-Some-row_at_end.ensures) (sym c.in-Some-joins.ensures)
    ∙ ap (λ z. Some (z ∷ S)) (sym c.in_ok-begin.ensures)

pub returns-in-Ok-false : goal.returns-in-Ok-false
returns-in-Ok-false c =
    sym c.loop-point.invariant ∙ act_refuses (stack_of c.loop-point.below) (frame_of c.loop-point.top) c.args.token c.args.at c.in-Some-row_at_end.row (sym c.in_default.ensures) (sym c.in_default-opens.ensures) (sym c.in-Some-row_at_end.ensures) (sym c.in_default-joins.ensures)
    (c.in-Ok-false.ensures ∙ ap (λ z. only_if z (Some (frame_of c.hand_on.new.top ∷ stack_of c.hand_on.new.below))) c.in-Ok-false.field-0-test)

pub loop-point-preserved : goal.loop-point-preserved
loop-point-preserved c =
    sym (act_hands (stack_of c.loop-point.below) (stack_of c.hand_on.new.below) (frame_of c.loop-point.top) (frame_of c.hand_on.new.top) c.args.token c.args.at c.in-Some-row_at_end.row (sym c.in_default.ensures) (sym c.in_default-opens.ensures)
    (sym c.in-Some-row_at_end.ensures) (sym c.in_default-joins.ensures) (c.in-Ok-true.ensures ∙ ap (λ z. only_if z (Some (frame_of c.hand_on.new.top ∷ stack_of c.hand_on.new.below))) c.in-Ok-true.field-0-test)) ∙ c.loop-point.invariant

pub loop-point-smaller : goal.loop-point-smaller
loop-point-smaller c =
    handed_less (stack_of c.loop-point.below) (stack_of c.hand_on.new.below) (frame_of c.loop-point.top) (frame_of c.hand_on.new.top) c.in-Some-row_at_end.row
    (c.in-Ok-true.ensures ∙ ap (λ z. only_if z (Some (frame_of c.hand_on.new.top ∷ stack_of c.hand_on.new.below))) c.in-Ok-true.field-0-test)
