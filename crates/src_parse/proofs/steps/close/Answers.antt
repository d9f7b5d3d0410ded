use Rattle.std.proofs.Common.{Some, ◌∷◌, sym, ap, ◌∙◌}
use Rattle.src_tree.specs.Reading.{only_if}
use Rattle.src_parse.specs.View.{frame_of, stack_of}
use Rattle.src_parse.proofs.Turns.{close_hands, close_refuses, handed_less}
use Rattle.src_parse.proofs.steps.close.Goals as goal

pub loop-row-preserved : goal.loop-row-preserved
loop-row-preserved c =
    sym (close_hands (stack_of c.loop-row.below) (stack_of c.hand_on.new.below) (frame_of c.loop-row.top) (frame_of c.hand_on.new.top) c.in-Some.row (sym c.row_at_end.ensures ∙ c.in-Some.is)
    (c.in_ok-hand_on.ensures ∙ ap (λ z. only_if z (Some (frame_of c.hand_on.new.top ∷ stack_of c.hand_on.new.below))) c.if-not-branch.false)) ∙ c.loop-row.invariant

pub loop-row-smaller : goal.loop-row-smaller
loop-row-smaller c =
    handed_less (stack_of c.loop-row.below) (stack_of c.hand_on.new.below) (frame_of c.loop-row.top) (frame_of c.hand_on.new.top) c.in-Some.row
    (c.in_ok-hand_on.ensures ∙ ap (λ z. only_if z (Some (frame_of c.hand_on.new.top ∷ stack_of c.hand_on.new.below))) c.if-not-branch.false)

pub returns-then-not-branch : goal.returns-then-not-branch
returns-then-not-branch c =
    sym c.loop-row.invariant ∙ close_refuses c.loop-row.below (frame_of c.loop-row.top) c.in-Some.row (λ e. sym c.if-is_empty.false ∙ c.is_empty.ensures.1 e) (sym c.row_at_end.ensures ∙ c.in-Some.is)
    (c.in_ok-hand_on.ensures ∙ ap (λ z. only_if z (Some (frame_of c.hand_on.new.top ∷ stack_of c.hand_on.new.below))) c.if-not-branch.true)
