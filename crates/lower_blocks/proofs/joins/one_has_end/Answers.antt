use Rattle.std.proofs.Common.{◌∙◌, ◌||◌, suc, Bool, sym, ap}
use Rattle.lower_rules.specs.Codes.{lowers}
use Rattle.lower_blocks.specs.Builds.{frame_at}
use Rattle.lower_blocks.proofs.joins.one_has_end.Goals as goal

pub returns-then-has_end : goal.returns-then-has_end
returns-then-has_end c = λ one another start first second.
    ap (λ (h : Bool). h || (lowers (frame_at c.args.at.now) another).has_end)
    (sym c.if-has_end.true ∙ c.has_end.ensures (frame_at c.args.at.now) one start first)

pub returns : goal.returns
returns c = λ one another start first second.
    c.has_end-2.ensures (frame_at c.args.at.now) another (suc c.args.two.one) second
    ∙ ap (λ (h : Bool). h || (lowers (frame_at c.args.at.now) another).has_end)
    (sym c.if-has_end.false ∙ c.has_end.ensures (frame_at c.args.at.now) one start first)
