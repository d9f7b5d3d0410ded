use Rattle.typing_rules.specs.Collected.{starting_with}
use Rattle.typeck_heads.specs.Forms.{around_of}
use Rattle.typeck_heads.proofs.Types.{array_answers}
use Rattle.typeck_heads.proofs.written_types.array_shown.Goals as goal

pub returns-clause-answers : goal.returns-clause-answers
returns-clause-answers c =
    array_answers (around_of c.args.scope.now) c.args.at c.args.count c.args.element (starting_with c.args.items.now) _ _
    c.intern.result c.intern.new.items c.in_ok-obeys.ensures.holds c.free_or.ensures c.shown_count.ensures c.intern.ensures.answers
