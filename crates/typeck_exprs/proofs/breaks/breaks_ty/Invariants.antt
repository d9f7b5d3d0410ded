use Rattle.std.proofs.Common.{◌≡◌, map, drop}
use Rattle.typing_rules.specs.Rows as rows
use Rattle.typeck_exprs.specs.Breaks.{carried_by}
use Rattle.typeck_env.specs.Walked.{break_of}
use Rattle.typeck_exprs.proofs.breaks.breaks_ty.Given as goal

abbrev pub invariant-loop-n : goal.invariant-loop-n
invariant-loop-n l = l.ty ≡ rows.one_type l.items (carried_by l.from.0 (map break_of (drop l.n l.breaks)))
