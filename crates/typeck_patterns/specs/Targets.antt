-- The struct or variant that a path names, in Rust as the rules of typing see it.
use Rattle.typing_rules.specs.Patterns as rules
use Rattle.typeck_patterns.specs.declared.targets.PatternTarget.{PatternTarget}

abbrev pub target_of : PatternTarget → rules.PatternTarget
target_of t = record { adt = t.adt; variant = t.variant }
