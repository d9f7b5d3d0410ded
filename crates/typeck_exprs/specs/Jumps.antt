-- The loop that a jump leaves, in Rust as the rules of typing see it, without its label.
use Rattle.std.specs.Prelude.{None}
use Rattle.typing_rules.specs.Scope.{LabelledLoop}
use Rattle.typeck_exprs.specs.declared.jumps.JumpTarget.{JumpTarget}

abbrev pub unlabelled : LabelledLoop → LabelledLoop
unlabelled a = record a { label = None }

abbrev pub target_of : JumpTarget → LabelledLoop
target_of t = record { label = None; loop = t.id.0; has_value = t.has_value; expected = t.expected }
