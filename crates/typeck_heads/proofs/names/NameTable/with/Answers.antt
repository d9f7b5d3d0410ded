use Rattle.std.proofs.Common.{arith}
use Rattle.typeck_heads.proofs.Numbering.{position_push}
use Rattle.typeck_heads.proofs.names.NameTable.with.Goals as goal

pub invariant_of-result : goal.invariant_of-result
invariant_of-result c = λ name. grind (arith, c.in_ok-note.ensures name, c.self.invariant name, position_push)
