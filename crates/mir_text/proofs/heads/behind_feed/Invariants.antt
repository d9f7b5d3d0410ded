use Rattle.std.proofs.Common.{◌≡◌, length}
use Rattle.mir_text.specs.HeadReading as reading
use Rattle.mir_text.proofs.heads.behind_feed.Given as goal

abbrev pub invariant-loop-first : goal.invariant-loop-first
invariant-loop-first l = reading.behind_feed l.text ≡ reading.behind_feed l.rest

abbrev pub decreases-loop-first : goal.decreases-loop-first
decreases-loop-first l = length l.rest
