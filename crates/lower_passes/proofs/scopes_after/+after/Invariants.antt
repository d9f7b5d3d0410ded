use Rattle.std.proofs.Common.{◌+◌}
use Rattle.lower_passes.proofs.scopes_after.+after.Given as goal

abbrev pub decreases-after : goal.decreases-after
decreases-after l = l.end + l.end + 1

abbrev pub decreases-after_one : goal.decreases-after_one
decreases-after_one l = l.end + l.end

abbrev pub decreases-after_both : goal.decreases-after_both
decreases-after_both l = l.end + l.end

abbrev pub decreases-after_either : goal.decreases-after_either
decreases-after_either l = l.end + l.end
