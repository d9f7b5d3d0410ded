use Rattle.std.proofs.Common.{length}
use Rattle.store_model.proofs.access.+exchange.Given as goal

abbrev pub decreases-exchange : goal.decreases-exchange
decreases-exchange l = length l.path.now
