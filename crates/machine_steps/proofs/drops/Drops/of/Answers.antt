use Rattle.std.proofs.Common.{true, ap}
use Rattle.machine_steps.proofs.TurnsLeft.{is_drop_of}
use Rattle.machine_steps.proofs.drops.Drops.of.Goals as goal

pub returns : goal.returns
returns c = is_drop_of c.args.address c.args.unwinds _ (ap (λ levels. record { address = c.args.address; levels = levels; unwinds = c.args.unwinds; panicked = _; sweeps = true }) c.new.ensures)
