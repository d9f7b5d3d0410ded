use Rattle.std.proofs.Common.{Some, true, sym, subst}
use Rattle.machine_steps.specs.declared.drops.Turn.{Turn}
use Rattle.machine_steps.specs.Turns.{IsResumed}
use Rattle.machine_steps.proofs.TurnsLeft.{resumed_return, resumed_unwind}
use Rattle.machine_steps.proofs.drops.Drops.resume.Goals as goal

pub returns-else-self : goal.returns-else-self
returns-else-self c = λ setting run w v outs l h.
    subst (λ p. IsResumed setting run v outs (record c.args.self.now { unwinds = true; panicked = true }) p (Some (Turn.Visits true (Some c.args.dynamic)))) (sym c.if-panicked.true)
    (resumed_unwind c.args.dynamic c.args.self.now setting run w v outs l h c.if-self.false)

pub returns-else-panicked : goal.returns-else-panicked
returns-else-panicked c = λ setting run w v outs l h.
    subst (λ p. IsResumed setting run v outs c.args.self.now p (Some (Turn.Visits true (Some c.args.dynamic)))) (sym c.if-panicked.false)
    (resumed_return c.args.dynamic c.args.self.now setting run w v outs l h)
