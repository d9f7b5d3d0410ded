use Rattle.std.proofs.Common.{◌≡◌, ◌++◌, drop}
use Rattle.look_moves.specs.Actions.{seen, actions_from}
use Rattle.look_moves.proofs.actions.add_from.Given as goal

abbrev pub invariant-loop-next : goal.invariant-loop-next
invariant-loop-next l =
    seen l.out ++ actions_from l.body l.line l.from (drop l.next-index l.path)
    ≡ seen l.fn.out ++ actions_from l.body l.line l.first l.path
