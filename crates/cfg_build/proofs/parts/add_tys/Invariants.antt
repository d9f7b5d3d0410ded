use Rattle.std.proofs.Common.{◌≡◌, ◌++◌, map, take}
use Rattle.lower_locals.specs.View.{entry_of, tys}
use Rattle.cfg_build.proofs.parts.add_tys.Given as goal

abbrev pub invariant-loop-local : goal.invariant-loop-local
invariant-loop-local l = l.tys ≡ l.fn.tys ++ tys (map entry_of (take l.local-index l.locals))
