use Rattle.std.proofs.Common.{◌≡◌, ◌++◌, map, drop}
use Rattle.lower_locals.specs.View.{entry_of, keys}
use Rattle.typed_tree.specs.Listed.{trees}
use Rattle.look_places.specs.Names.{variables_from}
use Rattle.look_places.proofs.names.add_locals.Given as goal

abbrev pub invariant-loop-local : goal.invariant-loop-local
invariant-loop-local l =
    l.out ++ variables_from (trees l.names.nodes.now) l.n (keys (map entry_of (drop l.local-index l.locals)))
    ≡ l.fn.out ++ variables_from (trees l.names.nodes.now) 0 (keys (map entry_of l.locals))
