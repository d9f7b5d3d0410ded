use Rattle.std.proofs.Common.{◌≡◌, ◌++◌, map, drop}
use Rattle.lower_code.specs.View.{keys_seen}
use Rattle.lower_code.proofs.operations.add_keys.Given as goal

abbrev pub invariant-loop-node : goal.invariant-loop-node
invariant-loop-node l =
    keys_seen l.keys ++ map (λ n. n.id.0) (drop l.node-index l.nodes)
    ≡ keys_seen l.fn.keys ++ map (λ n. n.id.0) l.nodes
