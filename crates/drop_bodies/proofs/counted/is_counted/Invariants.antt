use Rattle.std.proofs.Common.{◌<◌, ◌-◌, ◌^◌, ℕ, get_or, length}
use Rattle.cfg_graph.specs.declared.graph.Block.{Block}
use Rattle.drop_bodies.proofs.counted.is_counted.Given as goal

abbrev pub invariant-loop-block : goal.invariant-loop-block
invariant-loop-block l =
    (k : ℕ) (d : Block) → k < l.block-index → length (get_or l.body.blocks k d).stmts < 2 ^ 32 - 1
