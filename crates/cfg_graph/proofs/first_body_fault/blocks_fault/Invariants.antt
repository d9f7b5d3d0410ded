use Rattle.std.proofs.Common.{◌≡◌, ◌-◌, ◌≤◌, length, drop}
use Rattle.cfg_graph.specs.WellFormed.Broken.{first_of}
use Rattle.cfg_graph.specs.WellFormed.Faults.{of_each, block_faults}
use Rattle.cfg_graph.proofs.first_body_fault.blocks_fault.Given as goal

-- the first fault of all is the first fault of the rest
abbrev pub invariant-loop-block : goal.invariant-loop-block
invariant-loop-block l = record {
  rest : first_of (of_each (block_faults l.graph l.number l.body) 0 l.body.blocks) ≡ first_of (of_each (block_faults l.graph l.number l.body) l.n (drop l.n l.body.blocks));
  within : l.n ≤ length l.body.blocks;
}

abbrev pub decreases-loop-block : goal.decreases-loop-block
decreases-loop-block l = length l.body.blocks - l.n
