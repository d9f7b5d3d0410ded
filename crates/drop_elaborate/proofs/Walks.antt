-- The walk of a body by what its blocks do, up to the place of being stuck.
use Rattle.std.proofs.Common.{◌≡◌, ℕ, ◌≤◌, false, Some, None, slice_get}
use Rattle.cfg_graph.specs.declared.graph.Block.{Block}
use Rattle.cfg_graph.specs.declared.graph.Body.{Body}
use Rattle.cfg_graph.specs.declared.graph.Kind.{Kind}
use Rattle.cfg_graph.specs.Edges.{is_turn}
use Rattle.cfg_meaning.specs.Walk.{Next, block_does, ◌>>=◌}
use Rattle.drop_values.specs.Like.{IsStuck}
use Rattle.store_model.specs.Effects.{Halt, Aborted, OutOfTicks, Stuck, StuckAt, BadUse, BadStore, NoChoice, Infeasible, Unreachable, Halts, Effects}

-- a missing step, wherever it is
abbrev pub unplaced : Halt → Halt
unplaced Aborted = Aborted
unplaced OutOfTicks = OutOfTicks
unplaced Stuck = Stuck
unplaced (StuckAt body block) = Stuck
unplaced (BadUse site) = BadUse site
unplaced (BadStore site) = BadStore site
unplaced NoChoice = NoChoice
unplaced Infeasible = Infeasible
unplaced Unreachable = Unreachable

-- which is stuck as it was
pub stuck-unplaced : (halt : Halt) → IsStuck halt → IsStuck (unplaced halt)
stuck-unplaced Stuck h = tt
stuck-unplaced (StuckAt b n) h = tt
stuck-unplaced other h = h

-- what the walk of a body does from a block on, by what its block does
pub record Walks {W : Type 0} (q : Effects W) (size : W → ℕ) (bound : ℕ) (body : Body) (node : ℕ → ℕ → ℕ)
    (Walk : Next W) : Type 0 where
  pub plain : (n : ℕ) (block : Block) → slice_get body.blocks n ≡ Some block → is_turn block ≡ false →
      (w : W) → size w ≤ bound → Walk n w ≡ block_does q (node n) block Walk w
  pub turn : (n : ℕ) (block : Block) → slice_get body.blocks n ≡ Some block → block.kind ≡ Kind.Turn →
      (w : W) → size w ≤ bound →
      Walk n w ≡ ◌>>=◌ (q.tick w) (block_does q (node n) block Walk)
  pub nowhere : (n : ℕ) → slice_get body.blocks n ≡ None → (w : W) → size w ≤ bound → Walk n w ≡ Halts Stuck w
