-- Where the blocks of a ladder stand in a body that holds them.
use Rattle.std.specs.Prelude.{◌≡◌, ℕ, ◌+◌, Option, Some, None, slice_get}
use Rattle.cfg_graph.specs.declared.graph.Block.{Block}
use Rattle.cfg_graph.specs.declared.graph.Body.{Body}
use Rattle.cfg_graph.specs.declared.place.Place.{Place}
use Rattle.drop_elaborate.specs.Build.{Made}
use Rattle.drop_elaborate.specs.Ladder.{Ending, Abruptly, LadderAt}
use Rattle.drop_values.specs.Plan.{Plan}
use Rattle.drop_blocks.specs.Ladders.{Built, ending_of}
use Rattle.drop_blocks.specs.declared.rungs.Chains.{Chains}

-- a block with the rank aside
pub record IsAs (block there : Block) : Type 0 where
  pub kind : there.kind ≡ block.kind
  pub stmts : there.stmts ≡ block.stmts
  pub term : there.term ≡ block.term

-- a body holds the blocks; each may have another rank
abbrev pub Holds : Body → Made → Type 0
Holds body made = (i : ℕ) (block : Block) → slice_get made.blocks i ≡ Some block →
    (there : Block) × (slice_get body.blocks (made.first + i) ≡ Some there) × IsAs block there

-- no block is changed by what is made later
pub record Grows (made later : Made) : Type 0 where
  pub first : later.first ≡ made.first
  pub stays : (i : ℕ) (block : Block) → slice_get made.blocks i ≡ Some block → slice_get later.blocks i ≡ Some block

-- a chain has a twin where the one that it leads to has one
abbrev pub Twinned : Option ℕ → Option ℕ → (ℕ → ℕ → Type 0) → Type 0
Twinned None None Q = Unit {0}
Twinned (Some from) (Some to) Q = Q from to
Twinned None (Some to) Q = ⊥
Twinned (Some from) None Q = ⊥

-- What is made behind blocks stands in each body that holds it: the calm chain from its beginning to where it leads, and
-- the twin, as while a panic unwinds.
pub record Stands
    (base : Made) (b : Built) (to : ℕ) (over : Option ℕ) (P : Body → (from to : ℕ) → Ending → Type 0) : Type 0 where
  pub grows : Grows base b.made
  pub calm : (body : Body) → Holds body b.made → P body b.chains.calm to (ending_of over)
  pub twin : Twinned b.chains.twin over (λ from other. (body : Body) → Holds body b.made → P body from other Abruptly)

-- the ladder of a plan stands so
abbrev pub IsLadder : Plan → Place → (base : Made) → Built → (rest : Chains) → Type 0
IsLadder plan place base b rest =
    Stands base b rest.calm rest.twin (λ body. LadderAt body plan place)
