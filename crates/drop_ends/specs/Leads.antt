-- Where the blocks lead that are made for the end of a block: to earlier ones of them, or to blocks outside.
use Rattle.std.specs.Prelude.{◌≡◌, ◌⊎◌, ℕ, ◌+◌, ◌<◌, ◌≤◌, false, length, Option, Some, slice_get, Contains}
use Rattle.cfg_graph.specs.declared.graph.Block.{Block}
use Rattle.cfg_graph.specs.declared.terminator.Term.{Term}
use Rattle.cfg_graph.specs.declared.terminator.Unwind.{Unwind}
use Rattle.cfg_graph.specs.Edges.{targets, is_turn}
use Rattle.drop_elaborate.specs.Build.{Made}
use Rattle.drop_blocks.specs.Standing.{Grows}

-- by which blocks outside may be led to
module _ (L : ℕ → Type 0) (old new : Made) where
  -- a block outside that may be led to, or one of those that were made
  abbrev pub IsLed : ℕ → Type 0
  IsLed m = L m ⊎ ((new.first + length old.blocks ≤ m) × (m < new.first + length new.blocks))

  -- each block that was made is no turn, and leads so, or to ones made before it
  pub record LeadBack : Type 0 where
    pub grows : Grows old new
    pub longer : length old.blocks ≤ length new.blocks
    pub flat : (i : ℕ) (block : Block) → length old.blocks ≤ i → slice_get new.blocks i ≡ Some block →
        is_turn block ≡ false
    pub back : (i : ℕ) (block : Block) → length old.blocks ≤ i → slice_get new.blocks i ≡ Some block →
        (m : ℕ) → Contains (targets block.term) m → L m ⊎ ((new.first + length old.blocks ≤ m) × (m < new.first + i))

  -- and so does what begins there
  abbrev pub LeadsFrom : (at : ℕ) → Type 0
  LeadsFrom at = LeadBack × IsLed at

  abbrev pub TwinLeads : Option ℕ → Type 0
  TwinLeads twin = LeadBack × ((t : ℕ) → twin ≡ Some t → IsLed t)

  -- and so does a terminator
  abbrev pub TermLeads : Term → Type 0
  TermLeads term = LeadBack × ((m : ℕ) → Contains (targets term) m → IsLed m)

-- where a panic goes on, a drop, and any terminator
abbrev pub ByUnwind : Unwind → ℕ → Type 0
ByUnwind unwind m = unwind ≡ Unwind.Block m

abbrev pub ByDrop : (next : ℕ) → Unwind → ℕ → Type 0
ByDrop next unwind m = (m ≡ next) ⊎ ByUnwind unwind m

abbrev pub ByTerm : Term → ℕ → Type 0
ByTerm term m = Contains (targets term) m
