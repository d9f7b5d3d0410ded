-- Which switches uses make; no public contract speaks of it.
use Rattle.std.specs.Prelude.{◌≡◌, ◌⊎◌, ℕ, ◌<◌, nat_lt, nat_le, slice_index_or, length, ◌==◌, Bool, true, false, not, ◌&&◌, ◌||◌, List, [], ◌∷◌, ◌++◌, map, flat_map, Option, Some, None, slice_get, Contains}
use Rattle.store_model.specs.Places.Place.{Place as Named}
use Rattle.cfg_graph.specs.declared.place.Place.{Place}
use Rattle.cfg_graph.specs.declared.terminator.Term.{Term}
use Rattle.cfg_graph.specs.declared.terminator.Unwind.{Unwind}
use Rattle.cfg_graph.specs.declared.graph.Block.{Block}
use Rattle.cfg_graph.specs.Places.{named}
use Rattle.cfg_graph.specs.Uses.{PlaceUse, Stores, stmt_uses, term_uses}
use Rattle.cfg_graph.specs.Moves.Gone.{leaves_gone}
use Rattle.init_flow.specs.Carried.{Bits}
use Rattle.cfg_graph.specs.declared.graph.Body.{Body}
use Rattle.init_flow.specs.declared.switches.Switch.{Switch}
use Rattle.init_flow.specs.declared.switches.BlockSwitches.{BlockSwitches}
use Rattle.init_flow.specs.declared.switches.Switches.{Switches}
use Rattle.init_flow.specs.Marks.{place_at}
use Rattle.init_flow.specs.Moved.{says, masks_of}
use Rattle.init_flow.specs.Switches.{at_most_one, way_switches}

-- what a use switches, if anything
abbrev pub IsSwitch : (paths : List Named) (gone : Bool) → PlaceUse × Place → Option Switch → Type 0
IsSwitch paths gone made None = (leaves_gone made.0 ≡ None) ⊎ (¬ Contains paths (named made.1))
IsSwitch paths gone made (Some switch) =
    (takes : Bool) × (leaves_gone made.0 ≡ Some takes) × (slice_get paths switch.path ≡ Some (named made.1))
    × (switch.on ≡ says gone takes)

-- switches of uses, one use after another
abbrev pub Fits : (paths : List Named) (gone : Bool) → List Switch → List (PlaceUse × Place) → Type 0
Fits paths gone switches [] = switches ≡ []
Fits paths gone switches (made ∷ uses) =
    (first : Option Switch) × (rest : List Switch) × (switches ≡ at_most_one first ++ rest)
    × IsSwitch paths gone made first × Fits paths gone rest uses

-- what is added to switches for uses
abbrev pub AreSwitched : (paths : List Named) (gone : Bool) (old new : List Switch) → List (PlaceUse × Place) → Type 0
AreSwitched paths gone old new uses = (added : List Switch) × (new ≡ old ++ added) × Fits paths gone added uses

-- the way with this number leads to the block in which the terminator goes on
abbrev pub unwinds_to : ℕ → Unwind → Bool
unwinds_to next (Unwind.Block block) = block == next
unwinds_to next Unwind.Resume = false
unwinds_to next Unwind.Abort = false

abbrev pub leads_on : (next : ℕ) → Unwind → (way : ℕ) → Bool
leads_on next unwind way = (way == 0) || ((way == 1) && unwinds_to next unwind)

-- the place into which a way stores the result of a terminator
abbrev pub if_on : Bool → Place → List Place
if_on true place = place ∷ []
if_on false place = []

abbrev pub way_result : Term → (way : ℕ) → List Place
way_result (Term.Math to op left right next unwind) way = if_on (leads_on next unwind way) to
way_result (Term.Negate to of next unwind) way = if_on (leads_on next unwind way) to
way_result (Term.Call to body args next unwind) way = if_on (leads_on next unwind way) to
way_result (Term.Virtual to trait_no method args next unwind) way = if_on (leads_on next unwind way) to
way_result (Term.Ask to next unwind) way = if_on (leads_on next unwind way) to
way_result term way = []

-- the uses of a block, and the store of the result on a way out of it
abbrev pub way_uses : Block → (way : ℕ) → List (PlaceUse × Place)
way_uses block way =
    flat_map stmt_uses block.stmts
    ++ (term_uses block.term ++ map (λ place. (Stores, place)) (way_result block.term way))

-- a local is a parameter
abbrev pub param_of : Body → ℕ → Bool
param_of body local = nat_lt 0 local && nat_le local body.params

-- what a row says of a place before a body does anything
abbrev pub start_bit : Body → (gone : Bool) → Named → Bool
start_bit body gone place = says gone (not (param_of body place.local))

abbrev pub start_row : List Named → Body → (gone : Bool) → Bits
start_row paths body gone = map (start_bit body gone) paths

-- where the bits of earlier paths say it, so does this bit of its path
abbrev pub FirstBit : List Named → Body → Bits → (path : ℕ) → (gone bit : Bool) → Type 0
FirstBit paths body row path gone bit =
    ((n : ℕ) → n < path → slice_index_or row n false ≡ start_bit body gone (place_at paths n))
    → bit ≡ start_bit body gone (place_at paths path)

-- what a block switches on each way out of it, where bits say what is gone
abbrev pub FitsBlock : (paths : List Named) → Option BlockSwitches → Block → Type 0
FitsBlock paths made block = (way : ℕ) → way < 2 → Fits paths true (way_switches made way) (way_uses block way)

-- what all blocks switch
pub record AreWays (paths : List Named) (made : List BlockSwitches) (blocks : List Block) : Type 0 where
  pub long : length made ≡ length blocks
  pub each : (n : ℕ) (block : Block) → slice_get blocks n ≡ Some block → FitsBlock paths (slice_get made n) block

-- what is gone as a body starts, and what its blocks switch
pub record AreSwitches (paths : List Named) (s : Switches) (body : Body) : Type 0 where
  pub first : s.first ≡ start_row paths body true
  pub below : s.below ≡ masks_of paths
  pub ways : AreWays paths s.blocks body.blocks
