-- What switches make of rows.
use Rattle.std.specs.Prelude.{ℕ, ◌==◌, nat_eq, Bool, List, [], ◌∷◌, ◌++◌, map, length, Option, Some, None, slice_get, if◌then◌else◌}
use Rattle.bit_rows.specs.Words.{union, difference}
use Rattle.init_flow.specs.Carried.{Bits}
use Rattle.init_flow.specs.Moved.{says}
use Rattle.init_flow.specs.declared.switches.Switch.{Switch}
use Rattle.init_flow.specs.declared.switches.BlockSwitches.{BlockSwitches}
use Rattle.init_flow.specs.declared.switches.Switches.{Switches}

-- the bits of a mask that is as long as the row turn on or off
abbrev pub switched : (mask : Bits) → Bool → Bits → Bits
switched mask on row =
    if nat_eq (length mask) (length row) then (if on then union mask row else difference mask row) else row

abbrev pub by_mask : Option Bits → Bool → Bits → Bits
by_mask None on row = row
by_mask (Some mask) on row = switched mask on row

-- by the mask of the switch's path, where there is one
abbrev pub switch_by : (below : List Bits) → Switch → Bits → Bits
switch_by below switch row = by_mask (slice_get below switch.path) switch.on row

-- one after another
abbrev pub all_switched : (below : List Bits) → List Switch → Bits → Bits
all_switched below [] row = row
all_switched below (switch ∷ switches) row = all_switched below switches (switch_by below switch row)

abbrev pub at_most_one : Option Switch → List Switch
at_most_one None = []
at_most_one (Some switch) = switch ∷ []

-- what the store of a block's result switches on a way out of it
abbrev pub result_switch : BlockSwitches → (way : ℕ) → Option Switch
result_switch block way = if way == 0 then block.first else block.second

-- what a block switches on a way out of it, its uses first
abbrev pub way_switches : Option BlockSwitches → (way : ℕ) → List Switch
way_switches None way = []
way_switches (Some block) way = block.uses ++ at_most_one (result_switch block way)

-- a switch of what is gone, as bits take it that say what is gone, or what is present
abbrev pub taken : (gone : Bool) → Switch → Switch
taken gone switch = record { path = switch.path; on = says gone switch.on }

-- the row past a way out of a block, by switches of what is gone
abbrev pub passed_by : Switches → (gone : Bool) → (block way : ℕ) → Bits → Bits
passed_by s gone block way row =
    all_switched s.below (map (taken gone) (way_switches (slice_get s.blocks block) way)) row
