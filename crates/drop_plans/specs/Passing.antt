-- What uses make of a row that says of each path whether it may be gone, or whether it may be present.
use Rattle.std.specs.Prelude.{◌≡◌, Bool, List}
use Rattle.store_model.specs.Places.Place.{Place as Named}
use Rattle.cfg_graph.specs.declared.place.Place.{Place}
use Rattle.cfg_graph.specs.Uses.{PlaceUse}
use Rattle.init_flow.specs.Carried.{Bits}
use Rattle.init_flow.specs.Fits.{Fits}
use Rattle.init_flow.specs.Switches.{all_switched}
use Rattle.init_flow.specs.declared.switches.Switch.{Switch}

-- each use turns the bits of the paths at and below the one that its place is
abbrev pub Passes :
    (paths : List Named) (gone : Bool) (below : List Bits) → List (PlaceUse × Place) → (before after : Bits) → Type 0
Passes paths gone below uses before after =
    (switches : List Switch) × Fits paths gone switches uses × (after ≡ all_switched below switches before)
