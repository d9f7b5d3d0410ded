-- The locals that a body has to have.
use Rattle.std.specs.Prelude.{◌≡◌, ℕ, Bool, true, ◌&&◌, flat_map, length, nat_lt, slice_get, Some}
use Rattle.std.specs.List.{list_all}
use Rattle.cfg_graph.specs.declared.place.Place.{Place}
use Rattle.cfg_graph.specs.declared.graph.Body.{Body}
use Rattle.cfg_graph.specs.declared.graph.Graph.{Graph}
use Rattle.cfg_graph.specs.Uses.{PlaceUse}
use Rattle.cfg_graph.specs.WellFormed.Faults.{IsWellFormed}
use Rattle.move_paths.specs.Uses.{block_uses}

-- a use is of a local below this number
abbrev pub is_local : ℕ → PlaceUse × Place → Bool
is_local count made = nat_lt made.1.local count

-- a body has a block, and the locals that its uses name
abbrev pub has_locals : Body → Bool
has_locals body =
    nat_lt 0 (length body.blocks) && list_all (is_local (length body.locals)) (flat_map block_uses body.blocks)

-- each body of a graph without a fault has them
abbrev pub WellFormedHasLocals : Type 0
WellFormedHasLocals =
    (graph : Graph) (n : ℕ) (body : Body) → IsWellFormed graph → slice_get graph.bodies n ≡ Some body →
    has_locals body ≡ true
