-- What rows say of the paths of a body.
use Rattle.std.specs.Prelude.{◌≡◌, ◌↔◌, ◌<◌, ℕ, Bool, true, false, not, List, [], ◌∷◌, ◌++◌, map, length, Option, Some, slice_get, slice_index_or, Contains}
use Rattle.mir_ty.specs.ItemTable.{ItemTable}
use Rattle.store_model.specs.Places.Place.{Place}
use Rattle.cfg_graph.specs.declared.graph.Body.{Body}
use Rattle.cfg_graph.specs.Moves.Actions.{actions_on}
use Rattle.cfg_graph.specs.Moves.Gone.{PathAction, is_at_or_above, is_gone_after}
use Rattle.init_flow.specs.Carried.{Bits, last_of, rows_along, AreCarried}
use Rattle.init_flow.specs.Ways.{target}
use Rattle.cfg_graph.specs.Moves.Paths.{IsPath}

-- bits say what is gone, or what is present
abbrev pub says : (gone is_gone : Bool) → Bool
says true is_gone = is_gone
says false is_gone = not is_gone

-- Each row that a path carries to a block has a bit for each of these places, in order. It says whether the place is
-- gone there, or whether it is present: after the actions of the path before those of that block, its last one.
pub record Says
    (items : ItemTable) (body : Body) (places : List Place) (gone : Bool) (target : ℕ → ℕ → Option ℕ)
    (pass : ℕ → ℕ → Bits → Bits) (first : Bits) : Type 0 where
  pub width : length first ≡ length places
  pub rows :
      (rest : List ℕ) (row : Bits) → Contains (rows_along target pass 0 first rest) row →
      (earlier : List PathAction)
      × (actions_on body (0 ∷ rest) ≡ earlier ++ actions_on body (last_of 0 rest ∷ []))
      × (row ≡ map (λ place. says gone (is_gone_after items body earlier place)) places)

-- the paths at or below a path
abbrev pub mask_of : List Place → Place → Bits
mask_of paths upper = map (is_at_or_above upper) paths

abbrev pub masks_of : List Place → List Bits
masks_of paths = map (mask_of paths) paths

-- A path of a body leads to a block with a place gone there, or present: after the actions of the path before those of
-- that block, its last one.
pub record LeadsTo (items : ItemTable) (body : Body) (block : ℕ) (place : Place) (gone : Bool) : Type 0 where
  pub rest : List ℕ
  pub choices : List Bool
  pub earlier : List PathAction
  pub is_path : IsPath items body (0 ∷ rest) choices
  pub ends : last_of 0 rest ≡ block
  pub before : actions_on body (0 ∷ rest) ≡ earlier ++ actions_on body (block ∷ [])
  pub is : is_gone_after items body earlier place ≡ gone

-- What the law of moves says: where what paths carry says what is gone, or what is present, a solution has a bit on
-- exactly where some path of the body leads there with the place gone, or present.
abbrev pub SolvedSays : Type 0
SolvedSays =
    (items : ItemTable) (body : Body) (places : List Place) (gone : Bool) (pass : ℕ → ℕ → Bits → Bits) (first : Bits)
    (rows : List Bits) →
    Says items body places gone (target items body) pass first →
    AreCarried (length body.blocks) (target items body) pass first rows →
    (block bit : ℕ) (place : Place) → block < length body.blocks → slice_get places bit ≡ Some place →
    (slice_index_or (slice_index_or rows block []) bit false ≡ true) ↔ LeadsTo items body block place gone
