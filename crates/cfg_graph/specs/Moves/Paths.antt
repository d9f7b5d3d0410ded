-- The paths of a body: through which blocks a run may come, if every condition may go either way and all that can
-- panic may panic. A path begins in block 0 and goes on along edges, and is the list of its blocks. Where a block has
-- two ways out, the way gives a choice, 1 for `yes` and for a panic; each turn of a loop gives a 0.
use Rattle.std.specs.Prelude.{ℕ, zero, suc, ◌==◌, Bool, true, false, List, [], ◌∷◌, ◌++◌, map, flat_map, if◌then◌else◌, Option, slice_get, Contains}
use Rattle.std.specs.Option.{option_map_or}
use Rattle.mir_ty.specs.declared.ty.TyId.{TyId}
use Rattle.mir_ty.specs.Facts.{needs_drop}
use Rattle.mir_ty.specs.ItemTable.{ItemTable}
use Rattle.cfg_graph.specs.declared.place.Place.{Place}
use Rattle.cfg_graph.specs.declared.terminator.Term.{Term}
use Rattle.cfg_graph.specs.declared.graph.Body.{Body}
use Rattle.cfg_graph.specs.Edges.{BlockExit, ToBlock, LeavesBody, ways_out, is_turn}
use Rattle.store_model.specs.Places.TypeForms.{is_never}
use Rattle.cfg_graph.specs.Places.{place_id, ty_of_place}

-- a way out of a block on a path: the choices that it gives, and where it leads
pub record PathWay : Type 0 where
  pub choices : List Bool
  pub exit : BlockExit

-- the ways out of a block, of which each of two gives its choice
abbrev pub each_way : List BlockExit → List PathWay
each_way [] = []
each_way (only ∷ []) = record { choices = []; exit = only } ∷ []
each_way (none ∷ one ∷ rest) =
    record { choices = false ∷ []; exit = none } ∷ record { choices = true ∷ []; exit = one } ∷ []

-- the first way alone, without a choice
abbrev pub first_alone : List BlockExit → List PathWay
first_alone [] = []
first_alone (first ∷ rest) = record { choices = []; exit = first } ∷ []

-- the second way alone, with its choice
abbrev pub second_alone : List BlockExit → List PathWay
second_alone [] = []
second_alone (first ∷ []) = []
second_alone (first ∷ second ∷ rest) = record { choices = true ∷ []; exit = second } ∷ []

-- the type of a place needs dropping
abbrev pub needs_dropping : ItemTable → Option TyId → Bool
needs_dropping items id = option_map_or (needs_drop items) id false

-- the choice of a turn
abbrev pub zero_if : Bool → List Bool
zero_if true = false ∷ []
zero_if false = []

module _ (items : ItemTable) (body : Body) where
  -- a call whose result is of type `!` never returns
  abbrev pub ways_of_call : Place → List BlockExit → List PathWay
  ways_of_call to exits = if is_never (ty_of_place items body.locals to) then second_alone exits else each_way exits

  -- the drop of what needs no dropping cannot panic
  abbrev pub ways_of_drop : Place → List BlockExit → List PathWay
  ways_of_drop place exits =
      if needs_dropping items (place_id items body.locals place) then each_way exits else first_alone exits

  -- which of the ways out of a terminator are on paths, with their choices
  abbrev pub ways_among : Term → List BlockExit → List PathWay
  ways_among (Term.Call to callee args next unwind) exits = ways_of_call to exits
  ways_among (Term.Virtual to trait_no method args next unwind) exits = ways_of_call to exits
  ways_among (Term.DropAt place next unwind) exits = ways_of_drop place exits
  ways_among _ exits = each_way exits

  -- the ways out of a terminator that are on paths
  abbrev pub ways : Term → List PathWay
  ways term = ways_among term (ways_out term)

  -- the ways out of the block with this number
  abbrev pub ways_from : ℕ → List PathWay
  ways_from block = option_map_or (λ found. ways found.term) (slice_get body.blocks block) []

  -- what the entry to a block gives
  abbrev pub entry_choices : ℕ → List Bool
  entry_choices block = zero_if (option_map_or is_turn (slice_get body.blocks block) false)

  -- the choices of a way, if it leads to this block, and if it leads out of the body
  abbrev pub choices_to : ℕ → PathWay → List (List Bool)
  choices_to block way =
      elim way.exit [ ToBlock next ↦ if next == block then way.choices ∷ [] else [] | LeavesBody ↦ [] ]

  abbrev pub choices_out : PathWay → List (List Bool)
  choices_out way = elim way.exit [ ToBlock next ↦ [] | LeavesBody ↦ way.choices ∷ [] ]

  -- the lists of choices that the ways from one block to the next may give; none where there is no such way
  abbrev pub choices_between : ℕ → ℕ → List (List Bool)
  choices_between from to = flat_map (choices_to to) (ways_from from)

  -- the lists of choices of a path from a block on, past its entry, through the blocks that follow
  abbrev pub choices_along : (ℕ → List (List Bool)) → ℕ → List ℕ → List (List Bool)
  choices_along at_last from [] = at_last from
  choices_along at_last from (to ∷ path) =
      flat_map (λ given. map (λ rest. given ++ entry_choices to ++ rest) (choices_along at_last to path))
      (choices_between from to)

  -- a path begins in block 0, with the choices of the entry to it
  abbrev pub from_start : (ℕ → List (List Bool)) → List ℕ → List (List Bool)
  from_start at_last [] = []
  from_start at_last (zero ∷ path) = map (λ rest. entry_choices 0 ++ rest) (choices_along at_last 0 path)
  from_start at_last (suc n ∷ path) = []

  -- The lists of choices of a path up to the end of its last block, before a way out of it; there is one, or none where
  -- the blocks are no path, and more only where both ways out of a block lead to the same block.
  abbrev pub choices_of_path : List ℕ → List (List Bool)
  choices_of_path path = from_start (λ last. [] ∷ []) path

  -- the lists of choices of a path that then leaves the body, by unwinding out of it or by an abort
  abbrev pub choices_of_leaving_path : List ℕ → List (List Bool)
  choices_of_leaving_path path = from_start (λ last. flat_map choices_out (ways_from last)) path

  -- a list of blocks is a path that gives these choices
  abbrev pub IsPath : List ℕ → List Bool → Type 0
  IsPath path given = Contains (choices_of_path path) given
