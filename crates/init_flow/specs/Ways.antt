-- The ways out of a block by their numbers: 0 is the only way, or the way without the choice, as the block of `no` or
-- the next one; 1 is the way with it, as the block of `yes` or that of a panic.
use Rattle.std.specs.Prelude.{ℕ, ◌==◌, Bool, true, false, not, ◌||◌, List, [], ◌∷◌, if◌then◌else◌, Option, Some, None, length, slice_get, option_and_then}
use Rattle.std.specs.Option.{option_map_or}
use Rattle.mir_ty.specs.ItemTable.{ItemTable}
use Rattle.mir_ty.specs.Facts.{needs_drop}
use Rattle.store_model.specs.Places.TypeForms.{is_never}
use Rattle.cfg_graph.specs.Places.{place_id, ty_of_place}
use Rattle.cfg_graph.specs.declared.graph.Body.{Body}
use Rattle.cfg_graph.specs.declared.terminator.Term.{Term}
use Rattle.cfg_graph.specs.Edges.{BlockExit, ToBlock, LeavesBody, ways_out}
use Rattle.cfg_graph.specs.Moves.Paths.{PathWay, ways}

abbrev pub number_of : List Bool → ℕ
number_of (true ∷ rest) = 1
number_of choices = 0

abbrev pub block_of : BlockExit → Option ℕ
block_of (ToBlock block) = Some block
block_of LeavesBody = None

-- the block to which the way with this number leads
abbrev pub target_among : ℕ → List PathWay → Option ℕ
target_among number [] = None
target_among number (way ∷ rest) =
    if number_of way.choices == number then block_of way.exit else target_among number rest

-- the same of a block's terminator
abbrev pub way_target : ItemTable → Body → Term → ℕ → Option ℕ
way_target items body term way = target_among way (ways items body term)

-- the block to which a way of a block leads; none where it has no such way, or that leaves the body
abbrev pub target : ItemTable → Body → (block way : ℕ) → Option ℕ
target items body block way =
    option_and_then (λ found. way_target items body found.term way) (slice_get body.blocks block)

-- how many ways out a block has
abbrev pub way_count : Body → (block : ℕ) → ℕ
way_count body block = option_map_or (λ found. length (ways_out found.term)) (slice_get body.blocks block) 0

-- the block to which the way out of a terminator with this number leads, on paths or not
abbrev pub exit_at : Term → ℕ → Option ℕ
exit_at term way = option_and_then block_of (slice_get (ways_out term) way)

-- the way on from a call is on paths where the call returns, and that of a panic from a drop where one is needed
abbrev pub on_paths : ItemTable → Body → Term → ℕ → Bool
on_paths items body (Term.Call to callee args next unwind) way =
    not (way == 0) || not (is_never (ty_of_place items body.locals to))
on_paths items body (Term.Virtual to trait_no method args next unwind) way =
    not (way == 0) || not (is_never (ty_of_place items body.locals to))
on_paths items body (Term.DropAt place next unwind) way =
    (way == 0) || option_map_or (needs_drop items) (place_id items body.locals place) false
on_paths items body term way = true
