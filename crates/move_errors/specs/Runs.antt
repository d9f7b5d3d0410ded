-- Runs along lists of choices, as the search goes over them: from point to point of a body, each with the row of what
-- is gone.
use Rattle.std.specs.Prelude.{◌≡◌, ◌⊎◌, ℕ, suc, ◌+◌, ◌*◌, Bool, true, false, not, List, [], ◌∷◌, ◌++◌, map, length, Option, Some, None, slice_get, option_and_then, if◌then◌else◌, nat_eq, nat_lt}
use Rattle.std.specs.List.{list_any}
use Rattle.std.specs.Option.{option_map_or, is_some}
use Rattle.mir_ty.specs.ItemTable.{ItemTable}
use Rattle.mir_ty.specs.Facts.{needs_drop}
use Rattle.store_model.specs.Places.Place.{Place}
use Rattle.cfg_graph.specs.declared.place.Place.{Place as GraphPlace}
use Rattle.cfg_graph.specs.declared.statement.Stmt.{Stmt}
use Rattle.cfg_graph.specs.declared.terminator.Term.{Term}
use Rattle.cfg_graph.specs.declared.graph.Block.{Block}
use Rattle.cfg_graph.specs.declared.graph.Body.{Body}
use Rattle.cfg_graph.specs.Edges.{onward, is_turn}
use Rattle.cfg_graph.specs.Places.{named, place_id}
use Rattle.cfg_graph.specs.Uses.{PlaceUse, Stores, stored_by_term, stmt_uses}
use Rattle.cfg_graph.specs.Moves.Actions.{actions_on}
use Rattle.cfg_graph.specs.Moves.Gone.{PathAction}
use Rattle.init_flow.specs.Carried.{Bits}
use Rattle.init_flow.specs.Ways.{target}
use Rattle.move_paths.specs.Uses.{use_of}
use Rattle.move_errors.specs.Rows.{after, first_by, state}
use Rattle.move_errors.specs.declared.point.Point.{Point}
use Rattle.move_errors.specs.declared.point.Stage.{Stage}
use Rattle.move_errors.specs.declared.point.Onward.{Onward}
use Rattle.move_errors.specs.declared.act.Act.{Act}

abbrev pub number_of : Bool → ℕ
number_of true = 1
number_of false = 0

abbrev pub stage_number : Stage → ℕ
stage_number Stage.Entry = 0
stage_number Stage.Inside = 1
stage_number (Stage.Leaving way) = 2 + number_of way

abbrev pub index_of : Point → ℕ
index_of at = at.block * 4 + stage_number at.stage

abbrev pub at_line : (block line : ℕ) → List (PlaceUse × GraphPlace) → List PathAction
at_line block line uses = map (λ made. record { how = made.0; place = named made.1; block = block; line = line }) uses

-- of statements, the first of which has this number
abbrev pub stmt_actions : (block line : ℕ) → List Stmt → List PathAction
stmt_actions block line [] = []
stmt_actions block line (stmt ∷ stmts) = at_line block line (stmt_uses stmt) ++ stmt_actions block (suc line) stmts

-- acts as actions of a block
abbrev pub action_of : (block : ℕ) → Act → PathAction
action_of block act = record { how = use_of act.how; place = named act.place.now; block = block; line = act.line }

abbrev pub actions_of : (block : ℕ) → List Act → List PathAction
actions_of block acts = map (action_of block) acts

-- where a terminator stores its result on its way to a block
abbrev pub stored_towards : Term → (next : ℕ) → List GraphPlace
stored_towards term next = if list_any (nat_eq next) (onward term) then stored_by_term term else []

abbrev pub stored_between : (block : Block) (n : ℕ) → Option ℕ → List PathAction
stored_between block n None = []
stored_between block n (Some next) =
    at_line n (length block.stmts) (map (λ place. (Stores, place)) (stored_towards block.term next))

abbrev pub point : ℕ → Stage → Point
point block stage = record { block = block; stage = stage }

abbrev pub entered : (block : ℕ) → Option Block → Onward
entered block None = Onward.Nowhere
entered block (Some found) =
    if is_turn found then Onward.Choices (Some (point block Stage.Inside)) None
    else Onward.Silent (point block Stage.Inside)

abbrev pub silently : Option Point → Onward
silently None = Onward.Nowhere
silently (Some to) = Onward.Silent to

-- by way of a block to the entry of another, if there is such a block
abbrev pub arrived : (blocks : ℕ) → Option ℕ → Onward
arrived blocks None = Onward.Nowhere
arrived blocks (Some to) = if nat_lt to blocks then Onward.Silent (point to Stage.Entry) else Onward.Nowhere

module _ (items : ItemTable) (body : Body) where
  -- the first way out of a terminator gives no choice
  abbrev pub is_silent : Term → Bool
  is_silent (Term.Goto block) = true
  is_silent (Term.Panic why unwind) = true
  is_silent (Term.DropAt place next unwind) =
      not (option_map_or (needs_drop items) (place_id items body.locals place) false)
  is_silent term = false

  -- what is done at a point: within a block its uses, on a way out of it the store of its result
  abbrev pub acts_at : (block : ℕ) → Stage → List PathAction
  acts_at block Stage.Entry = []
  acts_at block Stage.Inside = actions_on body (block ∷ [])
  acts_at block (Stage.Leaving way) =
      option_map_or (λ found. stored_between found block (target items body block (number_of way)))
      (slice_get body.blocks block) []

  abbrev pub leaving : (block : ℕ) (way : Bool) → Option Point
  leaving block way =
      option_and_then (λ to. Some (point block (Stage.Leaving way))) (target items body block (number_of way))

  abbrev pub left_block : (block : ℕ) → Option Block → Onward
  left_block block None = Onward.Nowhere
  left_block block (Some found) =
      if is_silent found.term then silently (leaving block false)
      else Onward.Choices (leaving block false) (leaving block true)

  -- where a run goes on from a point
  abbrev pub onward_from : (block : ℕ) → Stage → Onward
  onward_from block Stage.Entry = entered block (slice_get body.blocks block)
  onward_from block Stage.Inside = left_block block (slice_get body.blocks block)
  onward_from block (Stage.Leaving way) = arrived (length body.blocks) (target items body block (number_of way))

-- Runs, whatever the problem is.
pub record Problem : Type 0 where
  pub width : ℕ
  pub points : ℕ
  pub start : Bits
  pub bad : Point → Bits → Bool
  pub pass : Point → Bits → Bits
  pub onward : Point → Onward

-- a run: the blocks within which it was, the choices that it gave, where it stands, and the row there
pub record Trip : Type 0 where
  pub path : List ℕ
  pub given : List Bool
  pub at : Point
  pub row : Bits

abbrev pub optional : Option Bool → List Bool
optional None = []
optional (Some choice) = choice ∷ []

-- a block is met within it
abbrev pub met_at : (block : ℕ) → Stage → List ℕ
met_at block Stage.Entry = []
met_at block Stage.Inside = block ∷ []
met_at block (Stage.Leaving way) = []

abbrev pub met : Point → List ℕ
met at = met_at at.block at.stage

-- from a point there is a way to another, which gives a choice or none
abbrev pub Leads : Onward → Option Bool → Point → Type 0
Leads Onward.Nowhere choice to = ⊥
Leads (Onward.Silent next) choice to = (choice ≡ None) × (next ≡ to)
Leads (Onward.Choices none one) choice to =
    ((choice ≡ Some false) × (none ≡ Some to)) ⊎ ((choice ≡ Some true) × (one ≡ Some to))

module _ (f : Problem) where
  abbrev pub step : Trip → Option Bool → Point → Trip
  step t choice to =
      record { path = t.path ++ met to; given = t.given ++ optional choice; at = to; row = f.pass t.at t.row }

  abbrev pub beginning : Trip
  beginning = record { path = []; given = []; at = record { block = 0; stage = Stage.Entry }; row = f.start }

  -- the runs that meet no bad use before the point where they stand
  pub data IsRun : Trip → Type 0 where
    begins : IsRun beginning
    goes : (t : Trip) (choice : Option Bool) (to : Point) →
        IsRun t → f.bad t.at t.row ≡ false → Leads (f.onward t.at) choice to → IsRun (step t choice to)

-- the problem of a body
abbrev pub problem : ItemTable → Body → List Place → Problem
problem items body paths =
    record {
      width = length paths;
      points = length body.blocks * 4;
      start = state items body paths [];
      bad = λ at row. is_some (first_by items body paths (acts_at items body at.block at.stage) row);
      pass = λ at row. after items body paths (acts_at items body at.block at.stage) row;
      onward = λ at. onward_from items body at.block at.stage;
    }
