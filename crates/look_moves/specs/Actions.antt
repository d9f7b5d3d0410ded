-- What a path does with places before a line of its last block.
use Rattle.std.specs.Prelude.{ℕ, ◌==◌, ◌||◌, nat_eq, Bool, List, [], ◌∷◌, ◌++◌, map, take, slice_get}
use Rattle.std.specs.List.{list_any}
use Rattle.std.specs.Option.{option_map_or}
use Rattle.cfg_graph.specs.declared.graph.Body.{Body}
use Rattle.cfg_graph.specs.declared.terminator.Term.{Term}
use Rattle.cfg_graph.specs.Edges.{onward}
use Rattle.cfg_graph.specs.Moves.Actions.{actions_in, actions_between, stmt_actions}
use Rattle.cfg_graph.specs.Moves.Gone.{PathAction}
use Rattle.cfg_graph.specs.Places.{named}
use Rattle.move_paths.specs.Uses.{use_of}
use Rattle.look_moves.specs.declared.actions.Action.{Action}

-- what Rust holds of an action, as the meaning of graphs has it
abbrev pub action_of : Action → PathAction
action_of action =
    record { how = use_of action.how; place = named action.place.now; block = action.block; line = action.line }

abbrev pub seen : List Action → List PathAction
seen actions = map action_of actions

abbrev pub goes_on_to : Term → ℕ → Bool
goes_on_to term next = list_any (nat_eq next) (onward term)

module _ (body : Body) where
  -- from the entry to a block to that of the next one on a path
  abbrev pub step_actions : (n next : ℕ) → List PathAction
  step_actions n next = actions_in body n ++ actions_between body n next

  -- before a line of a block
  abbrev pub last_actions : (line n : ℕ) → List PathAction
  last_actions line n =
      option_map_or (λ block. stmt_actions n 0 (take line block.stmts)) (slice_get body.blocks n) []

  -- from the entry to a block on, along the rest of a path, before a line of its last block
  abbrev pub actions_from : (line n : ℕ) → List ℕ → List PathAction
  actions_from line n [] = last_actions line n
  actions_from line n (next ∷ path) = step_actions n next ++ actions_from line next path

  abbrev pub actions_before : (line : ℕ) → List ℕ → List PathAction
  actions_before line [] = []
  actions_before line (n ∷ path) = actions_from line n path
