-- What a path does with places, in order.
use Rattle.std.specs.Prelude.{ℕ, suc, List, [], ◌∷◌, ◌++◌, map, length, slice_get, nat_eq, if◌then◌else◌}
use Rattle.std.specs.List.{list_any}
use Rattle.std.specs.Option.{option_map_or}
use Rattle.cfg_graph.specs.declared.place.Place.{Place}
use Rattle.cfg_graph.specs.declared.statement.Stmt.{Stmt}
use Rattle.cfg_graph.specs.declared.graph.Block.{Block}
use Rattle.cfg_graph.specs.declared.graph.Body.{Body}
use Rattle.cfg_graph.specs.Edges.{onward}
use Rattle.cfg_graph.specs.Moves.Gone.{PathAction}
use Rattle.cfg_graph.specs.Places.{named}
use Rattle.cfg_graph.specs.Uses.{PlaceUse, Stores, stmt_uses, term_uses, stored_by_term}

-- uses as actions at one line
abbrev pub at_line : (block line : ℕ) → List (PlaceUse × Place) → List PathAction
at_line block line uses = map (λ made. record { how = made.0; place = named made.1; block = block; line = line }) uses

-- of statements, the first of which has this number
abbrev pub stmt_actions : (block line : ℕ) → List Stmt → List PathAction
stmt_actions block line [] = []
stmt_actions block line (stmt ∷ stmts) = at_line block line (stmt_uses stmt) ++ stmt_actions block (suc line) stmts

-- the statements of a block, and its terminator before a way out is taken
abbrev pub block_actions : ℕ → Block → List PathAction
block_actions n block = stmt_actions n 0 block.stmts ++ at_line n (length block.stmts) (term_uses block.term)

-- the result of a terminator is stored on the way on, and not where it panics
abbrev pub result_actions : (n next : ℕ) → Block → List PathAction
result_actions n next block =
    if list_any (nat_eq next) (onward block.term)
    then at_line n (length block.stmts) (map (λ place. (Stores, place)) (stored_by_term block.term))
    else []

module _ (body : Body) where
  abbrev pub actions_in : ℕ → List PathAction
  actions_in n = option_map_or (block_actions n) (slice_get body.blocks n) []

  abbrev pub actions_between : (n next : ℕ) → List PathAction
  actions_between n next = option_map_or (result_actions n next) (slice_get body.blocks n) []

  -- of a path, up to the end of its last block, before a way out of it
  abbrev pub actions_on : List ℕ → List PathAction
  actions_on [] = []
  actions_on (last ∷ []) = actions_in last
  actions_on (n ∷ next ∷ path) = actions_in n ++ actions_between n next ++ actions_on (next ∷ path)
