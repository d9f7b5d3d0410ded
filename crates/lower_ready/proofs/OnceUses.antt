-- How the lines of a body use a local in which a reference is made: a borrow makes it, calls take it whole, and no other
-- line names it.
use Rattle.std.proofs.Common.{◌≡◌, ◌⊎◌, ℕ, ◌==◌, not, Bool, true, List, [], ◌∷◌, Some, slice_get}
use Rattle.std.specs.List.{list_all}
use Rattle.cfg_graph.specs.declared.graph.Block.{Block}
use Rattle.cfg_graph.specs.declared.graph.Body.{Body}
use Rattle.cfg_graph.specs.declared.place.Operand.{Operand}
use Rattle.cfg_graph.specs.declared.place.Place.{Place}
use Rattle.cfg_graph.specs.declared.statement.Stmt.{Stmt}
use Rattle.cfg_graph.specs.declared.terminator.Term.{Term}
use Rattle.cfg_graph.specs.NamedPlaces.{same_place}
use Rattle.cfg_graph.specs.Places.{named}
use Rattle.cfg_graph.specs.Uses.{places_of_stmt, places_of_term}
use Rattle.store_model.specs.Places.Place.{whole_local}

-- what is passed has no steps
abbrev pub AllWhole : List Operand → Type 0
AllWhole [] = Unit {0}
AllWhole (Operand.Copied place ∷ operands) = (place.steps ≡ []) × AllWhole operands
AllWhole (Operand.Moved place ∷ operands) = (place.steps ≡ []) × AllWhole operands
AllWhole (operand ∷ operands) = AllWhole operands

module _ (local : ℕ) where
  abbrev pub elsewhere : Place → Bool
  elsewhere place = not (place.local == local)

  abbrev pub whole : Place → Bool
  whole place = same_place (named place) (whole_local local)

  abbrev pub UsedWell : Stmt → Type 0
  UsedWell (Stmt.Borrow to unique of) = (elsewhere of ≡ true) × ((elsewhere to ≡ true) ⊎ (whole to ≡ true))
  UsedWell stmt = list_all elsewhere (places_of_stmt stmt) ≡ true

  abbrev pub PassedWell : Term → Type 0
  PassedWell (Term.Call to callee args next unwind) = (elsewhere to ≡ true) × AllWhole args
  PassedWell (Term.Virtual to trait_no method args next unwind) = (elsewhere to ≡ true) × AllWhole args
  PassedWell term = list_all elsewhere (places_of_term term) ≡ true

  -- each line of a body
  abbrev pub EachUsesWell : Body → Type 0
  EachUsesWell body = (n : ℕ) (block : Block) → slice_get body.blocks n ≡ Some block →
      ((k : ℕ) (stmt : Stmt) → slice_get block.stmts k ≡ Some stmt → UsedWell stmt) × PassedWell block.term
