-- Tests of all places of a line and of all its edges.
use Rattle.std.proofs.Common.{◌≡◌, ℕ, Bool, true, false, ◌&&◌, List, [], ◌∷◌, ◌++◌, map, Option, Some, None, option_and_then, refl, ap, sym, ◌∙◌}
use Rattle.std.specs.Prelude.{flat_map}
use Rattle.std.specs.List.{list_all}
use Rattle.std.proofs.lemmas.List.Folds.{list_all-append}
use Rattle.mir_ty.specs.declared.ty.TyId.{TyId}
use Rattle.mir_ty.specs.ItemTable.{ItemTable, type_at}
use Rattle.store_model.specs.Places.Place.{Step, step_ty, ty_along}
use Rattle.cfg_graph.specs.declared.place.Place.{Place}
use Rattle.cfg_graph.specs.declared.place.Operand.{Operand}
use Rattle.cfg_graph.specs.declared.statement.Stmt.{Stmt}
use Rattle.cfg_graph.specs.declared.terminator.Term.{Term}
use Rattle.cfg_graph.specs.Places.{place_of}
use Rattle.cfg_graph.specs.Edges.{onward, unwind_targets, targets}
use Rattle.cfg_graph.specs.Uses.{operand_uses, place_used, other_uses, other_term_uses, operands_of_stmt, operands_of_term, stored_by_stmt, stored_by_term, places_of_stmt, places_of_term, Stores}

module _ (p : Place → Bool) where
  used : (operand : Operand) → list_all p (map place_used (operand_uses operand)) ≡ list_all p (place_of operand)
  used (Operand.Copied place) = refl
  used (Operand.Moved place) = refl
  used (Operand.Number value kind) = refl
  used (Operand.Truth value) = refl
  used Operand.Unit = refl

  map-append' : {X Y : Type 0} → (f : X → Y) (xs ys : List X) → map f (xs ++ ys) ≡ map f xs ++ map f ys
  map-append' f [] ys = refl
  map-append' f (x ∷ xs) ys = ap (λ zs. f x ∷ zs) (map-append' f xs ys)

  all_used : (operands : List Operand) → list_all p (map place_used (flat_map operand_uses operands)) ≡ list_all (λ operand. list_all p (place_of operand)) operands
  all_used [] = refl
  all_used (operand ∷ operands) =
      ap (list_all p) (map-append' place_used (operand_uses operand) (flat_map operand_uses operands))
      ∙ list_all-append p (map place_used (operand_uses operand)) (map place_used (flat_map operand_uses operands))
      ∙ ap (λ b. b && list_all p (map place_used (flat_map operand_uses operands))) (used operand)
      ∙ ap (λ b. list_all p (place_of operand) && b) (all_used operands)

  stored_used : (places : List Place) → list_all p (map place_used (map (λ place. (Stores, place)) places)) ≡ list_all p places
  stored_used [] = refl
  stored_used (place ∷ places) = ap (λ b. p place && b) (stored_used places)

  and-assoc : (a b c : Bool) → ((a && b) && c) ≡ (a && (b && c))
  and-assoc true b c = refl
  and-assoc false b c = refl

  abbrev pub of_operands : List Operand → Bool
  of_operands operands = list_all (λ operand. list_all p (place_of operand)) operands

  pub all_places : (stmt : Stmt)
      → list_all p (places_of_stmt stmt) ≡ (of_operands (operands_of_stmt stmt) && (list_all p (map place_used (other_uses stmt)) && list_all p (stored_by_stmt stmt)))
  all_places stmt =
      ap (list_all p) (map-append' place_used (flat_map operand_uses (operands_of_stmt stmt) ++ other_uses stmt) (map (λ place. (Stores, place)) (stored_by_stmt stmt)))
      ∙ list_all-append p (map place_used (flat_map operand_uses (operands_of_stmt stmt) ++ other_uses stmt)) (map place_used (map (λ place. (Stores, place)) (stored_by_stmt stmt)))
      ∙ ap (λ b. list_all p (map place_used (flat_map operand_uses (operands_of_stmt stmt) ++ other_uses stmt)) && b) (stored_used (stored_by_stmt stmt))
      ∙ ap (λ b. b && list_all p (stored_by_stmt stmt))
      (ap (list_all p) (map-append' place_used (flat_map operand_uses (operands_of_stmt stmt)) (other_uses stmt))
      ∙ list_all-append p (map place_used (flat_map operand_uses (operands_of_stmt stmt))) (map place_used (other_uses stmt))
      ∙ ap (λ b. b && list_all p (map place_used (other_uses stmt))) (all_used (operands_of_stmt stmt)))
      ∙ and-assoc (of_operands (operands_of_stmt stmt)) (list_all p (map place_used (other_uses stmt))) (list_all p (stored_by_stmt stmt))

  pub all_places_of_end : (term : Term)
      → list_all p (places_of_term term) ≡ (of_operands (operands_of_term term) && (list_all p (map place_used (other_term_uses term)) && list_all p (stored_by_term term)))
  all_places_of_end term =
      list_all-append p (map place_used (flat_map operand_uses (operands_of_term term) ++ other_term_uses term)) (stored_by_term term)
      ∙ ap (λ b. b && list_all p (stored_by_term term))
      (ap (list_all p) (map-append' place_used (flat_map operand_uses (operands_of_term term)) (other_term_uses term))
      ∙ list_all-append p (map place_used (flat_map operand_uses (operands_of_term term))) (map place_used (other_term_uses term))
      ∙ ap (λ b. b && list_all p (map place_used (other_term_uses term))) (all_used (operands_of_term term)))
      ∙ and-assoc (of_operands (operands_of_term term)) (list_all p (map place_used (other_term_uses term))) (list_all p (stored_by_term term))

pub two_parts : {X : Type 0} (q : X → Bool) (first more all : List X) → first ++ more ≡ all → list_all q all ≡ (list_all q first && list_all q more)
two_parts q first more all e = ap (list_all q) (sym e) ∙ list_all-append q first more

pub all_onward : (p : ℕ → Bool) (term : Term) (first second : List ℕ) → first ++ second ≡ onward term → (list_all p first && list_all p second) ≡ list_all p (onward term)
all_onward p term first second e = sym (list_all-append p first second) ∙ ap (list_all p) e

pub all_targets : (p : ℕ → Bool) (term : Term) → list_all p (targets term) ≡ (list_all p (onward term) && list_all p (unwind_targets term))
all_targets p term = list_all-append p (onward term) (unwind_targets term)

-- a step more along a place
pub further : (items : ItemTable) (step : Step) (steps : List Step) (at : Option TyId)
    → option_and_then (ty_along items (step ∷ steps)) at ≡ option_and_then (ty_along items steps) (option_and_then (step_ty items step) (option_and_then (type_at items) at))
further items step steps None = refl
further items step steps (Some id) = refl
