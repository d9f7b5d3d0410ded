-- What a graph has to be, so that a watch that looks at calls alone sees all: each line but a call names the local of the
-- reference nowhere, or is the borrow of the one place into it; and no place goes through a reference that is made.
use Rattle.std.proofs.Common.{◌≡◌, ◌⊎◌, inl, inr, ℕ, ◌==◌, ◌&&◌, ◌||◌, not, Bool, true, false, List, [], ◌∷◌, ◌++◌, map, flat_map, Option, Some, None, slice_get, refl, sym, ap, subst, ◌∙◌}
use Rattle.std.proofs.lemmas.Bool.{false≢true}
use Rattle.std.proofs.lemmas.Bool.Decides.{Decides-eqb}
use Rattle.cfg_graph.proofs.WholePlaces.{same_step-refl}
use Rattle.cfg_graph.specs.declared.graph.Block.{Block}
use Rattle.cfg_graph.specs.declared.graph.Body.{Body}
use Rattle.cfg_graph.specs.declared.place.Operand.{Operand}
use Rattle.cfg_graph.specs.declared.statement.Stmt.{Stmt}
use Rattle.cfg_graph.specs.declared.terminator.Term.{Term}
use Rattle.cfg_graph.specs.NamedPlaces.{named_by, references_made, stores, same_place}
use Rattle.cfg_graph.specs.Moves.Gone.{are_first}
use Rattle.cfg_graph.specs.Uses.{PlaceUse, Borrows, Stores, operand_uses, stmt_uses, term_uses, stored_by_term}
use Rattle.store_model.specs.Places.Place.{Step, Place, whole_local}
use Rattle.lower_ready.proofs.NamedLines.{steps_same, place_same, unused, unmade, AllPlain, PlainLine, PlainCall, OnlyPassed, borrows_it}
use Rattle.lower_ready.proofs.NamedPlain.{IsDirect, spared_plain}
use Rattle.lower_ready.proofs.NamedWatch as watch
use Rattle.lower_ready.proofs.Noting.{Note}
use Rattle.lower_ready.proofs.PathWatch.{as_notes, calls}

steps_refl : (steps : List Step) → steps_same steps steps ≡ true
steps_refl [] = refl
steps_refl (step ∷ steps) = (λ i. same_step-refl step i && steps_refl steps i)

place_refl : (place : Place) → place_same place place ≡ true
place_refl place = (λ i. (Decides-eqb place.local place.local).1 refl i && steps_refl place.steps i)

module _ (body : Body) (local : ℕ) (named : Place) where
  -- no note is of a place in the local
  abbrev pub Away : List Note → Type 0
  Away [] = Unit {0}
  Away (x ∷ rest) = ((x.1.local == local) ≡ false) × Away rest

  -- the borrow of the place into the local
  abbrev pub TheBorrow : List Note → Type 0
  TheBorrow notes = notes ≡ (Borrows, named) ∷ (Stores, whole_local local) ∷ []

  -- all places lead through no reference that is made
  abbrev pub AllDirect : List Note → Type 0
  AllDirect [] = Unit {0}
  AllDirect (x ∷ rest) = IsDirect body x.1 × AllDirect rest

  -- a call stores nothing before it returns
  abbrev pub NoStores : List Note → Type 0
  NoStores [] = Unit {0}
  NoStores (x ∷ rest) = (stores body x.0 ≡ false) × NoStores rest

  pub record MadeByOne : Type 0 where
    pub made : named_by local (references_made body) ≡ Some named
    pub elsewhere : (named.local == local) ≡ false
    pub direct : IsDirect body named
    pub statements : (n : ℕ) (block : Block) → slice_get body.blocks n ≡ Some block → (k : ℕ) (stmt : Stmt) →
        slice_get block.stmts k ≡ Some stmt →
        (Away (as_notes (stmt_uses stmt)) ⊎ TheBorrow (as_notes (stmt_uses stmt))) × AllDirect (as_notes (stmt_uses stmt))
    pub terminators : (n : ℕ) (block : Block) → slice_get body.blocks n ≡ Some block → calls block.term ≡ false →
        Away (as_notes (term_uses block.term)) × AllDirect (as_notes (term_uses block.term))
    pub passes : (n : ℕ) (block : Block) → slice_get body.blocks n ≡ Some block → calls block.term ≡ true →
        AllDirect (as_notes (term_uses block.term))
    pub results : (n : ℕ) (block : Block) → slice_get body.blocks n ≡ Some block →
        Away (as_notes (map (λ place. (Stores, place)) (stored_by_term block.term)))
        × AllDirect (as_notes (map (λ place. (Stores, place)) (stored_by_term block.term)))

  away_unused : (notes : List Note) → Away notes → unused body local named notes ≡ true
  away_unused [] a = refl
  away_unused (x ∷ rest) a =
      ap (λ (b : Bool). not (b && not (watch.is_made body local x)) && unused body local named rest) a.0
      ∙ away_unused rest a.1

  no_end : (b : Bool) → (b && false) ≡ false
  no_end true = refl
  no_end false = refl

  away_unmade : (notes : List Note) → Away notes → unmade body local named notes ≡ true
  away_unmade [] a = refl
  away_unmade (x ∷ rest) a =
      ap (λ (b : Bool). not (stores body x.0 && (b && are_first x.1.steps [] && are_first [] x.1.steps))
      && unmade body local named rest) a.0
      ∙ ap (λ (b : Bool). not b && unmade body local named rest) (no_end (stores body x.0)) ∙ away_unmade rest a.1

  calls_unmade : (notes : List Note) → NoStores notes → unmade body local named notes ≡ true
  calls_unmade [] a = refl
  calls_unmade (x ∷ rest) a =
      ap (λ (b : Bool). not (b && same_place x.1 (whole_local local)) && unmade body local named rest) a.0
      ∙ calls_unmade rest a.1

  operands_store_nothing : (os : List Operand) → NoStores (as_notes (flat_map operand_uses os ++ []))
  operands_store_nothing [] = tt
  operands_store_nothing (Operand.Copied place ∷ os) = (refl, operands_store_nothing os)
  operands_store_nothing (Operand.Moved place ∷ os) = (refl, operands_store_nothing os)
  operands_store_nothing (Operand.Number value kind ∷ os) = operands_store_nothing os
  operands_store_nothing (Operand.Truth value ∷ os) = operands_store_nothing os
  operands_store_nothing (Operand.Unit ∷ os) = operands_store_nothing os

  calls_store_nothing : (term : Term) → calls term ≡ true → NoStores (as_notes (term_uses term))
  calls_store_nothing (Term.Call to callee args next unwind) c = operands_store_nothing args
  calls_store_nothing (Term.Virtual to trait_no method args next unwind) c = operands_store_nothing args
  calls_store_nothing term c = absurd (false≢true c)

  module _ (g : MadeByOne) where
    all_plain : (notes : List Note) → AllDirect notes → AllPlain body local named notes
    all_plain [] d = tt
    all_plain (x ∷ rest) d = (spared_plain body local named g.made g.direct x d.0, all_plain rest d.1)

    away_line : (notes : List Note) → Away notes → AllDirect notes → PlainLine body local named notes
    away_line notes a d = record {
      uses = away_unused notes a;
      spares = all_plain notes d;
      makes = λ e. absurd (false≢true (sym e ∙ away_unmade notes a));
    }

    borrow_line : AllDirect ((Borrows, named) ∷ (Stores, whole_local local) ∷ []) →
        PlainLine body local named ((Borrows, named) ∷ (Stores, whole_local local) ∷ [])
    borrow_line d = record {
      uses = ap (λ (b : Bool). not (b && true) && unused body local named ((Stores, whole_local local) ∷ [])) g.elsewhere
          ∙ ap (λ (b : Bool). not (b && not (b && true && true)) && true) ((Decides-eqb local local).1 refl);
      spares = all_plain ((Borrows, named) ∷ (Stores, whole_local local) ∷ []) d;
      makes = λ e. ap (λ (b : Bool). b || (false || false)) (place_refl named);
    }

    pub only_passed : OnlyPassed body local named
    only_passed = record {
      statements = λ n block e k stmt s. by (as_notes (stmt_uses stmt)) (g.statements n block e k stmt s);
      terminators = λ n block e c. away_line _ (g.terminators n block e c).0 (g.terminators n block e c).1;
      passes = λ n block e c. record {
        spares = all_plain (as_notes (term_uses block.term)) (g.passes n block e c);
        makes = calls_unmade (as_notes (term_uses block.term)) (calls_store_nothing block.term c);
      };
      results = λ n block e. away_line _ (g.results n block e).0 (g.results n block e).1;
    }
      where
        by : (notes : List Note) → (Away notes ⊎ TheBorrow notes) × AllDirect notes → PlainLine body local named notes
        by notes (inl a, d) = away_line notes a d
        by notes (inr b, d) = subst (PlainLine body local named) (sym b) (borrow_line (subst AllDirect b d))
