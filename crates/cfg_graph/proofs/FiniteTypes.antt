-- What holds finite types alone does not hold itself.
use Rattle.std.proofs.Common.{◌≡◌, ◌⊎◌, inl, inr, ℕ, zero, suc, Bool, true, false, List, Contains, Option, Some, refl, ap, sym, ◌∙◌}
use Rattle.std.specs.List.{list_all}
use Rattle.std.specs.Option.{option_map_or}
use Rattle.std.proofs.lemmas.Bool.{false≢true, false_from_ne_true}
use Rattle.std.proofs.lemmas.List.Folds.{list_all_at}
use Rattle.mir_ty.specs.declared.ty.Ty.{Ty}
use Rattle.mir_ty.specs.declared.ty.TyId.{TyId}
use Rattle.mir_ty.specs.Facts.{in_rounds, by_rule}
use Rattle.mir_ty.specs.ItemTable.{ItemTable, type_at}
use Rattle.mir_ty.specs.Parts.{held_by, Holds, at_once, within}
use Rattle.mir_ty.proofs.FixedPoint.{by_rule-settled}
use Rattle.store_model.specs.Places.TypeForms.{is_adt}
use Rattle.cfg_graph.specs.declared.type_faults.Question.{Question}
use Rattle.cfg_graph.specs.WellFormed.TypeFaults.{HoldsItself, adt_holds_itself, closure_holds_itself}
use Rattle.cfg_graph.specs.WellFormed.Questions.{finite}
use Rattle.cfg_graph.proofs.Growing.{rule_for-growing}
use Rattle.cfg_graph.proofs.InfiniteSize.{first_step, adt_holding-tested, closure_holding-tested}

-- what is true of all is true of one
all_of-one : {X : Type 0} (p : X → Bool) (xs : List X) (x : X) → list_all p xs ≡ true → Contains xs x → p x ≡ true
all_of-one p xs x h c = by (p x) refl
  where
    by : (b : Bool) → p x ≡ b → p x ≡ true
    by true e = e
    by false e = absurd (false≢true (sym (list_all_at p xs c.0 x c.1 (ap p c.2 ∙ e)) ∙ h))

module _ (items : ItemTable) where
  no_round : (k : ℕ) (id : TyId) → in_rounds items.types (finite items) k id ≡ true → Holds items id id → ⊥
  no_round zero id h holds = false≢true h
  no_round (suc k) id h holds = step (no_round k) (first_step items (is_adt 0) id id holds)
    where
      held : (ty : Ty) → type_at items id ≡ Some ty → list_all (in_rounds items.types (finite items) k) (held_by items ty) ≡ true
      held ty is = sym (ap (λ (o : Option Ty). option_map_or (finite items (in_rounds items.types (finite items) k)) o false) is) ∙ h

      step : ((x : TyId) → in_rounds items.types (finite items) k x ≡ true → Holds items x x → ⊥) → (ty : Ty) × (x : TyId) × (type_at items id ≡ Some ty) × Contains (held_by items ty) x × ((x ≡ id) ⊎ Holds items x id) → ⊥
      step on (ty, x, is, c, inl same) = on id (ap (in_rounds items.types (finite items) k) (sym same) ∙ all_of-one (in_rounds items.types (finite items) k) (held_by items ty) x (held ty is) c) holds
      step on (ty, x, is, c, inr more) = on x (all_of-one (in_rounds items.types (finite items) k) (held_by items ty) x (held ty is) c) (within more (at_once is c))

  none_held : (ty : Ty) → list_all (by_rule items.types (finite items)) (held_by items ty) ≡ true → HoldsItself items ty → ⊥
  none_held ty all (id, is, holds) = no_round _ id (by_rule-settled items.types (finite items) (rule_for-growing items Question.IsFinite) id ty is all) holds

  pub finite_adt : (n : ℕ) → list_all (by_rule items.types (finite items)) (held_by items (Ty.Adt n)) ≡ true → adt_holds_itself items n ≡ false
  finite_adt n all = false_from_ne_true (adt_holds_itself items n) (λ h. none_held (Ty.Adt n) all ((adt_holding-tested items n).0 h))

  pub finite_closure : (n : ℕ) → list_all (by_rule items.types (finite items)) (held_by items (Ty.Closure n)) ≡ true → closure_holds_itself items n ≡ false
  finite_closure n all = false_from_ne_true (closure_holds_itself items n) (λ h. none_held (Ty.Closure n) all ((closure_holding-tested items n).0 h))
