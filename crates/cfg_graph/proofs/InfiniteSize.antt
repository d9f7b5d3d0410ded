-- The tests for what holds itself tell exactly what does.
use Rattle.std.proofs.Common.{◌≡◌, ◌↔◌, ◌⊎◌, inl, inr, ℕ, zero, suc, Bool, true, false, List, [], ◌∷◌, length, slice_get, Contains, Option, Some, None, refl, ap, subst, sym, ◌∙◌}
use Rattle.std.specs.List.{list_any}
use Rattle.std.specs.Option.{option_map_or}
use Rattle.std.proofs.lemmas.Bool.{false≢true, or_left, or_right, or_cases}
use Rattle.std.proofs.lemmas.Bool.Decides.{Decides-eqb}
use Rattle.std.proofs.lemmas.List.Folds.{list_any_at}
use Rattle.std.proofs.lemmas.Option.{same_Some}
use Rattle.mir_ty.specs.declared.ty.Ty.{Ty}
use Rattle.mir_ty.specs.declared.ty.TyId.{TyId}
use Rattle.mir_ty.specs.Facts.{Rule, in_rounds, by_rule}
use Rattle.mir_ty.specs.ItemTable.{ItemTable, type_at}
use Rattle.mir_ty.specs.Parts.{held_by, Holds, at_once, within}
use Rattle.mir_ty.proofs.ListLemmas.{Contains-slice_get}
use Rattle.mir_ty.proofs.FixedPoint.{IsGrowing, by_rule-settled}
use Rattle.cfg_graph.specs.WellFormed.TypeFaults.{holding, hold, HoldsItself, AdtHoldingIsTested, ClosureHoldingIsTested}
use Rattle.store_model.specs.Places.TypeForms.{is_adt, is_closure}

-- an element that passes a test, by its place in the list
passing_place : {X : Type 0} → (p : X → Bool) (xs : List X) → list_any p xs ≡ true → (i : ℕ) × (x : X) × (slice_get xs i ≡ Some x) × (p x ≡ true)
passing_place p [] h = absurd (false≢true h)
passing_place p (x ∷ xs) h =
    elim (or_cases (p x) (list_any p xs) h) [
      | inl here ↦ (zero, x, refl, here)
      | inr later ↦ (let found = passing_place p xs later in (suc found.0, found.1, found.2, found.3))
    ]

passing : {X : Type 0} → (p : X → Bool) (xs : List X) → list_any p xs ≡ true → (x : X) × Contains xs x × (p x ≡ true)
passing p xs h = let found = passing_place p xs h in (found.1, Contains-slice_get xs found.0 found.1 found.2, found.3)

any_passes : {X : Type 0} → (p : X → Bool) (xs : List X) (x : X) → Contains xs x → p x ≡ true → list_any p xs ≡ true
any_passes p xs x c h = list_any_at p xs c.0 x c.1 (ap p c.2 ∙ h)

pub list_any-grows : {X : Type 0} → (P Q : X → Bool) → ((x : X) → P x ≡ true → Q x ≡ true) → (xs : List X) → list_any P xs ≡ true → list_any Q xs ≡ true
list_any-grows P Q sub xs h = let found = passing P xs h in any_passes Q xs found.0 found.1 (sub found.0 found.2)

module _ (items : ItemTable) (sought : Option Ty → Bool) where
  abbrev pub rule : Rule
  rule = holding items sought

  abbrev reaches : TyId → Bool
  reaches = by_rule items.types rule

  pub growing : IsGrowing rule
  growing = record {
    grows = λ P Q sub ty h. elim (or_cases (sought (Some ty)) (list_any P (held_by items ty)) h) [
      | inl here ↦ or_left (sought (Some ty)) (list_any Q (held_by items ty)) here
      | inr held ↦ or_right (sought (Some ty)) (list_any Q (held_by items ty)) (list_any-grows P Q sub (held_by items ty) held)
    ];
  }

  -- from a type a sought one is reached
  abbrev Reaches : TyId → Type 0
  Reaches id = (m : TyId) × (ty : Ty) × (type_at items m ≡ Some ty) × (sought (Some ty) ≡ true) × ((id ≡ m) ⊎ Holds items id m)

  through : (id x : TyId) → Holds items id x → Reaches x → Reaches id
  through id x h (m, ty, is, s, inl e) = (m, ty, is, s, inr (subst (Holds items id) e h))
  through id x h (m, ty, is, s, inr rest) = (m, ty, is, s, inr (within h rest))

  reached : (k : ℕ) (id : TyId) → in_rounds items.types rule k id ≡ true → Reaches id
  reached zero id h = absurd (false≢true h)
  reached (suc k) id h = by (slice_get items.types id.0) refl h (reached k)
    where
      by : (o : Option Ty) → slice_get items.types id.0 ≡ o → option_map_or (rule (in_rounds items.types rule k)) o false ≡ true
          → ((x : TyId) → in_rounds items.types rule k x ≡ true → Reaches x) → Reaches id
      by None is h on = absurd (false≢true h)
      by (Some ty) is h on =
          elim (or_cases (sought (Some ty)) (list_any (in_rounds items.types rule k) (held_by items ty)) h) [
            | inl here ↦ (id, ty, is, here, inl refl)
            | inr held ↦ (
                let found = passing (in_rounds items.types rule k) (held_by items ty) held in
                through id found.0 (at_once is found.1) (on found.0 found.2)
                )
          ]

  -- what holds a type that reaches a sought one reaches it
  reaches_through : (a b : TyId) → Holds items a b → reaches b ≡ true → reaches a ≡ true
  reaches_through a b (at_once {ty = ty} is c) h =
      by_rule-settled items.types rule growing a ty is (or_right (sought (Some ty)) (list_any reaches (held_by items ty)) (any_passes reaches (held_by items ty) b c h))
  reaches_through a c (within {b = b} first rest) h = reaches_through a b first (reaches_through b c rest h)

  -- the first step of what holds something
  pub first_step : (a c : TyId) → Holds items a c
      → (ty : Ty) × (x : TyId) × (type_at items a ≡ Some ty) × Contains (held_by items ty) x × ((x ≡ c) ⊎ Holds items x c)
  first_step a c (at_once {ty = ty} is found) = (ty, c, is, found, inl refl)
  first_step a c (within {b = b} first rest) = then_on (first_step a b first)
    where
      then_on : (ty : Ty) × (x : TyId) × (type_at items a ≡ Some ty) × Contains (held_by items ty) x × ((x ≡ b) ⊎ Holds items x b)
          → (ty : Ty) × (x : TyId) × (type_at items a ≡ Some ty) × Contains (held_by items ty) x × ((x ≡ c) ⊎ Holds items x c)
      then_on (ty, x, is, found, inl e) = (ty, x, is, found, inr (subst (λ y. Holds items y c) (sym e) rest))
      then_on (ty, x, is, found, inr h) = (ty, x, is, found, inr (within h rest))

  module _ (own : Ty) (only : (ty : Ty) → sought (Some ty) ≡ true → ty ≡ own) (finds : sought (Some own) ≡ true) where
    hold-sound : hold items sought (held_by items own) ≡ true → HoldsItself items own
    hold-sound h =
        let found = passing reaches (held_by items own) h in
        from found.0 found.1 (reached (length items.types) found.0 found.2)
      where
        from : (x : TyId) → Contains (held_by items own) x → Reaches x → HoldsItself items own
        from x c (m, ty, is, s, inl e) =
            let is_own = is ∙ ap Some (only ty s) in (m, is_own, subst (Holds items m) e (at_once is_own c))
        from x c (m, ty, is, s, inr h) = let is_own = is ∙ ap Some (only ty s) in (m, is_own, within (at_once is_own c) h)

    hold-complete : HoldsItself items own → hold items sought (held_by items own) ≡ true
    hold-complete (id, is, h) = from (first_step id id h)
      where
        here : reaches id ≡ true
        here = by_rule-settled items.types rule growing id own is (or_left (sought (Some own)) (list_any reaches (held_by items own)) finds)

        from : (ty : Ty) × (x : TyId) × (type_at items id ≡ Some ty) × Contains (held_by items ty) x × ((x ≡ id) ⊎ Holds items x id) → hold items sought (held_by items own) ≡ true
        from (ty, x, is', c, inl e) =
            any_passes reaches (held_by items own) x (subst (λ t. Contains (held_by items t) x) (same_Some ty own (sym is' ∙ is)) c) (ap reaches e ∙ here)
        from (ty, x, is', c, inr r) =
            any_passes reaches (held_by items own) x (subst (λ t. Contains (held_by items t) x) (same_Some ty own (sym is' ∙ is)) c) (reaches_through x id r here)

    hold-tested : hold items sought (held_by items own) ≡ true ↔ HoldsItself items own
    hold-tested = (hold-sound, hold-complete)

only_adt : (n : ℕ) (ty : Ty) → is_adt n (Some ty) ≡ true → ty ≡ Ty.Adt n
only_adt n (Ty.Adt m) h = ap Ty.Adt (sym ((Decides-eqb n m).0 h))
only_adt n _ h = absurd (false≢true h)

only_closure : (n : ℕ) (ty : Ty) → is_closure n (Some ty) ≡ true → ty ≡ Ty.Closure n
only_closure n (Ty.Closure m) h = ap Ty.Closure (sym ((Decides-eqb n m).0 h))
only_closure n _ h = absurd (false≢true h)

pub adt_holding-tested : AdtHoldingIsTested
adt_holding-tested items n = hold-tested items (is_adt n) (Ty.Adt n) (only_adt n) ((Decides-eqb n n).1 refl)

pub closure_holding-tested : ClosureHoldingIsTested
closure_holding-tested items n = hold-tested items (is_closure n) (Ty.Closure n) (only_closure n) ((Decides-eqb n n).1 refl)
