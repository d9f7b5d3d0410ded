-- The rules for Copy and for dropping: where more is known or more is declared they show no less, and of a type they
-- ask only what is known of the types that it holds.
use Rattle.std.proofs.Common.{◌≡◌, ℕ, ◌<◌, Bool, true, false, ◌&&◌, ◌||◌, nat_lt, is_some, List, [], ◌∷◌, ◌++◌, length, slice_get, Option, Some, None, All, ◌⊎◌, inl, inr, refl, sym, ap, ◌∙◌, arith}
use Rattle.std.specs.List.{list_any, list_all}
use Rattle.std.specs.Option.{option_map_or}
use Rattle.std.proofs.lemmas.Bool.{false≢true, and_parts, and_from, cases_order}
use Rattle.std.proofs.lemmas.Option.{slice_get_past}
use Rattle.std.proofs.lemmas.List.{length_push}
use Rattle.mir_ty.specs.declared.ty.Ty.{Ty}
use Rattle.mir_ty.specs.declared.ty.TyId.{TyId}
use Rattle.mir_ty.specs.declared.adt.Adt.{Adt}
use Rattle.mir_ty.specs.declared.def.ClosureDef.{ClosureDef}
use Rattle.mir_ty.specs.Facts.{Rule, copy_rule, drop_rule, adt_drop_rule}
use Rattle.mir_ty.specs.declared.facts.TypeFact.{TypeFact}
use Rattle.mir_ty.specs.AreItems.{types_in}
use Rattle.mir_ty.specs.Known.{rule_of}
use Rattle.mir_ty.proofs.ListLemmas.{slice_get-append_left, slice_get-below, list_any-same, list_all-same, All-slice_get}
use Rattle.mir_ty.proofs.FixedPoint.{IsWithin, IsGrowing, ShowsNoLess}

or_grows : (a b c d : Bool) → (a ≡ true → c ≡ true) → (b ≡ true → d ≡ true) → (a || b) ≡ true → (c || d) ≡ true
or_grows true b c d ac bd h = ap (λ x. x || d) (ac refl)
or_grows false b true d ac bd h = refl
or_grows false b false d ac bd h = bd h

and_grows : (a b c d : Bool) → (a ≡ true → c ≡ true) → (b ≡ true → d ≡ true) → (a && b) ≡ true → (c && d) ≡ true
and_grows a b c d ac bd h = let p = and_parts a b h in and_from c d (ac p.0) (bd p.1)

list_any_grows : {X : Type 0} (P Q : X → Bool) → ((x : X) → P x ≡ true → Q x ≡ true) → (xs : List X) → list_any P xs ≡ true → list_any Q xs ≡ true
list_any_grows P Q sub [] h = h
list_any_grows P Q sub (x ∷ xs) h = or_grows (P x) (list_any P xs) (Q x) (list_any Q xs) (sub x) (list_any_grows P Q sub xs) h

list_all_grows : {X : Type 0} (P Q : X → Bool) → ((x : X) → P x ≡ true → Q x ≡ true) → (xs : List X) → list_all P xs ≡ true → list_all Q xs ≡ true
list_all_grows P Q sub [] h = h
list_all_grows P Q sub (x ∷ xs) h = and_grows (P x) (list_all P xs) (Q x) (list_all Q xs) (sub x) (list_all_grows P Q sub xs) h

at_grows : {X : Type 0} (f g : X → Bool) → ((x : X) → f x ≡ true → g x ≡ true) → (o : Option X) → option_map_or f o false ≡ true → option_map_or g o false ≡ true
at_grows f g sub None h = h
at_grows f g sub (Some x) h = sub x h

module _ (adts : List Adt) (closures : List ClosureDef) where
  copy_grows : (P Q : TyId → Bool) → IsWithin P Q → (ty : Ty) → copy_rule adts closures P ty ≡ true → copy_rule adts closures Q ty ≡ true
  copy_grows P Q sub (Ty.Tuple parts) h = list_all_grows P Q sub parts h
  copy_grows P Q sub (Ty.Array element count) h = sub element h
  copy_grows P Q sub (Ty.Closure n) h = at_grows _ _ (λ def. list_all_grows P Q sub def.captures) (slice_get closures n) h
  copy_grows P Q sub _ h = h

  pub copy_rule-growing : IsGrowing (copy_rule adts closures)
  copy_rule-growing = record { grows = copy_grows }

  adt_grows : (P Q : TyId → Bool) → IsWithin P Q → (adt : Adt) → adt_drop_rule P adt ≡ true → adt_drop_rule Q adt ≡ true
  adt_grows P Q sub adt h =
      or_grows (is_some adt.drop_body) _ (is_some adt.drop_body) _ (λ e. e) (list_any_grows _ _ (λ variant. list_any_grows P Q sub variant.fields) adt.variants) h

  drop_grows : (P Q : TyId → Bool) → IsWithin P Q → (ty : Ty) → drop_rule adts closures P ty ≡ true → drop_rule adts closures Q ty ≡ true
  drop_grows P Q sub (Ty.Adt n) h = at_grows _ _ (adt_grows P Q sub) (slice_get adts n) h
  drop_grows P Q sub (Ty.Tuple parts) h = list_any_grows P Q sub parts h
  drop_grows P Q sub (Ty.Array element count) h = and_grows (nat_lt 0 count) (P element) (nat_lt 0 count) (Q element) (λ e. e) (sub element) h
  drop_grows P Q sub (Ty.Closure n) h = at_grows _ _ (λ def. list_any_grows P Q sub def.captures) (slice_get closures n) h
  drop_grows P Q sub _ h = h

  pub drop_rule-growing : IsGrowing (drop_rule adts closures)
  drop_rule-growing = record { grows = drop_grows }

-- what is known of the types below a number
abbrev pub AgreeBelow : ℕ → (TyId → Bool) → (TyId → Bool) → Type 0
AgreeBelow n P Q = (id : TyId) → id.0 < n → P id ≡ Q id

-- each of these types is below a number
abbrev pub AreBelow : ℕ → List TyId → Type 0
AreBelow n ids = All (λ id. id.0 < n) ids

abbrev pub AdtBelow : ℕ → Adt → Type 0
AdtBelow n adt = All (λ variant. AreBelow n variant.fields) adt.variants

abbrev pub ClosureBelow : ℕ → ClosureDef → Type 0
ClosureBelow n def = AreBelow n def.captures

-- the fields of structs and enums, and what closures capture, are types below a number
pub record FieldsBelow (n : ℕ) (adts : List Adt) (closures : List ClosureDef) : Type 0 where
  pub fields : All (AdtBelow n) adts
  pub captures : All (ClosureBelow n) closures

-- of a type that names types below a number, a rule asks only what is known of types below it
pub record AsksBelow (n : ℕ) (rule : Rule) : Type 0 where
  pub asks : (P Q : TyId → Bool) → AgreeBelow n P Q → (ty : Ty) → AreBelow n (types_in ty) → rule P ty ≡ rule Q ty

at_same : {X : Type 0} (f g : X → Bool) (o : Option X) → ((x : X) → o ≡ Some x → f x ≡ g x) → option_map_or f o false ≡ option_map_or g o false
at_same f g None same = refl
at_same f g (Some x) same = same x refl

module _ (n : ℕ) (adts : List Adt) (closures : List ClosureDef) (below : FieldsBelow n adts closures) (P Q : TyId → Bool) (agree : AgreeBelow n P Q) where
  any_same : (ids : List TyId) → AreBelow n ids → list_any P ids ≡ list_any Q ids
  any_same = list_any-same (λ id. id.0 < n) P Q agree

  all_same : (ids : List TyId) → AreBelow n ids → list_all P ids ≡ list_all Q ids
  all_same = list_all-same (λ id. id.0 < n) P Q agree

  copy_asks : (ty : Ty) → AreBelow n (types_in ty) → copy_rule adts closures P ty ≡ copy_rule adts closures Q ty
  copy_asks (Ty.Tuple parts) all = all_same parts all
  copy_asks (Ty.Array element count) all = agree element (all 0 element (omega arith))
  copy_asks (Ty.Closure k) all = at_same _ _ (slice_get closures k) (λ def is. all_same def.captures (All-slice_get (ClosureBelow n) closures k def below.captures is))
  copy_asks _ all = refl

  adt_asks : (adt : Adt) → AdtBelow n adt → adt_drop_rule P adt ≡ adt_drop_rule Q adt
  adt_asks adt all = ap (λ b. is_some adt.drop_body || b) (list_any-same (λ variant. AreBelow n variant.fields) _ _ (λ variant. any_same variant.fields) adt.variants all)

  drop_asks : (ty : Ty) → AreBelow n (types_in ty) → drop_rule adts closures P ty ≡ drop_rule adts closures Q ty
  drop_asks (Ty.Adt k) all = at_same _ _ (slice_get adts k) (λ adt is. adt_asks adt (All-slice_get (AdtBelow n) adts k adt below.fields is))
  drop_asks (Ty.Tuple parts) all = any_same parts all
  drop_asks (Ty.Array element count) all = ap (λ b. nat_lt 0 count && b) (agree element (all 0 element (omega arith)))
  drop_asks (Ty.Closure k) all = at_same _ _ (slice_get closures k) (λ def is. any_same def.captures (All-slice_get (ClosureBelow n) closures k def below.captures is))
  drop_asks _ all = refl

pub copy_rule-asks : (n : ℕ) (adts : List Adt) (closures : List ClosureDef) → FieldsBelow n adts closures → AsksBelow n (copy_rule adts closures)
copy_rule-asks n adts closures below = record { asks = copy_asks n adts closures below }

pub drop_rule-asks : (n : ℕ) (adts : List Adt) (closures : List ClosureDef) → FieldsBelow n adts closures → AsksBelow n (drop_rule adts closures)
drop_rule-asks n adts closures below = record { asks = drop_asks n adts closures below }

-- with one more of something, what stood there stays
at_more : {X : Type 0} (f : X → Bool) (xs : List X) (x : X) (n : ℕ) → option_map_or f (slice_get xs n) false ≡ true → option_map_or f (slice_get (xs ++ x ∷ []) n) false ≡ true
at_more f xs x n h = by (slice_get xs n) refl h
  where
    by : (o : Option _) → slice_get xs n ≡ o → option_map_or f o false ≡ true → option_map_or f (slice_get (xs ++ x ∷ []) n) false ≡ true
    by None is h = absurd (false≢true h)
    by (Some y) is h = ap (λ o. option_map_or f o false) (slice_get-append_left xs (x ∷ []) n y is) ∙ h

-- and nothing changes but at the new number
at_other : {X : Type 0} (f : X → Bool) (xs : List X) (x : X) (n : ℕ) → (n ≡ length xs → ⊥) → option_map_or f (slice_get (xs ++ x ∷ []) n) false ≡ option_map_or f (slice_get xs n) false
at_other f xs x n other = by (cases_order n (length xs))
  where
    by : (n ≡ length xs) ⊎ ((n < length xs) ⊎ (length xs < n)) → option_map_or f (slice_get (xs ++ x ∷ []) n) false ≡ option_map_or f (slice_get xs n) false
    by (inl same) = absurd (other same)
    by (inr (inl less)) = ap (λ o. option_map_or f o false) (slice_get-below xs (x ∷ []) n less)
    by (inr (inr more)) = ap (λ o. option_map_or f o false) (slice_get_past (xs ++ x ∷ []) n (omega (arith, length_push xs x)) ∙ sym (slice_get_past xs n (omega arith)))

-- one more struct or enum, or one more closure
module _ (adts : List Adt) (closures : List ClosureDef) where
  pub copy_more_adts : (adt : Adt) → ShowsNoLess (copy_rule adts closures) (copy_rule (adts ++ adt ∷ []) closures)
  copy_more_adts adt P (Ty.Adt n) h = at_more _ adts adt n h
  copy_more_adts adt P _ h = h

  pub copy_more_closures : (def : ClosureDef) → ShowsNoLess (copy_rule adts closures) (copy_rule adts (closures ++ def ∷ []))
  copy_more_closures def P (Ty.Closure n) h = at_more _ closures def n h
  copy_more_closures def P _ h = h

  pub drop_more_adts : (adt : Adt) → ShowsNoLess (drop_rule adts closures) (drop_rule (adts ++ adt ∷ []) closures)
  drop_more_adts adt P (Ty.Adt n) h = at_more _ adts adt n h
  drop_more_adts adt P _ h = h

  pub drop_more_closures : (def : ClosureDef) → ShowsNoLess (drop_rule adts closures) (drop_rule adts (closures ++ def ∷ []))
  drop_more_closures def P (Ty.Closure n) h = at_more _ closures def n h
  drop_more_closures def P _ h = h

  -- nothing changes for the other types
  pub copy_other_adts : (adt : Adt) (P : TyId → Bool) (ty : Ty) → (ty ≡ Ty.Adt (length adts) → ⊥) → copy_rule (adts ++ adt ∷ []) closures P ty ≡ copy_rule adts closures P ty
  copy_other_adts adt P (Ty.Adt n) other = at_other _ adts adt n (λ e. other (ap Ty.Adt e))
  copy_other_adts adt P _ other = refl

  pub copy_other_closures : (def : ClosureDef) (P : TyId → Bool) (ty : Ty) → (ty ≡ Ty.Closure (length closures) → ⊥) → copy_rule adts (closures ++ def ∷ []) P ty ≡ copy_rule adts closures P ty
  copy_other_closures def P (Ty.Closure n) other = at_other _ closures def n (λ e. other (ap Ty.Closure e))
  copy_other_closures def P _ other = refl

  pub drop_other_adts : (adt : Adt) (P : TyId → Bool) (ty : Ty) → (ty ≡ Ty.Adt (length adts) → ⊥) → drop_rule (adts ++ adt ∷ []) closures P ty ≡ drop_rule adts closures P ty
  drop_other_adts adt P (Ty.Adt n) other = at_other _ adts adt n (λ e. other (ap Ty.Adt e))
  drop_other_adts adt P _ other = refl

  pub drop_other_closures : (def : ClosureDef) (P : TyId → Bool) (ty : Ty) → (ty ≡ Ty.Closure (length closures) → ⊥) → drop_rule adts (closures ++ def ∷ []) P ty ≡ drop_rule adts closures P ty
  drop_other_closures def P (Ty.Closure n) other = at_other _ closures def n (λ e. other (ap Ty.Closure e))
  drop_other_closures def P _ other = refl

pub rule_of-growing : (fact : TypeFact) (adts : List Adt) (closures : List ClosureDef) → IsGrowing (rule_of fact adts closures)
rule_of-growing TypeFact.IsCopy adts closures = copy_rule-growing adts closures
rule_of-growing TypeFact.NeedsDrop adts closures = drop_rule-growing adts closures
