-- What is known of types where items are well typed: which types are in the table, and which are of no `dyn` type.
use Rattle.std.proofs.Common.{◌≡◌, ◌⊎◌, inl, inr, ℕ, zero, suc, length, ◌&&◌, ◌||◌, not, Bool, true, false, List, [], ◌∷◌, Option, Some, None, slice_get, refl, sym, ap, subst, ◌∙◌}
use Rattle.std.specs.Prelude.{option_and_then, is_some}
use Rattle.std.specs.List.{list_any, list_all}
use Rattle.std.specs.Option.{option_map_or}
use Rattle.std.proofs.lemmas.Bool.{eqb-true}
use Rattle.std.proofs.lemmas.Option.{none-some}
use Rattle.mir_ty.specs.declared.def.Sig.{Sig}
use Rattle.mir_ty.specs.declared.def.TraitDef.{TraitDef}
use Rattle.mir_ty.specs.declared.ty.Ty.{Ty}
use Rattle.mir_ty.specs.declared.ty.TyId.{TyId}
use Rattle.mir_ty.specs.Facts.{is_copy, in_rounds, copy_rule}
use Rattle.mir_ty.specs.ItemTable.{ItemTable, type_at}
use Rattle.mir_ty.specs.Parts.{field_ty}
use Rattle.src_meaning.specs.Locals.OfBody.{bool_ty}
use Rattle.well_typed.specs.Claim.{Claim, Holds, some}
use Rattle.well_typed.specs.Types as types

pub untrue : false ≡ true → ⊥
untrue e = let never : false ≡ true = e in cc

pub and_first : (x y : Bool) → x && y ≡ true → x ≡ true
and_first true y e = refl
and_first false y e = absurd (untrue e)

pub and_second : (x y : Bool) → x && y ≡ true → y ≡ true
and_second true y e = e
and_second false y e = absurd (untrue e)

pub either : (x y : Bool) → x || y ≡ true → (x ≡ true) ⊎ (y ≡ true)
either true y e = inl refl
either false y e = inr e

pub both : (x y : Bool) → x ≡ true → y ≡ true → x && y ≡ true
both true y e d = d
both false y e d = e

pub not_true : (x : Bool) → not x ≡ true → x ≡ false
not_true true e = absurd (untrue e)
not_true false e = refl

pub same_id : (a b : TyId) → types.is_same a b ≡ true → a ≡ b
same_id a b e = ap (λ (n : ℕ). record { 0 = n }) (eqb-true a.0 b.0 e)

-- what is claimed of something that is there
pub found : {A : Type 0} (o : Option A) (claim : A → Claim) → Holds (some o claim) → (a : A) × (o ≡ Some a) × Holds (claim a)
found None claim h = absurd (untrue h)
found (Some a) claim h = (a, refl, h)

pub passed : {A : Type 0} (test : A → Bool) (o : Option A) → option_map_or test o false ≡ true → (a : A) × (o ≡ Some a) × (test a ≡ true)
passed test None h = absurd (untrue h)
passed test (Some a) h = (a, refl, h)

pub some_is : {A : Type 0} (o : Option A) → is_some o ≡ true → (a : A) × (o ≡ Some a)
some_is None h = absurd (untrue h)
some_is (Some a) h = (a, refl)

-- all of a list
abbrev pub Each : {A : Type 0} → (A → Type 0) → List A → Type 0
Each P [] = Unit {0}
Each P (x ∷ xs) = P x × Each P xs

module _ (items : ItemTable) where
  -- a type in the table; one that is of no `dyn` type
  abbrev pub There : TyId → Type 0
  There ty = (t : Ty) × (type_at items ty ≡ Some t)

  abbrev pub Fine : TyId → Type 0
  Fine ty = There ty × (types.is_dyn items ty ≡ false)

  pub by_test : (test : Ty → Bool) → ((n : ℕ) → test (Ty.Dyn n) ≡ false) → (ty : TyId) → types.is_ty items test ty ≡ true → Fine ty
  by_test test apart ty h =
      let is = passed test (type_at items ty) h in
      ((is.0, is.1), ap (λ (o : Option Ty). is_some (option_and_then types.dyn_in o)) is.1 ∙ no_dyn is.0 is.2)
    where
      no_dyn : (t : Ty) → test t ≡ true → is_some (types.dyn_in t) ≡ false
      no_dyn (Ty.Dyn n) h = absurd (untrue (sym (apart n) ∙ h))
      no_dyn _ h = refl

  pub by_form : {A : Type 0} (form : Ty → Option A) → ((n : ℕ) → form (Ty.Dyn n) ≡ None) → (ty : TyId) (a : A) → types.in_ty items form ty ≡ Some a → Fine ty
  by_form form apart ty a h = of (type_at items ty) refl h
    where
      no_dyn : (t : Ty) → form t ≡ Some a → is_some (types.dyn_in t) ≡ false
      no_dyn (Ty.Dyn n) h = absurd (none-some a (sym (apart n) ∙ h))
      no_dyn _ h = refl

      of : (o : Option Ty) → type_at items ty ≡ o → option_and_then form o ≡ Some a → Fine ty
      of None e h = absurd (none-some a h)
      of (Some t) e h = ((t, e), ap (λ (o : Option Ty). is_some (option_and_then types.dyn_in o)) e ∙ no_dyn t h)

  -- where a form of types is tested of a type
  pub by_known : {A : Type 0} (form : Ty → Option A) → ((n : ℕ) → form (Ty.Dyn n) ≡ None) → (test : A → Bool) (ty : TyId) → option_map_or test (types.in_ty items form ty) false ≡ true → Fine ty
  by_known form apart test ty h = let is = passed test (types.in_ty items form ty) h in by_form form apart ty is.0 is.1

  pub by_some : {A : Type 0} (form : Ty → Option A) → ((n : ℕ) → form (Ty.Dyn n) ≡ None) → (ty : TyId) → is_some (types.in_ty items form ty) ≡ true → Fine ty
  by_some form apart ty h = let is = some_is (types.in_ty items form ty) h in by_form form apart ty is.0 is.1

  pub unit_fine : (ty : TyId) → types.is_unit items ty ≡ true → Fine ty
  unit_fine ty h = by_test types.is_unit_ty (λ n. refl) ty h

  pub bool_fine : (ty : TyId) → types.is_bool items ty ≡ true → Fine ty
  bool_fine ty h = by_test types.is_bool_ty (λ n. refl) ty h

  pub never_fine : (ty : TyId) → types.is_never items ty ≡ true → Fine ty
  never_fine ty h = by_test types.is_never_ty (λ n. refl) ty h

  pub same_fine : (ty other : TyId) → types.is_same ty other ≡ true → Fine other → Fine ty
  same_fine ty other h f = subst Fine (sym (same_id ty other h)) f

  pub same_there : (ty other : TyId) → types.is_same ty other ≡ true → There other → There ty
  same_there ty other h f = subst There (sym (same_id ty other h)) f

  -- what is Copy is in the table, and of no `dyn` type
  pub copy_fine : (ty : TyId) → is_copy items ty ≡ true → Fine ty
  copy_fine ty h = by (length items.types) h
    where
      by : (k : ℕ) → in_rounds items.types (copy_rule items.adts items.closures) k ty ≡ true → Fine ty
      by zero h = absurd (untrue h)
      by (suc k) h = by_test (copy_rule items.adts items.closures (in_rounds items.types (copy_rule items.adts items.closures) k)) (λ n. refl) ty h

  -- the one type of some branches
  pub common_fine : (ty : TyId) (tys : List TyId) → Each Fine tys → types.is_common items ty tys ≡ true → Fine ty
  common_fine ty tys each h =
      elim (either (types.is_never items ty) (list_any (types.is_same ty) tys) (and_second (list_all (types.fits items ty) tys) _ h)) [
        | inl never ↦ never_fine ty never
        | inr same ↦ among tys each same
      ]
    where
      among : (tys : List TyId) → Each Fine tys → list_any (types.is_same ty) tys ≡ true → Fine ty
      among [] each h = absurd (untrue h)
      among (t ∷ ts) each h = elim (either (types.is_same ty t) (list_any (types.is_same ty) ts) h) [
        | inl same ↦ same_fine ty t same each.0
        | inr later ↦ among ts each.1 later
      ]

-- what well typed items tell of the types that they name
pub record Told (items : ItemTable) : Type 0 where
  pub fields : (id : TyId) (v n : ℕ) (j : TyId) → field_ty items id v n ≡ Some j → There items j
  pub contents : (id j : TyId) → types.inside_of items id ≡ Some j → There items j
  pub elements : (id : TyId) (a : TyId × ℕ) → types.array_of items id ≡ Some a → There items a.0
  pub tuples : (id : TyId) (tys : List TyId) → types.tuple_of items id ≡ Some tys → Each (There items) tys
  pub results : (n : ℕ) (sig : Sig) → slice_get items.bodies n ≡ Some sig → Fine items sig.result
  pub answers : (n m : ℕ) (def : TraitDef) (sig : Sig) → slice_get items.traits n ≡ Some def → slice_get def.methods m ≡ Some sig → Fine items sig.result
  pub truth : Fine items (bool_ty items)
