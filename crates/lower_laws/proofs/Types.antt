-- Types in a table where the types in a type have lower numbers: each exists with all that is in it, and none misplaces a
-- `dyn` type.
use Rattle.std.proofs.Common.{◌≡◌, ℕ, zero, suc, ◌+◌, ◌<◌, ◌&&◌, ◌||◌, not, nat_lt, Bool, true, false, List, [], ◌∷◌, length, Option, Some, None, slice_get, refl, sym, ap, subst, ◌∙◌, arith}
use Rattle.std.specs.Prelude.{is_some, option_and_then}
use Rattle.std.specs.List.{list_any, list_all}
use Rattle.std.specs.Option.{option_map_or}
use Rattle.std.proofs.lemmas.Bool.{ltb-true}
use Rattle.std.proofs.lemmas.Option.{none-some, same_Some, slice_get_within}
use Rattle.cfg_graph.specs.WellFormed.Broken.{broken}
use Rattle.cfg_graph.specs.WellFormed.ItemFaults.{exist, place_dyn}
use Rattle.cfg_graph.specs.WellFormed.LineFaults.{local_faults, local_tests}
use Rattle.cfg_graph.specs.WellFormed.TypeFaults.{own_number_exists, existing, ty_exists, misplacing, misplaces_dyn}
use Rattle.mir_ty.specs.declared.ty.Ty.{Ty}
use Rattle.mir_ty.specs.declared.ty.TyId.{TyId}
use Rattle.mir_ty.specs.AreItems.{types_in}
use Rattle.mir_ty.specs.Facts.{in_rounds}
use Rattle.mir_ty.specs.ItemTable.{ItemTable, type_at}
use Rattle.store_model.specs.Places.TypeForms as forms
use Rattle.well_typed.specs.Items as items_of
use Rattle.well_typed.specs.Types as types
use Rattle.lower_laws.specs.Lowerable.{are_parts_first}
use Rattle.lower_laws.proofs.Known.{untrue, and_first, and_second, both, not_true, some_is, Each, There, Fine}

-- ---- lists
pub all_each : {A : Type 0} (test : A → Bool) (xs : List A) → list_all test xs ≡ true → Each (λ x. test x ≡ true) xs
all_each test [] h = tt
all_each test (x ∷ xs) h = (and_first (test x) _ h, all_each test xs (and_second (test x) _ h))

pub each_all : {A : Type 0} (test : A → Bool) (xs : List A) → Each (λ x. test x ≡ true) xs → list_all test xs ≡ true
each_all test [] h = refl
each_all test (x ∷ xs) h = both (test x) _ h.0 (each_all test xs h.1)

pub each_none : {A : Type 0} (test : A → Bool) (xs : List A) → Each (λ x. test x ≡ false) xs → list_any test xs ≡ false
each_none test [] h = refl
each_none test (x ∷ xs) h = ap (λ b. b || list_any test xs) h.0 ∙ each_none test xs h.1

pub each_mapped : {A : Type 0} (P Q : A → Type 0) (xs : List A) → ((x : A) → P x → Q x) → Each P xs → Each Q xs
each_mapped P Q [] f h = tt
each_mapped P Q (x ∷ xs) f h = (f x h.0, each_mapped P Q xs f h.1)

pub each_at : {A : Type 0} (P : A → Type 0) (xs : List A) (i : ℕ) (x : A) → Each P xs → slice_get xs i ≡ Some x → P x
each_at P [] i x h e = absurd (none-some x e)
each_at P (y ∷ ys) zero x h e = subst P (same_Some y x e) h.0
each_at P (y ∷ ys) (suc i) x h e = each_at P ys i x h.1 e

pub each_by : {A : Type 0} (P : A → Type 0) (xs : List A) → ((i : ℕ) (x : A) → slice_get xs i ≡ Some x → P x) → Each P xs
each_by P [] f = tt
each_by P (x ∷ xs) f = (f 0 x refl, each_by P xs (λ i y e. f (suc i) y e))

-- a line none of whose tests fails has no fault
pub none_broken : (tests : List (ℕ × Bool)) → Each (λ (t : ℕ × Bool). t.1 ≡ true) tests → broken tests ≡ []
none_broken [] h = refl
none_broken ((number, true) ∷ tests) h = none_broken tests h.1
none_broken ((number, false) ∷ tests) h = absurd (untrue h.0)

same_dyn : (o : Option Ty) → forms.is_dyn o ≡ is_some (option_and_then types.dyn_in o)
same_dyn None = refl
same_dyn (Some (Ty.Dyn n)) = refl
same_dyn (Some _) = refl

-- the types in a type have lower numbers than it
pub first_at : (tys : List Ty) (n i : ℕ) (ty : Ty) → are_parts_first n tys ≡ true → slice_get tys i ≡ Some ty → list_all (λ (id : TyId). nat_lt id.0 (n + i)) (types_in ty) ≡ true
first_at [] n i ty h e = absurd (none-some ty e)
first_at (t ∷ tys) n zero ty h e =
    let same : n ≡ n + 0 = omega arith in
    subst (λ (k : ℕ). list_all (λ (id : TyId). nat_lt id.0 k) (types_in ty) ≡ true) same (subst (λ (z : Ty). list_all (λ (id : TyId). nat_lt id.0 n) (types_in z) ≡ true) (same_Some t ty e) (and_first _ _ h))
first_at (t ∷ tys) n (suc i) ty h e =
    let same : suc n + i ≡ n + suc i = omega arith in
    subst (λ (k : ℕ). list_all (λ (id : TyId). nat_lt id.0 k) (types_in ty) ≡ true) same (first_at tys (suc n) i ty (and_second (list_all (λ (id : TyId). nat_lt id.0 n) (types_in t)) _ h) e)

module _ (items : ItemTable) (made : (id : TyId) (ty : Ty) → type_at items id ≡ Some ty → items_of.is_well_made items ty ≡ true) where
  alone_fine : (id : TyId) → items_of.stands_alone items id ≡ true → Fine items id
  alone_fine id h = (some_is (type_at items id) (and_first _ _ h), not_true (types.is_dyn items id) (and_first _ _ (and_second (is_some (type_at items id)) _ h)))

  pub all_alone : (ids : List TyId) → list_all (items_of.stands_alone items) ids ≡ true → Each (Fine items) ids
  all_alone ids h = each_mapped (λ id. items_of.stands_alone items id ≡ true) (Fine items) ids alone_fine (all_each (items_of.stands_alone items) ids h)

  inside_there : (id : TyId) (b : Bool) → is_some (type_at items id) && b ≡ true → There items id
  inside_there id b h = some_is (type_at items id) (and_first _ _ h)

  -- the types in a type are in the table
  pub parts_there : (ty : Ty) → items_of.is_well_made items ty ≡ true → Each (There items) (types_in ty)
  parts_there (Ty.Tuple parts) h = each_mapped (Fine items) (There items) parts (λ id f. f.0) (all_alone parts (and_first _ _ h))
  parts_there (Ty.Array element count) h = ((alone_fine element (and_first _ _ h)).0, tt)
  parts_there (Ty.Boxed content) h = (inside_there content _ h, tt)
  parts_there (Ty.Shared to) h = (inside_there to _ h, tt)
  parts_there (Ty.Unique to) h = (inside_there to _ h, tt)
  parts_there _ h = tt

  own_exists : (ty : Ty) → items_of.is_well_made items ty ≡ true → own_number_exists items ty ≡ true
  own_exists (Ty.Adt n) h = h
  own_exists (Ty.Dyn n) h = h
  own_exists (Ty.Closure n) h = h
  own_exists _ h = refl

  -- a type that misplaces no `dyn` type
  placed : (k : ℕ) (id : TyId) → types.is_dyn items id ≡ false → in_rounds items.types (misplacing items) k id ≡ false
  placed zero id h = refl
  placed (suc k) id h = of (type_at items id) refl h (placed k)
    where
      behind : (inside : TyId) → ((id : TyId) → types.is_dyn items id ≡ false → in_rounds items.types (misplacing items) k id ≡ false) → (b : Bool) → forms.is_dyn (type_at items inside) ≡ b → not b && in_rounds items.types (misplacing items) k inside ≡ false
      behind inside more true e = refl
      behind inside more false e = more inside (sym (same_dyn (type_at items inside)) ∙ e)

      in_form : (ty : Ty) → types.dyn_in ty ≡ None → items_of.is_well_made items ty ≡ true → ((id : TyId) → types.is_dyn items id ≡ false → in_rounds items.types (misplacing items) k id ≡ false) → misplacing items (in_rounds items.types (misplacing items) k) ty ≡ false
      in_form (Ty.Dyn n) lacks m more = absurd (none-some n (sym lacks))
      in_form (Ty.Tuple parts) lacks m more = each_none (in_rounds items.types (misplacing items) k) parts (each_mapped (Fine items) (λ (id : TyId). in_rounds items.types (misplacing items) k id ≡ false) parts (λ id f. more id f.1) (all_alone parts (and_first _ _ m)))
      in_form (Ty.Array element count) lacks m more = each_none (in_rounds items.types (misplacing items) k) (element ∷ []) (more element (alone_fine element (and_first _ _ m)).1, tt)
      in_form (Ty.Boxed content) lacks m more = behind content more (forms.is_dyn (type_at items content)) refl
      in_form (Ty.Shared to) lacks m more = behind to more (forms.is_dyn (type_at items to)) refl
      in_form (Ty.Unique to) lacks m more = behind to more (forms.is_dyn (type_at items to)) refl
      in_form _ lacks m more = refl

      none : (o : Option ℕ) → is_some o ≡ false → o ≡ None
      none None e = refl
      none (Some n) e = absurd (untrue (sym e))

      of : (o : Option Ty) → type_at items id ≡ o → types.is_dyn items id ≡ false → ((id : TyId) → types.is_dyn items id ≡ false → in_rounds items.types (misplacing items) k id ≡ false) →
          in_rounds items.types (misplacing items) (suc k) id ≡ false
      of None e h more = ap (λ (o : Option Ty). option_map_or (misplacing items (in_rounds items.types (misplacing items) k)) o false) e
      of (Some ty) e h more =
          ap (λ (o : Option Ty). option_map_or (misplacing items (in_rounds items.types (misplacing items) k)) o false) e
          ∙ in_form ty (none (types.dyn_in ty) (sym (ap (λ (o : Option Ty). is_some (option_and_then types.dyn_in o)) e) ∙ h)) (made id ty e) more

  pub places : (bodies : ℕ) (ids : List TyId) → Each (Fine items) ids → place_dyn items bodies ids ≡ true
  places bodies ids h = ap not (each_none (misplaces_dyn items) ids (each_mapped (Fine items) (λ (id : TyId). misplaces_dyn items id ≡ false) ids (λ id f. placed (length items.types) id f.1) h))

  module _ (first : are_parts_first 0 items.types ≡ true) where
    -- a type exists, with all types in it
    known : (k : ℕ) (id : TyId) → There items id → id.0 < k → in_rounds items.types (existing items) k id ≡ true
    known zero id t below = absurd (let never : ⊥ = omega (below, arith) in never)
    known (suc k) id t below =
        ap (λ (o : Option Ty). option_map_or (existing items (in_rounds items.types (existing items) k)) o false) t.1
        ∙ both (own_number_exists items t.0) _ (own_exists t.0 (made id t.0 t.1)) (parts (types_in t.0) (parts_there t.0 (made id t.0 t.1)) (all_each (λ (j : TyId). nat_lt j.0 (0 + id.0)) (types_in t.0) (first_at items.types 0 id.0 t.0 first t.1)) (known k))
      where
        parts : (ids : List TyId) → Each (There items) ids → Each (λ (j : TyId). nat_lt j.0 (0 + id.0) ≡ true) ids → ((j : TyId) → There items j → j.0 < k → in_rounds items.types (existing items) k j ≡ true) → list_all (in_rounds items.types (existing items) k) ids ≡ true
        parts [] t b more = refl
        parts (j ∷ ids) t b more = both _ _ (more j t.0 (let less = ltb-true j.0 (0 + id.0) b.0 in omega (less, below, arith))) (parts ids t.1 b.1 more)

    pub there_exists : (id : TyId) → There items id → ty_exists items id ≡ true
    there_exists id t = known (length items.types) id t (slice_get_within items.types id.0 t.0 t.1)

    pub exists : (bodies : ℕ) (ids : List TyId) → Each (Fine items) ids → exist items bodies ids ≡ true
    exists bodies ids h = each_all (ty_exists items) ids (each_mapped (Fine items) (λ (id : TyId). ty_exists items id ≡ true) ids (λ id f. there_exists id f.0) h)

    -- a local of a type in the table that is no `dyn` type has no fault
    pub local_clean : (bodies : ℕ) (id : TyId) → Fine items id → local_faults items bodies id ≡ []
    local_clean bodies id f = none_broken (local_tests items bodies id) (there_exists id f.0, (ap not (placed (length items.types) id f.1), tt))
