-- The types of a well typed program have `bool`, and references stand alone in them.
use Rattle.std.proofs.Common.{◌≡◌, ℕ, suc, ◌&&◌, ◌||◌, not, Bool, true, false, List, [], ◌∷◌, Option, Some, None, refl, sym, ap, ◌∙◌, arith}
use Rattle.std.specs.Prelude.{Contains, is_some, option_and_then}
use Rattle.std.specs.List.{list_any, list_all}
use Rattle.cfg_graph.specs.Ready.{holds_no_reference}
use Rattle.mir_ty.specs.declared.adt.Adt.{Adt}
use Rattle.mir_ty.specs.declared.adt.Variant.{Variant}
use Rattle.mir_ty.specs.declared.def.ClosureDef.{ClosureDef}
use Rattle.mir_ty.specs.declared.def.Sig.{Sig}
use Rattle.mir_ty.specs.declared.def.TraitDef.{TraitDef}
use Rattle.mir_ty.specs.declared.ty.Ty.{Ty}
use Rattle.mir_ty.specs.declared.ty.TyId.{TyId}
use Rattle.mir_ty.specs.AreItems.{types_in}
use Rattle.mir_ty.specs.ItemTable.{ItemTable, type_at}
use Rattle.store_model.specs.Places.Place.{is_reference}
use Rattle.well_typed.specs.Claim.{Claim, Holds, ◌&◌, each, nothing}
use Rattle.well_typed.specs.Items as of_items
use Rattle.well_typed.specs.Types as types
use Rattle.lower_ready.specs.Laws.{TypesHaveBool, ReferencesStandAlone}

-- ---- truths
untrue : false ≡ true → ⊥
untrue e = let never : false ≡ true = e in cc

first : (x y : Bool) → x && y ≡ true → x ≡ true
first true y e = refl
first false y e = e

second : (x y : Bool) → x && y ≡ true → y ≡ true
second true y e = e
second false y e = absurd (untrue e)

both : (x y : Bool) → x ≡ true → y ≡ true → x && y ≡ true
both true y e d = d
both false y e d = e

-- ---- `bool`
is_bool : (ty : Ty) → of_items.is_equal Ty.Bool ty ≡ true → ty ≡ Ty.Bool
is_bool Ty.Bool h = refl
is_bool _ h = absurd (untrue h)

bool_among : (tys : List Ty) → list_any (of_items.is_equal Ty.Bool) tys ≡ true → Contains tys Ty.Bool
bool_among [] h = absurd (untrue h)
bool_among (ty ∷ tys) h = by (of_items.is_equal Ty.Bool ty) refl h (bool_among tys)
  where
    by : (b : Bool) → of_items.is_equal Ty.Bool ty ≡ b → b || list_any (of_items.is_equal Ty.Bool) tys ≡ true →
        (list_any (of_items.is_equal Ty.Bool) tys ≡ true → Contains tys Ty.Bool) → Contains (ty ∷ tys) Ty.Bool
    by true e h later = (0, omega arith, is_bool ty e)
    by false e h later = let it = later h in (suc it.0, omega (arith, it.1), it.2)

pub types_have_bool : TypesHaveBool
types_have_bool p w = bool_among p.items.types w.0.0.1.1.0

-- ---- references
all_also : {A : Type 0} (test also : A → Bool) (xs : List A) → ((x : A) → test x ≡ true → also x ≡ true) → list_all test xs ≡ true →
    list_all also xs ≡ true
all_also test also [] h k = refl
all_also test also (x ∷ xs) h k = both (also x) _ (h x (first (test x) _ k)) (all_also test also xs h (second (test x) _ k))

all_claimed : {A : Type 0} (claim : A → Claim) (test : A → Bool) (xs : List A) → ((x : A) → Holds (claim x) → test x ≡ true) → Holds (each claim xs) →
    list_all test xs ≡ true
all_claimed claim test [] h k = refl
all_claimed claim test (x ∷ xs) h k = both (test x) _ (h x k.0) (all_claimed claim test xs h k.1)

-- claimed of the members of a table, each with its number
abbrev Numbered : {A : Type 0} → (ℕ → A → Claim) → ℕ → List A → Claim
Numbered f n [] = nothing
Numbered f n (x ∷ xs) = f n x & Numbered f (suc n) xs

all_numbered : {A : Type 0} (claim : ℕ → A → Claim) (test : A → Bool) (n : ℕ) (xs : List A) → ((n : ℕ) (x : A) → Holds (claim n x) → test x ≡ true) →
    Holds (Numbered claim n xs) → list_all test xs ≡ true
all_numbered claim test n [] h k = refl
all_numbered claim test n (x ∷ xs) h k = both (test x) _ (h n x k.0) (all_numbered claim test (suc n) xs h k.1)

pub same_reference : (o : Option Ty) → is_some (option_and_then types.reference_in o) ≡ is_reference o
same_reference None = refl
same_reference (Some (Ty.Shared to)) = refl
same_reference (Some (Ty.Unique to)) = refl
same_reference (Some _) = refl

module _ (items : ItemTable) where
  none_held : (id : TyId) (ids : List TyId) → types.is_reference items id ≡ false → holds_no_reference items ids ≡ true → holds_no_reference items (id ∷ ids) ≡ true
  none_held id ids e h = ap (λ (b : Bool). not (b || list_any (λ id. is_reference (type_at items id)) ids)) (sym (same_reference (type_at items id)) ∙ e) ∙ h

  not_true : (b : Bool) → not b ≡ true → b ≡ false
  not_true true h = absurd (untrue h)
  not_true false h = refl

  alone_is_none : (id : TyId) → of_items.stands_alone items id ≡ true → types.is_reference items id ≡ false
  alone_is_none id h = not_true (types.is_reference items id) (second (not (types.is_dyn items id)) _ (second (is_some (type_at items id)) _ h))

  all_alone : (ids : List TyId) → list_all (of_items.stands_alone items) ids ≡ true → holds_no_reference items ids ≡ true
  all_alone [] h = refl
  all_alone (id ∷ ids) h = none_held id ids (alone_is_none id (first (of_items.stands_alone items id) _ h)) (all_alone ids (second (of_items.stands_alone items id) _ h))

  -- in a type
  made_well : (ty : Ty) → of_items.is_well_made items ty ≡ true → holds_no_reference items (types_in ty) ≡ true
  made_well (Ty.Tuple parts) h = all_alone parts (first (list_all (of_items.stands_alone items) parts) _ h)
  made_well (Ty.Array element count) h = none_held element [] (alone_is_none element (first (of_items.stands_alone items element) _ h)) refl
  made_well (Ty.Boxed content) h = none_held content [] (not_true (types.is_reference items content) (second (is_some (type_at items content)) _ h)) refl
  made_well (Ty.Shared to) h = none_held to [] (not_true (types.is_reference items to) (second (is_some (type_at items to)) _ h)) refl
  made_well (Ty.Unique to) h = none_held to [] (not_true (types.is_reference items to) (second (is_some (type_at items to)) _ h)) refl
  made_well other h = refl

  one_alone : (id : TyId) → of_items.stands_alone items id ≡ true → holds_no_reference items (id ∷ []) ≡ true
  one_alone id h = none_held id [] (alone_is_none id h) refl

pub references_are_alone : ReferencesStandAlone
references_are_alone p w =
    both _ _
    (both _ _
    (both _ _
    (both _ _
    (all_also (of_items.is_good_type p.items) (λ ty. holds_no_reference p.items (types_in ty)) p.items.types (λ ty h. made_well p.items ty (first _ _ h)) w.0.0.1.0)
    (all_numbered _ (λ (adt : Adt). list_all (λ (variant : Variant). holds_no_reference p.items variant.fields) adt.variants) 0 p.items.adts
    (λ n adt h. all_claimed _ (λ (variant : Variant). holds_no_reference p.items variant.fields) adt.variants (λ variant k. all_alone p.items variant.fields k.0) h.1.0) w.0.1.0))
    (all_numbered _ (λ (def : ClosureDef). holds_no_reference p.items def.captures) 0 p.items.closures (λ n def h. all_alone p.items def.captures h.0) w.0.1.1.1.1.1.0))
    (all_also _ (λ (sig : Sig). holds_no_reference p.items (sig.result ∷ [])) p.items.bodies (λ sig h. one_alone p.items sig.result (second _ _ h)) w.0.1.1.1.1.1.1.0))
    (all_numbered _ (λ (def : TraitDef). list_all (λ (method : Sig). holds_no_reference p.items (method.result ∷ [])) def.methods) 0 p.items.traits
    (λ n def h. all_claimed _ (λ (method : Sig). holds_no_reference p.items (method.result ∷ [])) def.methods (λ method k. one_alone p.items method.result (second _ _ k.0)) h.0) w.0.1.1.0)
