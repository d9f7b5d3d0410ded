-- The first test of a marked run holds of actions on places to which the types lead: copies and moves, borrows, tests of
-- patterns, places of which the value is replaced. One lemma a kind of action.
use Rattle.std.proofs.Common.{◌≡◌, ℕ, ◌&&◌, ◌||◌, not, Bool, true, false, List, [], Option, Some, None, is_some, refl, ap, sym, ◌∙◌, subst}
use Rattle.std.specs.Prelude.{option_and_then}
use Rattle.std.specs.Option.{option_map_or}
use Rattle.std.specs.Cmp.Derive.{both_true}
use Rattle.mir_base.specs.declared.operator.Cmp.{Cmp}
use Rattle.mir_ty.specs.declared.ty.Ty.{Ty}
use Rattle.mir_ty.specs.declared.ty.TyId.{TyId}
use Rattle.mir_ty.specs.Facts.{needs_drop}
use Rattle.mir_ty.specs.ItemTable.{ItemTable, type_at}
use Rattle.store_model.specs.Effects as effects
use Rattle.store_model.specs.Effects.{EffectSite, Operand, Copied, Moved}
use Rattle.store_model.specs.Places.Place.{Place, whole_local, ty_along, is_reference, is_enum}
use Rattle.store_model.specs.Places.TypeForms.{same_id, is_bool, is_dyn, are_compared, referent}
use Rattle.typed_tree.specs.Tree.{BodyTree}
use Rattle.src_meaning.specs.Forms.{site_in, site_of_key, moved}
use Rattle.src_meaning.specs.Locals.Effects.{operand_at, place_at}
use Rattle.src_meaning.specs.Locals.OfBody.{local_ty}
use Rattle.soundness_values.proofs.CheckedBodies.{is_reference_param}
use Rattle.soundness_values.proofs.Checks as checks
use Rattle.soundness_cells.proofs.PassCellActs.{Cell, same_itself}
use Rattle.soundness_cells.proofs.PassCellEffects.{local, Acts, Tests, Drops}
use Rattle.soundness_cells.proofs.PassCellNames.{PlaceOk, cell_ok}
use Rattle.soundness_cells.proofs.PassCellTests.{alone, value_at, copied_at, is_literal}
use Rattle.soundness_cells.proofs.PassCellTypes as facts
use Rattle.soundness_cells.proofs.PassCellTypes.{Alone}

module _ (items : ItemTable) (body : BodyTree) where
  abbrev C : Option TyId → Bool
  C o = option_map_or (alone items) o false

  abbrev I : Option TyId → Option TyId
  I o = option_and_then (ty_along items []) o

  abbrev T : Option TyId → Option Ty
  T o = option_and_then (type_at items) (I o)

  -- a place of a type that is neither a reference nor a trait object
  value_ok : (id : TyId) (place : Place) → PlaceOk items body id place → Alone items id →
      value_at items (local_ty items body) (is_reference_param items body) (place_at (local items body) place) ≡ true
  value_ok id place p a = both_true p.leading
      (subst (λ o. alone_ty (option_and_then (type_at items) o) ≡ true) (sym p.typed) a)
    where
      alone_ty : Option Ty → Bool
      alone_ty o = not (is_reference o) && not (is_dyn o)

  plain_of : (id : TyId) → Alone items id → is_reference (type_at items id) ≡ false
  plain_of id a = facts.is_false (is_reference (type_at items id))
      (facts.left_of (not (is_reference (type_at items id))) _ a)

  -- two places of one type
  of_one : (id : TyId) (to from : Option TyId) → to ≡ Some id → from ≡ Some id →
      option_map_or (λ t. option_map_or (same_id t) from false) to false ≡ true
  of_one id to from e f = subst (λ o. option_map_or (λ t. option_map_or (same_id t) from false) o false ≡ true) (sym e)
      (subst (λ o. option_map_or (same_id id) o false ≡ true) (sym f) (same_itself items body id))

  -- which needs no dropping
  copied_ok : (id : TyId) (place : Place) → PlaceOk items body id place → Alone items id →
      needs_drop items id ≡ false →
      copied_at items (local_ty items body) (is_reference_param items body) (place_at (local items body) place) ≡ true
  copied_ok id place p a n = both_true (value_ok id place p a)
      (ap not (ap (λ o. option_map_or (needs_drop items) o false) p.typed ∙ n))

  pub put_copied : (n key : ℕ) (site : EffectSite) (id : TyId) → Cell items body key id → Alone items id →
      needs_drop items id ≡ false → PlaceOk items body id site.place → Acts items body (effects.Put (site_in n key) (Copied site))
  put_copied n key site id c a u p = both_true (subst (λ o. C o ≡ true) (sym c) a)
      (both_true (copied_ok id site.place p a u)
      (of_one id (I (local_ty items body (local items body key))) _
      (ap (option_and_then (ty_along items [])) c) p.typed))

  -- a value is moved to a place of its type
  pub moved_to : (to site : EffectSite) (id : TyId) → Alone items id → PlaceOk items body id to.place →
      PlaceOk items body id site.place → Acts items body (effects.Put to (Moved site))
  moved_to to site id a t p = both_true (value_ok id to.place t a)
      (both_true (value_ok id site.place p a) (of_one id _ _ t.typed p.typed))

  pub put_moved : (n key : ℕ) (site : EffectSite) (id : TyId) → Cell items body key id → Alone items id →
      PlaceOk items body id site.place → Acts items body (effects.Put (site_in n key) (Moved site))
  put_moved n key site id c a p = moved_to (site_in n key) site id a (cell_ok items body key id c (plain_of id a)) p

  pub borrow_acts : (n key : ℕ) (unique : Bool) (base : EffectSite) (ty id : TyId) → Cell items body key ty →
      PlaceOk items body id base.place → referent unique (type_at items ty) ≡ Some id →
      Acts items body (effects.Borrow (record { node = n; place = whole_local key }) unique base)
  borrow_acts n key unique base ty id c p r = both_true p.leading
      (subst (λ o. option_map_or (λ t. option_map_or (same_id t)
      (referent unique (option_and_then (type_at items) (I (local_ty items body (local items body key))))) false) o
      false ≡ true) (sym p.typed)
      (subst (λ o. option_map_or (same_id id) (referent unique (T o)) false ≡ true) (sym c)
      (subst (λ o. option_map_or (same_id id) o false ≡ true) (sym r) (same_itself items body id))))

  pub has_variant_tests : (site : EffectSite) (variant : ℕ) (id : TyId) → PlaceOk items body id site.place →
      option_map_or (λ ty. is_enum items ty) (type_at items id) false ≡ true →
      Tests items body (effects.HasVariant site variant)
  has_variant_tests site variant id p e = both_true p.leading
      (subst (λ o. option_map_or (λ ty. is_enum items ty) (option_and_then (type_at items) o) false ≡ true)
      (sym p.typed) e)

  -- the place of which the value is replaced
  pub replaced_drops : (site : EffectSite) (id : TyId) → PlaceOk items body id site.place → Alone items id →
      needs_drop items id ≡ true → Drops items body effects.Normal site
  replaced_drops site id p a n = second_or _ _ (both_true (value_ok id site.place p a)
      (subst (λ o. option_map_or (needs_drop items) o false ≡ true) (sym p.typed) n))
    where
      second_or : (a b : Bool) → b ≡ true → (a || b) ≡ true
      second_or true b e = refl
      second_or false b e = e

  -- what a pattern tests goes to a cell of type `bool`
  pub tests_into : (key : ℕ) (site : EffectSite) (value : Operand) (ty id : TyId) → Cell items body key ty → Alone items ty →
      is_bool (type_at items ty) ≡ true → PlaceOk items body id site.place → Alone items id →
      needs_drop items id ≡ false →
      is_literal items (local_ty items body) (is_reference_param items body) (operand_at (local items body) value) ≡ true →
      are_compared (type_at items id) (checks.form_of items (local_ty items body) (is_reference_param items body)
      (operand_at (local items body) value)) ≡ true →
      Acts items body (effects.Compare (site_of_key key) Cmp.Eq (Copied site) value)
  tests_into key site value ty id c a b p ai u l k = both_true
      (subst (λ o. (C o && is_bool (T o)) ≡ true) (sym c) (both_true a b))
      (both_true (copied_ok id site.place p ai u) (both_true l
      (subst (λ o. are_compared (option_and_then (type_at items) o) (checks.form_of items (local_ty items body)
      (is_reference_param items body) (operand_at (local items body) value)) ≡ true) (sym p.typed) k)))
