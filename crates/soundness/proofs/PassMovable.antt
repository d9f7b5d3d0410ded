-- What is moved may be moved, by the rules of typing: its place is in a local that is no parameter which is a
-- reference, is no element, and in no value with a `Drop` impl. Asked is that names which are no bindings of a guard
-- stand for themselves.
use Rattle.std.proofs.Common.{◌≡◌, ℕ, ◌==◌, not, Bool, true, false, List, [], ◌∷◌, ◌++◌, Option, Some, None, is_some, refl, ap, sym, ◌∙◌, subst}
use Rattle.std.specs.Prelude.{slice_get, option_and_then}
use Rattle.std.specs.Option.{option_map_or}
use Rattle.std.specs.Cmp.Derive.{both_true}
use Rattle.std.proofs.lemmas.Bool.{false≢true}
use Rattle.std.proofs.lemmas.Bool.Decides.{Decides-eqb}
use Rattle.std.proofs.lemmas.Option.{none-some, same_Some}
use Rattle.mir_ty.specs.declared.adt.Adt.{Adt}
use Rattle.mir_ty.specs.declared.ty.Ty.{Ty}
use Rattle.mir_ty.specs.declared.ty.TyId.{TyId}
use Rattle.mir_ty.specs.Facts.{has_drop_impl, ty_has_drop_impl, adt_has_drop_impl}
use Rattle.mir_ty.specs.ItemTable.{ItemTable, type_at}
use Rattle.mir_ty.specs.Parts.{field_ty}
use Rattle.store_model.specs.Concrete.Drops.{with_drop_body, drop_impl}
use Rattle.store_model.specs.Places.Place.{Step, ToPart, ToField, ToContent, ToElement, Place, whole_local, step_ty, ty_along, place_ty, is_reference}
use Rattle.typed_tree.specs.declared.node.Use.{Use}
use Rattle.typed_tree.specs.Tree as tree
use Rattle.typed_tree.specs.Tree.{Node, node, Form, BodyTree}
use Rattle.src_meaning.specs.Forms.{is_never}
use Rattle.src_meaning.specs.Locals.Effects.{step_at, place_at}
use Rattle.src_meaning.specs.Locals.OfBody.{local_of, local_ty, reached_cells, cells_in}
use Rattle.src_meaning.specs.Shape.{Aliases, head, shape, shape_of, extended, place_of_key}
use Rattle.well_typed.specs.Claim.{Holds, fact, both, some}
use Rattle.well_typed.specs.Nodes as typing
use Rattle.well_typed.specs.Places.{InScope, Context, entry_with, ty_of, form_of, is_place, may_move, may_move_by, Standing, Base}
use Rattle.well_typed.specs.Types as types
use Rattle.soundness_values.proofs.Along.{are_plain, next_plain}
use Rattle.soundness_values.proofs.CheckedBodies.{is_reference_param}
use Rattle.soundness_values.proofs.Checks as checks
use Rattle.soundness_cells.proofs.PassCellActs.{Cell}
use Rattle.soundness_cells.proofs.PassCellNames.{Names, place_further}
use Rattle.soundness_cells.proofs.PassCellPatterns as cells_of
use Rattle.soundness_cells.proofs.PassCellPatterns.{Told, Has}
use Rattle.soundness_cells.proofs.PassCellPlaces as places
use Rattle.soundness_cells.proofs.PassCellPlaces.{Scoped}
use Rattle.soundness_cells.proofs.PassCellTypes as facts
use Rattle.soundness_cells.proofs.PassFacts.{Standpoint, context}
use Rattle.soundness_cells.proofs.PassRest.{own_local}
use Rattle.soundness_values.proofs.PlaceTypes.{some_holds}
use Rattle.soundness_values.proofs.Ways.{has_index}

-- names that are no bindings of a guard stand for themselves, and so does the value of a closure
pub record Unaliased (x : Standpoint) (aliases : Aliases) : Type 0 where
  pub names : (key : ℕ) (y : InScope) → entry_with key x.entries ≡ Some y → y.is_in_guard ≡ false →
      place_of_key key aliases ≡ whole_local key
  pub closure : (y : InScope) → x.closure ≡ Some y → place_of_key y.key aliases ≡ whole_local y.key

-- ---- one step more

abbrev pub is_index : Step → Bool
is_index (ToElement i) = true
is_index step = false

no_index_more : (steps : List Step) (step : Step) → has_index steps ≡ false → is_index step ≡ false →
    has_index (steps ++ step ∷ []) ≡ false
no_index_more [] (ToPart n) h e = refl
no_index_more [] (ToField v n) h e = refl
no_index_more [] ToContent h e = refl
no_index_more [] (ToElement i) h e = absurd (false≢true (sym e))
no_index_more (ToPart n ∷ steps) step h e = no_index_more steps step h e
no_index_more (ToField v n ∷ steps) step h e = no_index_more steps step h e
no_index_more (ToContent ∷ steps) step h e = no_index_more steps step h e
no_index_more (ToElement i ∷ steps) step h e = absurd (false≢true (sym h))

same_index : (local : ℕ → ℕ) (step : Step) → is_index (step_at local step) ≡ is_index step
same_index local (ToPart n) = refl
same_index local (ToField v n) = refl
same_index local ToContent = refl
same_index local (ToElement i) = refl

-- so does the name at the root of a place
abbrev pub RootPlain : Aliases → Option ℕ → Type 0
RootPlain aliases root = (key : ℕ) → root ≡ Some key → place_of_key key aliases ≡ whole_local key

module _ (items : ItemTable) where
  -- a value of a type has no `Drop` impl
  abbrev pub NoImpl : TyId → Type 0
  NoImpl id = is_some (drop_impl items (type_at items id)) ≡ false

  pub no_impl : (id : TyId) → has_drop_impl items id ≡ false → NoImpl id
  no_impl id = by (type_at items id)
    where
      of_body : (n : ℕ) (o : Option ℕ) → is_some o ≡ false → is_some (with_drop_body n o) ≡ false
      of_body n None e = refl
      of_body n (Some body) e = absurd (false≢true (sym e))

      of_adt : (n : ℕ) (o : Option Adt) → adt_has_drop_impl o ≡ false →
          is_some (with_drop_body n (option_map_or (λ (adt : Adt). adt.drop_body) o None)) ≡ false
      of_adt n None e = refl
      of_adt n (Some adt) e = of_body n adt.drop_body e

      by : (o : Option Ty) → option_map_or (ty_has_drop_impl items) o false ≡ false → is_some (drop_impl items o) ≡
          false
      by (Some (Ty.Adt n)) e = of_adt n (slice_get items.adts n) e
      by None e = refl
      by (Some ty) e = refl

  plain_end : (o : Option TyId) → next_plain o (λ id. true) ≡ true
  plain_end None = refl
  plain_end (Some id) = refl

  plain_more : (steps : List Step) (step : Step) (root id : TyId) → ty_along items steps root ≡ Some id →
      are_plain items steps root ≡ true → NoImpl id → are_plain items (steps ++ step ∷ []) root ≡ true
  plain_more [] step root id t h n = both_true
      (ap not (subst NoImpl (sym (same_Some root id t)) n))
      (plain_end (option_and_then (step_ty items step) (type_at items root)))
  plain_more (s ∷ steps) step root id t h n = both_true
      (facts.left_of (not (is_some (drop_impl items (type_at items root)))) _ h)
      (by (option_and_then (step_ty items s) (type_at items root)) t
      (facts.right_of (not (is_some (drop_impl items (type_at items root)))) _ h)
      (λ k u p. plain_more steps step k id u p n))
    where
      by : (o : Option TyId) → option_and_then (ty_along items steps) o ≡ Some id →
          next_plain o (are_plain items steps) ≡ true →
          ((k : TyId) → ty_along items steps k ≡ Some id → are_plain items steps k ≡ true →
          are_plain items (steps ++ step ∷ []) k ≡ true) → next_plain o (are_plain items (steps ++ step ∷ [])) ≡ true
      by None t h later = refl
      by (Some k) t h later = later k t h

module _ (items : ItemTable) (body : BodyTree) where
  -- a place out of which may be moved
  pub record Movable (place : Place) : Type 0 where
    pub own : is_reference_param items body (local_of items body place.local) ≡ false
    pub unindexed : has_index (place_at (local_of items body) place).steps ≡ false
    pub plain : option_map_or (are_plain items (place_at (local_of items body) place).steps)
        (local_ty items body (local_of items body place.local)) false ≡ true

  pub movable_moved : (place : Place) → Movable place →
      checks.may_move items (local_ty items body) (is_reference_param items body) (place_at (local_of items body) place)
      ≡ true
  movable_moved place m = both_true (both_true (ap not m.own) (ap not m.unindexed)) m.plain

  pub whole_movable : (key : ℕ) (id : TyId) → Cell items body key id → is_reference (type_at items id) ≡ false →
      Movable (whole_local key)
  whole_movable key id c r = record {
    own = own_local items body (local_of items body key) id c r;
    unindexed = refl;
    plain = subst (λ o. option_map_or (are_plain items []) o false ≡ true) (sym c) refl;
  }

  pub movable_further : (id : TyId) (place : Place) (step : Step) → Movable place →
      place_ty items (local_ty items body) (place_at (local_of items body) place) ≡ Some id →
      is_index step ≡ false → NoImpl items id → Movable (extended step place)
  movable_further id place step m t i n = record {
    own = m.own;
    unindexed = subst (λ q. has_index q.steps ≡ false) (sym (place_further items body place step))
        (no_index_more (place_at (local_of items body) place).steps (step_at (local_of items body) step) m.unindexed
        (same_index (local_of items body) step ∙ i));
    plain = subst (λ (q : Place). option_map_or (are_plain items q.steps)
        (local_ty items body (local_of items body place.local)) false ≡ true)
        (sym (place_further items body place step))
        (by (local_ty items body (local_of items body place.local)) t m.plain);
  }
    where
      by : (o : Option TyId) → option_and_then (ty_along items (place_at (local_of items body) place).steps) o ≡ Some
          id → option_map_or (are_plain items (place_at (local_of items body) place).steps) o false ≡ true →
          option_map_or (are_plain items ((place_at (local_of items body) place).steps
          ++ step_at (local_of items body) step ∷ [])) o false ≡ true
      by None t h = absurd (none-some id t)
      by (Some root) t h = plain_more items (place_at (local_of items body) place).steps
          (step_at (local_of items body) step) root id t h n

module _ (items : ItemTable) (body : BodyTree) (told : Told items) (fuel : ℕ) where
  abbrev K : Standpoint → Context
  K = context items

  has_fields_plain : (o : Option Ty) → option_map_or (types.fields_in items) o false ≡ true → is_reference o ≡ false
  has_fields_plain None e = absurd (false≢true e)
  has_fields_plain (Some (Ty.Shared to)) e = absurd (false≢true e)
  has_fields_plain (Some (Ty.Unique to)) e = absurd (false≢true e)
  has_fields_plain (Some ty) e = refl

  fields_made : (o : Option Ty) → option_map_or (types.fields_in items) o false ≡ true →
      Rattle.store_model.specs.Places.TypeForms.is_never o ≡ false
  fields_made None e = absurd (false≢true e)
  fields_made (Some Ty.Never) e = absurd (false≢true e)
  fields_made (Some ty) e = refl

  inside_made : (o : Option Ty) (t : TyId) → option_and_then types.inside_in o ≡ Some t →
      Rattle.store_model.specs.Places.TypeForms.is_never o ≡ false
  inside_made None t e = absurd (none-some t e)
  inside_made (Some Ty.Never) t e = absurd (none-some t e)
  inside_made (Some ty) t e = refl

  box_no_impl : (o : Option Ty) (t : TyId) → option_and_then types.inside_in o ≡ Some t →
      is_some (drop_impl items o) ≡ false
  box_no_impl None t e = absurd (none-some t e)
  box_no_impl (Some (Ty.Adt n)) t e = absurd (none-some t e)
  box_no_impl (Some ty) t e = refl

  mutual
    -- what may be moved by the rules of typing
    pub moved_place : (n : Node) (x : Standpoint) (standing : Standing) → Holds (typing.typed (K x) standing n) →
        Scoped items body x → Has items body (reached_cells items n) →
        (is_place (form_of n) ≡ false → is_never items (ty_of n) ≡ false) →
        is_reference (type_at items (ty_of n)) ≡ false → (aliases : Aliases) → Names items body aliases →
        Unaliased x aliases → may_move (K x) n ≡ true → Movable items body ((shape items n).place aliases)
    moved_place (node id at ty by form) x standing h s k made r aliases names u m = of_kind (is_place form) refl
        (λ p. moved_form form x id ty by h.1 p s (cells_of.reached_inside items body (node id at ty by form) k) r
        aliases names u m)
      where
        of_kind : (b : Bool) → is_place form ≡ b →
            (is_place form ≡ true → Movable items body ((shape_of items form (head id ty by)).place aliases)) →
            Movable items body ((shape_of items form (head id ty by)).place aliases)
        of_kind true p later = later p
        of_kind false p later = subst (Movable items body)
            (sym (places.value_place items body told fuel form (head id ty by) aliases p))
            (whole_movable items body id ty
            (places.value_cell items body told fuel id at ty by form x standing h p k (made p)) r)

    pub moved_form : (form : Form) (x : Standpoint) (id : ℕ) (ty : TyId) (by : Option Use) →
        Holds (typing.row (K x) id ty form) → is_place form ≡ true → Scoped items body x →
        Has items body (cells_in items form) → is_reference (type_at items ty) ≡ false → (aliases : Aliases) →
        Names items body aliases → Unaliased x aliases → may_move_by (K x) form ≡ true →
        Movable items body ((shape_of items form (head id ty by)).place aliases)
    moved_form (tree.Variable key) x id ty by h p s k r aliases names u m =
        let y = some_holds (entry_with key x.entries) (λ y. fact (types.is_same ty y.ty)) h in
        let free = facts.is_false y.0.is_in_guard
        (ap (λ o. not (option_map_or (λ (z : InScope). z.is_in_guard) o false)) (sym y.1.0) ∙ m) in
        subst (Movable items body) (sym (u.names key y.0 y.1.0 free))
        (whole_movable items body key y.0.ty (s.names key y.0 y.1.0)
        (subst (λ t. is_reference (type_at items t) ≡ false) (Rattle.soundness_values.proofs.PlaceTypes.same_type ty y.0.ty
        y.1.1) r))
    moved_form (tree.Captured closure part name) x id ty by h p s k r aliases names u m =
        let y = some_holds x.closure (λ y. both (fact (y.key == closure))
        (some (field_ty items y.ty 0 part) (λ t. fact (types.is_same ty t)))) h in
        let c = s.closure y.0 y.1.0 in
        let plain = subst (λ o. is_reference o ≡ false) (sym c.1.1) refl in
        subst (λ z. Movable items body (extended (ToPart part) (place_of_key z aliases)))
        ((Decides-eqb y.0.key closure).0 y.1.1.0)
        (movable_further items body y.0.ty (place_of_key y.0.key aliases) (ToPart part)
        (subst (Movable items body) (sym (u.closure y.0 y.1.0)) (whole_movable items body y.0.key y.0.ty c.0 plain))
        (names.stands y.0.key y.0.ty c.0 plain).typed refl
        (subst (λ o. is_some (drop_impl items o) ≡ false) (sym c.1.1) refl))
    moved_form (tree.Field base part) x id ty by h p s k r aliases names u m =
        let plain = has_fields_plain (type_at items (ty_of base)) h.1.0 in
        let made = λ (q : is_place (form_of base) ≡ false). fields_made (type_at items (ty_of base)) h.1.0 in
        movable_further items body (ty_of base) ((shape items base).place aliases) (ToPart part)
        (moved_place base x Base h.0 s k made plain aliases names u
        (facts.right_of (not (has_drop_impl items (ty_of base))) _ m))
        (places.node_place items body told fuel base x Base h.0 s k made plain aliases names).typed refl
        (no_impl items (ty_of base)
        (facts.is_false (has_drop_impl items (ty_of base)) (facts.left_of (not (has_drop_impl items (ty_of base))) _
        m)))
    moved_form (tree.Index base index count) x id ty by h p s k r aliases names u m = absurd (false≢true m)
    moved_form (tree.Deref base) x id ty by h p s k r aliases names u m =
        let t = some_holds (types.inside_of items (ty_of base)) (λ t. fact (types.is_same ty t)) h.1 in
        let plain = sym (facts.reference_by (type_at items (ty_of base)))
        ∙ facts.is_false (types.is_reference items (ty_of base))
        (facts.left_of (not (types.is_reference items (ty_of base))) _ m) in
        let made = λ (q : is_place (form_of base) ≡ false). inside_made (type_at items (ty_of base)) t.0 t.1.0 in
        movable_further items body (ty_of base) ((shape items base).place aliases) ToContent
        (moved_place base x Base h.0 s k made plain aliases names u
        (facts.right_of (not (types.is_reference items (ty_of base))) _ m))
        (places.node_place items body told fuel base x Base h.0 s k made plain aliases names).typed refl
        (box_no_impl (type_at items (ty_of base)) t.0 t.1.0)
    moved_form form x id ty by h p s k r aliases names u m = absurd (false≢true p)
