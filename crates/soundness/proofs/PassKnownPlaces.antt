-- What has to be known of the place of a node: of each element on its way that its number is below the length of the array;
-- and of a name that stands for a part of a scrutinee, what is known of that part. Nothing else is asked.
use Rattle.std.proofs.Common.{◌≡◌, ℕ, ◌==◌, ◌&&◌, Bool, true, false, Option, Some, None, refl, ap, sym, ◌∙◌, subst}
use Rattle.std.specs.Prelude.{option_and_then}
use Rattle.std.specs.Option.{option_map_or}
use Rattle.std.proofs.lemmas.Bool.{false≢true}
use Rattle.std.proofs.lemmas.Bool.Decides.{Decides-eqb}
use Rattle.std.proofs.lemmas.Option.{none-some, same_Some}
use Rattle.mir_ty.specs.declared.ty.Ty.{Ty}
use Rattle.mir_ty.specs.declared.ty.TyId.{TyId}
use Rattle.mir_ty.specs.ItemTable.{ItemTable, type_at}
use Rattle.mir_ty.specs.Parts.{field_ty}
use Rattle.store_model.specs.Places.Place.{Step, ToPart, ToContent, ToElement, Place, whole_local, is_reference}
use Rattle.typed_tree.specs.declared.node.Use.{Use}
use Rattle.typed_tree.specs.Nodes.{number_of}
use Rattle.typed_tree.specs.Tree as tree
use Rattle.typed_tree.specs.Tree.{Node, node, Form, BodyTree}
use Rattle.src_meaning.specs.Locals.Effects.{step_at, place_at}
use Rattle.src_meaning.specs.Locals.OfBody.{cells, local_of, local_ty, reached_cells, cells_in}
use Rattle.src_meaning.specs.Shape.{Aliases, head, shape, shape_of, extended, place_of_key}
use Rattle.well_typed.specs.Claim.{Holds, fact, both, some}
use Rattle.well_typed.specs.Nodes as typing
use Rattle.well_typed.specs.Places.{Context, ty_of, form_of, is_place, Standing, Base}
use Rattle.well_typed.specs.Types as types
use Rattle.soundness_values.proofs.CheckedBodies.{is_reference_param}
use Rattle.soundness_values.proofs.Facts.{Facts, bounded_by}
use Rattle.soundness_cells.proofs.PassCellNames.{Names, PlaceOk, place_further}
use Rattle.soundness_cells.proofs.PassCellPatterns as cells_of
use Rattle.soundness_cells.proofs.PassCellPatterns.{Told, Has}
use Rattle.soundness_cells.proofs.PassCellPlaces as places
use Rattle.soundness_cells.proofs.PassCellPlaces.{Scoped}
use Rattle.soundness_cells.proofs.PassCellTypes as facts_of
use Rattle.soundness_cells.proofs.PassFacts.{Standpoint, context}
use Rattle.soundness.proofs.PassKnownSteps as steps_of
use Rattle.soundness_cells.proofs.PassSure.{known_place}
use Rattle.soundness_values.proofs.PlaceTypes.{some_holds}

module _ (items : ItemTable) (body : BodyTree) (facts : Facts) where
  -- enough is known of a place
  abbrev pub Known : Place → Type 0
  Known place =
      known_place items (local_ty items body) (is_reference_param items body) facts (place_at (local_of items body) place)
      ≡ true

  abbrev pub StepKnown : Place → Step → Type 0
  StepKnown place step = steps_of.StepKnown items (local_ty items body) (is_reference_param items body) facts
      (place_at (local_of items body) place) (step_at (local_of items body) step)

  pub cell_known : (key : ℕ) → Known (whole_local key)
  cell_known key = steps_of.whole_known items (local_ty items body) (is_reference_param items body) facts
      (local_of items body key)

  pub further_known : (place : Place) (step : Step) → Known place → StepKnown place step → Known (extended step place)
  further_known place step h k = subst (λ q. known_place items (local_ty items body) (is_reference_param items body) facts q
      ≡ true) (sym (place_further items body place step))
      (steps_of.known_further items (local_ty items body) (is_reference_param items body) facts
      (place_at (local_of items body) place) (step_at (local_of items body) step) h k)

  -- of each element on the way its number is below the length; of a name, what it stands for is known
  abbrev mutual
    pub Bounded : Aliases → Node → Type 0
    Bounded aliases (node id at ty by form) = BoundedIn aliases form

    pub BoundedIn : Aliases → Form → Type 0
    BoundedIn aliases (tree.Variable key) = Known (place_of_key key aliases)
    BoundedIn aliases (tree.Captured closure part name) = Known (place_of_key closure aliases)
    BoundedIn aliases (tree.Field base part) = Bounded aliases base
    BoundedIn aliases (tree.Index base index length) = Bounded aliases base
        × (bounded_by facts (local_of items body (number_of index)) length ≡ true)
    BoundedIn aliases (tree.Deref base) = Bounded aliases base
    BoundedIn aliases form = Unit {0}

  array_length : (o : Option Ty) (a : TyId × ℕ) (element : TyId) (count : ℕ) → option_and_then types.array_in o ≡ Some a →
      o ≡ Some (Ty.Array element count) → a.1 ≡ count
  array_length None a element count e f = absurd (none-some a e)
  array_length (Some (Ty.Array t n)) a element count e f = let same : a.1 ≡ count = cc in same
  array_length (Some ty) a element count e f = absurd (none-some a e)

  module _ (told : Told items) (fuel : ℕ) where
    abbrev K : Standpoint → Context
    K = context items

    mutual
      pub node_known : (n : Node) (x : Standpoint) (standing : Standing) → Holds (typing.typed (K x) standing n) →
          Scoped items body x → Has items body (reached_cells items n) → (aliases : Aliases) →
          Names items body aliases → Bounded aliases n → Known ((shape items n).place aliases)
      node_known (node id at ty by form) x standing h s k aliases names b = of_kind (is_place form) refl
          (λ p. form_known form x id ty by h.1 p s (cells_of.reached_inside items body (node id at ty by form) k)
          aliases names b)
        where
          of_kind : (c : Bool) → is_place form ≡ c →
              (is_place form ≡ true → Known ((shape_of items form (head id ty by)).place aliases)) →
              Known ((shape_of items form (head id ty by)).place aliases)
          of_kind true p later = later p
          of_kind false p later = subst Known
              (sym (places.value_place items body told fuel form (head id ty by) aliases p)) (cell_known id)

      pub form_known : (form : Form) (x : Standpoint) (id : ℕ) (ty : TyId) (by : Option Use) →
          Holds (typing.row (K x) id ty form) → is_place form ≡ true → Scoped items body x →
          Has items body (cells_in items form) → (aliases : Aliases) → Names items body aliases →
          BoundedIn aliases form → Known ((shape_of items form (head id ty by)).place aliases)
      form_known (tree.Variable key) x id ty by h p s k aliases names b = b
      form_known (tree.Captured closure part name) x id ty by h p s k aliases names b =
          further_known (place_of_key closure aliases) (ToPart part) b tt
      form_known (tree.Field base part) x id ty by h p s k aliases names b =
          further_known ((shape items base).place aliases) (ToPart part)
          (node_known base x Base h.0 s k aliases names b) tt
      form_known (tree.Index base index count) x id ty by h p s k aliases names b =
          let a = some_holds (types.array_of items (ty_of base))
          (λ a. fact (types.is_same ty a.0 && count == a.1)) h.1.1.1 in
          let is_array = (facts_of.array_by (type_at items (ty_of base)) a.0 a.1.0).0 in
          let kb = cells_of.has_left items body (reached_cells items base) (cells items true index) k in
          let placed = places.node_place items body told fuel base x Base h.0 s kb
          (λ q. subst (λ o. Rattle.store_model.specs.Places.TypeForms.is_never o ≡ false) (sym is_array) refl)
          (subst (λ o. is_reference o ≡ false) (sym is_array) refl) aliases names in
          further_known ((shape items base).place aliases) (ToElement (number_of index))
          (node_known base x Base h.0 s kb aliases names b.0)
          (λ root element n t is. subst (λ m. bounded_by facts (local_of items body (number_of index)) m ≡ true)
          ((Decides-eqb count a.0.1).0 (facts_of.right_of (types.is_same ty a.0.0) _ a.1.1)
          ∙ array_length (type_at items (ty_of base)) a.0 element n a.1.0
          (ap (type_at items) (same_Some (ty_of base) root (sym placed.typed ∙ t)) ∙ is)) b.1)
      form_known (tree.Deref base) x id ty by h p s k aliases names b =
          further_known ((shape items base).place aliases) ToContent
          (node_known base x Base h.0 s k aliases names b) tt
      form_known form x id ty by h p s k aliases names b = absurd (false≢true p)
