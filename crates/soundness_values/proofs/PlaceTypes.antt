-- A place of a well typed body has, by the types of the locals, the type of its node: the first step from the rules
-- of typing to what the effects on places ask.
use Rattle.std.proofs.Common.{◌≡◌, ℕ, ◌==◌, ◌&&◌, not, Bool, true, false, List, [], ◌∷◌, ◌++◌, Option, Some, None, refl, ap, sym, ◌∙◌, subst}
use Rattle.std.specs.Prelude.{slice_get, option_and_then}
use Rattle.std.specs.Option.{option_map_or}
use Rattle.std.proofs.lemmas.Bool.{false≢true}
use Rattle.std.proofs.lemmas.Bool.Decides.{Decides-eqb}
use Rattle.std.proofs.lemmas.Option.{none-some}
use Rattle.mir_ty.specs.declared.ty.Ty.{Ty}
use Rattle.mir_ty.specs.declared.ty.TyId.{TyId}
use Rattle.mir_ty.specs.ItemTable.{ItemTable, type_at}
use Rattle.mir_ty.specs.Parts.{parts_of, field_ty}
use Rattle.store_model.specs.Places.Place as places
use Rattle.store_model.specs.Places.Place.{Step, ToPart, ToContent, ToElement, Place, whole_local, step_ty, ty_along, place_ty, unless_enum}
use Rattle.typed_tree.specs.Tree as tree
use Rattle.typed_tree.specs.Tree.{Node, node, Form}
use Rattle.typed_tree.specs.Nodes.{number_of}
use Rattle.typed_tree.specs.declared.node.Use.{Use}
use Rattle.src_meaning.specs.Shape.{Aliases, place_of_key, extended, head, shape, shape_of}
use Rattle.well_typed.specs.Claim.{Claim, Holds, fact, both, some}
use Rattle.well_typed.specs.Nodes.{typed, row}
use Rattle.well_typed.specs.Places.{InScope, Context, entry_with, ty_of, Standing, Base}
use Rattle.well_typed.specs.Types.{is_same, has_fields, fields_in, is_enum, array_of, array_in, inside_of, inside_in}

pub some_holds : {A : Type 0} (o : Option A) (f : A → Claim) → Holds (some o f) →
    (a : A) × ((o ≡ Some a) × Holds (f a))
some_holds None f h = absurd (false≢true h)
some_holds (Some a) f h = (a, (refl, h))

pub same_type : (a b : TyId) → is_same a b ≡ true → a ≡ b
same_type a b h = ap (λ n. record { 0 = n }) ((Decides-eqb a.0 b.0).0 h)

module _ (items : ItemTable) where
  along_append : (steps : List Step) (step : Step) (id : TyId) →
      ty_along items (steps ++ step ∷ []) id ≡ option_and_then
      (λ i. option_and_then (step_ty items step) (type_at items i)) (ty_along items steps id)
  along_append [] step id = by (option_and_then (step_ty items step) (type_at items id))
    where
      by : (o : Option TyId) → option_and_then (ty_along items []) o ≡ o
      by None = refl
      by (Some i) = refl
  along_append (first ∷ steps) step id = by (λ i. along_append steps step i)
      (option_and_then (step_ty items first) (type_at items id))
    where
      by : ((i : TyId) → ty_along items (steps ++ step ∷ []) i ≡ option_and_then
          (λ i. option_and_then (step_ty items step) (type_at items i)) (ty_along items steps i)) →
          (o : Option TyId) →
          option_and_then (ty_along items (steps ++ step ∷ [])) o ≡ option_and_then
          (λ i. option_and_then (step_ty items step) (type_at items i)) (option_and_then (ty_along items steps) o)
      by later None = refl
      by later (Some i) = later i

  -- a part of a place of a type
  pub extended_ty : (local_ty : ℕ → Option TyId) (place : Place) (step : Step) (id next : TyId) →
      place_ty items local_ty place ≡ Some id →
      option_and_then (step_ty items step) (type_at items id) ≡ Some next →
      place_ty items local_ty (extended step place) ≡ Some next
  extended_ty local_ty place step id next e k = by (local_ty place.local) e
    where
      by : (o : Option TyId) → option_and_then (ty_along items place.steps) o ≡ Some id →
          option_and_then (ty_along items (place.steps ++ step ∷ [])) o ≡ Some next
      by None e = absurd (none-some id e)
      by (Some root) e = along_append place.steps step root
          ∙ ap (option_and_then (λ i. option_and_then (step_ty items step) (type_at items i))) e ∙ k

  no_enum : (b : Bool) (o : Option TyId) (t : TyId) → not b ≡ true → o ≡ Some t → unless_enum b o ≡ Some t
  no_enum false o t h e = e
  no_enum true o t h e = absurd (false≢true h)

  pub field_step : (base t : TyId) (part : ℕ) → has_fields items base ≡ true → field_ty items base 0 part ≡ Some t →
      option_and_then (step_ty items (ToPart part)) (type_at items base) ≡ Some t
  field_step base t part h e = by (type_at items base) h e
    where
      by_ty : (ty : Ty) → fields_in items ty ≡ true → slice_get (parts_of items ty 0) part ≡ Some t →
          unless_enum (places.is_enum items ty) (slice_get (parts_of items ty 0) part) ≡ Some t
      by_ty (Ty.Adt n) h e = no_enum (is_enum items n) _ t h e
      by_ty (Ty.Tuple parts) h e = e
      by_ty other h e = absurd (false≢true h)

      by : (o : Option Ty) → option_map_or (fields_in items) o false ≡ true →
          option_and_then (λ ty. slice_get (parts_of items ty 0) part) o ≡ Some t →
          option_and_then (step_ty items (ToPart part)) o ≡ Some t
      by None h e = absurd (false≢true h)
      by (Some ty) h e = by_ty ty h e

  pub element_step : (base : TyId) (a : TyId × ℕ) (i : ℕ) → array_of items base ≡ Some a →
      option_and_then (step_ty items (ToElement i)) (type_at items base) ≡ Some a.0
  element_step base a i e = by (type_at items base) e
    where
      by : (o : Option Ty) → option_and_then array_in o ≡ Some a → option_and_then (step_ty items (ToElement i)) o
          ≡ Some a.0
      by None e = absurd (none-some a e)
      by (Some (Ty.Array x n)) e = let same : (x, n) ≡ a = cc in ap (λ (p : TyId × ℕ). Some p.0) same
      by (Some other) e = absurd (none-some a e)

  pub content_step : (base t : TyId) → inside_of items base ≡ Some t → option_and_then (step_ty items ToContent)
      (type_at items base) ≡ Some t
  content_step base t e = by (type_at items base) e
    where
      by : (o : Option Ty) → option_and_then inside_in o ≡ Some t → option_and_then (step_ty items ToContent) o
          ≡ Some t
      by None e = absurd (none-some t e)
      by (Some (Ty.Boxed x)) e = e
      by (Some (Ty.Shared x)) e = e
      by (Some (Ty.Unique x)) e = e
      by (Some other) e = absurd (none-some t e)

-- what stands around a node: its entries have the types of their cells, or of the parts for which they stand in a
-- guard; so has the value of a closure, which is no enum
pub record Placed (c : Context) (local_ty : ℕ → Option TyId) (aliases : Aliases) : Type 0 where
  pub entries : (key : ℕ) (x : InScope) → entry_with key c.entries ≡ Some x →
      place_ty c.items local_ty (place_of_key key aliases) ≡ Some x.ty
  pub closure : (x : InScope) → c.closure ≡ Some x → place_ty c.items local_ty (place_of_key x.key aliases)
      ≡ Some x.ty
  pub no_enum : (x : InScope) (part : ℕ) (t : TyId) → c.closure ≡ Some x → field_ty c.items x.ty 0 part ≡ Some t →
      option_and_then (step_ty c.items (ToPart part)) (type_at c.items x.ty) ≡ Some t

module _ (c : Context) (local_ty : ℕ → Option TyId) (aliases : Aliases) (placed : Placed c local_ty aliases) where
  -- what is no place stands in a cell of its own type
  abbrev mutual
    pub HasCell : Node → Type 0
    HasCell (node id at ty by form) = HasCellOf id ty form

    pub HasCellOf : ℕ → TyId → Form → Type 0
    HasCellOf id ty (tree.Variable key) = Unit {0}
    HasCellOf id ty (tree.Captured closure part name) = Unit {0}
    HasCellOf id ty (tree.Field base part) = HasCell base
    HasCellOf id ty (tree.Index base index length) = HasCell base
    HasCellOf id ty (tree.Deref base) = HasCell base
    HasCellOf id ty form = local_ty id ≡ Some ty

  at_home : (id : ℕ) (ty : TyId) → local_ty id ≡ Some ty → place_ty c.items local_ty (whole_local id) ≡ Some ty
  at_home id ty e = ap (option_and_then (ty_along c.items [])) e

  mutual
    -- the place of a node has the node's type
    pub place_node : (n : Node) (standing : Standing) → Holds (typed c standing n) → HasCell n →
        place_ty c.items local_ty ((shape c.items n).place aliases) ≡ Some (ty_of n)
    place_node (node id at ty by form) standing h t = place_form form id ty by h.1 t

    place_form : (form : Form) (id : ℕ) (ty : TyId) (by : Option Use) → Holds (row c id ty form) →
        HasCellOf id ty form →
        place_ty c.items local_ty ((shape_of c.items form (head id ty by)).place aliases) ≡ Some ty
    place_form (tree.Variable key) id ty by h t =
        let x = some_holds (entry_with key c.entries) (λ x. fact (is_same ty x.ty)) h in
        placed.entries key x.0 x.1.0 ∙ ap Some (sym (same_type ty x.0.ty x.1.1))
    place_form (tree.Captured closure part name) id ty by h t =
        let x = some_holds c.closure
        (λ x. both (fact (x.key == closure)) (some (field_ty c.items x.ty 0 part) (λ t. fact (is_same ty t)))) h in
        let y = some_holds (field_ty c.items x.0.ty 0 part) (λ t. fact (is_same ty t)) x.1.1.1 in
        let at_key : place_ty c.items local_ty (place_of_key closure aliases) ≡ Some x.0.ty =
        subst (λ n. place_ty c.items local_ty (place_of_key n aliases) ≡ Some x.0.ty)
        ((Decides-eqb x.0.key closure).0 x.1.1.0) (placed.closure x.0 x.1.0) in
        extended_ty c.items local_ty (place_of_key closure aliases) (ToPart part) x.0.ty y.0 at_key
        (placed.no_enum x.0 part y.0 x.1.0 y.1.0) ∙ ap Some (sym (same_type ty y.0 y.1.1))
    place_form (tree.Field base part) id ty by h t =
        let y = some_holds (field_ty c.items (ty_of base) 0 part) (λ t. fact (is_same ty t)) h.1.1 in
        extended_ty c.items local_ty ((shape c.items base).place aliases) (ToPart part) (ty_of base) y.0
        (place_node base Base h.0 t) (field_step c.items (ty_of base) y.0 part h.1.0 y.1.0)
        ∙ ap Some (sym (same_type ty y.0 y.1.1))
    place_form (tree.Index base index count) id ty by h t =
        let a = some_holds (array_of c.items (ty_of base)) (λ a. fact (is_same ty a.0 && count == a.1)) h.1.1.1 in
        extended_ty c.items local_ty ((shape c.items base).place aliases) (ToElement (number_of index))
        (ty_of base) a.0.0 (place_node base Base h.0 t)
        (element_step c.items (ty_of base) a.0 (number_of index) a.1.0)
        ∙ ap Some (sym (same_type ty a.0.0 (left (is_same ty a.0.0) (count == a.0.1) a.1.1)))
      where
        left : (a b : Bool) → (a && b) ≡ true → a ≡ true
        left true b e = refl
        left false b e = absurd (false≢true e)
    place_form (tree.Deref base) id ty by h t =
        let y = some_holds (inside_of c.items (ty_of base)) (λ t. fact (is_same ty t)) h.1 in
        extended_ty c.items local_ty ((shape c.items base).place aliases) ToContent (ty_of base) y.0
        (place_node base Base h.0 t) (content_step c.items (ty_of base) y.0 y.1.0)
        ∙ ap Some (sym (same_type ty y.0 y.1.1))
    place_form other id ty by h t = at_home id ty t
