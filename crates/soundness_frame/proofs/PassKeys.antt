-- The keys that a place names: that of its local, and those of the elements on its way. What holds of the keys of
-- names in
-- scope, and of the numbers of the nodes of a place, holds of the keys of the place.
use Rattle.std.proofs.Common.{◌≡◌, ◌⊎◌, inl, inr, ℕ, suc, ◌==◌, Bool, true, false, List, [], ◌∷◌, ◌++◌, Option, Some, if◌then◌else◌, refl, ap, sym, ◌∙◌, subst}
use Rattle.std.proofs.lemmas.Bool.{false≢true}
use Rattle.std.proofs.lemmas.Bool.Decides.{Decides-eqb}
use Rattle.mir_ty.specs.declared.ty.TyId.{TyId}
use Rattle.mir_ty.specs.ItemTable.{ItemTable}
use Rattle.mir_ty.specs.Parts.{field_ty}
use Rattle.store_model.specs.Places.Place.{Step, ToPart, ToField, ToContent, ToElement, Place, whole_local}
use Rattle.typed_tree.specs.declared.node.Use.{Use}
use Rattle.typed_tree.specs.Nodes.{number_of, nodes_of, nodes_in}
use Rattle.typed_tree.specs.Tree as tree
use Rattle.typed_tree.specs.Tree.{Node, node, Form, Nodes, no_node, a_node, Fields, no_field, a_field}
use Rattle.src_meaning.specs.Forms as forms
use Rattle.src_meaning.specs.Shape as shapes
use Rattle.src_meaning.specs.Shape.{BoundName, head, shape, shape_of, in_fields, in_parts, extended}
use Rattle.well_typed.specs.Claim.{Holds, fact, both}
use Rattle.well_typed.specs.Nodes as typing
use Rattle.well_typed.specs.Places.{InScope, entry_with, Standing, Base}
use Rattle.well_typed.specs.Types as types
use Rattle.soundness_cells.proofs.PassCells.{NodeIn, node_left, node_right}
use Rattle.soundness_cells.proofs.PassFacts.{Standpoint, context}
use Rattle.soundness_values.proofs.PlaceTypes.{some_holds}

module _ (P : ℕ → Type 0) where
  abbrev pub KeysIn : List Step → Type 0
  KeysIn [] = Unit {0}
  KeysIn (ToElement i ∷ steps) = P i × KeysIn steps
  KeysIn (ToPart n ∷ steps) = KeysIn steps
  KeysIn (ToField v n ∷ steps) = KeysIn steps
  KeysIn (ToContent ∷ steps) = KeysIn steps

  abbrev pub Keys : Place → Type 0
  Keys place = P place.local × KeysIn place.steps

  pub keys_at_end : (steps : List Step) (step : Step) → KeysIn steps → KeysIn (step ∷ []) → KeysIn (steps ++ step ∷ [])
  keys_at_end [] step h k = k
  keys_at_end (ToElement i ∷ steps) step h k = (h.0, keys_at_end steps step h.1 k)
  keys_at_end (ToPart n ∷ steps) step h k = keys_at_end steps step h k
  keys_at_end (ToField v n ∷ steps) step h k = keys_at_end steps step h k
  keys_at_end (ToContent ∷ steps) step h k = keys_at_end steps step h k

  keys_extended : (step : Step) (place : Place) → Keys place → KeysIn (step ∷ []) → Keys (extended step place)
  keys_extended step place h k = (h.0, keys_at_end place.steps step h.1 k)

  -- ---- what the names of a pattern take

  abbrev pub AllKeys : List BoundName → Type 0
  AllKeys [] = Unit {0}
  AllKeys (b ∷ bounds) = Keys b.site.place × AllKeys bounds

  both_all : (a b : List BoundName) → AllKeys a → AllKeys b → AllKeys (a ++ b)
  both_all [] b h k = k
  both_all (x ∷ a) b h k = (h.0, both_all a b h.1 k)

  module _ (items : ItemTable) where
    mutual
      pub names_keys : (p : Node) (q : Place) → Keys q → AllKeys ((shape items p).bindings q)
      names_keys (node id at ty by form) q h = form_keys form id ty by q h

      form_keys : (form : Form) (id : ℕ) (ty : TyId) (by : Option Use) (q : Place) → Keys q →
          AllKeys ((shape_of items form (head id ty by)).bindings q)
      form_keys (tree.Binding name) id ty by q h = (h, tt)
      form_keys (tree.StructPattern fields) id ty by q h = fields_keys fields ToPart (λ n. tt) q h
      form_keys (tree.VariantPattern variant is_test fields) id ty by q h =
          fields_keys fields (ToField variant) (λ n. tt) q h
      form_keys (tree.TuplePattern parts) id ty by q h = parts_keys parts 0 q h
      form_keys (tree.ArrayPattern elements) id ty by q h = parts_keys elements 0 q h
      form_keys form id ty by q h = tt

      fields_keys : (fields : Fields) (step : ℕ → Step) → ((n : ℕ) → KeysIn (step n ∷ [])) → (q : Place) → Keys q →
          AllKeys ((in_fields items fields step).bindings q)
      fields_keys no_field step f q h = tt
      fields_keys (a_field number value rest) step f q h =
          both_all ((shape items value).bindings (extended (step number) q)) ((in_fields items rest step).bindings q)
          (names_keys value (extended (step number) q) (keys_extended (step number) q h (f number)))
          (fields_keys rest step f q h)

      parts_keys : (parts : Nodes) (k : ℕ) (q : Place) → Keys q → AllKeys ((in_parts items parts k).bindings q)
      parts_keys no_node k q h = tt
      parts_keys (a_node first rest) k q h =
          both_all ((shape items first).bindings (extended (ToPart k) q)) ((in_parts items rest (suc k)).bindings q)
          (names_keys first (extended (ToPart k) q) (keys_extended (ToPart k) q h tt)) (parts_keys rest (suc k) q h)

  -- a key stands for what one of these names takes, or for what it stood for
  pub keys_with : (names : List BoundName) (places : shapes.Aliases) (key : ℕ) → AllKeys names →
      Keys (shapes.place_of_key key places) → Keys (shapes.place_of_key key (forms.aliases_with names places))
  keys_with [] places key a h = h
  keys_with (n ∷ names) places key a h = by (key == n.key) (keys_with names places key a.1 h)
    where
      by : (b : Bool) → Keys (shapes.place_of_key key (forms.aliases_with names places)) →
          Keys (if b then n.site.place else shapes.place_of_key key (forms.aliases_with names places))
      by true later = a.0
      by false later = later

  -- ---- the place of a node

  module _ (items : ItemTable) (places : shapes.Aliases) (x : Standpoint)
      (entries : (key : ℕ) (y : InScope) → entry_with key x.entries ≡ Some y → Keys (shapes.place_of_key key places))
      (closure : (y : InScope) → x.closure ≡ Some y → Keys (shapes.place_of_key y.key places)) where
    mutual
      pub place_keys : (n : Node) (standing : Standing) → Holds (typing.typed (context items x) standing n) →
          ((m : Node) → NodeIn (nodes_of n) m → P (number_of m)) → Keys ((shape items n).place places)
      place_keys (node id at ty by form) standing h f =
          place_form form id ty by h.1 (f (node id at ty by form) (inl refl)) (λ m i. f m (inr i))

      place_form : (form : Form) (id : ℕ) (ty : TyId) (by : Option Use) →
          Holds (typing.row (context items x) id ty form) → P id →
          ((m : Node) → NodeIn (nodes_in form) m → P (number_of m)) →
          Keys ((shape_of items form (head id ty by)).place places)
      place_form (tree.Variable key) id ty by h own f =
          let t = some_holds (entry_with key x.entries) (λ (y : InScope). fact (types.is_same ty y.ty)) h in
          entries key t.0 t.1.0
      place_form (tree.Captured closure_ part name) id ty by h own f =
          let t = some_holds x.closure (λ (y : InScope). both (fact (y.key == closure_))
          (Rattle.well_typed.specs.Claim.some (field_ty items y.ty 0 part) (λ s. fact (types.is_same ty s)))) h in
          keys_extended (ToPart part) (shapes.place_of_key closure_ places)
          (subst (λ k. Keys (shapes.place_of_key k places)) ((Decides-eqb t.0.key closure_).0 t.1.1.0)
          (closure t.0 t.1.0)) tt
      place_form (tree.Field base part) id ty by h own f =
          keys_extended (ToPart part) ((shape items base).place places) (place_keys base Base h.0 f) tt
      place_form (tree.Index base index length) id ty by h own f =
          keys_extended (ToElement (number_of index)) ((shape items base).place places)
          (place_keys base Base h.0 (λ m i. f m (node_left (nodes_of base) (nodes_of index) m i)))
          (f index (node_right (nodes_of base) (nodes_of index) index (own_node index)), tt)
        where
          own_node : (m : Node) → NodeIn (nodes_of m) m
          own_node (node id at ty by form) = inl refl
      place_form (tree.Deref base) id ty by h own f =
          keys_extended ToContent ((shape items base).place places) (place_keys base Base h.0 f) tt
      place_form form id ty by h own f = (own, tt)

pub keys_in_more : (P Q : ℕ → Type 0) → ((k : ℕ) → P k → Q k) → (steps : List Step) → KeysIn P steps → KeysIn Q steps
keys_in_more P Q f [] k = tt
keys_in_more P Q f (ToElement i ∷ steps) k = (f i k.0, keys_in_more P Q f steps k.1)
keys_in_more P Q f (ToPart n ∷ steps) k = keys_in_more P Q f steps k
keys_in_more P Q f (ToField v n ∷ steps) k = keys_in_more P Q f steps k
keys_in_more P Q f (ToContent ∷ steps) k = keys_in_more P Q f steps k

pub keys_more : (P Q : ℕ → Type 0) → ((k : ℕ) → P k → Q k) → (place : Place) → Keys P place → Keys Q place
keys_more P Q f place h = (f place.local h.0, keys_in_more P Q f place.steps h.1)
