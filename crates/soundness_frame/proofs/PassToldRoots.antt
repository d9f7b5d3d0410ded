-- The roots of the places that the names of a pattern take, and stand for in a guard: those of the place that is
-- matched.
use Rattle.std.proofs.Common.{◌≡◌, ℕ, suc, ◌==◌, Bool, true, false, List, [], ◌∷◌, ◌++◌, Option, Some, if◌then◌else◌, refl, ap, ◌∙◌, subst}
use Rattle.std.specs.Prelude.{option_map}
use Rattle.std.specs.List.{find}
use Rattle.mir_base.specs.declared.place_in_text.Pos.{Pos}
use Rattle.mir_ty.specs.declared.ty.TyId.{TyId}
use Rattle.mir_ty.specs.ItemTable.{ItemTable}
use Rattle.store_model.specs.Places.Place.{Step, ToPart, ToField, Place}
use Rattle.typed_tree.specs.declared.node.Use.{Use}
use Rattle.typed_tree.specs.Tree as tree
use Rattle.typed_tree.specs.Tree.{Node, node, Form, Nodes, no_node, a_node, Fields, no_field, a_field}
use Rattle.src_meaning.specs.Forms as forms
use Rattle.src_meaning.specs.Shape as shapes
use Rattle.src_meaning.specs.Shape.{head, shape, shape_of, in_fields, in_parts, extended, BoundName}
use Rattle.typing_rules.specs.Accesses as rules
use Rattle.typing_rules.specs.Accesses.{AccessPlace, Accessed, bound, bound_by, bound_fields, bound_parts, with_step}
use Rattle.soundness_values.proofs.NoOverlap.{SeenIf}
use Rattle.soundness_frame.proofs.PassTold as here
use Rattle.soundness_frame.proofs.PassTold.{KnownOf, StandsFor, IfRoot}
use Rattle.soundness_frame.proofs.PassToldPatterns.{accessed, same_order, part_seen, field_seen}
use Rattle.soundness_frame.proofs.PassToldPlaces.{AllPermit}

abbrev Bounds : Type 0
Bounds = List (ℕ × Accessed)

-- ---- what holds of a place that is matched, as it is seen and as it is, holds of the places of names

module _ (R : Option AccessPlace → Place → Type 0) where
  abbrev pub AllRelated : Bounds → List BoundName → Type 0
  AllRelated [] [] = Unit {0}
  AllRelated (b ∷ bounds) (n ∷ names) = ((b.0 ≡ n.key) × R b.1.place n.site.place) × AllRelated bounds names
  AllRelated bounds names = ⊥

  both_related : (a b : Bounds) (m n : List BoundName) → AllRelated a m → AllRelated b n →
      AllRelated (a ++ b) (m ++ n)
  both_related [] b [] n f g = g
  both_related [] b (x ∷ m) n f g = absurd f
  both_related (x ∷ a) b [] n f g = absurd f
  both_related (x ∷ a) b (y ∷ m) n f g = (f.0, both_related a b m n f.1 g)

  -- in a guard each name stands for such a place, or for what it stood for
  pub related_with : (bounds : Bounds) (names : List BoundName) (aliases : rules.Aliases) (places : shapes.Aliases) →
      AllRelated bounds names → (key : ℕ) →
      R (rules.place_of_key aliases key) (shapes.place_of_key key places) →
      R (rules.place_of_key (rules.aliases_with bounds aliases) key)
      (shapes.place_of_key key (forms.aliases_with names places))
  related_with [] [] aliases places a key s = s
  related_with [] (n ∷ names) aliases places a key s = absurd a
  related_with (b ∷ bounds) [] aliases places a key s = absurd a
  related_with (b ∷ bounds) (n ∷ names) aliases places a key s =
      subst (λ d. R (rules.place_of_key (rules.aliases_with (b ∷ bounds) aliases) key)
      (if d then n.site.place else shapes.place_of_key key (forms.aliases_with names places)))
      (same_order b.0 key ∙ ap (λ k. key == k) a.0.0)
      (by (b.0 == key) (related_with bounds names aliases places a.1 key s))
    where
      by : (c : Bool) →
          R (rules.place_of_key (rules.aliases_with bounds aliases) key)
          (shapes.place_of_key key (forms.aliases_with names places)) →
          R (rules.or_variable key (if c then Some (b.0, b.1.place)
          else find (λ (x : ℕ × Option AccessPlace). x.0 == key) (rules.aliases_with bounds aliases)))
          (if c then n.site.place else shapes.place_of_key key (forms.aliases_with names places))
      by true later = a.0.1
      by false later = later

  module _ (items : ItemTable)
      (part : (n : ℕ) (o : Option AccessPlace) (q : Place) → R o q →
      R (option_map (with_step (rules.ToPart n)) o) (extended (ToPart n) q))
      (field : (v n : ℕ) (o : Option AccessPlace) (q : Place) → R o q →
      R (option_map (with_step (rules.ToPart n)) o) (extended (ToField v n) q)) where
    mutual
      pub names_related : (p : Node) (o : Option AccessPlace) (q : Place) → R o q →
          AllRelated (bound o p) ((shape items p).bindings q)
      names_related (node id at ty by form) o q r = form_related form id at ty by o q r

      form_related : (form : Form) (id : ℕ) (at : Pos) (ty : TyId) (by : Option Use) (o : Option AccessPlace)
          (q : Place) → R o q → AllRelated (bound_by o id at by form)
          ((shape_of items form (head id ty by)).bindings q)
      form_related (tree.Binding name) id at ty by o q r = ((refl, r), tt)
      form_related (tree.StructPattern fields) id at ty by o q r = fields_related fields ToPart part o q r
      form_related (tree.VariantPattern variant is_test fields) id at ty by o q r =
          fields_related fields (ToField variant) (field variant) o q r
      form_related (tree.TuplePattern parts) id at ty by o q r = parts_related parts 0 o q r
      form_related (tree.ArrayPattern elements) id at ty by o q r = parts_related elements 0 o q r
      form_related form id at ty by o q r = tt

      fields_related : (fields : Fields) (step : ℕ → Step) →
          ((n : ℕ) (a : Option AccessPlace) (b : Place) → R a b →
          R (option_map (with_step (rules.ToPart n)) a) (extended (step n) b)) → (o : Option AccessPlace)
          (q : Place) → R o q → AllRelated (bound_fields o fields) ((in_fields items fields step).bindings q)
      fields_related no_field step f o q r = tt
      fields_related (a_field number value rest) step f o q r =
          both_related (bound (option_map (with_step (rules.ToPart number)) o) value) (bound_fields o rest)
          ((shape items value).bindings (extended (step number) q)) ((in_fields items rest step).bindings q)
          (names_related value (option_map (with_step (rules.ToPart number)) o) (extended (step number) q)
          (f number o q r)) (fields_related rest step f o q r)

      parts_related : (parts : Nodes) (k : ℕ) (o : Option AccessPlace) (q : Place) → R o q →
          AllRelated (bound_parts o k parts) ((in_parts items parts k).bindings q)
      parts_related no_node k o q r = tt
      parts_related (a_node first rest) k o q r =
          both_related (bound (option_map (with_step (rules.ToPart k)) o) first) (bound_parts o (suc k) rest)
          ((shape items first).bindings (extended (ToPart k) q)) ((in_parts items rest (suc k)).bindings q)
          (names_related first (option_map (with_step (rules.ToPart k)) o) (extended (ToPart k) q) (part k o q r))
          (parts_related rest (suc k) o q r)

-- ---- the root of a place

module _ (items : ItemTable) (May : Place → Type 0) (Of : KnownOf) where
  abbrev pub Rooted : Option AccessPlace → Place → Type 0
  Rooted o q = SeenIf o q × StandsFor Of.root o q

  pub names_rooted : (p : Node) (o : Option AccessPlace) (q : Place) → Rooted o q →
      AllRelated Rooted (bound o p) ((shape items p).bindings q)
  names_rooted p o q r = names_related Rooted items
      (λ n a b s. (
        part_seen items (ToPart n) n refl a b s.0,
        here.one_more items May Of a (with_step (rules.ToPart n)) (ToPart n) b s.1 tt,
      ))
      (λ v n a b s. (
        field_seen items v n a b s.0,
        here.one_more items May Of a (with_step (rules.ToPart n)) (ToField v n) b s.1 tt,
      )) p o q r

  -- what is told of names is of places with such roots
  pub names_permitted : (aliases : rules.Aliases) (bounds : Bounds) (names : List BoundName) →
      AllRelated Rooted bounds names → AllPermit items (IfRoot items May Of) aliases (accessed bounds) →
      AllPermit items May aliases (accessed bounds)
  names_permitted aliases [] names r p = tt
  names_permitted aliases (b ∷ bounds) [] r p = absurd r
  names_permitted aliases (b ∷ bounds) (n ∷ names) r p = (
    record {
      changed = λ c. here.unrooted items May Of b.1.place n.site.place r.0.1.0 r.0.1.1.0 (p.0.changed c);
      replaced = p.0.replaced;
    },
    names_permitted aliases bounds names r.1 p.1,
  )
