-- What the pass knows of the place of a scrutinee at its arms: the rule of borrows sees it, it has a name at its root
-- where it is seen, and its keys are neither nodes behind nor cells around.
use Rattle.std.proofs.Common.{◌≡◌, ◌⊎◌, inl, inr, ℕ, ◌<◌, ◌==◌, ◌||◌, Bool, true, false, List, [], ◌∷◌, ◌++◌, Option, Some, refl, sym, ◌∙◌, subst, arith}
use Rattle.std.proofs.lemmas.Bool.{false≢true}
use Rattle.std.proofs.lemmas.Bool.Decides.{Decides-eqb}
use Rattle.mir_ty.specs.declared.ty.TyId.{TyId}
use Rattle.mir_ty.specs.ItemTable.{ItemTable}
use Rattle.store_model.specs.Places.Place.{Step, ToPart, ToContent, ToElement, Place}
use Rattle.typed_tree.specs.declared.node.Use.{Use}
use Rattle.typed_tree.specs.Nodes.{number_of, nodes_of, nodes_in}
use Rattle.typed_tree.specs.Tree as tree
use Rattle.typed_tree.specs.Tree.{Node, node, Form, BodyTree}
use Rattle.src_meaning.specs.Shape.{shape, shape_of, head, place_of_key, extended}
use Rattle.typing_rules.specs.Accesses.{AccessPlace, place_of}
use Rattle.well_typed.specs.Claim.{Holds}
use Rattle.well_typed.specs.Nodes as typing
use Rattle.well_typed.specs.Places.{InScope, Standing, Base, is_place}
use Rattle.soundness_values.proofs.Facts.{takes_index}
use Rattle.soundness_values.proofs.NoOverlap.{SeenIf, node_seen}
use Rattle.soundness.proofs.PassAloneKeys.{below_later}
use Rattle.soundness_cells.proofs.PassCells.{Above, above_in, node_left}
use Rattle.soundness_cells.proofs.PassCellPatterns.{Told}
use Rattle.soundness_cells.proofs.PassCellPlaces as places
use Rattle.soundness_cells.proofs.PassFacts.{Standpoint, context, beside}
use Rattle.soundness_frame.proofs.PassFrameBodies.{any_place}
use Rattle.soundness_frame.proofs.PassKeys.{Keys, keys_more, place_keys}
use Rattle.soundness.proofs.PassMovable.{is_index}
use Rattle.soundness.proofs.PassKnownTests.{no_way}
use Rattle.soundness_cells.proofs.PassNumbers.{Numbered}
use Rattle.soundness.proofs.PassProtectEnds.{numbered_in}
use Rattle.soundness.proofs.PassPlaceMade.{last_index}
use Rattle.soundness.proofs.PassPlacesScope as scope
use Rattle.soundness.proofs.PassPlacesScope.{Stood, Of, Bindings, Unmet}
use Rattle.soundness_frame.proofs.PassTold.{StandsFor, place_stands}
use Rattle.soundness_frame.proofs.PassToldPlaces.{above_left, above_right, is_alias}
use Rattle.soundness_frame.proofs.PassWithin.{is_among}

module _ (items : ItemTable) (body : BodyTree) (bs : Bindings items body) where
  pub record Looked (x : Standpoint) (ns : List Node) (sc : Option AccessPlace) (place : Place) : Type 0 where
    pub seen : SeenIf sc place
    pub stands : StandsFor (Of items body).root sc place
    pub below : Keys (λ k. Above k ns) place
    pub off : (d : ℕ) → is_among d x.outside ≡ true → Keys (λ k. k ≡ d → ⊥) place
    pub unmet : Unmet place

  pub looked_left : (x : Standpoint) (a b : List Node) (sc : Option AccessPlace) (place : Place) →
      Looked x (a ++ b) sc place → Looked x a sc place
  looked_left x a b sc place l = record {
    seen = l.seen;
    stands = l.stands;
    below = keys_more (λ k. Above k (a ++ b)) (λ k. Above k a) (λ k. above_left k a b) place l.below;
    off = l.off;
    unmet = l.unmet;
  }

  pub looked_right : (x : Standpoint) (a b : List Node) (sc : Option AccessPlace) (place : Place) →
      Looked x (a ++ b) sc place → Looked x b sc place
  looked_right x a b sc place l = record {
    seen = l.seen;
    stands = l.stands;
    below = keys_more (λ k. Above k (a ++ b)) (λ k. Above k b) (λ k. above_right k a b) place l.below;
    off = l.off;
    unmet = l.unmet;
  }

  pub looked_beside : (x : Standpoint) (n : Node) (ns : List Node) (sc : Option AccessPlace) (place : Place) →
      Looked x (n ∷ ns) sc place → Looked (beside (number_of n) x) ns sc place
  looked_beside x n ns sc place l = record {
    seen = l.seen;
    stands = l.stands;
    below = keys_more (λ k. Above k (n ∷ ns)) (λ k. Above k ns) (λ k a. a.1) place l.below;
    off = λ d i. by d (d == number_of n) refl i;
    unmet = l.unmet;
  }
    where
      by : (d : ℕ) (b : Bool) → (d == number_of n) ≡ b → (b || is_among d x.outside) ≡ true → Keys (λ k. k ≡ d → ⊥)
          place
      by d true e i = keys_more (λ k. Above k (n ∷ ns)) (λ k. k ≡ d → ⊥) (λ k a f.
          let less : k < number_of n = a.0 in let same : k ≡ d = f in
          let own : d ≡ number_of n = (Decides-eqb d (number_of n)).0 e in omega (less, same, own, arith)) place l.below
      by d false e i = l.off d i

  -- ---- the place of a node

  unmet_further : (place : Place) (step : Step) → is_index step ≡ false → Unmet place → Unmet (extended step place)
  unmet_further place step e u = no_way place.local place.steps step u e

  -- the own local of a place has a number below that of an index
  unmet_element : (place : Place) (index : Node) → Keys (λ k. Above k (nodes_of index)) place → Unmet place →
      Unmet (extended (ToElement (number_of index)) place)
  unmet_element place index keys u = by (takes_index place.local (place.steps ++ ToElement (number_of index) ∷ [])) refl
    where
      less : (n : Node) → Above place.local (nodes_of n) → place.local < number_of n
      less (node id at ty by form) a = a.0

      never : (takes_index place.local place.steps ≡ true) ⊎ (number_of index ≡ place.local) → ⊥
      never (inl h) = false≢true (sym u ∙ h)
      never (inr same) =
          let low : place.local < number_of index = less index keys.0 in
          let equal : number_of index ≡ place.local = same in omega (low, equal, arith)

      by : (b : Bool) → takes_index place.local (place.steps ++ ToElement (number_of index) ∷ []) ≡ b → b ≡ false
      by false h = refl
      by true h = absurd (never (last_index place.local (number_of index) place.steps h))

  mutual
    pub unmet_place : (told : Told items) (fuel : ℕ) (n : Node) (x : Standpoint) (standing : Standing) →
        Holds (typing.typed (context items x) standing n) → Stood items body bs x (nodes_of n) →
        Unmet ((shape items n).place bs.aliases)
    unmet_place told fuel (node id at ty by form) x standing h s = of_kind (is_place form) refl
        (λ p. unmet_form told fuel form x id ty by h.1 p
        (scope.stood_in items body bs x (node id at ty by form) (nodes_in form) s))
      where
        of_kind : (b : Bool) → is_place form ≡ b →
            (is_place form ≡ true → Unmet ((shape_of items form (head id ty by)).place bs.aliases)) →
            Unmet ((shape_of items form (head id ty by)).place bs.aliases)
        of_kind true p later = later p
        of_kind false p later = subst Unmet
            (sym (places.value_place items body told fuel form (head id ty by) bs.aliases p)) refl

    unmet_form : (told : Told items) (fuel : ℕ) (form : Form) (x : Standpoint) (id : ℕ) (ty : TyId) (by : Option Use) →
        Holds (typing.row (context items x) id ty form) → is_place form ≡ true →
        Stood items body bs x (nodes_in form) →
        Unmet ((shape_of items form (head id ty by)).place bs.aliases)
    unmet_form told fuel (tree.Variable key) x id ty by h p s = bs.unmet key
    unmet_form told fuel (tree.Captured closure part name) x id ty by h p s =
        unmet_further (place_of_key closure bs.aliases) (ToPart part) refl (bs.unmet closure)
    unmet_form told fuel (tree.Field base part) x id ty by h p s =
        unmet_further ((shape items base).place bs.aliases) (ToPart part) refl
        (unmet_place told fuel base x Base h.0 s)
    unmet_form told fuel (tree.Index base index count) x id ty by h p s =
        unmet_element ((shape items base).place bs.aliases) index
        (below_later items any_place (Of items body) bs.outer bs.aliases x (nodes_of base) (nodes_of index) s.here base
        Base h.0 (λ m i. i))
        (unmet_place told fuel base x Base h.0
        (scope.stood_left items body bs x (nodes_of base) (nodes_of index) s))
    unmet_form told fuel (tree.Deref base) x id ty by h p s =
        unmet_further ((shape items base).place bs.aliases) ToContent refl (unmet_place told fuel base x Base h.0 s)
    unmet_form told fuel form x id ty by h p s = absurd (false≢true p)

  -- none of its keys is one of some nodes, where its own nodes and names in scope are none of these
  pub place_apart : (n : Node) (x : Standpoint) (standing : Standing) →
      Holds (typing.typed (context items x) standing n) → (all : List Node) → Stood items body bs x all →
      (ns : List Node) → ((key : ℕ) → Numbered ns key → Numbered all key) →
      ((key : ℕ) → Numbered (nodes_of n) key → Numbered ns key → ⊥) →
      Keys (λ k. Numbered ns k → ⊥) ((shape items n).place bs.aliases)
  place_apart n x standing h all s ns f apart = place_keys (λ k. Numbered ns k → ⊥) items bs.aliases x
      (λ key y e. keys_more (λ k. Above k all) (λ k. Numbered ns k → ⊥) off (place_of_key key bs.aliases)
      (s.here.low key y e))
      (λ y e. closure y e (is_alias bs.outer y.key) refl) n standing h
      (λ m i. apart (number_of m) (numbered_in (nodes_of n) m i))
    where
      off : (k : ℕ) → Above k all → Numbered ns k → ⊥
      off k a i = scope.not_behind items body bs k all a (f k i)

      closure : (y : InScope) → x.closure ≡ Some y → (c : Bool) → is_alias bs.outer y.key ≡ c →
          Keys (λ k. Numbered ns k → ⊥) (place_of_key y.key bs.aliases)
      closure y e true a = absurd (s.here.sees.closure y e a)
      closure y e false a = subst (Keys (λ k. Numbered ns k → ⊥)) (sym (s.here.sees.plain y.key a))
          (off y.key (s.here.outer y e), tt)

  -- of the place of a node, before those behind it
  pub looked_so : (told : Told items) (fuel : ℕ) (n : Node) (x : Standpoint) (standing : Standing) →
      Holds (typing.typed (context items x) standing n) →
      (ns : List Node) → Stood items body bs x (nodes_of n ++ ns) →
      Looked x ns (place_of bs.outer n) ((shape items n).place bs.aliases)
  looked_so told fuel n x standing h ns g = record {
    seen = node_seen items bs.outer bs.aliases g.here.sees.seen n;
    stands = place_stands items any_place (Of items body) n standing bs.outer bs.aliases x
        (scope.stood_left items body bs x (nodes_of n) ns g).here h;
    below = below_later items any_place (Of items body) bs.outer bs.aliases x (nodes_of n) ns g.here n standing h
        (λ m i. i);
    off = λ d i. place_keys (λ k. k ≡ d → ⊥) items bs.aliases x (g.here.away d i).names
        (λ y e. closure d y (is_alias bs.outer y.key) refl e ((g.here.away d i).self y e)) n standing h
        (λ m j e. let less : d < number_of m = above_in d (nodes_of n ++ ns) m (g.here.under d i)
        (node_left (nodes_of n) ns m j) in
        let same : number_of m ≡ d = e in omega (less, same, arith));
    unmet = unmet_place told fuel n x standing h (scope.stood_left items body bs x (nodes_of n) ns g);
  }
    where
      closure : (d : ℕ) (y : InScope) (c : Bool) → is_alias bs.outer y.key ≡ c → x.closure ≡ Some y →
          (y.key ≡ d → ⊥) → Keys (λ k. k ≡ d → ⊥) (place_of_key y.key bs.aliases)
      closure d y true a e f = absurd (g.here.sees.closure y e a)
      closure d y false a e f = subst (Keys (λ k. k ≡ d → ⊥)) (sym (g.here.sees.plain y.key a)) (f, tt)
