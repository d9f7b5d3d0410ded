-- The premises of a place of which the value is replaced, from the text: what its place is made of, and that the cell of the
-- new value is a node apart from it.
use Rattle.std.proofs.Common.{◌≡◌, ◌⊎◌, inl, inr, ℕ, ◌==◌, ◌||◌, not, Bool, true, false, List, [], ◌∷◌, map, Option, Some, None, refl, ap, sym, ◌∙◌, subst}
use Rattle.std.proofs.lemmas.Bool.{false≢true}
use Rattle.std.proofs.lemmas.Bool.Decides.{Decides-eqb}
use Rattle.mir_ty.specs.ItemTable.{ItemTable}
use Rattle.store_model.specs.Places.Place.{Step, ToPart, ToField, ToContent, ToElement, Place, whole_local}
use Rattle.typed_tree.specs.Tree.{Node, BodyTree}
use Rattle.src_meaning.specs.Locals.Effects.{step_at, place_at}
use Rattle.src_meaning.specs.Locals.OfBody.{local_of, local_keys, local_ty}
use Rattle.soundness_values.proofs.AlsoTests.{Also}
use Rattle.soundness_values.proofs.CheckedBodies.{is_reference_param}
use Rattle.soundness_values.proofs.Checks as checks
use Rattle.soundness_values.proofs.Facts.{Facts, takes_index}
use Rattle.soundness.proofs.PassKnownPlaces.{Known}
use Rattle.soundness.proofs.PassKnownStores.{has_field, Replaced}
use Rattle.soundness_cells.proofs.PassLocals.{one_key}
use Rattle.soundness.proofs.PassMovable.{Movable}
use Rattle.soundness_cells.proofs.PassNumbers.{Numbered}
use Rattle.soundness.proofs.PassPlaceMade.{Made}

pub same_fields : (local : ℕ → ℕ) (steps : List Step) → has_field (map (step_at local) steps) ≡ has_field steps
same_fields local [] = refl
same_fields local (ToPart n ∷ steps) = same_fields local steps
same_fields local (ToField v n ∷ steps) = refl
same_fields local (ToContent ∷ steps) = same_fields local steps
same_fields local (ToElement i ∷ steps) = same_fields local steps

-- an index among locals is one among numbers
index_of : (local : ℕ → ℕ) (z : ℕ) (steps : List Step) → takes_index z (map (step_at local) steps) ≡ true →
    (k : ℕ) × ((local k ≡ z) × (takes_index k steps ≡ true))
index_of local z [] h = absurd (false≢true h)
index_of local z (ToPart n ∷ steps) h = index_of local z steps h
index_of local z (ToField v n ∷ steps) h = index_of local z steps h
index_of local z (ToContent ∷ steps) h = index_of local z steps h
index_of local z (ToElement i ∷ steps) h = by (local i == z) refl h (λ k. index_of local z steps k)
  where
    more : (k : ℕ) × ((local k ≡ z) × (takes_index k steps ≡ true)) →
        (k : ℕ) × ((local k ≡ z) × ((i == k || takes_index k steps) ≡ true))
    more f = (f.0, (f.1.0, second (i == f.0) (takes_index f.0 steps) f.1.1))
      where
        second : (a b : Bool) → b ≡ true → (a || b) ≡ true
        second true b h = refl
        second false b h = h

    itself : (i == i || takes_index i steps) ≡ true
    itself = first (i == i) (takes_index i steps) ((Decides-eqb i i).1 refl)
      where
        first : (a b : Bool) → a ≡ true → (a || b) ≡ true
        first true b h = refl
        first false b h = absurd (false≢true h)

    by : (b : Bool) → (local i == z) ≡ b → (b || takes_index z (map (step_at local) steps)) ≡ true →
        (takes_index z (map (step_at local) steps) ≡ true → (k : ℕ) × ((local k ≡ z) × (takes_index k steps ≡ true))) →
        (k : ℕ) × ((local k ≡ z) × ((i == k || takes_index k steps) ≡ true))
    by true e h later = (i, ((Decides-eqb (local i) z).0 e, itself))
    by false e h later = more (later h)

module _ (items : ItemTable) (body : BodyTree) (also : Also) where
  abbrev L : ℕ → ℕ
  L = local_of items body

  one : (a b : ℕ) → L a ≡ L b → a ≡ b
  one a b e = one_key (local_keys items body) a b e

  -- a cell that is no index of a place is none among locals
  pub no_index_at : (key : ℕ) (place : Place) → (takes_index key place.steps ≡ true → ⊥) →
      takes_index (L key) (place_at L place).steps ≡ false
  no_index_at key place n = by (takes_index (L key) (place_at L place).steps) refl
    where
      by : (b : Bool) → takes_index (L key) (place_at L place).steps ≡ b → b ≡ false
      by false h = refl
      by true h = let k = index_of L (L key) place.steps h in
          absurd (n (subst (λ z. takes_index z place.steps ≡ true) (one k.0 key k.1.0) k.1.1))

  pub other_local : (a b : ℕ) → (a ≡ b → ⊥) → (L a == L b) ≡ false
  other_local a b n = by (L a == L b) refl
    where
      by : (c : Bool) → (L a == L b) ≡ c → c ≡ false
      by false e = refl
      by true e = absurd (n (one a b ((Decides-eqb (L a) (L b)).0 e)))

  -- the value stands in the cell of a node that is neither the name at the root nor a node of the place
  pub replaced_by : (facts : Facts) (place : Place) (key : ℕ) (ns : List Node) (root : Option ℕ) → Made ns root place →
      (root ≡ Some key → ⊥) → (Numbered ns key → ⊥) → Known items body facts place →
      checks.may_change items (local_ty items body) (is_reference_param items body) (place_at L place) ≡ true →
      Movable items body (whole_local key) → Replaced items body also facts place key
  replaced_by facts place key ns root m unnamed unnumbered known changeable value = record {
    known = known;
    changeable = changeable;
    fieldless = same_fields L place.steps ∙ m.fieldless;
    rooted = no_index_at place.local place (λ h. false≢true (sym m.unmet ∙ h));
    other = other_local key place.local (λ same. at_root same m.rooted);
    unindexed = no_index_at key place (λ h. unnumbered (m.indices key h));
    value = value;
  }
    where
      at_root : key ≡ place.local → (root ≡ Some place.local) ⊎ Numbered ns place.local → ⊥
      at_root same (inl named) = unnamed (named ∙ ap Some (sym same))
      at_root same (inr h) = unnumbered (subst (Numbered ns) (sym same) h)
