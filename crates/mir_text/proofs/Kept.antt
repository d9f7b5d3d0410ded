-- A section leaves the items of the sections behind it as they are.
use Rattle.std.proofs.Common.{◌≡◌, ℕ, List, [], ◌∷◌, ◌++◌, map, length, Some, refl, ap, sym, ◌∙◌}
use Rattle.mir_ty.specs.ItemTable.{ItemTable}
use Rattle.listing_write.specs.Compared.{trait_seen, closure_seen}
use Rattle.listing_lines.specs.ItemReading.{adt_read}
use Rattle.listing_lines.specs.LineReading.{impl_read}
use Rattle.listing_lines.specs.TraitReading.{trait_read}
use Rattle.listing_parts.specs.Table.{under}
use Rattle.listing_parts.proofs.Splits.{split, same_found}
use Rattle.mir_text.specs.SectionReading.{ItemsSeen, one_adt, one_trait, one_impl, as_long_as}
use Rattle.mir_text.specs.SectionsRead.{items_seen}
use Rattle.mir_text.proofs.Onward.{keeps}

module _ (heads : ItemTable) where
  adt_keeps : {X : Type 0} (part : ItemsSeen → X) → ((s : ItemsSeen) (xs : List _) → part (record s { adts = xs }) ≡ part s) → (s u : ItemsSeen) (t r : List ℕ) → one_adt heads s t ≡ Some (u, r) → part u ≡ part s
  adt_keeps part same s u t r h =
      let (f, found, last) = split (adt_read heads t) (λ f. Some (record s { adts = s.adts ++ f.0 ∷ [] }, f.1)) (u, r) h in
      ap part (sym (same_found (record s { adts = s.adts ++ f.0 ∷ [] }) f.1 u r last).0) ∙ same s (s.adts ++ f.0 ∷ [])

  trait_keeps : (s u : ItemsSeen) (t r : List ℕ) → one_trait heads s t ≡ Some (u, r) → u.closures ≡ s.closures
  trait_keeps s u t r h =
      let (f, found, last) = split (trait_read heads (length s.traits) t) (λ f. Some (record s { traits = s.traits ++ f.0 ∷ [] }, f.1)) (u, r) h in
      ap (λ (x : ItemsSeen). x.closures) (sym (same_found (record s { traits = s.traits ++ f.0 ∷ [] }) f.1 u r last).0)

  impl_keeps : (s u : ItemsSeen) (t r : List ℕ) → one_impl heads s t ≡ Some (u, r) → u.closures ≡ s.closures
  impl_keeps s u t r h =
      let (f, found, last) = split (impl_read heads t) (λ f. Some (record s { impls = s.impls ++ f.0 ∷ [] }, f.1)) (u, r) h in
      ap (λ (x : ItemsSeen). x.closures) (sym (same_found (record s { impls = s.impls ++ f.0 ∷ [] }) f.1 u r last).0)

  pub adts_keep_traits : (s : ItemsSeen) (t : List ℕ) → (as_long_as (one_adt heads) s t).0.traits ≡ s.traits
  adts_keep_traits s t = keeps (one_adt heads) (λ (x : ItemsSeen). x.traits) (adt_keeps (λ (x : ItemsSeen). x.traits) (λ s xs. refl)) (length t) s t

  pub adts_keep : (s : ItemsSeen) (t : List ℕ) → (as_long_as (one_adt heads) s t).0.closures ≡ s.closures
  adts_keep s t = keeps (one_adt heads) (λ (x : ItemsSeen). x.closures) (adt_keeps (λ (x : ItemsSeen). x.closures) (λ s xs. refl)) (length t) s t

  pub traits_keep : (s : ItemsSeen) (t : List ℕ) → (as_long_as (one_trait heads) s t).0.closures ≡ s.closures
  traits_keep s t = keeps (one_trait heads) (λ (x : ItemsSeen). x.closures) trait_keeps (length t) s t

  pub impls_keep : (s : ItemsSeen) (t : List ℕ) → (as_long_as (one_impl heads) s t).0.closures ≡ s.closures
  impls_keep s t = keeps (one_impl heads) (λ (x : ItemsSeen). x.closures) impl_keeps (length t) s t

-- nothing is seen of nothing alone
none_of : {X Z : Type 0} (f : X → Z) (xs : List X) → map f xs ≡ [] → xs ≡ []
none_of f [] h = refl
none_of f (x ∷ xs) h = absurd (cc h)

pub no_traits : (heads old new : ItemTable) → (items_seen heads new).traits ≡ (items_seen heads old).traits → old.traits ≡ [] → new.traits ≡ []
no_traits heads old new same none = none_of (trait_seen (under heads new)) new.traits (same ∙ ap (map (trait_seen (under heads old))) none)

pub no_closures : (heads old new : ItemTable) → (items_seen heads new).closures ≡ (items_seen heads old).closures → old.closures ≡ [] → new.closures ≡ []
no_closures heads old new same none = none_of (closure_seen (under heads new)) new.closures (same ∙ ap (map (closure_seen (under heads old))) none)
