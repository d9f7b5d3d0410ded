-- Heads that are read again are fewer.
use Rattle.std.proofs.Common.{◌≡◌, ℕ, zero, suc, ◌+◌, ◌≤◌, ◌<◌, Bool, true, false, ◌||◌, if◌then◌else◌, nat_lt, min, List, [], ◌∷◌, length, Option, Some, None, refl, ap, sym, ◌∙◌, arith, length-append, ltb-true, inl, inr}
use Rattle.std.specs.Prelude.{◌⊎◌}
use Rattle.std.proofs.lemmas.Option.{same_Some, none-some}
use Rattle.mir_ty.specs.ItemTable.{ItemTable, no_items, with_adt, with_trait}
use Rattle.listing_write.specs.Reading.Words.{FoundInText}
use Rattle.listing_parts.proofs.Splits.{split, same_found}
use Rattle.mir_text.specs.SectionReading.{onward, on_within}
use Rattle.mir_text.proofs.Onward.{keeps}
use Rattle.mir_text.specs.GraphReading.{items_under, fewer, fewer_of, again, heads_after}
use Rattle.mir_text.specs.HeadReading.{adt_head, trait_head, adt_of, trait_of, one_adt_head, one_trait_head, heads_within}

-- no more than one with each step
at_most : {S : Type 0} (step : S → List ℕ → FoundInText S) (count : S → ℕ) → ((s u : S) (t r : List ℕ) → step s t ≡ Some (u, r) → count u ≤ count s + 1) → (k : ℕ) (s : S) (t : List ℕ)
    → count (on_within k step s t).0 ≤ count s + k
at_most step count each zero s t = omega arith
at_most step count each (suc k) s t = by (step s t) refl (at_most step count each k)
  where
    by : (o : FoundInText _) → step s t ≡ o → ((u : _) (r : List ℕ) → count (on_within k step u r).0 ≤ count u + k) → count (onward o (on_within k step) s t).0 ≤ count s + suc k
    by None e deeper = omega arith
    by (Some f) e deeper = let one = each s f.0 t f.1 e in let more = deeper f.0 f.1 in omega (arith, one, more)

pub adt_more : (s u : ItemTable) (t r : List ℕ) → one_adt_head s t ≡ Some (u, r) → (length u.adts ≡ length s.adts + 1) × (u.traits ≡ s.traits)
adt_more s u t r h =
    let (f, found, last) = split (adt_head t) (λ f. Some (with_adt s (adt_of f.0), f.1)) (u, r) h in
    let (own, behind) = same_found (with_adt s (adt_of f.0)) f.1 u r last in
    (ap (λ (x : ItemTable). length x.adts) (sym own) ∙ length-append s.adts (adt_of f.0 ∷ []), ap (λ (x : ItemTable). x.traits) (sym own))

pub trait_more : (s u : ItemTable) (t r : List ℕ) → one_trait_head s t ≡ Some (u, r) → (length u.traits ≡ length s.traits + 1) × (u.adts ≡ s.adts)
trait_more s u t r h =
    let (f, found, last) = split (trait_head t) (λ f. Some (with_trait s (trait_of f.0), f.1)) (u, r) h in
    let (own, behind) = same_found (with_trait s (trait_of f.0)) f.1 u r last in
    (ap (λ (x : ItemTable). length x.traits) (sym own) ∙ length-append s.traits (trait_of f.0 ∷ []), ap (λ (x : ItemTable). x.adts) (sym own))

module _ (adts traits : ℕ) (t : List ℕ) where
  behind : ItemTable × List ℕ
  behind = on_within adts one_adt_head no_items t

  pub no_more_adts : length (heads_within adts traits t).adts ≤ adts
  no_more_adts =
      let q : ItemTable × List ℕ = on_within adts one_adt_head no_items t in
      let kept = keeps one_trait_head (λ (x : ItemTable). x.adts) (λ s u t r h. (trait_more s u t r h).1) traits q.0 q.1 in
      let most = at_most one_adt_head (λ (x : ItemTable). length x.adts) (λ s u t r h. (let one = (adt_more s u t r h).0 in omega (arith, one))) adts no_items t in
      let same = ap length kept in
      omega (arith, same, most)

  pub no_more_traits : length (heads_within adts traits t).traits ≤ traits
  no_more_traits =
      let q : ItemTable × List ℕ = on_within adts one_adt_head no_items t in
      let kept = keeps one_adt_head (λ (x : ItemTable). x.traits) (λ s u t r h. (adt_more s u t r h).1) adts no_items t in
      let most = at_most one_trait_head (λ (x : ItemTable). length x.traits) (λ s u t r h. (let one = (trait_more s u t r h).0 in omega (arith, one))) traits q.0 q.1 in
      let same = ap length kept in
      omega (arith, same, most)

-- where not all are read, those that are read are fewer
pub are_fewer : (a most_a b most_b : ℕ) (counts : ℕ × ℕ) → fewer_of a most_a b most_b ≡ Some counts → (counts.0 + counts.1 < most_a + most_b) × (counts.0 ≡ min a most_a) × (counts.1 ≡ min b most_b)
are_fewer a most_a b most_b counts h = by (nat_lt a most_a) refl h
  where
    both : ◌≡◌ {A = Option (ℕ × ℕ)} (Some (min a most_a, min b most_b)) (Some counts) → (a < most_a) ⊎ (b < most_b) → (counts.0 + counts.1 < most_a + most_b) × (counts.0 ≡ min a most_a) × (counts.1 ≡ min b most_b)
    both e less =
        let same = same_Some (min a most_a, min b most_b) counts e in
        let one : counts.0 ≡ min a most_a = ap (λ (q : ℕ × ℕ). q.0) (sym same) in
        let two : counts.1 ≡ min b most_b = ap (λ (q : ℕ × ℕ). q.1) (sym same) in
        (smaller less one two, one, two)
      where
        smaller : (a < most_a) ⊎ (b < most_b) → counts.0 ≡ min a most_a → counts.1 ≡ min b most_b → counts.0 + counts.1 < most_a + most_b
        smaller (inl l) one two = omega (arith, l, one, two)
        smaller (inr l) one two = omega (arith, l, one, two)

    by : (v : Bool) → nat_lt a most_a ≡ v → (if v || nat_lt b most_b then Some (min a most_a, min b most_b) else None) ≡ Some counts
        → (counts.0 + counts.1 < most_a + most_b) × (counts.0 ≡ min a most_a) × (counts.1 ≡ min b most_b)
    by true e h = both h (inl (ltb-true a most_a e))
    by false e h = also (nat_lt b most_b) refl h
      where
        also : (w : Bool) → nat_lt b most_b ≡ w → (if w then Some (min a most_a, min b most_b) else None) ≡ Some counts
            → (counts.0 + counts.1 < most_a + most_b) × (counts.0 ≡ min a most_a) × (counts.1 ≡ min b most_b)
        also true f h = both h (inr (ltb-true b most_b f))
        also false f h = absurd (none-some counts h)

-- one round more
pub next_round : (n : ℕ) (t : List ℕ) (heads : ItemTable) (counts : ℕ × ℕ) → heads ≡ heads_after n t → fewer heads (items_under heads t).0 ≡ Some counts → heads_within counts.0 counts.1 t ≡ heads_after (suc n) t
next_round n t heads counts are h = sym (ap (again t (heads_after n t)) (ap (λ (x : ItemTable). fewer x (items_under x t).0) (sym are) ∙ h))

-- heads of some round
pub record AreAfter (t : List ℕ) (heads : ItemTable) : Type 0 where
  pub rounds : ℕ
  pub are : heads ≡ heads_after rounds t

pub next_heads : (t : List ℕ) (heads more : ItemTable) (counts : ℕ × ℕ) → AreAfter t heads → fewer heads (items_under heads t).0 ≡ Some counts → more ≡ heads_within counts.0 counts.1 t → AreAfter t more
next_heads t heads more counts a h are = record { rounds = suc a.rounds; are = are ∙ next_round a.rounds t heads counts a.are h }

pub are_less : (t : List ℕ) (heads more : ItemTable) (counts : ℕ × ℕ) → fewer heads (items_under heads t).0 ≡ Some counts → more ≡ heads_within counts.0 counts.1 t
    → length more.adts + length more.traits < length heads.adts + length heads.traits
are_less t heads more counts h are =
    let seen = (items_under heads t).0 in
    let (less, adts, traits) = are_fewer (length seen.adts) (length heads.adts) (length seen.traits) (length heads.traits) counts h in
    let most_adts = no_more_adts counts.0 counts.1 t in
    let most_traits = no_more_traits counts.0 counts.1 t in
    let same_adts = ap (λ (x : ItemTable). length x.adts) are in
    let same_traits = ap (λ (x : ItemTable). length x.traits) are in
    omega (arith, less, most_adts, most_traits, same_adts, same_traits)
