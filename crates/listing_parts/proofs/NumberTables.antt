-- The numbers of names, put into a table from the last to the first.
use Rattle.std.proofs.Common.{◌≡◌, ℕ, suc, ◌+◌, Bool, true, false, if◌then◌else◌, List, ◌∷◌, map, drop, Some, slice_get, refl, ap, sym, ◌∙◌, arith}
use Rattle.std.specs.HashMap as hash
use Rattle.std.specs.HashMap.{HashMap}
use Rattle.std.specs.Map.{lookup, IsKeyTest, AreApart, KeepsOthers}
use Rattle.std.specs.Cmp.Lexicographic.{pointwise, bytes_decides, nat_list_eq_equiv}
use Rattle.std.specs.Prelude.{nat_eq}
use Rattle.std.specs.Option.{option_map_or}
use Rattle.std.specs.declared.vec.Vec.{Vec}
use Rattle.std.proofs.lemmas.List.{drop_more}
use Rattle.cfg_graph.specs.WellFormed.NameFaults.{same_name}
use Rattle.listing_write.specs.Reading.Words.{place_in}
use Rattle.listing_write.proofs.Counting.{stands}
use Rattle.listing_parts.specs.Numbers.{noted, number_in}

others : {K X : Type 0} (eq : K → K → Bool) (test : K → Bool) (old new : List (K × X)) → KeepsOthers eq test old new →
    (other : K → Bool) → IsKeyTest eq other → AreApart test other → lookup other new ≡ lookup other old
unfolding KeepsOthers
others eq test old new h = h

apart : (a b c : List ℕ) → same_name a b ≡ false → same_name a c ≡ true → same_name b c ≡ false
apart a b c other same = nat_list_eq_equiv.symm b c ∙ sym (nat_list_eq_equiv.congr a c b same) ∙ other

-- a name that was put in has its number, and each other name what it had
pub put_in : {Y S : Type 0} (key : Vec ℕ Y) (old new : HashMap (Vec ℕ Y) ℕ S) (n : ℕ) (name : List ℕ) →
    hash.Updates (λ a b. pointwise nat_eq a.items b.items) old new key (Some n) → key.items ≡ name → (q : List ℕ) →
    noted new q ≡ (if same_name q name then Some n else noted old q)
put_in key old new n name h is q = by (same_name key.items q) refl
  where
    turned : same_name q name ≡ same_name key.items q
    turned = ap (same_name q) (sym is) ∙ nat_list_eq_equiv.symm q key.items

    by : (b : Bool) → same_name key.items q ≡ b → noted new q ≡ (if same_name q name then Some n else noted old q)
    by true e =
        ap (noted new) (sym ((bytes_decides key.items q).0 e)) ∙ h.1
        ∙ sym (ap (λ b. if b then Some n else noted old q) (turned ∙ e))
    by false e =
        others _ (λ k. same_name key.items k.items) old.entries new.entries h.3 (λ k. same_name q k.items)
        (λ x y. nat_list_eq_equiv.congr q x.items y.items) (λ k. apart key.items q k.items e)
        ∙ sym (ap (λ b. if b then Some n else noted old q) (turned ∙ e))

module _ {X : Type 0} (name_of : X → List ℕ) (xs : List X) where
  -- where a name stands, from a number on
  abbrev pub from : ℕ → List ℕ → ℕ
  from n name = n + place_in (map name_of (drop n xs)) name

  split : (n : ℕ) (x : X) → Some x ≡ slice_get xs n → drop n xs ≡ x ∷ drop (n + 1) xs
  split n x found =
      let (within, read) = stands xs n x found in
      drop_more xs n x within ∙ ap (λ (y : X). y ∷ drop (n + 1) xs) (sym read)

  module _ {Y S : Type 0} (count : ℕ) where
    pub one_earlier : (old new : HashMap (Vec ℕ Y) ℕ S) (k n : ℕ) (x : X) (name : List ℕ) → k + 1 ≡ n →
        Some x ≡ slice_get xs k → name ≡ name_of x →
        ((q : List ℕ) → noted new q ≡ (if same_name q name then Some k else noted old q)) →
        ((q : List ℕ) → number_in old count q ≡ from n q) → (q : List ℕ) → number_in new count q ≡ from k q
    one_earlier old new k n x name next found is put before q =
        ap (λ o. option_map_or (λ n. n) o count) (put q ∙ ap (λ word. if same_name q word then Some k else noted old q) is)
        ∙ by (same_name q (name_of x)) (before q)
        ∙ sym (ap (λ (ys : List X). k + place_in (map name_of ys) q) (split k x found))
      where
        more : (p : ℕ) → n + p ≡ k + suc p
        more p = omega (arith, next)

        by : (b : Bool) → number_in old count q ≡ from n q →
            option_map_or (λ n. n) (if b then Some k else noted old q) count
            ≡ k + (if b then 0 else suc (place_in (map name_of (drop (k + 1) xs)) q))
        by true h = omega arith
        by false h =
            h ∙ more (place_in (map name_of (drop n xs)) q)
            ∙ ap (λ m. k + suc (place_in (map name_of (drop m xs)) q)) (sym next)
