-- The paths that a use of a place concerns, by the last path along the place.
use Rattle.std.proofs.Common.{◌≡◌, ◌≢◌, ◌⊎◌, inl, inr, ℕ, zero, suc, ◌+◌, ◌<◌, ◌≤◌, Bool, true, false, not, ◌&&◌, ◌||◌, nat_lt, List, [], ◌∷◌, flat_map, take, length, Option, Some, None, slice_get, Contains, refl, sym, ap, subst, ◌∙◌, arith}
use Rattle.std.specs.Prelude.{◌==◌}
use Rattle.std.specs.List.{list_any}
use Rattle.std.specs.Option.{is_some, MatchOption}
use Rattle.std.specs.Cmp.{first_so, second_so}
use Rattle.std.specs.Cmp.Derive.{both_true}
use Rattle.std.proofs.lemmas.Bool.{false≢true, cases_eq, cases_lt, eqb-true, eq-eqb, ne_eqb}
use Rattle.std.proofs.lemmas.Option.{get_or_from_slice_get, slice_get-get_or, slice_get_within}
use Rattle.mir_ty.specs.ItemTable.{ItemTable}
use Rattle.mir_ty.proofs.ListLemmas.{Contains-slice_get}
use Rattle.store_model.specs.Places.Place.{Place, Step, ToPart, ToField, ToContent, ToElement, before_element, whole_local}
use Rattle.cfg_graph.specs.declared.place.Place.{Place as GraphPlace}
use Rattle.cfg_graph.specs.declared.graph.Body.{Body}
use Rattle.cfg_graph.specs.Places.{named}
use Rattle.cfg_graph.specs.Uses.{PlaceUse, Copies, Moves, Borrows, Touches, Tests, Stores, Drops, Frees}
use Rattle.cfg_graph.specs.Moves.Gone.{are_first, is_at_or_above, has_index, counts, leaves_gone}
use Rattle.init_flow.specs.Carried.{Bits}
use Rattle.move_paths.specs.Trie.{Reaches, upto}
use Rattle.move_paths.specs.declared.trie.Near.{Near}
use Rattle.move_paths.specs.Forest.{PathForest, IsForest, IsRoot, IsStepBelow, is_local, is_above_change}
use Rattle.move_paths.specs.Uses.{block_uses}
use Rattle.move_paths.specs.Watch.{goes_through_reference}
use Rattle.move_paths.proofs.Above.{above-refl, upto-all}
use Rattle.move_paths.proofs.Finding.{reached-none}
use Rattle.move_paths.proofs.Growth.{same_places}
use Rattle.move_paths.proofs.Naming.{either, left-or, right-or}
use Rattle.move_paths.proofs.Watched.{whole-is}
use Rattle.init_flow.specs.Concerns.{array_of, in_array, concerns_read, concerns_test, concerns_store}
use Rattle.init_flow.proofs.Marking.{transitive, same_true, above-step, above-root, not-above-up}
use Rattle.init_flow.proofs.Telling.{local-same, steps-first, above-upto, upto-above, upto-upto}
use Rattle.init_flow.proofs.Following.{counted}
use Rattle.move_errors.specs.Rows.{some_on, above, place_at, depth_from, is_depth, by_depth, OnlyAbove, Asks, concerns}
use Rattle.move_errors.proofs.OnRows.{some-same, some-or, some-if, some-none}

not_true : (b : Bool) → (b ≡ true → ⊥) → b ≡ false
not_true true h = absurd (h refl)
not_true false h = refl

-- Where a place has an index.

abbrev Depth : ℕ → List Step → Type 0
Depth n steps =
    ((has_index steps ≡ false) × (depth_from n steps ≡ None))
    ⊎ ((has_index steps ≡ true) × (depth_from n steps ≡ Some (n + length (before_element steps))))

depth : (n : ℕ) (steps : List Step) → Depth n steps
depth n [] = inl (refl, refl)
depth n (ToPart part ∷ steps) = elim (depth (n + 1) steps) [
  | inl none ↦ inl none
  | inr some ↦ inr (some.0, some.1 ∙ ap Some (let e : n + 1 + length (before_element steps) ≡ n + suc (length (before_element steps)) = omega arith in e))
]
depth n (ToField variant part ∷ steps) = elim (depth (n + 1) steps) [
  | inl none ↦ inl none
  | inr some ↦ inr (some.0, some.1 ∙ ap Some (let e : n + 1 + length (before_element steps) ≡ n + suc (length (before_element steps)) = omega arith in e))
]
depth n (ToContent ∷ steps) = elim (depth (n + 1) steps) [
  | inl none ↦ inl none
  | inr some ↦ inr (some.0, some.1 ∙ ap Some (let e : n + 1 + length (before_element steps) ≡ n + suc (length (before_element steps)) = omega arith in e))
]
depth n (ToElement local ∷ steps) = inr (refl, ap Some (let e : n ≡ n + 0 = omega arith in e))

before-take : (steps : List Step) → before_element steps ≡ take (length (before_element steps)) steps
before-take [] = refl
before-take (ToPart part ∷ steps) = ap (λ z. ToPart part ∷ z) (before-take steps)
before-take (ToField variant part ∷ steps) = ap (λ z. ToField variant part ∷ z) (before-take steps)
before-take (ToContent ∷ steps) = ap (λ z. ToContent ∷ z) (before-take steps)
before-take (ToElement local ∷ steps) = refl

before-short : (steps : List Step) → length (before_element steps) ≤ length steps
before-short [] = omega arith
before-short (ToPart part ∷ steps) = let k = before-short steps in omega (k, arith)
before-short (ToField variant part ∷ steps) = let k = before-short steps in omega (k, arith)
before-short (ToContent ∷ steps) = let k = before-short steps in omega (k, arith)
before-short (ToElement local ∷ steps) = omega arith

index-in : (steps : List Step) (d : ℕ) → has_index steps ≡ true → length (before_element steps) < d → has_index (take d steps) ≡ true
index-in [] d h less = absurd (false≢true h)
index-in (ToPart part ∷ steps) zero h less = absurd (omega (less, arith))
index-in (ToPart part ∷ steps) (suc d) h less = index-in steps d h (omega (less, arith))
index-in (ToField variant part ∷ steps) zero h less = absurd (omega (less, arith))
index-in (ToField variant part ∷ steps) (suc d) h less = index-in steps d h (omega (less, arith))
index-in (ToContent ∷ steps) zero h less = absurd (omega (less, arith))
index-in (ToContent ∷ steps) (suc d) h less = index-in steps d h (omega (less, arith))
index-in (ToElement local ∷ steps) zero h less = absurd (omega (less, arith))
index-in (ToElement local ∷ steps) (suc d) h less = refl

-- What is above a path is a path.

local-first : (zs qs : List Step) → are_first zs qs ≡ true → is_local qs ≡ true → is_local zs ≡ true
local-first [] qs h k = refl
local-first (z ∷ zs) [] h k = absurd (false≢true h)
local-first (z ∷ zs) (q ∷ qs) h k = absurd (false≢true k)

any-more : {X : Type 0} (f g : X → Bool) (xs : List X) → ((x : X) → f x ≡ true → g x ≡ true) → list_any f xs ≡ true → list_any g xs ≡ true
any-more f g [] more h = h
any-more f g (x ∷ xs) more h = elim (either (f x) (list_any f xs) h) [
  | inl here ↦ left-or (g x) (list_any g xs) (more x here)
  | inr later ↦ right-or (g x) (list_any g xs) (any-more f g xs more later)
]

module _ (items : ItemTable) (body : Body) (forest : PathForest) (is : IsForest items body forest) where
  abbrev paths : List Place
  paths = forest.paths

  abbrev change : Place → PlaceUse × GraphPlace → Bool
  change q made = is_above_change items body q made

  closed : (q z : Place) → Contains paths q → is_at_or_above z q ≡ true → Contains paths z
  closed q z has up =
      let path = (is.each q).0 has in
      let here = first_so (nat_lt q.local (length body.locals)) (is_local q.steps || list_any (change q) (flat_map block_uses body.blocks)) path in
      let some = second_so (nat_lt q.local (length body.locals)) (is_local q.steps || list_any (change q) (flat_map block_uses body.blocks)) path in
      (is.each z).1 (both_true (ap (λ (n : ℕ). nat_lt n (length body.locals)) (local-same z q up) ∙ here)
      (elim (either (is_local q.steps) (list_any (change q) (flat_map block_uses body.blocks)) some) [
        | inl local ↦ left-or (is_local z.steps) (list_any (change z) (flat_map block_uses body.blocks)) (local-first z.steps q.steps (steps-first z q up) local)
        | inr used ↦ right-or (is_local z.steps) (list_any (change z) (flat_map block_uses body.blocks))
            (any-more (change q) (change z) (flat_map block_uses body.blocks) (λ made h.
            both_true (first_so (is_some (leaves_gone made.0) && counts items body (named made.1)) (is_at_or_above q (named made.1)) h)
            (transitive z q (named made.1) up (second_so (is_some (leaves_gone made.0) && counts items body (named made.1)) (is_at_or_above q (named made.1)) h))) used)
      ]))

  no-index : (q : Place) → Contains paths q → has_index q.steps ≡ false
  no-index q has =
      let whole : (not (has_index q.steps) && not (goes_through_reference items (slice_get body.locals q.local) q.steps)) ≡ true =
      sym (whole-is items (slice_get body.locals q.local) q.steps) ∙ counted items body forest is q has in
      by (has_index q.steps) (first_so (not (has_index q.steps)) (not (goes_through_reference items (slice_get body.locals q.local) q.steps)) whole)
    where
      by : (b : Bool) → not b ≡ true → b ≡ false
      by true h = absurd (false≢true h)
      by false h = refl

  place-in : (i : ℕ) → i < length paths → Contains paths (place_at paths i)
  place-in i within = Contains-slice_get paths i (place_at paths i) (slice_get-get_or paths i (whole_local 0) within)

  module _ (x : Place) (near : Near) (reaches : Reaches paths x near) where
    abbrev p : Place
    p = upto near.depth x

    at-p : place_at paths near.path ≡ p
    at-p = get_or_from_slice_get paths near.path p (whole_local 0) reaches.at

    within-p : near.path < length paths
    within-p = slice_get_within paths near.path p reaches.at

    exact-p : near.depth ≡ length x.steps → p ≡ x
    exact-p e = upto-all near.depth x (omega (e, arith))

    above-near : (q : Place) → Contains paths q → is_at_or_above q x ≡ is_at_or_above q p
    above-near q has = same_true (is_at_or_above q x) (is_at_or_above q p) forth (λ h. transitive q p x h (upto-above near.depth x))
      where
        forth : is_at_or_above q x ≡ true → is_at_or_above q p ≡ true
        forth h =
            let it = above-upto q x h in
            elim (cases_lt near.depth (length q.steps)) [
              | inl further ↦ absurd (reaches.last (length q.steps) further it.1 (subst (Contains paths) it.0 has))
              | inr fits ↦ ap (λ (z : Place). is_at_or_above z p) it.0 ∙ upto-upto (length q.steps) near.depth x fits
            ]

    below-near : (q : Place) → Contains paths q → is_at_or_above x q ≡ ((near.depth == length x.steps) && is_at_or_above p q)
    below-near q has = elim (cases_eq near.depth (length x.steps)) [
      | inl same ↦ sym (ap (λ (b : Bool). b && is_at_or_above p q) (eq-eqb near.depth (length x.steps) same) ∙ ap (λ (z : Place). is_at_or_above z q) (exact-p same))
      | inr other ↦ not_true (is_at_or_above x q) (λ h. reached-none paths x near reaches other (closed q x has h))
          ∙ sym (ap (λ (b : Bool). b && is_at_or_above p q) (ne_eqb near.depth (length x.steps) other))
    ]

    array-near : (q : Place) → Contains paths q → in_array q x ≡ (is_depth (depth_from 0 x.steps) near.depth && is_at_or_above p q)
    array-near q has = elim (depth 0 x.steps) [
      | inl none ↦ ap (λ (b : Bool). b && is_at_or_above (array_of x) q) none.0 ∙ sym (ap (λ (z : Option ℕ). is_depth z near.depth && is_at_or_above p q) none.1)
      | inr some ↦ by some.0 (some.1 ∙ ap Some (let e : 0 + length (before_element x.steps) ≡ length (before_element x.steps) = omega arith in e))
    ]
      where
        far : ℕ
        far = length (before_element x.steps)

        array-is : array_of x ≡ upto far x
        array-is = same_places (array_of x) (upto far x) refl (before-take x.steps)

        by : has_index x.steps ≡ true → depth_from 0 x.steps ≡ Some far → in_array q x ≡ (is_depth (depth_from 0 x.steps) near.depth && is_at_or_above p q)
        by index at = ap (λ (b : Bool). b && is_at_or_above (array_of x) q) index ∙ cases ∙ sym (ap (λ (z : Option ℕ). is_depth z near.depth && is_at_or_above p q) at)
          where
            cases : is_at_or_above (array_of x) q ≡ ((far == near.depth) && is_at_or_above p q)
            cases = elim (cases_eq far near.depth) [
              | inl same ↦ ap (λ (z : Place). is_at_or_above z q) (array-is ∙ ap (λ (d : ℕ). upto d x) same) ∙ sym (ap (λ (b : Bool). b && is_at_or_above p q) (eq-eqb far near.depth same))
              | inr other ↦ not_true (is_at_or_above (array_of x) q) (λ h. none-there other (subst (Contains paths) array-is (closed q (array_of x) has h)))
                  ∙ sym (ap (λ (b : Bool). b && is_at_or_above p q) (ne_eqb far near.depth other))
            ]
              where
                none-there : far ≢ near.depth → Contains paths (upto far x) → ⊥
                none-there other there = elim (cases_lt near.depth far) [
                  | inl further ↦ reaches.last far further (before-short x.steps) there
                  | inr fits ↦ (let past : far < near.depth = omega (other, fits, arith) in
                      false≢true (sym (no-index p (Contains-slice_get paths near.path p reaches.at)) ∙ index-in x.steps near.depth index past))
                ]

    -- what the code asks for, for each kind of use
    abbrev exact : Bool
    exact = near.depth == length x.steps

    abbrev array : Bool
    array = is_depth (depth_from 0 x.steps) near.depth

    abbrev at : Place
    at = place_at paths near.path

    pub read-told : (row : Bits) → (some_on (above paths (Some near.path)) paths row || ((exact && some_on (is_at_or_above at) paths row) || (array && some_on (is_at_or_above at) paths row)))
        ≡ some_on (λ q. concerns_read q x) paths row
    read-told row =
        ap (λ (z : Bool). some_on (above paths (Some near.path)) paths row || z)
        ((λ i. sym (some-if exact (is_at_or_above at) paths row) i || sym (some-if array (is_at_or_above at) paths row) i)
        ∙ sym (some-or (λ q. exact && is_at_or_above at q) (λ q. array && is_at_or_above at q) paths row))
        ∙ sym (some-or (above paths (Some near.path)) (λ q. (exact && is_at_or_above at q) || (array && is_at_or_above at q)) paths row)
        ∙ some-same _ _ paths row (λ i within on. one (place_at paths i) (place-in i within))
      where
        one : (q : Place) → Contains paths q → (is_at_or_above q at || ((exact && is_at_or_above at q) || (array && is_at_or_above at q))) ≡ concerns_read q x
        one q has =
            ap (λ (z : Place). is_at_or_above q z || ((exact && is_at_or_above z q) || (array && is_at_or_above z q))) at-p
            ∙ (λ i. sym (above-near q has) i || (sym (below-near q has) i || sym (array-near q has) i))

    pub test-told : (row : Bits) → (some_on (above paths (Some near.path)) paths row || (array && some_on (is_at_or_above at) paths row)) ≡ some_on (λ q. concerns_test q x) paths row
    test-told row =
        ap (λ (z : Bool). some_on (above paths (Some near.path)) paths row || z) (sym (some-if array (is_at_or_above at) paths row))
        ∙ sym (some-or (above paths (Some near.path)) (λ q. array && is_at_or_above at q) paths row)
        ∙ some-same _ _ paths row (λ i within on. one (place_at paths i) (place-in i within))
      where
        one : (q : Place) → Contains paths q → (is_at_or_above q at || (array && is_at_or_above at q)) ≡ concerns_test q x
        one q has =
            ap (λ (z : Place). is_at_or_above q z || (array && is_at_or_above z q)) at-p
            ∙ (λ i. sym (above-near q has) i || sym (array-near q has) i)

    pub store-told : (row : Bits) (up : Option ℕ) → OnlyAbove paths x near up
        → (some_on (above paths up) paths row || (array && some_on (is_at_or_above at) paths row)) ≡ some_on (λ q. concerns_store q x) paths row
    store-told row up only =
        ap (λ (z : Bool). some_on (above paths up) paths row || z) (sym (some-if array (is_at_or_above at) paths row))
        ∙ sym (some-or (above paths up) (λ q. array && is_at_or_above at q) paths row)
        ∙ some-same _ _ paths row (λ i within on. one i within)
      where
        strict : (i : ℕ) → i < length paths → above paths up (place_at paths i) ≡ (is_at_or_above (place_at paths i) x && not (is_at_or_above x (place_at paths i)))
        strict i within = by exact refl only
          where
            q : Place
            q = place_at paths i

            has : Contains paths q
            has = place-in i within

            by : (b : Bool) → exact ≡ b → by_depth b paths near up → above paths up q ≡ (is_at_or_above q x && not (is_at_or_above x q))
            by false e same =
                ap (λ (z : Option ℕ). above paths z q) same ∙ ap (is_at_or_above q) at-p ∙ sym (above-near q has)
                ∙ sym (and-true (is_at_or_above q x)) ∙ ap (λ (b : Bool). is_at_or_above q x && not b) (sym (below-near q has ∙ ap (λ (b : Bool). b && is_at_or_above p q) e))
              where
                and-true : (a : Bool) → (a && true) ≡ a
                and-true true = refl
                and-true false = refl
            by true e parent = elim (cases_eq i near.path) [ inl same ↦ self up parent same | inr other ↦ apart up parent other ]
              where
                x-is : at ≡ x
                x-is = at-p ∙ exact-p (eqb-true near.depth (length x.steps) e)

                self : (up : Option ℕ) → MatchOption up (IsRoot paths near.path) (λ upper. IsStepBelow paths upper near.path) → i ≡ near.path → above paths up q ≡ (is_at_or_above q x && not (is_at_or_above x q))
                self up parent same =
                    let q-is : q ≡ x = ap (place_at paths) same ∙ x-is in
                    none up parent ∙ sym (ap (λ (z : Place). is_at_or_above z x && not (is_at_or_above x z)) q-is ∙ ap (λ (b : Bool). b && not b) (above-refl x))
                  where
                    none : (up : Option ℕ) → MatchOption up (IsRoot paths near.path) (λ upper. IsStepBelow paths upper near.path) → above paths up q ≡ false
                    none None root = refl
                    none (Some u) step = ap (λ (n : ℕ). is_at_or_above (place_at paths n) (place_at paths u)) same ∙ not-above-up paths is.once near.path u step

                apart : (up : Option ℕ) → MatchOption up (IsRoot paths near.path) (λ upper. IsStepBelow paths upper near.path) → i ≢ near.path → above paths up q ≡ (is_at_or_above q x && not (is_at_or_above x q))
                apart up parent other = next up parent ∙ ap (is_at_or_above q) x-is ∙ both
                  where
                    next : (up : Option ℕ) → MatchOption up (IsRoot paths near.path) (λ upper. IsStepBelow paths upper near.path) → above paths up q ≡ is_at_or_above q at
                    next None root = sym (above-root paths is.once i near.path within within-p other root)
                    next (Some u) step = sym (above-step paths is.once i near.path u within within-p other step)

                    equal : is_at_or_above q x ≡ true → is_at_or_above x q ≡ true → ⊥
                    equal h k =
                        let one = above-upto q x h in
                        let two = above-upto x q k in
                        let same : q ≡ x = one.0 ∙ upto-all (length q.steps) x two.1 in
                        other (is.once i near.path q (slice_get-get_or paths i (whole_local 0) within) (reaches.at ∙ ap Some (exact-p (eqb-true near.depth (length x.steps) e) ∙ sym same)))

                    both : is_at_or_above q x ≡ (is_at_or_above q x && not (is_at_or_above x q))
                    both = cases (is_at_or_above q x) refl (is_at_or_above x q) refl
                      where
                        cases : (a : Bool) → is_at_or_above q x ≡ a → (b : Bool) → is_at_or_above x q ≡ b → a ≡ (a && not b)
                        cases false h b k = refl
                        cases true h false k = refl
                        cases true h true k = absurd (equal h k)

        one : (i : ℕ) → i < length paths → (above paths up (place_at paths i) || (array && is_at_or_above at (place_at paths i))) ≡ concerns_store (place_at paths i) x
        one i within =
            ap (λ (z : Place). above paths up (place_at paths i) || (array && is_at_or_above z (place_at paths i))) at-p
            ∙ (λ j. strict i within j || sym (array-near (place_at paths i) (place-in i within)) j)

    whole : (row : Bits) (over : Option ℕ) (within : Bool) → (over ≡ Some near.path) × (within ≡ (exact || array))
        → (some_on (above paths over) paths row || (within && some_on (is_at_or_above at) paths row)) ≡ some_on (λ q. concerns_read q x) paths row
    whole row over within asked =
        (λ i. some_on (above paths (asked.0 i)) paths row || (asked.1 i && some_on (is_at_or_above at) paths row))
        ∙ ap (λ (b : Bool). some_on (above paths (Some near.path)) paths row || b) (split exact array (some_on (is_at_or_above at) paths row))
        ∙ read-told row
      where
        split : (a b c : Bool) → ((a || b) && c) ≡ ((a && c) || (b && c))
        split true true true = refl
        split true true false = refl
        split true false true = refl
        split true false false = refl
        split false b c = refl

    -- for any use
    pub told : (how : PlaceUse) (row : Bits) (over : Option ℕ) (within : Bool) → Asks paths x near how over within
        → (some_on (above paths over) paths row || (within && some_on (is_at_or_above at) paths row)) ≡ some_on (λ q. concerns how q x) paths row
    told Copies row over within asked = whole row over within asked
    told Moves row over within asked = whole row over within asked
    told Borrows row over within asked = whole row over within asked
    told Touches row over within asked = whole row over within asked
    told Tests row over within asked =
        (λ i. some_on (above paths (asked.0 i)) paths row || (asked.1 i && some_on (is_at_or_above at) paths row)) ∙ test-told row
    told Stores row over within asked =
        ap (λ (b : Bool). some_on (above paths over) paths row || (b && some_on (is_at_or_above at) paths row)) asked.1 ∙ store-told row over asked.0
    told Drops row over within asked =
        ap (λ (b : Bool). some_on (above paths over) paths row || (b && some_on (is_at_or_above at) paths row)) asked.1 ∙ store-told row over asked.0
    told Frees row over within asked =
        (λ i. some_on (above paths (asked.0 i)) paths row || (asked.1 i && some_on (is_at_or_above at) paths row))
        ∙ ap (λ (b : Bool). b || false) (some-none paths row) ∙ sym (some-none paths row)
