-- Forests of places as they grow: which places the parts are, that each is there once, and with each its containers.
use Rattle.std.proofs.Common.{◌≡◌, ◌⊎◌, inl, inr, ℕ, zero, suc, ◌+◌, ◌-◌, ◌^◌, ◌<◌, ◌≤◌, List, [], ◌∷◌, ◌++◌, take, length, slice_get, Some, Contains, refl, sym, ap, subst, ◌∙◌, arith}
use Rattle.std.specs.Prelude.{slice_index_or}
use Rattle.std.specs.List.{range_with_len}
use Rattle.std.specs.Option.{option_map}
use Rattle.std.proofs.lemmas.List.FromFn.{length-range_with_len, get_or-range_with_len}
use Rattle.std.proofs.lemmas.Bool.{cases_lt}
use Rattle.std.proofs.lemmas.Option.{none-some, same_Some, slice_get_within, slice_get-get_or, get_or_from_slice_get, slice_get-map}
use Rattle.std.proofs.lemmas.List.{length-append, length-map, same_from_push, take-append-le, take_all, take_more, take-take, length-take-le}
use Rattle.mir_ty.proofs.ListLemmas.{slice_get-append_left, slice_get-last, slice_get-push_cases, Contains-slice_get, slice_get-Contains}
use Rattle.store_model.specs.Places.Place.{Place, Step, ToPart, ToField, ToContent, ToElement, whole_local}
use Rattle.cfg_graph.specs.declared.place.Step.{Step as GraphStep}
use Rattle.cfg_graph.specs.Places.{named_step}
use Rattle.cfg_graph.specs.Moves.Gone.{below}
use Rattle.move_paths.specs.declared.parts.PathPart.{PathPart}
use Rattle.move_paths.specs.Trie.{AreOnce, Adds, place_of, grown, roots, places, IsTrie, upto, Grows}
use Rattle.move_paths.specs.Forest.{IsStepBelow}

-- Lists in which each thing stands once.

pub once-push : {X : Type 0} (xs : List X) (x : X) → AreOnce xs → ¬ Contains xs x → AreOnce (xs ++ x ∷ [])
once-push {X} xs x once absent i j u at_i at_j = by (slice_get-push_cases xs x i u at_i) (slice_get-push_cases xs x j u at_j)
  where
    by : (slice_get xs i ≡ Some u) ⊎ ((i ≡ length xs) × (x ≡ u)) → (slice_get xs j ≡ Some u) ⊎ ((j ≡ length xs) × (x ≡ u)) → i ≡ j
    by (inl a) (inl b) = once i j u a b
    by (inl a) (inr b) = absurd (absent (Contains-slice_get xs i x (a ∙ ap Some (sym b.1))))
    by (inr a) (inl b) = absurd (absent (Contains-slice_get xs j x (b ∙ ap Some (sym a.1))))
    by (inr a) (inr b) = a.0 ∙ sym b.0

-- Places that grow.

pub length-grown : (before : List Place) (parts : List PathPart) → length (grown before parts) ≡ length before + length parts
length-grown before [] = omega arith
length-grown before (part ∷ parts) =
    let rest = length-grown (before ++ place_of before part ∷ []) parts in
    let more = length-append before (place_of before part ∷ []) in
    omega (rest, more, arith)

pub grown-push : (before : List Place) (parts : List PathPart) (part : PathPart) → grown before (parts ++ part ∷ []) ≡ grown before parts ++ place_of (grown before parts) part ∷ []
grown-push before [] part = refl
grown-push before (other ∷ parts) part = grown-push (before ++ place_of before other ∷ []) parts part

pub grown-keeps : (before : List Place) (parts : List PathPart) (i : ℕ) (q : Place) → slice_get before i ≡ Some q → slice_get (grown before parts) i ≡ Some q
grown-keeps before [] i q h = h
grown-keeps before (part ∷ parts) i q h =
    grown-keeps (before ++ place_of before part ∷ []) parts i q (slice_get-append_left before (place_of before part ∷ []) i q h)

-- the place of a part stays what it is
place-stays : (before after : List Place) (part : PathPart) → ((i : ℕ) (q : Place) → slice_get before i ≡ Some q → slice_get after i ≡ Some q) → part.of < length before
    → place_of after part ≡ place_of before part
place-stays before after part keeps inside =
    let here = slice_get-get_or before part.of (whole_local 0) inside in
    ap (λ (q : Place). below q (named_step part.step ∷ [])) (get_or_from_slice_get after part.of _ (whole_local 0) (keeps part.of _ here))

-- the place of a part of a list is that by the places after it
pub part-at : (before : List Place) (parts : List PathPart) (i : ℕ) (part : PathPart) → slice_get parts i ≡ Some part → part.of < length before + i
    → ((j : ℕ) (other : PathPart) → slice_get parts j ≡ Some other → other.of < length before + j)
    → slice_get (grown before parts) (length before + i) ≡ Some (place_of (grown before parts) part)
part-at before [] i part at earlier all = absurd (none-some part at)
part-at before (first ∷ parts) zero part at earlier all =
    let same : first ≡ part = same_Some first part at in
    let inside : part.of < length before = omega (earlier, arith) in
    let more : List Place = before ++ place_of before first ∷ [] in
    let there : slice_get more (length before) ≡ Some (place_of before first) = slice_get-last before (place_of before first) in
    let stays = place-stays before (grown more parts) part (λ j q h. grown-keeps before (first ∷ parts) j q h) inside in
    ap (λ (n : ℕ). slice_get (grown more parts) n) (let k : length before + zero ≡ length before = omega arith in k)
    ∙ grown-keeps more parts (length before) (place_of before first) there
    ∙ ap (λ (p : PathPart). Some (place_of before p)) same
    ∙ ap Some (sym stays)
part-at before (first ∷ parts) (suc i) part at earlier all =
    let more : List Place = before ++ place_of before first ∷ [] in
    let longer : length more ≡ suc (length before) = (let k = length-append before (place_of before first ∷ []) in omega (k, arith)) in
    ap (λ (n : ℕ). slice_get (grown more parts) n) (let k : length before + suc i ≡ length more + i = omega (longer, arith) in k)
    ∙ part-at more parts i part at (omega (earlier, longer, arith)) (λ j other h. let k = all (suc j) other h in omega (k, longer, arith))

-- a path that is not one of the first is the place of a part
pub part-of : (before : List Place) (parts : List PathPart) (n : ℕ) (q : Place) → slice_get (grown before parts) n ≡ Some q → length before ≤ n
    → (i : ℕ) × (part : PathPart) × (n ≡ length before + i) × (slice_get parts i ≡ Some part)
part-of before [] n q h past = absurd (let k = slice_get_within before n q h in omega (k, past, arith))
part-of before (first ∷ parts) n q h past =
    let more : List Place = before ++ place_of before first ∷ [] in
    let longer = length-append before (place_of before first ∷ []) in
    elim (cases_lt (length before) n) [
      | inl later ↦ (let rest = part-of more parts n q h (omega (longer, later, arith)) in
          (suc rest.0, rest.1, (let k = rest.2 in omega (k, longer, arith)), rest.3))
      | inr here ↦ (0, first, omega (here, past, arith), refl)
    ]

-- Steps, and their places one after another.

abbrev back : Step → GraphStep
back (ToPart n) = GraphStep.Part n
back (ToField v n) = GraphStep.Field v n
back ToContent = GraphStep.Inside
back (ToElement n) = GraphStep.Index n

back-named : (a : GraphStep) → back (named_step a) ≡ a
back-named (GraphStep.Part n) = refl
back-named (GraphStep.Field v n) = refl
back-named GraphStep.Inside = refl
back-named (GraphStep.Index n) = refl

pub same_named : (a b : GraphStep) → named_step a ≡ named_step b → a ≡ b
same_named a b e = sym (back-named a) ∙ ap back e ∙ back-named b

not_pushed : {X : Type 0} (xs : List X) (x : X) → [] ≡ xs ++ x ∷ [] → ⊥
not_pushed xs x e = let k = ap length e in let l = length-append xs (x ∷ []) in omega (k, l, arith)

pub same_places : (p q : Place) → p.local ≡ q.local → p.steps ≡ q.steps → p ≡ q
same_places p q l s = λ i. record { local = l i; steps = s i }

-- the first steps of a place, one more
pub upto-more : (place : Place) (depth : ℕ) (step : Step) → slice_get place.steps depth ≡ Some step → upto (depth + 1) place ≡ below (upto depth place) (step ∷ [])
upto-more place depth step next =
    same_places (upto (depth + 1) place) (below (upto depth place) (step ∷ [])) refl
    (take_more place.steps depth step (slice_get_within place.steps depth step next) ∙ ap (λ (s : Step). take depth place.steps ++ s ∷ []) (get_or_from_slice_get place.steps depth step step next))

pub length-roots : (locals : ℕ) → length (roots locals) ≡ locals
length-roots locals = length-map (range_with_len 0 locals) whole_local ∙ length-range_with_len 0 locals

pub root-get : (locals n : ℕ) → n < locals → slice_get (roots locals) n ≡ Some (whole_local n)
root-get locals n h =
    let numbers : List ℕ = range_with_len 0 locals in
    let long = length-range_with_len 0 locals in
    slice_get-map whole_local numbers n
    ∙ ap (option_map whole_local) (slice_get-get_or numbers n 0 (omega (h, long, arith)))
    ∙ ap (λ (k : ℕ). Some (whole_local k)) (get_or-range_with_len 0 locals n 0 h ∙ (let k : 0 + n ≡ n = omega arith in k))

module _ (locals : ℕ) (parts : List PathPart) (trie : IsTrie locals parts) where
  abbrev pub all : List Place
  all = places locals parts

  pub length-all : length all ≡ locals + length parts
  length-all = (let k = length-grown (roots locals) parts in let l = length-roots locals in omega (k, l, arith))

  pub root-at : (n : ℕ) → n < locals → slice_get all n ≡ Some (whole_local n)
  root-at n h = grown-keeps (roots locals) parts n (whole_local n) (root-get locals n h)

  -- the place of a part, by its number
  pub part-here : (i : ℕ) (part : PathPart) → slice_get parts i ≡ Some part → slice_get all (locals + i) ≡ Some (place_of all part)
  part-here i part at =
      ap (λ (n : ℕ). slice_get all (n + i)) (sym (length-roots locals))
      ∙ part-at (roots locals) parts i part at (let k = trie.earlier i part at in let l = length-roots locals in omega (k, l, arith))
      (λ j other h. let k = trie.earlier j other h in let l = length-roots locals in omega (k, l, arith))

  -- what a path is
  pub cases :
      (n : ℕ) (q : Place) → slice_get all n ≡ Some q
      → ((n < locals) × (q ≡ whole_local n)) ⊎ ((i : ℕ) × (part : PathPart) × (n ≡ locals + i) × (slice_get parts i ≡ Some part) × (q ≡ place_of all part))
  cases n q h = by (cases_lt n locals)
    where
      by : (n < locals) ⊎ (locals ≤ n) → ((n < locals) × (q ≡ whole_local n)) ⊎ ((i : ℕ) × (part : PathPart) × (n ≡ locals + i) × (slice_get parts i ≡ Some part) × (q ≡ place_of all part))
      by (inl early) = inl (early, same_Some q (whole_local n) (sym h ∙ root-at n early))
      by (inr late) =
          let l = length-roots locals in
          let it = part-of (roots locals) parts n q h (omega (l, late, arith)) in
          let at : n ≡ locals + it.0 = (let k = it.2 in omega (k, l, arith)) in
          inr (it.0, it.1, at, it.3, same_Some q (place_of all it.1) (sym h ∙ ap (slice_get all) at ∙ part-here it.0 it.1 it.3))

  -- the path above a part
  pub above-part : (i : ℕ) (part : PathPart) → slice_get parts i ≡ Some part → slice_get all part.of ≡ Some (slice_index_or all part.of (whole_local 0))
  above-part i part at =
      slice_get-get_or all part.of (whole_local 0)
      (let k = trie.earlier i part at in let l = slice_get_within parts i part at in let m = length-all in omega (k, l, m, arith))

  once-at : (bound i j : ℕ) (q : Place) → i < bound → slice_get all i ≡ Some q → slice_get all j ≡ Some q → i ≡ j
  once-at zero i j q small at_i at_j = absurd (omega (small, arith))
  once-at (suc bound) i j q small at_i at_j = by (once-at bound) (cases i q at_i) (cases j q at_j)
    where
      by :
          ((i j : ℕ) (q : Place) → i < bound → slice_get all i ≡ Some q → slice_get all j ≡ Some q → i ≡ j)
          → ((i < locals) × (q ≡ whole_local i)) ⊎ ((k : ℕ) × (part : PathPart) × (i ≡ locals + k) × (slice_get parts k ≡ Some part) × (q ≡ place_of all part))
          → ((j < locals) × (q ≡ whole_local j)) ⊎ ((k : ℕ) × (part : PathPart) × (j ≡ locals + k) × (slice_get parts k ≡ Some part) × (q ≡ place_of all part))
          → i ≡ j
      by again (inl a) (inl b) = ap (λ (p : Place). p.local) (sym a.1 ∙ b.1)
      by again (inl a) (inr b) = absurd (not_pushed _ _ (ap (λ (p : Place). p.steps) (sym a.1 ∙ b.4)))
      by again (inr a) (inl b) = absurd (not_pushed _ _ (ap (λ (p : Place). p.steps) (sym b.1 ∙ a.4)))
      by again (inr a) (inr b) =
          let one : Place = slice_index_or all a.1.of (whole_local 0) in
          let two : Place = slice_index_or all b.1.of (whole_local 0) in
          let e : place_of all a.1 ≡ place_of all b.1 = sym a.4 ∙ b.4 in
          let last = same_from_push one.steps two.steps (named_step a.1.step) (named_step b.1.step) (ap (λ (p : Place). p.steps) e) in
          let same : one ≡ two = same_places one two (ap (λ (p : Place). p.local) e) last.0 in
          let of : a.1.of ≡ b.1.of =
          again a.1.of b.1.of one (let k = trie.earlier a.0 a.1 a.3 in let at = a.2 in omega (k, at, small, arith))
          (above-part a.0 a.1 a.3) (above-part b.0 b.1 b.3 ∙ ap Some (sym same)) in
          let step = same_named a.1.step b.1.step last.1 in
          let part : a.1 ≡ b.1 = (λ i. record { of = of i; step = step i }) in
          let k = trie.once a.0 b.0 a.1 a.3 (b.3 ∙ ap Some (sym part)) in
          let at_a = a.2 in let at_b = b.2 in omega (k, at_a, at_b, arith)

  pub once-all : AreOnce all
  once-all i j q at_i at_j = once-at (suc i) i j q (omega arith) at_i at_j

  -- a step from a path leads to a path where it is a part
  pub step-known : (of : ℕ) (p : Place) (step : GraphStep) → slice_get all of ≡ Some p → Contains all (below p (named_step step ∷ [])) → Contains parts (record { of = of; step = step })
  step-known of p step at has = by (cases has.0 (below p (named_step step ∷ [])) (slice_get-Contains all (below p (named_step step ∷ [])) has))
    where
      by :
          ((has.0 < locals) × (below p (named_step step ∷ []) ≡ whole_local has.0)) ⊎ ((k : ℕ) × (part : PathPart) × (has.0 ≡ locals + k) × (slice_get parts k ≡ Some part) × (below p (named_step step ∷ []) ≡ place_of all part))
          → Contains parts (record { of = of; step = step })
      by (inl a) = absurd (not_pushed _ _ (ap (λ (p : Place). p.steps) (sym a.1)))
      by (inr a) =
          let two : Place = slice_index_or all a.1.of (whole_local 0) in
          let last = same_from_push p.steps two.steps (named_step step) (named_step a.1.step) (ap (λ (p : Place). p.steps) a.4) in
          let same : p ≡ two = same_places p two (ap (λ (p : Place). p.local) a.4) last.0 in
          let number = once-all of a.1.of p at (above-part a.0 a.1 a.3 ∙ ap Some (sym same)) in
          let by = same_named step a.1.step last.1 in
          let part : a.1 ≡ record { of = of; step = step } = (λ i. record { of = sym number i; step = sym by i }) in
          Contains-slice_get parts a.0 (record { of = of; step = step }) (a.3 ∙ ap Some part)

  pub step-at : (n of : ℕ) (p : Place) (step : GraphStep) → slice_get all of ≡ Some p → slice_get parts n ≡ Some (record { of = of; step = step })
      → slice_get all (locals + n) ≡ Some (below p (named_step step ∷ []))
  step-at n of p step at part =
      part-here n (record { of = of; step = step }) part
      ∙ ap (λ (q : Place). Some (below q (named_step step ∷ []))) (get_or_from_slice_get all of p (whole_local 0) at)

  take-front : {X : Type 0} (d : ℕ) (xs : List X) (x : X) → d ≤ length xs → take d (xs ++ x ∷ []) ≡ take d xs
  take-front d xs x h = take-append-le d xs (x ∷ []) h

  closed-at : (bound n : ℕ) (q : Place) (depth : ℕ) → n < bound → slice_get all n ≡ Some q → depth ≤ length q.steps → Contains all (upto depth q)
  closed-at zero n q depth small at deep = absurd (omega (small, arith))
  closed-at (suc bound) n q depth small at deep = by (closed-at bound) (cases_lt depth (length q.steps)) (cases n q at)
    where
      whole : length q.steps ≤ depth → Contains all (upto depth q)
      whole past =
          subst (Contains all) (same_places q (upto depth q) refl (sym (take_all depth q.steps past))) (Contains-slice_get all n q at)

      by :
          ((n : ℕ) (q : Place) (depth : ℕ) → n < bound → slice_get all n ≡ Some q → depth ≤ length q.steps → Contains all (upto depth q))
          → (depth < length q.steps) ⊎ (length q.steps ≤ depth)
          → ((n < locals) × (q ≡ whole_local n)) ⊎ ((k : ℕ) × (part : PathPart) × (n ≡ locals + k) × (slice_get parts k ≡ Some part) × (q ≡ place_of all part))
          → Contains all (upto depth q)
      by again (inr past) is = whole past
      by again (inl early) (inl a) = absurd (let k = ap (λ (p : Place). length p.steps) a.1 in omega (k, early, arith))
      by again (inl early) (inr a) =
          let one : Place = slice_index_or all a.1.of (whole_local 0) in
          let steps : q.steps ≡ one.steps ++ named_step a.1.step ∷ [] = ap (λ (p : Place). p.steps) a.4 in
          let long = ap length steps in
          let more = length-append one.steps (named_step a.1.step ∷ []) in
          let fits : depth ≤ length one.steps = omega (long, more, early, arith) in
          let up = again a.1.of one depth (let k = trie.earlier a.0 a.1 a.3 in let at = a.2 in omega (k, at, small, arith)) (above-part a.0 a.1 a.3) fits in
          subst (Contains all)
          (same_places (upto depth one) (upto depth q) (ap (λ (p : Place). p.local) (sym a.4)) (sym (ap (take depth) steps ∙ take-front depth one.steps (named_step a.1.step) fits))) up

  -- with a path its containers are paths
  pub closed : (q : Place) (depth : ℕ) → Contains all q → depth ≤ length q.steps → Contains all (upto depth q)
  closed q depth has deep = closed-at (suc has.0) has.0 q depth (omega arith) (slice_get-Contains all q has) deep

  -- a path that is no local is a step below the path of its part
  pub parent-is : (path : ℕ) (part : PathPart) → locals ≤ path → slice_get parts (path - locals) ≡ Some part → IsStepBelow all part.of path
  parent-is path part late at =
      let number : locals + (path - locals) ≡ path = omega (late, arith) in
      record {
        earlier = (let k = trie.earlier (path - locals) part at in omega (k, number, arith));
        place = slice_index_or all part.of (whole_local 0);
        step = named_step part.step;
        above = above-part (path - locals) part at;
        here = ap (slice_get all) (sym number) ∙ part-here (path - locals) part at;
      }

  -- where the step after the first ones leads to no part, no path is further along the place
  pub none-past :
      (place : Place) (depth of : ℕ) (step : GraphStep) → slice_get all of ≡ Some (upto depth place) → slice_get place.steps depth ≡ Some (named_step step)
      → ¬ Contains parts (record { of = of; step = step })
      → (longer : ℕ) → depth < longer → longer ≤ length place.steps → ¬ Contains all (upto longer place)
  none-past place depth of step at next absent longer further within = λ has.
      let long = length-take-le longer place.steps within in
      let one = closed (upto longer place) (depth + 1) has (omega (long, further, arith)) in
      let same : upto (depth + 1) (upto longer place) ≡ upto (depth + 1) place =
      same_places (upto (depth + 1) (upto longer place)) (upto (depth + 1) place) refl (take-take (depth + 1) longer place.steps (omega (further, arith))) in
      absent (step-known of (upto depth place) step at (subst (Contains all) (same ∙ upto-more place depth (named_step step) next) one))

  -- with one more part, or one that was there
  module _ (new : List PathPart) (part : PathPart) (adds : Adds parts new part) (inside : part.of < length all) (room : locals + length parts + 1 < 2 ^ 32) where
    pub trie-adds : IsTrie locals new
    trie-adds = by adds
      where
        by : Adds parts new part → IsTrie locals new
        by (inl same) = subst (IsTrie locals) (sym same.0) trie
        by (inr more) =
            subst (IsTrie locals) (sym more.0)
            (record {
              earlier = λ i other at. elim (slice_get-push_cases parts part i other at) [
                | inl old ↦ trie.earlier i other old
                | inr last ↦ (let of = ap (λ (p : PathPart). p.of) last.1 in let at_last = last.0 in let long = length-all in omega (of, at_last, long, inside, arith))
              ];
              once = once-push parts part trie.once more.1;
              fits = (let long = length-append parts (part ∷ []) in omega (long, room, arith));
            })

    pub keeps-adds : (i : ℕ) (q : Place) → slice_get all i ≡ Some q → slice_get (places locals new) i ≡ Some q
    keeps-adds i q at = by adds
      where
        by : Adds parts new part → slice_get (places locals new) i ≡ Some q
        by (inl same) = ap (λ (z : List PathPart). slice_get (places locals z) i) same.0 ∙ at
        by (inr more) =
            ap (λ (z : List PathPart). slice_get (places locals z) i) more.0
            ∙ ap (λ (z : List Place). slice_get z i) (grown-push (roots locals) parts part)
            ∙ slice_get-append_left all (place_of all part ∷ []) i q at

    pub grows-adds : Grows all (places locals new) (place_of all part)
    grows-adds = by adds
      where
        by : Adds parts new part → Grows all (places locals new) (place_of all part)
        by (inl same) =
            let has = same.1 in
            inl (ap (places locals) same.0, Contains-slice_get all (locals + has.0) (place_of all part) (part-here has.0 part (slice_get-Contains parts part has)))
        by (inr more) = inr (ap (places locals) more.0 ∙ grown-push (roots locals) parts part)

    -- the part is where its number says
    pub added-here : (n : ℕ) → slice_get new n ≡ Some part → slice_get (places locals new) (locals + n) ≡ Some (place_of all part)
    added-here n at =
        part-here-new n at ∙ ap Some (place-stays all (places locals new) part keeps-adds inside)
      where
        part-here-new : (n : ℕ) → slice_get new n ≡ Some part → slice_get (places locals new) (locals + n) ≡ Some (place_of (places locals new) part)
        part-here-new n at =
            ap (λ (k : ℕ). slice_get (places locals new) (k + n)) (sym (length-roots locals))
            ∙ part-at (roots locals) new n part at (let k = trie-adds.earlier n part at in let l = length-roots locals in omega (k, l, arith))
            (λ j other h. let k = trie-adds.earlier j other h in let l = length-roots locals in omega (k, l, arith))
