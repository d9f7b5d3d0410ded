-- The paths one step below each path, as they are listed one after another.
use Rattle.std.proofs.Common.{◌≡◌, ◌≢◌, ◌⊎◌, inl, inr, ℕ, suc, ◌+◌, ◌<◌, Bool, true, false, if◌then◌else◌, List, [], ◌∷◌, ◌++◌, length, replicate, slice_get, Some, refl, sym, ap, ◌∙◌, arith}
use Rattle.std.specs.Prelude.{slice_index_or, slice_set, ◌==◌}
use Rattle.std.specs.List.{range_with_len}
use Rattle.std.specs.Cmp.{first_so, second_so}
use Rattle.std.specs.Cmp.Derive.{both_true}
use Rattle.std.proofs.lemmas.Bool.{cases_eq, eqb-true, eq-eqb}
use Rattle.std.proofs.lemmas.Option.{slice_get-get_or, get_or_from_slice_get}
use Rattle.std.proofs.lemmas.List.{append-nil, length-append, length-set, length-map, length-replicate, get_or-replicate, get_or-set_same, get_or-set_other, get_or-map, get_or_default, same_lists, take_all}
use Rattle.std.proofs.lemmas.List.FromFn.{length-range_with_len, get_or-range_with_len}
use Rattle.store_model.specs.Places.Place.{Place, whole_local}
use Rattle.cfg_graph.specs.Moves.Gone.{are_first, is_at_or_above, below}
use Rattle.move_paths.specs.Trie.{AreOnce}
use Rattle.move_paths.specs.Forest.{IsRoot, IsStepBelow, is_child, children_before, children_of, all_children}
use Rattle.move_paths.proofs.Above.{above-refl, above-stays, above-pushed}
use Rattle.move_paths.proofs.Finding.{first-is-take}
use Rattle.move_paths.proofs.Growth.{same_places}

not_true : (b : Bool) → (b ≡ true → ⊥) → b ≡ false
not_true true h = absurd (h refl)
not_true false h = refl

module _ (paths : List Place) (once : AreOnce paths) where
  abbrev at : ℕ → Place
  at n = slice_index_or paths n (whole_local 0)

  place-is : (n : ℕ) → n < length paths → slice_get paths n ≡ Some (at n)
  place-is n within = slice_get-get_or paths n (whole_local 0) within

  child-here : (upper path : ℕ) → IsStepBelow paths upper path → is_child paths upper path ≡ true
  child-here upper path up =
      let lower : at path ≡ below up.place (up.step ∷ []) = get_or_from_slice_get paths path (below up.place (up.step ∷ [])) (whole_local 0) up.here in
      let above : at upper ≡ up.place = get_or_from_slice_get paths upper up.place (whole_local 0) up.above in
      let long = ap (λ (q : Place). length q.steps) lower in
      let more = length-append up.place.steps (up.step ∷ []) in
      let short = ap (λ (q : Place). length q.steps) above in
      both_true
      (ap (λ (z : Place). is_at_or_above z (at path)) above ∙ ap (is_at_or_above up.place) lower ∙ above-stays up.place up.place (up.step ∷ []) (above-refl up.place))
      (eq-eqb (suc (length (at upper).steps)) (length (at path).steps) (omega (long, more, short, arith)))

  -- and of no other
  child-only : (n upper path : ℕ) → n < length paths → n ≢ upper → IsStepBelow paths upper path → is_child paths n path ≡ false
  child-only n upper path here other up = not_true (is_child paths n path) (λ h.
      let lower : at path ≡ below up.place (up.step ∷ []) = get_or_from_slice_get paths path (below up.place (up.step ∷ [])) (whole_local 0) up.here in
      let over = first_so (is_at_or_above (at n) (at path)) (suc (length (at n).steps) == length (at path).steps) h in
      let one = eqb-true (suc (length (at n).steps)) (length (at path).steps) (second_so (is_at_or_above (at n) (at path)) (suc (length (at n).steps) == length (at path).steps) h) in
      let long = ap (λ (q : Place). length q.steps) lower in
      let more = length-append up.place.steps (up.step ∷ []) in
      elim (above-pushed (at n) up.place up.step (ap (is_at_or_above (at n)) (sym lower) ∙ over)) [
        | inl up_there ↦ other (once n upper up.place (place-is n here ∙ ap Some (equal (at n) up.place up_there (omega (one, long, more, arith)))) up.above)
        | inr same ↦ (let e = ap (λ (q : Place). length q.steps) same in omega (e, one, long, arith))
      ])
    where
      equal : (p q : Place) → is_at_or_above p q ≡ true → length p.steps ≡ length q.steps → p ≡ q
      equal p q up long =
          let is = first-is-take p.steps q.steps (second_so (p.local == q.local) (are_first p.steps q.steps) up) in
          same_places p q (eqb-true p.local q.local (first_so (p.local == q.local) (are_first p.steps q.steps) up)) (is.0 ∙ take_all (length p.steps) q.steps (omega (long, arith)))

  child-of-none : (n path : ℕ) → IsRoot paths path → is_child paths n path ≡ false
  child-of-none n path root = not_true (is_child paths n path) (λ h.
      let lower : at path ≡ whole_local path = get_or_from_slice_get paths path (whole_local path) (whole_local 0) root in
      let one = eqb-true (suc (length (at n).steps)) (length (at path).steps) (second_so (is_at_or_above (at n) (at path)) (suc (length (at n).steps) == length (at path).steps) h) in
      let none = ap (λ (q : Place). length q.steps) lower in
      omega (one, none, arith))

-- how far the paths are listed
pub record Listed (paths : List Place) (lists : List (List ℕ)) (count : ℕ) : Type 0 where
  pub long : length lists ≡ length paths
  pub each : (n : ℕ) → n < length paths → slice_index_or lists n [] ≡ children_before paths n count

pub listed-none : (paths : List Place) (count : ℕ) → count ≡ length paths → Listed paths (replicate count []) 0
listed-none paths count size = record { long = length-replicate count [] ∙ size; each = λ n here. get_or-replicate count n [] [] (omega (size, here, arith)) }

module _ (paths : List Place) (once : AreOnce paths) (lists : List (List ℕ)) (count : ℕ) (listed : Listed paths lists count) where
  counted : count + 1 ≡ suc count
  counted = omega arith

  pub listed-root : IsRoot paths count → Listed paths lists (count + 1)
  listed-root root = record {
    long = listed.long;
    each = λ n here. listed.each n here ∙ sym (append-nil (children_before paths n count))
        ∙ ap (λ (b : Bool). children_before paths n count ++ (if b then count ∷ [] else [])) (sym (child-of-none paths once n count root))
        ∙ ap (children_before paths n) (sym counted);
  }

  pub listed-more : (upper : ℕ) → upper < length paths → IsStepBelow paths upper count
      → Listed paths (slice_set lists upper (slice_index_or lists upper [] ++ count ∷ [])) (count + 1)
  listed-more upper inside up = record {
    long = length-set lists upper (slice_index_or lists upper [] ++ count ∷ []) ∙ listed.long;
    each = λ n here. by n here (cases_eq n upper);
  }
    where
      by : (n : ℕ) → n < length paths → (n ≡ upper) ⊎ (n ≢ upper) → slice_index_or (slice_set lists upper (slice_index_or lists upper [] ++ count ∷ [])) n [] ≡ children_before paths n (count + 1)
      by n here (inl same) =
          ap (λ (z : ℕ). slice_index_or (slice_set lists upper (slice_index_or lists upper [] ++ count ∷ [])) z []) same
          ∙ get_or-set_same lists upper (slice_index_or lists upper [] ++ count ∷ []) [] (let k = listed.long in omega (k, inside, arith))
          ∙ ap (λ (z : List ℕ). z ++ count ∷ []) (listed.each upper inside)
          ∙ ap (λ (b : Bool). children_before paths upper count ++ (if b then count ∷ [] else [])) (sym (child-here paths once upper count up))
          ∙ ap (children_before paths upper) (sym counted)
          ∙ ap (λ (z : ℕ). children_before paths z (count + 1)) (sym same)
      by n here (inr other) =
          get_or-set_other lists upper n (slice_index_or lists upper [] ++ count ∷ []) [] other
          ∙ listed.each n here ∙ sym (append-nil (children_before paths n count))
          ∙ ap (λ (b : Bool). children_before paths n count ++ (if b then count ∷ [] else [])) (sym (child-only paths once n upper count here other up))
          ∙ ap (children_before paths n) (sym counted)

pub listed-all : (paths : List Place) (lists : List (List ℕ)) (count : ℕ) → count ≡ length paths → Listed paths lists count → lists ≡ all_children paths
listed-all paths lists count size listed =
    let range = length-range_with_len 0 (length paths) in
    same_lists lists (all_children paths) (listed.long ∙ sym (length-map (range_with_len 0 (length paths)) (children_of paths) ∙ range)) (λ n d here.
    let inside : n < length paths = (let k = listed.long in omega (k, here, arith)) in
    get_or_default lists n d [] here ∙ listed.each n inside
    ∙ ap (children_before paths n) size
    ∙ ap (children_of paths) (let k : n ≡ 0 + n = omega arith in k) ∙ ap (children_of paths) (sym (get_or-range_with_len 0 (length paths) n 0 inside))
    ∙ sym (get_or-map (children_of paths) (range_with_len 0 (length paths)) n 0 d (omega (range, inside, arith))))

pub children-at : (paths : List Place) (path : ℕ) (d : List ℕ) → path < length paths → slice_index_or (all_children paths) path d ≡ children_of paths path
children-at paths path d inside =
    let range = length-range_with_len 0 (length paths) in
    get_or-map (children_of paths) (range_with_len 0 (length paths)) path 0 d (omega (range, inside, arith))
    ∙ ap (children_of paths) (get_or-range_with_len 0 (length paths) path 0 inside ∙ (let k : 0 + path ≡ path = omega arith in k))

pub length-children : (paths : List Place) → length (all_children paths) ≡ length paths
length-children paths = length-map (range_with_len 0 (length paths)) (children_of paths) ∙ length-range_with_len 0 (length paths)
