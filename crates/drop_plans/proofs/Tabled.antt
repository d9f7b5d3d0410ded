-- A table of flags, path after path.
use Rattle.std.proofs.Common.{◌≡◌, ◌≢◌, inl, inr, ◌∙◌, ◌+◌, ◌<◌, ◌++◌, ◌∷◌, [], ℕ, zero, suc, List, Option, Some, None, Contains, length, slice_get, slice_set, take, sym, ap, arith}
use Rattle.std.specs.Prelude.{slice_index_or}
use Rattle.std.proofs.lemmas.List.{get_or-set_other, get_or-set_same, length-set}
use Rattle.std.proofs.lemmas.Option.{none-some, same_Some, slice_get_within, slice_get-get_or}
use Rattle.mir_ty.proofs.ListLemmas.{Contains-slice_get, slice_get-append_left, slice_get-last, slice_get-push_cases}
use Rattle.store_model.specs.Places.Place.{Place}
use Rattle.move_paths.specs.Trie.{AreOnce}
use Rattle.drop_plans.specs.Tables.{AreTable, IsMarked}

at-contained : {X : Type 0} (xs : List X) (x : X) (has : Contains xs x) → slice_get xs has.0 ≡ Some x
at-contained xs x has = slice_get-get_or xs has.0 x has.1 ∙ ap Some has.2

contains-left : {X : Type 0} (xs ys : List X) (x : X) → Contains xs x → Contains (xs ++ ys) x
contains-left xs ys x has = Contains-slice_get (xs ++ ys) has.0 x (slice_get-append_left xs ys has.0 x (at-contained xs x has))

take-get : {X : Type 0} (xs : List X) (i j : ℕ) (x : X) → slice_get (take i xs) j ≡ Some x → (slice_get xs j ≡ Some x) × (j < i)
take-get xs zero j x h = absurd (none-some x h)
take-get [] (suc i) j x h = absurd (none-some x h)
take-get (y ∷ ys) (suc i) zero x h = (h, omega arith)
take-get (y ∷ ys) (suc i) (suc j) x h = let it = take-get ys i j x h in (it.0, (let less = it.1 in omega (less, arith)))

-- none of the paths before one is that one
pub fresh : (flagged : List Place) (i : ℕ) (place : Place) → AreOnce flagged → slice_get flagged i ≡ Some place →
    ¬ Contains (take i flagged) place
fresh flagged i place once at has =
    let it = take-get flagged i has.0 place (at-contained (take i flagged) place has) in
    let same : has.0 ≡ i = once has.0 i place it.0 at in
    let less : has.0 < i = it.1 in
    (let never : ⊥ = omega (same, less, arith) in never)

module _ (paths : List Place) (once : AreOnce paths) (first : ℕ) where
  module _ (before : List Place) (place : Place) (old new : List (Option ℕ)) (is_new : ¬ Contains before place)
      (table : AreTable paths before first old) where
    abbrev flag_here : Option ℕ
    flag_here = Some (first + length before)

    differs : (k : ℕ) (path : Place) → slice_get before k ≡ Some path → path ≡ place → ⊥
    differs k path at same = is_new (Contains-slice_get before k place (at ∙ ap Some same))

    apart : (number other : ℕ) (path : Place) → slice_get paths other ≡ Some path → slice_get paths number ≡ Some place →
        (path ≡ place → ⊥) → other ≢ number
    apart number other path here at unlike same =
        unlike (same_Some path place (sym here ∙ ap (λ (n : ℕ). slice_get paths n) same ∙ at))

    marked : (number : ℕ) → slice_get paths number ≡ Some place → new ≡ slice_set old number flag_here →
        AreTable paths (before ++ place ∷ []) first new
    marked number at made = record {
      long = ap length made ∙ length-set old number flag_here ∙ table.long;
      flag = λ other k path here has. elim (slice_get-push_cases before place k path has) [
        | inl early ↦ ap (λ (z : List (Option ℕ)). slice_index_or z other None) made
            ∙ get_or-set_other old number other flag_here None (apart number other path here at (differs k path early))
            ∙ table.flag other k path here early
        | inr last ↦
            let same : other ≡ number = once other number place (here ∙ ap Some (sym last.1)) at in
            let within : number < length old =
            (let w = slice_get_within paths number place at in let l = table.long in omega (w, l, arith)) in
            ap (λ (z : List (Option ℕ)). slice_index_or z other None) made
            ∙ ap (λ (n : ℕ). slice_index_or (slice_set old number flag_here) n None) same
            ∙ get_or-set_same old number flag_here None within
            ∙ ap (λ (n : ℕ). Some (first + n)) (sym last.0)
      ];
      none = λ other path here absent.
          ap (λ (z : List (Option ℕ)). slice_index_or z other None) made
          ∙ get_or-set_other old number other flag_here None (apart number other path here at
          (λ same. absent (Contains-slice_get (before ++ place ∷ []) (length before) path (slice_get-last before place ∙ ap Some (sym same)))))
          ∙ table.none other path here (λ has. absent (contains-left before (place ∷ []) path has));
    }

    unmarked : ¬ Contains paths place → new ≡ old → AreTable paths (before ++ place ∷ []) first new
    unmarked never made = record {
      long = ap length made ∙ table.long;
      flag = λ other k path here has. elim (slice_get-push_cases before place k path has) [
        | inl early ↦ ap (λ (z : List (Option ℕ)). slice_index_or z other None) made ∙ table.flag other k path here early
        | inr last ↦ absurd (never (Contains-slice_get paths other place (here ∙ ap Some (sym last.1))))
      ];
      none = λ other path here absent.
          ap (λ (z : List (Option ℕ)). slice_index_or z other None) made
          ∙ table.none other path here (λ has. absent (contains-left before (place ∷ []) path has));
    }

    pub table-more : (flag : ℕ) → flag ≡ first + length before → IsMarked paths place flag old new →
        AreTable paths (before ++ place ∷ []) first new
    table-more flag is (inl it) = marked it.0 it.1 (it.2 ∙ ap (λ (n : ℕ). slice_set old it.0 (Some n)) is)
    table-more flag is (inr it) = unmarked it.0 it.1
