-- Rows that say of paths whether they are gone.
use Rattle.std.proofs.Common.{◌≡◌, ℕ, zero, suc, ◌<◌, Bool, true, false, ◌&&◌, ◌||◌, List, [], ◌∷◌, map, length, Option, Some, None, refl, sym, ap, ◌∙◌, arith}
use Rattle.std.specs.Prelude.{slice_index_or}
use Rattle.std.specs.Option.{MatchOption}
use Rattle.std.proofs.lemmas.Bool.{false≢true}
use Rattle.store_model.specs.Places.Place.{Place}
use Rattle.bit_rows.specs.Words.{any_both}
use Rattle.init_flow.specs.Carried.{Bits}
use Rattle.move_paths.specs.Trie.{AreOnce}
use Rattle.move_paths.specs.Forest.{IsRoot, IsStepBelow}
use Rattle.init_flow.proofs.Marking.{above-step, above-root}
use Rattle.move_errors.specs.Rows.{some_on, above, place_at}

and-off : (a : Bool) → (a && false) ≡ false
and-off true = refl
and-off false = refl

-- tests that agree at the bits that are on
pub some-same : (f g : Place → Bool) (paths : List Place) (row : Bits)
    → ((i : ℕ) → i < length paths → slice_index_or row i false ≡ true → f (place_at paths i) ≡ g (place_at paths i))
    → some_on f paths row ≡ some_on g paths row
some-same f g [] row same = refl
some-same f g (q ∷ qs) [] same = refl
some-same f g (q ∷ qs) (b ∷ row) same =
    λ i. one b (same 0 (omega arith)) i || some-same f g qs row (λ n within on. same (suc n) (omega (within, arith)) on) i
  where
    one : (b : Bool) → (b ≡ true → f q ≡ g q) → (f q && b) ≡ (g q && b)
    one true is = ap (λ (z : Bool). z && true) (is refl)
    one false is = and-off (f q) ∙ sym (and-off (g q))

pub some-none : (paths : List Place) (row : Bits) → some_on (λ q. false) paths row ≡ false
some-none [] row = refl
some-none (q ∷ qs) [] = refl
some-none (q ∷ qs) (b ∷ row) = some-none qs row

pub some-at : (f : Place → Bool) (paths : List Place) (row : Bits) (i : ℕ) → i < length paths → slice_index_or row i false ≡ true
    → f (place_at paths i) ≡ true → some_on f paths row ≡ true
some-at f [] row i within on h = absurd (omega (within, arith))
some-at f (q ∷ qs) [] i within on h = absurd (false≢true on)
some-at f (q ∷ qs) (b ∷ row) zero within on h = (λ j. (h j && on j) || some_on f qs row)
some-at f (q ∷ qs) (b ∷ row) (suc i) within on h = or-second (f q && b) (some-at f qs row i (omega (within, arith)) on h)
  where
    or-second : (a : Bool) → some_on f qs row ≡ true → (a || some_on f qs row) ≡ true
    or-second true h = refl
    or-second false h = h

-- one path further up
pub above-up : (paths : List Place) (row : Bits) (of : ℕ) (up : Option ℕ) → AreOnce paths → of < length paths
    → slice_index_or row of false ≡ false → MatchOption up (IsRoot paths of) (λ p. IsStepBelow paths p of)
    → some_on (above paths (Some of)) paths row ≡ some_on (above paths up) paths row
above-up paths row of None once within off root =
    some-same (above paths (Some of)) (λ q. false) paths row
    (λ i here on. above-root paths once i of here within (λ same. false≢true (sym off ∙ ap (λ (n : ℕ). slice_index_or row n false) (sym same) ∙ on)) root)
above-up paths row of (Some p) once within off step =
    some-same (above paths (Some of)) (above paths (Some p)) paths row
    (λ i here on. above-step paths once i of p here within (λ same. false≢true (sym off ∙ ap (λ (n : ℕ). slice_index_or row n false) (sym same) ∙ on)) step)

-- a mask of paths
pub both-some : (f : Place → Bool) (paths : List Place) (row : Bits) → any_both (map f paths) row ≡ some_on f paths row
both-some f [] row = refl
both-some f (q ∷ qs) [] = refl
both-some f (q ∷ qs) (b ∷ row) = ap (λ (z : Bool). (f q && b) || z) (both-some f qs row)

-- tests of which one holds
pub some-or : (f g : Place → Bool) (paths : List Place) (row : Bits) → some_on (λ q. f q || g q) paths row ≡ (some_on f paths row || some_on g paths row)
some-or f g [] row = refl
some-or f g (q ∷ qs) [] = refl
some-or f g (q ∷ qs) (b ∷ row) = ap (λ (z : Bool). ((f q || g q) && b) || z) (some-or f g qs row) ∙ one (f q) (g q) b (some_on f qs row) (some_on g qs row)
  where
    one : (f g b x y : Bool) → (((f || g) && b) || (x || y)) ≡ (((f && b) || x) || ((g && b) || y))
    one true g true x y = refl
    one true true false x y = refl
    one true false false x y = refl
    one false true true true y = refl
    one false true true false y = refl
    one false true false x y = refl
    one false false b x y = refl

pub some-if : (b : Bool) (f : Place → Bool) (paths : List Place) (row : Bits) → some_on (λ q. b && f q) paths row ≡ (b && some_on f paths row)
some-if true f paths row = refl
some-if false f paths row = some-none paths row
