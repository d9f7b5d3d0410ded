-- Lists of which the first elements, so many, are changed; and so plans of parts and of variants with other numbers of flags.
use Rattle.std.proofs.Common.{◌≡◌, ◌∙◌, ◌∷◌, [], ◌+◌, ◌≤◌, ℕ, zero, suc, List, Some, length, map, slice_get, refl, sym, ap, arith}
use Rattle.std.specs.Prelude.{slice_set}
use Rattle.std.proofs.lemmas.Option.{none-some, same_Some}
use Rattle.drop_values.specs.Plan.{Plan, Plans, a_plan, a_case}
use Rattle.drop_blocks.specs.View.{plans_from, cases_from}
use Rattle.drop_wants.specs.Renumbered.{renumbered, all_renumbered, each_renumbered}

abbrev pub changed_to : {X : Type 0} (f : X → X) → ℕ → List X → List X
changed_to f zero xs = xs
changed_to f (suc n) [] = []
changed_to f (suc n) (x ∷ xs) = f x ∷ changed_to f n xs

pub changed-long : {X : Type 0} (f : X → X) (n : ℕ) (xs : List X) → length (changed_to f n xs) ≡ length xs
changed-long f zero xs = refl
changed-long f (suc n) [] = refl
changed-long f (suc n) (x ∷ xs) = ap suc (changed-long f n xs)

changed-more : {X : Type 0} (f : X → X) (n : ℕ) (xs : List X) (x : X) → slice_get (changed_to f n xs) n ≡ Some x →
    slice_set (changed_to f n xs) n (f x) ≡ changed_to f (suc n) xs
changed-more f zero [] x at = absurd (none-some x at)
changed-more f zero (y ∷ xs) x at = (let same = same_Some y x at in λ i. f (sym same i) ∷ xs)
changed-more f (suc n) [] x at = absurd (none-some x at)
changed-more f (suc n) (y ∷ xs) x at = ap (λ (l : List _). f y ∷ l) (changed-more f n xs x at)

changed-all : {X : Type 0} (f : X → X) (n : ℕ) (xs : List X) → length xs ≤ n → changed_to f n xs ≡ map f xs
changed-all f zero [] far = refl
changed-all f zero (x ∷ xs) far = absurd (omega (far, arith))
changed-all f (suc n) [] far = refl
changed-all f (suc n) (x ∷ xs) far = ap (λ (l : List _). f x ∷ l) (changed-all f n xs (omega (far, arith)))

map-set : {X Y : Type 0} (g : X → Y) (xs : List X) (n : ℕ) (x : X) → map g (slice_set xs n x) ≡ slice_set (map g xs) n (g x)
map-set g [] n x = refl
map-set g (y ∷ xs) zero x = refl
map-set g (y ∷ xs) (suc n) x = ap (λ (l : List _). g y ∷ l) (map-set g xs n x)

map-get : {X Y : Type 0} (g : X → Y) (xs : List X) (n : ℕ) (x : X) → slice_get xs n ≡ Some x → slice_get (map g xs) n ≡ Some (g x)
map-get g [] n x at = absurd (none-some x at)
map-get g (y ∷ xs) zero x at = ap (λ (z : _). Some (g z)) (same_Some y x at)
map-get g (y ∷ xs) (suc n) x at = map-get g xs n x at

-- one element more, as it is seen
pub seen-more : {X Y : Type 0} (g : X → Y) (f : Y → Y) (now : List X) (was : List Y) (n : ℕ) (old new : X) →
    map g now ≡ changed_to f n was → slice_get now n ≡ Some old → g new ≡ f (g old) →
    map g (slice_set now n new) ≡ changed_to f (n + 1) was
seen-more g f now was n old new so_far at is =
    map-set g now n new ∙ (λ i. slice_set (so_far i) n (is i))
    ∙ changed-more f n was (g old) (ap (λ l. slice_get l n) (sym so_far) ∙ map-get g now n old at)
    ∙ ap (λ (m : ℕ). changed_to f m was) (let next : suc n ≡ n + 1 = omega arith in next)

module _ (number : ℕ → ℕ) where
  parts-changed : (plans : List Plan) → plans_from (map (renumbered number) plans) ≡ all_renumbered number (plans_from plans)
  parts-changed [] = refl
  parts-changed (plan ∷ plans) = ap (a_plan (renumbered number plan)) (parts-changed plans)

  cases-changed : (parts : List Plans) (n : ℕ) →
      cases_from (map (all_renumbered number) parts) n ≡ each_renumbered number (cases_from parts n)
  cases-changed [] n = refl
  cases-changed (first ∷ rest) n = ap (a_case n (all_renumbered number first)) (cases-changed rest (suc n))

  pub parts-end : (now was : List Plan) (n : ℕ) → now ≡ changed_to (renumbered number) n was → length was ≤ n →
      plans_from now ≡ all_renumbered number (plans_from was)
  parts-end now was n is far = ap plans_from (is ∙ changed-all (renumbered number) n was far) ∙ parts-changed was

  pub cases-end : (now was : List Plans) (n : ℕ) → now ≡ changed_to (all_renumbered number) n was → length was ≤ n →
      cases_from now 0 ≡ each_renumbered number (cases_from was 0)
  cases-end now was n is far =
      ap (λ l. cases_from l 0) (is ∙ changed-all (all_renumbered number) n was far) ∙ cases-changed was 0
