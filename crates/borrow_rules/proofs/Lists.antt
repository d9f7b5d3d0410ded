-- Tests along lists, and lists that are gone through.
use Rattle.std.proofs.Common.{◌≡◌, ℕ, ◌+◌, ◌<◌, Bool, true, false, ◌||◌, ◌&&◌, ◌==◌, List, [], ◌∷◌, ◌++◌, length, get_or, map, drop, Option, Some, None, slice_get, if◌then◌else◌, refl, ap, sym, ◌∙◌, inl, inr, add-one, append_assoc}
use Rattle.std.specs.List.{list_any, filter_map, cons_option}
use Rattle.std.specs.Option.{option_map_or}
use Rattle.std.proofs.Math.ListN.{drop_of_length-le}
use Rattle.std.proofs.lemmas.List.{at_drop_more}
use Rattle.std.proofs.lemmas.Option.{get_or_from_slice_get, slice_get_cases, slice_get_within}
use Rattle.mir_ty.specs.declared.def.ImplDef.{ImplDef}
use Rattle.typed_tree.specs.Tree.{BodyTree}
use Rattle.typed_tree.specs.View.{param_tree}
use Rattle.typed_tree.specs.declared.body.Param as rust
use Rattle.typing_rules.specs.Replaced.{BodyParameter, Facts, facts_from, facts_of, is_among, method_in}
use Rattle.borrow_rules.specs.Found.{method_found}

some_none : {X : Type 0} (x : X) → ◌≡◌ {A = Option X} (Some x) None → ⊥
some_none x h = absurd (cc)

-- the element at a place, and those behind it
pub next_of : {X Y : Type 0} (F : List X → Y) (xs : List X) (n : ℕ) (x : X) → slice_get xs n ≡ Some x → F (drop n xs) ≡ F (x ∷ drop (n + 1) xs)
next_of F xs n x at =
    at_drop_more F xs n x (slice_get_within xs n x at) ∙ ap (λ y. F (y ∷ drop (n + 1) xs)) (get_or_from_slice_get xs n x x at)

pub past_all : {X : Type 0} (xs : List X) (n : ℕ) → slice_get xs n ≡ None → drop n xs ≡ []
past_all xs n none =
    elim (slice_get_cases xs n).1 [
      | inl there ↦ absurd (some_none there.0 (sym there.2 ∙ none))
      | inr past ↦ drop_of_length-le xs past.0
    ]

pub any_next : {X : Type 0} (test : X → Bool) (xs : List X) (n : ℕ) (x : X) → slice_get xs n ≡ Some x → list_any test (drop n xs) ≡ (test x || list_any test (drop (n + 1) xs))
any_next test xs n x at = next_of (list_any test) xs n x at

-- ---- methods of impls

module _ (params : List BodyParameter) (trait_no method number : ℕ) where
  one : (b : Bool) (o : Option ℕ) (rest : List ℕ) → list_any (is_among params number) (cons_option (if b then o else None) rest) ≡ ((b && option_map_or (is_among params number) o false) || list_any (is_among params number) rest)
  one true (Some body) rest = refl
  one true None rest = refl
  one false o rest = refl

  pub any_method : (impls : List ImplDef) → list_any (is_among params number) (filter_map (method_in trait_no method) impls) ≡ list_any (method_found params trait_no method number) impls
  any_method [] = refl
  any_method (def ∷ impls) =
      one (def.trait_no == trait_no) (slice_get def.bodies method) (filter_map (method_in trait_no method) impls)
      ∙ ap (λ r. method_found params trait_no method number def || r) (any_method impls)

-- ---- facts of parameters

pub fact_more : (B : BodyTree) (before : List Facts) (fact : Facts) (number next : ℕ) (params : List rust.Param) (i : ℕ) (d : rust.Param) (all : List Facts) → i < length params → d ≡ get_or params i d → fact ≡ facts_of B number (param_tree d) → next ≡ number + 1 → (before ++ facts_from B number (map param_tree (drop i params))) ≡ all → ((before ++ fact ∷ []) ++ facts_from B next (map param_tree (drop (i + 1) params))) ≡ all
fact_more B before fact number next params i d all within is made after so_far =
    append_assoc before (fact ∷ []) (facts_from B next (map param_tree (drop (i + 1) params)))
    ∙ ap (λ (l : List Facts). before ++ l)
    (ap (λ (f : Facts). f ∷ facts_from B next (map param_tree (drop (i + 1) params))) made
    ∙ ap (λ (k : ℕ). facts_of B number (param_tree d) ∷ facts_from B k (map param_tree (drop (i + 1) params))) (after ∙ add-one number)
    ∙ ap (λ (p : rust.Param). facts_from B number (map param_tree (p ∷ drop (i + 1) params))) is
    ∙ sym (at_drop_more (λ (l : List rust.Param). facts_from B number (map param_tree l)) params i d within))
    ∙ so_far
