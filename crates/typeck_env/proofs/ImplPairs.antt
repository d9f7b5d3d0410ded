-- The pairs of impls, one more at a time.
use Rattle.std.proofs.Common.{◌≡◌, ℕ, ◌+◌, Bool, true, not, ◌||◌, ◌&&◌, ◌==◌, List, ◌∷◌, take, slice_get, Some, MatchBool, ap, sym, ◌∙◌, arith}
use Rattle.std.specs.List.{list_any}
use Rattle.std.specs.List.Sorted.{IsPermutation}
use Rattle.std.proofs.lemmas.Bool.Decides.{nat_tests}
use Rattle.mir_ty.proofs.Sets.{any_next, put}
use Rattle.mir_ty.specs.declared.def.ImplDef.{ImplDef}
use Rattle.typeck_env.specs.Coerced.{is_impl, is_pair}
use Rattle.typeck_env.specs.declared.impls.ImplPair.{ImplPair}

abbrev same : ImplPair → ImplPair → Bool
same a b = a.trait_no == b.trait_no && a.adt == b.adt

like_key : (t a kt ka xt xa : ℕ) → (kt == t && ka == a) ≡ true → (kt == xt && ka == xa) ≡ true → (xt == t && xa == a) ≡ true
like_key t a kt ka xt xa x y = grind (arith, nat_tests)

pub noted : (key : ImplPair) (old new : List ImplPair) (added : Bool) (impls : List ImplDef) (n : ℕ) (def : ImplDef) →
    slice_get impls n ≡ Some def → key ≡ record { trait_no = def.trait_no; adt = def.adt } →
    MatchBool added (IsPermutation (key ∷ old) new) (new ≡ old) → added ≡ not (list_any (same key) old) →
    ((t a : ℕ) → list_any (is_pair t a) old ≡ list_any (is_impl t a) (take n impls)) →
    (t a : ℕ) → list_any (is_pair t a) new ≡ list_any (is_impl t a) (take (n + 1) impls)
noted key old new added impls n def at is h fresh before t a =
    put same (is_pair t a) key old new added (λ x here y. like_key t a key.trait_no key.adt x.trait_no x.adt here y) h fresh
    ∙ ap (λ b. b || is_pair t a key) (before t a)
    ∙ ap (λ (k : ImplPair). list_any (is_impl t a) (take n impls) || is_pair t a k) is
    ∙ sym (any_next (is_impl t a) impls n def at)
