-- How a type stands to the one that is required, in Rust as the rules of typing see it.
use Rattle.std.specs.Prelude.{◌≡◌, ℕ, Bool, ◌==◌, ◌&&◌, List}
use Rattle.std.specs.HashSet.{HashSet}
use Rattle.std.specs.List.{list_any}
use Rattle.mir_ty.specs.declared.def.ImplDef.{ImplDef}
use Rattle.typing_rules.specs.Places as places
use Rattle.typeck_env.specs.declared.impls.Fit as rust
use Rattle.typeck_env.specs.declared.impls.ImplPair.{ImplPair}

abbrev pub fit_of : rust.Fit → places.Fit
fit_of rust.Fit.Fits = places.Fits
fit_of (rust.Fit.Coerced trait_no) = places.Coerced trait_no
fit_of rust.Fit.Differs = places.Differs

abbrev pub is_pair : ℕ → ℕ → ImplPair → Bool
is_pair trait_no adt pair = pair.trait_no == trait_no && pair.adt == adt

abbrev pub is_impl : ℕ → ℕ → ImplDef → Bool
is_impl trait_no adt def = def.trait_no == trait_no && def.adt == adt

-- the pairs are those of the impls
abbrev pub HasImpls : {S : Type 0} → HashSet ImplPair S → List ImplDef → Type 0
HasImpls pairs impls = (trait_no adt : ℕ) → list_any (is_pair trait_no adt) pairs.keys ≡
    list_any (is_impl trait_no adt) impls
