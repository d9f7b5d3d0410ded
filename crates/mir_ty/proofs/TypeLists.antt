-- Lists of types in which each type stands once.
use Rattle.std.proofs.Common.{◌≡◌, ℕ, ◌<◌, List, [], ◌∷◌, ◌++◌, take, length, slice_get, Some, Contains, ◌⊎◌, inl, inr, sym, ap, ◌∙◌, arith}
use Rattle.std.proofs.lemmas.Option.{slice_get_within, slice_get-get_or}
use Rattle.std.proofs.lemmas.List.{length-take, get_or-take}
use Rattle.mir_ty.specs.declared.ty.Ty.{Ty}
use Rattle.mir_ty.specs.AreItems.{AreDistinct}
use Rattle.mir_ty.proofs.ListLemmas.{slice_get-push_cases, Contains-slice_get}

-- a type does not stand before its place
pub not_before : (types : List Ty) (i : ℕ) (t : Ty) → AreDistinct types → slice_get types i ≡ Some t → Contains (take i types) t → ⊥
not_before types i t distinct is has =
    let below : has.0 < i = omega (arith, has.1, length-take i types) in
    let within = slice_get_within types i t is in
    let earlier : slice_get types has.0 ≡ Some t = slice_get-get_or types has.0 t (omega arith) ∙ ap Some (sym (get_or-take i types has.0 t below) ∙ has.2) in
    let same = distinct has.0 i t earlier is in
    absurd (omega arith)

-- a new type may be added
pub AreDistinct-push : (types : List Ty) (t : Ty) → AreDistinct types → ¬ Contains types t → AreDistinct (types ++ t ∷ [])
AreDistinct-push types t distinct absent i j u at_i at_j = by (slice_get-push_cases types t i u at_i) (slice_get-push_cases types t j u at_j)
  where
    by : (slice_get types i ≡ Some u) ⊎ ((i ≡ length types) × (t ≡ u)) → (slice_get types j ≡ Some u) ⊎ ((j ≡ length types) × (t ≡ u)) → i ≡ j
    by (inl a) (inl b) = distinct i j u a b
    by (inl a) (inr b) = absurd (absent (Contains-slice_get types i t (a ∙ ap Some (sym b.1))))
    by (inr a) (inl b) = absurd (absent (Contains-slice_get types j t (b ∙ ap Some (sym a.1))))
    by (inr a) (inr b) = a.0 ∙ sym b.0
