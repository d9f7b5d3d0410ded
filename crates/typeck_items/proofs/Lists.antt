-- Lists of types, compared one by one.
use Rattle.std.proofs.Common.{◌≡◌, ◌≢◌, suc, ◌&&◌, Bool, true, false, List, [], ◌∷◌, length, refl, ap, ◌∙◌}
use Rattle.mir_ty.specs.declared.ty.TyId.{TyId}
use Rattle.well_typed.specs.Types.{are_same, is_same}

pub unequal : (some others : List TyId) → length some ≢ length others → are_same some others ≡ false
unequal [] [] differs = absurd (differs refl)
unequal [] (b ∷ bs) differs = refl
unequal (a ∷ as_) [] differs = refl
unequal (a ∷ as_) (b ∷ bs) differs = ap (λ x. is_same a b && x) (unequal as_ bs (λ e. differs (ap suc e))) ∙ none (is_same a b)
  where
    none : (b : Bool) → (b && false) ≡ false
    none true = refl
    none false = refl
