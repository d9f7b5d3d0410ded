-- The breaks out of a loop.
use Rattle.std.proofs.Common.{◌≡◌, ℕ, List, [], ◌∷◌, if◌then◌else◌, Result, Ok, Err, refl, ap}
use Rattle.std.specs.Prelude.{◌==◌}
use Rattle.mir_ty.specs.declared.ty.TyId.{TyId}
use Rattle.typing_rules.specs.Check.{TypingState, Broken, types_of_breaks}
use Rattle.typeck_exprs.specs.Breaks.{carried_by}

abbrev types_in : Result (List TyId × TypingState) Broken → List TyId
types_in (Ok a) = a.0
types_in (Err e) = []

types_among : (loop : ℕ) (s : TypingState) (bs : List (ℕ × TyId)) →
    types_in (types_of_breaks loop (record s { breaks = bs })) ≡ carried_by loop bs
types_among loop s [] = refl
types_among loop s (b ∷ bs) =
    ap (λ tys. if b.0 == loop then b.1 ∷ tys else tys) (types_among loop s bs)

pub types_are : (loop : ℕ) (s : TypingState) → types_of_breaks loop s ≡ Ok (carried_by loop s.breaks, s)
types_are loop s = ap (λ tys. Ok (tys, s)) (types_among loop s s.breaks)
