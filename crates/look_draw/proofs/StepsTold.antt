-- A step is told where something is decided.
use Rattle.std.proofs.Common.{◌≡◌, ◌==◌, true, false, ℕ, suc, List, [], ◌∷◌, ◌++◌, length, refl, sym, arith}
use Rattle.std.proofs.lemmas.Bool.{eqb-true, false≢true}
use Rattle.mir_base.specs.Lines.{line}
use Rattle.look_draw.specs.Steps.{told_if_any}

pub told_none : (decided by place : List ℕ) → (length decided == 0) ≡ true → told_if_any decided by place ≡ []
told_none [] by place e = refl
told_none (byte ∷ decided) by place e =
    let none : suc (length decided) ≡ 0 = eqb-true (suc (length decided)) 0 e in
    absurd (let never : ⊥ = omega (none, arith) in never)

pub told_some : (decided by place : List ℕ) → (length decided == 0) ≡ false →
    told_if_any decided by place ≡ line (by ++ place ++ decided)
told_some [] by place e = absurd (false≢true (sym e))
told_some (byte ∷ decided) by place e = refl
