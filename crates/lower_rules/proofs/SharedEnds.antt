-- Ends of shared blocks that compare as the same are one.
use Rattle.std.proofs.Common.{◌≡◌, inl, inr, ℕ, ◌==◌, ◌&&◌, Bool, true, false, refl, ap, ◌∙◌, arith}
use Rattle.std.proofs.lemmas.Bool.{eqb-true}
use Rattle.std.proofs.lemmas.Bool.Decides.{eqb_tells}
use Rattle.cfg_graph.specs.declared.terminator.Unwind.{Unwind}
use Rattle.lower_rules.specs.Build.{SharedEnd, Resumes, GoesTo, DropsThen, same_unwind, same_end}

and_true : (a b : Bool) → (a && b) ≡ true → (a ≡ true) × (b ≡ true)
and_true true b e = (refl, e)
and_true false b e = absurd (let never : false ≡ true = e in cc)

unwinds_same : (u w : Unwind) → same_unwind u w ≡ true → u ≡ w
unwinds_same (Unwind.Block n) (Unwind.Block m) e = ap Unwind.Block (eqb-true n m e)
unwinds_same (Unwind.Block n) Unwind.Resume e = absurd (let never : false ≡ true = e in cc)
unwinds_same (Unwind.Block n) Unwind.Abort e = absurd (let never : false ≡ true = e in cc)
unwinds_same Unwind.Resume (Unwind.Block m) e = absurd (let never : false ≡ true = e in cc)
unwinds_same Unwind.Resume Unwind.Resume e = refl
unwinds_same Unwind.Resume Unwind.Abort e = absurd (let never : false ≡ true = e in cc)
unwinds_same Unwind.Abort (Unwind.Block m) e = absurd (let never : false ≡ true = e in cc)
unwinds_same Unwind.Abort Unwind.Resume e = absurd (let never : false ≡ true = e in cc)
unwinds_same Unwind.Abort Unwind.Abort e = refl

pub ends_same : (d e : SharedEnd) → same_end d e ≡ true → d ≡ e
ends_same Resumes Resumes h = refl
ends_same Resumes (GoesTo m) h = absurd (let never : false ≡ true = h in cc)
ends_same Resumes (DropsThen y m w) h = absurd (let never : false ≡ true = h in cc)
ends_same (GoesTo n) Resumes h = absurd (let never : false ≡ true = h in cc)
ends_same (GoesTo n) (GoesTo m) h = ap GoesTo (eqb-true n m h)
ends_same (GoesTo n) (DropsThen y m w) h = absurd (let never : false ≡ true = h in cc)
ends_same (DropsThen x n u) Resumes h = absurd (let never : false ≡ true = h in cc)
ends_same (DropsThen x n u) (GoesTo m) h = absurd (let never : false ≡ true = h in cc)
ends_same (DropsThen x n u) (DropsThen y m w) h =
    let one = and_true (x == y) ((n == m) && same_unwind u w) h in
    let two = and_true (n == m) (same_unwind u w) one.1 in
    λ i. DropsThen (eqb-true x y one.0 i) (eqb-true n m two.0 i) (unwinds_same u w two.1 i)

pub equal_itself : (n : ℕ) → (n == n) ≡ true
equal_itself n = elim (eqb_tells n n) [ inl same ↦ same.0 | inr other ↦ absurd (let apart = other.1 in let never : ⊥ = omega arith in never) ]

unwind_itself : (u : Unwind) → same_unwind u u ≡ true
unwind_itself (Unwind.Block n) = equal_itself n
unwind_itself Unwind.Resume = refl
unwind_itself Unwind.Abort = refl

pub end_itself : (e : SharedEnd) → same_end e e ≡ true
end_itself Resumes = refl
end_itself (GoesTo n) = equal_itself n
end_itself (DropsThen x n u) =
    ap (λ b. b && ((n == n) && same_unwind u u)) (equal_itself x) ∙ ap (λ b. b && same_unwind u u) (equal_itself n) ∙ unwind_itself u
