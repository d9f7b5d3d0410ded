use Rattle.std.proofs.Common.{◌≡◌, ℕ, zero, suc, List, [], ◌∷◌, length, take, inr, refl, ap, sym, subst, ◌∙◌, arith}
use Rattle.std.proofs.lemmas.Result.{IfOk-weaker}
use Rattle.machine_steps.specs.Turns.{EndsIn}
use Rattle.store_model.specs.declared.address.At.{At}
use Rattle.machine_steps.proofs.drops.container.Goals as goal

all_but_last : (path : List At) (count : ℕ) → length path ≡ suc count → EndsIn path (take count path)
all_but_last [] count e = absurd (let never : ⊥ = omega arith in never)
all_but_last (step ∷ []) zero e = record { step = step; is = refl }
all_but_last (step ∷ []) (suc count) e = absurd (let never : ⊥ = omega arith in never)
all_but_last (step ∷ other ∷ path) zero e = absurd (let never : ⊥ = omega arith in never)
all_but_last (step ∷ other ∷ path) (suc count) e =
    let h = all_but_last (other ∷ path) count (omega arith) in
    record { step = h.step; is = ap (λ p. step ∷ p) h.is }

pub returns-in-Some : goal.returns-in-Some
returns-in-Some c =
    let counted = c.in-Some.ensures in
    let some = counted.0 in
    let count_is = counted.1 in
    let same : length c.as_slice-steps.result.now ≡ length c.args.path.now = ap length c.as_slice-steps.ensures in
    IfOk-weaker c.from_slice.result _ _
    (λ above is. inr (subst (EndsIn c.args.path.now) (sym (is ∙ ap (take c.in-Some.count) c.as_slice-steps.ensures))
    (all_but_last c.args.path.now c.in-Some.count (omega (arith, some, count_is, same)))))
    c.from_slice.ensures
