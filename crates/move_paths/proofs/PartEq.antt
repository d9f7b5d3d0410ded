-- `==` of parts is equality.
use Rattle.std.proofs.Common.{◌≡◌, true, eqb, Decides, refl, ap, subst}
use Rattle.std.proofs.lemmas.Bool.{false≢true}
use Rattle.std.proofs.lemmas.Bool.Decides.{Decides-eqb}
use Rattle.std.specs.Cmp.{first_so, second_so}
use Rattle.cfg_graph.specs.declared.place.Step.{Step}
use Rattle.cfg_graph.specs.contracts.place.StepPartialEq.TheImpl as step
use Rattle.move_paths.specs.declared.parts.PathPart.{PathPart}
use Rattle.move_paths.specs.contracts.parts.PathPartPartialEq.TheImpl as part
use Rattle.move_paths.specs.contracts.parts.PathPartEq.TheImpl.Laws as parts

same_step : (a b : Step) → step.ghosts.eq a b ≡ true → a ≡ b
same_step (Step.Part m) (Step.Part n) h = ap Step.Part ((Decides-eqb m n).0 h)
same_step (Step.Part m) _ h = absurd (false≢true h)
same_step (Step.Field v m) (Step.Field u n) h = λ i. Step.Field ((Decides-eqb v u).0 (first_so (eqb v u) (eqb m n) h) i) ((Decides-eqb m n).0 (second_so (eqb v u) (eqb m n) h) i)
same_step (Step.Field v m) _ h = absurd (false≢true h)
same_step Step.Inside Step.Inside h = refl
same_step Step.Inside _ h = absurd (false≢true h)
same_step (Step.Index m) (Step.Index n) h = ap Step.Index ((Decides-eqb m n).0 h)
same_step (Step.Index m) _ h = absurd (false≢true h)

same : (a b : PathPart) → part.ghosts.eq a b ≡ true → a ≡ b
same a b h =
    let of = (Decides-eqb a.of b.of).0 (first_so (eqb a.of b.of) (step.ghosts.eq a.step b.step) h) in
    let by = same_step a.step b.step (second_so (eqb a.of b.of) (step.ghosts.eq a.step b.step) h) in
    λ i. record { of = of i; step = by i }

pub decides : (a b : PathPart) → Decides (part.ghosts.eq a b) (a ≡ b)
decides a b = (same a b, λ e. subst (λ b. part.ghosts.eq a b ≡ true) e (parts.laws-law.refl a))
