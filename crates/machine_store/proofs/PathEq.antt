-- `==` of steps is equality, so a path is compared as it is.
use Rattle.std.proofs.Common.{◌≡◌, Bool, true, false, List, Decides, refl, ap, sym, subst, drop, length}
use Rattle.std.specs.List.{starts_with}
use Rattle.std.proofs.lemmas.Bool.{false≢true}
use Rattle.std.proofs.lemmas.Bool.Decides.{Decides-eqb}
use Rattle.std.proofs.lemmas.Slice.Eq.{starts_is}
use Rattle.machine_store.proofs.Marks.{leads_Decides}
use Rattle.machine_store.specs.Marks.{leads_into}
use Rattle.store_model.specs.declared.address.At.{At}
use Rattle.store_model.specs.declared.address.At.TheVariants.{Part, Inside}
use Rattle.store_model.specs.contracts.address.AtPartialEq.TheImpl as step
use Rattle.store_model.specs.contracts.address.AtEq.TheImpl.Laws as steps

same_step : (a b : At) → step.ghosts.eq a b ≡ true → a ≡ b
same_step (Part n) (Part m) h = ap Part ((Decides-eqb n m).0 h)
same_step (Part n) Inside h = absurd (false≢true h)
same_step Inside (Part m) h = absurd (false≢true h)
same_step Inside Inside h = refl

pub step_Decides : (a b : At) → Decides (step.ghosts.eq a b) (a ≡ b)
step_Decides a b = (same_step a b, λ e. subst (λ b. step.ghosts.eq a b ≡ true) e (steps.laws-law.refl a))

pub leads_told : (path place : List At) (answer : Bool) → answer ≡ starts_with step.ghosts.eq path place → answer ≡ leads_into path place
leads_told path place true e = sym ((leads_Decides path place).1 (drop (length place) path, (starts_is step_Decides path place true e).0 refl))
leads_told path place false e = go (leads_into path place) refl
  where
    go : (b : Bool) → leads_into path place ≡ b → false ≡ leads_into path place
    go false l = sym l
    go true l = let leads = (leads_Decides path place).0 l in absurd (false≢true ((starts_is step_Decides path place false e).1 leads.0 leads.1))
