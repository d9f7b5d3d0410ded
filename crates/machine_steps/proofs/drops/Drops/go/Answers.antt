use Rattle.std.proofs.Common.{◌≡◌, List, ◌++◌, ◌∷◌, [], Option, refl, ap, subst, ◌∙◌, MatchOption}
use Rattle.machine_steps.specs.declared.level.Level.{Level}
use Rattle.std.proofs.lemmas.Result.{IfOk-weaker}
use Rattle.machine_steps.proofs.TurnsLeft.{goes_content, goes_parts}
use Rattle.machine_steps.proofs.drops.Drops.go.Goals as goal

-- the last level was taken off
abbrev Popped : List Level → List Level → Option Level → Type 0
Popped old new last = MatchOption last ((old ≡ []) × (new ≡ [])) (λ level. old ≡ new ++ level ∷ [])

pub returns-in-Some-Content : goal.returns-in-Some-Content
returns-in-Some-Content c =
    goes_content c.args.items.now c.args.now c.args.self.now (record c.args.self.now { levels = c.pop.new.self }) c.in-Some-Content.dynamic (subst (λ o. Popped c.args.self.now.levels c.pop.new.self o) c.in-Some-Content.is c.pop.ensures ∙ ap (λ level. c.pop.new.self ++ level ∷ []) c.in-Some-Content.field-0-is) refl

pub returns-in-Some-Parts : goal.returns-in-Some-Parts
returns-in-Some-Parts c =
    IfOk-weaker c.go_part.result _ _
    (λ turn f. goes_parts c.args.items.now c.args.now c.args.self.now (record c.args.self.now { levels = c.pop.new.self }) c.go_part.new.self turn c.in-Some-Parts.dynamic c.in-Some-Parts.variant c.in-Some-Parts.next c.in-Some-Parts.total c.in-Some-Parts.ticks
    (subst (λ o. Popped c.args.self.now.levels c.pop.new.self o) c.in-Some-Parts.is c.pop.ensures ∙ ap (λ level. c.pop.new.self ++ level ∷ []) c.in-Some-Parts.field-0-is) refl f)
    c.go_part.ensures
