use Rattle.std.proofs.Common.{◌≡◌, ◌≤◌, ◌∙◌, ℕ, List, ◌++◌, ap, sym, subst}
use Rattle.cfg_graph.specs.declared.graph.Body.{Body}
use Rattle.cfg_graph.specs.WellFormed.Faults.{IsWellFormed}
use Rattle.look_marked.specs.Marked.{marked_bodies}
use Rattle.look_marked.proofs.MarkedFaults.{marked_well_formed}
use Rattle.look_marked.proofs.marked.with_numbers.Goals as goal

pub returns-in-Ok-clause-well_formed : goal.returns-in-Ok-clause-well_formed
returns-in-Ok-clause-well_formed c =
    let own : List Body = marked_bodies 1 c.args.graph.bodies in
    let is : c.add_bodies-done.new.out ≡ own = c.in-Ok.ensures.0 ∙ ap (λ (l : List Body). l ++ own) c.new-told.ensures in
    subst (λ (bodies : List Body). IsWellFormed (record { items = c.args.graph.items; bodies = bodies })) (sym is)
    (marked_well_formed c.args.graph (subst (λ (n : ℕ). n ≤ 2147483648) c.in-Ok.ensures.1 c.if-n-le2147483648.true) c.requires)
