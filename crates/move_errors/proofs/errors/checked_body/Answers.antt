use Rattle.std.proofs.Common.{◌≡◌, sym, subst, ◌∙◌}
use Rattle.std.proofs.lemmas.Option.{same_Some}
use Rattle.mir_ty.specs.ItemTable.{ItemTable}
use Rattle.cfg_graph.specs.declared.graph.Body.{Body}
use Rattle.move_errors.specs.GoneRows.{AreGone}
use Rattle.move_errors.specs.Reaches.{MeetsNone}
use Rattle.move_errors.specs.declared.errors.GoneMoves.{GoneMoves}
use Rattle.move_errors.proofs.Running.{accepts}
use Rattle.move_errors.proofs.errors.checked_body.Goals as goal

pub returns-in-Ok-None-clause-accepted : goal.returns-in-Ok-None-clause-accepted
returns-in-Ok-None-clause-accepted c = λ found at.
    let w = c.in_ok-solved.solved.watch in
    let e = c.in_ok-solved.ensures in
    let body : w.body.now ≡ found = same_Some w.body.now found (sym e.body ∙ at) in
    subst (λ (z : Body). MeetsNone c.args.graph.now.items z) body
    (subst (λ (z : ItemTable). MeetsNone z w.body.now) e.items
    (accepts w.items.now w.body.now w.forest w.below e.watched (c.in-Ok-None.ensures.none c.in-Ok-None.field-0-is)))

pub returns-in-Ok-None-clause-gone : goal.returns-in-Ok-None-clause-gone
returns-in-Ok-None-clause-gone c = λ found at.
    let w = c.in_ok-solved.solved.watch in
    let e = c.in_ok-solved.ensures in
    let body : w.body.now ≡ found = same_Some w.body.now found (sym e.body ∙ at) in
    subst (λ (z : Body). AreGone c.args.graph.now.items z c.handed_on.result) body
    (subst (λ (z : ItemTable). AreGone z w.body.now c.handed_on.result) e.items
    (subst (λ (g : GoneMoves). AreGone w.items.now w.body.now g) (sym c.handed_on.ensures)
    (record { forest = e.watched.is_forest; switches = e.switches; rows = e.rows })))
