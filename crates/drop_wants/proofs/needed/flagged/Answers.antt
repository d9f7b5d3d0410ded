use Rattle.std.proofs.Common.{◌∙◌, ℕ, List, length, map, ap, subst, sym}
use Rattle.std.proofs.lemmas.Result.{IfOk-weaker}
use Rattle.store_model.specs.Places.Place as plain
use Rattle.cfg_graph.specs.Places.{named}
use Rattle.cfg_graph.specs.declared.place.Place.{Place}
use Rattle.drop_elaborate.specs.Kinds.{AreFlagged}
use Rattle.drop_wants.specs.Marks.{IsWanted}
use Rattle.drop_wants.proofs.Chosen.{chosen-none}
use Rattle.drop_wants.proofs.Flagging.{flagged-are}
use Rattle.drop_wants.proofs.needed.flagged.Goals as goal

pub returns-then-is_off : goal.returns-then-is_off
returns-then-is_off c =
    let items = c.args.items.now in
    let body = c.args.body.now in
    let forest = c.args.told.now.forest in
    let row = c.in_ok-row.row in
    let want : IsWanted (length forest.paths) c.args.decided.now row =
    subst (λ (n : ℕ). IsWanted n c.args.decided.now row) c.len.ensures.len c.in_ok-row.ensures in
    subst (λ (z : List plain.Place). AreFlagged items body forest.paths z)
    (chosen-none row forest.paths (c.is_off.ensures c.if-is_off.true) ∙ sym (ap (λ (l : List Place). map named l) c.new.ensures))
    (flagged-are items body c.requires.ready forest c.requires.told.forest c.args.decided.now c.requires.decided row want)

pub chosen-requires : goal.chosen-requires
chosen-requires c = c.in_ok-row.ensures.long ∙ c.len.ensures.len

pub returns : goal.returns
returns c =
    let items = c.args.items.now in
    let body = c.args.body.now in
    let forest = c.args.told.now.forest in
    let row = c.in_ok-row.row in
    let want : IsWanted (length forest.paths) c.args.decided.now row =
    subst (λ (n : ℕ). IsWanted n c.args.decided.now row) c.len.ensures.len c.in_ok-row.ensures in
    IfOk-weaker c.chosen.result _ _
    (λ some h. subst (λ (z : List plain.Place). AreFlagged items body forest.paths z) (sym h)
    (flagged-are items body c.requires.ready forest c.requires.told.forest c.args.decided.now c.requires.decided row want))
    c.chosen.ensures
