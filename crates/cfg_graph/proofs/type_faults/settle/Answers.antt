use Rattle.std.specs.Bool.{⊤}
use Rattle.std.proofs.lemmas.Bool.{MatchBool-at_false}
use Rattle.mir_ty.proofs.KnownLemmas.{all_shown}
use Rattle.cfg_graph.specs.WellFormed.Questions.{rule_for}
use Rattle.cfg_graph.proofs.Growing.{rule_for-growing}
use Rattle.cfg_graph.proofs.type_faults.settle.Goals as goal

pub returns : goal.returns
returns c =
    let rule = rule_for c.args.items.now c.args.question in
    let growing = rule_for-growing c.args.items.now c.args.question in
    let settled = MatchBool-at_false ⊤ _ c.loop-question-test.false c.note.ensures.settled in
    all_shown c.args.items.now.types rule growing c.note.new.known c.note.ensures.shown settled
