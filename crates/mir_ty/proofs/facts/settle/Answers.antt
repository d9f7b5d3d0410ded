use Rattle.std.specs.Bool.{⊤}
use Rattle.std.proofs.lemmas.Bool.{MatchBool-at_false}
use Rattle.mir_ty.specs.Known.{rule_of}
use Rattle.mir_ty.proofs.KnownLemmas.{all_shown}
use Rattle.mir_ty.proofs.Rules.{rule_of-growing}
use Rattle.mir_ty.proofs.facts.settle.Goals as goal

pub returns : goal.returns
returns c =
    let rule = rule_of c.args.fact c.args.adts.now c.args.closures.now in
    let growing = rule_of-growing c.args.fact c.args.adts.now c.args.closures.now in
    let settled = MatchBool-at_false ⊤ _ c.loop-fact-test.false c.note_shown.ensures.settled in
    all_shown c.args.types.now rule growing c.note_shown.new.known c.note_shown.ensures.shown settled
