use Rattle.std.specs.Bool.{⊤}
use Rattle.std.proofs.lemmas.Bool.{MatchBool-at_false}
use Rattle.mir_ty.proofs.KnownLemmas.{all_shown}
use Rattle.name_table.specs.Holding.{hold_rule}
use Rattle.name_table.proofs.HeldTypes.{hold_growing}
use Rattle.name_table.proofs.containment.settle.Goals as goal

pub returns : goal.returns
returns c =
    let settled = MatchBool-at_false ⊤ _ c.loop-part-test.false c.note.ensures.settled in
    all_shown c.args.items.now.types (hold_rule c.args.items.now c.args.part) (hold_growing c.args.items.now c.args.part) c.note.new.known c.note.ensures.shown settled
