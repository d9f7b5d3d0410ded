use Rattle.std.proofs.Common.{◌≡◌, ◌-◌, get_or, sym, ◌∙◌, arith}
use Rattle.std.proofs.lemmas.Option.{slice_get-get_or}
use Rattle.mir_ty.specs.declared.ty.Ty.{Ty}
use Rattle.mir_ty.proofs.KnownLemmas.{noting_yes, noting_no, noting_last}
use Rattle.name_table.specs.Holding.{hold_rule}
use Rattle.name_table.proofs.HeldTypes.{hold_growing}
use Rattle.name_table.proofs.containment.note.Goals as goal

pub loop-n-preserved-then-is_news : goal.loop-n-preserved-then-is_news
loop-n-preserved-then-is_news c =
    let types = c.args.items.now.types in
    let n = c.loop-n.n - 1 in
    let at = slice_get-get_or types n Ty.Bool (omega arith) in
    noting_yes types (hold_rule c.args.items.now c.args.part) (hold_growing c.args.items.now c.args.part) c.args.known.now c.loop-n.known c.loop-n.noted n c.loop-n.n
    (omega arith) (get_or types n Ty.Bool) at (sym (c.is_news.ensures _ at) ∙ c.if-is_news.true) c.loop-n.invariant

pub loop-n-preserved : goal.loop-n-preserved
loop-n-preserved c =
    let types = c.args.items.now.types in
    let n = c.loop-n.n - 1 in
    let at = slice_get-get_or types n Ty.Bool (omega arith) in
    noting_no types (hold_rule c.args.items.now c.args.part) (hold_growing c.args.items.now c.args.part) c.args.known.now c.loop-n.known c.loop-n.noted n c.loop-n.n
    (omega arith) (get_or types n Ty.Bool) at (sym (c.is_news.ensures _ at) ∙ c.if-is_news.false) c.loop-n.invariant

pub returns-clause-settled : goal.returns-clause-settled
returns-clause-settled c =
    let done : c.loop-n.n ≡ 0 = omega arith in
    noting_last c.args.items.now.types (hold_rule c.args.items.now c.args.part) c.args.known.now c.loop-n.known c.loop-n.noted (rw done at c.loop-n.invariant)
