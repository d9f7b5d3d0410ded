use Rattle.std.proofs.Common.{◌≡◌, ◌-◌, get_or, sym, ◌∙◌, arith}
use Rattle.std.proofs.lemmas.Option.{slice_get-get_or}
use Rattle.mir_ty.specs.declared.ty.Ty.{Ty}
use Rattle.mir_ty.specs.Known.{rule_of}
use Rattle.mir_ty.proofs.KnownLemmas.{noting_yes, noting_no, noting_last}
use Rattle.mir_ty.proofs.Rules.{rule_of-growing}
use Rattle.mir_ty.proofs.facts.note_shown.Goals as goal

pub loop-n-preserved-then-is_news : goal.loop-n-preserved-then-is_news
loop-n-preserved-then-is_news c =
    let types = c.args.types.now in
    let n = c.loop-n.n - 1 in
    let at = slice_get-get_or types n Ty.Bool (omega arith) in
    noting_yes types (rule_of c.args.fact c.args.adts.now c.args.closures.now) (rule_of-growing c.args.fact c.args.adts.now c.args.closures.now) c.args.known.now c.loop-n.known c.loop-n.noted n c.loop-n.n
    (omega arith) (get_or types n Ty.Bool) at (sym (c.is_news.ensures _ at) ∙ c.if-is_news.true) c.loop-n.invariant

pub loop-n-preserved : goal.loop-n-preserved
loop-n-preserved c =
    let types = c.args.types.now in
    let n = c.loop-n.n - 1 in
    let at = slice_get-get_or types n Ty.Bool (omega arith) in
    noting_no types (rule_of c.args.fact c.args.adts.now c.args.closures.now) (rule_of-growing c.args.fact c.args.adts.now c.args.closures.now) c.args.known.now c.loop-n.known c.loop-n.noted n c.loop-n.n
    (omega arith) (get_or types n Ty.Bool) at (sym (c.is_news.ensures _ at) ∙ c.if-is_news.false) c.loop-n.invariant

pub returns-clause-settled : goal.returns-clause-settled
returns-clause-settled c =
    let rule = rule_of c.args.fact c.args.adts.now c.args.closures.now in
    let done : c.loop-n.n ≡ 0 = omega arith in
    noting_last c.args.types.now rule c.args.known.now c.loop-n.known c.loop-n.noted (rw done at c.loop-n.invariant)
