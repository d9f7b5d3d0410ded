use Rattle.std.proofs.Common.{get_or, sym, ◌∙◌, arith}
use Rattle.std.proofs.lemmas.Option.{slice_get-get_or}
use Rattle.mir_ty.specs.declared.ty.Ty.{Ty}
use Rattle.cfg_graph.specs.WellFormed.Questions.{rule_for}
use Rattle.cfg_graph.proofs.Growing.{rule_for-growing}
use Rattle.cfg_graph.proofs.Noting.{noting_yes, noting_no, noting_last}
use Rattle.cfg_graph.proofs.type_faults.note.Goals as goal
use Rattle.cfg_graph.proofs.type_faults.note.Goals.{then-is_news, else-is_news}

pub loop-n-preserved : goal.loop-n-preserved
loop-n-preserved c =
    let types = c.args.items.now.types in
    let at = slice_get-get_or types c.loop-n.n Ty.Bool (omega arith) in
    let rule = rule_for c.args.items.now c.args.question in
    let growing = rule_for-growing c.args.items.now c.args.question in
    elim c.if-is_news.branch [
      | then-is_news w ↦ rw (w.known-is, w.noted-is)
          (noting_yes types rule growing c.args.known.now c.loop-n.known c.loop-n.noted c.loop-n.n (get_or types c.loop-n.n Ty.Bool) at (sym (c.is_news.ensures _ at) ∙ w.if-is_news.true) c.loop-n.invariant)
      | else-is_news w ↦ rw (w.known-is, w.noted-is)
          (noting_no types rule growing c.args.known.now c.loop-n.known c.loop-n.noted c.loop-n.n (get_or types c.loop-n.n Ty.Bool) at (sym (c.is_news.ensures _ at) ∙ w.if-is_news.false) c.loop-n.invariant)
    ]

pub returns-clause-settled : goal.returns-clause-settled
returns-clause-settled c =
    noting_last c.args.items.now.types (rule_for c.args.items.now c.args.question) c.args.known.now c.loop-n.known c.loop-n.noted c.loop-n.n (omega arith) c.loop-n.invariant
