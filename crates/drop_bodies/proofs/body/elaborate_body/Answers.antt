use Rattle.std.proofs.Common.{ℕ, List, length, replicate, ap, subst, sym, arith}
use Rattle.std.proofs.lemmas.List.{length-append, length-map, length-replicate}
use Rattle.cfg_graph.specs.Places.{named}
use Rattle.mir_ty.specs.declared.ty.TyId.{TyId}
use Rattle.drop_elaborate.specs.Elaborated as rules
use Rattle.drop_flags.specs.Flags.{paths_of}
use Rattle.drop_bodies.proofs.Counting.{how-at, totals-are}
use Rattle.drop_bodies.proofs.Finishing.{elaborated-so}
use Rattle.drop_bodies.proofs.WholeBody.{adds-no-fault}
use Rattle.drop_bodies.specs.Counts.{totals_of}
use Rattle.drop_bodies.specs.Laid.{IsFinished}
use Rattle.drop_bodies.proofs.body.elaborate_body.Goals as goal

pub finished-requires-clause-room : goal.finished-requires-clause-room
finished-requires-clause-room c = c.requires.planned.2.room

pub finished-requires-clause-flags : goal.finished-requires-clause-flags
finished-requires-clause-flags c = (c.requires.planned.0, c.requires.planned.2.flags)

pub finished-requires-clause-decided : goal.finished-requires-clause-decided
finished-requires-clause-decided c = c.requires.planned.2.decided.long

pub returns-clause-elaborated : goal.returns-clause-elaborated
returns-clause-elaborated c items ready planned flag =
    let body = c.args.body in
    let plan = c.args.planned.now.plan in
    let made = c.in_ok-exact.ensures in
    let finished = subst (λ (n : ℕ). IsFinished body made.blocks made.new.blocks made.sizes c.args.flag_ty n c.in_ok-exact.exact)
    (sym (length-map plan.flags.paths named)) made.finished in
    elaborated-so items body ready planned.forest planned.is_forest (paths_of plan.flags) planned.flagged plan.decided
    planned.decided made.blocks made.new (made.done items planned.flags) made.sizes made.laid c.args.flag_ty flag
    c.in_ok-exact.exact finished

pub returns-clause-faultless : goal.returns-clause-faultless
returns-clause-faultless c items ready planned flag =
    let body = c.args.body in
    let plan = c.args.planned.now.plan in
    let made = c.in_ok-exact.ensures in
    let finished = subst (λ (n : ℕ). IsFinished body made.blocks made.new.blocks made.sizes c.args.flag_ty n c.in_ok-exact.exact)
    (sym (length-map plan.flags.paths named)) made.finished in
    adds-no-fault items body ready planned.forest planned.is_forest (paths_of plan.flags) planned.flagged plan.decided
    planned.decided made.blocks made.new (made.done items planned.flags) (made.ended items planned.flags) made.sizes made.laid
    c.args.flag_ty flag c.in_ok-exact.exact finished

pub returns-clause-counts : goal.returns-clause-counts
returns-clause-counts c items ready planned =
    let body = c.args.body in
    let plan = c.args.planned.now.plan in
    let made = c.in_ok-exact.ensures in
    let flags = length plan.flags.paths in
    let all = ap (λ (l : List TyId). length l) made.finished.locals in
    let parts = length-append body.locals (replicate flags c.args.flag_ty) in
    let each = length-replicate flags c.args.flag_ty in
    totals-are items body planned.forest planned.is_forest (rules.flag_of items body (paths_of plan.flags) planned.forest.paths)
    plan.decided planned.decided (how-at body plan.decided planned.decided.long) c.in_ok-exact.exact flags
    (totals_of c.args.planned.now.counts) planned.counts (omega (all, parts, each, arith))
