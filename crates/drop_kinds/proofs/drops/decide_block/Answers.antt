use Rattle.std.proofs.Common.{◌≡◌, ◌∙◌, ap, subst, sym, refl}
use Rattle.std.proofs.lemmas.Bool.{false≢true}
use Rattle.std.proofs.lemmas.Result.{IfOk-weaker}
use Rattle.cfg_graph.specs.Places.{named}
use Rattle.cfg_graph.specs.declared.place.Place.{Place}
use Rattle.cfg_graph.specs.declared.terminator.Term.{Term}
use Rattle.drop_plans.specs.Plans.{flag_of}
use Rattle.drop_elaborate.specs.Elaborated.{is_drop}
use Rattle.drop_kinds.specs.Decided.{IsDecided}
use Rattle.drop_kinds.proofs.drops.decide_block.Goals as goal

pub decide-requires-clause-ends : goal.decide-requires-clause-ends
decide-requires-clause-ends c = (c.requires.block, (c.in-DropAt.then, c.in-DropAt.unwind, c.in-DropAt.is))

pub returns-in-DropAt-clause-drops : goal.returns-in-DropAt-clause-drops
returns-in-DropAt-clause-drops c =
    IfOk-weaker c.decide.result _ _
    (λ how h place ends.
    let terms : Term.DropAt c.in-DropAt.place c.in-DropAt.then c.in-DropAt.unwind
    ≡ Term.DropAt place ends.1.0 ends.1.1 =
    sym c.in-DropAt.is ∙ ends.1.2 in
    let same : c.in-DropAt.place ≡ place = cc in
    subst (λ (p : Place). IsDecided c.args.items.now c.args.body.now c.args.told.now.forest.paths
    (flag_of c.args.flags.now)
    c.args.number (named p) how) same h) c.decide.ensures

pub returns-in-DropAt-clause-others : goal.returns-in-DropAt-clause-others
returns-in-DropAt-clause-others c =
    IfOk-weaker c.decide.result _ _ (λ how h none. absurd (false≢true (sym none ∙ ap is_drop c.in-DropAt.is)))
    c.decide.ensures

pub returns-in_default-clause-drops : goal.returns-in_default-clause-drops
returns-in_default-clause-drops c place ends = absurd (c.in_default.not-DropAt place ends.1.0 ends.1.1 ends.1.2)

pub returns-in_default-clause-others : goal.returns-in_default-clause-others
returns-in_default-clause-others c none = refl
