use Rattle.std.proofs.Common.{◌≡◌, ◌∙◌, not, true, false, ap, sym, arith}
use Rattle.move_paths.specs.Forest.{path_at}
use Rattle.drop_laws.specs.Rungs as rungs
use Rattle.drop_plans.proofs.Made.{path-there, mask-long, masks-long, sure-tree}
use Rattle.drop_kinds.proofs.drops.decide_path.Goals as goal

pub meets-requires-clause-path : goal.meets-requires-clause-path
meets-requires-clause-path c =
    let w = c.requires.path in
    let e = masks-long c.args.at.now c.requires.told c.args.path (path_at c.args.at.now.forest.now.paths c.args.path)
    (path-there c.args.at.now.forest.now.paths c.args.path c.requires.path) in
    omega (w, e, arith)

pub meets-requires-clause-paths : goal.meets-requires-clause-paths
meets-requires-clause-paths c =
    c.requires.told.gone
    ∙ sym (masks-long c.args.at.now c.requires.told c.args.path (path_at c.args.at.now.forest.now.paths c.args.path)
    (path-there c.args.at.now.forest.now.paths c.args.path c.requires.path))

pub meets-requires-clause-mask : goal.meets-requires-clause-mask
meets-requires-clause-mask c =
    c.requires.told.gone
    ∙ sym (mask-long c.args.at.now c.requires.told c.args.path (path_at c.args.at.now.forest.now.paths c.args.path)
    (path-there c.args.at.now.forest.now.paths c.args.path c.requires.path))

pub returns-then-not-has_rung : goal.returns-then-not-has_rung
returns-then-not-has_rung c tree is =
    ap rungs.has_rung (sym (c.in_ok-plan.ensures tree is)) ∙ sym c.has_rung.ensures ∙ c.if-not-has_rung.true

pub returns-then-not-meets : goal.returns-then-not-meets
returns-then-not-meets c tree is = (
  ap rungs.has_rung (sym (c.in_ok-plan.ensures tree is)) ∙ sym c.has_rung.ensures ∙ c.if-not-has_rung.false,
  sure-tree c.args.at.now c.requires.told c.args.path (path_at c.args.at.now.forest.now.paths c.args.path)
      (path-there c.args.at.now.forest.now.paths c.args.path c.requires.path) c.args.ty tree is
      ∙ ap not (sym c.meets.ensures ∙ c.if-not-meets.true),
)

pub returns : goal.returns
returns c tree is = (
  ap rungs.has_rung (sym (c.in_ok-plan.ensures tree is)) ∙ sym c.has_rung.ensures ∙ c.if-not-has_rung.false,
  sure-tree c.args.at.now c.requires.told c.args.path (path_at c.args.at.now.forest.now.paths c.args.path)
      (path-there c.args.at.now.forest.now.paths c.args.path c.requires.path) c.args.ty tree is
      ∙ ap not (sym c.meets.ensures ∙ c.if-not-meets.false),
  c.in_ok-plan.ensures tree is,
)
