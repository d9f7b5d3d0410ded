use Rattle.std.proofs.Common.{◌≡◌, ◌+◌, ◌++◌, List, take, flat_map, ap, sym, ◌∙◌, subst}
use Rattle.cfg_graph.specs.declared.place.Place.{Place}
use Rattle.cfg_graph.specs.declared.statement.Stmt.{Stmt}
use Rattle.cfg_graph.specs.Uses.{PlaceUse, stmt_uses}
use Rattle.move_paths.proofs.Naming.{flat_map-more}
use Rattle.move_paths.specs.Uses.{listed}
use Rattle.move_paths.specs.declared.uses.Used.{Used}
use Rattle.drop_plans.specs.Passing.{Passes}
use Rattle.drop_plans.proofs.Passed.{passes-more, passes-none}
use Rattle.drop_plans.proofs.facts.pass_stmts.Goals as goal

pub loop-stmt-init : goal.loop-stmt-init
loop-stmt-init c = passes-none c.args.forest.now.paths c.args.gone c.args.below.now c.args.row.now

pub loop-stmt-preserved : goal.loop-stmt-preserved
loop-stmt-preserved c =
    let item : Stmt = c.stmt-item.result in
    let i = c.loop-stmt.stmt-index in
    let before : List (PlaceUse × Place) = flat_map stmt_uses (take i c.args.stmts.now) in
    let longer : flat_map stmt_uses (take (i + 1) c.args.stmts.now) ≡ before ++ stmt_uses item =
    flat_map-more stmt_uses c.args.stmts.now i item c.loop-stmt-test.true
    ∙ ap (λ (stmt : Stmt). before ++ stmt_uses stmt) (sym c.stmt-item.is) in
    let uses : listed c.as_slice.result.now ≡ stmt_uses item =
    ap listed c.as_slice.ensures ∙ c.in_ok-add_stmt_uses.ensures ∙ ap (λ (z : List Used). listed z ++ stmt_uses item) c.truncate.ensures in
    subst (λ (z : List (PlaceUse × Place)). Passes c.args.forest.now.paths c.args.gone c.args.below.now z c.args.row.now c.pass_uses.new.row)
    (sym longer)
    (passes-more c.args.forest.now.paths c.args.gone c.args.below.now before (stmt_uses item)
    c.args.row.now c.loop-stmt.row c.pass_uses.new.row c.loop-stmt.invariant
    (subst (λ (z : List (PlaceUse × Place)). Passes c.args.forest.now.paths c.args.gone c.args.below.now z c.loop-stmt.row c.pass_uses.new.row)
    uses c.pass_uses.ensures))
