use Rattle.std.proofs.Common.{rules, ◌≡◌, ◌∙◌, ◌+◌, ◌++◌, ℕ, List, map, length, ap}
use Rattle.std.proofs.lemmas.Result.{on_ok_weaker}
use Rattle.cfg_graph.specs.declared.statement.Stmt.{Stmt}
use Rattle.lower_locals.specs.View.{entry_of}
use Rattle.typed_tree.specs.Listed.{trees}
use Rattle.lower_rules.specs.Listed.{ids_of, of_lines}
use Rattle.cfg_build.proofs.Told.{line_more, last_more}
use Rattle.cfg_build.proofs.blocks.add_block.Goals as goal

pub loop-stmt-preserved : goal.loop-stmt-preserved
loop-stmt-preserved c =
    let these : c.as_slice-stmts.result.now ≡ c.args.one.now.stmts = search rules in
    let on : c.in_ok-line.line ≡ c.loop-stmt.line + 1 = search rules in
    record {
      line = on ∙ ap (λ (k : ℕ). k + 1) c.loop-stmt.invariant.line;
      sites = λ tree are at ids. line_more c.args.names.items.now tree c.args.body c.args.block c.args.one.now (ids_of c.args.ids.now)
          (map entry_of c.args.names.locals.now) (trees c.args.names.nodes.now) at are.0 are.1 ids
          c.as_slice-stmts.result.now c.loop-stmt.stmt-index c.loop-stmt.line c.in_ok-line.line c.stmt-item.result c.id_at.result
          c.loop-stmt.sites c.add_stmt.new.sites _ these c.loop-stmt.invariant.line on c.loop-stmt-test.true c.stmt-item.is
          c.id_at.ensures c.in_ok-add_stmt.ensures (c.loop-stmt.invariant.sites tree are at ids);
    }

pub returns : goal.returns
returns c =
    let these : c.as_slice-stmts.result.now ≡ c.args.one.now.stmts = search rules in
    let ends : length c.as_slice-stmts.result.now ≡ c.loop-stmt.stmt-index = search rules in
    on_ok_weaker c.add_term.result
    (λ found tree are at ids. last_more c.args.names.items.now tree c.args.body c.args.block c.args.one.now (ids_of c.args.ids.now)
    (map entry_of c.args.names.locals.now) (trees c.args.names.nodes.now) at are.0 are.1 ids
    c.as_slice-stmts.result.now c.loop-stmt.stmt-index c.loop-stmt.line c.id_at-2.result
    c.loop-stmt.sites c.add_term.new.sites _ these c.loop-stmt.invariant.line ends
    c.id_at-2.ensures found (c.loop-stmt.invariant.sites tree are at ids)
    ∙ ap (λ (stmts : List Stmt). c.args.sites.now ++ of_lines c.args.names.items.now tree c.args.body c.args.block 0 stmts) these) c.add_term.ensures
