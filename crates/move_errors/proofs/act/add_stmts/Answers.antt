use Rattle.std.proofs.Common.{◌≡◌, ℕ, ◌+◌, ◌++◌, List, take, ap, sym, ◌∙◌, arith}
use Rattle.std.proofs.lemmas.List.{append_assoc}
use Rattle.cfg_graph.specs.declared.place.Place.{Place}
use Rattle.cfg_graph.specs.declared.statement.Stmt.{Stmt}
use Rattle.cfg_graph.specs.Uses.{PlaceUse, stmt_uses}
use Rattle.cfg_graph.specs.Moves.Gone.{PathAction}
use Rattle.move_paths.specs.declared.uses.Used.{Used}
use Rattle.move_paths.specs.Uses.{listed}
use Rattle.move_errors.specs.Runs.{actions_of, at_line, stmt_actions}
use Rattle.move_errors.proofs.Acting.{stmts-more}
use Rattle.move_errors.proofs.act.add_stmts.Goals as goal

pub loop-stmt-preserved : goal.loop-stmt-preserved
loop-stmt-preserved c =
    let item : Stmt = c.stmt-item.result in
    let i = c.loop-stmt.stmt-index in
    let uses : listed c.as_slice.result.now ≡ stmt_uses item = ap listed c.as_slice.ensures ∙ c.in_ok-add_stmt_uses.ensures ∙ ap (λ (z : List Used). listed z ++ stmt_uses item) c.truncate.ensures in
    let line : c.loop-stmt.line ≡ i = c.loop-stmt.invariant.0 in (
      c.in_ok-line.ensures ∙ ap (λ (n : ℕ). n + 1) line,
      λ block.
          let before : List PathAction = actions_of block c.args.acts.now in
          c.in_ok-add_uses.ensures block
          ∙ ap (λ (z : List PathAction). z ++ at_line block c.loop-stmt.line (listed c.as_slice.result.now)) (c.loop-stmt.invariant.1 block)
          ∙ append_assoc before (stmt_actions block 0 (take i c.args.stmts.now)) (at_line block c.loop-stmt.line (listed c.as_slice.result.now))
          ∙ ap (λ (z : List (PlaceUse × Place)). before ++ (stmt_actions block 0 (take i c.args.stmts.now) ++ at_line block c.loop-stmt.line z)) uses
          ∙ ap (λ (n : ℕ). before ++ (stmt_actions block 0 (take i c.args.stmts.now) ++ at_line block n (stmt_uses item))) (line ∙ (let e : i ≡ 0 + i = omega arith in e))
          ∙ ap (λ (z : Stmt). before ++ (stmt_actions block 0 (take i c.args.stmts.now) ++ at_line block (0 + i) (stmt_uses z))) c.stmt-item.is
          ∙ ap (λ (z : List PathAction). before ++ z) (sym (stmts-more block 0 c.args.stmts.now i item c.loop-stmt-test.true)),
    )
