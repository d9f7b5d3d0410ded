-- One statement more, and no more statements.
use Rattle.std.proofs.Common.{rules, ◌≡◌, ◌-◌, ◌+◌, List, length, Some, None, ap, sym, ◌∙◌, arith}
use Rattle.cfg_graph.specs.declared.statement.Stmt.{Stmt}
use Rattle.listing_parts.proofs.Rows.{one_more, no_more, so_far}
use Rattle.listing_lines.specs.CodeReading.{statement_read}
use Rattle.listing_lines.proofs.blocks.statements.Goals as goal

pub returns-in-Err-Unreadable : goal.returns-in-Err-Unreadable
returns-in-Err-Unreadable c =
    let read = statement_read c.args.heads.now in
    let none : read c.loop.rest.now ≡ None = search rules in
    sym (c.loop.invariant ∙ no_more read (length c.args.text.now - c.loop.counter) c.loop.stmts c.loop.rest.now none)

pub loop-preserved : goal.loop-preserved
loop-preserved c =
    let read = statement_read c.args.heads.now in
    let text = c.args.text.now in
    let fuel = length text - (c.loop.counter + 1) in
    let found : read c.loop.rest.now ≡ Some (c.in-Ok.stmt, c.in-Ok.behind.now) = search rules in
    c.loop.invariant
    ∙ one_more read (length text - c.loop.counter) fuel c.loop.stmts c.in-Ok.stmt c.loop.rest.now c.in-Ok.behind.now (omega arith) found
    ∙ ap (λ (xs : List Stmt). so_far read fuel xs c.in-Ok.behind.now) (sym c.in_ok-push-in-Ok.ensures.pushed)
