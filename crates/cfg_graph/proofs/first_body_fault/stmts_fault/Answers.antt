use Rattle.std.proofs.Common.{ℕ, ◌<◌, length, arith, refl}
use Rattle.cfg_graph.specs.declared.statement.Stmt.{Stmt}
use Rattle.cfg_graph.specs.WellFormed.LineFaults.{stmt_faults}
use Rattle.cfg_graph.specs.WellFormed.Faults.{at_line}
use Rattle.cfg_graph.proofs.Rests.{within, at_its_line, fault_here, fault_later, fault_nowhere}
use Rattle.cfg_graph.proofs.first_body_fault.stmts_fault.Goals as goal

pub returns-in-Some-at : goal.returns-in-Some-at
returns-in-Some-at c = fault_here (λ (line : ℕ) (stmt : Stmt). at_line c.args.number c.args.n line (stmt_faults c.args.graph.now.items (length c.args.graph.now.bodies) c.args.body.now stmt)) c.args.block.now.stmts c.loop-stmt.line c.loop-stmt.invariant.rest c.in-Some.stmt.now c.in-Some-at.fault c.in-Some.ensures (at_its_line c.args.number c.args.n c.loop-stmt.line _ _ _ _ refl c.in-Some-at.ensures (rw c.len.ensures at c.stmt_fault-fault.ensures))

pub loop-stmt-preserved : goal.loop-stmt-preserved
loop-stmt-preserved c = record {
  rest = fault_later (λ (line : ℕ) (stmt : Stmt). at_line c.args.number c.args.n line (stmt_faults c.args.graph.now.items (length c.args.graph.now.bodies) c.args.body.now stmt)) c.args.block.now.stmts c.loop-stmt.line c.loop-stmt.invariant.rest c.in-Some.stmt.now c.in-Some.ensures (at_its_line c.args.number c.args.n c.loop-stmt.line _ _ _ _ refl c.in_default-at.ensures (rw c.len.ensures at c.stmt_fault-fault.ensures));
  within = let here : c.loop-stmt.line < length c.args.block.now.stmts = within c.args.block.now.stmts c.loop-stmt.line c.in-Some.stmt.now c.in-Some.ensures in omega arith;
}

pub loop-stmt-smaller : goal.loop-stmt-smaller
loop-stmt-smaller c = let here : c.loop-stmt.line < length c.args.block.now.stmts = within c.args.block.now.stmts c.loop-stmt.line c.in-Some.stmt.now c.in-Some.ensures in omega arith

pub returns : goal.returns
returns c = fault_nowhere (λ (line : ℕ) (stmt : Stmt). at_line c.args.number c.args.n line (stmt_faults c.args.graph.now.items (length c.args.graph.now.bodies) c.args.body.now stmt)) c.args.block.now.stmts c.loop-stmt.line c.loop-stmt.invariant.rest c.in_default.ensures
