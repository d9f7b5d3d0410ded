use Rattle.std.proofs.Common.{◌≡◌, ℕ, ◌-◌, ◌≤◌, length, drop}
use Rattle.cfg_graph.specs.declared.statement.Stmt.{Stmt}
use Rattle.cfg_graph.specs.WellFormed.Broken.{first_of}
use Rattle.cfg_graph.specs.WellFormed.LineFaults.{stmt_faults}
use Rattle.cfg_graph.specs.WellFormed.Faults.{at_line, of_each}
use Rattle.cfg_graph.proofs.first_body_fault.stmts_fault.Given as goal

-- the first fault of all is the first fault of the rest
abbrev pub invariant-loop-stmt : goal.invariant-loop-stmt
invariant-loop-stmt l = record {
  rest : first_of (of_each (λ (line : ℕ) (stmt : Stmt). at_line l.number l.n line (stmt_faults l.graph.items (length l.graph.bodies) l.body stmt)) 0 l.block.stmts) ≡ first_of (of_each (λ (line : ℕ) (stmt : Stmt). at_line l.number l.n line (stmt_faults l.graph.items (length l.graph.bodies) l.body stmt)) l.line (drop l.line l.block.stmts));
  within : l.line ≤ length l.block.stmts;
}

abbrev pub decreases-loop-stmt : goal.decreases-loop-stmt
decreases-loop-stmt l = length l.block.stmts - l.line
