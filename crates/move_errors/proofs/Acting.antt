-- The actions of the first statements of a block.
use Rattle.std.proofs.Common.{◌≡◌, ℕ, zero, suc, ◌+◌, ◌<◌, List, [], ◌∷◌, ◌++◌, take, length, get_or, sym, ap, ◌∙◌, add-one, arith}
use Rattle.std.proofs.lemmas.List.{append-nil, append_assoc}
use Rattle.cfg_graph.specs.declared.statement.Stmt.{Stmt}
use Rattle.cfg_graph.specs.Uses.{stmt_uses}
use Rattle.cfg_graph.specs.Moves.Gone.{PathAction}
use Rattle.move_errors.specs.Runs.{at_line, stmt_actions}

stmts-suc : (block line : ℕ) (stmts : List Stmt) (i : ℕ) (d : Stmt) → i < length stmts
    → stmt_actions block line (take (suc i) stmts) ≡ stmt_actions block line (take i stmts) ++ at_line block (line + i) (stmt_uses (get_or stmts i d))
stmts-suc block line [] i d within = absurd (omega (within, arith))
stmts-suc block line (stmt ∷ stmts) zero d within =
    append-nil (at_line block line (stmt_uses stmt)) ∙ ap (λ (n : ℕ). at_line block n (stmt_uses stmt)) (let e : line ≡ line + 0 = omega arith in e)
stmts-suc block line (stmt ∷ stmts) (suc i) d within =
    ap (λ (z : List PathAction). at_line block line (stmt_uses stmt) ++ z) (stmts-suc block (suc line) stmts i d (omega (within, arith)))
    ∙ sym (append_assoc (at_line block line (stmt_uses stmt)) (stmt_actions block (suc line) (take i stmts)) (at_line block (suc line + i) (stmt_uses (get_or stmts i d))))
    ∙ ap (λ (n : ℕ). (at_line block line (stmt_uses stmt) ++ stmt_actions block (suc line) (take i stmts)) ++ at_line block n (stmt_uses (get_or stmts i d))) (let e : suc line + i ≡ line + suc i = omega arith in e)

pub stmts-more : (block line : ℕ) (stmts : List Stmt) (i : ℕ) (d : Stmt) → i < length stmts
    → stmt_actions block line (take (i + 1) stmts) ≡ stmt_actions block line (take i stmts) ++ at_line block (line + i) (stmt_uses (get_or stmts i d))
stmts-more block line stmts i d within = rw add-one (stmts-suc block line stmts i d within)
