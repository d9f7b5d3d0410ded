use Rattle.std.proofs.Common.{◌∙◌, ◌∷◌, [], ◌++◌, ℕ, List, length, slice_set, append_assoc, ap}
use Rattle.std.proofs.Math.Seq.{set-append_seam}
use Rattle.cfg_graph.specs.declared.place.Operand.{Operand}
use Rattle.cfg_graph.specs.declared.statement.Stmt.{Stmt}
use Rattle.drop_flags.specs.Asked.{stmt_stores}
use Rattle.drop_flags.proofs.flags.Flags.add_stmt.Goals as goal

pub returns : goal.returns
returns c =
    let stmts : List Stmt = c.args.stmts.now in
    let stmt : Stmt = c.args.stmt in
    let stores : List Stmt = stmt_stores c.args.self.now stmt in
    let room : Stmt = Stmt.Print Operand.Unit in
    c.set.ensures
    ∙ ap (λ (n : ℕ). slice_set c.add_stmt_stores.new.stmts n stmt) c.len-at.ensures
    ∙ ap (λ (l : List Stmt). slice_set l (length stmts) stmt)
    (c.in_ok-add_stmt_stores.ensures
    ∙ ap (λ (l : List Stmt). l ++ stores) c.in_ok-push.ensures.pushed
    ∙ append_assoc stmts (room ∷ []) stores)
    ∙ set-append_seam stmts room stores stmt
