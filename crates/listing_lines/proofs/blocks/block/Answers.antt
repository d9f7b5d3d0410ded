-- The line, the statements and the terminator of a block.
use Rattle.std.proofs.Common.{rules, ◌≡◌, ℕ, Bool, List, Some, ap, sym, ◌∙◌}
use Rattle.cfg_graph.specs.declared.graph.Block.{Block}
use Rattle.cfg_graph.specs.declared.graph.Kind.{Kind}
use Rattle.cfg_graph.specs.declared.statement.Stmt.{Stmt}
use Rattle.listing_write.specs.Reading.Rows.{many}
use Rattle.listing_write.specs.Reading.Words.{FoundInText, bind}
use Rattle.listing_lines.specs.LineReading.{block_read}
use Rattle.listing_lines.specs.CodeReading.{statement_read, code_behind}
use Rattle.listing_lines.proofs.blocks.block.Goals as goal

pub returns-in_ok-close-in-Some : goal.returns-in_ok-close-in-Some
returns-in_ok-close-in-Some c =
    let heads = c.args.heads.now in
    let at : Kind × ℕ = (c.in-Some.kind, c.in-Some.rank) in
    let head : block_read c.args.n c.args.text.now ≡ Some (at, c.in-Some.rest.now) = search rules in
    let stmts : ◌≡◌ {A = List Stmt × List ℕ} (c.in_ok-stmts-in-Some.stmts, c.in_ok-stmts-in-Some.rest.now) (many (statement_read heads) c.in-Some.rest.now) = search rules in
    let closes : ◌≡◌ {A = (Block × Bool) × List ℕ} (c.in_ok-close-in-Some.field-0.0, c.in_ok-close-in-Some.field-0.1.now) (code_behind heads at (c.in_ok-stmts-in-Some.stmts, c.in_ok-stmts-in-Some.rest.now)) = search rules in
    record {
      there =
          ap (λ (f : FoundInText (Kind × ℕ)). bind f (λ head. Some (code_behind heads head.0 (many (statement_read heads) head.1)))) head
          ∙ ap (λ (q : List Stmt × List ℕ). Some (code_behind heads at q)) (sym stmts)
          ∙ ap (λ (q : (Block × Bool) × List ℕ). Some q) (sym closes);
      missing = λ e. absurd (cc e);
    }
