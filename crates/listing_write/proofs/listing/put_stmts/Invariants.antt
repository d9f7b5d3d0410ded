use Rattle.std.proofs.Common.{◌≡◌, ◌++◌, take}
use Rattle.std.specs.Prelude.{flat_map}
use Rattle.std.specs.String.{string_bytes}
use Rattle.cfg_graph.specs.declared.statement.Stmt.{Stmt}
use Rattle.listing_write.specs.Lists.{line}
use Rattle.listing_write.specs.Parts.{stmt_text}
use Rattle.listing_write.proofs.listing.put_stmts.Given as goal

abbrev pub invariant-loop-stmt : goal.invariant-loop-stmt
invariant-loop-stmt l = string_bytes l.out ≡ string_bytes l.initial.out ++ flat_map (λ (stmt : Stmt). line (stmt_text l.items stmt)) (take l.stmt-index l.stmts)
