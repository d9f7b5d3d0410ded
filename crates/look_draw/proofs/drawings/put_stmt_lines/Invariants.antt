use Rattle.std.proofs.Common.{◌≡◌, ◌++◌, take}
use Rattle.listing_write.specs.Items.{counted}
use Rattle.look_draw.specs.Drawings.{stmt_line}
use Rattle.look_draw.proofs.drawings.put_stmt_lines.Given as goal

abbrev pub invariant-loop-at : goal.invariant-loop-at
invariant-loop-at l = l.out.items ≡ l.initial.out.items ++ counted (stmt_line l.items l.sites l.body l.block) 0 (take l.at l.stmts)
