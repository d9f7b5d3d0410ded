use Rattle.std.proofs.Common.{◌≡◌, take}
use Rattle.src_token.specs.Cursors.{cursor_after}
use Rattle.src_token.proofs.cursor.Cursor.advance.Given as goal

abbrev pub invariant-loop-i : goal.invariant-loop-i
invariant-loop-i l = l.cursor ≡ cursor_after (take l.i l.characters)
