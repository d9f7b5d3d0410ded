use Rattle.std.proofs.Common.{◌≡◌, take}
use Rattle.src_parse.proofs.parser.copies.Given as goal

abbrev pub invariant-loop-spanned : goal.invariant-loop-spanned
invariant-loop-spanned l = l.copies ≡ take l.spanned-index l.tokens
