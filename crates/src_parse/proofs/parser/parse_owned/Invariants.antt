use Rattle.std.proofs.Common.{◌≡◌, ◌++◌, false, Some, ◌∷◌, length}
use Rattle.std.specs.Vec.Iter.{into_iter_items, into_iter_len}
use Rattle.src_parse.specs.Counting.{passes}
use Rattle.src_parse.specs.View.{frame_of, stack_of}
use Rattle.src_parse.proofs.Verdict.{from_start}
use Rattle.src_parse.proofs.parser.parse_owned.Given as goal

abbrev pub invariant-loop-spanned : goal.invariant-loop-spanned
invariant-loop-spanned l =
    (l.yielded ++ into_iter_items l.spanned-iterator ≡ l.fn.tokens)
    × (into_iter_len l.spanned-iterator ≡ length (into_iter_items l.spanned-iterator))
    × (from_start l.yielded l.end ≡ Some (frame_of l.top ∷ stack_of l.below))
    × (passes (frame_of l.top) ≡ false) × (l.at ≡ length l.yielded)
