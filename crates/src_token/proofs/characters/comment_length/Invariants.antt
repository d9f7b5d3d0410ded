use Rattle.std.proofs.Common.{◌≡◌, ◌+◌, ℕ, ◌≤◌, false, drop}
use Rattle.std.specs.Prelude.{option_map}
use Rattle.src_token.specs.Scanning.{closing}
use Rattle.src_token.proofs.characters.comment_length.Given as goal

abbrev pub invariant-loop-i : goal.invariant-loop-i
invariant-loop-i l = record {
  left : closing 0 false l.inside ≡ option_map (λ (n : ℕ). l.i + n) (closing l.depth l.second (drop l.i l.inside));
  shallow : l.depth ≤ l.i;
}
