use Rattle.std.proofs.Common.{ℕ, ◌+◌, ◌*◌, ◌≤◌, arith, add-one}
use Rattle.std.proofs.Math.Nat.{pow-suc}
use Rattle.std.proofs.lemmas.List.Sums.{fold_more}
use Rattle.mirdrop_program.proofs.number.digits_value.Goals as goal

one_more : (v x p : ℕ) → x ≤ 207 → v + 23 ≤ 23 * p → (10 * v + x) + 23 ≤ 23 * (p * 10)
one_more v x p small bound = omega arith

pub loop-digit-preserved : goal.loop-digit-preserved
loop-digit-preserved c = record {
  so_far = rw (fold_more _ _ c.args.digits.now c.loop-digit.digit-index 0 c.loop-digit-test.true) cc;
  small =
      let p = c.loop-digit.digit-index in
      let x : c.from.result ≤ 207 = omega (arith, c.type_inv.digits p) in
      rw (add-one, pow-suc) (one_more _ _ _ x c.loop-digit.invariant.small);
}
