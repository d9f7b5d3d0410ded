use Rattle.std.proofs.Common.{◌≡◌, ◌⊎◌, inl, inr, ◌<◌, ◌≤◌, false, length, arith}
use Rattle.std.specs.Prelude.{slice_index_or}
use Rattle.std.proofs.lemmas.Bool.{cases_lt}
use Rattle.init_flow.specs.Carried.{Bits}
use Rattle.drop_wants.proofs.Chosen.{past-end}
use Rattle.drop_wants.proofs.needed.is_off.Goals as goal

pub returns : goal.returns
returns c off k = by (cases_lt k (length row))
  where
    row : Bits
    row = c.args.row.now

    by : (k < length row) ⊎ (length row ≤ k) → slice_index_or row k false ≡ false
    by (inl less) = c.loop-path.invariant k
        (let t = c.loop-path-test.false in let e = c.len-path-end.ensures in omega (less, t, e, arith))
    by (inr far) = past-end row k false far
