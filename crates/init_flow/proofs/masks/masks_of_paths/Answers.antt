use Rattle.std.proofs.Common.{◌≡◌, ℕ, length, replicate, List, Option, None, sym, ap, ◌∙◌, subst, arith}
use Rattle.std.proofs.lemmas.List.{length-replicate}
use Rattle.init_flow.specs.Carried.{Bits}
use Rattle.init_flow.specs.Marks.{masks_from}
use Rattle.init_flow.proofs.Marking.{Marked, marked-none, marked-more, marked-all}
use Rattle.init_flow.proofs.masks.masks_of_paths.Goals as goal

pub loop-path-init : goal.loop-path-init
loop-path-init c = (
  ap length c.in_ok-rows.ensures ∙ length-replicate c.len-bits.result None,
  subst (λ (z : List (Option Bits)). Marked c.args.forest.now.paths (masks_from c.len-bits.result 0 z) 0) (sym c.in_ok-rows.ensures)
      (marked-none c.args.forest.now.paths c.len-bits.ensures.once c.len-bits.result c.len-bits.ensures.len),
)

pub loop-path-preserved : goal.loop-path-preserved
loop-path-preserved c = (
  c.in_ok-mark.ensures.long,
  marked-more c.args.forest.now.paths c.len-bits.ensures.once (masks_from c.len-bits.result 0 c.loop-path.rows) (masks_from c.len-bits.result 0 c.mark.new.rows) c.loop-path.path
      c.loop-path.invariant.1 c.in_ok-mark.ensures.marked,
)

pub returns : goal.returns
returns c =
    marked-all c.args.forest.now.paths c.len-bits.ensures.once (masks_from c.len-bits.result 0 c.loop-path.rows) c.loop-path.path c.loop-path.invariant.1
    (let far = c.loop-path-test.false in let count = c.len-bits.ensures.len in omega (far, count, arith))

pub mark-requires-clause-square : goal.mark-requires-clause-square
mark-requires-clause-square c = c.loop-path.invariant.1.square

pub mark-requires-clause-long : goal.mark-requires-clause-long
mark-requires-clause-long c = c.loop-path.invariant.0

pub mark-requires-clause-once : goal.mark-requires-clause-once
mark-requires-clause-once c = c.len-bits.ensures.once

pub mark-requires-clause-path : goal.mark-requires-clause-path
mark-requires-clause-path c = let t = c.loop-path-test.true in omega (t, arith)
