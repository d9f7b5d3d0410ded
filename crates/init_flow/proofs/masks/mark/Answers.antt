use Rattle.std.proofs.Common.{◌≡◌, ◌<◌, length, List, Some, sym, subst, ◌∙◌, refl, arith}
use Rattle.init_flow.specs.Carried.{Bits}
use Rattle.init_flow.specs.Marks.{masks_from}
use Rattle.init_flow.proofs.Marking.{Marking, begins, ends, goes-on}
use Rattle.init_flow.proofs.Masking.{length-masks}
use Rattle.init_flow.proofs.masks.mark.Goals as goal

pub loop-at-init : goal.loop-at-init
loop-at-init c = (
  c.requires.long,
  begins c.args.forest.now.paths c.requires.once (masks_from c.args.bits 0 c.args.rows.now) c.args.path c.requires.square
      (let within = c.requires.path in let count = c.requires.bits in omega (within, count, arith)),
)

pub loop-at-preserved : goal.loop-at-preserved
loop-at-preserved c =
    let paths = c.args.forest.now.paths in
    let old : List Bits = masks_from c.args.bits 0 c.args.rows.now in
    let size : length old ≡ length paths = length-masks c.args.bits 0 c.args.rows.now ∙ c.requires.long ∙ c.requires.bits in
    let inside : c.args.path < length paths = (let within = c.requires.path in let count = c.requires.bits in omega (within, count, arith)) in (
      c.in_ok-set_mark.ensures.long,
      subst (λ (z : List Bits). Marking paths old z c.args.path c.parent-at.result) (sym c.in_ok-set_mark.ensures.marked)
          (goes-on paths c.requires.once old (masks_from c.args.bits 0 c.loop-at.rows) c.args.path c.in-Some.of c.parent-at.result size inside
          (subst (Marking paths old (masks_from c.args.bits 0 c.loop-at.rows) c.args.path) c.in-Some.is c.loop-at.invariant.1) c.parent-at.ensures),
    )

pub set_mark-requires-clause-square : goal.set_mark-requires-clause-square
set_mark-requires-clause-square c = c.loop-at.invariant.1.square

pub set_mark-requires-clause-of : goal.set_mark-requires-clause-of
set_mark-requires-clause-of c = let below = (c.loop-at.invariant.1.chain c.in-Some.of c.in-Some.is).0 in let count = c.requires.bits in omega (below, count, arith)
