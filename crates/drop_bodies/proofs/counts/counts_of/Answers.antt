use Rattle.std.proofs.Common.{◌≡◌, ◌∙◌, ◌+◌, ◌<◌, ℕ, List, Option, Some, None, get_or, length, slice_get, ap, subst, sym, arith}
use Rattle.std.proofs.lemmas.Option.{slice_get-get_or}
use Rattle.cfg_graph.specs.declared.graph.Block.{Block}
use Rattle.cfg_graph.specs.Places.{named}
use Rattle.drop_bodies.proofs.Counting.{counts-more, counts-same, kind-at, kind-of-other}
use Rattle.drop_bodies.specs.Counts.{AreCounts, totals_of, kind_by, kind_of, kind_at}
use Rattle.drop_elaborate.specs.Kinds.{DropKind}
use Rattle.drop_elaborate.specs.Totals.{DropTotals}
use Rattle.drop_ends.specs.declared.decided.Decided.{Decided}
use Rattle.drop_bodies.proofs.counts.counts_of.Goals as goal
use Rattle.drop_bodies.proofs.counts.counts_of.Goals.{in-DropAt+in_ok-count, in_default}

pub loop-block-preserved : goal.loop-block-preserved
loop-block-preserved c =
    let paths = c.args.forest.now.paths in
    let blocks : List Block = c.args.body.now.blocks in
    let decided : List Decided = c.args.decided.now in
    let flags = length c.args.flags.now.paths in
    let i = c.loop-block.block-index in
    let item : Block = c.block-item.result in
    let listed = c.as_slice-block-items.ensures in
    let within : i < length blocks =
    (let k = ap length listed in let t = c.loop-block-test.true in omega (k, t, arith)) in
    let at : slice_get blocks i ≡ Some item =
    slice_get-get_or blocks i item within
    ∙ ap Some (ap (λ (z : List Block). get_or z i item) (sym listed) ∙ sym c.block-item.is) in
    let same = c.loop-block.invariant.0 in
    let so_far = c.loop-block.invariant.1 in
    let kinds : ℕ → Option DropKind = λ n. kind_at paths decided blocks n in
    let inside : i < length decided = (let k = c.requires.count in omega (k, within, arith)) in
    let how : Decided = get_or decided i Decided.Dead in
    let at_how : slice_get decided i ≡ Some how = slice_get-get_or decided i Decided.Dead inside in (
      (let e : c.loop-block.number + 1 ≡ i + 1 = omega (same, arith) in e),
      elim c.match-block.branch [
        | in-DropAt+in_ok-count w ↦
            let place = named w.in-DropAt.place in
            let this : Decided = w.index-decided-number.result in
            let at_this : slice_get decided i ≡ Some this =
            slice_get-get_or decided i this inside
            ∙ ap Some (sym (w.index-decided-number.is ∙ ap (λ (n : ℕ). get_or decided n this) same)) in
            let kind = kind_by paths place this in
            let is : kinds i ≡ Some kind =
            kind-at paths decided blocks i item this at at_this ∙ ap (kind_of paths this) w.in-DropAt.is in
            subst (λ (t : DropTotals). AreCounts kinds (i + 1) flags t)
            (sym (ap totals_of w.counts-is ∙ w.in_ok-count.ensures))
            (counts-more kinds kind i flags (totals_of c.loop-block.counts) is so_far)
        | in_default w ↦
            let is : kinds i ≡ None =
            kind-at paths decided blocks i item how at at_how ∙ kind-of-other paths how item.term w.in_default.not-DropAt in
            subst (λ (t : DropTotals). AreCounts kinds (i + 1) flags t) (sym (ap totals_of w.counts-is))
            (counts-same kinds i flags (totals_of c.loop-block.counts) is so_far)
      ],
    )
