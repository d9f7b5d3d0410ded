use Rattle.std.proofs.Common.{◌≡◌, ◌∙◌, ◌+◌, ◌<◌, ℕ, List, Some, get_or, length, slice_get, ap, refl, subst, sym, arith}
use Rattle.std.proofs.lemmas.Option.{slice_get-get_or}
use Rattle.cfg_graph.specs.declared.graph.Block.{Block}
use Rattle.cfg_graph.specs.declared.place.Place as graph
use Rattle.cfg_graph.specs.Places.{named}
use Rattle.drop_ends.specs.declared.decided.Decided.{Decided}
use Rattle.drop_plans.specs.Plans.{flag_of}
use Rattle.drop_kinds.specs.Decided.{AreDecided, EndsInDropOf, IsDecided}
use Rattle.drop_kinds.proofs.Coming.{decided-none, decided-more}
use Rattle.drop_kinds.proofs.drops.decisions.Goals as goal

pub loop-block-init : goal.loop-block-init
loop-block-init c =
    let items = c.args.items.now in
    let body = c.args.body.now in
    let paths = c.args.told.now.forest.paths in
    let flags = flag_of c.args.flags.now in (
      refl,
      subst (λ (z : List Decided). AreDecided items body paths flags 0 z)
          (sym (c.from_vec-decided.ensures ∙ c.in_ok-with_capacity.ensures.items))
          (decided-none items body paths flags),
    )

pub loop-block-preserved : goal.loop-block-preserved
loop-block-preserved c =
    let items = c.args.items.now in
    let body = c.args.body.now in
    let paths = c.args.told.now.forest.paths in
    let flags = flag_of c.args.flags.now in
    let i = c.loop-block.block-index in
    let item : Block = c.block-item.result in
    let how : Decided = c.in_ok-decide_block.field-0 in
    let blocks = c.as_slice-block-items.ensures in
    let within : i < length body.blocks =
    (let k = ap length blocks in let t = c.loop-block-test.true in omega (k, t, arith)) in
    let at : slice_get body.blocks i ≡ Some item =
    slice_get-get_or body.blocks i item within
    ∙ ap Some (ap (λ (z : List Block). get_or z i item) (sym blocks) ∙ sym c.block-item.is) in
    let same = c.loop-block.invariant.0 in
    let drops = subst (λ (n : ℕ). (place : graph.Place) → EndsInDropOf body n item place →
    IsDecided items body paths flags n (named place) how) same c.in_ok-decide_block.ensures.drops in (
      (let e : c.loop-block.number + 1 ≡ i + 1 = omega (same, arith) in e),
      subst (λ (z : List Decided). AreDecided items body paths flags (i + 1) z) (sym c.in_ok-push.ensures.pushed)
          (decided-more items body paths flags i c.loop-block.decided item how c.loop-block.invariant.1 at drops
          c.in_ok-decide_block.ensures.others),
    )

pub returns : goal.returns
returns c =
    let body = c.args.body.now in
    let all : c.loop-block.block-index ≡ length body.blocks =
    (let k = ap length c.as_slice-block-items.ensures in let f = c.loop-block-test.false in
    let e = c.loop-block.auto.block-index-end in omega (k, f, e, arith)) in
    subst (λ (n : ℕ). AreDecided c.args.items.now body c.args.told.now.forest.paths
    (flag_of c.args.flags.now) n c.loop-block.decided)
    all c.loop-block.invariant.1
