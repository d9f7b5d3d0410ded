use Rattle.std.proofs.Common.{◌≡◌, ◌∙◌, ◌+◌, ◌<◌, ℕ, suc, List, Some, get_or, length, slice_get, ap, sym, arith}
use Rattle.std.specs.Prelude.{slice_set}
use Rattle.std.proofs.lemmas.Option.{slice_get-get_or}
use Rattle.cfg_graph.specs.declared.graph.Block.{Block}
use Rattle.drop_bodies.proofs.Numbers.{ranked_to, ranked-long, ranked-more, ranked-all}
use Rattle.drop_bodies.proofs.ranked.set_ranks.Goals as goal

pub element_mut-requires : goal.element_mut-requires
element_mut-requires c =
    let l = ap length c.loop-n.invariant in
    let m = ranked-long c.loop-n.n c.args.blocks.now c.args.ranks.now in
    let t = c.loop-n-test.true in
    let e = c.len-n-end.ensures in omega (l, m, t, e, arith)

pub bounds-ranks-n : goal.bounds-ranks-n
bounds-ranks-n c =
    let t = c.loop-n-test.true in
    let e = c.len-n-end.ensures in
    let r = c.requires in omega (t, e, r, arith)

pub loop-n-preserved : goal.loop-n-preserved
loop-n-preserved c =
    let ranks : List ℕ = c.args.ranks.now in
    let blocks : List Block = c.args.blocks.now in
    let n = c.loop-n.n in
    let block : Block = c.element_mut.result.now in
    let rank : ℕ = get_or ranks n 0 in
    let inside : n < length ranks =
    (let t = c.loop-n-test.true in let e = c.len-n-end.ensures in let r = c.requires in omega (t, e, r, arith)) in
    let at : slice_get (ranked_to n blocks ranks) n ≡ Some block =
    ap (λ (l : List Block). slice_get l n) (sym c.loop-n.invariant) ∙ c.element_mut.ensures.value in
    let is : slice_get ranks n ≡ Some rank =
    slice_get-get_or ranks n 0 inside in
    ap (λ (l : List Block). slice_set l n (record block { rank = rank })) c.loop-n.invariant
    ∙ ranked-more n blocks ranks block rank at is
    ∙ ap (λ (m : ℕ). ranked_to m blocks ranks) (let next : suc n ≡ n + 1 = omega arith in next)

pub returns : goal.returns
returns c =
    c.loop-n.invariant
    ∙ ranked-all c.loop-n.n c.args.blocks.now c.args.ranks.now c.requires
    (let t = c.loop-n-test.false in let e = c.len-n-end.ensures in omega (t, e, arith))
