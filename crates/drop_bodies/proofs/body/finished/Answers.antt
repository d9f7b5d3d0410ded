use Rattle.std.proofs.Common.{◌∙◌, ◌++◌, ℕ, List, length, map, replicate, ap, refl, subst, arith}
use Rattle.std.proofs.lemmas.List.{length-map}
use Rattle.cfg_graph.specs.declared.graph.Block.{Block}
use Rattle.drop_blocks.specs.Ladders.{made_of}
use Rattle.drop_ends.specs.declared.decided.Decided.{Decided}
use Rattle.drop_flags.specs.Flags.{paths_of}
use Rattle.drop_laws.specs.Ranked.{ranked_with}
use Rattle.drop_bodies.proofs.Finishing.{ranks-long}
use Rattle.drop_bodies.specs.Done.{AreDone}
use Rattle.drop_bodies.specs.Ended.{AreEnded}
use Rattle.drop_bodies.specs.Laid.{IsRankedBy}
use Rattle.drop_bodies.proofs.body.finished.Goals as goal

pub laid_blocks-requires-clause-count : goal.laid_blocks-requires-clause-count
laid_blocks-requires-clause-count c = ap length c.as_slice.ensures ∙ c.requires.decided

pub new_ranks-requires-clause-count : goal.new_ranks-requires-clause-count
new_ranks-requires-clause-count c =
    let seen = ap length (c.as_slice-2.ensures ∙ c.in_ok-before.ensures) in
    let long = length-map c.args.body.blocks (λ (block : Block). block.rank) in
    let few = c.requires.count in omega (seen, long, few, arith)

pub new_ranks-requires-clause-sizes : goal.new_ranks-requires-clause-sizes
new_ranks-requires-clause-sizes c =
    let seen = ap length (c.as_slice-2.ensures ∙ c.in_ok-before.ensures) in
    let long = length-map c.args.body.blocks (λ (block : Block). block.rank) in
    let sizes = ap length c.as_slice-3.ensures in
    let sized = c.in_ok-laid.ensures.laid.sized in omega (seen, long, sizes, sized, arith)

pub with_ranks-requires : goal.with_ranks-requires
with_ranks-requires c =
    let laid = c.in_ok-laid.laid in
    let body = c.args.body in
    let r = subst (λ (l : List ℕ). IsRankedBy (map (λ (block : Block). block.rank) body.blocks) l c.in_ok-ranks.ranks)
    c.as_slice-3.ensures
    (subst (λ (b : List ℕ). IsRankedBy b c.as_slice-3.result.now c.in_ok-ranks.ranks)
    (c.as_slice-2.ensures ∙ c.in_ok-before.ensures) c.in_ok-ranks.ensures) in
    ap length c.as_slice-4.ensures ∙ ap length r.2
    ∙ ranks-long body laid.blocks laid.new.made laid.sizes r.0 c.in_ok-laid.ensures.laid r.1

pub returns : goal.returns
returns c =
    let laid = c.in_ok-laid.laid in
    let plan = c.args.plan.now in
    let body = c.args.body in record {
      blocks = laid.blocks;
      new = made_of laid.new;
      sizes = laid.sizes;
      done = λ items are.
          subst (λ (l : List Decided). AreDone items body (paths_of plan.flags) l (length body.blocks) laid.blocks (made_of laid.new))
          c.as_slice.ensures (c.in_ok-laid.ensures.done items are);
      ended = λ items are.
          subst (λ (l : List Decided). AreEnded items body (paths_of plan.flags) l (length body.blocks) laid.blocks (made_of laid.new))
          c.as_slice.ensures (c.in_ok-laid.ensures.ended items are);
      laid = c.in_ok-laid.ensures.laid;
      finished = record {
        ranks = c.in_ok-ranks.ranks;
        ranked = subst (λ (l : List ℕ). IsRankedBy (map (λ (block : Block). block.rank) body.blocks) l c.in_ok-ranks.ranks)
            c.as_slice-3.ensures
            (subst (λ (b : List ℕ). IsRankedBy b c.as_slice-3.result.now c.in_ok-ranks.ranks)
            (c.as_slice-2.ensures ∙ c.in_ok-before.ensures) c.in_ok-ranks.ensures);
        params = refl;
        locals = c.in_ok-locals.ensures ∙ ap (λ (n : ℕ). body.locals ++ replicate n c.args.flag_ty) c.len.ensures;
        blocks = c.in_ok-blocks.ensures ∙ ap (ranked_with (laid.blocks ++ laid.new.made)) c.as_slice-4.ensures;
      };
    }
