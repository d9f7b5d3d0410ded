use Rattle.std.proofs.Common.{◌≡◌, ◌∙◌, ◌∷◌, [], ◌++◌, ◌+◌, ◌-◌, ◌<◌, ℕ, List, Some, get_or, length, slice_get, ap, refl, subst, sym, arith}
use Rattle.std.proofs.lemmas.Grind.{common_steps}
use Rattle.std.proofs.lemmas.Iterator.Adapters.{YieldsList-from_vec}
use Rattle.std.proofs.lemmas.Iterator.Consumers.{YieldsList-turn, YieldsList-end}
use Rattle.std.proofs.lemmas.List.{length_push}
use Rattle.std.proofs.lemmas.Option.{slice_get-get_or}
use Rattle.cfg_graph.specs.declared.graph.Block.{Block}
use Rattle.cfg_graph.specs.Edges.{is_turn_kind}
use Rattle.drop_elaborate.specs.Build.{Made}
use Rattle.drop_elaborate.specs.Elaborated.{kind_after}
use Rattle.drop_blocks.specs.Ladders.{made_of, no_block}
use Rattle.drop_ends.proofs.Exact.{end-leads}
use Rattle.drop_ends.proofs.LeadingEnds.{kind-flat}
use Rattle.drop_ends.specs.Decisions.{IsBlockOf}
use Rattle.drop_ends.specs.Edges.{IsMade}
use Rattle.drop_ends.specs.Ends.{EndMade}
use Rattle.drop_ends.specs.Leads.{TermLeads, ByTerm}
use Rattle.drop_ends.specs.declared.decided.Decided.{Decided}
use Rattle.drop_flags.specs.Flags.{paths_of}
use Rattle.drop_bodies.proofs.Doing.{done-first, done-more}
use Rattle.drop_bodies.proofs.Laying.{LaidTo, laid-first, laid-more, laid-all}
use Rattle.drop_bodies.specs.Done.{AreDone}
use Rattle.drop_bodies.specs.Ended.{AreEnded, none_ended, one_ended}
use Rattle.drop_bodies.proofs.laid.laid_blocks.Goals as goal

pub loop-block-init : goal.loop-block-init
loop-block-init c =
    let body = c.args.body in (
      refl,
      λ items are.
          done-first items body (paths_of c.args.flags.now) c.args.decided.now c.from_vec-blocks.result
          (made_of c.new-new.result)
          (c.from_vec-blocks.ensures ∙ c.in_ok-with_capacity.ensures.items)
          (ap (λ (m : Made). m.first) c.new-new.ensures ∙ c.in_ok-count_of.ensures),
      λ items are.
          subst (λ (l : List Block). AreEnded items body (paths_of c.args.flags.now) c.args.decided.now 0 l (made_of c.new-new.result))
          (sym (c.from_vec-blocks.ensures ∙ c.in_ok-with_capacity.ensures.items))
          (subst (AreEnded items body (paths_of c.args.flags.now) c.args.decided.now 0 [])
          (sym (c.new-new.ensures ∙ ap no_block c.in_ok-count_of.ensures)) none_ended),
      laid-first body c.from_vec-blocks.result c.new-new.result.made c.from_vec-sizes.result
          (c.from_vec-blocks.ensures ∙ c.in_ok-with_capacity.ensures.items)
          (ap (λ (m : Made). m.blocks) c.new-new.ensures)
          (c.from_vec-sizes.ensures ∙ c.in_ok-with_capacity-2.ensures.items),
    )

pub bounds-decided-number : goal.bounds-decided-number
bounds-decided-number c =
    let body = c.args.body in
    let gives = YieldsList-from_vec body.blocks (grind (arith, common_steps)) (grind (arith, common_steps)) in
    let t = YieldsList-turn gives c.loop-block.yielded _ c.loop-block.yielded_by _ c.next.new.self c.in-Some.block c.in-Some.is c.next.ensures.steps in
    let less = t.0 in
    let same = c.loop-block.invariant.0 in
    let long = c.requires.count in omega (less, same, long, arith)

pub overflow_sub-after : goal.overflow_sub-after
overflow_sub-after c =
    let body = c.args.body in
    let flagged = paths_of c.args.flags.now in
    let item : Block = c.in-Some.block in
    let how : Decided = c.index-decided-number.result in
    let there : Block = c.in_ok-block_of.field-0 in
    let old : Made = made_of c.loop-block.new in
    let some = c.requires.flags in
    let kind = kind_after some.0 body flagged body item.kind in
    let leads : TermLeads (ByTerm item.term) old (made_of c.block_of.new.blocks) there.term =
    subst (λ (e : EndMade). TermLeads (ByTerm item.term) old e.made e.term)
    (sym (c.in_ok-block_of.ensures.built some.0 body some.1))
    (end-leads some.0 body flagged kind (kind-flat some.0 body flagged body item.kind) how item.term old) in
    let first = leads.0.grows.first in
    let longer = leads.0.longer in
    let before = c.in_ok-before.ensures in
    let after = c.in_ok-after.ensures in omega (first, longer, before, after, arith)

pub loop-block-preserved : goal.loop-block-preserved
loop-block-preserved c =
    let body = c.args.body in
    let flagged = paths_of c.args.flags.now in
    let decided : List Decided = c.args.decided.now in
    let gives = YieldsList-from_vec body.blocks (grind (arith, common_steps)) (grind (arith, common_steps)) in
    let t = YieldsList-turn gives c.loop-block.yielded _ c.loop-block.yielded_by _ c.next.new.self c.in-Some.block c.in-Some.is c.next.ensures.steps in
    let i = length c.loop-block.yielded in
    let item : Block = c.in-Some.block in
    let how : Decided = c.index-decided-number.result in
    let there : Block = c.in_ok-block_of.field-0 in
    let old : Made = made_of c.loop-block.new in
    let new : Made = made_of c.block_of.new.blocks in
    let within : i < length body.blocks = t.0 in
    let at : slice_get body.blocks i ≡ Some item = slice_get-get_or body.blocks i item within ∙ ap Some (sym t.1) in
    let next : length (c.loop-block.yielded ++ item ∷ []) ≡ i + 1 = length_push c.loop-block.yielded item in
    let same = c.loop-block.invariant.0 in
    let inside : i < length decided = (let k = c.requires.count in omega (k, within, arith)) in
    let at_how : slice_get decided i ≡ Some how =
    slice_get-get_or decided i how inside
    ∙ ap Some (sym (c.index-decided-number.is ∙ ap (λ (n : ℕ). get_or decided n how) same)) in
    let some = c.requires.flags in
    let kind = kind_after some.0 body flagged body item.kind in
    let leads : TermLeads (ByTerm item.term) old new there.term =
    subst (λ (e : EndMade). TermLeads (ByTerm item.term) old e.made e.term)
    (sym (c.in_ok-block_of.ensures.built some.0 body some.1))
    (end-leads some.0 body flagged kind (kind-flat some.0 body flagged body item.kind) how item.term old) in
    let first = leads.0.grows.first in
    let longer = leads.0.longer in
    let before = c.in_ok-before.ensures in
    let after = c.in_ok-after.ensures in
    let size = c.in_ok-after.after - c.in_ok-before.before in
    let size_is : length new.blocks ≡ length old.blocks + size = omega (first, longer, before, after, arith) in (
      (let e : c.loop-block.number + 1 ≡ length (c.loop-block.yielded ++ item ∷ []) = omega (same, next, arith) in e),
      λ items are.
          subst (λ (n : ℕ). AreDone items body flagged decided n c.push.new.self new) (sym next)
          (subst (λ (z : List Block). AreDone items body flagged decided (i + 1) z new) (sym c.in_ok-push.ensures.pushed)
          (done-more items body flagged decided c.loop-block.blocks old new i (c.loop-block.invariant.1 items are) item how
          there at at_how
          (subst (λ (n : ℕ). IsMade old new (λ after. IsBlockOf items body flagged after how n item there)) same
          (c.in_ok-block_of.ensures.stands items body are)))),
      λ items are.
          subst (λ (n : ℕ). AreEnded items body flagged decided n c.push.new.self new) (sym next)
          (subst (λ (z : List Block). AreEnded items body flagged decided (i + 1) z new) (sym c.in_ok-push.ensures.pushed)
          (one_ended i c.loop-block.blocks old new item there how (c.loop-block.invariant.2 items are) at at_how
          c.in_ok-block_of.ensures.kind (c.in_ok-block_of.ensures.built items body are))),
      subst (λ (n : ℕ). LaidTo body n c.push.new.self new.blocks c.push-in-loop-block.new.self) (sym next)
          (subst (λ (z : List Block). LaidTo body (i + 1) z new.blocks c.push-in-loop-block.new.self) (sym c.in_ok-push.ensures.pushed)
          (subst (λ (z : List ℕ). LaidTo body (i + 1) (c.loop-block.blocks ++ there ∷ []) new.blocks z)
          (sym c.in_ok-push-2.ensures.pushed)
          (laid-more body i c.loop-block.blocks c.loop-block.sizes old new (c.loop-block.invariant.1 some.0 some.1).first
          c.loop-block.invariant.3 item there at (ap is_turn_kind c.in_ok-block_of.ensures.kind) leads size size_is))),
    )

pub returns-clause-done : goal.returns-clause-done
returns-clause-done c items are =
    let body = c.args.body in
    let gives = YieldsList-from_vec body.blocks (grind (arith, common_steps)) (grind (arith, common_steps)) in
    let e = YieldsList-end gives c.loop-block.yielded _ c.loop-block.yielded_by _ c.next.new.self c.in-None.is c.next.ensures.steps in
    let all : length c.loop-block.yielded ≡ length body.blocks = e.1 in
    subst (λ (n : ℕ). AreDone items body (paths_of c.args.flags.now) c.args.decided.now n c.loop-block.blocks (made_of c.loop-block.new)) all
    (c.loop-block.invariant.1 items are)

pub returns-clause-ended : goal.returns-clause-ended
returns-clause-ended c items are =
    let body = c.args.body in
    let gives = YieldsList-from_vec body.blocks (grind (arith, common_steps)) (grind (arith, common_steps)) in
    let e = YieldsList-end gives c.loop-block.yielded _ c.loop-block.yielded_by _ c.next.new.self c.in-None.is c.next.ensures.steps in
    let all : length c.loop-block.yielded ≡ length body.blocks = e.1 in
    subst (λ (n : ℕ). AreEnded items body (paths_of c.args.flags.now) c.args.decided.now n c.loop-block.blocks (made_of c.loop-block.new)) all
    (c.loop-block.invariant.2 items are)

pub returns-clause-laid : goal.returns-clause-laid
returns-clause-laid c =
    let body = c.args.body in
    let gives = YieldsList-from_vec body.blocks (grind (arith, common_steps)) (grind (arith, common_steps)) in
    let e = YieldsList-end gives c.loop-block.yielded _ c.loop-block.yielded_by _ c.next.new.self c.in-None.is c.next.ensures.steps in
    let all : length c.loop-block.yielded ≡ length body.blocks = e.1 in
    laid-all body c.loop-block.blocks c.loop-block.new.made c.loop-block.sizes (length c.loop-block.yielded) all c.loop-block.invariant.3
