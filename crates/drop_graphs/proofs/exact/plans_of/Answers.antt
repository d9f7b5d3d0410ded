use Rattle.std.proofs.Common.{◌≡◌, ◌∙◌, ◌∷◌, [], ◌++◌, ◌+◌, ◌-◌, ◌<◌, ◌^◌, refl, ℕ, List, Some, get_or, length, slice_get, ap, subst, sym, arith}
use Rattle.std.proofs.lemmas.Grind.{common_steps}
use Rattle.std.proofs.lemmas.Iterator.Adapters.{YieldsList-from_vec}
use Rattle.std.proofs.lemmas.Iterator.Consumers.{YieldsList-turn, YieldsList-end}
use Rattle.std.proofs.lemmas.List.{length_push}
use Rattle.std.proofs.lemmas.List.Elements.{All-contains}
use Rattle.std.proofs.lemmas.Option.{same_Some, slice_get-get_or}
use Rattle.mir_ty.proofs.ListLemmas.{Contains-slice_get}
use Rattle.cfg_graph.specs.WellFormed.Faults.{IsCountedBody}
use Rattle.cfg_graph.specs.declared.graph.Body.{Body}
use Rattle.cfg_graph.specs.declared.graph.Graph.{Graph}
use Rattle.drop_bodies.specs.Planning.{IsPlanned}
use Rattle.drop_bodies.specs.declared.body.PlannedBody.{PlannedBody}
use Rattle.drop_graphs.proofs.AllGone.{ArePlannedTo, none-to, one-more-to, all-planned}
use Rattle.drop_graphs.proofs.exact.plans_of.Goals as goal

pub loop-told-init : goal.loop-told-init
loop-told-init c = (
  refl,
  subst (ArePlannedTo c.args.raw.now 0) (sym (c.from_vec-plans.ensures ∙ c.in_ok-with_capacity.ensures.items))
      (none-to IsPlanned c.args.raw.now),
)

pub bounds-as_slice-number : goal.bounds-as_slice-number
bounds-as_slice-number c =
    let gives = YieldsList-from_vec c.args.gone (grind (arith, common_steps)) (grind (arith, common_steps)) in
    let t = YieldsList-turn gives c.loop-told.yielded _ c.loop-told.yielded_by _ c.next.new.self c.in-Some.told c.in-Some.is c.next.ensures.steps in
    let less = t.0 in
    let long = c.requires.gone.long in
    let same = c.loop-told.invariant.0 in
    let seen = ap length c.as_slice.ensures in omega (less, long, same, seen, arith)

pub plan_of-requires-clause-there : goal.plan_of-requires-clause-there
plan_of-requires-clause-there c =
    let gives = YieldsList-from_vec c.args.gone (grind (arith, common_steps)) (grind (arith, common_steps)) in
    let t = YieldsList-turn gives c.loop-told.yielded _ c.loop-told.yielded_by _ c.next.new.self c.in-Some.told c.in-Some.is c.next.ensures.steps in
    let bodies : List Body = c.args.raw.now.bodies in
    let item : Body = c.index-as_slice-number.result in
    let n = c.loop-told.number in
    let within : n < length bodies = (let less = t.0 in let long = c.requires.gone.long in let same = c.loop-told.invariant.0 in omega (less, long, same, arith)) in
    slice_get-get_or bodies n item within
    ∙ ap Some (ap (λ (z : List Body). get_or z n item) (sym c.as_slice.ensures) ∙ sym c.index-as_slice-number.is)

pub plan_of-requires-clause-gone : goal.plan_of-requires-clause-gone
plan_of-requires-clause-gone c =
    let gives = YieldsList-from_vec c.args.gone (grind (arith, common_steps)) (grind (arith, common_steps)) in
    let t = YieldsList-turn gives c.loop-told.yielded _ c.loop-told.yielded_by _ c.next.new.self c.in-Some.told c.in-Some.is c.next.ensures.steps in
    let raw : Graph = c.args.raw.now in
    let item : Body = c.index-as_slice-number.result in
    let n = c.loop-told.number in
    let same = c.loop-told.invariant.0 in
    let within : n < length raw.bodies = (let less = t.0 in let long = c.requires.gone.long in omega (less, long, same, arith)) in
    let at : slice_get raw.bodies n ≡ Some item =
    slice_get-get_or raw.bodies n item within
    ∙ ap Some (ap (λ (z : List Body). get_or z n item) (sym c.as_slice.ensures) ∙ sym c.index-as_slice-number.is) in
    c.requires.gone.each n item c.in-Some.told at
    (ap (slice_get c.args.gone) same ∙ slice_get-get_or c.args.gone (length c.loop-told.yielded) c.in-Some.told t.0 ∙ ap Some (sym t.1))

pub plan_of-requires-clause-count : goal.plan_of-requires-clause-count
plan_of-requires-clause-count c =
    let gives = YieldsList-from_vec c.args.gone (grind (arith, common_steps)) (grind (arith, common_steps)) in
    let t = YieldsList-turn gives c.loop-told.yielded _ c.loop-told.yielded_by _ c.next.new.self c.in-Some.told c.in-Some.is c.next.ensures.steps in
    let raw : Graph = c.args.raw.now in
    let item : Body = c.index-as_slice-number.result in
    let n = c.loop-told.number in
    let same = c.loop-told.invariant.0 in
    let within : n < length raw.bodies = (let less = t.0 in let long = c.requires.gone.long in omega (less, long, same, arith)) in
    let at : slice_get raw.bodies n ≡ Some item =
    slice_get-get_or raw.bodies n item within
    ∙ ap Some (ap (λ (z : List Body). get_or z n item) (sym c.as_slice.ensures) ∙ sym c.index-as_slice-number.is) in
    let few : length item.blocks < 2 ^ 32 - 1 =
    (All-contains IsCountedBody raw.bodies item c.requires.counted.each (Contains-slice_get raw.bodies n item at)).blocks in
    omega (few, arith)

pub loop-told-preserved : goal.loop-told-preserved
loop-told-preserved c =
    let gives = YieldsList-from_vec c.args.gone (grind (arith, common_steps)) (grind (arith, common_steps)) in
    let t = YieldsList-turn gives c.loop-told.yielded _ c.loop-told.yielded_by _ c.next.new.self c.in-Some.told c.in-Some.is c.next.ensures.steps in
    let raw : Graph = c.args.raw.now in
    let item : Body = c.index-as_slice-number.result in
    let n = c.loop-told.number in
    let same = c.loop-told.invariant.0 in
    let within : n < length raw.bodies = (let less = t.0 in let long = c.requires.gone.long in omega (less, long, same, arith)) in
    let at : slice_get raw.bodies n ≡ Some item =
    slice_get-get_or raw.bodies n item within
    ∙ ap Some (ap (λ (z : List Body). get_or z n item) (sym c.as_slice.ensures) ∙ sym c.index-as_slice-number.is) in
    let i = length c.loop-told.yielded in
    let planned : PlannedBody = c.in_ok-plan_of.field-0 in
    let at_i : slice_get raw.bodies i ≡ Some item = ap (slice_get raw.bodies) (sym same) ∙ at in
    let next : length (c.loop-told.yielded ++ c.in-Some.told ∷ []) ≡ i + 1 = length_push c.loop-told.yielded c.in-Some.told in (
      (let e : n + 1 ≡ length (c.loop-told.yielded ++ c.in-Some.told ∷ []) = omega (same, next, arith) in e),
      subst (λ (k : ℕ). ArePlannedTo raw k c.push.new.self) (sym next)
          (subst (ArePlannedTo raw (i + 1)) (sym c.in_ok-push.ensures.pushed)
          (one-more-to IsPlanned raw i c.loop-told.plans c.loop-told.invariant.1 planned
          (λ found there. subst (λ (b : Body). IsPlanned raw.items b planned)
          (same_Some item found (sym at_i ∙ there)) c.in_ok-plan_of.ensures))),
    )

pub returns : goal.returns
returns c =
    let gives = YieldsList-from_vec c.args.gone (grind (arith, common_steps)) (grind (arith, common_steps)) in
    let e = YieldsList-end gives c.loop-told.yielded _ c.loop-told.yielded_by _ c.next.new.self c.in-None.is c.next.ensures.steps in
    all-planned c.args.raw.now (length c.loop-told.yielded) c.loop-told.plans (e.1 ∙ c.requires.gone.long)
    c.loop-told.invariant.1
