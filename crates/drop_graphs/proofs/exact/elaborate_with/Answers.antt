use Rattle.std.proofs.Common.{◌≡◌, ◌∙◌, ◌∷◌, [], ◌++◌, ◌+◌, ◌-◌, ◌<◌, ◌^◌, refl, ℕ, List, Some, get_or, length, slice_get, ap, subst, sym, arith}
use Rattle.std.proofs.lemmas.Grind.{common_steps}
use Rattle.std.proofs.lemmas.Iterator.Adapters.{YieldsList-from_vec}
use Rattle.std.proofs.lemmas.Iterator.Consumers.{YieldsList-turn, YieldsList-end}
use Rattle.std.proofs.lemmas.List.{length_push}
use Rattle.std.proofs.lemmas.List.Elements.{All-contains}
use Rattle.std.proofs.lemmas.Option.{slice_get-get_or}
use Rattle.mir_ty.proofs.ListLemmas.{Contains-slice_get}
use Rattle.cfg_graph.specs.WellFormed.Faults.{IsCountedBody}
use Rattle.cfg_graph.specs.declared.graph.Body.{Body}
use Rattle.cfg_graph.specs.declared.graph.Graph.{Graph}
use Rattle.drop_elaborate.proofs.Law.{elaboration-keeps-runs}
use Rattle.drop_elaborate.specs.Totals.{DropTotals}
use Rattle.drop_laws.proofs.ReadyLines.{ready-graph}
use Rattle.drop_laws.specs.Ready.{IsReadyBody}
use Rattle.drop_bodies.specs.Planning.{IsPlanned}
use Rattle.drop_bodies.specs.declared.body.PlannedBody.{PlannedBody}
use Rattle.drop_bodies.specs.Counts.{totals_of}
use Rattle.drop_graphs.proofs.Bodies.{AreFirst, none-first, one-more, elaboration-is, well-formed-is, counted-is, sums-are}
use Rattle.drop_graphs.proofs.exact.elaborate_with.Goals as goal

pub loop-body-init : goal.loop-body-init
loop-body-init c = (
  refl,
  subst (λ (l : List Body). AreFirst c.args.raw 0 l (totals_of c.new-counts.result))
      (sym (c.from_vec-bodies.ensures ∙ c.in_ok-with_capacity.ensures.items))
      (subst (λ (t : DropTotals). AreFirst c.args.raw 0 [] t) (sym c.new-counts.ensures) (none-first c.args.raw)),
)

pub bounds-as_slice-number : goal.bounds-as_slice-number
bounds-as_slice-number c =
    let raw : Graph = c.args.raw in
    let gives = YieldsList-from_vec raw.bodies (grind (arith, common_steps)) (grind (arith, common_steps)) in
    let t = YieldsList-turn gives c.loop-body.yielded _ c.loop-body.yielded_by _ c.next.new.self c.in-Some.body c.in-Some.is c.next.ensures.steps in
    let item : Body = c.in-Some.body in
    let i = length c.loop-body.yielded in
    let within : i < length raw.bodies = t.0 in
    let at : slice_get raw.bodies i ≡ Some item = slice_get-get_or raw.bodies i item within ∙ ap Some (sym t.1) in
    let same = c.loop-body.invariant.0 in
    let l = c.in_ok-plans.ensures.long in
    let seen = ap length c.as_slice.ensures in omega (l, within, same, seen, arith)

pub elaborate_body-requires-clause-planned : goal.elaborate_body-requires-clause-planned
elaborate_body-requires-clause-planned c =
    let raw : Graph = c.args.raw in
    let gives = YieldsList-from_vec raw.bodies (grind (arith, common_steps)) (grind (arith, common_steps)) in
    let t = YieldsList-turn gives c.loop-body.yielded _ c.loop-body.yielded_by _ c.next.new.self c.in-Some.body c.in-Some.is c.next.ensures.steps in
    let item : Body = c.in-Some.body in
    let i = length c.loop-body.yielded in
    let within : i < length raw.bodies = t.0 in
    let at : slice_get raw.bodies i ≡ Some item = slice_get-get_or raw.bodies i item within ∙ ap Some (sym t.1) in
    let same = c.loop-body.invariant.0 in
    let planned : PlannedBody = c.index-as_slice-number.result in
    let plans : List PlannedBody = c.in_ok-plans.plans in
    let inside : i < length plans = (let l = c.in_ok-plans.ensures.long in omega (l, within, arith)) in
    let at_plan : slice_get plans i ≡ Some planned =
    slice_get-get_or plans i planned inside
    ∙ ap Some (sym (c.index-as_slice-number.is
    ∙ ap (λ (z : List PlannedBody). get_or z c.loop-body.number planned) c.as_slice.ensures
    ∙ ap (λ (n : ℕ). get_or plans n planned) same)) in
    let ready : IsReadyBody raw.items item = record {
      graph = raw;
      number = i;
      there = at;
      items_are = refl;
      sound = c.bool_of-flag_ty.ensures.sound;
      ready = c.requires.ready;
    } in
    let is : IsPlanned raw.items item planned = c.in_ok-plans.ensures.each i item planned at at_plan in
    (raw.items, ready, is)

pub elaborate_body-requires-clause-count : goal.elaborate_body-requires-clause-count
elaborate_body-requires-clause-count c =
    let raw : Graph = c.args.raw in
    let gives = YieldsList-from_vec raw.bodies (grind (arith, common_steps)) (grind (arith, common_steps)) in
    let t = YieldsList-turn gives c.loop-body.yielded _ c.loop-body.yielded_by _ c.next.new.self c.in-Some.body c.in-Some.is c.next.ensures.steps in
    let item : Body = c.in-Some.body in
    let i = length c.loop-body.yielded in
    let within : i < length raw.bodies = t.0 in
    let at : slice_get raw.bodies i ≡ Some item = slice_get-get_or raw.bodies i item within ∙ ap Some (sym t.1) in
    let few : length item.blocks < 2 ^ 32 - 1 =
    (All-contains IsCountedBody raw.bodies item c.requires.counted.each (Contains-slice_get raw.bodies i item at)).blocks in
    omega (few, arith)

pub loop-body-preserved : goal.loop-body-preserved
loop-body-preserved c =
    let raw : Graph = c.args.raw in
    let gives = YieldsList-from_vec raw.bodies (grind (arith, common_steps)) (grind (arith, common_steps)) in
    let t = YieldsList-turn gives c.loop-body.yielded _ c.loop-body.yielded_by _ c.next.new.self c.in-Some.body c.in-Some.is c.next.ensures.steps in
    let item : Body = c.in-Some.body in
    let i = length c.loop-body.yielded in
    let within : i < length raw.bodies = t.0 in
    let at : slice_get raw.bodies i ≡ Some item = slice_get-get_or raw.bodies i item within ∙ ap Some (sym t.1) in
    let same = c.loop-body.invariant.0 in
    let planned : PlannedBody = c.index-as_slice-number.result in
    let plans : List PlannedBody = c.in_ok-plans.plans in
    let inside : i < length plans = (let l = c.in_ok-plans.ensures.long in omega (l, within, arith)) in
    let at_plan : slice_get plans i ≡ Some planned =
    slice_get-get_or plans i planned inside
    ∙ ap Some (sym (c.index-as_slice-number.is
    ∙ ap (λ (z : List PlannedBody). get_or z c.loop-body.number planned) c.as_slice.ensures
    ∙ ap (λ (n : ℕ). get_or plans n planned) same)) in
    let ready : IsReadyBody raw.items item = record {
      graph = raw;
      number = i;
      there = at;
      items_are = refl;
      sound = c.bool_of-flag_ty.ensures.sound;
      ready = c.requires.ready;
    } in
    let is : IsPlanned raw.items item planned = c.in_ok-plans.ensures.each i item planned at at_plan in
    let exact : Body = c.in_ok-elaborate_body.field-0 in
    let done = c.in_ok-elaborate_body.ensures in
    let flag = c.bool_of-flag_ty.ensures.found in
    let counts = planned.counts in
    let sums = totals_of c.loop-body.counts in
    let next : length (c.loop-body.yielded ++ item ∷ []) ≡ i + 1 = length_push c.loop-body.yielded item in (
      (let e : c.loop-body.number + 1 ≡ length (c.loop-body.yielded ++ item ∷ []) = omega (same, next, arith) in e),
      subst (λ (k : ℕ). AreFirst raw k c.push.new.self (totals_of c.add.new.self)) (sym next)
          (subst (λ (l : List Body). AreFirst raw (i + 1) l (totals_of c.add.new.self)) (sym c.in_ok-push.ensures.pushed)
          (subst (λ (t : DropTotals). AreFirst raw (i + 1) (c.loop-body.bodies ++ exact ∷ []) t) (sym c.in_ok-add.ensures)
          (one-more raw i c.loop-body.bodies sums c.loop-body.invariant.1 item exact at (done.elaborated raw.items ready is flag)
          (done.faultless raw.items ready is flag) done.counted (totals_of counts) (done.counts raw.items ready is)))),
    )

pub returns-clause-elaborated : goal.returns-clause-elaborated
returns-clause-elaborated c =
    let raw : Graph = c.args.raw in
    let graph : Graph = record { items = raw.items; bodies = c.loop-body.bodies } in
    let gives = YieldsList-from_vec raw.bodies (grind (arith, common_steps)) (grind (arith, common_steps)) in
    let e = YieldsList-end gives c.loop-body.yielded _ c.loop-body.yielded_by _ c.next.new.self c.in-None.is c.next.ensures.steps in
    let all : length c.loop-body.yielded ≡ length raw.bodies = e.1 in
    elaboration-is raw graph (length c.loop-body.yielded) (totals_of c.loop-body.counts) all refl c.loop-body.invariant.1

pub returns-clause-counted : goal.returns-clause-counted
returns-clause-counted c =
    let raw : Graph = c.args.raw in
    let graph : Graph = record { items = raw.items; bodies = c.loop-body.bodies } in
    let gives = YieldsList-from_vec raw.bodies (grind (arith, common_steps)) (grind (arith, common_steps)) in
    let e = YieldsList-end gives c.loop-body.yielded _ c.loop-body.yielded_by _ c.next.new.self c.in-None.is c.next.ensures.steps in
    let all : length c.loop-body.yielded ≡ length raw.bodies = e.1 in
    counted-is raw graph (length c.loop-body.yielded) (totals_of c.loop-body.counts) all refl c.loop-body.invariant.1
    c.requires.counted.bodies

pub returns-clause-well_formed : goal.returns-clause-well_formed
returns-clause-well_formed c =
    let raw : Graph = c.args.raw in
    let graph : Graph = record { items = raw.items; bodies = c.loop-body.bodies } in
    let gives = YieldsList-from_vec raw.bodies (grind (arith, common_steps)) (grind (arith, common_steps)) in
    let e = YieldsList-end gives c.loop-body.yielded _ c.loop-body.yielded_by _ c.next.new.self c.in-None.is c.next.ensures.steps in
    let all : length c.loop-body.yielded ≡ length raw.bodies = e.1 in
    well-formed-is raw graph (length c.loop-body.yielded) (totals_of c.loop-body.counts) all refl c.loop-body.invariant.1
    c.requires.ready.well_formed

pub returns-clause-counts : goal.returns-clause-counts
returns-clause-counts c =
    let raw : Graph = c.args.raw in
    let graph : Graph = record { items = raw.items; bodies = c.loop-body.bodies } in
    let gives = YieldsList-from_vec raw.bodies (grind (arith, common_steps)) (grind (arith, common_steps)) in
    let e = YieldsList-end gives c.loop-body.yielded _ c.loop-body.yielded_by _ c.next.new.self c.in-None.is c.next.ensures.steps in
    let all : length c.loop-body.yielded ≡ length raw.bodies = e.1 in
    sums-are raw graph (length c.loop-body.yielded) (totals_of c.loop-body.counts) all refl c.loop-body.invariant.1

pub returns-clause-runs : goal.returns-clause-runs
returns-clause-runs c stays asked ticks free =
    let raw : Graph = c.args.raw in
    let graph : Graph = record { items = raw.items; bodies = c.loop-body.bodies } in
    let gives = YieldsList-from_vec raw.bodies (grind (arith, common_steps)) (grind (arith, common_steps)) in
    let e = YieldsList-end gives c.loop-body.yielded _ c.loop-body.yielded_by _ c.next.new.self c.in-None.is c.next.ensures.steps in
    let all : length c.loop-body.yielded ≡ length raw.bodies = e.1 in
    elaboration-keeps-runs raw graph asked ticks c.bool_of-flag_ty.ensures.sound (ready-graph raw c.requires.ready stays)
    (elaboration-is raw graph (length c.loop-body.yielded) (totals_of c.loop-body.counts) all refl c.loop-body.invariant.1) free
