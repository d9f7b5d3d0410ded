use Rattle.std.proofs.Common.{◌≡◌, ◌∙◌, ◌<◌, ◌≤◌, ◌+◌, ◌∷◌, [], ◌++◌, ℕ, suc, List, Option, Some, None, Contains, length, map, slice_get, refl, sym, ap, subst, rules, arith}
use Rattle.std.specs.Prelude.{option_and_then, unwrap_or}
use Rattle.std.proofs.lemmas.Bool.{false≢true}
use Rattle.std.proofs.lemmas.Option.{slice_get_within, get_or_from_slice_get}
use Rattle.std.proofs.lemmas.Result.{IfOk-weaker}
use Rattle.std.proofs.lemmas.List.{map-append}
use Rattle.mir_ty.specs.declared.adt.Variant.{Variant}
use Rattle.mir_ty.specs.declared.ty.Ty.{Ty}
use Rattle.mir_ty.specs.declared.ty.TyId.{TyId}
use Rattle.mir_ty.specs.Parts.{field_ty, fields_of, parts_of, variants_of}
use Rattle.mir_ty.proofs.ListLemmas.{Contains-slice_get}
use Rattle.store_model.specs.Places.Place.{Place, ToContent, step_ty, whole_local}
use Rattle.cfg_graph.specs.declared.place.Step.{Step}
use Rattle.cfg_graph.specs.Moves.Gone.{below}
use Rattle.cfg_graph.specs.Places.{named_step}
use Rattle.move_paths.specs.Forest.{children_of, path_at}
use Rattle.drop_values.specs.Plan as plain
use Rattle.drop_values.specs.Plan.{Plans}
use Rattle.drop_values.specs.Planning.{guarded, whole_plan, part_plans, stepped}
use Rattle.drop_blocks.proofs.Seen.{nothing_seen, entire_seen, in_parts_seen, of_box_seen, by_variant_seen}
use Rattle.drop_blocks.specs.View.{plan_in, parts_in, plans_from, cases_from}
use Rattle.drop_blocks.specs.declared.plan.Plan.{Plan}
use Rattle.drop_blocks.specs.declared.plan.VariantPlan.{roll-VariantPlan}
use Rattle.drop_plans.proofs.Fitted.{part-steps, field-steps, field-is, past-all, fits, some-at, listed-more, listed-all, variant_made}
use Rattle.drop_plans.proofs.Listed.{one_plan, plan_list, plans-listed, one_variant, variant_list, variants-listed}
use Rattle.drop_plans.proofs.Lowest.{lowest, not-lowest}
use Rattle.drop_plans.proofs.Made.{path-there, mask-long, masks-long, unneeded-tree, absent-tree, entire-tree, by-flag-tree, unguarded-tree, lowest-whole, box-shape, parts-shape, enum-shape, part-path, part-whole}
use Rattle.drop_plans.specs.Plans.{IsEnum, ids_in, ids_of, below_of, part_at}
use Rattle.drop_plans.specs.Trees.{IsTreeOf}
use Rattle.drop_plans.specs.declared.planner.Planner.{Planner}
use Rattle.drop_plans.proofs.planner.+plans.Goals as goal

pub plan-get-requires : goal.plan-get-requires
plan-get-requires t c =
    let w = c.requires.path in
    let e = c.requires.told.present in
    omega (w, e, arith)

pub plan-meets-requires-clause-path : goal.plan-meets-requires-clause-path
plan-meets-requires-clause-path t c =
    let w = c.requires.path in
    let e = masks-long c.args.at.now c.requires.told c.args.path (path_at c.args.at.now.forest.now.paths c.args.path) (path-there c.args.at.now.forest.now.paths c.args.path c.requires.path) in
    omega (w, e, arith)

pub plan-meets-requires-clause-paths : goal.plan-meets-requires-clause-paths
plan-meets-requires-clause-paths t c =
    c.requires.told.gone ∙ sym (masks-long c.args.at.now c.requires.told c.args.path (path_at c.args.at.now.forest.now.paths c.args.path) (path-there c.args.at.now.forest.now.paths c.args.path c.requires.path))

pub plan-meets-requires-clause-mask : goal.plan-meets-requires-clause-mask
plan-meets-requires-clause-mask t c =
    c.requires.told.gone ∙ sym (mask-long c.args.at.now c.requires.told c.args.path (path_at c.args.at.now.forest.now.paths c.args.path) (path-there c.args.at.now.forest.now.paths c.args.path c.requires.path))

pub plan-get-requires-2 : goal.plan-get-requires-2
plan-get-requires-2 t c =
    let w = c.requires.path in
    let e = c.requires.told.gone in
    omega (w, e, arith)

pub plan-returns-then-not-needs_drop : goal.plan-returns-then-not-needs_drop
plan-returns-then-not-needs_drop t c = λ tree is.
    nothing_seen
    ∙ unneeded-tree c.args.at.now c.requires.told c.args.path (path_at c.args.at.now.forest.now.paths c.args.path) (path-there c.args.at.now.forest.now.paths c.args.path c.requires.path) c.args.ty
    (sym c.needs_drop.ensures.value ∙ c.if-not-needs_drop.true) tree is

pub plan-returns-then-not-get : goal.plan-returns-then-not-get
plan-returns-then-not-get t c = λ tree is.
    nothing_seen
    ∙ absent-tree c.args.at.now c.requires.told c.args.path (path_at c.args.at.now.forest.now.paths c.args.path) (path-there c.args.at.now.forest.now.paths c.args.path c.requires.path) c.args.ty
    (sym c.needs_drop.ensures.value ∙ c.if-not-needs_drop.false) (sym c.get.ensures ∙ c.if-not-get.true) tree is

pub plan-returns-then-not-meets : goal.plan-returns-then-not-meets
plan-returns-then-not-meets t c = λ tree is.
    entire_seen
    ∙ entire-tree c.args.at.now c.requires.told c.args.path (path_at c.args.at.now.forest.now.paths c.args.path) (path-there c.args.at.now.forest.now.paths c.args.path c.requires.path) c.args.ty
    (sym c.needs_drop.ensures.value ∙ c.if-not-needs_drop.false) (sym c.get.ensures ∙ c.if-not-get.false)
    (sym c.meets.ensures ∙ c.if-not-meets.true) tree is

pub plan-returns-then-get : goal.plan-returns-then-get
plan-returns-then-get t c =
    IfOk-weaker c.inner.result _ _
    (λ made planned tree is. by-flag-tree c.args.at.now c.requires.told c.args.path (path_at c.args.at.now.forest.now.paths c.args.path) (path-there c.args.at.now.forest.now.paths c.args.path c.requires.path)
    c.args.ty (plan_in made) c.flag_of-guard.result planned c.flag_of-guard.ensures
    (sym c.needs_drop.ensures.value ∙ c.if-not-needs_drop.false) (sym c.get.ensures ∙ c.if-not-get.false)
    (sym c.meets.ensures ∙ c.if-not-meets.false) (sym c.get-2.ensures ∙ c.if-get.true) tree is) c.inner.ensures

pub plan-returns : goal.plan-returns
plan-returns t c =
    IfOk-weaker c.inner-2.result _ _
    (λ made planned tree is. unguarded-tree c.args.at.now c.requires.told c.args.path (path_at c.args.at.now.forest.now.paths c.args.path)
    (path-there c.args.at.now.forest.now.paths c.args.path c.requires.path) c.args.ty (plan_in made) planned
    (sym c.needs_drop.ensures.value ∙ c.if-not-needs_drop.false) (sym c.get.ensures ∙ c.if-not-get.false)
    (sym c.meets.ensures ∙ c.if-not-meets.false) (sym c.get-2.ensures ∙ c.if-get.false) tree is) c.inner-2.ensures

pub inner-returns-then-is_lowest : goal.inner-returns-then-is_lowest
inner-returns-then-is_lowest t c =
    let paths = c.args.at.now.forest.now.paths in
    let none : children_of paths c.args.path ≡ [] = c.is_lowest.ensures.0 c.if-is_lowest.true in
    IfOk-weaker c.whole.result _ _
    (λ made h number under is. h ∙ sym (lowest-whole c.args.at.now under c.args.ty c.args.guard
    (lowest paths c.args.path (path_at c.args.at.now.forest.now.paths c.args.path) (path-there c.args.at.now.forest.now.paths c.args.path c.requires.path) number under is none))) c.whole.ensures

pub inner-returns-in_ok-new-in-Box : goal.inner-returns-in_ok-new-in-Box
inner-returns-in_ok-new-in-Box t c = λ number under is.
    let at : Planner = c.args.at.now in
    let guard = c.args.guard in
    let branched = not-lowest at.forest.now.paths c.args.path (path_at c.args.at.now.forest.now.paths c.args.path) (path-there c.args.at.now.forest.now.paths c.args.path c.requires.path) number under is
    (λ e. false≢true (sym c.if-is_lowest.false ∙ c.is_lowest.ensures.1 e)) in
    let no_impl = c.in-Box.ensures.0 in
    let typed = c.in-Box.ensures.1 in
    let content = c.in-Box.content in
    let inside : c.in_ok-new-in-Box.field-0.value ≡ c.in_ok-inside-in-Box.inside = search rules in
    of_box_seen guard c.in_ok-new-in-Box.field-0
    ∙ ap (λ (p : Plan). plain.OfBox guard (plan_in p)) inside
    ∙ ap (plain.OfBox guard) (c.in_ok-inside-in-Box.ensures number under c.args.ty is
    (ap (λ (o : Option Ty). unwrap_or (option_and_then (step_ty at.items.now ToContent) o) c.args.ty) typed))
    ∙ box-shape at under c.args.ty guard branched no_impl content typed

pub inner-returns-in_ok-variants-in-Enum : goal.inner-returns-in_ok-variants-in-Enum
inner-returns-in_ok-variants-in-Enum t c =
    let at : Planner = c.args.at.now in
    let guard = c.args.guard in
    let shape = c.in-Enum.ensures in
    IfOk-weaker c.guarded.result _ _
    (λ made h number under is.
    let branched = not-lowest at.forest.now.paths c.args.path (path_at c.args.at.now.forest.now.paths c.args.path) (path-there c.args.at.now.forest.now.paths c.args.path c.requires.path) number under is
    (λ e. false≢true (sym c.if-is_lowest.false ∙ c.is_lowest.ensures.1 e)) in
    let enum : IsEnum at c.args.ty shape.1.0 c.in-Enum.count =
    record { typed = shape.1.1; is = shape.1.2; variants = shape.1.3 } in
    h ∙ ap (guarded guard) (by_variant_seen c.in_ok-variants-in-Enum.variants
    ∙ ap plain.ByVariant (c.in_ok-variants-in-Enum.ensures number under is shape.1.0 enum))
    ∙ enum-shape at under c.args.ty guard branched shape.0 shape.1.0 c.in-Enum.count enum) c.guarded.ensures

pub inner-returns-in_ok-plans-in-Parts : goal.inner-returns-in_ok-plans-in-Parts
inner-returns-in_ok-plans-in-Parts t c = λ number under is.
    let at : Planner = c.args.at.now in
    let guard = c.args.guard in
    let shape = c.in-Parts.ensures in
    let branched = not-lowest at.forest.now.paths c.args.path (path_at c.args.at.now.forest.now.paths c.args.path) (path-there c.args.at.now.forest.now.paths c.args.path c.requires.path) number under is
    (λ e. false≢true (sym c.if-is_lowest.false ∙ c.is_lowest.ensures.1 e)) in
    in_parts_seen c.in_ok-plans-in-Parts.plans
    ∙ ap plain.InParts (c.in_ok-plans-in-Parts.ensures number under is (shape.1.0, shape.1.1, shape.1.2)
    ∙ (λ i. part_plans at.items.now guard (ids_in at.items.now (shape.1.1 i) 0) (part-steps i) (below_of at under c.args.ty) 0))
    ∙ parts-shape at under c.args.ty guard branched shape.0 shape.1.0 shape.1.1 shape.1.2 shape.1.3

pub part-returns-in-Some : goal.part-returns-in-Some
part-returns-in-Some t c =
    let at : Planner = c.args.at.now in
    let paths : List Place = at.forest.now.paths in
    let place = path_at paths c.args.path in
    let step = named_step c.args.step in
    let child_is : path_at paths c.in-Some.child ≡ below place (step ∷ []) =
    get_or_from_slice_get paths c.in-Some.child (below place (step ∷ [])) (whole_local 0) c.in-Some.ensures.0 in
    let has = Contains-slice_get paths c.in-Some.child (below place (step ∷ [])) c.in-Some.ensures.0 in
    IfOk-weaker c.plan.result _ _
    (λ made planned number under id is fit. part-path at c.requires.told c.args.path place
    (path-there paths c.args.path c.requires.path) number under id
    c.args.ty step c.args.guard is fit (plan_in made) has
    (λ tree tree_is. planned tree (subst (λ (q : Place). IsTreeOf paths q tree) (sym child_is) tree_is)))
    c.plan.ensures

pub part-returns-in-None : goal.part-returns-in-None
part-returns-in-None t c =
    let at : Planner = c.args.at.now in
    let paths : List Place = at.forest.now.paths in
    IfOk-weaker c.whole_if.result _ _
    (λ made h number under id is fit. h ∙ ap (whole_plan c.args.guard) c.needs_drop.ensures.value
    ∙ part-whole at c.requires.told c.args.path (path_at paths c.args.path)
    (path-there paths c.args.path c.requires.path) number under id c.args.ty (named_step c.args.step) c.args.guard is fit
    c.in-None.ensures) c.whole_if.ensures

pub part_plans-loop-part_ty-preserved : goal.part_plans-loop-part_ty-preserved
part_plans-loop-part_ty-preserved t c = λ number under is typed.
    let at : Planner = c.args.at.now in
    let id = c.args.ty in
    let variant = c.args.variant in
    let n = c.loop-part_ty.n in
    let part = c.in-Some.part_ty in
    let ids : List TyId = ids_of at id variant in
    let here : slice_get ids n ≡ Some part =
    sym (c.field_ty.ensures.value ∙ ap (λ (v : ℕ). field_ty at.items.now id v n) c.unwrap_or.ensures
    ∙ field-is at.items.now id (unwrap_or variant 0) n) ∙ c.in-Some.is in
    let of_type : slice_get (parts_of at.items.now typed.0 (unwrap_or variant 0)) n ≡ Some part =
    ap (λ (o : Option Ty). slice_get (ids_in at.items.now o (unwrap_or variant 0)) n) (sym typed.1) ∙ here in
    let fit : stepped at.items.now (named_step c.step_to-step.result) id ≡ part =
    ap (λ (s : Step). stepped at.items.now (named_step s) id) c.step_to-step.ensures
    ∙ fits at.items.now id part variant n typed.0 typed.1 typed.2 of_type in
    let one : plan_in c.in_ok-part.field-0 ≡ one_plan at under id variant c.args.guard part n =
    c.in_ok-part.ensures number under id is fit
    ∙ ap (λ (s : Step). part_at at under id c.args.guard (named_step s) part) c.step_to-step.ensures in
    let next : c.in_ok-n.n ≡ suc n = (let e : c.in_ok-n.n ≡ n + 1 = c.in_ok-n.ensures in omega (e, arith)) in
    let pushed : c.push.new.self ≡ c.loop-part_ty.plans ++ c.in_ok-part.field-0 ∷ [] = c.in_ok-push.ensures.pushed in
    listed-more (plan_list at under id variant c.args.guard) (one_plan at under id variant c.args.guard) ids n c.in_ok-n.n part
    (map plan_in c.loop-part_ty.plans) (map plan_in c.push.new.self) _ (λ y rest k. refl) here next
    (ap (map plan_in) pushed ∙ map-append plan_in c.loop-part_ty.plans (c.in_ok-part.field-0 ∷ [])
    ∙ ap (λ (p : plain.Plan). map plan_in c.loop-part_ty.plans ++ p ∷ []) one)
    (c.loop-part_ty.invariant number under is typed)

pub part_plans-returns : goal.part_plans-returns
part_plans-returns t c = λ number under is typed.
    let at : Planner = c.args.at.now in
    let id = c.args.ty in
    let variant = c.args.variant in
    let n = c.loop-part_ty.n in
    let ids : List TyId = ids_of at id variant in
    let none : slice_get ids n ≡ None =
    sym (c.field_ty.ensures.value ∙ ap (λ (v : ℕ). field_ty at.items.now id v n) c.unwrap_or.ensures
    ∙ field-is at.items.now id (unwrap_or variant 0) n) ∙ c.in_default.is in
    let all : map plan_in c.loop-part_ty.plans ≡ plan_list at under id variant c.args.guard ids 0 =
    listed-all (plan_list at under id variant c.args.guard) ids n _ _ refl (past-all ids n none)
    (c.loop-part_ty.invariant number under is typed) in
    ap plans_from all ∙ plans-listed at under id variant c.args.guard ids 0

pub variant_plans-loop-preserved : goal.variant_plans-loop-preserved
variant_plans-loop-preserved t c =
    let so_far = c.loop.invariant.0 in
    let e : c.in_ok-variant.variant ≡ c.loop.variant + 1 = c.in_ok-variant.ensures in (
      omega (so_far, e, arith),
      λ number under is n enum.
          let at : Planner = c.args.at.now in
          let id = c.args.ty in
          let v = c.loop.variant in
          let variants : List Variant = variants_of (slice_get at.items.now.adts n) in
          let less : v < length variants =
          (let k = enum.variants in let l = c.loop-test.true in omega (so_far, k, l, arith)) in
          let x = some-at variants v less in
          let parts : List Plan = c.in_ok-parts.parts in
          let fields : ids_of at id (Some v) ≡ x.0.fields =
          ap (λ (o : Option Ty). ids_in at.items.now o v) enum.typed ∙ ap fields_of x.1 in
          let one : plans_from (map plan_in parts) ≡ one_variant at under id x.0 v =
          c.in_ok-parts.ensures number under is (Ty.Adt n, enum.typed, enum.is)
          ∙ (λ i. part_plans at.items.now None (fields i) (field-steps v i) (below_of at under id) 0) in
          let pushed : c.push.new.self ≡ c.loop.variants ++ roll-VariantPlan record { parts = parts } ∷ [] = c.in_ok-push.ensures.pushed in
          listed-more (variant_list at under id) (one_variant at under id) variants v c.in_ok-variant.variant x.0
          (map parts_in c.loop.variants) (map parts_in c.push.new.self) _ (λ y rest k. refl) x.1 (omega (e, arith))
          (ap (map parts_in) pushed ∙ map-append parts_in c.loop.variants (roll-VariantPlan record { parts = parts } ∷ [])
          ∙ ap (λ (p : Plans). map parts_in c.loop.variants ++ p ∷ []) (variant_made parts ∙ one))
          (c.loop.invariant.1 number under is n enum),
    )

pub variant_plans-returns : goal.variant_plans-returns
variant_plans-returns t c = λ number under is n enum.
    let at : Planner = c.args.at.now in
    let id = c.args.ty in
    let v = c.loop.variant in
    let variants : List Variant = variants_of (slice_get at.items.now.adts n) in
    let far : length variants ≤ v =
    (let so_far = c.loop.invariant.0 in let k = enum.variants in let l = c.loop-test.false in let m = c.loop.auto.counter-end in omega (so_far, k, l, m, arith)) in
    let all : map parts_in c.loop.variants ≡ variant_list at under id variants 0 =
    listed-all (variant_list at under id) variants v _ _ refl far (c.loop.invariant.1 number under is n enum) in
    ap (λ (l : List Plans). cases_from l 0) all ∙ variants-listed at under id variants 0
