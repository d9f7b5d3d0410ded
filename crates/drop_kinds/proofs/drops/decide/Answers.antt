use Rattle.std.proofs.Common.{◌≡◌, ◌∙◌, Bool, List, Some, ap, subst, sym}
use Rattle.std.proofs.lemmas.Option.{none-some, slice_get_within, get_or_from_slice_get}
use Rattle.std.proofs.lemmas.Result.{IfOk-weaker}
use Rattle.mir_ty.specs.declared.ty.TyId.{TyId}
use Rattle.store_model.specs.Places.Place.{Place, whole_local}
use Rattle.cfg_graph.specs.Places.{named, place_id}
use Rattle.move_paths.specs.Forest.{path_at}
use Rattle.drop_plans.specs.Plans.{facts_of, flag_of}
use Rattle.drop_plans.specs.Trees.{IsTreeOf}
use Rattle.drop_plans.proofs.Closed.{closed}
use Rattle.drop_kinds.specs.Decided.{IsElsewhere}
use Rattle.drop_kinds.proofs.Deciding.{drop-typed, local-within, path-decided, elsewhere-decided}
use Rattle.drop_kinds.proofs.drops.decide.Goals as goal

pub returns-in_default : goal.returns-in_default
returns-in_default c =
    let items = c.args.items.now in
    let body = c.args.body.now in
    let place = c.args.place.now in
    let typed = drop-typed items body c.requires.ready c.args.number c.args.block.now place c.requires.ends in
    absurd (none-some typed.0
    (c.in_default.ensures ∙ ap (λ (l : List TyId). place_id items l place) c.as_slice.ensures ∙ typed.1))

pub returns-in_default-exact : goal.returns-in_default-exact
returns-in_default-exact c =
    let items = c.args.items.now in
    let body = c.args.body.now in
    let told = c.args.told.now in
    let place = c.args.place.now in
    let number = c.args.number in
    let block = c.args.block.now in
    let ends = c.requires.ends in
    let ty = c.in-Some.ty in
    let facts = facts_of c.in_ok-facts.facts in
    let are = c.in_ok-facts.ensures.known items body c.requires.told ends.0 (place, ends.1.0, ends.1.1, ends.1.2) in
    let typed = sym (c.in-Some.ensures ∙ ap (λ (l : List TyId). place_id items l place) c.as_slice.ensures) in
    let less = local-within items body c.requires.ready number block place ends ty typed in
    elsewhere-decided items body c.requires.ready number block place ends told.forest c.requires.told.forest
    (flag_of c.args.flags.now) ty typed c.in_default-exact.ensures c.is_reached-reached.result
    (c.is_reached-reached.ensures items body number c.requires.told are less) c.decide_elsewhere.result
    (subst (λ (b : Bool). IsElsewhere b c.is_reached-reached.result c.decide_elsewhere.result)
    c.needs_drop.ensures.value
    c.decide_elsewhere.ensures)

pub decide_path-requires-clause-told : goal.decide_path-requires-clause-told
decide_path-requires-clause-told c =
    let told = c.args.told.now in
    let are = c.requires.told in
    record {
      once = are.forest.once;
      closed = closed c.args.items.now c.args.body.now told.forest are.forest;
      below = are.below;
      present = c.in_ok-facts.ensures.long.0;
      gone = c.in_ok-facts.ensures.long.1;
      flags = c.requires.flags;
    }

pub decide_path-requires-clause-path : goal.decide_path-requires-clause-path
decide_path-requires-clause-path c =
    slice_get_within c.args.told.now.forest.paths c.in-Some-exact.path (named c.args.place.now) c.in-Some-exact.ensures

pub returns : goal.returns
returns c =
    let items = c.args.items.now in
    let body = c.args.body.now in
    let told = c.args.told.now in
    let place = c.args.place.now in
    let number = c.args.number in
    let block = c.args.block.now in
    let ends = c.requires.ends in
    let ty = c.in-Some.ty in
    let facts = facts_of c.in_ok-facts.facts in
    let are = c.in_ok-facts.ensures.known items body c.requires.told ends.0 (place, ends.1.0, ends.1.1, ends.1.2) in
    let typed = sym (c.in-Some.ensures ∙ ap (λ (l : List TyId). place_id items l place) c.as_slice.ensures) in
    let here : path_at told.forest.paths c.in-Some-exact.path ≡ named place =
    get_or_from_slice_get told.forest.paths c.in-Some-exact.path (named place) (whole_local 0) c.in-Some-exact.ensures in
    IfOk-weaker c.decide_path.result _ _
    (λ how h. path-decided items body c.requires.ready number block place ends told.forest c.requires.told.forest
    facts are
    (flag_of c.args.flags.now) ty typed c.in-Some-exact.path c.in-Some-exact.ensures how
    (λ tree is. h tree (subst (λ (q : Place). IsTreeOf told.forest.paths q tree) (sym here) is))) c.decide_path.ensures
