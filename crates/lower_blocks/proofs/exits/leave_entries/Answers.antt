use Rattle.std.proofs.Common.{rules, ◌≢◌, ◌∙◌, ℕ, List, [], Option, refl, ap}
use Rattle.std.proofs.lemmas.Result.{on_ok_weaker}
use Rattle.lower_rules.specs.Build as build
use Rattle.lower_rules.specs.Build.{LoweringFrame, BlockRest, Building}
use Rattle.lower_passes.specs.Framed.{frame_of}
use Rattle.lower_passes.specs.Scoped.{held, scopes_of}
use Rattle.src_meaning.specs.Scopes.{Entry, Scopes, needing_drop}
use Rattle.lower_blocks.specs.Building.{rest_of, building_of}
use Rattle.lower_blocks.proofs.Dropping.{none_left}
use Rattle.lower_blocks.proofs.exits.leave_entries.Goals as goal

pub returns-then-drops_none : goal.returns-then-drops_none
returns-then-drops_none c =
    let k : BlockRest = rest_of c.args.blocks.now.rest in
    none_left (frame_of c.args.frame) (build.jump_of k) (needing_drop c.args.frame.items.now (held c.args.entries.now))
    (scopes_of c.args.around.now) k (building_of c.args.blocks.now) (c.if-drops_none.ensures.0 refl)

pub returns-in_ok-to-in-Some : goal.returns-in_ok-to-in-Some
returns-in_ok-to-in-Some c =
    let f : LoweringFrame = frame_of c.args.frame in
    let S : Scopes = scopes_of c.args.around.now in
    let es : List Entry = needing_drop c.args.frame.items.now (held c.args.entries.now) in
    let k : BlockRest = rest_of c.args.blocks.now.rest in
    let s : Building = building_of c.args.blocks.now in
    let some : es ≢ [] = λ none. search (rules, c.if-drops_none.ensures.1 none) in
    on_ok_weaker c.drops_to.result
    (λ made.
    made (k, s) some
    ∙ ap (λ (to : ℕ × Building). build.drops_to f es S to (k, s)) c.in_ok-to-in-Some.ensures
    ∙ ap (λ (o : Option ℕ). build.leave_by f o es S k s) c.in-Some.ensures)
    c.drops_to.ensures

pub returns-in-None : goal.returns-in-None
returns-in-None c =
    let f : LoweringFrame = frame_of c.args.frame in
    let S : Scopes = scopes_of c.args.around.now in
    let es : List Entry = needing_drop c.args.frame.items.now (held c.args.entries.now) in
    let k : BlockRest = rest_of c.args.blocks.now.rest in
    let s : Building = building_of c.args.blocks.now in
    on_ok_weaker c.drop_all.result
    (λ made. made ∙ ap (λ (o : Option ℕ). build.leave_by f o es S k s) c.in-None.ensures)
    c.drop_all.ensures
