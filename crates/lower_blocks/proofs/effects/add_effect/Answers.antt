use Rattle.std.proofs.Common.{rules, ◌≡◌, ◌∙◌, ℕ, Some, sym, ap}
use Rattle.std.proofs.lemmas.Result.{on_ok_weaker}
use Rattle.lower_rules.specs.Build as build
use Rattle.lower_rules.specs.Build.{LoweringFrame, Done, Building}
use Rattle.cfg_graph.specs.declared.graph.Kind.{Kind}
use Rattle.lower_passes.specs.Framed.{frame_of, term_by}
use Rattle.lower_passes.proofs.Nodeless.{stmt_same, effect_same}
use Rattle.lower_passes.specs.Scoped.{entries_of, scopes_of}
use Rattle.lower_code.specs.View.{effect_of}
use Rattle.lower_code.specs.declared.code.Action.{Action}
use Rattle.lower_blocks.specs.Building.{rest_of, building_of}
use Rattle.lower_blocks.proofs.Doing.{done_is}
use Rattle.lower_blocks.proofs.effects.add_effect.Goals as goal

pub returns-in-Stmt : goal.returns-in-Stmt
returns-in-Stmt c =
    let f : LoweringFrame = frame_of c.args.frame in
    let node : ℕ = c.args.node.0 in
    let is : build.ByStmt c.in_ok-line.line ≡ build.done_by f (effect_of node c.args.action.now) =
    c.in_ok-line.ensures ∙ stmt_same f node c.in-Stmt.stmt ∙ ap (λ (a : Action). build.done_by f (effect_of node a)) (sym c.in-Stmt.is) in
    on_ok_weaker c.add_line.result
    (λ made. made ∙ ap (λ (by : Done). build.done f node by (scopes_of c.args.scopes.now) (rest_of c.args.blocks.now.rest) (building_of c.args.blocks.now)) is)
    c.add_line.ensures

pub returns-in-Some : goal.returns-in-Some
returns-in-Some c =
    let f : LoweringFrame = frame_of c.args.frame in
    let node : ℕ = c.args.node.0 in
    let S = scopes_of c.args.scopes.now in
    let k = rest_of c.args.blocks.now.rest in
    let s : Building = building_of c.args.blocks.now in
    let by : Done = build.done_by f (effect_of node c.args.action.now) in
    let is : term_by by c.in_ok-then.then c.in_ok-unwind.unwind ≡ Some c.in-Some.term =
    sym (c.in_ok-term.ensures ∙ ap (λ (d : Done). term_by d c.in_ok-then.then c.in_ok-unwind.unwind) (effect_same f node c.args.action.now))
    ∙ c.in-Some.is in
    let closed : building_of c.panic_drops.new.self ≡ build.closed Kind.Plain k s =
    c.in_ok-drops.ensures.building ∙ ap (λ b. b.1) c.in_ok-then.ensures.1 in
    let slice : c.as_slice.result.now ≡ c.in_ok-drops.drops = search rules in
    let drops : entries_of c.as_slice.result.now ≡ build.panic_drops f S = ap entries_of slice ∙ c.in_ok-drops.ensures.drops in
    let unwound : (c.in_ok-unwind.unwind, building_of c.unwind_to.new.self) ≡ build.unwind_to f (build.panic_drops f S) (build.closed Kind.Plain k s) =
    c.in_ok-unwind.ensures ∙ (λ i. build.unwind_to f (drops i) (closed i)) in
    c.end.ensures
    ∙ ap (λ (b : Building). (build.ending c.in-Some.term node, b)) c.keep_room.ensures.building
    ∙ done_is f node by S k s c.in_ok-then.then c.in_ok-unwind.unwind c.in-Some.term (building_of c.unwind_to.new.self) is c.in_ok-then.ensures.0 unwound
