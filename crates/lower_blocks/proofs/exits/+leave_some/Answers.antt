use Rattle.std.proofs.Common.{rules, ◌≡◌, ◌≢◌, ◌∙◌, ◌∷◌, ℕ, [], refl, sym, ap}
use Rattle.std.proofs.lemmas.Result.{on_ok_weaker}
use Rattle.lower_rules.specs.Build as build
use Rattle.lower_rules.specs.Build.{LoweringFrame, Building}
use Rattle.cfg_graph.specs.declared.terminator.Term.{Term}
use Rattle.lower_passes.specs.Framed.{frame_of}
use Rattle.lower_passes.specs.Scoped.{scopes_of, scope_of}
use Rattle.src_meaning.specs.Scopes.{Scopes, needing_drop}
use Rattle.lower_blocks.specs.Building.{built_of, building_of}
use Rattle.lower_blocks.proofs.Left.{left_empty, left_more, left_none, one_fewer}
use Rattle.lower_blocks.proofs.exits.+leave_some.Goals as goal

pub returns-then-count-eq0 : goal.returns-then-count-eq0
returns-then-count-eq0 t c = λ plain blocked so_many.
    let S : Scopes = scopes_of c.in-Innermost.around.now in
    let scope = scope_of c.in-Innermost.scope in
    let was : scopes_of c.args.scopes.now ≡ scope ∷ S = ap scopes_of c.in-Innermost.is in
    left_none (frame_of c.args.frame) plain c.args.count (scopes_of c.args.scopes.now) scope S
    (building_of c.args.blocks.now) was so_many c.args.node.0 (built_of c.end.new.self) (search rules)
    (c.end.ensures ∙ ap (λ (b : ℕ). (build.ending (Term.Goto b) c.args.node.0, building_of c.args.blocks.now))
    (sym blocked))

pub returns-then-drops_none : goal.returns-then-drops_none
returns-then-drops_none t c =
    let f : LoweringFrame = frame_of c.args.frame in
    let s : Building = building_of c.args.blocks.now in
    let S : Scopes = scopes_of c.in-Innermost.around.now in
    let scope = scope_of c.in-Innermost.scope in
    let was : scopes_of c.args.scopes.now ≡ scope ∷ S = ap scopes_of c.in-Innermost.is in
    let some : c.args.count ≡ 0 → ⊥ = search rules in
    on_ok_weaker c.leave_some.result
    (λ made plain blocked so_many.
    let all = scopes_of c.args.scopes.now in
    left_empty f plain c.args.count all scope S s was so_many c.args.node.0 (built_of c.leave_some.new.blocks) some
    (c.if-drops_none.ensures.0 refl) (made plain blocked (one_fewer f plain c.args.count all scope S s was so_many
    some)))
    c.leave_some.ensures

pub returns-in_ok-to-in-Innermost : goal.returns-in_ok-to-in-Innermost
returns-in_ok-to-in-Innermost t c =
    let f : LoweringFrame = frame_of c.args.frame in
    let s : Building = building_of c.args.blocks.now in
    let S : Scopes = scopes_of c.in-Innermost.around.now in
    let scope = scope_of c.in-Innermost.scope in
    let was : scopes_of c.args.scopes.now ≡ scope ∷ S = ap scopes_of c.in-Innermost.is in
    let some : c.args.count ≡ 0 → ⊥ = search rules in
    let drops : needing_drop f.items scope.entries ≢ [] = λ none. search (rules, c.if-drops_none.ensures.1 none) in
    on_ok_weaker c.drops_to.result
    (λ made plain blocked so_many.
    let all = scopes_of c.args.scopes.now in
    left_more f plain c.args.count all scope S s was so_many c.args.node.0
    (c.in_ok-to-in-Innermost.to, building_of c.shared_leaves.new.blocks)
    (built_of c.drops_to.new.self) some
    (c.in_ok-to-in-Innermost.ensures plain blocked (one_fewer f plain c.args.count all scope S s was so_many some))
    (made (build.leaves_to f c.args.node.0 plain S s) drops))
    c.drops_to.ensures
