use Rattle.std.proofs.Common.{rules, ◌≡◌, ◌∙◌, ◌∷◌, ℕ, sym, ap}
use Rattle.std.proofs.lemmas.Result.{MatchResult-weaker}
use Rattle.lower_rules.specs.Build as build
use Rattle.lower_rules.specs.Build.{LoweringFrame, Building, GoesTo}
use Rattle.lower_passes.specs.Framed.{frame_of}
use Rattle.lower_passes.specs.Scoped.{scopes_of, scope_of}
use Rattle.src_meaning.specs.Scopes.{Scopes}
use Rattle.lower_blocks.specs.Building.{building_of}
use Rattle.lower_blocks.proofs.Left.{one_fewer, shared_more, shared_none}
use Rattle.lower_blocks.proofs.exits.+shared_leaves.Goals as goal

pub returns-then-count-eq0 : goal.returns-then-count-eq0
returns-then-count-eq0 t c =
    let f : LoweringFrame = frame_of c.args.frame in
    let s : Building = building_of c.args.blocks.now in
    let S : Scopes = scopes_of c.in-Innermost.around.now in
    let scope = scope_of c.in-Innermost.scope in
    let was : scopes_of c.args.scopes.now ≡ scope ∷ S = ap scopes_of c.in-Innermost.is in
    let none : c.args.count ≡ 0 = search rules in
    MatchResult-weaker c.share.result c.share.ensures
    (λ number made plain blocked so_many.
    shared_none f plain c.args.count (scopes_of c.args.scopes.now) scope S s was so_many
    (number, building_of c.share.new.self) none (made ∙ ap (λ (b : ℕ). build.share f (GoesTo b) s) (sym blocked)))
    (λ error is. is)

pub returns-in_ok-to-in-Innermost : goal.returns-in_ok-to-in-Innermost
returns-in_ok-to-in-Innermost t c =
    let f : LoweringFrame = frame_of c.args.frame in
    let s : Building = building_of c.args.blocks.now in
    let S : Scopes = scopes_of c.in-Innermost.around.now in
    let scope = scope_of c.in-Innermost.scope in
    let was : scopes_of c.args.scopes.now ≡ scope ∷ S = ap scopes_of c.in-Innermost.is in
    let some : c.args.count ≡ 0 → ⊥ = search rules in
    MatchResult-weaker c.drops_before.result c.drops_before.ensures
    (λ number made plain blocked so_many.
    let all = scopes_of c.args.scopes.now in
    shared_more f plain c.args.count all scope S s was so_many
    (c.in_ok-to-in-Innermost.to, building_of c.shared_leaves.new.blocks)
    (number, building_of c.drops_before.new.self) some
    (c.in_ok-to-in-Innermost.ensures plain blocked (one_fewer f plain c.args.count all scope S s was so_many some))
    made)
    (λ error is. is)

pub returns-in-NoScope : goal.returns-in-NoScope
returns-in-NoScope t c =
    let f : LoweringFrame = frame_of c.args.frame in
    let s : Building = building_of c.args.blocks.now in
    MatchResult-weaker c.share-in-NoScope.result c.share-in-NoScope.ensures
    (λ number made plain blocked so_many.
    made ∙ ap (λ (b : ℕ). build.share f (GoesTo b) s) (sym blocked)
    ∙ ap (λ (S : Scopes). build.leaves_before f plain S s) (sym (ap scopes_of c.in-NoScope.is)))
    (λ error is. is)
