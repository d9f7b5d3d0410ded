use Rattle.std.proofs.Common.{ap, arith, subst, sym, ◌∙◌}
use Rattle.typeck_heads.specs.Answers.{Refuses}
use Rattle.src_ast.specs.ItemForms.{name_seen}
use Rattle.src_ast.specs.Seen.{nodes_of, syn_of}
use Rattle.src_ast.specs.Sorts.{item_part}
use Rattle.src_ast.specs.Syntax.{shape_of, list_of}
use Rattle.typeck_checker.specs.Stand.{env, state}
use Rattle.typing_rules.specs.Program as rules
use Rattle.typing_rules.specs.Scope.{Env}
use Rattle.typeck_items.specs.Forms.{method_by}
use Rattle.typeck_items.proofs.Steps.{step_on, stop_on}
use Rattle.typeck_items.proofs.ItemForms.{method_seen}
use Rattle.typeck_items.proofs.methods.method_heads.Goals as goal

pub loop-split-preserved : goal.loop-split-preserved
loop-split-preserved c =
    let before = c.loop-split.invariant in
    let after = c.in_ok-method.ensures.same in
    let w = env c.args.checker.now in
    let n = c.in-Some.split.first.now in
    let s = state c.loop-split.checker in
    let trait_ = name_seen c.args.trait_ in
    let owner = c.args.owner.now in
    let here = ap (λ (z : Env). method_by z trait_ owner c.loop-split.seen n.at (item_part (shape_of (syn_of n))) s) (sym before.same.1.0) ∙ c.in_ok-method.ensures.gives in
    record {
      gives = step_on (rules.method_heads w trait_ owner) _ c.loop-split.seen c.method.new.seen (nodes_of c.loop-split.rest) (syn_of n) (nodes_of c.in-Some.split.rest) s (state c.method.new.checker) _
          before.gives c.in-Some.ensures (method_seen w trait_ owner c.loop-split.seen n _ s) here;
      same = (after.0 ∙ before.same.0, (after.1.0 ∙ before.same.1.0, after.1.1 ∙ before.same.1.1));
    }

pub returns-in_err-method-clause-gives : goal.returns-in_err-method-clause-gives
returns-in_err-method-clause-gives c =
    let before = c.loop-split.invariant in
    let w = env c.args.checker.now in
    let n = c.in-Some.split.first.now in
    let s = state c.loop-split.checker in
    let trait_ = name_seen c.args.trait_ in
    let owner = c.args.owner.now in
    let seen = c.loop-split.seen in
    let e = c.in_err-method.field-0.0 in
    let refused : Refuses (rules.method_heads w trait_ owner c.args.seen.now (list_of (nodes_of c.args.nodes)) (state c.args.checker.now)) e =
    stop_on (rules.method_heads w trait_ owner) _ seen (nodes_of c.loop-split.rest) (syn_of n) (nodes_of c.in-Some.split.rest) s _ e before.gives c.in-Some.ensures (method_seen w trait_ owner seen n _ s)
    (subst (λ (z : Env). Refuses (method_by z trait_ owner seen n.at (item_part (shape_of (syn_of n))) s) e) before.same.1.0 c.in_err-method.ensures.gives) in
    grind (arith, refused)
