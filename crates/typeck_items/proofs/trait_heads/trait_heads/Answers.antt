use Rattle.std.proofs.Common.{[], ap, arith, reverse, subst, sym, ◌∙◌}
use Rattle.typeck_heads.specs.Answers.{Refuses}
use Rattle.src_ast.specs.Seen.{nodes_of, syn_of}
use Rattle.src_ast.specs.Sorts.{item_part}
use Rattle.src_ast.specs.Syntax.{shape_of, list_of}
use Rattle.typeck_checker.specs.Stand.{env, state}
use Rattle.typing_rules.specs.Program as rules
use Rattle.typing_rules.specs.Scope.{Env}
use Rattle.typeck_items.specs.Forms.{trait_head_by}
use Rattle.typeck_items.proofs.Steps.{step_on, stop_on}
use Rattle.typeck_items.proofs.ItemForms.{head_seen}
use Rattle.typeck_items.proofs.trait_heads.trait_heads.Goals as goal

pub loop-split-preserved : goal.loop-split-preserved
loop-split-preserved c =
    let before = c.loop-split.invariant in
    let after = c.in_ok-names.ensures.same in
    let w = env c.args.checker.now in
    let n = c.in-Some.split.first.now in
    let s = state c.loop-split.checker in
    let names = reverse c.loop-split.names in
    let here = ap (λ (z : Env). trait_head_by z names n.at (item_part (shape_of (syn_of n))) s) (sym before.same.1.0) ∙ c.in_ok-names.ensures.gives in
    record {
      gives = step_on (rules.trait_heads w) _ names (reverse c.in_ok-names.names) (nodes_of c.loop-split.rest) (syn_of n) (nodes_of c.in-Some.split.rest) s (state c.head.new.checker) _
          before.gives c.in-Some.ensures (head_seen w names n _ s) here;
      same = (after.0 ∙ before.same.0, (after.1.0 ∙ before.same.1.0, after.1.1 ∙ before.same.1.1));
    }

pub returns-in_err-names-clause-gives : goal.returns-in_err-names-clause-gives
returns-in_err-names-clause-gives c =
    let before = c.loop-split.invariant in
    let w = env c.args.checker.now in
    let n = c.in-Some.split.first.now in
    let s = state c.loop-split.checker in
    let names = reverse c.loop-split.names in
    let e = c.in_err-names.field-0.0 in
    let refused : Refuses (rules.trait_heads w [] (list_of (nodes_of c.args.nodes)) (state c.args.checker.now)) e =
    stop_on (rules.trait_heads w) _ names (nodes_of c.loop-split.rest) (syn_of n) (nodes_of c.in-Some.split.rest) s _ e before.gives c.in-Some.ensures (head_seen w names n _ s)
    (subst (λ (z : Env). Refuses (trait_head_by z names n.at (item_part (shape_of (syn_of n))) s) e) before.same.1.0 c.in_err-names.ensures.gives) in
    grind (arith, refused)
