use Rattle.std.proofs.Common.{ap, reverse, refl, sym, ◌∙◌}
use Rattle.src_ast.specs.Seen.{nodes_of, syn_of}
use Rattle.src_ast.specs.Sorts.{variant_part}
use Rattle.src_ast.specs.Syntax.{shape_of}
use Rattle.typeck_checker.specs.Stand.{env, state}
use Rattle.typing_rules.specs.Program as rules
use Rattle.typing_rules.specs.Scope.{Env}
use Rattle.typeck_items.specs.Forms.{variant_by}
use Rattle.typeck_items.proofs.Steps.{step_on}
use Rattle.typeck_items.proofs.VariantForms.{variant_seen}
use Rattle.typeck_items.proofs.variants.variants.Goals as goal

pub loop-split-preserved : goal.loop-split-preserved
loop-split-preserved c =
    let before = c.loop-split.invariant in
    let after = c.in_ok-names.ensures.same in
    let w = env c.args.checker.now in
    let n = c.in-Some.split.first.now in
    let s = state c.loop-split.checker in
    let names = reverse c.loop-split.names in
    let here = ap (λ (z : Env). variant_by z names n.at (variant_part (shape_of (syn_of n))) s) (sym before.same.1.0) ∙ c.in_ok-names.ensures.gives in
    record {
      gives = step_on (rules.variants w) _ names (reverse c.in_ok-names.names) (nodes_of c.loop-split.rest) (syn_of n) (nodes_of c.in-Some.split.rest) s (state c.variant.new.checker) _
          before.gives c.in-Some.ensures (variant_seen w names n _ s) here;
      same = (after.0 ∙ before.same.0, (after.1.0 ∙ before.same.1.0, after.1.1 ∙ before.same.1.1));
    }
