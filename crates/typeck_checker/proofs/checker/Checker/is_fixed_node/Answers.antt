use Rattle.std.proofs.Common.{ap, ◌∙◌}
use Rattle.typeck_env.specs.Scope.{keys_of}
use Rattle.typed_tree.specs.View.{tree_of}
use Rattle.typing_rules.specs.Places.{is_fixed}
use Rattle.typeck_checker.proofs.Fixed.{fixed_at}
use Rattle.typeck_checker.proofs.checker.Checker.is_fixed_node.Goals as goal

pub returns : goal.returns
returns c =
    let checker = c.args.self.now in
    c.is_fixed.ensures ∙ ap (λ ks. is_fixed checker.walk.items (keys_of ks) (tree_of c.args.node.now)) c.as_slice.ensures
    ∙ fixed_at checker.tables checker.around checker.walk.items (tree_of c.args.node.now)
