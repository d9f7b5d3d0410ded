use Rattle.std.proofs.Common.{◌≡◌, [], reverse}
use Rattle.src_ast.specs.Seen.{nodes_of}
use Rattle.src_ast.specs.Syntax.{list_of}
use Rattle.typeck_checker.specs.Stand.{ChangesNothing, env, state}
use Rattle.typing_rules.specs.Patterns as sizes
use Rattle.typing_rules.specs.Program as rules
use Rattle.typeck_items.proofs.trait_heads.trait_heads.Given as goal

abbrev pub invariant-loop-split : goal.invariant-loop-split
invariant-loop-split l =
    record {
      gives : rules.trait_heads (env l.initial.checker) [] (list_of (nodes_of l.nodes)) (state l.initial.checker)
          ≡ rules.trait_heads (env l.initial.checker) (reverse l.names) (list_of (nodes_of l.rest)) (state l.checker);
      same : ChangesNothing l.initial.checker l.checker;
    }

abbrev pub decreases-loop-split : goal.decreases-loop-split
decreases-loop-split l = sizes.count_of (nodes_of l.rest)
