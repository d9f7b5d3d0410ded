use Rattle.std.proofs.Common.{◌≡◌, length, reverse}
use Rattle.typeck_checker.specs.Lists.{below_all}
use Rattle.src_ast.specs.Seen.{nodes_of}
use Rattle.typeck_checker.specs.Stand.{Stays, env, stack, state}
use Rattle.typing_rules.specs.Bodies as bodies
use Rattle.typing_rules.specs.Patterns.{count_of}
use Rattle.typeck_bodies.specs.ParamAnswers.{last_params}
use Rattle.typeck_bodies.specs.ParamForms.{type_by}
use Rattle.typeck_bodies.proofs.ParamSequences.{behind}
use Rattle.typeck_bodies.proofs.params.params_of.Given as goal

abbrev pub invariant-loop-split : goal.invariant-loop-split
invariant-loop-split l =
    record {
      gives : bodies.params_of (env l.initial.checker) (type_by (env l.initial.checker) l.may_refer) (nodes_of l.initial.rest) (reverse l.initial.bound) (state l.initial.checker)
          ≡ behind (last_params l.tys (stack l.checker)) (bodies.params_of (env l.initial.checker) (type_by (env l.initial.checker) l.may_refer) (nodes_of l.rest) (reverse l.bound) (state l.checker));
      under : below_all (length l.tys) (stack l.checker) ≡ stack l.initial.checker;
      place : Stays l.initial.checker l.checker;
    }

abbrev pub decreases-loop-split : goal.decreases-loop-split
decreases-loop-split l = count_of (nodes_of l.rest)
