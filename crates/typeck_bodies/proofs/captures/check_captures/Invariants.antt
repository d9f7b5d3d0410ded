use Rattle.std.proofs.Common.{◌≡◌, length, reverse}
use Rattle.typeck_checker.specs.Lists.{below_all}
use Rattle.src_ast.specs.Seen.{nodes_of}
use Rattle.src_ast.specs.View.{idents, syns_of}
use Rattle.typeck_checker.specs.Stand.{Stays, env, stack, state}
use Rattle.typing_rules.specs.Bodies as bodies
use Rattle.typeck_bodies.proofs.CaptureSequences.{behind}
use Rattle.typeck_bodies.proofs.captures.check_captures.Given as goal

abbrev pub invariant-loop-first : goal.invariant-loop-first
invariant-loop-first l =
    record {
      gives : bodies.captured (env l.initial.checker) 0 (syns_of (idents (nodes_of l.initial.rest))) (reverse l.initial.bound) (state l.initial.checker)
          ≡ behind l.count (stack l.checker) (bodies.captured (env l.initial.checker) l.count (syns_of (idents (nodes_of l.rest))) (reverse l.bound) (state l.checker));
      under : below_all l.count (stack l.checker) ≡ stack l.initial.checker;
      place : Stays l.initial.checker l.checker;
    }

abbrev pub decreases-loop-first : goal.decreases-loop-first
decreases-loop-first l = length (idents (nodes_of l.rest))
