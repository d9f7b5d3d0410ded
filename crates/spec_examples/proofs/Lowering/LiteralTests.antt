-- What the test of a literal gives has the type `bool`, and stands in a cell of its own.
use Rattle.std.proofs.Common.{◌≡◌, refl, [], ◌∷◌, pos}
use Rattle.mir_base.specs.declared.trace.End.{End}
use Rattle.mir_base.specs.declared.trace.Event.TheVariants.{Call as call, Return as return, Printed as print}
use Rattle.cfg_meaning.specs.Programs.{raw_graph_run}
use Rattle.lower_rules.specs.Lower.{graph_of}
use Rattle.src_meaning.proofs.Examples.LiteralTests.{literal}

a_literal_is_tested : raw_graph_run (graph_of literal) [] 100 ≡ (call 0 ∷ print (pos 7) ∷ return 0 ∷ [], End.Returned)
a_literal_is_tested = refl
