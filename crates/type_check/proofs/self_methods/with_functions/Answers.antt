use Rattle.src_ast.specs.Seen.{nodes_of, syn_of}
use Rattle.type_check.proofs.SelfForms.{one_function}
use Rattle.type_check.proofs.self_methods.with_functions.Goals as goal

pub loop-split-preserved : goal.loop-split-preserved
loop-split-preserved c =
    one_function c.args.owner.now _ _ _ (nodes_of c.loop-split.rest) (syn_of c.in-Some.split.first.now) (nodes_of c.in-Some.split.rest)
    c.loop-split.invariant c.in-Some.ensures c.in_ok-names.ensures
