use Rattle.std.proofs.Common.{sym, ◌∙◌, arith}
use Rattle.mir_ty.specs.declared.def.Sig.{Sig}
use Rattle.cfg_graph.specs.WellFormed.NameFaults.{same_name}
use Rattle.cfg_graph.proofs.Rests.{few_goes_on, few_kept}
use Rattle.cfg_graph.proofs.line_faults.body_name_repeats.Goals as goal

pub loop-i-preserved : goal.loop-i-preserved
loop-i-preserved c =
    few_goes_on (λ (other : Sig). same_name c.args.name.now other.name) c.args.items.now.bodies c.loop-i.i c.loop-i.invariant (sym c.body_is_named.ensures ∙ c.if-body_is_named.false)

pub returns-then-body_is_named : goal.returns-then-body_is_named
returns-then-body_is_named c =
    sym (few_kept (λ (other : Sig). same_name c.args.name.now other.name) c.args.items.now.bodies c.loop-i.i c.args.n (omega arith) (sym c.body_is_named.ensures ∙ c.if-body_is_named.true))
