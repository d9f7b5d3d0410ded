use Rattle.std.proofs.Common.{sym, ◌∙◌, arith}
use Rattle.cfg_graph.specs.WellFormed.NameFaults.{same_impl}
use Rattle.cfg_graph.proofs.Rests.{few_goes_on, few_kept}
use Rattle.cfg_graph.proofs.impl_faults.impl_repeats.Goals as goal

pub loop-i-preserved : goal.loop-i-preserved
loop-i-preserved c = few_goes_on (same_impl c.args.def.now) c.args.items.now.impls c.loop-i.i c.loop-i.invariant (sym c.impl_is_same.ensures ∙ c.if-impl_is_same.false)

pub returns-then-impl_is_same : goal.returns-then-impl_is_same
returns-then-impl_is_same c = sym (few_kept (same_impl c.args.def.now) c.args.items.now.impls c.loop-i.i c.args.n (omega arith) (sym c.impl_is_same.ensures ∙ c.if-impl_is_same.true))
