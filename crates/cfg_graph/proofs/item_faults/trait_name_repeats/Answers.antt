use Rattle.std.proofs.Common.{sym, ◌∙◌, arith}
use Rattle.mir_ty.specs.declared.def.TraitDef.{TraitDef}
use Rattle.cfg_graph.specs.WellFormed.NameFaults.{same_name}
use Rattle.cfg_graph.proofs.Rests.{few_goes_on, few_kept}
use Rattle.cfg_graph.proofs.item_faults.trait_name_repeats.Goals as goal

pub loop-i-preserved : goal.loop-i-preserved
loop-i-preserved c = few_goes_on (λ (other : TraitDef). same_name c.args.name.now other.name) c.args.items.now.traits c.loop-i.i c.loop-i.invariant (sym c.trait_is_named.ensures ∙ c.if-trait_is_named.false)

pub returns-then-trait_is_named : goal.returns-then-trait_is_named
returns-then-trait_is_named c = sym (few_kept (λ (other : TraitDef). same_name c.args.name.now other.name) c.args.items.now.traits c.loop-i.i c.args.n (omega arith) (sym c.trait_is_named.ensures ∙ c.if-trait_is_named.true))
