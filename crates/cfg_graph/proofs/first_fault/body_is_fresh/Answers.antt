use Rattle.std.proofs.Common.{false, take, ap, sym, ◌∙◌}
use Rattle.std.specs.List.{list_any}
use Rattle.std.specs.Option.{option_map_or}
use Rattle.mir_ty.specs.declared.def.Sig.{Sig}
use Rattle.cfg_graph.specs.WellFormed.NameFaults.{same_name}
use Rattle.cfg_graph.proofs.Buckets.{name_repeats_none}
use Rattle.cfg_graph.proofs.first_fault.body_is_fresh.Goals as goal

pub returns-in-Some-clause-fresh : goal.returns-in-Some-clause-fresh
returns-in-Some-clause-fresh c = λ fresh.
    ap (λ at. option_map_or (λ (sig : Sig). list_any (λ (other : Sig). same_name sig.name other.name) (take c.args.n c.args.items.now.bodies)) at false) (sym c.in-Some.ensures.value)
    ∙ name_repeats_none (λ (one : Sig). one.name) c.args.items.now.bodies c.in-Some.sig.now.name c.args.buckets.now (c.meet.ensures.fresh fresh) c.args.n c.requires
