use Rattle.std.proofs.Common.{◌≡◌, ◌≤◌, ◌-◌, ◌&&◌, length, drop}
use Rattle.std.specs.Prelude.{◌==◌}
use Rattle.std.specs.List.{list_any}
use Rattle.mir_ty.specs.declared.def.ImplDef.{ImplDef}
use Rattle.cfg_graph.proofs.line_faults.has_impl.Given as goal

abbrev pub invariant-loop-def : goal.invariant-loop-def
invariant-loop-def l = record {
  rest : list_any (λ (def : ImplDef). (def.trait_no == l.trait_no) && (def.adt == l.adt)) l.items.impls ≡ list_any (λ (def : ImplDef). (def.trait_no == l.trait_no) && (def.adt == l.adt)) (drop l.n l.items.impls);
  within : l.n ≤ length l.items.impls;
}

abbrev pub decreases-loop-def : goal.decreases-loop-def
decreases-loop-def l = length l.items.impls - l.n
