use Rattle.std.proofs.Common.{◌≡◌, ◌≤◌, ◌-◌, length, map, take}
use Rattle.mir_ty.specs.declared.def.TraitDef.{TraitDef}
use Rattle.type_check.proofs.items.trait_names.Given as goal

abbrev pub invariant-loop-def : goal.invariant-loop-def
invariant-loop-def l =
    record {
      within : l.n ≤ length l.items.traits;
      names : l.names ≡ map (λ (def : TraitDef). def.name) (take l.n l.items.traits);
    }

abbrev pub decreases-loop-def : goal.decreases-loop-def
decreases-loop-def l = length l.items.traits - l.n
