use Rattle.std.proofs.Common.{◌≡◌, map, take}
use Rattle.mir_ty.specs.declared.adt.Variant.{Variant}
use Rattle.typeck_env.proofs.members.variant_names.Given as goal

abbrev pub invariant-loop-variant : goal.invariant-loop-variant
invariant-loop-variant l = l.table ≡ map (λ (v : Variant). v.name) (take l.variant-index l.variants)
