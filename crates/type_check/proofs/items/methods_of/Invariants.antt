use Rattle.std.proofs.Common.{◌≡◌, map, take}
use Rattle.mir_ty.specs.declared.def.Sig.{Sig}
use Rattle.type_check.proofs.items.methods_of.Given as goal

abbrev pub invariant-loop-sig : goal.invariant-loop-sig
invariant-loop-sig l = l.names ≡ map (λ (sig : Sig). sig.name) (take l.sig-index l.def.methods)
