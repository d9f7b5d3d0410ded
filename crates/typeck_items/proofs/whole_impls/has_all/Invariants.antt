use Rattle.std.proofs.Common.{◌≡◌, drop, map}
use Rattle.mir_ty.specs.declared.def.Sig.{Sig}
use Rattle.typing_rules.specs.Program.{has_all}
use Rattle.typeck_items.proofs.whole_impls.has_all.Given as goal

abbrev pub invariant-loop-sig : goal.invariant-loop-sig
invariant-loop-sig l =
    has_all (map (λ (m : Sig). m.name) l.def.methods) l.given
    ≡ has_all (map (λ (m : Sig). m.name) (drop l.sig-index l.def.methods)) l.given
