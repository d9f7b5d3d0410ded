use Rattle.std.proofs.Common.{◌≡◌, map, drop}
use Rattle.pattern_lower.specs.Seen.{bound_of}
use Rattle.lower_code.specs.View.{ops_of}
use Rattle.lower_code.proofs.Following.{emptied_onto}
use Rattle.lower_code.proofs.blocks.declare_bindings.Given as goal

abbrev pub invariant-loop-binding : goal.invariant-loop-binding
invariant-loop-binding l =
    emptied_onto l.items (map bound_of (drop l.binding-index l.bindings)) (ops_of l.code)
    ≡ emptied_onto l.items (map bound_of l.bindings) (ops_of l.fn.code)
