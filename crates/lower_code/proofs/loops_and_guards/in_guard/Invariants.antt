use Rattle.std.proofs.Common.{◌≡◌, ◌++◌, map, drop}
use Rattle.src_meaning.specs.Forms.{aliases_with}
use Rattle.pattern_lower.specs.Seen.{bound_of}
use Rattle.lower_code.specs.View.{aliases_of}
use Rattle.lower_code.proofs.loops_and_guards.in_guard.Given as goal

abbrev pub invariant-loop-binding : goal.invariant-loop-binding
invariant-loop-binding l =
    aliases_of l.inner ++ aliases_with (map bound_of (drop l.binding-index l.bindings)) (aliases_of l.aliases)
    ≡ aliases_with (map bound_of l.bindings) (aliases_of l.aliases)

abbrev pub invariant-loop-alias : goal.invariant-loop-alias
invariant-loop-alias l =
    aliases_of l.inner ++ aliases_of (drop l.alias-index l.aliases)
    ≡ aliases_with (map bound_of l.bindings) (aliases_of l.aliases)
