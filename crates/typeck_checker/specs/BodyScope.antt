-- Where an expression stands, in Rust as the rules of typing see it.
use Rattle.std.specs.Prelude.{◌≡◌, List, reverse}
use Rattle.mir_base.specs.declared.place_in_text.Key.{Key}
use Rattle.typing_rules.specs.Places.{in_own_guard}
use Rattle.typing_rules.specs.Scope.{NamedEntry}
use Rattle.typeck_env.specs.Scope.{keys_of}

-- the keys of the bindings in whose own guard an expression stands
abbrev pub HasGuards : List NamedEntry → List Key → Type 0
HasGuards variables guards = in_own_guard variables ≡ keys_of (reverse guards)
