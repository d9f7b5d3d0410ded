-- Scopes that are entered and left.
use Rattle.std.specs.Prelude.{◌≡◌, ℕ, Bool, true, false, ◌-◌, List, [], ◌∷◌, drop, length, map, if◌then◌else◌}
use Rattle.typing_rules.specs.Scope.{Env, NamedEntry, VariableMeaning, InGuard, guarded}
use Rattle.typeck_checker.specs.Stand.{stack, state}
use Rattle.typeck_checker.specs.declared.checker.Checker.{Checker}
use Rattle.typeck_checker.specs.declared.body_scope.BodyScope.{BodyScope}

abbrev pub with_entry : NamedEntry → Env → Env
with_entry x env = record env { variables = x ∷ env.variables }

-- the oldest variables, so many
abbrev pub with_only : ℕ → Env → Env
with_only count env = record env { variables = drop (length env.variables - count) env.variables }

abbrev pub without_youngest : Env → Env
without_youngest env = record env { variables = drop 1 env.variables }

abbrev pub without_loop : Env → Env
without_loop env = record env { loops = drop 1 env.loops }

abbrev pub is_in_guard : VariableMeaning → Bool
is_in_guard (InGuard key) = true
is_in_guard _ = false

-- the youngest variable is a binding inside its own guard
abbrev pub begins_in_guard : List NamedEntry → Bool
begins_in_guard [] = false
begins_in_guard (x ∷ xs) = is_in_guard x.meaning

abbrev pub meaning_in_guard : Bool → VariableMeaning → VariableMeaning
meaning_in_guard within_guard m = if within_guard then guarded m else m

-- a binding inside the guard of its arm, or behind it
abbrev pub entry_in_guard : Bool → NamedEntry → NamedEntry
entry_in_guard within_guard x = record x { meaning = meaning_in_guard within_guard x.meaning }

-- the bindings of a pattern, inside the guard of its arm or behind it
abbrev pub bound_in : Bool → List NamedEntry → List NamedEntry
bound_in within_guard xs = map (entry_in_guard within_guard) xs

-- but for the variables an expression stands where it stood
abbrev pub OnlyVariables : BodyScope → BodyScope → Type 0
OnlyVariables old new = (new.self_adt ≡ old.self_adt) × (new.loops ≡ old.loops) × (new.answer ≡ old.answer)

-- nothing has changed but where the expression stands
abbrev pub OnlyPlace : Checker → Checker → Type 0
OnlyPlace old new = (stack new ≡ stack old) × (state new ≡ state old) × (new.tables ≡ old.tables)
