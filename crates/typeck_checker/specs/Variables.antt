-- A variable that was found by its name, in Rust as the rules of typing see it.
use Rattle.src_ast.specs.Syntax.{Word}
use Rattle.typeck_env.specs.Scope.{meaning_of}
use Rattle.typing_rules.specs.Scope.{NamedEntry}
use Rattle.typeck_checker.specs.declared.variables.FoundVariable.{FoundVariable}

abbrev pub found_as : Word → FoundVariable → NamedEntry
found_as name found = record { name = name; ty = found.ty; meaning = meaning_of found.meaning }
