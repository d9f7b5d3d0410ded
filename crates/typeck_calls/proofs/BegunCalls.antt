-- The names of the fields of a variant.
use Rattle.std.proofs.Common.{◌≡◌, ℕ, Option, Some, None, refl, ◌∙◌}
use Rattle.std.specs.Option.{option_map_or, option_and_then}
use Rattle.mir_ty.specs.ItemTable.{ItemTable}
use Rattle.mir_ty.specs.declared.adt.Variant.{Variant}
use Rattle.typeck_calls.proofs.Names.{found}
use Rattle.typeck_calls.specs.Fields.{number_in}
use Rattle.src_ast.specs.Syntax.{Word}
use Rattle.typeck_checker.specs.Tables.{AreTablesOf}
use Rattle.typeck_checker.specs.declared.tables.Tables.{Tables}
use Rattle.typing_rules.specs.Scope.{field_named}
use Rattle.typing_rules.specs.Typed.{no_variant}
use Rattle.well_typed.specs.Types.{variant_at}
use Rattle.typeck_calls.specs.StructFields.{variant_of}

of_variant : (name : Word) (v : Option Variant) → option_and_then (λ v. field_named v name) v ≡ field_named (option_map_or (λ v. v) v no_variant) name
of_variant name None = refl
of_variant name (Some v) = refl

pub names_at : (items : ItemTable) (t : Tables) (adt variant : ℕ) (name : Word) → AreTablesOf items t → number_in t adt variant name ≡ field_named (variant_of items adt variant) name
names_at items t adt variant name ready = found variant name items t adt ready ∙ of_variant name (variant_at items adt variant)
