-- Fields of variants by their names.
use Rattle.std.specs.Prelude.{ℕ, List, [], ◌∷◌, Option, Some, None, option_and_then, option_map, slice_get}
use Rattle.std.specs.Option.{option_map_or}
use Rattle.mir_ty.specs.ItemTable.{ItemTable}
use Rattle.mir_ty.specs.declared.adt.Variant.{Variant}
use Rattle.mir_ty.specs.declared.ty.TyId.{TyId}
use Rattle.src_ast.specs.Sorts.{field_pattern_part}
use Rattle.src_ast.specs.Syntax.{Word, shape_of, Shape, AFieldPattern, Syns, no_syn, a_syn}
use Rattle.typeck_env.specs.declared.members.AdtNames.{AdtNames}
use Rattle.typing_rules.specs.Patterns.{field_ty, no_variant}
use Rattle.typing_rules.specs.Scope.{field_named}
use Rattle.well_typed.specs.Types.{variant_at}
use Rattle.typeck_patterns.specs.declared.members.FieldPart.{FieldPart}
use Rattle.typeck_patterns.specs.declared.targets.PatternTarget.{PatternTarget}

abbrev pub part_of : FieldPart → ℕ × TyId
part_of f = (f.number, f.ty)

-- the names of the fields of a variant, as the tables of names have them
abbrev pub names_at : List AdtNames → PatternTarget → Option (List Word)
names_at members t = option_and_then (λ names. slice_get names.fields t.variant) (slice_get members t.adt)

abbrev pub names_in : List AdtNames → PatternTarget → List Word
names_in members t = option_map_or (λ names. names) (names_at members t) []

-- the variant that a path names
abbrev pub variant_of : ItemTable → PatternTarget → Variant
variant_of items t = option_map_or (λ v. v) (variant_at items t.adt t.variant) no_variant

abbrev pub field_in : Variant → ℕ → Option (ℕ × TyId)
field_in v number = option_map (λ ty. (number, ty)) (slice_get v.fields number)

-- the field that has a name
abbrev pub part_by : Variant → Word → Option (ℕ × TyId)
part_by v name = field_ty v.fields (field_named v name)

-- the field that the pattern of a field names
abbrev pub part_named : Variant → Option Shape → Option (ℕ × TyId)
part_named v (Some (AFieldPattern name inside)) = part_by v name
part_named v _ = None

abbrev pub parts_named : Variant → Syns → List (Option (ℕ × TyId))
parts_named v no_syn = []
parts_named v (a_syn first rest) = part_named v (field_pattern_part (shape_of first)) ∷ parts_named v rest
