-- The names of variants and fields.
use Rattle.std.specs.Prelude.{List, map}
use Rattle.mir_ty.specs.declared.adt.Adt.{Adt}
use Rattle.mir_ty.specs.declared.adt.Variant.{Variant}
use Rattle.typeck_env.specs.declared.members.AdtNames.{AdtNames}

abbrev pub adt_names : Adt → AdtNames
adt_names adt =
    record {
      variants = map (λ (v : Variant). v.name) adt.variants;
      fields = map (λ (v : Variant). v.field_names) adt.variants;
    }

abbrev pub all_names : List Adt → List AdtNames
all_names adts = map adt_names adts
