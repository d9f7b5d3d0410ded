-- Fields of variants by their names, as the tables of names have them.
use Rattle.std.proofs.Common.{◌≡◌, [], Option, Some, None, slice_get, refl, ap, ◌∙◌}
use Rattle.std.specs.Prelude.{option_and_then}
use Rattle.std.specs.Option.{option_map, option_map_or}
use Rattle.std.proofs.lemmas.Option.{slice_get-map}
use Rattle.mir_ty.specs.declared.adt.Adt.{Adt}
use Rattle.mir_ty.specs.declared.adt.Variant.{Variant}
use Rattle.mir_ty.specs.ItemTable.{ItemTable}
use Rattle.typeck_env.specs.Members.{adt_names}
use Rattle.typeck_checker.specs.Tables.{AreTablesOf}
use Rattle.typeck_checker.specs.declared.tables.Tables.{Tables}
use Rattle.typing_rules.specs.Patterns.{no_variant}
use Rattle.typeck_patterns.specs.Members.{names_in, variant_of}
use Rattle.typeck_patterns.specs.declared.targets.PatternTarget.{PatternTarget}

seen_variant : (o : Option Variant) →
    option_map_or (λ names. names) (option_map (λ (v : Variant). v.field_names) o) [] ≡ (option_map_or (λ v. v) o no_variant).field_names
seen_variant None = refl
seen_variant (Some v) = refl

seen_adt : (o : Option Adt) (t : PatternTarget) →
    option_map_or (λ names. names) (option_and_then (λ names. slice_get names.fields t.variant) (option_map adt_names o)) []
    ≡ (option_map_or (λ v. v) (option_and_then (λ def. slice_get def.variants t.variant) o) no_variant).field_names
seen_adt None t = refl
seen_adt (Some def) t =
    ap (λ ws. option_map_or (λ names. names) ws []) (slice_get-map (λ (v : Variant). v.field_names) def.variants t.variant)
    ∙ seen_variant (slice_get def.variants t.variant)

-- the names of the fields of a variant are those that the tables of names have
pub names_are : (items : ItemTable) (tables : Tables) (t : PatternTarget) → AreTablesOf items tables →
    names_in tables.members t ≡ (variant_of items t).field_names
names_are items tables t ready =
    ap (λ members. names_in members t) ready.members
    ∙ ap (λ o. option_map_or (λ names. names) (option_and_then (λ names. slice_get names.fields t.variant) o) []) (slice_get-map adt_names items.adts t.adt)
    ∙ seen_adt (slice_get items.adts t.adt) t
