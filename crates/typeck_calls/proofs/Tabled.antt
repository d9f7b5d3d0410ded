-- The variant that tables of names say is the one of the items.
use Rattle.std.proofs.Common.{◌≡◌, ℕ, List, [], Option, Some, None, slice_get, refl, ap, ◌∙◌}
use Rattle.std.specs.List.{position as position_of}
use Rattle.std.specs.Option.{option_map, option_map_or, option_and_then}
use Rattle.std.specs.Str.{bytes_eq}
use Rattle.std.proofs.lemmas.Option.{slice_get-map}
use Rattle.mir_ty.specs.ItemTable.{ItemTable}
use Rattle.mir_ty.specs.declared.adt.Adt.{Adt}
use Rattle.mir_ty.specs.declared.adt.Variant.{Variant}
use Rattle.mir_ty.specs.declared.ty.TyId.{TyId}
use Rattle.typeck_calls.specs.Fields.{number_in}
use Rattle.src_ast.specs.Syntax.{Word}
use Rattle.typeck_calls.specs.StructFields.{variant_of}
use Rattle.typeck_env.specs.Members.{adt_names}
use Rattle.typeck_env.specs.declared.members.AdtNames.{AdtNames}
use Rattle.typeck_checker.specs.Tables.{AreTablesOf}
use Rattle.typeck_checker.specs.declared.tables.Tables.{Tables}
use Rattle.typing_rules.specs.Scope.{field_named}
use Rattle.typing_rules.specs.Typed.{no_variant}
use Rattle.typeck_calls.specs.Inits.{names_in, variant_by}

in_names : (name : Word) (names : Option (List Word)) → option_and_then (position_of (bytes_eq name)) names ≡ position_of (bytes_eq name) (option_map_or (λ names. names) names [])
in_names name None = refl
in_names name (Some names) = refl

pub named_by : (t : Tables) (adt variant : ℕ) (types : List TyId) (name own : Word) → number_in t adt variant name ≡ field_named (variant_by own t adt variant types) name
named_by t adt variant types name own =
    in_names name (option_and_then (λ (names : AdtNames). slice_get names.fields variant) (slice_get t.members adt))

module _ (variant : ℕ) where
  by_names : Option AdtNames → List Word
  by_names names = option_map_or (λ names. names) (option_and_then (λ (names : AdtNames). slice_get names.fields variant) names) []

  by_items : Option Adt → Variant
  by_items adt = option_map_or (λ v. v) (option_and_then (λ (def : Adt). slice_get def.variants variant) adt) no_variant

  of_variant : (v : Option Variant) → option_map_or (λ names. names) (option_map (λ (v : Variant). v.field_names) v) [] ≡ (option_map_or (λ v. v) v no_variant).field_names
  of_variant None = refl
  of_variant (Some v) = refl

  same_names : (adt : Option Adt) → by_names (option_map adt_names adt) ≡ (by_items adt).field_names
  unfolding by_names by_items
  same_names None = refl
  same_names (Some def) =
      ap (λ names. option_map_or (λ names. names) names []) (slice_get-map (λ (v : Variant). v.field_names) def.variants variant)
      ∙ of_variant (slice_get def.variants variant)

  names_are : (items : ItemTable) (t : Tables) (adt : ℕ) → AreTablesOf items t → names_in t adt variant ≡ (variant_of items adt variant).field_names
  unfolding by_names by_items
  names_are items t adt ready =
      ap by_names (ap (λ (ns : List AdtNames). slice_get ns adt) ready.members ∙ slice_get-map adt_names items.adts adt)
      ∙ same_names (slice_get items.adts adt)

-- the variant of the items, by the tables
pub variant_is : (items : ItemTable) (t : Tables) (adt variant : ℕ) (types : List TyId) → AreTablesOf items t → types ≡ (variant_of items adt variant).fields →
    variant_by (variant_of items adt variant).name t adt variant types ≡ variant_of items adt variant
variant_is items t adt variant types ready same =
    λ i. record { name = (variant_of items adt variant).name; fields = same i; field_names = names_are variant items t adt ready i }
