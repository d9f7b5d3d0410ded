-- What the law of items says: each line of a struct or enum that may stand is found by its reader, and nothing but a
-- line in front.
use Rattle.std.specs.Prelude.{◌≡◌, ℕ, Bool, true, false, List, [], ◌∷◌, ◌++◌, ⊤, map, codes, Option, Some, IfSome}
use Rattle.std.specs.Str.{is_utf8}
use Rattle.mir_ty.specs.ItemTable.{ItemTable}
use Rattle.cfg_graph.specs.WellFormed.NameFaults.{is_name, is_adt_name}
use Rattle.listing_write.specs.Compared.{AdtSeen, VariantSeen, Written}
use Rattle.listing_write.specs.Fields.{Fits}
use Rattle.listing_write.specs.Items.{copy_text, drop_text}
use Rattle.listing_write.specs.Lines.{Tree, tree_text, line_text, StructLine, EnumLine}
use Rattle.listing_write.specs.Lists.{in_braces, in_parentheses, line}
use Rattle.listing_parts.specs.TypesFound.{EachStands}
use Rattle.listing_lines.specs.ItemReading.{adt_read}

-- variants of names in UTF-8, whose types stand under the heads
abbrev pub VariantsStand : ItemTable → List (List ℕ × List Tree) → Type 0
VariantsStand heads [] = ⊤
VariantsStand heads (variant ∷ variants) =
    ((is_name variant.0 ≡ true) × (is_utf8 variant.0 ≡ true) × EachStands heads variant.1)
    × VariantsStand heads variants

-- what is found of a variant
abbrev pub found_variant : List ℕ × List Tree → VariantSeen
found_variant variant = (variant.0, map tree_text variant.1)

abbrev pub StructsAreRead : Type 0
StructsAreRead =
    (heads : ItemTable) (name : List ℕ) (fields : List Tree) (copy : Bool) (drop_body : Option ℕ) (behind : List ℕ) →
    is_adt_name name ≡ true → is_utf8 name ≡ true → EachStands heads fields → IfSome drop_body Fits →
    adt_read heads (line (line_text (StructLine name fields copy drop_body)) ++ behind)
    ≡ Some (
      record {
        is_enum = false;
        name = name;
        variants = (name, map tree_text fields) ∷ [];
        copy = copy;
        drop_body = drop_body;
      },
      behind,
    )

abbrev pub EnumsAreRead : Type 0
EnumsAreRead =
    (heads : ItemTable) (name : List ℕ) (variants : List (List ℕ × List Tree)) (copy : Bool) (drop_body : Option ℕ)
    (behind : List ℕ) →
    is_adt_name name ≡ true → is_utf8 name ≡ true → VariantsStand heads variants → IfSome drop_body Fits →
    adt_read heads (line (line_text (EnumLine name variants copy drop_body)) ++ behind)
    ≡ Some (
      record {
        is_enum = true;
        name = name;
        variants = map found_variant variants;
        copy = copy;
        drop_body = drop_body;
      },
      behind,
    )

-- a struct or enum that was found, as it is written
abbrev pub written_variant : VariantSeen → List ℕ
written_variant variant = variant.0 ++ codes " " ++ in_parentheses variant.1

abbrev pub own_fields : List VariantSeen → List Written
own_fields [] = []
own_fields (variant ∷ variants) = variant.1

abbrev pub written_shape : Bool → List ℕ → List VariantSeen → List ℕ
written_shape true name variants = codes "enum " ++ name ++ codes " " ++ in_braces (map written_variant variants)
written_shape false name variants = codes "struct " ++ name ++ codes " " ++ in_parentheses (own_fields variants)

abbrev pub written_adt : AdtSeen → List ℕ
written_adt adt =
    line (written_shape adt.is_enum adt.name adt.variants ++ copy_text adt.copy ++ drop_text adt.drop_body)

abbrev pub AdtsAreSound : Type 0
AdtsAreSound =
    (heads : ItemTable) (text : List ℕ) (adt : AdtSeen) (behind : List ℕ) → adt_read heads text ≡ Some (adt, behind) →
    (text ≡ written_adt adt ++ behind)
    × (is_adt_name adt.name ≡ true) × (is_utf8 adt.name ≡ true) × IfSome adt.drop_body Fits
