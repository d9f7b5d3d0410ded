-- The lines of structs and enums, read from the front of a text with their line feed, each exactly as it is written.
use Rattle.std.specs.Prelude.{ℕ, zero, suc, Bool, true, false, if◌then◌else◌, List, [], ◌∷◌, ◌++◌, codes, Option, Some, None}
use Rattle.std.specs.Fmt.{decimal}
use Rattle.mir_ty.specs.ItemTable.{ItemTable}
use Rattle.cfg_graph.specs.WellFormed.NameFaults.{is_among, type_words}
use Rattle.listing_write.specs.Compared.{AdtSeen, VariantSeen}
use Rattle.listing_write.specs.Reading.Lines.{ended}
use Rattle.listing_write.specs.Reading.Rows.{many, comma}
use Rattle.listing_write.specs.Reading.Words.{FoundInText, bind, chosen, as_, strip}
use Rattle.listing_parts.specs.TypeReading.{plain_number, types_read}
use Rattle.listing_lines.specs.LineReading.{name_read}

-- the names 0, 1 and so on, of so many fields
abbrev pub first_names : ℕ → List (List ℕ)
first_names zero = []
first_names (suc k) = first_names k ++ decimal k ∷ []

-- ` copy`, where it stands
abbrev pub copy_from : Option (List ℕ) → List ℕ → Bool × List ℕ
copy_from None t = (false, t)
copy_from (Some r) t = (true, r)

abbrev pub copy_read : List ℕ → Bool × List ℕ
copy_read t = copy_from (strip (codes " copy") t) t

-- ` drop B`, where it stands
abbrev pub drop_read : List ℕ → FoundInText (Option ℕ)
drop_read t = chosen (strip (codes " drop ") t) (λ t. as_ (λ body. Some body) (plain_number t)) (Some (None, t))

abbrev pub marks_from : Bool × List ℕ → FoundInText (Bool × Option ℕ)
marks_from copy = as_ (λ body. (copy.0, body)) (drop_read copy.1)

-- what ends the line of a struct or enum
abbrev pub marks_read : List ℕ → FoundInText (Bool × Option ℕ)
marks_read t = ended (marks_from (copy_read t))

-- the name of a struct or enum is no word of another type; a blank stands behind it
abbrev pub blank_behind : List ℕ × List ℕ → FoundInText (List ℕ)
blank_behind q = bind (strip (codes " ") q.1) (λ r. Some (q.0, r))

abbrev pub adt_named : List ℕ × List ℕ → FoundInText (List ℕ)
adt_named q =
    if is_among type_words q.0 then None
    else chosen (strip (codes "closure#") q.0) (λ r. None) (blank_behind q)

abbrev pub adt_name_read : List ℕ → FoundInText (List ℕ)
adt_name_read t = bind (name_read t) adt_named

-- a name, and a blank behind it
abbrev pub blank_name : List ℕ → FoundInText (List ℕ)
blank_name t = bind (name_read t) blank_behind

module _ (heads : ItemTable) where
  abbrev pub variant_from : List ℕ × List ℕ → FoundInText VariantSeen
  variant_from name = as_ (λ types. (name.0, types)) (types_read heads name.1)

  abbrev pub variant_read : List ℕ → FoundInText VariantSeen
  variant_read t = bind (blank_name t) variant_from

  -- one variant, and as many as stand behind commas
  abbrev pub with_more : VariantSeen × List ℕ → FoundInText (List VariantSeen)
  with_more first =
      Some (first.0 ∷ (many (comma variant_read) first.1).0, (many (comma variant_read) first.1).1)

  abbrev pub some_variants : List ℕ → FoundInText (List VariantSeen)
  some_variants t = bind (variant_read t) with_more

  abbrev pub closed_braces : List VariantSeen × List ℕ → FoundInText (List VariantSeen)
  closed_braces q = bind (strip (codes " }") q.1) (λ r. Some (q.0, r))

  abbrev pub variants_behind : List ℕ → FoundInText (List VariantSeen)
  variants_behind t = bind (some_variants t) closed_braces

  -- variants in braces, maybe none
  abbrev pub variants_read : List ℕ → FoundInText (List VariantSeen)
  variants_read t =
      chosen (strip (codes "{ }") t) (λ r. Some ([], r))
      (bind (strip (codes "{ ") t) variants_behind)

  abbrev pub marked : Bool → List ℕ → List VariantSeen × List ℕ → FoundInText AdtSeen
  marked is_enum name variants =
      as_ (λ marks. record {
        is_enum = is_enum;
        name = name;
        variants = variants.0;
        copy = marks.0;
        drop_body = marks.1;
      })
      (marks_read variants.1)

  -- a struct has one variant, of its name
  abbrev pub struct_from : List ℕ × List ℕ → FoundInText AdtSeen
  struct_from name = bind (types_read heads name.1) (λ fields. marked false name.0 ((name.0, fields.0) ∷ [], fields.1))

  abbrev pub struct_read : List ℕ → FoundInText AdtSeen
  struct_read t = bind (adt_name_read t) struct_from

  abbrev pub enum_from : List ℕ × List ℕ → FoundInText AdtSeen
  enum_from name = bind (variants_read name.1) (marked true name.0)

  abbrev pub enum_read : List ℕ → FoundInText AdtSeen
  enum_read t = bind (adt_name_read t) enum_from

  -- `struct NAME (T, T)` or `enum NAME { A (), B (T) }`, with its marks
  abbrev pub adt_read : List ℕ → FoundInText AdtSeen
  adt_read t = chosen (strip (codes "struct ") t) struct_read (bind (strip (codes "enum ") t) enum_read)
