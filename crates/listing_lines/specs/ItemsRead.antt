-- What the readers of the lines of items answer, as definitions see it.
use Rattle.std.specs.Prelude.{◌≡◌, ℕ, true, false, Bool, List, [], ◌∷◌, ◌++◌, Option, Some, None, map, length, Result, Err, IfOk, All, option_map}
use Rattle.std.specs.Borrow.{Bor}
use Rattle.mir_base.specs.declared.memory.NoMemory.{NoMemory}
use Rattle.mir_ty.specs.declared.adt.Adt.{Adt}
use Rattle.mir_ty.specs.declared.adt.Variant.{Variant}
use Rattle.mir_ty.specs.declared.ty.TyId.{TyId}
use Rattle.mir_ty.specs.AreItems.{IsAdt, IsVariant}
use Rattle.mir_ty.specs.ItemTable.{ItemTable}
use Rattle.listing_write.specs.Compared.{AdtSeen, VariantSeen, adt_seen, variant_seen}
use Rattle.listing_write.specs.Reading.Words.{FoundInText}
use Rattle.listing_parts.specs.declared.error.ReadError.{ReadError}
use Rattle.listing_parts.specs.Table.{Grow, under}
use Rattle.listing_lines.specs.ItemReading.{first_names}

-- a name, and the text behind it
abbrev pub seen_name : Option (Bor (List ℕ) × Bor (List ℕ)) → FoundInText (List ℕ)
seen_name found = option_map (λ f. (f.0.now, f.1.now)) found

-- a variant whose fields have the names 0, 1 and so on
abbrev pub variant_of : List ℕ → List TyId → Variant
variant_of name fields = record { name = name; fields = fields; field_names = first_names (length fields) }

abbrev pub struct_of : List ℕ → List TyId → Bool → Option ℕ → Adt
struct_of name fields copy drop_body =
    record { name = name; is_enum = false; variants = variant_of name fields ∷ []; copy = copy; drop_body = drop_body }

abbrev pub enum_of : List ℕ → List Variant → Bool → Option ℕ → Adt
enum_of name variants copy drop_body =
    record { name = name; is_enum = true; variants = variants; copy = copy; drop_body = drop_body }

-- the variant that was found has its types in the new items, where they are written so
pub record FindsVariant (heads old new : ItemTable) (result : Result (Variant × Bor (List ℕ)) ReadError)
    (found : FoundInText VariantSeen) : Type 0 where
  pub there : IfOk result (λ f. found ≡ Some (variant_seen (under heads new) f.0, f.1.now))
  pub within : IfOk result (λ f. IsVariant new.types f.0)
  pub missing : result ≡ Err ReadError.Unreadable → found ≡ None
  pub grow : Grow heads old new

-- variants that were found stand behind those before them
pub record FindsMore (heads old new : ItemTable) (before after : List Variant) (result : Result (Bor (List ℕ)) NoMemory)
    (found : List VariantSeen × List ℕ) : Type 0 where
  pub there : IfOk result (λ rest.
      (map (variant_seen (under heads new)) after ≡ map (variant_seen (under heads old)) before ++ found.0)
      × (rest.now ≡ found.1))
  pub within : All (IsVariant new.types) after
  pub grow : Grow heads old new

pub record FindsVariants (heads old new : ItemTable) (result : Result (List Variant × Bor (List ℕ)) ReadError)
    (found : FoundInText (List VariantSeen)) : Type 0 where
  pub there : IfOk result (λ f. found ≡ Some (map (variant_seen (under heads new)) f.0, f.1.now))
  pub within : IfOk result (λ f. All (IsVariant new.types) f.0)
  pub missing : result ≡ Err ReadError.Unreadable → found ≡ None
  pub grow : Grow heads old new

-- and the struct or enum
pub record FindsAdt (heads old new : ItemTable) (result : Result (Adt × Bor (List ℕ)) ReadError)
    (found : FoundInText AdtSeen) : Type 0 where
  pub there : IfOk result (λ f. found ≡ Some (adt_seen (under heads new) f.0, f.1.now))
  pub within : IfOk result (λ f. IsAdt new.types f.0)
  pub missing : result ≡ Err ReadError.Unreadable → found ≡ None
  pub grow : Grow heads old new
