-- When a text begins with a type, and what the law of types says: each type that stands is found, and nothing but what
-- stands in front.
use Rattle.std.specs.Prelude.{◌≡◌, ℕ, ◌<◌, ⊤, Bool, true, false, not, if◌then◌else◌, nat_eq, List, [], ◌∷◌, ◌++◌, map, length, codes, Some}
use Rattle.std.specs.Fmt.{decimal}
use Rattle.std.specs.List.{list_any}
use Rattle.mir_ty.specs.ItemTable.{ItemTable}
use Rattle.cfg_graph.specs.WellFormed.NameFaults.{is_name, is_adt_name}
use Rattle.listing_parts.specs.Numbers.{adt_no, trait_no}
use Rattle.listing_write.specs.Fields.{Fits}
use Rattle.listing_write.specs.Lists.{in_parentheses}
use Rattle.listing_write.specs.Reading.Words.{is_digit}
use Rattle.listing_write.specs.Lines.{Tree, Trees, Number, Truth, Nothing, Never, Named, Tuple, Array, Boxed, Object, Shared, Unique, Closed, Missing, no_more, and_more, tree_text, trees_in_row}
use Rattle.listing_parts.specs.TypeReading.{plain_number, type_read, types_read}

-- of two and more parts
abbrev pub HasOne : Trees → Type 0
HasOne no_more = ⊥
HasOne (and_more first others) = ⊤

-- a type that can stand under these heads: the names in it are those of heads, and its numbers fit their fields
abbrev mutual
  pub Stands : ItemTable → Tree → Type 0
  Stands heads (Number kind) = ⊤
  Stands heads Truth = ⊤
  Stands heads Nothing = ⊤
  Stands heads Never = ⊤
  Stands heads (Named name) = (is_adt_name name ≡ true) × (adt_no heads name < length heads.adts)
  Stands heads (Tuple parts) = HasOne parts × AllStand heads parts
  Stands heads (Array element count) = Stands heads element × Fits count
  Stands heads (Boxed inside) = Stands heads inside
  Stands heads (Object name) = (is_name name ≡ true) × (trait_no heads name < length heads.traits)
  Stands heads (Shared to) = Stands heads to
  Stands heads (Unique to) = Stands heads to
  Stands heads (Closed n) = Fits n
  Stands heads Missing = ⊥

  pub AllStand : ItemTable → Trees → Type 0
  AllStand heads no_more = ⊤
  AllStand heads (and_more first others) = Stands heads first × AllStand heads others

abbrev pub EachStands : ItemTable → List Tree → Type 0
EachStands heads [] = ⊤
EachStands heads (type ∷ types) = Stands heads type × EachStands heads types

abbrev pub begins_brace : List ℕ → Bool
begins_brace [] = false
begins_brace (b ∷ bs) = nat_eq b 125

-- what stands behind a type: the end of the text, a mark that closes, or a blank before a brace
abbrev pub closes : List ℕ → Bool
closes [] = true
closes (b ∷ bs) = if nat_eq b 32 then begins_brace bs else list_any (nat_eq b) (10 ∷ codes ",;)]>")

abbrev pub TypesAreRead : Type 0
TypesAreRead =
    (heads : ItemTable) (type : Tree) → Stands heads type → (behind : List ℕ) → closes behind ≡ true →
    type_read heads (tree_text type ++ behind) ≡ Some (tree_text type, behind)

abbrev pub TypesAreSound : Type 0
TypesAreSound =
    (heads : ItemTable) (text word behind : List ℕ) → type_read heads text ≡ Some (word, behind) →
    text ≡ word ++ behind

-- rows of types in parentheses
abbrev pub RowsAreRead : Type 0
RowsAreRead =
    (heads : ItemTable) (types : List Tree) → EachStands heads types → (behind : List ℕ) →
    types_read heads (trees_in_row types ++ behind) ≡ Some (map tree_text types, behind)

abbrev pub RowsAreSound : Type 0
RowsAreSound =
    (heads : ItemTable) (text : List ℕ) (words : List (List ℕ)) (behind : List ℕ) →
    types_read heads text ≡ Some (words, behind) →
    text ≡ in_parentheses words ++ behind

-- no digit goes on with this text
abbrev pub no_digit_at : List ℕ → Bool
no_digit_at [] = true
no_digit_at (b ∷ bs) = not (is_digit b)

abbrev pub PlainNumbersAreRead : Type 0
PlainNumbersAreRead =
    (n : ℕ) (behind : List ℕ) → Fits n → no_digit_at behind ≡ true →
    plain_number (decimal n ++ behind) ≡ Some (n, behind)

abbrev pub PlainNumbersAreSound : Type 0
PlainNumbersAreSound =
    (text : List ℕ) (n : ℕ) (behind : List ℕ) → plain_number text ≡ Some (n, behind) →
    (text ≡ decimal n ++ behind) × Fits n
