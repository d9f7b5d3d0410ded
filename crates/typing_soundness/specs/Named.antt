-- Names of items: words, without a blank or a mark in them; the name of a struct or an enum is without the mark of
-- closures' names, and not `dyn`, which is a keyword (The Rust Reference, "Identifiers", "Keywords").
use Rattle.std.specs.Prelude.{Bool, false, ◌&&◌, ◌==◌, nat_le, not, [], ◌∷◌, codes, IsTrue, true}
use Rattle.std.specs.List.{list_any, list_all}
use Rattle.std.specs.Str.{bytes_eq}
use Rattle.mir_ty.specs.declared.adt.Adt.{Adt}
use Rattle.mir_ty.specs.declared.def.TraitDef.{TraitDef}
use Rattle.mir_ty.specs.ItemTable.{ItemTable}
use Rattle.well_typed.specs.Claim.{Claim, fact, ◌&◌, each}
use Rattle.well_typed.specs.Names.{is_word}
use Rattle.typing_rules.specs.Promises.{is_plain_name}
use Rattle.src_ast.specs.Syntax.{Word, Syn, syn, AnItem, AField, AVariant, StructItem, EnumItem, TraitItem, ImplItem, FnItem, list_of}

abbrev pub is_type_name : Word → Bool
is_type_name name = is_word name && (is_plain_name name && not (bytes_eq name (codes "dyn")))

-- no colon, which stands in the names of methods and closures, behind that of their type or function
abbrev pub has_no_colon : Word → Bool
has_no_colon name = not (list_any (λ byte. byte == 58) name)

-- a name as it is written by itself
abbrev pub is_own_name : Word → Bool
is_own_name name = is_word name && (is_plain_name name && has_no_colon name)

-- the names of fields by their order do so
abbrev pub begins_with_digit : Word → Bool
begins_with_digit [] = false
begins_with_digit (byte ∷ bytes) = nat_le 48 byte && nat_le byte 57

-- ---- as they are written

abbrev pub field_named : Syn → Claim
field_named (syn at (AField name ty)) = fact (not (begins_with_digit name))
field_named _ = fact true

abbrev pub variant_named : Syn → Claim
variant_named (syn at (AVariant name kind fields)) = fact (is_word name) & each field_named (list_of fields)
variant_named _ = fact true

-- of a function, or a method
abbrev pub head_named : Syn → Claim
head_named (syn at (AnItem (FnItem name params answer block))) = fact (is_own_name name.1)
head_named _ = fact true

abbrev pub item_named : Syn → Claim
item_named (syn at (AnItem (StructItem derives name kind fields))) =
    fact (is_type_name name.1) & fact (is_own_name name.1) & each field_named (list_of fields)
item_named (syn at (AnItem (EnumItem derives name variants))) =
    fact (is_type_name name.1) & fact (is_own_name name.1) & each variant_named (list_of variants)
item_named (syn at (AnItem (TraitItem name heads))) = fact (is_own_name name.1) & each head_named (list_of heads)
item_named (syn at (AnItem (ImplItem trait_ name methods))) =
    fact (is_own_name name.1) & each head_named (list_of methods)
item_named item = head_named item

-- ---- as a table has them

abbrev pub adt_named : Adt → Bool
adt_named adt = is_type_name adt.name && list_all (λ v. is_word v.name) adt.variants

abbrev pub trait_named : TraitDef → Bool
trait_named def = list_all (λ m. is_word m.name) def.methods

pub record HasNames (items : ItemTable) : Type 0 where
  pub adts : IsTrue (list_all adt_named items.adts)
  pub traits : IsTrue (list_all trait_named items.traits)
