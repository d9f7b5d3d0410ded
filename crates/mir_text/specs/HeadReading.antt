-- The heads of a listing: the names behind the words of the lines of structs, enums and traits, up to so many of each.
use Rattle.std.specs.Prelude.{ℕ, false, true, if◌then◌else◌, nat_eq, List, [], ◌∷◌, codes, Some, None}
use Rattle.mir_ty.specs.declared.adt.Adt.{Adt}
use Rattle.mir_ty.specs.declared.def.TraitDef.{TraitDef}
use Rattle.mir_ty.specs.ItemTable.{ItemTable, no_items, with_adt, with_trait}
use Rattle.listing_write.specs.Reading.Words.{FoundInText, bind, or_else, strip}
use Rattle.listing_lines.specs.ItemReading.{blank_name}
use Rattle.mir_text.specs.SectionReading.{on_within}

-- the text behind the first line feed
abbrev pub behind_feed : List ℕ → List ℕ
behind_feed [] = []
behind_feed (b ∷ bs) = if nat_eq b 10 then bs else behind_feed bs

-- the name of a struct or enum, and that of a trait, whose line stands in front, and what stands behind the line
abbrev pub named_line : List ℕ → FoundInText (List ℕ)
named_line t = bind (blank_name t) (λ f. Some (f.0, behind_feed f.1))

abbrev pub adt_head : List ℕ → FoundInText (List ℕ)
adt_head t = bind (or_else (strip (codes "struct ") t) (strip (codes "enum ") t)) named_line

abbrev pub trait_head : List ℕ → FoundInText (List ℕ)
trait_head t = bind (strip (codes "trait ") t) named_line

-- an enum without variants, and a trait without methods, of a name
abbrev pub adt_of : List ℕ → Adt
adt_of name = record { name = name; is_enum = true; variants = []; copy = false; drop_body = None }

abbrev pub trait_of : List ℕ → TraitDef
trait_of name = record { name = name; methods = [] }

abbrev pub one_adt_head : ItemTable → List ℕ → FoundInText ItemTable
one_adt_head heads t = bind (adt_head t) (λ f. Some (with_adt heads (adt_of f.0), f.1))

abbrev pub one_trait_head : ItemTable → List ℕ → FoundInText ItemTable
one_trait_head heads t = bind (trait_head t) (λ f. Some (with_trait heads (trait_of f.0), f.1))

-- structs and enums, then traits, up to so many of each
abbrev pub traits_behind : ℕ → ItemTable × List ℕ → ItemTable
traits_behind traits q = (on_within traits one_trait_head q.0 q.1).0

abbrev pub heads_within : (adts traits : ℕ) → List ℕ → ItemTable
heads_within adts traits t = traits_behind traits (on_within adts one_adt_head no_items t)
