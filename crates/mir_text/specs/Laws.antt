-- What the law of answers says: there is one first wrong line, and none in the listing of a well formed graph; and one
-- graph is read of that.
use Rattle.std.specs.Prelude.{◌≡◌, ℕ, ◌<◌, true, List, length, All}
use Rattle.std.specs.Str.{is_utf8}
use Rattle.cfg_graph.specs.declared.graph.Graph.{Graph}
use Rattle.cfg_graph.specs.WellFormed.Faults.{IsCounted, IsWellFormed}
use Rattle.mir_ty.specs.ItemTable.{ItemTable}
use Rattle.mir_ty.specs.Named.{adt_name}
use Rattle.listing_write.specs.Compared.{IsListed, seen}
use Rattle.listing_write.specs.Listing.{listing}
use Rattle.listing_write.specs.Types.{trait_name}
use Rattle.mir_text.specs.Answers.{WasRead}
use Rattle.mir_text.specs.Beginning.{IsListingOf, IsFirstWrong}

abbrev pub OneFirstWrong : Type 0
OneFirstWrong = (text : List ℕ) (a b : ℕ) → IsFirstWrong text a → IsFirstWrong text b → a ≡ b

-- the names that a listing has are in UTF-8
pub record AreInUtf8 (items : ItemTable) : Type 0 where
  pub adts : All (λ adt. is_utf8 adt.name ≡ true) items.adts
  pub variants : All (λ adt. All (λ variant. is_utf8 variant.name ≡ true) adt.variants) items.adts
  pub traits : All (λ def. is_utf8 def.name ≡ true) items.traits
  pub methods : All (λ def. All (λ sig. is_utf8 sig.name ≡ true) def.methods) items.traits
  pub bodies : All (λ sig. is_utf8 sig.name ≡ true) items.bodies

-- each line of a well formed graph stands
abbrev pub WellFormedIsListed : Type 0
WellFormedIsListed =
    (graph : Graph) → IsListed graph → IsCounted graph → AreInUtf8 graph.items → IsListingOf (listing graph) graph

-- so its listing has no wrong line
abbrev pub WellFormedIsNotWrong : Type 0
WellFormedIsNotWrong =
    (graph : Graph) (n : ℕ) → IsListed graph → IsCounted graph → AreInUtf8 graph.items →
    IsFirstWrong (listing graph) n → ⊥

-- a graph that was read is equal as compared to a well formed one of the same listing, and well formed too
abbrev pub OneGraphIsRead : Type 0
OneGraphIsRead =
    (text : List ℕ) (graph read : Graph) → IsListed graph → text ≡ listing graph → WasRead text read →
    (seen graph ≡ seen read) × IsWellFormed read

-- no two structs or enums have one name, and no two traits
pub record NamesAreApart (items : ItemTable) : Type 0 where
  pub adts : (n m : ℕ) → n < length items.adts → m < length items.adts → adt_name items n ≡ adt_name items m → n ≡ m
  pub traits : (n m : ℕ) → n < length items.traits → m < length items.traits → trait_name items n ≡ trait_name items m →
      n ≡ m

-- where names are apart, one graph is read of a text, as compared
abbrev pub OneGraphWasRead : Type 0
OneGraphWasRead =
    (text : List ℕ) (one other : Graph) → WasRead text one → WasRead text other → NamesAreApart one.items →
    seen one ≡ seen other
