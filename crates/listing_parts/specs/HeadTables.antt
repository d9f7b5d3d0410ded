-- The tables of the names that heads have.
use Rattle.std.specs.Prelude.{◌≡◌, ℕ, List, length}
use Rattle.listing_parts.specs.declared.heads.Heads.TheInside.{Inside}
use Rattle.listing_parts.specs.Numbers.{adt_no, trait_no, number_in}

-- each name has the number of the first of it, and how many there are where there is none
pub record AreNumbered (heads : Inside) : Type 0 where
  pub adts : (name : List ℕ) → number_in heads.adts heads.adt_count name ≡ adt_no heads.items name
  pub adt_count : heads.adt_count ≡ length heads.items.adts
  pub traits : (name : List ℕ) → number_in heads.traits heads.trait_count name ≡ trait_no heads.items name
  pub trait_count : heads.trait_count ≡ length heads.items.traits
