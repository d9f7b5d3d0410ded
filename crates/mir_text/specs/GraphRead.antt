-- What the reader of items answers, as definitions see it.
use Rattle.std.specs.Prelude.{◌≡◌, ℕ, List, []}
use Rattle.mir_ty.specs.ItemTable.{ItemTable}
use Rattle.mir_text.specs.SectionsRead.{items_seen, Drafted}
use Rattle.mir_text.specs.GraphReading.{items_under}

-- the items that stand in a text, under heads, and no bodies
pub record AreItemsOf (heads : ItemTable) (t : List ℕ) (items : ItemTable) (rest : List ℕ) : Type 0 where
  pub seen : items_seen heads items ≡ (items_under heads t).0
  pub behind : rest ≡ (items_under heads t).1
  pub drafted : Drafted heads items
  pub bodies : items.bodies ≡ []
