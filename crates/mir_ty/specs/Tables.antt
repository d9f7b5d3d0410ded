-- The fields of items: the tables that a contract sees, and beside the types what is known of each.
use Rattle.std.specs.Prelude.{◌≡◌, length}
use Rattle.mir_ty.specs.declared.items.Items.TheInside.{Inside}
use Rattle.mir_ty.specs.ItemTable.{ItemTable}
use Rattle.mir_ty.specs.AreItems.{AreItems}
use Rattle.mir_ty.specs.Facts.{copy_rule, drop_rule}
use Rattle.mir_ty.specs.Known.{IsAllShown}

abbrev pub table_of : Inside → ItemTable
table_of s = record {
  types = s.types;
  adts = s.adts;
  traits = s.traits;
  impls = s.impls;
  closures = s.closures;
  bodies = s.bodies;
}

pub record AreTables (s : Inside) : Type 0 where
  pub items : AreItems (table_of s)
  pub copies_length : length s.copies.items ≡ length s.types
  pub drops_length : length s.drops.items ≡ length s.types
  pub copies : IsAllShown s.types (copy_rule s.adts s.closures) s.copies.items
  pub drops : IsAllShown s.types (drop_rule s.adts s.closures) s.drops.items
