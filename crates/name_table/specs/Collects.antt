-- What `collect` answers, and the stages of it.
use Rattle.std.specs.Prelude.{◌≡◌, List, [], is_some, Result, Ok, Err, ⊤, codes}
use Rattle.std.specs.List.{filter_map}
use Rattle.mir_base.specs.declared.int_kind.IntKind.{IntKind}
use Rattle.mir_base.specs.declared.place_in_text.Pos.{Pos}
use Rattle.mir_base.specs.declared.rule.Rule.{Rule}
use Rattle.mir_base.specs.declared.rule.RuleError.{RuleError}
use Rattle.mir_ty.specs.ItemTable.{ItemTable}
use Rattle.mir_ty.specs.declared.ty.Ty.{Ty}
use Rattle.name_table.specs.Forms.{each_done}
use Rattle.typing_rules.specs.Check.{Check, Broken, interned, obeys, pure, ◌>>◌}
use Rattle.typing_rules.specs.Collected as walk
use Rattle.typing_rules.specs.Collected.{adt_item, all_derive, all_finite, drop_owners, heads_collected, impl_of, item_name, names_differ}
use Rattle.typing_rules.specs.Items.{ItemSyn, item_syns}
use Rattle.typing_rules.specs.Written.{number_of}

-- the items, or the first broken rule; want of memory says nothing
abbrev pub Collects : Result ItemTable Broken → Result ItemTable RuleError → Type 0
Collects outcome (Ok items) = outcome ≡ Ok items
Collects outcome (Err (RuleError.Broken rule at)) = outcome ≡ Err (record { rule = rule; at = at })
Collects outcome (Err RuleError.Memory) = ⊤

-- names, heads and impls
abbrev pub declared : walk.Known → List ItemSyn → Check (Unit {0})
declared k items = do
  names_differ (filter_map item_name (item_syns items)) []
  heads_collected k (record { outer = []; in_outer = 0; closures = 0 }) items
  each_done (impl_of k) (item_syns items)

-- what structs and enums hold and derive, and `main`
abbrev pub tested : walk.Known → List ItemSyn → Pos → Check (Unit {0})
tested k items end = do
  all_finite 0 (filter_map adt_item (item_syns items))
  all_derive (drop_owners items) 0 (filter_map adt_item (item_syns items))
  obeys Rule.T01 end (is_some (number_of k.paths (codes "main")))

abbrev pub stages : walk.Known → List ItemSyn → Pos → Check (Unit {0})
stages k items end = declared k items >> tested k items end

-- the types that each program has
abbrev pub plain_scalars : Check (Unit {0})
plain_scalars = do
  interned Ty.Unit
  interned Ty.Bool
  interned Ty.Never
  pure tt

abbrev pub int_scalars : Check (Unit {0})
int_scalars = do
  interned (Ty.Int IntKind.I32)
  interned (Ty.Int IntKind.I64)
  interned (Ty.Int IntKind.U32)
  interned (Ty.Int IntKind.U64)
  interned (Ty.Int IntKind.Usize)
  pure tt

abbrev pub scalars : Check (Unit {0})
scalars = do
  plain_scalars
  int_scalars
