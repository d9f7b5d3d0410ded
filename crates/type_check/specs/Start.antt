-- The tables of a checker in three parts: those of the text, those of the items, and those of impls.
use Rattle.std.specs.Prelude.{◌≡◌, ℕ, ◌==◌, List, map}
use Rattle.std.specs.List.{list_any}
use Rattle.mir_ty.specs.ItemTable.{ItemTable}
use Rattle.name_table.specs.declared.known_names.NameSort.{NameSort}
use Rattle.src_ast.specs.Syntax.{Word}
use Rattle.src_tree.specs.declared.node.NodePiece.{NodePiece}
use Rattle.src_tree.specs.View.{parts_in}
use Rattle.typeck_env.specs.Coerced.{HasImpls}
use Rattle.typeck_env.specs.Members.{all_names}
use Rattle.typeck_checker.specs.Tables.{adt_words, body_words, method_words, trait_words, all_kinds_of}
use Rattle.typing_rules.specs.Collected.{drop_owners}
use Rattle.typing_rules.specs.Items.{adt_names, all_kinds, item_syns, items_of, self_methods, trait_names}
use Rattle.mir_ty.specs.DropBodies.{is_drop_body}
use Rattle.type_check.specs.declared.start.TextTables.{TextTables}
use Rattle.type_check.specs.declared.start.ItemTables.{ItemTables}
use Rattle.type_check.specs.declared.start.ImplTables.{ImplTables}

abbrev pub HasNamesOf : NameSort → List NodePiece → List Word → Type 0
HasNamesOf NameSort.Adts pieces names = names ≡ adt_names (item_syns (items_of (parts_in pieces)))
HasNamesOf NameSort.Traits pieces names = names ≡ trait_names (item_syns (items_of (parts_in pieces)))
HasNamesOf NameSort.Dropped pieces names = names ≡ drop_owners (items_of (parts_in pieces))

pub record HasTextTables (pieces : List NodePiece) (tables : TextTables) : Type 0 where
  pub adts : tables.adts ≡ adt_names (item_syns (items_of (parts_in pieces)))
  pub traits : tables.traits ≡ trait_names (item_syns (items_of (parts_in pieces)))
  pub kinds : all_kinds_of tables.kinds ≡ all_kinds (item_syns (items_of (parts_in pieces)))
  pub methods : tables.self_methods ≡ self_methods (item_syns (items_of (parts_in pieces)))

pub record HasItemTables (items : ItemTable) (tables : ItemTables) : Type 0 where
  pub adts : tables.adt_names ≡ adt_words items
  pub traits : tables.trait_names ≡ trait_words items
  pub bodies : tables.body_names ≡ body_words items
  pub members : tables.members ≡ all_names items.adts
  pub methods : tables.methods ≡ map method_words items.traits

pub record HasImplTables (items : ItemTable) (tables : ImplTables) : Type 0 where
  pub impls : HasImpls tables.pairs items.impls
  pub drops : (body : ℕ) → list_any (λ k. k == body) tables.drop_bodies.keys ≡ is_drop_body items body
