-- What is proved of typed programs as a whole.
use Rattle.std.specs.Prelude.{◌≡◌, List, [], ◌∷◌, length, map, None, Ok}
use Rattle.mir_base.specs.declared.place_in_text.Pos.{Pos}
use Rattle.mir_ty.specs.declared.def.Sig.{Sig}
use Rattle.mir_ty.specs.ItemTable.{ItemTable}
use Rattle.src_tree.specs.Layout.{Parts}
use Rattle.typed_tree.specs.Tree.{BodyTree, ProgramTree}
use Rattle.well_typed.specs.Claim.{Holds, each}
use Rattle.well_typed.specs.Items.{are_items}
use Rattle.well_typed.specs.Program.{WellTyped, are_bodies}
use Rattle.typing_rules.specs.Collected.{collected}
use Rattle.typing_rules.specs.Items.{items_of, item_syns, all_kinds}
use Rattle.typing_rules.specs.Program.{checked}
use Rattle.typing_rules.specs.Promises.{AreReady, AreClosures, KnowsItems}
use Rattle.typing_soundness.specs.Heads.{TellBodies}
use Rattle.typing_soundness.specs.Named.{item_named, HasNames}
use Rattle.typing_soundness.specs.Shapes.{item_shaped}
use Rattle.typing_soundness.specs.Walks.{counted}

-- Items are collected as the walk over bodies asks: types that are in the table are ready, and what the text says of
-- items agrees with them.
pub record AreCollected (parts : Parts Pos) (items : ItemTable) : Type 0 where
  pub shaped : Holds (each item_shaped (item_syns (items_of parts)))
  pub ready : AreReady items
  pub known : KnowsItems (all_kinds (item_syns (items_of parts))) None items

-- a syntax tree of a text: it is shaped as those are, its names are words, and each item is listed with all its bodies
pub record IsOfText (parts : Parts Pos) : Type 0 where
  pub shaped : Holds (each item_shaped (item_syns (items_of parts)))
  pub named : Holds (each item_named (item_syns (items_of parts)))
  pub listed : TellBodies (items_of parts)

-- a text that is accepted: its items, and its typed program
pub record IsAccepted (parts : Parts Pos) (items : ItemTable) (p : ProgramTree) : Type 0 where
  pub text : IsOfText parts
  pub end : Pos
  pub collected : collected parts end ≡ Ok items
  pub checked : checked parts items ≡ Ok p

-- The items of an accepted text are collected so.
abbrev pub ItemsAreReady : Type 0
ItemsAreReady = (parts : Parts Pos) (items : ItemTable) (p : ProgramTree) → IsAccepted parts items p →
    AreCollected parts
    items

-- Bodies stand in the order of their numbers.
abbrev pub AreInTextOrder : Type 0
AreInTextOrder = (parts : Parts Pos) (items : ItemTable) (p : ProgramTree) → checked parts items ≡ Ok p → map (λ body.
    body.number) p.bodies ≡ counted 0 (length p.bodies)

-- as many bodies as heads, each with the types of its head
abbrev pub HaveHeads : List Sig → List BodyTree → Type 0
HaveHeads [] [] = Unit {0}
HaveHeads (head ∷ heads) (body ∷ bodies) =
    ((head.params ≡ map (λ p. p.ty) body.params) × (head.result ≡ body.answer)) × HaveHeads heads bodies
HaveHeads _ _ = ⊥

-- Each body of an accepted text has its head, and each closure its body.
abbrev pub BodiesHaveHeads : Type 0
BodiesHaveHeads = (parts : Parts Pos) (items : ItemTable) (p : ProgramTree) → IsAccepted parts items p → HaveHeads
    p.items.bodies p.bodies × AreClosures p.items

-- Each body of an accepted text is well typed.
abbrev pub BodiesAreTyped : Type 0
BodiesAreTyped = (parts : Parts Pos) (items : ItemTable) (p : ProgramTree) → IsAccepted parts items p → AreReady
    p.items × Holds (are_bodies p.items 0 p.items.bodies p.bodies)

-- So its program is well typed.
abbrev pub ProgramsAreTyped : Type 0
ProgramsAreTyped = (parts : Parts Pos) (items : ItemTable) (p : ProgramTree) → IsAccepted parts items p → WellTyped p

-- Names of structs, enums, variants and methods of an accepted text are words.
abbrev pub NamesAreWords : Type 0
NamesAreWords = (parts : Parts Pos) (items : ItemTable) (p : ProgramTree) → IsAccepted parts items p → HasNames p.items
