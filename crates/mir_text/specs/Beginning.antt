-- When a text begins as a listing, and which line of it is the first wrong one.
use Rattle.std.specs.Prelude.{◌≡◌, ℕ, zero, suc, ◌+◌, ◌<◌, ◌≤◌, true, List, ◌++◌, ⊤, All, IfSome, flat_map, length, take}
use Rattle.std.specs.Str.{is_utf8}
use Rattle.mir_ty.specs.AreItems.{AreItems}
use Rattle.mir_ty.specs.ItemTable.{ItemTable}
use Rattle.cfg_graph.specs.declared.graph.Graph.{Graph}
use Rattle.cfg_graph.specs.WellFormed.NameFaults.{is_name, is_adt_name}
use Rattle.listing_write.specs.Fields.{Fits}
use Rattle.listing_write.specs.Lines.{Line, HeadLine, StructLine, EnumLine, TraitLine, ImplLine, ClosureLine, BodyLine, LocalLine, BlockLine, MakeLine, UnsizeLine, StmtLine, VirtualLine, TermLine, EndLine, line_text, lines_of}
use Rattle.listing_write.specs.Lists.{line}
use Rattle.listing_lines.specs.CodeStands.{IsAdtName, IsTraitName, StmtLineStands, TermLineStands}
use Rattle.listing_parts.specs.TypesFound.{Stands, EachStands}
use Rattle.listing_lines.specs.ItemsFound.{VariantsStand}
use Rattle.listing_lines.specs.TraitsFound.{MethodsStand}

-- a line whose names can stand in a listing and are there, and whose numbers fit their fields
abbrev pub LineStands : ItemTable → Line → Type 0
LineStands items HeadLine = ⊤
LineStands items (StructLine name fields copy drop_body) =
    (is_adt_name name ≡ true) × (is_utf8 name ≡ true) × EachStands items fields × IfSome drop_body Fits
LineStands items (EnumLine name variants copy drop_body) =
    (is_adt_name name ≡ true) × (is_utf8 name ≡ true) × VariantsStand items variants × IfSome drop_body Fits
LineStands items (TraitLine name methods) =
    (is_name name ≡ true) × (is_utf8 name ≡ true) × MethodsStand items name methods
LineStands items (ImplLine trait_called adt_called bodies) =
    IsTraitName items trait_called × IsAdtName items adt_called × All Fits bodies
LineStands items (ClosureLine n captures body) = Fits n × EachStands items captures × Fits body
LineStands items (BodyLine n name params) =
    Fits n × (is_name name ≡ true) × (is_utf8 name ≡ true) × Fits params
LineStands items (LocalLine n ty) = Fits n × Stands items ty
LineStands items (BlockLine n kind rank) = Fits n × Fits rank
LineStands items (MakeLine to name variant parts) = StmtLineStands items (MakeLine to name variant parts)
LineStands items (UnsizeLine to name from) = StmtLineStands items (UnsizeLine to name from)
LineStands items (StmtLine stmt) = StmtLineStands items (StmtLine stmt)
LineStands items (VirtualLine to name method args next unwind) =
    TermLineStands items (VirtualLine to name method args next unwind)
LineStands items (TermLine term) = TermLineStands items (TermLine term)
LineStands items EndLine = ⊤

abbrev pub texts : List Line → List ℕ
texts lines = flat_map (λ one. line (line_text one)) lines

-- a graph whose listing has the same first lines as a text, and all structs, enums and traits among them
pub record HasBeginning (text : List ℕ) (count : ℕ) (graph : Graph) : Type 0 where
  pub items : AreItems graph.items
  pub enough : count ≤ length (lines_of graph)
  pub declared : length graph.items.adts + length graph.items.traits < count
  pub stand : All (LineStands graph.items) (take count (lines_of graph))
  pub behind : List ℕ
  pub same : text ≡ texts (take count (lines_of graph)) ++ behind

-- the first lines of a text, so many, are a beginning
abbrev pub Begins : List ℕ → ℕ → Type 0
Begins text zero = ⊤
Begins text (suc count) = (graph : Graph) × HasBeginning text (suc count) graph

-- the listing of a graph, all of whose lines stand
pub record IsListingOf (text : List ℕ) (graph : Graph) : Type 0 where
  pub items : AreItems graph.items
  pub stand : All (LineStands graph.items) (lines_of graph)
  pub same : text ≡ texts (lines_of graph)

-- the line behind the longest beginning of a text that is no listing; lines are counted from 1
pub record IsFirstWrong (text : List ℕ) (number : ℕ) : Type 0 where
  pub before : ℕ
  pub next : number ≡ suc before
  pub begins : Begins text before
  pub longest : (count : ℕ) → Begins text count → count ≤ before
  pub no_listing : (graph : Graph) → IsListingOf text graph → ⊥
