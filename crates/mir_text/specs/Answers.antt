-- The line of a fault, and what the reader of listings answers.
use Rattle.std.specs.Prelude.{◌≡◌, ℕ, ◌+◌, ◌==◌, List, [], ◌∷◌, if◌then◌else◌, length, take, Option, Some, None, Result, Ok, Err, slice_get, ⊤, All}
use Rattle.mir_ty.specs.AreItems.{AreTypes}
use Rattle.mir_ty.specs.ItemTable.{item_count}
use Rattle.cfg_graph.specs.declared.graph.Block.{Block}
use Rattle.cfg_graph.specs.declared.graph.Body.{Body}
use Rattle.cfg_graph.specs.declared.graph.Graph.{Graph}
use Rattle.cfg_graph.specs.declared.graph.GraphFault.{GraphFault}
use Rattle.cfg_graph.specs.WellFormed.Faults.{first_fault, nowhere, IsCounted}
use Rattle.listing_write.specs.Compared.{IsListed}
use Rattle.listing_write.specs.Listing.{listing, IsShortGraph}
use Rattle.mir_text.specs.declared.error.ListingError.{ListingError}
use Rattle.mir_text.specs.Beginning.{IsListingOf, IsFirstWrong}
use Rattle.mir_text.specs.BodiesRead.{AreSigned}
use Rattle.listing_parts.specs.Table.{AreRead}

-- how many lines blocks have: each its own, its statements and its terminator
abbrev pub blocks_lines : List Block → ℕ
blocks_lines [] = 0
blocks_lines (block ∷ blocks) = 2 + length block.stmts + blocks_lines blocks

-- bodies: each its own, its locals and its blocks
abbrev pub body_lines : Body → ℕ
body_lines body = 1 + length body.locals + blocks_lines body.blocks

abbrev pub bodies_lines : List Body → ℕ
bodies_lines [] = 0
bodies_lines (body ∷ bodies) = body_lines body + bodies_lines bodies

-- and a graph: besides those of items and bodies, the first line and the last
abbrev pub lines_count : Graph → ℕ
lines_count graph = 2 + item_count graph.items + bodies_lines graph.bodies

-- which line of a body a fault is at, counted from 0
abbrev pub line_in_body : Body → GraphFault → ℕ
line_in_body body fault =
    if fault.block == nowhere then (if fault.line == nowhere then 0 else 1 + fault.line)
    else 1 + length body.locals + blocks_lines (take fault.block body.blocks) + 1 + fault.line

abbrev pub line_in : Option Body → GraphFault → ℕ
line_in None fault = 0
line_in (Some body) fault = line_in_body body fault

-- the line of a fault, counted from 1: behind the first line stand the items, then the bodies; a `main` that is missing
-- is at the last
abbrev pub line_of_fault : Graph → GraphFault → ℕ
line_of_fault graph fault =
    if fault.body == nowhere then (if fault.line == nowhere then lines_count graph else 2 + fault.line)
    else 2 + item_count graph.items + bodies_lines (take fault.body graph.bodies) +
    line_in (slice_get graph.bodies fault.body) fault

-- a text that is the listing of a graph that was read: each type of its table names heads that are there, and stands
-- behind the types in it; the signatures of bodies are no part of a listing, and those that their locals tell
pub record WasRead (text : List ℕ) (graph : Graph) : Type 0 where
  pub listed : IsListingOf text graph
  pub types : AreRead graph.items graph.items.types
  pub locals : All (λ body. AreTypes graph.items.types body.locals) graph.bodies
  pub signed : AreSigned graph.items graph.items.bodies graph.bodies

-- the listing of no well formed graph
abbrev pub HasNoGraph : List ℕ → Type 0
HasNoGraph text = (graph : Graph) → IsListed graph → text ≡ listing graph → ⊥

-- a text that is the listing of a graph with this first fault, at this line, and of no well formed one
pub record HasFault (text : List ℕ) (fault : GraphFault) (number : ℕ) : Type 0 where
  pub graph : Graph
  pub read : WasRead text graph
  pub first : first_fault graph ≡ Some fault
  pub at : number ≡ line_of_fault graph fault
  pub none : HasNoGraph text

-- a text that is the listing of a well formed graph, whose lists are as short as the calls on graphs ask
pub record IsText (text : List ℕ) (graph : Graph) : Type 0 where
  pub listed : IsListed graph
  pub same : text ≡ listing graph
  pub counted : IsCounted graph
  pub short : IsShortGraph graph

-- what the reader answers: the graph, the first wrong line, or the first fault with its line
abbrev pub Answers : List ℕ → Result Graph ListingError → Type 0
Answers text (Ok graph) = IsText text graph
Answers text (Err (ListingError.BadListing line)) = IsFirstWrong text line
Answers text (Err (ListingError.BadGraph fault line)) = HasFault text fault line
Answers text (Err ListingError.Memory) = ⊤
