-- The laws of the lowering: the raw graph of a typed program runs as the program does, and each of its bodies walks
-- as the body of the program runs freely.
use Rattle.std.specs.Prelude.{[], ◌∷◌, ◌⊎◌, ◌≢◌, length, ◌<◌, ◌≤◌, ◌+◌, ◌*◌, ◌≡◌, ℕ, ℤ, Bool, true, List, Some, slice_get, Contains}
use Rattle.cfg_graph.specs.declared.graph.Block.{Block}
use Rattle.cfg_graph.specs.declared.graph.Body.{Body}
use Rattle.cfg_graph.specs.declared.place.Operand.{Operand}
use Rattle.cfg_graph.specs.declared.place.Place.{Place}
use Rattle.cfg_graph.specs.Edges.{IsRanked, targets}
use Rattle.cfg_graph.specs.declared.statement.Stmt.{Stmt}
use Rattle.cfg_graph.specs.declared.terminator.Term.{Term}
use Rattle.cfg_graph.specs.declared.terminator.Unwind.{Unwind}
use Rattle.cfg_graph.specs.Uses.{places_of_stmt}
use Rattle.cfg_graph.specs.Ready.{begins_once, frees_nothing, refills_dropped}
use Rattle.cfg_graph.specs.WellFormed.Cleanup.{keeps_to_cleanup}
use Rattle.cfg_meaning.specs.Programs.{raw_graph_run, free_walk}
use Rattle.cfg_meaning.specs.Walk.{renamed}
use Rattle.mir_ty.specs.ItemTable.{ItemTable}
use Rattle.typed_tree.specs.Nodes.{body_nodes, first_with}
use Rattle.typed_tree.specs.Tree.{Node, BodyTree, ProgramTree}
use Rattle.src_meaning.specs.Programs.{source, free_run, reached_by, refused_of}
use Rattle.well_typed.specs.Program.{WellTyped}
use Rattle.lower_rules.specs.CodeLaws.{without_place, outcome_without_place}
use Rattle.lower_code.specs.Forms as code
use Rattle.lower_rules.specs.Build.{LoweringFrame}
use Rattle.lower_rules.specs.Codes.{lowers}
use Rattle.lower_rules.specs.Loops.{names_its_loops}
use Rattle.lower_rules.specs.Lower as low
use Rattle.lower_rules.specs.Lower.{body_of, node_of, graph_of}
use Rattle.lower_rules.specs.Sites.{site_at, stmt_site, term_site, used_by_term}

-- each jump of a body names a loop around it
abbrev pub NamesItsLoops : BodyTree → Type 0
NamesItsLoops tree = names_its_loops tree ≡ true

abbrev pub AllNameTheirLoops : ProgramTree → Type 0
AllNameTheirLoops program =
    (n : ℕ) (tree : BodyTree) → slice_get program.bodies n ≡ Some tree → NamesItsLoops tree

-- as they do in a well typed program
abbrev pub WellTypedNamesItsLoops : Type 0
WellTypedNamesItsLoops = (program : ProgramTree) → WellTyped program → AllNameTheirLoops program

-- with the same numbers to be asked and the same ticks, the trace and the end are the same
abbrev pub LoweredRunsAsItsSource : Type 0
LoweredRunsAsItsSource =
    (program : ProgramTree) → AllNameTheirLoops program → (asked : List ℤ) (ticks : ℕ) →
    outcome_without_place (raw_graph_run (graph_of program) asked ticks)
    ≡ outcome_without_place (source program asked ticks)

-- with the same choices a free walk ends as the free run does, and meets the same refused use, at the same node
abbrev pub LoweredWalksAsItRunsFreely : Type 0
LoweredWalksAsItRunsFreely =
    (items : ItemTable) (tree : BodyTree) → NamesItsLoops tree → (list : List Bool) →
    (renamed without_place (free_walk items (node_of items tree) (body_of items tree) list)
    ≡ renamed without_place (free_run items tree list))
    × (refused_of (free_walk items (node_of items tree) (body_of items tree) list) ≡ reached_by items tree list)

-- each edge but that to a turn block lowers the rank
abbrev pub LoweredIsRanked : Type 0
LoweredIsRanked = (items : ItemTable) (tree : BodyTree) → NamesItsLoops tree → IsRanked (body_of items tree)

-- cleanup blocks keep to themselves: from one of them no edge leads to another block, and from another block exactly
-- unwinding leads to one; and each edge leads to a block
abbrev pub LoweredKeepsToCleanup : Type 0
LoweredKeepsToCleanup =
    (items : ItemTable) (tree : BodyTree) → NamesItsLoops tree →
    (n : ℕ) (block : Block) → slice_get (body_of items tree).blocks n ≡ Some block →
    (keeps_to_cleanup (body_of items tree) block ≡ true)
    × ((m : ℕ) → Contains (targets block.term) m → m < length (body_of items tree).blocks)

-- nothing is freed by a statement of its own, no edge leads back to the block in which a body begins, and a place that
-- may not be left gone gets a value again as soon as it is dropped
abbrev pub LoweredIsPrepared : Type 0
LoweredIsPrepared =
    (items : ItemTable) (tree : BodyTree) → NamesItsLoops tree →
    (frees_nothing (body_of items tree) ≡ true)
    × (begins_once (body_of items tree) ≡ true)
    × (refills_dropped items (body_of items tree) ≡ true)

-- a value is put into a place by the first statement of a block
abbrev pub IsRefilledIn : Body → Place → ℕ → Type 0
IsRefilledIn body place n =
    (block : Block) × (from : Operand) × (rest : List Stmt) × (slice_get body.blocks n ≡ Some block)
    × (block.stmts ≡ Stmt.Put place from ∷ rest)

-- what is dropped is a whole local, or what an assignment puts a value into at once; the drop and the store are of the
-- assignment's node
abbrev pub LoweredRefillsParts : Type 0
LoweredRefillsParts =
    (items : ItemTable) (tree : BodyTree) → NamesItsLoops tree →
    (n next : ℕ) (block : Block) (place : Place) (unwind : Unwind) →
    slice_get (body_of items tree).blocks n ≡ Some block → block.term ≡ Term.DropAt place next unwind →
    (place.steps ≡ [])
    ⊎ (IsRefilledIn (body_of items tree) place next
    × (node_of items tree next 0 ≡ node_of items tree n (length block.stmts)))

-- the blocks of a body are no more than 32 times the square of its nodes, and 64 more for each node
abbrev pub LoweredIsSmall : Type 0
LoweredIsSmall =
    (items : ItemTable) (tree : BodyTree) →
    length (body_of items tree).blocks ≤ 32 * (length (body_nodes tree) * (length (body_nodes tree) + 2))

-- each line that uses a place, otherwise than by a drop, has a site: with the position, the use and the place in words
-- of the node whose number the line has, and there is such a node
abbrev pub LoweredHasSites : Type 0
LoweredHasSites =
    (items : ItemTable) (tree : BodyTree) (n : ℕ) (block : Block) →
    slice_get (body_of items tree).blocks n ≡ Some block →
    ((line : ℕ) (stmt : Stmt) → slice_get block.stmts line ≡ Some stmt → places_of_stmt stmt ≢ [] →
    (found : Node) × (first_with (node_of items tree n line) (body_nodes tree) ≡ Some found)
    × (site_at items tree n line ≡ Some (stmt_site items tree stmt found)))
    × (used_by_term block.term ≢ [] →
    (found : Node) × (first_with (node_of items tree n (length block.stmts)) (body_nodes tree) ≡ Some found)
    × (site_at items tree n (length block.stmts) ≡ Some (term_site items tree block.term found)))

-- what is made of the code of a body is what the body lowers to
abbrev pub CodeIsLowered : Type 0
CodeIsLowered =
    (f : LoweringFrame) (tree : BodyTree) → lowers f (code.entire_function f.items tree) ≡ low.entire_function f tree
