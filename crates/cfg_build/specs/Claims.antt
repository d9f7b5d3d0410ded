-- What holds of the raw graph of a program: of its runs, and of each of its bodies beside the typed body.
use Rattle.std.specs.Prelude.{◌≡◌, ◌≤◌, ◌<◌, ◌+◌, ◌*◌, ℕ, ℤ, Bool, true, List, Some, length, slice_get, Contains}
use Rattle.cfg_graph.specs.declared.graph.Block.{Block}
use Rattle.cfg_graph.specs.declared.graph.Body.{Body}
use Rattle.cfg_graph.specs.declared.graph.Graph.{Graph}
use Rattle.cfg_graph.specs.Edges.{IsRanked, targets}
use Rattle.cfg_graph.specs.Ready.{begins_once, frees_nothing, refills_dropped}
use Rattle.cfg_graph.specs.WellFormed.Cleanup.{keeps_to_cleanup}
use Rattle.cfg_meaning.specs.Programs.{raw_graph_run, free_walk}
use Rattle.cfg_meaning.specs.Walk.{renamed}
use Rattle.lower_rules.specs.CodeLaws.{without_place, outcome_without_place}
use Rattle.mir_ty.specs.ItemTable.{ItemTable}
use Rattle.src_meaning.specs.Programs.{source, free_run, reached_by, refused_of}
use Rattle.typed_tree.specs.Nodes.{body_nodes}
use Rattle.typed_tree.specs.Tree.{BodyTree, ProgramTree}
use Rattle.lower_rules.specs.Lower.{node_of}

-- for the same numbers to be asked and the same ticks the trace and the end are those of the source; where both are
-- stuck, only the graph says in which block
abbrev pub RunsAsItsSource : ProgramTree → Graph → Type 0
RunsAsItsSource program graph =
    (asked : List ℤ) (ticks : ℕ) →
    outcome_without_place (raw_graph_run graph asked ticks) ≡ outcome_without_place (source program asked ticks)

-- each body of the source has a body of the same number, of which something holds beside it
abbrev pub EachBody : (BodyTree → Body → Type 0) → ProgramTree → Graph → Type 0
EachBody P program graph =
    (n : ℕ) (tree : BodyTree) → slice_get program.bodies n ≡ Some tree →
    (body : Body) × ((slice_get graph.bodies n ≡ Some body) × P tree body)

-- with the same choices a walk ends as the free run does, and meets the same refused use, at the same node
abbrev pub WalksAsItRunsFreely : ItemTable → BodyTree → Body → Type 0
WalksAsItRunsFreely items tree body =
    (list : List Bool) →
    (renamed without_place (free_walk items (node_of items tree) body list)
    ≡ renamed without_place (free_run items tree list))
    × (refused_of (free_walk items (node_of items tree) body list) ≡ reached_by items tree list)

-- each edge leads to a block, and lowers the rank but for that to a turn block; cleanup blocks keep to themselves
abbrev pub HasOrderedEdges : BodyTree → Body → Type 0
HasOrderedEdges tree body =
    IsRanked body
    × ((n : ℕ) (block : Block) → slice_get body.blocks n ≡ Some block →
    (keeps_to_cleanup body block ≡ true)
    × ((m : ℕ) → Contains (targets block.term) m → m < length body.blocks))

-- no statement frees, no edge leads to the block in which a body begins, and a place that may not be left gone gets a
-- value again as soon as it is dropped
abbrev pub HasScheduledDrops : ItemTable → BodyTree → Body → Type 0
HasScheduledDrops items tree body =
    (frees_nothing body ≡ true) × (begins_once body ≡ true) × (refills_dropped items body ≡ true)

-- at most 32 blocks for the square of the nodes, and 64 more for each node
abbrev pub IsSmall : BodyTree → Body → Type 0
IsSmall tree body = length body.blocks ≤ 32 * (length (body_nodes tree) * (length (body_nodes tree) + 2))
