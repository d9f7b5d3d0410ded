-- A graph as text of Graphviz: a cluster for each body, a box with the lines of a listing for each block, an arrow for
-- each edge. A dashed arrow is the way of a panic, a grey box a cleanup block, a rounded one begins the turn of a loop.
-- (The rustc development guide, "Debugging MIR", has such pictures by `-Z dump-mir-graphviz`.) A graph with exact drops
-- is drawn beside the raw graph that it was made from: blue boxes are the blocks of its ladders, and its drop flags are
-- told.
use Rattle.std.specs.Prelude.{ℕ, ◌==◌, ◌&&◌, ◌||◌, Bool, true, false, not, nat_lt, List, [], ◌∷◌, ◌++◌, length, slice_get, find, flat_map, codes, Option, Some, None, if◌then◌else◌}
use Rattle.std.specs.Fmt.{decimal}
use Rattle.std.specs.Option.{option_map_or}
use Rattle.mir_base.specs.declared.place_in_text.Pos.{Pos}
use Rattle.mir_base.specs.Lines.{line}
use Rattle.mir_ty.specs.ItemTable.{ItemTable}
use Rattle.cfg_graph.specs.declared.graph.Block.{Block}
use Rattle.cfg_graph.specs.declared.graph.Body.{Body}
use Rattle.cfg_graph.specs.declared.graph.Graph.{Graph}
use Rattle.cfg_graph.specs.declared.graph.Kind.{Kind}
use Rattle.cfg_graph.specs.declared.statement.Stmt.{Stmt}
use Rattle.cfg_graph.specs.declared.terminator.Term.{Term}
use Rattle.cfg_graph.specs.Edges.{onward, unwind_targets}
use Rattle.lower_rules.specs.declared.site.Site.{Site}
use Rattle.listing_write.specs.Items.{counted}
use Rattle.listing_write.specs.Listing.{body_text, kind_word}
use Rattle.listing_write.specs.Parts.{stmt_text, term_text}
use Rattle.look_places.specs.declared.names.BodyNames.{BodyNames}
use Rattle.look_places.specs.declared.names.Variable.{Variable}

-- in a label a quote and a backslash stand behind a backslash, and a line ends by `\l`
abbrev pub escaped_byte : ℕ → List ℕ
escaped_byte byte =
    if byte == 10 then 92 ∷ 108 ∷ []
    else (if byte == 34 || byte == 92 then 92 ∷ byte ∷ [] else byte ∷ [])

abbrev pub escaped : List ℕ → List ℕ
escaped text = flat_map escaped_byte text

abbrev pub label : List ℕ → List ℕ
label text = codes "label=\"" ++ escaped text ++ codes "\""

abbrev pub block_name : ℕ → ℕ → List ℕ
block_name body n = codes "b" ++ decimal body ++ codes "_" ++ decimal n

abbrev pub kind_style : Kind → List ℕ
kind_style Kind.Plain = []
kind_style Kind.Turn = codes ", style=rounded"
kind_style Kind.Cleanup = codes ", style=filled, fillcolor=lightgrey"

-- a block that was made for a ladder, since the raw graph has fewer blocks
abbrev pub ladder_style : Bool → List ℕ
ladder_style true = codes ", color=blue, penwidth=2"
ladder_style false = []

abbrev pub head_line : ℕ → Kind → List ℕ
head_line n kind = line (decimal n ++ codes " " ++ kind_word kind)

-- behind a line that uses a place stand its own place in the text and the name of what it uses, if that has a name
abbrev pub is_at : (body block at : ℕ) → Site → Bool
is_at body block at site = site.body == body && (site.block == block && site.line == at)

abbrev pub place_words : Pos → List ℕ
place_words at = decimal at.line ++ codes ":" ++ decimal at.col

abbrev pub behind_blank : List ℕ → List ℕ
behind_blank [] = []
behind_blank (byte ∷ name) = codes " " ++ (byte ∷ name)

abbrev pub note_of : Option Site → List ℕ
note_of None = []
note_of (Some site) = codes "  // " ++ place_words site.at ++ behind_blank site.name

abbrev pub note : List Site → (body block at : ℕ) → List ℕ
note sites body block at = note_of (find (is_at body block at) sites)

abbrev pub stmt_line : ItemTable → List Site → (body block at : ℕ) → Stmt → List ℕ
stmt_line items sites body block at stmt = line (stmt_text items stmt ++ note sites body block at)

abbrev pub term_line : ItemTable → List Site → (body block at : ℕ) → Term → List ℕ
term_line items sites body block at term = line (term_text items term ++ note sites body block at)

-- the lines of a block: its number and kind, its statements, its terminator
abbrev pub block_lines : ItemTable → List Site → (body n : ℕ) → Block → List ℕ
block_lines items sites body n block =
    head_line n block.kind ++ counted (stmt_line items sites body n) 0 block.stmts
    ++ term_line items sites body n (length block.stmts) block.term

abbrev pub box_of : ℕ → ℕ → List ℕ → Kind → Bool → List ℕ
box_of body n lines kind of_ladder =
    codes "    " ++ block_name body n ++ codes " [" ++ label lines ++ kind_style kind ++ ladder_style of_ladder
    ++ codes "];\n"

abbrev pub box : ItemTable → List Site → (body before n : ℕ) → Block → List ℕ
box items sites body before n block =
    box_of body n (block_lines items sites body n block) block.kind (not (nat_lt n before))

abbrev pub arrow : ℕ → ℕ → List ℕ → ℕ → List ℕ
arrow body from style to =
    codes "    " ++ block_name body from ++ codes " -> " ++ block_name body to ++ style ++ codes ";\n"

-- the ways on: of two the first has the choice 0, the second the choice 1
abbrev pub onward_arrows : ℕ → ℕ → List ℕ → List ℕ
onward_arrows body from (first ∷ second ∷ []) =
    arrow body from (codes " [label=0]") first ++ arrow body from (codes " [label=1]") second
onward_arrows body from targets = flat_map (arrow body from []) targets

abbrev pub panic_arrow : ℕ → ℕ → ℕ → List ℕ
panic_arrow body from to = arrow body from (codes " [style=dashed]") to

abbrev pub arrows : ℕ → ℕ → Term → List ℕ
arrows body n term = onward_arrows body n (onward term) ++ flat_map (panic_arrow body n) (unwind_targets term)

abbrev pub block_drawing : ItemTable → List Site → (body before n : ℕ) → Block → List ℕ
block_drawing items sites body before n block = box items sites body before n block ++ arrows body n block.term

-- the beginning of a body's cluster, with the lines of the body and of its locals, where the body begins in the text,
-- and its variables; the drop flags are the last locals
abbrev pub cluster_of : ℕ → List ℕ → List ℕ
cluster_of n lines =
    codes "  subgraph cluster_" ++ decimal n ++ codes " {\n    labeljust=l; " ++ label lines ++ codes ";\n"

abbrev pub line_of_flags : (before : ℕ) → List ℕ
line_of_flags before = codes "drop flags: the locals from " ++ decimal before ++ codes " on\n"

abbrev pub flags_line : (any : Bool) (before : ℕ) → List ℕ
flags_line true before = line_of_flags before
flags_line false before = []

abbrev pub variable_line : Variable → List ℕ
variable_line variable =
    line (codes "_" ++ decimal variable.local ++ codes " is " ++ variable.name ++ codes ", " ++ place_words variable.at)

abbrev pub names_lines : Option BodyNames → List ℕ
names_lines None = []
names_lines (Some names) = line (codes "at " ++ place_words names.at) ++ flat_map variable_line names.variables

abbrev pub cluster_lines : ItemTable → (n before : ℕ) → Option BodyNames → Body → List ℕ
cluster_lines items n before names body =
    body_text items n body.params body.locals ++ names_lines names
    ++ flags_line (nat_lt before (length body.locals)) before

abbrev pub cluster : ItemTable → (n before : ℕ) → Option BodyNames → Body → List ℕ
cluster items n before names body = cluster_of n (cluster_lines items n before names body)

-- a body, beside one that had so many locals and blocks
abbrev pub body_of : ItemTable → List Site → (locals blocks : ℕ) → Option BodyNames → ℕ → Body → List ℕ
body_of items sites locals blocks names n body =
    cluster items n locals names body ++ counted (block_drawing items sites n blocks) 0 body.blocks ++ codes "  }\n"

-- how many locals and blocks a body of a graph has
abbrev pub locals_in : Graph → ℕ → ℕ
locals_in graph n = option_map_or (λ body. length body.locals) (slice_get graph.bodies n) 0

abbrev pub blocks_in : Graph → ℕ → ℕ
blocks_in graph n = option_map_or (λ body. length body.blocks) (slice_get graph.bodies n) 0

abbrev pub body_drawing : ItemTable → List Site → List BodyNames → Graph → ℕ → Body → List ℕ
body_drawing items sites names raw n body =
    body_of items sites (locals_in raw n) (blocks_in raw n) (slice_get names n) n body

-- with the sites of its lines and the names of its bodies, if they are known, beside the raw graph that it was made
-- from, which may be itself
abbrev pub drawing : List Site → List BodyNames → Graph → Graph → List ℕ
drawing sites names raw graph =
    codes "digraph mirdrop {\n  node [shape=box, fontname=monospace];\n" ++
    counted (body_drawing graph.items sites names raw) 0 graph.bodies ++ codes "}\n"
