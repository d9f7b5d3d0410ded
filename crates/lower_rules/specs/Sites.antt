-- Where the uses of places stand in the text, and what they are called where one is refused (rustc's errors E0381 and
-- E0382). Each line of a graph has the number of a node; the node gives the position and the use.
use Rattle.std.specs.Prelude.{ℕ, ◌==◌, Bool, false, ◌&&◌, List, [], ◌∷◌, ◌++◌, codes, Option, Some, None, slice_get, option_and_then}
use Rattle.std.specs.Fmt.{decimal}
use Rattle.std.specs.List.{find}
use Rattle.std.specs.Option.{option_map_or}
use Rattle.cfg_graph.specs.declared.graph.Block.{Block}
use Rattle.cfg_graph.specs.declared.place.Place as graph_place
use Rattle.cfg_graph.specs.declared.statement.Stmt.{Stmt}
use Rattle.cfg_graph.specs.declared.terminator.Term.{Term}
use Rattle.cfg_graph.specs.Places.{named}
use Rattle.cfg_graph.specs.Uses.{places_of_stmt, places_of_term, stored_by_stmt, stored_by_term}
use Rattle.mir_base.specs.declared.place_in_text.Pos.{Pos}
use Rattle.mir_ty.specs.declared.adt.Variant.{Variant}
use Rattle.mir_ty.specs.declared.ty.Ty.{Ty}
use Rattle.mir_ty.specs.declared.ty.TyId.{TyId}
use Rattle.mir_ty.specs.ItemTable.{ItemTable, type_at}
use Rattle.store_model.specs.Places.Place.{Step, ToPart, ToField, ToContent, ToElement, Place, step_ty}
use Rattle.typed_tree.specs.declared.node.Use.{Use}
use Rattle.typed_tree.specs.Nodes.{body_nodes, first_with}
use Rattle.typed_tree.specs.Tree.{Node, node, Binding, Captured, BodyTree}
use Rattle.src_meaning.specs.Locals.OfBody.{local_keys, local_tys}
use Rattle.lower_rules.specs.Lower.{body_of, node_of}

-- a use, its position in the text, and its place in words
pub record UseSite : Type 0 where
  pub at : Pos
  pub by : Use
  pub name : List ℕ

-- ---- places in words: a name, and then `.n` or `.name` for a part, `.V.n` for one of the variant V, `.*` for the
-- content of a box; an element of an array is called as the array is

abbrev name_of_binding : Node → List ℕ
name_of_binding (node id at ty by (Binding name)) = name
name_of_binding _ = []

-- the name of the variable whose local this is; none for a temporary
abbrev local_name : ItemTable → BodyTree → ℕ → List ℕ
local_name items tree local =
    option_map_or name_of_binding
    (option_and_then (λ key. first_with key (body_nodes tree)) (slice_get (local_keys items tree) local)) []

abbrev names_capture : ℕ → ℕ → Node → Bool
names_capture key part (node id at ty by (Captured closure captured name)) = key == closure && part == captured
names_capture key part _ = false

abbrev capture_name : Node → List ℕ
capture_name (node id at ty by (Captured closure captured name)) = name
capture_name _ = []

-- the name of a captured variable, by the local of the closure's value and the part's number
abbrev captured_name : ItemTable → BodyTree → ℕ → ℕ → Option (List ℕ)
captured_name items tree local part =
    option_and_then
    (λ key. option_map_or (λ n. Some (capture_name n)) (find (names_capture key part) (body_nodes tree)) None)
    (slice_get (local_keys items tree) local)

abbrev named_field : Option Variant → ℕ → List ℕ
named_field variant part =
    option_map_or (λ name. name)
    (option_and_then (λ v. slice_get v.field_names part) variant) (decimal part)

abbrev variants : ItemTable → Option Ty → List Variant
variants items (Some (Ty.Adt n)) = option_map_or (λ adt. adt.variants) (slice_get items.adts n) []
variants items _ = []

abbrev variant_name : Option Variant → List ℕ
variant_name variant = option_map_or (λ v. v.name) variant []

abbrev step_words : ItemTable → Option Ty → Step → List ℕ
step_words items ty (ToPart part) = codes "." ++ named_field (slice_get (variants items ty) 0) part
step_words items ty (ToField variant part) =
    codes "." ++ variant_name (slice_get (variants items ty) variant) ++ codes "." ++ decimal part
step_words items ty ToContent = codes ".*"
step_words items ty (ToElement index) = []

abbrev steps_words : ItemTable → Option TyId → List Step → List ℕ
steps_words items id [] = []
steps_words items id (ToElement index ∷ steps) = []
steps_words items id (step ∷ steps) =
    step_words items (option_and_then (type_at items) id) step
    ++ steps_words items (option_and_then (step_ty items step) (option_and_then (type_at items) id)) steps

abbrev part_ty : ItemTable → Option TyId → ℕ → Option TyId
part_ty items id part = option_and_then (step_ty items (ToPart part)) (option_and_then (type_at items) id)

abbrev whole_words : ItemTable → BodyTree → ℕ → List Step → List ℕ
whole_words items tree local steps =
    local_name items tree local ++ steps_words items (slice_get (local_tys items tree) local) steps

abbrev words_from : ItemTable → BodyTree → ℕ → List Step → List ℕ
words_from items tree local (ToPart part ∷ steps) =
    option_map_or
    (λ name. name ++ steps_words items (part_ty items (slice_get (local_tys items tree) local) part) steps)
    (captured_name items tree local part) (whole_words items tree local (ToPart part ∷ steps))
words_from items tree local steps = whole_words items tree local steps

abbrev pub place_words : ItemTable → BodyTree → Place → List ℕ
place_words items tree place = words_from items tree place.local place.steps

-- ---- the site of a line

abbrev pub position_of : Node → Pos
position_of (node id at ty by form) = at

abbrev pub use_of : Node → Option Use
use_of (node id at ty by form) = by

-- how a line uses a place: as its node says; a scrutinee, and an array of which an element is taken, is borrowed whole
-- by a statement of its own; what is no place in the text is moved
abbrev pub use_by_stmt : Stmt → Option Use → Use
use_by_stmt (Stmt.Touch place) by = Use.Borrow
use_by_stmt stmt (Some by) = by
use_by_stmt stmt None = Use.Move

abbrev pub use_by_term : Term → Option Use → Use
use_by_term term (Some by) = by
use_by_term term None = Use.Move

-- the place that is used: that of a store where the node stores, and else the first
abbrev used_place : Option Use → List graph_place.Place → List graph_place.Place → Option graph_place.Place
used_place (Some Use.Store) places (place ∷ stored) = Some place
used_place by places stored = slice_get places 0

abbrev words_of : ItemTable → BodyTree → Option graph_place.Place → List ℕ
words_of items tree place = option_map_or (λ place. place_words items tree (named place)) place []

-- the places that a terminator uses; a drop is no use
abbrev pub used_by_term : Term → List graph_place.Place
used_by_term (Term.DropAt place next unwind) = []
used_by_term term = places_of_term term

abbrev pub stmt_site : ItemTable → BodyTree → Stmt → Node → UseSite
stmt_site items tree stmt n = record {
  at = position_of n;
  by = use_by_stmt stmt (use_of n);
  name = words_of items tree (used_place (use_of n) (places_of_stmt stmt) (stored_by_stmt stmt));
}

abbrev pub term_site : ItemTable → BodyTree → Term → Node → UseSite
term_site items tree term n = record {
  at = position_of n;
  by = use_by_term term (use_of n);
  name = words_of items tree (used_place (use_of n) (used_by_term term) (stored_by_term term));
}

abbrev if_any_place : List graph_place.Place → Option Node → Option Node
if_any_place [] n = None
if_any_place (place ∷ places) n = n

abbrev site_if : (Node → UseSite) → Option Node → Option UseSite
site_if site n = option_map_or (λ found. Some (site found)) n None

-- the site of a line, which has one where it uses a place
abbrev line_site : ItemTable → BodyTree → Option Node → Block → ℕ → Option UseSite
line_site items tree n block line =
    option_map_or (λ stmt. site_if (stmt_site items tree stmt) (if_any_place (places_of_stmt stmt) n))
    (slice_get block.stmts line)
    (site_if (term_site items tree block.term) (if_any_place (used_by_term block.term) n))

-- the site of a line of a body, counted in its block; its terminator is the line behind the last statement
abbrev pub site_at : ItemTable → BodyTree → (block line : ℕ) → Option UseSite
site_at items tree block line =
    option_and_then
    (λ found. line_site items tree (first_with (node_of items tree block line) (body_nodes tree)) found line)
    (slice_get (body_of items tree).blocks block)
