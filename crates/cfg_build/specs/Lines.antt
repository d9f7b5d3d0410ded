-- The site of a line, by the items of the program, the locals of the body and its nodes.
use Rattle.std.specs.Prelude.{ℕ, ◌≡◌, List, [], ◌∷◌, Option, Some, None, map, option_map, slice_get}
use Rattle.std.specs.Option.{option_map_or}
use Rattle.cfg_graph.specs.declared.place.Place.{Place}
use Rattle.cfg_graph.specs.declared.statement.Stmt.{Stmt}
use Rattle.cfg_graph.specs.declared.terminator.Term.{Term}
use Rattle.cfg_graph.specs.Places.{named}
use Rattle.cfg_graph.specs.Uses.{place_used, places_of_stmt, stored_by_stmt, stored_by_term, term_uses}
use Rattle.mir_ty.specs.ItemTable.{ItemTable}
use Rattle.src_meaning.specs.Scopes.{Entry}
use Rattle.src_meaning.specs.Locals.OfBody.{locals}
use Rattle.typed_tree.specs.declared.node.Use.{Use}
use Rattle.typed_tree.specs.Nodes.{body_nodes, first_with}
use Rattle.typed_tree.specs.Tree.{Node, BodyTree}
use Rattle.lower_locals.specs.View.{entry_of}
use Rattle.typed_tree.specs.Listed.{trees}
use Rattle.lower_rules.specs.Sites.{UseSite, position_of, use_of, use_by_stmt, use_by_term, used_by_term}
use Rattle.cfg_build.specs.Words.{place_words}
use Rattle.cfg_build.specs.declared.names.PlaceNames.{PlaceNames}

-- the place that is used: that of a store where the node stores, and else the first
abbrev pub used_place : Option Use → List Place → List Place → Option Place
used_place (Some Use.Store) places (place ∷ stored) = Some place
used_place by places stored = slice_get places 0

-- the same by the first place, and the one into which is stored, if there are any
abbrev pub used_of : Option Use → Option Place → Option Place → Option Place
used_of (Some Use.Store) first (Some place) = Some place
used_of by first stored = first

-- the place that a terminator uses first, otherwise than by a drop, before it takes a way out
abbrev pub first_of_term : Term → Option Place
first_of_term (Term.DropAt place next unwind) = None
first_of_term term = slice_get (map place_used (term_uses term)) 0

-- a line has a site where it uses a place
abbrev pub if_any : List Place → Option UseSite → Option UseSite
if_any [] site = None
if_any (place ∷ places) site = site

module _ (items : ItemTable) (entries : List Entry) (nodes : List Node) where
  abbrev pub words_of : Option Place → List ℕ
  words_of place = option_map_or (λ place. place_words items entries nodes (named place)) place []

  abbrev pub stmt_use : Stmt → Node → UseSite
  stmt_use stmt n = record {
    at = position_of n;
    by = use_by_stmt stmt (use_of n);
    name = words_of (used_place (use_of n) (places_of_stmt stmt) (stored_by_stmt stmt));
  }

  abbrev pub term_use : Term → Node → UseSite
  term_use term n = record {
    at = position_of n;
    by = use_by_term term (use_of n);
    name = words_of (used_place (use_of n) (used_by_term term) (stored_by_term term));
  }

  abbrev pub of_stmt : ℕ → Stmt → Option UseSite
  of_stmt id stmt = if_any (places_of_stmt stmt) (option_map (stmt_use stmt) (first_with id nodes))

  abbrev pub of_term : ℕ → Term → Option UseSite
  of_term id term = if_any (used_by_term term) (option_map (term_use term) (first_with id nodes))

-- what names are made of is that of a body
abbrev pub AreOf : PlaceNames → BodyTree → Type 0
AreOf names tree =
    (map entry_of names.locals.now ≡ locals names.items.now tree) × (trees names.nodes.now ≡ body_nodes tree)
