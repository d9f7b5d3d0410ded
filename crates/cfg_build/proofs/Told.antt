-- The site of a line, by the locals and the nodes of its body.
use Rattle.std.proofs.Common.{◌≡◌, ◌∙◌, ◌∷◌, ◌++◌, ◌+◌, ◌<◌, ℕ, suc, List, [], Option, Some, None, length, map, drop, refl, sym, ap, arith}
use Rattle.std.proofs.lemmas.Option.{none-some, slice_get-get_or}
use Rattle.std.specs.Prelude.{slice_get, option_map, get_or}
use Rattle.std.specs.Option.{unwrap_or}
use Rattle.cfg_graph.specs.declared.graph.Block.{Block}
use Rattle.cfg_graph.specs.declared.place.Place.{Place}
use Rattle.cfg_graph.specs.declared.statement.Stmt.{Stmt}
use Rattle.cfg_graph.specs.declared.terminator.Term.{Term}
use Rattle.cfg_graph.specs.declared.terminator.Unwind.{Unwind}
use Rattle.cfg_graph.specs.Uses.{place_used, places_of_stmt, stored_by_stmt, stored_by_term, term_uses}
use Rattle.mir_base.specs.declared.place_in_text.Pos.{Pos}
use Rattle.move_paths.specs.Uses.{optional}
use Rattle.mir_ty.specs.ItemTable.{ItemTable}
use Rattle.src_meaning.specs.Scopes.{Entry}
use Rattle.src_meaning.specs.Locals.OfBody.{locals}
use Rattle.typed_tree.specs.declared.node.Use.{Use}
use Rattle.typed_tree.specs.Nodes.{body_nodes, first_with}
use Rattle.typed_tree.specs.Tree.{Node, BodyTree}
use Rattle.lower_rules.specs.Lower as low
use Rattle.lower_rules.specs.Sites.{UseSite, site_at, position_of, use_of, use_by_stmt, use_by_term, used_by_term}
use Rattle.lower_rules.proofs.FormSites.{lowered_has_sites}
use Rattle.cfg_build.specs.Lines.{used_place, used_of, if_any, first_of_term, words_of, stmt_use, term_use, of_stmt, of_term}
use Rattle.lower_rules.specs.Listed.{placed, at_line, of_lines, of_blocks, nodes_of_body}
use Rattle.cfg_build.proofs.Numbered.{numbered_more}
use Rattle.lower_rules.specs.declared.site.Site.{Site}

cons_some : (p : Place) (ps : List Place) → p ∷ ps ≡ [] → ⊥
cons_some p ps is = let apart : p ∷ ps ≡ [] = is in cc

append_none : {A : Type 0} (xs : List A) → xs ++ [] ≡ xs
append_none [] = refl
append_none (x ∷ xs) = ap (λ ys. x ∷ ys) (append_none xs)

drop_all : {A : Type 0} (xs : List A) → drop (length xs) xs ≡ []
drop_all [] = refl
drop_all (x ∷ xs) = drop_all xs

past_end : {X : Type 0} (xs : List X) → slice_get xs (length xs) ≡ None
past_end [] = refl
past_end (x ∷ xs) = past_end xs

-- the place that is used, by the first and the stored one
pub used_is : (by : Option Use) (places stored : List Place) (first to : Option Place) → first ≡ slice_get places 0 → optional to ≡ stored → used_of by first to ≡ used_place by places stored
used_is None places stored first to is same = is
used_is (Some Use.Move) places stored first to is same = is
used_is (Some Use.Copy) places stored first to is same = is
used_is (Some Use.Borrow) places stored first to is same = is
used_is (Some Use.BorrowMut) places stored first to is same = is
used_is (Some Use.Test) places stored first to is same = is
used_is (Some Use.Store) places stored first None is same = is ∙ ap (used_place (Some Use.Store) places) same
used_is (Some Use.Store) places stored first (Some to) is same = ap (used_place (Some Use.Store) places) same

-- what a terminator that drops nothing uses first
pub not_drop : (term : Term) → ((place : Place) (next : ℕ) (unwind : Unwind) → term ≡ Term.DropAt place next unwind → ⊥) → first_of_term term ≡ slice_get (map place_used (term_uses term)) 0
not_drop (Term.DropAt place n u) other = absurd (other place n u refl)
not_drop others other = refl

-- whether a line uses a place
pub none_used : (places : List Place) (site : Option UseSite) → None ≡ slice_get places 0 → None ≡ if_any places site
none_used [] site is = refl
none_used (p ∷ ps) site is = absurd (none-some p is)

pub some_used : (places : List Place) (first : Place) (site : Option UseSite) → Some first ≡ slice_get places 0 → site ≡ if_any places site
some_used [] first site is = absurd (none-some first (sym is))
some_used (p ∷ ps) first site is = refl

-- a use that is put behind others is that of its line
module _ (items : ItemTable) (entries : List Entry) (nodes : List Node) (body block line id : ℕ) (n : Node) (at : Pos) (by : Use) (name : List ℕ) (found : Some n ≡ first_with id nodes) (stands : position_of n ≡ at) where
  listed_as : (used : UseSite) → used.at ≡ at → by ≡ used.by → name ≡ used.name → record { body = body; block = block; line = line; at = at; by = by; name = name } ∷ [] ≡ placed body block line (Some used)
  listed_as used same uses words = λ i. record { body = body; block = block; line = line; at = sym same i; by = uses i; name = words i } ∷ []

  pub stmt_listed : (stmt : Stmt) (first : Place) → Some first ≡ slice_get (places_of_stmt stmt) 0 → by ≡ use_by_stmt stmt (use_of n) → name ≡ words_of items entries nodes (used_place (use_of n) (places_of_stmt stmt) (stored_by_stmt stmt)) → record { body = body; block = block; line = line; at = at; by = by; name = name } ∷ [] ≡ placed body block line (of_stmt items entries nodes id stmt)
  stmt_listed stmt first is uses words =
      listed_as (stmt_use items entries nodes stmt n) stands uses words
      ∙ ap (placed body block line)
      (ap (option_map (stmt_use items entries nodes stmt)) found
      ∙ some_used (places_of_stmt stmt) first (option_map (stmt_use items entries nodes stmt) (first_with id nodes)) is)

  pub term_listed : (term : Term) (first : Place) → Some first ≡ slice_get (used_by_term term) 0 → by ≡ use_by_term term (use_of n) → name ≡ words_of items entries nodes (used_place (use_of n) (used_by_term term) (stored_by_term term)) → record { body = body; block = block; line = line; at = at; by = by; name = name } ∷ [] ≡ placed body block line (of_term items entries nodes id term)
  term_listed term first is uses words =
      listed_as (term_use items entries nodes term n) stands uses words
      ∙ ap (placed body block line)
      (ap (option_map (term_use items entries nodes term)) found
      ∙ some_used (used_by_term term) first (option_map (term_use items entries nodes term) (first_with id nodes)) is)

-- a line whose node is not found, or that uses no place, has none
pub unlisted : (body block line : ℕ) (site : Option UseSite) (all : List Site) → None ≡ site → all ≡ all ++ placed body block line site
unlisted body block line site all none = sym (append_none all) ∙ ap (λ s. all ++ placed body block line s) none

module _ (items : ItemTable) (tree : BodyTree) (block : ℕ) (one : Block) (at : slice_get (low.body_of items tree).blocks block ≡ Some one) where
  no_stmt : (line : ℕ) (stmt : Stmt) → slice_get one.stmts line ≡ Some stmt → places_of_stmt stmt ≡ [] → None ≡ site_at items tree block line
  no_stmt line stmt d none = sym (simp (at, d, none))

  no_term : used_by_term one.term ≡ [] → None ≡ site_at items tree block (length one.stmts)
  no_term none = sym (simp (at, past_end one.stmts, none))

  stmt_told : (line : ℕ) (stmt : Stmt) (id : ℕ) → slice_get one.stmts line ≡ Some stmt → id ≡ low.node_of items tree block line → (places : List Place) → places_of_stmt stmt ≡ places → of_stmt items (locals items tree) (body_nodes tree) id stmt ≡ site_at items tree block line
  stmt_told line stmt id d is [] none =
      let left : of_stmt items (locals items tree) (body_nodes tree) id stmt ≡ None =
      ap (λ (ps : List Place). if_any ps (option_map (stmt_use items (locals items tree) (body_nodes tree) stmt) (first_with id (body_nodes tree)))) none in
      left ∙ no_stmt line stmt d none
  stmt_told line stmt id d is (p ∷ ps) some =
      let found = (lowered_has_sites items tree block one at).0 line stmt d (λ none. cons_some p ps (sym some ∙ none)) in
      ap (λ (ps : List Place). if_any ps (option_map (stmt_use items (locals items tree) (body_nodes tree) stmt) (first_with id (body_nodes tree)))) some
      ∙ ap (λ (k : ℕ). option_map (stmt_use items (locals items tree) (body_nodes tree) stmt) (first_with k (body_nodes tree))) is
      ∙ ap (option_map (stmt_use items (locals items tree) (body_nodes tree) stmt)) found.1
      ∙ sym found.2

  pub stmt_is : (line : ℕ) (stmt : Stmt) (id : ℕ) → slice_get one.stmts line ≡ Some stmt → id ≡ low.node_of items tree block line → of_stmt items (locals items tree) (body_nodes tree) id stmt ≡ site_at items tree block line
  stmt_is line stmt id d is = stmt_told line stmt id d is (places_of_stmt stmt) refl

  term_told : (id : ℕ) → id ≡ low.node_of items tree block (length one.stmts) → (places : List Place) → used_by_term one.term ≡ places → of_term items (locals items tree) (body_nodes tree) id one.term ≡ site_at items tree block (length one.stmts)
  term_told id is [] none =
      let left : of_term items (locals items tree) (body_nodes tree) id one.term ≡ None =
      ap (λ (ps : List Place). if_any ps (option_map (term_use items (locals items tree) (body_nodes tree) one.term) (first_with id (body_nodes tree)))) none in
      left ∙ no_term none
  term_told id is (p ∷ ps) some =
      let found = (lowered_has_sites items tree block one at).1 (λ none. cons_some p ps (sym some ∙ none)) in
      ap (λ (ps : List Place). if_any ps (option_map (term_use items (locals items tree) (body_nodes tree) one.term) (first_with id (body_nodes tree)))) some
      ∙ ap (λ (k : ℕ). option_map (term_use items (locals items tree) (body_nodes tree) one.term) (first_with k (body_nodes tree))) is
      ∙ ap (option_map (term_use items (locals items tree) (body_nodes tree) one.term)) found.1
      ∙ sym found.2

  pub term_is : (id : ℕ) → id ≡ low.node_of items tree block (length one.stmts) → of_term items (locals items tree) (body_nodes tree) id one.term ≡ site_at items tree block (length one.stmts)
  term_is id is = term_told id is (used_by_term one.term) refl

-- the lines of a block, one after the other, by the nodes that are given with them
module _ (items : ItemTable) (tree : BodyTree) (body block : ℕ) (one : Block) (ids : List ℕ) (entries : List Entry) (nodes : List Node) (at : slice_get (low.body_of items tree).blocks block ≡ Some one) (alike : entries ≡ locals items tree) (those : nodes ≡ body_nodes tree) (same : unwrap_or (slice_get (nodes_of_body items tree) block) [] ≡ ids) where
  line_told : (line : ℕ) (stmt : Stmt) (id : ℕ) → slice_get one.stmts line ≡ Some stmt → id ≡ unwrap_or (slice_get ids line) 0 → placed body block line (of_stmt items entries nodes id stmt) ≡ at_line items tree body block line
  line_told line stmt id d is =
      ap (placed body block line)
      (ap (λ (es : List Entry). of_stmt items es nodes id stmt) alike
      ∙ ap (λ (ns : List Node). of_stmt items (locals items tree) ns id stmt) those
      ∙ stmt_is items tree block one at line stmt id d (is ∙ ap (λ (l : List ℕ). unwrap_or (slice_get l line) 0) (sym same)))

  end_told : (line id : ℕ) → line ≡ length one.stmts → id ≡ unwrap_or (slice_get ids line) 0 → placed body block line (of_term items entries nodes id one.term) ≡ at_line items tree body block line
  end_told line id ends is =
      ap (placed body block line)
      (ap (λ (es : List Entry). of_term items es nodes id one.term) alike
      ∙ ap (λ (ns : List Node). of_term items (locals items tree) ns id one.term) those
      ∙ term_is items tree block one at id (is ∙ ap (λ (l : List ℕ). unwrap_or (slice_get l line) 0) (sym same) ∙ ap (λ (k : ℕ). low.node_of items tree block k) ends)
      ∙ ap (λ (k : ℕ). site_at items tree block k) (sym ends))

  following : (k : ℕ) (stmt : Stmt) (rest : List Stmt) → of_lines items tree body block k (stmt ∷ rest) ≡ at_line items tree body block k ++ of_lines items tree body block (k + 1) rest
  following k stmt rest =
      let next : suc k ≡ k + 1 = omega arith in
      ap (λ (n : ℕ). at_line items tree body block k ++ of_lines items tree body block n rest) next

  pub line_more : (stmts : List Stmt) (i line next : ℕ) (d : Stmt) (id : ℕ) (before new all : List Site) → stmts ≡ one.stmts → line ≡ i → next ≡ line + 1 → i < length stmts → d ≡ get_or stmts i d → id ≡ unwrap_or (slice_get ids line) 0 → new ≡ before ++ placed body block line (of_stmt items entries nodes id d) → before ++ of_lines items tree body block line (drop i stmts) ≡ all → new ++ of_lines items tree body block next (drop (i + 1) stmts) ≡ all
  line_more stmts i line next d id before new all these counts on less is number found so_far =
      let here : slice_get stmts i ≡ Some d = slice_get-get_or stmts i d less ∙ ap (λ (s : Stmt). Some s) (sym is) in
      let there : slice_get one.stmts line ≡ Some d =
      ap (λ (k : ℕ). slice_get one.stmts k) counts ∙ ap (λ (l : List Stmt). slice_get l i) (sym these) ∙ here in
      let told : new ≡ before ++ at_line items tree body block i =
      found ∙ ap (λ (s : List Site). before ++ s) (line_told line d id there number) ∙ ap (λ (k : ℕ). before ++ at_line items tree body block k) counts in
      ap (λ (k : ℕ). new ++ of_lines items tree body block k (drop (i + 1) stmts)) (on ∙ ap (λ (k : ℕ). k + 1) counts)
      ∙ numbered_more (λ (k : ℕ) (l : List Stmt). of_lines items tree body block k l) (λ (k : ℕ) (s : Stmt). at_line items tree body block k) stmts i d before new all following less is told
      (ap (λ (k : ℕ). before ++ of_lines items tree body block k (drop i stmts)) (sym counts) ∙ so_far)

  pub last_more : (stmts : List Stmt) (i line id : ℕ) (before new all : List Site) → stmts ≡ one.stmts → line ≡ i → length stmts ≡ i → id ≡ unwrap_or (slice_get ids line) 0 → new ≡ before ++ placed body block line (of_term items entries nodes id one.term) → before ++ of_lines items tree body block line (drop i stmts) ≡ all → new ≡ all
  last_more stmts i line id before new all these counts ends number found so_far =
      let none : drop i stmts ≡ [] = ap (λ (k : ℕ). drop k stmts) (sym ends) ∙ drop_all stmts in
      let last : line ≡ length one.stmts = counts ∙ sym ends ∙ ap (λ (l : List Stmt). length l) these in
      found ∙ ap (λ (s : List Site). before ++ s) (end_told line id last number)
      ∙ ap (λ (l : List Stmt). before ++ of_lines items tree body block line l) (sym none) ∙ so_far

-- the blocks of a body, one after the other
module _ (items : ItemTable) (tree : BodyTree) (body : ℕ) where
  onward : (k : ℕ) (one : Block) (rest : List Block) → of_blocks items tree body k (one ∷ rest) ≡ of_lines items tree body k 0 one.stmts ++ of_blocks items tree body (k + 1) rest
  onward k one rest =
      let next : suc k ≡ k + 1 = omega arith in
      ap (λ (n : ℕ). of_lines items tree body k 0 one.stmts ++ of_blocks items tree body n rest) next

  pub block_more : (blocks : List Block) (i block next : ℕ) (d : Block) (before new all : List Site) → block ≡ i → next ≡ block + 1 → i < length blocks → d ≡ get_or blocks i d → new ≡ before ++ of_lines items tree body block 0 d.stmts → before ++ of_blocks items tree body block (drop i blocks) ≡ all → new ++ of_blocks items tree body next (drop (i + 1) blocks) ≡ all
  block_more blocks i block next d before new all counts on less is found so_far =
      ap (λ (k : ℕ). new ++ of_blocks items tree body k (drop (i + 1) blocks)) (on ∙ ap (λ (k : ℕ). k + 1) counts)
      ∙ numbered_more (λ (k : ℕ) (l : List Block). of_blocks items tree body k l) (λ (k : ℕ) (one : Block). of_lines items tree body k 0 one.stmts) blocks i d before new all onward less is
      (found ∙ ap (λ (k : ℕ). before ++ of_lines items tree body k 0 d.stmts) counts)
      (ap (λ (k : ℕ). before ++ of_blocks items tree body k (drop i blocks)) (sym counts) ∙ so_far)

-- a block is found where it stands
pub block_at : (blocks own : List Block) (i block : ℕ) (d : Block) → blocks ≡ own → block ≡ i → i < length blocks → d ≡ get_or blocks i d → slice_get own block ≡ Some d
block_at blocks own i block d these counts less is =
    ap (λ (k : ℕ). slice_get own k) counts ∙ ap (λ (l : List Block). slice_get l i) (sym these)
    ∙ slice_get-get_or blocks i d less ∙ ap (λ (one : Block). Some one) (sym is)
