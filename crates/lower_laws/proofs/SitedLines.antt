-- Each site of a line has the position that the line has by its node.
use Rattle.std.proofs.Common.{◌≡◌, ◌∙◌, ◌+◌, ◌==◌, ◌&&◌, ℕ, suc, Bool, true, false, List, [], ◌∷◌, Option, Some, None, slice_get, refl, sym, ap, subst, arith}
use Rattle.std.specs.Prelude.{All}
use Rattle.std.proofs.lemmas.Bool.{false≢true, eqb-true}
use Rattle.std.proofs.lemmas.List.Elements.{All-nil, All-cons, All-append}
use Rattle.std.proofs.lemmas.Option.{same_Some}
use Rattle.cfg_graph.specs.declared.graph.Block.{Block}
use Rattle.cfg_graph.specs.declared.statement.Stmt.{Stmt}
use Rattle.mir_ty.specs.ItemTable.{ItemTable}
use Rattle.typed_tree.specs.Tree.{BodyTree, ProgramTree}
use Rattle.lower_rules.specs.Listed.{placed, at_line, of_lines, of_blocks, body_sites, of_bodies, program_sites}
use Rattle.lower_rules.specs.Lower.{body_of}
use Rattle.lower_rules.specs.Sites.{UseSite, site_at}
use Rattle.lower_rules.specs.declared.site.Site.{Site}
use Rattle.lower_laws.specs.Told.{LineOfBody, stands_at}

-- ---- what holds of the sites of each line holds of all
module _ (P : Site → Type 0) (items : ItemTable) (tree : BodyTree) (n : ℕ) (each : (block line : ℕ) → All P (at_line items tree n block line)) where
  in_lines : (block line : ℕ) (stmts : List Stmt) → All P (of_lines items tree n block line stmts)
  in_lines block line [] = each block line
  in_lines block line (stmt ∷ stmts) =
      All-append P (at_line items tree n block line) (of_lines items tree n block (suc line) stmts) (each block line) (in_lines block (suc line) stmts)

  in_blocks : (block : ℕ) (blocks : List Block) → All P (of_blocks items tree n block blocks)
  in_blocks block [] = All-nil P
  in_blocks block (one ∷ blocks) =
      All-append P (of_lines items tree n block 0 one.stmts) (of_blocks items tree n (suc block) blocks) (in_lines block 0 one.stmts) (in_blocks (suc block) blocks)

one_on : (i n : ℕ) → suc i + n ≡ i + suc n
one_on i n = omega arith

in_bodies : (P : Site → Type 0) (items : ItemTable) (n : ℕ) (trees : List BodyTree) →
    ((i : ℕ) (tree : BodyTree) → slice_get trees i ≡ Some tree → (block line : ℕ) → All P (at_line items tree (i + n) block line)) →
    All P (of_bodies items n trees)
in_bodies P items n [] each = All-nil P
in_bodies P items n (tree ∷ trees) each =
    All-append P (body_sites items tree n) (of_bodies items (suc n) trees)
    (in_blocks P items tree n (λ block line. subst (λ k. All P (at_line items tree k block line)) (none_on n) (each 0 tree refl block line)) 0 (body_of items tree).blocks)
    (in_bodies P items (suc n) trees (λ i other e block line. subst (λ k. All P (at_line items other k block line)) (one_on i n) (each (suc i) other e block line)))
  where
    none_on : (n : ℕ) → 0 + n ≡ n
    none_on n = omega arith

-- ---- the sites of one line
both_true : (a b : Bool) → a && b ≡ true → (a ≡ true) × (b ≡ true)
both_true true b h = (refl, h)
both_true false b h = absurd (false≢true h)

module _ (program : ProgramTree) (n : ℕ) (tree : BodyTree) (there : slice_get program.bodies n ≡ Some tree) (at : LineOfBody) (found : UseSite)
    (has : site_at program.items tree at.block at.line ≡ Some found)
  where
    abbrev IsAt : Site → Type 0
    IsAt site = stands_at n at site ≡ true → site.at ≡ found.at

    at_line_of : (i : ℕ) (other : BodyTree) → slice_get program.bodies i ≡ Some other → (block line : ℕ) (o : Option UseSite) →
        site_at program.items other block line ≡ o → All IsAt (placed i block line o)
    at_line_of i other e block line None h = All-nil IsAt
    at_line_of i other e block line (Some one) h =
        All-cons IsAt (record { body = i; block = block; line = line; at = one.at; by = one.by; name = one.name }) [] is_at (All-nil IsAt)
      where
        is_at : (i == n) && ((block == at.block) && (line == at.line)) ≡ true → one.at ≡ found.at
        is_at stands =
            let first = both_true (i == n) ((block == at.block) && (line == at.line)) stands in
            let second = both_true (block == at.block) (line == at.line) first.1 in
            let same_body : i ≡ n = eqb-true i n first.0 in
            let same_tree : other ≡ tree = same_Some other tree (sym e ∙ ap (slice_get program.bodies) same_body ∙ there) in
            let same_site : Some one ≡ Some found =
            sym h ∙ ap (λ t. site_at program.items t block line) same_tree
            ∙ (λ j. site_at program.items tree (eqb-true block at.block second.0 j) (eqb-true line at.line second.1 j)) ∙ has in
            ap (λ s. s.at) (same_Some one found same_site)

    pub all_at : All IsAt (program_sites program)
    all_at =
        in_bodies IsAt program.items 0 program.bodies (λ i other e block line.
        at_line_of (i + 0) other (subst (λ k. slice_get program.bodies k ≡ Some other) (with_none i) e) block line (site_at program.items other block line) refl)
      where
        with_none : (i : ℕ) → i ≡ i + 0
        with_none i = omega arith
