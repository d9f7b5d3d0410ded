-- A line with a site has it among the sites of its program.
use Rattle.std.proofs.Common.{◌≡◌, ◌∙◌, ◌+◌, ◌≤◌, ◌==◌, ◌&&◌, ◌||◌, ℕ, zero, suc, Bool, true, false, List, [], ◌∷◌, ◌++◌, length, Some, slice_get, refl, sym, ap, subst, arith}
use Rattle.std.specs.List.{list_any}
use Rattle.std.proofs.lemmas.Bool.{eq-eqb}
use Rattle.std.proofs.lemmas.List.Folds.{list_any-append}
use Rattle.std.proofs.lemmas.Option.{none-some, same_Some}
use Rattle.lower_rules.specs.Lower.{body_of}
use Rattle.lower_rules.specs.Sites.{UseSite, site_at}
use Rattle.cfg_graph.specs.declared.graph.Block.{Block}
use Rattle.cfg_graph.specs.declared.statement.Stmt.{Stmt}
use Rattle.mir_ty.specs.ItemTable.{ItemTable}
use Rattle.typed_tree.specs.Tree.{BodyTree, ProgramTree}
use Rattle.lower_rules.specs.Listed.{placed, at_line, of_lines, of_blocks, body_sites, of_bodies}
use Rattle.lower_rules.specs.declared.site.Site.{Site}
use Rattle.lower_laws.specs.Told.{LineOfBody, stands_at, has_site}

any_left : (p : Site → Bool) (xs ys : List Site) → list_any p xs ≡ true → list_any p (xs ++ ys) ≡ true
any_left p xs ys h = list_any-append p xs ys ∙ ap (λ b. b || list_any p ys) h

or_true : (b : Bool) → b || true ≡ true
or_true true = refl
or_true false = refl

any_right : (p : Site → Bool) (xs ys : List Site) → list_any p ys ≡ true → list_any p (xs ++ ys) ≡ true
any_right p xs ys h = list_any-append p xs ys ∙ ap (λ b. list_any p xs || b) h ∙ or_true (list_any p xs)

itself : (k : ℕ) → (k == k) ≡ true
itself k = eq-eqb k k refl

-- so many on from a start: none, or one more
none_on : (k start : ℕ) → k ≡ 0 + start → k ≡ start
none_on k start e = omega (arith, e)

one_on : (k i start : ℕ) → k ≡ suc i + start → k ≡ i + suc start
one_on k i start e = omega (arith, e)

all_three : (a b c : Bool) → a ≡ true → b ≡ true → c ≡ true → (a && (b && c)) || false ≡ true
all_three a b c x y z = λ i. (x i && (y i && z i)) || false

module _ (items : ItemTable) (tree : BodyTree) (n : ℕ) where
  placed_there : (block line : ℕ) (site : UseSite) →
      list_any (stands_at n (record { block = block; line = line })) (placed n block line (Some site)) ≡ true
  placed_there block line site = all_three (n == n) (block == block) (line == line) (itself n) (itself block) (itself line)

  at_its_line : (block line : ℕ) (site : UseSite) → site_at items tree block line ≡ Some site →
      list_any (stands_at n (record { block = block; line = line })) (at_line items tree n block line) ≡ true
  at_its_line block line site e =
      ap (λ o. list_any (stands_at n (record { block = block; line = line })) (placed n block line o)) e
      ∙ placed_there block line site

  in_lines : (p : Site → Bool) (block start i k : ℕ) (stmts : List Stmt) → k ≡ i + start → i ≤ length stmts →
      list_any p (at_line items tree n block k) ≡ true → list_any p (of_lines items tree n block start stmts) ≡ true
  in_lines p block start zero k [] e within h = subst (λ m. list_any p (at_line items tree n block m) ≡ true) (none_on k start e) h
  in_lines p block start zero k (stmt ∷ stmts) e within h =
      any_left p (at_line items tree n block start) (of_lines items tree n block (suc start) stmts)
      (subst (λ m. list_any p (at_line items tree n block m) ≡ true) (none_on k start e) h)
  in_lines p block start (suc i) k [] e within h = absurd (omega (arith, within))
  in_lines p block start (suc i) k (stmt ∷ stmts) e within h =
      any_right p (at_line items tree n block start) (of_lines items tree n block (suc start) stmts)
      (in_lines p block (suc start) i k stmts (one_on k i start e) (omega (arith, within)) h)

  in_blocks : (p : Site → Bool) (start i k : ℕ) (blocks : List Block) (block : Block) → k ≡ i + start → slice_get blocks i ≡ Some block →
      list_any p (of_lines items tree n k 0 block.stmts) ≡ true → list_any p (of_blocks items tree n start blocks) ≡ true
  in_blocks p start i k [] block e there h = absurd (none-some block there)
  in_blocks p start zero k (one ∷ blocks) block e there h =
      any_left p (of_lines items tree n start 0 one.stmts) (of_blocks items tree n (suc start) blocks)
      (subst (λ m. list_any p (of_lines items tree n m 0 one.stmts) ≡ true) (none_on k start e)
      (subst (λ x. list_any p (of_lines items tree n k 0 x.stmts) ≡ true) (sym (same_Some one block there)) h))
  in_blocks p start (suc i) k (one ∷ blocks) block e there h =
      any_right p (of_lines items tree n start 0 one.stmts) (of_blocks items tree n (suc start) blocks)
      (in_blocks p (suc start) i k blocks block (one_on k i start e) there h)

in_bodies : (items : ItemTable) (p : Site → Bool) (start i k : ℕ) (trees : List BodyTree) (tree : BodyTree) → k ≡ i + start →
    slice_get trees i ≡ Some tree → list_any p (body_sites items tree k) ≡ true → list_any p (of_bodies items start trees) ≡ true
in_bodies items p start i k [] tree e there h = absurd (none-some tree there)
in_bodies items p start zero k (one ∷ trees) tree e there h =
    any_left p (body_sites items one start) (of_bodies items (suc start) trees)
    (subst (λ m. list_any p (body_sites items one m) ≡ true) (none_on k start e)
    (subst (λ x. list_any p (body_sites items x k) ≡ true) (sym (same_Some one tree there)) h))
in_bodies items p start (suc i) k (one ∷ trees) tree e there h =
    any_right p (body_sites items one start) (of_bodies items (suc start) trees)
    (in_bodies items p (suc start) i k trees tree (one_on k i start e) there h)

from_start : (n : ℕ) → n ≡ n + 0
from_start n = omega arith

pub is_listed : (program : ProgramTree) (n : ℕ) (tree : BodyTree) → slice_get program.bodies n ≡ Some tree → (at : LineOfBody) (block : Block) →
    slice_get (body_of program.items tree).blocks at.block ≡ Some block → at.line ≤ length block.stmts → (site : UseSite) →
    site_at program.items tree at.block at.line ≡ Some site → has_site program n at ≡ true
is_listed program n tree there at block at_block within site e =
    let items = program.items in
    let p = stands_at n at in
    in_bodies items p 0 n n program.bodies tree (from_start n) there
    (in_blocks items tree n p 0 at.block at.block (body_of items tree).blocks block (from_start at.block) at_block
    (in_lines items tree n p at.block 0 at.line at.line block.stmts (from_start at.line) within
    (at_its_line items tree n at.block at.line site e)))
