-- A graph that tells the numbers of its lines has no fault where the graph has none, and the numbers are those of an
-- `i32`.
use Rattle.std.proofs.Common.{◌≡◌, ◌≤◌, ◌+◌, ◌-◌, ℕ, zero, suc, Bool, true, false, not, ◌&&◌, ◌||◌, List, [], ◌∷◌, ◌++◌, zip, length, refl, ap, sym, subst, ◌∙◌, arith}
use Rattle.std.proofs.lemmas.Bool.{false≢true, le-leb}
use Rattle.std.specs.List.{list_all, list_any}
use Rattle.std.specs.Option.{option_map_or}
use Rattle.std.specs.Prelude.{slice_get, nat_lt}
use Rattle.mir_base.specs.declared.int_kind.IntKind.{IntKind}
use Rattle.mir_ty.specs.declared.def.Sig.{Sig}
use Rattle.mir_ty.specs.ItemTable.{ItemTable}
use Rattle.store_model.specs.Concrete.Effects.{fits}
use Rattle.cfg_graph.specs.declared.graph.Block.{Block}
use Rattle.cfg_graph.specs.declared.graph.Body.{Body}
use Rattle.cfg_graph.specs.declared.graph.Graph.{Graph}
use Rattle.cfg_graph.specs.declared.graph.GraphFault.{GraphFault}
use Rattle.cfg_graph.specs.declared.statement.Stmt.{Stmt}
use Rattle.cfg_graph.specs.declared.terminator.Term.{Term}
use Rattle.cfg_graph.specs.Edges.{lowers, onward, targets, unwind_targets, is_cleanup}
use Rattle.cfg_graph.specs.Uses.{places_of_term}
use Rattle.cfg_graph.specs.WellFormed.Broken.{broken}
use Rattle.cfg_graph.specs.WellFormed.Cleanup.{edges_lower, are_cleanup, are_no_cleanup, cleans_up, is_resume, keeps_cleanup}
use Rattle.cfg_graph.specs.WellFormed.Faults.{nowhere, at_line, of_each, is_main, main_faults, end_faults, IsWellFormed}
use Rattle.cfg_graph.specs.WellFormed.ItemFaults.{adt_faults, trait_faults, impl_faults, closure_faults}
use Rattle.cfg_graph.specs.WellFormed.LineFaults.{has_own_name, has_sig, local_faults, locals_exist, stmt_faults, term_faults, term_numbers_exist, body_faults}
use Rattle.cfg_graph.specs.WellFormed.Typing.{term_is_typed}
use Rattle.cfg_graph.proofs.NoFaults.{first_empty, second_empty, map_empty}
use Rattle.look_marked.specs.Marked.{mark, prints, told_number, marked_stmts, marked_block, behind_block, marked_blocks, behind_blocks, marked_body, marked_bodies, behind_bodies, marked}

-- ---- lists

both_empty : {X : Type 0} → (xs ys : List X) → xs ≡ [] → ys ≡ [] → xs ++ ys ≡ []
both_empty xs ys e f = ap (λ (l : List _). l ++ ys) e ∙ f

blocks_counted : (n : ℕ) (blocks : List Block) → length (marked_blocks n blocks) ≡ length blocks
blocks_counted n [] = refl
blocks_counted n (block ∷ blocks) = ap suc (blocks_counted (behind_block n block) blocks)

bodies_counted : (n : ℕ) (bodies : List Body) → length (marked_bodies n bodies) ≡ length bodies
bodies_counted n [] = refl
bodies_counted n (body ∷ bodies) = ap suc (bodies_counted (behind_blocks n body.blocks) bodies)

-- what does not look at the statements of a block is the same of the block that is marked
at_marked : (f : Block → Bool) → ((m : ℕ) (block : Block) → f (marked_block m block) ≡ f block) → (n : ℕ) (blocks : List Block) (k : ℕ) →
    option_map_or f (slice_get (marked_blocks n blocks) k) true ≡ option_map_or f (slice_get blocks k) true
at_marked f same n [] k = refl
at_marked f same n (block ∷ blocks) zero = same n block
at_marked f same n (block ∷ blocks) (suc k) = at_marked f same (behind_block n block) blocks k

all_same : (f g : ℕ → Bool) → ((n : ℕ) → f n ≡ g n) → (ns : List ℕ) → list_all f ns ≡ list_all g ns
all_same f g same [] = refl
all_same f g same (n ∷ ns) = (λ i. same n i && all_same f g same ns i)

-- ---- numbers

both : (a b : Bool) → a ≡ true → b ≡ true → (a && b) ≡ true
both true b h k = k
both false b h k = absurd (false≢true h)

fits_mark : (b : Bool) (n : ℕ) → n ≤ 2147483647 → fits IntKind.I32 (told_number b n) ≡ true
fits_mark false n l = le-leb n 2147483647 l
fits_mark true zero l = le-leb 0 2147483647 l
fits_mark true (suc n) l = both _ _ (le-leb n 2147483647 (let k : n ≤ 2147483647 = omega (l, arith) in k)) refl

blocks_up : (n : ℕ) (blocks : List Block) → n ≤ behind_blocks n blocks
blocks_up n [] = let k : n ≤ n = omega arith in k
blocks_up n (block ∷ blocks) =
    let up = blocks_up (behind_block n block) blocks in
    let k : n ≤ behind_blocks (behind_block n block) blocks = omega (up, arith) in k

bodies_up : (n : ℕ) (bodies : List Body) → n ≤ behind_bodies n bodies
bodies_up n [] = let k : n ≤ n = omega arith in k
bodies_up n (body ∷ bodies) =
    let up = bodies_up (behind_blocks n body.blocks) bodies in
    let own = blocks_up n body.blocks in
    let k : n ≤ behind_bodies (behind_blocks n body.blocks) bodies = omega (up, own, arith) in k

-- ---- the faults of a body, by the items and by how many bodies there are

module _ (items : ItemTable) (k number : ℕ) (body : Body) where
  abbrev line_in : ℕ → ℕ → Stmt → List GraphFault
  line_in n line stmt = at_line number n line (stmt_faults items k body stmt)

  no_fault_of_mark : (b : Bool) (n : ℕ) → n ≤ 2147483647 → stmt_faults items k body (mark b n) ≡ []
  no_fault_of_mark b n l = by (fits IntKind.I32 (told_number b n)) (fits_mark b n l)
    where
      by : (x : Bool) → x ≡ true → broken ((1, true) ∷ (2, true) ∷ (3, (x && true) && true) ∷ (6, true) ∷ []) ≡ []
      by true e = refl
      by false e = absurd (false≢true e)

  moved_line : (n line to : ℕ) (stmt : Stmt) → line_in n line stmt ≡ [] → line_in n to stmt ≡ []
  moved_line n line to stmt e =
      ap (at_line number n to) (map_empty (λ (m : ℕ). record { number = m; body = number; block = n; line = line }) (stmt_faults items k body stmt) e)

  marked_line : (n line : ℕ) (b : Bool) (m : ℕ) → m ≤ 2147483647 → line_in n line (mark b m) ≡ []
  marked_line n line b m l = ap (at_line number n line) (no_fault_of_mark b m l)

  clean_lines : (n from to first : ℕ) (stmts : List Stmt) → first + length stmts ≤ 2147483647 → of_each (line_in n) from stmts ≡ [] →
      of_each (line_in n) to (marked_stmts first stmts ++ mark false (first + length stmts) ∷ []) ≡ []
  clean_lines n from to first [] l h = ap (λ (f : List GraphFault). f ++ []) (marked_line n to false (first + 0) l)
  clean_lines n from to first (stmt ∷ stmts) l h =
      both_empty (line_in n to (mark (prints stmt) first)) _ (marked_line n to (prints stmt) first (omega (l, arith)))
      (both_empty (line_in n (suc to) stmt) _ (moved_line n from (suc to) stmt (first_empty (line_in n from stmt) _ h))
      (subst (λ m. of_each (line_in n) (suc (suc to)) (marked_stmts (suc first) stmts ++ mark false m ∷ []) ≡ []) same
      (clean_lines n (suc from) (suc (suc to)) (suc first) stmts (omega (l, arith)) (second_empty (line_in n from stmt) _ h))))
    where
      same : suc first + length stmts ≡ first + suc (length stmts)
      same = omega arith

-- the terminator of a marked block in a marked body has the faults that it has
module _ (items : ItemTable) (k m : ℕ) (body : Body) where
  clean : (ns : List ℕ) → are_cleanup (marked_body m body) ns ≡ are_cleanup body ns
  clean ns = all_same _ _ (λ n. at_marked is_cleanup (λ j b. refl) m body.blocks n) ns

  no_clean : (ns : List ℕ) → are_no_cleanup (marked_body m body) ns ≡ are_no_cleanup body ns
  no_clean ns = all_same _ _ (λ n. at_marked (λ block. not (is_cleanup block)) (λ j b. refl) m body.blocks n) ns

  keeps : (b : Bool) (term : Term) → keeps_cleanup b (marked_body m body) term ≡ keeps_cleanup b body term
  keeps true term = ap (λ (x : Bool). cleans_up term && x) (clean (targets term))
  keeps false term = λ i. not (is_resume term) && no_clean (onward term) i && clean (unwind_targets term) i

  edges : (j : ℕ) (block : Block) → edges_lower (marked_body m body) (marked_block j block) ≡ edges_lower body block
  edges j block = all_same _ _ (λ n. at_marked (lowers block) (λ j b. refl) m body.blocks n) (targets block.term)

  term_same : (j : ℕ) (block : Block) → term_faults items k (marked_body m body) (marked_block j block) ≡ term_faults items k body block
  term_same j block = λ i. broken
      ((1, term_numbers_exist items k block.term && list_all (λ n. nat_lt n (blocks_counted m body.blocks i)) (targets block.term))
      ∷ (2, list_all (locals_exist items k body) (places_of_term block.term))
      ∷ (3, term_is_typed items body.locals block.term)
      ∷ (4, edges j block i)
      ∷ (5, keeps (is_cleanup block) block.term i)
      ∷ [])

  own_same : (number : ℕ) → body_faults items k number (marked_body m body) ≡ body_faults items k number body
  own_same number = λ i. broken
      ((1, nat_lt 0 (blocks_counted m body.blocks i))
      ∷ (2, nat_lt body.params (length body.locals))
      ∷ (3, has_sig items k body (slice_get items.bodies number))
      ∷ (7, option_map_or (has_own_name items k number) (slice_get items.bodies number) true)
      ∷ [])

abbrev block_in : ItemTable → ℕ → ℕ → Body → ℕ → Block → List GraphFault
block_in items k number body n block =
    of_each (λ line stmt. at_line number n line (stmt_faults items k body stmt)) 0 block.stmts
    ++ at_line number n (length block.stmts) (term_faults items k body block)

abbrev body_in : ItemTable → ℕ → ℕ → Body → List GraphFault
body_in items k number body =
    at_line number nowhere nowhere (body_faults items k number body)
    ++ (of_each (λ n id. at_line number nowhere n (local_faults items k id)) 0 body.locals
    ++ of_each (block_in items k number body) 0 body.blocks)

abbrev items_in : ItemTable → ℕ → List GraphFault
items_in items k =
    of_each (λ n item. at_line nowhere nowhere (0 + n) (adt_faults items k n item)) 0 items.adts
    ++ (of_each (λ n item. at_line nowhere nowhere (length items.adts + n) (trait_faults items k n item)) 0 items.traits
    ++ (of_each (λ n item. at_line nowhere nowhere (length items.adts + length items.traits + n) (impl_faults items k n item)) 0 items.impls
    ++ of_each (λ n item. at_line nowhere nowhere (length items.adts + length items.traits + length items.impls + n) (closure_faults items k n item)) 0 items.closures))

module _ (items : ItemTable) (k number : ℕ) (body : Body) where
  clean_block : (m j n : ℕ) (block : Block) → j + length block.stmts ≤ 2147483647 → block_in items k number body n block ≡ [] →
      block_in items k number (marked_body m body) n (marked_block j block) ≡ []
  clean_block m j n block l h =
      both_empty _ _
      (clean_lines items k number body n 0 0 j block.stmts l (first_empty _ (at_line number n (length block.stmts) (term_faults items k body block)) h))
      (ap (at_line number n (length (marked_block j block).stmts))
      (term_same items k m body j block
      ∙ map_empty (λ (f : ℕ). record { number = f; body = number; block = n; line = length block.stmts }) (term_faults items k body block)
      (second_empty (of_each (λ line stmt. at_line number n line (stmt_faults items k body stmt)) 0 block.stmts) _ h)))

  clean_blocks : (m j n : ℕ) (blocks : List Block) → behind_blocks j blocks ≤ 2147483648 → of_each (block_in items k number body) n blocks ≡ [] →
      of_each (block_in items k number (marked_body m body)) n (marked_blocks j blocks) ≡ []
  clean_blocks m j n [] l h = refl
  clean_blocks m j n (block ∷ blocks) l h =
      both_empty _ _
      (clean_block m j n block (let up = blocks_up (behind_block j block) blocks in omega (up, l, arith)) (first_empty (block_in items k number body n block) _ h))
      (clean_blocks m (behind_block j block) (suc n) blocks l (second_empty (block_in items k number body n block) _ h))

clean_body : (items : ItemTable) (k number m : ℕ) (body : Body) → behind_blocks m body.blocks ≤ 2147483648 → body_in items k number body ≡ [] →
    body_in items k number (marked_body m body) ≡ []
clean_body items k number m body l h =
    let own = at_line number nowhere nowhere (body_faults items k number body) in
    let locals = of_each (λ n id. at_line number nowhere n (local_faults items k id)) 0 body.locals in
    let rest = second_empty own (locals ++ of_each (block_in items k number body) 0 body.blocks) h in
    both_empty _ _ (ap (at_line number nowhere nowhere) (own_same items k m body number) ∙ first_empty own _ h)
    (both_empty _ _ (first_empty locals _ rest) (clean_blocks items k number body m m 0 body.blocks l (second_empty locals _ rest)))

clean_bodies : (items : ItemTable) (k number m : ℕ) (bodies : List Body) → behind_bodies m bodies ≤ 2147483648 → of_each (body_in items k) number bodies ≡ [] →
    of_each (body_in items k) number (marked_bodies m bodies) ≡ []
clean_bodies items k number m [] l h = refl
clean_bodies items k number m (body ∷ bodies) l h =
    both_empty _ _
    (clean_body items k number m body (let up = bodies_up (behind_blocks m body.blocks) bodies in omega (up, l, arith)) (first_empty (body_in items k number body) _ h))
    (clean_bodies items k (suc number) (behind_blocks m body.blocks) bodies l (second_empty (body_in items k number body) _ h))

mains_same : (graph : Graph) (sigs : List Sig) (m : ℕ) (bodies : List Body) →
    list_any (is_main graph) (zip sigs (marked_bodies m bodies)) ≡ list_any (is_main graph) (zip sigs bodies)
mains_same graph [] m bodies = refl
mains_same graph (sig ∷ sigs) m [] = refl
mains_same graph (sig ∷ sigs) m (body ∷ bodies) =
    ap (λ (b : Bool). is_main graph (sig, body) || b) (mains_same graph sigs (behind_blocks m body.blocks) bodies)

pub marked_well_formed : (graph : Graph) → behind_bodies 1 graph.bodies ≤ 2147483648 → IsWellFormed graph → IsWellFormed (marked graph)
marked_well_formed graph l h =
    let items = graph.items in
    let k = length graph.bodies in
    let rest = second_empty (items_in items k) (of_each (body_in items k) 0 graph.bodies ++ end_faults graph) h in
    subst (λ (n : ℕ). items_in items n ++ (of_each (body_in items n) 0 (marked_bodies 1 graph.bodies) ++ end_faults (marked graph)) ≡ [])
    (sym (bodies_counted 1 graph.bodies))
    (both_empty (items_in items k) _ (first_empty (items_in items k) _ h)
    (both_empty _ _ (clean_bodies items k 0 1 graph.bodies l (first_empty (of_each (body_in items k) 0 graph.bodies) (end_faults graph) rest))
    (ap (main_faults graph) (mains_same graph items.bodies 1 graph.bodies) ∙ second_empty (of_each (body_in items k) 0 graph.bodies) (end_faults graph) rest)))
