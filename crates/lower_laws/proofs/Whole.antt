-- The laws: each kind of fault by itself, and all of them together.
use Rattle.std.proofs.Common.{◌≡◌, ℕ, zero, suc, ◌+◌, List, [], ◌∷◌, ◌++◌, length, map, slice_get, Some, refl, sym, ap, subst, arith}
use Rattle.std.proofs.lemmas.Option.{none-some, same_Some}
use Rattle.cfg_graph.specs.declared.graph.Block.{Block}
use Rattle.cfg_graph.specs.declared.graph.Body.{Body}
use Rattle.cfg_graph.specs.declared.graph.Graph.{Graph}
use Rattle.cfg_graph.specs.declared.graph.GraphFault.{GraphFault}
use Rattle.cfg_graph.specs.WellFormed.Faults.{at_line, nowhere, item_faults, own_faults, locals_faults, stmts_faults, block_faults, faults_of_body, end_faults}
use Rattle.cfg_graph.specs.WellFormed.LineFaults.{body_faults, local_faults, stmt_faults, term_faults}
use Rattle.typed_tree.specs.Tree.{BodyTree, ProgramTree}
use Rattle.well_typed.specs.Program.{WellTyped}
use Rattle.well_typed.proofs.ClaimLemmas.{so_where_holds, holds_where_so}
use Rattle.lower_rules.specs.Lower.{body_of, graph_of}
use Rattle.lower_laws.specs.Lines.{LocalsHaveNoFault, LinesHaveNoFault}
use Rattle.lower_laws.specs.Laws.{TestTells, ItemsHaveNoFault, HeadsHaveNoFault, NoLocalHasAFault, NoLineHasAFault, MainIsThere, GraphsAreWellFormed}
use Rattle.lower_laws.specs.Lowerable.{IsLowerable, lowerable}
use Rattle.lower_laws.proofs.Bodies as of_bodies
use Rattle.lower_laws.proofs.Items as of_items
use Rattle.lower_laws.proofs.Items.{no_line, none_of}

length_map : {A B : Type 0} (f : A → B) (xs : List A) → length (map f xs) ≡ length xs
length_map f [] = refl
length_map f (x ∷ xs) = ap suc (length_map f xs)

from_mapped : {X Y : Type 0} (f : X → Y) (xs : List X) (n : ℕ) (y : Y) → slice_get (map f xs) n ≡ Some y → (x : X) × (slice_get xs n ≡ Some x) × (f x ≡ y)
from_mapped f [] n y e = absurd (none-some y e)
from_mapped f (x ∷ xs) zero y e = (x, refl, same_Some (f x) y e)
from_mapped f (x ∷ xs) (suc n) y e = from_mapped f xs n y e

nothing_of : (xs ys : List GraphFault) → xs ≡ [] → ys ≡ [] → xs ++ ys ≡ []
nothing_of [] ys e d = d
nothing_of (x ∷ xs) ys e d = absurd (cc)

pub test_tells : TestTells
test_tells p = (so_where_holds (lowerable p), holds_where_so (lowerable p))

-- as many bodies as the program has
as_many : (p : ProgramTree) → length p.bodies ≡ length (graph_of p).bodies
as_many p = sym (length_map (body_of p.items) p.bodies)

pub items_have_no_fault : ItemsHaveNoFault
items_have_no_fault p w low = of_items.items_clean p w low (graph_of p).bodies (sym (as_many p))

pub heads_have_no_fault : HeadsHaveNoFault
heads_have_no_fault p w low n tree e =
    no_line n nowhere nowhere _ (subst (λ (k : ℕ). body_faults p.items k n (body_of p.items tree) ≡ []) (as_many p) (of_bodies.own_clean p w low n tree e))

pub no_local_has_a_fault : NoLocalHasAFault
no_local_has_a_fault p w low n tree e = of_bodies.locals_clean p w low n tree e

pub no_line_has_a_fault : NoLineHasAFault
no_line_has_a_fault p w low n tree e = of_bodies.lines_clean p w low n tree e

pub main_is_there : MainIsThere
main_is_there p w = of_bodies.main_there p w

-- where the locals and the lines of a body have no fault
locals_none : (graph : Graph) (n : ℕ) (body : Body) → LocalsHaveNoFault graph.items (length graph.bodies) body → locals_faults graph n body ≡ []
locals_none graph n body clean =
    none_of (λ i id. at_line n nowhere i (local_faults graph.items (length graph.bodies) id)) 0 body.locals
    (λ i id e. no_line n nowhere (0 + i) (local_faults graph.items (length graph.bodies) id) (clean i id e))

block_none : (graph : Graph) (n : ℕ) (body : Body) → LinesHaveNoFault graph.items (length graph.bodies) body → (i : ℕ) (block : Block) → slice_get body.blocks i ≡ Some block → (at : ℕ) → block_faults graph n body at block ≡ []
block_none graph n body clean i block e at =
    nothing_of (stmts_faults graph n body at block) _
    (none_of (λ line stmt. at_line n at line (stmt_faults graph.items (length graph.bodies) body stmt)) 0 block.stmts
    (λ line stmt d. no_line n at (0 + line) (stmt_faults graph.items (length graph.bodies) body stmt) ((clean i block e).0 line stmt d)))
    (no_line n at (length block.stmts) (term_faults graph.items (length graph.bodies) body block) (clean i block e).1)

body_none : (p : ProgramTree) → WellTyped p → IsLowerable p → (n : ℕ) (tree : BodyTree) → slice_get p.bodies n ≡ Some tree → faults_of_body (graph_of p) n (body_of p.items tree) ≡ []
body_none p w low n tree e =
    let graph = graph_of p in
    let body = body_of p.items tree in
    nothing_of (own_faults graph n body) _ (heads_have_no_fault p w low n tree e)
    (nothing_of (locals_faults graph n body) _
    (locals_none graph n body (subst (λ (k : ℕ). LocalsHaveNoFault p.items k body) (as_many p) (no_local_has_a_fault p w low n tree e)))
    (none_of (block_faults graph n body) 0 body.blocks
    (λ i block d. block_none graph n body (subst (λ (k : ℕ). LinesHaveNoFault p.items k body) (as_many p) (no_line_has_a_fault p w low n tree e)) i block d (0 + i))))

pub graphs_are_well_formed : GraphsAreWellFormed
graphs_are_well_formed p w low =
    nothing_of (item_faults (graph_of p)) _ (items_have_no_fault p w low)
    (nothing_of _ (end_faults (graph_of p))
    (none_of (faults_of_body (graph_of p)) 0 (graph_of p).bodies (λ i body e. by_tree i body (from_mapped (body_of p.items) p.bodies i body e)))
    (main_is_there p w))
  where
    by_tree : (i : ℕ) (body : Body) → (tree : BodyTree) × (slice_get p.bodies i ≡ Some tree) × (body_of p.items tree ≡ body) → faults_of_body (graph_of p) (0 + i) body ≡ []
    by_tree i body (tree, e, same) =
        let here : i ≡ 0 + i = omega arith in
        subst (λ (k : ℕ). faults_of_body (graph_of p) k body ≡ []) here (subst (λ (b : Body). faults_of_body (graph_of p) i b ≡ []) same (body_none p w low i tree e))
