-- In a graph without a fault each body is ranked.
use Rattle.std.proofs.Common.{◌≡◌, ℕ, ◌+◌, ◌<◌, Bool, true, false, ◌||◌, nat_lt, [], ◌++◌, length, slice_get, Contains, Some, refl, subst, sym}
use Rattle.std.specs.Option.{option_map_or}
use Rattle.std.proofs.lemmas.Bool.{false≢true, ltb-true}
use Rattle.std.proofs.lemmas.List.Elements.{All-contains}
use Rattle.std.proofs.lemmas.List.Sums.{AllPass-from_list_all}
use Rattle.cfg_graph.specs.declared.graph.Block.{Block}
use Rattle.cfg_graph.specs.declared.graph.Body.{Body}
use Rattle.cfg_graph.specs.declared.graph.Graph.{Graph}
use Rattle.cfg_graph.specs.WellFormed.Cleanup.{edges_lower}
use Rattle.cfg_graph.specs.Edges.{targets, is_turn, lowers}
use Rattle.cfg_graph.specs.WellFormed.Faults.{at_line, of_each, item_faults, own_faults, locals_faults, stmts_faults, block_faults, faults_of_body, end_faults, WellFormedIsRanked}
use Rattle.cfg_graph.specs.WellFormed.LineFaults.{term_tests, term_faults}
use Rattle.cfg_graph.proofs.NoFaults.{first_empty, second_empty, map_empty, of_each-empty, broken-holds}

or_second : (turn lower : Bool) → (turn || lower) ≡ true → turn ≡ false → lower ≡ true
or_second true lower h k = absurd (false≢true (sym k))
or_second false lower h k = h

edge-lowers : (body : Body) (from to : Block) (m : ℕ) → edges_lower body from ≡ true → Contains (targets from.term) m → slice_get body.blocks m ≡ Some to
    → is_turn to ≡ false → to.rank < from.rank
edge-lowers body from to m h among e turn =
    let test : ℕ → Bool = λ n. option_map_or (lowers from) (slice_get body.blocks n) true in
    let here : test m ≡ true = All-contains (λ n. test n ≡ true) (targets from.term) m (AllPass-from_list_all test (targets from.term) h) among in
    let lower : lowers from to ≡ true = subst (λ o. option_map_or (lowers from) o true ≡ true) e here in
    ltb-true to.rank from.rank (or_second (is_turn to) (nat_lt to.rank from.rank) lower turn)

block-lowers : (graph : Graph) (number : ℕ) (body : Body) (n : ℕ) (block : Block) → block_faults graph number body n block ≡ [] → edges_lower body block ≡ true
block-lowers graph number body n block h =
    let in_line = second_empty (stmts_faults graph number body n block) (at_line number n (length block.stmts) (term_faults graph.items (length graph.bodies) body block)) h in
    let none = map_empty (λ (k : ℕ). record { number = k; body = number; block = n; line = length block.stmts }) (term_faults graph.items (length graph.bodies) body block) in_line in
    broken-holds (term_tests graph.items (length graph.bodies) body block) none 3 (4, edges_lower body block) refl

pub well_formed-ranked : WellFormedIsRanked
well_formed-ranked graph number body h found n m from to at among there turn =
    let in_bodies = first_empty (of_each (faults_of_body graph) 0 graph.bodies) (end_faults graph) (second_empty (item_faults graph) (of_each (faults_of_body graph) 0 graph.bodies ++ end_faults graph) h) in
    let of_body = of_each-empty (faults_of_body graph) 0 graph.bodies in_bodies number body found in
    let in_blocks = second_empty (locals_faults graph (0 + number) body) (of_each (block_faults graph (0 + number) body) 0 body.blocks) (second_empty (own_faults graph (0 + number) body) (locals_faults graph (0 + number) body ++ of_each (block_faults graph (0 + number) body) 0 body.blocks) of_body) in
    let of_block = of_each-empty (block_faults graph (0 + number) body) 0 body.blocks in_blocks n from at in
    edge-lowers body from to m (block-lowers graph (0 + number) body (0 + n) from of_block) among there turn
