-- Lines that are counted one thing after the other.
use Rattle.std.proofs.Common.{◌≡◌, ℕ, zero, suc, ◌+◌, ◌-◌, ◌^◌, ◌<◌, ◌≤◌, List, [], ◌∷◌, take, length, get_or, ap, sym, ◌∙◌, arith, add-one}
use Rattle.cfg_graph.specs.declared.graph.Block.{Block}
use Rattle.cfg_graph.specs.declared.graph.Body.{Body}
use Rattle.cfg_graph.specs.declared.graph.Graph.{Graph}
use Rattle.cfg_graph.specs.WellFormed.Faults.{IsCounted, IsCountedBody}
use Rattle.listing_write.specs.Listing.{IsShortGraph}
use Rattle.listing_write.proofs.Reading.Basics.{Every}
use Rattle.mir_text.specs.Answers.{blocks_lines, body_lines, bodies_lines, lines_count}
use Rattle.mir_text.proofs.Told.{all_from_every}

next_block : (blocks : List Block) (i : ℕ) (x : Block) → i < length blocks → blocks_lines (take (suc i) blocks) ≡ blocks_lines (take i blocks) + 2 + length (get_or blocks i x).stmts
next_block [] i x h = absurd (omega arith)
next_block (b ∷ bs) zero x h = omega arith
next_block (b ∷ bs) (suc i) x h = let deeper = next_block bs i x (omega (arith, h)) in omega (arith, deeper)

pub one_block : (blocks : List Block) (i : ℕ) (x : Block) → i < length blocks → x ≡ get_or blocks i x → blocks_lines (take (i + 1) blocks) ≡ blocks_lines (take i blocks) + 2 + length x.stmts
one_block blocks i x h is =
    ap (λ (n : ℕ). blocks_lines (take n blocks)) (add-one i) ∙ next_block blocks i x h ∙ ap (λ (b : Block). blocks_lines (take i blocks) + 2 + length b.stmts) (sym is)

next_body : (bodies : List Body) (i : ℕ) (x : Body) → i < length bodies → bodies_lines (take (suc i) bodies) ≡ bodies_lines (take i bodies) + body_lines (get_or bodies i x)
next_body [] i x h = absurd (omega arith)
next_body (b ∷ bs) zero x h = omega arith
next_body (b ∷ bs) (suc i) x h = let deeper = next_body bs i x (omega (arith, h)) in omega (arith, deeper)

pub one_body : (bodies : List Body) (i : ℕ) (x : Body) → i < length bodies → x ≡ get_or bodies i x → bodies_lines (take (i + 1) bodies) ≡ bodies_lines (take i bodies) + body_lines x
one_body bodies i x h is =
    ap (λ (n : ℕ). bodies_lines (take n bodies)) (add-one i) ∙ next_body bodies i x h ∙ ap (λ (b : Body). bodies_lines (take i bodies) + body_lines b) (sym is)

-- a graph of few lines has few of all that has a line
blocks_few : (blocks : List Block) → length blocks ≤ blocks_lines blocks
blocks_few [] = omega arith
blocks_few (b ∷ bs) = let deeper = blocks_few bs in omega (arith, deeper)

stmts_few : (blocks : List Block) → blocks_lines blocks < 2 ^ 32 - 1 → Every (λ block. length block.stmts < 2 ^ 32 - 1) blocks
stmts_few [] h = tt
stmts_few (b ∷ bs) h = (omega (arith, h), stmts_few bs (omega (arith, h)))

counted_body : (body : Body) → body_lines body < 2 ^ 32 - 1 → IsCountedBody body
counted_body body h =
    let few = blocks_few body.blocks in
    record {
      locals = omega (arith, h);
      blocks = omega (arith, h, few);
      stmts = all_from_every (λ (block : Block). length block.stmts < 2 ^ 32 - 1) body.blocks (stmts_few body.blocks (omega (arith, h)));
    }

bodies_few : (bodies : List Body) → length bodies ≤ bodies_lines bodies
bodies_few [] = omega arith
bodies_few (b ∷ bs) = let deeper = bodies_few bs in omega (arith, deeper)

counted_each : (bodies : List Body) → bodies_lines bodies < 2 ^ 32 - 1 → Every IsCountedBody bodies
counted_each [] h = tt
counted_each (b ∷ bs) h = (counted_body b (omega (arith, h)), counted_each bs (omega (arith, h)))

pub counted : (graph : Graph) → lines_count graph < 2 ^ 32 - 1 → IsCounted graph
counted graph h =
    let few = bodies_few graph.bodies in
    record {
      bodies = omega (arith, h, few);
      each = all_from_every IsCountedBody graph.bodies (counted_each graph.bodies (omega (arith, h)));
    }

pub short : (graph : Graph) → IsCounted graph → IsShortGraph graph
short graph c = record { bodies = c.bodies; each = λ k d less. let own = c.each k d less in record { locals = own.locals; blocks = own.blocks } }
