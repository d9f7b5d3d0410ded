-- One more line, block or body that tells its numbers.
use Rattle.std.proofs.Common.{◌≡◌, ◌+◌, ℕ, suc, List, [], ◌∷◌, ◌++◌, length, refl, ap, sym, ◌∙◌, append_assoc, arith}
use Rattle.std.proofs.lemmas.List.{length-append}
use Rattle.cfg_graph.specs.declared.graph.Block.{Block}
use Rattle.cfg_graph.specs.declared.graph.Body.{Body}
use Rattle.cfg_graph.specs.declared.statement.Stmt.{Stmt}
use Rattle.look_marked.specs.Marked.{marked_stmts, marked_block, behind_block, marked_blocks, behind_blocks, marked_body, marked_bodies, behind_bodies}

stmts_more : (n : ℕ) (stmts : List Stmt) (stmt : Stmt) →
    marked_stmts n (stmts ++ stmt ∷ []) ≡ marked_stmts n stmts ++ marked_stmts (n + length stmts) (stmt ∷ [])
stmts_more n [] stmt = ap (λ k. marked_stmts k (stmt ∷ [])) (let e : n ≡ n + 0 = omega arith in e)
stmts_more n (first ∷ stmts) stmt =
    ap (λ (l : List Stmt). marked_stmts n (first ∷ []) ++ l)
    (stmts_more (suc n) stmts stmt
    ∙ ap (λ k. marked_stmts (suc n) stmts ++ marked_stmts k (stmt ∷ [])) (let e : suc n + length stmts ≡ n + suc (length stmts) = omega arith in e))

blocks_more : (n : ℕ) (blocks : List Block) (block : Block) →
    marked_blocks n (blocks ++ block ∷ []) ≡ marked_blocks n blocks ++ marked_block (behind_blocks n blocks) block ∷ []
blocks_more n [] block = refl
blocks_more n (first ∷ blocks) block = ap (λ (l : List Block). marked_block n first ∷ l) (blocks_more (behind_block n first) blocks block)

blocks_behind : (n : ℕ) (blocks : List Block) (block : Block) → behind_blocks n (blocks ++ block ∷ []) ≡ behind_block (behind_blocks n blocks) block
blocks_behind n [] block = refl
blocks_behind n (first ∷ blocks) block = blocks_behind (behind_block n first) blocks block

bodies_more : (n : ℕ) (bodies : List Body) (body : Body) →
    marked_bodies n (bodies ++ body ∷ []) ≡ marked_bodies n bodies ++ marked_body (behind_bodies n bodies) body ∷ []
bodies_more n [] body = refl
bodies_more n (first ∷ bodies) body = ap (λ (l : List Body). marked_body n first ∷ l) (bodies_more (behind_blocks n first.blocks) bodies body)

bodies_behind : (n : ℕ) (bodies : List Body) (body : Body) → behind_bodies n (bodies ++ body ∷ []) ≡ behind_blocks (behind_bodies n bodies) body.blocks
bodies_behind n [] body = refl
bodies_behind n (first ∷ bodies) body = bodies_behind (behind_blocks n first.blocks) bodies body

-- what is put behind others, and how far it is counted then
add_on : {X : Type 0} (before now after whole own all : List X) → now ≡ before ++ whole → after ≡ now ++ own → all ≡ whole ++ own → after ≡ before ++ all
add_on before now after whole own all so_far is_new is_all =
    is_new ∙ ap (λ (l : List _). l ++ own) so_far ∙ append_assoc before whole own ∙ ap (λ (l : List _). before ++ l) (sym is_all)

pub lines_go_on : (before now after : List Stmt) (first n next : ℕ) (stmts : List Stmt) (stmt : Stmt) →
    (now ≡ before ++ marked_stmts first stmts) × (n ≡ first + length stmts) →
    (after ≡ now ++ marked_stmts n (stmt ∷ [])) × (next ≡ suc n) →
    (after ≡ before ++ marked_stmts first (stmts ++ stmt ∷ [])) × (next ≡ first + length (stmts ++ stmt ∷ []))
lines_go_on before now after first n next stmts stmt so_far new = (
  add_on before now after (marked_stmts first stmts) (marked_stmts n (stmt ∷ [])) (marked_stmts first (stmts ++ stmt ∷ [])) so_far.0 new.0
      (stmts_more first stmts stmt ∙ ap (λ k. marked_stmts first stmts ++ marked_stmts k (stmt ∷ [])) (sym so_far.1)),
  new.1 ∙ ap suc so_far.1
      ∙ (let e = length-append stmts (stmt ∷ []) in let k : suc (first + length stmts) ≡ first + length (stmts ++ stmt ∷ []) = omega (e, arith) in k),
)

pub blocks_go_on : (before now after : List Block) (first n next : ℕ) (blocks : List Block) (block : Block) →
    (now ≡ before ++ marked_blocks first blocks) × (n ≡ behind_blocks first blocks) →
    (after ≡ now ++ marked_block n block ∷ []) × (next ≡ behind_block n block) →
    (after ≡ before ++ marked_blocks first (blocks ++ block ∷ [])) × (next ≡ behind_blocks first (blocks ++ block ∷ []))
blocks_go_on before now after first n next blocks block so_far new = (
  add_on before now after (marked_blocks first blocks) (marked_block n block ∷ []) (marked_blocks first (blocks ++ block ∷ [])) so_far.0 new.0
      (blocks_more first blocks block ∙ ap (λ k. marked_blocks first blocks ++ marked_block k block ∷ []) (sym so_far.1)),
  new.1 ∙ ap (λ k. behind_block k block) so_far.1 ∙ sym (blocks_behind first blocks block),
)

pub bodies_go_on : (before now after : List Body) (first n next : ℕ) (bodies : List Body) (body : Body) →
    (now ≡ before ++ marked_bodies first bodies) × (n ≡ behind_bodies first bodies) →
    (after ≡ now ++ marked_body n body ∷ []) × (next ≡ behind_blocks n body.blocks) →
    (after ≡ before ++ marked_bodies first (bodies ++ body ∷ [])) × (next ≡ behind_bodies first (bodies ++ body ∷ []))
bodies_go_on before now after first n next bodies body so_far new = (
  add_on before now after (marked_bodies first bodies) (marked_body n body ∷ []) (marked_bodies first (bodies ++ body ∷ [])) so_far.0 new.0
      (bodies_more first bodies body ∙ ap (λ k. marked_bodies first bodies ++ marked_body k body ∷ []) (sym so_far.1)),
  new.1 ∙ ap (λ k. behind_blocks k body.blocks) so_far.1 ∙ sym (bodies_behind first bodies body),
)
