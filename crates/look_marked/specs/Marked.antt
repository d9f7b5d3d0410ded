-- A graph that tells the number of each line before it does what the line says: a `print` stands before each statement
-- and each terminator. Lines are counted from 1, in the order of bodies and blocks; the number of one that prints is
-- told as a negative one.
use Rattle.std.specs.Prelude.{ℕ, suc, ◌+◌, ℤ, pos, neg_ℤ, Bool, true, false, List, [], ◌∷◌, ◌++◌, length}
use Rattle.mir_base.specs.declared.int_kind.IntKind.{IntKind}
use Rattle.cfg_graph.specs.declared.graph.Block.{Block}
use Rattle.cfg_graph.specs.declared.graph.Body.{Body}
use Rattle.cfg_graph.specs.declared.graph.Graph.{Graph}
use Rattle.cfg_graph.specs.declared.place.Operand.{Operand}
use Rattle.cfg_graph.specs.declared.statement.Stmt.{Stmt}

abbrev pub prints : Stmt → Bool
prints (Stmt.Print operand) = true
prints stmt = false

abbrev pub told_number : Bool → ℕ → ℤ
told_number true n = neg_ℤ (pos n)
told_number false n = pos n

abbrev pub mark : Bool → ℕ → Stmt
mark prints n = Stmt.Print (Operand.Number (told_number prints n) IntKind.I32)

-- statements with their numbers, the first of which is given
abbrev pub marked_stmts : ℕ → List Stmt → List Stmt
marked_stmts n [] = []
marked_stmts n (stmt ∷ stmts) = mark (prints stmt) n ∷ stmt ∷ marked_stmts (suc n) stmts

abbrev pub marked_block : ℕ → Block → Block
marked_block n block = record block {
  stmts = marked_stmts n block.stmts ++ mark false (n + length block.stmts) ∷ [];
}

abbrev pub behind_block : ℕ → Block → ℕ
behind_block n block = suc (n + length block.stmts)

abbrev pub marked_blocks : ℕ → List Block → List Block
marked_blocks n [] = []
marked_blocks n (block ∷ blocks) = marked_block n block ∷ marked_blocks (behind_block n block) blocks

abbrev pub behind_blocks : ℕ → List Block → ℕ
behind_blocks n [] = n
behind_blocks n (block ∷ blocks) = behind_blocks (behind_block n block) blocks

abbrev pub marked_body : ℕ → Body → Body
marked_body n body = record body { blocks = marked_blocks n body.blocks }

abbrev pub marked_bodies : ℕ → List Body → List Body
marked_bodies n [] = []
marked_bodies n (body ∷ bodies) = marked_body n body ∷ marked_bodies (behind_blocks n body.blocks) bodies

abbrev pub behind_bodies : ℕ → List Body → ℕ
behind_bodies n [] = n
behind_bodies n (body ∷ bodies) = behind_bodies (behind_blocks n body.blocks) bodies

abbrev pub marked : Graph → Graph
marked graph = record graph { bodies = marked_bodies 1 graph.bodies }
