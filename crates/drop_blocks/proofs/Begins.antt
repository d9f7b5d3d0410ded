-- A block more has the next number; a rung and its twin.
use Rattle.std.proofs.Common.{◌≡◌, ◌∙◌, ◌∷◌, [], ◌++◌, ◌+◌, ℕ, List, Option, Some, None, length, refl, sym, ap}
use Rattle.cfg_graph.specs.declared.graph.Block.{Block}
use Rattle.cfg_graph.specs.declared.graph.Kind.{Kind}
use Rattle.cfg_graph.specs.declared.statement.Stmt.{Stmt}
use Rattle.cfg_graph.specs.declared.terminator.Term.{Term}
use Rattle.drop_elaborate.specs.Build.{Made, Begun}
use Rattle.drop_elaborate.specs.Ladder.{Ending, Abruptly}
use Rattle.drop_blocks.specs.Ladders.{built, with_one, with_twin}

abbrev pub begin : ℕ → Made → Begun
begin at made = record { at = at; made = made }

abbrev block : Kind → ℕ → List Stmt → Term → Block
block kind rank stmts term = record { kind = kind; rank = rank; stmts = stmts; term = term }

abbrev blocks_at : ℕ → List Block → Made
blocks_at first blocks = record { first = first; base = first; blocks = blocks }

-- a block with the next number as its rank
pub added : (first number : ℕ) (blocks after : List Block) (kind : Kind) (stmts : List Stmt) (term : Term) →
    number ≡ first + length blocks → after ≡ blocks ++ block kind number stmts term ∷ [] →
    begin number (blocks_at first after) ≡ with_one kind stmts term (blocks_at first blocks)
added first number blocks after kind stmts term next is =
    let all : after ≡ blocks ++ block kind (first + length blocks) stmts term ∷ [] =
    is ∙ ap (λ (rank : ℕ). blocks ++ block kind rank stmts term ∷ []) next in
    λ i. begin (next i) (blocks_at first (all i))

pub one-chain : (rung : ℕ → Ending → Made → Begun) (twin : Option ℕ) (calm : Begun) (at : ℕ) (after : Made) →
    twin ≡ None → begin at after ≡ calm → built at None after ≡ with_twin rung twin calm
one-chain rung twin calm at after none is = λ i. with_twin rung (sym none i) (is i)

pub two-chains : (rung : ℕ → Ending → Made → Begun) (twin : Option ℕ) (calm : Begun) (at to over : ℕ)
    (after last : Made) → twin ≡ Some to → begin at after ≡ calm → begin over last ≡ rung to Abruptly after →
    built at (Some over) last ≡ with_twin rung twin calm
two-chains rung twin calm at to over after last some is two =
    let both : built at (Some over) last ≡ with_twin rung (Some to) (begin at after) =
    (λ i. built at (Some (two i).at) (two i).made) in
    both ∙ (λ i. with_twin rung (sym some i) (is i))
