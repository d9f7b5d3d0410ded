-- The faults of a body, taken apart and put together: its own line, its locals, and its blocks line by line.
use Rattle.std.proofs.Common.{◌≡◌, ◌∷◌, [], ◌++◌, ◌+◌, ℕ, suc, Bool, true, false, List, Some, map, length, slice_get, refl, subst, arith}
use Rattle.mir_ty.specs.declared.ty.TyId.{TyId}
use Rattle.mir_ty.specs.ItemTable.{ItemTable}
use Rattle.cfg_graph.specs.declared.graph.Block.{Block}
use Rattle.cfg_graph.specs.declared.graph.Body.{Body}
use Rattle.cfg_graph.specs.declared.graph.Graph.{Graph}
use Rattle.cfg_graph.specs.declared.graph.GraphFault.{GraphFault}
use Rattle.cfg_graph.specs.declared.statement.Stmt.{Stmt}
use Rattle.cfg_graph.specs.WellFormed.Broken.{broken}
use Rattle.cfg_graph.specs.WellFormed.Faults.{nowhere, at_line, of_each, own_faults, locals_faults, stmts_faults, block_faults, faults_of_body}
use Rattle.cfg_graph.specs.WellFormed.LineFaults.{stmt_faults, term_faults, local_faults, body_faults}
use Rattle.cfg_graph.proofs.NoFaults.{first_empty, second_empty, map_empty, of_each-empty}

-- each test of a line holds
abbrev pub AllHold : List (ℕ × Bool) → Type 0
AllHold [] = Unit {0}
AllHold (test ∷ tests) = (test.1 ≡ true) × AllHold tests

pub all-hold : (tests : List (ℕ × Bool)) → AllHold tests → broken tests ≡ []
all-hold [] h = refl
all-hold ((number, true) ∷ tests) h = all-hold tests h.1
all-hold ((number, false) ∷ tests) h = absurd (let never : ⊥ = cc in never)

pub empty-both : {X : Type 0} (xs ys : List X) → xs ≡ [] → ys ≡ [] → xs ++ ys ≡ []
empty-both [] ys e d = d
empty-both (x ∷ xs) ys e d = absurd (cc)

empty-map : {X Y : Type 0} (f : X → Y) (xs : List X) → xs ≡ [] → map f xs ≡ []
empty-map f [] h = refl
empty-map f (x ∷ xs) h = absurd (cc)

pub empty-each : {X : Type 0} (faults : ℕ → X → List GraphFault) (from : ℕ) (xs : List X) →
    ((n : ℕ) (x : X) → slice_get xs n ≡ Some x → faults (from + n) x ≡ []) → of_each faults from xs ≡ []
empty-each faults from [] h = refl
empty-each faults from (x ∷ xs) h =
    empty-both (faults from x) (of_each faults (suc from) xs)
    (subst (λ m. faults m x ≡ []) (let k : from + 0 ≡ from = omega arith in k) (h 0 x refl))
    (empty-each faults (suc from) xs
    (λ n y e. subst (λ m. faults m y ≡ []) (let k : from + suc n ≡ suc from + n = omega arith in k) (h (suc n) y e)))

-- no line of a body has a fault
pub record NoFaultIn (items : ItemTable) (bodies number : ℕ) (body : Body) : Type 0 where
  pub own : body_faults items bodies number body ≡ []
  pub locals : (n : ℕ) (id : TyId) → slice_get body.locals n ≡ Some id → local_faults items bodies id ≡ []
  pub stmts : (n k : ℕ) (block : Block) (stmt : Stmt) → slice_get body.blocks n ≡ Some block →
      slice_get block.stmts k ≡ Some stmt → stmt_faults items bodies body stmt ≡ []
  pub terms : (n : ℕ) (block : Block) → slice_get body.blocks n ≡ Some block → term_faults items bodies body block ≡ []

module _ (graph : Graph) (number : ℕ) (body : Body) where
  fault-at : (block line k : ℕ) → GraphFault
  fault-at block line k = record { number = k; body = number; block = block; line = line }

  pub taken-apart : faults_of_body graph number body ≡ [] →
      NoFaultIn graph.items (length graph.bodies) number body
  taken-apart none = record {
    own = map_empty (λ (k : ℕ). record { number = k; body = number; block = nowhere; line = nowhere })
        (body_faults graph.items (length graph.bodies) number body)
        (first_empty (own_faults graph number body) rest none);
    locals = λ n id at. map_empty (λ (k : ℕ). record { number = k; body = number; block = nowhere; line = 0 + n })
        (local_faults graph.items (length graph.bodies) id)
        (of_each-empty (λ n id. at_line number nowhere n (local_faults graph.items (length graph.bodies) id)) 0 body.locals
        (first_empty (locals_faults graph number body) (of_each (block_faults graph number body) 0 body.blocks) rest_none) n id at);
    stmts = λ n k block stmt at here. map_empty (λ (j : ℕ). record { number = j; body = number; block = 0 + n; line = 0 + k })
        (stmt_faults graph.items (length graph.bodies) body stmt)
        (of_each-empty (λ line stmt. at_line number (0 + n) line (stmt_faults graph.items (length graph.bodies) body stmt)) 0
        block.stmts
        (first_empty (stmts_faults graph number body (0 + n) block)
        (at_line number (0 + n) (length block.stmts) (term_faults graph.items (length graph.bodies) body block))
        (of-block n block at)) k stmt here);
    terms = λ n block at.
        map_empty (λ (j : ℕ). record { number = j; body = number; block = 0 + n; line = length block.stmts })
        (term_faults graph.items (length graph.bodies) body block)
        (second_empty (stmts_faults graph number body (0 + n) block)
        (at_line number (0 + n) (length block.stmts) (term_faults graph.items (length graph.bodies) body block))
        (of-block n block at));
  }
    where
      rest : List GraphFault
      rest = locals_faults graph number body ++ of_each (block_faults graph number body) 0 body.blocks

      rest_none : locals_faults graph number body ++ of_each (block_faults graph number body) 0 body.blocks ≡ []
      rest_none = second_empty (own_faults graph number body)
          (locals_faults graph number body ++ of_each (block_faults graph number body) 0 body.blocks) none

      of-block : (n : ℕ) (block : Block) → slice_get body.blocks n ≡ Some block → block_faults graph number body (0 + n) block ≡ []
      of-block n block at =
          of_each-empty (block_faults graph number body) 0 body.blocks
          (second_empty (locals_faults graph number body) (of_each (block_faults graph number body) 0 body.blocks)
          (second_empty (own_faults graph number body)
          (locals_faults graph number body ++ of_each (block_faults graph number body) 0 body.blocks) none)) n block at

  pub put-together : NoFaultIn graph.items (length graph.bodies) number body → faults_of_body graph number body ≡ []
  put-together none =
      empty-both (own_faults graph number body) _
      (empty-map _ (body_faults graph.items (length graph.bodies) number body) none.own)
      (empty-both (locals_faults graph number body) _
      (empty-each (λ n id. at_line number nowhere n (local_faults graph.items (length graph.bodies) id)) 0 body.locals
      (λ n id at. empty-map _ (local_faults graph.items (length graph.bodies) id) (none.locals n id at)))
      (empty-each (block_faults graph number body) 0 body.blocks (λ n block at.
      empty-both (stmts_faults graph number body (0 + n) block) _
      (empty-each (λ line stmt. at_line number (0 + n) line (stmt_faults graph.items (length graph.bodies) body stmt)) 0
      block.stmts
      (λ k stmt here. empty-map _ (stmt_faults graph.items (length graph.bodies) body stmt) (none.stmts n k block stmt at here)))
      (empty-map _ (term_faults graph.items (length graph.bodies) body block) (none.terms n block at)))))
