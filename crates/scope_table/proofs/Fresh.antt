-- Nodes with numbers of their own, of which no scope is open.
use Rattle.std.proofs.Common.{◌<◌, ℕ, suc, Bool, List, [], ◌∷◌, ◌++◌, map, length, refl, arith}
use Rattle.std.specs.Prelude.{◌≢◌, slice_index_or}
use Rattle.std.specs.List.{AllPairs, Contains}
use Rattle.scope_table.proofs.Entering.{Missing}
use Rattle.scope_table.proofs.Passing.{AllNumbers}
use Rattle.scope_table.specs.Law.{ScopeHead}
use Rattle.typed_tree.specs.Nodes.{number_of}
use Rattle.typed_tree.specs.Tree.{Node}

abbrev pub Differs : ℕ → List Node → Type 0
Differs id [] = Unit {0}
Differs id (n ∷ nodes) = (id ≢ number_of n) × Differs id nodes

abbrev pub Fresh : List ScopeHead → List Node → Type 0
Fresh heads [] = Unit {0}
Fresh heads (n ∷ nodes) = Missing heads (number_of n) × (Differs (number_of n) nodes × Fresh heads nodes)

differs_left : (id : ℕ) (A B : List Node) → Differs id (A ++ B) → Differs id A
differs_left id [] B d = tt
differs_left id (n ∷ A) B d = (d.0, differs_left id A B d.1)

pub fresh_left : (heads : List ScopeHead) (A B : List Node) → Fresh heads (A ++ B) → Fresh heads A
fresh_left heads [] B g = tt
fresh_left heads (n ∷ A) B g = (g.0, (differs_left (number_of n) A B g.1.0, fresh_left heads A B g.1.1))

pub fresh_right : (heads : List ScopeHead) (A B : List Node) → Fresh heads (A ++ B) → Fresh heads B
fresh_right heads [] B g = g
fresh_right heads (n ∷ A) B g = fresh_right heads A B g.1.1

pub fresh_missing : (heads : List ScopeHead) (nodes : List Node) → Fresh heads nodes → AllNumbers (Missing heads) nodes
fresh_missing heads [] g = tt
fresh_missing heads (n ∷ nodes) g = (g.0, fresh_missing heads nodes g.1.1)

pub fresh_inside : (heads : List ScopeHead) (id : ℕ) (own : Bool) (nodes : List Node) → Differs id nodes → Fresh heads nodes → Fresh (record { node = id; for_temporaries = own } ∷ heads) nodes
fresh_inside heads id own [] d g = tt
fresh_inside heads id own (n ∷ nodes) d g = ((d.0, g.0), (g.1.0, fresh_inside heads id own nodes d.1 g.1.1))

missing_of : (heads : List ScopeHead) (id : ℕ) → (Contains (map (λ (h : ScopeHead). h.node) heads) id → ⊥) → Missing heads id
missing_of [] id none = tt
missing_of (h ∷ heads) id none =
    (λ same. none (0, omega arith, same), missing_of heads id (λ c. none (suc c.0, omega arith, c.2)))

differs_of : (id : ℕ) (nodes : List Node) → ((j : ℕ) (d : ℕ) → j < length (map number_of nodes) → id ≢ slice_index_or (map number_of nodes) j d) → Differs id nodes
differs_of id [] h = tt
differs_of id (n ∷ nodes) h = (h 0 0 (omega arith), differs_of id nodes (λ j d less. h (suc j) d (omega arith)))

pub fresh_of : (heads : List ScopeHead) (nodes : List Node) → AllPairs (λ a b. a ≢ b) (map number_of nodes) → ((id : ℕ) → Contains (map number_of nodes) id → Contains (map (λ (h : ScopeHead). h.node) heads) id → ⊥) → Fresh heads nodes
fresh_of heads [] pairs none = tt
fresh_of heads (n ∷ nodes) pairs none = (
  missing_of heads (number_of n) (none (number_of n) (0, omega arith, refl)),
  (
    differs_of (number_of n) nodes (λ j d less. pairs 0 (suc j) d (omega arith) (omega arith)),
    fresh_of heads nodes (λ i j d below less. pairs (suc i) (suc j) d (omega arith) (omega arith))
        (λ id c. none id (suc c.0, omega arith, c.2)),
  ),
)
