-- What a check adds to a walk: nodes with numbers of their own, breaks that are carried by nodes, and bodies with the
-- types that the text has for them.
use Rattle.std.specs.Prelude.{◌≡◌, ℕ, zero, suc, ◌+◌, ◌++◌, ◌≤◌, ◌==◌, length, map, slice_get, Some, List, [], ◌∷◌, ◌⊎◌, Option, Result, Contains, if◌then◌else◌}
use Rattle.std.specs.List.{filter_map}
use Rattle.mir_ty.specs.declared.def.ClosureDef.{ClosureDef}
use Rattle.mir_ty.specs.declared.ty.TyId.{TyId}
use Rattle.typed_tree.specs.Nodes.{number_of, nodes_of}
use Rattle.typed_tree.specs.Tree.{Node, MaybeNode}
use Rattle.well_typed.specs.Nodes.{carried_by}
use Rattle.typing_rules.specs.Check.{Check, TypingState, Broken}
use Rattle.typing_rules.specs.Patterns.{pattern}
use Rattle.typing_rules.specs.Promises.{Then}
use Rattle.typing_rules.specs.Rows.{PatternContext, ty_carried}
use Rattle.typing_rules.specs.Scope.{Env}
use Rattle.typing_rules.specs.Typed.{typed}
use Rattle.typing_rules.specs.Bodies.{all_rules}
use Rattle.src_ast.specs.Syntax.{Syn}
use Rattle.typing_soundness.specs.Closures.{Tape, closures_of}
use Rattle.typing_soundness.specs.Met.{Met}

-- how many of some nodes have a number
abbrev pub occurs : ℕ → List Node → ℕ
occurs k [] = 0
occurs k (n ∷ ns) = if number_of n == k then suc (occurs k ns) else occurs k ns

-- one of some nodes is a break out of this loop with a value of this type
abbrev pub IsCarried : ℕ × TyId → List Node → Type 0
IsCarried b ns = (value : MaybeNode) × Contains (filter_map (carried_by b.0) ns) value × (ty_carried value ≡ b.1)

-- so many numbers from one on
abbrev pub counted : ℕ → ℕ → List ℕ
counted from zero = []
counted from (suc count) = from ∷ counted (suc from) count

abbrev pub numbers_of_bodies : TypingState → List ℕ
numbers_of_bodies s = map (λ body. body.number) s.bodies

-- Within the body of a function, bodies that come are those of closures: they stand in the order of their numbers,
-- there are as many as closures, and a closure and its body have numbers that differ as the next ones did.
pub record Ordered (s t : TypingState) : Type 0 where
  pub count : ℕ
  pub next : t.next_body ≡ s.next_body + count
  pub bodies : numbers_of_bodies t ≡ numbers_of_bodies s ++ counted s.next_body count
  pub closures : length t.items.closures ≡ length s.items.closures + count
  pub aligned : (k : ℕ) (def : ClosureDef) → slice_get t.items.closures k ≡ Some def → (slice_get s.items.closures k ≡
      Some def) ⊎ (def.body + length s.items.closures ≡ k + s.next_body)

-- Bodies that come stand in the order of their numbers.
pub record InOrder (s t : TypingState) : Type 0 where
  pub count : ℕ
  pub next : t.next_body ≡ s.next_body + count
  pub bodies : numbers_of_bodies t ≡ numbers_of_bodies s ++ counted s.next_body count

-- From one state to a later one come these nodes, and bodies of these closures: each node has a number of its own among
-- those that are given out in between, each break that is new is carried by one of them, and each body has the types
-- that are written for its closure.
pub record Walks (f : Tape) (s t : TypingState) (ns : List Node) : Type 0 where
  pub numbers : s.next_node ≤ t.next_node
  pub before : (k : ℕ) → suc k ≤ s.next_node → occurs k ns ≡ 0
  pub behind : (k : ℕ) → t.next_node ≤ k → occurs k ns ≡ 0
  pub once : (k : ℕ) → occurs k ns ≤ 1
  pub carried : (b : ℕ × TyId) → Contains t.breaks b → Contains s.breaks b ⊎ IsCarried b ns
  pub ordered : Ordered s t
  pub met : Met f s t

-- what is so of all that a check gives, where no rule is broken
pub record Walked {A : Type 0} (P : A → TypingState → Type 0) (r : Result (A × TypingState) Broken) : Type 0 where
  pub so : Then r P

-- a check that gives a node
abbrev pub WalksNode : Tape → Check Node → Type 0
WalksNode f check = (s : TypingState) → Walked (λ n t. Walks f s t (nodes_of n)) (check s)

abbrev pub Patterns : Type 0
Patterns = (env : Env) (e : PatternContext) (ty : TyId) (p : Syn) (s : TypingState) → Walked (λ b t. Walks (λ rest. rest)
    s t (nodes_of b.0)) (pattern env e ty p [] s)

abbrev pub Expressions : Type 0
Expressions = (env : Env) (e : Syn) (expected : Option TyId) → WalksNode (closures_of (all_rules env) e) (typed env e expected)
