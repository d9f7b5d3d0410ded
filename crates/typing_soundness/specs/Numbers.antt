-- Other numbers for the nodes of a body.
use Rattle.std.specs.Prelude.{◌≡◌, ℕ, ◌≤◌, List, Option, Some, None, map, IsTrue, Contains}
use Rattle.typed_tree.specs.Nodes.{number_of, nodes_of, body_nodes, numbers_of}
use Rattle.typed_tree.specs.Tree.{Node, BodyTree}
use Rattle.well_typed.specs.Claim.{Holds}
use Rattle.well_typed.specs.Names.{do_rise}
use Rattle.well_typed.specs.Nodes.{typed}
use Rattle.well_typed.specs.Places.{InScope, LoopAround, Context, Standing}
use Rattle.typing_rules.specs.Numbered.{renumbered, in_text_order}
use Rattle.typing_soundness.specs.Walks.{occurs}

-- an entry, a loop and a context under other numbers
abbrev pub entry_on : (ℕ → ℕ) → InScope → InScope
entry_on f x = record x { key = f x.key }

abbrev pub loop_on : (ℕ → ℕ) → LoopAround → LoopAround
loop_on f l = record l { loop = f l.loop }

abbrev pub option_on : (ℕ → ℕ) → Option InScope → Option InScope
option_on f None = None
option_on f (Some x) = Some (entry_on f x)

abbrev pub context_on : (ℕ → ℕ) → Context → Context
context_on f c =
    record c {
      entries = map (entry_on f) c.entries;
      closure = option_on f c.closure;
      loops = map (loop_on f) c.loops;
    }

-- a function is one to one on some numbers
abbrev pub IsOneToOne : (ℕ → ℕ) → List ℕ → Type 0
IsOneToOne f ns = (a b : ℕ) → Contains ns a → Contains ns b → f a ≡ f b → a ≡ b

-- the numbers of nodes, and those that a context speaks of, are among some numbers
abbrev pub AllAmong : List ℕ → List Node → Type 0
AllAmong ns xs = (n : Node) → Contains xs n → Contains ns (number_of n)

pub record IsAmong (ns : List ℕ) (c : Context) : Type 0 where
  pub entries : (x : InScope) → Contains c.entries x → Contains ns x.key
  pub closure : (x : InScope) → c.closure ≡ Some x → Contains ns x.key
  pub loops : (l : LoopAround) → Contains c.loops l → Contains ns l.loop

-- what is well typed stays so under other numbers
abbrev pub StaysTyped : Type 0
StaysTyped = (f : ℕ → ℕ) (ns : List ℕ) → IsOneToOne f ns → (c : Context) → IsAmong ns c → (standing : Standing) (n :
    Node) → AllAmong ns (nodes_of n) → Holds (typed c standing n) → Holds (typed (context_on f c) standing (renumbered f
    n))

-- where no two nodes have one number, the numbers of a body in the order of its text rise
abbrev pub AreInOrder : Type 0
AreInOrder = (body : BodyTree) → ((k : ℕ) → occurs k (body_nodes body) ≤ 1) → IsTrue (do_rise (numbers_of (in_text_order
    body)))
