-- Where code stands in a body of a graph (the rustc development guide, "The MIR", "MIR construction"). A place in code
-- is a block and a line of it. A spot is code from one place to another, and from the scopes before it to those after.
use Rattle.std.specs.Prelude.{◌≡◌, ◌⊎◌, ℕ, suc, ◌==◌, nat_lt, Bool, true, false, not, List, [], ◌∷◌, ◌++◌, length, Option, Some, None, slice_get, if◌then◌else◌}
use Rattle.cfg_graph.specs.declared.graph.Block.{Block}
use Rattle.cfg_graph.specs.declared.graph.Body.{Body}
use Rattle.cfg_graph.specs.declared.graph.Kind.{Kind}
use Rattle.cfg_graph.specs.declared.place.Place as graph_place
use Rattle.cfg_graph.specs.declared.statement.Stmt.{Stmt}
use Rattle.cfg_graph.specs.declared.terminator.Term.{Term}
use Rattle.cfg_graph.specs.declared.terminator.Unwind.{Unwind}
use Rattle.cfg_graph.specs.Edges.{is_turn}
use Rattle.cfg_meaning.specs.Actions.{site_of, operand_of, operands_of, action_of}
use Rattle.mir_ty.specs.ItemTable.{ItemTable}
use Rattle.store_model.specs.Abstract.Effects.{never_at}
use Rattle.store_model.specs.Effects as effects
use Rattle.store_model.specs.Effects.{EffectSite, Action, stores_where}
use Rattle.src_meaning.specs.Locals.Effects.{action_at, site_at}
use Rattle.src_meaning.specs.Scopes.{Entry, Scopes, with_scope, all_entries, needing_drop, entry_site}

-- A body of a graph in which code stands: the local of each key of the source, and the node of which each line is.
pub record CodeTarget : Type 0 where
  pub items : ItemTable
  pub local_of : ℕ → ℕ
  pub body : Body
  pub node : (block line : ℕ) → ℕ

-- a place in code: a block, and a line of it
abbrev pub CodePos : Type 0
CodePos = ℕ × ℕ

-- where a jump goes: the block, how many scopes stay, and whether there is any such jump
pub record JumpWay : Type 0 where
  pub base : ℕ
  pub block : ℕ
  pub is_used : Bool

pub record LoopWays : Type 0 where
  pub breaks : JumpWay
  pub continues : JumpWay

-- the ways of jumps: by `return`; by those that name a loop; and by one that names no loop around it, which there
-- is not
pub record Ways : Type 0 where
  pub returns : JumpWay
  pub nowhere : JumpWay
  pub loops : List (ℕ × LoopWays)

abbrev pub loop_among : ℕ → JumpWay → List (ℕ × LoopWays) → LoopWays
loop_among loop nowhere [] = record { breaks = nowhere; continues = nowhere }
loop_among loop nowhere (l ∷ loops) = if l.0 == loop then l.1 else loop_among loop nowhere loops

abbrev pub ways_of : ℕ → Ways → LoopWays
ways_of loop c = loop_among loop c.nowhere c.loops

abbrev pub loop_ways : (base exit turn : ℕ) (is_left : Bool) → LoopWays
loop_ways base exit turn is_left = record {
  breaks = record { base = base; block = exit; is_used = is_left };
  continues = record { base = base; block = turn; is_used = true };
}

abbrev pub ways_in_loop : ℕ → (base exit turn : ℕ) (is_left : Bool) → Ways → Ways
ways_in_loop id base exit turn is_left c = record c { loops = (id, loop_ways base exit turn is_left) ∷ c.loops }

-- in a body one scope stays, that of the result, and each jump names a loop around it
abbrev pub body_ways : (returns : ℕ) → Ways
body_ways returns = record {
  returns = record { base = 1; block = returns; is_used = true };
  nowhere = record { base = 1; block = returns; is_used = false };
  loops = [];
}

-- where code stands: from scopes and a place to scopes and a place
abbrev pub CodeSpot : Type 1
CodeSpot = Scopes → CodePos → Scopes → CodePos → Type 0

-- Code stands for no end of what is done, where it stands with whatever end: so no run comes behind it. What would
-- stand there is left out.
abbrev pub HasNoEnd : CodeSpot → Scopes → CodePos → Type 0
HasNoEnd P S b = (S' : Scopes) (b' : CodePos) → P S b S' b'

-- one after the other
abbrev pub Then : CodeSpot → CodeSpot → CodeSpot
Then P Q S b S' b' = HasNoEnd P S b ⊎ ((S1 : Scopes) × (m : CodePos) × P S b S1 m × Q S1 m S' b')

-- the scopes change, and no code stands for it
abbrev pub Changes : (Scopes → Scopes) → CodeSpot
Changes change S b S' b' = (S' ≡ change S) × (b ≡ b')

-- the same from scopes that have changed
abbrev pub After : (Scopes → Scopes) → CodeSpot → CodeSpot
After change P S b S' b' = P (change S) b S' b'

abbrev pub Nothing : CodeSpot
Nothing = Changes (λ S. S)

-- what has a value leaves the scopes around it as they were
abbrev pub BackIn : CodeSpot → CodeSpot
BackIn P S b S' b' = HasNoEnd P S b ⊎ ((S' ≡ S) × (S1 : Scopes) × P S b S1 b')

-- the effect of a terminator that may panic, and its two ways on
abbrev pub action_of_term : ℕ → Term → Option (Action × ℕ × Unwind)
action_of_term number (Term.Math to operator left right onward unwind) =
    Some
    (effects.Compute (site_of number to) operator (operand_of number left) (operand_of number right), onward, unwind)
action_of_term number (Term.Negate to operand onward unwind) =
    Some (effects.Negate (site_of number to) (operand_of number operand), onward, unwind)
action_of_term number (Term.Bounds index count onward unwind) =
    Some (effects.Bounds (operand_of number index) count, onward, unwind)
action_of_term number (Term.Call to body args onward unwind) =
    Some (effects.Call (site_of number to) body (operands_of number args), onward, unwind)
action_of_term number (Term.Virtual to trait_no method args onward unwind) =
    Some (effects.CallVirtual (site_of number to) trait_no method (operands_of number args), onward, unwind)
action_of_term number (Term.Ask to onward unwind) = Some (effects.Ask (site_of number to), onward, unwind)
action_of_term number term = None

module _ (t : CodeTarget) where
  abbrev pub node_at : CodePos → ℕ
  node_at b = t.node b.0 b.1

  -- what a panic in these scopes drops, the youngest first
  abbrev pub panic_drops : Scopes → List Entry
  panic_drops S = needing_drop t.items (all_entries S)

  -- a block that is no turn block
  abbrev pub StepAt : ℕ → Type 0
  StepAt n = (block : Block) × (slice_get t.body.blocks n ≡ Some block) × (is_turn block ≡ false)

  abbrev pub TurnAt : ℕ → Type 0
  TurnAt n = (block : Block) × (slice_get t.body.blocks n ≡ Some block) × (block.kind ≡ Kind.Turn)

  -- what a block goes on to
  abbrev pub EntersAt : ℕ → CodePos → Type 0
  EntersAt n b = StepAt n × (b ≡ (n, 0))

  -- a block ends with a terminator
  abbrev pub TermAt : Term → CodePos → Type 0
  TermAt term b =
      (block : Block) × (slice_get t.body.blocks b.0 ≡ Some block) × (b.1 ≡ length block.stmts) × (block.term ≡ term)

  -- a statement is the effect of an action
  abbrev pub StmtAt : Action → CodePos → CodePos → Type 0
  StmtAt action b b' =
      (block : Block) × (stmt : Stmt) × (slice_get t.body.blocks b.0 ≡ Some block)
      × (slice_get block.stmts b.1 ≡ Some stmt) × (action_of (node_at b) stmt ≡ action_at t.local_of action)
      × (b' ≡ (b.0, suc b.1))

  -- from a place on at once, or by way of the end of a block
  pub data Leads (b : CodePos) : CodePos → Type 0 where
    stays : Leads b b
    goes : (n : ℕ) → TermAt (Term.Goto n) b → StepAt n → Leads b (n, 0)

  -- code that goes on to a place to which other code comes too
  abbrev pub Joins : CodeSpot → CodeSpot
  Joins P S b S' b' = (m : CodePos) × P S b S' m × Leads m b'

  -- Unwinding: these entries are dropped in turn, and the panic leaves the body. There is one such code for each list,
  -- however much leads there.

  abbrev pub CleanAt : List Entry → CodePos → Type 0
  CleanAt [] b = TermAt Term.Resume b
  CleanAt (e ∷ es) b =
      (place : graph_place.Place) × (n : ℕ) × TermAt (Term.DropAt place n Unwind.Abort) b
      × (site_of (node_at b) place ≡ site_at t.local_of (entry_site e)) × StepAt n × CleanAt es (n, 0)

  -- where a panic goes on
  abbrev pub Cleans : List Entry → Unwind → Type 0
  Cleans es (Unwind.Block n) = StepAt n × CleanAt es (n, 0)
  Cleans es Unwind.Resume = es ≡ []
  Cleans es Unwind.Abort = ⊥

  -- no run comes behind an action that stores into a place of type `!`
  abbrev pub IsLast : Action → Type 0
  IsLast action =
      stores_where (never_at t.items (slice_get t.body.locals)) (action_at t.local_of action) ≡ true

  -- a block ends with the effect of an action that may panic
  abbrev pub ActionTermAt : Action → Scopes → ℕ → CodePos → Type 0
  ActionTermAt action S n b =
      (block : Block) × (unwind : Unwind) × (slice_get t.body.blocks b.0 ≡ Some block) × (b.1 ≡ length block.stmts)
      × (action_of_term (node_at b) block.term ≡ Some (action_at t.local_of action, n, unwind))
      × Cleans (panic_drops S) unwind

  -- an effect, as a statement, or as a terminator that leads on and to what is dropped after a panic
  pub data Acts (action : Action) (S : Scopes) (b : CodePos) : Scopes → CodePos → Type 0 where
    by_statement : (b' : CodePos) → StmtAt action b b' → Acts action S b S b'
    by_terminator : (n : ℕ) (b' : CodePos) → ActionTermAt action S n b → EntersAt n b' → Acts action S b S b'
    by_last_statement : (m : CodePos) (S' : Scopes) (b' : CodePos) → StmtAt action b m → IsLast action →
        Acts action S b S' b'
    by_last_terminator : (n : ℕ) (S' : Scopes) (b' : CodePos) → ActionTermAt action S n b → IsLast action →
        Acts action S b S' b'

  -- a drop, and what is dropped after a panic out of it
  abbrev pub DropsAt : EffectSite → List Entry → CodePos → CodePos → Type 0
  DropsAt site es b b' =
      (place : graph_place.Place) × (n : ℕ) × (unwind : Unwind) × TermAt (Term.DropAt place n unwind) b
      × (site_of (node_at b) place ≡ site_at t.local_of site) × Cleans es unwind × EntersAt n b'

  -- entries are dropped in turn; after a panic the rest of them, and then those of the scopes around
  abbrev pub AllDropAt : List Entry → Scopes → CodePos → CodePos → Type 0
  AllDropAt [] S b b' = b ≡ b'
  AllDropAt (e ∷ es) S b b' = (m : CodePos) × DropsAt (entry_site e) (es ++ panic_drops S) b m × AllDropAt es S m b'

  -- the innermost scope is left
  abbrev pub LeavesScope : CodeSpot
  LeavesScope [] b S' b' = (S' ≡ []) × Leads b b'
  LeavesScope (s ∷ S) b S' b' =
      (S' ≡ S) × (m : CodePos) × AllDropAt (needing_drop t.items s.entries) S b m × Leads m b'

  -- in a scope that is entered and left
  abbrev pub Scoped : (Scopes → Scopes) → CodeSpot → CodeSpot
  Scoped enter P S b S' b' = Then P LeavesScope (enter S) b S' b'

  abbrev pub InScope : ℕ → Bool → CodeSpot → CodeSpot
  InScope node for_temporaries P = Scoped (with_scope node for_temporaries) P

  abbrev pub leaves_one : Bool → (more done : Type 0) → Type 0
  leaves_one true more done = more
  leaves_one false more done = done

  -- scopes are left until so many stay, and then a block is entered
  abbrev pub LeavesTo : (base n : ℕ) → Scopes → CodePos → Type 0
  LeavesTo base n [] b = TermAt (Term.Goto n) b
  LeavesTo base n (s ∷ S) b =
      leaves_one (not (nat_lt (length S) base))
      ((m : CodePos) × AllDropAt (needing_drop t.items s.entries) S b m × LeavesTo base n S m)
      (TermAt (Term.Goto n) b)

  -- a jump, which comes to no place after it
  abbrev pub JumpAt : JumpWay → CodeSpot → CodeSpot
  JumpAt way P = Then P (λ S b S' b'. (way.is_used ≡ true) × LeavesTo way.base way.block S b)
