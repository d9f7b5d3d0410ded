-- The code of a body before blocks are made of it: a tree of effects, scopes, branches, loops and exits, in which
-- places stand by their keys. In the rustc development guide, "MIR construction", the scopes of a body are a stack;
-- here the tree says where each begins and ends.
use Rattle.std.specs.Prelude.{ℕ, Bool, List}
use Rattle.mir_base.specs.declared.trace.Why.{Why}
use Rattle.store_model.specs.Effects.{EffectSite, Action}
use Rattle.src_meaning.specs.Scopes.{Entry, Scope, Scopes, with_scope, innermost, around_innermost, nearest_temporary, with_entry, with_pending, without_pending, becomes_entry, without_operands, Exit}
use Rattle.src_meaning.specs.Shape.{PatternTests}

-- which scope changes: the innermost, the one around it, the nearest one for temporaries
pub data ScopeAt : Type 0 where
  Innermost : ScopeAt
  AroundInnermost : ScopeAt
  NearestTemporary : ScopeAt

-- a change of scopes: a new one; a destination that is pending, or complete; an entry; the name of a `let`, whose
-- destination was pending within; operands that are taken
pub data Change : Type 0 where
  NewScope : (node : ℕ) (for_temporaries : Bool) → Change
  Pends : (at : ScopeAt) (entry : Entry) → Change
  Completes : (at : ScopeAt) (entry : Entry) → Change
  Enters : (at : ScopeAt) (entry : Entry) → Change
  Names : (entry : Entry) → Change
  Takes : (keys : List ℕ) → Change

abbrev pub change_in : ScopeAt → (Scope → Scope) → Scopes → Scopes
change_in Innermost = innermost
change_in AroundInnermost = around_innermost
change_in NearestTemporary = nearest_temporary

abbrev pub changed_by : Change → Scopes → Scopes
changed_by (NewScope node for_temporaries) = with_scope node for_temporaries
changed_by (Pends at entry) = change_in at (with_pending entry)
changed_by (Completes at entry) = change_in at (becomes_entry entry)
changed_by (Enters at entry) = change_in at (with_entry entry)
changed_by (Names entry) = λ S. around_innermost (with_entry entry) (innermost (without_pending entry) S)
changed_by (Takes keys) = innermost (without_operands keys)

-- what a branch goes by: a truth value that stands under a key and is taken, or the tests of a pattern
pub data Condition : Type 0 where
  IsTrue : (key : ℕ) → Condition
  Passes : (tests : PatternTests) → Condition

mutual
  pub data Code : Type 0 where
    Nothing : Code
    Changes : (change : Change) → Code
    -- code in scopes that are changed first
    From : (change : Change) (code : Code) → Code
    Then : (one another : Code) → Code
    -- code behind which the scopes are those before it
    BackIn : (code : Code) → Code
    -- an effect, of a node
    Acts : (node : ℕ) (action : Action) → Code
    -- code in a scope of its own, which is left behind it
    InScope : (node : ℕ) (for_temporaries : Bool) (code : Code) → Code
    -- the innermost scope is left
    Leaves : Code
    -- one of two, and what follows both
    Branches : (node : ℕ) (on : Condition) (held otherwise : Code) → Code
    Loops : (id : ℕ) (turn : Code) → Code
    -- scopes are left as far as an exit says
    Exits : (node : ℕ) (exit : Exit) → Code
    Panics : (node : ℕ) (why : Why) → Code
    -- what a place holds is dropped, and what stands under the key is stored there
    Replaces : (site : EffectSite) (key : ℕ) → Code
    -- what stands under a key is dropped
    Drops : (key : ℕ) → Code
    -- the arms of a match in order
    Matches : (node : ℕ) (arms : Arms) → Code

  -- the arms of a match in order
  pub data Arms : Type 0 where
    no_arm : Arms
    an_arm : (first : Arm) (rest : Arms) → Arms

  -- an arm: its tests, its guard, and what it does where both hold; or a node among the arms that is none, which is
  -- taken and does nothing
  pub data Arm : Type 0 where
    Taken : (tests : PatternTests) (guard : Guard) (code : Code) → Arm
    Empty : Arm

  -- a guard: the key of its truth value, and its code
  pub data Guard : Type 0 where
    no_guard : Guard
    a_guard : (key : ℕ) (code : Code) → Guard
