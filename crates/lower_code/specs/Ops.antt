-- Code in postfix order: what it is made of stands before it. So it can be built, and read from its end, without a
-- tree.
use Rattle.std.specs.Prelude.{ℕ, zero, suc, Bool, true, false, List, [], ◌∷◌, Option, Some, None}
use Rattle.mir_base.specs.declared.trace.Why.{Why}
use Rattle.store_model.specs.Effects.{EffectSite, Action}
use Rattle.src_meaning.specs.Scopes.{Entry, Exit}
use Rattle.src_meaning.specs.Shape.{PatternTests, BoundName}
use Rattle.lower_code.specs.Code as code
use Rattle.src_meaning.specs.Forms.{bound_entry}
use Rattle.src_meaning.specs.Locals.OfBody.{param_key}
use Rattle.typed_tree.specs.Tree.{ParamTree}
use Rattle.lower_code.specs.Code.{ScopeAt, Innermost, Change, Pends, Completes, Enters, Takes, Condition, Code, Arms, no_arm, an_arm, Arm, Taken, Empty, Guard, no_guard, a_guard}

-- one word of it; an arm has the key of its guard
pub data CodeWord : Type 0 where
  Nothing : CodeWord
  Changes : (change : Change) → CodeWord
  From : (change : Change) → CodeWord
  Then : CodeWord
  BackIn : CodeWord
  Acts : (node : ℕ) (action : Action) → CodeWord
  InScope : (node : ℕ) (for_temporaries : Bool) → CodeWord
  Leaves : CodeWord
  Branches : (node : ℕ) (on : Condition) → CodeWord
  Loops : (id : ℕ) → CodeWord
  Exits : (node : ℕ) (exit : Exit) → CodeWord
  Panics : (node : ℕ) (why : Why) → CodeWord
  Replaces : (site : EffectSite) (key : ℕ) → CodeWord
  Drops : (key : ℕ) → CodeWord
  BeforeArms : CodeWord
  IsArm : (tests : PatternTests) (guard : Option ℕ) → CodeWord
  EmptyArm : CodeWord
  Matches : (node : ℕ) → CodeWord

abbrev pub guard_key : Guard → Option ℕ
guard_key no_guard = None
guard_key (a_guard key code) = Some key

abbrev mutual
  -- code behind what stands before it; the last word comes first
  pub onto : Code → List CodeWord → List CodeWord
  onto code.Nothing before = Nothing ∷ before
  onto (code.Changes change) before = Changes change ∷ before
  onto (code.From change inner) before = From change ∷ onto inner before
  onto (code.Then one another) before = Then ∷ onto another (onto one before)
  onto (code.BackIn inner) before = BackIn ∷ onto inner before
  onto (code.Acts node action) before = Acts node action ∷ before
  onto (code.InScope node for_temporaries inner) before = InScope node for_temporaries ∷ onto inner before
  onto code.Leaves before = Leaves ∷ before
  onto (code.Branches node on held otherwise) before = Branches node on ∷ onto otherwise (onto held before)
  onto (code.Loops id turn) before = Loops id ∷ onto turn before
  onto (code.Exits node exit) before = Exits node exit ∷ before
  onto (code.Panics node why) before = Panics node why ∷ before
  onto (code.Replaces site key) before = Replaces site key ∷ before
  onto (code.Drops key) before = Drops key ∷ before
  onto (code.Matches node arms) before = Matches node ∷ arms_onto arms (BeforeArms ∷ before)

  pub arms_onto : Arms → List CodeWord → List CodeWord
  arms_onto no_arm before = before
  arms_onto (an_arm first rest) before = arms_onto rest (arm_onto first before)

  pub arm_onto : Arm → List CodeWord → List CodeWord
  arm_onto (Taken tests guard inner) before = IsArm tests (guard_key guard) ∷ onto inner (guard_onto guard before)
  arm_onto Empty before = EmptyArm ∷ before

  pub guard_onto : Guard → List CodeWord → List CodeWord
  guard_onto no_guard before = before
  guard_onto (a_guard key inner) before = onto inner before

-- as many times one thing behind another
abbrev pub thens : ℕ → List CodeWord → List CodeWord
thens zero before = before
thens (suc n) before = Then ∷ thens n before

-- Words behind others that say how these are taken.

abbrev pub own_scope_onto : ℕ → Bool → List CodeWord → List CodeWord
own_scope_onto id true before = InScope id true ∷ before
own_scope_onto id false before = before

abbrev pub pending_onto : Bool → ScopeAt → Entry → List CodeWord → List CodeWord
pending_onto true at e before = From (Pends at e) ∷ before
pending_onto false at e before = before

abbrev pub made_entry_onto : Bool → ScopeAt → Entry → List CodeWord → List CodeWord
made_entry_onto pends at e before = pending_onto pends at e (Then ∷ Changes (Completes at e) ∷ before)

-- operands are taken before what their node does with them
abbrev pub operated_onto : ℕ → Bool → List ℕ → List CodeWord → List CodeWord
operated_onto id own keys before = InScope id own ∷ Then ∷ From (Takes keys) ∷ before

-- names that are entries each from where it takes its part
abbrev pub entered_onto : ScopeAt → List BoundName → List CodeWord → List CodeWord
entered_onto at [] before = Nothing ∷ before
entered_onto at (b ∷ bounds) before = Then ∷ From (Enters at (bound_entry b)) ∷ entered_onto at bounds before

-- parameters that are entries each from before its names
abbrev pub params_onto : List ParamTree → List CodeWord → List CodeWord
params_onto [] before = Nothing ∷ before
params_onto (param ∷ params) before =
    From (Enters Innermost (record { key = param_key param; ty = param.ty })) ∷ Then ∷ params_onto params before
