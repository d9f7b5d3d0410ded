-- What the pass over the forms asks of effects: what they move is gone then, and no cell comes to hold anything that
-- would need dropping but the one into which an action stores.
use Rattle.std.proofs.Common.{◌≡◌, ◌⊎◌, ℕ, Bool, false, List, [], ◌∷◌, Option, Some, None}
use Rattle.mir_base.specs.declared.trace.Why.{Why}
use Rattle.store_model.specs.Effects as effects
use Rattle.store_model.specs.Effects.{EffectSite, Operand, Copied, Moved, Action, Test, Mode, Halt, Choice, Yes, No, Neither, Effects, stored_by}
use Rattle.store_model.specs.Places.Place.{whole_local}
use Rattle.src_meaning.specs.Scopes.{Entry, entry_site}
use Rattle.soundness_values.proofs.Leaving.{ShownOut}

-- ---- what an action moves, and where it stores

abbrev pub MovedBy : Operand → ℕ → Type 0
MovedBy (Moved site) key = site.place ≡ whole_local key
MovedBy (Copied site) key = ⊥
MovedBy (effects.Number value kind) key = ⊥
MovedBy (effects.Truth value) key = ⊥
MovedBy effects.UnitValue key = ⊥

abbrev pub MovedByAny : List Operand → ℕ → Type 0
MovedByAny [] key = ⊥
MovedByAny (operand ∷ operands) key = MovedBy operand key ⊎ MovedByAny operands key

abbrev pub operands_of : Action → List Operand
operands_of (effects.Put to from) = from ∷ []
operands_of (effects.Compare to operator left right) = left ∷ right ∷ []
operands_of (effects.Not to operand) = operand ∷ []
operands_of (effects.Build to kind parts) = parts
operands_of (effects.NewBox to content) = content ∷ []
operands_of (effects.Unsize to trait_no operand) = operand ∷ []
operands_of (effects.Borrow to unique base) = []
operands_of (effects.Touch base) = []
operands_of (effects.Print operand) = operand ∷ []
operands_of (effects.Forget operand) = operand ∷ []
operands_of (effects.Free box) = []
operands_of (effects.Compute to operator left right) = left ∷ right ∷ []
operands_of (effects.Negate to operand) = operand ∷ []
operands_of (effects.Bounds index length) = index ∷ []
operands_of (effects.Call to body args) = args
operands_of (effects.CallVirtual to trait_no method args) = args
operands_of (effects.Ask to) = []

abbrev pub tested_by : Test → List Operand
tested_by (effects.IsTrue operand) = operand ∷ []
tested_by (effects.HasVariant site variant) = []

abbrev pub StoredAt : Option EffectSite → ℕ → Type 0
StoredAt None key = ⊥
StoredAt (Some site) key = site.place ≡ whole_local key

abbrev pub Nothing : ℕ → Type 0
Nothing key = ⊥

abbrev pub ShownChoice : {V : Type 0} → (V → Type 0) → (V → Type 0) → Choice V → Type 0
ShownChoice taken declined (Yes v) = taken v
ShownChoice taken declined (No v) = declined v
ShownChoice taken declined (Neither halt v) = Unit {0}

-- a run may halt however it does: how it may not is shown elsewhere
abbrev pub any : {V : Type 0} → Halt → V → Type 0
any halt v = Unit {0}

-- what is clear stays so but where something is stored, and what is moved is clear
abbrev pub Changes : {V : Type 0} → (V → ℕ → Type 0) → (moved stored : ℕ → Type 0) → V → V → Type 0
Changes clear moved stored v v' = (key : ℕ) → clear v key ⊎ moved key → clear v' key ⊎ stored key

pub record KeepsClear {V : Type 0} (q : Effects V) (needs : ℕ → Bool) (clear : V → ℕ → Type 0) : Type 0 where
  pub acts : (action : Action) (v : V) →
      ShownOut any (Changes clear (MovedByAny (operands_of action)) (StoredAt (stored_by action)) v)
      (Changes clear (MovedByAny (operands_of action)) Nothing v) (q.act action v)
  pub chooses : (test : Test) (v : V) →
      ShownChoice (Changes clear (MovedByAny (tested_by test)) Nothing v)
      (Changes clear (MovedByAny (tested_by test)) Nothing v) (q.choose test v)
  pub drops : (mode : Mode) (e : Entry) (v : V) →
      ShownOut any (λ v'. clear v' e.key × ((key : ℕ) → clear v key → clear v' key))
      (λ v'. clear v' e.key × ((key : ℕ) → clear v key → clear v' key)) (q.drop mode (entry_site e) v)
  pub drops_at : (mode : Mode) (site : EffectSite) (v : V) →
      ShownOut any (λ v'. (key : ℕ) → clear v key → clear v' key) (λ v'. (key : ℕ) → clear v key → clear v' key)
      (q.drop mode site v)
  pub puts : (to : EffectSite) (from : Operand) (v : V) →
      ShownOut any (λ w. Unit {0}) (λ w. ⊥) (q.act (effects.Put to from) v)
  pub gives : (site : EffectSite) (v : V) →
      ShownOut any (λ v'. (key : ℕ) → clear v key → clear v' key) (λ v'. ⊥) (q.give site v)
  pub panics : (why : Why) (v : V) (key : ℕ) → clear v key → clear (q.panic why v) key
  pub ticks : (v : V) →
      ShownOut any (λ v'. (key : ℕ) → clear v key → clear v' key) (λ v'. (key : ℕ) → clear v key → clear v' key)
      (q.tick v)
  pub needs_none : (key : ℕ) (v : V) → needs key ≡ false → clear v key
