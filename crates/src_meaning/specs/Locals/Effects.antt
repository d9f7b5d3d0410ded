-- The effects on the keys of a body as the effects on its locals: the source and a graph name cells alike, and nothing
-- is renamed between them.
use Rattle.std.specs.Prelude.{ℕ, map}
use Rattle.store_model.specs.Effects.{EffectSite, Operand, Copied, Moved, Action, Put, Compare, Not, Build, NewBox, Unsize, Borrow, Touch, Print, Forget, Free, Compute, Negate, Bounds, Call, CallVirtual, Ask, Test, IsTrue, HasVariant, Effects}
use Rattle.store_model.specs.Places.Place.{Step, ToElement, Place}

module _ (local_of : ℕ → ℕ) where
  abbrev pub step_at : Step → Step
  step_at (ToElement index) = ToElement (local_of index)
  step_at step = step

  abbrev pub place_at : Place → Place
  place_at place = record { local = local_of place.local; steps = map step_at place.steps }

  abbrev pub site_at : EffectSite → EffectSite
  site_at site = record site { place = place_at site.place }

  abbrev pub operand_at : Operand → Operand
  operand_at (Copied site) = Copied (site_at site)
  operand_at (Moved site) = Moved (site_at site)
  operand_at value = value

  abbrev pub action_at : Action → Action
  action_at (Put to from) = Put (site_at to) (operand_at from)
  action_at (Compare to operator left right) = Compare (site_at to) operator (operand_at left) (operand_at right)
  action_at (Not to operand) = Not (site_at to) (operand_at operand)
  action_at (Build to kind parts) = Build (site_at to) kind (map operand_at parts)
  action_at (NewBox to content) = NewBox (site_at to) (operand_at content)
  action_at (Unsize to trait_no operand) = Unsize (site_at to) trait_no (operand_at operand)
  action_at (Borrow to unique base) = Borrow (site_at to) unique (site_at base)
  action_at (Touch base) = Touch (site_at base)
  action_at (Print operand) = Print (operand_at operand)
  action_at (Forget operand) = Forget (operand_at operand)
  action_at (Free box) = Free (site_at box)
  action_at (Compute to operator left right) = Compute (site_at to) operator (operand_at left) (operand_at right)
  action_at (Negate to operand) = Negate (site_at to) (operand_at operand)
  action_at (Bounds index length) = Bounds (operand_at index) length
  action_at (Call to body args) = Call (site_at to) body (map operand_at args)
  action_at (CallVirtual to trait_no method args) = CallVirtual (site_at to) trait_no method (map operand_at args)
  action_at (Ask to) = Ask (site_at to)

  abbrev pub test_at : Test → Test
  test_at (IsTrue operand) = IsTrue (operand_at operand)
  test_at (HasVariant site variant) = HasVariant (site_at site) variant

  abbrev pub at_locals : {W : Type 0} → Effects W → Effects W
  at_locals p = record {
    act = λ action. p.act (action_at action);
    choose = λ test. p.choose (test_at test);
    drop = λ mode site. p.drop mode (site_at site);
    panic = p.panic;
    tick = p.tick;
    give = λ site. p.give (site_at site);
  }
