-- What an effect may change: the places into which it stores, out of which it moves, and which it borrows by `&mut`;
-- and
-- that effects which change no other places keep something.
use Rattle.std.proofs.Common.{◌≡◌, ℕ, Bool, true, false, List, [], ◌∷◌, refl}
use Rattle.mir_base.specs.declared.trace.Why.{Why}
use Rattle.store_model.specs.Effects as effects
use Rattle.store_model.specs.Effects.{EffectSite, Operand, Moved, Action, Test, Mode, Halt, Aborted, OutOfTicks, Stuck, Out, Go, Unwind, Halts, Choice, Yes, No, Neither, Effects}
use Rattle.store_model.specs.Places.Place.{Place, whole_local}
use Rattle.src_meaning.specs.Forms.{Destination, Into, Coerced, site_of_key}
use Rattle.src_meaning.specs.Shape.{operand_of_bound, BoundName, PatternTest, IsVariant, IsNumber, IsTruth, AnyOf, PatternTests, no_test, a_test, Alternatives, no_alternative, an_alternative}
use Rattle.soundness_values.proofs.Leaving.{ShownOut}

module _ (May : Place → Type 0) where
  abbrev pub Takes : Operand → Type 0
  Takes (Moved site) = May site.place
  Takes operand = Unit {0}

  abbrev pub AllTake : List Operand → Type 0
  AllTake [] = Unit {0}
  AllTake (operand ∷ operands) = Takes operand × AllTake operands

  abbrev pub AllowedTest : Test → Type 0
  AllowedTest (effects.IsTrue operand) = Takes operand
  AllowedTest (effects.HasVariant site variant) = Unit {0}

  -- a cell that may be changed as a whole
  abbrev pub Cell : ℕ → Type 0
  Cell key = May (whole_local key)

  -- a test of a literal makes a cell of its own
  abbrev mutual
    pub TestOwn : PatternTest → Type 0
    TestOwn (IsVariant site variant) = Unit {0}
    TestOwn (IsNumber site value kind) = Cell site.node
    TestOwn (IsTruth site value) = Cell site.node
    TestOwn (AnyOf alternatives) = AnyOwn alternatives

    pub TestsOwn : PatternTests → Type 0
    TestsOwn no_test = Unit {0}
    TestsOwn (a_test first rest) = TestOwn first × TestsOwn rest

    pub AnyOwn : Alternatives → Type 0
    AnyOwn no_alternative = Unit {0}
    AnyOwn (an_alternative tests rest) = TestsOwn tests × AnyOwn rest

  -- what a name takes may be changed, if it is moved
  abbrev pub BoundsMay : List BoundName → Type 0
  BoundsMay [] = Unit {0}
  BoundsMay (b ∷ bounds) = (Cell b.key × Takes (operand_of_bound b)) × BoundsMay bounds

  -- the cells of some names
  abbrev pub AllCells : List BoundName → Type 0
  AllCells [] = Unit {0}
  AllCells (b ∷ bounds) = Cell b.key × AllCells bounds

-- an action stores into places that may be stored into, moves out of others and borrows them by `&mut`
module _ (Store May : Place → Type 0) where
  abbrev pub AllowedSo : Action → Type 0
  AllowedSo (effects.Put to from) = Store to.place × Takes May from
  AllowedSo (effects.Compare to operator left right) = Store to.place × (Takes May left × Takes May right)
  AllowedSo (effects.Not to operand) = Store to.place × Takes May operand
  AllowedSo (effects.Build to kind parts) = Store to.place × AllTake May parts
  AllowedSo (effects.NewBox to content) = Store to.place × Takes May content
  AllowedSo (effects.Unsize to trait_no operand) = Store to.place × Takes May operand
  AllowedSo (effects.Borrow to unique base) = Store to.place × (unique ≡ true → May base.place)
  AllowedSo (effects.Touch base) = Unit {0}
  AllowedSo (effects.Print operand) = Takes May operand
  AllowedSo (effects.Forget operand) = Takes May operand
  AllowedSo (effects.Free box) = May box.place
  AllowedSo (effects.Compute to operator left right) = Store to.place × (Takes May left × Takes May right)
  AllowedSo (effects.Negate to operand) = Store to.place × Takes May operand
  AllowedSo (effects.Bounds index length) = Takes May index
  AllowedSo (effects.Call to body args) = Store to.place × AllTake May args
  AllowedSo (effects.CallVirtual to trait_no method args) = Store to.place × AllTake May args
  AllowedSo (effects.Ask to) = Store to.place

-- a destination: a cell that may be stored into, or one out of which what is coerced is moved on into it
module _ (Store Coerce : Place → Type 0) where
  abbrev pub DestSo : Destination → Type 0
  DestSo (Into key) = Store (whole_local key)
  DestSo (Coerced key trait_no to) = Coerce (whole_local key) × Store (whole_local to)

-- where all that is the same
abbrev pub Allowed : (Place → Type 0) → Action → Type 0
Allowed May action = AllowedSo May May action

abbrev pub DestCell : (Place → Type 0) → Destination → Type 0
DestCell May to = DestSo May May to

abbrev pub KeptOut : {V : Type 0} → (V → Type 0) → Out V → Type 0
KeptOut I (Go v) = I v
KeptOut I (Unwind v) = I v
KeptOut I (Halts halt v) = Unit {0}

abbrev pub KeptChoice : {V : Type 0} → (V → Type 0) → Choice V → Type 0
KeptChoice I (Yes v) = I v
KeptChoice I (No v) = I v
KeptChoice I (Neither halt v) = Unit {0}

-- effects that change no other places keep something
pub record Keeping {V : Type 0} (q : Effects V) (May : Place → Type 0) (I : V → Type 0) : Type 0 where
  pub acts : (action : Action) (v : V) → Allowed May action → I v → KeptOut I (q.act action v)
  pub chooses : (test : Test) (v : V) → AllowedTest May test → I v → KeptChoice I (q.choose test v)
  pub drops : (mode : Mode) (site : EffectSite) (v : V) → May site.place → I v → KeptOut I (q.drop mode site v)
  pub panics : (why : Why) (v : V) → I v → I (q.panic why v)
  pub ticks : (v : V) → I v → KeptOut I (q.tick v)

-- ---- the same, of runs that halt in some ways alone, by effects of which something is known

-- an action that the form of a node alone tells: no borrow and no call; no form frees a box
abbrev pub is_plain : Action → Bool
is_plain (effects.Borrow to unique base) = false
is_plain (effects.Free box) = false
is_plain (effects.Call to body args) = false
is_plain (effects.CallVirtual to trait_no method args) = false
is_plain action = true

abbrev pub AnsweredSo : {V : Type 0} → (Halt → V → Type 0) → (V → Type 0) → Choice V → Type 0
AnsweredSo over I (Yes v) = I v
AnsweredSo over I (No v) = I v
AnsweredSo over I (Neither halt v) = over halt v

-- what is known of the actions that are done, and of the places that are dropped
pub record KeepingSo {V : Type 0} (q : Effects V) (over : Halt → V → Type 0) (Does : Action → Type 0)
    (Drops : EffectSite → Type 0) (Store Coerce May : Place → Type 0) (I : V → Type 0) : Type 0 where
  pub acts : (action : Action) (v : V) → AllowedSo Store May action → Does action → I v → ShownOut over I I
      (q.act action v)
  pub chooses : (test : Test) (v : V) → AllowedTest May test → I v → AnsweredSo over I (q.choose test v)
  pub drops : (mode : Mode) (site : EffectSite) (v : V) → May site.place → Drops site → I v →
      ShownOut over I I (q.drop mode site v)
  pub panics : (why : Why) (v : V) → I v → I (q.panic why v)
  pub ticks : (v : V) → I v → ShownOut over I I (q.tick v)
  pub plain : (action : Action) → is_plain action ≡ true → Does action
  pub whole : (key : ℕ) → Drops (site_of_key key)
  pub stores : (place : Place) → May place → Store place
  pub coerces : (place : Place) → Coerce place → May place
  pub aborts : (v : V) → I v → over Aborted v
  pub lapses : (v : V) → I v → over OutOfTicks v
  pub stuck : (v : V) → I v → over Stuck v

module _ {V : Type 0} (I : V → Type 0) where
  abbrev any_halt : Halt → V → Type 0
  any_halt halt v = Unit {0}

  shown_kept : (o : Out V) → KeptOut I o → ShownOut any_halt I I o
  shown_kept (Go v) k = k
  shown_kept (Unwind v) k = k
  shown_kept (Halts halt v) k = tt

  answered_kept : (o : Choice V) → KeptChoice I o → AnsweredSo any_halt I o
  answered_kept (Yes v) k = k
  answered_kept (No v) k = k
  answered_kept (Neither halt v) k = tt

  -- however a run halts, and whatever is done
  pub keeping_so : (q : Effects V) (May : Place → Type 0) → Keeping q May I →
      KeepingSo q (λ halt v. Unit {0}) (λ action. Unit {0}) (λ site. Unit {0}) May May May I
  keeping_so q May k = record {
    acts = λ action v a d i. shown_kept (q.act action v) (k.acts action v a i);
    chooses = λ test v t i. answered_kept (q.choose test v) (k.chooses test v t i);
    drops = λ mode site v m d i. shown_kept (q.drop mode site v) (k.drops mode site v m i);
    panics = k.panics;
    ticks = λ v i. shown_kept (q.tick v) (k.ticks v i);
    plain = λ action p. tt;
    whole = λ key. tt;
    stores = λ place m. m;
    coerces = λ place m. m;
    aborts = λ v i. tt;
    lapses = λ v i. tt;
    stuck = λ v i. tt;
  }
