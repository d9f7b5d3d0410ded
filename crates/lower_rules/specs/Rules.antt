-- Where the code of each rule of evaluation stands, given where that of the parts stands: one rule here for each rule
-- of `src_meaning/specs/Forms`.
use Rattle.std.specs.Prelude.{◌≡◌, ℕ, Bool, true, false, not, ◌||◌, List, [], ◌∷◌, length, map}
use Rattle.cfg_graph.specs.declared.place.Operand.{Operand}
use Rattle.cfg_graph.specs.declared.place.Place as graph_place
use Rattle.cfg_graph.specs.declared.terminator.Term.{Term}
use Rattle.cfg_graph.specs.declared.terminator.Unwind.{Unwind}
use Rattle.cfg_meaning.specs.Actions.{site_of, operand_of}
use Rattle.mir_base.specs.declared.operator.Cmp.{Cmp}
use Rattle.mir_base.specs.declared.trace.Why.{Why}
use Rattle.mir_ty.specs.Facts.{needs_drop}
use Rattle.store_model.specs.Effects as effects
use Rattle.store_model.specs.Effects.{EffectSite, Action}
use Rattle.store_model.specs.Places.Place.{Place, whole_local, before_element}
use Rattle.src_meaning.specs.Forms.{Destination, Into, Coerced, LoopsAndGuards, in_guard, entry_of, bound_entry, site_in, site_of_key, moved, is_never, changed_if}
use Rattle.src_meaning.specs.Locals.Effects.{operand_at as operand_in, site_at as site_on}
use Rattle.src_meaning.specs.Scopes.{Scope, Scopes, with_scope, innermost, around_innermost, nearest_temporary, with_entry, with_pending, without_pending, becomes_entry, without_operands}
use Rattle.src_meaning.specs.Shape.{NodeHead, Shape, PatternTest, IsVariant, IsNumber, IsTruth, AnyOf, PatternTests, no_test, a_test, Alternatives, no_alternative, an_alternative, BoundName, site_at, operand_of_bound, operand_at}
use Rattle.lower_rules.specs.Spots.{CodeTarget, CodePos, Ways, ways_in_loop, CodeSpot, Then, Changes, After, Nothing, BackIn, node_at, panic_drops, StepAt, TurnAt, EntersAt, TermAt, StmtAt, Leads, Joins, CleanAt, Cleans, Acts, DropsAt, LeavesScope, InScope}

-- the code by which a node is evaluated, as a scope for temporaries of its own or not, into a destination
abbrev pub EvaluatesAt : Type 1
EvaluatesAt = LoopsAndGuards → Ways → Bool → Destination → CodeSpot

-- the code by which a place is reached
abbrev pub ReachesAt : Type 1
ReachesAt = LoopsAndGuards → Ways → CodeSpot

-- the code of an arm, given the matched place, and where the code stands for what is done where the arm is not taken
abbrev pub ArmsAt : Type 1
ArmsAt = Place → CodePos → LoopsAndGuards → Ways → Destination → CodeSpot

-- the code of a node
pub record NodeCode : Type 1 where
  pub head : NodeHead
  pub shape : Shape
  pub evaluates : EvaluatesAt
  pub reaches : ReachesAt
  pub arm : ArmsAt

pub data CodeIfAny : Type 1 where
  no_code : CodeIfAny
  a_code : (code : NodeCode) → CodeIfAny

abbrev pub keys_of : List NodeCode → List ℕ
keys_of [] = []
keys_of (m ∷ ms) = m.head.id ∷ keys_of ms

abbrev pub all_moved : ℕ → List NodeCode → List effects.Operand
all_moved number ms = map (moved number) (keys_of ms)

abbrev pub place_of : NodeCode → LoopsAndGuards → Place
place_of m around = m.shape.place around.aliases

abbrev pub site_of_code : NodeCode → LoopsAndGuards → EffectSite
site_of_code m around = site_at m.head (place_of m around)

module _ (t : CodeTarget) where
  -- Values and destinations.

  abbrev pub Delivers : NodeHead → (EffectSite → Action) → Destination → CodeSpot
  Delivers h action (Into key) S b S' b' = Acts t (action (site_in h.id key)) S b S' b'
  Delivers h action (Coerced key trait_no to) S b S' b' =
      Then (Acts t (action (site_in h.id key)))
      (Acts t (effects.Unsize (site_in h.id to) trait_no (moved h.id key))) S b S' b'

  abbrev pub PutsUnit : NodeHead → Destination → CodeSpot
  PutsUnit h to = Delivers h (λ site. effects.Put site effects.UnitValue) to

  abbrev pub PutsUnitIf : (is_never : Bool) → NodeHead → Destination → CodeSpot
  PutsUnitIf true h to = Nothing
  PutsUnitIf false h to = PutsUnit h to

  abbrev pub InOwnScope : NodeHead → Bool → CodeSpot → CodeSpot
  InOwnScope h true P = InScope t h.id true P
  InOwnScope h false P = P

  abbrev pub AloneAt : LoopsAndGuards → Ways → NodeCode → Destination → CodeSpot
  AloneAt around c m to = BackIn (m.evaluates around c true to)

  abbrev pub pending_if : Bool → ((Scope → Scope) → Scopes → Scopes) → NodeHead → Scopes → Scopes
  pending_if b in_that h = changed_if b (in_that (with_pending (entry_of h)))

  abbrev pub completed : ((Scope → Scope) → Scopes → Scopes) → NodeHead → Scopes → Scopes
  completed in_that h = in_that (becomes_entry (entry_of h))

  abbrev pub OperandAt : LoopsAndGuards → Ways → NodeCode → CodeSpot
  OperandAt around c m =
      After (pending_if m.shape.in_destination innermost m.head)
      (Then (m.evaluates around c false (Into m.head.id)) (Changes (completed innermost m.head)))

  abbrev pub OperandsAt : LoopsAndGuards → Ways → List NodeCode → CodeSpot
  OperandsAt around c [] = Nothing
  OperandsAt around c (m ∷ ms) = Then (OperandAt around c m) (OperandsAt around c ms)

  abbrev pub taken : List ℕ → Scopes → Scopes
  taken keys = innermost (without_operands keys)

  abbrev pub ActingAt : NodeHead → LoopsAndGuards → Ways → Bool → List NodeCode → CodeSpot → CodeSpot
  ActingAt h around c own ms P =
      InScope t h.id own (Then (OperandsAt around c ms) (After (taken (keys_of ms)) P))

  abbrev pub DroppingAt : NodeHead → LoopsAndGuards → Ways → Bool → NodeCode → CodeSpot → CodeSpot
  DroppingAt h around c own m P = InScope t h.id own (Then (OperandAt around c m) P)

  -- Places.

  abbrev pub TemporaryAt : NodeHead → Shape → EvaluatesAt → ReachesAt
  TemporaryAt h shape evaluates around c =
      After (pending_if shape.in_destination nearest_temporary h)
      (Then (evaluates around c false (Into h.id)) (Changes (completed nearest_temporary h)))

  abbrev pub UseAt : NodeHead → Shape → ReachesAt → EvaluatesAt
  UseAt h shape reaches around c own to =
      InOwnScope h own (Then (reaches around c)
      (Delivers h (λ site. effects.Put site (operand_at h (shape.place around.aliases))) to))

  abbrev pub array_around : Place → Place
  array_around place = record place { steps = before_element place.steps }

  abbrev pub ElementAt : NodeHead → Shape → NodeCode → NodeCode → ℕ → ReachesAt
  ElementAt h shape base index count around c =
      Then (base.reaches around c)
      (Then (index.evaluates around c false (Into index.head.id))
      (Then (Acts t (effects.Touch (site_at h (array_around (shape.place around.aliases)))))
      (Acts t (effects.Bounds (effects.Copied (site_of_key index.head.id)) count))))

  abbrev pub BorrowAt : NodeHead → Bool → NodeCode → EvaluatesAt
  BorrowAt h unique base around c own to =
      InOwnScope h own (Then (base.reaches around c)
      (Delivers h (λ site. effects.Borrow (record site { node = base.head.id }) unique (site_of_code base around)) to))

  abbrev pub UnitAfterAt : NodeHead → Action → Destination → CodeSpot
  UnitAfterAt h action to = Then (Acts t action) (PutsUnit h to)

  -- Assignment: what the place still holds is dropped, and the value is stored on both ways on.

  abbrev pub StoresAt : EffectSite → ℕ → CodeSpot
  StoresAt site key = After (taken (key ∷ [])) (Acts t (effects.Put site (moved site.node key)))

  -- the block to which a panic out of the drop leads: the value is stored, and then all is dropped
  abbrev pub StoresUnwindingAt : EffectSite → ℕ → Scopes → ℕ → Type 0
  StoresUnwindingAt site key S n =
      StepAt t n × (m : CodePos) × (m' : CodePos) × StmtAt t (effects.Put site (moved site.node key)) (n, 0) m ×
      Leads t m m'
      × CleanAt t (panic_drops t (taken (key ∷ []) S)) m'

  abbrev pub ReplacesAt : Bool → EffectSite → ℕ → CodeSpot
  ReplacesAt false site key S b S' b' = StoresAt site key S b S' b'
  ReplacesAt true site key S b S' b' =
      (place : graph_place.Place) × (n : ℕ) × (u : ℕ) × TermAt t (Term.DropAt place n (Unwind.Block u)) b
      × (site_of (node_at t b) place ≡ site_on t.local_of site) × StepAt t n × StoresAt site key S (n, 0) S' b'
      × StoresUnwindingAt site key S u

  abbrev pub AssignAt : NodeHead → NodeCode → NodeCode → EvaluatesAt
  AssignAt h place value around c own to =
      InScope t h.id own (Then (OperandAt around c value)
      (Then (place.reaches around c)
      (Then (ReplacesAt (needs_drop t.items place.head.ty) (site_of_code place around) value.head.id)
      (PutsUnit h to))))

  -- Conditions and branches: a test with its two ways on.

  abbrev pub IfAt : effects.Operand → (b if_true if_false : CodePos) → Type 0
  IfAt operand b if_true if_false =
      (on : Operand) × (y : ℕ) × (n : ℕ) × TermAt t (Term.If on y n) b
      × (operand_of (node_at t b) on ≡ operand_in t.local_of operand) × EntersAt t y if_true × EntersAt t n if_false

  abbrev pub CaseAt : EffectSite → ℕ → (b if_true if_false : CodePos) → Type 0
  CaseAt site variant b if_true if_false =
      (on : graph_place.Place) × (y : ℕ) × (n : ℕ) × TermAt t (Term.Case on variant y n) b
      × (site_of (node_at t b) on ≡ site_on t.local_of site) × EntersAt t y if_true × EntersAt t n if_false

  -- what is done where a test holds, and where it does not
  abbrev pub BranchesAt : (CodePos → CodePos → CodePos → Type 0) → CodeSpot → CodeSpot → CodeSpot
  BranchesAt Test P Q S b S' b' =
      (if_true : CodePos) × (if_false : CodePos) × Test b if_true if_false
      × Joins t P S if_true S' b' × Joins t Q S if_false S' b'

  abbrev pub ConditionAt : LoopsAndGuards → Ways → NodeCode → CodeSpot → CodeSpot → CodeSpot
  ConditionAt around c m P Q =
      Then (AloneAt around c m (Into m.head.id)) (BranchesAt (IfAt (moved m.head.id m.head.id)) P Q)

  abbrev pub BranchAt : LoopsAndGuards → Ways → Destination → CodeIfAny → CodeSpot → CodeSpot
  BranchAt around c to no_code without = without
  BranchAt around c to (a_code m) without = AloneAt around c m to

  -- Patterns: their tests from left to right, with two ways on.

  abbrev pub EqualsAt : EffectSite → effects.Operand → (b if_true if_false : CodePos) → Type 0
  EqualsAt site value b if_true if_false =
      (m : CodePos) × StmtAt t (effects.Compare (site_of_key site.node) Cmp.Eq (effects.Copied site) value) b m
      × IfAt (moved site.node site.node) m if_true if_false

  abbrev mutual
    pub TestAt : PatternTest → (b if_true if_false : CodePos) → Type 0
    TestAt (IsVariant site variant) b if_true if_false = CaseAt site variant b if_true if_false
    TestAt (IsNumber site value kind) b if_true if_false = EqualsAt site (effects.Number value kind) b if_true if_false
    TestAt (IsTruth site value) b if_true if_false = EqualsAt site (effects.Truth value) b if_true if_false
    TestAt (AnyOf alternatives) b if_true if_false = AnyTestAt alternatives b if_true if_false

    pub TestsAt : PatternTests → (b if_true if_false : CodePos) → Type 0
    TestsAt no_test b if_true if_false = Leads t b if_true
    TestsAt (a_test first rest) b if_true if_false =
        (m : CodePos) × TestAt first b m if_false × TestsAt rest m if_true if_false

    pub AnyTestAt : Alternatives → (b if_true if_false : CodePos) → Type 0
    AnyTestAt no_alternative b if_true if_false = Leads t b if_false
    AnyTestAt (an_alternative tests rest) b if_true if_false =
        (m : CodePos) × TestsAt tests b if_true m × AnyTestAt rest m if_true if_false

  abbrev pub BindsAt : ((Scope → Scope) → Scopes → Scopes) → List BoundName → CodeSpot
  BindsAt in_that [] = Nothing
  BindsAt in_that (b ∷ bounds) =
      Then (Acts t (effects.Put (site_of_key b.key) (operand_of_bound b)))
      (After (in_that (with_entry (bound_entry b))) (BindsAt in_that bounds))

  abbrev pub TouchedAt : Bool → EffectSite → CodeSpot
  TouchedAt true site = Acts t (effects.Touch site)
  TouchedAt false site = Nothing

  abbrev pub ScrutinisedAt : LoopsAndGuards → Ways → NodeCode → CodeSpot
  ScrutinisedAt around c m = Then (m.reaches around c) (TouchedAt m.shape.is_place (site_of_code m around))

  abbrev pub PanicsAt : Why → CodeSpot
  PanicsAt why S b S' b' = (unwind : Unwind) × TermAt t (Term.Panic why unwind) b × Cleans t (panic_drops t S) unwind

  -- `if let`, and a turn of `while let`
  abbrev pub IfTakenAt : NodeHead → LoopsAndGuards → Ways → NodeCode → NodeCode → CodeSpot → CodeSpot → CodeSpot
  IfTakenAt h around c pattern scrutinee P Q =
      After (with_scope h.id true) (Then (ScrutinisedAt around c scrutinee)
      (BranchesAt (TestsAt (pattern.shape.tests (place_of scrutinee around)))
      (Then (Then (BindsAt innermost (pattern.shape.bindings (place_of scrutinee around))) P) (LeavesScope t))
      (Then (LeavesScope t) Q)))

  -- where an arm is not taken the next one is tried, from the same scopes
  abbrev pub ArmsInOrderAt : List NodeCode → Place → LoopsAndGuards → Ways → Destination → CodeSpot
  ArmsInOrderAt [] matched around c to S b S' b' = PanicsAt Why.Match S b S' b'
  ArmsInOrderAt (arm ∷ arms) matched around c to S b S' b' =
      (rest : CodePos) × arm.arm matched rest around c to S b S' b' ×
      ArmsInOrderAt arms matched around c to S rest S' b'

  abbrev pub MatchAt : NodeHead → NodeCode → List NodeCode → EvaluatesAt
  MatchAt h scrutinee arms around c own to =
      InOwnScope h own (Then (ScrutinisedAt around c scrutinee)
      (ArmsInOrderAt arms (place_of scrutinee around) around c to))

  abbrev pub TakenArmAt : NodeHead → LoopsAndGuards → Ways → List BoundName → NodeCode → Destination → CodeSpot
  TakenArmAt h around c bounds m to =
      InScope t h.id false (Then (BindsAt innermost bounds) (AloneAt around c m to))

  -- what is done where a test holds; where it does not, the code of the next arm follows
  abbrev pub IfTakenElse : effects.Operand → CodeSpot → CodePos → CodeSpot
  IfTakenElse operand P rest S b S' b' = (if_true : CodePos) × IfAt operand b if_true rest × P S if_true S' b'

  abbrev pub GuardedAt : LoopsAndGuards → Ways → List BoundName → CodeIfAny → CodeSpot → CodePos → CodeSpot
  GuardedAt around c bounds no_code P rest = P
  GuardedAt around c bounds (a_code guard) P rest =
      Then (AloneAt (in_guard bounds around) c guard (Into guard.head.id))
      (IfTakenElse (moved guard.head.id guard.head.id) P rest)

  abbrev pub ArmAt : NodeHead → NodeCode → CodeIfAny → NodeCode → ArmsAt
  ArmAt h pattern guard m matched rest around c to S b S' b' =
      (if_true : CodePos) × TestsAt (pattern.shape.tests matched) b if_true rest
      × GuardedAt around c (pattern.shape.bindings matched) guard
      (Joins t (TakenArmAt h around c (pattern.shape.bindings matched) m to)) rest S if_true S' b'

  -- Blocks and statements.

  abbrev pub StatementsAt : LoopsAndGuards → Ways → List NodeCode → CodeSpot
  StatementsAt around c [] = Nothing
  StatementsAt around c (m ∷ ms) =
      Then (m.evaluates around c false (Into m.head.id)) (StatementsAt around c ms)

  abbrev pub TailAt : NodeHead → CodeIfAny → LoopsAndGuards → Ways → Destination → CodeSpot
  TailAt h no_code around c to = PutsUnitIf (is_never t.items h.ty) h to
  TailAt h (a_code m) around c to = AloneAt around c m to

  abbrev pub BlockAt : NodeHead → List NodeCode → CodeIfAny → EvaluatesAt
  BlockAt h ms tail around c own to =
      InScope t h.id own (Then (StatementsAt around c ms) (TailAt h tail around c to))

  abbrev pub EvaluatingAt : NodeHead → NodeCode → ReachesAt
  EvaluatingAt h m around c =
      InScope t h.id true (After (pending_if true innermost m.head)
      (Then (m.evaluates around c false (Into m.head.id)) (Changes (completed innermost m.head))))

  -- the value is the youngest entry of the block around the statement
  abbrev pub named : NodeHead → Scopes → Scopes
  named x S = around_innermost (with_entry (entry_of x)) (innermost (without_pending (entry_of x)) S)

  abbrev pub LetNameAt : NodeHead → NodeHead → NodeCode → ReachesAt
  LetNameAt h x m around c =
      InScope t h.id true (After (pending_if true innermost x)
      (Then (m.evaluates around c false (Into x.id)) (Changes (named x))))

  abbrev pub LetPartsAt : NodeHead → NodeCode → NodeCode → ReachesAt
  LetPartsAt h pattern m around c =
      InScope t h.id true (After (pending_if (not (m.shape.is_place || m.shape.in_destination)) innermost m.head)
      (Then (m.reaches around c) (BindsAt around_innermost (pattern.shape.bindings (place_of m around)))))

  abbrev pub EmptiedAt : Bool → ℕ → CodeSpot
  EmptiedAt true key S b S' b' = Nothing S b S' b'
  EmptiedAt false key S b S' b' = (S' ≡ S) × DropsAt t (site_of_key key) (panic_drops t S) b b'

  abbrev pub DeclaredAt : List BoundName → CodeSpot
  DeclaredAt [] = Nothing
  DeclaredAt (b ∷ bounds) =
      Then (EmptiedAt (needs_drop t.items b.ty) b.key)
      (After (innermost (with_entry (bound_entry b))) (DeclaredAt bounds))

  abbrev pub LetValueAt : Bool → NodeHead → NodeCode → NodeCode → ReachesAt
  LetValueAt true h pattern m = LetNameAt h pattern.head m
  LetValueAt false h pattern m = LetPartsAt h pattern m

  abbrev pub LetAt : NodeHead → NodeCode → CodeIfAny → ReachesAt
  LetAt h pattern no_code around c = DeclaredAt (pattern.shape.bindings (whole_local 0))
  LetAt h pattern (a_code m) around c = LetValueAt pattern.shape.is_binding h pattern m around c

  -- Loops and jumps.

  -- A loop: its turn block, to which its code comes back, and the block after it, if some jump leads there.
  abbrev pub LoopAt : ℕ → (Ways → CodeSpot) → Ways → CodeSpot
  LoopAt id turn c S b S' b' =
      (begin : ℕ) × (exit : ℕ) × (is_left : Bool) × (e : CodePos) × TermAt t (Term.Goto begin) b × TurnAt t begin
      × turn (ways_in_loop id (length S) exit begin is_left c) S (begin, 0) S e × TermAt t (Term.Goto begin) e
      × (is_left ≡ true → EntersAt t exit b' × (S' ≡ S))

  abbrev pub JumpValueAt : NodeHead → CodeIfAny → LoopsAndGuards → Ways → Destination → CodeSpot
  JumpValueAt h no_code around c to = PutsUnit h to
  JumpValueAt h (a_code m) around c to = m.evaluates around c false to
