-- How the forms of expressions and statements are evaluated, each from the meanings of its parts (The Rust Reference,
-- "Expressions", "Statements", "Destructors"). All of it is over any effects: those on values give what a program
-- does, those on what is present and gone give its free runs. The lines of a `do` block follow one another as long as
-- each has a value.
use Rattle.std.specs.Prelude.{ℕ, zero, suc, ◌==◌, Bool, true, false, not, ◌||◌, List, [], ◌∷◌, map, Option, Some, None, if◌then◌else◌}
use Rattle.mir_base.specs.declared.operator.Cmp.{Cmp}
use Rattle.mir_base.specs.declared.trace.Why.{Why}
use Rattle.mir_ty.specs.declared.ty.TyId.{TyId}
use Rattle.mir_ty.specs.Facts.{needs_drop}
use Rattle.mir_ty.specs.ItemTable.{ItemTable, type_at}
use Rattle.store_model.specs.Effects.{EffectSite, Operand, Moved, Copied, Number, Truth, UnitValue, Action, Put, Compare, Touch, Bounds, Borrow, Unsize, IsTrue, HasVariant, Normal, Stuck, OutOfTicks, Out, Go, Unwind, Halts, Choice, Yes, No, Neither, Effects}
use Rattle.store_model.specs.Places.Place.{Place, whole_local, before_element}
use Rattle.store_model.specs.Places.TypeForms.{is_never as is_never_ty}
use Rattle.src_meaning.specs.Scopes.{Entry, Scope, Scopes, innermost, around_innermost, nearest_temporary, with_entry, with_pending, without_pending, becomes_entry, without_operands, Exit, Value, Breaks, Continues, Panics, Run, At, Over, Does, ◌>>◌, doing, changing, choosing, back_in, in_scope, in_scope_with, leaving}
use Rattle.src_meaning.specs.Shape.{NodeHead, Shape, Aliases, PatternTest, IsVariant, IsNumber, IsTruth, AnyOf, PatternTests, no_test, a_test, Alternatives, no_alternative, an_alternative, BoundName, site_at, operand_of_bound, operand_at}

-- where a value is made: in the entry with a key; or in one of its own, from which a box is coerced to a trait object
pub data Destination : Type 0 where
  Into : (key : ℕ) → Destination
  Coerced : (key trait_no to : ℕ) → Destination

abbrev pub coerced : ℕ → ℕ → Destination → Destination
coerced key trait_no (Into to) = Coerced key trait_no to
coerced key trait_no (Coerced other another to) = Coerced key trait_no to

-- what a node is in: the destination of the body's result, the loops around it by number with their destinations, and
-- the bindings that stand for parts of a scrutinee
pub record LoopsAndGuards : Type 0 where
  pub answer : Destination
  pub loops : List (ℕ × Destination)
  pub aliases : Aliases

abbrev pub in_loop : ℕ → Destination → LoopsAndGuards → LoopsAndGuards
in_loop id to around = record around { loops = (id, to) ∷ around.loops }

abbrev pub loop_destination : ℕ → List (ℕ × Destination) → Destination
loop_destination id [] = Into id
loop_destination id (l ∷ loops) = if id == l.0 then l.1 else loop_destination id loops

-- in a guard the names of its arm's bindings stand for the matched parts
abbrev pub aliases_with : List BoundName → Aliases → Aliases
aliases_with [] aliases = aliases
aliases_with (b ∷ bounds) aliases = (b.key, b.site.place) ∷ aliases_with bounds aliases

abbrev pub in_guard : List BoundName → LoopsAndGuards → LoopsAndGuards
in_guard bounds around = record around { aliases = aliases_with bounds around.aliases }

-- How a node is evaluated, as a scope for temporaries of its own or not, into a destination; how its place is reached,
-- which is then the place of its shape; and what it does as an arm with the place that is matched, given what is done
-- where the arm is not taken.
pub record Meaning (W : Type 0) : Type 0 where
  pub head : NodeHead
  pub shape : Shape
  pub evaluate : LoopsAndGuards → Bool → Destination → Does W
  pub reach : LoopsAndGuards → Does W
  pub arm : Place → Does W → LoopsAndGuards → Destination → Does W

abbrev pub entry_of : NodeHead → Entry
entry_of h = record { key = h.id; ty = h.ty }

abbrev pub bound_entry : BoundName → Entry
bound_entry b = record { key = b.key; ty = b.ty }

-- All sites of one effect have the number of one node: that of the node that acts, for a borrow that of its base, for
-- the store of an assignment that of its place.
abbrev pub site_in : ℕ → ℕ → EffectSite
site_in node key = record { node = node; place = whole_local key }

abbrev pub site_of_key : ℕ → EffectSite
site_of_key key = site_in key key

abbrev pub moved : ℕ → ℕ → Operand
moved node key = Moved (site_in node key)

abbrev pub keys_of : {W : Type 0} → List (Meaning W) → List ℕ
keys_of ms = map (λ m. m.head.id) ms

abbrev pub all_moved : {W : Type 0} → ℕ → List (Meaning W) → List Operand
all_moved node ms = map (λ m. moved node m.head.id) ms

abbrev pub place_of : {W : Type 0} → Meaning W → LoopsAndGuards → Place
place_of m around = m.shape.place around.aliases

abbrev pub site_of : {W : Type 0} → Meaning W → LoopsAndGuards → EffectSite
site_of m around = site_at m.head (place_of m around)

abbrev pub is_never : ItemTable → TyId → Bool
is_never items id = is_never_ty (type_at items id)

abbrev pub changed_if : {A : Type 0} → Bool → (A → A) → A → A
changed_if true change a = change a
changed_if false change a = a

module _ {W : Type 0} (items : ItemTable) (p : Effects W) where
  -- Values and destinations.

  abbrev pub acts : Action → Does W
  acts action = doing (p.act action)

  abbrev pub panics : Why → Does W
  panics why = doing (λ w. Unwind (p.panic why w))

  abbrev pub deliver : NodeHead → (EffectSite → Action) → Destination → Does W
  deliver h action (Into key) = acts (action (site_in h.id key))
  deliver h action (Coerced key trait_no to) = do
    acts (action (site_in h.id key))
    acts (Unsize (site_in h.id to) trait_no (moved h.id key))

  abbrev pub put_unit : NodeHead → Destination → Does W
  put_unit h to = deliver h (λ site. Put site UnitValue) to

  -- no value is put where no run comes
  abbrev pub put_unit_if : Bool → NodeHead → Destination → Does W
  put_unit_if true h to = At Value
  put_unit_if false h to = put_unit h to

  -- a node that is a scope for temporaries of its own, or not
  abbrev pub in_own_scope : NodeHead → Bool → Does W → Does W
  in_own_scope h true does = in_scope items p h.id true does
  in_own_scope h false does = does

  -- a node is evaluated as a scope for temporaries of its own, and leaves the scopes around it as they were
  abbrev pub alone : LoopsAndGuards → Meaning W → Destination → Does W
  alone around m to S w = back_in S (m.evaluate around true to S w)

  -- a destination is pending in a scope until it is complete; then it is the youngest entry there
  abbrev pub pending_if : Bool → ((Scope → Scope) → Scopes → Scopes) → NodeHead → Does W
  pending_if b in_that h = changing (changed_if b (in_that (with_pending (entry_of h))))

  abbrev pub complete : ((Scope → Scope) → Scopes → Scopes) → NodeHead → Does W
  complete in_that h = changing (in_that (becomes_entry (entry_of h)))

  -- an operand is made, and becomes an entry of the innermost scope
  abbrev pub operand : LoopsAndGuards → Meaning W → Does W
  operand around m = do
    pending_if m.shape.in_destination innermost m.head
    m.evaluate around false (Into m.head.id)
    complete innermost m.head

  abbrev pub operands : LoopsAndGuards → List (Meaning W) → Does W
  operands around [] = At Value
  operands around (m ∷ ms) = operand around m >> operands around ms

  -- operands are no entries any more as they are taken
  abbrev pub take : List ℕ → Does W
  take keys = changing (innermost (without_operands keys))

  -- a form with operands: they are made in order in its scope, and all taken at once as it acts
  abbrev pub acting : NodeHead → LoopsAndGuards → Bool → List (Meaning W) → Does W → Does W
  acting h around own ms act = in_scope items p h.id own do
    operands around ms
    take (keys_of ms)
    act

  -- `drop(e)` leaves its operand in the scope, which drops it
  abbrev pub dropping : NodeHead → LoopsAndGuards → Bool → Meaning W → Does W → Does W
  dropping h around own m act = in_scope items p h.id own do
    operand around m
    act

  -- Places.

  -- a value in the place of a place becomes an entry of the nearest scope for temporaries
  abbrev pub temporary : NodeHead → Shape → (LoopsAndGuards → Bool → Destination → Does W) → LoopsAndGuards → Does W
  temporary h shape evaluate around = do
    pending_if shape.in_destination nearest_temporary h
    evaluate around false (Into h.id)
    complete nearest_temporary h

  abbrev pub use_of_place : NodeHead → Shape → (LoopsAndGuards → Does W) → LoopsAndGuards → Bool → Destination → Does W
  use_of_place h shape reach around own to = in_own_scope h own do
    reach around
    deliver h (λ site. Put site (operand_at h (shape.place around.aliases))) to

  abbrev pub array_around : Place → Place
  array_around place = record place { steps = before_element place.steps }

  -- the base, then the index, then the whole array is borrowed and the bounds are checked
  abbrev pub reach_element : NodeHead → Shape → Meaning W → Meaning W → ℕ → LoopsAndGuards → Does W
  reach_element h shape base index length around = do
    base.reach around
    index.evaluate around false (Into index.head.id)
    acts (Touch (site_at h (array_around (shape.place around.aliases))))
    acts (Bounds (Copied (site_of_key index.head.id)) length)

  abbrev pub borrowing : NodeHead → Bool → Meaning W → LoopsAndGuards → Bool → Destination → Does W
  borrowing h unique base around own to = in_own_scope h own do
    base.reach around
    deliver h (λ site. Borrow (record site { node = base.head.id }) unique (site_of base around)) to

  -- Assignment.

  abbrev pub stored : EffectSite → ℕ → Does W
  stored site key = do
    take (key ∷ [])
    acts (Put site (moved site.node key))

  -- the value is stored, also where the drop of what the place held panics
  abbrev pub stored_after : EffectSite → ℕ → Scopes → Out W → Run W
  stored_after site key S (Go w) = stored site key S w
  stored_after site key S (Unwind w) = (stored site key >> At Panics) S w
  stored_after site key S (Halts halt w) = Over halt w

  abbrev pub dropped_first : Bool → EffectSite → W → Out W
  dropped_first true site w = p.drop Normal site w
  dropped_first false site w = Go w

  -- what the place still holds is dropped, and the value is stored
  abbrev pub replacing : Bool → EffectSite → ℕ → Does W
  replacing drops site key S w = stored_after site key S (dropped_first drops site w)

  abbrev pub assigning : NodeHead → Meaning W → Meaning W → LoopsAndGuards → Bool → Destination → Does W
  assigning h place value around own to = in_scope items p h.id own do
    operand around value
    place.reach around
    replacing (needs_drop items place.head.ty) (site_of place around) value.head.id
    put_unit h to

  -- Conditions and branches.

  -- a condition is a scope for its temporaries, which is left before the branch
  abbrev pub condition : LoopsAndGuards → Meaning W → Does W → Does W → Does W
  condition around m yes_does no_does = do
    alone around m (Into m.head.id)
    choosing (p.choose (IsTrue (moved m.head.id m.head.id))) yes_does no_does

  abbrev pub branch : LoopsAndGuards → Destination → Option (Meaning W) → Does W → Does W
  branch around to None without = without
  branch around to (Some m) without = alone around m to

  -- Patterns.

  abbrev pub tested : Out W → Operand → Choice W
  tested (Go w) operand = p.choose (IsTrue operand) w
  tested (Unwind w) operand = Neither Stuck w
  tested (Halts halt w) operand = Neither halt w

  abbrev pub equals : EffectSite → Operand → W → Choice W
  equals site value w =
      tested (p.act (Compare (site_of_key site.node) Cmp.Eq (Copied site) value) w) (moved site.node site.node)

  abbrev pub tests_after : Choice W → (W → Choice W) → Choice W
  tests_after (Yes w) rest = rest w
  tests_after answer rest = answer

  abbrev pub alternatives_after : Choice W → (W → Choice W) → Choice W
  alternatives_after (No w) rest = rest w
  alternatives_after answer rest = answer

  -- whether a pattern takes what stands at its place: its tests from left to right
  abbrev mutual
    pub holds : PatternTest → W → Choice W
    holds (IsVariant site variant) w = p.choose (HasVariant site variant) w
    holds (IsNumber site value kind) w = equals site (Number value kind) w
    holds (IsTruth site value) w = equals site (Truth value) w
    holds (AnyOf alternatives) w = any_holds alternatives w

    pub all_hold : PatternTests → W → Choice W
    all_hold no_test w = Yes w
    all_hold (a_test first rest) w = tests_after (holds first w) (all_hold rest)

    pub any_holds : Alternatives → W → Choice W
    any_holds no_alternative w = No w
    any_holds (an_alternative tests rest) w = alternatives_after (all_hold tests w) (any_holds rest)

  -- the names of a pattern, in its order, become entries of a scope
  abbrev pub bind : ((Scope → Scope) → Scopes → Scopes) → List BoundName → Does W
  bind in_that [] = At Value
  bind in_that (b ∷ bounds) = do
    acts (Put (site_of_key b.key) (operand_of_bound b))
    changing (in_that (with_entry (bound_entry b)))
    bind in_that bounds

  abbrev pub touched : Bool → EffectSite → Does W
  touched true site = acts (Touch site)
  touched false site = At Value

  -- a scrutinee is a place, which is borrowed whole before the first test, or a temporary
  abbrev pub scrutinised : LoopsAndGuards → Meaning W → Does W
  scrutinised around m = do
    m.reach around
    touched m.shape.is_place (site_of m around)

  -- `if let`, and a turn of `while let`: scrutinee, names and body are in one scope, which is left before what happens
  -- where the pattern does not take the scrutinee
  abbrev pub if_taken : NodeHead → LoopsAndGuards → Meaning W → Meaning W → Does W → Does W → Does W
  if_taken h around pattern scrutinee body otherwise =
      in_scope_with items p h.id true (scrutinised around scrutinee)
      (choosing (all_hold (pattern.shape.tests (place_of scrutinee around)))
      (leaving items p do
        bind innermost (pattern.shape.bindings (place_of scrutinee around))
        body)
      (do
        leaving items p (At Value)
        otherwise))

  abbrev pub arms_in_order : List (Meaning W) → Place → LoopsAndGuards → Destination → Does W
  arms_in_order [] matched around to = panics Why.Match
  arms_in_order (arm ∷ arms) matched around to = arm.arm matched (arms_in_order arms matched around to) around to

  abbrev pub matching : NodeHead → Meaning W → List (Meaning W) → LoopsAndGuards → Bool → Destination → Does W
  matching h scrutinee arms around own to = in_own_scope h own do
    scrutinised around scrutinee
    arms_in_order arms (place_of scrutinee around) around to

  -- an arm that is taken: its names are entries of the arm, and its body is a scope for temporaries
  abbrev pub taken_arm : NodeHead → LoopsAndGuards → List BoundName → Meaning W → Destination → Does W
  taken_arm h around bounds body to = in_scope items p h.id false do
    bind innermost bounds
    alone around body to

  abbrev pub guarded : LoopsAndGuards → List BoundName → Option (Meaning W) → Does W → Does W → Does W
  guarded around bounds None taken otherwise = taken
  guarded around bounds (Some guard) taken otherwise = condition (in_guard bounds around) guard taken otherwise

  -- an arm: its tests, then its guard, then its names and its body
  abbrev pub arm : NodeHead → Meaning W → Option (Meaning W) → Meaning W → Place → Does W → LoopsAndGuards → Destination →
      Does W
  arm h pattern guard body matched otherwise around to =
      choosing (all_hold (pattern.shape.tests matched))
      (guarded around (pattern.shape.bindings matched) guard
      (taken_arm h around (pattern.shape.bindings matched) body to)
      otherwise)
      otherwise

  -- Blocks and statements.

  abbrev pub statements : LoopsAndGuards → List (Meaning W) → Does W
  statements around [] = At Value
  statements around (m ∷ ms) = do
    m.evaluate around false (Into m.head.id)
    statements around ms

  abbrev pub tail_of : NodeHead → Option (Meaning W) → LoopsAndGuards → Destination → Does W
  tail_of h None around to = put_unit_if (is_never items h.ty) h to
  tail_of h (Some m) around to = alone around m to

  -- a block is a scope, and its tail one for temporaries
  abbrev pub block : NodeHead → List (Meaning W) → Option (Meaning W) → LoopsAndGuards → Bool → Destination → Does W
  block h ms tail around own to = in_scope items p h.id own do
    statements around ms
    tail_of h tail around to

  -- the value of an expression statement is an entry of the statement's scope
  abbrev pub evaluating : NodeHead → Meaning W → LoopsAndGuards → Does W
  evaluating h m around = in_scope items p h.id true do
    pending_if true innermost m.head
    m.evaluate around false (Into m.head.id)
    complete innermost m.head

  -- `let` of one name: the value is pending in the statement's scope, and then the youngest entry of the block
  abbrev pub let_name : NodeHead → NodeHead → Meaning W → LoopsAndGuards → Does W
  let_name h x m around = in_scope items p h.id true do
    pending_if true innermost x
    m.evaluate around false (Into x.id)
    changing (innermost (without_pending (entry_of x)))
    changing (around_innermost (with_entry (entry_of x)))

  -- `let` of another pattern: from a place, or from a temporary of the statement, which is pending until it is complete
  abbrev pub let_parts : NodeHead → Meaning W → Meaning W → LoopsAndGuards → Does W
  let_parts h pattern m around = in_scope items p h.id true do
    pending_if (not (m.shape.is_place || m.shape.in_destination)) innermost m.head
    m.reach around
    bind around_innermost (pattern.shape.bindings (place_of m around))

  -- one whose type needs dropping is gone already, since it is new or was dropped with its scope; another may hold the
  -- value of the turn of a loop before
  abbrev pub emptied : Bool → ℕ → Does W
  emptied true key = At Value
  emptied false key = doing (p.drop Normal (site_of_key key))

  -- `let` without a value: its names are entries that are gone
  abbrev pub declared : List BoundName → Does W
  declared [] = At Value
  declared (b ∷ bounds) = do
    emptied (needs_drop items b.ty) b.key
    changing (innermost (with_entry (bound_entry b)))
    declared bounds

  abbrev pub let_value : Bool → NodeHead → Meaning W → Meaning W → LoopsAndGuards → Does W
  let_value true h pattern m = let_name h pattern.head m
  let_value false h pattern m = let_parts h pattern m

  abbrev pub letting : NodeHead → Meaning W → Option (Meaning W) → LoopsAndGuards → Does W
  letting h pattern None around = declared (pattern.shape.bindings (whole_local 0))
  letting h pattern (Some m) around = let_value pattern.shape.is_binding h pattern m around

  -- Loops and jumps.

  abbrev pub ticked : Out W → (W → Run W) → Run W
  ticked (Go w) next = next w
  ticked (Unwind w) next = Over Stuck w
  ticked (Halts halt w) next = Over halt w

  -- what follows a turn of a loop, which began in these scopes: the next turn, or the end of the loop
  abbrev pub turned : ℕ → Scopes → Run W → Does W → Run W
  turned id begun (At Value S w) next = next S w
  turned id begun (At (Breaks loop) S w) next = if id == loop then At Value begun w else At (Breaks loop) S w
  turned id begun (At (Continues loop) S w) next = (if id == loop then next begun else At (Continues loop) S) w
  turned id begun run next = run

  -- fewer turns than so many. Each spends a tick, or takes a choice, so fuel that is greater than what is left of
  -- these never ends a loop by itself
  abbrev pub turns : ℕ → ℕ → Does W → Does W
  turns zero id turn S w = Over OutOfTicks w
  turns (suc n) id turn S w = ticked (p.tick w) (λ w. turned id S (turn S w) (turns n id turn))

  -- the end of a loop with a condition
  abbrev pub ends_loop : NodeHead → Destination → Does W
  ends_loop h to = do
    put_unit h to
    At (Breaks h.id)

  abbrev pub value_of_jump : NodeHead → Option (Meaning W) → LoopsAndGuards → Destination → Does W
  value_of_jump h None around to = put_unit h to
  value_of_jump h (Some m) around to = m.evaluate around false to

  abbrev pub jumping : Exit → NodeHead → Option (Meaning W) → LoopsAndGuards → Destination → Does W
  jumping exit h m around to = do
    value_of_jump h m around to
    At exit
