-- What the turns of a drop leave, as the machine makes them.
use Rattle.std.proofs.Common.{◌≡◌, inl, inr, ℕ, suc, ◌==◌, ◌<◌, ◌≤◌, List, [], ◌∷◌, ◌++◌, Bool, true, false, Option, Some, None, option_map, refl, ap, sym, subst, ◌∙◌}
use Rattle.machine_steps.specs.declared.drops.Drops.{Drops}
use Rattle.machine_steps.specs.declared.drops.Turn.{Turn}
use Rattle.machine_steps.specs.declared.level.Level as rust
use Rattle.machine_steps.specs.declared.found.FoundValue.{FoundValue}
use Rattle.machine_steps.specs.declared.found.DropKind.{DropKind}
use Rattle.machine_steps.specs.declared.found.OwnDrop.{OwnDrop}
use Rattle.machine_steps.specs.Continuation.{Level, PartsOf, ContentOf, own_impl, type_of_number, expected_if, is_still, is_expected, told_serial, finished, found_as, HasLeft, LeavesLeft, GoesLeft, ClearsLeft, VisitsLeft, ReadLeft, AwaitsLeft, EntersLeft, Again}
use Rattle.machine_steps.specs.Reading.{ShowsValue, FindsIt, IsFound, pair_of}
use Rattle.machine_steps.specs.Swept.{IsSwept, freed, is_there, with_events}
use Rattle.machine_steps.proofs.SweptValues.{read_swept}
use Rattle.machine_steps.specs.Turns.{level_of, within, levels_of, mode_by, stage_by, TurnLeft, IsOf, GoesOn, Begins, GoesOnPart, IsContainer, enters_of, expected_by, left_if, Clears, Frees, IsDropOf}
use Rattle.machine_steps.proofs.Below.{into_is, into_untyped, stands_at}
use Rattle.machine_steps.proofs.DropSteps.{still_is, clear_goes, clear_halts, free_goes, free_halts, leave_ends, leave_goes, leave_has_step, go_content, go_end, go_untyped, go_part, visit_nothing, visit_unexpected, visit_reads, read_gone, read_plain, read_parts, read_enters, read_box_untyped, read_box, await_returns, await_unwinds, await_aborts}
use Rattle.cfg_meaning.specs.Programs.{setting_of}
use Rattle.mir_base.specs.Trace.{Trace}
use Rattle.machine_steps.specs.declared.world.World.{World}
use Rattle.machine_steps.specs.Steps.{seen, Halted}
use Rattle.machine_steps.specs.Worlds.{state_of, run_setting}
use Rattle.machine_store.proofs.SameReach.{located_same}
use Rattle.machine_store.specs.Activations.{activations_of}
use Rattle.machine_store.specs.declared.types.Dynamic.{Dynamic}
use Rattle.machine_store.specs.Standing.{dynamic_of, with_activations}
use Rattle.mir_ty.specs.ItemTable.{ItemTable}
use Rattle.store_model.specs.declared.address.Addr.{Addr}
use Rattle.store_model.specs.declared.address.At.{At}
use Rattle.store_model.specs.declared.address.At.TheVariants.{Part, Inside}
use Rattle.store_model.specs.Concrete.Drops as stages
use Rattle.store_model.specs.Concrete.Drops.{drop_impl, in_mode, drop_at, if_still_typed, same_if, gone_at, freed_there, freed_at}
use Rattle.mir_base.specs.declared.trace.Event.{Event}
use Rattle.store_model.specs.Concrete.Location.{Setting, DynamicType, Located, located_at, concrete_ty, type_of_part, stored_at}
use Rattle.store_model.specs.Concrete.State.{State, with_event, Answer, Returns, Unwinds, Bodies}
use Rattle.store_model.specs.Effects.{Mode, Aborted, Stuck, Out, Go, Unwind, Halts}
use Rattle.store_model.specs.Values.Access.{part}
use Rattle.store_model.specs.Values.Datum.{Datum, Gone, Number, Truth, UnitValue, Aggregate, Box, Address}
use Rattle.store_model.specs.Values.Parts.{count}

pub pushed : (levels : List rust.Level) (level : rust.Level) (outer : List Level) → within (levels ++ level ∷ []) outer ≡ level_of level ∷ within levels outer
pushed [] level outer = refl
pushed (one ∷ levels) level outer = pushed levels level (level_of one ∷ outer)

-- a halt without a step is seen so
pub stuck_seen : (out : Out State) (w : State) → out ≡ Halts Stuck w → seen out ≡ Halted Stuck w.trace
stuck_seen out w e = ap seen e

-- no box is of this kind
abbrev pub IsNoBox : DropKind → Type 0
IsNoBox (DropKind.Boxed serial content) = ⊥
IsNoBox kind = Unit {0}

abbrev pub with_level : Drops → rust.Level → Drops
with_level drops level = record drops { levels = drops.levels ++ level ∷ [] }

abbrev pub with_step : Drops → At → Drops
with_step drops step = record drops { address = record drops.address { path = drops.address.path ++ step ∷ [] } }

module _ (items : ItemTable) (ticks : ℕ) (has_run : Bool) (old : Drops) where
  pub begins_gone : (dynamic : Dynamic) → Begins items ticks has_run (record { dynamic = dynamic; kind = DropKind.Nothing }) old old Turn.Leaves
  begins_gone dynamic setting run w out s of there d shows h =
      read_gone setting run old.address.depth old.address.key.0 (levels_of old.levels) (mode_by old.unwinds) old.panicked out w old.address.path (stage_by has_run) s there h shows

  pub begins_plain : (dynamic : Dynamic) → Begins items ticks has_run (record { dynamic = dynamic; kind = DropKind.Plain }) old old (Turn.Clears dynamic)
  begins_plain dynamic setting run w out s of there d shows h =
      subst (ClearsLeft setting run old.address.depth old.address.key.0 (levels_of old.levels) w old.address.path (mode_by old.unwinds) old.panicked out) d
      (read_plain setting run old.address.depth old.address.key.0 (levels_of old.levels) (mode_by old.unwinds) old.panicked out w old.address.path (stage_by has_run) s there h shows)

  pub begins_untyped : (dynamic : Dynamic) (serial : ℕ) → Begins items ticks has_run (record { dynamic = dynamic; kind = DropKind.Boxed serial None }) old old Turn.Stuck
  begins_untyped dynamic serial setting run w out s of there d shows h =
      stuck_seen out w
      (read_box_untyped setting run old.address.depth old.address.key.0 (levels_of old.levels) (mode_by old.unwinds) old.panicked out w old.address.path (stage_by has_run) s there h
      serial shows.impl_no shows.inside shows.is
      (into_untyped setting.items Inside s (subst (λ i. type_of_part i Inside s.value s.dynamic ≡ None) (sym of.items_are) shows.typed)))

  pub begins_box : (dynamic child : Dynamic) (serial : ℕ) →
      Begins items ticks has_run (record { dynamic = dynamic; kind = DropKind.Boxed serial (Some child) }) old (with_step (with_level old (rust.Level.Content dynamic)) Inside) (Turn.Visits false None)
  begins_box dynamic child serial setting run w out s of there d shows h =
      let inside : part Inside s.value ≡ Some shows.inside = ap (part Inside) shows.is in
      let typed : type_of_part setting.items Inside s.value s.dynamic ≡ Some (dynamic_of child) = subst (λ i. type_of_part i Inside s.value s.dynamic ≡ Some (dynamic_of child)) (sym of.items_are) shows.typed in
      let visits =
      read_box setting run old.address.depth old.address.key.0 (levels_of old.levels) (mode_by old.unwinds) old.panicked out w old.address.path (stage_by has_run) s there h
      serial shows.impl_no shows.inside shows.is _ (into_is setting.items Inside s shows.inside (dynamic_of child) inside typed)
      in
      subst (λ levels. VisitsLeft setting run old.address.depth old.address.key.0 levels w (old.address.path ++ Inside ∷ []) (mode_by old.unwinds) old.panicked out stages.Begins None)
      (ap (λ t. ContentOf t ∷ levels_of old.levels) d ∙ sym (pushed old.levels (rust.Level.Content dynamic) []))
      visits

  pub begins_parts : (dynamic : Dynamic) (variant : ℕ) (serial : Option ℕ) (total : ℕ) → own_impl (stage_by has_run) (drop_impl items (concrete_ty items (dynamic_of dynamic))) ≡ None →
      Begins items ticks has_run (record { dynamic = dynamic; kind = DropKind.Parts variant serial total }) old (with_level old (rust.Level.Parts dynamic variant 0 total ticks)) Turn.Goes
  begins_parts dynamic variant serial total none setting run w out s of there d shows h =
      let none' : own_impl (stage_by has_run) (drop_impl setting.items (concrete_ty setting.items s.dynamic)) ≡ None =
      subst (λ i. own_impl (stage_by has_run) (drop_impl i (concrete_ty i s.dynamic)) ≡ None) (sym of.items_are)
      (subst (λ t. own_impl (stage_by has_run) (drop_impl items (concrete_ty items t)) ≡ None) (sym d) none)
      in
      let goes =
      read_parts setting run old.address.depth old.address.key.0 (levels_of old.levels) (mode_by old.unwinds) old.panicked out w old.address.path (stage_by has_run) s there h
      variant serial shows.parts shows.is none'
      in
      subst (λ levels. GoesLeft setting run old.address.depth old.address.key.0 levels w old.address.path (mode_by old.unwinds) old.panicked out)
      (ap (λ t. PartsOf t variant 0 (count shows.parts) w.ticks ∷ levels_of old.levels) d
      ∙ ap (λ n. PartsOf (dynamic_of dynamic) variant 0 n w.ticks ∷ levels_of old.levels) shows.counted
      ∙ ap (λ n. PartsOf (dynamic_of dynamic) variant 0 total n ∷ levels_of old.levels) of.ticks_are
      ∙ sym (pushed old.levels (rust.Level.Parts dynamic variant 0 total ticks) []))
      goes

  pub begins_enters : (dynamic : Dynamic) (variant : ℕ) (serial : Option ℕ) (total : ℕ) (own : OwnDrop) → own_impl (stage_by has_run) (drop_impl items (concrete_ty items (dynamic_of dynamic))) ≡ Some (pair_of own) →
      Begins items ticks has_run (record { dynamic = dynamic; kind = DropKind.Parts variant serial total }) old old (enters_of own serial dynamic)
  begins_enters dynamic variant serial total own some setting run w out s of there d shows h =
      let some' : own_impl (stage_by has_run) (drop_impl setting.items (concrete_ty setting.items s.dynamic)) ≡ Some (pair_of own) =
      subst (λ i. own_impl (stage_by has_run) (drop_impl i (concrete_ty i s.dynamic)) ≡ Some (pair_of own)) (sym of.items_are)
      (subst (λ t. own_impl (stage_by has_run) (drop_impl items (concrete_ty items t)) ≡ Some (pair_of own)) (sym d) some)
      in
      subst (EntersLeft setting run old.address.depth old.address.key.0 (levels_of old.levels) w old.address.path (mode_by old.unwinds) old.panicked out own.adt (told_serial serial) own.body) d
      (read_enters setting run old.address.depth old.address.key.0 (levels_of old.levels) (mode_by old.unwinds) old.panicked out w old.address.path (stage_by has_run) s there h
      variant serial shows.parts shows.is (pair_of own) some')

-- What leaves a value.

pub leaves_end : (items : ItemTable) (ticks : ℕ) (old : Drops) → old.levels ≡ [] → GoesOn Turn.Leaves items ticks old old Turn.Ends
leaves_end items ticks old e setting run w out of h =
    leave_ends setting run old.address.depth old.address.key.0 (levels_of old.levels) (mode_by old.unwinds) old.panicked out w old.address.path (ap levels_of e) h

-- there is an innermost level where there is any
record HasLevel (levels : List Level) : Type 0 where
  pub first : Level
  pub rest : List Level
  pub is : levels ≡ first ∷ rest

some_within : (levels : List rust.Level) (first : Level) (outer : List Level) → HasLevel (within levels (first ∷ outer))
some_within [] first outer = record { first = first; rest = outer; is = refl }
some_within (one ∷ levels) first outer = some_within levels (level_of one) (first ∷ outer)

has_level : (levels : List rust.Level) → (levels ≡ [] → ⊥) → HasLevel (levels_of levels)
has_level [] h = absurd (h refl)
has_level (one ∷ levels) h = some_within levels (level_of one) []

pub leaves_up : (items : ItemTable) (ticks : ℕ) (old new : Drops) (above : List At) → (old.levels ≡ [] → ⊥) → IsContainer old.address.path above →
    new ≡ record old { address = record old.address { path = above } } → GoesOn Turn.Leaves items ticks old new Turn.Goes
leaves_up items ticks old new above some container is setting run w out of h =
    let level = has_level old.levels some in
    let depth = old.address.depth in
    let key = old.address.key.0 in
    let h' : LeavesLeft setting run depth key (level.first ∷ level.rest) w old.address.path (mode_by old.unwinds) old.panicked out =
    subst (λ levels. LeavesLeft setting run depth key levels w old.address.path (mode_by old.unwinds) old.panicked out) level.is h
    in
    let goes : GoesLeft setting run depth key (level.first ∷ level.rest) w above (mode_by old.unwinds) old.panicked out = elim container [
      | inl none ↦ absurd (leave_has_step setting run depth key level.rest (mode_by old.unwinds) old.panicked out level.first w old.address.path h' none)
      | inr ends ↦ leave_goes setting run depth key level.rest (mode_by old.unwinds) old.panicked out level.first w above ends.step
          (subst (λ p. LeavesLeft setting run depth key (level.first ∷ level.rest) w p (mode_by old.unwinds) old.panicked out) ends.is h')
    ]
    in
    subst (λ drops. TurnLeft setting run w out drops Turn.Goes) (sym is)
    (subst (λ levels. GoesLeft setting run depth key levels w above (mode_by old.unwinds) old.panicked out) (sym level.is) goes)

-- What goes on with a container.

pub goes_end : (items : ItemTable) (ticks : ℕ) (old new : Drops) → old.levels ≡ [] → new ≡ old → GoesOn Turn.Goes items ticks old new Turn.Ends
goes_end items ticks old new e is setting run w out of h =
    let rest_ends = subst (λ l. HasLeft setting run old.address.depth old.address.key.0 l w old.address.path h.rest) (ap levels_of e) h.is_rest in
    subst (λ drops. TurnLeft setting run w out drops Turn.Ends) (sym is) (h.is ∙ ap (finished old.panicked) (rest_ends (mode_by old.unwinds) w))

pub goes_content : (items : ItemTable) (ticks : ℕ) (old new : Drops) (dynamic : Dynamic) → old.levels ≡ new.levels ++ rust.Level.Content dynamic ∷ [] → new ≡ record old { levels = new.levels } →
    GoesOn Turn.Goes items ticks old new (Turn.Frees dynamic)
goes_content items ticks old new dynamic e is setting run w out of h =
    let goes = subst (λ l. GoesLeft setting run old.address.depth old.address.key.0 l w old.address.path (mode_by old.unwinds) old.panicked out)
    (ap levels_of e ∙ pushed new.levels (rust.Level.Content dynamic) []) h
    in
    subst (λ (drops : Drops). TurnLeft setting run w out drops (Turn.Frees dynamic)) (sym is)
    (go_content setting run old.address.depth old.address.key.0 (levels_of new.levels) (mode_by old.unwinds) old.panicked out w old.address.path (dynamic_of dynamic) goes)

pub goes_parts : (items : ItemTable) (ticks : ℕ) (old mid new : Drops) (next : Turn) (dynamic : Dynamic) (variant part total read : ℕ) →
    old.levels ≡ mid.levels ++ rust.Level.Parts dynamic variant part total read ∷ [] → mid ≡ record old { levels = mid.levels } →
    GoesOnPart items ticks dynamic variant part total read mid new next → GoesOn Turn.Goes items ticks old new next
goes_parts items ticks old mid new next dynamic variant part total read e is f setting run w out of h =
    let goes = subst (λ l. GoesLeft setting run old.address.depth old.address.key.0 l w old.address.path (mode_by old.unwinds) old.panicked out)
    (ap levels_of e ∙ pushed mid.levels (rust.Level.Parts dynamic variant part total read) []) h
    in
    f setting run w out of
    (subst (λ (drops : Drops). GoesLeft setting run drops.address.depth drops.address.key.0 (PartsOf (dynamic_of dynamic) variant part total read ∷ levels_of drops.levels) w drops.address.path (mode_by drops.unwinds) drops.panicked out)
    (sym is) goes)

module _ (items : ItemTable) (now : ℕ) (dynamic : Dynamic) (variant part total read : ℕ) (old : Drops) where
  pub part_past : total ≤ part → GoesOnPart items now dynamic variant part total read old old (Turn.Clears dynamic)
  part_past l setting run w out of h =
      go_end setting run old.address.depth old.address.key.0 (levels_of old.levels) (mode_by old.unwinds) old.panicked out w old.address.path (dynamic_of dynamic) variant part total read h l

  pub part_untyped : part < total → type_of_number items (dynamic_of dynamic) variant part ≡ None → GoesOnPart items now dynamic variant part total read old old Turn.Stuck
  part_untyped l none setting run w out of h =
      stuck_seen out w
      (go_untyped setting run old.address.depth old.address.key.0 (levels_of old.levels) (mode_by old.unwinds) old.panicked out w old.address.path (dynamic_of dynamic) variant part total read h l
      (subst (λ i. type_of_number i (dynamic_of dynamic) variant part ≡ None) (sym of.items_are) none))

  expected_is : (b : Bool) (child : Dynamic) → option_map dynamic_of (expected_by b child) ≡ expected_if b (dynamic_of child)
  expected_is true child = refl
  expected_is false child = refl

  pub part_entered : (child : Dynamic) → part < total → type_of_number items (dynamic_of dynamic) variant part ≡ Some (dynamic_of child) →
      GoesOnPart items now dynamic variant part total read old (with_step (with_level old (rust.Level.Parts dynamic variant (suc part) total read)) (Part part))
      (Turn.Visits false (expected_by (now == read) child))
  part_entered child l typed setting run w out of h =
      let visits =
      go_part setting run old.address.depth old.address.key.0 (levels_of old.levels) (mode_by old.unwinds) old.panicked out w old.address.path (dynamic_of dynamic) variant part total read h l (dynamic_of child)
      (subst (λ i. type_of_number i (dynamic_of dynamic) variant part ≡ Some (dynamic_of child)) (sym of.items_are) typed)
      in
      subst (VisitsLeft setting run old.address.depth old.address.key.0 (levels_of (old.levels ++ rust.Level.Parts dynamic variant (suc part) total read ∷ [])) w (old.address.path ++ Part part ∷ [])
      (mode_by old.unwinds) old.panicked out stages.Begins)
      (ap (λ n. expected_if (n == read) (dynamic_of child)) of.ticks_are ∙ sym (expected_is (now == read) child))
      (subst (λ levels. VisitsLeft setting run old.address.depth old.address.key.0 levels w (old.address.path ++ Part part ∷ []) (mode_by old.unwinds) old.panicked out stages.Begins
      (expected_if (w.ticks == read) (dynamic_of child)))
      (sym (pushed old.levels (rust.Level.Parts dynamic variant (suc part) total read) [])) visits)

-- What visits.

module _ (setting : Setting) (run : Bodies) (w : State) (out : Out State) (drops : Drops) (has_run : Bool) (expected : Option Dynamic)
    (h : TurnLeft setting run w out drops (Turn.Visits has_run expected)) where
  abbrev depth : ℕ
  depth = drops.address.depth

  abbrev key : ℕ
  key = drops.address.key.0

  pub visited_nothing : located_at setting w drops.address ≡ None → seen out ≡ Halted Stuck w.trace
  visited_nothing e =
      stuck_seen out w
      (visit_nothing setting run depth key (levels_of drops.levels) (mode_by drops.unwinds) drops.panicked out w drops.address.path (stage_by has_run) (option_map dynamic_of expected) h e)

  pub visited_unexpected : (s : Located) → located_at setting w drops.address ≡ Some s → is_expected setting.items (option_map dynamic_of expected) s.dynamic ≡ false → seen out ≡ Halted Stuck w.trace
  visited_unexpected s e f =
      stuck_seen out w
      (visit_unexpected setting run depth key (levels_of drops.levels) (mode_by drops.unwinds) drops.panicked out w drops.address.path (stage_by has_run) (option_map dynamic_of expected) h s e f)

  pub visited_reads : (s : Located) → located_at setting w drops.address ≡ Some s → is_expected setting.items (option_map dynamic_of expected) s.dynamic ≡ true →
      ReadLeft setting run depth key (levels_of drops.levels) w drops.address.path (mode_by drops.unwinds) drops.panicked out (stage_by has_run) s
  visited_reads s e f =
      visit_reads setting run depth key (levels_of drops.levels) (mode_by drops.unwinds) drops.panicked out w drops.address.path (stage_by has_run) (option_map dynamic_of expected) h s e f

  -- what is swept leaves the address
  pub visited_swept : (s : Located) → located_at setting w drops.address ≡ Some s → is_expected setting.items (option_map dynamic_of expected) s.dynamic ≡ true →
      IsSwept setting.items (stage_by has_run) s.value s.dynamic → is_there s.value ≡ true →
      TurnLeft setting run (with_events (freed s.value) (stored_at drops.address Gone w)) out drops Turn.Leaves
  visited_swept s there is swept stands =
      read_swept setting run depth key (mode_by drops.unwinds) drops.panicked out (levels_of drops.levels) w drops.address.path (stage_by has_run) s there swept stands
      (visited_reads s there is)

-- What clears and frees.

module _ (setting : Setting) (run : Bodies) (w : State) (address : Addr) (dynamic : Dynamic) where
  abbrev there : Option Located
  there = located_at setting w address

  pub cleared_nowhere : there ≡ None → Clears setting run address dynamic w false w
  cleared_nowhere e = (ap (λ o. if_still_typed setting.items (dynamic_of dynamic) o (λ s w. Go (stored_at s.address Gone w)) w) e, refl)

  pub cleared_other : (s : Located) → there ≡ Some s → is_still setting.items (dynamic_of dynamic) s.dynamic ≡ false → Clears setting run address dynamic w false w
  cleared_other s e f = (
    ap (λ o. if_still_typed setting.items (dynamic_of dynamic) o (λ s w. Go (stored_at s.address Gone w)) w) e
        ∙ still_is setting.items (dynamic_of dynamic) s (λ s w. Go (stored_at s.address Gone w)) w
        ∙ ap (λ b. same_if b (λ w. Go (stored_at s.address Gone w)) w) f,
    refl,
  )

  pub cleared_there : (s : Located) → there ≡ Some s → is_still setting.items (dynamic_of dynamic) s.dynamic ≡ true → (v : State) → v ≡ stored_at address Gone w →
      Clears setting run address dynamic w true v
  cleared_there s e f v is =
      ap (λ o. if_still_typed setting.items (dynamic_of dynamic) o (λ s w. Go (stored_at s.address Gone w)) w) e
      ∙ still_is setting.items (dynamic_of dynamic) s (λ s w. Go (stored_at s.address Gone w)) w
      ∙ ap (λ b. same_if b (λ w. Go (stored_at s.address Gone w)) w) f
      ∙ ap (λ a. Go (stored_at a Gone w)) (stands_at setting w address s e) ∙ ap Go (sym is)

  abbrev frees_there : Located → State → Out State
  frees_there s w = freed_there setting run s.value s w

  pub freed_nowhere : there ≡ None → Frees setting run address dynamic w false w
  freed_nowhere e = (ap (λ o. if_still_typed setting.items (dynamic_of dynamic) o frees_there w) e, refl)

  pub freed_other : (s : Located) → there ≡ Some s → is_still setting.items (dynamic_of dynamic) s.dynamic ≡ false → Frees setting run address dynamic w false w
  freed_other s e f = (
    ap (λ o. if_still_typed setting.items (dynamic_of dynamic) o frees_there w) e
        ∙ still_is setting.items (dynamic_of dynamic) s frees_there w ∙ ap (λ b. same_if b (frees_there s) w) f,
    refl,
  )

  freed_is : (s : Located) → there ≡ Some s → is_still setting.items (dynamic_of dynamic) s.dynamic ≡ true →
      freed_at setting run (found_as setting run address.depth address.key.0 address.path (dynamic_of dynamic) Gone) w ≡ freed_there setting run s.value s w
  freed_is s e f =
      ap (λ o. if_still_typed setting.items (dynamic_of dynamic) o frees_there w) e
      ∙ still_is setting.items (dynamic_of dynamic) s frees_there w ∙ ap (λ b. same_if b (frees_there s) w) f

  no_box : (items : ItemTable) (s : Located) (value : Datum) (d : DynamicType) (kind : DropKind) → IsNoBox kind → ShowsValue items value d kind → freed_there setting run value s w ≡ Halts Stuck w
  no_box items s value d DropKind.Nothing n h = ap (λ d. freed_there setting run d s w) h
  no_box items s (Number number) d DropKind.Plain n h = refl
  no_box items s (Truth truth) d DropKind.Plain n h = refl
  no_box items s UnitValue d DropKind.Plain n h = refl
  no_box items s (Address address) d DropKind.Plain n h = refl
  no_box items s Gone d DropKind.Plain n h = absurd h
  no_box items s (Aggregate variant serial parts) d DropKind.Plain n h = absurd h
  no_box items s (Box serial impl_no inside) d DropKind.Plain n h = absurd h
  no_box items s value d (DropKind.Parts variant serial total) n h = ap (λ d. freed_there setting run d s w) h.is
  no_box items s value d (DropKind.Boxed serial content) n h = absurd n

  pub freed_no_box : (items : ItemTable) (kind : DropKind) (s : Located) → there ≡ Some s → is_still setting.items (dynamic_of dynamic) s.dynamic ≡ true → IsNoBox kind → ShowsValue items s.value s.dynamic kind →
      Frees setting run address dynamic w false w
  freed_no_box items kind s e f n h = (freed_is s e f ∙ no_box items s s.value s.dynamic kind n h, refl)

  pub freed_box : (serial : ℕ) (impl_no : Option ℕ) (inside : Datum) (s : Located) → there ≡ Some s → is_still setting.items (dynamic_of dynamic) s.dynamic ≡ true → s.value ≡ Box serial impl_no inside →
      (v : State) → v ≡ with_event (Event.Freed serial) (stored_at address Gone w) → Frees setting run address dynamic w true v
  freed_box serial impl_no inside s e f box v is =
      freed_is s e f ∙ ap (λ d. freed_there setting run d s w) box
      ∙ ap (λ a. Go (with_event (Event.Freed serial) (stored_at a Gone w))) (stands_at setting w address s e) ∙ ap Go (sym is)

module _ (setting : Setting) (run : Bodies) (w v : State) (out : Out State) (drops : Drops) (dynamic : Dynamic) where
  pub clears_left : (went : Bool) → Clears setting run drops.address dynamic w went v → TurnLeft setting run w out drops (Turn.Clears dynamic) → TurnLeft setting run v out drops (left_if went)
  clears_left true e h =
      clear_goes setting run drops.address.depth drops.address.key.0 (levels_of drops.levels) (mode_by drops.unwinds) drops.panicked out w v drops.address.path (dynamic_of dynamic) h e
  clears_left false e h =
      stuck_seen out w
      (clear_halts setting run drops.address.depth drops.address.key.0 (levels_of drops.levels) (mode_by drops.unwinds) drops.panicked out w w drops.address.path (dynamic_of dynamic) Stuck h e.0)
      ∙ ap (λ (v : State). Halted Stuck v.trace) (sym e.1)

  pub frees_left : (went : Bool) → Frees setting run drops.address dynamic w went v → TurnLeft setting run w out drops (Turn.Frees dynamic) → TurnLeft setting run v out drops (left_if went)
  frees_left true e h =
      free_goes setting run drops.address.depth drops.address.key.0 (levels_of drops.levels) (mode_by drops.unwinds) drops.panicked out w v drops.address.path (dynamic_of dynamic) h e
  frees_left false e h =
      stuck_seen out w
      (free_halts setting run drops.address.depth drops.address.key.0 (levels_of drops.levels) (mode_by drops.unwinds) drops.panicked out w w drops.address.path (dynamic_of dynamic) Stuck h e.0)
      ∙ ap (λ (v : State). Halted Stuck v.trace) (sym e.1)

-- How a drop begins, and how it goes on after a `Drop` body.

alone : (mode : Mode) (o : Out State) → o ≡ in_mode mode o (λ mode w. Go w)
alone mode (Go w) = refl
alone mode (Unwind w) = refl
alone mode (Halts halt w) = refl

pub is_drop_of : (address : Addr) (unwinds : Bool) (drops : Drops) → drops ≡ record { address = address; levels = []; unwinds = unwinds; panicked = false; sweeps = true } → IsDropOf address unwinds drops
is_drop_of address unwinds drops e setting run w fuel dynamic l =
    let here = found_as setting run address.depth address.key.0 address.path (dynamic_of dynamic) Gone in
    let mode = mode_by unwinds in
    subst (λ (drops : Drops). TurnLeft setting run w (drop_at setting run fuel stages.Begins here mode w) drops (Turn.Visits false (Some dynamic))) (sym e)
    (record {
      does = λ mode v. drop_at setting run fuel stages.Begins here mode v;
      visits = Again fuel (dynamic_of dynamic) l (λ mode v. refl);
      left = record { rest = λ mode w. Go w; is_rest = λ mode w. refl; is = alone mode (drop_at setting run fuel stages.Begins here mode w) };
    })

module _ (dynamic : Dynamic) (old : Drops) (setting : Setting) (run : Bodies) (w v : State) (outs : Answer → Out State) (l : v.ticks < w.ticks)
    (h : AwaitsLeft setting run old.address.depth old.address.key.0 (levels_of old.levels) w old.address.path (mode_by old.unwinds) old.panicked outs (dynamic_of dynamic)) where
  pub resumed_return : (value : Datum) → TurnLeft setting run v (outs (Returns value v)) old (Turn.Visits true (Some dynamic))
  resumed_return value =
      await_returns setting run old.address.depth old.address.key.0 (levels_of old.levels) w v old.address.path (mode_by old.unwinds) old.panicked outs (dynamic_of dynamic) h l value

  pub resumed_unwind : old.unwinds ≡ false → TurnLeft setting run v (outs (Unwinds v)) (record old { unwinds = true; panicked = true }) (Turn.Visits true (Some dynamic))
  resumed_unwind e =
      await_unwinds setting run old.address.depth old.address.key.0 (levels_of old.levels) w v old.address.path (mode_by old.unwinds) old.panicked outs (dynamic_of dynamic) h l (ap mode_by e)

  pub resumed_abort : old.unwinds ≡ true → outs (Unwinds v) ≡ Halts Aborted v
  resumed_abort e =
      await_aborts setting run old.address.depth old.address.key.0 (levels_of old.levels) w v old.address.path (mode_by old.unwinds) old.panicked outs (dynamic_of dynamic) h l (ap mode_by e)

-- What stands at an address in any run of the graph.

module _ (w : World) (before : Trace) (address : Addr) where
  abbrev in_run : Option Located
  in_run = located_at (run_setting w) (state_of before w) address

  abbrev by_store : Option Located
  by_store = located_at (setting_of true w.graph.now) (with_activations (activations_of w.store)) address

  pub nothing_found : IsFound w.graph.now.items by_store None → in_run ≡ None
  nothing_found h = located_same w.strict w.graph.now (state_of before w) address ∙ h

  pub something_found : (found : FoundValue) (h : FindsIt w.graph.now.items by_store found) → in_run ≡ Some h.s
  something_found found h = located_same w.strict w.graph.now (state_of before w) address ∙ h.is

pub is_of_run : (w : World) (before : Trace) → IsOf w.graph.now.items w.ticks (run_setting w) (state_of before w)
is_of_run w before = record { items_are = refl; ticks_are = refl }
