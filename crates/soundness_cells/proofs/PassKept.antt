-- What each effect keeps, the rules of evaluation keep, whatever node they are of: one lemma a rule, from what the
-- nodes inside keep. A place that is assigned is dropped first where it needs that, and waits for its value then.
use Rattle.std.proofs.Common.{ℕ, zero, suc, ◌==◌, not, ◌||◌, Bool, true, false, List, [], ◌∷◌, ◌++◌, Option, Some, None, if◌then◌else◌}
use Rattle.mir_base.specs.declared.operator.Cmp.{Cmp}
use Rattle.mir_base.specs.declared.trace.Why.{Why}
use Rattle.mir_ty.specs.declared.ty.TyId.{TyId}
use Rattle.mir_ty.specs.Facts.{needs_drop}
use Rattle.mir_ty.specs.ItemTable.{ItemTable}
use Rattle.store_model.specs.Effects as effects
use Rattle.store_model.specs.Effects.{EffectSite, Operand, Copied, Action, Test, Mode, Normal, Unwinding, Halt, Aborted, OutOfTicks, Out, Go, Unwind, Halts, Choice, Yes, No, Neither, Effects}
use Rattle.store_model.specs.Places.Place.{Place, whole_local}
use Rattle.src_meaning.specs.Forms as forms
use Rattle.src_meaning.specs.Forms.{Destination, Into, Coerced, LoopsAndGuards, Meaning, entry_of, bound_entry, site_in, site_of_key, moved, keys_of, changed_if, site_of, place_of, loop_destination, in_guard}
use Rattle.src_meaning.specs.Scopes as source
use Rattle.src_meaning.specs.Scopes.{Entry, Scope, Scopes, with_scope, innermost, around_innermost, nearest_temporary, with_entry, with_pending, without_pending, becomes_entry, without_operands, needing_drop, Exit, Value, Breaks, Continues, Returns, Panics, Run, At, Over, Does, on_value, in_scopes, back_in, leave, drop_normally, drop_unwinding, entry_site, choosing, chosen, leaving, then_or_leave}
use Rattle.src_meaning.specs.Shape.{NodeHead, Shape, operand_at, operand_of_bound, site_at, BoundName, PatternTest, IsVariant, IsNumber, IsTruth, AnyOf, PatternTests, no_test, a_test, Alternatives, no_alternative, an_alternative}
use Rattle.soundness_values.proofs.Leaving.{Shown, ShownOut}

-- a test is answered either way, or the run ends
abbrev pub Answered : {V : Type 0} → (Halt → V → Type 0) → (V → Type 0) → Choice V → Type 0
Answered over calm (Yes v) = calm v
Answered over calm (No v) = calm v
Answered over calm (Neither halt v) = over halt v

-- What effects keep. The drop of a place that is assigned leaves it waiting, and the store of its value ends that.
pub record KeepsCalm {V : Type 0} (q : Effects V) (over : Halt → V → Type 0) (calm : V → Type 0)
    (waits : EffectSite → V → Type 0) : Type 0 where
  pub acts : (action : Action) (v : V) → calm v → ShownOut over calm calm (q.act action v)
  pub compares : (to : EffectSite) (operator : Cmp) (left right : Operand) (v : V) → calm v →
      ShownOut over calm (λ w. ⊥) (q.act (effects.Compare to operator left right) v)
  pub chooses : (test : Test) (v : V) → calm v → Answered over calm (q.choose test v)
  pub drops : (mode : Mode) (e : Entry) (v : V) → calm v → ShownOut over calm calm (q.drop mode (entry_site e) v)
  pub empties : (site : EffectSite) (v : V) → calm v → ShownOut over (waits site) (waits site) (q.drop Normal site v)
  pub refills : (site : EffectSite) (key : ℕ) (v : V) → waits site v →
      ShownOut over calm calm (q.act (effects.Put site (moved site.node key)) v)
  pub panics : (why : Why) (v : V) → calm v → calm (q.panic why v)
  pub ticks : (v : V) → calm v → ShownOut over calm (λ w. ⊥) (q.tick v)
  pub aborts : (v : V) → over Aborted v
  pub lapses : (v : V) → over OutOfTicks v

module _ {V : Type 0} (items : ItemTable) (q : Effects V) (over : Halt → V → Type 0) (calm : V → Type 0)
    (waits : EffectSite → V → Type 0) (keeps : KeepsCalm q over calm waits) where
  -- a run that began calm is calm at its exit
  abbrev pub Calm : Run V → Type 0
  Calm = Shown over (λ exit S v. calm v)

  abbrev pub Kept : Does V → Type 0
  Kept does = (S : Scopes) (v : V) → calm v → Calm (does S v)

  -- ---- one after another

  pub then_kept : (r : Run V) (next : Does V) → Calm r → Kept next → Calm (on_value r next)
  then_kept (At Value S v) next h k = k S v h
  then_kept (At (Breaks loop) S v) next h k = h
  then_kept (At (Continues loop) S v) next h k = h
  then_kept (At Returns S v) next h k = h
  then_kept (At Panics S v) next h k = h
  then_kept (Over halt v) next h k = h

  pub both_kept : (one other : Does V) → Kept one → Kept other → Kept (λ S v. on_value (one S v) other)
  both_kept one other h k S v c = then_kept (one S v) other (h S v c) k

  pub in_scopes_kept : (S : Scopes) (o : Out V) → ShownOut over calm calm o → Calm (in_scopes S o)
  in_scopes_kept S (Go w) h = h
  in_scopes_kept S (Unwind w) h = h
  in_scopes_kept S (Halts halt w) h = h

  pub acts_kept : (action : Action) → Kept (forms.acts items q action)
  acts_kept action S v c = in_scopes_kept S (q.act action v) (keeps.acts action v c)

  pub panics_kept : (why : Why) → Kept (forms.panics items q why)
  panics_kept why S v c = keeps.panics why v c

  pub changed_kept : (change : Scopes → Scopes) → Kept (source.changing change)
  changed_kept change S v c = c

  pub back_kept : (S : Scopes) (r : Run V) → Calm r → Calm (back_in S r)
  back_kept S (At Value T v) h = h
  back_kept S (At (Breaks loop) T v) h = h
  back_kept S (At (Continues loop) T v) h = h
  back_kept S (At Returns T v) h = h
  back_kept S (At Panics T v) h = h
  back_kept S (Over halt v) h = h

  -- ---- scopes

  unwinding_kept : (es : List Entry) → Kept (drop_unwinding items q es)
  unwinding_kept [] S v c = c
  unwinding_kept (e ∷ es) S v c = by (q.drop Unwinding (entry_site e) v) (keeps.drops Unwinding e v c)
      (λ w d. unwinding_kept es S w d)
    where
      by : (o : Out V) → ShownOut over calm calm o → ((w : V) → calm w → Calm (drop_unwinding items q es S w)) →
          Calm (source.dropped_unwinding items q o (drop_unwinding items q es S))
      by (Go w) h later = later w h
      by (Unwind w) h later = keeps.aborts w
      by (Halts halt w) h later = h

  normally_kept : (exit : Exit) (es : List Entry) → Kept (drop_normally items q exit es)
  normally_kept exit [] S v c = c
  normally_kept exit (e ∷ es) S v c = by (q.drop Normal (entry_site e) v) (keeps.drops Normal e v c)
      (λ w d. normally_kept exit es S w d)
    where
      by : (o : Out V) → ShownOut over calm calm o → ((w : V) → calm w → Calm (drop_normally items q exit es S w)) →
          Calm (source.dropped_normally items q o (drop_normally items q exit es S) (drop_unwinding items q es S))
      by (Go w) h later = later w h
      by (Unwind w) h later = unwinding_kept es S w h
      by (Halts halt w) h later = h

  pub leave_kept : (r : Run V) → Calm r → Calm (leave items q r)
  leave_kept (At exit [] v) h = h
  leave_kept (At Value (s ∷ S) v) h = normally_kept Value (needing_drop items s.entries) S v h
  leave_kept (At (Breaks loop) (s ∷ S) v) h = normally_kept (Breaks loop) (needing_drop items s.entries) S v h
  leave_kept (At (Continues loop) (s ∷ S) v) h = normally_kept (Continues loop) (needing_drop items s.entries) S v h
  leave_kept (At Returns (s ∷ S) v) h = normally_kept Returns (needing_drop items s.entries) S v h
  leave_kept (At Panics (s ∷ S) v) h = unwinding_kept (needing_drop items (s.pending ++ s.entries)) S v h
  leave_kept (Over halt v) h = h

  pub scope_kept : (id : ℕ) (own : Bool) (does : Does V) → Kept does → Kept (source.in_scope items q id own does)
  scope_kept id own does h S v c = leave_kept (does (with_scope id own S) v) (h (with_scope id own S) v c)

  pub own_kept : (h : NodeHead) (own : Bool) (does : Does V) → Kept does → Kept (forms.in_own_scope items q h own does)
  own_kept h true does k = scope_kept h.id true does k
  own_kept h false does k = k

  -- ---- values and destinations

  pub deliver_kept : (h : NodeHead) (action : EffectSite → Action) (to : Destination) →
      Kept (forms.deliver items q h action to)
  deliver_kept h action (Into key) = acts_kept (action (site_in h.id key))
  deliver_kept h action (Coerced key trait_no to) =
      both_kept (forms.acts items q (action (site_in h.id key)))
      (forms.acts items q (effects.Unsize (site_in h.id to) trait_no (moved h.id key)))
      (acts_kept (action (site_in h.id key)))
      (acts_kept (effects.Unsize (site_in h.id to) trait_no (moved h.id key)))

  pub unit_kept : (h : NodeHead) (to : Destination) → Kept (forms.put_unit items q h to)
  unit_kept h to = deliver_kept h (λ site. effects.Put site effects.UnitValue) to

  pub unit_if_kept : (b : Bool) (h : NodeHead) (to : Destination) → Kept (forms.put_unit_if items q b h to)
  unit_if_kept true h to S v c = c
  unit_if_kept false h to S v c = unit_kept h to S v c

  -- a node: how it is evaluated, reached, and taken as an arm
  pub record Keeping (m : Meaning V) : Type 0 where
    pub evaluates : (around : LoopsAndGuards) (own : Bool) (to : Destination) → Kept (m.evaluate around own to)
    pub reaches : (around : LoopsAndGuards) → Kept (m.reach around)
    pub arms : (matched : Place) (otherwise : Does V) (around : LoopsAndGuards) (to : Destination) → Kept otherwise →
        Kept (m.arm matched otherwise around to)

  abbrev pub AllKeeping : List (Meaning V) → Type 0
  AllKeeping [] = Unit {0}
  AllKeeping (m ∷ ms) = Keeping m × AllKeeping ms

  pub alone_kept : (around : LoopsAndGuards) (m : Meaning V) (to : Destination) → Keeping m →
      Kept (forms.alone items q around m to)
  alone_kept around m to k S v c = back_kept S (m.evaluate around true to S v) (k.evaluates around true to S v c)

  -- a value is made, and its entry is complete
  pub completed_kept : (begun : Scopes → Scopes) (evaluate : Does V) (after : Scopes → Scopes) → Kept evaluate →
      Kept (λ S v. on_value (evaluate (begun S) v) (source.changing after))
  completed_kept begun evaluate after k S v c =
      then_kept (evaluate (begun S) v) (source.changing after) (k (begun S) v c) (changed_kept after)

  pub operand_kept : (around : LoopsAndGuards) (m : Meaning V) → Keeping m → Kept (forms.operand items q around m)
  operand_kept around m k = completed_kept
      (changed_if m.shape.in_destination (innermost (with_pending (entry_of m.head))))
      (m.evaluate around false (Into m.head.id)) (innermost (becomes_entry (entry_of m.head)))
      (k.evaluates around false (Into m.head.id))

  operands_kept : (around : LoopsAndGuards) (ms : List (Meaning V)) → AllKeeping ms →
      Kept (forms.operands items q around ms)
  operands_kept around [] k S v c = c
  operands_kept around (m ∷ ms) k S v c = both_kept (forms.operand items q around m) (forms.operands items q around ms)
      (operand_kept around m k.0) (operands_kept around ms k.1) S v c

  pub acting_kept : (h : NodeHead) (around : LoopsAndGuards) (own : Bool) (ms : List (Meaning V)) (act : Does V) →
      AllKeeping ms → Kept act → Kept (forms.acting items q h around own ms act)
  acting_kept h around own ms act k a = scope_kept h.id own
      (λ S v. on_value (forms.operands items q around ms S v) taken)
      (both_kept (forms.operands items q around ms) taken (operands_kept around ms k)
      (λ S v c. a (innermost (without_operands (keys_of ms)) S) v c))
    where
      taken : Does V
      taken S v = on_value (forms.take items q (keys_of ms) S v) act

  pub dropping_kept : (h : NodeHead) (around : LoopsAndGuards) (own : Bool) (m : Meaning V) (act : Does V) →
      Keeping m → Kept act → Kept (forms.dropping items q h around own m act)
  dropping_kept h around own m act k a = scope_kept h.id own
      (λ S v. on_value (forms.operand items q around m S v) act)
      (both_kept (forms.operand items q around m) act (operand_kept around m k) a)

  -- ---- places

  pub temporary_kept : (h : NodeHead) (s : Shape) (evaluate : LoopsAndGuards → Bool → Destination → Does V)
      (around : LoopsAndGuards) → Kept (evaluate around false (Into h.id)) →
      Kept (forms.temporary items q h s evaluate around)
  temporary_kept h s evaluate around k = completed_kept
      (changed_if s.in_destination (nearest_temporary (with_pending (entry_of h)))) (evaluate around false (Into h.id))
      (nearest_temporary (becomes_entry (entry_of h))) k

  pub use_kept : (h : NodeHead) (s : Shape) (reach : LoopsAndGuards → Does V) (around : LoopsAndGuards) (own : Bool)
      (to : Destination) → Kept (reach around) → Kept (forms.use_of_place items q h s reach around own to)
  use_kept h s reach around own to k = own_kept h own (λ S v. on_value (reach around S v) deliver)
      (both_kept (reach around) deliver k
      (deliver_kept h (λ site. effects.Put site (operand_at h (s.place around.aliases))) to))
    where
      deliver : Does V
      deliver = forms.deliver items q h (λ site. effects.Put site (operand_at h (s.place around.aliases))) to

  pub element_kept : (h : NodeHead) (s : Shape) (base index : Meaning V) (length : ℕ) (around : LoopsAndGuards) →
      Keeping base → Keeping index → Kept (forms.reach_element items q h s base index length around)
  element_kept h s base index length around b i = both_kept (base.reach around) then_index (b.reaches around)
      (both_kept (index.evaluate around false (Into index.head.id)) then_touch
      (i.evaluates around false (Into index.head.id))
      (both_kept (forms.acts items q touch) (forms.acts items q bounds) (acts_kept touch) (acts_kept bounds)))
    where
      touch : Action
      touch = effects.Touch (site_at h (forms.array_around items q (s.place around.aliases)))

      bounds : Action
      bounds = effects.Bounds (Copied (site_of_key index.head.id)) length

      then_touch : Does V
      then_touch S v = on_value (forms.acts items q touch S v) (forms.acts items q bounds)

      then_index : Does V
      then_index S v = on_value (index.evaluate around false (Into index.head.id) S v) then_touch

  pub borrowing_kept : (h : NodeHead) (unique : Bool) (base : Meaning V) (around : LoopsAndGuards) (own : Bool)
      (to : Destination) → Keeping base → Kept (forms.borrowing items q h unique base around own to)
  borrowing_kept h unique base around own to b = own_kept h own
      (λ S v. on_value (base.reach around S v) (forms.deliver items q h action to))
      (both_kept (base.reach around) (forms.deliver items q h action to) (b.reaches around) (deliver_kept h action to))
    where
      action : EffectSite → Action
      action site = effects.Borrow (record site { node = base.head.id }) unique (site_of base around)

  -- ---- assignment

  stored_kept : (site : EffectSite) (key : ℕ) (S : Scopes) (v : V) →
      ShownOut over calm calm (q.act (effects.Put site (moved site.node key)) v) →
      Calm (forms.stored items q site key S v)
  stored_kept site key S v h = in_scopes_kept (innermost (without_operands (key ∷ [])) S)
      (q.act (effects.Put site (moved site.node key)) v) h

  after_drop : (site : EffectSite) (key : ℕ) (S : Scopes) (o : Out V) → ShownOut over (waits site) (waits site) o →
      Calm (forms.stored_after items q site key S o)
  after_drop site key S (Go w) h = stored_kept site key S w (keeps.refills site key w h)
  after_drop site key S (Unwind w) h = then_kept (forms.stored items q site key S w) (At Panics)
      (stored_kept site key S w (keeps.refills site key w h)) (λ T u c. c)
  after_drop site key S (Halts halt w) h = h

  replacing_kept : (drops : Bool) (site : EffectSite) (key : ℕ) → Kept (forms.replacing items q drops site key)
  replacing_kept true site key S v c = after_drop site key S (q.drop Normal site v) (keeps.empties site v c)
  replacing_kept false site key S v c =
      stored_kept site key S v (keeps.acts (effects.Put site (moved site.node key)) v c)

  pub assigning_kept : (h : NodeHead) (place value : Meaning V) (around : LoopsAndGuards) (own : Bool)
      (to : Destination) → Keeping place → Keeping value →
      Kept (forms.assigning items q h place value around own to)
  assigning_kept h place value around own to p w = scope_kept h.id own
      (λ S v. on_value (forms.operand items q around value S v) then_place)
      (both_kept (forms.operand items q around value) then_place (operand_kept around value w)
      (both_kept (place.reach around) then_store (p.reaches around)
      (both_kept (forms.replacing items q (needs_drop items place.head.ty) (site_of place around) value.head.id)
      (forms.put_unit items q h to)
      (replacing_kept (needs_drop items place.head.ty) (site_of place around) value.head.id) (unit_kept h to))))
    where
      then_store : Does V
      then_store S v = on_value
          (forms.replacing items q (needs_drop items place.head.ty) (site_of place around) value.head.id S v)
          (forms.put_unit items q h to)

      then_place : Does V
      then_place S v = on_value (place.reach around S v) then_store

  -- ---- conditions

  pub chosen_kept : (S : Scopes) (o : Choice V) (f g : Does V) → Answered over calm o → Kept f → Kept g →
      Calm (chosen o (f S) (g S))
  chosen_kept S (Yes w) f g h a b = a S w h
  chosen_kept S (No w) f g h a b = b S w h
  chosen_kept S (Neither halt w) f g h a b = h

  pub choosing_kept : (test : V → Choice V) (f g : Does V) → ((v : V) → calm v → Answered over calm (test v)) →
      Kept f → Kept g → Kept (choosing test f g)
  choosing_kept test f g t a b S v c = chosen_kept S (test v) f g (t v c) a b

  pub condition_kept : (around : LoopsAndGuards) (m : Meaning V) (f g : Does V) → Keeping m → Kept f → Kept g →
      Kept (forms.condition items q around m f g)
  condition_kept around m f g k a b = both_kept (forms.alone items q around m (Into m.head.id))
      (choosing (q.choose (effects.IsTrue (moved m.head.id m.head.id))) f g)
      (alone_kept around m (Into m.head.id) k)
      (choosing_kept (q.choose (effects.IsTrue (moved m.head.id m.head.id))) f g
      (keeps.chooses (effects.IsTrue (moved m.head.id m.head.id))) a b)

  abbrev pub KeepingIfAny : Option (Meaning V) → Type 0
  KeepingIfAny None = Unit {0}
  KeepingIfAny (Some m) = Keeping m

  pub branch_kept : (around : LoopsAndGuards) (to : Destination) (o : Option (Meaning V)) (without : Does V) →
      KeepingIfAny o → Kept without → Kept (forms.branch items q around to o without)
  branch_kept around to None without k w = w
  branch_kept around to (Some m) without k w = alone_kept around m to k

  -- ---- patterns

  equals_kept : (site : EffectSite) (value : Operand) (v : V) → calm v →
      Answered over calm (forms.equals items q site value v)
  equals_kept site value v c = by (q.act (effects.Compare (site_of_key site.node) Cmp.Eq (Copied site) value) v)
      (keeps.compares (site_of_key site.node) Cmp.Eq (Copied site) value v c)
    where
      by : (o : Out V) → ShownOut over calm (λ w. ⊥) o →
          Answered over calm (forms.tested items q o (moved site.node site.node))
      by (Go w) h = keeps.chooses (effects.IsTrue (moved site.node site.node)) w h
      by (Unwind w) h = absurd h
      by (Halts halt w) h = h

  after_tests : (o : Choice V) (rest : V → Choice V) → Answered over calm o →
      ((w : V) → calm w → Answered over calm (rest w)) → Answered over calm (forms.tests_after items q o rest)
  after_tests (Yes w) rest h f = f w h
  after_tests (No w) rest h f = h
  after_tests (Neither halt w) rest h f = h

  after_alternatives : (o : Choice V) (rest : V → Choice V) → Answered over calm o →
      ((w : V) → calm w → Answered over calm (rest w)) → Answered over calm (forms.alternatives_after items q o rest)
  after_alternatives (Yes w) rest h f = h
  after_alternatives (No w) rest h f = f w h
  after_alternatives (Neither halt w) rest h f = h

  mutual
    holds_kept : (test : PatternTest) (v : V) → calm v → Answered over calm (forms.holds items q test v)
    holds_kept (IsVariant site variant) v c = keeps.chooses (effects.HasVariant site variant) v c
    holds_kept (IsNumber site value kind) v c = equals_kept site (effects.Number value kind) v c
    holds_kept (IsTruth site value) v c = equals_kept site (effects.Truth value) v c
    holds_kept (AnyOf alternatives) v c = any_kept alternatives v c

    pub all_kept : (tests : PatternTests) (v : V) → calm v → Answered over calm (forms.all_hold items q tests v)
    all_kept no_test v c = c
    all_kept (a_test first rest) v c = after_tests (forms.holds items q first v) (forms.all_hold items q rest)
        (holds_kept first v c) (λ w d. all_kept rest w d)

    any_kept : (alternatives : Alternatives) (v : V) → calm v →
        Answered over calm (forms.any_holds items q alternatives v)
    any_kept no_alternative v c = c
    any_kept (an_alternative tests rest) v c = after_alternatives (forms.all_hold items q tests v)
        (forms.any_holds items q rest) (all_kept tests v c) (λ w d. any_kept rest w d)

  pub bind_kept : (in_that : (Scope → Scope) → Scopes → Scopes) (bounds : List BoundName) →
      Kept (forms.bind items q in_that bounds)
  bind_kept in_that [] S v c = c
  bind_kept in_that (b ∷ bounds) S v c = both_kept
      (forms.acts items q (effects.Put (site_of_key b.key) (operand_of_bound b))) entered
      (acts_kept (effects.Put (site_of_key b.key) (operand_of_bound b)))
      (λ T w d. bind_kept in_that bounds (in_that (with_entry (bound_entry b)) T) w d) S v c
    where
      entered : Does V
      entered S v = forms.bind items q in_that bounds (in_that (with_entry (bound_entry b)) S) v

  touched_kept : (b : Bool) (site : EffectSite) → Kept (forms.touched items q b site)
  touched_kept true site S v c = acts_kept (effects.Touch site) S v c
  touched_kept false site S v c = c

  pub scrutinised_kept : (around : LoopsAndGuards) (m : Meaning V) → Keeping m →
      Kept (forms.scrutinised items q around m)
  scrutinised_kept around m k = both_kept (m.reach around)
      (forms.touched items q m.shape.is_place (site_of m around)) (k.reaches around)
      (touched_kept m.shape.is_place (site_of m around))

  then_or_leave_kept : (r : Run V) (next : Does V) → Calm r → Kept next → Calm (then_or_leave items q r next)
  then_or_leave_kept (At Value S v) next h k = k S v h
  then_or_leave_kept (At (Breaks loop) S v) next h k = leave_kept (At (Breaks loop) S v) h
  then_or_leave_kept (At (Continues loop) S v) next h k = leave_kept (At (Continues loop) S v) h
  then_or_leave_kept (At Returns S v) next h k = leave_kept (At Returns S v) h
  then_or_leave_kept (At Panics S v) next h k = leave_kept (At Panics S v) h
  then_or_leave_kept (Over halt v) next h k = h

  pub if_taken_kept : (h : NodeHead) (around : LoopsAndGuards) (pattern scrutinee : Meaning V)
      (body otherwise : Does V) → Keeping scrutinee → Kept body → Kept otherwise →
      Kept (forms.if_taken items q h around pattern scrutinee body otherwise)
  if_taken_kept h around pattern scrutinee body otherwise s b o S v c = then_or_leave_kept
      (forms.scrutinised items q around scrutinee (with_scope h.id true S) v)
      (choosing (forms.all_hold items q (pattern.shape.tests (place_of scrutinee around)))
      (leaving items q bound_body) left)
      (scrutinised_kept around scrutinee s (with_scope h.id true S) v c)
      (choosing_kept (forms.all_hold items q (pattern.shape.tests (place_of scrutinee around)))
      (leaving items q bound_body) left (all_kept (pattern.shape.tests (place_of scrutinee around)))
      (λ T w d. leave_kept (bound_body T w) (both_kept
      (forms.bind items q innermost (pattern.shape.bindings (place_of scrutinee around))) body
      (bind_kept innermost (pattern.shape.bindings (place_of scrutinee around))) b T w d))
      (λ T w d. then_kept (leave items q (At Value T w)) otherwise (leave_kept (At Value T w) d) o))
    where
      bound_body : Does V
      bound_body T w = on_value
          (forms.bind items q innermost (pattern.shape.bindings (place_of scrutinee around)) T w) body

      left : Does V
      left T w = on_value (leave items q (At Value T w)) otherwise

  pub arms_kept : (ms : List (Meaning V)) (matched : Place) (around : LoopsAndGuards) (to : Destination) →
      AllKeeping ms → Kept (forms.arms_in_order items q ms matched around to)
  arms_kept [] matched around to k = panics_kept Why.Match
  arms_kept (m ∷ ms) matched around to k = k.0.arms matched (forms.arms_in_order items q ms matched around to) around to
      (arms_kept ms matched around to k.1)

  pub matching_kept : (h : NodeHead) (scrutinee : Meaning V) (ms : List (Meaning V)) (around : LoopsAndGuards)
      (own : Bool) (to : Destination) → Keeping scrutinee → AllKeeping ms →
      Kept (forms.matching items q h scrutinee ms around own to)
  matching_kept h scrutinee ms around own to s k = own_kept h own
      (λ S v. on_value (forms.scrutinised items q around scrutinee S v) arms)
      (both_kept (forms.scrutinised items q around scrutinee) arms (scrutinised_kept around scrutinee s)
      (arms_kept ms (place_of scrutinee around) around to k))
    where
      arms : Does V
      arms = forms.arms_in_order items q ms (place_of scrutinee around) around to

  taken_kept : (h : NodeHead) (around : LoopsAndGuards) (bounds : List BoundName) (body : Meaning V)
      (to : Destination) → Keeping body → Kept (forms.taken_arm items q h around bounds body to)
  taken_kept h around bounds body to b = scope_kept h.id false
      (λ S v. on_value (forms.bind items q innermost bounds S v) (forms.alone items q around body to))
      (both_kept (forms.bind items q innermost bounds) (forms.alone items q around body to)
      (bind_kept innermost bounds) (alone_kept around body to b))

  guarded_kept : (around : LoopsAndGuards) (bounds : List BoundName) (guard : Option (Meaning V))
      (taken otherwise : Does V) → KeepingIfAny guard → Kept taken → Kept otherwise →
      Kept (forms.guarded items q around bounds guard taken otherwise)
  guarded_kept around bounds None taken otherwise k t o = t
  guarded_kept around bounds (Some guard) taken otherwise k t o =
      condition_kept (in_guard bounds around) guard taken otherwise k t o

  pub arm_kept : (h : NodeHead) (pattern : Meaning V) (guard : Option (Meaning V)) (body : Meaning V)
      (matched : Place) (otherwise : Does V) (around : LoopsAndGuards) (to : Destination) → KeepingIfAny guard →
      Keeping body → Kept otherwise → Kept (forms.arm items q h pattern guard body matched otherwise around to)
  arm_kept h pattern guard body matched otherwise around to g b o =
      choosing_kept (forms.all_hold items q (pattern.shape.tests matched))
      (forms.guarded items q around (pattern.shape.bindings matched) guard
      (forms.taken_arm items q h around (pattern.shape.bindings matched) body to) otherwise) otherwise
      (all_kept (pattern.shape.tests matched))
      (guarded_kept around (pattern.shape.bindings matched) guard
      (forms.taken_arm items q h around (pattern.shape.bindings matched) body to) otherwise g
      (taken_kept h around (pattern.shape.bindings matched) body to b) o) o

  -- ---- blocks and statements

  statements_kept : (around : LoopsAndGuards) (ms : List (Meaning V)) → AllKeeping ms →
      Kept (forms.statements items q around ms)
  statements_kept around [] k S v c = c
  statements_kept around (m ∷ ms) k S v c = both_kept (m.evaluate around false (Into m.head.id))
      (forms.statements items q around ms) (k.0.evaluates around false (Into m.head.id))
      (statements_kept around ms k.1) S v c

  tail_kept : (h : NodeHead) (tail : Option (Meaning V)) (around : LoopsAndGuards) (to : Destination) →
      KeepingIfAny tail → Kept (forms.tail_of items q h tail around to)
  tail_kept h None around to k = unit_if_kept (forms.is_never items h.ty) h to
  tail_kept h (Some m) around to k = alone_kept around m to k

  pub block_kept : (h : NodeHead) (ms : List (Meaning V)) (tail : Option (Meaning V)) (around : LoopsAndGuards)
      (own : Bool) (to : Destination) → AllKeeping ms → KeepingIfAny tail →
      Kept (forms.block items q h ms tail around own to)
  block_kept h ms tail around own to k t = scope_kept h.id own
      (λ S v. on_value (forms.statements items q around ms S v) (forms.tail_of items q h tail around to))
      (both_kept (forms.statements items q around ms) (forms.tail_of items q h tail around to)
      (statements_kept around ms k) (tail_kept h tail around to t))

  pub evaluating_kept : (h : NodeHead) (m : Meaning V) (around : LoopsAndGuards) → Keeping m →
      Kept (forms.evaluating items q h m around)
  evaluating_kept h m around k = scope_kept h.id true
      (λ S v. on_value (m.evaluate around false (Into m.head.id) (innermost (with_pending (entry_of m.head)) S) v)
      (source.changing (innermost (becomes_entry (entry_of m.head)))))
      (completed_kept (innermost (with_pending (entry_of m.head))) (m.evaluate around false (Into m.head.id))
      (innermost (becomes_entry (entry_of m.head))) (k.evaluates around false (Into m.head.id)))

  let_name_kept : (h x : NodeHead) (m : Meaning V) (around : LoopsAndGuards) → Keeping m →
      Kept (forms.let_name items q h x m around)
  let_name_kept h x m around k = scope_kept h.id true
      (λ S v. on_value (m.evaluate around false (Into x.id) (innermost (with_pending (entry_of x)) S) v) named)
      (λ S v c. then_kept (m.evaluate around false (Into x.id) (innermost (with_pending (entry_of x)) S) v) named
      (k.evaluates around false (Into x.id) (innermost (with_pending (entry_of x)) S) v c) (λ T w d. d))
    where
      named : Does V
      named T w = At Value (around_innermost (with_entry (entry_of x)) (innermost (without_pending (entry_of x)) T)) w

  let_parts_kept : (h : NodeHead) (pattern m : Meaning V) (around : LoopsAndGuards) → Keeping m →
      Kept (forms.let_parts items q h pattern m around)
  let_parts_kept h pattern m around k = scope_kept h.id true
      (λ S v. on_value (m.reach around (begun S) v) bound)
      (λ S v c. then_kept (m.reach around (begun S) v) bound (k.reaches around (begun S) v c)
      (bind_kept around_innermost (pattern.shape.bindings (place_of m around))))
    where
      begun : Scopes → Scopes
      begun = changed_if (not (m.shape.is_place || m.shape.in_destination)) (innermost (with_pending (entry_of m.head)))

      bound : Does V
      bound = forms.bind items q around_innermost (pattern.shape.bindings (place_of m around))

  emptied_kept : (b : Bool) (key : ℕ) (ty : TyId) → Kept (forms.emptied items q b key)
  emptied_kept true key ty S v c = c
  emptied_kept false key ty S v c = in_scopes_kept S (q.drop Normal (site_of_key key) v)
      (keeps.drops Normal (record { key = key; ty = ty }) v c)

  declared_kept : (bounds : List BoundName) → Kept (forms.declared items q bounds)
  declared_kept [] S v c = c
  declared_kept (b ∷ bounds) S v c = both_kept (forms.emptied items q (needs_drop items b.ty) b.key) entered
      (emptied_kept (needs_drop items b.ty) b.key b.ty)
      (λ T w d. declared_kept bounds (innermost (with_entry (bound_entry b)) T) w d) S v c
    where
      entered : Does V
      entered S v = forms.declared items q bounds (innermost (with_entry (bound_entry b)) S) v

  value_kept : (b : Bool) (h : NodeHead) (pattern m : Meaning V) (around : LoopsAndGuards) → Keeping m →
      Kept (forms.let_value items q b h pattern m around)
  value_kept true h pattern m around k = let_name_kept h pattern.head m around k
  value_kept false h pattern m around k = let_parts_kept h pattern m around k

  pub letting_kept : (h : NodeHead) (pattern : Meaning V) (value : Option (Meaning V)) (around : LoopsAndGuards) →
      KeepingIfAny value → Kept (forms.letting items q h pattern value around)
  letting_kept h pattern None around k = declared_kept (pattern.shape.bindings (whole_local 0))
  letting_kept h pattern (Some m) around k = value_kept pattern.shape.is_binding h pattern m around k

  -- ---- loops and jumps

  turned_kept : (id : ℕ) (begun : Scopes) (r : Run V) (next : Does V) → Calm r → Kept next →
      Calm (forms.turned items q id begun r next)
  turned_kept id begun (At Value S v) next h k = k S v h
  turned_kept id begun (At (Breaks loop) S v) next h k = by (id == loop)
    where
      by : (b : Bool) → Calm (if b then At Value begun v else At (Breaks loop) S v)
      by true = h
      by false = h
  turned_kept id begun (At (Continues loop) S v) next h k = by (id == loop)
    where
      by : (b : Bool) → Calm ((if b then next begun else At (Continues loop) S) v)
      by true = k begun v h
      by false = h
  turned_kept id begun (At Returns S v) next h k = h
  turned_kept id begun (At Panics S v) next h k = h
  turned_kept id begun (Over halt v) next h k = h

  pub turns_kept : (n id : ℕ) (turn : Does V) → Kept turn → Kept (forms.turns items q n id turn)
  turns_kept zero id turn k S v c = keeps.lapses v
  turns_kept (suc n) id turn k S v c = by (q.tick v) (keeps.ticks v c)
      (λ w d. turned_kept id S (turn S w) (forms.turns items q n id turn) (k S w d) (turns_kept n id turn k))
    where
      by : (o : Out V) → ShownOut over calm (λ w. ⊥) o →
          ((w : V) → calm w → Calm (forms.turned items q id S (turn S w) (forms.turns items q n id turn))) →
          Calm (forms.ticked items q o (λ w. forms.turned items q id S (turn S w) (forms.turns items q n id turn)))
      by (Go w) h later = later w h
      by (Unwind w) h later = absurd h
      by (Halts halt w) h later = h

  pub ends_kept : (h : NodeHead) (to : Destination) → Kept (forms.ends_loop items q h to)
  ends_kept h to = both_kept (forms.put_unit items q h to) (At (Breaks h.id)) (unit_kept h to) (λ S v c. c)

  pub jumping_kept : (exit : Exit) (h : NodeHead) (m : Option (Meaning V)) (around : LoopsAndGuards)
      (to : Destination) → KeepingIfAny m → Kept (forms.jumping items q exit h m around to)
  jumping_kept exit h None around to k = both_kept (forms.put_unit items q h to) (At exit) (unit_kept h to) (λ S v c. c)
  jumping_kept exit h (Some m) around to k =
      both_kept (m.evaluate around false to) (At exit) (k.evaluates around false to) (λ S v c. c)
