-- Which nodes have a value: rules of evaluation that say of each exit whether a value was made there, and by which loops it
-- may leave, whatever effects there are. Of type `!` nothing is made, so such a node has no value, and no loop of that type
-- is left by `break`.
use Rattle.std.proofs.Common.{◌≡◌, ℕ, zero, suc, ◌==◌, ◌||◌, not, Bool, true, false, List, [], ◌∷◌, ◌++◌, Option, Some, None, if◌then◌else◌, refl, subst}
use Rattle.mir_ty.specs.declared.ty.TyId.{TyId}
use Rattle.mir_ty.specs.Facts.{needs_drop}
use Rattle.mir_ty.specs.ItemTable.{ItemTable}
use Rattle.store_model.specs.Effects as effects
use Rattle.store_model.specs.Effects.{EffectSite, Operand, Action, Normal, Unwinding, Out, Go, Unwind, Halts, Choice, Yes, No, Neither, Effects, DoesNotGoOn}
use Rattle.store_model.specs.Places.Place.{Place}
use Rattle.src_meaning.specs.Forms as forms
use Rattle.src_meaning.specs.Forms.{Destination, Into, Coerced, LoopsAndGuards, Meaning, entry_of, bound_entry, site_in, moved, keys_of, changed_if, is_never, place_of, site_of}
use Rattle.src_meaning.specs.Scopes as source
use Rattle.src_meaning.specs.Scopes.{Entry, Scope, Scopes, with_scope, innermost, around_innermost, nearest_temporary, with_entry, with_pending, without_pending, becomes_entry, without_operands, needing_drop, Exit, Value, Breaks, Continues, Returns, Panics, Run, At, Over, Does, ◌>>◌, on_value, in_scopes, back_in, leave, leaving, drop_normally, drop_unwinding, entry_site, choosing, chosen, in_scope, then_or_leave}
use Rattle.src_meaning.specs.Shape.{NodeHead, Shape, BoundName}
use Rattle.well_typed.specs.Places.{LoopAround, loop_with}
use Rattle.soundness.proofs.PassPlacesRules.{NoValue}

module _ {V : Type 0} (items : ItemTable) (q : Effects V) where
  -- at a value something was made; a loop that is left by `break` is around, and of a type that is made
  abbrev pub ExitSo : List LoopAround → Type 0 → Exit → Type 0
  ExitSo loops made Value = made
  ExitSo loops made (Breaks loop) =
      (a : LoopAround) × ((loop_with loop loops ≡ Some a) × (is_never items a.ty ≡ false))
  ExitSo loops made (Continues loop) = Unit {0}
  ExitSo loops made Returns = Unit {0}
  ExitSo loops made Panics = Unit {0}

  abbrev pub EndsSo : List LoopAround → Type 0 → Run V → Type 0
  EndsSo loops made (At exit S v) = ExitSo loops made exit
  EndsSo loops made (Over halt v) = Unit {0}

  abbrev pub Makes : List LoopAround → Type 0 → Does V → Type 0
  Makes loops made does = (S : Scopes) (v : V) → EndsSo loops made (does S v)

  abbrev pub Nothing : Type 0
  Nothing = Unit {0}

  -- ---- one after another

  pub then_so : (loops : List LoopAround) (a b : Type 0) (r : Run V) (next : Does V) → EndsSo loops a r →
      (a → Makes loops b next) → EndsSo loops b (on_value r next)
  then_so loops a b (At Value S v) next h f = f h S v
  then_so loops a b (At (Breaks loop) S v) next h f = h
  then_so loops a b (At (Continues loop) S v) next h f = tt
  then_so loops a b (At Returns S v) next h f = tt
  then_so loops a b (At Panics S v) next h f = tt
  then_so loops a b (Over halt v) next h f = tt

  pub both_so : (loops : List LoopAround) (a b : Type 0) (one other : Does V) → Makes loops a one → (a → Makes loops b other) →
      Makes loops b (one >> other)
  both_so loops a b one other h f S v = then_so loops a b (one S v) other (h S v) f

  pub as_so : (loops : List LoopAround) (a b : Type 0) (r : Run V) → (a → b) → EndsSo loops a r → EndsSo loops b r
  as_so loops a b (At Value S v) f h = f h
  as_so loops a b (At (Breaks loop) S v) f h = h
  as_so loops a b (At (Continues loop) S v) f h = tt
  as_so loops a b (At Returns S v) f h = tt
  as_so loops a b (At Panics S v) f h = tt
  as_so loops a b (Over halt v) f h = tt

  -- without a value none is asked for
  pub none_so : (loops : List LoopAround) (a : Type 0) (r : Run V) → NoValue r → EndsSo loops Nothing r → EndsSo loops a r
  none_so loops a (At Value S v) n h = absurd n
  none_so loops a (At (Breaks loop) S v) n h = h
  none_so loops a (At (Continues loop) S v) n h = tt
  none_so loops a (At Returns S v) n h = tt
  none_so loops a (At Panics S v) n h = tt
  none_so loops a (Over halt v) n h = tt

  pub no_value : (loops : List LoopAround) (r : Run V) → EndsSo loops ⊥ r → NoValue r
  no_value loops (At Value S v) h = h
  no_value loops (At (Breaks loop) S v) h = tt
  no_value loops (At (Continues loop) S v) h = tt
  no_value loops (At Returns S v) h = tt
  no_value loops (At Panics S v) h = tt
  no_value loops (Over halt v) h = tt

  pub acted_so : (loops : List LoopAround) (S : Scopes) (o : Out V) → EndsSo loops Nothing (in_scopes S o)
  acted_so loops S (Go w) = tt
  acted_so loops S (Unwind w) = tt
  acted_so loops S (Halts halt w) = tt

  pub acts_so : (loops : List LoopAround) (action : Action) → Makes loops Nothing (forms.acts items q action)
  acts_so loops action S v = acted_so loops S (q.act action v)

  -- what does not go on has no value
  stopped_so : (loops : List LoopAround) (a : Type 0) (S : Scopes) (o : Out V) → DoesNotGoOn o → EndsSo loops a (in_scopes S o)
  stopped_so loops a S (Go w) h = absurd h
  stopped_so loops a S (Unwind w) h = tt
  stopped_so loops a S (Halts halt w) h = tt

  pub stops_so : (loops : List LoopAround) (a : Type 0) (action : Action) → ((v : V) → DoesNotGoOn (q.act action v)) →
      Makes loops a (forms.acts items q action)
  stops_so loops a action f S v = stopped_so loops a S (q.act action v) (f v)

  pub back_so : (loops : List LoopAround) (a : Type 0) (S : Scopes) (r : Run V) → EndsSo loops a r →
      EndsSo loops a (back_in S r)
  back_so loops a S (At Value T v) h = h
  back_so loops a S (At (Breaks loop) T v) h = h
  back_so loops a S (At (Continues loop) T v) h = tt
  back_so loops a S (At Returns T v) h = tt
  back_so loops a S (At Panics T v) h = tt
  back_so loops a S (Over halt v) h = tt

  -- ---- scopes

  unwinding_so : (loops : List LoopAround) (a : Type 0) (es : List Entry) → Makes loops a (drop_unwinding items q es)
  unwinding_so loops a [] S v = tt
  unwinding_so loops a (e ∷ es) S v = by (q.drop Unwinding (entry_site e) v) (λ w. unwinding_so loops a es S w)
    where
      by : (o : Out V) → ((w : V) → EndsSo loops a (drop_unwinding items q es S w)) →
          EndsSo loops a (source.dropped_unwinding items q o (drop_unwinding items q es S))
      by (Go w) later = later w
      by (Unwind w) later = tt
      by (Halts halt w) later = tt

  normally_so : (loops : List LoopAround) (a : Type 0) (exit : Exit) → ExitSo loops a exit → (es : List Entry) →
      Makes loops a (drop_normally items q exit es)
  normally_so loops a exit h [] S v = h
  normally_so loops a exit h (e ∷ es) S v = by (q.drop Normal (entry_site e) v)
      (λ w. normally_so loops a exit h es S w)
    where
      by : (o : Out V) → ((w : V) → EndsSo loops a (drop_normally items q exit es S w)) →
          EndsSo loops a (source.dropped_normally items q o (drop_normally items q exit es S) (drop_unwinding items q es S))
      by (Go w) later = later w
      by (Unwind w) later = unwinding_so loops a es S w
      by (Halts halt w) later = tt

  pub leave_so : (loops : List LoopAround) (a : Type 0) (r : Run V) → EndsSo loops a r → EndsSo loops a (leave items q r)
  leave_so loops a (At exit [] v) h = h
  leave_so loops a (At Value (s ∷ S) v) h = normally_so loops a Value h (needing_drop items s.entries) S v
  leave_so loops a (At (Breaks loop) (s ∷ S) v) h = normally_so loops a (Breaks loop) h (needing_drop items s.entries) S v
  leave_so loops a (At (Continues loop) (s ∷ S) v) h =
      normally_so loops a (Continues loop) tt (needing_drop items s.entries) S v
  leave_so loops a (At Returns (s ∷ S) v) h = normally_so loops a Returns tt (needing_drop items s.entries) S v
  leave_so loops a (At Panics (s ∷ S) v) h =
      unwinding_so loops a (needing_drop items (s.pending ++ s.entries)) S v
  leave_so loops a (Over halt v) h = tt

  pub scope_so : (loops : List LoopAround) (a : Type 0) (id : ℕ) (own : Bool) (does : Does V) → Makes loops a does →
      Makes loops a (in_scope items q id own does)
  scope_so loops a id own does h S v = leave_so loops a (does (with_scope id own S) v) (h (with_scope id own S) v)

  pub own_so : (loops : List LoopAround) (a : Type 0) (h : NodeHead) (own : Bool) (does : Does V) → Makes loops a does →
      Makes loops a (forms.in_own_scope items q h own does)
  own_so loops a h true does k = scope_so loops a h.id true does k
  own_so loops a h false does k = k

  pub alone_so : (loops : List LoopAround) (a : Type 0) (around : LoopsAndGuards) (m : Meaning V) (to : Destination) →
      Makes loops a (m.evaluate around true to) → Makes loops a (forms.alone items q around m to)
  alone_so loops a around m to k S v = back_so loops a S (m.evaluate around true to S v) (k S v)

  -- ---- values and operands

  pub deliver_so : (loops : List LoopAround) (h : NodeHead) (action : EffectSite → Action) (to : Destination) →
      Makes loops Nothing (forms.deliver items q h action to)
  deliver_so loops h action (Into key) = acts_so loops (action (site_in h.id key))
  deliver_so loops h action (Coerced key trait_no to) = both_so loops Nothing Nothing
      (forms.acts items q (action (site_in h.id key)))
      (forms.acts items q (effects.Unsize (site_in h.id to) trait_no (moved h.id key)))
      (acts_so loops (action (site_in h.id key)))
      (λ u. acts_so loops (effects.Unsize (site_in h.id to) trait_no (moved h.id key)))

  pub unit_so : (loops : List LoopAround) (h : NodeHead) (to : Destination) → Makes loops Nothing (forms.put_unit items q h to)
  unit_so loops h to = deliver_so loops h (λ site. effects.Put site effects.UnitValue) to

  completed_so : (loops : List LoopAround) (a : Type 0) (begun : Scopes → Scopes) (evaluate : Does V) (after : Scopes → Scopes) →
      Makes loops a evaluate → Makes loops a (λ S v. on_value (evaluate (begun S) v) (source.changing after))
  completed_so loops a begun evaluate after k S v =
      then_so loops a a (evaluate (begun S) v) (source.changing after) (k (begun S) v) (λ h T w. h)

  abbrev pub AllMake : List LoopAround → LoopsAndGuards → List (Meaning V) → Type 0
  AllMake loops around [] = Unit {0}
  AllMake loops around (m ∷ ms) =
      Makes loops Nothing (m.evaluate around false (Into m.head.id)) × AllMake loops around ms

  operands_so : (loops : List LoopAround) (around : LoopsAndGuards) (ms : List (Meaning V)) → AllMake loops around ms →
      Makes loops Nothing (forms.operands items q around ms)
  operands_so loops around [] k S v = tt
  operands_so loops around (m ∷ ms) k S v = both_so loops Nothing Nothing (forms.operand items q around m)
      (forms.operands items q around ms)
      (completed_so loops Nothing (changed_if m.shape.in_destination (innermost (with_pending (entry_of m.head))))
      (m.evaluate around false (Into m.head.id)) (innermost (becomes_entry (entry_of m.head))) k.0)
      (λ u. operands_so loops around ms k.1) S v

  pub acting_so : (loops : List LoopAround) (a : Type 0) (h : NodeHead) (around : LoopsAndGuards) (own : Bool)
      (ms : List (Meaning V)) (act : Does V) → AllMake loops around ms → Makes loops a act →
      Makes loops a (forms.acting items q h around own ms act)
  acting_so loops a h around own ms act k e = scope_so loops a h.id own (forms.operands items q around ms >> taken)
      (both_so loops Nothing a (forms.operands items q around ms) taken (operands_so loops around ms k)
      (λ u S v. e (innermost (without_operands (keys_of ms)) S) v))
    where
      taken : Does V
      taken S v = on_value (forms.take items q (keys_of ms) S v) act

  pub dropping_so : (loops : List LoopAround) (h : NodeHead) (around : LoopsAndGuards) (own : Bool) (m : Meaning V)
      (act : Does V) → Makes loops Nothing (m.evaluate around false (Into m.head.id)) → Makes loops Nothing act →
      Makes loops Nothing (forms.dropping items q h around own m act)
  dropping_so loops h around own m act k e = scope_so loops Nothing h.id own (forms.operand items q around m >> act)
      (both_so loops Nothing Nothing (forms.operand items q around m) act
      (completed_so loops Nothing (changed_if m.shape.in_destination (innermost (with_pending (entry_of m.head))))
      (m.evaluate around false (Into m.head.id)) (innermost (becomes_entry (entry_of m.head))) k) (λ u. e))

  pub temporary_so : (loops : List LoopAround) (a : Type 0) (h : NodeHead) (s : Shape)
      (evaluate : LoopsAndGuards → Bool → Destination → Does V) (around : LoopsAndGuards) →
      Makes loops a (evaluate around false (Into h.id)) → Makes loops a (forms.temporary items q h s evaluate around)
  temporary_so loops a h s evaluate around k = completed_so loops a
      (changed_if s.in_destination (nearest_temporary (with_pending (entry_of h)))) (evaluate around false (Into h.id))
      (nearest_temporary (becomes_entry (entry_of h))) k

  pub operand_so : (loops : List LoopAround) (around : LoopsAndGuards) (m : Meaning V) →
      Makes loops Nothing (m.evaluate around false (Into m.head.id)) → Makes loops Nothing (forms.operand items q around m)
  operand_so loops around m k = completed_so loops Nothing
      (changed_if m.shape.in_destination (innermost (with_pending (entry_of m.head))))
      (m.evaluate around false (Into m.head.id)) (innermost (becomes_entry (entry_of m.head))) k

  -- ---- places

  pub element_so : (loops : List LoopAround) (h : NodeHead) (s : Shape) (base index : Meaning V) (length : ℕ)
      (around : LoopsAndGuards) → Makes loops Nothing (base.reach around) →
      Makes loops Nothing (index.evaluate around false (Into index.head.id)) →
      Makes loops Nothing (forms.reach_element items q h s base index length around)
  element_so loops h s base index length around b i = both_so loops Nothing Nothing _ _ b
      (λ u. both_so loops Nothing Nothing _ _ i (λ w. both_so loops Nothing Nothing _ _ (acts_so loops _) (λ x. acts_so loops _)))

  replaced_so : (loops : List LoopAround) (site : EffectSite) (key : ℕ) (S : Scopes) (o : Out V) →
      EndsSo loops Nothing (forms.stored_after items q site key S o)
  replaced_so loops site key S (Go w) = acts_so loops (effects.Put site (moved site.node key))
      (innermost (without_operands (key ∷ [])) S) w
  replaced_so loops site key S (Unwind w) = then_so loops Nothing Nothing
      (forms.acts items q (effects.Put site (moved site.node key)) (innermost (without_operands (key ∷ [])) S) w)
      (At Panics)
      (acts_so loops (effects.Put site (moved site.node key)) (innermost (without_operands (key ∷ [])) S) w) (λ u T x. tt)
  replaced_so loops site key S (Halts halt w) = tt

  replacing_so : (loops : List LoopAround) (b : Bool) (site : EffectSite) (key : ℕ) →
      Makes loops Nothing (forms.replacing items q b site key)
  replacing_so loops true site key S v = replaced_so loops site key S (q.drop Normal site v)
  replacing_so loops false site key S v = replaced_so loops site key S (Go v)

  pub assigning_so : (loops : List LoopAround) (h : NodeHead) (place value : Meaning V) (around : LoopsAndGuards) (own : Bool)
      (to : Destination) → Makes loops Nothing (value.evaluate around false (Into value.head.id)) →
      Makes loops Nothing (place.reach around) → Makes loops Nothing (forms.assigning items q h place value around own to)
  assigning_so loops h place value around own to e p = scope_so loops Nothing h.id own _
      (both_so loops Nothing Nothing _ _ (operand_so loops around value e) (λ u. both_so loops Nothing Nothing _ _ p
      (λ w. both_so loops Nothing Nothing _ _
      (replacing_so loops (needs_drop items place.head.ty) (site_of place around) value.head.id)
      (λ x. unit_so loops h to))))

  -- ---- conditions and patterns

  pub chosen_so : (loops : List LoopAround) (a : Type 0) (S : Scopes) (o : Choice V) (f g : Does V) → Makes loops a f →
      Makes loops a g → EndsSo loops a (chosen o (f S) (g S))
  chosen_so loops a S (Yes w) f g h k = h S w
  chosen_so loops a S (No w) f g h k = k S w
  chosen_so loops a S (Neither halt w) f g h k = tt

  pub condition_so : (loops : List LoopAround) (a : Type 0) (around : LoopsAndGuards) (m : Meaning V) (f g : Does V) →
      Makes loops Nothing (m.evaluate around true (Into m.head.id)) → Makes loops a f → Makes loops a g →
      Makes loops a (forms.condition items q around m f g)
  condition_so loops a around m f g k h j = both_so loops Nothing a (forms.alone items q around m (Into m.head.id))
      (choosing (q.choose (effects.IsTrue (moved m.head.id m.head.id))) f g)
      (alone_so loops Nothing around m (Into m.head.id) k)
      (λ u S v. chosen_so loops a S (q.choose (effects.IsTrue (moved m.head.id m.head.id)) v) f g h j)

  pub bind_so : (loops : List LoopAround) (in_that : (Scope → Scope) → Scopes → Scopes) (bounds : List BoundName) →
      Makes loops Nothing (forms.bind items q in_that bounds)
  bind_so loops in_that [] S v = tt
  bind_so loops in_that (b ∷ bounds) S v = both_so loops Nothing Nothing _ _ (acts_so loops _)
      (λ u T w. bind_so loops in_that bounds (in_that (with_entry (bound_entry b)) T) w) S v

  touched_so : (loops : List LoopAround) (b : Bool) (site : EffectSite) → Makes loops Nothing (forms.touched items q b site)
  touched_so loops true site = acts_so loops (effects.Touch site)
  touched_so loops false site = λ S v. tt

  scrutinised_so : (loops : List LoopAround) (around : LoopsAndGuards) (m : Meaning V) → Makes loops Nothing (m.reach around) →
      Makes loops Nothing (forms.scrutinised items q around m)
  scrutinised_so loops around m k =
      both_so loops Nothing Nothing _ _ k (λ u. touched_so loops m.shape.is_place (site_of m around))

  then_or_leave_so : (loops : List LoopAround) (a : Type 0) (r : Run V) (next : Does V) → EndsSo loops Nothing r →
      Makes loops a next → EndsSo loops a (then_or_leave items q r next)
  then_or_leave_so loops a (At Value S v) next h k = k S v
  then_or_leave_so loops a (At (Breaks loop) S v) next h k = leave_so loops a (At (Breaks loop) S v) h
  then_or_leave_so loops a (At (Continues loop) S v) next h k = leave_so loops a (At (Continues loop) S v) tt
  then_or_leave_so loops a (At Returns S v) next h k = leave_so loops a (At Returns S v) tt
  then_or_leave_so loops a (At Panics S v) next h k = leave_so loops a (At Panics S v) tt
  then_or_leave_so loops a (Over halt v) next h k = tt

  pub if_taken_so : (loops : List LoopAround) (a : Type 0) (h : NodeHead) (around : LoopsAndGuards)
      (pattern scrutinee : Meaning V) (does otherwise : Does V) → Makes loops Nothing (scrutinee.reach around) →
      Makes loops a does → Makes loops a otherwise →
      Makes loops a (forms.if_taken items q h around pattern scrutinee does otherwise)
  if_taken_so loops a h around pattern scrutinee does otherwise s d o S v = then_or_leave_so loops a
      (forms.scrutinised items q around scrutinee (with_scope h.id true S) v)
      (choosing (forms.all_hold items q (pattern.shape.tests (place_of scrutinee around))) (leaving items q bound) left)
      (scrutinised_so loops around scrutinee s (with_scope h.id true S) v)
      (λ T w. chosen_so loops a T (forms.all_hold items q (pattern.shape.tests (place_of scrutinee around)) w)
      (leaving items q bound) left
      (λ U u. leave_so loops a (bound U u) (then_so loops Nothing a
      (forms.bind items q innermost (pattern.shape.bindings (place_of scrutinee around)) U u) does
      (bind_so loops innermost (pattern.shape.bindings (place_of scrutinee around)) U u) (λ x. d)))
      (λ U u. then_so loops Nothing a (leave items q (At Value U u)) otherwise
      (leave_so loops Nothing (At Value U u) tt) (λ x. o)))
    where
      bound : Does V
      bound T w = on_value (forms.bind items q innermost (pattern.shape.bindings (place_of scrutinee around)) T w) does

      left : Does V
      left T w = on_value (leave items q (At Value T w)) otherwise

  abbrev pub AllArms : List LoopAround → Type 0 → LoopsAndGuards → Destination → List (Meaning V) → Type 0
  AllArms loops a around to [] = Unit {0}
  AllArms loops a around to (m ∷ ms) = ((place : Place) (otherwise : Does V) → Makes loops a otherwise →
      Makes loops a (m.arm place otherwise around to)) × AllArms loops a around to ms

  arms_so : (loops : List LoopAround) (a : Type 0) (ms : List (Meaning V)) (place : Place) (around : LoopsAndGuards)
      (to : Destination) → AllArms loops a around to ms → Makes loops a (forms.arms_in_order items q ms place around to)
  arms_so loops a [] place around to k S v = tt
  arms_so loops a (m ∷ ms) place around to k S v =
      k.0 place (forms.arms_in_order items q ms place around to) (arms_so loops a ms place around to k.1) S v

  pub matching_so : (loops : List LoopAround) (a : Type 0) (h : NodeHead) (scrutinee : Meaning V) (ms : List (Meaning V))
      (around : LoopsAndGuards) (own : Bool) (to : Destination) → Makes loops Nothing (scrutinee.reach around) →
      AllArms loops a around to ms → Makes loops a (forms.matching items q h scrutinee ms around own to)
  matching_so loops a h scrutinee ms around own to s k = own_so loops a h own _ (both_so loops Nothing a _ _
      (scrutinised_so loops around scrutinee s) (λ u. arms_so loops a ms (place_of scrutinee around) around to k))

  pub arm_so : (loops : List LoopAround) (a : Type 0) (h : NodeHead) (pattern : Meaning V) (guard : Option (Meaning V))
      (m : Meaning V) (place : Place) (otherwise : Does V) (around : LoopsAndGuards) (to : Destination) →
      ((g : Meaning V) → guard ≡ Some g → (inner : LoopsAndGuards) →
      Makes loops Nothing (g.evaluate inner true (Into g.head.id))) →
      Makes loops a (m.evaluate around true to) → Makes loops a otherwise →
      Makes loops a (forms.arm items q h pattern guard m place otherwise around to)
  arm_so loops a h pattern guard m place otherwise around to g k o S v = chosen_so loops a S
      (forms.all_hold items q (pattern.shape.tests place) v)
      (forms.guarded items q around (pattern.shape.bindings place) guard taken otherwise) otherwise
      (guarded guard g) o
    where
      taken : Does V
      taken = forms.taken_arm items q h around (pattern.shape.bindings place) m to

      taken_so : Makes loops a taken
      taken_so = scope_so loops a h.id false _ (both_so loops Nothing a _ _
          (bind_so loops innermost (pattern.shape.bindings place)) (λ u. alone_so loops a around m to k))

      guarded : (o_ : Option (Meaning V)) → ((x : Meaning V) → o_ ≡ Some x → (inner : LoopsAndGuards) →
          Makes loops Nothing (x.evaluate inner true (Into x.head.id))) →
          Makes loops a (forms.guarded items q around (pattern.shape.bindings place) o_ taken otherwise)
      guarded None f = taken_so
      guarded (Some x) f = condition_so loops a (forms.in_guard (pattern.shape.bindings place) around) x taken otherwise
          (f x refl (forms.in_guard (pattern.shape.bindings place) around)) taken_so o

  -- ---- blocks and statements

  pub block_so : (loops : List LoopAround) (a b : Type 0) (h : NodeHead) (ms : List (Meaning V)) (tail : Option (Meaning V))
      (around : LoopsAndGuards) (own : Bool) (to : Destination) → Makes loops a (forms.statements items q around ms) →
      (a → Makes loops b (forms.tail_of items q h tail around to)) →
      Makes loops b (forms.block items q h ms tail around own to)
  block_so loops a b h ms tail around own to k t = scope_so loops b h.id own _ (both_so loops a b _ _ k t)

  pub evaluating_so : (loops : List LoopAround) (a : Type 0) (h : NodeHead) (m : Meaning V) (around : LoopsAndGuards) →
      Makes loops a (m.evaluate around false (Into m.head.id)) → Makes loops a (forms.evaluating items q h m around)
  evaluating_so loops a h m around k = scope_so loops a h.id true
      (λ S v. on_value (m.evaluate around false (Into m.head.id) (innermost (with_pending (entry_of m.head)) S) v)
      (source.changing (innermost (becomes_entry (entry_of m.head)))))
      (completed_so loops a (innermost (with_pending (entry_of m.head))) (m.evaluate around false (Into m.head.id))
      (innermost (becomes_entry (entry_of m.head))) k)

  pub let_name_so : (loops : List LoopAround) (a : Type 0) (h x : NodeHead) (m : Meaning V) (around : LoopsAndGuards) →
      Makes loops a (m.evaluate around false (Into x.id)) → Makes loops a (forms.let_name items q h x m around)
  let_name_so loops a h x m around k = scope_so loops a h.id true
      (λ S v. on_value (m.evaluate around false (Into x.id) (innermost (with_pending (entry_of x)) S) v) named)
      (λ S v. then_so loops a a (m.evaluate around false (Into x.id) (innermost (with_pending (entry_of x)) S) v) named
      (k (innermost (with_pending (entry_of x)) S) v) (λ u T w. u))
    where
      named : Does V
      named T w = At Value (around_innermost (with_entry (entry_of x)) (innermost (without_pending (entry_of x)) T)) w

  pub let_parts_so : (loops : List LoopAround) (a : Type 0) (h : NodeHead) (pattern m : Meaning V) (around : LoopsAndGuards) →
      Makes loops a (m.reach around) → Makes loops a (forms.let_parts items q h pattern m around)
  let_parts_so loops a h pattern m around k = scope_so loops a h.id true
      (λ S v. on_value (m.reach around (begun S) v) bound)
      (λ S v. then_so loops a a (m.reach around (begun S) v) bound (k (begun S) v)
      (λ u T w. as_so loops Nothing a (bound T w) (λ x. u)
      (bind_so loops around_innermost (pattern.shape.bindings (place_of m around)) T w)))
    where
      begun : Scopes → Scopes
      begun = changed_if (not (m.shape.is_place || m.shape.in_destination)) (innermost (with_pending (entry_of m.head)))

      bound : Does V
      bound = forms.bind items q around_innermost (pattern.shape.bindings (place_of m around))

  -- ---- loops and jumps

  turned_so : (id : ℕ) (ty : TyId) (has_value : Bool) (loops : List LoopAround) (begun : Scopes) (r : Run V)
      (next : Does V) → EndsSo (record { loop = id; ty = ty; has_value = has_value } ∷ loops) Nothing r →
      Makes loops (is_never items ty ≡ false) next →
      EndsSo loops (is_never items ty ≡ false) (forms.turned items q id begun r next)
  turned_so id ty has_value loops begun (At Value S v) next h k = k S v
  turned_so id ty has_value loops begun (At (Breaks loop) S v) next h k = by (id == loop) h
    where
      same : (a : LoopAround) → Some (record { loop = id; ty = ty; has_value = has_value }) ≡ Some a →
          is_never items a.ty ≡ false → is_never items ty ≡ false
      same a e n = let t : a.ty ≡ ty = cc in subst (λ x. is_never items x ≡ false) t n

      by : (b : Bool) → ((a : LoopAround) × (((if b then Some (record { loop = id; ty = ty; has_value = has_value })
          else loop_with loop loops) ≡ Some a) × (is_never items a.ty ≡ false))) →
          EndsSo loops (is_never items ty ≡ false) (if b then At Value begun v else At (Breaks loop) S v)
      by true h = same h.0 h.1.0 h.1.1
      by false h = h
  turned_so id ty has_value loops begun (At (Continues loop) S v) next h k = by (id == loop)
    where
      by : (b : Bool) → EndsSo loops (is_never items ty ≡ false) ((if b then next begun else At (Continues loop) S) v)
      by true = k begun v
      by false = tt
  turned_so id ty has_value loops begun (At Returns S v) next h k = tt
  turned_so id ty has_value loops begun (At Panics S v) next h k = tt
  turned_so id ty has_value loops begun (Over halt v) next h k = tt

  pub turns_so : (n id : ℕ) (ty : TyId) (has_value : Bool) (loops : List LoopAround) (turn : Does V) →
      Makes (record { loop = id; ty = ty; has_value = has_value } ∷ loops) Nothing turn →
      Makes loops (is_never items ty ≡ false) (forms.turns items q n id turn)
  turns_so zero id ty has_value loops turn k S v = tt
  turns_so (suc n) id ty has_value loops turn k S v = by (q.tick v)
      (λ w. turned_so id ty has_value loops S (turn S w) (forms.turns items q n id turn) (k S w)
      (turns_so n id ty has_value loops turn k))
    where
      by : (o : Out V) → ((w : V) → EndsSo loops (is_never items ty ≡ false)
          (forms.turned items q id S (turn S w) (forms.turns items q n id turn))) →
          EndsSo loops (is_never items ty ≡ false) (forms.ticked items q o
          (λ w. forms.turned items q id S (turn S w) (forms.turns items q n id turn)))
      by (Go w) later = later w
      by (Unwind w) later = tt
      by (Halts halt w) later = tt
