-- Rules of evaluation for the half on places: each node keeps something, and ends a run in no other way than it may,
-- given that the nodes inside do; of effects that touch no place this is known from the effect alone. What is known
-- where there is a value, is said beside it.
use Rattle.std.proofs.Common.{◌≡◌, ℕ, zero, suc, ◌==◌, ◌||◌, not, Bool, true, false, List, [], ◌∷◌, ◌++◌, Option, if◌then◌else◌, refl}
use Rattle.mir_base.specs.declared.trace.Why.{Why}
use Rattle.mir_ty.specs.Facts.{needs_drop}
use Rattle.mir_ty.specs.ItemTable.{ItemTable}
use Rattle.store_model.specs.Effects as effects
use Rattle.store_model.specs.Effects.{EffectSite, Operand, Copied, Action, Mode, Normal, Unwinding, Halt, Aborted, OutOfTicks, Stuck, Out, Go, Unwind, Halts, Choice, Yes, No, Neither, Effects}
use Rattle.src_meaning.specs.Forms as forms
use Rattle.src_meaning.specs.Forms.{Destination, Into, Coerced, LoopsAndGuards, Meaning, entry_of, bound_entry, site_in, site_of_key, moved, keys_of, changed_if}
use Rattle.src_meaning.specs.Scopes as source
use Rattle.src_meaning.specs.Scopes.{Entry, Scope, Scopes, with_scope, innermost, around_innermost, nearest_temporary, with_entry, with_pending, without_pending, becomes_entry, without_operands, needing_drop, Exit, Value, Breaks, Continues, Returns, Panics, Run, At, Over, Does, ◌>>◌, on_value, in_scopes, back_in, leave, drop_normally, drop_unwinding, entry_site, choosing, chosen, in_scope, then_or_leave}
use Rattle.src_meaning.specs.Shape.{NodeHead, Shape, BoundName}
use Rattle.soundness_values.proofs.Leaving.{Shown, ShownOut}
use Rattle.soundness_frame.proofs.PassFrameCalls.{Ends}
use Rattle.soundness_cells.proofs.PassKept.{Answered}

-- an action that neither copies from a place, nor borrows or touches one, and moves whole locals alone
abbrev pub touches_none : Action → Bool
touches_none (effects.Put to (effects.Copied site)) = false
touches_none (effects.Put to (effects.Moved site)) = false
touches_none (effects.Compare to operator (effects.Moved site) right) = true
touches_none (effects.Compare to operator left right) = false
touches_none (effects.Borrow to unique base) = false
touches_none (effects.Touch base) = false
touches_none action = true

-- what is known of effects, whatever places there are
pub record Safe {V : Type 0} (q : Effects V) (over : Halt → V → Type 0) (I : V → Type 0) : Type 0 where
  pub acts : (action : Action) (v : V) → touches_none action ≡ true → I v → ShownOut over I I (q.act action v)
  pub asks : (operand : Operand) (v : V) → I v → Answered over I (q.choose (effects.IsTrue operand) v)
  pub drops : (mode : Mode) (e : Entry) (v : V) → I v → ShownOut over I I (q.drop mode (entry_site e) v)
  pub panics : (why : Why) (v : V) → I v → I (q.panic why v)
  pub ticks : (v : V) → I v → ShownOut over I I (q.tick v)
  pub aborts : (v : V) → over Aborted v
  pub lapses : (v : V) → over OutOfTicks v
  pub stuck : (v : V) → over Stuck v

-- a run that has no value
abbrev pub NoValue : {V : Type 0} → Run V → Type 0
NoValue (At Value S v) = ⊥
NoValue (At (Breaks loop) S v) = Unit {0}
NoValue (At (Continues loop) S v) = Unit {0}
NoValue (At Returns S v) = Unit {0}
NoValue (At Panics S v) = Unit {0}
NoValue (Over halt v) = Unit {0}

module _ {V : Type 0} (items : ItemTable) (q : Effects V) (over : Halt → V → Type 0) (I : V → Type 0)
    (safe : Safe q over I) where
  abbrev pub Kept : Run V → Type 0
  Kept = Shown over (λ exit S v. I v)

  abbrev pub Keeps : Does V → Type 0
  Keeps does = (S : Scopes) (v : V) → I v → Kept (does S v)

  -- where there is a value, something else is known too
  abbrev pub After : (V → Type 0) → Exit → Scopes → V → Type 0
  After J Value S v = I v × J v
  After J (Breaks loop) S v = I v
  After J (Continues loop) S v = I v
  After J Returns S v = I v
  After J Panics S v = I v

  abbrev pub Brings : (V → Type 0) → Does V → Type 0
  Brings J does = (S : Scopes) (v : V) → I v → Shown over (After J) (does S v)

  -- what is done where something is known keeps it
  abbrev pub KeepsIf : (V → Type 0) → Does V → Type 0
  KeepsIf J does = (S : Scopes) (v : V) → I v → J v → Kept (does S v)

  -- ---- one after another

  pub then_kept : (r : Run V) (next : Does V) → Kept r → Keeps next → Kept (on_value r next)
  then_kept (At Value S v) next h k = k S v h
  then_kept (At (Breaks loop) S v) next h k = h
  then_kept (At (Continues loop) S v) next h k = h
  then_kept (At Returns S v) next h k = h
  then_kept (At Panics S v) next h k = h
  then_kept (Over halt v) next h k = h

  pub both_kept : (one other : Does V) → Keeps one → Keeps other → Keeps (one >> other)
  both_kept one other h k S v i = then_kept (one S v) other (h S v i) k

  pub brought_then : (J : V → Type 0) (r : Run V) (next : Does V) → Shown over (After J) r → KeepsIf J next →
      Kept (on_value r next)
  brought_then J (At Value S v) next h k = k S v h.0 h.1
  brought_then J (At (Breaks loop) S v) next h k = h
  brought_then J (At (Continues loop) S v) next h k = h
  brought_then J (At Returns S v) next h k = h
  brought_then J (At Panics S v) next h k = h
  brought_then J (Over halt v) next h k = h

  pub bringing : (J : V → Type 0) (one other : Does V) → Brings J one → KeepsIf J other → Keeps (one >> other)
  bringing J one other h k S v i = brought_then J (one S v) other (h S v i) k

  pub brought_more : (J K : V → Type 0) (r : Run V) (next : Does V) → Shown over (After J) r →
      ((S : Scopes) (v : V) → I v → J v → Shown over (After K) (next S v)) → Shown over (After K) (on_value r next)
  brought_more J K (At Value S v) next h k = k S v h.0 h.1
  brought_more J K (At (Breaks loop) S v) next h k = h
  brought_more J K (At (Continues loop) S v) next h k = h
  brought_more J K (At Returns S v) next h k = h
  brought_more J K (At Panics S v) next h k = h
  brought_more J K (Over halt v) next h k = h

  pub brought_kept : (J : V → Type 0) (r : Run V) → Shown over (After J) r → Kept r
  brought_kept J (At Value S v) h = h.0
  brought_kept J (At (Breaks loop) S v) h = h
  brought_kept J (At (Continues loop) S v) h = h
  brought_kept J (At Returns S v) h = h
  brought_kept J (At Panics S v) h = h
  brought_kept J (Over halt v) h = h

  pub brought_as : (J K : V → Type 0) (r : Run V) → ((v : V) → J v → K v) → Shown over (After J) r →
      Shown over (After K) r
  brought_as J K (At Value S v) f h = (h.0, f v h.1)
  brought_as J K (At (Breaks loop) S v) f h = h
  brought_as J K (At (Continues loop) S v) f h = h
  brought_as J K (At Returns S v) f h = h
  brought_as J K (At Panics S v) f h = h
  brought_as J K (Over halt v) f h = h

  -- of what has no value anything is known there; and nothing is done behind it
  pub none_brings : (J : V → Type 0) (r : Run V) → NoValue r → Kept r → Shown over (After J) r
  none_brings J (At Value S v) n h = absurd n
  none_brings J (At (Breaks loop) S v) n h = h
  none_brings J (At (Continues loop) S v) n h = h
  none_brings J (At Returns S v) n h = h
  none_brings J (At Panics S v) n h = h
  none_brings J (Over halt v) n h = h

  -- what is known anyway
  pub always_brings : (J : V → Type 0) (r : Run V) → ((v : V) → J v) → Kept r → Shown over (After J) r
  always_brings J (At Value S v) f h = (h, f v)
  always_brings J (At (Breaks loop) S v) f h = h
  always_brings J (At (Continues loop) S v) f h = h
  always_brings J (At Returns S v) f h = h
  always_brings J (At Panics S v) f h = h
  always_brings J (Over halt v) f h = h

  pub in_scopes_kept : (S : Scopes) (o : Out V) → ShownOut over I I o → Kept (in_scopes S o)
  in_scopes_kept S (Go w) h = h
  in_scopes_kept S (Unwind w) h = h
  in_scopes_kept S (Halts halt w) h = h

  pub acts_kept : (action : Action) → touches_none action ≡ true → Keeps (forms.acts items q action)
  acts_kept action t S v i = in_scopes_kept S (q.act action v) (safe.acts action v t i)

  pub panics_kept : (why : Why) → Keeps (forms.panics items q why)
  panics_kept why S v i = safe.panics why v i

  pub back_kept : (S : Scopes) (r : Run V) → Kept r → Kept (back_in S r)
  back_kept S (At Value T v) h = h
  back_kept S (At (Breaks loop) T v) h = h
  back_kept S (At (Continues loop) T v) h = h
  back_kept S (At Returns T v) h = h
  back_kept S (At Panics T v) h = h
  back_kept S (Over halt v) h = h

  -- ---- scopes

  unwinding_kept : (es : List Entry) → Keeps (drop_unwinding items q es)
  unwinding_kept [] S v i = i
  unwinding_kept (e ∷ es) S v i = by (q.drop Unwinding (entry_site e) v) (safe.drops Unwinding e v i)
      (λ w j. unwinding_kept es S w j)
    where
      by : (o : Out V) → ShownOut over I I o → ((w : V) → I w → Kept (drop_unwinding items q es S w)) →
          Kept (source.dropped_unwinding items q o (drop_unwinding items q es S))
      by (Go w) h later = later w h
      by (Unwind w) h later = safe.aborts w
      by (Halts halt w) h later = h

  normally_kept : (exit : Exit) (es : List Entry) → Keeps (drop_normally items q exit es)
  normally_kept exit [] S v i = i
  normally_kept exit (e ∷ es) S v i = by (q.drop Normal (entry_site e) v) (safe.drops Normal e v i)
      (λ w j. normally_kept exit es S w j)
    where
      by : (o : Out V) → ShownOut over I I o → ((w : V) → I w → Kept (drop_normally items q exit es S w)) →
          Kept (source.dropped_normally items q o (drop_normally items q exit es S) (drop_unwinding items q es S))
      by (Go w) h later = later w h
      by (Unwind w) h later = unwinding_kept es S w h
      by (Halts halt w) h later = h

  pub leave_kept : (r : Run V) → Kept r → Kept (leave items q r)
  leave_kept (At exit [] v) h = h
  leave_kept (At Value (s ∷ S) v) h = normally_kept Value (needing_drop items s.entries) S v h
  leave_kept (At (Breaks loop) (s ∷ S) v) h = normally_kept (Breaks loop) (needing_drop items s.entries) S v h
  leave_kept (At (Continues loop) (s ∷ S) v) h = normally_kept (Continues loop) (needing_drop items s.entries) S v h
  leave_kept (At Returns (s ∷ S) v) h = normally_kept Returns (needing_drop items s.entries) S v h
  leave_kept (At Panics (s ∷ S) v) h = unwinding_kept (needing_drop items (s.pending ++ s.entries)) S v h
  leave_kept (Over halt v) h = h

  pub scope_kept : (id : ℕ) (own : Bool) (does : Does V) → Keeps does → Keeps (in_scope items q id own does)
  scope_kept id own does h S v i = leave_kept (does (with_scope id own S) v) (h (with_scope id own S) v i)

  pub own_kept : (h : NodeHead) (own : Bool) (does : Does V) → Keeps does → Keeps (forms.in_own_scope items q h own does)
  own_kept h true does k = scope_kept h.id true does k
  own_kept h false does k = k

  pub then_or_leave_kept : (J : V → Type 0) (r : Run V) (next : Does V) → Shown over (After J) r → KeepsIf J next →
      Kept (then_or_leave items q r next)
  then_or_leave_kept J (At Value S v) next h k = k S v h.0 h.1
  then_or_leave_kept J (At (Breaks loop) S v) next h k = leave_kept (At (Breaks loop) S v) h
  then_or_leave_kept J (At (Continues loop) S v) next h k = leave_kept (At (Continues loop) S v) h
  then_or_leave_kept J (At Returns S v) next h k = leave_kept (At Returns S v) h
  then_or_leave_kept J (At Panics S v) next h k = leave_kept (At Panics S v) h
  then_or_leave_kept J (Over halt v) next h k = h

  -- ---- values and destinations

  pub deliver_kept : (h : NodeHead) (action : EffectSite → Action) (to : Destination) →
      ((site : EffectSite) → touches_none (action site) ≡ true) → Keeps (forms.deliver items q h action to)
  deliver_kept h action (Into key) t = acts_kept (action (site_in h.id key)) (t (site_in h.id key))
  deliver_kept h action (Coerced key trait_no to) t = both_kept (forms.acts items q (action (site_in h.id key)))
      (forms.acts items q (effects.Unsize (site_in h.id to) trait_no (moved h.id key)))
      (acts_kept (action (site_in h.id key)) (t (site_in h.id key)))
      (acts_kept (effects.Unsize (site_in h.id to) trait_no (moved h.id key)) refl)

  pub unit_kept : (h : NodeHead) (to : Destination) → Keeps (forms.put_unit items q h to)
  unit_kept h to = deliver_kept h (λ site. effects.Put site effects.UnitValue) to (λ site. refl)

  pub unit_if_kept : (b : Bool) (h : NodeHead) (to : Destination) → Keeps (forms.put_unit_if items q b h to)
  unit_if_kept true h to S v i = i
  unit_if_kept false h to S v i = unit_kept h to S v i

  abbrev pub Evaluated : LoopsAndGuards → Meaning V → Type 0
  Evaluated around m = Keeps (m.evaluate around false (Into m.head.id))

  abbrev pub AllEvaluated : LoopsAndGuards → List (Meaning V) → Type 0
  AllEvaluated around [] = Unit {0}
  AllEvaluated around (m ∷ ms) = Evaluated around m × AllEvaluated around ms

  pub alone_kept : (around : LoopsAndGuards) (m : Meaning V) (to : Destination) →
      Keeps (m.evaluate around true to) → Keeps (forms.alone items q around m to)
  alone_kept around m to k S v i = back_kept S (m.evaluate around true to S v) (k S v i)

  -- a value is made, and its entry is complete
  pub completed_kept : (begun : Scopes → Scopes) (evaluate : Does V) (after : Scopes → Scopes) → Keeps evaluate →
      Keeps (λ S v. on_value (evaluate (begun S) v) (source.changing after))
  completed_kept begun evaluate after k S v i =
      then_kept (evaluate (begun S) v) (source.changing after) (k (begun S) v i) (λ T w j. j)

  pub operand_kept : (around : LoopsAndGuards) (m : Meaning V) → Evaluated around m →
      Keeps (forms.operand items q around m)
  operand_kept around m k = completed_kept
      (changed_if m.shape.in_destination (innermost (with_pending (entry_of m.head))))
      (m.evaluate around false (Into m.head.id)) (innermost (becomes_entry (entry_of m.head))) k

  completed_brings : (J : V → Type 0) (r : Run V) (after : Scopes → Scopes) → Shown over (After J) r →
      Shown over (After J) (on_value r (source.changing after))
  completed_brings J (At Value S v) after h = h
  completed_brings J (At (Breaks loop) S v) after h = h
  completed_brings J (At (Continues loop) S v) after h = h
  completed_brings J (At Returns S v) after h = h
  completed_brings J (At Panics S v) after h = h
  completed_brings J (Over halt v) after h = h

  pub operand_brings : (J : V → Type 0) (around : LoopsAndGuards) (m : Meaning V) →
      Brings J (m.evaluate around false (Into m.head.id)) → Brings J (forms.operand items q around m)
  operand_brings J around m b S v i = completed_brings J
      (m.evaluate around false (Into m.head.id)
      (changed_if m.shape.in_destination (innermost (with_pending (entry_of m.head))) S) v)
      (innermost (becomes_entry (entry_of m.head)))
      (b (changed_if m.shape.in_destination (innermost (with_pending (entry_of m.head))) S) v i)

  operands_kept : (around : LoopsAndGuards) (ms : List (Meaning V)) → AllEvaluated around ms →
      Keeps (forms.operands items q around ms)
  operands_kept around [] k S v i = i
  operands_kept around (m ∷ ms) k S v i = both_kept (forms.operand items q around m) (forms.operands items q around ms)
      (operand_kept around m k.0) (operands_kept around ms k.1) S v i

  pub acting_kept : (h : NodeHead) (around : LoopsAndGuards) (own : Bool) (ms : List (Meaning V)) (act : Does V) →
      AllEvaluated around ms → Keeps act → Keeps (forms.acting items q h around own ms act)
  acting_kept h around own ms act k a = scope_kept h.id own
      (λ S v. on_value (forms.operands items q around ms S v) taken)
      (both_kept (forms.operands items q around ms) taken (operands_kept around ms k)
      (λ S v i. a (innermost (without_operands (keys_of ms)) S) v i))
    where
      taken : Does V
      taken S v = on_value (forms.take items q (keys_of ms) S v) act

  pub dropping_kept : (h : NodeHead) (around : LoopsAndGuards) (own : Bool) (m : Meaning V) (act : Does V) →
      Evaluated around m → Keeps act → Keeps (forms.dropping items q h around own m act)
  dropping_kept h around own m act k a = scope_kept h.id own
      (λ S v. on_value (forms.operand items q around m S v) act)
      (both_kept (forms.operand items q around m) act (operand_kept around m k) a)

  pub temporary_kept : (h : NodeHead) (s : Shape) (evaluate : LoopsAndGuards → Bool → Destination → Does V)
      (around : LoopsAndGuards) → Keeps (evaluate around false (Into h.id)) →
      Keeps (forms.temporary items q h s evaluate around)
  temporary_kept h s evaluate around k = completed_kept
      (changed_if s.in_destination (nearest_temporary (with_pending (entry_of h)))) (evaluate around false (Into h.id))
      (nearest_temporary (becomes_entry (entry_of h))) k

  completed_none : (r : Run V) (after : Scopes → Scopes) → NoValue r → NoValue (on_value r (source.changing after))
  completed_none (At Value S v) after n = absurd n
  completed_none (At (Breaks loop) S v) after n = tt
  completed_none (At (Continues loop) S v) after n = tt
  completed_none (At Returns S v) after n = tt
  completed_none (At Panics S v) after n = tt
  completed_none (Over halt v) after n = tt

  -- one without a value
  pub temporary_none : (h : NodeHead) (s : Shape) (evaluate : LoopsAndGuards → Bool → Destination → Does V)
      (around : LoopsAndGuards) → ((S : Scopes) (v : V) → NoValue (evaluate around false (Into h.id) S v)) →
      (S : Scopes) (v : V) → NoValue (forms.temporary items q h s evaluate around S v)
  temporary_none h s evaluate around n S v = completed_none
      (evaluate around false (Into h.id) (changed_if s.in_destination (nearest_temporary (with_pending (entry_of h))) S) v)
      (nearest_temporary (becomes_entry (entry_of h)))
      (n (changed_if s.in_destination (nearest_temporary (with_pending (entry_of h))) S) v)

  -- ---- conditions

  pub chosen_kept : (S : Scopes) (o : Choice V) (f g : Does V) → Answered over I o → Keeps f → Keeps g →
      Kept (chosen o (f S) (g S))
  chosen_kept S (Yes w) f g h a b = a S w h
  chosen_kept S (No w) f g h a b = b S w h
  chosen_kept S (Neither halt w) f g h a b = h

  pub condition_kept : (around : LoopsAndGuards) (m : Meaning V) (f g : Does V) →
      Keeps (m.evaluate around true (Into m.head.id)) → Keeps f → Keeps g →
      Keeps (forms.condition items q around m f g)
  condition_kept around m f g k a b = both_kept (forms.alone items q around m (Into m.head.id))
      (choosing (q.choose (effects.IsTrue (moved m.head.id m.head.id))) f g)
      (alone_kept around m (Into m.head.id) k)
      (λ S v i. chosen_kept S (q.choose (effects.IsTrue (moved m.head.id m.head.id)) v) f g
      (safe.asks (moved m.head.id m.head.id) v i) a b)

  -- ---- blocks and statements

  pub block_kept : (h : NodeHead) (ms : List (Meaning V)) (tail : Option (Meaning V)) (around : LoopsAndGuards)
      (own : Bool) (to : Destination) (J : V → Type 0) → Brings J (forms.statements items q around ms) →
      KeepsIf J (forms.tail_of items q h tail around to) → Keeps (forms.block items q h ms tail around own to)
  block_kept h ms tail around own to J k t = scope_kept h.id own
      (λ S v. on_value (forms.statements items q around ms S v) (forms.tail_of items q h tail around to))
      (bringing J (forms.statements items q around ms) (forms.tail_of items q h tail around to) k t)

  pub evaluating_kept : (h : NodeHead) (m : Meaning V) (around : LoopsAndGuards) → Evaluated around m →
      Keeps (forms.evaluating items q h m around)
  evaluating_kept h m around k = scope_kept h.id true
      (λ S v. on_value (m.evaluate around false (Into m.head.id) (innermost (with_pending (entry_of m.head)) S) v)
      (source.changing (innermost (becomes_entry (entry_of m.head)))))
      (completed_kept (innermost (with_pending (entry_of m.head))) (m.evaluate around false (Into m.head.id))
      (innermost (becomes_entry (entry_of m.head))) k)

  pub let_name_kept : (h x : NodeHead) (m : Meaning V) (around : LoopsAndGuards) →
      Keeps (m.evaluate around false (Into x.id)) → Keeps (forms.let_name items q h x m around)
  let_name_kept h x m around k = scope_kept h.id true
      (λ S v. on_value (m.evaluate around false (Into x.id) (innermost (with_pending (entry_of x)) S) v) named)
      (λ S v i. then_kept (m.evaluate around false (Into x.id) (innermost (with_pending (entry_of x)) S) v) named
      (k (innermost (with_pending (entry_of x)) S) v i) (λ T w j. j))
    where
      named : Does V
      named T w = At Value (around_innermost (with_entry (entry_of x)) (innermost (without_pending (entry_of x)) T)) w

  emptied_kept : (b : Bool) (e : Entry) → Keeps (forms.emptied items q b e.key)
  emptied_kept true e S v i = i
  emptied_kept false e S v i = in_scopes_kept S (q.drop Normal (site_of_key e.key) v) (safe.drops Normal e v i)

  pub declared_kept : (bounds : List BoundName) → Keeps (forms.declared items q bounds)
  declared_kept [] S v i = i
  declared_kept (b ∷ bounds) S v i = both_kept (forms.emptied items q (needs_drop items b.ty) b.key) entered
      (emptied_kept (needs_drop items b.ty) (bound_entry b))
      (λ T w j. declared_kept bounds (innermost (with_entry (bound_entry b)) T) w j) S v i
    where
      entered : Does V
      entered S v = forms.declared items q bounds (innermost (with_entry (bound_entry b)) S) v

  -- ---- loops and jumps

  turned_kept : (id : ℕ) (begun : Scopes) (r : Run V) (next : Does V) → Kept r → Keeps next →
      Kept (forms.turned items q id begun r next)
  turned_kept id begun (At Value S v) next h k = k S v h
  turned_kept id begun (At (Breaks loop) S v) next h k = by (id == loop)
    where
      by : (b : Bool) → Kept (if b then At Value begun v else At (Breaks loop) S v)
      by true = h
      by false = h
  turned_kept id begun (At (Continues loop) S v) next h k = by (id == loop)
    where
      by : (b : Bool) → Kept ((if b then next begun else At (Continues loop) S) v)
      by true = k begun v h
      by false = h
  turned_kept id begun (At Returns S v) next h k = h
  turned_kept id begun (At Panics S v) next h k = h
  turned_kept id begun (Over halt v) next h k = h

  pub turns_kept : (n id : ℕ) (turn : Does V) → Keeps turn → Keeps (forms.turns items q n id turn)
  turns_kept zero id turn k S v i = safe.lapses v
  turns_kept (suc n) id turn k S v i = by (q.tick v) (safe.ticks v i)
      (λ w j. turned_kept id S (turn S w) (forms.turns items q n id turn) (k S w j) (turns_kept n id turn k))
    where
      by : (o : Out V) → ShownOut over I I o →
          ((w : V) → I w → Kept (forms.turned items q id S (turn S w) (forms.turns items q n id turn))) →
          Kept (forms.ticked items q o (λ w. forms.turned items q id S (turn S w) (forms.turns items q n id turn)))
      by (Go w) h later = later w h
      by (Unwind w) h later = safe.stuck w
      by (Halts halt w) h later = h

  pub ends_kept : (h : NodeHead) (to : Destination) → Keeps (forms.ends_loop items q h to)
  ends_kept h to = both_kept (forms.put_unit items q h to) (At (Breaks h.id)) (unit_kept h to) (λ S v i. i)

  pub jumping_kept : (exit : Exit) (h : NodeHead) (m : Option (Meaning V)) (around : LoopsAndGuards)
      (to : Destination) → Keeps (forms.value_of_jump items q h m around to) →
      Keeps (forms.jumping items q exit h m around to)
  jumping_kept exit h m around to k =
      both_kept (forms.value_of_jump items q h m around to) (At exit) k (λ S v i. i)

  -- what is known where there is a value, beside what is kept
  pub brings_so : (J : V → Type 0) (r : Run V) → Kept r → Ends J r → Shown over (After J) r
  brings_so J (At Value S v) k j = (k, j)
  brings_so J (At (Breaks loop) S v) k j = k
  brings_so J (At (Continues loop) S v) k j = k
  brings_so J (At Returns S v) k j = k
  brings_so J (At Panics S v) k j = k
  brings_so J (Over halt v) k j = k

  -- ---- what has no value

  pub on_none : (r : Run V) (next : Does V) → NoValue r → NoValue (on_value r next)
  on_none (At Value S v) next n = absurd n
  on_none (At (Breaks loop) S v) next n = tt
  on_none (At (Continues loop) S v) next n = tt
  on_none (At Returns S v) next n = tt
  on_none (At Panics S v) next n = tt
  on_none (Over halt v) next n = tt

  unwinding_none : (es : List Entry) (S : Scopes) (v : V) → NoValue (drop_unwinding items q es S v)
  unwinding_none [] S v = tt
  unwinding_none (e ∷ es) S v = by (q.drop Unwinding (entry_site e) v) (λ w. unwinding_none es S w)
    where
      by : (o : Out V) → ((w : V) → NoValue (drop_unwinding items q es S w)) →
          NoValue (source.dropped_unwinding items q o (drop_unwinding items q es S))
      by (Go w) later = later w
      by (Unwind w) later = tt
      by (Halts halt w) later = tt

  abbrev NotValue : Exit → Type 0
  NotValue exit = (S : Scopes) (v : V) → NoValue (At exit S v)

  normally_none : (exit : Exit) (es : List Entry) → NotValue exit → (S : Scopes) (v : V) →
      NoValue (drop_normally items q exit es S v)
  normally_none exit [] n S v = n S v
  normally_none exit (e ∷ es) n S v = by (q.drop Normal (entry_site e) v) (λ w. normally_none exit es n S w)
    where
      by : (o : Out V) → ((w : V) → NoValue (drop_normally items q exit es S w)) →
          NoValue (source.dropped_normally items q o (drop_normally items q exit es S) (drop_unwinding items q es S))
      by (Go w) later = later w
      by (Unwind w) later = unwinding_none es S w
      by (Halts halt w) later = tt

  pub left_none : (r : Run V) → NoValue r → NoValue (leave items q r)
  left_none (At exit [] v) n = n
  left_none (At Value (s ∷ S) v) n = absurd n
  left_none (At (Breaks loop) (s ∷ S) v) n =
      normally_none (Breaks loop) (needing_drop items s.entries) (λ S v. tt) S v
  left_none (At (Continues loop) (s ∷ S) v) n =
      normally_none (Continues loop) (needing_drop items s.entries) (λ S v. tt) S v
  left_none (At Returns (s ∷ S) v) n = normally_none Returns (needing_drop items s.entries) (λ S v. tt) S v
  left_none (At Panics (s ∷ S) v) n = unwinding_none (needing_drop items (s.pending ++ s.entries)) S v
  left_none (Over halt v) n = tt

  pub scope_none : (id : ℕ) (own : Bool) (does : Does V) → ((S : Scopes) (v : V) → NoValue (does S v)) →
      (S : Scopes) (v : V) → NoValue (in_scope items q id own does S v)
  scope_none id own does n S v = left_none (does (with_scope id own S) v) (n (with_scope id own S) v)

  pub evaluating_none : (h : NodeHead) (m : Meaning V) (around : LoopsAndGuards) →
      ((S : Scopes) (v : V) → NoValue (m.evaluate around false (Into m.head.id) S v)) → (S : Scopes) (v : V) →
      NoValue (forms.evaluating items q h m around S v)
  evaluating_none h m around n = scope_none h.id true
      (λ S v. on_value (m.evaluate around false (Into m.head.id) (innermost (with_pending (entry_of m.head)) S) v)
      (source.changing (innermost (becomes_entry (entry_of m.head)))))
      (λ S v. on_none (m.evaluate around false (Into m.head.id) (innermost (with_pending (entry_of m.head)) S) v)
      (source.changing (innermost (becomes_entry (entry_of m.head))))
      (n (innermost (with_pending (entry_of m.head)) S) v))

  pub let_name_none : (h x : NodeHead) (m : Meaning V) (around : LoopsAndGuards) →
      ((S : Scopes) (v : V) → NoValue (m.evaluate around false (Into x.id) S v)) → (S : Scopes) (v : V) →
      NoValue (forms.let_name items q h x m around S v)
  let_name_none h x m around n = scope_none h.id true
      (λ S v. on_value (m.evaluate around false (Into x.id) (innermost (with_pending (entry_of x)) S) v) named)
      (λ S v. on_none (m.evaluate around false (Into x.id) (innermost (with_pending (entry_of x)) S) v) named
      (n (innermost (with_pending (entry_of x)) S) v))
    where
      named : Does V
      named T w = At Value (around_innermost (with_entry (entry_of x)) (innermost (without_pending (entry_of x)) T)) w

  pub let_parts_none : (h : NodeHead) (pattern m : Meaning V) (around : LoopsAndGuards) →
      ((S : Scopes) (v : V) → NoValue (m.reach around S v)) → (S : Scopes) (v : V) →
      NoValue (forms.let_parts items q h pattern m around S v)
  let_parts_none h pattern m around n = scope_none h.id true
      (λ S v. on_value (m.reach around (begun S) v) bound)
      (λ S v. on_none (m.reach around (begun S) v) bound (n (begun S) v))
    where
      begun : Scopes → Scopes
      begun = changed_if (not (m.shape.is_place || m.shape.in_destination)) (innermost (with_pending (entry_of m.head)))

      bound : Does V
      bound = forms.bind items q around_innermost (pattern.shape.bindings (forms.place_of m around))
