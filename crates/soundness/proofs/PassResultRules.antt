-- Whole results: rules of evaluation that say at which exits the cell of a key holds something whole. It does where a value
-- has been made in it, or a jump or a return has carried one there, as long as no entry of a scope is this cell.
use Rattle.std.proofs.Common.{◌≡◌, ℕ, zero, suc, ◌==◌, ◌||◌, not, Bool, true, false, List, [], ◌∷◌, ◌++◌, Option, Some, None, if◌then◌else◌, refl, ap, sym, ◌∙◌}
use Rattle.std.proofs.lemmas.Bool.{false≢true}
use Rattle.std.proofs.lemmas.Bool.Decides.{Decides-eqb}
use Rattle.mir_ty.specs.Facts.{needs_drop}
use Rattle.mir_ty.specs.ItemTable.{ItemTable}
use Rattle.store_model.specs.Effects as effects
use Rattle.store_model.specs.Effects.{EffectSite, Action, Mode, Normal, Unwinding, Halt, Out, Go, Unwind, Halts, Choice, Yes, No, Neither, Effects, stored_by}
use Rattle.store_model.specs.Places.Place.{Place}
use Rattle.src_meaning.specs.Forms as forms
use Rattle.src_meaning.specs.Forms.{Destination, Into, Coerced, coerced, LoopsAndGuards, Meaning, entry_of, bound_entry, site_in, moved, keys_of, changed_if, in_loop, loop_destination, place_of, site_of}
use Rattle.src_meaning.specs.Scopes as source
use Rattle.src_meaning.specs.Scopes.{Entry, Scope, Scopes, with_scope, innermost, around_innermost, nearest_temporary, nearest_from, with_entry, with_pending, without_pending, becomes_entry, without_operands, needing_drop, Exit, Value, Breaks, Continues, Returns, Panics, Run, At, Over, Does, ◌>>◌, on_value, in_scopes, back_in, leave, leaving, drop_normally, drop_unwinding, entry_site, choosing, chosen, in_scope, then_or_leave}
use Rattle.src_meaning.specs.Shape.{NodeHead, Shape, BoundName}
use Rattle.soundness_values.proofs.Leaving.{ShownOut, AllOf}
use Rattle.soundness.proofs.PassPlacesRules.{NoValue}
use Rattle.soundness_cells.proofs.PassRules.{all_without_keys}
use Rattle.soundness_cells.proofs.PassScopes.{key_of}

abbrev any_way : {V : Type 0} → Halt → V → Type 0
any_way halt v = Unit {0}

-- what is known of effects: a store into the cell makes it whole, and the drop of another entry leaves it so
pub record KeepsWhole {V : Type 0} (q : Effects V) (z : ℕ) (W : V → Type 0) : Type 0 where
  pub stores : (action : Action) (at_node : ℕ) (v : V) → stored_by action ≡ Some (site_in at_node z) →
      ShownOut any_way W (λ w. Unit {0}) (q.act action v)
  pub drops : (mode : Mode) (e : Entry) (v : V) → (e.key ≡ z → ⊥) →
      ShownOut any_way (λ w. W v → W w) (λ w. W v → W w) (q.drop mode (entry_site e) v)

module _ {V : Type 0} (items : ItemTable) (q : Effects V) (z : ℕ) (W : V → Type 0) (keeps : KeepsWhole q z W) where
  abbrev OffEntry : Entry → Type 0
  OffEntry e = e.key ≡ z → ⊥

  -- no entry of these scopes is the cell
  abbrev pub Off : Scopes → Type 0
  Off [] = Unit {0}
  Off (s ∷ S) = AllOf OffEntry s.entries × Off S

  -- where a claim holds, the cell is whole
  abbrev pub ExitSo : LoopsAndGuards → Type 0 → Exit → Scopes → V → Type 0
  ExitSo around A Value S v = Off S × (A → W v)
  ExitSo around A (Breaks loop) S v = Off S × (key_of (loop_destination loop around.loops) ≡ z → W v)
  ExitSo around A (Continues loop) S v = Off S
  ExitSo around A Returns S v = Off S × (key_of around.answer ≡ z → W v)
  ExitSo around A Panics S v = Unit {0}

  abbrev pub EndsSo : LoopsAndGuards → Type 0 → Run V → Type 0
  EndsSo around A (At exit S v) = ExitSo around A exit S v
  EndsSo around A (Over halt v) = Unit {0}

  abbrev pub Makes : LoopsAndGuards → Type 0 → Does V → Type 0
  Makes around A does = (S : Scopes) (v : V) → Off S → EndsSo around A (does S v)

  -- ---- one after another

  pub then_so : (around : LoopsAndGuards) (A B : Type 0) (r : Run V) (next : Does V) → EndsSo around A r →
      ((S : Scopes) (v : V) → Off S → (A → W v) → EndsSo around B (next S v)) → EndsSo around B (on_value r next)
  then_so around A B (At Value S v) next h f = f S v h.0 h.1
  then_so around A B (At (Breaks loop) S v) next h f = h
  then_so around A B (At (Continues loop) S v) next h f = h
  then_so around A B (At Returns S v) next h f = h
  then_so around A B (At Panics S v) next h f = tt
  then_so around A B (Over halt v) next h f = tt

  pub both_so : (around : LoopsAndGuards) (B : Type 0) (one other : Does V) → Makes around ⊥ one → Makes around B other →
      Makes around B (one >> other)
  both_so around B one other h k S v o = then_so around ⊥ B (one S v) other (h S v o) (λ T w f a. k T w f)

  pub as_so : (around : LoopsAndGuards) (A B : Type 0) (r : Run V) → (B → A) → EndsSo around A r → EndsSo around B r
  as_so around A B (At Value S v) f h = (h.0, λ b. h.1 (f b))
  as_so around A B (At (Breaks loop) S v) f h = h
  as_so around A B (At (Continues loop) S v) f h = h
  as_so around A B (At Returns S v) f h = h
  as_so around A B (At Panics S v) f h = tt
  as_so around A B (Over halt v) f h = tt

  pub less : (around : LoopsAndGuards) (A : Type 0) (does : Does V) → Makes around A does → Makes around ⊥ does
  less around A does k S v o = as_so around A ⊥ (does S v) (λ b. absurd b) (k S v o)

  -- of what has no value anything is claimed there
  pub none_so : (around : LoopsAndGuards) (A B : Type 0) (r : Run V) → NoValue r → EndsSo around A r → EndsSo around B r
  none_so around A B (At Value S v) n h = absurd n
  none_so around A B (At (Breaks loop) S v) n h = h
  none_so around A B (At (Continues loop) S v) n h = h
  none_so around A B (At Returns S v) n h = h
  none_so around A B (At Panics S v) n h = tt
  none_so around A B (Over halt v) n h = tt

  pub acted_so : (around : LoopsAndGuards) (S : Scopes) (o : Out V) → Off S → EndsSo around ⊥ (in_scopes S o)
  acted_so around S (Go w) f = (f, λ b. absurd b)
  acted_so around S (Unwind w) f = tt
  acted_so around S (Halts halt w) f = tt

  pub acts_so : (around : LoopsAndGuards) (action : Action) → Makes around ⊥ (forms.acts items q action)
  acts_so around action S v f = acted_so around S (q.act action v) f

  stored_so : (around : LoopsAndGuards) (A : Type 0) (S : Scopes) (o : Out V) → Off S →
      (A → ShownOut any_way W (λ w. Unit {0}) o) → EndsSo around A (in_scopes S o)
  stored_so around A S (Go w) f h = (f, h)
  stored_so around A S (Unwind w) f h = tt
  stored_so around A S (Halts halt w) f h = tt

  pub back_so : (around : LoopsAndGuards) (A : Type 0) (S : Scopes) (r : Run V) → Off S → EndsSo around A r →
      EndsSo around A (back_in S r)
  back_so around A S (At Value T v) f h = (f, h.1)
  back_so around A S (At (Breaks loop) T v) f h = h
  back_so around A S (At (Continues loop) T v) f h = h
  back_so around A S (At Returns T v) f h = h
  back_so around A S (At Panics T v) f h = tt
  back_so around A S (Over halt v) f h = tt

  -- ---- scopes

  unwinding_so : (around : LoopsAndGuards) (A : Type 0) (es : List Entry) (S : Scopes) (v : V) →
      EndsSo around A (drop_unwinding items q es S v)
  unwinding_so around A [] S v = tt
  unwinding_so around A (e ∷ es) S v = by (q.drop Unwinding (entry_site e) v) (λ w. unwinding_so around A es S w)
    where
      by : (o : Out V) → ((w : V) → EndsSo around A (drop_unwinding items q es S w)) →
          EndsSo around A (source.dropped_unwinding items q o (drop_unwinding items q es S))
      by (Go w) later = later w
      by (Unwind w) later = tt
      by (Halts halt w) later = tt

  normally_so : (around : LoopsAndGuards) (A B : Type 0) (exit : Exit) (es : List Entry) → AllOf OffEntry es → (S : Scopes)
      (v : V) → (B → W v) → ((w : V) → (B → W w) → ExitSo around A exit S w) →
      EndsSo around A (drop_normally items q exit es S v)
  normally_so around A B exit [] f S v h at_ = at_ v h
  normally_so around A B exit (e ∷ es) f S v h at_ = by (q.drop Normal (entry_site e) v) (keeps.drops Normal e v f.0)
      (λ w k. normally_so around A B exit es f.1 S w k at_)
    where
      by : (o : Out V) → ShownOut any_way (λ w. W v → W w) (λ w. W v → W w) o →
          ((w : V) → (B → W w) → EndsSo around A (drop_normally items q exit es S w)) →
          EndsSo around A (source.dropped_normally items q o (drop_normally items q exit es S) (drop_unwinding items q es S))
      by (Go w) k later = later w (λ b. k (h b))
      by (Unwind w) k later = unwinding_so around A es S w
      by (Halts halt w) k later = tt

  needing : (es : List Entry) → AllOf OffEntry es → AllOf OffEntry (needing_drop items es)
  needing [] f = tt
  needing (e ∷ es) f = by (needs_drop items e.ty) (needing es f.1)
    where
      by : (b : Bool) → AllOf OffEntry (needing_drop items es) →
          AllOf OffEntry (if b then e ∷ needing_drop items es else needing_drop items es)
      by true later = (f.0, later)
      by false later = later

  pub leave_so : (around : LoopsAndGuards) (A : Type 0) (r : Run V) → EndsSo around A r → EndsSo around A (leave items q r)
  leave_so around A (At exit [] v) h = h
  leave_so around A (At Value (s ∷ S) v) h = normally_so around A A Value (needing_drop items s.entries)
      (needing s.entries h.0.0) S v h.1 (λ w k. (h.0.1, k))
  leave_so around A (At (Breaks loop) (s ∷ S) v) h =
      normally_so around A (key_of (loop_destination loop around.loops) ≡ z) (Breaks loop) (needing_drop items s.entries)
      (needing s.entries h.0.0) S v h.1 (λ w k. (h.0.1, k))
  leave_so around A (At (Continues loop) (s ∷ S) v) h = normally_so around A ⊥ (Continues loop)
      (needing_drop items s.entries) (needing s.entries h.0) S v (λ b. absurd b) (λ w k. h.1)
  leave_so around A (At Returns (s ∷ S) v) h = normally_so around A (key_of around.answer ≡ z) Returns
      (needing_drop items s.entries) (needing s.entries h.0.0) S v h.1 (λ w k. (h.0.1, k))
  leave_so around A (At Panics (s ∷ S) v) h =
      unwinding_so around A (needing_drop items (s.pending ++ s.entries)) S v
  leave_so around A (Over halt v) h = tt

  pub scope_so : (around : LoopsAndGuards) (A : Type 0) (id : ℕ) (own : Bool) (does : Does V) → Makes around A does →
      Makes around A (in_scope items q id own does)
  scope_so around A id own does h S v f =
      leave_so around A (does (with_scope id own S) v) (h (with_scope id own S) v (tt, f))

  pub own_so : (around : LoopsAndGuards) (A : Type 0) (h : NodeHead) (own : Bool) (does : Does V) → Makes around A does →
      Makes around A (forms.in_own_scope items q h own does)
  own_so around A h true does k = scope_so around A h.id true does k
  own_so around A h false does k = k

  pub alone_so : (around : LoopsAndGuards) (A : Type 0) (m : Meaning V) (to : Destination) →
      Makes around A (m.evaluate around true to) → Makes around A (forms.alone items q around m to)
  alone_so around A m to k S v f = back_so around A S (m.evaluate around true to S v) f (k S v f)

  -- ---- changes of scopes

  abbrev KeepsScope : (Scope → Scope) → Type 0
  KeepsScope change = (s : Scope) → AllOf OffEntry s.entries → AllOf OffEntry (change s).entries

  abbrev pub KeepsIn : ((Scope → Scope) → Scopes → Scopes) → Type 0
  KeepsIn in_that = (change : Scope → Scope) → KeepsScope change → (S : Scopes) → Off S → Off (in_that change S)

  pub off_innermost : KeepsIn innermost
  off_innermost change c [] f = tt
  off_innermost change c (s ∷ S) f = (c s f.0, f.1)

  pub off_around : KeepsIn around_innermost
  off_around change c [] f = tt
  off_around change c (s ∷ S) f = (f.0, off_innermost change c S f.1)

  pub off_nearest : KeepsIn nearest_temporary
  off_nearest change c [] f = tt
  off_nearest change c (s ∷ S) f = by s.for_temporaries (off_nearest change c S f.1)
    where
      by : (b : Bool) → Off (nearest_temporary change S) → Off (nearest_from b change s S (nearest_temporary change S))
      by true later = (c s f.0, f.1)
      by false later = (f.0, later)

  pended : (e : Entry) → KeepsScope (with_pending e)
  pended e s f = f

  pub entered : (e : Entry) → OffEntry e → KeepsScope (with_entry e)
  entered e d s f = (d, f)

  completed : (e : Entry) → OffEntry e → KeepsScope (becomes_entry e)
  completed e d s f = (d, f)

  unpended : (e : Entry) → KeepsScope (without_pending e)
  unpended e s f = f

  untaken : (keys : List ℕ) → KeepsScope (without_operands keys)
  untaken keys s f = all_without_keys OffEntry keys s.entries f

  off_if : (b : Bool) (change : Scopes → Scopes) (S : Scopes) → Off S → (Off S → Off (change S)) → Off (changed_if b change S)
  off_if true change S f g = g f
  off_if false change S f g = f

  -- ---- values and operands

  -- an action whose answer goes where it is told
  abbrev pub Tells : NodeHead → (EffectSite → Action) → Type 0
  Tells h action = (key : ℕ) → (at_node : ℕ) × (stored_by (action (site_in h.id key)) ≡ Some (site_in at_node key))

  told_so : (around : LoopsAndGuards) (h : NodeHead) (action : EffectSite → Action) (key : ℕ) → Tells h action →
      Makes around (key ≡ z) (forms.acts items q (action (site_in h.id key)))
  told_so around h action key t S v f = stored_so around (key ≡ z) S (q.act (action (site_in h.id key)) v) f
      (λ e. keeps.stores (action (site_in h.id key)) (t key).0 v ((t key).1 ∙ ap (λ k. Some (site_in (t key).0 k)) e))

  pub deliver_so : (around : LoopsAndGuards) (h : NodeHead) (action : EffectSite → Action) (to : Destination) →
      Tells h action → Makes around (key_of to ≡ z) (forms.deliver items q h action to)
  deliver_so around h action (Into key) t = told_so around h action key t
  deliver_so around h action (Coerced key trait_no to) t = both_so around (to ≡ z)
      (forms.acts items q (action (site_in h.id key)))
      (forms.acts items q (effects.Unsize (site_in h.id to) trait_no (moved h.id key)))
      (acts_so around (action (site_in h.id key)))
      (told_so around h (λ site. effects.Unsize site trait_no (moved h.id key)) to (λ k. (h.id, refl)))

  pub unit_so : (around : LoopsAndGuards) (h : NodeHead) (to : Destination) →
      Makes around (key_of to ≡ z) (forms.put_unit items q h to)
  unit_so around h to = deliver_so around h (λ site. effects.Put site effects.UnitValue) to (λ k. (h.id, refl))

  completed_so : (around : LoopsAndGuards) (evaluate : Does V) (begun after : Scopes → Scopes) →
      ((S : Scopes) → Off S → Off (begun S)) → ((S : Scopes) → Off S → Off (after S)) → Makes around ⊥ evaluate →
      Makes around ⊥ (λ S v. on_value (evaluate (begun S) v) (source.changing after))
  completed_so around evaluate begun after f g k S v o =
      then_so around ⊥ ⊥ (evaluate (begun S) v) (source.changing after) (k (begun S) v (f S o))
      (λ T w x a. (g T x, λ b. absurd b))

  abbrev pub Operand_ : LoopsAndGuards → Meaning V → Type 0
  Operand_ around m = Makes around ⊥ (m.evaluate around false (Into m.head.id)) × (m.head.id ≡ z → ⊥)

  abbrev pub AllMake : LoopsAndGuards → List (Meaning V) → Type 0
  AllMake around [] = Unit {0}
  AllMake around (m ∷ ms) = Operand_ around m × AllMake around ms

  pub operand_so : (around : LoopsAndGuards) (m : Meaning V) → Operand_ around m →
      Makes around ⊥ (forms.operand items q around m)
  operand_so around m k = completed_so around (m.evaluate around false (Into m.head.id))
      (changed_if m.shape.in_destination (innermost (with_pending (entry_of m.head))))
      (innermost (becomes_entry (entry_of m.head)))
      (λ S f. off_if m.shape.in_destination (innermost (with_pending (entry_of m.head))) S f
      (off_innermost (with_pending (entry_of m.head)) (pended (entry_of m.head)) S))
      (off_innermost (becomes_entry (entry_of m.head)) (completed (entry_of m.head) k.1)) k.0

  operands_so : (around : LoopsAndGuards) (ms : List (Meaning V)) → AllMake around ms →
      Makes around ⊥ (forms.operands items q around ms)
  operands_so around [] k S v f = (f, λ b. absurd b)
  operands_so around (m ∷ ms) k S v f = both_so around ⊥ (forms.operand items q around m)
      (forms.operands items q around ms) (operand_so around m k.0) (operands_so around ms k.1) S v f

  pub acting_so : (around : LoopsAndGuards) (A : Type 0) (h : NodeHead) (own : Bool) (ms : List (Meaning V)) (act : Does V) →
      AllMake around ms → Makes around A act → Makes around A (forms.acting items q h around own ms act)
  acting_so around A h own ms act k e = scope_so around A h.id own (forms.operands items q around ms >> taken)
      (both_so around A (forms.operands items q around ms) taken (operands_so around ms k)
      (λ S v f. e (innermost (without_operands (keys_of ms)) S) v
      (off_innermost (without_operands (keys_of ms)) (untaken (keys_of ms)) S f)))
    where
      taken : Does V
      taken S v = on_value (forms.take items q (keys_of ms) S v) act

  pub dropping_so : (around : LoopsAndGuards) (A : Type 0) (h : NodeHead) (own : Bool) (m : Meaning V) (act : Does V) →
      Operand_ around m → Makes around A act → Makes around A (forms.dropping items q h around own m act)
  dropping_so around A h own m act k e = scope_so around A h.id own (forms.operand items q around m >> act)
      (both_so around A (forms.operand items q around m) act (operand_so around m k) e)

  pub temporary_so : (around : LoopsAndGuards) (h : NodeHead) (s : Shape)
      (evaluate : LoopsAndGuards → Bool → Destination → Does V) → (h.id ≡ z → ⊥) →
      Makes around ⊥ (evaluate around false (Into h.id)) → Makes around ⊥ (forms.temporary items q h s evaluate around)
  temporary_so around h s evaluate d k = completed_so around (evaluate around false (Into h.id))
      (changed_if s.in_destination (nearest_temporary (with_pending (entry_of h))))
      (nearest_temporary (becomes_entry (entry_of h)))
      (λ S f. off_if s.in_destination (nearest_temporary (with_pending (entry_of h))) S f
      (off_nearest (with_pending (entry_of h)) (pended (entry_of h)) S))
      (off_nearest (becomes_entry (entry_of h)) (completed (entry_of h) d)) k

  -- ---- places

  pub element_so : (around : LoopsAndGuards) (h : NodeHead) (s : Shape) (base index : Meaning V) (length : ℕ) →
      Makes around ⊥ (base.reach around) → Makes around ⊥ (index.evaluate around false (Into index.head.id)) →
      Makes around ⊥ (forms.reach_element items q h s base index length around)
  element_so around h s base index length b i = both_so around ⊥ _ _ b
      (both_so around ⊥ _ _ i (both_so around ⊥ _ _ (acts_so around _) (acts_so around _)))

  replaced_so : (around : LoopsAndGuards) (site : EffectSite) (key : ℕ) (S : Scopes) (o : Out V) → Off S →
      EndsSo around ⊥ (forms.stored_after items q site key S o)
  replaced_so around site key S (Go w) f = acts_so around (effects.Put site (moved site.node key))
      (innermost (without_operands (key ∷ [])) S) w
      (off_innermost (without_operands (key ∷ [])) (untaken (key ∷ [])) S f)
  replaced_so around site key S (Unwind w) f = then_so around ⊥ ⊥
      (forms.acts items q (effects.Put site (moved site.node key)) (innermost (without_operands (key ∷ [])) S) w)
      (At Panics)
      (acts_so around (effects.Put site (moved site.node key)) (innermost (without_operands (key ∷ [])) S) w
      (off_innermost (without_operands (key ∷ [])) (untaken (key ∷ [])) S f)) (λ T x g a. tt)
  replaced_so around site key S (Halts halt w) f = tt

  replacing_so : (around : LoopsAndGuards) (b : Bool) (site : EffectSite) (key : ℕ) →
      Makes around ⊥ (forms.replacing items q b site key)
  replacing_so around true site key S v f = replaced_so around site key S (q.drop Normal site v) f
  replacing_so around false site key S v f = replaced_so around site key S (Go v) f

  pub assigning_so : (around : LoopsAndGuards) (h : NodeHead) (place value : Meaning V) (own : Bool) (to : Destination) →
      Operand_ around value → Makes around ⊥ (place.reach around) →
      Makes around (key_of to ≡ z) (forms.assigning items q h place value around own to)
  assigning_so around h place value own to e p = scope_so around (key_of to ≡ z) h.id own _
      (both_so around (key_of to ≡ z) _ _ (operand_so around value e) (both_so around (key_of to ≡ z) _ _ p
      (both_so around (key_of to ≡ z) _ _
      (replacing_so around (needs_drop items place.head.ty) (site_of place around) value.head.id)
      (unit_so around h to))))

  -- ---- conditions and patterns

  pub chosen_so : (around : LoopsAndGuards) (A : Type 0) (S : Scopes) (o : Choice V) (f g : Does V) → Off S →
      Makes around A f → Makes around A g → EndsSo around A (chosen o (f S) (g S))
  chosen_so around A S (Yes w) f g o h k = h S w o
  chosen_so around A S (No w) f g o h k = k S w o
  chosen_so around A S (Neither halt w) f g o h k = tt

  pub condition_so : (around : LoopsAndGuards) (A : Type 0) (inner : LoopsAndGuards) (m : Meaning V) (f g : Does V) →
      Makes around ⊥ (m.evaluate inner true (Into m.head.id)) → Makes around A f → Makes around A g →
      Makes around A (forms.condition items q inner m f g)
  condition_so around A inner m f g k h j = both_so around A (forms.alone items q inner m (Into m.head.id))
      (choosing (q.choose (effects.IsTrue (moved m.head.id m.head.id))) f g)
      (λ S v o. back_so around ⊥ S (m.evaluate inner true (Into m.head.id) S v) o (k S v o))
      (λ S v o. chosen_so around A S (q.choose (effects.IsTrue (moved m.head.id m.head.id)) v) f g o h j)

  -- the cells of names
  abbrev pub AllOff : List BoundName → Type 0
  AllOff [] = Unit {0}
  AllOff (b ∷ bounds) = (b.key ≡ z → ⊥) × AllOff bounds

  pub bind_so : (around : LoopsAndGuards) (in_that : (Scope → Scope) → Scopes → Scopes) → KeepsIn in_that →
      (bounds : List BoundName) → AllOff bounds → Makes around ⊥ (forms.bind items q in_that bounds)
  bind_so around in_that c [] d S v f = (f, λ b. absurd b)
  bind_so around in_that c (b ∷ bounds) d S v f = both_so around ⊥ _ _ (acts_so around _)
      (λ T w g. bind_so around in_that c bounds d.1 (in_that (with_entry (bound_entry b)) T) w
      (c (with_entry (bound_entry b)) (entered (bound_entry b) d.0) T g)) S v f

  touched_so : (around : LoopsAndGuards) (b : Bool) (site : EffectSite) → Makes around ⊥ (forms.touched items q b site)
  touched_so around true site S v f = acts_so around (effects.Touch site) S v f
  touched_so around false site S v f = (f, λ b. absurd b)

  scrutinised_so : (around : LoopsAndGuards) (m : Meaning V) → Makes around ⊥ (m.reach around) →
      Makes around ⊥ (forms.scrutinised items q around m)
  scrutinised_so around m k = both_so around ⊥ _ _ k (touched_so around m.shape.is_place (site_of m around))

  then_or_leave_so : (around : LoopsAndGuards) (A : Type 0) (r : Run V) (next : Does V) → EndsSo around ⊥ r →
      Makes around A next → EndsSo around A (then_or_leave items q r next)
  then_or_leave_so around A (At Value S v) next h k = k S v h.0
  then_or_leave_so around A (At (Breaks loop) S v) next h k = leave_so around A (At (Breaks loop) S v) h
  then_or_leave_so around A (At (Continues loop) S v) next h k = leave_so around A (At (Continues loop) S v) h
  then_or_leave_so around A (At Returns S v) next h k = leave_so around A (At Returns S v) h
  then_or_leave_so around A (At Panics S v) next h k = leave_so around A (At Panics S v) tt
  then_or_leave_so around A (Over halt v) next h k = tt

  pub if_taken_so : (around : LoopsAndGuards) (A : Type 0) (h : NodeHead) (pattern scrutinee : Meaning V)
      (does otherwise : Does V) → Makes around ⊥ (scrutinee.reach around) →
      AllOff (pattern.shape.bindings (place_of scrutinee around)) → Makes around A does → Makes around A otherwise →
      Makes around A (forms.if_taken items q h around pattern scrutinee does otherwise)
  if_taken_so around A h pattern scrutinee does otherwise s b d o S v f = then_or_leave_so around A
      (forms.scrutinised items q around scrutinee (with_scope h.id true S) v)
      (choosing (forms.all_hold items q (pattern.shape.tests (place_of scrutinee around))) (leaving items q bound) left)
      (scrutinised_so around scrutinee s (with_scope h.id true S) v (tt, f))
      (λ T w g. chosen_so around A T (forms.all_hold items q (pattern.shape.tests (place_of scrutinee around)) w)
      (leaving items q bound) left g
      (λ U u x. leave_so around A (bound U u) (both_so around A
      (forms.bind items q innermost (pattern.shape.bindings (place_of scrutinee around))) does
      (bind_so around innermost off_innermost (pattern.shape.bindings (place_of scrutinee around)) b) d U u x))
      (λ U u x. then_so around ⊥ A (leave items q (At Value U u)) otherwise
      (leave_so around ⊥ (At Value U u) (x, λ y. absurd y)) (λ behind y k a. o behind y k)))
    where
      bound : Does V
      bound T w = on_value (forms.bind items q innermost (pattern.shape.bindings (place_of scrutinee around)) T w) does

      left : Does V
      left T w = on_value (leave items q (At Value T w)) otherwise

  abbrev pub AllArms : LoopsAndGuards → Type 0 → Destination → List (Meaning V) → Type 0
  AllArms around A to [] = Unit {0}
  AllArms around A to (m ∷ ms) = ((place : Place) (otherwise : Does V) → Makes around A otherwise →
      Makes around A (m.arm place otherwise around to)) × AllArms around A to ms

  arms_so : (around : LoopsAndGuards) (A : Type 0) (ms : List (Meaning V)) (place : Place) (to : Destination) →
      AllArms around A to ms → Makes around A (forms.arms_in_order items q ms place around to)
  arms_so around A [] place to k S v f = tt
  arms_so around A (m ∷ ms) place to k S v f =
      k.0 place (forms.arms_in_order items q ms place around to) (arms_so around A ms place to k.1) S v f

  pub matching_so : (around : LoopsAndGuards) (A : Type 0) (h : NodeHead) (scrutinee : Meaning V) (ms : List (Meaning V))
      (own : Bool) (to : Destination) → Makes around ⊥ (scrutinee.reach around) → AllArms around A to ms →
      Makes around A (forms.matching items q h scrutinee ms around own to)
  matching_so around A h scrutinee ms own to s k = own_so around A h own _ (both_so around A _ _
      (scrutinised_so around scrutinee s) (arms_so around A ms (place_of scrutinee around) to k))

  pub arm_so : (around : LoopsAndGuards) (A : Type 0) (h : NodeHead) (pattern : Meaning V) (guard : Option (Meaning V))
      (m : Meaning V) (place : Place) (otherwise : Does V) (to : Destination) →
      ((g : Meaning V) → guard ≡ Some g → Makes around ⊥ (g.evaluate
      (forms.in_guard (pattern.shape.bindings place) around) true (Into g.head.id))) →
      AllOff (pattern.shape.bindings place) → Makes around A (m.evaluate around true to) → Makes around A otherwise →
      Makes around A (forms.arm items q h pattern guard m place otherwise around to)
  arm_so around A h pattern guard m place otherwise to g b k o S v f = chosen_so around A S
      (forms.all_hold items q (pattern.shape.tests place) v)
      (forms.guarded items q around (pattern.shape.bindings place) guard taken otherwise) otherwise f
      (guarded guard g) o
    where
      taken : Does V
      taken = forms.taken_arm items q h around (pattern.shape.bindings place) m to

      taken_so : Makes around A taken
      taken_so = scope_so around A h.id false _ (both_so around A _ _
          (bind_so around innermost off_innermost (pattern.shape.bindings place) b) (alone_so around A m to k))

      guarded : (o_ : Option (Meaning V)) → ((x : Meaning V) → o_ ≡ Some x → Makes around ⊥ (x.evaluate
          (forms.in_guard (pattern.shape.bindings place) around) true (Into x.head.id))) →
          Makes around A (forms.guarded items q around (pattern.shape.bindings place) o_ taken otherwise)
      guarded None x = taken_so
      guarded (Some y) x = condition_so around A (forms.in_guard (pattern.shape.bindings place) around) y taken otherwise
          (x y refl) taken_so o

  -- ---- blocks and statements

  abbrev pub AllDone : LoopsAndGuards → List (Meaning V) → Type 0
  AllDone around [] = Unit {0}
  AllDone around (m ∷ ms) = Makes around ⊥ (m.evaluate around false (Into m.head.id)) × AllDone around ms

  statements_so : (around : LoopsAndGuards) (ms : List (Meaning V)) → AllDone around ms →
      Makes around ⊥ (forms.statements items q around ms)
  statements_so around [] d S v f = (f, λ b. absurd b)
  statements_so around (m ∷ ms) d S v f = both_so around ⊥ (m.evaluate around false (Into m.head.id))
      (forms.statements items q around ms) d.0 (statements_so around ms d.1) S v f

  pub block_so : (around : LoopsAndGuards) (A : Type 0) (h : NodeHead) (ms : List (Meaning V)) (tail : Option (Meaning V))
      (own : Bool) (to : Destination) → AllDone around ms → Makes around A (forms.tail_of items q h tail around to) →
      Makes around A (forms.block items q h ms tail around own to)
  block_so around A h ms tail own to k t = scope_so around A h.id own _
      (both_so around A (forms.statements items q around ms) (forms.tail_of items q h tail around to)
      (statements_so around ms k) t)

  pub evaluating_so : (around : LoopsAndGuards) (h : NodeHead) (m : Meaning V) → Operand_ around m →
      Makes around ⊥ (forms.evaluating items q h m around)
  evaluating_so around h m k = scope_so around ⊥ h.id true _
      (completed_so around (m.evaluate around false (Into m.head.id)) (innermost (with_pending (entry_of m.head)))
      (innermost (becomes_entry (entry_of m.head)))
      (off_innermost (with_pending (entry_of m.head)) (pended (entry_of m.head)))
      (off_innermost (becomes_entry (entry_of m.head)) (completed (entry_of m.head) k.1)) k.0)

  pub let_name_so : (around : LoopsAndGuards) (h x : NodeHead) (m : Meaning V) → (x.id ≡ z → ⊥) →
      Makes around ⊥ (m.evaluate around false (Into x.id)) → Makes around ⊥ (forms.let_name items q h x m around)
  let_name_so around h x m d k = scope_so around ⊥ h.id true
      (λ S v. on_value (m.evaluate around false (Into x.id) (innermost (with_pending (entry_of x)) S) v) named)
      (λ S v f. then_so around ⊥ ⊥ (m.evaluate around false (Into x.id) (innermost (with_pending (entry_of x)) S) v) named
      (k (innermost (with_pending (entry_of x)) S) v
      (off_innermost (with_pending (entry_of x)) (pended (entry_of x)) S f))
      (λ T w g a. (
        off_around (with_entry (entry_of x)) (entered (entry_of x) d) (innermost (without_pending (entry_of x)) T)
            (off_innermost (without_pending (entry_of x)) (unpended (entry_of x)) T g),
        λ b. absurd b,
      )))
    where
      named : Does V
      named T w = At Value (around_innermost (with_entry (entry_of x)) (innermost (without_pending (entry_of x)) T)) w

  pub let_parts_so : (around : LoopsAndGuards) (h : NodeHead) (pattern m : Meaning V) → Makes around ⊥ (m.reach around) →
      AllOff (pattern.shape.bindings (place_of m around)) → Makes around ⊥ (forms.let_parts items q h pattern m around)
  let_parts_so around h pattern m k b = scope_so around ⊥ h.id true
      (λ S v. on_value (m.reach around (begun S) v) bound)
      (λ S v f. then_so around ⊥ ⊥ (m.reach around (begun S) v) bound (k (begun S) v
      (off_if (not (m.shape.is_place || m.shape.in_destination)) (innermost (with_pending (entry_of m.head))) S f
      (off_innermost (with_pending (entry_of m.head)) (pended (entry_of m.head)) S)))
      (λ T w g a. bind_so around around_innermost off_around (pattern.shape.bindings (place_of m around)) b T w g))
    where
      begun : Scopes → Scopes
      begun = changed_if (not (m.shape.is_place || m.shape.in_destination)) (innermost (with_pending (entry_of m.head)))

      bound : Does V
      bound = forms.bind items q around_innermost (pattern.shape.bindings (place_of m around))

  emptied_so : (around : LoopsAndGuards) (c : Bool) (key : ℕ) → Makes around ⊥ (forms.emptied items q c key)
  emptied_so around true key S v f = (f, λ b. absurd b)
  emptied_so around false key S v f = acted_so around S (q.drop Normal (forms.site_of_key key) v) f

  pub declared_so : (around : LoopsAndGuards) (bounds : List BoundName) → AllOff bounds →
      Makes around ⊥ (forms.declared items q bounds)
  declared_so around [] d S v f = (f, λ b. absurd b)
  declared_so around (b ∷ bounds) d S v f = both_so around ⊥ _ _ (emptied_so around (needs_drop items b.ty) b.key)
      (λ T w g. declared_so around bounds d.1 (innermost (with_entry (bound_entry b)) T) w
      (off_innermost (with_entry (bound_entry b)) (entered (bound_entry b) d.0) T g)) S v f

  -- ---- loops and jumps

  -- a loop to which no jump goes is one around
  outer : (id loop : ℕ) (to : Destination) (around : LoopsAndGuards) → (id == loop) ≡ false →
      loop_destination loop (in_loop id to around).loops ≡ loop_destination loop around.loops
  outer id loop to around e =
      ap (λ b. if b then to else loop_destination loop around.loops) (turned (loop == id) refl)
    where
      turned : (b : Bool) → (loop == id) ≡ b → (loop == id) ≡ false
      turned false k = k
      turned true k = absurd (false≢true (sym e ∙ (Decides-eqb id loop).1 (sym ((Decides-eqb loop id).0 k))))

  own_loop : (id loop : ℕ) (to : Destination) (around : LoopsAndGuards) → (id == loop) ≡ true →
      loop_destination loop (in_loop id to around).loops ≡ to
  own_loop id loop to around e = ap (λ b. if b then to else loop_destination loop around.loops)
      ((Decides-eqb loop id).1 (sym ((Decides-eqb id loop).0 e)))

  turned_so : (id : ℕ) (to : Destination) (around : LoopsAndGuards) (begun : Scopes) (r : Run V) (next : Does V) →
      Off begun → EndsSo (in_loop id to around) ⊥ r → Makes around (key_of to ≡ z) next →
      EndsSo around (key_of to ≡ z) (forms.turned items q id begun r next)
  turned_so id to around begun (At Value S v) next o h k = k S v h.0
  turned_so id to around begun (At (Breaks loop) S v) next o h k = by (id == loop) refl
    where
      by : (b : Bool) → (id == loop) ≡ b →
          EndsSo around (key_of to ≡ z) (if b then At Value begun v else At (Breaks loop) S v)
      by true e = (o, λ x. h.1 (ap key_of (own_loop id loop to around e) ∙ x))
      by false e = (h.0, λ x. h.1 (ap key_of (outer id loop to around e) ∙ x))
  turned_so id to around begun (At (Continues loop) S v) next o h k = by (id == loop)
    where
      by : (b : Bool) → EndsSo around (key_of to ≡ z) ((if b then next begun else At (Continues loop) S) v)
      by true = k begun v o
      by false = h
  turned_so id to around begun (At Returns S v) next o h k = h
  turned_so id to around begun (At Panics S v) next o h k = tt
  turned_so id to around begun (Over halt v) next o h k = tt

  pub turns_so : (n id : ℕ) (to : Destination) (around : LoopsAndGuards) (turn : Does V) →
      Makes (in_loop id to around) ⊥ turn → Makes around (key_of to ≡ z) (forms.turns items q n id turn)
  turns_so zero id to around turn k S v f = tt
  turns_so (suc n) id to around turn k S v f = by (q.tick v)
      (λ w. turned_so id to around S (turn S w) (forms.turns items q n id turn) f (k S w f)
      (turns_so n id to around turn k))
    where
      by : (o : Out V) → ((w : V) → EndsSo around (key_of to ≡ z)
          (forms.turned items q id S (turn S w) (forms.turns items q n id turn))) →
          EndsSo around (key_of to ≡ z) (forms.ticked items q o
          (λ w. forms.turned items q id S (turn S w) (forms.turns items q n id turn)))
      by (Go w) later = later w
      by (Unwind w) later = tt
      by (Halts halt w) later = tt

  -- a value is carried to a loop, or to the result
  pub breaks_so : (around : LoopsAndGuards) (A : Type 0) (loop : ℕ) (does : Does V) →
      Makes around (key_of (loop_destination loop around.loops) ≡ z) does → Makes around A (does >> At (Breaks loop))
  breaks_so around A loop does k S v f = then_so around (key_of (loop_destination loop around.loops) ≡ z) A (does S v)
      (At (Breaks loop)) (k S v f) (λ T w g h. (g, h))

  pub returns_so : (around : LoopsAndGuards) (A : Type 0) (does : Does V) → Makes around (key_of around.answer ≡ z) does →
      Makes around A (does >> At Returns)
  returns_so around A does k S v f =
      then_so around (key_of around.answer ≡ z) A (does S v) (At Returns) (k S v f) (λ T w g h. (g, h))

  pub ends_so : (h : NodeHead) (to : Destination) (around : LoopsAndGuards) →
      Makes (in_loop h.id to around) ⊥ (forms.ends_loop items q h to)
  ends_so h to around = breaks_so (in_loop h.id to around) ⊥ h.id (forms.put_unit items q h to)
      (λ S v f. as_so (in_loop h.id to around) (key_of to ≡ z)
      (key_of (loop_destination h.id (in_loop h.id to around).loops) ≡ z) (forms.put_unit items q h to S v)
      (λ x. sym (ap key_of (own_loop h.id h.id to around ((Decides-eqb h.id h.id).1 refl))) ∙ x)
      (unit_so (in_loop h.id to around) h to S v f))

  pub coerced_same : (key trait_no : ℕ) (to : Destination) → key_of (coerced key trait_no to) ≡ key_of to
  coerced_same key trait_no (Into to) = refl
  coerced_same key trait_no (Coerced other another to) = refl
