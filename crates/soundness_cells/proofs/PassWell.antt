-- The rules of evaluation do nothing that is not well, given that the nodes inside do not: of each action, test and
-- drop it is known from the text alone that it is well. A node of type `!` has no value; a jump names a loop around it.
use Rattle.std.proofs.Common.{◌≡◌, ◌⊎◌, inl, inr, ℕ, not, Bool, true, false, List, [], ◌∷◌, ◌++◌, Option, Some, None, if◌then◌else◌, refl}
use Rattle.mir_base.specs.declared.operator.Cmp.{Cmp}
use Rattle.mir_ty.specs.declared.ty.TyId.{TyId}
use Rattle.mir_ty.specs.Facts.{needs_drop}
use Rattle.mir_ty.specs.ItemTable.{ItemTable}
use Rattle.store_model.specs.Effects as effects
use Rattle.store_model.specs.Effects.{EffectSite, Operand, Copied, Action, Test, Mode, Normal, Unwinding, Halt, Aborted, OutOfTicks, Out, Go, Unwind, Halts, Choice, Yes, No, Neither, Effects, stored_by}
use Rattle.src_meaning.specs.Forms as forms
use Rattle.src_meaning.specs.Forms.{Destination, Into, Coerced, LoopsAndGuards, Meaning, entry_of, site_in, site_of_key, moved, keys_of, is_never, changed_if, site_of, loop_destination}
use Rattle.src_meaning.specs.Scopes.{Entry, Scope, Scopes, with_scope, innermost, around_innermost, nearest_temporary, nearest_from, with_entry, with_pending, without_pending, becomes_entry, without_operands, needing_drop, Exit, Value, Breaks, Continues, Returns, Panics, Run, At, Over, Does, on_value, in_scopes, back_in, leave, drop_normally, drop_unwinding, entry_site}
use Rattle.src_meaning.specs.Shape.{NodeHead, Shape, Aliases, operand_at, site_at}
use Rattle.well_typed.specs.Places.{LoopAround, Context, loop_with}
use Rattle.soundness_values.proofs.Leaving.{Shown, ShownOut, shown_more, AllOf}
use Rattle.soundness_cells.proofs.PassRules.{all_without, all_without_keys}

abbrev pub MadeBy : (EffectSite → Type 0) → Option EffectSite → Type 0
MadeBy made None = Unit {0}
MadeBy made (Some site) = made site

abbrev pub Chosen : {V : Type 0} → (Halt → V → Type 0) → Choice V → Type 0
Chosen over (Yes v) = Unit {0}
Chosen over (No v) = Unit {0}
Chosen over (Neither halt v) = over halt v

-- What is asked of effects: those that are well end a run in no other way than it may end; where they go on, what was
-- stored has been made.
pub record DoesWell {V : Type 0} (q : Effects V) (over : Halt → V → Type 0) (Acts : Action → Type 0) (Tests : Test →
    Type 0)
    (Drops : Mode → EffectSite → Type 0) (Made : EffectSite → Type 0) : Type 0 where
  pub acts : (action : Action) (v : V) → Acts action →
      ShownOut over (λ w. MadeBy Made (stored_by action)) (λ w. Unit {0}) (q.act action v)
  pub compares : (to : EffectSite) (operator : Cmp) (left right : Operand) (v : V) →
      Acts (effects.Compare to operator left right) →
      ShownOut over (λ w. Unit {0}) (λ w. ⊥) (q.act (effects.Compare to operator left right) v)
  pub chooses : (test : Test) (v : V) → Tests test → Chosen over (q.choose test v)
  pub drops : (mode : Mode) (site : EffectSite) (v : V) → Drops mode site →
      ShownOut over (λ w. Unit {0}) (λ w. Unit {0}) (q.drop mode site v)
  pub ticks : (v : V) → ShownOut over (λ w. Unit {0}) (λ w. ⊥) (q.tick v)
  pub aborts : (v : V) → over Aborted v
  pub lapses : (v : V) → over OutOfTicks v

module _ {V : Type 0} (items : ItemTable) (q : Effects V) (over : Halt → V → Type 0) (Acts : Action → Type 0)
    (Tests : Test → Type 0) (Drops : Mode → EffectSite → Type 0) (Made : EffectSite → Type 0)
    (well : DoesWell q over Acts Tests Drops Made) (Cell : ℕ → TyId → Type 0) (May : TyId → TyId → ℕ → Type 0)
    (Names : Aliases → Type 0) where
  -- ---- entries that may be dropped

  abbrev pub Droppable : Entry → Type 0
  Droppable e = needs_drop items e.ty ≡ true → (mode : Mode) → Drops mode (entry_site e)

  abbrev pub Fine : Scopes → Type 0
  Fine [] = Unit {0}
  Fine (s ∷ S) = (AllOf Droppable s.entries × AllOf Droppable s.pending) × Fine S

  -- a cell for a value of a type, or one in which a box is coerced to a trait object; of type `!` none is made
  abbrev pub DestCell : TyId → Destination → Type 0
  DestCell ty (Into key) = Cell key ty
  DestCell ty (Coerced key trait_no to) = Cell key ty × ((object : TyId) × (Cell to object × May object ty trait_no))

  -- of type `!` nothing is made
  abbrev pub Dest : TyId → Destination → Type 0
  Dest ty to = (is_never items ty ≡ true) ⊎ DestCell ty to

  -- the destination that a node is given: of type `!` its own
  abbrev pub Given : NodeHead → Destination → Type 0
  Given h to = ((is_never items h.ty ≡ true) × (to ≡ Into h.id)) ⊎ DestCell h.ty to

  pub as_dest : (h : NodeHead) (to : Destination) → Given h to → Dest h.ty to
  as_dest h to (inl g) = inl g.0
  as_dest h to (inr g) = inr g

  -- for what names of guards stand, and the destinations of the result and of the loops around; nothing else of what is
  -- around a node is looked at
  abbrev pub AroundWell : Context → LoopsAndGuards → Type 0
  AroundWell c around = Names around.aliases × (Dest c.answer around.answer
      × ((loop : ℕ) (a : LoopAround) → loop_with loop c.loops ≡ Some a → Dest a.ty (loop_destination loop around.loops)))

  abbrev pub ExitOk : Context → Type 0 → Exit → Type 0
  ExitOk c valued Value = valued
  ExitOk c valued (Breaks loop) =
      (a : LoopAround) × ((loop_with loop c.loops ≡ Some a) × (is_never items a.ty ≡ false))
  ExitOk c valued (Continues loop) = (a : LoopAround) × (loop_with loop c.loops ≡ Some a)
  ExitOk c valued Returns = Unit {0}
  ExitOk c valued Panics = Unit {0}

  abbrev pub Post : Context → Type 0 → Exit → Scopes → V → Type 0
  Post c valued exit S v = ExitOk c valued exit × Fine S

  abbrev pub IsMade : TyId → Type 0
  IsMade ty = is_never items ty ≡ false

  -- what is well of a node that is evaluated into a destination, and of one that is reached as a place
  abbrev pub Well : Context → Meaning V → Type 0
  Well c m = (around : LoopsAndGuards) (own : Bool) (to : Destination) (S : Scopes) (v : V) → AroundWell c around →
      Dest m.head.ty to → Fine S → Shown over (Post c (IsMade m.head.ty)) (m.evaluate around own to S v)

  abbrev pub Reached : Meaning V → Type 0
  Reached m = m.shape.is_place ≡ false → IsMade m.head.ty

  abbrev pub Reach : Context → Meaning V → Type 0
  Reach c m = (around : LoopsAndGuards) (S : Scopes) (v : V) → AroundWell c around → Fine S →
      Shown over (Post c (Reached m)) (m.reach around S v)

  -- a node whose value is made in a cell of its own
  abbrev pub Own : Context → Meaning V → Type 0
  Own c m = Well c m × (Dest m.head.ty (Into m.head.id) × Droppable (entry_of m.head))

  abbrev pub AllOwn : Context → List (Meaning V) → Type 0
  AllOwn c [] = Unit {0}
  AllOwn c (m ∷ ms) = Own c m × AllOwn c ms

  abbrev pub AllMade : List (Meaning V) → Type 0
  AllMade [] = Unit {0}
  AllMade (m ∷ ms) = IsMade m.head.ty × AllMade ms

  -- ---- one after another

  pub then_well : (c : Context) (valued valued' : Type 0) (r : Run V) (next : Does V) → Shown over (Post c valued) r →
      ((S : Scopes) (v : V) → valued → Fine S → Shown over (Post c valued') (next S v)) →
      Shown over (Post c valued') (on_value r next)
  then_well c valued valued' (At Value S v) next k f = f S v k.0 k.1
  then_well c valued valued' (At (Breaks loop) S v) next k f = k
  then_well c valued valued' (At (Continues loop) S v) next k f = k
  then_well c valued valued' (At Returns S v) next k f = k
  then_well c valued valued' (At Panics S v) next k f = k
  then_well c valued valued' (Over halt v) next k f = k

  valued_more : (c : Context) (valued valued' : Type 0) → (valued → valued') → (exit : Exit) (S : Scopes) (v : V) →
      Post c valued exit S v → Post c valued' exit S v
  valued_more c valued valued' f Value S v k = (f k.0, k.1)
  valued_more c valued valued' f (Breaks loop) S v k = k
  valued_more c valued valued' f (Continues loop) S v k = k
  valued_more c valued valued' f Returns S v k = k
  valued_more c valued valued' f Panics S v k = k

  pub more_valued : (c : Context) (valued valued' : Type 0) → (valued → valued') → (r : Run V) →
      Shown over (Post c valued) r →
      Shown over (Post c valued') r
  more_valued c valued valued' f r h = shown_more over (valued_more c valued valued' f) r h

  pub acts_well : (c : Context) (valued : Type 0) (action : Action) (S : Scopes) (v : V) → Acts action → Fine S →
      (MadeBy Made (stored_by action) → valued) → Shown over (Post c valued) (forms.acts items q action S v)
  acts_well c valued action S v a fine f = by (q.act action v) (well.acts action v a)
    where
      by : (o : Out V) → ShownOut over (λ w. MadeBy Made (stored_by action)) (λ w. Unit {0}) o →
          Shown over (Post c valued) (in_scopes S o)
      by (Go w) h = (f h, fine)
      by (Unwind w) h = (tt, fine)
      by (Halts halt w) h = h

  -- ---- scopes

  abbrev pub FineScope : Scope → Type 0
  FineScope s = AllOf Droppable s.entries × AllOf Droppable s.pending

  abbrev pub Keeps : (Scope → Scope) → Type 0
  Keeps change = (s : Scope) → FineScope s → FineScope (change s)

  pub fine_innermost : (change : Scope → Scope) → Keeps change → (S : Scopes) → Fine S → Fine (innermost change S)
  fine_innermost change k [] f = tt
  fine_innermost change k (s ∷ S) f = (k s f.0, f.1)

  pub fine_around : (change : Scope → Scope) → Keeps change → (S : Scopes) → Fine S → Fine (around_innermost change S)
  fine_around change k [] f = tt
  fine_around change k (s ∷ S) f = (f.0, fine_innermost change k S f.1)

  pub fine_nearest : (change : Scope → Scope) → Keeps change → (S : Scopes) → Fine S → Fine (nearest_temporary change S)
  fine_nearest change k [] f = tt
  fine_nearest change k (s ∷ S) f = by s.for_temporaries (fine_nearest change k S f.1)
    where
      by : (b : Bool) → Fine (nearest_temporary change S) →
          Fine (nearest_from b change s S (nearest_temporary change S))
      by true g = (k s f.0, f.1)
      by false g = (f.0, g)

  pub pended : (e : Entry) → Droppable e → Keeps (with_pending e)
  pended e d s f = (f.0, (d, f.1))

  pub entered : (e : Entry) → Droppable e → Keeps (with_entry e)
  entered e d s f = ((d, f.0), f.1)

  pub unpended : (e : Entry) → Keeps (without_pending e)
  unpended e s f = (f.0, all_without Droppable e.key s.pending f.1)

  pub completed : (e : Entry) → Droppable e → Keeps (becomes_entry e)
  completed e d s f = ((d, f.0), all_without Droppable e.key s.pending f.1)

  pub untaken : (keys : List ℕ) → Keeps (without_operands keys)
  untaken keys s f = (all_without_keys Droppable keys s.entries f.0, f.1)

  pub fine_if : (b : Bool) (change : Scopes → Scopes) (S : Scopes) → Fine S → (Fine S → Fine (change S)) →
      Fine (changed_if b change S)
  fine_if true change S f g = g f
  fine_if false change S f g = f

  pub opened : (id : ℕ) (own : Bool) (S : Scopes) → Fine S → Fine (with_scope id own S)
  opened id own S f = ((tt, tt), f)

  -- ---- a scope is left

  all_both : (a b : List Entry) → AllOf Droppable a → AllOf Droppable b → AllOf Droppable (a ++ b)
  all_both [] b f g = g
  all_both (e ∷ a) b f g = (f.0, all_both a b f.1 g)

  unwinding_well : (c : Context) (valued : Type 0) (es : List Entry) → AllOf Droppable es → (S : Scopes) (v : V) →
      Fine S →
      Shown over (Post c valued) (drop_unwinding items q (needing_drop items es) S v)
  unwinding_well c valued [] d S v f = (tt, f)
  unwinding_well c valued (e ∷ es) d S v f = by (needs_drop items e.ty) refl
      (λ w. unwinding_well c valued es d.1 S w f)
    where
      dropped : (o : Out V) → ShownOut over (λ w. Unit {0}) (λ w. Unit {0}) o →
          ((w : V) → Shown over (Post c valued) (drop_unwinding items q (needing_drop items es) S w)) →
          Shown over (Post c valued) (Rattle.src_meaning.specs.Scopes.dropped_unwinding items q o
          (drop_unwinding items q (needing_drop items es) S))
      dropped (Go w) h later = later w
      dropped (Unwind w) h later = well.aborts w
      dropped (Halts halt w) h later = h

      by : (b : Bool) → needs_drop items e.ty ≡ b →
          ((w : V) → Shown over (Post c valued) (drop_unwinding items q (needing_drop items es) S w)) →
          Shown over (Post c valued)
          (drop_unwinding items q (if b then e ∷ needing_drop items es else needing_drop items es) S v)
      by true n later = dropped (q.drop Unwinding (entry_site e) v)
          (well.drops Unwinding (entry_site e) v (d.0 n Unwinding)) later
      by false n later = later v

  normally_well : (c : Context) (valued : Type 0) (exit : Exit) → ExitOk c valued exit → (es : List Entry) →
      AllOf Droppable es → (S : Scopes) (v : V) → Fine S →
      Shown over (Post c valued) (drop_normally items q exit (needing_drop items es) S v)
  normally_well c valued exit ok [] d S v f = (ok, f)
  normally_well c valued exit ok (e ∷ es) d S v f = by (needs_drop items e.ty) refl
      (λ w. normally_well c valued exit ok es d.1 S w f)
    where
      dropped : (o : Out V) → ShownOut over (λ w. Unit {0}) (λ w. Unit {0}) o →
          ((w : V) → Shown over (Post c valued) (drop_normally items q exit (needing_drop items es) S w)) →
          Shown over (Post c valued) (Rattle.src_meaning.specs.Scopes.dropped_normally items q o
          (drop_normally items q exit (needing_drop items es) S) (drop_unwinding items q (needing_drop items es) S))
      dropped (Go w) h later = later w
      dropped (Unwind w) h later = unwinding_well c valued es d.1 S w f
      dropped (Halts halt w) h later = h

      by : (b : Bool) → needs_drop items e.ty ≡ b →
          ((w : V) → Shown over (Post c valued) (drop_normally items q exit (needing_drop items es) S w)) →
          Shown over (Post c valued)
          (drop_normally items q exit (if b then e ∷ needing_drop items es else needing_drop items es) S v)
      by true n later = dropped (q.drop Normal (entry_site e) v)
          (well.drops Normal (entry_site e) v (d.0 n Normal)) later
      by false n later = later v

  pub leave_well : (c : Context) (valued : Type 0) (r : Run V) → Shown over (Post c valued) r →
      Shown over (Post c valued) (leave items q r)
  leave_well c valued (At exit [] v) h = h
  leave_well c valued (At Value (s ∷ S) v) h = normally_well c valued Value h.0 s.entries h.1.0.0 S v h.1.1
  leave_well c valued (At (Breaks loop) (s ∷ S) v) h =
      normally_well c valued (Breaks loop) h.0 s.entries h.1.0.0 S v h.1.1
  leave_well c valued (At (Continues loop) (s ∷ S) v) h =
      normally_well c valued (Continues loop) h.0 s.entries h.1.0.0 S v h.1.1
  leave_well c valued (At Returns (s ∷ S) v) h = normally_well c valued Returns h.0 s.entries h.1.0.0 S v h.1.1
  leave_well c valued (At Panics (s ∷ S) v) h = unwinding_well c valued (s.pending ++ s.entries)
      (all_both s.pending s.entries h.1.0.1 h.1.0.0) S v h.1.1
  leave_well c valued (Over halt v) h = h

  pub own_well : (c : Context) (valued : Type 0) (h : NodeHead) (own : Bool) (does : Does V) (S : Scopes) (v : V) →
      Fine S →
      ((T : Scopes) → Fine T → Shown over (Post c valued) (does T v)) →
      Shown over (Post c valued) (forms.in_own_scope items q h own does S v)
  own_well c valued h false does S v f d = d S f
  own_well c valued h true does S v f d = leave_well c valued (does (with_scope h.id true S) v)
      (d (with_scope h.id true S) (opened h.id true S f))

  pub back_well : (c : Context) (valued : Type 0) (S : Scopes) (r : Run V) → Fine S → Shown over (Post c valued) r →
      Shown over (Post c valued) (back_in S r)
  back_well c valued S (At Value T v) f h = (h.0, f)
  back_well c valued S (At (Breaks loop) T v) f h = h
  back_well c valued S (At (Continues loop) T v) f h = h
  back_well c valued S (At Returns T v) f h = h
  back_well c valued S (At Panics T v) f h = h
  back_well c valued S (Over halt v) f h = h

  pub alone_well : (c : Context) (around : LoopsAndGuards) (m : Meaning V) (to : Destination) → AroundWell c around →
      Well c m → Dest m.head.ty to → (S : Scopes) (v : V) → Fine S →
      Shown over (Post c (IsMade m.head.ty)) (forms.alone items q around m to S v)
  alone_well c around m to ok m_well d S v f = back_well c (IsMade m.head.ty) S (m.evaluate around true to S v) f
      (m_well around true to S v ok d f)

  -- ---- what goes to a destination

  abbrev pub Delivers : Type 0 → NodeHead → (EffectSite → Action) → Destination → Type 0
  Delivers valued h action (Into key) =
      Acts (action (site_in h.id key)) × (MadeBy Made (stored_by (action (site_in h.id key))) → valued)
  Delivers valued h action (Coerced key trait_no to) =
      (Acts (action (site_in h.id key)) × (MadeBy Made (stored_by (action (site_in h.id key))) → valued))
      × Acts (effects.Unsize (site_in h.id to) trait_no (moved h.id key))

  pub deliver_well : (c : Context) (valued : Type 0) (h : NodeHead) (action : EffectSite → Action) (to : Destination) →
      Delivers valued h action to → (S : Scopes) (v : V) → Fine S →
      Shown over (Post c valued) (forms.deliver items q h action to S v)
  deliver_well c valued h action (Into key) d S v f = acts_well c valued (action (site_in h.id key)) S v d.0 f d.1
  deliver_well c valued h action (Coerced key trait_no to) d S v f =
      then_well c valued valued (forms.acts items q (action (site_in h.id key)) S v)
      (forms.acts items q (effects.Unsize (site_in h.id to) trait_no (moved h.id key)))
      (acts_well c valued (action (site_in h.id key)) S v d.0.0 f d.0.1)
      (λ T w made g. acts_well c valued (effects.Unsize (site_in h.id to) trait_no (moved h.id key)) T w d.1 g
      (λ x. made))

  -- ---- operands

  pub operand_well : (c : Context) (around : LoopsAndGuards) (m : Meaning V) → AroundWell c around → Own c m →
      (S : Scopes) (v : V) → Fine S → Shown over (Post c (IsMade m.head.ty)) (forms.operand items q around m S v)
  operand_well c around m ok own S v f = then_well c (IsMade m.head.ty) (IsMade m.head.ty)
      (m.evaluate around false (Into m.head.id) begun v) (forms.complete items q innermost m.head)
      (own.0 around false (Into m.head.id) begun v ok own.1.0
      (fine_if m.shape.in_destination (innermost (with_pending (entry_of m.head))) S f
      (fine_innermost (with_pending (entry_of m.head)) (pended (entry_of m.head) own.1.1) S)))
      (λ T w made g.
      (made, fine_innermost (becomes_entry (entry_of m.head)) (completed (entry_of m.head) own.1.1) T g))
    where
      begun : Scopes
      begun = changed_if m.shape.in_destination (innermost (with_pending (entry_of m.head))) S

  operands_well : (c : Context) (around : LoopsAndGuards) (ms : List (Meaning V)) → AroundWell c around → AllOwn c ms →
      (S : Scopes) (v : V) → Fine S → Shown over (Post c (AllMade ms)) (forms.operands items q around ms S v)
  operands_well c around [] ok own S v f = (tt, f)
  operands_well c around (m ∷ ms) ok own S v f = then_well c (IsMade m.head.ty) (AllMade (m ∷ ms))
      (forms.operand items q around m S v) (forms.operands items q around ms) (operand_well c around m ok own.0 S v f)
      (λ T w made g. more_valued c (AllMade ms) (AllMade (m ∷ ms)) (λ rest. (made, rest))
      (forms.operands items q around ms T w) (operands_well c around ms ok own.1 T w g))

  pub acting_well : (c : Context) (valued : Type 0) (h : NodeHead) (around : LoopsAndGuards) (own : Bool)
      (ms : List (Meaning V)) (act : Does V) → AroundWell c around → AllOwn c ms →
      (AllMade ms → (S : Scopes) (v : V) → Fine S → Shown over (Post c valued) (act S v)) → (S : Scopes) (v : V) →
      Fine S → Shown over (Post c valued) (forms.acting items q h around own ms act S v)
  acting_well c valued h around own ms act ok all does S v f = leave_well c valued
      (on_value (forms.operands items q around ms (with_scope h.id own S) v) then_take)
      (then_well c (AllMade ms) valued (forms.operands items q around ms (with_scope h.id own S) v) then_take
      (operands_well c around ms ok all (with_scope h.id own S) v (opened h.id own S f))
      (λ T w made g. does made (innermost (without_operands (keys_of ms)) T) w
      (fine_innermost (without_operands (keys_of ms)) (untaken (keys_of ms)) T g)))
    where
      then_take : Does V
      then_take T w = on_value (forms.take items q (keys_of ms) T w) act

  pub dropping_well : (c : Context) (valued : Type 0) (h : NodeHead) (around : LoopsAndGuards) (own : Bool)
      (m : Meaning V)
      (act : Does V) → AroundWell c around → Own c m →
      ((S : Scopes) (v : V) → Fine S → Shown over (Post c valued) (act S v)) → (S : Scopes) (v : V) → Fine S →
      Shown over (Post c valued) (forms.dropping items q h around own m act S v)
  dropping_well c valued h around own m act ok m_own does S v f = leave_well c valued
      (on_value (forms.operand items q around m (with_scope h.id own S) v) act)
      (then_well c (IsMade m.head.ty) valued (forms.operand items q around m (with_scope h.id own S) v) act
      (operand_well c around m ok m_own (with_scope h.id own S) v (opened h.id own S f)) (λ T w made g. does T w g))

  -- ---- places

  pub temporary_well : (c : Context) (h : NodeHead) (s : Shape) (evaluate : LoopsAndGuards → Bool → Destination →
      Does V)
      (around : LoopsAndGuards) → Droppable (entry_of h) →
      ((S : Scopes) (v : V) → Fine S → Shown over (Post c (IsMade h.ty)) (evaluate around false (Into h.id) S v)) →
      (S : Scopes) (v : V) → Fine S →
      Shown over (Post c (IsMade h.ty)) (forms.temporary items q h s evaluate around S v)
  temporary_well c h s evaluate around d does S v f = then_well c (IsMade h.ty) (IsMade h.ty)
      (evaluate around false (Into h.id) begun v) (forms.complete items q nearest_temporary h)
      (does begun v (fine_if s.in_destination (nearest_temporary (with_pending (entry_of h))) S f
      (fine_nearest (with_pending (entry_of h)) (pended (entry_of h) d) S)))
      (λ T w made g. (made, fine_nearest (becomes_entry (entry_of h)) (completed (entry_of h) d) T g))
    where
      begun : Scopes
      begun = changed_if s.in_destination (nearest_temporary (with_pending (entry_of h))) S

  pub use_well : (c : Context) (valued reached : Type 0) (h : NodeHead) (s : Shape) (reach : LoopsAndGuards → Does V)
      (around : LoopsAndGuards) (own : Bool) (to : Destination) →
      ((S : Scopes) (v : V) → Fine S → Shown over (Post c reached) (reach around S v)) →
      Delivers valued h (λ site. effects.Put site (operand_at h (s.place around.aliases))) to → (S : Scopes) (v : V) →
      Fine S → Shown over (Post c valued) (forms.use_of_place items q h s reach around own to S v)
  use_well c valued reached h s reach around own to does d S v f = own_well c valued h own
      (λ T w. on_value (reach around T w) deliver) S v f
      (λ T g. then_well c reached valued (reach around T v) deliver (does T v g)
      (λ U w x k. deliver_well c valued h (λ site. effects.Put site (operand_at h (s.place around.aliases))) to d U w
      k))
    where
      deliver : Does V
      deliver = forms.deliver items q h (λ site. effects.Put site (operand_at h (s.place around.aliases))) to

  pub element_well : (c : Context) (valued reached : Type 0) (h : NodeHead) (s : Shape) (base index : Meaning V)
      (length : ℕ) (around : LoopsAndGuards) → AroundWell c around → Reach c base → Well c index →
      Dest index.head.ty (Into index.head.id) →
      Acts (effects.Touch (site_at h (forms.array_around items q (s.place around.aliases)))) →
      (IsMade index.head.ty → Acts (effects.Bounds (Copied (site_of_key index.head.id)) length)) →
      valued → (S : Scopes) (v : V) → Fine S →
      Shown over (Post c valued) (forms.reach_element items q h s base index length around S v)
  element_well c valued reached h s base index length around ok b i d touch bounds made S v f =
      then_well c (Reached base) valued (base.reach around S v) then_index
      (b around S v ok f)
      (λ T w x g. then_well c (IsMade index.head.ty) valued (index.evaluate around false (Into index.head.id) T w)
      then_touch (i around false (Into index.head.id) T w ok d g)
      (λ U u y k. then_well c (Unit {0}) valued (forms.acts items q the_touch U u) (forms.acts items q the_bounds)
      (acts_well c (Unit {0}) the_touch U u touch k (λ z. tt))
      (λ Z z x l. acts_well c valued the_bounds Z z (bounds y) l (λ e. made))))
    where
      the_touch : Action
      the_touch = effects.Touch (site_at h (forms.array_around items q (s.place around.aliases)))

      the_bounds : Action
      the_bounds = effects.Bounds (Copied (site_of_key index.head.id)) length

      then_touch : Does V
      then_touch U u = on_value (forms.acts items q the_touch U u) (forms.acts items q the_bounds)

      then_index : Does V
      then_index T w = on_value (index.evaluate around false (Into index.head.id) T w) then_touch

  pub borrowing_well : (c : Context) (valued : Type 0) (h : NodeHead) (unique : Bool) (base : Meaning V)
      (around : LoopsAndGuards) (own : Bool) (to : Destination) → AroundWell c around → Reach c base →
      (Reached base →
      Delivers valued h (λ site. effects.Borrow (record site { node = base.head.id }) unique (site_of base around)) to) →
      (S : Scopes) (v : V) → Fine S →
      Shown over (Post c valued) (forms.borrowing items q h unique base around own to S v)
  borrowing_well c valued h unique base around own to ok b d S v f = own_well c valued h own
      (λ T w. on_value (base.reach around T w) (forms.deliver items q h action to)) S v f
      (λ T g. then_well c (Reached base) valued (base.reach around T v)
      (forms.deliver items q h action to) (b around T v ok g)
      (λ U w x k. deliver_well c valued h action to (d x) U w k))
    where
      action : EffectSite → Action
      action site = effects.Borrow (record site { node = base.head.id }) unique (site_of base around)

  -- ---- assignment

  stored_well : (c : Context) (site : EffectSite) (key : ℕ) → Acts (effects.Put site (moved site.node key)) →
      (S : Scopes) (v : V) → Fine S → Shown over (Post c (Unit {0})) (forms.stored items q site key S v)
  stored_well c site key a S v f = acts_well c (Unit {0}) (effects.Put site (moved site.node key))
      (innermost (without_operands (key ∷ [])) S) v a
      (fine_innermost (without_operands (key ∷ [])) (untaken (key ∷ [])) S f) (λ x. tt)

  after_drop : (c : Context) (site : EffectSite) (key : ℕ) → Acts (effects.Put site (moved site.node key)) →
      (o : Out V) →
      ShownOut over (λ w. Unit {0}) (λ w. Unit {0}) o → (S : Scopes) → Fine S →
      Shown over (Post c (Unit {0})) (forms.stored_after items q site key S o)
  after_drop c site key a (Go w) h S f = stored_well c site key a S w f
  after_drop c site key a (Unwind w) h S f = then_well c (Unit {0}) (Unit {0}) (forms.stored items q site key S w)
      (At Panics) (stored_well c site key a S w f) (λ T u x g. (tt, g))
  after_drop c site key a (Halts halt w) h S f = h

  replacing_well : (c : Context) (drops : Bool) (site : EffectSite) (key : ℕ) →
      Acts (effects.Put site (moved site.node key)) → (drops ≡ true → Drops Normal site) → (S : Scopes) (v : V) →
      Fine S → Shown over (Post c (Unit {0})) (forms.replacing items q drops site key S v)
  replacing_well c true site key a d S v f =
      after_drop c site key a (q.drop Normal site v) (well.drops Normal site v (d refl)) S f
  replacing_well c false site key a d S v f = after_drop c site key a (Go v) tt S f

  pub assigning_well : (c : Context) (valued : Type 0) (h : NodeHead) (place value : Meaning V)
      (around : LoopsAndGuards)
      (own : Bool) (to : Destination) → AroundWell c around → Reach c place → Own c value →
      (IsMade value.head.ty → Acts (effects.Put (site_of place around) (moved place.head.id value.head.id))) →
      (needs_drop items place.head.ty ≡ true → Drops Normal (site_of place around)) →
      Delivers valued h (λ site. effects.Put site effects.UnitValue) to → (S : Scopes) (v : V) → Fine S →
      Shown over (Post c valued) (forms.assigning items q h place value around own to S v)
  assigning_well c valued h place value around own to ok p v_own a d del S v f = leave_well c valued
      (on_value (forms.operand items q around value (with_scope h.id own S) v) then_place)
      (then_well c (IsMade value.head.ty) valued (forms.operand items q around value (with_scope h.id own S) v)
      then_place (operand_well c around value ok v_own (with_scope h.id own S) v (opened h.id own S f))
      (λ T w made g. then_well c (Reached place) valued (place.reach around T w)
      then_store (p around T w ok g)
      (λ U u x k. then_well c (Unit {0}) valued
      (forms.replacing items q (needs_drop items place.head.ty) (site_of place around) value.head.id U u)
      (forms.put_unit items q h to)
      (replacing_well c (needs_drop items place.head.ty) (site_of place around) value.head.id (a made) d U u k)
      (λ Z z y l. deliver_well c valued h (λ site. effects.Put site effects.UnitValue) to del Z z l))))
    where
      then_store : Does V
      then_store U u = on_value
          (forms.replacing items q (needs_drop items place.head.ty) (site_of place around) value.head.id U u)
          (forms.put_unit items q h to)

      then_place : Does V
      then_place T w = on_value (place.reach around T w) then_store
