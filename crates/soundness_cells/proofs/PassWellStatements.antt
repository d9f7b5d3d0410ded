-- Statements, loops and jumps do nothing but what is well, given that the nodes inside do.
use Rattle.std.proofs.Common.{◌≡◌, ℕ, zero, suc, ◌==◌, not, ◌||◌, Bool, true, false, List, [], ◌∷◌, Option, Some, if◌then◌else◌, refl, ap, sym, ◌∙◌, subst}
use Rattle.std.proofs.lemmas.Bool.{false≢true}
use Rattle.std.proofs.lemmas.Bool.Decides.{Decides-eqb}
use Rattle.mir_ty.specs.declared.ty.TyId.{TyId}
use Rattle.mir_ty.specs.Facts.{needs_drop}
use Rattle.mir_ty.specs.ItemTable.{ItemTable}
use Rattle.store_model.specs.Effects as effects
use Rattle.store_model.specs.Effects.{EffectSite, Action, Test, Mode, Normal, Halt, Out, Go, Unwind, Halts, Effects}
use Rattle.src_meaning.specs.Forms as forms
use Rattle.src_meaning.specs.Forms.{Destination, Into, LoopsAndGuards, Meaning, entry_of, bound_entry, site_of_key, changed_if, place_of, loop_destination, in_loop}
use Rattle.src_meaning.specs.Scopes.{Entry, Scope, Scopes, with_scope, innermost, around_innermost, with_entry, with_pending, without_pending, becomes_entry, Exit, Value, Breaks, Continues, Returns, Panics, Run, At, Over, Does, on_value, in_scopes}
use Rattle.src_meaning.specs.Shape.{NodeHead, Aliases, BoundName}
use Rattle.well_typed.specs.Places.{LoopAround, Context, loop_with, within}
use Rattle.soundness_values.proofs.Leaving.{Shown, ShownOut}
use Rattle.soundness_cells.proofs.PassWell as rules
use Rattle.soundness_cells.proofs.PassWell.{DoesWell}
use Rattle.soundness_cells.proofs.PassWellBranches as branches

module _ {V : Type 0} (items : ItemTable) (q : Effects V) (over : Halt → V → Type 0) (Acts : Action → Type 0)
    (Tests : Test → Type 0) (Drops : Mode → EffectSite → Type 0) (Made : EffectSite → Type 0)
    (well : DoesWell q over Acts Tests Drops Made) (Cell : ℕ → TyId → Type 0) (May : TyId → TyId → ℕ → Type 0)
    (Names : Aliases → Type 0) where
  abbrev Fine : Scopes → Type 0
  Fine = rules.Fine items q over Acts Tests Drops Made well Cell May Names

  abbrev Post : Context → Type 0 → Exit → Scopes → V → Type 0
  Post = rules.Post items q over Acts Tests Drops Made well Cell May Names

  abbrev Well : Context → Meaning V → Type 0
  Well = rules.Well items q over Acts Tests Drops Made well Cell May Names

  abbrev Reach : Context → Meaning V → Type 0
  Reach = rules.Reach items q over Acts Tests Drops Made well Cell May Names

  abbrev AroundWell : Context → LoopsAndGuards → Type 0
  AroundWell = rules.AroundWell items q over Acts Tests Drops Made well Cell May Names

  abbrev Dest : TyId → Destination → Type 0
  Dest = rules.Dest items q over Acts Tests Drops Made well Cell May Names

  abbrev IsMade : TyId → Type 0
  IsMade = rules.IsMade items q over Acts Tests Drops Made well Cell May Names

  abbrev Droppable : Entry → Type 0
  Droppable = rules.Droppable items q over Acts Tests Drops Made well Cell May Names

  abbrev Keeps : (Scope → Scope) → Type 0
  Keeps = rules.Keeps items q over Acts Tests Drops Made well Cell May Names

  abbrev Delivers : Type 0 → NodeHead → (EffectSite → Action) → Destination → Type 0
  Delivers = rules.Delivers items q over Acts Tests Drops Made well Cell May Names

  abbrev Reached : Meaning V → Type 0
  Reached = rules.Reached items q over Acts Tests Drops Made well Cell May Names

  abbrev BoundsOk : List BoundName → Type 0
  BoundsOk = branches.BoundsOk items q over Acts Tests Drops Made well Cell May Names

  -- ---- statements

  pub let_name_well : (c : Context) (h x : NodeHead) (m : Meaning V) (around : LoopsAndGuards) → AroundWell c around →
      Well c m → Dest m.head.ty (Into x.id) → Droppable (forms.entry_of x) → (S : Scopes) (v : V) → Fine S →
      Shown over (Post c (IsMade m.head.ty)) (forms.let_name items q h x m around S v)
  let_name_well c h x m around ok m_well d droppable S v f =
      rules.leave_well items q over Acts Tests Drops Made well Cell May Names c (IsMade m.head.ty)
      (on_value (m.evaluate around false (Into x.id) begun v) named)
      (rules.then_well items q over Acts Tests Drops Made well Cell May Names c (IsMade m.head.ty) (IsMade m.head.ty)
      (m.evaluate around false (Into x.id) begun v) named
      (m_well around false (Into x.id) begun v ok d ((tt, (droppable, tt)), f))
      (λ T w made g. (
        made,
        rules.fine_around items q over Acts Tests Drops Made well Cell May Names (with_entry e)
            (rules.entered items q over Acts Tests Drops Made well Cell May Names e droppable)
            (innermost (without_pending e) T)
            (rules.fine_innermost items q over Acts Tests Drops Made well Cell May Names (without_pending e)
            (rules.unpended items q over Acts Tests Drops Made well Cell May Names e) T g),
      )))
    where
      e : Entry
      e = forms.entry_of x

      begun : Scopes
      begun = innermost (with_pending e) (with_scope h.id true S)

      named : Does V
      named T w = At Value (around_innermost (with_entry e) (innermost (without_pending e) T)) w

  pub let_parts_well : (c : Context) (h : NodeHead) (pattern m : Meaning V) (around : LoopsAndGuards) →
      AroundWell c around → Reach c m → (m.shape.is_place ≡ false → Droppable (forms.entry_of m.head)) →
      (Reached m → BoundsOk (pattern.shape.bindings (place_of m around))) → (S : Scopes) (v : V) → Fine S →
      Shown over (Post c (Reached m)) (forms.let_parts items q h pattern m around S v)
  let_parts_well c h pattern m around ok m_well droppable bounds S v f =
      rules.leave_well items q over Acts Tests Drops Made well Cell May Names c (Reached m)
      (on_value (m.reach around begun v) bind)
      (rules.then_well items q over Acts Tests Drops Made well Cell May Names c (Reached m) (Reached m)
      (m.reach around begun v) bind
      (m_well around begun v ok (of_place m.shape.is_place droppable))
      (λ T w x g. rules.more_valued items q over Acts Tests Drops Made well Cell May Names c (Unit {0}) (Reached m) (λ y. x)
      (bind T w) (branches.bind_well items q over Acts Tests Drops Made well Cell May Names c around_innermost
      (λ change k U l. rules.fine_around items q over Acts Tests Drops Made well Cell May Names change k U l)
      (pattern.shape.bindings (place_of m around)) (bounds x) T w g)))
    where
      e : Entry
      e = forms.entry_of m.head

      begun : Scopes
      begun = changed_if (not (m.shape.is_place || m.shape.in_destination)) (innermost (with_pending e))
          (with_scope h.id true S)

      bind : Does V
      bind = forms.bind items q around_innermost (pattern.shape.bindings (place_of m around))

      opened : Fine (with_scope h.id true S)
      opened = rules.opened items q over Acts Tests Drops Made well Cell May Names h.id true S f

      of_place : (b : Bool) → (b ≡ false → Droppable e) →
          Fine (changed_if (not (b || m.shape.in_destination)) (innermost (with_pending e)) (with_scope h.id true S))
      of_place true d = opened
      of_place false d = rules.fine_if items q over Acts Tests Drops Made well Cell May Names
          (not m.shape.in_destination) (innermost (with_pending e)) (with_scope h.id true S) opened
          (rules.fine_innermost items q over Acts Tests Drops Made well Cell May Names (with_pending e)
          (rules.pended items q over Acts Tests Drops Made well Cell May Names e (d refl)) (with_scope h.id true S))

  -- names without a value: what needs no dropping may be emptied
  abbrev pub DeclaredOk : List BoundName → Type 0
  DeclaredOk [] = Unit {0}
  DeclaredOk (b ∷ bounds) =
      ((needs_drop items b.ty ≡ false → Drops Normal (site_of_key b.key)) × Droppable (bound_entry b)) ×
      DeclaredOk bounds

  pub declared_well : (c : Context) (bounds : List BoundName) → DeclaredOk bounds → (S : Scopes) (v : V) → Fine S →
      Shown over (Post c (Unit {0})) (forms.declared items q bounds S v)
  declared_well c [] ok S v f = (tt, f)
  declared_well c (b ∷ bounds) ok S v f = by (needs_drop items b.ty) refl
      (λ T w g. declared_well c bounds ok.1 (innermost (with_entry (bound_entry b)) T) w
      (rules.fine_innermost items q over Acts Tests Drops Made well Cell May Names (with_entry (bound_entry b))
      (rules.entered items q over Acts Tests Drops Made well Cell May Names (bound_entry b) ok.0.1) T g))
    where
      next : Does V
      next T w = forms.declared items q bounds (innermost (with_entry (bound_entry b)) T) w

      dropped : (o : Out V) → ShownOut over (λ w. Unit {0}) (λ w. Unit {0}) o →
          ((T : Scopes) (w : V) → Fine T → Shown over (Post c (Unit {0})) (next T w)) →
          Shown over (Post c (Unit {0})) (on_value (in_scopes S o) next)
      dropped (Go w) h later = later S w f
      dropped (Unwind w) h later = (tt, f)
      dropped (Halts halt w) h later = h

      by : (d : Bool) → needs_drop items b.ty ≡ d →
          ((T : Scopes) (w : V) → Fine T → Shown over (Post c (Unit {0})) (next T w)) →
          Shown over (Post c (Unit {0})) (on_value (forms.emptied items q d b.key S v) next)
      by true n later = later S v f
      by false n later = dropped (q.drop Normal (site_of_key b.key) v)
          (well.drops Normal (site_of_key b.key) v (ok.0.0 n)) later

  pub evaluating_well : (c : Context) (h : NodeHead) (m : Meaning V) (around : LoopsAndGuards) → AroundWell c around →
      Well c m → Dest m.head.ty (Into m.head.id) → Droppable (forms.entry_of m.head) → (S : Scopes) (v : V) → Fine S →
      Shown over (Post c (IsMade m.head.ty)) (forms.evaluating items q h m around S v)
  evaluating_well c h m around ok m_well d droppable S v f =
      rules.leave_well items q over Acts Tests Drops Made well Cell May Names c (IsMade m.head.ty)
      (on_value (m.evaluate around false (Into m.head.id) begun v) (forms.complete items q innermost m.head))
      (rules.then_well items q over Acts Tests Drops Made well Cell May Names c (IsMade m.head.ty) (IsMade m.head.ty)
      (m.evaluate around false (Into m.head.id) begun v) (forms.complete items q innermost m.head)
      (m_well around false (Into m.head.id) begun v ok d ((tt, (droppable, tt)), f))
      (λ T w made g. (
        made,
        rules.fine_innermost items q over Acts Tests Drops Made well Cell May Names (becomes_entry e)
            (rules.completed items q over Acts Tests Drops Made well Cell May Names e droppable) T g,
      )))
    where
      e : Entry
      e = forms.entry_of m.head

      begun : Scopes
      begun = innermost (with_pending e) (with_scope h.id true S)

  -- ---- loops and jumps

  module _ (c : Context) (a : LoopAround) where
    left_loop : (loop : ℕ) → (a.loop == loop) ≡ true → (b : LoopAround) → loop_with loop (a ∷ c.loops) ≡ Some b → a ≡ b
    left_loop loop e b k = by (a.loop == loop) e k
      where
        own : Some a ≡ Some b → a ≡ b
        own x = cc

        by : (z : Bool) → z ≡ true → (if z then Some a else loop_with loop c.loops) ≡ Some b → a ≡ b
        by true e k = own k
        by false e k = absurd (false≢true e)

    other_loop : (loop : ℕ) → (a.loop == loop) ≡ false → (b : LoopAround) → loop_with loop (a ∷ c.loops) ≡ Some b →
        loop_with loop c.loops ≡ Some b
    other_loop loop e b k = by (a.loop == loop) e k
      where
        by : (z : Bool) → z ≡ false → (if z then Some a else loop_with loop c.loops) ≡ Some b →
            loop_with loop c.loops ≡ Some b
        by true e k = absurd (false≢true (sym e))
        by false e k = k

    turned_well : (begun : Scopes) → Fine begun → (r : Run V) (next : Does V) (any_value : Type 0) →
        Shown over (Post (within a c) any_value) r →
        ((S : Scopes) (v : V) → Fine S → Shown over (Post c (IsMade a.ty)) (next S v)) →
        Shown over (Post c (IsMade a.ty)) (forms.turned items q a.loop begun r next)
    turned_well begun f (At Value S v) next x h k = k S v h.1
    turned_well begun f (At (Breaks loop) S v) next x h k = by (a.loop == loop) refl
      where
        by : (z : Bool) → (a.loop == loop) ≡ z →
            Shown over (Post c (IsMade a.ty)) (if z then At Value begun v else At (Breaks loop) S v)
        by true e = (subst (λ (b : LoopAround). IsMade b.ty) (sym (left_loop loop e h.0.0 h.0.1.0)) h.0.1.1, f)
        by false e = ((h.0.0, (other_loop loop e h.0.0 h.0.1.0, h.0.1.1)), h.1)
    turned_well begun f (At (Continues loop) S v) next x h k = by (a.loop == loop) refl
      where
        by : (z : Bool) → (a.loop == loop) ≡ z →
            Shown over (Post c (IsMade a.ty)) ((if z then next begun else At (Continues loop) S) v)
        by true e = k begun v f
        by false e = ((h.0.0, other_loop loop e h.0.0 h.0.1), h.1)
    turned_well begun f (At Returns S v) next x h k = h
    turned_well begun f (At Panics S v) next x h k = h
    turned_well begun f (Over halt v) next x h k = h

    pub turns_well : (fuel : ℕ) (turn : Does V) (any_value : Type 0) →
        ((S : Scopes) (v : V) → Fine S → Shown over (Post (within a c) any_value) (turn S v)) → (S : Scopes) (v : V) →
        Fine S → Shown over (Post c (IsMade a.ty)) (forms.turns items q fuel a.loop turn S v)
    turns_well zero turn x t S v f = well.lapses v
    turns_well (suc n) turn x t S v f = by (q.tick v) (well.ticks v) (λ T w g. turns_well n turn x t T w g)
      where
        by : (o : Out V) → ShownOut over (λ w. Unit {0}) (λ w. ⊥) o →
            ((T : Scopes) (w : V) → Fine T → Shown over (Post c (IsMade a.ty))
            (forms.turns items q n a.loop turn T w)) →
            Shown over (Post c (IsMade a.ty))
            (forms.ticked items q o (λ w. forms.turned items q a.loop S (turn S w) (forms.turns items q n a.loop turn)))
        by (Go w) h later = turned_well S f (turn S w) (forms.turns items q n a.loop turn) x (t S w f) later
        by (Unwind w) h later = absurd h
        by (Halts halt w) h later = h

  pub ends_well : (c : Context) (any_value : Type 0) (a : LoopAround) (h : NodeHead) (to : Destination) →
      a.loop ≡ h.id →
      Delivers (IsMade a.ty) h (λ site. effects.Put site effects.UnitValue) to → (S : Scopes) (v : V) → Fine S →
      Shown over (Post (within a c) any_value) (forms.ends_loop items q h to S v)
  ends_well c x a h to same d S v f =
      rules.then_well items q over Acts Tests Drops Made well Cell May Names (within a c) (IsMade a.ty) x
      (forms.put_unit items q h to S v) (At (Breaks h.id))
      (rules.deliver_well items q over Acts Tests Drops Made well Cell May Names (within a c) (IsMade a.ty) h
      (λ site. effects.Put site effects.UnitValue) to d S v f)
      (λ T w made g. ((a, (own, made)), g))
    where
      own : loop_with h.id (a ∷ c.loops) ≡ Some a
      own = ap (λ b. if b then Some a else loop_with h.id c.loops) ((Decides-eqb a.loop h.id).1 same)

  pub jumping_well : (c : Context) (valued jumped : Type 0) (exit : Exit)
      (ok : jumped → (S : Scopes) (v : V) → Fine S → Post c valued exit S v) (h : NodeHead) (m : Option (Meaning V))
      (around : LoopsAndGuards) (to : Destination) →
      ((S : Scopes) (v : V) → Fine S → Shown over (Post c jumped) (forms.value_of_jump items q h m around to S v)) →
      (S : Scopes) (v : V) → Fine S → Shown over (Post c valued) (forms.jumping items q exit h m around to S v)
  jumping_well c valued jumped exit ok h m around to does S v f =
      rules.then_well items q over Acts Tests Drops Made well Cell May Names c jumped valued
      (forms.value_of_jump items q h m around to S v) (At exit) (does S v f) (λ T w x g. ok x T w g)

  -- what stands around the body of a loop
  pub around_loop : (c : Context) (around : LoopsAndGuards) (a : LoopAround) (to : Destination) → AroundWell c around →
      Dest a.ty to → AroundWell (within a c) (in_loop a.loop to around)
  around_loop c around a to ok d = (ok.0, (ok.1.0, λ loop b e. by loop b (a.loop == loop) refl e))
    where
      to_ : (loop : ℕ) → (a.loop == loop) ≡ true → loop_destination loop ((a.loop, to) ∷ around.loops) ≡ to
      to_ loop e = ap (λ b. if b then to else loop_destination loop around.loops)
          ((Decides-eqb loop a.loop).1 (sym ((Decides-eqb a.loop loop).0 e)))

      past_ : (loop : ℕ) → (a.loop == loop) ≡ false →
          loop_destination loop ((a.loop, to) ∷ around.loops) ≡ loop_destination loop around.loops
      past_ loop e = by (loop == a.loop) refl
        where
          by : (b : Bool) → (loop == a.loop) ≡ b →
              (if b then to else loop_destination loop around.loops) ≡ loop_destination loop around.loops
          by true k = absurd (false≢true (sym e ∙ (Decides-eqb a.loop loop).1 (sym ((Decides-eqb loop a.loop).0 k))))
          by false k = refl

      by : (loop : ℕ) (b : LoopAround) (z : Bool) → (a.loop == loop) ≡ z →
          (if z then Some a else loop_with loop c.loops) ≡ Some b →
          Dest b.ty (loop_destination loop ((a.loop, to) ∷ around.loops))
      by loop b true e k = subst (λ t. Dest b.ty t) (sym (to_ loop e))
          (subst (λ (l : LoopAround). Dest l.ty to) (own k) d)
        where
          own : Some a ≡ Some b → a ≡ b
          own x = cc
      by loop b false e k = subst (λ t. Dest b.ty t) (sym (past_ loop e)) (ok.1.1 loop b k)
