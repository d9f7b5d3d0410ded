-- A call under the watch over what the reference in a local names: nothing bad is seen, where the call passes no such
-- reference, or where it is made by an argument and no later argument takes anything of what is borrowed there.
use Rattle.std.proofs.Common.{◌≡◌, ◌⊎◌, inl, inr, ℕ, zero, suc, ◌==◌, ◌&&◌, ◌||◌, not, Bool, true, false, List, [], ◌∷◌, ◌++◌, map, flat_map, Option, Some, None, refl, sym, ap, subst, ◌∙◌}
use Rattle.std.proofs.lemmas.Bool.{false≢true}
use Rattle.mir_ty.specs.declared.ty.TyId.{TyId}
use Rattle.mir_ty.specs.ItemTable.{ItemTable}
use Rattle.store_model.specs.Abstract.Effects.{never_at}
use Rattle.store_model.specs.Effects as effects
use Rattle.store_model.specs.Effects.{EffectSite, Operand, Action, Halt, Unreachable, Out, Go, Unwind, Halts, Effects, stores_where, halting_if}
use Rattle.store_model.specs.Places.Place.{Place, whole_local}
use Rattle.cfg_graph.specs.declared.graph.Body.{Body}
use Rattle.cfg_graph.specs.Uses.{Borrows, Stores}
use Rattle.typed_tree.specs.declared.node.Use.{Use}
use Rattle.typed_tree.specs.Nodes.{number_of}
use Rattle.typed_tree.specs.Tree as tree
use Rattle.typed_tree.specs.Tree.{Node, node, Form, Nodes, no_node, a_node, BodyTree}
use Rattle.src_meaning.specs.Evaluation as evaluation
use Rattle.src_meaning.specs.Evaluation.{to_own_key}
use Rattle.src_meaning.specs.Forms as forms
use Rattle.src_meaning.specs.Forms.{Destination, Into, Coerced, LoopsAndGuards, Meaning, is_never, moved, all_moved, keys_of, site_in, site_of}
use Rattle.src_meaning.specs.Locals.Effects.{place_at, operand_at, action_at}
use Rattle.src_meaning.specs.Scopes.{Entry, Scopes, innermost, with_pending, Value, Breaks, Continues, Returns, Panics, Run, At, Over, Does, on_value, ◌>>◌, in_scopes}
use Rattle.src_meaning.specs.Shape.{Aliases, NodeHead, head, Shape, shape}
use Rattle.soundness_values.proofs.Leaving.{AllOf, ShownOut}
use Rattle.soundness_frame.proofs.PassFrame as frame
use Rattle.soundness_frame.proofs.PassFrameActs.{AllTake}
use Rattle.soundness_frame.proofs.PassFrameBodies.{any_place}
use Rattle.soundness_frame.proofs.PassFrameHeads as pass_frame_heads
use Rattle.soundness_frame.proofs.PassFrameOperands as pass_frame_operands
use Rattle.soundness_frame.proofs.PassFrameForms as by_form
use Rattle.soundness_frame.proofs.PassFrameHeads.{Calls, a_call, a_method, a_virtual, a_closure}
use Rattle.soundness_values.proofs.PassHeads as heads
use Rattle.soundness_frame.proofs.PassWithin as within
use Rattle.soundness_frame.proofs.PassWithin.{AroundSo, passing}
use Rattle.lower_ready.proofs.NamedFrames as frames
use Rattle.lower_ready.proofs.NamedKept.{AllApart, made_safe}
use Rattle.lower_ready.proofs.NamedLines.{look, quiet_step, made_since, is_plain, place_same, place_sound, apart, unused}
use Rattle.lower_ready.proofs.NamedWatch as watch
use Rattle.lower_ready.proofs.NamedWatch.{Since, Unmade, Kept, Taken, Lost}
use Rattle.lower_ready.proofs.Noting.{Note, operand_notes, before, looked}

-- the arguments of a call, and what is done with them
abbrev pub called_with : Form → Option (Nodes × (EffectSite → List Operand → Action))
called_with (tree.Call body args) = Some (args, λ site. effects.Call site body)
called_with (tree.MethodCall body receiver args) = Some (a_node receiver args, λ site. effects.Call site body)
called_with (tree.VirtualCall trait_no method receiver args) =
    Some (a_node receiver args, λ site. effects.CallVirtual site trait_no method)
called_with (tree.ClosureCall body callee args) = Some (a_node callee args, λ site. effects.Call site body)
called_with form = None

called_so : (form : Form) (ns : Nodes) (action : EffectSite → List Operand → Action) → Calls form ns action →
    called_with form ≡ Some (ns, action)
called_so _ _ _ (a_call body args) = refl
called_so _ _ _ (a_method body receiver args) = refl
called_so _ _ _ (a_virtual trait_no method receiver args) = refl
called_so _ _ _ (a_closure body callee args) = refl

module _ (items : ItemTable) (body_tree : BodyTree) (body : Body) (local : ℕ) (named : Place) where
  abbrev lo : ℕ → ℕ
  lo = frames.lo items body_tree body local named

  abbrev V : Type 0
  V = frames.V items body_tree body local named

  abbrev q : Effects V
  q = frames.q items body_tree body local named

  abbrev NotBad : V → Type 0
  NotBad = frames.NotBad items body_tree body local named

  abbrev Armed : V → Type 0
  Armed = frames.Armed items body_tree body local named

  abbrev Away : V → Type 0
  Away = frames.Away items body_tree body local named

  abbrev over : Halt → V → Type 0
  over = frames.over items body_tree body local named

  abbrev MayTake : Place → Type 0
  MayTake = frames.MayTake items body_tree body local named

  abbrev pub MayCoerce : Place → Type 0
  MayCoerce = frames.Coerced items body_tree body local named

  abbrev pub nothing_said : Aliases → within.Outer → ℕ → Form → Type 0
  nothing_said = frames.nothing_said items body_tree body local named

  -- ---- what is asked of a call

  -- something may be taken at a place: it is apart from another one, or of the reference itself
  abbrev pub ApartFrom : Place → Place → Type 0
  ApartFrom from place = apart body local from (place_at lo place) ≡ true

  -- no argument is made in the local of the reference
  abbrev pub Unpassed : Nodes → Type 0
  Unpassed no_node = Unit {0}
  Unpassed (a_node first rest) = ((lo (number_of first) == local) ≡ false) × Unpassed rest

  -- a borrow of a place into the local
  abbrev pub IsMade : Place → Aliases → Node → Type 0
  IsMade from aliases (node id at ty by (tree.Borrow unique base)) =
      ((lo id == local) ≡ true) × (place_at lo ((shape items base).place aliases) ≡ from)
  IsMade from aliases other = ⊥

  -- one argument makes the reference; those before stand in cells apart from what is borrowed, and those behind take
  -- nothing of it
  abbrev pub PassedFrom : Place → Aliases → within.Outer → Nodes → Type 0
  PassedFrom from aliases loops no_node = ⊥
  PassedFrom from aliases loops (a_node first rest) =
      (ApartFrom from (whole_local (number_of first)) × PassedFrom from aliases loops rest)
      ⊎ (IsMade from aliases first × within.AllWithin items (ApartFrom from) nothing_said aliases loops rest)

  abbrev pub Passed : Aliases → within.Outer → Nodes → Type 0
  Passed aliases loops args = (from : Place) × PassedFrom from aliases loops args

  abbrev pub CallSays : Aliases → within.Outer → Option (Nodes × (EffectSite → List Operand → Action)) → Type 0
  CallSays aliases loops None = Unit {0}
  CallSays aliases loops (Some c) = Unpassed c.0 ⊎ Passed aliases loops c.0

  -- of each call
  abbrev pub Says : Aliases → within.Outer → ℕ → Form → Type 0
  Says aliases loops id form = CallSays aliases (passing id loops) (called_with form)

  -- ---- runs

  abbrev Fine : Run V → Type 0
  Fine (At exit S v) = NotBad v
  Fine (Over halt v) = NotBad v

  on_fine : (r : Run V) (next : Does V) → Fine r → ((S : Scopes) (v : V) → NotBad v → Fine (next S v)) →
      Fine (on_value r next)
  on_fine (At Value S v) next f n = n S v f
  on_fine (At (Breaks loop) S v) next f n = f
  on_fine (At (Continues loop) S v) next f n = f
  on_fine (At Returns S v) next f n = f
  on_fine (At Panics S v) next f n = f
  on_fine (Over halt v) next f n = f

  scopes_fine : (S : Scopes) (o : Out V) → ShownOut over NotBad NotBad o → Fine (in_scopes S o)
  scopes_fine S (Go v) k = k
  scopes_fine S (Unwind v) k = k
  scopes_fine S (Halts halt v) k = k

  -- what holds behind the borrow
  module _ (Held : V → Type 0) where
    abbrev HeldAt : Run V → Type 0
    HeldAt (At Value S v) = Held v
    HeldAt (At (Breaks loop) S v) = NotBad v
    HeldAt (At (Continues loop) S v) = NotBad v
    HeldAt (At Returns S v) = NotBad v
    HeldAt (At Panics S v) = NotBad v
    HeldAt (Over halt v) = NotBad v

    on_first : (r : Run V) (next : Does V) → Fine r → ((S : Scopes) (v : V) → NotBad v → HeldAt (next S v)) →
        HeldAt (on_value r next)
    on_first (At Value S v) next f n = n S v f
    on_first (At (Breaks loop) S v) next f n = f
    on_first (At (Continues loop) S v) next f n = f
    on_first (At Returns S v) next f n = f
    on_first (At Panics S v) next f n = f
    on_first (Over halt v) next f n = f

    on_held : (r : Run V) (next : Does V) → HeldAt r → ((S : Scopes) (v : V) → Held v → HeldAt (next S v)) →
        HeldAt (on_value r next)
    on_held (At Value S v) next f n = n S v f
    on_held (At (Breaks loop) S v) next f n = f
    on_held (At (Continues loop) S v) next f n = f
    on_held (At Returns S v) next f n = f
    on_held (At Panics S v) next f n = f
    on_held (Over halt v) next f n = f

    held_fine : (r : Run V) (next : Does V) → HeldAt r → ((S : Scopes) (v : V) → Held v → Fine (next S v)) →
        Fine (on_value r next)
    held_fine (At Value S v) next f n = n S v f
    held_fine (At (Breaks loop) S v) next f n = f
    held_fine (At (Continues loop) S v) next f n = f
    held_fine (At Returns S v) next f n = f
    held_fine (At Panics S v) next f n = f
    held_fine (Over halt v) next f n = f

  armed_out : (o : Out V) → ShownOut over Armed Armed o → ShownOut over NotBad NotBad o
  armed_out (Go v) k = k.0
  armed_out (Unwind v) k = k.0
  armed_out (Halts halt v) k = k

  away_out : (o : Out V) → ShownOut over Away Away o → ShownOut over NotBad NotBad o
  away_out (Go v) k = k.0
  away_out (Unwind v) k = k.0
  away_out (Halts halt v) k = k

  -- an action whose answer goes to a destination
  module _ (Held : V → Type 0) (h : NodeHead) (action : EffectSite → Action)
      (acts : (key : ℕ) (v : V) → Held v → ShownOut over NotBad NotBad (q.act (action (site_in h.id key)) v)) where
    delivered_fine : (to : Destination) (S : Scopes) (v : V) → Held v → Fine (forms.deliver items q h action to S v)
    delivered_fine (Into key) S v i = scopes_fine S (q.act (action (site_in h.id key)) v) (acts key v i)
    delivered_fine (Coerced key trait_no to) S v i =
        on_fine (in_scopes S (q.act (action (site_in h.id key)) v))
        (forms.acts items q (effects.Unsize (site_in h.id to) trait_no (moved h.id key)))
        (scopes_fine S (q.act (action (site_in h.id key)) v) (acts key v i))
        (λ T w j. scopes_fine T (q.act (effects.Unsize (site_in h.id to) trait_no (moved h.id key)) w)
        (frames.acts_clean items body_tree body local named (effects.Unsize (site_in h.id to) trait_no
        (moved h.id key))
        (λ c. false≢true c) w j))

  -- ---- the borrow

  module _ (id : ℕ) (same : (lo id == local) ≡ true) where
    abbrev after : Place → V → V
    after place w = looked items (frames.tys items body_tree body local named) (look body local named)
        ((Borrows, place) ∷ (Stores, whole_local (lo id)) ∷ []) w

    abbrev right : Place → Bool
    right place = place_same place named || (false || false)

    made_is : watch.is_made body local (Stores, whole_local (lo id)) ≡ true
    made_is = ap (λ (b : Bool). b && true && true) same

    made_so : (place : Place) (w : V) →
        (after place w).seen.since ≡ made_since body local named (right place) w.seen.since
    made_so place w = ap (λ (b : Bool). (quiet_step body local named (right place) b
        (is_plain body local named (Stores, whole_local (lo id))) w.seen).since) made_is

    after_kept : (place : Place) (w : V) → NotBad (after place w) → Armed (after place w)
    after_kept place w f = (
      f,
      subst (λ (since : Since). Rattle.lower_ready.proofs.NamedKept.is_safe body local named since ≡ true)
          (sym (made_so place w)) (made_safe body local named (right place) w.seen.since),
    )

    after_lost : (place : Place) → place_same place named ≡ false → (w : V) → NotBad (after place w) →
        Away (after place w)
    after_lost place e w f = (
      f,
      made_so place w ∙ ap (λ (b : Bool). made_since body local named (b || (false || false)) w.seen.since) e
          ∙ lost w.seen.since,
    )
      where
        lost : (since : Since) → made_since body local named false since ≡ Lost
        lost Unmade = refl
        lost Kept = refl
        lost Taken = refl
        lost Lost = refl

    module _ (Held : V → Type 0) (base : EffectSite)
        (made : (w : V) → NotBad (after (place_at lo base.place) w) → Held (after (place_at lo base.place) w)) where
      borrowed : (S : Scopes) (w : V) (at_node : ℕ) (unique : Bool) →
          Fine (in_scopes S (q.act (effects.Borrow (site_in at_node id) unique base) w)) →
          HeldAt Held (in_scopes S (q.act (effects.Borrow (site_in at_node id) unique base) w))
      borrowed S w at_node unique f = by (stores_where (never_at items
          (frames.tys items body_tree body local named))
          (action_at lo (effects.Borrow (site_in at_node id) unique base))) f
        where
          by : (b : Bool) → Fine (in_scopes S (halting_if b Unreachable (Go (after (place_at lo base.place) w)))) →
              HeldAt Held (in_scopes S (halting_if b Unreachable (Go (after (place_at lo base.place) w))))
          by true f = f
          by false f = made w f

      reached_held : (r : Run V) (at_node : ℕ) (unique : Bool) →
          Fine (on_value r (forms.acts items q (effects.Borrow (site_in at_node id) unique base))) →
          HeldAt Held (on_value r (forms.acts items q (effects.Borrow (site_in at_node id) unique base)))
      reached_held (At Value S w) at_node unique f = borrowed S w at_node unique f
      reached_held (At (Breaks loop) S w) at_node unique f = f
      reached_held (At (Continues loop) S w) at_node unique f = f
      reached_held (At Returns S w) at_node unique f = f
      reached_held (At Panics S w) at_node unique f = f
      reached_held (Over halt w) at_node unique f = f

  module _ (fuel : ℕ) where
    abbrev M : Node → Meaning V
    M = evaluation.meaning items q fuel

    abbrev Ms : Nodes → List (Meaning V)
    Ms = evaluation.meanings items q fuel

    abbrev Outer : Does V → Type 0
    Outer = frame.Keeps items q over (frames.NoCall items body_tree body local named)
        (frames.any_site items body_tree body local named) any_place MayCoerce any_place
        NotBad (frames.outer items body_tree body local named)

    abbrev OuterAt : ℕ → Run V → Type 0
    OuterAt = frame.KeptAt items q over (frames.NoCall items body_tree body local named)
        (frames.any_site items body_tree body local named) any_place MayCoerce any_place
        NotBad (frames.outer items body_tree body local named)

    abbrev Evaluated : LoopsAndGuards → Meaning V → Type 0
    Evaluated = frame.Evaluated items q over (frames.NoCall items body_tree body local named)
        (frames.any_site items body_tree body local named) any_place MayCoerce any_place
        NotBad (frames.outer items body_tree body local named)

    abbrev AllEvaluated : LoopsAndGuards → List (Meaning V) → Type 0
    AllEvaluated = frame.AllEvaluated items q over (frames.NoCall items body_tree body local named)
        (frames.any_site items body_tree body local named) any_place MayCoerce any_place
        NotBad (frames.outer items body_tree body local named)

    abbrev Looked : Scopes → ℕ → Type 0
    Looked = frame.Fine items q over (frames.NoCall items body_tree body local named)
        (frames.any_site items body_tree body local named) any_place MayCoerce any_place
        NotBad (frames.outer items body_tree body local named)

    -- scopes are as they may
    all_looked : (S : Scopes) (k : ℕ) → Looked S k
    all_looked [] k = tt
    all_looked (s ∷ S) zero = tt
    all_looked (s ∷ S) (suc k) = ((all_of s.entries, all_of s.pending), all_looked S k)
      where
        all_of : (es : List Entry) → AllOf (λ e. any_place (whole_local e.key)) es
        all_of [] = tt
        all_of (e ∷ es) = (tt, all_of es)

    to_fine : (k : ℕ) (r : Run V) → OuterAt k r → Fine r
    to_fine k (At exit S v) h = h.1
    to_fine k (Over halt v) h = h

    of_fine : (k : ℕ) (r : Run V) → Fine r → OuterAt k r
    of_fine k (At exit S v) h = (all_looked S k, h)
    of_fine k (Over halt v) h = h

    outer_fine : (does : Does V) → Outer does → (S : Scopes) (v : V) → NotBad v → Fine (does S v)
    outer_fine does d S v i = to_fine 0 (does S v) (d.kept 0 S v (all_looked S 0) i)

    fine_outer : (does : Does V) → ((S : Scopes) (v : V) → NotBad v → Fine (does S v)) → Outer does
    fine_outer does f = record { kept = λ k S v fine i. of_fine k (does S v) (f S v i) }

    -- ---- the arguments behind the borrow

    inner_held : (r : Run V) → frame.KeptAt items q over (frames.any_action items body_tree body local named)
        (frames.any_site items body_tree body local named) any_place MayCoerce MayTake
        Armed (frames.inner items body_tree body local named) 0 r → HeldAt Armed r
    inner_held (At Value S v) h = h.1
    inner_held (At (Breaks loop) S v) h = h.1.0
    inner_held (At (Continues loop) S v) h = h.1.0
    inner_held (At Returns S v) h = h.1.0
    inner_held (At Panics S v) h = h.1.0
    inner_held (Over halt v) h = h

    inner_none : (S : Scopes) → frame.Fine items q over (frames.any_action items body_tree body local named)
        (frames.any_site items body_tree body local named) any_place MayCoerce MayTake
        Armed (frames.inner items body_tree body local named) S 0
    inner_none [] = tt
    inner_none (s ∷ S) = tt

    later_kept : (rest : Nodes) (around : LoopsAndGuards) (loops : within.Outer) → AroundSo any_place MayCoerce around
        loops →
        within.AllWithin items MayTake nothing_said around.aliases loops rest → (S : Scopes) (v : V) → Armed v →
        HeldAt Armed (forms.operands items q around (Ms rest) S v)
    later_kept rest around loops a w S v i = inner_held (forms.operands items q around (Ms rest) S v)
        ((frame.operands_kept items q over (frames.any_action items body_tree body local named)
        (frames.any_site items body_tree body local named) any_place MayCoerce MayTake
        Armed (frames.inner items body_tree body local named) around (Ms rest)
        (by_form.operands items q over (frames.any_action items body_tree body local named)
        (frames.any_site items body_tree body local named) any_place MayCoerce MayTake
        Armed (frames.inner items body_tree body local named) nothing_said fuel
        (frames.inner_told items body_tree body local named)
        (pass_frame_operands.by_telling items q over (frames.any_action items body_tree body local named)
        (frames.any_site items body_tree body local named) any_place MayCoerce MayTake
        Armed (frames.inner items body_tree body local named) nothing_said fuel
        (frames.inner_calls items body_tree body local named)) rest around loops a
        w)).kept 0 S v (inner_none S) i)

    away_held : (r : Run V) → frame.KeptAt items q over (frames.any_action items body_tree body local named)
        (frames.any_site items body_tree body local named) any_place MayCoerce any_place
        Away (frames.away items body_tree body local named) 0 r → HeldAt Away r
    away_held (At Value S v) h = h.1
    away_held (At (Breaks loop) S v) h = h.1.0
    away_held (At (Continues loop) S v) h = h.1.0
    away_held (At Returns S v) h = h.1.0
    away_held (At Panics S v) h = h.1.0
    away_held (Over halt v) h = h

    away_none : (S : Scopes) → frame.Fine items q over (frames.any_action items body_tree body local named)
        (frames.any_site items body_tree body local named) any_place MayCoerce any_place
        Away (frames.away items body_tree body local named) S 0
    away_none [] = tt
    away_none (s ∷ S) = tt

    away_told : pass_frame_heads.Telling items (frames.any_action items body_tree body local named)
        (frames.any_site items body_tree body local named) Says
    away_told = record {
      borrows = λ aliases loops id unique base s. tt;
      assigns = λ aliases loops id place value s. tt;
    }

    away_calls : pass_frame_heads.TellingCalls (frames.any_action items body_tree body local named) Says
    away_calls = record {
      calls = λ aliases loops id key callee args s. tt;
      methods = λ aliases loops id key callee receiver args s. tt;
      virtuals = λ aliases loops id key trait_no method receiver args s. tt;
      closures = λ aliases loops id key callee value args s. tt;
    }

    later_away : (rest : Nodes) (around : LoopsAndGuards) (loops : within.Outer) → AroundSo any_place MayCoerce around loops →
        within.AllWithin items any_place Says around.aliases loops rest → (S : Scopes) (v : V) → Away v →
        HeldAt Away (forms.operands items q around (Ms rest) S v)
    later_away rest around loops a w S v i = away_held (forms.operands items q around (Ms rest) S v)
        ((frame.operands_kept items q over (frames.any_action items body_tree body local named)
        (frames.any_site items body_tree body local named) any_place MayCoerce any_place
        Away (frames.away items body_tree body local named) around (Ms rest)
        (by_form.operands items q over (frames.any_action items body_tree body local named)
        (frames.any_site items body_tree body local named) any_place MayCoerce any_place
        Away (frames.away items body_tree body local named) Says fuel away_told
        (pass_frame_operands.by_telling items q over (frames.any_action items body_tree body local named)
        (frames.any_site items body_tree body local named) any_place MayCoerce any_place
        Away (frames.away items body_tree body local named) Says fuel away_calls) rest around loops a
        w)).kept 0 S v (away_none S) i)

    -- ---- the arguments of a call that passes the reference

    module _ (Held : V → Type 0) (from : Place) (around : LoopsAndGuards) (loops : within.Outer)
        (made : (id : ℕ) (same : (lo id == local) ≡ true) (w : V) → NotBad (after id same from w) →
        Held (after id same from w))
        (later : (rest : Nodes) → within.AllWithin items any_place Says around.aliases loops rest →
        within.AllWithin items (ApartFrom from) nothing_said around.aliases loops rest → (S : Scopes) (v : V) → Held v →
        HeldAt Held (forms.operands items q around (Ms rest) S v)) where
      borrowing_held : (id : ℕ) (same : (lo id == local) ≡ true) (c : Bool) (ty : TyId) (by : Option Use)
          (unique : Bool)
          (base : Node) → place_at lo ((shape items base).place around.aliases) ≡ from → (S : Scopes) (v : V) →
          Fine (forms.borrowing items q (head id ty by) unique (M base) around false (to_own_key c id (Into id)) S v) →
          HeldAt Held (forms.borrowing items q (head id ty by) unique (M base) around false (to_own_key c id
          (Into id)) S v)
      borrowing_held id same c ty by unique base e S v f = own c f
        where
          place_is : place_at lo (forms.place_of (M base) around) ≡ from
          place_is = ap (λ (s : Shape). place_at lo (s.place around.aliases)) (heads.shape_is items q fuel base) ∙ e

          made_here : (w : V) → NotBad (after id same (place_at lo (forms.place_of (M base) around)) w) →
              Held (after id same (place_at lo (forms.place_of (M base) around)) w)
          made_here w = subst (λ (p : Place). NotBad (after id same p w) → Held (after id same p w)) (sym place_is)
              (made id same w)

          own : (c : Bool) →
              Fine (forms.borrowing items q (head id ty by) unique (M base) around false (to_own_key c id
              (Into id)) S v) →
              HeldAt Held (forms.borrowing items q (head id ty by) unique (M base) around false
              (to_own_key c id (Into id)) S v)
          own true f = reached_held id same Held (site_of (M base) around) made_here ((M base).reach around S v)
              (M base).head.id unique f
          own false f = reached_held id same Held (site_of (M base) around) made_here ((M base).reach around S v)
              (M base).head.id unique f

      operand_held : (first : Node) → IsMade from around.aliases first → Evaluated around (M first) → (S : Scopes)
          (v : V) → NotBad v → HeldAt Held (forms.operand items q around (M first) S v)
      operand_held (node id at ty by (tree.Borrow unique base)) x e S v i =
          on_held Held (m.evaluate around false (Into id) (begun S) v) (forms.complete items q innermost m.head)
          (borrowing_held id x.0 (is_never items ty) ty by unique base x.1 (begun S) v
          (outer_fine (m.evaluate around false (Into id)) e.0 (begun S) v i)) (λ T w j. j)
        where
          m : Meaning V
          m = M (node id at ty by (tree.Borrow unique base))

          begun : Scopes → Scopes
          begun = forms.changed_if m.shape.in_destination (innermost (with_pending (forms.entry_of m.head)))
      operand_held (node id at ty by form) x e S v i = absurd x

      passes_held : (args : Nodes) → within.AllWithin items any_place Says around.aliases loops args →
          PassedFrom from around.aliases loops args → AllEvaluated around (Ms args) → (S : Scopes) (v : V) → NotBad v →
          HeldAt Held (forms.operands items q around (Ms args) S v)
      passes_held no_node w x e S v i = absurd x
      passes_held (a_node first rest) w (inl x) e S v i =
          on_first Held (forms.operand items q around (M first) S v) (forms.operands items q around (Ms rest))
          (outer_fine (forms.operand items q around (M first)) (frame.operand_kept items q over
          (frames.NoCall items body_tree body local named)
          (frames.any_site items body_tree body local named) any_place MayCoerce any_place
          NotBad (frames.outer items body_tree body local named) around (M first) e.0) S v i)
          (λ T u j. passes_held rest w.1 x.1 e.1 T u j)
      passes_held (a_node first rest) w (inr x) e S v i =
          on_held Held (forms.operand items q around (M first) S v) (forms.operands items q around (Ms rest))
          (operand_held first x.0 e.0 S v i) (λ T u j. later rest w.1 x.1 T u j)

    -- ---- what the call moves

    abbrev AllMay : Place → Nodes → Type 0
    AllMay from no_node = Unit {0}
    AllMay from (a_node first rest) = ApartFrom from (whole_local (number_of first)) × AllMay from rest

    own_cell : (from : Place) (first : Node) (aliases : Aliases) → IsMade from aliases first →
        ApartFrom from (whole_local (number_of first))
    own_cell from (node id at ty by (tree.Borrow unique base)) aliases x =
        ap (λ (b : Bool). b || not (Rattle.cfg_graph.specs.NamedPlaces.overlaps from (whole_local (lo id)))) x.0
    own_cell from (node id at ty by form) aliases x = absurd x

    within_cells : (from : Place) (args : Nodes) (aliases : Aliases) (loops : within.Outer) →
        within.AllWithin items (ApartFrom from) nothing_said aliases loops args → AllMay from args
    within_cells from no_node aliases loops w = tt
    within_cells from (a_node (node id at ty by form) rest) aliases loops w =
        (w.0.0, within_cells from rest aliases loops w.1)

    passed_cells : (from : Place) (args : Nodes) (aliases : Aliases) (loops : within.Outer) →
        PassedFrom from aliases loops args → AllMay from args
    passed_cells from no_node aliases loops x = absurd x
    passed_cells from (a_node first rest) aliases loops (inl x) = (x.0, passed_cells from rest aliases loops x.1)
    passed_cells from (a_node first rest) aliases loops (inr x) =
        (own_cell from first aliases x.0, within_cells from rest aliases loops x.1)

    all_taken : (at_node : ℕ) (args : Nodes) → AllMay named args → AllTake MayTake (all_moved at_node (Ms args))
    all_taken at_node no_node m = tt
    all_taken at_node (a_node first rest) m = (
      subst (λ (k : ℕ). MayTake (whole_local k)) (sym (heads.number_is items q fuel first)) m.0,
      all_taken at_node rest m.1,
    )

    abbrev moves_of : ℕ → Nodes → List Note
    moves_of at_node args = flat_map operand_notes (map (operand_at lo) (all_moved at_node (Ms args))) ++ []

    unpassed_unused : (at_node : ℕ) (args : Nodes) → Unpassed args →
        unused body local named (moves_of at_node args) ≡ true
    unpassed_unused at_node no_node u = refl
    unpassed_unused at_node (a_node first rest) u =
        ap (λ (b : Bool). not (b && true) && unused body local named (moves_of at_node rest))
        (subst (λ (k : ℕ). (lo k == local) ≡ false) (sym (heads.number_is items q fuel first)) u.0)
        ∙ unpassed_unused at_node rest u.1

    -- ---- the call

    abbrev DoesWith : Type 0
    DoesWith = EffectSite → List Operand → Action

    abbrev MovesAll : Nodes × DoesWith → Type 0
    MovesAll c = (site : EffectSite) (operands : List Operand) →
        before (action_at lo (c.1 site operands)) ≡ flat_map operand_notes (map (operand_at lo) operands) ++ []

    moves_all : (form : Form) (ns : Nodes) (action : DoesWith) → Calls form ns action → MovesAll (ns, action)
    moves_all _ _ _ (a_call callee args) site operands = refl
    moves_all _ _ _ (a_method callee receiver args) site operands = refl
    moves_all _ _ _ (a_virtual trait_no method receiver args) site operands = refl
    moves_all _ _ _ (a_closure callee value args) site operands = refl

    says_call : (aliases : Aliases) (loops : within.Outer) (id : ℕ) (form : Form) (c : Nodes × DoesWith) →
        called_with form ≡ Some c → Says aliases loops id form → CallSays aliases (passing id loops) (Some c)
    says_call aliases loops id form c e s = subst (CallSays aliases (passing id loops)) e s

    module _ (c : Nodes × DoesWith) (moves : MovesAll c) (id : ℕ) (ty : TyId) (by : Option Use)
        (around : LoopsAndGuards)
        (loops : within.Outer) (a : AroundSo any_place MayCoerce around loops)
        (w : within.AllWithin items any_place Says around.aliases loops c.0) (ev : AllEvaluated around (Ms c.0)) where
      abbrev h : NodeHead
      h = head id ty by

      abbrev action : EffectSite → Action
      action site = c.1 site (all_moved id (Ms c.0))

      abbrev then_call : Destination → Does V
      then_call to = forms.take items q (keys_of (Ms c.0)) >> forms.deliver items q h action to

      abbrev does : Destination → Does V
      does to = forms.operands items q around (Ms c.0) >> then_call to

      fine_unpassed : Unpassed c.0 → (key : ℕ) (v : V) → NotBad v →
          ShownOut over NotBad NotBad (q.act (action (site_in id key)) v)
      fine_unpassed u key v j = frames.acts_unused items body_tree body local named (action (site_in id key))
          (ap (unused body local named) (moves (site_in id key) (all_moved id (Ms c.0))) ∙ unpassed_unused id c.0 u) v j

      fine_kept : PassedFrom named around.aliases loops c.0 → (key : ℕ) (v : V) → Armed v →
          ShownOut over NotBad NotBad (q.act (action (site_in id key)) v)
      fine_kept x key v j = armed_out (q.act (action (site_in id key)) v)
          (frames.acts_armed items body_tree body local named (action (site_in id key))
          (subst (AllApart body local named) (sym (moves (site_in id key) (all_moved id (Ms c.0))))
          (frames.operands_spared items body_tree body local named (all_moved id (Ms c.0))
          (all_taken id c.0 (passed_cells named c.0 around.aliases loops x)))) v j)

      fine_away : (key : ℕ) (v : V) → Away v → ShownOut over NotBad NotBad (q.act (action (site_in id key)) v)
      fine_away key v j = away_out (q.act (action (site_in id key)) v)
          (frames.acts_away items body_tree body local named (action (site_in id key)) v j)

      fine_from : (to : Destination) (from : Place) → PassedFrom from around.aliases loops c.0 →
          (b : Bool) → place_same from named ≡ b → (S : Scopes) (v : V) → NotBad v →
          Fine (does to S v)
      fine_from to from x true e S v i =
          let s = place_sound from named e in
          let y = subst (λ (p : Place). PassedFrom p around.aliases loops c.0) s x in
          held_fine Armed (forms.operands items q around (Ms c.0) S v) (then_call to)
          (passes_held Armed named around loops (λ id same u f. after_kept id same named u f)
          (λ rest w k T u j. later_kept rest around loops a k T u j) c.0 w y ev S v i)
          (λ T u j. delivered_fine Armed h action (fine_kept y) to _ u j)
      fine_from to from x false e S v i =
          held_fine Away (forms.operands items q around (Ms c.0) S v) (then_call to)
          (passes_held Away from around loops (λ id same u f. after_lost id same from e u f)
          (λ rest w k T u j. later_away rest around loops a w T u j) c.0 w x ev S v i)
          (λ T u j. delivered_fine Away h action fine_away to _ u j)

      does_fine : (to : Destination) → CallSays around.aliases loops (Some c) → (S : Scopes) (v : V) → NotBad v →
          Fine (does to S v)
      does_fine to (inl u) S v i =
          on_fine (forms.operands items q around (Ms c.0) S v) (then_call to)
          (outer_fine (forms.operands items q around (Ms c.0)) (frame.operands_kept items q over
          (frames.NoCall items body_tree body local named)
          (frames.any_site items body_tree body local named) any_place MayCoerce any_place
          NotBad (frames.outer items body_tree body local named) around (Ms c.0) ev) S v i)
          (λ T w j. delivered_fine NotBad h action (fine_unpassed u) to _ w j)
      does_fine to (inr x) S v i = fine_from to x.0 x.1 (place_same x.0 named) refl S v i

      call_outer : (s : Shape) (own : Bool) (to : Destination) → CallSays around.aliases loops (Some c) →
          Outer ((evaluation.on_all items q fuel h s (Ms c.0) c.1).evaluate around own to)
      call_outer s own to says =
          frame.in_scope_kept items q over (frames.NoCall items body_tree body local named)
          (frames.any_site items body_tree body local named) any_place MayCoerce any_place
          NotBad (frames.outer items body_tree body local named) id own (does (to_own_key
          (is_never items ty) id to))
          (fine_outer (does (to_own_key (is_never items ty) id to))
          (does_fine (to_own_key (is_never items ty) id to) says))

    pub outer_told : pass_frame_heads.Telling items (frames.NoCall items body_tree body local named)
        (frames.any_site items body_tree body local named) Says
    outer_told = record {
      borrows = λ aliases loops id unique base s c. false≢true c;
      assigns = λ aliases loops id place value s. tt;
    }

    pub calling : pass_frame_operands.AtCalls items q over (frames.NoCall items body_tree body local named)
        (frames.any_site items body_tree body local named) any_place MayCoerce any_place
        NotBad (frames.outer items body_tree body local named) Says fuel
    calling = record {
      called_kept = λ form ns action c id ty by s around loops a w says ev cell own to d.
          call_outer (ns, action) (moves_all form ns action c) id ty by around (passing id loops) a w ev s own to
          (says_call around.aliases loops id form (ns, action) (called_so form ns action c) says);
    }
