-- The rules of branches, patterns, arms, statements, jumps and loops, for nodes that are well typed.
use Rattle.std.proofs.Common.{◌≡◌, inl, inr, ℕ, ◌==◌, ◌&&◌, ◌||◌, Bool, true, false, List, [], ◌∷◌, ◌++◌, length, Some, if◌then◌else◌, cond, refl, sym, ap, subst, ◌∙◌}
use Rattle.cfg_graph.specs.declared.graph.Kind.{Kind}
use Rattle.cfg_graph.specs.declared.terminator.Term.{Term}
use Rattle.mir_base.specs.declared.trace.Why.{Why}
use Rattle.mir_ty.specs.declared.ty.TyId.{TyId}
use Rattle.mir_ty.specs.Facts.{needs_drop}
use Rattle.store_model.specs.Effects as effects
use Rattle.store_model.specs.Effects.{EffectSite, Action}
use Rattle.store_model.specs.Places.Place.{Place}
use Rattle.typed_tree.specs.Nodes.{nodes_of}
use Rattle.typed_tree.specs.Tree as tree
use Rattle.src_meaning.specs.Forms.{Destination, Into, LoopsAndGuards, in_guard, entry_of, bound_entry, site_of_key, moved}
use Rattle.src_meaning.specs.Locals.OfBody.{cells, reached_cells}
use Rattle.src_meaning.specs.Scopes.{Exit, Value, Breaks, Continues, Returns, Panics, Entry, Scopes, with_scope, innermost, with_entry, with_pending, without_pending}
use Rattle.src_meaning.specs.Shape.{NodeHead, BoundName, PatternTests}
use Rattle.well_typed.specs.Places.{LoopAround, Context, loop_with, ty_of}
use Rattle.lower_rules.specs.Spots.{Ways}
use Rattle.lower_rules.specs.Build as build
use Rattle.lower_rules.specs.Build.{LoweringFrame, BlockRest, Building, Lowers, closed, ending, joined, jumps_if, act, breaks_from, is_left_by, names, outside, change, from_changed, back_in, then_lower, branches, looped, leave, if_true, tests}
use Rattle.lower_rules.specs.Lower as lower
use Rattle.lower_rules.specs.Lower.{LowersArm, NodeLower, LowerIfAny, no_lower, a_lower}
use Rattle.lower_rules.proofs.Lines as lines
use Rattle.lower_rules.proofs.TypedLines as typed_lines
use Rattle.lower_laws.proofs.Base as base
use Rattle.lower_laws.proofs.Base.{Ground, untrue, and_first, and_second}
use Rattle.lower_laws.proofs.Rules as rules

module _ (g : Ground) where
  abbrev F : LoweringFrame
  F = base.F g

  abbrev Sound : Lowers → Type 0
  Sound = base.Sound g

  abbrev Leaves : List LoopAround → Lowers → Type 0
  Leaves = base.Leaves g

  abbrev Good : Context → tree.Node → NodeLower → Type 0
  Good = rules.Good g

  abbrev Cells : List Entry → Type 0
  Cells = base.CellsOk g

  abbrev TestsOk : PatternTests → Type 0
  TestsOk = lines.TestsOk F (base.wanted g)

  -- ---- scrutinees
  pub scrutinised_sound : (x : Context) (n : tree.Node) (m : NodeLower) → Good x n m → Cells (reached_cells g.items n) → (a : LoopsAndGuards) → base.Fine g x a (nodes_of n) → Sound (lower.scrutinised F a m)
  scrutinised_sound x n m k c a f = base.and_then g _ _ (k.reaches c a f) (λ e. touched m.shape.is_place (k.place c a f e))
    where
      touched : (b : Bool) → base.Typed g (lower.place_in m a) m.head.ty → Sound (lower.touched F b (lower.site_of m a))
      touched true t = base.acts g m.head.id (effects.Touch (lower.site_of m a)) (typed_lines.touched g.items g.bodies (base.B g) _ m.head.ty t.0 t.1, refl)
      touched false t = base.nothing_done g

  pub scrutinised_leaves : (x : Context) (n : tree.Node) (m : NodeLower) → Good x n m → Cells (reached_cells g.items n) → (a : LoopsAndGuards) → Leaves x.loops (lower.scrutinised F a m)
  scrutinised_leaves x n m k c a = base.leaves_then g x.loops _ _ (k.reach_leaves c a) (λ e. touched m.shape.is_place)
    where
      touched : (b : Bool) → Leaves x.loops (lower.touched F b (lower.site_of m a))
      touched true = base.leaves_none g x.loops m.head.id (effects.Touch (lower.site_of m a))
      touched false = record { spares = tt }

  -- the place of a scrutinee, where its code has an end
  pub scrutinee_place : (x : Context) (n : tree.Node) (m : NodeLower) → Good x n m → Cells (reached_cells g.items n) → (a : LoopsAndGuards) → base.Fine g x a (nodes_of n) → (lower.scrutinised F a m).has_end ≡ true → base.Typed g (lower.place_in m a) m.head.ty
  scrutinee_place x n m k c a f e = k.place c a f (and_first (m.reaches a).has_end _ e)

  -- and it may be left gone, where it may be moved out of
  pub scrutinee_goes : (x : Context) (n : tree.Node) (m : NodeLower) → Good x n m → Cells (reached_cells g.items n) → (a : LoopsAndGuards) → base.Fine g x a (nodes_of n) → (lower.scrutinised F a m).has_end ≡ true → rules.MayMove g x n → base.Left g (lower.place_in m a)
  scrutinee_goes x n m k c a f e w = k.lets_go w c a f (and_first (m.reaches a).has_end _ e)

  -- ---- `if let` and `while let`
  pub if_taken_sound : (x : Context) (h : NodeHead) (a : LoopsAndGuards) (p : NodeLower) (n : tree.Node) (m : NodeLower) → Good x n m → Cells (reached_cells g.items n) → base.Fine g x a (nodes_of n) →
      ((place : Place) → base.Typed g place m.head.ty → (rules.MayMove g x n → base.Left g place) → TestsOk (p.shape.tests place) × rules.BoundsOk g (p.shape.bindings place)) → (P Q : Lowers) → Sound P → Sound Q → Sound (lower.if_taken F h a p m P Q)
  if_taken_sound x h a p n m k c f shaped P Q sp sq =
      let place = lower.place_in m a in
      lines.entered_sound F (base.wanted g) h.id true _ (base.and_then g _ _ (scrutinised_sound x n m k c a f)
      (λ e. let s = shaped place (scrutinee_place x n m k c a f e) (λ w. scrutinee_goes x n m k c a f e w) in
      lines.branches_sound F (base.wanted g) h.id (tests F (p.shape.tests place)) _ _ (lines.tests_ok F (base.wanted g) (p.shape.tests place) s.0)
      (base.and_then g _ _ (base.and_then g _ P (rules.bind_sound g innermost (rules.inner g) (p.shape.bindings place) s.1) (λ e. sp)) (λ e. lines.leave_sound F (base.wanted g)))
      (base.and_then g _ Q (lines.leave_sound F (base.wanted g)) (λ e. sq))))

  pub if_taken_leaves : (x : Context) (h : NodeHead) (a : LoopsAndGuards) (p : NodeLower) (n : tree.Node) (m : NodeLower) → Good x n m → Cells (reached_cells g.items n) → (P Q : Lowers) → Leaves x.loops P → Leaves x.loops Q → Leaves x.loops (lower.if_taken F h a p m P Q)
  if_taken_leaves x h a p n m k c P Q lp lq =
      let place = lower.place_in m a in
      rules.leaves_changed g x.loops (with_scope h.id true) _ (base.leaves_then g x.loops _ _ (scrutinised_leaves x n m k c a)
      (λ e. rules.leaves_branches g x.loops h.id (tests F (p.shape.tests place)) _ _
      (base.leaves_then g x.loops _ (leave F) (base.leaves_then g x.loops _ P (rules.bind_leaves g x.loops innermost (p.shape.bindings place)) (λ e. lp)) (λ e. record { spares = tt }))
      (base.leaves_then g x.loops (leave F) Q (record { spares = tt }) (λ e. lq))))

  pub if_taken_ended : (h : NodeHead) (a : LoopsAndGuards) (p m : NodeLower) (P Q : Lowers) → P.has_end ≡ false → Q.has_end ≡ false → (lower.if_taken F h a p m P Q).has_end ≡ false
  if_taken_ended h a p m P Q e d =
      let place = lower.place_in m a in
      let one = then_lower (then_lower (lower.bind F innermost (p.shape.bindings place)) P) (leave F) in
      let another = then_lower (leave F) Q in
      rules.no_end_second g (lower.scrutinised F a m) (branches h.id (tests F (p.shape.tests place)) one another)
      (base.both_false one.has_end another.has_end
      (rules.no_end_first g (then_lower (lower.bind F innermost (p.shape.bindings place)) P) (leave F) (rules.no_end_second g (lower.bind F innermost (p.shape.bindings place)) P e)) d)

  -- ---- arms
  abbrev pub ArmSound : LowersArm → Type 0
  ArmSound arm = (c : Ways) → c.returns.block ≡ 1 → (S : Scopes) (r : ℕ) (k : BlockRest) (s : Building) → lines.ScopesOk F (base.wanted g) S → lines.Ok F (base.wanted g) s → lines.RestOk F (base.wanted g) k → lines.Both F (base.wanted g) (arm.build c S r k s)

  -- a guard that may be there, in its own context
  pub data GuardOk (y : Context) (ns : List tree.Node) : LowerIfAny → Type 0 where
    without : GuardOk y ns no_lower
    with_one : (n : tree.Node) (m : NodeLower) → Good y n m → Cells (cells g.items true n) → rules.IsBool g (ty_of n) → ns ≡ nodes_of n → GuardOk y ns (a_lower m)

  guarded_sound : (y : Context) (a : LoopsAndGuards) (bounds : List BoundName) (ns : List tree.Node) (q : LowerIfAny) → GuardOk y ns q → base.Fine g y (in_guard bounds a) ns → (P : Lowers) → Sound P → ArmSound (lower.guarded F a bounds q P)
  guarded_sound y a bounds ns _ without f P p c w S r k s o h l = p.lines c w S k s o h l
  guarded_sound y a bounds ns _ (with_one n m good cs is same) f P p c w S r k s o h l = by asked.has_end refl
    where
      asked : Lowers
      asked = back_in (m.evaluates (in_guard bounds a) true (Into m.head.id))

      asks : Sound asked
      asks = rules.alone_sound g y n m good true cs (in_guard bounds a) (subst (base.Fine g y (in_guard bounds a)) same f) (Into m.head.id) (λ v. good.cell cs v)

      by : (z : Bool) → asked.has_end ≡ z → lines.Both F (base.wanted g) (lower.guard_from F z asked m.head.id P c S r k s)
      by true e =
          let it = p.lines c w S k s o h l in
          let d = P.build c S k s in
          let made = lines.closed_ok F (base.wanted g) Kind.Plain d.0 d.1 it.0 it.1 in
          let t = if_true F (moved m.head.id m.head.id) m.head.id (length d.1.blocks) r (closed Kind.Plain d.0 d.1) in
          let v = rules.ends_made g y n m good true cs (in_guard bounds a) true (Into m.head.id) e in
          let i = rules.if_ok g m.head.id m.head.ty (good.cell cs v) (rules.bool_if_made g m.head.ty (subst (rules.IsBool g) (sym good.ty_is) is) v) (length d.1.blocks) r (closed Kind.Plain d.0 d.1) made in
          asks.lines c w S t.0 t.1 o i.0 i.1
      by false e = asks.lines c w S k s o h l

  pub arm_sound : (x y : Context) (h : NodeHead) (p : NodeLower) (q : LowerIfAny) (ns : List tree.Node) (n : tree.Node) (m : NodeLower) (matched : Place) (a : LoopsAndGuards) (to : Destination) →
      TestsOk (p.shape.tests matched) → rules.BoundsOk g (p.shape.bindings matched) → GuardOk y ns q → base.Fine g y (in_guard (p.shape.bindings matched) a) ns → Good x n m → Cells (cells g.items false n) → base.Fine g x a (nodes_of n) → base.DestIf g to m.head.ty → ArmSound (lower.arm F h p q m matched a to)
  arm_sound x y h p q ns n m matched a to ts bs guard gf good cs f d c w S r k s o hs l =
      let bounds = p.shape.bindings matched in
      let code = lower.guarded F a bounds q (lower.taken_arm F h a bounds m to) in
      let body = base.scoped g h.id false _ (base.and_then g _ _ (rules.bind_sound g innermost (rules.inner g) bounds bs) (λ e. rules.alone_sound g x n m good false cs a f to d)) in
      let i = guarded_sound y a bounds ns q guard gf _ body c w S r k s o hs l in
      let b = code.build c S r k s in
      lines.tests_ok F (base.wanted g) (p.shape.tests matched) ts (length b.1.blocks) r (closed Kind.Plain b.0 b.1) (lines.closed_ok F (base.wanted g) Kind.Plain b.0 b.1 i.0 i.1)

  guarded_leaves : (y : Context) (a : LoopsAndGuards) (bounds : List BoundName) (ns : List tree.Node) (q : LowerIfAny) → GuardOk y ns q → (P : Lowers) → Leaves y.loops P → base.Spares g y.loops (lower.guarded F a bounds q P).jumps
  guarded_leaves y a bounds ns _ without P p = p.spares
  guarded_leaves y a bounds ns _ (with_one n m good cs is same) P p = by (back_in (m.evaluates (in_guard bounds a) true (Into m.head.id))).has_end
    where
      by : (z : Bool) → base.Spares g y.loops ((m.evaluates (in_guard bounds a) true (Into m.head.id)).jumps ++ jumps_if z P.jumps)
      by true = base.spares_append g y.loops _ P.jumps (good.leaves true cs (in_guard bounds a) true (Into m.head.id)).spares p.spares
      by false = base.spares_append g y.loops _ [] (good.leaves true cs (in_guard bounds a) true (Into m.head.id)).spares tt

  taken_leaves : (x : Context) (h : NodeHead) (a : LoopsAndGuards) (bounds : List BoundName) (n : tree.Node) (m : NodeLower) → Good x n m → Cells (cells g.items false n) → (to : Destination) → Leaves x.loops (lower.taken_arm F h a bounds m to)
  taken_leaves x h a bounds n m good cs to = rules.leaves_scope g x.loops h.id false _ (base.leaves_then g x.loops _ _ (rules.bind_leaves g x.loops innermost bounds) (λ e. rules.leaves_back g x.loops _ (good.leaves false cs a true to)))

  pub arm_leaves : (x y : Context) (h : NodeHead) (p : NodeLower) (q : LowerIfAny) (ns : List tree.Node) (n : tree.Node) (m : NodeLower) (matched : Place) (a : LoopsAndGuards) (to : Destination) → GuardOk y ns q → Good x n m → Cells (cells g.items false n) → x.loops ≡ y.loops →
      base.Spares g y.loops (lower.arm F h p q m matched a to).jumps
  arm_leaves x y h p q ns n m matched a to guard good cs same =
      guarded_leaves y a (p.shape.bindings matched) ns q guard _ (subst (λ (z : List LoopAround). Leaves z (lower.taken_arm F h a (p.shape.bindings matched) m to)) same (taken_leaves x h a (p.shape.bindings matched) n m good cs to))

  pub arm_ended : (h : NodeHead) (p : NodeLower) (q : LowerIfAny) (m : NodeLower) (matched : Place) (a : LoopsAndGuards) (to : Destination) → (m.evaluates a true to).has_end ≡ false → (lower.arm F h p q m matched a to).has_end ≡ false
  arm_ended h p q m matched a to e = by q
    where
      taken : (lower.taken_arm F h a (p.shape.bindings matched) m to).has_end ≡ false
      taken = rules.no_end_scope g h.id false (then_lower (lower.bind F innermost (p.shape.bindings matched)) (lower.alone F a m to)) (rules.no_end_second g (lower.bind F innermost (p.shape.bindings matched)) (lower.alone F a m to) e)

      by : (q : LowerIfAny) → (lower.guarded F a (p.shape.bindings matched) q (lower.taken_arm F h a (p.shape.bindings matched) m to)).has_end ≡ false
      by no_lower = taken
      by (a_lower guard) = ap (λ b. (guard.evaluates (in_guard (p.shape.bindings matched) a) true (Into guard.head.id)).has_end && b) taken ∙ base.and_false _

  -- what an arm is for the `match` around it: where a value of the arm's type may go
  pub record ArmGood (x : Context) (n : tree.Node) (m : NodeLower) (scrutinee : TyId) (may : Bool) : Type 0 where
    pub ended : base.Never g (ty_of n) → (matched : Place) (a : LoopsAndGuards) (to : Destination) → (m.arm matched a to).has_end ≡ false
    pub leaves : (matched : Place) (a : LoopsAndGuards) (to : Destination) → base.Spares g x.loops (m.arm matched a to).jumps
    pub sound : (matched : Place) → base.Typed g matched scrutinee → (may ≡ true → base.Left g matched) → (a : LoopsAndGuards) → base.Fine g x a (nodes_of n) → (to : Destination) → base.DestIf g to (ty_of n) → ArmSound (m.arm matched a to)

  pub data Arms (x : Context) (scrutinee want : TyId) (may : Bool) : List tree.Node → List NodeLower → Type 0 where
    no_arm : Arms x scrutinee want may [] []
    an_arm : (n : tree.Node) (others : List tree.Node) (m : NodeLower) (ms : List NodeLower) → ArmGood x n m scrutinee may → rules.Fits g want (ty_of n) → Arms x scrutinee want may others ms → Arms x scrutinee want may (nodes_of n ++ others) (m ∷ ms)

  pub dest_fits : (to : Destination) (want ty : TyId) → rules.Fits g want ty → base.DestIf g to want → base.DestIf g to ty
  dest_fits to want ty fit d m = elim fit [
    | inl same ↦ subst (base.Dest g to) (sym same) (d (subst (base.Made g) same m))
    | inr never ↦ absurd (base.never_and_made g ty never m)
  ]

  arms_from : (x : Context) (number : ℕ) (scrutinee want : TyId) (may : Bool) (ns : List tree.Node) (ms : List NodeLower) → Arms x scrutinee want may ns ms → (matched : Place) → base.Typed g matched scrutinee → (may ≡ true → base.Left g matched) → (a : LoopsAndGuards) → base.Fine g x a ns → (to : Destination) → base.DestIf g to want → (c : Ways) → c.returns.block ≡ 1 → (S : Scopes) (k : BlockRest) (s : Building) →
      lines.ScopesOk F (base.wanted g) S → lines.Ok F (base.wanted g) s → lines.RestOk F (base.wanted g) k → lines.Both F (base.wanted g) (lower.arms_from F number ms matched a to c S k s)
  arms_from x number scrutinee want may _ _ no_arm matched t go a f to d c w S k s o h l = lines.panic_both F (base.wanted g) (Term.Panic Why.Match) number (λ u. ((typed_lines.panic_ok g.items g.bodies (base.B g) u).1, refl)) S o s h
  arms_from x number scrutinee want may _ _ (an_arm n others m ms one fit rest) matched t go a f to d c w S k s o h l =
      let b = lower.arms_from F number ms matched a to c S k s in
      let i = arms_from x number scrutinee want may others ms rest matched t go a (base.fine_second g x a (nodes_of n) others f) to d c w S k s o h l in
      one.sound matched t go a (base.fine_first g x a (nodes_of n) others f) to (dest_fits to want (ty_of n) fit d) c w S (length b.1.blocks) k (closed Kind.Plain b.0 b.1) o (lines.closed_ok F (base.wanted g) Kind.Plain b.0 b.1 i.0 i.1) l

  pub arms_sound : (x : Context) (number : ℕ) (scrutinee want : TyId) (may : Bool) (ns : List tree.Node) (ms : List NodeLower) → Arms x scrutinee want may ns ms → (matched : Place) → base.Typed g matched scrutinee → (may ≡ true → base.Left g matched) → (a : LoopsAndGuards) → base.Fine g x a ns → (to : Destination) → base.DestIf g to want → Sound (lower.arms_in_order F number ms matched a to)
  arms_sound x number scrutinee want may ns ms arms matched t go a f to d = record {
    after = λ e S o. o;
    lines = λ c w S k s o h l.
        let ends = lower.arms_end F ms matched a to in
        let j = joined ends number k s in
        let jo = lines.joined_ok F (base.wanted g) ends number k s h l in
        arms_from x number scrutinee want may ns ms arms matched t go a f to d c w S j.0 j.1 o jo.0 jo.1;
  }

  pub arms_leave : (x : Context) (scrutinee want : TyId) (may : Bool) (ns : List tree.Node) (ms : List NodeLower) → Arms x scrutinee want may ns ms → (matched : Place) (a : LoopsAndGuards) (to : Destination) → base.Spares g x.loops (lower.arm_jumps F ms matched a to)
  arms_leave x scrutinee want may _ _ no_arm matched a to = tt
  arms_leave x scrutinee want may _ _ (an_arm n others m ms one fit rest) matched a to = base.spares_append g x.loops _ _ (one.leaves matched a to) (arms_leave x scrutinee want may others ms rest matched a to)

  pub arms_ended : (x : Context) (scrutinee want : TyId) (may : Bool) (ns : List tree.Node) (ms : List NodeLower) → Arms x scrutinee want may ns ms → base.Never g want → (matched : Place) (a : LoopsAndGuards) (to : Destination) → lower.arms_end F ms matched a to ≡ false
  arms_ended x scrutinee want may _ _ no_arm v matched a to = refl
  arms_ended x scrutinee want may _ _ (an_arm n others m ms one fit rest) v matched a to =
      base.both_false _ _ (one.ended (elim fit [ inl same ↦ subst (base.Never g) (sym same) v | inr never ↦ never ]) matched a to) (arms_ended x scrutinee want may others ms rest v matched a to)

  -- ---- names of `let`
  pub let_name_sound : (h y : NodeHead) (P : Lowers) → base.KeyIs g y.id y.ty → Sound P →
      Sound (build.in_scope F h.id true (from_changed (lower.pending_if F true innermost y) (then_lower P (change (lower.named F y)))))
  let_name_sound h y P key p =
      base.scoped g h.id true _ (lines.changed_sound F (base.wanted g) (lower.pending_if F true innermost y) _ (λ S o. rules.inner g (with_pending (entry_of y)) (lines.pending_keeps F (base.wanted g) (entry_of y) (λ d. key)) S o)
      (base.and_then g P _ p (λ e. lines.change_sound F (base.wanted g) (lower.named F y) (λ S o.
      lines.around_ok F (base.wanted g) (with_entry (entry_of y)) (lines.entry_keeps F (base.wanted g) (entry_of y) (λ d. key)) _
      (rules.inner g (without_pending (entry_of y)) (lines.without_keeps F (base.wanted g) (entry_of y)) S o)))))

  pub let_parts_sound : (h : NodeHead) (m : NodeLower) (b : Bool) (P Q : Lowers) → (b ≡ true → base.EntryOk g (entry_of m.head)) → Sound P → (P.has_end ≡ true → Sound Q) →
      Sound (build.in_scope F h.id true (from_changed (lower.pending_if F b innermost m.head) (then_lower P Q)))
  let_parts_sound h m b P Q entry p q = base.scoped g h.id true _ (lines.changed_sound F (base.wanted g) (lower.pending_if F b innermost m.head) _ (pending b entry) (base.and_then g P Q p q))
    where
      pending : (b : Bool) → (b ≡ true → base.EntryOk g (entry_of m.head)) → (S : Scopes) → lines.ScopesOk F (base.wanted g) S → lines.ScopesOk F (base.wanted g) (lower.pending_if F b innermost m.head S)
      pending true entry S o = rules.inner g (with_pending (entry_of m.head)) (lines.pending_keeps F (base.wanted g) (entry_of m.head) (entry refl)) S o
      pending false entry S o = o

  pub declared_sound : (bounds : List BoundName) → base.KeysOk g bounds → Sound (lower.declared F bounds)
  declared_sound [] k = base.nothing_done g
  declared_sound (b ∷ bounds) k =
      base.and_then g _ _ (emptied (needs_drop g.items b.ty))
      (λ e. lines.changed_sound F (base.wanted g) (innermost (with_entry (bound_entry b))) _ (rules.inner g (with_entry (bound_entry b)) (lines.entry_keeps F (base.wanted g) (bound_entry b) (λ d. k.0))) (declared_sound bounds k.1))
    where
      emptied : (x : Bool) → Sound (lower.emptied F x b.key)
      emptied true = base.nothing_done g
      emptied false = let t = base.key_typed g b.key b.ty k.0 in lines.drop_sound F (base.wanted g) (site_of_key b.key) (λ n u. (typed_lines.drop_ok g.items g.bodies (base.B g) _ b.ty t.0 t.1 n u, refl))

  pub declared_leaves : (loops : List LoopAround) (bounds : List BoundName) → Leaves loops (lower.declared F bounds)
  declared_leaves loops [] = record { spares = tt }
  declared_leaves loops (b ∷ bounds) = base.leaves_then g loops _ _ (emptied (needs_drop g.items b.ty)) (λ e. rules.leaves_changed g loops (innermost (with_entry (bound_entry b))) _ (declared_leaves loops bounds))
    where
      emptied : (x : Bool) → Leaves loops (lower.emptied F x b.key)
      emptied true = record { spares = tt }
      emptied false = record { spares = tt }

  -- ---- loops
  pub not_left : (l : LoopAround) (loops : List LoopAround) (jumps : List Exit) → base.Never g l.ty → base.Spares g (l ∷ loops) jumps → is_left_by l.loop jumps ≡ false
  not_left l loops [] v h = refl
  not_left l loops (Value ∷ jumps) v h = not_left l loops jumps v h.1
  not_left l loops (Returns ∷ jumps) v h = not_left l loops jumps v h.1
  not_left l loops (Panics ∷ jumps) v h = not_left l loops jumps v h.1
  not_left l loops (Continues loop ∷ jumps) v h = not_left l loops jumps v h.1
  not_left l loops (Breaks loop ∷ jumps) v h = by (l.loop == loop) refl h.0 (not_left l loops jumps v h.1)
    where
      by : (b : Bool) → (l.loop == loop) ≡ b → ((k : LoopAround) → cond b (Some l) (loop_with loop loops) ≡ Some k → base.Made g k.ty) → is_left_by l.loop jumps ≡ false → b || is_left_by l.loop jumps ≡ false
      by true e made rest = absurd (base.never_and_made g l.ty v (made l refl))
      by false e made rest = rest

  pub spared_outside : (l : LoopAround) (loops : List LoopAround) (jumps : List Exit) → base.Spares g (l ∷ loops) jumps → base.Spares g loops (outside l.loop jumps)
  spared_outside l loops [] h = tt
  spared_outside l loops (Value ∷ jumps) h = (tt, spared_outside l loops jumps h.1)
  spared_outside l loops (Returns ∷ jumps) h = (tt, spared_outside l loops jumps h.1)
  spared_outside l loops (Panics ∷ jumps) h = (tt, spared_outside l loops jumps h.1)
  spared_outside l loops (Continues loop ∷ jumps) h = by (l.loop == loop) (spared_outside l loops jumps h.1)
    where
      by : (b : Bool) → base.Spares g loops (outside l.loop jumps) → base.Spares g loops (if b then outside l.loop jumps else Continues loop ∷ outside l.loop jumps)
      by true rest = rest
      by false rest = (tt, rest)
  spared_outside l loops (Breaks loop ∷ jumps) h = by (l.loop == loop) h.0 (spared_outside l loops jumps h.1)
    where
      by : (b : Bool) → ((k : LoopAround) → cond b (Some l) (loop_with loop loops) ≡ Some k → base.Made g k.ty) → base.Spares g loops (outside l.loop jumps) → base.Spares g loops (if b then outside l.loop jumps else Breaks loop ∷ outside l.loop jumps)
      by true made rest = rest
      by false made rest = (made, rest)

  pub looped_leaves : (l : LoopAround) (loops : List LoopAround) (P : Lowers) → Leaves (l ∷ loops) P → Leaves loops (looped l.loop P)
  looped_leaves l loops P p = record { spares = spared_outside l loops P.jumps p.spares }

  -- ---- jumps
  pub jump_leaves : (loops : List LoopAround) (n : ℕ) (exit : Exit) (P : Lowers) → Leaves loops P → (P.has_end ≡ true → base.Spares g loops (build.naming exit)) → Leaves loops (build.jump F n exit P)
  jump_leaves loops n exit P p q = base.leaves_then g loops P (build.exits F n exit) p (λ e. record { spares = q e })
