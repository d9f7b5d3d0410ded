-- Blocks, statements, jumps and loops on a walk, as in a run.
use Rattle.std.proofs.Common.{◌≡◌, ℕ, zero, suc, ◌<◌, ◌≤◌, ◌==◌, nat_lt, Bool, true, false, not, ◌||◌, List, [], ◌∷◌, length, Option, slice_get, if◌then◌else◌, refl, sym, ap, ◌∙◌, subst, arith}
use Rattle.std.proofs.lemmas.Bool.{lt-ltb}
use Rattle.cfg_graph.specs.declared.graph.Block.{Block}
use Rattle.cfg_graph.specs.declared.terminator.Term.{Term}
use Rattle.cfg_meaning.specs.Walk.{◌>>=◌, fork, renamed, block_does}
use Rattle.mir_ty.specs.Facts.{needs_drop}
use Rattle.store_model.proofs.Effects.Laws.{NoMore, Ticked}
use Rattle.store_model.specs.Effects as effects
use Rattle.store_model.specs.Effects.{Action, Normal, Out, Go, Unwind, Halts, Effects}
use Rattle.store_model.specs.Places.Place.{whole_local}
use Rattle.src_meaning.specs.Forms as forms
use Rattle.src_meaning.specs.Forms.{Destination, Into, LoopsAndGuards, Meaning, entry_of, bound_entry, site_of_key, is_never, put_unit, put_unit_if, borrowing, statements, tail_of, block, evaluating, let_name, let_parts, emptied, declared, let_value, letting, turned, turns, jumping}
use Rattle.src_meaning.specs.Locals.Effects.{at_locals}
use Rattle.src_meaning.specs.Scopes.{Entry, Scope, Scopes, innermost, around_innermost, with_entry, with_pending, without_pending, becomes_entry, needing_drop, Exit, Value, Breaks, Continues, Returns, Panics, Run, At, Over, Does, ◌>>◌, in_scopes, doing}
use Rattle.src_meaning.specs.Shape.{NodeHead, Shape, BoundName, site_at}
use Rattle.lower_rules.specs.CodeLaws.{without_place}
use Rattle.lower_rules.specs.Rules.{EvaluatesAt, ReachesAt, NodeCode, CodeIfAny, PutsUnitIf, pending_if, array_around, ElementAt, BorrowAt, UnitAfterAt, StatementsAt, TailAt, BlockAt, EvaluatingAt, named, LetNameAt, LetPartsAt, EmptiedAt, DeclaredAt, LetValueAt, LetAt, LoopAt, JumpValueAt}
use Rattle.lower_rules.specs.Spots.{CodePos, JumpWay, Ways, LoopWays, loop_ways, ways_of, ways_in_loop, CodeSpot, panic_drops, TurnAt, EntersAt, TermAt, JumpAt}
use Rattle.lower_rules.proofs.TiedWalks.{TiedWalk}
use Rattle.lower_rules.proofs.SimulatedSteps as simulated_steps
use Rattle.lower_rules.proofs.SimulatedRules as simulated_rules
use Rattle.lower_rules.proofs.SimulatedSteps.{at_term, enters, drop_walk, pre, then_sim, changes_sim, term_ends, act_sim}
use Rattle.lower_rules.proofs.SimulatedScopes.{back_sim, in_scope_sim, leaves_walk, innermost_keeps, around_keeps, changed_keeps, after_sim}
use Rattle.lower_rules.proofs.SimulatedRules.{none_simulated, simulated, with_one, without, one_simulated, deliver_sim, own_sim, unit_sim}
use Rattle.lower_rules.proofs.SimulatedPatterns.{bind_sim, value_sim}

module _ {W : Type 0} (walking : TiedWalk W) where
  open walking use {t, p, q, size, bound, laws, tied, settled, Walk, walks}

  abbrev keyed : Effects W
  keyed = at_locals t.local_of p

  abbrev from_block : Option Block → CodePos → W → Out W
  from_block = simulated_steps.from_block walking

  abbrev From : CodePos → W → Out W
  From b w = from_block (slice_get t.body.blocks b.0) b w

  abbrev unwinds : List Entry → W → Out W
  unwinds = simulated_steps.unwinds walking

  abbrev drops : List Entry → Scopes → (W → Out W) → W → Out W
  drops = simulated_steps.drops walking

  abbrev dropped_of : Scope → List Entry
  dropped_of s = needing_drop t.items s.entries

  abbrev leave_if : Bool → (W → Out W) → (W → Out W) → W → Out W
  leave_if = simulated_steps.leave_if walking

  abbrev leave_to : ℕ → Scopes → (W → Out W) → W → Out W
  leave_to = simulated_steps.leave_to walking

  abbrev Within : (c : Ways) (n : ℕ) → Type 0
  Within = simulated_steps.Within walking

  abbrev Jumps : JumpWay → (m n : ℕ) → Scopes → W → Out W → Type 0
  Jumps way m n S w out = (length S ≡ n) × (size w ≤ m) × (way.is_used ≡ true) × (out ≡ leave_to way.base S (Walk way.block) w)

  abbrev Ends : Ways → (m n : ℕ) → Scopes → CodePos → Run W → Out W → Type 0
  Ends = simulated_steps.Ends walking

  abbrev Sim : Ways → Does W → CodeSpot → Type 0
  Sim = simulated_steps.Sim walking

  abbrev SimE : (LoopsAndGuards → Bool → Destination → Does W) → EvaluatesAt → Type 0
  SimE e P = (around : LoopsAndGuards) (c : Ways) (own : Bool) (to : Destination) → Sim c (e around own to) (P around c own to)

  abbrev SimR : (LoopsAndGuards → Does W) → ReachesAt → Type 0
  SimR r P = (around : LoopsAndGuards) (c : Ways) → Sim c (r around) (P around c)

  abbrev Simulates : Meaning W → NodeCode → Type 1
  Simulates = simulated_rules.Simulates walking

  abbrev SimulatesAll : List (Meaning W) → List NodeCode → Type 1
  SimulatesAll = simulated_rules.SimulatesAll walking

  abbrev SimulatesIfAny : Option (Meaning W) → CodeIfAny → Type 1
  SimulatesIfAny = simulated_rules.SimulatesIfAny walking

  -- ---- blocks and statements
  statements_sim : (around : LoopsAndGuards) (c : Ways) (ms : List (Meaning W)) (ds : List NodeCode) → SimulatesAll ms ds → Sim c (statements t.items keyed around ms) (StatementsAt t around c ds)
  statements_sim around c _ _ none_simulated = value_sim walking c
  statements_sim around c _ _ (one_simulated _ _ ms ds (simulated h s e r a P Q A se sr sa) all) =
      then_sim walking c (e around false (Into h.id)) _ (P around c false (Into h.id)) _ (se around c false (Into h.id)) (statements_sim around c ms ds all)

  unit_if_sim : (x : Bool) (h : NodeHead) (to : Destination) (c : Ways) → Sim c (put_unit_if t.items keyed x h to) (PutsUnitIf t x h to)
  unit_if_sim true h to c = value_sim walking c
  unit_if_sim false h to c = unit_sim walking h to c

  tail_sim : (h : NodeHead) (m : Option (Meaning W)) (d : CodeIfAny) → SimulatesIfAny m d → (around : LoopsAndGuards) (c : Ways) (to : Destination) →
      Sim c (tail_of t.items keyed h m around to) (TailAt t h d around c to)
  tail_sim h _ _ without around c to = unit_if_sim (is_never t.items h.ty) h to c
  tail_sim h _ _ (with_one _ _ (simulated _ s e r a P Q A se sr sa)) around c to = back_sim walking c (e around true to) (P around c true to) (se around c true to)

  pub block_sim : (h : NodeHead) (ms : List (Meaning W)) (ds : List NodeCode) → SimulatesAll ms ds → (m : Option (Meaning W)) (d : CodeIfAny) → SimulatesIfAny m d →
      SimE (block t.items keyed h ms m) (BlockAt t h ds d)
  block_sim h ms ds all m d st around c own to =
      in_scope_sim walking h.id own c _ _ (then_sim walking c _ _ _ _ (statements_sim around c ms ds all) (tail_sim h m d st around c to))

  pub evaluating_sim : (h : NodeHead) (m : Meaning W) (d : NodeCode) → Simulates m d → SimR (evaluating t.items keyed h m) (EvaluatingAt t h d)
  evaluating_sim h _ _ (simulated mh s e r a P Q A se sr sa) around c =
      in_scope_sim walking h.id true c _ _
      (after_sim walking c _ _ (pending_if t true innermost mh) (innermost_keeps walking (with_pending (entry_of mh)))
      (then_sim walking c (e around false (Into mh.id)) _ (P around c false (Into mh.id)) _ (se around c false (Into mh.id)) (changes_sim walking c _ (innermost_keeps walking (becomes_entry (entry_of mh))))))

  let_name_sim : (h x : NodeHead) (m : Meaning W) (d : NodeCode) → Simulates m d → SimR (let_name t.items keyed h x m) (LetNameAt t h x d)
  let_name_sim h x _ _ (simulated mh s e r a P Q A se sr sa) around c =
      in_scope_sim walking h.id true c _ _
      (after_sim walking c _ _ (pending_if t true innermost x) (innermost_keeps walking (with_pending (entry_of x)))
      (then_sim walking c (e around false (Into x.id)) _ (P around c false (Into x.id)) _ (se around c false (Into x.id))
      (changes_sim walking c (named t x) (λ S. around_keeps walking (with_entry (entry_of x)) (innermost (without_pending (entry_of x)) S) ∙ innermost_keeps walking (without_pending (entry_of x)) S))))

  let_parts_sim : (h : NodeHead) (pattern : Meaning W) (dp : NodeCode) → Simulates pattern dp → (m : Meaning W) (d : NodeCode) → Simulates m d → SimR (let_parts t.items keyed h pattern m) (LetPartsAt t h dp d)
  let_parts_sim h _ _ (simulated ph ps pe pr pa pP pQ pA spe spr spa) _ _ (simulated mh s e r a P Q A se sr sa) around c =
      in_scope_sim walking h.id true c _ _
      (after_sim walking c _ _ (pending_if t (not (s.is_place || s.in_destination)) innermost mh) (changed_keeps walking (not (s.is_place || s.in_destination)) _ (innermost_keeps walking (with_pending (entry_of mh))))
      (then_sim walking c (r around) _ (Q around c) _ (sr around c) (bind_sim walking around_innermost (around_keeps walking) (ps.bindings (s.place around.aliases)) c)))

  emptied_sim : (x : Bool) (key : ℕ) (c : Ways) → Sim c (emptied t.items keyed x key) (EmptiedAt t x key)
  emptied_sim true key c S b S' b' within h w l = value_sim walking c S b S' b' within h w l
  emptied_sim false key c S b S' b' within h w l =
      subst (λ z. Ends c (size w) (length S) z b' (in_scopes S (keyed.drop Normal (site_of_key key) w)) (From b w)) (sym h.0)
      (term_ends walking c (size w) (length S) S b' (From b w) (keyed.drop Normal (site_of_key key) w) refl (subst (NoMore size (size w)) (sym (tied.dropping Normal _ w l)) (laws.dropping Normal _ w))
      (drop_walk walking (site_of_key key) (panic_drops t S) b b' h.1 w l ∙ ap (λ o. fork o (From b') (unwinds (panic_drops t S))) (sym (tied.dropping Normal _ w l))))

  declared_sim : (bounds : List BoundName) (c : Ways) → Sim c (declared t.items keyed bounds) (DeclaredAt t bounds)
  declared_sim [] c = value_sim walking c
  declared_sim (x ∷ bounds) c =
      then_sim walking c _ _ _ _ (emptied_sim (needs_drop t.items x.ty) x.key c)
      (after_sim walking c (declared t.items keyed bounds) _ (innermost (with_entry (bound_entry x))) (innermost_keeps walking (with_entry (bound_entry x)))
      (declared_sim bounds c))

  let_value_sim : (x : Bool) (h : NodeHead) (pattern : Meaning W) (dp : NodeCode) → Simulates pattern dp → (m : Meaning W) (d : NodeCode) → Simulates m d →
      SimR (let_value t.items keyed x h pattern m) (LetValueAt t x h dp d)
  let_value_sim true h _ _ (simulated ph ps pe pr pa pP pQ pA spe spr spa) m d sm around c = let_name_sim h ph m d sm around c
  let_value_sim false h pattern dp sp m d sm around c = let_parts_sim h pattern dp sp m d sm around c

  pub letting_sim : (h : NodeHead) (pattern : Meaning W) (dp : NodeCode) → Simulates pattern dp → (m : Option (Meaning W)) (d : CodeIfAny) → SimulatesIfAny m d →
      SimR (letting t.items keyed h pattern m) (LetAt t h dp d)
  letting_sim h _ _ (simulated ph ps pe pr pa pP pQ pA spe spr spa) _ _ without around c = declared_sim (ps.bindings (whole_local 0)) c
  letting_sim h _ _ (simulated ph ps pe pr pa pP pQ pA spe spr spa) _ _ (with_one m d sm) around c =
      let_value_sim ps.is_binding h _ _ (simulated ph ps pe pr pa pP pQ pA spe spr spa) m d sm around c

  -- ---- jumps
  pub jump_ends : (c : Ways) (way : JumpWay) (exit : Exit) → ((m n : ℕ) (S' : Scopes) (b' : CodePos) (S : Scopes) (v : W) (out : Out W) → Jumps way m n S v out → Ends c m n S' b' (At exit S v) out) →
      (f : Does W) (P : CodeSpot) → Sim c f P → Sim c (f >> At exit) (JumpAt t way P)
  jump_ends c way exit fin f P sim = then_sim walking c f (At exit) P _ sim
      (λ S b S' b' within h v k. fin (size v) (length S) S' b' S v (From b v) (refl, omega arith, h.0, leaves_walk walking way.base way.block S b h.1 v k))

  pub jumping_sim : (c : Ways) (way : JumpWay) (exit : Exit) → ((m n : ℕ) (S' : Scopes) (b' : CodePos) (S : Scopes) (v : W) (out : Out W) → Jumps way m n S v out → Ends c m n S' b' (At exit S v) out) →
      (h : NodeHead) (m : Option (Meaning W)) (d : CodeIfAny) → SimulatesIfAny m d → (around : LoopsAndGuards) (to : Destination) →
      Sim c (jumping t.items keyed exit h m around to) (JumpAt t way (JumpValueAt t h d around c to))
  jumping_sim c way exit fin h _ _ without around to = jump_ends c way exit fin _ _ (unit_sim walking h to c)
  jumping_sim c way exit fin h _ _ (with_one _ _ (simulated _ s e r a P Q A se sr sa)) around to = jump_ends c way exit fin (e around false to) (P around c false to) (se around c false to)

  -- ---- loops
  pub stays_at : (base : ℕ) (S : Scopes) (next : W → Out W) (w : W) → length S ≤ base → leave_to base S next w ≡ next w
  stays_at base [] next w l = refl
  stays_at base (s ∷ S) next w l = ap (λ x. leave_if (not x) (drops (dropped_of s) S (leave_to base S next)) next w) (less base (length S) l)
    where
      less : (a b : ℕ) → suc b ≤ a → nat_lt b a ≡ true
      less a b l = lt-ltb b a l

  -- at a jump that names the loop, and at another
  module _ (c : Ways) (id : ℕ) (S S' : Scopes) (begin exit : ℕ) (is_left : Bool) (e b' : CodePos) (turn : Does W) where
    abbrev inside : Ways
    inside = ways_in_loop id (length S) exit begin is_left c

    abbrev ways_by : Bool → ℕ → LoopWays
    ways_by named loop = if named then loop_ways (length S) exit begin is_left else ways_of loop c

    inside_within : Within c (length S) → Within inside (length S)
    inside_within h = record {
      returns = h.returns;
      breaks = λ loop. breaks_by (id == loop) loop h;
      continues = λ loop. continues_by (id == loop) loop h;
    }
      where
        breaks_by : (x : Bool) (loop : ℕ) → Within c (length S) → (ways_by x loop).breaks.base ≤ length S
        breaks_by true loop h = omega arith
        breaks_by false loop h = h.breaks loop

        continues_by : (x : Bool) (loop : ℕ) → Within c (length S) → (ways_by x loop).continues.base ≤ length S
        continues_by true loop h = omega arith
        continues_by false loop h = h.continues loop

    turned_ends : (m k : ℕ) (r : Run W) (out : Out W) → m ≤ bound → TermAt t (Term.Goto begin) e → (is_left ≡ true → EntersAt t exit b' × (S' ≡ S)) →
        ((v : W) → size v ≤ m → Ends c (size v) (length S) S' b' (turns t.items keyed k id turn S v) (Walk begin v)) → Ends inside m (length S) S e r out →
        Ends c m (length S) S' b' (turned t.items keyed id S r (turns t.items keyed k id turn)) out
    turned_ends m k (At Value S2 v) out l back onward ih h =
        subst (λ z. Ends c m (length S) S' b' (turns t.items keyed k id turn z v) out) (sym h.0)
        (pre walking c (size v) m (length S) S' b' (turns t.items keyed k id turn S v) out (Walk begin v) h.2 (h.3 ∙ at_term walking (Term.Goto begin) e back v) (ih v h.2))
    turned_ends m k (At (Breaks loop) S2 v) out l back onward ih h = by_name (id == loop) h
      where
        by_name : (x : Bool) → Jumps (ways_by x loop).breaks m (length S) S2 v out → Ends c m (length S) S' b' (if x then At Value S v else At (Breaks loop) S2 v) out
        by_name true h = (
          sym (onward h.2).1,
          refl,
          h.1,
          h.3 ∙ stays_at (length S) S2 (Walk exit) v (let i = h.0 in omega arith) ∙ enters walking exit (onward h.2).0.0 v (let i = h.1 in omega arith)
              ∙ ap (λ z. From z v) (sym (onward h.2).0.1),
        )
        by_name false h = h
    turned_ends m k (At (Continues loop) S2 v) out l back onward ih h = by_name ih (id == loop) h
      where
        by_name : ((v : W) → size v ≤ m → Ends c (size v) (length S) S' b' (turns t.items keyed k id turn S v) (Walk begin v)) → (x : Bool) →
            Jumps (ways_by x loop).continues m (length S) S2 v out →
            Ends c m (length S) S' b' ((if x then turns t.items keyed k id turn S else At (Continues loop) S2) v) out
        by_name ih true h =
            pre walking c (size v) m (length S) S' b' (turns t.items keyed k id turn S v) out (Walk begin v) h.1 (h.3 ∙ stays_at (length S) S2 (Walk begin) v (let i = h.0 in omega arith)) (ih v h.1)
        by_name ih false h = h
    turned_ends m k (At Returns S2 v) out l back onward ih h = h
    turned_ends m k (At Panics S2 v) out l back onward ih h = h
    turned_ends m k (Over halt v) out l back onward ih h = h

    module _ (P : Ways → CodeSpot) (within : Within c (length S)) (at_begin : TurnAt t begin) (sim : Sim inside turn (P inside)) (code : P inside S (begin, 0) S e)
        (back : TermAt t (Term.Goto begin) e) (onward : is_left ≡ true → EntersAt t exit b' × (S' ≡ S)) where
      turns_ends : (k : ℕ) (w : W) → size w < k → size w ≤ bound → Ends c (size w) (length S) S' b' (turns t.items keyed k id turn S w) (Walk begin w)
      turns_ends zero w i l = absurd (let never : ⊥ = omega arith in never)
      turns_ends (suc k) w i l =
          by_tick (λ v j. turns_ends k v (omega arith) (omega arith)) (p.tick w) (subst (Ticked size (size w)) (sym (tied.ticking w l)) (laws.ticking w))
          (walks.turn begin at_begin.0 at_begin.1 at_begin.2 w l ∙ ap (λ o. ◌>>=◌ o (block_does q (t.node begin) at_begin.0 Walk)) (sym (tied.ticking w l)))
        where
          by_tick : ((v : W) → suc (size v) ≤ size w → Ends c (size v) (length S) S' b' (turns t.items keyed k id turn S v) (Walk begin v)) → (o : Out W) → Ticked size (size w) (renamed without_place o) →
              Walk begin w ≡ ◌>>=◌ (renamed without_place o) (block_does q (t.node begin) at_begin.0 Walk) →
              Ends c (size w) (length S) S' b' (forms.ticked t.items keyed o (λ w. turned t.items keyed id S (turn S w) (turns t.items keyed k id turn))) (Walk begin w)
          by_tick ih (Go v) j e2 =
              pre walking c (size v) (size w) (length S) S' b' (turned t.items keyed id S (turn S v) (turns t.items keyed k id turn)) (Walk begin w) (From (begin, 0) v) (omega arith)
              (e2 ∙ sym (ap (λ o. from_block o (begin, 0) v) at_begin.1))
              (turned_ends (size v) k (turn S v) (From (begin, 0) v) (omega arith) back onward (λ u y. ih u (omega arith))
              (sim S (begin, 0) S e (inside_within within) code v (omega arith)))
          by_tick ih (Unwind v) j e2 = e2
          by_tick ih (Halts halt v) j e2 = e2

  pub loop_sim : (id fuel : ℕ) → bound < fuel → (turn : Does W) (P : Ways → CodeSpot) (c : Ways) → ((c : Ways) → Sim c turn (P c)) →
      Sim c (turns t.items keyed fuel id turn) (LoopAt t id P c)
  loop_sim id fuel less turn P c sim S b S' b' within h w l =
      pre walking c (size w) (size w) (length S) S' b' (turns t.items keyed fuel id turn S w) (From b w) (Walk h.0 w) (omega arith) (at_term walking (Term.Goto h.0) b h.4 w)
      (turns_ends c id S S' h.0 h.1 h.2 h.3 b' turn P within h.5 (sim _) h.6 h.7 h.8 fuel w (omega arith) l)

  -- ---- the rest of the rules
  pub element_sim : (h : NodeHead) (s : Shape) (base : Meaning W) (db : NodeCode) → Simulates base db → (index : Meaning W) (di : NodeCode) → Simulates index di → (count : ℕ) →
      SimR (forms.reach_element t.items keyed h s base index count) (ElementAt t h s db di count)
  element_sim h s _ _ (simulated bh bs be br ba bP bQ bA sbe sbr sba) _ _ (simulated ih is_ ie ir ia iP iQ iA sie sir sia) count around c =
      then_sim walking c (br around) _ (bQ around c) _ (sbr around c) (then_sim walking c (ie around false (Into ih.id)) _ (iP around c false (Into ih.id)) _ (sie around c false (Into ih.id))
      (then_sim walking c _ _ _ _ (act_sim walking c (effects.Touch (site_at h (array_around t (s.place around.aliases))))) (act_sim walking c (effects.Bounds (effects.Copied (site_of_key ih.id)) count))))

  pub borrowing_sim : (h : NodeHead) (unique : Bool) (base : Meaning W) (db : NodeCode) → Simulates base db → SimE (borrowing t.items keyed h unique base) (BorrowAt t h unique db)
  borrowing_sim h unique _ _ (simulated bh bs be br ba bP bQ bA sbe sbr sba) around c own to =
      own_sim walking h own _ _ c (then_sim walking c (br around) _ (bQ around c) _ (sbr around c)
      (deliver_sim walking h (λ site. effects.Borrow (record site { node = bh.id }) unique (site_at bh (bs.place around.aliases))) to c))

  pub unit_after_sim : (h : NodeHead) (action : Action) (to : Destination) (c : Ways) →
      Sim c (doing (keyed.act action) >> put_unit t.items keyed h to) (UnitAfterAt t h action to)
  unit_after_sim h action to c = then_sim walking c _ _ _ _ (act_sim walking c action) (unit_sim walking h to c)
