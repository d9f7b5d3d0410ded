-- Scopes are left on a walk as they are in a run.
use Rattle.std.proofs.Common.{◌≡◌, inl, inr, ℕ, suc, ◌≤◌, nat_lt, Bool, true, false, not, List, [], ◌∷◌, ◌++◌, length, Option, slice_get, refl, sym, ap, ◌∙◌, subst, arith}
use Rattle.std.proofs.lemmas.Bool.{le-ltb}
use Rattle.cfg_graph.specs.declared.graph.Block.{Block}
use Rattle.cfg_graph.specs.declared.terminator.Term.{Term}
use Rattle.cfg_meaning.specs.Walk.{fork, renamed}
use Rattle.store_model.proofs.Effects.Laws.{NoMore}
use Rattle.store_model.specs.Effects.{Normal, Unwinding, Out, Go, Unwind, Halts, aborting, Effects}
use Rattle.src_meaning.specs.Forms.{changed_if}
use Rattle.src_meaning.specs.Locals.Effects.{site_at as site_on, at_locals}
use Rattle.src_meaning.specs.Scopes.{Entry, Scope, Scopes, with_scope, innermost, around_innermost, nearest_from, nearest_temporary, all_entries, needing_drop, Exit, Value, Breaks, Continues, Returns, Panics, Run, At, Over, Does, on_value, ◌>>◌, changing, back_in, entry_site, dropped_unwinding, drop_unwinding, dropped_normally, drop_normally, leave, in_scope, then_or_leave}
use Rattle.lower_rules.specs.CodeLaws.{without_place}
use Rattle.lower_rules.specs.Spots.{CodePos, JumpWay, Ways, ways_of, CodeSpot, Then, After, BackIn, panic_drops, TermAt, AllDropAt, LeavesScope, Scoped, InScope, leaves_one, LeavesTo}
use Rattle.lower_rules.proofs.TiedWalks.{needing_drop_append, TiedWalk}
use Rattle.lower_rules.proofs.SimulatedSteps as simulated_steps
use Rattle.lower_rules.proofs.SimulatedSteps.{deeper, at_term, leads_walk, drops_walk, drops_same, endless_ends}

module _ {W : Type 0} (walking : TiedWalk W) where
  open walking use {t, p, q, size, bound, laws, tied, settled, Walk, walks}

  abbrev keyed : Effects W
  keyed = at_locals t.local_of p

  abbrev from_block : Option Block → CodePos → W → Out W
  from_block = simulated_steps.from_block walking

  abbrev From : CodePos → W → Out W
  From b w = from_block (slice_get t.body.blocks b.0) b w

  abbrev unwinds : List Entry → W → Out W
  unwinds = simulated_steps.unwinds walking

  abbrev drops : List Entry → Scopes → (W → Out W) → W → Out W
  drops = simulated_steps.drops walking

  abbrev dropped_of : Scope → List Entry
  dropped_of s = needing_drop t.items s.entries

  abbrev leave_if : Bool → (W → Out W) → (W → Out W) → W → Out W
  leave_if = simulated_steps.leave_if walking

  abbrev leave_to : ℕ → Scopes → (W → Out W) → W → Out W
  leave_to = simulated_steps.leave_to walking

  abbrev Within : (c : Ways) (n : ℕ) → Type 0
  Within = simulated_steps.Within walking

  abbrev Jumps : JumpWay → (m n : ℕ) → Scopes → W → Out W → Type 0
  Jumps way m n S w out = (length S ≡ n) × (size w ≤ m) × (way.is_used ≡ true) × (out ≡ leave_to way.base S (Walk way.block) w)

  abbrev Ends : Ways → (m n : ℕ) → Scopes → CodePos → Run W → Out W → Type 0
  Ends = simulated_steps.Ends walking

  abbrev Sim : Ways → Does W → CodeSpot → Type 0
  Sim = simulated_steps.Sim walking

  -- ---- scopes are left
  unwinding_ends : (c : Ways) (m n : ℕ) (S' : Scopes) (b' : CodePos) (S : Scopes) (out : Out W) → m ≤ bound → (es : List Entry) (w : W) → size w ≤ m → out ≡ unwinds (es ++ panic_drops t S) w →
      Ends c m n S' b' (drop_unwinding t.items keyed es S w) out
  unwinding_ends c m n S' b' S out l [] w k e = (k, e)
  unwinding_ends c m n S' b' S out l (x ∷ es) w k e =
      dropped (unwinding_ends c m n S' b' S out l es) (p.drop Unwinding (site_on t.local_of (entry_site x)) w)
      (subst (NoMore size (size w)) (sym (tied.dropping Unwinding _ w (omega arith))) (laws.dropping Unwinding _ w))
      (e ∙ ap (λ o. aborting o (unwinds (es ++ panic_drops t S))) (sym (tied.dropping Unwinding _ w (omega arith))))
    where
      dropped : ((v : W) → size v ≤ m → out ≡ unwinds (es ++ panic_drops t S) v → Ends c m n S' b' (drop_unwinding t.items keyed es S v) out) → (o : Out W) →
          NoMore size (size w) (renamed without_place o) → out ≡ aborting (renamed without_place o) (unwinds (es ++ panic_drops t S)) →
          Ends c m n S' b' (dropped_unwinding t.items keyed o (drop_unwinding t.items keyed es S)) out
      dropped ih (Go v) j e = ih v (omega arith) e
      dropped ih (Unwind v) j e = e
      dropped ih (Halts halt v) j e = e

  normal_ends : (c : Ways) (m n : ℕ) (S' : Scopes) (b' : CodePos) (exit : Exit) (S : Scopes) (next : W → Out W) (out : Out W) → m ≤ bound →
      ((v : W) → size v ≤ m → out ≡ next v → Ends c m n S' b' (At exit S v) out) → (es : List Entry) (w : W) → size w ≤ m → out ≡ drops es S next w →
      Ends c m n S' b' (drop_normally t.items keyed exit es S w) out
  normal_ends c m n S' b' exit S next out l fin [] w k e = fin w k e
  normal_ends c m n S' b' exit S next out l fin (x ∷ es) w k e =
      dropped (normal_ends c m n S' b' exit S next out l fin es) (p.drop Normal (site_on t.local_of (entry_site x)) w)
      (subst (NoMore size (size w)) (sym (tied.dropping Normal _ w (omega arith))) (laws.dropping Normal _ w))
      (e ∙ ap (λ o. fork o (drops es S next) (unwinds (es ++ panic_drops t S))) (sym (tied.dropping Normal _ w (omega arith))))
    where
      dropped : ((v : W) → size v ≤ m → out ≡ drops es S next v → Ends c m n S' b' (drop_normally t.items keyed exit es S v) out) → (o : Out W) →
          NoMore size (size w) (renamed without_place o) → out ≡ fork (renamed without_place o) (drops es S next) (unwinds (es ++ panic_drops t S)) →
          Ends c m n S' b' (dropped_normally t.items keyed o (drop_normally t.items keyed exit es S) (drop_unwinding t.items keyed es S)) out
      dropped ih (Go v) j e = ih v (omega arith) e
      dropped ih (Unwind v) j e = unwinding_ends c m n S' b' S out l es v (omega arith) e
      dropped ih (Halts halt v) j e = e

  not_less : (a b : ℕ) → b ≤ a → nat_lt a b ≡ false
  not_less a b l = le-ltb a b l

  -- a jump goes on to leave scopes
  pub jump_left : (c : Ways) (way : JumpWay) (m n : ℕ) (S' : Scopes) (b' : CodePos) (exit : Exit) (out : Out W) → m ≤ bound → way.base ≤ n →
      ((S : Scopes) (v : W) → Jumps way m n S v out → Ends c m n S' b' (At exit S v) out) →
      (s : Scope) (S : Scopes) (w : W) → Jumps way m (suc n) (s ∷ S) w out → Ends c m n S' b' (drop_normally t.items keyed exit (dropped_of s) S w) out
  jump_left c way m n S' b' exit out l base fin s S w h =
      let i : length S ≡ n = (let j = h.0 in omega arith) in
      normal_ends c m n S' b' exit S (leave_to way.base S (Walk way.block)) out l (λ v k e. fin S v (i, k, h.2, e)) (dropped_of s) w h.1
      (h.3 ∙ ap (λ x. leave_if (not x) (drops (dropped_of s) S (leave_to way.base S (Walk way.block))) (Walk way.block) w) (not_less (length S) way.base (omega arith)))

  pub panic_left : (c : Ways) (m n : ℕ) (S' : Scopes) (b' : CodePos) (s : Scope) (S : Scopes) (w : W) (out : Out W) → m ≤ bound → size w ≤ m → out ≡ unwinds (panic_drops t (s ∷ S)) w →
      Ends c m n S' b' (drop_unwinding t.items keyed (needing_drop t.items (s.pending ++ s.entries)) S w) out
  panic_left c m n S' b' s S w out l k e =
      unwinding_ends c m n S' b' S out l (needing_drop t.items (s.pending ++ s.entries)) w k
      (e ∙ ap (λ es. unwinds es w) (needing_drop_append t.items (s.pending ++ s.entries) (all_entries S)))

  pub never_empty : {A : Type 0} (n : ℕ) → 0 ≡ suc n → A
  never_empty n e = absurd (let never : ⊥ = omega arith in never)

  pub leave_ends : (c : Ways) (m n : ℕ) (S1 : Scopes) (b1 : CodePos) (S' : Scopes) (b' : CodePos) (r : Run W) (out : Out W) → m ≤ bound → Within c n → Ends c m (suc n) S1 b1 r out →
      LeavesScope t S1 b1 S' b' → Ends c m n S' b' (leave t.items keyed r) out
  leave_ends c m n S1 b1 S' b' (At Value [] w) out l within h f = never_empty n h.1
  leave_ends c m n S1 b1 S' b' (At Value (s ∷ S) w) out l within h f =
      let g : LeavesScope t (s ∷ S) b1 S' b' = subst (λ z. LeavesScope t z b1 S' b') (sym h.0) f in
      normal_ends c m n S' b' Value S (From b') out l (λ v k e. (sym g.0, (let j = h.1 in omega arith), k, e)) (dropped_of s) w h.2
      (h.3 ∙ drops_walk walking (dropped_of s) S b1 g.1 g.2 w (let j = h.2 in omega arith)
      ∙ drops_same walking (dropped_of s) S (From g.1) (From b') (λ v k. leads_walk walking g.1 b' g.3 v k) w (let j = h.2 in omega arith))
  leave_ends c m n S1 b1 S' b' (At (Breaks loop) [] w) out l within h f = never_empty n h.0
  leave_ends c m n S1 b1 S' b' (At (Breaks loop) (s ∷ S) w) out l within h f =
      jump_left c (ways_of loop c).breaks m n S' b' (Breaks loop) out l (within.breaks loop) (λ S v k. k) s S w h
  leave_ends c m n S1 b1 S' b' (At (Continues loop) [] w) out l within h f = never_empty n h.0
  leave_ends c m n S1 b1 S' b' (At (Continues loop) (s ∷ S) w) out l within h f =
      jump_left c (ways_of loop c).continues m n S' b' (Continues loop) out l (within.continues loop) (λ S v k. k) s S w h
  leave_ends c m n S1 b1 S' b' (At Returns [] w) out l within h f = never_empty n h.0
  leave_ends c m n S1 b1 S' b' (At Returns (s ∷ S) w) out l within h f = jump_left c c.returns m n S' b' Returns out l within.returns (λ S v k. k) s S w h
  leave_ends c m n S1 b1 S' b' (At Panics [] w) out l within h f = h
  leave_ends c m n S1 b1 S' b' (At Panics (s ∷ S) w) out l within h f = panic_left c m n S' b' s S w out l h.0 h.1
  leave_ends c m n S1 b1 S' b' (Over halt w) out l within h f = h

  -- a run without an end leaves its scope otherwise than by a value
  pub endless_leaves : (c : Ways) (m : ℕ) (S S' : Scopes) (b' : CodePos) (r : Run W) (out : Out W) → m ≤ bound → Within c (length S) →
      ((S1 : Scopes) (b1 : CodePos) → Ends c m (suc (length S)) S1 b1 r out) → (f : Does W) → Ends c m (length S) S' b' (then_or_leave t.items keyed r f) out
  endless_leaves c m S S' b' (At Value S1 w) out l within h f =
      let e = h S (0, 0) in
      let k : length S ≡ suc (length S) = sym (ap length e.0) ∙ e.1 in
      absurd (let never : ⊥ = omega arith in never)
  endless_leaves c m S S' b' (At (Breaks loop) [] w) out l within h f = let e = h S (0, 0) in never_empty (length S) e.0
  endless_leaves c m S S' b' (At (Breaks loop) (s ∷ S1) w) out l within h f =
      let e = h S (0, 0) in jump_left c (ways_of loop c).breaks m (length S) S' b' (Breaks loop) out l (within.breaks loop) (λ S v k. k) s S1 w e
  endless_leaves c m S S' b' (At (Continues loop) [] w) out l within h f = let e = h S (0, 0) in never_empty (length S) e.0
  endless_leaves c m S S' b' (At (Continues loop) (s ∷ S1) w) out l within h f =
      let e = h S (0, 0) in jump_left c (ways_of loop c).continues m (length S) S' b' (Continues loop) out l (within.continues loop) (λ S v k. k) s S1 w e
  endless_leaves c m S S' b' (At Returns [] w) out l within h f = let e = h S (0, 0) in never_empty (length S) e.0
  endless_leaves c m S S' b' (At Returns (s ∷ S1) w) out l within h f =
      let e = h S (0, 0) in jump_left c c.returns m (length S) S' b' Returns out l within.returns (λ S v k. k) s S1 w e
  endless_leaves c m S S' b' (At Panics [] w) out l within h f = h S (0, 0)
  endless_leaves c m S S' b' (At Panics (s ∷ S1) w) out l within h f = let e = h S (0, 0) in panic_left c m (length S) S' b' s S1 w out l e.0 e.1
  endless_leaves c m S S' b' (Over halt w) out l within h f = h S (0, 0)

  then_leave : (r : Run W) → then_or_leave t.items keyed r (λ S w. leave t.items keyed (At Value S w)) ≡ leave t.items keyed r
  then_leave (At Value S w) = refl
  then_leave (At (Breaks loop) S w) = refl
  then_leave (At (Continues loop) S w) = refl
  then_leave (At Returns S w) = refl
  then_leave (At Panics S w) = refl
  then_leave (Over halt w) = refl

  -- what is done in one scope more, which is then left
  pub leaving_sim : (c : Ways) (f : Does W) (P : CodeSpot) → Sim c f P → (around S : Scopes) → length S ≡ suc (length around) → Within c (length around) → (b : CodePos) (S' : Scopes) (b' : CodePos) →
      Then P (LeavesScope t) S b S' b' → (w : W) → size w ≤ bound → Ends c (size w) (length around) S' b' (leave t.items keyed (f S w)) (From b w)
  leaving_sim c f P sim around S e within b S' b' (inl none) w l =
      subst (λ r. Ends c (size w) (length around) S' b' r (From b w)) (then_leave (f S w))
      (endless_leaves c (size w) around S' b' (f S w) (From b w) l within
      (λ S1 b1. subst (λ i. Ends c (size w) i S1 b1 (f S w) (From b w)) e (sim S b S1 b1 (subst (Within c) (sym e) (deeper walking c (length around) within)) (none S1 b1) w l)) _)
  leaving_sim c f P sim around S e within b S' b' (inr h) w l =
      leave_ends c (size w) (length around) h.0 h.1 S' b' (f S w) (From b w) l within
      (subst (λ i. Ends c (size w) i h.0 h.1 (f S w) (From b w)) e (sim S b h.0 h.1 (subst (Within c) (sym e) (deeper walking c (length around) within)) h.2 w l)) h.3

  -- what is done in a scope that is entered and left
  pub scope_sim : (c : Ways) (f : Does W) (P : CodeSpot) (enter : Scopes → Scopes) → ((S : Scopes) → length (enter S) ≡ suc (length S)) → Sim c f P →
      Sim c (λ S w. leave t.items keyed (f (enter S) w)) (Scoped t enter P)
  scope_sim c f P enter one sim S b S' b' within h w l = leaving_sim c f P sim S (enter S) (one S) within b S' b' h w l

  back_ends : (c : Ways) (m n : ℕ) (S1 S : Scopes) (b' : CodePos) (r : Run W) (out : Out W) → length S ≡ n → Ends c m n S1 b' r out → Ends c m n S b' (back_in S r) out
  back_ends c m n S1 S b' (At Value S2 w) out i h = (refl, i, h.2, h.3)
  back_ends c m n S1 S b' (At (Breaks loop) S2 w) out i h = h
  back_ends c m n S1 S b' (At (Continues loop) S2 w) out i h = h
  back_ends c m n S1 S b' (At Returns S2 w) out i h = h
  back_ends c m n S1 S b' (At Panics S2 w) out i h = h
  back_ends c m n S1 S b' (Over halt w) out i h = h

  back_value : (S : Scopes) (r : Run W) → back_in S r ≡ on_value r (λ inner w. At Value S w)
  back_value S (At Value S2 w) = refl
  back_value S (At (Breaks loop) S2 w) = refl
  back_value S (At (Continues loop) S2 w) = refl
  back_value S (At Returns S2 w) = refl
  back_value S (At Panics S2 w) = refl
  back_value S (Over halt w) = refl

  pub back_sim : (c : Ways) (f : Does W) (P : CodeSpot) → Sim c f P → Sim c (λ S w. back_in S (f S w)) (BackIn P)
  back_sim c f P sim S b S' b' within (inl none) w l =
      subst (λ r. Ends c (size w) (length S) S' b' r (From b w)) (sym (back_value S (f S w)))
      (endless_ends walking c (size w) S S' b' (f S w) _ (From b w) (λ S1 b1. sim S b S1 b1 within (none S1 b1) w l))
  back_sim c f P sim S b S' b' within (inr h) w l =
      subst (λ z. Ends c (size w) (length S) z b' (back_in S (f S w)) (From b w)) (sym h.0)
      (back_ends c (size w) (length S) h.1 S b' (f S w) (From b w) refl (sim S b h.1 b' within h.2 w l))

  pub in_scope_sim : (node : ℕ) (own : Bool) (c : Ways) (f : Does W) (P : CodeSpot) → Sim c f P → Sim c (in_scope t.items keyed node own f) (InScope t node own P)
  in_scope_sim node own c f P sim = scope_sim c f P (with_scope node own) (λ S. refl) sim

  -- jumps: the scopes are left by code that stands for it
  pub leaves_walk : (base n : ℕ) (S : Scopes) (b : CodePos) → LeavesTo t base n S b → (w : W) → size w ≤ bound → From b w ≡ leave_to base S (Walk n) w
  leaves_walk base n [] b h w l = at_term walking (Term.Goto n) b h w
  leaves_walk base n (s ∷ S) b h w l = by_base (λ m k v j. leaves_walk base n S m k v j) (nat_lt (length S) base) h
    where
      by_base : ((m : CodePos) → LeavesTo t base n S m → (v : W) → size v ≤ bound → From m v ≡ leave_to base S (Walk n) v) → (x : Bool) →
          leaves_one t (not x) ((m : CodePos) × AllDropAt t (dropped_of s) S b m × LeavesTo t base n S m) (TermAt t (Term.Goto n) b) →
          From b w ≡ leave_if (not x) (drops (dropped_of s) S (leave_to base S (Walk n))) (Walk n) w
      by_base ih true h = at_term walking (Term.Goto n) b h w
      by_base ih false h =
          drops_walk walking (dropped_of s) S b h.0 h.1 w l
          ∙ drops_same walking (dropped_of s) S (From h.0) (leave_to base S (Walk n)) (λ v k. ih h.0 h.2 v k) w l

  -- ---- changes of scopes keep their number
  pub innermost_keeps : (change : Scope → Scope) (S : Scopes) → length (innermost change S) ≡ length S
  innermost_keeps change [] = refl
  innermost_keeps change (s ∷ S) = refl

  pub around_keeps : (change : Scope → Scope) (S : Scopes) → length (around_innermost change S) ≡ length S
  around_keeps change [] = refl
  around_keeps change (s ∷ S) = ap suc (innermost_keeps change S)

  pub nearest_keeps : (change : Scope → Scope) (S : Scopes) → length (nearest_temporary change S) ≡ length S
  nearest_keeps change [] = refl
  nearest_keeps change (s ∷ S) = by_scope s.for_temporaries (nearest_keeps change S)
    where
      by_scope : (x : Bool) → length (nearest_temporary change S) ≡ length S → length (nearest_from x change s S (nearest_temporary change S)) ≡ suc (length S)
      by_scope true e = refl
      by_scope false e = ap suc e

  pub changed_keeps : (b : Bool) (change : Scopes → Scopes) → ((S : Scopes) → length (change S) ≡ length S) → (S : Scopes) → length (changed_if b change S) ≡ length S
  changed_keeps true change e S = e S
  changed_keeps false change e S = refl

  pub after_sim : (c : Ways) (f : Does W) (P : CodeSpot) (change : Scopes → Scopes) → ((S : Scopes) → length (change S) ≡ length S) → Sim c f P → Sim c (changing change >> f) (After change P)
  after_sim c f P change keeps sim S b S' b' within h w l =
      subst (λ i. Ends c (size w) i S' b' (f (change S) w) (From b w)) (keeps S) (sim (change S) b S' b' (subst (Within c) (sym (keeps S)) within) h w l)
