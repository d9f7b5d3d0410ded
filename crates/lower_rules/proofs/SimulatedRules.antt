-- Operands, assignments and choices on a walk, as in a run.
use Rattle.std.proofs.Common.{◌≡◌, ℕ, ◌≤◌, Bool, true, false, List, [], ◌∷◌, length, Option, Some, None, slice_get, refl, sym, ap, ◌∙◌, subst, arith}
use Rattle.cfg_graph.specs.declared.graph.Block.{Block}
use Rattle.cfg_graph.specs.declared.terminator.Term.{Term}
use Rattle.cfg_graph.specs.declared.terminator.Unwind as graph
use Rattle.cfg_meaning.specs.Walk.{◌>>=◌, fork, branch, renamed, renamed_choice}
use Rattle.mir_ty.specs.Facts.{needs_drop}
use Rattle.store_model.proofs.Effects.Laws.{NoMore, NoMoreOf}
use Rattle.store_model.specs.Effects as effects
use Rattle.store_model.specs.Effects.{EffectSite, Action, Normal, Out, Go, Unwind, Halts, Choice, Yes, No, Neither, Effects}
use Rattle.store_model.specs.Places.Place.{Place}
use Rattle.src_meaning.specs.Forms as forms
use Rattle.src_meaning.specs.Forms.{Destination, Into, Coerced, LoopsAndGuards, Meaning, entry_of, site_in, moved, deliver, put_unit, in_own_scope, operand, operands, acting, dropping, temporary, use_of_place, stored, stored_after, replacing, assigning, condition, arm}
use Rattle.src_meaning.specs.Locals.Effects.{action_at, at_locals}
use Rattle.src_meaning.specs.Scopes.{Scopes, innermost, nearest_temporary, with_pending, becomes_entry, without_operands, Panics, Run, At, Does, on_value, ◌>>◌, in_scopes, chosen, choosing}
use Rattle.src_meaning.specs.Shape.{NodeHead, head, Shape, shape, site_at, operand_at}
use Rattle.lower_rules.specs.CodeLaws.{without_place}
use Rattle.lower_rules.specs.Rules.{EvaluatesAt, ReachesAt, ArmsAt, NodeCode, CodeIfAny, no_code, a_code, keys_of, all_moved, Delivers, PutsUnit, InOwnScope, pending_if, OperandAt, OperandsAt, taken, ActingAt, DroppingAt, TemporaryAt, UseAt, StoresAt, StoresUnwindingAt, ReplacesAt, AssignAt, IfAt, CaseAt, BranchesAt, ConditionAt, BranchAt}
use Rattle.lower_rules.specs.Spots.{CodePos, Ways, CodeSpot, Then, After, panic_drops, StepAt, InScope}
use Rattle.lower_rules.proofs.TiedWalks.{NoUnwind, TiedWalk}
use Rattle.lower_rules.proofs.SimulatedSteps as simulated_steps
use Rattle.lower_rules.proofs.SimulatedSteps.{at_term, at_stmt, enters, leads_walk, clean_walk, pre, then_sim, changes_sim, joins_sim, acting_less, stmt_settled, act_sim}
use Rattle.lower_rules.proofs.SimulatedScopes.{back_sim, in_scope_sim, innermost_keeps, nearest_keeps, changed_keeps, after_sim}

module _ {W : Type 0} (walking : TiedWalk W) where
  open walking use {t, p, q, size, bound, laws, tied, settled, Walk, walks}

  abbrev keyed : Effects W
  keyed = at_locals t.local_of p

  abbrev from_block : Option Block → CodePos → W → Out W
  from_block = simulated_steps.from_block walking

  abbrev From : CodePos → W → Out W
  From b w = from_block (slice_get t.body.blocks b.0) b w

  abbrev Within : (c : Ways) (n : ℕ) → Type 0
  Within = simulated_steps.Within walking

  abbrev Ends : Ways → (m n : ℕ) → Scopes → CodePos → Run W → Out W → Type 0
  Ends = simulated_steps.Ends walking

  abbrev Sim : Ways → Does W → CodeSpot → Type 0
  Sim = simulated_steps.Sim walking

  -- ---- the rules
  abbrev pub SimE : (LoopsAndGuards → Bool → Destination → Does W) → EvaluatesAt → Type 0
  SimE e P = (around : LoopsAndGuards) (c : Ways) (own : Bool) (to : Destination) → Sim c (e around own to) (P around c own to)

  abbrev pub SimR : (LoopsAndGuards → Does W) → ReachesAt → Type 0
  SimR r P = (around : LoopsAndGuards) (c : Ways) → Sim c (r around) (P around c)

  -- an arm, given that where it is not taken the walk goes on likewise
  abbrev pub SimA : (Place → Does W → LoopsAndGuards → Destination → Does W) → ArmsAt → Type 0
  SimA a P =
      (matched : Place) (otherwise : Does W) (rest : CodePos) (around : LoopsAndGuards) (c : Ways) (to : Destination) (S : Scopes) (b : CodePos) (S' : Scopes) (b' : CodePos) → Within c (length S) →
      ((w : W) → size w ≤ bound → Ends c (size w) (length S) S' b' (otherwise S w) (From rest w)) → P matched rest around c to S b S' b' →
      (w : W) → size w ≤ bound → Ends c (size w) (length S) S' b' (a matched otherwise around to S w) (From b w)

  pub data Simulates : Meaning W → NodeCode → Type 1 where
    simulated : (h : NodeHead) (s : Shape) (e : LoopsAndGuards → Bool → Destination → Does W) (r : LoopsAndGuards → Does W) (a : Place → Does W → LoopsAndGuards → Destination → Does W)
        (P : EvaluatesAt) (Q : ReachesAt) (A : ArmsAt) → SimE e P → SimR r Q → SimA a A →
        Simulates (record { head = h; shape = s; evaluate = e; reach = r; arm = a }) (record { head = h; shape = s; evaluates = P; reaches = Q; arm = A })

  pub data SimulatesAll : List (Meaning W) → List NodeCode → Type 1 where
    none_simulated : SimulatesAll [] []
    one_simulated : (m : Meaning W) (d : NodeCode) (ms : List (Meaning W)) (ds : List NodeCode) → Simulates m d → SimulatesAll ms ds → SimulatesAll (m ∷ ms) (d ∷ ds)

  pub data SimulatesIfAny : Option (Meaning W) → CodeIfAny → Type 1 where
    without : SimulatesIfAny None no_code
    with_one : (m : Meaning W) (d : NodeCode) → Simulates m d → SimulatesIfAny (Some m) (a_code d)

  same_keys : (ms : List (Meaning W)) (ds : List NodeCode) → SimulatesAll ms ds → forms.keys_of ms ≡ keys_of ds
  same_keys _ _ none_simulated = refl
  same_keys _ _ (one_simulated _ _ ms ds (simulated h s e r a P Q A se sr sa) all) = ap (λ keys. h.id ∷ keys) (same_keys ms ds all)

  pub same_moved : (number : ℕ) (ms : List (Meaning W)) (ds : List NodeCode) → SimulatesAll ms ds → forms.all_moved number ms ≡ all_moved number ds
  same_moved number _ _ none_simulated = refl
  same_moved number _ _ (one_simulated _ _ ms ds (simulated h s e r a P Q A se sr sa) all) = ap (λ list. moved number h.id ∷ list) (same_moved number ms ds all)

  pub deliver_sim : (h : NodeHead) (action : EffectSite → Action) (to : Destination) (c : Ways) → Sim c (deliver t.items keyed h action to) (Delivers t h action to)
  deliver_sim h action (Into key) c S b S' b' within k w l = act_sim walking c (action (site_in h.id key)) S b S' b' within k w l
  deliver_sim h action (Coerced key trait_no to) c S b S' b' within k w l =
      then_sim walking c _ _ _ _ (act_sim walking c (action (site_in h.id key))) (act_sim walking c (effects.Unsize (site_in h.id to) trait_no (moved h.id key))) S b S' b' within k w l

  pub own_sim : (h : NodeHead) (own : Bool) (f : Does W) (P : CodeSpot) (c : Ways) → Sim c f P → Sim c (in_own_scope t.items keyed h own f) (InOwnScope t h own P)
  own_sim h true f P c sim = in_scope_sim walking h.id true c f P sim
  own_sim h false f P c sim = sim

  operand_sim : (around : LoopsAndGuards) (c : Ways) (m : Meaning W) (d : NodeCode) → Simulates m d → Sim c (operand t.items keyed around m) (OperandAt t around c d)
  operand_sim around c _ _ (simulated h s e r a P Q A se sr sa) =
      after_sim walking c _ _ (pending_if t s.in_destination innermost h) (changed_keeps walking s.in_destination _ (innermost_keeps walking (with_pending (entry_of h))))
      (then_sim walking c (e around false (Into h.id)) _ (P around c false (Into h.id)) _ (se around c false (Into h.id)) (changes_sim walking c _ (innermost_keeps walking (becomes_entry (entry_of h)))))

  operands_sim : (around : LoopsAndGuards) (c : Ways) (ms : List (Meaning W)) (ds : List NodeCode) → SimulatesAll ms ds → Sim c (operands t.items keyed around ms) (OperandsAt t around c ds)
  operands_sim around c _ _ none_simulated = changes_sim walking c (λ S. S) (λ S. refl)
  operands_sim around c _ _ (one_simulated m d ms ds one all) = then_sim walking c _ _ _ _ (operand_sim around c m d one) (operands_sim around c ms ds all)

  pub acting_sim : (h : NodeHead) (around : LoopsAndGuards) (c : Ways) (own : Bool) (ms : List (Meaning W)) (ds : List NodeCode) → SimulatesAll ms ds → (act : Does W) (P : CodeSpot) → Sim c act P →
      Sim c (acting t.items keyed h around own ms act) (ActingAt t h around c own ds P)
  acting_sim h around c own ms ds all act P sim =
      subst (λ keys. Sim c (acting t.items keyed h around own ms act) (InScope t h.id own (Then (OperandsAt t around c ds) (After (taken t keys) P))))
      (same_keys ms ds all)
      (in_scope_sim walking h.id own c _ _
      (then_sim walking c (operands t.items keyed around ms) _ _ _ (operands_sim around c ms ds all)
      (after_sim walking c act P (taken t (forms.keys_of ms)) (innermost_keeps walking (without_operands (forms.keys_of ms))) sim)))

  pub dropping_sim : (h : NodeHead) (around : LoopsAndGuards) (c : Ways) (own : Bool) (m : Meaning W) (d : NodeCode) → Simulates m d → (act : Does W) (P : CodeSpot) → Sim c act P →
      Sim c (dropping t.items keyed h around own m act) (DroppingAt t h around c own d P)
  dropping_sim h around c own m d one act P sim = in_scope_sim walking h.id own c _ _ (then_sim walking c _ _ _ _ (operand_sim around c m d one) sim)

  pub temporary_sim : (h : NodeHead) (s : Shape) (e : LoopsAndGuards → Bool → Destination → Does W) (P : EvaluatesAt) → SimE e P → SimR (temporary t.items keyed h s e) (TemporaryAt t h s P)
  temporary_sim h s e P sim around c =
      after_sim walking c _ _ (pending_if t s.in_destination nearest_temporary h) (changed_keeps walking s.in_destination _ (nearest_keeps walking (with_pending (entry_of h))))
      (then_sim walking c (e around false (Into h.id)) _ (P around c false (Into h.id)) _ (sim around c false (Into h.id)) (changes_sim walking c _ (nearest_keeps walking (becomes_entry (entry_of h)))))

  pub use_sim : (h : NodeHead) (s : Shape) (r : LoopsAndGuards → Does W) (Q : ReachesAt) → SimR r Q → SimE (use_of_place t.items keyed h s r) (UseAt t h s Q)
  use_sim h s r Q sim around c own to =
      own_sim h own _ _ c (then_sim walking c (r around) _ (Q around c) _ (sim around c) (deliver_sim h (λ site. effects.Put site (operand_at h (s.place around.aliases))) to c))

  -- ---- assignment
  stored_sim : (site : EffectSite) (key : ℕ) (c : Ways) → Sim c (stored t.items keyed site key) (StoresAt t site key)
  stored_sim site key c =
      after_sim walking c _ _ (taken t (key ∷ [])) (innermost_keeps walking (without_operands (key ∷ []))) (act_sim walking c (effects.Put site (moved site.node key)))

  -- the new value is stored after a panic too
  stored_unwinding : (c : Ways) (m n : ℕ) (S' : Scopes) (b' : CodePos) (S : Scopes) (site : EffectSite) (key : ℕ) (u : ℕ) → m ≤ bound → StoresUnwindingAt t site key S u →
      (out : Out W) (v : W) → size v ≤ m → out ≡ Walk u v → Ends c m n S' b' ((stored t.items keyed site key >> At Panics) S v) out
  stored_unwinding c m n S' b' S site key u lm h out v l e =
      by_out (keyed.act (effects.Put site (moved site.node key)) v) (acting_less walking (effects.Put site (moved site.node key)) v (omega arith))
      (stmt_settled walking (effects.Put site (moved site.node key)) (u, 0) h.1 h.3 v (omega arith))
      (e ∙ enters walking u h.0 v (omega arith) ∙ at_stmt walking (effects.Put site (moved site.node key)) (u, 0) h.1 h.3 v
      ∙ ap (λ o. ◌>>=◌ o (From h.1)) (sym (tied.acting (action_at t.local_of (effects.Put site (moved site.node key))) v (omega arith))))
    where
      by_out : (o : Out W) → NoMore size (size v) (renamed without_place o) → NoUnwind (renamed without_place o) → out ≡ ◌>>=◌ (renamed without_place o) (From h.1) →
          Ends c m n S' b' (on_value (in_scopes (taken t (key ∷ []) S) o) (At Panics)) out
      by_out (Go w) k j e = (omega arith, e ∙ leads_walk walking h.1 h.2 h.4 w (omega arith) ∙ clean_walk walking (panic_drops t (taken t (key ∷ []) S)) h.2 h.5 w (omega arith))
      by_out (Unwind w) k j e = absurd j
      by_out (Halts halt w) k j e = e

  replaces_sim : (needs : Bool) (site : EffectSite) (key : ℕ) (c : Ways) → Sim c (replacing t.items keyed needs site key) (ReplacesAt t needs site key)
  replaces_sim false site key c S b S' b' within h w l = stored_sim site key c S b S' b' within h w l
  replaces_sim true site key c S b S' b' within h w l =
      by_out (keyed.drop Normal site w) (subst (NoMore size (size w)) (sym (tied.dropping Normal _ w l)) (laws.dropping Normal _ w))
      (at_term walking (Term.DropAt h.0 h.1 (graph.Unwind.Block h.2)) b h.3 w ∙ ap (λ s. fork (q.drop Normal s w) (Walk h.1) (Walk h.2)) h.4
      ∙ ap (λ o. fork o (Walk h.1) (Walk h.2)) (sym (tied.dropping Normal _ w l)))
    where
      by_out : (o : Out W) → NoMore size (size w) (renamed without_place o) → From b w ≡ fork (renamed without_place o) (Walk h.1) (Walk h.2) →
          Ends c (size w) (length S) S' b' (stored_after t.items keyed site key S o) (From b w)
      by_out (Go v) k e =
          pre walking c (size v) (size w) (length S) S' b' (stored t.items keyed site key S v) (From b w) (From (h.1, 0) v) k (e ∙ enters walking h.1 h.5 v (omega arith))
          (stored_sim site key c S (h.1, 0) S' b' within h.6 v (omega arith))
      by_out (Unwind v) k e = stored_unwinding c (size w) (length S) S' b' S site key h.2 l h.7 (From b w) v k e
      by_out (Halts halt v) k e = e

  pub assigning_sim : (h : NodeHead) (place value : Meaning W) (dp dv : NodeCode) → Simulates place dp → Simulates value dv →
      SimE (assigning t.items keyed h place value) (AssignAt t h dp dv)
  assigning_sim h _ value _ dv (simulated ph ps pe pr pa pP pQ pA spe spr spa) sv around c own to =
      in_scope_sim walking h.id own c _ _
      (then_sim walking c _ _ _ _ (operand_sim around c value dv sv)
      (then_sim walking c (pr around) _ (pQ around c) _ (spr around c)
      (then_sim walking c _ _ _ _ (key_sim sv) (deliver_sim h (λ site. effects.Put site effects.UnitValue) to c))))
    where
      key_sim : {m : Meaning W} {d : NodeCode} → Simulates m d →
          Sim c (replacing t.items keyed (needs_drop t.items ph.ty) (site_at ph (ps.place around.aliases)) m.head.id)
          (ReplacesAt t (needs_drop t.items ph.ty) (site_at ph (ps.place around.aliases)) d.head.id)
      key_sim (simulated h s e r a P Q A se sr sa) = replaces_sim (needs_drop t.items ph.ty) (site_at ph (ps.place around.aliases)) h.id c

  -- ---- choices
  abbrev pub ChoiceEnds : (m : ℕ) (y n : CodePos) → Choice W → Out W → Type 0
  ChoiceEnds m y n (Yes w) out = (size w ≤ m) × (out ≡ From y w)
  ChoiceEnds m y n (No w) out = (size w ≤ m) × (out ≡ From n w)
  ChoiceEnds m y n (Neither halt w) out = out ≡ Halts (without_place halt) w

  -- a test, and where its code stands
  abbrev SimTest : (W → Choice W) → (CodePos → CodePos → CodePos → Type 0) → Type 0
  SimTest f P = (b y n : CodePos) → P b y n → (w : W) → size w ≤ bound → ChoiceEnds (size w) y n (f w) (From b w)

  branch_ends : (m : ℕ) (y n : ℕ) (o : Choice W) (out : Out W) → m ≤ bound → StepAt t y → StepAt t n →
      NoMoreOf size m (renamed_choice without_place o) → out ≡ branch (renamed_choice without_place o) (Walk y) (Walk n) → ChoiceEnds m (y, 0) (n, 0) o out
  branch_ends m y n (Yes w) out k py pn l e = (l, e ∙ enters walking y py w (omega arith))
  branch_ends m y n (No w) out k py pn l e = (l, e ∙ enters walking n pn w (omega arith))
  branch_ends m y n (Neither halt w) out k py pn l e = e

  pub truth_sim : (operand : effects.Operand) → SimTest (keyed.choose (effects.IsTrue operand)) (IfAt t operand)
  truth_sim operand b y n h w l =
      subst (λ z. ChoiceEnds (size w) z n (keyed.choose (effects.IsTrue operand) w) (From b w)) (sym h.5.1)
      (subst (λ z. ChoiceEnds (size w) (h.1, 0) z (keyed.choose (effects.IsTrue operand) w) (From b w)) (sym h.6.1)
      (branch_ends (size w) h.1 h.2 (keyed.choose (effects.IsTrue operand) w) (From b w) l h.5.0 h.6.0
      (subst (NoMoreOf size (size w)) (sym (tied.choosing _ w l)) (laws.choosing _ w))
      (at_term walking (Term.If h.0 h.1 h.2) b h.3 w ∙ ap (λ o. branch (q.choose (effects.IsTrue o) w) (Walk h.1) (Walk h.2)) h.4
      ∙ ap (λ o. branch o (Walk h.1) (Walk h.2)) (sym (tied.choosing _ w l)))))

  pub variant_sim : (site : EffectSite) (variant : ℕ) → SimTest (keyed.choose (effects.HasVariant site variant)) (CaseAt t site variant)
  variant_sim site variant b y n h w l =
      subst (λ z. ChoiceEnds (size w) z n (keyed.choose (effects.HasVariant site variant) w) (From b w)) (sym h.5.1)
      (subst (λ z. ChoiceEnds (size w) (h.1, 0) z (keyed.choose (effects.HasVariant site variant) w) (From b w)) (sym h.6.1)
      (branch_ends (size w) h.1 h.2 (keyed.choose (effects.HasVariant site variant) w) (From b w) l h.5.0 h.6.0
      (subst (NoMoreOf size (size w)) (sym (tied.choosing _ w l)) (laws.choosing _ w))
      (at_term walking (Term.Case h.0 variant h.1 h.2) b h.3 w ∙ ap (λ s. branch (q.choose (effects.HasVariant s variant) w) (Walk h.1) (Walk h.2)) h.4
      ∙ ap (λ o. branch o (Walk h.1) (Walk h.2)) (sym (tied.choosing _ w l)))))

  pub chosen_ends : (c : Ways) (m k : ℕ) (S' : Scopes) (b' y n : CodePos) (o : Choice W) (out : Out W) (f g : W → Run W) → m ≤ bound → ChoiceEnds m y n o out →
      ((w : W) → size w ≤ bound → Ends c (size w) k S' b' (f w) (From y w)) → ((w : W) → size w ≤ bound → Ends c (size w) k S' b' (g w) (From n w)) →
      Ends c m k S' b' (chosen o f g) out
  chosen_ends c m k S' b' y n (Yes w) out f g l h hf hg = pre walking c (size w) m k S' b' (f w) out (From y w) h.0 h.1 (hf w (let j = h.0 in omega arith))
  chosen_ends c m k S' b' y n (No w) out f g l h hf hg = pre walking c (size w) m k S' b' (g w) out (From n w) h.0 h.1 (hg w (let j = h.0 in omega arith))
  chosen_ends c m k S' b' y n (Neither halt w) out f g l h hf hg = h

  branches_sim : (c : Ways) (test : W → Choice W) (T : CodePos → CodePos → CodePos → Type 0) → SimTest test T → (f g : Does W) (P Q : CodeSpot) → Sim c f P → Sim c g Q →
      Sim c (choosing test f g) (BranchesAt t T P Q)
  branches_sim c test T tests f g P Q sf sg S b S' b' within h w l =
      chosen_ends c (size w) (length S) S' b' h.0 h.1 (test w) (From b w) (f S) (g S) l (tests b h.0 h.1 h.2 w l)
      (λ v k. joins_sim walking c f P sf S h.0 S' b' within h.3 v k) (λ v k. joins_sim walking c g Q sg S h.1 S' b' within h.4 v k)

  pub condition_sim : (around : LoopsAndGuards) (c : Ways) (m : Meaning W) (d : NodeCode) → Simulates m d → (f g : Does W) (P Q : CodeSpot) → Sim c f P → Sim c g Q →
      Sim c (condition t.items keyed around m f g) (ConditionAt t around c d P Q)
  condition_sim around c _ _ (simulated h s e r a Pe Qr A se sr sa) f g P Q sf sg =
      then_sim walking c _ _ _ _ (back_sim walking c (e around true (Into h.id)) (Pe around c true (Into h.id)) (se around c true (Into h.id)))
      (branches_sim c _ _ (truth_sim (moved h.id h.id)) f g P Q sf sg)

  pub branch_sim : (around : LoopsAndGuards) (c : Ways) (to : Destination) (m : Option (Meaning W)) (d : CodeIfAny) → SimulatesIfAny m d → (f : Does W) (P : CodeSpot) → Sim c f P →
      Sim c (forms.branch t.items keyed around to m f) (BranchAt t around c to d P)
  branch_sim around c to _ _ without f P sim = sim
  branch_sim around c to _ _ (with_one _ _ (simulated h s e r a Pe Qr A se sr sa)) f P sim = back_sim walking c (e around true to) (Pe around c true to) (se around c true to)

  pub unit_sim : (h : NodeHead) (to : Destination) (c : Ways) → Sim c (put_unit t.items keyed h to) (PutsUnit t h to)
  unit_sim h to c = deliver_sim h (λ site. effects.Put site effects.UnitValue) to c
