-- What is lowered holds its code: the arms of a `match`, with their guards.
use Rattle.std.proofs.Common.{◌≡◌, inl, inr, ℕ, ◌&&◌, ◌||◌, Bool, true, false, List, length, refl, sym, ◌∙◌, subst, arith}
use Rattle.cfg_graph.specs.declared.graph.Kind.{Kind}
use Rattle.cfg_graph.specs.Edges.{targets}
use Rattle.store_model.specs.Places.Place.{Place}
use Rattle.src_meaning.specs.Forms.{Destination, Into, LoopsAndGuards, in_guard, moved}
use Rattle.src_meaning.specs.Scopes.{Scopes}
use Rattle.src_meaning.specs.Shape.{NodeHead, BoundName}
use Rattle.lower_rules.specs.Rules.{EvaluatesAt, ArmsAt, NodeCode, CodeIfAny, no_code, ArmsInOrderAt, MatchAt, TakenArmAt, IfTakenElse, GuardedAt, ArmAt}
use Rattle.lower_rules.specs.Spots.{CodeTarget, CodePos, Ways, CodeSpot, Then, BackIn, panic_drops, StepAt, Leads, Joins}
use Rattle.lower_rules.specs.Build as build
use Rattle.lower_rules.specs.Build.{LoweringFrame, BlockRest, Building, closed, closing, jumps_if, Lowers, back_in, joined, if_true}
use Rattle.lower_rules.specs.Lower as lower
use Rattle.lower_rules.specs.Lower.{Evaluates, LowersArm, NodeLower, LowerIfAny, no_lower}
use Rattle.lower_rules.proofs.LaidBlocks as laid
use Rattle.lower_rules.proofs.LaidEffects as effect_rules
use Rattle.lower_rules.proofs.LaidScopes as scope_rules
use Rattle.lower_rules.proofs.LaidBranches as branch_rules
use Rattle.lower_rules.proofs.LaidBlocks.{Grows, grows_on, closed_grows, closed_length, closed_ranked, Given, given_more, Ranked, LeadsOn, JumpWays, IsUsed, BlockGiven, ways_more, ways_first, ways_second}
use Rattle.lower_rules.proofs.LoweredRules as lowered_rules
use Rattle.lower_rules.proofs.LoweredRules.{one_lowers, lowers_as, without, with_one, none_lower, own_lowers, scrutinised_lowers, taken_lowers, taken_after}

module _ (t : CodeTarget) where
  abbrev f : LoweringFrame
  f = laid.f t

  abbrev L : Lowers → (Ways → CodeSpot) → Type 0
  L P sp = laid.Lowered t P sp

  abbrev LoweredArm : (a : LowersArm) (spot : CodePos → Ways → CodeSpot) → Type 0
  LoweredArm = lowered_rules.LoweredArm t

  abbrev LowersE : Evaluates → EvaluatesAt → Type 0
  LowersE e P = (around : LoopsAndGuards) (own : Bool) (to : Destination) → L (e around own to) (λ c. P around c own to)

  abbrev LowersA : (Place → LoopsAndGuards → Destination → LowersArm) → ArmsAt → Type 0
  LowersA a A = (matched : Place) (around : LoopsAndGuards) (to : Destination) → LoweredArm (a matched around to) (λ rest c. A matched rest around c to)

  abbrev LowersAs : NodeLower → NodeCode → Type 1
  LowersAs = lowered_rules.LowersAs t

  abbrev AllLower : List NodeLower → List NodeCode → Type 1
  AllLower = lowered_rules.AllLower t

  abbrev IfAnyLowers : LowerIfAny → CodeIfAny → Type 1
  IfAnyLowers = lowered_rules.IfAnyLowers t

  -- ---- arms
  true_first : (y z : Bool) → y ≡ true → y || z ≡ true
  true_first true z e = refl
  true_first false z e = absurd (let never : false ≡ true = e in cc)

  true_second : (y z : Bool) → z ≡ true → y || z ≡ true
  true_second true z e = refl
  true_second false z e = e

  module _ (P : Lowers) (sp : Ways → CodeSpot) (lp : L P sp) (same : (S : Scopes) → P.after S ≡ S) where
    unguarded : (around : LoopsAndGuards) (bounds : List BoundName) → LoweredArm (lower.guarded f around bounds no_lower P) (λ rest c. GuardedAt t around c bounds no_code (Joins t (sp c)) rest)
    unguarded around bounds = record {
      grows = λ c S r k s. lp.grows c S k s;
      holds = λ c S r k s u later chains step.
          let it = lp.holds c S k s u later chains in
          (it.0, λ b st S' b' on. branch_rules.may_join t P.has_end P sp c S S k b (it.1 b st) (same S) S' b' on);
      ranks = λ c S r k s w h l g. lp.ranks c S k s w h l;
      tidies = λ c S r k s w later h l g. lp.tidies c S k s w later h l;
    }

    module _ (asked : Lowers) (sa : Ways → CodeSpot) (key : ℕ) (la : L asked (λ c. BackIn (sa c))) (back : (S : Scopes) → asked.after S ≡ S) where
      abbrev guard_code : Bool → Ways → Scopes → ℕ → BlockRest → Building → BlockRest × Building
      guard_code x c S r k s = lower.guard_from f x asked key P c S r k s

      abbrev test_code : Ways → Scopes → ℕ → BlockRest → Building → BlockRest × Building
      test_code c S r k s = let done = closing (P.build c S k s) in if_true f (moved key key) key done.0 r done.1

      abbrev done_at : Ways → Scopes → BlockRest → Building → ℕ
      done_at c S k s = length (P.build c S k s).1.blocks

      abbrev done : Ways → Scopes → BlockRest → Building → Building
      done c S k s = closed Kind.Plain (P.build c S k s).0 (P.build c S k s).1

      done_grows : (c : Ways) (S : Scopes) (k : BlockRest) (s : Building) → Grows s (done c S k s)
      done_grows c S k s = grows_on s (P.build c S k s).1 _ (lp.grows c S k s) (closed_grows Kind.Plain (P.build c S k s).0 (P.build c S k s).1)

      guard_grows : (x : Bool) (c : Ways) (S : Scopes) (r : ℕ) (k : BlockRest) (s : Building) → Grows s (guard_code x c S r k s).1
      guard_grows true c S r k s = grows_on s (done c S k s) _ (done_grows c S k s) (la.grows c S (test_code c S r k s).0 (done c S k s))
      guard_grows false c S r k s = la.grows c S k s

      abbrev guard_spot : CodePos → Ways → CodeSpot
      guard_spot rest c = Then (BackIn (sa c)) (IfTakenElse t (moved key key) (Joins t (sp c)) rest)

      guard_ends : (x : Bool) (c : Ways) (S : Scopes) (k1 : BlockRest) (b rest : CodePos) → laid.CodeEnds t x asked (λ c. BackIn (sa c)) c S k1 b → (S' : Scopes) (b' : CodePos) →
          (x ≡ true → (m : CodePos) → laid.Stands t k1 m → IfTakenElse t (moved key key) (Joins t (sp c)) rest S m S' b') → guard_spot rest c S b S' b'
      guard_ends true c S k1 b rest h S' b' on =
          inr (asked.after S, h.0, h.2, subst (λ z. IfTakenElse t (moved key key) (Joins t (sp c)) rest z h.0 S' b') (sym (back S)) (on refl h.0 h.1))
      guard_ends false c S k1 b rest h S' b' on = inl h

      and_true : (y z : Bool) → y ≡ true → z ≡ true → y && z ≡ true
      and_true true z e d = d
      and_true false z e d = e

      guard_holds : (x : Bool) (c : Ways) (S : Scopes) (r : ℕ) →
          ((k : BlockRest) (s : Building) → laid.Later t (asked.build c S k s).1 → laid.SharedStand t s → laid.CodeStands t x asked (λ c. BackIn (sa c)) c S k (asked.build c S k s)) →
          JumpWays IsUsed c (jumps_if x P.jumps) → (k : BlockRest) (s : Building) → laid.Later t (guard_code x c S r k s).1 → laid.SharedStand t s → StepAt t r →
          laid.SharedStand t (guard_code x c S r k s).1 × ((b : CodePos) → laid.Stands t (guard_code x c S r k s).0 b → (S' : Scopes) (b' : CodePos) →
          (x && P.has_end ≡ true → (S' ≡ S) × ((m : CodePos) → laid.Stands t k m → Leads t m b')) → guard_spot (r, 0) c S b S' b')
      guard_holds true c S r ha u k s later chains step =
          let l1 = laid.later_before t (done c S k s) _ (la.grows c S (test_code c S r k s).0 (done c S k s)) later in
          let l0 = laid.later_before t (P.build c S k s).1 (done c S k s) (closed_grows Kind.Plain (P.build c S k s).0 (P.build c S k s).1) l1 in
          let p = lp.holds c S k s u l0 chains in
          let test = scope_rules.if_made t (moved key key) key refl (done_at c S k s) r (done c S k s) in
          let tested = test.1 p.0 l1 (laid.plain_stands t (P.build c S k s).0 (P.build c S k s).1 l1) step in
          let g = ha (test_code c S r k s).0 (done c S k s) later tested.0 in
          let p_ends = p.1 (done_at c S k s, 0) (laid.closed_stands t Kind.Plain (P.build c S k s).0 (P.build c S k s).1 l1) in (
            g.0,
            λ b st S' b' on. guard_ends true c S (test_code c S r k s).0 b (r, 0) (g.1 b st) S' b'
                (λ e m sm. ((done_at c S k s, 0), tested.1 m sm, branch_rules.may_join t P.has_end P sp c S S k (done_at c S k s, 0) p_ends (same S) S' b' on)),
          )
      guard_holds false c S r ha u k s later chains step =
          let g = ha k s later chains in
          (g.0, λ b st S' b' on. inl (g.1 b st))

      guard_ranks : (x : Bool) (c : Ways) (S : Scopes) (r : ℕ) (k : BlockRest) (s : Building) → JumpWays (BlockGiven (length s.blocks)) c asked.jumps → JumpWays (BlockGiven (length s.blocks)) c (jumps_if x P.jumps) →
          Ranked s → LeadsOn k s → Given (length s.blocks) r → Ranked (guard_code x c S r k s).1 × LeadsOn (guard_code x c S r k s).0 (guard_code x c S r k s).1
      guard_ranks true c S r k s wa wp h l g =
          let p = lp.ranks c S k s wp h l in
          let h1 = closed_ranked Kind.Plain (P.build c S k s).0 (P.build c S k s).1 p.0 p.1 in
          let j = closed_length Kind.Plain (P.build c S k s).0 (P.build c S k s).1 in
          let more = done_grows c S k s in
          la.ranks c S (test_code c S r k s).0 (done c S k s) (ways_more (length s.blocks) (length (done c S k s).blocks) more.longer c asked.jumps wa) h1
          ((g.0, (let g1 = g.1 in let a = more.longer in omega arith)), ((p.0.begun, omega arith), tt))
      guard_ranks false c S r k s wa wp h l g = la.ranks c S k s wa h l

      guard_tidies : (x : Bool) (c : Ways) (S : Scopes) (r : ℕ) (k : BlockRest) (s : Building) → JumpWays (laid.PlainWay t) c asked.jumps → JumpWays (laid.PlainWay t) c (jumps_if x P.jumps) →
          laid.Later t (guard_code x c S r k s).1 → laid.Tidy t s → laid.RestWell t k → laid.KindAt t false r → laid.TidyAfter t (guard_code x c S r k s)
      guard_tidies true c S r k s wa wp later h l g =
          let l1 = laid.later_before t (done c S k s) _ (la.grows c S (test_code c S r k s).0 (done c S k s)) later in
          let l0 = laid.later_before t (P.build c S k s).1 (done c S k s) (closed_grows Kind.Plain (P.build c S k s).0 (P.build c S k s).1) l1 in
          let p = lp.tidies c S k s wp l0 h l in
          la.tidies c S (test_code c S r k s).0 (done c S k s) wa later (laid.closed_tidy t Kind.Plain (P.build c S k s).0 (P.build c S k s).1 p.0 p.1)
          (((g, (laid.kind_stands t Kind.Plain (P.build c S k s).0 (P.build c S k s).1 l1, tt)), tt, refl, tt), tt)
      guard_tidies false c S r k s wa wp later h l g = la.tidies c S k s wa later h l

    guarded_lowers : (around : LoopsAndGuards) (bounds : List BoundName) (g : LowerIfAny) (d : CodeIfAny) → IfAnyLowers g d →
        LoweredArm (lower.guarded f around bounds g P) (λ rest c. GuardedAt t around c bounds d (Joins t (sp c)) rest)
    guarded_lowers around bounds _ _ without = unguarded around bounds
    guarded_lowers around bounds _ _ (with_one _ _ (lowers_as h s e r a Pe Qr A sn se sr sa)) =
        let asked = back_in (e (in_guard bounds around) true (Into h.id)) in
        let la = effect_rules.back_lowered t _ _ (se (in_guard bounds around) true (Into h.id)) in
        record {
          grows = λ c S r k s. guard_grows asked (λ c. Pe (in_guard bounds around) c true (Into h.id)) h.id la (λ S. refl) asked.has_end c S r k s;
          holds = λ c S r k s u later chains step.
              guard_holds asked (λ c. Pe (in_guard bounds around) c true (Into h.id)) h.id la (λ S. refl) asked.has_end c S r
              (λ k s later chains. la.holds c S k s (ways_first IsUsed c asked.jumps (jumps_if asked.has_end P.jumps) u) later chains)
              (ways_second IsUsed c asked.jumps (jumps_if asked.has_end P.jumps) u) k s later chains step;
          ranks = λ c S r k s w h2 l g.
              guard_ranks asked (λ c. Pe (in_guard bounds around) c true (Into h.id)) h.id la (λ S. refl) asked.has_end c S r k s
              (ways_first (BlockGiven (length s.blocks)) c asked.jumps (jumps_if asked.has_end P.jumps) w)
              (ways_second (BlockGiven (length s.blocks)) c asked.jumps (jumps_if asked.has_end P.jumps) w) h2 l g;
          tidies = λ c S r k s w later h2 l g.
              guard_tidies asked (λ c. Pe (in_guard bounds around) c true (Into h.id)) h.id la (λ S. refl) asked.has_end c S r k s
              (ways_first (laid.PlainWay t) c asked.jumps (jumps_if asked.has_end P.jumps) w)
              (ways_second (laid.PlainWay t) c asked.jumps (jumps_if asked.has_end P.jumps) w) later h2 l g;
        }

  pub arm_lowers : (h : NodeHead) (pattern : NodeLower) (dp : NodeCode) → LowersAs pattern dp → (g : LowerIfAny) (dg : CodeIfAny) → IfAnyLowers g dg → (m : NodeLower) (d : NodeCode) → LowersAs m d →
      LowersA (lower.arm f h pattern g m) (ArmAt t h dp dg d)
  arm_lowers h _ _ (lowers_as ph ps pe pr pa pP pQ pA pn spe spr spa) g dg lg m d one matched around to = record {
    grows = λ c S r k s.
        let b = code_of.build c S r k s in
        grows_on s b.1 _ (code_lowered.grows c S r k s) (grows_on b.1 (closed Kind.Plain b.0 b.1) _ (closed_grows Kind.Plain b.0 b.1)
        (scope_rules.tests_made t (ps.tests matched) (length b.1.blocks) r (closed Kind.Plain b.0 b.1)).0);
    holds = λ c S r k s u later chains step.
        let b = code_of.build c S r k s in
        let made = closed Kind.Plain b.0 b.1 in
        let test = scope_rules.tests_made t (ps.tests matched) (length b.1.blocks) r made in
        let l1 = laid.later_before t made _ test.0 later in
        let l0 = laid.later_before t b.1 made (closed_grows Kind.Plain b.0 b.1) l1 in
        let it = code_lowered.holds c S r k s u l0 chains step in
        let tested = test.1 it.0 later (laid.plain_stands t b.0 b.1 l1) step in
        (tested.0, λ at st S' b' on. ((length b.1.blocks, 0), tested.1 at st, it.1 (length b.1.blocks, 0) (laid.closed_stands t Kind.Plain b.0 b.1 l1) S' b' on));
    ranks = λ c S r k s w h2 l g.
        let b = code_of.build c S r k s in
        let it = code_lowered.ranks c S r k s w h2 l g in
        let j = closed_length Kind.Plain b.0 b.1 in
        (scope_rules.tests_made t (ps.tests matched) (length b.1.blocks) r (closed Kind.Plain b.0 b.1)).2 (closed_ranked Kind.Plain b.0 b.1 it.0 it.1) (it.0.begun, omega arith)
        (scope_rules.given_on t (length s.blocks) (length (closed Kind.Plain b.0 b.1).blocks) r (let a = (code_lowered.grows c S r k s).longer in omega arith) g);
    tidies = λ c S r k s w later h2 l g.
        let b = code_of.build c S r k s in
        let made = closed Kind.Plain b.0 b.1 in
        let test = scope_rules.tests_made t (ps.tests matched) (length b.1.blocks) r made in
        let l1 = laid.later_before t made _ test.0 later in
        let l0 = laid.later_before t b.1 made (closed_grows Kind.Plain b.0 b.1) l1 in
        let it = code_lowered.tidies c S r k s w l0 h2 l g in
        test.3 later (laid.closed_tidy t Kind.Plain b.0 b.1 it.0 it.1) (laid.kind_stands t Kind.Plain b.0 b.1 l1) g;
  }
    where
      bounds : List BoundName
      bounds = ps.bindings matched

      code_of : LowersArm
      code_of = lower.guarded f around bounds g (lower.taken_arm f h around bounds m to)

      code_lowered : LoweredArm code_of (λ rest c. GuardedAt t around c bounds dg (Joins t (TakenArmAt t h around c bounds d to)) rest)
      code_lowered =
          guarded_lowers (lower.taken_arm f h around bounds m to) (λ c. TakenArmAt t h around c bounds d to) (taken_lowers t h around bounds (pn matched) m d one to) (taken_after t h around bounds m to) around bounds g dg lg

  -- the last arm first: behind it a panic
  module _ (number : ℕ) (matched : Place) (around : LoopsAndGuards) (to : Destination) where
    arms_grow : (ms : List NodeLower) (ds : List NodeCode) → AllLower ms ds → (c : Ways) (S : Scopes) (k : BlockRest) (s : Building) → Grows s (lower.arms_from f number ms matched around to c S k s).1
    arms_grow _ _ none_lower c S k s = effect_rules.unwind_grows t (panic_drops t S) s
    arms_grow _ _ (one_lowers _ _ ms ds (lowers_as h sh e r a P Q A sn se sr sa) all) c S k s =
        let b = lower.arms_from f number ms matched around to c S k s in
        grows_on s b.1 _ (arms_grow ms ds all c S k s) (grows_on b.1 (closed Kind.Plain b.0 b.1) _ (closed_grows Kind.Plain b.0 b.1)
        ((sa matched around to).grows c S (length b.1.blocks) k (closed Kind.Plain b.0 b.1)))

    arms_hold : (ms : List NodeLower) (ds : List NodeCode) → AllLower ms ds → (c : Ways) (S : Scopes) (k : BlockRest) (s : Building) → JumpWays IsUsed c (lower.arm_jumps f ms matched around to) →
        laid.Later t (lower.arms_from f number ms matched around to c S k s).1 → laid.SharedStand t s →
        laid.SharedStand t (lower.arms_from f number ms matched around to c S k s).1 × ((b : CodePos) → laid.Stands t (lower.arms_from f number ms matched around to c S k s).0 b → (S' : Scopes) (b' : CodePos) →
        (lower.arms_end f ms matched around to ≡ true → (S' ≡ S) × ((m : CodePos) → laid.Stands t k m → Leads t m b')) → ArmsInOrderAt t ds matched around c to S b S' b')
    arms_hold _ _ none_lower c S k s u later chains =
        let made = effect_rules.unwind_made t (panic_drops t S) s chains later in
        (made.0, λ b st S' b' on. ((build.unwind_to f (panic_drops t S) s).0, laid.ends_with t _ number b st, made.1))
    arms_hold _ _ (one_lowers _ _ ms ds (lowers_as h sh e r a P Q A sn se sr sa) all) c S k s u later chains =
        let b = lower.arms_from f number ms matched around to c S k s in
        let made = closed Kind.Plain b.0 b.1 in
        let arm = sa matched around to in
        let l1 = laid.later_before t made _ (arm.grows c S (length b.1.blocks) k made) later in
        let l0 = laid.later_before t b.1 made (closed_grows Kind.Plain b.0 b.1) l1 in
        let rest = arms_hold ms ds all c S k s (ways_second IsUsed c (a matched around to).jumps (lower.arm_jumps f ms matched around to) u) l0 chains in
        let it = arm.holds c S (length b.1.blocks) k made (ways_first IsUsed c (a matched around to).jumps (lower.arm_jumps f ms matched around to) u) later rest.0 (laid.plain_stands t b.0 b.1 l1) in (
          it.0,
          λ at st S' b' on. (
            (length b.1.blocks, 0),
            it.1 at st S' b' (λ e. on (true_first (a matched around to).has_end (lower.arms_end f ms matched around to) e)),
            rest.1 (length b.1.blocks, 0) (laid.closed_stands t Kind.Plain b.0 b.1 l1) S' b' (λ e. on (true_second (a matched around to).has_end (lower.arms_end f ms matched around to) e)),
          ),
        )

    arms_rank : (ms : List NodeLower) (ds : List NodeCode) → AllLower ms ds → (c : Ways) (S : Scopes) (k : BlockRest) (s : Building) →
        JumpWays (BlockGiven (length s.blocks)) c (lower.arm_jumps f ms matched around to) → Ranked s → LeadsOn k s →
        Ranked (lower.arms_from f number ms matched around to c S k s).1 × LeadsOn (lower.arms_from f number ms matched around to c S k s).0 (lower.arms_from f number ms matched around to c S k s).1
    arms_rank _ _ none_lower c S k s w h l = effect_rules.unwind_ranked t (panic_drops t S) s h
    arms_rank _ _ (one_lowers _ _ ms ds (lowers_as hd sh e r a P Q A sn se sr sa) all) c S k s w h l =
        let b = lower.arms_from f number ms matched around to c S k s in
        let made = closed Kind.Plain b.0 b.1 in
        let rest = arms_rank ms ds all c S k s (ways_second (BlockGiven (length s.blocks)) c (a matched around to).jumps (lower.arm_jumps f ms matched around to) w) h l in
        let g = arms_grow ms ds all c S k s in
        let j = closed_length Kind.Plain b.0 b.1 in
        (sa matched around to).ranks c S (length b.1.blocks) k made
        (ways_more (length s.blocks) (length made.blocks) (let i = g.longer in omega arith) c (a matched around to).jumps
        (ways_first (BlockGiven (length s.blocks)) c (a matched around to).jumps (lower.arm_jumps f ms matched around to) w))
        (closed_ranked Kind.Plain b.0 b.1 rest.0 rest.1) (given_more (length s.blocks) (length made.blocks) (let i = g.longer in omega arith) (targets k.term) l) (rest.0.begun, omega arith)

    arms_tidy : (ms : List NodeLower) (ds : List NodeCode) → AllLower ms ds → (c : Ways) (S : Scopes) (k : BlockRest) (s : Building) → JumpWays (laid.PlainWay t) c (lower.arm_jumps f ms matched around to) →
        laid.Later t (lower.arms_from f number ms matched around to c S k s).1 → laid.Tidy t s → laid.RestWell t k → laid.TidyAfter t (lower.arms_from f number ms matched around to c S k s)
    arms_tidy _ _ none_lower c S k s w later h l = let u = effect_rules.unwind_tidy t (panic_drops t S) s h later in (u.0, ((tt, u.1, refl, tt), tt))
    arms_tidy _ _ (one_lowers _ _ ms ds (lowers_as hd sh e r a P Q A sn se sr sa) all) c S k s w later h l =
        let b = lower.arms_from f number ms matched around to c S k s in
        let made = closed Kind.Plain b.0 b.1 in
        let arm = sa matched around to in
        let l1 = laid.later_before t made _ (arm.grows c S (length b.1.blocks) k made) later in
        let l0 = laid.later_before t b.1 made (closed_grows Kind.Plain b.0 b.1) l1 in
        let rest = arms_tidy ms ds all c S k s (ways_second (laid.PlainWay t) c (a matched around to).jumps (lower.arm_jumps f ms matched around to) w) l0 h l in
        arm.tidies c S (length b.1.blocks) k made (ways_first (laid.PlainWay t) c (a matched around to).jumps (lower.arm_jumps f ms matched around to) w) later
        (laid.closed_tidy t Kind.Plain b.0 b.1 rest.0 rest.1) l (laid.kind_stands t Kind.Plain b.0 b.1 l1)

    arms_lower : (ms : List NodeLower) (ds : List NodeCode) → AllLower ms ds → L (lower.arms_in_order f number ms matched around to) (λ c. ArmsInOrderAt t ds matched around c to)
    arms_lower ms ds all = record {
      grows = λ c S k s. let j = joined x number k s in grows_on s j.1 _ (branch_rules.joined_grows t x number k s) (arms_grow ms ds all c S j.0 j.1);
      holds = λ c S k s u later chains.
          let j = joined x number k s in
          let l1 = laid.later_before t j.1 _ (arms_grow ms ds all c S j.0 j.1) later in
          let it = arms_hold ms ds all c S j.0 j.1 u later (branch_rules.joined_shared t x number k s chains) in
          (it.0, λ b st. joined_ends x refl c S k s b l1 (it.1 b st));
      ranks = λ c S k s w h l.
          let j = joined x number k s in
          let r = branch_rules.joined_ranked t x number k s h l in
          arms_rank ms ds all c S j.0 j.1 (ways_more (length s.blocks) (length j.1.blocks) (branch_rules.joined_grows t x number k s).longer c (lower.arm_jumps f ms matched around to) w) r.0 r.1;
      tidies = λ c S k s w later h l.
          let j = joined x number k s in
          let r = branch_rules.joined_tidy t x number k s (laid.later_before t j.1 _ (arms_grow ms ds all c S j.0 j.1) later) h l in
          arms_tidy ms ds all c S j.0 j.1 w later r.0 r.1;
    }
      where
        x : Bool
        x = lower.arms_end f ms matched around to

        joined_ends : (y : Bool) → x ≡ y → (c : Ways) (S : Scopes) (k : BlockRest) (s : Building) (b : CodePos) → laid.Later t (joined y number k s).1 →
            ((S' : Scopes) (b' : CodePos) → (x ≡ true → (S' ≡ S) × ((m : CodePos) → laid.Stands t (joined y number k s).0 m → Leads t m b')) → ArmsInOrderAt t ds matched around c to S b S' b') →
            laid.CodeEnds t y (lower.arms_in_order f number ms matched around to) (λ c. ArmsInOrderAt t ds matched around c to) c S k b
        joined_ends true e c S k s b later arms =
            ((length s.blocks, 0), laid.closed_stands t Kind.Plain k s later, arms S (length s.blocks, 0) (λ d. (refl, branch_rules.joined_on t number k s later)))
        joined_ends false e c S k s b later arms = λ S' b'. arms S' b' (λ d. absurd (let never : false ≡ true = sym e ∙ d in cc))

  pub matching_lowers : (h : NodeHead) (m : NodeLower) (d : NodeCode) → LowersAs m d → (ms : List NodeLower) (ds : List NodeCode) → AllLower ms ds → LowersE (lower.matching f h m ms) (MatchAt t h d ds)
  matching_lowers h _ _ (lowers_as mh s e r a P Q A sn se sr sa) ms ds all around own to =
      own_lowers t h own _ _ (effect_rules.then_lowered t _ _ _ _ (scrutinised_lowers t around _ _ (lowers_as mh s e r a P Q A sn se sr sa)) (arms_lower h.id (s.place around.aliases) around to ms ds all))
