-- What the lowering builds of effects, chains of drops and terminators holds the code: one lemma a rule of `Build`.
use Rattle.std.proofs.Common.{◌≡◌, inl, inr, ℕ, suc, ◌==◌, ◌&&◌, Bool, true, false, List, [], ◌∷◌, ◌++◌, length, map, Option, Some, None, if◌then◌else◌, refl, sym, ap, ◌∙◌, subst, arith}
use Rattle.std.proofs.lemmas.Bool.{eqb-true}
use Rattle.std.proofs.lemmas.Option.{same_Some}
use Rattle.cfg_graph.specs.declared.graph.Kind.{Kind}
use Rattle.cfg_graph.specs.declared.statement.Stmt.{Stmt}
use Rattle.cfg_graph.specs.declared.terminator.Term.{Term}
use Rattle.cfg_graph.specs.declared.terminator.Unwind.{Unwind}
use Rattle.cfg_graph.specs.Edges.{is_cleanup_kind, is_turn_kind, targets, unwind_block}
use Rattle.cfg_graph.specs.Places.{named_step}
use Rattle.cfg_meaning.specs.Actions as actions
use Rattle.store_model.specs.Effects as effects
use Rattle.store_model.specs.Effects.{EffectSite, Action}
use Rattle.store_model.specs.Places.Place.{Step, ToPart, ToField, ToContent, ToElement, whole_local}
use Rattle.src_meaning.specs.Locals.Effects.{step_at, site_at, operand_at, action_at}
use Rattle.src_meaning.specs.Scopes.{Entry, Scopes, entry_site}
use Rattle.lower_rules.specs.Spots.{CodeTarget, CodePos, Ways, CodeSpot, Then, Changes, After, Nothing, BackIn, action_of_term, panic_drops, StepAt, CleanAt, Cleans, IsLast, ActionTermAt, Acts, by_statement, by_terminator, by_last_statement, by_last_terminator}
use Rattle.lower_rules.specs.Build as build
use Rattle.lower_rules.specs.Build.{BlockRest, SharedEnd, Resumes, GoesTo, DropsThen, Building, ending, made, closed, same_end, end_among, end_kind, end_rest, listed_at, with_shared, shared_or, share, jumps_if, Lowers, ByStmt, ByTerm, change, nothing, from_changed, back_in, then_build, then_lower, step_of, place_of, chain, unwind_to, unwinding, is_last, act_by, act}
use Rattle.lower_rules.proofs.SharedEnds.{ends_same}
use Rattle.lower_rules.proofs.LaidBlocks.{AllGiven, AllKind, BlockGiven, SharedAt, SharedStand, CodeEnds, CodeStands, Given, Grows, IsUsed, JumpWays, KindAt, Later, LeadsOn, LeadsWell, Lowered, NoFree, PlainWay, Ranked, RestEnds, RestWell, Stands, Tidy, TidyAfter, closed_grows, closed_length, closed_ranked, closed_stands, closed_tidy, ends_with, f, grows_not, grows_on, kind_stands, later_before, plain_stands, step_stands, ways_first, ways_more, ways_second}

module _ (t : CodeTarget) where
  -- ---- one after the other
  module _ (P Q : Lowers) (sp sq : Ways → CodeSpot) (lp : (Lowered t) P sp) (lq : (Lowered t) Q sq) where
    then_grows : (x : Bool) (c : Ways) (S : Scopes) (k : BlockRest) (s : Building) → Grows s (then_build x P Q c S k s).1
    then_grows true c S k s =
        grows_on s (Q.build c (P.after S) k s).1 _ (lq.grows c (P.after S) k s) (lp.grows c S (Q.build c (P.after S) k s).0 (Q.build c (P.after S) k s).1)
    then_grows false c S k s = lp.grows c S k s

    then_code : (x y : Bool) (c : Ways) (S : Scopes) (k k1 : BlockRest) (b : CodePos) → CodeEnds t true P sp c S k1 b → ((m : CodePos) → Stands t k1 m → CodeEnds t y Q sq c (P.after S) k m) →
        CodeEnds t y (then_lower P Q) (λ c. Then (sp c) (sq c)) c S k b
    then_code x true c S k k1 b first second =
        let rest = second first.0 first.1 in (rest.0, rest.1, inr (P.after S, first.0, first.2, rest.2))
    then_code x false c S k k1 b first second = λ S' b'. inr (P.after S, first.0, first.2, second first.0 first.1 S' b')

    then_holds : (x : Bool) (c : Ways) (S : Scopes) →
        ((k : BlockRest) (s : Building) → Later t (P.build c S k s).1 → SharedStand t s → CodeStands t x P sp c S k (P.build c S k s)) → JumpWays IsUsed c (jumps_if x Q.jumps) →
        (k : BlockRest) (s : Building) → Later t (then_build x P Q c S k s).1 → SharedStand t s →
        CodeStands t (x && Q.has_end) (then_lower P Q) (λ c. Then (sp c) (sq c)) c S k (then_build x P Q c S k s)
    then_holds true c S hp u k s later chains =
        let r = Q.build c (P.after S) k s in
        let second = lq.holds c (P.after S) k s u (later_before t r.1 _ (lp.grows c S r.0 r.1) later) chains in
        let first = hp r.0 r.1 later second.0 in
        (first.0, λ b st. then_code true Q.has_end c S k r.0 b (first.1 b st) second.1)
    then_holds false c S hp u k s later chains =
        let first = hp k s later chains in (first.0, λ b st S' b'. inl (first.1 b st))

    then_ranks : (x : Bool) (c : Ways) (S : Scopes) (k : BlockRest) (s : Building) → JumpWays (BlockGiven (length s.blocks)) c P.jumps →
        JumpWays (BlockGiven (length s.blocks)) c (jumps_if x Q.jumps) → Ranked s → LeadsOn k s → Ranked (then_build x P Q c S k s).1 × LeadsOn (then_build x P Q c S k s).0 (then_build x P Q c S k s).1
    then_ranks true c S k s wp wq h l =
        let r = Q.build c (P.after S) k s in
        let second = lq.ranks c (P.after S) k s wq h l in
        lp.ranks c S r.0 r.1 (ways_more (length s.blocks) (length r.1.blocks) (lq.grows c (P.after S) k s).longer c P.jumps wp) second.0 second.1
    then_ranks false c S k s wp wq h l = lp.ranks c S k s wp h l

    then_tidies : (x : Bool) (c : Ways) (S : Scopes) (k : BlockRest) (s : Building) → JumpWays (PlainWay t) c P.jumps → JumpWays (PlainWay t) c (jumps_if x Q.jumps) → Later t (then_build x P Q c S k s).1 → Tidy t s →
        RestWell t k → TidyAfter t (then_build x P Q c S k s)
    then_tidies true c S k s wp wq later h l =
        let r = Q.build c (P.after S) k s in
        let second = lq.tidies c (P.after S) k s wq (later_before t r.1 _ (lp.grows c S r.0 r.1) later) h l in
        lp.tidies c S r.0 r.1 wp later second.0 second.1
    then_tidies false c S k s wp wq later h l = lp.tidies c S k s wp later h l

    pub then_lowered : (Lowered t) (then_lower P Q) (λ c. Then (sp c) (sq c))
    then_lowered = record {
      grows = then_grows P.has_end;
      holds = λ c S k s u later chains.
          then_holds P.has_end c S (λ k s later chains. lp.holds c S k s (ways_first IsUsed c P.jumps (jumps_if P.has_end Q.jumps) u) later chains)
          (ways_second IsUsed c P.jumps (jumps_if P.has_end Q.jumps) u) k s later chains;
      ranks = λ c S k s w h l.
          then_ranks P.has_end c S k s (ways_first (BlockGiven (length s.blocks)) c P.jumps (jumps_if P.has_end Q.jumps) w)
          (ways_second (BlockGiven (length s.blocks)) c P.jumps (jumps_if P.has_end Q.jumps) w) h l;
      tidies = λ c S k s w later h l.
          then_tidies P.has_end c S k s (ways_first (PlainWay t) c P.jumps (jumps_if P.has_end Q.jumps) w) (ways_second (PlainWay t) c P.jumps (jumps_if P.has_end Q.jumps) w) later h l;
    }

  pub change_lowered : (g : Scopes → Scopes) → Lowered t (change g) (λ c. Changes g)
  change_lowered g = record {
    grows = λ c S k s. grows_not s;
    holds = λ c S k s u later chains. (chains, λ b st. (b, st, (refl, refl)));
    ranks = λ c S k s w h l. (h, l);
    tidies = λ c S k s w later h l. (h, l);
  }

  pub nothing_lowered : (Lowered t) nothing (λ c. Nothing)
  nothing_lowered = change_lowered (λ S. S)

  changed_ends : (x : Bool) (g : Scopes → Scopes) (P : Lowers) (sp : Ways → CodeSpot) (c : Ways) (S : Scopes) (k : BlockRest) (b : CodePos) → CodeEnds t x P sp c (g S) k b →
      CodeEnds t x (from_changed g P) (λ c. After g (sp c)) c S k b
  changed_ends true g P sp c S k b h = h
  changed_ends false g P sp c S k b h = h

  pub changed_lowered : (g : Scopes → Scopes) (P : Lowers) (sp : Ways → CodeSpot) → Lowered t P sp → Lowered t (from_changed g P) (λ c. After g (sp c))
  changed_lowered g P sp lp = record {
    grows = λ c S k s. lp.grows c (g S) k s;
    holds = λ c S k s u later chains. let it = lp.holds c (g S) k s u later chains in (it.0, λ b st. changed_ends P.has_end g P sp c S k b (it.1 b st));
    ranks = λ c S k s w h l. lp.ranks c (g S) k s w h l;
    tidies = λ c S k s w later h l. lp.tidies c (g S) k s w later h l;
  }

  back_ends : (x : Bool) (P : Lowers) (sp : Ways → CodeSpot) (c : Ways) (S : Scopes) (k : BlockRest) (b : CodePos) → CodeEnds t x P sp c S k b → CodeEnds t x (back_in P) (λ c. BackIn (sp c)) c S k b
  back_ends true P sp c S k b h = (h.0, h.1, inr (refl, P.after S, h.2))
  back_ends false P sp c S k b h = λ S' b'. inl h

  pub back_lowered : (P : Lowers) (sp : Ways → CodeSpot) → Lowered t P sp → Lowered t (back_in P) (λ c. BackIn (sp c))
  back_lowered P sp lp = record {
    grows = lp.grows;
    holds = λ c S k s u later chains. let it = lp.holds c S k s u later chains in (it.0, λ b st. back_ends P.has_end P sp c S k b (it.1 b st));
    ranks = lp.ranks;
    tidies = lp.tidies;
  }

  -- ---- effects as statements and terminators
  step_same : (step : Step) → named_step (step_of (f t) step) ≡ step_at t.local_of step
  step_same (ToPart n) = refl
  step_same (ToField variant n) = refl
  step_same ToContent = refl
  step_same (ToElement index) = refl

  steps_same : (steps : List Step) → map named_step (map (step_of (f t)) steps) ≡ map (step_at t.local_of) steps
  steps_same [] = refl
  steps_same (step ∷ steps) = λ i. step_same step i ∷ steps_same steps i

  pub site_same : (n : ℕ) (site : EffectSite) → site.node ≡ n → actions.site_of n (place_of (f t) site) ≡ site_at t.local_of site
  site_same n site e = λ i. record { node = sym e i; place = record { local = t.local_of site.place.local; steps = steps_same site.place.steps i } }

  -- all sites have the number of one node; nothing is freed
  abbrev pub OperandOf : ℕ → effects.Operand → Type 0
  OperandOf n (effects.Copied site) = site.node ≡ n
  OperandOf n (effects.Moved site) = site.node ≡ n
  OperandOf n (effects.Number value kind) = Unit {0}
  OperandOf n (effects.Truth value) = Unit {0}
  OperandOf n effects.UnitValue = Unit {0}

  abbrev pub OperandsOf : ℕ → List effects.Operand → Type 0
  OperandsOf n [] = Unit {0}
  OperandsOf n (o ∷ os) = OperandOf n o × OperandsOf n os

  abbrev pub ActionOf : ℕ → Action → Type 0
  ActionOf n (effects.Put to from) = (to.node ≡ n) × OperandOf n from
  ActionOf n (effects.Compare to operator left right) = (to.node ≡ n) × OperandOf n left × OperandOf n right
  ActionOf n (effects.Not to operand) = (to.node ≡ n) × OperandOf n operand
  ActionOf n (effects.Build to kind parts) = (to.node ≡ n) × OperandsOf n parts
  ActionOf n (effects.NewBox to content) = (to.node ≡ n) × OperandOf n content
  ActionOf n (effects.Unsize to trait_no operand) = (to.node ≡ n) × OperandOf n operand
  ActionOf n (effects.Borrow to unique base) = (to.node ≡ n) × (base.node ≡ n)
  ActionOf n (effects.Touch base) = base.node ≡ n
  ActionOf n (effects.Print operand) = OperandOf n operand
  ActionOf n (effects.Forget operand) = OperandOf n operand
  ActionOf n (effects.Free box) = ⊥
  ActionOf n (effects.Compute to operator left right) = (to.node ≡ n) × OperandOf n left × OperandOf n right
  ActionOf n (effects.Negate to operand) = (to.node ≡ n) × OperandOf n operand
  ActionOf n (effects.Bounds index count) = OperandOf n index
  ActionOf n (effects.Call to g args) = (to.node ≡ n) × OperandsOf n args
  ActionOf n (effects.CallVirtual to trait_no method args) = (to.node ≡ n) × OperandsOf n args
  ActionOf n (effects.Ask to) = to.node ≡ n

  pub operand_same : (n : ℕ) (o : effects.Operand) → OperandOf n o → actions.operand_of n (build.operand_of (f t) o) ≡ operand_at t.local_of o
  operand_same n (effects.Copied site) e = ap effects.Copied (site_same n site e)
  operand_same n (effects.Moved site) e = ap effects.Moved (site_same n site e)
  operand_same n (effects.Number value kind) e = refl
  operand_same n (effects.Truth value) e = refl
  operand_same n effects.UnitValue e = refl

  operands_same : (n : ℕ) (os : List effects.Operand) → OperandsOf n os → actions.operands_of n (build.operands_of (f t) os) ≡ map (operand_at t.local_of) os
  operands_same n [] e = refl
  operands_same n (o ∷ os) e = λ i. operand_same n o e.0 i ∷ operands_same n os e.1 i

  -- ---- blocks that are shared
  -- what holds of all shared blocks and of a new one
  with_new : (P : SharedEnd → ℕ → Type 0) (e : SharedEnd) (n : ℕ) (s : Building) → P e n → ((d : SharedEnd) (i m : ℕ) → end_among d (s.shared i) ≡ Some m → P d m) →
      (d : SharedEnd) (i m : ℕ) → end_among d ((with_shared e n s).shared i) ≡ Some m → P d m
  with_new P e n s new old d i m = by_place (i == listed_at e)
    where
      by_end : (x : Bool) → same_end d e ≡ x → (if x then Some n else end_among d (s.shared i)) ≡ Some m → P d m
      by_end true same h = subst (λ j. P d j) (same_Some n m h) (subst (λ z. P z n) (sym (ends_same d e same)) new)
      by_end false same h = old d i m h

      by_place : (x : Bool) → end_among d (if x then (e, n) ∷ s.shared i else s.shared i) ≡ Some m → P d m
      by_place true h = by_end (same_end d e) refl h
      by_place false h = old d i m h

  no_turn : (e : SharedEnd) → is_turn_kind (end_kind (f t) e) ≡ false
  no_turn Resumes = refl
  no_turn (GoesTo block) = refl
  no_turn (DropsThen key onward (Unwind.Block n)) = refl
  no_turn (DropsThen key onward Unwind.Resume) = refl
  no_turn (DropsThen key onward Unwind.Abort) = refl

  abbrev new_shared : SharedEnd → Building → Building
  new_shared e s = closed (end_kind (f t) e) (end_rest (f t) e) s

  pub share_grows : (e : SharedEnd) (s : Building) → Grows s (share (f t) e s).1
  share_grows e s = by_known (end_among e (s.shared (listed_at e)))
    where
      by_known : (o : Option ℕ) → Grows s (shared_or (f t) o e s).1
      by_known (Some n) = grows_not s
      by_known None = let g = closed_grows (end_kind (f t) e) (end_rest (f t) e) s in record { longer = g.longer; keeps = g.keeps }

  pub share_made : (e : SharedEnd) (s : Building) → SharedStand t s → Later t (share (f t) e s).1 → SharedStand t (share (f t) e s).1 × SharedAt t e (share (f t) e s).0
  share_made e s h = by_known (end_among e (s.shared (listed_at e))) refl
    where
      by_known : (o : Option ℕ) → end_among e (s.shared (listed_at e)) ≡ o → Later t (shared_or (f t) o e s).1 → SharedStand t (shared_or (f t) o e s).1 × SharedAt t e (shared_or (f t) o e s).0
      by_known (Some n) known later = (h, h e (listed_at e) n known)
      by_known None known later =
          let here : SharedAt t e (length s.blocks) = (step_stands t (end_kind (f t) e) (end_rest (f t) e) s (no_turn e) later, closed_stands t (end_kind (f t) e) (end_rest (f t) e) s later) in
          (with_new (SharedAt t) e (length s.blocks) (new_shared e s) here h, here)

  pub share_ranked : (e : SharedEnd) (s : Building) → Ranked s → LeadsOn (end_rest (f t) e) s → Ranked (share (f t) e s).1 × Given (length (share (f t) e s).1.blocks) (share (f t) e s).0
  share_ranked e s h l = by_known (end_among e (s.shared (listed_at e))) refl
    where
      by_known : (o : Option ℕ) → end_among e (s.shared (listed_at e)) ≡ o → Ranked (shared_or (f t) o e s).1 × Given (length (shared_or (f t) o e s).1.blocks) (shared_or (f t) o e s).0
      by_known (Some n) known = (h, h.shared e (listed_at e) n known)
      by_known None known =
          let c = closed_ranked (end_kind (f t) e) (end_rest (f t) e) s h l in
          let j = closed_length (end_kind (f t) e) (end_rest (f t) e) s in
          let g : Given (length (new_shared e s).blocks) (length s.blocks) = (h.begun, omega arith) in
          (record { blocks = c.blocks; shared = with_new (λ d n. Given (length (new_shared e s).blocks) n) e (length s.blocks) (new_shared e s) g c.shared; begun = c.begun }, g)

  abbrev pub EndKind : SharedEnd → ℕ → Type 0
  EndKind e n = KindAt t (is_cleanup_kind (end_kind (f t) e)) n

  pub share_tidy : (e : SharedEnd) (s : Building) → Tidy t s → RestEnds t (is_cleanup_kind (end_kind (f t) e)) (end_rest (f t) e) → Later t (share (f t) e s).1 → Tidy t (share (f t) e s).1 × EndKind e (share (f t) e s).0
  share_tidy e s h l = by_known (end_among e (s.shared (listed_at e))) refl
    where
      by_known : (o : Option ℕ) → end_among e (s.shared (listed_at e)) ≡ o → Later t (shared_or (f t) o e s).1 → Tidy t (shared_or (f t) o e s).1 × EndKind e (shared_or (f t) o e s).0
      by_known (Some n) known later = (h, h.shared e (listed_at e) n known)
      by_known None known later =
          let c = closed_tidy t (end_kind (f t) e) (end_rest (f t) e) s h l in
          let here : EndKind e (length s.blocks) = kind_stands t (end_kind (f t) e) (end_rest (f t) e) s later in
          (record { blocks = c.blocks; shared = with_new EndKind e (length s.blocks) (new_shared e s) here c.shared }, here)

  -- ---- chains of drops
  abbrev pub ChainAt : List Entry → ℕ → Type 0
  ChainAt es n = StepAt t n × CleanAt t es (n, 0)

  abbrev drop_end : Entry → List Entry → Building → SharedEnd
  drop_end x es s = DropsThen x.key (chain (f t) es s).0 Unwind.Abort

  pub chain_grows : (es : List Entry) (s : Building) → Grows s (chain (f t) es s).1
  chain_grows [] s = share_grows Resumes s
  chain_grows (x ∷ es) s = grows_on s (chain (f t) es s).1 _ (chain_grows es s) (share_grows (drop_end x es s) (chain (f t) es s).1)

  pub chain_made : (es : List Entry) (s : Building) → SharedStand t s → Later t (chain (f t) es s).1 → SharedStand t (chain (f t) es s).1 × ChainAt es (chain (f t) es s).0
  chain_made [] s h later =
      let made = share_made Resumes s h later in (made.0, (made.1.0, ends_with t Term.Resume 0 ((share (f t) Resumes s).0, 0) made.1.1))
  chain_made (x ∷ es) s h later =
      let r = chain (f t) es s in
      let e = drop_end x es s in
      let rest = chain_made es s h (later_before t r.1 _ (share_grows e r.1) later) in
      let made = share_made e r.1 rest.0 later in
      let n = (share (f t) e r.1).0 in (
        made.0,
        (
          made.1.0,
          (
            place_of (f t) (entry_site x),
            r.0,
            ends_with t (Term.DropAt (place_of (f t) (entry_site x)) r.0 Unwind.Abort) x.key (n, 0) made.1.1,
            site_same (t.node n 0) (entry_site x) (sym made.1.1.2.2),
            rest.1.0,
            rest.1.1,
          ),
        ),
      )

  pub chain_ranked : (es : List Entry) (s : Building) → Ranked s → Ranked (chain (f t) es s).1 × Given (length (chain (f t) es s).1.blocks) (chain (f t) es s).0
  chain_ranked [] s h = share_ranked Resumes s h tt
  chain_ranked (x ∷ es) s h = let rest = chain_ranked es s h in share_ranked (drop_end x es s) (chain (f t) es s).1 rest.0 (rest.1, tt)

  pub chain_tidy : (es : List Entry) (s : Building) → Tidy t s → Later t (chain (f t) es s).1 → Tidy t (chain (f t) es s).1 × KindAt t true (chain (f t) es s).0
  chain_tidy [] s h later = share_tidy Resumes s h (tt, tt) later
  chain_tidy (x ∷ es) s h later =
      let r = chain (f t) es s in
      let rest = chain_tidy es s h (later_before t r.1 _ (share_grows (drop_end x es s) r.1) later) in
      share_tidy (drop_end x es s) r.1 rest.0 ((rest.1, refl, refl), tt) later

  -- where a panic goes on
  pub unwind_grows : (es : List Entry) (s : Building) → Grows s (unwind_to (f t) es s).1
  unwind_grows [] s = grows_not s
  unwind_grows (x ∷ es) s = chain_grows (x ∷ es) s

  pub unwind_made : (es : List Entry) (s : Building) → SharedStand t s → Later t (unwind_to (f t) es s).1 → SharedStand t (unwind_to (f t) es s).1 × Cleans t es (unwind_to (f t) es s).0
  unwind_made [] s h later = (h, refl)
  unwind_made (x ∷ es) s h later = chain_made (x ∷ es) s h later

  pub unwind_ranked : (es : List Entry) (s : Building) → Ranked s → Ranked (unwind_to (f t) es s).1 × AllGiven (length (unwind_to (f t) es s).1.blocks) (unwind_block (unwind_to (f t) es s).0 ++ [])
  unwind_ranked [] s h = (h, tt)
  unwind_ranked (x ∷ es) s h = let c = chain_ranked (x ∷ es) s h in (c.0, (c.1, tt))

  pub unwind_tidy : (es : List Entry) (s : Building) → Tidy t s → Later t (unwind_to (f t) es s).1 → Tidy t (unwind_to (f t) es s).1 × AllKind t true (unwind_block (unwind_to (f t) es s).0 ++ [])
  unwind_tidy [] s h later = (h, tt)
  unwind_tidy (x ∷ es) s h later = let c = chain_tidy (x ∷ es) s h later in (c.0, (c.1, tt))

  -- ---- a terminator with its two ways on
  abbrev two_ways : (ℕ → Unwind → Term) → ℕ → List Entry → BlockRest → Building → BlockRest × Building
  two_ways term node es k s = unwinding (f t) (term (length s.blocks)) node es (closed Kind.Plain k s)

  pub two_grow : (term : ℕ → Unwind → Term) (node : ℕ) (es : List Entry) (k : BlockRest) (s : Building) → Grows s (two_ways term node es k s).1
  two_grow term node es k s = grows_on s (closed Kind.Plain k s) _ (closed_grows Kind.Plain k s) (unwind_grows es (closed Kind.Plain k s))

  pub two_later : (term : ℕ → Unwind → Term) (node : ℕ) (es : List Entry) (k : BlockRest) (s : Building) → Later t (two_ways term node es k s).1 → Later t (closed Kind.Plain k s)
  two_later term node es k s later = later_before t (closed Kind.Plain k s) _ (unwind_grows es (closed Kind.Plain k s)) later

  pub two_made : (term : ℕ → Unwind → Term) (node : ℕ) (es : List Entry) (k : BlockRest) (s : Building) → SharedStand t s → Later t (two_ways term node es k s).1 →
      SharedStand t (two_ways term node es k s).1 × Cleans t es (unwind_to (f t) es (closed Kind.Plain k s)).0
  two_made term node es k s h later = unwind_made es (closed Kind.Plain k s) h later

  pub two_ranked : (term : ℕ → Unwind → Term) (node : ℕ) (es : List Entry) (k : BlockRest) (s : Building) → ((n : ℕ) (u : Unwind) → targets (term n u) ≡ n ∷ unwind_block u ++ []) → Ranked s → LeadsOn k s →
      Ranked (two_ways term node es k s).1 × LeadsOn (two_ways term node es k s).0 (two_ways term node es k s).1
  two_ranked term node es k s e h l =
      let u = unwind_ranked es (closed Kind.Plain k s) (closed_ranked Kind.Plain k s h l) in
      let j = closed_length Kind.Plain k s in
      let g = unwind_grows es (closed Kind.Plain k s) in (
        u.0,
        subst (AllGiven (length (two_ways term node es k s).1.blocks)) (sym (e (length s.blocks) (unwind_to (f t) es (closed Kind.Plain k s)).0))
            ((h.begun, (let i = g.longer in omega arith)), u.1),
      )

  abbrev pub TwoWays : (ℕ → Unwind → Term) → Type 0
  TwoWays term = (node n : ℕ) (u : Unwind) → KindAt t false n → AllKind t true (unwind_block u ++ []) → LeadsWell t (term n u) node

  pub two_tidy : (term : ℕ → Unwind → Term) (node : ℕ) (es : List Entry) (k : BlockRest) (s : Building) → TwoWays term → Later t (two_ways term node es k s).1 → Tidy t s → RestWell t k →
      TidyAfter t (two_ways term node es k s)
  two_tidy term node es k s e later h l =
      let u = unwind_tidy es (closed Kind.Plain k s) (closed_tidy t Kind.Plain k s h l) later in
      (u.0, (e node (length s.blocks) (unwind_to (f t) es (closed Kind.Plain k s)).0 (kind_stands t Kind.Plain k s (two_later term node es k s later)) u.1, tt))

  stmt_lowered : (n : ℕ) (action : Action) (stmt : Stmt) → NoFree t stmt → actions.action_of n stmt ≡ action_at t.local_of action → Lowered t (act_by (f t) false n (ByStmt stmt)) (λ c. Acts t action)
  stmt_lowered n action stmt free e = record {
    grows = λ c S k s. grows_not s;
    holds = λ c S k s u later chains.
        (chains, λ b st. ((b.0, suc b.1), (st.0, st.1, st.2.2), by_statement (b.0, suc b.1) (st.0, stmt, st.1, st.2.0, ap (λ i. actions.action_of i stmt) st.2.1 ∙ e, refl)));
    ranks = λ c S k s w h l. (h, l);
    tidies = λ c S k s w later h l. (h, (l.0, (free, l.1)));
  }

  stmt_last : (n : ℕ) (action : Action) (stmt : Stmt) → NoFree t stmt → actions.action_of n stmt ≡ action_at t.local_of action → IsLast t action → Lowered t (act_by (f t) true n (ByStmt stmt)) (λ c. Acts t action)
  stmt_last n action stmt free e last = record {
    grows = λ c S k s. grows_not s;
    holds = λ c S k s u later chains.
        (chains, λ b st S' b'. by_last_statement (b.0, suc b.1) S' b' (st.0, stmt, st.1, st.2.0, ap (λ i. actions.action_of i stmt) st.2.1 ∙ e, refl) last);
    ranks = λ c S k s w h l. (h, (w.0, tt));
    tidies = λ c S k s w later h l. (h, (((w.0, tt), tt, refl, tt), (free, tt)));
  }

  -- the effect of a terminator
  abbrev TermOf : ℕ → Action → (ℕ → Unwind → Term) → Type 0
  TermOf n action term = ((m : ℕ) (u : Unwind) → action_of_term n (term m u) ≡ Some (action_at t.local_of action, m, u)) × ((m : ℕ) (u : Unwind) → targets (term m u) ≡ m ∷ unwind_block u ++ []) × TwoWays term

  term_stands : (n : ℕ) (action : Action) (term : ℕ → Unwind → Term) → TermOf n action term → (S : Scopes) (k : BlockRest) (s : Building) →
      Cleans t (panic_drops t S) (unwind_to (f t) (panic_drops t S) (closed Kind.Plain k s)).0 → (b : CodePos) → Stands t (two_ways term n (panic_drops t S) k s).0 b → ActionTermAt t action S (length s.blocks) b
  term_stands n action term e S k s clean b st = (
    st.0,
    (unwind_to (f t) (panic_drops t S) (closed Kind.Plain k s)).0,
    st.1,
    st.2.0,
    ap (λ i. action_of_term i st.0.term) st.2.2 ∙ ap (action_of_term n) st.2.1 ∙ e.0 (length s.blocks) _,
    clean,
  )

  term_lowered : (n : ℕ) (action : Action) (term : ℕ → Unwind → Term) → TermOf n action term → Lowered t (act_by (f t) false n (ByTerm term)) (λ c. Acts t action)
  term_lowered n action term e = record {
    grows = λ c S k s. two_grow term n (panic_drops t S) k s;
    holds = λ c S k s u later chains.
        let made = two_made term n (panic_drops t S) k s chains later in
        let before = two_later term n (panic_drops t S) k s later in (
          made.0,
          λ b st. (
            (length s.blocks, 0),
            closed_stands t Kind.Plain k s before,
            by_terminator (length s.blocks) (length s.blocks, 0) (term_stands n action term e S k s made.1 b st) (plain_stands t k s before, refl),
          ),
        );
    ranks = λ c S k s w h l. two_ranked term n (panic_drops t S) k s e.1 h l;
    tidies = λ c S k s w later h l. two_tidy term n (panic_drops t S) k s e.2 later h l;
  }

  term_last : (n : ℕ) (action : Action) (term : ℕ → Unwind → Term) → TermOf n action term → IsLast t action → Lowered t (act_by (f t) true n (ByTerm term)) (λ c. Acts t action)
  term_last n action term e last = record {
    grows = λ c S k s. two_grow term n (panic_drops t S) (ending (Term.Goto c.returns.block) n) s;
    holds = λ c S k s u later chains.
        let made = two_made term n (panic_drops t S) (ending (Term.Goto c.returns.block) n) s chains later in
        (made.0, λ b st S' b'. by_last_terminator (length s.blocks) S' b' (term_stands n action term e S (ending (Term.Goto c.returns.block) n) s made.1 b st) last);
    ranks = λ c S k s w h l. two_ranked term n (panic_drops t S) (ending (Term.Goto c.returns.block) n) s e.1 h (w.0, tt);
    tidies = λ c S k s w later h l. two_tidy term n (panic_drops t S) (ending (Term.Goto c.returns.block) n) s e.2 later h (((w.0, tt), tt, refl, tt), tt);
  }

  -- whether it is the last or not
  by_stmt : (n : ℕ) (action : Action) (stmt : Stmt) → NoFree t stmt → actions.action_of n stmt ≡ action_at t.local_of action → Lowered t (act_by (f t) (is_last (f t) action) n (ByStmt stmt)) (λ c. Acts t action)
  by_stmt n action stmt free e = by_last (is_last (f t) action) refl
    where
      by_last : (x : Bool) → is_last (f t) action ≡ x → Lowered t (act_by (f t) x n (ByStmt stmt)) (λ c. Acts t action)
      by_last true last = stmt_last n action stmt free e last
      by_last false last = stmt_lowered n action stmt free e

  by_term : (n : ℕ) (action : Action) (term : ℕ → Unwind → Term) → TermOf n action term → Lowered t (act_by (f t) (is_last (f t) action) n (ByTerm term)) (λ c. Acts t action)
  by_term n action term e = by_last (is_last (f t) action) refl
    where
      by_last : (x : Bool) → is_last (f t) action ≡ x → Lowered t (act_by (f t) x n (ByTerm term)) (λ c. Acts t action)
      by_last true last = term_last n action term e last
      by_last false last = term_lowered n action term e

  -- ---- any effect
  pub act_lowered : (n : ℕ) (action : Action) → ActionOf n action → Lowered t (act (f t) n action) (λ c. Acts t action)
  act_lowered n (effects.Put to from) one = by_stmt n (effects.Put to from) _ tt (λ i. effects.Put (site_same n to one.0 i) (operand_same n from one.1 i))
  act_lowered n (effects.Compare to operator left right) one =
      by_stmt n (effects.Compare to operator left right) _ tt (λ i. effects.Compare (site_same n to one.0 i) operator (operand_same n left one.1 i) (operand_same n right one.2 i))
  act_lowered n (effects.Not to operand) one = by_stmt n (effects.Not to operand) _ tt (λ i. effects.Not (site_same n to one.0 i) (operand_same n operand one.1 i))
  act_lowered n (effects.Build to effects.OfTuple parts) one =
      by_stmt n (effects.Build to effects.OfTuple parts) _ tt (λ i. effects.Build (site_same n to one.0 i) effects.OfTuple (operands_same n parts one.1 i))
  act_lowered n (effects.Build to effects.OfArray parts) one =
      by_stmt n (effects.Build to effects.OfArray parts) _ tt (λ i. effects.Build (site_same n to one.0 i) effects.OfArray (operands_same n parts one.1 i))
  act_lowered n (effects.Build to (effects.OfVariant adt variant) parts) one =
      by_stmt n (effects.Build to (effects.OfVariant adt variant) parts) _ tt (λ i. effects.Build (site_same n to one.0 i) (effects.OfVariant adt variant) (operands_same n parts one.1 i))
  act_lowered n (effects.Build to (effects.OfClosure closure) parts) one =
      by_stmt n (effects.Build to (effects.OfClosure closure) parts) _ tt (λ i. effects.Build (site_same n to one.0 i) (effects.OfClosure closure) (operands_same n parts one.1 i))
  act_lowered n (effects.NewBox to content) one = by_stmt n (effects.NewBox to content) _ tt (λ i. effects.NewBox (site_same n to one.0 i) (operand_same n content one.1 i))
  act_lowered n (effects.Unsize to trait_no operand) one =
      by_stmt n (effects.Unsize to trait_no operand) _ tt (λ i. effects.Unsize (site_same n to one.0 i) trait_no (operand_same n operand one.1 i))
  act_lowered n (effects.Borrow to unique base) one = by_stmt n (effects.Borrow to unique base) _ tt (λ i. effects.Borrow (site_same n to one.0 i) unique (site_same n base one.1 i))
  act_lowered n (effects.Touch base) one = by_stmt n (effects.Touch base) _ tt (ap effects.Touch (site_same n base one))
  act_lowered n (effects.Print operand) one = by_stmt n (effects.Print operand) _ tt (ap effects.Print (operand_same n operand one))
  act_lowered n (effects.Forget operand) one = by_stmt n (effects.Forget operand) _ tt (ap effects.Forget (operand_same n operand one))
  act_lowered n (effects.Free box) one = absurd one
  act_lowered n (effects.Compute to operator left right) one =
      by_term n (effects.Compute to operator left right) (Term.Math (place_of (f t) to) operator (build.operand_of (f t) left) (build.operand_of (f t) right))
      ((λ m u. λ i. Some (effects.Compute (site_same n to one.0 i) operator (operand_same n left one.1 i) (operand_same n right one.2 i), m, u)), (λ m u. refl), λ node m u p g. ((p, tt), g, refl, tt))
  act_lowered n (effects.Negate to operand) one =
      by_term n (effects.Negate to operand) (Term.Negate (place_of (f t) to) (build.operand_of (f t) operand))
      ((λ m u. λ i. Some (effects.Negate (site_same n to one.0 i) (operand_same n operand one.1 i), m, u)), (λ m u. refl), λ node m u p g. ((p, tt), g, refl, tt))
  act_lowered n (effects.Bounds index count) one =
      by_term n (effects.Bounds index count) (Term.Bounds (build.operand_of (f t) index) count) ((λ m u. λ i. Some (effects.Bounds (operand_same n index one i) count, m, u)), (λ m u. refl), λ node m u p g. ((p, tt), g, refl, tt))
  act_lowered n (effects.Call to g args) one =
      by_term n (effects.Call to g args) (Term.Call (place_of (f t) to) g (build.operands_of (f t) args))
      ((λ m u. λ i. Some (effects.Call (site_same n to one.0 i) g (operands_same n args one.1 i), m, u)), (λ m u. refl), λ node m u p g. ((p, tt), g, refl, tt))
  act_lowered n (effects.CallVirtual to trait_no method args) one =
      by_term n (effects.CallVirtual to trait_no method args) (Term.Virtual (place_of (f t) to) trait_no method (build.operands_of (f t) args))
      ((λ m u. λ i. Some (effects.CallVirtual (site_same n to one.0 i) trait_no method (operands_same n args one.1 i), m, u)), (λ m u. refl), λ node m u p g. ((p, tt), g, refl, tt))
  act_lowered n (effects.Ask to) one =
      by_term n (effects.Ask to) (Term.Ask (place_of (f t) to)) ((λ m u. λ i. Some (effects.Ask (site_same n to one i), m, u)), (λ m u. refl), λ node m u p g. ((p, tt), g, refl, tt))
