-- What the lowering builds of branches, loops and assignments holds the code: one lemma a rule of `Build`.
use Rattle.std.proofs.Common.{◌≡◌, ◌≢◌, ◌⊎◌, inl, inr, ℕ, zero, suc, ◌<◌, ◌≤◌, ◌==◌, ◌||◌, Bool, true, false, List, [], ◌∷◌, length, map, Some, None, slice_get, slice_set, if◌then◌else◌, refl, sym, ap, ◌∙◌, subst, arith, length-append, add-one}
use Rattle.std.proofs.lemmas.Option.{none-some, slice_get_within, same_Some}
use Rattle.mir_ty.proofs.ListLemmas.{slice_get-last, slice_get-below}
use Rattle.cfg_graph.specs.declared.graph.Kind.{Kind}
use Rattle.cfg_graph.specs.declared.terminator.Term.{Term}
use Rattle.cfg_graph.specs.Edges.{is_cleanup_kind, targets}
use Rattle.cfg_meaning.specs.Actions as actions
use Rattle.store_model.specs.Effects as effects
use Rattle.store_model.specs.Effects.{EffectSite, Action}
use Rattle.src_meaning.specs.Forms.{moved}
use Rattle.src_meaning.specs.Locals.Effects.{action_at}
use Rattle.src_meaning.specs.Scopes.{Entry, Scopes, Exit, Value, Breaks, Continues, Returns, Panics}
use Rattle.lower_rules.specs.Rules.{taken, StoresAt, ReplacesAt, BranchesAt, LoopAt}
use Rattle.lower_rules.specs.Spots.{CodeTarget, CodePos, JumpWay, Ways, loop_ways, ways_of, ways_in_loop, CodeSpot, panic_drops, EntersAt, TermAt, Leads, stays, goes, Joins, by_statement}
use Rattle.lower_rules.specs.Build as build
use Rattle.lower_rules.specs.Build.{BlockRest, MadeBlock, Building, ending, with_line, made, closed, reserved, filled, is_left_by, outside, Lowers, joined, after_either, branches, with_exit, looped, place_of, chain, act, put_into, stores, replaces}
use Rattle.lower_rules.proofs.LaidBlocks.{AllWays, BlockGiven, BlockWell, SharedStand, CodeEnds, Given, Grows, IsUsed, JumpWays, KindAt, Later, LeadsOn, Lowered, MadeWell, PlainWay, Ranked, RestEnds, RestWell, Stands, StoresFirst, Tidy, TidyAfter, closed_at, closed_grows, closed_length, closed_ranked, closed_stands, closed_tidy, ends_with, f, given_more, grows_not, grows_on, kind_stands, later_before, made_stands, plain_stands, push_cases, step_stands, ways_first, ways_more, ways_second, made_well}
use Rattle.lower_rules.proofs.LaidEffects.{act_lowered, chain_grows, chain_made, chain_ranked, chain_tidy, changed_lowered, operand_same, site_same}
use Rattle.lower_rules.proofs.LaidScopes.{TestMade, given_on}

module _ (t : CodeTarget) where
  -- ---- branches
  -- a place to which codes come
  pub joined_grows : (x : Bool) (node : ℕ) (k : BlockRest) (s : Building) → Grows s (joined x node k s).1
  joined_grows true node k s = closed_grows Kind.Plain k s
  joined_grows false node k s = grows_not s

  pub joined_shared : (x : Bool) (node : ℕ) (k : BlockRest) (s : Building) → SharedStand t s → SharedStand t (joined x node k s).1
  joined_shared true node k s h = h
  joined_shared false node k s h = h

  pub joined_ranked : (x : Bool) (node : ℕ) (k : BlockRest) (s : Building) → Ranked s → LeadsOn k s → Ranked (joined x node k s).1 × LeadsOn (joined x node k s).0 (joined x node k s).1
  joined_ranked true node k s h l = let j = closed_length Kind.Plain k s in (closed_ranked Kind.Plain k s h l, ((h.begun, omega arith), tt))
  joined_ranked false node k s h l = (h, l)

  pub joined_tidy : (x : Bool) (node : ℕ) (k : BlockRest) (s : Building) → Later t (joined x node k s).1 → Tidy t s → RestWell t k → TidyAfter t (joined x node k s)
  joined_tidy true node k s later h l = (closed_tidy t Kind.Plain k s h l, (((kind_stands t Kind.Plain k s later, tt), tt, refl, tt), tt))
  joined_tidy false node k s later h l = (h, l)

  -- a code that may join others, given where it ends if it has an end
  abbrev pub MayJoin : Bool → CodeSpot → Scopes → BlockRest → CodePos → Type 0
  MayJoin x spot S k b = (S' : Scopes) (b' : CodePos) → (x ≡ true → (S' ≡ S) × ((m : CodePos) → Stands t k m → Leads t m b')) → Joins t spot S b S' b'

  pub may_join : (x : Bool) (P : Lowers) (sp : Ways → CodeSpot) (c : Ways) (S after : Scopes) (k : BlockRest) (b : CodePos) → CodeEnds t x P sp c S k b → P.after S ≡ after → (S' : Scopes) (b' : CodePos) →
      (x ≡ true → (S' ≡ after) × ((m : CodePos) → Stands t k m → Leads t m b')) → Joins t (sp c) S b S' b'
  may_join true P sp c S after k b h e S' b' on =
      let j = on refl in (h.0, subst (λ z. sp c S b z h.0) (e ∙ sym j.0) h.2, j.1 h.0 h.1)
  may_join false P sp c S after k b h e S' b' on = (b', h S' b', stays)

  -- the place behind both: the block that joins them
  pub joined_on : (node : ℕ) (k : BlockRest) (s : Building) → Later t (closed Kind.Plain k s) → (m : CodePos) → Stands t (joined true node k s).0 m → Leads t m (length s.blocks, 0)
  joined_on node k s later m st = goes (length s.blocks) (ends_with t _ node m st) (plain_stands t k s later)

  module _ (node : ℕ) (T : CodePos → CodePos → CodePos → Type 0) (x : ℕ → ℕ → Building → BlockRest × Building) (made_test : (y n : ℕ) (s : Building) → TestMade t s (x y n s) T y n) (P Q : Lowers) (sp sq : Ways → CodeSpot)
      (lp : (Lowered t) P sp) (lq : (Lowered t) Q sq) (same : (S : Scopes) → P.after S ≡ Q.after S) where
    abbrev join : BlockRest → Building → BlockRest × Building
    join k s = joined (P.has_end || Q.has_end) node k s

    abbrev no_code : Ways → Scopes → BlockRest → Building → BlockRest × Building
    no_code c S k s = Q.build c S (join k s).0 (join k s).1

    abbrev no_made : Ways → Scopes → BlockRest → Building → Building
    no_made c S k s = closed Kind.Plain (no_code c S k s).0 (no_code c S k s).1

    abbrev yes_code : Ways → Scopes → BlockRest → Building → BlockRest × Building
    yes_code c S k s = P.build c S (join k s).0 (no_made c S k s)

    abbrev yes_made : Ways → Scopes → BlockRest → Building → Building
    yes_made c S k s = closed Kind.Plain (yes_code c S k s).0 (yes_code c S k s).1

    abbrev yes_at : Ways → Scopes → BlockRest → Building → ℕ
    yes_at c S k s = length (yes_code c S k s).1.blocks

    abbrev no_at : Ways → Scopes → BlockRest → Building → ℕ
    no_at c S k s = length (no_code c S k s).1.blocks

    no_grows : (c : Ways) (S : Scopes) (k : BlockRest) (s : Building) → Grows (join k s).1 (no_made c S k s)
    no_grows c S k s = grows_on (join k s).1 (no_code c S k s).1 _ (lq.grows c S (join k s).0 (join k s).1) (closed_grows Kind.Plain (no_code c S k s).0 (no_code c S k s).1)

    yes_grows : (c : Ways) (S : Scopes) (k : BlockRest) (s : Building) → Grows (no_made c S k s) (yes_made c S k s)
    yes_grows c S k s = grows_on (no_made c S k s) (yes_code c S k s).1 _ (lp.grows c S (join k s).0 (no_made c S k s)) (closed_grows Kind.Plain (yes_code c S k s).0 (yes_code c S k s).1)

    -- both have no end, or they join
    abbrev Both : Bool → Ways → Scopes → BlockRest → Building → CodePos → Type 0
    Both z c S k s b = CodeEnds t z (branches node x P Q) (λ c. BranchesAt t T (sp c) (sq c)) c S k b

    after_same : (z : Bool) (S : Scopes) → after_either z P Q S ≡ Q.after S
    after_same true S = same S
    after_same false S = refl

    true_or : (y z : Bool) → z ≡ true → y || z ≡ true
    true_or true z e = refl
    true_or false z e = e

    both_end : (z : Bool) → P.has_end || Q.has_end ≡ z → (c : Ways) (S : Scopes) (k : BlockRest) (s : Building) → Later t (joined z node k s).1 → (b y n : CodePos) → T b y n →
        ((S' : Scopes) (b' : CodePos) → (z ≡ true → (S' ≡ Q.after S) × ((m : CodePos) → Stands t (joined z node k s).0 m → Leads t m b')) → Joins t (sp c) S y S' b' × Joins t (sq c) S n S' b') → Both z c S k s b
    both_end true e c S k s later b y n it codes =
        let end = codes (after_either P.has_end P Q S) (length s.blocks, 0) (λ one. (after_same P.has_end S, joined_on node k s later)) in
        ((length s.blocks, 0), closed_stands t Kind.Plain k s later, (y, n, it, end.0, end.1))
    both_end false e c S k s later b y n it codes = λ S' b'.
        let end = codes S' b' (λ one. absurd (let never : false ≡ true = one in cc)) in (y, n, it, end.0, end.1)

    pub branches_lowered : (Lowered t) (branches node x P Q) (λ c. BranchesAt t T (sp c) (sq c))
    branches_lowered = record {
      grows = λ c S k s. grows_on s (join k s).1 _ (joined_grows (P.has_end || Q.has_end) node k s) (grows_on (join k s).1 (no_made c S k s) _ (no_grows c S k s)
          (grows_on (no_made c S k s) (yes_made c S k s) _ (yes_grows c S k s) (made_test (yes_at c S k s) (no_at c S k s) (yes_made c S k s)).0));
      holds = λ c S k s u later chains.
          let z = P.has_end || Q.has_end in
          let one = made_test (yes_at c S k s) (no_at c S k s) (yes_made c S k s) in
          let l5 = later_before t (yes_made c S k s) _ one.0 later in
          let l4 = later_before t (yes_code c S k s).1 (yes_made c S k s) (closed_grows Kind.Plain (yes_code c S k s).0 (yes_code c S k s).1) l5 in
          let l3 = later_before t (no_made c S k s) (yes_code c S k s).1 (lp.grows c S (join k s).0 (no_made c S k s)) l4 in
          let l2 = later_before t (no_code c S k s).1 (no_made c S k s) (closed_grows Kind.Plain (no_code c S k s).0 (no_code c S k s).1) l3 in
          let l1 = later_before t (join k s).1 (no_code c S k s).1 (lq.grows c S (join k s).0 (join k s).1) l2 in
          let no = lq.holds c S (join k s).0 (join k s).1 (ways_second IsUsed c P.jumps Q.jumps u) l2 (joined_shared z node k s chains) in
          let yes = lp.holds c S (join k s).0 (no_made c S k s) (ways_first IsUsed c P.jumps Q.jumps u) l4 no.0 in
          let it = one.1 yes.0 later (plain_stands t (yes_code c S k s).0 (yes_code c S k s).1 l5) (plain_stands t (no_code c S k s).0 (no_code c S k s).1 l3) in
          let yes_ends = yes.1 (yes_at c S k s, 0) (closed_stands t Kind.Plain (yes_code c S k s).0 (yes_code c S k s).1 l5) in
          let no_ends = no.1 (no_at c S k s, 0) (closed_stands t Kind.Plain (no_code c S k s).0 (no_code c S k s).1 l3) in (
            it.0,
            λ b st. both_end z refl c S k s l1 b (yes_at c S k s, 0) (no_at c S k s, 0) (it.1 b st)
                (λ S' b' on. (
                  may_join P.has_end P sp c S (Q.after S) (join k s).0 (yes_at c S k s, 0) yes_ends (same S) S' b' (λ e. on (or_true P.has_end Q.has_end e)),
                  may_join Q.has_end Q sq c S (Q.after S) (join k s).0 (no_at c S k s, 0) no_ends refl S' b' (λ e. on (true_or P.has_end Q.has_end e)),
                )),
          );
      ranks = λ c S k s w h l.
          let z = P.has_end || Q.has_end in
          let r1 = joined_ranked z node k s h l in
          let g1 = joined_grows z node k s in
          let r2 = lq.ranks c S (join k s).0 (join k s).1 (ways_more (length s.blocks) (length (join k s).1.blocks) g1.longer c Q.jumps (ways_second (BlockGiven (length s.blocks)) c P.jumps Q.jumps w)) r1.0 r1.1 in
          let c3 = closed_ranked Kind.Plain (no_code c S k s).0 (no_code c S k s).1 r2.0 r2.1 in
          let g3 = no_grows c S k s in
          let j3 = closed_length Kind.Plain (no_code c S k s).0 (no_code c S k s).1 in
          let r4 = lp.ranks c S (join k s).0 (no_made c S k s) (ways_more (length s.blocks) (length (no_made c S k s).blocks) (let a = g1.longer in let b = g3.longer in omega arith) c P.jumps
          (ways_first (BlockGiven (length s.blocks)) c P.jumps Q.jumps w)) c3 (given_more (length (join k s).1.blocks) (length (no_made c S k s).blocks) g3.longer (targets (join k s).0.term) r1.1) in
          let c5 = closed_ranked Kind.Plain (yes_code c S k s).0 (yes_code c S k s).1 r4.0 r4.1 in
          let g5 = yes_grows c S k s in
          let j5 = closed_length Kind.Plain (yes_code c S k s).0 (yes_code c S k s).1 in
          (made_test (yes_at c S k s) (no_at c S k s) (yes_made c S k s)).2 c5 (r4.0.begun, omega arith) (r2.0.begun, (let a = g5.longer in omega arith));
      tidies = λ c S k s w later h l.
          let z = P.has_end || Q.has_end in
          let one = made_test (yes_at c S k s) (no_at c S k s) (yes_made c S k s) in
          let l5 = later_before t (yes_made c S k s) _ one.0 later in
          let l4 = later_before t (yes_code c S k s).1 (yes_made c S k s) (closed_grows Kind.Plain (yes_code c S k s).0 (yes_code c S k s).1) l5 in
          let l3 = later_before t (no_made c S k s) (yes_code c S k s).1 (lp.grows c S (join k s).0 (no_made c S k s)) l4 in
          let l2 = later_before t (no_code c S k s).1 (no_made c S k s) (closed_grows Kind.Plain (no_code c S k s).0 (no_code c S k s).1) l3 in
          let l1 = later_before t (join k s).1 (no_code c S k s).1 (lq.grows c S (join k s).0 (join k s).1) l2 in
          let j = joined_tidy z node k s l1 h l in
          let no = lq.tidies c S (join k s).0 (join k s).1 (ways_second (PlainWay t) c P.jumps Q.jumps w) l2 j.0 j.1 in
          let no_tidy = closed_tidy t Kind.Plain (no_code c S k s).0 (no_code c S k s).1 no.0 no.1 in
          let yes = lp.tidies c S (join k s).0 (no_made c S k s) (ways_first (PlainWay t) c P.jumps Q.jumps w) l4 no_tidy j.1 in
          one.3 later (closed_tidy t Kind.Plain (yes_code c S k s).0 (yes_code c S k s).1 yes.0 yes.1) (kind_stands t Kind.Plain (yes_code c S k s).0 (yes_code c S k s).1 l5)
          (kind_stands t Kind.Plain (no_code c S k s).0 (no_code c S k s).1 l3);
    }
      where
        or_true : (y z : Bool) → y ≡ true → y || z ≡ true
        or_true true z e = refl
        or_true false z e = absurd (let never : false ≡ true = e in cc)

  -- ---- loops
  pub set_length : {X : Type 0} (xs : List X) (n : ℕ) (x : X) → length (slice_set xs n x) ≡ length xs
  set_length [] n x = refl
  set_length (y ∷ xs) zero x = refl
  set_length (y ∷ xs) (suc n) x = ap suc (set_length xs n x)

  pub set_same : {X : Type 0} (xs : List X) (n : ℕ) (x : X) → n < length xs → slice_get (slice_set xs n x) n ≡ Some x
  set_same [] n x h = absurd (let never : ⊥ = omega arith in never)
  set_same (y ∷ xs) zero x h = refl
  set_same (y ∷ xs) (suc n) x h = set_same xs n x (omega arith)

  pub set_other : {X : Type 0} (xs : List X) (n i : ℕ) (x : X) → i ≢ n → slice_get (slice_set xs n x) i ≡ slice_get xs i
  set_other [] n i x h = refl
  set_other (y ∷ xs) zero zero x h = absurd (h refl)
  set_other (y ∷ xs) zero (suc i) x h = refl
  set_other (y ∷ xs) (suc n) zero x h = refl
  set_other (y ∷ xs) (suc n) (suc i) x h = set_other xs n i x (λ e. h (ap suc e))

  pub set_cases : {X : Type 0} (xs : List X) (n i : ℕ) (x y : X) → slice_get (slice_set xs n x) i ≡ Some y → (slice_get xs i ≡ Some y) ⊎ ((i ≡ n) × (x ≡ y))
  set_cases [] n i x y e = inl e
  set_cases (z ∷ xs) zero zero x y e = inr (refl, same_Some x y e)
  set_cases (z ∷ xs) zero (suc i) x y e = inl e
  set_cases (z ∷ xs) (suc n) zero x y e = inl e
  set_cases (z ∷ xs) (suc n) (suc i) x y e = elim (set_cases xs n i x y e) [ inl h ↦ inl h | inr h ↦ inr (ap suc h.0, h.1) ]

  pub reserved_grows : (s : Building) → Grows s (reserved s)
  reserved_grows s = record {
    longer = let e = length-append s.blocks (None ∷ []) in omega arith;
    keeps = λ n l. slice_get-below s.blocks (None ∷ []) n l;
  }

  pub reserved_length : (s : Building) → length (reserved s).blocks ≡ suc (length s.blocks)
  reserved_length s = length-append s.blocks (None ∷ []) ∙ add-one (length s.blocks)

  pub reserved_ranked : (s : Building) → Ranked s → Ranked (reserved s)
  reserved_ranked s h = record {
    blocks = λ n m e. by_place n m (push_cases s.blocks None n (Some m) e);
    shared = λ d i n e. let g = h.shared d i n e in let j = reserved_length s in (g.0, (let g1 = g.1 in omega arith));
    begun = let j = reserved_length s in omega arith;
  }
    where
      by_place : (n : ℕ) (m : MadeBlock) → (slice_get s.blocks n ≡ Some (Some m)) ⊎ ((n ≡ length s.blocks) × (None ≡ Some m)) → MadeWell n m
      by_place n m (inl e) = h.blocks n m e
      by_place n m (inr e) = absurd (none-some m e.1)

  pub reserved_tidy : (s : Building) → Tidy t s → Tidy t (reserved s)
  reserved_tidy s h = record { blocks = λ n m e. by_place n m (push_cases s.blocks None n (Some m) e); shared = h.shared }
    where
      by_place : (n : ℕ) (m : MadeBlock) → (slice_get s.blocks n ≡ Some (Some m)) ⊎ ((n ≡ length s.blocks) × (None ≡ Some m)) → BlockWell t m
      by_place n m (inl e) = h.blocks n m e
      by_place n m (inr e) = absurd (none-some m e.1)

  -- a block whose number was given out is made
  module _ (kind : Kind) (n : ℕ) (k : BlockRest) (s : Building) (free : slice_get s.blocks n ≡ Some None) where
    abbrev block_filled : MadeBlock
    block_filled = made kind (length s.blocks) k

    pub filled_later : (Later t) (filled kind n k s) → Later t s
    filled_later later i m e =
        later i m (set_other s.blocks n i (Some block_filled) (λ same. none-some m (same_Some None (Some m) (sym free ∙ ap (slice_get s.blocks) (sym same) ∙ e))) ∙ e)

    pub filled_grows : (s0 : Building) → length s0.blocks ≤ n → Grows s0 s → Grows s0 (filled kind n k s)
    filled_grows s0 l grows = record {
      longer = let i = set_length s.blocks n (Some block_filled) in let j = grows.longer in omega arith;
      keeps = λ i h. set_other s.blocks n i (Some block_filled) (λ same. absurd (let never : ⊥ = omega arith in never)) ∙ grows.keeps i h;
    }

    pub filled_at : slice_get (filled kind n k s).blocks n ≡ Some (Some block_filled)
    filled_at = set_same s.blocks n (Some block_filled) (slice_get_within s.blocks n None free)

    pub filled_stands : (Later t) (filled kind n k s) → (slice_get t.body.blocks n ≡ Some block_filled.block) × Stands t k (n, 0)
    filled_stands later = ((later n block_filled filled_at).0, made_stands t kind (length s.blocks) k n (filled kind n k s) later filled_at)

  turn_ranked : (n : ℕ) (k : BlockRest) (s : Building) → Ranked s → LeadsOn k s → Ranked (filled Kind.Turn n k s)
  turn_ranked n k s h l = record {
    blocks = λ i m e. by_place i m (set_cases s.blocks n i (Some (made Kind.Turn (length s.blocks) k)) (Some m) e);
    shared = λ d l i e. let g = h.shared d l i e in let j = set_length s.blocks n (Some (made Kind.Turn (length s.blocks) k)) in (g.0, (let g1 = g.1 in omega arith));
    begun = let j = set_length s.blocks n (Some (made Kind.Turn (length s.blocks) k)) in let b = h.begun in omega arith;
  }
    where
      by_place : (i : ℕ) (m : MadeBlock) → (slice_get s.blocks i ≡ Some (Some m)) ⊎ ((i ≡ n) × (Some (made Kind.Turn (length s.blocks) k) ≡ Some m)) → MadeWell i m
      by_place i m (inl e) = h.blocks i m e
      by_place i m (inr e) =
          subst (MadeWell i) (same_Some (made Kind.Turn (length s.blocks) k) m e.1) ((λ x. absurd (let never : true ≡ false = x in cc)), l)

  pub filled_tidy : (kind : Kind) (n : ℕ) (k : BlockRest) (s : Building) → Tidy t s → RestEnds t (is_cleanup_kind kind) k → Tidy t (filled kind n k s)
  filled_tidy kind n k s h l = record { blocks = λ i m e. by_place i m (set_cases s.blocks n i (Some (made kind (length s.blocks) k)) (Some m) e); shared = h.shared }
    where
      by_place : (i : ℕ) (m : MadeBlock) → (slice_get s.blocks i ≡ Some (Some m)) ⊎ ((i ≡ n) × (Some (made kind (length s.blocks) k) ≡ Some m)) → BlockWell t m
      by_place i m (inl e) = h.blocks i m e
      by_place i m (inr e) = subst (BlockWell t) (same_Some (made kind (length s.blocks) k) m e.1) (made_well t kind (length s.blocks) k l)

  -- the ways of the jumps in a loop, from those around it
  module _ (P : JumpWay → Type 0) (id base exit begin : ℕ) (is_left : Bool) (c : Ways) where
    abbrev inside : Ways
    inside = ways_in_loop id base exit begin is_left c

    late_true : (y z : Bool) → z ≡ true → y || z ≡ true
    late_true true z e = refl
    late_true false z e = e

    -- the jumps in a loop: those that name it have its ways, others have those of the same jumps outside
    ways_inside : (jumps : List Exit) → (is_left_by id jumps ≡ true → P (loop_ways base exit begin is_left).breaks) → P (loop_ways base exit begin is_left).continues → P c.returns →
        AllWays P c (outside id jumps) → AllWays P inside jumps
    ways_inside [] b k r h = tt
    ways_inside (Value ∷ jumps) b k r h = (r, ways_inside jumps b k r h.1)
    ways_inside (Returns ∷ jumps) b k r h = (r, ways_inside jumps b k r h.1)
    ways_inside (Panics ∷ jumps) b k r h = (r, ways_inside jumps b k r h.1)
    ways_inside (Breaks loop ∷ jumps) b k r h = by_name (λ b h. ways_inside jumps b k r h) (id == loop) b h
      where
        by_name : ((is_left_by id jumps ≡ true → P (loop_ways base exit begin is_left).breaks) → AllWays P c (outside id jumps) → AllWays P inside jumps) → (x : Bool) →
            (x || is_left_by id jumps ≡ true → P (loop_ways base exit begin is_left).breaks) → AllWays P c (if x then outside id jumps else Breaks loop ∷ outside id jumps) →
            P (if x then loop_ways base exit begin is_left else ways_of loop c).breaks × AllWays P inside jumps
        by_name ih true b h = (b refl, ih (λ e. b refl) h)
        by_name ih false b h = (h.0, ih b h.1)
    ways_inside (Continues loop ∷ jumps) b k r h = by_name (λ h. ways_inside jumps b k r h) (id == loop) h
      where
        by_name : (AllWays P c (outside id jumps) → AllWays P inside jumps) → (x : Bool) → AllWays P c (if x then outside id jumps else Continues loop ∷ outside id jumps) →
            P (if x then loop_ways base exit begin is_left else ways_of loop c).continues × AllWays P inside jumps
        by_name ih true h = (k, ih h)
        by_name ih false h = (h.0, ih h.1)

  exit_grows : (x : Bool) (k : BlockRest) (s : Building) → Grows s (with_exit x k s)
  exit_grows true k s = closed_grows Kind.Plain k s
  exit_grows false k s = grows_not s

  exit_shared : (x : Bool) (k : BlockRest) (s : Building) → SharedStand t s → SharedStand t (with_exit x k s)
  exit_shared true k s h = h
  exit_shared false k s h = h

  exit_ranked : (x : Bool) (k : BlockRest) (s : Building) → Ranked s → LeadsOn k s → Ranked (with_exit x k s)
  exit_ranked true k s h l = closed_ranked Kind.Plain k s h l
  exit_ranked false k s h l = h

  -- where a `break` leads, if there is one
  exit_given : (x : Bool) (k : BlockRest) (s : Building) → Ranked s → x ≡ true → Given (length (with_exit x k s).blocks) (length s.blocks)
  exit_given true k s h e = let j = closed_length Kind.Plain k s in (h.begun, omega arith)
  exit_given false k s h e = absurd (let never : false ≡ true = e in cc)

  exit_tidy : (x : Bool) (k : BlockRest) (s : Building) → Tidy t s → RestWell t k → Tidy t (with_exit x k s)
  exit_tidy true k s h l = closed_tidy t Kind.Plain k s h l
  exit_tidy false k s h l = h

  exit_plain : (x : Bool) (k : BlockRest) (s : Building) → Later t (with_exit x k s) → x ≡ true → KindAt t false (length s.blocks)
  exit_plain true k s later e = kind_stands t Kind.Plain k s later
  exit_plain false k s later e = absurd (let never : false ≡ true = e in cc)

  module _ (id : ℕ) (turn : Lowers) (sp : Ways → CodeSpot) (lt : (Lowered t) turn sp) (back : (S : Scopes) → turn.after S ≡ S) where
    abbrev left : Bool
    left = is_left_by id turn.jumps

    abbrev begun_with : BlockRest → Building → Building
    begun_with k s = with_exit left k s

    abbrev begin_at : BlockRest → Building → ℕ
    begin_at k s = length (begun_with k s).blocks

    abbrev again : BlockRest → Building → BlockRest
    again k s = ending (Term.Goto (begin_at k s)) 0

    abbrev ways_in : Ways → Scopes → BlockRest → Building → Ways
    ways_in c S k s = ways_in_loop id (length S) (length s.blocks) (begin_at k s) left c

    abbrev code_in : Ways → Scopes → BlockRest → Building → BlockRest × Building
    code_in c S k s = turn.build (ways_in c S k s) S (again k s) (reserved (begun_with k s))

    begun_grows : (k : BlockRest) (s : Building) → Grows s (reserved (begun_with k s))
    begun_grows k s = grows_on s (begun_with k s) _ (exit_grows left k s) (reserved_grows (begun_with k s))

    code_grows : (c : Ways) (S : Scopes) (k : BlockRest) (s : Building) → Grows (reserved (begun_with k s)) (code_in c S k s).1
    code_grows c S k s = lt.grows (ways_in c S k s) S (again k s) (reserved (begun_with k s))

    begin_free : (c : Ways) (S : Scopes) (k : BlockRest) (s : Building) → slice_get (code_in c S k s).1.blocks (begin_at k s) ≡ Some None
    begin_free c S k s =
        let j = reserved_length (begun_with k s) in
        (code_grows c S k s).keeps (begin_at k s) (omega arith) ∙ slice_get-last (begun_with k s).blocks None

    used_in : (c : Ways) (S : Scopes) (k : BlockRest) (s : Building) → JumpWays IsUsed c (outside id turn.jumps) → JumpWays IsUsed (ways_in c S k s) turn.jumps
    used_in c S k s u = (u.0, ways_inside IsUsed id (length S) (length s.blocks) (begin_at k s) left c turn.jumps (λ e. e) refl u.0 u.1)

    -- the code of a loop, whether it is left or not
    loop_ends : (x : Bool) → left ≡ x → (c : Ways) (S : Scopes) (k : BlockRest) (s : Building) → (e b : CodePos) → Later t (with_exit x k s) →
        ((S' : Scopes) (b' : CodePos) → (left ≡ true → EntersAt t (length s.blocks) b' × (S' ≡ S)) → LoopAt t id sp c S b S' b') →
        CodeEnds t x (looped id turn) (λ c. LoopAt t id sp c) c S k b
    loop_ends true e c S k s at b later loop =
        ((length s.blocks, 0), closed_stands t Kind.Plain k s later, loop S (length s.blocks, 0) (λ y. ((plain_stands t k s later, refl), refl)))
    loop_ends false e c S k s at b later loop = λ S' b'. loop S' b' (λ y. absurd (let never : false ≡ true = sym e ∙ y in cc))

    turn_ends : (x : Bool) (c : Ways) (S : Scopes) (k : BlockRest) (s : Building) (b : CodePos) → CodeEnds t x turn sp (ways_in c S k s) S (again k s) (begin_at k s, 0) → TermAt t (Term.Goto (begin_at k s)) b →
        (e : CodePos) × sp (ways_in c S k s) S (begin_at k s, 0) S e × TermAt t (Term.Goto (begin_at k s)) e
    turn_ends true c S k s b h goes_back =
        (h.0, subst (λ z. sp (ways_in c S k s) S (begin_at k s, 0) z h.0) (back S) h.2, ends_with t (Term.Goto (begin_at k s)) 0 h.0 h.1)
    turn_ends false c S k s b h goes_back = (b, h S b, goes_back)

    pub looped_lowered : (Lowered t) (looped id turn) (λ c. LoopAt t id sp c)
    looped_lowered = record {
      grows = λ c S k s.
          filled_grows Kind.Turn (begin_at k s) (code_in c S k s).0 (code_in c S k s).1 (begin_free c S k s) s (exit_grows left k s).longer
          (grows_on s (reserved (begun_with k s)) _ (begun_grows k s) (code_grows c S k s));
      holds = λ c S k s u later chains.
          let r = code_in c S k s in
          let l2 = filled_later Kind.Turn (begin_at k s) r.0 r.1 (begin_free c S k s) later in
          let l1 = later_before t (reserved (begun_with k s)) r.1 (code_grows c S k s) l2 in
          let l0 = later_before t (begun_with k s) (reserved (begun_with k s)) (reserved_grows (begun_with k s)) l1 in
          let turn_at = filled_stands Kind.Turn (begin_at k s) r.0 r.1 (begin_free c S k s) later in
          let it = lt.holds (ways_in c S k s) S (again k s) (reserved (begun_with k s)) (used_in c S k s u) l2 (exit_shared left k s chains) in (
            it.0,
            λ b st.
                let goes_back = ends_with t (Term.Goto (begin_at k s)) 0 b st in
                let e = turn_ends turn.has_end c S k s b (it.1 (begin_at k s, 0) turn_at.1) goes_back in
                loop_ends left refl c S k s e.0 b l0
                (λ S' b' onward. (begin_at k s, length s.blocks, left, e.0, goes_back, ((made Kind.Turn (length r.1.blocks) r.0).block, turn_at.0, refl), e.1, e.2, onward)),
          );
      ranks = λ c S k s w h l.
          let start = reserved (begun_with k s) in
          let j = reserved_length (begun_with k s) in
          let g = begun_grows k s in
          let h1 = exit_ranked left k s h l in
          let more = ways_more (length s.blocks) (length start.blocks) g.longer c (outside id turn.jumps) w in
          let g0 = given_on t (length (begun_with k s).blocks) (length start.blocks) (length s.blocks) (omega arith) in
          let ways = ways_inside (BlockGiven (length start.blocks)) id (length S) (length s.blocks) (begin_at k s) left c turn.jumps (λ e. g0 (exit_given left k s h e)) (h1.begun, omega arith) more.0 more.1 in
          let it = lt.ranks (ways_in c S k s) S (again k s) start (more.0, ways) (reserved_ranked (begun_with k s) h1) ((h1.begun, omega arith), tt) in
          let r = code_in c S k s in
          let j2 = set_length r.1.blocks (begin_at k s) (Some (made Kind.Turn (length r.1.blocks) r.0)) in
          (turn_ranked (begin_at k s) r.0 r.1 it.0 it.1, ((h1.begun, (let a = (code_grows c S k s).longer in omega arith)), tt));
      tidies = λ c S k s w later h l.
          let r = code_in c S k s in
          let l2 = filled_later Kind.Turn (begin_at k s) r.0 r.1 (begin_free c S k s) later in
          let l1 = later_before t (reserved (begun_with k s)) r.1 (code_grows c S k s) l2 in
          let l0 = later_before t (begun_with k s) (reserved (begun_with k s)) (reserved_grows (begun_with k s)) l1 in
          let turn_at = filled_stands Kind.Turn (begin_at k s) r.0 r.1 (begin_free c S k s) later in
          let begun : (KindAt t) false (begin_at k s) = ((made Kind.Turn (length r.1.blocks) r.0).block, turn_at.0, refl) in
          let ways = ways_inside (PlainWay t) id (length S) (length s.blocks) (begin_at k s) left c turn.jumps (λ e. exit_plain left k s l0 e) begun w.0 w.1 in
          let it = lt.tidies (ways_in c S k s) S (again k s) (reserved (begun_with k s)) (w.0, ways) l2 (reserved_tidy (begun_with k s) (exit_tidy left k s h l)) (((begun, tt), tt, refl, tt), tt) in
          (filled_tidy Kind.Turn (begin_at k s) r.0 r.1 it.0 it.1, (((begun, tt), tt, refl, tt), tt));
    }

  -- ---- assignment
  module _ (site : EffectSite) (key : ℕ) where
    abbrev put : Action
    put = effects.Put site (moved site.node key)

    put_same : (i : ℕ) → i ≡ site.node → actions.action_of i (put_into (f t) site key) ≡ action_at t.local_of put
    put_same i e =
        ap (λ i. actions.action_of i (put_into (f t) site key)) e
        ∙ (λ j. effects.Put (site_same t site.node site refl j) (operand_same t site.node (moved site.node key) refl j))

    pub stores_lowered : (Lowered t) (stores (f t) site key) (λ c. StoresAt t site key)
    stores_lowered = changed_lowered t (taken t (key ∷ [])) (act (f t) site.node put) _ (act_lowered t site.node put (refl, refl))

    abbrev stored : BlockRest → BlockRest
    stored k = with_line (put_into (f t) site key) site.node k

    abbrev after_store : BlockRest → Building → Building
    after_store k s = closed Kind.Plain (stored k) s

    abbrev drops_of : Scopes → List Entry
    drops_of S = panic_drops t (taken t (key ∷ []) S)

    abbrev down : Scopes → BlockRest → Building → ℕ × Building
    down S k s = chain (f t) (drops_of S) (after_store k s)

    abbrev unwound : Scopes → BlockRest → Building → BlockRest
    unwound S k s = stored (ending (Term.Goto (down S k s).0) site.node)

    stores_first : (kind : Kind) (k : BlockRest) (s : Building) → Later t (closed kind (stored k) s) → StoresFirst t (place_of (f t) site) site.node (length s.blocks)
    stores_first kind k s later = (
      kind,
      length s.blocks,
      build.operand_of (f t) (moved site.node key),
      map (λ l. l.stmt) k.lines,
      k.term,
      (later (length s.blocks) (made kind (length s.blocks) (stored k)) (closed_at t kind (stored k) s)).0,
      (later (length s.blocks) (made kind (length s.blocks) (stored k)) (closed_at t kind (stored k) s)).1.0,
    )

    replaced_lowered : (Lowered t) (replaces (f t) true site key) (λ c. ReplacesAt t true site key)
    replaced_lowered = record {
      grows = λ c S k s. grows_on s (after_store k s) _ (closed_grows Kind.Plain (stored k) s)
          (grows_on (after_store k s) (down S k s).1 _ (chain_grows t (drops_of S) (after_store k s)) (closed_grows Kind.Cleanup (unwound S k s) (down S k s).1));
      holds = λ c S k s u later chains.
          let l2 = later_before t (down S k s).1 _ (closed_grows Kind.Cleanup (unwound S k s) (down S k s).1) later in
          let l1 = later_before t (after_store k s) _ (chain_grows t (drops_of S) (after_store k s)) l2 in
          let made = chain_made t (drops_of S) (after_store k s) chains l2 in
          let st1 = closed_stands t Kind.Plain (stored k) s l1 in
          let st2 = closed_stands t Kind.Cleanup (unwound S k s) (down S k s).1 later in (
            made.0,
            λ b st. (
              (length s.blocks, 1),
              (st1.0, st1.1, st1.2.2),
              (
                place_of (f t) site,
                length s.blocks,
                length (down S k s).1.blocks,
                ends_with t _ site.node b st,
                site_same t (t.node b.0 b.1) site (sym st.2.2),
                plain_stands t (stored k) s l1,
                by_statement (length s.blocks, 1) (st1.0, put_into (f t) site key, st1.1, st1.2.0, put_same _ st1.2.1, refl),
                (
                  step_stands t Kind.Cleanup (unwound S k s) (down S k s).1 refl later,
                  (length (down S k s).1.blocks, 1),
                  ((down S k s).0, 0),
                  (st2.0, put_into (f t) site key, st2.1, st2.2.0, put_same _ st2.2.1, refl),
                  goes (down S k s).0 (st2.0, st2.1, st2.2.2.0, st2.2.2.1) made.1.0,
                  made.1.1,
                ),
              ),
            ),
          );
      ranks = λ c S k s w h l.
          let h1 = closed_ranked Kind.Plain (stored k) s h l in
          let j1 = closed_length Kind.Plain (stored k) s in
          let h2 = chain_ranked t (drops_of S) (after_store k s) h1 in
          let g2 = chain_grows t (drops_of S) (after_store k s) in
          let h3 = closed_ranked Kind.Cleanup (unwound S k s) (down S k s).1 h2.0 (h2.1, tt) in
          let j3 = closed_length Kind.Cleanup (unwound S k s) (down S k s).1 in
          (h3, ((h.begun, (let a = g2.longer in omega arith)), ((h2.0.begun, omega arith), tt)));
      tidies = λ c S k s w later h l.
          let l2 = later_before t (down S k s).1 _ (closed_grows Kind.Cleanup (unwound S k s) (down S k s).1) later in
          let l1 = later_before t (after_store k s) _ (chain_grows t (drops_of S) (after_store k s)) l2 in
          let d = chain_tidy t (drops_of S) (after_store k s) (closed_tidy t Kind.Plain (stored k) s h (l.0, (tt, l.1))) l2 in (
            closed_tidy t Kind.Cleanup (unwound S k s) (down S k s).1 d.0 (d.1, (tt, tt)),
            (
              (
                (kind_stands t Kind.Plain (stored k) s l1, tt),
                (kind_stands t Kind.Cleanup (unwound S k s) (down S k s).1 later, tt),
                refl,
                inr (stores_first Kind.Plain k s l1, stores_first Kind.Cleanup (ending (Term.Goto (down S k s).0) site.node) (down S k s).1 later),
              ),
              tt,
            ),
          );
    }

  pub replaces_lowered : (needs : Bool) (site : EffectSite) (key : ℕ) → Lowered t (replaces (f t) needs site key) (λ c. ReplacesAt t needs site key)
  replaces_lowered true site key = replaced_lowered site key
  replaces_lowered false site key = stores_lowered site key
