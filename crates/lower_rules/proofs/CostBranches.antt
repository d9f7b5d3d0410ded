-- What branches, patterns, arms, blocks, statements and jumps cost.
use Rattle.std.proofs.Common.{◌≡◌, ℕ, zero, suc, ◌+◌, ◌*◌, ◌≤◌, ◌||◌, not, Bool, true, false, List, [], ◌∷◌, length, arith}
use Rattle.cfg_graph.specs.declared.graph.Kind.{Kind}
use Rattle.cfg_graph.specs.declared.terminator.Term.{Term}
use Rattle.mir_base.specs.declared.trace.Why.{Why}
use Rattle.mir_ty.specs.Facts.{needs_drop}
use Rattle.store_model.specs.Effects as effects
use Rattle.store_model.specs.Effects.{EffectSite}
use Rattle.store_model.specs.Places.Place.{Place, whole_local}
use Rattle.src_meaning.specs.Forms.{Destination, Into, LoopsAndGuards, in_guard, entry_of, bound_entry, site_of_key, moved, is_never}
use Rattle.src_meaning.specs.Scopes.{Scope, Scopes, innermost, around_innermost, with_entry, without_pending, Breaks}
use Rattle.src_meaning.specs.Shape.{NodeHead, Shape, BoundName, operand_of_bound}
use Rattle.lower_rules.specs.Spots.{Ways}
use Rattle.lower_rules.specs.Build as build
use Rattle.lower_rules.specs.Build.{LoweringFrame, BlockRest, Building, closed, Lowers, back_in, joined, if_true, tests}
use Rattle.lower_rules.specs.Lower as lower
use Rattle.lower_rules.specs.Lower.{Evaluates, LowersArm, NodeLower, LowerIfAny}
use Rattle.lower_rules.proofs.Sizes as sizes
use Rattle.lower_rules.proofs.ScopeSizes.{Adds, all, Grew, grew_not, grew_on, innermost_grew, around_grew, entry_adds, without_adds}
use Rattle.lower_rules.proofs.KnownChains.{closed_length}
use Rattle.lower_rules.proofs.CostRules as cost_rules
use Rattle.lower_rules.proofs.PatternSizes.{times, times_add, times_more, twelve, Tested, Binds}
use Rattle.lower_rules.proofs.CostRules.{none_cost, without, with_one, one_costs, weaker, unit_costs, pending_grew, pended, completed_grew, value_costs}

module _ (f : LoweringFrame) (W B : ℕ) (enough : 12 * (W + 2) ≤ B) where
  abbrev C : ℕ → ℕ → Lowers → Type 0
  C = sizes.Costs f W

  abbrev T : ℕ → ℕ
  T n = times (B + 12) n

  abbrev ArmCost : ℕ → ℕ → LowersArm → Type 0
  ArmCost b e a = (c : Ways) (S : Scopes) (r : ℕ) (k : BlockRest) (s : Building) → all S + e ≤ W → length (a.build c S r k s).1.blocks ≤ length s.blocks + b

  abbrev NodeCosts : (m : ℕ) (x : NodeLower) → Type 0
  NodeCosts = cost_rules.NodeCosts f W B enough

  abbrev AllCost : ℕ → List NodeLower → Type 0
  AllCost = cost_rules.AllCost f W B enough

  abbrev IfAnyCost : ℕ → LowerIfAny → Type 0
  IfAnyCost = cost_rules.IfAnyCost f W B enough

  abbrev EvalCosts : ℕ → Evaluates → Type 0
  EvalCosts m e = (around : LoopsAndGuards) (own : Bool) (to : Destination) → C (B + T m) (m + m) (e around own to)

  abbrev Shaped : ℕ → Shape → Type 0
  Shaped m s = Tested s m × Binds s m

  -- ---- branches and patterns
  pub alone_costs : (m : ℕ) (x : NodeLower) → NodeCosts m x → (around : LoopsAndGuards) (to : Destination) → C (B + T m) (m + m) (lower.alone f around x to)
  alone_costs m x p around to = sizes.back_costs f W (B + T m) (m + m) _ (p.evaluates around true to)

  pub condition_costs : (m b1 e1 b2 e2 : ℕ) (x : NodeLower) → NodeCosts m x → (around : LoopsAndGuards) (P Q : Lowers) → C b1 e1 P → C b2 e2 Q →
      C (B + T m + (3 + (b1 + b2))) (m + m + (e1 + e2)) (lower.condition f around x P Q)
  condition_costs m b1 e1 b2 e2 x p around P Q cp cq =
      sizes.then_costs f W (B + T m) (m + m) (3 + (b1 + b2)) (e1 + e2) _ _ (alone_costs m x p around (Into x.head.id))
      (sizes.branches_costs f W 0 b1 e1 b2 e2 x.head.id (if_true f (moved x.head.id x.head.id) x.head.id) P Q (λ y n s. omega arith) cp cq)

  pub otherwise_costs : (n : ℕ) (h : NodeHead) (x : LowerIfAny) → IfAnyCost n x → (around : LoopsAndGuards) (to : Destination) → C (T n + 2 * (W + 2)) (n + n) (lower.otherwise_unit f h x around to)
  otherwise_costs _ h _ without around to = weaker f W B enough (2 * (W + 2)) 0 (T 0 + 2 * (W + 2)) 0 _ (omega arith) (omega arith) (unit_costs f W B enough h to)
  otherwise_costs _ h _ (with_one m x p) around to = weaker f W B enough (B + T m) (m + m) (T (suc m) + 2 * (W + 2)) (suc m + suc m) _ (omega arith) (omega arith) (alone_costs m x p around to)

  pub bind_costs : (in_that : (Scope → Scope) → Scopes → Scopes) → ((g : Scope → Scope) → Adds 1 g → (S : Scopes) → Grew S (in_that g S) 1) → (bounds : List BoundName) →
      C (6 * length bounds) (length bounds) (lower.bind f in_that bounds)
  bind_costs in_that grew [] = weaker f W B enough 0 0 (6 * 0) 0 _ (omega arith) (omega arith) (sizes.nothing_costs f W)
  bind_costs in_that grew (b ∷ bounds) =
      weaker f W B enough (0 + (6 * 1 + 6 * length bounds)) (0 + (1 + length bounds)) (6 * length (b ∷ bounds)) (length (b ∷ bounds)) _ (omega arith) (omega arith)
      (sizes.then_costs f W 0 0 (6 * 1 + 6 * length bounds) (1 + length bounds) _ _
      (sizes.stmt_costs f W (build.is_last f (effects.Put (site_of_key b.key) (operand_of_bound b))) b.key _)
      (sizes.changed_costs f W 1 (6 * length bounds) (length bounds) (in_that (with_entry (bound_entry b))) _ (grew (with_entry (bound_entry b)) (entry_adds (bound_entry b))) (bind_costs in_that grew bounds)))

  pub scrutinised_costs : (m : ℕ) (x : NodeLower) → NodeCosts m x → (around : LoopsAndGuards) → C (T (suc m)) (suc m + suc m) (lower.scrutinised f around x)
  scrutinised_costs m x p around =
      weaker f W B enough (T (suc m) + 0) (suc m + suc m + 0) (T (suc m)) (suc m + suc m) _ (omega arith) (omega arith)
      (sizes.then_costs f W (T (suc m)) (suc m + suc m) 0 0 _ _ (p.reaches around) (touched x.shape.is_place (lower.site_of x around)))
    where
      touched : (b : Bool) (site : EffectSite) → C 0 0 (lower.touched f b site)
      touched true site = sizes.stmt_costs f W (build.is_last f (effects.Touch site)) site.node _
      touched false site = sizes.nothing_costs f W

  -- with the tests of a pattern and its names
  pub if_taken_costs : (mp ms b1 e1 b2 e2 : ℕ) (h : NodeHead) (around : LoopsAndGuards) (p x : NodeLower) → NodeCosts mp p → NodeCosts ms x → (P Q : Lowers) → C b1 e1 P → C b2 e2 Q →
      C (T (suc ms) + (suc (mp + mp) + 3 + (6 * suc mp + b1 + (W + 1) + (b2 + (W + 1))))) (suc ms + suc ms + (suc mp + e1 + e2)) (lower.if_taken f h around p x P Q)
  if_taken_costs mp ms b1 e1 b2 e2 h around p x cp cx P Q p1 p2 =
      let place = lower.place_in x around in
      let bounds = p.shape.bindings place in
      let few = cp.shaped.1.0 place in
      sizes.entered_costs f W (T (suc ms)) (suc ms + suc ms) (suc (mp + mp) + 3 + (6 * suc mp + b1 + (W + 1) + (b2 + (W + 1)))) (suc mp + e1 + e2) h.id true _ _ (scrutinised_costs ms x cx around)
      (sizes.branches_leave f W (suc (mp + mp)) (6 * suc mp + b1 + (W + 1)) (suc mp + e1) (b2 + (W + 1)) e2 h.id (tests f (p.shape.tests place)) _ _
      (λ y n s. let i = sizes.tests_made f (p.shape.tests place) y n s in let j = cp.shaped.0 place in omega arith)
      (sizes.then_leaves f W (6 * suc mp + b1) (suc mp + e1) _
      (sizes.then_costs f W (6 * suc mp) (suc mp) b1 e1 _ P (weaker f W B enough (6 * length bounds) (length bounds) (6 * suc mp) (suc mp) _ (omega arith) (omega arith) (bind_costs innermost (innermost_grew 1) bounds)) p1))
      (sizes.leaves_then f W b2 e2 Q p2))

  -- ---- arms
  guarded_costs : (n b e : ℕ) (around : LoopsAndGuards) (bounds : List BoundName) (g : LowerIfAny) → IfAnyCost n g → (P : Lowers) → C b e P → ArmCost (b + T n + 1) (e + (n + n)) (lower.guarded f around bounds g P)
  guarded_costs _ b e around bounds _ without P p c S r k s w =
      let x = p c S k s (omega (arith, w)) in let most = x.most in omega arith
  guarded_costs _ b e around bounds _ (with_one m x q) P p c S r k s w = by_end (back_in (x.evaluates (in_guard bounds around) true (Into x.head.id))).has_end
    where
      asked : Lowers
      asked = back_in (x.evaluates (in_guard bounds around) true (Into x.head.id))

      asks : C (B + T m) (m + m) asked
      asks = sizes.back_costs f W (B + T m) (m + m) _ (q.evaluates (in_guard bounds around) true (Into x.head.id))

      by_end : (z : Bool) → length (lower.guard_from f z asked x.head.id P c S r k s).1.blocks ≤ length s.blocks + (b + T (suc m) + 1)
      by_end true =
          let y = p c S k s (omega (arith, w)) in
          let d = P.build c S k s in
          let j = closed_length Kind.Plain d.0 d.1 in
          let t = if_true f (moved x.head.id x.head.id) x.head.id (length d.1.blocks) r (closed Kind.Plain d.0 d.1) in
          let z = asks c S t.0 t.1 (omega (arith, w)) in
          let m1 = y.most in let m2 = z.most in
          omega arith
      by_end false = let z = asks c S k s (omega (arith, w)) in let m2 = z.most in omega arith

  taken_costs : (mp m : ℕ) (h : NodeHead) (around : LoopsAndGuards) (bounds : List BoundName) → length bounds ≤ suc mp → (x : NodeLower) → NodeCosts m x → (to : Destination) →
      C (W + 1 + (6 * suc mp + (B + T m))) (suc mp + (m + m)) (lower.taken_arm f h around bounds x to)
  taken_costs mp m h around bounds few x p to =
      sizes.scope_costs f W (6 * suc mp + (B + T m)) (suc mp + (m + m)) h.id false _
      (sizes.then_costs f W (6 * suc mp) (suc mp) (B + T m) (m + m) _ _
      (weaker f W B enough (6 * length bounds) (length bounds) (6 * suc mp) (suc mp) _ (omega arith) (omega arith) (bind_costs innermost (innermost_grew 1) bounds)) (alone_costs m x p around to))

  pub arm_costs : (mp n m : ℕ) (h : NodeHead) (p : NodeLower) (g : LowerIfAny) (x : NodeLower) → NodeCosts mp p → IfAnyCost n g → NodeCosts m x → (matched : Place) (around : LoopsAndGuards) (to : Destination) →
      ArmCost (B + T (suc mp + (n + suc m))) (suc mp + (n + suc m) + (suc mp + (n + suc m))) (lower.arm f h p g x matched around to)
  arm_costs mp n m h p g x cp cg cx matched around to c S r k s w =
      let bounds = p.shape.bindings matched in
      let few = cp.shaped.1.0 matched in
      let code = lower.guarded f around bounds g (lower.taken_arm f h around bounds x to) in
      let i = guarded_costs n (W + 1 + (6 * suc mp + (B + T m))) (suc mp + (m + m)) around bounds g cg _ (taken_costs mp m h around bounds few x cx to) c S r k s (omega (arith, w)) in
      let d = code.build c S r k s in
      let j = closed_length Kind.Plain d.0 d.1 in
      let t = sizes.tests_made f (p.shape.tests matched) (length d.1.blocks) r (closed Kind.Plain d.0 d.1) in
      let l = cp.shaped.0 matched in
      let a1 = times_add (B + 12) (suc mp) (n + suc m) in
      let a2 = times_add (B + 12) n (suc m) in
      let tw = twelve (B + 12) mp (omega arith) in
      omega (arith, enough)

  arms_most : (number n : ℕ) (xs : List NodeLower) → AllCost n xs → (matched : Place) (around : LoopsAndGuards) (to : Destination) (c : Ways) (S : Scopes) (k : BlockRest) (s : Building) → all S + (n + n) ≤ W →
      length (lower.arms_from f number xs matched around to c S k s).1.blocks ≤ length s.blocks + (T n + (W + 1))
  arms_most number _ _ none_cost matched around to c S k s w =
      let m = sizes.panic_most f W (Term.Panic Why.Match) number S s (omega (arith, w)) in omega arith
  arms_most number _ _ (one_costs m n x xs p ps) matched around to c S k s w =
      let d = lower.arms_from f number xs matched around to c S k s in
      let i = arms_most number n xs ps matched around to c S k s (omega (arith, w)) in
      let j = closed_length Kind.Plain d.0 d.1 in
      let l = p.arm matched around to c S (length d.1.blocks) k (closed Kind.Plain d.0 d.1) (omega (arith, w)) in
      let a = times_add (B + 12) (suc m) n in
      omega arith

  pub arms_costs : (number n : ℕ) (xs : List NodeLower) → AllCost n xs → (matched : Place) (around : LoopsAndGuards) (to : Destination) → C (T n + (W + 2)) (n + n) (lower.arms_in_order f number xs matched around to)
  arms_costs number n xs ps matched around to c S k s w =
      let ends = lower.arms_end f xs matched around to in
      let j = joined ends number k s in
      let jm = sizes.joined_most f W ends number k s in
      let m = arms_most number n xs ps matched around to c S j.0 j.1 w in
      record { g = 0; few = omega arith; paid = omega arith; grew = grew_not S 0; most = omega arith }

  -- ---- blocks and statements
  statements_cost : (n : ℕ) (xs : List NodeLower) → AllCost n xs → (around : LoopsAndGuards) → C (T n) (n + n) (lower.statements f around xs)
  statements_cost _ _ none_cost around = sizes.nothing_costs f W
  statements_cost _ _ (one_costs m n x xs p ps) around =
      weaker f W B enough (B + T m + T n) (m + m + (n + n)) (T (suc m + n)) (suc m + n + (suc m + n)) _ (let i = times_add (B + 12) (suc m) n in omega arith) (omega arith)
      (sizes.then_costs f W (B + T m) (m + m) (T n) (n + n) _ _ (p.evaluates around false (Into x.head.id)) (statements_cost n xs ps around))

  tail_costs : (n : ℕ) (h : NodeHead) (x : LowerIfAny) → IfAnyCost n x → (around : LoopsAndGuards) (to : Destination) → C (T n + 2 * (W + 2)) (n + n) (lower.tail_of f h x around to)
  tail_costs _ h _ without around to = by_never (is_never f.items h.ty)
    where
      by_never : (b : Bool) → C (T 0 + 2 * (W + 2)) 0 (lower.put_unit_if f b h to)
      by_never true = weaker f W B enough 0 0 (T 0 + 2 * (W + 2)) 0 _ (omega arith) (omega arith) (sizes.nothing_costs f W)
      by_never false = weaker f W B enough (2 * (W + 2)) 0 (T 0 + 2 * (W + 2)) 0 _ (omega arith) (omega arith) (unit_costs f W B enough h to)
  tail_costs _ h _ (with_one m x p) around to = weaker f W B enough (B + T m) (m + m) (T (suc m) + 2 * (W + 2)) (suc m + suc m) _ (omega arith) (omega arith) (alone_costs m x p around to)

  pub block_costs : (n n' : ℕ) (h : NodeHead) (xs : List NodeLower) → AllCost n xs → (x : LowerIfAny) → IfAnyCost n' x → EvalCosts (n + n') (lower.block f h xs x)
  block_costs n n' h xs ps x p around own to =
      weaker f W B enough (W + 1 + (T n + (T n' + 2 * (W + 2)))) (n + n + (n' + n')) (B + T (n + n')) (n + n' + (n + n')) _ (let i = times_add (B + 12) n n' in omega (arith, enough)) (omega arith)
      (sizes.scope_costs f W (T n + (T n' + 2 * (W + 2))) (n + n + (n' + n')) h.id own _
      (sizes.then_costs f W (T n) (n + n) (T n' + 2 * (W + 2)) (n' + n') _ _ (statements_cost n xs ps around) (tail_costs n' h x p around to)))

  pub evaluating_costs : (m : ℕ) (h : NodeHead) (x : NodeLower) → NodeCosts m x → (around : LoopsAndGuards) → C (W + 1 + T (suc m)) (suc m + suc m) (lower.evaluating f h x around)
  evaluating_costs m h x p around =
      sizes.scope_costs f W (T (suc m)) (suc m + suc m) h.id true _
      (pended f W B enough m (lower.pending_if f true innermost x.head) (lower.completed f innermost x.head) _
      (pending_grew f W B enough true innermost x.head (innermost_grew 1)) (completed_grew f W B enough innermost x.head (innermost_grew 1)) (p.evaluates around false (Into x.head.id)))

  named_grew : (x : NodeHead) (S : Scopes) → Grew S (lower.named f x S) 1
  named_grew x S =
      grew_on S (innermost (without_pending (entry_of x)) S) (lower.named f x S) 0 1 (innermost_grew 0 (without_pending (entry_of x)) (without_adds (entry_of x)) S)
      (around_grew 1 (with_entry (entry_of x)) (entry_adds (entry_of x)) (innermost (without_pending (entry_of x)) S))

  let_name_costs : (m : ℕ) (h y : NodeHead) (x : NodeLower) → NodeCosts m x → (around : LoopsAndGuards) → C (W + 1 + T (suc m)) (suc m + suc m) (lower.let_name f h y x around)
  let_name_costs m h y x p around =
      sizes.scope_costs f W (T (suc m)) (suc m + suc m) h.id true _
      (pended f W B enough m (lower.pending_if f true innermost y) (lower.named f y) _ (pending_grew f W B enough true innermost y (innermost_grew 1)) (named_grew y) (p.evaluates around false (Into y.id)))

  let_parts_costs : (mp m : ℕ) (h : NodeHead) (p x : NodeLower) → NodeCosts mp p → NodeCosts m x → (around : LoopsAndGuards) →
      C (W + 1 + (6 * 1 + (T (suc m) + 6 * suc mp))) (1 + (suc m + suc m + suc mp)) (lower.let_parts f h p x around)
  let_parts_costs mp m h p x cp cx around =
      let bounds = p.shape.bindings (lower.place_in x around) in
      let few = cp.shaped.1.0 (lower.place_in x around) in
      sizes.scope_costs f W (6 * 1 + (T (suc m) + 6 * suc mp)) (1 + (suc m + suc m + suc mp)) h.id true _
      (sizes.changed_costs f W 1 (T (suc m) + 6 * suc mp) (suc m + suc m + suc mp)
      (lower.pending_if f (not (x.shape.is_place || x.shape.in_destination)) innermost x.head) _ (pending_grew f W B enough (not (x.shape.is_place || x.shape.in_destination)) innermost x.head (innermost_grew 1))
      (sizes.then_costs f W (T (suc m)) (suc m + suc m) (6 * suc mp) (suc mp) _ _ (cx.reaches around)
      (weaker f W B enough (6 * length bounds) (length bounds) (6 * suc mp) (suc mp) _ (omega arith) (omega arith) (bind_costs around_innermost (around_grew 1) bounds))))

  emptied_costs : (x : Bool) (key : ℕ) → C (W + 2) 0 (lower.emptied f x key)
  emptied_costs true key = weaker f W B enough 0 0 (W + 2) 0 _ (omega arith) (omega arith) (sizes.nothing_costs f W)
  emptied_costs false key = sizes.emptied_costs f W (site_of_key key)

  declared_costs : (bounds : List BoundName) → C (times (W + 8) (length bounds)) (length bounds) (lower.declared f bounds)
  declared_costs [] = sizes.nothing_costs f W
  declared_costs (b ∷ bounds) =
      weaker f W B enough (W + 2 + (6 * 1 + times (W + 8) (length bounds))) (0 + (1 + length bounds)) (times (W + 8) (length (b ∷ bounds))) (length (b ∷ bounds)) _ (omega arith) (omega arith)
      (sizes.then_costs f W (W + 2) 0 (6 * 1 + times (W + 8) (length bounds)) (1 + length bounds) _ _ (emptied_costs (needs_drop f.items b.ty) b.key)
      (sizes.changed_costs f W 1 (times (W + 8) (length bounds)) (length bounds) (innermost (with_entry (bound_entry b))) _ (innermost_grew 1 (with_entry (bound_entry b)) (entry_adds (bound_entry b))) (declared_costs bounds)))

  times_wide : (n : ℕ) → times (W + 8) n ≤ T n
  times_wide zero = omega arith
  times_wide (suc n) = let i = times_wide n in omega (arith, enough)

  pub letting_costs : (mp n : ℕ) (h : NodeHead) (p : NodeLower) (x : LowerIfAny) → NodeCosts mp p → IfAnyCost n x → (around : LoopsAndGuards) → C (B + T (suc mp + n)) (suc mp + n + (suc mp + n)) (lower.letting f h p x around)
  letting_costs mp _ h p _ cp without around =
      let bounds = p.shape.bindings (whole_local 0) in
      let few = cp.shaped.1.0 (whole_local 0) in
      let i = times_wide (length bounds) in
      let j = times_more (B + 12) (length bounds) (suc mp + 0) (omega (arith, few)) in
      weaker f W B enough (times (W + 8) (length bounds)) (length bounds) (B + T (suc mp + 0)) (suc mp + 0 + (suc mp + 0)) _ (omega arith) (omega arith) (declared_costs bounds)
  letting_costs mp _ h p _ cp (with_one m x cx) around = by_name p.shape.is_binding
    where
      sum : T (suc mp + suc m) ≡ T (suc mp) + T (suc m)
      sum = times_add (B + 12) (suc mp) (suc m)

      room : 12 * mp ≤ T mp
      room = twelve (B + 12) mp (omega arith)

      by_name : (b : Bool) → C (B + T (suc mp + suc m)) (suc mp + suc m + (suc mp + suc m)) (lower.let_value f b h p x around)
      by_name true = let i = sum in weaker f W B enough (W + 1 + T (suc m)) (suc m + suc m) _ _ _ (omega (arith, enough)) (omega arith) (let_name_costs m h p.head x cx around)
      by_name false =
          let i = sum in
          let j = room in
          weaker f W B enough (W + 1 + (6 * 1 + (T (suc m) + 6 * suc mp))) (1 + (suc m + suc m + suc mp)) _ _ _ (omega (arith, enough)) (omega arith) (let_parts_costs mp m h p x cp cx around)

  pub jump_value_costs : (n : ℕ) (h : NodeHead) (x : LowerIfAny) → IfAnyCost n x → (around : LoopsAndGuards) (to : Destination) → C (T n + 2 * (W + 2)) (n + n) (lower.value_of_jump f h x around to)
  jump_value_costs _ h _ without around to = weaker f W B enough (2 * (W + 2)) 0 (T 0 + 2 * (W + 2)) 0 _ (omega arith) (omega arith) (unit_costs f W B enough h to)
  jump_value_costs _ h _ (with_one m x p) around to = weaker f W B enough (B + T m) (m + m) (T (suc m) + 2 * (W + 2)) (suc m + suc m) _ (omega arith) (omega arith) (p.evaluates around false to)

  pub ends_loop_costs : (h : NodeHead) (to : Destination) → C (2 * (W + 2) + (3 * W + 1)) (0 + 0) (lower.ends_loop f h to)
  ends_loop_costs h to = sizes.jump_costs f W (2 * (W + 2)) 0 h.id (Breaks h.id) _ (unit_costs f W B enough h to)

  pub body_costs : (m : ℕ) (x : NodeLower) → NodeCosts m x → (around : LoopsAndGuards) → C (B + T m) (m + m) (lower.body_in f x around)
  body_costs m x p around = alone_costs m x p around (Into x.head.id)

  pub pattern_costs : (m : ℕ) (h : NodeHead) (s : Shape) → Shaped m s → NodeCosts m (lower.a_pattern f h s)
  pattern_costs m h s shaped = value_costs f W B enough m h s shaped _ (λ around own to. weaker f W B enough 0 0 (B + T m) (m + m) _ (omega arith) (omega arith) (sizes.nothing_costs f W))
