-- What the code of a node costs in blocks and entries: values, destinations, operands, and the nodes that have them.
use Rattle.std.proofs.Common.{◌≡◌, ℕ, suc, ◌+◌, ◌*◌, ◌≤◌, Bool, true, false, List, [], ◌∷◌, length, subst, arith}
use Rattle.store_model.specs.Effects as effects
use Rattle.store_model.specs.Effects.{EffectSite, Action}
use Rattle.store_model.specs.Places.Place.{Place}
use Rattle.src_meaning.specs.Evaluation.{to_own_key}
use Rattle.src_meaning.specs.Forms.{Destination, Into, Coerced, LoopsAndGuards, entry_of, site_in, moved, is_never}
use Rattle.src_meaning.specs.Scopes.{Scope, Scopes, innermost, nearest_temporary, with_pending, becomes_entry}
use Rattle.src_meaning.specs.Shape.{NodeHead, Shape, operand_at}
use Rattle.lower_rules.specs.Spots.{Ways}
use Rattle.lower_rules.specs.Build.{LoweringFrame, BlockRest, Building, Lowers, change, from_changed, then_lower}
use Rattle.lower_rules.specs.Lower as lower
use Rattle.lower_rules.specs.Lower.{Evaluates, Reaches, LowersArm, NodeLower, LowerIfAny, no_lower, a_lower}
use Rattle.lower_rules.proofs.Sizes as sizes
use Rattle.lower_rules.proofs.ScopeSizes.{Adds, all, Grew, grew_not, innermost_grew, nearest_grew, pending_adds, becomes_adds}
use Rattle.lower_rules.proofs.PatternSizes.{times, times_add, Tested, Binds}

module _ (f : LoweringFrame) (W B : ℕ) (enough : 12 * (W + 2) ≤ B) where
  abbrev C : ℕ → ℕ → Lowers → Type 0
  C = sizes.Costs f W

  abbrev T : ℕ → ℕ
  T n = times (B + 12) n

  abbrev ArmCost : ℕ → ℕ → LowersArm → Type 0
  ArmCost b e a = (c : Ways) (S : Scopes) (r : ℕ) (k : BlockRest) (s : Building) → all S + e ≤ W → length (a.build c S r k s).1.blocks ≤ length s.blocks + b

  pub record NodeCosts (m : ℕ) (x : NodeLower) : Type 0 where
    pub evaluates : (around : LoopsAndGuards) (own : Bool) (to : Destination) → C (B + T m) (m + m) (x.evaluates around own to)
    pub reaches : (around : LoopsAndGuards) → C (T (suc m)) (suc m + suc m) (x.reaches around)
    pub arm : (matched : Place) (around : LoopsAndGuards) (to : Destination) → ArmCost (B + T m) (m + m) (x.arm matched around to)
    pub shaped : Tested x.shape m × Binds x.shape m

  pub data AllCost : ℕ → List NodeLower → Type 0 where
    none_cost : AllCost 0 []
    one_costs : (m n : ℕ) (x : NodeLower) (xs : List NodeLower) → NodeCosts m x → AllCost n xs → AllCost (suc m + n) (x ∷ xs)

  pub data IfAnyCost : ℕ → LowerIfAny → Type 0 where
    without : IfAnyCost 0 no_lower
    with_one : (m : ℕ) (x : NodeLower) → NodeCosts m x → IfAnyCost (suc m) (a_lower x)

  pub weaker : (b e b' e' : ℕ) (P : Lowers) → b ≤ b' → e ≤ e' → C b e P → C b' e' P
  weaker = sizes.costs_most f W

  -- ---- values and destinations
  pub deliver_costs : (n : ℕ) (h : NodeHead) (action : EffectSite → Action) (to : Destination) → C (2 * (W + 2)) 0 (lower.deliver_at f n h action to)
  deliver_costs n h action (Into key) = weaker (W + 2) 0 (2 * (W + 2)) 0 _ (omega arith) (omega arith) (sizes.act_costs f W n (action (site_in h.id key)))
  deliver_costs n h action (Coerced key trait_no to) =
      weaker (W + 2 + (W + 2)) 0 (2 * (W + 2)) 0 _ (omega arith) (omega arith)
      (sizes.then_costs f W (W + 2) 0 (W + 2) 0 _ _ (sizes.act_costs f W n (action (site_in h.id key))) (sizes.act_costs f W h.id (effects.Unsize (site_in h.id to) trait_no (moved h.id key))))

  pub unit_costs : (h : NodeHead) (to : Destination) → C (2 * (W + 2)) 0 (lower.put_unit f h to)
  unit_costs h to = deliver_costs h.id h (λ site. effects.Put site effects.UnitValue) to

  pub own_costs : (b e : ℕ) (h : NodeHead) (own : Bool) (P : Lowers) → C b e P → C (W + 1 + b) e (lower.in_own_scope f h own P)
  own_costs b e h true P p = sizes.scope_costs f W b e h.id true P p
  own_costs b e h false P p = weaker b e (W + 1 + b) e P (omega arith) (omega arith) p

  pub pending_grew : (b : Bool) (in_that : (Scope → Scope) → Scopes → Scopes) (h : NodeHead) → ((g : Scope → Scope) → Adds 1 g → (S : Scopes) → Grew S (in_that g S) 1) →
      (S : Scopes) → Grew S (lower.pending_if f b in_that h S) 1
  pending_grew true in_that h grew S = grew (with_pending (entry_of h)) (pending_adds (entry_of h)) S
  pending_grew false in_that h grew S = grew_not S 1

  -- what is made in an entry, which is pending before
  pub pended : (m : ℕ) (before after : Scopes → Scopes) (P : Lowers) → ((S : Scopes) → Grew S (before S) 1) → ((S : Scopes) → Grew S (after S) 1) → C (B + T m) (m + m) P →
      C (T (suc m)) (suc m + suc m) (from_changed before (then_lower P (change after)))
  pended m before after P g h p =
      weaker (6 * 1 + (B + T m + 6 * 1)) (1 + (m + m + 1)) (T (suc m)) (suc m + suc m) _ (omega arith) (omega arith)
      (sizes.changed_costs f W 1 (B + T m + 6 * 1) (m + m + 1) before (then_lower P (change after)) g
      (sizes.then_costs f W (B + T m) (m + m) (6 * 1) 1 P (change after) p (sizes.change_costs f W 1 after h)))

  pub completed_grew : (in_that : (Scope → Scope) → Scopes → Scopes) (h : NodeHead) → ((g : Scope → Scope) → Adds 1 g → (S : Scopes) → Grew S (in_that g S) 1) → (S : Scopes) → Grew S (lower.completed f in_that h S) 1
  completed_grew in_that h grew S = grew (becomes_entry (entry_of h)) (becomes_adds (entry_of h)) S

  pub operand_costs : (m : ℕ) (x : NodeLower) → NodeCosts m x → (around : LoopsAndGuards) → C (T (suc m)) (suc m + suc m) (lower.operand f around x)
  operand_costs m x p around =
      pended m (lower.pending_if f x.shape.in_destination innermost x.head) (lower.completed f innermost x.head) _
      (pending_grew x.shape.in_destination innermost x.head (innermost_grew 1)) (completed_grew innermost x.head (innermost_grew 1)) (p.evaluates around false (Into x.head.id))

  operands_cost : (n : ℕ) (xs : List NodeLower) → AllCost n xs → (around : LoopsAndGuards) → C (T n) (n + n) (lower.operands f around xs)
  operands_cost _ _ none_cost around = sizes.nothing_costs f W
  operands_cost _ _ (one_costs m n x xs p ps) around =
      weaker (T (suc m) + T n) (suc m + suc m + (n + n)) (T (suc m + n)) (suc m + n + (suc m + n)) _ (let i = times_add (B + 12) (suc m) n in omega arith) (omega arith)
      (sizes.then_costs f W (T (suc m)) (suc m + suc m) (T n) (n + n) _ _ (operand_costs m x p around) (operands_cost n xs ps around))

  acting_costs : (n b : ℕ) (xs : List NodeLower) → AllCost n xs → (h : NodeHead) (around : LoopsAndGuards) (own : Bool) (P : Lowers) → C b 0 P → C (W + 1 + (T n + b)) (n + n) (lower.acting f h around own xs P)
  acting_costs n b xs ps h around own P p =
      weaker (W + 1 + (T n + b)) (n + n + 0) (W + 1 + (T n + b)) (n + n) _ (omega arith) (omega arith)
      (sizes.scope_costs f W (T n + b) (n + n + 0) h.id own _ (sizes.then_costs f W (T n) (n + n) b 0 _ _ (operands_cost n xs ps around) (sizes.taken_costs f W b 0 (lower.keys_of xs) P p)))

  -- ---- nodes
  abbrev EvalCosts : ℕ → Evaluates → Type 0
  EvalCosts m e = (around : LoopsAndGuards) (own : Bool) (to : Destination) → C (B + T m) (m + m) (e around own to)

  abbrev Shaped : ℕ → Shape → Type 0
  Shaped m s = Tested s m × Binds s m

  temporary_costs : (m : ℕ) (h : NodeHead) (s : Shape) (e : Evaluates) → EvalCosts m e → (around : LoopsAndGuards) → C (T (suc m)) (suc m + suc m) (lower.temporary f h s e around)
  temporary_costs m h s e p around =
      pended m (lower.pending_if f s.in_destination nearest_temporary h) (lower.completed f nearest_temporary h) (e around false (Into h.id))
      (pending_grew s.in_destination nearest_temporary h (nearest_grew 1)) (completed_grew nearest_temporary h (nearest_grew 1)) (p around false (Into h.id))

  pub value_costs : (m : ℕ) (h : NodeHead) (s : Shape) → Shaped m s → (e : Evaluates) → EvalCosts m e → NodeCosts m (lower.a_value f h s e)
  value_costs m h s shaped e p = record {
    evaluates = λ around own to. p around own (to_own_key (is_never f.items h.ty) h.id to);
    reaches = temporary_costs m h s (lower.made_in f h e) (λ around own to. p around own (to_own_key (is_never f.items h.ty) h.id to));
    arm = λ matched around to c S r k s w. omega arith;
    shaped = shaped;
  }

  pub place_costs : (m b e : ℕ) (h : NodeHead) (s : Shape) → Shaped m s → (r : Reaches) → ((around : LoopsAndGuards) → C b e (r around)) → b + 3 * (W + 2) ≤ B + T m → e ≤ m + m → NodeCosts m (lower.a_place f h s r)
  place_costs m b e h s shaped r p lb le = record {
    evaluates = λ around own to.
        weaker (W + 1 + (b + 2 * (W + 2))) (e + 0) (B + T m) (m + m) _ (omega arith) (omega arith)
        (own_costs (b + 2 * (W + 2)) (e + 0) h own _
        (sizes.then_costs f W b e (2 * (W + 2)) 0 _ _ (p around) (deliver_costs h.id h (λ site. effects.Put site (operand_at h (s.place around.aliases))) (to_own_key (is_never f.items h.ty) h.id to))));
    reaches = λ around. weaker b e (T (suc m)) (suc m + suc m) _ (omega arith) (omega arith) (p around);
    arm = λ matched around to c S r k s w. omega arith;
    shaped = shaped;
  }

  -- in a scope of its own or not, into a destination
  pub scoped_value_costs : (m b e : ℕ) (h : NodeHead) (s : Shape) → Shaped m s → (does : lower.MakesInto) → ((around : LoopsAndGuards) (to : Destination) → C b e (does around to)) → b + (W + 2) ≤ B + T m → e ≤ m + m →
      NodeCosts m (lower.a_scope f h s does)
  scoped_value_costs m b e h s shaped does p lb le =
      value_costs m h s shaped _ (λ around own to. weaker (W + 1 + b) e (B + T m) (m + m) _ (omega arith) (omega arith) (own_costs b e h own _ (p around to)))

  pub effect_costs : (h : NodeHead) (s : Shape) → Shaped 0 s → (action : EffectSite → Action) → NodeCosts 0 (lower.effect f h s action)
  effect_costs h s shaped action = scoped_value_costs 0 (2 * (W + 2)) 0 h s shaped _ (λ around to. deliver_costs h.id h action to) (omega arith) (omega arith)

  pub as_many : (m m' : ℕ) (x : NodeLower) → m ≡ m' → NodeCosts m x → NodeCosts m' x
  as_many m m' x e p = subst (λ n. NodeCosts n x) e p

  pub on_operands_cost : (n : ℕ) (h : NodeHead) (s : Shape) → Shaped n s → (xs : List NodeLower) → AllCost n xs → (action : EffectSite → Action) → NodeCosts n (lower.on_operands f h s xs action)
  on_operands_cost n h s shaped xs ps action =
      value_costs n h s shaped _ (λ around own to.
      weaker (W + 1 + (T n + 2 * (W + 2))) (n + n) (B + T n) (n + n) _ (omega arith) (omega arith)
      (acting_costs n (2 * (W + 2)) xs ps h around own _ (deliver_costs h.id h action to)))

  pub gives_unit_costs : (n : ℕ) (h : NodeHead) (s : Shape) → Shaped n s → (x : NodeLower) → AllCost n (x ∷ []) → (action : effects.Operand → Action) → NodeCosts n (lower.gives_unit f h s x action)
  gives_unit_costs n h s shaped x p action =
      value_costs n h s shaped _ (λ around own to.
      weaker (W + 1 + (T n + (W + 2 + 2 * (W + 2)))) (n + n) (B + T n) (n + n) _ (omega arith) (omega arith)
      (acting_costs n (W + 2 + 2 * (W + 2)) (x ∷ []) p h around own _
      (sizes.then_costs f W (W + 2) 0 (2 * (W + 2)) 0 _ _ (sizes.act_costs f W h.id (action (moved h.id x.head.id))) (unit_costs h to))))

  pub single : (m : ℕ) (x : NodeLower) → NodeCosts m x → AllCost (suc m) (x ∷ [])
  single m x p = subst (λ n. AllCost n (x ∷ [])) (omega arith) (one_costs m 0 x [] p none_cost)
