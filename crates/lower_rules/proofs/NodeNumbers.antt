-- The effects on values do not look at the numbers of nodes, so a block does the same whatever these are.
use Rattle.std.proofs.Common.{◌≡◌, ℕ, suc, List, [], ◌∷◌, length, Option, Some, None, refl, ap, ◌∙◌}
use Rattle.std.specs.Option.{option_map_or, option_and_then}
use Rattle.cfg_graph.specs.declared.place.Operand.{Operand}
use Rattle.cfg_graph.specs.declared.place.Place.{Place}
use Rattle.cfg_graph.specs.declared.statement.Stmt.{Stmt}
use Rattle.cfg_graph.specs.declared.terminator.Term.{Term}
use Rattle.cfg_meaning.specs.Actions.{site_of, operand_of, operands_of, action_of}
use Rattle.cfg_meaning.specs.Walk.{Next, ◌>>=◌, branch, renamed, renamed_choice, naming, stmts_do, acts, term_does}
use Rattle.mir_base.specs.declared.operator.Math.{Math}
use Rattle.store_model.specs.Concrete.Effects.{or_stuck, evaluate_operand, evaluate_operands, bounded, built, called, chosen_truth, virtual_body, never_at, act, concrete_effects}
use Rattle.store_model.specs.Concrete.Location.{Setting}
use Rattle.store_model.specs.Concrete.State.{State, Bodies}
use Rattle.store_model.specs.Effects as effects
use Rattle.store_model.specs.Effects.{Stuck, Out, Go, Unwind, Halts, Effects, halting_if}
use Rattle.store_model.specs.Values.Datum.{Datum}
use Rattle.lower_rules.proofs.WalksOfBodies.{SameForNodes}
use Rattle.lower_rules.specs.CodeLaws.{without_place}

or_same : {A : Type 0} (o o' : Option A) (next next' : A → Out State) (w : State) → o ≡ o' → ((a : A) → next a ≡ next' a) → or_stuck o next w ≡ or_stuck o' next' w
or_same o o' next next' w e h = pointwise o ∙ ap (λ o. or_stuck o next' w) e
  where
    pointwise : (o : Option _) → or_stuck o next w ≡ or_stuck o next' w
    pointwise None = refl
    pointwise (Some a) = h a

module _ (setting : Setting) (run : Bodies) (fuel n n' : ℕ) where
  one_same : (x : Operand) (w : State) → evaluate_operand setting (operand_of n x) w ≡ evaluate_operand setting (operand_of n' x) w
  one_same (Operand.Copied place) w = refl
  one_same (Operand.Moved place) w = refl
  one_same (Operand.Number value kind) w = refl
  one_same (Operand.Truth value) w = refl
  one_same Operand.Unit w = refl

  using_one : (x : Operand) (next next' : Datum → State → Out State) (w : State) → ((a : Datum) (v : State) → next a v ≡ next' a v) →
      or_stuck (evaluate_operand setting (operand_of n x) w) (λ t. next t.0 t.1) w ≡ or_stuck (evaluate_operand setting (operand_of n' x) w) (λ t. next' t.0 t.1) w
  using_one x next next' w h = or_same _ _ _ _ w (one_same x w) (λ t. h t.0 t.1)

  abbrev and_rest : ℕ → List Operand → Option (Datum × State) → Option (List Datum × State)
  and_rest k xs o =
      option_and_then (λ (one : Datum × State). option_map_or (λ (rest : List Datum × State). Some (one.0 ∷ rest.0, rest.1)) (evaluate_operands setting (operands_of k xs) one.1) None) o

  all_same : (xs : List Operand) (w : State) → evaluate_operands setting (operands_of n xs) w ≡ evaluate_operands setting (operands_of n' xs) w
  all_same [] w = refl
  all_same (x ∷ xs) w = by_one (evaluate_operand setting (operand_of n x) w) (all_same xs) ∙ ap (and_rest n' xs) (one_same x w)
    where
      by_one : (o : Option (Datum × State)) → ((w : State) → evaluate_operands setting (operands_of n xs) w ≡ evaluate_operands setting (operands_of n' xs) w) →
          and_rest n xs o ≡ and_rest n' xs o
      by_one None ih = refl
      by_one (Some one) ih =
          ap (λ o. option_map_or (λ (rest : List Datum × State). Some (one.0 ∷ rest.0, rest.1)) o None) (ih one.1)

  using_all : (xs : List Operand) (next : List Datum → State → Out State) (w : State) →
      or_stuck (evaluate_operands setting (operands_of n xs) w) (λ t. next t.0 t.1) w ≡ or_stuck (evaluate_operands setting (operands_of n' xs) w) (λ t. next t.0 t.1) w
  using_all xs next w = ap (λ o. or_stuck o (λ t. next t.0 t.1) w) (all_same xs w)

  -- a store is refused alike
  stmt_same : (stmt : Stmt) (w : State) → act setting run (action_of n stmt) w ≡ act setting run (action_of n' stmt) w
  stmt_same (Stmt.Put to from) w = ap (halting_if (never_at setting w (site_of n to)) Stuck) (using_one from _ _ w (λ a v. refl))
  stmt_same (Stmt.Compare to op l r) w =
      ap (halting_if (never_at setting w (site_of n to)) Stuck) (using_one l _ _ w (λ a v. using_one r _ _ v (λ b u. refl)))
  stmt_same (Stmt.Not to x) w = ap (halting_if (never_at setting w (site_of n to)) Stuck) (using_one x _ _ w (λ a v. refl))
  stmt_same (Stmt.Tuple to parts) w = ap (halting_if (never_at setting w (site_of n to)) Stuck) (using_all parts (built setting (site_of n to) effects.OfTuple) w)
  stmt_same (Stmt.Array to parts) w = ap (halting_if (never_at setting w (site_of n to)) Stuck) (using_all parts (built setting (site_of n to) effects.OfArray) w)
  stmt_same (Stmt.Make to adt variant parts) w =
      ap (halting_if (never_at setting w (site_of n to)) Stuck) (using_all parts (built setting (site_of n to) (effects.OfVariant adt variant)) w)
  stmt_same (Stmt.Close to closure parts) w =
      ap (halting_if (never_at setting w (site_of n to)) Stuck) (using_all parts (built setting (site_of n to) (effects.OfClosure closure)) w)
  stmt_same (Stmt.NewBox to content) w = ap (halting_if (never_at setting w (site_of n to)) Stuck) (using_one content _ _ w (λ a v. refl))
  stmt_same (Stmt.Unsize to trait_no (Operand.Copied place)) w = refl
  stmt_same (Stmt.Unsize to trait_no (Operand.Moved place)) w = refl
  stmt_same (Stmt.Unsize to trait_no (Operand.Number value kind)) w = refl
  stmt_same (Stmt.Unsize to trait_no (Operand.Truth value)) w = refl
  stmt_same (Stmt.Unsize to trait_no Operand.Unit) w = refl
  stmt_same (Stmt.Borrow to unique base) w = refl
  stmt_same (Stmt.Touch place) w = refl
  stmt_same (Stmt.Print x) w = using_one x _ _ w (λ a v. refl)
  stmt_same (Stmt.Forget (Operand.Copied place)) w = refl
  stmt_same (Stmt.Forget (Operand.Moved place)) w = refl
  stmt_same (Stmt.Forget (Operand.Number value kind)) w = refl
  stmt_same (Stmt.Forget (Operand.Truth value)) w = refl
  stmt_same (Stmt.Forget Operand.Unit) w = refl
  stmt_same (Stmt.Free place) w = refl

  -- the effect of a terminator
  math_same : (to : Place) (op : Math) (l r : Operand) (w : State) →
      act setting run (effects.Compute (site_of n to) op (operand_of n l) (operand_of n r)) w ≡ act setting run (effects.Compute (site_of n' to) op (operand_of n' l) (operand_of n' r)) w
  math_same to op (Operand.Copied place) r w =
      ap (halting_if (never_at setting w (site_of n to)) Stuck) (using_one (Operand.Copied place) _ _ w (λ a v. using_one r _ _ v (λ b u. refl)))
  math_same to op (Operand.Moved place) r w =
      ap (halting_if (never_at setting w (site_of n to)) Stuck) (using_one (Operand.Moved place) _ _ w (λ a v. using_one r _ _ v (λ b u. refl)))
  math_same to op (Operand.Number value kind) r w =
      ap (halting_if (never_at setting w (site_of n to)) Stuck) (using_one r _ _ w (λ b u. refl))
  math_same to op (Operand.Truth value) r w =
      ap (halting_if (never_at setting w (site_of n to)) Stuck) (using_one r _ _ w (λ b u. refl))
  math_same to op Operand.Unit r w =
      ap (halting_if (never_at setting w (site_of n to)) Stuck) (using_one r _ _ w (λ b u. refl))

  negate_same : (to : Place) (x : Operand) (w : State) →
      act setting run (effects.Negate (site_of n to) (operand_of n x)) w ≡ act setting run (effects.Negate (site_of n' to) (operand_of n' x)) w
  negate_same to (Operand.Copied place) w = refl
  negate_same to (Operand.Moved place) w = refl
  negate_same to (Operand.Number value kind) w = refl
  negate_same to (Operand.Truth value) w = refl
  negate_same to Operand.Unit w = refl

  call_same : (to : Place) (f : ℕ) (args : List Operand) (w : State) →
      act setting run (effects.Call (site_of n to) f (operands_of n args)) w ≡ act setting run (effects.Call (site_of n' to) f (operands_of n' args)) w
  call_same to f args w = ap (halting_if (never_at setting w (site_of n to)) Stuck) (using_all args (called setting run (site_of n to) (Some f)) w)

  virtual_same : (to : Place) (trait_no method : ℕ) (args : List Operand) (w : State) →
      act setting run (effects.CallVirtual (site_of n to) trait_no method (operands_of n args)) w
      ≡ act setting run (effects.CallVirtual (site_of n' to) trait_no method (operands_of n' args)) w
  virtual_same to trait_no method args w =
      ap (halting_if (never_at setting w (site_of n to)) Stuck) (using_all args (λ values w. called setting run (site_of n to) (virtual_body setting trait_no method w values) values w) w)

  abbrev q : Effects State
  q = naming without_place (concrete_effects setting run fuel)

  term_same : (term : Term) (next : Next State) (w : State) → term_does q n term next w ≡ term_does q n' term next w
  term_same (Term.If on y m) next w = ap (λ o. branch (renamed_choice without_place (chosen_truth setting o w)) (next y) (next m)) (one_same on w)
  term_same (Term.Math to op l r onward u) next w = ap (λ o. acts (renamed without_place o) next onward u) (math_same to op l r w)
  term_same (Term.Negate to x onward u) next w = ap (λ o. acts (renamed without_place o) next onward u) (negate_same to x w)
  term_same (Term.Bounds x count onward u) next w =
      ap (λ o. acts (renamed without_place o) next onward u) (using_one x (bounded setting count) (bounded setting count) w (λ a v. refl))
  term_same (Term.Call to f args onward u) next w = ap (λ o. acts (renamed without_place o) next onward u) (call_same to f args w)
  term_same (Term.Virtual to trait_no method args onward u) next w = ap (λ o. acts (renamed without_place o) next onward u) (virtual_same to trait_no method args w)
  term_same other next w = refl

module _ (setting : Setting) (run : Bodies) (fuel : ℕ) where
  abbrev p : Effects State
  p = naming without_place (concrete_effects setting run fuel)

  stmts_same : (node node' : ℕ → ℕ) (line : ℕ) (stmts : List Stmt) (f f' : State → Out State) → ((w : State) → f w ≡ f' w) → (w : State) →
      stmts_do p node line stmts f w ≡ stmts_do p node' line stmts f' w
  stmts_same node node' line [] f f' e w = e w
  stmts_same node node' line (stmt ∷ stmts) f f' e w =
      by_out (p.act (action_of (node line) stmt) w) (stmts_same node node' (suc line) stmts f f' e)
      ∙ ap (λ o. ◌>>=◌ (renamed without_place o) (stmts_do p node' (suc line) stmts f')) (stmt_same setting run fuel (node line) (node' line) stmt w)
    where
      by_out : (o : Out State) → ((w : State) → stmts_do p node (suc line) stmts f w ≡ stmts_do p node' (suc line) stmts f' w) →
          ◌>>=◌ o (stmts_do p node (suc line) stmts f) ≡ ◌>>=◌ o (stmts_do p node' (suc line) stmts f')
      by_out (Go v) ih = ih v
      by_out (Unwind v) ih = refl
      by_out (Halts halt v) ih = refl

  pub block_same : (node node' : ℕ → ℕ → ℕ) → SameForNodes (concrete_effects setting run fuel) node node'
  block_same node node' n block next w =
      stmts_same (node n) (node' n) 0 block.stmts _ _ (λ v. term_same setting run fuel (node n (length block.stmts)) (node' n (length block.stmts)) block.term next v) w
