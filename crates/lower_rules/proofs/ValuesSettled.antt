-- On values no statement panics.
use Rattle.std.proofs.Common.{ℕ, List, [], ◌∷◌, Option, Some, None}
use Rattle.cfg_graph.specs.declared.statement.Stmt.{Stmt}
use Rattle.cfg_meaning.specs.Actions.{site_of, operand_of, operands_of, action_of}
use Rattle.mir_base.specs.declared.trace.Event.{Event}
use Rattle.store_model.specs.Concrete.Effects.{or_stuck, whole_at, evaluate_operand, evaluate_operands, with_operand, with_operands, put, put_if, tell_after, made_event, built, printed, if_nothing_numbered, freed, never_at, acted, act}
use Rattle.store_model.specs.Concrete.Location.{Setting, Located, Reached, Reaches, CutOff, Nowhere, reach, on_reached, stored_at}
use Rattle.store_model.specs.Concrete.State.{State, Bodies, numbered_next}
use Rattle.store_model.specs.Effects as effects
use Rattle.store_model.specs.Effects.{EffectSite, Stuck, Out, Go, Unwind, Halts, stores_where}
use Rattle.store_model.specs.Values.Datum.{Datum, Number, Box, Address}
use Rattle.store_model.specs.Values.Wholeness.{serials}
use Rattle.lower_rules.proofs.FreeWalks.{halting_no_unwind}
use Rattle.lower_rules.proofs.TiedWalks.{NoUnwind}

step_settled : {A : Type 0} (o : Option A) (next : A → Out State) (w : State) → ((a : A) → NoUnwind (next a)) → NoUnwind (or_stuck o next w)
step_settled None next w n = tt
step_settled (Some a) next w n = n a

module _ (setting : Setting) where
  told_settled : (event : Event) (o : Out State) → NoUnwind o → NoUnwind (tell_after setting event o)
  told_settled event (Go w) n = n
  told_settled event (Unwind w) n = n
  told_settled event (Halts halt w) n = n

  put_settled : (to : EffectSite) (value : Datum) (w : State) → NoUnwind (put setting to value w)
  put_settled to value w = by_place (reach setting w to.place)
    where
      by_place : (r : Reached) → NoUnwind (on_reached r (λ s. Go (stored_at s.address value w)) (Halts Stuck w) (Halts Stuck w))
      by_place (Reaches s) = tt
      by_place CutOff = tt
      by_place Nowhere = tt

  put_if_settled : (to : EffectSite) (value : Option Datum) (w : State) → NoUnwind (put_if setting to value w)
  put_if_settled to value w = step_settled value (λ v. put setting to v w) w (λ v. put_settled to v w)

  taking_settled : (operand : effects.Operand) (w : State) (next : Datum → State → Out State) → ((a : Datum) (v : State) → NoUnwind (next a v)) → NoUnwind (with_operand setting operand w next)
  taking_settled operand w next n = step_settled (evaluate_operand setting operand w) (λ x. next x.0 x.1) w (λ x. n x.0 x.1)

  all_settled : (operands : List effects.Operand) (w : State) (next : List Datum → State → Out State) → ((a : List Datum) (v : State) → NoUnwind (next a v)) → NoUnwind (with_operands setting operands w next)
  all_settled operands w next n = step_settled (evaluate_operands setting operands w) (λ x. next x.0 x.1) w (λ x. n x.0 x.1)

  made_settled : (adt : ℕ) (to : EffectSite) (value : Datum) (o : Option (ℕ × ℕ)) (w : State) → NoUnwind (made_event setting adt to value o w)
  made_settled adt to value None w = put_settled to value w
  made_settled adt to value (Some of) w = told_settled _ _ (put_settled to value (numbered_next w))

  built_settled : (to : EffectSite) (kind : effects.AggregateKind) (parts : List Datum) (w : State) → NoUnwind (built setting to kind parts w)
  built_settled to effects.OfTuple parts w = put_settled to _ w
  built_settled to effects.OfArray parts w = put_settled to _ w
  built_settled to (effects.OfClosure closure) parts w = put_settled to _ w
  built_settled to (effects.OfVariant adt variant) parts w = made_settled adt to _ _ w

  printed_settled : (value : Datum) (w : State) → NoUnwind (printed setting value w)
  printed_settled (Number number) w = tt
  printed_settled _ w = tt

  nothing_settled : (list : List ℕ) (o : Out State) (w : State) → NoUnwind o → NoUnwind (if_nothing_numbered setting list o w)
  nothing_settled [] o w n = n
  nothing_settled (serial ∷ rest) o w n = tt

  freed_settled : (s : Located) (value : Datum) (w : State) → NoUnwind (freed setting s value w)
  freed_settled s (Box serial impl_no inside) w = nothing_settled (serials inside) _ w tt
  freed_settled s _ w = tt

  free_settled : (w : State) (r : Reached) → NoUnwind (on_reached r (λ s. freed setting s s.value w) (Halts Stuck w) (Halts Stuck w))
  free_settled w (Reaches s) = freed_settled s s.value w
  free_settled w CutOff = tt
  free_settled w Nowhere = tt

  module _ (run : Bodies) where
    acted_settled : (n : ℕ) (stmt : Stmt) (w : State) → NoUnwind (acted setting run (action_of n stmt) w)
    acted_settled n (Stmt.Put to from) w = taking_settled (operand_of n from) w (put setting (site_of n to)) (put_settled (site_of n to))
    acted_settled n (Stmt.Compare to op l r) w = taking_settled (operand_of n l) w _ (λ a v. taking_settled (operand_of n r) v _ (λ b u. put_if_settled (site_of n to) _ u))
    acted_settled n (Stmt.Not to x) w = taking_settled (operand_of n x) w _ (λ a v. put_if_settled (site_of n to) _ v)
    acted_settled n (Stmt.Tuple to parts) w = all_settled (operands_of n parts) w _ (built_settled (site_of n to) effects.OfTuple)
    acted_settled n (Stmt.Array to parts) w = all_settled (operands_of n parts) w _ (built_settled (site_of n to) effects.OfArray)
    acted_settled n (Stmt.Make to adt variant parts) w = all_settled (operands_of n parts) w _ (built_settled (site_of n to) (effects.OfVariant adt variant))
    acted_settled n (Stmt.Close to closure parts) w = all_settled (operands_of n parts) w _ (built_settled (site_of n to) (effects.OfClosure closure))
    acted_settled n (Stmt.NewBox to content) w = taking_settled (operand_of n content) w _ (λ a v. told_settled _ _ (put_settled (site_of n to) _ (numbered_next v)))
    acted_settled n (Stmt.Unsize to trait_no from) w = taking_settled (operand_of n from) w _ (λ a v. put_if_settled (site_of n to) _ v)
    acted_settled n (Stmt.Borrow to unique base) w = step_settled (whole_at setting w (site_of n base)) _ w (λ s. put_settled (site_of n to) (Address s.address) w)
    acted_settled n (Stmt.Touch place) w = step_settled (whole_at setting w (site_of n place)) _ w (λ s. tt)
    acted_settled n (Stmt.Print x) w = taking_settled (operand_of n x) w (printed setting) printed_settled
    acted_settled n (Stmt.Forget x) w = taking_settled (operand_of n x) w _ (λ a v. tt)
    acted_settled n (Stmt.Free place) w = free_settled w (reach setting w (site_of n place).place)

    pub values_settled : (n : ℕ) (stmt : Stmt) (w : State) → NoUnwind (act setting run (action_of n stmt) w)
    values_settled n stmt w = halting_no_unwind (stores_where (never_at setting w) (action_of n stmt)) Stuck (acted setting run (action_of n stmt) w) (acted_settled n stmt w)
