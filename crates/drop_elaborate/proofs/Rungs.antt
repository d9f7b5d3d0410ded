-- Where a rung of a ladder leads, in both runs, and one rung after another, whichever way the first is left.
use Rattle.std.proofs.Common.{◌≡◌, ◌⊎◌, inl, inr, ℕ, suc, length, Option, Some, sym, ◌∙◌, subst}
use Rattle.mir_ty.specs.declared.ty.TyId.{TyId}
use Rattle.cfg_meaning.specs.Walk.{Next}
use Rattle.store_model.specs.declared.address.Addr.{Addr}
use Rattle.store_model.specs.Values.Datum.{Datum}
use Rattle.store_model.specs.Concrete.Drops.{in_mode, unwinding_out}
use Rattle.store_model.specs.Effects.{Mode, Normal, Unwinding, Stuck, Out, Go, Unwind, Halts}
use Rattle.store_model.specs.Concrete.State.{State}
use Rattle.drop_elaborate.specs.Ladder.{Ending, Calmly, Abruptly, mode_in}
use Rattle.drop_values.specs.Like.{body_at, Flags, Like, IsStuck}
use Rattle.drop_values.proofs.Stand.{Changed}

module _ (number depth : ℕ) where
  -- the body runs as the youngest
  pub record Here (w : State) : Type 0 where
    pub deep : length w.activations ≡ suc depth
    pub number_is : body_at depth w ≡ Some number

  pub here-Changed : (a : Addr) (new : Datum) (w v : State) → Changed a new w v → Here w → Here v
  here-Changed a new w v c h = record { deep = c.count ∙ h.deep; number_is = c.bodies depth ∙ h.number_is }

module _ (local_ty : (body local : ℕ) → Option TyId) (flags : Flags) (Walk : Next State) where
  abbrev L : State → State → Type 0
  L = Like local_ty flags

  -- where a rung leads
  abbrev Panics : (State → Type 0) → Ending → State → Out State → Type 0
  Panics P (Calmly cleanup) v out = (v' : State) × P v × L v v' × (out ≡ Walk cleanup v')
  Panics P Abruptly v out = ⊥

  abbrev pub Ends : (State → Type 0) → ℕ → Ending → Out State → Out State → Type 0
  Ends P to ending (Go v) out = (v' : State) × P v × L v v' × (out ≡ Walk to v')
  Ends P to ending (Unwind v) out = Panics P ending v out
  Ends P to ending (Halts halt v) out = IsStuck halt ⊎ ((v' : State) × (out ≡ Halts halt v') × (v'.trace ≡ v.trace))

  pub ends-weaken : (P Q : State → Type 0) (to : ℕ) (ending : Ending) (o out : Out State) →
      ((v : State) → P v → Q v) → Ends P to ending o out → Ends Q to ending o out
  ends-weaken P Q to ending (Go v) out f h = (h.0, f v h.1, h.2, h.3)
  ends-weaken P Q to (Calmly cleanup) (Unwind v) out f h = (h.0, f v h.1, h.2, h.3)
  ends-weaken P Q to Abruptly (Unwind v) out f h = h
  ends-weaken P Q to ending (Halts halt v) out f h = h

  -- in one chain after another
  unwound : (Q : State → Type 0) (to cleanup : ℕ) (o out : Out State) → Ends Q cleanup Abruptly o out →
      Ends Q to (Calmly cleanup) (unwinding_out o) out
  unwound Q to cleanup (Go v) out h = h
  unwound Q to cleanup (Unwind v) out h = absurd h
  unwound Q to cleanup (Halts halt v) out h = h

  pub then_calm : (P Q : State → Type 0) (mid twin to cleanup : ℕ) (o : Out State) (next : Mode → State → Out State)
      (out : Out State) → Ends P mid (Calmly twin) o out →
      ((v v' : State) → P v → L v v' → Ends Q to (Calmly cleanup) (next Normal v) (Walk mid v')) →
      ((v v' : State) → P v → L v v' → Ends Q cleanup Abruptly (next Unwinding v) (Walk twin v')) →
      Ends Q to (Calmly cleanup) (in_mode Normal o next) out
  then_calm P Q mid twin to cleanup (Go v) next out h f g = subst (Ends Q to (Calmly cleanup) (next Normal v))
      (sym h.3) (f v h.0 h.1 h.2)
  then_calm P Q mid twin to cleanup (Unwind v) next out h f g =
      subst (Ends Q to (Calmly cleanup) (unwinding_out (next Unwinding v))) (sym h.3)
      (unwound Q to cleanup (next Unwinding v) (Walk twin h.0) (g v h.0 h.1 h.2))
  then_calm P Q mid twin to cleanup (Halts halt v) next out h f g = h

  pub then_abrupt : (P Q : State → Type 0) (mid to : ℕ) (o : Out State) (next : Mode → State → Out State)
      (out : Out State) → Ends P mid Abruptly o out →
      ((v v' : State) → P v → L v v' → Ends Q to Abruptly (next Unwinding v) (Walk mid v')) →
      Ends Q to Abruptly (in_mode Unwinding o next) out
  then_abrupt P Q mid to (Go v) next out h f = subst (Ends Q to Abruptly (next Unwinding v)) (sym h.3) (f v h.0 h.1 h.2)
  then_abrupt P Q mid to (Unwind v) next out h f = absurd h
  then_abrupt P Q mid to (Halts halt v) next out h f = h

  -- the same block, where the rest tells nothing
  pub then_silent : (P Q : State → Type 0) (to : ℕ) (ending : Ending) (o : Out State) (next : Mode → State → Out State)
      (out : Out State) → Ends P to ending o out →
      ((m : Mode) (v v' : State) → P v → L v v' → (next m v ≡ Halts Stuck v)
      ⊎ ((u : State) × (next m v ≡ Go u) × Q u × L u v')) → Ends Q to ending (in_mode (mode_in ending) o next) out
  then_silent P Q to ending (Go v) next out h f = by ending (next (mode_in ending) v) (f (mode_in ending) v h.0 h.1 h.2)
    where
      by : (ending : Ending) (o : Out State) → (o ≡ Halts Stuck v) ⊎ ((u : State) × (o ≡ Go u) × Q u × L u h.0) →
          Ends Q to ending o out
      by ending o (inl e) = subst (λ o. Ends Q to ending o out) (sym e) (inl tt)
      by ending o (inr k) = subst (λ o. Ends Q to ending o out) (sym k.1) (h.0, k.2, k.3, h.3)
  then_silent P Q to (Calmly cleanup) (Unwind v) next out h f = by (next Unwinding v) (f Unwinding v h.0 h.1 h.2)
    where
      by : (o : Out State) → (o ≡ Halts Stuck v) ⊎ ((u : State) × (o ≡ Go u) × Q u × L u h.0) →
          Ends Q to (Calmly cleanup) (unwinding_out o) out
      by o (inl e) = subst (λ o. Ends Q to (Calmly cleanup) (unwinding_out o) out) (sym e) (inl tt)
      by o (inr k) = subst (λ o. Ends Q to (Calmly cleanup) (unwinding_out o) out) (sym k.1) (h.0, k.2, k.3, h.3)
  then_silent P Q to Abruptly (Unwind v) next out h f = absurd h
  then_silent P Q to ending (Halts halt v) next out h f = h
