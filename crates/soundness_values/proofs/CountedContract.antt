-- The contract of a call as to numbers: before it the account holds with the numbers of its arguments in flight, and
-- afterwards with those of its result. Meanwhile the numbers of values whose `Drop` bodies run stay at their heads.
use Rattle.std.proofs.Common.{◌≡◌, ℕ, zero, suc, ◌<◌, ◌≤◌, ◌==◌, Bool, true, false, List, [], ◌∷◌, ◌++◌, length, Option, Some, None, if◌then◌else◌, refl, ap, sym, ◌∙◌, arith}
use Rattle.std.specs.Prelude.{slice_get, option_and_then}
use Rattle.std.proofs.lemmas.Bool.Decides.{Decides-eqb}
use Rattle.std.proofs.lemmas.Option.{none-some}
use Rattle.mir_base.specs.declared.trace.Event.{Event}
use Rattle.mir_base.specs.Once.{serial_made, serial_ended, made_in, times, IsAtMostOnce}
use Rattle.mir_ty.specs.declared.ty.TyId.{TyId}
use Rattle.store_model.specs.declared.address.Addr.{Addr}
use Rattle.store_model.specs.Values.Datum.{Datum}
use Rattle.store_model.specs.Values.Wholeness.{serials}
use Rattle.store_model.specs.Effects.{Halt}
use Rattle.store_model.specs.Concrete.Location.{Setting, into_all, located_in}
use Rattle.store_model.specs.Concrete.State.{State, Activation, Answer, Returns, Unwinds, HaltsIn, at_depth}
use Rattle.soundness_values.proofs.Apart.{not_same}
use Rattle.soundness_values.proofs.Counts.{times_append, held}
use Rattle.soundness_values.proofs.CountedStores.{AllSpaced}
use Rattle.soundness_values.proofs.Facts.{Each}
use Rattle.soundness_values.proofs.Forgotten.{InFlight}
use Rattle.soundness_values.proofs.Guards.{HeadIs, numbers_of, HeadsStand, guarded_held}
use Rattle.soundness_values.proofs.Known.{Target}
use Rattle.soundness_values.proofs.NumbersHeld.{serials_of_args}
use Rattle.soundness_values.proofs.Standings.{runs_at}
use Rattle.soundness_values.proofs.Tally.{at_most_once}

-- the numbers whose `Drop` bodies run, when an event has told of one more
abbrev pub dropping_by : Event → List ℕ → List ℕ
dropping_by event dropping = serial_ended event ++ dropping

-- an activation that runs is no deeper than those that run
pub below_all : (depth : ℕ) (act : Activation) (acts : List Activation) → at_depth depth acts ≡ Some act →
    depth < length acts
below_all depth act [] e = absurd (none-some act e)
below_all depth act (a ∷ older) e = by (depth == length older) refl e (below_all depth act older)
  where
    by : (b : Bool) → (depth == length older) ≡ b → (if b then Some a else at_depth depth older) ≡ Some act →
        (at_depth depth older ≡ Some act → depth < length older) → depth < suc (length older)
    by true t e later = let same : depth ≡ length older = (Decides-eqb depth (length older)).0 t in omega arith
    by false t e later = let less : depth < length older = later e in omega arith

module _ (setting : Setting) (size : ℕ → ℕ) (sized : (body key : ℕ) (id : TyId) →
    setting.local_ty body key ≡ Some id → key < size body) (protects : ℕ → ℕ → Bool) where
  -- Before a call. A `&mut` parameter that names exactly a place where a number stays is one that its body may not
  -- replace.
  pub record Before (dropping : List ℕ) (guards : List (Addr × ℕ)) (event : Event) (n : ℕ) (args : List Datum)
      (targets : List Target) (w : State) : Type 0 where
    pub counted : InFlight size (serials_of_args args) dropping w
    pub makes_none : serial_made event ≡ []
    pub was_made : (k : ℕ) → serial_ended event ≡ k ∷ [] → 1 ≤ times k (made_in w.trace)
    pub at_most : (k : ℕ) → times k (dropping_by event dropping) ≤ 1
    pub covered : (k : ℕ) → 1 ≤ times k (dropping_by event dropping) → 1 ≤ times k (numbers_of guards)
    pub heads : HeadsStand setting guards w
    pub spaced : AllSpaced guards targets
    pub exact : (m : ℕ) (t : Target) → slice_get targets m ≡ Some t → t.unique ≡ true →
        Each (λ (g : Addr × ℕ). t.address ≡ g.0 → protects n t.local ≡ true) guards

  -- and after it
  pub data Ended (dropping : List ℕ) (guards : List (Addr × ℕ)) (event : Event) : Answer → Type 0 where
    returned : (value : Datum) (v : State) → InFlight size (serials value) (dropping_by event dropping) v →
        HeadsStand setting guards v → Ended dropping guards event (Returns value v)
    unwound : (v : State) → InFlight size [] (dropping_by event dropping) v → HeadsStand setting guards v →
        Ended dropping guards event (Unwinds v)
    halted : (halt : Halt) (v : State) → IsAtMostOnce v.trace → Ended dropping guards event (HaltsIn halt v)

  -- numbers whose `Drop` bodies run are held
  pub still_held : (dropping : List ℕ) (guards : List (Addr × ℕ)) (w : State) → ((k : ℕ) → times k dropping ≤ 1) →
      ((k : ℕ) → 1 ≤ times k dropping → 1 ≤ times k (numbers_of guards)) → HeadsStand setting guards w → (k : ℕ) →
      times k dropping ≤ held size k w.activations
  still_held dropping guards w one covered heads k = by (times k dropping) refl
    where
      by : (n : ℕ) → times k dropping ≡ n → times k dropping ≤ held size k w.activations
      by zero e = omega arith
      by (suc n) e =
          let some : 1 ≤ times k dropping = omega arith in
          let there = guarded_held setting size sized guards w k heads (covered k some) in
          let most = one k in
          omega arith

  -- so a run that ends at such a state has ended each number at most once
  pub ends_at : (dropping flying : List ℕ) (guards : List (Addr × ℕ)) (w : State) →
      ((k : ℕ) → times k dropping ≤ 1) →
      ((k : ℕ) → 1 ≤ times k dropping → 1 ≤ times k (numbers_of guards)) → HeadsStand setting guards w →
      InFlight size flying dropping w → IsAtMostOnce w.trace
  ends_at dropping flying guards w one covered heads a =
      at_most_once size flying dropping w (still_held dropping guards w one covered heads) a

  -- before an event has told of one more
  pub before_ends : (dropping : List ℕ) (guards : List (Addr × ℕ)) (event : Event) (n : ℕ) (args : List Datum)
      (targets : List Target) (w : State) → Before dropping guards event n args targets w → IsAtMostOnce w.trace
  before_ends dropping guards event n args targets w b =
      ends_at dropping (serials_of_args args) guards w
      (λ k. let all = times_append k (serial_ended event) dropping in let most = b.at_most k in omega arith)
      (λ k l. b.covered k (let all = times_append k (serial_ended event) dropping in omega arith)) b.heads b.counted

  -- ---- places where a number stays, as an activation comes and goes

  pub head_deep : (w : State) (a : Addr) (k : ℕ) → HeadIs setting w a k → a.depth < length w.activations
  head_deep w a k h = let r = runs_at setting w a h.standing h.stands in
      below_all a.depth r.act w.activations r.is_at

  pub heads_deep : (guards : List (Addr × ℕ)) (w : State) → HeadsStand setting guards w →
      Each (λ (g : Addr × ℕ). g.0.depth < length w.activations) guards
  heads_deep [] w h = tt
  heads_deep (g ∷ guards) w h = (head_deep w g.0 g.1 h.0, heads_deep guards w h.1)

  head_begins : (w v : State) (top : Activation) (a : Addr) (k : ℕ) → v.activations ≡ top ∷ w.activations →
      HeadIs setting w a k → HeadIs setting v a k
  head_begins w v top a k e h =
      let less = head_deep w a k h in
      let other : (a.depth == length w.activations) ≡ false = not_same a.depth (length w.activations)
      (λ same. let never : ⊥ = omega arith in never) in
      record {
        standing = h.standing;
        stands = ap (λ l. option_and_then (into_all setting.items a.path)
            (located_in setting v a.depth a.key.0 (at_depth a.depth l))) e
            ∙ ap (λ b. option_and_then (into_all setting.items a.path)
            (located_in setting v a.depth a.key.0 (if b then Some top else at_depth a.depth w.activations))) other
            ∙ same_place (at_depth a.depth w.activations) ∙ h.stands;
        head = h.head;
      }
    where
      same_place : (o : Option Activation) → option_and_then (into_all setting.items a.path)
          (located_in setting v a.depth a.key.0 o)
          ≡ option_and_then (into_all setting.items a.path) (located_in setting w a.depth a.key.0 o)
      same_place None = refl
      same_place (Some act) = refl

  pub heads_begin : (guards : List (Addr × ℕ)) (w v : State) (top : Activation) →
      v.activations ≡ top ∷ w.activations → HeadsStand setting guards w → HeadsStand setting guards v
  heads_begin [] w v top e h = tt
  heads_begin (g ∷ guards) w v top e h = (head_begins w v top g.0 g.1 e h.0, heads_begin guards w v top e h.1)

  head_ends : (w v : State) (top : Activation) (a : Addr) (k : ℕ) → w.activations ≡ top ∷ v.activations →
      a.depth < length v.activations → HeadIs setting w a k → HeadIs setting v a k
  head_ends w v top a k e less h =
      let other : (a.depth == length v.activations) ≡ false = not_same a.depth (length v.activations)
      (λ same. let never : ⊥ = omega arith in never) in
      record {
        standing = h.standing;
        stands = same_place (at_depth a.depth v.activations)
            ∙ sym (ap (λ l. option_and_then (into_all setting.items a.path)
            (located_in setting w a.depth a.key.0 (at_depth a.depth l))) e
            ∙ ap (λ b. option_and_then (into_all setting.items a.path)
            (located_in setting w a.depth a.key.0 (if b then Some top else at_depth a.depth v.activations))) other)
            ∙ h.stands;
        head = h.head;
      }
    where
      same_place : (o : Option Activation) → option_and_then (into_all setting.items a.path)
          (located_in setting v a.depth a.key.0 o)
          ≡ option_and_then (into_all setting.items a.path) (located_in setting w a.depth a.key.0 o)
      same_place None = refl
      same_place (Some act) = refl

  pub heads_end : (guards : List (Addr × ℕ)) (w v : State) (top : Activation) →
      w.activations ≡ top ∷ v.activations → Each (λ (g : Addr × ℕ). g.0.depth < length v.activations) guards →
      HeadsStand setting guards w → HeadsStand setting guards v
  heads_end [] w v top e d h = tt
  heads_end (g ∷ guards) w v top e d h =
      (head_ends w v top g.0 g.1 e d.0 h.0, heads_end guards w v top e d.1 h.1)
