-- Each body of the elaborated graph does as that of the raw graph, by induction on ticks, given that what is done
-- within a body does so where the bodies that it enters do.
use Rattle.std.proofs.Common.{◌≡◌, ◌⊎◌, inl, inr, ℕ, zero, suc, ◌==◌, ◌≤◌, Bool, true, false, ℤ, List, [], ◌∷◌, ◌++◌, length, Option, Some, None, if◌then◌else◌, refl, ap, sym, ◌∙◌, subst, arith}
use Rattle.std.proofs.lemmas.Bool.Decides.{eqb_tells}
use Rattle.mir_base.specs.declared.trace.End.{End}
use Rattle.mir_base.specs.declared.trace.Event.{Event}
use Rattle.mir_base.specs.Trace.{Trace}
use Rattle.mir_ty.specs.declared.ty.TyId.{TyId}
use Rattle.mir_ty.specs.ItemTable.{ItemTable}
use Rattle.store_model.specs.Concrete.Effects.{concrete_effects}
use Rattle.store_model.specs.Values.Datum.{Datum, Gone}
use Rattle.store_model.specs.Effects.{Halt, Aborted, OutOfTicks, Stuck, StuckAt, BadUse, BadStore, NoChoice, Infeasible, Unreachable, Out, Go, Unwind, Halts}
use Rattle.store_model.specs.Concrete.Bodies.{CodeOfBodies, run_body, run_of, ended, after_tick, cells_of_youngest, outcome_of, end_of_halt}
use Rattle.store_model.specs.Concrete.Location.{Setting}
use Rattle.store_model.specs.Concrete.State.{Activation, cell, State, at_depth, with_event, spend, with_activation, without_activation, older_of, Answer, Returns, Unwinds, HaltsIn, beginning}
use Rattle.drop_values.specs.Covers.{Covers}
use Rattle.drop_values.specs.Like.{held, held_by, body_at, body_of, Flags, Like, SameAnswer, SameBodies, IsStuck, raw_setting, strict_setting}
use Rattle.drop_values.proofs.LikeLaws.{Covers-same}

-- the flags of one depth hold this
abbrev pub with_flags : Flags → ℕ → (ℕ → Datum) → Flags
with_flags flags depth holds d k = if d == depth then holds k else flags d k

pub too_deep : (d : ℕ) (acts : List Activation) → length acts ≤ d → at_depth d acts ≡ None
too_deep d [] l = refl
too_deep d (a ∷ older) l = by (d == length older) refl (too_deep d older (let k = l in omega arith))
  where
    by : (b : Bool) → (d == length older) ≡ b → at_depth d older ≡ None →
        (if b then Some a else at_depth d older) ≡ None
    by true e h = elim (eqb_tells d (length older)) [
      | inl y ↦ absurd (let same = y.1 in let never : ⊥ =
          omega (arith, same) in never)
      | inr y ↦ absurd (let n : true ≡ false = sym e ∙ y.0 in cc)
    ]
    by false e h = h

module _ (items : ItemTable) (local_ty local_ty' : (body local : ℕ) → Option TyId) (code code' : CodeOfBodies)
    (arguments : (n : ℕ) (args : List Datum) → code'.arguments n args ≡ code.arguments n args)
    (answers : (n : ℕ) → code'.answer n ≡ code.answer n) (good : ℕ → List Datum → State → Type 0) where
  abbrev raw : Setting
  raw = raw_setting items local_ty

  abbrev strict : Setting
  strict = strict_setting items local_ty'

  -- what is done within a body goes the same way; where it goes on, the result is the same
  abbrev pub SameWithin : Flags → (depth answer : ℕ) → Out State → Out State → Type 0
  SameWithin flags depth answer (Go v) o =
      (v' : State) × (holds : ℕ → Datum) × (o ≡ Go v') × Like local_ty (with_flags flags depth holds) v v'
      × (length v.activations ≡ suc depth) × (held depth answer v' ≡ held depth answer v)
  SameWithin flags depth answer (Unwind v) o = (v' : State) × (holds : ℕ → Datum) × (o ≡ Unwind v')
      × Like local_ty (with_flags flags depth holds) v v' × (length v.activations ≡ suc depth)
  SameWithin flags depth answer (Halts halt v) o = IsStuck halt
      ⊎ ((v' : State) × (o ≡ Halts halt v') × (v'.trace ≡ v.trace))

  -- within each body, from its beginning, where its flags hold nothing yet
  abbrev pub Within : Type 0
  Within = (n : ℕ) → SameBodies local_ty good n (run_body raw code n) (run_body strict code' n) →
      (flags : Flags) (depth number : ℕ) (args : List Datum) (w w' : State) →
      Like local_ty (with_flags flags depth (λ k. cell k (code.arguments number args))) w w' →
      length w.activations ≡ suc depth → body_at depth w ≡ Some number → w.ticks ≤ n →
      (event : Event) (u : State) (t : ℕ) → good number args u → u.ticks ≡ suc t →
      w ≡ with_activation (record { body = number; cells = code.arguments number args })
      (with_event event (record u { ticks = t })) →
      SameWithin flags depth (code.answer number) (code.within (concrete_effects raw (run_body raw code n) (suc n))
      (suc n) number w) (code'.within (concrete_effects strict (run_body strict code' n) (suc n)) (suc n) number w')

  -- a body is entered
  entered-Like : (flags : Flags) (a : Activation) (w w' : State) → Like local_ty flags w w' →
      Like local_ty (with_flags flags (length w.activations) (λ k. cell k a.cells)) (with_activation a w)
      (with_activation a w')
  entered-Like flags a w w' like = record {
    asked = like.asked;
    ticks = like.ticks;
    serial = like.serial;
    trace = like.trace;
    count = ap suc like.count;
    bodies = λ d. ap (λ n. body_of (if d == n then Some a else at_depth d w'.activations)) like.count
        ∙ bodies d (d == length w.activations);
    covers = λ d k b id. covers d k b id (d == length w.activations) refl;
    flags_are = λ d k b. flag d k b (d == length w.activations) refl;
  }
    where
      there : (d k : ℕ) (b : Bool) → (d == length w.activations) ≡ b → held d k (with_activation a w') ≡ held_by k
          (if b then Some a else at_depth d w'.activations)
      there d k b e = ap (λ n. held_by k (if d == n then Some a else at_depth d w'.activations)) like.count
          ∙ ap (λ b. held_by k (if b then Some a else at_depth d w'.activations)) e

      bodies : (d : ℕ) (b : Bool) → body_of (if b then Some a else at_depth d w'.activations) ≡ body_of
          (if b then Some a else at_depth d w.activations)
      bodies d true = refl
      bodies d false = like.bodies d

      covers : (d k b : ℕ) (id : TyId) (new : Bool) → (d == length w.activations) ≡ new →
          body_at d (with_activation a w) ≡ Some b → local_ty b k ≡ Some id → Covers (held d k (with_activation a w))
          (held d k (with_activation a w'))
      covers d k b id true e is ty =
          subst (Covers (held d k (with_activation a w))) (sym (there d k true e))
          (subst (λ b. Covers (held_by k (if b then Some a else at_depth d w.activations)) (cell k a.cells))
          (sym e) (Covers-same (cell k a.cells)))
      covers d k b id false e is ty =
          subst (Covers (held d k (with_activation a w))) (sym (there d k false e))
          (subst (λ b. Covers (held_by k (if b then Some a else at_depth d w.activations)) (held d k w')) (sym e)
          (like.covers d k b id (sym (ap (λ b. body_of (if b then Some a else at_depth d w.activations)) e) ∙ is) ty))

      flag : (d k b : ℕ) (new : Bool) → (d == length w.activations) ≡ new → body_at d (with_activation a w) ≡ Some b →
          local_ty b k ≡ None → held d k (with_activation a w') ≡ with_flags flags (length w.activations)
          (λ k. cell k a.cells) d k
      flag d k b true e is ty = there d k true e ∙ sym (ap (λ b. if b then cell k a.cells else flags d k) e)
      flag d k b false e is ty =
          there d k false e ∙ like.flags_are d k b
          (sym (ap (λ b. body_of (if b then Some a else at_depth d w.activations)) e) ∙ is) ty
          ∙ sym (ap (λ b. if b then cell k a.cells else flags d k) e)

  -- and left
  left-Like : (flags : Flags) (depth : ℕ) (holds : ℕ → Datum) (w w' : State) →
      Like local_ty (with_flags flags depth holds) w w' → length w.activations ≡ suc depth →
      Like local_ty flags (without_activation w) (without_activation w')
  left-Like flags depth holds w w' like deep = by w.activations refl w'.activations refl
    where
      by : (acts : List Activation) → w.activations ≡ acts → (acts' : List Activation) → w'.activations ≡ acts' →
          Like local_ty flags (without_activation w) (without_activation w')
      by [] e acts' e' = absurd (let n : 0 ≡ suc depth = sym (ap length e) ∙ deep in cc)
      by (a ∷ older) e [] e' = absurd (let n : 0 ≡ suc depth = sym (ap length e') ∙ like.count ∙ deep in cc)
      by (a ∷ older) e (a' ∷ older') e' = record {
        asked = like.asked;
        ticks = like.ticks;
        serial = like.serial;
        trace = like.trace;
        count = ap (λ l. length (older_of l)) e' ∙ (let x : suc (length older') ≡ suc (length older) =
            sym (ap length e') ∙ like.count ∙ ap length e in let y : length older' ≡ length older =
            omega (arith, x) in y) ∙ sym (ap (λ l. length (older_of l)) e);
        bodies = λ d. ap (λ l. body_of (at_depth d (older_of l))) e' ∙ bodies d (d == depth) refl
            ∙ sym (ap (λ l. body_of (at_depth d (older_of l))) e);
        covers = λ d k b id is ty. subst (λ l. Covers (held_by k (at_depth d (older_of l)))
            (held d k (without_activation w'))) (sym e)
            (subst (λ l. Covers (held_by k (at_depth d older)) (held_by k (at_depth d (older_of l)))) (sym e')
            (covers d k b id (d == depth) refl (sym (ap (λ l. body_of (at_depth d (older_of l))) e) ∙ is) ty));
        flags_are = λ d k b is ty. ap (λ l. held_by k (at_depth d (older_of l))) e'
            ∙ flag d k b (d == depth) refl (sym (ap (λ l. body_of (at_depth d (older_of l))) e) ∙ is) ty;
      }
        where
          long : length older ≡ depth
          long = let x : suc (length older) ≡ suc depth = sym (ap length e) ∙ deep in omega (arith, x)

          long' : length older' ≡ depth
          long' = let x : suc (length older') ≡ suc depth = sym (ap length e') ∙ like.count ∙ deep in omega (arith, x)

          at : (d : ℕ) → (d == depth) ≡ false → at_depth d w.activations ≡ at_depth d older
          at d n = ap (at_depth d) e ∙ ap (λ m. if d == m then Some a else at_depth d older) long
              ∙ ap (λ b. if b then Some a else at_depth d older) n

          at' : (d : ℕ) → (d == depth) ≡ false → at_depth d w'.activations ≡ at_depth d older'
          at' d n = ap (at_depth d) e' ∙ ap (λ m. if d == m then Some a' else at_depth d older') long'
              ∙ ap (λ b. if b then Some a' else at_depth d older') n

          none : (d : ℕ) → (d == depth) ≡ true → at_depth d older ≡ None
          none d y = elim (eqb_tells d depth) [
            | inl z ↦ (let same = z.1 in too_deep d older (omega (arith, same, long)))
            | inr z ↦ absurd (let n : true ≡ false = sym y ∙ z.0 in cc)
          ]

          none' : (d : ℕ) → (d == depth) ≡ true → at_depth d older' ≡ None
          none' d y = elim (eqb_tells d depth) [
            | inl z ↦ (let same = z.1 in too_deep d older'
                (omega (arith, same, long')))
            | inr z ↦ absurd (let n : true ≡ false = sym y ∙ z.0 in cc)
          ]

          bodies : (d : ℕ) (b : Bool) → (d == depth) ≡ b → body_of (at_depth d older') ≡ body_of (at_depth d older)
          bodies d true y = ap body_of (none' d y) ∙ sym (ap body_of (none d y))
          bodies d false y = sym (ap body_of (at' d y)) ∙ like.bodies d ∙ ap body_of (at d y)

          covers : (d k b : ℕ) (id : TyId) (yes' : Bool) → (d == depth) ≡ yes' → body_of (at_depth d older) ≡ Some b →
              local_ty b k ≡ Some id → Covers (held_by k (at_depth d older)) (held_by k (at_depth d older'))
          covers d k b id true y is ty = absurd (let n : None ≡ Some b = sym (ap body_of (none d y)) ∙ is in cc)
          covers d k b id false y is ty = subst (λ o. Covers (held_by k o) (held_by k (at_depth d older')))
              (at d y) (subst (λ o. Covers (held d k w) (held_by k o)) (at' d y)
              (like.covers d k b id (ap body_of (at d y) ∙ is) ty))

          flag : (d k b : ℕ) (yes' : Bool) → (d == depth) ≡ yes' → body_of (at_depth d older) ≡ Some b →
              local_ty b k ≡ None → held_by k (at_depth d older') ≡ flags d k
          flag d k b true y is ty = absurd (let n : None ≡ Some b = sym (ap body_of (none d y)) ∙ is in cc)
          flag d k b false y is ty = sym (ap (held_by k) (at' d y)) ∙ like.flags_are d k b (ap body_of (at d y) ∙ is) ty
              ∙ ap (λ b. if b then holds k else flags d k) y

  told-Like : (flags : Flags) (event : Event) (w w' : State) → Like local_ty flags w w' →
      Like local_ty flags (with_event event w) (with_event event w')
  told-Like flags event w w' l =
      record {
        asked = l.asked;
        ticks = l.ticks;
        serial = l.serial;
        trace = ap (λ t. t ++ event ∷ []) l.trace;
        count =
            l.count;
        bodies = l.bodies;
        covers = l.covers;
        flags_are = l.flags_are;
      }

  ticked-Like : (flags : Flags) (t : ℕ) (w w' : State) → Like local_ty flags w w' →
      Like local_ty flags (record w { ticks = t }) (record w' { ticks = t })
  ticked-Like flags t w w' l = record {
    asked = l.asked;
    ticks = refl;
    serial = l.serial;
    trace =
        l.trace;
    count = l.count;
    bodies = l.bodies;
    covers = l.covers;
    flags_are = l.flags_are;
  }

  youngest : (depth k : ℕ) (acts : List Activation) → length acts ≡ suc depth →
      cell k (cells_of_youngest acts) ≡ held_by k (at_depth depth acts)
  youngest depth k [] e = absurd (let n : 0 ≡ suc depth = e in cc)
  youngest depth k (a ∷ older) e = sym (ap (λ b. held_by k (if b then Some a else at_depth depth older))
      (elim (eqb_tells depth (length older)) [
        | inl y ↦ y.0
        | inr y ↦ absurd (y.1 (let x : suc (length older) ≡ suc depth = e in omega (arith, x)))
      ]))

  ended-Same : (flags : Flags) (depth answer number : ℕ) (o o' : Out State) → SameWithin flags depth answer o o' →
      SameAnswer local_ty flags (ended number answer o) (ended number answer o')
  ended-Same flags depth answer number (Go v) o' h = (
    with_event (Event.Return number) (without_activation h.0),
    ap (ended number answer) h.2 ∙ ap (λ d. Returns d (with_event (Event.Return number) (without_activation h.0)))
        (youngest depth answer h.0.activations (h.3.count ∙ h.4) ∙ h.5 ∙ sym (youngest depth answer v.activations h.4)),
    told-Like flags (Event.Return number) (without_activation v) (without_activation h.0)
        (left-Like flags depth h.1 v h.0 h.3 h.4),
  )
  ended-Same flags depth answer number (Unwind v) o' h = (
    with_event (Event.Unwind number) (without_activation h.0),
    ap (ended number answer) h.2,
    told-Like flags
        (Event.Unwind number) (without_activation v) (without_activation h.0)
        (left-Like flags depth h.1 v h.0 h.3 h.4),
  )
  ended-Same flags depth answer number (Halts halt v) o' (inl stuck) = inl stuck
  ended-Same flags depth answer number (Halts halt v) o' (inr h) = inr (h.0, ap (ended number answer) h.1, h.2)

  module _ (within : Within) where
    pub bodies_same : (n : ℕ) → SameBodies local_ty good n (run_body raw code n) (run_body strict code' n)
    bodies_same zero flags event number args w w' may like l = inr (w', refl, like.trace)
    bodies_same (suc n) flags event number args w w' may like l =
        subst (λ t. SameAnswer local_ty flags (run_body raw code (suc n) event number args w)
        (after_tick (spend t w') (rest' w'))) (sym like.ticks) (by w.ticks refl (bodies_same n))
      where
        rest' : State → State → Answer
        rest' _ v = ended number (code'.answer number)
            (code'.within (concrete_effects strict (run_body strict code' n) (suc n)) (suc n) number
            (with_activation (record { body = number; cells = code'.arguments number args }) (with_event event v)))

        by : (t : ℕ) → w.ticks ≡ t → SameBodies local_ty good n (run_body raw code n) (run_body strict code' n) →
            SameAnswer local_ty flags (after_tick (spend t w)
            (λ v. ended number (code.answer number)
            (code.within (concrete_effects raw (run_body raw code n) (suc n)) (suc n) number
            (with_activation (record { body = number; cells = code.arguments number args }) (with_event event v)))))
            (after_tick (spend t w') (rest' w'))
        by zero e ih = inr (w', refl, like.trace)
        by (suc t) e ih =
            let v : State = with_event event (record w { ticks = t }) in
            let v' : State = with_event event (record w' { ticks = t }) in
            let like' : Like local_ty flags v v' = told-Like flags event (record w { ticks = t })
            (record w' { ticks = t }) (ticked-Like flags t w w' like) in
            let a : Activation = record { body = number; cells = code.arguments number args } in
            subst (λ cells. SameAnswer local_ty flags (ended number (code.answer number)
            (code.within (concrete_effects raw (run_body raw code n) (suc n)) (suc n) number (with_activation a v)))
            (ended number (code'.answer number) (code'.within
            (concrete_effects strict (run_body strict code' n) (suc n)) (suc n) number
            (with_activation (record { body = number; cells = cells }) v')))) (sym (arguments number args))
            (subst (λ k. SameAnswer local_ty flags (ended number (code.answer number)
            (code.within (concrete_effects raw (run_body raw code n) (suc n)) (suc n) number (with_activation a v)))
            (ended number k (code'.within (concrete_effects strict (run_body strict code' n) (suc n))
            (suc n) number (with_activation a v')))) (sym (answers number))
            (ended-Same flags (length w.activations) (code.answer number) number _ _
            (within n ih flags (length w.activations) number args (with_activation a v) (with_activation a v')
            (entered-Like flags a v v' like') refl
            (ap (λ b. body_of (if b then Some a else at_depth (length w.activations) w.activations))
            (elim (eqb_tells (length w.activations) (length w.activations)) [
              | inl y ↦ y.0
              | inr y ↦ absurd (y.1 refl)
            ]))
            (omega arith) event w t may e refl)))

    -- the whole run
    pub run_same : (main : ℕ) (asked : List ℤ) (ticks : ℕ) → (told : Trace × End) →
        run_of raw code main asked ticks ≡ told → good main [] (beginning asked ticks) →
        ((body block : ℕ) → told.1 ≡ End.Stuck body block → ⊥) → run_of strict code' main asked ticks ≡ told
    run_same main asked ticks told e may alive = by (run_body raw code (suc ticks) (Event.Call main) main []
        (beginning asked ticks)) (bodies_same (suc ticks) (λ d k. Gone) (Event.Call main) main []
        (beginning asked ticks) (beginning asked ticks) may start (omega arith)) e
      where
        start : Like local_ty (λ d k. Gone) (beginning asked ticks) (beginning asked ticks)
        start = record {
          asked = refl;
          ticks = refl;
          serial = refl;
          trace = refl;
          count = refl;
          bodies =
              λ d. refl;
          covers = λ d k b id is ty. Covers-same (held d k (beginning asked ticks));
          flags_are =
              λ d k b is ty. refl;
        }

        stuck_ends : (halt : Halt) → IsStuck halt → (body : ℕ)
            × ((block : ℕ) × (end_of_halt halt ≡ End.Stuck body block))
        stuck_ends Stuck s = (0, (0, refl))
        stuck_ends (StuckAt body block) s = (body, (block, refl))
        stuck_ends other s = elim s [ ]

        by : (a : Answer) → SameAnswer local_ty (λ d k. Gone) a
            (run_body strict code' (suc ticks) (Event.Call main) main [] (beginning asked ticks)) →
            outcome_of a ≡ told → run_of strict code' main asked ticks ≡ told
        by (Returns value v) h e = ap outcome_of h.1 ∙ ap (λ t. (t, End.Returned)) h.2.trace ∙ e
        by (Unwinds v) h e = ap outcome_of h.1 ∙ ap (λ t. (t, End.Panicked)) h.2.trace ∙ e
        by (HaltsIn halt v) (inl stuck) e = let s = stuck_ends halt stuck in absurd
            (alive s.0 s.1.0 (ap (λ (t : Trace × End). t.1) (sym e) ∙ s.1.1))
        by (HaltsIn halt v) (inr h) e = ap outcome_of h.1 ∙ ap (λ t. (t, end_of_halt halt)) h.2 ∙ e
