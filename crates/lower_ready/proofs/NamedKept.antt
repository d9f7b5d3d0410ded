-- What the watch over what the reference in a local names keeps, effect by effect, if it looks for uses in calls
-- alone: that nothing bad was seen, whatever is done but a call; that what is named is kept, where all that is taken
-- is apart; and that it looks at nothing any more.
use Rattle.std.proofs.Common.{◌≡◌, ℕ, ◌==◌, ◌&&◌, ◌||◌, not, Bool, true, false, List, [], ◌∷◌, ◌++◌, map, flat_map, Option, Some, None, refl, sym, ap, subst, ◌∙◌}
use Rattle.std.specs.List.{list_any}
use Rattle.std.specs.Option.{option_map_or}
use Rattle.std.proofs.lemmas.Bool.{false≢true}
use Rattle.mir_ty.specs.declared.ty.TyId.{TyId}
use Rattle.mir_ty.specs.ItemTable.{ItemTable}
use Rattle.store_model.specs.Abstract.Effects.{never_at}
use Rattle.store_model.specs.Effects as effects
use Rattle.store_model.specs.Effects.{EffectSite, Operand, Action, Test, Mode, Normal, Unwinding, Halt, Infeasible, Unreachable, Out, Go, Unwind, Halts, Choice, Yes, No, Neither, Effects, stored_by, stores_where, halting_if}
use Rattle.store_model.specs.Places.Place.{Place, whole_local}
use Rattle.cfg_graph.specs.declared.graph.Body.{Body}
use Rattle.cfg_graph.specs.NamedPlaces.{stores}
use Rattle.cfg_graph.specs.Uses.{PlaceUse, Copies, Moves, Borrows, Touches, Tests, Stores, Drops, Frees}
use Rattle.soundness_values.proofs.Leaving.{ShownOut}
use Rattle.soundness_frame.proofs.PassFrameActs.{AnsweredSo}
use Rattle.lower_ready.proofs.NamedLines.{look, quiet, quiet_step, call_fold, call_step, made_since, borrows_it, crosses, is_plain, unused}
use Rattle.lower_ready.proofs.NamedWatch as watch
use Rattle.lower_ready.proofs.NamedWatch.{Since, Unmade, Kept, Taken, Lost, NamedState, used_by}
use Rattle.lower_ready.proofs.Noting.{Note, operand_notes, operands_in, other_notes, before, stored, store_note, tested, may_panic, is_call, Watched, choice, chosen, unwound, looked, acts_by, drops_by, needs_at, watching}

-- ---- whatever is kept of a state

module _ (items : ItemTable) (tys : ℕ → Option TyId) (body : Body) (local : ℕ) (named : Place) where
  abbrev pub V : Type 0
  V = Watched NamedState

  abbrev pub p : Effects V
  p = watching items tys (look body local named)

  abbrev pub NotBad : V → Type 0
  NotBad v = v.seen.is_bad ≡ false

  -- however a run halts, nothing bad was seen
  abbrev pub over : Halt → V → Type 0
  over halt v = NotBad v

  module _ (J : NamedState → Type 0) (fine : (m : NamedState) → J m → m.is_bad ≡ false) (Okay : List Note → Type 0)
      (both : (xs ys : List Note) → Okay xs → Okay ys → Okay (xs ++ ys))
      (stored_okay : (action : Action) → Okay (stored action))
      (closed : (notes : List Note) (m : NamedState) → Okay notes → J m → J (look body local named false notes m)) where
    abbrev pub I : V → Type 0
    I v = J v.seen

    abbrev Fine : Out V → Type 0
    Fine = ShownOut over I I

    choice_kept : (list : List Bool) (m : NamedState) (f h : V → Out V) → J m → ((v : V) → I v → Fine (f v)) →
        ((v : V) → I v → Fine (h v)) → Fine (choice list m f h)
    choice_kept [] m f h j a b = fine m j
    choice_kept (false ∷ list) m f h j a b = a (record { seen = m; choices = list }) j
    choice_kept (true ∷ list) m f h j a b = b (record { seen = m; choices = list }) j

    chosen_kept : (list : List Bool) (m : NamedState) → J m → AnsweredSo over I (chosen list m)
    chosen_kept [] m j = fine m j
    chosen_kept (false ∷ list) m j = j
    chosen_kept (true ∷ list) m j = j

    halting_kept : (b : Bool) (o : Out V) → Fine o → Fine (halting_if b Unreachable o)
    halting_kept true (Go v) k = fine v.seen k
    halting_kept true (Unwind v) k = k
    halting_kept true (Halts halt v) k = k
    halting_kept false (Go v) k = k
    halting_kept false (Unwind v) k = k
    halting_kept false (Halts halt v) k = k

    -- what is asked of a call
    abbrev pub CallKeeps : Action → Type 0
    CallKeeps action = is_call action ≡ true → (m : NamedState) → J m → J (look body local named true (before action) m)

    used_kept : (c : Bool) (action : Action) → is_call action ≡ c → Okay (before action) → CallKeeps action →
        (m : NamedState) → J m → J (look body local named c (before action) m)
    used_kept true action e ok h m j = h e m j
    used_kept false action e ok h m j = closed (before action) m ok j

    acts_by_kept : (b : Bool) (action : Action) → Okay (before action) → CallKeeps action → (v : V) → I v →
        Fine (acts_by items tys (look body local named) b action v)
    acts_by_kept false action ok h v i =
        closed (before action ++ stored action) v.seen (both (before action) (stored action) ok (stored_okay action)) i
    acts_by_kept true action ok h v i =
        choice_kept v.choices (look body local named (is_call action) (before action) v.seen)
        (λ w. Go (looked items tys (look body local named) (stored action) w)) Unwind
        (used_kept (is_call action) action refl ok h v.seen i)
        (λ w j. closed (stored action) w.seen (stored_okay action) j) (λ w j. j)

    pub act_kept : (action : Action) → Okay (before action) → CallKeeps action → (v : V) → I v → Fine (p.act action v)
    act_kept action ok h v i =
        halting_kept (stores_where (never_at items tys) action)
        (acts_by items tys (look body local named) (may_panic action) action v)
        (acts_by_kept (may_panic action) action ok h v i)

    pub choose_kept : (test : Test) → Okay (tested test) → (v : V) → I v → AnsweredSo over I (p.choose test v)
    choose_kept test ok v i = chosen_kept v.choices (look body local named false (tested test) v.seen) (closed
        (tested test) v.seen ok i)

    unwound_kept : (mode : Mode) (v : V) → I v → Fine (unwound mode v)
    unwound_kept Normal v i = i
    unwound_kept Unwinding v i = fine v.seen i

    drops_by_kept : (b : Bool) (mode : Mode) (v : V) → I v → Fine (drops_by items tys (look body local named) b mode v)
    drops_by_kept true mode v i = choice_kept v.choices v.seen Go (unwound mode) i (λ w j. j) (unwound_kept mode)
    drops_by_kept false mode v i = i

    pub drop_kept : (mode : Mode) (site : EffectSite) → Okay ((Drops, site.place) ∷ []) → (v : V) → I v →
        Fine (p.drop mode site v)
    drop_kept mode site ok v i =
        drops_by_kept (needs_at items tys (look body local named) site) mode
        (looked items tys (look body local named) ((Drops, site.place) ∷ []) v) (closed
        ((Drops, site.place) ∷ []) v.seen ok i)

    pub tick_kept : (v : V) → I v → Fine (p.tick v)
    tick_kept v i = choice_kept v.choices v.seen Go (Halts Infeasible) i (λ w j. j) (λ w j. fine w.seen j)

-- ---- that nothing bad was seen

module _ (body : Body) (local : ℕ) (named : Place) where
  quiet_clean : (right : Bool) (notes : List Note) (m : NamedState) → m.is_bad ≡ false →
      (quiet body local named right notes m).is_bad ≡ false
  quiet_clean right [] m e = e
  quiet_clean right (x ∷ rest) m e =
      quiet_clean right rest _ (by (watch.is_made body local x) (is_plain body local named x))
    where
      by : (made plain : Bool) → (quiet_step body local named right made plain m).is_bad ≡ false
      by true plain = e
      by false true = e
      by false false = e

  pub look_clean : (notes : List Note) (m : NamedState) → m.is_bad ≡ false →
      (look body local named false notes m).is_bad ≡ false
  look_clean notes m e = quiet_clean (borrows_it body local named notes) notes m e

  -- a call that does not pass the reference
  unused_fold : (crossed : Bool) (notes : List Note) (m : NamedState) → unused body local named notes ≡ true →
      m.is_bad ≡ false → (call_fold body local named crossed notes m).is_bad ≡ false
  unused_fold crossed [] m u e = e
  unused_fold crossed (x ∷ rest) m u e =
      unused_fold crossed rest _ (right (not (watch.is_used body local x)) (unused body local named rest) u)
      (by (watch.is_used body local x) (is_plain body local named x)
      (left (not (watch.is_used body local x)) (unused body local named rest) u))
    where
      left : (a b : Bool) → (a && b) ≡ true → a ≡ true
      left true b e = refl
      left false b e = e

      right : (a b : Bool) → (a && b) ≡ true → b ≡ true
      right true b e = e
      right false b e = absurd (false≢true e)

      by : (used plain : Bool) → not used ≡ true → (call_step body local named used plain crossed x m).is_bad ≡ false
      by true plain n = absurd (false≢true n)
      by false true n = e
      by false false n = e

  pub unused_clean : (notes : List Note) (m : NamedState) → unused body local named notes ≡ true → m.is_bad ≡ false →
      (look body local named true notes m).is_bad ≡ false
  unused_clean notes m u e = unused_fold (crosses body local named notes) notes m u e

  -- ---- that what is named is kept, or nothing is looked at any more

  abbrev pub is_safe : Since → Bool
  is_safe Unmade = false
  is_safe Kept = true
  is_safe Taken = false
  is_safe Lost = true

  abbrev pub KeptSo : NamedState → Type 0
  KeptSo m = (m.is_bad ≡ false) × (is_safe m.since ≡ true)

  abbrev pub AllApart : List Note → Type 0
  AllApart [] = Unit {0}
  AllApart (x ∷ rest) = (is_plain body local named x ≡ true) × AllApart rest

  pub apart_both : (xs ys : List Note) → AllApart xs → AllApart ys → AllApart (xs ++ ys)
  apart_both [] ys a b = b
  apart_both (x ∷ xs) ys a b = (a.0, apart_both xs ys a.1 b)

  pub stored_apart : (action : Action) → AllApart (stored action)
  stored_apart action = by (stored_by action)
    where
      by : (o : Option EffectSite) → AllApart (option_map_or store_note o [])
      by None = tt
      by (Some site) = (refl, tt)

  pub made_safe : (right : Bool) (since : Since) → is_safe (made_since body local named right since) ≡ true
  made_safe true Unmade = refl
  made_safe true Kept = refl
  made_safe true Taken = refl
  made_safe true Lost = refl
  made_safe false Unmade = refl
  made_safe false Kept = refl
  made_safe false Taken = refl
  made_safe false Lost = refl

  quiet_kept : (right : Bool) (notes : List Note) (m : NamedState) → AllApart notes → KeptSo m →
      KeptSo (quiet body local named right notes m)
  quiet_kept right [] m a k = k
  quiet_kept right (x ∷ rest) m a k =
      quiet_kept right rest _ a.1 (by (watch.is_made body local x) (is_plain body local named x) a.0)
    where
      by : (made plain : Bool) → plain ≡ true → KeptSo (quiet_step body local named right made plain m)
      by true plain e = (k.0, made_safe right m.since)
      by false true e = k
      by false false e = absurd (false≢true e)

  pub look_kept : (notes : List Note) (m : NamedState) → AllApart notes → KeptSo m →
      KeptSo (look body local named false notes m)
  look_kept notes m a k = quiet_kept (borrows_it body local named notes) notes m a k

  -- a call that passes it, where all that is moved is apart
  abbrev pub NoStores : List Note → Type 0
  NoStores [] = Unit {0}
  NoStores (x ∷ rest) = (stores body x.0 ≡ false) × NoStores rest

  no_stores_both : (xs ys : List Note) → NoStores xs → NoStores ys → NoStores (xs ++ ys)
  no_stores_both [] ys a b = b
  no_stores_both (x ∷ xs) ys a b = (a.0, no_stores_both xs ys a.1 b)

  operand_no_stores : (operand : Operand) → NoStores (operand_notes operand)
  operand_no_stores (effects.Copied site) = (refl, tt)
  operand_no_stores (effects.Moved site) = (refl, tt)
  operand_no_stores (effects.Number value kind) = tt
  operand_no_stores (effects.Truth value) = tt
  operand_no_stores effects.UnitValue = tt

  operands_no_stores : (operands : List Operand) → NoStores (flat_map operand_notes operands)
  operands_no_stores [] = tt
  operands_no_stores (operand ∷ operands) =
      no_stores_both (operand_notes operand) (flat_map operand_notes operands) (operand_no_stores operand)
      (operands_no_stores operands)

  other_no_stores : (action : Action) → NoStores (other_notes action)
  other_no_stores (effects.Borrow to unique base) = (refl, tt)
  other_no_stores (effects.Touch base) = (refl, tt)
  other_no_stores (effects.Free box) = (refl, tt)
  other_no_stores action = tt

  before_no_stores : (action : Action) → NoStores (before action)
  before_no_stores action = no_stores_both (flat_map operand_notes (operands_in action)) (other_notes action)
      (operands_no_stores (operands_in action)) (other_no_stores action)

  none_crosses : (notes : List Note) → AllApart notes → crosses body local named notes ≡ false
  none_crosses [] a = refl
  none_crosses (x ∷ rest) a =
      ap (λ (b : Bool). not b || crosses body local named rest) a.0 ∙ none_crosses rest a.1

  fold_kept : (notes : List Note) (m : NamedState) → NoStores notes → KeptSo m →
      AllApart notes → KeptSo (call_fold body local named false notes m)
  fold_kept [] m n k a = k
  fold_kept (x ∷ rest) m n k a = fold_kept rest _ n.1
      (by (watch.is_used body local x) (is_plain body local named x) a.0) a.1
    where
      used : (since : Since) (s bad : Bool) → is_safe since ≡ true → s ≡ false → bad ≡ false →
          used_by s false since bad ≡ false
      used Unmade s bad e f g = g
      used Kept s bad e f g = (λ i. g i || (f i || false))
      used Taken s bad e f g = absurd (false≢true e)
      used Lost s bad e f g = g

      by : (used_so plain : Bool) → plain ≡ true → KeptSo (call_step body local named used_so plain false x m)
      by true plain e = (used m.since (stores body x.0) m.is_bad k.1 n.0 k.0, k.1)
      by false true e = k
      by false false e = absurd (false≢true e)

  pub passed_kept : (action : Action) (m : NamedState) → AllApart (before action) → KeptSo m →
      KeptSo (look body local named true (before action) m)
  passed_kept action m a k = subst (λ (c : Bool). KeptSo (call_fold body local named c (before action) m))
      (sym (none_crosses (before action) a)) (fold_kept (before action) m (before_no_stores action) k a)

  -- ---- that nothing is looked at any more

  abbrev pub LostSo : NamedState → Type 0
  LostSo m = (m.is_bad ≡ false) × (m.since ≡ Lost)

  quiet_lost : (right : Bool) (notes : List Note) (m : NamedState) → LostSo m →
      LostSo (quiet body local named right notes m)
  quiet_lost right [] m k = k
  quiet_lost right (x ∷ rest) m k =
      quiet_lost right rest _ (by (watch.is_made body local x) (is_plain body local named x))
    where
      by : (made plain : Bool) → LostSo (quiet_step body local named right made plain m)
      by true plain = (k.0, ap (made_since body local named right) k.1)
      by false true = k
      by false false = (k.0, ap Rattle.lower_ready.proofs.NamedWatch.taken_since k.1)

  pub look_lost : (notes : List Note) (m : NamedState) → LostSo m → LostSo (look body local named false notes m)
  look_lost notes m k = quiet_lost (borrows_it body local named notes) notes m k

  fold_lost : (crossed : Bool) (notes : List Note) (m : NamedState) → LostSo m →
      LostSo (call_fold body local named crossed notes m)
  fold_lost crossed [] m k = k
  fold_lost crossed (x ∷ rest) m k =
      fold_lost crossed rest _ (by (watch.is_used body local x) (is_plain body local named x))
    where
      by : (used_so plain : Bool) → LostSo (call_step body local named used_so plain crossed x m)
      by true plain = (
        ap (λ (since : Since). used_by (stores body x.0) crossed since m.is_bad) k.1 ∙ k.0,
        k.1,
      )
      by false true = k
      by false false = (k.0, ap Rattle.lower_ready.proofs.NamedWatch.taken_since k.1)

  pub passed_lost : (notes : List Note) (m : NamedState) → LostSo m → LostSo (look body local named true notes m)
  passed_lost notes m k = fold_lost (crosses body local named notes) notes m k
