-- What is present of a place stays so while only places apart from it are changed; and so the effects of a checked run
-- that change no others keep what is known and what is present.
use Rattle.std.proofs.Common.{◌≡◌, ◌⊎◌, inl, inr, ℕ, ◌==◌, ◌&&◌, Bool, true, false, List, [], ◌∷◌, Option, if◌then◌else◌, refl, ap, sym, ◌∙◌, subst}
use Rattle.std.specs.Prelude.{option_and_then}
use Rattle.std.specs.Option.{option_map_or}
use Rattle.std.proofs.lemmas.Bool.{false≢true}
use Rattle.std.proofs.lemmas.Bool.Decides.{Decides-eqb}
use Rattle.mir_ty.specs.declared.ty.TyId.{TyId}
use Rattle.mir_ty.specs.Facts.{needs_drop}
use Rattle.mir_ty.specs.ItemTable.{ItemTable, type_at}
use Rattle.store_model.specs.Abstract.Effects as free
use Rattle.store_model.specs.Abstract.Effects.{AbstractState, abstract_effects, presence, with_presence, when, operand_used, operands_used, store, panics_by_choice, returns_by_choice, computed_by_choice, choice_after, chosen_next, acted, acted_on, watched_at, may_use, may_store, may_test, unless_never, never_at, presence_of}
use Rattle.store_model.specs.Abstract.Presence.{Presence, itself_gone, after_action, is_whole_at}
use Rattle.store_model.specs.Effects as effects
use Rattle.store_model.specs.Effects.{EffectSite, Operand, Action, Test, Mode, Normal, Unwinding, Halt, Aborted, BadUse, BadStore, NoChoice, Infeasible, Unreachable, Out, Go, Unwind, Halts, Choice, Yes, No, Neither, Effects, on_go, halting_if, stores_where}
use Rattle.store_model.specs.Places.Place.{Step, ToPart, ToField, ToContent, ToElement, Place, is_reference, content_of, Watched, Whole, ThroughReference, ByElement, watched, watched_step, watched_content}
use Rattle.typing_rules.specs.Accesses.{begin_alike}
use Rattle.soundness_values.proofs.Fits.{itself_same}
use Rattle.soundness_values.proofs.LocalPresence.{presence_changed, presence_other}
use Rattle.soundness_values.proofs.NoOverlap.{seen}
use Rattle.soundness_frame.proofs.PassFrameActs.{Takes, AllTake, Allowed, AllowedTest, KeptOut, KeptChoice, Keeping}
use Rattle.soundness_frame.proofs.PassFrameFacts.{Fixed}
use Rattle.soundness_values.proofs.WholeApart.{whole_apart}

-- ---- what counts for a place

-- a place is watched to its end, or what is done there counts for none
data Way : Watched → List Step → Type 0 where
  to_end : (steps : List Step) → Way (record { steps = steps; reach = Whole }) steps
  by_reference : (w : Watched) (steps : List Step) → w.reach ≡ ThroughReference → Way w steps
  by_element : (w : Watched) (steps : List Step) → w.reach ≡ ByElement → Way w steps

one_step : (step : Step) (w : Watched) (steps : List Step) → Way w steps → Way (watched_step step w) (step ∷ steps)
one_step step _ _ (to_end steps) = to_end (step ∷ steps)
one_step step w steps (by_reference _ _ e) = by_reference (watched_step step w) (step ∷ steps) e
one_step step w steps (by_element _ _ e) = by_element (watched_step step w) (step ∷ steps) e

way_of : (items : ItemTable) (id : Option TyId) (steps : List Step) → Way (watched items id steps) steps
way_of items id [] = to_end []
way_of items id (ToPart n ∷ steps) = one_step (ToPart n) _ steps (way_of items _ steps)
way_of items id (ToField v n ∷ steps) = one_step (ToField v n) _ steps (way_of items _ steps)
way_of items id (ToContent ∷ steps) =
    by (is_reference (option_and_then (type_at items) id))
    (way_of items (option_and_then content_of (option_and_then (type_at items) id)) steps)
  where
    by : (b : Bool) →
        Way (watched items (option_and_then content_of (option_and_then (type_at items) id)) steps) steps →
        Way (watched_content b (watched items (option_and_then content_of (option_and_then (type_at items) id)) steps))
        (ToContent ∷ steps)
    by true w = by_reference _ (ToContent ∷ steps) refl
    by false w = one_step ToContent _ steps w
way_of items id (ToElement i ∷ steps) = by_element _ (ToElement i ∷ steps) refl

-- what is present there is changed by the whole place, or not at all
acted_so : (w : Watched) (steps : List Step) (takes : Bool) (p : Presence) → Way w steps →
    (acted takes w p ≡ after_action takes steps p) ⊎ (acted takes w p ≡ p)
acted_so _ _ takes p (to_end steps) = inl refl
acted_so w steps takes p (by_reference _ _ e) =
    inr (ap (λ r. elim r [ Whole ↦ after_action takes w.steps p | ThroughReference ↦ p | ByElement ↦ p ]) e)
acted_so w steps takes p (by_element _ _ e) =
    inr (ap (λ r. elim r [ Whole ↦ after_action takes w.steps p | ThroughReference ↦ p | ByElement ↦ p ]) e)

abbrev pub Cells : Type 0
Cells = List (ℕ × Presence)

module _ (May : Place → Type 0) where
  -- a place no part of which is changed, nor a container as a whole
  abbrev pub Apart : Place → Type 0
  Apart place = (q : Place) → May q → (place.local == q.local && begin_alike (seen place.steps) (seen q.steps)) ≡ false

  -- so much of what was present is still
  pub record CellsKept (before now : Cells) : Type 0 where
    pub fixed : (local : ℕ) → Fixed May local → presence local now ≡ presence local before
    pub whole : (place : Place) → Apart place →
        is_whole_at place.steps (presence place.local now) ≡ is_whole_at place.steps (presence place.local before)
    pub there : (place : Place) → Apart place →
        itself_gone (presence place.local now) ≡ itself_gone (presence place.local before)

  pub cells_same : (cells : Cells) → CellsKept cells cells
  cells_same cells = record { fixed = λ local f. refl; whole = λ place a. refl; there = λ place a. refl }

  module _ (items : ItemTable) (local_ty : ℕ → Option TyId) (before : Cells) where
    changed_kept : (takes : Bool) (site : EffectSite) (now : Cells) → May site.place → CellsKept before now →
        CellsKept before (with_presence site.place.local (acted takes (watched_at items local_ty site)) now)
    changed_kept takes site now m k = record {
      fixed = λ local f. presence_other site.place.local local (acted takes (watched_at items local_ty site)) now
          (f site.place m) ∙ k.fixed local f;
      whole = λ place a. by (is_whole_at place.steps) place (place.local == site.place.local) refl (a site.place m)
          (λ h. whole_there place h (presence site.place.local now)) ∙ k.whole place a;
      there = λ place a. by itself_gone place (place.local == site.place.local) refl (a site.place m)
          (λ h. gone_there place h (presence site.place.local now)) ∙ k.there place a;
    }
      where
        change : Presence → Presence
        change = acted takes (watched_at items local_ty site)

        so : (p : Presence) → (change p ≡ after_action takes site.place.steps p) ⊎ (change p ≡ p)
        so p = acted_so (watched_at items local_ty site) site.place.steps takes p
            (way_of items (local_ty site.place.local) site.place.steps)

        whole_there : (place : Place) → begin_alike (seen place.steps) (seen site.place.steps) ≡ false →
            (p : Presence) → is_whole_at place.steps (change p) ≡ is_whole_at place.steps p
        whole_there place h p = changed (so p)
          where
            changed : (change p ≡ after_action takes site.place.steps p) ⊎ (change p ≡ p) →
                is_whole_at place.steps (change p) ≡ is_whole_at place.steps p
            changed (inl e) = ap (is_whole_at place.steps) e ∙ whole_apart items place.steps site.place.steps takes p h
            changed (inr e) = ap (is_whole_at place.steps) e

        below : (steps : List Step) (p : Presence) (s : List Step) → begin_alike (seen s) (seen steps) ≡ false →
            itself_gone (after_action takes steps p) ≡ itself_gone p
        below [] p s h = absurd (alike_none s h)
          where
            alike_none : (s : List Step) → begin_alike (seen s) [] ≡ false → ⊥
            alike_none [] h = false≢true (sym h)
            alike_none (ToPart n ∷ s) h = false≢true (sym h)
            alike_none (ToField v n ∷ s) h = false≢true (sym h)
            alike_none (ToContent ∷ s) h = false≢true (sym h)
            alike_none (ToElement i ∷ s) h = false≢true (sym h)
        below (step ∷ steps) p s h = itself_same items step (after_action takes steps) p

        gone_there : (place : Place) → begin_alike (seen place.steps) (seen site.place.steps) ≡ false →
            (p : Presence) → itself_gone (change p) ≡ itself_gone p
        gone_there place h p = changed (so p)
          where
            changed : (change p ≡ after_action takes site.place.steps p) ⊎ (change p ≡ p) →
                itself_gone (change p) ≡ itself_gone p
            changed (inl e) = ap itself_gone e ∙ below site.place.steps p place.steps h
            changed (inr e) = ap itself_gone e

        by : (test : Presence → Bool) (place : Place) (b : Bool) → (place.local == site.place.local) ≡ b →
            (b && begin_alike (seen place.steps) (seen site.place.steps)) ≡ false →
            (begin_alike (seen place.steps) (seen site.place.steps) ≡ false →
            test (change (presence site.place.local now)) ≡ test (presence site.place.local now)) →
            test (presence place.local (with_presence site.place.local change now)) ≡ test (presence place.local now)
        by test place false e h same = ap test (presence_other site.place.local place.local change now e)
        by test place true e h same = subst
            (λ n. test (presence n (with_presence site.place.local change now)) ≡ test (presence n now))
            (sym ((Decides-eqb place.local site.place.local).0 e))
            (ap test (presence_changed site.place.local change now) ∙ same h)

    -- ---- free effects

    abbrev Free : AbstractState → Type 0
    Free w = CellsKept before w.cells

    when_kept : (b : Bool) (halt : Halt) (next : AbstractState → Out AbstractState) (w : AbstractState) →
        KeptOut Free (next w) → KeptOut Free (when b halt next w)
    when_kept true halt next w h = h
    when_kept false halt next w h = tt

    go_kept : (o : Out AbstractState) (next : AbstractState → Out AbstractState) → KeptOut Free o →
        ((w : AbstractState) → Free w → KeptOut Free (next w)) → KeptOut Free (on_go o next)
    go_kept (Go w) next h f = f w h
    go_kept (Unwind w) next h f = h
    go_kept (Halts halt w) next h f = tt

    operand_kept : (operand : Operand) (w : AbstractState) → Takes May operand → Free w →
        KeptOut Free (operand_used items local_ty operand w)
    operand_kept (effects.Copied site) w t k = when_kept
        (may_use (watched_at items local_ty site) (presence_of items local_ty site w)) (BadUse site)
        (unless_never items local_ty (never_at items local_ty site)) w (by (never_at items local_ty site))
      where
        by : (b : Bool) → KeptOut Free (unless_never items local_ty b w)
        by true = tt
        by false = k
    operand_kept (effects.Moved site) w t k = when_kept
        (may_use (watched_at items local_ty site) (presence_of items local_ty site w)) (BadUse site)
        (λ w. Go (free.after items local_ty true site w)) w (changed_kept true site w.cells t k)
    operand_kept (effects.Number value kind) w t k = k
    operand_kept (effects.Truth value) w t k = k
    operand_kept effects.UnitValue w t k = k

    operands_kept : (operands : List Operand) (next : AbstractState → Out AbstractState) → AllTake May operands →
        ((w : AbstractState) → Free w → KeptOut Free (next w)) → (w : AbstractState) → Free w →
        KeptOut Free (operands_used items local_ty operands next w)
    operands_kept [] next t f w k = f w k
    operands_kept (operand ∷ operands) next t f w k =
        go_kept (operand_used items local_ty operand w) (operands_used items local_ty operands next)
        (operand_kept operand w t.0 k) (λ v j. operands_kept operands next t.1 f v j)

    store_kept : (to : EffectSite) → May to.place → (w : AbstractState) → Free w →
        KeptOut Free (store items local_ty to w)
    store_kept to m w k = when_kept (may_store (watched_at items local_ty to) (presence_of items local_ty to w))
        (BadStore to) (λ w. Go (free.after items local_ty false to w)) w (changed_kept false to w.cells m k)

    choice_kept : (next : AbstractState → Out AbstractState) →
        ((w : AbstractState) → Free w → KeptOut Free (next w)) → (w : AbstractState) → Free w →
        KeptOut Free (panics_by_choice w next)
    choice_kept next f w k = by w.choices
      where
        by : (list : List Bool) → KeptOut Free (free.next_choice list w next Unwind)
        by [] = tt
        by (false ∷ rest) = f (record w { choices = rest }) k
        by (true ∷ rest) = k

    returned_kept : (to : EffectSite) → May to.place → (w : AbstractState) → Free w →
        KeptOut Free (returns_by_choice items local_ty to w)
    returned_kept to m w k = choice_kept _ (λ v j. by (never_at items local_ty to) v j) w k
      where
        by : (b : Bool) (v : AbstractState) → Free v →
            KeptOut Free ((if b then Halts Infeasible else store items local_ty to) v)
        by true v j = tt
        by false v j = store_kept to m v j

    computed_kept : (to : EffectSite) → May to.place → (w : AbstractState) → Free w →
        KeptOut Free (computed_by_choice items local_ty to w)
    computed_kept to m w k = choice_kept (store items local_ty to) (λ v j. store_kept to m v j) w k

    acted_kept : (action : Action) (w : AbstractState) → Allowed May action → Free w →
        KeptOut Free (acted_on items local_ty action w)
    acted_kept (effects.Put to from) w a k =
        operands_kept (from ∷ []) _ (a.1, tt) (λ v j. store_kept to a.0 v j) w k
    acted_kept (effects.Compare to operator left right) w a k =
        operands_kept (left ∷ right ∷ []) _ (a.1.0, (a.1.1, tt)) (λ v j. store_kept to a.0 v j) w k
    acted_kept (effects.Not to operand) w a k =
        operands_kept (operand ∷ []) _ (a.1, tt) (λ v j. store_kept to a.0 v j) w k
    acted_kept (effects.Build to kind parts) w a k = operands_kept parts _ a.1 (λ v j. store_kept to a.0 v j) w k
    acted_kept (effects.NewBox to content) w a k =
        operands_kept (content ∷ []) _ (a.1, tt) (λ v j. store_kept to a.0 v j) w k
    acted_kept (effects.Unsize to trait_no operand) w a k =
        operands_kept (operand ∷ []) _ (a.1, tt) (λ v j. store_kept to a.0 v j) w k
    acted_kept (effects.Borrow to unique base) w a k = when_kept
        (may_use (watched_at items local_ty base) (presence_of items local_ty base w)) (BadUse base)
        (store items local_ty to) w (store_kept to a.0 w k)
    acted_kept (effects.Touch base) w a k = when_kept
        (may_use (watched_at items local_ty base) (presence_of items local_ty base w)) (BadUse base) Go w k
    acted_kept (effects.Print operand) w a k = operands_kept (operand ∷ []) Go (a, tt) (λ v j. j) w k
    acted_kept (effects.Forget operand) w a k = operands_kept (operand ∷ []) Go (a, tt) (λ v j. j) w k
    acted_kept (effects.Free box) w a k = changed_kept true box w.cells a k
    acted_kept (effects.Compute to operator left right) w a k =
        operands_kept (left ∷ right ∷ []) _ (a.1.0, (a.1.1, tt)) (λ v j. computed_kept to a.0 v j) w k
    acted_kept (effects.Negate to operand) w a k =
        operands_kept (operand ∷ []) _ (a.1, tt) (λ v j. computed_kept to a.0 v j) w k
    acted_kept (effects.Bounds index length) w a k =
        operands_kept (index ∷ []) _ (a, tt) (λ v j. choice_kept Go (λ u l. l) v j) w k
    acted_kept (effects.Call to body args) w a k = operands_kept args _ a.1 (λ v j. returned_kept to a.0 v j) w k
    acted_kept (effects.CallVirtual to trait_no method args) w a k =
        operands_kept args _ a.1 (λ v j. returned_kept to a.0 v j) w k
    acted_kept (effects.Ask to) w a k = computed_kept to a w k

    halting_kept : (b : Bool) (halt : Halt) (o : Out AbstractState) → KeptOut Free o →
        KeptOut Free (halting_if b halt o)
    halting_kept b halt (Go w) k = by b
      where
        by : (b : Bool) → KeptOut Free (halting_if b halt (Go w))
        by true = tt
        by false = k
    halting_kept b halt (Unwind w) k = by b
      where
        by : (b : Bool) → KeptOut Free (halting_if b halt (Unwind w))
        by true = k
        by false = k
    halting_kept b halt (Halts other w) k = by b
      where
        by : (b : Bool) → KeptOut Free (halting_if b halt (Halts other w))
        by true = tt
        by false = tt

    next_kept : (list : List Bool) (w : AbstractState) → Free w → KeptChoice Free (chosen_next list w)
    next_kept [] w k = tt
    next_kept (false ∷ rest) w k = k
    next_kept (true ∷ rest) w k = k

    after_kept : (o : Out AbstractState) → KeptOut Free o → KeptChoice Free (choice_after o)
    after_kept (Go w) k = next_kept w.choices w k
    after_kept (Unwind w) k = tt
    after_kept (Halts halt w) k = tt

    tested_kept : (test : Test) (w : AbstractState) → AllowedTest May test → Free w →
        KeptChoice Free (free.choose items local_ty test w)
    tested_kept (effects.IsTrue operand) w t k =
        after_kept (operand_used items local_ty operand w) (operand_kept operand w t k)
    tested_kept (effects.HasVariant site variant) w t k = after_kept
        (when (may_test (watched_at items local_ty site) (presence_of items local_ty site w)) (BadUse site) Go w)
        (when_kept (may_test (watched_at items local_ty site) (presence_of items local_ty site w)) (BadUse site) Go w k)

    dropped_kept : (mode : Mode) (site : EffectSite) (w : AbstractState) → May site.place → Free w →
        KeptOut Free (free.drop items local_ty mode site w)
    dropped_kept mode site w m k = when_kept
        (may_store (watched_at items local_ty site) (presence_of items local_ty site w)) (BadStore site)
        (free.dropped items local_ty (option_map_or (needs_drop items)
        (free.ty_at items local_ty site) false) mode site)
        w (by (option_map_or (needs_drop items) (free.ty_at items local_ty site) false))
      where
        gone : (v : AbstractState) → CellsKept before v.cells → Free (free.after items local_ty true site v)
        gone v j = changed_kept true site v.cells m j

        unwound : (mode : Mode) (v : AbstractState) → Free v → KeptOut Free (free.unwound items local_ty mode v)
        unwound Normal v j = j
        unwound Unwinding v j = tt

        chosen : (list : List Bool) → KeptOut Free (free.next_choice list w
            (λ w. Go (free.after items local_ty true site w))
            (λ w. free.unwound items local_ty mode (free.after items local_ty true site w)))
        chosen [] = tt
        chosen (false ∷ rest) = gone (record w { choices = rest }) k
        chosen (true ∷ rest) = unwound mode (free.after items local_ty true site (record w { choices = rest }))
            (gone (record w { choices = rest }) k)

        by : (b : Bool) → KeptOut Free (free.dropped items local_ty b mode site w)
        by true = chosen w.choices
        by false = gone w k

    ticked_kept : (w : AbstractState) → Free w → KeptOut Free (free.tick items local_ty w)
    ticked_kept w k = by w.choices
      where
        by : (list : List Bool) → KeptOut Free (free.next_choice list w Go (Halts Infeasible))
        by [] = tt
        by (false ∷ rest) = k
        by (true ∷ rest) = tt

    pub free_keeping : Keeping (abstract_effects items local_ty) May Free
    free_keeping = record {
      acts = λ action w a k. halting_kept (stores_where (never_at items local_ty) action) Unreachable
          (acted_on items local_ty action w) (acted_kept action w a k);
      chooses = λ test w t k. tested_kept test w t k;
      drops = λ mode site w m k. dropped_kept mode site w m k;
      panics = λ why w k. k;
      ticks = λ w k. ticked_kept w k;
    }
