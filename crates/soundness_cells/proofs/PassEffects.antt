-- The effects of a free run, and of one that checks what it does, do to cells what the pass over the forms asks.
use Rattle.std.proofs.Common.{◌≡◌, ◌⊎◌, inl, inr, ℕ, ◌==◌, Bool, true, false, List, [], ◌∷◌, map, Option, Some, None, if◌then◌else◌, refl, ap, sym, ◌∙◌, subst}
use Rattle.std.specs.Prelude.{option_and_then}
use Rattle.std.specs.Option.{option_map_or}
use Rattle.std.proofs.lemmas.Bool.{false≢true}
use Rattle.std.proofs.lemmas.Bool.Decides.{Decides-eqb}
use Rattle.mir_base.specs.declared.trace.Why.{Why}
use Rattle.mir_ty.specs.declared.ty.TyId.{TyId}
use Rattle.mir_ty.specs.Facts.{needs_drop}
use Rattle.mir_ty.specs.ItemTable.{ItemTable, type_at}
use Rattle.store_model.specs.Abstract.Effects as free
use Rattle.store_model.specs.Abstract.Effects.{AbstractState, presence, with_presence, abstract_effects, when, operand_used, operands_used, store, panics_by_choice, acted_on, returns_by_choice, choice_after, chosen_next, acted, watched_at, may_use, may_store, may_test, unless_never, never_at, presence_of}
use Rattle.store_model.specs.Abstract.Presence.{Presence, itself_gone, after_action}
use Rattle.store_model.specs.Effects as effects
use Rattle.store_model.specs.Effects.{EffectSite, Operand, Copied, Moved, Action, Test, Mode, Normal, Unwinding, Halt, BadUse, BadStore, NoChoice, Infeasible, Unreachable, Out, Go, Unwind, Halts, Choice, Yes, No, Neither, Effects, on_go, halting_if, stores_where, stored_by}
use Rattle.store_model.specs.Places.Place.{Step, ToPart, ToField, ToContent, ToElement, Place, whole_local, Reach, Whole, ThroughReference, ByElement, Watched, watched, watched_step, watched_content, content_of, step_ty, is_reference, place_ty}
use Rattle.src_meaning.specs.Locals.Effects.{at_locals, site_at, operand_at, action_at, test_at, step_at}
use Rattle.src_meaning.specs.Scopes.{Entry, entry_site}
use Rattle.soundness_values.proofs.Checked.{Checking, Checks, checked_effects, with_facts, if_ok, chosen_with, chosen_if_ok}
use Rattle.soundness_values.proofs.Fits.{itself_same}
use Rattle.soundness_values.proofs.Leaving.{ShownOut}
use Rattle.soundness_cells.proofs.PassClear.{MovedBy, MovedByAny, operands_of, tested_by, StoredAt, Nothing, ShownChoice, any, Changes, KeepsClear}
use Rattle.soundness_values.proofs.LocalPresence.{presence_changed, presence_other}

-- what is taken from a part, or stored there, leaves the whole itself as it was
acted_below : (items : ItemTable) (takes : Bool) (id : Option TyId) (step : Step) (steps : List Step) (p : Presence) →
    itself_gone (acted takes (watched items id (step ∷ steps)) p) ≡ itself_gone p
acted_below items takes id step steps p = by step
  where
    at_reach : (y : Step) (below : List Step) (reach : Reach) →
        itself_gone (acted takes (record { steps = y ∷ below; reach = reach }) p) ≡ itself_gone p
    at_reach y below Whole = itself_same items y (after_action takes below) p
    at_reach y below ThroughReference = refl
    at_reach y below ByElement = refl

    stepped : (y : Step) (w : Watched) → itself_gone (acted takes (watched_step y w) p) ≡ itself_gone p
    stepped y w = at_reach y w.steps w.reach

    content : (b : Bool) (w : Watched) → itself_gone (acted takes (watched_content b w) p) ≡ itself_gone p
    content true w = refl
    content false w = stepped ToContent w

    by : (step : Step) → itself_gone (acted takes (watched items id (step ∷ steps)) p) ≡ itself_gone p
    by (ToPart n) = stepped (ToPart n)
        (watched items (option_and_then (step_ty items (ToPart n)) (option_and_then (type_at items) id)) steps)
    by (ToField v n) = stepped (ToField v n)
        (watched items (option_and_then (step_ty items (ToField v n)) (option_and_then (type_at items) id)) steps)
    by ToContent = content (is_reference (option_and_then (type_at items) id))
        (watched items (option_and_then content_of (option_and_then (type_at items) id)) steps)
    by (ToElement i) = refl

module _ (items : ItemTable) (local_ty : ℕ → Option TyId) (local_of : ℕ → ℕ)
    (one_key : (a b : ℕ) → local_of a ≡ local_of b → a ≡ b) (needs : ℕ → Bool) where
  -- it is gone, or of a type that needs no dropping
  abbrev pub Clear : AbstractState → ℕ → Type 0
  Clear w key = (itself_gone (presence (local_of key) w.cells) ≡ true) ⊎ (needs key ≡ false)

  abbrev pub Change : (moved stored : ℕ → Type 0) → AbstractState → AbstractState → Type 0
  Change moved stored w w' = Changes Clear moved stored w w'

  kept : (w : AbstractState) (moved stored : ℕ → Type 0) → ((key : ℕ) → moved key → ⊥) → Change moved stored w w
  kept w moved stored none key (inl c) = inl c
  kept w moved stored none key (inr m) = absurd (none key m)

  -- what is done at a place: what is taken is gone then, and what is stored may hold something
  abbrev pub Taken : Bool → EffectSite → ℕ → Type 0
  Taken true site key = site.place ≡ whole_local key
  Taken false site key = ⊥

  abbrev Filled : Bool → EffectSite → ℕ → Type 0
  Filled true site key = ⊥
  Filled false site key = site.place ≡ whole_local key

  module _ (takes : Bool) (site : EffectSite) (w : AbstractState) where
    abbrev at : EffectSite
    at = site_at local_of site

    abbrev then_ : AbstractState
    then_ = free.after items local_ty takes at w

    abbrev there : Presence
    there = presence (local_of site.place.local) w.cells

    at_local : (takes : Bool) (steps : List Step) (id : Option TyId) (key : ℕ) → site.place.steps ≡ steps →
        key ≡ site.place.local →
        (itself_gone there ≡ true) ⊎ Taken takes site key →
        (itself_gone (acted takes (watched items id (map (step_at local_of) steps)) there) ≡ true)
        ⊎ Filled takes site key
    at_local true [] id key e same h = inl refl
    at_local false [] id key e same h = inr (λ i. record { local = sym same i; steps = e i })
    at_local takes (step ∷ steps) id key e same (inl g) = inl (below step)
      where
        below : (step : Step) →
            itself_gone (acted takes (watched items id (map (step_at local_of) (step ∷ steps))) there) ≡ true
        below (ToPart n) = acted_below items takes id (ToPart n) (map (step_at local_of) steps) there ∙ g
        below (ToField v n) = acted_below items takes id (ToField v n) (map (step_at local_of) steps) there ∙ g
        below ToContent = acted_below items takes id ToContent (map (step_at local_of) steps) there ∙ g
        below (ToElement i) = g
    at_local true (step ∷ steps) id key e same (inr t) = absurd (no_step (sym e ∙ ap (λ p. p.steps) t))
      where
        is_empty : List Step → Bool
        is_empty [] = true
        is_empty (s ∷ l) = false

        no_step : (step ∷ steps) ≡ [] → ⊥
        no_step k = false≢true (ap is_empty k)
    at_local false (step ∷ steps) id key e same (inr t) = absurd t

    taken_local : (takes : Bool) (key : ℕ) → Taken takes site key → key ≡ site.place.local
    taken_local true key t = sym (ap (λ p. p.local) t)
    taken_local false key t = absurd t

    after_changes : Change (Taken takes site) (Filled takes site) w then_
    after_changes key (inl (inr n)) = inl (inr n)
    after_changes key h = by (local_of key == local_of site.place.local) refl h
      where
        changed : local_of key ≡ local_of site.place.local →
            (itself_gone (presence (local_of key) then_.cells) ≡ itself_gone (acted takes (watched_at items local_ty at) there))
        changed same = ap (λ n. itself_gone (presence n then_.cells)) same
            ∙ ap itself_gone (presence_changed (local_of site.place.local) (acted takes (watched_at items local_ty at)) w.cells)

        as_clear : (itself_gone (presence (local_of key) then_.cells) ≡ itself_gone (acted takes (watched_at items local_ty at) there)) →
            (itself_gone (acted takes (watched_at items local_ty at) there) ≡ true) ⊎ Filled takes site key →
            Clear then_ key ⊎ Filled takes site key
        as_clear e (inl g) = inl (inl (e ∙ g))
        as_clear e (inr f) = inr f

        before : local_of key ≡ local_of site.place.local → Clear w key ⊎ Taken takes site key →
            ((itself_gone there ≡ true) ⊎ Taken takes site key) ⊎ (needs key ≡ false)
        before same (inl (inl g)) = inl (inl (ap (λ n. itself_gone (presence n w.cells)) (sym same) ∙ g))
        before same (inl (inr n)) = inr n
        before same (inr t) = inl (inr t)

        here : local_of key ≡ local_of site.place.local →
            ((itself_gone there ≡ true) ⊎ Taken takes site key) ⊎ (needs key ≡ false) →
            Clear then_ key ⊎ Filled takes site key
        here same (inl b) = as_clear (changed same)
            (at_local takes site.place.steps (local_ty (local_of site.place.local)) key refl (one_key key site.place.local same) b)
        here same (inr n) = inl (inr n)

        by : (b : Bool) → (local_of key == local_of site.place.local) ≡ b → Clear w key ⊎ Taken takes site key →
            Clear then_ key ⊎ Filled takes site key
        by true e h =
            let same = (Decides-eqb (local_of key) (local_of site.place.local)).0 e in here same (before same h)
        by false e (inl (inl g)) = inl (inl (ap itself_gone
            (presence_other (local_of site.place.local) (local_of key) (acted takes (watched_at items local_ty at)) w.cells e) ∙ g))
        by false e (inl (inr n)) = inl (inr n)
        by false e (inr t) = absurd (false≢true (sym e
            ∙ (Decides-eqb (local_of key) (local_of site.place.local)).1 (ap local_of (taken_local takes key t))))

  -- ---- one effect after another

  shown_when : (b : Bool) (halt : Halt) (next : AbstractState → Out AbstractState) (w : AbstractState)
      (went panicked : AbstractState → Type 0) → ShownOut any went panicked (next w) →
      ShownOut any went panicked (when b halt next w)
  shown_when true halt next w went panicked h = h
  shown_when false halt next w went panicked h = tt

  shown_on_go : (o : Out AbstractState) (next : AbstractState → Out AbstractState)
      (mid went panicked : AbstractState → Type 0) → ShownOut any mid (λ v. ⊥) o →
      ((v : AbstractState) → mid v → ShownOut any went panicked (next v)) → ShownOut any went panicked (on_go o next)
  shown_on_go (Go v) next mid went panicked k h = h v k
  shown_on_go (Unwind v) next mid went panicked k h = absurd k
  shown_on_go (Halts halt v) next mid went panicked k h = tt

  shown_using : (site : EffectSite) (next : AbstractState → Out AbstractState) (w : AbstractState)
      (went panicked : AbstractState → Type 0) → ShownOut any went panicked (next w) →
      ShownOut any went panicked (free.using items local_ty site next w)
  shown_using site next w went panicked h =
      shown_when (may_use (watched_at items local_ty site) (presence_of items local_ty site w)) (BadUse site) next w went
      panicked h

  used : (o : Operand) (w : AbstractState) →
      ShownOut any (Change (MovedBy o) Nothing w) (λ v. ⊥) (operand_used items local_ty (operand_at local_of o) w)
  used (Copied site) w = shown_using (site_at local_of site)
      (unless_never items local_ty (never_at items local_ty (site_at local_of site))) w
      (Change (MovedBy (Copied site)) Nothing w) (λ v. ⊥) (by (never_at items local_ty (site_at local_of site)))
    where
      by : (b : Bool) → ShownOut any (Change (MovedBy (Copied site)) Nothing w) (λ v. ⊥) (unless_never items local_ty b w)
      by true = tt
      by false = kept w (MovedBy (Copied site)) Nothing (λ key m. m)
  used (Moved site) w = shown_using (site_at local_of site)
      (λ w. Go (free.after items local_ty true (site_at local_of site) w)) w (Change (MovedBy (Moved site)) Nothing w)
      (λ v. ⊥) (after_changes true site w)
  used (effects.Number value kind) w = kept w Nothing Nothing (λ key m. m)
  used (effects.Truth value) w = kept w Nothing Nothing (λ key m. m)
  used effects.UnitValue w = kept w Nothing Nothing (λ key m. m)

  -- first some are moved, and then others, and something is stored
  both_moved : (moved others stored : ℕ → Type 0) (u v w : AbstractState) → Change moved Nothing u v →
      Change others stored v w → Change (λ key. moved key ⊎ others key) stored u w
  both_moved moved others stored u v w f g key h = by h
    where
      second : Clear v key ⊎ ⊥ → Clear w key ⊎ stored key
      second (inl c) = g key (inl c)
      second (inr n) = absurd n

      by : Clear u key ⊎ (moved key ⊎ others key) → Clear w key ⊎ stored key
      by (inl c) = second (f key (inl c))
      by (inr (inl m)) = second (f key (inr m))
      by (inr (inr m)) = g key (inr m)

  all_used : (os : List Operand) (next : AbstractState → Out AbstractState) (stored panicked : ℕ → Type 0)
      (w : AbstractState) →
      ((v : AbstractState) → ShownOut any (Change Nothing stored v) (Change Nothing panicked v) (next v)) →
      ShownOut any (Change (MovedByAny os) stored w) (Change (MovedByAny os) panicked w)
      (operands_used items local_ty (map (operand_at local_of) os) next w)
  all_used [] next stored panicked w h = h w
  all_used (o ∷ os) next stored panicked w h =
      shown_on_go (operand_used items local_ty (operand_at local_of o) w)
      (operands_used items local_ty (map (operand_at local_of) os) next)
      (Change (MovedBy o) Nothing w) (Change (MovedByAny (o ∷ os)) stored w) (Change (MovedByAny (o ∷ os)) panicked w)
      (used o w)
      (λ v k. out_more (operands_used items local_ty (map (operand_at local_of) os) next v)
      (λ u g. both_moved (MovedBy o) (MovedByAny os) stored w v u k g)
      (λ u g. both_moved (MovedBy o) (MovedByAny os) panicked w v u k g)
      (all_used os next stored panicked v h))
    where
      out_more : {a b c d : AbstractState → Type 0} (o : Out AbstractState) → ((u : AbstractState) → a u → c u) →
          ((u : AbstractState) → b u → d u) → ShownOut any a b o → ShownOut any c d o
      out_more (Go u) f g h = f u h
      out_more (Unwind u) f g h = g u h
      out_more (Halts halt u) f g h = tt

  stored_at : (to : EffectSite) (w : AbstractState) →
      ShownOut any (Change Nothing (StoredAt (Some to)) w) (Change Nothing Nothing w)
      (store items local_ty (site_at local_of to) w)
  stored_at to w = shown_when
      (may_store (watched_at items local_ty (site_at local_of to)) (presence_of items local_ty (site_at local_of to) w))
      (BadStore (site_at local_of to)) (λ w. Go (free.after items local_ty false (site_at local_of to) w)) w
      (Change Nothing (StoredAt (Some to)) w) (Change Nothing Nothing w) (after_changes false to w)

  by_choice : (next : AbstractState → Out AbstractState) (stored : ℕ → Type 0) (w : AbstractState) →
      ((v : AbstractState) → ShownOut any (Change Nothing stored v) (Change Nothing Nothing v) (next v)) →
      ShownOut any (Change Nothing stored w) (Change Nothing Nothing w) (panics_by_choice w next)
  by_choice next stored w h = by w.choices
    where
      by : (list : List Bool) →
          ShownOut any (Change Nothing stored w) (Change Nothing Nothing w) (free.next_choice list w next Unwind)
      by [] = tt
      by (false ∷ rest) = h (record w { choices = rest })
      by (true ∷ rest) = kept w Nothing Nothing (λ key m. m)

  went_on : (w : AbstractState) → ShownOut any (Change Nothing Nothing w) (Change Nothing Nothing w) (Go w)
  went_on w = kept w Nothing Nothing (λ key m. m)

  returned : (to : EffectSite) (w : AbstractState) →
      ShownOut any (Change Nothing (StoredAt (Some to)) w) (Change Nothing Nothing w)
      (returns_by_choice items local_ty (site_at local_of to) w)
  returned to w = by_choice _ (StoredAt (Some to)) w (by (never_at items local_ty (site_at local_of to)))
    where
      by : (b : Bool) (v : AbstractState) →
          ShownOut any (Change Nothing (StoredAt (Some to)) v) (Change Nothing Nothing v)
          ((if b then Halts Infeasible else store items local_ty (site_at local_of to)) v)
      by true v = tt
      by false v = stored_at to v

  computed : (to : EffectSite) (w : AbstractState) →
      ShownOut any (Change Nothing (StoredAt (Some to)) w) (Change Nothing Nothing w)
      (free.computed_by_choice items local_ty (site_at local_of to) w)
  computed to w = by_choice _ (StoredAt (Some to)) w (stored_at to)

  freed : (box : EffectSite) (w : AbstractState) →
      Change Nothing Nothing w (free.after items local_ty true (site_at local_of box) w)
  freed box w key (inl c) = after_changes true box w key (inl c)
  freed box w key (inr n) = absurd n

  abbrev Acts : Action → AbstractState → Out AbstractState → Type 0
  Acts action w o = ShownOut any (Change (MovedByAny (operands_of action)) (StoredAt (stored_by action)) w)
      (Change (MovedByAny (operands_of action)) Nothing w) o

  acted_so : (action : Action) (w : AbstractState) → Acts action w (acted_on items local_ty (action_at local_of action) w)
  acted_so (effects.Put to from) w = all_used (from ∷ []) _ _ _ w (stored_at to)
  acted_so (effects.Compare to operator left right) w = all_used (left ∷ right ∷ []) _ _ _ w (stored_at to)
  acted_so (effects.Not to operand) w = all_used (operand ∷ []) _ _ _ w (stored_at to)
  acted_so (effects.Build to kind parts) w = all_used parts _ _ _ w (stored_at to)
  acted_so (effects.NewBox to content) w = all_used (content ∷ []) _ _ _ w (stored_at to)
  acted_so (effects.Unsize to trait_no operand) w = all_used (operand ∷ []) _ _ _ w (stored_at to)
  acted_so (effects.Borrow to unique base) w = shown_using (site_at local_of base)
      (store items local_ty (site_at local_of to)) w (Change Nothing (StoredAt (Some to)) w) (Change Nothing Nothing w)
      (stored_at to w)
  acted_so (effects.Touch base) w = shown_using (site_at local_of base) Go w (Change Nothing Nothing w)
      (Change Nothing Nothing w) (went_on w)
  acted_so (effects.Print operand) w = all_used (operand ∷ []) _ _ _ w went_on
  acted_so (effects.Forget operand) w = all_used (operand ∷ []) _ _ _ w went_on
  acted_so (effects.Free box) w = freed box w
  acted_so (effects.Compute to operator left right) w = all_used (left ∷ right ∷ []) _ _ _ w (computed to)
  acted_so (effects.Negate to operand) w = all_used (operand ∷ []) _ _ _ w (computed to)
  acted_so (effects.Bounds index length) w = all_used (index ∷ []) _ _ _ w (λ v. by_choice Go Nothing v went_on)
  acted_so (effects.Call to body args) w = all_used args _ _ _ w (returned to)
  acted_so (effects.CallVirtual to trait_no method args) w = all_used args _ _ _ w (returned to)
  acted_so (effects.Ask to) w = computed to w

  -- a put does not panic
  put_goes : (to : EffectSite) (from : Operand) (w : AbstractState) →
      ShownOut any (λ v. Unit {0}) (λ v. ⊥) (acted_on items local_ty (action_at local_of (effects.Put to from)) w)
  put_goes to from w = shown_on_go (operand_used items local_ty (operand_at local_of from) w)
      (operands_used items local_ty [] (store items local_ty (site_at local_of to)))
      (Change (MovedBy from) Nothing w) (λ v. Unit {0}) (λ v. ⊥) (used from w)
      (λ v k. shown_when
      (may_store (watched_at items local_ty (site_at local_of to)) (presence_of items local_ty (site_at local_of to) v))
      (BadStore (site_at local_of to)) (λ w. Go (free.after items local_ty false (site_at local_of to) w)) v
      (λ v. Unit {0}) (λ v. ⊥) tt)

  halted : (b : Bool) (halt : Halt) (o : Out AbstractState) (went panicked : AbstractState → Type 0) →
      ShownOut any went panicked o → ShownOut any went panicked (halting_if b halt o)
  halted true halt (Go v) went panicked h = tt
  halted true halt (Unwind v) went panicked h = h
  halted true halt (Halts other v) went panicked h = tt
  halted false halt o went panicked h = h

  chosen_so : (o : Out AbstractState) (moved : ℕ → Type 0) (w : AbstractState) →
      ShownOut any (Change moved Nothing w) (λ v. ⊥) o →
      ShownChoice (Change moved Nothing w) (Change moved Nothing w) (choice_after o)
  chosen_so (Go v) moved w h = by v.choices
    where
      by : (list : List Bool) → ShownChoice (Change moved Nothing w) (Change moved Nothing w) (chosen_next list v)
      by [] = tt
      by (false ∷ rest) = h
      by (true ∷ rest) = h
  chosen_so (Unwind v) moved w h = tt
  chosen_so (Halts halt v) moved w h = tt

  tested : (test : Test) (w : AbstractState) →
      ShownChoice (Change (MovedByAny (tested_by test)) Nothing w) (Change (MovedByAny (tested_by test)) Nothing w)
      (free.choose items local_ty (test_at local_of test) w)
  tested (effects.IsTrue operand) w = chosen_so (operand_used items local_ty (operand_at local_of operand) w)
      (MovedByAny (operand ∷ [])) w
      (only (operand_used items local_ty (operand_at local_of operand) w) (used operand w))
    where
      one : (v : AbstractState) → Change (MovedBy operand) Nothing w v → Change (MovedByAny (operand ∷ [])) Nothing w v
      one v f key (inl c) = f key (inl c)
      one v f key (inr (inl m)) = f key (inr m)
      one v f key (inr (inr m)) = absurd m

      only : (o : Out AbstractState) → ShownOut any (Change (MovedBy operand) Nothing w) (λ v. ⊥) o →
          ShownOut any (Change (MovedByAny (operand ∷ [])) Nothing w) (λ v. ⊥) o
      only (Go v) h = one v h
      only (Unwind v) h = h
      only (Halts halt v) h = tt
  tested (effects.HasVariant site variant) w = chosen_so
      (when (may_test (watched_at items local_ty (site_at local_of site))
      (presence_of items local_ty (site_at local_of site) w)) (BadUse (site_at local_of site)) Go w) Nothing w
      (shown_when (may_test (watched_at items local_ty (site_at local_of site))
      (presence_of items local_ty (site_at local_of site) w)) (BadUse (site_at local_of site)) Go w
      (Change Nothing Nothing w) (λ v. ⊥) (kept w Nothing Nothing (λ key m. m)))

  dropped_so : (b : Bool) (mode : Mode) (site : EffectSite) (w : AbstractState) →
      ShownOut any (Change (Taken true site) Nothing w) (Change (Taken true site) Nothing w)
      (free.dropped items local_ty b mode (site_at local_of site) w)
  dropped_so false mode site w = after_changes true site w
  dropped_so true mode site w = by mode w.choices
    where
      by : (mode : Mode) (list : List Bool) →
          ShownOut any (Change (Taken true site) Nothing w) (Change (Taken true site) Nothing w)
          (free.next_choice list w (λ w. Go (free.after items local_ty true (site_at local_of site) w))
          (λ w. free.unwound items local_ty mode (free.after items local_ty true (site_at local_of site) w)))
      by mode [] = tt
      by mode (false ∷ rest) = after_changes true site (record w { choices = rest })
      by Normal (true ∷ rest) = after_changes true site (record w { choices = rest })
      by Unwinding (true ∷ rest) = tt

  pub drop_so : (mode : Mode) (site : EffectSite) (w : AbstractState) →
      ShownOut any (Change (Taken true site) Nothing w) (Change (Taken true site) Nothing w)
      (free.drop items local_ty mode (site_at local_of site) w)
  drop_so mode site w = shown_when
      (may_store (watched_at items local_ty (site_at local_of site))
      (presence_of items local_ty (site_at local_of site) w)) (BadStore (site_at local_of site))
      (free.dropped items local_ty (needed site) mode (site_at local_of site)) w
      (Change (Taken true site) Nothing w) (Change (Taken true site) Nothing w) (dropped_so (needed site) mode site w)
    where
      needed : EffectSite → Bool
      needed site = option_map_or (needs_drop items) (free.ty_at items local_ty (site_at local_of site)) false

  ticked_so : (w : AbstractState) →
      ShownOut any (λ w'. (key : ℕ) → Clear w key → Clear w' key) (λ w'. (key : ℕ) → Clear w key → Clear w' key)
      (free.tick items local_ty w)
  ticked_so w = by w.choices
    where
      by : (list : List Bool) →
          ShownOut any (λ w'. (key : ℕ) → Clear w key → Clear w' key) (λ w'. (key : ℕ) → Clear w key → Clear w' key)
          (free.next_choice list w Go (Halts Infeasible))
      by [] = tt
      by (false ∷ rest) = λ key c. c
      by (true ∷ rest) = tt

  -- ---- the same of a free run that checks what it does

  module _ {F : Type 0} (checks : Checks F) where
    abbrev pub checked : Effects (Checking F)
    checked = at_locals local_of (checked_effects checks (abstract_effects items local_ty))

    abbrev pub CheckedClear : Checking F → ℕ → Type 0
    CheckedClear v key = Clear v.free key

    if_checked : (b : Bool) (v : Checking F) (went unwound : F) (o : Out AbstractState)
        (goes panics : AbstractState → Type 0) → ShownOut any goes panics o →
        ShownOut any (λ v. goes v.free) (λ v. panics v.free) (if_ok b v (with_facts went unwound o))
    if_checked true v went unwound (Go w) goes panics h = h
    if_checked true v went unwound (Unwind w) goes panics h = h
    if_checked true v went unwound (Halts halt w) goes panics h = tt
    if_checked false v went unwound o goes panics h = tt

    if_chosen : (b : Bool) (v : Checking F) (taken declined : F) (o : Choice AbstractState)
        (goes leaves : AbstractState → Type 0) → ShownChoice goes leaves o →
        ShownChoice (λ v. goes v.free) (λ v. leaves v.free) (chosen_if_ok b v (chosen_with taken declined o))
    if_chosen true v taken declined (Yes w) goes leaves h = h
    if_chosen true v taken declined (No w) goes leaves h = h
    if_chosen true v taken declined (Neither halt w) goes leaves h = tt
    if_chosen false v taken declined o goes leaves h = tt

    weaker : (o : Out (Checking F)) (a b : Checking F → Type 0) → ((v : Checking F) → a v → b v) →
        ShownOut any a a o → ShownOut any b b o
    weaker (Go v) a b f h = f v h
    weaker (Unwind v) a b f h = f v h
    weaker (Halts halt v) a b f h = tt

    -- what is clear stays so, and what is taken is clear
    all_clear : (site : EffectSite) (w w' : AbstractState) → Change (Taken true site) Nothing w w' → (key : ℕ) →
        Clear w key → Clear w' key
    all_clear site w w' f key c = by (f key (inl c))
      where
        by : Clear w' key ⊎ ⊥ → Clear w' key
        by (inl d) = d
        by (inr n) = absurd n

    one_clear : (site : EffectSite) (w w' : AbstractState) → Change (Taken true site) Nothing w w' → (key : ℕ) →
        site.place ≡ whole_local key → Clear w' key
    one_clear site w w' f key e = by (f key (inr e))
      where
        by : Clear w' key ⊎ ⊥ → Clear w' key
        by (inl d) = d
        by (inr n) = absurd n

    dropped_at : (mode : Mode) (site : EffectSite) (v : Checking F) →
        ShownOut any (λ v'. Change (Taken true site) Nothing v.free v'.free)
        (λ v'. Change (Taken true site) Nothing v.free v'.free) (checked.drop mode site v)
    dropped_at mode site v = if_checked _ v _ _ (free.drop items local_ty mode (site_at local_of site) v.free)
        (Change (Taken true site) Nothing v.free) (Change (Taken true site) Nothing v.free) (drop_so mode site v.free)

    pub keeps_clear : KeepsClear checked needs CheckedClear
    keeps_clear = record {
      acts = λ action v. if_checked _ v _ _ (free.act items local_ty (action_at local_of action) v.free)
          (Change (MovedByAny (operands_of action)) (StoredAt (stored_by action)) v.free)
          (Change (MovedByAny (operands_of action)) Nothing v.free)
          (halted _ Unreachable (acted_on items local_ty (action_at local_of action) v.free) _ _ (acted_so action v.free));
      chooses = λ test v. if_chosen _ v _ _ (free.choose items local_ty (test_at local_of test) v.free)
          (Change (MovedByAny (tested_by test)) Nothing v.free) (Change (MovedByAny (tested_by test)) Nothing v.free)
          (tested test v.free);
      drops = λ mode e v. weaker (checked.drop mode (entry_site e) v)
          (λ v'. Change (Taken true (entry_site e)) Nothing v.free v'.free)
          (λ v'. Clear v'.free e.key × ((key : ℕ) → Clear v.free key → Clear v'.free key))
          (λ v' f. (one_clear (entry_site e) v.free v'.free f e.key refl, all_clear (entry_site e) v.free v'.free f))
          (dropped_at mode (entry_site e) v);
      drops_at = λ mode site v. weaker (checked.drop mode site v)
          (λ v'. Change (Taken true site) Nothing v.free v'.free)
          (λ v'. (key : ℕ) → Clear v.free key → Clear v'.free key)
          (λ v' f. all_clear site v.free v'.free f) (dropped_at mode site v);
      puts = λ to from v. if_checked _ v _ _ (free.act items local_ty (action_at local_of (effects.Put to from)) v.free)
          (λ w. Unit {0}) (λ w. ⊥)
          (halted _ Unreachable (acted_on items local_ty (action_at local_of (effects.Put to from)) v.free) _ _
          (put_goes to from v.free));
      gives = λ site v. if_checked (checks.give_ok (site_at local_of site) v.free v.facts) v v.facts v.facts (Go v.free)
          (λ w. (key : ℕ) → Clear v.free key → Clear w key) (λ w. ⊥) (λ key c. c);
      panics = λ why v key c. c;
      ticks = λ v. if_checked true v _ _ (free.tick items local_ty v.free) _ _ (ticked_so v.free);
      needs_none = λ key v e. inr e;
    }
