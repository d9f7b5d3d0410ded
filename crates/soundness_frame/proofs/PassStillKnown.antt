-- A place that is sure to lead on and may be used is so still after an evaluation that changes only places apart from
-- it, and no local that is an index on its way. So what an earlier argument names stays while later ones are made, and
-- a scrutinee while a guard is.
use Rattle.std.proofs.Common.{◌≡◌, ℕ, ◌==◌, ◌&&◌, not, Bool, true, false, List, [], ◌∷◌, ◌++◌, Option, Some, None, refl, ap, sym, ◌∙◌, subst, append_assoc}
use Rattle.std.specs.Prelude.{option_and_then}
use Rattle.std.specs.Cmp.Derive.{both_true}
use Rattle.std.proofs.lemmas.Bool.{false≢true}
use Rattle.std.proofs.lemmas.Bool.Decides.{Decides-eqb}
use Rattle.mir_ty.specs.declared.ty.TyId.{TyId}
use Rattle.mir_ty.specs.ItemTable.{ItemTable, type_at}
use Rattle.store_model.specs.Abstract.Effects.{presence, may_use}
use Rattle.store_model.specs.Abstract.Presence.{Presence, itself_gone, is_whole_at, is_there_at}
use Rattle.store_model.specs.Concrete.Location.{named_by}
use Rattle.store_model.specs.Places.Place.{Step, ToPart, ToField, ToContent, ToElement, Place, is_reference, content_of, before_element, Watched, Whole, ThroughReference, ByElement, watched, watched_step, watched_content}
use Rattle.typing_rules.specs.Accesses.{begin_alike}
use Rattle.soundness_values.proofs.Facts.{Facts, takes_index, hits, bounded_by, variant_at}
use Rattle.soundness_values.proofs.Leading.{are_sure}
use Rattle.soundness_values.proofs.NoOverlap.{seen}
use Rattle.soundness_frame.proofs.PassFrameCells.{Cells, Apart, CellsKept}
use Rattle.soundness_frame.proofs.PassFrameFacts.{Fixed, FixedWay, Stays, FactsKept}
use Rattle.soundness_values.proofs.Running.{sure_place, sure_in, sure_from, sure_behind}
use Rattle.soundness_values.proofs.StillSure as still

-- ---- what does not overlap a place does not hit one above it

both_numbers : (n m : ℕ) (r s : Bool) → (n == m && r) ≡ false → (r ≡ false → s ≡ false) → (m == n && s) ≡ false
both_numbers n m r s h f = by (m == n) refl
  where
    by : (b : Bool) → (m == n) ≡ b → (b && s) ≡ false
    by false e = refl
    by true e = f (ap (λ b. b && r) (sym ((Decides-eqb n m).1 (sym ((Decides-eqb m n).0 e)))) ∙ h)

hits_above : (a b : List Step) (step : Step) (c : List Step) → begin_alike (seen (b ++ step ∷ c)) (seen a) ≡ false →
    hits a b ≡ false
hits_above [] b step c h = absurd (all_alike (b ++ step ∷ c) h)
  where
    all_alike : (s : List Step) → begin_alike (seen s) [] ≡ false → ⊥
    all_alike [] h = false≢true (sym h)
    all_alike (ToPart n ∷ s) h = false≢true (sym h)
    all_alike (ToField v n ∷ s) h = false≢true (sym h)
    all_alike (ToContent ∷ s) h = false≢true (sym h)
    all_alike (ToElement i ∷ s) h = false≢true (sym h)
hits_above (ToElement i ∷ a) b step c h = absurd (all_alike (b ++ step ∷ c) h)
  where
    all_alike : (s : List Step) → begin_alike (seen s) [] ≡ false → ⊥
    all_alike [] h = false≢true (sym h)
    all_alike (ToPart n ∷ s) h = false≢true (sym h)
    all_alike (ToField v n ∷ s) h = false≢true (sym h)
    all_alike (ToContent ∷ s) h = false≢true (sym h)
    all_alike (ToElement i ∷ s) h = false≢true (sym h)
hits_above (ToPart n ∷ a) [] step c h = refl
hits_above (ToField u n ∷ a) [] step c h = refl
hits_above (ToContent ∷ a) [] step c h = refl
hits_above (ToPart n ∷ a) (ToElement i ∷ b) step c h = absurd (false≢true (sym h))
hits_above (ToField u n ∷ a) (ToElement i ∷ b) step c h = absurd (false≢true (sym h))
hits_above (ToContent ∷ a) (ToElement i ∷ b) step c h = absurd (false≢true (sym h))
hits_above (ToPart n ∷ a) (ToPart m ∷ b) step c h = both_numbers m n _ (hits a b) h (hits_above a b step c)
hits_above (ToPart n ∷ a) (ToField v m ∷ b) step c h = both_numbers m n _ (hits a b) h (hits_above a b step c)
hits_above (ToField u n ∷ a) (ToPart m ∷ b) step c h = both_numbers m n _ (hits a b) h (hits_above a b step c)
hits_above (ToField u n ∷ a) (ToField v m ∷ b) step c h = both_numbers m n _ (hits a b) h (hits_above a b step c)
hits_above (ToPart n ∷ a) (ToContent ∷ b) step c h = refl
hits_above (ToField u n ∷ a) (ToContent ∷ b) step c h = refl
hits_above (ToContent ∷ a) (ToPart m ∷ b) step c h = refl
hits_above (ToContent ∷ a) (ToField v m ∷ b) step c h = refl
hits_above (ToContent ∷ a) (ToContent ∷ b) step c h = hits_above a b step c h

-- an index on the way is none that is not on the way
other_index : (i k : ℕ) (steps : List Step) → takes_index i steps ≡ true → takes_index k steps ≡ false →
    (i == k) ≡ false
other_index i k steps h e = by (i == k) refl
  where
    by : (b : Bool) → (i == k) ≡ b → b ≡ false
    by false x = refl
    by true x = absurd (false≢true (sym e ∙ subst (λ n. takes_index n steps ≡ true) ((Decides-eqb i k).0 x) h))

-- ---- how far a place is watched, and by which steps

data Way : Watched → List Step → Type 0 where
  to_end : (steps : List Step) → Way (record { steps = steps; reach = Whole }) steps
  by_element : (steps : List Step) → Way (record { steps = before_element steps; reach = ByElement }) steps
  by_reference : (w : Watched) (steps : List Step) → w.reach ≡ ThroughReference → Way w steps

one_step : (step : Step) (w : Watched) (steps : List Step) → before_element (step ∷ steps) ≡ step ∷ before_element steps →
    Way w steps → Way (watched_step step w) (step ∷ steps)
one_step step _ _ e (to_end steps) = to_end (step ∷ steps)
one_step step _ _ e (by_element steps) =
    subst (λ l. Way (record { steps = l; reach = ByElement }) (step ∷ steps)) e (by_element (step ∷ steps))
one_step step w steps e (by_reference _ _ r) = by_reference (watched_step step w) (step ∷ steps) r

way_of : (items : ItemTable) (id : Option TyId) (steps : List Step) → Way (watched items id steps) steps
way_of items id [] = to_end []
way_of items id (ToPart n ∷ steps) = one_step (ToPart n) _ steps refl (way_of items _ steps)
way_of items id (ToField v n ∷ steps) = one_step (ToField v n) _ steps refl (way_of items _ steps)
way_of items id (ToContent ∷ steps) =
    by (is_reference (option_and_then (type_at items) id))
    (way_of items (option_and_then content_of (option_and_then (type_at items) id)) steps)
  where
    by : (b : Bool) →
        Way (watched items (option_and_then content_of (option_and_then (type_at items) id)) steps) steps →
        Way (watched_content b (watched items (option_and_then content_of (option_and_then (type_at items) id)) steps))
        (ToContent ∷ steps)
    by true w = by_reference _ (ToContent ∷ steps) refl
    by false w = one_step ToContent _ steps refl w
way_of items id (ToElement i ∷ steps) = by_element (ToElement i ∷ steps)

seen_before : (steps : List Step) → seen (before_element steps) ≡ seen steps
seen_before [] = refl
seen_before (ToPart n ∷ steps) = ap (λ l. Rattle.typing_rules.specs.Accesses.ToPart n ∷ l) (seen_before steps)
seen_before (ToField v n ∷ steps) = ap (λ l. Rattle.typing_rules.specs.Accesses.ToPart n ∷ l) (seen_before steps)
seen_before (ToContent ∷ steps) = ap (λ l. Rattle.typing_rules.specs.Accesses.ToContent ∷ l) (seen_before steps)
seen_before (ToElement i ∷ steps) = refl

module _ (May : Place → Type 0) where
  -- nothing that may be changed overlaps the place, or is an index on its way
  pub record Clear (place : Place) : Type 0 where
    pub apart : Apart May place
    pub way : FixedWay May place.steps

  pub stays_above : (place : Place) → Clear place → (above : List Step) (step : Step) (below : List Step) →
      place.steps ≡ above ++ step ∷ below → Stays May (record { local = place.local; steps = above })
  stays_above place c above step below e q m =
      both_true (ap not (by (q.local == place.local) refl))
      (ap not (still.index_above q.local above (step ∷ below) (ap (takes_index q.local) (sym e) ∙ c.way q m)))
    where
      other : (a b : ℕ) → (a == b) ≡ true → (b == a) ≡ true
      other a b h = (Decides-eqb b a).1 (sym ((Decides-eqb a b).0 h))

      by : (b : Bool) → (q.local == place.local) ≡ b → (b && hits q.steps above) ≡ false
      by false h = refl
      by true h = hits_above q.steps above step below
          (ap (λ l. begin_alike (seen l) (seen q.steps)) (sym e)
          ∙ ap (λ b. b && begin_alike (seen place.steps) (seen q.steps)) (sym (other q.local place.local h))
          ∙ c.apart q m)

  index_fixed : (place : Place) → Clear place → (i : ℕ) → takes_index i place.steps ≡ true → Fixed May i
  index_fixed place c i h q m = other_index i q.local place.steps h (c.way q m)

  module _ (items : ItemTable) (local_ty : ℕ → Option TyId) (is_target : ℕ → Bool) (before now : Facts)
      (kept : FactsKept May before now) (place : Place) (c : Clear place) where
    bounded_still : (i count : ℕ) → takes_index i place.steps ≡ true → bounded_by before i count ≡ true →
        bounded_by now i count ≡ true
    bounded_still i count h b = kept.bounded i count (index_fixed place c i h) b

    all_kept : (start so_far steps : List Step) → place.steps ≡ (start ++ so_far) ++ steps →
        still.Kept items (bounded_by before) (bounded_by now) (variant_at before place.local start)
        (variant_at now place.local start) so_far steps
    all_kept start so_far [] e = tt
    all_kept start so_far (step ∷ steps) e = (
      λ variant v. kept.variants (record { local = place.local; steps = start ++ so_far }) variant
          (stays_above place c (start ++ so_far) step steps e) v,
      all_kept start (so_far ++ step ∷ []) steps (e ∙ one_more),
    )
      where
        one_more : (start ++ so_far) ++ step ∷ steps ≡ (start ++ (so_far ++ step ∷ [])) ++ steps
        one_more = sym (append_assoc (start ++ so_far) (step ∷ []) steps)
            ∙ ap (λ l. l ++ steps) (append_assoc start so_far (step ∷ []))

    behind_still : (to : TyId) (steps : List Step) → place.steps ≡ steps →
        sure_behind items local_ty is_target before place.local to steps ≡ true →
        sure_behind items local_ty is_target now place.local to steps ≡ true
    behind_still to (ToContent ∷ steps) e h =
        still.steps_still items (bounded_by before) (bounded_by now)
        (variant_at before place.local (ToContent ∷ [])) (variant_at now place.local (ToContent ∷ []))
        [] steps to (λ i count k. bounded_still i count (ap (takes_index i) e ∙ k))
        (all_kept (ToContent ∷ []) [] steps e) h
    behind_still to [] e h = h
    behind_still to (ToPart n ∷ steps) e h = h
    behind_still to (ToField v n ∷ steps) e h = h
    behind_still to (ToElement i ∷ steps) e h = h

    both_so : (p q q' : Bool) → (q ≡ true → q' ≡ true) → (p && q) ≡ true → (p && q') ≡ true
    both_so true q q' f h = f h
    both_so false q q' f h = h

    from_still : (id : TyId) (o : Option TyId) → sure_from items local_ty is_target before place id o ≡ true →
        sure_from items local_ty is_target now place id o ≡ true
    from_still id (Some to) h = both_so (is_target place.local)
        (sure_behind items local_ty is_target before place.local to place.steps)
        (sure_behind items local_ty is_target now place.local to place.steps)
        (behind_still to place.steps refl) h
    from_still id None h = both_so (not (is_target place.local))
        (are_sure items (bounded_by before) (variant_at before place.local []) [] place.steps id)
        (are_sure items (bounded_by now) (variant_at now place.local []) [] place.steps id)
        (still.steps_still items (bounded_by before) (bounded_by now) (variant_at before place.local [])
        (variant_at now place.local []) [] place.steps id bounded_still (all_kept [] [] place.steps refl)) h

    in_still : (o : Option TyId) → sure_in items local_ty is_target before place o ≡ true →
        sure_in items local_ty is_target now place o ≡ true
    in_still None h = h
    in_still (Some id) h = from_still id (named_by (type_at items id)) h

    -- a place that is sure to lead on is so still
    pub still_sure : sure_place items local_ty is_target before place ≡ true →
        sure_place items local_ty is_target now place ≡ true
    still_sure h = in_still (local_ty place.local) h

  -- a place that may be used may be used still, if a reference on its way is its local
  pub still_usable : (items : ItemTable) (id : Option TyId) (before now : Cells) → CellsKept May before now →
      (place : Place) → Clear place →
      ((watched items id place.steps).reach ≡ ThroughReference → (watched items id place.steps).steps ≡ []) →
      may_use (watched items id place.steps) (presence place.local now)
      ≡ may_use (watched items id place.steps) (presence place.local before)
  still_usable items id before now k place c root = by (watched items id place.steps) (way_of items id place.steps) root
    where
      by : (w : Watched) → Way w place.steps → (w.reach ≡ ThroughReference → w.steps ≡ []) →
          may_use w (presence place.local now) ≡ may_use w (presence place.local before)
      by _ (to_end _) r = k.whole place c.apart
      by _ (by_element _) r = k.whole (record { local = place.local; steps = before_element place.steps })
          (λ q m. ap (λ s. place.local == q.local && begin_alike s (seen q.steps)) (seen_before place.steps)
          ∙ c.apart q m)
      by w (by_reference _ _ e) r =
          reached w.steps (presence place.local now) (r e) ∙ ap not (k.there place c.apart)
          ∙ sym (reached w.steps (presence place.local before) (r e))
        where
          by_reach : (w : Watched) (p : Presence) → w.reach ≡ ThroughReference → may_use w p ≡ is_there_at w.steps p
          by_reach w p e = ap (λ x. elim x [
            | Whole ↦ is_whole_at w.steps p
            | ThroughReference ↦ is_there_at w.steps p
            | ByElement ↦ is_whole_at w.steps p
          ]) e

          reached : (steps : List Step) (p : Presence) → w.steps ≡ [] → may_use w p ≡ not (itself_gone p)
          reached steps p n = by_reach w p e ∙ ap (λ s. is_there_at s p) n
