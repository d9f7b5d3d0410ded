-- A path on which something is dropped and stored again by the next statement, without the drop: as much is gone in the
-- end, no more before, and no more is taken of what references name.
use Rattle.std.proofs.Common.{◌≡◌, ◌⊎◌, inl, inr, ℕ, ◌==◌, ◌&&◌, ◌||◌, not, Bool, true, false, List, [], ◌∷◌, ◌++◌, Option, Some, None, if◌then◌else◌, cond, refl, ap, sym, ◌∙◌, subst, append_assoc}
use Rattle.std.specs.Prelude.{unwrap_or, take_while}
use Rattle.std.specs.List.{list_any, list_all}
use Rattle.std.specs.Option.{option_map_or, option_or}
use Rattle.std.specs.Cmp.{first_so, second_so}
use Rattle.std.specs.Cmp.Derive.{both_true}
use Rattle.std.proofs.lemmas.Bool.{false≢true}
use Rattle.std.proofs.lemmas.List.{append-nil}
use Rattle.std.proofs.lemmas.List.Sums.{take_while-cons}
use Rattle.std.proofs.lemmas.Option.{none-some}
use Rattle.mir_ty.specs.ItemTable.{ItemTable}
use Rattle.cfg_graph.specs.declared.graph.Body.{Body}
use Rattle.cfg_graph.specs.Moves.BadUses.{UseRule, U1, U2, if_bad, may_not_read, may_not_test, may_not_store, checked, bad_after}
use Rattle.cfg_graph.specs.Moves.Gone.{PathAction, leaves_gone, is_at_or_above, containers, has_index, counts, left_by, last_left, is_param, is_gone_after, is_whole_after, container_gone_after, array_broken_after}
use Rattle.cfg_graph.specs.NamedPlaces.{makes, of_line, spares}
use Rattle.cfg_graph.specs.Uses.{PlaceUse, Copies, Moves, Borrows, Touches, Tests, Stores, Drops, Frees}
use Rattle.cfg_graph.proofs.WholePlaces.{wholeness_is_tested}
use Rattle.store_model.specs.Places.Place.{Place, before_element}
use Rattle.drop_elaborate.proofs.PathFacts.{Follows}
use Rattle.drop_elaborate.proofs.SinceMade.{all-first, all-second, all-both, since_next, since_from, since, since_from-append, IsSpared, IsLive}

option-assoc : {A : Type 0} (a b c : Option A) → option_or (option_or a b) c ≡ option_or a (option_or b c)
option-assoc None b c = refl
option-assoc (Some x) b c = refl

false-or : (a b : Bool) → (a || b) ≡ false → (a ≡ false) × (b ≡ false)
false-or false b h = (refl, h)
false-or true b h = absurd (false≢true (sym h))

or-false : (a b : Bool) → a ≡ false → b ≡ false → (a || b) ≡ false
or-false true b e h = e
or-false false b e h = h

any-fewer : {A : Type 0} (p q : A → Bool) (xs : List A) → ((x : A) → p x ≡ false → q x ≡ false) →
    list_any p xs ≡ false → list_any q xs ≡ false
any-fewer p q [] h e = refl
any-fewer p q (x ∷ xs) h e =
    let t = false-or (p x) (list_any p xs) e in or-false (q x) (list_any q xs) (h x t.0) (any-fewer p q xs h t.1)

-- the first ones of a list that pass are among those of a longer one
all-while : {A : Type 0} (p q : A → Bool) (xs ys : List A) → list_all q (take_while p (xs ++ ys)) ≡ true →
    list_all q (take_while p xs) ≡ true
all-while p q [] ys h = refl
all-while p q (x ∷ xs) ys h =
    ap (list_all q) (take_while-cons p x xs)
    ∙ by (p x) (ap (list_all q) (sym (take_while-cons p x (xs ++ ys))) ∙ h) (all-while p q xs ys)
  where
    by : (b : Bool) → list_all q (cond b (x ∷ take_while p (xs ++ ys)) []) ≡ true →
        (list_all q (take_while p (xs ++ ys)) ≡ true → list_all q (take_while p xs) ≡ true) →
        list_all q (cond b (x ∷ take_while p xs) []) ≡ true
    by true h again =
        both_true (first_so (q x) (list_all q (take_while p (xs ++ ys))) h)
        (again (second_so (q x) (list_all q (take_while p (xs ++ ys))) h))
    by false h again = refl

module _ (items : ItemTable) (body : Body) where
  abbrev gone : List PathAction → Place → Bool
  gone actions place = is_gone_after items body actions place

  pub last-append : (place : Place) (first later : List PathAction) → last_left items body place (first ++ later)
      ≡ option_or (last_left items body place later) (last_left items body place first)
  last-append place [] later = by (last_left items body place later)
    where
      by : (o : Option Bool) → o ≡ option_or o None
      by None = refl
      by (Some b) = refl
  last-append place (action ∷ first) later =
      ap (λ o. option_or o (left_by items body place action)) (last-append place first later)
      ∙ option-assoc (last_left items body place later) (last_left items body place first)
      (left_by items body place action)

  -- ---- an action that takes something, left out

  module _ (drop : PathAction) (takes : leaves_gone drop.how ≡ Some true) (acts : List PathAction) where
    abbrev With : List PathAction → List PathAction
    With later = acts ++ drop ∷ later

    abbrev Without : List PathAction → List PathAction
    Without later = acts ++ later

    drop-left : (place : Place) → (left_by items body place drop ≡ None) ⊎ (left_by items body place drop ≡ Some true)
    drop-left place = by (counts items body drop.place && is_at_or_above drop.place place)
      where
        by : (b : Bool) → ((if b then leaves_gone drop.how else None) ≡ None)
            ⊎ ((if b then leaves_gone drop.how else None) ≡ Some true)
        by true = inr takes
        by false = inl refl

    with-left : (place : Place) (later : List PathAction) → last_left items body place (With later)
        ≡ option_or (option_or (last_left items body place later) (left_by items body place drop))
        (last_left items body place acts)
    with-left place later = last-append place acts (drop ∷ later)

    without-left : (place : Place) (later : List PathAction) → last_left items body place (Without later)
        ≡ option_or (last_left items body place later) (last_left items body place acts)
    without-left place later = last-append place acts later

    -- no more is gone
    pub fewer-gone : (later : List PathAction) (place : Place) → gone (With later) place ≡ false →
        gone (Without later) place ≡ false
    fewer-gone later place h =
        ap (λ o. unwrap_or o (not (is_param items body place.local))) (without-left place later)
        ∙ by (last_left items body place later) (left_by items body place drop) (drop-left place)
        (ap (λ o. unwrap_or o (not (is_param items body place.local))) (sym (with-left place later)) ∙ h)
      where
        by : (o d : Option Bool) → (d ≡ None) ⊎ (d ≡ Some true) →
            unwrap_or (option_or (option_or o d) (last_left items body place acts)) (not (is_param items body
            place.local))
            ≡ false →
            unwrap_or (option_or o (last_left items body place acts)) (not (is_param items body place.local)) ≡ false
        by (Some b) d c h = h
        by None d (inl e) h =
            ap (λ d. unwrap_or (option_or d (last_left items body place acts))
            (not (is_param items body place.local))) (sym e) ∙ h
        by None d (inr e) h =
            absurd (false≢true (sym h ∙ ap (λ d. unwrap_or (option_or d (last_left items body place acts))
            (not (is_param items body place.local))) e))

    -- and as much, where what comes later stores there again
    pub same-gone : (later : List PathAction) (place : Place) →
        (left_by items body place drop ≡ Some true → (b : Bool) × (last_left items body place later ≡ Some b)) →
        gone (Without later) place ≡ gone (With later) place
    same-gone later place stored =
        ap (λ o. unwrap_or o (not (is_param items body place.local)))
        (without-left place later
        ∙ by (last_left items body place later) (left_by items body place drop) (drop-left place) stored
        ∙ sym (with-left place later))
      where
        by : (o d : Option Bool) → (d ≡ None) ⊎ (d ≡ Some true) → (d ≡ Some true → (b : Bool) × (o ≡ Some b)) →
            option_or o (last_left items body place acts) ≡ option_or (option_or o d) (last_left items body place acts)
        by (Some b) d c s = refl
        by None d (inl e) s = ap (λ d. option_or d (last_left items body place acts)) (sym e)
        by None d (inr e) s = absurd (none-some (s e).0 (s e).1)

    -- ---- no use is bad

    fewer-whole : (later : List PathAction) (place : Place) → is_whole_after items body (With later) place ≡ true →
        is_whole_after items body (Without later) place ≡ true
    fewer-whole later place h =
        (wholeness_is_tested items body (Without later) place).1
        (λ steps. fewer-gone later _ ((wholeness_is_tested items body (With later) place).0 h steps))

    not-whole : (later : List PathAction) (place : Place) → not (is_whole_after items body (With later) place) ≡ false →
        not (is_whole_after items body (Without later) place) ≡ false
    not-whole later place h =
        ap not (fewer-whole later place (by (is_whole_after items body (With later) place) h))
      where
        by : (b : Bool) → not b ≡ false → b ≡ true
        by true h = refl
        by false h = absurd (false≢true (sym h))

    container-fewer : (later : List PathAction) (place : Place) →
        container_gone_after items body (With later) place ≡ false →
        container_gone_after items body (Without later) place ≡ false
    container-fewer later place h =
        any-fewer (λ outer. gone (With later) (record { local = place.local; steps = outer }))
        (λ outer. gone (Without later) (record { local = place.local; steps = outer })) (containers place.steps)
        (λ outer e. fewer-gone later (record { local = place.local; steps = outer }) e) h

    array-fewer : (later : List PathAction) (place : Place) →
        array_broken_after items body (With later) place ≡ false →
        array_broken_after items body (Without later) place ≡ false
    array-fewer later place h = by (has_index place.steps) h
      where
        upper : Place
        upper = record { local = place.local; steps = before_element place.steps }

        by : (b : Bool) → (b && not (is_whole_after items body (With later) upper)) ≡ false →
            (b && not (is_whole_after items body (Without later) upper)) ≡ false
        by true h = not-whole later upper h
        by false h = refl

    bad-so : (b : Bool) (rule : UseRule) (action : PathAction) → if_bad items body b rule action ≡ [] → b ≡ false
    bad-so false rule action e = refl
    bad-so true rule action e = absurd (let n : (record { rule = rule; action = action }) ∷ [] ≡ [] = e in cc)

    good-so : (b : Bool) (rule : UseRule) (action : PathAction) → b ≡ false → if_bad items body b rule action ≡ []
    good-so b rule action e = ap (λ b. if_bad items body b rule action) e

    read-fewer : (later : List PathAction) (place : Place) → may_not_read items body (With later) place ≡ false →
        may_not_read items body (Without later) place ≡ false
    read-fewer later place h =
        let o = false-or (not (is_whole_after items body (With later) place)
        || container_gone_after items body (With later) place) (array_broken_after items body (With later) place) h in
        let p = false-or (not (is_whole_after items body (With later) place))
        (container_gone_after items body (With later) place) o.0 in
        or-false (not (is_whole_after items body (Without later) place)
        || container_gone_after items body (Without later) place) (array_broken_after items body (Without later) place)
        (or-false (not (is_whole_after items body (Without later) place))
        (container_gone_after items body (Without later) place) (not-whole later place p.0)
        (container-fewer later place p.1)) (array-fewer later place o.1)

    test-fewer : (later : List PathAction) (place : Place) → may_not_test items body (With later) place ≡ false →
        may_not_test items body (Without later) place ≡ false
    test-fewer later place h =
        let o = false-or (gone (With later) place || container_gone_after items body (With later) place)
        (array_broken_after items body (With later) place) h in
        let p = false-or (gone (With later) place) (container_gone_after items body (With later) place) o.0 in
        or-false (gone (Without later) place || container_gone_after items body (Without later) place)
        (array_broken_after items body (Without later) place)
        (or-false (gone (Without later) place) (container_gone_after items body (Without later) place)
        (fewer-gone later place p.0) (container-fewer later place p.1)) (array-fewer later place o.1)

    store-fewer : (later : List PathAction) (place : Place) → may_not_store items body (With later) place ≡ false →
        may_not_store items body (Without later) place ≡ false
    store-fewer later place h =
        let o = false-or (container_gone_after items body (With later) place)
        (array_broken_after items body (With later) place) h in
        or-false (container_gone_after items body (Without later) place)
        (array_broken_after items body (Without later) place) (container-fewer later place o.0)
        (array-fewer later place o.1)

    checked-fewer : (later : List PathAction) (action : PathAction) (how : PlaceUse) →
        checked items body (With later) action how ≡ [] → checked items body (Without later) action how ≡ []
    checked-fewer later action Copies h =
        good-so (may_not_read items body (Without later) action.place) U1 action (read-fewer later action.place
        (bad-so (may_not_read items body (With later) action.place) U1 action h))
    checked-fewer later action Moves h =
        good-so (may_not_read items body (Without later) action.place) U1 action (read-fewer later action.place
        (bad-so (may_not_read items body (With later) action.place) U1 action h))
    checked-fewer later action Borrows h =
        good-so (may_not_read items body (Without later) action.place) U1 action (read-fewer later action.place
        (bad-so (may_not_read items body (With later) action.place) U1 action h))
    checked-fewer later action Touches h =
        good-so (may_not_read items body (Without later) action.place) U1 action (read-fewer later action.place
        (bad-so (may_not_read items body (With later) action.place) U1 action h))
    checked-fewer later action Tests h =
        good-so (may_not_test items body (Without later) action.place) U1 action (test-fewer later action.place
        (bad-so (may_not_test items body (With later) action.place) U1 action h))
    checked-fewer later action Stores h =
        good-so (may_not_store items body (Without later) action.place) U2 action (store-fewer later action.place
        (bad-so (may_not_store items body (With later) action.place) U2 action h))
    checked-fewer later action Drops h =
        good-so (may_not_store items body (Without later) action.place) U2 action (store-fewer later action.place
        (bad-so (may_not_store items body (With later) action.place) U2 action h))
    checked-fewer later action Frees h = refl

    nothing-left : {A : Type 0} (xs ys : List A) → xs ++ ys ≡ [] → (xs ≡ []) × (ys ≡ [])
    nothing-left [] ys e = (refl, e)
    nothing-left (x ∷ xs) ys e = absurd (let n : x ∷ (xs ++ ys) ≡ [] = e in cc)

    fine-fewer : (later xs rest : List PathAction) → bad_after items body (With later) (xs ++ rest) ≡ [] →
        bad_after items body (Without later) xs ≡ []
    fine-fewer later [] rest h = refl
    fine-fewer later (x ∷ xs) rest h =
        let two = nothing-left (checked items body (With later) x x.how)
        (bad_after items body (With later ++ x ∷ []) (xs ++ rest)) h in
        ap (λ l. l ++ bad_after items body (Without later ++ x ∷ []) xs) (checked-fewer later x x.how two.0)
        ∙ subst (λ l. bad_after items body l xs ≡ []) (sym (append_assoc acts later (x ∷ [])))
        (fine-fewer (later ++ x ∷ []) xs rest
        (subst (λ l. bad_after items body l (xs ++ rest) ≡ []) (append_assoc acts (drop ∷ later) (x ∷ [])) two.1))

  -- ---- since a reference was made

  module _ (r : ℕ) where
    -- the second has what the first has
    abbrev Fewer : Option (List PathAction) → Option (List PathAction) → Type 0
    Fewer None None = Unit {0}
    Fewer None (Some l) = ⊥
    Fewer (Some l) None = ⊥
    Fewer (Some l) (Some m) = list_all (spares body r) m ≡ true → list_all (spares body r) l ≡ true

    fewer-itself : (o : Option (List PathAction)) → Fewer o o
    fewer-itself None = tt
    fewer-itself (Some l) = λ h. h

    fewer-next : (o p : Option (List PathAction)) (action : PathAction) → Fewer o p →
        Fewer (since_next body r o action) (since_next body r p action)
    fewer-next o p action f = by (makes body r action) o p f
      where
        by : (b : Bool) (o p : Option (List PathAction)) → Fewer o p →
            Fewer (if b then Some [] else option_map_or (λ l. Some (l ++ action ∷ [])) o None)
            (if b then Some [] else option_map_or (λ l. Some (l ++ action ∷ [])) p None)
        by true o p f = λ h. h
        by false None None f = tt
        by false None (Some l) f = absurd f
        by false (Some l) None f = absurd f
        by false (Some l) (Some m) f = λ h.
            all-both (spares body r) l (action ∷ []) (f (all-first (spares body r) m (action ∷ []) h))
            (all-second (spares body r) m (action ∷ []) h)

    fewer-from : (o p : Option (List PathAction)) (later : List PathAction) → Fewer o p →
        Fewer (since_from body r o later) (since_from body r p later)
    fewer-from o p [] f = f
    fewer-from o p (action ∷ later) f =
        fewer-from (since_next body r o action) (since_next body r p action) later (fewer-next o p action f)

    -- an action that makes no reference, left out
    pub since-fewer : (acts later : List PathAction) (drop : PathAction) → makes body r drop ≡ false →
        Fewer (since body r (acts ++ later)) (since body r (acts ++ drop ∷ later))
    since-fewer acts later drop m =
        subst (λ o. Fewer o (since body r (acts ++ drop ∷ later))) (sym (since_from-append body r None acts later))
        (subst (Fewer (since_from body r (since body r acts) later))
        (sym (since_from-append body r None acts (drop ∷ later)))
        (fewer-from (since body r acts) (since_next body r (since body r acts) drop) later (one (since body r acts))))
      where
        one : (o : Option (List PathAction)) → Fewer o (since_next body r o drop)
        one o = subst (λ b. Fewer o (if b then Some [] else option_map_or (λ l. Some (l ++ drop ∷ [])) o None)) (sym m)
            (of o)
          where
            of : (o : Option (List PathAction)) → Fewer o (option_map_or (λ l. Some (l ++ drop ∷ [])) o None)
            of None = tt
            of (Some l) = λ h. all-first (spares body r) l (drop ∷ []) h

    spared-fewer : (o p : Option (List PathAction)) → Fewer o p → IsSpared body r p → IsSpared body r o
    spared-fewer None None f s = s
    spared-fewer None (Some m) f s = absurd f
    spared-fewer (Some l) None f s = absurd s
    spared-fewer (Some l) (Some m) f s = f s

    pub live-fewer : (acts later : List PathAction) (drop : PathAction) → makes body r drop ≡ false →
        IsLive body (acts ++ drop ∷ later) r → IsLive body (acts ++ later) r
    live-fewer acts later drop m (inl e) = inl e
    live-fewer acts later drop m (inr s) =
        inr (spared-fewer (since body r (acts ++ later)) (since body r (acts ++ drop ∷ later))
        (since-fewer acts later drop m) s)

    keeps-fewer : (acts xs ys rest : List PathAction) (drop action : PathAction) → makes body r drop ≡ false →
        (l : List PathAction) → since body r (acts ++ xs) ≡ Some l →
        ((m : List PathAction) → since body r (acts ++ drop ∷ xs) ≡ Some m →
        list_all (spares body r) (m ++ action ∷ of_line body action (ys ++ rest)) ≡ true) →
        list_all (spares body r) (l ++ action ∷ of_line body action ys) ≡ true
    keeps-fewer acts xs ys rest drop action m l e k =
        by (since body r (acts ++ drop ∷ xs)) refl
        (subst (λ o. Fewer o (since body r (acts ++ drop ∷ xs))) e (since-fewer acts xs drop m))
      where
        shorter : list_all (spares body r) (action ∷ of_line body action (ys ++ rest)) ≡ true →
            list_all (spares body r) (action ∷ of_line body action ys) ≡ true
        shorter h =
            both_true (first_so (spares body r action) (list_all (spares body r) (of_line body action (ys ++ rest))) h)
            (all-while (λ (a : PathAction). (a.block == action.block) && (a.line == action.line)) (spares body r) ys
            rest
            (second_so (spares body r action) (list_all (spares body r) (of_line body action (ys ++ rest))) h))

        by : (o : Option (List PathAction)) → since body r (acts ++ drop ∷ xs) ≡ o → Fewer (Some l) o →
            list_all (spares body r) (l ++ action ∷ of_line body action ys) ≡ true
        by None eo f = absurd f
        by (Some n) eo f =
            let h = k n eo in
            all-both (spares body r) l (action ∷ of_line body action ys)
            (f (all-first (spares body r) n (action ∷ of_line body action (ys ++ rest)) h))
            (shorter (all-second (spares body r) n (action ∷ of_line body action (ys ++ rest)) h))

  -- so these actions follow without the drop
  pub follows-without : (acts xs rest : List PathAction) (drop : PathAction) → leaves_gone drop.how ≡ Some true →
      ((r : ℕ) → makes body r drop ≡ false) → Follows items body (acts ++ drop ∷ []) (xs ++ rest) →
      Follows items body acts (xs ++ [])
  follows-without acts xs rest drop takes idle f = record {
    fine = subst (λ l. bad_after items body acts l ≡ []) (sym (append-nil xs))
        (subst (λ l. bad_after items body l xs ≡ []) (append-nil acts) (fine-fewer drop takes acts [] xs rest f.fine));
    keeps = λ r zs ys action e u l s.
        keeps-fewer r acts zs ys rest drop action (idle r) l s
        (λ m em. f.keeps r zs (ys ++ rest) action
        (ap (λ k. k ++ rest) (sym (append-nil xs) ∙ e) ∙ append_assoc zs (action ∷ ys) rest) u m
        (subst (λ k. since body r k ≡ Some m) (sym (append_assoc acts (drop ∷ []) zs)) em));
  }
