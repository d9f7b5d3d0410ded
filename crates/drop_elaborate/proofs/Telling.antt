-- What the actions of a path tell along the tree of the body's paths: of each path whether it is gone, as the facts
-- allow and as its flag says; and what is no path is as its container.
use Rattle.std.proofs.Common.{◌≡◌, ◌⊎◌, inl, inr, ℕ, ◌==◌, ◌&&◌, not, Bool, true, false, List, [], ◌∷◌, ◌++◌, Option, Some, None, if◌then◌else◌, refl, ap, sym, ◌∙◌, subst, append_assoc}
use Rattle.std.specs.Prelude.{unwrap_or}
use Rattle.std.specs.Option.{option_or}
use Rattle.std.specs.Cmp.{first_so, second_so}
use Rattle.std.specs.Cmp.Derive.{both_true}
use Rattle.std.proofs.lemmas.Bool.{false≢true}
use Rattle.std.proofs.lemmas.Bool.Decides.{Decides-eqb}
use Rattle.mir_ty.specs.ItemTable.{ItemTable}
use Rattle.store_model.specs.Abstract.Presence.{Presence, itself_gone, presence_at, presence_along, all_present}
use Rattle.store_model.specs.Places.Place.{Step, same_step, Place}
use Rattle.store_model.specs.Values.Datum.{Datum, Truth}
use Rattle.cfg_graph.specs.declared.graph.Body.{Body}
use Rattle.cfg_graph.specs.Moves.Gone.{PathAction, leaves_gone, are_first, is_at_or_above, below, counts, left_by, last_left, is_param, is_gone_after}
use Rattle.cfg_graph.specs.Moves.Present.{present_after}
use Rattle.cfg_graph.proofs.AllPresent.{whole_is_all_present}
use Rattle.cfg_graph.proofs.Present.{gone_is_not_present}
use Rattle.drop_values.specs.Facts.{Tree, at_path, Branches, no_branch, a_branch, Facts, possible}
use Rattle.drop_values.specs.Planning.{branch_by}
use Rattle.drop_values.proofs.Told.{IsTold, Told, ToldBelow, Sunk}
use Rattle.drop_values.proofs.Steps.{same_step-sound, same_step-refl}

-- what begins with the first of these steps begins with more of them too
pub wider : (upper lower more : List Step) → are_first upper lower ≡ true → are_first upper (lower ++ more) ≡ true
wider [] lower more h = refl
wider (x ∷ xs) [] more h = absurd (false≢true h)
wider (x ∷ xs) (y ∷ ys) more h = both_true (first_so (same_step x y) (are_first xs ys) h)
    (wider xs ys more (second_so (same_step x y) (are_first xs ys) h))

same_back : (a b : Step) → same_step a b ≡ true → same_step b a ≡ true
same_back a b h = subst (λ x. same_step b x ≡ true) (sym (same_step-sound a b h)) (same_step-refl b)

-- steps that lead above the end of these, but not above their beginning, go through the step between
between : (upper lower rest : List Step) (step : Step) → are_first upper (lower ++ step ∷ rest) ≡ true →
    are_first upper lower ≡ false → are_first (lower ++ step ∷ []) upper ≡ true
between [] lower rest step h n = absurd (false≢true (sym n))
between (x ∷ xs) [] rest step h n = both_true (same_back x step (first_so (same_step x step) (are_first xs rest) h))
    refl
between (x ∷ xs) (y ∷ ys) rest step h n =
    let s = first_so (same_step x y) (are_first xs (ys ++ step ∷ rest)) h in
    both_true (same_back x y s) (between xs ys rest step
    (second_so (same_step x y) (are_first xs (ys ++ step ∷ rest)) h) (sym (ap (λ b. b && are_first xs ys) s) ∙ n))

pub presence_along-append : (upper lower : List Step) (p : Presence) → presence_along (upper ++ lower)
    p ≡ presence_along lower (presence_along upper p)
presence_along-append [] lower p = refl
presence_along-append (step ∷ upper) lower p = presence_along-append upper lower (presence_at step p)

module _ (items : ItemTable) (body : Body) where
  -- an action changes nothing at or below a place
  abbrev pub SparedBy : Place → PathAction → Type 0
  SparedBy place action = (leaves_gone action.how ≡ None) ⊎ ((counts items body action.place ≡ false)
      ⊎ (is_at_or_above place action.place ≡ false))

  abbrev pub Spared : Place → List PathAction → Type 0
  Spared place [] = Unit {0}
  Spared place (action ∷ later) = SparedBy place action × Spared place later

  left-same : (q : Place) (step : Step) (rest : List Step) (action : PathAction) →
      SparedBy (below q (step ∷ [])) action → left_by items body (below q (step ∷ rest)) action ≡ left_by
      items body q action
  left-same q step rest action spared = by (counts items body action.place) refl (action.place.local == q.local) refl
      (are_first action.place.steps (q.steps ++ step ∷ rest)) refl (are_first action.place.steps q.steps) refl
    where
      none : leaves_gone action.how ≡ None → (a b : Bool) →
          (if a then leaves_gone action.how else None) ≡ (if b then leaves_gone action.how else None)
      none e true true = refl
      none e true false = e
      none e false true = sym e
      none e false false = refl

      by : (c : Bool) → counts items body action.place ≡ c → (l : Bool) → (action.place.local == q.local) ≡ l →
          (a : Bool) → are_first action.place.steps (q.steps ++ step ∷ rest) ≡ a → (b : Bool) →
          are_first action.place.steps q.steps ≡ b →
          (if counts items body action.place && ((action.place.local == q.local) && are_first action.place.steps
          (q.steps ++ step ∷ rest)) then leaves_gone action.how else None) ≡ (if counts items body action.place &&
          ((action.place.local == q.local) && are_first action.place.steps q.steps) then leaves_gone
          action.how else None)
      by false ec l el a ea b eb = ap (λ c. if c && ((action.place.local == q.local) && are_first action.place.steps
          (q.steps ++ step ∷ rest)) then leaves_gone action.how else None) ec
          ∙ sym (ap (λ c. if c && ((action.place.local == q.local) && are_first action.place.steps q.steps)
          then leaves_gone action.how else None) ec)
      by true ec false el a ea b eb =
          ap (λ l. if counts items body action.place && (l && are_first action.place.steps (q.steps ++ step ∷ rest))
          then leaves_gone action.how else None) el
          ∙ sym (ap (λ l. if counts items body action.place && (l && are_first action.place.steps q.steps)
          then leaves_gone action.how else None) el)
      by true ec true el true ea true eb =
          ap (λ x. if counts items body action.place && ((action.place.local == q.local) && x) then leaves_gone
          action.how else None) (ea ∙ sym eb)
      by true ec true el false ea false eb =
          ap (λ x. if counts items body action.place && ((action.place.local == q.local) && x) then leaves_gone
          action.how else None) (ea ∙ sym eb)
      by true ec true el false ea true eb = absurd
          (false≢true (sym ea ∙ wider action.place.steps q.steps (step ∷ rest) eb))
      by true ec true el true ea false eb = spare spared
        where
          spare : SparedBy (below q (step ∷ [])) action →
              (if counts items body action.place && ((action.place.local == q.local) && are_first action.place.steps
              (q.steps ++ step ∷ rest)) then leaves_gone action.how else None) ≡ (if counts
              items body action.place && ((action.place.local == q.local) && are_first action.place.steps q.steps)
              then leaves_gone action.how else None)
          spare (inl e) = none e (counts items body action.place &&
              ((action.place.local == q.local) && are_first action.place.steps (q.steps ++ step ∷ rest)))
              (counts items body action.place && ((action.place.local == q.local) && are_first action.place.steps
              q.steps))
          spare (inr (inl e)) = absurd (false≢true (sym e ∙ ec))
          spare (inr (inr e)) = absurd (false≢true (sym e ∙ both_true (local_back el)
              (between action.place.steps q.steps rest step ea eb)))
            where
              local_back : (action.place.local == q.local) ≡ true → (q.local == action.place.local) ≡ true
              local_back h = (Decides-eqb q.local action.place.local).1
                  (sym ((Decides-eqb action.place.local q.local).0 h))

  -- what is done with a part that is no path is done with its container
  as-container : (q : Place) (step : Step) (rest : List Step) (acts : List PathAction) →
      Spared (below q (step ∷ [])) acts → last_left items body (below q (step ∷ rest)) acts ≡ last_left
      items body q acts
  as-container q step rest [] s = refl
  as-container q step rest (action ∷ later) s = (λ i. option_or (as-container q step rest later s.1 i)
      (left-same q step rest action s.0 i))

  module _ (acts : List PathAction) where
    abbrev pub known_at : Place → Presence
    known_at q = presence_along q.steps (present_after items body acts q.local)

    pub present-else : (q : Place) (step : Step) → Spared (below q (step ∷ [])) acts →
        is_gone_after items body acts q ≡ false → all_present (presence_at step (known_at q)) ≡ true
    present-else q step s g =
        subst (λ p. all_present p ≡ true) (presence_along-append q.steps (step ∷ [])
        (present_after items body acts q.local))
        ((whole_is_all_present items body acts (below q (step ∷ []))).1 (λ rest.
        ap (λ steps. is_gone_after items body acts (record { local = q.local; steps = steps }))
        (append_assoc q.steps (step ∷ []) rest)
        ∙ ap (λ o. unwrap_or o (not (is_param items body q.local))) (as-container q step rest acts s) ∙ g))

    module _ (facts : Facts) (flag_of : ℕ → Option ℕ) (IsFlag : ℕ → Type 0) (holds : ℕ → Datum)
        (IsAt : ℕ → Place → Type 0)
        (sunken : (q : Place) (step : Step) → is_gone_after items body acts q ≡ true →
        is_gone_after items body acts (below q (step ∷ [])) ≡ true)
        (may_be : (number : ℕ) (q : Place) → IsAt number q → possible facts (not (is_gone_after items body acts q))
        number ≡ true)
        (flags : (number : ℕ) (q : Place) (flag : ℕ) → IsAt number q → flag_of number ≡ Some flag → IsFlag flag
        × (holds flag ≡ Truth (not (is_gone_after items body acts q)))) where
      -- the tree of the paths at and below a place: no action changes anything at or below where no path is
      abbrev mutual
        pub TreeOf : Place → Tree → Type 0
        TreeOf q (at_path number under) = IsAt number q × BranchesOf q under
            × ((step : Step) → branch_by step under ≡ None → Spared (below q (step ∷ [])) acts)

        pub BranchesOf : Place → Branches → Type 0
        BranchesOf q no_branch = Unit {0}
        BranchesOf q (a_branch step tree rest) = TreeOf (below q (step ∷ [])) tree × BranchesOf q rest

      gone_known : (q : Place) → itself_gone (known_at q) ≡ is_gone_after items body acts q
      gone_known q = gone_is_not_present items body acts q

      -- below what is gone all is gone
      told-sunk : (q : Place) (under : Branches) → Sunk items facts flag_of IsFlag holds (known_at q) under
      told-sunk q no_branch = tt
      told-sunk q (a_branch step tree rest) = (
        (λ g. subst (λ p. itself_gone p ≡ true) (presence_along-append q.steps (step ∷ [])
            (present_after items body acts q.local))
            (gone_known (below q (step ∷ [])) ∙ sunken q step (sym (gone_known q) ∙ g))),
        told-sunk q rest,
      )

      mutual
        pub told : (q : Place) (tree : Tree) → TreeOf q tree → Told items facts flag_of IsFlag holds (known_at q) tree
        told q (at_path number under) t = (
          subst (λ g. IsTold items facts flag_of IsFlag holds g number) (sym (gone_known q))
              (record { may_be = may_be number q t.0; flag = λ flag e. flags number q flag t.0 e }),
          told-below q under t.1,
          (λ step e g. present-else q step (t.2 step e) (sym (gone_known q) ∙ g)),
          told-sunk q under,
        )

        told-below : (q : Place) (under : Branches) → BranchesOf q under → ToldBelow items facts flag_of IsFlag holds
            (known_at q) under
        told-below q no_branch t = tt
        told-below q (a_branch step tree rest) t = (
          subst (λ p. Told items facts flag_of IsFlag holds p tree)
              (presence_along-append q.steps (step ∷ []) (present_after items body acts q.local))
              (told (below q (step ∷ [])) tree t.0),
          told-below q rest t.1,
        )
