-- Along the tree of the paths at and below the place of a drop: each path has a type and is told by the facts and by
-- the flags, and has a flag wherever the plan of the drop reads one.
use Rattle.std.proofs.Common.{◌≡◌, ◌⊎◌, inl, inr, ℕ, zero, suc, ◌+◌, nat_lt, not, Bool, true, false, List, [], ◌∷◌, ◌++◌, length, Option, Some, None, filter, if◌then◌else◌, slice_get, refl, ap, sym, ◌∙◌, subst, append_assoc, arith}
use Rattle.std.specs.Prelude.{option_and_then, unwrap_or}
use Rattle.std.specs.Option.{option_map_or}
use Rattle.std.proofs.lemmas.Option.{none-some}
use Rattle.mir_ty.proofs.ListLemmas.{Contains-slice_get}
use Rattle.mir_ty.specs.declared.ty.TyId.{TyId}
use Rattle.mir_ty.specs.Facts.{has_drop_impl}
use Rattle.mir_ty.specs.ItemTable.{ItemTable, type_at}
use Rattle.cfg_graph.specs.declared.graph.Body.{Body}
use Rattle.cfg_graph.specs.Moves.Actions.{actions_on}
use Rattle.cfg_graph.specs.Moves.BadUses.{bad_uses_on}
use Rattle.cfg_graph.specs.Moves.Gone.{PathAction, below, is_gone_after}
use Rattle.cfg_graph.specs.Moves.Paths.{IsPath}
use Rattle.cfg_graph.specs.Moves.Present.{present_after}
use Rattle.cfg_graph.specs.NamedPlaces.{same_place}
use Rattle.move_paths.specs.Forest.{PathForest, IsForest, is_local, is_path}
use Rattle.store_model.specs.Abstract.Presence.{presence_along}
use Rattle.store_model.specs.Places.Place.{Step, Place, step_ty, ty_along}
use Rattle.store_model.specs.Values.Datum.{Datum, Truth}
use Rattle.drop_values.specs.Facts.{Tree, at_path, Branches, no_branch, a_branch, Facts, possible}
use Rattle.drop_values.specs.Planning.{IsTyped, AreTyped}
use Rattle.drop_values.proofs.Told.{Told, Flagged, BelowFlagged}
use Rattle.drop_elaborate.proofs.PathSpares.{AllUses, path-uses, spared, path-typed, along-append}
use Rattle.drop_elaborate.proofs.ReadyBody.{BodyIsReady}
use Rattle.drop_elaborate.proofs.Refilled.{same-places, same-itself}
use Rattle.drop_elaborate.proofs.Sunken.{Sunken, comes-sunken}
use Rattle.drop_elaborate.proofs.Telling.{TreeOf, BranchesOf, told}
use Rattle.drop_elaborate.specs.Elaborated.{flag_at, place_number, flag_of}
use Rattle.drop_elaborate.specs.Kinds.{before_last, Comes, IsDrop, IsDead, IsSure, place_id, AreFacts, IsTree, AreBranches, IsFlagged, AreFlagged}

-- ---- lists

-- the last of some steps, or an earlier one
last-split : (steps : List Step) (last : Step) (upper : List Step) (s : Step) (lower : List Step) →
    steps ++ last ∷ [] ≡ upper ++ s ∷ lower → (upper ≡ steps) ⊎ ((rest : List Step) × (steps ≡ upper ++ s ∷ rest))
last-split [] last [] s lower e = inl refl
last-split [] last (x ∷ upper) s lower e = absurd (none (let z : last ∷ [] ≡ x ∷ (upper ++ s ∷ lower) = e in
    let y : [] ≡ upper ++ s ∷ lower = cc in y))
  where
    none : {P : Type 0} → [] ≡ upper ++ s ∷ lower → P
    none h = by upper h
      where
        by : {P : Type 0} (u : List Step) → [] ≡ u ++ s ∷ lower → P
        by [] h = absurd (let n : [] ≡ s ∷ lower = h in cc)
        by (y ∷ u) h = absurd (let n : [] ≡ y ∷ (u ++ s ∷ lower) = h in cc)
last-split (x ∷ steps) last [] s lower e =
    inr (steps, (let z : x ∷ (steps ++ last ∷ []) ≡ s ∷ lower = e in let y : x ≡ s = cc in ap (λ k. k ∷ steps) y))
last-split (x ∷ steps) last (y ∷ upper) s lower e =
    let z : x ∷ (steps ++ last ∷ []) ≡ y ∷ (upper ++ s ∷ lower) = e in
    let head : x ≡ y = cc in
    let tail : steps ++ last ∷ [] ≡ upper ++ s ∷ lower = cc in
    elim (last-split steps last upper s lower tail) [
      | inl a ↦ inl (ap (λ l. y ∷ l) a ∙ ap (λ k. k ∷ steps) (sym head))
      | inr a ↦ inr (a.0, ap (λ k. k ∷ steps) head ∙ ap (λ l. y ∷ l) a.1)
    ]

-- what passes a test stays in a list
filtered : {A : Type 0} (test : A → Bool) (xs : List A) (k : ℕ) (x : A) → slice_get xs k ≡ Some x → test x ≡ true →
    (j : ℕ) × (slice_get (filter test xs) j ≡ Some x)
filtered test [] k x e t = absurd (none-some x e)
filtered test (y ∷ xs) zero x e t =
    let same : x ≡ y = (let z : Some y ≡ Some x = e in cc) in
    subst (λ b. (j : ℕ) × (slice_get (if b then y ∷ filter test xs else filter test xs) j ≡ Some x))
    (sym (ap test (sym same) ∙ t)) (0, e)
filtered test (y ∷ xs) (suc k) x e t = by (test y) (filtered test xs k x e t)
  where
    by : (b : Bool) → (j : ℕ) × (slice_get (filter test xs) j ≡ Some x) →
        (j : ℕ) × (slice_get (if b then y ∷ filter test xs else filter test xs) j ≡ Some x)
    by true r = (suc r.0, r.1)
    by false r = r

-- a place in a list has a number there
pub record Numbered (place : Place) (places : List Place) (from : ℕ) : Type 0 where
  pub number : ℕ
  pub is : place_number place places from ≡ Some number
  pub index : ℕ
  pub there : slice_get places index ≡ Some place
  pub sum : number ≡ from + index

number-there : (place : Place) (places : List Place) (from k : ℕ) → slice_get places k ≡ Some place →
    same_place place place ≡ true → Numbered place places from
number-there place [] from k e s = absurd (none-some place e)
number-there place (other ∷ others) from zero e s =
    let same : other ≡ place = (let x : Some other ≡ Some place = e in cc) in record {
      number = from;
      is = ap (λ b. if b then Some from else place_number place others (suc from)) (ap (same_place place) same ∙ s);
      index = 0;
      there = e;
      sum = omega arith;
    }
number-there place (other ∷ others) from (suc k) e s =
    by (same_place place other) refl (number-there place others (suc from) k e s)
  where
    by : (b : Bool) → same_place place other ≡ b → Numbered place others (suc from) →
        Numbered place (other ∷ others) from
    by true h r = record {
      number = from;
      is = ap (λ b. if b then Some from else place_number place others (suc from)) h;
      index = 0;
      there = ap Some (sym (same-places place other h));
      sum = omega arith;
    }
    by false h r = record {
      number = r.number;
      is = ap (λ b. if b then Some from else place_number place others (suc from)) h ∙ r.is;
      index = suc r.index;
      there = r.there;
      sum = (let x = r.sum in omega (arith, x));
    }

number-is : (place : Place) (places : List Place) (from n : ℕ) → place_number place places from ≡ Some n →
    (index : ℕ) × (slice_get places index ≡ Some place) × (n ≡ from + index)
number-is place [] from n e = absurd (none-some n e)
number-is place (other ∷ others) from n e = by (same_place place other) refl e (number-is place others (suc from) n)
  where
    by : (b : Bool) → same_place place other ≡ b →
        (if b then Some from else place_number place others (suc from)) ≡ Some n →
        (place_number place others (suc from) ≡ Some n →
        (index : ℕ) × (slice_get others index ≡ Some place) × (n ≡ suc from + index)) →
        (index : ℕ) × (slice_get (other ∷ others) index ≡ Some place) × (n ≡ from + index)
    by true h e again =
        let same : from ≡ n = (let x : Some from ≡ Some n = e in cc) in
        (0, ap Some (sym (same-places place other h)), (let z : n ≡ from + 0 = omega (arith, same) in z))
    by false h e again =
        let r = again e in
        (suc r.0, r.1, (let x = r.2 in let z : n ≡ from + suc r.0 = omega (arith, x) in z))

module _ (items : ItemTable) (bodies : ℕ) (body : Body) (ready : BodyIsReady items bodies body)
    (fine : (path : List ℕ) (given : List Bool) → IsPath items body path given → bad_uses_on items body path ≡ [])
    (flagged : List Place) (forest : PathForest) (is_forest : IsForest items body forest)
    (are_flagged : AreFlagged items body forest.paths flagged)
    (n : ℕ) (acts : List PathAction) (comes : Comes items body n acts) (facts : Facts)
    (are_facts : AreFacts items body forest.paths n facts) where
  abbrev paths : List Place
  paths = forest.paths

  abbrev IsAt : ℕ → Place → Type 0
  IsAt number q = slice_get paths number ≡ Some q

  is-path : (number : ℕ) (q : Place) → IsAt number q → is_path items body q ≡ true
  is-path number q e = (is_forest.each q).0 (Contains-slice_get paths number q e)

  -- ---- what the actions tell

  sunk : Sunken items body acts
  sunk = comes-sunken items body n acts fine comes

  may_be : (number : ℕ) (q : Place) → IsAt number q →
      possible facts (not (is_gone_after items body acts q)) number ≡ true
  may_be number q e = by (is_gone_after items body acts q) refl
    where
      by : (b : Bool) → is_gone_after items body acts q ≡ b → possible facts (not b) number ≡ true
      by true g = (are_facts.gone number q e).1 (acts, comes, g)
      by false g = (are_facts.present number q e).1 (acts, comes, g)

  all-uses : AllUses items body acts
  all-uses =
      let acts_there = actions_on body (comes.path ++ n ∷ []) in
      subst (AllUses items body) (sym comes.before_is)
      (before-uses acts_there (path-uses items body (comes.path ++ n ∷ [])))
    where
      before-uses : (xs : List PathAction) → AllUses items body xs → AllUses items body (before_last xs)
      before-uses [] a = tt
      before-uses (x ∷ []) a = tt
      before-uses (x ∷ y ∷ xs) a = (a.0, before-uses (y ∷ xs) a.1)

  -- steps that end by one are not those of a local
  no-local : (steps : List Step) (step : Step) → is_local (steps ++ step ∷ []) ≡ false
  no-local [] step = refl
  no-local (x ∷ steps) step = refl

  module _ (IsFlag : ℕ → Type 0) (holds : ℕ → Datum)
      (flags_tell : (k : ℕ) (q : Place) → slice_get flagged k ≡ Some q → IsFlag (flag_at items body flagged k)
      × (holds (flag_at items body flagged k) ≡ Truth (not (is_gone_after items body acts q)))) where
    flags : (number : ℕ) (q : Place) (flag : ℕ) → IsAt number q →
        flag_of items body flagged paths number ≡ Some flag → IsFlag flag
        × (holds flag ≡ Truth (not (is_gone_after items body acts q)))
    flags number q flag e f = by (place_number q flagged 0) refl
        (sym (ap (λ o. option_and_then (λ path. option_map_or (λ n. Some (flag_at items body flagged n))
        (place_number path flagged 0) None) o) e) ∙ f)
      where
        by : (o : Option ℕ) → place_number q flagged 0 ≡ o →
            option_map_or (λ n. Some (flag_at items body flagged n)) o None ≡ Some flag → IsFlag flag
            × (holds flag ≡ Truth (not (is_gone_after items body acts q)))
        by None h e = absurd (none-some flag e)
        by (Some k) h e =
            let r = number-is q flagged 0 k h in
            let index : r.0 ≡ k = (let x = r.2 in omega (arith, x)) in
            let flag_is : flag_at items body flagged k ≡ flag = (let x : Some (flag_at items body flagged k) ≡ Some
            flag =
            e in cc) in
            subst (λ f. IsFlag f × (holds f ≡ Truth (not (is_gone_after items body acts q)))) flag_is
            (flags_tell k q (subst (λ j. slice_get flagged j ≡ Some q) index r.1))

    abbrev TreeHere : Place → Tree → Type 0
    TreeHere q tree =
        TreeOf items body acts facts (flag_of items body flagged paths) IsFlag holds IsAt sunk may_be flags q tree

    abbrev BranchesHere : Place → Branches → Type 0
    BranchesHere q under =
        BranchesOf items body acts facts (flag_of items body flagged paths) IsFlag holds IsAt sunk may_be flags q under

    mutual
      tree-of : (q : Place) (tree : Tree) → nat_lt q.local (length body.locals) ≡ true →
          IsTree items body paths q tree → TreeHere q tree
      tree-of q (at_path number under) l t = (
        t.0,
        branches-of q under l t.1,
        λ step none. spared items body (below q (step ∷ [])) l (no-local q.steps step) (t.2 step none) acts all-uses,
      )

      branches-of : (q : Place) (under : Branches) → nat_lt q.local (length body.locals) ≡ true →
          AreBranches items body paths q under → BranchesHere q under
      branches-of q no_branch l t = tt
      branches-of q (a_branch step tree rest) l t =
          (tree-of (below q (step ∷ [])) tree l t.0, branches-of q rest l t.1)

    -- it is told along the tree
    pub told-tree : (q : Place) (tree : Tree) → nat_lt q.local (length body.locals) ≡ true →
        IsTree items body paths q tree →
        Told items facts (flag_of items body flagged paths) IsFlag holds
        (presence_along q.steps (present_after items body acts q.local)) tree
    told-tree q tree l t =
        told items body acts facts (flag_of items body flagged paths) IsFlag holds IsAt sunk may_be flags q tree
        (tree-of q tree l t)

  -- ---- types

  abbrev Typed : Place → TyId → Type 0
  Typed q id = place_id items body q ≡ Some id

  -- the type of a path one step below another
  step-typed : (q : Place) (step : Step) (id : TyId) → Typed q id → is_path items body (below q (step ∷ [])) ≡ true →
      (next : TyId) × (option_and_then (step_ty items step) (type_at items id) ≡ Some next)
      × Typed (below q (step ∷ [])) next
  step-typed q step id t h =
      let r = path-typed items body bodies ready (below q (step ∷ [])) h in
      let two : option_and_then (ty_along items (q.steps ++ step ∷ [])) (slice_get body.locals q.local)
      ≡ option_and_then (ty_along items (step ∷ [])) (option_and_then (ty_along items q.steps)
      (slice_get body.locals q.local)) = apart (slice_get body.locals q.local) in
      let along : option_and_then (ty_along items (step ∷ [])) (Some id) ≡ Some r.0 =
      sym (ap (option_and_then (ty_along items (step ∷ []))) t) ∙ sym two ∙ r.1 in
      let last : option_and_then (step_ty items step) (type_at items id) ≡ Some r.0 =
      sym (whole-step (option_and_then (step_ty items step) (type_at items id))) ∙ along in
      (r.0, last, r.1)
    where
      apart : (o : Option TyId) → option_and_then (ty_along items (q.steps ++ step ∷ [])) o
          ≡ option_and_then (ty_along items (step ∷ [])) (option_and_then (ty_along items q.steps) o)
      apart None = refl
      apart (Some start) = along-append items body q.steps (step ∷ []) start

      whole-step : (o : Option TyId) → option_and_then (ty_along items []) o ≡ o
      whole-step None = refl
      whole-step (Some x) = refl

  branch-path : (q : Place) (step : Step) (tree : Tree) → IsTree items body paths (below q (step ∷ [])) tree →
      is_path items body (below q (step ∷ [])) ≡ true
  branch-path q step (at_path number under) t = is-path number (below q (step ∷ [])) t.0

  mutual
    pub typed-tree : (q : Place) (tree : Tree) (id : TyId) → Typed q id → IsTree items body paths q tree →
        IsTyped items tree id
    typed-tree q (at_path number under) id y t = typed-branches q under id y t.1

    typed-branches : (q : Place) (under : Branches) (id : TyId) → Typed q id → AreBranches items body paths q under →
        AreTyped items under id
    typed-branches q no_branch id y t = tt
    typed-branches q (a_branch step tree rest) id y t =
        let s = step-typed q step id y (branch-path q step tree t.0) in (
          (s.0, s.1, typed-tree (below q (step ∷ [])) tree s.0 s.2 t.0),
          typed-branches q rest id y t.1,
        )

  -- ---- flags

  module _ (IsFlag : ℕ → Type 0) (holds : ℕ → Datum) (place : Place) (is_drop : IsDrop items body n place)
      (not_dead : IsDead items body n place → ⊥) (not_sure : IsSure items body n place → ⊥) where
    -- what has a `Drop` body lies on none of these steps
    abbrev Apart : List Step → Type 0
    Apart steps = (upper lower : List Step) (step : Step) (outer : TyId) → steps ≡ upper ++ step ∷ lower →
        Typed (below place upper) outer → has_drop_impl items outer ≡ false

    apart-more : (steps : List Step) (step : Step) (id : TyId) → Typed (below place steps) id →
        has_drop_impl items id ≡ false → Apart steps → Apart (steps ++ step ∷ [])
    apart-more steps step id t none a upper lower s outer e y = elim (last-split steps step upper s lower e) [
      | inl u ↦ (let same : Some id ≡ Some outer = sym t ∙ ap (λ l. place_id items body (below place l)) (sym u) ∙ y in
          let is : id ≡ outer = cc in subst (λ x. has_drop_impl items x ≡ false) is none)
      | inr u ↦ a upper u.0 s outer u.1 y
    ]

    has-flag : (number : ℕ) (q : Place) → IsAt number q → IsFlagged items body paths q →
        (flag : ℕ) × (flag_of items body flagged paths number ≡ Some flag)
    has-flag number q e f =
        let test = (are_flagged.exact q (Contains-slice_get paths number q e)).1 f in
        let kept = filtered are_flagged.test paths number q e test in
        let numbered = number-there q flagged 0 kept.0 (ap (λ l. slice_get l kept.0) are_flagged.those ∙ kept.1)
        (same-itself q) in (
          flag_at items body flagged numbered.number,
          ap (λ o. option_and_then (λ path. option_map_or (λ n. Some (flag_at items body flagged n))
              (place_number path flagged 0) None) o) e
              ∙ ap (λ o. option_map_or (λ n. Some (flag_at items body flagged n)) o None) numbered.is,
        )

    mutual
      flagged-tree : (q : Place) (steps : List Step) (tree : Tree) (id : TyId) → q ≡ below place steps → Typed q id →
          IsTree items body paths q tree → Apart steps →
          Flagged items facts (flag_of items body flagged paths) IsFlag holds tree id
      flagged-tree q steps (at_path number under) id is y t a = (
        λ needs present gone reads. has-flag number q t.0 (
          n,
          place,
          is_drop,
          record {
            not_dead = not_dead;
            not_sure = not_sure;
            steps = steps;
            path_is = is;
            number = number;
            under = under;
            tree = t;
            id = id;
            typed = y;
            needed = needs;
            reads = reads;
            apart = a;
            present = (are_facts.present number q t.0).0 present;
            gone = (are_facts.gone number q t.0).0 gone;
          },
        ),
        λ none. flagged-branches q steps under id is y t.1 none a,
      )

      flagged-branches : (q : Place) (steps : List Step) (under : Branches) (id : TyId) → q ≡ below place steps →
          Typed q id → AreBranches items body paths q under → has_drop_impl items id ≡ false → Apart steps →
          BelowFlagged items facts (flag_of items body flagged paths) IsFlag holds under id
      flagged-branches q steps no_branch id is y t none a = tt
      flagged-branches q steps (a_branch step tree rest) id is y t none a =
          let s = step-typed q step id y (branch-path q step tree t.0) in (
            subst (Flagged items facts (flag_of items body flagged paths) IsFlag holds tree)
                (sym (ap (λ o. unwrap_or o id) s.1))
                (flagged-tree (below q (step ∷ [])) (steps ++ step ∷ []) tree s.0
                (ap (λ x. below x (step ∷ [])) is
                ∙ ap (λ l. record { local = place.local; steps = l }) (append_assoc place.steps steps (step ∷ [])))
                s.2 t.0
                (apart-more steps step id (subst (λ x. Typed x id) is y) none a)),
            flagged-branches q steps rest id is y t.1 none a,
          )

    -- each path has a flag wherever the plan reads one
    pub flagged-place : (tree : Tree) (id : TyId) → Typed place id → IsTree items body paths place tree →
        Flagged items facts (flag_of items body flagged paths) IsFlag holds tree id
    flagged-place tree id y t =
        flagged-tree place [] tree id (ap (λ l. record { local = place.local; steps = l }) (sym (no-more
        place.steps))) y t
        (λ upper lower step outer e z. absurd (none upper lower step e))
      where
        no-more : (l : List Step) → l ++ [] ≡ l
        no-more [] = refl
        no-more (x ∷ l) = ap (λ l. x ∷ l) (no-more l)

        none : (upper lower : List Step) (step : Step) → [] ≡ upper ++ step ∷ lower → ⊥
        none [] lower step e = absurd (let z : [] ≡ step ∷ lower = e in cc)
        none (x ∷ upper) lower step e = absurd (let z : [] ≡ x ∷ (upper ++ step ∷ lower) = e in cc)
