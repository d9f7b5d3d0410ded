-- What each action of a path may rely on, where the path meets no bad use and takes nothing that a reference names
-- which is used later: what it reads is there, and a reference through which it goes is made and lives.
use Rattle.std.proofs.Common.{◌≡◌, ◌⊎◌, inl, inr, ℕ, ◌==◌, ◌&&◌, ◌||◌, not, Bool, true, false, List, [], ◌∷◌, ◌++◌, map, Option, Some, None, if◌then◌else◌, cond, refl, ap, sym, ◌∙◌, subst, append_assoc}
use Rattle.std.specs.Prelude.{unwrap_or}
use Rattle.std.specs.List.{list_any, list_all}
use Rattle.std.specs.Option.{option_or}
use Rattle.std.specs.Cmp.{first_so, second_so}
use Rattle.std.proofs.lemmas.Bool.{false≢true}
use Rattle.std.proofs.lemmas.List.{append-nil}
use Rattle.std.proofs.lemmas.List.Sums.{take_while-cons}
use Rattle.std.proofs.lemmas.Option.{none-some}
use Rattle.mir_ty.specs.ItemTable.{ItemTable}
use Rattle.cfg_graph.specs.declared.graph.Body.{Body}
use Rattle.cfg_graph.specs.Moves.BadUses.{UseRule, U1, U2, if_bad, may_not_read, may_not_store, checked, bad_after}
use Rattle.cfg_graph.specs.Moves.Gone.{PathAction, leaves_gone, are_first, containers, has_index, counts, left_by, last_left, is_param, is_gone_after, is_whole_after, IsWholeAfter, container_gone_after, array_broken_after}
use Rattle.cfg_graph.specs.NamedPlaces.{same_place, references_made, named_by, stores, makes, uses, of_line, spares, keeps_named}
use Rattle.cfg_graph.specs.Uses.{PlaceUse, Copies, Moves, Borrows, Touches, Tests, Stores, Drops, Frees}
use Rattle.cfg_graph.proofs.WholePlaces.{wholeness_is_tested}
use Rattle.store_model.specs.Places.Place.{Step, Place, whole_local, before_element}
use Rattle.drop_elaborate.proofs.SinceMade.{all-first, all-second, since_from, since, IsSpared, IsLive, spared-at-use}

either-no : (a b : Bool) → (a || b) ≡ false → (a ≡ false) × (b ≡ false)
either-no false b h = (refl, h)
either-no true b h = absurd (false≢true (sym h))

not-no : (b : Bool) → not b ≡ false → b ≡ true
not-no true h = refl
not-no false h = absurd (false≢true (sym h))

pub first-none : {A : Type 0} (xs ys : List A) → xs ++ ys ≡ [] → xs ≡ []
first-none [] ys e = refl
first-none (x ∷ xs) ys e = absurd (let n : x ∷ (xs ++ ys) ≡ [] = e in cc)

pub second-none : {A : Type 0} (xs ys : List A) → xs ++ ys ≡ [] → ys ≡ []
second-none [] ys e = e
second-none (x ∷ xs) ys e = absurd (let n : x ∷ (xs ++ ys) ≡ [] = e in cc)

module _ (items : ItemTable) (body : Body) where
  -- These actions are done, and those are still to come: none of them is bad, and at each use of a reference nothing
  -- has been taken that it names since it was made.
  pub record Follows (acts rest : List PathAction) : Type 0 where
    pub fine : bad_after items body acts rest ≡ []
    pub keeps : (r : ℕ) (xs ys : List PathAction) (action : PathAction) → rest ≡ xs ++ action ∷ ys →
        uses body r action ≡ true → (l : List PathAction) → since body r (acts ++ xs) ≡ Some l →
        list_all (spares body r) (l ++ action ∷ of_line body action ys) ≡ true

  -- so it is on a path
  pub follows-so : (acts rest : List PathAction) → bad_after items body acts rest ≡ [] →
      ((r : ℕ) → keeps_named body (acts ++ rest) r ≡ true) → Follows acts rest
  follows-so acts rest fine kept = record {
    fine = fine;
    keeps = λ r xs ys action e u l s.
        spared-at-use body r (acts ++ xs) ys action
        (subst (λ k. keeps_named body k r ≡ true) (ap (λ k. acts ++ k) e ∙ sym (append_assoc acts xs (action ∷ ys)))
        (kept r)) u l s;
  }

  later-fine : (acts xs rest : List PathAction) → bad_after items body acts (xs ++ rest) ≡ [] →
      bad_after items body (acts ++ xs) rest ≡ []
  later-fine acts [] rest h = subst (λ l. bad_after items body l rest ≡ []) (sym (no_more acts)) h
    where
      no_more : (l : List PathAction) → l ++ [] ≡ l
      no_more [] = refl
      no_more (x ∷ l) = ap (λ l. x ∷ l) (no_more l)
  later-fine acts (x ∷ xs) rest h =
      subst (λ l. bad_after items body l rest ≡ []) (append_assoc acts (x ∷ []) xs)
      (later-fine (acts ++ x ∷ []) xs rest
      (second-none (checked items body acts x x.how) (bad_after items body (acts ++ x ∷ []) (xs ++ rest)) h))

  -- after some more of them
  pub follows-later : (acts xs rest : List PathAction) → Follows acts (xs ++ rest) → Follows (acts ++ xs) rest
  follows-later acts xs rest f = record {
    fine = later-fine acts xs rest f.fine;
    keeps = λ r zs ys action e u l s.
        f.keeps r (xs ++ zs) ys action (ap (λ k. xs ++ k) e ∙ sym (append_assoc xs zs (action ∷ ys))) u l
        (subst (λ k. since body r k ≡ Some l) (append_assoc acts xs zs) s);
  }

  module _ (acts : List PathAction) (action : PathAction) (rest : List PathAction) (f : Follows acts (action ∷ rest))
    where
      -- it is no bad use
      pub is-fine : checked items body acts action action.how ≡ []
      is-fine = first-none (checked items body acts action action.how) (bad_after items body (acts ++ action ∷ []) rest)
          f.fine

      bad-not : (b : Bool) (rule : UseRule) → if_bad items body b rule action ≡ [] → b ≡ false
      bad-not false rule e = refl
      bad-not true rule e = absurd (let n : (record { rule = rule; action = action }) ∷ [] ≡ [] = e in cc)

      -- what is read is there
      pub record ReadsWell : Type 0 where
        pub whole : IsWholeAfter items body acts action.place
        pub containers : container_gone_after items body acts action.place ≡ false
        pub array : array_broken_after items body acts action.place ≡ false

      abbrev pub IsRead : PlaceUse → Type 0
      IsRead Copies = Unit {0}
      IsRead Moves = Unit {0}
      IsRead Borrows = Unit {0}
      IsRead Touches = Unit {0}
      IsRead Tests = ⊥
      IsRead Stores = ⊥
      IsRead Drops = ⊥
      IsRead Frees = ⊥

      read-so : (how : PlaceUse) → IsRead how → checked items body acts action how ≡ [] →
          may_not_read items body acts action.place ≡ false
      read-so Copies i h = bad-not (may_not_read items body acts action.place) U1 h
      read-so Moves i h = bad-not (may_not_read items body acts action.place) U1 h
      read-so Borrows i h = bad-not (may_not_read items body acts action.place) U1 h
      read-so Touches i h = bad-not (may_not_read items body acts action.place) U1 h
      read-so Tests i h = absurd i
      read-so Stores i h = absurd i
      read-so Drops i h = absurd i
      read-so Frees i h = absurd i

      pub reads-well : IsRead action.how → ReadsWell
      reads-well i =
          let o = either-no (not (is_whole_after items body acts action.place)
          || container_gone_after items body acts action.place) (array_broken_after items body acts action.place)
          (read-so action.how i is-fine) in
          let p = either-no (not (is_whole_after items body acts action.place))
          (container_gone_after items body acts action.place) o.0 in record {
            whole = (wholeness_is_tested items body acts action.place).0 (not-no (is_whole_after items body acts
                action.place)
                p.0);
            containers = p.1;
            array = o.1;
          }

      -- what is stored into, or dropped, has its containers
      pub record HasContainers : Type 0 where
        pub containers : container_gone_after items body acts action.place ≡ false
        pub array : array_broken_after items body acts action.place ≡ false

      abbrev pub IsFilled : PlaceUse → Type 0
      IsFilled Copies = ⊥
      IsFilled Moves = ⊥
      IsFilled Borrows = ⊥
      IsFilled Touches = ⊥
      IsFilled Tests = ⊥
      IsFilled Stores = Unit {0}
      IsFilled Drops = Unit {0}
      IsFilled Frees = ⊥

      filled-so : (how : PlaceUse) → IsFilled how → checked items body acts action how ≡ [] →
          may_not_store items body acts action.place ≡ false
      filled-so Stores i h = bad-not (may_not_store items body acts action.place) U2 h
      filled-so Drops i h = bad-not (may_not_store items body acts action.place) U2 h
      filled-so other i h = absurd i

      pub has-containers : IsFilled action.how → HasContainers
      has-containers i =
          let o = either-no (container_gone_after items body acts action.place)
          (array_broken_after items body acts action.place) (filled-so action.how i is-fine) in
          record { containers = o.0; array = o.1 }

  -- the local of a place whose containers are there
  pub local-there : (acts : List PathAction) (place : Place) (step : Step) (steps : List Step) →
      place.steps ≡ step ∷ steps → container_gone_after items body acts place ≡ false →
      is_gone_after items body acts (whole_local place.local) ≡ false
  local-there acts place step steps e h =
      (either-no (is_gone_after items body acts (whole_local place.local))
      (list_any (λ outer. is_gone_after items body acts (record { local = place.local; steps = outer }))
      (map (λ outer. step ∷ outer) (containers steps)))
      (ap (λ l. list_any (λ outer. is_gone_after items body acts (record { local = place.local; steps = outer }))
      (containers l)) (sym e) ∙ h)).0

  -- the array of which an element is taken is whole
  pub array-there : (acts : List PathAction) (place : Place) → has_index place.steps ≡ true →
      array_broken_after items body acts place ≡ false →
      IsWholeAfter items body acts (record { local = place.local; steps = before_element place.steps })
  array-there acts place i h =
      (wholeness_is_tested items body acts (record { local = place.local; steps = before_element place.steps })).0
      (not-no (is_whole_after items body acts (record { local = place.local; steps = before_element place.steps }))
      (ap (λ b. b && not (is_whole_after items body acts
      (record { local = place.local; steps = before_element place.steps }))) (sym i) ∙ h))

  -- ---- references

  -- the local of a reference that was not made is gone
  some-since : (r : ℕ) (l : List PathAction) (later : List PathAction) → since_from body r (Some l) later ≡ None → ⊥
  some-since r l [] e = none-some l (sym e)
  some-since r l (action ∷ later) e = by (makes body r action) e (λ l e. some-since r l later e)
    where
      by : (b : Bool) → since_from body r (if b then Some [] else Some (l ++ action ∷ [])) later ≡ None →
          ((l : List PathAction) → since_from body r (Some l) later ≡ None → ⊥) → ⊥
      by true e again = again [] e
      by false e again = again (l ++ action ∷ []) e

  abbrev NotStored : Option Bool → Type 0
  NotStored o = (o ≡ None) ⊎ (o ≡ Some true)

  one-left : (r : ℕ) (action : PathAction) → makes body r action ≡ false →
      NotStored (left_by items body (whole_local r) action)
  one-left r action m = by (counts items body action.place) (action.place.local == r) refl action.place.steps refl
      action.how refl
    where
      stored-in : (l : Bool) → (action.place.local == r) ≡ l → (steps : List Step) → action.place.steps ≡ steps →
          action.how ≡ Stores → NotStored (if l && are_first steps [] then Some false else None)
      stored-in false el steps es eh = inl refl
      stored-in true el [] es eh =
          absurd (false≢true (sym m ∙ ap (λ how. stores body how && same_place action.place (whole_local r)) eh
          ∙ ap (λ l. l && are_first action.place.steps [] && are_first [] action.place.steps) el
          ∙ ap (λ steps. are_first steps [] && are_first [] steps) es))
      stored-in true el (step ∷ steps) es eh = inl refl

      pick : (b : Bool) → NotStored (if b then Some true else None)
      pick true = inr refl
      pick false = inl refl

      none : (b : Bool) → NotStored (if b then None else None)
      none true = inl refl
      none false = inl refl

      by : (c l : Bool) → (action.place.local == r) ≡ l → (steps : List Step) → action.place.steps ≡ steps →
          (how : PlaceUse) → action.how ≡ how →
          NotStored (if c && (l && are_first steps []) then leaves_gone how else None)
      by false l el steps es how eh = inl refl
      by true l el steps es Copies eh = none (l && are_first steps [])
      by true l el steps es Moves eh = pick (l && are_first steps [])
      by true l el steps es Borrows eh = none (l && are_first steps [])
      by true l el steps es Touches eh = none (l && are_first steps [])
      by true l el steps es Tests eh = none (l && are_first steps [])
      by true l el steps es Stores eh = stored-in l el steps es eh
      by true l el steps es Drops eh = pick (l && are_first steps [])
      by true l el steps es Frees eh = pick (l && are_first steps [])

  unmade-left : (r : ℕ) (acts : List PathAction) → since body r acts ≡ None →
      NotStored (last_left items body (whole_local r) acts)
  unmade-left r [] e = inl refl
  unmade-left r (action ∷ later) e = by (makes body r action) refl e (λ e. unmade-left r later e)
    where
      either : (o p : Option Bool) → NotStored o → NotStored p → NotStored (option_or o p)
      either None p a b = b
      either (Some x) p a b = a

      by : (b : Bool) → makes body r action ≡ b →
          since_from body r (if b then Some [] else None) later ≡ None →
          (since body r later ≡ None → NotStored (last_left items body (whole_local r) later)) →
          NotStored (option_or (last_left items body (whole_local r) later)
          (left_by items body (whole_local r) action))
      by true m e again = absurd (some-since r [] later e)
      by false m e again = either (last_left items body (whole_local r) later) (left_by items body (whole_local r)
          action)
          (again e) (one-left r action m)

  pub unmade-gone : (r : ℕ) (acts : List PathAction) → since body r acts ≡ None → is_param items body r ≡ false →
      is_gone_after items body acts (whole_local r) ≡ true
  unmade-gone r acts e p = by (last_left items body (whole_local r) acts) (unmade-left r acts e)
    where
      by : (o : Option Bool) → NotStored o → unwrap_or o (not (is_param items body r)) ≡ true
      by o (inl n) = ap (λ o. unwrap_or o (not (is_param items body r))) n ∙ ap not p
      by o (inr n) = ap (λ o. unwrap_or o (not (is_param items body r))) n

  -- a reference that is used lives, if its local is there
  pub live-at : (no_param : (r : ℕ) (q : Place) → named_by r (references_made body) ≡ Some q →
      is_param items body r ≡ false) → (acts : List PathAction) (action : PathAction) (rest : List PathAction) →
      Follows acts (action ∷ rest) → uses body action.place.local action ≡ true →
      is_gone_after items body acts (whole_local action.place.local) ≡ false → IsLive body acts action.place.local
  live-at no_param acts action rest f used there =
      by (named_by action.place.local (references_made body)) refl (since body action.place.local acts) refl
    where
      r : ℕ
      r = action.place.local

      by : (o : Option Place) → named_by action.place.local (references_made body) ≡ o → (s : Option (List
          PathAction)) →
          since body action.place.local acts ≡ s → IsLive body acts action.place.local
      by None e s es = inl e
      by (Some q) e None es =
          absurd (false≢true (sym there ∙ unmade-gone action.place.local acts es (no_param action.place.local q e)))
      by (Some q) e (Some l) es =
          inr (subst (IsSpared body action.place.local) (sym es)
          (all-first (spares body action.place.local) l (action ∷ of_line body action rest)
          (f.keeps action.place.local [] rest action refl used l
          (subst (λ k. since body action.place.local k ≡ Some l) (sym (append-nil acts)) es))))

  -- and no other operand of its line takes what it names
  pub line-spares : (r : ℕ) (acts : List PathAction) (action : PathAction) (line rest : List PathAction) →
      Follows acts (action ∷ (line ++ rest)) → uses body r action ≡ true → IsLive body acts r →
      list_all (λ a. (a.block == action.block) && (a.line == action.line)) line ≡ true →
      (named_by r (references_made body) ≡ None) ⊎ (list_all (spares body r) line ≡ true)
  line-spares r acts action line rest f used live same = by live (since body r acts) refl
    where
      of-line : (line : List PathAction) →
          list_all (λ a. (a.block == action.block) && (a.line == action.line)) line ≡ true →
          (more : List PathAction) × (of_line body action (line ++ rest) ≡ line ++ more)
      of-line [] h = (of_line body action rest, refl)
      of-line (a ∷ line) h =
          let here = first_so ((a.block == action.block) && (a.line == action.line))
          (list_all (λ a. (a.block == action.block) && (a.line == action.line)) line) h in
          let r = of-line line (second_so ((a.block == action.block) && (a.line == action.line))
          (list_all (λ a. (a.block == action.block) && (a.line == action.line)) line) h) in (
            r.0,
            take_while-cons (λ (x : PathAction). (x.block == action.block) && (x.line == action.line)) a (line ++ rest)
                ∙ ap (λ b. cond b (a ∷ of_line body action (line ++ rest)) []) here ∙ ap (λ l. a ∷ l) r.1,
          )

      by : IsLive body acts r → (s : Option (List PathAction)) → since body r acts ≡ s →
          (named_by r (references_made body) ≡ None) ⊎ (list_all (spares body r) line ≡ true)
      by (inl none) s es = inl none
      by (inr spared) None es = absurd (subst (IsSpared body r) es spared)
      by (inr spared) (Some l) es =
          let h = f.keeps r [] (line ++ rest) action refl used l
          (subst (λ k. since body r k ≡ Some l) (sym (append-nil acts)) es) in
          let o = of-line line same in
          inr (all-first (spares body r) line o.0
          (subst (λ x. list_all (spares body r) x ≡ true) o.1
          (second_so (spares body r action) (list_all (spares body r) (of_line body action (line ++ rest)))
          (all-second (spares body r) l (action ∷ of_line body action (line ++ rest)) h))))
