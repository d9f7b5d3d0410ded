-- Where no use is bad, all is gone below what is gone: nothing is stored where a container is gone.
use Rattle.std.proofs.Common.{◌≡◌, ℕ, ◌==◌, ◌&&◌, ◌||◌, Bool, true, false, List, [], ◌∷◌, ◌++◌, map, Option, Some, None, if◌then◌else◌, refl, ap, sym, ◌∙◌, subst, append_assoc}
use Rattle.std.specs.List.{list_any}
use Rattle.std.specs.Cmp.{first_so, second_so}
use Rattle.std.proofs.lemmas.Bool.{false≢true}
use Rattle.std.proofs.lemmas.Bool.Decides.{Decides-eqb}
use Rattle.mir_ty.specs.ItemTable.{ItemTable}
use Rattle.store_model.specs.Places.Place.{Step, same_step, Place}
use Rattle.cfg_graph.specs.declared.graph.Body.{Body}
use Rattle.cfg_graph.specs.Moves.Actions.{actions_on}
use Rattle.cfg_graph.specs.Moves.BadUses.{UseRule, U2, if_bad, checked, bad_after, bad_uses_on}
use Rattle.cfg_graph.specs.Moves.Gone.{PathAction, leaves_gone, are_first, below, containers, counts, left_by, is_gone_after, container_gone_after, array_broken_after}
use Rattle.cfg_graph.specs.Moves.Paths.{IsPath}
use Rattle.cfg_graph.specs.Uses.{PlaceUse, Copies, Moves, Borrows, Touches, Tests, Stores, Drops, Frees}
use Rattle.drop_values.proofs.Steps.{same_step-sound}
use Rattle.drop_elaborate.proofs.FlagStores.{gone-kept, gone-left}
use Rattle.drop_elaborate.proofs.Telling.{wider}
use Rattle.drop_elaborate.specs.Kinds.{before_last, Comes}

any-map : {A B : Type 0} (f : A → B) (test : B → Bool) (xs : List A) → list_any test (map f xs) ≡ list_any
    (λ x. test (f x)) xs
any-map f test [] = refl
any-map f test (x ∷ xs) = ap (λ b. test (f x) || b) (any-map f test xs)

or-first : (a b : Bool) → a ≡ true → (a || b) ≡ true
or-first true b e = refl
or-first false b e = absurd (false≢true e)

or-second : (a b : Bool) → b ≡ true → (a || b) ≡ true
or-second true b e = refl
or-second false b e = e

first-no : (a b : Bool) → (a || b) ≡ false → a ≡ false
first-no true b e = absurd (false≢true (sym e))
first-no false b e = refl

-- steps that lead to the end of these, one further than others, go through the end of those
through : (upper lower : List Step) (step : Step) (test : List Step → Bool) → are_first upper
    (lower ++ step ∷ []) ≡ true → are_first upper lower ≡ false → test lower ≡ true →
    list_any test (containers upper) ≡ true
through [] lower step test h n t = absurd (false≢true (sym n))
through (x ∷ xs) [] step test h n t = or-first (test []) (list_any test (map (λ outer. x ∷ outer) (containers xs))) t
through (x ∷ xs) (y ∷ ys) step test h n t =
    let s = first_so (same_step x y) (are_first xs (ys ++ step ∷ [])) h in
    or-second (test []) (list_any test (map (λ outer. x ∷ outer) (containers xs)))
    (any-map (λ (outer : List Step). x ∷ outer) test (containers xs)
    ∙ through xs ys step (λ outer. test (x ∷ outer)) (second_so (same_step x y) (are_first xs (ys ++ step ∷ [])) h)
    (sym (ap (λ b. b && are_first xs ys) s) ∙ n)
    (subst (λ z. test (z ∷ ys) ≡ true) (sym (same_step-sound x y s)) t))

nothing-first : {A : Type 0} (xs ys : List A) → xs ++ ys ≡ [] → xs ≡ []
nothing-first [] ys e = refl
nothing-first (x ∷ xs) ys e = absurd (let n : x ∷ (xs ++ ys) ≡ [] = e in cc)

nothing-second : {A : Type 0} (xs ys : List A) → xs ++ ys ≡ [] → ys ≡ []
nothing-second [] ys e = e
nothing-second (x ∷ xs) ys e = absurd (let n : x ∷ (xs ++ ys) ≡ [] = e in cc)

abbrev last_of : List PathAction → List PathAction
last_of [] = []
last_of (action ∷ []) = action ∷ []
last_of (action ∷ next ∷ later) = last_of (next ∷ later)

before-last : (acts : List PathAction) → before_last acts ++ last_of acts ≡ acts
before-last [] = refl
before-last (action ∷ []) = refl
before-last (action ∷ next ∷ later) = ap (λ xs. action ∷ xs) (before-last (next ∷ later))

module _ (items : ItemTable) (body : Body) where
  abbrev gone : List PathAction → Place → Bool
  gone acts place = is_gone_after items body acts place

  -- below what is gone all is gone
  abbrev pub Sunken : List PathAction → Type 0
  Sunken acts = (q : Place) (step : Step) → gone acts q ≡ true → gone acts (below q (step ∷ [])) ≡ true

  not_bad : (b : Bool) (rule : UseRule) (action : PathAction) → if_bad items body b rule action ≡ [] → b ≡ false
  not_bad true rule action e = absurd (let n : (record { rule = rule; action = action }) ∷ [] ≡ [] = e in cc)
  not_bad false rule action e = refl

  stored_where : (acts : List PathAction) (action : PathAction) (how : PlaceUse) → leaves_gone how ≡ Some false →
      checked items body acts action how ≡ [] → container_gone_after items body acts action.place ≡ false
  stored_where acts action Copies e h = absurd (let n : None ≡ Some false = e in cc)
  stored_where acts action Moves e h = absurd (let n : Some true ≡ Some false = e in let m : true ≡ false =
      cc in false≢true (sym m))
  stored_where acts action Borrows e h = absurd (let n : None ≡ Some false = e in cc)
  stored_where acts action Touches e h = absurd (let n : None ≡ Some false = e in cc)
  stored_where acts action Tests e h = absurd (let n : None ≡ Some false = e in cc)
  stored_where acts action Stores e h = first-no (container_gone_after items body acts action.place)
      (array_broken_after items body acts action.place)
      (not_bad (container_gone_after items body acts action.place || array_broken_after items body acts action.place)
      U2 action h)
  stored_where acts action Drops e h = absurd (let n : Some true ≡ Some false = e in let m : true ≡ false =
      cc in false≢true (sym m))
  stored_where acts action Frees e h = absurd (let n : Some true ≡ Some false = e in let m : true ≡ false =
      cc in false≢true (sym m))

  abbrev left_if : (counted here way : Bool) → Option Bool → Option Bool
  left_if counted here way o = if counted && (here && way) then o else None

  sunk-one : (acts : List PathAction) (action : PathAction) → Sunken acts →
      checked items body acts action action.how ≡ [] → Sunken (acts ++ action ∷ [])
  sunk-one acts action sunk fine q step g =
      by (counts items body action.place) refl (action.place.local == q.local) refl
      (are_first action.place.steps q.steps) refl (are_first action.place.steps (q.steps ++ step ∷ [])) refl
      (leaves_gone action.how) refl
    where
      lower : Place
      lower = below q (step ∷ [])

      left_upper : (c l w : Bool) (o : Option Bool) → counts items body action.place ≡ c →
          (action.place.local == q.local) ≡ l → are_first action.place.steps q.steps ≡ w → leaves_gone action.how ≡ o →
          left_by items body q action ≡ left_if c l w o
      left_upper c l w o ec el ew eo = (λ i. left_if (ec i) (el i) (ew i) (eo i))

      left_lower : (c l w : Bool) (o : Option Bool) → counts items body action.place ≡ c →
          (action.place.local == q.local) ≡ l → are_first action.place.steps (q.steps ++ step ∷ []) ≡ w →
          leaves_gone action.how ≡ o → left_by items body lower action ≡ left_if c l w o
      left_lower c l w o ec el ew eo = (λ i. left_if (ec i) (el i) (ew i) (eo i))

      -- neither is changed
      kept : left_by items body q action ≡ None → left_by items body lower action ≡ None →
          gone (acts ++ action ∷ []) lower ≡ true
      kept a b = gone-kept items body acts action lower b ∙ sunk q step (sym (gone-kept items body acts action q a) ∙ g)

      both : (o : Option Bool) → left_by items body q action ≡ o → left_by items body lower action ≡ o →
          gone (acts ++ action ∷ []) lower ≡ true
      both None a b = kept a b
      both (Some x) a b = gone-left items body acts action lower x b ∙ sym (gone-left items body acts action q x a) ∙ g

      by : (c : Bool) → counts items body action.place ≡ c → (l : Bool) → (action.place.local == q.local) ≡ l →
          (u : Bool) → are_first action.place.steps q.steps ≡ u → (w : Bool) → are_first action.place.steps
          (q.steps ++ step ∷ []) ≡ w →
          (o : Option Bool) → leaves_gone action.how ≡ o → gone (acts ++ action ∷ []) lower ≡ true
      by false ec l el u eu w ew o eo = kept (left_upper false l u o ec el eu eo) (left_lower false l w o ec el ew eo)
      by true ec false el u eu w ew o eo = kept (left_upper true false u o ec el eu eo)
          (left_lower true false w o ec el ew eo)
      by true ec true el true eu true ew o eo = both o (left_upper true true true o ec el eu eo)
          (left_lower true true true o ec el ew eo)
      by true ec true el true eu false ew o eo = absurd
          (false≢true (sym ew ∙ wider action.place.steps q.steps (step ∷ []) eu))
      by true ec true el false eu false ew o eo = kept (left_upper true true false o ec el eu eo)
          (left_lower true true false o ec el ew eo)
      by true ec true el false eu true ew None eo = kept (left_upper true true false None ec el eu eo)
          (left_lower true true true None ec el ew eo)
      by true ec true el false eu true ew (Some true) eo = gone-left items body acts action lower true
          (left_lower true true true (Some true) ec el ew eo)
      by true ec true el false eu true ew (Some false) eo =
          absurd (false≢true (sym (stored_where acts action action.how eo fine)
          ∙ through action.place.steps q.steps step
          (λ outer. gone acts (record { local = action.place.local; steps = outer })) ew eu
          (ap (λ n. gone acts (record { local = n; steps = q.steps })) ((Decides-eqb action.place.local q.local).0 el)
          ∙ (sym (gone-kept items body acts action q (left_upper true true false (Some false) ec el eu eo)) ∙ g))))

  -- after the first of some actions, of which none is bad
  sunk-more : (earlier now later : List PathAction) → Sunken earlier → bad_after items body earlier
      (now ++ later) ≡ [] → Sunken (earlier ++ now)
  sunk-more earlier [] later sunk fine = subst Sunken (sym (right earlier)) sunk
    where
      right : (xs : List PathAction) → xs ++ [] ≡ xs
      right [] = refl
      right (x ∷ xs) = ap (λ ys. x ∷ ys) (right xs)
  sunk-more earlier (action ∷ now) later sunk fine =
      subst Sunken (append_assoc earlier (action ∷ []) now)
      (sunk-more (earlier ++ action ∷ []) now later
      (sunk-one earlier action sunk (nothing-first (checked items body earlier action action.how)
      (bad_after items body (earlier ++ action ∷ []) (now ++ later)) fine))
      (nothing-second (checked items body earlier action action.how)
      (bad_after items body (earlier ++ action ∷ []) (now ++ later)) fine))

  -- the premise of what is told along the tree of paths
  pub sunken : (now later : List PathAction) → bad_after items body [] (now ++ later) ≡ [] → Sunken now
  sunken now later fine = sunk-more [] now later (λ q step g. g) fine

  -- where a path comes to a drop, if no path meets a bad use
  pub comes-sunken : (n : ℕ) (before : List PathAction) →
      ((path : List ℕ) (given : List Bool) → IsPath items body path given → bad_uses_on items body path ≡ []) →
      Comes items body n before → Sunken before
  comes-sunken n before fine c =
      let acts = actions_on body (c.path ++ n ∷ []) in
      subst Sunken (sym c.before_is) (sunken (before_last acts) (last_of acts)
      (subst (λ x. bad_after items body [] x ≡ []) (sym (before-last acts))
      (fine (c.path ++ n ∷ []) c.given c.is_path)))
