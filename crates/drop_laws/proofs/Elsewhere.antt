-- A place that is no path, where a drop of it comes: all of it is there, for what contains it is.
use Rattle.std.proofs.Common.{◌≡◌, ◌⊎◌, inl, inr, ◌∙◌, ◌∷◌, [], ◌++◌, ℕ, Bool, true, false, ◌||◌, List, Option, Some, length, map, slice_get, refl, sym, ap, subst, append_assoc, append-nil}
use Rattle.std.specs.Prelude.{option_and_then}
use Rattle.std.specs.List.{list_any}
use Rattle.std.specs.Option.{option_map_or}
use Rattle.std.proofs.lemmas.Bool.{false≢true}
use Rattle.mir_ty.specs.declared.ty.TyId.{TyId}
use Rattle.mir_ty.specs.ItemTable.{ItemTable, type_at}
use Rattle.cfg_graph.specs.declared.graph.Block.{Block}
use Rattle.cfg_graph.specs.declared.graph.Body.{Body}
use Rattle.cfg_graph.specs.declared.place.Place as graph
use Rattle.cfg_graph.specs.declared.terminator.Term.{Term}
use Rattle.cfg_graph.specs.declared.terminator.Unwind.{Unwind}
use Rattle.cfg_graph.specs.Moves.Actions.{at_line, stmt_actions, block_actions, actions_in, actions_between, actions_on}
use Rattle.cfg_graph.specs.Moves.BadUses.{UseRule, U2, if_bad, checked, bad_after, bad_uses_on}
use Rattle.cfg_graph.specs.Moves.Gone.{PathAction, below, containers, counts, reaches_whole, is_gone_after, container_gone_after, array_broken_after}
use Rattle.cfg_graph.specs.Moves.Paths.{IsPath}
use Rattle.cfg_graph.specs.Places.{named}
use Rattle.cfg_graph.specs.Uses.{Drops, term_uses}
use Rattle.store_model.specs.Places.Place.{Step, ToPart, ToField, ToContent, ToElement, Place, is_reference, content_of, step_ty, watched, watched_content}
use Rattle.drop_elaborate.proofs.PathSpares.{unwatched-spared}
use Rattle.drop_elaborate.specs.Kinds.{before_last, Comes, IsSure}
use Rattle.drop_elaborate.proofs.Telling.{Spared}
use Rattle.drop_laws.proofs.BelowPaths.{below-step}
use Rattle.drop_laws.proofs.PathPlaces.{there-below}

first-none : {A : Type 0} (xs ys : List A) → xs ++ ys ≡ [] → xs ≡ []
first-none [] ys e = refl
first-none (x ∷ xs) ys e = absurd (let n : x ∷ (xs ++ ys) ≡ [] = e in cc)

second-none : {A : Type 0} (xs ys : List A) → xs ++ ys ≡ [] → ys ≡ []
second-none [] ys e = e
second-none (x ∷ xs) ys e = absurd (let n : x ∷ (xs ++ ys) ≡ [] = e in cc)

off-left : (a b : Bool) → (a || b) ≡ false → a ≡ false
off-left true b h = absurd (false≢true (sym h))
off-left false b h = refl

off-right : (a b : Bool) → (a || b) ≡ false → b ≡ false
off-right true b h = absurd (false≢true (sym h))
off-right false b h = h

-- the steps before the last
abbrev Snoc : List Step → Type 0
Snoc l = (upper : List Step) × (last : Step) × (l ≡ upper ++ last ∷ [])

snoc-of : (l : List Step) → (l ≡ []) ⊎ Snoc l
snoc-of [] = inl refl
snoc-of (step ∷ l) = elim (snoc-of l) [
  | inl none ↦ inr ([], step, ap (λ z. step ∷ z) none)
  | inr it ↦ inr (step ∷ it.0, it.1, ap (λ z. step ∷ z) it.2)
]

any-map : {A B : Type 0} (f : A → B) (test : B → Bool) (xs : List A) →
    list_any test (map f xs) ≡ list_any (λ x. test (f x)) xs
any-map f test [] = refl
any-map f test (x ∷ xs) = ap (λ b. test (f x) || b) (any-map f test xs)

-- the container just above the end of steps is among the containers
upper-container : (upper : List Step) (last : Step) (test : List Step → Bool) →
    list_any test (containers (upper ++ last ∷ [])) ≡ false → test upper ≡ false
upper-container [] last test h = off-left (test []) _ h
upper-container (x ∷ upper) last test h =
    upper-container upper last (λ outer. test (x ∷ outer))
    (sym (any-map (λ (outer : List Step). x ∷ outer) test (containers (upper ++ last ∷ [])))
    ∙ off-right (test []) (list_any test (map (λ outer. x ∷ outer) (containers (upper ++ last ∷ [])))) h)

module _ (items : ItemTable) where
  -- what is watched to its end is watched along its first steps
  pub watched-upper : (upper rest : List Step) (o : Option TyId) → reaches_whole (watched items o (upper ++ rest)) ≡
      true →
      reaches_whole (watched items o upper) ≡ true
  watched-upper [] rest o h = refl
  watched-upper (ToPart n ∷ upper) rest o h =
      watched-upper upper rest (option_and_then (step_ty items (ToPart n)) (option_and_then (type_at items) o)) h
  watched-upper (ToField v n ∷ upper) rest o h =
      watched-upper upper rest (option_and_then (step_ty items (ToField v n)) (option_and_then (type_at items) o)) h
  watched-upper (ToContent ∷ upper) rest o h =
      by (is_reference (option_and_then (type_at items) o)) h
      (watched-upper upper rest (option_and_then content_of (option_and_then (type_at items) o)))
    where
      by : (b : Bool) → reaches_whole (watched_content b (watched items (option_and_then content_of (option_and_then
          (type_at items) o)) (upper ++ rest))) ≡ true →
          (reaches_whole (watched items (option_and_then content_of (option_and_then (type_at items) o)) (upper ++
          rest)) ≡ true →
          reaches_whole (watched items (option_and_then content_of (option_and_then (type_at items) o)) upper) ≡ true) →
          reaches_whole (watched_content b (watched items (option_and_then content_of (option_and_then (type_at items)
          o)) upper)) ≡ true
      by true h again = absurd (false≢true h)
      by false h again = again h
  watched-upper (ToElement i ∷ upper) rest o h = absurd (false≢true h)

  module _ (body : Body) where
    later-fine : (acts xs rest : List PathAction) → bad_after items body acts (xs ++ rest) ≡ [] →
        bad_after items body (acts ++ xs) rest ≡ []
    later-fine acts [] rest h = subst (λ l. bad_after items body l rest ≡ []) (sym (append-nil acts)) h
    later-fine acts (x ∷ xs) rest h =
        subst (λ l. bad_after items body l rest ≡ []) (append_assoc acts (x ∷ []) xs)
        (later-fine (acts ++ x ∷ []) xs rest
        (second-none (checked items body acts x x.how) (bad_after items body (acts ++ x ∷ []) (xs ++ rest)) h))

    not-bad : (b : Bool) (rule : UseRule) (action : PathAction) → if_bad items body b rule action ≡ [] → b ≡ false
    not-bad true rule action e = absurd (let n : (record { rule = rule; action = action }) ∷ [] ≡ [] = e in cc)
    not-bad false rule action e = refl

    -- the actions of a path before those of its last block
    actions-last : (path : List ℕ) (n : ℕ) →
        (earlier : List PathAction) × (actions_on body (path ++ n ∷ []) ≡ earlier ++ actions_on body (n ∷ []))
    actions-last [] n = ([], refl)
    actions-last (p ∷ []) n = (actions_in body p ++ actions_between body p n, refl)
    actions-last (p ∷ q ∷ path) n =
        let r = actions-last (q ∷ path) n in
        let first = actions_in body p ++ actions_between body p q in (
          first ++ r.0,
          ap (λ z. first ++ z) r.1 ∙ sym (append_assoc first r.0 (actions_on body (n ∷ []))),
        )

    before-drop : (xs : List PathAction) (last : PathAction) → before_last (xs ++ last ∷ []) ≡ xs
    before-drop [] last = refl
    before-drop (x ∷ []) last = refl
    before-drop (x ∷ y ∷ xs) last = ap (λ (z : List PathAction). x ∷ z) (before-drop (y ∷ xs) last)

    module _ (fine : (path : List ℕ) (given : List Bool) → IsPath items body path given → bad_uses_on items body path
        ≡ [])
        (n : ℕ) (block : Block) (at : slice_get body.blocks n ≡ Some block)
        (dropped : graph.Place) (next : ℕ) (unwind : Unwind) (term : block.term ≡ Term.DropAt dropped next unwind) where
      abbrev D : Place
      D = named dropped

      abbrev stmts : List PathAction
      stmts = stmt_actions n 0 block.stmts

      abbrev the_drop : PathAction
      the_drop = record { how = Drops; place = named dropped; block = n; line = length block.stmts }

      in-drop : actions_on body (n ∷ []) ≡ stmts ++ the_drop ∷ []
      in-drop =
          ap (λ (o : Option Block). option_map_or (block_actions n) o []) at
          ∙ ap (λ (t : Term). stmts ++ at_line n (length block.stmts) (term_uses t)) term

      -- what is done on a path to the drop, and the drop
      all-done : (before : List PathAction) (c : Comes items body n before) →
          actions_on body (c.path ++ n ∷ []) ≡ before ++ the_drop ∷ []
      all-done before c =
          let r = actions-last c.path n in
          let all : actions_on body (c.path ++ n ∷ []) ≡ (r.0 ++ stmts) ++ the_drop ∷ [] =
          r.1 ∙ ap (λ z. r.0 ++ z) in-drop ∙ sym (append_assoc r.0 stmts (the_drop ∷ [])) in
          all ∙ ap (λ z. z ++ the_drop ∷ []) (sym (c.before_is ∙ ap before_last all ∙ before-drop (r.0 ++ stmts)
          the_drop))

      -- its containers are there
      pub containers-there : (before : List PathAction) → Comes items body n before →
          container_gone_after items body before D ≡ false
      containers-there before c =
          let bad : bad_after items body before (the_drop ∷ []) ≡ [] =
          later-fine [] before (the_drop ∷ [])
          (ap (bad_after items body []) (sym (all-done before c)) ∙ fine (c.path ++ n ∷ []) c.given c.is_path) in
          off-left (container_gone_after items body before D) (array_broken_after items body before D)
          (not-bad (container_gone_after items body before D || array_broken_after items body before D) U2 the_drop
          (first-none (checked items body before the_drop Drops) [] bad))

      -- so all of it is there, where it is not watched
      pub elsewhere-sure : counts items body D ≡ false → IsSure items body n D
      elsewhere-sure unwatched before c steps = by (snoc-of D.steps)
        where
          never : (more_steps : List Step) → counts items body (below D more_steps) ≡ false
          never more_steps = off (counts items body (below D more_steps)) refl
            where
              off : (b : Bool) → counts items body (below D more_steps) ≡ b → counts items body (below D more_steps) ≡
                  false
              off false e = e
              off true e =
                  absurd (false≢true (sym unwatched
                  ∙ watched-upper D.steps more_steps (slice_get body.locals D.local) e))

          by : (D.steps ≡ []) ⊎ Snoc D.steps → is_gone_after items body before (below D steps) ≡ false
          by (inl none) =
              absurd (false≢true (sym unwatched
              ∙ ap (λ (l : List Step). reaches_whole (watched items (slice_get body.locals D.local) l)) none))
          by (inr it) =
              let upper : Place = record { local = D.local; steps = it.0 } in
              let whole : D ≡ below upper (it.1 ∷ []) = ap (λ (l : List Step). record { local = D.local; steps = l })
              it.2 in
              let there : is_gone_after items body before upper ≡ false =
              upper-container it.0 it.1 (λ outer. is_gone_after items body before (record {
                local = D.local;
                steps =
                    outer;
              }))
              (ap (λ (l : List Step). list_any (λ outer. is_gone_after items body before (record {
                local = D.local;
                steps = outer;
              })) (containers l)) (sym it.2)
              ∙ containers-there before c) in
              let spare = subst (λ (q : Place). Spared items body q before) whole
              (unwatched-spared items body D never before) in
              ap (λ (q : Place). is_gone_after items body before (below q steps)) whole
              ∙ ap (is_gone_after items body before) (below-step upper it.1 steps)
              ∙ there-below items body before upper it.1 spare there steps
