-- Each action of a path is a use of the body: so all of them spare what is no path, and what is not watched, and the
-- place of each path has a type.
use Rattle.std.proofs.Common.{◌≡◌, inl, inr, ℕ, suc, ◌==◌, ◌&&◌, ◌||◌, nat_eq, nat_lt, not, Bool, true, false, List, [], ◌∷◌, ◌++◌, map, flat_map, length, Option, Some, None, is_some, if◌then◌else◌, slice_get, Contains, refl, ap, sym, ◌∙◌, arith}
use Rattle.std.specs.Prelude.{option_and_then}
use Rattle.std.specs.List.{list_any, list_all}
use Rattle.std.specs.Option.{option_map_or}
use Rattle.std.specs.Cmp.{first_so, second_so}
use Rattle.std.proofs.lemmas.Bool.{false≢true, ltb-true}
use Rattle.std.proofs.lemmas.Bool.Decides.{Decides-eqb}
use Rattle.std.proofs.lemmas.Option.{none-some, slice_get_cases}
use Rattle.mir_ty.proofs.ListLemmas.{slice_get-Contains, Contains-slice_get}
use Rattle.mir_ty.specs.declared.ty.TyId.{TyId}
use Rattle.mir_ty.specs.ItemTable.{ItemTable, type_at}
use Rattle.cfg_graph.specs.declared.graph.Block.{Block}
use Rattle.cfg_graph.specs.declared.graph.Body.{Body}
use Rattle.cfg_graph.specs.declared.place.Place as graph
use Rattle.cfg_graph.specs.declared.statement.Stmt.{Stmt}
use Rattle.cfg_graph.specs.Edges.{onward}
use Rattle.cfg_graph.specs.Moves.Actions.{at_line, stmt_actions, block_actions, result_actions, actions_in, actions_between, actions_on}
use Rattle.cfg_graph.specs.Moves.Gone.{PathAction, leaves_gone, are_first, is_at_or_above, below, counts}
use Rattle.cfg_graph.specs.Places.{named}
use Rattle.cfg_graph.specs.Uses.{PlaceUse, Stores, operands_of_stmt, operands_of_term, stored_by_stmt, stored_by_term, stmt_uses, term_uses, place_used, places_of_stmt, places_of_term}
use Rattle.cfg_graph.specs.WellFormed.Typing.{is_typed_place, is_sized, operand_stands, places_have_types, stmt_has_types, term_has_types}
use Rattle.move_paths.specs.Forest.{is_local, is_above_change, is_path}
use Rattle.move_paths.specs.Uses.{block_uses}
use Rattle.store_model.specs.Places.Place.{Step, same_step, Place, step_ty, ty_along}
use Rattle.drop_values.proofs.Steps.{same_step-sound}
use Rattle.drop_elaborate.proofs.Counted.{in-append-left, in-append-right, in-flat}
use Rattle.drop_elaborate.proofs.PathGrows.{InFlat, in-append, flat-in, map-in, in-map}
use Rattle.drop_elaborate.proofs.ReadyBody.{BodyIsReady}
use Rattle.drop_elaborate.proofs.StandAlone.{all-at, any-not}
use Rattle.drop_elaborate.proofs.Telling.{SparedBy, Spared}
use Rattle.drop_elaborate.specs.Kinds.{place_id}

-- ---- lists

first-member : {A : Type 0} (x : A) (xs : List A) → Contains (x ∷ xs) x
first-member x xs = Contains-slice_get (x ∷ xs) 0 x refl

later-member : {A : Type 0} (x y : A) (xs : List A) → Contains xs y → Contains (x ∷ xs) y
later-member x y xs c = Contains-slice_get (x ∷ xs) (suc c.0) y (slice_get-Contains xs y c)

left-member : {A : Type 0} (xs ys : List A) (y : A) → Contains xs y → Contains (xs ++ ys) y
left-member xs ys y c =
    let r = in-append-left xs ys c.0 y (slice_get-Contains xs y c) in Contains-slice_get (xs ++ ys) c.0 y r

right-member : {A : Type 0} (xs ys : List A) (y : A) → Contains ys y → Contains (xs ++ ys) y
right-member xs ys y c =
    let r = in-append-right xs ys c.0 y (slice_get-Contains ys y c) in Contains-slice_get (xs ++ ys) r.0 y r.1

pub record Passing {A : Type 0} (p : A → Bool) (xs : List A) : Type 0 where
  pub at : ℕ
  pub x : A
  pub there : slice_get xs at ≡ Some x
  pub passes : p x ≡ true

-- what passes, where any does
pub any-there : {A : Type 0} (p : A → Bool) (xs : List A) → list_any p xs ≡ true → Passing p xs
any-there p [] h = absurd (false≢true h)
any-there p (x ∷ xs) h = by (p x) refl h (any-there p xs)
  where
    by : (b : Bool) → p x ≡ b → (b || list_any p xs) ≡ true → (list_any p xs ≡ true → Passing p xs) →
        Passing p (x ∷ xs)
    by true e h again = record { at = 0; x = x; there = refl; passes = e }
    by false e h again =
        let r = again h in record { at = suc r.at; x = r.x; there = r.there; passes = r.passes }

-- steps that begin with others, in two pieces
pub first-split : (a b : List Step) → are_first a b ≡ true → (more : List Step) × (b ≡ a ++ more)
first-split [] b h = (b, refl)
first-split (x ∷ a) [] h = absurd (false≢true h)
first-split (x ∷ a) (y ∷ b) h =
    let r = first-split a b (second_so (same_step x y) (are_first a b) h) in (
      r.0,
      ap (λ l. y ∷ l) r.1 ∙ ap (λ s. s ∷ (a ++ r.0)) (sym (same_step-sound x y
          (first_so (same_step x y) (are_first a b) h))),
    )

module _ (items : ItemTable) (body : Body) where
  abbrev uses : List (PlaceUse × graph.Place)
  uses = flat_map block_uses body.blocks

  pub record IsUse (action : PathAction) : Type 0 where
    pub made : PlaceUse × graph.Place
    pub among : Contains uses made
    pub how_is : action.how ≡ made.0
    pub place_is : action.place ≡ named made.1

  abbrev pub AllUses : List PathAction → Type 0
  AllUses [] = Unit {0}
  AllUses (action ∷ later) = IsUse action × AllUses later

  both-uses : (xs ys : List PathAction) → AllUses xs → AllUses ys → AllUses (xs ++ ys)
  both-uses [] ys a b = b
  both-uses (x ∷ xs) ys a b = (a.0, both-uses xs ys a.1 b)

  pub first-uses : (xs ys : List PathAction) → AllUses (xs ++ ys) → AllUses xs
  first-uses [] ys a = tt
  first-uses (x ∷ xs) ys a = (a.0, first-uses xs ys a.1)

  line-uses : (n line : ℕ) (made : List (PlaceUse × graph.Place)) →
      ((m : PlaceUse × graph.Place) → Contains made m → Contains uses m) → AllUses (at_line n line made)
  line-uses n line [] among = tt
  line-uses n line (m ∷ made) among = (
    record { made = m; among = among m (first-member m made); how_is = refl; place_is = refl },
    line-uses n line made (λ x c. among x (later-member m x made c)),
  )

  stmts-uses : (n line : ℕ) (stmts : List Stmt) →
      ((m : PlaceUse × graph.Place) → Contains (flat_map stmt_uses stmts) m → Contains uses m) →
      AllUses (stmt_actions n line stmts)
  stmts-uses n line [] among = tt
  stmts-uses n line (stmt ∷ stmts) among =
      both-uses (at_line n line (stmt_uses stmt)) (stmt_actions n (suc line) stmts)
      (line-uses n line (stmt_uses stmt) (λ m c. among m (left-member (stmt_uses stmt) (flat_map stmt_uses stmts) m c)))
      (stmts-uses n (suc line) stmts (λ m c. among m (right-member (stmt_uses stmt) (flat_map stmt_uses stmts) m c)))

  -- the uses of a block
  in-block-uses : (n : ℕ) (block : Block) → slice_get body.blocks n ≡ Some block → (m : PlaceUse × graph.Place) →
      Contains (block_uses block) m → Contains uses m
  in-block-uses n block at m c =
      let r = in-flat block_uses body.blocks n c.0 block m at (slice_get-Contains (block_uses block) m c) in
      Contains-slice_get uses r.0 m r.1

  abbrev stored : Block → List (PlaceUse × graph.Place)
  stored block = map (λ place. (Stores, place)) (stored_by_term block.term)

  in-uses : (n : ℕ) → AllUses (actions_in body n)
  in-uses n = by (slice_get body.blocks n) refl
    where
      by : (o : Option Block) → slice_get body.blocks n ≡ o → AllUses (option_map_or (block_actions n) o [])
      by None e = tt
      by (Some block) e =
          both-uses (stmt_actions n 0 block.stmts) (at_line n (length block.stmts) (term_uses block.term))
          (stmts-uses n 0 block.stmts (λ m c. in-block-uses n block e m
          (left-member (flat_map stmt_uses block.stmts) (term_uses block.term ++ stored block) m c)))
          (line-uses n (length block.stmts) (term_uses block.term) (λ m c. in-block-uses n block e m
          (right-member (flat_map stmt_uses block.stmts) (term_uses block.term ++ stored block) m
          (left-member (term_uses block.term) (stored block) m c))))

  between-uses : (n next : ℕ) → AllUses (actions_between body n next)
  between-uses n next = by (slice_get body.blocks n) refl
    where
      by : (o : Option Block) → slice_get body.blocks n ≡ o → AllUses (option_map_or (result_actions n next) o [])
      by None e = tt
      by (Some block) e = so (list_any (nat_eq next) (onward block.term))
        where
          so : (b : Bool) → AllUses (if b then at_line n (length block.stmts) (stored block) else [])
          so false = tt
          so true =
              line-uses n (length block.stmts) (stored block) (λ m c. in-block-uses n block e m
              (right-member (flat_map stmt_uses block.stmts) (term_uses block.term ++ stored block) m
              (right-member (term_uses block.term) (stored block) m c)))

  pub path-uses : (path : List ℕ) → AllUses (actions_on body path)
  path-uses [] = tt
  path-uses (last ∷ []) = in-uses last
  path-uses (n ∷ next ∷ path) =
      both-uses (actions_in body n ++ actions_between body n next) (actions_on body (next ∷ path))
      (both-uses (actions_in body n) (actions_between body n next) (in-uses n) (between-uses n next))
      (path-uses (next ∷ path))

  -- ---- what is spared

  spared-use : (place : Place) (action : PathAction) → (u : IsUse action) →
      is_above_change items body place u.made ≡ false → SparedBy items body place action
  spared-use place action u h =
      by (leaves_gone u.made.0) refl (counts items body (named u.made.1)) refl h
    where
      by : (o : Option Bool) → leaves_gone u.made.0 ≡ o → (c : Bool) → counts items body (named u.made.1) ≡ c →
          (is_some o && c && is_at_or_above place (named u.made.1)) ≡ false → SparedBy items body place action
      by None eo c ec h = inl (ap leaves_gone u.how_is ∙ eo)
      by (Some g) eo false ec h = inr (inl (ap (counts items body) u.place_is ∙ ec))
      by (Some g) eo true ec h = inr (inr (ap (is_at_or_above place) u.place_is ∙ h))

  no-any : (b : Bool) → b ≡ false → not b ≡ true
  no-any false h = refl
  no-any true h = absurd (false≢true (sym h))

  -- what is no path
  pub spared : (place : Place) → nat_lt place.local (length body.locals) ≡ true → is_local place.steps ≡ false →
      is_path items body place ≡ false → (acts : List PathAction) → AllUses acts → Spared items body place acts
  spared place l s h [] a = tt
  spared place l s h (action ∷ later) a = (
    spared-use place action a.0 (any-not (is_above_change items body place) uses a.0.among.0 a.0.made
        (no-any (list_any (is_above_change items body place) uses) none)
        (slice_get-Contains uses a.0.made a.0.among)),
    spared place l s h later a.1,
  )
    where
      none : list_any (is_above_change items body place) uses ≡ false
      none =
          sym (ap (λ b. b && (is_local place.steps || list_any (is_above_change items body place) uses)) l
          ∙ ap (λ b. b || list_any (is_above_change items body place) uses) s) ∙ h

  -- what is not watched
  pub unwatched-spared : (place : Place) → ((more : List Step) → counts items body (below place more) ≡ false) →
      (acts : List PathAction) → Spared items body place acts
  unwatched-spared place never [] = tt
  unwatched-spared place never (action ∷ later) =
      (by (is_at_or_above place action.place) refl, unwatched-spared place never later)
    where
      by : (b : Bool) → is_at_or_above place action.place ≡ b → SparedBy items body place action
      by false e = inr (inr e)
      by true e =
          let l = (Decides-eqb place.local action.place.local).0 (first_so (place.local == action.place.local)
          (are_first place.steps action.place.steps) e) in
          let s = first-split place.steps action.place.steps (second_so (place.local == action.place.local)
          (are_first place.steps action.place.steps) e) in
          inr (inl (ap (λ n. counts items body (record { local = n; steps = action.place.steps })) (sym l)
          ∙ ap (λ steps. counts items body (record { local = place.local; steps = steps })) s.1 ∙ never s.0))

  -- some use changes a path that is no local
  pub changed-below : (place : Place) → is_path items body place ≡ true → is_local place.steps ≡ false →
      Passing (is_above_change items body place) uses
  changed-below place h s =
      any-there (is_above_change items body place) uses
      (sym (ap (λ b. b || list_any (is_above_change items body place) uses) s)
      ∙ second_so (nat_lt place.local (length body.locals))
      (is_local place.steps || list_any (is_above_change items body place) uses) h)

  pub record UseBelow (place : Place) (made : PlaceUse × graph.Place) : Type 0 where
    pub counted : counts items body (named made.1) ≡ true
    pub local_is : (named made.1).local ≡ place.local
    pub more : List Step
    pub steps_are : (named made.1).steps ≡ place.steps ++ more

  pub use-below : (place : Place) (made : PlaceUse × graph.Place) → is_above_change items body place made ≡ true →
      UseBelow place made
  use-below place made h =
      let changes = is_some (leaves_gone made.0) in
      let f = first_so (changes && counts items body (named made.1)) (is_at_or_above place (named made.1)) h in
      let a = second_so (changes && counts items body (named made.1)) (is_at_or_above place (named made.1)) h in
      let s = first-split place.steps (named made.1).steps (second_so (place.local == (named made.1).local)
      (are_first place.steps (named made.1).steps) a) in record {
        counted = second_so changes (counts items body (named made.1)) f;
        local_is = sym ((Decides-eqb place.local (named made.1).local).0
            (first_so (place.local == (named made.1).local) (are_first place.steps (named made.1).steps) a));
        more = s.0;
        steps_are = s.1;
      }

  -- what is not watched is no path
  pub unwatched-no-path : (place : Place) → ((more : List Step) → counts items body (below place more) ≡ false) →
      is_local place.steps ≡ false → is_path items body place ≡ true → ⊥
  unwatched-no-path place never s h =
      let x = changed-below place h s in
      let u = use-below place x.x x.passes in
      false≢true (sym (ap (λ n. counts items body (record { local = n; steps = (named x.x.1).steps })) u.local_is
      ∙ ap (λ steps. counts items body (record { local = place.local; steps = steps })) u.steps_are ∙ never u.more)
      ∙ u.counted)

  -- ---- types

  pub along-append : (first more : List Step) (id : TyId) → ty_along items (first ++ more) id
      ≡ option_and_then (ty_along items more) (ty_along items first id)
  along-append [] more id = refl
  along-append (step ∷ first) more id = by (option_and_then (step_ty items step) (type_at items id))
      (along-append first more)
    where
      by : (o : Option TyId) → ((next : TyId) → ty_along items (first ++ more) next
          ≡ option_and_then (ty_along items more) (ty_along items first next)) →
          option_and_then (ty_along items (first ++ more)) o
          ≡ option_and_then (ty_along items more) (option_and_then (ty_along items first) o)
      by None again = refl
      by (Some next) again = again next

  pub then-some : {A B : Type 0} (f : A → Option B) (o : Option A) (y : B) → option_and_then f o ≡ Some y →
      (x : A) × (o ≡ Some x) × (f x ≡ Some y)
  then-some f None y e = absurd (none-some y e)
  then-some f (Some x) y e = (x, refl, e)

  module _ (bodies : ℕ) (ready : BodyIsReady items bodies body) where
    in-places : (made : List (PlaceUse × graph.Place)) (k : ℕ) (m : PlaceUse × graph.Place) →
        list_all (is_typed_place items body.locals) (map place_used made) ≡ true → slice_get made k ≡ Some m →
        is_typed_place items body.locals m.1 ≡ true
    in-places made k m h e =
        all-at (is_typed_place items body.locals) (map place_used made) k m.1 h (in-map place_used made k m e)

    -- each use is of a place with a type
    use-typed : (m : PlaceUse × graph.Place) (k : ℕ) → slice_get uses k ≡ Some m →
        is_typed_place items body.locals m.1 ≡ true
    use-typed m k e =
        let b = flat-in block_uses body.blocks k m e in
        elim (in-append (flat_map stmt_uses b.x.stmts) (term_uses b.x.term ++ stored b.x) b.inner m b.is) [
          | inl x ↦ in-stmt b.at b.x b.there (flat-in stmt_uses b.x.stmts x.0 m x.1)
          | inr x ↦ in-term b.at b.x b.there x.0 x.1
        ]
      where
        in-stmt : (n : ℕ) (block : Block) → slice_get body.blocks n ≡ Some block →
            InFlat stmt_uses block.stmts m → is_typed_place items body.locals m.1 ≡ true
        in-stmt n block at s =
            let stmt = s.x in
            let places = places_of_stmt stmt in
            let t = first_so (places_have_types items body.locals (stored_by_stmt stmt) (operands_of_stmt stmt) places)
            (stmt_has_types items body.locals stmt) (ready.stmt_typed n s.at block stmt at s.there) in
            in-places (stmt_uses stmt) s.inner m
            (first_so (list_all (is_typed_place items body.locals) places)
            (list_all (is_sized items body.locals) (stored_by_stmt stmt))
            (first_so (list_all (is_typed_place items body.locals) places
            && list_all (is_sized items body.locals) (stored_by_stmt stmt))
            (list_all (operand_stands items body.locals) (operands_of_stmt stmt)) t)) s.is

        in-term : (n : ℕ) (block : Block) → slice_get body.blocks n ≡ Some block → (j : ℕ) →
            slice_get (term_uses block.term ++ stored block) j ≡ Some m → is_typed_place items body.locals m.1 ≡ true
        in-term n block at j h =
            let term = block.term in
            let places = places_of_term term in
            let t = first_so (places_have_types items body.locals (stored_by_term term) (operands_of_term term) places)
            (term_has_types items body.locals term) (ready.term_typed n block at) in
            let all = first_so (list_all (is_typed_place items body.locals) places)
            (list_all (is_sized items body.locals) (stored_by_term term))
            (first_so (list_all (is_typed_place items body.locals) places
            && list_all (is_sized items body.locals) (stored_by_term term))
            (list_all (operand_stands items body.locals) (operands_of_term term)) t) in
            elim (in-append (term_uses term) (stored block) j m h) [
              | inl x ↦ all-at (is_typed_place items body.locals) places x.0 m.1 all
                  (in-append-left (map place_used (term_uses term)) (stored_by_term term) x.0 m.1
                  (in-map place_used (term_uses term) x.0 m x.1))
              | inr x ↦ (let s = map-in (λ (place : graph.Place). (Stores, place)) (stored_by_term term) x.0 m x.1 in
                  let r = in-append-right (map place_used (term_uses term)) (stored_by_term term) x.0 s.0 s.1 in
                  all-at (is_typed_place items body.locals) places r.0 m.1 all
                  (r.1 ∙ ap (λ (u : PlaceUse × graph.Place). Some u.1) s.2))
            ]

    some-ty : (o : Option TyId) → is_some (option_and_then (type_at items) o) ≡ true → (id : TyId) × (o ≡ Some id)
    some-ty None h = absurd (false≢true h)
    some-ty (Some id) h = (id, refl)

    use-id : (m : PlaceUse × graph.Place) (k : ℕ) → slice_get uses k ≡ Some m →
        (id : TyId) × (option_and_then (ty_along items (named m.1).steps) (slice_get body.locals m.1.local) ≡ Some id)
    use-id m k e =
        some-ty (option_and_then (ty_along items (named m.1).steps) (slice_get body.locals m.1.local))
        (first_so (is_some (option_and_then (type_at items) (option_and_then (ty_along items (named m.1).steps)
        (slice_get body.locals m.1.local)))) _ (use-typed m k e))

    -- the place of each path has a type
    pub path-typed : (place : Place) → is_path items body place ≡ true →
        (id : TyId) × (place_id items body place ≡ Some id)
    path-typed place h = by (is_local place.steps) refl
      where
        there : (l : List Step) → place.steps ≡ l → is_local l ≡ true →
            (id : TyId) × (place_id items body place ≡ Some id)
        there [] s i =
            let l = ltb-true place.local (length body.locals) (first_so (nat_lt place.local (length body.locals))
            (is_local place.steps || list_any (is_above_change items body place) uses) h) in
            elim ((slice_get_cases body.locals place.local).1) [
              | inl x ↦ (
                x.0,
                ap (λ steps. option_and_then (ty_along items steps) (slice_get body.locals place.local)) s
                    ∙ ap (option_and_then (ty_along items [])) x.2,
              )
              | inr x ↦ (let k = x.0 in absurd (let never : ⊥ = omega (arith, l, k) in never))
            ]
        there (step ∷ l) s i = absurd (false≢true i)

        by : (b : Bool) → is_local place.steps ≡ b → (id : TyId) × (place_id items body place ≡ Some id)
        by true i = there place.steps refl i
        by false i =
            let x = changed-below place h i in
            let u = use-below place x.x x.passes in
            let t = use-id x.x x.at x.there in
            let start = then-some (ty_along items (named x.x.1).steps) (slice_get body.locals x.x.1.local) t.0 t.1 in
            let two = then-some (ty_along items u.more) (ty_along items place.steps start.0) t.0
            (sym (along-append place.steps u.more start.0) ∙ ap (λ steps. ty_along items steps start.0) (sym
            u.steps_are)
            ∙ start.2) in (
              two.0,
              ap (option_and_then (ty_along items place.steps)) (ap (slice_get body.locals) (sym u.local_is) ∙ start.1)
                  ∙ two.1,
            )
