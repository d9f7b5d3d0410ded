-- A path grows by a block, along a way out of its last one; and what is done on it, by what that way stores and by what
-- the block does. What comes on a path follows what was done before.
use Rattle.std.proofs.Common.{◌≡◌, ◌⊎◌, inl, inr, ℕ, zero, suc, ◌==◌, nat_eq, Bool, true, false, List, [], ◌∷◌, ◌++◌, map, flat_map, length, Some, if◌then◌else◌, slice_get, refl, ap, sym, ◌∙◌, subst, append_assoc}
use Rattle.std.specs.List.{list_any}
use Rattle.std.specs.Option.{option_map_or}
use Rattle.std.proofs.lemmas.Bool.Decides.{Decides-eqb}
use Rattle.std.proofs.lemmas.Option.{none-some}
use Rattle.mir_ty.proofs.ListLemmas.{slice_get-Contains, Contains-slice_get}
use Rattle.mir_ty.specs.ItemTable.{ItemTable}
use Rattle.cfg_graph.specs.declared.graph.Block.{Block}
use Rattle.cfg_graph.specs.declared.graph.Body.{Body}
use Rattle.cfg_graph.specs.Edges.{ToBlock, LeavesBody, onward}
use Rattle.cfg_graph.specs.Moves.Actions.{at_line, block_actions, result_actions, actions_in, actions_between, actions_on}
use Rattle.cfg_graph.specs.Moves.BadUses.{bad_uses_on}
use Rattle.cfg_graph.specs.Moves.Gone.{PathAction}
use Rattle.cfg_graph.specs.Moves.Paths.{PathWay, ways, ways_from, entry_choices, choices_to, choices_between, choices_along, choices_of_path, IsPath}
use Rattle.cfg_graph.specs.NamedPlaces.{keeps_named}
use Rattle.cfg_graph.specs.Uses.{Stores, stored_by_term}
use Rattle.drop_elaborate.proofs.Counted.{in-flat}
use Rattle.drop_elaborate.proofs.PathFacts.{Follows, follows-so, follows-later}

-- ---- members of lists

pub record InFlat {A B : Type 0} (f : A → List B) (xs : List A) (y : B) : Type 0 where
  pub at : ℕ
  pub x : A
  pub there : slice_get xs at ≡ Some x
  pub inner : ℕ
  pub is : slice_get (f x) inner ≡ Some y

pub in-append : {A : Type 0} (xs ys : List A) (k : ℕ) (y : A) → slice_get (xs ++ ys) k ≡ Some y →
    ((j : ℕ) × (slice_get xs j ≡ Some y)) ⊎ ((j : ℕ) × (slice_get ys j ≡ Some y))
in-append [] ys k y e = inr (k, e)
in-append (x ∷ xs) ys zero y e = inl (0, e)
in-append (x ∷ xs) ys (suc k) y e = elim (in-append xs ys k y e) [
  | inl a ↦ inl (suc a.0, a.1)
  | inr b ↦ inr b
]

pub flat-in : {A B : Type 0} (f : A → List B) (xs : List A) (k : ℕ) (y : B) → slice_get (flat_map f xs) k ≡ Some y →
    InFlat f xs y
flat-in f [] k y e = absurd (none-some y e)
flat-in f (x ∷ xs) k y e = by (in-append (f x) (flat_map f xs) k y e) (λ j h. flat-in f xs j y h)
  where
    by : ((j : ℕ) × (slice_get (f x) j ≡ Some y)) ⊎ ((j : ℕ) × (slice_get (flat_map f xs) j ≡ Some y)) →
        ((j : ℕ) → slice_get (flat_map f xs) j ≡ Some y → InFlat f xs y) → InFlat f (x ∷ xs) y
    by (inl a) again = record { at = 0; x = x; there = refl; inner = a.0; is = a.1 }
    by (inr b) again =
        let r = again b.0 b.1 in record { at = suc r.at; x = r.x; there = r.there; inner = r.inner; is = r.is }

pub map-in : {A B : Type 0} (f : A → B) (xs : List A) (k : ℕ) (y : B) → slice_get (map f xs) k ≡ Some y →
    (x : A) × (slice_get xs k ≡ Some x) × (f x ≡ y)
map-in f [] k y e = absurd (none-some y e)
map-in f (x ∷ xs) zero y e = (x, refl, (let z : Some (f x) ≡ Some y = e in let w : f x ≡ y = cc in w))
map-in f (x ∷ xs) (suc k) y e = map-in f xs k y e

pub in-map : {A B : Type 0} (f : A → B) (xs : List A) (k : ℕ) (x : A) → slice_get xs k ≡ Some x →
    slice_get (map f xs) k ≡ Some (f x)
in-map f [] k x e = absurd (none-some x e)
in-map f (y ∷ xs) zero x e = ap (λ z. Some (f z)) (let z : Some y ≡ Some x = e in let w : y ≡ x = cc in w)
in-map f (y ∷ xs) (suc k) x e = in-map f xs k x e

module _ (items : ItemTable) (body : Body) where
  -- ---- one block more

  abbrev end : ℕ → List (List Bool)
  end last = [] ∷ []

  -- the last block of a path from a block on
  abbrev last : ℕ → List ℕ → ℕ
  last from [] = from
  last from (to ∷ path) = last to path

  abbrev Along : ℕ → List ℕ → Type 0
  Along from path = (given : List Bool) × ((k : ℕ) × (slice_get (choices_along items body end from path) k ≡ Some
      given))

  one-more : (from to : ℕ) (path : List ℕ) → (k : ℕ) (c : List Bool) →
      slice_get (choices_between items body from to) k ≡ Some c → Along to path → Along from (to ∷ path)
  one-more from to path k c e a =
      let f : List Bool → List (List Bool) =
      λ given. map (λ rest. given ++ entry_choices items body to ++ rest) (choices_along items body end to path) in
      let m = in-map (λ rest. c ++ entry_choices items body to ++ rest) (choices_along items body end to path) a.1.0
      a.0 a.1.1
      in
      let r = in-flat f (choices_between items body from to) k a.1.0 c (c ++ entry_choices items body to ++ a.0) e m in
      (c ++ entry_choices items body to ++ a.0, r)

  along-grows : (from : ℕ) (path : List ℕ) (m : ℕ) (k : ℕ) (c : List Bool) →
      slice_get (choices_between items body (last from path) m) k ≡ Some c → Along from path →
      Along from (path ++ m ∷ [])
  along-grows from [] m k c e a = one-more from m [] k c e ([], (0, refl))
  along-grows from (to ∷ path) m k c e a =
      let x = flat-in (λ given. map (λ rest. given ++ entry_choices items body to ++ rest) (choices_along items body
      end to path))
      (choices_between items body from to) a.1.0 a.0 a.1.1 in
      let r = map-in (λ rest. x.x ++ entry_choices items body to ++ rest) (choices_along items body end to path)
      x.inner a.0 x.is
      in
      one-more from to (path ++ m ∷ []) x.at x.x x.there
      (along-grows to path m k c e (r.0, (x.inner, r.1)))

  last-snoc : (from : ℕ) (path : List ℕ) (n : ℕ) → last from (path ++ n ∷ []) ≡ n
  last-snoc from [] n = refl
  last-snoc from (to ∷ path) n = last-snoc to path n

  -- ---- a path to a block

  -- some path comes to a block, and has done this before it
  pub record OnPath (n : ℕ) (acts : List PathAction) : Type 0 where
    pub path : List ℕ
    pub given : List Bool
    pub is_path : IsPath items body (path ++ n ∷ []) given
    pub done : actions_on body (path ++ n ∷ []) ≡ acts ++ actions_in body n

  pub at-start : OnPath 0 []
  at-start = record {
    path = [];
    given = entry_choices items body 0 ++ [];
    is_path = Contains-slice_get (choices_of_path items body (0 ∷ [])) 0 (entry_choices items body 0 ++ []) refl;
    done = refl;
  }

  path-grows : (path : List ℕ) (n m : ℕ) (given : List Bool) (k : ℕ) (c : List Bool) →
      IsPath items body (path ++ n ∷ []) given → slice_get (choices_between items body n m) k ≡ Some c →
      (given' : List Bool) × IsPath items body ((path ++ n ∷ []) ++ m ∷ []) given'
  path-grows [] (suc n) m given k c p e =
      absurd (none-some given (slice_get-Contains [] given p))
  path-grows [] zero m given k c p e =
      let a = along-grows 0 [] m k c e ([], (0, refl)) in (
        entry_choices items body 0 ++ a.0,
        Contains-slice_get (choices_of_path items body (0 ∷ m ∷ [])) a.1.0 (entry_choices items body 0 ++ a.0)
            (in-map (λ rest. entry_choices items body 0 ++ rest) (choices_along items body end 0 (m ∷ [])) a.1.0 a.0
            a.1.1),
      )
  path-grows (suc x ∷ path) n m given k c p e =
      absurd (none-some given (slice_get-Contains [] given p))
  path-grows (zero ∷ path) n m given k c p e =
      let s = slice_get-Contains (choices_of_path items body (0 ∷ (path ++ n ∷ []))) given p in
      let r = map-in (λ rest. entry_choices items body 0 ++ rest) (choices_along items body end 0 (path ++ n ∷ []))
      p.0 given s
      in
      let a = along-grows 0 (path ++ n ∷ []) m k c
      (ap (λ l. slice_get (choices_between items body l m) k) (last-snoc 0 path n) ∙ e) (r.0, (p.0, r.1)) in (
        entry_choices items body 0 ++ a.0,
        Contains-slice_get (choices_of_path items body (0 ∷ ((path ++ n ∷ []) ++ m ∷ []))) a.1.0
            (entry_choices items body 0 ++ a.0)
            (in-map (λ rest. entry_choices items body 0 ++ rest)
            (choices_along items body end 0 ((path ++ n ∷ []) ++ m ∷ [])) a.1.0 a.0 a.1.1),
      )

  -- a path is a block, or goes on to a next one
  on-more : (x y : ℕ) (path : List ℕ) → actions_on body (x ∷ y ∷ path)
      ≡ (actions_in body x ++ actions_between body x y) ++ actions_on body (y ∷ path)
  on-more x y path = refl

  four : {A : Type 0} (a b c d : List A) → a ++ ((b ++ c) ++ d) ≡ ((a ++ b) ++ c) ++ d
  four a b c d =
      sym (append_assoc a (b ++ c) d) ∙ ap (λ l. l ++ d) (sym (append_assoc a b c))

  actions-grow : (path : List ℕ) (n m : ℕ) → actions_on body ((path ++ n ∷ []) ++ m ∷ [])
      ≡ (actions_on body (path ++ n ∷ []) ++ actions_between body n m) ++ actions_in body m
  actions-grow [] n m = refl
  actions-grow (x ∷ []) n m =
      four (actions_in body x ++ actions_between body x n) (actions_in body n) (actions_between body n m)
      (actions_in body m)
  actions-grow (x ∷ y ∷ path) n m =
      ap (λ l. (actions_in body x ++ actions_between body x y) ++ l) (actions-grow (y ∷ path) n m)
      ∙ four (actions_in body x ++ actions_between body x y) (actions_on body ((y ∷ path) ++ n ∷ []))
      (actions_between body n m) (actions_in body m)

  -- on to the next block
  pub grows : (n m : ℕ) (acts : List PathAction) (k : ℕ) (c : List Bool) → OnPath n acts →
      slice_get (choices_between items body n m) k ≡ Some c →
      OnPath m ((acts ++ actions_in body n) ++ actions_between body n m)
  grows n m acts k c p e =
      let g = path-grows p.path n m p.given k c p.is_path e in record {
        path = p.path ++ n ∷ [];
        given = g.0;
        is_path = g.1;
        done = actions-grow p.path n m
            ∙ ap (λ l. (l ++ actions_between body n m) ++ actions_in body m) p.done;
      }

  -- ---- what comes on it

  module _ (fine : (path : List ℕ) (given : List Bool) → IsPath items body path given →
      bad_uses_on items body path ≡ [])
      (kept : (path : List ℕ) (given : List Bool) (local : ℕ) → IsPath items body path given →
      keeps_named body (actions_on body path) local ≡ true) where
    pub comes : (n : ℕ) (acts : List PathAction) → OnPath n acts → Follows items body acts (actions_in body n)
    comes n acts p =
        follows-later items body [] acts (actions_in body n)
        (subst (Follows items body []) p.done (follows-so items body [] (actions_on body (p.path ++ n ∷ []))
        (fine (p.path ++ n ∷ []) p.given p.is_path) (λ r. kept (p.path ++ n ∷ []) p.given r p.is_path)))

    -- and what the way to the next block stores
    pub comes-on : (n m : ℕ) (acts : List PathAction) → OnPath m ((acts ++ actions_in body n) ++ actions_between body
        n m) →
        Follows items body (acts ++ actions_in body n) (actions_between body n m ++ actions_in body m)
    comes-on n m acts p =
        follows-later items body [] (acts ++ actions_in body n) (actions_between body n m ++ actions_in body m)
        (subst (Follows items body []) (p.done ∙ append_assoc (acts ++ actions_in body n) (actions_between body n m)
        (actions_in body m)) (follows-so items body [] (actions_on body (p.path ++ m ∷ []))
        (fine (p.path ++ m ∷ []) p.given p.is_path) (λ r. kept (p.path ++ m ∷ []) p.given r p.is_path)))

  -- ---- the ways out of a block

  -- a way out of a block that leads to a block
  pub way-to : (n m : ℕ) (block : Block) (i : ℕ) (way : PathWay) → slice_get body.blocks n ≡ Some block →
      slice_get (ways items body block.term) i ≡ Some way → way.exit ≡ ToBlock m →
      (k : ℕ) × (slice_get (choices_between items body n m) k ≡ Some way.choices)
  way-to n m block i way at there exit =
      in-flat (choices_to items body m) (ways_from items body n) i 0 way way.choices
      (ap (λ o. slice_get (option_map_or (λ (found : Block). ways items body found.term) o []) i) at ∙ there)
      (ap (λ x. slice_get (elim x [
        | ToBlock next ↦ (if next == m then way.choices ∷ [] else [])
        | LeavesBody ↦ []
      ]) 0) exit
      ∙ ap (λ b. slice_get (if b then way.choices ∷ [] else []) 0) ((Decides-eqb m m).1 refl))

  -- what is done in a block, and what is stored on the way to one that comes next
  pub in-block : (n : ℕ) (block : Block) → slice_get body.blocks n ≡ Some block →
      actions_in body n ≡ block_actions n block
  in-block n block at = ap (λ o. option_map_or (block_actions n) o []) at

  pub on-way : (n m : ℕ) (block : Block) → slice_get body.blocks n ≡ Some block →
      list_any (nat_eq m) (onward block.term) ≡ true →
      actions_between body n m ≡ at_line n (length block.stmts) (map (λ place. (Stores, place)) (stored_by_term
      block.term))
  on-way n m block at o =
      ap (λ x. option_map_or (result_actions n m) x []) at
      ∙ ap (λ b. if b then at_line n (length block.stmts) (map (λ place. (Stores, place)) (stored_by_term block.term))
      else []) o

  pub off-way : (n m : ℕ) (block : Block) → slice_get body.blocks n ≡ Some block →
      list_any (nat_eq m) (onward block.term) ≡ false → actions_between body n m ≡ []
  off-way n m block at o =
      ap (λ x. option_map_or (result_actions n m) x []) at
      ∙ ap (λ b. if b then at_line n (length block.stmts) (map (λ place. (Stores, place)) (stored_by_term block.term))
      else []) o
