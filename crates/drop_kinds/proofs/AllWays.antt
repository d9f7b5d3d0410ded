-- The paths of a body without a turn, listed by computation: what holds of all that come to a block, and of some.
use Rattle.std.proofs.Common.{◌≡◌, ◌⊎◌, inl, inr, ◌∙◌, ◌∷◌, [], ◌++◌, ◌&&◌, ◌||◌, ◌==◌, ℕ, zero, suc, Bool, true, false, not, List, Some, Contains, map, flat_map, length, slice_get, refl, sym, ap, subst, if◌then◌else◌, arith}
use Rattle.std.specs.List.{list_any, list_all}
use Rattle.std.specs.Cmp.{first_so, second_so}
use Rattle.std.proofs.lemmas.Bool.{false≢true, eqb-true, eq-eqb}
use Rattle.std.proofs.lemmas.Option.{none-some, same_Some}
use Rattle.mir_ty.specs.ItemTable.{ItemTable}
use Rattle.mir_ty.proofs.ListLemmas.{Contains-slice_get, slice_get-Contains}
use Rattle.cfg_graph.specs.declared.graph.Body.{Body}
use Rattle.cfg_graph.specs.Edges.{BlockExit, ToBlock, LeavesBody}
use Rattle.cfg_graph.specs.Moves.Actions.{actions_on}
use Rattle.cfg_graph.specs.Moves.Gone.{PathAction}
use Rattle.cfg_graph.specs.Moves.Paths.{PathWay, ways_from, entry_choices, choices_to, choices_between, choices_along, choices_of_path, IsPath}
use Rattle.drop_elaborate.specs.Kinds.{before_last, Comes}

-- ---- lists

abbrev is_none : {X : Type 0} → List X → Bool
is_none [] = true
is_none (x ∷ xs) = false

record Inside {X Y : Type 0} (f : X → List Y) (xs : List X) (y : Y) : Type 0 where
  x : X
  there : Contains xs x
  inner : Contains (f x) y

first-of : {X : Type 0} (x : X) (xs : List X) → Contains (x ∷ xs) x
first-of x xs = Contains-slice_get (x ∷ xs) 0 x refl

later-of : {X : Type 0} (x y : X) (xs : List X) → Contains xs y → Contains (x ∷ xs) y
later-of x y xs has = let at = slice_get-Contains xs y has in Contains-slice_get (x ∷ xs) (suc has.0) y at

pub either-of : {X : Type 0} (x y : X) (xs : List X) → Contains (x ∷ xs) y → (x ≡ y) ⊎ Contains xs y
either-of x y xs has = by has.0 (slice_get-Contains (x ∷ xs) y has)
  where
    by : (n : ℕ) → slice_get (x ∷ xs) n ≡ Some y → (x ≡ y) ⊎ Contains xs y
    by zero e = inl (same_Some x y e)
    by (suc n) e = inr (Contains-slice_get xs n y e)

none-of : {X : Type 0} (y : X) → Contains [] y → ⊥
none-of y has = none-some y (slice_get-Contains [] y has)

in-left : {X : Type 0} (xs ys : List X) (y : X) → Contains xs y → Contains (xs ++ ys) y
in-left [] ys y has = absurd (none-of y has)
in-left (x ∷ xs) ys y has = elim (either-of x y xs has) [
  | inl same ↦ subst (Contains (x ∷ xs ++ ys)) same (first-of x (xs ++ ys))
  | inr there ↦ later-of x y (xs ++ ys) (in-left xs ys y there)
]

in-right : {X : Type 0} (xs ys : List X) (y : X) → Contains ys y → Contains (xs ++ ys) y
in-right [] ys y has = has
in-right (x ∷ xs) ys y has = later-of x y (xs ++ ys) (in-right xs ys y has)

of-either : {X : Type 0} (xs ys : List X) (y : X) → Contains (xs ++ ys) y → Contains xs y ⊎ Contains ys y
of-either [] ys y has = inr has
of-either (x ∷ xs) ys y has = elim (either-of x y (xs ++ ys) has) [
  | inl same ↦ inl (subst (Contains (x ∷ xs)) same (first-of x xs))
  | inr there ↦ elim (of-either xs ys y there) [
    | inl left ↦ inl (later-of x y xs left)
    | inr right ↦ inr right
  ]
]

in-flat : {X Y : Type 0} (f : X → List Y) (xs : List X) (x : X) (y : Y) → Contains xs x → Contains (f x) y →
    Contains (flat_map f xs) y
in-flat f [] x y has inner = absurd (none-of x has)
in-flat f (z ∷ xs) x y has inner = elim (either-of z x xs has) [
  | inl same ↦ in-left (f z) (flat_map f xs) y (subst (λ w. Contains (f w) y) (sym same) inner)
  | inr there ↦ in-right (f z) (flat_map f xs) y (in-flat f xs x y there inner)
]

of-flat : {X Y : Type 0} (f : X → List Y) (xs : List X) (y : Y) → Contains (flat_map f xs) y → Inside f xs y
of-flat f [] y has = absurd (none-of y has)
of-flat f (x ∷ xs) y has = elim (of-either (f x) (flat_map f xs) y has) [
  | inl here ↦ record { x = x; there = first-of x xs; inner = here }
  | inr there ↦ (let r = of-flat f xs y there in record { x = r.x; there = later-of x r.x xs r.there; inner = r.inner })
]

in-map : {X Y : Type 0} (f : X → Y) (xs : List X) (x : X) → Contains xs x → Contains (map f xs) (f x)
in-map f [] x has = absurd (none-of x has)
in-map f (z ∷ xs) x has = elim (either-of z x xs has) [
  | inl same ↦ subst (λ w. Contains (f z ∷ map f xs) (f w)) same (first-of (f z) (map f xs))
  | inr there ↦ later-of (f z) (f x) (map f xs) (in-map f xs x there)
]

of-map : {X Y : Type 0} (f : X → Y) (xs : List X) (y : Y) → Contains (map f xs) y → (x : X) × Contains xs x × (y ≡ f x)
of-map f [] y has = absurd (none-of y has)
of-map f (x ∷ xs) y has = elim (either-of (f x) y (map f xs) has) [
  | inl same ↦ (x, first-of x xs, sym same)
  | inr there ↦ (let r = of-map f xs y there in (r.0, later-of x r.0 xs r.1, r.2))
]

pub all-of : {X : Type 0} (p : X → Bool) (xs : List X) (x : X) → list_all p xs ≡ true → Contains xs x → p x ≡ true
all-of p [] x all has = absurd (none-of x has)
all-of p (z ∷ xs) x all has = elim (either-of z x xs has) [
  | inl same ↦ ap p (sym same) ∙ first_so (p z) (list_all p xs) all
  | inr there ↦ all-of p xs x (second_so (p z) (list_all p xs) all) there
]

pub some-of : {X : Type 0} (p : X → Bool) (xs : List X) → list_any p xs ≡ true → (x : X) × Contains xs x × (p x ≡ true)
some-of p [] h = absurd (false≢true h)
some-of p (x ∷ xs) h = by (p x) refl h (some-of p xs)
  where
    by : (b : Bool) → p x ≡ b → (b || list_any p xs) ≡ true →
        (list_any p xs ≡ true → (y : _) × Contains xs y × (p y ≡ true)) → (y : _) × Contains (x ∷ xs) y × (p y ≡ true)
    by true e h again = (x, first-of x xs, e)
    by false e h again = let r = again h in (r.0, later-of x r.0 xs r.1, r.2)

pub one-of : {X : Type 0} (x y : X) → Contains (x ∷ []) y → x ≡ y
one-of x y has = elim (either-of x y [] has) [
  | inl same ↦ same
  | inr none ↦ absurd (none-of y none)
]

some-there : {X : Type 0} (xs : List X) → not (is_none xs) ≡ true → (x : X) × Contains xs x
some-there [] h = absurd (false≢true h)
some-there (x ∷ xs) h = (x, first-of x xs)

-- ---- walks

module _ (items : ItemTable) (body : Body) where
  abbrev exits_to : BlockExit → List ℕ
  exits_to (ToBlock block) = block ∷ []
  exits_to LeavesBody = []

  -- the blocks to which the ways out of a block lead
  abbrev next_of : ℕ → List ℕ
  next_of block = flat_map (λ way. exits_to way.exit) (ways_from items body block)

  -- the walks from a block on, of so many blocks more at most
  abbrev pub walks : ℕ → ℕ → List (List ℕ)
  walks zero block = (block ∷ []) ∷ []
  walks (suc more_blocks) block =
      (block ∷ []) ∷ flat_map (λ next. map (λ walk. block ∷ walk) (walks more_blocks next)) (next_of block)

  -- none is longer
  abbrev pub end_within : ℕ → ℕ → Bool
  end_within zero block = is_none (next_of block)
  end_within (suc more_blocks) block = list_all (end_within more_blocks) (next_of block)

  leads-on : (from to : ℕ) (given : List Bool) → Contains (choices_between items body from to) given →
      Contains (next_of from) to
  leads-on from to given has =
      let way = of-flat (choices_to items body to) (ways_from items body from) given has in
      in-flat (λ way. exits_to way.exit) (ways_from items body from) way.x to way.there
      (by way.x way.x.exit refl way.inner)
    where
      at : (next : ℕ) (choices : List Bool) (b : Bool) → (next == to) ≡ b →
          Contains (if b then choices ∷ [] else []) given →
          Contains (next ∷ []) to
      at next choices true e h = subst (Contains (next ∷ [])) (eqb-true next to e) (first-of next [])
      at next choices false e h = absurd (none-of given h)

      by : (way : PathWay) (exit : BlockExit) → way.exit ≡ exit → Contains (choices_to items body to way) given →
          Contains (exits_to way.exit) to
      by way (ToBlock next) e h =
          subst (λ x. Contains (exits_to x) to) (sym e)
          (at next way.choices (next == to) refl
          (subst (λ x. Contains (elim x [ ToBlock n ↦ if n == to then way.choices ∷ [] else [] | LeavesBody ↦ [] ])
          given) e h))
      by way LeavesBody e h =
          absurd (none-of given
          (subst (λ x. Contains (elim x [ ToBlock n ↦ if n == to then way.choices ∷ [] else [] | LeavesBody ↦ [] ])
          given) e h))

  -- a path is one of the walks
  walk-listed : (fuel from : ℕ) (path : List ℕ) (given : List Bool) → end_within fuel from ≡ true →
      Contains (choices_along items body (λ last. [] ∷ []) from path) given → Contains (walks fuel from) (from ∷ path)
  walk-listed zero from [] given ends has = first-of (from ∷ []) []
  walk-listed (suc fuel) from [] given ends has = first-of (from ∷ []) _
  walk-listed fuel from (to ∷ path) given ends has =
      let step = of-flat (λ one. map (λ rest. one ++ entry_choices items body to ++ rest)
      (choices_along items body (λ last. [] ∷ []) to path))
      (choices_between items body from to) given has in
      let rest = of-map (λ rest. step.x ++ entry_choices items body to ++ rest)
      (choices_along items body (λ last. [] ∷ []) to path) given step.inner in
      by fuel ends (leads-on from to step.x step.there) (λ less ok. walk-listed less to path rest.0 ok rest.1)
    where
      empty : (xs : List ℕ) → is_none xs ≡ true → Contains xs to → ⊥
      empty [] e h = none-of to h
      empty (x ∷ xs) e h = false≢true e

      by : (fuel : ℕ) → end_within fuel from ≡ true → Contains (next_of from) to →
          ((less : ℕ) → end_within less to ≡ true → Contains (walks less to) (to ∷ path)) →
          Contains (walks fuel from) (from ∷ to ∷ path)
      by zero ends next again = absurd (empty (next_of from) ends next)
      by (suc fuel) ends next again =
          later-of (from ∷ []) (from ∷ to ∷ path) _
          (in-flat (λ n. map (λ walk. from ∷ walk) (walks fuel n)) (next_of from) to (from ∷ to ∷ path) next
          (in-map (λ walk. from ∷ walk) (walks fuel to) (to ∷ path)
          (again fuel (all-of (end_within fuel) (next_of from) to ends next))))

  -- ---- what comes to a block

  abbrev pub ends_in : ℕ → List ℕ → Bool
  ends_in n [] = false
  ends_in n (last ∷ []) = last == n
  ends_in n (block ∷ next ∷ walk) = ends_in n (next ∷ walk)

  ends-in : (n : ℕ) (path : List ℕ) → ends_in n (path ++ n ∷ []) ≡ true
  ends-in n [] = eq-eqb n n refl
  ends-in n (block ∷ []) = eq-eqb n n refl
  ends-in n (block ∷ next ∷ path) = ends-in n (next ∷ path)

  up-to : (n : ℕ) (walk : List ℕ) → ends_in n walk ≡ true → (path : List ℕ) × (walk ≡ path ++ n ∷ [])
  up-to n [] h = absurd (false≢true h)
  up-to n (last ∷ []) h = ([], ap (λ (k : ℕ). k ∷ []) (eqb-true last n h))
  up-to n (block ∷ next ∷ walk) h = let r = up-to n (next ∷ walk) h in (block ∷ r.0, ap (λ (l : List ℕ). block ∷ l) r.1)

  -- what a walk does before the last use of its last block
  abbrev pub done_on : List ℕ → List PathAction
  done_on walk = before_last (actions_on body walk)

  -- a test of what each path does that comes to a block, and of what some path does
  abbrev pub all_come : (fuel n : ℕ) → (List PathAction → Bool) → Bool
  all_come fuel n test = list_all (λ walk. not (ends_in n walk) || test (done_on walk)) (walks fuel 0)

  abbrev pub some_comes : (fuel n : ℕ) → (List PathAction → Bool) → Bool
  some_comes fuel n test =
      list_any (λ walk. ends_in n walk && (not (is_none (choices_of_path items body walk)) && test (done_on walk)))
      (walks fuel 0)

  pub each-comes : (fuel n : ℕ) (test : List PathAction → Bool) → end_within fuel 0 ≡ true → all_come fuel n test
      ≡ true →
      (before : List PathAction) → Comes items body n before → test before ≡ true
  each-comes fuel n test ends all before c =
      ap test c.before_is
      ∙ passes (test (done_on (c.path ++ n ∷ [])))
      (ap (λ (b : Bool). not b || test (done_on (c.path ++ n ∷ []))) (sym (ends-in n c.path))
      ∙ all-of (λ walk. not (ends_in n walk) || test (done_on walk)) (walks fuel 0) (c.path ++ n ∷ []) all
      (listed (c.path ++ n ∷ []) c.is_path))
    where
      passes : (b : Bool) → (false || b) ≡ true → b ≡ true
      passes b h = h

      listed : (walk : List ℕ) → IsPath items body walk c.given → Contains (walks fuel 0) walk
      listed [] has = absurd (none-of c.given has)
      listed (zero ∷ path) has =
          let rest = of-map (λ rest. entry_choices items body 0 ++ rest)
          (choices_along items body (λ last. [] ∷ []) 0 path) c.given has in
          walk-listed fuel 0 path rest.0 ends rest.1
      listed (suc k ∷ path) has = absurd (none-of c.given has)

  pub one-comes : (fuel n : ℕ) (test : List PathAction → Bool) → some_comes fuel n test ≡ true →
      (before : List PathAction) × Comes items body n before × (test before ≡ true)
  one-comes fuel n test some =
      let it = some-of (λ walk. ends_in n walk
      && (not (is_none (choices_of_path items body walk)) && test (done_on walk))) (walks fuel 0) some in
      let last = first_so (ends_in n it.0) (not (is_none (choices_of_path items body it.0)) && test (done_on it.0))
      it.2 in
      let rest = second_so (ends_in n it.0) (not (is_none (choices_of_path items body it.0)) && test (done_on it.0))
      it.2 in
      let is = up-to n it.0 last in
      let given = some-there (choices_of_path items body it.0)
      (first_so (not (is_none (choices_of_path items body it.0))) (test (done_on it.0)) rest) in (
        done_on it.0,
        record {
          path = is.0;
          given = given.0;
          is_path = subst (λ (w : List ℕ). IsPath items body w given.0) is.1 given.1;
          before_is = ap done_on is.1;
        },
        second_so (not (is_none (choices_of_path items body it.0))) (test (done_on it.0)) rest,
      )
