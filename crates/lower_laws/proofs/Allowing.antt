-- A use is refused in a free walk exactly where it is bad after the actions so far.
use Rattle.std.proofs.Common.{◌≡◌, ℕ, Bool, true, false, not, ◌&&◌, ◌||◌, List, [], ◌∷◌, ◌++◌, map, slice_get, refl, sym, ap, subst, ◌∙◌}
use Rattle.std.specs.List.{list_any}
use Rattle.std.proofs.lemmas.Bool.{false≢true}
use Rattle.std.proofs.lemmas.List.{append-nil, append_assoc}
use Rattle.mir_ty.specs.ItemTable.{ItemTable}
use Rattle.store_model.specs.Places.Place.{Step, ToContent, ToElement, Place, Watched, Reach, Whole, ThroughReference, ByElement, watched, before_element}
use Rattle.store_model.specs.Abstract.Presence.{Presence, itself_gone, presence_at, presence_along, all_present, containers_present, is_whole_at, is_there_at}
use Rattle.store_model.specs.Abstract.Effects.{may_use, may_test, may_store}
use Rattle.cfg_graph.specs.declared.graph.Body.{Body}
use Rattle.cfg_graph.specs.Uses.{PlaceUse, Copies, Moves, Borrows, Touches, Tests, Stores, Drops, Frees}
use Rattle.cfg_graph.specs.Moves.Gone.{PathAction, containers, has_index, counts, is_gone_after, is_whole_after}
use Rattle.cfg_graph.specs.Moves.Present.{present_after}
use Rattle.cfg_graph.specs.Moves.BadUses.{may_not_read, may_not_test, may_not_store}
use Rattle.cfg_graph.proofs.Present.{gone_is_not_present}
use Rattle.cfg_graph.proofs.AllPresent.{whole_is_all_present}
use Rattle.cfg_graph.proofs.WholePlaces.{wholeness_is_tested, not_gone}
use Rattle.move_errors.specs.Reaches.{is_bad}
use Rattle.lower_laws.proofs.Watching.{Seen, whole, reference, element, seen, gone-beyond}

-- what a free walk asks of a use
abbrev pub allowed : PlaceUse → Watched → Presence → Bool
allowed Copies w p = may_use w p
allowed Moves w p = may_use w p
allowed Borrows w p = may_use w p
allowed Touches w p = may_use w p
allowed Tests w p = may_test w p
allowed Stores w p = may_store w p
allowed Drops w p = may_store w p
allowed Frees w p = true

-- Truth values.

both-ways : (a b : Bool) → (a ≡ true → b ≡ true) → (b ≡ true → a ≡ true) → a ≡ b
both-ways true true f g = refl
both-ways true false f g = sym (f refl)
both-ways false true f g = g refl
both-ways false false f g = refl

neither : (a b : Bool) → (not a && not b) ≡ not (a || b)
neither true b = refl
neither false b = refl

or-assoc : (a b c : Bool) → (a || (b || c)) ≡ ((a || b) || c)
or-assoc true b c = refl
or-assoc false b c = refl

any-same : {X : Type 0} (f : X → Bool) (b : Bool) (xs : List X) → ((x : X) → f x ≡ b) → (b || list_any f xs) ≡ b
any-same f true xs same = refl
any-same f false [] same = refl
any-same f false (x ∷ xs) same = ap (λ (z : Bool). z || list_any f xs) (same x) ∙ any-same f false xs same

any-map : {X Y : Type 0} (f : Y → Bool) (g : X → Y) (xs : List X) → list_any f (map g xs) ≡ list_any (λ x. f (g x)) xs
any-map f g [] = refl
any-map f g (x ∷ xs) = ap (λ (z : Bool). f (g x) || z) (any-map f g xs)

-- Containers.

containers-present : (steps : List Step) (p : Presence)
    → containers_present steps p ≡ not (list_any (λ outer. itself_gone (presence_along outer p)) (containers steps))
containers-present [] p = refl
containers-present (s ∷ steps) p =
    ap (λ (z : Bool). not (itself_gone p) && z) (containers-present steps (presence_at s p)
    ∙ ap not (sym (any-map (λ outer. itself_gone (presence_along outer p)) (λ outer. s ∷ outer) (containers steps))))
    ∙ neither (itself_gone p) (list_any (λ outer. itself_gone (presence_along outer p)) (map (λ outer. s ∷ outer) (containers steps)))

any-beyond : (g : List Step → Bool) (upto : List Step) (s : Step) (more : List Step) → ((rest : List Step) → g (upto ++ s ∷ rest) ≡ g upto)
    → list_any g (containers (upto ++ s ∷ more)) ≡ (list_any g (containers upto) || g upto)
any-beyond g [] s more same =
    ap (λ (z : Bool). g [] || z) (any-map g (λ outer. s ∷ outer) (containers more))
    ∙ any-same (λ outer. g (s ∷ outer)) (g []) (containers more) same
any-beyond g (u ∷ upto) s more same =
    ap (λ (z : Bool). g [] || z)
    (any-map g (λ outer. u ∷ outer) (containers (upto ++ s ∷ more))
    ∙ any-beyond (λ outer. g (u ∷ outer)) upto s more same
    ∙ ap (λ (z : Bool). z || g (u ∷ upto)) (sym (any-map g (λ outer. u ∷ outer) (containers upto))))
    ∙ or-assoc (g []) (list_any g (map (λ outer. u ∷ outer) (containers upto))) (g (u ∷ upto))

-- The three tests, by truth values: whether the place is whole, itself gone, in a container that is gone.

read-whole : (c whole has array : Bool) → has ≡ false → (not c && whole) ≡ not (not whole || c || (has && array))
read-whole true true true array e = refl
read-whole true true false array e = refl
read-whole true false has array e = refl
read-whole false false has array e = refl
read-whole false true false array e = refl
read-whole false true true array e = absurd (false≢true (sym e))

test-whole : (c gone has array : Bool) → has ≡ false → (not c && not gone) ≡ not (gone || c || (has && array))
test-whole c true has array e = by c
  where
    by : (c : Bool) → (not c && false) ≡ false
    by true = refl
    by false = refl
test-whole true false has array e = refl
test-whole false false false array e = refl
test-whole false false true array e = absurd (false≢true (sym e))

store-whole : (c has array : Bool) → has ≡ false → not c ≡ not (c || (has && array))
store-whole true has array e = refl
store-whole false false array e = refl
store-whole false true array e = absurd (false≢true (sym e))

read-reference : (c gone has : Bool) → (not c && not gone) ≡ not (not (not gone) || (c || gone) || (has && not (not gone)))
read-reference true true has = refl
read-reference true false has = refl
read-reference false true has = refl
read-reference false false true = refl
read-reference false false false = refl

test-reference : (c gone has : Bool) → (not c && not gone) ≡ not (gone || (c || gone) || (has && not (not gone)))
test-reference true true has = refl
test-reference true false has = refl
test-reference false true has = refl
test-reference false false true = refl
test-reference false false false = refl

store-reference : (c gone has : Bool) → (not c && not gone) ≡ not ((c || gone) || (has && not (not gone)))
store-reference true gone has = refl
store-reference false true has = refl
store-reference false false true = refl
store-reference false false false = refl

read-element : (c gone array : Bool) → (array ≡ true → gone ≡ false) → (not c && array) ≡ not (not (not gone) || (c || gone) || not array)
read-element true true array h = refl
read-element true false array h = refl
read-element false true true h = absurd (false≢true (sym (h refl)))
read-element false true false h = refl
read-element false false true h = refl
read-element false false false h = refl

test-element : (c gone array : Bool) → (array ≡ true → gone ≡ false) → (not c && array) ≡ not (gone || (c || gone) || not array)
test-element true true array h = refl
test-element true false array h = refl
test-element false true true h = absurd (false≢true (sym (h refl)))
test-element false true false h = refl
test-element false false true h = refl
test-element false false false h = refl

store-element : (c gone array : Bool) → (array ≡ true → gone ≡ false) → (not c && array) ≡ not ((c || gone) || not array)
store-element true gone array h = refl
store-element false true true h = absurd (false≢true (sym (h refl)))
store-element false true false h = refl
store-element false false true h = refl
store-element false false false h = refl

not-false : (gone : Bool) → gone ≡ false → not gone ≡ true
not-false gone h = ap not h

module _ (items : ItemTable) (body : Body) (actions : List PathAction) (local : ℕ) where
  abbrev at : List Step → Place
  at steps = record { local = local; steps = steps }

  abbrev p : Presence
  p = present_after items body actions local

  abbrev gone : List Step → Bool
  gone steps = is_gone_after items body actions (at steps)

  abbrev is_whole : List Step → Bool
  is_whole steps = is_whole_after items body actions (at steps)

  in-container : (steps : List Step) → containers_present steps p ≡ not (list_any gone (containers steps))
  in-container steps =
      containers-present steps p
      ∙ (λ i. not (list_any (λ outer. gone_is_not_present items body actions (at outer) i) (containers steps)))

  all-there : (steps : List Step) → all_present (presence_along steps p) ≡ is_whole steps
  all-there steps =
      both-ways (all_present (presence_along steps p)) (is_whole steps)
      (λ h. (wholeness_is_tested items body actions (at steps)).1 ((whole_is_all_present items body actions (at steps)).0 h))
      (λ h. (whole_is_all_present items body actions (at steps)).1 ((wholeness_is_tested items body actions (at steps)).0 h))

  at-whole : (steps : List Step) → is_whole_at steps p ≡ (not (list_any gone (containers steps)) && is_whole steps)
  at-whole steps = λ i. in-container steps i && all-there steps i

  at-there : (steps : List Step) → is_there_at steps p ≡ (not (list_any gone (containers steps)) && not (gone steps))
  at-there steps = λ i. in-container steps i && not (gone_is_not_present items body actions (at steps) i)

  module _ (upto : List Step) (s : Step) (ends : counts items body (at (upto ++ s ∷ [])) ≡ false) where
    beyond : (more : List Step) → gone (upto ++ s ∷ more) ≡ gone upto
    beyond more = gone-beyond items body local upto s ends more actions

    whole-beyond : (more : List Step) → is_whole (upto ++ s ∷ more) ≡ not (gone upto)
    whole-beyond more = both-ways (is_whole (upto ++ s ∷ more)) (not (gone upto)) present all
      where
        present : is_whole (upto ++ s ∷ more) ≡ true → not (gone upto) ≡ true
        present h =
            not-false (gone upto) (sym (beyond (more ++ [])) ∙ subst (λ (z : List Step). gone z ≡ false) (append_assoc upto (s ∷ more) [])
            ((wholeness_is_tested items body actions (at (upto ++ s ∷ more))).0 h []))

        all : not (gone upto) ≡ true → is_whole (upto ++ s ∷ more) ≡ true
        all h = (wholeness_is_tested items body actions (at (upto ++ s ∷ more))).1
            (λ steps. ap gone (append_assoc upto (s ∷ more) steps) ∙ beyond (more ++ steps) ∙ not_gone (gone upto) h)

    container-beyond : (more : List Step) → list_any gone (containers (upto ++ s ∷ more)) ≡ (list_any gone (containers upto) || gone upto)
    container-beyond more = any-beyond gone upto s more beyond

  whole-is-there : (steps : List Step) → is_whole steps ≡ true → gone steps ≡ false
  whole-is-there steps h = subst (λ (z : List Step). gone z ≡ false) (append-nil steps) ((wholeness_is_tested items body actions (at steps)).0 h [])

  reaches_whole : Watched → Bool
  reaches_whole w = elim w.reach [ Whole ↦ true | ThroughReference ↦ false | ByElement ↦ false ]

  -- read, tested, stored
  pub record Agree (steps : List Step) (w : Watched) : Type 0 where
    pub read : may_use w p ≡ not (may_not_read items body actions (at steps))
    pub test : may_test w p ≡ not (may_not_test items body actions (at steps))
    pub store : may_store w p ≡ not (may_not_store items body actions (at steps))

  agree : (steps : List Step) (w : Watched) → Seen items (slice_get body.locals local) steps w → Agree steps w
  agree steps _ (whole none) = record {
    read = at-whole steps ∙ read-whole (list_any gone (containers steps)) (is_whole steps) (has_index steps) (not (is_whole (before_element steps))) none;
    test = at-there steps ∙ test-whole (list_any gone (containers steps)) (gone steps) (has_index steps) (not (is_whole (before_element steps))) none;
    store = in-container steps ∙ store-whole (list_any gone (containers steps)) (has_index steps) (not (is_whole (before_element steps))) none;
  }
  agree steps _ (reference upto more is not_whole array) = record {
    read = at-there upto ∙ read-reference c (gone upto) (has_index steps) ∙ ap not (sym (λ i. not (is-whole i) || container i || (has_index steps && not (is-array i))));
    test = at-there upto ∙ test-reference c (gone upto) (has_index steps) ∙ ap not (sym (λ i. is-gone i || container i || (has_index steps && not (is-array i))));
    store = at-there upto ∙ store-reference c (gone upto) (has_index steps) ∙ ap not (sym (λ i. container i || (has_index steps && not (is-array i))));
  }
    where
      c : Bool
      c = list_any gone (containers upto)

      ends : counts items body (at (upto ++ ToContent ∷ [])) ≡ false
      ends = ap (λ (r : Reach). elim r [ Whole ↦ true | ThroughReference ↦ false | ByElement ↦ false ]) not_whole

      is-whole : is_whole steps ≡ not (gone upto)
      is-whole = ap is_whole is ∙ whole-beyond upto ToContent ends more

      is-gone : gone steps ≡ gone upto
      is-gone = ap gone is ∙ beyond upto ToContent ends more

      container : list_any gone (containers steps) ≡ (c || gone upto)
      container = ap (λ (z : List Step). list_any gone (containers z)) is ∙ container-beyond upto ToContent ends more

      is-array : is_whole (before_element steps) ≡ not (gone upto)
      is-array = ap is_whole array ∙ whole-beyond upto ToContent ends (before_element more)
  agree steps _ (element upto more k is not_whole array has) = record {
    read = at-whole upto ∙ read-element c (gone upto) (is_whole upto) (whole-is-there upto) ∙ ap not (sym (λ i. not (is-whole i) || container i || broken i));
    test = at-whole upto ∙ test-element c (gone upto) (is_whole upto) (whole-is-there upto) ∙ ap not (sym (λ i. is-gone i || container i || broken i));
    store = at-whole upto ∙ store-element c (gone upto) (is_whole upto) (whole-is-there upto) ∙ ap not (sym (λ i. container i || broken i));
  }
    where
      c : Bool
      c = list_any gone (containers upto)

      ends : counts items body (at (upto ++ ToElement k ∷ [])) ≡ false
      ends = ap (λ (r : Reach). elim r [ Whole ↦ true | ThroughReference ↦ false | ByElement ↦ false ]) not_whole

      is-whole : is_whole steps ≡ not (gone upto)
      is-whole = ap is_whole is ∙ whole-beyond upto (ToElement k) ends more

      is-gone : gone steps ≡ gone upto
      is-gone = ap gone is ∙ beyond upto (ToElement k) ends more

      container : list_any gone (containers steps) ≡ (c || gone upto)
      container = ap (λ (z : List Step). list_any gone (containers z)) is ∙ container-beyond upto (ToElement k) ends more

      broken : (has_index steps && not (is_whole (before_element steps))) ≡ not (is_whole upto)
      broken = λ i. has i && not (is_whole (array i))

module _ (items : ItemTable) (body : Body) where
  pub is-allowed : (earlier : List PathAction) (a : PathAction)
      → allowed a.how (watched items (slice_get body.locals a.place.local) a.place.steps) (present_after items body earlier a.place.local)
      ≡ not (is_bad items body earlier a a.how)
  is-allowed earlier a = by a.how
    where
      it : Agree items body earlier a.place.local a.place.steps (watched items (slice_get body.locals a.place.local) a.place.steps)
      it = agree items body earlier a.place.local a.place.steps (watched items (slice_get body.locals a.place.local) a.place.steps) (seen items (slice_get body.locals a.place.local) a.place.steps)

      by : (how : PlaceUse) → allowed how (watched items (slice_get body.locals a.place.local) a.place.steps) (present_after items body earlier a.place.local)
          ≡ not (is_bad items body earlier a how)
      by Copies = it.read
      by Moves = it.read
      by Borrows = it.read
      by Touches = it.read
      by Tests = it.test
      by Stores = it.store
      by Drops = it.store
      by Frees = refl
