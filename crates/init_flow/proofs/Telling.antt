-- Paths tell what is gone: a place is gone where the last path along it is.
use Rattle.std.proofs.Common.{◌≡◌, ◌⊎◌, inl, inr, ℕ, zero, suc, ◌<◌, ◌≤◌, Bool, true, false, not, ◌&&◌, ◌||◌, if◌then◌else◌, List, [], ◌∷◌, ◌++◌, map, flat_map, take, length, Option, Some, None, Contains, refl, sym, ap, subst, ◌∙◌, arith}
use Rattle.std.specs.Prelude.{unwrap_or, ◌==◌}
use Rattle.std.specs.List.{list_any, list_all}
use Rattle.std.specs.Option.{option_or, is_some}
use Rattle.std.specs.Cmp.{first_so, second_so}
use Rattle.std.specs.Cmp.Derive.{both_true}
use Rattle.std.proofs.lemmas.Bool.{false≢true, cases_lt, cases_eq, lt-ltb, eqb-true, eq-eqb}
use Rattle.std.proofs.lemmas.List.{take-take, length-take-le}
use Rattle.mir_ty.specs.ItemTable.{ItemTable}
use Rattle.store_model.specs.Places.Place.{Place, Step, same_step, ToPart, ToField, ToContent, ToElement, before_element}
use Rattle.cfg_graph.specs.declared.graph.Body.{Body}
use Rattle.cfg_graph.specs.Places.{named}
use Rattle.cfg_graph.specs.Moves.Gone.{PathAction, leaves_gone, are_first, is_at_or_above, below, containers, has_index, counts, left_by, last_left, is_param, is_gone_after, is_whole_after, container_gone_after, array_broken_after}
use Rattle.cfg_graph.proofs.WholePlaces.{same_step-sound, same_step-refl, wholeness_is_tested}
use Rattle.move_paths.specs.Trie.{upto}
use Rattle.move_paths.specs.Forest.{PathForest, IsForest, is_path, is_local, is_above_change}
use Rattle.move_paths.specs.Uses.{block_uses}
use Rattle.move_paths.proofs.Above.{above-refl, upto-all}
use Rattle.move_paths.proofs.Finding.{first-is-take}
use Rattle.move_paths.proofs.Growth.{same_places}
use Rattle.move_paths.proofs.Naming.{either, left-or, right-or}
use Rattle.init_flow.specs.Concerns.{AreOfBody, BadWhereGone, UsesAreTold, array_of, in_array, concerns_read, concerns_test, concerns_store, some_gone}
use Rattle.init_flow.proofs.Marking.{transitive, same_true}

-- Prefixes.

pub local-same : (p q : Place) → is_at_or_above p q ≡ true → p.local ≡ q.local
local-same p q h = eqb-true p.local q.local (first_so (p.local == q.local) (are_first p.steps q.steps) h)

pub steps-first : (p q : Place) → is_at_or_above p q ≡ true → are_first p.steps q.steps ≡ true
steps-first p q h = second_so (p.local == q.local) (are_first p.steps q.steps) h

pub above-upto : (p q : Place) → is_at_or_above p q ≡ true → (p ≡ upto (length p.steps) q) × (length p.steps ≤ length q.steps)
above-upto p q h =
    let is = first-is-take p.steps q.steps (steps-first p q h) in
    (same_places p (upto (length p.steps) q) (local-same p q h) is.0, is.1)

first-take : (d : ℕ) (ys : List Step) → are_first (take d ys) ys ≡ true
first-take zero ys = refl
first-take (suc d) [] = refl
first-take (suc d) (y ∷ ys) = both_true (same_step-refl y) (first-take d ys)

pub upto-above : (d : ℕ) (q : Place) → is_at_or_above (upto d q) q ≡ true
upto-above d q = both_true (eq-eqb q.local q.local refl) (first-take d q.steps)

-- a shorter prefix is above a longer one
pub upto-upto : (d e : ℕ) (q : Place) → d ≤ e → is_at_or_above (upto d q) (upto e q) ≡ true
upto-upto d e q le =
    ap (λ (z : List Step). (q.local == q.local) && are_first z (take e q.steps)) (sym (take-take d e q.steps le))
    ∙ upto-above d (upto e q)

-- two places above one are above one another
comparable : (p q x : Place) → is_at_or_above p x ≡ true → is_at_or_above q x ≡ true → (is_at_or_above p q ≡ true) ⊎ (is_at_or_above q p ≡ true)
comparable p q x h k =
    let one = above-upto p x h in
    let two = above-upto q x k in
    elim (cases_lt (length q.steps) (length p.steps)) [
      | inl less ↦ inr (ap (λ (z : Place). is_at_or_above z p) two.0 ∙ ap (is_at_or_above (upto (length q.steps) x)) one.0 ∙ upto-upto (length q.steps) (length p.steps) x (omega (less, arith)))
      | inr more ↦ inl (ap (λ (z : Place). is_at_or_above z q) one.0 ∙ ap (is_at_or_above (upto (length p.steps) x)) two.0 ∙ upto-upto (length p.steps) (length q.steps) x more)
    ]

-- Lists of containers.

any-map : {X Y : Type 0} (f : Y → Bool) (g : X → Y) (xs : List X) → list_any f (map g xs) ≡ list_any (λ x. f (g x)) xs
any-map f g [] = refl
any-map f g (x ∷ xs) = ap (λ (b : Bool). f (g x) || b) (any-map f g xs)

container-forth : (f : List Step → Bool) (steps : List Step) → list_any f (containers steps) ≡ true → (d : ℕ) × (d < length steps) × (f (take d steps) ≡ true)
container-forth f [] h = absurd (false≢true h)
container-forth f (step ∷ steps) h = elim (either (f []) (list_any f (map (λ outer. step ∷ outer) (containers steps))) h) [
  | inl here ↦ (0, omega arith, here)
  | inr later ↦ (let it = container-forth (λ outer. f (step ∷ outer)) steps (sym (any-map f (λ outer. step ∷ outer) (containers steps)) ∙ later) in
      (suc it.0, (let k = it.1 in omega (k, arith)), it.2))
]

container-back : (f : List Step → Bool) (steps : List Step) (d : ℕ) → d < length steps → f (take d steps) ≡ true → list_any f (containers steps) ≡ true
container-back f [] d h k = absurd (omega (h, arith))
container-back f (step ∷ steps) zero h k = left-or (f []) (list_any f (map (λ outer. step ∷ outer) (containers steps))) k
container-back f (step ∷ steps) (suc d) h k =
    right-or (f []) (list_any f (map (λ outer. step ∷ outer) (containers steps)))
    (any-map f (λ outer. step ∷ outer) (containers steps) ∙ container-back (λ outer. f (step ∷ outer)) steps d (omega (h, arith)) k)

pub any-has : {X : Type 0} (f : X → Bool) (xs : List X) (x : X) → Contains xs x → f x ≡ true → list_any f xs ≡ true
any-has f [] x has h = absurd (let k = has.1 in omega (k, arith))
any-has f (y ∷ xs) x (zero, within, is) h = left-or (f y) (list_any f xs) (ap f is ∙ h)
any-has f (y ∷ xs) x (suc k, within, is) h = right-or (f y) (list_any f xs) (any-has f xs x (k, omega (within, arith), is) h)

pub any-some : {X : Type 0} (f : X → Bool) (xs : List X) → list_any f xs ≡ true → (x : X) × Contains xs x × (f x ≡ true)
any-some f [] h = absurd (false≢true h)
any-some f (x ∷ xs) h = elim (either (f x) (list_any f xs) h) [
  | inl here ↦ (x, (0, omega arith, refl), here)
  | inr later ↦ (let it = any-some f xs later in (it.0, (suc it.1.0, (let k = it.1.1 in omega (k, arith)), it.1.2), it.2))
]

not-all : {X : Type 0} (f : X → Bool) (xs : List X) → not (list_all (λ x. not (f x)) xs) ≡ true → (x : X) × (f x ≡ true)
not-all f [] h = absurd (false≢true h)
not-all {X} f (x ∷ xs) h = by (not-all f xs) (f x) refl h
  where
    by : (not (list_all (λ x. not (f x)) xs) ≡ true → (y : X) × (f y ≡ true)) → (b : Bool) → f x ≡ b → not (not b && list_all (λ x. not (f x)) xs) ≡ true → (y : X) × (f y ≡ true)
    by again true e k = (x, e)
    by again false e k = again k

module _ (items : ItemTable) (body : Body) (forest : PathForest) (is : IsForest items body forest) where
  abbrev paths : List Place
  paths = forest.paths

  abbrev In : PathAction → Type 0
  In a = is_some (leaves_gone a.how) ≡ true → counts items body a.place ≡ true → a.place.local < length body.locals → Contains paths a.place

  pub of-body : (earlier : List PathAction) → AreOfBody body earlier → (a : PathAction) → Contains earlier a → In a
  of-body earlier are a has changes watched within =
      let it = are a has in
      let made = it.0 in
      subst (Contains paths) (sym it.3)
      ((is.each (named made.1)).1
      (both_true (lt-ltb made.1.local (length body.locals) (let k = ap (λ (p : Place). p.local) it.3 in omega (k, within, arith)))
      (right-or (is_local (named made.1).steps) (list_any (is_above_change items body (named made.1)) (flat_map block_uses body.blocks))
      (any-has (is_above_change items body (named made.1)) (flat_map block_uses body.blocks) made it.1
      (both_true (both_true (ap (λ z. is_some (leaves_gone z)) (sym it.2) ∙ changes) (ap (counts items body) (sym it.3) ∙ watched)) (above-refl (named made.1)))))))

  -- the last path along a place
  pub record Last (x : Place) : Type 0 where
    pub path : Place
    pub has : Contains paths path
    pub above : is_at_or_above path x ≡ true
    pub last : (p : Place) → Contains paths p → is_at_or_above p x ≡ true → is_at_or_above p path ≡ true

  from : (x : Place) → x.local < length body.locals → (d : ℕ) → ((k : ℕ) → d < k → k ≤ length x.steps → ¬ Contains paths (upto k x)) → Last x
  from x within zero none = record {
    path = upto 0 x;
    has = (is.each (upto 0 x)).1 (both_true (lt-ltb x.local (length body.locals) within) refl);
    above = upto-above 0 x;
    last = λ p has up. (let it = above-upto p x up in
        elim (cases_lt 0 (length p.steps)) [
          | inl further ↦ absurd (none (length p.steps) further it.1 (subst (Contains paths) it.0 has))
          | inr fits ↦ ap (λ (z : Place). is_at_or_above z (upto 0 x)) it.0 ∙ upto-upto (length p.steps) 0 x fits
        ]);
  }
  from x within (suc d) none = by (from x within d) (is_path items body (upto (suc d) x)) refl
    where
      by : (((k : ℕ) → d < k → k ≤ length x.steps → ¬ Contains paths (upto k x)) → Last x) → (b : Bool) → is_path items body (upto (suc d) x) ≡ b → Last x
      by further true e = record {
        path = upto (suc d) x;
        has = (is.each (upto (suc d) x)).1 e;
        above = upto-above (suc d) x;
        last = λ p has up. (let it = above-upto p x up in
            elim (cases_lt (suc d) (length p.steps)) [
              | inl further ↦ absurd (none (length p.steps) further it.1 (subst (Contains paths) it.0 has))
              | inr fits ↦ ap (λ (z : Place). is_at_or_above z (upto (suc d) x)) it.0 ∙ upto-upto (length p.steps) (suc d) x fits
            ]);
      }
      by further false e = further (λ k more fits has. elim (cases_eq k (suc d)) [
        | inl same ↦ false≢true (sym e ∙ (is.each (upto (suc d) x)).0 (subst (λ (z : ℕ). Contains paths (upto z x)) same has))
        | inr other ↦ none k (omega (more, other, arith)) fits has
      ])

  pub last-path : (x : Place) → x.local < length body.locals → Last x
  last-path x within = from x within (length x.steps) (λ k more fits has. absurd (omega (more, fits, arith)))

  module _ (earlier : List PathAction) (are : AreOfBody body earlier) where
    abbrev gone : Place → Bool
    gone x = is_gone_after items body earlier x

    left-same : (x : Place) → x.local < length body.locals → (l : Last x) (a : PathAction) → In a → left_by items body x a ≡ left_by items body l.path a
    left-same x within l a inside = by (leaves_gone a.how) refl (counts items body a.place) refl
      where
        none : (b : Bool) (o : Option Bool) → (if b then o else o) ≡ o
        none true o = refl
        none false o = refl

        by : (o : Option Bool) → leaves_gone a.how ≡ o → (c : Bool) → counts items body a.place ≡ c
            → (if c && is_at_or_above a.place x then o else None) ≡ (if c && is_at_or_above a.place l.path then o else None)
        by None e c w = none (c && is_at_or_above a.place x) None ∙ sym (none (c && is_at_or_above a.place l.path) None)
        by (Some t) e false w = refl
        by (Some t) e true w =
            ap (λ (b : Bool). if b then Some t else None)
            (same_true (is_at_or_above a.place x) (is_at_or_above a.place l.path)
            (λ up. l.last a.place (inside (ap is_some e) w (let k = local-same a.place x up in omega (k, within, arith))) up)
            (λ up. transitive a.place l.path x up l.above))

    gone-same : (x : Place) → x.local < length body.locals → (l : Last x) → gone x ≡ gone l.path
    gone-same x within l =
        ap (λ (o : Option Bool). unwrap_or o (not (is_param items body x.local))) (each earlier (of-body earlier are))
        ∙ ap (λ (n : ℕ). unwrap_or (last_left items body l.path earlier) (not (is_param items body n))) (sym (local-same l.path x l.above))
      where
        each : (actions : List PathAction) → ((a : PathAction) → Contains actions a → In a) → last_left items body x actions ≡ last_left items body l.path actions
        each [] inside = refl
        each (a ∷ actions) inside =
            λ i. option_or (each actions (λ b has. inside b (suc has.0, (let k = has.1 in omega (k, arith)), has.2)) i) (left-same x within l a (inside a (0, omega arith, refl)) i)

    -- a gone path that is above a place or below it
    abbrev GoneNear : Place → Type 0
    GoneNear x = (q : Place) × Contains paths q × (gone q ≡ true) × ((is_at_or_above q x ≡ true) ⊎ (is_at_or_above x q ≡ true))

    gone-above : (x : Place) → x.local < length body.locals → gone x ≡ true → (q : Place) × Contains paths q × (gone q ≡ true) × (is_at_or_above q x ≡ true)
    gone-above x within h = let l = last-path x within in (l.path, l.has, sym (gone-same x within l) ∙ h, l.above)

    -- what is not whole has a gone path above it or below it
    broken-near : (x : Place) → x.local < length body.locals → not (is_whole_after items body earlier x) ≡ true → GoneNear x
    broken-near x within h = by (gone x) refl h
      where
        below-it : (a : PathAction) × ((is_at_or_above x a.place && gone a.place) ≡ true) → GoneNear x
        below-it it =
            let over = first_so (is_at_or_above x it.0.place) (gone it.0.place) it.1 in
            let g = gone-above it.0.place (let k = local-same x it.0.place over in omega (k, within, arith)) (second_so (is_at_or_above x it.0.place) (gone it.0.place) it.1) in
            (g.0, g.1, g.2, comparable g.0 x it.0.place g.3 over)

        by : (b : Bool) → gone x ≡ b → not (not b && list_all (λ action. not (is_at_or_above x action.place && gone action.place)) earlier) ≡ true → GoneNear x
        by true e k = let g = gone-above x within e in (g.0, g.1, g.2, inl g.3)
        by false e k = below-it (not-all (λ (action : PathAction). is_at_or_above x action.place && gone action.place) earlier k)

    -- and what has one below it is not whole
    broken-by : (x q : Place) → gone q ≡ true → is_at_or_above x q ≡ true → not (is_whole_after items body earlier x) ≡ true
    broken-by x q g up = by (is_whole_after items body earlier x) refl
      where
        rest : (xs ys : List Step) → are_first xs ys ≡ true → (zs : List Step) × (ys ≡ xs ++ zs)
        rest [] ys h = (ys, refl)
        rest (x ∷ xs) [] h = absurd (false≢true h)
        rest (x ∷ xs) (y ∷ ys) h =
            let one = same_step-sound x y (first_so (same_step x y) (are_first xs ys) h) in
            let it = rest xs ys (second_so (same_step x y) (are_first xs ys) h) in
            (it.0, λ i. sym one i ∷ it.1 i)

        by : (b : Bool) → is_whole_after items body earlier x ≡ b → not b ≡ true
        by false e = refl
        by true e =
            let it = rest x.steps q.steps (steps-first x q up) in
            let same : q ≡ below x it.0 = same_places q (below x it.0) (sym (local-same x q up)) it.1 in
            absurd (false≢true (sym ((wholeness_is_tested items body earlier x).0 e it.0) ∙ ap gone (sym same) ∙ g))

    container-near : (x : Place) → x.local < length body.locals → container_gone_after items body earlier x ≡ true
        → (q : Place) × Contains paths q × (gone q ≡ true) × (is_at_or_above q x ≡ true) × (is_at_or_above x q ≡ false)
    container-near x within h =
        let it = container-forth (λ outer. gone (record { local = x.local; steps = outer })) x.steps h in
        let g = gone-above (upto it.0 x) within it.2 in
        let short = above-upto g.0 (upto it.0 x) g.3 in
        let cut = length-take-le it.0 x.steps (let k = it.1 in omega (k, arith)) in (
          g.0,
          g.1,
          g.2,
          transitive g.0 (upto it.0 x) x g.3 (upto-above it.0 x),
          not_true (is_at_or_above x g.0) (λ up. let long = (above-upto x g.0 up).1 in let a = short.1 in let b = it.1 in omega (long, a, b, cut, arith)),
        )
      where
        not_true : (b : Bool) → (b ≡ true → ⊥) → b ≡ false
        not_true true h = absurd (h refl)
        not_true false h = refl

    -- a gone path above a place is the place, or a container of it
    container-by : (x q : Place) → gone q ≡ true → is_at_or_above q x ≡ true → (container_gone_after items body earlier x ≡ true) ⊎ (gone x ≡ true)
    container-by x q g up =
        let it = above-upto q x up in
        elim (cases_lt (length q.steps) (length x.steps)) [
          | inl less ↦ inl (container-back (λ outer. gone (record { local = x.local; steps = outer })) x.steps (length q.steps) less (ap gone (sym it.0) ∙ g))
          | inr all ↦ inr (ap gone (sym (upto-all (length q.steps) x all)) ∙ ap gone (sym it.0) ∙ g)
        ]

    -- where the array of an index is not whole
    array-near : (x : Place) → x.local < length body.locals → array_broken_after items body earlier x ≡ true
        → (q : Place) × Contains paths q × (gone q ≡ true) × ((in_array q x ≡ true) ⊎ ((is_at_or_above q x ≡ true) × (is_at_or_above x q ≡ false)))
    array-near x within h =
        let index = first-so-index x h in
        let b = broken-near (array_of x) within (second_so (has_index x.steps) (not (is_whole_after items body earlier (array_of x))) h) in (
          b.0,
          b.1,
          b.2,
          elim b.3 [
            | inl up ↦ inr (
              transitive b.0 (array_of x) x up (array-above x),
              not_true (is_at_or_above x b.0) (λ down.
                  let long = (above-upto x b.0 down).1 in let short = (above-upto b.0 (array_of x) up).1 in let less = shorter x.steps index in omega (long, short, less, arith)),
            )
            | inr down ↦ inl (both_true index down)
          ],
        )
      where
        not_true : (b : Bool) → (b ≡ true → ⊥) → b ≡ false
        not_true true h = absurd (h refl)
        not_true false h = refl

        first-so-index : (x : Place) → array_broken_after items body earlier x ≡ true → has_index x.steps ≡ true
        first-so-index x h = first_so (has_index x.steps) (not (is_whole_after items body earlier (array_of x))) h

        shorter : (steps : List Step) → has_index steps ≡ true → length (before_element steps) < length steps
        shorter [] h = absurd (false≢true h)
        shorter (ToPart n ∷ steps) h = let k = shorter steps h in omega (k, arith)
        shorter (ToField v n ∷ steps) h = let k = shorter steps h in omega (k, arith)
        shorter (ToContent ∷ steps) h = let k = shorter steps h in omega (k, arith)
        shorter (ToElement i ∷ steps) h = omega arith

        before-first : (steps : List Step) → are_first (before_element steps) steps ≡ true
        before-first [] = refl
        before-first (ToPart n ∷ steps) = both_true (same_step-refl (ToPart n)) (before-first steps)
        before-first (ToField v n ∷ steps) = both_true (same_step-refl (ToField v n)) (before-first steps)
        before-first (ToContent ∷ steps) = before-first steps
        before-first (ToElement i ∷ steps) = refl

        array-above : (x : Place) → is_at_or_above (array_of x) x ≡ true
        array-above x = both_true (eq-eqb x.local x.local refl) (before-first x.steps)

    told : (test : Place → Bool) (q : Place) → Contains paths q → gone q ≡ true → test q ≡ true → some_gone items body earlier paths test ≡ true
    told test q has g t = any-has (λ path. test path && gone path) paths q has (both_true t g)

    array-by : (x q : Place) → gone q ≡ true → in_array q x ≡ true → array_broken_after items body earlier x ≡ true
    array-by x q g h =
        both_true (first_so (has_index x.steps) (is_at_or_above (array_of x) q) h)
        (broken-by (array_of x) q g (second_so (has_index x.steps) (is_at_or_above (array_of x) q) h))

    pub bad-where-gone : (x : Place) → x.local < length body.locals → BadWhereGone items body paths earlier x
    bad-where-gone x within = record { read = same_true _ _ read-forth read-back; test = same_true _ _ test-forth test-back; store = same_true _ _ store-forth store-back }
      where
        broken : Bool
        broken = not (is_whole_after items body earlier x)

        container : Bool
        container = container_gone_after items body earlier x

        array : Bool
        array = array_broken_after items body earlier x

        array-told : (test : Place → Bool) → ((q : Place) → in_array q x ≡ true → test q ≡ true) → ((q : Place) → is_at_or_above q x ≡ true → is_at_or_above x q ≡ false → test q ≡ true)
            → array ≡ true → some_gone items body earlier paths test ≡ true
        array-told test inside over h =
            let a = array-near x within h in
            told test a.0 a.1 a.2 (elim a.3 [ inl i ↦ inside a.0 i | inr o ↦ over a.0 o.0 o.1 ])

        container-told : (test : Place → Bool) → ((q : Place) → is_at_or_above q x ≡ true → is_at_or_above x q ≡ false → test q ≡ true) → container ≡ true → some_gone items body earlier paths test ≡ true
        container-told test over h = let c = container-near x within h in told test c.0 c.1 c.2 (over c.0 c.3 c.4)

        above-read : (q : Place) → is_at_or_above q x ≡ true → concerns_read q x ≡ true
        above-read q h = left-or (is_at_or_above q x) (is_at_or_above x q || in_array q x) h

        below-read : (q : Place) → is_at_or_above x q ≡ true → concerns_read q x ≡ true
        below-read q h = right-or (is_at_or_above q x) (is_at_or_above x q || in_array q x) (left-or (is_at_or_above x q) (in_array q x) h)

        array-read : (q : Place) → in_array q x ≡ true → concerns_read q x ≡ true
        array-read q h = right-or (is_at_or_above q x) (is_at_or_above x q || in_array q x) (right-or (is_at_or_above x q) (in_array q x) h)

        read-forth : ((broken || container) || array) ≡ true → some_gone items body earlier paths (λ path. concerns_read path x) ≡ true
        read-forth h = elim (either (broken || container) array h) [
          | inl one ↦ elim (either broken container one) [
            | inl b ↦ (let g = broken-near x within b in told (λ path. concerns_read path x) g.0 g.1 g.2 (elim g.3 [ inl up ↦ above-read g.0 up | inr down ↦ below-read g.0 down ]))
            | inr c ↦ container-told (λ path. concerns_read path x) (λ q up _. above-read q up) c
          ]
          | inr a ↦ array-told (λ path. concerns_read path x) array-read (λ q up _. above-read q up) a
        ]

        read-back : some_gone items body earlier paths (λ path. concerns_read path x) ≡ true → ((broken || container) || array) ≡ true
        read-back h =
            let it = any-some (λ path. concerns_read path x && gone path) paths h in
            let g = second_so (concerns_read it.0 x) (gone it.0) it.2 in
            elim (either (is_at_or_above it.0 x) (is_at_or_above x it.0 || in_array it.0 x) (first_so (concerns_read it.0 x) (gone it.0) it.2)) [
              | inl up ↦ left-or (broken || container) array (elim (container-by x it.0 g up) [
                | inl c ↦ right-or broken container c
                | inr self ↦ left-or broken container (broken-by x x self (above-refl x))
              ])
              | inr more ↦ elim (either (is_at_or_above x it.0) (in_array it.0 x) more) [
                | inl down ↦ left-or (broken || container) array (left-or broken container (broken-by x it.0 g down))
                | inr a ↦ right-or (broken || container) array (array-by x it.0 g a)
              ]
            ]

        test-forth : ((gone x || container) || array) ≡ true → some_gone items body earlier paths (λ path. concerns_test path x) ≡ true
        test-forth h = elim (either (gone x || container) array h) [
          | inl one ↦ elim (either (gone x) container one) [
            | inl self ↦ (let a = gone-above x within self in told (λ path. concerns_test path x) a.0 a.1 a.2 (left-or (is_at_or_above a.0 x) (in_array a.0 x) a.3))
            | inr c ↦ container-told (λ path. concerns_test path x) (λ q up _. left-or (is_at_or_above q x) (in_array q x) up) c
          ]
          | inr a ↦ array-told (λ path. concerns_test path x) (λ q i. right-or (is_at_or_above q x) (in_array q x) i) (λ q up _. left-or (is_at_or_above q x) (in_array q x) up) a
        ]

        test-back : some_gone items body earlier paths (λ path. concerns_test path x) ≡ true → ((gone x || container) || array) ≡ true
        test-back h =
            let it = any-some (λ path. concerns_test path x && gone path) paths h in
            let g = second_so (concerns_test it.0 x) (gone it.0) it.2 in
            elim (either (is_at_or_above it.0 x) (in_array it.0 x) (first_so (concerns_test it.0 x) (gone it.0) it.2)) [
              | inl up ↦ left-or (gone x || container) array (elim (container-by x it.0 g up) [ inl c ↦ right-or (gone x) container c | inr self ↦ left-or (gone x) container self ])
              | inr a ↦ right-or (gone x || container) array (array-by x it.0 g a)
            ]

        strictly : (q : Place) → is_at_or_above q x ≡ true → is_at_or_above x q ≡ false → concerns_store q x ≡ true
        strictly q up not_down = left-or (is_at_or_above q x && not (is_at_or_above x q)) (in_array q x) (both_true up (ap not not_down))

        store-forth : (container || array) ≡ true → some_gone items body earlier paths (λ path. concerns_store path x) ≡ true
        store-forth h = elim (either container array h) [
          | inl c ↦ container-told (λ path. concerns_store path x) strictly c
          | inr a ↦ array-told (λ path. concerns_store path x) (λ q i. right-or (is_at_or_above q x && not (is_at_or_above x q)) (in_array q x) i) strictly a
        ]

        store-back : some_gone items body earlier paths (λ path. concerns_store path x) ≡ true → (container || array) ≡ true
        store-back h =
            let it = any-some (λ path. concerns_store path x && gone path) paths h in
            let g = second_so (concerns_store it.0 x) (gone it.0) it.2 in
            elim (either (is_at_or_above it.0 x && not (is_at_or_above x it.0)) (in_array it.0 x) (first_so (concerns_store it.0 x) (gone it.0) it.2)) [
              | inl up ↦ left-or container array (proper it.0 g (first_so (is_at_or_above it.0 x) (not (is_at_or_above x it.0)) up) (second_so (is_at_or_above it.0 x) (not (is_at_or_above x it.0)) up))
              | inr a ↦ right-or container array (array-by x it.0 g a)
            ]
          where
            proper : (q : Place) → gone q ≡ true → is_at_or_above q x ≡ true → not (is_at_or_above x q) ≡ true → container ≡ true
            proper q g up other =
                let at = above-upto q x up in
                elim (cases_lt (length q.steps) (length x.steps)) [
                  | inl less ↦ container-back (λ outer. gone (record { local = x.local; steps = outer })) x.steps (length q.steps) less (ap gone (sym at.0) ∙ g)
                  | inr all ↦ (let same : q ≡ x = at.0 ∙ upto-all (length q.steps) x all in
                      absurd (false≢true (sym (ap not (ap (is_at_or_above x) same ∙ above-refl x)) ∙ other)))
                ]

pub uses-are-told : UsesAreTold
uses-are-told items body forest earlier place is are within = bad-where-gone items body forest is earlier are place within
