-- Kinds of drops and needed flags by computation, in a body without a turn: from what all its paths do.
use Rattle.std.proofs.Common.{◌≡◌, ◌↔◌, ◌⊎◌, inl, inr, ◌∙◌, ◌∷◌, [], ◌++◌, ◌&&◌, ◌||◌, ◌==◌, ◌+◌, ◌<◌, ℕ, zero, suc, Bool, true, false, not, List, Option, Some, None, Contains, filter, length, map, slice_get, refl, sym, ap, subst, if◌then◌else◌, arith}
use Rattle.std.specs.List.{list_any, list_all, range_with_len}
use Rattle.std.specs.Option.{option_map_or, option_or}
use Rattle.std.specs.Prelude.{is_some, option_and_then, option_map, unwrap_or}
use Rattle.std.specs.Cmp.{first_so, second_so}
use Rattle.std.specs.Cmp.Derive.{both_true}
use Rattle.std.proofs.lemmas.Bool.{false≢true, eqb-true, eq-eqb}
use Rattle.std.proofs.lemmas.List.FromFn.{get_or-range_with_len, length-range_with_len}
use Rattle.std.proofs.lemmas.Option.{none-some, same_Some, slice_get_within, slice_get-get_or, slice_get-map}
use Rattle.mir_ty.specs.declared.ty.TyId.{TyId}
use Rattle.mir_ty.specs.Facts.{needs_drop, has_drop_impl}
use Rattle.mir_ty.specs.ItemTable.{ItemTable}
use Rattle.mir_ty.proofs.ListLemmas.{Contains-slice_get, slice_get-Contains}
use Rattle.cfg_graph.proofs.WholePlaces.{same_step-sound, wholeness_is_tested}
use Rattle.cfg_graph.specs.declared.graph.Block.{Block}
use Rattle.cfg_graph.specs.declared.graph.Body.{Body}
use Rattle.cfg_graph.specs.declared.terminator.Term.{Term}
use Rattle.cfg_graph.specs.Moves.Gone.{PathAction, are_first, below, containers, counts, is_at_or_above, is_gone_after, is_whole_after, leaves_gone, left_by, last_left, is_param}
use Rattle.cfg_graph.specs.NamedPlaces.{same_place}
use Rattle.cfg_graph.specs.Places.{named}
use Rattle.move_paths.proofs.Above.{above-refl, above-stays}
use Rattle.store_model.specs.Places.Place.{Place, Step, same_step}
use Rattle.drop_elaborate.proofs.Refilled.{same-places, same-itself}
use Rattle.drop_elaborate.specs.Kinds.{Comes, IsDrop, IsDead, IsSure, IsOpenable, IsKind, Dead, Plain, Conditional, Opened, MayBe, NeedsFlag, IsFlagged, AreFlagged, place_id, stays_within, is_numbered}
use Rattle.drop_kinds.proofs.AllWays.{end_within, all_come, some_comes, each-comes, one-comes, all-of, some-of}

is-not : (b : Bool) → not b ≡ true → b ≡ false
is-not true h = absurd (false≢true h)
is-not false h = refl

not-both : (b : Bool) → b ≡ true → b ≡ false → ⊥
not-both b on off = false≢true (sym off ∙ on)

either-on : (a b : Bool) → (a || b) ≡ true → (a ≡ true) ⊎ (b ≡ true)
either-on true b h = inl refl
either-on false b h = inr h

-- the block of a drop, and its place
abbrev drop_place : Term → Option Place
drop_place (Term.DropAt place next unwind) = Some (named place)
drop_place term = None

abbrev pub drops_nothing : Body → Bool
drops_nothing body = list_all (λ block. not (is_some (drop_place block.term))) body.blocks

-- the first steps of a longer list
split-first : (xs ys zs : List Step) → are_first xs (ys ++ zs) ≡ true → (are_first xs ys ≡ true)
    ⊎ (are_first ys xs ≡ true)
split-first xs [] zs h = inr refl
split-first [] (y ∷ ys) zs h = inl refl
split-first (x ∷ xs) (y ∷ ys) zs h =
    elim (split-first xs ys zs (second_so (same_step x y) (are_first xs (ys ++ zs)) h)) [
      | inl up ↦ inl (both_true (first_so (same_step x y) (are_first xs (ys ++ zs)) h) up)
      | inr down ↦ inr (both_true (turned x y (first_so (same_step x y) (are_first xs (ys ++ zs)) h)) down)
    ]
  where
    turned : (a b : Step) → same_step a b ≡ true → same_step b a ≡ true
    turned a b e = let same = same_step-sound a b e in subst (λ (z : Step). same_step z a ≡ true) same
        (subst (λ (z : Step). same_step a z ≡ true) (sym same) e)

-- a block ends in one drop
pub one-drop : (items : ItemTable) (body : Body) (n : ℕ) (one other : Place) → IsDrop items body n one →
    IsDrop items body n other → one ≡ other
one-drop items body n one other a b =
    let blocks : a.block ≡ b.block = same_Some a.block b.block (sym a.there ∙ b.there) in
    let terms : Term.DropAt a.dropped a.next a.unwind ≡ Term.DropAt b.dropped b.next b.unwind =
    sym a.term_is ∙ ap (λ (z : Block). z.term) blocks ∙ b.term_is in
    let same : a.dropped ≡ b.dropped = cc in a.place_is ∙ ap named same ∙ sym b.place_is

module _ (items : ItemTable) (body : Body) (fuel : ℕ) (ends : end_within items body fuel 0 ≡ true) where
  -- an action changes nothing, or is not strictly below a place
  abbrev is_idle : PathAction → Bool
  is_idle action = not (is_some (leaves_gone action.how))

  abbrev is_beside : Place → PathAction → Bool
  is_beside place action = not (is_at_or_above place action.place) || is_at_or_above action.place place

  -- nothing is changed strictly below a place
  abbrev untouched_below : Place → List PathAction → Bool
  untouched_below place before = list_all (λ action. is_idle action || is_beside place action) before

  left-none : (q : Place) (action : PathAction) → is_idle action ≡ true → left_by items body q action ≡ None
  left-none q action idle = by (counts items body action.place && is_at_or_above action.place q)
      (leaves_gone action.how) idle
    where
      by : (b : Bool) (o : Option Bool) → not (is_some o) ≡ true → (if b then o else None) ≡ None
      by true None e = refl
      by false None e = refl
      by b (Some x) e = absurd (false≢true e)

  same-beside : (place : Place) (steps : List Step) (action : PathAction) → is_beside place action ≡ true →
      left_by items body (below place steps) action ≡ left_by items body place action
  same-beside place steps action h = by (is_at_or_above action.place place) refl
      (is_at_or_above action.place (below place steps)) refl
    where
      by : (a : Bool) → is_at_or_above action.place place ≡ a → (b : Bool) →
          is_at_or_above action.place (below place steps) ≡ b →
          left_by items body (below place steps) action ≡ left_by items body place action
      by true ea b eb =
          (λ i. if counts items body action.place && both i then leaves_gone action.how else None)
        where
          both : is_at_or_above action.place (below place steps) ≡ is_at_or_above action.place place
          both = above-stays action.place place steps ea ∙ sym ea
      by false ea false eb =
          (λ i. if counts items body action.place && both i then leaves_gone action.how else None)
        where
          both : is_at_or_above action.place (below place steps) ≡ is_at_or_above action.place place
          both = eb ∙ sym ea
      by false ea true eb = absurd (elim (split-first action.place.steps place.steps steps
          (second_so (action.place.local == place.local) (are_first action.place.steps (place.steps ++ steps)) eb)) [
            | inl up ↦ not-both (is_at_or_above action.place place) (both_true local up) ea
            | inr down ↦ never (is_at_or_above place action.place) (both_true (turned local) down) h
          ])
        where
          local : (action.place.local == place.local) ≡ true
          local = first_so (action.place.local == place.local) (are_first action.place.steps (place.steps ++ steps)) eb

          turned : (action.place.local == place.local) ≡ true → (place.local == action.place.local) ≡ true
          turned e = eq-eqb place.local action.place.local (sym (eqb-true action.place.local place.local e))

          never : (b : Bool) → b ≡ true → (not b || is_at_or_above action.place place) ≡ true → ⊥
          never true e k = not-both (is_at_or_above action.place place) k ea
          never false e k = false≢true e

  same-left : (place : Place) (steps : List Step) (action : PathAction) →
      (is_idle action || is_beside place action) ≡ true →
      left_by items body (below place steps) action ≡ left_by items body place action
  same-left place steps action h = elim (either-on (is_idle action) (is_beside place action) h) [
    | inl idle ↦ left-none (below place steps) action idle ∙ sym (left-none place action idle)
    | inr beside ↦ same-beside place steps action beside
  ]

  same-last : (place : Place) (steps : List Step) (before : List PathAction) → untouched_below place before ≡ true →
      last_left items body (below place steps) before ≡ last_left items body place before
  same-last place steps [] h = refl
  same-last place steps (action ∷ later) h =
      let one = same-left place steps action
      (first_so (is_idle action || is_beside place action) (untouched_below place later) h) in
      let rest = same-last place steps later
      (second_so (is_idle action || is_beside place action) (untouched_below place later) h) in
      (λ i. option_or (rest i) (one i))

  abbrev pub all_gone : Place → List PathAction → Bool
  all_gone place before = is_gone_after items body before place && untouched_below place before

  pub gone-below : (place : Place) (steps : List Step) (before : List PathAction) → all_gone place before ≡ true →
      is_gone_after items body before (below place steps) ≡ true
  gone-below place steps before h =
      ap (λ (o : Option Bool). unwrap_or o (not (is_param items body place.local)))
      (same-last place steps before
      (second_so (is_gone_after items body before place) (untouched_below place before) h))
      ∙ first_so (is_gone_after items body before place) (untouched_below place before) h

  module _ (n : ℕ) (place : Place) where
    abbrev pub all_whole : Bool
    all_whole = all_come items body fuel n (λ before. is_whole_after items body before place)

    abbrev pub some_broken : Bool
    some_broken = some_comes items body fuel n (λ before. not (is_whole_after items body before place))

    abbrev pub all_dead : Bool
    all_dead = all_come items body fuel n (λ before. all_gone place before)

    abbrev pub some_there : List Step → Bool
    some_there steps = some_comes items body fuel n
        (λ before. not (is_gone_after items body before (below place steps)))

    pub dead-by : all_dead ≡ true → IsKind items body n place Dead
    dead-by all before steps id c stays typed numbered =
        gone-below place steps before (each-comes items body fuel n (λ b. all_gone place b) ends all before c)

    -- something numbered at the end of these steps is there on some path
    pub alive-by : (steps : List Step) (id : TyId) → stays_within items body place steps ≡ true →
        place_id items body (below place steps) ≡ Some id → is_numbered items body id ≡ true → some_there steps ≡ true →
        IsDead items body n place → ⊥
    alive-by steps id stays typed numbered some dead =
        let it = one-comes items body fuel n (λ before. not (is_gone_after items body before (below place steps)))
        some in
        not-both (is_gone_after items body it.0 (below place steps)) (dead it.0 steps id it.1 stays typed numbered)
        (is-not (is_gone_after items body it.0 (below place steps)) it.2)

    pub sure-by : all_whole ≡ true → IsSure items body n place
    sure-by all before c =
        (wholeness_is_tested items body before place).0
        (each-comes items body fuel n (λ b. is_whole_after items body b place) ends all before c)

    pub unsure-by : some_broken ≡ true → IsSure items body n place → ⊥
    unsure-by some sure =
        let it = one-comes items body fuel n (λ before. not (is_whole_after items body before place)) some in
        not-both (is_whole_after items body it.0 place) ((wholeness_is_tested items body it.0 place).1 (sure it.0 it.1))
        (is-not (is_whole_after items body it.0 place) it.2)

    -- the place is gone on some path, or there
    pub may-be-gone : some_comes items body fuel n (λ before. is_gone_after items body before place) ≡ true →
        MayBe items body n place true
    may-be-gone some = one-comes items body fuel n (λ before. is_gone_after items body before place) some

    pub may-be-there : some_comes items body fuel n (λ before. not (is_gone_after items body before place)) ≡ true →
        MayBe items body n place false
    may-be-there some =
        let it = one-comes items body fuel n (λ before. not (is_gone_after items body before place)) some in
        (it.0, it.1, is-not (is_gone_after items body it.0 place) it.2)

    -- no container of the end of these steps has a `Drop` impl
    abbrev pub all_apart : List Step → Bool
    all_apart steps =
        list_all (λ upper. not (option_map_or (has_drop_impl items) (place_id items body (below place upper)) false))
        (containers steps)

    pub apart-by : (steps : List Step) → all_apart steps ≡ true → (upper lower : List Step) (step : Step)
        (outer : TyId) →
        steps ≡ upper ++ step ∷ lower → place_id items body (below place upper) ≡ Some outer →
        has_drop_impl items outer ≡ false
    apart-by steps all upper lower step outer is typed =
        is-not (has_drop_impl items outer)
        (ap (λ (o : Option TyId). not (option_map_or (has_drop_impl items) o false)) (sym typed)
        ∙ all-of (λ upper. not (option_map_or (has_drop_impl items) (place_id items body (below place upper)) false))
        (containers steps) upper all
        (subst (λ (l : List Step). Contains (containers l) upper) (sym is) (among upper lower step)))
      where
        mapped : (first : Step) (l : List (List Step)) (x : List Step) → Contains l x →
            Contains ([] ∷ map (λ outer. first ∷ outer) l) (first ∷ x)
        mapped first l x has =
            let at = slice_get-Contains l x has in
            Contains-slice_get ([] ∷ map (λ outer. first ∷ outer) l) (suc has.0) (first ∷ x)
            (slice_get-map (λ outer. first ∷ outer) l has.0 ∙ ap (option_map (λ outer. first ∷ outer)) at)

        among : (upper lower : List Step) (step : Step) → Contains (containers (upper ++ step ∷ lower)) upper
        among [] lower step = Contains-slice_get (containers (step ∷ lower)) 0 [] refl
        among (first ∷ upper) lower step = mapped first (containers (upper ++ step ∷ lower)) upper
            (among upper lower step)

  -- ---- flags

  -- the drop in which a block ends, if it does, is of no place at or above a path; or the path is gone on each path of
  -- the body that comes there, or on none
  abbrev spares : ℕ → Place → Option Place → Bool
  spares n path None = true
  spares n path (Some place) =
      not (is_at_or_above place path)
      || (all_come items body fuel n (λ before. is_gone_after items body before path)
      || all_come items body fuel n (λ before. not (is_gone_after items body before path)))

  abbrev needs_none : Place → Bool
  needs_none path = not (option_map_or (needs_drop items) (place_id items body path) false)

  -- but for drops that are dead, as is known besides
  abbrev pub no_flag : (dead : List ℕ) → Place → Bool
  no_flag dead path =
      needs_none path
      || list_all (λ n. list_any (λ k. k == n) dead
      || spares n path (option_and_then (λ block. drop_place block.term) (slice_get body.blocks n)))
      (range_with_len 0 (length body.blocks))

  number-there : (n count : ℕ) → n < count → Contains (range_with_len 0 count) n
  number-there n count less =
      let long = length-range_with_len 0 count in
      Contains-slice_get (range_with_len 0 count) n n
      (slice_get-get_or (range_with_len 0 count) n 0 (omega (less, long, arith))
      ∙ ap Some (get_or-range_with_len 0 count n 0 less ∙ (let z : 0 + n ≡ n = omega arith in z)))

  abbrev pub is_in : List Place → Place → Bool
  is_in flagged path = list_any (same_place path) flagged

  abbrev AreDeadAt : List ℕ → Type 0
  AreDeadAt dead = (n : ℕ) → Contains dead n → (place : Place) → IsDrop items body n place → IsDead items body n place

  module _ (dead : List ℕ) (are_dead : AreDeadAt dead) (paths : List Place) where
    pub unflagged : (path : Place) → no_flag dead path ≡ true → IsFlagged items body paths path → ⊥
    unflagged path none f = elim (either-on (needs_none path) _ none) [
      | inl useless ↦ not-both (needs_drop items need.id) need.needed (is-not (needs_drop items need.id)
          (ap (λ (o : Option TyId). not (option_map_or (needs_drop items) o false)) (sym need.typed) ∙ useless))
      | inr all ↦ elim (either-on (list_any (λ k. k == f.0) dead) (spares f.0 path (Some f.1)) (spared all)) [
        | inl known ↦ (let it = some-of (λ k. k == f.0) dead known in
            need.not_dead (are_dead f.0 (subst (Contains dead) (eqb-true it.0 f.0 it.2) it.1) f.1 drop))
        | inr spare ↦ at_drop spare
      ]
    ]
      where
        drop : IsDrop items body f.0 f.1
        drop = f.2

        need : NeedsFlag items body paths f.0 f.1 path
        need = f.3

        there : option_and_then (λ block. drop_place block.term) (slice_get body.blocks f.0) ≡ Some f.1
        there =
            ap (option_and_then (λ (block : Block). drop_place block.term)) drop.there ∙ ap drop_place drop.term_is
            ∙ ap Some (sym drop.place_is)

        spared_at : ℕ → Bool
        spared_at n = list_any (λ k. k == n) dead
            || spares n path (option_and_then (λ block. drop_place block.term) (slice_get body.blocks n))

        spared : list_all spared_at (range_with_len 0 (length body.blocks)) ≡ true →
            (list_any (λ k. k == f.0) dead || spares f.0 path (Some f.1)) ≡ true
        spared all =
            ap (λ (o : Option Place). list_any (λ k. k == f.0) dead || spares f.0 path o) (sym there)
            ∙ all-of spared_at (range_with_len 0 (length body.blocks)) f.0 all
            (number-there f.0 (length body.blocks) (slice_get_within body.blocks f.0 drop.block drop.there))

        above : is_at_or_above f.1 path ≡ true
        above = subst (λ (q : Place). is_at_or_above f.1 q ≡ true) (sym need.path_is)
            (above-stays f.1 f.1 need.steps (above-refl f.1))

        gone_all : Bool
        gone_all = all_come items body fuel f.0 (λ before. is_gone_after items body before path)

        there_all : Bool
        there_all = all_come items body fuel f.0 (λ before. not (is_gone_after items body before path))

        at_drop : spares f.0 path (Some f.1) ≡ true → ⊥
        at_drop h = elim (either-on (not (is_at_or_above f.1 path)) (gone_all || there_all) h) [
          | inl apart ↦ not-both (is_at_or_above f.1 path) above (is-not (is_at_or_above f.1 path) apart)
          | inr same ↦ elim (either-on gone_all there_all same) [
            | inl gone ↦ not-both (is_gone_after items body need.present.0 path)
                (each-comes items body fuel f.0 (λ before. is_gone_after items body before path) ends gone
                need.present.0 need.present.1)
                need.present.2
            | inr kept ↦ not-both (is_gone_after items body need.gone.0 path) need.gone.2
                (is-not (is_gone_after items body need.gone.0 path)
                (each-comes items body fuel f.0 (λ before. not (is_gone_after items body before path)) ends kept
                need.gone.0 need.gone.1))
          ]
        ]

    -- these paths have flags, and no others
    pub flags-are : (flagged : List Place) →
        ((path : Place) → Contains flagged path → IsFlagged items body paths path) →
        list_all (λ path. is_in flagged path || no_flag dead path) paths ≡ true →
        flagged ≡ filter (is_in flagged) paths →
        AreFlagged items body paths flagged
    flags-are flagged have others those = record {
      test = is_in flagged;
      exact = λ path there. (
        λ on. (let it = some-of (same_place path) flagged on in
            have path (subst (Contains flagged) (sym (same-places path it.0 it.2)) it.1)),
        λ f. elim (either-on (is_in flagged path) (no_flag dead path)
            (all-of (λ q. is_in flagged q || no_flag dead q) paths path others there)) [
              | inl on ↦ on
              | inr none ↦ absurd (unflagged path none f)
            ],
      );
      those = those;
    }
