-- Drops are counted by what is decided of them.
use Rattle.std.proofs.Common.{◌≡◌, inl, inr, ◌∙◌, ◌∷◌, [], ◌++◌, ◌+◌, ◌==◌, ℕ, zero, suc, cond, not, Bool, true, false, List, Option, Some, None, Contains, length, slice_get, refl, sym, ap, subst, append_assoc, arith, if◌then◌else◌}
use Rattle.std.specs.Prelude.{option_and_then, slice_index_or, sum_by}
use Rattle.std.specs.List.{range_with_len}
use Rattle.std.specs.Option.{option_map_or}
use Rattle.std.proofs.lemmas.Bool.{false≢true, eqb-true}
use Rattle.std.proofs.lemmas.List.Sums.{sum_by-append, sum_by-cons}
use Rattle.std.proofs.lemmas.Option.{none-some, same_Some, get_or_from_slice_get, slice_get_within, slice_get_cases}
use Rattle.mir_ty.specs.ItemTable.{ItemTable}
use Rattle.mir_ty.proofs.ListLemmas.{Contains-slice_get}
use Rattle.store_model.specs.Places.Place.{Step, Place}
use Rattle.cfg_graph.specs.declared.graph.Block.{Block}
use Rattle.cfg_graph.specs.declared.graph.Body.{Body}
use Rattle.cfg_graph.specs.declared.place.Place as graph
use Rattle.cfg_graph.specs.declared.terminator.Term.{Term}
use Rattle.cfg_graph.specs.declared.terminator.Unwind.{Unwind}
use Rattle.cfg_graph.specs.Moves.Gone.{below}
use Rattle.cfg_graph.specs.NamedPlaces.{same_place}
use Rattle.cfg_graph.specs.Places.{named}
use Rattle.move_paths.specs.Forest.{PathForest, IsForest, children_of}
use Rattle.move_paths.specs.Trie.{AreOnce}
use Rattle.drop_values.specs.Facts.{at_path, Branches, no_branch, a_branch}
use Rattle.drop_elaborate.proofs.Refilled.{same-places, same-itself}
use Rattle.drop_elaborate.specs.Elaborated.{place_number}
use Rattle.drop_elaborate.specs.Kinds.{IsDrop, IsOpenable, IsTree, DropKind, Dead, Plain, Conditional, Opened, IsKind}
use Rattle.drop_elaborate.specs.Totals.{DropTotals, same_kind, is_some_kind, times, AreTotals}
use Rattle.drop_kinds.specs.Decided.{HasPlan, IsDecided, AreDecided}
use Rattle.drop_ends.specs.declared.decided.Decided.{Decided}
use Rattle.drop_blocks.specs.View.{plan_in}
use Rattle.drop_plans.proofs.Closed.{closed, tree-of}
use Rattle.drop_plans.proofs.Lowest.{lowest, not-lowest}
use Rattle.drop_bodies.specs.Counts.{AreCounts, with_kind, no_drops, is_opened, kind_by, kind_of, kind_at}

-- ---- a block more

range-more : (a n : ℕ) → range_with_len a (suc n) ≡ range_with_len a n ++ (a + n) ∷ []
range-more a zero = (let z : a ≡ a + 0 = omega arith in ap (λ (m : ℕ). m ∷ []) z)
range-more a (suc n) =
    ap (λ (l : List ℕ). a ∷ l) (range-more (a + 1) n)
    ∙ (let z : a + 1 + n ≡ a + suc n = omega arith in ap (λ (m : ℕ). a ∷ range_with_len (a + 1) n ++ m ∷ []) z)

module _ (kinds : ℕ → Option DropKind) where
  times-more : (kind : DropKind) (n : ℕ) →
      times kinds kind (n + 1) ≡ times kinds kind n + cond (is_some_kind kind (kinds n)) 1 0
  times-more kind n =
      let next : n + 1 ≡ suc n = omega arith in
      let here : 0 + n ≡ n = omega arith in
      let f : ℕ → ℕ = λ m. cond (is_some_kind kind (kinds m)) 1 0 in
      let last : sum_by f (n ∷ []) ≡ f n + 0 = sum_by-cons f n [] in
      ap (times kinds kind) next
      ∙ ap (sum_by f) (range-more 0 n ∙ ap (λ (m : ℕ). range_with_len 0 n ++ m ∷ []) here)
      ∙ sum_by-append f (range_with_len 0 n) (n ∷ [])
      ∙ (omega (last, arith))

  times-with : (kind other : DropKind) (n : ℕ) → kinds n ≡ Some kind →
      times kinds other (n + 1) ≡ times kinds other n + cond (same_kind other kind) 1 0
  times-with kind other n at =
      times-more other n ∙ ap (λ (o : Option DropKind). times kinds other n + cond (is_some_kind other o) 1 0) at

  times-without : (other : DropKind) (n : ℕ) → kinds n ≡ None → times kinds other (n + 1) ≡ times kinds other n
  times-without other n at =
      let next = times-more other n
      ∙ ap (λ (o : Option DropKind). times kinds other n + cond (is_some_kind other o) 1 0) at in omega (next, arith)

  pub counts-none : (flags : ℕ) → AreCounts kinds 0 flags (no_drops flags)
  counts-none flags = record { dead = refl; plain = refl; conditional = refl; opened = refl; flags = refl }

  pub counts-same : (n flags : ℕ) (totals : DropTotals) → kinds n ≡ None → AreCounts kinds n flags totals →
      AreCounts kinds (n + 1) flags totals
  counts-same n flags totals at are = record {
    dead = are.dead ∙ sym (times-without Dead n at);
    plain = are.plain ∙ sym (times-without Plain n at);
    conditional = are.conditional ∙ sym (times-without Conditional n at);
    opened = are.opened ∙ sym (times-without Opened n at);
    flags = are.flags;
  }

  pub counts-more : (kind : DropKind) (n flags : ℕ) (totals : DropTotals) → kinds n ≡ Some kind →
      AreCounts kinds n flags totals → AreCounts kinds (n + 1) flags (with_kind kind totals)
  counts-more kind n flags totals at are = by kind refl
    where
      added : (other : DropKind) (is : Bool) (was : ℕ) → same_kind other kind ≡ is → was ≡ times kinds other n →
          was + cond is 1 0 ≡ times kinds other (n + 1)
      added other is was same e =
          ap (λ (m : ℕ). m + cond is 1 0) e ∙ ap (λ (b : Bool). times kinds other n + cond b 1 0) (sym same)
          ∙ sym (times-with kind other n at)

      still : (other : DropKind) (was : ℕ) → same_kind other kind ≡ false → was ≡ times kinds other n →
          was ≡ times kinds other (n + 1)
      still other was same e = let m = added other false was same e in omega (m, arith)

      by : (k : DropKind) → kind ≡ k → AreCounts kinds (n + 1) flags (with_kind k totals)
      by Dead e = record {
        dead = added Dead true totals.dead (ap (same_kind Dead) e) are.dead;
        plain = still Plain totals.plain (ap (same_kind Plain) e) are.plain;
        conditional = still Conditional totals.conditional (ap (same_kind Conditional) e) are.conditional;
        opened = still Opened totals.opened (ap (same_kind Opened) e) are.opened;
        flags = are.flags;
      }
      by Plain e = record {
        dead = still Dead totals.dead (ap (same_kind Dead) e) are.dead;
        plain = added Plain true totals.plain (ap (same_kind Plain) e) are.plain;
        conditional = still Conditional totals.conditional (ap (same_kind Conditional) e) are.conditional;
        opened = still Opened totals.opened (ap (same_kind Opened) e) are.opened;
        flags = are.flags;
      }
      by Conditional e = record {
        dead = still Dead totals.dead (ap (same_kind Dead) e) are.dead;
        plain = still Plain totals.plain (ap (same_kind Plain) e) are.plain;
        conditional = added Conditional true totals.conditional (ap (same_kind Conditional) e) are.conditional;
        opened = still Opened totals.opened (ap (same_kind Opened) e) are.opened;
        flags = are.flags;
      }
      by Opened e = record {
        dead = still Dead totals.dead (ap (same_kind Dead) e) are.dead;
        plain = still Plain totals.plain (ap (same_kind Plain) e) are.plain;
        conditional = still Conditional totals.conditional (ap (same_kind Conditional) e) are.conditional;
        opened = added Opened true totals.opened (ap (same_kind Opened) e) are.opened;
        flags = are.flags;
      }

-- ---- the kind of a drop

pub kind-of-other : (paths : List Place) (how : Decided) (term : Term) →
    ((place : graph.Place) (next : ℕ) (unwind : Unwind) → term ≡ Term.DropAt place next unwind → ⊥) →
    kind_of paths how term ≡ None
kind-of-other paths how (Term.DropAt place next unwind) none = absurd (none place next unwind refl)
kind-of-other paths how other none = refl

pub kind-at : (paths : List Place) (decided : List Decided) (blocks : List Block) (n : ℕ) (block : Block) (how : Decided) →
    slice_get blocks n ≡ Some block → slice_get decided n ≡ Some how →
    kind_at paths decided blocks n ≡ kind_of paths how block.term
kind-at paths decided blocks n block how at at_how =
    ap (λ (o : Option Block). option_and_then (λ (b : Block). kind_of paths (slice_index_or decided n Decided.Dead) b.term) o) at
    ∙ ap (λ (h : Decided). kind_of paths h block.term) (get_or_from_slice_get decided n how Decided.Dead at_how)

-- the number of a place that stands once
numbered : (place : Place) (places : List Place) (from n : ℕ) → place_number place places from ≡ Some n →
    (index : ℕ) × (slice_get places index ≡ Some place) × (n ≡ from + index)
numbered place [] from n e = absurd (none-some n e)
numbered place (other ∷ others) from n e = by (same_place place other) refl e (numbered place others (suc from) n)
  where
    by : (b : Bool) → same_place place other ≡ b → (if b then Some from else place_number place others (suc from)) ≡ Some n →
        (place_number place others (suc from) ≡ Some n →
        (index : ℕ) × (slice_get others index ≡ Some place) × (n ≡ suc from + index)) →
        (index : ℕ) × (slice_get (other ∷ others) index ≡ Some place) × (n ≡ from + index)
    by true h e again =
        let same = same_Some from n e in
        (0, ap Some (sym (same-places place other h)), (let z : n ≡ from + 0 = omega (same, arith) in z))
    by false h e again =
        let found = again e in
        let sum = found.2 in (suc found.0, found.1, (let z : n ≡ from + suc found.0 = omega (sum, arith) in z))

not-there : (place : Place) (places : List Place) (from k : ℕ) → slice_get places k ≡ Some place →
    place_number place places from ≡ None → ⊥
not-there place [] from k at none = none-some place at
not-there place (other ∷ others) from zero at none =
    none-some from (sym none ∙ ap (λ (b : Bool). if b then Some from else place_number place others (suc from))
    (ap (same_place place) (same_Some other place at) ∙ same-itself place))
not-there place (other ∷ others) from (suc k) at none =
    by (same_place place other) none (not-there place others (suc from) k at)
  where
    by : (b : Bool) → (if b then Some from else place_number place others (suc from)) ≡ None →
        (place_number place others (suc from) ≡ None → ⊥) → ⊥
    by true e again = none-some from (sym e)
    by false e again = again e

pub number-at : (place : Place) (places : List Place) (k : ℕ) → AreOnce places → slice_get places k ≡ Some place →
    place_number place places 0 ≡ Some k
number-at place places k once at = by (place_number place places 0) refl
  where
    by : (o : Option ℕ) → place_number place places 0 ≡ o → o ≡ Some k
    by None e = absurd (not-there place places 0 k at e)
    by (Some n) e =
        let found = numbered place places 0 n e in
        let same = once found.0 k place found.1 at in
        let is = found.2 in (let z : n ≡ k = omega (same, is, arith) in ap Some z)

pub number-none : (place : Place) (places : List Place) → (Contains places place → ⊥) → place_number place places 0 ≡ None
number-none place places none = by (place_number place places 0) refl
  where
    by : (o : Option ℕ) → place_number place places 0 ≡ o → o ≡ None
    by None e = refl
    by (Some n) e =
        let found = numbered place places 0 n e in absurd (none (Contains-slice_get places found.0 place found.1))

pub not-opened : (place : Place) (paths : List Place) → (Contains paths place → ⊥) → is_opened paths place ≡ false
not-opened place paths none =
    ap (λ (o : Option ℕ). option_map_or (λ path. not (length (children_of paths path) == 0)) o false)
    (number-none place paths none)

pub opened-at : (place : Place) (paths : List Place) (k : ℕ) → AreOnce paths → slice_get paths k ≡ Some place →
    is_opened paths place ≡ not (length (children_of paths k) == 0)
opened-at place paths k once at =
    ap (λ (o : Option ℕ). option_map_or (λ path. not (length (children_of paths path) == 0)) o false)
    (number-at place paths k once at)

some-child : (l : List ℕ) → not (length l == 0) ≡ true → l ≡ [] → ⊥
some-child [] h e = false≢true h
some-child (x ∷ l) h e = cc

no-child : (l : List ℕ) → not (length l == 0) ≡ false → l ≡ []
no-child [] h = refl
no-child (x ∷ l) h = absurd (by (suc (length l) == 0) refl h)
  where
    by : (b : Bool) → (suc (length l) == 0) ≡ b → not b ≡ false → ⊥
    by true e off = (let z = eqb-true (suc (length l)) 0 e in omega (z, arith))
    by false e off = false≢true (sym off)

module _ (items : ItemTable) (body : Body) (forest : PathForest) (is : IsForest items body forest) where
  -- the tree of a path has a branch exactly where some path lies below
  openable : (place : Place) (number : ℕ) (under : Branches) → IsTree items body forest.paths place (at_path number under) →
      (under ≡ no_branch → ⊥) → IsOpenable items body place
  openable place number no_branch tree some = absurd (some refl)
  openable place number (a_branch step (at_path k lower) rest) tree some = record {
    step = step;
    steps = [];
    path = (is.each (below place (step ∷ []))).0
        (Contains-slice_get forest.paths k (below place (step ∷ [])) tree.1.0.0);
  }

  not-openable : (place : Place) (number : ℕ) (under : Branches) →
      IsTree items body forest.paths place (at_path number under) → under ≡ no_branch → IsOpenable items body place → ⊥
  not-openable place number no_branch tree none lower =
      let deep : Contains forest.paths (below (below place (lower.step ∷ [])) lower.steps) =
      subst (λ (l : List Step). Contains forest.paths (record { local = place.local; steps = l }))
      (sym (append_assoc place.steps (lower.step ∷ []) lower.steps))
      ((is.each (below place (lower.step ∷ lower.steps))).1 lower.path) in
      let near = closed items body forest is (below place (lower.step ∷ [])) lower.steps deep in
      false≢true (sym (tree.2 lower.step refl) ∙ (is.each (below place (lower.step ∷ []))).0 near)
  not-openable place number (a_branch step tree rest) whole none lower = absurd (cc)

  module _ (flag_of : ℕ → Option ℕ) (n : ℕ) (place : Place) where
    by-plan : (plan : _) → HasPlan items body forest.paths flag_of n place plan →
        IsKind items body n place (if is_opened forest.paths place then Opened else Conditional)
    by-plan plan has = by has.tree has.is_tree
      where
        by : (tree : _) → IsTree items body forest.paths place tree →
            IsKind items body n place (if is_opened forest.paths place then Opened else Conditional)
        by (at_path k under) tree =
            let opened = opened-at place forest.paths k is.once tree.0 in
            let listed = tree-of items body forest is place (at_path k under) tree in
            so (is_opened forest.paths place) (λ on. (
              has.not_dead,
              has.not_sure,
              openable place k under tree
                  (not-lowest forest.paths k place tree.0 k under listed (some-child (children_of forest.paths k) (sym opened ∙ on))),
            )) (λ off. (
              has.not_dead,
              has.not_sure,
              not-openable place k under tree
                  (lowest forest.paths k place tree.0 k under listed (no-child (children_of forest.paths k) (sym opened ∙ off))),
            ))
          where
            so : (b : Bool) → (b ≡ true → IsKind items body n place Opened) →
                (b ≡ false → IsKind items body n place Conditional) →
                IsKind items body n place (if b then Opened else Conditional)
            so true yes_so no_so = yes_so refl
            so false yes_so no_so = no_so refl

    pub kind-is : (how : Decided) → IsDecided items body forest.paths flag_of n place how →
        IsKind items body n place (kind_by forest.paths place how)
    kind-is Decided.Dead is_dead = is_dead
    kind-is Decided.Plain is_plain = is_plain
    kind-is (Decided.Planned plan) has = by-plan (plan_in plan) has

-- ---- all drops of a body

-- what is decided of each block
pub how-at : (body : Body) (decided : List Decided) → length decided ≡ length body.blocks → (n : ℕ) (block : Block) →
    slice_get body.blocks n ≡ Some block → (how : Decided) × (slice_get decided n ≡ Some how)
how-at body decided long n block at = elim ((slice_get_cases decided n).1) [
  | inl it ↦ (it.0, it.2)
  | inr past ↦
      (let f = past.0 in let w = slice_get_within body.blocks n block at in
      absurd (let never : ⊥ = omega (f, long, w, arith) in never))
]

module _ (items : ItemTable) (body : Body) (forest : PathForest) (is : IsForest items body forest) (flag_of : ℕ → Option ℕ)
    (decided : List Decided) (are : AreDecided items body forest.paths flag_of (length body.blocks) decided) where
  abbrev kinds : ℕ → Option DropKind
  kinds n = kind_at forest.paths decided body.blocks n

  drop-kind : (at : (n : ℕ) (block : Block) → slice_get body.blocks n ≡ Some block →
      (how : Decided) × (slice_get decided n ≡ Some how)) (n : ℕ) (place : Place) → IsDrop items body n place →
      (kind : DropKind) × (kinds n ≡ Some kind) × IsKind items body n place kind
  drop-kind at n place drop =
      let how = at n drop.block drop.there in
      let kind = kind_by forest.paths (named drop.dropped) how.0 in (
        kind,
        kind-at forest.paths decided body.blocks n drop.block how.0 drop.there how.1
            ∙ ap (kind_of forest.paths how.0) drop.term_is,
        subst (λ (p : Place). IsKind items body n p kind) (sym drop.place_is)
            (kind-is items body forest is flag_of n (named drop.dropped) how.0
            (are.each n drop.block drop.dropped how.0 (drop.there, (drop.next, drop.unwind, drop.term_is)) how.1)),
      )

  no-kind : (n : ℕ) → ((place : Place) → IsDrop items body n place → ⊥) → kinds n ≡ None
  no-kind n none = by (slice_get body.blocks n) refl
    where
      by : (o : Option Block) → slice_get body.blocks n ≡ o →
          option_and_then (λ (b : Block). kind_of forest.paths (slice_index_or decided n Decided.Dead) b.term) o ≡ None
      by None e = refl
      by (Some block) e =
          kind-of-other forest.paths (slice_index_or decided n Decided.Dead) block.term
          (λ place next unwind term. none (named place) (record {
            block = block;
            there = e;
            dropped = place;
            next = next;
            unwind = unwind;
            term_is = term;
            place_is = refl;
          }))

  pub totals-are : (at : (n : ℕ) (block : Block) → slice_get body.blocks n ≡ Some block →
      (how : Decided) × (slice_get decided n ≡ Some how)) (after : Body) (flags : ℕ) (totals : DropTotals) →
      AreCounts kinds (length body.blocks) flags totals → length after.locals ≡ length body.locals + flags →
      AreTotals items body after totals
  totals-are at after flags totals counts long = record {
    kinds = kinds;
    drops = drop-kind at;
    others = no-kind;
    dead = counts.dead;
    plain = counts.plain;
    conditional = counts.conditional;
    opened = counts.opened;
    flags = long ∙ ap (λ (m : ℕ). length body.locals + m) (sym counts.flags);
  }
