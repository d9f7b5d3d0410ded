-- All of a place is there for sure exactly where the mask of its path meets nothing that may be gone.
use Rattle.std.proofs.Common.{◌≡◌, ◌∙◌, ◌∷◌, [], ℕ, zero, suc, Bool, true, false, not, ◌&&◌, ◌||◌, List, Option, Some, map, slice_get, refl, sym, ap, if◌then◌else◌}
use Rattle.std.specs.Prelude.{slice_index_or}
use Rattle.std.specs.Cmp.{first_so, second_so}
use Rattle.std.specs.Cmp.Derive.{both_true}
use Rattle.std.proofs.lemmas.Bool.{false≢true}
use Rattle.std.proofs.lemmas.Option.{none-some, same_Some}
use Rattle.bit_rows.specs.Words.{any_both}
use Rattle.mir_ty.specs.ItemTable.{ItemTable}
use Rattle.mir_ty.proofs.ListLemmas.{Contains-slice_get}
use Rattle.store_model.specs.Places.Place.{Place, Step, same_step}
use Rattle.cfg_graph.specs.Moves.Gone.{is_at_or_above, below}
use Rattle.move_paths.proofs.Above.{above-refl, above-stays}
use Rattle.move_paths.specs.Trie.{AreOnce}
use Rattle.drop_values.specs.Facts.{Tree, at_path, Branches, no_branch, a_branch, Facts}
use Rattle.drop_values.specs.Planning.{branch_by, sure, sure_below}
use Rattle.drop_plans.specs.Trees.{IsTreeOf, AreBranchesOf, AreClosed}
use Rattle.drop_plans.proofs.Under.{below-nil, below-step, above-rest, branch-tree, some-branch}

pub is-not : (b : Bool) → not b ≡ true → b ≡ false
is-not true h = absurd (false≢true h)
is-not false h = refl

or-first : (a b : Bool) → (a || b) ≡ false → a ≡ false
or-first true b h = absurd (false≢true (sym h))
or-first false b h = refl

or-second : (a b : Bool) → (a || b) ≡ false → b ≡ false
or-second true b h = absurd (false≢true (sym h))
or-second false b h = h

and-off : (a b : Bool) → (a && b) ≡ false → a ≡ true → b ≡ false
and-off true b h on = h
and-off false b h on = absurd (false≢true on)

off-and : (a b : Bool) → (a ≡ true → b ≡ false) → (a && b) ≡ false
off-and true b h = h refl
off-and false b h = refl

-- rows with no common bit
none-both : (f : Place → Bool) (paths : List Place) (row : List Bool) (k : ℕ) (q : Place) →
    any_both (map f paths) row ≡ false → slice_get paths k ≡ Some q → f q ≡ true → slice_index_or row k false ≡ false
none-both f [] row k q e at on = absurd (none-some q at)
none-both f (p ∷ paths) [] k q e at on = refl
none-both f (p ∷ paths) (b ∷ row) zero q e at on =
    and-off (f p) b (or-first (f p && b) (any_both (map f paths) row) e) (ap f (same_Some p q at) ∙ on)
none-both f (p ∷ paths) (b ∷ row) (suc k) q e at on =
    none-both f paths row k q (or-second (f p && b) (any_both (map f paths) row) e) at on

both-none : (f : Place → Bool) (paths : List Place) (row : List Bool) →
    ((k : ℕ) (q : Place) → slice_get paths k ≡ Some q → f q ≡ true → slice_index_or row k false ≡ false) →
    any_both (map f paths) row ≡ false
both-none f [] row none = refl
both-none f (p ∷ paths) [] none = refl
both-none f (p ∷ paths) (b ∷ row) none =
    let here : (f p && b) ≡ false = off-and (f p) b (none 0 p refl) in
    let there : any_both (map f paths) row ≡ false = both-none f paths row (λ k. none (suc k)) in
    λ i. here i || there i

module _ (items : ItemTable) (facts : Facts) (flag_of : ℕ → Option ℕ) (paths : List Place) (once : AreOnce paths)
    (closed : AreClosed paths) where
  abbrev surely : Tree → Bool
  surely tree = sure items facts flag_of tree

  pub branch-sure : (step : Step) (tree : Tree) (under : Branches) → branch_by step under ≡ Some tree →
      sure_below items facts flag_of under ≡ true → surely tree ≡ true
  branch-sure step tree no_branch is all = absurd (none-some tree is)
  branch-sure step tree (a_branch other first rest) is all =
      either (same_step step other) (branch-sure step tree rest) is
    where
      either : (b : Bool) → (branch_by step rest ≡ Some tree → sure_below items facts flag_of rest ≡ true → surely tree ≡ true) →
          (if b then Some first else branch_by step rest) ≡ Some tree → surely tree ≡ true
      either true there e =
          ap surely (sym (same_Some first tree e)) ∙ first_so (surely first) (sure_below items facts flag_of rest) all
      either false there e = there e (second_so (surely first) (sure_below items facts flag_of rest) all)

  pub all-sure : (rest : List Step) (place : Place) (tree : Tree) → IsTreeOf paths place tree → surely tree ≡ true →
      (k : ℕ) → slice_get paths k ≡ Some (below place rest) → facts.gone k ≡ false
  all-sure [] place (at_path number under) is all k at =
      ap facts.gone (once k number place (at ∙ ap Some (below-nil place)) is.0)
      ∙ is-not (facts.gone number) (first_so (not (facts.gone number)) (sure_below items facts flag_of under) all)
  all-sure (step ∷ rest) place (at_path number under) is all k at =
      let at_rest : slice_get paths k ≡ Some (below (below place (step ∷ [])) rest) =
      at ∙ ap Some (sym (below-step place step rest)) in
      let has = closed (below place (step ∷ [])) rest (Contains-slice_get paths k _ at_rest) in
      let branch = some-branch paths place number under step is has in
      all-sure rest (below place (step ∷ [])) branch.0 (branch-tree paths place step branch.0 under is.1 branch.1)
      (branch-sure step branch.0 under branch.1
      (second_so (not (facts.gone number)) (sure_below items facts flag_of under) all)) k at_rest

  mutual
    pub sure-all : (tree : Tree) (place : Place) → IsTreeOf paths place tree →
        ((k : ℕ) (rest : List Step) → slice_get paths k ≡ Some (below place rest) → facts.gone k ≡ false) →
        surely tree ≡ true
    sure-all (at_path number under) place is none =
        both_true (ap not (none number [] (is.0 ∙ ap Some (sym (below-nil place))))) (sure-under under place is.1 none)

    sure-under : (under : Branches) (place : Place) → AreBranchesOf paths place under →
        ((k : ℕ) (rest : List Step) → slice_get paths k ≡ Some (below place rest) → facts.gone k ≡ false) →
        sure_below items facts flag_of under ≡ true
    sure-under no_branch place are none = refl
    sure-under (a_branch step tree rest) place are none =
        both_true
        (sure-all tree (below place (step ∷ [])) are.0
        (λ k more_steps at. none k (step ∷ more_steps) (at ∙ ap Some (below-step place step more_steps))))
        (sure-under rest place are.1 none)

  pub sure-is : (row : List Bool) → ((k : ℕ) → facts.gone k ≡ slice_index_or row k false) → (tree : Tree) (place : Place) →
      IsTreeOf paths place tree → surely tree ≡ not (any_both (map (is_at_or_above place) paths) row)
  sure-is row told tree place is = by (any_both (map (is_at_or_above place) paths) row) refl
    where
      off : surely tree ≡ true → any_both (map (is_at_or_above place) paths) row ≡ false
      off all = both-none (is_at_or_above place) paths row (λ k q at up.
          let rest = above-rest place q up in
          sym (told k) ∙ all-sure rest.0 place tree is all k (at ∙ ap Some rest.1))

      falls : (b : Bool) → (b ≡ true → ⊥) → b ≡ false
      falls true h = absurd (h refl)
      falls false h = refl

      by : (b : Bool) → any_both (map (is_at_or_above place) paths) row ≡ b → surely tree ≡ not b
      by true e = falls (surely tree) (λ all. false≢true (sym (off all) ∙ e))
      by false e = sure-all tree place is (λ k rest at. told k
          ∙ none-both (is_at_or_above place) paths row k (below place rest) e at
          (above-stays place place rest (above-refl place)))
