-- The laws of kinds.
use Rattle.std.proofs.Common.{◌≡◌, ◌∙◌, ◌∷◌, [], ℕ, Bool, true, false, not, List, Option, Some, length, slice_get, refl, sym, ap, subst}
use Rattle.std.specs.Cmp.Derive.{both_true}
use Rattle.std.proofs.lemmas.Bool.{false≢true}
use Rattle.std.proofs.lemmas.Option.{same_Some}
use Rattle.mir_ty.specs.ItemTable.{ItemTable}
use Rattle.cfg_graph.specs.declared.graph.Body.{Body}
use Rattle.cfg_graph.specs.Moves.BadUses.{bad_uses_on}
use Rattle.cfg_graph.specs.Moves.Gone.{below, counts, is_gone_after}
use Rattle.cfg_graph.specs.Moves.Paths.{IsPath}
use Rattle.store_model.specs.Places.Place.{Place}
use Rattle.drop_values.specs.Facts.{Tree, at_path, Branches, no_branch, a_branch, Facts}
use Rattle.drop_values.specs.Planning.{sure, sure_below, plan_of}
use Rattle.drop_elaborate.proofs.ReadyBody.{BodyIsReady}
use Rattle.drop_laws.proofs.ReadyLines.{ready-lines}
use Rattle.drop_elaborate.specs.Kinds.{IsDead, IsSure, AreFacts, IsTree, AreBranches, NeedsFlag}
use Rattle.drop_laws.proofs.BelowPaths.{below-nil, below-step}
use Rattle.drop_laws.proofs.Elsewhere.{elsewhere-sure}
use Rattle.drop_laws.proofs.Living.{alive-not-dead, whole-alive}
use Rattle.drop_laws.proofs.NeedsRead.{needs-read}
use Rattle.drop_laws.proofs.ReadFlags.{read-needs}
use Rattle.drop_laws.proofs.Rungs.{rung-alive, no-rung-dead, sure-whole}
use Rattle.drop_laws.proofs.TreesThere.{tree-there}
use Rattle.drop_laws.specs.Laws.{EachPathHasATree, KindsByPlans, FlagsByPlans, OtherPlacesAreWhole}
use Rattle.drop_laws.specs.Ready.{IsReadyBody}
use Rattle.drop_laws.specs.Rungs.{has_rung}

module _ (items : ItemTable) (body : Body) (made : IsReadyBody items body) where
  abbrev pub bodies : ℕ
  bodies = length made.graph.bodies

  pub ready : BodyIsReady items bodies body
  ready =
      subst (λ (i : ItemTable). BodyIsReady i bodies body) made.items_are
      (ready-lines made.graph made.sound made.ready made.number body made.there)

  -- no path of it meets a bad use
  pub fine : (path : List ℕ) (given : List Bool) → IsPath items body path given → bad_uses_on items body path ≡ []
  fine =
      subst (λ (i : ItemTable). (path : List ℕ) (given : List Bool) → IsPath i body path given → bad_uses_on i body
      path ≡ [])
      made.items_are (λ path given is. made.ready.uses made.number body path given made.there is)

-- what is there on each path may not be gone
module _ (items : ItemTable) (body : Body) (paths : List Place) (n : ℕ) (facts : Facts)
    (are : AreFacts items body paths n facts) (flag_of : ℕ → Option ℕ) where
  off : (number : ℕ) (q : Place) → slice_get paths number ≡ Some q → IsSure items body n q → (b : Bool) → facts.gone
      number ≡ b →
      not b ≡ true
  off number q at all false e = refl
  off number q at all true e =
      let may = (are.gone number q at).0 e in
      absurd (false≢true (sym (all may.0 may.1 []) ∙ ap (is_gone_after items body may.0) (below-nil q) ∙ may.2))

  mutual
    pub whole-sure : (tree : Tree) (q : Place) → IsTree items body paths q tree → IsSure items body n q →
        sure items facts flag_of tree ≡ true
    whole-sure (at_path number under) q is all =
        both_true (off number q is.0 all (facts.gone number) refl) (branches-sure under q is.1 all)

    branches-sure : (under : Branches) (q : Place) → AreBranches items body paths q under → IsSure items body n q →
        sure_below items facts flag_of under ≡ true
    branches-sure no_branch q are all = refl
    branches-sure (a_branch step tree rest) q are all =
        both_true
        (whole-sure tree (below q (step ∷ [])) are.0 (λ before comes steps.
        ap (is_gone_after items body before) (below-step q step steps) ∙ all before comes (step ∷ steps)))
        (branches-sure rest q are.1 all)

pub each-path-has-a-tree : EachPathHasATree
each-path-has-a-tree items body forest is number place at = tree-there items body forest is place number at

pub kinds-by-plans : KindsByPlans
kinds-by-plans items body n place d flag_of = (
  (
    no-rung-dead items (bodies items body d.ready) body (ready items body d.ready) (fine items body d.ready) d.forest
        d.is_forest n
        d.facts d.are_facts flag_of d.tree place d.is_tree d.id d.typed,
    λ dead. none dead (has_rung (plan_of items d.facts flag_of d.tree d.id)) refl,
  ),
  (
    sure-whole items (bodies items body d.ready) body (ready items body d.ready) (fine items body d.ready) d.forest
        d.is_forest n
        d.facts d.are_facts flag_of d.tree place d.is_tree,
    whole-sure items body d.forest.paths n d.facts d.are_facts flag_of d.tree place d.is_tree,
  ),
)
  where
    none : IsDead items body n place → (b : Bool) → has_rung (plan_of items d.facts flag_of d.tree d.id) ≡ b → b ≡ false
    none dead false e = refl
    none dead true e =
        absurd (alive-not-dead items (bodies items body d.ready) body (ready items body d.ready) n place
        (rung-alive items (bodies items body d.ready) body (ready items body d.ready) (fine items body d.ready)
        d.forest d.is_forest n
        d.facts d.are_facts flag_of d.tree place d.is_tree d.id d.typed e) dead)

pub flags-by-plans : FlagsByPlans
flags-by-plans items body n place d not_dead not_sure flag_of by_number all_have k path at = (
  λ h. needed (read-needs items (bodies items body d.ready) body (ready items body d.ready) (fine items body d.ready)
      d.forest d.is_forest n
      d.facts d.are_facts flag_of by_number all_have place not_dead not_sure d.tree d.id d.is_tree d.typed k h),
  λ needs. needs-read items (bodies items body d.ready) body (ready items body d.ready) (fine items body d.ready)
      d.forest d.is_forest n
      d.facts d.are_facts flag_of by_number all_have place d.tree d.id d.is_tree d.typed k path at needs,
)
  where
    needed : ((other : Place) × (slice_get d.forest.paths k ≡ Some other) × NeedsFlag items body d.forest.paths n
        place other) →
        NeedsFlag items body d.forest.paths n place path
    needed r =
        subst (NeedsFlag items body d.forest.paths n place) (same_Some r.0 path (sym r.1 ∙ at)) r.2

pub other-places-are-whole : OtherPlacesAreWhole
other-places-are-whole items body n place made drop unwatched =
    let whole = elsewhere-sure items body (fine items body made) n drop.block drop.there drop.dropped drop.next
    drop.unwind drop.term_is
    (sym (ap (counts items body) drop.place_is) ∙ unwatched) in
    let all : IsSure items body n place = subst (IsSure items body n) (sym drop.place_is) whole in (
      all,
      λ id before typed needs comes. alive-not-dead items (bodies items body made) body (ready items body made) n place
          (whole-alive items (bodies items body made) body (ready items body made) n place id typed needs before comes
          (λ steps. all before comes steps)),
    )
