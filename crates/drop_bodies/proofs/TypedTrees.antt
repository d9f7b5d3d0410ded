-- Along the tree of the paths at and below a place of a type each path has a type.
use Rattle.std.proofs.Common.{◌≡◌, ◌∙◌, ◌∷◌, [], ◌++◌, ℕ, true, Option, Some, None, slice_get, refl, sym, ap}
use Rattle.std.specs.Prelude.{option_and_then}
use Rattle.mir_ty.proofs.ListLemmas.{Contains-slice_get}
use Rattle.mir_ty.specs.declared.ty.TyId.{TyId}
use Rattle.mir_ty.specs.ItemTable.{ItemTable, type_at}
use Rattle.cfg_graph.specs.declared.graph.Body.{Body}
use Rattle.cfg_graph.specs.Moves.Gone.{below}
use Rattle.move_paths.specs.Forest.{PathForest, IsForest, is_path}
use Rattle.store_model.specs.Places.Place.{Step, Place, step_ty, ty_along}
use Rattle.drop_values.specs.Facts.{Tree, at_path, Branches, no_branch, a_branch}
use Rattle.drop_values.specs.Planning.{IsTyped, AreTyped}
use Rattle.drop_elaborate.proofs.PathSpares.{path-typed, along-append}
use Rattle.drop_elaborate.proofs.ReadyBody.{BodyIsReady}
use Rattle.drop_elaborate.specs.Kinds.{place_id, IsTree, AreBranches}

module _ (items : ItemTable) (bodies : ℕ) (body : Body) (ready : BodyIsReady items bodies body) (forest : PathForest)
    (is_forest : IsForest items body forest) where
  abbrev Typed : Place → TyId → Type 0
  Typed q id = place_id items body q ≡ Some id

  -- the type of a path one step below another
  step-typed : (q : Place) (step : Step) (id : TyId) → Typed q id → is_path items body (below q (step ∷ [])) ≡ true →
      (next : TyId) × (option_and_then (step_ty items step) (type_at items id) ≡ Some next)
      × Typed (below q (step ∷ [])) next
  step-typed q step id t h =
      let r = path-typed items body bodies ready (below q (step ∷ [])) h in
      let two = apart (slice_get body.locals q.local) in
      let along : option_and_then (ty_along items (step ∷ [])) (Some id) ≡ Some r.0 =
      sym (ap (option_and_then (ty_along items (step ∷ []))) t) ∙ sym two ∙ r.1 in
      let last : option_and_then (step_ty items step) (type_at items id) ≡ Some r.0 =
      sym (whole-step (option_and_then (step_ty items step) (type_at items id))) ∙ along in
      (r.0, last, r.1)
    where
      apart : (o : Option TyId) → option_and_then (ty_along items (q.steps ++ step ∷ [])) o
          ≡ option_and_then (ty_along items (step ∷ [])) (option_and_then (ty_along items q.steps) o)
      apart None = refl
      apart (Some start) = along-append items body q.steps (step ∷ []) start

      whole-step : (o : Option TyId) → option_and_then (ty_along items []) o ≡ o
      whole-step None = refl
      whole-step (Some x) = refl

  branch-path : (q : Place) (step : Step) (tree : Tree) → IsTree items body forest.paths (below q (step ∷ [])) tree →
      is_path items body (below q (step ∷ [])) ≡ true
  branch-path q step (at_path number under) t =
      (is_forest.each (below q (step ∷ []))).0 (Contains-slice_get forest.paths number (below q (step ∷ [])) t.0)

  mutual
    pub typed-tree : (q : Place) (tree : Tree) (id : TyId) → Typed q id → IsTree items body forest.paths q tree →
        IsTyped items tree id
    typed-tree q (at_path number under) id y t = typed-branches q under id y t.1

    typed-branches : (q : Place) (under : Branches) (id : TyId) → Typed q id → AreBranches items body forest.paths q under →
        AreTyped items under id
    typed-branches q no_branch id y t = tt
    typed-branches q (a_branch step tree rest) id y t =
        let s = step-typed q step id y (branch-path q step tree t.0) in (
          (s.0, s.1, typed-tree (below q (step ∷ [])) tree s.0 s.2 t.0),
          typed-branches q rest id y t.1,
        )
