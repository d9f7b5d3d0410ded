-- What the paths that come to a drop tell of places at and below one of its paths.
use Rattle.std.proofs.Common.{◌≡◌, ◌∙◌, ◌∷◌, [], ◌++◌, ℕ, nat_lt, Bool, true, false, List, Option, Some, None, length, refl, sym, ap, subst}
use Rattle.std.specs.Prelude.{option_and_then}
use Rattle.std.proofs.lemmas.Bool.{false≢true}
use Rattle.mir_ty.specs.declared.ty.TyId.{TyId}
use Rattle.mir_ty.specs.ItemTable.{ItemTable, type_at}
use Rattle.cfg_graph.proofs.AllPresent.{whole_is_all_present}
use Rattle.cfg_graph.specs.declared.graph.Body.{Body}
use Rattle.cfg_graph.specs.Moves.Actions.{actions_on}
use Rattle.cfg_graph.specs.Moves.BadUses.{bad_uses_on}
use Rattle.cfg_graph.specs.Moves.Gone.{PathAction, below, is_gone_after}
use Rattle.cfg_graph.specs.Moves.Paths.{IsPath}
use Rattle.move_paths.specs.Forest.{is_local, is_path}
use Rattle.store_model.specs.Places.Place.{Step, Place, step_ty, ty_along}
use Rattle.drop_elaborate.proofs.DeadDrops.{below-type}
use Rattle.drop_elaborate.proofs.PathSpares.{AllUses, path-uses, spared, path-typed}
use Rattle.drop_elaborate.proofs.ReadyBody.{BodyIsReady}
use Rattle.drop_elaborate.proofs.Sunken.{Sunken, comes-sunken}
use Rattle.drop_elaborate.proofs.Telling.{Spared, present-else, presence_along-append}
use Rattle.cfg_graph.specs.Moves.Present.{present_after}
use Rattle.store_model.specs.Abstract.Presence.{all_present}
use Rattle.drop_elaborate.specs.Kinds.{before_last, Comes, place_id}
use Rattle.drop_laws.proofs.BelowPaths.{below-nil, below-step}

no-local : (steps : List Step) (step : Step) → is_local (steps ++ step ∷ []) ≡ false
no-local [] step = refl
no-local (x ∷ steps) step = refl

module _ (items : ItemTable) (body : Body) where
  abbrev gone : List PathAction → Place → Bool
  gone acts q = is_gone_after items body acts q

  -- ---- below what is gone all is gone, and below what is no path all is as it is

  pub sunk : (acts : List PathAction) → Sunken items body acts → (steps : List Step) (q : Place) → gone acts q ≡ true →
      gone acts (below q steps) ≡ true
  sunk acts sunken [] q h = ap (gone acts) (below-nil q) ∙ h
  sunk acts sunken (step ∷ steps) q h =
      ap (gone acts) (sym (below-step q step steps)) ∙ sunk acts sunken steps (below q (step ∷ [])) (sunken q step h)

  pub there-below : (acts : List PathAction) (q : Place) (step : Step) → Spared items body (below q (step ∷ [])) acts →
      gone acts q ≡ false → (steps : List Step) → gone acts (below q (step ∷ steps)) ≡ false
  there-below acts q step spare h steps =
      ap (gone acts) (sym (below-step q step steps))
      ∙ (whole_is_all_present items body acts (below q (step ∷ []))).0
      (ap all_present (presence_along-append q.steps (step ∷ []) (present_after items body acts q.local))
      ∙ present-else items body acts q step spare h) steps

  -- what is there is not below what is gone
  pub there-above : (acts : List PathAction) → Sunken items body acts → (q : Place) (steps : List Step) →
      gone acts (below q steps) ≡ false → gone acts q ≡ false
  there-above acts sunken q steps h = by (gone acts q) refl
    where
      by : (b : Bool) → gone acts q ≡ b → gone acts q ≡ false
      by false e = e
      by true e = absurd (false≢true (sym h ∙ sunk acts sunken steps q e))

  -- ---- types

  abbrev pub Typed : Place → TyId → Type 0
  Typed q id = place_id items body q ≡ Some id

  pub step-type : (q : Place) (step : Step) (id next : TyId) → Typed q id →
      option_and_then (step_ty items step) (type_at items id) ≡ Some next → Typed (below q (step ∷ [])) next
  step-type q step id next t e =
      below-type items body q (step ∷ []) ∙ ap (option_and_then (ty_along items (step ∷ []))) t
      ∙ ap (option_and_then (ty_along items [])) e

  module _ (bodies : ℕ) (ready : BodyIsReady items bodies body) where
    -- the type of a path one step below another
    pub step-typed : (q : Place) (step : Step) (id : TyId) → Typed q id → is_path items body (below q (step ∷ [])) ≡
        true →
        (next : TyId) × (option_and_then (step_ty items step) (type_at items id) ≡ Some next)
    step-typed q step id t h =
        let r = path-typed items body bodies ready (below q (step ∷ [])) h in (
          r.0,
          sym (whole (option_and_then (step_ty items step) (type_at items id)))
              ∙ sym (below-type items body q (step ∷ []) ∙ ap (option_and_then (ty_along items (step ∷ []))) t) ∙ r.1,
        )
      where
        whole : (o : Option TyId) → option_and_then (ty_along items []) o ≡ o
        whole None = refl
        whole (Some x) = refl

  module _ (fine : (path : List ℕ) (given : List Bool) → IsPath items body path given → bad_uses_on items body path ≡
      [])
      (n : ℕ) (acts : List PathAction) (comes : Comes items body n acts) where
    pub comes-sunk : Sunken items body acts
    comes-sunk = comes-sunken items body n acts fine comes

    all-uses : AllUses items body acts
    all-uses =
        subst (AllUses items body) (sym comes.before_is)
        (before-uses (actions_on body (comes.path ++ n ∷ [])) (path-uses items body (comes.path ++ n ∷ [])))
      where
        before-uses : (xs : List PathAction) → AllUses items body xs → AllUses items body (before_last xs)
        before-uses [] a = tt
        before-uses (x ∷ []) a = tt
        before-uses (x ∷ y ∷ xs) a = (a.0, before-uses (y ∷ xs) a.1)

    -- what is no path is spared
    pub no-path-spared : (q : Place) (step : Step) → nat_lt q.local (length body.locals) ≡ true →
        is_path items body (below q (step ∷ [])) ≡ false → Spared items body (below q (step ∷ [])) acts
    no-path-spared q step l off = spared items body (below q (step ∷ [])) l (no-local q.steps step) off acts all-uses
