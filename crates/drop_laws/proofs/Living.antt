-- A numbered place that is there where some path comes to a drop: so the drop is not dead.
use Rattle.std.proofs.Common.{◌≡◌, ◌∙◌, ◌∷◌, [], ℕ, Bool, true, false, List, Option, Some, refl, sym, ap}
use Rattle.std.specs.Prelude.{option_and_then}
use Rattle.std.proofs.lemmas.Bool.{false≢true}
use Rattle.mir_ty.specs.declared.ty.TyId.{TyId}
use Rattle.mir_ty.specs.Facts.{needs_drop}
use Rattle.mir_ty.specs.ItemTable.{ItemTable, type_at}
use Rattle.cfg_graph.specs.declared.graph.Body.{Body}
use Rattle.cfg_graph.specs.Moves.Gone.{PathAction, below, reaches_whole, is_gone_after}
use Rattle.store_model.specs.Places.Place.{Step, ToPart, ToField, ToContent, ToElement, Place, is_reference, content_of, step_ty, ty_along, watched, watched_content}
use Rattle.drop_elaborate.proofs.DeadDrops.{below-type}
use Rattle.drop_elaborate.proofs.ReadyBody.{BodyIsReady}
use Rattle.drop_elaborate.specs.Kinds.{is_numbered, place_id, stays_within, Comes, IsDead}
use Rattle.drop_laws.proofs.BelowPaths.{below-step}
use Rattle.drop_laws.proofs.NumberedBelow.{numbered-below}
use Rattle.drop_laws.proofs.PathPlaces.{step-type}

module _ (items : ItemTable) where
  -- what is watched to its end is watched from each step on
  pub watched-first : (step : Step) (rest : List Step) (id : TyId) →
      reaches_whole (watched items (Some id) (step ∷ rest)) ≡ true →
      reaches_whole (watched items (Some id) (step ∷ [])) ≡ true
  watched-first (ToPart n) rest id h = refl
  watched-first (ToField v n) rest id h = refl
  watched-first ToContent rest id h = by (is_reference (type_at items id)) h
    where
      by : (b : Bool) → reaches_whole (watched_content b (watched items (option_and_then content_of (type_at items
          id)) rest)) ≡ true →
          reaches_whole (watched_content b (watched items (option_and_then content_of (type_at items id)) [])) ≡ true
      by true h = absurd (false≢true h)
      by false h = refl
  watched-first (ToElement i) rest id h = absurd (false≢true h)

  pub watched-one : (step : Step) (rest : List Step) (id next : TyId) →
      option_and_then (step_ty items step) (type_at items id) ≡ Some next →
      reaches_whole (watched items (Some id) (step ∷ [])) ≡ true →
      reaches_whole (watched items (Some id) (step ∷ rest)) ≡ reaches_whole (watched items (Some next) rest)
  watched-one (ToPart n) rest id next e h = ap (λ (o : Option TyId). reaches_whole (watched items o rest)) e
  watched-one (ToField v n) rest id next e h = ap (λ (o : Option TyId). reaches_whole (watched items o rest)) e
  watched-one ToContent rest id next e h = by (is_reference (type_at items id)) h
    where
      by : (b : Bool) → reaches_whole (watched_content b (watched items (option_and_then content_of (type_at items
          id)) [])) ≡ true →
          reaches_whole (watched_content b (watched items (option_and_then content_of (type_at items id)) rest))
          ≡ reaches_whole (watched items (Some next) rest)
      by true h = absurd (false≢true h)
      by false h = ap (λ (o : Option TyId). reaches_whole (watched items o rest)) e
  watched-one (ToElement i) rest id next e h = absurd (false≢true h)

module _ (items : ItemTable) (bodies : ℕ) (body : Body) (ready : BodyIsReady items bodies body) (n : ℕ) where
  -- some numbered place at or below this one is there on some path
  pub record Living (q : Place) : Type 0 where
    pub before : List PathAction
    pub comes : Comes items body n before
    pub steps : List Step
    pub id : TyId
    pub stays : stays_within items body q steps ≡ true
    pub typed : place_id items body (below q steps) ≡ Some id
    pub numbered : is_numbered items body id ≡ true
    pub there : is_gone_after items body before (below q steps) ≡ false

  pub alive-not-dead : (q : Place) → Living q → IsDead items body n q → ⊥
  alive-not-dead q a dead = false≢true (sym a.there ∙ dead a.before a.steps a.id a.comes a.stays a.typed a.numbered)

  -- all of a place is there whose type needs dropping
  pub whole-alive : (q : Place) (id : TyId) → place_id items body q ≡ Some id → needs_drop items id ≡ true → (before :
      List PathAction) →
      Comes items body n before → ((steps : List Step) → is_gone_after items body before (below q steps) ≡ false) →
      Living q
  whole-alive q id typed needs before comes there =
      let b = numbered-below items body ready.one_variant id needs in record {
        before = before;
        comes = comes;
        steps = b.steps;
        id = b.last;
        stays = ap (λ (o : Option TyId). reaches_whole (watched items o b.steps)) typed ∙ b.stays;
        typed = below-type items body q b.steps ∙ ap (option_and_then (ty_along items b.steps)) typed ∙ b.along;
        numbered = b.numbered;
        there = there b.steps;
      }

  pub alive-above : (q : Place) (step : Step) (id next : TyId) → place_id items body q ≡ Some id →
      option_and_then (step_ty items step) (type_at items id) ≡ Some next →
      reaches_whole (watched items (Some id) (step ∷ [])) ≡ true → Living (below q (step ∷ [])) → Living q
  alive-above q step id next typed e within a = record {
    before = a.before;
    comes = a.comes;
    steps = step ∷ a.steps;
    id = a.id;
    stays = ap (λ (o : Option TyId). reaches_whole (watched items o (step ∷ a.steps))) typed
        ∙ watched-one items step a.steps id next e within
        ∙ sym (ap (λ (o : Option TyId). reaches_whole (watched items o a.steps)) (step-type items body q step id next
        typed e))
        ∙ a.stays;
    typed = ap (place_id items body) (sym (below-step q step a.steps)) ∙ a.typed;
    numbered = a.numbered;
    there = ap (is_gone_after items body a.before) (sym (below-step q step a.steps)) ∙ a.there;
  }
