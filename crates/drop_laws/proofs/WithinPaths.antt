-- The steps along a path are watched, and so what lies above what needs dropping needs it too.
use Rattle.std.proofs.Common.{◌≡◌, ◌∙◌, ◌∷◌, [], ◌++◌, ℕ, Bool, true, false, List, Option, Some, None, slice_get, refl, sym, ap, subst, append_assoc}
use Rattle.std.specs.Prelude.{option_and_then}
use Rattle.std.proofs.lemmas.Bool.{false≢true}
use Rattle.std.proofs.lemmas.Option.{none-some, same_Some}
use Rattle.mir_ty.proofs.LeastRelations.{needs_drop_from, needs_drop-rules}
use Rattle.mir_ty.specs.declared.ty.Ty.{Ty}
use Rattle.mir_ty.specs.declared.ty.TyId.{TyId}
use Rattle.mir_ty.specs.Facts.{a_box, a_part, needs_drop}
use Rattle.mir_ty.specs.ItemTable.{ItemTable, type_at}
use Rattle.mir_ty.specs.Parts.{parts_of}
use Rattle.cfg_graph.specs.declared.graph.Body.{Body}
use Rattle.cfg_graph.specs.Moves.Gone.{below, reaches_whole}
use Rattle.cfg_graph.specs.Places.{named}
use Rattle.move_paths.specs.Forest.{is_local, is_path}
use Rattle.store_model.specs.Places.Place.{Step, ToPart, ToField, ToContent, ToElement, Place, is_enum, is_reference, content_of, unless_enum, step_ty, ty_along, watched, watched_content}
use Rattle.drop_elaborate.proofs.PathSpares.{changed-below, use-below, then-some}
use Rattle.drop_elaborate.specs.Kinds.{place_id}
use Rattle.drop_laws.proofs.ApartAs.{Apart, boxed, enum, plainly, apart_as}
use Rattle.drop_laws.proofs.Living.{watched-first, watched-one}
use Rattle.drop_laws.proofs.Rungs.{field-there}

no-local : (steps : List Step) (step : Step) (rest : List Step) → is_local (steps ++ step ∷ rest) ≡ false
no-local [] step rest = refl
no-local (x ∷ steps) step rest = refl

module _ (items : ItemTable) where
  along-within : (first rest : List Step) (start id : TyId) → ty_along items first start ≡ Some id →
      reaches_whole (watched items (Some start) (first ++ rest)) ≡ true → reaches_whole (watched items (Some id) rest)
      ≡ true
  along-within [] rest start id t h =
      subst (λ (z : TyId). reaches_whole (watched items (Some z) rest) ≡ true) (same_Some start id t) h
  along-within (step ∷ first) rest start id t h =
      by (option_and_then (step_ty items step) (type_at items start)) refl t (along-within first rest)
    where
      within : reaches_whole (watched items (Some start) (step ∷ [])) ≡ true
      within = watched-first items step (first ++ rest) start h

      by : (o : Option TyId) → option_and_then (step_ty items step) (type_at items start) ≡ o →
          option_and_then (ty_along items first) o ≡ Some id →
          ((next id : TyId) → ty_along items first next ≡ Some id →
          reaches_whole (watched items (Some next) (first ++ rest)) ≡ true → reaches_whole (watched items (Some id)
          rest) ≡ true) →
          reaches_whole (watched items (Some id) rest) ≡ true
      by None e t again = absurd (none-some id t)
      by (Some next) e t again = again next id t (sym (watched-one items step (first ++ rest) start next e within) ∙ h)

  -- a step to what needs dropping leads from what needs it
  pub needs-above : (step : Step) (id next : TyId) → option_and_then (step_ty items step) (type_at items id) ≡ Some
      next →
      reaches_whole (watched items (Some id) (step ∷ [])) ≡ true → needs_drop items next ≡ true → needs_drop items id
      ≡ true
  needs-above step id next e within needs = by (type_at items id) refl e
    where
      in-part : (variant part : ℕ) (ty : Ty) → type_at items id ≡ Some ty → slice_get (parts_of items ty variant) part
          ≡ Some next →
          needs_drop items id ≡ true
      in-part variant part ty at s =
          needs_drop_from items id (a_part variant part
          (ap (option_and_then (λ (z : Ty). slice_get (parts_of items z variant) part)) at ∙ s) ((needs_drop-rules
          items next).0 needs))

      unless : (b : Bool) (o : Option TyId) → unless_enum b o ≡ Some next → o ≡ Some next
      unless true o s = absurd (none-some next s)
      unless false o s = s

      content : (ty : Ty) → type_at items id ≡ Some ty → Apart items ty → content_of ty ≡ Some next →
          reaches_whole (watched items (Some id) (ToContent ∷ [])) ≡ true → needs_drop items id ≡ true
      content _ at (boxed inside) s w = needs_drop_from items id (a_box at)
      content _ at (enum k en) s w = absurd (none-some next s)
      content _ at (plainly ty p) s w =
          absurd (false≢true (sym (ap (λ (b : Bool). reaches_whole (watched_content b (watched items (option_and_then
          content_of (type_at items id)) [])))
          (ap is_reference at ∙ p.content next s)) ∙ w))

      by-step : (z : Step) (ty : Ty) → type_at items id ≡ Some ty → step_ty items z ty ≡ Some next →
          reaches_whole (watched items (Some id) (z ∷ [])) ≡ true → needs_drop items id ≡ true
      by-step (ToPart part) ty at s w = in-part 0 part ty at (unless (is_enum items ty) (slice_get (parts_of items ty
          0) part) s)
      by-step (ToField variant part) ty at s w =
          in-part variant part ty at (field-there (is_enum items ty) (slice_get (parts_of items ty variant) part) next
          s)
      by-step ToContent ty at s w = content ty at (apart_as items ty) s w
      by-step (ToElement i) ty at s w = absurd (false≢true w)

      by : (o : Option Ty) → type_at items id ≡ o → option_and_then (step_ty items step) o ≡ Some next → needs_drop
          items id ≡ true
      by None at s = absurd (none-some next s)
      by (Some ty) at s = by-step step ty at s within

  module _ (body : Body) where
    -- the first step below a place on the way to a path
    pub path-within : (q : Place) (step : Step) (rest : List Step) (id : TyId) → place_id items body q ≡ Some id →
        is_path items body (below q (step ∷ rest)) ≡ true → reaches_whole (watched items (Some id) (step ∷ [])) ≡ true
    path-within q step rest id typed h =
        let p = below q (step ∷ rest) in
        let x = changed-below items body p h (no-local q.steps step rest) in
        let u = use-below items body p x.x x.passes in
        let start = then-some items body (ty_along items q.steps) (slice_get body.locals q.local) id typed in
        let counted : reaches_whole (watched items (Some start.0) (q.steps ++ (step ∷ (rest ++ u.more)))) ≡ true =
        ap (λ (l : List Step). reaches_whole (watched items (Some start.0) l))
        (sym (append_assoc q.steps (step ∷ rest) u.more) ∙ sym u.steps_are)
        ∙ ap (λ (o : Option TyId). reaches_whole (watched items o (named x.x.1).steps)) (sym start.1)
        ∙ ap (λ (k : ℕ). reaches_whole (watched items (slice_get body.locals k) (named x.x.1).steps)) (sym u.local_is)
        ∙ u.counted in
        watched-first items step (rest ++ u.more) id
        (along-within q.steps (step ∷ (rest ++ u.more)) start.0 id start.2 counted)
