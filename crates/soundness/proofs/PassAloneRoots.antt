-- On the way of a place that is sure to lead on stands no reference but the local itself.
use Rattle.std.proofs.Common.{◌≡◌, not, Bool, true, false, ℕ, List, [], ◌∷◌, Option, Some, None, ap, ◌∙◌, sym, refl}
use Rattle.std.specs.Cmp.{first_so, second_so}
use Rattle.std.specs.Prelude.{option_and_then}
use Rattle.std.proofs.lemmas.Bool.{false≢true}
use Rattle.std.proofs.lemmas.Option.{none-some}
use Rattle.mir_ty.specs.declared.ty.Ty.{Ty}
use Rattle.mir_ty.specs.declared.ty.TyId.{TyId}
use Rattle.mir_ty.specs.ItemTable.{ItemTable, type_at}
use Rattle.store_model.specs.Concrete.Location.{named_by}
use Rattle.store_model.specs.Places.Place.{Step, ToPart, ToField, ToContent, ToElement, Place, Watched, Whole, ThroughReference, ByElement, Reach, is_reference, content_of, watched, watched_content}
use Rattle.soundness_values.proofs.Facts.{Facts, bounded_by, variant_at}
use Rattle.soundness_values.proofs.Running.{sure_place, sure_in, sure_from, sure_behind}
use Rattle.soundness_values.proofs.Watching.{watched_own, watched_sure}

-- a reference on the way of a place, if any, is its local
abbrev pub Rooted : Watched → Type 0
Rooted w = w.reach ≡ ThroughReference → w.steps ≡ []

abbrev is_through : Reach → Bool
is_through Whole = false
is_through ThroughReference = true
is_through ByElement = false

own_through : (steps : List Step) → (watched_own steps).reach ≡ ThroughReference → ⊥
own_through [] e = false≢true (ap is_through e)
own_through (ToPart n ∷ steps) e = own_through steps e
own_through (ToField v n ∷ steps) e = own_through steps e
own_through (ToContent ∷ steps) e = own_through steps e
own_through (ToElement i ∷ steps) e = false≢true (ap is_through e)

named_reference : (o : Option Ty) (to : TyId) → named_by o ≡ Some to → is_reference o ≡ true
named_reference None to e = absurd (none-some to e)
named_reference (Some (Ty.Shared t)) to e = refl
named_reference (Some (Ty.Unique t)) to e = refl
named_reference (Some ty) to e = absurd (none-some to e)

module _ (items : ItemTable) (local_ty : ℕ → Option TyId) (is_target : ℕ → Bool) (facts : Facts) where
  pub sure_rooted : (place : Place) → sure_place items local_ty is_target facts place ≡ true →
      Rooted (watched items (local_ty place.local) place.steps)
  sure_rooted place h = by (local_ty place.local) h
    where
      behind : (id to : TyId) (steps : List Step) → is_reference (type_at items id) ≡ true →
          sure_behind items local_ty is_target facts place.local to steps ≡ true →
          Rooted (watched items (Some id) steps)
      behind id to (ToContent ∷ steps) r h e = ap (λ b. (watched_content b
          (watched items (option_and_then content_of (type_at items id)) steps)).steps) r
      behind id to [] r h e = refl
      behind id to (ToPart n ∷ steps) r h e = absurd (false≢true h)
      behind id to (ToField v n ∷ steps) r h e = absurd (false≢true h)
      behind id to (ToElement i ∷ steps) r h e = refl

      named : (id : TyId) (o : Option TyId) → named_by (type_at items id) ≡ o →
          sure_from items local_ty is_target facts place id o ≡ true → Rooted (watched items (Some id) place.steps)
      named id (Some to) n h e = behind id to place.steps (named_reference (type_at items id) to n)
          (second_so (is_target place.local) _ h) e
      named id None n h e = absurd (own_through place.steps
          (sym (ap (λ (w : Watched). w.reach) (watched_sure items (bounded_by facts)
          (variant_at facts place.local []) [] place.steps id (second_so (not (is_target place.local)) _ h))) ∙ e))

      by : (o : Option TyId) → sure_in items local_ty is_target facts place o ≡ true →
          Rooted (watched items o place.steps)
      by None h = absurd (false≢true h)
      by (Some id) h = named id (named_by (type_at items id)) refl h
