-- What is along the steps of a place: the path to which they lead where locals hold numbers, the containers on the way,
-- those with a `Drop` impl; and what stands somewhere, as it is found.
use Rattle.std.proofs.Common.{◌≡◌, ℕ, pos, ◌==◌, ◌&&◌, not, Bool, true, false, List, [], ◌∷◌, ◌++◌, length, Option, Some, None, is_some, refl, ap}
use Rattle.std.specs.Prelude.{slice_get, option_and_then}
use Rattle.std.specs.Cmp.Derive.{both_true}
use Rattle.std.proofs.lemmas.Bool.Decides.{Decides-eqb}
use Rattle.mir_ty.specs.declared.ty.Ty.{Ty}
use Rattle.mir_ty.specs.declared.ty.TyId.{TyId}
use Rattle.mir_ty.specs.ItemTable.{ItemTable, type_at}
use Rattle.mir_ty.specs.Parts.{variants_of}
use Rattle.store_model.specs.declared.address.At.{At}
use Rattle.store_model.specs.declared.address.At.TheVariants.{Part, Inside}
use Rattle.store_model.specs.Values.Datum.{Datum, Number}
use Rattle.store_model.specs.Concrete.Drops.{drop_impl}
use Rattle.store_model.specs.Abstract.Presence.{Presence, itself_gone, presence_at, all_present}
use Rattle.store_model.specs.Places.Place.{Step, ToPart, ToField, ToContent, ToElement, step_ty}
use Rattle.store_model.specs.Places.TypeForms.{is_dyn}
use Rattle.store_model.specs.Concrete.Location.{DynamicType, OfType, OfObject, is_of_type, concrete_ty}
use Rattle.store_model.specs.Concrete.State.{Cells, cell}
use Rattle.soundness_values.specs.Typed.{is_impl_for, is_found}
use Rattle.soundness_values.proofs.Fits.{present_below}
use Rattle.soundness_values.proofs.Kept.{itself_present}

-- the number that a value is, and the path to which steps lead where locals hold the numbers of elements
abbrev pub number_in : Datum → ℕ
number_in (Number (pos n)) = n
number_in d = 0

abbrev pub at_step : Cells → Step → At
at_step cells (ToPart n) = Part n
at_step cells (ToField variant n) = Part n
at_step cells ToContent = Inside
at_step cells (ToElement i) = Part (number_in (cell i cells))

abbrev pub path_at : Cells → List Step → List At
path_at cells [] = []
path_at cells (step ∷ steps) = at_step cells step ∷ path_at cells steps

pub path_more : (cells : Cells) (steps : List Step) (step : Step) →
    path_at cells (steps ++ step ∷ []) ≡ path_at cells steps ++ at_step cells step ∷ []
path_more cells [] step = refl
path_more cells (s ∷ steps) step = ap (λ p. at_step cells s ∷ p) (path_more cells steps step)

-- no container on the way is gone, and of an array of which an element is taken nothing is
abbrev pub containers_along : List Step → Presence → Bool
containers_along [] p = true
containers_along (ToElement i ∷ steps) p = all_present p
containers_along (ToPart n ∷ steps) p = not (itself_gone p) && containers_along steps (presence_at (ToPart n) p)
containers_along (ToField variant n ∷ steps) p = not (itself_gone p) && containers_along steps
    (presence_at (ToField variant n) p)
containers_along (ToContent ∷ steps) p = not (itself_gone p) && containers_along steps (presence_at ToContent p)

pub present_containers : (items : ItemTable) (steps : List Step) (p : Presence) → all_present p ≡ true →
    containers_along steps p ≡ true
present_containers items [] p h = refl
present_containers items (ToElement i ∷ steps) p h = h
present_containers items (ToPart n ∷ steps) p h = both_true (ap not (itself_present items p h))
    (present_containers items steps (presence_at (ToPart n) p) (present_below items (ToPart n) p h))
present_containers items (ToField v n ∷ steps) p h = both_true (ap not (itself_present items p h))
    (present_containers items steps (presence_at (ToField v n) p) (present_below items (ToField v n) p h))
present_containers items (ToContent ∷ steps) p h = both_true (ap not (itself_present items p h))
    (present_containers items steps (presence_at ToContent p) (present_below items ToContent p h))

abbrev pub has_one_variant : ItemTable → Ty → Bool
has_one_variant items (Ty.Adt n) = length (variants_of (slice_get items.adts n)) == 1
has_one_variant items ty = false

-- no container on the way has a `Drop` impl
abbrev pub next_plain : Option TyId → (TyId → Bool) → Bool
next_plain None rest = true
next_plain (Some next) rest = rest next

abbrev pub are_plain : ItemTable → List Step → TyId → Bool
are_plain items [] id = true
are_plain items (step ∷ steps) id =
    not (is_some (drop_impl items (type_at items id)))
    && next_plain (option_and_then (step_ty items step) (type_at items id)) (are_plain items steps)

module _ (items : ItemTable) where
  -- what stands somewhere is found as what goes by a type, or, where that is `dyn`, by an impl of the trait
  pub data IsFound (id : TyId) : DynamicType → Type 0 where
    as_type : (f : DynamicType) → concrete_ty items f ≡ type_at items id →
        (is_of_type items id f ≡ true) × (is_found items f ≡ true) → IsFound id f
    as_object : (impl_no : ℕ) → is_dyn (type_at items id) ≡ true → is_impl_for items (type_at items id)
        (Some impl_no)
        ≡ true → IsFound id (OfObject id impl_no)

-- what is found as its type
pub as_itself : (items : ItemTable) (id : TyId) → IsFound items id (OfType id)
as_itself items id = as_type (OfType id) refl ((Decides-eqb id.0 id.0).1 refl, refl)
