-- What a checked run tests before each effect: that places are sure to lead on and what is stored is of their types,
-- that nothing that would need dropping is overwritten, that references which are passed name whole values of their
-- types, no two of one place if one is `&mut`; and what it knows after the effect.
use Rattle.std.proofs.Common.{◌≡◌, ℕ, ◌==◌, ◌&&◌, ◌||◌, not, Bool, true, false, List, [], ◌∷◌, ◌++◌, length, Option, Some, None, is_some}
use Rattle.std.specs.Prelude.{nat_lt, slice_get, option_and_then, replicate}
use Rattle.std.specs.List.{list_any, list_all, find}
use Rattle.std.specs.Cmp.Lexicographic.{pointwise}
use Rattle.std.specs.Option.{option_map_or}
use Rattle.mir_base.specs.declared.int_kind.IntKind.{IntKind}
use Rattle.mir_ty.specs.declared.ty.Ty.{Ty}
use Rattle.mir_ty.specs.declared.ty.TyId.{TyId}
use Rattle.mir_ty.specs.Facts.{needs_drop}
use Rattle.mir_ty.specs.ItemTable.{ItemTable, type_at}
use Rattle.mir_ty.specs.Parts.{parts_of, variants_of, captures_of}
use Rattle.store_model.specs.Abstract.Effects.{presence, may_use, watched_at}
use Rattle.store_model.specs.Abstract.Presence.{Presence, itself_gone, presence_along, all_present}
use Rattle.store_model.specs.Concrete.Effects.{impl_of}
use Rattle.store_model.specs.Concrete.Location.{named_by}
use Rattle.store_model.specs.Effects as effects
use Rattle.store_model.specs.Effects.{EffectSite, Operand, AggregateKind, OfTuple, OfArray, OfVariant, OfClosure, Action, Test, Mode, Normal, Unwinding}
use Rattle.store_model.specs.Places.Place.{Step, ToPart, ToField, ToContent, ToElement, Place, place_ty, is_reference, is_enum}
use Rattle.store_model.specs.Places.TypeForms.{same_id, same_kind, is_int, is_bool, is_unit, is_dyn, is_dyn_of, is_adt, is_closure, same_int, are_compared, is_signed, adt_of, tuple_parts, box_content, referent}
use Rattle.soundness_values.specs.Typed.{has_variant, number_fits}
use Rattle.soundness_values.proofs.Facts.{Naming, Facts, same_place, takes_index, without}
use Rattle.soundness_values.proofs.Along.{are_plain}
use Rattle.soundness_values.proofs.Running.{sure_place}
use Rattle.soundness_values.proofs.Ways.{has_index}

-- two places may have a part in common; an index may lead to any element
abbrev pub meet : List Step → List Step → Bool
meet [] steps = true
meet (step ∷ rest) [] = true
meet (ToElement i ∷ rest) (step ∷ steps) = true
meet (ToPart n ∷ rest) (ToElement i ∷ steps) = true
meet (ToField u n ∷ rest) (ToElement i ∷ steps) = true
meet (ToContent ∷ rest) (ToElement i ∷ steps) = true
meet (ToPart n ∷ rest) (ToPart m ∷ steps) = n == m && meet rest steps
meet (ToPart n ∷ rest) (ToField v m ∷ steps) = n == m && meet rest steps
meet (ToPart n ∷ rest) (ToContent ∷ steps) = false
meet (ToField u n ∷ rest) (ToPart m ∷ steps) = n == m && meet rest steps
meet (ToField u n ∷ rest) (ToField v m ∷ steps) = n == m && meet rest steps
meet (ToField u n ∷ rest) (ToContent ∷ steps) = false
meet (ToContent ∷ rest) (ToPart m ∷ steps) = false
meet (ToContent ∷ rest) (ToField v m ∷ steps) = false
meet (ToContent ∷ rest) (ToContent ∷ steps) = meet rest steps

abbrev pub overlap : Place → Place → Bool
overlap a b = a.local == b.local && meet a.steps b.steps

-- they have none, and neither is an index on the way to the other
abbrev pub are_apart : Place → Place → Bool
are_apart a b = not (overlap a b) && (not (takes_index a.local b.steps) && not (takes_index b.local a.steps))

abbrev pub is_none : {A : Type 0} → Option A → Bool
is_none None = true
is_none (Some a) = false

abbrev pub no_steps : List Step → Bool
no_steps [] = true
no_steps (step ∷ steps) = false

abbrev pub tys_if : Bool → List TyId → Option (List TyId)
tys_if true tys = Some tys
tys_if false tys = None

abbrev pub if_so : Bool → Bool → Bool
if_so true b = b
if_so false b = not b

abbrev pub listed : {A : Type 0} → Option A → List A
listed None = []
listed (Some a) = a ∷ []

abbrev pub without_if : Bool → Place → Facts → Facts
without_if true place facts = without place facts
without_if false place facts = facts

abbrev pub with_naming : Naming → Facts → Facts
with_naming n facts = record facts { naming = n ∷ facts.naming }

abbrev pub with_bounded : ℕ → ℕ → Facts → Facts
with_bounded local count facts = record facts { bounded = (local, count) ∷ facts.bounded }

abbrev pub with_variant : Place → ℕ → Facts → Facts
with_variant place variant facts = record facts { variants = (place, variant) ∷ facts.variants }

abbrev pub refilled_if : Bool → Place → Facts → Facts
refilled_if true place facts = facts
refilled_if false place facts = record facts { refilled = Some place }

abbrev pub unless_refilled : Option Place → Bool → (Place → Bool) → Bool
unless_refilled None now refill = now
unless_refilled (Some hole) now refill = refill hole

module _ (items : ItemTable) (local_ty : ℕ → Option TyId) (is_target : ℕ → Bool) where
  abbrev pub id_of : Place → Option TyId
  id_of place = place_ty items local_ty place

  abbrev pub ty_of : Place → Option Ty
  ty_of place = option_and_then (type_at items) (id_of place)

  abbrev pub needs : Place → Bool
  needs place = option_map_or (needs_drop items) (id_of place) false

  -- behind a reference that is `&mut`, or in a local
  abbrev pub is_unique : Option TyId → Bool
  is_unique id = is_some (referent true (option_and_then (type_at items) id))

  abbrev pub may_change : Place → Bool
  may_change place = not (is_target place.local) || is_unique (local_ty place.local)

  -- ---- operands

  abbrev pub is_of : Operand → TyId → Bool
  is_of (effects.Copied site) id = option_map_or (same_id id) (id_of site.place) false
  is_of (effects.Moved site) id = option_map_or (same_id id) (id_of site.place) false
  is_of (effects.Number value kind) id = is_int kind (type_at items id) && number_fits kind value
  is_of (effects.Truth value) id = is_bool (type_at items id)
  is_of effects.UnitValue id = is_unit (type_at items id)

  abbrev pub form_of : Operand → Option Ty
  form_of (effects.Copied site) = ty_of site.place
  form_of (effects.Moved site) = ty_of site.place
  form_of (effects.Number value kind) = Some (Ty.Int kind)
  form_of (effects.Truth value) = Some Ty.Bool
  form_of effects.UnitValue = Some Ty.Unit

  -- a value of the place may be used by itself
  abbrev pub is_value : Place → Bool
  is_value place = not (is_reference (ty_of place)) && not (is_dyn (ty_of place))

  -- what is moved leaves its place gone, which is in a local and in no value with a `Drop` impl
  abbrev pub may_move : Place → Bool
  may_move place = (not (is_target place.local) && not (has_index place.steps)) && option_map_or
      (are_plain items place.steps) (local_ty place.local) false

  abbrev pub takes_well : Facts → Operand → Bool
  takes_well facts (effects.Copied site) = sure_place items local_ty is_target facts site.place
      && (is_value site.place && not (needs site.place))
  takes_well facts (effects.Moved site) = sure_place items local_ty is_target facts site.place
      && (is_value site.place && may_move site.place)
  takes_well facts (effects.Number value kind) = number_fits kind value
  takes_well facts operand = true

  abbrev pub after_operand : Operand → Facts → Facts
  after_operand (effects.Moved site) facts = without site.place facts
  after_operand operand facts = facts

  abbrev pub after_operands : List Operand → Facts → Facts
  after_operands [] facts = facts
  after_operands (operand ∷ operands) facts = after_operands operands (after_operand operand facts)

  -- operands of these types, one after the other
  abbrev pub take_well : Facts → List TyId → List Operand → Bool
  take_well facts [] [] = true
  take_well facts (id ∷ ids) (operand ∷ operands) = (takes_well facts operand && is_of operand id) && take_well
      (after_operand operand facts) ids operands
  take_well facts ids operands = false

  -- ---- stores

  -- nothing stands there that would need dropping
  abbrev pub is_empty : List (ℕ × Presence) → Place → Bool
  is_empty cells place =
      not (needs place) || (may_move place && itself_gone (presence_along place.steps (presence place.local cells)))

  abbrev pub may_store : Facts → List (ℕ × Presence) → Place → Bool
  may_store facts cells place = sure_place items local_ty is_target facts place
      && ((is_value place && may_change place) && is_empty cells place)

  -- a value of a type that is given is stored
  abbrev pub stores_as : Facts → List (ℕ × Presence) → EffectSite → (Option Ty → Bool) → Bool
  stores_as facts cells to test = may_store facts cells to.place && test (ty_of to.place)

  abbrev pub of_place : (TyId → Bool) → Place → Bool
  of_place test place = option_map_or test (id_of place) false

  abbrev pub has_variant_of : Option Ty → ℕ → Bool
  has_variant_of ty variant = has_variant items ty variant

  -- the types of the parts of an aggregate
  abbrev pub part_types : AggregateKind → Option Ty → Option (List TyId)
  part_types OfTuple (Some (Ty.Tuple tys)) = Some tys
  part_types OfArray (Some (Ty.Array element count)) = Some (replicate count element)
  part_types (OfVariant adt variant) (Some (Ty.Adt n)) =
      tys_if (adt == n && has_variant items (Some (Ty.Adt n)) variant) (parts_of items (Ty.Adt n) variant)
  part_types (OfClosure closure) (Some (Ty.Closure n)) =
      tys_if (closure == n) (captures_of (slice_get items.closures n))
  part_types kind ty = None

  -- ---- references that are passed

  abbrev pub naming_of : ℕ → Facts → Option Naming
  naming_of local facts = find (λ n. n.local == local) facts.naming

  -- a reference to a whole value of a type, which may be changed if it is `&mut`
  abbrev pub names_well : Facts → List (ℕ × Presence) → Bool → TyId → Naming → Bool
  names_well facts cells unique to n =
      (if_so unique n.unique && option_map_or (same_id to) (id_of n.place) false)
      && (sure_place items local_ty is_target facts n.place && (not unique || may_change n.place))
      && may_use (watched_at items local_ty (record { node = 0; place = n.place })) (presence n.place.local cells)

  abbrev pub names_well_if_any : Facts → List (ℕ × Presence) → Bool → TyId → Option Naming → Bool
  names_well_if_any facts cells unique to None = false
  names_well_if_any facts cells unique to (Some n) = names_well facts cells unique to n

  -- what a local names is known as it is moved; that it is whole, when all arguments are there
  abbrev pub passes_reference : (last facts : Facts) → List (ℕ × Presence) → Bool → TyId → Operand → Bool
  passes_reference last facts cells unique to (effects.Moved site) =
      (no_steps site.place.steps && (not (is_target site.place.local) && is_some (id_of site.place)))
      && names_well_if_any last cells unique to (naming_of site.place.local facts)
  passes_reference last facts cells unique to operand = false

  -- an argument for a parameter of a type
  abbrev pub passes_as : (last facts : Facts) → List (ℕ × Presence) → TyId → Operand → Option Ty → Bool
  passes_as last facts cells id operand (Some (Ty.Shared to)) = passes_reference last facts cells false to operand
  passes_as last facts cells id operand (Some (Ty.Unique to)) = passes_reference last facts cells true to operand
  passes_as last facts cells id operand ty = takes_well facts operand && is_of operand id

  abbrev pub passes : (last facts : Facts) → List (ℕ × Presence) → List TyId → List Operand → Bool
  passes last facts cells [] [] = true
  passes last facts cells (id ∷ ids) (operand ∷ operands) =
      passes_as last facts cells id operand (type_at items id) && passes last (after_operand operand facts) cells ids
      operands
  passes last facts cells ids operands = false

  -- what the arguments name
  abbrev pub named_by_one : Facts → Operand → List Naming
  named_by_one facts (effects.Moved site) = listed (naming_of site.place.local facts)
  named_by_one facts operand = []

  abbrev pub named_by_all : Facts → List Operand → List Naming
  named_by_all facts [] = []
  named_by_all facts (operand ∷ operands) = named_by_one facts operand ++ named_by_all (after_operand operand facts)
      operands

  abbrev pub apart_from : Naming → List Naming → Bool
  apart_from n [] = true
  apart_from n (m ∷ rest) = (not (n.unique || m.unique) || are_apart n.place m.place) && apart_from n rest

  abbrev pub all_apart : List Naming → Bool
  all_apart [] = true
  all_apart (n ∷ rest) = apart_from n rest && all_apart rest

  -- no argument is itself taken out of what another names, or is an index on the way to it
  abbrev pub takes_from : Operand → Naming → Bool
  takes_from (effects.Moved site) n = site.place.local == n.place.local || takes_index site.place.local n.place.steps
  takes_from operand n = false

  abbrev pub none_taken : List Operand → List Naming → Bool
  none_taken operands names = list_all (λ operand. not (list_any (takes_from operand) names)) operands

  -- what a `&mut` argument names holds another value of its type then
  abbrev pub after_naming : Naming → Facts → Facts
  after_naming n facts = without_if n.unique n.place facts

  abbrev pub after_namings : List Naming → Facts → Facts
  after_namings [] facts = facts
  after_namings (n ∷ rest) facts = after_namings rest (after_naming n facts)

  abbrev pub calls_well : Facts → List (ℕ × Presence) → EffectSite → List TyId → TyId → List Operand → Bool
  calls_well facts cells to params result args =
      (may_store (after_namings (named_by_all facts args) (after_operands args facts)) cells to.place
      && option_map_or (same_id result) (id_of to.place) false)
      && (passes (after_operands args facts) facts cells params args
      && (all_apart (named_by_all facts args) && none_taken args (named_by_all facts args)))

  -- ---- actions

  -- a place that was dropped gets a value that stands in a local
  abbrev pub refills : Facts → Place → Action → Bool
  refills facts hole (effects.Put to (effects.Moved site)) =
      ((same_place to.place hole && not (site.place.local == hole.local))
      && (not (takes_index site.place.local hole.steps) && not (takes_index hole.local hole.steps)))
      && ((sure_place items local_ty is_target facts to.place && (is_value to.place && may_change to.place))
      && ((no_steps site.place.steps && takes_well facts (effects.Moved site)) && option_map_or
      (is_of (effects.Moved site)) (id_of to.place) false))
  refills facts hole action = false

  abbrev pub head_of : ℕ → ℕ → Option (List TyId × TyId)
  head_of trait_no method =
      option_and_then (λ def. option_map_or (λ sig. Some (sig.params, sig.result)) (slice_get def.methods method)
      None) (slice_get items.traits trait_no)

  abbrev pub acts_well : Facts → List (ℕ × Presence) → Action → Bool
  acts_well facts cells (effects.Put to from) = may_store (after_operand from facts) cells to.place
      && (takes_well facts from && of_place (is_of from) to.place)
  acts_well facts cells (effects.Compare to operator left right) =
      stores_as (after_operand right (after_operand left facts)) cells to is_bool
      && (takes_well facts left && (takes_well (after_operand left facts) right && are_compared (form_of left)
      (form_of right)))
  acts_well facts cells (effects.Not to operand) = stores_as (after_operand operand facts) cells to is_bool
      && (takes_well facts operand && is_bool (form_of operand))
  acts_well facts cells (effects.Build to kind parts) = may_store (after_operands parts facts) cells to.place
      && option_map_or (λ tys. take_well facts tys parts) (part_types kind (ty_of to.place)) false
  acts_well facts cells (effects.NewBox to content) =
      may_store (after_operand content facts) cells to.place
      && (takes_well facts content && option_map_or (λ id. is_of content id && not (is_dyn (type_at items id)))
      (box_content (ty_of to.place)) false)
  acts_well facts cells (effects.Unsize to trait_no operand) =
      may_store (after_operand operand facts) cells to.place
      && (takes_well facts operand
      && (is_dyn_of trait_no (option_and_then (type_at items) (box_content (ty_of to.place)))
      && option_map_or (λ adt. is_some (impl_of items trait_no adt))
      (adt_of (option_and_then (type_at items) (box_content (form_of operand)))) false))
  acts_well facts cells (effects.Borrow to unique base) =
      (no_steps to.place.steps && not (is_target to.place.local))
      && (option_map_or (λ id. option_map_or (same_id id) (referent unique (ty_of to.place)) false)
      (id_of base.place) false
      && (sure_place items local_ty is_target facts base.place
      && (not (base.place.local == to.place.local) && not (takes_index to.place.local base.place.steps))))
  acts_well facts cells (effects.Touch base) = sure_place items local_ty is_target facts base.place
  acts_well facts cells (effects.Print operand) = takes_well facts operand && is_int IntKind.I32 (form_of operand)
  acts_well facts cells (effects.Forget operand) = takes_well facts operand && is_some (form_of operand)
  acts_well facts cells (effects.Free box) = false
  acts_well facts cells (effects.Compute to operator left right) =
      stores_as (after_operand right (after_operand left facts)) cells to (same_int (form_of left))
      && (takes_well facts left && (takes_well (after_operand left facts) right && same_int (form_of left)
      (form_of right)))
  acts_well facts cells (effects.Negate to operand) = stores_as (after_operand operand facts) cells to
      (same_int (form_of operand)) && (takes_well facts operand && is_signed (form_of operand))
  acts_well facts cells (effects.Bounds (effects.Copied site) length) =
      (no_steps site.place.steps && takes_well facts (effects.Copied site)) && is_int IntKind.Usize
      (ty_of site.place)
  acts_well facts cells (effects.Bounds index length) = false
  acts_well facts cells (effects.Call to body args) =
      option_map_or (λ sig. calls_well facts cells to sig.params sig.result args) (slice_get items.bodies body) false
  acts_well facts cells (effects.CallVirtual to trait_no method args) =
      option_map_or (λ (head : List TyId × TyId). calls_well facts cells to head.0 head.1 args)
      (head_of trait_no method) false
  acts_well facts cells (effects.Ask to) = stores_as facts cells to (is_int IntKind.I32)

  abbrev pub may_act : Facts → List (ℕ × Presence) → Action → Bool
  may_act facts cells action = unless_refilled facts.refilled (acts_well facts cells action)
      (λ hole. refills facts hole action)

  abbrev pub after_store : EffectSite → Facts → Facts
  after_store to facts = without to.place facts

  abbrev pub refilled_now : Facts → Facts
  refilled_now facts = record facts { refilled = None }

  abbrev pub after_action : Action → Facts → Facts
  after_action (effects.Put to from) facts = refilled_now (after_store to (after_operand from facts))
  after_action (effects.Compare to operator left right) facts =
      after_store to (after_operand right (after_operand left facts))
  after_action (effects.Not to operand) facts = after_store to (after_operand operand facts)
  after_action (effects.Build to kind parts) facts = after_store to (after_operands parts facts)
  after_action (effects.NewBox to content) facts = after_store to (after_operand content facts)
  after_action (effects.Unsize to trait_no operand) facts = after_store to (after_operand operand facts)
  after_action (effects.Borrow to unique base) facts =
      with_naming (record { local = to.place.local; unique = unique; place = base.place }) (after_store to facts)
  after_action (effects.Touch base) facts = facts
  after_action (effects.Print operand) facts = after_operand operand facts
  after_action (effects.Forget operand) facts = after_operand operand facts
  after_action (effects.Free box) facts = facts
  after_action (effects.Compute to operator left right) facts =
      after_store to (after_operand right (after_operand left facts))
  after_action (effects.Negate to operand) facts = after_store to (after_operand operand facts)
  after_action (effects.Bounds (effects.Copied site) length) facts = with_bounded site.place.local length facts
  after_action (effects.Bounds index length) facts = facts
  after_action (effects.Call to body args) facts =
      after_store to (after_namings (named_by_all facts args) (after_operands args facts))
  after_action (effects.CallVirtual to trait_no method args) facts =
      after_store to (after_namings (named_by_all facts args) (after_operands args facts))
  after_action (effects.Ask to) facts = after_store to facts

  -- the same where it panics
  abbrev pub after_unwound : Action → Facts → Facts
  after_unwound (effects.Bounds index length) facts = facts
  after_unwound action facts = after_action action facts

  -- ---- tests, drops, results

  abbrev pub may_choose : Facts → Test → Bool
  may_choose facts (effects.IsTrue operand) =
      is_none facts.refilled && (takes_well facts operand && is_bool (form_of operand))
  may_choose facts (effects.HasVariant site variant) =
      is_none facts.refilled && (sure_place items local_ty is_target facts site.place && option_map_or
      (λ ty. is_enum items ty) (ty_of site.place) false)

  abbrev pub after_taken : Test → Facts → Facts
  after_taken (effects.IsTrue operand) facts = after_operand operand facts
  after_taken (effects.HasVariant site variant) facts = with_variant site.place variant facts

  abbrev pub after_declined : Test → Facts → Facts
  after_declined (effects.IsTrue operand) facts = after_operand operand facts
  after_declined (effects.HasVariant site variant) facts = facts

  abbrev pub is_normal : Mode → Bool
  is_normal Normal = true
  is_normal Unwinding = false

  -- an entry is dropped, or the place of an assignment that gets its value at once
  abbrev pub may_drop : Mode → Facts → Place → Bool
  may_drop mode facts place =
      is_none facts.refilled
      && (sure_place items local_ty is_target facts place
      && (no_steps place.steps || (is_normal mode && ((is_value place && may_change place) && needs place))))

  abbrev pub after_drop : Place → Facts → Facts
  after_drop place facts = refilled_if (no_steps place.steps) place (without place facts)

  -- the result of a body is whole
  abbrev pub may_give : Facts → List (ℕ × Presence) → Place → Bool
  may_give facts cells place =
      is_none facts.refilled
      && (no_steps place.steps && (not (is_target place.local) && (all_present (presence place.local cells)
      && is_some (id_of place))))
