-- The first test of a checked run: what is stored in a whole local, and what is moved out of one, is of the type that
-- is asked for, and neither a reference nor a trait object; a place leads on by the types, and is of the type that is
-- asked for. Nothing but types is looked at, so the text alone decides it.
use Rattle.std.proofs.Common.{◌≡◌, ℕ, ◌&&◌, ◌||◌, not, Bool, true, false, List, [], ◌∷◌, Option, Some, None, is_some, refl}
use Rattle.std.specs.Prelude.{slice_get, option_and_then}
use Rattle.std.specs.Option.{option_map_or}
use Rattle.mir_base.specs.declared.int_kind.IntKind.{IntKind}
use Rattle.mir_ty.specs.declared.ty.Ty.{Ty}
use Rattle.mir_ty.specs.declared.ty.TyId.{TyId}
use Rattle.mir_ty.specs.ItemTable.{ItemTable, type_at}
use Rattle.store_model.specs.Concrete.Effects.{impl_of}
use Rattle.store_model.specs.Effects as effects
use Rattle.store_model.specs.Concrete.Location.{named_by}
use Rattle.store_model.specs.Effects.{EffectSite, Operand, AggregateKind, Action, Test, Mode}
use Rattle.store_model.specs.Places.Place.{Step, ToContent, Place, is_reference, is_enum}
use Rattle.store_model.specs.Places.TypeForms.{same_id, is_int, is_bool, is_dyn, is_dyn_of, same_int, are_compared, is_signed, adt_of, box_content, referent}
use Rattle.typed_tree.specs.Tree.{BodyTree}
use Rattle.src_meaning.specs.Locals.OfBody.{local_ty}
use Rattle.soundness_values.specs.Typed.{number_fits}
use Rattle.soundness_values.proofs.CheckedBodies.{checks_of, is_reference_param}
use Rattle.soundness_values.proofs.Checks as checks
use Rattle.soundness_values.proofs.Checks.{no_steps}
use Rattle.soundness_values.proofs.Facts.{Facts}
use Rattle.soundness_values.proofs.Leading.{are_sure}
use Rattle.soundness_cells.proofs.PassMarks.{Marks, StandFor}

-- of a place within a local nothing is asked here
abbrev pub unless_within : List Step → Bool → Bool
unless_within [] test = test
unless_within (step ∷ steps) test = true

module _ (items : ItemTable) where
  -- neither a reference nor a trait object
  abbrev pub alone : TyId → Bool
  alone id = not (is_reference (type_at items id)) && not (is_dyn (type_at items id))

  abbrev pub no_reference : TyId → Bool
  no_reference id = not (is_reference (type_at items id))

module _ (items : ItemTable) (local_ty : ℕ → Option TyId) (is_target : ℕ → Bool) where
  -- behind a reference, and in a local: the steps lead on, if variants and numbers of elements are as they should be, and
  -- the reference is a parameter
  abbrev pub leads_behind : TyId → List Step → Bool
  leads_behind to (ToContent ∷ steps) = are_sure items (λ i count. true) (λ so_far variant. true) [] steps to
  leads_behind to steps = false

  abbrev pub leads_from : Place → TyId → Option TyId → Bool
  leads_from place id (Some to) = is_target place.local && leads_behind to place.steps
  leads_from place id None = are_sure items (λ i count. true) (λ so_far variant. true) [] place.steps id

  abbrev pub leads_in : Place → Option TyId → Bool
  leads_in place None = false
  leads_in place (Some id) = leads_from place id (named_by (type_at items id))

  abbrev pub leads : Place → Bool
  leads place = leads_in place (local_ty place.local)

  -- such a value stands in the local of a place
  abbrev pub cell : Place → Bool
  cell place = option_map_or (alone items) (local_ty place.local) false

  abbrev pub target : Place → Bool
  target place = no_steps place.steps && cell place

  -- a whole local is moved
  abbrev pub moved_cell : Operand → Bool
  moved_cell (effects.Moved site) = no_steps site.place.steps && cell site.place
  moved_cell operand = false

  abbrev ty_of : Place → Option Ty
  ty_of = checks.ty_of items local_ty is_target

  abbrev id_of : Place → Option TyId
  id_of = checks.id_of items local_ty is_target

  abbrev is_of : Operand → TyId → Bool
  is_of = checks.is_of items local_ty is_target

  abbrev form_of : Operand → Option Ty
  form_of = checks.form_of items local_ty is_target

  abbrev pub moved_cells : List TyId → List Operand → Bool
  moved_cells [] [] = true
  moved_cells (id ∷ ids) (operand ∷ operands) = (moved_cell operand && is_of operand id) && moved_cells ids operands
  moved_cells ids operands = false

  -- a reference is passed out of a local of its own; what it names is looked at elsewhere
  abbrev pub passed_local : Operand → Bool
  passed_local (effects.Moved site) = no_steps site.place.steps && is_some (id_of site.place)
  passed_local operand = false

  abbrev pub passed_as : TyId → Operand → Option Ty → Bool
  passed_as id operand (Some (Ty.Shared to)) = passed_local operand
  passed_as id operand (Some (Ty.Unique to)) = passed_local operand
  passed_as id operand ty = moved_cell operand && is_of operand id

  abbrev pub passed : List TyId → List Operand → Bool
  passed [] [] = true
  passed (id ∷ ids) (operand ∷ operands) = passed_as id operand (type_at items id) && passed ids operands
  passed ids operands = false

  abbrev pub called : EffectSite → List TyId → TyId → List Operand → Bool
  called to params result args =
      (target to.place && option_map_or (same_id result) (id_of to.place) false) && passed params args

  -- a value stands at a place to which the types lead
  abbrev pub value_at : Place → Bool
  value_at place = leads place && checks.is_value items local_ty is_target place

  -- which needs no dropping
  abbrev pub copied_at : Place → Bool
  copied_at place = value_at place && not (checks.needs items local_ty is_target place)

  abbrev pub put : EffectSite → Operand → Bool
  put to (effects.Copied site) = target to.place && (copied_at site.place
      && checks.of_place items local_ty is_target (is_of (effects.Copied site)) to.place)
  put to (effects.Moved site) = value_at to.place && (value_at site.place
      && checks.of_place items local_ty is_target (is_of (effects.Moved site)) to.place)
  put to (effects.Number value kind) = target to.place && (number_fits kind value
      && checks.of_place items local_ty is_target (is_of (effects.Number value kind)) to.place)
  put to operand = target to.place && checks.of_place items local_ty is_target (is_of operand) to.place

  -- a literal of a pattern
  abbrev pub is_literal : Operand → Bool
  is_literal (effects.Number value kind) = number_fits kind value
  is_literal (effects.Truth value) = true
  is_literal operand = false

  -- what a pattern tests is within a place
  abbrev pub compared : Operand → Operand → Bool
  compared (effects.Copied site) right =
      copied_at site.place && (is_literal right && are_compared (form_of (effects.Copied site)) (form_of right))
  compared (effects.Moved site) right =
      moved_cell (effects.Moved site)
      && (moved_cell right && are_compared (form_of (effects.Moved site)) (form_of right))
  compared left right = true

  abbrev pub built : AggregateKind → List Operand → Option Ty → Bool
  built kind parts ty =
      option_map_or (λ tys. moved_cells tys parts) (checks.part_types items local_ty is_target kind ty) false

  abbrev pub cells_act : Action → Bool
  cells_act (effects.Put to from) = put to from
  cells_act (effects.Compare to operator left right) =
      (target to.place && is_bool (ty_of to.place)) && compared left right
  cells_act (effects.Not to operand) =
      (target to.place && is_bool (ty_of to.place)) && (moved_cell operand && is_bool (form_of operand))
  cells_act (effects.Build to kind parts) = target to.place && built kind parts (ty_of to.place)
  cells_act (effects.NewBox to content) = target to.place
      && (moved_cell content && option_map_or (λ id. is_of content id && not (is_dyn (type_at items id)))
      (box_content (ty_of to.place)) false)
  cells_act (effects.Unsize to trait_no operand) = target to.place
      && (moved_cell operand
      && (is_dyn_of trait_no (option_and_then (type_at items) (box_content (ty_of to.place)))
      && option_map_or (λ adt. is_some (impl_of items trait_no adt))
      (adt_of (option_and_then (type_at items) (box_content (form_of operand)))) false))
  cells_act (effects.Borrow to unique base) = no_steps to.place.steps && (leads base.place
      && option_map_or (λ id. option_map_or (same_id id) (referent unique (ty_of to.place)) false) (id_of base.place)
      false)
  cells_act (effects.Touch base) = leads base.place
  cells_act (effects.Print operand) = moved_cell operand && is_int IntKind.I32 (form_of operand)
  cells_act (effects.Forget operand) = moved_cell operand && is_some (form_of operand)
  cells_act (effects.Free box) = false
  cells_act (effects.Compute to operator left right) =
      (target to.place && same_int (form_of left) (ty_of to.place))
      && (moved_cell left && (moved_cell right && same_int (form_of left) (form_of right)))
  cells_act (effects.Negate to operand) =
      (target to.place && same_int (form_of operand) (ty_of to.place)) &&
      (moved_cell operand && is_signed (form_of operand))
  cells_act (effects.Bounds (effects.Copied site) length) =
      no_steps site.place.steps && is_int IntKind.Usize (ty_of site.place)
  cells_act (effects.Bounds index length) = false
  cells_act (effects.Call to body args) =
      option_map_or (λ sig. called to sig.params sig.result args) (slice_get items.bodies body) false
  cells_act (effects.CallVirtual to trait_no method args) =
      option_map_or (λ (head : List TyId × TyId). called to head.0 head.1 args)
      (checks.head_of items local_ty is_target trait_no method) false
  cells_act (effects.Ask to) = target to.place && is_int IntKind.I32 (ty_of to.place)

  abbrev pub cells_test : Test → Bool
  cells_test (effects.IsTrue operand) = moved_cell operand && is_bool (form_of operand)
  cells_test (effects.HasVariant site variant) =
      leads site.place && option_map_or (λ ty. is_enum items ty) (ty_of site.place) false

  -- a local that holds no reference
  abbrev pub plain_local : Place → Bool
  plain_local place = option_map_or (no_reference items) (local_ty place.local) false

  -- such an entry is dropped, or a place of which the value is replaced
  abbrev pub cells_drop : Mode → Place → Bool
  cells_drop mode place = (no_steps place.steps && plain_local place)
      || (checks.is_normal items local_ty is_target mode && (value_at place && checks.needs items local_ty is_target place))

  abbrev pub cells_give : Place → Bool
  cells_give place = no_steps place.steps && cell place

-- ---- the marks of a run: one of its own where a test fails, 2 where another does

abbrev pub mark_as : (own : ℕ) (all first : Bool) → Option ℕ
mark_as own true first = None
mark_as own false true = Some 2
mark_as own false false = Some own

-- that of this test is 1
abbrev pub mark_of : (all first : Bool) → Option ℕ
mark_of true first = None
mark_of false true = Some 2
mark_of false false = Some 1

none_fails : (all first : Bool) → mark_of all first ≡ None → all ≡ true
none_fails true first e = refl
none_fails false true e = let never : ⊥ = cc in absurd never
none_fails false false e = let never : ⊥ = cc in absurd never

module _ (items : ItemTable) (body : BodyTree) where
  abbrev pub cell_marks : Marks Facts
  cell_marks = record {
    acting = λ action v facts. mark_of ((checks_of items body).act_ok action v facts)
        (cells_act items (local_ty items body) (is_reference_param items body) action);
    choosing = λ test v facts. mark_of ((checks_of items body).test_ok test v facts)
        (cells_test items (local_ty items body) (is_reference_param items body) test);
    dropping = λ mode site v facts. mark_of ((checks_of items body).drop_ok mode site v facts)
        (cells_drop items (local_ty items body) (is_reference_param items body) mode site.place);
    giving = λ site v facts. mark_of ((checks_of items body).give_ok site v facts)
        (cells_give items (local_ty items body) (is_reference_param items body) site.place);
  }

  pub marks_stand : StandFor cell_marks (checks_of items body)
  marks_stand = record {
    acts = λ action v facts e. none_fails ((checks_of items body).act_ok action v facts)
        (cells_act items (local_ty items body) (is_reference_param items body) action) e;
    chooses = λ test v facts e. none_fails ((checks_of items body).test_ok test v facts)
        (cells_test items (local_ty items body) (is_reference_param items body) test) e;
    drops = λ mode site v facts e. none_fails ((checks_of items body).drop_ok mode site v facts)
        (cells_drop items (local_ty items body) (is_reference_param items body) mode site.place) e;
    gives = λ site v facts e. none_fails ((checks_of items body).give_ok site v facts)
        (cells_give items (local_ty items body) (is_reference_param items body) site.place) e;
  }
