-- The first test of a marked run holds of actions on cells of known types: one lemma a kind of action.
use Rattle.std.proofs.Common.{◌≡◌, ℕ, ◌&&◌, not, Bool, true, false, ℤ, List, [], ◌∷◌, map, length, Option, Some, None, is_some, refl, ap, sym, subst}
use Rattle.std.specs.Prelude.{slice_get, option_and_then, replicate}
use Rattle.std.specs.Option.{option_map_or}
use Rattle.std.specs.Cmp.Derive.{both_true}
use Rattle.std.proofs.lemmas.Bool.Decides.{Decides-eqb}
use Rattle.mir_base.specs.declared.int_kind.IntKind.{IntKind}
use Rattle.mir_base.specs.declared.operator.Cmp.{Cmp}
use Rattle.mir_base.specs.declared.operator.Math.{Math}
use Rattle.mir_ty.specs.declared.def.ClosureDef.{ClosureDef}
use Rattle.mir_ty.specs.declared.def.Sig.{Sig}
use Rattle.mir_ty.specs.declared.def.TraitDef.{TraitDef}
use Rattle.mir_ty.specs.declared.ty.Ty.{Ty}
use Rattle.mir_ty.specs.declared.ty.TyId.{TyId}
use Rattle.mir_ty.specs.ItemTable.{ItemTable, type_at}
use Rattle.mir_ty.specs.Parts.{captures_of, parts_of}
use Rattle.store_model.specs.Effects as effects
use Rattle.store_model.specs.Effects.{EffectSite, Operand, Copied, Moved}
use Rattle.store_model.specs.Places.Place.{ty_along, is_reference}
use Rattle.store_model.specs.Concrete.Effects.{impl_of}
use Rattle.store_model.specs.Places.TypeForms.{adt_of, is_dyn_of, same_id, is_int, is_bool, is_unit, is_dyn, same_int, are_compared, is_signed, box_content, is_never}
use Rattle.typed_tree.specs.Tree.{BodyTree}
use Rattle.src_meaning.specs.Forms.{Meaning, site_in, site_of_key, moved, all_moved}
use Rattle.src_meaning.specs.Locals.Effects.{operand_at, site_at}
use Rattle.src_meaning.specs.Locals.OfBody.{local_ty}
use Rattle.soundness_values.specs.Typed.{number_fits, has_variant}
use Rattle.soundness_values.proofs.CheckedBodies.{is_reference_param}
use Rattle.soundness_values.proofs.Checks as checks
use Rattle.soundness_cells.proofs.PassCellEffects.{local, Acts, Tests, Made}
use Rattle.soundness_cells.proofs.PassCellTests.{alone, moved_cells, passed, called}
use Rattle.soundness_cells.proofs.PassCellTypes.{Alone, Coerces}

module _ (items : ItemTable) (body : BodyTree) where
  -- the cell of a key is of a type
  abbrev pub Cell : ℕ → TyId → Type 0
  Cell key id = local_ty items body (local items body key) ≡ Some id

  abbrev at : ℕ → Option TyId
  at key = local_ty items body (local items body key)

  abbrev C : Option TyId → Bool
  C o = option_map_or (alone items) o false

  abbrev I : Option TyId → Option TyId
  I o = option_and_then (ty_along items []) o

  abbrev T : Option TyId → Option Ty
  T o = option_and_then (type_at items) (I o)

  pub same_itself : (id : TyId) → same_id id id ≡ true
  same_itself id = (Decides-eqb id.0 id.0).1 refl

  -- ---- puts

  pub put_number : (n key : ℕ) (value : ℤ) (kind : IntKind) (id : TyId) → Cell key id → Alone items id →
      number_fits kind value ≡ true → is_int kind (type_at items id) ≡ true →
      Acts items body (effects.Put (site_in n key) (effects.Number value kind))
  put_number n key value kind id c a f i =
      subst (λ o. (C o && (number_fits kind value
      && option_map_or (λ id. is_int kind (type_at items id) && number_fits kind value) (I o) false)) ≡ true) (sym c)
      (both_true a (both_true f (both_true i f)))

  pub put_truth : (n key : ℕ) (value : Bool) (id : TyId) → Cell key id → Alone items id →
      is_bool (type_at items id) ≡ true → Acts items body (effects.Put (site_in n key) (effects.Truth value))
  put_truth n key value id c a b =
      subst (λ o. (C o && option_map_or (λ id. is_bool (type_at items id)) (I o) false) ≡ true) (sym c) (both_true a b)

  pub put_unit : (n key : ℕ) (id : TyId) → Cell key id → Alone items id → is_unit (type_at items id) ≡ true →
      Acts items body (effects.Put (site_in n key) effects.UnitValue)
  put_unit n key id c a b =
      subst (λ o. (C o && option_map_or (λ id. is_unit (type_at items id)) (I o) false) ≡ true) (sym c) (both_true a b)

  -- ---- operators

  pub not_acts : (n to key : ℕ) (ty id : TyId) → Cell to ty → Cell key id → Alone items ty →
      is_bool (type_at items ty) ≡ true → Alone items id → is_bool (type_at items id) ≡ true →
      Acts items body (effects.Not (site_in n to) (moved n key))
  not_acts n to key ty id ct ck at_ bt ak bk =
      subst (λ o. ((C o && is_bool (T o)) && (C (at key) && is_bool (T (at key)))) ≡ true) (sym ct)
      (subst (λ o. ((alone items ty && is_bool (type_at items ty)) && (C o && is_bool (T o))) ≡ true) (sym ck)
      (both_true (both_true at_ bt) (both_true ak bk)))

  pub negate_acts : (n to key : ℕ) (ty : TyId) → Cell to ty → Cell key ty → Alone items ty →
      same_int (type_at items ty) (type_at items ty) ≡ true → is_signed (type_at items ty) ≡ true →
      Acts items body (effects.Negate (site_in n to) (moved n key))
  negate_acts n to key ty ct ck a s g =
      subst (λ o. ((C o && same_int (T (at key)) (T o)) && (C (at key) && is_signed (T (at key)))) ≡ true) (sym ct)
      (subst (λ o. ((alone items ty && same_int (T o) (type_at items ty)) && (C o && is_signed (T o))) ≡ true) (sym ck)
      (both_true (both_true a s) (both_true a g)))

  pub compute_acts : (n to left right : ℕ) (operator : Math) (ty : TyId) → Cell to ty → Cell left ty → Cell right ty →
      Alone items ty → same_int (type_at items ty) (type_at items ty) ≡ true →
      Acts items body (effects.Compute (site_in n to) operator (moved n left) (moved n right))
  compute_acts n to left right operator ty ct cl cr a s =
      subst (λ o. ((C o && same_int (T (at left)) (T o))
      && (C (at left) && (C (at right) && same_int (T (at left)) (T (at right))))) ≡ true) (sym ct)
      (subst (λ o. ((alone items ty && same_int (T o) (type_at items ty))
      && (C o && (C (at right) && same_int (T o) (T (at right))))) ≡ true) (sym cl)
      (subst (λ o. ((alone items ty && same_int (type_at items ty) (type_at items ty))
      && (alone items ty && (C o && same_int (type_at items ty) (T o)))) ≡ true) (sym cr)
      (both_true (both_true a s) (both_true a (both_true a s)))))

  pub compare_acts : (n to left right : ℕ) (operator : Cmp) (ty id : TyId) → Cell to ty → Cell left id → Cell right id →
      Alone items ty → is_bool (type_at items ty) ≡ true → Alone items id →
      are_compared (type_at items id) (type_at items id) ≡ true →
      Acts items body (effects.Compare (site_in n to) operator (moved n left) (moved n right))
  compare_acts n to left right operator ty id ct cl cr a b ai s =
      subst (λ o. ((C o && is_bool (T o))
      && (C (at left) && (C (at right) && are_compared (T (at left)) (T (at right))))) ≡ true) (sym ct)
      (subst (λ o. ((alone items ty && is_bool (type_at items ty))
      && (C o && (C (at right) && are_compared (T o) (T (at right))))) ≡ true) (sym cl)
      (subst (λ o. ((alone items ty && is_bool (type_at items ty))
      && (alone items id && (C o && are_compared (type_at items id) (T o)))) ≡ true) (sym cr)
      (both_true (both_true a b) (both_true ai (both_true ai s)))))

  pub is_true : (n key : ℕ) (id : TyId) → Cell key id → Alone items id → is_bool (type_at items id) ≡ true →
      Tests items body (effects.IsTrue (moved n key))
  is_true n key id c a b = subst (λ o. (C o && is_bool (T o)) ≡ true) (sym c) (both_true a b)

  pub print_acts : (n key : ℕ) (id : TyId) → Cell key id → Alone items id →
      is_int IntKind.I32 (type_at items id) ≡ true → Acts items body (effects.Print (moved n key))
  print_acts n key id c a i = subst (λ o. (C o && is_int IntKind.I32 (T o)) ≡ true) (sym c) (both_true a i)

  pub forget_acts : (n key : ℕ) (id : TyId) → Cell key id → Alone items id → is_some (type_at items id) ≡ true →
      Acts items body (effects.Forget (moved n key))
  forget_acts n key id c a i = subst (λ o. (C o && is_some (T o)) ≡ true) (sym c) (both_true a i)

  pub ask_acts : (n key : ℕ) (id : TyId) → Cell key id → Alone items id →
      is_int IntKind.I32 (type_at items id) ≡ true → Acts items body (effects.Ask (site_in n key))
  ask_acts n key id c a i = subst (λ o. (C o && is_int IntKind.I32 (T o)) ≡ true) (sym c) (both_true a i)

  pub bounds_acts : (key length : ℕ) (id : TyId) → Cell key id → is_int IntKind.Usize (type_at items id) ≡ true →
      Acts items body (effects.Bounds (Copied (site_of_key key)) length)
  bounds_acts key length id c i = subst (λ o. is_int IntKind.Usize (T o) ≡ true) (sym c) i

  -- ---- aggregates, boxes

  pub tuple_acts : (n to : ℕ) (ty : TyId) (tys : List TyId) (parts : List Operand) → Cell to ty → Alone items ty →
      type_at items ty ≡ Some (Ty.Tuple tys) →
      moved_cells items (local_ty items body) (is_reference_param items body) tys
      (map (operand_at (local items body)) parts)
      ≡ true → Acts items body (effects.Build (site_in n to) effects.OfTuple parts)
  tuple_acts n to ty tys parts c a e m =
      subst (λ o. (C o && option_map_or
      (λ tys. moved_cells items (local_ty items body) (is_reference_param items body) tys
      (map (operand_at (local items body)) parts))
      (checks.part_types items (local_ty items body) (is_reference_param items body) effects.OfTuple (T o)) false) ≡
      true)
      (sym c)
      (both_true a (subst (λ t. option_map_or
      (λ tys. moved_cells items (local_ty items body) (is_reference_param items body) tys
      (map (operand_at (local items body)) parts))
      (checks.part_types items (local_ty items body) (is_reference_param items body) effects.OfTuple t) false ≡ true)
      (sym e) m))

  pub array_acts : (n to : ℕ) (ty : TyId) (element : TyId) (count : ℕ) (parts : List Operand) → Cell to ty →
      Alone items ty → type_at items ty ≡ Some (Ty.Array element count) →
      moved_cells items (local_ty items body) (is_reference_param items body) (replicate count element)
      (map (operand_at (local items body)) parts) ≡ true →
      Acts items body (effects.Build (site_in n to) effects.OfArray parts)
  array_acts n to ty element count parts c a e m =
      subst (λ o. (C o && option_map_or
      (λ tys. moved_cells items (local_ty items body) (is_reference_param items body) tys
      (map (operand_at (local items body)) parts))
      (checks.part_types items (local_ty items body) (is_reference_param items body) effects.OfArray (T o)) false) ≡
      true)
      (sym c)
      (both_true a (subst (λ t. option_map_or
      (λ tys. moved_cells items (local_ty items body) (is_reference_param items body) tys
      (map (operand_at (local items body)) parts))
      (checks.part_types items (local_ty items body) (is_reference_param items body) effects.OfArray t) false ≡ true)
      (sym e) m))

  pub closure_acts : (n to : ℕ) (ty : TyId) (closure : ℕ) (def : ClosureDef) (parts : List Operand) → Cell to ty →
      Alone items ty → type_at items ty ≡ Some (Ty.Closure closure) → slice_get items.closures closure ≡ Some def →
      moved_cells items (local_ty items body) (is_reference_param items body) def.captures
      (map (operand_at (local items body)) parts) ≡ true →
      Acts items body (effects.Build (site_in n to) (effects.OfClosure closure) parts)
  closure_acts n to ty closure def parts c a e d m =
      subst (λ o. (C o && option_map_or
      (λ tys. moved_cells items (local_ty items body) (is_reference_param items body) tys
      (map (operand_at (local items body)) parts))
      (checks.part_types items (local_ty items body) (is_reference_param items body) (effects.OfClosure closure) (T o))
      false)
      ≡ true) (sym c)
      (both_true a (subst (λ t. option_map_or
      (λ tys. moved_cells items (local_ty items body) (is_reference_param items body) tys
      (map (operand_at (local items body)) parts))
      (checks.part_types items (local_ty items body) (is_reference_param items body) (effects.OfClosure closure) t)
      false
      ≡ true) (sym e)
      (subst (λ b. option_map_or
      (λ tys. moved_cells items (local_ty items body) (is_reference_param items body) tys
      (map (operand_at (local items body)) parts))
      (checks.tys_if b (captures_of (slice_get items.closures closure))) false ≡ true)
      (sym ((Decides-eqb closure closure).1 refl))
      (subst (λ o. moved_cells items (local_ty items body) (is_reference_param items body) (captures_of o)
      (map (operand_at (local items body)) parts) ≡ true) (sym d) m))))

  pub variant_acts : (n to adt variant : ℕ) (ty : TyId) (tys : List TyId) (parts : List Operand) → Cell to ty →
      Alone items ty → type_at items ty ≡ Some (Ty.Adt adt) →
      has_variant items (Some (Ty.Adt adt)) variant ≡ true → parts_of items (Ty.Adt adt) variant ≡ tys →
      moved_cells items (local_ty items body) (is_reference_param items body) tys
      (map (operand_at (local items body)) parts) ≡ true →
      Acts items body (effects.Build (site_in n to) (effects.OfVariant adt variant) parts)
  variant_acts n to adt variant ty tys parts c a e v p m =
      subst (λ o. (C o && option_map_or
      (λ tys. moved_cells items (local_ty items body) (is_reference_param items body) tys
      (map (operand_at (local items body)) parts))
      (checks.part_types items (local_ty items body) (is_reference_param items body) (effects.OfVariant adt variant)
      (T o)) false)
      ≡ true) (sym c)
      (both_true a (subst (λ t. option_map_or
      (λ tys. moved_cells items (local_ty items body) (is_reference_param items body) tys
      (map (operand_at (local items body)) parts))
      (checks.part_types items (local_ty items body) (is_reference_param items body) (effects.OfVariant adt variant) t)
      false
      ≡ true) (sym e)
      (subst (λ b. option_map_or
      (λ tys. moved_cells items (local_ty items body) (is_reference_param items body) tys
      (map (operand_at (local items body)) parts))
      (checks.tys_if b (parts_of items (Ty.Adt adt) variant)) false ≡ true)
      (sym (both_true ((Decides-eqb adt adt).1 refl) v))
      (subst (λ l. moved_cells items (local_ty items body) (is_reference_param items body) l
      (map (operand_at (local items body)) parts) ≡ true) (sym p) m))))

  pub new_box_acts : (n to key : ℕ) (ty inside : TyId) → Cell to ty → Cell key inside → Alone items ty →
      Alone items inside → is_dyn (type_at items inside) ≡ false → type_at items ty ≡ Some (Ty.Boxed inside) →
      Acts items body (effects.NewBox (site_in n to) (moved n key))
  new_box_acts n to key ty inside ct ck a ai d e =
      subst (λ o. (C o && (C (at key) && option_map_or
      (λ id. option_map_or (same_id id) (I (at key)) false && not (is_dyn (type_at items id)))
      (box_content (T o)) false)) ≡ true) (sym ct)
      (subst (λ t. (alone items ty && (C (at key) && option_map_or
      (λ id. option_map_or (same_id id) (I (at key)) false && not (is_dyn (type_at items id)))
      (box_content t) false)) ≡ true) (sym e)
      (subst (λ o. (alone items ty && (C o
      && (option_map_or (same_id inside) (I o) false && not (is_dyn (type_at items inside))))) ≡ true) (sym ck)
      (both_true a (both_true ai (both_true (same_itself inside) (ap not d))))))

  -- ---- what is made

  pub made_cell : (n key : ℕ) (id : TyId) → Cell key id → Made items body (site_in n key) →
      is_never (type_at items id) ≡ false
  made_cell n key id c m = subst (λ o. is_never (T o) ≡ false) c m

  -- ---- parts and arguments

  module _ {V : Type 0} where
    -- each node stands in a cell of a type, which is neither a reference nor `dyn`
    abbrev pub InCells : List TyId → List (Meaning V) → Type 0
    InCells [] [] = Unit {0}
    InCells [] (m ∷ ms) = ⊥
    InCells (id ∷ ids) [] = ⊥
    InCells (id ∷ ids) (m ∷ ms) = (Cell m.head.id id × Alone items id) × InCells ids ms

    pub all_cells : (n : ℕ) (ids : List TyId) (ms : List (Meaning V)) → InCells ids ms →
        moved_cells items (local_ty items body) (is_reference_param items body) ids
        (map (operand_at (local items body)) (all_moved n ms)) ≡ true
    all_cells n [] [] h = refl
    all_cells n [] (m ∷ ms) h = absurd h
    all_cells n (id ∷ ids) [] h = absurd h
    all_cells n (id ∷ ids) (m ∷ ms) h =
        both_true (subst (λ o. (C o && option_map_or (same_id id) (I o) false) ≡ true) (sym h.0.0)
        (both_true h.0.1 (same_itself id))) (all_cells n ids ms h.1)

    -- an argument for a parameter: a reference in a cell, or a value of its type
    abbrev pub ForParam : TyId → Meaning V → Type 0
    ForParam id m = Cell m.head.id id × (is_reference (type_at items id) ≡ false → Alone items id)

    abbrev pub ForParams : List TyId → List (Meaning V) → Type 0
    ForParams [] [] = Unit {0}
    ForParams [] (m ∷ ms) = ⊥
    ForParams (id ∷ ids) [] = ⊥
    ForParams (id ∷ ids) (m ∷ ms) = ForParam id m × ForParams ids ms

    abbrev passed_one : ℕ → TyId → Meaning V → Option Ty → Bool
    passed_one n id m ty = Rattle.soundness_cells.proofs.PassCellTests.passed_as items (local_ty items body)
        (is_reference_param items body) id (operand_at (local items body) (moved n m.head.id)) ty

    one_passed : (n : ℕ) (id : TyId) (m : Meaning V) → ForParam id m → passed_one n id m (type_at items id) ≡ true
    one_passed n id m h = by (type_at items id) h.1
      where
        local_so : is_some (I (at m.head.id)) ≡ true
        local_so = subst (λ o. is_some (I o) ≡ true) (sym h.0) refl

        value_so : Alone items id → (C (at m.head.id) && option_map_or (same_id id) (I (at m.head.id)) false) ≡ true
        value_so a = subst (λ o. (C o && option_map_or (same_id id) (I o) false) ≡ true) (sym h.0)
            (both_true a (same_itself id))

        by : (o : Option Ty) → (is_reference o ≡ false → Alone items id) → passed_one n id m o ≡ true
        by (Some (Ty.Shared to)) f = local_so
        by (Some (Ty.Unique to)) f = local_so
        by None f = value_so (f refl)
        by (Some ty) f = value_so (f refl)

    pub all_passed : (n : ℕ) (ids : List TyId) (ms : List (Meaning V)) → ForParams ids ms →
        passed items (local_ty items body) (is_reference_param items body) ids
        (map (operand_at (local items body)) (all_moved n ms)) ≡ true
    all_passed n [] [] h = refl
    all_passed n [] (m ∷ ms) h = absurd h
    all_passed n (id ∷ ids) [] h = absurd h
    all_passed n (id ∷ ids) (m ∷ ms) h = both_true (one_passed n id m h.0) (all_passed n ids ms h.1)

  -- ---- calls and coercions

  pub unsize_acts : (n to key trait_no : ℕ) (object from : TyId) → Cell to object → Cell key from →
      Coerces items object from trait_no → Acts items body (effects.Unsize (site_in n to) trait_no (moved n key))
  unsize_acts n to key trait_no object from ct ck k =
      subst (λ o. (C o && (C (at key) && (is_dyn_of trait_no (option_and_then (type_at items) (box_content (T o)))
      && option_map_or (λ adt. is_some (impl_of items trait_no adt))
      (adt_of (option_and_then (type_at items) (box_content (T (at key))))) false))) ≡ true) (sym ct)
      (subst (λ o. (alone items object && (C o
      && (is_dyn_of trait_no (option_and_then (type_at items) (box_content (type_at items object)))
      && option_map_or (λ adt. is_some (impl_of items trait_no adt))
      (adt_of (option_and_then (type_at items) (box_content (T o)))) false))) ≡ true) (sym ck)
      (both_true k.object_alone.0 (both_true k.from_alone.0 (both_true k.of_trait k.by_impl))))

  pub call_acts : {V : Type 0} (n to callee : ℕ) (sig : Sig) (ms : List (Meaning V)) →
      slice_get items.bodies callee ≡ Some sig → Cell to sig.result → Alone items sig.result →
      ForParams sig.params ms → Acts items body (effects.Call (site_in n to) callee (all_moved n ms))
  call_acts n to callee sig ms e c a h =
      subst (λ (x : Option Sig). option_map_or
      (λ sig. called items (local_ty items body) (is_reference_param items body)
      (site_at (local items body) (site_in n to)) sig.params sig.result
      (map (operand_at (local items body)) (all_moved n ms))) x false ≡ true) (sym e)
      (subst (λ o. ((C o && option_map_or (same_id sig.result) (I o) false)
      && passed items (local_ty items body) (is_reference_param items body) sig.params
      (map (operand_at (local items body)) (all_moved n ms))) ≡ true) (sym c)
      (both_true (both_true a (same_itself sig.result)) (all_passed n sig.params ms h)))

  pub virtual_acts : {V : Type 0} (n to trait_no method : ℕ) (def : TraitDef) (sig : Sig) (ms : List (Meaning V)) →
      slice_get items.traits trait_no ≡ Some def → slice_get def.methods method ≡ Some sig → Cell to sig.result →
      Alone items sig.result → ForParams sig.params ms →
      Acts items body (effects.CallVirtual (site_in n to) trait_no method (all_moved n ms))
  virtual_acts n to trait_no method def sig ms e d c a h =
      subst (λ (x : Option TraitDef). option_map_or (λ (head : List TyId × TyId).
      called items (local_ty items body) (is_reference_param items body) (site_at (local items body) (site_in n to))
      head.0
      head.1 (map (operand_at (local items body)) (all_moved n ms)))
      (option_and_then (λ def. option_map_or (λ sig. Some (sig.params, sig.result)) (slice_get def.methods method) None)
      x)
      false ≡ true) (sym e)
      (subst (λ (x : Option Sig). option_map_or (λ (head : List TyId × TyId).
      called items (local_ty items body) (is_reference_param items body) (site_at (local items body) (site_in n to))
      head.0
      head.1 (map (operand_at (local items body)) (all_moved n ms)))
      (option_map_or (λ (sig : Sig). Some (sig.params, sig.result)) x None) false ≡ true) (sym d)
      (subst (λ o. ((C o && option_map_or (same_id sig.result) (I o) false)
      && passed items (local_ty items body) (is_reference_param items body) sig.params
      (map (operand_at (local items body)) (all_moved n ms))) ≡ true) (sym c)
      (both_true (both_true a (same_itself sig.result)) (all_passed n sig.params ms h))))
