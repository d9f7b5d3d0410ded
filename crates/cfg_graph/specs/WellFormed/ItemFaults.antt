-- The faults of the lines of items: structs and enums, traits, impls and closures.
use Rattle.std.specs.Prelude.{ℕ, Bool, true, false, not, ◌&&◌, List, [], ◌∷◌, map, flat_map, Option, Some, length, slice_get, nat_lt}
use Rattle.std.specs.List.{list_any, list_all}
use Rattle.std.specs.Option.{option_map_or}
use Rattle.std.specs.Cmp.Lexicographic.{pointwise}
use Rattle.mir_ty.specs.declared.ty.Ty.{Ty}
use Rattle.mir_ty.specs.declared.ty.TyId.{TyId}
use Rattle.mir_ty.specs.declared.adt.Adt.{Adt}
use Rattle.mir_ty.specs.declared.def.Sig.{Sig}
use Rattle.mir_ty.specs.declared.def.TraitDef.{TraitDef}
use Rattle.mir_ty.specs.declared.def.ImplDef.{ImplDef}
use Rattle.mir_ty.specs.declared.def.ClosureDef.{ClosureDef}
use Rattle.mir_ty.specs.ItemTable.{ItemTable, type_at}
use Rattle.cfg_graph.specs.WellFormed.Broken.{broken}
use Rattle.cfg_graph.specs.WellFormed.NameFaults.{is_name, is_adt_name, is_repeated, is_repeated_impl}
use Rattle.store_model.specs.Places.TypeForms.{same_id, same_ids, is_unit, is_adt, is_closure}
use Rattle.cfg_graph.specs.WellFormed.TypeFaults.{is_drop_body, ty_exists, misplaces_dyn, adt_holds_itself, closure_holds_itself}

-- the types that the line of a struct or enum has, and that of a trait
abbrev pub field_types : Adt → List TyId
field_types adt = flat_map (λ variant. variant.fields) adt.variants

abbrev pub types_of_sig : Sig → List TyId
types_of_sig sig = sig.result ∷ sig.params

abbrev pub types_of_trait : TraitDef → List TyId
types_of_trait def = flat_map types_of_sig def.methods

-- the items, and how many bodies there are
module _ (items : ItemTable) (bodies : ℕ) where
  -- these types exist, with all that they name
  abbrev pub exist : List TyId → Bool
  exist ids = list_all (ty_exists items) ids

  -- none of them has a `dyn` type in a wrong place
  abbrev pub place_dyn : List TyId → Bool
  place_dyn ids = not (list_any (misplaces_dyn items) ids)

  -- `&mut` of the struct or enum with this number
  abbrev pub is_unique_adt : ℕ → Option Ty → Bool
  is_unique_adt n (Some (Ty.Unique to)) = is_adt n (type_at items to)
  is_unique_adt n _ = false

  -- the parameters of the `Drop` body of the struct or enum with this number
  abbrev pub are_dropped : ℕ → List TyId → Bool
  are_dropped n [] = false
  are_dropped n (only ∷ []) = is_unique_adt n (type_at items only)
  are_dropped n (first ∷ second ∷ rest) = false

  abbrev pub is_drop_sig : ℕ → Sig → Bool
  is_drop_sig n sig = are_dropped n sig.params && is_unit (type_at items sig.result)

  abbrev pub has_drop_sig : ℕ → ℕ → Bool
  has_drop_sig n body = option_map_or (is_drop_sig n) (slice_get items.bodies body) false

  -- a struct or enum has its types: no `dyn` type in a wrong place, and a `Drop` body of its own types
  abbrev pub adt_has_types : ℕ → Adt → Bool
  adt_has_types n adt = place_dyn (field_types adt) && option_map_or (has_drop_sig n) adt.drop_body true

  -- the names of a struct or enum and of its variants stand in a listing, and no earlier one has its name
  abbrev pub adt_has_names : ℕ → Adt → Bool
  adt_has_names n adt =
      is_adt_name adt.name
      && list_all (λ variant. is_name variant.name) adt.variants
      && not (is_repeated (map (λ other. other.name) items.adts) n adt.name)

  abbrev pub adt_tests : ℕ → Adt → List (ℕ × Bool)
  adt_tests n adt =
      (1, exist (field_types adt) && option_map_or (λ body. nat_lt body bodies) adt.drop_body true)
      ∷ (3, adt_has_types n adt && not (adt_holds_itself items n))
      ∷ (7, adt_has_names n adt)
      ∷ []

  abbrev pub adt_faults : ℕ → Adt → List ℕ
  adt_faults n adt = broken (adt_tests n adt)

  -- the names of a trait and of its methods stand in a listing, and no earlier trait has its name
  abbrev pub trait_has_names : ℕ → TraitDef → Bool
  trait_has_names n def =
      is_name def.name
      && list_all (λ method. is_name method.name) def.methods
      && not (is_repeated (map (λ other. other.name) items.traits) n def.name)

  abbrev pub trait_tests : ℕ → TraitDef → List (ℕ × Bool)
  trait_tests n def =
      (1, exist (types_of_trait def)) ∷ (3, place_dyn (types_of_trait def)) ∷ (7, trait_has_names n def) ∷ []

  abbrev pub trait_faults : ℕ → TraitDef → List ℕ
  trait_faults n def = broken (trait_tests n def)

  -- the type of `self` in a trait's method, and in the body of it for this struct or enum
  abbrev pub are_selves : ℕ → Option Ty → Option Ty → Bool
  are_selves n (Some (Ty.Shared object)) (Some (Ty.Shared to)) = is_adt n (type_at items to)
  are_selves n (Some (Ty.Unique object)) (Some (Ty.Unique to)) = is_adt n (type_at items to)
  are_selves n _ _ = false

  abbrev pub params_implement : ℕ → List TyId → List TyId → Bool
  params_implement n (object ∷ params) (self_ty ∷ own) =
      are_selves n (type_at items object) (type_at items self_ty) && same_ids params own
  params_implement n [] own = false
  params_implement n (object ∷ params) [] = false

  abbrev pub sig_implements : ℕ → Sig → Sig → Bool
  sig_implements n method sig = params_implement n method.params sig.params && same_id method.result sig.result

  -- a body has the types of the method for this struct or enum, and is the body of no `Drop` impl
  abbrev pub body_implements : ℕ → Sig → ℕ → Bool
  body_implements n method body =
      option_map_or (sig_implements n method) (slice_get items.bodies body) false && not (is_drop_body items body)

  abbrev pub methods_of : ℕ → List Sig
  methods_of trait_no = option_map_or (λ def. def.methods) (slice_get items.traits trait_no) []

  -- the trait, the struct or enum, and the bodies of an impl exist
  abbrev pub impl_exists : ImplDef → Bool
  impl_exists impl =
      nat_lt impl.trait_no (length items.traits)
      && nat_lt impl.adt (length items.adts)
      && list_all (λ body. nat_lt body bodies) impl.bodies

  abbrev pub impl_tests : ℕ → ImplDef → List (ℕ × Bool)
  impl_tests n impl =
      (1, impl_exists impl)
      ∷ (3, pointwise (body_implements impl.adt) (methods_of impl.trait_no) impl.bodies)
      ∷ (7, not (is_repeated_impl items.impls n impl))
      ∷ []

  abbrev pub impl_faults : ℕ → ImplDef → List ℕ
  impl_faults n impl = broken (impl_tests n impl)

  -- the closure value is the first parameter of its body
  abbrev pub begins_with_closure : ℕ → List TyId → Bool
  begins_with_closure n [] = false
  begins_with_closure n (first ∷ rest) = is_closure n (type_at items first)

  abbrev pub has_closure_sig : ℕ → ℕ → Bool
  has_closure_sig n body = option_map_or (λ sig. begins_with_closure n sig.params) (slice_get items.bodies body) false

  abbrev pub closure_has_types : ℕ → ClosureDef → Bool
  closure_has_types n def = place_dyn def.captures && has_closure_sig n def.body

  abbrev pub closure_tests : ℕ → ClosureDef → List (ℕ × Bool)
  closure_tests n def =
      (1, exist def.captures && nat_lt def.body bodies)
      ∷ (3, closure_has_types n def && not (closure_holds_itself items n))
      ∷ []

  abbrev pub closure_faults : ℕ → ClosureDef → List ℕ
  closure_faults n def = broken (closure_tests n def)
