-- When the items of a typed program are well typed (The Rust Reference, "Items"; the limits are this project's own).
use Rattle.std.specs.Prelude.{ℕ, nat_lt, nat_le, Bool, true, false, ◌==◌, ◌&&◌, ◌||◌, not, List, [], ◌∷◌, ◌++◌, Option, Some, None, is_some, length, map, slice_get, suc, codes, if◌then◌else◌}
use Rattle.std.specs.List.{list_any, list_all}
use Rattle.std.specs.Option.{option_map_or}
use Rattle.std.specs.Str.{bytes_eq}
use Rattle.mir_base.specs.declared.int_kind.IntKind.{IntKind}
use Rattle.mir_ty.specs.declared.adt.Adt.{Adt}
use Rattle.mir_ty.specs.declared.adt.Variant.{Variant}
use Rattle.mir_ty.specs.declared.def.ClosureDef.{ClosureDef}
use Rattle.mir_ty.specs.declared.def.ImplDef.{ImplDef}
use Rattle.mir_ty.specs.declared.def.Sig.{Sig}
use Rattle.mir_ty.specs.declared.def.TraitDef.{TraitDef}
use Rattle.mir_ty.specs.declared.ty.Ty.{Ty}
use Rattle.mir_ty.specs.declared.ty.TyId.{TyId}
use Rattle.mir_ty.specs.Facts.{is_copy, Rule, by_rule}
use Rattle.mir_ty.specs.ItemTable.{ItemTable, type_at}
use Rattle.mir_ty.specs.Parts.{held_by}
use Rattle.well_typed.specs.Claim.{Claim, fact, ◌&◌, each, some, nothing}
use Rattle.well_typed.specs.Names.{is_among, are_distinct, built_in, is_word}
use Rattle.well_typed.specs.Types.{is_same, are_same, is_unit, is_dyn, is_reference, reference_of, closure_of, trait_of, adt_of}

-- ---- types

abbrev is_kind : IntKind → IntKind → Bool
is_kind IntKind.I32 IntKind.I32 = true
is_kind IntKind.I64 IntKind.I64 = true
is_kind IntKind.U32 IntKind.U32 = true
is_kind IntKind.U64 IntKind.U64 = true
is_kind IntKind.Usize IntKind.Usize = true
is_kind _ _ = false

abbrev pub is_equal : Ty → Ty → Bool
is_equal (Ty.Int a) (Ty.Int b) = is_kind a b
is_equal Ty.Bool Ty.Bool = true
is_equal Ty.Unit Ty.Unit = true
is_equal Ty.Never Ty.Never = true
is_equal (Ty.Adt a) (Ty.Adt b) = a == b
is_equal (Ty.Tuple as_) (Ty.Tuple bs) = are_same as_ bs
is_equal (Ty.Array a n) (Ty.Array b m) = is_same a b && n == m
is_equal (Ty.Boxed a) (Ty.Boxed b) = is_same a b
is_equal (Ty.Dyn a) (Ty.Dyn b) = a == b
is_equal (Ty.Shared a) (Ty.Shared b) = is_same a b
is_equal (Ty.Unique a) (Ty.Unique b) = is_same a b
is_equal (Ty.Closure a) (Ty.Closure b) = a == b
is_equal _ _ = false

-- equal types have one number
abbrev pub are_distinct_types : List Ty → Bool
are_distinct_types [] = true
are_distinct_types (ty ∷ tys) = not (list_any (is_equal ty) tys) && are_distinct_types tys

module _ (items : ItemTable) where
  -- a type in a field, a part, a result or a capture: neither `dyn` nor a reference
  abbrev pub stands_alone : TyId → Bool
  stands_alone ty = is_some (type_at items ty) && (not (is_dyn items ty) && not (is_reference items ty))

  abbrev is_inside : TyId → Bool
  is_inside ty = is_some (type_at items ty) && not (is_reference items ty)

  -- a type in a parameter, which may be a reference
  abbrev pub is_param : TyId → Bool
  is_param ty = is_some (type_at items ty) && not (is_dyn items ty)

  abbrev pub is_well_made : Ty → Bool
  is_well_made (Ty.Tuple parts) = list_all stands_alone parts && (nat_lt 0 (length parts) && nat_le (length parts) 12)
  is_well_made (Ty.Array element count) = stands_alone element && nat_le count 32
  is_well_made (Ty.Boxed content) = is_inside content
  is_well_made (Ty.Shared to) = is_inside to
  is_well_made (Ty.Unique to) = is_inside to
  is_well_made (Ty.Adt n) = nat_lt n (length items.adts)
  is_well_made (Ty.Dyn n) = nat_lt n (length items.traits)
  is_well_made (Ty.Closure n) = nat_lt n (length items.closures)
  is_well_made _ = true

  -- A type is finite where all that it holds is, whatever is in its boxes. The rule is applied in as many rounds as
  -- there are types, since each round shows at least one type more.
  abbrev pub finite_rule : Rule
  finite_rule known ty = list_all known (held_by items ty)

  abbrev pub is_finite : TyId → Bool
  is_finite = by_rule items.types finite_rule

  abbrev pub is_good_type : Ty → Bool
  is_good_type ty = is_well_made ty && list_all is_finite (held_by items ty)

  abbrev are_types : Claim
  are_types =
      fact (are_distinct_types items.types) & fact (list_all is_good_type items.types) &
      fact (list_any (is_equal Ty.Bool) items.types) & fact (list_any (is_equal Ty.Unit) items.types)

  -- a reference to a struct or an enum, or to `dyn` of a trait
  abbrev is_named_by : (TyId → Option ℕ) → ℕ → Bool × TyId → Bool
  is_named_by number n r = option_map_or (λ m. m == n) (number r.1) false

  abbrev is_reference_to : (TyId → Option ℕ) → ℕ → TyId → Bool
  is_reference_to number n ty = option_map_or (is_named_by number n) (reference_of items ty) false

  abbrev is_unique : TyId → Bool
  is_unique ty = option_map_or (λ r. r.0) (reference_of items ty) false

  -- ---- structs and enums

  abbrev is_one_self : ℕ → List TyId → Bool
  is_one_self n (ty ∷ []) = is_unique ty && is_reference_to (adt_of items) n ty
  is_one_self n _ = false

  -- `fn drop(&mut self)` of a struct or an enum
  abbrev is_drop_head : List ℕ → ℕ → Sig → Claim
  is_drop_head name n sig =
      fact (bytes_eq sig.name (name ++ codes "::drop")) & fact (is_one_self n sig.params && is_unit items sig.result)

  abbrev pub has_drop_head : List ℕ → ℕ → Option ℕ → Claim
  has_drop_head name n None = nothing
  has_drop_head name n (Some body) = some (slice_get items.bodies body) (is_drop_head name n)

  abbrev is_variant : Variant → Claim
  is_variant variant =
      fact (list_all stands_alone variant.fields) & fact (are_distinct variant.field_names) &
      fact (length variant.field_names == length variant.fields && nat_le (length variant.fields) 32)

  abbrev is_one_variant : List ℕ → List Variant → Bool
  is_one_variant name (variant ∷ []) = bytes_eq variant.name name
  is_one_variant name _ = false

  -- a struct has one variant with its name
  abbrev has_variants : Adt → Bool
  has_variants adt =
      if adt.is_enum then nat_le (length adt.variants) 64 && are_distinct (map (λ v. v.name) adt.variants)
      else is_one_variant adt.name adt.variants

  -- `Copy` is derived where every field is Copy, and not beside a `Drop` impl
  abbrev may_be_copy : Adt → Bool
  may_be_copy adt = not adt.copy || (not (is_some adt.drop_body) &&
      list_all (λ v. list_all (is_copy items) v.fields) adt.variants)

  abbrev is_adt : ℕ → Adt → Claim
  is_adt n adt =
      fact (has_variants adt) & each is_variant adt.variants & fact (may_be_copy adt) &
      has_drop_head adt.name n adt.drop_body

  -- ---- traits and impls

  abbrev is_head : Sig → Bool
  is_head sig = list_all is_param sig.params && stands_alone sig.result

  abbrev begins_with_self : ℕ → List TyId → Bool
  begins_with_self n [] = false
  begins_with_self n (ty ∷ tys) = is_reference_to (trait_of items) n ty

  -- a method of a trait takes `&self` or `&mut self`, and is not called `drop`
  abbrev pub is_method : ℕ → Sig → Claim
  is_method n sig =
      fact (is_head sig) & fact (begins_with_self n sig.params) & fact (not (bytes_eq sig.name (codes "drop")))

  abbrev is_trait : ℕ → TraitDef → Claim
  is_trait n def = each (is_method n) def.methods & fact (are_distinct (map (λ m. m.name) def.methods))

  -- the same head, with the struct or enum in place of `dyn` of the trait
  abbrev is_same_truth : Bool → Bool → Bool
  is_same_truth a b = if a then b else not b

  abbrev pub are_same_params : ℕ → List TyId → List TyId → Bool
  are_same_params adt (self ∷ tys) (own ∷ others) =
      is_reference_to (adt_of items) adt own && (is_same_truth (is_unique self) (is_unique own) && are_same tys others)
  are_same_params adt _ _ = false

  abbrev pub implements_head : ℕ → List ℕ → Sig → Sig → Claim
  implements_head adt name method sig =
      fact (bytes_eq sig.name (name ++ codes "::" ++ method.name)) &
      fact (are_same_params adt method.params sig.params && is_same method.result sig.result)

  -- one body a method of the trait, in its order
  abbrev implements_all : ℕ → List ℕ → List Sig → List ℕ → Claim
  implements_all adt name [] [] = nothing
  implements_all adt name (method ∷ methods) (body ∷ bodies) =
      some (slice_get items.bodies body) (implements_head adt name method) & implements_all adt name methods bodies
  implements_all adt name _ _ = fact false

  abbrev is_impl : ImplDef → Claim
  is_impl def =
      some (slice_get items.traits def.trait_no) (λ tr. some (slice_get items.adts def.adt) (λ adt.
      implements_all def.adt adt.name tr.methods def.bodies))

  abbrev is_impl_of : ImplDef → ImplDef → Bool
  is_impl_of a b = a.trait_no == b.trait_no && a.adt == b.adt

  abbrev are_distinct_impls : List ImplDef → Bool
  are_distinct_impls [] = true
  are_distinct_impls (def ∷ defs) = not (list_any (is_impl_of def) defs) && are_distinct_impls defs

  -- ---- closures and bodies

  abbrev begins_with_closure : ℕ → List TyId → Bool
  begins_with_closure n [] = false
  begins_with_closure n (ty ∷ tys) =
      option_map_or (λ m. m == n) (closure_of items ty) false && list_all stands_alone tys

  abbrev is_closure : ℕ → ClosureDef → Claim
  is_closure n def =
      fact (list_all stands_alone def.captures) &
      some (slice_get items.bodies def.body) (λ sig. fact (begins_with_closure n sig.params))

  abbrev pub is_main : Sig → Bool
  is_main sig = bytes_eq sig.name (codes "main") && (length sig.params == 0 && is_unit items sig.result)

  abbrev item_names : List (List ℕ)
  item_names =
      map (λ adt. adt.name) items.adts ++ map (λ def. def.name) items.traits ++ map (λ sig. sig.name) items.bodies

  abbrev is_item_name : List ℕ → Bool
  is_item_name name = is_word name && not (is_among name built_in)

-- claimed of the members of a table, each with its number
abbrev numbered : {A : Type 0} → (ℕ → A → Claim) → ℕ → List A → Claim
numbered f n [] = nothing
numbered f n (x ∷ xs) = f n x & numbered f (suc n) xs

abbrev pub are_items : ItemTable → Claim
are_items items =
    are_types items & numbered (is_adt items) 0 items.adts & numbered (is_trait items) 0 items.traits &
    each (is_impl items) items.impls & fact (are_distinct_impls items items.impls) &
    numbered (is_closure items) 0 items.closures & fact (list_all (is_head items) items.bodies) &
    fact (are_distinct (item_names items)) & fact (list_all (is_item_name items) (item_names items)) &
    fact (list_any (is_main items) items.bodies)
