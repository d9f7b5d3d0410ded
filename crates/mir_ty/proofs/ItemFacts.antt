-- What crates above cite of items: what is true of a type by what is true of its parts, and that parts are in the table.
use Rattle.std.proofs.Common.{◌≡◌, ℕ, ◌==◌, ◌<◌, Bool, true, false, List, [], length, slice_get, replicate, if◌then◌else◌, Option, Some, None, All, refl, sym, subst, ◌∙◌, arith}
use Rattle.std.proofs.lemmas.Option.{same_Some, option_and_then_some}
use Rattle.std.proofs.lemmas.List.Elements.{All-nil, All-replicate}
use Rattle.mir_ty.specs.declared.ty.Ty.{Ty}
use Rattle.mir_ty.specs.declared.ty.TyId.{TyId}
use Rattle.mir_ty.specs.declared.adt.Adt.{Adt}
use Rattle.mir_ty.specs.declared.adt.Variant.{Variant}
use Rattle.mir_ty.specs.declared.def.ClosureDef.{ClosureDef}
use Rattle.mir_ty.specs.ItemTable.{ItemTable, type_at}
use Rattle.mir_ty.specs.Parts.{field_ty, parts_of, of_one_variant, fields_of, variants_of, captures_of}
use Rattle.mir_ty.specs.AreItems.{AreItems, AreTypes, IsTy, IsAdt, IsVariant}
use Rattle.mir_ty.specs.Facts.{Rule, by_rule, copy_rule, drop_rule, is_copy, needs_drop}
use Rattle.mir_ty.proofs.ListLemmas.{All-slice_get}
use Rattle.mir_ty.proofs.FixedPoint.{IsGrowing, by_rule-settled, by_rule-shown}
use Rattle.mir_ty.proofs.Rules.{copy_rule-growing, drop_rule-growing}

true_both : (a b : Bool) → (a ≡ true → b ≡ true) → (b ≡ true → a ≡ true) → a ≡ b
true_both true b ab ba = sym (ab refl)
true_both false true ab ba = ba refl
true_both false false ab ba = refl

by_rule-at : (types : List Ty) (rule : Rule) → IsGrowing rule → (id : TyId) (ty : Ty) → slice_get types id.0 ≡ Some ty → by_rule types rule id ≡ rule (by_rule types rule) ty
by_rule-at types rule growing id ty is = true_both _ _ shows (by_rule-settled types rule growing id ty is)
  where
    shows : by_rule types rule id ≡ true → rule (by_rule types rule) ty ≡ true
    shows h =
        let s = by_rule-shown types rule growing id h in
        subst (λ t. rule (by_rule types rule) t ≡ true) (same_Some s.0 ty (sym s.1 ∙ is)) s.2

module _ (items : ItemTable) (id : TyId) (ty : Ty) (is : type_at items id ≡ Some ty) where
  -- a type of the table is Copy where the rule says so, given which types are
  pub is_copy-at : is_copy items id ≡ copy_rule items.adts items.closures (is_copy items) ty
  is_copy-at = by_rule-at items.types (copy_rule items.adts items.closures) (copy_rule-growing items.adts items.closures) id ty is

  -- and needs dropping where the rule says so, given which types do
  pub needs_drop-at : needs_drop items id ≡ drop_rule items.adts items.closures (needs_drop items) ty
  needs_drop-at = by_rule-at items.types (drop_rule items.adts items.closures) (drop_rule-growing items.adts items.closures) id ty is

of_one_within : (types : List Ty) (parts : List TyId) (variant : ℕ) → AreTypes types parts → AreTypes types (of_one_variant parts variant)
of_one_within types parts variant are = by (variant == 0)
  where
    by : (b : Bool) → AreTypes types (if b then parts else [])
    by true = are
    by false = All-nil (λ id. id.0 < length types)

fields_within : (types : List Ty) (variants : List Variant) (variant : ℕ) → All (IsVariant types) variants → AreTypes types (fields_of (slice_get variants variant))
fields_within types variants variant are = by (slice_get variants variant) refl
  where
    by : (o : Option Variant) → slice_get variants variant ≡ o → AreTypes types (fields_of o)
    by None is = All-nil (λ id. id.0 < length types)
    by (Some v) is = (All-slice_get (IsVariant types) variants variant v are is).fields

adt_within : (types : List Ty) (adts : List Adt) (n variant : ℕ) → All (IsAdt types) adts → AreTypes types (fields_of (slice_get (variants_of (slice_get adts n)) variant))
adt_within types adts n variant are = by (slice_get adts n) refl
  where
    by : (o : Option Adt) → slice_get adts n ≡ o → AreTypes types (fields_of (slice_get (variants_of o) variant))
    by None is = All-nil (λ id. id.0 < length types)
    by (Some adt) is = fields_within types adt.variants variant (All-slice_get (IsAdt types) adts n adt are is).variants

captures_within : (types : List Ty) (closures : List ClosureDef) (n : ℕ) → All (λ def. AreTypes types def.captures) closures → AreTypes types (captures_of (slice_get closures n))
captures_within types closures n are = by (slice_get closures n) refl
  where
    by : (o : Option ClosureDef) → slice_get closures n ≡ o → AreTypes types (captures_of o)
    by None is = All-nil (λ id. id.0 < length types)
    by (Some def) is = All-slice_get (λ def. AreTypes types def.captures) closures n def are is

-- the parts of a type of the table are in the table
parts_within : (items : ItemTable) → AreItems items → (ty : Ty) → IsTy items.types ty → (variant : ℕ) → AreTypes items.types (parts_of items ty variant)
parts_within items are (Ty.Adt n) is variant = adt_within items.types items.adts n variant are.adts
parts_within items are (Ty.Tuple parts) is variant = of_one_within items.types parts variant is.within
parts_within items are (Ty.Array element count) is variant =
    of_one_within items.types (replicate count element) variant (All-replicate (λ id. id.0 < length items.types) count element (is.within 0 element (omega arith)))
parts_within items are (Ty.Closure n) is variant = of_one_within items.types (captures_of (slice_get items.closures n)) variant (captures_within items.types items.closures n are.closures)
parts_within items are _ is variant = All-nil (λ id. id.0 < length items.types)

pub field_ty-within : (items : ItemTable) (id : TyId) (variant n : ℕ) (part : TyId) → AreItems items → field_ty items id variant n ≡ Some part → part.0 < length items.types
field_ty-within items id variant n part are is =
    option_and_then_some (λ ty. slice_get (parts_of items ty variant) n) (type_at items id) part is
    (λ ty at here. All-slice_get (λ id. id.0 < length items.types) (parts_of items ty variant) n part
    (parts_within items are ty (All-slice_get (IsTy items.types) items.types id.0 ty are.types at) variant) here)
