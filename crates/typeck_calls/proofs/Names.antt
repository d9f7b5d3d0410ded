-- Fields by their names.
use Rattle.std.proofs.Common.{◌≡◌, ℕ, ◌<◌, ◌^◌, List, Option, Some, None, slice_get, get_or, refl, ap, subst, ◌∙◌, arith}
use Rattle.std.specs.List.{position as position_of}
use Rattle.std.specs.Option.{option_map, option_and_then}
use Rattle.std.specs.Str.{bytes_eq}
use Rattle.std.proofs.lemmas.List.Elements.{All-get_or}
use Rattle.std.proofs.lemmas.Option.{slice_get-map, slice_get_within, get_or_from_slice_get}
use Rattle.mir_ty.specs.AreItems.{AreItems, IsShort, types_in}
use Rattle.mir_ty.specs.ItemTable.{ItemTable, type_at}
use Rattle.mir_ty.specs.declared.adt.Adt.{Adt}
use Rattle.mir_ty.specs.declared.adt.Variant.{Variant}
use Rattle.mir_ty.specs.declared.ty.Ty.{Ty}
use Rattle.mir_ty.specs.declared.ty.TyId.{TyId}
use Rattle.src_ast.specs.Syntax.{Word}
use Rattle.typeck_env.specs.Members.{adt_names}
use Rattle.typeck_env.specs.declared.members.AdtNames.{AdtNames}
use Rattle.typeck_calls.specs.Fields.{number_in}
use Rattle.typeck_checker.specs.Tables.{AreTablesOf}
use Rattle.typeck_checker.specs.declared.tables.Tables.{Tables}
use Rattle.typing_rules.specs.Places.{part_with}
use Rattle.typing_rules.specs.Scope.{field_named}
use Rattle.well_typed.specs.Types.{variant_at}

-- ---- the table of names of a variant

names_at : (items : ItemTable) (t : Tables) (adt : ℕ) → AreTablesOf items t → slice_get t.members adt ≡ option_map adt_names (slice_get items.adts adt)
names_at items t adt ready = ap (λ (ns : List AdtNames). slice_get ns adt) ready.members ∙ slice_get-map adt_names items.adts adt

through_map : {A B C : Type 0} (f : B → Option C) (g : A → B) (a : Option A) → option_and_then f (option_map g a) ≡ option_and_then (λ x. f (g x)) a
through_map f g None = refl
through_map f g (Some x) = refl

module _ (variant : ℕ) (name : Word) where
  abbrev pub by_table : Option AdtNames → Option ℕ
  by_table ns = option_and_then (position_of (bytes_eq name)) (option_and_then (λ (n : AdtNames). slice_get n.fields variant) ns)

  abbrev pub by_variant : Option Adt → Option ℕ
  by_variant a = option_and_then (λ v. field_named v name) (option_and_then (λ (def : Adt). slice_get def.variants variant) a)

  same_field : (a : Option Adt) → by_table (option_map adt_names a) ≡ by_variant a
  same_field None = refl
  same_field (Some def) =
      ap (option_and_then (position_of (bytes_eq name))) (slice_get-map (λ (v : Variant). v.field_names) def.variants variant)
      ∙ through_map (position_of (bytes_eq name)) (λ (v : Variant). v.field_names) (slice_get def.variants variant)

  pub found : (items : ItemTable) (t : Tables) (adt : ℕ) → AreTablesOf items t → number_in t adt variant name ≡ option_and_then (λ v. field_named v name) (variant_at items adt variant)
  found items t adt ready = ap by_table (names_at items t adt ready) ∙ same_field (slice_get items.adts adt)

  pub field_some : (items : ItemTable) (t : Tables) (adt : ℕ) (ns : AdtNames) (fields : List Word) → AreTablesOf items t → Some ns ≡ slice_get t.members adt → Some fields ≡ slice_get ns.fields variant →
      position_of (bytes_eq name) fields ≡ option_and_then (λ v. field_named v name) (variant_at items adt variant)
  field_some items t adt ns fields ready e f =
      ap (option_and_then (position_of (bytes_eq name))) f ∙ ap by_table e ∙ found items t adt ready

  pub field_none : (items : ItemTable) (t : Tables) (adt : ℕ) (ns : AdtNames) → AreTablesOf items t → Some ns ≡ slice_get t.members adt → None ≡ slice_get ns.fields variant →
      None ≡ option_and_then (λ v. field_named v name) (variant_at items adt variant)
  field_none items t adt ns ready e f =
      ap (option_and_then (position_of (bytes_eq name))) f ∙ ap by_table e ∙ found items t adt ready

  pub field_nothing : (items : ItemTable) (t : Tables) (adt : ℕ) → AreTablesOf items t → None ≡ slice_get t.members adt →
      None ≡ option_and_then (λ v. field_named v name) (variant_at items adt variant)
  field_nothing items t adt ready e = ap by_table e ∙ found items t adt ready

-- ---- a field by its number

module _ (name : Word) where
  pub at_name : (v : Option Variant) (n : ℕ) → Some n ≡ option_and_then (λ v. field_named v name) v →
      option_and_then (λ v. part_with v.fields n) v ≡ option_and_then (λ v. option_and_then (part_with v.fields) (field_named v name)) v
  at_name None n e = absurd (cc)
  at_name (Some v) n e = ap (option_and_then (part_with v.fields)) e

  pub at_no_name : (v : Option Variant) → None ≡ option_and_then (λ v. field_named v name) v →
      None ≡ option_and_then (λ v. option_and_then (part_with v.fields) (field_named v name)) v
  at_no_name None e = refl
  at_no_name (Some v) e = ap (option_and_then (part_with v.fields)) e

-- ---- parts of a tuple

pub few_parts : (items : ItemTable) (id : TyId) (parts : List TyId) (n : ℕ) (ty : TyId) → AreItems items → type_at items id ≡ Some (Ty.Tuple parts) → slice_get parts n ≡ Some ty → n < 2 ^ 32
few_parts items id parts n ty ok e f =
    let within = slice_get_within items.types id.0 (Ty.Tuple parts) e in
    let is : get_or items.types id.0 (Ty.Tuple parts) ≡ Ty.Tuple parts = get_or_from_slice_get items.types id.0 (Ty.Tuple parts) (Ty.Tuple parts) e in
    let short : IsShort parts = subst (λ t. IsShort (types_in t)) is (All-get_or (λ t. IsShort (types_in t)) items.types id.0 (Ty.Tuple parts) within ok.short.in_types) in
    let few = slice_get_within parts n ty f in
    omega arith
