-- Tests of all members of lists, or of any.
use Rattle.std.proofs.Common.{◌≡◌, ℕ, zero, suc, length, Bool, false, ◌||◌, ◌&&◌, List, [], ◌∷◌, slice_get, Option, Some, refl, ap, sym, ◌∙◌}
use Rattle.std.specs.Prelude.{flat_map}
use Rattle.std.specs.List.{list_any, list_all}
use Rattle.std.proofs.lemmas.List.Folds.{list_any-append, list_all-append}
use Rattle.std.specs.Option.{option_map_or}
use Rattle.mir_ty.specs.Facts.{by_rule, in_rounds}
use Rattle.mir_ty.specs.Known.{known_by}
use Rattle.cfg_graph.specs.declared.type_faults.Question.{Question}
use Rattle.cfg_graph.specs.WellFormed.Questions.{rule_for, shown_from, Tells}
use Rattle.mir_ty.specs.declared.ty.Ty.{Ty}
use Rattle.mir_ty.specs.declared.ty.TyId.{TyId}
use Rattle.mir_ty.specs.declared.adt.Adt.{Adt}
use Rattle.mir_ty.specs.declared.adt.Variant.{Variant}
use Rattle.mir_ty.specs.declared.def.TraitDef.{TraitDef}
use Rattle.cfg_graph.specs.WellFormed.ItemFaults.{field_types, types_of_sig, types_of_trait}
use Rattle.mir_ty.specs.ItemTable.{ItemTable}
use Rattle.mir_ty.specs.Parts.{held_by, variants_of}

pub list_any-flat_map : {X Y : Type 0} → (p : Y → Bool) (f : X → List Y) (xs : List X) → list_any p (flat_map f xs) ≡ list_any (λ x. list_any p (f x)) xs
list_any-flat_map p f [] = refl
list_any-flat_map p f (x ∷ xs) = list_any-append p (f x) (flat_map f xs) ∙ ap (λ b. list_any p (f x) || b) (list_any-flat_map p f xs)

-- what is held by a struct or an enum is what its variants have
pub any_held_by_adt : (items : ItemTable) (F : TyId → Bool) (n : ℕ) (ty : Ty) (adt : Adt) (variants : List Variant) (answer : Bool)
    → ty ≡ Ty.Adt n → Some adt ≡ slice_get items.adts n → variants ≡ adt.variants → answer ≡ list_any (λ variant. list_any F variant.fields) variants
    → answer ≡ list_any F (held_by items ty)
any_held_by_adt items F n ty adt variants answer is at same any =
    any ∙ ap (list_any (λ (variant : Variant). list_any F variant.fields)) same ∙ sym (list_any-flat_map F (λ (variant : Variant). variant.fields) adt.variants)
    ∙ ap (λ (o : Option Adt). list_any F (flat_map (λ (variant : Variant). variant.fields) (variants_of o))) at
    ∙ sym (ap (λ (t : Ty). list_any F (held_by items t)) is)

-- what a table and so many rounds tell of each type, they tell of all
module _ (items : ItemTable) (question : Question) (ids : List TyId) where
  abbrev told : List Bool → ℕ → Bool
  told known rounds = list_any (shown_from (known_by known) items.types (rule_for items question) rounds) ids

  pub told_of_all : (known : List Bool) (rounds : ℕ) → Tells items question known rounds → told known rounds ≡ list_any (by_rule items.types (rule_for items question)) ids
  told_of_all known rounds tells = λ i. list_any (λ id. tells id i) ids

  pub all_told : (known : List Bool) (rounds : ℕ) → Tells items question known rounds
      → list_all (shown_from (known_by known) items.types (rule_for items question) rounds) ids ≡ list_all (by_rule items.types (rule_for items question)) ids
  all_told known rounds tells = λ i. list_all (λ id. tells id i) ids

-- without a table the rounds of the rule tell it
pub told_by_rounds : (items : ItemTable) (question : Question) (rounds : ℕ) → rounds ≡ length items.types → Tells items question [] rounds
told_by_rounds items question rounds all id = from rounds id ∙ ap (λ k. in_rounds items.types (rule_for items question) k id) all
  where
    from : (k : ℕ) (id : TyId) → shown_from (known_by []) items.types (rule_for items question) k id ≡ in_rounds items.types (rule_for items question) k id
    from zero id = refl
    from (suc k) id = λ i. option_map_or (rule_for items question (λ x. from k x i)) (slice_get items.types id.0) false

-- all that is held by a struct or an enum is what its variants have
list_all-flat_map : {X Y : Type 0} → (p : Y → Bool) (f : X → List Y) (xs : List X) → list_all p (flat_map f xs) ≡ list_all (λ x. list_all p (f x)) xs
list_all-flat_map p f [] = refl
list_all-flat_map p f (x ∷ xs) = list_all-append p (f x) (flat_map f xs) ∙ ap (λ b. list_all p (f x) && b) (list_all-flat_map p f xs)

-- the types of the fields of a struct or an enum, and those of the methods of a trait
pub all_fields_of : (p : TyId → Bool) (adt : Adt) → list_all p (field_types adt) ≡ list_all (λ variant. list_all p variant.fields) adt.variants
all_fields_of p adt = list_all-flat_map p (λ (variant : Variant). variant.fields) adt.variants

pub any_field_of : (p : TyId → Bool) (adt : Adt) → list_any p (field_types adt) ≡ list_any (λ variant. list_any p variant.fields) adt.variants
any_field_of p adt = list_any-flat_map p (λ (variant : Variant). variant.fields) adt.variants

pub all_types_of_trait : (p : TyId → Bool) (def : TraitDef) → list_all p (types_of_trait def) ≡ list_all (λ sig. list_all p (types_of_sig sig)) def.methods
all_types_of_trait p def = list_all-flat_map p types_of_sig def.methods

pub any_type_of_trait : (p : TyId → Bool) (def : TraitDef) → list_any p (types_of_trait def) ≡ list_any (λ sig. list_any p (types_of_sig sig)) def.methods
any_type_of_trait p def = list_any-flat_map p types_of_sig def.methods

pub all_held_by_adt : (items : ItemTable) (F : TyId → Bool) (n : ℕ) (ty : Ty) (adt : Adt) (variants : List Variant) (answer : Bool)
    → ty ≡ Ty.Adt n → Some adt ≡ slice_get items.adts n → variants ≡ adt.variants → answer ≡ list_all (λ variant. list_all F variant.fields) variants
    → answer ≡ list_all F (held_by items ty)
all_held_by_adt items F n ty adt variants answer is at same all =
    all ∙ ap (list_all (λ (variant : Variant). list_all F variant.fields)) same ∙ sym (list_all-flat_map F (λ (variant : Variant). variant.fields) adt.variants)
    ∙ ap (λ (o : Option Adt). list_all F (flat_map (λ (variant : Variant). variant.fields) (variants_of o))) at
    ∙ sym (ap (λ (t : Ty). list_all F (held_by items t)) is)
