-- The lines of structs, enums, traits, impls and closures.
use Rattle.std.specs.Prelude.{ℕ, suc, Bool, true, false, List, [], ◌∷◌, ◌++◌, map, flat_map, codes, Option, Some, None, slice_get}
use Rattle.std.specs.Fmt.{decimal}
use Rattle.mir_ty.specs.declared.ty.TyId.{TyId}
use Rattle.mir_ty.specs.declared.adt.Adt.{Adt}
use Rattle.mir_ty.specs.declared.adt.Variant.{Variant}
use Rattle.mir_ty.specs.declared.def.Sig.{Sig}
use Rattle.mir_ty.specs.declared.def.TraitDef.{TraitDef}
use Rattle.mir_ty.specs.declared.def.ImplDef.{ImplDef}
use Rattle.mir_ty.specs.declared.def.ClosureDef.{ClosureDef}
use Rattle.mir_ty.specs.ItemTable.{ItemTable}
use Rattle.mir_ty.specs.Named.{adt_name}
use Rattle.mir_ty.specs.Parts.{fields_of}
use Rattle.listing_write.specs.Lists.{in_parentheses, in_braces, line}
use Rattle.listing_write.specs.Types.{type_text, trait_name}

abbrev pub types_text : ItemTable → List TyId → List ℕ
types_text items ids = in_parentheses (map (type_text items) ids)

abbrev pub variant_text : ItemTable → Variant → List ℕ
variant_text items variant = variant.name ++ codes " " ++ types_text items variant.fields

abbrev pub copy_text : Bool → List ℕ
copy_text true = codes " copy"
copy_text false = []

abbrev pub drop_text : Option ℕ → List ℕ
drop_text None = []
drop_text (Some body) = codes " drop " ++ decimal body

-- a struct has one variant
abbrev pub shape_text : ItemTable → Bool → Adt → List ℕ
shape_text items true adt = codes "enum " ++ adt.name ++ codes " " ++ in_braces (map (variant_text items) adt.variants)
shape_text items false adt =
    codes "struct " ++ adt.name ++ codes " " ++ types_text items (fields_of (slice_get adt.variants 0))

abbrev pub adt_line : ItemTable → Adt → List ℕ
adt_line items adt = line (shape_text items adt.is_enum adt ++ copy_text adt.copy ++ drop_text adt.drop_body)

abbrev pub method_text : ItemTable → Sig → List ℕ
method_text items sig = sig.name ++ codes " " ++ types_text items sig.params ++ codes " " ++ type_text items sig.result

abbrev pub trait_line : ItemTable → TraitDef → List ℕ
trait_line items def = line (codes "trait " ++ def.name ++ codes " " ++ in_braces (map (method_text items) def.methods))

abbrev pub impl_line : ItemTable → ImplDef → List ℕ
impl_line items def =
    line (codes "impl " ++ trait_name items def.trait_no ++ codes " for " ++ adt_name items def.adt ++
    flat_map (λ body. codes " " ++ decimal body) def.bodies)

abbrev pub closure_line : ItemTable → ℕ → ClosureDef → List ℕ
closure_line items n def =
    line (codes "closure " ++ decimal n ++ codes " " ++ types_text items def.captures ++ codes " " ++ decimal def.body)

-- things that are counted from a number on, one after the other
abbrev pub counted : {X : Type 0} → (ℕ → X → List ℕ) → ℕ → List X → List ℕ
counted text n [] = []
counted text n (x ∷ xs) = text n x ++ counted text (suc n) xs

abbrev pub items_text : ItemTable → List ℕ
items_text items =
    flat_map (adt_line items) items.adts ++ flat_map (trait_line items) items.traits ++
    flat_map (impl_line items) items.impls
    ++ counted (closure_line items) 0 items.closures
