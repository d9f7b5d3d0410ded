-- Variants and fields by their names.
use Rattle.std.proofs.Common.{◌≡◌, ℕ, ◌+◌, Bool, cond, not, nat_lt, if◌then◌else◌, List, [], ◌∷◌, map, Option, Some, None, slice_get, refl, ap, ◌∙◌}
use Rattle.std.specs.Prelude.{option_and_then}
use Rattle.std.specs.List.{position as position_of, prefix_len}
use Rattle.std.specs.Option.{option_map}
use Rattle.std.specs.Str.{bytes_eq}
use Rattle.std.proofs.lemmas.List.{length-map}
use Rattle.std.proofs.lemmas.Option.{slice_get-map}
use Rattle.std.specs.Cmp.Lexicographic.{nat_list_eq_equiv}
use Rattle.mir_ty.specs.declared.adt.Adt.{Adt}
use Rattle.mir_ty.specs.declared.adt.Variant.{Variant}
use Rattle.mir_ty.specs.ItemTable.{ItemTable}
use Rattle.src_ast.specs.Syntax.{Word}
use Rattle.typeck_env.specs.Members.{adt_names, all_names}
use Rattle.typeck_env.specs.declared.members.AdtNames.{AdtNames}
use Rattle.typing_rules.specs.Scope.{variant_named}

prefix_mapped : {X Y : Type 0} (p : Y → Bool) (f : X → Y) (xs : List X) → prefix_len p (map f xs) ≡ prefix_len (λ x. p (f x)) xs
prefix_mapped p f [] = refl
prefix_mapped p f (x ∷ xs) = ap (λ n. if p (f x) then 1 + n else 0) (prefix_mapped p f xs)

position_mapped : {X Y : Type 0} (p : Y → Bool) (f : X → Y) (xs : List X) → position_of p (map f xs) ≡ position_of (λ x. p (f x)) xs
position_mapped p f xs = λ i. cond (nat_lt (prefix_mapped (λ y. not (p y)) f xs i) (length-map xs f i)) (Some (prefix_mapped (λ y. not (p y)) f xs i)) None

-- a variant of a struct or an enum is found among the names of its variants
found_in : (o : Option Adt) (name : Word) →
    option_and_then (λ (a : AdtNames). position_of (bytes_eq name) a.variants) (option_map adt_names o)
    ≡ option_and_then (λ (def : Adt). position_of (λ (v : Variant). bytes_eq v.name name) def.variants) o
found_in None name = refl
found_in (Some def) name =
    position_mapped (bytes_eq name) (λ (v : Variant). v.name) def.variants
    ∙ (λ i. position_of (λ (v : Variant). nat_list_eq_equiv.symm name v.name i) def.variants)

pub variant_found : (items : ItemTable) (adt : ℕ) (name : Word) →
    option_and_then (λ (a : AdtNames). position_of (bytes_eq name) a.variants) (slice_get (all_names items.adts) adt) ≡ variant_named items adt name
variant_found items adt name =
    ap (option_and_then (λ (a : AdtNames). position_of (bytes_eq name) a.variants)) (slice_get-map adt_names items.adts adt)
    ∙ found_in (slice_get items.adts adt) name
