-- The names in scope.
use Rattle.std.specs.Prelude.{ℕ, Bool, false, List, [], ◌∷◌, ◌++◌, Option, Some, None, slice_get, option_and_then, codes}
use Rattle.std.specs.List.{find, position as position_of}
use Rattle.std.specs.Str.{bytes_eq}
use Rattle.mir_ty.specs.declared.adt.Variant.{Variant}
use Rattle.mir_ty.specs.declared.ty.TyId.{TyId}
use Rattle.mir_ty.specs.ItemTable.{ItemTable}
use Rattle.src_ast.specs.Syntax.{Word, FieldsKind, Unit_}

-- what a variable is: an entry of the body by its key, a capture by the key of the closure and its number, or a binding
-- inside its own guard
pub data VariableMeaning : Type 0 where
  Local : (key : ℕ) → VariableMeaning
  Capture : (closure part : ℕ) → VariableMeaning
  InGuard : (key : ℕ) → VariableMeaning

pub record NamedEntry : Type 0 where
  pub name : Word
  pub ty : TyId
  pub meaning : VariableMeaning

-- a loop around: its label, its number, whether its breaks may carry a value, and the type that is required of it
pub record LabelledLoop : Type 0 where
  pub label : Option Word
  pub loop : ℕ
  pub has_value : Bool
  pub expected : Option TyId

-- where an expression stands: the names of structs and enums, and of traits, as they are numbered; how the parts of
-- each variant of each struct and enum are written; the methods with `self`, as `S::m`; the struct or enum that `Self`
-- is; variables, the youngest first; loops, the innermost first; the result of the body
pub record Env : Type 0 where
  pub adts : List Word
  pub traits : List Word
  pub kinds : List (List FieldsKind)
  pub methods : List Word
  pub self_adt : Option ℕ
  pub variables : List NamedEntry
  pub loops : List LabelledLoop
  pub answer : TyId

-- the youngest variable of a name: it hides the older ones
abbrev pub variable : List NamedEntry → Word → Option NamedEntry
variable xs name = find (λ x. bytes_eq x.name name) xs

-- names that come into scope: the last of them is the youngest
abbrev pub joined : List NamedEntry → List NamedEntry → List NamedEntry
joined [] old = old
joined (x ∷ xs) old = joined xs (x ∷ old)

abbrev pub with_variables : List NamedEntry → Env → Env
with_variables new env = record env { variables = joined new env.variables }

-- the loop that a jump leaves: the innermost, or the innermost of that label
abbrev pub labelled : Word → Option Word → Bool
labelled name None = false
labelled name (Some label) = bytes_eq label name

abbrev pub innermost : List LabelledLoop → Option LabelledLoop
innermost [] = None
innermost (a ∷ around) = Some a

abbrev pub jumps_to : List LabelledLoop → Option Word → Option LabelledLoop
jumps_to loops None = innermost loops
jumps_to loops (Some name) = find (λ a. labelled name a.label) loops

abbrev pub within_loop : LabelledLoop → Env → Env
within_loop loop env = record env { loops = loop ∷ env.loops }

-- inside the guard of an arm its names are the parts that they would bind
abbrev pub guarded : VariableMeaning → VariableMeaning
guarded (Local key) = InGuard key
guarded m = m

abbrev pub in_guard : List NamedEntry → List NamedEntry
in_guard [] = []
in_guard (x ∷ xs) = record x { meaning = guarded x.meaning } ∷ in_guard xs

-- ---- names of items

abbrev pub adt_named : ItemTable → Word → Option ℕ
adt_named items name = position_of (λ adt. bytes_eq adt.name name) items.adts

abbrev pub trait_named : ItemTable → Word → Option ℕ
trait_named items name = position_of (λ def. bytes_eq def.name name) items.traits

-- a function; the name of a method begins with its type's
abbrev pub body_named : ItemTable → Word → Option ℕ
body_named items name = position_of (λ sig. bytes_eq sig.name name) items.bodies

abbrev pub method_word : Word → Word → Word
method_word adt name = adt ++ codes "::" ++ name

abbrev pub method_of : ItemTable → ℕ → Word → Option ℕ
method_of items adt name =
    option_and_then (λ def. body_named items (method_word def.name name)) (slice_get items.adts adt)

abbrev pub variant_named : ItemTable → ℕ → Word → Option ℕ
variant_named items adt name =
    option_and_then (λ def. position_of (λ v. bytes_eq v.name name) def.variants) (slice_get items.adts adt)

-- the number of a field of a variant
abbrev pub field_named : Variant → Word → Option ℕ
field_named variant name = position_of (bytes_eq name) variant.field_names

abbrev pub or_unit : Option FieldsKind → FieldsKind
or_unit None = Unit_
or_unit (Some kind) = kind

abbrev pub kind_at : List (List FieldsKind) → ℕ → ℕ → FieldsKind
kind_at kinds adt variant = or_unit (option_and_then (λ ks. slice_get ks variant) (slice_get kinds adt))

-- the struct or enum of a path's first part, which is a name or `Self`
abbrev pub adt_at_head : ItemTable → Env → Option Word → Option ℕ
adt_at_head items env None = env.self_adt
adt_at_head items env (Some name) = adt_named items name
