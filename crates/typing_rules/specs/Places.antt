-- Places among typed nodes, and how a type stands to the one that is required.
use Rattle.std.specs.Prelude.{ℕ, zero, suc, Bool, true, false, ◌==◌, ◌&&◌, ◌||◌, not, List, [], ◌∷◌, Option, Some, None, if◌then◌else◌, option_and_then, option_map, length, slice_get}
use Rattle.std.specs.List.{list_any}
use Rattle.mir_base.specs.declared.int_kind.IntKind.{IntKind}
use Rattle.mir_base.specs.declared.place_in_text.Pos.{Pos}
use Rattle.mir_ty.specs.declared.ty.Ty.{Ty}
use Rattle.mir_ty.specs.declared.ty.TyId.{TyId}
use Rattle.mir_ty.specs.Facts.{has_drop_impl}
use Rattle.mir_ty.specs.ItemTable.{ItemTable}
use Rattle.typed_tree.specs.declared.node.Use.{Use}
use Rattle.typed_tree.specs.Tree.{Node, node, Form, Variable, Captured, Field, Index, Deref}
use Rattle.well_typed.specs.Places.{ty_of, is_place}
use Rattle.well_typed.specs.Types.{fits, adt_of, tuple_of, boxed_of, trait_of, inside_of, reference_of, is_reference, implements, variant_at, is_enum}
use Rattle.typing_rules.specs.Check.{Check, ◌>>=◌, pure, the_items, number}
use Rattle.typing_rules.specs.Scope.{NamedEntry, VariableMeaning, Local, Capture, InGuard, field_named}
use Rattle.src_ast.specs.Syntax.{number_word, Word}

abbrev pub place_in_text : Node → Pos
place_in_text (node id at ty by form) = at

abbrev pub used : Use → Node → Node
used by (node id at ty old form) = node id at ty (Some by) form

-- a node without a use: a place has none as long as nothing is done with it
abbrev pub a_node_of : ℕ → Pos → TyId → Form → Node
a_node_of id at ty form = node id at ty None form

-- ---- types with which each table begins

abbrev pub scalars : List Ty
scalars = Ty.Unit ∷ Ty.Bool ∷ Ty.Never ∷ Ty.Int IntKind.I32 ∷ Ty.Int IntKind.I64 ∷ Ty.Int IntKind.U32 ∷
    Ty.Int IntKind.U64 ∷ Ty.Int IntKind.Usize ∷ []

abbrev pub unit : TyId
unit = record { 0 = 0 }

abbrev pub bool : TyId
bool = record { 0 = 1 }

abbrev pub never : TyId
never = record { 0 = 2 }

abbrev pub int : IntKind → TyId
int IntKind.I32 = record { 0 = 3 }
int IntKind.I64 = record { 0 = 4 }
int IntKind.U32 = record { 0 = 5 }
int IntKind.U64 = record { 0 = 6 }
int IntKind.Usize = record { 0 = 7 }

-- ---- required types

-- how a type stands to the one that is required: a box of a struct or an enum becomes a box of `dyn` of a trait of it
pub data Fit : Type 0 where
  Fits : Fit
  Coerced : (trait_no : ℕ) → Fit
  Differs : Fit

abbrev pub coerced : ItemTable → Option ℕ → Option ℕ → Fit
coerced items (Some trait_no) (Some adt) = if implements items adt trait_no then Coerced trait_no else Differs
coerced items _ _ = Differs

abbrev pub fit : ItemTable → TyId → TyId → Fit
fit items expected ty =
    if fits items expected ty then Fits
    else coerced items (option_and_then (trait_of items) (boxed_of items expected)) (option_and_then (adt_of items)
    (boxed_of items ty))

-- required by nothing, or equal to what is required, or `!`
abbrev pub agrees : ItemTable → Option TyId → TyId → Bool
agrees items None ty = true
agrees items (Some expected) ty = fits items expected ty

-- a part of a required type
abbrev pub wanted : (ItemTable → TyId → Option TyId) → ItemTable → Option TyId → Option TyId
wanted part items expected = option_and_then (part items) expected

-- ---- places

abbrev pub is_any : ℕ → List ℕ → Bool
is_any key keys = list_any (λ k. key == k) keys

abbrev mutual
  -- moving out of the place is refused: it is behind a reference, an element, in a type with a `Drop` impl, or a
  -- binding
  -- inside its own guard
  pub is_fixed : ItemTable → List ℕ → Node → Bool
  is_fixed items in_guard (node id at ty by form) = is_fixed_form items in_guard form

  pub is_fixed_form : ItemTable → List ℕ → Form → Bool
  is_fixed_form items in_guard (Variable key) = is_any key in_guard
  is_fixed_form items in_guard (Field base part) = has_drop_impl items (ty_of base) || is_fixed items in_guard base
  is_fixed_form items in_guard (Index base index count) = true
  is_fixed_form items in_guard (Deref base) = is_reference items (ty_of base) || is_fixed items in_guard base
  is_fixed_form items in_guard _ = false

abbrev pub names_shared : Option (Bool × TyId) → Bool
names_shared None = false
names_shared (Some r) = not r.0

abbrev mutual
  pub is_shared_root : ItemTable → Node → Bool
  is_shared_root items (node id at ty by form) = is_shared_form items ty form

  pub is_shared_form : ItemTable → TyId → Form → Bool
  is_shared_form items ty (Variable key) = names_shared (reference_of items ty)
  is_shared_form items ty (Field base part) = is_shared_root items base
  is_shared_form items ty (Index base index count) = is_shared_root items base
  is_shared_form items ty (Deref base) = is_shared_root items base
  is_shared_form items ty _ = false

-- a place behind a variable of type `&T`
abbrev pub is_behind_shared : ItemTable → Node → Bool
is_behind_shared items (node id at ty by form) = is_place form && is_shared_form items ty form

-- the keys of the bindings in whose own guard the expression stands
abbrev pub guard_key : VariableMeaning → List ℕ → List ℕ
guard_key (InGuard key) keys = key ∷ keys
guard_key _ keys = keys

abbrev pub in_own_guard : List NamedEntry → List ℕ
in_own_guard [] = []
in_own_guard (x ∷ xs) = guard_key x.meaning (in_own_guard xs)

-- what a name that is in scope stands for
abbrev pub meaning_form : Word → VariableMeaning → Form
meaning_form name (Local key) = Variable key
meaning_form name (Capture closure part) = Captured closure part name
meaning_form name (InGuard key) = Variable key

abbrev pub variable_place : Pos → NamedEntry → Check Node
variable_place at x = do
  id ← number
  pure (a_node_of id at x.ty (meaning_form x.name x.meaning))

-- ---- members

-- what a type has of a name, found by going through each reference and box up to the first type that has it
abbrev pub Member : Type 0 → Type 0
Member A = ItemTable → TyId → Option A

module _ {A : Type 0} (member : Member A) (at : Pos) where
  abbrev pub through_at : (Node → Check (Node × Option A)) → Node → Option A → Option TyId → Check (Node × Option A)
  through_at on base (Some found) _ = pure (base, Some found)
  through_at on base None None = pure (base, None)
  through_at on base None (Some ty) = do
    id ← number
    on (a_node_of id at ty (Deref base))

  -- a type leads through no more boxes and references than there are types
  abbrev pub through_in : ℕ → ItemTable → Node → Check (Node × Option A)
  through_in zero items base = pure (base, None)
  through_in (suc n) items base =
      through_at (through_in n items) base (member items (ty_of base)) (inside_of items (ty_of base))

  abbrev pub through : Node → Check (Node × Option A)
  through base = do
    items ← the_items
    through_in (suc (length items.types)) items base

abbrev pub part_with : List TyId → ℕ → Option (ℕ × TyId)
part_with tys n = option_map (λ ty. (n, ty)) (slice_get tys n)

-- the number and the type of a field of a struct by its name
abbrev pub struct_field : Word → Member (ℕ × TyId)
struct_field name items ty =
    option_and_then (λ adt. if is_enum items adt then None else
    option_and_then (λ v. option_and_then (part_with v.fields) (field_named v name)) (variant_at items adt 0))
    (adt_of items ty)

-- a part of a tuple or of a struct by its number
abbrev pub either_part : Option (ℕ × TyId) → Option (ℕ × TyId) → Option (ℕ × TyId)
either_part (Some a) b = Some a
either_part None b = b

abbrev pub numbered_part : ℕ → Member (ℕ × TyId)
numbered_part n items ty =
    either_part (option_and_then (λ tys. part_with tys n) (tuple_of items ty)) (struct_field (number_word n) items ty)
