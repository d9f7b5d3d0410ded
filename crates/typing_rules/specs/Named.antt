-- What paths and callees name.
use Rattle.std.specs.Prelude.{ℕ, Bool, true, false, ◌||◌, List, [], ◌∷◌, Option, Some, None, is_some, if◌then◌else◌, option_and_then, option_map, slice_get, codes}
use Rattle.std.specs.List.{list_any, position as position_of}
use Rattle.std.specs.Option.{option_map_or}
use Rattle.std.specs.Str.{bytes_eq}
use Rattle.mir_base.specs.declared.place_in_text.Pos.{Pos}
use Rattle.mir_base.specs.declared.rule.Rule.{Rule}
use Rattle.mir_ty.specs.declared.def.Sig.{Sig}
use Rattle.mir_ty.specs.declared.def.TraitDef.{TraitDef}
use Rattle.mir_ty.specs.declared.ty.Ty.{Ty}
use Rattle.mir_ty.specs.declared.ty.TyId.{TyId}
use Rattle.mir_ty.specs.ItemTable.{ItemTable, type_at}
use Rattle.mir_ty.specs.DropBodies.{is_drop_body}
use Rattle.well_typed.specs.Types.{closure_of, is_enum, variant_at}
use Rattle.typing_rules.specs.Rows.{Method, OfAdt, OfTrait}
use Rattle.typing_rules.specs.Scope.{Env, NamedEntry, variable, adt_named, body_named, method_of, variant_named, kind_at, adt_at_head}
use Rattle.src_ast.specs.Syntax.{Word, FieldsKind, Unit_, Tuple_, Syn, syn, AnExpression, Expression, Path, Parens}
use Rattle.typing_rules.specs.Written.{is_box}

abbrev pub is_built_in : Word → Bool
is_built_in name =
    list_any (bytes_eq name) (codes "print" ∷ codes "ask" ∷ codes "drop" ∷ codes "forget" ∷ [])

abbrev pub is_unit_kind : FieldsKind → Bool
is_unit_kind Unit_ = true
is_unit_kind _ = false

abbrev pub is_tuple_kind : FieldsKind → Bool
is_tuple_kind Tuple_ = true
is_tuple_kind _ = false

-- ---- a path that stands as a value

pub data PathValue : Type 0 where
  -- a struct or a variant without parts
  Makes : (adt variant : ℕ) → PathValue
  IsBroken : (rule : Rule) → PathValue

abbrev pub unit_value : Env → ℕ → ℕ → PathValue
unit_value env adt variant =
    if is_unit_kind (kind_at env.kinds adt variant) then Makes adt variant else IsBroken Rule.T13

abbrev pub struct_value : ItemTable → Env → ℕ → PathValue
struct_value items env adt = if is_enum items adt then IsBroken Rule.T01 else unit_value env adt 0

-- a function or a built-in is no value
abbrev pub no_value : ItemTable → Word → PathValue
no_value items name = IsBroken (if is_some (body_named items name) || is_built_in name then Rule.T13 else Rule.T01)

abbrev pub name_value : ItemTable → Env → Word → Option ℕ → PathValue
name_value items env name (Some adt) = struct_value items env adt
name_value items env name None = no_value items name

abbrev pub or_broken : ItemTable → Env → Option ℕ → PathValue
or_broken items env None = IsBroken Rule.T01
or_broken items env (Some adt) = struct_value items env adt

-- what is not there behind `::`: of an enum a variant, of a struct a method
abbrev pub missing : ItemTable → ℕ → Rule
missing items adt = if is_enum items adt then Rule.T01 else Rule.T12

abbrev pub member_value : ItemTable → Env → ℕ → Word → Option ℕ → PathValue
member_value items env adt name (Some variant) = unit_value env adt variant
member_value items env adt name None =
    IsBroken (if is_some (method_of items adt name) then Rule.T13 else missing items adt)

abbrev pub variant_of_enum : ItemTable → ℕ → Word → Option ℕ
variant_of_enum items adt name = if is_enum items adt then variant_named items adt name else None

abbrev pub box_member : Option Word → Word → PathValue
box_member None name = IsBroken Rule.T01
box_member (Some first) name =
    if is_box first then IsBroken (if bytes_eq name (codes "new") then Rule.T13 else Rule.T12) else IsBroken Rule.T01

abbrev pub path_member : ItemTable → Env → Option Word → Word → Option ℕ → PathValue
path_member items env first name None = box_member first name
path_member items env first name (Some adt) = member_value items env adt name (variant_of_enum items adt name)

abbrev pub path_value : ItemTable → Env → Option Word → Option Word → PathValue
path_value items env (Some name) None = name_value items env name (adt_named items name)
path_value items env None None = or_broken items env env.self_adt
path_value items env first (Some name) = path_member items env first name (adt_at_head items env first)

-- ---- what is called

pub data Callee : Type 0 where
  Function : (body : ℕ) (is_drop : Bool) (head : Sig) → Callee
  Constructor : (adt variant : ℕ) (types : List TyId) → Callee
  Prints : Callee
  Asks : Callee
  Drops : Callee
  Forgets : Callee
  Boxes : Callee
  -- an expression, which has to be a closure
  AValue : Callee
  -- a name that is not there; what cannot be called
  Unnamed : (rule : Rule) → Callee
  NoCallee : Callee

abbrev pub function_by : ItemTable → ℕ → Option Sig → Callee
function_by items body None = NoCallee
function_by items body (Some head) = Function body (is_drop_body items body) head

abbrev pub constructor_of : ItemTable → Env → ℕ → ℕ → Callee
constructor_of items env adt variant =
    if is_tuple_kind (kind_at env.kinds adt variant) then
    Constructor adt variant (option_map_or (λ v. v.fields) (variant_at items adt variant) [])
    else NoCallee

abbrev pub built_in_callee : Word → Callee
built_in_callee name =
    if bytes_eq name (codes "print") then Prints
    else (if bytes_eq name (codes "ask") then Asks
    else (if bytes_eq name (codes "drop") then Drops
    else (if bytes_eq name (codes "forget") then Forgets else Unnamed Rule.T01)))

abbrev pub adt_callee : ItemTable → Env → Word → Option ℕ → Callee
adt_callee items env name None = built_in_callee name
adt_callee items env name (Some adt) = if is_enum items adt then Unnamed Rule.T01 else constructor_of items env adt 0

abbrev pub body_callee : ItemTable → Env → Word → Option ℕ → Callee
body_callee items env name (Some body) = function_by items body (slice_get items.bodies body)
body_callee items env name None = adt_callee items env name (adt_named items name)

-- a name is first a closure variable, then a function; another variable is no callee
abbrev pub or_no_callee : Callee → Callee
or_no_callee (Unnamed rule) = NoCallee
or_no_callee c = c

abbrev pub variable_callee : ItemTable → Env → Word → Option NamedEntry → Callee
variable_callee items env name None = body_callee items env name (body_named items name)
variable_callee items env name (Some x) =
    if is_some (closure_of items x.ty) then AValue else or_no_callee (body_callee items env name (body_named items
    name))

abbrev pub method_callee : ItemTable → ℕ → Option ℕ → Callee
method_callee items adt None = Unnamed (missing items adt)
method_callee items adt (Some body) = function_by items body (slice_get items.bodies body)

abbrev pub member_callee : ItemTable → Env → ℕ → Word → Option ℕ → Callee
member_callee items env adt name (Some variant) = constructor_of items env adt variant
member_callee items env adt name None = method_callee items adt (method_of items adt name)

abbrev pub box_callee : Option Word → Word → Callee
box_callee None name = Unnamed Rule.T01
box_callee (Some first) name =
    if is_box first then (if bytes_eq name (codes "new") then Boxes else Unnamed Rule.T12) else Unnamed Rule.T01

abbrev pub path_callee : ItemTable → Env → Option Word → Word → Option ℕ → Callee
path_callee items env first name None = box_callee first name
path_callee items env first name (Some adt) = member_callee items env adt name (variant_of_enum items adt name)

abbrev pub self_callee : ItemTable → Env → Option ℕ → Callee
self_callee items env None = Unnamed Rule.T01
self_callee items env (Some adt) = if is_enum items adt then Unnamed Rule.T01 else constructor_of items env adt 0

abbrev pub callee_form : ItemTable → Env → Expression → Callee
callee_form items env (Path (Some name) None) = variable_callee items env name (variable env.variables name)
callee_form items env (Path None None) = self_callee items env env.self_adt
callee_form items env (Path first (Some name)) = path_callee items env first name (adt_at_head items env first)
callee_form items env _ = AValue

abbrev mutual
  pub callee_of : ItemTable → Env → Syn → Callee
  callee_of items env (syn at (AnExpression e)) = callee_by items env e
  callee_of items env _ = AValue

  pub callee_by : ItemTable → Env → Expression → Callee
  callee_by items env (Parens inside) = callee_of items env inside
  callee_by items env e = callee_form items env e

-- where an expression stands without the parentheses around it, which are no part of a typed program
abbrev mutual
  pub place_inside : Syn → Pos
  place_inside (syn at (AnExpression e)) = place_inside_form at e
  place_inside (syn at _) = at

  pub place_inside_form : Pos → Expression → Pos
  place_inside_form at (Parens inside) = place_inside inside
  place_inside_form at _ = at

-- ---- methods of a value

abbrev pub with_head : ItemTable → ℕ → Option Sig → Option Method
with_head items body head = option_map (OfAdt body (is_drop_body items body)) head

abbrev pub trait_method : ℕ → Word → Option TraitDef → Option Method
trait_method trait_no name None = None
trait_method trait_no name (Some def) =
    option_and_then (λ k. option_map (OfTrait trait_no k) (slice_get def.methods k))
    (position_of (λ m. bytes_eq m.name name) def.methods)

abbrev pub method_in : ItemTable → Word → Option Ty → Option Method
method_in items name (Some (Ty.Adt n)) =
    option_and_then (λ body. with_head items body (slice_get items.bodies body)) (method_of items n name)
method_in items name (Some (Ty.Dyn n)) = trait_method n name (slice_get items.traits n)
method_in items name _ = None

abbrev pub method_named : Word → ItemTable → TyId → Option Method
method_named name items ty = method_in items name (type_at items ty)
