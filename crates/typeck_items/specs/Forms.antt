-- The rules of items over forms that are borrowed from a tree, each with the rest of its lines by a name of its own:
-- `None` is a node that is none of the sort.
use Rattle.std.specs.Prelude.{◌≡◌, ℕ, Bool, true, false, ◌&&◌, not, List, [], ◌∷◌, map, nat_le, Option, Some, None, codes, if◌then◌else◌, option_and_then, slice_get}
use Rattle.std.specs.Option.{option_map_or}
use Rattle.std.specs.Str.{bytes_eq}
use Rattle.mir_base.specs.declared.place_in_text.Pos.{Pos}
use Rattle.mir_base.specs.declared.rule.Rule.{Rule}
use Rattle.mir_ty.specs.declared.ty.TyId.{TyId}
use Rattle.mir_ty.specs.ItemTable.{ItemTable}
use Rattle.src_ast.specs.Syntax.{Word, Named, ByShared, ByUnique, Syn, Shape, AField, AVariant, Item, StructItem, EnumItem, TraitItem, ImplItem, FnItem, Param, SelfParam, Syns, MaybeSyn, list_of}
use Rattle.typing_rules.specs.Bodies.{all_rules}
use Rattle.typing_rules.specs.Check.{Check, TypingState, ◌>>=◌, ◌>>◌, pure, breaks, obeys, the_items}
use Rattle.typing_rules.specs.Program.{Before, Seen, asked_for, behind_self, body_head, count_of, fields, has_all, has_head, head_rules, in_impl, is_called_drop, is_drop, is_drop_sig, is_repeated, is_same_head, is_seen, main_rule, method_heads, method_names, takes_reference, takes_unique, trait_heads, trait_method, variants, with_impl}
use Rattle.typing_rules.specs.Scope.{Env, adt_named, body_named, trait_named}
use Rattle.typing_rules.specs.Written.{written}
use Rattle.well_typed.specs.Names.{is_among}

abbrev pub listed : {A : Type 0} → Option A → List A
listed None = []
listed (Some a) = a ∷ []

-- a check for what it leaves alone
abbrev pub done : {A : Type 0} → Check A → Check (Unit {0})
done p = p >>= (λ _. pure tt)

-- a state where a body of its own begins, and one behind it
abbrev pub fresh : TypingState → TypingState
fresh s = record s { next_node = 0; breaks = [] }

abbrev pub with_outside : ℕ → List (ℕ × TyId) → TypingState → TypingState
with_outside next_node breaks s = record s { next_node = next_node; breaks = breaks }

-- ---- fields

abbrev pub once : Pos → Word → List Word → Check (List Word)
once at name earlier = do
  obeys Rule.T02 at (not (is_among name earlier))
  pure (name ∷ earlier)

abbrev pub named_field : Env → Pos → Word → Syn → List Word → Check (List Word)
named_field env at name ty earlier = do
  _ ← written (all_rules env) ty
  once at name earlier

abbrev pub plain_field : Env → Syn → List Word → Check (List Word)
plain_field env ty earlier = do
  _ ← written (all_rules env) ty
  pure earlier

abbrev pub field_by : Env → List Word → Pos → Syn → Option Shape → Check (List Word)
field_by env earlier at x (Some (AField name ty)) = named_field env at name ty earlier
field_by env earlier at x _ = plain_field env x earlier

-- ---- variants

abbrev pub limited_variant : Pos → Word → Syns → List Word → Check (List Word)
limited_variant at name fs earlier = do
  obeys Rule.T19 at (nat_le (count_of fs) 32)
  pure (name ∷ earlier)

abbrev pub closed_variant : Pos → Word → Syns → List Word → Check (List Word)
closed_variant at name fs earlier = do
  obeys Rule.T02 at (not (is_among name earlier))
  limited_variant at name fs earlier

abbrev pub one_variant : Env → Pos → Word → Syns → List Word → Check (List Word)
one_variant env at name fs earlier = do
  fields env [] (list_of fs)
  closed_variant at name fs earlier

abbrev pub variant_by : Env → List Word → Pos → Option Shape → Check (List Word)
variant_by env earlier at (Some (AVariant name kind fs)) = one_variant env at name fs earlier
variant_by env earlier at _ = breaks Rule.T20 at

-- ---- structs and enums

abbrev pub struct_rules : Env → Pos → Word → Syns → Check (Unit {0})
struct_rules env at name fs = do
  items ← the_items
  fields (in_impl env (adt_named items name)) [] (list_of fs)
  obeys Rule.T19 at (nat_le (count_of fs) 32)

abbrev pub enum_rules : Env → Pos → Word → Syns → Check (Unit {0})
enum_rules env at name vs = do
  items ← the_items
  variants (in_impl env (adt_named items name)) [] (list_of vs)
  obeys Rule.T19 at (nat_le (count_of vs) 64)

-- ---- parameters

abbrev pub reference_by : Option Param → Bool
reference_by (Some (SelfParam ByShared)) = true
reference_by (Some (SelfParam ByUnique)) = true
reference_by _ = false

abbrev pub is_unique_by : Option Param → Bool
is_unique_by (Some (SelfParam ByUnique)) = true
is_unique_by _ = false

abbrev pub is_self_by : Option Param → Bool
is_self_by (Some (SelfParam receiver)) = true
is_self_by _ = false

-- ---- the heads of a trait's methods

abbrev pub named_head : Pos → Word → Syns → List Word → Check (List Word)
named_head at name params earlier = do
  obeys Rule.T11 at (takes_reference params && not (bytes_eq name (codes "drop")))
  pure (name ∷ earlier)

abbrev pub closed_head : Pos → Named → Syns → List Word → Check (List Word)
closed_head at name params earlier = do
  obeys Rule.T02 name.0 (not (is_among name.1 earlier))
  named_head at name.1 params earlier

abbrev pub trait_fn : Env → Pos → Named → Syns → MaybeSyn → List Word → Check (List Word)
trait_fn env at name params answer earlier = do
  head_rules env (behind_self params) answer
  closed_head at name params earlier

abbrev pub trait_head_by : Env → List Word → Pos → Option Item → Check (List Word)
trait_head_by env earlier at (Some (FnItem name params answer block)) = trait_fn env at name params answer earlier
trait_head_by env earlier at _ = breaks Rule.T20 at

-- ---- methods

abbrev pub drop_head : ItemTable → Word → Word → Syns → Bool
drop_head items owner name params =
    is_called_drop name && (takes_unique params && is_drop_sig items (body_head items owner name))

abbrev pub method_head : ItemTable → Word → Word → Word → Syns → Bool
method_head items trait_ owner name params =
    not (is_called_drop name) && (takes_reference params && is_same_head items (trait_method items trait_ name) (
    body_head items owner name))

abbrev pub impl_head : ItemTable → Word → Word → Word → Syns → Bool
impl_head items trait_ owner name params =
    if is_drop trait_ then drop_head items owner name params else method_head items trait_ owner name params

abbrev pub closed_method : Option Named → Word → Pos → Named → Syns → Seen → Check Seen
closed_method trait_ owner at name params seen = do
  items ← the_items
  obeys Rule.T02 name.0 (not (is_seen owner name.1 seen))
  obeys Rule.T11 at (has_head items trait_ owner name.1 params)
  pure ((owner, name.1) ∷ seen)

abbrev pub method_fn : Env → Option Named → Word → Pos → Named → Syns → MaybeSyn → Seen → Check Seen
method_fn env trait_ owner at name params answer seen = do
  head_rules env params answer
  closed_method trait_ owner at name params seen

abbrev pub method_by : Env → Option Named → Word → Seen → Pos → Option Item → Check Seen
method_by env trait_ owner seen at (Some (FnItem name params answer block)) =
    method_fn env trait_ owner at name params answer seen
method_by env trait_ owner seen at _ = breaks Rule.T20 at

abbrev pub method_name_by : Option Item → Option Word
method_name_by (Some (FnItem name params answer block)) = Some name.1
method_name_by _ = None

-- ---- impls

abbrev pub asked_of : ItemTable → Option ℕ → List Word
asked_of items trait_no =
    option_map_or (λ def. map (λ m. m.name) def.methods) (option_and_then (slice_get items.traits) trait_no) []

abbrev pub asked_by : ItemTable → Word → List Word
asked_by items trait_ = if is_drop trait_ then codes "drop" ∷ [] else asked_of items (trait_named items trait_)

abbrev pub impl_rules : Env → Before → Pos → Option Named → Word → Syns → Check Before
impl_rules env before at trait_ owner methods = do
  items ← the_items
  seen ← method_heads (in_impl env (adt_named items owner)) trait_ owner before.methods (list_of methods)
  obeys Rule.T11 at (not (is_repeated trait_ owner before.impls) && has_all (asked_for items trait_) (method_names
      methods))
  pure (record { methods = seen; impls = with_impl trait_ owner before.impls })

-- ---- functions

abbrev pub fn_rules : Env → Pos → Word → Syns → MaybeSyn → Check (Unit {0})
fn_rules env at name params answer = do
  head_rules env params answer
  items ← the_items
  main_rule at name params items (option_and_then (slice_get items.bodies) (body_named items name))

-- ---- items

abbrev pub item_by : Env → Before → Pos → Option Item → Check Before
item_by env before at (Some (StructItem ds name kind fs)) = struct_rules env at name.1 fs >> pure before
item_by env before at (Some (EnumItem ds name vs)) = enum_rules env at name.1 vs >> pure before
item_by env before at (Some (TraitItem name heads)) = trait_heads env [] (list_of heads) >> pure before
item_by env before at (Some (ImplItem trait_ name methods)) = impl_rules env before at trait_ name.1 methods
item_by env before at (Some (FnItem name params answer block)) = fn_rules env at name.1 params answer >> pure before
item_by env before at _ = breaks Rule.T20 at
