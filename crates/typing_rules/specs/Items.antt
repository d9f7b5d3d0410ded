-- What a text's items are by their names: which structs and enums, traits and bodies there are, in the order of their
-- numbers, before any type is looked at.
use Rattle.std.specs.Prelude.{ℕ, Bool, true, false, List, [], ◌∷◌, ◌++◌, map, Option, Some, None, codes, if◌then◌else◌}
use Rattle.std.specs.List.{position as position_of, filter_map, flat_map}
use Rattle.std.specs.Str.{bytes_eq}
use Rattle.mir_base.specs.declared.place_in_text.Pos.{Pos}
use Rattle.src_tree.specs.declared.row.GrammarRow.{GrammarRow}
use Rattle.src_tree.specs.Layout as layout
use Rattle.src_tree.specs.Layout.{node, Parts, end, tok, sub}
use Rattle.src_ast.specs.Syntax.{Word, number_word, FieldsKind, Unit_, Syn, syn, AnItem, AParam, AVariant, StructItem, EnumItem, TraitItem, ImplItem, FnItem, SelfParam, Syns, no_syn, a_syn, list_of}
use Rattle.src_ast.specs.View.{view}

-- ---- structs, enums and traits

abbrev pub adt_name : Syn → Option Word
adt_name (syn at (AnItem (StructItem derives name kind fields))) = Some name.1
adt_name (syn at (AnItem (EnumItem derives name variants))) = Some name.1
adt_name _ = None

abbrev pub trait_name : Syn → Option Word
trait_name (syn at (AnItem (TraitItem name heads))) = Some name.1
trait_name _ = None

abbrev variant_kind : Syn → FieldsKind
variant_kind (syn at (AVariant name kind fields)) = kind
variant_kind _ = Unit_

abbrev variant_kinds : Syns → List FieldsKind
variant_kinds no_syn = []
variant_kinds (a_syn first rest) = variant_kind first ∷ variant_kinds rest

abbrev kinds_of : Syn → Option (List FieldsKind)
kinds_of (syn at (AnItem (StructItem derives name kind fields))) = Some (kind ∷ [])
kinds_of (syn at (AnItem (EnumItem derives name variants))) = Some (variant_kinds variants)
kinds_of _ = None

abbrev pub adt_names : List Syn → List Word
adt_names items = filter_map adt_name items

abbrev pub trait_names : List Syn → List Word
trait_names items = filter_map trait_name items

abbrev pub all_kinds : List Syn → List (List FieldsKind)
all_kinds items = filter_map kinds_of items

-- ---- bodies

abbrev pub is_body_row : GrammarRow → Bool
is_body_row GrammarRow.Fn = true
is_body_row GrammarRow.Method = true
is_body_row GrammarRow.Closure = true
is_body_row _ = false

abbrev pub with_body : Bool → Syn → List Syn → List Syn
with_body true body bodies = body ∷ bodies
with_body false body bodies = bodies

-- functions, methods and closures in text order: one before those inside it
abbrev mutual
  pub bodies_in : layout.SyntaxNode Pos → List Syn
  bodies_in (node at row parts) = with_body (is_body_row row) (view (node at row parts)) (bodies_among parts)

  pub bodies_among : Parts Pos → List Syn
  bodies_among end = []
  bodies_among (tok t rest) = bodies_among rest
  bodies_among (sub g rest) = bodies_in g ++ bodies_among rest

-- an item with its bodies
pub record ItemSyn : Type 0 where
  pub item : Syn
  pub bodies : List Syn

abbrev pub items_of : Parts Pos → List ItemSyn
items_of end = []
items_of (tok t rest) = items_of rest
items_of (sub g rest) = record { item = view g; bodies = bodies_in g } ∷ items_of rest

abbrev pub item_syns : List ItemSyn → List Syn
item_syns items = map (λ i. i.item) items

abbrev pub impl_owner : Syn → Option Word
impl_owner (syn at (AnItem (ImplItem trait_ name methods))) = Some name.1
impl_owner _ = None

abbrev pub own_name : Syn → Option Word
own_name (syn at (AnItem (FnItem name params answer block))) = Some name.1
own_name _ = None

-- a body by its path (The Rust Reference, "Paths"): `<S as T>::m` of the method of an impl of a trait, `<S>::m` of
-- another method, and a function's own name; a closure has none
abbrev pub method_path : Word → Word → Word → Word
method_path owner trait_ name = codes "<" ++ owner ++ codes " as " ++ trait_ ++ codes ">::" ++ name

abbrev pub path_in : Syn → Word → Word
path_in (syn at (AnItem (ImplItem (Some trait_) owner methods))) name = method_path owner.1 trait_.1 name
path_in (syn at (AnItem (ImplItem None owner methods))) name = codes "<" ++ owner.1 ++ codes ">::" ++ name
path_in _ name = name

abbrev pub path_or_none : Syn → Option Word → Word
path_or_none item None = []
path_or_none item (Some name) = path_in item name

abbrev pub body_path : Syn → Syn → Word
body_path item body = path_or_none item (own_name body)

abbrev pub body_paths : List ItemSyn → List Word
body_paths items = flat_map (λ i. map (body_path i.item) i.bodies) items

-- the body of a method of an impl of a trait
abbrev pub method_body : List Word → Word → Word → Word → Option ℕ
method_body paths owner trait_ name = position_of (bytes_eq (method_path owner trait_ name)) paths

abbrev pub drop_body : List Word → Word → Option ℕ
drop_body paths owner = method_body paths owner (codes "Drop") (codes "drop")

-- the name of a body: a function's own, `S::m` of a method, `f::closure#1` of a closure in f
abbrev pub full_name : Option Word → Word → Word
full_name None name = name
full_name (Some owner) name = owner ++ codes "::" ++ name

abbrev pub closure_name : Word → ℕ → Word
closure_name outer k = outer ++ codes "::closure#" ++ number_word k

-- ---- methods with `self`

abbrev pub is_self : Syn → Bool
is_self (syn at (AParam (SelfParam receiver))) = true
is_self _ = false

abbrev pub has_self : Syns → Bool
has_self no_syn = false
has_self (a_syn first rest) = is_self first

abbrev pub self_method : Word → Syn → List Word
self_method owner (syn at (AnItem (FnItem name params answer block))) =
    if has_self params then full_name (Some owner) name.1 ∷ [] else []
self_method owner _ = []

abbrev pub self_methods_of : Syn → List Word
self_methods_of (syn at (AnItem (ImplItem trait_ owner methods))) = flat_map (self_method owner.1) (list_of methods)
self_methods_of _ = []

-- the methods of impls that have `self`, by their names
abbrev pub self_methods : List Syn → List Word
self_methods items = flat_map self_methods_of items
