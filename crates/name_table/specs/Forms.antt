-- The definitions over forms that are borrowed from a tree: `None` is a node that is none of the sort.
use Rattle.std.specs.Prelude.{ℕ, ◌+◌, List, [], ◌∷◌, ◌++◌, ◌||◌, not, length, map, slice_get, Option, Some, None, Bool, if◌then◌else◌, codes, ◌&&◌}
use Rattle.mir_base.specs.declared.place_in_text.Pos.{Pos}
use Rattle.mir_base.specs.declared.rule.Rule.{Rule}
use Rattle.mir_ty.specs.Facts.{is_copy}
use Rattle.mir_ty.specs.ItemTable.{ItemTable, with_trait}
use Rattle.mir_ty.specs.declared.adt.Adt.{Adt}
use Rattle.std.specs.List.{list_all}
use Rattle.mir_ty.specs.declared.ty.Ty.{Ty}
use Rattle.typeck_heads.specs.Forms.{struct_by, enum_by}
use Rattle.src_ast.specs.Syntax.{Word, Named, Syn, Item, StructItem, EnumItem, TraitItem, ImplItem, FnItem, Syns, list_of}
use Rattle.src_ast.specs.View.{view, named}
use Rattle.std.specs.Borrow.{Bor}
use Rattle.name_table.specs.declared.known_names.NameSort.{NameSort}
use Rattle.name_table.specs.declared.known_names.ImplNames.{ImplNames}
use Rattle.src_ast.specs.Seen.{syn_of, word_of}
use Rattle.src_tree.specs.View.{Single, a_token, a_node, layout_of}
use Rattle.src_tree.specs.declared.node.SyntaxNode.{SyntaxNode}
use Rattle.src_tree.specs.declared.row.GrammarRow.{GrammarRow}
use Rattle.typing_rules.specs.Check.{Check, pure, obeys, known, interned, the_items, each_checked, ◌>>=◌, ◌>>◌}
use Rattle.typing_rules.specs.Collected as walk
use Rattle.typing_rules.specs.Collected.{item_name, impl_head, drop_owner, is_drop, is_dropped, impl_added, names_alone, trait_head, added, item_head, body_sigs, may_derive, is_finite}
use Rattle.typing_rules.specs.Items.{ItemSyn, bodies_in, impl_owner, is_body_row, body_path, adt_name, trait_name, own_name, method_path}
use Rattle.typing_rules.specs.Written.{number_of}
use Rattle.well_typed.specs.Names.{is_among, built_in}

-- ---- names of items

abbrev pub item_name_by : Option Item → Option Named
item_name_by None = None
item_name_by (Some (StructItem derives name kind fields)) = Some name
item_name_by (Some (EnumItem derives name variants)) = Some name
item_name_by (Some (TraitItem name heads)) = Some name
item_name_by (Some (FnItem name params answer block)) = Some name
item_name_by (Some _) = None

abbrev pub name_in_piece : Single → Option Named
name_in_piece (a_token t) = None
name_in_piece (a_node g) = item_name (view g)

abbrev pub with_name_by : Option Named → List Word → Check (List Word)
with_name_by None seen = pure seen
with_name_by (Some n) seen = do
  obeys Rule.T02 n.0 (not (is_among n.1 seen || is_among n.1 built_in))
  pure (seen ++ n.1 ∷ [])

-- ---- one item

abbrev pub adt_name_by : Option Item → Option Word
adt_name_by (Some (StructItem derives name kind fields)) = Some name.1
adt_name_by (Some (EnumItem derives name variants)) = Some name.1
adt_name_by _ = None

abbrev pub trait_name_by : Option Item → Option Word
trait_name_by (Some (TraitItem name heads)) = Some name.1
trait_name_by _ = None

abbrev pub owner_by : Option Item → Option Word
owner_by (Some (ImplItem trait_ name methods)) = Some name.1
owner_by _ = None

-- the owner of an impl of a trait, if that is `Drop`
abbrev pub owner_if_drop : Option Named → Named → Option Word
owner_if_drop None name = None
owner_if_drop (Some trait_) name = if is_drop trait_.1 then Some name.1 else None

abbrev pub drop_owner_by : Option Item → Option Word
drop_owner_by (Some (ImplItem trait_ name methods)) = owner_if_drop trait_ name
drop_owner_by _ = None

abbrev pub adt_item_by : Pos → Option Item → Option (Pos × List Named)
adt_item_by at (Some (StructItem ds name kind fields)) = Some (at, ds)
adt_item_by at (Some (EnumItem ds name variants)) = Some (at, ds)
adt_item_by at _ = None

-- a trait with this number
abbrev pub trait_at : walk.Known → ℕ → Word → Syns → Check (Unit {0})
trait_at k number name heads = do
  own ← interned (Ty.Dyn number)
  sigs ← each_checked (trait_head (names_alone k None) own) (list_of heads)
  added (λ items. with_trait items (record { name = name; methods = sigs }))

abbrev pub trait_by : walk.Known → Word → Syns → Check (Unit {0})
trait_by k name heads = λ s. trait_at k (length s.items.traits) name heads s

abbrev pub head_by : walk.Known → Option Item → Check (Unit {0})
head_by k (Some (StructItem ds name kind fields)) = struct_by k ds name.1 fields
head_by k (Some (EnumItem ds name variants)) = enum_by k ds name.1 variants
head_by k (Some (TraitItem name heads)) = trait_by k name.1 heads
head_by k (Some (ImplItem trait_ name methods)) = impl_head k trait_ name
head_by k _ = pure tt

abbrev pub impl_by : walk.Known → Option Item → Check (Unit {0})
impl_by k (Some (ImplItem (Some trait_) name methods)) =
    if is_drop trait_.1 then pure tt else (do
      n ← known Rule.T01 trait_.0 (number_of k.traits trait_.1)
      adt ← known Rule.T01 name.0 (number_of k.adts name.1)
      impl_added k n adt trait_.1 name.1)
impl_by k _ = pure tt

-- ---- the items of a text

-- what a part tells as an item; a token tells nothing
abbrev pub told_by : {A : Type 0} → (Syn → Option A) → Single → Option A
told_by f (a_token t) = None
told_by f (a_node g) = f (view g)

-- a node as an item, with the bodies in it
abbrev pub item_of_node : SyntaxNode → ItemSyn
item_of_node n = record { item = syn_of n; bodies = bodies_in (layout_of n) }

-- an item with its own head, and the bodies in it
abbrev pub item_added : walk.Known → walk.Count → ItemSyn → Check walk.Count
item_added k c i = do
  item_head k i.item
  body_sigs k (impl_owner i.item) c i.bodies

abbrev pub piece_added : walk.Known → walk.Count → Single → Check walk.Count
piece_added k c (a_token t) = pure c
piece_added k c (a_node g) = item_added k c (record { item = view g; bodies = bodies_in g })

-- how many traits there are behind an item that is one of this name
abbrev pub one_more : Option Word → ℕ → ℕ
one_more None n = n
one_more (Some name) n = n + 1

-- ---- names and paths by their sorts

abbrev pub sought : NameSort → Syn → Option Word
sought NameSort.Adts = adt_name
sought NameSort.Traits = trait_name
sought NameSort.Dropped = drop_owner

abbrev pub paths_in_piece : Single → List Word
paths_in_piece (a_token t) = []
paths_in_piece (a_node g) = map (body_path (view g)) (bodies_in g)

-- the path of a name in an item
abbrev pub path_by : Option Item → Word → Word
path_by (Some (ImplItem (Some trait_) owner methods)) name = method_path owner.1 trait_.1 name
path_by (Some (ImplItem None owner methods)) name = codes "<" ++ owner.1 ++ codes ">::" ++ name
path_by _ name = name

abbrev pub path_around : Option Word → Option Word → Word → Word
path_around (Some owner) (Some trait_) name = method_path owner trait_ name
path_around (Some owner) None name = codes "<" ++ owner ++ codes ">::" ++ name
path_around None trait_ name = name

-- in an impl of these names, or in none
abbrev pub path_within : ImplNames → Word → Word
path_within names name = path_around (word_of names.owner) (word_of names.trait_) name

abbrev pub trait_named : Option (Bor SyntaxNode) → Option Word
trait_named None = None
trait_named (Some name) = Some (named (syn_of name.now)).1

abbrev pub path_if : ImplNames → Option Word → Word
path_if names None = []
path_if names (Some name) = path_within names name

abbrev pub path_of_body : ImplNames → Syn → Word
path_of_body names body = path_if names (own_name body)

abbrev pub own_name_by : Option Item → Option Word
own_name_by (Some (FnItem name params answer block)) = Some name.1
own_name_by _ = None

-- what is found of a node that is a body itself
abbrev pub own_paths : (Syn → Word) → GrammarRow → Syn → List Word
own_paths f row x = if is_body_row row then f x ∷ [] else []

-- ---- one behind another

-- each of some things in its order, for what it leaves alone
abbrev pub each_done : {A : Type 0} → (A → Check (Unit {0})) → List A → Check (Unit {0})
each_done f [] = pure tt
each_done f (x ∷ xs) = f x >> each_done f xs

abbrev pub done_in : (Syn → Check (Unit {0})) → Single → Check (Unit {0})
done_in f (a_token t) = pure tt
done_in f (a_node g) = f (view g)

abbrev pub impl_named : walk.Known → Named → Named → Check (Unit {0})
impl_named k trait_ name =
    if is_drop trait_.1 then pure tt else (do
      n ← known Rule.T01 trait_.0 (number_of k.traits trait_.1)
      adt ← known Rule.T01 name.0 (number_of k.adts name.1)
      impl_added k n adt trait_.1 name.1)

-- ---- structs and enums, each with its number

abbrev pub Adt_ : Type 0
Adt_ = Pos × List Named

-- a struct or an enum derives what it may; the number of the next one
abbrev pub derives_by : List Word → ℕ → Option Adt_ → Check ℕ
derives_by dropped n None = pure n
derives_by dropped n (Some a) = do
  items ← the_items
  obeys Rule.T10 a.0 (may_derive items dropped a.1 (slice_get items.adts n))
  pure (n + 1)

abbrev pub can_copy : ItemTable → List Word → Adt → Bool
can_copy items dropped adt =
    not (is_dropped dropped adt) && list_all (λ v. list_all (is_copy items) v.fields) adt.variants

abbrev pub impl_of_names : walk.Known → Option Named → Named → Check (Unit {0})
impl_of_names k None name = pure tt
impl_of_names k (Some trait_) name = impl_named k trait_ name

-- a struct or an enum has a finite size; the number of the next one
abbrev pub finite_by : ℕ → Option Adt_ → Check ℕ
finite_by n None = pure n
finite_by n (Some a) = do
  is_finite n a.0
  pure (n + 1)

-- a struct or an enum has a number as a type; the number of the next one
abbrev pub numbered_by : ℕ → Option Adt_ → Check ℕ
numbered_by n None = pure n
numbered_by n (Some a) = do
  interned (Ty.Adt n)
  pure (n + 1)

-- all of them have numbers as types
abbrev pub all_numbered : ℕ → List Adt_ → Check (Unit {0})
all_numbered n [] = pure tt
all_numbered n (a ∷ as_) = interned (Ty.Adt n) >> all_numbered (n + 1) as_
