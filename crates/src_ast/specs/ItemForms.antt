-- The forms of items, as they are borrowed from a tree.
use Rattle.std.specs.Prelude.{Bool, true, false, Option, Some, None}
use Rattle.std.specs.Borrow.{Bor}
use Rattle.src_tree.specs.declared.node.SyntaxNode.{SyntaxNode}
use Rattle.src_ast.specs.declared.item.FieldKind.{FieldKind}
use Rattle.src_ast.specs.declared.item.Function.{Function}
use Rattle.src_ast.specs.declared.item.ItemForm.{ItemForm}
use Rattle.src_ast.specs.Seen.{syn_of, nodes_of, maybe_of}
use Rattle.src_ast.specs.Syntax.{Named, FieldsKind, Unit_, Tuple_, Fields_, Shape, AnItem, Item, StructItem, EnumItem, TraitItem, ImplItem, FnItem, Syns, nothing, just}
use Rattle.src_ast.specs.View.{named, idents, behind_params, but_last, last_of}

abbrev pub kind_seen : FieldKind → FieldsKind
kind_seen FieldKind.Unit = Unit_
kind_seen FieldKind.Tuple = Tuple_
kind_seen FieldKind.Named = Fields_

abbrev pub name_seen : Option (Bor SyntaxNode) → Option Named
name_seen None = None
name_seen (Some n) = Some (named (syn_of n.now))

abbrev pub function_of : Function → Item
function_of f = FnItem (named (syn_of f.name.now)) (nodes_of f.params) (maybe_of f.answer) (maybe_of f.block)

-- behind the name of a function: parameters, a type where there is an arrow, a block or none
abbrev pub with_block_of : Bool → Named → Syns → Shape
with_block_of has_answer name behind =
    behind_params has_answer (λ params answer block. AnItem (FnItem name params answer (just block))) behind

abbrev pub without_block_of : Bool → Named → Syns → Item
without_block_of true name behind = FnItem name (but_last behind) (last_of behind) nothing
without_block_of false name behind = FnItem name behind nothing nothing

abbrev pub item_of : ItemForm → Option Item
item_of (ItemForm.Struct derives name kind fields) =
    Some (StructItem (idents (nodes_of derives)) (named (syn_of name.now)) (kind_seen kind) (nodes_of fields))
item_of (ItemForm.Enum derives name variants) =
    Some (EnumItem (idents (nodes_of derives)) (named (syn_of name.now)) (nodes_of variants))
item_of (ItemForm.Trait name heads) = Some (TraitItem (named (syn_of name.now)) (nodes_of heads))
item_of (ItemForm.Impl trait_ name methods) =
    Some (ImplItem (name_seen trait_) (named (syn_of name.now)) (nodes_of methods))
item_of (ItemForm.Fn function) = Some (function_of function)
item_of ItemForm.Other = None
