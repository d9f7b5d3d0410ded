-- The methods of impls that have `self`, over forms that are borrowed from a tree: `None` is a node that is none of the
-- sort.
use Rattle.std.specs.Prelude.{Bool, true, false, List, [], ◌∷◌, Option, Some, None, if◌then◌else◌}
use Rattle.std.specs.List.{flat_map}
use Rattle.src_ast.specs.Syntax.{Word, Item, ImplItem, FnItem, Param, SelfParam, list_of}
use Rattle.src_ast.specs.View.{view}
use Rattle.src_tree.specs.View.{Single, a_token, a_node}
use Rattle.typing_rules.specs.Items.{full_name, has_self, self_method, self_methods_of}

abbrev pub is_self_by : Option Param → Bool
is_self_by (Some (SelfParam receiver)) = true
is_self_by _ = false

abbrev pub self_method_by : Word → Option Item → List Word
self_method_by owner (Some (FnItem name params answer block)) =
    if has_self params then full_name (Some owner) name.1 ∷ [] else []
self_method_by owner _ = []

abbrev pub self_methods_by : Option Item → List Word
self_methods_by (Some (ImplItem trait_ owner methods)) = flat_map (self_method owner.1) (list_of methods)
self_methods_by _ = []

abbrev pub self_methods_at : Single → List Word
self_methods_at (a_token t) = []
self_methods_at (a_node g) = self_methods_of (view g)
