-- What contracts see of locals, and of what nodes are asked for.
use Rattle.std.specs.Prelude.{ℕ, true, false, List, [], ◌∷◌, ◌++◌, map}
use Rattle.mir_ty.specs.declared.ty.TyId.{TyId}
use Rattle.mir_ty.specs.ItemTable.{ItemTable}
use Rattle.src_meaning.specs.Locals.OfBody.{cells, reached_cells, cells_in, param_key}
use Rattle.src_meaning.specs.Scopes.{Entry}
use Rattle.typed_tree.specs.Tree.{Node, node, Form, MaybeNode, absent, present, Binding, ParamTree}
use Rattle.lower_locals.specs.declared.local.Local.{Local}
use Rattle.lower_locals.specs.declared.own.AskedAs.{AskedAs}

abbrev pub entry_of : Local → Entry
entry_of local = record { key = local.key.0; ty = local.ty }

abbrev pub key_of : Local → ℕ
key_of local = local.key.0

-- the locals of a node that is asked for in one of the three ways, and of the nodes in it
abbrev pub locals_of : ItemTable → AskedAs → Node → List Entry
locals_of items AskedAs.Own = cells items true
locals_of items AskedAs.Around = cells items false
locals_of items AskedAs.Reached = reached_cells items

abbrev pub locals_if_any : ItemTable → AskedAs → MaybeNode → List Entry
locals_if_any items asked absent = []
locals_if_any items asked (present value) = locals_of items asked value

-- the value of a `let` of one name is made in the local of the name
abbrev pub asked_of_initialiser : Form → AskedAs
asked_of_initialiser (Binding name) = AskedAs.Around
asked_of_initialiser form = AskedAs.Reached

-- the local of a parameter, and those of the nodes in the pattern of each
abbrev pub param_entry : ParamTree → Entry
param_entry param = record { key = param_key param; ty = param.ty }

abbrev pub inside : ItemTable → Node → List Entry
inside items (node id at ty by form) = cells_in items form

abbrev pub inside_params : ItemTable → List ParamTree → List Entry
inside_params items [] = []
inside_params items (param ∷ params) = inside items param.pattern ++ inside_params items params

abbrev pub keys : List Entry → List ℕ
keys entries = map (λ e. e.key) entries

abbrev pub tys : List Entry → List TyId
tys entries = map (λ e. e.ty) entries
