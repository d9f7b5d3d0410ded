-- The variables of a program's bodies: of each local that a pattern binds, the name and the place of the binding.
use Rattle.std.specs.Prelude.{ℕ, suc, List, [], ◌∷◌, ◌++◌, map, Option, Some, None}
use Rattle.mir_ty.specs.ItemTable.{ItemTable}
use Rattle.lower_rules.specs.Sites.{position_of}
use Rattle.src_meaning.specs.Locals.OfBody.{local_keys}
use Rattle.typed_tree.specs.Nodes.{body_nodes, first_with}
use Rattle.typed_tree.specs.Tree.{Node, node, Binding, BodyTree, ProgramTree}
use Rattle.look_places.specs.declared.names.BodyNames.{BodyNames}
use Rattle.look_places.specs.declared.names.Variable.{Variable}

-- the variable that a node binds, whose local is known
abbrev pub variable_of : ℕ → Option Node → List Variable
variable_of local (Some (node id at ty by (Binding name))) = record { local = local; name = name; at = at } ∷ []
variable_of local other = []

-- the variable of a local, by the local's key; a temporary has none
abbrev pub variable_at : List Node → (local key : ℕ) → List Variable
variable_at nodes local key = variable_of local (first_with key nodes)

-- the variables of locals with these keys, the first of which has this number
abbrev pub variables_from : List Node → ℕ → List ℕ → List Variable
variables_from nodes local [] = []
variables_from nodes local (key ∷ keys) = variable_at nodes local key ++ variables_from nodes (suc local) keys

abbrev pub body_names : ItemTable → BodyTree → BodyNames
body_names items tree =
    record {
      at = position_of tree.block;
      variables = variables_from (body_nodes tree) 0 (local_keys items tree);
    }

abbrev pub program_names : ProgramTree → List BodyNames
program_names program = map (body_names program.items) program.bodies
