-- The first of some names, as it is borrowed from a tree.
use Rattle.std.specs.Prelude.{List, [], ◌∷◌, Option, Some, None}
use Rattle.src_ast.specs.Seen.{nodes_of}
use Rattle.src_ast.specs.Syntax.{Named}
use Rattle.src_ast.specs.View.{idents}
use Rattle.typeck_bodies.specs.declared.names.FirstName.{FirstName}

-- the first, and the names behind it
abbrev pub by_name : Option FirstName → List Named
by_name None = []
by_name (Some first) = (first.at, first.name.now) ∷ idents (nodes_of first.rest)
