-- An expression whose place is gone through, where it is no reference variable.
use Rattle.src_ast.specs.Syntax.{Syn}
use Rattle.typed_tree.specs.Tree.{Node}
use Rattle.typing_rules.specs.Check.{Check, ◌>>=◌}
use Rattle.typing_rules.specs.Rows.{no_reference}
use Rattle.typing_rules.specs.Scope.{Env}
use Rattle.typing_rules.specs.Typed.{base_of}

abbrev pub plain_base : Env → Syn → Check Node
plain_base env x = base_of env x >>= no_reference
