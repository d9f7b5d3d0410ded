-- The definitions over forms that are borrowed from a tree: `None` is a node that is none of the sort.
use Rattle.std.specs.Prelude.{Bool, false, Option, Some, None}
use Rattle.mir_ty.specs.ItemTable.{ItemTable}
use Rattle.src_ast.specs.Syntax.{Pattern}
use Rattle.typing_rules.specs.Typed.{is_one_name_form, takes_any_form}

abbrev pub one_name_as : ItemTable → Option Pattern → Bool
one_name_as items None = false
one_name_as items (Some p) = is_one_name_form items p

abbrev pub any_as : Option Pattern → Bool
any_as None = false
any_as (Some p) = takes_any_form p
