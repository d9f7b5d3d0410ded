-- The definitions over forms that are borrowed from a tree: `None` is a node that is none of the sort.
use Rattle.std.specs.Prelude.{Bool, false, List, Option, Some, None, if◌then◌else◌}
use Rattle.mir_base.specs.declared.place_in_text.Pos.{Pos}
use Rattle.mir_base.specs.declared.rule.Rule.{Rule}
use Rattle.mir_ty.specs.declared.ty.TyId.{TyId}
use Rattle.src_ast.specs.Syntax.{Syn, syn, AParam, Pattern, Param}
use Rattle.typed_tree.specs.Tree.{ParamTree}
use Rattle.typing_rules.specs.Bodies.{all_rules, is_name_or_wildcard_form, param}
use Rattle.typing_rules.specs.Check.{Check, breaks}
use Rattle.typing_rules.specs.Scope.{Env, NamedEntry}
use Rattle.typing_rules.specs.Written.{written, written_param}

abbrev pub plain_as : Option Pattern → Bool
plain_as None = false
plain_as (Some p) = is_name_or_wildcard_form p

-- the type of a parameter, which may be a reference or not
abbrev pub type_by : Env → Bool → Syn → Check TyId
type_by env may_refer ty = if may_refer then written_param (all_rules env) ty else written (all_rules env) ty

abbrev pub param_as : Env → Bool → Pos → Option Param → List NamedEntry → Check (ParamTree × List NamedEntry)
param_as env may_refer at None earlier = breaks Rule.T20 at
param_as env may_refer at (Some p) earlier = param env (type_by env may_refer) (syn at (AParam p)) earlier
