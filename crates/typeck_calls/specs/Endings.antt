-- How calls of functions, constructors and built-ins end behind their arguments: each by the end of its row.
use Rattle.std.specs.Prelude.{ℕ, Bool, true, ◌==◌, not, length, Option}
use Rattle.mir_base.specs.declared.int_kind.IntKind.{IntKind}
use Rattle.mir_base.specs.declared.place_in_text.Pos.{Pos}
use Rattle.mir_base.specs.declared.rule.Rule.{Rule}
use Rattle.mir_ty.specs.declared.ty.TyId.{TyId}
use Rattle.typed_tree.specs.Tree as tree
use Rattle.typed_tree.specs.Tree.{Node, Nodes}
use Rattle.typing_rules.specs.Check.{Check, breaks}
use Rattle.typing_rules.specs.Places.{int, unit}
use Rattle.typing_rules.specs.Rows as rows
use Rattle.typing_rules.specs.Rows.{box_by, call_end, counted_call_end, first_node}
use Rattle.typeck_calls.specs.declared.resolve.ResolvedCall.{ResolvedCall}
use Rattle.typeck_calls.specs.declared.resolve.CallEnding.{CallEnding}

-- with its arguments, of which there are so many, and whether that is as many as parameters
abbrev pub ending_end : ℕ → Pos → Option TyId → CallEnding → Bool → ℕ → Nodes → Check Node
ending_end id at expected (CallEnding.Function body answer is_drop) is_count count given =
    call_end id at answer (tree.Call body given) is_count (not is_drop) expected
ending_end id at expected (CallEnding.Make adt variant ty) is_count count given =
    call_end id at ty (rows.make adt variant given) is_count true expected
ending_end id at expected CallEnding.Print is_count count given =
    counted_call_end id at unit (rows.print_form given) Rule.T04 (count == 1) expected
ending_end id at expected CallEnding.Ask is_count count given =
    counted_call_end id at (int IntKind.I32) (rows.ask_form given) Rule.T04 (count == 0) expected
ending_end id at expected CallEnding.DropValue is_count count given =
    counted_call_end id at unit (rows.drop_form given) Rule.T04 (count == 1) expected
ending_end id at expected CallEnding.Forget is_count count given =
    counted_call_end id at unit (rows.forget_form given) Rule.T04 (count == 1) expected
ending_end id at expected (CallEnding.NewBox content) is_count count given =
    box_by at id count expected content (first_node given)
ending_end id at expected CallEnding.Refused is_count count given = breaks Rule.T13 at

abbrev pub resolved_end : Pos → Option TyId → ResolvedCall → Node → ℕ → Nodes → Check Node
resolved_end at expected b last count given = ending_end b.id.0 at expected b.ending (count == length b.params) count given
