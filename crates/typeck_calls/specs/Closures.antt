-- Closures that are called, in Rust as the rules of typing see them.
use Rattle.std.specs.Prelude.{ℕ, Bool, ◌==◌, [], drop, length, Option, Some, None, option_and_then, option_map, slice_get}
use Rattle.mir_base.specs.declared.place_in_text.Pos.{Pos}
use Rattle.mir_base.specs.declared.rule.Rule.{Rule}
use Rattle.mir_ty.specs.ItemTable.{ItemTable}
use Rattle.mir_ty.specs.declared.def.Sig.{Sig}
use Rattle.mir_ty.specs.declared.ty.TyId.{TyId}
use Rattle.typed_tree.specs.Tree as tree
use Rattle.typed_tree.specs.Tree.{Node, Nodes}
use Rattle.typing_rules.specs.Check.{Check, breaks}
use Rattle.typing_rules.specs.Rows.{counted_call_end}
use Rattle.well_typed.specs.Types.{closure_of}
use Rattle.typeck_calls.specs.declared.closures.CalledClosure.{CalledClosure}
use Rattle.typeck_calls.specs.declared.closures.ClosureCallee.{ClosureCallee}

-- the body of a closure of this type
abbrev pub body_seen : ItemTable → TyId → Option ℕ
body_seen items ty = option_map (λ def. def.body) (option_and_then (slice_get items.closures) (closure_of items ty))

-- a closure with this body, by its head
abbrev pub closure_seen : ℕ → Option Sig → ClosureCallee
closure_seen body None = record { called = None; params = [] }
closure_seen body (Some head) =
    record { called = Some (record { body = body; answer = head.result }); params = drop 1 head.params }

-- ---- how a call of a closure ends behind its arguments

abbrev pub called_end : ℕ → Pos → Option TyId → Option CalledClosure → Bool → Node → Nodes → Check Node
called_end id at expected None is_count c given = breaks Rule.T13 at
called_end id at expected (Some called) is_count c given =
    counted_call_end id at called.answer (tree.ClosureCall called.body c given) Rule.T04 is_count expected

abbrev pub callee_end : ℕ → Pos → Option TyId → ClosureCallee → Node → ℕ → Nodes → Check Node
callee_end id at expected callee c count given = called_end id at expected callee.called (count == length callee.params) c given
