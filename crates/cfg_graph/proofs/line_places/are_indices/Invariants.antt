use Rattle.std.proofs.Common.{◌≡◌, ℕ, drop, slice_get, option_and_then}
use Rattle.std.specs.List.{list_all}
use Rattle.mir_base.specs.declared.int_kind.IntKind.{IntKind}
use Rattle.mir_ty.specs.ItemTable.{type_at}
use Rattle.store_model.specs.Places.TypeForms.{is_int}
use Rattle.cfg_graph.specs.Places.{index_locals}
use Rattle.cfg_graph.proofs.line_places.are_indices.Given as goal

abbrev pub invariant-loop-step : goal.invariant-loop-step
invariant-loop-step l =
    list_all (λ (local : ℕ). is_int IntKind.Usize (option_and_then (type_at l.items) (slice_get l.locals local))) (index_locals l.steps)
    ≡ list_all (λ (local : ℕ). is_int IntKind.Usize (option_and_then (type_at l.items) (slice_get l.locals local))) (index_locals (drop l.step-index l.steps))
