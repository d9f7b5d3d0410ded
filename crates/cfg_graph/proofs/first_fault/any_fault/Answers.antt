use Rattle.std.proofs.Common.{refl}
use Rattle.cfg_graph.proofs.first_fault.any_fault.Goals as goal

pub fault_with_room-requires-clause-exists : goal.fault_with_room-requires-clause-exists
fault_with_room-requires-clause-exists c = c.if-types-gt-MOST_TYPES.false

pub fault_with_room-requires-clause-misplaced : goal.fault_with_room-requires-clause-misplaced
fault_with_room-requires-clause-misplaced c = c.if-types-gt-MOST_TYPES.false

pub fault_with_room-requires-clause-finite : goal.fault_with_room-requires-clause-finite
fault_with_room-requires-clause-finite c = c.if-types-gt-MOST_TYPES.false

pub slice_bounds-fault_with_room-end : goal.slice_bounds-fault_with_room-end
slice_bounds-fault_with_room-end c = refl

pub slice_bounds-fault_with_room-end-2 : goal.slice_bounds-fault_with_room-end-2
slice_bounds-fault_with_room-end-2 c = refl

pub slice_bounds-fault_with_room-end-3 : goal.slice_bounds-fault_with_room-end-3
slice_bounds-fault_with_room-end-3 c = refl
