use Rattle.std.proofs.Common.{[], ◌<◌, ◌^◌, ◌∙◌, arith, refl}
use Rattle.mir_ty.specs.Parts.{held_by}
use Rattle.cfg_graph.proofs.AskedOfLists.{told_of_all, told_by_rounds}
use Rattle.cfg_graph.proofs.type_faults.is_held.Goals as goal

pub returns-then-types-gt-MOST_TYPES : goal.returns-then-types-gt-MOST_TYPES
returns-then-types-gt-MOST_TYPES c =
    c.any_held.ensures
    ∙ told_of_all c.args.items.now c.args.question (held_by c.args.items.now c.args.ty.now) [] c.args.types (told_by_rounds c.args.items.now c.args.question c.args.types c.requires)

most_is_few : 131072 < 2 ^ 32
most_is_few = omega arith

pub is_held_by-requires-clause-few : goal.is_held_by-requires-clause-few
is_held_by-requires-clause-few c = most_is_few

pub is_held_by-requires-clause-within : goal.is_held_by-requires-clause-within
is_held_by-requires-clause-within c = c.if-types-gt-MOST_TYPES.false

pub slice_bounds-is_held_by-end : goal.slice_bounds-is_held_by-end
slice_bounds-is_held_by-end c = refl
