use Rattle.std.proofs.Common.{◌≡◌, ◌++◌, drop, map}
use Rattle.src_tree.specs.View.{parts_in}
use Rattle.typing_rules.specs.Items.{bodies_among}
use Rattle.name_table.specs.Forms.{path_of_body}
use Rattle.name_table.proofs.known_names.+paths.Given as goal

abbrev pub invariant-add_inner-loop-piece : goal.invariant-add_inner-loop-piece
invariant-add_inner-loop-piece l =
    l.fn.table ++ map (path_of_body l.names) (bodies_among (parts_in l.pieces))
    ≡ l.table ++ map (path_of_body l.names) (bodies_among (parts_in (drop l.piece-index l.pieces)))
