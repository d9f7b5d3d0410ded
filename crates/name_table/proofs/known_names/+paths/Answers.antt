use Rattle.std.proofs.Common.{◌++◌, map, ap, ◌∙◌}
use Rattle.std.proofs.lemmas.Result.{on_ok_weaker}
use Rattle.src_tree.specs.View.{parts_in}
use Rattle.typing_rules.specs.Items.{bodies_among}
use Rattle.src_ast.specs.Seen.{syn_of}
use Rattle.name_table.specs.Forms.{own_paths, path_of_body}
use Rattle.name_table.proofs.ItemWalk.{inner_more, node_found}
use Rattle.name_table.proofs.known_names.+paths.Goals as goal

pub add_inner-loop-piece-preserved : goal.add_inner-loop-piece-preserved
add_inner-loop-piece-preserved t c =
    inner_more (path_of_body c.args.names) _ _ _ c.args.pieces.now c.loop-piece.piece-index c.piece-item.result
    c.loop-piece-test.true c.piece-item.is c.loop-piece.invariant c.in_ok-add_piece.ensures.found

pub add_node-returns-clause-found : goal.add_node-returns-clause-found
add_node-returns-clause-found t c =
    on_ok_weaker c.add_inner.result
    (λ made. made
    ∙ ap (λ z. z ++ map (path_of_body c.args.names) (bodies_among (parts_in c.as_slice.result.now))) c.in_ok-add_own.ensures.found
    ∙ ap (λ z. (c.args.table.now ++ own_paths (path_of_body c.args.names) c.args.node.now.row (syn_of c.args.node.now)) ++ map (path_of_body c.args.names) (bodies_among (parts_in z))) c.as_slice.ensures
    ∙ node_found (path_of_body c.args.names) c.args.node.now c.args.table.now) c.add_inner.ensures.found
