use Rattle.std.proofs.Common.{◌≡◌, rules}
use Rattle.typed_tree.specs.Nodes.{body_nodes, nodes_of, param_nodes, first_with}
use Rattle.typed_tree.specs.View.{tree_found, body_of}
use Rattle.typed_tree.proofs.NumberLemmas.{found_is, found_only, absent_is}
use Rattle.typed_tree.proofs.SearchLemmas.{found_either}
use Rattle.typed_tree.proofs.search.node_at.Goals as goal

pub returns : goal.returns
returns c =
    let body = body_of c.args.body.now in
    let params : tree_found c.find_in_params.result ≡ first_with c.args.id.0 (param_nodes body.params) = search rules in
    let block : tree_found c.find_in_node.result ≡ first_with c.args.id.0 (nodes_of body.block) = search rules in
    let whole : tree_found c.or.result ≡ first_with c.args.id.0 (body_nodes body) = found_either c.args.id.0 _ _ _ _ _ c.or.ensures params block in
    record {
      found = found_is body c.args.id.0 c.or.result whole;
      only = found_only body c.args.id.0 c.or.result c.requires whole;
      absent = absent_is body c.args.id.0 c.or.result whole;
    }
