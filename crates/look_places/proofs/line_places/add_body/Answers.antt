use Rattle.std.proofs.Common.{rules, ◌≡◌, ◌∙◌, List, map, ap}
use Rattle.std.proofs.lemmas.Result.{on_ok_weaker}
use Rattle.mir_base.specs.declared.place_in_text.NodeId.{NodeId}
use Rattle.typed_tree.specs.Listed.{trees}
use Rattle.typed_tree.specs.Nodes.{body_nodes}
use Rattle.typed_tree.specs.Tree.{BodyTree}
use Rattle.typed_tree.specs.View.{body_of}
use Rattle.lower_rules.specs.Listed.{ids_of, nodes_of_body}
use Rattle.look_places.proofs.PlacesPut.{places_put}
use Rattle.look_places.proofs.line_places.add_body.Goals as goal

pub returns : goal.returns
returns c =
    let tree : BodyTree = body_of c.args.body.now in
    let nodes : trees c.as_slice-all.result.now ≡ body_nodes tree = search rules in
    let same : c.as_slice-2.result.now ≡ c.in_ok-lowered.lowered.nodes = search rules in
    let ids : map ids_of c.as_slice-2.result.now ≡ nodes_of_body c.args.items.now tree =
    ap (λ (all : List (List NodeId)). map ids_of all) same ∙ c.in_ok-lowered.ensures.nodes in
    on_ok_weaker c.add_blocks.result
    (λ added. places_put c.args.places.now c.add_blocks.new.places (trees c.as_slice-all.result.now)
    (map ids_of c.as_slice-2.result.now) c.args.items.now tree added nodes ids)
    c.add_blocks.ensures
