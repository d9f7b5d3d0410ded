use Rattle.std.proofs.Common.{rules, ◌≡◌, ◌∙◌, List, map, ap}
use Rattle.std.proofs.lemmas.Result.{on_ok_weaker}
use Rattle.cfg_graph.specs.declared.graph.Body.{Body}
use Rattle.mir_base.specs.declared.place_in_text.NodeId.{NodeId}
use Rattle.typed_tree.specs.Nodes.{body_nodes}
use Rattle.typed_tree.specs.Tree.{BodyTree}
use Rattle.typed_tree.specs.View.{body_of}
use Rattle.lower_locals.specs.View.{entry_of}
use Rattle.typed_tree.specs.Listed.{trees}
use Rattle.lower_rules.specs.Listed.{ids_of}
use Rattle.cfg_build.proofs.programs.add_sites.Goals as goal

pub returns : goal.returns
returns c =
    let tree : BodyTree = body_of c.args.body.now in
    let entries : map entry_of c.as_slice.result.now ≡ c.args.lowered.now.locals = search rules in
    let nodes : trees c.as_slice-all.result.now ≡ body_nodes tree = search rules in
    let blocks : c.as_slice-blocks.result.now ≡ c.args.lowered.now.body.blocks = search rules in
    let ids : c.as_slice-2.result.now ≡ c.args.lowered.now.nodes = search rules in
    on_ok_weaker c.body_sites.result
    (λ made body_is found nodes_are. made tree (entries ∙ found, nodes) (blocks ∙ ap (λ (b : Body). b.blocks) body_is)
    (ap (λ (all : List (List NodeId)). map ids_of all) ids ∙ nodes_are)) c.body_sites.ensures
