use Rattle.std.proofs.Common.{rules, ◌≡◌, ◌<◌, length}
use Rattle.std.specs.Prelude.{get_or}
use Rattle.typed_tree.specs.Nodes.{number_of}
use Rattle.typed_tree.specs.View.{tree_of}
use Rattle.typed_tree.specs.declared.node.Form.{the_lemmas}
use Rattle.cfg_build.proofs.Rising.{rising_at}
use Rattle.cfg_build.proofs.names.node_near.Goals as goal

pub returns : goal.returns
returns c = λ rise.
    let less : c.back_to.result < length c.args.nodes.now = search rules in
    let is : c.in_ok-node.node.now ≡ get_or c.args.nodes.now c.back_to.result c.in_ok-node.node.now = search rules in
    let same : number_of (tree_of c.in_ok-node.node.now.now) ≡ c.args.number = search (rules, the_lemmas) in
    rising_at c.args.nodes.now c.back_to.result c.in_ok-node.node.now c.args.number less is same rise
