use Rattle.std.proofs.Common.{rules, ◌≡◌, ◌∙◌, Some, ap, sym}
use Rattle.std.specs.Prelude.{option_map}
use Rattle.lower_rules.specs.Sites.{position_of}
use Rattle.typed_tree.specs.View.{tree_of}
use Rattle.typed_tree.specs.declared.node.Form.{the_lemmas}
use Rattle.look_places.proofs.line_places.place_in.Goals as goal

pub returns-in-Some : goal.returns-in-Some
returns-in-Some c =
    let node = c.in-Some.node.now in
    let at : position_of (tree_of node) ≡ node.at = search (rules, the_lemmas) in
    ap Some (sym at) ∙ ap (option_map position_of) c.in-Some.ensures
