use Rattle.std.proofs.Common.{rules, ◌≡◌, ◌∙◌, ◌++◌, List, Some, map, sym, ap}
use Rattle.std.proofs.lemmas.Result.{on_ok_weaker}
use Rattle.std.specs.Prelude.{slice_get}
use Rattle.lower_rules.specs.Sites.{position_of, use_of, use_by_term, used_by_term}
use Rattle.cfg_graph.specs.Uses.{stored_by_term}
use Rattle.lower_locals.specs.View.{entry_of}
use Rattle.typed_tree.specs.Listed.{trees}
use Rattle.typed_tree.specs.Tree.{Node}
use Rattle.typed_tree.specs.View.{tree_of}
use Rattle.typed_tree.specs.declared.node.Form.{the_lemmas}
use Rattle.typed_tree.specs.declared.node.Use.{Use}
use Rattle.lower_rules.specs.declared.site.Site.{Site}
use Rattle.cfg_build.specs.Lines.{words_of, used_place}
use Rattle.cfg_build.proofs.Told.{term_listed, used_is}
use Rattle.std.specs.Option.{option_copied}
use Rattle.std.specs.Prelude.{Option}
use Rattle.cfg_build.proofs.lines.add_term.Goals as goal

pub returns : goal.returns
returns c =
    let items = c.args.names.items.now in
    let entries = map entry_of c.args.names.locals.now in
    let nodes : List Node = trees c.args.names.nodes.now in
    let node = c.in-Some-node_with.node.now in
    let at : position_of (tree_of node) ≡ node.at = search (rules, the_lemmas) in
    let uses : use_of (tree_of node) ≡ node.by = search (rules, the_lemmas) in
    let first : Some c.in-Some._first.now ≡ slice_get (used_by_term c.args.term.now) 0 =
    sym (ap option_copied c.in-Some.is) ∙ c.in_ok-places.ensures.first in
    let by = c.use_by_term-by.ensures c.args.term.now ∙ ap (λ (b : Option Use). use_by_term c.args.term.now b) (sym uses) in
    let place = c.used_place.ensures
    ∙ used_is node.by (used_by_term c.args.term.now) (stored_by_term c.args.term.now) (option_copied c.in_ok-places.places.first) (option_copied c.in_ok-places.places.stored) c.in_ok-places.ensures.first c.in_ok-places.ensures.stored
    ∙ ap (λ (b : Option Use). used_place b (used_by_term c.args.term.now) (stored_by_term c.args.term.now)) (sym uses) in
    on_ok_weaker c.add_use.result
    (λ added. added ∙ ap (λ (s : List Site). c.args.sites.now ++ s)
    (term_listed items entries nodes c.args.at.body c.args.at.block c.args.at.line c.args.id (tree_of node) node.at c.use_by_term-by.result
    (words_of items entries nodes (option_copied c.used_place.result)) c.in-Some-node_with.ensures at c.args.term.now c.in-Some._first.now first by
    (ap (words_of items entries nodes) place))) c.add_use.ensures
