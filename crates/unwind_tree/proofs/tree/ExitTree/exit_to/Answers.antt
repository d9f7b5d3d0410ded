use Rattle.std.proofs.Common.{rules, ◌≡◌, ◌∙◌, drop, sym, ap}
use Rattle.std.specs.List.{drop-map}
use Rattle.std.proofs.lemmas.Result.{IfOk-weaker}
use Rattle.unwind_tree.specs.Rooms.{seen, seen_all}
use Rattle.unwind_tree.specs.Trees.{left_by_exit}
use Rattle.unwind_tree.proofs.tree.ExitTree.exit_to.Goals as goal

pub returns : goal.returns
returns c =
    let seen_now : c.args.self.now ≡ seen_all c.self.inside.scopes = search rules in
    let inner = ap seen_all (c.from_number.ensures ∙ ap (drop c.args.depth) c.as_slice.ensures) in
    IfOk-weaker c.exit_places.result _ _
    (λ places is. is ∙ ap left_by_exit (inner ∙ sym (drop-map seen c.args.depth c.self.inside.scopes) ∙ ap (drop c.args.depth) (sym seen_now)))
    c.exit_places.ensures
