use Rattle.move_paths.specs.Uses.{use_of}
use Rattle.std.proofs.Common.{sym, ◌∙◌}
use Rattle.move_paths.proofs.Naming.{names-if, on_both}
use Rattle.move_paths.proofs.forest.add_use.Goals as goal

pub returns : goal.returns
returns c =
    on_both (λ kept paths. names-if c.args.items.now c.args.body.now c.args.trie.now c.insert.new.self (use_of c.args.how, c.args.place.now) (sym c.makes_paths.ensures ∙ c.if-not-makes_paths.false) kept paths)
    c.insert.result c.insert.ensures.kept c.insert.ensures.paths
