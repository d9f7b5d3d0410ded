-- A body under other numbers.
use Rattle.std.specs.Prelude.{ℕ, map}
use Rattle.typed_tree.specs.Tree.{BodyTree}
use Rattle.typing_rules.specs.Numbered.{renumbered, param_renumbered}

abbrev pub renumbered_body : (ℕ → ℕ) → BodyTree → BodyTree
renumbered_body f body =
    record body { params = map (param_renumbered f) body.params; block = renumbered f body.block }
