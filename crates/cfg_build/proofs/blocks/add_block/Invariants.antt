use Rattle.std.proofs.Common.{◌≡◌, ◌++◌, [], Some, drop}
use Rattle.std.specs.Prelude.{slice_get}
use Rattle.std.specs.Option.{unwrap_or}
use Rattle.typed_tree.specs.Tree.{BodyTree}
use Rattle.lower_rules.specs.Lower as low
use Rattle.cfg_build.specs.Lines.{AreOf}
use Rattle.lower_rules.specs.Listed.{ids_of, nodes_of_body, of_lines}
use Rattle.cfg_build.proofs.blocks.add_block.Given as goal

abbrev pub invariant-loop-stmt : goal.invariant-loop-stmt
invariant-loop-stmt l = record {
  line : l.line ≡ l.stmt-index;
  sites : (tree : BodyTree) → AreOf l.names tree →
      slice_get (low.body_of l.names.items.now tree).blocks l.block ≡ Some l.one →
      unwrap_or (slice_get (nodes_of_body l.names.items.now tree) l.block) [] ≡ ids_of l.ids →
      l.sites ++ of_lines l.names.items.now tree l.body l.block l.line (drop l.stmt-index l.stmts)
      ≡ l.fn.sites ++ of_lines l.names.items.now tree l.body l.block 0 l.stmts;
}
