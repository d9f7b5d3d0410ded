use Rattle.std.proofs.Common.{◌≡◌, ◌++◌, drop, map}
use Rattle.typed_tree.specs.Tree.{BodyTree}
use Rattle.lower_rules.specs.Lower as low
use Rattle.cfg_build.specs.Lines.{AreOf}
use Rattle.lower_rules.specs.Listed.{ids_of, nodes_of_body, of_blocks}
use Rattle.cfg_build.proofs.blocks.body_sites.Given as goal

abbrev pub invariant-loop-one : goal.invariant-loop-one
invariant-loop-one l = record {
  block : l.block ≡ l.one-index;
  sites : (tree : BodyTree) → AreOf l.names tree →
      l.blocks ≡ (low.body_of l.names.items.now tree).blocks →
      map ids_of l.ids ≡ nodes_of_body l.names.items.now tree →
      l.sites ++ of_blocks l.names.items.now tree l.body l.block (drop l.one-index l.blocks)
      ≡ l.fn.sites ++ of_blocks l.names.items.now tree l.body 0 l.blocks;
}
