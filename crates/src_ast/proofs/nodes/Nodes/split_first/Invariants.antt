use Rattle.std.proofs.Common.{◌≡◌, drop}
use Rattle.src_ast.specs.View.{views}
use Rattle.src_tree.specs.View.{parts_in}
use Rattle.src_ast.proofs.nodes.Nodes.split_first.Given as goal

abbrev pub invariant-loop-i : goal.invariant-loop-i
invariant-loop-i l = views (parts_in l.self.pieces.now) ≡ views (parts_in (drop l.i l.self.pieces.now))
