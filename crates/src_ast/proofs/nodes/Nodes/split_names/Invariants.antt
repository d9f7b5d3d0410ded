use Rattle.std.proofs.Common.{◌≡◌, true, take}
use Rattle.src_ast.specs.Seen.{are_idents}
use Rattle.src_ast.specs.View.{views}
use Rattle.src_tree.specs.View.{parts_in}
use Rattle.src_ast.proofs.nodes.Nodes.split_names.Given as goal

abbrev pub invariant-loop-i : goal.invariant-loop-i
invariant-loop-i l = are_idents (views (parts_in (take l.i l.self.pieces.now))) ≡ true
