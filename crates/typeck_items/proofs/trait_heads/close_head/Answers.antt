use Rattle.std.proofs.Common.{reverse, subst}
use Rattle.src_ast.specs.Seen.{nodes_of}
use Rattle.src_ast.specs.Syntax.{Named}
use Rattle.typeck_checker.specs.Stand.{GivesValue, state}
use Rattle.typeck_items.specs.Forms.{closed_head}
use Rattle.typeck_items.proofs.trait_heads.close_head.Goals as goal

pub returns : goal.returns
returns c =
    subst (λ (z : Named). GivesValue reverse (closed_head c.args.at z (nodes_of c.args.params) (reverse c.args.names) (state c.args.checker.now)) c.closed_at.result c.args.checker.now)
    c.name_of.ensures c.closed_at.ensures
