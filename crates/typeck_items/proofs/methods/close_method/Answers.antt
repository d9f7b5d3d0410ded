use Rattle.std.proofs.Common.{subst}
use Rattle.src_ast.specs.ItemForms.{name_seen}
use Rattle.src_ast.specs.Seen.{nodes_of}
use Rattle.src_ast.specs.Syntax.{Named}
use Rattle.typeck_checker.specs.Stand.{GivesValue, state}
use Rattle.typeck_items.specs.Forms.{closed_method}
use Rattle.typeck_items.proofs.methods.close_method.Goals as goal

pub returns : goal.returns
returns c =
    subst (λ (z : Named). GivesValue (λ u. c.closed_at.new.seen) (closed_method (name_seen c.args.trait_) c.args.owner.now c.args.at z (nodes_of c.args.params) c.args.seen.now (state c.args.checker.now)) c.closed_at.result c.args.checker.now)
    c.name_of.ensures c.closed_at.ensures
