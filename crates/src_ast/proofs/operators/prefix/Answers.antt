use Rattle.std.proofs.Common.{rules, ◌≡◌, ◌∷◌, ap, ◌∙◌}
use Rattle.src_tree.specs.View.{parts_in}
use Rattle.src_ast.specs.Seen.{syn_of}
use Rattle.src_ast.specs.Sorts.{expression_part}
use Rattle.src_ast.specs.Syntax.{just}
use Rattle.src_ast.specs.View.{first_of, tokens_in, views}
use Rattle.src_ast.proofs.Seconds.{prefixed}
use Rattle.src_ast.proofs.operators.prefix.Goals as goal

pub returns-in-Some-split_token : goal.returns-in-Some-split_token
returns-in-Some-split_token c =
    let ps = c.args.pieces.now in
    let one : just (syn_of c.in-Some.operand.now) ≡ first_of (views (parts_in ps)) = search rules in
    let whole : tokens_in (parts_in ps) ≡ c.in-Some-split_token.sign.now ∷ tokens_in (parts_in c.in-Some-split_token.behind.now) = search rules in
    c.with_sign.ensures
    ∙ ap expression_part
    (prefixed (views (parts_in ps)) (tokens_in (parts_in ps)) (tokens_in (parts_in c.in-Some-split_token.behind.now)) c.in-Some-split_token.sign.now (syn_of c.in-Some.operand.now) one whole)
