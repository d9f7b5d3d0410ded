use Rattle.src_ast.specs.Seen.{word_of}
use Rattle.typing_rules.specs.Collected.{starting_with}
use Rattle.typeck_heads.specs.Counts.{count_of}
use Rattle.typeck_heads.specs.Forms.{answered, known_of}
use Rattle.typeck_heads.proofs.BodyForms.{body_answers}
use Rattle.typeck_heads.proofs.body_walk.body.Goals as goal

pub returns-in-Fn-clause-answers : goal.returns-in-Fn-clause-answers
returns-in-Fn-clause-answers c =
    body_answers (known_of c.args.known.now) (word_of c.args.owner) (count_of c.args.count) c.args.node.now (starting_with c.args.items.now)
    (answered count_of c.function_body.result) c.function_body.new.items _ _ c.in-Fn.is c.item_form.ensures c.function_body.ensures.answers

pub returns-in-Other-clause-answers : goal.returns-in-Other-clause-answers
returns-in-Other-clause-answers c =
    body_answers (known_of c.args.known.now) (word_of c.args.owner) (count_of c.args.count) c.args.node.now (starting_with c.args.items.now)
    (answered count_of c.closure_if.result) c.closure_if.new.items _ _ c.in-Other.is c.item_form.ensures c.closure_if.ensures.answers
