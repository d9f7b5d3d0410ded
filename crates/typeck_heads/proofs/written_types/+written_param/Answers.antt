use Rattle.std.proofs.Common.{arith}
use Rattle.src_ast.specs.Types.{type_of}
use Rattle.typing_rules.specs.Collected.{starting_with}
use Rattle.typeck_heads.specs.Forms.{around_of}
use Rattle.typeck_heads.proofs.Shapes.{part_falls}
use Rattle.typeck_heads.proofs.Types.{param_answers, plain_answers, plain_form}
use Rattle.typeck_heads.proofs.written_types.+written_param.Goals as goal

pub returns-in_default : goal.returns-in_default
returns-in_default t c =
    record {
      answers =
          plain_answers (around_of c.args.scope.now) c.args.node.now (starting_with c.args.items.now) c.resolve_type-in_default.result
          c.resolve_type-in_default.new.items (type_of c.type_form.result) c.type_form.ensures
          (plain_form (around_of c.args.scope.now) c.args.node.now.at (starting_with c.args.items.now) c.type_form.result c.in_default.not-Parens c.in_default.not-Reference)
          c.resolve_type-in_default.ensures.answers;
      grows = c.resolve_type-in_default.ensures.grows;
      known = c.resolve_type-in_default.ensures.known;
    }

pub returns-in-Parens-clause-answers : goal.returns-in-Parens-clause-answers
returns-in-Parens-clause-answers t c =
    param_answers (around_of c.args.scope.now) c.args.node.now (starting_with c.args.items.now) _ _ _ _
    c.in-Parens.is c.type_form.ensures c.written_param.ensures.answers

pub written_param-requires : goal.written_param-requires
written_param-requires t c = (part_falls c.args.node.now _ _ t _ c.decreases c.in-Parens.is c.type_form.ensures (omega arith), c.requires)
