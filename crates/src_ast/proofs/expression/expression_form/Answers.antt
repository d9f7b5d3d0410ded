use Rattle.std.proofs.Common.{◌≡◌, List, Option, ap, ap₂, sym, ◌∙◌}
use Rattle.src_tree.specs.declared.node.SyntaxNode.{SyntaxNode}
use Rattle.src_tree.specs.declared.node.NodePiece.{NodePiece}
use Rattle.src_tree.specs.declared.row.GrammarRow.{GrammarRow}
use Rattle.src_ast.specs.Seen.{made_of, syn_of}
use Rattle.src_ast.specs.Sorts.{expression_part}
use Rattle.src_ast.specs.Syntax.{shape_of, Expression}
use Rattle.src_ast.proofs.Named.{seen_as}
use Rattle.src_ast.proofs.expression.expression_form.Goals as goal

-- what is read of the parts of a row is read of its node
by_row : (node : SyntaxNode) {row : GrammarRow} {pieces : List NodePiece} {answer : Option Expression} → node.row ≡ row → pieces ≡ node.parts → answer ≡ expression_part (made_of row pieces)
    → answer ≡ expression_part (shape_of (syn_of node))
by_row node row parts read =
    read ∙ ap₂ (λ row pieces. expression_part (made_of row pieces)) (sym row) parts ∙ ap (λ n. expression_part (shape_of n)) (sym (seen_as node))

pub returns-in-Number : goal.returns-in-Number
returns-in-Number c = by_row c.args.node.now c.in-Number.is c.as_slice-pieces.ensures c.number.ensures

pub returns-in-Prefix : goal.returns-in-Prefix
returns-in-Prefix c = by_row c.args.node.now c.in-Prefix.is c.as_slice-pieces.ensures c.prefix.ensures

pub returns-in-Sum : goal.returns-in-Sum
returns-in-Sum c = by_row c.args.node.now c.in-Sum.is c.as_slice-pieces.ensures c.sum.ensures

pub returns-in-Product : goal.returns-in-Product
returns-in-Product c = by_row c.args.node.now c.in-Product.is c.as_slice-pieces.ensures c.product.ensures

pub returns-in-Compare : goal.returns-in-Compare
returns-in-Compare c = by_row c.args.node.now c.in-Compare.is c.as_slice-pieces.ensures c.compare.ensures

pub returns-in-And : goal.returns-in-And
returns-in-And c = by_row c.args.node.now c.in-And.is c.as_slice-pieces.ensures c.and.ensures

pub returns-in-Or : goal.returns-in-Or
returns-in-Or c = by_row c.args.node.now c.in-Or.is c.as_slice-pieces.ensures c.or.ensures

pub returns-in-Assign : goal.returns-in-Assign
returns-in-Assign c = by_row c.args.node.now c.in-Assign.is c.as_slice-pieces.ensures c.assign.ensures

pub returns-in-Call : goal.returns-in-Call
returns-in-Call c = by_row c.args.node.now c.in-Call.is c.as_slice-pieces.ensures c.call.ensures

pub returns-in-MethodCall : goal.returns-in-MethodCall
returns-in-MethodCall c = by_row c.args.node.now c.in-MethodCall.is c.as_slice-pieces.ensures c.method_call.ensures

pub returns-in-FieldAccess : goal.returns-in-FieldAccess
returns-in-FieldAccess c = by_row c.args.node.now c.in-FieldAccess.is c.as_slice-pieces.ensures c.field.ensures

pub returns-in-TupleField : goal.returns-in-TupleField
returns-in-TupleField c = by_row c.args.node.now c.in-TupleField.is c.as_slice-pieces.ensures c.part.ensures

pub returns-in-Index : goal.returns-in-Index
returns-in-Index c = by_row c.args.node.now c.in-Index.is c.as_slice-pieces.ensures c.index.ensures

pub returns-in-StructExpr : goal.returns-in-StructExpr
returns-in-StructExpr c = by_row c.args.node.now c.in-StructExpr.is c.as_slice-pieces.ensures c.struct_of.ensures

pub returns-in-Round : goal.returns-in-Round
returns-in-Round c = by_row c.args.node.now c.in-Round.is c.as_slice-pieces.ensures c.round.ensures

pub returns-in-Block : goal.returns-in-Block
returns-in-Block c = by_row c.args.node.now c.in-Block.is c.as_slice-pieces.ensures c.block.ensures

pub returns-in-If : goal.returns-in-If
returns-in-If c = by_row c.args.node.now c.in-If.is c.as_slice-pieces.ensures c.if_of.ensures

pub returns-in-Match : goal.returns-in-Match
returns-in-Match c = by_row c.args.node.now c.in-Match.is c.as_slice-pieces.ensures c.match_on.ensures

pub returns-in-Loop : goal.returns-in-Loop
returns-in-Loop c = by_row c.args.node.now c.in-Loop.is c.as_slice-pieces.ensures c.loop_of.ensures

pub returns-in-While : goal.returns-in-While
returns-in-While c = by_row c.args.node.now c.in-While.is c.as_slice-pieces.ensures c.while_of.ensures

pub returns-in-Break : goal.returns-in-Break
returns-in-Break c = by_row c.args.node.now c.in-Break.is c.as_slice-pieces.ensures c.break_of.ensures

pub returns-in-Continue : goal.returns-in-Continue
returns-in-Continue c = by_row c.args.node.now c.in-Continue.is c.as_slice-pieces.ensures c.continue_of.ensures

pub returns-in-Closure : goal.returns-in-Closure
returns-in-Closure c = by_row c.args.node.now c.in-Closure.is c.as_slice-pieces.ensures c.closure.ensures
