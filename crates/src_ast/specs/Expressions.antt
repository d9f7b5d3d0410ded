-- The forms of expressions and statements, as they are borrowed from a tree.
use Rattle.std.specs.Prelude.{Option, Some, None}
use Rattle.src_ast.specs.declared.expression.ArmForm.{ArmForm}
use Rattle.src_ast.specs.declared.expression.ExpressionForm.{ExpressionForm}
use Rattle.src_ast.specs.declared.expression.InitForm.{InitForm}
use Rattle.src_ast.specs.declared.statement.StatementForm.{StatementForm}
use Rattle.src_ast.specs.Seen.{syn_of, nodes_of, maybe_of, word_of}
use Rattle.src_ast.specs.Syntax as form
use Rattle.src_ast.specs.Syntax.{Shape, Expression, Statement}
use Rattle.src_ast.specs.View.{idents, self_name, syns_of}

abbrev pub statement_of : StatementForm → Option Statement
statement_of (StatementForm.Let pattern ty value) =
    Some (form.LetOf (syn_of pattern.now) (maybe_of ty) (maybe_of value))
statement_of StatementForm.Empty = Some form.Empty
statement_of (StatementForm.Semi expression) = Some (form.Semi (syn_of expression.now))
statement_of StatementForm.Other = None

abbrev pub init_of : InitForm → Shape
init_of i = form.AnInit i.name.now (maybe_of i.value)

abbrev pub arm_of : ArmForm → Shape
arm_of a = form.AnArm (syn_of a.pattern.now) (maybe_of a.guard) (syn_of a.body.now)

abbrev pub expression_of : ExpressionForm → Option Expression
expression_of (ExpressionForm.Number value suffix) = Some (form.Literal value suffix)
expression_of (ExpressionForm.Truth value) = Some (form.TruthLiteral value)
expression_of (ExpressionForm.Path path) = Some (form.Path (word_of path.first) (word_of path.second))
expression_of ExpressionForm.SelfValue = Some (form.Path (Some self_name) None)
expression_of (ExpressionForm.Negate operand) = Some (form.Minus (syn_of operand.now))
expression_of (ExpressionForm.Not operand) = Some (form.Bang (syn_of operand.now))
expression_of (ExpressionForm.Deref operand) = Some (form.Star (syn_of operand.now))
expression_of (ExpressionForm.Borrow unique operand) = Some (form.Ampersand unique (syn_of operand.now))
expression_of (ExpressionForm.Math operator left right) =
    Some (form.Calculate operator (syn_of left.now) (syn_of right.now))
expression_of (ExpressionForm.Compare operator left right) =
    Some (form.Compare operator (syn_of left.now) (syn_of right.now))
expression_of (ExpressionForm.And left right) = Some (form.Both (syn_of left.now) (syn_of right.now))
expression_of (ExpressionForm.Or left right) = Some (form.Either (syn_of left.now) (syn_of right.now))
expression_of (ExpressionForm.Assign place value) = Some (form.Store (syn_of place.now) (syn_of value.now))
expression_of (ExpressionForm.Call callee args) = Some (form.CallOf (syn_of callee.now) (nodes_of args))
expression_of (ExpressionForm.MethodCall receiver name args) =
    Some (form.MethodOf (syn_of receiver.now) name.now (nodes_of args))
expression_of (ExpressionForm.Field base name) = Some (form.FieldOf (syn_of base.now) name.now)
expression_of (ExpressionForm.Part base number) = Some (form.PartOf (syn_of base.now) number)
expression_of (ExpressionForm.Index base index) = Some (form.ElementOf (syn_of base.now) (syn_of index.now))
expression_of (ExpressionForm.Struct path fields) =
    Some (form.StructOf (word_of path.first) (word_of path.second) (nodes_of fields))
expression_of (ExpressionForm.Parens inside) = Some (form.Parens (syn_of inside.now))
expression_of (ExpressionForm.Tuple parts) = Some (form.TupleOf (nodes_of parts))
expression_of (ExpressionForm.Array elements) = Some (form.ArrayOf (nodes_of elements))
expression_of (ExpressionForm.Block statements tail) = Some (form.Braces (nodes_of statements) (maybe_of tail))
expression_of (ExpressionForm.If condition body otherwise) =
    Some (form.IfElse (syn_of condition.now) (syn_of body.now) (maybe_of otherwise))
expression_of (ExpressionForm.IfLet pattern scrutinee body otherwise) =
    Some (form.IfLetElse (syn_of pattern.now) (syn_of scrutinee.now) (syn_of body.now) (maybe_of otherwise))
expression_of (ExpressionForm.Match scrutinee arms) = Some (form.MatchOn (syn_of scrutinee.now) (nodes_of arms))
expression_of (ExpressionForm.Loop label body) = Some (form.LoopOf (word_of label) (syn_of body.now))
expression_of (ExpressionForm.While label condition body) =
    Some (form.WhileOf (word_of label) (syn_of condition.now) (syn_of body.now))
expression_of (ExpressionForm.WhileLet label pattern scrutinee body) =
    Some (form.WhileLetOf (word_of label) (syn_of pattern.now) (syn_of scrutinee.now) (syn_of body.now))
expression_of (ExpressionForm.Break label value) = Some (form.BreakOf (word_of label) (maybe_of value))
expression_of (ExpressionForm.Continue label) = Some (form.ContinueOf (word_of label))
expression_of (ExpressionForm.Return value) = Some (form.ReturnOf (maybe_of value))
expression_of (ExpressionForm.Closure captures params answer block) =
    Some (form.MoveOf (syns_of (idents (nodes_of captures))) (nodes_of params) (maybe_of answer) (syn_of block.now))
expression_of ExpressionForm.Panic = Some form.PanicOf
expression_of ExpressionForm.Other = None
