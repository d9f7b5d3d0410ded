-- How large an expression is as it is written: a part is smaller than the whole. Patterns and types count as nothing.
use Rattle.std.specs.Prelude.{ℕ, suc, ◌+◌, Option, Some, None}
use Rattle.src_ast.specs.Syntax.{Syn, syn, Shape, AnExpression, AStatement, AnInit, AnArm, Expression, Minus, Bang, Star, Ampersand, Calculate, Compare, Both, Either, Store, CallOf, MethodOf, FieldOf, PartOf, ElementOf, StructOf, Parens, TupleOf, ArrayOf, Braces, IfElse, IfLetElse, MatchOn, LoopOf, WhileOf, WhileLetOf, BreakOf, ReturnOf, MoveOf, LetOf, Semi, Syns, no_syn, a_syn, MaybeSyn, nothing, just}

abbrev mutual
  pub size : Syn → ℕ
  size (syn at form) = suc (form_size form)

  pub form_size : Shape → ℕ
  form_size (AnExpression e) = expression_size e
  form_size (AnInit name value) = size_if_any value
  form_size (AnArm pattern guard body) = size_if_any guard + size body
  form_size (AStatement (LetOf pattern ty value)) = size_if_any value
  form_size (AStatement (Semi expression)) = size expression
  form_size _ = 0

  pub expression_size : Expression → ℕ
  expression_size (Minus operand) = size operand
  expression_size (Bang operand) = size operand
  expression_size (Star operand) = size operand
  expression_size (Ampersand unique operand) = size operand
  expression_size (Calculate operator left right) = size left + size right
  expression_size (Compare operator left right) = size left + size right
  expression_size (Both left right) = size left + size right
  expression_size (Either left right) = size left + size right
  expression_size (Store place value) = size place + size value
  expression_size (CallOf callee args) = size callee + sizes args
  expression_size (MethodOf receiver name args) = size receiver + sizes args
  expression_size (FieldOf base name) = size base
  expression_size (PartOf base number) = size base
  expression_size (ElementOf base index) = size base + size index
  expression_size (StructOf first second inits) = sizes inits
  expression_size (Parens inside) = size inside
  expression_size (TupleOf parts) = sizes parts
  expression_size (ArrayOf elements) = sizes elements
  expression_size (Braces statements tail) = sizes statements + size_if_any tail
  expression_size (IfElse condition body otherwise) = size condition + (size body + size_if_any otherwise)
  expression_size (IfLetElse pattern scrutinee body otherwise) = size scrutinee + (size body + size_if_any otherwise)
  expression_size (MatchOn scrutinee arms) = size scrutinee + sizes arms
  expression_size (LoopOf label body) = size body
  expression_size (WhileOf label condition body) = size condition + size body
  expression_size (WhileLetOf label pattern scrutinee body) = size scrutinee + size body
  expression_size (BreakOf label value) = size_if_any value
  expression_size (ReturnOf value) = size_if_any value
  expression_size (MoveOf captures params answer body) = size body
  expression_size _ = 0

  pub size_if_any : MaybeSyn → ℕ
  size_if_any nothing = 0
  size_if_any (just e) = size e

  pub sizes : Syns → ℕ
  sizes no_syn = 0
  sizes (a_syn first rest) = size first + sizes rest

abbrev pub seen_size : Option Expression → ℕ
seen_size None = 0
seen_size (Some e) = expression_size e
