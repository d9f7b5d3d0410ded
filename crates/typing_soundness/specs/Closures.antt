-- The bodies that a text has, in its order.
use Rattle.std.specs.Prelude.{List, [], ◌∷◌}
use Rattle.std.specs.List.{position as position_of}
use Rattle.std.specs.Str.{bytes_eq}
use Rattle.mir_base.specs.declared.place_in_text.Pos.{Pos}
use Rattle.mir_ty.specs.declared.adt.Adt.{Adt}
use Rattle.src_tree.specs.Layout.{Parts}
use Rattle.typing_rules.specs.Bodies.{all_rules}
use Rattle.typing_rules.specs.Items.{items_of, item_syns}
use Rattle.typing_rules.specs.Program.{outermost}
use Rattle.typing_rules.specs.Written.{WrittenScope}
use Rattle.src_ast.specs.Syntax.{Word, Syn, syn, Shape, AnExpression, AStatement, AnItem, AnInit, AnArm, Expression, Minus, Bang, Star, Ampersand, Calculate, Compare, Both, Either, Store, CallOf, MethodOf, FieldOf, PartOf, ElementOf, StructOf, Parens, TupleOf, ArrayOf, Braces, IfElse, IfLetElse, MatchOn, LoopOf, WhileOf, WhileLetOf, BreakOf, ReturnOf, MoveOf, LetOf, Semi, ImplItem, FnItem, Syns, no_syn, a_syn, list_of, MaybeSyn, nothing, just}

-- ---- bodies in the order of the text

-- what the head of a body is written by: its own name, which a closure has not, its parameters and its answer, and what
-- names stand around it
pub record WrittenHead : Type 0 where
  pub around : WrittenScope
  pub name : Word
  pub params : Syns
  pub answer : MaybeSyn

-- a function or a method, or a closure
pub data BodySyn : Type 0 where
  Function : (head : WrittenHead) → BodySyn
  Closure : (head : WrittenHead) → BodySyn

-- bodies that are met before some others
abbrev pub Tape : Type 0
Tape = List BodySyn → List BodySyn

-- the closures in an expression, one before those inside it
module _ (around : WrittenScope) where
  abbrev mutual
    pub closures_of : Syn → Tape
    closures_of (syn at form) = closures_in form

    pub closures_in : Shape → Tape
    closures_in (AnExpression e) = closures_in_expression e
    closures_in (AStatement (LetOf pattern ty value)) = closures_if_any value
    closures_in (AStatement (Semi expression)) = closures_of expression
    closures_in (AnInit name value) = closures_if_any value
    closures_in (AnArm pattern guard body) = λ rest. closures_if_any guard (closures_of body rest)
    closures_in _ = λ rest. rest

    pub closures_in_expression : Expression → Tape
    closures_in_expression (Minus operand) = closures_of operand
    closures_in_expression (Bang operand) = closures_of operand
    closures_in_expression (Star operand) = closures_of operand
    closures_in_expression (Ampersand unique operand) = closures_of operand
    closures_in_expression (Calculate operator left right) = λ rest. closures_of left (closures_of right rest)
    closures_in_expression (Compare operator left right) = λ rest. closures_of left (closures_of right rest)
    closures_in_expression (Both left right) = λ rest. closures_of left (closures_of right rest)
    closures_in_expression (Either left right) = λ rest. closures_of left (closures_of right rest)
    closures_in_expression (Store place value) = λ rest. closures_of place (closures_of value rest)
    closures_in_expression (CallOf callee args) = λ rest. closures_of callee (closures_among args rest)
    closures_in_expression (MethodOf receiver name args) = λ rest. closures_of receiver (closures_among args rest)
    closures_in_expression (FieldOf base name) = closures_of base
    closures_in_expression (PartOf base number) = closures_of base
    closures_in_expression (ElementOf base index) = λ rest. closures_of base (closures_of index rest)
    closures_in_expression (StructOf first second inits) = closures_among inits
    closures_in_expression (Parens inside) = closures_of inside
    closures_in_expression (TupleOf parts) = closures_among parts
    closures_in_expression (ArrayOf elements) = closures_among elements
    closures_in_expression (Braces statements tail) = λ rest. closures_among statements (closures_if_any tail rest)
    closures_in_expression (IfElse condition body otherwise) =
        λ rest. closures_of condition (closures_of body (closures_if_any otherwise rest))
    closures_in_expression (IfLetElse pattern scrutinee body otherwise) =
        λ rest. closures_of scrutinee (closures_of body (closures_if_any otherwise rest))
    closures_in_expression (MatchOn scrutinee arms) = λ rest. closures_of scrutinee (closures_among arms rest)
    closures_in_expression (LoopOf label body) = closures_of body
    closures_in_expression (WhileOf label condition body) = λ rest. closures_of condition (closures_of body rest)
    closures_in_expression (WhileLetOf label pattern scrutinee body) =
        λ rest. closures_of scrutinee (closures_of body rest)
    closures_in_expression (BreakOf label value) = closures_if_any value
    closures_in_expression (ReturnOf value) = closures_if_any value
    closures_in_expression (MoveOf captures params answer body) = λ rest. Closure (record {
      around = around;
      name = [];
      params = params;
      answer = answer;
    }) ∷ closures_of body rest
    closures_in_expression _ = λ rest. rest

    pub closures_among : Syns → Tape
    closures_among no_syn = λ rest. rest
    closures_among (a_syn first others) = λ rest. closures_of first (closures_among others rest)

    pub closures_if_any : MaybeSyn → Tape
    closures_if_any nothing = λ rest. rest
    closures_if_any (just value) = closures_of value

-- a function or a method, with its block
module _ (around : WrittenScope) where
  abbrev pub function_text : Syn → Tape
  function_text (syn at (AnItem (FnItem name params answer block))) =
      λ rest. Function (record { around = around; name = name.1; params = params; answer = answer }) ∷
      closures_if_any around block rest
  function_text _ = λ rest. rest

  abbrev pub functions_text : List Syn → Tape
  functions_text [] = λ rest. rest
  functions_text (f ∷ fs) = λ rest. function_text f (functions_text fs rest)

  -- in an impl, `Self` is its struct or enum
  abbrev pub around_impl : List Adt → Word → WrittenScope
  around_impl adts name = record around { self_adt = position_of (λ adt. bytes_eq adt.name name) adts }

abbrev pub item_text : WrittenScope → List Adt → Syn → Tape
item_text around adts (syn at (AnItem (ImplItem trait_ name methods))) =
    functions_text (around_impl around adts name.1) (list_of methods)
item_text around adts (syn at (AnItem (FnItem name params answer block))) =
    function_text around (syn at (AnItem (FnItem name params answer block)))
item_text around adts _ = λ rest. rest

abbrev pub items_text : WrittenScope → List Adt → List Syn → Tape
items_text around adts [] = λ rest. rest
items_text around adts (i ∷ is) = λ rest. item_text around adts i (items_text around adts is rest)

-- the bodies of a text
abbrev pub program_text : List Adt → Parts Pos → Tape
program_text adts parts =
    items_text (all_rules (outermost (item_syns (items_of parts)))) adts (item_syns (items_of parts))
