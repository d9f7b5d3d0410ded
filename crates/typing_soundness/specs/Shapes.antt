-- What the syntax tree of a text has beyond its form: the names in its paths are without the mark of closures' names,
-- the body of a closure is a block, `self` is the first of parameters, and no parameter of a closure; a struct or a
-- variant that is written without parts has none.
use Rattle.std.specs.Prelude.{Bool, true, false, Option, Some, None}
use Rattle.well_typed.specs.Claim.{Claim, fact, ◌&◌, each}
use Rattle.typing_rules.specs.Promises.{is_plain_name}
use Rattle.src_ast.specs.Syntax.{Word, FieldsKind, Unit_, Syn, syn, Shape, AnExpression, AStatement, AnItem, AParam, AVariant, AnInit, AnArm, Expression, Path, Minus, Bang, Star, Ampersand, Calculate, Compare, Both, Either, Store, CallOf, MethodOf, FieldOf, PartOf, ElementOf, StructOf, Parens, TupleOf, ArrayOf, Braces, IfElse, IfLetElse, MatchOn, LoopOf, WhileOf, WhileLetOf, BreakOf, ReturnOf, MoveOf, LetOf, Semi, StructItem, EnumItem, TraitItem, ImplItem, FnItem, SelfParam, list_of, Syns, no_syn, a_syn, MaybeSyn, nothing, just}

abbrev pub is_plain : Option Word → Bool
is_plain None = true
is_plain (Some name) = is_plain_name name

abbrev pub is_block : Syn → Bool
is_block (syn at (AnExpression (Braces statements tail))) = true
is_block _ = false

-- `self` stands nowhere but first
abbrev pub no_self : Syns → Bool
no_self no_syn = true
no_self (a_syn (syn at (AParam (SelfParam receiver))) rest) = false
no_self (a_syn (syn at form) rest) = no_self rest

abbrev pub self_first : Syns → Bool
self_first no_syn = true
self_first (a_syn (syn at (AParam (SelfParam receiver))) rest) = no_self rest
self_first (a_syn (syn at form) rest) = no_self rest

abbrev mutual
  pub shaped : Syn → Claim
  shaped (syn at form) = shaped_form form

  pub shaped_form : Shape → Claim
  shaped_form (AnExpression e) = shaped_expression e
  shaped_form (AStatement (LetOf pattern ty value)) = maybe_shaped value
  shaped_form (AStatement (Semi expression)) = shaped expression
  shaped_form (AnInit name value) = maybe_shaped value
  shaped_form (AnArm pattern guard body) = maybe_shaped guard & shaped body
  shaped_form _ = fact true

  pub shaped_expression : Expression → Claim
  shaped_expression (Path first second) = fact (is_plain first) & fact (is_plain second)
  shaped_expression (Minus operand) = shaped operand
  shaped_expression (Bang operand) = shaped operand
  shaped_expression (Star operand) = shaped operand
  shaped_expression (Ampersand unique operand) = shaped operand
  shaped_expression (Calculate operator left right) = shaped left & shaped right
  shaped_expression (Compare operator left right) = shaped left & shaped right
  shaped_expression (Both left right) = shaped left & shaped right
  shaped_expression (Either left right) = shaped left & shaped right
  shaped_expression (Store place value) = shaped place & shaped value
  shaped_expression (CallOf callee args) = shaped callee & all_shaped args
  shaped_expression (MethodOf receiver name args) = shaped receiver & all_shaped args
  shaped_expression (FieldOf base name) = shaped base
  shaped_expression (PartOf base number) = shaped base
  shaped_expression (ElementOf base index) = shaped base & shaped index
  shaped_expression (StructOf first second inits) = all_shaped inits
  shaped_expression (Parens inside) = shaped inside
  shaped_expression (TupleOf parts) = all_shaped parts
  shaped_expression (ArrayOf elements) = all_shaped elements
  shaped_expression (Braces statements tail) = all_shaped statements & maybe_shaped tail
  shaped_expression (IfElse condition body otherwise) = shaped condition & shaped body & maybe_shaped otherwise
  shaped_expression (IfLetElse pattern scrutinee body otherwise) =
      shaped scrutinee & shaped body & maybe_shaped otherwise
  shaped_expression (MatchOn scrutinee arms) = shaped scrutinee & all_shaped arms
  shaped_expression (LoopOf label body) = shaped body
  shaped_expression (WhileOf label condition body) = shaped condition & shaped body
  shaped_expression (WhileLetOf label pattern scrutinee body) = shaped scrutinee & shaped body
  shaped_expression (BreakOf label value) = maybe_shaped value
  shaped_expression (ReturnOf value) = maybe_shaped value
  shaped_expression (MoveOf captures params answer body) =
      fact (is_block body) & fact (no_self params) & shaped body
  shaped_expression _ = fact true

  pub all_shaped : Syns → Claim
  all_shaped no_syn = fact true
  all_shaped (a_syn first rest) = shaped first & all_shaped rest

  pub maybe_shaped : MaybeSyn → Claim
  maybe_shaped nothing = fact true
  maybe_shaped (just value) = shaped value

-- an item, or a method of one: the body of a function is a block
abbrev pub body_shaped : MaybeSyn → Claim
body_shaped nothing = fact true
body_shaped (just body) = fact (is_block body) & shaped body

abbrev pub function_shaped : Syn → Claim
function_shaped (syn at (AnItem (FnItem name params answer block))) = fact (self_first params) & body_shaped block
function_shaped _ = fact true

-- what is written without parts has none
abbrev pub has_kind : FieldsKind → Syns → Bool
has_kind Unit_ (a_syn first rest) = false
has_kind kind fields = true

abbrev pub variant_shaped : Syn → Claim
variant_shaped (syn at (AVariant name kind fields)) = fact (has_kind kind fields)
variant_shaped _ = fact true

abbrev pub item_shaped : Syn → Claim
item_shaped (syn at (AnItem (StructItem derives name kind fields))) =
    fact (is_plain_name name.1) & fact (has_kind kind fields)
item_shaped (syn at (AnItem (EnumItem derives name variants))) =
    fact (is_plain_name name.1) & each variant_shaped (list_of variants)
item_shaped (syn at (AnItem (TraitItem name heads))) = each function_shaped (list_of heads)
item_shaped (syn at (AnItem (ImplItem trait_ name methods))) = each function_shaped (list_of methods)
item_shaped item = function_shaped item
