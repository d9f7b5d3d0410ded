-- The typed node of an expression: one line a form, which hands the checks of its parts to the form's row.
use Rattle.std.specs.Prelude.{ℕ, suc, Bool, true, false, ◌||◌, not, List, [], ◌∷◌, Option, Some, None, is_some, if◌then◌else◌, option_and_then, slice_get}
use Rattle.std.specs.Option.{option_map_or}
use Rattle.mir_base.specs.declared.int_kind.IntKind.{IntKind}
use Rattle.mir_base.specs.declared.place_in_text.Pos.{Pos}
use Rattle.mir_base.specs.declared.rule.Rule.{Rule}
use Rattle.mir_ty.specs.declared.adt.Variant.{Variant}
use Rattle.mir_ty.specs.declared.ty.Ty.{Ty}
use Rattle.mir_ty.specs.declared.ty.TyId.{TyId}
use Rattle.mir_ty.specs.ItemTable.{ItemTable}
use Rattle.typed_tree.specs.Tree as tree
use Rattle.typed_tree.specs.Tree.{Node, Nodes, no_node, a_node, Fields, MaybeNode, absent, present}
use Rattle.well_typed.specs.Places.{ty_of}
use Rattle.well_typed.specs.Types.{is_reference, is_enum, variant_at}
use Rattle.typing_rules.specs.Bodies.{all_rules, closure}
use Rattle.typing_rules.specs.Check.{Check, ◌>>=◌, ◌>>◌, ◌<$>◌, pure, breaks, obeys, known, the_items, interned}
use Rattle.typing_rules.specs.Named.{PathValue, Makes, IsBroken, path_value, Callee, Function, Constructor, Prints, Asks, Drops, Forgets, Boxes, AValue, Unnamed, NoCallee, callee_of, place_inside, method_named}
use Rattle.typing_rules.specs.Patterns.{pattern, count_of, PatternTarget, target_of}
use Rattle.typing_rules.specs.Places.{unit, bool, never, int, variable_place, struct_field, numbered_part}
use Rattle.typing_rules.specs.Rows as rows
use Rattle.typing_rules.specs.Rows.{Typer, Referrer, PatternContext, Given, taken, no_reference, leaf}
use Rattle.typing_rules.specs.Scope.{Env, NamedEntry, variable, with_variables, within_loop, jumps_to, in_guard, adt_named, field_named}
use Rattle.src_ast.specs.Syntax.{Word, Syn, syn, AnExpression, AStatement, APattern, AnInit, AnArm, Expression, Literal, TruthLiteral, Path, Minus, Bang, Star, Ampersand, Calculate, Compare, Both, Either, Store, CallOf, MethodOf, FieldOf, PartOf, ElementOf, StructOf, Parens, TupleOf, ArrayOf, Braces, IfElse, IfLetElse, MatchOn, LoopOf, WhileOf, WhileLetOf, BreakOf, ContinueOf, ReturnOf, MoveOf, PanicOf, Statement, LetOf, Empty, Semi, Pattern, AnyPattern, BindPattern, ParensPattern, Syns, no_syn, a_syn, MaybeSyn, nothing, just}
use Rattle.typing_rules.specs.Written.{written}

abbrev pub has_one : Syns → Bool
has_one no_syn = false
has_one (a_syn first rest) = true

-- ---- paths

abbrev pub makes_unit : Pos → PathValue → Typer
makes_unit at (Makes adt variant) expected = do
  ty ← interned (Ty.Adt adt)
  leaf at ty (tree.Make adt variant tree.no_field) expected
makes_unit at (IsBroken rule) expected = breaks rule at

abbrev pub path_alone : Env → Pos → Option Word → Option Word → Typer
path_alone env at first second expected = do
  items ← the_items
  makes_unit at (path_value items env first second) expected

-- the variable of a path that is one name
abbrev pub variable_of : Env → Option Word → Option Word → Option NamedEntry
variable_of env (Some name) None = variable env.variables name
variable_of env first second = None

abbrev pub path_by : Env → Pos → Option Word → Option Word → Option NamedEntry → Typer
path_by env at first second (Some x) expected = variable_place at x >>= taken env expected
path_by env at first second None expected = path_alone env at first second expected

abbrev pub path : Env → Pos → Option Word → Option Word → Typer
path env at first second = path_by env at first second (variable_of env first second)

-- a variable where a place is gone through
abbrev pub variable_base : Env → Pos → Option Word → Option Word → Option NamedEntry → Check Node
variable_base env at first second (Some x) = variable_place at x
variable_base env at first second None = path_alone env at first second None

-- ---- calls

abbrev pub called_by : Pos → ℕ → Check Node → (List TyId → Check Nodes) → Callee → Typer
called_by at count callee args (Function body is_drop head) =
    rows.call at (tree.Call body) head.result count head.params args (not is_drop)
called_by at count callee args (Constructor adt variant types) = λ expected. do
  ty ← interned (Ty.Adt adt)
  rows.call at (rows.make adt variant) ty count types args true expected
called_by at count callee args Prints = rows.built_in at unit rows.print_form count 1 (args (int IntKind.I32 ∷ []))
called_by at count callee args Asks = rows.built_in at (int IntKind.I32) rows.ask_form count 0 (args [])
called_by at count callee args Drops = rows.built_in at unit rows.drop_form count 1 (args [])
called_by at count callee args Forgets = rows.built_in at unit rows.forget_form count 1 (args [])
called_by at count callee args Boxes = rows.new_box at count args
called_by at count callee args AValue = rows.closure_call at count callee args
called_by at count callee args (Unnamed rule) = λ expected. breaks rule at
called_by at count callee args NoCallee = rows.no_call at Rule.T13 args

-- where a call is refused: one by a name that is not there where the name stands
abbrev pub call_place : Pos → Pos → Callee → Pos
call_place at name (Unnamed rule) = name
call_place at name _ = at

abbrev pub called : Env → Pos → Syn → ℕ → Check Node → (List TyId → Check Nodes) → Typer
called env at callee count value args expected = do
  items ← the_items
  let c = callee_of items env callee
  called_by (call_place at (place_inside callee) c) count value args c expected

-- ---- literals

abbrev pub is_plain_number : Expression → Bool
is_plain_number (Literal value None) = true
is_plain_number _ = false

-- a number without a suffix, with a `-` before it or not, in parentheses or not
abbrev mutual
  pub is_plain : Syn → Bool
  is_plain (syn at (AnExpression e)) = is_plain_form e
  is_plain _ = false

  pub is_plain_form : Expression → Bool
  is_plain_form (Parens inside) = is_plain inside
  is_plain_form (Minus (syn at (AnExpression e))) = is_plain_number e
  is_plain_form e = is_plain_number e

abbrev pub literal_in : Syn → Option (ℕ × Option IntKind)
literal_in (syn at (AnExpression (Literal value suffix))) = Some (value, suffix)
literal_in _ = None

-- a `-` directly before a number belongs to it
abbrev pub minus : Pos → Option (ℕ × Option IntKind) → Typer → Typer
minus at (Some n) operand = rows.literal at true n.0 n.1
minus at None operand = rows.negate at operand

-- ---- references

abbrev pub passed : Pos → Typer → Option NamedEntry → Referrer
passed at by_value None expected is_unique to = by_value (Some expected)
passed at by_value (Some x) expected is_unique to = do
  items ← the_items
  if is_reference items x.ty then rows.passed_on at x expected is_unique to else by_value (Some expected)

-- ---- statements

-- a lone name of a struct is no binding
abbrev pub names_struct : ItemTable → Option ℕ → Bool
names_struct items None = false
names_struct items (Some adt) = not (is_enum items adt)

abbrev mutual
  pub is_one_name : ItemTable → Syn → Bool
  is_one_name items (syn at (APattern p)) = is_one_name_form items p
  is_one_name items _ = false

  pub is_one_name_form : ItemTable → Pattern → Bool
  is_one_name_form items (BindPattern name) = not (names_struct items (adt_named items name))
  is_one_name_form items (ParensPattern inside) = is_one_name items inside
  is_one_name_form items _ = false

-- `_`, in parentheses or not
abbrev mutual
  pub takes_any : Syn → Bool
  takes_any (syn at (APattern p)) = takes_any_form p
  takes_any _ = false

  pub takes_any_form : Pattern → Bool
  takes_any_form AnyPattern = true
  takes_any_form (ParensPattern inside) = takes_any inside
  takes_any_form _ = false

abbrev pub declared : Env → MaybeSyn → Check (Option TyId)
declared env nothing = pure None
declared env (just ty) = Some <$> written (all_rules env) ty

abbrev pub field_want : Variant → Option ℕ → Option TyId
field_want v number = option_and_then (λ k. slice_get v.fields k) number

abbrev pub no_variant : Variant
no_variant = record { name = []; fields = []; field_names = [] }

abbrev pub variant_of : ItemTable → PatternTarget → Variant
variant_of items t = option_map_or (λ v. v) (variant_at items t.adt t.variant) no_variant

abbrev pub or_zero : Option ℕ → ℕ
or_zero None = 0
or_zero (Some k) = k

abbrev pub struct_of : Env → Pos → Option Word → Option Word → (Variant → Check (Fields × Given)) → Typer
struct_of env at first second inits expected = do
  items ← the_items
  t ← known Rule.T01 at (target_of items env first second)
  rows.struct_row at t.adt t.variant (variant_of items t).fields (inits (variant_of items t)) expected

abbrev pub matcher : Env → Syn → rows.Matcher
matcher env p e ty = pattern env e ty p []

-- the first of some wants, and the others
abbrev pub first_want : List (Option TyId) → Option TyId
first_want [] = None
first_want (w ∷ ws) = w

abbrev pub other_wants : List (Option TyId) → List (Option TyId)
other_wants [] = []
other_wants (w ∷ ws) = ws

abbrev pub part_ty : Option TyId → Node → TyId
part_ty None n = ty_of n
part_ty (Some ty) n = ty

abbrev pub a_statement : Node × Bool × Env → Option Node × Bool × Env
a_statement n = (Some n.0, n.1, n.2)

abbrev pub with_statement : Option Node → Nodes → Nodes
with_statement None ns = ns
with_statement (Some n) ns = a_node n ns

abbrev pub tuple : Pos → Syns → (List (Option TyId) → Check (Nodes × List TyId)) → Typer
tuple at no_syn parts = leaf at unit tree.UnitValue
tuple at (a_syn first rest) parts = rows.tuple_row at (suc (count_of rest)) parts

-- A name of a variable, a field, an element, a dereference and such an expression in parentheses are places.
abbrev mutual
  pub is_place_syn : Env → Syn → Bool
  is_place_syn env (syn at (AnExpression e)) = is_place env e
  is_place_syn env _ = false

  pub is_place : Env → Expression → Bool
  is_place env (Path first second) = is_some (variable_of env first second)
  is_place env (FieldOf base name) = true
  is_place env (PartOf base k) = true
  is_place env (ElementOf base index) = true
  is_place env (Star base) = true
  is_place env (Parens inside) = is_place_syn env inside
  is_place env _ = false

-- what may be an argument for a reference: `&e`, and a reference variable
abbrev pub may_refer : Expression → Bool
may_refer (Ampersand unique base) = true
may_refer (Path first second) = true
may_refer (Parens inside) = true
may_refer _ = false

abbrev mutual
  -- an expression whose value is used
  pub typed : Env → Syn → Typer
  typed env (syn at (AnExpression e)) expected =
      if is_place env e then place env at e >>= taken env expected else value env at e expected
  typed env (syn at _) expected = breaks Rule.T20 at

  -- an expression whose place is gone through: a place, or a value that becomes a temporary
  pub base_of : Env → Syn → Check Node
  base_of env (syn at (AnExpression e)) = if is_place env e then place env at e else value env at e None
  base_of env (syn at _) = breaks Rule.T20 at

  pub place : Env → Pos → Expression → Check Node
  place env at (Path first second) = variable_base env at first second (variable_of env first second)
  place env at (FieldOf base name) = rows.field at (struct_field name) (base_of env base)
  place env at (PartOf base k) = rows.field at (numbered_part k) (base_of env base)
  place env at (ElementOf base index) = rows.element at (base_of env base) (typed env index)
  place env at (Star base) = rows.deref at (base_of env base)
  place env at (Parens inside) = base_of env inside
  place env at _ = breaks Rule.T20 at

  pub value : Env → Pos → Expression → Typer
  value env at (Path first second) = path_alone env at first second
  value env at (Parens inside) = typed env inside
  value env at (Literal n suffix) = rows.literal at false n suffix
  value env at (TruthLiteral b) = leaf at bool (tree.Truth b)
  value env at (Minus operand) = minus at (literal_in operand) (typed env operand)
  value env at (Bang operand) = rows.not_row at (typed env operand)
  value env at (Ampersand unique base) = rows.borrow_alone at unique (base_of env base)
  value env at (Calculate operator left right) =
      rows.arithmetic at operator (is_plain left) (typed env left) (typed env right)
  value env at (Compare operator left right) =
      rows.comparison at operator (is_plain left) (typed env left) (typed env right)
  value env at (Both left right) = rows.logic at tree.And (typed env left) (typed env right)
  value env at (Either left right) = rows.logic at tree.Or (typed env left) (typed env right)
  value env at (Store left right) = rows.store env at (base_of env left) (typed env right)
  value env at (CallOf callee args) =
      called env at callee (count_of args) (typed env callee None) (λ params. typed_args env params args)
  value env at (MethodOf receiver name args) =
      rows.method_call env at (method_named name) (count_of args) (base_of env receiver) (λ params. typed_args env
      params args)
  value env at (StructOf first second inits) = struct_of env at first second (λ v. typed_inits env v inits)
  value env at (TupleOf parts) = tuple at parts (λ wants. typed_parts env wants parts)
  value env at (ArrayOf elements) =
      rows.array_row at (count_of elements) (λ expected. typed_elements env expected elements)
  value env at (Braces statements tail) = rows.block at (typed_all env statements) (λ inner. typed_maybe inner tail)
  value env at (IfElse c body nothing) = rows.if_alone at (typed env c) (typed env body)
  value env at (IfElse c body (just otherwise)) = rows.if_else at (typed env c) (typed env body) (typed env otherwise)
  value env at (IfLetElse p scrutinee body nothing) =
      rows.if_let_alone env at (base_of env scrutinee) (matcher env p) (λ xs. typed (with_variables xs env) body)
  value env at (IfLetElse p scrutinee body (just otherwise)) =
      rows.if_let_else env at (base_of env scrutinee) (matcher env p) (λ xs. typed (with_variables xs env) body)
      (typed env otherwise)
  value env at (MatchOn scrutinee arms) =
      λ expected. obeys Rule.T20 at (has_one arms) >>
      rows.match_row env at (base_of env scrutinee) (λ e ty expected. typed_arms env e ty expected arms) expected
  value env at (LoopOf label body) = rows.loop_row at label (λ around. typed (within_loop around env) body)
  value env at (WhileOf label c body) =
      rows.while_row at label (λ around. typed (within_loop around env) c) (λ around. typed (within_loop around env)
      body)
  value env at (WhileLetOf label p scrutinee body) =
      rows.while_let_row env at label (λ around. base_of (within_loop around env) scrutinee) (matcher env p)
      (λ around xs. typed (with_variables xs (within_loop around env)) body)
  value env at (BreakOf label v) = rows.break_row at (jumps_to env.loops label) (typed_maybe env v)
  value env at (ContinueOf label) = rows.continue_row at (jumps_to env.loops label)
  value env at (ReturnOf v) = rows.return_row at env.answer (typed_maybe env v)
  value env at (MoveOf captures params answer body) = closure env at captures params answer (λ inner. typed inner body)
  value env at PanicOf = leaf at never tree.Panic
  value env at e = λ expected. breaks Rule.T20 at

  pub typed_maybe : Env → MaybeSyn → Option TyId → Check MaybeNode
  typed_maybe env nothing expected = pure absent
  typed_maybe env (just e) expected = present <$> typed env e expected

  -- statements, whether one of them has an expression or initialiser of type `!`, and where the rest of the block
  -- stands
  pub typed_all : Env → Syns → Check (Nodes × Bool × Env)
  typed_all env no_syn = pure (no_node, false, env)
  typed_all env (a_syn first rest) = do
    n ← statement env first
    ns ← typed_all n.2 rest
    pure (with_statement n.0 ns.0, n.1 || ns.1, ns.2)

  pub statement : Env → Syn → Check (Option Node × Bool × Env)
  statement env (syn at (AnExpression e)) =
      a_statement <$> rows.evaluate at env false (λ expected. if is_place env e then place env at e >>= taken env
      expected else value env at e expected)
  statement env (syn at (AStatement s)) = other_statement env at s
  statement env (syn at _) = breaks Rule.T20 at

  pub other_statement : Env → Pos → Statement → Check (Option Node × Bool × Env)
  other_statement env at (LetOf p ty initialiser) = do
    items ← the_items
    n ← rows.let_row at env (is_one_name items p) (declared env ty) (initialised env (is_one_name items p)
        (takes_any p) initialiser) (matcher env p) (λ xs. with_variables xs env)
    pure (a_statement n)
  other_statement env at (Semi e) = a_statement <$> rows.evaluate at env true (typed env e)
  other_statement env at Empty = pure (None, false, env)

  -- one name takes the value; another pattern takes the place apart, or a temporary
  pub initialised : Env → Bool → Bool → MaybeSyn → Option TyId → Check MaybeNode
  initialised env is_one_name any nothing expected = pure absent
  initialised env is_one_name any (just e) expected =
      present <$> (if is_one_name then typed env e expected else for_parts env any expected e)

  -- for `_`, or for another pattern that is not one name
  pub for_parts : Env → Bool → Option TyId → Syn → Check Node
  for_parts env any expected (syn at (AnExpression e)) =
      if is_place env e then place env at e >>= rows.place_for_parts env any expected else value env at e expected
  for_parts env any expected (syn at _) = breaks Rule.T20 at

  pub typed_args : Env → List TyId → Syns → Check Nodes
  typed_args env params no_syn = pure no_node
  typed_args env [] (a_syn e es) = do
    n ← typed env e None
    ns ← typed_args env [] es
    pure (a_node n ns)
  typed_args env (param ∷ params) (a_syn e es) = do
    n ← rows.argument param (typed env e) (by_reference env e)
    ns ← typed_args env params es
    pure (a_node n ns)

  pub by_reference : Env → Syn → Referrer
  by_reference env (syn at (AnExpression e)) expected is_unique to =
      if may_refer e then reference_form env at e expected is_unique to
      else (if is_place env e then place env at e >>= taken env (Some expected) else value env at e (Some expected))
  by_reference env (syn at _) expected is_unique to = breaks Rule.T20 at

  pub reference_form : Env → Pos → Expression → Referrer
  reference_form env at (Ampersand unique base) = rows.borrow at unique (base_of env base)
  reference_form env at (Path first second) = passed at (path env at first second) (variable_of env first second)
  reference_form env at (Parens inside) = by_reference env inside
  reference_form env at _ = λ expected is_unique to. breaks Rule.T20 at

  pub typed_inits : Env → Variant → Syns → Check (Fields × Given)
  typed_inits env v no_syn = pure (tree.no_field, [])
  typed_inits env v (a_syn (syn at (AnInit name init)) rest) = do
    n ← init_value env at name init (field_want v (field_named v name))
    fs ← typed_inits env v rest
    pure (tree.a_field (or_zero (field_named v name)) n fs.0, field_named v name ∷ fs.1)
  typed_inits env v (a_syn (syn at form) rest) = breaks Rule.T20 at

  pub init_value : Env → Pos → Word → MaybeSyn → Typer
  init_value env at name nothing = path env at (Some name) None
  init_value env at name (just e) = typed env e

  pub typed_parts : Env → List (Option TyId) → Syns → Check (Nodes × List TyId)
  typed_parts env wants no_syn = pure (no_node, [])
  typed_parts env wants (a_syn e es) = do
    n ← typed env e (first_want wants)
    ns ← typed_parts env (other_wants wants) es
    pure (a_node n ns.0, part_ty (first_want wants) n ∷ ns.1)

  pub typed_elements : Env → Option TyId → Syns → Check (Nodes × List TyId)
  typed_elements env expected no_syn = pure (no_node, [])
  typed_elements env expected (a_syn e es) = do
    n ← typed env e expected
    ns ← typed_elements env expected es
    pure (a_node n ns.0, ty_of n ∷ ns.1)

  pub typed_arms : Env → PatternContext → TyId → Option TyId → Syns → Check (Nodes × List TyId)
  typed_arms env e ty expected no_syn = pure (no_node, [])
  typed_arms env e ty expected (a_syn (syn at (AnArm p guard body)) rest) = do
    n ← rows.arm (pattern env e ty p []) (λ xs. typed_maybe (with_variables (in_guard xs) env) guard (Some bool)) (λ
        xs. typed (with_variables xs env) body) expected
    ns ← typed_arms env e ty expected rest
    pure (a_node n ns.0, ty_of n ∷ ns.1)
  typed_arms env e ty expected (a_syn (syn at form) rest) = breaks Rule.T20 at
