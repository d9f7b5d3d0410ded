-- Parameters, and bodies as a whole.
use Rattle.std.specs.Prelude.{ℕ, suc, Bool, true, false, ◌||◌, not, List, [], ◌∷◌, ◌++◌, length, nat_le, map, Option, Some, None, is_some, if◌then◌else◌}
use Rattle.mir_base.specs.declared.place_in_text.Pos.{Pos}
use Rattle.mir_base.specs.declared.rule.Rule.{Rule}
use Rattle.mir_ty.specs.declared.ty.Ty.{Ty}
use Rattle.mir_ty.specs.declared.ty.TyId.{TyId}
use Rattle.mir_ty.specs.ItemTable.{ItemTable}
use Rattle.typed_tree.specs.Nodes.{numbers_of}
use Rattle.typed_tree.specs.Tree as tree
use Rattle.typed_tree.specs.Tree.{Node, Form, Nodes, no_node, a_node, ParamTree, BodyTree}
use Rattle.well_typed.specs.Types.{is_reference}
use Rattle.typing_rules.specs.Check.{Check, ◌>>=◌, ◌>>◌, pure, breaks, obeys, known, the_items, number, body_number, interned, closure_added, with_body, in_new_body}
use Rattle.typing_rules.specs.Numbered.{in_text_order}
use Rattle.typing_rules.specs.Patterns.{pattern}
use Rattle.typing_rules.specs.Places.{used, a_node_of, agrees, unit, variable_place}
use Rattle.typing_rules.specs.Rows.{Typer, PatternContext, taking, taken, fitted}
use Rattle.typing_rules.specs.Scope.{Env, NamedEntry, Local, Capture, variable, with_variables}
use Rattle.src_ast.specs.Syntax.{Word, Receiver, ByValue, ByShared, ByUnique, Syn, syn, AName, APattern, AParam, Pattern, AnyPattern, BindPattern, ParensPattern, ParamOf, SelfParam, Syns, no_syn, a_syn, MaybeSyn, nothing, just}
use Rattle.src_ast.specs.View.{self_name}
use Rattle.typing_rules.specs.Written as types_
use Rattle.typing_rules.specs.Written.{written, written_param}

abbrev pub all_rules : Env → types_.WrittenScope
all_rules env = record { has_limits = true; self_adt = env.self_adt; adts = env.adts; traits = env.traits }

-- the type that is written, or `()`
abbrev pub answer_of : Env → MaybeSyn → Check TyId
answer_of env nothing = pure unit
answer_of env (just ty) = written (all_rules env) ty

-- ---- parameters

abbrev pub self_ty : Receiver → TyId → Check TyId
self_ty ByValue ty = pure ty
self_ty ByShared ty = interned (Ty.Shared ty)
self_ty ByUnique ty = interned (Ty.Unique ty)

abbrev pub receiver_end : Receiver → ℕ → Check TyId
receiver_end receiver n = do
  own ← interned (Ty.Adt n)
  self_ty receiver own

abbrev pub receiver_ty : Env → Pos → Receiver → Check TyId
receiver_ty env at receiver = do
  n ← known Rule.T01 at env.self_adt
  receiver_end receiver n

abbrev pub name_entry : Word → TyId → ℕ → NamedEntry
name_entry name ty key = record { name = name; ty = ty; meaning = Local key }

-- a parameter that is one name
abbrev pub name_param : Pos → Word → TyId → Check (ParamTree × NamedEntry)
name_param at name ty = do
  id ← number
  items ← the_items
  let pattern = used (taking items ty) (a_node_of id at ty (tree.Binding name))
  pure (record { pattern = pattern; ty = ty }, name_entry name ty id)

abbrev mutual
  pub is_name_or_wildcard : Syn → Bool
  is_name_or_wildcard (syn at (APattern p)) = is_name_or_wildcard_form p
  is_name_or_wildcard _ = false

  pub is_name_or_wildcard_form : Pattern → Bool
  is_name_or_wildcard_form AnyPattern = true
  is_name_or_wildcard_form (BindPattern name) = true
  is_name_or_wildcard_form (ParensPattern inside) = is_name_or_wildcard inside
  is_name_or_wildcard_form _ = false

abbrev pub param_pattern_context : PatternContext
param_pattern_context = record { is_fixed = false; takes_all = true }

abbrev pub self_param_end : Pos → TyId → List NamedEntry → Check (ParamTree × List NamedEntry)
self_param_end at ty earlier = do
  p ← name_param at self_name ty
  pure (p.0, earlier ++ p.1 ∷ [])

abbrev pub self_param : Env → Pos → Receiver → List NamedEntry → Check (ParamTree × List NamedEntry)
self_param env at receiver earlier = do
  ty ← receiver_ty env at receiver
  self_param_end at ty earlier

abbrev pub part_param_end : Env → TyId → Syn → List NamedEntry → Check (ParamTree × List NamedEntry)
part_param_end env ty p earlier = do
  n ← pattern env param_pattern_context ty p earlier
  pure (record { pattern = n.0; ty = ty }, n.1)

abbrev pub pattern_param_end : Env → Pos → TyId → Syn → List NamedEntry → Check (ParamTree × List NamedEntry)
pattern_param_end env at ty p earlier = do
  items ← the_items
  obeys Rule.T08 at (is_name_or_wildcard p || not (is_reference items ty))
  part_param_end env ty p earlier

-- the type comes before the pattern, as in a `let`; a reference has a name or `_` for its pattern
abbrev pub param : Env → (Syn → Check TyId) → Syn → List NamedEntry → Check (ParamTree × List NamedEntry)
param env ty_of_param (syn at (AParam (ParamOf p ty))) earlier = do
  t ← ty_of_param ty
  pattern_param_end env at t p earlier
param env ty_of_param (syn at (AParam (SelfParam receiver))) earlier = self_param env at receiver earlier
param env ty_of_param (syn at _) earlier = breaks Rule.T20 at

abbrev pub params_of : Env → (Syn → Check TyId) → Syns → List NamedEntry → Check (List ParamTree × List NamedEntry)
params_of env ty_of_param no_syn earlier = pure ([], earlier)
params_of env ty_of_param (a_syn first rest) earlier = do
  p ← param env ty_of_param first earlier
  ps ← params_of env ty_of_param rest p.1
  pure (p.0 ∷ ps.0, ps.1)

-- ---- bodies

-- at most 2,048 nodes; more break this rule
abbrev pub within_limit : Rule → Pos → BodyTree → Check BodyTree
within_limit rule at body = do
  obeys rule at (nat_le (length (numbers_of body)) 2048)
  pure body

abbrev pub body_of : ℕ → List ParamTree → TyId → Node → BodyTree
body_of n params answer block = in_text_order (record { number = n; params = params; answer = answer; block = block })

abbrev pub inside : Env → TyId → List NamedEntry → Env
inside env answer entries = with_variables entries (record env { loops = []; answer = answer })

-- the body of a function or a method; it stands before those of its closures
abbrev pub fn_body : Env → Pos → Syns → MaybeSyn → (Env → Typer) → Check BodyTree
fn_body env at params answer block = do
  n ← body_number
  with_body (λ b. b) (in_new_body do
    ps ← params_of env (written_param (all_rules env)) params []
    ty ← answer_of env answer
    b ← block (inside env ty ps.1) (Some ty)
    within_limit Rule.T19 at (body_of n ps.0 ty b))

-- ---- closures

-- captures: each a use of a variable outside, which has a name of its own
abbrev pub is_captured : Word → List NamedEntry → Bool
is_captured name entries = is_some (variable entries name)

-- once a variable of this name is known to be there, and the name to be new
abbrev pub capture_end : Env → ℕ → Pos → Word → NamedEntry → List NamedEntry → Check (Node × List NamedEntry)
capture_end env k at name x earlier = do
  p ← variable_place at x
  n ← taken env None p
  pure (n, earlier ++ record { name = name; ty = x.ty; meaning = Capture 0 k } ∷ [])

abbrev pub capture : Env → ℕ → Syn → List NamedEntry → Check (Node × List NamedEntry)
capture env k (syn at (AName name)) earlier = do
  obeys Rule.T01 at (is_captured name env.variables)
  obeys Rule.T02 at (not (is_captured name earlier))
  x ← known Rule.T01 at (variable env.variables name)
  capture_end env k at name x earlier
capture env k (syn at _) earlier = breaks Rule.T20 at

abbrev pub captured : Env → ℕ → Syns → List NamedEntry → Check (Nodes × List NamedEntry)
captured env k no_syn earlier = pure (no_node, earlier)
captured env k (a_syn first rest) earlier = do
  c ← capture env k first earlier
  cs ← captured env (suc k) rest c.1
  pure (a_node c.0 cs.0, cs.1)

abbrev pub types_of : List NamedEntry → List TyId
types_of entries = map (λ x. x.ty) entries

-- inside, the captured names are the parts of the closure's value, which is the first parameter
abbrev pub inside_closure : Env → List NamedEntry → Env
inside_closure env captures = with_variables captures (record env { variables = [] })

abbrev pub closure_body : Env → Rule → Pos → ℕ → TyId → List NamedEntry → Syns → MaybeSyn → (Env → Typer) →
    Check BodyTree
closure_body env too_many at n ty captures params answer block = with_body (λ b. b) (in_new_body do
  self ← name_param at [] ty
  ps ← params_of (inside_closure env captures) (written (all_rules env)) params []
  t ← answer_of env answer
  b ← block (inside (inside_closure env captures) t ps.1) (Some t)
  within_limit too_many at (body_of n (self.0 ∷ ps.0) t b))

-- The rule that a closure with too many nodes breaks: a type that differs from the one that is required is the lower
-- rule of the same node.
abbrev pub too_many_rule : ItemTable → Option TyId → TyId → Rule
too_many_rule items expected ty = if agrees items expected ty then Rule.T19 else Rule.T03

-- a closure: its captures are typed outside, its block in a body of its own
abbrev pub closure : Env → Pos → Syns → Syns → MaybeSyn → (Env → Typer) → Typer
closure env at captures params answer block expected = do
  id ← number
  n ← body_number
  caps ← captured env 0 captures []
  k ← closure_added (types_of caps.1) n
  ty ← interned (Ty.Closure k)
  items ← the_items
  _ ← closure_body env (too_many_rule items expected ty) at n ty caps.1 params answer block
  fitted expected (a_node_of id at ty (tree.Closure k caps.0))
