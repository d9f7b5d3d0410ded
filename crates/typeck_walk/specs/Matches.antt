-- The rest of a row with patterns, once what the patterns look at is checked: each is by definition the end of the row.
use Rattle.std.specs.Prelude.{ℕ, false, List, [], Option, Some, None}
use Rattle.mir_base.specs.declared.place_in_text.Pos.{Pos}
use Rattle.mir_base.specs.declared.rule.Rule.{Rule}
use Rattle.mir_ty.specs.declared.ty.TyId.{TyId}
use Rattle.src_ast.specs.Syntax.{Word, Syn, syn, Shape, AnArm, Syns, MaybeSyn, nothing, just}
use Rattle.typed_tree.specs.Tree as tree
use Rattle.typed_tree.specs.Tree.{Node, absent}
use Rattle.typing_rules.specs.Check.{Check, ◌>>=◌, breaks, the_items}
use Rattle.typing_rules.specs.Patterns.{pattern}
use Rattle.typing_rules.specs.Places.{a_node_of, bool, unit}
use Rattle.typing_rules.specs.Rows.{arm, arm_end, if_let_else_end, loop_around, match_end, pattern_context, PatternContext, settled}
use Rattle.typing_rules.specs.Scope.{Env, NamedEntry, in_guard, with_variables, within_loop}
use Rattle.typing_rules.specs.Typed.{matcher, typed, typed_arms, typed_maybe}
use Rattle.well_typed.specs.Places.{ty_of}

-- ---- arms

-- an arm by its form: `None` is none
abbrev pub arm_check : Env → PatternContext → TyId → Option TyId → Pos → Option Shape → Check Node
arm_check env e ty expected at (Some (AnArm p guard body)) =
    arm (pattern env e ty p []) (λ xs. typed_maybe (with_variables (in_guard xs) env) guard (Some bool))
    (λ xs. typed (with_variables xs env) body) expected
arm_check env e ty expected at _ = breaks Rule.T20 at

abbrev pub arm_of_syn : Env → PatternContext → TyId → Option TyId → Syn → Check Node
arm_of_syn env e ty expected (syn at form) = arm_check env e ty expected at (Some form)

-- an arm, once its pattern is checked
abbrev pub arm_parts : Env → ℕ → Node → List NamedEntry → MaybeSyn → Syn → Option TyId → Check Node
arm_parts env id p xs guard body expected = do
  g ← typed_maybe (with_variables (in_guard xs) env) guard (Some bool)
  b ← typed (with_variables xs env) body expected
  arm_end id p g b

-- a `match`, once its scrutinee is checked
abbrev pub arms_rest : Env → ℕ → Pos → Node → Syns → Option TyId → Check Node
arms_rest env id at s arms expected = do
  before ← the_items
  rows ← typed_arms env (pattern_context env false s before) (ty_of s) expected arms
  match_end id at expected s rows.0 rows.1

-- ---- `if let`

-- once its pattern is checked, and once its scrutinee is
abbrev pub if_let_parts : Env → ℕ → Pos → Node → Node → List NamedEntry → Syn → MaybeSyn → Option TyId → Check Node
if_let_parts env id at s p xs body nothing expected = do
  b ← typed (with_variables xs env) body (Some unit)
  settled expected (a_node_of id at unit (tree.IfLet p s b absent))
if_let_parts env id at s p xs body (just otherwise) expected = do
  b ← typed (with_variables xs env) body expected
  o ← typed env otherwise expected
  if_let_else_end id at expected s p b o

abbrev pub if_let_rest : Env → ℕ → Pos → Node → Syn → Syn → MaybeSyn → Option TyId → Check Node
if_let_rest env id at s p body otherwise expected = do
  before ← the_items
  n ← matcher env p (pattern_context env false s before) (ty_of s)
  if_let_parts env id at s n.0 n.1 body otherwise expected

-- ---- `while let`

-- once its scrutinee is checked
abbrev pub while_let_rest : Env → ℕ → Pos → Option Word → Node → Syn → Syn → Option TyId → Check Node
while_let_rest env id at label s p body expected = do
  items ← the_items
  n ← matcher env p (pattern_context env false s items) (ty_of s)
  b ← typed (with_variables n.1 (within_loop (loop_around label id false None) env)) body (Some unit)
  settled expected (a_node_of id at unit (tree.WhileLet n.0 s b))
