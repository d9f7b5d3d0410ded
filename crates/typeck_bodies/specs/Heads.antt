-- What comes before the block of a body, and what is left behind it: each is by definition a part of the row.
use Rattle.std.specs.Prelude.{◌≡◌, ⊤, ℕ, true, false, List, [], ◌∷◌, length, Some, Result, Ok, Err}
use Rattle.mir_base.specs.declared.place_in_text.Pos.{Pos}
use Rattle.mir_base.specs.declared.rule.Rule.{Rule}
use Rattle.mir_base.specs.declared.rule.RuleError.{RuleError}
use Rattle.mir_ty.specs.declared.ty.TyId.{TyId}
use Rattle.src_ast.specs.Syntax.{MaybeSyn, Syns}
use Rattle.typed_tree.specs.Tree.{BodyTree, Node, ParamTree}
use Rattle.typing_rules.specs.Bodies.{answer_of, body_of, inside, name_param, params_of, within_limit}
use Rattle.typing_rules.specs.Check.{Broken, Check, TypingState, ◌>>=◌, in_new_body, pure, with_body}
use Rattle.typing_rules.specs.Rows.{Typer}
use Rattle.typing_rules.specs.Scope.{NamedEntry, Env}
use Rattle.typeck_bodies.specs.Around.{behind_body}
use Rattle.typeck_bodies.specs.Whole.{body_on}
use Rattle.typeck_bodies.specs.declared.nested_bodies.Outer.{Outer}
use Rattle.typeck_checker.specs.Lists.{below_all}
use Rattle.typeck_heads.specs.Answers.{Refuses}
use Rattle.typeck_bodies.specs.ParamAnswers.{last_params}
use Rattle.typeck_bodies.specs.ParamForms.{type_by}
use Rattle.typeck_checker.specs.Stand.{below, env, env_in, stack, state}
use Rattle.typeck_checker.specs.declared.checker.Checker.{Checker}
use Rattle.typeck_bodies.specs.Aside.{with_loops}
use Rattle.typeck_bodies.specs.declared.scopes.BegunBody.{BegunBody}
use Rattle.typeck_bodies.specs.declared.scopes.BodyHead.{BodyHead}

-- ---- before the block

-- behind the parameters
abbrev pub answered : Rule → Pos → ℕ → List ParamTree → Env → MaybeSyn → List NamedEntry → (Env → Typer) → Check BodyTree
answered too_many at n params env answer entries block = do
  t ← answer_of env answer
  b ← block (inside env t entries) (Some t)
  within_limit too_many at (body_of n params t b)

-- from the parameters of a function or a method on
abbrev pub fn_inside : Pos → ℕ → Env → Syns → MaybeSyn → (Env → Typer) → Check BodyTree
fn_inside at n env params answer block = do
  ps ← params_of env (type_by env true) params []
  answered Rule.T19 at n ps.0 env answer ps.1 block

abbrev pub numbered_fn : Pos → ℕ → Env → Syns → MaybeSyn → (Env → Typer) → Check BodyTree
numbered_fn at n env params answer block = with_body (λ b. b) (in_new_body (fn_inside at n env params answer block))

-- from the value of a closure on, which is the first parameter of its body
abbrev pub closure_inside : Rule → Pos → ℕ → TyId → Env → Syns → MaybeSyn → (Env → Typer) → Check BodyTree
closure_inside too_many at n ty env params answer block = do
  self ← name_param at [] ty
  ps ← params_of env (type_by env false) params []
  answered too_many at n (self.0 ∷ ps.0) env answer ps.1 block

-- ---- the block, and what is behind it

abbrev pub block_rest : Rule → Pos → ℕ → List ParamTree → TyId → (Env → Typer) → Env → Check BodyTree
block_rest too_many at n params answer block env = do
  b ← block env (Some answer)
  within_limit too_many at (body_of n params answer b)

-- a check of a body, which stands among the bodies behind it
abbrev pub unvalued : Check BodyTree → Check (Unit {0})
unvalued check = check >>= (λ b. pure tt)

-- a body ends, and the walk goes on in the body around it
abbrev pub closed : Outer → Result (BodyTree × TypingState) Broken → Result (Unit {0} × TypingState) Broken
closed outer (Ok b) = Ok (tt, behind_body outer b.0 b.1)
closed outer (Err e) = Err e

-- the last node is the block
abbrev pub ended : BodyHead → List Node → Check (Unit {0})
ended head nodes = λ s. closed head.outer (body_on head.too_many head.at head.number head.params head.answer nodes s)

-- ---- what calls answer

-- what a check gives with a block, whatever it is, is what the block gives here, and then the rest behind it
abbrev pub GivesBlock : ((Env → Typer) → Check BodyTree) → TypingState → Result BodyHead RuleError → Checker → Type 0
GivesBlock check before (Ok head) after =
    (block : Env → Typer) → check block before
    ≡ block_rest head.too_many head.at head.number (last_params head.params (stack after)) head.answer block (env after) (state after)
GivesBlock check before (Err e) after = (block : Env → Typer) → Refuses (check block before) e

-- the same of a body as a whole
abbrev pub GivesHead : ((Env → Typer) → Check BodyTree) → TypingState → Result BodyHead RuleError → Checker → Type 0
GivesHead check before (Ok head) after =
    (block : Env → Typer) → unvalued (check block) before
    ≡ closed head.outer (block_rest head.too_many head.at head.number (last_params head.params (stack after)) head.answer block
    (env after)
    (state after))
GivesHead check before (Err e) after = (block : Env → Typer) → Refuses (unvalued (check block) before) e

-- the patterns of the parameters stand above what stood there, and what was put aside is where the walk stood
abbrev pub KeepsHead : Checker → Result BodyHead RuleError → Checker → Type 0
KeepsHead before (Ok head) after =
    (below_all (length head.params) (stack after) ≡ stack before)
    × (env_in before.tables head.aside ≡ env before)
    × (after.tables ≡ before.tables)
KeepsHead before (Err e) after = ⊤

abbrev pub KeepsBlock : BegunBody → List TyId → Checker → Result BodyHead RuleError → Checker → Type 0
KeepsBlock begun params before (Ok head) after =
    (stack after ≡ stack before)
    × (after.tables ≡ before.tables)
    × (head.outer ≡ begun.outer)
    × (head.params ≡ params)
    × (env_in before.tables head.aside ≡ with_loops (env before).loops (env_in before.tables begun.aside))
KeepsBlock begun params before (Err e) after = ⊤

-- the body around stands where it stood, and its nodes
abbrev pub Returns : BodyHead → Checker → Checker → Type 0
Returns head before after =
    (stack after ≡ below_all (length head.params) (below (stack before)))
    × (env after ≡ env_in before.tables head.aside)
    × (after.tables ≡ before.tables)
