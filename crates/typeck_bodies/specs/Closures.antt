-- A closure up to its body, and the rest of its row behind it.
use Rattle.std.specs.Prelude.{◌≡◌, ⊤, ℕ, List, [], reverse, Option, Result, Ok, Err}
use Rattle.mir_base.specs.declared.place_in_text.Pos.{Pos}
use Rattle.mir_base.specs.declared.rule.RuleError.{RuleError}
use Rattle.mir_ty.specs.declared.ty.Ty.{Ty}
use Rattle.mir_ty.specs.declared.ty.TyId.{TyId}
use Rattle.src_ast.specs.Syntax.{MaybeSyn, Syns}
use Rattle.typed_tree.specs.Tree as tree
use Rattle.typed_tree.specs.Tree.{Node, Nodes}
use Rattle.typing_rules.specs.Bodies.{captured, closure_body, too_many_rule, types_of}
use Rattle.typing_rules.specs.Check.{Broken, Check, TypingState, ◌>>=◌, body_number, closure_added, interned, number, pure, the_items}
use Rattle.typing_rules.specs.Places.{a_node_of}
use Rattle.typing_rules.specs.Rows.{Typer, fitted}
use Rattle.typing_rules.specs.Scope.{NamedEntry, Env}
use Rattle.typeck_checker.specs.Lists.{below_all, last_nodes}
use Rattle.typeck_heads.specs.Answers.{Refuses}
use Rattle.typeck_checker.specs.Stand.{Stays, stack, state}
use Rattle.typeck_checker.specs.declared.checker.Checker.{Checker}
use Rattle.typeck_bodies.specs.declared.closures.ClosureBegun.{ClosureBegun}
use Rattle.typeck_bodies.specs.declared.closures.ClosureTy.{ClosureTy}

-- the number of a closure with these captures and this body, and of its type
abbrev pub closure_ty : List NamedEntry → ℕ → Check (ℕ × TyId)
closure_ty captures body = do
  k ← closure_added (types_of captures) body
  ty ← interned (Ty.Closure k)
  pure (k, ty)

abbrev pub ty_seen : ClosureTy → ℕ × TyId
ty_seen c = (c.closure, c.ty)

-- a closure whose body is still to come: the numbers of its node and of its body, its captures and what they are
-- inside, its own number and that of its type
pub record Start : Type 0 where
  pub id : ℕ
  pub body : ℕ
  pub captures : Nodes
  pub entries : List NamedEntry
  pub closure : ℕ
  pub ty : TyId

abbrev pub started_at : Env → ℕ → ℕ → Syns → Check Start
started_at env id n captures = do
  caps ← captured env 0 captures []
  c ← closure_ty caps.1 n
  pure (record { id = id; body = n; captures = caps.0; entries = caps.1; closure = c.0; ty = c.1 })

abbrev pub started : Env → Syns → Check Start
started env captures = do
  id ← number
  n ← body_number
  started_at env id n captures

-- the rest of the row
abbrev pub closure_rest : Env → Pos → Start → Syns → MaybeSyn → (Env → Typer) → Option TyId → Check Node
closure_rest env at begun params answer block expected = do
  items ← the_items
  _ ← closure_body env (too_many_rule items expected begun.ty) at begun.body begun.ty begun.entries params answer block
  fitted expected (a_node_of begun.id at begun.ty (tree.Closure begun.closure begun.captures))

-- ---- what calls answer: the nodes of the captures are the last ones

abbrev pub start_of : ClosureBegun → List Node → Start
start_of begun nodes =
    record {
      id = begun.id.0;
      body = begun.body;
      captures = last_nodes begun.count nodes;
      entries = reverse begun.captures;
      closure = begun.closure;
      ty = begun.ty;
    }

abbrev pub GivesStart : Result (Start × TypingState) Broken → Result ClosureBegun RuleError → Checker → Type 0
GivesStart outcome (Ok begun) after = outcome ≡ Ok (start_of begun (stack after), state after)
GivesStart outcome (Err e) after = Refuses outcome e

abbrev pub KeepsStart : List Node → Checker → Result ClosureBegun RuleError → Checker → Type 0
KeepsStart others before (Ok begun) after = (below_all begun.count (stack after) ≡ others) × Stays before after
KeepsStart others before (Err e) after = ⊤
