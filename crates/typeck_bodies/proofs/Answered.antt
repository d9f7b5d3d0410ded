-- What calls answer of the part of a body that is before its block, whatever they answer.
use Rattle.std.specs.Bool.{⊤}
use Rattle.std.proofs.Common.{◌≡◌, List, length, Result, Ok, Err, refl, ap, sym, subst, ◌∙◌}
use Rattle.mir_base.specs.declared.rule.RuleError.{RuleError}
use Rattle.mir_ty.specs.declared.ty.TyId.{TyId}
use Rattle.typed_tree.specs.Tree.{BodyTree}
use Rattle.typing_rules.specs.Check.{Broken, Check, TypingState}
use Rattle.typing_rules.specs.Rows.{Typer}
use Rattle.typing_rules.specs.Scope.{LabelledLoop, Env}
use Rattle.typeck_bodies.specs.declared.nested_bodies.Outer.{Outer}
use Rattle.typeck_checker.specs.Lists.{below_all}
use Rattle.typeck_heads.specs.Answers.{Refuses}
use Rattle.typeck_bodies.specs.ParamAnswers.{last_params}
use Rattle.typeck_checker.specs.Stand.{ChangesNothing, Stays, env, env_in, stack, state}
use Rattle.typeck_checker.specs.declared.checker.Checker.{Checker}
use Rattle.typeck_checker.specs.declared.body_scope.BodyScope.{BodyScope}
use Rattle.typeck_checker.specs.declared.tables.Tables.{Tables}
use Rattle.typeck_bodies.specs.Aside.{with_loops}
use Rattle.typeck_bodies.specs.Heads.{GivesBlock, GivesHead, KeepsBlock, KeepsHead, block_rest, closed, unvalued}
use Rattle.typeck_bodies.specs.Scoped.{KeepsSelf}
use Rattle.typeck_bodies.specs.declared.scopes.BegunBody.{BegunBody}
use Rattle.typeck_bodies.specs.declared.scopes.BodyHead.{BodyHead}
use Rattle.typeck_bodies.proofs.Bodies.{refused_closed}

abbrev Body : Type 0
Body = (Env → Typer) → Check BodyTree

-- a check that is another one here
pub through : (check other : Body) (s t : TypingState) (r : Result BodyHead RuleError) (after : Checker) → ((block : Env → Typer) → check block s ≡ other block t) →
    GivesBlock other t r after → GivesBlock check s r after
through check other s t (Ok head) after row given = λ block. row block ∙ given block
through check other s t (Err e) after row given =
    λ block. subst (λ (o : Result (BodyTree × TypingState) Broken). Refuses o e) (sym (row block)) (given block)

pub through_head : (check other : Body) (s t : TypingState) (r : Result BodyHead RuleError) (after : Checker) →
    ((block : Env → Typer) → unvalued (check block) s ≡ unvalued (other block) t) → GivesHead other t r after → GivesHead check s r after
through_head check other s t (Ok head) after row given = λ block. row block ∙ given block
through_head check other s t (Err e) after row given =
    λ block. subst (λ (o : Result (Unit {0} × TypingState) Broken). Refuses o e) (sym (row block)) (given block)

abbrev pub HasOuter : Outer → Result BodyHead RuleError → Type 0
HasOuter outer (Ok head) = head.outer ≡ outer
HasOuter outer (Err e) = ⊤

pub block_outer : (begun : BegunBody) (params : List TyId) (before after : Checker) (r : Result BodyHead RuleError) → KeepsBlock begun params before r after → HasOuter begun.outer r
block_outer begun params before after (Ok head) kept = kept.2
block_outer begun params before after (Err e) kept = tt

pub self_outer : (begun : BegunBody) (before after : Checker) (r : Result BodyHead RuleError) → KeepsSelf begun before r after → HasOuter begun.outer r
self_outer begun before after (Ok head) kept = kept.2
self_outer begun before after (Err e) kept = tt

-- the part of a body, as the body
pub whole : (check inner : Body) (outer : Outer) (s t : TypingState) (r : Result BodyHead RuleError) (after : Checker) →
    ((block : Env → Typer) → unvalued (check block) s ≡ closed outer (inner block t)) → HasOuter outer r → GivesBlock inner t r after → GivesHead check s r after
whole check inner outer s t (Ok head) after row is given =
    λ block. row block ∙ ap (closed outer) (given block)
    ∙ ap (λ (o : Outer). closed o (block_rest head.too_many head.at head.number (last_params head.params (stack after)) head.answer block (env after) (state after))) (sym is)
whole check inner outer s t (Err e) after row is given =
    λ block. subst (λ (o : Result (Unit {0} × TypingState) Broken). Refuses o e) (sym (row block)) (refused_closed outer (inner block t) e (given block))

-- where the body around stands
aside_again : (t u : Tables) (here there : BodyScope) (around loops : List LabelledLoop) (e : Env) → t ≡ u → env_in t here ≡ with_loops around (env_in t there) → around ≡ loops →
    with_loops loops (env_in u there) ≡ e → env_in u here ≡ e
aside_again t u here there around loops e same is loop_same back =
    subst (λ (v : Tables). env_in v here ≡ with_loops around (env_in v there)) same is ∙ ap (λ (ls : List LabelledLoop). with_loops ls (env_in u there)) loop_same ∙ back

pub self_kept : (begun : BegunBody) (params : List TyId) (before middle after : Checker) (r : Result BodyHead RuleError) → below_all (length params) (stack middle) ≡ stack before →
    Stays before middle → KeepsBlock begun params middle r after → KeepsSelf begun before r after
self_kept begun params before middle after (Ok head) under stays kept = (
  ap (λ (l : List TyId). below_all (length l) (stack after)) kept.3 ∙ ap (below_all (length params)) kept.0 ∙ under,
  kept.1 ∙ stays.1,
  kept.2,
  aside_again middle.tables before.tables head.aside begun.aside (env middle).loops (env before).loops _ stays.1 kept.4 (ap (λ (e : Env). e.loops) stays.0) refl,
)
self_kept begun params before middle after (Err e) under stays kept = tt

pub head_kept : (begun : BegunBody) (before middle after : Checker) (r : Result BodyHead RuleError) → stack middle ≡ stack before → middle.tables ≡ before.tables →
    (env middle).loops ≡ (env before).loops → with_loops (env before).loops (env_in before.tables begun.aside) ≡ env before → KeepsSelf begun middle r after →
    KeepsHead before r after
head_kept begun before middle after (Ok head) stacks tables loops back kept = (
  kept.0 ∙ stacks,
  aside_again middle.tables before.tables head.aside begun.aside (env middle).loops (env before).loops (env before) tables kept.3 loops back,
  kept.1 ∙ tables,
)
head_kept begun before middle after (Err e) stacks tables loops back kept = tt

pub numbered_kept : (before middle after : Checker) (r : Result BodyHead RuleError) → ChangesNothing before middle → KeepsHead middle r after → KeepsHead before r after
numbered_kept before middle after (Ok head) same kept = (
  kept.0 ∙ same.0,
  ap (λ (t : Tables). env_in t head.aside) (sym same.1.1) ∙ kept.1 ∙ same.1.0,
  kept.2 ∙ same.1.1,
)
numbered_kept before middle after (Err e) same kept = tt
