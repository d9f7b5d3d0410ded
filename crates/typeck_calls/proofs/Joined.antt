-- How a call is joined of its beginning, its arguments and its end, and a struct expression of its fields.
use Rattle.std.proofs.Common.{◌≡◌, ℕ, List, Result, Ok, ap, sym, subst, ◌∙◌}
use Rattle.mir_base.specs.declared.rule.RuleError.{RuleError}
use Rattle.mir_ty.specs.declared.ty.TyId.{TyId}
use Rattle.typeck_heads.specs.Answers.{Refuses}
use Rattle.typeck_calls.specs.Calls.{Arguments, GivesCall}
use Rattle.typeck_calls.specs.Inits.{GivesFields}
use Rattle.typeck_checker.specs.Stand.{Gives, stack, state, top}
use Rattle.typeck_checker.specs.declared.checker.Checker.{Checker}
use Rattle.typed_tree.specs.Tree.{Fields, Node, Nodes}
use Rattle.typing_rules.specs.Check.{Broken, Check, TypingState, and_then}
use Rattle.typing_rules.specs.Rows.{Given}

refused : {A B : Type 0} (o : Result (A × TypingState) Broken) (f : A → Check B) (e : RuleError) → Refuses o e → Refuses (and_then o f) e
refused o f (RuleError.Broken rule at) h = ap (λ r. and_then r f) h
refused o f RuleError.Memory h = tt

-- ---- calls

module _ {B : Type 0} (check : ℕ → Arguments → Check Node) (s : TypingState) (params : B → List TyId)
    (rest : B → Node → ℕ → Nodes → Check Node) (b : B) (between : Checker) (count : ℕ) (args : Arguments)
    (given : GivesCall check s params rest (Ok b) between) where
  pub call_joined : (nodes : Nodes) (t : TypingState) (r : Result (Unit {0}) RuleError) (after : Checker) →
      args (params b) (state between) ≡ Ok (nodes, t) → Gives (rest b (top (stack between)) count nodes t) r after → Gives (check count args s) r after
  call_joined nodes t r after e h =
      subst (λ (o : Result (Node × TypingState) Broken). Gives o r after)
      (sym (given count args ∙ ap (λ o. and_then o (rest b (top (stack between)) count)) e)) h

  pub call_refused : (e : RuleError) → Refuses (args (params b) (state between)) e → Refuses (check count args s) e
  call_refused e h =
      subst (λ (o : Result (Node × TypingState) Broken). Refuses o e) (sym (given count args))
      (refused (args (params b) (state between)) (rest b (top (stack between)) count) e h)

-- ---- struct expressions

module _ {B : Type 0} (check : Check (Fields × Given) → Check Node) (s : TypingState) (rest : B → Fields × Given → Check Node) (b : B)
    (between : Checker) (fields : Check (Fields × Given)) (given : GivesFields check s rest (Ok b) between) where
  pub fields_joined : (fs : Fields × Given) (t : TypingState) (r : Result (Unit {0}) RuleError) (after : Checker) →
      fields (state between) ≡ Ok (fs, t) → Gives (rest b fs t) r after → Gives (check fields s) r after
  fields_joined fs t r after e h =
      subst (λ (o : Result (Node × TypingState) Broken). Gives o r after)
      (sym (given fields ∙ ap (λ o. and_then o (rest b)) e)) h

  pub fields_refused : (e : RuleError) → Refuses (fields (state between)) e → Refuses (check fields s) e
  fields_refused e h =
      subst (λ (o : Result (Node × TypingState) Broken). Refuses o e) (sym (given fields))
      (refused (fields (state between)) (rest b) e h)
