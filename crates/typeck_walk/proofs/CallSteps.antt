-- Calls, once their arguments are checked.
use Rattle.std.proofs.Common.{◌≡◌, ℕ, List, Option, Result, Ok, ap, sym, subst, ◌∙◌}
use Rattle.typeck_calls.specs.Calls.{Arguments}
use Rattle.typeck_heads.proofs.Sequences.{stopped}
use Rattle.typeck_heads.specs.Answers.{Refuses}
use Rattle.mir_base.specs.declared.rule.RuleError.{RuleError}
use Rattle.mir_base.specs.declared.place_in_text.Pos.{Pos}
use Rattle.mir_ty.specs.declared.ty.TyId.{TyId}
use Rattle.typed_tree.specs.Tree.{Node, Nodes}
use Rattle.typing_rules.specs.Check.{Check, TypingState, Broken, ◌>>=◌, and_then, number}
use Rattle.typing_rules.specs.Places.{Member}
use Rattle.typing_rules.specs.Rows.{closure_call, closure_end, Method, method_call, method_end}
use Rattle.typing_rules.specs.Scope.{Env}

-- a call behind its arguments
pub behind_args : (check : ℕ → Arguments → Check Node) (args : Arguments) (params : List TyId) (rest : Node → ℕ → Nodes → Check Node)
    (n : Node) (count m : ℕ) (given : Nodes) (s t u : TypingState) → check count args s ≡ (args params >>= rest n count) t →
    args params t ≡ Ok (given, u) → m ≡ count → check count args s ≡ rest n m given u
behind_args check args params rest n count m given s t u h here is =
    h ∙ ap (λ o. and_then o (rest n count)) here ∙ ap (λ (k : ℕ). rest n k given u) (sym is)

-- a value that is called, once it is checked
pub closure_called : (at : Pos) (count : ℕ) (callee : Check Node) (args : Arguments) (expected : Option TyId) (id : ℕ) (c : Node) (s s1 s2 : TypingState) →
    number s ≡ Ok (id, s1) → callee s1 ≡ Ok (c, s2) → closure_call at count callee args expected s ≡ closure_end id at expected c count args s2
closure_called at count callee args expected id c s s1 s2 h1 h2 =
    ap (λ o. and_then o (λ i. callee >>= (λ c. closure_end i at expected c count args))) h1
    ∙ ap (λ o. and_then o (λ c. closure_end id at expected c count args)) h2

-- a method that is called, once its receiver is checked
pub method_called : (e f : Env) (at : Pos) (named : Member Method) (count : ℕ) (receiver : Check Node) (args : Arguments) (expected : Option TyId) (id : ℕ) (b : Node) (s s1 s2 : TypingState) →
    number s ≡ Ok (id, s1) → receiver s1 ≡ Ok (b, s2) → f ≡ e →
    method_call e at named count receiver args expected s ≡ method_end f id at named expected b count args s2
method_called e f at named count receiver args expected id b s s1 s2 h1 h2 same =
    ap (λ o. and_then o (λ i. receiver >>= (λ b. method_end e i at named expected b count args))) h1
    ∙ ap (λ o. and_then o (λ b. method_end e id at named expected b count args)) h2
    ∙ ap (λ (g : Env). method_end g id at named expected b count args s2) (sym same)

-- arguments that are refused
pub refused_args : (check : ℕ → Arguments → Check Node) (args : Arguments) (params : List TyId) (rest : Node → ℕ → Nodes → Check Node)
    (n : Node) (count : ℕ) (s t : TypingState) (err : RuleError) → check count args s ≡ (args params >>= rest n count) t →
    Refuses (args params t) err → Refuses (check count args s) err
refused_args check args params rest n count s t err h here =
    subst (λ (o : Result (Node × TypingState) Broken). Refuses o err) (sym h) (stopped (args params t) (rest n count) err here)
