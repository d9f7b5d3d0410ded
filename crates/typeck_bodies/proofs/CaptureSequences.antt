-- Captures one behind another.
use Rattle.std.proofs.Common.{◌≡◌, ℕ, suc, ◌+◌, List, ◌∷◌, Result, Ok, Err, refl, ap, sym, ◌∙◌, arith}
use Rattle.mir_base.specs.declared.rule.RuleError.{RuleError}
use Rattle.typeck_checker.specs.Lists.{below_all, nodes_on}
use Rattle.typeck_heads.specs.Answers.{Refuses}
use Rattle.src_ast.specs.Syntax.{Named, syn, AName}
use Rattle.src_ast.specs.View.{syns_of}
use Rattle.typeck_checker.specs.Stand.{below, top}
use Rattle.typed_tree.specs.Tree.{Node, Nodes, a_node}
use Rattle.typing_rules.specs.Bodies.{capture, captured}
use Rattle.typing_rules.specs.Check.{Check, TypingState, Broken, and_then, pure}
use Rattle.typing_rules.specs.Scope.{Env, NamedEntry}

abbrev pub Listed : Type 0
Listed = Result ((Nodes × List NamedEntry) × TypingState) Broken

-- behind as many nodes, the last of them on top
abbrev pub behind : ℕ → List Node → Listed → Listed
behind k ns (Ok p) = Ok ((nodes_on k ns p.0.0, p.0.1), p.1)
behind k ns (Err e) = Err e

one_node : (k : ℕ) (ns more : List Node) (o : Listed) → below more ≡ ns →
    behind k ns (and_then o (λ cs. pure (a_node (top more) cs.0, cs.1))) ≡ behind (suc k) more o
one_node k ns more (Ok p) under = ap (λ (l : List Node). Ok ((nodes_on k l (a_node (top more) p.0.0), p.0.1), p.1)) (sym under)
one_node k ns more (Err e) under = refl

pub next_is : (k m : ℕ) → m ≡ k + 1 → m ≡ suc k
next_is k m h = omega (arith, h)

pub under_one : (k m : ℕ) (ns more origin : List Node) → below_all k ns ≡ origin → below more ≡ ns → m ≡ k + 1 →
    below_all m more ≡ origin
under_one k m ns more origin h under next = ap (λ (n : ℕ). below_all n more) (next_is k m next) ∙ ap (below_all k) under ∙ h

pub capture_step : (w : Env) (whole : Listed) (k m : ℕ) (ns more : List Node) (all rest : List Named) (name : Named) (xs ys : List NamedEntry) (s t : TypingState) →
    whole ≡ behind k ns (captured w k (syns_of all) xs s) → name ∷ rest ≡ all →
    capture w k (syn name.0 (AName name.1)) xs s ≡ Ok ((top more, ys), t) → below more ≡ ns → m ≡ k + 1 →
    whole ≡ behind m more (captured w m (syns_of rest) ys t)
capture_step w whole k m ns more all rest name xs ys s t h split here under next =
    h ∙ ap (λ (z : List Named). behind k ns (captured w k (syns_of z) xs s)) (sym split)
    ∙ ap (λ o. behind k ns (and_then o (λ c. λ u. and_then (captured w (suc k) (syns_of rest) c.1 u) (λ cs. pure (a_node c.0 cs.0, cs.1))))) here
    ∙ one_node k ns more (captured w (suc k) (syns_of rest) ys t) under
    ∙ ap (λ (n : ℕ). behind n more (captured w n (syns_of rest) ys t)) (sym (next_is k m next))

stopped_behind : {A : Type 0} (k : ℕ) (ns : List Node) (o : Result (A × TypingState) Broken) (f : A → Check (Nodes × List NamedEntry)) (err : RuleError) →
    Refuses o err → Refuses (behind k ns (and_then o f)) err
stopped_behind k ns o f (RuleError.Broken rule at) h = ap (λ p. behind k ns (and_then p f)) h
stopped_behind k ns o f RuleError.Memory h = tt

pub capture_stop : (w : Env) (whole : Listed) (k : ℕ) (ns : List Node) (all rest : List Named) (name : Named) (xs : List NamedEntry) (s : TypingState) (err : RuleError) →
    whole ≡ behind k ns (captured w k (syns_of all) xs s) → name ∷ rest ≡ all →
    Refuses (capture w k (syn name.0 (AName name.1)) xs s) err → Refuses whole err
capture_stop w whole k ns all rest name xs s (RuleError.Broken rule at) h split here =
    h ∙ ap (λ (z : List Named). behind k ns (captured w k (syns_of z) xs s)) (sym split)
    ∙ stopped_behind k ns (capture w k (syn name.0 (AName name.1)) xs s) (λ c. λ u. and_then (captured w (suc k) (syns_of rest) c.1 u) (λ cs. pure (a_node c.0 cs.0, cs.1))) (RuleError.Broken rule at) here
capture_stop w whole k ns all rest name xs s RuleError.Memory h split here = tt
