-- Steps of a walk, one behind another.
use Rattle.std.proofs.Common.{◌≡◌, List, [], ◌∷◌, ◌++◌, append_assoc, sym, Result, Ok, Err, refl, ◌∙◌, ap}
use Rattle.mir_base.specs.declared.rule.RuleError.{RuleError}
use Rattle.typing_rules.specs.Check.{Check, TypingState, Broken, and_then, pure, each_checked}
use Rattle.src_ast.specs.Syntax.{Syn, Syns, a_syn, list_of}
use Rattle.typeck_heads.specs.Answers.{Refuses, behind}

-- what is refused stays refused, whatever would come behind
pub stopped : {A B : Type 0} (outcome : Result (A × TypingState) Broken) (f : A → Check B) (e : RuleError) → Refuses outcome e →
    Refuses (and_then outcome f) e
stopped outcome f (RuleError.Broken rule at) h = ap (λ o. and_then o f) h
stopped outcome f RuleError.Memory h = tt

module _ {A : Type 0} where
  pub stopped_behind : (earlier : List A) (outcome : Result (List A × TypingState) Broken) (e : RuleError) → Refuses outcome e →
      Refuses (behind earlier outcome) e
  stopped_behind earlier outcome (RuleError.Broken rule at) h = ap (λ o. behind earlier o) h
  stopped_behind earlier outcome RuleError.Memory h = tt

  pub one_more : (earlier : List A) (a : A) (outcome : Result (List A × TypingState) Broken) →
      behind earlier (and_then outcome (λ as_. pure (a ∷ as_))) ≡ behind (earlier ++ a ∷ []) outcome
  one_more earlier a (Ok p) = ap (λ xs. Ok (xs, p.1)) (sym (append_assoc earlier (a ∷ []) p.0))
  one_more earlier a (Err e) = refl

-- each of some nodes in its order
pub each_behind : {A : Type 0} (f : Syn → Check A) (whole : Result (List A × TypingState) Broken) (earlier more : List A)
    (ss : Syns) (first : Syn) (rest : Syns) (s t : TypingState) (a : A) → whole ≡ behind earlier (each_checked f (list_of ss) s) →
    a_syn first rest ≡ ss → f first s ≡ Ok (a, t) → more ≡ earlier ++ a ∷ [] →
    whole ≡ behind more (each_checked f (list_of rest) t)
each_behind f whole earlier more ss first rest s t a h split here pushed =
    h ∙ ap (λ z. behind earlier (each_checked f (list_of z) s)) (sym split)
    ∙ ap (λ o. behind earlier (and_then o (λ b. λ u. and_then (each_checked f (list_of rest) u) (λ bs. pure (b ∷ bs))))) here
    ∙ one_more earlier a (each_checked f (list_of rest) t) ∙ ap (λ z. behind z (each_checked f (list_of rest) t)) (sym pushed)
