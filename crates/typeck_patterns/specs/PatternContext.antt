-- What a pattern is told, and what it gives, in Rust as the rules of typing see it.
use Rattle.std.specs.Prelude.{◌≡◌, List, reverse, Result, Ok, Err}
use Rattle.mir_base.specs.declared.rule.RuleError.{RuleError}
use Rattle.typeck_heads.specs.Answers.{Refuses}
use Rattle.typeck_checker.specs.Stand.{stack, state, top}
use Rattle.typeck_checker.specs.declared.checker.Checker.{Checker}
use Rattle.typing_rules.specs.Check.{TypingState, Broken}
use Rattle.typing_rules.specs.Patterns.{BoundPattern}
use Rattle.typing_rules.specs.Rows as rows
use Rattle.typing_rules.specs.Scope.{NamedEntry}
use Rattle.typeck_patterns.specs.declared.pattern_context.PatternContext.{PatternContext}

abbrev pub pattern_context_of : PatternContext → rows.PatternContext
pattern_context_of e = record { is_fixed = e.is_fixed; takes_all = e.takes_all }

-- the last node and these bindings are what a pattern gives
abbrev pub GivesBeside : Result (BoundPattern × TypingState) Broken → Result (Unit {0}) RuleError → List NamedEntry →
    Checker → Type 0
GivesBeside outcome (Ok u) bound after = outcome ≡ Ok ((top (stack after), bound), state after)
GivesBeside outcome (Err e) bound after = Refuses outcome e

-- the bindings so far, of which the youngest is the first here and the last there
abbrev pub GivesBound : Result (BoundPattern × TypingState) Broken → Result (Unit {0}) RuleError → List NamedEntry →
    Checker → Type 0
GivesBound outcome result bound after = GivesBeside outcome result (reverse bound) after

-- a pattern that binds nothing, after any bindings
abbrev pub GivesAnyhow : (List NamedEntry → Result (BoundPattern × TypingState) Broken) → Result (Unit {0}) RuleError →
    Checker → Type 0
GivesAnyhow outcome result after = (earlier : List NamedEntry) → GivesBeside (outcome earlier) result earlier after
