use Rattle.typing_rules.specs.Named.{PathValue, Makes, IsBroken, path_value, Callee, Function, Constructor, callee_of}
use Rattle.typing_rules.specs.Check.{TypingState}
use Rattle.typing_rules.specs.Promises.{KnowsItems}
use Rattle.typing_rules.specs.Scope.{Env}
use Rattle.typing_soundness.specs.Expressions.{NamesUnit, NamesCallee}
use Rattle.typing_soundness.proofs.Bodies.Closures.{closure_sound}
use Rattle.typing_soundness.proofs.Bodies.Functions.{expression_sound, function_sound}
use Rattle.typing_soundness.proofs.Sound.Loops.{loop_sound}
use Rattle.typing_soundness.proofs.Sound.Names.{IsUnit, IsCallee, path_is, callee_is}
use Rattle.typing_soundness.proofs.law.law_of_expressions.Goals as goal

unit_named : (s : TypingState) (env : Env) (k : KnowsItems env.kinds env.self_adt s.items) (v : PathValue) → IsUnit s.items env
    k v → NamesUnit s v
unit_named s env k (Makes adt variant) h = h
unit_named s env k (IsBroken rule) h = tt

callee_named : (s : TypingState) (env : Env) (k : KnowsItems env.kinds env.self_adt s.items) (c : Callee) → IsCallee s env k c
    → NamesCallee s c
callee_named s env k (Function body is_drop head) h = h
callee_named s env k (Constructor adt variant tys) h = h
callee_named s env k _ h = tt

pub returns-clause-loops : goal.returns-clause-loops
returns-clause-loops c = loop_sound

pub returns-clause-paths : goal.returns-clause-paths
returns-clause-paths c s env k first second =
    unit_named s env k (path_value s.items env first second) (path_is s.items env k first second)

pub returns-clause-callees : goal.returns-clause-callees
returns-clause-callees c s env k e h = callee_named s env k (callee_of s.items env e) (callee_is s env k e h)

pub returns-clause-expressions : goal.returns-clause-expressions
returns-clause-expressions c = expression_sound

pub returns-clause-closures : goal.returns-clause-closures
returns-clause-closures c env at captures params answer body shape first h =
    closure_sound env at captures params answer body shape first (λ inner. expression_sound inner body h)

pub returns-clause-functions : goal.returns-clause-functions
returns-clause-functions c = function_sound
