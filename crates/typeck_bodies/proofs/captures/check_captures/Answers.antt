use Rattle.std.proofs.Common.{rules, ◌≡◌, ℕ, Result, Err, ap, reverse, sym, subst, ◌∙◌}
use Rattle.typeck_heads.specs.Answers.{Refuses}
use Rattle.mir_base.specs.declared.rule.RuleError.{RuleError}
use Rattle.src_ast.specs.Seen.{nodes_of}
use Rattle.src_ast.specs.Syntax.{syn, AName}
use Rattle.src_ast.specs.View.{idents, syns_of}
use Rattle.typeck_checker.specs.Stand.{env, stack, state}
use Rattle.typing_rules.specs.Bodies as bodies
use Rattle.typing_rules.specs.Scope.{Env}
use Rattle.typeck_bodies.specs.CaptureAnswers.{GivesCaptures}
use Rattle.typeck_bodies.proofs.CaptureSequences.{capture_step, capture_stop, under_one}
use Rattle.typeck_bodies.proofs.captures.check_captures.Goals as goal

pub loop-first-preserved : goal.loop-first-preserved
loop-first-preserved c =
    let before = c.loop-first.invariant in
    let put = c.in_ok-capture.ensures in
    let w = env c.args.checker.now in
    let k = c.loop-first.count in
    let name = c.in-Some.first in
    let xs = reverse c.loop-first.bound in
    let s = state c.loop-first.checker in
    let here = ap (λ (z : Env). bodies.capture z k (syn name.at (AName name.name.now)) xs s) (sym before.place.0) ∙ put.gives in
    record {
      gives = capture_step w _ k c.in_ok-count.count (stack c.loop-first.checker) (stack c.capture.new.checker) (idents (nodes_of c.loop-first.rest)) (idents (nodes_of name.rest)) (name.at, name.name.now)
          xs (reverse c.capture.new.bound) s (state c.capture.new.checker) before.gives c.in-Some.ensures here put.kept.0 c.in_ok-count.ensures.more;
      under = under_one k c.in_ok-count.count (stack c.loop-first.checker) (stack c.capture.new.checker) _ before.under put.kept.0 c.in_ok-count.ensures.more;
      place = (put.kept.1.0 ∙ before.place.0, put.kept.1.1 ∙ before.place.1);
    }

pub returns-in_err-capture-clause-gives : goal.returns-in_err-capture-clause-gives
returns-in_err-capture-clause-gives c =
    let before = c.loop-first.invariant in
    let w = env c.args.checker.now in
    let k = c.loop-first.count in
    let name = c.in-Some.first in
    let xs = reverse c.loop-first.bound in
    let s = state c.loop-first.checker in
    let err = c.in_err-capture.field-0.0 in
    let is : ◌≡◌ {A = Result ℕ RuleError} c.from_residual.result (Err err) = search rules in
    let whole = bodies.captured w 0 (syns_of (idents (nodes_of c.args.captures))) (reverse c.args.bound.now) (state c.args.checker.now) in
    subst (λ (r : Result ℕ RuleError). GivesCaptures whole r c.capture.new.bound c.capture.new.checker) (sym is)
    (capture_stop w whole k (stack c.loop-first.checker) (idents (nodes_of c.loop-first.rest)) (idents (nodes_of name.rest)) (name.at, name.name.now) xs s err before.gives c.in-Some.ensures
    (subst (λ (z : Env). Refuses (bodies.capture z k (syn name.at (AName name.name.now)) xs s) err) before.place.0 c.in_err-capture.ensures.gives))
