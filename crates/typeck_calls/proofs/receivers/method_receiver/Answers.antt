use Rattle.std.proofs.Common.{ℕ, ◌≡◌, rules, Option, Some, None, Result, Err, ap, sym, ◌∙◌, subst}
use Rattle.mir_base.specs.declared.rule.RuleError.{RuleError}
use Rattle.typeck_heads.proofs.Sequences.{stopped}
use Rattle.typeck_heads.specs.Answers.{Refuses}
use Rattle.mir_base.specs.declared.place_in_text.Pos.{Pos}
use Rattle.typeck_calls.proofs.CalledMethods.{gives_same, receiver_as, some_of}
use Rattle.typeck_calls.specs.Calls.{Arguments, GivesCall}
use Rattle.typeck_calls.specs.Methods.{IsMethod}
use Rattle.typeck_calls.specs.Methods.{received_end}
use Rattle.typeck_calls.specs.declared.methods.Method.{Method}
use Rattle.typeck_calls.specs.declared.receivers.MethodReceiver.{MethodReceiver}
use Rattle.typeck_checker.specs.Stand.{env, stack, state, top}
use Rattle.typed_tree.specs.Tree.{Node}
use Rattle.typing_rules.specs.Named.{method_named}
use Rattle.typing_rules.specs.Check.{Check, ◌>>=◌, and_then}
use Rattle.typing_rules.specs.Places.{place_in_text, through}
use Rattle.typing_rules.specs.Rows as rows
use Rattle.typing_rules.specs.Rows.{method_end, with_method}
use Rattle.typeck_calls.proofs.receivers.method_receiver.Goals as goal

pub returns-in-Some-clause-gives : goal.returns-in-Some-clause-gives
returns-in-Some-clause-gives c id at expected =
    let before = c.args.checker.now in
    let there = c.through.new.checker in
    let gone = c.in_ok-method.ensures.gives in
    let found = subst (λ (m : Option Method). IsMethod there.walk.items m gone.0) c.in-Some.is gone.1 in
    let f = some_of gone.0 found.0 in
    let placed =
    ap (λ (p : Pos). through (method_named c.args.name.now) p (top (stack before)) (state before)) (sym c.last_at-place_at.ensures)
    ∙ gone.2
    in
    gives_same (method_end (env before) id at (method_named c.args.name.now) expected (top (stack before))) (λ count args. with_method (env there) at id (top (stack there)) (Some f.0) count args expected) (state before) (state there) (λ (r : MethodReceiver). r.params) (received_end id at expected)
    c.with_method.result c.with_method.new.checker
    (λ count args. receiver_as (env before) (env there) id at (method_named c.args.name.now) expected (top (stack before)) (top (stack there)) gone.0 f.0 (state before) (state there) placed f.1 c.in_ok-method.ensures.kept.1.0 count args)
    (c.with_method.ensures.gives id at f.0 (sym found.1 ∙ f.1) expected)

pub returns-in-None-clause-gives : goal.returns-in-None-clause-gives
returns-in-None-clause-gives c id at expected count args =
    let before = c.args.checker.now in
    let there = c.through.new.checker in
    let gone = c.in_ok-method.ensures.gives in
    let none = subst (λ (m : Option Method). IsMethod there.walk.items m gone.0) c.in-None.is gone.1 in
    let placed =
    ap (λ (p : Pos). through (method_named c.args.name.now) p (top (stack before)) (state before)) (sym c.last_at-place_at.ensures)
    ∙ gone.2
    in
    ap (λ r. and_then r (λ (x : Node × Option rows.Method). with_method (env before) at id x.0 x.1 count args expected)) placed
    ∙ ap (λ (m : Option rows.Method). with_method (env before) at id (top (stack there)) m count args expected (state there)) none
    ∙ sym (ap (λ (r : MethodReceiver). (args r.params >>= received_end id at expected r (top (stack there)) count) (state there)) c.no_method.ensures)

pub returns-in_err-method-clause-gives : goal.returns-in_err-method-clause-gives
returns-in_err-method-clause-gives c id at expected =
    let before = c.args.checker.now in
    let err = c.in_err-method.field-0.0 in
    let base = top (stack before) in
    let check : ℕ → Arguments → Check Node = method_end (env before) id at (method_named c.args.name.now) expected base in
    let is : ◌≡◌ {A = Result MethodReceiver RuleError} c.from_residual.result (Err err) = search rules in
    subst (λ (r : Result MethodReceiver RuleError). GivesCall check (state before) (λ (m : MethodReceiver). m.params) (received_end id at expected) r c.through.new.checker) (sym is)
    (λ count args.
    stopped (through (method_named c.args.name.now) (place_in_text base) base (state before)) (λ (x : Node × Option rows.Method). with_method (env before) at id x.0 x.1 count args expected) err
    (subst (λ (p : Pos). Refuses (through (method_named c.args.name.now) p base (state before)) err) c.last_at-place_at.ensures c.in_err-method.ensures.gives))
