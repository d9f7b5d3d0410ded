use Rattle.std.proofs.Common.{rules, ◌≡◌, ◌∙◌, ◌≤◌, suc, true, false, List, Option, Some, None, map, slice_get, sym, subst, arith}
use Rattle.std.proofs.lemmas.Option.{none-some}
use Rattle.lower_passes.proofs.Reading.{arms_within}
use Rattle.lower_code.specs.View.{op_of}
use Rattle.lower_code.specs.declared.code.CodeWord as words
use Rattle.lower_blocks.specs.Builds.{IsLast, ends_arm}
use Rattle.lower_blocks.specs.declared.arms.ArmSpan.{ArmSpan}
use Rattle.lower_blocks.proofs.Reading.{none_last, is_last, past_none, word_here, never_arm}
use Rattle.lower_blocks.proofs.arms.arm_before.Goals as goal

pub returns-in_err-last-clause-last : goal.returns-in_err-last-clause-last
returns-in_err-last-clause-last c = λ f arms begin stands.
    let ends : c.args.end ≡ 0 = search rules in
    let within : suc begin ≤ c.args.end =
    arms_within f (map op_of c.args.code.words.now) c.args.code.marks.now arms (suc begin) c.args.end stands.1 in
    absurd (omega arith)

pub returns-in_err-word-clause-last : goal.returns-in_err-word-clause-last
returns-in_err-word-clause-last c = λ f arms begin stands.
    let ws : List words.CodeWord = c.args.code.words.now in
    let none : c.from_residual-in_err-word.result ≡ None = search rules in
    let no_word : slice_get ws c.in_ok-last.last ≡ None = search rules in
    let ends : c.args.end ≡ suc c.in_ok-last.last = search rules in
    subst (λ (o : Option ArmSpan). IsLast f (map op_of ws) c.args.code.marks.now arms begin o) (sym none)
    (none_last f (map op_of ws) c.args.code.marks.now arms begin c.args.end c.in_ok-last.last ends stands
    (λ word at arm. none-some word (sym (past_none ws c.in_ok-last.last no_word) ∙ at)))

pub returns-then-not-ends_arm-clause-last : goal.returns-then-not-ends_arm-clause-last
returns-then-not-ends_arm-clause-last c = λ f arms begin stands.
    let ws : List words.CodeWord = c.args.code.words.now in
    let here : slice_get ws c.in_ok-last.last ≡ Some c.in_ok-word.word.now = search rules in
    let ends : c.args.end ≡ suc c.in_ok-last.last = search rules in
    let is_none : ends_arm (op_of c.in_ok-word.word.now) ≡ false = search rules in
    none_last f (map op_of ws) c.args.code.marks.now arms begin c.args.end c.in_ok-last.last ends stands
    (never_arm ws c.in_ok-last.last c.in_ok-word.word.now here is_none)

pub returns-clause-last : goal.returns-clause-last
returns-clause-last c = λ f arms begin stands.
    let ws : List words.CodeWord = c.args.code.words.now in
    let here : slice_get ws c.in_ok-last.last ≡ Some c.in_ok-word.word.now = search rules in
    let ends : c.args.end ≡ suc c.in_ok-last.last = search rules in
    let is_arm : ends_arm (op_of c.in_ok-word.word.now) ≡ true = search rules in
    is_last f (map op_of ws) c.args.code.marks.now arms begin c.args.end c.in_ok-last.last c.start_of.result (op_of c.in_ok-word.word.now) ends stands
    (word_here ws c.in_ok-last.last c.in_ok-word.word.now here) is_arm c.start_of.ensures.start
