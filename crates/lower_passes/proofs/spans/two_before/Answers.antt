use Rattle.std.proofs.Common.{rules, ◌≡◌, ◌<◌, ℕ, suc, List, map, refl}
use Rattle.lower_code.specs.View.{op_of}
use Rattle.lower_passes.specs.MarkRules.{mark_at}
use Rattle.lower_passes.specs.declared.marks.CodeMark.{CodeMark}
use Rattle.lower_passes.proofs.Twos.{two_found, first_before}
use Rattle.lower_passes.proofs.spans.two_before.Goals as goal

pub returns-then-one-another-clause-two : goal.returns-then-one-another-clause-two
returns-then-one-another-clause-two c = λ f one another start two.
    let d : ℕ = c.in_ok-another.another in
    let m : ℕ = c.in_ok-one.one in
    let marks : List CodeMark = c.args.code.marks.now in
    let ends : c.args.end ≡ suc d = search rules in
    let begins : (mark_at marks d).start ≡ suc m = search rules in
    (record { one = m; another = d }, (refl, two_found f (map op_of c.args.code.words.now) marks one another start c.args.end d m ends begins two))

pub returns-else-one-another-clause-two : goal.returns-else-one-another-clause-two
returns-else-one-another-clause-two c = λ f one another start two.
    let d : ℕ = c.in_ok-another.another in
    let m : ℕ = c.in_ok-one.one in
    let marks : List CodeMark = c.args.code.marks.now in
    let ends : c.args.end ≡ suc d = search rules in
    let begins : (mark_at marks d).start ≡ suc m = search rules in
    let below : m < d = first_before f (map op_of c.args.code.words.now) marks one another start c.args.end d m ends begins two in
    absurd (search rules)
