use Rattle.std.proofs.Common.{rules, ◌≡◌, ◌∙◌, map, sym, ap, false}
use Rattle.std.proofs.lemmas.List.{take-map}
use Rattle.lower_code.specs.View.{exit_of}
use Rattle.lower_passes.specs.MarkRules as rule
use Rattle.lower_passes.proofs.mark_pass.CodeMarks.cut.Goals as goal

pub returns-then-not-first-clause-jumps : goal.returns-then-not-first-clause-jumps
returns-then-not-first-clause-jumps c =
    let has_none : c.args.first.has_end ≡ false = search rules in
    ap (map exit_of) c.truncate.ensures ∙ sym (take-map exit_of c.args.last.jumps c.args.self.now.jumps)
    ∙ ap (λ has_end. rule.cut has_end c.args.last.jumps (map exit_of c.args.self.now.jumps)) (sym has_none)
