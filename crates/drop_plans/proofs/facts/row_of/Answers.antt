use Rattle.std.proofs.Common.{◌≡◌, ◌∙◌, ℕ, Some, None, [], false, length, replicate, ap, sym}
use Rattle.std.specs.Prelude.{slice_index_or}
use Rattle.std.specs.Option.{option_copied}
use Rattle.drop_plans.proofs.Reaching.{start-row}
use Rattle.drop_plans.proofs.facts.row_of.Goals.{in-Some+then-len-bits, in-Some+else-len-bits, in_default}
use Rattle.drop_plans.proofs.facts.row_of.Goals as goal

pub returns-clause-same : goal.returns-clause-same
returns-clause-same c long =
    elim c.match-at.branch [
      | in-Some+then-len-bits w ↦
          w.row-is ∙ w.copy_into.ensures
          ∙ start-row c.args.rows.now c.args.block (Some w.in-Some.start.now) (ap option_copied (sym w.in-Some.is) ∙ c.at.ensures)
      | in-Some+else-len-bits w ↦
          absurd (w.if-len-bits.false
          (w.len.ensures ∙ ap length (start-row c.args.rows.now c.args.block (Some w.in-Some.start.now) (ap option_copied (sym w.in-Some.is) ∙ c.at.ensures)) ∙ long))
      | in_default w ↦
          let none : [] ≡ slice_index_or c.args.rows.now c.args.block [] =
          start-row c.args.rows.now c.args.block None w.in_default.ensures in
          w.row-is ∙ c.in_ok-row.ensures ∙ ap (λ (n : ℕ). replicate n false) (sym (ap length none ∙ long)) ∙ none
    ]
