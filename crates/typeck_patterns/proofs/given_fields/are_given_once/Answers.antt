use Rattle.std.proofs.Common.{◌≡◌, ◌+◌, ◌∷◌, ◌++◌, [], None, get_or, take, ap, sym, ◌∙◌}
use Rattle.typing_rules.specs.Patterns as patterns
use Rattle.typing_rules.specs.Rows as rows
use Rattle.typing_rules.specs.Rows.{Given}
use Rattle.typeck_patterns.proofs.Lists.{take_next}
use Rattle.typeck_patterns.proofs.Numbers.{noted_more, once_so}
use Rattle.typeck_patterns.proofs.given_fields.are_given_once.Goals as goal

pub loop-number-preserved : goal.loop-number-preserved
loop-number-preserved c =
    let given : Given = c.args.given.now in
    let n = c.loop-number.number-index in
    let next : take (n + 1) given ≡ take n given ++ get_or given n None ∷ [] = take_next given n None c.loop-number-test.true in
    let before = c.loop-number.invariant in
    record {
      once = once_so c.loop-number.once c.in_ok-once.field-0 c.loop-number.seen.keys (take n given) (get_or given n None) before.once before.noted c.in_ok-once.ensures.news ∙ ap patterns.are_given_once (sym next);
      noted = λ k. noted_more k c.loop-number.seen.keys c.note_if.new.seen.keys (take n given) (get_or given n None) (before.noted k) (c.in_ok-once.ensures.noted k) ∙ ap (rows.is_given k) (sym next);
    }
