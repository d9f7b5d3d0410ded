use Rattle.std.proofs.Common.{◌≡◌, Bool, true, false, not, refl}
use Rattle.std.proofs.lemmas.Bool.{false≢true}
use Rattle.move_errors.proofs.Showing.{decided}
use Rattle.move_errors.proofs.errors.is_plain.Goals as goal

not-so : (b : Bool) → not b ≡ true → b ≡ false
not-so true h = absurd (false≢true h)
not-so false h = refl

pub returns : goal.returns
returns c = λ plain.
    let w = c.args.solved.now.watch in
    let s = c.requires.rows in
    decided w.items.now w.body.now w.forest w.below c.requires.watched s.pass s.first c.args.solved.now.rows s.says s.carried s.widths
    (c.in_ok-rows_show.ensures (not-so c.in_ok-rows_show.field-0 plain))

pub rows_show-requires-clause-rows : goal.rows_show-requires-clause-rows
rows_show-requires-clause-rows c = c.requires.rows.long

pub rows_show-requires-clause-widths : goal.rows_show-requires-clause-widths
rows_show-requires-clause-widths c = c.requires.rows.widths
