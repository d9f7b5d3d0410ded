use Rattle.std.proofs.Common.{◌<◌, ◌≤◌, length, ap, sym, subst, ◌∙◌, arith}
use Rattle.std.proofs.lemmas.List.{get_or_read}
use Rattle.src_token.specs.declared.cursor.Cursor.{Cursor}
use Rattle.src_token.specs.Cursors.{past_char}
use Rattle.src_token.proofs.Advancing.{Fits, fits, step}
use Rattle.src_token.proofs.cursor.Cursor.advance.Goals as goal
use Rattle.src_token.proofs.cursor.Cursor.advance.Goals.{After-index-characters-i}

within : (c : After-index-characters-i) → c.loop-i.i < length c.args.characters.now
within c = let last : c.args.to ≤ length c.args.characters.now = c.requires.within in let here : c.loop-i.i < c.args.to = c.loop-i-test.true in omega arith

all_fit : (c : After-index-characters-i) → Fits c.loop-i.cursor c.index-characters-i.result
all_fit c =
    subst (λ (k : Cursor). Fits k c.index-characters-i.result) (sym c.loop-i.invariant)
    (fits c.args.characters.now c.loop-i.i c.index-characters-i.result (within c) (get_or_read c.args.characters.now c.loop-i.i _ (within c) c.index-characters-i.is 0) c.requires.short)

pub past-cursor-requires-clause-lines : goal.past-cursor-requires-clause-lines
past-cursor-requires-clause-lines c = (all_fit c).line

pub past-cursor-requires-clause-columns : goal.past-cursor-requires-clause-columns
past-cursor-requires-clause-columns c = (all_fit c).col

pub past-cursor-requires-clause-bytes : goal.past-cursor-requires-clause-bytes
past-cursor-requires-clause-bytes c = (all_fit c).bytes

pub loop-i-preserved : goal.loop-i-preserved
loop-i-preserved c =
    let here : c.loop-i.i < length c.args.characters.now =
    let last : c.args.to ≤ length c.args.characters.now = c.requires.within in let before : c.loop-i.i < c.args.to = c.loop-i-test.true in omega arith in
    c.past-cursor.ensures ∙ ap (λ (k : Cursor). past_char k c.index-characters-i.result) c.loop-i.invariant
    ∙ step c.args.characters.now c.loop-i.i c.index-characters-i.result here (get_or_read c.args.characters.now c.loop-i.i _ here c.index-characters-i.is 0)
