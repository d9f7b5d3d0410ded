use Rattle.std.proofs.Common.{rules, ◌++◌, codes}
use Rattle.std.proofs.lemmas.Result.{on_ok_weaker}
use Rattle.mirdrop_program.specs.Lines.{place_words, use_word}
use Rattle.mirdrop_program.proofs.Behind.{three}
use Rattle.mirdrop_program.proofs.uses.put_use_line.Goals as goal

pub returns : goal.returns
returns c =
    on_ok_weaker c.put_place.result
    (λ e. three _ (codes "refused: U1 " ++ c.args.place.now) (codes " by ") (use_word c.args.by) (place_words c.args.at) _ _ _
    c.in_ok-put_named.ensures (search rules) e)
    c.put_place.ensures
