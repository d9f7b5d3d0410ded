use Rattle.std.proofs.Common.{◌++◌, codes}
use Rattle.std.proofs.lemmas.Result.{on_ok_weaker}
use Rattle.mirdrop_program.specs.Lines.{place_words}
use Rattle.mirdrop_program.proofs.Behind.{two}
use Rattle.mirdrop_program.proofs.uses.put_store_line.Goals as goal

pub returns : goal.returns
returns c =
    on_ok_weaker c.put_place.result
    (λ e. two _ (codes "refused: U2 " ++ c.args.place.now) (place_words c.args.at) _ _ c.in_ok-put_named.ensures e)
    c.put_place.ensures
