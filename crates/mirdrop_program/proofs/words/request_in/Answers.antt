use Rattle.std.proofs.Common.{rules, ◌∙◌}
use Rattle.std.proofs.lemmas.Result.{IfOk-weaker}
use Rattle.clap.specs.Words.{found_of}
use Rattle.mirdrop_program.proofs.Rows.{no_word, with_word}
use Rattle.mirdrop_program.proofs.words.request_in.Goals as goal

pub returns-in_default : goal.returns-in_default
returns-in_default c = no_word (found_of c.args.found.now) (search rules)

pub returns : goal.returns
returns c =
    IfOk-weaker c.request_named.result _ _
    (λ request h. h ∙ with_word (found_of c.args.found.now) c.in-Some.word.now _ _ (search rules) c.get_strs-numbers.ensures c.get_str-2.ensures)
    c.request_named.ensures
