use Rattle.std.proofs.Common.{rules, ◌≡◌, Bor, List, [], ℕ, true, take}
use Rattle.std.specs.List.{list_all}
use Rattle.std.proofs.lemmas.List.{take_all}
use Rattle.mirdrop_program.specs.Words.{is_up_to}
use Rattle.mirdrop_program.proofs.Rows.{all_asked, one_refused}
use Rattle.mirdrop_program.proofs.words.numbers_of.Goals as goal

pub returns-then-not-is_up_to : goal.returns-then-not-is_up_to
returns-then-not-is_up_to c = one_refused c.args.texts.now c.loop-text.text-index (record { ref_ptr = (0, 0); now = [] }) c.as_bytes-bytes.result.now c.loop-text-test.true (search rules) (search rules)

pub returns : goal.returns
returns c =
    let whole : take c.loop-text.text-index c.args.texts.now ≡ c.args.texts.now = take_all c.loop-text.text-index c.args.texts.now c.loop-text-test.false in
    let all : list_all (λ (text : Bor (List ℕ)). is_up_to 2147483647 text.now) c.args.texts.now ≡ true = search (rules, whole) in
    search (rules, whole, all, all_asked c.args.texts.now all)
