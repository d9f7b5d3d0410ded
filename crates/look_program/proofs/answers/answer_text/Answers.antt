use Rattle.std.proofs.Common.{◌∙◌, sym}
use Rattle.std.proofs.lemmas.Result.{IfOk-weaker}
use Rattle.look_program.proofs.Owing.{owed_to_listing, owed_to_program}
use Rattle.look_program.proofs.answers.answer_text.Goals as goal

pub returns-then-begins_as_listing : goal.returns-then-begins_as_listing
returns-then-begins_as_listing c =
    IfOk-weaker c.listing_answer.result _ _
    (λ answer owed. owed_to_listing c.args.text.now answer.status answer.text.items c.args.look (sym c.begins_as_listing.ensures ∙ c.if-begins_as_listing.true) owed)
    c.listing_answer.ensures

pub returns-else-begins_as_listing : goal.returns-else-begins_as_listing
returns-else-begins_as_listing c =
    IfOk-weaker c.program_answer.result _ _
    (λ answer owed. owed_to_program c.args.text.now answer.status answer.text.items c.args.look (sym c.begins_as_listing.ensures ∙ c.if-begins_as_listing.false) owed)
    c.program_answer.ensures
