use Rattle.std.proofs.Common.{ap, false, true, refl, map, string_bytes}
use Rattle.mirdrop_program.specs.TopCall.{answers_a_text, wrong_words}
use Rattle.mirdrop_program.proofs.TopCall.{delivers, wants_memory, completes, asked_command, asked_same, fault_is_no_answer}
use Rattle.mirdrop_program.proofs.entry.mirdrop.Goals as goal

pub returns-in-Ok-clause-complete : goal.returns-in-Ok-clause-complete
returns-in-Ok-clause-complete g c = completes _ _ _ _ _ _ c.with_source.result (c.with_source.ensures.answer _ c.in-Ok.ensures.request)

pub returns-in-Ok-clause-soak : goal.returns-in-Ok-clause-soak
returns-in-Ok-clause-soak g c request asked none =
    c.with_source.ensures.soak (asked_same _ false _ request c.in-Ok.ensures.request asked none)

pub returns-in-Ok-clause-read_whole : goal.returns-in-Ok-clause-read_whole
returns-in-Ok-clause-read_whole g c request asked reads =
    c.with_source.ensures.read_whole (asked_same _ true _ request c.in-Ok.ensures.request asked reads)

pub returns-in-Err-Refused-clause-answer : goal.returns-in-Err-Refused-clause-answer
returns-in-Err-Refused-clause-answer g c =
    delivers _ _ _ _ _ _ 2 _ c.deliver.result (λ text told. wrong_words (c.in-Err-Refused.ensures.refused (cc))) c.deliver.ensures.done

pub returns-in-Err-Memory-clause-answer : goal.returns-in-Err-Memory-clause-answer
returns-in-Err-Memory-clause-answer g c = wants_memory _ _ _ _ _ _ refl

pub returns-in-Ok-clause-stuck : goal.returns-in-Ok-clause-stuck
returns-in-Ok-clause-stuck g c e request asked =
    asked_command _ _ request _ asked c.in-Ok.ensures.request (c.with_source.ensures.stuck e)

pub returns-in-Err-Refused-clause-stuck : goal.returns-in-Err-Refused-clause-stuck
returns-in-Err-Refused-clause-stuck g c e =
    absurd (fault_is_no_answer 2 _ _ _ _ c.deliver.result refl (ap answers_a_text e) c.deliver.ensures.done)
