use Rattle.std.proofs.Common.{ap, refl}
use Rattle.mirdrop_program.specs.TopCall.{answers_a_text, not_read, too_long}
use Rattle.mirdrop_program.proofs.StuckRuns.{responded_stuck}
use Rattle.mirdrop_program.proofs.TopCall.{delivers, wants_memory, answers_text, response, fault_is_no_answer}
use Rattle.mirdrop_program.proofs.entry.with_request.Goals as goal

pub returns-in-Ok-clause-read_fault : goal.returns-in-Ok-clause-read_fault
returns-in-Ok-clause-read_fault g c e = absurd ((response _ _ _ _ _ c.respond.result c.respond.ensures.done).no_read_fault e)

pub returns-in-Ok-clause-write_fault : goal.returns-in-Ok-clause-write_fault
returns-in-Ok-clause-write_fault g c e = (response _ _ _ _ _ c.respond.result c.respond.ensures.done).write_fault e

pub returns-in-Ok-clause-no_words : goal.returns-in-Ok-clause-no_words
returns-in-Ok-clause-no_words g c e = (response _ _ _ _ _ c.respond.result c.respond.ensures.done).no_words e

pub returns-in-Ok-clause-too_long : goal.returns-in-Ok-clause-too_long
returns-in-Ok-clause-too_long g c e = absurd ((response _ _ _ _ _ c.respond.result c.respond.ensures.done).not_long e)

pub returns-in-Ok-clause-answer : goal.returns-in-Ok-clause-answer
returns-in-Ok-clause-answer g c words asked =
    answers_text words _ _ _ _ _ c.args.request.now c.in-Ok.text c.respond.result asked (λ told e. c.in-Ok.ensures.whole told e) c.in-Ok.ensures.within
    (rw c.as_slice.ensures at c.respond.ensures.done)

pub returns-in-Err-ReadFault-clause-answer : goal.returns-in-Err-ReadFault-clause-answer
returns-in-Err-ReadFault-clause-answer g c words asked =
    delivers words _ _ _ _ _ 3 _ c.deliver.result (λ text told. not_read _ asked c.requires.reads (c.in-Err-ReadFault.ensures.read_fault (cc)))
    c.deliver.ensures.done

pub returns-in-Err-TooLong-clause-answer : goal.returns-in-Err-TooLong-clause-answer
returns-in-Err-TooLong-clause-answer g c words asked =
    delivers words _ _ _ _ _ 6 _ c.deliver-in-Err-TooLong.result (λ text told. too_long _ asked c.requires.reads (c.in-Err-TooLong.ensures.too_long (cc) text told).0)
    c.deliver-in-Err-TooLong.ensures.done

pub returns-in-Err-TooLong-clause-read_whole : goal.returns-in-Err-TooLong-clause-read_whole
returns-in-Err-TooLong-clause-read_whole g c is = absurd (fault_is_no_answer 6 _ _ _ _ c.deliver-in-Err-TooLong.result refl is c.deliver-in-Err-TooLong.ensures.done)

pub returns-in-Err-Memory-clause-answer : goal.returns-in-Err-Memory-clause-answer
returns-in-Err-Memory-clause-answer g c words asked = wants_memory words _ _ _ _ _ refl

pub returns-in-Ok-clause-stuck : goal.returns-in-Ok-clause-stuck
returns-in-Ok-clause-stuck g c e = responded_stuck c.args.request.now _ _ _ _ c.respond.result c.respond.ensures.done e

pub returns-in-Err-ReadFault-clause-stuck : goal.returns-in-Err-ReadFault-clause-stuck
returns-in-Err-ReadFault-clause-stuck g c e =
    absurd (fault_is_no_answer 3 _ _ _ _ c.deliver.result refl (ap answers_a_text e) c.deliver.ensures.done)

pub returns-in-Err-TooLong-clause-stuck : goal.returns-in-Err-TooLong-clause-stuck
returns-in-Err-TooLong-clause-stuck g c e =
    absurd (fault_is_no_answer 6 _ _ _ _ c.deliver-in-Err-TooLong.result refl (ap answers_a_text e) c.deliver-in-Err-TooLong.ensures.done)
