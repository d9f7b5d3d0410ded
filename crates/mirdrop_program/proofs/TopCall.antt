-- What the program answers.
use Rattle.std.proofs.Common.{◌≡◌, ℕ, ◌≤◌, ◌<◌, true, false, Bool, Option, Some, None, List, [], ◌∷◌, ◌++◌, length, take, refl, ap, sym, ◌∙◌, arith, inl, inr, subst}
use Rattle.std.specs.Prelude.{◌⊎◌, ⊤}
use Rattle.std.proofs.lemmas.List.{append-nil}
use Rattle.std.proofs.lemmas.Option.{none-some, same_Some}
use Rattle.mirdrop_program.specs.Words.{request_of}
use Rattle.mirdrop_program.specs.declared.request.Command.{Command}
use Rattle.mirdrop_program.specs.declared.request.Request.{Request}
use Rattle.mirdrop_program.specs.Owed.{Owed}
use Rattle.mirdrop_program.specs.TopCall.{DueAnswer, wrong_words, not_read, too_long, answered, Answers, whole, part, no_memory, no_memory_for_trace, HasAnswered, IsComplete, Delivered, taken_whole, taken_part, Responded, owing, cut_short, wanting, answers_a_text, is_of_soak, reads_text, writes_a_trace}
use Rattle.mirdrop_program.proofs.Answered.{IsAnswer, owed_is_answer}
use Rattle.mirdrop_program.proofs.Unread.{owed_unread, soaks_to, writes_none}

-- two requests of the same words read alike
pub asked_same : (words : List (List ℕ)) (b : Bool) (request other : Request) → request_of words ≡ Some request → request_of words ≡ Some other →
    reads_text other.command ≡ b → reads_text request.command ≡ b
asked_same words b request other one two reads =
    subst (λ (r : Request). reads_text r.command ≡ b) (same_Some other request (sym two ∙ one)) reads

-- and have one command
pub asked_command : (words : List (List ℕ)) (command : Command) (request other : Request) → request_of words ≡ Some request → request_of words ≡ Some other →
    other.command ≡ command → request.command ≡ command
asked_command words command request other one two is =
    subst (λ (r : Request). r.command ≡ command) (same_Some other request (sym two ∙ one)) is

not_both : (b : Bool) → b ≡ true → b ≡ false → ⊥
not_both true yes_ no_ = absurd (cc)
not_both false yes_ no_ = absurd (cc)

module _ (words : List (List ℕ)) (left taken taken_after : Option (List ℕ)) (source_failed sink_failed : Type 0) where
  -- what was due was handed to the sink
  pub delivers : (status : ℕ) (due : List ℕ) (result : ℕ) → ((text : List ℕ) → left ≡ Some text → DueAnswer words text source_failed status due)
      → Delivered status due taken taken_after sink_failed result → HasAnswered words left taken taken_after source_failed sink_failed result
  delivers status due result owes (taken_whole h) text before told kept = (due, h before kept, whole (owes text told))
  delivers status due result owes (taken_part n failed h) text before told kept = (take n due, h before kept, part (owes text told) n failed)

  pub wants_memory : taken_after ≡ taken → HasAnswered words left taken taken_after source_failed sink_failed 5
  wants_memory same text before told kept = ([], same ∙ (kept ∙ ap Some (sym (append-nil before))), no_memory)

  -- a request that words ask for is the one that they ask for
  asks_same : (request other : Request) (text : List ℕ) (status : ℕ) (written : List ℕ) → request_of words ≡ Some request → request_of words ≡ Some other →
      Owed other text status written → Owed request text status written
  asks_same request other text status written one two owed =
      subst (λ (r : Request). Owed r text status written) (same_Some other request (sym two ∙ one)) owed

  -- a text that is read is short, and the source did not fail
  abbrev IsAtHand : Request → List ℕ → Type 0
  IsAtHand request text = reads_text request.command ≡ true → (length text ≤ 131072) × ¬ source_failed

  complete_from : (request : Request) (text before : List ℕ) (status : ℕ) (written : List ℕ) → taken_after ≡ Some (before ++ written) → request_of words ≡ Some request → IsAtHand request text
      → ¬ sink_failed → Answers words text source_failed sink_failed status written
      → (status ≡ 5) ⊎ ((written : List ℕ) × (taken_after ≡ Some (before ++ written)) × Owed request text status written)
  complete_from request text before status written is asked at_hand no_sink (whole (wrong_words none)) = absurd (none-some request (sym none ∙ asked))
  complete_from request text before status written is asked at_hand no_sink (whole (not_read r e reads failed)) = absurd ((at_hand (asked_same words true request r asked e reads)).1 failed)
  complete_from request text before status written is asked at_hand no_sink (whole (too_long r e reads long)) =
      let short = (at_hand (asked_same words true request r asked e reads)).0 in
      absurd (omega (arith, long, short))
  complete_from request text before status written is asked at_hand no_sink (whole (answered r e s owes)) = inr (written, is, asks_same request r text status written asked e owes)
  complete_from request text before status written is asked at_hand no_sink (part due n failed) = absurd (no_sink failed)
  complete_from request text before status written is asked at_hand no_sink no_memory = inl refl
  complete_from request text before status written is asked at_hand no_sink (no_memory_for_trace given due r e t s owes n) = inl refl

  pub completes : (status : ℕ) → HasAnswered words left taken taken_after source_failed sink_failed status → IsComplete words left taken taken_after source_failed sink_failed status
  completes status h request text before asked told kept at_hand no_sink =
      let so = h text before told kept in
      complete_from request text before status so.0 so.1 asked at_hand no_sink so.2

  pub answers_text : (request : Request) (text : List ℕ) (status : ℕ) → request_of words ≡ Some request → ((told : List ℕ) → left ≡ Some told → text ≡ told) → length text ≤ 131072
      → Responded request text taken taken_after sink_failed status → HasAnswered words left taken taken_after source_failed sink_failed status
  answers_text request text status asked is short (owing {status = owes} {answer = due} owed delivered) told before e kept =
      delivers owes due status
      (λ told e. answered request asked (λ reads. subst (λ (t : List ℕ). length t ≤ 131072) (is told e) short) (subst (λ (t : List ℕ). Owed request t owes due) (is told e) owed))
      delivered told before e kept
  answers_text request text status asked is short (cut_short owes due owed writes n h) told before e kept = (
    take n due,
    h before kept,
    no_memory_for_trace owes due request asked writes (subst (λ (t : List ℕ). length t ≤ 131072) (is told e) short)
        (subst (λ (t : List ℕ). Owed request t owes due) (is told e) owed) n,
  )
  answers_text request text status asked is short (wanting same) told before e kept = wants_memory same told before e kept

  -- without a text
  pub answers_unread : (request : Request) (status : ℕ) → request_of words ≡ Some request → reads_text request.command ≡ false
      → Responded request [] taken taken_after sink_failed status → HasAnswered words left taken taken_after source_failed sink_failed status
  answers_unread request status asked none (owing {status = owes} {answer = due} owed delivered) text before e kept =
      delivers owes due status
      (λ text e. answered request asked (λ reads. absurd (not_both (reads_text request.command) reads none)) (owed_unread request.command request [] text owes due none owed))
      delivered text before e kept
  answers_unread request status asked none (cut_short owes due owed writes n h) text before e kept = absurd (writes_none request.command none writes)
  answers_unread request status asked none (wanting same) text before e kept = wants_memory same text before e kept

-- what a response that was delivered says of its status
pub record Response (status : ℕ) (sink_failed : Type 0) : Type 0 where
  pub no_words : status ≡ 2 → ⊥
  pub no_read_fault : status ≡ 3 → ⊥
  pub write_fault : status ≡ 4 → sink_failed
  pub not_long : status ≡ 6 → ⊥

delivered_response : (status : ℕ) (due : List ℕ) (taken taken_after : Option (List ℕ)) (sink_failed : Type 0) (result : ℕ) → IsAnswer status
    → Delivered status due taken taken_after sink_failed result → Response result sink_failed
delivered_response status due taken taken_after sink_failed result is (taken_whole h) =
    record { no_words = is.no_words; no_read_fault = is.no_read_fault; write_fault = λ e. absurd (is.no_write_fault e); not_long = is.not_long }
delivered_response status due taken taken_after sink_failed result is (taken_part n failed h) =
    record { no_words = λ e. omega arith; no_read_fault = λ e. omega arith; write_fault = λ e. failed; not_long = λ e. omega arith }

five : (sink_failed : Type 0) → Response 5 sink_failed
five sink_failed = record { no_words = λ e. omega arith; no_read_fault = λ e. omega arith; write_fault = λ e. absurd (omega arith); not_long = λ e. omega arith }

pub response : (request : Request) (text : List ℕ) (taken taken_after : Option (List ℕ)) (sink_failed : Type 0) (result : ℕ) → Responded request text taken taken_after sink_failed result → Response result sink_failed
response request text taken taken_after sink_failed result (owing {status = owes} {answer = due} owed delivered) = delivered_response owes due taken taken_after sink_failed result (owed_is_answer request text owes due owed) delivered
response request text taken taken_after sink_failed result (cut_short owes due owed writes n h) = five sink_failed
response request text taken taken_after sink_failed result (wanting same) = five sink_failed

abbrev if_false : Bool → Type 0
if_false true = ⊥
if_false false = ⊤

no_truth : false ≡ true → ⊥
no_truth h = subst if_false h tt

-- a fault that was told answers no text
pub fault_is_no_answer : (status : ℕ) (due : List ℕ) (taken taken_after : Option (List ℕ)) (sink_failed : Type 0) (result : ℕ) → answers_a_text status ≡ false → answers_a_text result ≡ true
    → Delivered status due taken taken_after sink_failed result → ⊥
fault_is_no_answer status due taken taken_after sink_failed result none is (taken_whole h) = no_truth (sym none ∙ is)
fault_is_no_answer status due taken taken_after sink_failed result none is (taken_part n failed h) = no_truth is

-- without a text: the statuses of `soak`
delivered_soak : (status : ℕ) (due : List ℕ) (taken taken_after : Option (List ℕ)) (sink_failed : Type 0) (result : ℕ) → is_of_soak status ≡ true
    → Delivered status due taken taken_after sink_failed result → is_of_soak result ≡ true
delivered_soak status due taken taken_after sink_failed result is (taken_whole h) = is
delivered_soak status due taken taken_after sink_failed result is (taken_part n failed h) = refl

pub soak_response : (request : Request) (taken taken_after : Option (List ℕ)) (sink_failed : Type 0) (result : ℕ) → reads_text request.command ≡ false → Responded request [] taken taken_after sink_failed result
    → is_of_soak result ≡ true
soak_response request taken taken_after sink_failed result none (owing {status = owes} {answer = due} owed delivered) =
    delivered_soak owes due taken taken_after sink_failed result (soaks_to request.command request [] owes due none owed) delivered
soak_response request taken taken_after sink_failed result none (cut_short owes due owed writes n h) = absurd (writes_none request.command none writes)
soak_response request taken taken_after sink_failed result none (wanting same) = refl
