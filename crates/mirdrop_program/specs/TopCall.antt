-- What is due for words and a text, and what the program may answer.
use Rattle.std.specs.Prelude.{◌≡◌, ℕ, ◌<◌, ◌≤◌, ◌⊎◌, ◌==◌, ◌||◌, Bool, true, false, List, [], ◌++◌, length, take, Option, Some, None, codes}
use Rattle.mir_base.specs.Lines.{line}
use Rattle.mirdrop_program.specs.Words.{request_of}
use Rattle.mirdrop_program.specs.declared.request.Command.{Command}
use Rattle.mirdrop_program.specs.declared.request.Request.{Request}
use Rattle.mirdrop_program.specs.Owed.{Owed}

abbrev pub words_line : List ℕ
words_line = line (codes "refused: words")

abbrev pub read_line : List ℕ
read_line = line (codes "fault: read")

abbrev pub long_line : List ℕ
long_line = line (codes "refused: text over 131072 bytes")

-- a trace is written as it comes; every other text is made whole first
abbrev pub writes_a_trace : Command → Bool
writes_a_trace Command.Run = true
writes_a_trace Command.Exec = true
writes_a_trace command = false

-- `soak` reads no text
abbrev pub reads_text : Command → Bool
reads_text (Command.Soak functions) = false
reads_text command = true

-- a status, and the text that is due with it; a text that is not read may be as long as it likes
pub data DueAnswer (words : List (List ℕ)) (text : List ℕ) (source_failed : Type 0) : ℕ → List ℕ → Type 0 where
  wrong_words : request_of words ≡ None → DueAnswer words text source_failed 2 words_line
  not_read : (request : Request) → request_of words ≡ Some request → reads_text request.command ≡ true →
      source_failed →
      DueAnswer words text source_failed 3 read_line
  too_long : (request : Request) → request_of words ≡ Some request → reads_text request.command ≡ true →
      131072 < length text →
      DueAnswer words text source_failed 6 long_line
  answered : {status : ℕ} {answer : List ℕ} (request : Request) → request_of words ≡ Some request →
      (reads_text request.command ≡ true → length text ≤ 131072) → Owed request text status answer →
      DueAnswer words text source_failed status answer

-- a status, and what is written with it: all that is due; a part of it, where the sink failed; or, for want of memory,
-- nothing, and of a trace some beginning
pub data Answers (words : List (List ℕ)) (text : List ℕ) (source_failed sink_failed : Type 0) : ℕ → List ℕ →
    Type 0 where
  whole : {status : ℕ} {written : List ℕ} → DueAnswer words text source_failed status written →
      Answers words text source_failed sink_failed status written
  part : {status : ℕ} {due : List ℕ} → DueAnswer words text source_failed status due → (n : ℕ) → sink_failed →
      Answers words text source_failed sink_failed 4 (take n due)
  no_memory : Answers words text source_failed sink_failed 5 []
  no_memory_for_trace : (status : ℕ) (due : List ℕ) (request : Request) → request_of words ≡ Some request →
      writes_a_trace request.command ≡ true → length text ≤ 131072 → Owed request text status due → (n : ℕ) →
      Answers words text source_failed sink_failed 5 (take n due)

-- where the source tells its bytes and the sink those that it took, the program answered so
abbrev pub HasAnswered : List (List ℕ) → Option (List ℕ) → Option (List ℕ) → Option (List ℕ) → Type 0 → Type 0 → ℕ →
    Type 0
HasAnswered words left taken taken_after source_failed sink_failed status =
    (text before : List ℕ) → left ≡ Some text → taken ≡ Some before
    → (written : List ℕ) × (taken_after ≡ Some (before ++ written)) × Answers words text source_failed sink_failed
    status written

-- the same where the words ask for something, a text that is read is not too long, and nothing failed: memory aside, the
-- answer that is owed is written
abbrev pub IsComplete : List (List ℕ) → Option (List ℕ) → Option (List ℕ) → Option (List ℕ) → Type 0 → Type 0 → ℕ →
    Type 0
IsComplete words left taken taken_after source_failed sink_failed status =
    (request : Request) (text before : List ℕ) → request_of words ≡ Some request → left ≡ Some text →
    taken ≡ Some before → (reads_text request.command ≡ true → (length text ≤ 131072) × ¬ source_failed) →
    ¬ sink_failed
    → (status ≡ 5) ⊎ ((written : List ℕ) × (taken_after ≡ Some (before ++ written)) × Owed request text status written)

-- the statuses that answer a text
abbrev pub answers_a_text : ℕ → Bool
answers_a_text status =
    status == 0 || (status == 1 || (status == 10 || (status == 11 || (status == 12 || status == 13))))

-- the statuses of `soak`
abbrev pub is_of_soak : ℕ → Bool
is_of_soak status =
    status == 0 || (status == 4 || (status == 5 || (status == 10 || (status == 11 || status == 12))))

-- a text was handed to a sink, with a status
pub data Delivered (status : ℕ) (text : List ℕ) (taken taken_after : Option (List ℕ)) (sink_failed : Type 0) : ℕ →
    Type 0 where
  taken_whole : ((before : List ℕ) → taken ≡ Some before → taken_after ≡ Some (before ++ text)) →
      Delivered status text taken taken_after sink_failed status
  taken_part : (n : ℕ) → sink_failed →
      ((before : List ℕ) → taken ≡ Some before → taken_after ≡ Some (before ++ take n text)) →
      Delivered status text taken taken_after sink_failed 4

-- a text was answered: what it is owed was handed to the sink, or memory was wanted
pub data Responded (request : Request) (text : List ℕ) (taken taken_after : Option (List ℕ)) (sink_failed : Type 0) :
    ℕ → Type 0 where
  owing : {status : ℕ} {answer : List ℕ} {result : ℕ} → Owed request text status answer →
      Delivered status answer taken taken_after sink_failed result
      → Responded request text taken taken_after sink_failed result
  cut_short : (status : ℕ) (answer : List ℕ) → Owed request text status answer →
      writes_a_trace request.command ≡ true → (n : ℕ) →
      ((before : List ℕ) → taken ≡ Some before → taken_after ≡ Some (before ++ take n answer)) →
      Responded request text taken taken_after sink_failed 5
  wanting : taken_after ≡ taken → Responded request text taken taken_after sink_failed 5
