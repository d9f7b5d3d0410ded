-- What is owed where no text is read.
use Rattle.std.proofs.Common.{◌≡◌, ◌≢◌, ℕ, true, false, List, refl}
use Rattle.mir_base.specs.declared.trace.End.{End}
use Rattle.mirdrop_program.specs.declared.request.Command.{Command}
use Rattle.mirdrop_program.specs.declared.request.Request.{Request}
use Rattle.mirdrop_program.specs.Owed.{OwedBySoak, end_status, owed_by, summed, zeros}
use Rattle.mirdrop_program.specs.TopCall.{is_of_soak, reads_text, writes_a_trace}
use Rattle.src_meaning.specs.Programs.{source}

-- it is owed whatever the text
pub owed_unread : (command : Command) (request : Request) (text other : List ℕ) (status : ℕ) (written : List ℕ) →
    reads_text command ≡ false → owed_by command request text status written →
    owed_by command request other status written
owed_unread Command.Check request text other status written none owed = absurd (cc)
owed_unread Command.Raw request text other status written none owed = absurd (cc)
owed_unread Command.Build request text other status written none owed = absurd (cc)
owed_unread Command.Run request text other status written none owed = absurd (cc)
owed_unread Command.Exec request text other status written none owed = absurd (cc)
owed_unread (Command.Soak functions) request text other status written none owed = owed

-- and no trace is written
pub writes_none : (command : Command) → reads_text command ≡ false → writes_a_trace command ≡ true → ⊥
writes_none Command.Check none writes = absurd (cc)
writes_none Command.Raw none writes = absurd (cc)
writes_none Command.Build none writes = absurd (cc)
writes_none Command.Run none writes = absurd (cc)
writes_none Command.Exec none writes = absurd (cc)
writes_none (Command.Soak functions) none writes = absurd (cc)

-- a run that is not stuck has a status of `soak`
soaks_at : (end : End) → ((body block : ℕ) → end ≢ End.Stuck body block) → is_of_soak (end_status end) ≡ true
soaks_at End.Returned free = refl
soaks_at End.Panicked free = refl
soaks_at End.Aborted free = refl
soaks_at End.OutOfTicks free = refl
soaks_at (End.Stuck body block) free = absurd (free body block refl)

pub soaks_to : (command : Command) (request : Request) (text : List ℕ) (status : ℕ) (written : List ℕ) →
    reads_text command ≡ false → owed_by command request text status written → is_of_soak status ≡ true
soaks_to Command.Check request text status written none owed = absurd (cc)
soaks_to Command.Raw request text status written none owed = absurd (cc)
soaks_to Command.Build request text status written none owed = absurd (cc)
soaks_to Command.Run request text status written none owed = absurd (cc)
soaks_to Command.Exec request text status written none owed = absurd (cc)
soaks_to (Command.Soak functions) request text status written none (summed program is accepted never_stuck once) =
    soaks_at (source program zeros request.ticks).1 (never_stuck zeros request.ticks)
