-- No text is owed a status of failure.
use Rattle.std.proofs.Common.{◌≡◌, ℕ, List, arith, ap, sym, ◌∙◌, subst}
use Rattle.mir_base.specs.declared.trace.End.{End}
use Rattle.mirdrop_program.specs.declared.request.Command.{Command}
use Rattle.mirdrop_program.specs.declared.request.Request.{Request}
use Rattle.mirdrop_program.specs.Owed.{Owed, owed_by, OwedByCheck, OwedByRaw, OwedByBuild, OwedByRun, OwedByExec, OwedBySoak, summed, accepted, not_accepted, listed, listed_with_use, no_program, built, not_built, ran, not_run, executed, no_listing, end_status}

-- the statuses of failures
pub record IsAnswer (status : ℕ) : Type 0 where
  pub no_words : status ≡ 2 → ⊥
  pub no_read_fault : status ≡ 3 → ⊥
  pub no_write_fault : status ≡ 4 → ⊥
  pub not_long : status ≡ 6 → ⊥

zero_is_answer : IsAnswer 0
zero_is_answer = record { no_words = λ h. omega arith; no_read_fault = λ h. omega arith; no_write_fault = λ h. omega arith; not_long = λ h. omega arith }

one_is_answer : IsAnswer 1
one_is_answer = record { no_words = λ h. omega arith; no_read_fault = λ h. omega arith; no_write_fault = λ h. omega arith; not_long = λ h. omega arith }

end_is_answer : (e : End) → IsAnswer (end_status e)
end_is_answer End.Returned = zero_is_answer
end_is_answer End.Panicked = record { no_words = λ h. omega arith; no_read_fault = λ h. omega arith; no_write_fault = λ h. omega arith; not_long = λ h. omega arith }
end_is_answer End.Aborted = record { no_words = λ h. omega arith; no_read_fault = λ h. omega arith; no_write_fault = λ h. omega arith; not_long = λ h. omega arith }
end_is_answer End.OutOfTicks = record { no_words = λ h. omega arith; no_read_fault = λ h. omega arith; no_write_fault = λ h. omega arith; not_long = λ h. omega arith }
end_is_answer (End.Stuck body block) = record { no_words = λ h. omega arith; no_read_fault = λ h. omega arith; no_write_fault = λ h. omega arith; not_long = λ h. omega arith }

by_check : (text : List ℕ) (status : ℕ) (written : List ℕ) → OwedByCheck text status written → IsAnswer status
by_check text status written (accepted is) = zero_is_answer
by_check text status written (not_accepted why is told) = one_is_answer

by_raw : (text : List ℕ) (status : ℕ) (written : List ℕ) → OwedByRaw text status written → IsAnswer status
by_raw text status written (listed lowered is) = zero_is_answer
by_raw text status written (listed_with_use lowered is why refuses of_use refused) = zero_is_answer
by_raw text status written (no_program why is told) = one_is_answer

by_build : (text : List ℕ) (status : ℕ) (written : List ℕ) → OwedByBuild text status written → IsAnswer status
by_build text status written (built done is back) = zero_is_answer
by_build text status written (not_built why is told) = one_is_answer

by_command : (command : Command) (request : Request) (text : List ℕ) (status : ℕ) (written : List ℕ) → owed_by command request text status written → IsAnswer status
by_command Command.Check request text status written owed = by_check text status written owed
by_command Command.Raw request text status written owed = by_raw text status written owed
by_command Command.Build request text status written owed = by_build text status written owed
by_command Command.Run request text status written (ran program is uses never_stuck once) = end_is_answer _
by_command Command.Run request text status written (not_run why is told) = one_is_answer
by_command Command.Exec request text status written (executed graph is) = end_is_answer _
by_command Command.Exec request text status written (no_listing error is told) = one_is_answer
by_command (Command.Soak functions) request text status written (summed program is uses never_stuck once) = end_is_answer _

pub owed_is_answer : (request : Request) (text : List ℕ) (status : ℕ) (written : List ℕ) → Owed request text status written → IsAnswer status
owed_is_answer request text status written owed = by_command request.command request text status written owed
