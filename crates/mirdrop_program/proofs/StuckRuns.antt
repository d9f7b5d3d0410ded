-- No run is stuck but one of `exec`.
use Rattle.std.proofs.Common.{◌≡◌, ◌≢◌, ℕ, List, Option, refl, arith, subst}
use Rattle.std.proofs.lemmas.Option.{same_Some}
use Rattle.mir_base.specs.declared.trace.End.{End}
use Rattle.mirdrop_program.specs.declared.request.Command.{Command}
use Rattle.mirdrop_program.specs.declared.request.Request.{Request}
use Rattle.mirdrop_program.specs.Owed.{OwedByBuild, OwedByCheck, OwedByRaw, accepted, built, end_status, executed, listed, listed_with_use, no_listing, no_program, not_accepted, not_built, not_run, owed_by, ran, summed, zeros}
use Rattle.mirdrop_program.specs.TopCall.{Delivered, Responded, cut_short, owing, taken_part, taken_whole, wanting}
use Rattle.src_meaning.specs.Programs.{source}

-- the status of a run that is not stuck
not_stuck : (end : End) → ((body block : ℕ) → end ≢ End.Stuck body block) → end_status end ≡ 13 → ⊥
not_stuck End.Returned free e = omega (arith, e)
not_stuck End.Panicked free e = omega (arith, e)
not_stuck End.Aborted free e = omega (arith, e)
not_stuck End.OutOfTicks free e = omega (arith, e)
not_stuck (End.Stuck body block) free e = free body block refl

by_check : (text : List ℕ) (status : ℕ) (written : List ℕ) → OwedByCheck text status written → status ≡ 13 → ⊥
by_check text status written (accepted is) e = omega (arith, e)
by_check text status written (not_accepted why is told) e = omega (arith, e)

by_raw : (text : List ℕ) (status : ℕ) (written : List ℕ) → OwedByRaw text status written → status ≡ 13 → ⊥
by_raw text status written (listed lowered is) e = omega (arith, e)
by_raw text status written (listed_with_use lowered is why refuses of_use refused) e = omega (arith, e)
by_raw text status written (no_program why is told) e = omega (arith, e)

by_build : (text : List ℕ) (status : ℕ) (written : List ℕ) → OwedByBuild text status written → status ≡ 13 → ⊥
by_build text status written (built done is back) e = omega (arith, e)
by_build text status written (not_built why is told) e = omega (arith, e)

owed_stuck : (command : Command) (request : Request) (text : List ℕ) (status : ℕ) (written : List ℕ) →
    owed_by command request text status written → status ≡ 13 → command ≡ Command.Exec
owed_stuck Command.Check request text status written owed e = absurd (by_check text status written owed e)
owed_stuck Command.Raw request text status written owed e = absurd (by_raw text status written owed e)
owed_stuck Command.Build request text status written owed e = absurd (by_build text status written owed e)
owed_stuck Command.Run request text status written (ran program is uses never_stuck once) e =
    absurd (not_stuck (source program request.asks request.ticks).1 (never_stuck request.asks request.ticks) e)
owed_stuck Command.Run request text status written (not_run why is told) e = absurd (omega (arith, e))
owed_stuck Command.Exec request text status written owed e = refl
owed_stuck (Command.Soak functions) request text status written (summed program is uses never_stuck once) e =
    absurd (not_stuck (source program zeros request.ticks).1 (never_stuck zeros request.ticks) e)

delivered_stuck : (status : ℕ) (due : List ℕ) (taken taken_after : Option (List ℕ)) (sink_failed : Type 0) (result : ℕ) →
    Delivered status due taken taken_after sink_failed result → result ≡ 13 → status ≡ 13
delivered_stuck status due taken taken_after sink_failed result (taken_whole h) e = e
delivered_stuck status due taken taken_after sink_failed result (taken_part n failed h) e = absurd (omega (arith, e))

pub responded_stuck : (request : Request) (text : List ℕ) (taken taken_after : Option (List ℕ)) (sink_failed : Type 0) (result : ℕ) →
    Responded request text taken taken_after sink_failed result → result ≡ 13 → request.command ≡ Command.Exec
responded_stuck request text taken taken_after sink_failed result (owing {status = owes} {answer = due} owed delivered) e =
    owed_stuck request.command request text owes due owed (delivered_stuck owes due taken taken_after sink_failed result delivered e)
responded_stuck request text taken taken_after sink_failed result (cut_short owes due owed writes n h) e = absurd (omega (arith, e))
responded_stuck request text taken taken_after sink_failed result (wanting same) e = absurd (omega (arith, e))
