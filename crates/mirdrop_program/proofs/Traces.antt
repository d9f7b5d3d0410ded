-- How a trace was written.
use Rattle.std.proofs.Common.{◌≡◌, ◌∙◌, ℕ, List, ◌++◌, take, Option, Some, None, ap, refl, sym, subst}
use Rattle.std.proofs.lemmas.Option.{none-some, same_Some}
use Rattle.mirdrop_program.specs.TopCall.{taken_whole, taken_part}
use Rattle.mir_machine.specs.Errors.{IsWriteFault, TookPart}
use Rattle.mir_machine.specs.declared.error.RunError.{RunError}
use Rattle.mirdrop_program.specs.Written.{Ran, ran, cut, error_status}

pub run_whole : (status result : ℕ) (text : List ℕ) (taken taken_after : Option (List ℕ)) (sink_failed : Type 0) → result ≡ status →
    ((before : List ℕ) → taken ≡ Some before → taken_after ≡ Some (before ++ text)) → Ran status text taken taken_after sink_failed result
run_whole status result text taken taken_after sink_failed is h =
    subst (λ (n : ℕ). Ran status text taken taken_after sink_failed n) (sym is) (ran (taken_whole h))

run_part : (status : ℕ) (text : List ℕ) (taken taken_after : Option (List ℕ)) (sink_failed : Type 0) (n : ℕ) → sink_failed →
    ((before : List ℕ) → taken ≡ Some before → taken_after ≡ Some (before ++ take n text)) → Ran status text taken taken_after sink_failed 4
run_part status text taken taken_after sink_failed n failed h = ran (taken_part n failed h)

run_cut : (status : ℕ) (text : List ℕ) (taken taken_after : Option (List ℕ)) (sink_failed : Type 0) →
    ((before : List ℕ) → taken ≡ Some before → (count : ℕ) × (taken_after ≡ Some (before ++ take count text))) → Ran status text taken taken_after sink_failed 5
run_cut status text None taken_after sink_failed h = cut 0 (λ before told. absurd (none-some before told))
run_cut status text (Some x) taken_after sink_failed h =
    cut (h x refl).0 (λ before told. (h x refl).1 ∙ ap (λ (b : List ℕ). Some (b ++ take (h x refl).0 text)) (same_Some x before told))

ended_by : (status : ℕ) (text : List ℕ) (taken taken_after : Option (List ℕ)) (sink_failed : Type 0) (error : RunError) →
    (IsWriteFault error → sink_failed) → TookPart text taken taken_after error → Ran status text taken taken_after sink_failed (error_status error)
ended_by status text taken taken_after sink_failed (RunError.WriteFault written) failed part = run_part status text taken taken_after sink_failed written (failed tt) part
ended_by status text taken taken_after sink_failed RunError.Memory failed part = run_cut status text taken taken_after sink_failed part

pub run_ended : (status result : ℕ) (text : List ℕ) (taken taken_after : Option (List ℕ)) (sink_failed : Type 0) (error : RunError) →
    result ≡ error_status error → (IsWriteFault error → sink_failed) → TookPart text taken taken_after error →
    Ran status text taken taken_after sink_failed result
run_ended status result text taken taken_after sink_failed error is failed part =
    subst (λ (n : ℕ). Ran status text taken taken_after sink_failed n) (sym is) (ended_by status text taken taken_after sink_failed error failed part)
