-- What is answered to a text is what it is owed.
use Rattle.std.proofs.Common.{◌≡◌, ℕ, List, ◌++◌, sym, subst, refl, Result, Ok, Err, IfOk}
use Rattle.std.proofs.lemmas.List.Elements.{All-weaker}
use Rattle.cfg_graph.specs.declared.graph.Graph.{Graph}
use Rattle.cfg_graph.specs.WellFormed.Faults.{IsCounted, IsCountedBody}
use Rattle.mir_pipeline.proofs.Accepted.{is_accepted, has_bad_use}
use Rattle.drop_graphs.specs.declared.exact.Elaborated.{Elaborated}
use Rattle.mir_pipeline.specs.Built.{IsBuiltOf}
use Rattle.mir_pipeline.specs.Graphs.{IsLoweredOf, IsNotAccepted, RefusesUses, UsesStand}
use Rattle.mir_pipeline.specs.Programs.{HasAcceptedProgram, HasNoProgram}
use Rattle.mir_pipeline.specs.declared.refusal.Refusal.{Refusal}
use Rattle.cfg_build.specs.declared.programs.Lowered.{Lowered}
use Rattle.listing_trip.specs.Trip.{ReadsBack}
use Rattle.listing_write.specs.Listing.{IsShortBody, IsShortGraph, listing}
use Rattle.mirdrop_program.specs.Owed.{OwedByBuild, OwedByCheck, OwedByRaw, built, not_built, accepted, not_accepted, listed, listed_with_use, no_program, accepted_line, IsOfUse}
use Rattle.mirdrop_program.specs.Refusals.{IsTold, refusal_lines}

-- what is said of a status and of a text says it of what equals them
pub as_said : (Says : ℕ → List ℕ → Type 0) (status same_status : ℕ) (text same_text : List ℕ) → status ≡ same_status → text ≡ same_text →
    Says same_status same_text → Says status text
as_said Says status same_status text same_text s t says =
    subst (λ (n : ℕ). Says n text) (sym s) (subst (λ (l : List ℕ). Says same_status l) (sym t) says)

pub check_accepted : (text : List ℕ) (status : ℕ) (written : List ℕ) → HasAcceptedProgram text → status ≡ 0 →
    written ≡ accepted_line → OwedByCheck text status written
check_accepted text status written is s w = as_said (OwedByCheck text) status 0 written accepted_line s w (accepted is)

pub check_refused : (text : List ℕ) (why : Refusal) (status : ℕ) (written : List ℕ) → IsNotAccepted text why → IsTold why → status ≡ 1 → written ≡ refusal_lines why →
    OwedByCheck text status written
check_refused text why status written is told s w =
    as_said (OwedByCheck text) status 1 written (refusal_lines why) s w (not_accepted why is told)

pub raw_listed : (text : List ℕ) (lowered : Lowered) (status : ℕ) (written : List ℕ) → IsLoweredOf text lowered → UsesStand lowered.graph → status ≡ 0 → written ≡ listing lowered.graph →
    OwedByRaw text status written
raw_listed text lowered status written is stand s w =
    as_said (OwedByRaw text) status 0 written (listing lowered.graph) s w (listed lowered (is_accepted text lowered lowered is (refl, stand)))

pub raw_with_use : (text : List ℕ) (lowered : Lowered) (why : Refusal) (status : ℕ) (written : List ℕ) → IsLoweredOf text lowered → RefusesUses lowered why → IsOfUse why →
    status ≡ 0 → written ≡ listing lowered.graph ++ refusal_lines why → OwedByRaw text status written
raw_with_use text lowered why status written is refuses of_use s w =
    as_said (OwedByRaw text) status 0 written (listing lowered.graph ++ refusal_lines why) s w (listed_with_use lowered is why refuses of_use (has_bad_use text lowered why is refuses))

pub raw_refused : (text : List ℕ) (why : Refusal) (status : ℕ) (written : List ℕ) → HasNoProgram text why → IsTold why → status ≡ 1 → written ≡ refusal_lines why →
    OwedByRaw text status written
raw_refused text why status written is told s w =
    as_said (OwedByRaw text) status 1 written (refusal_lines why) s w (no_program why is told)

pub build_listed : (text : List ℕ) (done : Elaborated) (status : ℕ) (written : List ℕ) → IsBuiltOf text done → status ≡ 0 →
    written ≡ listing done.graph → ReadsBack done.graph → OwedByBuild text status written
build_listed text done status written is s w back =
    as_said (OwedByBuild text) status 0 written (listing done.graph) s w (built done is back)

pub build_refused : (text : List ℕ) (why : Refusal) (status : ℕ) (written : List ℕ) → IsNotAccepted text why → IsTold why →
    status ≡ 1 → written ≡ refusal_lines why → OwedByBuild text status written
build_refused text why status written is told s w =
    as_said (OwedByBuild text) status 1 written (refusal_lines why) s w (not_built why is told)

-- what is built of a text has short lists
pub built_counted : (text : List ℕ) (done : Elaborated) → IsBuiltOf text done → IsCounted done.graph
built_counted text done (program, p, is) = is.counted

pub short_graph : (graph : Graph) → IsCounted graph → IsShortGraph graph
short_graph graph c = record {
  bodies = c.bodies;
  each = All-weaker IsCountedBody IsShortBody (λ body b. record { locals = b.locals; blocks = b.blocks }) graph.bodies c.each;
}

-- what holds of an answer where two or three things do
pub both_ok : {A E : Type 0} (r : Result A E) (P Q S : A → Type 0) → ((a : A) → P a → Q a → S a) → IfOk r P → IfOk r Q → IfOk r S
both_ok (Ok a) P Q S f p q = f a p q
both_ok (Err e) P Q S f p q = tt

pub all_ok : {A E : Type 0} (r : Result A E) (P Q R S : A → Type 0) → ((a : A) → P a → Q a → R a → S a) → IfOk r P → IfOk r Q → IfOk r R → IfOk r S
all_ok (Ok a) P Q R S f p q s = f a p q s
all_ok (Err e) P Q R S f p q s = tt
