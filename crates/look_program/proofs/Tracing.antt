-- What is written of a run is what the text is owed.
use Rattle.std.proofs.Common.{◌≡◌, ℕ, List, [], ◌++◌, Some, refl, ap, sym, subst, ◌∙◌}
use Rattle.std.specs.Prelude.{ℤ}
use Rattle.std.proofs.lemmas.Option.{same_Some}
use Rattle.mir_edge.specs.Told.{WhereTold}
use Rattle.cfg_build.specs.declared.programs.Lowered.{Lowered}
use Rattle.cfg_graph.specs.WellFormed.Faults.{IsWellFormed}
use Rattle.cfg_graph.specs.declared.graph.Graph.{Graph}
use Rattle.mir_pipeline.proofs.Accepted.{is_accepted}
use Rattle.mir_pipeline.specs.Graphs.{IsLoweredOf, IsNotAccepted, UsesStand}
use Rattle.mir_pipeline.specs.Programs.{IsProgramOf, HasNoProgram}
use Rattle.mir_pipeline.specs.declared.refusal.Refusal.{Refusal}
use Rattle.mirdrop_program.specs.Refusals.{IsTold}
use Rattle.mirdrop_program.proofs.Owing.{as_said}
use Rattle.typed_tree.specs.Tree.{ProgramTree}
use Rattle.look_program.specs.Explanations.{explanation, explanation_of_use}
use Rattle.look_program.specs.Traces.{HasAcceptedGraph, OwedTrace, traced, not_read, not_accepted, trace_of}

-- the graph of an accepted text has no fault
pub accepted_well_formed : (text : List ℕ) (graph : Graph) → HasAcceptedGraph text graph → IsWellFormed graph
accepted_well_formed text graph (lowered, (program, read, accepted), is) =
    subst (λ (g : Graph). IsWellFormed g) (sym is) accepted.lowered_is.well_formed

-- a graph whose uses stand is that of an accepted text
pub accepted_graph : (text : List ℕ) (lowered : Lowered) → IsLoweredOf text lowered → UsesStand lowered.graph →
    HasAcceptedGraph text lowered.graph
accepted_graph text lowered is stand = (lowered, is_accepted text lowered lowered is (refl, stand), refl)

module _ (text : List ℕ) (asked : List ℤ) (ticks status : ℕ) (written : List ℕ) where
  pub trace_told : (graph : Graph) → HasAcceptedGraph text graph → (program : ProgramTree) → IsProgramOf text program → status ≡ 0 →
      written ≡ trace_of text program graph asked ticks → OwedTrace text asked ticks status written
  trace_told graph is program read s w =
      as_said (OwedTrace text asked ticks) status 0 written (trace_of text program graph asked ticks) s w
      (traced graph is program read)

  pub trace_unread : (why : Refusal) → HasNoProgram text why → IsTold why → status ≡ 1 → written ≡ explanation text why →
      OwedTrace text asked ticks status written
  trace_unread why is told s w =
      as_said (OwedTrace text asked ticks) status 1 written (explanation text why) s w (not_read why is told)

  pub trace_refused : (lowered : Lowered) → IsLoweredOf text lowered → (why : Refusal) → IsNotAccepted text why → IsTold why →
      status ≡ 1 → written ≡ explanation_of_use text lowered why → OwedTrace text asked ticks status written
  trace_refused lowered is why refused told s w =
      as_said (OwedTrace text asked ticks) status 1 written (explanation_of_use text lowered why) s w
      (not_accepted lowered is why refused told)

-- a sink that had nothing has what was written
pub gathered : (old new whole got : List ℕ) → old ≡ [] → WhereTold (Some old) (λ taken. Some new ≡ Some (taken ++ whole)) →
    got ≡ new → got ≡ whole
gathered old new whole got none told is =
    is ∙ same_Some new (old ++ whole) (told old refl) ∙ ap (λ (l : List ℕ). l ++ whole) none
