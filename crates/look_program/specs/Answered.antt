-- What a text is owed by each word: a status, and all that is written with it.
use Rattle.std.specs.Prelude.{ℕ, Bool, true, false, List, [], codes, Err, nat_eq}
use Rattle.std.specs.List.{starts_with}
use Rattle.cfg_graph.specs.declared.graph.Graph.{Graph}
use Rattle.cfg_build.specs.declared.programs.Lowered.{Lowered}
use Rattle.drop_graphs.specs.declared.exact.Elaborated.{Elaborated}
use Rattle.mir_pipeline.specs.Built.{IsBuiltOf}
use Rattle.mir_pipeline.specs.Graphs.{IsLoweredOf, IsNotAccepted}
use Rattle.mir_pipeline.specs.Programs.{HasAcceptedProgram, HasNoProgram, IsProgramOf}
use Rattle.mir_pipeline.specs.declared.refusal.Refusal.{Refusal}
use Rattle.mir_text.specs.Answers.{IsText, Answers as AnswersListing}
use Rattle.mir_text.specs.declared.error.ListingError.{ListingError}
use Rattle.mirdrop_program.specs.Owed.{accepted_line}
use Rattle.mirdrop_program.specs.Refusals.{IsTold, IsToldError}
use Rattle.look_program.specs.declared.look.Look.{Look}
use Rattle.typed_tree.specs.Tree.{ProgramTree}
use Rattle.look_draw.specs.Drawings.{drawing}
use Rattle.look_places.specs.Names.{program_names}
use Rattle.look_program.specs.Explanations.{explanation, explanation_of_use, listing_explanation}

-- a text that begins as a listing does, which no program does
abbrev pub is_listing : List ℕ → Bool
is_listing text = starts_with nat_eq text (codes "mirdrop ")

-- of a graph without a fault; a listing has neither sites nor names of variables
abbrev pub graph_text : Look → Graph → List ℕ
graph_text Look.Explain graph = accepted_line
graph_text Look.Dot graph = drawing [] [] graph graph
graph_text Look.Built graph = drawing [] [] graph graph

module _ (text : List ℕ) where
  -- a program is accepted, or its refusal is explained; its raw graph is drawn, or its graph with exact drops
  pub data OwedToProgram : Look → ℕ → List ℕ → Type 0 where
    accepted : HasAcceptedProgram text → OwedToProgram Look.Explain 0 accepted_line
    not_read : (why : Refusal) → HasNoProgram text why → IsTold why →
        OwedToProgram Look.Explain 1 (explanation text why)
    not_accepted : (lowered : Lowered) → IsLoweredOf text lowered → (why : Refusal) → IsNotAccepted text why →
        IsTold why → OwedToProgram Look.Explain 1 (explanation_of_use text lowered why)
    drawn : (lowered : Lowered) → IsLoweredOf text lowered → (program : ProgramTree) → IsProgramOf text program →
        OwedToProgram Look.Dot 0 (drawing lowered.sites (program_names program) lowered.graph lowered.graph)
    no_program : (why : Refusal) → HasNoProgram text why → IsTold why → OwedToProgram Look.Dot 1 (explanation text why)
    built : (lowered : Lowered) → IsLoweredOf text lowered → (done : Elaborated) → IsBuiltOf text done →
        (program : ProgramTree) → IsProgramOf text program →
        OwedToProgram Look.Built 0 (drawing [] (program_names program) lowered.graph done.graph)
    not_built : (why : Refusal) → IsNotAccepted text why → IsTold why →
        OwedToProgram Look.Built 1 (explanation text why)

  -- so is a listing
  pub data OwedToListing (look : Look) : ℕ → List ℕ → Type 0 where
    listed : (graph : Graph) → IsText text graph → OwedToListing look 0 (graph_text look graph)
    no_listing : (error : ListingError) → AnswersListing text (Err error) → IsToldError error →
        OwedToListing look 1 (listing_explanation text error)

  abbrev pub owed_if : Bool → Look → ℕ → List ℕ → Type 0
  owed_if true = OwedToListing
  owed_if false = OwedToProgram

  abbrev pub Owed : Look → ℕ → List ℕ → Type 0
  Owed = owed_if (is_listing text)
