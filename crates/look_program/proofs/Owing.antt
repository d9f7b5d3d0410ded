-- What is answered to a text is what it is owed.
use Rattle.std.proofs.Common.{◌≡◌, ◌∙◌, ℕ, Bool, true, false, List, [], ap, sym, subst}
use Rattle.cfg_graph.specs.declared.graph.Graph.{Graph}
use Rattle.cfg_build.specs.declared.programs.Lowered.{Lowered}
use Rattle.cfg_graph.specs.WellFormed.Faults.{IsCounted, IsWellFormed}
use Rattle.drop_graphs.specs.declared.exact.Elaborated.{Elaborated}
use Rattle.mir_pipeline.specs.Built.{IsBuiltOf}
use Rattle.mir_pipeline.specs.Graphs.{AreSited, IsLoweredOf, IsNotAccepted}
use Rattle.mir_pipeline.specs.Programs.{HasAcceptedProgram, HasNoProgram, IsProgramOf}
use Rattle.mir_pipeline.specs.declared.refusal.Refusal.{Refusal}
use Rattle.mir_text.specs.Answers.{IsText, Answers as AnswersListing}
use Rattle.mir_text.specs.declared.error.ListingError.{ListingError}
use Rattle.std.specs.Prelude.{Err}
use Rattle.mirdrop_program.specs.Owed.{accepted_line}
use Rattle.mirdrop_program.specs.Refusals.{IsTold, IsToldError}
use Rattle.mirdrop_program.proofs.Owing.{as_said}
use Rattle.look_program.specs.declared.look.Look.{Look}
use Rattle.look_program.specs.Answered.{is_listing, Owed, owed_if, OwedToListing, OwedToProgram, accepted, not_read, not_accepted, drawn, no_program, built, not_built, listed, no_listing, graph_text}
use Rattle.lower_rules.specs.declared.site.Site.{Site}
use Rattle.typed_tree.specs.Tree.{ProgramTree}
use Rattle.look_draw.specs.Drawings.{drawing}
use Rattle.look_places.specs.Names.{program_names}
use Rattle.look_program.specs.Explanations.{explanation, explanation_of_use, listing_explanation}

-- the graph of a text is well formed, its lists are short, and its bad uses have sites
pub lowered_well_formed : (text : List ℕ) (lowered : Lowered) → IsLoweredOf text lowered → IsWellFormed lowered.graph
lowered_well_formed text lowered (program, is, of) = of.well_formed

pub lowered_counted : (text : List ℕ) (lowered : Lowered) → IsLoweredOf text lowered → IsCounted lowered.graph
lowered_counted text lowered (program, is, of) = of.counted

pub lowered_sited : (text : List ℕ) (lowered : Lowered) → IsLoweredOf text lowered → AreSited lowered
lowered_sited text lowered (program, is, of) = of.sited

-- the lists of a graph that was built are short
pub built_counted : (text : List ℕ) (done : Elaborated) → IsBuiltOf text done → IsCounted done.graph
built_counted text done (program, is, of) = of.counted

module _ (text : List ℕ) (status : ℕ) (written : List ℕ) where
  pub explain_accepted : HasAcceptedProgram text → status ≡ 0 → written ≡ accepted_line →
      OwedToProgram text Look.Explain status written
  explain_accepted is s w = as_said (OwedToProgram text Look.Explain) status 0 written accepted_line s w (accepted is)

  pub explain_unread : (why : Refusal) → HasNoProgram text why → IsTold why → status ≡ 1 → written ≡ explanation text why →
      OwedToProgram text Look.Explain status written
  explain_unread why is told s w =
      as_said (OwedToProgram text Look.Explain) status 1 written (explanation text why) s w (not_read why is told)

  pub explain_refused : (lowered : Lowered) → IsLoweredOf text lowered → (why : Refusal) → IsNotAccepted text why → IsTold why →
      status ≡ 1 → written ≡ explanation_of_use text lowered why → OwedToProgram text Look.Explain status written
  explain_refused lowered is why refused told s w =
      as_said (OwedToProgram text Look.Explain) status 1 written (explanation_of_use text lowered why) s w
      (not_accepted lowered is why refused told)

  pub dot_drawn : (lowered : Lowered) → IsLoweredOf text lowered → (program : ProgramTree) → IsProgramOf text program →
      (sites : List Site) → sites ≡ lowered.sites → status ≡ 0 →
      written ≡ drawing sites (program_names program) lowered.graph lowered.graph → OwedToProgram text Look.Dot status written
  dot_drawn lowered is program read sites same s w =
      as_said (OwedToProgram text Look.Dot) status 0 written (drawing lowered.sites (program_names program) lowered.graph lowered.graph)
      s (w ∙ ap (λ (l : List Site). drawing l (program_names program) lowered.graph lowered.graph) same)
      (drawn lowered is program read)

  pub dot_refused : (why : Refusal) → HasNoProgram text why → IsTold why → status ≡ 1 → written ≡ explanation text why →
      OwedToProgram text Look.Dot status written
  dot_refused why is told s w =
      as_said (OwedToProgram text Look.Dot) status 1 written (explanation text why) s w (no_program why is told)

  pub dot_built : (lowered : Lowered) → IsLoweredOf text lowered → (done : Elaborated) → IsBuiltOf text done →
      (program : ProgramTree) → IsProgramOf text program → status ≡ 0 →
      written ≡ drawing [] (program_names program) lowered.graph done.graph → OwedToProgram text Look.Built status written
  dot_built lowered is done of program read s w =
      as_said (OwedToProgram text Look.Built) status 0 written (drawing [] (program_names program) lowered.graph done.graph)
      s w (built lowered is done of program read)

  pub built_refused : (why : Refusal) → IsNotAccepted text why → IsTold why → status ≡ 1 → written ≡ explanation text why →
      OwedToProgram text Look.Built status written
  built_refused why is told s w =
      as_said (OwedToProgram text Look.Built) status 1 written (explanation text why) s w (not_built why is told)

  pub listing_read : (look : Look) (graph : Graph) → IsText text graph → status ≡ 0 → written ≡ graph_text look graph →
      OwedToListing text look status written
  listing_read look graph is s w = as_said (OwedToListing text look) status 0 written (graph_text look graph) s w (listed graph is)

  pub listing_refused : (look : Look) (error : ListingError) → AnswersListing text (Err error) → IsToldError error → status ≡ 1 →
      written ≡ listing_explanation text error → OwedToListing text look status written
  listing_refused look error is told s w =
      as_said (OwedToListing text look) status 1 written (listing_explanation text error) s w (no_listing error is told)

  pub owed_to_listing : (look : Look) → is_listing text ≡ true → OwedToListing text look status written → Owed text look status written
  owed_to_listing look is owed = subst (λ (b : Bool). owed_if text b look status written) (sym is) owed

  pub owed_to_program : (look : Look) → is_listing text ≡ false → OwedToProgram text look status written → Owed text look status written
  owed_to_program look is owed = subst (λ (b : Bool). owed_if text b look status written) (sym is) owed
