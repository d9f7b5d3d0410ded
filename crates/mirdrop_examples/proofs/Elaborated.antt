-- The raw graph of an accepted text can be elaborated, and what is elaborated can be listed.
use Rattle.std.proofs.Common.{◌≡◌, ℕ, List, refl}
use Rattle.std.proofs.lemmas.List.Elements.{All-weaker}
use Rattle.cfg_graph.specs.declared.graph.Graph.{Graph}
use Rattle.cfg_graph.specs.WellFormed.Faults.{IsCounted, IsCountedBody}
use Rattle.cfg_build.specs.declared.programs.Lowered.{Lowered}
use Rattle.drop_laws.specs.Ready.{IsElaborable}
use Rattle.listing_write.specs.Listing.{IsShortBody, IsShortGraph}
use Rattle.mir_pipeline.proofs.Accepted.{is_accepted}
use Rattle.mir_pipeline.proofs.ExactDrops.{ready_of}
use Rattle.mir_pipeline.specs.Graphs.{IsLoweredOf, UsesStand}

pub can_be_elaborated : (text : List ℕ) (lowered : Lowered) → IsLoweredOf text lowered → UsesStand lowered.graph → IsElaborable lowered.graph
can_be_elaborated text lowered is stand = ready_of text lowered (is_accepted text lowered lowered is (refl, stand))

pub short_graph : (graph : Graph) → IsCounted graph → IsShortGraph graph
short_graph graph c = record {
  bodies = c.bodies;
  each = All-weaker IsCountedBody IsShortBody (λ body b. record { locals = b.locals; blocks = b.blocks }) graph.bodies c.each;
}
