-- Graphs that are equal as compared run alike: with the same numbers to be asked and as many ticks, each has the trace
-- and the end of the other, and what is written of the two runs is one text. So a listing stands for the runs of its
-- graph.
use Rattle.std.specs.Prelude.{◌≡◌, ℕ, ℤ, List}
use Rattle.mir_ty.specs.Named.{text_of}
use Rattle.cfg_graph.specs.declared.graph.Graph.{Graph}
use Rattle.cfg_meaning.specs.Programs.{graph_run, raw_graph_run}
use Rattle.listing_write.specs.Compared.{IsListed, seen}
use Rattle.listing_write.specs.Listing.{listing}

-- what is told of the runs of two graphs is the same
abbrev pub RunAlikeBy : {A : Type 0} → (Graph → List ℤ → ℕ → A) → Graph → Graph → Type 0
RunAlikeBy told left right = (asked : List ℤ) (ticks : ℕ) → told left asked ticks ≡ told right asked ticks

-- strict runs
abbrev pub RunsAlike : Type 0
RunsAlike =
    (left right : Graph) → IsListed left → IsListed right → seen left ≡ seen right → RunAlikeBy graph_run left right

-- runs as raw graphs
abbrev pub RawRunsAlike : Type 0
RawRunsAlike =
    (left right : Graph) → IsListed left → IsListed right → seen left ≡ seen right →
    RunAlikeBy raw_graph_run left right

-- the text of a strict run, with the names of the graph's items
abbrev pub text_of_run : Graph → List ℤ → ℕ → List ℕ
text_of_run graph asked ticks = text_of graph.items (graph_run graph asked ticks).0 (graph_run graph asked ticks).1

abbrev pub TextsAlike : Type 0
TextsAlike =
    (left right : Graph) → IsListed left → IsListed right → seen left ≡ seen right →
    RunAlikeBy text_of_run left right

-- two graphs of one listing
abbrev pub OneRunAListing : Type 0
OneRunAListing =
    (left right : Graph) → IsListed left → IsListed right → listing left ≡ listing right →
    RunAlikeBy graph_run left right × RunAlikeBy text_of_run left right
