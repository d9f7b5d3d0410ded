-- A graph of whose listing nothing but a graph that runs alike can be read.
use Rattle.std.specs.Prelude.{Result, Ok, Err, ⊤}
use Rattle.cfg_graph.specs.declared.graph.Graph.{Graph}
use Rattle.cfg_meaning.specs.Programs.{graph_run}
use Rattle.listing_runs.specs.Runs.{RunAlikeBy, text_of_run}
use Rattle.listing_write.specs.Listing.{listing}
use Rattle.mir_text.specs.Answers.{Answers}
use Rattle.mir_text.specs.declared.error.ListingError.{ListingError}

-- a graph that runs as another does, by strict steps, and what is written of its runs is the same text
pub record RunsAs (graph read : Graph) : Type 0 where
  pub runs : RunAlikeBy graph_run read graph
  pub texts : RunAlikeBy text_of_run read graph

-- what a reader answers to a listing is a graph that runs as the listed one, or that memory is wanted
abbrev pub IsReadAs : Graph → Result Graph ListingError → Type 0
IsReadAs graph (Ok read) = RunsAs graph read
IsReadAs graph (Err ListingError.Memory) = ⊤
IsReadAs graph (Err other) = ⊥

abbrev pub ReadsBack : Graph → Type 0
ReadsBack graph = (result : Result Graph ListingError) → Answers (listing graph) result → IsReadAs graph result
