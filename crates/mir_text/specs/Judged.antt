-- What is answered of a graph that was read.
use Rattle.std.specs.Prelude.{◌≡◌, ℕ, Bool, List, Option, Some, None, Result, Ok, Err, ⊤, codes}
use Rattle.cfg_graph.specs.declared.graph.Graph.{Graph}
use Rattle.cfg_graph.specs.WellFormed.Faults.{first_fault, IsWellFormed, IsCounted}
use Rattle.mir_ty.specs.AreItems.{AreItems}
use Rattle.listing_write.specs.Lists.{line}
use Rattle.listing_write.specs.Reading.Words.{strip}
use Rattle.mir_text.specs.declared.error.ListingError.{ListingError}
use Rattle.mir_text.specs.Answers.{lines_count, line_of_fault}
use Rattle.mir_text.specs.Wrong.{wrong_line}

-- the graph, which is well formed and whose lists are short, or its first fault with its line
abbrev pub IsJudged : Graph → Result Graph ListingError → Type 0
IsJudged graph (Ok answered) = (answered ≡ graph) × IsWellFormed graph × IsCounted graph
IsJudged graph (Err (ListingError.BadListing line)) = ⊥
IsJudged graph (Err (ListingError.BadGraph fault line)) =
    (first_fault graph ≡ Some fault) × (line ≡ line_of_fault graph fault)
IsJudged graph (Err ListingError.Memory) = ⊤

-- a line is wrong, or none is and the graph is judged
abbrev pub wrong_in : Graph → Bool → List ℕ → Option ℕ
wrong_in graph whole rest = wrong_line (lines_count graph) whole (strip (line (codes "end")) rest)

abbrev pub Judges : Graph → Bool → List ℕ → Result Graph ListingError → Type 0
Judges graph whole rest (Ok answered) =
    AreItems graph.items × (wrong_in graph whole rest ≡ None) × IsJudged graph (Ok answered)
Judges graph whole rest (Err (ListingError.BadListing line)) =
    AreItems graph.items × (wrong_in graph whole rest ≡ Some line)
Judges graph whole rest (Err (ListingError.BadGraph fault line)) =
    AreItems graph.items × (wrong_in graph whole rest ≡ None) × IsJudged graph (Err (ListingError.BadGraph fault line))
Judges graph whole rest (Err ListingError.Memory) = ⊤
