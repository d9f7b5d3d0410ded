-- G4 and G5 of terminators: edges lower the rank, and cleanup blocks keep to themselves.
use Rattle.std.specs.Prelude.{ℕ, Bool, true, false, not, ◌&&◌, List, slice_get}
use Rattle.std.specs.List.{list_all}
use Rattle.std.specs.Option.{option_map_or}
use Rattle.cfg_graph.specs.declared.terminator.Term.{Term}
use Rattle.cfg_graph.specs.declared.terminator.Unwind.{Unwind}
use Rattle.cfg_graph.specs.declared.graph.Block.{Block}
use Rattle.cfg_graph.specs.declared.graph.Body.{Body}
use Rattle.cfg_graph.specs.Edges.{onward, unwind_targets, targets, is_cleanup, lowers}

-- each edge to a block that exists lowers the rank, unless a turn begins there
abbrev pub edges_lower : Body → Block → Bool
edges_lower body block =
    list_all (λ n. option_map_or (lowers block) (slice_get body.blocks n) true) (targets block.term)

abbrev pub is_abort : Unwind → Bool
is_abort Unwind.Abort = true
is_abort _ = false

-- the terminators of cleanup blocks
abbrev pub cleans_up : Term → Bool
cleans_up (Term.Goto block) = true
cleans_up (Term.If on if_true if_false) = true
cleans_up (Term.Case on variant if_true if_false) = true
cleans_up (Term.Math to op left right next unwind) = false
cleans_up (Term.Negate to of next unwind) = false
cleans_up (Term.Bounds index count next unwind) = false
cleans_up (Term.Call to body args next unwind) = false
cleans_up (Term.Virtual to trait_no method args next unwind) = false
cleans_up (Term.Ask to next unwind) = false
cleans_up (Term.DropAt place next unwind) = is_abort unwind
cleans_up (Term.Panic why unwind) = false
cleans_up Term.Return = false
cleans_up Term.Resume = true

-- these blocks, where they exist, are cleanup blocks; and they are none
abbrev pub are_cleanup : Body → List ℕ → Bool
are_cleanup body blocks = list_all (λ n. option_map_or is_cleanup (slice_get body.blocks n) true) blocks

abbrev pub are_no_cleanup : Body → List ℕ → Bool
are_no_cleanup body blocks =
    list_all (λ n. option_map_or (λ block. not (is_cleanup block)) (slice_get body.blocks n) true) blocks

abbrev pub is_resume : Term → Bool
is_resume Term.Resume = true
is_resume _ = false

-- from a cleanup block all edges stay among cleanup blocks; from another block exactly unwinding leads to them
abbrev pub keeps_cleanup : Bool → Body → Term → Bool
keeps_cleanup true body term = cleans_up term && are_cleanup body (targets term)
keeps_cleanup false body term =
    not (is_resume term) && are_no_cleanup body (onward term) && are_cleanup body (unwind_targets term)

abbrev pub keeps_to_cleanup : Body → Block → Bool
keeps_to_cleanup body block = keeps_cleanup (is_cleanup block) body block.term
