-- What a graph does when it runs: strictly, so that a value that is dropped is whole; and as a raw graph, which has
-- scheduled drops, each of which drops what remains. And what its free walks are.
use Rattle.std.specs.Prelude.{ℕ, suc, ℤ, Bool, true, false, List, [], ◌∷◌, length, slice_get, option_and_then}
use Rattle.std.specs.List.{range_with_len}
use Rattle.std.specs.Option.{option_map_or}
use Rattle.mir_base.specs.declared.trace.End.{End}
use Rattle.mir_base.specs.Trace.{Trace}
use Rattle.mir_ty.specs.ItemTable.{ItemTable}
use Rattle.cfg_graph.specs.declared.graph.Body.{Body}
use Rattle.cfg_graph.specs.declared.graph.Graph.{Graph}
use Rattle.cfg_meaning.specs.Walk.{walk}
use Rattle.store_model.specs.Values.Datum.{Datum}
use Rattle.store_model.specs.Effects.{Stuck, Out, Halts}
use Rattle.store_model.specs.Concrete.Bodies.{CodeOfBodies, main_of, run_of}
use Rattle.store_model.specs.Abstract.Effects.{AbstractState, at_start, abstract_effects}
use Rattle.store_model.specs.Concrete.Location.{Setting}
use Rattle.store_model.specs.Concrete.State.{Cells}

-- the arguments are the locals from 1 on
abbrev pub arguments_from : ℕ → List Datum → Cells
arguments_from local [] = []
arguments_from local (arg ∷ args) = (local, arg) ∷ arguments_from (suc local) args

abbrev pub no_node : ℕ → ℕ → ℕ
no_node block line = 0

abbrev pub setting_of : Bool → Graph → Setting
setting_of strict graph = record {
  items = graph.items;
  local_ty = λ n local. option_and_then (λ body. slice_get body.locals local) (slice_get graph.bodies n);
  strict = strict;
}

abbrev pub code_of : Graph → CodeOfBodies
code_of graph = record {
  arguments = λ n args. arguments_from 1 args;
  answer = λ n. 0;
  within = λ p turns n w.
      option_map_or (λ body. walk p n no_node body turns 0 w) (slice_get graph.bodies n) (Halts Stuck w);
}

-- the trace and the end of a graph, with these numbers to be asked and so many ticks
abbrev pub graph_run : Graph → List ℤ → ℕ → Trace × End
graph_run graph asked ticks = run_of (setting_of true graph) (code_of graph) (main_of graph.items) asked ticks

-- the same where a drop drops what remains of its place
abbrev pub raw_graph_run : Graph → List ℤ → ℕ → Trace × End
raw_graph_run graph asked ticks = run_of (setting_of false graph) (code_of graph) (main_of graph.items) asked ticks

-- the walk of a body that takes these choices, where each line stands for a node of the source
abbrev pub free_walk : ItemTable → (ℕ → ℕ → ℕ) → Body → List Bool → Out AbstractState
free_walk items node body list =
    walk (abstract_effects items (slice_get body.locals)) 0 node body (suc (length list)) 0
    (at_start (range_with_len 1 body.params) list)
