-- What may be gone in each body of a graph, and what is planned of each.
use Rattle.std.specs.Prelude.{◌≡◌, ℕ, List, Some, length, slice_get}
use Rattle.cfg_graph.specs.declared.graph.Body.{Body}
use Rattle.cfg_graph.specs.declared.graph.Graph.{Graph}
use Rattle.drop_plans.specs.Analysed.{IsGone}
use Rattle.drop_plans.specs.declared.analyses.Gone.{Gone}
use Rattle.drop_bodies.specs.Planning.{IsPlanned}
use Rattle.drop_bodies.specs.declared.body.PlannedBody.{PlannedBody}

-- of each body of a graph, by its number
pub record AreGoneIn (graph : Graph) (gone : List Gone) : Type 0 where
  pub long : length gone ≡ length graph.bodies
  pub each : (n : ℕ) (body : Body) (told : Gone) → slice_get graph.bodies n ≡ Some body → slice_get gone n ≡ Some told →
      IsGone graph.items body told

pub record ArePlanned (graph : Graph) (plans : List PlannedBody) : Type 0 where
  pub long : length plans ≡ length graph.bodies
  pub each : (n : ℕ) (body : Body) (planned : PlannedBody) → slice_get graph.bodies n ≡ Some body →
      slice_get plans n ≡ Some planned → IsPlanned graph.items body planned
