-- The bodies of a graph give no ticks back. So the walk of a graph is one equation, and its runs need no fuel.
use Rattle.std.proofs.Common.{◌≡◌, ℕ, zero, suc, refl, Bool, Option, Some, None, slice_get}
use Rattle.std.specs.Option.{option_map_or}
use Rattle.cfg_graph.specs.declared.graph.Body.{Body}
use Rattle.cfg_graph.specs.declared.graph.Graph.{Graph}
use Rattle.cfg_meaning.proofs.Walks.{walk_less, walk_on, walk_same}
use Rattle.cfg_meaning.proofs.WalkTied.{walk_tied}
use Rattle.cfg_meaning.specs.Laws.{WalkIsOneEquation, FuelOfWalksIsIrrelevant, FuelOfGraphRunsIsIrrelevant}
use Rattle.cfg_meaning.specs.Programs.{setting_of, code_of}
use Rattle.store_model.proofs.Effects.Laws.{NoMore, Laws}
use Rattle.store_model.proofs.Concrete.Effects.{ticks_of, KeepsTicks, TiesTicks, values_laws, body_thrifty, bodies_agree}
use Rattle.store_model.specs.Concrete.Effects.{concrete_effects}
use Rattle.store_model.specs.Effects.{Stuck, Out, Halts}
use Rattle.store_model.specs.Concrete.Bodies.{run_body}
use Rattle.store_model.specs.Concrete.State.{State, Bodies}

if_body_less : (m : ℕ) (o : Option Body) (f : Body → Out State) (w : State) → ((body : Body) → NoMore ticks_of m (f body)) →
    NoMore ticks_of m (option_map_or f o (Halts Stuck w))
if_body_less m None f w e = tt
if_body_less m (Some body) f w e = e body

if_body_same : (o : Option Body) (f f' : Body → Out State) (w : State) → ((body : Body) → f body ≡ f' body) →
    option_map_or f o (Halts Stuck w) ≡ option_map_or f' o (Halts Stuck w)
if_body_same None f f' w e = refl
if_body_same (Some body) f f' w e = e body

pub graph_keeps : (graph : Graph) → KeepsTicks (code_of graph)
graph_keeps graph p laws turns number m w l =
    if_body_less m (slice_get graph.bodies number) _ w (λ body. walk_less ticks_of p laws number (λ block line. 0) body m turns zero w l)

pub graph_ties : (graph : Graph) → TiesTicks (code_of graph)
graph_ties graph p q laws m tied turns turns' number h h' w l =
    if_body_same (slice_get graph.bodies number) _ _ w
    (λ body. walk_tied ticks_of p q laws number (λ block line. 0) body m tied turns turns' zero h h' w l)

module _ (strict : Bool) (graph : Graph) where
  abbrev bodies : ℕ → Bodies
  bodies n = run_body (setting_of strict graph) (code_of graph) n

  graph_laws : (n : ℕ) → Laws (concrete_effects (setting_of strict graph) (bodies n) (suc n)) ticks_of
  graph_laws n = values_laws (setting_of strict graph) (bodies n) (body_thrifty (setting_of strict graph) (code_of graph) (graph_keeps graph) n) (suc n)

pub values_walk_on : WalkIsOneEquation
values_walk_on strict graph n number node body ranked fuel block w l =
    walk_on ticks_of (concrete_effects (setting_of strict graph) (bodies strict graph n) (suc n)) (graph_laws strict graph n) number node body ranked fuel block w l

pub values_walk_same : FuelOfWalksIsIrrelevant
values_walk_same strict graph n number node body ranked fuel other block w l l' =
    walk_same ticks_of (concrete_effects (setting_of strict graph) (bodies strict graph n) (suc n)) (graph_laws strict graph n) number node body ranked fuel other block w l l'

pub values_nested : FuelOfGraphRunsIsIrrelevant
values_nested strict graph = bodies_agree (setting_of strict graph) (code_of graph) (graph_keeps graph) (graph_ties graph)
