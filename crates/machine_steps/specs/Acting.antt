-- What a whole statement or action does: no value of the type `!` is ever made, so none is stored.
use Rattle.std.specs.Prelude.{Bool, true, false, Option, Some, None}
use Rattle.cfg_graph.specs.declared.place.Place.{Place}
use Rattle.cfg_graph.specs.declared.statement.Stmt.{Stmt}
use Rattle.machine_steps.specs.declared.actions.Outcome.{Outcome}
use Rattle.machine_steps.specs.declared.world.World.{World}
use Rattle.machine_steps.specs.Steps.{Does}
use Rattle.machine_steps.specs.Worlds.{run_setting}
use Rattle.store_model.specs.Concrete.Effects.{act}
use Rattle.store_model.specs.Concrete.State.{Bodies}
use Rattle.store_model.specs.Effects.{Action}

-- an action that calls no body does this, whatever the bodies are
abbrev pub DoesAct : Action → World → Outcome → World → Type 0
DoesAct action old outcome new = (run : Bodies) → Does (act (run_setting old) run action) old outcome new

-- what would go on stops
abbrev pub stopped : Bool → Outcome → Outcome
stopped true Outcome.Goes = Outcome.Stuck
stopped never outcome = outcome

-- the place into which a statement stores
abbrev pub place_stored : Stmt → Option Place
place_stored (Stmt.Put to from) = Some to
place_stored (Stmt.Compare to operator left right) = Some to
place_stored (Stmt.Not to operand) = Some to
place_stored (Stmt.Tuple to parts) = Some to
place_stored (Stmt.Array to parts) = Some to
place_stored (Stmt.Make to adt variant parts) = Some to
place_stored (Stmt.Close to closure parts) = Some to
place_stored (Stmt.NewBox to content) = Some to
place_stored (Stmt.Unsize to trait_no from) = Some to
place_stored (Stmt.Borrow to unique base) = Some to
place_stored (Stmt.Touch place) = None
place_stored (Stmt.Print operand) = None
place_stored (Stmt.Forget operand) = None
place_stored (Stmt.Free place) = None
