-- What a visit sees at an address: what was found there, the `Drop` body that is still to run, and whether it was gone
-- over to be dropped in one go.
use Rattle.std.specs.Prelude.{◌≡◌, Bool, List, Option, Some, None}
use Rattle.machine_steps.specs.Reading.{FindsIt}
use Rattle.machine_steps.specs.Swept.{Sweeping, SweptSo}
use Rattle.machine_steps.specs.Turns.{IsOwn, stage_by}
use Rattle.machine_steps.specs.declared.visit.Sight.{Sight}
use Rattle.mir_base.specs.declared.trace.Event.{Event}
use Rattle.mir_ty.specs.ItemTable.{ItemTable}
use Rattle.store_model.specs.Concrete.Location.{Located}

pub record Sees (items : ItemTable) (has_run : Bool) (there : Option Located) (old new : List Event) (sight : Sight) :
    Type 0 where
  pub own : IsOwn items has_run sight.found sight.own
  pub finds : FindsIt items there sight.found
  pub swept : SweptSo sight.pass (Sweeping items (stage_by has_run) finds.s.value finds.s.dynamic old new)

abbrev pub IsSeen : ItemTable → Bool → Option Located → (old new : List Event) → Option Sight → Type 0
IsSeen items has_run there old new None = there ≡ None
IsSeen items has_run there old new (Some sight) = Sees items has_run there old new sight
