-- A free walk is one equation.
use Rattle.cfg_meaning.proofs.Walks.{walk_on, walk_same}
use Rattle.cfg_meaning.specs.Laws.{FreeWalkIsOneEquation, FuelOfFreeWalksIsIrrelevant}
use Rattle.store_model.proofs.Abstract.Effects.{choices_of, free_laws}
use Rattle.store_model.specs.Abstract.Effects.{abstract_effects}

pub free_walk_on : FreeWalkIsOneEquation
free_walk_on items local_ty number node body ranked fuel block w l =
    walk_on choices_of (abstract_effects items local_ty) (free_laws items local_ty) number node body ranked fuel block w l

pub free_walk_same : FuelOfFreeWalksIsIrrelevant
free_walk_same items local_ty number node body ranked fuel other block w l l' =
    walk_same choices_of (abstract_effects items local_ty) (free_laws items local_ty) number node body ranked fuel other block w l l'
