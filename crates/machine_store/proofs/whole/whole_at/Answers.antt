use Rattle.std.proofs.Common.{◌≡◌, true, ap, sym, ◌∙◌}
use Rattle.cfg_graph.specs.Places.{named}
use Rattle.cfg_meaning.specs.Programs.{setting_of}
use Rattle.machine_store.specs.Activations.{activations_of}
use Rattle.machine_store.specs.Standing.{located_of, reached_of, with_activations}
use Rattle.machine_store.proofs.Wholes.{reached_there}
use Rattle.store_model.specs.Concrete.Location.{Reaches, reach}
use Rattle.machine_store.proofs.whole.whole_at.Goals as goal

pub is_whole-requires : goal.is_whole-requires
is_whole-requires c =
    let reached : reach (setting_of true c.args.graph.now) (with_activations (activations_of c.args.store.now)) (named c.args.place.now) ≡ Reaches (located_of c.in-Reaches.s) =
    sym c.in_ok-s.ensures ∙ ap reached_of c.in-Reaches.is
    in
    (reached_there (setting_of true c.args.graph.now) (with_activations (activations_of c.args.store.now)) (named c.args.place.now) (located_of c.in-Reaches.s) reached).there
