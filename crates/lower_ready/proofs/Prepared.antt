-- What each raw body of a well typed, lowerable program keeps to for drop elaboration.
use Rattle.std.proofs.Common.{◌≡◌, ℕ, zero, suc, List, [], ◌∷◌, map, Some, None, slice_get, refl, subst}
use Rattle.std.proofs.lemmas.Option.{none-some, same_Some}
use Rattle.cfg_graph.specs.declared.graph.Body.{Body}
use Rattle.cfg_graph.specs.Ready.{IsPreparedBody}
use Rattle.typed_tree.specs.Tree.{BodyTree, ProgramTree}
use Rattle.typing_rules.specs.Borrows.{broken_borrow}
use Rattle.well_typed.specs.Program.{WellTyped}
use Rattle.lower_rules.proofs.Bodies.{lowered_is_prepared}
use Rattle.lower_rules.proofs.Typed.{well_typed_names_loops}
use Rattle.lower_rules.specs.Lower.{body_of}
use Rattle.lower_laws.specs.Lowerable.{IsLowerable}
use Rattle.lower_laws.proofs.Whole.{graphs_are_well_formed, no_local_has_a_fault}
use Rattle.lower_laws.proofs.WholeLines.{moves_are_well}
use Rattle.lower_ready.specs.Laws.{FreeNothing, BeginOnce, MovesAreWell, DropsAreRefilled, ReferencesAreWell, NamedStays, GraphsArePrepared}
use Rattle.lower_ready.proofs.Alone.{types_have_bool, references_are_alone}
use Rattle.lower_ready.proofs.NamedTogether.{stays}
use Rattle.lower_ready.proofs.References.{references_are_well}

pub they_free_nothing : FreeNothing
they_free_nothing p w low n tree is = (lowered_is_prepared p.items tree (well_typed_names_loops p w n tree is)).0

pub they_begin_once : BeginOnce
they_begin_once p w low n tree is = (lowered_is_prepared p.items tree (well_typed_names_loops p w n tree is)).1

pub drops_are_refilled : DropsAreRefilled
drops_are_refilled p w low n tree is = (lowered_is_prepared p.items tree (well_typed_names_loops p w n tree is)).2

pub they_move_well : MovesAreWell
they_move_well p w low n tree is = moves_are_well p w n tree is (no_local_has_a_fault p w low n tree is)

pub they_hold_references_well : ReferencesAreWell
they_hold_references_well p w low n tree is = references_are_well p w n tree is (no_local_has_a_fault p w low n tree is)

pub what_they_name_stays : NamedStays
what_they_name_stays p w low borrows n tree is path given local is_path =
    stays p w low n tree is borrows local path given is_path

-- ---- the graph
from_mapped : {X Y : Type 0} (f : X → Y) (xs : List X) (n : ℕ) (y : Y) → slice_get (map f xs) n ≡ Some y → (x : X) × (slice_get xs n ≡ Some x) × (f x ≡ y)
from_mapped f [] n y e = absurd (none-some y e)
from_mapped f (x ∷ xs) zero y e = (x, refl, same_Some (f x) y e)
from_mapped f (x ∷ xs) (suc n) y e = from_mapped f xs n y e

one_prepared : (p : ProgramTree) → WellTyped p → IsLowerable p → broken_borrow p ≡ None → (n : ℕ) (tree : BodyTree) →
    slice_get p.bodies n ≡ Some tree → IsPreparedBody p.items (body_of p.items tree)
one_prepared p w low borrows n tree is = record {
  no_free = they_free_nothing p w low n tree is;
  one_beginning = they_begin_once p w low n tree is;
  moves = they_move_well p w low n tree is;
  drops = drops_are_refilled p w low n tree is;
  references = they_hold_references_well p w low n tree is;
  named_stays = what_they_name_stays p w low borrows n tree is;
}

pub graphs_are_prepared : GraphsArePrepared
graphs_are_prepared p w low borrows = record {
  well_formed = graphs_are_well_formed p w low;
  has_bool = types_have_bool p w;
  alone = references_are_alone p w;
  prepared = λ n body is.
      let tree = from_mapped (body_of p.items) p.bodies n body is in
      subst (λ (b : Body). IsPreparedBody p.items b) tree.2 (one_prepared p w low borrows n tree.0 tree.1);
}
