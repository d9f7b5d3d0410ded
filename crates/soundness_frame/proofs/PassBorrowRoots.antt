-- The keys of a place that is borrowed as an argument: they are no numbers of nodes of other arguments, since names
-- in scope have lower numbers than these, and the nodes inside others.
use Rattle.std.proofs.Common.{◌≡◌, inl, inr, ℕ, ◌<◌, Bool, true, false, List, ◌∷◌, ◌++◌, Option, Some, refl, sym, subst, arith}
use Rattle.mir_ty.specs.ItemTable.{ItemTable}
use Rattle.store_model.specs.Places.Place.{Place}
use Rattle.typed_tree.specs.Nodes.{number_of, nodes_of}
use Rattle.typed_tree.specs.Tree.{Node}
use Rattle.src_meaning.specs.Shape as shapes
use Rattle.src_meaning.specs.Shape.{shape}
use Rattle.typing_rules.specs.Accesses as rules
use Rattle.well_typed.specs.Claim.{Holds}
use Rattle.well_typed.specs.Nodes as typing
use Rattle.well_typed.specs.Places.{InScope, Standing, entry_with}
use Rattle.soundness_cells.proofs.PassCells.{Above, NodeIn}
use Rattle.soundness_cells.proofs.PassFacts.{Standpoint, context}
use Rattle.soundness_frame.proofs.PassFrameBodies.{any_place}
use Rattle.soundness_frame.proofs.PassKeys.{Keys, keys_more, place_keys}
use Rattle.soundness_frame.proofs.PassTold.{KnownOf, Here}
use Rattle.soundness_frame.proofs.PassToldPlaces.{is_alias}

module _ (items : ItemTable) (Of : KnownOf) (aliases : rules.Aliases) (places : shapes.Aliases) (x : Standpoint)
    (ns : List Node) (here : Here items any_place Of aliases places x ns) where
  -- what holds of keys below all these nodes, and of the numbers of the nodes inside, holds of the keys of a place
  pub keys_of_place : (P : ℕ → Type 0) → ((k : ℕ) → Above k ns → P k) → (base : Node) (standing : Standing) →
      Holds (typing.typed (context items x) standing base) →
      ((m : Node) → NodeIn (nodes_of base) m → P (number_of m)) → Keys P ((shape items base).place places)
  keys_of_place P below base standing h inside =
      place_keys P items places x
      (λ key y e. keys_more (λ k. Above k ns) P below (shapes.place_of_key key places) (here.low key y e))
      (λ y e. of_closure y e (is_alias aliases y.key) refl) base standing h inside
    where
      of_closure : (y : InScope) → x.closure ≡ Some y → (c : Bool) → is_alias aliases y.key ≡ c →
          Keys P (shapes.place_of_key y.key places)
      of_closure y e true a = absurd (here.sees.closure y e a)
      of_closure y e false a =
          subst (Keys P) (sym (here.sees.plain y.key a)) (below y.key (here.outer y e), tt)
