-- The keys of the place that an argument names are below all nodes of later arguments: names in scope have lower
-- numbers, and so have the nodes of the argument itself.
use Rattle.std.proofs.Common.{◌≡◌, ◌<◌, Bool, true, false, List, ◌++◌, Some, refl, sym, subst, arith}
use Rattle.mir_ty.specs.ItemTable.{ItemTable}
use Rattle.store_model.specs.Places.Place.{Place, whole_local}
use Rattle.typed_tree.specs.Nodes.{number_of, nodes_of}
use Rattle.typed_tree.specs.Tree.{Node}
use Rattle.src_meaning.specs.Shape as shapes
use Rattle.src_meaning.specs.Shape.{shape}
use Rattle.typing_rules.specs.Accesses as rules
use Rattle.well_typed.specs.Claim.{Holds}
use Rattle.well_typed.specs.Nodes as typing
use Rattle.well_typed.specs.Places.{InScope, Standing}
use Rattle.soundness_cells.proofs.PassCells.{Above, NodeIn, above_in}
use Rattle.soundness_cells.proofs.PassFacts.{Standpoint, context}
use Rattle.soundness_frame.proofs.PassKeys.{Keys, keys_more, place_keys}
use Rattle.soundness_frame.proofs.PassTold.{KnownOf, Here}
use Rattle.soundness_frame.proofs.PassToldBelow.{node_above}
use Rattle.soundness_frame.proofs.PassToldPlaces.{is_alias, above_right}

-- keys below some nodes are the number of none of them
pub other_keys : (ns : List Node) (m : Node) (place : Place) → NodeIn ns m → Keys (λ k. Above k ns) place →
    Keys (λ k. k ≡ number_of m → ⊥) place
other_keys ns m place i k = keys_more (λ k. Above k ns) (λ k. k ≡ number_of m → ⊥) (λ k a e.
    let less : k < number_of m = above_in k ns m a i in let same : k ≡ number_of m = e in
    let never : ⊥ = omega (less, same, arith) in never) place k

module _ (items : ItemTable) (May : Place → Type 0) (Of : KnownOf) where
  -- of a place whose nodes are among the first of some nodes
  pub below_later : (aliases : rules.Aliases) (places : shapes.Aliases) (x : Standpoint) (a later : List Node) →
      Here items May Of aliases places x (a ++ later) → (base : Node) (standing : Standing) →
      Holds (typing.typed (context items x) standing base) → ((m : Node) → NodeIn (nodes_of base) m → NodeIn a m) →
      Keys (λ k. Above k later) ((shape items base).place places)
  below_later aliases places x a later o base standing h inside = place_keys (λ k. Above k later) items places x
      (λ key y e. keys_more (λ k. Above k (a ++ later)) (λ k. Above k later) (λ k u. above_right k a later u)
      (shapes.place_of_key key places) (o.low key y e))
      (λ y e. of_closure y e (is_alias aliases y.key) refl) base standing h
      (λ m i. node_above a later m o.rises (inside m i))
    where
      of_closure : (y : InScope) → x.closure ≡ Some y → (c : Bool) → is_alias aliases y.key ≡ c →
          Keys (λ k. Above k later) (shapes.place_of_key y.key places)
      of_closure y e true u = absurd (o.sees.closure y e u)
      of_closure y e false u = subst (Keys (λ k. Above k later)) (sym (o.sees.plain y.key u))
          (above_right y.key a later (o.outer y e), tt)

  -- of a place none of whose nodes is one of some nodes
  pub other_place : (aliases : rules.Aliases) (places : shapes.Aliases) (x : Standpoint) (ns : List Node) →
      Here items May Of aliases places x ns → (base m : Node) (standing : Standing) →
      Holds (typing.typed (context items x) standing base) → NodeIn ns m →
      ((j : Node) → NodeIn (nodes_of base) j → number_of j ≡ number_of m → ⊥) →
      Keys (λ k. k ≡ number_of m → ⊥) ((shape items base).place places)
  other_place aliases places x ns o base m standing h i apart = place_keys (λ k. k ≡ number_of m → ⊥) items places x
      (λ key y e. other_keys ns m (shapes.place_of_key key places) i (o.low key y e))
      (λ y e. of_closure y e (is_alias aliases y.key) refl) base standing h apart
    where
      of_closure : (y : InScope) → x.closure ≡ Some y → (c : Bool) → is_alias aliases y.key ≡ c →
          Keys (λ k. k ≡ number_of m → ⊥) (shapes.place_of_key y.key places)
      of_closure y e true u = absurd (o.sees.closure y e u)
      of_closure y e false u = subst (Keys (λ k. k ≡ number_of m → ⊥)) (sym (o.sees.plain y.key u))
          (other_keys ns m (whole_local y.key) i (o.outer y e, tt))
