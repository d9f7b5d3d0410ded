-- The arguments of a call of a source: none is made in the local of the reference, or one is, by a borrow of a place;
-- then those before stand in cells apart from it, and those behind take nothing of it.
use Rattle.std.proofs.Common.{◌≡◌, ◌⊎◌, inl, inr, ℕ, ◌<◌, ◌==◌, ◌&&◌, ◌||◌, not, Bool, true, false, List, [], ◌∷◌, ◌++◌, map, Option, Some, None, refl, sym, ap, subst, ◌∙◌, arith}
use Rattle.std.proofs.lemmas.Bool.{false≢true}
use Rattle.std.proofs.lemmas.Option.{none-some, same_Some}
use Rattle.mir_ty.specs.declared.ty.TyId.{TyId}
use Rattle.mir_ty.specs.ItemTable.{ItemTable}
use Rattle.store_model.specs.Places.Place.{Step, Place}
use Rattle.cfg_graph.specs.declared.graph.Body.{Body}
use Rattle.cfg_graph.specs.NamedPlaces.{as_laid_out, one_goes_on}
use Rattle.typed_tree.specs.Nodes.{number_of, nodes_of, nodes_among}
use Rattle.typed_tree.specs.Tree as tree
use Rattle.typed_tree.specs.Tree.{Node, node, Nodes, no_node, a_node, BodyTree}
use Rattle.src_meaning.specs.Locals.Effects.{step_at, place_at}
use Rattle.src_meaning.specs.Locals.OfBody.{local_of, local_keys}
use Rattle.src_meaning.specs.Shape as shapes
use Rattle.src_meaning.specs.Shape.{shape}
use Rattle.typing_rules.specs.Accesses as rules
use Rattle.typing_rules.specs.Accesses.{AccessPlace, Argument, Referring, place_of, all_told, arguments, argument, conflicts_among}
use Rattle.well_typed.specs.Claim.{Holds}
use Rattle.well_typed.specs.Nodes as typing
use Rattle.well_typed.specs.Places.{Passed, Used, borrow_by, form_of, is_borrow}
use Rattle.soundness_values.proofs.NoOverlap.{SeenIf, Seen, not_seen, is_seen, node_seen}
use Rattle.soundness_frame.proofs.PassBorrowRoots.{keys_of_place}
use Rattle.soundness_cells.proofs.PassCells.{Above, NodeIn, node_left, node_right, above_in}
use Rattle.soundness_frame.proofs.PassConflicts.{rest_apart}
use Rattle.soundness_cells.proofs.PassFacts.{Standpoint, context}
use Rattle.soundness_frame.proofs.PassFrameBodies.{any_place}
use Rattle.soundness_frame.proofs.PassLaterArgs.{later_within, later_rooted}
use Rattle.soundness_frame.proofs.PassPlacesApart.{locals_differ}
use Rattle.soundness_frame.proofs.PassTold as told_here
use Rattle.soundness_frame.proofs.PassTold.{ids, KnownOf, RootIf, Here, Told}
use Rattle.soundness_frame.proofs.PassToldBelow.{node_above}
use Rattle.soundness_frame.proofs.PassToldPlaces.{AllOwned}
use Rattle.soundness_frame.proofs.PassWithin as within
use Rattle.lower_ready.proofs.NamedApart.{or_true, apart_seen}
use Rattle.lower_ready.proofs.NamedPassing as passing

pub own_node : (m : Node) → NodeIn (nodes_of m) m
own_node (node id at ty by form) = inl refl

above_all : (j : ℕ) (ns : List Node) → ((m : Node) → NodeIn ns m → j < number_of m) → Above j ns
above_all j [] f = tt
above_all j (n ∷ ns) f = (f n (inl refl), above_all j ns (λ m i. f m (inr i)))

differs : {P : Type 0} (j k : ℕ) → j < k → j ≡ k → P
differs j k l e = let less : j < k = l in let same : j ≡ k = e in let never : ⊥ = omega
    (less, same, arith) in absurd never

module _ (items : ItemTable) (body_tree : BodyTree) (body : Body) (local : ℕ) (named : Place) where
  abbrev lo : ℕ → ℕ
  lo = local_of items body_tree

  abbrev ApartFrom : Place → Place → Type 0
  ApartFrom = passing.ApartFrom items body_tree body local named

  -- a cell other than that of a place is apart from it
  other_cell : (p : Place) (k : ℕ) (steps : List Step) → (p.local ≡ k → ⊥) →
      ApartFrom (place_at lo p) (record { local = k; steps = steps })
  other_cell p k steps f =
      ap (λ (z : Bool). (lo k == local) || not (z && one_goes_on
      (as_laid_out (Rattle.store_model.specs.Places.Place.before_element (map (step_at lo) p.steps)))
      (as_laid_out (Rattle.store_model.specs.Places.Place.before_element (map (step_at lo) steps)))))
      (locals_differ (local_keys items body_tree) p.local k (λ e. absurd (f e)))
      ∙ or_true (lo k == local)

  module _ (Of : KnownOf) (aliases : rules.Aliases) (places : shapes.Aliases) (x : Standpoint)
      (whole : List Node) (around : Here items any_place Of aliases places x whole) where
    -- each argument in the local of the reference is a borrow
    abbrev pub AllSeen : Nodes → Type 0
    AllSeen no_node = Unit {0}
    AllSeen (a_node first rest) =
        ((lo (number_of first) == local) ≡ true → is_borrow (form_of first) ≡ true) × AllSeen rest

    abbrev pub refers_of : Node → Option Referring
    refers_of (node id at ty by form) = rules.refers_by aliases form

    -- the place that is borrowed, whose keys are those of names in scope and of nodes inside
    pub record Found (args : Nodes) : Type 0 where
      pub from : Place
      pub passed : passing.PassedFrom items body_tree body local named (place_at lo from) places (ids x) args
      pub root : (k : ℕ) → ((j : ℕ) → Above j whole → j ≡ k → ⊥) →
          ((m : Node) → NodeIn (nodes_among args) m → number_of m ≡ k → ⊥) → from.local ≡ k → ⊥

    abbrev Inside : Nodes → Type 0
    Inside args = (m : Node) → NodeIn (nodes_among args) m → NodeIn whole m

    seen_place : (base : Node) (a : AccessPlace) → place_of aliases base ≡ Some a →
        Seen a ((shape items base).place places)
    seen_place base a e = by (place_of aliases base) e (node_seen items aliases places around.sees.seen base)
      where
        by : (o : Option AccessPlace) → o ≡ Some a → SeenIf o ((shape items base).place places) →
            Seen a ((shape items base).place places)
        by None k (not_seen _) = absurd (none-some a k)
        by (Some b) k (is_seen _ _ s) = subst (λ (c : AccessPlace). Seen c ((shape items base).place places))
            (same_Some b a k) s

    -- the argument that makes the reference
    made : (a : Argument) (first rest : _) (tys : List TyId) (ty : TyId) →
        Here items any_place Of aliases places x (nodes_of first ++ nodes_among rest) → Inside (a_node first rest) →
        Holds (typing.typed (context items x) (Passed ty) first) →
        Holds (typing.arguments (context items x) tys rest) →
        Told items any_place Of aliases (all_told (arguments aliases rest)) → a.refers ≡ refers_of first →
        conflicts_among (a ∷ arguments aliases rest) ≡ [] → (lo (number_of first) == local) ≡ true →
        is_borrow (form_of first) ≡ true → Found (a_node first rest)
    made a (node id at t by (tree.Borrow unique base)) rest tys ty here inside typed others told refers none e s =
        record {
          from = place;
          passed = inr ((e, refl), behind (place_of aliases base) refl);
          root = λ k below inside_k. (keys_of_place items Of aliases places x whole around (λ j. j ≡ k → ⊥) below base
              (Used (borrow_by unique)) typed.1.0
              (λ m i. inside_k m (node_left (nodes_of first) (nodes_among rest) m (inr i)))).0;
        }
      where
        first : Node
        first = node id at t by (tree.Borrow unique base)

        place : Place
        place = (shape items base).place places

        -- its key is below the numbers of the nodes behind
        below_rest : Above place.local (nodes_among rest)
        below_rest = (keys_of_place items Of aliases places x whole around (λ j. Above j (nodes_among rest))
            (λ j a. above_all j (nodes_among rest) (λ m i. above_in j whole m a
            (inside m (node_right (nodes_of first) (nodes_among rest) m i)))) base (Used (borrow_by unique)) typed.1.0
            (λ m i. node_above (nodes_of first) (nodes_among rest) m here.rises (inr i))).0

        owned : (ns : List Node) → ((m : Node) → NodeIn ns m → NodeIn (nodes_among rest) m) →
            AllOwned items (ApartFrom (place_at lo place)) ns
        owned [] f = tt
        owned (n ∷ ns) f = (
          λ steps. other_cell place (number_of n) steps
              (differs place.local (number_of n)
              (above_in place.local (nodes_among rest) n below_rest (f n (inl refl)))),
          owned ns (λ m i. f m (inr i)),
        )

        rest_here : Here items any_place Of aliases places x (nodes_among rest)
        rest_here = told_here.here_right items any_place Of aliases places x (nodes_of first) (nodes_among rest) here

        -- where the rule does not see it, no name is at its root
        unseen : place_of aliases base ≡ None → Of.root place.local → ⊥
        unseen k = subst (λ (o : Option AccessPlace). RootIf Of.root o place.local) k
            (told_here.place_stands items any_place Of base (Used (borrow_by unique)) aliases places x
            (told_here.here_in items any_place Of aliases places x first (nodes_of base)
            (told_here.here_left items any_place Of aliases places x (nodes_of first) (nodes_among rest) here))
            typed.1.0).0

        behind : (o : Option AccessPlace) → place_of aliases base ≡ o →
            within.AllWithin items (ApartFrom (place_at lo place))
            (passing.nothing_said items body_tree body local named) places (ids x) rest
        behind None k = later_rooted items (ApartFrom (place_at lo place)) Of
            (λ q r. other_cell place q.local q.steps (λ same. unseen k (subst Of.root (sym same) r))) rest tys aliases
            places x rest_here (owned (nodes_among rest) (λ m i. i)) others told
        behind (Some b) k = later_within items (ApartFrom (place_at lo place)) Of b
            (λ c q l o. apart_seen items body_tree body local named b c place q (seen_place base b k) l o)
            a rest tys aliases places x (record { place = place_of aliases base; unique = unique }) refers k none
            rest_here (owned (nodes_among rest) (λ m i. i)) others told
    made a (node id at t by form) rest tys ty here inside typed others told refers none e s = absurd (false≢true s)

    -- the first argument, or a receiver, and those behind
    pub found_first : (a : Argument) (first rest : _) (tys : List TyId) (ty : TyId) →
        Here items any_place Of aliases places x (nodes_of first ++ nodes_among rest) → Inside (a_node first rest) →
        Holds (typing.typed (context items x) (Passed ty) first) →
        Holds (typing.arguments (context items x) tys rest) →
        Told items any_place Of aliases (all_told (arguments aliases rest)) → a.refers ≡ refers_of first →
        conflicts_among (a ∷ arguments aliases rest) ≡ [] → AllSeen (a_node first rest) →
        passing.Unpassed items body_tree body local named rest ⊎ Found rest →
        passing.Unpassed items body_tree body local named (a_node first rest) ⊎ Found (a_node first rest)
    found_first a first rest tys ty here inside typed others told refers none seen later =
        by (lo (number_of first) == local) refl later
      where
        k : ℕ
        k = number_of first

        off_scope : (j : ℕ) → Above j whole → j ≡ k → ⊥
        off_scope j a = differs j k (above_in j whole first a
            (inside first (node_left (nodes_of first) (nodes_among rest) first (own_node first))))

        off_rest : (m : Node) → NodeIn (nodes_among rest) m → number_of m ≡ k → ⊥
        off_rest m i e = differs k (number_of m)
            (above_in k (nodes_among rest) m
            (node_above (nodes_of first) (nodes_among rest) first here.rises (own_node first)) i) (sym e)

        by : (b : Bool) → (lo k == local) ≡ b →
            passing.Unpassed items body_tree body local named rest ⊎ Found rest →
            passing.Unpassed items body_tree body local named (a_node first rest) ⊎ Found (a_node first rest)
        by true e later = inr (made a first rest tys ty here inside typed others told refers none e (seen.0 e))
        by false e (inl u) = inl (e, u)
        by false e (inr f) = inr (record {
          from = f.from;
          passed = inl (other_cell f.from k [] (f.root k off_scope off_rest), f.passed);
          root = λ j below inside_j.
              f.root j below (λ m i. inside_j m (node_right (nodes_of first) (nodes_among rest) m i));
        })

    -- a value that is no reference, before the arguments
    pub found_behind : (first : Node) (rest : Nodes) →
        Here items any_place Of aliases places x (nodes_of first ++ nodes_among rest) → Inside (a_node first rest) →
        Found rest → Found (a_node first rest)
    found_behind first rest here inside f = record {
      from = f.from;
      passed = inl (
        other_cell f.from (number_of first) [] (f.root (number_of first)
            (λ j a. differs j (number_of first) (above_in j whole first a
            (inside first (node_left (nodes_of first) (nodes_among rest) first (own_node first)))))
            (λ m i e. differs (number_of first) (number_of m)
            (above_in (number_of first) (nodes_among rest) m
            (node_above (nodes_of first) (nodes_among rest) first here.rises (own_node first)) i) (sym e))),
        f.passed,
      );
      root = λ j below inside_j.
          f.root j below (λ m i. inside_j m (node_right (nodes_of first) (nodes_among rest) m i));
    }

    refers_so : (first : Node) → (argument aliases first).refers ≡ refers_of first
    refers_so (node id at ty by form) = refl

    pub found : (args : Nodes) (tys : List TyId) → Here items any_place Of aliases places x (nodes_among args) →
        Inside args → Holds (typing.arguments (context items x) tys args) →
        Told items any_place Of aliases (all_told (arguments aliases args)) →
        conflicts_among (arguments aliases args) ≡ [] → AllSeen args →
        passing.Unpassed items body_tree body local named args ⊎ Found args
    found no_node tys here inside typed told none seen = inl tt
    found (a_node first rest) [] here inside typed told none seen = absurd (false≢true typed)
    found (a_node first rest) (ty ∷ tys) here inside typed told none seen =
        let told_rest = told_here.told_right items any_place Of aliases (argument aliases first).told
        (all_told (arguments aliases rest)) told in
        found_first (argument aliases first) first rest tys ty here inside typed.0 typed.1 told_rest
        (refers_so first) none
        seen (found rest tys
        (told_here.here_right items any_place Of aliases places x (nodes_of first) (nodes_among rest) here)
        (λ m i. inside m (node_right (nodes_of first) (nodes_among rest) m i)) typed.1 told_rest
        (rest_apart (argument aliases first) (arguments aliases rest) none) seen.1)
