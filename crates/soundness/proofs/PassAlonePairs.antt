-- What two arguments of a call name lies apart, if one of the two is `&mut`: neither is an index on the way to the
-- other,
-- and where the rule of borrows does not see one of them, they have other roots.
use Rattle.std.proofs.Common.{◌≡◌, ◌⊎◌, inl, inr, ℕ, ◌||◌, Bool, true, false, List, Option, Some, None, refl, sym, ◌∙◌, subst}
use Rattle.std.proofs.lemmas.Bool.{false≢true}
use Rattle.mir_ty.specs.ItemTable.{ItemTable}
use Rattle.store_model.specs.Places.Place.{Place}
use Rattle.typed_tree.specs.Nodes.{number_of, nodes_of}
use Rattle.typed_tree.specs.Tree.{Node, BodyTree}
use Rattle.src_meaning.specs.Locals.Effects.{place_at}
use Rattle.src_meaning.specs.Locals.OfBody.{local_of}
use Rattle.src_meaning.specs.Shape as shapes
use Rattle.src_meaning.specs.Shape.{shape}
use Rattle.typing_rules.specs.Accesses as rules
use Rattle.typing_rules.specs.Accesses.{AccessPlace, place_of, root_of, overlap_together}
use Rattle.well_typed.specs.Claim.{Holds}
use Rattle.well_typed.specs.Nodes as typing
use Rattle.well_typed.specs.Places.{Standing}
use Rattle.soundness_values.proofs.Checks.{are_apart}
use Rattle.soundness_values.proofs.NoOverlap.{SeenIf, is_seen, node_seen}
use Rattle.soundness.proofs.PassAloneOwn.{own_steps, own_root}
use Rattle.soundness.proofs.PassAloneSuit.{seen_apart, roots_apart}
use Rattle.soundness_cells.proofs.PassCells.{NodeIn}
use Rattle.soundness_frame.proofs.PassConflicts.{two_apart}
use Rattle.soundness_cells.proofs.PassFacts.{Standpoint, context}
use Rattle.soundness_frame.proofs.PassKeys.{Keys, KeysIn, keys_in_more}
use Rattle.soundness_frame.proofs.PassTold as here
use Rattle.soundness_frame.proofs.PassTold.{KnownOf, RootIf, StandsFor, Here, root_unnamed}
use Rattle.soundness_frame.proofs.PassToldPlaces.{is_alias, unnamed_alias}

module _ (items : ItemTable) (May : Place → Type 0) (Of : KnownOf) (aliases : rules.Aliases) (places : shapes.Aliases)
  where
    abbrev at_place : Node → Place
    at_place base = (shape items base).place places

    -- the number of a node inside
    abbrev pub InNodes : Node → ℕ → Type 0
    InNodes base k = (m : Node) × (NodeIn (nodes_of base) m × (number_of m ≡ k))

    -- no key of a place is one of a node
    abbrev pub Without : Node → Place → Type 0
    Without m q = Keys (λ k. k ≡ number_of m → ⊥) q

    -- the name at a root, if any, is no binding of a guard
    abbrev pub NoAlias : Option ℕ → Type 0
    NoAlias root = (key : ℕ) → root ≡ Some key → is_alias aliases key ≡ true → ⊥

    -- what is known of the place of a borrow
    pub record Placed (base : Node) (unique : Bool) : Type 0 where
      pub seen : SeenIf (place_of aliases base) (at_place base)
      pub stands : StandsFor Of.root (place_of aliases base) (at_place base)
      pub own : unique ≡ true → KeysIn (InNodes base) (at_place base).steps
          × (place_of aliases base ≡ None → InNodes base (at_place base).local)

    not_alias : (key : ℕ) → (is_alias aliases key ≡ true → ⊥) → is_alias aliases key ≡ false
    not_alias key f = by (is_alias aliases key) refl
      where
        by : (b : Bool) → is_alias aliases key ≡ b → b ≡ false
        by false e = refl
        by true e = absurd (f e)

    pub placed : (x : Standpoint) (base : Node) (standing : Standing) (unique : Bool) →
        Here items May Of aliases places x (nodes_of base) →
        Holds (typing.typed (context items x) standing base) → (unique ≡ true → NoAlias (root_of base)) →
        Placed base unique
    placed x base standing unique o h none = record {
      seen = node_seen items aliases places o.sees.seen base;
      stands = here.place_stands items May Of base standing aliases places x o h;
      own = λ u. (
        own_steps items places (InNodes base) base (λ key e. o.sees.plain key (not_alias key (none u key e)))
            (λ m i. (m, (i, refl))),
        λ e. own_root items places (InNodes base) base (rootless (root_of base) refl (none u) e)
            (λ m i. (m, (i, refl))),
      );
    }
      where
        rootless : (r : Option ℕ) → root_of base ≡ r → NoAlias (root_of base) → place_of aliases base ≡ None →
            root_of base ≡ None
        rootless None k f e = k
        rootless (Some key) k f e = absurd (f key k (unnamed_alias aliases key (root_unnamed base aliases key k e)))

    -- so much of two places
    pub record PairApart (one other : Node) : Type 0 where
      pub not_one : KeysIn (λ k. k ≡ (at_place one).local → ⊥) (at_place other).steps
      pub not_other : KeysIn (λ k. k ≡ (at_place other).local → ⊥) (at_place one).steps
      pub roots : (place_of aliases one ≡ None) ⊎ (place_of aliases other ≡ None) →
          (at_place one).local ≡ (at_place other).local → ⊥

    unique_apart : (one other : Node) (u w : Bool) → Placed one u → Placed other w → u ≡ true →
        ((m : Node) → NodeIn (nodes_of one) m → Without m (at_place other)) → PairApart one other
    unique_apart one other u w q r e off = record {
      not_one = first (place_of aliases one) refl q.stands.0;
      not_other = keys_in_more (InNodes one) (λ k. k ≡ (at_place other).local → ⊥)
          (λ k t same. (off t.0 t.1.0).0 (sym same ∙ sym t.1.1)) (at_place one).steps (q.own e).0;
      roots = λ none same. third none same;
    }
      where
        first : (o : Option AccessPlace) → place_of aliases one ≡ o → RootIf Of.root o (at_place one).local →
            KeysIn (λ k. k ≡ (at_place one).local → ⊥) (at_place other).steps
        first None k s =
            let t = (q.own e).1 k in
            subst (λ l. KeysIn (λ k. k ≡ l → ⊥) (at_place other).steps) t.1.1 (off t.0 t.1.0).1
        first (Some a) k s = keys_in_more (λ k. Of.root k → ⊥) (λ k. k ≡ (at_place one).local → ⊥)
            (λ k n same. n (subst Of.root (sym same) s)) (at_place other).steps r.stands.1

        temporary : place_of aliases one ≡ None → (at_place one).local ≡ (at_place other).local → ⊥
        temporary k same = let t = (q.own e).1 k in (off t.0 t.1.0).0 (sym same ∙ sym t.1.1)

        named : (o n : Option AccessPlace) → place_of aliases one ≡ o → RootIf Of.root o (at_place one).local →
            n ≡ None → RootIf Of.root n (at_place other).local → (at_place one).local ≡ (at_place other).local → ⊥
        named None n k s z t same = temporary k same
        named (Some a) None k s z t same = t (subst Of.root same s)
        named (Some a) (Some c) k s z t same = let never : ⊥ = cc in never

        third : (place_of aliases one ≡ None) ⊎ (place_of aliases other ≡ None) →
            (at_place one).local ≡ (at_place other).local → ⊥
        third (inl k) same = temporary k same
        third (inr k) same = named (place_of aliases one) (place_of aliases other) refl q.stands.0 k r.stands.0 same

    turned : (one other : Node) → PairApart one other → PairApart other one
    turned one other a = record {
      not_one = a.not_other;
      not_other = a.not_one;
      roots = λ none same. a.roots (swapped none) (sym same);
    }
      where
        swapped : (place_of aliases other ≡ None) ⊎ (place_of aliases one ≡ None) →
            (place_of aliases one ≡ None) ⊎ (place_of aliases other ≡ None)
        swapped (inl k) = inr k
        swapped (inr k) = inl k

    both_ways : (one other : Node) (u w : Bool) → Placed one u → Placed other w → (u || w) ≡ true →
        ((m : Node) → NodeIn (nodes_of one) m → Without m (at_place other)) →
        ((m : Node) → NodeIn (nodes_of other) m → Without m (at_place one)) → PairApart one other
    both_ways one other true w q r e off away = unique_apart one other true w q r refl off
    both_ways one other false true q r e off away = turned other one (unique_apart other one true false r q refl away)
    both_ways one other false false q r e off away = absurd (false≢true e)

    module _ (body : BodyTree) where
      pub pair_apart : (one other : Node) (u w : Bool) → Placed one u → Placed other w → (u || w) ≡ true →
          ((m : Node) → NodeIn (nodes_of one) m → Without m (at_place other)) →
          ((m : Node) → NodeIn (nodes_of other) m → Without m (at_place one)) →
          overlap_together (record { place = place_of aliases one; unique = u })
          (Some (record { place = place_of aliases other; unique = w })) ≡ false →
          are_apart (place_at (local_of items body) (at_place one)) (place_at (local_of items body) (at_place other))
          ≡ true
      pair_apart one other u w q r e off away h =
          by (place_of aliases one) (place_of aliases other) refl refl q.seen r.seen
        where
          both : PairApart one other
          both = both_ways one other u w q r e off away

          by : (a c : Option AccessPlace) → place_of aliases one ≡ a → place_of aliases other ≡ c →
              SeenIf a (at_place one) → SeenIf c (at_place other) →
              are_apart (place_at (local_of items body) (at_place one))
              (place_at (local_of items body) (at_place other)) ≡ true
          by None c k l s t = roots_apart items body (at_place one) (at_place other) (both.roots (inl k)) both.not_one
              both.not_other
          by (Some a) None k l s t = roots_apart items body (at_place one) (at_place other) (both.roots (inr l))
              both.not_one both.not_other
          by (Some a) (Some c) k l (is_seen _ _ s) (is_seen _ _ t) = seen_apart items body a c (at_place one)
              (at_place other) s t
              (two_apart (record { place = place_of aliases one; unique = u })
              (record { place = place_of aliases other; unique = w }) a c h k l e) both.not_one both.not_other
