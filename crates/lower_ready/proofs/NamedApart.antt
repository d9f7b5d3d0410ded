-- Places that do not overlap by the rule of borrows do not in a graph: what the rule sees of steps is how they are laid
-- out, up to the first index.
use Rattle.std.proofs.Common.{◌≡◌, ℕ, ◌==◌, ◌&&◌, ◌||◌, not, Bool, true, false, List, [], ◌∷◌, map, refl, sym, ap, ◌∙◌}
use Rattle.cfg_graph.specs.declared.graph.Body.{Body}
use Rattle.cfg_graph.specs.NamedPlaces.{as_laid_out, one_goes_on, overlaps}
use Rattle.cfg_graph.specs.Moves.Gone.{are_first}
use Rattle.mir_ty.specs.ItemTable.{ItemTable}
use Rattle.store_model.specs.Places.Place.{Step, ToPart, ToField, ToContent, ToElement, Place, before_element}
use Rattle.typed_tree.specs.Tree.{BodyTree}
use Rattle.src_meaning.specs.Locals.Effects.{step_at, place_at}
use Rattle.src_meaning.specs.Locals.OfBody.{local_of, local_keys}
use Rattle.typing_rules.specs.Accesses.{AccessPlace, begin_alike, overlap}
use Rattle.soundness_values.proofs.NoOverlap.{Seen, seen}
use Rattle.soundness_frame.proofs.PassPlacesApart.{begin_apart}
use Rattle.soundness_frame.proofs.PassToldPatterns.{same_order}
use Rattle.lower_ready.proofs.NamedPassing.{ApartFrom}

abbrev meets : List Step → List Step → Bool
meets a b = one_goes_on (as_laid_out (before_element a)) (as_laid_out (before_element b))

-- one step more
with_step : (c d x y z : Bool) → c ≡ d → (x || y) ≡ z → ((c && x) || (d && y)) ≡ (c && z)
with_step true true x y z e h = h
with_step false false x y z e h = refl
with_step true false x y z e h = absurd (let never : true ≡ false = e in cc)
with_step false true x y z e h = absurd (let never : false ≡ true = e in cc)

pub meets_so : (a b : List Step) → meets a b ≡ begin_alike (seen a) (seen b)
meets_so [] b = refl
meets_so (ToElement i ∷ a) b = refl
meets_so (ToPart n ∷ a) [] = refl
meets_so (ToField u n ∷ a) [] = refl
meets_so (ToContent ∷ a) [] = refl
meets_so (ToPart n ∷ a) (ToElement i ∷ b) = refl
meets_so (ToField u n ∷ a) (ToElement i ∷ b) = refl
meets_so (ToContent ∷ a) (ToElement i ∷ b) = refl
meets_so (ToPart n ∷ a) (ToPart m ∷ b) = with_step (n == m) (m == n) _ _ _ (same_order n m) (meets_so a b)
meets_so (ToPart n ∷ a) (ToField v m ∷ b) = with_step (n == m) (m == n) _ _ _ (same_order n m) (meets_so a b)
meets_so (ToField u n ∷ a) (ToPart m ∷ b) = with_step (n == m) (m == n) _ _ _ (same_order n m) (meets_so a b)
meets_so (ToField u n ∷ a) (ToField v m ∷ b) = with_step (n == m) (m == n) _ _ _ (same_order n m) (meets_so a b)
meets_so (ToPart n ∷ a) (ToContent ∷ b) = refl
meets_so (ToField u n ∷ a) (ToContent ∷ b) = refl
meets_so (ToContent ∷ a) (ToPart m ∷ b) = refl
meets_so (ToContent ∷ a) (ToField v m ∷ b) = refl
meets_so (ToContent ∷ a) (ToContent ∷ b) = meets_so a b

pub or_true : (b : Bool) → (b || true) ≡ true
or_true true = refl
or_true false = refl

module _ (items : ItemTable) (tree : BodyTree) (body : Body) (local : ℕ) (named : Place) where
  abbrev lo : ℕ → ℕ
  lo = local_of items tree

  -- what does not overlap a place that the rule sees may be taken
  pub apart_seen : (a b : AccessPlace) (p q : Place) → Seen a p → Seen b q → overlap a b ≡ false →
      ApartFrom items tree body local named (place_at lo p) q
  apart_seen a b p q s t e =
      ap (λ (z : Bool). (lo q.local == local) || not ((lo p.local == lo q.local) && z))
      (meets_so (map (step_at lo) p.steps) (map (step_at lo) q.steps))
      ∙ ap (λ (z : Bool). (lo q.local == local) || not z) (begin_apart (local_keys items tree) a b p q s t e)
      ∙ or_true (lo q.local == local)
