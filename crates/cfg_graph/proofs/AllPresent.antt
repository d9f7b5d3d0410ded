-- All of a local is present exactly where no place of it is gone, if no step is named twice; and no action names one so.
use Rattle.std.proofs.Common.{◌≡◌, ℕ, Bool, true, false, not, ◌&&◌, ◌||◌, if◌then◌else◌, List, [], ◌∷◌, ◌++◌, Option, Some, None, refl, ap, subst, sym, ◌∙◌}
use Rattle.std.specs.Prelude.{◌==◌, ⊤}
use Rattle.std.specs.Cmp.{first_so, second_so}
use Rattle.std.specs.Cmp.Derive.{both_true}
use Rattle.std.proofs.lemmas.Bool.{false≢true, or_left, or_right}
use Rattle.mir_ty.specs.ItemTable.{ItemTable}
use Rattle.store_model.specs.Places.Place.{Step, same_step}
use Rattle.store_model.specs.Abstract.Presence.{Presence, Parts, known, none_named, named, is_present, is_gone, itself_gone, part_among, presence_at, presence_along, changed_among, after_action, all_present, all_parts_present}
use Rattle.cfg_graph.specs.declared.graph.Body.{Body}
use Rattle.cfg_graph.specs.Moves.Gone.{PathAction, leaves_gone, below, counts, is_param}
use Rattle.cfg_graph.specs.Moves.Present.{changed_by, present_by, present_from, present_at_start, present_after, WholeIsAllPresent}
use Rattle.cfg_graph.proofs.Present.{gone_is_not_present}
use Rattle.cfg_graph.proofs.WholePlaces.{same_step-sound, same_step-refl, not_gone, gone_not}

named_in : Step → Parts → Bool
named_in step none_named = false
named_in step (named other part rest) = same_step step other || named_in step rest

-- no step is named twice, at any depth
abbrev mutual
  IsTidy : Presence → Type 0
  IsTidy (known gone parts) = AreTidy parts

  AreTidy : Parts → Type 0
  AreTidy none_named = ⊤
  AreTidy (named step part rest) = (named_in step rest ≡ false) × IsTidy part × AreTidy rest

-- A change of one part keeps it so.

not_same : (s t : Step) → same_step t s ≡ false → same_step s t ≡ false
not_same s t h = by (same_step s t) refl
  where
    by : (b : Bool) → same_step s t ≡ b → b ≡ false
    by false e = refl
    by true e = absurd (false≢true (sym h ∙ subst (λ x. same_step x s ≡ true) (same_step-sound s t e) (same_step-refl s)))

neither : (a b : Bool) → a ≡ false → b ≡ false → (a || b) ≡ false
neither false b h k = k
neither true b h k = h

first_not : (a b : Bool) → (a || b) ≡ false → a ≡ false
first_not false b h = refl
first_not true b h = h

second_not : (a b : Bool) → (a || b) ≡ false → b ≡ false
second_not false b h = h
second_not true b h = absurd (false≢true (sym h))

module _ (t : Step) (change : Presence → Presence) (o : Presence) where
  new-changed : (s : Step) (parts : Parts) → same_step s t ≡ false → named_in s parts ≡ false → named_in s (changed_among t change o parts) ≡ false
  unfolding named_in
  new-changed s none_named h k = neither (same_step s t) false h refl
  new-changed s (named other part rest) h k = by (same_step t other) (new-changed s rest h (second_not (same_step s other) (named_in s rest) k))
    where
      by : (c : Bool) → named_in s (changed_among t change o rest) ≡ false
          → named_in s (if c then named other (change part) rest else named other part (changed_among t change o rest)) ≡ false
      by true later = k
      by false later = neither (same_step s other) (named_in s (changed_among t change o rest)) (first_not (same_step s other) (named_in s rest) k) later

  tidy-changed : ((q : Presence) → IsTidy q → IsTidy (change q)) → IsTidy o → (parts : Parts) → AreTidy parts → AreTidy (changed_among t change o parts)
  unfolding named_in
  tidy-changed keeps tidy none_named h = (refl, keeps o tidy, tt)
  tidy-changed keeps tidy (named other part rest) h = by (same_step t other) refl (tidy-changed keeps tidy rest h.2)
    where
      by : (c : Bool) → same_step t other ≡ c → AreTidy (changed_among t change o rest)
          → AreTidy (if c then named other (change part) rest else named other part (changed_among t change o rest))
      by true e later = (h.0, keeps part h.1, h.2)
      by false e later = (new-changed other rest (not_same other t e) h.0, h.1, later)

tidy-after_action : (takes : Bool) (at : List Step) (p : Presence) → IsTidy p → IsTidy (after_action takes at p)
tidy-after_action takes [] p h = tt
tidy-after_action takes (t ∷ at) (known gone parts) h = tidy-changed t (after_action takes at) (known gone none_named) (tidy-after_action takes at) tt parts h

-- Where all is present no place is gone.

module _ (o : Presence) (o_present : all_present o ≡ true) where
  part-present : (s : Step) (parts : Parts) → all_parts_present parts ≡ true → all_present (part_among s o parts) ≡ true
  part-present s none_named h = o_present
  part-present s (named other part rest) h = by (same_step s other) (part-present s rest (second_so (all_present part) (all_parts_present rest) h))
    where
      by : (c : Bool) → all_present (part_among s o rest) ≡ true → all_present (if c then part else part_among s o rest) ≡ true
      by true later = first_so (all_present part) (all_parts_present rest) h
      by false later = later

none-gone : (steps : List Step) (p : Presence) → all_present p ≡ true → itself_gone (presence_along steps p) ≡ false
none-gone [] (known gone parts) h = not_gone gone (first_so (not gone) (all_parts_present parts) h)
none-gone (s ∷ steps) (known gone parts) h =
    none-gone steps (part_among s (known gone none_named) parts)
    (part-present (known gone none_named) (both_true (first_so (not gone) (all_parts_present parts) h) refl) s parts (second_so (not gone) (all_parts_present parts) h))

-- Where no place is gone all is present.

if_true : (b : Bool) (x y : Presence) → b ≡ true → (if b then x else y) ≡ x
if_true true x y h = refl
if_true false x y h = absurd (false≢true h)

if_false : (b : Bool) (x y : Presence) → b ≡ false → (if b then x else y) ≡ y
if_false false x y h = refl
if_false true x y h = absurd (false≢true (sym h))

other_than_new : (s other : Step) (rest : Parts) → named_in other rest ≡ false → named_in s rest ≡ true → same_step s other ≡ false
other_than_new s other rest new among = by (same_step s other) refl
  where
    by : (b : Bool) → same_step s other ≡ b → b ≡ false
    by false e = refl
    by true e = absurd (false≢true (sym new ∙ subst (λ x. named_in x rest ≡ true) (same_step-sound s other e) among))

-- the parts of a list of parts, one by one
NoneGone : Parts → Presence → Type 0
NoneGone parts o = (s : Step) (steps : List Step) → named_in s parts ≡ true → itself_gone (presence_along steps (part_among s o parts)) ≡ false

from-first : (other : Step) (part : Presence) (rest : Parts) (o : Presence) → NoneGone (named other part rest) o → (steps : List Step) → itself_gone (presence_along steps part) ≡ false
unfolding NoneGone named_in
from-first other part rest o f steps =
    ap (λ q. itself_gone (presence_along steps q)) (sym (if_true (same_step other other) part (part_among other o rest) (same_step-refl other)))
    ∙ f other steps (or_left (same_step other other) (named_in other rest) (same_step-refl other))

from-rest : (other : Step) (part : Presence) (rest : Parts) (o : Presence) → named_in other rest ≡ false → NoneGone (named other part rest) o → NoneGone rest o
unfolding NoneGone named_in
from-rest other part rest o new f s steps among =
    ap (λ q. itself_gone (presence_along steps q)) (sym (if_false (same_step s other) part (part_among s o rest) (other_than_new s other rest new among)))
    ∙ f s steps (or_right (same_step s other) (named_in s rest) among)

mutual
  unfolding NoneGone

  all-present : (p : Presence) → IsTidy p → ((steps : List Step) → itself_gone (presence_along steps p) ≡ false) → all_present p ≡ true
  all-present (known gone parts) tidy f = both_true (gone_not gone (f [])) (all-parts-present parts tidy (known gone none_named) (λ s steps among. f (s ∷ steps)))

  all-parts-present : (parts : Parts) → AreTidy parts → (o : Presence) → NoneGone parts o → all_parts_present parts ≡ true
  all-parts-present none_named tidy o f = refl
  all-parts-present (named other part rest) tidy o f =
      both_true
      (all-present part tidy.1 (λ steps. from-first other part rest o f steps))
      (all-parts-present rest tidy.2 o (from-rest other part rest o tidy.0 f))

-- What is present after the actions of a path.

along-append : (a b : List Step) (p : Presence) → presence_along (a ++ b) p ≡ presence_along b (presence_along a p)
along-append [] b p = refl
along-append (s ∷ a) b p = along-append a b (presence_at s p)

tidy-part : (s : Step) (o : Presence) → IsTidy o → (parts : Parts) → AreTidy parts → IsTidy (part_among s o parts)
tidy-part s o h none_named tidy = h
tidy-part s o h (named other part rest) tidy = by (same_step s other) (tidy-part s o h rest tidy.2)
  where
    by : (b : Bool) → IsTidy (part_among s o rest) → IsTidy (if b then part else part_among s o rest)
    by true later = tidy.1
    by false later = later

tidy-along : (steps : List Step) (p : Presence) → IsTidy p → IsTidy (presence_along steps p)
tidy-along [] p tidy = tidy
tidy-along (s ∷ steps) (known gone parts) tidy = tidy-along steps (part_among s (known gone none_named) parts) (tidy-part s (known gone none_named) tt parts tidy)

tidy-changed_by : (here : Bool) (left : Option Bool) (at : List Step) (p : Presence) → IsTidy p → IsTidy (if here then changed_by left at p else p)
tidy-changed_by false left at p tidy = tidy
tidy-changed_by true None at p tidy = tidy
tidy-changed_by true (Some takes) at p tidy = tidy-after_action takes at p tidy

tidy-start : (param : Bool) → IsTidy (if param then is_present else is_gone)
tidy-start true = tt
tidy-start false = tt

module _ (items : ItemTable) (body : Body) where
  tidy-present_from : (local : ℕ) (actions : List PathAction) (p : Presence) → IsTidy p → IsTidy (present_from items body local actions p)
  tidy-present_from local [] p tidy = tidy
  tidy-present_from local (a ∷ later) p tidy =
      tidy-present_from local later (present_by items body local a p)
      (tidy-changed_by (counts items body a.place && (a.place.local == local)) (leaves_gone a.how) a.place.steps p tidy)

pub whole_is_all_present : WholeIsAllPresent
whole_is_all_present items body actions place =
    let there = present_after items body actions place.local in
    let tidy : IsTidy (presence_along place.steps there) = tidy-along place.steps there (tidy-present_from items body place.local actions (present_at_start items body place.local) (tidy-start (is_param items body place.local))) in (
      (λ all steps. sym (gone_is_not_present items body actions (below place steps)) ∙ ap itself_gone (along-append place.steps steps there) ∙ none-gone steps (presence_along place.steps there) all),
      (λ whole. all-present (presence_along place.steps there) tidy
          (λ steps. ap itself_gone (sym (along-append place.steps steps there)) ∙ gone_is_not_present items body actions (below place steps) ∙ whole steps)),
    )
