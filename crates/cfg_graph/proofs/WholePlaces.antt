-- The test for whole places tells exactly the whole ones. A place below another was last acted on together with that
-- one, or together with a place between them on which an action was.
use Rattle.std.proofs.Common.{◌≡◌, ◌⊎◌, inl, inr, ℕ, Bool, true, false, not, ◌&&◌, if◌then◌else◌, List, [], ◌∷◌, ◌++◌, Option, Some, None, refl, ap, subst, sym, ◌∙◌}
use Rattle.std.specs.Prelude.{◌==◌, unwrap_or}
use Rattle.std.specs.Cmp.{first_so, second_so}
use Rattle.std.specs.Cmp.Derive.{both_true}
use Rattle.std.specs.List.{list_all}
use Rattle.std.specs.Option.{option_or}
use Rattle.std.proofs.lemmas.Bool.{false≢true}
use Rattle.std.proofs.lemmas.Bool.Decides.{Decides-eqb}
use Rattle.std.proofs.lemmas.List.{append-nil, append_assoc}
use Rattle.std.proofs.lemmas.Option.{none-some}
use Rattle.mir_ty.specs.ItemTable.{ItemTable}
use Rattle.store_model.specs.Places.Place.{Step, same_step, ToPart, ToField, ToContent, ToElement, Place}
use Rattle.cfg_graph.specs.declared.graph.Body.{Body}
use Rattle.cfg_graph.specs.Moves.Gone.{PathAction, leaves_gone, are_first, is_at_or_above, below, counts, left_by, last_left, is_param, is_gone_after, IsWholeAfter, is_whole_after, WholenessIsTested}

-- Steps and places.

same_number : (n m : ℕ) → (n == m) ≡ true → n ≡ m
same_number n m h = (Decides-eqb n m).0 h

pub same_step-sound : (a b : Step) → same_step a b ≡ true → a ≡ b
same_step-sound (ToPart n) (ToPart m) h = ap ToPart (same_number n m h)
same_step-sound (ToField v n) (ToField u m) h =
    ap (λ w. ToField w n) (same_number v u (first_so (v == u) (n == m) h)) ∙ ap (ToField u) (same_number n m (second_so (v == u) (n == m) h))
same_step-sound ToContent ToContent h = refl
same_step-sound (ToElement n) (ToElement m) h = ap ToElement (same_number n m h)
same_step-sound (ToPart n) (ToField u m) h = absurd (false≢true h)
same_step-sound (ToPart n) ToContent h = absurd (false≢true h)
same_step-sound (ToPart n) (ToElement m) h = absurd (false≢true h)
same_step-sound (ToField v n) (ToPart m) h = absurd (false≢true h)
same_step-sound (ToField v n) ToContent h = absurd (false≢true h)
same_step-sound (ToField v n) (ToElement m) h = absurd (false≢true h)
same_step-sound ToContent (ToPart m) h = absurd (false≢true h)
same_step-sound ToContent (ToField u m) h = absurd (false≢true h)
same_step-sound ToContent (ToElement m) h = absurd (false≢true h)
same_step-sound (ToElement n) (ToPart m) h = absurd (false≢true h)
same_step-sound (ToElement n) (ToField u m) h = absurd (false≢true h)
same_step-sound (ToElement n) ToContent h = absurd (false≢true h)

same_number-refl : (n : ℕ) → (n == n) ≡ true
same_number-refl n = (Decides-eqb n n).1 refl

pub same_step-refl : (a : Step) → same_step a a ≡ true
same_step-refl (ToPart n) = same_number-refl n
same_step-refl (ToField v n) = both_true (same_number-refl v) (same_number-refl n)
same_step-refl ToContent = refl
same_step-refl (ToElement n) = same_number-refl n

are_first-append : (upper rest : List Step) → are_first upper (upper ++ rest) ≡ true
are_first-append [] rest = refl
are_first-append (step ∷ upper) rest = both_true (same_step-refl step) (are_first-append upper rest)

are_first-sound : (upper lower : List Step) → are_first upper lower ≡ true → (rest : List Step) × (lower ≡ upper ++ rest)
are_first-sound [] lower h = (lower, refl)
are_first-sound (step ∷ upper) [] h = absurd (false≢true h)
are_first-sound (step ∷ upper) (other ∷ lower) h =
    let below_it = are_first-sound upper lower (second_so (same_step step other) (are_first upper lower) h) in
    let e : step ≡ other = same_step-sound step other (first_so (same_step step other) (are_first upper lower) h) in
    (below_it.0, ap (λ s. s ∷ lower) (sym e) ∙ ap (λ l. step ∷ l) below_it.1)

-- of two lists of which the same list begins with each, one begins with the other
are_first-compare : (u v lower : List Step) → are_first u lower ≡ true → are_first v lower ≡ true → (are_first u v ≡ true) ⊎ (are_first v u ≡ true)
are_first-compare [] v lower h k = inl refl
are_first-compare (step ∷ u) [] lower h k = inr refl
are_first-compare (step ∷ u) (other ∷ v) [] h k = absurd (false≢true h)
are_first-compare (step ∷ u) (other ∷ v) (s ∷ lower) h k =
    let e : step ≡ s = same_step-sound step s (first_so (same_step step s) (are_first u lower) h) in
    let f : other ≡ s = same_step-sound other s (first_so (same_step other s) (are_first v lower) k) in
    elim (are_first-compare u v lower (second_so (same_step step s) (are_first u lower) h) (second_so (same_step other s) (are_first v lower) k)) [
      | inl a ↦ inl (both_true (subst (λ x. same_step step x ≡ true) (e ∙ sym f) (same_step-refl step)) a)
      | inr a ↦ inr (both_true (subst (λ x. same_step other x ≡ true) (f ∙ sym e) (same_step-refl other)) a)
    ]

above-below : (place : Place) (steps : List Step) → is_at_or_above place (below place steps) ≡ true
above-below place steps = both_true (same_number-refl place.local) (are_first-append place.steps steps)

above-sound : (upper lower : Place) → is_at_or_above upper lower ≡ true → (steps : List Step) × (lower ≡ below upper steps)
above-sound upper lower h =
    let rest = are_first-sound upper.steps lower.steps (second_so (upper.local == lower.local) (are_first upper.steps lower.steps) h) in
    let e : upper.local ≡ lower.local = same_number upper.local lower.local (first_so (upper.local == lower.local) (are_first upper.steps lower.steps) h) in
    (rest.0, ap (λ n. record { local = n; steps = lower.steps }) (sym e) ∙ ap (λ l. record { local = upper.local; steps = l }) rest.1)

below-nil : (place : Place) → below place [] ≡ place
below-nil place = ap (λ l. record { local = place.local; steps = l }) (append-nil place.steps)

below-below : (place : Place) (a b : List Step) → below (below place a) b ≡ below place (a ++ b)
below-below place a b = ap (λ l. record { local = place.local; steps = l }) (append_assoc place.steps a b)

above-refl : (place : Place) → is_at_or_above place place ≡ true
above-refl place = subst (λ p. is_at_or_above place p ≡ true) (below-nil place) (above-below place [])

above-trans : (a b c : Place) → is_at_or_above a b ≡ true → is_at_or_above b c ≡ true → is_at_or_above a c ≡ true
above-trans a b c h k =
    let x = above-sound a b h in
    let y = above-sound b c k in
    subst (λ p. is_at_or_above a p ≡ true) (sym (y.1 ∙ ap (λ p. below p y.0) x.1 ∙ below-below a x.0 y.0)) (above-below a (x.0 ++ y.0))

above-compare : (u v lower : Place) → is_at_or_above u lower ≡ true → is_at_or_above v lower ≡ true → (is_at_or_above u v ≡ true) ⊎ (is_at_or_above v u ≡ true)
above-compare u v lower h k =
    let e : u.local ≡ lower.local = same_number u.local lower.local (first_so (u.local == lower.local) (are_first u.steps lower.steps) h) in
    let f : v.local ≡ lower.local = same_number v.local lower.local (first_so (v.local == lower.local) (are_first v.steps lower.steps) k) in
    elim (are_first-compare u.steps v.steps lower.steps (second_so (u.local == lower.local) (are_first u.steps lower.steps) h) (second_so (v.local == lower.local) (are_first v.steps lower.steps) k)) [
      | inl a ↦ inl (both_true (subst (λ n. (u.local == n) ≡ true) (e ∙ sym f) (same_number-refl u.local)) a)
      | inr a ↦ inr (both_true (subst (λ n. (v.local == n) ≡ true) (f ∙ sym e) (same_number-refl v.local)) a)
    ]

-- What an action leaves, by three truth values: whether it counts, and whether it was above one place and another.

left-upper : (c u l : Bool) (x : Option Bool) → (u ≡ true → l ≡ true) → (if c && l then x else None) ≡ None → (if c && u then x else None) ≡ None
left-upper false u l x f h = refl
left-upper true false l x f h = refl
left-upper true true false x f h = absurd (false≢true (f refl))
left-upper true true true x f h = h

left-compare : (c l p : Bool) (x : Option Bool) → (p ≡ true → l ≡ true) → ((if c && l then x else None) ≡ (if c && p then x else None)) ⊎ ((l ≡ true) × (p ≡ false))
left-compare false l p x f = inl refl
left-compare true false false x f = inl refl
left-compare true false true x f = absurd (false≢true (f refl))
left-compare true true true x f = inl refl
left-compare true true false x f = inr (refl, refl)

or-some : (x x' y y' : Option Bool) (v : Bool) → x ≡ Some v → x ≡ x' → option_or x y ≡ option_or x' y'
or-some x x' y y' v h e = ap (λ z. option_or z y) h ∙ sym (ap (λ z. option_or z y') (sym e ∙ h))

or-none : (x x' y y' : Option Bool) → x ≡ None → x' ≡ None → y ≡ y' → option_or x y ≡ option_or x' y'
or-none x x' y y' h h' e = ap (λ z. option_or z y) h ∙ e ∙ sym (ap (λ z. option_or z y') h')

first_none : (x y : Option Bool) → option_or x y ≡ None → x ≡ None
first_none None y h = refl
first_none (Some v) y h = h

second_none : (x y : Option Bool) → option_or x y ≡ None → y ≡ None
second_none None y h = h
second_none (Some v) y h = absurd (none-some v (sym h))

none_or_some : (x : Option Bool) → (x ≡ None) ⊎ ((v : Bool) × (x ≡ Some v))
none_or_some None = inl refl
none_or_some (Some v) = inr (v, refl)

pub not_gone : (gone : Bool) → not gone ≡ true → gone ≡ false
not_gone false h = refl
not_gone true h = absurd (false≢true h)

pub gone_not : (gone : Bool) → gone ≡ false → not gone ≡ true
gone_not false h = refl
gone_not true h = absurd (false≢true (sym h))

unless_above : (u g : Bool) → (u ≡ true → g ≡ false) → not (u && g) ≡ true
unless_above false g f = refl
unless_above true g f = gone_not g (f refl)

above_gone : (u g : Bool) → not (u && g) ≡ true → u ≡ true → g ≡ false
above_gone false g h k = absurd (false≢true k)
above_gone true g h k = not_gone g h

all_pass : (test : PathAction → Bool) (actions : List PathAction) → ((a : PathAction) → test a ≡ true) → list_all test actions ≡ true
all_pass test [] f = refl
all_pass test (a ∷ actions) f = both_true (f a) (all_pass test actions f)

-- an action is one of these: what all of them pass it passes
abbrev IsAmong : List PathAction → PathAction → Type 0
IsAmong actions b = (test : PathAction → Bool) → list_all test actions ≡ true → test b ≡ true

module _ (items : ItemTable) (body : Body) where
  -- where nothing was left of a place, nothing was of a container of it
  left_by-upper : (u l : Place) → is_at_or_above u l ≡ true → (a : PathAction) → left_by items body l a ≡ None → left_by items body u a ≡ None
  left_by-upper u l h a e =
      left-upper (counts items body a.place) (is_at_or_above a.place u) (is_at_or_above a.place l) (leaves_gone a.how) (λ k. above-trans a.place u l k h) e

  last_left-upper : (u l : Place) → is_at_or_above u l ≡ true → (actions : List PathAction) → last_left items body l actions ≡ None → last_left items body u actions ≡ None
  last_left-upper u l h [] e = refl
  last_left-upper u l h (a ∷ later) e =
      or-none (last_left items body u later) None (left_by items body u a) None
      (last_left-upper u l h later (first_none (last_left items body l later) (left_by items body l a) e)) refl
      (left_by-upper u l h a (second_none (last_left items body l later) (left_by items body l a) e))

  -- a place was last acted on together with a container of it, or together with an action's place between them
  abbrev IsLastWith : Place → Place → List PathAction → Type 0
  IsLastWith p l actions =
      (last_left items body l actions ≡ last_left items body p actions)
      ⊎ ((b : PathAction) × IsAmong actions b × (is_at_or_above p b.place ≡ true) × (last_left items body l actions ≡ last_left items body b.place actions))

  -- a later action was the last on it
  last_later : (p l : Place) (a : PathAction) (later : List PathAction) (v : Bool) → last_left items body l later ≡ Some v → IsLastWith p l later → IsLastWith p l (a ∷ later)
  last_later p l a later v h (inl e) =
      inl (or-some (last_left items body l later) (last_left items body p later) (left_by items body l a) (left_by items body p a) v h e)
  last_later p l a later v h (inr (b, among, above, e)) =
      inr (
        b,
        (λ test k. among test (second_so (test a) (list_all test later) k)),
        above,
        or-some (last_left items body l later) (last_left items body b.place later) (left_by items body l a) (left_by items body b.place a) v h e,
      )

  -- its own action counts for the place of an action
  own_left : (l : Place) (a : PathAction) → is_at_or_above a.place l ≡ true → left_by items body l a ≡ left_by items body a.place a
  own_left l a h = ap (λ u. if counts items body a.place && u then leaves_gone a.how else None) (h ∙ sym (above-refl a.place))

  -- no later action was on it
  last_here : (p l : Place) (a : PathAction) (later : List PathAction) → is_at_or_above p l ≡ true → last_left items body l later ≡ None → IsLastWith p l (a ∷ later)
  last_here p l a later h none =
      elim (left-compare (counts items body a.place) (is_at_or_above a.place l) (is_at_or_above a.place p) (leaves_gone a.how) (λ k. above-trans a.place p l k h)) [
        | inl e ↦ inl (or-none (last_left items body l later) (last_left items body p later) (left_by items body l a) (left_by items body p a) none (last_left-upper p l h later none) e)
        | inr apart ↦ elim (above-compare a.place p l apart.0 h) [
          | inl k ↦ absurd (false≢true (sym apart.1 ∙ k))
          | inr k ↦ inr (
            a,
            (λ test pass. first_so (test a) (list_all test later) pass),
            k,
            or-none (last_left items body l later) (last_left items body a.place later) (left_by items body l a) (left_by items body a.place a) none
                (last_left-upper a.place l apart.0 later none) (own_left l a apart.0),
          )
        ]
      ]

  last_with : (p l : Place) → is_at_or_above p l ≡ true → (actions : List PathAction) → IsLastWith p l actions
  last_with p l h [] = inl refl
  last_with p l h (a ∷ later) =
      let before = last_with p l h later in
      elim (none_or_some (last_left items body l later)) [
        | inl none ↦ last_here p l a later h none
        | inr some ↦ last_later p l a later some.0 some.1 before
      ]

  abbrev tested_at : List PathAction → Place → PathAction → Bool
  tested_at actions p a = not (is_at_or_above p a.place && is_gone_after items body actions a.place)

  whole_below : (actions : List PathAction) (p : Place) → is_whole_after items body actions p ≡ true → (steps : List Step)
      → IsLastWith p (below p steps) actions → is_gone_after items body actions (below p steps) ≡ false
  whole_below actions p h steps (inl e) =
      ap (λ z. unwrap_or z (not (is_param items body p.local))) e
      ∙ not_gone (is_gone_after items body actions p) (first_so (not (is_gone_after items body actions p)) (list_all (tested_at actions p) actions) h)
  whole_below actions p h steps (inr (b, among, above, e)) =
      let test : list_all (tested_at actions p) actions ≡ true = second_so (not (is_gone_after items body actions p)) (list_all (tested_at actions p) actions) h in
      let present : is_gone_after items body actions b.place ≡ false =
      above_gone (is_at_or_above p b.place) (is_gone_after items body actions b.place) (among (tested_at actions p) test) above in
      let same : p.local ≡ b.place.local = sym (ap (λ q. q.local) (above-sound p b.place above).1) in
      ap (λ z. unwrap_or z (not (is_param items body p.local))) e
      ∙ ap (λ n. unwrap_or (last_left items body b.place actions) (not (is_param items body n))) same
      ∙ present

  whole_tested : (actions : List PathAction) (p : Place) → IsWholeAfter items body actions p → is_whole_after items body actions p ≡ true
  whole_tested actions p whole =
      both_true
      (gone_not (is_gone_after items body actions p) (subst (λ q. is_gone_after items body actions q ≡ false) (below-nil p) (whole [])))
      (all_pass (λ a. not (is_at_or_above p a.place && is_gone_after items body actions a.place)) actions
      (λ a. unless_above (is_at_or_above p a.place) (is_gone_after items body actions a.place)
      (λ above. let lower = above-sound p a.place above in
      subst (λ q. is_gone_after items body actions q ≡ false) (sym lower.1) (whole lower.0))))

-- the law
pub wholeness_is_tested : WholenessIsTested
wholeness_is_tested items body actions place = (
  λ h steps. whole_below items body actions place h steps (last_with items body place (below place steps) (above-below place steps) actions),
  whole_tested items body actions place,
)
