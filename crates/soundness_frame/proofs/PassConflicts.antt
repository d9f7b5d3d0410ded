-- Where nothing conflicts among arguments, what a reference names lies apart from what later references name, if one of
-- the two is `&mut`, and from all that later arguments change; and from all that they do, if it is an explicit `&mut`.
use Rattle.std.proofs.Common.{◌≡◌, ◌&&◌, ◌||◌, not, Bool, true, false, List, [], ◌∷◌, ◌++◌, Option, Some, None, if◌then◌else◌, refl, ap, sym, ◌∙◌, subst}
use Rattle.std.specs.List.{filter_map, cons_option}
use Rattle.std.proofs.lemmas.Bool.{false≢true}
use Rattle.mir_base.specs.declared.place_in_text.Pos.{Pos}
use Rattle.typing_rules.specs.Accesses.{AccessPlace, Accessed, Argument, Referring, overlap, overlap_if_any, overlap_together, is_against, against, against_one, against_all, at_if, changes, conflicts_among}
use Rattle.soundness_frame.proofs.PassTold.{no_append}

-- what holds of each of some accesses, of each of some arguments
abbrev pub EachAccess : (Accessed → Type 0) → List Accessed → Type 0
EachAccess P [] = Unit {0}
EachAccess P (a ∷ as_) = P a × EachAccess P as_

abbrev pub EachArgument : (Argument → Type 0) → List Argument → Type 0
EachArgument P [] = Unit {0}
EachArgument P (a ∷ as_) = P a × EachArgument P as_

some_at : (b : Bool) (at : Pos) → at_if b at ≡ [] → b ≡ false
some_at false at e = refl
some_at true at e = absurd (false≢true (sym (ap has e)))
  where
    has : List Pos → Bool
    has [] = false
    has (x ∷ xs) = true

none_there : (o : Option Pos) (rest : List Pos) → cons_option o rest ≡ [] → (o ≡ None) × (rest ≡ [])
none_there None rest e = (refl, e)
none_there (Some at) rest e = absurd (false≢true (sym (ap has e)))
  where
    has : List Pos → Bool
    has [] = false
    has (x ∷ xs) = true

-- no access goes against a reference
none_against : (allows_none : Bool) (place : Option AccessPlace) (as_ : List Accessed) →
    filter_map (against allows_none place) as_ ≡ [] →
    EachAccess (λ a. is_against allows_none place a ≡ false) as_
none_against allows_none place [] e = tt
none_against allows_none place (a ∷ as_) e =
    let n = none_there (against allows_none place a) (filter_map (against allows_none place) as_) e in
    (by (is_against allows_none place a) n.0, none_against allows_none place as_ n.1)
  where
    by : (b : Bool) → (if b then Some a.at else None) ≡ None → b ≡ false
    by false k = refl
    by true k = absurd (let never : ⊥ = cc in never)

-- so much of a reference and a later argument
pub record Apart (is_receiver : Bool) (r : Referring) (later : Argument) : Type 0 where
  pub together : overlap_together r later.refers ≡ false
  pub accesses : EachAccess (λ a. is_against (r.unique && not is_receiver) r.place a ≡ false) later.told.accesses

one_apart : (is_receiver : Bool) (r : Referring) (later : Argument) → against_one is_receiver r later ≡ [] →
    Apart is_receiver r later
one_apart is_receiver r later e =
    let n = no_append (at_if (overlap_together r later.refers) later.at)
    (filter_map (against (r.unique && not is_receiver) r.place) later.told.accesses) e in
    record {
      together = some_at (overlap_together r later.refers) later.at n.0;
      accesses = none_against (r.unique && not is_receiver) r.place later.told.accesses n.1;
    }

all_apart : (is_receiver : Bool) (r : Referring) (as_ : List Argument) → against_all is_receiver (Some r) as_ ≡ [] →
    EachArgument (Apart is_receiver r) as_
all_apart is_receiver r [] e = tt
all_apart is_receiver r (a ∷ as_) e =
    let n = no_append (against_one is_receiver r a) (against_all is_receiver (Some r) as_) e in
    (one_apart is_receiver r a n.0, all_apart is_receiver r as_ n.1)

-- of the first of some arguments, and of those behind it
pub first_apart : (a : Argument) (as_ : List Argument) (r : Referring) → conflicts_among (a ∷ as_) ≡ [] →
    a.refers ≡ Some r → EachArgument (Apart a.is_receiver r) as_
first_apart a as_ r e refers = all_apart a.is_receiver r as_
    (subst (λ o. against_all a.is_receiver o as_ ≡ []) refers
    (no_append (against_all a.is_receiver a.refers as_) (conflicts_among as_) e).0)

pub rest_apart : (a : Argument) (as_ : List Argument) → conflicts_among (a ∷ as_) ≡ [] → conflicts_among as_ ≡ []
rest_apart a as_ e = (no_append (against_all a.is_receiver a.refers as_) (conflicts_among as_) e).1

-- two places that are compared
pub two_apart : (r s : Referring) (a b : AccessPlace) → overlap_together r (Some s) ≡ false → r.place ≡ Some a →
    s.place ≡ Some b → (r.unique || s.unique) ≡ true → overlap a b ≡ false
two_apart r s a b e p q u =
    ap (λ o. overlap_if_any o (Some b)) (sym p) ∙ ap (overlap_if_any r.place) (sym q)
    ∙ ap (λ c. c && overlap_if_any r.place s.place) (sym u) ∙ e

-- what is changed
pub change_apart : (allows_none : Bool) (place : Option AccessPlace) (x : Accessed) (a b : AccessPlace) →
    is_against allows_none place x ≡ false → place ≡ Some a → x.place ≡ Some b → changes x.access ≡ true →
    overlap a b ≡ false
change_apart allows_none place x a b e p q c =
    ap (λ o. overlap_if_any o (Some b)) (sym p) ∙ ap (overlap_if_any place) (sym q)
    ∙ ap (λ d. d && overlap_if_any place x.place) (sym (either allows_none c)) ∙ e
  where
    either : {c : Bool} (b : Bool) → c ≡ true → (b || c) ≡ true
    either true k = refl
    either false k = k
