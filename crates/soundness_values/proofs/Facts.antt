-- What a checked run knows beside what is present: which locals hold the number of an element that is there, which
-- variants stand at places, what the references that were made name, and the place that was dropped and gets a value
-- at once. A change at a place takes away what is known of it.
use Rattle.std.proofs.Common.{◌≡◌, ◌≢◌, inl, inr, ℕ, ◌==◌, ◌&&◌, ◌||◌, not, Bool, true, false, List, [], ◌∷◌, ◌++◌, filter, Option, Some, None, if◌then◌else◌, refl, ap, sym, ◌∙◌, subst}
use Rattle.std.specs.Prelude.{option_and_then}
use Rattle.std.specs.List.{list_any}
use Rattle.std.specs.Option.{option_map_or}
use Rattle.std.specs.Cmp.Lexicographic.{pointwise}
use Rattle.std.proofs.lemmas.Bool.{false≢true}
use Rattle.std.proofs.lemmas.Bool.Decides.{Decides-eqb}
use Rattle.std.proofs.lemmas.Option.{none-some}
use Rattle.store_model.proofs.Values.Access.{none_or_some, value_at-step, replaced-step, replaced-no_step, part-replaced}
use Rattle.store_model.proofs.Values.OnePart.{part-with_part_other}
use Rattle.store_model.specs.declared.address.At.{At}
use Rattle.store_model.specs.declared.address.At.TheVariants.{Part, Inside}
use Rattle.store_model.specs.Values.Datum.{Datum, Data, Aggregate}
use Rattle.store_model.specs.Values.Access.{part, part_at, with_part, with_part_at, value_at, replaced}
use Rattle.store_model.specs.Places.Place.{Step, ToPart, ToField, ToContent, ToElement, Place, same_step}
use Rattle.store_model.specs.Concrete.State.{Cells, cell}
use Rattle.soundness_values.proofs.Along.{number_in, path_at}

-- a local that holds a reference, whether it is `&mut`, and the place that it names
pub record Naming : Type 0 where
  pub local : ℕ
  pub unique : Bool
  pub place : Place

pub record Facts : Type 0 where
  pub bounded : List (ℕ × ℕ)  -- a local holds a number below this one
  pub variants : List (Place × ℕ)  -- a value of this variant stands there
  pub naming : List Naming
  pub refilled : Option Place

abbrev pub no_facts : Facts
no_facts = record { bounded = []; variants = []; naming = []; refilled = None }

-- ---- what a change at a place takes away

abbrev pub takes_index : ℕ → List Step → Bool
takes_index local [] = false
takes_index local (ToElement i ∷ steps) = i == local || takes_index local steps
takes_index local (step ∷ steps) = takes_index local steps

-- what is stored at the first may lie at or above the second; an index may lead to any element
abbrev pub hits : List Step → List Step → Bool
hits [] steps = true
hits (ToElement i ∷ rest) steps = true
hits (step ∷ rest) [] = false
hits (step ∷ rest) (ToElement i ∷ steps) = true
hits (ToPart n ∷ rest) (ToPart m ∷ steps) = n == m && hits rest steps
hits (ToPart n ∷ rest) (ToField v m ∷ steps) = n == m && hits rest steps
hits (ToPart n ∷ rest) (ToContent ∷ steps) = false
hits (ToField u n ∷ rest) (ToPart m ∷ steps) = n == m && hits rest steps
hits (ToField u n ∷ rest) (ToField v m ∷ steps) = n == m && hits rest steps
hits (ToField u n ∷ rest) (ToContent ∷ steps) = false
hits (ToContent ∷ rest) (ToPart m ∷ steps) = false
hits (ToContent ∷ rest) (ToField v m ∷ steps) = false
hits (ToContent ∷ rest) (ToContent ∷ steps) = hits rest steps

-- what is known of a place is so still after a change at another
abbrev pub stays : Place → Place → Bool
stays changed place = not (changed.local == place.local && hits changed.steps place.steps) && not
    (takes_index changed.local place.steps)

abbrev pub without : Place → Facts → Facts
without changed facts = record {
  bounded = filter (λ b. not (b.0 == changed.local)) facts.bounded;
  variants = filter (λ v. stays changed v.0) facts.variants;
  naming = filter (λ n. not (n.local == changed.local) && not (takes_index changed.local n.place.steps))
      facts.naming;
  refilled = facts.refilled;
}

-- ---- questions

abbrev pub same_place : Place → Place → Bool
same_place a b = a.local == b.local && pointwise same_step a.steps b.steps

abbrev pub bounded_by : Facts → ℕ → ℕ → Bool
bounded_by facts i count = list_any (λ b. b.0 == i && b.1 == count) facts.bounded

-- of the steps behind some first ones of a local
abbrev pub variant_at : Facts → ℕ → List Step → List Step → ℕ → Bool
variant_at facts local first so_far variant =
    list_any (λ v. same_place v.0 (record { local = local; steps = first ++ so_far }) && v.1 == variant)
    facts.variants

-- ---- all of a list

abbrev pub Each : {A : Type 0} → (A → Type 0) → List A → Type 0
Each holds [] = Unit {0}
Each holds (a ∷ list) = holds a × Each holds list

pub each_kept : {A : Type 0} (holds more : A → Type 0) (keep : A → Bool) (list : List A) →
    ((a : A) → keep a ≡ true → holds a → more a) → Each holds list → Each more (filter keep list)
each_kept holds more keep [] f h = tt
each_kept holds more keep (a ∷ list) f h = by (keep a) refl (each_kept holds more keep list f h.1)
  where
    by : (b : Bool) → keep a ≡ b → Each more (filter keep list) →
        Each more (if b then a ∷ filter keep list else filter keep list)
    by true e later = (f a e h.0, later)
    by false e later = later

pub each_more : {A : Type 0} (holds more : A → Type 0) (list : List A) → ((a : A) → holds a → more a) →
    Each holds list → Each more list
each_more holds more [] f h = tt
each_more holds more (a ∷ list) f h = (f a h.0, each_more holds more list f h.1)

-- one of which a test holds
pub found_among : {A : Type 0} (holds : A → Type 0) (test : A → Bool) (list : List A) → list_any test list ≡ true →
    Each holds list → (a : A) × ((test a ≡ true) × holds a)
found_among holds test [] e h = absurd (false≢true e)
found_among {A = A} holds test (a ∷ list) e h = by (test a) refl e (λ k. found_among holds test list k h.1)
  where
    by : (b : Bool) → test a ≡ b → (b || list_any test list) ≡ true →
        (list_any test list ≡ true → (a : A) × ((test a ≡ true) × holds a)) → (a : A) × ((test a ≡ true) × holds a)
    by true k e later = (a, (k, h.0))
    by false k e later = later e

-- ---- a variant stays where nothing at or above it is changed

step_apart : (one other : At) (below : List At) (new root : Datum) → one ≢ other →
    part other (replaced (one ∷ below) new root) ≡ part other root
step_apart one other below new root differ = elim (none_or_some (part one root)) [
  | inl none ↦ ap (part other) (replaced-no_step one below new root none)
  | inr some ↦ ap (part other) (replaced-step one below new root some.0 some.1) ∙ part-with_part_other one other
      (replaced below new some.0) root differ
]

-- a value of a variant stands at the end of a path
pub record OfVariant (variant : ℕ) (path : List At) (root : Datum) : Type 0 where
  pub serial : Option ℕ
  pub parts : Data
  pub there : value_at path root ≡ Some (Aggregate variant serial parts)

below_head : (variant : ℕ) (serial : Option ℕ) (parts : Data) (step : At) (below : List At) (new : Datum) →
    OfVariant variant [] (replaced (step ∷ below) new (Aggregate variant serial parts))
below_head variant serial parts Inside below new = record { serial = serial; parts = parts; there = refl }
below_head variant serial parts (Part n) below new = by (part_at n parts)
  where
    by : (o : Option Datum) →
        OfVariant variant []
        (option_map_or (λ x. with_part (Part n) (replaced below new x) (Aggregate variant serial parts)) o
        (Aggregate variant serial parts))
    by None = record { serial = serial; parts = parts; there = refl }
    by (Some x) = record { serial = serial; parts = with_part_at n (replaced below new x) parts; there = refl }

part_on_path : (step : At) (path : List At) (root d : Datum) → value_at (step ∷ path) root ≡ Some d →
    (inner : Datum) × ((part step root ≡ Some inner) × (value_at path inner ≡ Some d))
part_on_path step path root d e = elim (none_or_some (part step root)) [
  | inl none ↦ absurd (none-some d (sym (ap (option_and_then (value_at path)) none) ∙ e))
  | inr some ↦ (some.0, (some.1, sym (value_at-step step path root some.0 some.1) ∙ e))
]

and_false : (a b : Bool) → (a && b) ≡ false → a ≡ true → b ≡ false
and_false true b h e = h
and_false false b h e = absurd (false≢true e)

module _ (cells : Cells) (new : Datum) where
  -- behind one step, which is the same
  same_head : (variant : ℕ) (step : At) (below path : List At) (root : Datum) →
      ((inner : Datum) → OfVariant variant path inner → OfVariant variant path (replaced below new inner)) →
      OfVariant variant (step ∷ path) root → OfVariant variant (step ∷ path) (replaced (step ∷ below) new root)
  same_head variant step below path root later v =
      let p = part_on_path step path root (Aggregate variant v.serial v.parts) v.there in
      let l = later p.0 (record { serial = v.serial; parts = v.parts; there = p.1.1 }) in
      record {
        serial = l.serial;
        parts = l.parts;
        there = value_at-step step path (replaced (step ∷ below) new root)
            (replaced below new p.0) (part-replaced step below new root p.0 p.1.0) ∙ l.there;
      }

  other_head : (variant : ℕ) (one other : At) (below path : List At) (root : Datum) → one ≢ other →
      OfVariant variant (other ∷ path) root → OfVariant variant (other ∷ path) (replaced (one ∷ below) new root)
  other_head variant one other below path root differ v =
      record {
        serial = v.serial;
        parts = v.parts;
        there = ap (option_and_then (value_at path))
            (step_apart one other below new root differ) ∙ v.there;
      }

  abbrev is_inside : At → Bool
  is_inside (Part k) = false
  is_inside Inside = true

  abbrev number_of : At → ℕ
  number_of (Part k) = k
  number_of Inside = 0

  two_parts : (variant n m : ℕ) (below path : List At) (root : Datum) (rest : Bool) → ((n == m) && rest) ≡ false →
      (rest ≡ false → (inner : Datum) → OfVariant variant path inner →
      OfVariant variant path (replaced below new inner)) →
      OfVariant variant (Part m ∷ path) root → OfVariant variant (Part m ∷ path) (replaced (Part n ∷ below) new root)
  two_parts variant n m below path root rest h later v = by (n == m) refl h
    where
      by : (b : Bool) → (n == m) ≡ b → (b && rest) ≡ false → OfVariant variant (Part m ∷ path)
          (replaced (Part n ∷ below) new root)
      by true e h = subst (λ k. OfVariant variant (Part m ∷ path) (replaced (Part k ∷ below) new root))
          (sym ((Decides-eqb n m).0 e)) (same_head variant (Part m) below path root (later h) v)
      by false e h = other_head variant (Part n) (Part m) below path root
          (λ same. false≢true (sym e ∙ (Decides-eqb n m).1 (ap number_of same))) v

  part_and_content : (variant n : ℕ) (below path : List At) (root : Datum) → OfVariant variant (Inside ∷ path) root →
      OfVariant variant (Inside ∷ path) (replaced (Part n ∷ below) new root)
  part_and_content variant n below path root v = other_head variant (Part n) Inside below path root
      (λ same. false≢true (ap is_inside same)) v

  content_and_part : (variant n : ℕ) (below path : List At) (root : Datum) → OfVariant variant (Part n ∷ path) root →
      OfVariant variant (Part n ∷ path) (replaced (Inside ∷ below) new root)
  content_and_part variant n below path root v = other_head variant Inside (Part n) below path root
      (λ same. false≢true (sym (ap is_inside same))) v

  at_root : (variant : ℕ) (step : At) (below : List At) (root : Datum) → OfVariant variant [] root →
      OfVariant variant [] (replaced (step ∷ below) new root)
  at_root variant step below root v =
      let same : root ≡ Aggregate variant v.serial v.parts = some_same v.there in
      subst (λ r. OfVariant variant [] (replaced (step ∷ below) new r)) (sym same)
      (below_head variant v.serial v.parts step below new)
    where
      some_same : {a b : Datum} → Some a ≡ Some b → a ≡ b
      some_same e = cc

  pub variant_stays : (changed steps : List Step) (variant : ℕ) (root : Datum) → hits changed steps ≡ false →
      OfVariant variant (path_at cells steps) root →
      OfVariant variant (path_at cells steps) (replaced (path_at cells changed) new root)
  variant_stays [] steps variant root h v = absurd (false≢true (sym h))
  variant_stays (ToElement i ∷ rest) steps variant root h v = absurd (false≢true (sym h))
  variant_stays (ToPart n ∷ rest) [] variant root h v = at_root variant (Part n) (path_at cells rest) root v
  variant_stays (ToField u n ∷ rest) [] variant root h v = at_root variant (Part n) (path_at cells rest) root v
  variant_stays (ToContent ∷ rest) [] variant root h v = at_root variant Inside (path_at cells rest) root v
  variant_stays (ToPart n ∷ rest) (ToElement i ∷ steps) variant root h v = absurd (false≢true (sym h))
  variant_stays (ToField u n ∷ rest) (ToElement i ∷ steps) variant root h v = absurd (false≢true (sym h))
  variant_stays (ToContent ∷ rest) (ToElement i ∷ steps) variant root h v = absurd (false≢true (sym h))
  variant_stays (ToPart n ∷ rest) (ToPart m ∷ steps) variant root h v =
      two_parts variant n m (path_at cells rest) (path_at cells steps) root (hits rest steps) h
      (λ e inner. variant_stays rest steps variant inner e) v
  variant_stays (ToPart n ∷ rest) (ToField w m ∷ steps) variant root h v =
      two_parts variant n m (path_at cells rest) (path_at cells steps) root (hits rest steps) h
      (λ e inner. variant_stays rest steps variant inner e) v
  variant_stays (ToField u n ∷ rest) (ToPart m ∷ steps) variant root h v =
      two_parts variant n m (path_at cells rest) (path_at cells steps) root (hits rest steps) h
      (λ e inner. variant_stays rest steps variant inner e) v
  variant_stays (ToField u n ∷ rest) (ToField w m ∷ steps) variant root h v =
      two_parts variant n m (path_at cells rest) (path_at cells steps) root (hits rest steps) h
      (λ e inner. variant_stays rest steps variant inner e) v
  variant_stays (ToPart n ∷ rest) (ToContent ∷ steps) variant root h v =
      part_and_content variant n (path_at cells rest)
      (path_at cells steps) root v
  variant_stays (ToField u n ∷ rest) (ToContent ∷ steps) variant root h v =
      part_and_content variant n (path_at cells rest) (path_at cells steps) root v
  variant_stays (ToContent ∷ rest) (ToPart m ∷ steps) variant root h v =
      content_and_part variant m (path_at cells rest)
      (path_at cells steps) root v
  variant_stays (ToContent ∷ rest) (ToField w m ∷ steps) variant root h v =
      content_and_part variant m (path_at cells rest) (path_at cells steps) root v
  variant_stays (ToContent ∷ rest) (ToContent ∷ steps) variant root h v =
      same_head variant Inside (path_at cells rest) (path_at cells steps) root
      (λ inner. variant_stays rest steps variant inner h) v

-- ---- paths where a local has changed that is no index

pub path_kept : (local : ℕ) (a b : Cells) (steps : List Step) → takes_index local steps ≡ false →
    ((key : ℕ) → (key == local) ≡ false → cell key a ≡ cell key b) → path_at a steps ≡ path_at b steps
path_kept local a b [] h same = refl
path_kept local a b (ToPart n ∷ steps) h same = ap (λ p. Part n ∷ p) (path_kept local a b steps h same)
path_kept local a b (ToField v n ∷ steps) h same = ap (λ p. Part n ∷ p) (path_kept local a b steps h same)
path_kept local a b (ToContent ∷ steps) h same = ap (λ p. Inside ∷ p) (path_kept local a b steps h same)
path_kept local a b (ToElement i ∷ steps) h same =
    let e = or_false (i == local) (takes_index local steps) h in
    ap (λ d. at_number d ∷ path_at a steps) (same i e.0) ∙ ap (λ p. at_number (cell i b) ∷ p)
    (path_kept local a b steps e.1 same)
  where
    or_false : (x y : Bool) → (x || y) ≡ false → (x ≡ false) × (y ≡ false)
    or_false true y h = absurd (false≢true (sym h))
    or_false false y h = (refl, h)

    at_number : Datum → At
    at_number d = Part (number_in d)

pub path_same : (a b : Cells) (steps : List Step) → ((key : ℕ) → cell key a ≡ cell key b) →
    path_at a steps ≡ path_at b steps
path_same a b [] same = refl
path_same a b (ToPart n ∷ steps) same = ap (λ p. Part n ∷ p) (path_same a b steps same)
path_same a b (ToField v n ∷ steps) same = ap (λ p. Part n ∷ p) (path_same a b steps same)
path_same a b (ToContent ∷ steps) same = ap (λ p. Inside ∷ p) (path_same a b steps same)
path_same a b (ToElement i ∷ steps) same = ap (λ d. at_number d ∷ path_at a steps) (same i)
    ∙ ap (λ p. at_number (cell i b) ∷ p) (path_same a b steps same)
  where
    at_number : Datum → At
    at_number d = Part (number_in d)

-- ---- changes in either order

filter_swapped : {A : Type 0} (p q : A → Bool) (list : List A) → filter p (filter q list) ≡ filter q (filter p list)
filter_swapped p q [] = refl
filter_swapped {A} p q (a ∷ list) = by (p a) refl (q a) refl (filter_swapped p q list)
  where
    by : (b : Bool) → p a ≡ b → (c : Bool) → q a ≡ c → filter p (filter q list) ≡ filter q (filter p list) →
        filter p (if c then a ∷ filter q list else filter q list) ≡ filter q (if b then a ∷ filter p list else filter p
        list)
    by true e true k later = ap (λ b. if b then a ∷ filter p (filter q list) else filter p (filter q list)) e
        ∙ ap (λ l. a ∷ l) later
        ∙ sym (ap (λ b. if b then a ∷ filter q (filter p list) else filter q (filter p list)) k)
    by true e false k later = later
        ∙ sym (ap (λ b. if b then a ∷ filter q (filter p list) else filter q (filter p list)) k)
    by false e true k later = ap (λ b. if b then a ∷ filter p (filter q list) else filter p (filter q list)) e ∙ later
    by false e false k later = later

pub without_swapped : (a b : Place) (facts : Facts) → without a (without b facts) ≡ without b (without a facts)
without_swapped a b facts =
    ap (λ l. record {
      bounded = l;
      variants = (without a (without b facts)).variants;
      naming = (without a (without b facts)).naming;
      refilled = facts.refilled;
    }) (filter_swapped (λ (x : ℕ × ℕ). not (x.0 == a.local)) (λ (x : ℕ × ℕ). not (x.0 == b.local)) facts.bounded)
    ∙ ap (λ l. record {
      bounded = (without b (without a facts)).bounded;
      variants = l;
      naming = (without a (without b facts)).naming;
      refilled = facts.refilled;
    }) (filter_swapped (λ (x : Place × ℕ). stays a x.0) (λ (x : Place × ℕ). stays b x.0) facts.variants)
    ∙ ap (λ l. record {
      bounded = (without b (without a facts)).bounded;
      variants = (without b (without a facts)).variants;
      naming = l;
      refilled = facts.refilled;
    }) (filter_swapped (λ (n : Naming). not (n.local == a.local) && not (takes_index a.local n.place.steps))
    (λ (n : Naming). not (n.local == b.local) && not (takes_index b.local n.place.steps)) facts.naming)
