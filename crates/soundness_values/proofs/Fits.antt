-- Values that fit what is known of them: each datum is one of its type, and what is gone is known as gone. What is
-- known as wholly present is whole; and a value from which something is taken, or into which something is stored,
-- fits what is known then.
use Rattle.std.proofs.Common.{◌≡◌, ◌≢◌, ℕ, zero, suc, ◌==◌, ◌&&◌, ◌||◌, not, Bool, true, false, Option, Some, None, is_some, if◌then◌else◌, refl, ap, sym, ◌∙◌, subst}
use Rattle.std.specs.Prelude.{slice_get, nat_lt, length}
use Rattle.std.specs.Cmp.{first_so, second_so}
use Rattle.std.specs.Cmp.Derive.{both_true}
use Rattle.std.specs.Option.{option_map_or}
use Rattle.std.proofs.lemmas.Bool.{false≢true}
use Rattle.std.proofs.lemmas.Bool.Decides.{Decides-eqb}
use Rattle.std.proofs.lemmas.Option.{none-some}
use Rattle.mir_base.specs.declared.int_kind.IntKind.{IntKind}
use Rattle.mir_ty.specs.declared.ty.Ty.{Ty}
use Rattle.mir_ty.specs.declared.ty.TyId.{TyId}
use Rattle.mir_ty.specs.ItemTable.{ItemTable, type_at}
use Rattle.store_model.specs.declared.address.At.TheVariants.{Part, Inside}
use Rattle.mir_ty.specs.Parts.{variants_of}
use Rattle.store_model.specs.Values.Datum.{Datum, Data, Gone, Number, Truth, UnitValue, Aggregate, Box, Address, no_part, a_part}
use Rattle.store_model.specs.Concrete.Drops.{drop_impl}
use Rattle.store_model.specs.Places.Place.{Step, ToPart, ToField, ToContent, ToElement, same_step, is_enum, is_reference}
use Rattle.store_model.specs.Values.Access.{part, part_at, with_part_at}
use Rattle.store_model.specs.Abstract.Presence.{Presence, Parts, known, none_named, named, is_present, itself_gone, part_among, presence_at, changed_among, changed_at, all_present, all_parts_present}
use Rattle.store_model.specs.Concrete.Location.{DynamicType, concrete_ty, type_of_part}
use Rattle.store_model.specs.Places.TypeForms.{int_kind, is_bool, is_unit, is_dyn, box_content}
use Rattle.store_model.specs.Values.Wholeness.{is_whole, are_whole}
use Rattle.soundness_values.specs.Typed.{is_aggregate, is_impl_for, number_fits}

module _ (items : ItemTable) where
  abbrev pub is_enum_found : DynamicType → Bool
  is_enum_found found = option_map_or (is_enum items) (concrete_ty items found) false

  -- an enum has such a variant; what is no enum has the variant 0
  abbrev pub variant_exists : Option Ty → ℕ → Bool
  variant_exists (Some (Ty.Adt n)) variant = nat_lt variant (length (variants_of (slice_get items.adts n)))
  variant_exists ty variant = true

  abbrev pub step_if : Bool → ℕ → ℕ → Step
  step_if true variant n = ToField variant n
  step_if false variant n = ToPart n

  -- by which step a part of a value is named
  abbrev pub part_step : DynamicType → ℕ → ℕ → Step
  part_step found variant n = step_if (is_enum_found found) variant n

  abbrev mutual
    pub Fits : DynamicType → Presence → Datum → Type 0
    Fits found p Gone = itself_gone p ≡ true
    Fits found p (Number number) =
        (itself_gone p ≡ false)
        × ((kind : IntKind) × (int_kind (concrete_ty items found) ≡ Some kind) × (number_fits kind number ≡ true))
    Fits found p (Truth truth) = (itself_gone p ≡ false) × (is_bool (concrete_ty items found) ≡ true)
    Fits found p UnitValue = (itself_gone p ≡ false) × (is_unit (concrete_ty items found) ≡ true)
    Fits found p (Aggregate variant serial parts) =
        (itself_gone p ≡ false) × (is_some serial ≡ is_some (drop_impl items (concrete_ty items found)))
        × ((is_aggregate (concrete_ty items found)
        && ((is_enum_found found || variant == 0) && variant_exists (concrete_ty items found) variant)) ≡ true)
        × PartsFit (λ n. type_of_part items (Part n) (Aggregate variant serial no_part) found)
        (λ n. presence_at (part_step found variant n) p) parts
    Fits found p (Box serial impl_no inside) =
        (itself_gone p ≡ false)
        × ((content : TyId) × (box_content (concrete_ty items found) ≡ Some content)
        × (is_some impl_no ≡ is_dyn (type_at items content))
        × (is_impl_for items (type_at items content) impl_no ≡ true))
        × ((f : DynamicType) × (type_of_part items Inside (Box serial impl_no Gone) found ≡ Some f) × Fits f
        (presence_at ToContent p) inside)
    Fits found p (Address address) = (itself_gone p ≡ false) × (is_reference (concrete_ty items found) ≡ true)

    -- as many parts as there are types for them, each of its type
    pub PartsFit : (ℕ → Option DynamicType) → (ℕ → Presence) → Data → Type 0
    PartsFit found_at presence_of no_part = (n : ℕ) → found_at n ≡ None
    PartsFit found_at presence_of (a_part first rest) =
        ((f : DynamicType) × (found_at 0 ≡ Some f) × Fits f (presence_of 0) first) × PartsFit (λ n. found_at (suc n))
        (λ n. presence_of (suc n)) rest

  -- What is wholly present is whole.

  part_present : (o : Presence) → all_present o ≡ true → (s : Step) (parts : Parts) →
      all_parts_present parts ≡ true →
      all_present (part_among s o parts) ≡ true
  part_present o h s none_named k = h
  part_present o h s (named other part rest) k =
      by (same_step s other) (part_present o h s rest (second_so (all_present part) (all_parts_present rest) k))
    where
      by : (c : Bool) → all_present (part_among s o rest) ≡ true →
          all_present (if c then part else part_among s o rest)
          ≡ true
      by true later = first_so (all_present part) (all_parts_present rest) k
      by false later = later

  pub present_below : (s : Step) (p : Presence) → all_present p ≡ true → all_present (presence_at s p) ≡ true
  present_below s (known gone parts) h =
      part_present (known gone none_named) (both_true (first_so (not gone) (all_parts_present parts) h) refl) s parts
      (second_so (not gone) (all_parts_present parts) h)

  not_gone_at_all : (p : Presence) → all_present p ≡ true → itself_gone p ≡ true → ⊥
  not_gone_at_all (known gone parts) h k =
      false≢true (subst (λ g. not g ≡ true) k (first_so (not gone) (all_parts_present parts) h))

  mutual
    pub whole_if_present : (d : Datum) (found : DynamicType) (p : Presence) → all_present p ≡ true → Fits found p d →
        is_whole d ≡ true
    whole_if_present Gone found p h k = absurd (not_gone_at_all p h k)
    whole_if_present (Number number) found p h k = refl
    whole_if_present (Truth truth) found p h k = refl
    whole_if_present UnitValue found p h k = refl
    whole_if_present (Aggregate variant serial parts) found p h k =
        parts_whole parts _ _ (λ n. present_below (part_step found variant n) p h) k.3
    whole_if_present (Box serial impl_no inside) found p h k = whole_if_present inside k.2.0
        (presence_at ToContent p)
        (present_below ToContent p h) k.2.2
    whole_if_present (Address address) found p h k = refl

    parts_whole : (parts : Data) (found_at : ℕ → Option DynamicType) (presence_of : ℕ → Presence) →
        ((n : ℕ) → all_present (presence_of n) ≡ true) → PartsFit found_at presence_of parts → are_whole parts ≡ true
    parts_whole no_part found_at presence_of h k = refl
    parts_whole (a_part first rest) found_at presence_of h k =
        both_true (whole_if_present first k.0.0 (presence_of 0) (h 0) k.0.2)
        (parts_whole rest (λ n. found_at (suc n)) (λ n. presence_of (suc n)) (λ n. h (suc n)) k.1)

  -- What is whole fits what is wholly present.
  mutual
    pub present_if_whole : (d : Datum) (found : DynamicType) (p : Presence) → is_whole d ≡ true → Fits found p d →
        Fits found is_present d
    present_if_whole Gone found p h k = absurd (false≢true h)
    present_if_whole (Number number) found p h k = (refl, k.1)
    present_if_whole (Truth truth) found p h k = (refl, k.1)
    present_if_whole UnitValue found p h k = (refl, k.1)
    present_if_whole (Aggregate variant serial parts) found p h k = (refl, k.1, k.2, parts_present parts _ _ h k.3)
    present_if_whole (Box serial impl_no inside) found p h k =
        (refl, k.1, (k.2.0, k.2.1, present_if_whole inside k.2.0 (presence_at ToContent p) h k.2.2))
    present_if_whole (Address address) found p h k = (refl, k.1)

    parts_present : (parts : Data) (found_at : ℕ → Option DynamicType) (presence_of : ℕ → Presence) →
        are_whole parts ≡ true → PartsFit found_at presence_of parts → PartsFit found_at (λ n. is_present) parts
    parts_present no_part found_at presence_of h k = k
    parts_present (a_part first rest) found_at presence_of h k = (
      (
        k.0.0,
        k.0.1,
        present_if_whole first k.0.0 (presence_of 0) (first_so (is_whole first) (are_whole rest) h)
            k.0.2,
      ),
      parts_present rest (λ n. found_at (suc n)) (λ n. presence_of (suc n))
          (second_so (is_whole first) (are_whole rest) h) k.1,
    )

  -- What is known of a part, after another was changed.

  same_number : (n m : ℕ) → (n == m) ≡ true → n ≡ m
  same_number n m h = (Decides-eqb n m).0 h

  pub same_itself : (n : ℕ) → (n == n) ≡ true
  same_itself n = (Decides-eqb n n).1 refl

  other_number : (n m : ℕ) → n ≢ m → (n == m) ≡ false
  other_number n m h = by (n == m) refl
    where
      by : (b : Bool) → (n == m) ≡ b → b ≡ false
      by false e = refl
      by true e = absurd (h (same_number n m e))

  pub step_itself : (b : Bool) (variant n : ℕ) → same_step (step_if b variant n) (step_if b variant n) ≡ true
  step_itself true variant n = both_true (same_itself variant) (same_itself n)
  step_itself false variant n = same_itself n

  step_other : (b : Bool) (variant n m : ℕ) → n ≢ m → same_step (step_if b variant n) (step_if b variant m) ≡ false
  step_other true variant n m h = ap (λ c. (variant == variant) && c) (other_number n m h)
      ∙ and_false (variant == variant)
    where
      and_false : (b : Bool) → (b && false) ≡ false
      and_false true = refl
      and_false false = refl
  step_other false variant n m h = other_number n m h

  -- two steps lead apart
  pub record StepIsNot (s t : Step) : Type 0 where
    pub apart : same_step s t ≡ false
    pub differ : (other : Step) → same_step s other ≡ true → same_step t other ≡ true → ⊥

  changed_same : (s : Step) (change : Presence → Presence) (o : Presence) (parts : Parts) → same_step s s ≡ true →
      part_among s o (changed_among s change o parts) ≡ change (part_among s o parts)
  changed_same s change o none_named h = if_so (same_step s s) h
    where
      if_so : (b : Bool) → b ≡ true → (if b then change o else o) ≡ change o
      if_so true e = refl
      if_so false e = absurd (false≢true e)
  changed_same s change o (named other part rest) h = by (same_step s other) refl (changed_same s change o rest h)
    where
      at_other : (b : Bool) → same_step s other ≡ b → part_among s o (named other (change part) rest)
          ≡ (if b then change part else part_among s o rest)
      at_other b e = ap (λ c. if c then change part else part_among s o rest) e

      past_other : same_step s other ≡ false → part_among s o (named other part (changed_among s change o rest))
          ≡ part_among s o (changed_among s change o rest)
      past_other e = ap (λ c. if c then part else part_among s o (changed_among s change o rest)) e

      by : (b : Bool) → same_step s other ≡ b → part_among s o (changed_among s change o rest) ≡ change
          (part_among s o rest) →
          part_among s o (if b then named other (change part) rest else named other part
          (changed_among s change o rest)) ≡ change (if b then part else part_among s o rest)
      by true e later = at_other true e
      by false e later = past_other e ∙ later

  changed_other : (s t : Step) (change : Presence → Presence) (o : Presence) (parts : Parts) → StepIsNot s t →
      part_among s o (changed_among t change o parts) ≡ part_among s o parts
  changed_other s t change o none_named h = ap (λ b. if b then change o else o) h.apart
  changed_other s t change o (named other part rest) h = by (same_step t other) refl
      (changed_other s t change o rest h)
    where
      other_is : same_step t other ≡ true → same_step s other ≡ false
      other_is e = no (same_step s other) refl
        where
          no : (b : Bool) → same_step s other ≡ b → b ≡ false
          no false k = refl
          no true k = absurd (h.differ other k e)

      by : (b : Bool) → same_step t other ≡ b → part_among s o (changed_among t change o rest)
          ≡ part_among s o rest →
          part_among s o (if b then named other (change part) rest else named other part
          (changed_among t change o rest)) ≡ (if same_step s other then part else part_among s o rest)
      by true e later = ap (λ c. if c then change part else part_among s o rest) (other_is e)
          ∙ sym (ap (λ c. if c then part else part_among s o rest) (other_is e))
      by false e later = ap (λ x. if same_step s other then part else x) later

  pub known_same : (s : Step) (change : Presence → Presence) (p : Presence) → same_step s s ≡ true →
      presence_at s (changed_at s change p) ≡ change (presence_at s p)
  known_same s change (known gone parts) h = changed_same s change (known gone none_named) parts h

  pub known_other : (s t : Step) (change : Presence → Presence) (p : Presence) → StepIsNot s t →
      presence_at s (changed_at t change p) ≡ presence_at s p
  known_other s t change (known gone parts) h = changed_other s t change (known gone none_named) parts h

  pub itself_same : (t : Step) (change : Presence → Presence) (p : Presence) →
      itself_gone (changed_at t change p) ≡ itself_gone p
  itself_same t change (known gone parts) = refl

  pub parts_apart : (b : Bool) (variant n m : ℕ) → n ≢ m → StepIsNot (step_if b variant n) (step_if b variant m)
  parts_apart b variant n m h = record { apart = step_other b variant n m h; differ = differs b }
    where
      differs : (b : Bool) (other : Step) → same_step (step_if b variant n) other ≡ true →
          same_step (step_if b variant m) other ≡ true → ⊥
      differs true (ToPart k) e d = false≢true e
      differs true (ToField u k) e d =
          h (same_number n k (second_so (variant == u) (n == k) e)
          ∙ sym (same_number m k (second_so (variant == u) (m == k) d)))
      differs true ToContent e d = false≢true e
      differs true (ToElement k) e d = false≢true e
      differs false (ToPart k) e d = h (same_number n k e ∙ sym (same_number m k d))
      differs false (ToField u k) e d = false≢true e
      differs false ToContent e d = false≢true e
      differs false (ToElement k) e d = false≢true e

  -- Parts by their numbers.

  pub part_fits : (parts : Data) (found_at : ℕ → Option DynamicType) (presence_of : ℕ → Presence) (n : ℕ)
      (inner : Datum) → PartsFit found_at presence_of parts → part_at n parts ≡ Some inner →
      (f : DynamicType) × (found_at n ≡ Some f) × Fits f (presence_of n) inner
  part_fits no_part found_at presence_of n inner k e = absurd (none-some inner e)
  part_fits (a_part first rest) found_at presence_of zero inner k e =
      (k.0.0, k.0.1, subst (λ d. Fits k.0.0 (presence_of 0) d) (let same : first ≡ inner = cc in same) k.0.2)
  part_fits (a_part first rest) found_at presence_of (suc n) inner k e = part_fits rest (λ n. found_at (suc n))
      (λ n. presence_of (suc n)) n inner k.1 e

  pub part_there : (parts : Data) (found_at : ℕ → Option DynamicType) (presence_of : ℕ → Presence) (n : ℕ)
      (f : DynamicType) → PartsFit found_at presence_of parts → found_at n ≡ Some f →
      (inner : Datum) × (part_at n parts ≡ Some inner)
  part_there no_part found_at presence_of n f k e = absurd (none-some f (sym (k n) ∙ e))
  part_there (a_part first rest) found_at presence_of zero f k e = (first, refl)
  part_there (a_part first rest) found_at presence_of (suc n) f k e = part_there rest (λ n. found_at (suc n))
      (λ n. presence_of (suc n)) n f k.1 e

  parts_alike : (parts : Data) (found_at : ℕ → Option DynamicType) (a b : ℕ → Presence) → ((n : ℕ) → b n ≡ a n) →
      PartsFit found_at a parts → PartsFit found_at b parts
  parts_alike no_part found_at a b h k = k
  parts_alike (a_part first rest) found_at a b h k = (
    (k.0.0, k.0.1, subst (λ p. Fits k.0.0 p first) (sym (h 0)) k.0.2),
    parts_alike rest (λ n. found_at (suc n))
        (λ n. a (suc n)) (λ n. b (suc n)) (λ n. h (suc n)) k.1,
  )

  -- one part is another one, and of the others the same is known as before
  pub with_part_fits : (parts : Data) (found_at : ℕ → Option DynamicType) (a b : ℕ → Presence) (n : ℕ) (new : Datum)
      (f : DynamicType) → PartsFit found_at a parts → found_at n ≡ Some f →
      Fits f (b n) new → ((m : ℕ) → m ≢ n → b m ≡ a m) → PartsFit found_at b (with_part_at n new parts)
  with_part_fits no_part found_at a b n new f k e fit same = k
  with_part_fits (a_part first rest) found_at a b zero new f k e fit same = (
    (f, e, fit),
    parts_alike rest (λ n. found_at (suc n)) (λ n. a (suc n)) (λ n. b (suc n))
        (λ n. same (suc n) (λ z. absurd (let never : ⊥ = cc in never))) k.1,
  )
  with_part_fits (a_part first rest) found_at a b (suc n) new f k e fit same = (
    (k.0.0, k.0.1, subst (λ p. Fits k.0.0 p first) (sym (same 0 (λ z. absurd (let never : ⊥ = cc in never)))) k.0.2),
    with_part_fits rest (λ n. found_at (suc n)) (λ n. a (suc n)) (λ n. b (suc n)) n new f k.1 e fit
        (λ m h. same (suc m) (λ z. h (let down : m ≡ n = cc in down))),
  )
