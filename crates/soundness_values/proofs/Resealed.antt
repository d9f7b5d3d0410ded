-- A value in which nothing is half taken from a value with a `Drop` impl stays so where a whole value is stored in
-- it, and where something is taken of which no container has such an impl.
use Rattle.std.proofs.Common.{◌≡◌, ◌⊎◌, inl, inr, ℕ, zero, suc, ◌&&◌, not, Bool, true, false, List, [], ◌∷◌, Option, Some, None, is_some, refl, ap, sym, ◌∙◌, subst}
use Rattle.std.proofs.lemmas.Bool.{false≢true}
use Rattle.store_model.proofs.Values.Access.{none_or_some, replaced-step, replaced-no_step}
use Rattle.store_model.specs.declared.address.At.{At}
use Rattle.store_model.specs.declared.address.At.TheVariants.{Part, Inside}
use Rattle.store_model.specs.Values.Datum.{Datum, Data, Gone, Number, Truth, UnitValue, Aggregate, Box, Address, no_part, a_part}
use Rattle.store_model.specs.Values.Access.{part, part_at, with_part, with_part_at, replaced}
use Rattle.store_model.specs.Values.Wholeness.{is_whole, are_whole}
use Rattle.soundness_values.proofs.Sealed.{Sealed, AllSealed, and_first, and_second, sealed_if_whole}

both : (a b : Bool) → a ≡ true → b ≡ true → (a && b) ≡ true
both true b h k = k
both false b h k = absurd (false≢true h)

part_whole : (parts : Data) (n : ℕ) (inner new : Datum) → part_at n parts ≡ Some inner → are_whole parts ≡ true →
    (is_whole inner ≡ true → is_whole new ≡ true) → are_whole (with_part_at n new parts) ≡ true
part_whole no_part n inner new e h f = refl
part_whole (a_part first rest) zero inner new e h f =
    let same : first ≡ inner = cc in
    both (is_whole new) (are_whole rest)
    (f (subst (λ d. is_whole d ≡ true) same (and_first (is_whole first) (are_whole rest) h)))
    (and_second (is_whole first) (are_whole rest) h)
part_whole (a_part first rest) (suc n) inner new e h f =
    both (is_whole first) (are_whole (with_part_at n new rest)) (and_first (is_whole first) (are_whole rest) h)
    (part_whole rest n inner new e (and_second (is_whole first) (are_whole rest) h) f)

pub part_sealed : (parts : Data) (n : ℕ) (inner new : Datum) → part_at n parts ≡ Some inner → AllSealed parts →
    (Sealed inner → Sealed new) → AllSealed (with_part_at n new parts)
part_sealed no_part n inner new e h f = h
part_sealed (a_part first rest) zero inner new e h f =
    (f (subst Sealed (let same : first ≡ inner = cc in same) h.0), h.1)
part_sealed (a_part first rest) (suc n) inner new e h f = (h.0, part_sealed rest n inner new e h.1 f)

whole_replaced : (path : List At) (new root : Datum) → is_whole new ≡ true → is_whole root ≡ true →
    is_whole (replaced path new root) ≡ true
whole_replaced [] new root h k = h
whole_replaced (step ∷ path) new root h k = by (none_or_some (part step root))
    (λ inner. whole_replaced path new inner h)
  where
    onto : (step : At) (root inner : Datum) → part step root ≡ Some inner → is_whole root ≡ true →
        (is_whole inner ≡ true → is_whole (replaced path new inner) ≡ true) →
        is_whole (with_part step (replaced path new inner) root) ≡ true
    onto (Part n) (Aggregate variant serial parts) inner e k f =
        part_whole parts n inner (replaced path new inner) e k f
    onto Inside (Box serial impl_no inside) inner e k f = let same : inside ≡ inner =
        cc in f (subst (λ d. is_whole d ≡ true) same k)
    onto (Part n) other inner e k f = k
    onto Inside other inner e k f = k

    by : (part step root ≡ None) ⊎ ((inner : Datum) × (part step root ≡ Some inner)) →
        ((inner : Datum) → is_whole inner ≡ true → is_whole (replaced path new inner) ≡ true) →
        is_whole (replaced (step ∷ path) new root) ≡ true
    by (inl none) later = subst (λ d. is_whole d ≡ true) (sym (replaced-no_step step path new root none)) k
    by (inr some) later = subst (λ d. is_whole d ≡ true) (sym (replaced-step step path new root some.0 some.1))
        (onto step root some.0 some.1 k (later some.0))

-- a whole value is stored
pub sealed_stored : (path : List At) (new root : Datum) → is_whole new ≡ true → Sealed root →
    Sealed (replaced path new root)
sealed_stored [] new root h k = sealed_if_whole new h
sealed_stored (step ∷ path) new root h k = by (none_or_some (part step root))
    (λ inner. sealed_stored path new inner h)
  where
    onto : (step : At) (root inner : Datum) → part step root ≡ Some inner → Sealed root →
        (Sealed inner → Sealed (replaced path new inner)) → Sealed (with_part step (replaced path new inner) root)
    onto (Part n) (Aggregate variant serial parts) inner e k f = (
      (λ s. part_whole parts n inner (replaced path new inner) e (k.0 s) (whole_replaced path new inner h)),
      part_sealed parts n inner (replaced path new inner) e k.1 f,
    )
    onto (Part n) Gone inner e k f = k
    onto (Part n) (Number x) inner e k f = k
    onto (Part n) (Truth x) inner e k f = k
    onto (Part n) UnitValue inner e k f = k
    onto (Part n) (Box a b c) inner e k f = k
    onto (Part n) (Address x) inner e k f = k
    onto Inside (Box serial impl_no inside) inner e k f = let same : inside ≡ inner = cc in f (subst Sealed same k)
    onto Inside Gone inner e k f = k
    onto Inside (Number x) inner e k f = k
    onto Inside (Truth x) inner e k f = k
    onto Inside UnitValue inner e k f = k
    onto Inside (Aggregate a b c) inner e k f = k
    onto Inside (Address x) inner e k f = k

    by : (part step root ≡ None) ⊎ ((inner : Datum) × (part step root ≡ Some inner)) →
        ((inner : Datum) → Sealed inner → Sealed (replaced path new inner)) →
        Sealed (replaced (step ∷ path) new root)
    by (inl none) later = subst Sealed (sym (replaced-no_step step path new root none)) k
    by (inr some) later = subst Sealed (sym (replaced-step step path new root some.0 some.1))
        (onto step root some.0 some.1 k (later some.0))

no_serial : {A : Type 0} (serial : Option ℕ) (b : Bool) → is_some serial ≡ b → not b ≡ true → is_some serial ≡ true →
    A
no_serial serial b e h s = absurd (false≢true (sym (ap not (sym e ∙ s)) ∙ h))

-- something is taken out of an aggregate without a number, or out of a box
pub taken_part : (variant : ℕ) (serial : Option ℕ) (parts : Data) (n : ℕ) (path : List At) (inner : Datum) →
    part_at n parts ≡ Some inner → (b : Bool) → is_some serial ≡ b → not b ≡ true →
    (Sealed inner → Sealed (replaced path Gone inner)) → Sealed (Aggregate variant serial parts) →
    Sealed (replaced (Part n ∷ path) Gone (Aggregate variant serial parts))
taken_part variant serial parts n path inner e b k h f s =
    subst Sealed (sym (replaced-step (Part n) path Gone (Aggregate variant serial parts) inner e))
    ((λ x. no_serial serial b k h x), part_sealed parts n inner (replaced path Gone inner) e s.1 f)
