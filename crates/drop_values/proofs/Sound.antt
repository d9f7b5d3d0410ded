-- A value is sound where each part of it whose type has a `Drop` body is full; a full value is.
use Rattle.std.proofs.Common.{◌≡◌, ℕ, suc, Option, Some, None, ap, sym, ◌∙◌, subst}
use Rattle.mir_ty.specs.ItemTable.{ItemTable}
use Rattle.store_model.specs.Values.Datum.{Datum, Data, Gone, Number, Truth, UnitValue, Aggregate, Box, Address, no_part, a_part}
use Rattle.store_model.specs.Concrete.Drops.{drop_impl}
use Rattle.store_model.specs.Concrete.Location.{DynamicType, concrete_ty, type_of_field, type_in_box}
use Rattle.store_model.specs.Abstract.Presence.{is_present}
use Rattle.drop_values.specs.Plan.{IfFound}
use Rattle.drop_values.specs.Typed.{PartsFit, Proper, IsFull}
use Rattle.drop_values.proofs.Found.{field-proper, box-proper}
use Rattle.drop_values.proofs.Counting.{after, after-zero}

-- a value with a `Drop` body of its own is full
abbrev pub BodyFull : ItemTable → Option (ℕ × ℕ) → DynamicType → Datum → Type 0
BodyFull items None found d = Unit {0}
BodyFull items (Some of) found d = IsFull items found d

module _ (items : ItemTable) where
  -- Each value with a `Drop` body in a value is full.
  abbrev mutual
    pub Sound : Datum → DynamicType → Type 0
    Sound Gone found = Unit {0}
    Sound (Number number) found = Unit {0}
    Sound (Truth truth) found = Unit {0}
    Sound UnitValue found = Unit {0}
    Sound (Aggregate variant serial parts) found =
        BodyFull items (drop_impl items (concrete_ty items found)) found (Aggregate variant serial parts)
        × SoundParts parts (λ n. type_of_field items variant n (concrete_ty items found)) 0
    Sound (Box serial impl_no inside) found = IfFound (type_in_box impl_no (concrete_ty items found)) (Sound inside)
    Sound (Address address) found = Unit {0}

    pub SoundParts : Data → (ℕ → Option DynamicType) → ℕ → Type 0
    SoundParts no_part found_at n = Unit {0}
    SoundParts (a_part first rest) found_at n = IfFound (found_at n) (Sound first) × SoundParts rest found_at (suc n)

  pub body_full : (o : Option (ℕ × ℕ)) (found : DynamicType) (d : Datum) → IsFull items found d →
      BodyFull items o found d
  body_full None found d h = tt
  body_full (Some of) found d h = h

  mutual
    -- in a full value each is
    pub full-Sound : (d : Datum) (found : DynamicType) → IsFull items found d → Sound d found
    full-Sound Gone found h = tt
    full-Sound (Number number) found h = tt
    full-Sound (Truth truth) found h = tt
    full-Sound UnitValue found h = tt
    full-Sound (Aggregate variant serial parts) found h = (
      body_full (drop_impl items (concrete_ty items found)) found (Aggregate variant serial parts) h,
      fulls-Sound parts (λ n. type_of_field items variant n (concrete_ty items found))
          (λ n. type_of_field items variant n (concrete_ty items found)) 0
          (λ m. ap (λ n. type_of_field items variant n (concrete_ty items found)) (sym (after-zero m)))
          (λ m f e. field-proper items (concrete_ty items found) variant m f e) h.1.3,
    )
    full-Sound (Box serial impl_no inside) found h =
        let b = h.1 in
        subst (λ o. IfFound o (Sound inside)) (sym b.2.1) (full-Sound inside b.2.0
        (box-proper items (concrete_ty items found) b.1.0 impl_no b.2.0 b.1.1 b.1.2 b.1.3 b.2.1, b.2.2))
    full-Sound (Address address) found h = tt

    pub fulls-Sound : (parts : Data) (found_at from : ℕ → Option DynamicType) (k : ℕ) →
        ((m : ℕ) → from m ≡ found_at (after k m)) → ((m : ℕ) (f : DynamicType) → from m ≡ Some f → Proper items f) →
        PartsFit items from (λ n. is_present) parts → SoundParts parts found_at k
    fulls-Sound no_part found_at from k e r h = tt
    fulls-Sound (a_part first rest) found_at from k e r h = (
      subst (λ o. IfFound o (Sound first)) (sym (sym (e 0) ∙ h.0.1))
          (full-Sound first h.0.0 (r 0 h.0.0 h.0.1, h.0.2)),
      fulls-Sound rest found_at (λ n. from (suc n)) (suc k) (λ m. e (suc m)) (λ m. r (suc m)) h.1,
    )
