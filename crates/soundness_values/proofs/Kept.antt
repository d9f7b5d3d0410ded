-- What is known of a local stands as it was, where a whole value of its type came to a place that is known as whole:
-- so it is after a call to which a reference to the place was passed. And a place behind a reference is reached.
use Rattle.std.proofs.Common.{◌≡◌, ℕ, suc, Bool, true, false, List, ◌∷◌, Option, Some, refl, ap, sym, ◌∙◌, subst}
use Rattle.mir_ty.specs.declared.ty.Ty.{Ty}
use Rattle.mir_ty.specs.declared.ty.TyId.{TyId}
use Rattle.mir_ty.specs.ItemTable.{ItemTable}
use Rattle.store_model.proofs.Values.Access.{replaced-step}
use Rattle.store_model.specs.declared.address.Addr.{Addr}
use Rattle.store_model.specs.declared.address.At.{At}
use Rattle.store_model.specs.declared.address.At.TheVariants.{Part}
use Rattle.store_model.specs.Values.Datum.{Datum, Data, Gone, Number, Truth, UnitValue, Aggregate, Box, Address, no_part, a_part}
use Rattle.store_model.specs.Places.Place.{Step, ToPart, ToField, ToContent}
use Rattle.store_model.specs.Values.Access.{part_at, with_part_at, replaced}
use Rattle.store_model.specs.Abstract.Presence.{Presence, known, is_present, itself_gone, presence_at, all_present}
use Rattle.store_model.specs.Concrete.Location.{Setting, DynamicType, concrete_ty, type_of_part, is_of_type, Located, along, located_at}
use Rattle.store_model.specs.Concrete.State.{State, Cells}
use Rattle.soundness_values.proofs.Fits.{is_enum_found, part_step, step_if, Fits, PartsFit, present_below, part_fits, with_part_fits}
use Rattle.soundness_values.proofs.Ways.{Way, ends, to_part, to_field, to_content, to_element, whole_along, present_along}

module _ (items : ItemTable) where
  pub itself_present : (p : Presence) → all_present p ≡ true → itself_gone p ≡ false
  itself_present (known false parts) h = refl
  itself_present (known true parts) h = h' h
    where
      h' : false ≡ true → true ≡ false
      h' e = sym e

  mutual
    -- what is whole fits whatever is known as wholly present
    pub present_anyhow : (d : Datum) (found : DynamicType) (p : Presence) → all_present p ≡ true →
        Fits items found is_present d → Fits items found p d
    present_anyhow Gone found p h k = itself_present p h ∙ k
    present_anyhow (Number number) found p h k = (itself_present p h, k.1)
    present_anyhow (Truth truth) found p h k = (itself_present p h, k.1)
    present_anyhow UnitValue found p h k = (itself_present p h, k.1)
    present_anyhow (Aggregate variant serial parts) found p h k = (
      itself_present p h,
      k.1,
      k.2,
      parts_anyhow parts _ (λ n. presence_at (part_step items found variant n) p)
          (λ n. present_below items (part_step items found variant n) p h) k.3,
    )
    present_anyhow (Box serial impl_no inside) found p h k = (
      itself_present p h,
      k.1,
      (
        k.2.0,
        k.2.1,
        present_anyhow inside k.2.0 (presence_at ToContent p) (present_below items ToContent p h)
            k.2.2,
      ),
    )
    present_anyhow (Address address) found p h k = (itself_present p h, k.1)

    parts_anyhow : (parts : Data) (found_at : ℕ → Option DynamicType) (presence_of : ℕ → Presence) →
        ((n : ℕ) → all_present (presence_of n) ≡ true) → PartsFit items found_at (λ n. is_present) parts →
        PartsFit items found_at presence_of parts
    parts_anyhow no_part found_at presence_of h k = k
    parts_anyhow (a_part first rest) found_at presence_of h k = (
      (k.0.0, k.0.1, present_anyhow first k.0.0 (presence_of 0) (h 0) k.0.2),
      parts_anyhow rest
          (λ n. found_at (suc n)) (λ n. presence_of (suc n)) (λ n. h (suc n)) k.1,
    )

  part_kept : (b : Bool) (variant n : ℕ) (step : Step) → step_if items b variant n ≡ step →
      (parts : Data) (found_at : ℕ → Option DynamicType) (p : Presence)
      (inner changed : Datum) (f : DynamicType) → part_at n parts ≡ Some inner → found_at n ≡ Some f →
      PartsFit items found_at (λ m. presence_at (step_if items b variant m) p) parts →
      (Fits items f (presence_at step p) inner → Fits items f (presence_at step p) changed) →
      PartsFit items found_at (λ m. presence_at (step_if items b variant m) p) (with_part_at n changed parts)
  part_kept b variant n step e parts found_at p inner changed f is_part is_found k then_fits =
      let was = part_fits items parts found_at (λ m. presence_at (step_if items b variant m) p) n inner k is_part in
      with_part_fits items parts found_at (λ m. presence_at (step_if items b variant m) p)
      (λ m. presence_at (step_if items b variant m) p) n changed f k is_found
      (subst (λ s. Fits items f (presence_at s p) changed) (sym e)
      (then_fits (subst (λ s. Fits items f (presence_at s p) inner) e
      (subst (λ g. Fits items g (presence_at (step_if items b variant n) p) inner)
      (let same : was.0 ≡ f = cc in same) was.2))))
      (λ m differ. refl)

  -- another whole value at a place that is known as whole
  pub fits_kept : {steps : List Step} {path : List At} {found f' : DynamicType} {d d' : Datum} (p : Presence)
      (new : Datum) → Way items steps path found d f' d' → Fits items found p d →
      whole_along steps p ≡ true → Fits items f' is_present new →
      Fits items found p (replaced path new d)
  fits_kept p new (ends found d) k h fit = present_anyhow new found p h fit
  fits_kept p new (to_part steps path found variant serial parts n inner f f' d' not_enum is_part is_found way) k h
      fit =
      subst (Fits items found p)
      (sym (replaced-step (Part n) path new (Aggregate variant serial parts) inner is_part)) (
        k.0,
        k.1,
        k.2,
        part_kept (is_enum_found items found) variant n (ToPart n) (ap (λ b. step_if items b variant n) not_enum)
            parts
            (λ m. type_of_part items (Part m) (Aggregate variant serial no_part) found) p
            inner (replaced path new inner) f is_part is_found k.3
            (λ was. fits_kept (presence_at (ToPart n) p) new way was h fit),
      )
  fits_kept p new (to_field steps path found variant serial parts n inner f f' d' enum is_part is_found way) k h
      fit =
      subst (Fits items found p)
      (sym (replaced-step (Part n) path new (Aggregate variant serial parts) inner is_part)) (
        k.0,
        k.1,
        k.2,
        part_kept (is_enum_found items found) variant n (ToField variant n)
            (ap (λ b. step_if items b variant n) enum)
            parts (λ m. type_of_part items (Part m) (Aggregate variant serial no_part) found) p
            inner (replaced path new inner) f is_part is_found k.3
            (λ was. fits_kept (presence_at (ToField variant n) p) new way was h fit),
      )
  fits_kept p new (to_content steps path found serial impl_no inside f f' d' is_found way) k h fit = (
    k.0,
    k.1,
    (
      f,
      is_found,
      fits_kept (presence_at ToContent p) new way
          (subst (λ g. Fits items g (presence_at ToContent p) inside) (let same : k.2.0 ≡ f = cc in same) k.2.2) h
          fit,
    ),
  )
  fits_kept p new (to_element steps path found variant serial parts i n inner f f' d' is_part is_found way) k h fit =
      subst (Fits items found p)
      (sym (replaced-step (Part n) path new (Aggregate variant serial parts) inner is_part)) (
        k.0,
        k.1,
        k.2,
        part_kept (is_enum_found items found) variant n (part_step items found variant n) refl parts
            (λ m. type_of_part items (Part m) (Aggregate variant serial no_part) found) p inner
            (replaced path new inner) f is_part is_found k.3
            (λ was. fits_kept (presence_at (part_step items found variant n) p) new way was
            (present_along items steps (presence_at (part_step items found variant n) p)
            (present_below items (part_step items found variant n) p h)) fit),
      )

module _ (setting : Setting) (w : State) (cells : Cells) where
  -- What is behind a reference is reached, if what stands at its address is found as the type that it names.
  pub behind_reference : (steps : List Step) (address : Addr) (s named : Located) (id : TyId) →
      s.value ≡ Address address → concrete_ty setting.items s.dynamic ≡ Some (Ty.Unique id) →
      located_at setting w address ≡ Some named → is_of_type setting.items id named.dynamic ≡ true →
      along setting w cells (ToContent ∷ steps) s ≡ along setting w cells steps named
  behind_reference steps address s named id is_address is_reference stands found = cc

  pub behind_shared : (steps : List Step) (address : Addr) (s named : Located) (id : TyId) →
      s.value ≡ Address address → concrete_ty setting.items s.dynamic ≡ Some (Ty.Shared id) →
      located_at setting w address ≡ Some named → is_of_type setting.items id named.dynamic ≡ true →
      along setting w cells (ToContent ∷ steps) s ≡ along setting w cells steps named
  behind_shared steps address s named id is_address is_reference stands found = cc
