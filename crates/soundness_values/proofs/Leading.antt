-- Steps that are sure to lead on lead somewhere: each is to a part of the type that stands there; the variant of an
-- enum and the number of an element are known. No container on the way is gone, and of an array nothing is.
use Rattle.std.proofs.Common.{◌≡◌, ℕ, pos, ◌<◌, ◌==◌, ◌&&◌, ◌||◌, not, Bool, true, false, List, [], ◌∷◌, ◌++◌, length, Option, Some, None, is_some, refl, ap, sym, ◌∙◌, subst, arith}
use Rattle.std.specs.Prelude.{slice_get, nat_lt, option_and_then}
use Rattle.std.specs.Cmp.{first_so, second_so}
use Rattle.std.specs.Option.{option_map_or}
use Rattle.std.proofs.lemmas.Bool.{false≢true, ltb-true}
use Rattle.std.proofs.lemmas.Bool.Decides.{Decides-eqb}
use Rattle.std.proofs.lemmas.Option.{none-some}
use Rattle.mir_ty.specs.declared.ty.Ty.{Ty}
use Rattle.mir_ty.specs.declared.ty.TyId.{TyId}
use Rattle.mir_ty.specs.ItemTable.{ItemTable, type_at}
use Rattle.mir_ty.specs.Parts.{parts_of, variants_of}
use Rattle.store_model.proofs.Values.Access.{value_at-below}
use Rattle.store_model.specs.declared.address.At.{At}
use Rattle.store_model.specs.declared.address.At.TheVariants.{Part, Inside}
use Rattle.store_model.specs.Values.Datum.{Datum, Data, Gone, Number, Aggregate, Box, no_part}
use Rattle.store_model.specs.Values.Access.{part, part_at, value_at, replaced}
use Rattle.store_model.specs.Concrete.Drops.{drop_impl}
use Rattle.store_model.specs.Abstract.Presence.{Presence, is_present, itself_gone, presence_at}
use Rattle.store_model.specs.Places.Place.{Step, ToPart, ToField, ToContent, ToElement, is_enum, unless_enum, part_if, step_ty, ty_along}
use Rattle.store_model.specs.Places.TypeForms.{box_content, is_dyn}
use Rattle.store_model.specs.Concrete.Location.{DynamicType, OfType, concrete_ty, content_type, type_in_box, type_of_part, type_of_field}
use Rattle.store_model.specs.Concrete.State.{Cells, cell}
use Rattle.soundness_values.specs.Typed.{is_aggregate, is_impl_for, is_found}
use Rattle.soundness_values.proofs.Along.{number_in, at_step, path_at, path_more, containers_along, present_containers, has_one_variant, next_plain, are_plain, IsFound, as_type, as_object, as_itself}
use Rattle.soundness_values.proofs.Fits.{is_enum_found, variant_exists, Fits, part_there, whole_if_present, present_if_whole}
use Rattle.soundness_values.proofs.Forms.{or_second, has_parts, array_parts, aggregate_of, box_of}
use Rattle.soundness_values.proofs.Ways.{Way, ends, to_part, to_field, to_content, to_element, Indexed, part_of_step, content_of_box}
use Rattle.soundness_values.proofs.Resealed.{taken_part}
use Rattle.soundness_values.proofs.Sealed.{Sealed}
use Rattle.soundness_values.proofs.Within.{element_of_many}

module _ (items : ItemTable) (is_bounded : ℕ → ℕ → Bool) (is_variant : List Step → ℕ → Bool) where
  -- what stands at the steps so far has the part to which the next one leads
  abbrev pub is_sure : List Step → Step → Ty → Bool
  is_sure so_far (ToPart n) ty = true
  is_sure so_far (ToField variant n) ty = (variant == 0 && has_one_variant items ty) || is_variant so_far variant
  is_sure so_far ToContent (Ty.Boxed inside) = true
  is_sure so_far ToContent ty = false
  is_sure so_far (ToElement i) (Ty.Array element count) = is_bounded i count
  is_sure so_far (ToElement i) ty = false

  abbrev pub then_sure : Option TyId → (TyId → Bool) → Bool
  then_sure None rest = false
  then_sure (Some next) rest = rest next

  abbrev pub sure_step : List Step → Step → Option Ty → (TyId → Bool) → Bool
  sure_step so_far step None rest = false
  sure_step so_far step (Some ty) rest = is_sure so_far step ty && then_sure (step_ty items step ty) rest

  abbrev pub are_sure : List Step → List Step → TyId → Bool
  are_sure so_far [] id = true
  are_sure so_far (step ∷ steps) id = sure_step so_far step (type_at items id) (are_sure (so_far ++ step ∷ []) steps)

  -- where steps lead from a value
  pub record Leads (cells : Cells) (steps : List Step) (found : DynamicType) (d : Datum) (id : TyId) : Type 0 where
    pub path : List At
    pub dynamic : DynamicType
    pub inner : Datum
    pub way : Way items steps path found d dynamic inner
    pub indexed : Indexed cells steps path
    pub path_is : path ≡ path_at cells steps
    pub end : TyId
    pub end_is : ty_along items steps id ≡ Some end
    pub as_end : IsFound items end dynamic
    pub takes : are_plain items steps id ≡ true → Sealed d → Sealed (replaced path Gone d)

  module _ (cells : Cells) (bounded : (i count : ℕ) → is_bounded i count ≡ true →
      (n : ℕ) × ((cell i cells ≡ Number (pos n)) × (n < count)))
      (root : Datum) (told : (so_far : List Step) (v variant : ℕ) (serial : Option ℕ) (parts : Data) →
      is_variant so_far v ≡ true → value_at (path_at cells so_far) root ≡ Some (Aggregate variant serial parts) →
      variant ≡ v) where
    or_either : {A : Type 0} (a b : Bool) → (a || b) ≡ true → (a ≡ true → A) → (b ≡ true → A) → A
    or_either true b h f g = f refl
    or_either false b h f g = g h

    is_zero : (n : ℕ) → nat_lt n 1 ≡ true → n ≡ 0
    is_zero n h = let less : n < 1 = ltb-true n 1 h in omega arith

    same_number : (n m : ℕ) → (n == m) ≡ true → n ≡ m
    same_number n m h = (Decides-eqb n m).0 h

    -- the one variant of an enum
    one_variant : (ty : Ty) (variant : ℕ) → has_one_variant items ty ≡ true → variant_exists items (Some ty) variant
        ≡ true → variant ≡ 0
    one_variant (Ty.Adt n) variant h k =
        is_zero variant (subst (λ m. nat_lt variant m ≡ true)
        (same_number (length (variants_of (slice_get items.adts n))) 1 h) k)
    one_variant other variant h e = absurd (false≢true h)

    -- what follows a step to a part that is there
    abbrev Onward : List Step → List Step → Step → TyId → (Presence → Presence) → Presence → Type 0
    Onward so_far steps step next at p =
        (inner : Datum) → value_at (path_at cells (so_far ++ step ∷ [])) root ≡ Some inner →
        Fits items (OfType next) (at p) inner → Leads cells steps (OfType next) inner next

    module _ (so_far : List Step) (d : Datum) (stands : value_at (path_at cells so_far) root ≡ Some d) where
      one_further : (step : Step) (inner : Datum) → part (at_step cells step) d ≡ Some inner →
          value_at (path_at cells (so_far ++ step ∷ [])) root ≡ Some inner
      one_further step inner e =
          ap (λ p. value_at p root) (path_more cells so_far step)
          ∙ value_at-below (path_at cells so_far) (at_step cells step ∷ []) root d stands
          ∙ ap (option_and_then (value_at [])) e

      module _ (id : TyId) (f : DynamicType) (ty : Ty) (is_ty : type_at items id ≡ Some ty)
          (at_ty : concrete_ty items f ≡ Some ty) (p : Presence) (steps : List Step) where
        along_ty : (step : Step) (next : TyId) (end : TyId) → step_ty items step ty ≡ Some next →
            ty_along items steps next ≡ Some end → ty_along items (step ∷ steps) id ≡ Some end
        along_ty step next end is_next e =
            ap (λ o. option_and_then (ty_along items steps) (option_and_then (step_ty items step) o)) is_ty
            ∙ ap (option_and_then (ty_along items steps)) is_next ∙ e

        plain_here : (step : Step) → are_plain items (step ∷ steps) id ≡ true →
            not (is_some (drop_impl items (concrete_ty items f))) ≡ true
        plain_here step h = subst (λ o. not (is_some (drop_impl items o)) ≡ true) (is_ty ∙ sym at_ty)
            (first_so (not (is_some (drop_impl items (type_at items id)))) _ h)

        plain_next : (step : Step) (next : TyId) → step_ty items step ty ≡ Some next →
            are_plain items (step ∷ steps) id ≡ true → are_plain items steps next ≡ true
        plain_next step next is_next h =
            subst (λ o. next_plain o (are_plain items steps) ≡ true) is_next
            (subst (λ o. next_plain (option_and_then (step_ty items step) o) (are_plain items steps) ≡ true) is_ty
            (second_so (not (is_some (drop_impl items (type_at items id)))) _ h))

        -- to a part under a number
        module _ (variant : ℕ) (serial : Option ℕ) (parts : Data) (is_it : d ≡ Aggregate variant serial parts)
            (k : Fits items f p (Aggregate variant serial parts)) where
          taking : (step : Step) (n : ℕ) (next : TyId) → step_ty items step ty ≡ Some next → (inner : Datum) →
              part_at n parts ≡ Some inner → (on : Leads cells steps (OfType next) inner next) →
              are_plain items (step ∷ steps) id ≡ true → Sealed d → Sealed (replaced (Part n ∷ on.path) Gone d)
          taking step n next is_next inner is_part on h z =
              subst (λ x. Sealed (replaced (Part n ∷ on.path) Gone x)) (sym is_it)
              (taken_part variant serial parts n on.path inner is_part
              (is_some (drop_impl items (concrete_ty items f)))
              k.1 (plain_here step h) (on.takes (plain_next step next is_next h)) (subst Sealed is_it z))

          to_number : (step : Step) (n : ℕ) (next : TyId) → at_step cells step ≡ Part n →
              step_ty items step ty ≡ Some next → slice_get (parts_of items ty variant) n ≡ Some next →
              ((inner : Datum) → part_at n parts ≡ Some inner → type_of_part items (Part n)
              (Aggregate variant serial no_part) f ≡ Some (OfType next) →
              (on : Leads cells steps (OfType next) inner next) → Way items (step ∷ steps) (Part n ∷ on.path) f
              (Aggregate variant serial parts) on.dynamic on.inner × Indexed cells (step ∷ steps)
              (Part n ∷ on.path)) →
              (at : Presence → Presence) →
              ((inner : Datum) → part_at n parts ≡ Some inner → type_of_part items (Part n)
              (Aggregate variant serial no_part) f ≡ Some (OfType next) → Fits items (OfType next) (at p) inner) →
              Onward so_far steps step next at p → Leads cells (step ∷ steps) f d id
          to_number step n next at_it is_next is_part way at fit onward =
              let is_found : type_of_part items (Part n) (Aggregate variant serial no_part) f ≡ Some (OfType next) =
              ap (type_of_field items variant n) at_ty ∙ ap (λ o. option_map_or (λ i. Some (OfType i)) o None)
              is_part in
              let inner = part_there items parts _ _ n (OfType next) k.3 is_found in
              let there : part (at_step cells step) d ≡ Some inner.0 = ap (λ a. part a d) at_it
              ∙ ap (part (Part n)) is_it ∙ inner.1 in
              let on : Leads cells steps (OfType next) inner.0 next = onward inner.0 (one_further step inner.0 there)
              (fit inner.0 inner.1 is_found) in
              let w = way inner.0 inner.1 is_found on in
              record {
                path = Part n ∷ on.path;
                dynamic = on.dynamic;
                inner = on.inner;
                way = subst (λ x. Way items (step ∷ steps) (Part n ∷ on.path) f x on.dynamic on.inner)
                    (sym is_it) w.0;
                indexed = w.1;
                path_is = ap (λ a. a ∷ on.path) (sym at_it) ∙ ap (λ q. at_step cells step ∷ q) on.path_is;
                end = on.end;
                end_is = along_ty step next on.end is_next on.end_is;
                as_end = on.as_end;
                takes = λ h z. taking step n next is_next inner.0 inner.1 on h z;
              }

        -- to the content of a box
        to_box : (next : TyId) → ty ≡ Ty.Boxed next → (serial : ℕ) (impl_no : Option ℕ) (inside : Datum) →
            d ≡ Box serial impl_no inside → Fits items f p (Box serial impl_no inside) →
            ((g : DynamicType) → type_of_part items Inside (Box serial impl_no Gone) f ≡ Some g →
            IsFound items next g →
            value_at (path_at cells (so_far ++ ToContent ∷ [])) root ≡ Some inside →
            Fits items g (presence_at ToContent p) inside → Leads cells steps g inside next) →
            Leads cells (ToContent ∷ steps) f d id
        to_box next is_boxed serial impl_no inside is_it k onward =
            let content : concrete_ty items f ≡ Some (Ty.Boxed next) = at_ty ∙ ap (λ (x : Ty). Some x) is_boxed in
            let is_found : type_of_part items Inside (Box serial impl_no Gone) f ≡ Some (content_type next impl_no) =
            ap (type_in_box impl_no) content in
            let same : k.1.0 ≡ next = content_same (sym (ap box_content content) ∙ k.1.1) in
            let there : part Inside d ≡ Some inside = ap (part Inside) is_it in
            let on : Leads cells steps (content_type next impl_no) inside next =
            onward (content_type next impl_no) is_found
            (found_in impl_no (subst (λ c. is_some impl_no ≡ is_dyn (type_at items c)) same k.1.2)
            (subst (λ c. is_impl_for items (type_at items c) impl_no ≡ true) same k.1.3))
            (one_further ToContent inside there)
            (content_of_box items p f serial impl_no inside (content_type next impl_no) is_found k) in
            record {
              path = Inside ∷ on.path;
              dynamic = on.dynamic;
              inner = on.inner;
              way = subst (λ x. Way items (ToContent ∷ steps) (Inside ∷ on.path) f x on.dynamic on.inner) (sym is_it)
                  (to_content steps on.path f serial impl_no inside (content_type next impl_no) on.dynamic on.inner
                  is_found on.way);
              indexed = on.indexed;
              path_is = ap (λ q. Inside ∷ q) on.path_is;
              end = on.end;
              end_is = along_ty ToContent next on.end (ap (step_ty items ToContent) is_boxed) on.end_is;
              as_end = on.as_end;
              takes = λ h z. subst (λ x. Sealed (replaced (Inside ∷ on.path) Gone x)) (sym is_it)
                  (on.takes (plain_next ToContent next (ap (step_ty items ToContent) is_boxed) h)
                  (subst Sealed is_it z));
            }
          where
            content_same : {a b : TyId} → Some a ≡ Some b → b ≡ a
            content_same e = cc

            found_in : (impl_no : Option ℕ) → is_some impl_no ≡ is_dyn (type_at items next) →
                is_impl_for items (type_at items next) impl_no ≡ true →
                IsFound items next (content_type next impl_no)
            found_in None h k = as_itself items next
            found_in (Some n) h k = as_object n (sym h) k

    -- nothing is below what is found as a trait object
    no_step_in_dyn : (ty : Ty) (so_far : List Step) (step : Step) (rest : TyId → Bool) → is_dyn (Some ty) ≡ true →
        sure_step so_far step (Some ty) rest ≡ true → ⊥
    no_step_in_dyn (Ty.Dyn n) so_far (ToPart m) rest h e = false≢true e
    no_step_in_dyn (Ty.Dyn n) so_far (ToField v m) rest h e =
        false≢true (second_so (is_sure so_far (ToField v m) (Ty.Dyn n)) false e)
    no_step_in_dyn (Ty.Dyn n) so_far ToContent rest h e = false≢true e
    no_step_in_dyn (Ty.Dyn n) so_far (ToElement i) rest h e = false≢true e
    no_step_in_dyn other so_far step rest h e = false≢true h

    of_enum : (b : Bool) (o : Option TyId) (next : TyId) → unless_enum b o ≡ Some next →
        (b ≡ false) × (o ≡ Some next)
    of_enum false o next e = (refl, e)
    of_enum true o next e = absurd (none-some next e)

    in_enum : (b : Bool) (o : Option TyId) (next : TyId) → part_if b o ≡ Some next → (b ≡ true) × (o ≡ Some next)
    in_enum true o next e = (refl, e)
    in_enum false o next e = absurd (none-some next e)

    -- where the rest of the steps leads, from what a step leads to
    abbrev Rest : List Step → Step → List Step → Type 0
    Rest so_far step steps = (next : TyId) (f : DynamicType) (q : Presence) (inner : Datum) → IsFound items next f →
        value_at (path_at cells (so_far ++ step ∷ [])) root ≡ Some inner → Fits items f q inner →
        containers_along steps q ≡ true → are_sure (so_far ++ step ∷ []) steps next ≡ true →
        Leads cells steps f inner next

    if_there : (o : Option TyId) (rest : TyId → Bool) → then_sure o rest ≡ true →
        (next : TyId) × ((o ≡ Some next) × (rest next ≡ true))
    if_there None rest h = absurd (false≢true h)
    if_there (Some next) rest h = (next, (refl, h))

    by_step : (so_far : List Step) (step : Step) (steps : List Step) (id : TyId) (f : DynamicType) (p : Presence)
        (d : Datum) → value_at (path_at cells so_far) root ≡ Some d → Fits items f p d →
        containers_along (step ∷ steps) p ≡ true → (ty : Ty) → type_at items id ≡ Some ty →
        concrete_ty items f ≡ Some ty → is_sure so_far step ty ≡ true → (next : TyId) →
        step_ty items step ty ≡ Some next → are_sure (so_far ++ step ∷ []) steps next ≡ true →
        Rest so_far step steps → Leads cells (step ∷ steps) f d id
    by_step so_far (ToPart n) steps id f p d stands k c ty is_ty at_ty sure next is_next s rest =
        let e = of_enum (is_enum items ty) (slice_get (parts_of items ty 0) n) next is_next in
        let there = first_so (not (itself_gone p)) (containers_along steps (presence_at (ToPart n) p)) c in
        let a = aggregate_of items d f p ty at_ty (has_parts items ty 0 n next e.1) there k in
        let fit : Fits items f p (Aggregate a.variant a.serial a.parts) = subst (Fits items f p) a.is_it k in
        let not_enum : is_enum_found items f ≡ false = ap (λ t. option_map_or (is_enum items) t false) at_ty ∙ e.0 in
        let zero_is : a.variant ≡ 0 = same_number a.variant 0 (or_second (is_enum_found items f) (a.variant == 0)
        (first_so (is_enum_found items f || a.variant == 0) (variant_exists items (concrete_ty items f) a.variant)
        (second_so (is_aggregate (concrete_ty items f))
        ((is_enum_found items f || a.variant == 0) && variant_exists items (concrete_ty items f) a.variant) fit.2))
        not_enum) in
        to_number so_far d stands id f ty is_ty at_ty p steps a.variant a.serial a.parts a.is_it fit
        (ToPart n) n next refl is_next (ap (λ v. slice_get (parts_of items ty v) n) zero_is ∙ e.1)
        (λ inner is_part is_found on. (
          to_part steps on.path f a.variant a.serial a.parts n inner (OfType next) on.dynamic on.inner not_enum
              is_part is_found on.way,
          on.indexed,
        ))
        (presence_at (ToPart n)) (λ inner is_part is_found. part_of_step items p f a.variant a.serial a.parts n inner
        (OfType next) false not_enum is_part is_found fit)
        (λ inner at fit. rest next (OfType next) (presence_at (ToPart n) p) inner (as_itself items next) at fit
        (second_so (not (itself_gone p)) (containers_along steps (presence_at (ToPart n) p)) c) s)
    by_step so_far (ToField v n) steps id f p d stands k c ty is_ty at_ty sure next is_next s rest =
        let e = in_enum (is_enum items ty) (slice_get (parts_of items ty v) n) next is_next in
        let there = first_so (not (itself_gone p)) (containers_along steps (presence_at (ToField v n) p)) c in
        let a = aggregate_of items d f p ty at_ty (has_parts items ty v n next e.1) there k in
        let fit : Fits items f p (Aggregate a.variant a.serial a.parts) = subst (Fits items f p) a.is_it k in
        let enum : is_enum_found items f ≡ true = ap (λ t. option_map_or (is_enum items) t false) at_ty ∙ e.0 in
        let exists : variant_exists items (Some ty) a.variant ≡ true =
        subst (λ o. variant_exists items o a.variant ≡ true) at_ty
        (second_so (is_enum_found items f || a.variant == 0) (variant_exists items (concrete_ty items f) a.variant)
        (second_so (is_aggregate (concrete_ty items f))
        ((is_enum_found items f || a.variant == 0) && variant_exists items (concrete_ty items f) a.variant) fit.2))
        in
        let is_v : a.variant ≡ v = or_either (v == 0 && has_one_variant items ty) (is_variant so_far v) sure
        (λ h. one_variant ty a.variant (second_so (v == 0) (has_one_variant items ty) h) exists
        ∙ sym (same_number v 0 (first_so (v == 0) (has_one_variant items ty) h)))
        (λ h. told so_far v a.variant a.serial a.parts h (stands ∙ ap (λ (x : Datum). Some x) a.is_it)) in
        to_number so_far d stands id f ty is_ty at_ty p steps a.variant a.serial a.parts a.is_it fit
        (ToField v n) n next refl is_next (ap (λ x. slice_get (parts_of items ty x) n) is_v ∙ e.1)
        (λ inner is_part is_found on. (
          subst (λ x. Way items (ToField x n ∷ steps) (Part n ∷ on.path) f (Aggregate a.variant a.serial a.parts)
              on.dynamic on.inner) is_v
              (to_field steps on.path f a.variant a.serial a.parts n inner (OfType next) on.dynamic on.inner enum
              is_part
              is_found on.way),
          on.indexed,
        ))
        (presence_at (ToField v n))
        (λ inner is_part is_found. subst (λ x. Fits items (OfType next) (presence_at (ToField x n) p) inner) is_v
        (part_of_step items p f a.variant a.serial a.parts n inner (OfType next) true enum is_part is_found fit))
        (λ inner at fit. rest next (OfType next) (presence_at (ToField v n) p) inner (as_itself items next) at
        fit
        (second_so (not (itself_gone p)) (containers_along steps (presence_at (ToField v n) p)) c) s)
    by_step so_far ToContent steps id f p d stands k c ty is_ty at_ty sure next is_next s rest =
        let boxed = is_boxed ty sure next is_next in
        let there = first_so (not (itself_gone p)) (containers_along steps (presence_at ToContent p)) c in
        let b = box_of items d f p next (at_ty ∙ ap (λ (x : Ty). Some x) boxed) there k in
        to_box so_far d stands id f ty is_ty at_ty p steps next boxed b.serial b.impl_no b.inside b.is_it
        (subst (Fits items f p) b.is_it k)
        (λ g is_found found at fit. rest next g (presence_at ToContent p) b.inside found at fit
        (second_so (not (itself_gone p)) (containers_along steps (presence_at ToContent p)) c) s)
      where
        is_boxed : (ty : Ty) → is_sure so_far ToContent ty ≡ true → (next : TyId) →
            step_ty items ToContent ty ≡ Some next → ty ≡ Ty.Boxed next
        is_boxed (Ty.Boxed inside) h next e = let same : inside ≡ next = cc in ap Ty.Boxed same
        is_boxed other h next e = absurd (false≢true h)
    by_step so_far (ToElement i) steps id f p d stands k c ty is_ty at_ty sure next is_next s rest =
        by_array ty is_ty at_ty sure is_next
      where
        by_array : (ty : Ty) → type_at items id ≡ Some ty → concrete_ty items f ≡ Some ty →
            is_sure so_far (ToElement i) ty ≡ true → step_ty items (ToElement i) ty ≡ Some next →
            Leads cells (ToElement i ∷ steps) f d id
        by_array (Ty.Array e count) is_ty at_ty h is_next =
            let b = bounded i count h in
            let same : e ≡ next = cc in
            let whole : Fits items f is_present d = present_if_whole items d f p (whole_if_present items d f p c k)
            k in
            let a = aggregate_of items d f is_present (Ty.Array e count) at_ty (array_parts items e count) refl
            whole in
            let fit : Fits items f is_present (Aggregate a.variant a.serial a.parts) =
            subst (Fits items f is_present) a.is_it whole in
            let not_enum : is_enum_found items f ≡ false = ap (λ t. option_map_or (is_enum items) t false) at_ty in
            let zero_is : a.variant ≡ 0 = same_number a.variant 0 (or_second (is_enum_found items f) (a.variant == 0)
            (first_so (is_enum_found items f || a.variant == 0)
            (variant_exists items (concrete_ty items f) a.variant)
            (second_so (is_aggregate (concrete_ty items f))
            ((is_enum_found items f || a.variant == 0) && variant_exists items (concrete_ty items f) a.variant)
            fit.2)) not_enum) in
            let numbered : at_step cells (ToElement i) ≡ Part b.0 = ap (λ v. Part (number_in v)) b.1.0 in
            let is_part : slice_get (parts_of items (Ty.Array e count) a.variant) b.0 ≡ Some next =
            ap (λ v. slice_get (parts_of items (Ty.Array e count) v) b.0) zero_is
            ∙ element_of_many items e count b.0 b.1.1 ∙ ap (λ (x : TyId). Some x) same in
            to_number so_far d stands id f (Ty.Array e count) is_ty at_ty is_present steps a.variant a.serial a.parts
            a.is_it fit (ToElement i) b.0 next numbered is_next is_part
            (λ inner is_part is_found on. (
              to_element steps on.path f a.variant a.serial a.parts i b.0 inner (OfType next) on.dynamic on.inner
                  is_part is_found on.way,
              (b.1.0, on.indexed),
            ))
            (λ q. is_present) (λ inner is_part is_found. part_of_step items is_present f a.variant a.serial a.parts
            b.0
            inner (OfType next) false not_enum is_part is_found fit)
            (λ inner at fit. rest next (OfType next) is_present inner (as_itself items next) at fit
            (present_containers items steps is_present refl) s)
        by_array other is_ty at_ty h e = absurd (false≢true h)

    by_ty : (so_far : List Step) (step : Step) (steps : List Step) (id : TyId) (f : DynamicType) (p : Presence)
        (d : Datum) → value_at (path_at cells so_far) root ≡ Some d → Fits items f p d →
        containers_along (step ∷ steps) p ≡ true → concrete_ty items f ≡ type_at items id → (o : Option Ty) →
        type_at items id ≡ o → sure_step so_far step o (are_sure (so_far ++ step ∷ []) steps) ≡ true →
        Rest so_far step steps → Leads cells (step ∷ steps) f d id
    by_ty so_far step steps id f p d stands k c at_ty None is_ty s rest = absurd (false≢true s)
    by_ty so_far step steps id f p d stands k c at_ty (Some ty) is_ty s rest =
        let t = if_there (step_ty items step ty) (are_sure (so_far ++ step ∷ []) steps)
        (second_so (is_sure so_far step ty)
        (then_sure (step_ty items step ty) (are_sure (so_far ++ step ∷ []) steps)) s) in
        by_step so_far step steps id f p d stands k c ty is_ty (at_ty ∙ is_ty)
        (first_so (is_sure so_far step ty)
        (then_sure (step_ty items step ty) (are_sure (so_far ++ step ∷ []) steps)) s) t.0 t.1.0 t.1.1 rest

    -- steps that are sure lead somewhere from what stands as a type, or as what a box holds
    pub leads_found : (so_far steps : List Step) (id : TyId) (f : DynamicType) (p : Presence) (d : Datum) →
        IsFound items id f → value_at (path_at cells so_far) root ≡ Some d → Fits items f p d →
        containers_along steps p ≡ true → are_sure so_far steps id ≡ true → Leads cells steps f d id
    leads_found so_far [] id f p d found stands k c s =
        record {
          path = [];
          dynamic = f;
          inner = d;
          way = ends f d;
          indexed = tt;
          path_is = refl;
          end = id;
          end_is =
              refl;
          as_end = found;
          takes = λ h z. tt;
        }
    leads_found so_far (step ∷ steps) id f p d (as_type _ at_ty _) stands k c s =
        by_ty so_far step steps id f p d stands k c at_ty (type_at items id) refl s
        (λ next g q inner. leads_found (so_far ++ step ∷ []) steps next g q inner)
    leads_found so_far (step ∷ steps) id f p d (as_object impl_no h i) stands k c s =
        absurd (by (type_at items id) h s)
      where
        by : (o : Option Ty) → is_dyn o ≡ true → sure_step so_far step o (are_sure (so_far ++ step ∷ []) steps)
            ≡ true →
            ⊥
        by None h e = false≢true h
        by (Some ty) h e = no_step_in_dyn ty so_far step (are_sure (so_far ++ step ∷ []) steps) h e
