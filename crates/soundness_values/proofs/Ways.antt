-- Where the steps of a place lead within a value, through parts and boxes, and what is known there; and the whole
-- after something was taken from there or stored there.
use Rattle.std.proofs.Common.{◌≡◌, ℕ, pos, ◌==◌, Bool, true, false, List, [], ◌∷◌, ◌++◌, Option, Some, None, refl, ap, sym, ◌∙◌, subst, append_assoc}
use Rattle.std.proofs.lemmas.Bool.{false≢true}
use Rattle.std.proofs.lemmas.List.{append-nil}
use Rattle.mir_ty.specs.ItemTable.{ItemTable}
use Rattle.store_model.proofs.Values.Access.{value_at-step, replaced-step}
use Rattle.store_model.specs.declared.address.Addr.{Addr}
use Rattle.store_model.specs.declared.address.At.{At}
use Rattle.store_model.specs.declared.address.At.TheVariants.{Part, Inside}
use Rattle.store_model.specs.Values.Datum.{Datum, Data, Gone, Number, Aggregate, Box, no_part}
use Rattle.store_model.specs.Places.Place.{Step, ToPart, ToField, ToContent, ToElement, same_step}
use Rattle.store_model.specs.Values.Access.{part, part_at, with_part_at, value_at, replaced}
use Rattle.store_model.specs.Abstract.Presence.{Presence, known, none_named, is_present, presence_at, presence_along, changed_at, after_action, all_present}
use Rattle.store_model.specs.Concrete.Location.{Setting, DynamicType, type_of_part, Located, Reached, Reaches, CutOff, Nowhere, on_reached, into, into_element, along}
use Rattle.store_model.specs.Concrete.State.{State, Cells, cell}
use Rattle.soundness_values.proofs.Fits.{is_enum_found, Fits, PartsFit, part_step, present_below, whole_if_present, present_if_whole, known_same, known_other, itself_same, same_itself, step_itself, step_if, parts_apart, StepIsNot, part_fits, with_part_fits}

-- the steps lead by this path to a part that is found so
pub data Way (items : ItemTable) : List Step → List At → DynamicType → Datum → DynamicType → Datum → Type 0 where
  ends : (found : DynamicType) (d : Datum) → Way items [] [] found d found d
  to_part : (steps : List Step) (path : List At) (found : DynamicType) (variant : ℕ) (serial : Option ℕ)
      (parts : Data)
      (n : ℕ) (inner : Datum) (f f' : DynamicType) (d' : Datum) →
      is_enum_found items found ≡ false → part_at n parts ≡ Some inner → type_of_part items (Part n)
      (Aggregate variant serial no_part) found ≡ Some f →
      Way items steps path f inner f' d' → Way items (ToPart n ∷ steps) (Part n ∷ path) found
      (Aggregate variant serial parts) f' d'
  to_field : (steps : List Step) (path : List At) (found : DynamicType) (variant : ℕ) (serial : Option ℕ)
      (parts : Data)
      (n : ℕ) (inner : Datum) (f f' : DynamicType) (d' : Datum) →
      is_enum_found items found ≡ true → part_at n parts ≡ Some inner → type_of_part items (Part n)
      (Aggregate variant serial no_part) found ≡ Some f →
      Way items steps path f inner f' d' → Way items (ToField variant n ∷ steps) (Part n ∷ path) found
      (Aggregate variant serial parts) f' d'
  to_content : (steps : List Step) (path : List At) (found : DynamicType) (serial : ℕ) (impl_no : Option ℕ)
      (inside : Datum) (f f' : DynamicType) (d' : Datum) →
      type_of_part items Inside (Box serial impl_no Gone) found ≡ Some f →
      Way items steps path f inside f' d' → Way items (ToContent ∷ steps) (Inside ∷ path) found
      (Box serial impl_no inside) f' d'
  to_element : (steps : List Step) (path : List At) (found : DynamicType) (variant : ℕ) (serial : Option ℕ)
      (parts : Data) (i n : ℕ) (inner : Datum) (f f' : DynamicType) (d' : Datum) → part_at n parts ≡ Some inner →
      type_of_part items (Part n) (Aggregate variant serial no_part) found ≡ Some f →
      Way items steps path f inner f' d' →
      Way items (ToElement i ∷ steps) (Part n ∷ path) found (Aggregate variant serial parts) f' d'

-- the locals hold the numbers of the elements that a path takes
abbrev pub Indexed : Cells → List Step → List At → Type 0
Indexed cells (ToElement i ∷ steps) (Part n ∷ path) = (cell i cells ≡ Number (pos n)) × Indexed cells steps path
Indexed cells (step ∷ steps) (at ∷ path) = Indexed cells steps path
Indexed cells steps path = Unit {0}

-- what is at the end of the steps, or the array of which they take an element, is known as whole
abbrev pub whole_along : List Step → Presence → Bool
whole_along [] p = all_present p
whole_along (ToElement i ∷ steps) p = all_present p
whole_along (ToPart n ∷ steps) p = whole_along steps (presence_at (ToPart n) p)
whole_along (ToField variant n ∷ steps) p = whole_along steps (presence_at (ToField variant n) p)
whole_along (ToContent ∷ steps) p = whole_along steps (presence_at ToContent p)

abbrev pub has_index : List Step → Bool
has_index [] = false
has_index (ToElement i ∷ steps) = true
has_index (ToPart n ∷ steps) = has_index steps
has_index (ToField variant n ∷ steps) = has_index steps
has_index (ToContent ∷ steps) = has_index steps

-- what is known as wholly present is so along all steps
pub present_along : (items : ItemTable) (steps : List Step) (p : Presence) → all_present p ≡ true →
    whole_along steps p ≡ true
present_along items [] p h = h
present_along items (ToElement i ∷ steps) p h = h
present_along items (ToPart n ∷ steps) p h =
    present_along items steps (presence_at (ToPart n) p) (present_below items (ToPart n) p h)
present_along items (ToField variant n ∷ steps) p h =
    present_along items steps (presence_at (ToField variant n) p) (present_below items (ToField variant n) p h)
present_along items (ToContent ∷ steps) p h =
    present_along items steps (presence_at ToContent p) (present_below items ToContent p h)

module _ (setting : Setting) (w : State) (cells : Cells) where
  abbrev below : Addr → At → Addr
  below address step = record address { path = address.path ++ step ∷ [] }

  into_gives : (s : Located) (step : At) (inner : Datum) (f : DynamicType) → part step s.value ≡ Some inner →
      type_of_part setting.items step s.value s.dynamic ≡ Some f →
      into setting.items step s ≡ Some
      (record { address = record s.address { path = s.address.path ++ step ∷ [] }; dynamic = f; value = inner })
  into_gives s step inner f e h = cc

  longer : (address : Addr) (step : At) (path : List At) (f : DynamicType) (d : Datum) →
      Reaches (record {
        address = record address { path = (address.path ++ step ∷ []) ++ path };
        dynamic = f;
        value =
            d;
      }) ≡ Reaches (record {
        address = record address { path = address.path ++ step ∷ path };
        dynamic = f;
        value =
            d;
      })
  longer address step path f d =
      ap (λ p. Reaches (record { address = record address { path = p }; dynamic = f; value = d }))
      (append_assoc address.path (step ∷ []) path)

  abbrev go_on : (steps : List Step) → Option Located → Reached
  go_on steps None = Nowhere
  go_on steps (Some s) = along setting w cells steps s

  gone_on : (steps : List Step) (o : Option Located) →
      on_reached (elim o as (λ x. Reached) [ None ↦ Nowhere | Some s ↦ Reaches s ])
      (λ x. along setting w cells steps x)
      CutOff Nowhere ≡ go_on steps o
  gone_on steps None = refl
  gone_on steps (Some s) = refl

  same_variant : (variant : ℕ) (steps : List Step) (o : Option Located) →
      on_reached ((elim (variant == variant) as (λ x. Option Located → Reached)
      [ false ↦ λ s. Nowhere | true ↦ λ s. elim s as (λ x. Reached) [ None ↦ Nowhere | Some s' ↦ Reaches s' ] ]) o)
      (λ x. along setting w cells steps x) CutOff Nowhere ≡ go_on steps o
  same_variant variant steps o =
      ap (λ b. on_reached ((elim b as (λ x. Option Located → Reached)
      [ false ↦ λ s. Nowhere | true ↦ λ s. elim s as (λ x. Reached) [ None ↦ Nowhere | Some s' ↦ Reaches s' ] ]) o)
      (λ x. along setting w cells steps x) CutOff Nowhere) (same_itself setting.items variant)
      ∙ gone_on steps o

  -- a place is reached by its way
  pub reached_by_way : {steps : List Step} {path : List At} {found f' : DynamicType} {d d' : Datum}
      (address : Addr) →
      Way setting.items steps path found d f' d' → Indexed cells steps path →
      along setting w cells steps (record { address = address; dynamic = found; value = d }) ≡ Reaches
      (record { address = record address { path = address.path ++ path }; dynamic = f'; value = d' })
  reached_by_way address (ends found d) x =
      ap (λ path. Reaches (record { address = record address { path = path }; dynamic = found; value = d }))
      (sym (append-nil address.path))
  reached_by_way address
      (to_part steps path found variant serial parts n inner f f' d' not_enum is_part is_found way)
      x =
      gone_on steps _ ∙ ap (go_on steps)
      (into_gives (record { address = address; dynamic = found; value = Aggregate variant serial parts })
      (Part n) inner f is_part is_found) ∙ reached_by_way (below address (Part n)) way x
      ∙ longer address (Part n) path f' d'
  reached_by_way address (to_field steps path found variant serial parts n inner f f' d' enum is_part is_found way)
      x =
      same_variant variant steps _
      ∙ ap (go_on steps) (into_gives
      (record { address = address; dynamic = found; value = Aggregate variant serial parts })
      (Part n) inner f is_part is_found) ∙ reached_by_way (below address (Part n)) way x
      ∙ longer address (Part n) path f' d'
  reached_by_way address (to_content steps path found serial impl_no inside f f' d' is_found way) x =
      gone_on steps _ ∙ ap (go_on steps)
      (into_gives (record { address = address; dynamic = found; value = Box serial impl_no inside }) Inside inside f
      refl is_found) ∙ reached_by_way (below address Inside) way x ∙ longer address Inside path f' d'
  reached_by_way address (to_element steps path found variant serial parts i n inner f f' d' is_part is_found way)
      x =
      ap (λ v. on_reached (into_element setting w cells v
      (record { address = address; dynamic = found; value = Aggregate variant serial parts }))
      (λ s. along setting w cells steps s) CutOff Nowhere) x.0
      ∙ gone_on steps _ ∙ ap (go_on steps) (into_gives
      (record { address = address; dynamic = found; value = Aggregate variant serial parts })
      (Part n) inner f is_part is_found) ∙ reached_by_way (below address (Part n)) way x.1
      ∙ longer address (Part n) path f' d'

module _ (items : ItemTable) where
  -- a part fits what is known of it
  pub part_of_step : (p : Presence) (found : DynamicType) (variant : ℕ) (serial : Option ℕ) (parts : Data) (n : ℕ)
      (inner : Datum) (f : DynamicType) (b : Bool) → is_enum_found items found ≡ b → part_at n parts ≡ Some inner →
      type_of_part items (Part n) (Aggregate variant serial no_part) found ≡ Some f →
      Fits items found p (Aggregate variant serial parts) →
      Fits items f (presence_at (step_if items b variant n) p) inner
  part_of_step p found variant serial parts n inner f b enum is_part is_found k =
      let fit = part_fits items parts _ _ n inner k.3 is_part in
      subst (λ g. Fits items g (presence_at (step_if items b variant n) p) inner) (let same : fit.0 ≡ f = cc in same)
      (subst (λ b. Fits items fit.0 (presence_at (step_if items b variant n) p) inner) enum fit.2)

  pub content_of_box : (p : Presence) (found : DynamicType) (serial : ℕ) (impl_no : Option ℕ) (inside : Datum)
      (f : DynamicType) → type_of_part items Inside (Box serial impl_no Gone) found ≡ Some f →
      Fits items found p (Box serial impl_no inside) → Fits items f (presence_at ToContent p) inside
  content_of_box p found serial impl_no inside f is_found k =
      subst (λ g. Fits items g (presence_at ToContent p) inside) (let same : k.2.0 ≡ f = cc in same) k.2.2

  -- what stands at the end of a way
  pub way_value : {steps : List Step} {path : List At} {found f' : DynamicType} {d d' : Datum} →
      Way items steps path found d f' d' → value_at path d ≡ Some d'
  way_value (ends found d) = refl
  way_value (to_part steps path found variant serial parts n inner f f' d' a is_part b way) =
      value_at-step (Part n) path (Aggregate variant serial parts) inner is_part ∙ way_value way
  way_value (to_field steps path found variant serial parts n inner f f' d' a is_part b way) =
      value_at-step (Part n) path (Aggregate variant serial parts) inner is_part ∙ way_value way
  way_value (to_content steps path found serial impl_no inside f f' d' a way) = way_value way
  way_value (to_element steps path found variant serial parts i n inner f f' d' is_part b way) =
      value_at-step (Part n) path (Aggregate variant serial parts) inner is_part ∙ way_value way

  -- what is known at the end of a way without an index fits what stands there
  pub fits_at_end : {steps : List Step} {path : List At} {found f' : DynamicType} {d d' : Datum} (p : Presence) →
      Way items steps path found d f' d' → has_index steps ≡ false → Fits items found p d →
      Fits items f' (presence_along steps p) d'
  fits_at_end p (ends found d) h k = k
  fits_at_end p (to_part steps path found variant serial parts n inner f f' d' not_enum is_part is_found way) h k =
      fits_at_end (presence_at (ToPart n) p) way h
      (part_of_step p found variant serial parts n inner f false not_enum is_part is_found k)
  fits_at_end p (to_field steps path found variant serial parts n inner f f' d' enum is_part is_found way) h k =
      fits_at_end (presence_at (ToField variant n) p) way h
      (part_of_step p found variant serial parts n inner f true enum is_part is_found k)
  fits_at_end p (to_content steps path found serial impl_no inside f f' d' is_found way) h k =
      fits_at_end (presence_at ToContent p) way h (content_of_box p found serial impl_no inside f is_found k)
  fits_at_end p (to_element steps path found variant serial parts i n inner f f' d' is_part is_found way) h k =
      absurd (false≢true (sym h))

  -- where the end, or the array of which an element is taken, is known as whole, what stands there is whole
  pub whole_at_end : {steps : List Step} {path : List At} {found f' : DynamicType} {d d' : Datum} (p : Presence) →
      Way items steps path found d f' d' → whole_along steps p ≡ true → Fits items found p d →
      Fits items f' is_present d'
  whole_at_end p (ends found d) h k = present_if_whole items d found p (whole_if_present items d found p h k) k
  whole_at_end p (to_part steps path found variant serial parts n inner f f' d' not_enum is_part is_found way) h k =
      whole_at_end (presence_at (ToPart n) p) way h
      (part_of_step p found variant serial parts n inner f false not_enum is_part is_found k)
  whole_at_end p (to_field steps path found variant serial parts n inner f f' d' enum is_part is_found way) h k =
      whole_at_end (presence_at (ToField variant n) p) way h
      (part_of_step p found variant serial parts n inner f true enum is_part is_found k)
  whole_at_end p (to_content steps path found serial impl_no inside f f' d' is_found way) h k =
      whole_at_end (presence_at ToContent p) way h (content_of_box p found serial impl_no inside f is_found k)
  whole_at_end p (to_element steps path found variant serial parts i n inner f f' d' is_part is_found way) h k =
      whole_at_end (presence_at (part_step items found variant n) p) way
      (present_along items steps (presence_at (part_step items found variant n) p)
      (present_below items (part_step items found variant n) p h))
      (part_of_step p found variant serial parts n inner f (is_enum_found items found) refl is_part is_found k)

  -- the parts after one of them became another one
  part_changed : (b : Bool) (variant n : ℕ) (step : Step) → step_if items b variant n ≡ step →
      (parts : Data) (found_at : ℕ → Option DynamicType) (p : Presence) (change : Presence → Presence)
      (inner changed : Datum) (f : DynamicType) → part_at n parts ≡ Some inner → found_at n ≡ Some f →
      PartsFit items found_at (λ m. presence_at (step_if items b variant m) p) parts →
      (Fits items f (presence_at step p) inner → Fits items f (change (presence_at step p)) changed) →
      PartsFit items found_at (λ m. presence_at (step_if items b variant m) (changed_at step change p))
      (with_part_at n changed parts)
  part_changed b variant n step e parts found_at p change inner changed f is_part is_found k then_fits =
      let was = part_fits items parts found_at (λ m. presence_at (step_if items b variant m) p) n inner k is_part in
      with_part_fits items parts found_at (λ m. presence_at (step_if items b variant m) p)
      (λ m. presence_at (step_if items b variant m) (changed_at step change p)) n changed f k is_found
      (subst (λ q. Fits items f q changed)
      (sym (ap (λ s. presence_at s (changed_at step change p)) e ∙ known_same items step change p
      (subst (λ s. same_step s s ≡ true) e (step_itself items b variant n))))
      (then_fits (subst (λ s. Fits items f (presence_at s p) inner) e
      (subst (λ g. Fits items g (presence_at (step_if items b variant n) p) inner)
      (let same : was.0 ≡ f = cc in same) was.2))))
      (λ m differ. known_other items (step_if items b variant m) step change p
      (subst (StepIsNot items (step_if items b variant m)) e (parts_apart items b variant m n differ)))

  -- the whole after another value came to the end of a way
  pub fits_changed : {steps : List Step} {path : List At} {found f' : DynamicType} {d d' : Datum} (takes : Bool)
      (p : Presence) (new : Datum) → Way items steps path found d f' d' → has_index steps ≡ false →
      Fits items found p d → Fits items f' (known takes none_named) new →
      Fits items found (after_action takes steps p)
      (replaced path new d)
  fits_changed takes p new (ends found d) no_index k fit = fit
  fits_changed takes p new
      (to_part steps path found variant serial parts n inner f f' d' not_enum is_part is_found way)
      no_index k fit =
      subst (Fits items found (after_action takes (ToPart n ∷ steps) p))
      (sym (replaced-step (Part n) path new (Aggregate variant serial parts) inner is_part)) (
        itself_same items (ToPart n) (after_action takes steps) p ∙ k.0,
        k.1,
        k.2,
        part_changed (is_enum_found items found) variant n (ToPart n) (ap (λ b. step_if items b variant n) not_enum)
            parts (λ m. type_of_part items (Part m) (Aggregate variant serial no_part) found) p
            (after_action takes steps) inner (replaced path new inner) f is_part is_found k.3
            (λ h. fits_changed takes (presence_at (ToPart n) p) new way no_index h fit),
      )
  fits_changed takes p new (to_field steps path found variant serial parts n inner f f' d' enum is_part is_found way)
      no_index k fit =
      subst (Fits items found (after_action takes (ToField variant n ∷ steps) p))
      (sym (replaced-step (Part n) path new (Aggregate variant serial parts) inner is_part)) (
        itself_same items (ToField variant n) (after_action takes steps) p ∙ k.0,
        k.1,
        k.2,
        part_changed (is_enum_found items found) variant n (ToField variant n)
            (ap (λ b. step_if items b variant n) enum) parts
            (λ m. type_of_part items (Part m) (Aggregate variant serial no_part) found) p
            (after_action takes steps) inner (replaced path new inner) f is_part is_found k.3
            (λ h. fits_changed takes (presence_at (ToField variant n) p) new way no_index h fit),
      )
  fits_changed takes p new (to_content steps path found serial impl_no inside f f' d' is_found way) no_index k fit = (
    itself_same items ToContent (after_action takes steps) p ∙ k.0,
    k.1,
    (
      f,
      is_found,
      subst (λ q. Fits items f q (replaced path new inside))
          (sym (known_same items ToContent (after_action takes steps) p refl))
          (fits_changed takes (presence_at ToContent p) new way no_index
          (subst (λ g. Fits items g (presence_at ToContent p) inside) (let same : k.2.0 ≡ f = cc in same) k.2.2)
          fit),
    ),
  )
  fits_changed takes p new (to_element steps path found variant serial parts i n inner f f' d' is_part is_found way)
      no_index k fit = absurd (false≢true (sym no_index))
