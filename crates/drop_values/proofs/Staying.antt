-- What is known as present wherever an address leads stays so: as a value is stored, and as something is taken that
-- lies apart from it.
use Rattle.std.proofs.Common.{◌≡◌, ◌≢◌, ◌⊎◌, inl, inr, ℕ, zero, suc, ◌&&◌, not, Bool, true, false, List, [], ◌∷◌, Option, Some, if◌then◌else◌, refl, ap, sym, ◌∙◌, subst}
use Rattle.std.specs.Cmp.{first_so, second_so}
use Rattle.std.specs.Cmp.Derive.{both_true}
use Rattle.std.proofs.lemmas.Bool.Decides.{eqb_tells}
use Rattle.std.proofs.lemmas.Option.{none-some}
use Rattle.mir_ty.specs.ItemTable.{ItemTable}
use Rattle.store_model.proofs.Values.Access.{replaced-step}
use Rattle.store_model.specs.declared.address.At.{At}
use Rattle.store_model.specs.declared.address.At.TheVariants.{Part, Inside}
use Rattle.store_model.specs.Abstract.Presence.{Presence, Parts, known, none_named, named, presence_at, changed_among, after_action, all_present, all_parts_present}
use Rattle.store_model.specs.Concrete.Location.{DynamicType, type_of_part}
use Rattle.store_model.specs.Places.Place.{Step, ToPart, ToField, ToContent, same_step}
use Rattle.store_model.specs.Values.Access.{part_at, with_part_at, replaced}
use Rattle.store_model.specs.Values.Datum.{Datum, Data, Gone, Aggregate, Box, no_part, a_part}
use Rattle.drop_values.proofs.Behind.{Leads, stops, by_part, by_content}
use Rattle.drop_values.specs.Typed.{is_enum_found, part_step, step_if}
use Rattle.drop_values.proofs.Fits.{step_itself, StepIsNot, parts_apart, known_same, known_other, present_below}
use Rattle.drop_values.proofs.Ways.{Way, ends, to_part, to_field, to_content}

-- ---- a store leaves what is wholly present so

among-stored : (step : Step) (change : Presence → Presence) (o : Presence) (parts : Parts) →
    ((p : Presence) → all_present p ≡ true → all_present (change p) ≡ true) → all_present o ≡ true →
    all_parts_present parts ≡ true → all_parts_present (changed_among step change o parts) ≡ true
among-stored step change o none_named c h k = both_true (c o h) refl
among-stored step change o (named other part rest) c h k =
    by (same_step step other) (among-stored step change o rest c h
    (second_so (all_present part) (all_parts_present rest) k))
  where
    by : (b : Bool) → all_parts_present (changed_among step change o rest) ≡ true →
        all_parts_present (if b then named other (change part) rest else named other part
        (changed_among step change o rest)) ≡ true
    by true others = both_true (c part (first_so (all_present part) (all_parts_present rest) k))
        (second_so (all_present part) (all_parts_present rest) k)
    by false others = both_true (first_so (all_present part) (all_parts_present rest) k) others

pub all-stored : (steps : List Step) (p : Presence) → all_present p ≡ true →
    all_present (after_action false steps p) ≡ true
all-stored [] p h = refl
all-stored (step ∷ steps) (known gone parts) h =
    let g = first_so (not gone) (all_parts_present parts) h in both_true g
    (among-stored step (after_action false steps) (known gone none_named) parts (all-stored steps)
    (both_true g refl) (second_so (not gone) (all_parts_present parts) h))

-- ---- parts with another one

part-same : (n : ℕ) (new inner : Datum) (parts : Data) → part_at n parts ≡ Some inner →
    part_at n (with_part_at n new parts) ≡ Some new
part-same n new inner no_part e = absurd (none-some inner e)
part-same zero new inner (a_part first rest) e = refl
part-same (suc n) new inner (a_part first rest) e = part-same n new inner rest e

part-other : (m n : ℕ) (new : Datum) (parts : Data) → m ≢ n → part_at m (with_part_at n new parts) ≡ part_at m parts
part-other m n new no_part d = refl
part-other zero zero new (a_part first rest) d = absurd (d refl)
part-other zero (suc n) new (a_part first rest) d = refl
part-other (suc m) zero new (a_part first rest) d = refl
part-other (suc m) (suc n) new (a_part first rest) d = part-other m n new rest (λ e. d (ap suc e))

-- two paths take different parts of some value
abbrev pub Diverge : List At → List At → Type 0
Diverge (Part n ∷ path) (Part m ∷ other) = (n ≢ m) ⊎ Diverge path other
Diverge (Inside ∷ path) (Inside ∷ other) = Diverge path other
Diverge (Part n ∷ path) (Inside ∷ other) = Unit {0}
Diverge (Inside ∷ path) (Part m ∷ other) = Unit {0}
Diverge [] other = ⊥
Diverge (step ∷ path) [] = ⊥

module _ (items : ItemTable) where
  -- wherever the path leads, all is known as present
  abbrev pub AllLed : List At → DynamicType → Presence → Datum → Type 0
  AllLed path found p d = (f : DynamicType) (q : Presence) (e : Datum) → Leads items path found p d f q e →
      all_present q ≡ true

  pub leads-present : {path : List At} {found f : DynamicType} {p q : Presence} {d e : Datum} →
      Leads items path found p d f q e → all_present p ≡ true → all_present q ≡ true
  leads-present (stops found p d) h = h
  leads-present (by_part path found p variant serial parts n inner f f' p' d' is_part is_found rest) h =
      leads-present rest (present_below items (part_step items found variant n) p h)
  leads-present (by_content path found p serial impl_no inside f f' p' d' is_found rest) h =
      leads-present rest (present_below items ToContent p h)

  -- a change of one part, and of what is known of it
  module _ (found : DynamicType) (variant : ℕ) (serial : Option ℕ) (parts : Data) (n : ℕ) (inner new : Datum)
      (f : DynamicType) (p p' : Presence) (is_part : part_at n parts ≡ Some inner)
      (is_found : type_of_part items (Part n) (Aggregate variant serial no_part) found ≡ Some f) where
    abbrev step_here : Step
    step_here = part_step items found variant n

    part-stays : (path : List At) (others : (m : ℕ) → m ≢ n → presence_at (part_step items found variant m)
        p' ≡ presence_at (part_step items found variant m) p) →
        (path ≡ [] → all_present p ≡ true → all_present p' ≡ true) →
        ((rest : List At) → path ≡ Part n ∷ rest → AllLed rest f (presence_at step_here p) inner →
        AllLed rest f (presence_at step_here p') new) →
        AllLed path found p (Aggregate variant serial parts) → AllLed path found p'
        (Aggregate variant serial (with_part_at n new parts))
    part-stays path others whole here h g q e (stops _ _ _) =
        whole refl (h found p (Aggregate variant serial parts) (stops found p (Aggregate variant serial parts)))
    part-stays path others whole here h g q e (by_part rest _ _ _ _ _ m inner' f2 _ _ _ is_part' is_found' l) =
        elim (eqb_tells m n) [
          | inl y ↦ at_it y.1
          | inr y ↦ h g q e (by_part rest found p variant serial parts m inner' f2 g q e
              (sym (part-other m n new parts y.1) ∙ is_part') is_found'
              (subst (λ r. Leads items rest f2 r inner' g q e) (others m y.1) l))
        ]
      where
        at_it : m ≡ n → all_present q ≡ true
        at_it same =
            let new_is : inner' ≡ new = (let x : Some inner' ≡ Some new = sym is_part'
            ∙ ap (λ k. part_at k (with_part_at n new parts)) same ∙ part-same n new inner parts is_part in cc) in
            let f_is : f2 ≡ f = (let x : Some f2 ≡ Some f = sym is_found'
            ∙ ap (λ k. type_of_part items (Part k) (Aggregate variant serial no_part) found) same
            ∙ is_found in cc) in
            here rest (ap (λ k. Part k ∷ rest) same)
            (λ g' q' e' l'. h g' q' e' (subst (λ k. Leads items (Part k ∷ rest) found p
            (Aggregate variant serial parts) g' q' e') (sym same)
            (by_part rest found p variant serial parts n inner f g' q' e' is_part is_found l')))
            g q e
            (subst (λ k. Leads items rest f (presence_at (part_step items found variant k) p') new g q e) same
            (subst (λ t. Leads items rest t (presence_at (part_step items found variant m) p') new g q e) f_is
            (subst (λ v. Leads items rest f2 (presence_at (part_step items found variant m) p') v g q e) new_is l)))

  -- a change of the content of a box
  content-stays : (found : DynamicType) (serial : ℕ) (impl_no : Option ℕ) (inside new : Datum) (f : DynamicType)
      (p p' : Presence) → type_of_part items Inside (Box serial impl_no Gone) found ≡ Some f → (path : List At) →
      (path ≡ [] → all_present p ≡ true → all_present p' ≡ true) →
      ((rest : List At) → path ≡ Inside ∷ rest → AllLed rest f (presence_at ToContent p) inside →
      AllLed rest f (presence_at ToContent p') new) →
      AllLed path found p (Box serial impl_no inside) → AllLed path found p' (Box serial impl_no new)
  content-stays found serial impl_no inside new f p p' is_found path whole here h g q e (stops _ _ _) =
      whole refl (h found p (Box serial impl_no inside) (stops found p (Box serial impl_no inside)))
  content-stays found serial impl_no inside new f p p' is_found path whole here h g q e
      (by_content rest _ _ _ _ _ f2 _ _ _ is_found' l) =
      let f_is : f2 ≡ f = (let x : Some f2 ≡ Some f = sym is_found' ∙ is_found in cc) in
      here rest refl (λ g' q' e' l'. h g' q' e' (by_content rest found p serial impl_no inside f g' q' e' is_found l'))
      g q e (subst (λ t. Leads items rest t (presence_at ToContent p') new g q e) f_is l)

  abbrev pub MayTake : Bool → List At → List At → Type 0
  MayTake takes path other = (takes ≡ false) ⊎ Diverge path other

  whole_after : (takes : Bool) (step : Step) (steps : List Step) (p : Presence) → (takes ≡ false)
      ⊎ ⊥ → all_present p ≡ true → all_present (after_action takes (step ∷ steps) p) ≡ true
  whole_after takes step steps p (inl e) h = subst (λ t. all_present (after_action t (step ∷ steps) p) ≡ true)
      (sym e) (all-stored (step ∷ steps) p h)
  whole_after takes step steps p (inr never) h = absurd never

  further : (takes : Bool) (n : ℕ) (path other : List At) → MayTake takes (Part n ∷ path) (Part n ∷ other) →
      MayTake takes path other
  further takes n path other (inl s) = inl s
  further takes n path other (inr (inl d)) = absurd (d refl)
  further takes n path other (inr (inr d)) = inr d

  at-part : (takes : Bool) (p : Presence) (new : Datum) (other : List At) (step : Step) (steps : List Step)
      (path : List At) (found : DynamicType) (variant : ℕ) (serial : Option ℕ) (parts : Data) (n : ℕ)
      (inner : Datum) (f : DynamicType) →
      part_step items found variant n ≡ step → part_at n parts ≡ Some inner → type_of_part items
      (Part n) (Aggregate variant serial no_part) found ≡ Some f →
      ((rest : List At) → MayTake takes path rest → AllLed rest f (presence_at step p) inner →
      AllLed rest f (after_action takes steps (presence_at step p)) (replaced path new inner)) →
      MayTake takes (Part n ∷ path) other → AllLed other found p (Aggregate variant serial parts) →
      AllLed other found (after_action takes (step ∷ steps) p)
      (replaced (Part n ∷ path) new (Aggregate variant serial parts))
  at-part takes p new other step steps path found variant serial parts n inner f step_is is_part is_found again may h =
      subst (AllLed other found (after_action takes (step ∷ steps) p))
      (sym (replaced-step (Part n) path new (Aggregate variant serial parts) inner is_part))
      (part-stays found variant serial parts n inner (replaced path new inner) f p (after_action takes (step ∷ steps) p)
      is_part is_found other
      (λ m m_other. known_other items (part_step items found variant m) step (after_action takes steps) p
      (subst (StepIsNot items (part_step items found variant m)) step_is
      (parts_apart items (is_enum_found items found) variant m n m_other)))
      (λ e k. whole_after takes step steps p (subst (MayTake takes (Part n ∷ path)) e may) k)
      (λ rest e h'. subst (λ r. AllLed rest f r (replaced path new inner))
      (sym (ap (λ s. presence_at s (after_action takes (step ∷ steps) p)) step_is
      ∙ known_same items step (after_action takes steps) p
      (subst (λ s. same_step s s ≡ true) step_is (step_itself items (is_enum_found items found) variant n))))
      (again rest (further takes n path rest (subst (MayTake takes (Part n ∷ path)) e may))
      (subst (λ s. AllLed rest f (presence_at s p) inner) step_is h'))) h)

  at-content : (takes : Bool) (p : Presence) (new : Datum) (other : List At) (steps : List Step)
      (path : List At) (found : DynamicType) (serial : ℕ) (impl_no : Option ℕ) (inside : Datum) (f : DynamicType) →
      type_of_part items Inside (Box serial impl_no Gone) found ≡ Some f →
      ((rest : List At) → MayTake takes path rest → AllLed rest f (presence_at ToContent p) inside →
      AllLed rest f (after_action takes steps (presence_at ToContent p)) (replaced path new inside)) →
      MayTake takes (Inside ∷ path) other → AllLed other found p (Box serial impl_no inside) →
      AllLed other found (after_action takes (ToContent ∷ steps) p) (Box serial impl_no (replaced path new inside))
  at-content takes p new other steps path found serial impl_no inside f is_found again may h =
      content-stays found serial impl_no inside (replaced path new inside) f p
      (after_action takes (ToContent ∷ steps) p) is_found other
      (λ e k. whole_after takes ToContent steps p (subst (MayTake takes (Inside ∷ path)) e may) k)
      (λ rest e h'. subst (λ r. AllLed rest f r (replaced path new inside))
      (sym (known_same items ToContent (after_action takes steps) p refl))
      (again rest (subst (MayTake takes (Inside ∷ path)) e may) h')) h

  -- a value is stored, or taken apart from the address, at a place of the body's own
  pub stays : {steps : List Step} {path : List At} {found f' : DynamicType} {d d' : Datum} (takes : Bool)
      (p : Presence) (new : Datum) (other : List At) → Way items steps path found d f' d' → MayTake takes path other →
      AllLed other found p d →
      AllLed other found (after_action takes steps p) (replaced path new d)
  stays takes p new other (ends found d) (inl e) h = λ g q x l. leads-present l (ap (λ t. not t && true) e)
  stays takes p new other (ends found d) (inr never) h = absurd never
  stays takes p new other (to_part steps path found variant serial parts n inner f f' d' not_enum is_part is_found way)
      may h =
      at-part takes p new other (ToPart n) steps path found variant serial parts n inner f
      (ap (λ b. step_if items b variant n) not_enum) is_part is_found
      (λ rest m k. stays takes (presence_at (ToPart n) p) new rest way m k) may h
  stays takes p new other (to_field steps path found variant serial parts n inner f f' d' enum is_part is_found way)
      may h =
      at-part takes p new other (ToField variant n) steps path found variant serial parts n inner f
      (ap (λ b. step_if items b variant n) enum) is_part is_found
      (λ rest m k. stays takes (presence_at (ToField variant n) p) new rest way m k) may h
  stays takes p new other (to_content steps path found serial impl_no inside f f' d' is_found way) may h =
      at-content takes p new other steps path found serial impl_no inside f is_found
      (λ rest m k. stays takes (presence_at ToContent p) new rest way m k) may h

  -- a whole value is stored where a reference leads
  pub behind-stays : {path : List At} {found f' : DynamicType} {p p' : Presence} {d d' : Datum}
      (new : Datum) (other : List At) → Leads items path found p d f' p' d' → all_present p' ≡ true →
      AllLed other found p d → AllLed other found p (replaced path new d)
  behind-stays new other (stops found p d) whole h = λ g q e l. leads-present l whole
  behind-stays new other (by_part path found p variant serial parts n inner f f' p' d' is_part is_found rest) whole h =
      subst (AllLed other found p) (sym (replaced-step (Part n) path new (Aggregate variant serial parts)
      inner is_part))
      (part-stays found variant serial parts n inner (replaced path new inner) f p p is_part is_found other
      (λ m m_other. refl) (λ e k. k) (λ more e k. behind-stays new more rest whole k) h)
  behind-stays new other (by_content path found p serial impl_no inside f f' p' d' is_found rest) whole h =
      content-stays found serial impl_no inside (replaced path new inside) f p p is_found other
      (λ e k. k) (λ more e k. behind-stays new more rest whole k) h
