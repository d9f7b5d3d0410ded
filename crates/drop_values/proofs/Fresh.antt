-- Each part that a drop comes to may as well be read afresh: what was read before it began still stands.
use Rattle.std.proofs.Common.{◌≡◌, inl, inr, ℕ, zero, suc, ◌==◌, ◌≤◌, ◌<◌, Bool, true, false, Option, Some, None, refl, ap, sym, ◌∙◌, subst, arith}
use Rattle.std.proofs.lemmas.Bool.Decides.{eqb_tells}
use Rattle.std.specs.Option.{option_map_or}
use Rattle.mir_ty.specs.declared.ty.Ty.{Ty}
use Rattle.mir_ty.specs.declared.ty.TyId.{TyId}
use Rattle.mir_ty.specs.ItemTable.{ItemTable}
use Rattle.store_model.specs.declared.address.At.TheVariants.{Part, Inside}
use Rattle.store_model.specs.Values.Datum.{Datum, Data, Gone, Aggregate, Box, no_part, a_part}
use Rattle.store_model.specs.Concrete.Drops.{in_mode, drop_impl, still_of, same_if, if_still_typed, Stage, Begins, gone_at, freed_at, as_read, if_part, with_body, own_body, drop_value, drop_parts, dropped_there, drop_at}
use Rattle.store_model.specs.Effects.{Mode, Stuck, Out, Go, Halts}
use Rattle.store_model.specs.Values.Access.{part}
use Rattle.store_model.specs.Concrete.Location.{Setting, DynamicType, OfType, concrete_ty, type_of_part, type_of_field, type_in_box, Located, below, into, located_at}
use Rattle.store_model.specs.Concrete.State.{State, Bodies}
use Rattle.store_model.proofs.Concrete.Effects.{Spending, drop_at_same}
use Rattle.drop_values.proofs.Stand.{Changed, with_value, into-parts, Stands, stands-into, standing-address}
use Rattle.drop_values.proofs.Frame.{tail, Each, same_in_mode, Frames, Rest, Next, next_part, if_found_is, drop_at-After, weaken}
use Rattle.drop_values.proofs.Sound.{Sound, SoundParts}

-- a type that is no trait object's is found again as itself
pub steady : (items : ItemTable) (id : TyId) → still_of items (OfType id) (OfType id) ≡ true
steady items id = elim (eqb_tells id.0 id.0) [ inl y ↦ y.0 | inr n ↦ absurd (n.1 refl) ]

module _ (setting : Setting) (run : Bodies) (frames : Frames setting run) (spending : Spending run) (bound : ℕ) where
  -- a part is dropped as it stands
  abbrev pub drop_if : Option Located → Mode → State → Out State
  drop_if None mode w = Halts Stuck w
  drop_if (Some t) mode w = drop_at setting run bound Begins t mode w

  -- the parts from a number on, each as it stands then
  abbrev pub drop_rest : Data → ℕ → Located → Mode → State → Out State
  drop_rest no_part k s mode w = Go w
  drop_rest (a_part first rest) k s mode w = in_mode mode (drop_if (into setting.items (Part k) s) mode w)
      (drop_rest rest (suc k) s)

  again_After : (n : ℕ) (stage : Stage) (s : Located) (v : Datum) (mode : Mode) (w : State) →
      Stands setting w (with_value s v) → Sound setting.items v s.dynamic → Each (Changed s.address Gone w)
      (drop_at setting run n stage s mode w)
  again_After n = drop_at-After setting run frames n

  module _ (n : ℕ) (ticks : ℕ) (few : ticks ≤ n) where
    -- as it was read, or as it stands
    same_part : (d : Datum) (t : Located) (mode : Mode) (w : State) → still_of setting.items t.dynamic
        t.dynamic ≡ true → t.value ≡ d → Stands setting w t → w.ticks ≤ ticks → w.ticks < bound →
        if_part setting run (drop_at setting run n) ticks (Some t)
        (drop_value setting run (drop_at setting run n) ticks d Begins) mode w ≡ drop_at setting
        run bound Begins t mode w
    same_part d t mode w sure value_is st l h = by (w.ticks == ticks) refl
      where
        by : (b : Bool) → (w.ticks == ticks) ≡ b →
            as_read setting run (drop_at setting run n) ticks b
            (drop_value setting run (drop_at setting run n) ticks d Begins) t mode w ≡ drop_at
            setting run bound Begins t mode w
        by true e = elim (eqb_tells w.ticks ticks) [
          | inl y ↦ (
              ap (λ x. drop_value setting run (drop_at setting run n) x d Begins t mode w) (sym y.1)
              ∙ ap (λ x. drop_value setting run (drop_at setting run n) w.ticks x Begins t mode w) (sym value_is)
              ∙ sym (ap (λ b. same_if b (dropped_there setting run (drop_at setting run n) Begins mode t) w) sure)
              ∙ sym (ap (λ o. if_still_typed setting.items t.dynamic o
              (dropped_there setting run (drop_at setting run n) Begins mode) w) st)
              ∙ drop_at_same setting run run spending w.ticks (λ event body args v k. refl)
              (suc n) bound Begins t mode w (omega arith) (let q = y.1 in omega (arith, q)) h
              )
          | inr y ↦ absurd (let x : true ≡ false = sym e ∙ y.0 in cc)
        ]
        by false e = elim (eqb_tells w.ticks ticks) [
          | inl y ↦ absurd (let x : true ≡ false = sym y.0 ∙ e in cc)
          | inr y ↦ drop_at_same setting run run spending w.ticks (λ event body args v k. refl) n bound Begins t mode w
              (omega arith) (let q = y.1 in omega (arith, q)) h
        ]

    as_id : (items : ItemTable) (variant k : ℕ) (o : Option Ty) (f : DynamicType) →
        type_of_field items variant k o ≡ Some f → (id : TyId) × (f ≡ OfType id)
    as_id items variant k None f e = absurd (let n : None ≡ Some f = e in cc)
    as_id items variant k (Some ty) f e = go _ e
      where
        go : (o : Option TyId) → option_map_or (λ id. Some (OfType id)) o None ≡ Some f → (id : TyId) × (f ≡ OfType id)
        go None e = absurd (let n : None ≡ Some f = e in cc)
        go (Some id) e = (id, (let x : f ≡ OfType id = cc in x))

    same_if_part : (o : Option Located) (d : Datum) (mode : Mode) (w : State) →
        ((t : Located) → o ≡ Some t → if_part setting run (drop_at setting run n) ticks (Some t)
        (drop_value setting run (drop_at setting run n) ticks d Begins) mode w ≡ drop_at setting
        run bound Begins t mode w) →
        if_part setting run (drop_at setting run n) ticks o
        (drop_value setting run (drop_at setting run n) ticks d Begins) mode w ≡ drop_if o mode w
    same_if_part None d mode w h = refl
    same_if_part (Some t) d mode w h = h t refl

    each_if : (P : State → Type 0) (o : Option Located) (mode : Mode) (w : State) →
        ((t : Located) → o ≡ Some t → Each P (drop_at setting run bound Begins t mode w)) → Each P (drop_if o mode w)
    each_if P None mode w h = tt
    each_if P (Some t) mode w h = h t refl

    same_rest : (rest : Data) (k : ℕ) (s : Located) (mode : Mode) (w w0 : State) (variant : ℕ) (serial : Option ℕ)
        (parts : Data) → s.value ≡ Aggregate variant serial parts → tail k parts ≡ rest →
        Rest setting run frames (drop_at setting run n) (again_After n) ticks s k variant serial rest w0 w →
        SoundParts setting.items rest (λ n. type_of_field setting.items variant n (concrete_ty setting.items s.dynamic))
        k → w.ticks ≤ ticks → w.ticks < bound →
        drop_parts setting run (drop_at setting run n) ticks rest k s mode w ≡ drop_rest rest k s mode w
    same_rest no_part k s mode w w0 variant serial parts is tails r sound l h = refl
    same_rest (a_part first rest) k s mode w w0 variant serial parts is tails r sound l h =
        ap (λ o. in_mode mode o (drop_parts setting run (drop_at setting run n) ticks rest (suc k) s))
        (same_if_part (into setting.items (Part k) s) first mode w (λ t e. let p = next t e in let f =
        as_id setting.items variant k _ t.dynamic p.found_is in same_part first t mode w
        (ap (λ f. still_of setting.items f f) f.1 ∙ steady setting.items f.0) p.value_is p.stands l h))
        ∙ same_in_mode Mid mode (drop_if (into setting.items (Part k) s) mode w) _ (drop_rest rest (suc k) s)
        (each_if Mid (into setting.items (Part k) s) mode w (λ t e. let p = next t e in
        weaken setting run frames (drop_at setting run n) (again_After n) ticks (Changed t.address Gone w) Mid
        (drop_at setting run bound Begins t mode w)
        (again_After bound Begins t t.value mode w p.stands (subst (λ d. Sound setting.items d t.dynamic)
        (sym p.value_is) (if_found_is setting run frames (drop_at setting run n) (again_After n) ticks
        (Sound setting.items first) _ t.dynamic p.found_is sound.0)))
        (λ v c. (p.goes_on v c, c.less))))
        (λ m v q. same_rest rest (suc k) s m v w0 variant serial parts is (later parts k tails) q.0 sound.1
        (let a = q.1 in omega arith) (let a = q.1 in omega arith))
      where
        Mid : State → Type 0
        Mid v = Rest setting run frames (drop_at setting run n) (again_After n) ticks s (suc k) variant serial rest w0 v
            × (v.ticks ≤ w.ticks)

        next : (t : Located) → into setting.items (Part k) s ≡ Some t → Next setting run frames
            (drop_at setting run n) (again_After n) ticks s k variant serial first rest w0 w t
        next t e = next_part setting run frames (drop_at setting run n) (again_After n) ticks s
            k variant serial parts first rest w0 w t is tails r e

        later : (parts : Data) (k : ℕ) → tail k parts ≡ a_part first rest → tail (suc k) parts ≡ rest
        later no_part zero e = absurd (let n : no_part ≡ a_part first rest = e in cc)
        later no_part (suc k) e = absurd (let n : no_part ≡ a_part first rest = e in cc)
        later (a_part f r) zero e = let x : r ≡ rest = cc in x
        later (a_part f r) (suc k) e = later r k e

  still_here : (s : Located) (id : TyId) (next : Located → State → Out State) (w : State) → s.dynamic ≡ OfType id →
      Stands setting w s → if_still_typed setting.items s.dynamic (located_at setting w s.address) next w ≡ next s w
  still_here s id next w f st =
      ap (λ o. if_still_typed setting.items s.dynamic o next w) st ∙ ap (λ b. same_if b (next s) w)
      (ap (λ f. still_of setting.items f f) f ∙ steady setting.items id)

  -- the drop of an aggregate without a `Drop` body
  pub aggregate_afresh : (s : Located) (id : TyId) (variant : ℕ) (serial : Option ℕ) (parts : Data)
      (mode : Mode) (w : State) → s.dynamic ≡ OfType id → s.value ≡ Aggregate variant serial parts →
      Stands setting w s →
      drop_impl setting.items (concrete_ty setting.items s.dynamic) ≡ None → SoundParts setting.items parts
      (λ n. type_of_field setting.items variant n (concrete_ty setting.items s.dynamic)) 0 → w.ticks < bound →
      drop_at setting run bound Begins s mode w ≡ in_mode mode (drop_rest parts 0 s mode w) (λ m. gone_at setting run s)
  aggregate_afresh s id variant serial parts mode w found_is is st none sound h = by bound h
    where
      by : (b : ℕ) → w.ticks < b → drop_at setting run b Begins s mode w ≡ in_mode mode (drop_rest parts 0 s mode w)
          (λ m. gone_at setting run s)
      by zero h = absurd (let never : ⊥ = omega arith in never)
      by (suc n) h' =
          still_here s id (dropped_there setting run (drop_at setting run n) Begins mode) w found_is st
          ∙ ap (λ d. drop_value setting run (drop_at setting run n) w.ticks d Begins s mode w) is
          ∙ ap (λ o. with_body setting run (drop_at setting run n) w.ticks
          (own_body setting run (drop_at setting run n) w.ticks Begins o) serial s
          (λ mode w'. in_mode mode (drop_parts setting run (drop_at setting run n) w.ticks parts 0 s mode w')
          (λ m. gone_at setting run s)) mode w) none
          ∙ ap (λ o. in_mode mode o (λ m. gone_at setting run s))
          (same_rest n w.ticks (omega arith) parts 0 s mode w w variant serial parts is refl
          (record {
            parts = parts;
            stands = subst (λ d. Stands setting w (with_value s d)) is st;
            tail_is =
                refl;
            change = λ new v c. c;
          }) sound (omega arith) h)

  -- the drop of a box, whose content may be a trait object
  pub box_afresh : (s : Located) (id : TyId) (serial : ℕ) (impl_no : Option ℕ) (inside : Datum)
      (content : DynamicType) (mode : Mode) (w : State) → s.dynamic ≡ OfType id → s.value ≡ Box serial impl_no inside →
      type_in_box impl_no (concrete_ty setting.items s.dynamic) ≡ Some content →
      still_of setting.items content content ≡ true → Stands setting w s → w.ticks < bound →
      drop_at setting run bound Begins s mode w ≡ in_mode mode (drop_if (into setting.items Inside s) mode w)
      (λ m. freed_at setting run s)
  box_afresh s id serial impl_no inside content mode w found_is is content_is sure st h = by bound h
    where
      inner : (n : ℕ) → w.ticks < suc n → (t : Located) → into setting.items Inside s ≡ Some t →
          if_part setting run (drop_at setting run n) w.ticks (Some t)
          (drop_value setting run (drop_at setting run n) w.ticks inside Begins) mode w ≡ drop_at
          setting run bound Begins t mode w
      inner n l t e =
          let i = into-parts setting.items Inside s t e in
          let f_is : i.dynamic ≡ content = (let x : Some i.dynamic ≡ Some content = sym i.found_is
          ∙ ap (λ d. type_of_part setting.items Inside d s.dynamic) is ∙ content_is in cc) in
          let there : located_at setting w (below s.address Inside) ≡ Some t = stands-into setting w s Inside st ∙ e in
          let address : t.address ≡ below s.address Inside = standing-address setting w
          (below s.address Inside) t there in
          same_part n w.ticks (omega arith) inside t mode w (ap (λ f. still_of setting.items f f)
          (ap (λ x. x.dynamic) i.is ∙ f_is) ∙ sure)
          (let same : Some i.value ≡ Some inside = sym i.value_is ∙ ap (part Inside) is in ap (λ x. x.value) i.is ∙ cc)
          (ap (located_at setting w) address ∙ there) (omega arith) h

      by : (b : ℕ) → w.ticks < b → drop_at setting run b Begins s mode w ≡ in_mode mode
          (drop_if (into setting.items Inside s) mode w) (λ m. freed_at setting run s)
      by zero h = absurd (let never : ⊥ = omega arith in never)
      by (suc n) h' =
          still_here s id (dropped_there setting run (drop_at setting run n) Begins mode) w found_is st
          ∙ ap (λ d. drop_value setting run (drop_at setting run n) w.ticks d Begins s mode w) is
          ∙ ap (λ o. in_mode mode o (λ m. freed_at setting run s))
          (same_if_part n w.ticks (omega arith) (into setting.items Inside s) inside mode w (inner n h'))
