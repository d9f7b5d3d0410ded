-- What a drop of a value does in which nothing is numbered; that no drop made while unwinding panics on; and that what
-- a plan fits may be dropped.
use Rattle.std.proofs.Common.{◌≡◌, ◌⊎◌, inl, inr, ℕ, zero, suc, ◌==◌, ◌<◌, Bool, true, false, List, [], ◌∷◌, ◌++◌, Option, Some, None, refl, ap, sym, ◌∙◌, subst, arith}
use Rattle.std.proofs.lemmas.Bool.Decides.{eqb_tells}
use Rattle.std.specs.Option.{option_to_list}
use Rattle.mir_ty.specs.ItemTable.{ItemTable}
use Rattle.store_model.specs.declared.address.At.TheVariants.{Part, Inside}
use Rattle.store_model.specs.Values.Datum.{Datum, Data, Gone, Number, Truth, UnitValue, Aggregate, Box, Address, no_part, a_part}
use Rattle.store_model.specs.Concrete.Drops.{drop_body_out, in_mode, same_if, if_still_typed, Stage, Begins, HasRun, gone_at, freed_there, freed_at, as_read, if_part, with_body, drop_value, drop_parts, dropped_there, drop_at}
use Rattle.store_model.specs.Effects.{Mode, Unwinding, Out, Go, Unwind, Halts}
use Rattle.store_model.specs.Values.Access.{part}
use Rattle.store_model.specs.Concrete.Location.{Setting, DynamicType, concrete_ty, type_of_part, type_of_field, Located, into, located_at, stored_at}
use Rattle.store_model.specs.Values.Wholeness.{serials, serials_of_all}
use Rattle.store_model.specs.Concrete.State.{State, Answer, Returns, Unwinds, HaltsIn, Bodies}
use Rattle.drop_values.specs.Like.{IsStuck, SameTold}
use Rattle.drop_values.specs.Plan.{Plan, Nothing, Entire, ByFlag, InParts, OfBox, ByVariant, Plans, no_plan, a_plan, Cases, no_case, a_case, IfFound, Quiet, QuietParts, TakenApart, Fits, FitsAll, FitsCase}
use Rattle.drop_values.proofs.Stand.{into-parts, Stands}
use Rattle.drop_values.proofs.Frame.{tail, tail-first}
use Rattle.drop_values.proofs.Sound.{BodyFull, Sound, SoundParts, full-Sound}

no_items_left : {A : Type 0} (a b : List A) → a ++ b ≡ [] → (a ≡ []) × (b ≡ [])
no_items_left [] b e = (refl, e)
no_items_left (x ∷ a) b e = absurd (let n : x ∷ (a ++ b) ≡ [] = e in cc)

pub told_again : (u v w : State) → SameTold u v → SameTold v w → SameTold u w
told_again u v w a b = record {
  asked = b.asked ∙ a.asked;
  ticks = b.ticks ∙ a.ticks;
  serial =
      b.serial ∙ a.serial;
  trace = b.trace ∙ a.trace;
}

later : (parts : Data) (k : ℕ) (first : Datum) (rest : Data) → tail k parts ≡ a_part first rest →
    tail (suc k) parts ≡ rest
later no_part zero first rest e = absurd (let n : no_part ≡ a_part first rest = e in cc)
later no_part (suc k) first rest e = absurd (let n : no_part ≡ a_part first rest = e in cc)
later (a_part f r) zero first rest e = let x : r ≡ rest = cc in x
later (a_part f r) (suc k) first rest e = later r k first rest e

found_in : (P : DynamicType → Type 0) (o : Option DynamicType) (f : DynamicType) → o ≡ Some f → IfFound o P → P f
found_in P None f e h = absurd (let n : None ≡ Some f = e in cc)
found_in P (Some g) f e h = subst P (let x : g ≡ f = cc in x) h

-- nothing is told
abbrev pub QuietOut : State → Out State → Type 0
QuietOut w (Go v) = SameTold w v
QuietOut w (Unwind v) = ⊥
QuietOut w (Halts halt v) = IsStuck halt

quiet_further : (u w : State) → SameTold u w → (o : Out State) → QuietOut w o → QuietOut u o
quiet_further u w t (Go v) h = told_again u w v t h
quiet_further u w t (Unwind v) h = h
quiet_further u w t (Halts halt v) h = h

quiet_then : (w : State) (mode : Mode) (o : Out State) (next : Mode → State → Out State) → QuietOut w o →
    ((v : State) → SameTold w v → QuietOut v (next mode v)) → QuietOut w (in_mode mode o next)
quiet_then w mode (Go v) next h f = quiet_further w v h (next mode v) (f v h)
quiet_then w mode (Unwind v) next h f = absurd h
quiet_then w mode (Halts halt v) next h f = h

module _ (setting : Setting) (run : Bodies) where
  gone-quiet : (s : Located) (w : State) → QuietOut w (gone_at setting run s w)
  gone-quiet s w = go (located_at setting w s.address)
    where
      by : (b : Bool) (t : Located) → QuietOut w (same_if b (λ w. Go (stored_at t.address Gone w)) w)
      by true t = record { asked = refl; ticks = refl; serial = refl; trace = refl }
      by false t = tt

      go : (o : Option Located) → QuietOut w (if_still_typed setting.items s.dynamic o
          (λ s w. Go (stored_at s.address Gone w)) w)
      go None = tt
      go (Some t) = by _ t

  module _ (again : Stage → Located → Mode → State → Out State) (ticks : ℕ) where
    same_ticks : (w : State) → w.ticks ≡ ticks → (w.ticks == ticks) ≡ true
    same_ticks w e = elim (eqb_tells w.ticks ticks) [ inl y ↦ y.0 | inr y ↦ absurd (y.1 e) ]

    part-quiet : (o : Option Located) (drop : Located → Mode → State → Out State) (mode : Mode) (w : State) →
        w.ticks ≡ ticks → ((t : Located) → o ≡ Some t → QuietOut w (drop t mode w)) →
        QuietOut w (if_part setting run again ticks o drop mode w)
    part-quiet None drop mode w e h = tt
    part-quiet (Some t) drop mode w e h = subst (λ b. QuietOut w (as_read setting run again ticks b drop t mode w))
        (sym (same_ticks w e)) (h t refl)

    mutual
      value-quiet : (d : Datum) (s : Located) (mode : Mode) (w : State) → s.value ≡ d → serials d ≡ [] →
          Quiet setting.items d s.dynamic → w.ticks ≡ ticks →
          QuietOut w (drop_value setting run again ticks d Begins s mode w)
      value-quiet Gone s mode w is none q e = record { asked = refl; ticks = refl; serial = refl; trace = refl }
      value-quiet (Number number) s mode w is none q e = gone-quiet s w
      value-quiet (Truth truth) s mode w is none q e = gone-quiet s w
      value-quiet UnitValue s mode w is none q e = gone-quiet s w
      value-quiet (Address address) s mode w is none q e = gone-quiet s w
      value-quiet (Box serial impl_no inside) s mode w is none q e = absurd q
      value-quiet (Aggregate variant serial parts) s mode w is none q e =
          subst (λ o. QuietOut w (with_body setting run again ticks o serial s
          (λ mode w. in_mode mode (drop_parts setting run again ticks parts 0 s mode w)
          (λ m. gone_at setting run s)) mode w)) (sym q.0)
          (quiet_then w mode (drop_parts setting run again ticks parts 0 s mode w) (λ m. gone_at setting run s)
          (parts-quiet parts 0 s mode w variant serial parts is refl
          (no_items_left (option_to_list serial) (serials_of_all parts) none).1 q.1 e) (λ v t. gone-quiet s v))

      parts-quiet : (rest : Data) (k : ℕ) (s : Located) (mode : Mode) (w : State) (variant : ℕ)
          (serial : Option ℕ) (parts : Data) → s.value ≡ Aggregate variant serial parts → tail k parts ≡ rest →
          serials_of_all rest ≡ [] →
          QuietParts setting.items rest (λ n. type_of_field setting.items variant n
          (concrete_ty setting.items s.dynamic)) k → w.ticks ≡ ticks →
          QuietOut w (drop_parts setting run again ticks rest k s mode w)
      parts-quiet no_part k s mode w variant serial parts is tails none q e =
          record { asked = refl; ticks = refl; serial = refl; trace = refl }
      parts-quiet (a_part first rest) k s mode w variant serial parts is tails none q e =
          let nothing = no_items_left (serials first) (serials_of_all rest) none in
          quiet_then w mode (if_part setting run again ticks (into setting.items (Part k) s)
          (drop_value setting run again ticks first Begins) mode w)
          (drop_parts setting run again ticks rest (suc k) s)
          (part-quiet (into setting.items (Part k) s) (drop_value setting run again ticks first Begins) mode w e
          (λ t h. one t h (λ f q v_is. value-quiet first t mode w v_is nothing.0 q e)))
          (λ v t. parts-quiet rest (suc k) s mode v variant serial parts is (later parts k first rest tails)
          nothing.1 q.1 (t.ticks ∙ e))
        where
          one : (t : Located) → into setting.items (Part k) s ≡ Some t →
              (Unit {0} → Quiet setting.items first t.dynamic → t.value ≡ first →
              QuietOut w (drop_value setting run again ticks first Begins t mode w)) →
              QuietOut w (drop_value setting run again ticks first Begins t mode w)
          one t h f =
              let i = into-parts setting.items (Part k) s t h in
              let found_is : type_of_field setting.items variant k (concrete_ty setting.items s.dynamic) ≡ Some
              t.dynamic = ap (λ d. type_of_part setting.items (Part k) d s.dynamic) (sym is)
              ∙ i.found_is ∙ ap (λ x. Some x.dynamic) (sym i.is) in
              let v_is : t.value ≡ first = (let same : Some i.value ≡ Some first = sym i.value_is
              ∙ ap (part (Part k)) is ∙ tail-first k parts first rest tails in ap (λ x. x.value) i.is ∙ cc) in
              f tt (found_in (Quiet setting.items first) _ t.dynamic found_is q.0) v_is

  -- the drop of a value in which nothing is numbered tells nothing, with any fuel at all
  pub drop_at-silent : (n : ℕ) (s : Located) (mode : Mode) (w : State) → Stands setting w s → serials s.value ≡ [] →
      Quiet setting.items s.value s.dynamic → QuietOut w (drop_at setting run (suc n) Begins s mode w)
  drop_at-silent n s mode w st none q =
      subst (λ o. QuietOut w (if_still_typed setting.items s.dynamic o
      (dropped_there setting run (drop_at setting run n) Begins mode) w)) (sym st) (go _)
    where
      go : (b : Bool) → QuietOut w (same_if b (dropped_there setting run (drop_at setting run n) Begins mode s) w)
      go true = value-quiet (drop_at setting run n) w.ticks s.value s mode w refl none q refl
      go false = tt

  pub drop_at-quiet : (b : ℕ) (s : Located) (mode : Mode) (w : State) → Stands setting w s → serials s.value ≡ [] →
      Quiet setting.items s.value s.dynamic → w.ticks < b → QuietOut w (drop_at setting run b Begins s mode w)
  drop_at-quiet zero s mode w st none q l = absurd (let never : ⊥ = omega arith in never)
  drop_at-quiet (suc n) s mode w st none q l = drop_at-silent n s mode w st none q

  -- no panic
  abbrev pub NoPanic : Out State → Type 0
  NoPanic (Go w) = Unit {0}
  NoPanic (Unwind w) = ⊥
  NoPanic (Halts halt w) = Unit {0}

  no_panic_then : (o : Out State) (next : Mode → State → Out State) → NoPanic o →
      ((v : State) → NoPanic (next Unwinding v)) → NoPanic (in_mode Unwinding o next)
  no_panic_then (Go v) next h f = f v
  no_panic_then (Unwind v) next h f = absurd h
  no_panic_then (Halts halt v) next h f = tt

  no_panic_body : (a : Answer) → NoPanic (drop_body_out Unwinding a)
  no_panic_body (Returns value w) = tt
  no_panic_body (Unwinds w) = tt
  no_panic_body (HaltsIn halt w) = tt

  no_panic_still : (found : DynamicType) (o : Option Located) (next : Located → State → Out State) (w : State) →
      ((t : Located) → NoPanic (next t w)) → NoPanic (if_still_typed setting.items found o next w)
  no_panic_still found None next w h = tt
  no_panic_still found (Some t) next w h = go _
    where
      go : (b : Bool) → NoPanic (same_if b (next t) w)
      go true = h t
      go false = tt

  no_panic_freed : (d : Datum) (s : Located) (w : State) → NoPanic (freed_there setting run d s w)
  no_panic_freed (Box serial impl_no inside) s w = tt
  no_panic_freed other s w = tt

  module _ (again : Stage → Located → Mode → State → Out State)
      (again_calm : (stage : Stage) (s : Located) (w : State) → NoPanic (again stage s Unwinding w)) (ticks : ℕ) where
    no_panic_part : (o : Option Located) (drop : Located → Mode → State → Out State) (w : State) →
        ((t : Located) → NoPanic (drop t Unwinding w)) → NoPanic (if_part setting run again ticks o drop Unwinding w)
    no_panic_part None drop w h = tt
    no_panic_part (Some t) drop w h = go (w.ticks == ticks)
      where
        go : (b : Bool) → NoPanic (as_read setting run again ticks b drop t Unwinding w)
        go true = h t
        go false = again_calm Begins t w

    no_panic_gone : (s : Located) (w : State) → NoPanic (gone_at setting run s w)
    no_panic_gone s w = no_panic_still s.dynamic _ (λ s w. Go (stored_at s.address Gone w)) w (λ t. tt)

    mutual
      no_panic_value : (d : Datum) (stage : Stage) (s : Located) (w : State) →
          NoPanic (drop_value setting run again ticks d stage s Unwinding w)
      no_panic_value Gone stage s w = tt
      no_panic_value (Number number) stage s w = no_panic_gone s w
      no_panic_value (Truth truth) stage s w = no_panic_gone s w
      no_panic_value UnitValue stage s w = no_panic_gone s w
      no_panic_value (Address address) stage s w = no_panic_gone s w
      no_panic_value (Aggregate variant serial parts) stage s w =
          by _ (no_panic_then (drop_parts setting run again ticks parts 0 s Unwinding w) (λ m. gone_at setting run s)
          (no_panic_parts parts 0 s w) (no_panic_gone s))
        where
          by : (o : Option (ℕ × ℕ)) → NoPanic (in_mode Unwinding
              (drop_parts setting run again ticks parts 0 s Unwinding w) (λ m. gone_at setting run s)) →
              NoPanic (with_body setting run again ticks o serial s
              (λ mode w. in_mode mode (drop_parts setting run again ticks parts 0 s mode w)
              (λ m. gone_at setting run s)) Unwinding w)
          by None h = h
          by (Some of) h = no_panic_then _ (again HasRun s) (no_panic_body _) (again_calm HasRun s)
      no_panic_value (Box serial impl_no inside) stage s w =
          no_panic_then _ (λ m. freed_at setting run s) (no_panic_part (into setting.items Inside s)
          (drop_value setting run again ticks inside Begins) w (λ t. no_panic_value inside Begins t w))
          (λ v. no_panic_still s.dynamic _ (λ s w. freed_there setting run s.value s w) v
          (λ t. no_panic_freed t.value t v))

      no_panic_parts : (rest : Data) (k : ℕ) (s : Located) (w : State) →
          NoPanic (drop_parts setting run again ticks rest k s Unwinding w)
      no_panic_parts no_part k s w = tt
      no_panic_parts (a_part first rest) k s w =
          no_panic_then _ (drop_parts setting run again ticks rest (suc k) s)
          (no_panic_part (into setting.items (Part k) s) (drop_value setting run again ticks first Begins) w
          (λ t. no_panic_value first Begins t w))
          (no_panic_parts rest (suc k) s)

  -- a drop made while unwinding goes on or halts
  pub drop_at-no_panic : (b : ℕ) (stage : Stage) (s : Located) (w : State) →
      NoPanic (drop_at setting run b stage s Unwinding w)
  drop_at-no_panic zero stage s w = tt
  drop_at-no_panic (suc n) stage s w =
      no_panic_still s.dynamic _ (dropped_there setting run (drop_at setting run n) stage Unwinding) w
      (λ t. no_panic_value (drop_at setting run n) (drop_at-no_panic n) w.ticks t.value stage t w)

-- what a plan fits may be dropped
module _ (items : ItemTable) where
  if_all : (P Q : DynamicType → Type 0) (o : Option DynamicType) → IfFound o P → ((f : DynamicType) → P f → Q f) →
      IfFound o Q
  if_all P Q None h f = tt
  if_all P Q (Some found) h f = f found h

  mutual
    quiet-Sound : (d : Datum) (found : DynamicType) → Quiet items d found → Sound items d found
    quiet-Sound Gone found q = tt
    quiet-Sound (Number number) found q = tt
    quiet-Sound (Truth truth) found q = tt
    quiet-Sound UnitValue found q = tt
    quiet-Sound (Aggregate variant serial parts) found q =
        (subst (λ o. BodyFull items o found (Aggregate variant serial parts)) (sym q.0) tt, quiets-Sound parts _ 0 q.1)
    quiet-Sound (Box serial impl_no inside) found q = absurd q
    quiet-Sound (Address address) found q = tt

    quiets-Sound : (parts : Data) (found_at : ℕ → Option DynamicType) (n : ℕ) → QuietParts items parts found_at n →
        SoundParts items parts found_at n
    quiets-Sound no_part found_at n q = tt
    quiets-Sound (a_part first rest) found_at n q = (
      if_all (Quiet items first) (Sound items first) (found_at n) q.0 (λ f. quiet-Sound first f),
      quiets-Sound rest found_at (suc n) q.1,
    )

  module _ (IsFlag : ℕ → Type 0) (holds : ℕ → Datum) where
    apart-Sound : (d : Datum) (found : DynamicType) (variant : ℕ) (parts : Data) →
        TakenApart items d found variant parts → SoundParts items parts
        (λ n. type_of_field items variant n (concrete_ty items found)) 0 → Sound items d found
    apart-Sound d found variant parts t h = subst (λ d. Sound items d found) (sym t.value_is)
        (subst (λ o. BodyFull items o found (Aggregate variant None parts)) (sym t.no_body) tt, h)

    flag-Sound : {A B C : Type 0} (d : Datum) (found : DynamicType) → (A × B) ⊎ (C × (d ≡ Gone)) →
        (B → Sound items d found) → Sound items d found
    flag-Sound d found (inl h) f = f h.1
    flag-Sound d found (inr h) f = subst (λ d. Sound items d found) (sym h.1) tt

    mutual
      pub fits-Sound : (plan : Plan) (d : Datum) (found : DynamicType) → Fits items IsFlag holds plan d found →
          Sound items d found
      fits-Sound Nothing d found h = quiet-Sound d found h.1
      fits-Sound Entire d found h = full-Sound items d found h
      fits-Sound (ByFlag flag plan) d found h = flag-Sound d found h.1 (λ k. fits-Sound plan d found k)
      fits-Sound (InParts plans) d found (inl h) = apart-Sound d found h.0 h.1 h.2 (fits-all-Sound plans h.1 _ 0 h.3)
      fits-Sound (InParts plans) d found (inr h) = subst (λ d. Sound items d found) (sym h.0) tt
      fits-Sound (OfBox guard plan) d found (inr h) = subst (λ d. Sound items d found) (sym h.0) tt
      fits-Sound (OfBox guard plan) d found (inl h) =
          let b = h.2 in
          subst (λ d. Sound items d found) (sym b.value_is) (subst (λ o. IfFound o (Sound items h.0))
          (sym b.content_is) (fits-Sound plan h.0 h.1 h.3))
      fits-Sound (ByVariant cases) d found h = apart-Sound d found h.0 h.1 h.2 (fits-case-Sound cases h.0 h.1 _ h.3)

      pub fits-all-Sound : (plans : Plans) (parts : Data) (found_at : ℕ → Option DynamicType) (n : ℕ) →
          FitsAll items IsFlag holds plans parts found_at n → SoundParts items parts found_at n
      fits-all-Sound no_plan no_part found_at n h = tt
      fits-all-Sound no_plan (a_part first rest) found_at n h = absurd h
      fits-all-Sound (a_plan plan plans) no_part found_at n h = absurd h
      fits-all-Sound (a_plan plan plans) (a_part first rest) found_at n h = (
        if_all (Fits items IsFlag holds plan first) (Sound items first) (found_at n) h.0
            (λ f. fits-Sound plan first f),
        fits-all-Sound plans rest found_at (suc n) h.1,
      )

      pub fits-case-Sound : (cases : Cases) (variant : ℕ) (parts : Data) (found_at : ℕ → Option DynamicType) →
          FitsCase items IsFlag holds cases variant parts found_at → SoundParts items parts found_at 0
      fits-case-Sound no_case variant parts found_at h = absurd h
      fits-case-Sound (a_case v plans rest) variant parts found_at (inl h) = fits-all-Sound plans parts found_at 0 h.1
      fits-case-Sound (a_case v plans rest) variant parts found_at (inr h) =
          fits-case-Sound rest variant parts found_at h.1
