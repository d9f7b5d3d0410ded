-- A value of a type that needs no dropping holds no serial number, and where it is dropped no `Drop` body runs, so it
-- never panics.
use Rattle.std.proofs.Common.{◌≡◌, ◌⊎◌, inl, inr, ℕ, zero, suc, ◌+◌, ◌==◌, Bool, true, false, [], ◌++◌, Option, Some, None, is_some, refl, ap, sym, ◌∙◌, subst, arith}
use Rattle.std.specs.Prelude.{slice_get, option_and_then}
use Rattle.std.specs.Option.{option_map_or}
use Rattle.std.proofs.lemmas.Bool.{false≢true}
use Rattle.std.proofs.lemmas.Bool.Decides.{Decides-eqb}
use Rattle.std.proofs.lemmas.Option.{none-some}
use Rattle.mir_ty.proofs.LeastRelations.{needs_drop_from, needs_drop-rules}
use Rattle.mir_ty.specs.declared.adt.Adt.{Adt}
use Rattle.mir_ty.specs.declared.ty.Ty.{Ty}
use Rattle.mir_ty.specs.declared.ty.TyId.{TyId}
use Rattle.mir_ty.specs.Facts.{needs_drop, has_drop_impl, adt_has_drop_impl, ty_has_drop_impl, NeedsDrop, a_box, an_impl, a_part}
use Rattle.mir_ty.specs.ItemTable.{ItemTable, type_at}
use Rattle.mir_ty.specs.Parts.{parts_of}
use Rattle.store_model.specs.declared.address.At.TheVariants.{Part}
use Rattle.store_model.specs.Values.Datum as data_of
use Rattle.store_model.specs.Values.Datum.{Datum, Data, Gone, Number, Truth, UnitValue, Aggregate, Box, Address, no_part}
use Rattle.store_model.specs.Values.Access.{part, part_at}
use Rattle.store_model.specs.Values.Wholeness.{serials, serials_of_all}
use Rattle.store_model.specs.Abstract.Presence.{Presence}
use Rattle.store_model.specs.Places.TypeForms.{box_content}
use Rattle.store_model.specs.Effects.{Mode, Stuck, OutOfTicks, Out, Go, Halts}
use Rattle.store_model.specs.Concrete.Location.{Setting, DynamicType, OfType, concrete_ty, type_of_part, type_of_field, Located, located_at, into, located_part, below, stored_at}
use Rattle.store_model.specs.Concrete.State.{State, Bodies}
use Rattle.store_model.specs.Concrete.Drops.{drop_impl, with_drop_body, if_still_typed, same_if, still_of, Stage, Begins, in_mode, gone_at, as_read, if_part, with_body, own_body, drop_value, drop_parts, drop_at}
use Rattle.soundness_values.proofs.Fits.{Fits, PartsFit}

module _ (items : ItemTable) where
  abbrev mutual
    pub Quiet : Datum → Type 0
    Quiet (Aggregate variant serial parts) = (serial ≡ None) × AllQuiet parts
    Quiet (Box serial impl_no inside) = ⊥
    Quiet d = Unit {0}

    pub AllQuiet : Data → Type 0
    AllQuiet no_part = Unit {0}
    AllQuiet (data_of.a_part first rest) = Quiet first × AllQuiet rest

  mutual
    pub no_numbers : (d : Datum) → Quiet d → serials d ≡ []
    no_numbers Gone q = refl
    no_numbers (Number number) q = refl
    no_numbers (Truth truth) q = refl
    no_numbers UnitValue q = refl
    no_numbers (Address address) q = refl
    no_numbers (Box serial impl_no inside) q = absurd q
    no_numbers (Aggregate variant serial parts) q = ap (λ o. serials (Aggregate variant o parts)) q.0
        ∙ no_numbers_in parts q.1

    no_numbers_in : (parts : Data) → AllQuiet parts → serials_of_all parts ≡ []
    no_numbers_in no_part q = refl
    no_numbers_in (data_of.a_part first rest) q = ap (λ l. l ++ serials_of_all rest) (no_numbers first q.0)
        ∙ no_numbers_in rest q.1

  no_need : {A : Type 0} (id : TyId) → needs_drop items id ≡ false → NeedsDrop items id → A
  no_need id e n = absurd (false≢true (sym e ∙ needs_drop_from items id n))

  boxed : (id content : TyId) (o : Option Ty) → type_at items id ≡ o → box_content o ≡ Some content →
      NeedsDrop items id
  boxed id content None h c = absurd (none-some content c)
  boxed id content (Some (Ty.Boxed t)) h c = a_box h
  boxed id content (Some other) h c = absurd (none-some content c)

  no_impl : (o : Option Ty) → option_map_or (ty_has_drop_impl items) o false ≡ false → drop_impl items o ≡ None
  no_impl None e = refl
  no_impl (Some (Ty.Adt n)) e = by (slice_get items.adts n) e
    where
      none_of : (o : Option ℕ) → is_some o ≡ false → o ≡ None
      none_of None k = refl
      none_of (Some b) k = absurd (false≢true (sym k))

      by : (o : Option Adt) → adt_has_drop_impl o ≡ false → with_drop_body n
          (option_map_or (λ (adt : Adt). adt.drop_body) o None) ≡ None
      by None k = refl
      by (Some adt) k = ap (with_drop_body n) (none_of adt.drop_body k)
  no_impl (Some other) e = refl

  not_numbered : (id : TyId) → needs_drop items id ≡ false → drop_impl items (type_at items id) ≡ None
  not_numbered id e = by (has_drop_impl items id) refl
    where
      by : (b : Bool) → has_drop_impl items id ≡ b → drop_impl items (type_at items id) ≡ None
      by true h = no_need id e (an_impl h)
      by false h = no_impl (type_at items id) h

  -- the types of parts need no dropping either
  quiet_field : (id : TyId) (variant n : ℕ) (f : DynamicType) → needs_drop items id ≡ false →
      type_of_field items variant n (type_at items id) ≡ Some f →
      (part_ty : TyId) × ((f ≡ OfType part_ty) × (needs_drop items part_ty ≡ false))
  quiet_field id variant n f e h = by (type_at items id) refl h
    where
      of_part : (ty : Ty) → type_at items id ≡ Some ty → (o : Option TyId) →
          slice_get (parts_of items ty variant) n ≡ o → option_map_or (λ i. Some (OfType i)) o None ≡ Some f →
          (part_ty : TyId) × ((f ≡ OfType part_ty) × (needs_drop items part_ty ≡ false))
      of_part ty t None k x = absurd (none-some f x)
      of_part ty t (Some p) k x =
          let same : f ≡ OfType p = cc in
          (p, (same, by_need (needs_drop items p) refl))
        where
          by_need : (b : Bool) → needs_drop items p ≡ b → needs_drop items p ≡ false
          by_need false y = y
          by_need true y = no_need id e (a_part variant n
              (ap (option_and_then (λ ty. slice_get (parts_of items ty variant) n)) t ∙ k)
              ((needs_drop-rules items p).0 y))

      by : (o : Option Ty) → type_at items id ≡ o → type_of_field items variant n o ≡ Some f →
          (part_ty : TyId) × ((f ≡ OfType part_ty) × (needs_drop items part_ty ≡ false))
      by None t x = absurd (none-some f x)
      by (Some ty) t x = of_part ty t (slice_get (parts_of items ty variant) n) refl x

  mutual
    pub quiet : (d : Datum) (found : DynamicType) (id : TyId) (p : Presence) →
        concrete_ty items found ≡ type_at items id → needs_drop items id ≡ false → Fits items found p d → Quiet d
    quiet Gone found id p t e k = tt
    quiet (Number number) found id p t e k = tt
    quiet (Truth truth) found id p t e k = tt
    quiet UnitValue found id p t e k = tt
    quiet (Address address) found id p t e k = tt
    quiet (Box serial impl_no inside) found id p t e k =
        no_need id e (boxed id k.1.0 (concrete_ty items found) (sym t) k.1.1)
    quiet (Aggregate variant serial parts) found id p t e k = (
      none_of serial (k.1 ∙ ap (λ o. is_some (drop_impl items o)) t ∙ ap is_some (not_numbered id e)),
      all_quiet parts (λ n. type_of_field items variant n (concrete_ty items found)) _
          (λ n f h. quiet_field id variant n f e (ap (type_of_field items variant n) (sym t) ∙ h)) k.3,
    )
      where
        none_of : (o : Option ℕ) → is_some o ≡ false → o ≡ None
        none_of None h = refl
        none_of (Some b) h = absurd (false≢true (sym h))

    all_quiet : (parts : Data) (found_at : ℕ → Option DynamicType) (presence_of : ℕ → Presence) →
        ((n : ℕ) (f : DynamicType) → found_at n ≡ Some f →
        (part_ty : TyId) × ((f ≡ OfType part_ty) × (needs_drop items part_ty ≡ false))) →
        PartsFit items found_at presence_of parts → AllQuiet parts
    all_quiet no_part found_at presence_of e k = tt
    all_quiet (data_of.a_part first rest) found_at presence_of e k =
        let t = e 0 k.0.0 k.0.1 in (
          quiet first k.0.0 t.0 (presence_of 0) (ap (concrete_ty items) t.1.0) t.1.1 k.0.2,
          all_quiet rest (λ n. found_at (suc n)) (λ n. presence_of (suc n)) (λ n. e (suc n)) k.1,
        )

-- ---- dropping it

module _ (setting : Setting) (run : Bodies) where
  abbrev items : ItemTable
  items = setting.items

  -- it goes on, while no tick is spent, or there is no step
  pub data GoesOn (w : State) : Out State → Type 0 where
    quietly : (v : State) → v.ticks ≡ w.ticks → GoesOn w (Go v)
    no_step : (v : State) → GoesOn w (Halts Stuck v)

  module _ (again : Stage → Located → Mode → State → Out State) (ticks : ℕ) where
    gone_quietly : (s : Located) (w : State) → GoesOn w (gone_at setting run s w)
    gone_quietly s w = by (located_at setting w s.address)
      where
        by : (o : Option Located) → GoesOn w (if_still_typed items s.dynamic o
            (λ (t : Located) (x : State). Go (stored_at t.address Gone x)) w)
        by None = no_step w
        by (Some t) = by_type (still_of items s.dynamic t.dynamic)
          where
            by_type : (b : Bool) → GoesOn w (same_if b (λ (x : State). Go (stored_at t.address Gone x)) w)
            by_type true = quietly (stored_at t.address Gone w) refl
            by_type false = no_step w

    then_next : (w : State) (mode : Mode) (o : Out State) (next : Mode → State → Out State) → GoesOn w o →
        ((v : State) → v.ticks ≡ w.ticks → GoesOn v (next mode v)) → GoesOn w (in_mode mode o next)
    then_next w mode _ next (quietly v t) f = from (f v t)
      where
        from : {o : Out State} → GoesOn v o → GoesOn w o
        from (quietly u k) = quietly u (k ∙ t)
        from (no_step u) = no_step u
    then_next w mode _ next (no_step v) f = no_step v

    mutual
      pub value_quietly : (d : Datum) (s : Located) (p : Presence) (mode : Mode) (w : State) → s.value ≡ d →
          Quiet items d → Fits items s.dynamic p d → w.ticks ≡ ticks →
          GoesOn w (drop_value setting run again ticks d Begins s mode w)
      value_quietly Gone s p mode w is q k t = quietly w refl
      value_quietly (Number number) s p mode w is q k t = gone_quietly s w
      value_quietly (Truth truth) s p mode w is q k t = gone_quietly s w
      value_quietly UnitValue s p mode w is q k t = gone_quietly s w
      value_quietly (Address address) s p mode w is q k t = gone_quietly s w
      value_quietly (Box serial impl_no inside) s p mode w is q k t = absurd q
      value_quietly (Aggregate variant serial parts) s p mode w is q k t =
          let none : drop_impl items (concrete_ty items s.dynamic) ≡ None = none_of
          (drop_impl items (concrete_ty items s.dynamic)) (sym k.1 ∙ ap is_some q.0) in
          subst (λ x. GoesOn w (with_body setting run again ticks (own_body setting run again ticks Begins x) serial s
          (λ mode w. in_mode mode (drop_parts setting run again ticks parts 0 s mode w)
          (λ mode. gone_at setting run s)) mode w)) (sym none)
          (then_next w mode _ (λ mode. gone_at setting run s)
          (parts_quietly parts 0 parts s variant serial _ _ mode w is (λ m. ap (λ x. part_at x parts) (zero_plus m))
          (λ m. ap (λ x. type_of_field items variant x (concrete_ty items s.dynamic)) (sym (zero_plus m))) q.1 k.3 t)
          (λ v h. gone_quietly s v))
        where
          zero_plus : (m : ℕ) → 0 + m ≡ m
          zero_plus m = omega arith

          none_of : (o : Option (ℕ × ℕ)) → is_some o ≡ false → o ≡ None
          none_of None h = refl
          none_of (Some b) h = absurd (false≢true (sym h))

      parts_quietly : (parts : Data) (n : ℕ) (all : Data) (s : Located) (variant : ℕ) (serial : Option ℕ)
          (found_at : ℕ → Option DynamicType) (presence_of : ℕ → Presence) (mode : Mode) (w : State) →
          s.value ≡ Aggregate variant serial all → ((m : ℕ) → part_at (n + m) all ≡ part_at m parts) →
          ((m : ℕ) → found_at m ≡ type_of_field items variant (n + m) (concrete_ty items s.dynamic)) →
          AllQuiet items parts → PartsFit items found_at presence_of parts → w.ticks ≡ ticks →
          GoesOn w (drop_parts setting run again ticks parts n s mode w)
      parts_quietly no_part n all s variant serial found_at presence_of mode w is at found q k t = quietly w refl
      parts_quietly (data_of.a_part first rest) n all s variant serial found_at presence_of mode w is at found q k t =
          then_next w mode _ (drop_parts setting run again ticks rest (suc n) s)
          (subst (λ o. GoesOn w (if_part setting run again ticks o (drop_value setting run again ticks first Begins)
          mode w)) (sym into_it)
          (subst (λ b. GoesOn w (as_read setting run again ticks b (drop_value setting run again ticks first Begins)
          at_part mode w)) (sym same_ticks)
          (value_quietly first at_part (presence_of 0) mode w refl q.0 k.0.2 t)))
          (λ v h. parts_quietly rest (suc n) all s variant serial (λ m. found_at (suc m)) (λ m. presence_of (suc m))
          mode v is (λ m. ap (λ x. part_at x all) (past n m) ∙ at (suc m))
          (λ m. found (suc m) ∙ ap (λ x. type_of_field items variant x (concrete_ty items s.dynamic))
          (sym (past n m))) q.1 k.1 (h ∙ t))
        where
          past : (n m : ℕ) → suc n + m ≡ n + suc m
          past n m = omega arith

          no_more : (n : ℕ) → n + 0 ≡ n
          no_more n = omega arith

          at_part : Located
          at_part = record { address = below s.address (Part n); dynamic = k.0.0; value = first }

          into_it : into items (Part n) s ≡ Some at_part
          into_it =
              ap (λ v. located_part s (Part n) (part (Part n) v) (type_of_part items (Part n) v s.dynamic)) is
              ∙ ap (λ o. located_part s (Part n) o (type_of_field items variant n (concrete_ty items s.dynamic)))
              (ap (λ x. part_at x all) (sym (no_more n)) ∙ at 0)
              ∙ ap (located_part s (Part n) (Some first))
              (ap (λ x. type_of_field items variant x (concrete_ty items s.dynamic)) (sym (no_more n))
              ∙ sym (found 0) ∙ k.0.1)

          same_ticks : (w.ticks == ticks) ≡ true
          same_ticks = (Decides-eqb w.ticks ticks).1 t

  -- so it does not panic
  pub drops_quietly : (fuel : ℕ) (s : Located) (p : Presence) (mode : Mode) (w : State) →
      located_at setting w s.address ≡ Some s → still_of items s.dynamic s.dynamic ≡ true → Quiet items s.value →
      Fits items s.dynamic p s.value → (GoesOn w (drop_at setting run fuel Begins s mode w))
      ⊎ (drop_at setting run fuel Begins s mode w ≡ Halts OutOfTicks w)
  drops_quietly zero s p mode w e h q k = inr refl
  drops_quietly (suc n) s p mode w e h q k =
      inl (subst (GoesOn w)
      (sym (ap (λ o. if_still_typed items s.dynamic o
      (λ (t : Located) (x : State). drop_value setting run (drop_at setting run n) x.ticks t.value Begins t mode x) w) e
      ∙ ap (λ b. same_if b
      (λ (x : State). drop_value setting run (drop_at setting run n) x.ticks s.value Begins s mode x) w) h))
      (value_quietly (drop_at setting run n) w.ticks s.value s p mode w refl q k refl))
