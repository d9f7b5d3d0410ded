-- What one statement or terminator of the raw graph does, it does in the elaborated run too.
use Rattle.std.proofs.Common.{◌≡◌, inl, inr, ℕ, suc, ◌==◌, ◌≤◌, if◌then◌else◌, slice_get, true, false, List, [], ◌∷◌, length, Option, Some, None, refl, ap, sym, ◌∙◌, subst, arith}
use Rattle.std.specs.Option.{option_and_then, option_map_or}
use Rattle.std.proofs.lemmas.Bool.Decides.{eqb_tells}
use Rattle.mir_base.specs.declared.trace.Event.{Event}
use Rattle.mir_ty.specs.declared.ty.TyId.{TyId}
use Rattle.mir_ty.specs.ItemTable.{ItemTable, type_at}
use Rattle.store_model.specs.Concrete.Effects.{compared, forgotten, body_of_youngest, or_stuck, impl_of, with_impl, ty_of_place, never_at, ty_of_operand, whole_at, evaluate_operand, evaluate_operands, with_operand, with_two_operands, put, negated, built, boxed, impl_boxed, printed, with_events, type_of_operand, compute, negate, bounded, answered, object_body, virtual_body, asked, impl_put, called, acted, act, give}
use Rattle.store_model.specs.Places.Place.{ty_along}
use Rattle.store_model.specs.Places.TypeForms.{is_never, adt_of, box_content, int_kind}
use Rattle.store_model.specs.Values.Datum.{Datum, Gone, Number, Truth, UnitValue, Aggregate, Box, Address}
use Rattle.store_model.specs.Effects as effects
use Rattle.store_model.specs.Effects.{EffectSite, Stuck, Out, Go, stored_by, stores_where, halting_if}
use Rattle.store_model.specs.Concrete.Location.{Setting, DynamicType, Located, located_at, stored_at}
use Rattle.store_model.specs.Concrete.State.{State, Activation, at_depth, Answer, Returns, Unwinds, HaltsIn, Bodies}
use Rattle.drop_values.specs.Like.{body_at, body_of, Flags, Like, Same, SameAnswer, SameBodies, raw_setting, strict_setting, Extends}
use Rattle.drop_values.proofs.LikeLaws.{there}
use Rattle.drop_values.proofs.Operands.{Both as BothOf, SiteOk as SiteOkOf, OperandOk as OperandOkOf, OperandsOk as OperandsOkOf, used_there, put-Same, put_if-Same, taken_there, taking-Same, all_there, taking_all-Same}
use Rattle.drop_values.proofs.Results.{halting-Same, events-Like, built-Same, boxed-Same, compute-Same, negate-Same, bounded-Same, printed-Same, asked-Same}

module _ (items : ItemTable) (local_ty local_ty' : (body local : ℕ) → Option TyId)
    (extends : Extends local_ty local_ty') (flags : Flags) (depth number : ℕ) where
  abbrev raw : Setting
  raw = raw_setting items local_ty

  abbrev strict : Setting
  strict = strict_setting items local_ty'

  abbrev L : State → State → Type 0
  L = Like local_ty flags

  abbrev Way : Out State → Out State → Type 0
  Way = Same local_ty L

  abbrev Both : (most : ℕ) (w w' : State) → Type 0
  Both = BothOf items local_ty local_ty' extends flags depth number

  abbrev SiteOk : EffectSite → Type 0
  SiteOk = SiteOkOf items local_ty local_ty' extends flags depth number

  abbrev OperandOk : effects.Operand → Type 0
  OperandOk = OperandOkOf items local_ty local_ty' extends flags depth number

  abbrev OperandsOk : List effects.Operand → Type 0
  OperandsOk = OperandsOkOf items local_ty local_ty' extends flags depth number

  -- a call, where the bodies do the same and leave as many activations as they found
  abbrev pub Stays : State → Answer → Type 0
  Stays w (Returns value v) = (length v.activations ≡ length w.activations) × ((d : ℕ) → body_at d v ≡ body_at d w)
      × (v.ticks ≤ w.ticks)
  Stays w (Unwinds v) = Unit {0}
  Stays w (HaltsIn halt v) = Unit {0}

  module _ (run run' : Bodies) (most : ℕ) (good : ℕ → List Datum → State → Type 0)
      (tie : SameBodies local_ty good most run run') (stays : (event : Event) (body : ℕ) (args : List Datum)
      (w : State) → good body args w → Stays w (run event body args w)) where
    pub called-Same : (to : EffectSite) (body : ℕ) (args : List Datum) (w w' : State) → Both most w w' →
        good body args w → SiteOk to → Way (called raw run to (Some body) args w)
        (called strict run' to (Some body) args w')
    called-Same to body args w w' b may ok = by (run (Event.Call body) body args w)
        (stays (Event.Call body) body args w may) (tie flags (Event.Call body) body args w w' may b.like b.few)
      where
        by : (a : Answer) → Stays w a → SameAnswer local_ty flags a (run' (Event.Call body) body args w') →
            Way (answered raw to a) (answered strict to (run' (Event.Call body) body args w'))
        by (Returns value v) s h = subst (λ x. Way (put raw to value v) (answered strict to x)) (sym h.1)
            (put-Same items local_ty local_ty' extends flags depth number most to value v h.0 (record {
              like = h.2;
              deep = s.0 ∙ b.deep;
              number_is =
                  s.1 depth ∙ b.number_is;
              few = let l = s.2 in let k = b.few in omega arith;
            }) ok)
        by (Unwinds v) s h = (h.0, ap (answered strict to) h.1, h.2)
        by (HaltsIn halt v) s (inl stuck) = inl stuck
        by (HaltsIn halt v) s (inr h) = inr (h.0, ap (answered strict to) h.1, h.2)

  -- the types of places, which are those of the raw graph in both

  abbrev pub SiteTyped : EffectSite → Type 0
  SiteTyped site = (id : TyId) × (local_ty number site.place.local ≡ Some id)

  abbrev pub OperandTyped : effects.Operand → Type 0
  OperandTyped (effects.Copied site) = SiteTyped site
  OperandTyped (effects.Moved site) = SiteTyped site
  OperandTyped _ = Unit {0}

  pub youngest_is : (v : State) → length v.activations ≡ suc depth → body_at depth v ≡ Some number →
      body_of_youngest v ≡ Some number
  youngest_is v deep is = by v.activations refl
    where
      same : (d : ℕ) → (d == d) ≡ true
      same d = elim (eqb_tells d d) [ inl y ↦ y.0 | inr y ↦ absurd (y.1 refl) ]

      by : (acts : List Activation) → v.activations ≡ acts → body_of_youngest v ≡ Some number
      by [] h = absurd (let x : 0 ≡ suc depth = sym (ap length h) ∙ deep in cc)
      by (a ∷ older) h =
          let long : length older ≡ depth = (let x : suc (length older) ≡ suc depth = sym (ap length h)
          ∙ deep in omega (arith, x)) in
          let at : at_depth depth v.activations ≡ Some a = ap (at_depth depth) h
          ∙ ap (λ b. if b then Some a else at_depth depth older) (ap (λ n. depth == n) long ∙ same depth) in
          ap (λ (acts : List Activation). option_map_or (λ (a : Activation). Some a.body) (slice_get acts 0) None) h
          ∙ sym (ap body_of at) ∙ is

  ty-same : (most : ℕ) (w w' : State) (site : EffectSite) → Both most w w' → SiteTyped site →
      ty_of_place strict w' site ≡ ty_of_place raw w site
  ty-same most w w' site b typed =
      ap (λ o. option_and_then (type_at items) (option_and_then (ty_along items site.place.steps) o)) (
      ap (option_and_then (λ body. local_ty' body site.place.local))
      (youngest_is w' (b.like.count ∙ b.deep) (b.like.bodies depth ∙ b.number_is))
      ∙ extends number site.place.local typed.0 typed.1
      ∙ sym (ap (option_and_then (λ body. local_ty body site.place.local)) (youngest_is w b.deep b.number_is) ∙ typed.1)
      )

  operand-ty-same : (most : ℕ) (w w' : State) (operand : effects.Operand) → Both most w w' → OperandTyped operand →
      ty_of_operand strict w' operand ≡ ty_of_operand raw w operand
  operand-ty-same most w w' (effects.Copied site) b typed = ty-same most w w' site b typed
  operand-ty-same most w w' (effects.Moved site) b typed = ty-same most w w' site b typed
  operand-ty-same most w w' (effects.Number value kind) b typed = refl
  operand-ty-same most w w' (effects.Truth value) b typed = refl
  operand-ty-same most w w' effects.UnitValue b typed = refl

  module _ (most : ℕ) where
    two-Same : (left right : effects.Operand) (w w' : State) (next next' : Datum → Datum → State → Out State) →
        Both most w w' → OperandOk left → OperandOk right →
        ((a c : Datum) (u u' : State) → Both most u u' → Way (next a c u) (next' a c u')) →
        Way (with_two_operands raw left right w next) (with_two_operands strict left right w' next')
    two-Same left right w w' next next' b ok ok' f =
        taking-Same items local_ty local_ty' extends flags depth number most left w w'
        (λ a w. with_operand raw right w (next a))
        (λ a w. with_operand strict right w (next' a)) b ok
        (λ a u u' c. taking-Same items local_ty local_ty' extends flags depth number most right u u' (next a)
        (next' a) c ok' (f a))

    whole-Same : (site : EffectSite) (w w' : State) (next next' : Located → Out State) → Both most w w' → SiteOk site →
        ((s : Located) → whole_at raw w site ≡ Some s → Way (next s) (next' s)) →
        Way (or_stuck (whole_at raw w site) next w) (or_stuck (whole_at strict w' site) next' w')
    whole-Same site w w' next next' b ok f = by (whole_at raw w site) refl
      where
        by : (o : Option Located) → whole_at raw w site ≡ o → Way (or_stuck o next w)
            (or_stuck (whole_at strict w' site) next' w')
        by None h = inl tt
        by (Some s) h = subst (λ o. Way (next s) (or_stuck o next' w'))
            (sym (used_there items local_ty local_ty' extends flags depth number most w w' site s b ok h).there_too)
            (f s h)

    abbrev forgets : Option DynamicType → Datum → List Event
    forgets o v = option_map_or (forgotten items v) o []

    -- as what an operand is found, where it is used
    found-same : (operand : effects.Operand) (w w' : State) (v : Datum) (u : State) → Both most w w' →
        OperandOk operand → evaluate_operand raw operand w ≡ Some (v, u) →
        type_of_operand strict w' operand ≡ type_of_operand raw w operand
    found-same (effects.Copied site) w w' v u b ok e = by (whole_at raw w site) refl e
      where
        by : (o : Option Located) → whole_at raw w site ≡ o → option_map_or {U = Option (Datum × State)}
            (λ (s : Located). Some (s.value, w)) o None ≡ Some (v, u) → type_of_operand strict w'
            (effects.Copied site) ≡ option_map_or (λ (s : Located). Some s.dynamic) (whole_at raw w site) None
        by None h e = absurd (let y : None ≡ Some (v, u) = e in cc)
        by (Some s) h e = ap (λ o. option_map_or (λ (s : Located). Some s.dynamic) o None)
            ((used_there items local_ty local_ty' extends flags depth number most w w' site s b ok h).there_too ∙ sym h)
    found-same (effects.Moved site) w w' v u b ok e = by (whole_at raw w site) refl e
      where
        by : (o : Option Located) → whole_at raw w site ≡ o → option_map_or {U = Option (Datum × State)}
            (λ (s : Located). Some (s.value, stored_at s.address Gone w)) o None ≡ Some (v, u) →
            type_of_operand strict w' (effects.Moved site) ≡ option_map_or (λ (s : Located). Some s.dynamic)
            (whole_at raw w site) None
        by None h e = absurd (let y : None ≡ Some (v, u) = e in cc)
        by (Some s) h e = ap (λ o. option_map_or (λ (s : Located). Some s.dynamic) o None)
            ((used_there items local_ty local_ty' extends flags depth number most w w' site s b ok h).there_too ∙ sym h)
    found-same (effects.Number value kind) w w' v u b ok e = refl
    found-same (effects.Truth value) w w' v u b ok e = refl
    found-same effects.UnitValue w w' v u b ok e = refl

    forget-Same : (operand : effects.Operand) (w w' : State) → Both most w w' → OperandOk operand →
        Way (with_operand raw operand w (λ v u. Go (with_events raw (forgets (type_of_operand raw w operand) v) u)))
        (with_operand strict operand w' (λ v u. Go
        (with_events strict (forgets (type_of_operand strict w' operand) v) u)))
    forget-Same operand w w' b ok = by (evaluate_operand raw operand w) refl
      where
        by : (o : Option (Datum × State)) → evaluate_operand raw operand w ≡ o →
            Way (or_stuck o (λ t. Go (with_events raw (forgets (type_of_operand raw w operand) t.0) t.1)) w)
            (with_operand strict operand w' (λ v u. Go
            (with_events strict (forgets (type_of_operand strict w' operand) v) u)))
        by None h = inl tt
        by (Some t) h =
            let k = taken_there items local_ty local_ty' extends flags depth number most operand w w' t.0 t.1 b ok h in
            subst (λ o. Way (Go (with_events raw (forgets (type_of_operand raw w operand) t.0) t.1))
            (or_stuck o (λ t. Go (with_events strict (forgets (type_of_operand strict w' operand) t.0) t.1)) w'))
            (sym k.1)
            (subst (λ f. Way (Go (with_events raw (forgets (type_of_operand raw w operand) t.0) t.1))
            (Go (with_events strict (forgets f t.0) k.0))) (sym (found-same operand w w' t.0 t.1 b ok h)) (
              with_events strict (forgets (type_of_operand raw w operand) t.0) k.0,
              refl,
              events-Like items local_ty local_ty' extends flags depth number
                  (forgets (type_of_operand raw w operand) t.0) t.1 k.0 k.2.like,
            ))

    module _ (run run' : Bodies) (good : ℕ → List Datum → State → Type 0) (tie : SameBodies local_ty good most run run')
        (stays : (event : Event) (body : ℕ) (args : List Datum) (w : State) → good body args w →
        Stays w (run event body args w)) where
      called-it : (to : EffectSite) (body : ℕ) (args : List Datum) (w w' : State) → Both most w w' →
          good body args w → SiteOk to → Way (answered raw to (run (Event.Call body) body args w))
          (answered strict to (run' (Event.Call body) body args w'))
      called-it to body args w w' b may ok = called-Same run run' most good tie stays to body args w w' b may ok

      -- the result of a body
      pub give-Same : (site : EffectSite) (w w' : State) → Both most w w' → SiteOk site →
          Way (give raw run site w) (give strict run' site w')
      give-Same site w w' b ok = whole-Same site w w' (λ s. Go w) (λ s. Go w') b ok (λ s h. (w', refl, b.like))

      -- bodies that are called may be entered
      abbrev pub MayCall : effects.Action → State → Type 0
      MayCall (effects.Call to body args) w = (vs : List Datum) (u : State) → evaluate_operands raw args w ≡ Some
          (vs, u) → good body vs u
      MayCall (effects.CallVirtual to trait_no method args) w = (vs : List Datum) (u : State) (body : ℕ) →
          evaluate_operands raw args w ≡ Some (vs, u) → virtual_body raw trait_no method u vs ≡ Some body →
          good body vs u
      MayCall _ w = Unit {0}

      -- the places of an action are places of the body, with types; a box is freed by no statement of a raw graph
      abbrev pub ActionOk : effects.Action → Type 0
      ActionOk (effects.Put to from) = (SiteOk to × SiteTyped to) × OperandOk from
      ActionOk (effects.Compare to operator left right) = (SiteOk to × SiteTyped to) × OperandOk left × OperandOk right
      ActionOk (effects.Not to operand) = (SiteOk to × SiteTyped to) × OperandOk operand
      ActionOk (effects.Build to kind parts) = (SiteOk to × SiteTyped to) × OperandsOk parts
      ActionOk (effects.NewBox to content) = (SiteOk to × SiteTyped to) × OperandOk content
      ActionOk (effects.Unsize to trait_no operand) = (SiteOk to × SiteTyped to) × OperandOk operand
          × OperandTyped operand
      ActionOk (effects.Borrow to unique base) = (SiteOk to × SiteTyped to) × SiteOk base
      ActionOk (effects.Touch base) = SiteOk base
      ActionOk (effects.Print operand) = OperandOk operand
      ActionOk (effects.Forget operand) = OperandOk operand
      ActionOk (effects.Free box) = ⊥
      ActionOk (effects.Compute to operator left right) = (SiteOk to × SiteTyped to) × OperandOk left
          × OperandTyped left × OperandOk right
      ActionOk (effects.Negate to operand) = (SiteOk to × SiteTyped to) × OperandOk operand × OperandTyped operand
      ActionOk (effects.Bounds index count) = OperandOk index
      ActionOk (effects.Call to body args) = (SiteOk to × SiteTyped to) × OperandsOk args
      ActionOk (effects.CallVirtual to trait_no method args) = (SiteOk to × SiteTyped to) × OperandsOk args
      ActionOk (effects.Ask to) = SiteOk to × SiteTyped to

      virtual-Same : (to : EffectSite) (trait_no method : ℕ) (vs : List Datum) (u u' : State) →
          Both most u u' → SiteOk to → ((body : ℕ) → virtual_body raw trait_no method u vs ≡ Some body → good body vs u)
          →
          Way (called raw run to (virtual_body raw trait_no method u vs) vs u)
          (called strict run' to (virtual_body strict trait_no method u' vs) vs u')
      virtual-Same to trait_no method (Address a ∷ vs) u u' b ok may = by (located_at raw u a) refl
        where
          body_in : Option Located → Option ℕ
          body_in o = option_and_then (λ (s : Located). object_body raw trait_no method s.dynamic) o

          enters : (o : Option ℕ) → virtual_body raw trait_no method u (Address a ∷ vs) ≡ o →
              virtual_body strict trait_no method u' (Address a ∷ vs) ≡ o → Way (called raw run to o (Address a ∷ vs) u)
              (called strict run' to (virtual_body strict trait_no method u' (Address a ∷ vs)) (Address a ∷ vs) u')
          enters None e e' = inl tt
          enters (Some body) e e' = subst (λ o. Way (answered raw to (run (Event.Call body) body (Address a ∷ vs) u))
              (called strict run' to o (Address a ∷ vs) u')) (sym e')
              (called-it to body (Address a ∷ vs) u u' b (may body e) ok)

          by : (o : Option Located) → located_at raw u a ≡ o → Way (called raw run to (body_in o) (Address a ∷ vs) u)
              (called strict run' to (virtual_body strict trait_no method u' (Address a ∷ vs)) (Address a ∷ vs) u')
          by None h = inl tt
          by (Some s) h =
              let t = there items local_ty local_ty' extends flags u u' a s b.like h in
              enters (object_body raw trait_no method s.dynamic) (ap body_in h)
              (ap (λ o. option_and_then (λ (s : Located). object_body strict trait_no method s.dynamic) o) t.stands)
      virtual-Same to trait_no method other u u' b ok may = inl tt

      pub acted-Same : (action : effects.Action) (w w' : State) → Both most w w' → ActionOk action →
          MayCall action w → Way (acted raw run action w) (acted strict run' action w')
      acted-Same (effects.Put to from) w w' b ok may = taking-Same items local_ty local_ty' extends flags depth number
          most from w w' (put raw to) (put strict to) b ok.1
          (λ v u u' c. put-Same items local_ty local_ty' extends flags depth number most to v u u' c ok.0.0)
      acted-Same (effects.Compare to operator left right) w w' b ok may =
          two-Same left right w w' _ _ b ok.1 ok.2 (λ x y u u' c. put_if-Same items local_ty local_ty' extends flags
          depth number most to
          (option_map_or (λ t. Some (Truth t)) (compared operator x y) None) u u' c ok.0.0)
      acted-Same (effects.Not to operand) w w' b ok may = taking-Same items local_ty local_ty' extends flags depth
          number most operand w w' _ _ b ok.1
          (λ v u u' c. put_if-Same items local_ty local_ty' extends flags depth number most to
          (negated raw v) u u' c ok.0.0)
      acted-Same (effects.Build to kind parts) w w' b ok may =
          taking_all-Same items local_ty local_ty' extends flags depth number most parts w w' (built raw to kind)
          (built strict to kind) b ok.1 (λ vs u u' c. built-Same items local_ty local_ty' extends flags depth number
          most to kind vs u u' c ok.0.0)
      acted-Same (effects.NewBox to content) w w' b ok may = taking-Same items local_ty local_ty' extends flags depth
          number most content w w' (boxed raw to)
          (boxed strict to) b ok.1 (λ v u u' c. boxed-Same items local_ty local_ty' extends flags depth number most to v
          u u' c ok.0.0)
      acted-Same (effects.Unsize to trait_no operand) w w' b ok may =
          taking-Same items local_ty local_ty' extends flags depth number most operand w w' _ _ b ok.1 (λ v u u' c.
          subst (λ o. Way (impl_put raw to (impl_boxed raw trait_no w operand) v u)
          (impl_put strict to (option_and_then (impl_of items trait_no)
          (adt_of (option_and_then (type_at items) (box_content o)))) v u'))
          (sym (operand-ty-same most w w' operand b ok.2))
          (put_if-Same items local_ty local_ty' extends flags depth number most to
          (option_and_then (λ n. with_impl n v) (impl_boxed raw trait_no w operand))
          u u' c ok.0.0))
      acted-Same (effects.Borrow to unique base) w w' b ok may = whole-Same base w w' _ _ b ok.1
          (λ s h. put-Same items local_ty local_ty' extends flags depth number most to
          (Address s.address) w w' b ok.0.0)
      acted-Same (effects.Touch base) w w' b ok may = whole-Same base w w' _ _ b ok (λ s h. (w', refl, b.like))
      acted-Same (effects.Print operand) w w' b ok may = taking-Same items local_ty local_ty' extends flags depth number
          most operand w w' (printed raw)
          (printed strict) b ok (λ v u u' c. printed-Same items local_ty local_ty' extends flags depth number most v u
          u' c)
      acted-Same (effects.Forget operand) w w' b ok may = forget-Same operand w w' b ok
      acted-Same (effects.Free box) w w' b ok may = absurd ok
      acted-Same (effects.Compute to operator left right) w w' b ok may =
          two-Same left right w w' _ _ b ok.1 ok.3
          (λ x y u u' c. subst (λ o. Way (compute raw to operator (int_kind (ty_of_operand raw w left)) x y u)
          (compute strict to operator (int_kind o) x y u')) (sym (operand-ty-same most w w' left b ok.2))
          (compute-Same items local_ty local_ty' extends flags depth number most to operator
          (int_kind (ty_of_operand raw w left)) x y u u' c ok.0.0))
      acted-Same (effects.Negate to operand) w w' b ok may =
          taking-Same items local_ty local_ty' extends flags depth number most operand w w' _ _ b ok.1
          (λ v u u' c. subst (λ o. Way (negate raw to (int_kind (ty_of_operand raw w operand)) v u)
          (negate strict to (int_kind o) v u')) (sym (operand-ty-same most w w' operand b ok.2))
          (negate-Same items local_ty local_ty' extends flags depth number most to
          (int_kind (ty_of_operand raw w operand)) v u u' c ok.0.0))
      acted-Same (effects.Bounds index count) w w' b ok may =
          taking-Same items local_ty local_ty' extends flags depth number most index w w' (bounded raw count)
          (bounded strict count) b ok (λ v u u' c. bounded-Same items local_ty local_ty' extends flags depth number most
          count v u u' c)
      acted-Same (effects.Call to body args) w w' b ok may = by (evaluate_operands raw args w) refl
        where
          by : (o : Option (List Datum × State)) → evaluate_operands raw args w ≡ o →
              Way (or_stuck o (λ t. called raw run to (Some body) t.0 t.1) w)
              (acted strict run' (effects.Call to body args) w')
          by None h = inl tt
          by (Some t) h =
              let k = all_there items local_ty local_ty' extends flags depth number most args w w' t.0 t.1 b ok.1 h in
              subst (λ o. Way (called raw run to (Some body) t.0 t.1)
              (or_stuck o (λ t. called strict run' to (Some body) t.0 t.1) w')) (sym k.1)
              (called-it to body t.0 t.1 k.0 k.2 (may t.0 t.1 h) ok.0.0)
      acted-Same (effects.CallVirtual to trait_no method args) w w' b ok may = by (evaluate_operands raw args w) refl
        where
          by : (o : Option (List Datum × State)) → evaluate_operands raw args w ≡ o →
              Way (or_stuck o (λ t. called raw run to (virtual_body raw trait_no method t.1 t.0) t.0 t.1) w)
              (acted strict run' (effects.CallVirtual to trait_no method args) w')
          by None h = inl tt
          by (Some t) h =
              let k = all_there items local_ty local_ty' extends flags depth number most args w w' t.0 t.1 b ok.1 h in
              subst (λ o. Way (called raw run to (virtual_body raw trait_no method t.1 t.0) t.0 t.1)
              (or_stuck o (λ t. called strict run' to (virtual_body strict trait_no method t.1 t.0) t.0 t.1) w'))
              (sym k.1)
              (virtual-Same to trait_no method t.0 t.1 k.0 k.2 ok.0.0 (λ body e. may t.0 t.1 body h e))
      acted-Same (effects.Ask to) w w' b ok may = subst (λ x. Way (asked raw to w.asked w) (asked strict to x w'))
          (sym b.like.asked) (asked-Same items local_ty local_ty' extends flags depth number most to w.asked w w' b
          ok.0)

      abbrev pub StoreTyped : effects.Action → Type 0
      StoreTyped action = (site : EffectSite) → stored_by action ≡ Some site → SiteTyped site

      never-same : (o : Option EffectSite) (w w' : State) → Both most w w' →
          ((site : EffectSite) → o ≡ Some site → SiteTyped site) → option_map_or (never_at strict w')
          o false ≡ option_map_or (never_at raw w) o false
      never-same None w w' b typed = refl
      never-same (Some site) w w' b typed = ap is_never (ty-same most w w' site b (typed site refl))

      pub act-Same : (action : effects.Action) (w w' : State) → Both most w w' → ActionOk action →
          MayCall action w → StoreTyped action → Way (act raw run action w) (act strict run' action w')
      act-Same action w w' b ok may typed =
          subst (λ x. Way (halting_if (stores_where (never_at raw w) action) Stuck (acted raw run action w))
          (halting_if x Stuck (acted strict run' action w'))) (sym (never-same (stored_by action) w w' b typed))
          (halting-Same items local_ty local_ty' extends flags depth number (stores_where (never_at raw w) action)
          (acted raw run action w) (acted strict run' action w')
          (acted-Same action w w' b ok may))
