-- A place that is used, a store, and the operands that are evaluated: in both runs with the same value.
use Rattle.std.proofs.Common.{◌≡◌, inl, ℕ, suc, ◌≤◌, Bool, true, false, List, [], ◌∷◌, length, Option, Some, None, refl, ap, sym, ◌∙◌, subst}
use Rattle.std.specs.Option.{option_and_then, option_map_or}
use Rattle.mir_ty.specs.declared.ty.TyId.{TyId}
use Rattle.mir_ty.specs.ItemTable.{ItemTable}
use Rattle.store_model.specs.Concrete.Effects.{or_stuck, if_so, whole, whole_at, evaluate_operand, evaluate_operands, with_operand, with_operands, put, put_if}
use Rattle.store_model.specs.Values.Datum.{Datum, Gone, Number, Truth, UnitValue}
use Rattle.store_model.specs.Effects as effects
use Rattle.store_model.specs.Effects.{EffectSite, Stuck, Out, Go, Halts}
use Rattle.store_model.specs.Concrete.Location.{Setting, Located, Reached, Reaches, CutOff, Nowhere, reach, on_reached, stored_at}
use Rattle.store_model.specs.Values.Wholeness.{IsWhole, is_whole}
use Rattle.store_model.specs.Concrete.State.{State}
use Rattle.store_model.proofs.Values.Wholeness.{is_whole-iff_IsWhole}
use Rattle.drop_values.specs.Like.{body_at, Flags, Like, Same, raw_setting, strict_setting, Extends}
use Rattle.drop_values.proofs.Stand.{stored-Changed, with_value, Stands, stands-known}
use Rattle.drop_values.proofs.LikeLaws.{whole-Covers, Covers-same, there, change-Like}
use Rattle.drop_values.proofs.Reach.{IndexOk, reach_there}

module _ (items : ItemTable) (local_ty local_ty' : (body local : ℕ) → Option TyId)
    (extends : Extends local_ty local_ty') (flags : Flags) (depth number : ℕ) where
  abbrev raw : Setting
  raw = raw_setting items local_ty

  abbrev strict : Setting
  strict = strict_setting items local_ty'

  abbrev L : State → State → Type 0
  L = Like local_ty flags

  abbrev Way : Out State → Out State → Type 0
  Way = Same local_ty L

  -- the states are alike, and the body runs as the youngest
  pub record Both (most : ℕ) (w w' : State) : Type 0 where
    pub like : L w w'
    pub deep : length w.activations ≡ suc depth
    pub number_is : body_at depth w ≡ Some number
    pub few : w.ticks ≤ most

  abbrev pub SiteOk : EffectSite → Type 0
  SiteOk site = IndexOk (local_ty number) site.place.steps

  abbrev pub OperandOk : effects.Operand → Type 0
  OperandOk (effects.Copied site) = SiteOk site
  OperandOk (effects.Moved site) = SiteOk site
  OperandOk _ = Unit {0}

  abbrev pub OperandsOk : List effects.Operand → Type 0
  OperandsOk [] = Unit {0}
  OperandsOk (x ∷ xs) = OperandOk x × OperandsOk xs

  -- a whole value that is is used and whole stands in both
  pub record UsedThere (w w' : State) (site : EffectSite) (s : Located) : Type 0 where
    pub there_too : whole_at strict w' site ≡ Some s
    pub stands : Stands raw w s
    pub stands' : Stands strict w' s
    pub is_whole : IsWhole s.value

  pub used_there : (most : ℕ) (w w' : State) (site : EffectSite) (s : Located) → Both most w w' → SiteOk site →
      whole_at raw w site ≡ Some s → UsedThere w w' site s
  used_there most w w' site s b ok e = by (reach raw w site.place) refl e
    where
      so : (x : Bool) (t : Located) → if_so x t ≡ Some s → (x ≡ true) × (t ≡ s)
      so true t e = (refl, (let y : t ≡ s = cc in y))
      so false t e = absurd (let y : None ≡ Some s = e in cc)

      by : (r : Reached) → reach raw w site.place ≡ r → on_reached r (whole raw) None None ≡ Some s →
          UsedThere w w' site s
      by CutOff h e = absurd (let y : None ≡ Some s = e in cc)
      by Nowhere h e = absurd (let y : None ≡ Some s = e in cc)
      by (Reaches t) h e =
          let k = so (is_whole t.value) t e in
          let wh : IsWhole s.value = (is_whole-iff_IsWhole s.value).0 (ap (λ (x : Located). is_whole x.value) (sym k.1)
          ∙ k.0) in
          let r = reach_there items local_ty local_ty' extends flags w w' b.like depth number site.place
          s b.deep b.number_is ok (h ∙ ap Reaches k.1) in
          let same : with_value s r.0.other ≡ s = ap (with_value s) (whole-Covers s.value r.0.other wh r.0.covers) in
          let t' = there items local_ty local_ty' extends flags w w' s.address s b.like r.1 in
          let same' : with_value s t'.other ≡ s = ap (with_value s)
          (whole-Covers s.value t'.other wh t'.covers) in record {
            there_too = ap (λ o. on_reached o (whole strict) None None) (r.0.reaches ∙ ap Reaches same)
                ∙ ap (λ x. if_so x s) ((is_whole-iff_IsWhole s.value).1 wh);
            stands = r.1;
            stands' = t'.stands ∙ ap Some same';
            is_whole = wh;
          }

  -- the same value is stored in both
  stored_Both : (most : ℕ) (w w' : State) (s : Located) (other new : Datum) → Both most w w' → Stands raw w s →
      Stands strict w' (with_value s other) → Both most (stored_at s.address new w) (stored_at s.address new w')
  stored_Both most w w' s other new b st st' =
      let c = stored-Changed s.address new w (stands-known raw w s st) in record {
        like = change-Like items local_ty local_ty' extends flags w w' (stored_at s.address new w)
            (stored_at s.address new w') s.address s new new b.like st c
            (stored-Changed s.address new w' (stands-known strict w' (with_value s other) st')) (Covers-same new)
            (record { asked = b.like.asked; ticks = b.like.ticks; serial = b.like.serial; trace = b.like.trace });
        deep = c.count ∙ b.deep;
        number_is = c.bodies depth ∙ b.number_is;
        few = b.few;
      }

  pub put-Same : (most : ℕ) (to : EffectSite) (v : Datum) (w w' : State) → Both most w w' → SiteOk to →
      Way (put raw to v w) (put strict to v w')
  put-Same most to v w w' b ok = by (reach raw w to.place) refl
    where
      by : (r : Reached) → reach raw w to.place ≡ r →
          Way (on_reached r (λ s. Go (stored_at s.address v w)) (Halts Stuck w) (Halts Stuck w)) (put strict to v w')
      by CutOff h = inl tt
      by Nowhere h = inl tt
      by (Reaches s) h =
          let r = reach_there items local_ty local_ty' extends flags w w' b.like depth number to.place
          s b.deep b.number_is ok h in
          let t = there items local_ty local_ty' extends flags w w' s.address s b.like r.1 in (
            stored_at s.address v w',
            ap (λ o. on_reached o (λ s. Go (stored_at s.address v w'))
                (Halts Stuck w') (Halts Stuck w')) r.0.reaches,
            (stored_Both most w w' s t.other v b r.1 t.stands).like,
          )

  pub put_if-Same : (most : ℕ) (to : EffectSite) (v : Option Datum) (w w' : State) → Both most w w' →
      SiteOk to → Way (put_if raw to v w) (put_if strict to v w')
  put_if-Same most to None w w' b ok = inl tt
  put_if-Same most to (Some v) w w' b ok = put-Same most to v w w' b ok

  -- operands
  abbrev pub TakenThere : (most : ℕ) → State → effects.Operand → Datum → State → Type 0
  TakenThere most w' operand v u = (u' : State) × (evaluate_operand strict operand w' ≡ Some (v, u')) × Both most u u'

  pub taken_there : (most : ℕ) (operand : effects.Operand) (w w' : State) (v : Datum) (u : State) →
      Both most w w' → OperandOk operand → evaluate_operand raw operand w ≡ Some (v, u) → TakenThere most w' operand v u
  taken_there most (effects.Copied site) w w' v u b ok e = by (whole_at raw w site) refl e
    where
      by : (o : Option Located) → whole_at raw w site ≡ o → option_map_or {U = Option (Datum × State)}
          (λ (s : Located). Some (s.value, w)) o None ≡ Some (v, u) → TakenThere most w' (effects.Copied site) v u
      by None h e = absurd (let y : None ≡ Some (v, u) = e in cc)
      by (Some s) h e =
          let k = used_there most w w' site s b ok h in let p : (s.value, w) ≡ (v, u) =
          (let y : Some (s.value, w) ≡ Some (v, u) = e in cc) in (
            w',
            ap (λ o. option_map_or {U = Option (Datum × State)} (λ (s : Located). Some (s.value, w')) o None)
                k.there_too ∙ ap (λ (x : Datum × State). Some (x.0, w')) p,
            subst
                (λ (x : Datum × State). Both most x.1 w') p b,
          )
  taken_there most (effects.Moved site) w w' v u b ok e = by (whole_at raw w site) refl e
    where
      by : (o : Option Located) → whole_at raw w site ≡ o → option_map_or {U = Option (Datum × State)}
          (λ (s : Located). Some (s.value, stored_at s.address Gone w)) o None ≡ Some (v, u) →
          TakenThere most w' (effects.Moved site) v u
      by None h e = absurd (let y : None ≡ Some (v, u) = e in cc)
      by (Some s) h e =
          let k = used_there most w w' site s b ok h in let p : (s.value, stored_at s.address Gone w) ≡ (v, u) =
          (let y : Some (s.value, stored_at s.address Gone w) ≡ Some (v, u) = e in cc) in (
            stored_at s.address Gone w',
            ap (λ o. option_map_or {U = Option (Datum × State)}
                (λ (s : Located). Some (s.value, stored_at s.address Gone w')) o None) k.there_too
                ∙ ap (λ (x : Datum × State). Some (x.0, stored_at s.address Gone w')) p,
            subst (λ (x : Datum × State). Both most x.1 (stored_at s.address Gone w')) p
                (stored_Both most w w' s s.value Gone b k.stands k.stands'),
          )
  taken_there most (effects.Number value kind) w w' v u b ok e = let p : (Number value, w) ≡ (v, u) =
      (let y : Some (Number value, w) ≡ Some (v, u) = e in cc) in
      (w', ap (λ (x : Datum × State). Some (x.0, w')) p, subst (λ (x : Datum × State). Both most x.1 w') p b)
  taken_there most (effects.Truth value) w w' v u b ok e = let p : (Truth value, w) ≡ (v, u) =
      (let y : Some (Truth value, w) ≡ Some (v, u) = e in cc) in
      (w', ap (λ (x : Datum × State). Some (x.0, w')) p, subst (λ (x : Datum × State). Both most x.1 w') p b)
  taken_there most effects.UnitValue w w' v u b ok e = let p : (UnitValue, w) ≡ (v, u) =
      (let y : Some (UnitValue, w) ≡ Some (v, u) = e in cc) in
      (w', ap (λ (x : Datum × State). Some (x.0, w')) p, subst (λ (x : Datum × State). Both most x.1 w') p b)

  pub taking-Same : (most : ℕ) (operand : effects.Operand) (w w' : State) (next next' : Datum → State → Out State) →
      Both most w w' → OperandOk operand → ((v : Datum) (u u' : State) → Both most u u' → Way (next v u) (next' v u')) →
      Way (with_operand raw operand w next) (with_operand strict operand w' next')
  taking-Same most operand w w' next next' b ok f = by (evaluate_operand raw operand w) refl
    where
      by : (o : Option (Datum × State)) → evaluate_operand raw operand w ≡ o → Way (or_stuck o (λ t. next t.0 t.1) w)
          (with_operand strict operand w' next')
      by None h = inl tt
      by (Some t) h = let k = taken_there most operand w w' t.0 t.1 b ok h in subst
          (λ o. Way (next t.0 t.1) (or_stuck o (λ t. next' t.0 t.1) w')) (sym k.1) (f t.0 t.1 k.0 k.2)

  pub all_there : (most : ℕ) (operands : List effects.Operand) (w w' : State) (vs : List Datum) (u : State) →
      Both most w w' → OperandsOk operands → evaluate_operands raw operands w ≡ Some (vs, u) →
      (u' : State) × (evaluate_operands strict operands w' ≡ Some (vs, u')) × Both most u u'
  all_there most [] w w' vs u b ok e = let p : ([], w) ≡ (vs, u) = (let y : Some ([], w) ≡ Some (vs, u) = e in cc) in
      (w', ap (λ (x : List Datum × State). Some (x.0, w')) p, subst (λ (x : List Datum × State). Both most x.1 w') p b)
  all_there most (operand ∷ operands) w w' vs u b ok e = by (evaluate_operand raw operand w) refl e
      (λ v1 u1 u1' vs1 u2 b1 e1. all_there most operands u1 u1' vs1 u2 b1 ok.1 e1)
    where
      Result : Type 0
      Result = (u' : State) × (evaluate_operands strict (operand ∷ operands) w' ≡ Some (vs, u')) × Both most u u'

      Rest : Type 0
      Rest = (v1 : Datum) (u1 u1' : State) (vs1 : List Datum) (u2 : State) → Both most u1 u1' →
          evaluate_operands raw operands u1 ≡ Some (vs1, u2) → (u' : State)
          × (evaluate_operands strict operands u1' ≡ Some (vs1, u')) × Both most u2 u'

      by : (o : Option (Datum × State)) → evaluate_operand raw operand w ≡ o → option_and_then {U = List Datum × State}
          (λ (one : Datum × State). option_map_or {U = Option (List Datum × State)}
          (λ (rest : List Datum × State). Some (one.0 ∷ rest.0, rest.1)) (evaluate_operands raw operands one.1) None)
          o ≡ Some (vs, u) → Rest → Result
      by None h e rest = absurd (let y : None ≡ Some (vs, u) = e in cc)
      by (Some t) h e rest = more (evaluate_operands raw operands t.1) refl e
        where
          more : (o : Option (List Datum × State)) → evaluate_operands raw operands t.1 ≡ o →
              option_map_or {U = Option (List Datum × State)}
              (λ (rest : List Datum × State). Some (t.0 ∷ rest.0, rest.1)) o None ≡ Some (vs, u) → Result
          more None k e = absurd (let y : None ≡ Some (vs, u) = e in cc)
          more (Some r) k e =
              let one = taken_there most operand w w' t.0 t.1 b ok.0 h in
              let others = rest t.0 t.1 one.0 r.0 r.1 one.2 k in
              let p : (t.0 ∷ r.0, r.1) ≡ (vs, u) = (let y : Some (t.0 ∷ r.0, r.1) ≡ Some (vs, u) = e in cc) in (
                others.0,
                ap (option_and_then {U = List Datum × State}
                    (λ (one : Datum × State). option_map_or {U = Option (List Datum × State)}
                    (λ (rest : List Datum × State). Some (one.0 ∷ rest.0, rest.1))
                    (evaluate_operands strict operands one.1) None)) one.1
                    ∙ ap (λ o. option_map_or {U = Option (List Datum × State)}
                    (λ (rest : List Datum × State). Some (t.0 ∷ rest.0, rest.1)) o None) others.1
                    ∙ ap (λ (x : List Datum × State). Some (x.0, others.0)) p,
                subst (λ (x : List Datum × State). Both most x.1 others.0) p others.2,
              )

  pub taking_all-Same : (most : ℕ) (operands : List effects.Operand) (w w' : State)
      (next next' : List Datum → State → Out State) → Both most w w' → OperandsOk operands →
      ((vs : List Datum) (u u' : State) → Both most u u' → Way (next vs u) (next' vs u')) →
      Way (with_operands raw operands w next) (with_operands strict operands w' next')
  taking_all-Same most operands w w' next next' b ok f = by (evaluate_operands raw operands w) refl
    where
      by : (o : Option (List Datum × State)) → evaluate_operands raw operands w ≡ o →
          Way (or_stuck o (λ t. next t.0 t.1) w) (with_operands strict operands w' next')
      by None h = inl tt
      by (Some t) h = let k = all_there most operands w w' t.0 t.1 b ok h in subst
          (λ o. Way (next t.0 t.1) (or_stuck o (λ t. next' t.0 t.1) w')) (sym k.1) (f t.0 t.1 k.0 k.2)
