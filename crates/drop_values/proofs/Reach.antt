-- A place that the raw run reaches, through references and by indices too, is reached in the elaborated run.
use Rattle.std.proofs.Common.{◌≡◌, inl, inr, ℕ, suc, ◌==◌, pos, negsuc, Bool, true, false, List, [], ◌∷◌, length, Option, Some, None, if◌then◌else◌, refl, ap, sym, ◌∙◌, subst, arith}
use Rattle.std.proofs.lemmas.Bool.Decides.{eqb_tells}
use Rattle.std.specs.Option.{option_and_then}
use Rattle.mir_ty.specs.declared.ty.TyId.{TyId}
use Rattle.mir_ty.specs.ItemTable.{ItemTable}
use Rattle.store_model.specs.declared.address.At.{At}
use Rattle.store_model.specs.declared.address.At.TheVariants.{Part, Inside}
use Rattle.store_model.specs.Values.Datum.{Datum, Gone, Number, Truth, UnitValue, Aggregate, Box, Address}
use Rattle.store_model.specs.Places.Place.{Step, ToPart, ToField, ToContent, ToElement, Place}
use Rattle.store_model.specs.Concrete.Location.{Setting, OfType, concrete_ty, is_of_type, Located, below, into, root_address, located_root, located_in, located_at, Reached, Reaches, CutOff, Nowhere, reach_of, reach_if, on_reached, named_by, by_reference, into_element, through, into_field, follow, follow_from, along as walk_along, reach, in_youngest}
use Rattle.store_model.specs.Concrete.State.{State, Activation, Cells, cell, at_depth}
use Rattle.drop_values.specs.Covers.{CoversBy, Unnumbered}
use Rattle.drop_values.specs.Like.{held_by, body_at, body_of, Flags, LikeBy, Like, raw_setting, strict_setting, Extends}
use Rattle.drop_values.proofs.Stand.{with_value, into-parts, Stands, stands-into, standing-address, standing-Stands}
use Rattle.drop_values.proofs.LikeLaws.{there-by}
use Rattle.drop_values.proofs.Names.{Takes, take_step, ReachedBy, ReachedThere}

-- the locals by which elements are taken are locals of the raw body
abbrev pub IndexOk : (ℕ → Option TyId) → List Step → Type 0
IndexOk ty [] = Unit {0}
IndexOk ty (ToPart n ∷ steps) = IndexOk ty steps
IndexOk ty (ToField v n ∷ steps) = IndexOk ty steps
IndexOk ty (ToContent ∷ steps) = IndexOk ty steps
IndexOk ty (ToElement local ∷ steps) = ((id : TyId) × (ty local ≡ Some id)) × IndexOk ty steps

abbrev StepOk : (ℕ → Option TyId) → Step → Type 0
StepOk ty (ToPart n) = Unit {0}
StepOk ty (ToField v n) = Unit {0}
StepOk ty ToContent = Unit {0}
StepOk ty (ToElement local) = (id : TyId) × (ty local ≡ Some id)

index_split : (ty : ℕ → Option TyId) (step : Step) (steps : List Step) → IndexOk ty (step ∷ steps) → StepOk ty step
    × IndexOk ty steps
index_split ty (ToPart n) steps h = (tt, h)
index_split ty (ToField v n) steps h = (tt, h)
index_split ty ToContent steps h = (tt, h)
index_split ty (ToElement local) steps h = h

reached_some : (o : Option Located) (m : Located) → reach_of o ≡ Reaches m → o ≡ Some m
reached_some None m e = absurd (let x : Nowhere ≡ Reaches m = e in cc)
reached_some (Some t) m e = let x : t ≡ m = cc in ap Some x

reached_if_some : (b : Bool) (o : Option Located) (m : Located) → reach_if b o ≡ Reaches m → (b ≡ true) × (o ≡ Some m)
reached_if_some true None m e = absurd (let x : Nowhere ≡ Reaches m = e in cc)
reached_if_some true (Some t) m e = (refl, (let x : t ≡ m = cc in ap Some x))
reached_if_some false o m e = absurd (let x : Nowhere ≡ Reaches m = e in cc)

on_reaches : (r : Reached) (f : Located → Reached) (m : Located) → on_reached r f CutOff Nowhere ≡ Reaches m →
    (t : Located) × (r ≡ Reaches t) × (f t ≡ Reaches m)
on_reaches (Reaches t) f m e = (t, refl, e)
on_reaches CutOff f m e = absurd (let x : CutOff ≡ Reaches m = e in cc)
on_reaches Nowhere f m e = absurd (let x : Nowhere ≡ Reaches m = e in cc)

module _ (Spare : Datum → Type 0) (items : ItemTable) (local_ty local_ty' : (body local : ℕ) → Option TyId)
    (extends : Extends local_ty local_ty') (flags : Flags) (w w' : State) (like : LikeBy Spare local_ty flags w w')
  where
    abbrev raw : Setting
    raw = raw_setting items local_ty

    abbrev strict : Setting
    strict = strict_setting items local_ty'

    not_gone : (cells : Cells) (step : Step) (d : Datum) (s m : Located) → follow_from raw w cells step d s ≡ Reaches
        m →
        follow raw w cells step s ≡ Reaches m
    not_gone cells step Gone s m e = absurd (let x : CutOff ≡ Reaches m = e in cc)
    not_gone cells step other s m e = e

    stands_part : (s m : Located) (at : At) → Stands raw w s → into items at s ≡ Some m → Stands raw w m
    stands_part s m at st e =
        let there : located_at raw w (below s.address at) ≡ Some m = stands-into raw w s at st ∙ e in
        ap (located_at raw w) (standing-address raw w (below s.address at) m there) ∙ there

    module _ (number : ℕ) (cells cells' : Cells) (covered : (k : ℕ) (id : TyId) → local_ty number k ≡ Some id →
        CoversBy Spare (cell k cells) (cell k cells')) where
      -- what a step leads to in both runs
      abbrev StepThere : Step → Located → Located → Datum → Type 0
      StepThere step s m other = (inner : Datum) × (follow_from strict w' cells' step other (with_value s other) ≡
          Reaches
          (with_value m inner)) × CoversBy Spare m.value inner × Stands raw w m

      by_take : (step : Step) (at : At) (s m : Located) (other : Datum) → Stands raw w s → CoversBy Spare s.value
          other →
          into items at s ≡ Some m → Takes items step at s m → StepThere step s m other
      by_take step at s m other st c e t = let k = take_step items local_ty local_ty' extends Spare w' cells'
          step at s m other t c in (k.0, k.1, k.2, stands_part s m at st e)

      by_field : (v n : ℕ) (d : Datum) (s m : Located) (other : Datum) → s.value ≡ d → Stands raw w s →
          CoversBy Spare s.value other → into_field raw w cells v n d s ≡ Reaches m → StepThere (ToField v n) s m other
      by_field v n (Aggregate active serial parts) s m other is st c e =
          let r = reached_if_some (v == active) (into items (Part n) s) m e in
          by_take (ToField v n) (Part n) s m other st c r.1 (
            refl,
            (serial, parts, is ∙ ap (λ x. Aggregate x serial parts) (sym (same r.0))),
            into-parts items
                (Part n) s m r.1,
          )
        where
          same : (v == active) ≡ true → v ≡ active
          same y = elim (eqb_tells v active) [ inl z ↦ z.1 | inr z ↦ absurd (let x : true ≡ false = sym y ∙ z.0 in cc) ]
      by_field v n others s m other is st c e = absurd (let x : Nowhere ≡ Reaches m = e in cc)

      by_name : (o : Option TyId) (u : Option Located) (m : Located) → by_reference items o u ≡ Reaches m →
          (id : TyId) × (o ≡ Some id) × (u ≡ Some m) × (is_of_type items id m.dynamic ≡ true)
      by_name None u m e = absurd (let x : Nowhere ≡ Reaches m = e in cc)
      by_name (Some id) None m e = absurd (let x : Nowhere ≡ Reaches m = e in cc)
      by_name (Some id) (Some u) m e = let r = reached_if_some (is_of_type items id u.dynamic)
          (Some u) m e in (
            id,
            refl,
            r.1,
            ap (λ (x : Located). is_of_type items id x.dynamic)
                (let x : m ≡ u = (let y : Some u ≡ Some m = r.1 in cc) in x) ∙ r.0,
          )

      by_content : (d : Datum) (s m : Located) (other : Datum) → s.value ≡ d → Stands raw w s → CoversBy Spare s.value
          other →
          through raw w cells d s ≡ Reaches m → StepThere ToContent s m other
      by_content (Box serial impl_no inside) s m other is st c e =
          let i = reached_some (into items Inside s) m e in by_take ToContent Inside s m other st c i
          (refl, into-parts items Inside s m i)
      by_content (Address address) s m other is st c e =
          let n = by_name (named_by (concrete_ty items s.dynamic)) (located_at raw w address) m e in
          let t = there-by items local_ty local_ty' extends Spare flags w w' address m like n.2 in
          let other_is : other ≡ Address address = subst (λ d. CoversBy Spare d other) is c in (
            t.other,
            ap (λ d. follow_from strict w' cells' ToContent d (with_value s d)) other_is
                ∙ ap (λ o. by_reference items o (located_at strict w' address)) n.1
                ∙ ap (by_reference items (Some n.0)) t.stands ∙ ap (λ b. reach_if b (Some (with_value m t.other)))
                n.3,
            t.covers,
            standing-Stands raw w address m n.2,
          )
      by_content Gone s m other is st c e = absurd (let x : Nowhere ≡ Reaches m = e in cc)
      by_content (Number number) s m other is st c e = absurd (let x : Nowhere ≡ Reaches m = e in cc)
      by_content (Truth truth) s m other is st c e = absurd (let x : Nowhere ≡ Reaches m = e in cc)
      by_content UnitValue s m other is st c e = absurd (let x : Nowhere ≡ Reaches m = e in cc)
      by_content (Aggregate variant serial parts) s m other is st c e = absurd (let x : Nowhere ≡ Reaches m = e in cc)

      -- an element is a part whose number a local holds
      as_element : (local n : ℕ) (d : Datum) (t : Located) (r : Located) → cell local cells' ≡ Number (pos n) →
          follow_from strict w' cells' (ToPart n) d t ≡ Reaches r → follow_from strict w' cells'
          (ToElement local) d t ≡ Reaches r
      as_element local n Gone t r k e = absurd (let x : CutOff ≡ Reaches r = e in cc)
      as_element local n other t r k e = ap (λ d. into_element strict w' cells' d t) k ∙ e

      by_element : (local : ℕ) (d : Datum) (s m : Located) (other : Datum) → CoversBy Spare d (cell local cells') →
          Stands raw w s → CoversBy Spare s.value other → into_element raw w cells d s ≡ Reaches m →
          StepThere (ToElement local) s m other
      by_element local (Number (pos n)) s m other k st c e =
          let i = reached_some (into items (Part n) s) m e in
          let t = by_take (ToPart n) (Part n) s m other st c i (refl, into-parts items (Part n) s m i) in
          (t.0, as_element local n other (with_value s other) (with_value m t.0) k t.1, t.2, t.3)
      by_element local others s m other k st c e = absurd (let x : Nowhere ≡ Reaches m = e in cc)

      one_step : (step : Step) (s m : Located) (other : Datum) → StepOk (local_ty number) step → Stands raw w s →
          CoversBy Spare s.value other → follow raw w cells step s ≡ Reaches m → StepThere step s m other
      one_step (ToPart n) s m other ok st c e = let i = reached_some (into items (Part n) s) m e in by_take
          (ToPart n) (Part n) s m other st c i (refl, into-parts items (Part n) s m i)
      one_step (ToField v n) s m other ok st c e = by_field v n s.value s m other refl st c e
      one_step ToContent s m other ok st c e = by_content s.value s m other refl st c e
      one_step (ToElement local) s m other ok st c e = by_element local (cell local cells) s m other
          (covered local ok.0 ok.1) st c e

      all_steps : (steps : List Step) (s t : Located) (other : Datum) → IndexOk (local_ty number) steps →
          Stands raw w s → CoversBy Spare s.value other → walk_along raw w cells steps s ≡ Reaches t →
          (other' : Datum) × (walk_along strict w' cells' steps (with_value s other) ≡ Reaches (with_value t other'))
          × CoversBy Spare t.value other' × Stands raw w t
      all_steps [] s t other ok st c e = let same : s ≡ t =
          cc in (
            other,
            ap (λ x. Reaches (with_value x other)) same,
            subst (λ x. CoversBy Spare x.value other) same c,
            subst
                (Stands raw w) same st,
          )
      all_steps (step ∷ steps) s t other ok st c e =
          let oks = index_split (local_ty number) step steps ok in
          let r = on_reaches (follow_from raw w cells step s.value s) (walk_along raw w cells steps) t e in
          let one = one_step step s r.0 other oks.0 st c (not_gone cells step s.value s r.0 r.1) in
          let rest = all_steps steps r.0 t one.0 oks.1 one.3 one.2 r.2 in (
            rest.0,
            ap (λ x. on_reached x (walk_along strict w' cells' steps) CutOff Nowhere) one.1
                ∙ rest.1,
            rest.2,
            rest.3,
          )

    -- a place that is reached in the raw run
    pub reach_by : (depth number : ℕ) (place : Place) (t : Located) → length w.activations ≡ suc depth →
        body_at depth w ≡ Some number → IndexOk (local_ty number) place.steps → reach raw w place ≡ Reaches t →
        ReachedBy items local_ty local_ty' extends Spare w' place t × Stands raw w t
    reach_by depth number place t deep is ok e = by w.activations refl w'.activations refl e
      where
        same : (d : ℕ) → (d == d) ≡ true
        same d = elim (eqb_tells d d) [ inl y ↦ y.0 | inr y ↦ absurd (y.1 refl) ]

        by : (acts : List Activation) → w.activations ≡ acts → (acts' : List Activation) → w'.activations ≡ acts' →
            in_youngest raw w place acts ≡ Reaches t → ReachedBy items local_ty local_ty' extends Spare w' place t
            × Stands raw w t
        by [] h acts' h' e = absurd (let x : 0 ≡ suc depth = sym (ap length h) ∙ deep in cc)
        by (a ∷ older) h [] h' e = absurd (let x : 0 ≡ suc depth = sym (ap length h') ∙ like.count ∙ deep in cc)
        by (a ∷ older) h (a' ∷ older') h' e = ty (local_ty a.body place.local) refl e
          where
            long : length older ≡ depth
            long = let x : suc (length older) ≡ suc depth = sym (ap length h) ∙ deep in omega (arith, x)

            long' : length older' ≡ length older
            long' = let x : suc (length older') ≡ suc (length older) = sym (ap length h') ∙ like.count
                ∙ ap length h in omega (arith, x)

            at : at_depth (length older) w.activations ≡ Some a
            at = ap (at_depth (length older)) h ∙ ap (λ b. if b then Some a else at_depth (length older) older)
                (same (length older))

            at' : at_depth (length older) w'.activations ≡ Some a'
            at' = ap (at_depth (length older)) h' ∙ ap (λ b. if b then Some a' else at_depth (length older) older')
                (ap (λ n. length older == n) long' ∙ same (length older))

            number_is : a.body ≡ number
            number_is = let x : Some a.body ≡ Some number = sym (ap body_of at) ∙ ap (λ d. body_at d w) long ∙ is in cc

            number'_is : a'.body ≡ a.body
            number'_is = let x : Some a'.body ≡ Some a.body = sym (ap body_of at') ∙ like.bodies (length older)
                ∙ ap body_of at in cc

            covered : (k : ℕ) (id : TyId) → local_ty a.body k ≡ Some id → CoversBy Spare (cell k a.cells) (cell k
                a'.cells)
            covered k id e = subst (λ o. CoversBy Spare (held_by k o) (cell k a'.cells)) at
                (subst (λ o. CoversBy Spare (held k w) (held_by k o)) at'
                (like.covers (length older) k a.body id (ap body_of at) e))
              where
                held : ℕ → State → Datum
                held k w = held_by k (at_depth (length older) w.activations)

            ty : (o : Option TyId) → local_ty a.body place.local ≡ o → in_youngest raw w place (a ∷ older) ≡ Reaches t →
                ReachedBy items local_ty local_ty' extends Spare w' place t × Stands raw w t
            ty None k e = absurd (let x : Nowhere ≡ Reaches t =
                sym (ap (λ o. on_reached (reach_of (located_root (length older) place.local a.cells o))
                (walk_along raw w a.cells place.steps) CutOff Nowhere) k) ∙ e in cc)
            ty (Some id) k e =
                let root : Located = record {
                  address = root_address (length older) place.local;
                  dynamic =
                      OfType id;
                  value = cell place.local a.cells;
                } in
                let st : Stands raw w root = ap (option_and_then (λ s. Some s))
                (ap (located_in raw w (length older) place.local) at
                ∙ ap (located_root (length older) place.local a.cells) k) in
                let r = all_steps a.body a.cells a'.cells covered place.steps root t (cell place.local a'.cells)
                (subst (λ b. IndexOk (local_ty b) place.steps) (sym number_is) ok) st (covered place.local id k)
                (sym (ap (λ o. on_reached (reach_of (located_root (length older) place.local a.cells o))
                (walk_along raw w a.cells place.steps) CutOff Nowhere) k) ∙ e) in (
                  record {
                    other = r.0;
                    reaches = ap (in_youngest strict w' place) h'
                        ∙ ap (λ o. on_reached (reach_of (located_root (length older') place.local a'.cells o))
                        (walk_along strict w' a'.cells place.steps) CutOff Nowhere)
                        (ap (λ b. local_ty' b place.local) number'_is ∙ extends a.body place.local id k)
                        ∙ ap (λ n. on_reached (reach_of (located_root n place.local a'.cells (Some id)))
                        (walk_along strict w' a'.cells place.steps) CutOff Nowhere) long' ∙ r.1;
                    covers = r.2;
                  },
                  r.3,
                )

module _ (items : ItemTable) (local_ty local_ty' : (body local : ℕ) → Option TyId)
    (extends : Extends local_ty local_ty') (flags : Flags) (w w' : State) (like : Like local_ty flags w w') where
  -- in states that are alike
  pub reach_there : (depth number : ℕ) (place : Place) (t : Located) → length w.activations ≡ suc depth →
      body_at depth w ≡ Some number → IndexOk (local_ty number) place.steps →
      reach (raw_setting items local_ty) w place ≡ Reaches t →
      ReachedThere items local_ty local_ty' extends w' place t × Stands (raw_setting items local_ty) w t
  reach_there depth number place t deep is ok e =
      reach_by Unnumbered items local_ty local_ty' extends flags w w' like depth number place t deep is ok e
