-- States that are alike: what stands at an address in both, and a change in both.
use Rattle.std.proofs.Common.{◌≡◌, inl, inr, ℕ, zero, suc, ◌==◌, Bool, true, false, ◌&&◌, List, [], ◌∷◌, ◌++◌, Option, Some, None, refl, ap, sym, ◌∙◌, subst}
use Rattle.std.proofs.lemmas.Bool.Decides.{eqb_tells}
use Rattle.std.proofs.lemmas.Option.{option_and_then_some}
use Rattle.std.specs.Option.{option_and_then, option_map_or, option_to_list}
use Rattle.mir_ty.specs.declared.ty.TyId.{TyId}
use Rattle.mir_ty.specs.ItemTable.{ItemTable}
use Rattle.store_model.specs.declared.address.Addr.{Addr}
use Rattle.store_model.specs.declared.address.At.{At}
use Rattle.store_model.specs.declared.address.At.TheVariants.{Part, Inside}
use Rattle.store_model.specs.Values.Datum.{Datum, Data, Gone, Number, Truth, UnitValue, Aggregate, Box, Address, no_part, a_part}
use Rattle.store_model.specs.Values.Access.{part, with_part, part_at, with_part_at, replaced}
use Rattle.store_model.specs.Concrete.Location.{Setting, DynamicType, OfType, type_of_part, Located, into, into_all, root_address, located_at}
use Rattle.store_model.specs.Values.Wholeness.{IsWhole, AreWhole, serials, serials_of_all}
use Rattle.store_model.specs.Concrete.State.{State}
use Rattle.store_model.proofs.Values.Access.{replaced-step}
use Rattle.drop_values.specs.Covers.{CoversBy, AllCoveredBy, Unnumbered, Covers, CoversAll}
use Rattle.drop_values.specs.Like.{held, body_at, Flags, LikeBy, Like, raw_setting, strict_setting, Extends, SameTold}
use Rattle.drop_values.proofs.Stand.{Changed, with_value, Into, into-parts, into-is, rooted, standing-held, Rooted, to_root}

-- ---- such values may stand in place of what is gone

module _ (Spare : Datum → Type 0) where
  mutual
    -- a whole value is covered by itself alone
    pub whole-by : (d other : Datum) → IsWhole d → CoversBy Spare d other → other ≡ d
    whole-by Gone other h c = absurd h
    whole-by (Number number) other h c = c
    whole-by (Truth truth) other h c = c
    whole-by UnitValue other h c = c
    whole-by (Aggregate variant serial parts) other h c = c.1 ∙ ap (Aggregate variant serial)
        (wholes-by parts c.0 h c.2)
    whole-by (Box serial impl_no inside) other h c = c.1 ∙ ap (Box serial impl_no) (whole-by inside c.0 h c.2)
    whole-by (Address address) other h c = c

    wholes-by : (parts others : Data) → AreWhole parts → AllCoveredBy Spare parts others → others ≡ parts
    wholes-by no_part others h c = c
    wholes-by (a_part first rest) others h c = c.2 ∙ ap (λ x. a_part x c.1) (whole-by first c.0 h.0 c.3)
        ∙ ap (a_part first) (wholes-by rest c.1 h.1 c.4)

  part_at-by : (n : ℕ) (parts others : Data) (inner : Datum) → AllCoveredBy Spare parts others →
      part_at n parts ≡ Some inner → (inner' : Datum) × (part_at n others ≡ Some inner') × CoversBy Spare inner inner'
  part_at-by n no_part others inner c e = absurd (let x : None ≡ Some inner = e in cc)
  part_at-by zero (a_part first rest) others inner c e =
      (c.0, ap (part_at zero) c.2, subst (λ d. CoversBy Spare d c.0) (let x : first ≡ inner = cc in x) c.3)
  part_at-by (suc n) (a_part first rest) others inner c e = let p =
      part_at-by n rest c.1 inner c.4 e in (p.0, ap (part_at (suc n)) c.2 ∙ p.1, p.2)

  with_part_at-by : (n : ℕ) (parts others : Data) (new new' : Datum) → AllCoveredBy Spare parts others →
      CoversBy Spare new new' → AllCoveredBy Spare (with_part_at n new parts) (with_part_at n new' others)
  with_part_at-by n no_part others new new' c h = ap (with_part_at n new') c
  with_part_at-by zero (a_part first rest) others new new' c h =
      (new', c.1, ap (with_part_at zero new') c.2, h, c.4)
  with_part_at-by (suc n) (a_part first rest) others new new' c h = (
    c.0,
    with_part_at n new' c.1,
    ap (with_part_at (suc n) new') c.2,
    c.3,
    with_part_at-by
        n rest c.1 new new' c.4 h,
  )

  -- a part of a value is covered by that part
  pub record PartCovers (items : ItemTable) (step : At) (d other inner : Datum) : Type 0 where
    pub inner' : Datum
    pub part_is : part step other ≡ Some inner'
    pub covers : CoversBy Spare inner inner'
    pub found_is : (found : DynamicType) → type_of_part items step other found ≡ type_of_part items step d found
    pub changed : (new new' : Datum) → CoversBy Spare new new' → CoversBy Spare (with_part step new d) (with_part step
        new' other)

  pub part-by : (items : ItemTable) (step : At) (d other inner : Datum) → CoversBy Spare d other → part step d ≡ Some
      inner →
      PartCovers items step d other inner
  part-by items (Part n) (Aggregate variant serial parts) other inner c e = let p =
      part_at-by n parts c.0 inner c.2 e in record {
        inner' = p.0;
        part_is = ap (part (Part n)) c.1 ∙ p.1;
        covers = p.2;
        found_is = λ found. ap (λ x. type_of_part items (Part n) x found) c.1;
        changed = λ new new' h. (
          with_part_at n new' c.0,
          ap (with_part (Part n) new') c.1,
          with_part_at-by
              n parts c.0 new new' c.2 h,
        );
      }
  part-by items Inside (Box serial impl_no inside) other inner c e = record {
    inner' = c.0;
    part_is = ap (part Inside) c.1;
    covers = subst (λ d. CoversBy Spare d c.0) (let x : inside ≡ inner = cc in x) c.2;
    found_is = λ found. ap (λ x. type_of_part items Inside x found) c.1;
    changed = λ new new' h. (new', ap (with_part Inside new') c.1, h);
  }
  part-by items (Part n) Gone other inner c e = absurd (let x : None ≡ Some inner = e in cc)
  part-by items (Part n) (Number number) other inner c e = absurd (let x : None ≡ Some inner = e in cc)
  part-by items (Part n) (Truth truth) other inner c e = absurd (let x : None ≡ Some inner = e in cc)
  part-by items (Part n) UnitValue other inner c e = absurd (let x : None ≡ Some inner = e in cc)
  part-by items (Part n) (Box serial impl_no inside) other inner c e = absurd (let x : None ≡ Some inner = e in cc)
  part-by items (Part n) (Address address) other inner c e = absurd (let x : None ≡ Some inner = e in cc)
  part-by items Inside Gone other inner c e = absurd (let x : None ≡ Some inner = e in cc)
  part-by items Inside (Number number) other inner c e = absurd (let x : None ≡ Some inner = e in cc)
  part-by items Inside (Truth truth) other inner c e = absurd (let x : None ≡ Some inner = e in cc)
  part-by items Inside UnitValue other inner c e = absurd (let x : None ≡ Some inner = e in cc)
  part-by items Inside (Aggregate variant serial parts) other inner c e = absurd (let x : None ≡ Some inner = e in cc)
  part-by items Inside (Address address) other inner c e = absurd (let x : None ≡ Some inner = e in cc)

  -- along a path, what stands there is covered, and a change there
  pub record AlongCovers (items : ItemTable) (path : List At) (s t : Located) (other : Datum) : Type 0 where
    pub other' : Datum
    pub reaches : into_all items path (with_value s other) ≡ Some (with_value t other')
    pub covers : CoversBy Spare t.value other'
    pub changed : (new new' : Datum) → CoversBy Spare new new' → CoversBy Spare (replaced path new s.value) (replaced
        path new' other)

  pub along-by : (items : ItemTable) (path : List At) (s t : Located) (other : Datum) →
      into_all items path s ≡ Some t → CoversBy Spare s.value other → AlongCovers items path s t other
  along-by items [] s t other e c = record {
    other' = other;
    reaches = ap (λ x. Some (with_value x other)) same;
    covers = subst (λ x. CoversBy Spare x.value other) same c;
    changed = λ new new' h. h;
  }
    where
      same : s ≡ t
      same = let x : s ≡ t = cc in x
  along-by items (step ∷ path) s t other e c = option_and_then_some (into_all items path) (into items step s) t e
      (λ m h k.
      let i = into-parts items step s m h in
      let p = part-by items step s.value other i.value c i.value_is in
      let a = along-by items path m t p.inner' k (subst (λ x. CoversBy Spare x.value p.inner') (sym i.is) p.covers) in
      let j : Into items step (with_value s other) (with_value m p.inner') =
      record {
        value = p.inner';
        dynamic = i.dynamic;
        value_is = p.part_is;
        found_is = p.found_is s.dynamic
            ∙ i.found_is;
        is = ap (λ x. with_value x p.inner') i.is;
      } in record {
        other' = a.other';
        reaches = ap (option_and_then (into_all items path)) (into-is items step (with_value s other)
            (with_value m p.inner') j) ∙ a.reaches;
        covers = a.covers;
        changed = λ new new' h.
            subst (λ x. CoversBy Spare x (replaced (step ∷ path) new' other))
            (sym (replaced-step step path new s.value m.value (i.value_is ∙ ap (λ x. Some x.value) (sym i.is))))
            (subst (CoversBy Spare (with_part step (replaced path new m.value) s.value))
            (sym (replaced-step step path new' other p.inner' p.part_is))
            (p.changed (replaced path new m.value) (replaced path new' p.inner') (a.changed new new' h)));
      })

-- ---- values with nothing numbered may

pub whole-Covers : (d other : Datum) → IsWhole d → Covers d other → other ≡ d
whole-Covers d other h c = whole-by Unnumbered d other h c

mutual
  pub Covers-same : (d : Datum) → Covers d d
  Covers-same Gone = refl
  Covers-same (Number number) = refl
  Covers-same (Truth truth) = refl
  Covers-same UnitValue = refl
  Covers-same (Aggregate variant serial parts) = (parts, refl, CoversAll-same parts)
  Covers-same (Box serial impl_no inside) = (inside, refl, Covers-same inside)
  Covers-same (Address address) = refl

  CoversAll-same : (parts : Data) → CoversAll parts parts
  CoversAll-same no_part = refl
  CoversAll-same (a_part first rest) = (first, rest, refl, Covers-same first, CoversAll-same rest)

mutual
  -- the same values are numbered
  pub serials-Covers : (d other : Datum) → Covers d other → serials other ≡ serials d
  serials-Covers Gone other c = c
  serials-Covers (Number number) other c = ap serials c
  serials-Covers (Truth truth) other c = ap serials c
  serials-Covers UnitValue other c = ap serials c
  serials-Covers (Aggregate variant serial parts) other c = ap serials c.1 ∙ ap (λ l. option_to_list serial ++ l)
      (serials-CoversAll parts c.0 c.2)
  serials-Covers (Box serial impl_no inside) other c = ap serials c.1 ∙ ap (λ l. l ++ serial ∷ [])
      (serials-Covers inside c.0 c.2)
  serials-Covers (Address address) other c = ap serials c

  serials-CoversAll : (parts others : Data) → CoversAll parts others → serials_of_all others ≡ serials_of_all parts
  serials-CoversAll no_part others c = ap serials_of_all c
  serials-CoversAll (a_part first rest) others c =
      ap serials_of_all c.2 ∙ ap (λ l. l ++ serials_of_all c.1) (serials-Covers first c.0 c.3)
      ∙ ap (λ l. serials first ++ l) (serials-CoversAll rest c.1 c.4)

module _ (items : ItemTable) (local_ty local_ty' : (body local : ℕ) → Option TyId)
    (extends : Extends local_ty local_ty') where
  abbrev raw : Setting
  raw = raw_setting items local_ty

  abbrev strict : Setting
  strict = strict_setting items local_ty'

  -- a root is that of a local of the raw graph
  pub record OfRaw (d k : ℕ) (o : Option ℕ) (t : Located) : Type 0 where
    pub body : ℕ
    pub id : TyId
    pub body_is : o ≡ Some body
    pub ty_is : local_ty body k ≡ Some id

  pub of_raw : (d k : ℕ) (o : Option ℕ) (v : Datum) (t : Located) → rooted raw d k o v ≡ Some t → OfRaw d k o t
  of_raw d k None v t e = absurd (let x : None ≡ Some t = e in cc)
  of_raw d k (Some b) v t e = go (local_ty b k) refl e
    where
      go : (o : Option TyId) → local_ty b k ≡ o → option_map_or
          (λ id. Some (record { address = root_address d k; dynamic = OfType id; value = v })) o None ≡ Some t →
          OfRaw d k (Some b) t
      go None h e = absurd (let x : None ≡ Some t = e in cc)
      go (Some id) h e = record { body = b; id = id; body_is = refl; ty_is = h }

  pub extended : (d k : ℕ) (o : Option ℕ) (v : Datum) (t : Located) → rooted raw d k o v ≡ Some t →
      rooted strict d k o v ≡ Some t
  extended d k None v t e = e
  extended d k (Some b) v t e = go (local_ty b k) refl e
    where
      go : (o : Option TyId) → local_ty b k ≡ o → option_map_or
          (λ id. Some (record { address = root_address d k; dynamic = OfType id; value = v })) o None ≡ Some t →
          rooted strict d k (Some b) v ≡ Some t
      go None h e = absurd (let x : None ≡ Some t = e in cc)
      go (Some id) h e = ap (λ o. option_map_or (λ id. Some
          (record { address = root_address d k; dynamic = OfType id; value = v })) o None) (extends b k id h) ∙ e

  module _ (Spare : Datum → Type 0) where
    -- what stands at an address in the elaborated run
    pub record There (w' : State) (a : Addr) (t : Located) : Type 0 where
      pub other : Datum
      pub stands : located_at strict w' a ≡ Some (with_value t other)
      pub covers : CoversBy Spare t.value other

    pub there-by : (flags : Flags) (w w' : State) (a : Addr) (t : Located) → LikeBy Spare local_ty flags w w' →
        located_at raw w a ≡ Some t → There w' a t
    there-by flags w w' a t like e =
        let r = to_root raw w a t e in
        let o = of_raw a.depth a.key.0 (body_at a.depth w) (held a.depth a.key.0 w) r.root r.root_is in
        let c : CoversBy Spare r.root.value (held a.depth a.key.0 w') = subst (λ d. CoversBy Spare d (held a.depth
        a.key.0 w'))
        (sym r.root_value) (like.covers a.depth a.key.0 o.body o.id o.body_is o.ty_is) in
        let p = along-by Spare items a.path r.root t (held a.depth a.key.0 w')
        (sym (ap (option_and_then (into_all items a.path)) r.root_is) ∙ sym (standing-held raw w a) ∙ e) c in record {
          other = p.other';
          stands =
              standing-held strict w' a ∙ ap (λ b. option_and_then (into_all items a.path)
              (rooted strict a.depth a.key.0 b (held a.depth a.key.0 w'))) (like.bodies a.depth)
              ∙ ap (option_and_then (into_all items a.path)) (extended a.depth a.key.0 (body_at a.depth w)
              (held a.depth a.key.0 w') (with_value r.root (held a.depth a.key.0 w'))
              (r.other_root (held a.depth a.key.0 w')))
              ∙ p.reaches;
          covers = p.covers;
        }

    -- a change in both
    pub change-by : (flags : Flags) (w w' v v' : State) (a : Addr) (t : Located) (new new' : Datum) →
        LikeBy Spare local_ty flags w w' → located_at raw w a ≡ Some t → Changed a new w v → Changed a new' w' v' →
        CoversBy Spare new new' → SameTold v v' →
        LikeBy Spare local_ty flags v v'
    change-by flags w w' v v' a t new new' like e c c' h told = record {
      asked = told.asked;
      ticks = told.ticks;
      serial = told.serial;
      trace = told.trace;
      count = c'.count ∙ like.count ∙ sym c.count;
      bodies = λ d. c'.bodies d ∙ like.bodies d ∙ sym (c.bodies d);
      covers = λ d k b id is ty. covers d k b id (sym (c.bodies d) ∙ is) ty ((d == a.depth) && (k == a.key.0)) refl;
      flags_are = λ d k b is ty. flag d k b (sym (c.bodies d) ∙ is) ty ((d == a.depth) && (k == a.key.0)) refl;
    }
      where
        root : Rooted raw w a t
        root = to_root raw w a t e

        same_place : (d k : ℕ) → ((d == a.depth) && (k == a.key.0)) ≡ true → (d ≡ a.depth) × (k ≡ a.key.0)
        same_place d k n = elim (eqb_tells d a.depth) [
          | inl y ↦ elim (eqb_tells k a.key.0) [
            | inl z ↦ (y.1, z.1)
            | inr z ↦ absurd (let x : false ≡ true = sym (ap (λ b. b && (k == a.key.0)) y.0 ∙ z.0) ∙ n in cc)
          ]
          | inr y ↦ absurd (let x : false ≡ true = sym (ap (λ b. b && (k == a.key.0)) y.0) ∙ n in cc)
        ]

        covers : (d k b : ℕ) (id : TyId) → body_at d w ≡ Some b → local_ty b k ≡ Some id → (yes : Bool) →
            ((d == a.depth) && (k == a.key.0)) ≡ yes → CoversBy Spare (held d k v) (held d k v')
        covers d k b id is ty false n = subst (λ x. CoversBy Spare x (held d k v')) (sym (c.apart d k n))
            (subst (CoversBy Spare (held d k w)) (sym (c'.apart d k n)) (like.covers d k b id is ty))
        covers d k b id is ty true n =
            let same = same_place d k n in
            let o = of_raw a.depth a.key.0 (body_at a.depth w) (held a.depth a.key.0 w) root.root root.root_is in
            let cov : CoversBy Spare root.root.value (held a.depth a.key.0 w') = subst (λ d. CoversBy Spare d (held
            a.depth a.key.0 w'))
            (sym root.root_value) (like.covers a.depth a.key.0 o.body o.id o.body_is o.ty_is) in
            let p = along-by Spare items a.path root.root t (held a.depth a.key.0 w')
            (sym (ap (option_and_then (into_all items a.path)) root.root_is) ∙ sym (standing-held raw w a) ∙ e) cov in
            let there : CoversBy Spare (replaced a.path new (held a.depth a.key.0 w))
            (replaced a.path new' (held a.depth a.key.0 w')) =
            subst (λ x. CoversBy Spare (replaced a.path new x) (replaced a.path new' (held a.depth a.key.0 w')))
            root.root_value (p.changed new new' h) in
            subst (λ d. CoversBy Spare (held d k v) (held d k v')) (sym same.0)
            (subst (λ k. CoversBy Spare (held a.depth k v) (held a.depth k v')) (sym same.1)
            (subst (λ x. CoversBy Spare x (held a.depth a.key.0 v')) (sym c.here)
            (subst (CoversBy Spare (replaced a.path new (held a.depth a.key.0 w))) (sym c'.here) there)))

        flag : (d k b : ℕ) → body_at d w ≡ Some b → local_ty b k ≡ None → (yes : Bool) →
            ((d == a.depth) && (k == a.key.0)) ≡ yes → held d k v' ≡ flags d k
        flag d k b is ty false n = c'.apart d k n ∙ like.flags_are d k b is ty
        flag d k b is ty true n =
            let same = same_place d k n in
            let o = of_raw a.depth a.key.0 (body_at a.depth w) (held a.depth a.key.0 w) root.root root.root_is in
            let same_body : Some b ≡ Some o.body = sym is ∙ ap (λ d. body_at d w) same.0 ∙ o.body_is in
            absurd (let x : None ≡ Some o.id = sym ty ∙ ap (λ b. local_ty b k) (let y : b ≡ o.body = cc in y)
            ∙ ap (local_ty o.body) same.1 ∙ o.ty_is in cc)

  -- the same of states that are alike
  abbrev pub StandsThere : State → Addr → Located → Type 0
  StandsThere w' a t = There Unnumbered w' a t

  pub there : (flags : Flags) (w w' : State) (a : Addr) (t : Located) → Like local_ty flags w w' →
      located_at raw w a ≡ Some t → StandsThere w' a t
  there flags w w' a t like e = there-by Unnumbered flags w w' a t like e

  pub change-Like : (flags : Flags) (w w' v v' : State) (a : Addr) (t : Located) (new new' : Datum) →
      Like local_ty flags w w' → located_at raw w a ≡ Some t → Changed a new w v → Changed a new' w' v' →
      Covers new new' → SameTold v v' → Like local_ty flags v v'
  change-Like flags w w' v v' a t new new' like e c c' h told =
      change-by Unnumbered flags w w' v v' a t new new' like e c c' h told
