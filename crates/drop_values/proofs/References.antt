-- What an address names within the body's own locals, where all of it is known as present: it is full, and it is known
-- so still after changes at places of the body's own that do not take it, and after full values came to it or
-- elsewhere.
use Rattle.std.proofs.Common.{◌≡◌, inl, inr, ℕ, ◌==◌, ◌&&◌, Bool, true, false, List, [], ◌∷◌, ◌++◌, Option, Some, if◌then◌else◌, refl, ap, sym, ◌∙◌, subst}
use Rattle.std.specs.Cmp.{first_so, second_so}
use Rattle.std.proofs.lemmas.Bool.Decides.{Decides-eqb, eqb_tells}
use Rattle.mir_ty.specs.declared.ty.TyId.{TyId}
use Rattle.mir_ty.specs.ItemTable.{ItemTable}
use Rattle.store_model.specs.declared.address.Addr.{Addr}
use Rattle.store_model.specs.declared.address.At.{At}
use Rattle.store_model.specs.Abstract.Presence.{Presence, after_action, all_present}
use Rattle.store_model.specs.Concrete.Location.{Setting, DynamicType, OfType, Located, located_at, root_address}
use Rattle.store_model.specs.Concrete.State.{State}
use Rattle.store_model.specs.Places.Place.{Place}
use Rattle.store_model.specs.Values.Access.{replaced}
use Rattle.store_model.specs.Values.Datum.{Datum}
use Rattle.drop_values.specs.Like.{held, body_at, raw_setting}
use Rattle.drop_values.specs.Typed.{Fits, a_type}
use Rattle.drop_values.proofs.Behind.{Leads, stops, by_part, by_content, leads-fits, into-led, AllPresentAt}
use Rattle.drop_values.proofs.Fits.{present_if_whole, whole_if_present}
use Rattle.drop_values.proofs.Knows.{Knows, present_by, Own}
use Rattle.drop_values.proofs.Named.{root-of, NamesFull}
use Rattle.drop_values.proofs.Stand.{Changed}
use Rattle.drop_values.proofs.Staying.{leads-present, MayTake, stays, behind-stays}
use Rattle.drop_values.proofs.TypedAs.{leads-proper}

-- where a longer path leads, by where the shorter one does
pub record LedThrough (items : ItemTable) (path further : List At) (found : DynamicType) (p : Presence)
    (d : Datum) (f : DynamicType) (q : Presence) (e : Datum) : Type 0 where
  pub middle : DynamicType
  pub presence : Presence
  pub value : Datum
  pub first : Leads items path found p d middle presence value
  pub second : Leads items further middle presence value f q e

pub led-through : (items : ItemTable) (path further : List At) (found f : DynamicType) (p q : Presence) (d e : Datum) →
    Leads items (path ++ further) found p d f q e → LedThrough items path further found p d f q e
led-through items [] further found f p q d e l = record {
  middle = found;
  presence = p;
  value = d;
  first = stops found p d;
  second = l;
}
led-through items (_ ∷ path) further _ f _ q _ e (by_part _ found p variant serial parts n inner
    g _ _ _ is_part is_found rest) =
    let r = led-through items path further g f _ q inner e rest in record {
      middle = r.middle;
      presence = r.presence;
      value = r.value;
      first = by_part path found p variant serial parts n inner g r.middle r.presence r.value is_part is_found r.first;
      second = r.second;
    }
led-through items (_ ∷ path) further _ f _ q _ e (by_content _ found p serial impl_no inside g _ _ _ is_found rest) =
    let r = led-through items path further g f _ q inside e rest in record {
      middle = r.middle;
      presence = r.presence;
      value = r.value;
      first = by_content path found p serial impl_no inside g r.middle r.presence r.value is_found r.first;
      second = r.second;
    }

module _ (items : ItemTable) (local_ty : (body local : ℕ) → Option TyId) (number depth : ℕ) where
  abbrev raw : Setting
  raw = raw_setting items local_ty

  abbrev pub AllThere : (ℕ → Presence) → State → Addr → Type 0
  AllThere present w a = AllPresentAt raw number depth present w a

  -- it is full
  pub own-named : (present : ℕ → Presence) (w : State) (a : Addr) → Knows raw number depth present w →
      a.depth ≡ depth → AllThere present w a → NamesFull items local_ty w a
  own-named present w a k e all s h =
      let r = root-of items local_ty w a s h in
      let body_is : r.body ≡ number = (let x : Some r.body ≡ Some number =
      sym r.body_is ∙ ap (λ d. body_at d w) e ∙ k.number_is in cc) in
      let ty : local_ty number a.key.0 ≡ Some r.id = ap (λ b. local_ty b a.key.0) (sym body_is) ∙ r.ty_is in
      let fits : Fits items (OfType r.id) (present a.key.0) (held a.depth a.key.0 w) =
      subst (λ d. Fits items (OfType r.id) (present a.key.0) (held d a.key.0 w)) (sym e) (k.fits a.key.0 r.id ty) in
      let led = into-led items a.path (root_address a.depth a.key.0) (OfType r.id) (held a.depth a.key.0 w)
      (present a.key.0) s r.from in
      let there = leads-fits items led.leads fits in
      let whole : all_present led.presence ≡ true = all.all r.id s.dynamic led.presence s.value e ty
      (subst (λ d. Leads items a.path (OfType r.id) (present a.key.0) (held d a.key.0 w) s.dynamic led.presence
      s.value) e led.leads) in (
        leads-proper items led.leads fits (a_type r.id),
        present_if_whole items s.value s.dynamic led.presence
            (whole_if_present items s.value s.dynamic led.presence whole there) there,
      )

  -- what lies within it is so too
  pub all-within : (present : ℕ → Presence) (w : State) (a : Addr) (path : List At) → AllThere present w a →
      AllThere present w (record a { path = a.path ++ path })
  all-within present w a path h = record {
    all = λ id f p d e ty l.
        let t = led-through items a.path path (OfType id) f (present a.key.0) p (held depth a.key.0 w) d l in
        leads-present items t.second (h.all id t.middle t.presence t.value e ty t.first);
  }

  -- a place of the body's own is stored into, or taken beside it
  pub own-stays : (takes : Bool) (present : ℕ → Presence) (w v : State) (place : Place) (id end : TyId) (t : Located)
      (new : Datum) → local_ty number place.local ≡ Some id → (o : Own raw number depth w place t id end) →
      Changed t.address new w v → (a : Addr) →
      (a.key.0 ≡ place.local → MayTake items takes o.arrives.path a.path) → AllThere present w a →
      AllThere (present_by raw number depth takes place present) v a
  own-stays takes present w v place id end t new typed o c a may h = record {
    all = λ id' f p d e ty l. by id' f p d e ty (place.local == a.key.0) refl l;
  }
    where
      at : t.address ≡ record (root_address depth place.local) { path = o.arrives.path }
      at = o.arrives.address

      here_is : held depth place.local v ≡ replaced o.arrives.path new (held depth place.local w)
      here_is =
          ap (λ (x : Addr). held x.depth x.key.0 v) (sym at) ∙ c.here
          ∙ ap (λ (x : Addr). replaced x.path new (held x.depth x.key.0 w)) at

      same : (n : ℕ) → (n == n) ≡ true
      same n = (Decides-eqb n n).1 refl

      apart_is : (j : ℕ) → (j == place.local) ≡ false → held depth j v ≡ held depth j w
      apart_is j n = c.apart depth j
          (ap (λ (x : Addr). (depth == x.depth) && (j == x.key.0)) at ∙ ap (λ b. b && (j == place.local)) (same depth)
          ∙ n)

      turned : (place.local == a.key.0) ≡ false → (a.key.0 == place.local) ≡ false
      turned n = elim (eqb_tells a.key.0 place.local) [
        | inl y ↦ absurd (let x : true ≡ false = sym ((Decides-eqb place.local a.key.0).1 (sym y.1)) ∙ n in cc)
        | inr y ↦ y.0
      ]

      by : (id' : TyId) (f : DynamicType) (p : Presence) (d : Datum) → a.depth ≡ depth →
          local_ty number a.key.0 ≡ Some id' → (b : Bool) → (place.local == a.key.0) ≡ b →
          Leads items a.path (OfType id') (present_by raw number depth takes place present a.key.0)
          (held depth a.key.0 v) f p d → all_present p ≡ true
      by id' f p d e ty false n l =
          h.all id' f p d e ty
          (subst (λ h. Leads items a.path (OfType id') (present a.key.0) h f p d) (apart_is a.key.0 (turned n))
          (subst (λ b. Leads items a.path (OfType id') (if b then after_action takes place.steps (present a.key.0) else
          present a.key.0) (held depth a.key.0 v) f p d) n l))
      by id' f p d e ty true n l =
          let k_is : place.local ≡ a.key.0 = (Decides-eqb place.local a.key.0).0 n in
          let id_is : id ≡ id' = (let x : Some id ≡ Some id' = sym typed ∙ ap (local_ty number) k_is ∙ ty in cc) in
          stays items takes (present place.local) new a.path o.arrives.way (may (sym k_is))
          (λ g q x m. h.all id' g q x e ty (subst (λ k. Leads items a.path (OfType id') (present k)
          (held depth k w) g q x)
          k_is (subst (λ i. Leads items a.path (OfType i) (present place.local) (held depth place.local w) g q x)
          id_is m))) f p d
          (subst (λ h. Leads items a.path (OfType id) (after_action takes place.steps (present place.local)) h f p d)
          here_is
          (subst (λ i. Leads items a.path (OfType i) (after_action takes place.steps (present place.local))
          (held depth place.local v) f p d) (sym id_is)
          (subst (λ k. Leads items a.path (OfType id') (after_action takes place.steps (present k))
          (held depth k v) f p d)
          (sym k_is)
          (subst (λ b. Leads items a.path (OfType id') (if b then after_action takes place.steps (present a.key.0) else
          present a.key.0) (held depth a.key.0 v) f p d) n l))))

  -- a full value comes to an address of which all is known as present, or to an older one
  pub behind-kept : (present : ℕ → Presence) (w v : State) (b : Addr) (s : Located) (new : Datum) →
      Knows raw number depth present w → located_at raw w b ≡ Some s → AllThere present w b → Changed b new w v →
      (a : Addr) → AllThere present w a → AllThere present v a
  behind-kept present w v b s new k st all c a h = record {
    all = λ id f p d e ty l. by id f p d e ty ((depth == b.depth) && (a.key.0 == b.key.0)) refl l;
  }
    where
      by : (id : TyId) (f : DynamicType) (p : Presence) (d : Datum) → a.depth ≡ depth →
          local_ty number a.key.0 ≡ Some id → (x : Bool) → ((depth == b.depth) && (a.key.0 == b.key.0)) ≡ x →
          Leads items a.path (OfType id) (present a.key.0) (held depth a.key.0 v) f p d → all_present p ≡ true
      by id f p d e ty false n l =
          h.all id f p d e ty (subst (λ h. Leads items a.path (OfType id) (present a.key.0) h f p d)
          (c.apart depth a.key.0 n) l)
      by id f p d e ty true n l =
          let d_is : depth ≡ b.depth = (Decides-eqb depth b.depth).0
          (first_so (depth == b.depth) (a.key.0 == b.key.0) n) in
          let k_is : a.key.0 ≡ b.key.0 = (Decides-eqb a.key.0 b.key.0).0
          (second_so (depth == b.depth) (a.key.0 == b.key.0) n) in
          let r = root-of items local_ty w b s st in
          let body_is : r.body ≡ number = (let x : Some r.body ≡ Some number =
          sym r.body_is ∙ ap (λ d. body_at d w) (sym d_is) ∙ k.number_is in cc) in
          let ty_b : local_ty number b.key.0 ≡ Some r.id = ap (λ x. local_ty x b.key.0) (sym body_is) ∙ r.ty_is in
          let id_is : r.id ≡ id = (let x : Some r.id ≡ Some id = sym ty_b ∙ ap (local_ty number) (sym k_is) ∙ ty in
          cc) in
          let led = into-led items b.path (root_address b.depth b.key.0) (OfType r.id) (held b.depth b.key.0 w)
          (present b.key.0) s r.from in
          let leads : Leads items b.path (OfType r.id) (present b.key.0) (held depth b.key.0 w) s.dynamic led.presence
          s.value = subst (λ d. Leads items b.path (OfType r.id) (present b.key.0) (held d b.key.0 w) s.dynamic
          led.presence s.value) (sym d_is) led.leads in
          let now : held depth a.key.0 v ≡ replaced b.path new (held depth b.key.0 w) =
          ap (λ k. held depth k v) k_is ∙ ap (λ d. held d b.key.0 v) d_is ∙ c.here
          ∙ ap (λ d. replaced b.path new (held d b.key.0 w)) (sym d_is) in
          behind-stays items new a.path leads (all.all r.id s.dynamic led.presence s.value (sym d_is) ty_b leads)
          (λ g q x m. h.all id g q x e ty (subst (λ k. Leads items a.path (OfType id) (present k)
          (held depth k w) g q x)
          (sym k_is) (subst (λ i. Leads items a.path (OfType i) (present b.key.0) (held depth b.key.0 w) g q x)
          id_is m))) f p d
          (subst (λ i. Leads items a.path (OfType i) (present b.key.0) (replaced b.path new (held depth b.key.0 w))
          f p d)
          (sym id_is)
          (subst (λ k. Leads items a.path (OfType id) (present k) (replaced b.path new (held depth b.key.0 w)) f p d)
          k_is
          (subst (λ h. Leads items a.path (OfType id) (present a.key.0) h f p d) now l)))

  pub same-kept : (present : ℕ → Presence) (w v : State) (a : Addr) → ((k : ℕ) → held depth k v ≡ held depth k w) →
      AllThere present w a → AllThere present v a
  same-kept present w v a cells h = record {
    all = λ id f p d e ty l. h.all id f p d e ty
        (subst (λ h. Leads items a.path (OfType id) (present a.key.0) h f p d) (cells a.key.0) l);
  }
