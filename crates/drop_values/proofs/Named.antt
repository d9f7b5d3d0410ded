-- What an address names, if it has not lost its place, is full; and so it stays, where full values come to other
-- addresses, above it, below it or beside it.
use Rattle.std.proofs.Common.{◌≡◌, ◌≢◌, ◌⊎◌, inl, inr, ℕ, suc, ◌<◌, ◌==◌, ◌&&◌, Bool, true, false, List, [], ◌∷◌, length, Option, Some, None, if◌then◌else◌, refl, ap, sym, ◌∙◌, subst, arith}
use Rattle.std.specs.Prelude.{option_and_then}
use Rattle.std.specs.Cmp.{first_so, second_so}
use Rattle.std.specs.Option.{option_map_or}
use Rattle.std.proofs.lemmas.Bool.Decides.{Decides-eqb, eqb_tells}
use Rattle.std.proofs.lemmas.Option.{none-some, option_and_then_some}
use Rattle.mir_ty.specs.declared.ty.TyId.{TyId}
use Rattle.mir_ty.specs.ItemTable.{ItemTable}
use Rattle.store_model.proofs.Values.Access.{replaced-step}
use Rattle.store_model.proofs.Values.OnePart.{part-with_part_other}
use Rattle.store_model.specs.declared.address.Addr.{Addr}
use Rattle.store_model.specs.declared.address.At.{At}
use Rattle.store_model.specs.declared.address.At.TheVariants.{Part, Inside}
use Rattle.store_model.specs.Abstract.Presence.{is_present}
use Rattle.store_model.specs.Concrete.Location.{Setting, DynamicType, OfType, type_of_part, Located, below, located_part, into, into_all, located_at, root_address, Reaches, reach}
use Rattle.store_model.specs.Concrete.State.{State, Activation, at_depth}
use Rattle.store_model.specs.Places.Place.{Place}
use Rattle.store_model.specs.Values.Access.{part, with_part, replaced}
use Rattle.store_model.specs.Values.Datum.{Datum, Gone, Number, Truth, UnitValue, Aggregate, Box, Address}
use Rattle.drop_values.specs.Like.{held, body_at, raw_setting}
use Rattle.drop_values.specs.Typed.{IsFull}
use Rattle.drop_values.proofs.Behind.{leads-fits, leads-kept, into-led}
use Rattle.drop_values.proofs.Fits.{present_if_whole, whole_if_present}
use Rattle.drop_values.proofs.LikeLaws.{Covers-same}
use Rattle.drop_values.proofs.Reach.{IndexOk, reach_there}
use Rattle.drop_values.proofs.Stand.{Changed, Changed-above, Into, into-parts, into-is, into-with_part, with_value, Stands, stands-into, standing-address, rooted, standing-held, to_root}
use Rattle.drop_values.proofs.Staying.{leads-present}
use Rattle.drop_values.proofs.TypedAs.{leads-proper}

-- a step is another one, or the same
at_tells : (a b : At) → (a ≡ b) ⊎ (a ≢ b)
at_tells (Part n) (Part m) = elim (eqb_tells n m) [
  | inl y ↦ inl (ap Part y.1)
  | inr y ↦ inr (λ e. y.1 (let x : Part n ≡ Part m = e in cc))
]
at_tells (Part n) Inside = inr (λ e. absurd (let x : Part n ≡ Inside = e in cc))
at_tells Inside (Part m) = inr (λ e. absurd (let x : Inside ≡ Part m = e in cc))
at_tells Inside Inside = inl refl

at-depth-within : (d : ℕ) (acts : List Activation) (a : Activation) → at_depth d acts ≡ Some a → d < length acts
at-depth-within d [] a e = absurd (none-some a e)
at-depth-within d (b ∷ older) a e = by (d == length older) refl e (λ e. at-depth-within d older a e)
  where
    by : (x : Bool) → (d == length older) ≡ x → (if x then Some b else at_depth d older) ≡ Some a →
        (at_depth d older ≡ Some a → d < length older) → d < suc (length older)
    by true n e again = let same = (Decides-eqb d (length older)).0 n in omega (arith, same)
    by false n e again = let l = again e in omega (arith, l)

module _ (items : ItemTable) where
  -- wherever the path leads
  abbrev pub FullAlong : List At → Located → Type 0
  FullAlong path r = (t : Located) → into_all items path r ≡ Some t → IsFull items t.dynamic t.value

  -- what stands within a full value is full
  pub full-within : (path : List At) (r : Located) → IsFull items r.dynamic r.value → FullAlong path r
  full-within path r h t e =
      let led = into-led items path r.address r.dynamic r.value is_present t e in
      let fits = leads-fits items led.leads h.1 in
      let all = leads-present items led.leads refl in (
        leads-proper items led.leads h.1 h.0,
        present_if_whole items t.value t.dynamic led.presence
            (whole_if_present items t.value t.dynamic led.presence all fits) fits,
      )

  -- a full value with another full one within it
  pub full-with : (path : List At) (r s : Located) (new : Datum) → into_all items path r ≡ Some s →
      IsFull items r.dynamic r.value → IsFull items s.dynamic new → IsFull items r.dynamic (replaced path new r.value)
  full-with path r s new e h k =
      let led = into-led items path r.address r.dynamic r.value is_present s e in
      (h.0, leads-kept items new led.leads h.1 (leads-present items led.leads refl) k.1)

  type-other : (a b : At) (new d : Datum) (found : DynamicType) →
      type_of_part items b (with_part a new d) found ≡ type_of_part items b d found
  type-other (Part n) (Part m) new (Aggregate variant serial parts) found = refl
  type-other (Part n) Inside new (Aggregate variant serial parts) found = refl
  type-other Inside (Part m) new (Box serial impl_no inside) found = refl
  type-other Inside Inside new (Box serial impl_no inside) found = refl
  type-other (Part n) b new other found = refl
  type-other Inside b new other found = refl

  -- another part is as it was
  into-other : (a b : At) (r : Located) (new : Datum) → a ≢ b →
      into items b (with_value r (with_part a new r.value)) ≡ into items b r
  into-other a b r new apart =
      ap (λ o. located_part r b o (type_of_part items b (with_part a new r.value) r.dynamic))
      (part-with_part_other a b new r.value apart)
      ∙ ap (located_part r b (part b r.value)) (type-other a b new r.value r.dynamic)

  -- where a full value comes to the end of a path, what another path leads to stays full
  pub along-kept : (path other : List At) (r s : Located) (new : Datum) → into_all items path r ≡ Some s →
      IsFull items s.dynamic new → FullAlong other r →
      FullAlong other (with_value r (replaced path new r.value))
  along-kept [] other r s new e full h t e' =
      let same : r ≡ s = cc in
      full-within other (with_value r new) (subst (λ x. IsFull items x.dynamic new) (sym same) full) t e'
  along-kept (step ∷ path) [] r s new e full h t e' =
      let same : with_value r (replaced (step ∷ path) new r.value) ≡ t = cc in
      let was = h r refl in
      subst (λ x. IsFull items x.dynamic x.value) same (full-with (step ∷ path) r s new e was full)
  along-kept (step ∷ path) (next ∷ other) r s new e full h t e' =
      option_and_then_some (into_all items path) (into items step r) s e (λ m em e2. by m em
      (λ o. along-kept path o m s new e2 full))
    where
      by : (m : Located) → into items step r ≡ Some m →
          ((o : List At) → FullAlong o m → FullAlong o (with_value m (replaced path new m.value))) →
          IsFull items t.dynamic t.value
      by m em again = elim (at_tells step next) [
        | inl same ↦ again other (λ x ex. h x (ap (λ b. option_and_then (into_all items other) (into items b r))
            (sym same) ∙ ap (option_and_then (into_all items other)) em ∙ ex)) t (sym (here same) ∙ e')
        | inr apart ↦ h t (sym (there apart) ∙ e')
      ]
        where
          i : Into items step r m
          i = into-parts items step r m em

          whole_is : replaced (step ∷ path) new r.value ≡ with_part step (replaced path new m.value) r.value
          whole_is = replaced-step step path new r.value m.value
              (i.value_is ∙ ap (λ (x : Located). Some x.value) (sym i.is))

          here : step ≡ next → into_all items (next ∷ other) (with_value r (replaced (step ∷ path) new r.value))
              ≡ into_all items other (with_value m (replaced path new m.value))
          here same =
              ap (λ d. into_all items (next ∷ other) (with_value r d)) whole_is
              ∙ ap (option_and_then (into_all items other))
              (subst (λ b. into items b (with_value r (with_part step (replaced path new m.value) r.value))
              ≡ Some (with_value m (replaced path new m.value))) same
              (into-is items step _ _ (into-with_part items step r m (replaced path new m.value) i)))

          there : step ≢ next → into_all items (next ∷ other) (with_value r (replaced (step ∷ path) new r.value))
              ≡ into_all items (next ∷ other) r
          there apart =
              ap (λ d. into_all items (next ∷ other) (with_value r d)) whole_is
              ∙ ap (option_and_then (into_all items other)) (into-other step next r (replaced path new m.value) apart)

module _ (items : ItemTable) (local_ty : (body local : ℕ) → Option TyId) where
  abbrev raw : Setting
  raw = raw_setting items local_ty

  -- what stands at an address, by what the local holds
  pub record RootOf (w : State) (a : Addr) (s : Located) : Type 0 where
    pub body : ℕ
    pub id : TyId
    pub body_is : body_at a.depth w ≡ Some body
    pub ty_is : local_ty body a.key.0 ≡ Some id
    pub from : into_all items a.path (record {
      address = root_address a.depth a.key.0;
      dynamic =
          OfType id;
      value = held a.depth a.key.0 w;
    }) ≡ Some s

  pub root-of : (w : State) (a : Addr) (s : Located) → located_at raw w a ≡ Some s → RootOf w a s
  root-of w a s e = by (body_at a.depth w) refl (sym (standing-held raw w a) ∙ e)
    where
      by : (o : Option ℕ) → body_at a.depth w ≡ o → option_and_then (into_all items a.path)
          (rooted raw a.depth a.key.0 o (held a.depth a.key.0 w)) ≡ Some s → RootOf w a s
      by None h e = absurd (none-some s e)
      by (Some b) h e = by_ty (local_ty b a.key.0) refl e
        where
          by_ty : (o : Option TyId) → local_ty b a.key.0 ≡ o → option_and_then (into_all items a.path)
              (option_map_or (λ id. Some (record {
                address = root_address a.depth a.key.0;
                dynamic =
                    OfType id;
                value = held a.depth a.key.0 w;
              })) o None) ≡ Some s → RootOf w a s
          by_ty None k e = absurd (none-some s e)
          by_ty (Some id) k e = record { body = b; id = id; body_is = h; ty_is = k; from = e }

  -- a place that is reached stands where it is reached
  pub reach-stands : (depth number : ℕ) (w : State) (place : Place) (s : Located) → length w.activations ≡ suc depth →
      body_at depth w ≡ Some number → IndexOk (local_ty number) place.steps → reach raw w place ≡ Reaches s →
      Stands raw w s
  reach-stands depth number w place s deep is ok e =
      (reach_there items local_ty local_ty (λ body local id e. e) (λ d k. held d k w) w w (record {
        asked = refl;
        ticks = refl;
        serial = refl;
        trace = refl;
        count = refl;
        bodies = λ d. refl;
        covers = λ d k b id h t. Covers-same (held d k w);
        flags_are = λ d k b h t. refl;
      }) depth number place s deep is ok e).1

  -- what stands at an address goes by the body that runs there and by what its local holds
  pub located-by : (w v : State) (c : Addr) → body_at c.depth v ≡ body_at c.depth w →
      held c.depth c.key.0 v ≡ held c.depth c.key.0 w → located_at raw w c ≡ located_at raw v c
  located-by w v c body cells =
      standing-held raw w c
      ∙ ap (λ o. option_and_then (into_all items c.path) (rooted raw c.depth c.key.0 o (held c.depth c.key.0 w)))
      (sym body)
      ∙ ap (λ d. option_and_then (into_all items c.path) (rooted raw c.depth c.key.0 (body_at c.depth v) d)) (sym cells)
      ∙ sym (standing-held raw v c)

  -- what stands somewhere stands in an activation that runs
  pub standing-shallow : (w : State) (a : Addr) (s : Located) → located_at raw w a ≡ Some s →
      a.depth < length w.activations
  standing-shallow w a s e =
      let k = (to_root raw w a s e).known in at-depth-within a.depth w.activations k.0 k.1

  -- what an address names, if it has not lost its place, is full
  abbrev pub NamesFull : State → Addr → Type 0
  NamesFull w a = (s : Located) → located_at raw w a ≡ Some s → IsFull items s.dynamic s.value

  abbrev root_here : State → Addr → TyId → Located
  root_here w a id =
      record { address = root_address a.depth a.key.0; dynamic = OfType id; value = held a.depth a.key.0 w }

  -- another full value of what is found at an address comes there
  pub named-kept : (w v : State) (a c : Addr) (s : Located) (new : Datum) → located_at raw w a ≡ Some s →
      IsFull items s.dynamic new → Changed a new w v → NamesFull w c → NamesFull v c
  named-kept w v a c s new e full change h t et = by ((c.depth == a.depth) && (c.key.0 == a.key.0)) refl
    where
      later : RootOf v c t
      later = root-of v c t et

      before : RootOf w a s
      before = root-of w a s e

      -- what the address would lead to before
      was : (d : Datum) → held c.depth c.key.0 w ≡ d → (x : Located) → into_all items c.path (record {
        address =
            root_address c.depth c.key.0;
        dynamic = OfType later.id;
        value = d;
      }) ≡ Some x →
          IsFull items x.dynamic x.value
      was d ed x ex = h x (standing-held raw w c
          ∙ ap (λ o. option_and_then (into_all items c.path) (rooted raw c.depth c.key.0 o (held c.depth c.key.0 w)))
          (sym (change.bodies c.depth) ∙ later.body_is)
          ∙ ap (λ o. option_and_then (into_all items c.path) (option_map_or (λ id. Some (record {
            address =
                root_address c.depth c.key.0;
            dynamic = OfType id;
            value = held c.depth c.key.0 w;
          })) o None)) later.ty_is
          ∙ ap (λ d. into_all items c.path (record {
            address = root_address c.depth c.key.0;
            dynamic =
                OfType later.id;
            value = d;
          })) ed ∙ ex)

      by : (b : Bool) → ((c.depth == a.depth) && (c.key.0 == a.key.0)) ≡ b → IsFull items t.dynamic t.value
      by false n = was (held c.depth c.key.0 v) (sym (change.apart c.depth c.key.0 n)) t later.from
      by true n =
          let d_is : c.depth ≡ a.depth = (Decides-eqb c.depth a.depth).0
          (first_so (c.depth == a.depth) (c.key.0 == a.key.0) n) in
          let k_is : c.key.0 ≡ a.key.0 = (Decides-eqb c.key.0 a.key.0).0
          (second_so (c.depth == a.depth) (c.key.0 == a.key.0) n) in
          let held_is : held c.depth c.key.0 w ≡ held a.depth a.key.0 w =
          ap (λ d. held d c.key.0 w) d_is ∙ ap (λ k. held a.depth k w) k_is in
          let now_is : held c.depth c.key.0 v ≡ replaced a.path new (held a.depth a.key.0 w) =
          ap (λ d. held d c.key.0 v) d_is ∙ ap (λ k. held a.depth k v) k_is ∙ change.here in
          let body_is : later.body ≡ before.body = (let x : Some later.body ≡ Some before.body = sym later.body_is
          ∙ change.bodies c.depth ∙ ap (λ d. body_at d w) d_is ∙ before.body_is in cc) in
          let id_is : later.id ≡ before.id = (let x : Some later.id ≡ Some before.id = sym later.ty_is
          ∙ ap (λ b. local_ty b c.key.0) body_is ∙ ap (local_ty before.body) k_is ∙ before.ty_is in cc) in
          let root_is : root_address c.depth c.key.0 ≡ root_address a.depth a.key.0 =
          ap (λ d. root_address d c.key.0) d_is ∙ ap (root_address a.depth) k_is in
          along-kept items a.path c.path (root_here w a before.id) s new before.from full
          (λ x ex. was (held a.depth a.key.0 w) held_is x
          (ap (λ r. into_all items c.path (record {
            address = r;
            dynamic = OfType later.id;
            value =
                held a.depth a.key.0 w;
          })) root_is
          ∙ ap (λ i. into_all items c.path (record {
            address = root_address a.depth a.key.0;
            dynamic =
                OfType i;
            value = held a.depth a.key.0 w;
          })) id_is ∙ ex)) t
          (ap (λ r. into_all items c.path (record {
            address = r;
            dynamic = OfType before.id;
            value =
                replaced a.path new (held a.depth a.key.0 w);
          })) (sym root_is)
          ∙ ap (λ i. into_all items c.path (record {
            address = root_address c.depth c.key.0;
            dynamic =
                OfType i;
            value = replaced a.path new (held a.depth a.key.0 w);
          })) (sym id_is)
          ∙ ap (λ d. into_all items c.path (record {
            address = root_address c.depth c.key.0;
            dynamic =
                OfType later.id;
            value = d;
          })) (sym now_is) ∙ later.from)

  -- a change within what stands at an address is a change of all of that
  pub changed-above : (path : List At) (u v : State) (r s : Located) (new : Datum) → Stands raw u r →
      into_all items path r ≡ Some s → Changed s.address new u v → Changed r.address (replaced path new r.value) u v
  changed-above [] u v r s new st e c = let same : r ≡ s = cc in subst (λ x. Changed x.address new u v) (sym same) c
  changed-above (step ∷ path) u v r s new st e c =
      option_and_then_some (into_all items path) (into items step r) s e (λ m em e2. by m (into-parts items step r m em)
      (λ st'. changed-above path u v m s new st' e2 c) em)
    where
      by : (m : Located) → Into items step r m → (Stands raw u m → Changed m.address (replaced path new m.value) u v) →
          into items step r ≡ Some m → Changed r.address (replaced (step ∷ path) new r.value) u v
      by m i again em =
          let there : located_at raw u (below r.address step) ≡ Some m = stands-into raw u r step st ∙ em in
          let address : m.address ≡ below r.address step = standing-address raw u (below r.address step) m there in
          let up = Changed-above raw u v r m step (replaced path new m.value) st i
          (subst (λ a. Changed a (replaced path new m.value) u v) address
          (again (ap (located_at raw u) address ∙ there))) in
          subst (λ d. Changed r.address d u v) (sym (replaced-step step path new r.value m.value
          (i.value_is ∙ ap (λ (x : Located). Some x.value) (sym i.is)))) up
