-- What is known of a raw run within a body stays so as full values come to places behind references: by a store of its
-- own, or by a body that it calls with references.
use Rattle.std.proofs.Common.{◌≡◌, inl, ℕ, suc, ◌<◌, ◌==◌, ◌&&◌, Bool, true, false, List, [], ◌∷◌, ◌++◌, length, Option, Some, Contains, refl, ap, sym, ◌∙◌, subst, append_assoc, arith}
use Rattle.std.specs.Cmp.{first_so, second_so}
use Rattle.std.proofs.lemmas.Bool.{false≢true}
use Rattle.std.proofs.lemmas.Bool.Decides.{Decides-eqb}
use Rattle.std.proofs.lemmas.Option.{none-some, option_and_then_some}
use Rattle.mir_ty.specs.declared.ty.TyId.{TyId}
use Rattle.mir_ty.specs.ItemTable.{ItemTable}
use Rattle.store_model.proofs.Values.Access.{replaced-step}
use Rattle.store_model.specs.declared.address.Addr.{Addr}
use Rattle.store_model.specs.declared.address.At.{At}
use Rattle.store_model.specs.declared.address.At.TheVariants.{Part, Inside}
use Rattle.store_model.specs.Abstract.Presence.{Presence}
use Rattle.store_model.specs.Concrete.Drops.{drop_impl}
use Rattle.store_model.specs.Concrete.Location.{Setting, DynamicType, OfType, concrete_ty, type_of_part, type_of_field, Located, into, into_all, located_at, root_address}
use Rattle.store_model.specs.Concrete.State.{State, older_of, without_activation}
use Rattle.store_model.specs.Values.Access.{part, with_part, with_part_at, replaced}
use Rattle.store_model.specs.Values.Datum.{Datum, Gone, Number, Truth, UnitValue, Aggregate, Box, Address}
use Rattle.drop_values.specs.Like.{held, body_at, raw_setting}
use Rattle.drop_values.specs.Plan.{IfFound}
use Rattle.drop_values.specs.Typed.{IsFull}
use Rattle.drop_values.proofs.Behind.{behind-Knows}
use Rattle.drop_values.proofs.Counting.{after-zero}
use Rattle.drop_values.proofs.Sound.{Sound, full-Sound}
use Rattle.drop_values.proofs.Invariant.{There, RefersTo, to_older, to_own, Invariant, same-Invariant}
use Rattle.drop_values.proofs.KnowsLaws.{sound-with, body-with}
use Rattle.drop_values.proofs.Knows.{Knows}
use Rattle.drop_values.proofs.Named.{RootOf, root-of, full-within, full-with, NamesFull, named-kept}
use Rattle.drop_values.proofs.Older.{older-length, own-older, older-located, older-Changed}
use Rattle.drop_values.proofs.References.{own-named, all-within, behind-kept, same-kept}
use Rattle.drop_values.proofs.Stand.{Changed, Into, into-parts}
use Rattle.drop_values.proofs.Touched.{same_cells, NoAddress, no-address, Touched, untouched, stored, AllNameFull, same-named, touched-named, touched-counts, touched-again, IsWithin, stands-above, touched-within, only_one}

module _ (items : ItemTable) where
  sound-step : (at : At) (found f : DynamicType) (d inner new : Datum) → part at d ≡ Some inner →
      type_of_part items at d found ≡ Some f → (IsFull items found d → IsFull items found (with_part at new d)) →
      (Sound items inner f → Sound items new f) → Sound items d found → Sound items (with_part at new d) found
  sound-step (Part n) found f (Aggregate variant serial parts) inner new p t full h s = (
    body-with items (drop_impl items (concrete_ty items found)) found (Aggregate variant serial parts)
        (Aggregate variant serial (with_part_at n new parts)) s.0 (inl full),
    sound-with items parts (λ m. type_of_field items variant m (concrete_ty items found)) 0 n inner new f p
        (ap (λ m. type_of_field items variant m (concrete_ty items found)) (after-zero n) ∙ t) h s.1,
  )
  sound-step Inside found f (Box serial impl_no inside) inner new p t full h s =
      subst (λ o. IfFound o (Sound items new)) (sym t)
      (h (subst (λ d. Sound items d f) (let x : Some inside ≡ Some inner = p in let y : inside ≡ inner = cc in y)
      (subst (λ o. IfFound o (Sound items inside)) t s)))
  sound-step (Part n) found f Gone inner new p t full h s = absurd (none-some inner p)
  sound-step (Part n) found f (Number x) inner new p t full h s = absurd (none-some inner p)
  sound-step (Part n) found f (Truth x) inner new p t full h s = absurd (none-some inner p)
  sound-step (Part n) found f UnitValue inner new p t full h s = absurd (none-some inner p)
  sound-step (Part n) found f (Box x y z) inner new p t full h s = absurd (none-some inner p)
  sound-step (Part n) found f (Address x) inner new p t full h s = absurd (none-some inner p)
  sound-step Inside found f Gone inner new p t full h s = absurd (none-some inner p)
  sound-step Inside found f (Number x) inner new p t full h s = absurd (none-some inner p)
  sound-step Inside found f (Truth x) inner new p t full h s = absurd (none-some inner p)
  sound-step Inside found f UnitValue inner new p t full h s = absurd (none-some inner p)
  sound-step Inside found f (Aggregate x y z) inner new p t full h s = absurd (none-some inner p)
  sound-step Inside found f (Address x) inner new p t full h s = absurd (none-some inner p)

  -- another full value at the end of a path
  sound-within : (path : List At) (r s : Located) (new : Datum) → into_all items path r ≡ Some s →
      IsFull items s.dynamic new → Sound items r.value r.dynamic → Sound items (replaced path new r.value) r.dynamic
  sound-within [] r s new e full h =
      let same : r ≡ s = cc in
      full-Sound items new r.dynamic (subst (λ x. IsFull items x.dynamic new) (sym same) full)
  sound-within (step ∷ path) r s new e full h =
      option_and_then_some (into_all items path) (into items step r) s e (λ m em e2. by m (into-parts items step r m em)
      (sound-within path m s new e2 full))
    where
      by : (m : Located) → Into items step r m →
          (Sound items m.value m.dynamic → Sound items (replaced path new m.value) m.dynamic) →
          Sound items (replaced (step ∷ path) new r.value) r.dynamic
      by m i again =
          let v : part step r.value ≡ Some m.value = i.value_is ∙ ap (λ (x : Located). Some x.value) (sym i.is) in
          let is : replaced (step ∷ path) new r.value ≡ with_part step (replaced path new m.value) r.value =
          replaced-step step path new r.value m.value v in
          subst (λ d. Sound items d r.dynamic) (sym is)
          (sound-step step r.dynamic m.dynamic r.value m.value (replaced path new m.value) v
          (i.found_is ∙ ap (λ (x : Located). Some x.dynamic) (sym i.is))
          (λ k. subst (IsFull items r.dynamic) is (full-with items (step ∷ path) r s new e k full)) again h)

module _ (items : ItemTable) (local_ty : (body local : ℕ) → Option TyId) (number depth : ℕ) (addresses : List Addr)
    (before : State) (IsNamed : ℕ → Addr → Type 0) (given : AllNameFull items local_ty before addresses) where
  abbrev raw : Setting
  raw = raw_setting items local_ty

  abbrev Held : (ℕ → Type 0) → (ℕ → Presence) → State → Type 0
  Held live present w = Invariant items local_ty number depth addresses before IsNamed live present w

  abbrev Whole : (ℕ → Presence) → State → Addr → Type 0
  Whole present w b = There items local_ty number depth addresses before IsNamed present w b

  -- an address at which the body may store
  pub data Opens (present : ℕ → Presence) (w : State) (b : Addr) : Type 0 where
    an_older : (b.depth == depth) ≡ false → IsWithin items local_ty addresses b → NamesFull items local_ty w b →
        Opens present w b
    its_own : b.depth ≡ depth → Whole present w b → Opens present w b

  pub opens : (live : ℕ → Type 0) (present : ℕ → Presence) (w : State) (r : ℕ) (b : Addr) → live r →
      RefersTo items local_ty number depth addresses before IsNamed live present w r b → Opens present w b
  opens live present w r b l (to_older far within full) = an_older far within full
  opens live present w r b l (to_own e named there) = its_own e (there l)

  pub opens-full : (present : ℕ → Presence) (w : State) (b : Addr) → Knows raw number depth present w →
      Opens present w b → NamesFull items local_ty w b
  opens-full present w b k (an_older far within full) = full
  opens-full present w b k (its_own e there) = own-named items local_ty number depth present w b k e there

  -- it lies in an activation that runs
  pub opens-shallow : (live : ℕ → Type 0) (present : ℕ → Presence) (w : State) (b : Addr) → Held live present w →
      Opens present w b → b.depth < length w.activations
  opens-shallow live present w b i (its_own e there) = let d = i.knows.deep in omega (arith, e, d)
  opens-shallow live present w b i (an_older far within full) =
      let is : b.depth ≡ within.above.depth = ap (λ (x : Addr). x.depth) within.is in
      let l = (given within.above within.among).1 in
      let c : length (older_of w.activations) ≡ length before.activations =
      (touched-counts items local_ty addresses before (without_activation w) i.older).0 in
      let o = older-length depth w.activations i.knows.deep in
      let d = i.knows.deep in omega (arith, is, l, c, o, d)

  -- what lies within what it names
  pub opens-within : (present : ℕ → Presence) (w : State) (b : Addr) (path : List At) → Opens present w b →
      Opens present w (record b { path = b.path ++ path })
  opens-within present w b path (an_older far within full) = an_older far (record {
    above = within.above;
    among = within.among;
    path = within.path ++ path;
    is = ap (λ (x : Addr). record x { path = x.path ++ path }) within.is
        ∙ ap (λ p. record within.above { path = p }) (append_assoc within.above.path within.path path);
  }) (λ s e. let x = stands-above items local_ty w b path s e in
      full-within items path x.outer (full x.outer x.there) s x.leads)
  opens-within present w b path (its_own e there) =
      its_own e (all-within items local_ty number depth present w b path there)

  -- an older address leads to none of its own locals
  all-there : (present : ℕ → Presence) (w : State) (b : Addr) → Opens present w b → Whole present w b
  all-there present w b (an_older far within full) = record {
    all = λ id f p d e ty l. absurd (false≢true (sym far ∙ (Decides-eqb b.depth depth).1 e));
  }
  all-there present w b (its_own e there) = there

  -- a full value comes to such an address
  module _ (present : ℕ → Presence) (w v : State) (b : Addr) (s : Located) (new : Datum)
      (e : located_at raw w b ≡ Some s) (full : IsFull items s.dynamic new) (plain : NoAddress new)
      (c : Changed b new w v) where
    pub behind-opens : Knows raw number depth present w → Opens present w b → (a : Addr) → Opens present w a →
        Opens present v a
    behind-opens k o a (an_older far within h) = an_older far within
        (named-kept items local_ty w v b a s new e full c h)
    behind-opens k o a (its_own is there) =
        its_own is (behind-kept items local_ty number depth present w v b s new k e (all-there present w b o) c a there)

    pub behind-Invariant : (live : ℕ → Type 0) → Opens present w b → Held live present w → Held live present v
    behind-Invariant live o i = record {
      knows = behind-Knows raw number depth present w v b s new i.knows e full.1 (all-there present w b o) c;
      sound = λ k id ty. sound-at k id ty ((depth == b.depth) && (k == b.key.0)) refl;
      older = touched-again items local_ty addresses i.older (older o);
      refers = λ r a h. refers-at r a h ((depth == b.depth) && (r == b.key.0)) refl;
    }
      where
        deep : length w.activations ≡ suc depth
        deep = i.knows.deep

        older : Opens present w b → Touched items local_ty addresses (without_activation w) (without_activation v)
        older (its_own is there) = untouched (own-older depth w v b new c is deep)
        older (an_older far within h) =
            touched-within items local_ty addresses (b ∷ [])
            (λ a among. touched-named items local_ty addresses i.older a ((given a among).0))
            (λ x among. subst (IsWithin items local_ty addresses) (sym (only_one items local_ty b x among)) within)
            (stored b s new (untouched (same_cells (without_activation w))) (0, omega arith, refl)
            (older-located depth items local_ty w b far deep ∙ e) full plain (older-Changed depth w v b new c far deep))

        depth_is : (k : ℕ) → ((depth == b.depth) && (k == b.key.0)) ≡ true → depth ≡ b.depth
        depth_is k n = (Decides-eqb depth b.depth).0 (first_so (depth == b.depth) (k == b.key.0) n)

        key_is : (k : ℕ) → ((depth == b.depth) && (k == b.key.0)) ≡ true → k ≡ b.key.0
        key_is k n = (Decides-eqb k b.key.0).0 (second_so (depth == b.depth) (k == b.key.0) n)

        here_is : (k : ℕ) → ((depth == b.depth) && (k == b.key.0)) ≡ true →
            held depth k v ≡ replaced b.path new (held b.depth b.key.0 w)
        here_is k n = ap (λ d. held d k v) (depth_is k n) ∙ ap (λ k. held b.depth k v) (key_is k n) ∙ c.here

        r : RootOf items local_ty w b s
        r = root-of items local_ty w b s e

        sound-at : (k : ℕ) (id : TyId) → local_ty number k ≡ Some id → (x : Bool) →
            ((depth == b.depth) && (k == b.key.0)) ≡ x → Sound items (held depth k v) (OfType id)
        sound-at k id ty false n = subst (λ d. Sound items d (OfType id)) (sym (c.apart depth k n)) (i.sound k id ty)
        sound-at k id ty true n =
            let body_is : r.body ≡ number = (let x : Some r.body ≡ Some number =
            sym r.body_is ∙ ap (λ d. body_at d w) (sym (depth_is k n)) ∙ i.knows.number_is in cc) in
            let id_is : r.id ≡ id = (let x : Some r.id ≡ Some id = sym r.ty_is
            ∙ ap (λ x. local_ty x b.key.0) body_is ∙ ap (local_ty number) (sym (key_is k n)) ∙ ty in cc) in
            subst (λ d. Sound items d (OfType id)) (sym (here_is k n))
            (subst (λ i. Sound items (replaced b.path new (held b.depth b.key.0 w)) (OfType i)) id_is
            (sound-within items b.path (record {
              address = root_address b.depth b.key.0;
              dynamic = OfType r.id;
              value =
                  held b.depth b.key.0 w;
            }) s new r.from full
            (subst (λ i. Sound items (held b.depth b.key.0 w) (OfType i)) (sym id_is)
            (subst (λ d. Sound items d (OfType id)) (ap (λ d. held d k w) (depth_is k n)
            ∙ ap (λ k. held b.depth k w) (key_is k n)) (i.sound k id ty)))))

        kept : (r : ℕ) (a : Addr) → RefersTo items local_ty number depth addresses before IsNamed live present w r a →
            RefersTo items local_ty number depth addresses before IsNamed live present v r a
        kept r a (to_older far within h) = to_older far within (named-kept items local_ty w v b a s new e full c h)
        kept r a (to_own is named there) = to_own is named (λ l.
            behind-kept items local_ty number depth present w v b s new i.knows e (all-there present w b o) c a
            (there l))

        refers-at : (k : ℕ) (a : Addr) → held depth k v ≡ Address a → (x : Bool) →
            ((depth == b.depth) && (k == b.key.0)) ≡ x →
            RefersTo items local_ty number depth addresses before IsNamed live present v k a
        refers-at k a h false n = kept k a (i.refers k a (sym (c.apart depth k n) ∙ h))
        refers-at k a h true n =
            absurd (no-address items b.path (record {
              address = root_address b.depth b.key.0;
              dynamic =
                  OfType r.id;
              value = held b.depth b.key.0 w;
            }) s new r.from plain a (sym (here_is k n) ∙ h))

  -- what is known after a body that was called
  pub record Afterwards (live : ℕ → Type 0) (present : ℕ → Presence) (w v : State) : Type 0 where
    pub invariant : Held live present v
    pub opens_still : (a : Addr) → Opens present w a → Opens present v a

  pub touched-Invariant : (live : ℕ → Type 0) (present : ℕ → Presence) (inner : List Addr) {w v : State} →
      ((b : Addr) → Contains inner b → Opens present w b) → Touched items local_ty inner w v →
      Held live present w → Afterwards live present w v
  touched-Invariant live present inner {w} {v} o (untouched s) i = record {
    invariant = same-Invariant items local_ty number depth addresses before IsNamed live present w v s i;
    opens_still = λ a x. by a x;
  }
    where
      by : (a : Addr) → Opens present w a → Opens present v a
      by a (an_older far within h) = an_older far within (same-named items local_ty w v a s h)
      by a (its_own is there) =
          its_own is (same-kept items local_ty number depth present w v a (λ k. s.cells depth k) there)
  touched-Invariant live present inner {w} {v} o (stored {u = u} b s new was among e full plain c) i =
      let one = touched-Invariant live present inner o was i in
      let here = one.opens_still b (o b among) in record {
        invariant = behind-Invariant present u v b s new e full plain c live here one.invariant;
        opens_still = λ a x. behind-opens present u v b s new e full plain c one.invariant.knows here a
            (one.opens_still a x);
      }
