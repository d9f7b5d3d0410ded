-- What is known of a raw run within a body at each point of a path: its locals fit what is present after the path;
-- what is older was changed at places alone that the arguments name; and each reference in a local names what is full,
-- if nothing has taken it. So it stays, as places of the body's own are taken and stored into.
use Rattle.std.proofs.Common.{◌≡◌, ◌⊎◌, ℕ, ◌==◌, ◌&&◌, Bool, true, false, List, Option, Some, refl, ap, sym, ◌∙◌, subst}
use Rattle.std.proofs.lemmas.Bool.Decides.{Decides-eqb}
use Rattle.mir_ty.specs.declared.ty.TyId.{TyId}
use Rattle.mir_ty.specs.ItemTable.{ItemTable}
use Rattle.store_model.proofs.Values.Access.{replaced-step}
use Rattle.store_model.specs.declared.address.Addr.{Addr}
use Rattle.store_model.specs.declared.address.At.{At}
use Rattle.store_model.specs.declared.address.At.TheVariants.{Part}
use Rattle.store_model.specs.Abstract.Presence.{Presence, known, none_named}
use Rattle.store_model.specs.Concrete.Location.{Setting, DynamicType, OfType, Located, root_address}
use Rattle.store_model.specs.Concrete.State.{State, without_activation}
use Rattle.store_model.specs.Places.Place.{Step, Place}
use Rattle.store_model.specs.Values.Access.{with_part_at, replaced}
use Rattle.store_model.specs.Values.Datum.{Datum, Aggregate, Box, Address}
use Rattle.drop_values.specs.Like.{held, raw_setting}
use Rattle.drop_values.specs.Typed.{Fits, IsFull}
use Rattle.drop_values.proofs.Sound.{Sound}
use Rattle.drop_values.proofs.Knows.{Knows, present_by, Own, changed-Knows}
use Rattle.drop_values.proofs.KnowsLaws.{Bodiless, sound-changed}
use Rattle.drop_values.proofs.Named.{located-by, NamesFull}
use Rattle.drop_values.proofs.Older.{own-older, same-older}
use Rattle.drop_values.proofs.References.{AllThere, own-stays, same-kept}
use Rattle.drop_values.proofs.Stand.{Changed}
use Rattle.drop_values.proofs.Staying.{Diverge}
use Rattle.drop_values.proofs.Touched.{SameCells, Touched, untouched, same-named, touched-again, IsWithin}
use Rattle.drop_values.proofs.Ways.{Way, ends, to_part, to_field, to_content}

-- an address stands at the end of a way alone
way-address : {items : ItemTable} {steps : List Step} {path : List At} {found f' : DynamicType} {d d' : Datum}
    (new : Datum) (b : Addr) → Way items steps path found d f' d' → replaced path new d ≡ Address b →
    new ≡ Address b
way-address new b (ends found d) e = e
way-address new b (to_part steps path found variant serial parts n inner f f' d' not_enum is_part is_found way)
    e =
    absurd (let x : Aggregate variant serial (with_part_at n (replaced path new inner) parts) ≡ Address b =
    sym (replaced-step (Part n) path new (Aggregate variant serial parts) inner is_part) ∙ e in cc)
way-address new b (to_field steps path found variant serial parts n inner f f' d' enum is_part is_found way) e =
    absurd (let x : Aggregate variant serial (with_part_at n (replaced path new inner) parts) ≡ Address b =
    sym (replaced-step (Part n) path new (Aggregate variant serial parts) inner is_part) ∙ e in cc)
way-address new b (to_content steps path found serial impl_no inside f f' d' is_found way) e =
    absurd (let x : Box serial impl_no (replaced path new inside) ≡ Address b = e in cc)

-- the addresses among the arguments, the state before the body, and which addresses the references of the body
-- may hold
module _ (items : ItemTable) (local_ty : (body local : ℕ) → Option TyId) (number depth : ℕ)
    (addresses : List Addr)
    (before : State) (IsNamed : ℕ → Addr → Type 0) where
  abbrev raw : Setting
  raw = raw_setting items local_ty

  abbrev pub There : (ℕ → Presence) → State → Addr → Type 0
  There present w b = AllThere items local_ty number depth present w b

  -- what a reference in a local names, where nothing has taken it since it was made
  pub data RefersTo (live : ℕ → Type 0) (present : ℕ → Presence) (w : State) (r : ℕ) (b : Addr) : Type 0 where
    to_older : (b.depth == depth) ≡ false → IsWithin items local_ty addresses b → NamesFull items local_ty w b →
        RefersTo live present w r b
    to_own : b.depth ≡ depth → IsNamed r b → (live r → There present w b) → RefersTo live present w r b

  pub record Invariant (live : ℕ → Type 0) (present : ℕ → Presence) (w : State) : Type 0 where
    pub knows : Knows raw number depth present w
    pub sound : (k : ℕ) (id : TyId) → local_ty number k ≡ Some id → Sound items (held depth k w) (OfType id)
    pub older : Touched items local_ty addresses before (without_activation w)
    pub refers : (r : ℕ) (b : Addr) → held depth r w ≡ Address b → RefersTo live present w r b

  refers-same : (live : ℕ → Type 0) (present : ℕ → Presence) (w v : State) (r : ℕ) (b : Addr) → SameCells w v →
      RefersTo live present w r b → RefersTo live present v r b
  refers-same live present w v r b s (to_older far within full) =
      to_older far within (same-named items local_ty w v b s full)
  refers-same live present w v r b s (to_own e named there) =
      to_own e named (λ l. same-kept items local_ty number depth present w v b (λ k. s.cells depth k) (there l))

  -- nothing is changed in any cell
  pub same-Invariant : (live : ℕ → Type 0) (present : ℕ → Presence) (w v : State) → SameCells w v →
      Invariant live present w → Invariant live present v
  same-Invariant live present w v s i = record {
    knows = record {
      deep = s.count ∙ i.knows.deep;
      number_is = s.bodies depth ∙ i.knows.number_is;
      fits = λ k id e. subst (Fits items (OfType id) (present k)) (sym (s.cells depth k)) (i.knows.fits k id e);
    };
    sound = λ k id e. subst (λ d. Sound items d (OfType id)) (sym (s.cells depth k)) (i.sound k id e);
    older = touched-again items local_ty addresses i.older (untouched (same-older depth w v s i.knows.deep));
    refers = λ r b e. refers-same live present w v r b s (i.refers r b (sym (s.cells depth r) ∙ e));
  }

  -- fewer references are looked after
  pub fewer : (live live' : ℕ → Type 0) (present : ℕ → Presence) (w : State) → ((r : ℕ) → live' r → live r) →
      Invariant live present w → Invariant live' present w
  fewer live live' present w f i = record {
    knows = i.knows;
    sound = i.sound;
    older = i.older;
    refers = λ r b e. by r b (i.refers r b e);
  }
    where
      by : (r : ℕ) (b : Addr) → RefersTo live present w r b → RefersTo live' present w r b
      by r b (to_older far within full) = to_older far within full
      by r b (to_own e named there) = to_own e named (λ l. there (f r l))

  -- a place of the body's own is stored into, or taken
  module _ (takes : Bool) (present : ℕ → Presence) (w v : State) (place : Place) (id end : TyId) (t : Located)
      (new : Datum) (typed : local_ty number place.local ≡ Some id) (o : Own raw number depth w place t id end)
      (c : Changed t.address new w v) where
    at : t.address ≡ record (root_address depth place.local) { path = o.arrives.path }
    at = o.arrives.address

    abbrev present' : ℕ → Presence
    present' = present_by raw number depth takes place present

    here_is : held depth place.local v ≡ replaced o.arrives.path new (held depth place.local w)
    here_is =
        ap (λ (x : Addr). held x.depth x.key.0 v) (sym at) ∙ c.here
        ∙ ap (λ (x : Addr). replaced x.path new (held x.depth x.key.0 w)) at

    same : (n : ℕ) → (n == n) ≡ true
    same n = (Decides-eqb n n).1 refl

    apart_is : (j : ℕ) → (j == place.local) ≡ false → held depth j v ≡ held depth j w
    apart_is j n = c.apart depth j
        (ap (λ (x : Addr). (depth == x.depth) && (j == x.key.0)) at ∙ ap (λ b. b && (j == place.local))
        (same depth) ∙ n)

    own-refers : (live live' : ℕ → Type 0) (r : ℕ) (b : Addr) →
        (live' r → live r × (IsNamed r b → b.key.0 ≡ place.local → (takes ≡ false)
        ⊎ Diverge o.arrives.path b.path)) →
        RefersTo live present w r b → RefersTo live' present' v r b
    own-refers live live' r b spares (to_older far within full) =
        to_older far within (λ s e. full s (located-by items local_ty w v b (c.bodies b.depth)
        (c.apart b.depth b.key.0 away) ∙ e))
      where
        away : ((b.depth == t.address.depth) && (b.key.0 == t.address.key.0)) ≡ false
        away = ap (λ (x : Addr). (b.depth == x.depth) && (b.key.0 == x.key.0)) at
            ∙ ap (λ x. x && (b.key.0 == place.local)) far
    own-refers live live' r b spares (to_own e named there) =
        to_own e named (λ l. own-stays items local_ty number depth takes present w v place id end
        t new typed o c b
        ((spares l).1 named) (there (spares l).0))

    pub own-Invariant : (live live' : ℕ → Type 0) → Fits items t.dynamic (known takes none_named) new →
        IsFull items t.dynamic new ⊎ Bodiless items o.arrives.way → Sound items new t.dynamic →
        ((r : ℕ) (b : Addr) → (r == place.local) ≡ false → live' r →
        live r × (IsNamed r b → b.key.0 ≡ place.local → (takes ≡ false) ⊎ Diverge o.arrives.path b.path)) →
        ((b : Addr) → new ≡ Address b → RefersTo live' present' v place.local b) →
        Invariant live present w → Invariant live' present' v
    own-Invariant live live' fit full sound spares fresh i = record {
      knows = changed-Knows raw number depth takes present w v place id end t new i.knows typed o c fit;
      sound = λ k ty e. sound-at k ty e (k == place.local) refl;
      older = touched-again items local_ty addresses i.older (untouched (own-older depth w v t.address new c
          (ap (λ (x : Addr). x.depth) at) i.knows.deep));
      refers = λ r b e. refers-at r b e (r == place.local) refl;
    }
      where
        sound-at : (k : ℕ) (ty : TyId) → local_ty number k ≡ Some ty → (x : Bool) → (k == place.local) ≡ x →
            Sound items (held depth k v) (OfType ty)
        sound-at k ty e false n = subst (λ d. Sound items d (OfType ty)) (sym (apart_is k n)) (i.sound k ty e)
        sound-at k ty e true n =
            let k_is : k ≡ place.local = (Decides-eqb k place.local).0 n in
            let ty_is : ty ≡ id = (let x : Some ty ≡ Some id = sym e ∙ ap (local_ty number) k_is ∙ typed in cc) in
            subst (λ k. Sound items (held depth k v) (OfType ty)) (sym k_is)
            (subst (λ i. Sound items (held depth place.local v) (OfType i)) (sym ty_is)
            (subst (λ d. Sound items d (OfType id)) (sym here_is)
            (sound-changed items new o.arrives.way (i.sound place.local id typed) full sound)))

        refers-at : (r : ℕ) (b : Addr) → held depth r v ≡ Address b → (x : Bool) → (r == place.local) ≡ x →
            RefersTo live' present' v r b
        refers-at r b e false n =
            own-refers live live' r b (spares r b n) (i.refers r b (sym (apart_is r n) ∙ e))
        refers-at r b e true n =
            let r_is : r ≡ place.local = (Decides-eqb r place.local).0 n in
            subst (λ r. RefersTo live' present' v r b) (sym r_is)
            (fresh b (way-address new b o.arrives.way
            (sym here_is ∙ ap (λ k. held depth k v) (sym r_is) ∙ e)))
