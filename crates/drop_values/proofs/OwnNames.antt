-- A place of the body's own that is reached names where its value stands, as the ladder of its drop wants it.
use Rattle.std.proofs.Common.{◌≡◌, ℕ, suc, ◌==◌, false, List, [], ◌∷◌, ◌++◌, Option, Some, None, refl, ap, sym, ◌∙◌, subst, append_assoc}
use Rattle.std.specs.Option.{option_map_or}
use Rattle.std.proofs.lemmas.Bool.Decides.{Decides-eqb}
use Rattle.std.proofs.lemmas.List.{append-nil}
use Rattle.std.proofs.lemmas.Option.{none-some}
use Rattle.mir_ty.specs.declared.ty.Ty.{Ty}
use Rattle.mir_ty.specs.declared.ty.TyId.{TyId}
use Rattle.mir_ty.specs.ItemTable.{ItemTable, type_at}
use Rattle.store_model.specs.declared.address.Addr.{Addr}
use Rattle.store_model.specs.declared.address.At.{At}
use Rattle.store_model.specs.declared.address.At.TheVariants.{Part, Inside}
use Rattle.store_model.specs.Abstract.Presence.{Presence, presence_at}
use Rattle.store_model.specs.Concrete.Location.{Setting, DynamicType, OfType, concrete_ty, Located, into, root_address, Reaches, Nowhere, follow, follow_from, through, into_field, along, reach}
use Rattle.store_model.specs.Concrete.State.{State, Cells}
use Rattle.store_model.specs.Places.Place.{Step, ToPart, ToField, ToContent, ToElement, Place, is_reference, step_ty}
use Rattle.store_model.specs.Values.Datum.{Datum, Gone, Number, Truth, UnitValue, Aggregate, Box, Address}
use Rattle.drop_values.specs.Like.{held, body_at, raw_setting, Extends}
use Rattle.drop_values.specs.Typed.{Fits}
use Rattle.drop_values.proofs.Knows.{IsPlainStep, PlainSteps, no_steps, to_next, by_way_of, reaches_some, reaches_if, one_step, followed, Knows, root, reach_from_root}
use Rattle.drop_values.proofs.Names.{Takes, takes-into, NamesAlong, Names}
use Rattle.drop_values.proofs.FoundAs.{no_and_yes, IsOf, itself, object}
use Rattle.drop_values.proofs.Stand.{into-parts, rooted}
use Rattle.drop_values.proofs.Ways.{ends, fits_at_end}

module _ (setting : Setting) (w : State) (cells : Cells) where
  abbrev items : ItemTable
  items = setting.items

  abbrev here : Addr → DynamicType → Datum → Located
  here a dynamic d = record { address = a; dynamic = dynamic; value = d }

  taken-field : (v n : ℕ) (a : Addr) (dynamic : DynamicType) (d : Datum) (m : Located) →
      into_field setting w cells v n d (here a dynamic d) ≡ Reaches m → Takes items (ToField v n)
      (Part n) (here a dynamic d) m
  taken-field v n a dynamic (Aggregate active serial parts) m e =
      let r = reaches_if (v == active) (into items (Part n) (here a dynamic (Aggregate active serial parts))) m e in (
        refl,
        (serial, parts, ap (λ u. Aggregate u serial parts) (sym ((Decides-eqb v active).0 r.0))),
        into-parts items
            (Part n) (here a dynamic (Aggregate active serial parts)) m r.1,
      )
  taken-field v n a dynamic Gone m e = absurd (let x : Nowhere ≡ Reaches m = e in cc)
  taken-field v n a dynamic (Number x) m e = absurd (let x : Nowhere ≡ Reaches m = e in cc)
  taken-field v n a dynamic (Truth x) m e = absurd (let x : Nowhere ≡ Reaches m = e in cc)
  taken-field v n a dynamic UnitValue m e = absurd (let x : Nowhere ≡ Reaches m = e in cc)
  taken-field v n a dynamic (Box x y z) m e = absurd (let x : Nowhere ≡ Reaches m = e in cc)
  taken-field v n a dynamic (Address x) m e = absurd (let x : Nowhere ≡ Reaches m = e in cc)

  taken-content : (a : Addr) (dynamic : DynamicType) (d : Datum) (m : Located) (p : Presence) →
      is_reference (concrete_ty items dynamic) ≡ false → Fits items dynamic p d →
      through setting w cells d (here a dynamic d) ≡ Reaches m → Takes items ToContent Inside (here a dynamic d) m
  taken-content a dynamic (Box serial impl_no inside) m p no_ref fit e = (
    refl,
    into-parts items Inside (here a dynamic (Box serial impl_no inside)) m
        (reaches_some (into items Inside (here a dynamic (Box serial impl_no inside))) m e),
  )
  taken-content a dynamic (Address x) m p no_ref fit e = no_and_yes (is_reference (concrete_ty items dynamic))
      fit.1 no_ref
  taken-content a dynamic Gone m p no_ref fit e = absurd (let x : Nowhere ≡ Reaches m = e in cc)
  taken-content a dynamic (Number x) m p no_ref fit e = absurd (let x : Nowhere ≡ Reaches m = e in cc)
  taken-content a dynamic (Truth x) m p no_ref fit e = absurd (let x : Nowhere ≡ Reaches m = e in cc)
  taken-content a dynamic UnitValue m p no_ref fit e = absurd (let x : Nowhere ≡ Reaches m = e in cc)
  taken-content a dynamic (Aggregate x y z) m p no_ref fit e = absurd (let x : Nowhere ≡ Reaches m = e in cc)

  no_dyn : (id : TyId) (n : ℕ) (ty : Ty) (next : TyId) → type_at items id ≡ Some ty →
      type_at items id ≡ Some (Ty.Dyn n) → step_ty items ToContent ty ≡ Some next → ⊥
  no_dyn id n ty next e d s = none-some next (subst (λ t. step_ty items ToContent t ≡ Some next)
      (let x : Some ty ≡ Some (Ty.Dyn n) = sym e ∙ d in let y : ty ≡ Ty.Dyn n = cc in y) s)

  not-reference : (dynamic : DynamicType) (id : TyId) (ty : Ty) (next : TyId) → IsOf items dynamic id →
      type_at items id ≡ Some ty → step_ty items ToContent ty ≡ Some next → is_reference (Some ty) ≡ false →
      is_reference (concrete_ty items dynamic) ≡ false
  not-reference _ id ty next (itself _) is s no_ref = ap is_reference is ∙ no_ref
  not-reference _ id ty next (object _ impl_no n dyn has) is s no_ref = absurd (no_dyn id n ty next is dyn s)

  taken-step : (step : Step) (ty : Ty) (next : TyId) (a : Addr) (dynamic : DynamicType) (d : Datum)
      (id : TyId) (p : Presence) (m : Located) → type_at items id ≡ Some ty → step_ty items step ty ≡ Some next →
      IsPlainStep step ty → IsOf items dynamic id → Fits items dynamic p d →
      follow setting w cells step (here a dynamic d) ≡ Reaches m → (at : At) × Takes items step at (here a dynamic d) m
  taken-step (ToPart n) ty next a dynamic d id p m is s plain o fit e = (
    Part n,
    (
      refl,
      into-parts items (Part n) (here a dynamic d) m
          (reaches_some (into items (Part n) (here a dynamic d)) m e),
    ),
  )
  taken-step (ToField v n) ty next a dynamic d id p m is s plain o fit e = (Part n, taken-field v n a dynamic d m e)
  taken-step ToContent ty next a dynamic d id p m is s plain o fit e =
      (Inside, taken-content a dynamic d m p (not-reference dynamic id ty next o is s plain) fit e)
  taken-step (ToElement i) ty next a dynamic d id p m is s plain o fit e = absurd plain

  -- along plain steps
  pub names-along : (steps : List Step) (s t : Located) (id end : TyId) (p : Presence) → PlainSteps items steps id end →
      IsOf items s.dynamic id → Fits items s.dynamic p s.value → along setting w cells steps s ≡ Reaches t →
      (path : List At) × NamesAlong items steps path s t
  names-along [] s t id _ p (no_steps _) o fit e = ([], (refl, (let same : s ≡ t = cc in same)))
  names-along (step ∷ steps) s t id end p (to_next _ _ _ next _ ty is is_next plain rest) o fit e =
      let b = by_way_of (follow_from setting w cells step s.value s) (along setting w cells steps) t e in
      let f = followed setting w cells step s.address s.dynamic s.value b.mid b.first in
      let one = one_step setting w cells step ty next s.address s.dynamic s.value id p b.mid is is_next plain o fit f in
      let fit' = fits_at_end items p (one.way [] [] b.mid (ends b.mid.dynamic b.mid.value)) fit in
      let taken = taken-step step ty next s.address s.dynamic s.value id p b.mid is is_next plain o fit f in
      let later = names-along steps b.mid t next end (presence_at step p) rest one.of fit' b.then_reached in
      (taken.0 ∷ later.0, (taken.0, later.0, b.mid, refl, taken.1, later.1))

names-address : (items : ItemTable) (steps : List Step) (path : List At) (s t : Located) →
    NamesAlong items steps path s t → t.address ≡ record s.address { path = s.address.path ++ path }
names-address items [] path s t n =
    ap (λ (x : Located). x.address) (sym n.1) ∙ ap (λ (p : List At). record s.address { path = p })
    (sym (append-nil s.address.path)) ∙ ap (λ (p : List At). record s.address { path = s.address.path ++ p })
    (sym n.0)
names-address items (step ∷ steps) path s t n =
    let i = takes-into items step n.0 s n.2 n.4 in
    names-address items steps n.1 n.2 t n.5
    ∙ ap (λ (x : Located). record x.address { path = x.address.path ++ n.1 }) i.is
    ∙ ap (λ (p : List At). record s.address { path = p }) (append_assoc s.address.path (n.0 ∷ []) n.1)
    ∙ ap (λ (p : List At). record s.address { path = s.address.path ++ p }) (sym n.3)

module _ (items : ItemTable) (local_ty local_ty' : (body local : ℕ) → Option TyId)
    (extends : Extends local_ty local_ty') (number depth : ℕ) where
  abbrev raw : Setting
  raw = raw_setting items local_ty

  -- a place of the body's own, where what is known of its locals fits
  pub own-names : (present : ℕ → Presence) (w : State) (place : Place) (id end : TyId) (s : Located) →
      Knows raw number depth present w → local_ty number place.local ≡ Some id → PlainSteps items place.steps id end →
      reach raw w place ≡ Reaches s →
      Names items local_ty local_ty' extends w place s
  own-names present w place id end s k typed plain e = record {
    depth = k.deep ∙ ap suc (sym depth_is);
    local = ap (λ (a : Addr). a.key.0) at;
    root = rooted_at (held depth place.local w);
    root_is = subst (λ d. rooted raw d place.local (body_at d w) (held d place.local w) ≡ Some
        (rooted_at (held depth place.local w))) (sym depth_is) (rooted_is (held depth place.local w));
    root_value = ap (λ d. held d place.local w) (sym depth_is);
    other_root = λ v. subst (λ d. rooted raw d place.local (body_at d w) v ≡ Some (rooted_at v))
        (sym depth_is) (rooted_is v);
    along = subst (λ p. NamesAlong items place.steps p (rooted_at (held depth place.local w)) s)
        (sym (ap (λ (a : Addr). a.path) at)) named.1;
  }
    where
      rooted_at : Datum → Located
      rooted_at v = record { address = root_address depth place.local; dynamic = OfType id; value = v }

      from : (cells : Cells) × (along raw w cells place.steps (root raw number depth place.local id w) ≡ Reaches s)
      from = reach_from_root raw number depth w place id s k.deep k.number_is typed e

      named : (path : List At) × NamesAlong items place.steps path (root raw number depth place.local id w) s
      named = names-along raw w from.0 place.steps (root raw number depth place.local id w) s id end
          (present place.local) plain (itself id) (k.fits place.local id typed) from.1

      at : s.address ≡ record (root_address depth place.local) { path = named.0 }
      at = names-address items place.steps named.0 (root raw number depth place.local id w) s named.1

      depth_is : s.address.depth ≡ depth
      depth_is = ap (λ (a : Addr). a.depth) at

      rooted_is : (v : Datum) → rooted raw depth place.local (body_at depth w) v ≡ Some (rooted_at v)
      rooted_is v = ap (λ o. rooted raw depth place.local o v) k.number_is
          ∙ ap (λ o. option_map_or (λ id. Some (record {
            address = root_address depth place.local;
            dynamic =
                OfType id;
            value = v;
          })) o None) typed
