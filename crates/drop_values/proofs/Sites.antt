-- Where a place of a body leads in a raw run: to a part of one of its own locals, to an element of an array of its own,
-- or behind a reference; and that what stands there is of the place's type.
use Rattle.std.proofs.Common.{◌≡◌, ℕ, Bool, true, false, List, [], ◌∷◌, ◌++◌, Option, Some, None, refl, ap, sym, ◌∙◌, subst}
use Rattle.std.proofs.lemmas.Option.{none-some}
use Rattle.mir_ty.specs.declared.ty.Ty.{Ty}
use Rattle.mir_ty.specs.declared.ty.TyId.{TyId}
use Rattle.mir_ty.specs.ItemTable.{ItemTable, type_at}
use Rattle.store_model.specs.declared.address.Addr.{Addr}
use Rattle.store_model.specs.declared.address.At.{At}
use Rattle.store_model.specs.Abstract.Presence.{Presence, is_present, presence_at, presence_along, all_present}
use Rattle.store_model.specs.Concrete.Location.{Setting, DynamicType, OfType, is_of_type, Located, located_at, root_address, Reaches, CutOff, Nowhere, reach_if, on_reached, named_by, by_reference, through, follow_from, reach, along}
use Rattle.store_model.specs.Concrete.State.{State, Cells}
use Rattle.store_model.specs.Places.Place.{Step, ToContent, ToElement, Place}
use Rattle.store_model.specs.Places.TypeForms.{box_content}
use Rattle.store_model.specs.Values.Datum.{Datum, Gone, Number, Truth, UnitValue, Aggregate, Box, Address}
use Rattle.drop_values.specs.Like.{held, raw_setting}
use Rattle.drop_values.specs.Typed.{step_if, part_step, Fits, Proper, a_type, an_object, IsTypedAs}
use Rattle.drop_values.proofs.Behind.{Leads, stops, by_part, by_content, into-led}
use Rattle.drop_values.proofs.BehindInvariant.{Opens, its_own, opens, opens-full, opens-within}
use Rattle.drop_values.proofs.Invariant.{Invariant}
use Rattle.drop_values.proofs.Knows.{PlainSteps, by_way_of, arrived, followed, root, reach_from_root, Own, own_place, own_fits}
use Rattle.drop_values.proofs.Named.{full-within, reach-stands}
use Rattle.drop_values.proofs.FoundAs.{IsOf, itself, object}
use Rattle.drop_values.proofs.Reach.{IndexOk}
use Rattle.drop_values.proofs.References.{all-within}
use Rattle.drop_values.proofs.Stand as stand
use Rattle.drop_values.proofs.Stand.{standing-address}
use Rattle.drop_values.proofs.Touched.{AllNameFull}
use Rattle.drop_values.proofs.TypedSteps.{RunsAlong, SolidSteps, typed-along}
use Rattle.drop_values.proofs.TypedAs.{As, itself_as, object_as, as-of, leads-proper}
use Rattle.drop_values.proofs.Ways.{Way, ends, to_part, to_field, to_content, fits_at_end}

module _ (items : ItemTable) where
  pub of-as : (found : DynamicType) (id : TyId) → IsOf items found id → As items found id
  of-as _ _ (itself id) = itself_as id
  of-as _ _ (object id impl_no n dyn has) = object_as id impl_no n dyn

  pub of-proper : (found : DynamicType) (id : TyId) → IsOf items found id → Proper items found
  of-proper _ _ (itself id) = a_type id
  of-proper _ _ (object id impl_no n dyn has) = an_object id impl_no n dyn has

  -- what is known where an address leads is what is known at the end of the way
  pub way-leads : {steps : List Step} {path : List At} {found f' f : DynamicType} {d d' e : Datum} {p q : Presence} →
      Way items steps path found d f' d' → Leads items path found p d f q e → q ≡ presence_along steps p
  way-leads (ends found d) (stops _ p _) = refl
  way-leads {p = p} {q = q} (to_part steps path found variant serial parts n inner f f' d' not_enum
      is_part is_found way) (by_part _ _ _ _ _ _ _ inner2 g g' q' e' is_part2 is_found2 l) =
      way-leads way
      (subst (λ s. Leads items path f (presence_at s p) inner g' q' e') (ap (λ b. step_if items b variant n) not_enum)
      (subst (λ x. Leads items path x (presence_at (part_step items found variant n) p) inner g' q' e')
      (let x : Some g ≡ Some f = sym is_found2 ∙ is_found in let y : g ≡ f = cc in y)
      (subst (λ x. Leads items path g (presence_at (part_step items found variant n) p) x g' q' e')
      (let x : Some inner2 ≡ Some inner = sym is_part2 ∙ is_part in let y : inner2 ≡ inner = cc in y) l)))
  way-leads {p = p} {q = q} (to_field steps path found variant serial parts n inner f f' d' enum is_part is_found way)
      (by_part _ _ _ _ _ _ _ inner2 g g' q' e' is_part2 is_found2 l) =
      way-leads way
      (subst (λ s. Leads items path f (presence_at s p) inner g' q' e') (ap (λ b. step_if items b variant n) enum)
      (subst (λ x. Leads items path x (presence_at (part_step items found variant n) p) inner g' q' e')
      (let x : Some g ≡ Some f = sym is_found2 ∙ is_found in let y : g ≡ f = cc in y)
      (subst (λ x. Leads items path g (presence_at (part_step items found variant n) p) x g' q' e')
      (let x : Some inner2 ≡ Some inner = sym is_part2 ∙ is_part in let y : inner2 ≡ inner = cc in y) l)))
  way-leads {p = p} {q = q} (to_content steps path found serial impl_no inside f f' d' is_found way)
      (by_content _ _ _ _ _ _ g g' q' e' is_found2 l) =
      way-leads way
      (subst (λ x. Leads items path x (presence_at ToContent p) inside g' q' e')
      (let x : Some g ≡ Some f = sym is_found2 ∙ is_found in let y : g ≡ f = cc in y) l)

  box-or-reference : (o : Option Ty) (content to : TyId) → box_content o ≡ Some content → named_by o ≡ Some to → ⊥
  box-or-reference None content to e h = none-some content e
  box-or-reference (Some (Ty.Boxed t)) content to e h = none-some to h
  box-or-reference (Some other) content to e h = none-some content e

module _ (setting : Setting) (w : State) (cells : Cells) where
  -- along steps in two pieces
  pub record InTwo (steps more : List Step) (s t : Located) : Type 0 where
    pub middle : Located
    pub first : along setting w cells steps s ≡ Reaches middle
    pub second : along setting w cells more middle ≡ Reaches t

  pub in-two : (steps more : List Step) (s t : Located) → along setting w cells (steps ++ more) s ≡ Reaches t →
      InTwo steps more s t
  in-two [] more s t e = record { middle = s; first = refl; second = e }
  in-two (step ∷ steps) more s t e =
      let b = by_way_of (follow_from setting w cells step s.value s) (along setting w cells (steps ++ more)) t e in
      let r = in-two steps more b.mid t b.then_reached in record {
        middle = r.middle;
        first = ap (λ x. on_reached x (along setting w cells steps) CutOff Nowhere) b.first ∙ r.first;
        second = r.second;
      }

module _ (items : ItemTable) (local_ty : (body local : ℕ) → Option TyId) (number : ℕ) where
  -- how a place of the body is reached
  pub data PlaceIs (place : Place) (end : TyId) : Type 0 where
    a_part : (id : TyId) → local_ty number place.local ≡ Some id → PlainSteps items place.steps id end →
        PlaceIs place end
    an_element : (upper rest : List Step) (index : ℕ) (id array : TyId) → local_ty number place.local ≡ Some id →
        place.steps ≡ upper ++ ToElement index ∷ rest → PlainSteps items upper id array →
        SolidSteps items (ToElement index ∷ rest) array end → PlaceIs place end
    behind : (rest : List Step) (id to : TyId) → local_ty number place.local ≡ Some id →
        named_by (type_at items id) ≡ Some to → place.steps ≡ ToContent ∷ rest → SolidSteps items rest to end →
        PlaceIs place end

module _ (items : ItemTable) (local_ty : (body local : ℕ) → Option TyId) (number depth : ℕ) (addresses : List Addr)
    (before : State) (IsNamed : ℕ → Addr → Type 0) (given : AllNameFull items local_ty before addresses) where
  abbrev raw : Setting
  raw = raw_setting items local_ty

  -- its array is there, or what its reference names is
  abbrev pub IsOpen : (ℕ → Type 0) → (ℕ → Presence) → {place : Place} {end : TyId} →
      PlaceIs items local_ty number place end → Type 0
  IsOpen live present {place} {end} (a_part id typed plain) = Unit {0}
  IsOpen live present {place} {end} (an_element upper rest index id array typed is plain solid) =
      all_present (presence_along upper (present place.local)) ≡ true
  IsOpen live present {place} {end} (behind rest id to typed named is solid) = live place.local

  pub data Landed (present : ℕ → Presence) (w : State) (place : Place) (s : Located) (end : TyId) : Type 0 where
    on_own : (id : TyId) → local_ty number place.local ≡ Some id → PlainSteps items place.steps id end →
        Own raw number depth w place s id end → Landed present w place s end
    on_open : Opens items local_ty number depth addresses before IsNamed given present w s.address →
        Landed present w place s end

  -- what stands where a place leads
  pub record Lands (present : ℕ → Presence) (w : State) (place : Place) (s : Located) (end : TyId) : Type 0 where
    pub as_is : As items s.dynamic end
    pub proper : Proper items s.dynamic
    pub typed : IsTypedAs items s.dynamic s.value
    pub stands : located_at raw w s.address ≡ Some s
    pub landed : Landed present w place s end

  -- what a reference leads to
  pub record Behind (w : State) (to : TyId) (d : Datum) (m : Located) : Type 0 where
    pub address : Addr
    pub value_is : d ≡ Address address
    pub there : located_at raw w address ≡ Some m
    pub found_is : is_of_type items to m.dynamic ≡ true

  pub behind-it : (w : State) (cells : Cells) (id to : TyId) (p : Presence) (d : Datum) (a : Addr) (m : Located) →
      named_by (type_at items id) ≡ Some to → Fits items (OfType id) p d →
      through raw w cells d (record { address = a; dynamic = OfType id; value = d }) ≡ Reaches m → Behind w to d m
  behind-it w cells id to p (Address b) a m named k e =
      by (named_by (type_at items id)) named (located_at raw w b) refl e
    where
      by : (n : Option TyId) → n ≡ Some to → (o : Option Located) → located_at raw w b ≡ o →
          by_reference items n o ≡ Reaches m → Behind w to (Address b) m
      by None en o eo e = absurd (none-some to en)
      by (Some t) en None eo e = absurd (let x : Nowhere ≡ Reaches m = e in cc)
      by (Some t) en (Some s) eo e = so (is_of_type items t s.dynamic) refl e
        where
          so : (x : Bool) → is_of_type items t s.dynamic ≡ x → reach_if x (Some s) ≡ Reaches m →
              Behind w to (Address b) m
          so false ex e = absurd (let x : Nowhere ≡ Reaches m = e in cc)
          so true ex e =
              let same : s ≡ m = (let x : Reaches s ≡ Reaches m = e in cc) in
              let t_is : t ≡ to = cc in record {
                address = b;
                value_is = refl;
                there = eo ∙ ap Some same;
                found_is = ap (λ (x : Located). is_of_type items to x.dynamic) (sym same)
                    ∙ ap (λ x. is_of_type items x s.dynamic) (sym t_is) ∙ ex;
              }
  behind-it w cells id to p (Box serial impl_no inside) a m named k e =
      absurd (box-or-reference items (type_at items id) k.1.0 to k.1.1 named)
  behind-it w cells id to p Gone a m named k e = absurd (let x : Nowhere ≡ Reaches m = e in cc)
  behind-it w cells id to p (Number x) a m named k e = absurd (let x : Nowhere ≡ Reaches m = e in cc)
  behind-it w cells id to p (Truth x) a m named k e = absurd (let x : Nowhere ≡ Reaches m = e in cc)
  behind-it w cells id to p UnitValue a m named k e = absurd (let x : Nowhere ≡ Reaches m = e in cc)
  behind-it w cells id to p (Aggregate x y z) a m named k e = absurd (let x : Nowhere ≡ Reaches m = e in cc)

  pub lands : (live : ℕ → Type 0) (present : ℕ → Presence) (w : State) (place : Place) (end : TyId) (s : Located)
      (is : PlaceIs items local_ty number place end) → Invariant items local_ty number depth addresses
      before IsNamed live present w →
      IsOpen live present is → IndexOk (local_ty number) place.steps → reach raw w place ≡ Reaches s →
      Lands present w place s end
  lands live present w place end s (a_part id typed plain) i opened ok e =
      let o = own_place raw number depth present w place id end s i.knows typed plain e in record {
        as_is = of-as items s.dynamic end o.arrives.of;
        proper = of-proper items s.dynamic end o.arrives.of;
        typed = (
          presence_along place.steps (present place.local),
          own_fits raw number depth present w place id end s i.knows typed o,
        );
        stands = reach-stands items local_ty depth number w place s i.knows.deep i.knows.number_is ok e;
        landed = on_own id typed plain o;
      }
  lands live present w place end s (an_element upper rest index id array typed steps_are plain solid) i opened ok e =
      let k = i.knows in
      let r = reach_from_root raw number depth w place id s k.deep k.number_is typed e in
      let two = in-two raw w r.0 upper (ToElement index ∷ rest) (root raw number depth place.local id w) s
      (ap (λ steps. along raw w r.0 steps (root raw number depth place.local id w)) (sym steps_are) ∙ r.1) in
      let fits = k.fits place.local id typed in
      let a = arrived raw w r.0 upper (root raw number depth place.local id w) two.middle id array
      (present place.local) plain (itself id) fits two.first in
      let x = typed-along items local_ty w r.0 (ToElement index ∷ rest) two.middle s array end solid
      (of-as items two.middle.dynamic array a.of)
      (presence_along upper (present place.local), fits_at_end items (present place.local) a.way fits) two.second in
      let address_is : s.address ≡ record (root_address depth place.local) { path = a.path ++ x.path } =
      (stand.along items x.path two.middle s x.into_is).address
      ∙ ap (λ (y : Addr). record y { path = y.path ++ x.path }) a.address in record {
        as_is = x.reached_as.as_is;
        proper = leads-proper items (into-led items x.path two.middle.address two.middle.dynamic two.middle.value
            (presence_along upper (present place.local)) s x.into_is).leads
            (fits_at_end items (present place.local) a.way fits) (of-proper items two.middle.dynamic array a.of);
        typed = x.reached_as.typed;
        stands = reach-stands items local_ty depth number w place s k.deep k.number_is ok e;
        landed = on_open (subst (Opens items local_ty number depth addresses before IsNamed given present w)
            (sym address_is) (its_own refl (all-within items local_ty number depth present w
            (record (root_address depth place.local) { path = a.path }) x.path (record {
              all = λ id' f p d same ty l.
                  let id_is : id' ≡ id = (let y : Some id' ≡ Some id = sym ty ∙ typed in cc) in
                  ap all_present (way-leads items a.way (subst (λ t. Leads items a.path (OfType t) (present place.local)
                  (held depth place.local w) f p d) id_is l)) ∙ opened;
            }))));
      }
  lands live present w place end s (behind rest id to typed named steps_are solid) i opened ok e =
      let k = i.knows in
      let r = reach_from_root raw number depth w place id s k.deep k.number_is typed e in
      let start = root raw number depth place.local id w in
      let b = by_way_of (follow_from raw w r.0 ToContent start.value start) (along raw w r.0 rest) s
      (ap (λ steps. along raw w r.0 steps start) (sym steps_are) ∙ r.1) in
      let m = behind-it w r.0 id to (present place.local) (held depth place.local w) (root_address depth place.local)
      b.mid named (k.fits place.local id typed)
      (followed raw w r.0 ToContent (root_address depth place.local) (OfType id) (held depth place.local w) b.mid
      b.first) in
      let o = opens items local_ty number depth addresses before IsNamed given live present w place.local
      m.address opened
      (i.refers place.local m.address m.value_is) in
      let full = opens-full items local_ty number depth addresses before IsNamed given present w m.address k o b.mid
      m.there in
      let x = typed-along items local_ty w r.0 rest b.mid s to end solid
      (as-of items to b.mid.dynamic full.0 m.found_is) (is_present, full.1) b.then_reached in
      let there = full-within items x.path b.mid full s x.into_is in
      let address_is : s.address ≡ record m.address { path = m.address.path ++ x.path } =
      (stand.along items x.path b.mid s x.into_is).address
      ∙ ap (λ (y : Addr). record y { path = y.path ++ x.path })
      (standing-address raw w m.address b.mid m.there) in record {
        as_is = x.reached_as.as_is;
        proper = there.0;
        typed = (is_present, there.1);
        stands = reach-stands items local_ty depth number w place s k.deep k.number_is ok e;
        landed = on_open (subst (Opens items local_ty number depth addresses before IsNamed given present w)
            (sym address_is) (opens-within items local_ty number depth addresses before IsNamed
            given present w m.address
            x.path o));
      }

  -- ---- along which steps the address runs

  pub record ElementRuns (place : Place) (upper more : List Step) (s : Located) : Type 0 where
    pub path : List At
    pub others : List At
    pub address : s.address ≡ record (root_address depth place.local) { path = path ++ others }
    pub found : DynamicType
    pub value : Datum
    pub root_ty : TyId
    pub root_value : Datum
    pub way : Way items upper path (OfType root_ty) root_value found value
    pub runs : RunsAlong more others

  -- an element of an array of the body's own
  pub element-runs : (live : ℕ → Type 0) (present : ℕ → Presence) (w : State) (place : Place) (end : TyId) (s : Located)
      (upper rest : List Step) (index : ℕ) (id array : TyId) → local_ty number place.local ≡ Some id →
      place.steps ≡ upper ++ ToElement index ∷ rest → PlainSteps items upper id array →
      SolidSteps items (ToElement index ∷ rest) array end →
      Invariant items local_ty number depth addresses before IsNamed live present w → reach raw w place ≡ Reaches s →
      ElementRuns place upper (ToElement index ∷ rest) s
  element-runs live present w place end s upper rest index id array typed steps_are plain solid i e =
      let k = i.knows in
      let r = reach_from_root raw number depth w place id s k.deep k.number_is typed e in
      let two = in-two raw w r.0 upper (ToElement index ∷ rest) (root raw number depth place.local id w) s
      (ap (λ steps. along raw w r.0 steps (root raw number depth place.local id w)) (sym steps_are) ∙ r.1) in
      let fits = k.fits place.local id typed in
      let a = arrived raw w r.0 upper (root raw number depth place.local id w) two.middle id array
      (present place.local) plain (itself id) fits two.first in
      let x = typed-along items local_ty w r.0 (ToElement index ∷ rest) two.middle s array end solid
      (of-as items two.middle.dynamic array a.of)
      (presence_along upper (present place.local), fits_at_end items (present place.local) a.way fits) two.second in
      record {
        path = a.path;
        others = x.path;
        address = (stand.along items x.path two.middle s x.into_is).address
            ∙ ap (λ (y : Addr). record y { path = y.path ++ x.path }) a.address;
        found = two.middle.dynamic;
        value = two.middle.value;
        root_ty = id;
        root_value = held depth place.local w;
        way = a.way;
        runs = x.runs;
      }

  pub record BehindRuns (w : State) (place : Place) (rest : List Step) (s : Located) : Type 0 where
    pub named : Addr
    pub held_is : held depth place.local w ≡ Address named
    pub path : List At
    pub address : s.address ≡ record named { path = named.path ++ path }
    pub runs : RunsAlong rest path

  -- what lies behind a reference
  pub behind-runs : (live : ℕ → Type 0) (present : ℕ → Presence) (w : State) (place : Place) (end : TyId) (s : Located)
      (rest : List Step) (id to : TyId) → local_ty number place.local ≡ Some id → named_by (type_at items id) ≡ Some
      to →
      place.steps ≡ ToContent ∷ rest → SolidSteps items rest to end → live place.local →
      Invariant items local_ty number depth addresses before IsNamed live present w → reach raw w place ≡ Reaches s →
      BehindRuns w place rest s
  behind-runs live present w place end s rest id to typed named steps_are solid opened i e =
      let k = i.knows in
      let r = reach_from_root raw number depth w place id s k.deep k.number_is typed e in
      let start = root raw number depth place.local id w in
      let b = by_way_of (follow_from raw w r.0 ToContent start.value start) (along raw w r.0 rest) s
      (ap (λ steps. along raw w r.0 steps start) (sym steps_are) ∙ r.1) in
      let m = behind-it w r.0 id to (present place.local) (held depth place.local w) (root_address depth place.local)
      b.mid named (k.fits place.local id typed)
      (followed raw w r.0 ToContent (root_address depth place.local) (OfType id) (held depth place.local w) b.mid
      b.first) in
      let o = opens items local_ty number depth addresses before IsNamed given live present w place.local
      m.address opened (i.refers place.local m.address m.value_is) in
      let full = opens-full items local_ty number depth addresses before IsNamed given present w m.address k o b.mid
      m.there in
      let x = typed-along items local_ty w r.0 rest b.mid s to end solid
      (as-of items to b.mid.dynamic full.0 m.found_is) (is_present, full.1) b.then_reached in record {
        named = m.address;
        held_is = m.value_is;
        path = x.path;
        address = (stand.along items x.path b.mid s x.into_is).address
            ∙ ap (λ (y : Addr). record y { path = y.path ++ x.path })
            (standing-address raw w m.address b.mid m.there);
        runs = x.runs;
      }
