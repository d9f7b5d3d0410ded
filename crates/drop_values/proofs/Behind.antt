-- A whole value comes to a place that a reference names: what is known of the body's own locals is kept, where
-- all of the place is known as present; and it is known so still after such a store, wherever it was.
use Rattle.std.proofs.Common.{◌≡◌, ℕ, ◌==◌, ◌&&◌, Bool, true, false, List, [], ◌∷◌, Option, Some, None, refl, ap, sym, ◌∙◌, subst}
use Rattle.std.specs.Prelude.{option_and_then}
use Rattle.std.specs.Cmp.{first_so, second_so}
use Rattle.std.specs.Option.{option_map_or}
use Rattle.std.proofs.lemmas.Bool.Decides.{Decides-eqb}
use Rattle.std.proofs.lemmas.Option.{none-some, option_and_then_some}
use Rattle.mir_ty.specs.declared.ty.TyId.{TyId}
use Rattle.mir_ty.specs.ItemTable.{ItemTable}
use Rattle.store_model.proofs.Values.Access.{replaced-step}
use Rattle.store_model.specs.declared.address.Addr.{Addr}
use Rattle.store_model.specs.declared.address.At.{At}
use Rattle.store_model.specs.declared.address.At.TheVariants.{Part, Inside}
use Rattle.store_model.specs.Abstract.Presence.{Presence, is_present, presence_at, all_present}
use Rattle.store_model.specs.Concrete.Location.{Setting, DynamicType, OfType, type_of_part, Located, into, into_all, located_at, root_address}
use Rattle.store_model.specs.Concrete.State.{State}
use Rattle.store_model.specs.Places.Place.{ToContent}
use Rattle.store_model.specs.Values.Access.{part_at, replaced}
use Rattle.store_model.specs.Values.Datum.{Datum, Data, Gone, Number, Truth, UnitValue, Aggregate, Box, Address, no_part}
use Rattle.drop_values.specs.Like.{held, body_at}
use Rattle.drop_values.specs.Typed.{is_enum_found, part_step, Fits}
use Rattle.drop_values.proofs.Fits.{part_fits}
use Rattle.drop_values.proofs.Kept.{part_kept, present_anyhow}
use Rattle.drop_values.proofs.Knows.{Knows}
use Rattle.drop_values.proofs.Stand.{Changed, Into, into-parts, rooted, standing-held}

module _ (items : ItemTable) where
  -- an address within a value leads to a part of it, and to what is known of the part
  pub data Leads : List At → DynamicType → Presence → Datum → DynamicType → Presence → Datum → Type 0 where
    stops : (found : DynamicType) (p : Presence) (d : Datum) → Leads [] found p d found p d
    by_part : (path : List At) (found : DynamicType) (p : Presence) (variant : ℕ) (serial : Option ℕ)
        (parts : Data) (n : ℕ) (inner : Datum) (f f' : DynamicType) (p' : Presence) (d' : Datum) →
        part_at n parts ≡ Some inner → type_of_part items (Part n) (Aggregate variant serial no_part)
        found ≡ Some f →
        Leads path f (presence_at (part_step items found variant n) p) inner f' p' d' →
        Leads (Part n ∷ path) found p (Aggregate variant serial parts) f' p' d'
    by_content : (path : List At) (found : DynamicType) (p : Presence) (serial : ℕ) (impl_no : Option ℕ)
        (inside : Datum) (f f' : DynamicType) (p' : Presence) (d' : Datum) →
        type_of_part items Inside (Box serial impl_no Gone) found ≡ Some f →
        Leads path f (presence_at ToContent p) inside f' p' d' →
        Leads (Inside ∷ path) found p (Box serial impl_no inside) f' p' d'

  pub leads-fits : {path : List At} {found f' : DynamicType} {p p' : Presence} {d d' : Datum} →
      Leads path found p d f' p' d' → Fits items found p d → Fits items f' p' d'
  leads-fits (stops found p d) k = k
  leads-fits (by_part path found p variant serial parts n inner f f' p' d' is_part is_found rest) k =
      let fit = part_fits items parts _ _ n inner k.3 is_part in
      leads-fits rest (subst (λ g. Fits items g (presence_at (part_step items found variant n) p) inner)
      (let same : fit.0 ≡ f = cc in same) fit.2)
  leads-fits (by_content path found p serial impl_no inside f f' p' d' is_found rest) k =
      leads-fits rest (subst (λ g. Fits items g (presence_at ToContent p) inside)
      (let same : k.2.0 ≡ f = cc in same)
      k.2.2)

  -- another whole value there, where all is known as present
  pub leads-kept : {path : List At} {found f' : DynamicType} {p p' : Presence} {d d' : Datum} (new : Datum) →
      Leads path found p d f' p' d' → Fits items found p d → all_present p' ≡ true →
      Fits items f' is_present new →
      Fits items found p (replaced path new d)
  leads-kept new (stops found p d) k h fit = present_anyhow items new found p h fit
  leads-kept new (by_part path found p variant serial parts n inner f f' p' d' is_part is_found rest) k h fit =
      subst (Fits items found p) (sym (replaced-step (Part n) path new (Aggregate variant serial parts)
      inner is_part)) (
        k.0,
        k.1,
        k.2,
        part_kept items (is_enum_found items found) variant n (part_step items found variant n) refl parts
            (λ m. type_of_part items (Part m) (Aggregate variant serial no_part) found) p
            inner (replaced path new inner) f is_part is_found k.3 (λ was. leads-kept new rest was h fit),
      )
  leads-kept new (by_content path found p serial impl_no inside f f' p' d' is_found rest) k h fit = (
    k.0,
    k.1,
    (
      f,
      is_found,
      leads-kept new rest (subst (λ g. Fits items g (presence_at ToContent p) inside)
          (let same : k.2.0 ≡ f = cc in same) k.2.2) h fit,
    ),
  )

  -- what is found along a path
  pub record Led (path : List At) (dynamic : DynamicType) (p : Presence) (d : Datum) (t : Located) : Type 0 where
    pub presence : Presence
    pub leads : Leads path dynamic p d t.dynamic presence t.value

  abbrev here : Addr → DynamicType → Datum → Located
  here a dynamic d = record { address = a; dynamic = dynamic; value = d }

  pub into-led : (path : List At) (a : Addr) (dynamic : DynamicType) (d : Datum) (p : Presence) (t : Located) →
      into_all items path (here a dynamic d) ≡ Some t → Led path dynamic p d t
  into-led [] a dynamic d p t e = let same : here a dynamic d ≡ t = cc in subst (λ x. Led [] dynamic p d x) same
      (record { presence = p; leads = stops dynamic p d })
  into-led (step ∷ path) a dynamic d p t e =
      option_and_then_some (into_all items path) (into items step (here a dynamic d)) t e
      (λ m h k. first step d m (into-parts items step (here a dynamic d) m h)
      (λ q. into-led path m.address m.dynamic m.value q t k))
    where
      first : (step : At) (d : Datum) (m : Located) → Into items step (here a dynamic d) m →
          ((q : Presence) → Led path m.dynamic q m.value t) → Led (step ∷ path) dynamic p d t
      first (Part n) (Aggregate variant serial parts) m i again =
          let r = again (presence_at (part_step items dynamic variant n) p) in record {
            presence = r.presence;
            leads = by_part path dynamic p variant serial parts n m.value m.dynamic t.dynamic r.presence t.value
                (i.value_is ∙ ap (λ (x : Located). Some x.value) (sym i.is))
                (i.found_is ∙ ap (λ (x : Located). Some x.dynamic) (sym i.is)) r.leads;
          }
      first Inside (Box serial impl_no inside) m i again =
          let r = again (presence_at ToContent p) in
          let v : m.value ≡ inside = ap (λ (x : Located). x.value) i.is
          ∙ (let x : Some inside ≡ Some i.value = i.value_is in let y : inside ≡ i.value = cc in sym y) in record {
            presence = r.presence;
            leads = by_content path dynamic p serial impl_no inside m.dynamic t.dynamic r.presence t.value
                (i.found_is ∙ ap (λ (x : Located). Some x.dynamic) (sym i.is))
                (subst (λ v. Leads path m.dynamic (presence_at ToContent p) v t.dynamic r.presence t.value)
                v r.leads);
          }
      first (Part n) other m i again = absurd (none-some i.value i.value_is)
      first Inside other m i again = absurd (none-some i.value i.value_is)

module _ (setting : Setting) (number depth : ℕ) where
  -- wherever the address leads within a local of the body, all is known as present there
  pub record AllPresentAt (present : ℕ → Presence) (w : State) (a : Addr) : Type 0 where
    pub all : (id : TyId) (f : DynamicType) (p : Presence) (d : Datum) → a.depth ≡ depth →
        setting.local_ty number a.key.0 ≡ Some id → Leads setting.items a.path (OfType id) (present a.key.0)
        (held depth a.key.0 w) f p d → all_present p ≡ true

  -- a whole value was stored at an address that has not lost its place
  pub behind-Knows : (present : ℕ → Presence) (w v : State) (a : Addr) (s : Located) (new : Datum) →
      Knows setting number depth present w → located_at setting w a ≡ Some s →
      Fits setting.items s.dynamic is_present new → AllPresentAt present w a → Changed a new w v →
      Knows setting number depth present v
  behind-Knows present w v a s new k st fit whole c = record {
    deep = c.count ∙ k.deep;
    number_is = c.bodies depth ∙ k.number_is;
    fits = λ j ty is. by j ty is ((depth == a.depth) && (j == a.key.0)) refl;
  }
    where
      at_depth_is : (j : ℕ) → ((depth == a.depth) && (j == a.key.0)) ≡ true → depth ≡ a.depth
      at_depth_is j e = (Decides-eqb depth a.depth).0 (first_so (depth == a.depth) (j == a.key.0) e)

      at_key_is : (j : ℕ) → ((depth == a.depth) && (j == a.key.0)) ≡ true → j ≡ a.key.0
      at_key_is j e = (Decides-eqb j a.key.0).0 (second_so (depth == a.depth) (j == a.key.0) e)

      -- what is stored into, by its local
      rooted_is : (ty : TyId) → a.depth ≡ depth → setting.local_ty number a.key.0 ≡ Some ty →
          into_all setting.items a.path (record {
            address = root_address a.depth a.key.0;
            dynamic =
                OfType ty;
            value = held depth a.key.0 w;
          }) ≡ Some s
      rooted_is ty d_is is =
          sym (ap (option_and_then (into_all setting.items a.path)) (
          ap (λ d. rooted setting a.depth a.key.0 (body_at d w) (held d a.key.0 w)) d_is
          ∙ ap (λ o. rooted setting a.depth a.key.0 o (held depth a.key.0 w)) k.number_is
          ∙ ap (λ o. option_map_or (λ id. Some (record {
            address = root_address a.depth a.key.0;
            dynamic =
                OfType id;
            value = held depth a.key.0 w;
          })) o None) is
          ))
          ∙ sym (standing-held setting w a) ∙ st

      by : (j : ℕ) (ty : TyId) → setting.local_ty number j ≡ Some ty → (b : Bool) →
          ((depth == a.depth) && (j == a.key.0)) ≡ b → Fits setting.items (OfType ty) (present j) (held depth j v)
      by j ty is false e = subst (Fits setting.items (OfType ty) (present j)) (sym (c.apart depth j e))
          (k.fits j ty is)
      by j ty is true e =
          let d_is : a.depth ≡ depth = sym (at_depth_is j e) in
          let k_is : j ≡ a.key.0 = at_key_is j e in
          let is' : setting.local_ty number a.key.0 ≡ Some ty = ap (setting.local_ty number) (sym k_is) ∙ is in
          let led = into-led setting.items a.path (root_address a.depth a.key.0) (OfType ty)
          (held depth a.key.0 w)
          (present a.key.0) s (rooted_is ty d_is is') in
          subst (λ j. Fits setting.items (OfType ty) (present j) (held depth j v)) (sym k_is)
          (subst (Fits setting.items (OfType ty) (present a.key.0))
          (sym (ap (λ d. held d a.key.0 v) (sym d_is) ∙ c.here ∙ ap (λ d. replaced a.path new (held d a.key.0 w))
          d_is))
          (leads-kept setting.items new led.leads (k.fits a.key.0 ty is')
          (whole.all ty s.dynamic led.presence s.value d_is is' led.leads) fit))
