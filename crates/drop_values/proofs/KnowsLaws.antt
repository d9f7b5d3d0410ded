-- What is known is kept as a value is copied, moved, stored and dropped at places of the body's own; and each value
-- with a `Drop` body stays full, but where something within it is taken.
use Rattle.std.proofs.Common.{◌≡◌, ◌⊎◌, inl, inr, ℕ, zero, suc, Bool, true, false, List, [], ◌∷◌, Option, Some, None, refl, ap, sym, ◌∙◌, subst}
use Rattle.std.proofs.lemmas.Option.{none-some}
use Rattle.mir_ty.specs.declared.ty.TyId.{TyId}
use Rattle.mir_ty.specs.ItemTable.{ItemTable}
use Rattle.store_model.proofs.Values.Access.{replaced-step}
use Rattle.store_model.proofs.Values.Wholeness.{is_whole-iff_IsWhole}
use Rattle.store_model.specs.declared.address.At.{At}
use Rattle.store_model.specs.declared.address.At.TheVariants.{Part}
use Rattle.store_model.specs.Abstract.Presence.{Presence, is_present, presence_along, all_present}
use Rattle.store_model.specs.Concrete.Drops.{drop_impl, Stage, drop_at}
use Rattle.store_model.specs.Concrete.Effects.{if_so, whole, whole_at}
use Rattle.store_model.specs.Concrete.Location.{Setting, DynamicType, concrete_ty, type_of_field, Located, Reached, Reaches, CutOff, Nowhere, reach, on_reached, stored_at}
use Rattle.store_model.specs.Concrete.State.{State, Bodies}
use Rattle.store_model.specs.Effects.{EffectSite, Mode, Out, Go, Unwind, Halts}
use Rattle.store_model.specs.Places.Place.{Step}
use Rattle.store_model.specs.Values.Access.{part_at, with_part_at, replaced}
use Rattle.store_model.specs.Values.Datum.{Datum, Data, Gone, Aggregate, no_part, a_part}
use Rattle.store_model.specs.Values.Wholeness.{IsWhole, is_whole}
use Rattle.drop_values.specs.Plan.{IfFound}
use Rattle.drop_values.specs.Typed.{Fits, IsFull}
use Rattle.drop_values.proofs.Kept.{fits_kept}
use Rattle.drop_values.proofs.Fits.{present_if_whole}
use Rattle.drop_values.proofs.Frame.{Each, Frames, drop_at-After}
use Rattle.drop_values.proofs.Sound.{BodyFull, Sound, SoundParts}
use Rattle.drop_values.proofs.Knows.{PlainSteps, Knows, present_by, Own, own_place, own_fits, changed-Knows}
use Rattle.drop_values.proofs.Counting.{after, after-zero}
use Rattle.drop_values.proofs.Stand.{Changed, Known, stored-Changed, Stands}
use Rattle.drop_values.proofs.Ways.{Way, ends, to_part, to_field, to_content}

module _ (items : ItemTable) where
  -- a full value at the end of a way leaves what is full full
  pub full-way : {steps : List Step} {path : List At} {found f' : DynamicType} {d d' : Datum} (new : Datum) →
      Way items steps path found d f' d' → IsFull items found d → IsFull items f' new →
      IsFull items found (replaced path new d)
  full-way {steps} new way h k = (h.0, fits_kept items is_present new way h.1 (present-along steps) k.1)
    where
      present-along : (steps : List Step) → all_present (presence_along steps is_present) ≡ true
      present-along [] = refl
      present-along (step ∷ steps) = present-along steps

  -- no container on the way has a `Drop` body
  abbrev pub Bodiless : {steps : List Step} {path : List At} {found f' : DynamicType} {d d' : Datum} →
      Way items steps path found d f' d' → Type 0
  Bodiless (ends found d) = Unit {0}
  Bodiless (to_part steps path found variant serial parts n inner f f' d' not_enum is_part is_found way) =
      (drop_impl items (concrete_ty items found) ≡ None) × Bodiless way
  Bodiless (to_field steps path found variant serial parts n inner f f' d' enum is_part is_found way) =
      (drop_impl items (concrete_ty items found) ≡ None) × Bodiless way
  Bodiless (to_content steps path found serial impl_no inside f f' d' is_found way) = Bodiless way

  pub sound-with : (parts : Data) (found_at : ℕ → Option DynamicType) (k n : ℕ) (inner new : Datum) (f : DynamicType) →
      part_at n parts ≡ Some inner → found_at (after k n) ≡ Some f → (Sound items inner f → Sound items new f) →
      SoundParts items parts found_at k → SoundParts items (with_part_at n new parts) found_at k
  sound-with no_part found_at k n inner new f e is h s = tt
  sound-with (a_part first rest) found_at k zero inner new f e is h s = (
    subst (λ o. IfFound o (Sound items new)) (sym is)
        (h (subst (λ d. Sound items d f) (let x : first ≡ inner = cc in x)
        (subst (λ o. IfFound o (Sound items first)) is s.0))),
    s.1,
  )
  sound-with (a_part first rest) found_at k (suc n) inner new f e is h s =
      (s.0, sound-with rest found_at (suc k) n inner new f e is h s.1)

  pub body-with : (o : Option (ℕ × ℕ)) (found : DynamicType) (d d' : Datum) → BodyFull items o found d →
      (IsFull items found d → IsFull items found d') ⊎ (o ≡ None) → BodyFull items o found d'
  body-with None found d d' h k = tt
  body-with (Some of) found d d' h (inl k) = k h
  body-with (Some of) found d d' h (inr k) = absurd (none-some of (sym k))

  -- after a change at the end of a way
  pub sound-changed : {steps : List Step} {path : List At} {found f' : DynamicType} {d d' : Datum}
      (new : Datum) (way : Way items steps path found d f' d') → Sound items d found →
      IsFull items f' new ⊎ Bodiless way → Sound items new f' → Sound items (replaced path new d) found
  sound-changed new (ends found d) s k h = h
  sound-changed new (to_part steps path found variant serial parts n inner f f' d' not_enum is_part is_found way)
      s k h =
      subst (λ d. Sound items d found) (sym (replaced-step (Part n) path new (Aggregate variant serial parts)
      inner is_part)) (
        body-with (drop_impl items (concrete_ty items found)) found (Aggregate variant serial parts)
            (Aggregate variant serial (with_part_at n (replaced path new inner) parts)) s.0 (body k),
        sound-with parts (λ m. type_of_field items variant m (concrete_ty items found)) 0 n inner
            (replaced path new inner) f is_part (ap (λ m. type_of_field items variant m (concrete_ty items found))
            (after-zero n) ∙ is_found)
            (λ one. sound-changed new way one (below k) h) s.1,
      )
    where
      whole : Datum
      whole = Aggregate variant serial (with_part_at n (replaced path new inner) parts)

      body : IsFull items f' new ⊎ ((drop_impl items (concrete_ty items found) ≡ None) × Bodiless way) →
          (IsFull items found (Aggregate variant serial parts) → IsFull items found whole)
          ⊎ (drop_impl items (concrete_ty items found) ≡ None)
      body (inl w) = inl (λ full. subst (IsFull items found) (replaced-step (Part n) path new
          (Aggregate variant serial parts) inner is_part)
          (full-way new (to_part steps path found variant serial parts n inner f f' d' not_enum is_part is_found way)
          full w))
      body (inr b) = inr b.0

      below : IsFull items f' new ⊎ ((drop_impl items (concrete_ty items found) ≡ None) × Bodiless way) →
          IsFull items f' new ⊎ Bodiless way
      below (inl w) = inl w
      below (inr b) = inr b.1
  sound-changed new (to_field steps path found variant serial parts n inner f f' d' enum is_part is_found way) s k h =
      subst (λ d. Sound items d found) (sym (replaced-step (Part n) path new (Aggregate variant serial parts)
      inner is_part)) (
        body-with (drop_impl items (concrete_ty items found)) found (Aggregate variant serial parts)
            (Aggregate variant serial (with_part_at n (replaced path new inner) parts)) s.0 (body k),
        sound-with parts (λ m. type_of_field items variant m (concrete_ty items found)) 0 n inner
            (replaced path new inner) f is_part (ap (λ m. type_of_field items variant m (concrete_ty items found))
            (after-zero n) ∙ is_found)
            (λ one. sound-changed new way one (below k) h) s.1,
      )
    where
      whole : Datum
      whole = Aggregate variant serial (with_part_at n (replaced path new inner) parts)

      body : IsFull items f' new ⊎ ((drop_impl items (concrete_ty items found) ≡ None) × Bodiless way) →
          (IsFull items found (Aggregate variant serial parts) → IsFull items found whole)
          ⊎ (drop_impl items (concrete_ty items found) ≡ None)
      body (inl w) = inl (λ full. subst (IsFull items found) (replaced-step (Part n) path new
          (Aggregate variant serial parts) inner is_part)
          (full-way new (to_field steps path found variant serial parts n inner f f' d' enum is_part is_found way)
          full w))
      body (inr b) = inr b.0

      below : IsFull items f' new ⊎ ((drop_impl items (concrete_ty items found) ≡ None) × Bodiless way) →
          IsFull items f' new ⊎ Bodiless way
      below (inl w) = inl w
      below (inr b) = inr b.1
  sound-changed new (to_content steps path found serial impl_no inside f f' d' is_found way) s k h =
      subst (λ o. IfFound o (Sound items (replaced path new inside))) (sym is_found)
      (sound-changed new way (subst (λ o. IfFound o (Sound items inside)) is_found s) k h)

module _ (setting : Setting) (number depth : ℕ) where
  abbrev items_here : ItemTable
  items_here = setting.items

  -- a place of the body's own, with its types
  pub record OwnSite (site : EffectSite) : Type 0 where
    pub id : TyId
    pub end : TyId
    pub typed : setting.local_ty number site.place.local ≡ Some id
    pub plain : PlainSteps setting.items site.place.steps id end

  pub record Stands-Own (w : State) (site : EffectSite) (own : OwnSite site) (s : Located) : Type 0 where
    pub own_is : Own setting number depth w site.place s own.id own.end
    pub stands : Stands setting w s

  -- what a use of a place gives: a whole value that fits
  pub record UsedOwn (w : State) (site : EffectSite) (own : OwnSite site) (s : Located) : Type 0 where
    pub own_is : Own setting number depth w site.place s own.id own.end
    pub reached : reach setting w site.place ≡ Reaches s
    pub is_whole : IsWhole s.value
    pub fits : Fits setting.items s.dynamic is_present s.value

  pub used_own : (present : ℕ → Presence) (w : State) (site : EffectSite) (own : OwnSite site) (s : Located) →
      Knows setting number depth present w → whole_at setting w site ≡ Some s → UsedOwn w site own s
  used_own present w site own s k e = by (reach setting w site.place) refl e
    where
      so : (x : Bool) (t : Located) → if_so x t ≡ Some s → (x ≡ true) × (t ≡ s)
      so true t e = (refl, (let y : t ≡ s = cc in y))
      so false t e = absurd (let y : None ≡ Some s = e in cc)

      by : (r : Reached) → reach setting w site.place ≡ r → on_reached r (whole setting) None None ≡ Some s →
          UsedOwn w site own s
      by CutOff h e = absurd (let y : None ≡ Some s = e in cc)
      by Nowhere h e = absurd (let y : None ≡ Some s = e in cc)
      by (Reaches t) h e =
          let q = so (is_whole t.value) t e in
          let there : reach setting w site.place ≡ Reaches s = h ∙ ap Reaches q.1 in
          let o = own_place setting number depth present w site.place own.id own.end s k own.typed own.plain there in
          let wh : is_whole s.value ≡ true = ap (λ (x : Located). is_whole x.value) (sym q.1) ∙ q.0 in record {
            own_is = o;
            reached = there;
            is_whole = (is_whole-iff_IsWhole s.value).0 wh;
            fits = present_if_whole setting.items s.value s.dynamic _ wh
                (own_fits setting number depth present w site.place own.id own.end s k own.typed o);
          }

  -- a value is moved out of a place of the body's own
  pub moved-Knows : (present : ℕ → Presence) (w : State) (site : EffectSite) (own : OwnSite site) (s : Located) →
      Knows setting number depth present w → whole_at setting w site ≡ Some s → Known s.address.depth w →
      Knows setting number depth (present_by setting number depth true site.place present) (stored_at s.address Gone w)
  moved-Knows present w site own s k e at =
      let u = used_own present w site own s k e in
      changed-Knows setting number depth true present w (stored_at s.address Gone w) site.place
      own.id own.end s Gone k own.typed u.own_is (stored-Changed s.address Gone w at) refl

  -- a whole value is stored
  pub stored-Knows : (present : ℕ → Presence) (w : State) (site : EffectSite) (own : OwnSite site)
      (s : Located) (new : Datum) → Knows setting number depth present w → reach setting w site.place ≡ Reaches s →
      Known s.address.depth w → Fits setting.items s.dynamic is_present new →
      Knows setting number depth (present_by setting number depth false site.place present) (stored_at s.address new w)
  stored-Knows present w site own s new k e at fit =
      let o = own_place setting number depth present w site.place own.id own.end s k own.typed own.plain e in
      changed-Knows setting number depth false present w (stored_at s.address new w) site.place
      own.id own.end s new k own.typed o (stored-Changed s.address new w at) fit

  -- what stands at a place of the body's own is dropped, on each way on
  pub dropped-Knows : (run : Bodies) → Frames setting run → (present : ℕ → Presence) (w : State)
      (site : EffectSite) (own : OwnSite site) (s : Located) (bound : ℕ) (stage : Stage) (mode : Mode) →
      Knows setting number depth present w → reach setting w site.place ≡ Reaches s →
      Stands setting w s → Sound setting.items s.value s.dynamic →
      Each (Knows setting number depth (present_by setting number depth true site.place present))
      (drop_at setting run bound stage s mode w)
  dropped-Knows run frames present w site own s bound stage mode k e st sound =
      go (drop_at setting run bound stage s mode w) (drop_at-After setting run frames bound stage
      s s.value mode w st sound)
    where
      taken : (v : State) → Changed s.address Gone w v → Knows setting number depth
          (present_by setting number depth true site.place present) v
      taken v c = changed-Knows setting number depth true present w v site.place own.id own.end s Gone k own.typed
          (own_place setting number depth present w site.place own.id own.end s k own.typed own.plain e) c refl

      go : (o : Out State) → Each (Changed s.address Gone w) o →
          Each (Knows setting number depth (present_by setting number depth true site.place present)) o
      go (Go v) c = taken v c
      go (Unwind v) c = taken v c
      go (Halts halt v) c = tt
