-- A place of the body's own that may be left gone, since no container of it has a `Drop` body: what is known is kept as
-- its value is moved out of it or dropped there.
use Rattle.std.proofs.Common.{◌≡◌, inr, ℕ, ◌==◌, true, false, List, [], ◌∷◌, Option, Some, None, refl, ap, sym, ◌∙◌, subst}
use Rattle.mir_ty.specs.declared.ty.Ty.{Ty}
use Rattle.mir_ty.specs.declared.ty.TyId.{TyId}
use Rattle.mir_ty.specs.ItemTable.{ItemTable, type_at}
use Rattle.store_model.specs.declared.address.Addr.{Addr}
use Rattle.store_model.specs.declared.address.At.{At}
use Rattle.store_model.specs.declared.address.At.TheVariants.{Part, Inside}
use Rattle.store_model.specs.Abstract.Presence.{Presence}
use Rattle.store_model.specs.Concrete.Drops.{drop_impl}
use Rattle.store_model.specs.Concrete.Location.{DynamicType, Located, below, reach_of}
use Rattle.store_model.specs.Concrete.State.{State, Cells}
use Rattle.store_model.specs.Places.Place.{Step, ToPart, ToField, ToContent, is_enum, step_ty, Place}
use Rattle.store_model.specs.Values.Datum.{Datum, Gone, Aggregate, Box, Address}
use Rattle.drop_values.specs.Like.{raw_setting}
use Rattle.drop_values.specs.Typed.{IsTypedAs}
use Rattle.drop_values.proofs.Invariant.{Invariant, own-Invariant}
use Rattle.drop_values.proofs.Knows.{PlainSteps, to_next, present_by, Own}
use Rattle.drop_values.proofs.KnowsLaws.{Bodiless}
use Rattle.drop_values.proofs.FoundAs.{itself}
use Rattle.drop_values.proofs.Sites.{of-as}
use Rattle.drop_values.proofs.Stand.{Changed, Into, into-is}
use Rattle.drop_values.proofs.Staying.{Diverge}
use Rattle.drop_values.proofs.TypedSteps.{part-as, typed-part, typed-content, variant_is, of_variant}
use Rattle.drop_values.proofs.TypedAs.{As, as-concrete}
use Rattle.drop_values.proofs.Ways.{Way, ends, to_part, to_field, to_content}
use Rattle.mir_ty.specs.Parts.{parts_of}
use Rattle.std.specs.Prelude.{slice_get}

module _ (items : ItemTable) where
  -- no container along these steps has a `Drop` body
  pub data BodilessSteps : List Step → TyId → Type 0 where
    at_end : (id : TyId) → BodilessSteps [] id
    beyond : (step : Step) (steps : List Step) (id next : TyId) (ty : Ty) → type_at items id ≡ Some ty →
        step_ty items step ty ≡ Some next → drop_impl items (Some ty) ≡ None → BodilessSteps steps next →
        BodilessSteps (step ∷ steps) id

  module _ (local_ty : (body local : ℕ) → Option TyId) (w : State) (cells : Cells) (address : Addr) where
    abbrev here : DynamicType → Datum → Located
    here found d = record { address = address; dynamic = found; value = d }

    abbrev next_there : At → DynamicType → Datum → Located
    next_there at f d = record { address = below address at; dynamic = f; value = d }

    pub way-bodiless : {steps : List Step} {path : List At} {found f' : DynamicType} {d d' : Datum}
        (way : Way items steps path found d f' d') (id end : TyId) → As items found id → IsTypedAs items found d →
        PlainSteps items steps id end → BodilessSteps steps id → Bodiless items way
    way-bodiless (ends found d) id end o t p b = tt
    way-bodiless (to_part steps path found variant serial parts n inner f f' d' not_enum is_part is_found way)
        id end o t (to_next _ _ _ next _ ty is step_is plain rest) (beyond _ _ _ next' ty' is' step_is' none more) =
        let c = as-concrete items found id (ToPart n) ty next o is step_is in
        let same : ty' ≡ ty = (let x : Some ty' ≡ Some ty = sym is' ∙ is in cc) in
        let next_is : next' ≡ next = (let x : Some next' ≡ Some next =
        sym step_is' ∙ ap (step_ty items (ToPart n)) same ∙ step_is in cc) in
        let r = typed-part items local_ty w cells n address found (Aggregate variant serial parts)
        (next_there (Part n) f inner) ty next c step_is t (record {
          value = inner;
          dynamic = f;
          value_is = is_part;
          found_is = is_found;
          is = refl;
        }) in (
          ap (drop_impl items) (c ∙ ap Some (sym same)) ∙ none,
          way-bodiless way next end r.as_is r.typed rest (subst (BodilessSteps steps) next_is more),
        )
    way-bodiless (to_field steps path found variant serial parts n inner f f' d' enum is_part is_found way) id end o t
        (to_next _ _ _ next _ ty is step_is plain rest) (beyond _ _ _ next' ty' is' step_is' none more) =
        let c = as-concrete items found id (ToField variant n) ty next o is step_is in
        let same : ty' ≡ ty = (let x : Some ty' ≡ Some ty = sym is' ∙ is in cc) in
        let next_is : next' ≡ next = (let x : Some next' ≡ Some next =
        sym step_is' ∙ ap (step_ty items (ToField variant n)) same ∙ step_is in cc) in
        let r = part-as items local_ty w cells n address found (Aggregate variant serial parts)
        (next_there (Part n) f inner) ty next c t (record {
          value = inner;
          dynamic = f;
          value_is = is_part;
          found_is = is_found;
          is = refl;
        })
        (λ v s ps e. ap (λ v. slice_get (parts_of items ty v) n)
        (sym (variant_is items local_ty w cells variant v serial s parts ps e))
        ∙ of_variant items local_ty w cells (is_enum items ty) (slice_get (parts_of items ty variant) n) next
        step_is) in (
          ap (drop_impl items) (c ∙ ap Some (sym same)) ∙ none,
          way-bodiless way next end r.as_is r.typed rest (subst (BodilessSteps steps) next_is more),
        )
    way-bodiless (to_content steps path found serial impl_no inside f f' d' is_found way) id end o t
        (to_next _ _ _ next _ ty is step_is plain rest) (beyond _ _ _ next' ty' is' step_is' none more) =
        let c = as-concrete items found id ToContent ty next o is step_is in
        let same : ty' ≡ ty = (let x : Some ty' ≡ Some ty = sym is' ∙ is in cc) in
        let next_is : next' ≡ next = (let x : Some next' ≡ Some next =
        sym step_is' ∙ ap (step_ty items ToContent) same ∙ step_is in cc) in
        let i : Into items Inside (here found (Box serial impl_no inside)) (next_there Inside f inside) = record {
          value = inside;
          dynamic = f;
          value_is = refl;
          found_is = is_found;
          is = refl;
        } in
        let r = typed-content items local_ty w cells address found (Box serial impl_no inside)
        (next_there Inside f inside) ty next c step_is plain t
        (ap reach_of (into-is items Inside (here found (Box serial impl_no inside))
        (next_there Inside f inside) i)) in
        way-bodiless way next end r.as_is r.typed rest (subst (BodilessSteps steps) next_is more)

module _ (items : ItemTable) (local_ty : (body local : ℕ) → Option TyId) (number depth : ℕ) (addresses : List Addr)
    (before : State) (IsNamed : ℕ → Addr → Type 0) where
  -- its value is taken
  pub taken-Invariant : (live live' : ℕ → Type 0) (present : ℕ → Presence) (w v : State) (place : Place) (id end : TyId)
      (t : Located) → local_ty number place.local ≡ Some id → PlainSteps items place.steps id end →
      BodilessSteps items place.steps id → (o : Own (raw_setting items local_ty) number depth w place t id end) →
      Changed t.address Gone w v →
      ((r : ℕ) (b : Addr) → (r == place.local) ≡ false → live' r →
      live r × (IsNamed r b → b.key.0 ≡ place.local → Diverge o.arrives.path b.path)) →
      Invariant items local_ty number depth addresses before IsNamed live present w →
      Invariant items local_ty number depth addresses before IsNamed live'
      (present_by (raw_setting items local_ty) number depth true place present) v
  taken-Invariant live live' present w v place id end t typed plain bodiless o c spares i =
      own-Invariant items local_ty number depth addresses before IsNamed true present w v place id end t Gone typed o c
      live live' refl
      (inr (way-bodiless items local_ty w [] t.address o.arrives.way id end (of-as items _ id (itself id))
      (present place.local, i.knows.fits place.local id typed) plain bodiless))
      tt
      (λ r b n l. let s = spares r b n l in (s.0, λ named key. inr (s.1 named key)))
      (λ b e. absurd (let x : Gone ≡ Address b = e in cc)) i
