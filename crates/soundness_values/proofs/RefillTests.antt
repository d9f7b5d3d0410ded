-- What the test tells where a place is filled again: the place, that it is sure, and what comes there.
use Rattle.std.proofs.Common.{◌≡◌, ◌≢◌, ℕ, ◌==◌, ◌&&◌, not, Bool, true, false, List, [], Option, Some, None, refl, ap, sym, ◌∙◌, subst}
use Rattle.std.specs.Option.{option_map_or}
use Rattle.std.proofs.lemmas.Bool.{false≢true}
use Rattle.mir_ty.specs.declared.ty.TyId.{TyId}
use Rattle.mir_ty.specs.ItemTable.{ItemTable}
use Rattle.store_model.specs.declared.address.Addr.{Addr}
use Rattle.store_model.specs.Effects as effects
use Rattle.store_model.specs.Effects.{EffectSite}
use Rattle.store_model.specs.Places.Place.{Place}
use Rattle.store_model.specs.Concrete.Location.{Setting}
use Rattle.store_model.specs.Concrete.State.{State}
use Rattle.soundness_values.proofs.Facts.{Facts, takes_index, same_place}
use Rattle.soundness_values.proofs.Known.{Target}
use Rattle.soundness_values.proofs.Running.{sure_place, Passed, in_local, same_place_is}
use Rattle.soundness_values.proofs.Checks.{id_of, is_of, is_value, may_change, takes_well, no_steps, refills}
use Rattle.soundness_values.proofs.Taking.{first, second, not_so}
use Rattle.soundness_values.proofs.Testing.{none_of}

module _ (setting : Setting) (number : ℕ) (targets : List Target) (uniques : List Addr) (base : State)
    (is_target : ℕ → Bool) (passed : Passed setting number targets uniques base is_target) where
  abbrev items : ItemTable
  items = setting.items

  abbrev local_ty : ℕ → Option TyId
  local_ty key = setting.local_ty number key

  abbrev S : Facts → Place → Bool
  S = sure_place items local_ty is_target

  module _ (facts : Facts) (hole : Place) (to site : EffectSite)
      (test : refills items local_ty is_target facts hole (effects.Put to (effects.Moved site)) ≡ true) where
    split : (a b c d : Bool) → ((a && b) && (c && d)) ≡ true →
        (a ≡ true) × ((b ≡ true) × ((c ≡ true) × (d ≡ true)))
    split true true true true k = (refl, (refl, (refl, refl)))
    split false b c d k = absurd (false≢true k)
    split true false c d k = absurd (false≢true k)
    split true true false d k = absurd (false≢true k)
    split true true true false k = absurd (false≢true k)

    pub record Told : Type 0 where
      pub here : to.place ≡ hole
      pub other : (site.place.local == hole.local) ≡ false
      pub no_index : takes_index site.place.local hole.steps ≡ false
      pub own_index : takes_index hole.local hole.steps ≡ false
      pub sure : S facts hole ≡ true
      pub value : is_value items local_ty is_target hole ≡ true
      pub changes : may_change items local_ty is_target hole ≡ true
      pub in_local : site.place.steps ≡ []
      pub takes : takes_well items local_ty is_target facts (effects.Moved site) ≡ true
      pub end : TyId
      pub end_is : id_of items local_ty is_target hole ≡ Some end
      pub of_end : is_of items local_ty is_target (effects.Moved site) end ≡ true

    pub told : Told
    told =
        let ab = first ((same_place to.place hole && not (site.place.local == hole.local))
        && (not (takes_index site.place.local hole.steps) && not (takes_index hole.local hole.steps))) _ test in
        let cd = second ((same_place to.place hole && not (site.place.local == hole.local))
        && (not (takes_index site.place.local hole.steps) && not (takes_index hole.local hole.steps))) _ test in
        let four = split (same_place to.place hole) (not (site.place.local == hole.local))
        (not (takes_index site.place.local hole.steps)) (not (takes_index hole.local hole.steps)) ab in
        let here : to.place ≡ hole = same_place_is setting number targets uniques base is_target to.place hole
        four.0 in
        let store = first (S facts to.place && (is_value items local_ty is_target to.place && may_change items local_ty
        is_target to.place)) _ cd in
        let rest = second (S facts to.place && (is_value items local_ty is_target to.place && may_change items local_ty
        is_target to.place)) _ cd in
        let changes = second (S facts to.place) _ store in
        let moved = first (no_steps site.place.steps && takes_well items local_ty is_target facts
        (effects.Moved site)) _ rest in
        let typed = some_of (id_of items local_ty is_target to.place) (is_of items local_ty is_target
        (effects.Moved site)) (second (no_steps site.place.steps && takes_well items local_ty is_target facts
        (effects.Moved site)) _ rest) in
        record {
          here = here;
          other = not_so (site.place.local == hole.local) four.1.0;
          no_index = not_so (takes_index site.place.local hole.steps) four.1.1.0;
          own_index = not_so (takes_index hole.local hole.steps) four.1.1.1;
          sure = subst (λ p. S facts p ≡ true) here (first (S facts to.place) _ store);
          value = subst (λ p. is_value items local_ty is_target p ≡ true) here
              (first (is_value items local_ty is_target to.place) _ changes);
          changes = subst (λ p. may_change items local_ty is_target p ≡ true) here
              (second (is_value items local_ty is_target to.place) _ changes);
          in_local = none_of site.place.steps (first (no_steps site.place.steps) _ moved);
          takes = second (no_steps site.place.steps) _ moved;
          end = typed.0;
          end_is = ap (id_of items local_ty is_target) (sym here) ∙ typed.1.0;
          of_end = typed.1.1;
        }
      where
        some_of : (o : Option TyId) (t : TyId → Bool) → option_map_or t o false ≡ true →
            (a : TyId) × ((o ≡ Some a) × (t a ≡ true))
        some_of None t k = absurd (false≢true k)
        some_of (Some a) t k = (a, (refl, k))
