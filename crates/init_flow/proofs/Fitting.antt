-- Switches that uses make, one list after another.
use Rattle.std.proofs.Common.{◌≡◌, Bool, true, map, Option, List, [], ◌∷◌, ◌++◌, Some, None, refl, sym, ap, subst, ◌∙◌, Result, Ok, Err}
use Rattle.std.specs.Prelude.{OnOk, option_map}
use Rattle.std.proofs.lemmas.List.{append-nil, append_assoc, map-append}
use Rattle.store_model.specs.Places.Place.{Place as Named}
use Rattle.cfg_graph.specs.declared.place.Place.{Place}
use Rattle.cfg_graph.specs.Uses.{PlaceUse}
use Rattle.init_flow.specs.declared.switches.Switch.{Switch}
use Rattle.init_flow.specs.Fits.{Fits, IsSwitch, AreSwitched}
use Rattle.init_flow.specs.Moved.{says}
use Rattle.init_flow.specs.Switches.{at_most_one, taken}

pub on_ok : {T E P Q : Type 0} → (P → Q) → (r : Result T E) → OnOk r P → OnOk r Q
on_ok to (Ok x) h = to h
on_ok to (Err e) h = h

module _ (paths : List Named) (gone : Bool) where
  pub fits-append : (xs ys : List Switch) (uses more : List (PlaceUse × Place)) → Fits paths gone xs uses → Fits paths gone ys more → Fits paths gone (xs ++ ys) (uses ++ more)
  fits-append xs ys [] more one two = subst (λ (z : List Switch). Fits paths gone (z ++ ys) more) (sym one) two
  fits-append xs ys (made ∷ uses) more one two = (
    one.0,
    one.1 ++ ys,
    ap (λ (z : List Switch). z ++ ys) one.2 ∙ append_assoc (at_most_one one.0) one.1 ys,
    one.3,
    fits-append one.1 ys uses more one.4 two,
  )

  pub switched-none : (old : List Switch) → AreSwitched paths gone old old []
  switched-none old = ([], sym (append-nil old), refl)

  pub switched-more : (first old new : List Switch) (uses more : List (PlaceUse × Place)) → AreSwitched paths gone first old uses → AreSwitched paths gone old new more → AreSwitched paths gone first new (uses ++ more)
  switched-more first old new uses more one two = (
    one.0 ++ two.0,
    two.1 ∙ ap (λ (z : List Switch). z ++ two.0) one.1 ∙ append_assoc first one.0 two.0,
    fits-append one.0 two.0 uses more one.2 two.2,
  )

  pub switched-one : (old : List Switch) (made : PlaceUse × Place) (switch : Switch) → IsSwitch paths gone made (Some switch) → AreSwitched paths gone old (old ++ switch ∷ []) (made ∷ [])
  switched-one old made switch is = (switch ∷ [], refl, (Some switch, [], refl, is, refl))

  pub switched-nothing : (old : List Switch) (made : PlaceUse × Place) → IsSwitch paths gone made None → AreSwitched paths gone old old (made ∷ [])
  switched-nothing old made is = ([], sym (append-nil old), (None, [], refl, is, refl))

  pub switched-all : (switches : List Switch) (uses : List (PlaceUse × Place)) → AreSwitched paths gone [] switches uses → Fits paths gone switches uses
  switched-all switches uses is = subst (λ (z : List Switch). Fits paths gone z uses) (sym is.1) is.2

  pub fits-one : (made : PlaceUse × Place) (o : Option Switch) → IsSwitch paths gone made o → Fits paths gone (at_most_one o) (made ∷ [])
  fits-one made o is = (o, [], sym (append-nil (at_most_one o)), is, refl)

-- switches of what is gone, taken as bits take them that say what is gone, or what is present
module _ (paths : List Named) (gone : Bool) where
  taken-one : (o : Option Switch) → map (taken gone) (at_most_one o) ≡ at_most_one (option_map (taken gone) o)
  taken-one None = refl
  taken-one (Some switch) = refl

  is-taken : (made : PlaceUse × Place) (o : Option Switch) → IsSwitch paths true made o → IsSwitch paths gone made (option_map (taken gone) o)
  is-taken made None is = is
  is-taken made (Some switch) is = (is.0, is.1, is.2, ap (says gone) is.3)

  pub fits-taken : (switches : List Switch) (uses : List (PlaceUse × Place)) → Fits paths true switches uses → Fits paths gone (map (taken gone) switches) uses
  fits-taken switches [] fits = ap (map (taken gone)) fits
  fits-taken switches (made ∷ uses) fits = (
    option_map (taken gone) fits.0,
    map (taken gone) fits.1,
    ap (map (taken gone)) fits.2 ∙ map-append (taken gone) (at_most_one fits.0) fits.1 ∙ ap (λ (z : List Switch). z ++ map (taken gone) fits.1) (taken-one fits.0),
    is-taken made fits.0 fits.3,
    fits-taken fits.1 uses fits.4,
  )
