-- Uses pass a row one after another.
use Rattle.std.proofs.Common.{◌++◌, ◌∙◌, [], Bool, List, refl, sym, ap}
use Rattle.store_model.specs.Places.Place.{Place as Named}
use Rattle.cfg_graph.specs.declared.place.Place.{Place}
use Rattle.cfg_graph.specs.Uses.{PlaceUse}
use Rattle.init_flow.proofs.Fitting.{fits-append}
use Rattle.init_flow.proofs.Following.{all-append}
use Rattle.init_flow.specs.Carried.{Bits}
use Rattle.init_flow.specs.Switches.{all_switched}
use Rattle.drop_plans.specs.Passing.{Passes}

module _ (paths : List Named) (gone : Bool) (below : List Bits) where
  pub passes-none : (row : Bits) → Passes paths gone below [] row row
  passes-none row = ([], refl, refl)

  pub passes-more : (one other : List (PlaceUse × Place)) (start middle end : Bits) → Passes paths gone below one start middle →
      Passes paths gone below other middle end → Passes paths gone below (one ++ other) start end
  passes-more one other start middle end (s, fits, is) (z, fits_too, is_too) = (
    s ++ z,
    fits-append paths gone s z one other fits fits_too,
    is_too ∙ ap (all_switched below z) is ∙ sym (all-append below s z start),
  )
