-- What `forget` tells of a value is the same for two tables of items that answer alike.
use Rattle.std.proofs.Common.{◌≡◌, ℕ, suc, List, [], ◌∷◌, ◌++◌, Option, Some, None, refl, ap}
use Rattle.std.specs.Option.{option_map_or}
use Rattle.mir_base.specs.declared.trace.Event.{Event}
use Rattle.mir_ty.specs.ItemTable.{ItemTable}
use Rattle.store_model.specs.declared.address.At.TheVariants.{Part, Inside}
use Rattle.store_model.specs.Concrete.Effects.{made_forgotten, if_typed, forgotten, forgotten_parts}
use Rattle.store_model.specs.Concrete.Location.{DynamicType, concrete_ty, type_of_part, Located}
use Rattle.store_model.specs.Values.Datum.{Datum, Data, Gone, Number, Truth, UnitValue, Aggregate, Box, Address, no_part, a_part}
use Rattle.listing_runs.proofs.Asked.{AnswersAlike, DynAlike, OptDyn, no_dynamic, a_dynamic, concrete_alike, part_alike, drop_impl_same}
use Rattle.listing_runs.proofs.Reached.{OptLocated, no_place, a_place, found_as}

module _ (left right : ItemTable) (alike : AnswersAlike left right) where
  typed_same : (f g : DynamicType → List Event) (x y : Option DynamicType) → OptDyn left right x y →
      ((d e : DynamicType) → DynAlike left right d e → f d ≡ g e) → if_typed x f ≡ if_typed y g
  typed_same f g _ _ no_dynamic on = refl
  typed_same f g _ _ (a_dynamic {d = d} {e = e} h) on = on d e h

  mutual
    forgotten_same : (value : Datum) (d e : DynamicType) → DynAlike left right d e →
        forgotten left value d ≡ forgotten right value e
    forgotten_same Gone d e h = refl
    forgotten_same (Number number) d e h = refl
    forgotten_same (Truth truth) d e h = refl
    forgotten_same UnitValue d e h = refl
    forgotten_same (Address address) d e h = refl
    forgotten_same (Aggregate variant serial parts) d e h =
        λ i. made_forgotten serial
        (drop_impl_same left right alike (concrete_ty left d) (concrete_ty right e)
        (concrete_alike left right alike d e h) i)
        ++ forgotten_parts_same parts (λ n. type_of_part left (Part n) (Aggregate variant serial no_part) d)
        (λ n. type_of_part right (Part n) (Aggregate variant serial no_part) e)
        (λ n. part_alike left right alike (Part n) (Aggregate variant serial no_part) d e h) 0 i
    forgotten_same (Box serial impl_no inside) d e h =
        ap (λ (events : List Event). events ++ Event.ForgotBox serial ∷ [])
        (typed_same (forgotten left inside) (forgotten right inside)
        (type_of_part left Inside (Box serial impl_no Gone) d) (type_of_part right Inside (Box serial impl_no Gone) e)
        (part_alike left right alike Inside (Box serial impl_no Gone) d e h) (λ d e h. forgotten_same inside d e h))

    forgotten_parts_same : (parts : Data) (f g : ℕ → Option DynamicType) → ((n : ℕ) → OptDyn left right (f n) (g n)) →
        (n : ℕ) → forgotten_parts left parts f n ≡ forgotten_parts right parts g n
    forgotten_parts_same no_part f g h n = refl
    forgotten_parts_same (a_part first rest) f g h n =
        λ i. typed_same (forgotten left first) (forgotten right first) (f n) (g n) (h n)
        (λ d e h. forgotten_same first d e h) i ++ forgotten_parts_same rest f g h (suc n) i

  pub forgotten_of : (value : Datum) (x y : Option DynamicType) → OptDyn left right x y →
      option_map_or (forgotten left value) x [] ≡ option_map_or (forgotten right value) y []
  forgotten_of value _ _ no_dynamic = refl
  forgotten_of value _ _ (a_dynamic {d = d} {e = e} h) = forgotten_same value d e h

  pub dynamic_of : (x y : Option Located) → OptLocated left right x y →
      OptDyn left right (option_map_or (λ s. Some s.dynamic) x None) (option_map_or (λ s. Some s.dynamic) y None)
  dynamic_of _ _ no_place = no_dynamic
  dynamic_of _ _ (a_place {s = s} {t = t} h) = a_dynamic (found_as left right s t h)
