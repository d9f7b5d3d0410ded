-- Dropping what stands at an address does the same under two settings that answer alike.
use Rattle.std.proofs.Common.{◌≡◌, ℕ, zero, suc, ◌==◌, Bool, true, false, Option, Some, None, refl, subst}
use Rattle.mir_ty.specs.ItemTable.{ItemTable}
use Rattle.store_model.specs.declared.address.At.TheVariants.{Part, Inside}
use Rattle.store_model.specs.Concrete.Drops.{in_mode, drop_impl, same_if, if_still_typed, Stage, Begins, HasRun, still, gone_at, freed_there, freed_at, as_read, if_part, with_body, own_body, drop_value, drop_parts, dropped_there, drop_at}
use Rattle.store_model.specs.Concrete.Location.{Setting, DynamicType, concrete_ty, Located, into, located_at, stored_at}
use Rattle.store_model.specs.Concrete.State.{State, Bodies}
use Rattle.store_model.specs.Effects.{Mode, Out, Go}
use Rattle.store_model.specs.Values.Datum.{Datum, Data, Gone, Number, Truth, UnitValue, Aggregate, Box, Address, no_part, a_part}
use Rattle.listing_runs.proofs.Asked.{DynAlike, concrete_alike, still_same, drop_impl_same}
use Rattle.listing_runs.proofs.Reached.{LocatedAlike, stands, stands_same, OptLocated, no_place, a_place, found_as, into_alike, SettingsAlike, at_alike}

-- what is dropped next, in the same mode or after a panic
in_mode_same : (mode : Mode) (out : Out State) (next other : Mode → State → Out State) →
    ((mode : Mode) (w : State) → next mode w ≡ other mode w) → in_mode mode out next ≡ in_mode mode out other
in_mode_same mode out next other e = λ i. in_mode mode out (λ mode w. e mode w i)

in_mode_alike : (mode : Mode) (out out' : Out State) → out ≡ out' → (next other : Mode → State → Out State) →
    ((mode : Mode) (w : State) → next mode w ≡ other mode w) → in_mode mode out next ≡ in_mode mode out' other
in_mode_alike mode out out' h next other e = λ i. in_mode mode (h i) (λ mode w. e mode w i)

module _ (left right : Setting) (alike : SettingsAlike left right) (run : Bodies) where
  abbrev L : ItemTable
  L = left.items

  abbrev R : ItemTable
  R = right.items

  -- what is done with a value and where it stands
  abbrev AtAlike : (Located → State → Out State) → (Located → State → Out State) → Type 0
  AtAlike f g = (s t : Located) → LocatedAlike L R s t → (w : State) → f s w ≡ g t w

  -- and in a mode
  abbrev InModeAlike : (Located → Mode → State → Out State) → (Located → Mode → State → Out State) → Type 0
  InModeAlike f g = (s t : Located) → LocatedAlike L R s t → (mode : Mode) (w : State) → f s mode w ≡ g t mode w

  typed_same : (d e : DynamicType) → DynAlike L R d e → (x y : Option Located) → OptLocated L R x y →
      (f g : Located → State → Out State) → AtAlike f g → (w : State) →
      if_still_typed L d x f w ≡ if_still_typed R e y g w
  typed_same d e h _ _ no_place f g on w = refl
  typed_same d e h _ _ (a_place {s = s} {t = t} k) f g on w =
      λ i. same_if (still_same L R alike.items d e h s.dynamic t.dynamic (found_as L R s t k) i) (λ w. on s t k w i) w

  still_alike : (f g : Located → State → Out State) → AtAlike f g →
      AtAlike (λ s. still left run s f) (λ s. still right run s g)
  still_alike f g on s t (stands address value {d = d} {e = e} h) w =
      typed_same d e h (located_at left w address) (located_at right w address) (at_alike left right alike w address)
      f g
      on w

  gone_alike : AtAlike (gone_at left run) (gone_at right run)
  gone_alike =
      still_alike (λ s w. Go (stored_at s.address Gone w)) (λ s w. Go (stored_at s.address Gone w))
      (λ s t h w. stands_same L R (λ address value. Go (stored_at address Gone w)) s t h)

  freed_there_same : (value : Datum) → AtAlike (freed_there left run value) (freed_there right run value)
  freed_there_same (Box serial impl_no inside) s t (stands address value h) w = refl
  freed_there_same value s t h w = refl

  freed_alike : AtAlike (freed_at left run) (freed_at right run)
  freed_alike = still_alike (λ s w. freed_there left run s.value s w) (λ s w. freed_there right run s.value s w) there
    where
      there : AtAlike (λ s w. freed_there left run s.value s w) (λ s w. freed_there right run s.value s w)
      there s t (stands address value h) w = freed_there_same value s t (stands address value h) w

  -- where what is read again is dropped alike, what is dropped of it is too
  module _ (again other : Stage → Located → Mode → State → Out State)
      (same : (stage : Stage) → InModeAlike (again stage) (other stage)) (ticks : ℕ) where
    read_alike : (b : Bool) (f g : Located → Mode → State → Out State) → InModeAlike f g →
        InModeAlike (as_read left run again ticks b f) (as_read right run other ticks b g)
    read_alike true f g on s t h mode w = on s t h mode w
    read_alike false f g on s t h mode w = same Begins s t h mode w

    part_alike : (x y : Option Located) → OptLocated L R x y → (f g : Located → Mode → State → Out State) →
        InModeAlike f g → (mode : Mode) (w : State) →
        if_part left run again ticks x f mode w ≡ if_part right run other ticks y g mode w
    part_alike _ _ no_place f g on mode w = refl
    part_alike _ _ (a_place {s = s} {t = t} h) f g on mode w = read_alike (w.ticks == ticks) f g on s t h mode w

    body_alike : (of : Option (ℕ × ℕ)) (serial : Option ℕ) (s t : Located) → LocatedAlike L R s t →
        (f g : Mode → State → Out State) → ((mode : Mode) (w : State) → f mode w ≡ g mode w) → (mode : Mode)
        (w : State) →
        with_body left run again ticks of serial s f mode w ≡ with_body right run other ticks of serial t g mode w
    body_alike None serial s t h f g on mode w = on mode w
    body_alike (Some of) serial s t (stands address value h) f g on mode w =
        in_mode_same mode _ (again HasRun s) (other HasRun t) (same HasRun s t (stands address value h))

    own_same : (stage : Stage) (of of' : Option (ℕ × ℕ)) → of ≡ of' →
        own_body left run again ticks stage of ≡ own_body right run other ticks stage of'
    own_same Begins of of' h = h
    own_same HasRun of of' h = refl

    bodies_alike : (of of' : Option (ℕ × ℕ)) → of ≡ of' → (serial : Option ℕ) (s t : Located) → LocatedAlike L R s t →
        (f g : Mode → State → Out State) → ((mode : Mode) (w : State) → f mode w ≡ g mode w) → (mode : Mode)
        (w : State) →
        with_body left run again ticks of serial s f mode w ≡ with_body right run other ticks of' serial t g mode w
    bodies_alike of of' e serial s t h f g on mode w =
        subst (λ o. with_body left run again ticks of serial s f mode w ≡ with_body right run other ticks o serial t g
        mode w)
        e (body_alike of serial s t h f g on mode w)

    mutual
      value_alike : (value : Datum) (stage : Stage) →
          InModeAlike (drop_value left run again ticks value stage) (drop_value right run other ticks value stage)
      value_alike Gone stage s t h mode w = refl
      value_alike (Number number) stage s t h mode w = gone_alike s t h w
      value_alike (Truth truth) stage s t h mode w = gone_alike s t h w
      value_alike UnitValue stage s t h mode w = gone_alike s t h w
      value_alike (Address address) stage s t h mode w = gone_alike s t h w
      value_alike (Aggregate variant serial parts) stage s t h mode w =
          bodies_alike (own_body left run again ticks stage (drop_impl L (concrete_ty L s.dynamic)))
          (own_body right run other ticks stage (drop_impl R (concrete_ty R t.dynamic)))
          (own_same stage (drop_impl L (concrete_ty L s.dynamic)) (drop_impl R (concrete_ty R t.dynamic))
          (drop_impl_same L R alike.items (concrete_ty L s.dynamic) (concrete_ty R t.dynamic)
          (concrete_alike L R alike.items s.dynamic t.dynamic (found_as L R s t h)))) serial s t h _ _
          (λ mode w. in_mode_alike mode _ _ (parts_alike parts 0 s t h mode w) (λ mode. gone_at left run s)
          (λ mode. gone_at right run t) (λ mode w. gone_alike s t h w)) mode w
      value_alike (Box serial impl_no inside) stage s t h mode w =
          in_mode_alike mode _ _
          (part_alike (into L Inside s) (into R Inside t) (into_alike L R alike.items Inside s t h)
          (drop_value left run again ticks inside Begins) (drop_value right run other ticks inside Begins)
          (λ s t h mode w. value_alike inside Begins s t h mode w) mode w)
          (λ mode. freed_at left run s) (λ mode. freed_at right run t) (λ mode w. freed_alike s t h w)

      parts_alike : (parts : Data) (n : ℕ) →
          InModeAlike (drop_parts left run again ticks parts n) (drop_parts right run other ticks parts n)
      parts_alike no_part n s t h mode w = refl
      parts_alike (a_part first rest) n s t h mode w =
          in_mode_alike mode _ _
          (part_alike (into L (Part n) s) (into R (Part n) t) (into_alike L R alike.items (Part n) s t h)
          (drop_value left run again ticks first Begins) (drop_value right run other ticks first Begins)
          (λ s t h mode w. value_alike first Begins s t h mode w) mode w)
          (drop_parts left run again ticks rest (suc n) s) (drop_parts right run other ticks rest (suc n) t)
          (λ mode w. parts_alike rest (suc n) s t h mode w)

    there_alike : (stage : Stage) (mode : Mode) (s t : Located) → LocatedAlike L R s t → (w : State) → ticks ≡ w.ticks →
        drop_value left run again w.ticks s.value stage s mode w ≡ drop_value right run other w.ticks t.value stage t
        mode w
    there_alike stage mode s t (stands address value h) w e =
        subst (λ m. drop_value left run again m value stage s mode w ≡ drop_value right run other m value stage t mode
        w) e
        (value_alike value stage s t (stands address value h) mode w)

  pub drop_alike : (fuel : ℕ) (stage : Stage) → InModeAlike (drop_at left run fuel stage) (drop_at right run fuel stage)
  drop_alike zero stage s t h mode w = refl
  drop_alike (suc n) stage s t h mode w =
      still_alike (dropped_there left run (drop_at left run n) stage mode)
      (dropped_there right run (drop_at right run n) stage mode)
      (λ s t h w. there_alike (drop_at left run n) (drop_at right run n) (drop_alike n) w.ticks stage mode s t h w refl)
      s t h w
