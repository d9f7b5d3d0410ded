-- Drops tell of no body that does not exist, if the bodies that are called do not.
use Rattle.std.proofs.Common.{ℕ, zero, suc, ◌<◌, Bool, true, false, [], ◌∷◌, Option, Some, None, slice_get}
use Rattle.std.specs.Prelude.{⊤}
use Rattle.std.specs.Option.{option_map_or}
use Rattle.mir_base.specs.declared.trace.Event.{Event}
use Rattle.mir_ty.specs.declared.ty.Ty.{Ty}
use Rattle.store_model.specs.declared.address.At.TheVariants.{Part, Inside}
use Rattle.store_model.specs.Concrete.Drops.{drop_body_out, unwinding_out, in_mode, with_drop_body, drop_impl, same_if, if_still_typed, Stage, Begins, HasRun, gone_at, freed_there, freed_at, as_read, if_part, with_body, own_body, serial_or_none, drop_value, drop_parts, dropped_there, drop_at}
use Rattle.store_model.specs.Concrete.Effects.{dropped_if, nothing_if, drop}
use Rattle.store_model.specs.Concrete.Location.{Setting, DynamicType, concrete_ty, Located, into, reach, stored_at}
use Rattle.store_model.specs.Concrete.State.{State, Answer, Returns, Unwinds, HaltsIn, Bodies}
use Rattle.store_model.specs.Effects.{EffectSite, Mode, Normal, Unwinding, Stuck, Out, Go, Unwind, Halts}
use Rattle.store_model.specs.Values.Datum.{Datum, Data, Gone, Number, Truth, UnitValue, Aggregate, Box, Address, no_part, a_part}
use Rattle.listing_runs.proofs.Told.{Good, told_then, Fine, FineAnswer, Within, BodiesExist, TellsTruly, halted, goes, reached_fine}

module _ (bodies : ℕ) (setting : Setting) (exist : BodiesExist bodies setting.items) (run : Bodies)
    (truly : TellsTruly bodies run) where
  abbrev IsFine : Out State → Type 0
  IsFine o = Fine bodies o

  abbrev IsGood : State → Type 0
  IsGood w = Good bodies w

  body_out_fine : (mode : Mode) (answer : Answer) → FineAnswer bodies answer → IsFine (drop_body_out mode answer)
  body_out_fine mode (Returns value w) h = record { fine = h.fine }
  body_out_fine Normal (Unwinds w) h = record { fine = h.fine }
  body_out_fine Unwinding (Unwinds w) h = record { fine = h.fine }
  body_out_fine mode (HaltsIn halt w) h = record { fine = h.fine }

  unwinding_fine : (o : Out State) → IsFine o → IsFine (unwinding_out o)
  unwinding_fine (Go w) h = record { fine = h.fine }
  unwinding_fine (Unwind w) h = record { fine = h.fine }
  unwinding_fine (Halts halt w) h = record { fine = h.fine }

  in_mode_fine : (mode : Mode) (o : Out State) (next : Mode → State → Out State) → IsFine o →
      ((mode : Mode) (v : State) → IsGood v → IsFine (next mode v)) → IsFine (in_mode mode o next)
  in_mode_fine mode (Go w) next h e = e mode w h.fine
  in_mode_fine mode (Unwind w) next h e = unwinding_fine (next Unwinding w) (e Unwinding w h.fine)
  in_mode_fine mode (Halts halt w) next h e = record { fine = h.fine }

  same_if_fine : (b : Bool) (next : State → Out State) (w : State) → IsGood w → IsFine (next w) →
      IsFine (same_if b next w)
  same_if_fine true next w l h = h
  same_if_fine false next w l h = halted bodies Stuck w l

  still_fine : (dynamic : DynamicType) (o : Option Located) (next : Located → State → Out State) (w : State) →
      IsGood w →
      ((s : Located) → IsFine (next s w)) → IsFine (if_still_typed setting.items dynamic o next w)
  still_fine dynamic None next w l e = halted bodies Stuck w l
  still_fine dynamic (Some s) next w l e = same_if_fine _ (next s) w l (e s)

  gone_fine : (s : Located) (w : State) → IsGood w → IsFine (gone_at setting run s w)
  gone_fine s w l =
      still_fine s.dynamic _ (λ s w. Go (stored_at s.address Gone w)) w l
      (λ s. goes bodies (stored_at s.address Gone w) l)

  freed_there_fine : (value : Datum) (s : Located) (w : State) → IsGood w → IsFine (freed_there setting run value s w)
  freed_there_fine (Box serial impl_no inside) s w l =
      record { fine = told_then bodies (Event.Freed serial) tt (stored_at s.address Gone w) l }
  freed_there_fine _ s w l = halted bodies Stuck w l

  freed_at_fine : (s : Located) (w : State) → IsGood w → IsFine (freed_at setting run s w)
  freed_at_fine s w l =
      still_fine s.dynamic _ (λ s w. freed_there setting run s.value s w) w l (λ s. freed_there_fine s.value s w l)

  -- the `Drop` body of a type exists
  abbrev PairWithin : Option (ℕ × ℕ) → Type 0
  PairWithin None = ⊤
  PairWithin (Some of) = of.1 < bodies

  with_within : (n : ℕ) (o : Option ℕ) → Within bodies o → PairWithin (with_drop_body n o)
  with_within n None h = tt
  with_within n (Some body) h = h

  impl_within : (o : Option Ty) → PairWithin (drop_impl setting.items o)
  impl_within (Some (Ty.Adt n)) =
      with_within n (option_map_or (λ adt. adt.drop_body) (slice_get setting.items.adts n) None) (exist.drops n)
  impl_within _ = tt

  module _ (again : Stage → Located → Mode → State → Out State)
      (again_fine : (stage : Stage) (s : Located) (mode : Mode) (w : State) → IsGood w → IsFine (again stage s mode w))
      (ticks : ℕ) where
    own_within : (stage : Stage) (o : Option (ℕ × ℕ)) → PairWithin o →
        PairWithin (own_body setting run again ticks stage o)
    own_within Begins o h = h
    own_within HasRun o h = tt

    read_fine : (b : Bool) (drop : Located → Mode → State → Out State) (s : Located) (mode : Mode) (w : State) →
        IsGood w → IsFine (drop s mode w) → IsFine (as_read setting run again ticks b drop s mode w)
    read_fine true drop s mode w l h = h
    read_fine false drop s mode w l h = again_fine Begins s mode w l

    part_fine : (o : Option Located) (drop : Located → Mode → State → Out State) (mode : Mode) (w : State) → IsGood w →
        ((s : Located) → IsFine (drop s mode w)) → IsFine (if_part setting run again ticks o drop mode w)
    part_fine None drop mode w l e = halted bodies Stuck w l
    part_fine (Some s) drop mode w l e = read_fine _ drop s mode w l (e s)

    with_body_fine : (o : Option (ℕ × ℕ)) → PairWithin o → (serial : Option ℕ) (s : Located)
        (parts : Mode → State → Out State) (mode : Mode) (w : State) → IsGood w →
        ((mode : Mode) (v : State) → IsGood v → IsFine (parts mode v)) →
        IsFine (with_body setting run again ticks o serial s parts mode w)
    with_body_fine None h serial s parts mode w l e = e mode w l
    with_body_fine (Some of) h serial s parts mode w l e =
        in_mode_fine mode _ (again HasRun s)
        (body_out_fine mode _
        (truly (Event.Dropped of.0 (serial_or_none serial)) of.1 (Address s.address ∷ []) w tt h l))
        (again_fine HasRun s)

    mutual
      value_fine : (value : Datum) (stage : Stage) (s : Located) (mode : Mode) (w : State) → IsGood w →
          IsFine (drop_value setting run again ticks value stage s mode w)
      value_fine Gone stage s mode w l = goes bodies w l
      value_fine (Number number) stage s mode w l = gone_fine s w l
      value_fine (Truth truth) stage s mode w l = gone_fine s w l
      value_fine UnitValue stage s mode w l = gone_fine s w l
      value_fine (Address address) stage s mode w l = gone_fine s w l
      value_fine (Aggregate variant serial parts) stage s mode w l =
          with_body_fine (own_body setting run again ticks stage
          (drop_impl setting.items (concrete_ty setting.items s.dynamic)))
          (own_within stage (drop_impl setting.items (concrete_ty setting.items s.dynamic))
          (impl_within (concrete_ty setting.items s.dynamic))) serial s _ mode w l
          (λ mode v k. in_mode_fine mode (drop_parts setting run again ticks parts zero s mode v) _
          (parts_fine parts zero s mode v k) (λ mode u j. gone_fine s u j))
      value_fine (Box serial impl_no inside) stage s mode w l =
          in_mode_fine mode _ _
          (part_fine (into setting.items Inside s) (drop_value setting run again ticks inside Begins) mode w l
          (λ s. value_fine inside Begins s mode w l)) (λ mode u j. freed_at_fine s u j)

      parts_fine : (parts : Data) (n : ℕ) (s : Located) (mode : Mode) (w : State) → IsGood w →
          IsFine (drop_parts setting run again ticks parts n s mode w)
      parts_fine no_part n s mode w l = goes bodies w l
      parts_fine (a_part first rest) n s mode w l =
          in_mode_fine mode _ _
          (part_fine (into setting.items (Part n) s) (drop_value setting run again ticks first Begins) mode w l
          (λ s. value_fine first Begins s mode w l)) (λ mode u j. parts_fine rest (suc n) s mode u j)

  drop_at_fine : (n : ℕ) (stage : Stage) (s : Located) (mode : Mode) (w : State) → IsGood w →
      IsFine (drop_at setting run n stage s mode w)
  drop_at_fine zero stage s mode w l = record { fine = l }
  drop_at_fine (suc n) stage s mode w l =
      still_fine s.dynamic _ (dropped_there setting run (drop_at setting run n) stage mode) w l
      (λ s. value_fine (drop_at setting run n) (drop_at_fine n) w.ticks s.value stage s mode w l)

  dropped_fine : (fuel : ℕ) (b : Bool) (mode : Mode) (s : Located) (w : State) → IsGood w →
      IsFine (dropped_if setting run fuel b mode s w)
  dropped_fine fuel true mode s w l = drop_at_fine fuel Begins s mode w l
  dropped_fine fuel false mode s w l = halted bodies Stuck w l

  nothing_fine : (b : Bool) (w : State) → IsGood w → IsFine (nothing_if setting run b w)
  nothing_fine true w l = halted bodies Stuck w l
  nothing_fine false w l = goes bodies w l

  pub drop_fine : (fuel : ℕ) (mode : Mode) (site : EffectSite) (w : State) → IsGood w →
      IsFine (drop setting run fuel mode site w)
  drop_fine fuel mode site w l =
      reached_fine bodies (reach setting w site.place) _ (nothing_if setting run setting.strict w) (Halts Stuck w)
      (λ s. dropped_fine fuel _ mode s w l) (nothing_fine setting.strict w l) (halted bodies Stuck w l)
