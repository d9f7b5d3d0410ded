-- The induction on ticks by which each body keeps to what is asked of it, whatever that is: from one activation at a
-- time, as the second run has it, given what is owed of the effects and of that run.
use Rattle.std.proofs.Common.{◌≡◌, ℕ, zero, suc, Bool, false, List, [], Option, Some, None, slice_get, refl}
use Rattle.std.specs.Option.{option_map_or}
use Rattle.mir_base.specs.declared.trace.Event.{Event}
use Rattle.store_model.specs.Concrete.Effects.{concrete_effects}
use Rattle.store_model.specs.Values.Datum.{Datum}
use Rattle.store_model.specs.Effects.{Halt, OutOfTicks, Stuck, Out, Halts, Effects}
use Rattle.store_model.specs.Concrete.Bodies.{run_body, ended, after_tick, cells_of_youngest}
use Rattle.store_model.specs.Concrete.State.{cell, State, with_event, spend, with_activation, without_activation, Answer, Returns, Unwinds, HaltsIn, Bodies}
use Rattle.store_model.proofs.Effects.Following.{FollowsEffects}
use Rattle.src_meaning.specs.Locals.Effects.{at_locals}
use Rattle.src_meaning.specs.Locals.OfBody.{local_of}
use Rattle.src_meaning.specs.Programs.{activation, setting_of, code_of, arguments_from}
use Rattle.typed_tree.specs.Tree.{BodyTree, ProgramTree}
use Rattle.soundness_values.proofs.NeverStuck.{MayEnd, Shows, Ends, goes, panics, ends, stops, body_ends}
use Rattle.soundness_values.proofs.Feeding.{fed}

-- what is asked of a body that is entered by an event with its arguments in a state, and what is then found
pub record Contract : Type 1 where
  pub pre : Event → ℕ → List Datum → State → Type 0
  pub post : Event → ℕ → List Datum → State → Answer → Type 0

abbrev pub Keep : Contract → Bodies → Type 0
Keep contract run = (event : Event) (body : ℕ) (args : List Datum) (w : State) → contract.pre event body args w →
    contract.post event body args w (run event body args w)

-- a tick is spent, the event is told, and the body's activation is there
abbrev pub begun : Event → ℕ → List Datum → ℕ → State → State
begun event body args ticks w = with_activation (record { body = body; cells = arguments_from 1 args })
    (with_event event (record w { ticks = ticks }))

-- what is owed: the relation of an activation to what is known of it, from the state in which its body was called
pub record Owed (program : ProgramTree) (contract : Contract) (K V : Type 0) (feed : List Bool → K → V)
    (lost : V → Bool) (choices : V → List Bool) : Type 1 where
  pub all_taken : (c : K) → choices (feed [] c) ≡ []
  pub never_lost : (list : List Bool) (c : K) → lost (feed list c) ≡ false
  pub related : Event → ℕ → List Datum → State → State → K → Type 0
  pub lapses : Event → ℕ → List Datum → State → Halt → State → Type 0
  -- the second run, and with what it begins
  pub checks : (n : ℕ) (b : BodyTree) → slice_get program.bodies n ≡ Some b → Effects V
  pub starting : BodyTree → K
  pub returned : BodyTree → V → Type 0
  pub panicked : BodyTree → V → Type 0
  pub there : (event : Event) (n : ℕ) (args : List Datum) (w : State) → contract.pre event n args w →
      (b : BodyTree) × (slice_get program.bodies n ≡ Some b)
  pub starts : (event : Event) (n ticks : ℕ) (b : BodyTree) (args : List Datum) (w : State) →
      slice_get program.bodies n ≡ Some b → w.ticks ≡ suc ticks → contract.pre event n args w →
      related event n args w (begun event n args ticks w) (starting b)
  pub follow : (run : Bodies) → Keep contract run → (fuel : ℕ) (event : Event) (n : ℕ) (b : BodyTree)
      (args : List Datum) (w : State) (e : slice_get program.bodies n ≡ Some b) → contract.pre event n args w →
      FollowsEffects (fed K feed (related event n args w) (lapses event n args w))
      (concrete_effects (setting_of program) run fuel) (checks n b e)
  -- what is shown of the second run alone: one pass over the forms, from the rules of typing and of borrows
  pub shows : (n fuel : ℕ) (b : BodyTree) (e : slice_get program.bodies n ≡ Some b) (list : List Bool) →
      Shows lost choices (returned b) (panicked b)
      (activation program.items (at_locals (local_of program.items b) (checks n b e)) fuel b
      (feed list (starting b)))
  -- how an activation ends
  pub returns : (event : Event) (n : ℕ) (b : BodyTree) (args : List Datum) (w v : State) (c : K) →
      slice_get program.bodies n ≡ Some b → related event n args w v c → returned b (feed [] c) →
      contract.post event n args w
      (Returns (cell 0 (cells_of_youngest v.activations)) (with_event (Event.Return n) (without_activation v)))
  pub panics_out : (event : Event) (n : ℕ) (b : BodyTree) (args : List Datum) (w v : State) (c : K) →
      slice_get program.bodies n ≡ Some b → related event n args w v c → panicked b (feed [] c) →
      contract.post event n args w (Unwinds (with_event (Event.Unwind n) (without_activation v)))
  pub stops_in : (event : Event) (n : ℕ) (b : BodyTree) (args : List Datum) (w v : State) (c : K) (halt : Halt) →
      MayEnd halt → slice_get program.bodies n ≡ Some b → related event n args w v c → contract.post event n args w
      (HaltsIn halt v)
  pub lapse : (event : Event) (n : ℕ) (args : List Datum) (w v : State) (halt : Halt) →
      lapses event n args w halt v →
      contract.post event n args w (HaltsIn halt v)
  pub no_ticks : (event : Event) (n : ℕ) (args : List Datum) (w : State) → contract.pre event n args w →
      contract.post event n args w (HaltsIn OutOfTicks w)

module _ (program : ProgramTree) (contract : Contract) (K V : Type 0) (feed : List Bool → K → V) (lost : V → Bool)
    (choices : V → List Bool) (owed : Owed program contract K V feed lost choices) where
  abbrev bodies : ℕ → Bodies
  bodies n = run_body (setting_of program) (code_of program) n

  pub bodies_keep : (n : ℕ) → Keep contract (bodies n)
  bodies_keep zero event body args w k = owed.no_ticks event body args w k
  bodies_keep (suc n) event body args w k = by_ticks (bodies_keep n) w.ticks refl
    where
      keeps : Keep contract (bodies n) → (b : BodyTree) → slice_get program.bodies body ≡ Some b → (t : ℕ) →
          w.ticks ≡ suc t →
          contract.post event body args w
          (ended body 0 (activation program.items
          (at_locals (local_of program.items b) (concrete_effects (setting_of program) (bodies n) (suc n)))
          (suc n) b (begun event body args t w)))
      keeps hyp b there t e =
          by_end _ (body_ends K feed (owed.related event body args w) (owed.lapses event body args w) lost
          owed.never_lost choices owed.all_taken (owed.returned b) (owed.panicked b) program.items
          (local_of program.items b)
          (concrete_effects (setting_of program) (bodies n) (suc n)) (owed.checks body b there)
          (owed.follow (bodies n) hyp (suc n) event body b args w there k) (suc n) b
          (begun event body args t w) (owed.starting b) (owed.starts event body t b args w there e k)
          (owed.shows body (suc n) b there))
        where
          by_end : (o : Out State) → Ends K (owed.related event body args w) (owed.lapses event body args w)
              (λ c. owed.returned b (feed [] c)) (λ c. owed.panicked b (feed [] c)) o →
              contract.post event body args w (ended body 0 o)
          by_end o (goes u c r s) = owed.returns event body b args w u c there r s
          by_end o (panics u c r s) = owed.panics_out event body b args w u c there r s
          by_end o (ends halt u h) = owed.lapse event body args w u halt h
          by_end o (stops halt u c h r) = owed.stops_in event body b args w u c halt h there r

      by_body : Keep contract (bodies n) → (o : Option BodyTree) → slice_get program.bodies body ≡ o → (t : ℕ) →
          w.ticks ≡ suc t →
          contract.post event body args w
          (ended body 0 (option_map_or
          (λ b. activation program.items
          (at_locals (local_of program.items b) (concrete_effects (setting_of program) (bodies n) (suc n)))
          (suc n) b (begun event body args t w)) o
          (Halts Stuck (begun event body args t w))))
      by_body hyp (Some b) there t e = keeps hyp b there t e
      by_body hyp None there t e = absurd (let b = owed.there event body args w k in let never : ⊥ = cc in never)

      by_ticks : Keep contract (bodies n) → (t : ℕ) → w.ticks ≡ t →
          contract.post event body args w
          (after_tick (spend t w)
          (λ v. ended body 0 (option_map_or
          (λ b. activation program.items
          (at_locals (local_of program.items b) (concrete_effects (setting_of program) (bodies n) (suc n)))
          (suc n) b (with_activation (record { body = body; cells = arguments_from 1 args }) (with_event event v)))
          (slice_get program.bodies body)
          (Halts Stuck (with_activation (record { body = body; cells = arguments_from 1 args })
          (with_event event v))))))
      by_ticks hyp zero e = owed.no_ticks event body args w k
      by_ticks hyp (suc t) e = by_body hyp (slice_get program.bodies body) refl t e
