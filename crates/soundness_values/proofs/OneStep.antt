-- One step of the induction on ticks: a body keeps to its contract where the bodies that answer its calls do, whatever
-- else these are.
use Rattle.std.proofs.Common.{◌≡◌, ℕ, zero, suc, Bool, List, [], Option, Some, None, refl}
use Rattle.std.specs.Prelude.{slice_get}
use Rattle.std.specs.Option.{option_map_or}
use Rattle.mir_base.specs.declared.trace.Event.{Event}
use Rattle.store_model.specs.Concrete.Effects.{concrete_effects}
use Rattle.store_model.specs.Values.Datum.{Datum}
use Rattle.store_model.specs.Effects.{Stuck, Out, Halts}
use Rattle.store_model.specs.Concrete.Bodies.{ended, after_tick}
use Rattle.store_model.specs.Concrete.State.{State, Bodies, with_event, spend, with_activation}
use Rattle.src_meaning.specs.Locals.Effects.{at_locals}
use Rattle.src_meaning.specs.Locals.OfBody.{local_of}
use Rattle.src_meaning.specs.Programs.{activation, setting_of, code_of, arguments_from}
use Rattle.typed_tree.specs.Tree.{BodyTree, ProgramTree}
use Rattle.soundness_values.specs.RunCalls.{run_with}
use Rattle.soundness_values.proofs.Bodies.{Contract, Keep, Owed, begun}
use Rattle.soundness_values.proofs.NeverStuck.{Ends, goes, panics, ends, stops, body_ends}

module _ (program : ProgramTree) (contract : Contract) (K V : Type 0) (feed : List Bool → K → V) (lost : V → Bool)
    (choices : V → List Bool) (owed : Owed program contract K V feed lost choices) (others : Bodies)
    (hyp : Keep contract others) (fuel : ℕ) where
  module _ (event : Event) (body : ℕ) (args : List Datum) (w : State) (k : contract.pre event body args w) where
    of_body : (b : BodyTree) → slice_get program.bodies body ≡ Some b → (t : ℕ) → w.ticks ≡ suc t →
        contract.post event body args w
        (ended body 0 (activation program.items
        (at_locals (local_of program.items b) (concrete_effects (setting_of program) others fuel))
        fuel b (begun event body args t w)))
    of_body b there t e =
        by_end _ (body_ends K feed (owed.related event body args w) (owed.lapses event body args w) lost
        owed.never_lost choices owed.all_taken (owed.returned b) (owed.panicked b) program.items
        (local_of program.items b)
        (concrete_effects (setting_of program) others fuel) (owed.checks body b there)
        (owed.follow others hyp fuel event body b args w there k) fuel b
        (begun event body args t w) (owed.starting b) (owed.starts event body t b args w there e k)
        (owed.shows body fuel b there))
      where
        by_end : (o : Out State) → Ends K (owed.related event body args w) (owed.lapses event body args w)
            (λ c. owed.returned b (feed [] c)) (λ c. owed.panicked b (feed [] c)) o →
            contract.post event body args w (ended body 0 o)
        by_end o (goes u c r s) = owed.returns event body b args w u c there r s
        by_end o (panics u c r s) = owed.panics_out event body b args w u c there r s
        by_end o (ends halt u h) = owed.lapse event body args w u halt h
        by_end o (stops halt u c h r) = owed.stops_in event body b args w u c halt h there r

    of_number : (o : Option BodyTree) → slice_get program.bodies body ≡ o → (t : ℕ) → w.ticks ≡ suc t →
        contract.post event body args w
        (ended body 0 (option_map_or
        (λ b. activation program.items
        (at_locals (local_of program.items b) (concrete_effects (setting_of program) others fuel))
        fuel b (begun event body args t w)) o
        (Halts Stuck (begun event body args t w))))
    of_number (Some b) there t e = of_body b there t e
    of_number None there t e =
        absurd (let b = owed.there event body args w k in let never : ⊥ = cc in never)

    by_ticks : (t : ℕ) → w.ticks ≡ t →
        contract.post event body args w
        (after_tick (spend t w)
        (λ v. ended body 0 (option_map_or
        (λ b. activation program.items
        (at_locals (local_of program.items b) (concrete_effects (setting_of program) others fuel))
        fuel b (with_activation (record { body = body; cells = arguments_from 1 args }) (with_event event v)))
        (slice_get program.bodies body)
        (Halts Stuck (with_activation (record { body = body; cells = arguments_from 1 args })
        (with_event event v))))))
    by_ticks zero e = owed.no_ticks event body args w k
    by_ticks (suc t) e = of_number (slice_get program.bodies body) refl t e

  pub step_keeps : Keep contract (run_with (setting_of program) (code_of program) others fuel)
  step_keeps event body args w k = by_ticks event body args w k w.ticks refl
