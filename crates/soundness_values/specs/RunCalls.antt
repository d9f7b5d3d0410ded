-- The calls inside a run: a body whose calls are answered by whatever bodies there are. Each call inside a run meets the
-- law of calls: so the run of a body keeps to the law whatever is answered to calls that the law does not allow.
use Rattle.std.specs.Prelude.{◌≡◌, ℕ, List, Some, slice_get}
use Rattle.mir_base.specs.declared.trace.Event.{Event}
use Rattle.mir_ty.specs.declared.def.Sig.{Sig}
use Rattle.store_model.specs.Concrete.Bodies.{CodeOfBodies, after_tick, ended}
use Rattle.store_model.specs.Concrete.Effects.{concrete_effects}
use Rattle.store_model.specs.Concrete.Location.{Setting}
use Rattle.store_model.specs.Concrete.State.{State, Bodies, tick, with_event, with_activation}
use Rattle.store_model.specs.Values.Datum.{Datum}
use Rattle.src_meaning.specs.Programs.{setting_of, code_of}
use Rattle.typed_tree.specs.Tree.{ProgramTree}
use Rattle.soundness_values.specs.Laws.{IsSound, references, MayBePassed, LeftBy, AreOf}

-- a body is entered, and other bodies answer its calls: so runs each body, with those of less fuel
abbrev pub run_with : Setting → CodeOfBodies → Bodies → ℕ → Bodies
run_with setting code others fuel event body args w =
    after_tick (tick w) (λ w. ended body (code.answer body)
    (code.within (concrete_effects setting others fuel) fuel body
    (with_activation (record { body = body; cells = code.arguments body args }) (with_event event w))))

-- These bodies answer by the law each call that the law allows. What they answer to another is not said: it may be that
-- the run is stuck.
abbrev pub ObeyTheLaw : ProgramTree → Bodies → Type 0
ObeyTheLaw p run =
    (event : Event) (n : ℕ) (sig : Sig) (values : List Datum) (w : State) → slice_get p.items.bodies n ≡ Some sig →
    AreOf p.items sig.params values → MayBePassed (setting_of p) w (references p.items sig.params values) →
    LeftBy (setting_of p) w (references p.items sig.params values) sig.result (run event n values w)

-- Each call inside a run of a sound program meets the law of calls: a body that is called as the law allows obeys it,
-- whatever is answered to calls inside it that the law does not allow; so there are none.
abbrev pub CallsOfRuns : Type 0
CallsOfRuns = (p : ProgramTree) (others : Bodies) (fuel : ℕ) → IsSound p → ObeyTheLaw p others →
    ObeyTheLaw p (run_with (setting_of p) (code_of p) others fuel)
