use Rattle.std.proofs.Common.{◌≡◌, [], map, ap, ◌∙◌}
use Rattle.std.proofs.lemmas.Result.{on_ok_weaker}
use Rattle.machine_steps.specs.Swept.{with_events}
use Rattle.mir_base.specs.Trace.{Trace}
use Rattle.machine_steps.specs.Worlds.{event_of, state_of}
use Rattle.store_model.specs.Concrete.State.{State}
use Rattle.machine_steps.proofs.visit.put_aside.Goals as goal

pub returns-clause-ticks : goal.returns-clause-ticks
returns-clause-ticks c =
    let after = c.tell_all.new.world in
    let went = c.take_away.new.world in
    on_ok_weaker _
    (λ (told : (before : Trace) → state_of before after ≡ with_events (map event_of c.args.told.now) (state_of before went)).
    ap (λ (w : State). w.ticks) (told []) ∙ c.in_ok-take_away.ensures.ticks)
    c.tell_all.ensures.told
