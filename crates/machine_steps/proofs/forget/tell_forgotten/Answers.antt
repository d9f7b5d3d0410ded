use Rattle.std.proofs.Common.{[], map, ◌++◌, ap, sym, ◌∙◌}
use Rattle.machine_steps.specs.Forgetting.{lines_before}
use Rattle.machine_steps.specs.Worlds.{event_of}
use Rattle.machine_steps.proofs.ForgettingDone.{lines_pushed}
use Rattle.machine_steps.proofs.forget.tell_forgotten.Goals as goal

pub loop-turn-preserved : goal.loop-turn-preserved
loop-turn-preserved c =
    let items = c.args.items.now in
    c.in_ok-go_over.ensures []
    ∙ ap (λ l. map event_of c.loop-turn.told ++ l) (sym (ap (λ w. lines_before items w []) c.in-Some.ensures ∙ lines_pushed items c.pop.new.self c.in-Some.next []))
    ∙ c.loop-turn.invariant
