use Rattle.std.proofs.Common.{ap, sym, ◌∙◌, ◌++◌, ◌∷◌, [], map, append_assoc}
use Rattle.std.proofs.lemmas.List.{map-append}
use Rattle.std.proofs.lemmas.Result.{on_ok_weaker}
use Rattle.machine_steps.specs.Worlds.{state_of, event_of}
use Rattle.machine_steps.proofs.world.World.tell.Goals as goal

pub returns-clause-told : goal.returns-clause-told
returns-clause-told c =
    on_ok_weaker c.push.result
    (λ e before. ap (λ trace. record (state_of before c.args.self.now) { trace = trace })
    (ap (λ told. before ++ map event_of told) e ∙ ap (λ told. before ++ told) (map-append event_of c.args.self.now.told (c.args.event ∷ []))
    ∙ sym (append_assoc before (map event_of c.args.self.now.told) (event_of c.args.event ∷ []))))
    c.push.ensures.pushed
