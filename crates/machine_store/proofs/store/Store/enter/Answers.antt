use Rattle.std.proofs.Common.{[], ◌∷◌, ap, ◌∙◌}
use Rattle.std.proofs.lemmas.Result.{on_ok_weaker}
use Rattle.machine_store.specs.Activations.{on_top_of}
use Rattle.machine_store.proofs.Activations.{on_top_pushed}
use Rattle.machine_store.proofs.store.Store.enter.Goals as goal

pub returns : goal.returns
returns c =
    on_ok_weaker c.push.result
    (λ e. ap (λ frames. on_top_of frames []) e ∙ on_top_pushed c.args.self.now.frames c.in_ok-frame_with.field-0 []
    ∙ ap (λ a. a ∷ on_top_of c.args.self.now.frames []) c.in_ok-frame_with.ensures)
    c.push.ensures.pushed
