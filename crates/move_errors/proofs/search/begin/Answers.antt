use Rattle.std.proofs.Common.{List, [], ◌∷◌, None, ap, ◌∙◌, refl, arith}
use Rattle.init_flow.specs.Carried.{Bits}
use Rattle.move_paths.proofs.Naming.{on_ok}
use Rattle.move_errors.specs.Runs.{Problem, problem}
use Rattle.move_errors.specs.declared.point.Stage.{Stage}
use Rattle.move_errors.specs.declared.search.Waiting.{Waiting}
use Rattle.move_errors.proofs.Owning.{owns}
use Rattle.move_errors.proofs.Turning.{starts}
use Rattle.move_errors.proofs.search.begin.Goals as goal

pub returns : goal.returns
returns c =
    let w = c.args.watch.now in
    let f : Problem = problem w.items.now w.body.now w.forest.paths in
    let e = c.wait_first.ensures in
    let item : Waiting = record { visit = record { at = record { block = 0; stage = Stage.Entry }; from = None; choice = None }; row = c.args.first } in
    on_ok (λ queue. starts f (owns w.items.now w.body.now w.forest.paths) c.wait_first.new.self item (e.seen ∙ c.requires.seen) (e.reached ∙ c.requires.reached) (e.visits ∙ c.requires.visits)
    (queue ∙ ap (λ (z : List Waiting). item ∷ z) c.requires.queue) refl
    (ap (λ (r : Bits). record { path = []; given = []; at = record { block = 0; stage = Stage.Entry }; row = r }) c.requires.row)
    (let some = c.requires.watched.some_block in omega (some, arith))) c.wait_first.result e.queue
