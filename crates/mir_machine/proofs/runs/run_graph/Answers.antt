use Rattle.std.proofs.Common.{◌≡◌, [], ◌++◌, Some, refl, sym}
use Rattle.std.proofs.lemmas.Result.{IfOk-weaker, IfErr-weaker, on_ok_weaker}
use Rattle.cfg_graph.proofs.Ranked.{well_formed-ranked}
use Rattle.mir_edge.specs.Told.{WhereTold}
use Rattle.mir_machine.proofs.RunsTold.{at_start, run_is_told}
use Rattle.mir_machine.specs.Runs.{run_text}
use Rattle.mir_machine.specs.Errors.{TookPart}
use Rattle.machine_steps.specs.declared.world.World.{World}
use Rattle.machine_steps.specs.Worlds.{state_of}
use Rattle.store_model.specs.Concrete.State.{beginning}
use Rattle.mir_machine.proofs.runs.run_graph.Goals as goal

pub returns-clause-end : goal.returns-clause-end
returns-clause-end g c =
    let graph = c.args.graph.now in
    let world : World = record { graph = c.args.graph; strict = c.args.strict; asks = c.args.asks; ticks = c.args.ticks; serial = 1; store = c.new.result; told = c.new-2.result } in
    let is : state_of [] world ≡ beginning c.args.asks.now c.args.ticks = at_start world c.new.ensures c.new-2.ensures refl in
    IfOk-weaker c.turns-end.result _ _
    (λ end tells. sym (run_is_told c.args.strict graph c.args.asks.now c.args.ticks world is refl (λ n body there. well_formed-ranked graph n body c.requires there) (λ run. run.1 ≡ end) tells)) c.turns-end.ensures.end

pub returns-clause-text : goal.returns-clause-text
returns-clause-text g c =
    let graph = c.args.graph.now in
    let world : World = record { graph = c.args.graph; strict = c.args.strict; asks = c.args.asks; ticks = c.args.ticks; serial = 1; store = c.new.result; told = c.new-2.result } in
    let is : state_of [] world ≡ beginning c.args.asks.now c.args.ticks = at_start world c.new.ensures c.new-2.ensures refl in
    on_ok_weaker c.turns-end.result
    (run_is_told c.args.strict graph c.args.asks.now c.args.ticks world is refl (λ n body there. well_formed-ranked graph n body c.requires there)
    (λ run. WhereTold (g.K.Sink.taken c.args.out.now) (λ taken. g.K.Sink.taken c.turns-end.new.out ≡ Some (taken ++ run_text graph run)))) c.turns-end.ensures.text

pub returns-clause-part : goal.returns-clause-part
returns-clause-part g c =
    let graph = c.args.graph.now in
    let world : World = record { graph = c.args.graph; strict = c.args.strict; asks = c.args.asks; ticks = c.args.ticks; serial = 1; store = c.new.result; told = c.new-2.result } in
    let is : state_of [] world ≡ beginning c.args.asks.now c.args.ticks = at_start world c.new.ensures c.new-2.ensures refl in
    IfErr-weaker c.turns-end.result _ _
    (λ error tells. run_is_told c.args.strict graph c.args.asks.now c.args.ticks world is refl (λ n body there. well_formed-ranked graph n body c.requires there)
    (λ run. TookPart (run_text graph run) (g.K.Sink.taken c.args.out.now) (g.K.Sink.taken c.turns-end.new.out) error) tells) c.turns-end.ensures.part
