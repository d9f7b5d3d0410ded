use Rattle.std.proofs.Common.{◌≡◌, [], refl, sym, ◌∙◌, ap}
use Rattle.std.proofs.lemmas.Result.{IfOk-weaker}
use Rattle.cfg_graph.proofs.Ranked.{well_formed-ranked}
use Rattle.mir_machine.proofs.RunsTold.{at_start, run_is_told}
use Rattle.machine_steps.specs.declared.world.World.{World}
use Rattle.machine_steps.specs.Worlds.{state_of}
use Rattle.store_model.specs.Concrete.State.{beginning}
use Rattle.trace_summary.specs.Summary.{counts_of}
use Rattle.std.proofs.Common.{true}
use Rattle.mir_machine.proofs.counted.run_counted.Goals as goal

pub returns-clause-end : goal.returns-clause-end
returns-clause-end c =
    let graph = c.args.graph.now in
    let world : World = record { graph = c.args.graph; strict = true; asks = c.args.asks; ticks = c.args.ticks; serial = 1; store = c.new.result; told = c.new-2.result } in
    let is : state_of [] world ≡ beginning c.args.asks.now c.args.ticks = at_start world c.new.ensures c.new-2.ensures refl in
    IfOk-weaker c.turns_counted-ran.result _ _
    (λ ran tells. sym (run_is_told true graph c.args.asks.now c.args.ticks world is refl (λ n body there. well_formed-ranked graph n body c.requires.well_formed there) (λ run. (run.1 ≡ ran.0) × (ran.1 ≡ counts_of run.0)) tells).0) c.turns_counted-ran.ensures

pub returns-clause-counts : goal.returns-clause-counts
returns-clause-counts c =
    let graph = c.args.graph.now in
    let world : World = record { graph = c.args.graph; strict = true; asks = c.args.asks; ticks = c.args.ticks; serial = 1; store = c.new.result; told = c.new-2.result } in
    let is : state_of [] world ≡ beginning c.args.asks.now c.args.ticks = at_start world c.new.ensures c.new-2.ensures refl in
    IfOk-weaker c.turns_counted-ran.result _ _
    (λ ran tells. (run_is_told true graph c.args.asks.now c.args.ticks world is refl (λ n body there. well_formed-ranked graph n body c.requires.well_formed there) (λ run. (run.1 ≡ ran.0) × (ran.1 ≡ counts_of run.0)) tells).1) c.turns_counted-ran.ensures
