use Rattle.std.proofs.Common.{◌≡◌, ℕ, drop, nat_lt}
use Rattle.std.specs.List.{list_all}
use Rattle.cfg_graph.specs.Places.{index_locals}
use Rattle.cfg_graph.proofs.line_places.indices_exist.Given as goal

abbrev pub invariant-loop-step : goal.invariant-loop-step
invariant-loop-step l = list_all (λ (local : ℕ). nat_lt local l.count) (index_locals l.steps) ≡ list_all (λ (local : ℕ). nat_lt local l.count) (index_locals (drop l.step-index l.steps))
