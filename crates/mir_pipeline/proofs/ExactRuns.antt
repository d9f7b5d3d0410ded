-- Where no run of a program is stuck, a raw graph that runs as it does up to the place where both are stuck runs exactly as
-- it does; and so does by strict steps a graph that runs as such a raw one.
use Rattle.std.proofs.Common.{◌≡◌, ◌∙◌, ℕ, refl, sym, ap, subst}
use Rattle.mir_base.specs.declared.trace.End.{End}
use Rattle.mir_base.specs.Trace.{Trace}
use Rattle.cfg_build.specs.Claims.{RunsAsItsSource}
use Rattle.cfg_graph.specs.declared.graph.Graph.{Graph}
use Rattle.cfg_meaning.specs.Programs.{raw_graph_run}
use Rattle.drop_graphs.specs.Runs.{RunsAsRaw}
use Rattle.lower_rules.specs.CodeLaws.{end_without_place, outcome_without_place}
use Rattle.src_meaning.specs.Programs.{source}
use Rattle.typed_tree.specs.Tree.{ProgramTree}
use Rattle.mir_pipeline.specs.Runs.{IsNeverStuck, RunsExactlyAsItsSource, RunsStrictlyAsItsSource}

abbrev NotStuck : End → Type 0
NotStuck end = (body block : ℕ) → end ≡ End.Stuck body block → ⊥

-- ends are the same where they are with the place aside and the second is not stuck
ends_same : (a b : End) → end_without_place a ≡ end_without_place b → NotStuck b → a ≡ b
ends_same a (End.Stuck body block) e n = absurd (n body block refl)
ends_same End.Returned End.Returned e n = refl
ends_same End.Panicked End.Panicked e n = refl
ends_same End.Aborted End.Aborted e n = refl
ends_same End.OutOfTicks End.OutOfTicks e n = refl
ends_same End.Returned End.Panicked e n = absurd (cc)
ends_same End.Returned End.Aborted e n = absurd (cc)
ends_same End.Returned End.OutOfTicks e n = absurd (cc)
ends_same End.Panicked End.Returned e n = absurd (cc)
ends_same End.Panicked End.Aborted e n = absurd (cc)
ends_same End.Panicked End.OutOfTicks e n = absurd (cc)
ends_same End.Aborted End.Returned e n = absurd (cc)
ends_same End.Aborted End.Panicked e n = absurd (cc)
ends_same End.Aborted End.OutOfTicks e n = absurd (cc)
ends_same End.OutOfTicks End.Returned e n = absurd (cc)
ends_same End.OutOfTicks End.Panicked e n = absurd (cc)
ends_same End.OutOfTicks End.Aborted e n = absurd (cc)
ends_same (End.Stuck x y) End.Returned e n = absurd (cc)
ends_same (End.Stuck x y) End.Panicked e n = absurd (cc)
ends_same (End.Stuck x y) End.Aborted e n = absurd (cc)
ends_same (End.Stuck x y) End.OutOfTicks e n = absurd (cc)

outcomes_same : (a b : Trace × End) → outcome_without_place a ≡ outcome_without_place b → NotStuck b.1 → a ≡ b
outcomes_same a b e n =
    let ends = ends_same a.1 b.1 (ap (λ (o : Trace × End). o.1) e) n in
    let traces = ap (λ (o : Trace × End). o.0) e in
    λ i. (traces i, ends i)

pub runs_exactly : (program : ProgramTree) (graph : Graph) → RunsAsItsSource program graph → IsNeverStuck program →
    RunsExactlyAsItsSource program graph
runs_exactly program graph same never_stuck asked ticks =
    outcomes_same (raw_graph_run graph asked ticks) (source program asked ticks) (same asked ticks) (never_stuck asked ticks)

pub runs_strictly : (program : ProgramTree) (raw graph : Graph) → RunsExactlyAsItsSource program raw → IsNeverStuck program →
    RunsAsRaw raw graph → RunsStrictlyAsItsSource program graph
runs_strictly program raw graph exact never_stuck runs asked ticks =
    runs asked ticks (subst (λ (o : Trace × End). NotStuck o.1) (sym (exact asked ticks)) (never_stuck asked ticks))
    ∙ exact asked ticks
