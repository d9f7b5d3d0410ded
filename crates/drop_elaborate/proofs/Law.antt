-- The law of drop elaboration: from a ready raw graph, the elaborated one has its trace and its end, wherever the raw
-- run is not stuck.
use Rattle.std.proofs.Common.{◌≡◌, ℕ, suc, ℤ, false, List, Option, slice_get, ap, ◌∙◌, arith}
use Rattle.std.specs.Option.{option_and_then}
use Rattle.mir_base.specs.declared.trace.End.{End}
use Rattle.mir_ty.specs.AreItems.{AreItems}
use Rattle.mir_ty.specs.declared.ty.TyId.{TyId}
use Rattle.cfg_graph.specs.declared.graph.Body.{Body}
use Rattle.cfg_graph.specs.declared.graph.Graph.{Graph}
use Rattle.cfg_graph.specs.Ready.{IsReadyGraph}
use Rattle.cfg_meaning.proofs.Runs.{graph_keeps}
use Rattle.cfg_meaning.specs.Programs.{setting_of, code_of, graph_run, raw_graph_run}
use Rattle.store_model.proofs.Concrete.Effects.{body_spends}
use Rattle.store_model.specs.Concrete.State.{State, beginning}
use Rattle.store_model.specs.Values.Datum.{Datum}
use Rattle.drop_elaborate.proofs.Begins as begun
use Rattle.drop_elaborate.proofs.BodiesOwed as owed
use Rattle.drop_elaborate.proofs.BodiesOwed.{runs-same}
use Rattle.drop_elaborate.proofs.DropsDone.{drops-Done}
use Rattle.drop_elaborate.proofs.Entered.{Enters, may-enter}
use Rattle.drop_elaborate.proofs.ItemsOk.{callees-ok, drops-take-one}
use Rattle.drop_elaborate.proofs.MainBody.{main-enters}
use Rattle.drop_elaborate.proofs.RawRuns.{keeps-older, frames-of}
use Rattle.drop_elaborate.specs.Elaborated.{IsElaboration}
use Rattle.drop_elaborate.specs.Law.{ElaborationKeepsRuns}

module _ (raw graph : Graph) (are : AreItems raw.items) (ready : IsReadyGraph raw) (elab : IsElaboration raw graph)
  where
    abbrev local_ty : (body local : ℕ) → Option TyId
    local_ty = λ n local. option_and_then (λ (body : Body). slice_get body.locals local) (slice_get raw.bodies n)

    abbrev good : ℕ → List Datum → State → Type 0
    good = Enters raw.items local_ty

    with-items : (asked : List ℤ) (ticks : ℕ) →
        ((body block : ℕ) → (raw_graph_run raw asked ticks).1 ≡ End.Stuck body block → ⊥) →
        graph_run (record raw { bodies = graph.bodies }) asked ticks ≡ raw_graph_run raw asked ticks
    with-items asked ticks free =
        runs-same raw graph.bodies are ready elab.bodies (keeps-older raw are ready)
        (λ number body found n same depth args u w event t may deep e is.
        begun.begins raw ready.prepared.well_formed number body found
        (owed.locals_are raw graph.bodies are ready elab.bodies number body found) args u event t may e depth w deep is)
        (λ number body found n same outer depth addresses before given.
        let there = owed.there raw graph.bodies are ready elab.bodies number body found in
        drops-Done raw.items local_ty _ (owed.extends raw graph.bodies are ready elab.bodies) number depth _ outer body
        there.2.flagged there.2.done.flag_ty there.2.done.flag_is
        (owed.added raw graph.bodies are ready elab.bodies number body found) addresses before given
        (owed.locals_are raw graph.bodies are ready elab.bodies number body found)
        (owed.is_ready raw graph.bodies are ready elab.bodies number body found)
        (owed.bodies_are raw graph.bodies are ready elab.bodies number body found)
        (owed.never_back raw graph.bodies are ready elab.bodies number body found)
        (callees-ok raw ready.prepared.well_formed) _ _
        (owed.thrifty raw graph.bodies are ready elab.bodies number body found n same (keeps-older raw are ready n))
        (keeps-older raw are ready n) (suc n) n same
        (owed.stays raw graph.bodies are ready elab.bodies number body found n same (keeps-older raw are ready n) depth)
        (λ path given is. ready.uses number body path given found is)
        (λ path given local is. (owed.prepared raw graph.bodies are ready elab.bodies number body found).named_stays
        path given
        local is)
        there.0 (owed.WalkE raw graph.bodies are ready elab.bodies number body found n same (keeps-older raw are ready
        n))
        (owed.walksE raw graph.bodies are ready elab.bodies number body found n same (keeps-older raw are ready n))
        (owed.P raw graph.bodies are ready elab.bodies number body found n same (keeps-older raw are ready n) outer
        depth)
        (owed.stuck raw graph.bodies are ready elab.bodies number body found n same (keeps-older raw are ready n) outer
        depth)
        (owed.halts raw graph.bodies are ready elab.bodies number body found n same (keeps-older raw are ready n) outer
        depth)
        (owed.resumes raw graph.bodies are ready elab.bodies number body found n same (keeps-older raw are ready n)
        outer
        depth)
        (owed.gives raw graph.bodies are ready elab.bodies number body found n same (keeps-older raw are ready n) outer
        depth)
        (frames-of raw are ready n (keeps-older raw are ready n))
        (body_spends (setting_of false raw) (code_of raw) (graph_keeps raw) n)
        (may-enter raw.items local_ty (drops-take-one raw ready.prepared.well_formed)) (omega arith))
        asked ticks (main-enters raw ready.prepared.well_formed (beginning asked ticks)) free

    same-runs : (asked : List ℤ) (ticks : ℕ) →
        ((body block : ℕ) → (raw_graph_run raw asked ticks).1 ≡ End.Stuck body block → ⊥) →
        graph_run graph asked ticks ≡ raw_graph_run raw asked ticks
    same-runs asked ticks free =
        ap (λ items. graph_run (record graph { items = items }) asked ticks) elab.items ∙ with-items asked ticks free

pub elaboration-keeps-runs : ElaborationKeepsRuns
elaboration-keeps-runs raw graph asked ticks are ready elab free = same-runs raw graph are ready elab asked ticks free
