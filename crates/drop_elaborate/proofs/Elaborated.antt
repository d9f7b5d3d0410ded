-- The run of an elaborated graph is that of the raw graph, for all numbers to be asked and all ticks at which the
-- latter is not stuck. What is owed of each body is a premise of this file: that it does so from block to block.
use Rattle.std.proofs.Common.{◌≡◌, ◌⊎◌, inl, inr, ℕ, suc, ◌≤◌, ℤ, true, false, List, [], length, Option, Some, None, slice_get, refl, ap, sym, ◌∙◌, subst, arith}
use Rattle.std.specs.Option.{option_map_or}
use Rattle.cfg_graph.specs.declared.graph.Body.{Body}
use Rattle.cfg_graph.specs.declared.graph.Graph.{Graph}
use Rattle.cfg_graph.specs.Edges.{IsRanked}
use Rattle.cfg_meaning.proofs.Runs.{graph_keeps}
use Rattle.cfg_meaning.specs.Programs.{setting_of, code_of, graph_run, raw_graph_run}
use Rattle.cfg_meaning.specs.Walk.{renamed, naming, walk}
use Rattle.mir_base.specs.declared.trace.End.{End}
use Rattle.store_model.proofs.Effects.Laws.{Laws}
use Rattle.store_model.proofs.Concrete.Effects.{ticks_of, values_laws, body_thrifty}
use Rattle.store_model.specs.Concrete.Effects.{concrete_effects}
use Rattle.store_model.specs.Values.Datum.{Datum}
use Rattle.store_model.specs.Effects.{Halt, Aborted, OutOfTicks, Stuck, StuckAt, BadUse, BadStore, NoChoice, Infeasible, Unreachable, Out, Go, Unwind, Halts}
use Rattle.store_model.specs.Concrete.Bodies.{run_body, main_of}
use Rattle.store_model.specs.Concrete.Location.{Setting}
use Rattle.store_model.specs.Concrete.State.{State, cell, Bodies, with_event, with_activation, beginning}
use Rattle.mir_base.specs.declared.trace.Event.{Event}
use Rattle.drop_values.specs.Like.{body_at, Flags, Like, SameBodies, IsStuck}
use Rattle.drop_elaborate.proofs.Blocks.{BlocksDo, blocks_do}
use Rattle.drop_values.proofs.Bodies.{with_flags, SameWithin, Within, run_same}
use Rattle.drop_elaborate.proofs.Walks.{unplaced}
use Rattle.drop_elaborate.proofs.WalkOf.{Walk, walks}

still_stuck : (halt : Halt) → IsStuck (unplaced halt) → IsStuck halt
still_stuck Stuck h = tt
still_stuck (StuckAt body block) h = tt
still_stuck other h = h

stuck_or_not : (halt : Halt) → IsStuck halt ⊎ (unplaced halt ≡ halt)
stuck_or_not Stuck = inl tt
stuck_or_not (StuckAt body block) = inl tt
stuck_or_not other = inr refl

stuck_unplaced : (halt : Halt) → IsStuck halt → IsStuck (unplaced halt)
stuck_unplaced Stuck h = tt
stuck_unplaced (StuckAt body block) h = tt
stuck_unplaced other h = h

-- the same halt, where it is no missing step
same_halt : (halt other : Halt) → unplaced other ≡ unplaced halt → IsStuck halt ⊎ (other ≡ halt)
same_halt halt other e = by (stuck_or_not halt) (stuck_or_not other)
  where
    by : IsStuck halt ⊎ (unplaced halt ≡ halt) → IsStuck other ⊎ (unplaced other ≡ other) → IsStuck halt
        ⊎ (other ≡ halt)
    by (inl h) k = inl h
    by (inr h) (inl k) = inl (still_stuck halt (subst IsStuck e (stuck_unplaced other k)))
    by (inr h) (inr k) = inr (sym k ∙ e ∙ h)

module _ (raw_graph : Graph) (bodies : List Body) (good : ℕ → List Datum → State → Type 0) where
  -- the elaborated graph has the same items
  abbrev pub elaborated : Graph
  elaborated = record raw_graph { bodies = bodies }

  abbrev raw : Setting
  raw = setting_of false raw_graph

  abbrev strict : Setting
  strict = setting_of true elaborated

  abbrev run_raw : ℕ → Bodies
  run_raw n = run_body raw (code_of raw_graph) n

  abbrev run_strict : ℕ → Bodies
  run_strict n = run_body strict (code_of elaborated) n

  pub raw_laws : (n : ℕ) → Laws (concrete_effects raw (run_raw n) (suc n)) ticks_of
  raw_laws n = values_laws raw (run_raw n) (body_thrifty raw (code_of raw_graph) (graph_keeps raw_graph) n) (suc n)

  pub strict_laws : (n : ℕ) → Laws (concrete_effects strict (run_strict n) (suc n)) ticks_of
  strict_laws n = values_laws strict (run_strict n) (body_thrifty strict (code_of elaborated)
      (graph_keeps elaborated) n) (suc n)

  abbrev pub Outcome : Flags → ℕ → Out State → Out State → Type 0
  Outcome flags depth o o' = SameWithin raw_graph.items raw.local_ty strict.local_ty (code_of raw_graph)
      (code_of elaborated) (λ n args. refl) (λ n. refl) good flags depth 0 o o'

  placed : (flags : Flags) (depth : ℕ) (o o' : Out State) → Outcome flags depth (renamed unplaced o)
      (renamed unplaced o') → Outcome flags depth o o'
  placed flags depth (Go v) o' h = by o' h.2
    where
      by : (o' : Out State) → renamed unplaced o' ≡ Go h.0 → Outcome flags depth (Go v) o'
      by (Go u) e = (h.0, h.1, e, h.3, h.4, h.5)
      by (Unwind u) e = absurd (let x : Unwind u ≡ Go h.0 = e in cc)
      by (Halts halt u) e = absurd (let x : Halts (unplaced halt) u ≡ Go h.0 = e in cc)
  placed flags depth (Unwind v) o' h = by o' h.2
    where
      by : (o' : Out State) → renamed unplaced o' ≡ Unwind h.0 → Outcome flags depth (Unwind v) o'
      by (Go u) e = absurd (let x : Go u ≡ Unwind h.0 = e in cc)
      by (Unwind u) e = (h.0, h.1, e, h.3, h.4)
      by (Halts halt u) e = absurd (let x : Halts (unplaced halt) u ≡ Unwind h.0 = e in cc)
  placed flags depth (Halts halt v) o' (inl stuck) = inl (still_stuck halt stuck)
  placed flags depth (Halts halt v) o' (inr h) = by o' h.1
    where
      by : (o' : Out State) → renamed unplaced o' ≡ Halts (unplaced halt) h.0 → Outcome flags depth (Halts halt v) o'
      by (Go u) e = absurd (let x : Go u ≡ Halts (unplaced halt) h.0 = e in cc)
      by (Unwind u) e = absurd (let x : Unwind u ≡ Halts (unplaced halt) h.0 = e in cc)
      by (Halts other u) e = pick (same_halt halt other (let x : unplaced other ≡ unplaced halt = cc in x))
        where
          world_is : u ≡ h.0
          world_is = cc

          pick : IsStuck halt ⊎ (other ≡ halt) → Outcome flags depth (Halts halt v) (Halts other u)
          pick (inl stuck) = inl stuck
          pick (inr same) = inr (h.0, ap (λ x. Halts x u) same ∙ ap (Halts halt) world_is, h.2)

  -- what is owed of a body, where the bodies that it enters do the same with so many ticks
  pub record BodyOwed (n : ℕ) (number : ℕ) (body body' : Body) (ranked : IsRanked body) (ranked' : IsRanked body') :
      Type 1 where
    pub entry : (flags : Flags) (depth : ℕ) → ℕ → State → State → Type 0
    pub starts : (flags : Flags) (depth : ℕ) (args : List Datum) (w w' : State) →
        Like raw.local_ty (with_flags flags depth (λ k. cell k ((code_of raw_graph).arguments number args))) w w' →
        length w.activations ≡ suc depth → body_at depth w ≡ Some number → w.ticks ≤ n →
        (event : Event) (u : State) (t : ℕ) → good number args u → u.ticks ≡ suc t →
        w ≡ with_activation (record { body = number; cells = (code_of raw_graph).arguments number args })
        (with_event event (record u { ticks = t })) → entry flags depth 0 w w'
    pub blocks : (flags : Flags) (depth : ℕ) →
        BlocksDo (naming unplaced (concrete_effects raw (run_raw n) (suc n))) n body (λ block line. 0) ranked
        (Walk ticks_of (concrete_effects raw (run_raw n) (suc n)) (raw_laws n) number (λ block line. 0) body ranked n
        (suc n) (omega arith))
        (Walk ticks_of (concrete_effects strict (run_strict n) (suc n)) (strict_laws n) number
        (λ block line. 0) body' ranked' n (suc n) (omega arith))
        (walks ticks_of (concrete_effects raw (run_raw n) (suc n)) (raw_laws n) number (λ block line. 0) body ranked n
        (suc n) (omega arith))
        (entry flags depth) (Outcome flags depth)

  pub record Owed : Type 1 where
    pub body : (number : ℕ) (body : Body) → slice_get raw_graph.bodies number ≡ Some body →
        (body' : Body) × (slice_get bodies number ≡ Some body') × (ranked : IsRanked body) × (ranked' : IsRanked body')
        × ((n : ℕ) → SameBodies raw.local_ty good n (run_raw n) (run_strict n) →
        BodyOwed n number body body' ranked ranked')

  module _ (owed : Owed) where
    within : Within raw_graph.items raw.local_ty strict.local_ty (code_of raw_graph) (code_of elaborated)
        (λ n args. refl) (λ n. refl) good
    within n same flags depth number args w w' like deep is few event u t may e' entered_is =
        by (slice_get raw_graph.bodies number) refl
      where
        by : (o : Option Body) → slice_get raw_graph.bodies number ≡ o →
            Outcome flags depth (option_map_or (λ body. walk (concrete_effects raw (run_raw n) (suc n)) number
            (λ block line. 0) body (suc n) 0 w) o (Halts Stuck w))
            (option_map_or (λ body. walk (concrete_effects strict (run_strict n) (suc n)) number
            (λ block line. 0) body (suc n) 0 w') (slice_get bodies number) (Halts Stuck w'))
        by None e = inl tt
        by (Some body) e =
            let b = owed.body number body e in let o = b.4 n same in
            subst (λ o. Outcome flags depth (walk (concrete_effects raw (run_raw n) (suc n)) number
            (λ block line. 0) body (suc n) 0 w)
            (option_map_or (λ body. walk (concrete_effects strict (run_strict n) (suc n)) number
            (λ block line. 0) body (suc n) 0 w') o (Halts Stuck w'))) (sym b.1)
            (placed flags depth (walk (concrete_effects raw (run_raw n) (suc n)) number (λ block line. 0) body
            (suc n) 0 w) (walk (concrete_effects strict (run_strict n) (suc n)) number (λ block line. 0) b.0
            (suc n) 0 w')
            (blocks_do _ n body (λ block line. 0) b.2 _ _ _ (o.entry flags depth) (Outcome flags depth)
            (o.blocks flags depth) 0 w w' (o.starts flags depth args w w' like deep is few event
            u t may e' entered_is) few))

    pub elaborated_runs : (asked : List ℤ) (ticks : ℕ) → good (main_of raw_graph.items) [] (beginning asked ticks) →
        ((body block : ℕ) → (raw_graph_run raw_graph asked ticks).1 ≡ End.Stuck body block → ⊥) →
        graph_run elaborated asked ticks ≡ raw_graph_run raw_graph asked ticks
    elaborated_runs asked ticks may alive =
        run_same raw_graph.items raw.local_ty strict.local_ty (code_of raw_graph) (code_of elaborated)
        (λ n args. refl) (λ n. refl) good within (main_of raw_graph.items) asked ticks
        (raw_graph_run raw_graph asked ticks) refl may alive
