-- The walk of a body asks nothing of its locals and of how many parameters it has; and where the effects under two
-- settings are the same, so are the runs.
use Rattle.std.proofs.Common.{◌≡◌, ℕ, zero, suc, ℤ, List, [], Option, Some, None, slice_get, refl, ap, ◌∙◌}
use Rattle.mir_base.specs.declared.trace.Event.{Event}
use Rattle.mir_ty.specs.declared.ty.TyId.{TyId}
use Rattle.cfg_graph.specs.declared.graph.Block.{Block}
use Rattle.cfg_graph.specs.declared.graph.Body.{Body}
use Rattle.cfg_graph.specs.declared.graph.Kind.{Kind}
use Rattle.cfg_meaning.specs.Walk.{Next, rank_at, does_block, does_turn, by_kind, if_there, blocks, turns, walk}
use Rattle.store_model.specs.Concrete.Bodies.{CodeOfBodies, ended, after_tick, run_body, outcome_of, run_of}
use Rattle.store_model.specs.Concrete.Effects.{concrete_effects}
use Rattle.store_model.specs.Concrete.Location.{Setting}
use Rattle.store_model.specs.Concrete.State.{State, with_event, tick, with_activation, Bodies, beginning}
use Rattle.store_model.specs.Effects.{Effects, Out}
use Rattle.listing_runs.proofs.Acted.{effects_same}
use Rattle.listing_runs.proofs.Reached.{SettingsAlike}

module _ {W : Type 0} (p : Effects W) (number : ℕ) (node : ℕ → ℕ → ℕ) (lines : List Block) (params others : ℕ)
    (locals types : List TyId) where
  abbrev one : Body
  one = record { params = params; locals = locals; blocks = lines }

  abbrev two : Body
  two = record { params = others; locals = types; blocks = lines }

  kind_same : (kind : Kind) (n : ℕ) (block : Block) (turn plain turn' plain' : Next W) (w : W) → turn n w ≡ turn' n w →
      plain n w ≡ plain' n w →
      by_kind p number node one kind n block turn plain w ≡ by_kind p number node two kind n block turn' plain' w
  kind_same Kind.Turn n block turn plain turn' plain' w h k = h
  kind_same _ n block turn plain turn' plain' w h k = k

  there_same : (o : Option Block) (n : ℕ) (does does' : Block → W → Out W) (w : W) →
      ((block : Block) → does block w ≡ does' block w) →
      if_there p number node one o n does w ≡ if_there p number node two o n does' w
  there_same None n does does' w h = refl
  there_same (Some block) n does does' w h = h block

  blocks_same : (turn turn' : Next W) → ((n : ℕ) (w : W) → turn n w ≡ turn' n w) → (fuel n : ℕ) (w : W) →
      blocks p number node one turn fuel n w ≡ blocks p number node two turn' fuel n w
  blocks_same turn turn' h zero n w =
      there_same (slice_get lines n) n _ _ w (λ block. kind_same block.kind n block _ _ _ _ w (h n w) refl)
  blocks_same turn turn' h (suc fuel) n w =
      there_same (slice_get lines n) n _ _ w
      (λ block. kind_same block.kind n block _ _ _ _ w (h n w)
      (λ i. does_block p number node one n block (λ m v. blocks_same turn turn' h fuel m v i) w))

  turns_same : (fuel n : ℕ) (w : W) → turns p number node one fuel n w ≡ turns p number node two fuel n w
  turns_same zero n w = refl
  turns_same (suc fuel) n w =
      there_same (slice_get lines n) n _ _ w
      (λ block. λ i. does_turn p number node one n block
      (λ m v. blocks_same (turns p number node one fuel) (turns p number node two fuel) (turns_same fuel)
      (suc (rank_at p number node one m)) m v i) w)

  lines_walk : (fuel n : ℕ) (w : W) → walk p number node one fuel n w ≡ walk p number node two fuel n w
  lines_walk fuel n w =
      blocks_same (turns p number node one fuel) (turns p number node two fuel) (turns_same fuel)
      (suc (rank_at p number node one n)) n w

-- two bodies with the same blocks walk alike
pub walk_same : {W : Type 0} (p : Effects W) (number : ℕ) (node : ℕ → ℕ → ℕ) (one two : Body) →
    one.blocks ≡ two.blocks → (fuel n : ℕ) (w : W) → walk p number node one fuel n w ≡ walk p number node two fuel n w
walk_same p number node one two h fuel n w =
    lines_walk p number node one.blocks one.params two.params one.locals two.locals fuel n w
    ∙ (λ i. walk p number node (record { params = two.params; locals = two.locals; blocks = h i }) fuel n w)

module _ (left right : Setting) (alike : SettingsAlike left right) where
  bodies_same : (code : CodeOfBodies) (n : ℕ) → run_body left code n ≡ run_body right code n
  bodies_same code zero = refl
  bodies_same code (suc n) =
      let same : concrete_effects left (run_body left code n) (suc n) ≡ concrete_effects right (run_body right code n)
      (suc n) =
      effects_same left right alike (run_body left code n) (suc n)
      ∙ ap (λ (run : Bodies). concrete_effects right run (suc n)) (bodies_same code n) in
      λ i event body args w. after_tick (tick w) (λ (w : State). ended body (code.answer body)
      (code.within (same i) (suc n) body
      (with_activation (record { body = body; cells = code.arguments body args }) (with_event event w))))

  -- so two programs run alike, whose bodies do the same and whose `main` has one number
  pub runs_same : (code other : CodeOfBodies) → code ≡ other → (main main' : ℕ) → main ≡ main' →
      (asked : List ℤ) (ticks : ℕ) →
      run_of left code main asked ticks ≡ run_of right other main' asked ticks
  runs_same code other h main main' e asked ticks =
      let same : run_body left code (suc ticks) ≡ run_body right other (suc ticks) =
      bodies_same code (suc ticks) ∙ ap (λ (c : CodeOfBodies). run_body right c (suc ticks)) h in
      λ i. outcome_of (same i (Event.Call (e i)) (e i) [] (beginning asked ticks))
