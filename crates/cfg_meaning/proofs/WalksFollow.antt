-- The walk of a body over some effects is followed by its walk over others, statement by statement and block by block,
-- where these effects follow those.
use Rattle.std.proofs.Common.{ℕ, zero, suc, List, [], ◌∷◌, length, Option, Some, None, slice_get, ap}
use Rattle.cfg_graph.specs.declared.graph.Block.{Block}
use Rattle.cfg_graph.specs.declared.graph.Body.{Body}
use Rattle.cfg_graph.specs.declared.graph.Kind.{Kind}
use Rattle.cfg_graph.specs.declared.statement.Stmt.{Stmt}
use Rattle.cfg_graph.specs.declared.terminator.Term.{Term}
use Rattle.cfg_graph.specs.declared.terminator.Unwind as graph
use Rattle.cfg_meaning.specs.Actions.{site_of, operand_of, operands_of, action_of, mode_of}
use Rattle.cfg_meaning.specs.Walk.{Next, stuck_in, ◌>>=◌, fork, branch, renamed, renamed_choice, naming, unwinding, stmts_do, acts, term_does, block_does, rank_at, does_block, does_turn, by_kind, if_there, blocks, from_rank, turns, walk}
use Rattle.store_model.proofs.Effects.Following.{Relation, FollowsOut, goes_on, unwinds, halts, lapsed, outlived, refused, FollowsChoice, takes, declines, neither, lapsed_choice, outlived_choice, refused_choice, FollowsOuts, FollowsEffects, out_after, panics_on, ends}
use Rattle.store_model.specs.Effects as effects
use Rattle.store_model.specs.Effects.{Halt, Aborted, OutOfTicks, Stuck, StuckAt, Out, Go, Unwind, Halts, Choice, Yes, No, Neither, Effects}
use Rattle.store_model.specs.Places.Place.{whole_local}

module _ {W V : Type 0} (rel : Relation W V) where
  go_follows : {n : rel.Stage} {o : Out W} {g : rel.Choices → Out V} {f : W → Out W} (f' : V → Out V) → FollowsOut rel n o g → FollowsOuts rel f f' →
      FollowsOut rel n (◌>>=◌ o f) (λ t. ◌>>=◌ (g t) f')
  go_follows f' (goes_on n w c l _ k d) e = out_after rel l _ (λ rest. ap (λ o. ◌>>=◌ o f') (d rest)) (e n w c k)
  go_follows f' (unwinds n w c l _ k d) e = halts n Stuck w c l _ (rel.at_halt n w c k) (λ rest. ap (λ o. ◌>>=◌ o f') (d rest))
  go_follows f' (halts n halt w c l _ k d) e = halts n halt w c l _ k (λ rest. ap (λ o. ◌>>=◌ o f') (d rest))
  go_follows f' (lapsed n halt w _ k) e = lapsed n halt w _ k
  go_follows {f = f} f' (outlived n halt w later s _ k d) e = outlived n halt w later (◌>>=◌ s f) _ k (go_follows f' d e)
  go_follows f' (refused n _ halt c l _ k d) e = refused n _ halt c l _ k (λ rest. ap (λ o. ◌>>=◌ o f') (d rest))

  fork_follows : {n : rel.Stage} {o : Out W} {g : rel.Choices → Out V} {f u : W → Out W} (f' u' : V → Out V) → FollowsOut rel n o g → FollowsOuts rel f f' →
      FollowsOuts rel u u' → FollowsOut rel n (fork o f u) (λ t. fork (g t) f' u')
  fork_follows f' u' (goes_on n w c l _ k d) e b = out_after rel l _ (λ rest. ap (λ o. fork o f' u') (d rest)) (e n w c k)
  fork_follows f' u' (unwinds n w c l _ k d) e b = out_after rel l _ (λ rest. ap (λ o. fork o f' u') (d rest)) (b n w c k)
  fork_follows f' u' (halts n halt w c l _ k d) e b = halts n halt w c l _ k (λ rest. ap (λ o. fork o f' u') (d rest))
  fork_follows f' u' (lapsed n halt w _ k) e b = lapsed n halt w _ k
  fork_follows {f = f} {u = u} f' u' (outlived n halt w later s _ k d) e b = outlived n halt w later (fork s f u) _ k (fork_follows f' u' d e b)
  fork_follows f' u' (refused n _ halt c l _ k d) e b = refused n _ halt c l _ k (λ rest. ap (λ o. fork o f' u') (d rest))

  branch_follows : {n : rel.Stage} {o : Choice W} {g : rel.Choices → Choice V} {f u : W → Out W} (f' u' : V → Out V) → FollowsChoice rel n o g →
      FollowsOuts rel f f' → FollowsOuts rel u u' → FollowsOut rel n (branch o f u) (λ t. branch (g t) f' u')
  branch_follows f' u' (takes n w c l _ k d) e b = out_after rel l _ (λ rest. ap (λ o. branch o f' u') (d rest)) (e n w c k)
  branch_follows f' u' (declines n w c l _ k d) e b = out_after rel l _ (λ rest. ap (λ o. branch o f' u') (d rest)) (b n w c k)
  branch_follows f' u' (neither n halt w c l _ k d) e b = halts n halt w c l _ k (λ rest. ap (λ o. branch o f' u') (d rest))
  branch_follows f' u' (lapsed_choice n halt w _ k) e b = lapsed n halt w _ k
  branch_follows {f = f} {u = u} f' u' (outlived_choice n halt w later s _ k d) e b =
      outlived n halt w later (branch s f u) _ k (branch_follows f' u' d e b)
  branch_follows f' u' (refused_choice n _ halt c l _ k d) e b = refused n _ halt c l _ k (λ rest. ap (λ o. branch o f' u') (d rest))

  -- a missing step is named by where it is missing: what lapses, is outlived or refuses does so under its name
  pub record Names : Type 0 where
    pub lapse : (body block : ℕ) (n : rel.Stage) (halt : Halt) (w : W) → rel.lapses n halt w → rel.lapses n (stuck_in body block halt) w
    pub outlive : (body block : ℕ) (n : rel.Stage) (halt : Halt) (w : W) (later : rel.Stage) → rel.outlives n halt w later →
        rel.outlives n (stuck_in body block halt) w later
    pub refuse : (body block : ℕ) (halt : Halt) → rel.refuses halt → rel.refuses (stuck_in body block halt)

  module _ (names : Names) (body block : ℕ) where
    abbrev name : Halt → Halt
    name = stuck_in body block

    renamed_follows : {n : rel.Stage} {o : Out W} {g : rel.Choices → Out V} → FollowsOut rel n o g → FollowsOut rel n (renamed name o) (λ t. renamed name (g t))
    renamed_follows (goes_on n w c l _ k d) = goes_on n w c l _ k (λ rest. ap (renamed name) (d rest))
    renamed_follows (unwinds n w c l _ k d) = unwinds n w c l _ k (λ rest. ap (renamed name) (d rest))
    renamed_follows (halts n halt w c l _ k d) = halts n (name halt) w c l _ k (λ rest. ap (renamed name) (d rest))
    renamed_follows (lapsed n halt w _ k) = lapsed n (name halt) w _ (names.lapse body block n halt w k)
    renamed_follows (outlived n halt w later s _ k d) =
        outlived n (name halt) w later (renamed name s) _ (names.outlive body block n halt w later k) (renamed_follows d)
    renamed_follows (refused n _ halt c l _ k d) = refused n _ (name halt) c l _ (names.refuse body block halt k) (λ rest. ap (renamed name) (d rest))

    renamed_choice_follows : {n : rel.Stage} {o : Choice W} {g : rel.Choices → Choice V} → FollowsChoice rel n o g →
        FollowsChoice rel n (renamed_choice name o) (λ t. renamed_choice name (g t))
    renamed_choice_follows (takes n w c l _ k d) = takes n w c l _ k (λ rest. ap (renamed_choice name) (d rest))
    renamed_choice_follows (declines n w c l _ k d) = declines n w c l _ k (λ rest. ap (renamed_choice name) (d rest))
    renamed_choice_follows (neither n halt w c l _ k d) = neither n (name halt) w c l _ k (λ rest. ap (renamed_choice name) (d rest))
    renamed_choice_follows (lapsed_choice n halt w _ k) = lapsed_choice n (name halt) w _ (names.lapse body block n halt w k)
    renamed_choice_follows (outlived_choice n halt w later s _ k d) =
        outlived_choice n (name halt) w later (renamed_choice name s) _ (names.outlive body block n halt w later k) (renamed_choice_follows d)
    renamed_choice_follows (refused_choice n _ halt c l _ k d) =
        refused_choice n _ (name halt) c l _ (names.refuse body block halt k) (λ rest. ap (renamed_choice name) (d rest))

    naming_follows : (p : Effects W) (q : Effects V) → FollowsEffects rel p q → FollowsEffects rel (naming name p) (naming name q)
    naming_follows p q follow = record {
      acting = λ action n w c k. renamed_follows (follow.acting action n w c k);
      choosing = λ test n w c k. renamed_choice_follows (follow.choosing test n w c k);
      dropping = λ mode site n w c k. renamed_follows (follow.dropping mode site n w c k);
      panicking = follow.panicking;
      ticking = λ n w c k. renamed_follows (follow.ticking n w c k);
      giving = λ site n w c k. renamed_follows (follow.giving site n w c k);
    }

  module _ (p : Effects W) (q : Effects V) (follow : FollowsEffects rel p q) where
    stmts_follow : (node : ℕ → ℕ) (line : ℕ) (stmts : List Stmt) {f : W → Out W} (f' : V → Out V) → FollowsOuts rel f f' →
        FollowsOuts rel (stmts_do p node line stmts f) (stmts_do q node line stmts f')
    stmts_follow node line [] f' e n w c k = e n w c k
    stmts_follow node line (stmt ∷ stmts) f' e n w c k =
        go_follows (stmts_do q node (suc line) stmts f') (follow.acting (action_of (node line) stmt) n w c k) (stmts_follow node (suc line) stmts f' e)

    module _ (next : Next W) (next' : Next V) (later : (block : ℕ) → FollowsOuts rel (next block) (next' block)) where
      onward_follows : (unwind : graph.Unwind) → FollowsOuts rel (unwinding unwind next) (unwinding unwind next')
      onward_follows (graph.Unwind.Block block) n w c k = later block n w c k
      onward_follows graph.Unwind.Resume n w c k = panics_on rel n w c k
      onward_follows graph.Unwind.Abort n w c k = ends rel n Aborted w c k

      acts_follow : {n : rel.Stage} {o : Out W} {g : rel.Choices → Out V} (to : ℕ) (unwind : graph.Unwind) → FollowsOut rel n o g →
          FollowsOut rel n (acts o next to unwind) (λ t. acts (g t) next' to unwind)
      acts_follow to unwind e = fork_follows (next' to) (unwinding unwind next') e (later to) (onward_follows unwind)

      term_follows : (node : ℕ) (term : Term) → FollowsOuts rel (term_does p node term next) (term_does q node term next')
      term_follows node (Term.Goto block) n w c k = later block n w c k
      term_follows node (Term.If on if_true if_false) n w c k =
          branch_follows (next' if_true) (next' if_false) (follow.choosing (effects.IsTrue (operand_of node on)) n w c k) (later if_true) (later if_false)
      term_follows node (Term.Case on variant if_true if_false) n w c k =
          branch_follows (next' if_true) (next' if_false) (follow.choosing (effects.HasVariant (site_of node on) variant) n w c k) (later if_true) (later if_false)
      term_follows node (Term.Math to operator left right onward unwind) n w c k =
          acts_follow onward unwind (follow.acting (effects.Compute (site_of node to) operator (operand_of node left) (operand_of node right)) n w c k)
      term_follows node (Term.Negate to operand onward unwind) n w c k =
          acts_follow onward unwind (follow.acting (effects.Negate (site_of node to) (operand_of node operand)) n w c k)
      term_follows node (Term.Bounds index count onward unwind) n w c k =
          acts_follow onward unwind (follow.acting (effects.Bounds (operand_of node index) count) n w c k)
      term_follows node (Term.Call to body args onward unwind) n w c k =
          acts_follow onward unwind (follow.acting (effects.Call (site_of node to) body (operands_of node args)) n w c k)
      term_follows node (Term.Virtual to trait_no method args onward unwind) n w c k =
          acts_follow onward unwind (follow.acting (effects.CallVirtual (site_of node to) trait_no method (operands_of node args)) n w c k)
      term_follows node (Term.Ask to onward unwind) n w c k = acts_follow onward unwind (follow.acting (effects.Ask (site_of node to)) n w c k)
      term_follows node (Term.DropAt place onward unwind) n w c k = acts_follow onward unwind (follow.dropping (mode_of unwind) (site_of node place) n w c k)
      term_follows node (Term.Panic why unwind) n w c k =
          fork_follows (next' 0) (unwinding unwind next') (follow.panicking why n w c k) (later 0) (onward_follows unwind)
      term_follows node Term.Return n w c k = follow.giving (record { node = node; place = whole_local 0 }) n w c k
      term_follows node Term.Resume n w c k = panics_on rel n w c k

      block_follows : (node : ℕ → ℕ) (block : Block) → FollowsOuts rel (block_does p node block next) (block_does q node block next')
      block_follows node block =
          stmts_follow node 0 block.stmts (term_does q (node (length block.stmts)) block.term next') (term_follows (node (length block.stmts)) block.term)

  module _ (names : Names) (p : Effects W) (q : Effects V) (follow : FollowsEffects rel p q) (number : ℕ) (node : ℕ → ℕ → ℕ) (body : Body) where
    does_follows : (b : ℕ) (block : Block) (next : Next W) (next' : Next V) → ((b : ℕ) → FollowsOuts rel (next b) (next' b)) →
        FollowsOuts rel (does_block p number node body b block next) (does_block q number node body b block next')
    does_follows b block next next' later =
        block_follows (naming (stuck_in number b) p) (naming (stuck_in number b) q) (naming_follows names number b p q follow) next next' later (node b) block

    turn_follows : (b : ℕ) (block : Block) (next : Next W) (next' : Next V) → ((b : ℕ) → FollowsOuts rel (next b) (next' b)) →
        FollowsOuts rel (does_turn p number node body b block next) (does_turn q number node body b block next')
    turn_follows b block next next' later n w c k =
        go_follows (does_block q number node body b block next') (follow.ticking n w c k) (does_follows b block next next' later)

    there_follows : (o : Option Block) (b : ℕ) {f : Block → W → Out W} (f' : Block → V → Out V) → ((block : Block) → FollowsOuts rel (f block) (f' block)) →
        FollowsOuts rel (if_there p number node body o b f) (if_there q number node body o b f')
    there_follows None b f' e n w c k = ends rel n (StuckAt number b) w c k
    there_follows (Some block) b f' e n w c k = e block n w c k

    kind_follows : (kind : Kind) (b : ℕ) (block : Block) {turn plain : Next W} (turn' plain' : Next V) → ((b : ℕ) → FollowsOuts rel (turn b) (turn' b)) →
        ((b : ℕ) → FollowsOuts rel (plain b) (plain' b)) →
        FollowsOuts rel (by_kind p number node body kind b block turn plain) (by_kind q number node body kind b block turn' plain')
    kind_follows Kind.Plain b block turn' plain' t e n w c k = e b n w c k
    kind_follows Kind.Turn b block turn' plain' t e n w c k = t b n w c k
    kind_follows Kind.Cleanup b block turn' plain' t e n w c k = e b n w c k

    blocks_follow : (turn : Next W) (turn' : Next V) → ((b : ℕ) → FollowsOuts rel (turn b) (turn' b)) → (fuel b : ℕ) →
        FollowsOuts rel (blocks p number node body turn fuel b) (blocks q number node body turn' fuel b)
    blocks_follow turn turn' t zero b n w c k =
        there_follows (slice_get body.blocks b) b (λ block. by_kind q number node body block.kind b block turn' (λ b. Halts Stuck))
        (λ block. kind_follows block.kind b block turn' (λ b. Halts Stuck) t (λ b n w c k. ends rel n Stuck w c k)) n w c k
    blocks_follow turn turn' t (suc fuel) b n w c k =
        there_follows (slice_get body.blocks b) b
        (λ block. by_kind q number node body block.kind b block turn' (λ b. does_block q number node body b block (blocks q number node body turn' fuel)))
        (λ block. kind_follows block.kind b block turn' (λ b. does_block q number node body b block (blocks q number node body turn' fuel)) t
        (λ b. does_follows b block (blocks p number node body turn fuel) (blocks q number node body turn' fuel) (blocks_follow turn turn' t fuel))) n w c k

    turns_follow : (fuel b : ℕ) → FollowsOuts rel (turns p number node body fuel b) (turns q number node body fuel b)
    turns_follow zero b n w c k = ends rel n OutOfTicks w c k
    turns_follow (suc fuel) b n w c k =
        there_follows (slice_get body.blocks b) b (λ block. does_turn q number node body b block (from_rank q number node body (turns q number node body fuel)))
        (λ block. turn_follows b block (from_rank p number node body (turns p number node body fuel)) (from_rank q number node body (turns q number node body fuel))
        (λ b. blocks_follow (turns p number node body fuel) (turns q number node body fuel) (turns_follow fuel) (suc (rank_at p number node body b)) b)) n w c k

    pub walk_follows : (fuel b : ℕ) → FollowsOuts rel (walk p number node body fuel b) (walk q number node body fuel b)
    walk_follows fuel b =
        blocks_follow (turns p number node body fuel) (turns q number node body fuel) (turns_follow fuel) (suc (rank_at p number node body b)) b
