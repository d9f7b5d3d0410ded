-- The walk of a ranked body is one equation, whatever the effects are, if they give back nothing of what a turn takes.
use Rattle.std.proofs.Common.{◌≡◌, ℕ, zero, suc, ◌<◌, ◌≤◌, true, false, List, [], ◌∷◌, ◌++◌, length, Option, Some, None, Contains, slice_get, refl, ap, ◌∙◌, arith}
use Rattle.std.specs.Option.{option_map_or}
use Rattle.cfg_graph.specs.declared.graph.Block.{Block}
use Rattle.cfg_graph.specs.declared.graph.Body.{Body}
use Rattle.cfg_graph.specs.declared.graph.Kind.{Kind}
use Rattle.cfg_graph.specs.declared.statement.Stmt.{Stmt}
use Rattle.cfg_graph.specs.declared.terminator.Term.{Term}
use Rattle.cfg_graph.specs.declared.terminator.Unwind.{Unwind}
use Rattle.cfg_graph.specs.Edges.{IsRanked, targets, unwind_block, is_turn, is_turn_kind}
use Rattle.cfg_meaning.specs.Actions.{site_of, operand_of, operands_of, action_of, mode_of}
use Rattle.cfg_meaning.specs.Walk.{Next, stuck_in, ◌>>=◌, fork, branch, renamed, renamed_choice, naming, unwinding, stmts_do, acts, term_does, block_does, rank_at, does_block, does_turn, by_kind, if_there, unfolded, blocks, from_rank, turns, walk}
use Rattle.mir_base.specs.declared.trace.Why.{Why}
use Rattle.store_model.proofs.Effects.Laws.{NoMore, NoMoreOf, Ticked, Laws, weaker, weaker_of, Same, Keeps}
use Rattle.store_model.specs.Effects as effects
use Rattle.store_model.specs.Effects.{Action, Test, Mode, EffectSite, Halt, Aborted, Stuck, Out, Go, Unwind as Unwinds, Halts, Choice, Yes, No, Neither, Effects}
use Rattle.store_model.specs.Places.Place.{whole_local}

module _ {W : Type 0} (size : W → ℕ) where
  -- effects that name where they halt keep the laws
  renamed_less : (name : Halt → Halt) (m : ℕ) (o : Out W) → NoMore size m o → NoMore size m (renamed name o)
  renamed_less name m (Go w) l = l
  renamed_less name m (Unwinds w) l = l
  renamed_less name m (Halts halt w) l = tt

  renamed_choice_less : (name : Halt → Halt) (m : ℕ) (o : Choice W) → NoMoreOf size m o → NoMoreOf size m (renamed_choice name o)
  renamed_choice_less name m (Yes w) l = l
  renamed_choice_less name m (No w) l = l
  renamed_choice_less name m (Neither halt w) l = tt

  renamed_ticked : (name : Halt → Halt) (m : ℕ) (o : Out W) → Ticked size m o → Ticked size m (renamed name o)
  renamed_ticked name m (Go w) l = l
  renamed_ticked name m (Unwinds w) l = l
  renamed_ticked name m (Halts halt w) l = tt

  pub naming_laws : (name : Halt → Halt) (p : Effects W) → Laws p size → Laws (naming name p) size
  naming_laws name p laws = record {
    acting = λ action w. renamed_less name (size w) (p.act action w) (laws.acting action w);
    choosing = λ test w. renamed_choice_less name (size w) (p.choose test w) (laws.choosing test w);
    dropping = λ mode site w. renamed_less name (size w) (p.drop mode site w) (laws.dropping mode site w);
    panicking = laws.panicking;
    ticking = λ w. renamed_ticked name (size w) (p.tick w) (laws.ticking w);
    giving = λ site w. renamed_less name (size w) (p.give site w) (laws.giving site w);
  }

  module _ (m : ℕ) where
    pub go_same : (o : Out W) → NoMore size m o → (f f' : W → Out W) → Same size m f f' → ◌>>=◌ o f ≡ ◌>>=◌ o f'
    go_same (Go w) l f f' e = e w l
    go_same (Unwinds w) l f f' e = refl
    go_same (Halts halt w) l f f' e = refl

    fork_same : (o : Out W) → NoMore size m o → (f f' h h' : W → Out W) → Same size m f f' → Same size m h h' → fork o f h ≡ fork o f' h'
    fork_same (Go w) l f f' h h' e d = e w l
    fork_same (Unwinds w) l f f' h h' e d = d w l
    fork_same (Halts halt w) l f f' h h' e d = refl

    branch_same : (o : Choice W) → NoMoreOf size m o → (f f' h h' : W → Out W) → Same size m f f' → Same size m h h' → branch o f h ≡ branch o f' h'
    branch_same (Yes w) l f f' h h' e d = e w l
    branch_same (No w) l f f' h h' e d = d w l
    branch_same (Neither halt w) l f f' h h' e d = refl

    -- the ways on from an effect that may panic
    acts_same : (o : Out W) → NoMore size m o → (next next' : Next W) (to : ℕ) (unwind : Unwind) →
        ((d : ℕ) → Contains (to ∷ (unwind_block unwind ++ [])) d → Same size m (next d) (next' d)) → acts o next to unwind ≡ acts o next' to unwind
    acts_same o l next next' to (Unwind.Block b) e =
        fork_same o l (next to) (next' to) (next b) (next' b) (e to (0, omega arith, refl)) (e b (1, omega arith, refl))
    acts_same o l next next' to Unwind.Resume e = fork_same o l (next to) (next' to) _ _ (e to (0, omega arith, refl)) (λ w k. refl)
    acts_same o l next next' to Unwind.Abort e = fork_same o l (next to) (next' to) _ _ (e to (0, omega arith, refl)) (λ w k. refl)

    panics_same : (next next' : Next W) (unwind : Unwind) →
        ((d : ℕ) → Contains (unwind_block unwind ++ []) d → Same size m (next d) (next' d)) → Same size m (unwinding unwind next) (unwinding unwind next')
    panics_same next next' (Unwind.Block b) e = e b (0, omega arith, refl)
    panics_same next next' Unwind.Resume e = λ w k. refl
    panics_same next next' Unwind.Abort e = λ w k. refl

    go_less : (o : Out W) → NoMore size m o → (f : W → Out W) → Keeps size m f → NoMore size m (◌>>=◌ o f)
    go_less (Go w) l f e = e w l
    go_less (Unwinds w) l f e = tt
    go_less (Halts halt w) l f e = tt

    fork_less : (o : Out W) → NoMore size m o → (f h : W → Out W) → Keeps size m f → Keeps size m h → NoMore size m (fork o f h)
    fork_less (Go w) l f h e d = e w l
    fork_less (Unwinds w) l f h e d = d w l
    fork_less (Halts halt w) l f h e d = tt

    branch_less : (o : Choice W) → NoMoreOf size m o → (f h : W → Out W) → Keeps size m f → Keeps size m h → NoMore size m (branch o f h)
    branch_less (Yes w) l f h e d = e w l
    branch_less (No w) l f h e d = d w l
    branch_less (Neither halt w) l f h e d = tt

    acts_less : (o : Out W) → NoMore size m o → (next : Next W) (to : ℕ) (unwind : Unwind) → ((d : ℕ) → Keeps size m (next d)) →
        NoMore size m (acts o next to unwind)
    acts_less o l next to (Unwind.Block b) e = fork_less o l (next to) (next b) (e to) (e b)
    acts_less o l next to Unwind.Resume e = fork_less o l (next to) _ (e to) (λ w k. k)
    acts_less o l next to Unwind.Abort e = fork_less o l (next to) _ (e to) (λ w k. tt)

    panics_less : (next : Next W) (unwind : Unwind) → ((d : ℕ) → Keeps size m (next d)) → Keeps size m (unwinding unwind next)
    panics_less next (Unwind.Block b) e = e b
    panics_less next Unwind.Resume e = λ w k. k
    panics_less next Unwind.Abort e = λ w k. tt

-- where a tick is spent, less is left for what comes after it
pub tick_same : {W : Type 0} (size : W → ℕ) (m : ℕ) (o : Out W) → Ticked size m o → (f f' : W → Out W) →
    ((w : W) → suc (size w) ≤ m → f w ≡ f' w) → ◌>>=◌ o f ≡ ◌>>=◌ o f'
tick_same size m (Go w) l f f' e = e w l
tick_same size m (Unwinds w) l f f' e = refl
tick_same size m (Halts halt w) l f f' e = refl

tick_less : {W : Type 0} (size : W → ℕ) (m k : ℕ) (o : Out W) → k ≤ m → Ticked size k o → (f : W → Out W) → Keeps size m f → NoMore size m (◌>>=◌ o f)
tick_less size m k (Go w) h l f e = e w (omega arith)
tick_less size m k (Unwinds w) h l f e = tt
tick_less size m k (Halts halt w) h l f e = tt

-- a block does the same, and keeps the bound, if what comes after it does
module _ {W : Type 0} (size : W → ℕ) (q : Effects W) (laws : Laws q size) (m : ℕ) where
  pub acted : (action : Action) (w : W) → size w ≤ m → NoMore size m (q.act action w)
  acted action w l = weaker size m (size w) (q.act action w) l (laws.acting action w)

  chosen : (test : Test) (w : W) → size w ≤ m → NoMoreOf size m (q.choose test w)
  chosen test w l = weaker_of size m (size w) (q.choose test w) l (laws.choosing test w)

  dropped : (mode : Mode) (site : EffectSite) (w : W) → size w ≤ m → NoMore size m (q.drop mode site w)
  dropped mode site w l = weaker size m (size w) (q.drop mode site w) l (laws.dropping mode site w)

  panicked : (why : Why) (w : W) → size w ≤ m → size (q.panic why w) ≤ m
  panicked why w l = let h = laws.panicking why w in omega arith

  stmts_same : (node : ℕ → ℕ) (line : ℕ) (stmts : List Stmt) (f f' : W → Out W) → Same size m f f' →
      Same size m (stmts_do q node line stmts f) (stmts_do q node line stmts f')
  stmts_same node line [] f f' e w l = e w l
  stmts_same node line (stmt ∷ stmts) f f' e w l =
      go_same size m (q.act (action_of (node line) stmt) w) (acted (action_of (node line) stmt) w l) _ _ (stmts_same node (suc line) stmts f f' e)

  stmts_less : (node : ℕ → ℕ) (line : ℕ) (stmts : List Stmt) (f : W → Out W) → Keeps size m f → Keeps size m (stmts_do q node line stmts f)
  stmts_less node line [] f e w l = e w l
  stmts_less node line (stmt ∷ stmts) f e w l =
      go_less size m (q.act (action_of (node line) stmt) w) (acted (action_of (node line) stmt) w l) _ (stmts_less node (suc line) stmts f e)

  term_same : (node : ℕ) (term : Term) (next next' : Next W) → ((d : ℕ) → Contains (targets term) d → Same size m (next d) (next' d)) →
      Same size m (term_does q node term next) (term_does q node term next')
  term_same node (Term.Goto block) next next' e w l = e block (0, omega arith, refl) w l
  term_same node (Term.If on if_true if_false) next next' e w l =
      branch_same size m (q.choose (effects.IsTrue (operand_of node on)) w) (chosen (effects.IsTrue (operand_of node on)) w l)
      (next if_true) (next' if_true) (next if_false) (next' if_false) (e if_true (1, omega arith, refl)) (e if_false (0, omega arith, refl))
  term_same node (Term.Case on variant if_true if_false) next next' e w l =
      branch_same size m (q.choose (effects.HasVariant (site_of node on) variant) w) (chosen (effects.HasVariant (site_of node on) variant) w l)
      (next if_true) (next' if_true) (next if_false) (next' if_false) (e if_true (1, omega arith, refl)) (e if_false (0, omega arith, refl))
  term_same node (Term.Math to operator left right onward unwind) next next' e w l =
      acts_same size m _ (acted (effects.Compute (site_of node to) operator (operand_of node left) (operand_of node right)) w l) next next' onward unwind e
  term_same node (Term.Negate to operand onward unwind) next next' e w l =
      acts_same size m _ (acted (effects.Negate (site_of node to) (operand_of node operand)) w l) next next' onward unwind e
  term_same node (Term.Bounds index count onward unwind) next next' e w l =
      acts_same size m _ (acted (effects.Bounds (operand_of node index) count) w l) next next' onward unwind e
  term_same node (Term.Call to body args onward unwind) next next' e w l =
      acts_same size m _ (acted (effects.Call (site_of node to) body (operands_of node args)) w l) next next' onward unwind e
  term_same node (Term.Virtual to trait_no method args onward unwind) next next' e w l =
      acts_same size m _ (acted (effects.CallVirtual (site_of node to) trait_no method (operands_of node args)) w l) next next' onward unwind e
  term_same node (Term.Ask to onward unwind) next next' e w l = acts_same size m _ (acted (effects.Ask (site_of node to)) w l) next next' onward unwind e
  term_same node (Term.DropAt place onward unwind) next next' e w l =
      acts_same size m _ (dropped (mode_of unwind) (site_of node place) w l) next next' onward unwind e
  term_same node (Term.Panic why unwind) next next' e w l = panics_same size m next next' unwind e (q.panic why w) (panicked why w l)
  term_same node Term.Return next next' e w l = refl
  term_same node Term.Resume next next' e w l = refl

  term_less : (node : ℕ) (term : Term) (next : Next W) → ((d : ℕ) → Keeps size m (next d)) → Keeps size m (term_does q node term next)
  term_less node (Term.Goto block) next e w l = e block w l
  term_less node (Term.If on if_true if_false) next e w l =
      branch_less size m (q.choose (effects.IsTrue (operand_of node on)) w) (chosen (effects.IsTrue (operand_of node on)) w l)
      (next if_true) (next if_false) (e if_true) (e if_false)
  term_less node (Term.Case on variant if_true if_false) next e w l =
      branch_less size m (q.choose (effects.HasVariant (site_of node on) variant) w) (chosen (effects.HasVariant (site_of node on) variant) w l)
      (next if_true) (next if_false) (e if_true) (e if_false)
  term_less node (Term.Math to operator left right onward unwind) next e w l =
      acts_less size m _ (acted (effects.Compute (site_of node to) operator (operand_of node left) (operand_of node right)) w l) next onward unwind e
  term_less node (Term.Negate to operand onward unwind) next e w l =
      acts_less size m _ (acted (effects.Negate (site_of node to) (operand_of node operand)) w l) next onward unwind e
  term_less node (Term.Bounds index count onward unwind) next e w l =
      acts_less size m _ (acted (effects.Bounds (operand_of node index) count) w l) next onward unwind e
  term_less node (Term.Call to body args onward unwind) next e w l =
      acts_less size m _ (acted (effects.Call (site_of node to) body (operands_of node args)) w l) next onward unwind e
  term_less node (Term.Virtual to trait_no method args onward unwind) next e w l =
      acts_less size m _ (acted (effects.CallVirtual (site_of node to) trait_no method (operands_of node args)) w l) next onward unwind e
  term_less node (Term.Ask to onward unwind) next e w l = acts_less size m _ (acted (effects.Ask (site_of node to)) w l) next onward unwind e
  term_less node (Term.DropAt place onward unwind) next e w l =
      acts_less size m _ (dropped (mode_of unwind) (site_of node place) w l) next onward unwind e
  term_less node (Term.Panic why unwind) next e w l = panics_less size m next unwind e (q.panic why w) (panicked why w l)
  term_less node Term.Return next e w l = weaker size m (size w) (q.give (record { node = node; place = whole_local 0 }) w) l (laws.giving (record { node = node; place = whole_local 0 }) w)
  term_less node Term.Resume next e w l = l

  block_same : (node : ℕ → ℕ) (block : Block) (next next' : Next W) → ((d : ℕ) → Contains (targets block.term) d → Same size m (next d) (next' d)) →
      Same size m (block_does q node block next) (block_does q node block next')
  block_same node block next next' e = stmts_same node 0 block.stmts _ _ (term_same (node (length block.stmts)) block.term next next' e)

  block_less : (node : ℕ → ℕ) (block : Block) (next : Next W) → ((d : ℕ) → Keeps size m (next d)) → Keeps size m (block_does q node block next)
  block_less node block next e = stmts_less node 0 block.stmts _ (term_less (node (length block.stmts)) block.term next e)

module _ {W : Type 0} (size : W → ℕ) (p : Effects W) (laws : Laws p size) (number : ℕ) (node : ℕ → ℕ → ℕ) (body : Body) where
  abbrev block_at : ℕ → Option Block
  block_at n = slice_get body.blocks n

  pub does_same : (m n : ℕ) (block : Block) (next next' : Next W) → ((d : ℕ) → Contains (targets block.term) d → Same size m (next d) (next' d)) →
      Same size m (does_block p number node body n block next) (does_block p number node body n block next')
  does_same m n block next next' e =
      block_same size (naming (stuck_in number n) p) (naming_laws size (stuck_in number n) p laws) m (node n) block next next' e

  does_less : (m n : ℕ) (block : Block) (next : Next W) → ((d : ℕ) → Keeps size m (next d)) → Keeps size m (does_block p number node body n block next)
  does_less m n block next e = block_less size (naming (stuck_in number n) p) (naming_laws size (stuck_in number n) p laws) m (node n) block next e

  kinds_same : (kind : Kind) (n : ℕ) (block : Block) (turn turn' plain plain' : Next W) (w : W) → (is_turn_kind kind ≡ true → turn n w ≡ turn' n w) →
      (is_turn_kind kind ≡ false → plain n w ≡ plain' n w) →
      by_kind p number node body kind n block turn plain w ≡ by_kind p number node body kind n block turn' plain' w
  kinds_same Kind.Plain n block turn turn' plain plain' w e d = d refl
  kinds_same Kind.Turn n block turn turn' plain plain' w e d = e refl
  kinds_same Kind.Cleanup n block turn turn' plain plain' w e d = d refl

  pub entering_same : (o : Option Block) (n : ℕ) (turn turn' plain plain' : Block → Next W) (w : W) →
      ((block : Block) → o ≡ Some block → turn block n w ≡ turn' block n w) →
      ((block : Block) → o ≡ Some block → is_turn block ≡ false → plain block n w ≡ plain' block n w) →
      if_there p number node body o n (λ block. by_kind p number node body block.kind n block (turn block) (plain block)) w
      ≡ if_there p number node body o n (λ block. by_kind p number node body block.kind n block (turn' block) (plain' block)) w
  entering_same None n turn turn' plain plain' w e d = refl
  entering_same (Some block) n turn turn' plain plain' w e d =
      kinds_same block.kind n block (turn block) (turn' block) (plain block) (plain' block) w (λ t. e block refl) (λ f. d block refl f)

  kinds_less : (kind : Kind) (m n : ℕ) (block : Block) (turn plain : Next W) (w : W) → NoMore size m (turn n w) → NoMore size m (plain n w) →
      NoMore size m (by_kind p number node body kind n block turn plain w)
  kinds_less Kind.Plain m n block turn plain w e d = d
  kinds_less Kind.Turn m n block turn plain w e d = e
  kinds_less Kind.Cleanup m n block turn plain w e d = d

  there_less : (o : Option Block) (m n : ℕ) (does : Block → W → Out W) (w : W) → ((block : Block) → NoMore size m (does block w)) →
      NoMore size m (if_there p number node body o n does w)
  there_less None m n does w e = tt
  there_less (Some block) m n does w e = e block

  -- a walk gives nothing back
  blocks_less : (turn : Next W) (m : ℕ) → ((d : ℕ) → Keeps size m (turn d)) → (r n : ℕ) → Keeps size m (blocks p number node body turn r n)
  blocks_less turn m e zero n w l = there_less (block_at n) m n _ w (λ block. kinds_less block.kind m n block turn _ w (e n w l) tt)
  blocks_less turn m e (suc r) n w l =
      there_less (block_at n) m n _ w
      (λ block. kinds_less block.kind m n block turn _ w (e n w l) (does_less m n block (blocks p number node body turn r) (blocks_less turn m e r) w l))

  turns_less : (m t n : ℕ) → Keeps size m (turns p number node body t n)
  turns_less m zero n w l = tt
  turns_less m (suc t) n w l =
      there_less (block_at n) m n _ w
      (λ block. tick_less size m (size w) (p.tick w) l (laws.ticking w) _
      (does_less m n block (from_rank p number node body (turns p number node body t))
      (λ d. blocks_less (turns p number node body t) m (turns_less m t) (suc (rank_at p number node body d)) d)))

  pub walk_less : (m fuel n : ℕ) → Keeps size m (walk p number node body fuel n)
  walk_less m fuel n = blocks_less (turns p number node body fuel) m (turns_less m fuel) (suc (rank_at p number node body n)) n

  pub there_same : (o : Option Block) (n : ℕ) (does does' : Block → W → Out W) (w : W) → ((block : Block) → does block w ≡ does' block w) →
      if_there p number node body o n does w ≡ if_there p number node body o n does' w
  there_same None n does does' w e = refl
  there_same (Some block) n does does' w e = e block

  module _ (ranked : IsRanked body) where
    -- fuel for blocks that are greater than the rank are never met
    blocks_same : (turn turn' : Next W) (m : ℕ) → ((d : ℕ) → Same size m (turn d) (turn' d)) → (r r' n : ℕ) →
        ((block : Block) → block_at n ≡ Some block → is_turn block ≡ false → block.rank < r) →
        ((block : Block) → block_at n ≡ Some block → is_turn block ≡ false → block.rank < r') →
        Same size m (blocks p number node body turn r n) (blocks p number node body turn' r' n)
    blocks_same turn turn' m e zero zero n b b' w l =
        entering_same (block_at n) n (λ block. turn) (λ block. turn') _ _ w (λ block h. e n w l) (λ block h f. refl)
    blocks_same turn turn' m e zero (suc r') n b b' w l =
        entering_same (block_at n) n (λ block. turn) (λ block. turn') _ _ w (λ block h. e n w l)
        (λ block h f. absurd (let k = b block h f in let never : ⊥ = omega arith in never))
    blocks_same turn turn' m e (suc r) zero n b b' w l =
        entering_same (block_at n) n (λ block. turn) (λ block. turn') _ _ w (λ block h. e n w l)
        (λ block h f. absurd (let k = b' block h f in let never : ⊥ = omega arith in never))
    blocks_same turn turn' m e (suc r) (suc r') n b b' w l =
        entering_same (block_at n) n (λ block. turn) (λ block. turn') _ _ w (λ block h. e n w l)
        (λ block h f. does_same m n block (blocks p number node body turn r) (blocks p number node body turn' r')
        (λ d c. blocks_same turn turn' m e r r' d
        (λ to k g. let low = ranked n d block to h c k g in let high = b block h f in omega arith)
        (λ to k g. let low = ranked n d block to h c k g in let high = b' block h f in omega arith)) w l)

    rank_of : (n : ℕ) (block : Block) → block_at n ≡ Some block → rank_at p number node body n ≡ block.rank
    rank_of n block h = ap (λ o. option_map_or (λ (b : Block). b.rank) o 0) h

    by_rank : (n : ℕ) (block : Block) → block_at n ≡ Some block → is_turn block ≡ false → block.rank < suc (rank_at p number node body n)
    by_rank n block h f = let k = rank_of n block h in omega arith

    from_rank_same : (turn turn' : Next W) (m : ℕ) → ((d : ℕ) → Same size m (turn d) (turn' d)) → (n : ℕ) →
        Same size m (from_rank p number node body turn n) (from_rank p number node body turn' n)
    from_rank_same turn turn' m e n =
        blocks_same turn turn' m e (suc (rank_at p number node body n)) (suc (rank_at p number node body n)) n (by_rank n) (by_rank n)

    -- fuel for turns that are greater than what is left are never met
    turns_same : (t t' n : ℕ) (w : W) → size w < t → size w < t' → turns p number node body t n w ≡ turns p number node body t' n w
    turns_same zero t' n w l l' = absurd (let never : ⊥ = omega arith in never)
    turns_same (suc t) zero n w l l' = absurd (let never : ⊥ = omega arith in never)
    turns_same (suc t) (suc t') n w l l' =
        there_same (block_at n) n _ _ w
        (λ block. tick_same size (size w) (p.tick w) (laws.ticking w) _ _
        (λ v k. does_same (size v) n block (from_rank p number node body (turns p number node body t)) (from_rank p number node body (turns p number node body t'))
        (λ d c. from_rank_same (turns p number node body t) (turns p number node body t') (size v)
        (λ h u j. turns_same t t' h u (omega arith) (omega arith)) d) v (omega arith)))

    pub walk_same : (t t' n : ℕ) (w : W) → size w < t → size w < t' → walk p number node body t n w ≡ walk p number node body t' n w
    walk_same t t' n w l l' =
        from_rank_same (turns p number node body t) (turns p number node body t') (size w) (λ h u j. turns_same t t' h u (omega arith) (omega arith)) n w (omega arith)

    -- a turn is what its block does, and then a walk
    turn_walks : (t n : ℕ) (block : Block) → block_at n ≡ Some block → (w : W) → size w < t →
        turns p number node body t n w ≡ does_turn p number node body n block (walk p number node body t) w
    turn_walks zero n block h w l = absurd (let never : ⊥ = omega arith in never)
    turn_walks (suc t) n block h w l =
        ap (λ o. if_there p number node body o n (λ block. does_turn p number node body n block (walk p number node body t)) w) h
        ∙ tick_same size (size w) (p.tick w) (laws.ticking w) _ _
        (λ v k. does_same (size v) n block (walk p number node body t) (walk p number node body (suc t))
        (λ d c u j. walk_same t (suc t) d u (omega arith) (omega arith)) v (omega arith))

    -- the walk is what its first block does, and then a walk
    pub walk_on : (t n : ℕ) (w : W) → size w < t → walk p number node body t n w ≡ unfolded p number node body (walk p number node body t) n w
    walk_on t n w l =
        entering_same (block_at n) n (λ block. turns p number node body t) (λ block n. does_turn p number node body n block (walk p number node body t)) _ _ w
        (λ block h. turn_walks t n block h w l)
        (λ block h f. does_same (size w) n block (blocks p number node body (turns p number node body t) (rank_at p number node body n)) (walk p number node body t)
        (λ d c. blocks_same (turns p number node body t) (turns p number node body t) (size w) (λ i u j. refl)
        (rank_at p number node body n) (suc (rank_at p number node body d)) d
        (λ to k g. let low = ranked n d block to h c k g in let high = rank_of n block h in omega arith)
        (by_rank d)) w (omega arith))
