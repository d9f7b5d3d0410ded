-- Two records of effects that are the same where at most so much is left give the same walk there, with any fuel for
-- turns that are greater than what is left.
use Rattle.std.proofs.Common.{◌≡◌, ℕ, zero, suc, ◌<◌, ◌≤◌, List, [], ◌∷◌, length, slice_get, refl, ap, ◌∙◌, arith}
use Rattle.cfg_graph.specs.declared.graph.Block.{Block}
use Rattle.cfg_graph.specs.declared.graph.Body.{Body}
use Rattle.cfg_graph.specs.declared.statement.Stmt.{Stmt}
use Rattle.cfg_graph.specs.declared.terminator.Term.{Term}
use Rattle.cfg_meaning.proofs.Walks.{naming_laws, go_same, tick_same, acted, does_same, entering_same, there_same}
use Rattle.cfg_meaning.specs.Actions.{site_of, operand_of, operands_of, action_of, mode_of}
use Rattle.cfg_meaning.specs.Walk.{Next, stuck_in, ◌>>=◌, branch, renamed, renamed_choice, naming, unwinding, stmts_do, acts, term_does, block_does, rank_at, does_block, blocks, from_rank, turns, walk}
use Rattle.store_model.proofs.Effects.Laws.{Laws, Tied, Same, fewer_tied}
use Rattle.store_model.specs.Effects as effects
use Rattle.store_model.specs.Effects.{Halt, Out, Effects}
use Rattle.store_model.specs.Places.Place.{whole_local}

module _ {W : Type 0} (size : W → ℕ) where
  naming_tied : (name : Halt → Halt) (p q : Effects W) (m : ℕ) → Tied p q size m → Tied (naming name p) (naming name q) size m
  naming_tied name p q m tied = record {
    acting = λ action w l. ap (renamed name) (tied.acting action w l);
    choosing = λ test w l. ap (renamed_choice name) (tied.choosing test w l);
    dropping = λ mode site w l. ap (renamed name) (tied.dropping mode site w l);
    panicking = tied.panicking;
    ticking = λ w l. ap (renamed name) (tied.ticking w l);
    giving = λ site w l. ap (renamed name) (tied.giving site w l);
  }

  -- a block does the same
  module _ (p q : Effects W) (laws : Laws p size) (m : ℕ) (tied : Tied p q size m) where
    stmts_tied : (node : ℕ → ℕ) (line : ℕ) (stmts : List Stmt) (f f' : W → Out W) → Same size m f f' →
        Same size m (stmts_do p node line stmts f) (stmts_do q node line stmts f')
    stmts_tied node line [] f f' e w l = e w l
    stmts_tied node line (stmt ∷ stmts) f f' e w l =
        go_same size m (p.act (action_of (node line) stmt) w) (acted size p laws m (action_of (node line) stmt) w l)
        (stmts_do p node (suc line) stmts f) (stmts_do q node (suc line) stmts f') (stmts_tied node (suc line) stmts f f' e)
        ∙ ap (λ o. ◌>>=◌ o (stmts_do q node (suc line) stmts f')) (tied.acting (action_of (node line) stmt) w l)

    term_tied : (node : ℕ) (term : Term) (next : Next W) → Same size m (term_does p node term next) (term_does q node term next)
    term_tied node (Term.Goto block) next w l = refl
    term_tied node (Term.If on if_true if_false) next w l =
        ap (λ o. branch o (next if_true) (next if_false)) (tied.choosing (effects.IsTrue (operand_of node on)) w l)
    term_tied node (Term.Case on variant if_true if_false) next w l =
        ap (λ o. branch o (next if_true) (next if_false)) (tied.choosing (effects.HasVariant (site_of node on) variant) w l)
    term_tied node (Term.Math to operator left right onward unwind) next w l =
        ap (λ o. acts o next onward unwind) (tied.acting (effects.Compute (site_of node to) operator (operand_of node left) (operand_of node right)) w l)
    term_tied node (Term.Negate to operand onward unwind) next w l =
        ap (λ o. acts o next onward unwind) (tied.acting (effects.Negate (site_of node to) (operand_of node operand)) w l)
    term_tied node (Term.Bounds index count onward unwind) next w l =
        ap (λ o. acts o next onward unwind) (tied.acting (effects.Bounds (operand_of node index) count) w l)
    term_tied node (Term.Call to body args onward unwind) next w l =
        ap (λ o. acts o next onward unwind) (tied.acting (effects.Call (site_of node to) body (operands_of node args)) w l)
    term_tied node (Term.Virtual to trait_no method args onward unwind) next w l =
        ap (λ o. acts o next onward unwind) (tied.acting (effects.CallVirtual (site_of node to) trait_no method (operands_of node args)) w l)
    term_tied node (Term.Ask to onward unwind) next w l = ap (λ o. acts o next onward unwind) (tied.acting (effects.Ask (site_of node to)) w l)
    term_tied node (Term.DropAt place onward unwind) next w l =
        ap (λ o. acts o next onward unwind) (tied.dropping (mode_of unwind) (site_of node place) w l)
    term_tied node (Term.Panic why unwind) next w l = ap (unwinding unwind next) (tied.panicking why w l)
    term_tied node Term.Return next w l = tied.giving (record { node = node; place = whole_local 0 }) w l
    term_tied node Term.Resume next w l = refl

    block_tied : (node : ℕ → ℕ) (block : Block) (next : Next W) → Same size m (block_does p node block next) (block_does q node block next)
    block_tied node block next =
        stmts_tied node 0 block.stmts (term_does p (node (length block.stmts)) block.term next) (term_does q (node (length block.stmts)) block.term next)
        (term_tied (node (length block.stmts)) block.term next)

module _ {W : Type 0} (size : W → ℕ) (p q : Effects W) (laws : Laws p size) (number : ℕ) (node : ℕ → ℕ → ℕ) (body : Body) where
  does_tied : (m n : ℕ) (block : Block) (next next' : Next W) → Tied p q size m → ((d : ℕ) → Same size m (next d) (next' d)) →
      Same size m (does_block p number node body n block next) (does_block q number node body n block next')
  does_tied m n block next next' tied e w l =
      does_same size p laws number node body m n block next next' (λ d c. e d) w l
      ∙ block_tied size (naming (stuck_in number n) p) (naming (stuck_in number n) q) (naming_laws size (stuck_in number n) p laws) m
      (naming_tied size (stuck_in number n) p q m tied) (node n) block next' w l

  blocks_tied : (turn turn' : Next W) (m : ℕ) → Tied p q size m → ((d : ℕ) → Same size m (turn d) (turn' d)) → (r n : ℕ) →
      Same size m (blocks p number node body turn r n) (blocks q number node body turn' r n)
  blocks_tied turn turn' m tied e zero n w l =
      entering_same size p laws number node body (slice_get body.blocks n) n (λ block. turn) (λ block. turn') _ _ w (λ block h. e n w l) (λ block h f. refl)
  blocks_tied turn turn' m tied e (suc r) n w l =
      entering_same size p laws number node body (slice_get body.blocks n) n (λ block. turn) (λ block. turn') _ _ w (λ block h. e n w l)
      (λ block h f. does_tied m n block (blocks p number node body turn r) (blocks q number node body turn' r) tied (blocks_tied turn turn' m tied e r) w l)

  from_rank_tied : (turn turn' : Next W) (m : ℕ) → Tied p q size m → ((d : ℕ) → Same size m (turn d) (turn' d)) → (n : ℕ) →
      Same size m (from_rank p number node body turn n) (from_rank q number node body turn' n)
  from_rank_tied turn turn' m tied e n = blocks_tied turn turn' m tied e (suc (rank_at p number node body n)) n

  turns_tied : (m t t' n : ℕ) → Tied p q size m → (w : W) → size w ≤ m → size w < t → size w < t' →
      turns p number node body t n w ≡ turns q number node body t' n w
  turns_tied m zero t' n tied w l h h' = absurd (let never : ⊥ = omega arith in never)
  turns_tied m (suc t) zero n tied w l h h' = absurd (let never : ⊥ = omega arith in never)
  turns_tied m (suc t) (suc t') n tied w l h h' =
      there_same size p laws number node body (slice_get body.blocks n) n _ _ w
      (λ block. tick_same size (size w) (p.tick w) (laws.ticking w)
      (does_block p number node body n block (from_rank p number node body (turns p number node body t)))
      (does_block q number node body n block (from_rank q number node body (turns q number node body t')))
      (λ v k. does_tied (size v) n block (from_rank p number node body (turns p number node body t)) (from_rank q number node body (turns q number node body t'))
      (fewer_tied size p q m (size v) (omega arith) tied)
      (from_rank_tied (turns p number node body t) (turns q number node body t') (size v) (fewer_tied size p q m (size v) (omega arith) tied)
      (λ d u j. turns_tied m t t' d tied u (omega arith) (omega arith) (omega arith))) v (omega arith))
      ∙ ap (λ o. ◌>>=◌ o (does_block q number node body n block (from_rank q number node body (turns q number node body t')))) (tied.ticking w l))

  pub walk_tied : (m : ℕ) → Tied p q size m → (t t' n : ℕ) → m < t → m < t' → (w : W) → size w ≤ m →
      walk p number node body t n w ≡ walk q number node body t' n w
  walk_tied m tied t t' n h h' w l =
      from_rank_tied (turns p number node body t) (turns q number node body t') m tied
      (λ d u j. turns_tied m t t' d tied u j (omega arith) (omega arith)) n w l
