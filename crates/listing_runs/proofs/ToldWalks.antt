-- The walk of a body whose lines call bodies that exist, and so the run of a well formed graph, tells of no other.
use Rattle.std.proofs.Common.{◌≡◌, ℕ, zero, suc, ◌<◌, List, [], ◌∷◌, ℤ, length, Option, Some, None, slice_get, refl}
use Rattle.std.specs.Prelude.{⊤}
use Rattle.mir_base.specs.declared.trace.Event.{Event}
use Rattle.mir_base.specs.declared.trace.Why.{Why}
use Rattle.cfg_graph.specs.declared.graph.Block.{Block}
use Rattle.cfg_graph.specs.declared.graph.Body.{Body}
use Rattle.cfg_graph.specs.declared.graph.Kind.{Kind}
use Rattle.cfg_graph.specs.declared.statement.Stmt.{Stmt}
use Rattle.cfg_graph.specs.declared.terminator.Term.{Term}
use Rattle.cfg_graph.specs.declared.terminator.Unwind.{Unwind}
use Rattle.cfg_meaning.specs.Actions.{site_of, operand_of, operands_of, action_of, mode_of}
use Rattle.cfg_meaning.specs.Walk.{Next, stuck_in, ◌>>=◌, fork, branch, renamed, renamed_choice, naming, unwinding, stmts_do, acts, term_does, does_block, by_kind, if_there, rank_at, blocks, from_rank, turns, walk}
use Rattle.store_model.specs.Concrete.Bodies.{CodeOfBodies, ended, after_tick, run_body, outcome_of, run_of}
use Rattle.store_model.specs.Concrete.Effects.{concrete_effects}
use Rattle.store_model.specs.Concrete.Location.{Setting}
use Rattle.store_model.specs.Concrete.State.{State, spend, tick, Answer, Returns, Unwinds as BodyUnwinds, HaltsIn, Bodies, beginning}
use Rattle.store_model.specs.Effects as effects
use Rattle.store_model.specs.Effects.{Action, Test, Mode, EffectSite, Halt, Stuck, Out, Go, Unwind as Unwinds, Halts, Choice, Yes, No, Neither, Effects}
use Rattle.store_model.specs.Places.Place.{whole_local}
use Rattle.listing_write.proofs.Reading.Basics.{Every}
use Rattle.listing_runs.proofs.Told.{Told, Good, told_then, Fine, FineChoice, FineAnswer, BodiesExist, TellsTruly, Calls, choose_fine, act_fine, give_fine}
use Rattle.listing_runs.proofs.ToldDrops.{drop_fine}

module _ (bodies : ℕ) where
  -- effects that tell of no body that does not exist, where actions call none
  pub record FineEffects (p : Effects State) : Type 0 where
    pub acting : (action : Action) → Calls bodies action → (w : State) → Good bodies w → Fine bodies (p.act action w)
    pub choosing : (test : Test) (w : State) → Good bodies w → FineChoice bodies (p.choose test w)
    pub dropping : (mode : Mode) (site : EffectSite) (w : State) → Good bodies w → Fine bodies (p.drop mode site w)
    pub panicking : (why : Why) (w : State) → Good bodies w → Good bodies (p.panic why w)
    pub ticking : (w : State) → Good bodies w → Fine bodies (p.tick w)
    pub giving : (site : EffectSite) (w : State) → Good bodies w → Fine bodies (p.give site w)

  renamed_fine : (name : Halt → Halt) (o : Out State) → Fine bodies o → Fine bodies (renamed name o)
  renamed_fine name (Go w) h = record { fine = h.fine }
  renamed_fine name (Unwinds w) h = record { fine = h.fine }
  renamed_fine name (Halts halt w) h = record { fine = h.fine }

  renamed_choice_fine : (name : Halt → Halt) (o : Choice State) → FineChoice bodies o →
      FineChoice bodies (renamed_choice name o)
  renamed_choice_fine name (Yes w) h = record { fine = h.fine }
  renamed_choice_fine name (No w) h = record { fine = h.fine }
  renamed_choice_fine name (Neither halt w) h = record { fine = h.fine }

  naming_fine : (name : Halt → Halt) (p : Effects State) → FineEffects p → FineEffects (naming name p)
  naming_fine name p laws = record {
    acting = λ action c w l. renamed_fine name (p.act action w) (laws.acting action c w l);
    choosing = λ test w l. renamed_choice_fine name (p.choose test w) (laws.choosing test w l);
    dropping = λ mode site w l. renamed_fine name (p.drop mode site w) (laws.dropping mode site w l);
    panicking = laws.panicking;
    ticking = λ w l. renamed_fine name (p.tick w) (laws.ticking w l);
    giving = λ site w l. renamed_fine name (p.give site w) (laws.giving site w l);
  }

  abbrev Keeps : (State → Out State) → Type 0
  Keeps f = (w : State) → Good bodies w → Fine bodies (f w)

  go_fine : (o : Out State) → Fine bodies o → (f : State → Out State) → Keeps f → Fine bodies (◌>>=◌ o f)
  go_fine (Go w) h f e = e w h.fine
  go_fine (Unwinds w) h f e = record { fine = h.fine }
  go_fine (Halts halt w) h f e = record { fine = h.fine }

  fork_fine : (o : Out State) → Fine bodies o → (f g : State → Out State) → Keeps f → Keeps g → Fine bodies (fork o f g)
  fork_fine (Go w) h f g e d = e w h.fine
  fork_fine (Unwinds w) h f g e d = d w h.fine
  fork_fine (Halts halt w) h f g e d = record { fine = h.fine }

  branch_fine : (o : Choice State) → FineChoice bodies o → (f g : State → Out State) → Keeps f → Keeps g →
      Fine bodies (branch o f g)
  branch_fine (Yes w) h f g e d = e w h.fine
  branch_fine (No w) h f g e d = d w h.fine
  branch_fine (Neither halt w) h f g e d = record { fine = h.fine }

  panics_fine : (next : Next State) (unwind : Unwind) → ((d : ℕ) → Keeps (next d)) → Keeps (unwinding unwind next)
  panics_fine next (Unwind.Block b) e = e b
  panics_fine next Unwind.Resume e = λ w l. record { fine = l }
  panics_fine next Unwind.Abort e = λ w l. record { fine = l }

  acts_fine : (o : Out State) → Fine bodies o → (next : Next State) (to : ℕ) (unwind : Unwind) →
      ((d : ℕ) → Keeps (next d)) → Fine bodies (acts o next to unwind)
  acts_fine o h next to unwind e = fork_fine o h (next to) (unwinding unwind next) (e to) (panics_fine next unwind e)

  -- no statement calls
  stmt_calls : (node : ℕ) (stmt : Stmt) → Calls bodies (action_of node stmt)
  stmt_calls node (Stmt.Put to from) = tt
  stmt_calls node _ = tt

  -- the body that a terminator calls exists
  abbrev pub TermCalls : Term → Type 0
  TermCalls (Term.Call to body args next unwind) = body < bodies
  TermCalls _ = ⊤

  module _ (q : Effects State) (laws : FineEffects q) where
    stmts_fine : (node : ℕ → ℕ) (line : ℕ) (stmts : List Stmt) (f : State → Out State) → Keeps f →
        Keeps (stmts_do q node line stmts f)
    stmts_fine node line [] f e w l = e w l
    stmts_fine node line (stmt ∷ stmts) f e w l =
        go_fine (q.act (action_of (node line) stmt) w)
        (laws.acting (action_of (node line) stmt) (stmt_calls (node line) stmt) w l) _
        (stmts_fine node (suc line) stmts f e)

    term_fine : (node : ℕ) (term : Term) → TermCalls term → (next : Next State) → ((d : ℕ) → Keeps (next d)) →
        Keeps (term_does q node term next)
    term_fine node (Term.Goto block) c next e w l = e block w l
    term_fine node (Term.If on if_true if_false) c next e w l =
        branch_fine (q.choose (effects.IsTrue (operand_of node on)) w)
        (laws.choosing (effects.IsTrue (operand_of node on)) w l) (next if_true) (next if_false) (e if_true)
        (e if_false)
    term_fine node (Term.Case on variant if_true if_false) c next e w l =
        branch_fine (q.choose (effects.HasVariant (site_of node on) variant) w)
        (laws.choosing (effects.HasVariant (site_of node on) variant) w l) (next if_true) (next if_false) (e if_true)
        (e if_false)
    term_fine node (Term.Math to operator left right onward unwind) c next e w l =
        acts_fine _
        (laws.acting (effects.Compute (site_of node to) operator (operand_of node left) (operand_of node right)) tt w l)
        next onward unwind e
    term_fine node (Term.Negate to operand onward unwind) c next e w l =
        acts_fine _ (laws.acting (effects.Negate (site_of node to) (operand_of node operand)) tt w l) next onward
        unwind e
    term_fine node (Term.Bounds index count onward unwind) c next e w l =
        acts_fine _ (laws.acting (effects.Bounds (operand_of node index) count) tt w l) next onward unwind e
    term_fine node (Term.Call to body args onward unwind) c next e w l =
        acts_fine _ (laws.acting (effects.Call (site_of node to) body (operands_of node args)) c w l) next onward
        unwind e
    term_fine node (Term.Virtual to trait_no method args onward unwind) c next e w l =
        acts_fine _ (laws.acting (effects.CallVirtual (site_of node to) trait_no method (operands_of node args)) tt w
        l) next
        onward unwind e
    term_fine node (Term.Ask to onward unwind) c next e w l =
        acts_fine _ (laws.acting (effects.Ask (site_of node to)) tt w l) next onward unwind e
    term_fine node (Term.DropAt place onward unwind) c next e w l =
        acts_fine _ (laws.dropping (mode_of unwind) (site_of node place) w l) next onward unwind e
    term_fine node (Term.Panic why unwind) c next e w l =
        panics_fine next unwind e (q.panic why w) (laws.panicking why w l)
    term_fine node Term.Return c next e w l = laws.giving (record { node = node; place = whole_local 0 }) w l
    term_fine node Term.Resume c next e w l = record { fine = l }

  module _ (p : Effects State) (laws : FineEffects p) (number : ℕ) (node : ℕ → ℕ → ℕ) (body : Body)
      (calls : (n : ℕ) (block : Block) → slice_get body.blocks n ≡ Some block → TermCalls block.term) where
    does_fine : (n : ℕ) (block : Block) → TermCalls block.term → (next : Next State) → ((d : ℕ) → Keeps (next d)) →
        Keeps (does_block p number node body n block next)
    does_fine n block c next e =
        stmts_fine (naming (stuck_in number n) p) (naming_fine (stuck_in number n) p laws) (node n) 0 block.stmts _
        (term_fine (naming (stuck_in number n) p) (naming_fine (stuck_in number n) p laws) (node n (length block.stmts))
        block.term c next e)

    kinds_fine : (kind : Kind) (n : ℕ) (block : Block) (turn plain : Next State) (w : State) → Fine bodies (turn n w) →
        Fine bodies (plain n w) → Fine bodies (by_kind p number node body kind n block turn plain w)
    kinds_fine Kind.Turn n block turn plain w h k = h
    kinds_fine _ n block turn plain w h k = k

    there_fine : (o : Option Block) (n : ℕ) (does : Block → State → Out State) (w : State) → Good bodies w →
        ((block : Block) → o ≡ Some block → Fine bodies (does block w)) →
        Fine bodies (if_there p number node body o n does w)
    there_fine None n does w l e = record { fine = l }
    there_fine (Some block) n does w l e = e block refl

    blocks_fine : (turn : Next State) → ((d : ℕ) → Keeps (turn d)) → (fuel n : ℕ) →
        Keeps (blocks p number node body turn fuel n)
    blocks_fine turn e zero n w l =
        there_fine (slice_get body.blocks n) n _ w l
        (λ block is. kinds_fine block.kind n block turn _ w (e n w l) (record { fine = l }))
    blocks_fine turn e (suc fuel) n w l =
        there_fine (slice_get body.blocks n) n _ w l
        (λ block is. kinds_fine block.kind n block turn _ w (e n w l)
        (does_fine n block (calls n block is) (blocks p number node body turn fuel) (blocks_fine turn e fuel) w l))

    turns_fine : (fuel n : ℕ) → Keeps (turns p number node body fuel n)
    turns_fine zero n w l = record { fine = l }
    turns_fine (suc fuel) n w l =
        there_fine (slice_get body.blocks n) n _ w l
        (λ block is. go_fine (p.tick w) (laws.ticking w l) _
        (does_fine n block (calls n block is) (from_rank p number node body (turns p number node body fuel))
        (λ d. blocks_fine (turns p number node body fuel) (turns_fine fuel) (suc (rank_at p number node body d)) d)))

    pub walk_fine : (fuel n : ℕ) → Keeps (walk p number node body fuel n)
    walk_fine fuel n =
        blocks_fine (turns p number node body fuel) (turns_fine fuel) (suc (rank_at p number node body n)) n

  spent_fine : (n : ℕ) (w : State) → Good bodies w → Fine bodies (spend n w)
  spent_fine zero w l = record { fine = l }
  spent_fine (suc n) w l = record { fine = l }

  ended_fine : (body answer : ℕ) (o : Out State) → body < bodies → Fine bodies o →
      FineAnswer bodies (ended body answer o)
  ended_fine body answer (Go w) lt h = record { fine = told_then bodies (Event.Return body) lt w h.fine }
  ended_fine body answer (Unwinds w) lt h = record { fine = told_then bodies (Event.Unwind body) lt w h.fine }
  ended_fine body answer (Halts halt w) lt h = record { fine = h.fine }

  after_tick_fine : (o : Out State) → Fine bodies o → (next : State → Answer) →
      ((w : State) → Good bodies w → FineAnswer bodies (next w)) → FineAnswer bodies (after_tick o next)
  after_tick_fine (Go w) h next e = e w h.fine
  after_tick_fine (Unwinds w) h next e = record { fine = h.fine }
  after_tick_fine (Halts halt w) h next e = record { fine = h.fine }

  module _ (setting : Setting) (exist : BodiesExist bodies setting.items) where
    effects_fine : (run : Bodies) → TellsTruly bodies run → (fuel : ℕ) → FineEffects (concrete_effects setting run fuel)
    effects_fine run truly fuel = record {
      acting = λ action c w l. act_fine bodies setting exist run truly action c w l;
      choosing = λ test w l. choose_fine bodies setting test w l;
      dropping = λ mode site w l. drop_fine bodies setting exist run truly fuel mode site w l;
      panicking = λ why w l. told_then bodies (Event.Panicked why) tt w l;
      ticking = λ w l. spent_fine w.ticks w l;
      giving = λ site w l. give_fine bodies setting exist run truly site w l;
    }

    module _ (code : CodeOfBodies)
        (within : (p : Effects State) → FineEffects p → (turns body : ℕ) → Keeps (code.within p turns body)) where
      bodies_fine : (n : ℕ) → TellsTruly bodies (run_body setting code n)
      bodies_fine zero event body args w h lt l = record { fine = l }
      bodies_fine (suc n) event body args w h lt l =
          after_tick_fine (tick w) (spent_fine w.ticks w l) _
          (λ v k. ended_fine body (code.answer body) _ lt
          (within (concrete_effects setting (run_body setting code n) (suc n))
          (effects_fine (run_body setting code n) (bodies_fine n) (suc n)) (suc n) body _
          (told_then bodies event h v k)))

      outcome_told : (answer : Answer) → FineAnswer bodies answer → Every (Told bodies) (outcome_of answer).0
      outcome_told (Returns value w) h = h.fine
      outcome_told (BodyUnwinds w) h = h.fine
      outcome_told (HaltsIn halt w) h = h.fine

      pub run_told : (main : ℕ) → main < bodies → (asked : List ℤ) (ticks : ℕ) →
          Every (Told bodies) (run_of setting code main asked ticks).0
      run_told main lt asked ticks =
          outcome_told (run_body setting code (suc ticks) (Event.Call main) main [] (beginning asked ticks))
          (bodies_fine (suc ticks) (Event.Call main) main [] (beginning asked ticks) lt lt tt)
