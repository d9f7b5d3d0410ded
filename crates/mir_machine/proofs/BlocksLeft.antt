-- What is left as a block begins, and after its statements.
use Rattle.std.proofs.Common.{◌≡◌, ℕ, zero, suc, ◌≤◌, Bool, true, false, List, [], ◌∷◌, Some, None, refl, ap, sym, subst, ◌∙◌, arith}
use Rattle.std.specs.Prelude.{slice_get}
use Rattle.cfg_graph.specs.declared.graph.Block.{Block}
use Rattle.cfg_graph.specs.declared.graph.Body.{Body}
use Rattle.cfg_graph.specs.declared.graph.Graph.{Graph}
use Rattle.cfg_graph.specs.declared.graph.Kind.{Kind}
use Rattle.cfg_graph.specs.declared.statement.Stmt.{Stmt}
use Rattle.cfg_meaning.specs.Actions.{action_of}
use Rattle.cfg_meaning.specs.Laws.{bodies_of, concrete_effects_of}
use Rattle.cfg_meaning.specs.Programs.{setting_of}
use Rattle.cfg_meaning.specs.Walk.{block_does, naming, stmts_do, stuck_in, term_does, unfolded}
use Rattle.mir_base.specs.declared.trace.End.{End}
use Rattle.mir_base.specs.Trace.{Trace}
use Rattle.mir_machine.proofs.RunsLeft.{walk_on}
use Rattle.mir_machine.proofs.TasksLeft.{ends_halted, ends_lost, moved}
use Rattle.mir_machine.specs.declared.tasks.Doing.{Doing}
use Rattle.mir_machine.specs.declared.tasks.Task.{Task}
use Rattle.mir_machine.specs.Continuation.{walks}
use Rattle.mir_machine.specs.Tasks.{AreRanked, AtBlock, AtTerm, BeginsSo, DoesStmts, Keeps, Next, StmtsEnd, begun, lost_end}
use Rattle.machine_steps.specs.Acting.{DoesAct}
use Rattle.machine_steps.specs.declared.actions.Outcome.{Outcome}
use Rattle.machine_steps.specs.declared.world.World.{World}
use Rattle.machine_steps.specs.Steps.{seen, Goes, Panics, Halted}
use Rattle.machine_steps.specs.Worlds.{state_of, run_setting}
use Rattle.store_model.proofs.Concrete.Effects.{ticks_of, values_laws}
use Rattle.store_model.proofs.Effects.Laws.{NoMore}
use Rattle.store_model.specs.Concrete.Bodies.{ended}
use Rattle.store_model.specs.Concrete.Effects.{act, concrete_effects}
use Rattle.store_model.specs.Concrete.Location.{Setting}
use Rattle.store_model.specs.Concrete.State.{Bodies, HaltsIn, State, tick}
use Rattle.store_model.specs.Effects.{Halt, OutOfTicks, Stuck, StuckAt, Out, Go, Unwind, Halts}

-- Statements.

module _ (setting : Setting) (run : Bodies) (fuel : ℕ) (name : Halt → Halt) (rest : State → Out State) (line : ℕ) (stmt : Stmt) (stmts : List Stmt) (w v : State) where
  abbrev pub all_do : ℕ → List Stmt → State → Out State
  all_do line stmts w = stmts_do (naming name (concrete_effects setting run fuel)) (λ line. 0) line stmts rest w

  pub stmt_goes : seen (act setting run (action_of 0 stmt) w) ≡ Goes v → all_do line (stmt ∷ stmts) w ≡ all_do (suc line) stmts v
  stmt_goes e = go (act setting run (action_of 0 stmt) w) refl
    where
      go : (out : Out State) → act setting run (action_of 0 stmt) w ≡ out → all_do line (stmt ∷ stmts) w ≡ all_do (suc line) stmts v
      go (Go x) f = let k : Goes x ≡ Goes v = sym (ap seen f) ∙ e in let same : x ≡ v = cc in rw f (ap (all_do (suc line) stmts) same)
      go (Unwind x) f = absurd (let k : Panics x ≡ Goes v = sym (ap seen f) ∙ e in cc)
      go (Halts halt x) f = absurd (let k : Halted halt x.trace ≡ Goes v = sym (ap seen f) ∙ e in cc)

  pub stmt_panics : seen (act setting run (action_of 0 stmt) w) ≡ Panics v → StmtsEnd name rest (all_do line (stmt ∷ stmts) w) Outcome.Panics v
  stmt_panics e = go (act setting run (action_of 0 stmt) w) refl
    where
      go : (out : Out State) → act setting run (action_of 0 stmt) w ≡ out → StmtsEnd name rest (all_do line (stmt ∷ stmts) w) Outcome.Panics v
      go (Go x) f = absurd (let k : Goes x ≡ Panics v = sym (ap seen f) ∙ e in cc)
      go (Unwind x) f = let k : Panics x ≡ Panics v = sym (ap seen f) ∙ e in let same : x ≡ v = cc in (x, rw f refl, ap (λ (v : State). v.trace) same)
      go (Halts halt x) f = absurd (let k : Halted halt x.trace ≡ Panics v = sym (ap seen f) ∙ e in cc)

  pub stmt_stops : seen (act setting run (action_of 0 stmt) w) ≡ Halted Stuck v.trace → StmtsEnd name rest (all_do line (stmt ∷ stmts) w) Outcome.Stuck v
  stmt_stops e = go (act setting run (action_of 0 stmt) w) refl
    where
      go : (out : Out State) → act setting run (action_of 0 stmt) w ≡ out → StmtsEnd name rest (all_do line (stmt ∷ stmts) w) Outcome.Stuck v
      go (Go x) f = absurd (let k : Goes x ≡ Halted Stuck v.trace = sym (ap seen f) ∙ e in cc)
      go (Unwind x) f = absurd (let k : Panics x ≡ Halted Stuck v.trace = sym (ap seen f) ∙ e in cc)
      go (Halts halt x) f =
          let k : Halted halt x.trace ≡ Halted Stuck v.trace = sym (ap seen f) ∙ e in
          let same : halt ≡ Stuck = cc in
          let trace : x.trace ≡ v.trace = cc in
          (x, rw f (ap (λ halt. Halts (name halt) x) same), trace)

-- bodies that halt at once
abbrev no_bodies : Bodies
no_bodies event body args w = HaltsIn OutOfTicks w

less_of : (m : ℕ) (out : Out State) (v : State) → seen out ≡ Goes v → NoMore ticks_of m out → v.ticks ≤ m
less_of m (Go x) v e l = let same : x ≡ v = cc in subst (λ (v : State). v.ticks ≤ m) same l
less_of m (Unwind x) v e l = absurd (cc)
less_of m (Halts halt x) v e l = absurd (cc)

-- a statement gives no ticks back
pub stmt_ticks : (old new : World) (stmt : Stmt) → DoesAct (action_of 0 stmt) old Outcome.Goes new → new.ticks ≤ old.ticks
stmt_ticks old new stmt does =
    less_of old.ticks (act (run_setting old) no_bodies (action_of 0 stmt) (state_of [] old)) (state_of [] new) (does no_bodies [])
    ((values_laws (run_setting old) no_bodies (λ m event body args w l. record { kept = tt }) 0).acting (action_of 0 stmt) (state_of [] old))

-- Blocks.

begun_ticks : (kind : Kind) (w after : State) → begun kind w ≡ Go after → after.ticks ≤ w.ticks
begun_ticks Kind.Plain w after e = let same : w ≡ after = cc in (let k = ap ticks_of same in omega arith)
begun_ticks Kind.Cleanup w after e = let same : w ≡ after = cc in (let k = ap ticks_of same in omega arith)
begun_ticks Kind.Turn w after e = go w.ticks refl
  where
    go : (n : ℕ) → w.ticks ≡ n → after.ticks ≤ w.ticks
    go zero t = absurd (let k : Halts OutOfTicks w ≡ Go after = sym (rw t refl) ∙ e in cc)
    go (suc n) t =
        let k : Go (record w { ticks = n }) ≡ Go after = sym (rw t refl) ∙ e in
        let same : record w { ticks = n } ≡ after = cc in
        (let i = ap ticks_of same in omega arith)

module _ (graph : Graph) (tasks : List Task) (old : World) (number block : ℕ) where
  pub no_such_body : slice_get graph.bodies number ≡ None → (doing : Doing) → Keeps graph old old (AtBlock graph tasks number block) (Next graph tasks doing)
  no_such_body none doing strict ticks run before ranked runs h = absurd (let k : None ≡ Some h.is_answer.body = sym none ∙ h.is_answer.there in cc)

  module _ (body : Body) (there : slice_get graph.bodies number ≡ Some body) where
    -- the walk of the body is that of this one
    walks_here : (strict : Bool) (ticks : ℕ) (run : Trace × End) (w : State) (h : AtBlock graph tasks number block strict ticks run w) → h.answer ≡ ended number 0 (walks strict graph ticks number body block w)
    walks_here strict ticks run w h =
        let k : Some h.is_answer.body ≡ Some body = sym h.is_answer.there ∙ there in
        let same : h.is_answer.body ≡ body = cc in
        h.is_answer.ends ∙ ap (λ b. ended number 0 (walks strict graph ticks number b block w)) same

    pub no_such_block : slice_get body.blocks block ≡ None → (doing : Doing) → doing ≡ Doing.Ended (End.Stuck number block) → Keeps graph old old (AtBlock graph tasks number block) (Next graph tasks doing)
    no_such_block none doing is strict ticks run before ranked runs h =
        let w = state_of before old in (
          runs,
          subst (λ doing. Next graph tasks doing strict ticks run w) (sym is)
              (ends_halted strict graph ticks run tasks (suc w.ticks) w (StuckAt number block) tt w
              (record {
                waiting = h.waiting;
                waits = h.waits;
                answer = h.answer;
                is_answer = walks_here strict ticks run w h ∙ ap (ended number 0) (walk_on strict graph ticks number body (ranked number body there) block w h.within) ∙ rw none refl;
                is = h.is;
                within = h.within;
              })),
        )

    module _ (found : Block) (stands : slice_get body.blocks block ≡ Some found) where
      block_on : (strict : Bool) (ticks : ℕ) (w after : State) → begun found.kind w ≡ Go after → AreRanked graph → w.ticks ≤ ticks →
          walks strict graph ticks number body block w ≡ block_does (naming (stuck_in number block) (concrete_effects_of strict graph ticks)) (λ line. 0) found (walks strict graph ticks number body) after
      block_on strict ticks w after e ranked l = walk_on strict graph ticks number body (ranked number body there) block w l ∙ go found.kind refl
        where
          go : (kind : Kind) → found.kind ≡ kind →
              unfolded (concrete_effects_of strict graph ticks) number (λ block line. 0) body (walks strict graph ticks number body) block w
              ≡ block_does (naming (stuck_in number block) (concrete_effects_of strict graph ticks)) (λ line. 0) found (walks strict graph ticks number body) after
          go Kind.Turn k = let t : tick w ≡ Go after = ap (λ k. begun k w) (sym k) ∙ e in rw (stands, k, t) refl
          go Kind.Plain k =
              let t : Go w ≡ Go after = ap (λ k. begun k w) (sym k) ∙ e in
              let same : w ≡ after = cc in
              rw (stands, k) (ap (block_does (naming (stuck_in number block) (concrete_effects_of strict graph ticks)) (λ line. 0) found (walks strict graph ticks number body)) same)
          go Kind.Cleanup k =
              let t : Go w ≡ Go after = ap (λ k. begun k w) (sym k) ∙ e in
              let same : w ≡ after = cc in
              rw (stands, k) (ap (block_does (naming (stuck_in number block) (concrete_effects_of strict graph ticks)) (λ line. 0) found (walks strict graph ticks number body)) same)

      -- there is no tick for a turn
      pub no_tick : (mid : World) → run_setting mid ≡ run_setting old → ((before : Trace) → BeginsSo found.kind (state_of before old) false (state_of before mid)) →
          Keeps graph old mid (AtBlock graph tasks number block) (Next graph tasks (Doing.Ended End.OutOfTicks))
      no_tick mid same begins strict ticks run before ranked runs h =
          let w = state_of before old in (
            same ∙ runs,
            ends_halted strict graph ticks run tasks (suc w.ticks) w OutOfTicks tt w
                (record {
                  waiting = h.waiting;
                  waits = h.waits;
                  answer = h.answer;
                  is_answer = walks_here strict ticks run w h ∙ ap (ended number 0) (walk_on strict graph ticks number body (ranked number body there) block w h.within ∙ go found.kind refl);
                  is = h.is;
                  within = h.within;
                })
                ∙ ap (λ (v : State). (v.trace, End.OutOfTicks)) (sym (begins before).1),
          )
        where
          go : (kind : Kind) → found.kind ≡ kind → unfolded (concrete_effects_of strict graph ticks) number (λ block line. 0) body (walks strict graph ticks number body) block (state_of before old) ≡ Halts OutOfTicks (state_of before old)
          go Kind.Turn k = let t : tick (state_of before old) ≡ Halts OutOfTicks (state_of before old) = ap (λ k. begun k (state_of before old)) (sym k) ∙ (begins before).0 in rw (stands, k, t) refl
          go Kind.Plain k = absurd (let t : Go (state_of before old) ≡ Halts OutOfTicks (state_of before old) = ap (λ k. begun k (state_of before old)) (sym k) ∙ (begins before).0 in cc)
          go Kind.Cleanup k = absurd (let t : Go (state_of before old) ≡ Halts OutOfTicks (state_of before old) = ap (λ k. begun k (state_of before old)) (sym k) ∙ (begins before).0 in cc)

      module _ (mid new : World) (same : run_setting mid ≡ run_setting old) (begins : (before : Trace) → BeginsSo found.kind (state_of before old) true (state_of before mid)) where
        abbrev rest_of : (strict : Bool) (ticks : ℕ) → State → Out State
        rest_of strict ticks w = term_does (naming (stuck_in number block) (concrete_effects_of strict graph ticks)) 0 found.term (walks strict graph ticks number body) w

        abbrev stmts_of : (strict : Bool) (ticks : ℕ) → State → Out State
        stmts_of strict ticks w = stmts_do (naming (stuck_in number block) (concrete_effects_of strict graph ticks)) (λ line. 0) 0 found.stmts (rest_of strict ticks) w

        stmts_answer : (strict : Bool) (ticks : ℕ) (run : Trace × End) (before : Trace) (h : AtBlock graph tasks number block strict ticks run (state_of before old)) → AreRanked graph →
            h.answer ≡ ended number 0 (stmts_of strict ticks (state_of before mid))
        stmts_answer strict ticks run before h ranked =
            walks_here strict ticks run (state_of before old) h ∙ ap (ended number 0) (block_on strict ticks (state_of before old) (state_of before mid) (begins before) ranked h.within)

        stmts_end : (outcome : Outcome) → DoesStmts found.stmts mid outcome new → (strict : Bool) (ticks : ℕ) (before : Trace) → run_setting old ≡ setting_of strict graph →
            StmtsEnd (stuck_in number block) (rest_of strict ticks) (stmts_of strict ticks (state_of before mid)) outcome (state_of before new)
        stmts_end outcome does strict ticks before runs =
            subst (λ (s : Setting). StmtsEnd (stuck_in number block) (rest_of strict ticks)
            (stmts_do (naming (stuck_in number block) (concrete_effects s (bodies_of strict graph ticks) (suc ticks))) (λ line. 0) 0 found.stmts (rest_of strict ticks) (state_of before mid)) outcome (state_of before new)) (same ∙ runs)
            (does (bodies_of strict graph ticks) (suc ticks) (stuck_in number block) (rest_of strict ticks) before)

        module _ (same_after : run_setting new ≡ run_setting mid) where
          pub stmts_go_on : (others : List Task) (last : World) (doing : Doing) → DoesStmts found.stmts mid Outcome.Goes new → new.ticks ≤ mid.ticks → Keeps graph new last (AtTerm graph tasks number block found.term) (Next graph others doing) →
              Keeps graph old last (AtBlock graph tasks number block) (Next graph others doing)
          stmts_go_on others last doing does less k strict ticks run before ranked runs h =
              let w = state_of before old in
              let v = state_of before new in
              let least = begun_ticks found.kind w (state_of before mid) (begins before) in
              k strict ticks run before ranked (same_after ∙ same ∙ runs) (
                rw (there, stands) refl,
                moved strict graph ticks run tasks (suc w.ticks) (suc v.ticks) w v (λ answer. answer ≡ ended number 0 (rest_of strict ticks v)) _ (omega arith) (omega arith)
                    (λ answer e. record { body = body; there = there; ends = e })
                    (record {
                      waiting = h.waiting;
                      waits = h.waits;
                      answer = h.answer;
                      is_answer = stmts_answer strict ticks run before h ranked ∙ ap (ended number 0) (stmts_end Outcome.Goes does strict ticks before runs);
                      is = h.is;
                      within = h.within;
                    }),
              )

          pub stmts_lost : (doing : Doing) → DoesStmts found.stmts mid Outcome.Panics new → doing ≡ Doing.Ended (lost_end tasks) → Keeps graph old new (AtBlock graph tasks number block) (Next graph tasks doing)
          stmts_lost doing does is strict ticks run before ranked runs h =
              let w = state_of before old in
              let stops = stmts_end Outcome.Panics does strict ticks before runs in (
                same_after ∙ same ∙ runs,
                subst (λ doing. Next graph tasks doing strict ticks run (state_of before new)) (sym is)
                    (ends_lost strict graph ticks run tasks (suc w.ticks) w stops.0
                    (record {
                      waiting = h.waiting;
                      waits = h.waits;
                      answer = h.answer;
                      is_answer = stmts_answer strict ticks run before h ranked ∙ ap (ended number 0) stops.1;
                      is = h.is;
                      within = h.within;
                    })
                    ∙ ap (λ t. (t, lost_end tasks)) stops.2),
              )

          pub stmts_stuck : (doing : Doing) → DoesStmts found.stmts mid Outcome.Stuck new → doing ≡ Doing.Ended (End.Stuck number block) → Keeps graph old new (AtBlock graph tasks number block) (Next graph tasks doing)
          stmts_stuck doing does is strict ticks run before ranked runs h =
              let w = state_of before old in
              let stops = stmts_end Outcome.Stuck does strict ticks before runs in (
                same_after ∙ same ∙ runs,
                subst (λ doing. Next graph tasks doing strict ticks run (state_of before new)) (sym is)
                    (ends_halted strict graph ticks run tasks (suc w.ticks) w (StuckAt number block) tt stops.0
                    (record {
                      waiting = h.waiting;
                      waits = h.waits;
                      answer = h.answer;
                      is_answer = stmts_answer strict ticks run before h ranked ∙ ap (ended number 0) stops.1;
                      is = h.is;
                      within = h.within;
                    })
                    ∙ ap (λ t. (t, End.Stuck number block)) stops.2),
              )
