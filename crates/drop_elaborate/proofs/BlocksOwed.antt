-- What is owed of a block that a path comes to is met, but for what its drop does: its statements, its terminator, and
-- where it leads, given that from the next blocks on both runs do the same.
use Rattle.std.proofs.Common.{◌≡◌, ◌⊎◌, inl, inr, ℕ, ◌<◌, Bool, true, false, List, [], ◌++◌, map, length, Option, Some, None, slice_get, Contains, refl, ap, sym, ◌∙◌, subst}
use Rattle.mir_base.specs.declared.trace.Event.{Event}
use Rattle.mir_ty.specs.declared.ty.Ty.{Ty}
use Rattle.mir_ty.specs.declared.ty.TyId.{TyId}
use Rattle.mir_ty.specs.ItemTable.{ItemTable, type_at}
use Rattle.cfg_graph.specs.declared.graph.Block.{Block}
use Rattle.cfg_graph.specs.declared.graph.Body.{Body}
use Rattle.cfg_graph.specs.declared.statement.Stmt.{Stmt}
use Rattle.cfg_graph.specs.declared.terminator.Term.{Term}
use Rattle.cfg_graph.specs.declared.terminator.Unwind.{Unwind}
use Rattle.cfg_graph.specs.Edges.{unwind_of, targets}
use Rattle.cfg_graph.specs.Moves.Actions.{at_line, stmt_actions, block_actions, actions_on}
use Rattle.cfg_graph.specs.Moves.BadUses.{bad_uses_on}
use Rattle.cfg_graph.specs.Moves.Gone.{PathAction}
use Rattle.cfg_graph.specs.Moves.Paths.{IsPath}
use Rattle.cfg_graph.specs.NamedPlaces.{keeps_named}
use Rattle.cfg_graph.specs.Uses.{Stores, stmt_uses, term_uses, stored_by_term}
use Rattle.cfg_meaning.specs.Actions.{action_of}
use Rattle.cfg_meaning.specs.Walk.{Next, naming, unwinding, stmts_do, term_does}
use Rattle.store_model.specs.declared.address.Addr.{Addr}
use Rattle.store_model.proofs.Concrete.Effects.{ticks_of, Thrifty}
use Rattle.store_model.specs.Concrete.Effects.{concrete_effects}
use Rattle.store_model.specs.Concrete.Location.{Setting}
use Rattle.store_model.specs.Concrete.State.{State, Bodies}
use Rattle.store_model.specs.Effects as effects
use Rattle.store_model.specs.Effects.{Out, Go, Halts, Effects, Aborted}
use Rattle.store_model.specs.Places.Place.{Place, whole_local}
use Rattle.store_model.specs.Places.TypeForms.{is_never}
use Rattle.store_model.specs.Values.Datum.{Datum}
use Rattle.drop_values.specs.Like.{Flags, SameBodies, IsStuck, raw_setting, strict_setting, Extends}
use Rattle.drop_values.proofs.Actions.{Stays}
use Rattle.drop_values.proofs.Counting.{after-zero}
use Rattle.drop_values.proofs.Touched.{AllNameFull, KeepsOlder}
use Rattle.drop_elaborate.proofs.BlockEnds.{BlockOwed}
use Rattle.drop_elaborate.proofs.BlockPaths as within
use Rattle.drop_elaborate.proofs.CalledBodies.{CalleesOk}
use Rattle.drop_elaborate.proofs.Entered.{Enters}
use Rattle.drop_elaborate.proofs.Held.{Held}
use Rattle.drop_elaborate.proofs.LinesOwed.{stmt-Owed}
use Rattle.drop_elaborate.proofs.TermsOwed.{term-Owed}
use Rattle.drop_elaborate.proofs.OtherLines.{place-type}
use Rattle.drop_elaborate.proofs.PathFacts.{Follows}
use Rattle.drop_elaborate.proofs.PathGrows.{OnPath}
use Rattle.drop_elaborate.proofs.ReadyBody.{BodyIsReady}
use Rattle.drop_elaborate.proofs.Statements.{At, ActionOwed, up_to}
use Rattle.drop_elaborate.proofs.Walks.{unplaced, Walks}
use Rattle.drop_elaborate.proofs.Ways.{After}
use Rattle.drop_elaborate.specs.Elaborated.{flag_at, is_drop, kind_after, Ends}

module _ (items : ItemTable) (local_ty local_ty' : (body local : ℕ) → Option TyId)
    (extends : Extends local_ty local_ty') (number depth bodies : ℕ) (outer : Flags) (body : Body) (flagged : List
    Place)
    (flag_ty : TyId) (flag_is : type_at items flag_ty ≡ Some Ty.Bool)
    (added : (n : ℕ) → n < length flagged → (local_ty number (flag_at items body flagged n) ≡ None)
    × (local_ty' number (flag_at items body flagged n) ≡ Some flag_ty))
    (addresses : List Addr) (before : State) (given : AllNameFull items local_ty before addresses)
    (locals_are : (k : ℕ) → local_ty number k ≡ slice_get body.locals k) (ready : BodyIsReady items bodies body)
    (bodies_are : (n : ℕ) (block : Block) → slice_get body.blocks n ≡ Some block → (m : ℕ) →
    Contains (targets block.term) m → (found : Block) × (slice_get body.blocks m ≡ Some found))
    (callees : CalleesOk items local_ty bodies) (run run' : Bodies) (thrifty : Thrifty run)
    (keeps : KeepsOlder items local_ty (Enters items local_ty) run) (bound most : ℕ)
    (tie : SameBodies local_ty (Enters items local_ty) most run run')
    (stays : (flags : Flags) (event : Event) (callee : ℕ) (args : List Datum) (w : State) →
    Enters items local_ty callee args w → Stays items local_ty local_ty' extends flags depth number w (run event
    callee args w))
    (fine : (path : List ℕ) (given : List Bool) → IsPath items body path given → bad_uses_on items body path ≡ [])
    (kept : (path : List ℕ) (given : List Bool) (local : ℕ) → IsPath items body path given →
    keeps_named body (actions_on body path) local ≡ true)
    (body' : Body) (WalkE : Next State) (walks : Walks
    (naming unplaced (concrete_effects (strict_setting items local_ty') run' bound)) ticks_of most body'
    (λ block line. 0) WalkE) (P : Out State → Out State → Type 0)
    (stuck : (halt : effects.Halt) (w : State) (o : Out State) → IsStuck halt → P (Halts halt w) o)
    (halts : (halt : effects.Halt) (w w' : State) → w'.trace ≡ w.trace → P (Halts halt w) (Halts halt w')) where
  abbrev raw : Setting
  raw = raw_setting items local_ty

  abbrev p : Effects State
  p = naming unplaced (concrete_effects raw run bound)

  abbrev q : Effects State
  q = naming unplaced (concrete_effects (strict_setting items local_ty') run' bound)

  abbrev HeldNow : List PathAction → State → Type 0
  HeldNow actions w = Held items local_ty number depth body addresses before given locals_are actions w

  abbrev pub AtHere : List PathAction → State → State → Type 0
  AtHere acts w w' =
      At items local_ty local_ty' extends number depth outer body flagged flag_ty flag_is added run' bound run most
      (Enters items local_ty) tie stays HeldNow acts w w'

  module _ (n : ℕ) (block : Block) (at : slice_get body.blocks n ≡ Some block) (acts : List PathAction)
      (here : OnPath items body n acts) (nextR : Next State) where
    abbrev stmts_done : List PathAction
    stmts_done = acts ++ stmt_actions n 0 block.stmts

    abbrev used_up : List PathAction
    used_up = at_line n (length block.stmts) (term_uses block.term)

    abbrev stored_up : List PathAction
    stored_up = at_line n (length block.stmts) (map (λ place. (Stores, place)) (stored_by_term block.term))

    -- what is left to show: the next blocks, the way out of the body, and the drop
    pub record Left : Type 0 where
      pub next : (m : ℕ) (done : List PathAction) → Contains (targets block.term) m → OnPath items body m done →
          (v v' : State) → AtHere done v v' → P (nextR m v) (WalkE m v')
      pub resumes : (done : List PathAction) (v v' : State) → AtHere done v v' →
          P (effects.Unwind v) (effects.Unwind v')
      pub gives : (v v' : State) → AtHere stmts_done v v' →
          P (p.give (record { node = 0; place = whole_local 0 }) v)
          (q.give (record { node = 0; place = whole_local 0 }) v')
      pub drops : (ending : List Stmt) (term' : Term) (line' : ℕ) (v v' : State) →
          is_drop block.term ≡ true → Ends items body flagged body' n
          (kind_after items body flagged body' block.kind) block.term ending term' → AtHere stmts_done v v' →
          P (term_does p 0 block.term nextR v) (stmts_do q (λ line. 0) line' ending (term_does q 0 term' WalkE) v')

    module _ (left : Left) where
      panics-so : (unwind : Unwind) → is_drop block.term ≡ false →
          (unwind ≡ Unwind.Resume) ⊎ Contains (unwind_of block.term) unwind → (v v' : State) →
          AtHere (stmts_done ++ used_up) v v' → P (unwinding unwind nextR v) (unwinding unwind WalkE v')
      panics-so Unwind.Resume d u v v' a = left.resumes (stmts_done ++ used_up) v v' a
      panics-so Unwind.Abort d u v v' a = halts Aborted v v' a.like.trace
      panics-so (Unwind.Block m) d (inl e) v v' a = absurd (let x : Unwind.Block m ≡ Unwind.Resume = e in cc)
      panics-so (Unwind.Block m) d (inr c) v v' a =
          left.next m (acts ++ block_actions n block) (within.unwind-target items body bodies ready bodies_are fine
          kept n block at acts here
          m c)
          (within.panic-target items body bodies ready bodies_are fine kept n block at acts here
          block.term refl d m c) v v' (subst (λ l. AtHere l v v')
          (within.grouped items body bodies ready bodies_are fine kept n block at acts here) a)

      stmt-owed : (k : ℕ) (stmt : Stmt) → slice_get block.stmts k ≡ Some stmt →
          ActionOwed items local_ty local_ty' extends number depth outer body flagged flag_ty flag_is added run' bound
          run most
          (Enters items local_ty) tie stays HeldNow (up_to n 0 acts block.stmts k) (at_line n k (stmt_uses stmt))
          (action_of 0 stmt)
      stmt-owed k stmt e =
          let c = within.stmt-comes items body n 0 acts used_up block.stmts k stmt e
          (within.follows items body bodies ready bodies_are fine kept n block at acts here) in
          stmt-Owed items local_ty local_ty' extends number depth bodies outer body flagged flag_ty flag_is added
          addresses before
          given locals_are ready callees run run' thrifty keeps bound most tie stays n k block stmt at e
          (up_to n 0 acts block.stmts k) c.rest
          (subst (λ j. Follows items body (up_to n 0 acts block.stmts k) (at_line n j (stmt_uses stmt) ++ c.rest))
          (after-zero k) c.follows)

      pub block-Owed : BlockOwed items local_ty local_ty' extends number depth outer body flagged flag_ty flag_is
          added run run'
          bound most (Enters items local_ty) tie stays HeldNow body' WalkE walks P stuck halts n block acts nextR
      block-Owed = record {
        stmts = λ k stmt e.
            subst (λ j. ActionOwed items local_ty local_ty' extends number depth outer body flagged flag_ty flag_is
            added run' bound
            run most (Enters items local_ty) tie stays HeldNow (up_to n 0 acts block.stmts k) (at_line n j (stmt_uses
            stmt))
            (action_of 0 stmt)) (sym (after-zero k)) (stmt-owed k stmt e);
        term = λ v v' a. term-Owed items local_ty local_ty' extends number depth bodies outer body flagged flag_ty
            flag_is added
            addresses before given locals_are ready callees run run' thrifty keeps bound most tie stays body' WalkE
            walks P
            stuck halts n (length block.stmts) block at stmts_done []
            (within.at-term items body bodies ready bodies_are fine kept n block at acts here)
            (within.goes-on items body bodies ready bodies_are fine kept n block at acts here) v v' a;
        goes = λ m c u u' a g v v' b.
            left.next m (After items body n block acts) (within.in-targets items body bodies ready bodies_are fine
            kept n block at acts here
            m c)
            (within.target items body bodies ready bodies_are fine kept n block at acts here
            block.term refl (λ to s. sym (ap is_never (place-type items local_ty number depth body addresses
            before
            given locals_are stmts_done u a.known to)) ∙ g to s) m c) v v'
            (subst (λ l. AtHere (l ++ stored_up) v v')
            (within.grouped items body bodies ready bodies_are fine kept n block at acts here) b);
        panics = λ d unwind u v v' a. panics-so unwind d u v v' a;
        gives = left.gives;
        drops = left.drops;
      }
