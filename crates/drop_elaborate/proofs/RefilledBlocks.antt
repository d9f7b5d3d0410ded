-- A block that begins by storing into a place that was dropped: the first statement does the same in both runs, and
-- after it all is known again.
use Rattle.std.proofs.Common.{◌≡◌, ℕ, suc, ◌≤◌, ◌<◌, Bool, true, List, [], ◌++◌, length, Option, Some, None, slice_get, Contains, ap, subst, append_assoc, arith}
use Rattle.mir_base.specs.declared.trace.Event.{Event}
use Rattle.mir_ty.specs.declared.ty.Ty.{Ty}
use Rattle.mir_ty.specs.declared.ty.TyId.{TyId}
use Rattle.mir_ty.specs.ItemTable.{ItemTable, type_at}
use Rattle.cfg_graph.specs.declared.graph.Block.{Block}
use Rattle.cfg_graph.specs.declared.graph.Body.{Body}
use Rattle.cfg_graph.specs.Edges.{targets}
use Rattle.cfg_graph.specs.Moves.Actions.{at_line, stmt_actions, actions_on}
use Rattle.cfg_graph.specs.Moves.BadUses.{bad_uses_on}
use Rattle.cfg_graph.specs.Moves.Gone.{PathAction}
use Rattle.cfg_graph.specs.Moves.Paths.{IsPath}
use Rattle.cfg_graph.specs.NamedPlaces.{keeps_named}
use Rattle.cfg_graph.specs.Uses.{stmt_uses, term_uses}
use Rattle.cfg_meaning.specs.Actions.{action_of}
use Rattle.cfg_meaning.specs.Walk.{Next, naming, block_does}
use Rattle.store_model.specs.declared.address.Addr.{Addr}
use Rattle.store_model.proofs.Concrete.Effects.{ticks_of, Thrifty, values_laws}
use Rattle.store_model.proofs.Effects.Laws.{NoMore}
use Rattle.store_model.specs.Concrete.Effects.{act, concrete_effects}
use Rattle.store_model.specs.Concrete.Location.{Setting}
use Rattle.store_model.specs.Concrete.State.{State, Bodies}
use Rattle.store_model.specs.Effects as effects
use Rattle.store_model.specs.Effects.{Out, Go, Halts, Effects, Aborted}
use Rattle.store_model.specs.Places.Place.{Place}
use Rattle.store_model.specs.Values.Datum.{Datum}
use Rattle.drop_values.specs.Like.{body_at, Flags, Like, Same, SameBodies, IsStuck, raw_setting, strict_setting, Extends}
use Rattle.drop_values.proofs.Actions.{Stays, act-Same}
use Rattle.drop_values.proofs.Touched.{AllNameFull, KeepsOlder}
use Rattle.drop_elaborate.proofs.BlockEnds.{BlockOwed, entered, later-Rest}
use Rattle.drop_elaborate.proofs.BlockPaths as within
use Rattle.drop_elaborate.proofs.CalledBodies.{CalleesOk}
use Rattle.drop_elaborate.proofs.Entered.{Enters}
use Rattle.drop_elaborate.proofs.Dropped.{Emptied}
use Rattle.drop_elaborate.proofs.Held.{Held}
use Rattle.drop_elaborate.proofs.Refilled.{First, first, index_here, id_here, refilled}
use Rattle.drop_elaborate.proofs.SitesOk.{stmt-may}
use Rattle.drop_elaborate.proofs.PathFacts.{Follows}
use Rattle.drop_elaborate.proofs.PathGrows.{OnPath}
use Rattle.drop_elaborate.proofs.ReadyBody.{BodyIsReady}
use Rattle.drop_elaborate.proofs.FlagStores.{Tell}
use Rattle.drop_elaborate.proofs.Walks.{unplaced, Walks}
use Rattle.drop_elaborate.specs.Elaborated.{flag_at, BlockDone}

module _ (items : ItemTable) (local_ty local_ty' : (body local : ℕ) → Option TyId)
    (extends : Extends local_ty local_ty') (number depth bodies : ℕ) (outer : Flags) (body : Body) (flagged : List
    Place)
    (flag_ty : TyId) (flag_is : type_at items flag_ty ≡ Some Ty.Bool)
    (added : (n : ℕ) → n < length flagged → (local_ty number (flag_at items body flagged n) ≡ None)
    × (local_ty' number (flag_at items body flagged n) ≡ Some flag_ty))
    (addresses : List Addr) (before : State) (given : AllNameFull items local_ty before addresses)
    (locals_are : (k : ℕ) → local_ty number k ≡ slice_get body.locals k) (ready : BodyIsReady items bodies body)
    (bodies_are : (n : ℕ) (block : Block) → slice_get body.blocks n ≡ Some block → (m : ℕ) →
    Contains (targets block.term) m → (found : Block) × (slice_get body.blocks m ≡ Some found))
    (callees : CalleesOk items local_ty bodies) (run run' : Bodies) (thrifty : Thrifty run)
    (keeps : KeepsOlder items local_ty (Enters items local_ty) run) (bound most : ℕ)
    (tie : SameBodies local_ty (Enters items local_ty) most run run')
    (stays : (flags : Flags) (event : Event) (callee : ℕ) (args : List Datum) (w : State) →
    Enters items local_ty callee args w → Stays items local_ty local_ty' extends flags depth number w (run event
    callee args w))
    (fine : (path : List ℕ) (given : List Bool) → IsPath items body path given → bad_uses_on items body path ≡ [])
    (kept : (path : List ℕ) (given : List Bool) (local : ℕ) → IsPath items body path given →
    keeps_named body (actions_on body path) local ≡ true)
    (body' : Body) (WalkE : Next State) (walks : Walks
    (naming unplaced (concrete_effects (strict_setting items local_ty') run' bound)) ticks_of most body'
    (λ block line. 0) WalkE) (P : Out State → Out State → Type 0)
    (stuck : (halt : effects.Halt) (w : State) (o : Out State) → IsStuck halt → P (Halts halt w) o)
    (halts : (halt : effects.Halt) (w w' : State) → w'.trace ≡ w.trace → P (Halts halt w) (Halts halt w')) where
  abbrev raw : Setting
  raw = raw_setting items local_ty

  abbrev strict : Setting
  strict = strict_setting items local_ty'

  abbrev p : Effects State
  p = naming unplaced (concrete_effects raw run bound)

  abbrev HeldNow : List PathAction → State → Type 0
  HeldNow actions w = Held items local_ty number depth body addresses before given locals_are actions w

  module _ (n : ℕ) (block : Block) (at : slice_get body.blocks (suc n) ≡ Some block) (acts : List PathAction)
      (here : OnPath items body (suc n) acts) (nextR : Next State) (w w' : State)
      (done : BlockDone items body flagged body' (suc n) block)
      (owed : BlockOwed items local_ty local_ty' extends number depth outer body flagged flag_ty flag_is added run run'
      bound most (Enters items local_ty) tie stays HeldNow body' WalkE walks P stuck halts (suc n) block acts nextR)
      (flags : Flags) (like : Like local_ty flags w w')
      (tell : Tell items local_ty local_ty' extends number depth outer body flagged flag_ty flag_is added run' bound
      flags
      acts) (deep : length w.activations ≡ suc depth) (is : body_at depth w ≡ Some number) (few : w.ticks ≤ most)
      (h : Emptied items local_ty number depth bodies body addresses before given locals_are ready (suc n) acts w) where
    first_one : First items local_ty number depth bodies body addresses before given locals_are ready (suc n) block at
        run
        acts w h
    first_one =
        first items local_ty number depth bodies body addresses before given locals_are ready (suc n) block at run
        acts w h

    abbrev uses_there : List PathAction
    uses_there = at_line (suc n) 0 (stmt_uses first_one.stmt)

    abbrev used_up : List PathAction
    used_up = at_line (suc n) (length block.stmts) (term_uses block.term)

    comes : Follows items body acts (uses_there ++ (stmt_actions (suc n) 1 first_one.rest ++ used_up))
    comes =
        subst (Follows items body acts) (append_assoc uses_there (stmt_actions (suc n) 1 first_one.rest) used_up)
        (subst (λ l. Follows items body acts (stmt_actions (suc n) 0 l ++ used_up)) first_one.stmts_are
        (within.follows items body bodies ready bodies_are fine kept (suc n) block at acts here))

    at_first : slice_get block.stmts 0 ≡ Some first_one.stmt
    at_first = ap (λ l. slice_get l 0) first_one.stmts_are

    -- what the first statement does is the same
    same : Same local_ty (Like local_ty flags) (act raw run (action_of 0 first_one.stmt) w)
        (act strict run' (action_of 0 first_one.stmt) w')
    same =
        act-Same items local_ty local_ty' extends flags depth number most run run' (Enters items local_ty) tie
        (stays flags) (action_of 0 first_one.stmt) w w' (record { like = like; deep = deep; number_is = is; few = few })
        ((owed.stmts 0 first_one.stmt at_first).ok flags)
        (stmt-may items local_ty local_ty' extends number depth body locals_are
        (index_here items local_ty number depth bodies body addresses before given locals_are ready)
        (id_here items local_ty number depth bodies body addresses before given locals_are ready) flags most run run'
        (Enters items local_ty) tie (stays flags) first_one.stmt w)
        ((owed.stmts 0 first_one.stmt at_first).typed flags)

    act-less : (v : State) → act raw run (action_of 0 first_one.stmt) w ≡ Go v → v.ticks ≤ w.ticks
    act-less v e =
        subst (NoMore ticks_of w.ticks) e ((values_laws raw run thrifty bound).acting (action_of 0 first_one.stmt) w)

    pub refilled-Rest : P (block_does p (λ line. 0) block nextR w)
        (entered items local_ty local_ty' extends number depth outer body flagged flag_ty flag_is added run run' bound
        most
        (Enters items local_ty) tie stays HeldNow body' WalkE walks P stuck halts (suc n) block done w')
    unfolding first_one
    refilled-Rest =
        later-Rest items local_ty local_ty' extends number depth outer body flagged flag_ty flag_is added run run' bound
        most (Enters items local_ty) tie stays HeldNow body' WalkE walks P stuck halts n block acts nextR w w' done owed
        first_one.stmt first_one.rest first_one.stmts_are flags same tell
        (λ v e.
        let k = refilled items local_ty number depth bodies body addresses before given locals_are ready (suc n) block
        at
        run acts w h (stmt_actions (suc n) 1 first_one.rest ++ used_up) v comes e in record {
          known = k;
          deep = k.knows.deep;
          number_is = k.knows.number_is;
          few = (let l = act-less v e in let x : v.ticks ≤ most = omega (arith, l, few) in x);
        })
