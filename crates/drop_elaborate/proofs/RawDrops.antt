-- What a drop of a raw run leaves, where a path comes to it: on each way on what holds after that path, or a place that
-- was dropped and is stored into at once. What is asked of a block of a raw run.
use Rattle.std.proofs.Common.{◌≡◌, ◌⊎◌, ℕ, suc, Bool, true, false, List, [], ◌++◌, Option, Some, slice_get, Contains, refl, ap, sym, subst}
use Rattle.mir_ty.specs.declared.ty.TyId.{TyId}
use Rattle.mir_ty.specs.ItemTable.{ItemTable}
use Rattle.cfg_graph.specs.declared.graph.Block.{Block}
use Rattle.cfg_graph.specs.declared.graph.Body.{Body}
use Rattle.cfg_graph.specs.declared.place.Place as graph
use Rattle.cfg_graph.specs.declared.terminator.Term.{Term}
use Rattle.cfg_graph.specs.declared.terminator.Unwind.{Unwind}
use Rattle.cfg_graph.specs.Edges.{targets}
use Rattle.cfg_graph.specs.Moves.Actions.{stmt_actions, block_actions, actions_on}
use Rattle.cfg_graph.specs.Moves.BadUses.{bad_uses_on}
use Rattle.cfg_graph.specs.Moves.Gone.{PathAction}
use Rattle.cfg_graph.specs.Moves.Paths.{IsPath, needs_dropping}
use Rattle.cfg_graph.specs.NamedPlaces.{keeps_named}
use Rattle.cfg_graph.specs.Places.{named, place_id}
use Rattle.cfg_meaning.specs.Actions.{site_of, mode_of}
use Rattle.cfg_meaning.specs.Walk.{Next, renamed, unwinding, acts as on_ways}
use Rattle.store_model.specs.declared.address.Addr.{Addr}
use Rattle.store_model.specs.Concrete.Drops.{Begins, drop_at}
use Rattle.store_model.specs.Concrete.Effects.{drop, dropped_if}
use Rattle.store_model.specs.Concrete.Location.{Setting, Located, Reached, Reaches, CutOff, Nowhere, reach, on_reached}
use Rattle.store_model.specs.Concrete.State.{State, Bodies}
use Rattle.store_model.specs.Effects as effects
use Rattle.store_model.specs.Effects.{Halt, Stuck, Out, Go, Halts, Choice, Yes, No, Neither, EffectSite, Effects, Mode, halting_if}
use Rattle.store_model.specs.Values.Datum.{Gone}
use Rattle.store_model.specs.Values.Wholeness.{is_whole}
use Rattle.drop_values.specs.Like.{held, raw_setting}
use Rattle.drop_values.proofs.Frame.{Frames, Each, drop_at-After}
use Rattle.drop_values.proofs.Quiet.{QuietOut, drop_at-silent}
use Rattle.drop_values.proofs.Stand.{Changed}
use Rattle.drop_values.proofs.Touched.{AllNameFull, KeepsOlder}
use Rattle.drop_elaborate.proofs.AtDrop as drop_at_path
use Rattle.drop_elaborate.proofs.CalledBodies.{CalleesOk}
use Rattle.drop_elaborate.proofs.Dropped.{not-cut, Emptied}
use Rattle.drop_elaborate.proofs.Entered.{Enters}
use Rattle.drop_elaborate.proofs.Held.{Held}
use Rattle.drop_elaborate.proofs.PathGrows.{OnPath}
use Rattle.drop_elaborate.proofs.ReadyBody.{BodyIsReady}
use Rattle.drop_elaborate.proofs.Ways.{After}

module _ (items : ItemTable) (local_ty : (body local : ℕ) → Option TyId) (number depth bodies : ℕ) (body : Body)
    (addresses : List Addr) (before : State) (given : AllNameFull items local_ty before addresses)
    (locals_are : (k : ℕ) → local_ty number k ≡ slice_get body.locals k) (ready : BodyIsReady items bodies body)
    (bodies_are : (n : ℕ) (block : Block) → slice_get body.blocks n ≡ Some block → (m : ℕ) →
    Contains (targets block.term) m → (found : Block) × (slice_get body.blocks m ≡ Some found))
    (callees : CalleesOk items local_ty bodies) (run : Bodies)
    (keeps : KeepsOlder items local_ty (Enters items local_ty) run) (frames : Frames (raw_setting items local_ty) run)
    (fine : (path : List ℕ) (given : List Bool) → IsPath items body path given → bad_uses_on items body path ≡ [])
    (kept : (path : List ℕ) (given : List Bool) (local : ℕ) → IsPath items body path given →
    keeps_named body (actions_on body path) local ≡ true) (fuel : ℕ) where
  abbrev raw : Setting
  raw = raw_setting items local_ty

  abbrev HeldNow : List PathAction → State → Type 0
  HeldNow actions w = Held items local_ty number depth body addresses before given locals_are actions w

  abbrev EmptiedNow : ℕ → List PathAction → State → Type 0
  EmptiedNow m actions v =
      Emptied items local_ty number depth bodies body addresses before given locals_are ready m actions v

  -- where the body unwinds, and where it returns
  pub record Knowing (v : State) : Type 0 where
    pub done : List PathAction
    pub known : HeldNow done v

  pub record Giving (v : State) : Type 0 where
    pub done : List PathAction
    pub known : HeldNow done v
    pub is_given : is_whole (held depth 0 v) ≡ true

  abbrev pub EndsSo : Out State → Type 0
  EndsSo (Go v) = Giving v
  EndsSo (effects.Unwind v) = Knowing v
  EndsSo (Halts halt v) = Unit {0}

  -- at the beginning of a block
  abbrev pub Arrives : ℕ → List PathAction → State → Type 0
  Arrives m done v = HeldNow done v ⊎ EmptiedNow m done v

  module _ (n : ℕ) (block : Block) (at : slice_get body.blocks n ≡ Some block) (came : List PathAction)
      (here : OnPath items body n came) (name : Halt → Halt) (next : Next State)
      (nexts : (m : ℕ) (done : List PathAction) → Contains (targets block.term) m → OnPath items body m done →
      (v : State) → Arrives m done v → EndsSo (next m v)) where
    abbrev stmts_done : List PathAction
    stmts_done = came ++ stmt_actions n 0 block.stmts

    module _ (place : graph.Place) (onto : ℕ) (unwind : Unwind) (e : block.term ≡ Term.DropAt place onto unwind)
        (w : State) (h : HeldNow stmts_done w) where
      abbrev site : EffectSite
      site = site_of 0 place

      abbrev mode : Mode
      mode = mode_of unwind

      abbrev BehindIt : List PathAction → State → Type 0
      BehindIt actions v = drop_at_path.Behind items local_ty number depth bodies body addresses before given
          locals_are ready bodies_are fine kept n block at came here place onto unwind e actions v

      abbrev dropped_now : List PathAction
      dropped_now = drop_at_path.dropped_now items local_ty number depth bodies body addresses before given locals_are
          ready bodies_are fine kept n block at came here place onto unwind e

      goes : (v : State) → BehindIt dropped_now v → EndsSo (next onto v)
      goes v k =
          nexts onto (After items body n block came) (drop_at_path.onward-there items local_ty number depth bodies
          body addresses before given locals_are ready bodies_are fine kept n block at came here place onto unwind
          e)
          (drop_at_path.onward-path items local_ty number depth bodies body addresses before given locals_are ready
          bodies_are fine kept n block at came here place onto unwind e) v
          (subst (λ l. Arrives onto l v) (sym (drop_at_path.on-way items local_ty number depth bodies body addresses
          before given locals_are ready bodies_are fine kept n block at came here place onto unwind e))
          (drop_at_path.behind-next items local_ty number depth bodies body addresses before given locals_are ready
          bodies_are fine kept n block at came here place onto unwind e dropped_now v k))

      -- it unwinds where its type needs to be dropped
      unwinds : needs_dropping items (place_id items body.locals place) ≡ true → (to : Unwind) → unwind ≡ to →
          (v : State) → BehindIt dropped_now v → EndsSo (unwinding to next v)
      unwinds needs Unwind.Resume u v k =
          record {
            done = dropped_now;
            known = drop_at_path.behind-resume items local_ty number depth bodies body addresses before given
                locals_are ready bodies_are fine kept n block at came here place onto unwind e u dropped_now v k;
          }
      unwinds needs Unwind.Abort u v k = tt
      unwinds needs (Unwind.Block m) u v k =
          nexts m (came ++ block_actions n block) (drop_at_path.unwind-there items local_ty number depth bodies body
          addresses before given locals_are ready bodies_are fine kept n block at came here place onto unwind e m u)
          (drop_at_path.unwind-path items local_ty number depth bodies body addresses before given locals_are ready
          bodies_are fine kept n block at came here place onto unwind e m u needs) v
          (subst (λ l. Arrives m l v) (sym (drop_at_path.on-path items local_ty number depth bodies body addresses
          before given locals_are ready bodies_are fine kept n block at came here place onto unwind e))
          (drop_at_path.behind-panic items local_ty number depth bodies body addresses before given locals_are ready
          bodies_are fine kept n block at came here place onto unwind e m u dropped_now v k))

      module _ (s : Located) (er : reach raw w (named place) ≡ Reaches s) where
        leads-on : (o : Out State) → drop_at raw run (suc fuel) Begins s mode w ≡ o → Each (Changed s.address Gone w)
            o →
            EndsSo (on_ways (renamed name o) next onto unwind)
        leads-on (Go v) eo c = goes v (drop_at_path.dropped-Behind items local_ty number depth bodies body addresses
            before given locals_are ready bodies_are fine kept n block at came here place onto unwind e w h s er v c)
        leads-on (Halts halt v) eo c = tt
        leads-on (effects.Unwind v) eo c = by (needs_dropping items (place_id items body.locals place)) refl
          where
            by : (b : Bool) → needs_dropping items (place_id items body.locals place) ≡ b →
                EndsSo (unwinding unwind next v)
            by true needs = unwinds needs unwind refl v (drop_at_path.dropped-Behind items local_ty number depth
                bodies body addresses before given locals_are ready bodies_are fine kept n block at came here place
                onto unwind e w h s er v c)
            by false none =
                let q = drop_at_path.quiet-unneeded items local_ty number depth bodies body addresses before given
                locals_are ready bodies_are fine kept n block at came here place onto unwind e w h s er none in
                absurd (subst (QuietOut w) eo (drop_at-silent raw run fuel s mode w
                (drop_at_path.at_it items local_ty number depth bodies body addresses before given locals_are ready
                bodies_are fine kept n block at came here place onto unwind e w h s er).stands q.0 q.1))

        reached-so : EndsSo (on_ways (renamed name (drop raw run (suc fuel) mode site w)) next onto unwind)
        reached-so =
            let at_it = drop_at_path.at_it items local_ty number depth bodies body addresses before given locals_are
            ready bodies_are fine kept n block at came here place onto unwind e w h s er in
            subst (λ o. EndsSo (on_ways (renamed name o) next onto unwind))
            (sym (ap (λ r. on_reached r (λ s. dropped_if raw run (suc fuel) true mode s w) (Go w) (Halts Stuck w)) er))
            (leads-on (drop_at raw run (suc fuel) Begins s mode w) refl
            (drop_at-After raw run frames (suc fuel) Begins s s.value mode w at_it.stands at_it.sound))

      pub drop-so : EndsSo (on_ways (renamed name (drop raw run (suc fuel) mode site w)) next onto unwind)
      drop-so = by (reach raw w (named place)) refl
        where
          by : (r : Reached) → reach raw w (named place) ≡ r →
              EndsSo (on_ways (renamed name (drop raw run (suc fuel) mode site w)) next onto unwind)
          by (Reaches s) er = reached-so s er
          by CutOff er =
              absurd (not-cut items local_ty number depth bodies body addresses before given locals_are ready
              stmts_done w
              place (drop_at_path.there items local_ty number depth bodies body addresses before given locals_are
              ready bodies_are fine kept n block at came here place onto unwind e) h er)
          by Nowhere er =
              subst (λ r. EndsSo (on_ways (renamed name (on_reached r (λ s. dropped_if raw run (suc fuel) true mode s w)
              (Go w) (Halts Stuck w))) next onto unwind)) (sym er) tt
