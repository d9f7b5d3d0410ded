-- What the bodies of a raw ready graph leave of what is older: full values at places that their arguments name, and
-- nothing else; what they return is full. By induction on the ticks with which they are entered, and within a body on
-- its turns and on the blocks between them.
use Rattle.std.proofs.Common.{◌≡◌, inl, inr, ℕ, zero, suc, Bool, true, false, List, [], ◌∷◌, length, Option, Some, None, if◌then◌else◌, slice_get, Contains, refl, ap, sym, subst, arith}
use Rattle.std.specs.Option.{option_map_or, option_and_then}
use Rattle.std.proofs.lemmas.Bool.Decides.{Decides-eqb}
use Rattle.mir_base.specs.declared.trace.Event.{Event}
use Rattle.mir_ty.specs.AreItems.{AreItems}
use Rattle.mir_ty.specs.declared.ty.TyId.{TyId}
use Rattle.mir_ty.specs.ItemTable.{ItemTable}
use Rattle.cfg_graph.specs.declared.graph.Block.{Block}
use Rattle.cfg_graph.specs.declared.graph.Body.{Body}
use Rattle.cfg_graph.specs.declared.graph.Graph.{Graph}
use Rattle.cfg_graph.specs.declared.graph.Kind.{Kind}
use Rattle.cfg_graph.specs.Edges.{targets}
use Rattle.cfg_graph.specs.Moves.Actions.{actions_on}
use Rattle.cfg_graph.specs.Moves.BadUses.{bad_uses_on}
use Rattle.cfg_graph.specs.Moves.Gone.{PathAction}
use Rattle.cfg_graph.specs.Moves.Paths.{IsPath}
use Rattle.cfg_graph.specs.Moves.Present.{present_after}
use Rattle.cfg_graph.specs.NamedPlaces.{keeps_named}
use Rattle.cfg_graph.specs.Ready.{IsReadyGraph}
use Rattle.cfg_meaning.specs.Programs.{setting_of, code_of, no_node}
use Rattle.cfg_meaning.specs.Walk.{Next, ◌>>=◌, stuck_in, if_there, does_block, does_turn, by_kind, blocks, turns, from_rank, walk, rank_at}
use Rattle.store_model.specs.declared.address.Addr.{Addr}
use Rattle.store_model.specs.Concrete.Bodies.{run_body, ended, after_tick, cells_of_youngest}
use Rattle.store_model.specs.Concrete.Effects.{concrete_effects}
use Rattle.store_model.specs.Concrete.Location.{OfType}
use Rattle.store_model.specs.Concrete.State.{State, Activation, Bodies, at_depth, cell, spend, with_event, with_activation}
use Rattle.store_model.specs.Effects.{Out, Go, Unwind, Halts, Stuck, Effects}
use Rattle.store_model.specs.Values.Datum.{Datum}
use Rattle.drop_values.specs.Like.{held, held_by, raw_setting}
use Rattle.drop_values.specs.Typed.{IsFull, a_type}
use Rattle.drop_values.proofs.Fits.{present_if_whole}
use Rattle.drop_values.proofs.Frame.{Frames}
use Rattle.drop_values.proofs.Touched.{SameCells, touched-again, untouched, TouchedBy, AllNameFull, KeepsOlder, addresses_of, keeps-Frames}
use Rattle.drop_elaborate.proofs.Begins.{begins}
use Rattle.drop_elaborate.proofs.CalledBodies.{CalleesOk}
use Rattle.drop_elaborate.proofs.Dropped.{Emptied, emptied-same}
use Rattle.drop_elaborate.proofs.Entered.{Enters, may-drop}
use Rattle.drop_elaborate.proofs.Held.{Held}
use Rattle.drop_elaborate.proofs.ItemsOk.{callees-ok, drops-take-one}
use Rattle.drop_elaborate.proofs.PathGrows.{OnPath, at-start}
use Rattle.drop_elaborate.proofs.RawBlocks.{block-so}
use Rattle.drop_elaborate.proofs.RawDrops.{EndsSo, Arrives}
use Rattle.drop_elaborate.proofs.ReadyBody.{BodyIsReady, ready-body, targets-there}
use Rattle.drop_elaborate.proofs.StatementsHeld.{same-Held}

-- what the youngest activation holds
youngest-holds : (depth k : ℕ) (acts : List Activation) → length acts ≡ suc depth →
    cell k (cells_of_youngest acts) ≡ held_by k (at_depth depth acts)
youngest-holds depth k [] e = absurd (let never : ⊥ = omega (arith, e) in never)
youngest-holds depth k (a ∷ older) e =
    sym (ap (λ b. held_by k (if b then Some a else at_depth depth older)) ((Decides-eqb depth (length older)).1
    (omega (arith, e))))

module _ (items : ItemTable) (local_ty : (body local : ℕ) → Option TyId) (number depth bodies : ℕ) (body : Body)
    (addresses : List Addr) (before : State) (given : AllNameFull items local_ty before addresses)
    (locals_are : (k : ℕ) → local_ty number k ≡ slice_get body.locals k) (ready : BodyIsReady items bodies body)
    (bodies_are : (n : ℕ) (block : Block) → slice_get body.blocks n ≡ Some block → (m : ℕ) →
    Contains (targets block.term) m → (found : Block) × (slice_get body.blocks m ≡ Some found))
    (callees : CalleesOk items local_ty bodies) (run : Bodies)
    (keeps : KeepsOlder items local_ty (Enters items local_ty) run) (frames : Frames (raw_setting items local_ty) run)
    (fine : (path : List ℕ) (given : List Bool) → IsPath items body path given → bad_uses_on items body path ≡ [])
    (kept : (path : List ℕ) (given : List Bool) (local : ℕ) → IsPath items body path given →
    keeps_named body (actions_on body path) local ≡ true) (fuel : ℕ) where
  abbrev p : Effects State
  p = concrete_effects (raw_setting items local_ty) run (suc fuel)

  abbrev HeldNow : List PathAction → State → Type 0
  HeldNow actions w = Held items local_ty number depth body addresses before given locals_are actions w

  abbrev EmptiedNow : ℕ → List PathAction → State → Type 0
  EmptiedNow m actions v =
      Emptied items local_ty number depth bodies body addresses before given locals_are ready m actions v

  abbrev EndsHere : Out State → Type 0
  EndsHere o =
      EndsSo items local_ty number depth bodies body addresses before given locals_are ready bodies_are callees run
      keeps
      frames fine kept fuel o

  abbrev ArrivesHere : ℕ → List PathAction → State → Type 0
  ArrivesHere m done v =
      Arrives items local_ty number depth bodies body addresses before given locals_are ready bodies_are callees run
      keeps
      frames fine kept fuel m done v

  -- some path comes to a block
  pub record Comes (n : ℕ) (w : State) : Type 0 where
    pub done : List PathAction
    pub here : OnPath items body n done
    pub arrives : ArrivesHere n done w

  comes-same : (n : ℕ) (w v : State) → SameCells w v → Comes n w → Comes n v
  comes-same n w v s c = record {
    done = c.done;
    here = c.here;
    arrives = elim c.arrives [
      | inl h ↦ inl (same-Held items local_ty number depth body addresses before given locals_are c.done w v s h)
      | inr x ↦ inr (emptied-same items local_ty number depth bodies body addresses before given locals_are ready n
          c.done w v s x)
    ];
  }

  -- what is done from a block on
  abbrev From : Next State → Type 0
  From next = (n : ℕ) (w : State) → Comes n w → EndsHere (next n w)

  does-so : (n : ℕ) (block : Block) → slice_get body.blocks n ≡ Some block → (next : Next State) → From next →
      (w : State) → Comes n w → EndsHere (does_block p number no_node body n block next w)
  does-so n block at next from w c =
      block-so items local_ty number depth bodies body addresses before given locals_are ready bodies_are callees run
      keeps
      frames fine kept fuel n block at c.done c.here (stuck_in number n) next
      (λ m done among here v arrives. from m v (record { done = done; here = here; arrives = arrives })) w c.arrives

  by-kind-so : (kind : Kind) (n : ℕ) (block : Block) (turn plain : Next State) (w : State) →
      EndsHere (turn n w) → EndsHere (plain n w) → EndsHere (by_kind p number no_node body kind n block turn plain w)
  by-kind-so Kind.Plain n block turn plain w t q = q
  by-kind-so Kind.Turn n block turn plain w t q = t
  by-kind-so Kind.Cleanup n block turn plain w t q = q

  there-so : (o : Option Block) (n : ℕ) (does : Block → State → Out State) (w : State) →
      ((block : Block) → o ≡ Some block → EndsHere (does block w)) →
      EndsHere (if_there p number no_node body o n does w)
  there-so None n does w h = tt
  there-so (Some block) n does w h = h block refl

  blocks-so : (turn : Next State) → From turn → (count : ℕ) → From (blocks p number no_node body turn count)
  blocks-so turn from zero n w c =
      there-so (slice_get body.blocks n) n
      (λ block. by_kind p number no_node body block.kind n block turn (λ n. Halts Stuck)) w
      (λ block at. by-kind-so block.kind n block turn (λ n. Halts Stuck) w (from n w c) tt)
  blocks-so turn from (suc count) n w c =
      there-so (slice_get body.blocks n) n
      (λ block. by_kind p number no_node body block.kind n block turn
      (λ n. does_block p number no_node body n block (blocks p number no_node body turn count))) w
      (λ block at. by-kind-so block.kind n block turn
      (λ n. does_block p number no_node body n block (blocks p number no_node body turn count)) w (from n w c)
      (does-so n block at (blocks p number no_node body turn count) (λ m v d. blocks-so turn from count m v d) w c))

  from-rank-so : (turn : Next State) → From turn → From (from_rank p number no_node body turn)
  from-rank-so turn from n w c = blocks-so turn from (suc (rank_at p number no_node body n)) n w c

  spent-so : (t : ℕ) (w : State) → w.ticks ≡ t → (does : State → Out State) →
      ((v : State) → SameCells w v → EndsHere (does v)) → EndsHere (◌>>=◌ (spend t w) does)
  spent-so zero w e does h = tt
  spent-so (suc t) w e does h =
      h (record w { ticks = t })
      (record { less = omega (arith, e); count = refl; bodies = λ d. refl; cells = λ d k. refl })

  turns-so : (count : ℕ) → From (turns p number no_node body count)
  turns-so zero n w c = tt
  turns-so (suc count) n w c =
      there-so (slice_get body.blocks n) n
      (λ block. does_turn p number no_node body n block (from_rank p number no_node body (turns p number no_node body
      count))) w
      (λ block at. spent-so w.ticks w refl
      (does_block p number no_node body n block (from_rank p number no_node body (turns p number no_node body count)))
      (λ v s. does-so n block at (from_rank p number no_node body (turns p number no_node body count))
      (from-rank-so (turns p number no_node body count) (λ m u d. turns-so count m u d)) v (comes-same n w v s c)))

  -- the whole walk
  pub walk-so : (count : ℕ) (w : State) → HeldNow [] w → EndsHere (walk p number no_node body count 0 w)
  walk-so count w h =
      from-rank-so (turns p number no_node body count) (turns-so count) 0 w
      (record { done = []; here = at-start items body; arrives = inl h })

  -- how the body ends
  pub ended-so : (o : Out State) → EndsHere o → TouchedBy items local_ty addresses number before (ended number 0 o)
  ended-so (Go v) g = (
    touched-again items local_ty addresses g.known.older (untouched (record {
      less = omega arith;
      count = refl;
      bodies = λ d. refl;
      cells = λ d k. refl;
    })),
    λ id ty.
        let value_is : cell 0 (cells_of_youngest v.activations) ≡ held depth 0 v =
        youngest-holds depth 0 v.activations g.known.knows.deep in
        subst (IsFull items (OfType id)) (sym value_is) (
          a_type id,
          present_if_whole items (held depth 0 v) (OfType id) (present_after items body g.done 0) g.is_given
              (g.known.knows.fits 0 id ty),
        ),
  )
  ended-so (Unwind v) g =
      touched-again items local_ty addresses g.known.older (untouched (record {
        less = omega arith;
        count = refl;
        bodies = λ d. refl;
        cells = λ d k. refl;
      }))
  ended-so (Halts halt v) g = tt

module _ (graph : Graph) (are : AreItems graph.items) (ready : IsReadyGraph graph) where
  abbrev local_ty : (body local : ℕ) → Option TyId
  local_ty = λ n local. option_and_then (λ (body : Body). slice_get body.locals local) (slice_get graph.bodies n)

  abbrev run : ℕ → Bodies
  run n = run_body (setting_of false graph) (code_of graph) n

  pub frames-of : (n : ℕ) → KeepsOlder graph.items local_ty (Enters graph.items local_ty) (run n) →
      Frames (raw_setting graph.items local_ty) (run n)
  frames-of n keeps =
      keeps-Frames graph.items local_ty (Enters graph.items local_ty) (run n)
      (may-drop graph.items local_ty (drops-take-one graph ready.prepared.well_formed)) keeps

  entered-so : (n : ℕ) → KeepsOlder graph.items local_ty (Enters graph.items local_ty) (run n) → (event : Event)
      (number : ℕ) (args : List Datum) (u : State) → Enters graph.items local_ty number args u → (t : ℕ) →
      u.ticks ≡ suc t → (o : Option Body) → slice_get graph.bodies number ≡ o →
      TouchedBy graph.items local_ty (addresses_of args) number u (ended number 0
      (option_map_or (λ (body : Body). walk (concrete_effects (setting_of false graph) (run n) (suc n)) number no_node
      body
      (suc n) 0 (with_activation (record { body = number; cells = (code_of graph).arguments number args })
      (with_event event (record u { ticks = t })))) o (Halts Stuck
      (with_activation (record { body = number; cells = (code_of graph).arguments number args })
      (with_event event (record u { ticks = t }))))))
  entered-so n keeps event number args u may t e None found = tt
  entered-so n keeps event number args u may t e (Some body) found =
      let w = with_activation (record { body = number; cells = (code_of graph).arguments number args })
      (with_event event (record u { ticks = t })) in
      let locals : (k : ℕ) → local_ty number k ≡ slice_get body.locals k =
      λ k. ap (option_and_then (λ (b : Body). slice_get b.locals k)) found in
      let is_ready : BodyIsReady graph.items (length graph.bodies) body = ready-body graph are ready number body found
      in
      let prepared = ready.prepared.prepared number body found in
      let callees = callees-ok graph ready.prepared.well_formed in
      let h = begins graph ready.prepared.well_formed number body found locals args u event t may e (length
      u.activations)
      w refl refl in
      ended-so graph.items local_ty number (length u.activations) (length graph.bodies) body (addresses_of args) u
      may.named
      locals is_ready (targets-there graph.items (length graph.bodies) body is_ready) callees (run n) keeps (frames-of
      n keeps)
      (λ path given is. ready.uses number body path given found is)
      (λ path given local is. prepared.named_stays path given local is) n
      (walk (concrete_effects (setting_of false graph) (run n) (suc n)) number no_node body (suc n) 0 w)
      (walk-so graph.items local_ty number (length u.activations) (length graph.bodies) body (addresses_of args) u
      may.named
      locals is_ready (targets-there graph.items (length graph.bodies) body is_ready) callees (run n) keeps (frames-of
      n keeps)
      (λ path given is. ready.uses number body path given found is)
      (λ path given local is. prepared.named_stays path given local is) n (suc n) w h)

  -- each body leaves what is older as it was, but for what its arguments name
  pub keeps-older : (n : ℕ) → KeepsOlder graph.items local_ty (Enters graph.items local_ty) (run n)
  keeps-older zero event number args u may = tt
  keeps-older (suc n) event number args u may = by (keeps-older n) u.ticks refl
    where
      by : KeepsOlder graph.items local_ty (Enters graph.items local_ty) (run n) → (t : ℕ) → u.ticks ≡ t → TouchedBy
          graph.items local_ty (addresses_of args) number u
          (after_tick (spend t u) (λ w. ended number 0 ((code_of graph).within (concrete_effects (setting_of false
          graph)
          (run n) (suc n)) (suc n) number (with_activation (record {
            body = number;
            cells = (code_of graph).arguments number args;
          }) (with_event event w)))))
      by keeps zero e = tt
      by keeps (suc t) e = entered-so n keeps event number args u may t e (slice_get graph.bodies number) refl
