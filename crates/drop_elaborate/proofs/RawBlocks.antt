-- What a block of a raw run leaves, where a path comes to it: on each way on to a next block what holds after that
-- path, or a place that was dropped and is stored into at once; and what holds where the body returns or unwinds.
use Rattle.std.proofs.Common.{◌≡◌, ◌⊎◌, inl, inr, ℕ, suc, ◌+◌, Bool, true, false, List, [], ◌∷◌, ◌++◌, map, flat_map, length, Option, Some, None, slice_get, Contains, refl, ap, sym, ◌∙◌, subst, append_assoc, arith}
use Rattle.std.proofs.lemmas.Option.{none-some}
use Rattle.mir_base.specs.declared.trace.Event.{Event}
use Rattle.mir_ty.proofs.ListLemmas.{Contains-slice_get}
use Rattle.mir_ty.specs.declared.ty.TyId.{TyId}
use Rattle.mir_ty.specs.ItemTable.{ItemTable}
use Rattle.cfg_graph.specs.declared.graph.Block.{Block}
use Rattle.cfg_graph.specs.declared.graph.Body.{Body}
use Rattle.cfg_graph.specs.declared.place.Operand.{Operand}
use Rattle.cfg_graph.specs.declared.place.Place as graph
use Rattle.cfg_graph.specs.declared.statement.Stmt.{Stmt}
use Rattle.cfg_graph.specs.declared.terminator.Term.{Term}
use Rattle.cfg_graph.specs.declared.terminator.Unwind.{Unwind}
use Rattle.cfg_graph.specs.Edges.{onward, unwind_of, targets}
use Rattle.cfg_graph.specs.Moves.Actions.{at_line, stmt_actions, block_actions, actions_on}
use Rattle.cfg_graph.specs.Moves.BadUses.{bad_uses_on}
use Rattle.cfg_graph.specs.Moves.Gone.{PathAction}
use Rattle.cfg_graph.specs.Moves.Paths.{IsPath}
use Rattle.cfg_graph.specs.NamedPlaces.{keeps_named}
use Rattle.cfg_graph.specs.Places.{named, ty_of_place}
use Rattle.cfg_graph.specs.Uses.{Stores, Tests, operand_uses, operands_of_term, other_term_uses, stmt_uses, term_uses, stored_by_term}
use Rattle.cfg_meaning.specs.Actions.{site_of, operand_of, operands_of, action_of}
use Rattle.cfg_meaning.specs.Walk.{Next, ◌>>=◌, branch, renamed, renamed_choice, naming, unwinding, stmts_do, acts as on_ways, term_does, block_does}
use Rattle.store_model.specs.declared.address.Addr.{Addr}
use Rattle.store_model.specs.Concrete.Effects.{act, acted, never_at, choose, panics, whole, whole_at, if_so, or_stuck, concrete_effects}
use Rattle.store_model.specs.Concrete.Location.{Setting, Located, Reached, Reaches, CutOff, Nowhere, reach, on_reached}
use Rattle.store_model.specs.Concrete.State.{State, Bodies, with_event}
use Rattle.store_model.specs.Effects as effects
use Rattle.store_model.specs.Effects.{Halt, Stuck, Out, Go, Halts, Choice, Yes, No, Neither, EffectSite, Effects, Mode, halting_if}
use Rattle.store_model.specs.Places.Place.{whole_local}
use Rattle.store_model.specs.Places.TypeForms.{is_never}
use Rattle.store_model.specs.Values.Wholeness.{is_whole}
use Rattle.drop_values.specs.Like.{raw_setting}
use Rattle.drop_values.proofs.Counting.{after, after-sum, after-zero}
use Rattle.drop_values.proofs.Frame.{Frames}
use Rattle.drop_values.proofs.Touched.{same_cells, AllNameFull, KeepsOlder}
use Rattle.drop_elaborate.proofs.BlockPaths as within
use Rattle.drop_elaborate.proofs.BlocksDone.{value-of}
use Rattle.drop_elaborate.proofs.CalledBodies.{CalleesOk}
use Rattle.drop_elaborate.proofs.CheckedTerms.{Leaves, used-Took}
use Rattle.drop_elaborate.proofs.Chosen.{chosen, unchanged}
use Rattle.drop_elaborate.proofs.Dropped.{Emptied}
use Rattle.drop_elaborate.proofs.Entered.{Enters}
use Rattle.drop_elaborate.proofs.Held.{Held, read-Held}
use Rattle.drop_elaborate.proofs.OtherLines.{place-type}
use Rattle.drop_elaborate.proofs.PathFacts.{Follows, follows-later}
use Rattle.drop_elaborate.proofs.PathGrows.{OnPath}
use Rattle.drop_elaborate.proofs.PathUses.{operated}
use Rattle.drop_elaborate.proofs.RawDrops as raw_drops
use Rattle.drop_elaborate.proofs.ReadyBody.{BodyIsReady}
use Rattle.drop_elaborate.proofs.Refilled.{first, refilled}
use Rattle.drop_elaborate.proofs.StatementsHeld.{one-of-list, told-cells, same-Held}
use Rattle.drop_elaborate.proofs.StmtKeeps.{stmt-keeps}
use Rattle.drop_elaborate.proofs.LineOperands.{no_param, any-one}
use Rattle.drop_elaborate.proofs.StmtTests.{LineTested, term-tested}
use Rattle.drop_elaborate.proofs.TermKeeps.{math-keeps, negate-keeps, bounds-keeps, ask-keeps, call-keeps, virtual-keeps}
use Rattle.drop_elaborate.proofs.Ways.{After}
use Rattle.drop_elaborate.specs.Elaborated.{is_drop}

nil : {A : Type 0} (l : List A) → l ++ [] ≡ l
nil [] = refl
nil (x ∷ l) = ap (λ l. x ∷ l) (nil l)

-- what is used is whole
used-whole : (setting : Setting) (r : Reached) (s : Located) → on_reached r (whole setting) None None ≡ Some s →
    is_whole s.value ≡ true
used-whole setting CutOff s e = absurd (none-some s e)
used-whole setting Nowhere s e = absurd (none-some s e)
used-whole setting (Reaches t) s e = by (is_whole t.value) refl e
  where
    by : (b : Bool) → is_whole t.value ≡ b → if_so b t ≡ Some s → is_whole s.value ≡ true
    by false h e = absurd (none-some s e)
    by true h e =
        ap (λ (x : Located). is_whole x.value) (let x : Some t ≡ Some s = e in let y : s ≡ t = cc in y) ∙ h

-- nothing is stored into a place of the type `!`
went-there : (never : Bool) (o : Out State) (v : State) → halting_if never Stuck o ≡ Go v → never ≡ false
went-there false o v e = refl
went-there true (Go x) v e = absurd (let y : Halts Stuck x ≡ Go v = e in cc)
went-there true (effects.Unwind x) v e = absurd (let y : effects.Unwind x ≡ Go v = e in cc)
went-there true (Halts halt x) v e = absurd (let y : Halts halt x ≡ Go v = e in cc)

module _ (items : ItemTable) (local_ty : (body local : ℕ) → Option TyId) (number depth bodies : ℕ) (body : Body)
    (addresses : List Addr) (before : State) (given : AllNameFull items local_ty before addresses)
    (locals_are : (k : ℕ) → local_ty number k ≡ slice_get body.locals k) (ready : BodyIsReady items bodies body)
    (bodies_are : (n : ℕ) (block : Block) → slice_get body.blocks n ≡ Some block → (m : ℕ) →
    Contains (targets block.term) m → (found : Block) × (slice_get body.blocks m ≡ Some found))
    (callees : CalleesOk items local_ty bodies) (run : Bodies)
    (keeps : KeepsOlder items local_ty (Enters items local_ty) run) (frames : Frames (raw_setting items local_ty) run)
    (fine : (path : List ℕ) (given : List Bool) → IsPath items body path given → bad_uses_on items body path ≡ [])
    (kept : (path : List ℕ) (given : List Bool) (local : ℕ) → IsPath items body path given →
    keeps_named body (actions_on body path) local ≡ true) (fuel : ℕ) where
  abbrev raw : Setting
  raw = raw_setting items local_ty

  abbrev HeldNow : List PathAction → State → Type 0
  HeldNow actions w = Held items local_ty number depth body addresses before given locals_are actions w

  abbrev EmptiedNow : ℕ → List PathAction → State → Type 0
  EmptiedNow m actions v =
      Emptied items local_ty number depth bodies body addresses before given locals_are ready m actions v

  abbrev EndsSo : Out State → Type 0
  EndsSo o =
      raw_drops.EndsSo items local_ty number depth bodies body addresses before given locals_are ready bodies_are
      callees
      run keeps frames fine kept fuel o

  abbrev Arrives : ℕ → List PathAction → State → Type 0
  Arrives m done v =
      raw_drops.Arrives items local_ty number depth bodies body addresses before given locals_are ready bodies_are
      callees
      run keeps frames fine kept fuel m done v

  module _ (n : ℕ) (block : Block) (at : slice_get body.blocks n ≡ Some block) (came : List PathAction)
      (here : OnPath items body n came) (name : Halt → Halt) (next : Next State)
      (nexts : (m : ℕ) (done : List PathAction) → Contains (targets block.term) m → OnPath items body m done →
      (v : State) → Arrives m done v → EndsSo (next m v)) where
    abbrev p : Effects State
    p = naming name (concrete_effects raw run (suc fuel))

    abbrev line : ℕ
    line = length block.stmts

    abbrev stmts_done : List PathAction
    stmts_done = came ++ stmt_actions n 0 block.stmts

    abbrev used_by : Term → List PathAction
    used_by term = at_line n line (term_uses term)

    abbrev stored_at_end : Term → List PathAction
    stored_at_end term = at_line n line (map (λ place. (Stores, place)) (stored_by_term term))

    abbrev Comes : Term → Type 0
    Comes term = Follows items body stmts_done (used_by term ++ [])

    abbrev Goes : Term → Type 0
    Goes term = (to : graph.Place) → stored_by_term term ≡ to ∷ [] →
        is_never (ty_of_place items body.locals to) ≡ false → (later : List PathAction)
        × Follows items body (stmts_done ++ used_by term) (at_line n line ((Stores, to) ∷ []) ++ later)

    abbrev HasResult : Term → Type 0
    HasResult term = (to : graph.Place) → stored_by_term term ≡ to ∷ [] →
        is_never (ty_of_place items body.locals to) ≡ false

    abbrev LeavesBy : Term → Out State → Type 0
    LeavesBy term o =
        Leaves items local_ty number depth body addresses before given locals_are n line (stmts_done ++ used_by term)
        (stored_by_term term) o

    grouped : stmts_done ++ used_by block.term ≡ came ++ block_actions n block
    grouped = within.grouped items body bodies ready bodies_are fine kept n block at came here

    -- ---- on to the next block

    onward-to : (term : Term) → block.term ≡ term → HasResult term → (m : ℕ) → Contains (onward term) m → (v : State) →
        HeldNow ((stmts_done ++ used_by term) ++ stored_at_end term) v → EndsSo (next m v)
    onward-to term e r m c v h =
        nexts m (After items body n block came)
        (within.in-targets items body bodies ready bodies_are fine kept n block at came here m
        (subst (λ t. Contains (onward t) m) (sym e) c))
        (within.target items body bodies ready bodies_are fine kept n block at came here term e r m c) v
        (inl (subst (λ l. HeldNow (l ++ stored_at_end block.term) v) grouped
        (subst (λ t. HeldNow ((stmts_done ++ used_by t) ++ stored_at_end t) v) (sym e) h)))

    unwinds-to : (term : Term) → block.term ≡ term → is_drop term ≡ false → (unwind : Unwind) →
        Contains (unwind_of term) unwind → (v : State) → HeldNow (stmts_done ++ used_by term) v →
        EndsSo (unwinding unwind next v)
    unwinds-to term e d Unwind.Resume c v h = record { done = stmts_done ++ used_by term; known = h }
    unwinds-to term e d Unwind.Abort c v h = tt
    unwinds-to term e d (Unwind.Block m) c v h =
        nexts m (came ++ block_actions n block)
        (within.unwind-target items body bodies ready bodies_are fine kept n block at came here m
        (subst (λ t. Contains (unwind_of t) (Unwind.Block m)) (sym e) c))
        (within.panic-target items body bodies ready bodies_are fine kept n block at came here term e d m c) v
        (inl (subst (λ l. HeldNow l v) grouped (subst (λ t. HeldNow (stmts_done ++ used_by t) v) (sym e) h)))

    acting-so : (term : Term) → block.term ≡ term → is_drop term ≡ false → (o : Out State) →
        ((v : State) → o ≡ Go v → HasResult term) → LeavesBy term o → (to : ℕ) → Contains (onward term) to →
        (unwind : Unwind) → Contains (unwind_of term) unwind → EndsSo (on_ways (renamed name o) next to unwind)
    acting-so term e d (Go v) r l to c unwind u = onward-to term e (r v refl) to c v l
    acting-so term e d (effects.Unwind v) r l to c unwind u = unwinds-to term e d unwind u v l
    acting-so term e d (Halts halt v) r l to c unwind u = tt

    one : {A : Type 0} (x : A) → Contains (x ∷ []) x
    one x = Contains-slice_get (x ∷ []) 0 x refl

    -- where an action goes on, its result is of a type with values
    has-result : (site : graph.Place) (w : State) → HeldNow stmts_done w → never_at raw w (site_of 0 site) ≡ false →
        (to : graph.Place) → site ∷ [] ≡ to ∷ [] → is_never (ty_of_place items body.locals to) ≡ false
    has-result site w h never to s =
        subst (λ t. is_never (ty_of_place items body.locals t) ≡ false)
        (let x : site ∷ [] ≡ to ∷ [] = s in let y : site ≡ to = cc in y)
        (sym (ap is_never (place-type items local_ty number depth body addresses before given locals_are stmts_done w h
        site)) ∙ never)

    -- ---- tests

    branch-so : (c : Choice State) (if_true if_false : ℕ) →
        ((v : State) → c ≡ Yes v → EndsSo (next if_true v)) → ((v : State) → c ≡ No v → EndsSo (next if_false v)) →
        EndsSo (branch (renamed_choice name c) (next if_true) (next if_false))
    branch-so (Yes v) if_true if_false y z = y v refl
    branch-so (No v) if_true if_false y z = z v refl
    branch-so (Neither halt v) if_true if_false y z = tt

    no-result : (term : Term) → stored_by_term term ≡ [] → HasResult term
    no-result term e to s = absurd (let x : [] ≡ to ∷ [] = sym e ∙ s in cc)

    -- nothing is stored on the way on
    plain-onward : (term : Term) → block.term ≡ term → (none : stored_by_term term ≡ []) → (m : ℕ) →
        Contains (onward term) m → (v : State) → HeldNow (stmts_done ++ used_by term) v → EndsSo (next m v)
    plain-onward term e none m c v h =
        onward-to term e (no-result term none) m c v
        (subst (λ l. HeldNow l v) (sym (nil (stmts_done ++ used_by term))
        ∙ ap (λ l. (stmts_done ++ used_by term) ++ at_line n line (map (λ place. (Stores, place)) l)) (sym none)) h)

    if-so : (on : Operand) (y z : ℕ) → block.term ≡ Term.If on y z → Comes (Term.If on y z) → (w v : State) →
        HeldNow stmts_done w → (choose raw (effects.IsTrue (operand_of 0 on)) w ≡ Yes v)
        ⊎ (choose raw (effects.IsTrue (operand_of 0 on)) w ≡ No v) → HeldNow (stmts_done ++ used_by (Term.If on y z)) v
    if-so on y z e f w v h c =
        let t : LineTested items body (on ∷ []) [] [] =
        subst (λ term. LineTested items body (operands_of_term term) (stored_by_term term) (other_term_uses term)) e
        (term-tested items body block.term (ready.term_typed n block at) (ready.term_moves n block at)).0 in
        let k = any-one items local_ty number depth bodies body addresses before given locals_are ready on
        (record { typed = t.operands_typed; stand = t.operands_stand; move = t.operands_move }) in
        let o = operated items local_ty number depth body addresses before given locals_are
        (no_param items local_ty number depth bodies body addresses before given locals_are ready) n line k.1 stmts_done
        []
        (subst (λ l. Follows items body stmts_done (at_line n line l ++ [])) (nil (flat_map operand_uses (on ∷ []))) f)
        in
        let x = chosen items local_ty on w v c in
        (used-Took items local_ty number depth body addresses before given locals_are n line stmts_done k.1 o w
        (x.value ∷ []) v h (one-of-list raw (operand_of 0 on) w x.value v x.gives)).held_now

    case-so : (on : graph.Place) (variant y z : ℕ) → (w v : State) → HeldNow stmts_done w →
        (choose raw (effects.HasVariant (site_of 0 on) variant) w ≡ Yes v)
        ⊎ (choose raw (effects.HasVariant (site_of 0 on) variant) w ≡ No v) →
        HeldNow (stmts_done ++ used_by (Term.Case on variant y z)) v
    case-so on variant y z w v h c =
        let action : PathAction = record { how = Tests; place = named on; block = n; line = line } in
        subst (HeldNow (stmts_done ++ action ∷ [])) (unchanged items local_ty on variant w v c)
        (read-Held items local_ty number depth body addresses before given locals_are stmts_done action w w refl
        (λ r. refl) (same_cells w) h)

    -- ---- the terminator

    given-so : (w : State) → HeldNow stmts_done w →
        EndsSo (renamed name (or_stuck (whole_at raw w (record { node = 0; place = whole_local 0 })) (λ s. Go w) w))
    given-so w h = by (whole_at raw w (record { node = 0; place = whole_local 0 })) refl
      where
        by : (o : Option Located) → whole_at raw w (record { node = 0; place = whole_local 0 }) ≡ o →
            EndsSo (renamed name (or_stuck o (λ s. Go w) w))
        by None e = tt
        by (Some s) e = record {
          done = stmts_done;
          known = h;
          is_given = ap is_whole (value-of raw w depth w.activations s h.knows.deep e)
              ∙ used-whole raw (reach raw w (whole_local 0)) s e;
        }

    term-so : (term : Term) → block.term ≡ term → Comes term → Goes term → (w : State) → HeldNow stmts_done w →
        EndsSo (term_does p 0 term next w)
    term-so (Term.Goto b) e f g w h =
        plain-onward (Term.Goto b) e refl b (one b) w (subst (λ l. HeldNow l w) (sym (nil stmts_done)) h)
    term-so (Term.If on y z) e f g w h =
        branch-so (choose raw (effects.IsTrue (operand_of 0 on)) w) y z
        (λ v c. plain-onward (Term.If on y z) e refl y (Contains-slice_get (z ∷ y ∷ []) 1 y refl) v
        (if-so on y z e f w v h (inl c)))
        (λ v c. plain-onward (Term.If on y z) e refl z (Contains-slice_get (z ∷ y ∷ []) 0 z refl) v
        (if-so on y z e f w v h (inr c)))
    term-so (Term.Case on variant y z) e f g w h =
        branch-so (choose raw (effects.HasVariant (site_of 0 on) variant) w) y z
        (λ v c. plain-onward (Term.Case on variant y z) e refl y (Contains-slice_get (z ∷ y ∷ []) 1 y refl) v
        (case-so on variant y z w v h (inl c)))
        (λ v c. plain-onward (Term.Case on variant y z) e refl z (Contains-slice_get (z ∷ y ∷ []) 0 z refl) v
        (case-so on variant y z w v h (inr c)))
    term-so (Term.Math to op left right b unwind) e f g w h =
        acting-so (Term.Math to op left right b unwind) e refl
        (act raw run (effects.Compute (site_of 0 to) op (operand_of 0 left) (operand_of 0 right)) w)
        (λ v x. has-result to w h (went-there (never_at raw w (site_of 0 to)) (acted raw run
        (effects.Compute (site_of 0 to) op (operand_of 0 left) (operand_of 0 right)) w) v x))
        (math-keeps items local_ty number depth bodies body addresses before given locals_are ready callees run keeps n
        line block at stmts_done [] w h to op left right b unwind e f (g to refl)) b (one b) unwind (one unwind)
    term-so (Term.Negate to of b unwind) e f g w h =
        acting-so (Term.Negate to of b unwind) e refl
        (act raw run (effects.Negate (site_of 0 to) (operand_of 0 of)) w)
        (λ v x. has-result to w h (went-there (never_at raw w (site_of 0 to)) (acted raw run
        (effects.Negate (site_of 0 to) (operand_of 0 of)) w) v x))
        (negate-keeps items local_ty number depth bodies body addresses before given locals_are ready callees run
        keeps n
        line block at stmts_done [] w h to of b unwind e f (g to refl)) b (one b) unwind (one unwind)
    term-so (Term.Bounds index count b unwind) e f g w h =
        acting-so (Term.Bounds index count b unwind) e refl
        (act raw run (effects.Bounds (operand_of 0 index) count) w)
        (λ v x. no-result (Term.Bounds index count b unwind) refl)
        (bounds-keeps items local_ty number depth bodies body addresses before given locals_are ready callees run
        keeps n
        line block at stmts_done [] w h index count b unwind e f) b (one b) unwind (one unwind)
    term-so (Term.Ask to b unwind) e f g w h =
        acting-so (Term.Ask to b unwind) e refl (act raw run (effects.Ask (site_of 0 to)) w)
        (λ v x. has-result to w h (went-there (never_at raw w (site_of 0 to)) (acted raw run
        (effects.Ask (site_of 0 to)) w) v x))
        (ask-keeps items local_ty number depth bodies body addresses before given locals_are ready callees run keeps n
        line block at stmts_done [] w h to b unwind e (g to refl)) b (one b) unwind (one unwind)
    term-so (Term.Call to callee args b unwind) e f g w h =
        acting-so (Term.Call to callee args b unwind) e refl
        (act raw run (effects.Call (site_of 0 to) callee (operands_of 0 args)) w)
        (λ v x. has-result to w h (went-there (never_at raw w (site_of 0 to)) (acted raw run
        (effects.Call (site_of 0 to) callee (operands_of 0 args)) w) v x))
        (call-keeps items local_ty number depth bodies body addresses before given locals_are ready callees run keeps n
        line block at stmts_done [] w h to callee args b unwind e f (g to refl)) b (one b) unwind (one unwind)
    term-so (Term.Virtual to trait_no method args b unwind) e f g w h =
        acting-so (Term.Virtual to trait_no method args b unwind) e refl
        (act raw run (effects.CallVirtual (site_of 0 to) trait_no method (operands_of 0 args)) w)
        (λ v x. has-result to w h (went-there (never_at raw w (site_of 0 to)) (acted raw run
        (effects.CallVirtual (site_of 0 to) trait_no method (operands_of 0 args)) w) v x))
        (virtual-keeps items local_ty number depth bodies body addresses before given locals_are ready callees run keeps
        n line block at stmts_done [] w h to trait_no method args b unwind e f (g to refl)) b (one b) unwind (one
        unwind)
    term-so (Term.DropAt place b unwind) e f g w h =
        raw_drops.drop-so items local_ty number depth bodies body addresses before given locals_are ready bodies_are
        callees run keeps frames fine kept fuel n block at came here name next nexts place b unwind e w h
    term-so (Term.Panic why unwind) e f g w h =
        unwinds-to (Term.Panic why unwind) e refl unwind (one unwind) (panics raw why w)
        (same-Held items local_ty number depth body addresses before given locals_are (stmts_done ++ []) w
        (with_event (Event.Panicked why) w) (told-cells raw (Event.Panicked why) w) (subst (λ l. HeldNow l w) (sym
        (nil stmts_done)) h))
    term-so Term.Return e f g w h = given-so w h
    term-so Term.Resume e f g w h = record { done = stmts_done; known = h }

    -- ---- the statements

    abbrev Rest : (line : ℕ) → List PathAction → List Stmt → (State → Out State) → Type 0
    Rest from done stmts rest = (v : State) → HeldNow (done ++ stmt_actions n from stmts) v → EndsSo (rest v)

    one-so : (from : ℕ) (done : List PathAction) (stmt : Stmt) (stmts : List Stmt) (rest : State → Out State)
        (w : State) → ((v : State) → act raw run (action_of 0 stmt) w ≡ Go v →
        HeldNow (done ++ at_line n from (stmt_uses stmt)) v) →
        ((v : State) → HeldNow (done ++ at_line n from (stmt_uses stmt)) v →
        EndsSo (stmts_do p (λ line. 0) (suc from) stmts rest v)) →
        EndsSo (stmts_do p (λ line. 0) from (stmt ∷ stmts) rest w)
    one-so from done stmt stmts rest w holds again = by (act raw run (action_of 0 stmt) w) refl
      where
        by : (o : Out State) → act raw run (action_of 0 stmt) w ≡ o →
            EndsSo (◌>>=◌ (renamed name o) (λ v. stmts_do p (λ line. 0) (suc from) stmts rest v))
        by (Go v) e = again v (holds v e)
        by (effects.Unwind v) e = tt
        by (Halts halt v) e = tt

    stmts-so : (from : ℕ) (done : List PathAction) (stmts : List Stmt) (rest : State → Out State)
        (more : List PathAction) → ((k : ℕ) (stmt : Stmt) → slice_get stmts k ≡ Some stmt →
        slice_get block.stmts (after from k) ≡ Some stmt) → Follows items body done (stmt_actions n from stmts ++
        more) →
        (w : State) → HeldNow done w → Rest from done stmts rest →
        EndsSo (stmts_do p (λ line. 0) from stmts rest w)
    stmts-so from done [] rest more are f w h then_so = then_so w (subst (λ l. HeldNow l w) (sym (nil done)) h)
    stmts-so from done (stmt ∷ stmts) rest more are f w h then_so =
        let uses = at_line n from (stmt_uses stmt) in
        let g : Follows items body done (uses ++ (stmt_actions n (suc from) stmts ++ more)) =
        subst (Follows items body done) (append_assoc uses (stmt_actions n (suc from) stmts) more) f in
        one-so from done stmt stmts rest w
        (λ v e. stmt-keeps items local_ty number depth bodies body addresses before given locals_are ready n from
        block at
        run done (stmt_actions n (suc from) stmts ++ more) w v h stmt (are 0 stmt refl) g e)
        (λ v k. stmts-so (suc from) (done ++ uses) stmts rest more (λ j x e. are (suc j) x e)
        (follows-later items body done uses (stmt_actions n (suc from) stmts ++ more) g) v k
        (λ u hu. then_so u (subst (λ l. HeldNow l u) (append_assoc done uses (stmt_actions n (suc from) stmts)) hu)))

    from_term : (v : State) → HeldNow stmts_done v → EndsSo (term_does p 0 block.term next v)
    from_term v h =
        term-so block.term refl (within.at-term items body bodies ready bodies_are fine kept n block at came here)
        (within.goes-on items body bodies ready bodies_are fine kept n block at came here) v h

    follows_here : Follows items body came (stmt_actions n 0 block.stmts ++ used_by block.term)
    follows_here = within.follows items body bodies ready bodies_are fine kept n block at came here

    pub block-so : (w : State) → Arrives n came w → EndsSo (block_does p (λ line. 0) block next w)
    block-so w (inl h) =
        stmts-so 0 came block.stmts (term_does p 0 block.term next) (used_by block.term)
        (λ k stmt e. ap (slice_get block.stmts) (after-zero k) ∙ e) follows_here w h from_term
    block-so w (inr x) =
        let first_one = first items local_ty number depth bodies body addresses before given locals_are ready n block
        at run
        came w x in
        let uses = at_line n 0 (stmt_uses first_one.stmt) in
        let g : Follows items body came ((uses ++ stmt_actions n 1 first_one.rest) ++ used_by block.term) =
        subst (λ l. Follows items body came (stmt_actions n 0 l ++ used_by block.term)) first_one.stmts_are
        follows_here in
        let f : Follows items body came (uses ++ (stmt_actions n 1 first_one.rest ++ used_by block.term)) =
        subst (Follows items body came) (append_assoc uses (stmt_actions n 1 first_one.rest) (used_by block.term)) g in
        subst (λ l. EndsSo (stmts_do p (λ line. 0) 0 l (term_does p 0 block.term next) w)) (sym first_one.stmts_are)
        (one-so 0 came first_one.stmt first_one.rest (term_does p 0 block.term next) w
        (λ v e. refilled items local_ty number depth bodies body addresses before given locals_are ready n block at
        run came
        w x (stmt_actions n 1 first_one.rest ++ used_by block.term) v f e)
        (λ v k. stmts-so 1 (came ++ uses) first_one.rest (term_does p 0 block.term next) (used_by block.term)
        (λ j stmt e. ap (λ l. slice_get l (after 1 j)) first_one.stmts_are
        ∙ ap (slice_get (first_one.stmt ∷ first_one.rest)) (after-sum 1 j ∙ (let z : 1 + j ≡ suc j = omega arith in
        z)) ∙ e)
        (follows-later items body came uses (stmt_actions n 1 first_one.rest ++ used_by block.term) f) v k
        (λ u hu. from_term u (subst (λ l. HeldNow (came ++ stmt_actions n 0 l) u) (sym first_one.stmts_are)
        (subst (λ l. HeldNow l u) (append_assoc came uses (stmt_actions n 1 first_one.rest)) hu)))))
