-- The actions of a block that a path comes to, and where the path goes on from it.
use Rattle.std.proofs.Common.{◌≡◌, ◌⊎◌, inl, inr, ℕ, zero, suc, Bool, true, false, List, [], ◌∷◌, ◌++◌, map, length, Some, slice_get, Contains, refl, ap, sym, ◌∙◌, subst, append_assoc}
use Rattle.std.proofs.lemmas.Bool.{false≢true}
use Rattle.std.proofs.lemmas.Option.{none-some}
use Rattle.mir_ty.proofs.ListLemmas.{slice_get-Contains, Contains-slice_get}
use Rattle.mir_ty.specs.ItemTable.{ItemTable}
use Rattle.cfg_graph.specs.declared.graph.Block.{Block}
use Rattle.cfg_graph.specs.declared.graph.Body.{Body}
use Rattle.cfg_graph.specs.declared.place.Place as graph
use Rattle.cfg_graph.specs.declared.statement.Stmt.{Stmt}
use Rattle.cfg_graph.specs.declared.terminator.Term.{Term}
use Rattle.cfg_graph.specs.declared.terminator.Unwind.{Unwind}
use Rattle.cfg_graph.specs.Edges.{onward, unwind_of, unwind_block, unwind_targets, targets}
use Rattle.cfg_graph.specs.Moves.Actions.{at_line, stmt_actions, block_actions, actions_in, actions_on}
use Rattle.cfg_graph.specs.Moves.BadUses.{bad_uses_on}
use Rattle.cfg_graph.specs.Moves.Gone.{PathAction}
use Rattle.cfg_graph.specs.Moves.Paths.{IsPath}
use Rattle.cfg_graph.specs.NamedPlaces.{keeps_named}
use Rattle.cfg_graph.specs.Places.{ty_of_place}
use Rattle.cfg_graph.specs.Uses.{Stores, stmt_uses, term_uses, stored_by_term}
use Rattle.store_model.specs.Places.TypeForms.{is_never}
use Rattle.drop_values.proofs.Counting.{after}
use Rattle.drop_elaborate.proofs.Counted.{in-flat}
use Rattle.drop_elaborate.proofs.PathFacts.{Follows, follows-so, follows-later}
use Rattle.drop_elaborate.proofs.PathGrows.{OnPath, comes, in-block}
use Rattle.drop_elaborate.proofs.ReadyBody.{BodyIsReady}
use Rattle.drop_elaborate.proofs.Statements.{up_to}
use Rattle.drop_elaborate.proofs.Ways as way
use Rattle.drop_elaborate.proofs.Ways.{After}
use Rattle.drop_elaborate.specs.Elaborated.{is_drop}

-- the members of short lists
only-member : {A : Type 0} (x y : A) → Contains (x ∷ []) y → y ≡ x
only-member x y c = by c.0 (slice_get-Contains (x ∷ []) y c)
  where
    by : (k : ℕ) → slice_get (x ∷ []) k ≡ Some y → y ≡ x
    by zero e = let z : Some x ≡ Some y = e in let w : x ≡ y = cc in sym w
    by (suc k) e = absurd (none-some y e)

one-of-two : {A : Type 0} (x z y : A) → Contains (x ∷ z ∷ []) y → (y ≡ z) ⊎ (y ≡ x)
one-of-two x z y c = by c.0 (slice_get-Contains (x ∷ z ∷ []) y c)
  where
    by : (k : ℕ) → slice_get (x ∷ z ∷ []) k ≡ Some y → (y ≡ z) ⊎ (y ≡ x)
    by zero e = inr (let w : Some x ≡ Some y = e in let v : x ≡ y = cc in sym v)
    by (suc zero) e = inl (let w : Some z ≡ Some y = e in let v : z ≡ y = cc in sym v)
    by (suc (suc k)) e = absurd (none-some y e)

no-member : {A B : Type 0} (y : A) → Contains [] y → B
no-member y c = absurd (none-some y (slice_get-Contains [] y c))

module _ (items : ItemTable) (body : Body) where
  -- each statement of a block comes on the path
  pub record Coming (n line : ℕ) (acts : List PathAction) (stmts : List Stmt) (k : ℕ) (stmt : Stmt) : Type 0 where
    pub rest : List PathAction
    pub follows : Follows items body (up_to n line acts stmts k) (at_line n (after line k) (stmt_uses stmt) ++ rest)

  pub stmt-comes : (n line : ℕ) (acts more : List PathAction) (stmts : List Stmt) (k : ℕ) (stmt : Stmt) →
      slice_get stmts k ≡ Some stmt → Follows items body acts (stmt_actions n line stmts ++ more) →
      Coming n line acts stmts k stmt
  stmt-comes n line acts more [] k stmt e f = absurd (none-some stmt e)
  stmt-comes n line acts more (s ∷ stmts) zero stmt e f =
      let same : s ≡ stmt = (let z : Some s ≡ Some stmt = e in cc) in record {
        rest = stmt_actions n (suc line) stmts ++ more;
        follows = subst (λ x. Follows items body acts (at_line n line (stmt_uses x) ++ (stmt_actions n (suc line) stmts
            ++ more))) same (subst (Follows items body acts) (append_assoc (at_line n line (stmt_uses s))
            (stmt_actions n (suc line) stmts) more) f);
      }
  stmt-comes n line acts more (s ∷ stmts) (suc k) stmt e f =
      let r = stmt-comes n (suc line) (acts ++ at_line n line (stmt_uses s)) more stmts k stmt e
      (follows-later items body acts (at_line n line (stmt_uses s)) (stmt_actions n (suc line) stmts ++ more)
      (subst (Follows items body acts) (append_assoc (at_line n line (stmt_uses s)) (stmt_actions n (suc line) stmts)
      more) f)) in
      record { rest = r.rest; follows = r.follows }

module _ (items : ItemTable) (body : Body) (bodies : ℕ) (ready : BodyIsReady items bodies body)
    (bodies_are : (n : ℕ) (block : Block) → slice_get body.blocks n ≡ Some block → (m : ℕ) →
    Contains (targets block.term) m → (found : Block) × (slice_get body.blocks m ≡ Some found))
    (fine : (path : List ℕ) (given : List Bool) → IsPath items body path given → bad_uses_on items body path ≡ [])
    (kept : (path : List ℕ) (given : List Bool) (local : ℕ) → IsPath items body path given →
    keeps_named body (actions_on body path) local ≡ true)
    (n : ℕ) (block : Block) (at : slice_get body.blocks n ≡ Some block) (acts : List PathAction)
    (here : OnPath items body n acts) where
  abbrev pub stmts_done : List PathAction
  stmts_done = acts ++ stmt_actions n 0 block.stmts

  abbrev pub used_up : List PathAction
  used_up = at_line n (length block.stmts) (term_uses block.term)

  abbrev pub stored_up : List PathAction
  stored_up = at_line n (length block.stmts) (map (λ place. (Stores, place)) (stored_by_term block.term))

  -- the actions of the block in two groupings
  pub grouped : stmts_done ++ used_up ≡ acts ++ block_actions n block
  grouped = append_assoc acts (stmt_actions n 0 block.stmts) used_up

  nil : {A : Type 0} (l : List A) → l ++ [] ≡ l
  nil [] = refl
  nil (x ∷ l) = ap (λ l. x ∷ l) (nil l)

  pub follows : Follows items body acts (block_actions n block)
  follows =
      subst (Follows items body acts) (in-block items body n block at) (comes items body fine kept n acts here)

  pub at-term : Follows items body stmts_done (used_up ++ [])
  at-term =
      subst (Follows items body stmts_done) (sym (nil used_up))
      (follows-later items body acts (stmt_actions n 0 block.stmts) used_up follows)

  -- what is done up to a point of a path that goes on
  pub follows-done : (m : ℕ) (xs ys : List PathAction) → OnPath items body m (xs ++ ys) →
      Follows items body xs (ys ++ actions_in body m)
  follows-done m xs ys o =
      follows-later items body [] xs (ys ++ actions_in body m)
      (subst (Follows items body []) (o.done ∙ append_assoc xs ys (actions_in body m)) (follows-so items body []
      (actions_on body (o.path ++ m ∷ [])) (fine (o.path ++ m ∷ []) o.given o.is_path)
      (λ r. kept (o.path ++ m ∷ []) o.given r o.is_path)))

  abbrev pub HasResult : Term → Type 0
  HasResult term = (to : graph.Place) → stored_by_term term ≡ to ∷ [] →
      is_never (ty_of_place items body.locals to) ≡ false

  -- each block that comes next is come to
  pub target : (term : Term) → block.term ≡ term → HasResult term → (m : ℕ) → Contains (onward term) m →
      OnPath items body m (After items body n block acts)
  target (Term.Goto b) e r m c =
      subst (λ m. OnPath items body m (After items body n block acts)) (sym (only-member b m c))
      (way.goto-way items body n block at acts here b e)
  target (Term.If on y z) e r m c = way.if-way items body n block at acts here on y z m e (one-of-two z y m c)
  target (Term.Case on variant y z) e r m c =
      way.case-way items body n block at acts here on variant y z m e (one-of-two z y m c)
  target (Term.Math to op left right b unwind) e r m c =
      subst (λ m. OnPath items body m (After items body n block acts)) (sym (only-member b m c))
      (way.math-way items body n block at acts here to op left right b unwind e)
  target (Term.Negate to of b unwind) e r m c =
      subst (λ m. OnPath items body m (After items body n block acts)) (sym (only-member b m c))
      (way.negate-way items body n block at acts here to of b unwind e)
  target (Term.Bounds index count b unwind) e r m c =
      subst (λ m. OnPath items body m (After items body n block acts)) (sym (only-member b m c))
      (way.bounds-way items body n block at acts here index count b unwind e)
  target (Term.Ask to b unwind) e r m c =
      subst (λ m. OnPath items body m (After items body n block acts)) (sym (only-member b m c))
      (way.ask-way items body n block at acts here to b unwind e)
  target (Term.Call to callee args b unwind) e r m c =
      subst (λ m. OnPath items body m (After items body n block acts)) (sym (only-member b m c))
      (way.call-way items body n block at acts here to callee args b unwind e (r to refl))
  target (Term.Virtual to trait_no method args b unwind) e r m c =
      subst (λ m. OnPath items body m (After items body n block acts)) (sym (only-member b m c))
      (way.virtual-way items body n block at acts here to trait_no method args b unwind e (r to refl))
  target (Term.DropAt place b unwind) e r m c =
      subst (λ m. OnPath items body m (After items body n block acts)) (sym (only-member b m c))
      (way.drop-way items body n block at acts here place b unwind e)
  target (Term.Panic why unwind) e r m c = no-member m c
  target Term.Return e r m c = no-member m c
  target Term.Resume e r m c = no-member m c

  -- and where a panic goes on
  pub panic-target : (term : Term) → block.term ≡ term → is_drop term ≡ false → (m : ℕ) →
      Contains (unwind_of term) (Unwind.Block m) → OnPath items body m (acts ++ block_actions n block)
  panic-target (Term.Math to op left right b unwind) e d m c =
      way.math-panics items body n block at acts here (ready.cleanup n block at) (bodies_are n block at) to op left
      right b
      m (e ∙ ap (Term.Math to op left right b) (sym (only-member unwind (Unwind.Block m) c)))
  panic-target (Term.Negate to of b unwind) e d m c =
      way.negate-panics items body n block at acts here (ready.cleanup n block at) (bodies_are n block at) to of b m
      (e ∙ ap (Term.Negate to of b) (sym (only-member unwind (Unwind.Block m) c)))
  panic-target (Term.Bounds index count b unwind) e d m c =
      way.bounds-panics items body n block at acts here (ready.cleanup n block at) (bodies_are n block at) index
      count b m
      (e ∙ ap (Term.Bounds index count b) (sym (only-member unwind (Unwind.Block m) c)))
  panic-target (Term.Ask to b unwind) e d m c =
      way.ask-panics items body n block at acts here (ready.cleanup n block at) (bodies_are n block at) to b m
      (e ∙ ap (Term.Ask to b) (sym (only-member unwind (Unwind.Block m) c)))
  panic-target (Term.Call to callee args b unwind) e d m c =
      way.call-panics items body n block at acts here (ready.cleanup n block at) (bodies_are n block at) to callee
      args b m
      (e ∙ ap (Term.Call to callee args b) (sym (only-member unwind (Unwind.Block m) c)))
  panic-target (Term.Virtual to trait_no method args b unwind) e d m c =
      way.virtual-panics items body n block at acts here (ready.cleanup n block at) (bodies_are n block at) to
      trait_no
      method args b m
      (e ∙ ap (Term.Virtual to trait_no method args b) (sym (only-member unwind (Unwind.Block m) c)))
  panic-target (Term.Panic why unwind) e d m c =
      way.panic-panics items body n block at acts here (ready.cleanup n block at) (bodies_are n block at) why m
      (e ∙ ap (Term.Panic why) (sym (only-member unwind (Unwind.Block m) c)))
  panic-target (Term.DropAt place b unwind) e d m c = absurd (false≢true (sym d))
  panic-target (Term.Goto b) e d m c = no-member (Unwind.Block m) c
  panic-target (Term.If on y z) e d m c = no-member (Unwind.Block m) c
  panic-target (Term.Case on variant y z) e d m c = no-member (Unwind.Block m) c
  panic-target Term.Return e d m c = no-member (Unwind.Block m) c
  panic-target Term.Resume e d m c = no-member (Unwind.Block m) c

  -- the result of a terminator is stored on a path that goes on
  pub next-of : (term : Term) → block.term ≡ term → (to : graph.Place) → stored_by_term term ≡ to ∷ [] →
      (m : ℕ) × Contains (onward term) m
  next-of (Term.Math to' op left right b unwind) e to s = (b, Contains-slice_get (b ∷ []) 0 b refl)
  next-of (Term.Negate to' of b unwind) e to s = (b, Contains-slice_get (b ∷ []) 0 b refl)
  next-of (Term.Ask to' b unwind) e to s = (b, Contains-slice_get (b ∷ []) 0 b refl)
  next-of (Term.Call to' callee args b unwind) e to s = (b, Contains-slice_get (b ∷ []) 0 b refl)
  next-of (Term.Virtual to' trait_no method args b unwind) e to s = (b, Contains-slice_get (b ∷ []) 0 b refl)
  next-of other e to s = absurd (let x : [] ≡ to ∷ [] = s in cc)

  pub goes-on : (to : graph.Place) → stored_by_term block.term ≡ to ∷ [] →
      is_never (ty_of_place items body.locals to) ≡ false → (later : List PathAction)
      × Follows items body (stmts_done ++ used_up)
      (at_line n (length block.stmts) ((Stores, to) ∷ []) ++ later)
  goes-on to s never =
      let m = next-of block.term refl to s in
      let o = target block.term refl (λ x y. subst (λ z. is_never (ty_of_place items body.locals z) ≡ false)
      (let a : to ∷ [] ≡ x ∷ [] = sym s ∙ y in let b : to ≡ x = cc in b) never) m.0 m.1 in (
        actions_in body m.0,
        subst (λ l. Follows items body l (at_line n (length block.stmts) ((Stores, to) ∷ []) ++ actions_in body m.0))
            (sym grouped)
            (subst (λ l. Follows items body (acts ++ block_actions n block) (at_line n (length block.stmts)
            (map (λ place. (Stores, place)) l) ++ actions_in body m.0)) s
            (follows-done m.0 (acts ++ block_actions n block) stored_up o)),
      )

  -- a block to which a panic leads is one of the targets
  pub unwind-target : (m : ℕ) → Contains (unwind_of block.term) (Unwind.Block m) → Contains (targets block.term) m
  unwind-target m c =
      let f = in-flat unwind_block (unwind_of block.term) c.0 0 (Unwind.Block m) m
      (slice_get-Contains (unwind_of block.term) (Unwind.Block m) c) refl in
      let r = right (onward block.term) (unwind_targets block.term) f.0 f.1 in
      Contains-slice_get (targets block.term) r.0 m r.1
    where
      right : (xs ys : List ℕ) (k : ℕ) → slice_get ys k ≡ Some m → (j : ℕ) × (slice_get (xs ++ ys) j ≡ Some m)
      right [] ys k e = (k, e)
      right (x ∷ xs) ys k e = let r = right xs ys k e in (suc r.0, r.1)

  pub in-targets : (m : ℕ) → Contains (onward block.term) m → Contains (targets block.term) m
  in-targets m c =
      Contains-slice_get (targets block.term) c.0 m
      (left (onward block.term) _ c.0 (slice_get-Contains (onward block.term) m c))
    where
      left : (xs ys : List ℕ) (k : ℕ) → slice_get xs k ≡ Some m → slice_get (xs ++ ys) k ≡ Some m
      left [] ys k e = absurd (none-some m e)
      left (x ∷ xs) ys zero e = e
      left (x ∷ xs) ys (suc k) e = left xs ys k e
