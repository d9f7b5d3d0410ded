-- A place that was dropped gets a value again by the first statement of the next block: then all holds as if both were
-- one step.
use Rattle.std.proofs.Common.{◌≡◌, ℕ, ◌==◌, ◌&&◌, ◌||◌, Bool, true, false, List, [], ◌∷◌, ◌++◌, map, flat_map, Option, Some, None, if◌then◌else◌, slice_get, refl, ap, sym, ◌∙◌, subst, append_assoc}
use Rattle.std.specs.List.{list_any}
use Rattle.std.specs.Option.{option_map_or, option_or}
use Rattle.std.specs.Cmp.{first_so, second_so}
use Rattle.std.specs.Cmp.Derive.{both_true}
use Rattle.std.proofs.lemmas.Bool.{false≢true}
use Rattle.std.proofs.lemmas.Bool.Decides.{Decides-eqb}
use Rattle.std.proofs.lemmas.Option.{none-some}
use Rattle.mir_ty.specs.declared.ty.TyId.{TyId}
use Rattle.mir_ty.specs.ItemTable.{ItemTable}
use Rattle.cfg_graph.specs.declared.graph.Block.{Block}
use Rattle.cfg_graph.specs.declared.graph.Body.{Body}
use Rattle.cfg_graph.specs.declared.place.Place as graph
use Rattle.cfg_graph.specs.declared.statement.Stmt.{Stmt}
use Rattle.cfg_graph.specs.Moves.Actions.{at_line}
use Rattle.cfg_graph.specs.Moves.Gone.{PathAction, are_first, is_at_or_above, counts, left_by, last_left}
use Rattle.cfg_graph.specs.NamedPlaces.{same_place}
use Rattle.cfg_graph.specs.Places.{named, place_id}
use Rattle.cfg_graph.specs.Ready.{is_no_free, begins_by_storing}
use Rattle.cfg_graph.specs.Uses.{PlaceUse, Stores, operand_uses, operands_of_stmt, stored_by_stmt, other_uses, stmt_uses}
use Rattle.cfg_graph.specs.WellFormed.Typing.{is_typed_place}
use Rattle.cfg_meaning.specs.Actions.{action_of}
use Rattle.store_model.specs.declared.address.Addr.{Addr}
use Rattle.store_model.specs.Concrete.Effects.{act}
use Rattle.store_model.specs.Concrete.Location.{Setting}
use Rattle.store_model.specs.Concrete.State.{State, Bodies}
use Rattle.store_model.specs.Effects.{Go}
use Rattle.store_model.specs.Places.Place.{Step, same_step, Place}
use Rattle.store_model.specs.Values.Datum.{Gone}
use Rattle.drop_values.specs.Like.{raw_setting}
use Rattle.drop_values.proofs.Actions.{ActionOk}
use Rattle.drop_values.proofs.Hole.{told_as, begun}
use Rattle.drop_values.proofs.Reach.{IndexOk}
use Rattle.drop_values.proofs.Refill.{Refills, refill-matches}
use Rattle.drop_values.proofs.Steps.{same_step-sound, same_step-refl}
use Rattle.drop_values.proofs.Touched.{AllNameFull}
use Rattle.drop_elaborate.proofs.Dropped.{at_drop, Emptied}
use Rattle.drop_elaborate.proofs.Held.{Held, other-path}
use Rattle.drop_elaborate.proofs.OperandTypes.{index-at, typed-id}
use Rattle.drop_elaborate.proofs.PathFacts.{Follows}
use Rattle.drop_elaborate.proofs.ReadyBody.{BodyIsReady}
use Rattle.drop_elaborate.proofs.SitesOk.{stmt-ok}
use Rattle.drop_elaborate.proofs.StatementsHeld.{same-Held}
use Rattle.drop_elaborate.proofs.StmtKeeps.{stmt-keeps}
use Rattle.drop_elaborate.proofs.LineOperands.{made_are}
use Rattle.drop_elaborate.proofs.StmtTests.{LineTested, stmt-tested}
use Rattle.drop_elaborate.proofs.WithoutDrop.{last-append, same-gone, live-fewer, follows-without}

-- ---- the same place

first-both : (a b : List Step) → are_first a b ≡ true → are_first b a ≡ true → a ≡ b
first-both [] [] h k = refl
first-both [] (y ∷ ys) h k = absurd (false≢true k)
first-both (x ∷ xs) [] h k = absurd (false≢true h)
first-both (x ∷ xs) (y ∷ ys) h k =
    ap (λ s. s ∷ xs) (same_step-sound x y (first_so (same_step x y) (are_first xs ys) h))
    ∙ ap (λ l. y ∷ l) (first-both xs ys (second_so (same_step x y) (are_first xs ys) h)
    (second_so (same_step y x) (are_first ys xs) k))

pub same-places : (a b : Place) → same_place a b ≡ true → a ≡ b
same-places a b h =
    let one = (a.local == b.local) && are_first a.steps b.steps in
    let f = first_so one (are_first b.steps a.steps) h in
    ap (λ n. record { local = n; steps = a.steps }) ((Decides-eqb a.local b.local).0
    (first_so (a.local == b.local) (are_first a.steps b.steps) f))
    ∙ ap (λ l. record { local = b.local; steps = l }) (first-both a.steps b.steps
    (second_so (a.local == b.local) (are_first a.steps b.steps) f)
    (second_so one (are_first b.steps a.steps) h))

first-itself : (a : List Step) → are_first a a ≡ true
first-itself [] = refl
first-itself (x ∷ a) = both_true (same_step-refl x) (first-itself a)

pub same-itself : (a : Place) → same_place a a ≡ true
same-itself a =
    both_true (both_true ((Decides-eqb a.local a.local).1 refl) (first-itself a.steps)) (first-itself a.steps)

any-one : (a : Bool) → (a || false) ≡ true → a ≡ true
any-one true h = refl
any-one false h = h

-- a statement stores into one place alone
stored-one : (stmt : Stmt) (p : graph.Place → Bool) → list_any p (stored_by_stmt stmt) ≡ true →
    (to : graph.Place) × (stored_by_stmt stmt ≡ to ∷ []) × (p to ≡ true)
stored-one (Stmt.Put to from) p h = (to, refl, any-one (p to) h)
stored-one (Stmt.Compare to op left right) p h = (to, refl, any-one (p to) h)
stored-one (Stmt.Not to operand) p h = (to, refl, any-one (p to) h)
stored-one (Stmt.Tuple to parts) p h = (to, refl, any-one (p to) h)
stored-one (Stmt.Array to parts) p h = (to, refl, any-one (p to) h)
stored-one (Stmt.Make to adt variant parts) p h = (to, refl, any-one (p to) h)
stored-one (Stmt.Close to closure parts) p h = (to, refl, any-one (p to) h)
stored-one (Stmt.NewBox to operand) p h = (to, refl, any-one (p to) h)
stored-one (Stmt.Unsize to trait_no from) p h = (to, refl, any-one (p to) h)
stored-one (Stmt.Borrow to unique of) p h = (to, refl, any-one (p to) h)
stored-one (Stmt.Touch place) p h = absurd (false≢true h)
stored-one (Stmt.Print operand) p h = absurd (false≢true h)
stored-one (Stmt.Forget operand) p h = absurd (false≢true h)
stored-one (Stmt.Free place) p h = absurd (false≢true h)

module _ (items : ItemTable) (local_ty : (body local : ℕ) → Option TyId) (number depth bodies : ℕ) (body : Body)
    (addresses : List Addr) (before : State) (given : AllNameFull items local_ty before addresses)
    (locals_are : (k : ℕ) → local_ty number k ≡ slice_get body.locals k) (ready : BodyIsReady items bodies body) where
  abbrev raw : Setting
  raw = raw_setting items local_ty

  abbrev HeldNow : List PathAction → State → Type 0
  HeldNow actions w = Held items local_ty number depth body addresses before given locals_are actions w

  abbrev EmptiedNow : ℕ → List PathAction → State → Type 0
  EmptiedNow m actions v =
      Emptied items local_ty number depth bodies body addresses before given locals_are ready m actions v

  pub index_here : (place : graph.Place) → is_typed_place items body.locals place ≡ true →
      IndexOk (local_ty number) (named place).steps
  index_here place t =
      index-at items ready.alone local_ty number depth body addresses before given locals_are
      (made_are items local_ty number depth bodies body addresses before given locals_are ready) place t

  pub id_here : (place : graph.Place) → is_typed_place items body.locals place ≡ true →
      (id : TyId) × (place_id items body.locals place ≡ Some id)
  id_here place t =
      typed-id items ready.alone local_ty number depth body addresses before given locals_are
      (made_are items local_ty number depth bodies body addresses before given locals_are ready) place t

  module _ (m : ℕ) (block : Block) (at : slice_get body.blocks m ≡ Some block) (run : Bodies)
      (actions : List PathAction) (v : State) (h : EmptiedNow m actions v) where
    -- the first statement, and where it stores
    pub record First : Type 0 where
      pub stmt : Stmt
      pub rest : List Stmt
      pub stmts_are : block.stmts ≡ stmt ∷ rest
      pub to : graph.Place
      pub stores : stored_by_stmt stmt ≡ to ∷ []
      pub same : named to ≡ named h.place

    pub first : First
    first = by block.stmts refl
        (ap (λ o. option_map_or (λ (b : Block). begins_by_storing items body h.place b.stmts) o false) (sym at)
        ∙ h.refilled)
      where
        by : (stmts : List Stmt) → block.stmts ≡ stmts → begins_by_storing items body h.place stmts ≡ true → First
        by [] e b = absurd (false≢true b)
        by (stmt ∷ rest) e b =
            let s = stored-one stmt (λ to. same_place (named to) (named h.place)) b in record {
              stmt = stmt;
              rest = rest;
              stmts_are = e;
              to = s.0;
              stores = s.1;
              same = same-places (named s.0) (named h.place) s.2;
            }

    at_first : slice_get block.stmts 0 ≡ Some first.stmt
    at_first = ap (λ l. slice_get l 0) first.stmts_are

    abbrev used_there : List PathAction
    used_there = at_line m 0 (stmt_uses first.stmt)

    abbrev the_drop : PathAction
    the_drop = at_drop items local_ty number depth bodies body addresses before given locals_are ready h.block h.line
        h.place

    tested : LineTested items body (operands_of_stmt first.stmt) (stored_by_stmt first.stmt) (other_uses first.stmt)
    tested =
        (stmt-tested items body first.stmt (ready.stmt_typed m 0 block first.stmt at at_first)
        (ready.stmt_moves m 0 block first.stmt at at_first)).0

    no_free : is_no_free first.stmt ≡ true
    no_free = ready.no_free m 0 block first.stmt at at_first

    abbrev RefillsHere : Stmt → Type 0
    RefillsHere stmt =
        Refills items local_ty number depth h.before_it h.s h.stood (named h.place) h.leads (action_of 0 stmt)

    abbrev TestedAs : Stmt → Type 0
    TestedAs stmt = LineTested items body (operands_of_stmt stmt) (stored_by_stmt stmt) (other_uses stmt)

    -- its places are places of the body
    ok : (stmt : Stmt) → is_no_free stmt ≡ true → TestedAs stmt → ActionOk items local_ty local_ty (λ b k id e. e)
        (λ d k. Gone) depth number 0 run run (λ callee args w. ⊥) (λ flags event callee args w w' g l few. absurd g)
        (λ event callee args w g. absurd g) (action_of 0 stmt)
    ok stmt free t =
        stmt-ok items local_ty local_ty (λ b k id e. e) number depth body locals_are index_here id_here (λ d k. Gone) 0
        run run (λ callee args w. ⊥) (λ flags event callee args w w' g l few. absurd g)
        (λ event callee args w g. absurd g) stmt free t

    refills-so : (stmt : Stmt) (to : graph.Place) → stored_by_stmt stmt ≡ to ∷ [] → named to ≡ named h.place →
        is_no_free stmt ≡ true → TestedAs stmt → RefillsHere stmt
    refills-so stmt to s same free t = by stmt s free t
      where
        same-of : (other : graph.Place) → other ∷ [] ≡ to ∷ [] → named other ≡ named h.place
        same-of other e = ap named (let x : other ≡ to = cc in x) ∙ same

        by : (stmt : Stmt) → stored_by_stmt stmt ≡ to ∷ [] → is_no_free stmt ≡ true → TestedAs stmt → RefillsHere stmt
        by (Stmt.Put x from) s free t = (same-of x s, (ok (Stmt.Put x from) free t).1)
        by (Stmt.Compare x op left right) s free t =
            let o = ok (Stmt.Compare x op left right) free t in (same-of x s, o.1, o.2)
        by (Stmt.Not x operand) s free t = (same-of x s, (ok (Stmt.Not x operand) free t).1)
        by (Stmt.Tuple x parts) s free t = (same-of x s, (ok (Stmt.Tuple x parts) free t).1)
        by (Stmt.Array x parts) s free t = (same-of x s, (ok (Stmt.Array x parts) free t).1)
        by (Stmt.Make x adt variant parts) s free t = (same-of x s, (ok (Stmt.Make x adt variant parts) free t).1)
        by (Stmt.Close x closure parts) s free t = (same-of x s, (ok (Stmt.Close x closure parts) free t).1)
        by (Stmt.NewBox x operand) s free t = (same-of x s, (ok (Stmt.NewBox x operand) free t).1)
        by (Stmt.Unsize x trait_no from) s free t = (same-of x s, (ok (Stmt.Unsize x trait_no from) free t).1)
        by (Stmt.Borrow x unique of) s free t = (same-of x s, (ok (Stmt.Borrow x unique of) free t).1)
        by (Stmt.Touch place) s free t = absurd (let x : [] ≡ to ∷ [] = s in cc)
        by (Stmt.Print operand) s free t = absurd (let x : [] ≡ to ∷ [] = s in cc)
        by (Stmt.Forget operand) s free t = absurd (let x : [] ≡ to ∷ [] = s in cc)
        by (Stmt.Free place) s free t = absurd (let x : [] ≡ to ∷ [] = s in cc)

    -- where it leaves what the drop took, it stores again
    stored-again : (place : Place) → left_by items body place the_drop ≡ Some true →
        (b : Bool) × (last_left items body place used_there ≡ Some b)
    stored-again place l = (
      false,
      ap (λ us. last_left items body place us) uses_are
          ∙ last-append items body place others (store_there ∷ [])
          ∙ ap (λ o. option_or o (last_left items body place others)) left,
    )
      where
        others : List PathAction
        others = at_line m 0 (flat_map operand_uses (operands_of_stmt first.stmt) ++ other_uses first.stmt)

        store_there : PathAction
        store_there = record { how = Stores; place = named first.to; block = m; line = 0 }

        line-append : (xs ys : List (PlaceUse × graph.Place)) → at_line m 0 (xs ++ ys) ≡ at_line m 0 xs ++ at_line m 0
            ys
        line-append [] ys = refl
        line-append (x ∷ xs) ys = ap (λ l. (record { how = x.0; place = named x.1; block = m; line = 0 }) ∷ l)
            (line-append xs ys)

        uses_are : used_there ≡ others ++ store_there ∷ []
        uses_are =
            line-append (flat_map operand_uses (operands_of_stmt first.stmt) ++ other_uses first.stmt)
            (map (λ place. (Stores, place)) (stored_by_stmt first.stmt))
            ∙ ap (λ l. others ++ at_line m 0 (map (λ place. (Stores, place)) l)) first.stores

        taken-there : (b : Bool) → (if b then Some true else None) ≡ Some true → b ≡ true
        taken-there true e = refl
        taken-there false e = absurd (none-some true e)

        above : (counts items body (named h.place) && is_at_or_above (named h.place) place) ≡ true
        above = taken-there (counts items body (named h.place) && is_at_or_above (named h.place) place) l

        left : last_left items body place (store_there ∷ []) ≡ Some false
        left =
            ap (λ b. if b then Some false else None)
            (ap (λ p. counts items body p && is_at_or_above p place) first.same ∙ above)

    -- so all holds again, as it is done
    pub refilled : (rest : List PathAction) (y : State) → Follows items body actions (used_there ++ rest) →
        act raw run (action_of 0 first.stmt) v ≡ Go y → HeldNow (actions ++ used_there) y
    refilled rest y f e =
        let told = told_as items local_ty number depth h.before_it h.s h.stood v in
        let filled = begun items local_ty number depth h.before_it h.s h.stood v h.changed h.known.knows.deep
        h.known.knows.number_is in
        let again : HeldNow h.acts told =
        same-Held items local_ty number depth body addresses before given locals_are h.acts h.before_it told
        (record { less = h.changed.less; count = refl; bodies = λ d. refl; cells = λ d k. refl }) h.known in
        let does = refill-matches items local_ty number depth h.before_it h.s h.stood (named h.place) h.leads run
        (action_of 0 first.stmt) v told (refills-so first.stmt first.to first.stores first.same no_free tested)
        h.there.index filled y e in
        let without = follows-without items body h.acts used_there rest the_drop refl (λ r. refl)
        (subst (λ l. Follows items body l (used_there ++ rest)) h.done f) in
        let kept : HeldNow (h.acts ++ used_there) does.0 =
        stmt-keeps items local_ty number depth bodies body addresses before given locals_are ready m 0 block at run
        h.acts
        [] told does.0 again first.stmt at_first without does.1 in
        let same = same-Held items local_ty number depth body addresses before given locals_are (h.acts ++ used_there)
        does.0 y does.2 kept in
        subst (λ l. HeldNow (l ++ used_there) y) (sym h.done)
        (subst (λ l. HeldNow l y) (sym (append_assoc h.acts (the_drop ∷ []) used_there))
        (other-path items local_ty number depth body addresses before given locals_are (h.acts ++ used_there)
        (h.acts ++ the_drop ∷ used_there) y
        (λ place. same-gone items body the_drop refl h.acts used_there place (stored-again place))
        (λ r l. live-fewer items body r h.acts used_there the_drop refl l) same))
