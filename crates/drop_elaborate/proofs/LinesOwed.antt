-- What is owed of the statements of a block, and of the actions of terminators, is met: each may be done, and keeps
-- what holds of the raw run. No premise is left but that the body is ready, its path meets no bad use, and the bodies
-- that it calls keep their contract.
use Rattle.std.proofs.Common.{◌≡◌, inl, inr, ℕ, ◌≤◌, ◌<◌, ◌&&◌, Bool, true, false, List, [], ◌∷◌, ◌++◌, map, flat_map, length, Option, Some, None, slice_get, refl, subst}
use Rattle.std.specs.Cmp.{first_so}
use Rattle.std.proofs.lemmas.Option.{none-some}
use Rattle.mir_base.specs.declared.operator.Math.{Math}
use Rattle.mir_base.specs.declared.trace.Event.{Event}
use Rattle.mir_ty.specs.declared.ty.Ty.{Ty}
use Rattle.mir_ty.specs.declared.ty.TyId.{TyId}
use Rattle.mir_ty.specs.ItemTable.{ItemTable, type_at}
use Rattle.cfg_graph.specs.declared.graph.Block.{Block}
use Rattle.cfg_graph.specs.declared.graph.Body.{Body}
use Rattle.cfg_graph.specs.declared.place.Operand.{Operand}
use Rattle.cfg_graph.specs.declared.place.Place as graph
use Rattle.cfg_graph.specs.declared.statement.Stmt.{Stmt}
use Rattle.cfg_graph.specs.declared.terminator.Term.{Term}
use Rattle.cfg_graph.specs.declared.terminator.Unwind as graph_unwind
use Rattle.cfg_graph.specs.Moves.Actions.{at_line}
use Rattle.cfg_graph.specs.Moves.Gone.{PathAction}
use Rattle.cfg_graph.specs.Places.{named, place_id, ty_of_place}
use Rattle.cfg_graph.specs.Uses.{Stores, operand_uses, operands_of_stmt, operands_of_term, stored_by_stmt, stored_by_term, other_uses, other_term_uses, stmt_uses, term_uses}
use Rattle.cfg_graph.specs.WellFormed.Typing.{is_typed_place}
use Rattle.cfg_meaning.specs.Actions.{site_of, operand_of, operands_of, action_of}
use Rattle.cfg_meaning.specs.Walk.{naming}
use Rattle.store_model.specs.declared.address.Addr.{Addr}
use Rattle.store_model.proofs.Concrete.Effects.{ticks_of, values_laws, Thrifty}
use Rattle.store_model.proofs.Effects.Laws.{NoMore}
use Rattle.store_model.specs.Concrete.Effects.{act, concrete_effects}
use Rattle.store_model.specs.Concrete.Location.{Setting}
use Rattle.store_model.specs.Concrete.State.{State, Bodies}
use Rattle.store_model.specs.Effects as effects
use Rattle.store_model.specs.Effects.{Action, Out, Go, Unwind, Halts}
use Rattle.store_model.specs.Places.Place.{Place}
use Rattle.store_model.specs.Places.TypeForms.{is_never}
use Rattle.store_model.specs.Values.Datum.{Datum}
use Rattle.drop_values.specs.Like.{Flags, SameBodies, raw_setting, strict_setting, Extends}
use Rattle.drop_values.proofs.Actions.{ActionOk, MayCall, StoreTyped, Stays}
use Rattle.drop_values.proofs.Reach.{IndexOk}
use Rattle.drop_values.proofs.Touched.{AllNameFull, KeepsOlder}
use Rattle.drop_elaborate.proofs.CalledBodies.{CalleesOk}
use Rattle.drop_elaborate.proofs.CheckedTerms.{Leaves}
use Rattle.drop_elaborate.proofs.Entered.{Enters}
use Rattle.drop_elaborate.proofs.Held.{Held}
use Rattle.drop_elaborate.proofs.OperandTypes.{index-at, typed-id}
use Rattle.drop_elaborate.proofs.PathFacts.{Follows}
use Rattle.drop_elaborate.proofs.ReadyBody.{BodyIsReady}
use Rattle.drop_elaborate.proofs.SitesOk.{stmt-ok, stmt-stored, stmt-may, math-ok, negate-ok, bounds-ok, ask-ok, call-ok, virtual-ok, stored-typed}
use Rattle.drop_elaborate.proofs.Statements.{ActionOwed}
use Rattle.drop_elaborate.proofs.StmtKeeps.{stmt-keeps}
use Rattle.drop_elaborate.proofs.LineOperands.{made_are}
use Rattle.drop_elaborate.proofs.StmtTests.{LineTested, stmt-tested, term-tested}
use Rattle.drop_elaborate.proofs.TermKeeps.{math-keeps, negate-keeps, bounds-keeps, ask-keeps, call-enters, call-keeps, virtual-keeps, virtual-may}
use Rattle.drop_elaborate.proofs.Terminators.{PanickingOwed, term_action}
use Rattle.drop_elaborate.proofs.Walks.{unplaced, Walks}
use Rattle.drop_elaborate.specs.Elaborated.{flag_at}
use Rattle.cfg_meaning.specs.Walk.{Next}
use Rattle.drop_values.specs.Like.{IsStuck}

some-same : {A : Type 0} {x y : A} → Some x ≡ Some y → x ≡ y
some-same {A} {x} {y} e = let z : Some x ≡ Some y = e in cc

pub only : (b : Bool) → (b && true) ≡ true → b ≡ true
only b h = first_so b true h

module _ (items : ItemTable) (local_ty local_ty' : (body local : ℕ) → Option TyId)
    (extends : Extends local_ty local_ty') (number depth bodies : ℕ) (outer : Flags) (body : Body) (flagged : List
    Place)
    (flag_ty : TyId) (flag_is : type_at items flag_ty ≡ Some Ty.Bool)
    (added : (n : ℕ) → n < length flagged → (local_ty number (flag_at items body flagged n) ≡ None)
    × (local_ty' number (flag_at items body flagged n) ≡ Some flag_ty))
    (addresses : List Addr) (before : State) (given : AllNameFull items local_ty before addresses)
    (locals_are : (k : ℕ) → local_ty number k ≡ slice_get body.locals k) (ready : BodyIsReady items bodies body)
    (callees : CalleesOk items local_ty bodies) (run run' : Bodies) (thrifty : Thrifty run)
    (keeps : KeepsOlder items local_ty (Enters items local_ty) run) (bound most : ℕ)
    (tie : SameBodies local_ty (Enters items local_ty) most run run')
    (stays : (flags : Flags) (event : Event) (callee : ℕ) (args : List Datum) (w : State) →
    Enters items local_ty callee args w → Stays items local_ty local_ty' extends flags depth number w (run event
    callee args w)) where
  abbrev raw : Setting
  raw = raw_setting items local_ty

  abbrev pub HeldNow : List PathAction → State → Type 0
  HeldNow actions w = Held items local_ty number depth body addresses before given locals_are actions w

  pub index_here : (place : graph.Place) → is_typed_place items body.locals place ≡ true →
      IndexOk (local_ty number) (named place).steps
  index_here place t =
      index-at items ready.alone local_ty number depth body addresses before given locals_are
      (made_are items local_ty number depth bodies body addresses before given locals_are ready) place t

  pub id_here : (place : graph.Place) → is_typed_place items body.locals place ≡ true →
      (id : TyId) × (place_id items body.locals place ≡ Some id)
  id_here place t =
      typed-id items ready.alone local_ty number depth body addresses before given locals_are
      (made_are items local_ty number depth bodies body addresses before given locals_are ready) place t

  -- no action gives a tick back
  act-less : (action : Action) (w v : State) → act raw run action w ≡ Go v → v.ticks ≤ w.ticks
  act-less action w v e = subst (NoMore ticks_of w.ticks) e ((values_laws raw run thrifty bound).acting action w)

  act-unwinds-less : (action : Action) (w v : State) → act raw run action w ≡ Unwind v → v.ticks ≤ w.ticks
  act-unwinds-less action w v e = subst (NoMore ticks_of w.ticks) e ((values_laws raw run thrifty bound).acting action
      w)

  -- ---- statements

  abbrev Owed : List PathAction → List PathAction → Action → Type 0
  Owed acts uses action =
      ActionOwed items local_ty local_ty' extends number depth outer body flagged flag_ty flag_is added run' bound run
      most (Enters items local_ty) tie stays HeldNow acts uses action

  pub stmt-Owed : (n line : ℕ) (block : Block) (stmt : Stmt) → slice_get body.blocks n ≡ Some block →
      slice_get block.stmts line ≡ Some stmt → (acts rest : List PathAction) →
      Follows items body acts (at_line n line (stmt_uses stmt) ++ rest) →
      Owed acts (at_line n line (stmt_uses stmt)) (action_of 0 stmt)
  stmt-Owed n line block stmt at here acts rest f = record {
    ok = λ flags. stmt-ok items local_ty local_ty' extends number depth body locals_are index_here id_here flags most
        run run' (Enters items local_ty) tie (stays flags) stmt (ready.no_free n line block stmt at here) tested;
    may = λ flags w h. stmt-may items local_ty local_ty' extends number depth body locals_are index_here id_here flags
        most run run' (Enters items local_ty) tie (stays flags) stmt w;
    typed = λ flags. stmt-stored items local_ty local_ty' extends number depth body locals_are index_here id_here
        flags most run run' (Enters items local_ty) tie (stays flags) stmt tested;
    keeps = λ w v h e. kept w v h e;
    frame = λ w v h deep is e. let k = kept w v h e in
        (k.knows.deep, k.knows.number_is, act-less (action_of 0 stmt) w v e);
  }
    where
      tested : LineTested items body (operands_of_stmt stmt) (stored_by_stmt stmt) (other_uses stmt)
      tested = (stmt-tested items body stmt (ready.stmt_typed n line block stmt at here)
          (ready.stmt_moves n line block stmt at here)).0

      kept : (w v : State) → HeldNow acts w → act raw run (action_of 0 stmt) w ≡ Go v →
          HeldNow (acts ++ at_line n line (stmt_uses stmt)) v
      kept w v h e =
          stmt-keeps items local_ty number depth bodies body addresses before given locals_are ready n line block at run
          acts rest w v h stmt here f e

  -- ---- terminators

  module _ (body' : Body) (WalkE : Next State) (walks : Walks
      (naming unplaced (concrete_effects (strict_setting items local_ty') run' bound)) ticks_of most body'
      (λ block line. 0) WalkE) where
    abbrev Panicking : (done moved stored : List PathAction) → Action → Type 0
    Panicking done moved stored action =
        PanickingOwed items local_ty local_ty' extends number depth outer body flagged flag_ty flag_is added run run'
        bound most (Enters items local_ty) tie stays HeldNow body' WalkE walks done moved stored action

    abbrev Way : (n line : ℕ) → List PathAction → List graph.Place → Out State → Type 0
    Way n line used stored o =
        Leaves items local_ty number depth body addresses before given locals_are n line used stored o

    -- an action that may panic, by what it leaves on each way
    panicking : (n line : ℕ) (done : List PathAction) (operands : List Operand) (stored : List graph.Place)
        (action : Action) →
        ((flags : Flags) → ActionOk items local_ty local_ty' extends flags depth number most run run'
        (Enters items local_ty) tie (stays flags) action) →
        ((flags : Flags) (w : State) → HeldNow done w → MayCall items local_ty local_ty' extends flags depth number
        most run run' (Enters items local_ty) tie (stays flags) action w) →
        ((flags : Flags) → StoreTyped items local_ty local_ty' extends flags depth number most run run'
        (Enters items local_ty) tie (stays flags) action) →
        ((w : State) → HeldNow done w →
        Way n line (done ++ at_line n line (flat_map operand_uses operands ++ [])) stored (act raw run action w)) →
        Panicking done (at_line n line (flat_map operand_uses operands ++ []))
        (at_line n line (map (λ place. (Stores, place)) stored)) action
    panicking n line done operands stored action ok may typed leaves = record {
      ok = ok;
      may = may;
      typed = typed;
      goes_on = λ w v h e. subst (Way n line used stored) e (leaves w h);
      panics = λ w v h e. subst (Way n line used stored) e (leaves w h);
      frame = λ w v h deep is e. elim e [
        | inl x ↦ (let k = subst (Way n line used stored) x (leaves w h) in
            (k.knows.deep, k.knows.number_is, act-less action w v x))
        | inr x ↦ (let k = subst (Way n line used stored) x (leaves w h) in
            (k.knows.deep, k.knows.number_is, act-unwinds-less action w v x))
      ];
    }
      where
        used : List PathAction
        used = done ++ at_line n line (flat_map operand_uses operands ++ [])

    module _ (P : Out State → Out State → Type 0) (stuck : (halt : effects.Halt) (w : State) (o : Out State) →
        IsStuck halt → P (Halts halt w) o) (halts : (halt : effects.Halt) (w w' : State) → w'.trace ≡ w.trace →
        P (Halts halt w) (Halts halt w')) (n line : ℕ) (block : Block) (at : slice_get body.blocks n ≡ Some block)
        (done rest : List PathAction) where
      abbrev ActionOf : Term → Option Action
      ActionOf term =
          term_action items local_ty local_ty' extends number depth outer body flagged flag_ty flag_is added run run'
          bound most (Enters items local_ty) tie stays HeldNow body' WalkE walks P stuck halts term

      -- it comes on a path
      abbrev pub Comes : Term → Type 0
      Comes term = Follows items body done (at_line n line (term_uses term) ++ rest)

      -- and its result is stored on the path that goes on
      abbrev pub Goes : Term → Type 0
      Goes term = (to : graph.Place) → stored_by_term term ≡ to ∷ [] →
          is_never (ty_of_place items body.locals to) ≡ false → (later : List PathAction)
          × Follows items body (done ++ at_line n line (term_uses term)) (at_line n line ((Stores, to) ∷ []) ++ later)

      pub tested : (term : Term) → block.term ≡ term →
          LineTested items body (operands_of_term term) (stored_by_term term) (other_term_uses term)
      tested term e =
          subst (λ term. LineTested items body (operands_of_term term) (stored_by_term term) (other_term_uses term)) e
          (term-tested items body block.term (ready.term_typed n block at) (ready.term_moves n block at)).0

      abbrev Acts : Term → Action → Type 0
      Acts term action =
          Panicking done (at_line n line (term_uses term)) (at_line n line (map (λ place. (Stores, place))
          (stored_by_term term))) action

      math-Owed : (to : graph.Place) (op : Math) (left right : Operand) (next : ℕ) (unwind : graph_unwind.Unwind) →
          block.term ≡ Term.Math to op left right next unwind → Comes (Term.Math to op left right next unwind) →
          Goes (Term.Math to op left right next unwind) → Acts (Term.Math to op left right next unwind)
          (effects.Compute (site_of 0 to) op (operand_of 0 left) (operand_of 0 right))
      math-Owed to op left right next unwind e f goes =
          let t = tested (Term.Math to op left right next unwind) e in
          let s = only (is_typed_place items body.locals to) t.stored_typed in
          panicking n line done (left ∷ right ∷ []) (to ∷ [])
          (effects.Compute (site_of 0 to) op (operand_of 0 left) (operand_of 0 right))
          (λ flags. math-ok items local_ty local_ty' extends number depth body locals_are index_here id_here flags
          most run run' (Enters items local_ty) tie (stays flags) to op left right s t.operands_typed)
          (λ flags w h. tt)
          (λ flags. stored-typed items local_ty local_ty' extends number depth body locals_are index_here id_here
          flags most run run' (Enters items local_ty) tie (stays flags) to s)
          (λ w h. math-keeps items local_ty number depth bodies body addresses before given locals_are ready callees
          run keeps n line block at done rest w h to op left right next unwind e f (goes to refl))

      negate-Owed : (to : graph.Place) (of : Operand) (next : ℕ) (unwind : graph_unwind.Unwind) →
          block.term ≡ Term.Negate to of next unwind → Comes (Term.Negate to of next unwind) →
          Goes (Term.Negate to of next unwind) → Acts (Term.Negate to of next unwind)
          (effects.Negate (site_of 0 to) (operand_of 0 of))
      negate-Owed to of next unwind e f goes =
          let t = tested (Term.Negate to of next unwind) e in
          let s = only (is_typed_place items body.locals to) t.stored_typed in
          panicking n line done (of ∷ []) (to ∷ []) (effects.Negate (site_of 0 to) (operand_of 0 of))
          (λ flags. negate-ok items local_ty local_ty' extends number depth body locals_are index_here id_here flags
          most run run' (Enters items local_ty) tie (stays flags) to of s t.operands_typed)
          (λ flags w h. tt)
          (λ flags. stored-typed items local_ty local_ty' extends number depth body locals_are index_here id_here
          flags most run run' (Enters items local_ty) tie (stays flags) to s)
          (λ w h. negate-keeps items local_ty number depth bodies body addresses before given locals_are ready callees
          run keeps n line block at done rest w h to of next unwind e f (goes to refl))

      bounds-Owed : (index : Operand) (count next : ℕ) (unwind : graph_unwind.Unwind) →
          block.term ≡ Term.Bounds index count next unwind → Comes (Term.Bounds index count next unwind) →
          Acts (Term.Bounds index count next unwind) (effects.Bounds (operand_of 0 index) count)
      bounds-Owed index count next unwind e f =
          let t = tested (Term.Bounds index count next unwind) e in
          panicking n line done (index ∷ []) [] (effects.Bounds (operand_of 0 index) count)
          (λ flags. bounds-ok items local_ty local_ty' extends number depth body locals_are index_here id_here flags
          most run run' (Enters items local_ty) tie (stays flags) index count t.operands_typed)
          (λ flags w h. tt) (λ flags site x. absurd (none-some site x))
          (λ w h. bounds-keeps items local_ty number depth bodies body addresses before given locals_are ready callees
          run keeps n line block at done rest w h index count next unwind e f)

      ask-Owed : (to : graph.Place) (next : ℕ) (unwind : graph_unwind.Unwind) → block.term ≡ Term.Ask to next unwind →
          Goes (Term.Ask to next unwind) → Acts (Term.Ask to next unwind) (effects.Ask (site_of 0 to))
      ask-Owed to next unwind e goes =
          let t = tested (Term.Ask to next unwind) e in
          let s = only (is_typed_place items body.locals to) t.stored_typed in
          panicking n line done [] (to ∷ []) (effects.Ask (site_of 0 to))
          (λ flags. ask-ok items local_ty local_ty' extends number depth body locals_are index_here id_here flags most
          run run' (Enters items local_ty) tie (stays flags) to s)
          (λ flags w h. tt)
          (λ flags. stored-typed items local_ty local_ty' extends number depth body locals_are index_here id_here
          flags most run run' (Enters items local_ty) tie (stays flags) to s)
          (λ w h. ask-keeps items local_ty number depth bodies body addresses before given locals_are ready callees
          run keeps n line block at done rest w h to next unwind e (goes to refl))

      call-Owed : (to : graph.Place) (callee : ℕ) (args : List Operand) (next : ℕ) (unwind : graph_unwind.Unwind) →
          block.term ≡ Term.Call to callee args next unwind → Comes (Term.Call to callee args next unwind) →
          Goes (Term.Call to callee args next unwind) → Acts (Term.Call to callee args next unwind)
          (effects.Call (site_of 0 to) callee (operands_of 0 args))
      call-Owed to callee args next unwind e f goes =
          let t = tested (Term.Call to callee args next unwind) e in
          let s = only (is_typed_place items body.locals to) t.stored_typed in
          panicking n line done args (to ∷ []) (effects.Call (site_of 0 to) callee (operands_of 0 args))
          (λ flags. call-ok items local_ty local_ty' extends number depth body locals_are index_here id_here flags
          most run run' (Enters items local_ty) tie (stays flags) to callee args s t.operands_typed)
          (λ flags w h vs u g. call-enters items local_ty number depth bodies body addresses before given locals_are
          ready callees run keeps n line block at done rest w h to callee args next unwind e f vs u g)
          (λ flags. stored-typed items local_ty local_ty' extends number depth body locals_are index_here id_here
          flags most run run' (Enters items local_ty) tie (stays flags) to s)
          (λ w h. call-keeps items local_ty number depth bodies body addresses before given locals_are ready callees
          run keeps n line block at done rest w h to callee args next unwind e f (goes to refl))

      virtual-Owed : (to : graph.Place) (trait_no method : ℕ) (args : List Operand) (next : ℕ) (unwind :
          graph_unwind.Unwind) →
          block.term ≡ Term.Virtual to trait_no method args next unwind →
          Comes (Term.Virtual to trait_no method args next unwind) →
          Goes (Term.Virtual to trait_no method args next unwind) →
          Acts (Term.Virtual to trait_no method args next unwind)
          (effects.CallVirtual (site_of 0 to) trait_no method (operands_of 0 args))
      virtual-Owed to trait_no method args next unwind e f goes =
          let t = tested (Term.Virtual to trait_no method args next unwind) e in
          let s = only (is_typed_place items body.locals to) t.stored_typed in
          panicking n line done args (to ∷ []) (effects.CallVirtual (site_of 0 to) trait_no method (operands_of 0 args))
          (λ flags. virtual-ok items local_ty local_ty' extends number depth body locals_are index_here id_here flags
          most run run' (Enters items local_ty) tie (stays flags) to trait_no method args s t.operands_typed)
          (λ flags w h vs u callee g v. virtual-may items local_ty number depth bodies body addresses before given
          locals_are
          ready callees run keeps n line block at done rest w h to trait_no method args next unwind e f vs u callee g v)
          (λ flags. stored-typed items local_ty local_ty' extends number depth body locals_are index_here id_here
          flags most run run' (Enters items local_ty) tie (stays flags) to s)
          (λ w h. virtual-keeps items local_ty number depth bodies body addresses before given locals_are ready
          callees run keeps n line block at done rest w h to trait_no method args next unwind e f (goes to refl))

      pub acting-Owed : (term : Term) → block.term ≡ term → Comes term → Goes term → (action : Action) →
          ActionOf term ≡ Some action → Acts term action
      acting-Owed (Term.Math to op left right next unwind) e f goes action a =
          subst (Acts (Term.Math to op left right next unwind)) (some-same a)
          (math-Owed to op left right next unwind e f goes)
      acting-Owed (Term.Negate to of next unwind) e f goes action a =
          subst (Acts (Term.Negate to of next unwind)) (some-same a) (negate-Owed to of next unwind e f goes)
      acting-Owed (Term.Bounds index count next unwind) e f goes action a =
          subst (Acts (Term.Bounds index count next unwind)) (some-same a) (bounds-Owed index count next unwind e f)
      acting-Owed (Term.Ask to next unwind) e f goes action a =
          subst (Acts (Term.Ask to next unwind)) (some-same a) (ask-Owed to next unwind e goes)
      acting-Owed (Term.Call to callee args next unwind) e f goes action a =
          subst (Acts (Term.Call to callee args next unwind)) (some-same a) (call-Owed to callee args next unwind e f
          goes)
      acting-Owed (Term.Virtual to trait_no method args next unwind) e f goes action a =
          subst (Acts (Term.Virtual to trait_no method args next unwind)) (some-same a)
          (virtual-Owed to trait_no method args next unwind e f goes)
      acting-Owed others e f goes action a = absurd (none-some action a)
