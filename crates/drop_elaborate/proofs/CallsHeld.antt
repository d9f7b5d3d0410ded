-- What holds of a raw run is kept by its calls, on each way on, where the bodies that it calls change what is older
-- than themselves only at places that their arguments name, and leave and give full values.
use Rattle.std.proofs.Common.{◌≡◌, ℕ, Bool, false, List, [], ◌∷◌, Option, Some, None, slice_get, Contains, refl}
use Rattle.mir_base.specs.declared.trace.Event.{Event}
use Rattle.mir_ty.specs.declared.ty.TyId.{TyId}
use Rattle.mir_ty.specs.ItemTable.{ItemTable}
use Rattle.cfg_graph.specs.declared.graph.Body.{Body}
use Rattle.cfg_graph.specs.declared.place.Operand.{Operand}
use Rattle.cfg_graph.specs.declared.place.Place as graph
use Rattle.cfg_graph.specs.Moves.Gone.{PathAction}
use Rattle.cfg_meaning.specs.Actions.{site_of, operands_of}
use Rattle.store_model.specs.declared.address.Addr.{Addr}
use Rattle.store_model.specs.Concrete.Effects.{called, answered, virtual_body, never_at, acted, act}
use Rattle.store_model.specs.Concrete.Location.{Setting}
use Rattle.store_model.specs.Concrete.State.{State, Answer, Returns, Unwinds, HaltsIn, Bodies}
use Rattle.store_model.specs.Effects as effects
use Rattle.store_model.specs.Effects.{Out, Go, Unwind, Halts, Stuck}
use Rattle.store_model.specs.Values.Datum.{Datum}
use Rattle.drop_values.specs.Like.{raw_setting}
use Rattle.drop_values.proofs.Touched.{AllNameFull, addresses_of, TouchedBy, KeepsOlder}
use Rattle.drop_elaborate.proofs.CheckedTerms.{all-taken-so, Used, Leaves, LeavesIf, used-Took, leaves-halting, put-leaves}
use Rattle.drop_elaborate.proofs.Held.{Held, OpensAfter}
use Rattle.drop_elaborate.proofs.OperandLists.{OperandsAre, TookAll}
use Rattle.drop_elaborate.proofs.StatementsHeld.{Operated, StoreOk}
use Rattle.drop_elaborate.proofs.Stores.{called-Held}

module _ (items : ItemTable) (local_ty : (body local : ℕ) → Option TyId) (number depth : ℕ) (body : Body)
    (addresses : List Addr) (before : State) (given : AllNameFull items local_ty before addresses)
    (locals_are : (k : ℕ) → local_ty number k ≡ slice_get body.locals k)
    (good : ℕ → List Datum → State → Type 0) (run : Bodies) (keeps : KeepsOlder items local_ty good run) where
  abbrev raw : Setting
  raw = raw_setting items local_ty

  abbrev HeldNow : List PathAction → State → Type 0
  HeldNow actions w = Held items local_ty number depth body addresses before given locals_are actions w

  abbrev OpensNow : List PathAction → State → Addr → Type 0
  OpensNow actions w b = OpensAfter items local_ty number depth body addresses before given locals_are actions w b

  abbrev Are : List Operand → List (Option TyId) → Type 0
  Are operands ids = OperandsAre items local_ty number depth body addresses before given locals_are operands ids

  abbrev OperatedHere : (n line : ℕ) (actions : List PathAction) {operands : List Operand} {ids : List (Option TyId)} →
      Are operands ids → Type 0
  OperatedHere n line actions {operands} {ids} are =
      Operated items local_ty number depth body addresses before given locals_are n line actions are

  abbrev Stored : (n line : ℕ) → List PathAction → graph.Place → TyId → Type 0
  Stored n line actions place id =
      StoreOk items local_ty number depth body addresses before given locals_are n line actions place id

  abbrev UsedHere : (n line : ℕ) → List PathAction → List Operand → List PathAction
  UsedHere n line actions operands =
      Used items local_ty number depth body addresses before given locals_are n line actions operands

  abbrev LeavesHere : (n line : ℕ) → List PathAction → List graph.Place → Out State → Type 0
  LeavesHere n line used stored o =
      Leaves items local_ty number depth body addresses before given locals_are n line used stored o

  abbrev LeavesIfHere : Bool → (n line : ℕ) → List PathAction → List graph.Place → Out State → Type 0
  LeavesIfHere never n line used stored o =
      LeavesIf items local_ty number depth body addresses before given locals_are never n line used stored o

  abbrev TookHere : List PathAction → List (Option TyId) → State → List Datum → State → Type 0
  TookHere used ids w vs u =
      TookAll items local_ty number depth body addresses before given locals_are used ids w vs u

  -- a body that may be entered is called, and its result is stored
  called-leaves : (never : Bool) (n line : ℕ) (used : List PathAction) (to : graph.Place) (id : TyId) →
      (never ≡ false → Stored n line used to id) →
      (callee : ℕ) (vs : List Datum) (u : State) → HeldNow used u →
      ((b : Addr) → Contains (addresses_of vs) b → OpensNow used u b) → good callee vs u →
      local_ty callee 0 ≡ Some id →
      LeavesIfHere never n line used (to ∷ []) (answered raw (site_of 0 to) (run (Event.Call callee) callee vs u))
  called-leaves never n line used to id s callee vs u h way_in may result =
      by (run (Event.Call callee) callee vs u) (keeps (Event.Call callee) callee vs u may)
    where
      by : (a : Answer) → TouchedBy items local_ty (addresses_of vs) callee u a →
          LeavesIfHere never n line used (to ∷ []) (answered raw (site_of 0 to) a)
      by (Returns value v) t =
          put-leaves items local_ty number depth body addresses before given locals_are n line used never to id s v
          value
          (called-Held items local_ty number depth body addresses before given locals_are used (addresses_of vs) way_in
          t.0 h) (t.1 id result)
      by (Unwinds v) t =
          called-Held items local_ty number depth body addresses before given locals_are used (addresses_of vs) way_in
          t h
      by (HaltsIn halt v) t = tt

  module _ (n line : ℕ) (actions : List PathAction) (w : State) (h : HeldNow actions w) where
    -- a body of the graph is called
    pub call-term : (to : graph.Place) (callee : ℕ) (args : List Operand) (id : TyId)
        (ids : List (Option TyId)) (are : Are args ids) → OperatedHere n line actions are →
        (never_at raw w (site_of 0 to) ≡ false → Stored n line (UsedHere n line actions args) to id) →
        local_ty callee 0 ≡ Some id →
        ((vs : List Datum) (u : State) → TookHere (UsedHere n line actions args) ids w vs u → good callee vs u) →
        LeavesHere n line (UsedHere n line actions args) (to ∷ [])
        (act raw run (effects.Call (site_of 0 to) callee (operands_of 0 args)) w)
    call-term to callee args id ids are o s result may =
        leaves-halting items local_ty number depth body addresses before given locals_are n line
        (UsedHere n line actions args) (effects.stores_where (never_at raw w)
        (effects.Call (site_of 0 to) callee (operands_of 0 args))) (to ∷ [])
        (acted raw run (effects.Call (site_of 0 to) callee (operands_of 0 args)) w)
        (all-taken-so raw (LeavesIfHere (never_at raw w (site_of 0 to)) n line (UsedHere n line actions args) (to ∷
        [])) (operands_of 0 args) w
        (called raw run (site_of 0 to) (Some callee)) (λ v. tt)
        (λ vs u e. let t = used-Took items local_ty number depth body addresses before given locals_are n line actions
        are
        o w vs u h e in
        called-leaves (never_at raw w (site_of 0 to)) n line (UsedHere n line actions args) to id s callee vs u
        t.held_now t.opened (may vs u t) result))

    -- the body of a trait's method
    pub virtual-term : (to : graph.Place) (trait_no method : ℕ) (args : List Operand) (id : TyId)
        (ids : List (Option TyId)) (are : Are args ids) → OperatedHere n line actions are →
        (never_at raw w (site_of 0 to) ≡ false → Stored n line (UsedHere n line actions args) to id) →
        ((vs : List Datum) (u : State) (callee : ℕ) → TookHere (UsedHere n line actions args) ids w vs u →
        virtual_body raw trait_no method u vs ≡ Some callee → good callee vs u × (local_ty callee 0 ≡ Some id)) →
        LeavesHere n line (UsedHere n line actions args) (to ∷ [])
        (act raw run (effects.CallVirtual (site_of 0 to) trait_no method (operands_of 0 args)) w)
    virtual-term to trait_no method args id ids are o s may =
        leaves-halting items local_ty number depth body addresses before given locals_are n line
        (UsedHere n line actions args) (effects.stores_where (never_at raw w)
        (effects.CallVirtual (site_of 0 to) trait_no method (operands_of 0 args))) (to ∷ [])
        (acted raw run (effects.CallVirtual (site_of 0 to) trait_no method (operands_of 0 args)) w)
        (all-taken-so raw (LeavesIfHere (never_at raw w (site_of 0 to)) n line (UsedHere n line actions args) (to ∷
        [])) (operands_of 0 args) w
        (λ values w. called raw run (site_of 0 to) (virtual_body raw trait_no method w values) values w) (λ v. tt)
        (λ vs u e. by vs u (used-Took items local_ty number depth body addresses before given locals_are n line
        actions are
        o w vs u h e) (virtual_body raw trait_no method u vs) refl))
      where
        by : (vs : List Datum) (u : State) → TookHere (UsedHere n line actions args) ids w vs u → (x : Option ℕ) →
            virtual_body raw trait_no method u vs ≡ x →
            LeavesIfHere (never_at raw w (site_of 0 to)) n line (UsedHere n line actions args) (to ∷ [])
            (called raw run (site_of 0 to) x vs u)
        by vs u t None e = tt
        by vs u t (Some callee) e =
            let m = may vs u callee t e in
            called-leaves (never_at raw w (site_of 0 to)) n line (UsedHere n line actions args) to id s callee vs u
            t.held_now t.opened m.0 m.1
