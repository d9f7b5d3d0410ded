-- What holds of a raw run is kept by terminators that may panic, on each way on: checked operators, bounds, asked
-- numbers. On both ways what their operands moved is gone; their result is stored where they go on.
use Rattle.std.proofs.Common.{◌≡◌, ℕ, Bool, true, false, ℤ, pos, List, [], ◌∷◌, ◌++◌, map, flat_map, Option, Some, None, slice_get, refl, ap, sym, subst, arith}
use Rattle.std.specs.Prelude.{int_lt, neg_ℤ}
use Rattle.mir_base.specs.declared.int_kind.IntKind.{IntKind}
use Rattle.mir_base.specs.declared.operator.Math.{Math}
use Rattle.mir_base.specs.declared.trace.Event.{Event}
use Rattle.mir_base.specs.declared.trace.Why.{Why}
use Rattle.mir_ty.specs.declared.ty.Ty.{Ty}
use Rattle.mir_ty.specs.declared.ty.TyId.{TyId}
use Rattle.mir_ty.specs.ItemTable.{ItemTable, type_at}
use Rattle.cfg_graph.specs.declared.graph.Body.{Body}
use Rattle.cfg_graph.specs.declared.place.Operand.{Operand}
use Rattle.cfg_graph.specs.declared.place.Place as graph
use Rattle.cfg_graph.specs.Moves.Actions.{at_line}
use Rattle.cfg_graph.specs.Moves.Gone.{PathAction}
use Rattle.cfg_graph.specs.Uses.{Stores, operand_uses}
use Rattle.cfg_meaning.specs.Actions.{site_of, operand_of, operands_of}
use Rattle.store_model.specs.declared.address.Addr.{Addr}
use Rattle.store_model.specs.Concrete.Effects.{or_stuck, evaluate_operand, evaluate_operands, with_operand, with_operands, put, tell_after, panics, Computed, Gives, PanicsBy, if_within, computed, put_computed, compute, negate, within_bounds, bounded, asked, ty_of_operand, never_at, acted, act}
use Rattle.store_model.specs.Concrete.Location.{Setting, OfType, Reached, Reaches, CutOff, Nowhere, reach, on_reached, stored_at}
use Rattle.store_model.specs.Concrete.State.{State, Bodies, with_event}
use Rattle.store_model.specs.Effects as effects
use Rattle.store_model.specs.Effects.{Halt, Out, Go, Unwind, Halts, Stuck, halting_if}
use Rattle.store_model.specs.Places.TypeForms.{int_kind}
use Rattle.store_model.specs.Values.Datum.{Datum, Gone, Number, Truth, UnitValue, Aggregate, Box, Address}
use Rattle.drop_values.specs.Like.{raw_setting}
use Rattle.drop_values.specs.Typed.{IsFull}
use Rattle.drop_values.proofs.Made.{number-full}
use Rattle.drop_values.proofs.Touched.{AllNameFull}
use Rattle.drop_elaborate.proofs.Held.{Held}
use Rattle.drop_elaborate.proofs.OperandLists.{OperandsAre, TookAll, operands-Took}
use Rattle.drop_elaborate.proofs.StatementsHeld.{one-of-list, two-of-list, told-cells, same-Held, Operated, StoreOk, store-Held}

module _ (setting : Setting) where
  -- what holds whatever an operand gives
  pub taken-so : (P : Out State → Type 0) (operand : effects.Operand) (w : State) (next : Datum → State → Out State) →
      ((v : State) → P (Halts Stuck v)) →
      ((v : Datum) (u : State) → evaluate_operand setting operand w ≡ Some (v, u) → P (next v u)) →
      P (with_operand setting operand w next)
  taken-so P operand w next stuck h = by (evaluate_operand setting operand w) refl
    where
      by : (o : Option (Datum × State)) → evaluate_operand setting operand w ≡ o →
          P (or_stuck {A = Datum × State} o (λ (t : Datum × State). next t.0 t.1) w)
      by None e = stuck w
      by (Some t) e = h t.0 t.1 e

  pub all-taken-so : (P : Out State → Type 0) (operands : List effects.Operand) (w : State)
      (next : List Datum → State → Out State) → ((v : State) → P (Halts Stuck v)) →
      ((vs : List Datum) (u : State) → evaluate_operands setting operands w ≡ Some (vs, u) → P (next vs u)) →
      P (with_operands setting operands w next)
  all-taken-so P operands w next stuck h = by (evaluate_operands setting operands w) refl
    where
      by : (o : Option (List Datum × State)) → evaluate_operands setting operands w ≡ o →
          P (or_stuck {A = List Datum × State} o (λ (t : List Datum × State). next t.0 t.1) w)
      by None e = stuck w
      by (Some t) e = h t.0 t.1 e

module _ (items : ItemTable) (local_ty : (body local : ℕ) → Option TyId) (number depth : ℕ) (body : Body)
    (addresses : List Addr) (before : State) (given : AllNameFull items local_ty before addresses)
    (locals_are : (k : ℕ) → local_ty number k ≡ slice_get body.locals k) where
  abbrev raw : Setting
  raw = raw_setting items local_ty

  abbrev HeldNow : List PathAction → State → Type 0
  HeldNow actions w = Held items local_ty number depth body addresses before given locals_are actions w

  abbrev Are : List Operand → List (Option TyId) → Type 0
  Are operands ids = OperandsAre items local_ty number depth body addresses before given locals_are operands ids

  abbrev OperatedHere : (n line : ℕ) (actions : List PathAction) {operands : List Operand} {ids : List (Option TyId)} →
      Are operands ids → Type 0
  OperatedHere n line actions {operands} {ids} are =
      Operated items local_ty number depth body addresses before given locals_are n line actions are

  abbrev Stored : (n line : ℕ) → List PathAction → graph.Place → TyId → Type 0
  Stored n line actions place id =
      StoreOk items local_ty number depth body addresses before given locals_are n line actions place id

  -- the actions before a terminator takes a way on
  abbrev pub Used : (n line : ℕ) → List PathAction → List Operand → List PathAction
  Used n line actions operands = actions ++ at_line n line (flat_map operand_uses operands ++ [])

  -- what holds on each way on
  abbrev pub Leaves : (n line : ℕ) → List PathAction → List graph.Place → Out State → Type 0
  Leaves n line used stored (Go x) = HeldNow (used ++ at_line n line (map (λ place. (Stores, place)) stored)) x
  Leaves n line used stored (Unwind x) = HeldNow used x
  Leaves n line used stored (Halts halt x) = Unit {0}

  -- the same, where it may be that nothing goes on
  abbrev pub LeavesIf : (never : Bool) (n line : ℕ) → List PathAction → List graph.Place → Out State → Type 0
  LeavesIf never n line used stored (Go x) =
      never ≡ false → HeldNow (used ++ at_line n line (map (λ place. (Stores, place)) stored)) x
  LeavesIf never n line used stored (Unwind x) = HeldNow used x
  LeavesIf never n line used stored (Halts halt x) = Unit {0}

  no_more : {A : Type 0} (xs : List A) → xs ++ [] ≡ xs
  no_more [] = refl
  no_more (x ∷ xs) = ap (λ l. x ∷ l) (no_more xs)

  -- what its operands give
  pub used-Took : (n line : ℕ) (actions : List PathAction) {operands : List Operand} {ids : List (Option TyId)}
      (are : Are operands ids) → OperatedHere n line actions are → (w : State) (vs : List Datum) (u : State) →
      HeldNow actions w → evaluate_operands raw (operands_of 0 operands) w ≡ Some (vs, u) →
      TookAll items local_ty number depth body addresses before given locals_are (Used n line actions operands) ids w vs
      u
  used-Took n line actions {operands} {ids} are o w vs u h e =
      subst (λ l. TookAll items local_ty number depth body addresses before given locals_are (actions ++ at_line n
      line l)
      ids w vs u) (sym (no_more (flat_map operand_uses operands)))
      (operands-Took items local_ty number depth body addresses before given locals_are n line are actions w vs u o.used
      o.spare h e)

  -- ---- ways on

  module _ (n line : ℕ) (used : List PathAction) where
    pub leaves-halting : (never : Bool) (stored : List graph.Place) (o : Out State) →
        LeavesIf never n line used stored o → Leaves n line used stored (halting_if never Stuck o)
    leaves-halting true stored (Go x) l = tt
    leaves-halting true stored (Unwind x) l = l
    leaves-halting true stored (Halts halt x) l = tt
    leaves-halting false stored (Go x) l = l refl
    leaves-halting false stored (Unwind x) l = l
    leaves-halting false stored (Halts halt x) l = tt

    -- a full value is stored
    pub put-leaves : (never : Bool) (to : graph.Place) (id : TyId) → (never ≡ false → Stored n line used to id) →
        (u : State) (v : Datum) → HeldNow used u → IsFull items (OfType id) v →
        LeavesIf never n line used (to ∷ []) (put raw (site_of 0 to) v u)
    put-leaves never to id s u v h full = by (reach raw u (site_of 0 to).place) refl
      where
        by : (r : Reached) → reach raw u (site_of 0 to).place ≡ r → LeavesIf never n line used (to ∷ [])
            (on_reached r (λ s. Go (stored_at s.address v u)) (Halts Stuck u) (Halts Stuck u))
        by CutOff e = tt
        by Nowhere e = tt
        by (Reaches t) e =
            λ goes.
            store-Held items local_ty number depth body addresses before given locals_are n line used to id (s goes) u
            (stored_at t.address v u) v h full
            (ap (λ r. on_reached r (λ s. Go (stored_at s.address v u)) (Halts Stuck u) (Halts Stuck u)) e)

    pub told-leaves : (never : Bool) (event : Event) (stored : List graph.Place) (o : Out State) →
        LeavesIf never n line used stored o → LeavesIf never n line used stored (tell_after raw event o)
    told-leaves never event stored (Go x) l =
        λ goes.
        same-Held items local_ty number depth body addresses before given locals_are
        (used ++ at_line n line (map (λ place. (Stores, place)) stored)) x (with_event event x) (told-cells raw event x)
        (l goes)
    told-leaves never event stored (Unwind x) l = l
    told-leaves never event stored (Halts halt x) l = tt

    -- a panic tells of itself
    pub panics-leave : (why : Why) (stored : List graph.Place) (u : State) → HeldNow used u →
        Leaves n line used stored (Unwind (panics raw why u))
    panics-leave why stored u h =
        same-Held items local_ty number depth body addresses before given locals_are used u
        (with_event (Event.Panicked why) u) (told-cells raw (Event.Panicked why) u) h

    module _ (never : Bool) (to : graph.Place) (id : TyId) (kind : IntKind)
        (s : never ≡ false → Stored n line used to id)
        (int : type_at items id ≡ Some (Ty.Int kind)) where
      number-leaves : (number : ℤ) (u : State) → HeldNow used u → LeavesIf never n line used (to ∷ [])
          (put raw (site_of 0 to) (Number number) u)
      number-leaves number u h = put-leaves never to id s u (Number number) h
          (number-full items id kind number (ap int_kind int))

      computed-leaves : (c : Computed) (u : State) → HeldNow used u → LeavesIf never n line used (to ∷ [])
          (put_computed raw (site_of 0 to) c u)
      computed-leaves (Gives number) u h = number-leaves number u h
      computed-leaves (PanicsBy why) u h = panics-leave why (to ∷ []) u h

      compute-leaves : (operator : Math) (k : Option IntKind) (a c : Datum) (u : State) → HeldNow used u →
          LeavesIf never n line used (to ∷ []) (compute raw (site_of 0 to) operator k a c u)
      compute-leaves operator None a c u h = tt
      compute-leaves operator (Some k) (Number a) (Number b) u h = computed-leaves (computed operator k a b) u h
      compute-leaves operator (Some k) (Number a) other u h = tt
      compute-leaves operator (Some k) other c u h = tt

      negate-leaves : (k : Option IntKind) (a : Datum) (u : State) → HeldNow used u → LeavesIf never n line used (to ∷
          [])
          (negate raw (site_of 0 to) k a u)
      negate-leaves None a u h = tt
      negate-leaves (Some k) (Number a) u h = computed-leaves (if_within k (neg_ℤ a)) u h
      negate-leaves (Some k) other u h = tt

      asked-leaves : (numbers : List ℤ) (u : State) → HeldNow used u → LeavesIf never n line used (to ∷ [])
          (asked raw (site_of 0 to) numbers u)
      asked-leaves [] u h = panics-leave Why.Ask (to ∷ []) u h
      asked-leaves (x ∷ rest) u h =
          told-leaves never (Event.Asked x) (to ∷ []) (put raw (site_of 0 to) (Number x) (record u { asked = rest }))
          (number-leaves x (record u { asked = rest })
          (same-Held items local_ty number depth body addresses before given locals_are used u
          (record u { asked = rest })
          (record { less = omega arith; count = refl; bodies = λ d. refl; cells = λ d k. refl }) h))

    bounded-leaves : (count : ℕ) (v : Datum) (u : State) → HeldNow used u → Leaves n line used []
        (bounded raw count v u)
    bounded-leaves count (Number x) u h = by (int_lt x (pos count))
      where
        by : (b : Bool) → Leaves n line used [] (within_bounds raw b u)
        by true = subst (λ l. HeldNow l u) (sym (no_more used)) h
        by false = panics-leave Why.Index [] u h
    bounded-leaves count other u h = tt

  -- ---- the terminators

  module _ (run : Bodies) (n line : ℕ) (actions : List PathAction) (w : State) (h : HeldNow actions w) where
    pub compute-term : (to : graph.Place) (operator : Math) (left right : Operand) (id : TyId)
        (of other : Option TyId) (kind : IntKind) (is : Are (left ∷ right ∷ []) (of ∷ other ∷ [])) → OperatedHere n
        line actions is →
        (never_at raw w (site_of 0 to) ≡ false → Stored n line (Used n line actions (left ∷ right ∷ [])) to id) →
        type_at items id ≡ Some (Ty.Int kind) →
        Leaves n line (Used n line actions (left ∷ right ∷ [])) (to ∷ [])
        (act raw run (effects.Compute (site_of 0 to) operator (operand_of 0 left) (operand_of 0 right)) w)
    compute-term to operator left right id of other kind is o s int =
        leaves-halting n line (Used n line actions (left ∷ right ∷ [])) (effects.stores_where (never_at raw w)
        (effects.Compute (site_of 0 to) operator (operand_of 0 left) (operand_of 0 right))) (to ∷ [])
        (acted raw run (effects.Compute (site_of 0 to) operator (operand_of 0 left) (operand_of 0 right)) w)
        (taken-so raw (LeavesIf (never_at raw w (site_of 0 to)) n line (Used n line actions (left ∷ right ∷ []))
        (to ∷ [])) (operand_of 0 left) w
        (λ a m. with_operand raw (operand_of 0 right) m
        (compute raw (site_of 0 to) operator (int_kind (ty_of_operand raw w (operand_of 0 left))) a)) (λ v. tt)
        (λ a m e. taken-so raw (LeavesIf (never_at raw w (site_of 0 to)) n line (Used n line actions (left ∷ right ∷
        []))
        (to ∷ [])) (operand_of 0 right) m
        (compute raw (site_of 0 to) operator (int_kind (ty_of_operand raw w (operand_of 0 left))) a) (λ v. tt)
        (λ c u e2. compute-leaves n line (Used n line actions (left ∷ right ∷ [])) (never_at raw w (site_of 0 to)) to
        id kind s int operator
        (int_kind (ty_of_operand raw w (operand_of 0 left))) a c u
        (used-Took n line actions is o w (a ∷ c ∷ []) u h
        (two-of-list raw (operand_of 0 left) (operand_of 0 right) w m a c u e e2)).held_now)))

    pub negate-term : (to : graph.Place) (operand : Operand) (id : TyId) (of : Option TyId)
        (kind : IntKind) (is : Are (operand ∷ []) (of ∷ [])) → OperatedHere n line actions is →
        (never_at raw w (site_of 0 to) ≡ false → Stored n line (Used n line actions (operand ∷ [])) to id) → type_at
        items id ≡ Some (Ty.Int kind) →
        Leaves n line (Used n line actions (operand ∷ [])) (to ∷ [])
        (act raw run (effects.Negate (site_of 0 to) (operand_of 0 operand)) w)
    negate-term to operand id of kind is o s int =
        leaves-halting n line (Used n line actions (operand ∷ [])) (effects.stores_where (never_at raw w)
        (effects.Negate (site_of 0 to) (operand_of 0 operand))) (to ∷ [])
        (acted raw run (effects.Negate (site_of 0 to) (operand_of 0 operand)) w)
        (taken-so raw (LeavesIf (never_at raw w (site_of 0 to)) n line (Used n line actions (operand ∷ [])) (to ∷ []))
        (operand_of 0 operand) w
        (negate raw (site_of 0 to) (int_kind (ty_of_operand raw w (operand_of 0 operand)))) (λ v. tt)
        (λ a u e. negate-leaves n line (Used n line actions (operand ∷ [])) (never_at raw w (site_of 0 to)) to id kind
        s int
        (int_kind (ty_of_operand raw w (operand_of 0 operand))) a u
        (used-Took n line actions is o w (a ∷ []) u h (one-of-list raw (operand_of 0 operand) w a u e)).held_now))

    pub bounds-term : (index : Operand) (count : ℕ) (of : Option TyId) (is : Are (index ∷ []) (of ∷ [])) →
        OperatedHere n line actions is → Leaves n line (Used n line actions (index ∷ [])) []
        (act raw run (effects.Bounds (operand_of 0 index) count) w)
    bounds-term index count of is o =
        taken-so raw (Leaves n line (Used n line actions (index ∷ [])) []) (operand_of 0 index) w (bounded raw count)
        (λ v. tt)
        (λ a u e. bounded-leaves n line (Used n line actions (index ∷ [])) count a u
        (used-Took n line actions is o w (a ∷ []) u h (one-of-list raw (operand_of 0 index) w a u e)).held_now)

    pub ask-term : (to : graph.Place) (id : TyId) (kind : IntKind) →
        (never_at raw w (site_of 0 to) ≡ false → Stored n line (Used n line actions []) to id) → type_at items id ≡
        Some (Ty.Int kind) → Leaves n line (Used n line actions []) (to ∷ [])
        (act raw run (effects.Ask (site_of 0 to)) w)
    ask-term to id kind s int =
        leaves-halting n line (Used n line actions []) (effects.stores_where (never_at raw w)
        (effects.Ask (site_of 0 to))) (to ∷ []) (asked raw (site_of 0 to) w.asked w)
        (asked-leaves n line (Used n line actions []) (never_at raw w (site_of 0 to)) to id kind s int w.asked w
        (subst (λ l. HeldNow l w) (sym (no_more actions)) h))
