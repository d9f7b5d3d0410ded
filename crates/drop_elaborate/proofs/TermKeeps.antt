-- Each terminator of a ready body that may panic, as it comes on a path, keeps what holds of the raw run on each way
-- on; and the bodies that it calls may be entered.
use Rattle.std.proofs.Common.{◌≡◌, ℕ, ◌&&◌, not, Bool, true, false, List, [], ◌∷◌, ◌++◌, map, flat_map, Option, Some, slice_get, refl, ap, sym, ◌∙◌, subst}
use Rattle.std.specs.Prelude.{option_and_then}
use Rattle.std.specs.List.{list_all}
use Rattle.std.specs.Option.{option_map_or}
use Rattle.std.specs.Cmp.{first_so, second_so}
use Rattle.mir_base.specs.declared.int_kind.IntKind.{IntKind}
use Rattle.mir_base.specs.declared.operator.Math.{Math}
use Rattle.mir_ty.specs.declared.def.Sig.{Sig}
use Rattle.mir_ty.specs.declared.ty.TyId.{TyId}
use Rattle.mir_ty.specs.ItemTable.{ItemTable, type_at}
use Rattle.cfg_graph.specs.declared.graph.Block.{Block}
use Rattle.cfg_graph.specs.declared.graph.Body.{Body}
use Rattle.cfg_graph.specs.declared.place.Operand.{Operand}
use Rattle.cfg_graph.specs.declared.place.Place as graph
use Rattle.cfg_graph.specs.declared.terminator.Term.{Term}
use Rattle.cfg_graph.specs.declared.terminator.Unwind.{Unwind}
use Rattle.cfg_graph.specs.Moves.Actions.{at_line}
use Rattle.cfg_graph.specs.Moves.Gone.{PathAction}
use Rattle.cfg_graph.specs.Moves.Present.{present_after}
use Rattle.cfg_graph.specs.Places.{place_id, ty_of_place, ty_of_operand}
use Rattle.cfg_graph.specs.Uses.{Stores, operand_uses, operands_of_term, stored_by_term, other_term_uses}
use Rattle.cfg_graph.specs.WellFormed.LineFaults.{term_numbers_exist}
use Rattle.cfg_graph.specs.WellFormed.TypeFaults.{is_drop_body}
use Rattle.cfg_graph.specs.WellFormed.Typing.{is_typed_place, is_sized, operands_are, calls, method_at, term_has_types}
use Rattle.cfg_meaning.specs.Actions.{site_of, operand_of, operands_of}
use Rattle.store_model.specs.declared.address.Addr.{Addr}
use Rattle.store_model.specs.Concrete.Effects.{evaluate_operands, virtual_body, never_at, act}
use Rattle.store_model.specs.Concrete.Location.{Setting}
use Rattle.store_model.specs.Concrete.State.{State, Bodies}
use Rattle.store_model.specs.Effects as effects
use Rattle.store_model.specs.Effects.{Out}
use Rattle.store_model.specs.Places.TypeForms.{same_id, same_int, is_signed, is_never}
use Rattle.store_model.specs.Values.Datum.{Datum}
use Rattle.drop_values.specs.Like.{raw_setting}
use Rattle.drop_values.proofs.BehindInvariant.{opens-full, opens-shallow}
use Rattle.drop_values.proofs.Touched.{AllNameFull, addresses_of, KeepsOlder}
use Rattle.drop_elaborate.proofs.Apart.{IsNamed}
use Rattle.drop_elaborate.proofs.CalledBodies.{CalleesOk, virtual-enters}
use Rattle.drop_elaborate.proofs.CallsHeld.{call-term, virtual-term}
use Rattle.drop_elaborate.proofs.CheckedTerms.{Used, Leaves, used-Took, compute-term, negate-term, bounds-term, ask-term}
use Rattle.drop_elaborate.proofs.Entered.{Enters}
use Rattle.drop_elaborate.proofs.Held.{Held}
use Rattle.drop_elaborate.proofs.OperandLists.{OperandsAre, TookAll, all-full}
use Rattle.drop_elaborate.proofs.OperandTypes.{AllTested, typed-id, place-ok, int-type, same-ty, some-so}
use Rattle.drop_elaborate.proofs.OtherLines.{place-type}
use Rattle.drop_elaborate.proofs.PathFacts.{Follows}
use Rattle.drop_elaborate.proofs.PathUses.{operated, stored-open}
use Rattle.drop_elaborate.proofs.ReadyBody.{BodyIsReady}
use Rattle.drop_elaborate.proofs.ReadyReferences.{term-free}
use Rattle.drop_elaborate.proofs.SinceMade.{IsLive}
use Rattle.drop_elaborate.proofs.StatementsHeld.{Operated, StoreOk}
use Rattle.drop_elaborate.proofs.LineOperands.{made_are, no_param, wanted, any-one, any-two}
use Rattle.drop_elaborate.proofs.StmtTests.{LineTested, term-tested, same-int-type}

module _ (items : ItemTable) (local_ty : (body local : ℕ) → Option TyId) (number depth bodies : ℕ) (body : Body)
    (addresses : List Addr) (before : State) (given : AllNameFull items local_ty before addresses)
    (locals_are : (k : ℕ) → local_ty number k ≡ slice_get body.locals k) (ready : BodyIsReady items bodies body)
    (callees : CalleesOk items local_ty bodies) (run : Bodies)
    (keeps : KeepsOlder items local_ty (Enters items local_ty) run) where
  abbrev raw : Setting
  raw = raw_setting items local_ty

  abbrev HeldNow : List PathAction → State → Type 0
  HeldNow actions w = Held items local_ty number depth body addresses before given locals_are actions w

  abbrev Are : List Operand → List (Option TyId) → Type 0
  Are operands ids = OperandsAre items local_ty number depth body addresses before given locals_are operands ids

  abbrev AllT : List Operand → Type 0
  AllT operands =
      AllTested items ready.alone local_ty number depth body addresses before given locals_are
      (made_are items local_ty number depth bodies body addresses before given locals_are ready) operands

  nil : {A : Type 0} (l : List A) → l ++ [] ≡ l
  nil [] = refl
  nil (x ∷ l) = ap (λ l. x ∷ l) (nil l)

  -- the values that a line took may be handed to a body
  took-named : (actions : List PathAction) (ids : List (Option TyId)) (w : State) (vs : List Datum) (u : State) →
      TookAll items local_ty number depth body addresses before given locals_are actions ids w vs u →
      AllNameFull items local_ty u (addresses_of vs)
  took-named actions ids w vs u t a among = (
    opens-full items local_ty number depth addresses before (IsNamed body) given (present_after items body actions)
        u a t.held_now.knows (t.opened a among),
    opens-shallow items local_ty number depth addresses before (IsNamed body) given (IsLive body actions)
        (present_after items body actions) u a t.held_now (t.opened a among),
  )

  module _ (n line : ℕ) (block : Block) (at : slice_get body.blocks n ≡ Some block) (acts rest : List PathAction)
      (w : State) (h : HeldNow acts w) where
    abbrev UsedHere : List Operand → List PathAction
    UsedHere operands =
        Used items local_ty number depth body addresses before given locals_are n line acts operands

    -- on its way on, the result is stored
    abbrev pub GoesOn : List Operand → graph.Place → Type 0
    GoesOn operands to = is_never (ty_of_place items body.locals to) ≡ false →
        (later : List PathAction) × Follows items body (UsedHere operands) (at_line n line ((Stores, to) ∷ []) ++ later)

    abbrev pub LeavesAll : List Operand → List graph.Place → Out State → Type 0
    LeavesAll operands stored o =
        Leaves items local_ty number depth body addresses before given locals_are n line (UsedHere operands) stored o

    abbrev pub ComesTo : List Operand → Type 0
    ComesTo operands = Follows items body acts (at_line n line (flat_map operand_uses operands ++ []) ++ rest)

    facts : LineTested items body (operands_of_term block.term) (stored_by_term block.term) (other_term_uses block.term)
        × (term_has_types items body.locals block.term ≡ true)
    facts = term-tested items body block.term (ready.term_typed n block at) (ready.term_moves n block at)

    abbrev OperatedHere : {operands : List Operand} {ids : List (Option TyId)} → Are operands ids → Type 0
    OperatedHere {operands} {ids} are =
        Operated items local_ty number depth body addresses before given locals_are n line acts are

    used : {operands : List Operand} {ids : List (Option TyId)} (are : Are operands ids) → ComesTo operands →
        OperatedHere are
    used {operands} {ids} are f =
        operated items local_ty number depth body addresses before given locals_are
        (no_param items local_ty number depth bodies body addresses before given locals_are ready) n line are acts rest
        (subst (λ l. Follows items body acts (at_line n line l ++ rest)) (nil (flat_map operand_uses operands)) f)

    only : (b : Bool) → (b && true) ≡ true → b ≡ true
    only b h = first_so b true h

    -- the place of its result
    record Result (to : graph.Place) : Type 0 where
      pub id : TyId
      pub is : place_id items body.locals to ≡ Some id
      pub ty_is : ty_of_place items body.locals to ≡ type_at items id
      pub stores : (operands : List Operand) → GoesOn operands to → never_at raw w (site_of 0 to) ≡ false →
          StoreOk items local_ty number depth body addresses before given locals_are n line (UsedHere operands) to id

    result-of : (to : graph.Place) → stored_by_term block.term ≡ to ∷ [] → Result to
    result-of to s =
        let f = facts.0 in
        let typed = only (is_typed_place items body.locals to)
        (ap (list_all (is_typed_place items body.locals)) (sym s) ∙ f.stored_typed) in
        let sized = only (is_sized items body.locals to) (ap (list_all (is_sized items body.locals)) (sym s)
        ∙ f.stored_sized) in
        let i = typed-id items ready.alone local_ty number depth body addresses before given locals_are
        (made_are items local_ty number depth bodies body addresses before given locals_are ready) to typed in
        let ok = place-ok items ready.alone local_ty number depth body addresses before given locals_are
        (made_are items local_ty number depth bodies body addresses before given locals_are ready) to i.0 i.1 typed
        sized
        in record {
          id = i.0;
          is = i.1;
          ty_is = ap (option_and_then (type_at items)) i.1;
          stores = λ operands goes never.
              let g = goes (sym (ap is_never (place-type items local_ty number depth body addresses before given
              locals_are
              acts w h to)) ∙ never) in record {
                ok = ok;
                reachable = stored-open items local_ty number depth body addresses before given locals_are
                    (no_param items local_ty number depth bodies body addresses before given locals_are ready) n line
                    (UsedHere operands) g.0 to i.0 g.1 ok.is;
                free = term-free items ready.alone body ready.references ready.stmt_typed n block to i.0 at s i.1;
              };
        }

    all-tested : (operands : List Operand) → operands_of_term block.term ≡ operands → AllT operands
    all-tested operands e =
        subst AllT e (record {
          typed = facts.0.operands_typed;
          stand = facts.0.operands_stand;
          move = facts.0.operands_move;
        })

    types : (term : Term) → block.term ≡ term → term_has_types items body.locals term ≡ true
    types term e = ap (term_has_types items body.locals) (sym e) ∙ facts.1

    pub math-keeps : (to : graph.Place) (op : Math) (left right : Operand) (next : ℕ) (unwind : Unwind) →
        block.term ≡ Term.Math to op left right next unwind → ComesTo (left ∷ right ∷ []) →
        GoesOn (left ∷ right ∷ []) to → LeavesAll (left ∷ right ∷ []) (to ∷ [])
        (act raw run (effects.Compute (site_of 0 to) op (operand_of 0 left) (operand_of 0 right)) w)
    math-keeps to op left right next unwind e f goes =
        let r = result-of to (ap stored_by_term e) in
        let k = same-int-type (ty_of_operand items body.locals left) (ty_of_place items body.locals to)
        (second_so (same_int (ty_of_operand items body.locals left) (ty_of_operand items body.locals right))
        (same_int (ty_of_operand items body.locals left) (ty_of_place items body.locals to))
        (types (Term.Math to op left right next unwind) e)) in
        let a = any-two items local_ty number depth bodies body addresses before given locals_are ready left right
        (all-tested (left ∷ right ∷ []) (ap operands_of_term e)) in
        compute-term items local_ty number depth body addresses before given locals_are run n line acts w h to op left
        right
        r.id a.0 a.1 k.0 a.2 (used a.2 f) (r.stores (left ∷ right ∷ []) goes) (sym r.ty_is ∙ k.2)

    pub negate-keeps : (to : graph.Place) (operand : Operand) (next : ℕ) (unwind : Unwind) →
        block.term ≡ Term.Negate to operand next unwind → ComesTo (operand ∷ []) → GoesOn (operand ∷ []) to →
        LeavesAll (operand ∷ []) (to ∷ []) (act raw run (effects.Negate (site_of 0 to) (operand_of 0 operand)) w)
    negate-keeps to operand next unwind e f goes =
        let r = result-of to (ap stored_by_term e) in
        let k = same-int-type (ty_of_operand items body.locals operand) (ty_of_place items body.locals to)
        (second_so (is_signed (ty_of_operand items body.locals operand))
        (same_int (ty_of_operand items body.locals operand) (ty_of_place items body.locals to))
        (types (Term.Negate to operand next unwind) e)) in
        let a = any-one items local_ty number depth bodies body addresses before given locals_are ready operand
        (all-tested (operand ∷ []) (ap operands_of_term e)) in
        negate-term items local_ty number depth body addresses before given locals_are run n line acts w h to operand
        r.id
        a.0 k.0 a.1 (used a.1 f) (r.stores (operand ∷ []) goes) (sym r.ty_is ∙ k.2)

    pub bounds-keeps : (index : Operand) (count next : ℕ) (unwind : Unwind) →
        block.term ≡ Term.Bounds index count next unwind → ComesTo (index ∷ []) →
        LeavesAll (index ∷ []) [] (act raw run (effects.Bounds (operand_of 0 index) count) w)
    bounds-keeps index count next unwind e f =
        let a = any-one items local_ty number depth bodies body addresses before given locals_are ready index
        (all-tested (index ∷ []) (ap operands_of_term e)) in
        bounds-term items local_ty number depth body addresses before given locals_are run n line acts w h index count
        a.0
        a.1 (used a.1 f)

    pub ask-keeps : (to : graph.Place) (next : ℕ) (unwind : Unwind) → block.term ≡ Term.Ask to next unwind →
        GoesOn [] to → LeavesAll [] (to ∷ []) (act raw run (effects.Ask (site_of 0 to)) w)
    ask-keeps to next unwind e goes =
        let r = result-of to (ap stored_by_term e) in
        ask-term items local_ty number depth body addresses before given locals_are run n line acts w h to r.id
        IntKind.I32
        (r.stores [] goes) (sym r.ty_is ∙ int-type IntKind.I32 (ty_of_place items body.locals to)
        (types (Term.Ask to next unwind) e))

    -- ---- calls

    -- the arguments and the result of a call, by a signature
    record Called (to : graph.Place) (args : List Operand) (sig : Sig) : Type 0 where
      pub are : Are args (map Some sig.params)
      pub result : place_id items body.locals to ≡ Some sig.result

    called-by : (to : graph.Place) (args : List Operand) (sig : Sig) → operands_of_term block.term ≡ args →
        calls items body.locals to args sig ≡ true → Called to args sig
    called-by to args sig e c =
        let r = some-so (same_id sig.result) (place_id items body.locals to)
        (second_so (operands_are items body.locals sig.params args)
        (option_map_or (same_id sig.result) (place_id items body.locals to) false) c) in record {
          are = wanted items local_ty number depth bodies body addresses before given locals_are ready sig.params args
              (first_so (operands_are items body.locals sig.params args)
              (option_map_or (same_id sig.result) (place_id items body.locals to) false) c) (all-tested args e);
          result = r.1 ∙ ap Some (sym (same-ty sig.result r.0 r.2));
        }

    pub call-sig : (to : graph.Place) (callee : ℕ) (args : List Operand) (next : ℕ) (unwind : Unwind) →
        block.term ≡ Term.Call to callee args next unwind →
        (sig : Sig) × (slice_get items.bodies callee ≡ Some sig) × (calls items body.locals to args sig ≡ true)
    call-sig to callee args next unwind e =
        some-so (calls items body.locals to args) (slice_get items.bodies callee)
        (first_so (option_map_or (calls items body.locals to args) (slice_get items.bodies callee) false)
        (not (is_drop_body items callee)) (types (Term.Call to callee args next unwind) e))

    pub virtual-sig : (to : graph.Place) (trait_no method : ℕ) (args : List Operand) (next : ℕ) (unwind : Unwind) →
        block.term ≡ Term.Virtual to trait_no method args next unwind →
        (sig : Sig) × (method_at items trait_no method ≡ Some sig) × (calls items body.locals to args sig ≡ true)
    virtual-sig to trait_no method args next unwind e =
        some-so (calls items body.locals to args) (method_at items trait_no method)
        (types (Term.Virtual to trait_no method args next unwind) e)

    enters : (callee : ℕ) (sig : Sig) → slice_get items.bodies callee ≡ Some sig → (actions : List PathAction)
        (vs : List Datum) (u : State) →
        TookAll items local_ty number depth body addresses before given locals_are actions (map Some sig.params) w vs
        u →
        Enters items local_ty callee vs u
    enters callee sig is actions vs u t = record {
      sig = sig;
      sig_is = is;
      full = all-full items local_ty number depth body addresses before given locals_are sig.params vs t.full;
      named = took-named actions (map Some sig.params) w vs u t;
    }

    -- a body that is called may be entered
    pub call-enters : (to : graph.Place) (callee : ℕ) (args : List Operand) (next : ℕ) (unwind : Unwind) →
        block.term ≡ Term.Call to callee args next unwind → ComesTo args → (vs : List Datum) (u : State) →
        evaluate_operands raw (operands_of 0 args) w ≡ Some (vs, u) → Enters items local_ty callee vs u
    call-enters to callee args next unwind e f vs u given_vs =
        let s = call-sig to callee args next unwind e in
        let c = called-by to args s.0 (ap operands_of_term e) s.2 in
        let t = used-Took items local_ty number depth body addresses before given locals_are n line acts c.are
        (used c.are f) w vs u h given_vs in
        enters callee s.0 s.1 (UsedHere args) vs u t

    pub call-keeps : (to : graph.Place) (callee : ℕ) (args : List Operand) (next : ℕ) (unwind : Unwind) →
        block.term ≡ Term.Call to callee args next unwind → ComesTo args → GoesOn args to →
        LeavesAll args (to ∷ []) (act raw run (effects.Call (site_of 0 to) callee (operands_of 0 args)) w)
    call-keeps to callee args next unwind e f goes =
        let s = call-sig to callee args next unwind e in
        let c = called-by to args s.0 (ap operands_of_term e) s.2 in
        let r = result-of to (ap stored_by_term e) in
        let exists = ready.numbers n block at in
        call-term items local_ty number depth body addresses before given locals_are (Enters items local_ty) run keeps
        n line
        acts w h to callee args r.id (map Some s.0.params) c.are (used c.are f) (r.stores args goes)
        (callees.results callee s.0 s.1 (ap (term_numbers_exist items bodies) (sym e) ∙ exists)
        ∙ sym c.result ∙ r.is)
        (λ vs u t. enters callee s.0 s.1 (UsedHere args) vs u t)

    pub virtual-keeps : (to : graph.Place) (trait_no method : ℕ) (args : List Operand) (next : ℕ) (unwind : Unwind) →
        block.term ≡ Term.Virtual to trait_no method args next unwind → ComesTo args → GoesOn args to →
        LeavesAll args (to ∷ [])
        (act raw run (effects.CallVirtual (site_of 0 to) trait_no method (operands_of 0 args)) w)
    virtual-keeps to trait_no method args next unwind e f goes =
        let s = virtual-sig to trait_no method args next unwind e in
        let c = called-by to args s.0 (ap operands_of_term e) s.2 in
        let r = result-of to (ap stored_by_term e) in
        virtual-term items local_ty number depth body addresses before given locals_are (Enters items local_ty) run
        keeps n
        line acts w h to trait_no method args r.id (map Some s.0.params) c.are (used c.are f) (r.stores args goes)
        (λ vs u callee t v.
        let k = virtual-enters items local_ty bodies callees trait_no method s.0 s.1 vs u callee
        (all-full items local_ty number depth body addresses before given locals_are s.0.params vs t.full)
        (took-named (UsedHere args) (map Some s.0.params) w vs u t) v in
        (k.0, k.1 ∙ sym c.result ∙ r.is))

    pub virtual-may : (to : graph.Place) (trait_no method : ℕ) (args : List Operand) (next : ℕ) (unwind : Unwind) →
        block.term ≡ Term.Virtual to trait_no method args next unwind → ComesTo args → (vs : List Datum) (u : State)
        (callee : ℕ) → evaluate_operands raw (operands_of 0 args) w ≡ Some (vs, u) →
        virtual_body raw trait_no method u vs ≡ Some callee → Enters items local_ty callee vs u
    virtual-may to trait_no method args next unwind e f vs u callee given_vs v =
        let s = virtual-sig to trait_no method args next unwind e in
        let c = called-by to args s.0 (ap operands_of_term e) s.2 in
        let t = used-Took items local_ty number depth body addresses before given locals_are n line acts c.are
        (used c.are f) w vs u h given_vs in
        (virtual-enters items local_ty bodies callees trait_no method s.0 s.1 vs u callee
        (all-full items local_ty number depth body addresses before given locals_are s.0.params vs t.full)
        (took-named (UsedHere args) (map Some s.0.params) w vs u t) v).0
