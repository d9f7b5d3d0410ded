-- Each statement of a ready body, as it comes on a path, keeps what holds of the raw run: no premise is left but that
-- the body is ready and the path meets no bad use.
use Rattle.std.proofs.Common.{◌≡◌, ℕ, ◌&&◌, Bool, true, false, List, [], ◌∷◌, ◌++◌, flat_map, replicate, Option, Some, None, is_some, slice_get, refl, ap, sym, ◌∙◌, subst, append_assoc}
use Rattle.std.specs.Prelude.{option_and_then}
use Rattle.std.specs.List.{list_all}
use Rattle.std.specs.Option.{option_map_or}
use Rattle.std.specs.Cmp.{first_so, second_so}
use Rattle.std.specs.Cmp.Derive.{both_true}
use Rattle.std.proofs.lemmas.Bool.{false≢true}
use Rattle.mir_ty.specs.declared.ty.Ty.{Ty}
use Rattle.mir_ty.specs.declared.ty.TyId.{TyId}
use Rattle.mir_ty.specs.ItemTable.{ItemTable, type_at}
use Rattle.mir_base.specs.declared.operator.Cmp.{Cmp}
use Rattle.mir_ty.specs.Parts.{fields_of, variants_of, captures_of}
use Rattle.cfg_graph.specs.declared.graph.Block.{Block}
use Rattle.cfg_graph.specs.declared.graph.Body.{Body}
use Rattle.cfg_graph.specs.declared.place.Operand.{Operand}
use Rattle.cfg_graph.specs.declared.place.Place as graph
use Rattle.cfg_graph.specs.declared.statement.Stmt.{Stmt}
use Rattle.cfg_graph.specs.Moves.Actions.{at_line}
use Rattle.cfg_graph.specs.Moves.Gone.{PathAction, is_param}
use Rattle.cfg_graph.specs.Moves.Present.{present_after}
use Rattle.cfg_graph.specs.NamedPlaces.{reference_made, references_made, named_by}
use Rattle.cfg_graph.specs.Places.{named, place_id, ty_of_place, ty_of_operand}
use Rattle.cfg_graph.specs.Uses.{PlaceUse, Borrows, Stores, operand_uses, operands_of_stmt, stored_by_stmt, other_uses, stmt_uses}
use Rattle.cfg_graph.specs.WellFormed.Typing.{is_typed_place, is_sized, operand_is, operands_are, operand_stands, are_elements, variant_at, stmt_has_types}
use Rattle.cfg_meaning.specs.Actions.{site_of, operands_of, action_of}
use Rattle.store_model.specs.declared.address.Addr.{Addr}
use Rattle.store_model.specs.Abstract.Presence.{presence_along, all_present}
use Rattle.store_model.specs.Concrete.Effects.{act}
use Rattle.store_model.specs.Concrete.Location.{Setting}
use Rattle.store_model.specs.Concrete.State.{State, Bodies}
use Rattle.store_model.specs.Effects as effects
use Rattle.store_model.specs.Effects.{AggregateKind, OfTuple, OfArray, OfVariant, OfClosure, Go}
use Rattle.store_model.specs.Places.Place.{Place, is_reference}
use Rattle.store_model.specs.Places.TypeForms.{is_bool, is_dyn_of, is_adt, is_closure, tuple_parts, box_content, are_compared}
use Rattle.drop_values.specs.Like.{raw_setting}
use Rattle.drop_values.proofs.Knows.{PlainSteps, no_steps}
use Rattle.drop_values.proofs.Sites.{PlaceIs, a_part, an_element, behind}
use Rattle.drop_values.proofs.Touched.{AllNameFull}
use Rattle.drop_elaborate.proofs.BorrowsHeld.{AllOfIt, borrow-line}
use Rattle.drop_elaborate.proofs.Counted.{map-two}
use Rattle.drop_elaborate.proofs.Held.{Held}
use Rattle.drop_elaborate.proofs.OperandLists.{OperandsAre, none_is, each_is}
use Rattle.drop_elaborate.proofs.OperandTypes.{AllTested, Tested, first-tested, place-at, index-at, typed-id, place-ok, box-operand, box-type, some-so}
use Rattle.drop_elaborate.proofs.OtherLines.{touch-line, print-line, unsize-line}
use Rattle.drop_elaborate.proofs.PathFacts.{Follows, follows-later, reads-well}
use Rattle.drop_elaborate.proofs.PathUses.{operated, stored-open, opened-by, borrowed-there}
use Rattle.drop_elaborate.proofs.ReadyBody.{BodyIsReady}
use Rattle.drop_elaborate.proofs.ReadyReferences.{stmt-free, made-here, names-none}
use Rattle.drop_elaborate.proofs.ReferencesMade.{borrow-typed}
use Rattle.drop_elaborate.proofs.StatementsHeld.{Operated, StoreOk, KindIs, a_tuple, an_array, a_closure, a_variant, build-line, put-line, not-line, compare-line, box-line, forget-line}
use Rattle.drop_elaborate.proofs.StmtTests.{LineTested, stmt-tested, tuple-type, closure-type, adt-type, elements-are, made-variant, operand-sized}
use Rattle.drop_elaborate.proofs.LineOperands.{made_are as made_of, no_param as no_param_of, all-tested, wanted, any-one, any-two}

module _ (items : ItemTable) (local_ty : (body local : ℕ) → Option TyId) (number depth bodies : ℕ) (body : Body)
    (addresses : List Addr) (before : State) (given : AllNameFull items local_ty before addresses)
    (locals_are : (k : ℕ) → local_ty number k ≡ slice_get body.locals k) (ready : BodyIsReady items bodies body) where
  abbrev raw : Setting
  raw = raw_setting items local_ty

  abbrev HeldNow : List PathAction → State → Type 0
  HeldNow actions w = Held items local_ty number depth body addresses before given locals_are actions w

  abbrev Are : List Operand → List (Option TyId) → Type 0
  Are operands ids = OperandsAre items local_ty number depth body addresses before given locals_are operands ids

  abbrev made_are : (k : ℕ) (place : Place) → named_by k (references_made body) ≡ Some place →
      (id : TyId) × (local_ty number k ≡ Some id) × (is_reference (type_at items id) ≡ true)
  made_are = made_of items local_ty number depth bodies body addresses before given locals_are ready

  abbrev no_param : (r : ℕ) (q : Place) → named_by r (references_made body) ≡ Some q → is_param items body r ≡ false
  no_param = no_param_of items local_ty number depth bodies body addresses before given locals_are ready

  abbrev AllT : List Operand → Type 0
  AllT operands = AllTested items ready.alone local_ty number depth body addresses before given locals_are made_are
      operands

  nil : {A : Type 0} (l : List A) → l ++ [] ≡ l
  nil [] = refl
  nil (x ∷ l) = ap (λ l. x ∷ l) (nil l)

  -- the actions of a line in two pieces
  line-two : (n line : ℕ) (xs ys : List (PlaceUse × graph.Place)) (rest : List PathAction) →
      at_line n line ((xs ++ []) ++ ys) ++ rest ≡ at_line n line xs ++ (at_line n line ys ++ rest)
  line-two n line xs ys rest =
      ap (λ l. at_line n line (l ++ ys) ++ rest) (nil xs)
      ∙ ap (λ l. l ++ rest) (map-two (λ (made : PlaceUse × graph.Place). record {
        how = made.0;
        place = named made.1;
        block = n;
        line = line;
      }) xs ys)
      ∙ append_assoc (at_line n line xs) (at_line n line ys) rest

  module _ (n line : ℕ) (block : Block) (at : slice_get body.blocks n ≡ Some block) (run : Bodies)
      (acts rest : List PathAction) (w x : State) (h : HeldNow acts w) where
    abbrev Comes : Stmt → Type 0
    Comes stmt = Follows items body acts (at_line n line (stmt_uses stmt) ++ rest)

    abbrev Keeps : Stmt → Type 0
    Keeps stmt = slice_get block.stmts line ≡ Some stmt → Comes stmt →
        act raw run (action_of 0 stmt) w ≡ Go x → HeldNow (acts ++ at_line n line (stmt_uses stmt)) x

    facts : (stmt : Stmt) → slice_get block.stmts line ≡ Some stmt →
        LineTested items body (operands_of_stmt stmt) (stored_by_stmt stmt) (other_uses stmt)
        × (stmt_has_types items body.locals stmt ≡ true)
    facts stmt here =
        stmt-tested items body stmt (ready.stmt_typed n line block stmt at here) (ready.stmt_moves n line block stmt
        at here)

    abbrev OperatedHere : {operands : List Operand} {ids : List (Option TyId)} → Are operands ids → Type 0
    OperatedHere {operands} {ids} are =
        Operated items local_ty number depth body addresses before given locals_are n line acts are

    -- its operands may be used
    used : {operands : List Operand} {ids : List (Option TyId)} (are : Are operands ids)
        (ys : List (PlaceUse × graph.Place)) →
        Follows items body acts (at_line n line ((flat_map operand_uses operands ++ []) ++ ys) ++ rest) → OperatedHere
        are
    used {operands} {ids} are ys f =
        operated items local_ty number depth body addresses before given locals_are no_param n line are acts
        (at_line n line ys ++ rest)
        (subst (Follows items body acts) (line-two n line (flat_map operand_uses operands) ys rest) f)

    -- and the place into which it stores is reached
    stores : (operands : List Operand) (to : graph.Place) (id : TyId) →
        Follows items body acts (at_line n line ((flat_map operand_uses operands ++ []) ++ (Stores, to) ∷ []) ++ rest) →
        place_id items body.locals to ≡ Some id → is_typed_place items body.locals to ≡ true →
        is_sized items body.locals to ≡ true → is_reference (type_at items id) ≡ false →
        StoreOk items local_ty number depth body addresses before given locals_are n line
        (acts ++ at_line n line (flat_map operand_uses operands)) to id
    stores operands to id f e typed sized free =
        let ok = place-ok items ready.alone local_ty number depth body addresses before given locals_are made_are to
        id e typed sized in record {
          ok = ok;
          reachable = stored-open items local_ty number depth body addresses before given locals_are no_param n line
              (acts ++ at_line n line (flat_map operand_uses operands)) rest to id
              (follows-later items body acts (at_line n line (flat_map operand_uses operands))
              (at_line n line ((Stores, to) ∷ []) ++ rest)
              (subst (Follows items body acts) (line-two n line (flat_map operand_uses operands) ((Stores, to) ∷ [])
              rest)
              f)) ok.is;
          free = free;
        }

    only : (b : Bool) → (b && true) ≡ true → b ≡ true
    only b h = first_so b true h

    -- the place into which it stores, with its type
    record StoredTo (stmt : Stmt) (to : graph.Place) : Type 0 where
      pub id : TyId
      pub is : place_id items body.locals to ≡ Some id
      pub typed : is_typed_place items body.locals to ≡ true
      pub sized : is_sized items body.locals to ≡ true
      pub free : is_reference (type_at items id) ≡ false
      pub ty_is : ty_of_place items body.locals to ≡ type_at items id

    stored-to : (stmt : Stmt) (to : graph.Place) → slice_get block.stmts line ≡ Some stmt →
        stored_by_stmt stmt ≡ to ∷ [] → reference_made stmt ≡ [] → StoredTo stmt to
    stored-to stmt to here s none =
        let f = (facts stmt here).0 in
        let typed = only (is_typed_place items body.locals to)
        (ap (list_all (is_typed_place items body.locals)) (sym s) ∙ f.stored_typed) in
        let i = typed-id items ready.alone local_ty number depth body addresses before given locals_are made_are to
        typed in record {
          id = i.0;
          is = i.1;
          typed = typed;
          sized = only (is_sized items body.locals to) (ap (list_all (is_sized items body.locals)) (sym s)
              ∙ f.stored_sized);
          free = stmt-free items ready.alone body ready.references ready.stmt_typed n line block stmt to i.0 at here s
              none i.1;
          ty_is = ap (option_and_then (type_at items)) i.1;
        }

    put-keeps : (to : graph.Place) (from : Operand) → Keeps (Stmt.Put to from)
    put-keeps to from here f e =
        let stmt = Stmt.Put to from in
        let t = facts stmt here in
        let s = stored-to stmt to here refl refl in
        let a = wanted items local_ty number depth bodies body addresses before given locals_are ready (s.id ∷ [])
        (from ∷ []) (ap (λ o. option_map_or (λ id. operand_is items body.locals id from) o
        false
        && true) (sym s.is) ∙ both_true t.1 refl) (all-tested items local_ty number depth bodies body addresses before
        given locals_are ready (from ∷ []) (to ∷ []) [] t.0) in
        put-line items local_ty number depth body addresses before given locals_are run n line acts w x h to from s.id a
        (used a ((Stores, to) ∷ []) f) (stores (from ∷ []) to s.id f s.is s.typed s.sized s.free) e

    compare-keeps : (to : graph.Place) (op : Cmp) (left right : Operand) → Keeps (Stmt.Compare to op left right)
    compare-keeps to op left right here f e =
        let stmt = Stmt.Compare to op left right in
        let t = facts stmt here in
        let s = stored-to stmt to here refl refl in
        let a = any-two items local_ty number depth bodies body addresses before given locals_are ready left right
        (all-tested items local_ty number depth bodies body addresses before given locals_are ready (left ∷ right ∷ [])
        (to ∷ []) [] t.0) in
        compare-line items local_ty number depth body addresses before given locals_are run n line acts w x h to op left
        right s.id a.0 a.1 a.2 (used a.2 ((Stores, to) ∷ []) f)
        (stores (left ∷ right ∷ []) to s.id f s.is s.typed s.sized s.free)
        (ap is_bool (sym s.ty_is) ∙ first_so (is_bool (ty_of_place items body.locals to))
        (are_compared (ty_of_operand items body.locals left) (ty_of_operand items body.locals right)) t.1) e

    not-keeps : (to : graph.Place) (operand : Operand) → Keeps (Stmt.Not to operand)
    not-keeps to operand here f e =
        let stmt = Stmt.Not to operand in
        let t = facts stmt here in
        let s = stored-to stmt to here refl refl in
        let a = any-one items local_ty number depth bodies body addresses before given locals_are ready operand
        (all-tested items local_ty number depth bodies body addresses before given locals_are ready (operand ∷ [])
        (to ∷ []) [] t.0) in
        not-line items local_ty number depth body addresses before given locals_are run n line acts w x h to operand
        s.id
        a.0 a.1 (used a.1 ((Stores, to) ∷ []) f) (stores (operand ∷ []) to s.id f s.is s.typed s.sized s.free)
        (ap is_bool (sym s.ty_is) ∙ first_so (is_bool (ty_of_place items body.locals to))
        (is_bool (ty_of_operand items body.locals operand)) t.1) e

    -- an aggregate of its parts
    build-keeps : (to : graph.Place) (kind : AggregateKind) (parts : List Operand) (id : TyId) (ids : List TyId) →
        place_id items body.locals to ≡ Some id → is_typed_place items body.locals to ≡ true →
        is_sized items body.locals to ≡ true → is_reference (type_at items id) ≡ false → AllT parts →
        operands_are items body.locals ids parts ≡ true →
        KindIs items local_ty number depth body addresses before given locals_are kind id ids →
        Follows items body acts (at_line n line ((flat_map operand_uses parts ++ []) ++ (Stores, to) ∷ []) ++ rest) →
        act raw run (effects.Build (site_of 0 to) kind (operands_of 0 parts)) w ≡ Go x →
        HeldNow (acts ++ at_line n line ((flat_map operand_uses parts ++ []) ++ (Stores, to) ∷ [])) x
    build-keeps to kind parts id ids e typed sized free t is k f does =
        let a = wanted items local_ty number depth bodies body addresses before given locals_are ready ids parts is t in
        build-line items local_ty number depth body addresses before given locals_are run n line acts w x to kind
        parts id ids a (used a ((Stores, to) ∷ []) f) (stores parts to id f e typed sized free) k h does

    tuple-keeps : (to : graph.Place) (parts : List Operand) → Keeps (Stmt.Tuple to parts)
    tuple-keeps to parts here f e =
        let stmt = Stmt.Tuple to parts in
        let t = facts stmt here in
        let s = stored-to stmt to here refl refl in
        let k = some-so (λ types. operands_are items body.locals types parts)
        (tuple_parts (ty_of_place items body.locals to)) t.1 in
        build-keeps to OfTuple parts s.id k.0 s.is s.typed s.sized s.free
        (all-tested items local_ty number depth bodies body addresses before given locals_are ready parts
        (to ∷ []) [] t.0) k.2
        (a_tuple s.id k.0 (tuple-type (type_at items s.id) k.0 (ap tuple_parts (sym s.ty_is) ∙ k.1))) f e

    array-keeps : (to : graph.Place) (parts : List Operand) → Keeps (Stmt.Array to parts)
    array-keeps to parts here f e =
        let stmt = Stmt.Array to parts in
        let t = facts stmt here in
        let s = stored-to stmt to here refl refl in
        by s t.0 (type_at items s.id) refl (ap (are_elements items body.locals parts) (sym s.ty_is) ∙ t.1)
      where
        by : (s : StoredTo (Stmt.Array to parts) to) → LineTested items body parts (to ∷ []) [] → (o : Option Ty) →
            type_at items s.id ≡ o → are_elements items body.locals parts o ≡ true →
            HeldNow (acts ++ at_line n line (stmt_uses (Stmt.Array to parts))) x
        by s t (Some (Ty.Array element count)) te h =
            build-keeps to OfArray parts s.id (replicate count element) s.is s.typed s.sized s.free
            (all-tested items local_ty number depth bodies body addresses before given locals_are ready parts
            (to ∷ []) [] t) (elements-are items body element count parts h)
            (an_array s.id element count te) f e
        by s t None te h = absurd (false≢true h)
        by s t (Some other) te h = absurd (false≢true h)

    make-keeps : (to : graph.Place) (adt variant : ℕ) (parts : List Operand) → Keeps (Stmt.Make to adt variant parts)
    make-keeps to adt variant parts here f e =
        let stmt = Stmt.Make to adt variant parts in
        let t = facts stmt here in
        let s = stored-to stmt to here refl refl in
        let m = some-so (λ made. operands_are items body.locals made.fields parts) (variant_at items adt variant)
        (second_so (is_adt adt (ty_of_place items body.locals to))
        (option_map_or (λ made. operands_are items body.locals made.fields parts) (variant_at items adt variant) false)
        t.1) in
        let v = made-variant items body ready.one_variant adt variant m.0 m.1 in
        build-keeps to (OfVariant adt variant) parts s.id
        (fields_of (slice_get (variants_of (slice_get items.adts adt)) variant)) s.is s.typed s.sized s.free
        (all-tested items local_ty number depth bodies body addresses before given locals_are ready parts
        (to ∷ []) [] t.0)
        (ap (λ ids. operands_are items body.locals ids parts) (sym v.1) ∙ m.2)
        (a_variant s.id adt variant (adt-type adt (type_at items s.id) (ap (is_adt adt) (sym s.ty_is)
        ∙ first_so (is_adt adt (ty_of_place items body.locals to))
        (option_map_or (λ made. operands_are items body.locals made.fields parts) (variant_at items adt variant) false)
        t.1)) v.0) f e

    close-keeps : (to : graph.Place) (closure : ℕ) (parts : List Operand) → Keeps (Stmt.Close to closure parts)
    close-keeps to closure parts here f e =
        let stmt = Stmt.Close to closure parts in
        let t = facts stmt here in
        let s = stored-to stmt to here refl refl in
        let ids = captures_of (slice_get items.closures closure) in
        build-keeps to (OfClosure closure) parts s.id ids s.is s.typed s.sized s.free
        (all-tested items local_ty number depth bodies body addresses before given locals_are ready parts (to ∷ []) []
        t.0)
        (second_so (is_closure closure (ty_of_place items body.locals to)) (operands_are items body.locals ids parts)
        t.1)
        (a_closure s.id closure (closure-type closure (type_at items s.id) (ap (is_closure closure) (sym s.ty_is)
        ∙ first_so (is_closure closure (ty_of_place items body.locals to)) (operands_are items body.locals ids parts)
        t.1))) f e

    box-keeps : (to : graph.Place) (operand : Operand) → Keeps (Stmt.NewBox to operand)
    box-keeps to operand here f e =
        let stmt = Stmt.NewBox to operand in
        let t = facts stmt here in
        let s = stored-to stmt to here refl refl in
        let c = some-so (λ id. operand_is items body.locals id operand) (box_content (ty_of_place items body.locals to))
        t.1 in
        let a = wanted items local_ty number depth bodies body addresses before given locals_are ready (c.0 ∷ [])
        (operand ∷ []) (both_true c.2 refl) (all-tested items local_ty number depth bodies body addresses before given
        locals_are ready (operand ∷ []) (to ∷ []) [] t.0) in
        box-line items local_ty number depth body addresses before given locals_are run n line acts w x h to operand
        s.id
        c.0 a (used a ((Stores, to) ∷ []) f) (stores (operand ∷ []) to s.id f s.is s.typed s.sized s.free)
        (box-type (type_at items s.id) c.0 (ap box_content (sym s.ty_is) ∙ c.1))
        (operand-sized items body c.0 operand c.2 (only (operand_stands items body.locals operand)
        t.0.operands_stand)) e

    -- the one operand of a line
    tested-one : (operand : Operand) → AllT (operand ∷ []) →
        Tested items ready.alone local_ty number depth body addresses before given locals_are made_are operand
    tested-one operand t =
        (first-tested items ready.alone local_ty number depth body addresses before given locals_are made_are operand
        [] t).0

    unsize-keeps : (to : graph.Place) (trait_no : ℕ) (from : Operand) → Keeps (Stmt.Unsize to trait_no from)
    unsize-keeps to trait_no from here f e =
        let stmt = Stmt.Unsize to trait_no from in
        let t = facts stmt here in
        let s = stored-to stmt to here refl refl in
        let all = all-tested items local_ty number depth bodies body addresses before given locals_are ready (from ∷ [])
        (to ∷ []) [] t.0 in
        let d = first_so (is_dyn_of trait_no (option_and_then (type_at items)
        (box_content (ty_of_place items body.locals to)))) (is_some (box_content (ty_of_operand items body.locals
        from)))
        t.1 in
        let c = dyn-content trait_no (box_content (ty_of_place items body.locals to)) d in
        let b = box-operand items ready.alone local_ty number depth body addresses before given locals_are made_are from
        (second_so (is_dyn_of trait_no (option_and_then (type_at items)
        (box_content (ty_of_place items body.locals to)))) (is_some (box_content (ty_of_operand items body.locals
        from)))
        t.1) (tested-one from all) in
        let a = each_is from [] b.id [] b.is none_is in
        unsize-line items local_ty number depth body addresses before given locals_are run n line acts w x h to trait_no
        from s.id c.0 b.id b.inner a (used a ((Stores, to) ∷ []) f)
        (stores (from ∷ []) to s.id f s.is s.typed s.sized s.free) b.typed
        (box-type (type_at items s.id) c.0 (ap box_content (sym s.ty_is) ∙ c.1)) c.2 b.box_is e
      where
        dyn-content : (trait_no : ℕ) (o : Option TyId) → is_dyn_of trait_no (option_and_then (type_at items) o) ≡ true →
            (content : TyId) × (o ≡ Some content) × (is_dyn_of trait_no (type_at items content) ≡ true)
        dyn-content trait_no None h = absurd (false≢true h)
        dyn-content trait_no (Some content) h = (content, refl, h)

    borrow-keeps : (to : graph.Place) (unique : Bool) (of : graph.Place) → Keeps (Stmt.Borrow to unique of)
    borrow-keeps to unique of here f e =
        let stmt = Stmt.Borrow to unique of in
        let t = borrow-typed items ready.alone body ready.references ready.stmt_typed to of unique
        (ready.stmt_typed n line block stmt at here) in
        let m = made-here items ready.alone body ready.references ready.stmt_typed n line block to of unique at here in
        let ft = (facts stmt here).0 in
        let to_typed = only (is_typed_place items body.locals to) ft.stored_typed in
        let of_typed = only (is_typed_place items body.locals of) ft.others_typed in
        let is = place-at items ready.alone local_ty number depth body addresses before given locals_are made_are of
        t.target
        t.of_is in
        let ok = place-ok items ready.alone local_ty number depth body addresses before given locals_are made_are to
        t.id
        t.to_is to_typed (only (is_sized items body.locals to) ft.stored_sized) in
        let borrow : PathAction = record { how = Borrows; place = named of; block = n; line = line } in
        let more = at_line n line ((Stores, to) ∷ []) ++ rest in
        let r = reads-well items body acts borrow more f tt in
        borrow-line items local_ty number depth body addresses before given locals_are made_are
        (names-none items ready.alone body ready.references ready.stmt_typed) run n line acts w x h to of unique t.id
        t.target t.id (locals_are to.local ∙ t.local_is)
        (subst (λ steps. PlainSteps items steps t.id t.id) (sym t.whole) (no_steps t.id)) ok.sized t.reference
        ok.index is
        (index-at items ready.alone local_ty number depth body addresses before given locals_are made_are of of_typed)
        (opened-by items local_ty number depth body addresses before given locals_are no_param acts borrow more f
        r.containers r.array t.target is)
        (there is (borrowed-there items local_ty number depth body addresses before given locals_are no_param acts
        borrow more f tt)) t.free m.named_so e
      where
        there : {target : TyId} (is : PlaceIs items local_ty number (named of) target) →
            all_present (presence_along (named of).steps (present_after items body acts (named of).local)) ≡ true →
            AllOfIt items local_ty number depth body addresses before given locals_are made_are
            (names-none items ready.alone body ready.references ready.stmt_typed) acts is
        there (a_part start typed plain) p = p
        there (an_element upper more index start array typed steps_are plain solid) p = tt
        there (behind more start goes typed named_it steps_are solid) p = tt

    print-keeps : (operand : Operand) → Keeps (Stmt.Print operand)
    print-keeps operand here f e =
        let a = any-one items local_ty number depth bodies body addresses before given locals_are ready operand
        (all-tested items local_ty number depth bodies body addresses before given locals_are ready (operand ∷ []) [] []
        (facts (Stmt.Print operand) here).0) in
        print-line items local_ty number depth body addresses before given locals_are run n line acts w x h operand
        a.0 a.1
        (used a.1 [] f) e

    forget-keeps : (operand : Operand) → Keeps (Stmt.Forget operand)
    forget-keeps operand here f e =
        let a = any-one items local_ty number depth bodies body addresses before given locals_are ready operand
        (all-tested items local_ty number depth bodies body addresses before given locals_are ready (operand ∷ []) [] []
        (facts (Stmt.Forget operand) here).0) in
        forget-line items local_ty number depth body addresses before given locals_are run n line acts w x h operand
        a.0 a.1
        (used a.1 [] f) e

    -- any statement
    pub stmt-keeps : (stmt : Stmt) → Keeps stmt
    stmt-keeps (Stmt.Put to from) = put-keeps to from
    stmt-keeps (Stmt.Compare to op left right) = compare-keeps to op left right
    stmt-keeps (Stmt.Not to operand) = not-keeps to operand
    stmt-keeps (Stmt.Tuple to parts) = tuple-keeps to parts
    stmt-keeps (Stmt.Array to parts) = array-keeps to parts
    stmt-keeps (Stmt.Make to adt variant parts) = make-keeps to adt variant parts
    stmt-keeps (Stmt.Close to closure parts) = close-keeps to closure parts
    stmt-keeps (Stmt.NewBox to operand) = box-keeps to operand
    stmt-keeps (Stmt.Unsize to trait_no from) = unsize-keeps to trait_no from
    stmt-keeps (Stmt.Borrow to unique of) = borrow-keeps to unique of
    stmt-keeps (Stmt.Touch place) =
        λ here f e. touch-line items local_ty number depth body addresses before given locals_are run n line acts w x h
        place e
    stmt-keeps (Stmt.Print operand) = print-keeps operand
    stmt-keeps (Stmt.Forget operand) = forget-keeps operand
    stmt-keeps (Stmt.Free place) = λ here f e. absurd (false≢true (ready.no_free n line block (Stmt.Free place) at
        here))
