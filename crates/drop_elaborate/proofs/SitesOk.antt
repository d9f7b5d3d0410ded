-- The places, operands and actions of the lines of a ready body are places of the body, with types: what the lemmas on
-- single actions of both runs ask for.
use Rattle.std.proofs.Common.{◌≡◌, ℕ, ◌&&◌, Bool, true, List, [], ◌∷◌, map, flat_map, Option, Some, None, slice_get, refl, ap, ◌∙◌, subst}
use Rattle.std.specs.Prelude.{option_and_then}
use Rattle.std.specs.List.{list_all}
use Rattle.std.specs.Cmp.{first_so, second_so}
use Rattle.std.proofs.lemmas.Bool.{false≢true}
use Rattle.std.proofs.lemmas.Option.{none-some}
use Rattle.mir_base.specs.declared.operator.Math.{Math}
use Rattle.mir_base.specs.declared.trace.Event.{Event}
use Rattle.mir_ty.specs.declared.ty.TyId.{TyId}
use Rattle.mir_ty.specs.ItemTable.{ItemTable}
use Rattle.cfg_graph.specs.declared.graph.Body.{Body}
use Rattle.cfg_graph.specs.declared.place.Operand.{Operand}
use Rattle.cfg_graph.specs.declared.place.Place as graph
use Rattle.cfg_graph.specs.declared.statement.Stmt.{Stmt}
use Rattle.cfg_graph.specs.Places.{named, place_id}
use Rattle.cfg_graph.specs.Ready.{is_no_free}
use Rattle.cfg_graph.specs.Uses.{operand_uses, operands_of_stmt, stored_by_stmt, other_uses, place_used}
use Rattle.cfg_graph.specs.WellFormed.Typing.{is_typed_place}
use Rattle.cfg_meaning.specs.Actions.{site_of, operand_of, operands_of, action_of}
use Rattle.store_model.specs.Concrete.State.{State, Bodies}
use Rattle.store_model.specs.Effects as effects
use Rattle.store_model.specs.Effects.{EffectSite, Action, stored_by}
use Rattle.store_model.specs.Places.Place.{ty_along}
use Rattle.store_model.specs.Values.Datum.{Datum}
use Rattle.drop_values.specs.Like.{Flags, SameBodies, Extends}
use Rattle.drop_values.proofs.Actions.{SiteTyped, OperandTyped, Stays, ActionOk, MayCall, StoreTyped}
use Rattle.drop_values.proofs.Operands.{SiteOk, OperandOk, OperandsOk}
use Rattle.drop_values.proofs.Reach.{IndexOk}
use Rattle.drop_elaborate.proofs.StmtTests.{LineTested}

module _ (items : ItemTable) (local_ty local_ty' : (body local : ℕ) → Option TyId)
    (extends : Extends local_ty local_ty') (number depth : ℕ) (body : Body)
    (locals_are : (k : ℕ) → local_ty number k ≡ slice_get body.locals k)
    (index_at : (place : graph.Place) → is_typed_place items body.locals place ≡ true →
    IndexOk (local_ty number) (named place).steps)
    (typed_id : (place : graph.Place) → is_typed_place items body.locals place ≡ true →
    (id : TyId) × (place_id items body.locals place ≡ Some id)) (flags : Flags) where
  abbrev SOk : EffectSite → Type 0
  SOk = SiteOk items local_ty local_ty' extends flags depth number

  abbrev STyped : EffectSite → Type 0
  STyped = SiteTyped items local_ty local_ty' extends flags depth number

  abbrev OOk : effects.Operand → Type 0
  OOk = OperandOk items local_ty local_ty' extends flags depth number

  abbrev OsOk : List effects.Operand → Type 0
  OsOk = OperandsOk items local_ty local_ty' extends flags depth number

  abbrev OTyped : effects.Operand → Type 0
  OTyped = OperandTyped items local_ty local_ty' extends flags depth number

  abbrev IsTyped : graph.Place → Type 0
  IsTyped place = is_typed_place items body.locals place ≡ true

  site-typed : (place : graph.Place) → IsTyped place → STyped (site_of 0 place)
  site-typed place t = by (slice_get body.locals place.local) refl (typed_id place t).1
    where
      by : (o : Option TyId) → slice_get body.locals place.local ≡ o →
          option_and_then (ty_along items (named place).steps) o ≡ Some (typed_id place t).0 →
          (id : TyId) × (local_ty number place.local ≡ Some id)
      by None e h = absurd (none-some (typed_id place t).0 h)
      by (Some id) e h = (id, locals_are place.local ∙ e)

  stored-ok : (place : graph.Place) → IsTyped place → SOk (site_of 0 place) × STyped (site_of 0 place)
  stored-ok place t = (index_at place t, site-typed place t)

  operand-ok : (operand : Operand) → list_all (is_typed_place items body.locals) (map place_used (operand_uses operand))
      ≡ true → OOk (operand_of 0 operand) × OTyped (operand_of 0 operand)
  operand-ok (Operand.Copied place) t =
      let h = first_so (is_typed_place items body.locals place) true t in (index_at place h, site-typed place h)
  operand-ok (Operand.Moved place) t =
      let h = first_so (is_typed_place items body.locals place) true t in (index_at place h, site-typed place h)
  operand-ok (Operand.Number value kind) t = (tt, tt)
  operand-ok (Operand.Truth value) t = (tt, tt)
  operand-ok Operand.Unit t = (tt, tt)

  abbrev AllTyped : List Operand → Type 0
  AllTyped operands = list_all (is_typed_place items body.locals) (map place_used (flat_map operand_uses operands)) ≡
      true

  first-typed : (operand : Operand) (operands : List Operand) → AllTyped (operand ∷ operands) →
      (list_all (is_typed_place items body.locals) (map place_used (operand_uses operand)) ≡ true) × AllTyped operands
  first-typed (Operand.Copied place) operands t = (
    ap (λ b. b && true) (first_so (is_typed_place items body.locals place) (list_all (is_typed_place items body.locals)
        (map place_used (flat_map operand_uses operands))) t),
    second_so (is_typed_place items body.locals place) (list_all (is_typed_place items body.locals)
        (map place_used (flat_map operand_uses operands))) t,
  )
  first-typed (Operand.Moved place) operands t = (
    ap (λ b. b && true) (first_so (is_typed_place items body.locals place) (list_all (is_typed_place items body.locals)
        (map place_used (flat_map operand_uses operands))) t),
    second_so (is_typed_place items body.locals place) (list_all (is_typed_place items body.locals)
        (map place_used (flat_map operand_uses operands))) t,
  )
  first-typed (Operand.Number value kind) operands t = (refl, t)
  first-typed (Operand.Truth value) operands t = (refl, t)
  first-typed Operand.Unit operands t = (refl, t)

  operands-ok : (operands : List Operand) → AllTyped operands → OsOk (operands_of 0 operands)
  operands-ok [] t = tt
  operands-ok (operand ∷ operands) t =
      let f = first-typed operand operands t in ((operand-ok operand f.0).0, operands-ok operands f.1)

  one-ok : (operand : Operand) → AllTyped (operand ∷ []) → OOk (operand_of 0 operand) × OTyped (operand_of 0 operand)
  one-ok operand t = operand-ok operand (first-typed operand [] t).0

  two-ok : (left right : Operand) → AllTyped (left ∷ right ∷ []) →
      (OOk (operand_of 0 left) × OTyped (operand_of 0 left)) × OOk (operand_of 0 right)
  two-ok left right t =
      let f = first-typed left (right ∷ []) t in
      (operand-ok left f.0, (operand-ok right (first-typed right [] f.1).0).0)

  only : (b : Bool) → (b && true) ≡ true → b ≡ true
  only b h = first_so b true h

  module _ (most : ℕ) (run run' : Bodies) (good : ℕ → List Datum → State → Type 0)
      (tie : SameBodies local_ty good most run run')
      (stays : (event : Event) (callee : ℕ) (args : List Datum) (w : State) → good callee args w →
      Stays items local_ty local_ty' extends flags depth number w (run event callee args w)) where
    abbrev AOk : Action → Type 0
    AOk = ActionOk items local_ty local_ty' extends flags depth number most run run' good tie stays

    abbrev Stored : Action → Type 0
    Stored = StoreTyped items local_ty local_ty' extends flags depth number most run run' good tie stays

    abbrev Tested : Stmt → Type 0
    Tested stmt = LineTested items body (operands_of_stmt stmt) (stored_by_stmt stmt) (other_uses stmt)

    -- each statement
    pub stmt-ok : (stmt : Stmt) → is_no_free stmt ≡ true → Tested stmt → AOk (action_of 0 stmt)
    stmt-ok (Stmt.Put to from) n t =
        (stored-ok to (only _ t.stored_typed), (one-ok from t.operands_typed).0)
    stmt-ok (Stmt.Compare to op left right) n t =
        let o = two-ok left right t.operands_typed in (stored-ok to (only _ t.stored_typed), o.0.0, o.1)
    stmt-ok (Stmt.Not to operand) n t = (stored-ok to (only _ t.stored_typed), (one-ok operand t.operands_typed).0)
    stmt-ok (Stmt.Tuple to parts) n t = (stored-ok to (only _ t.stored_typed), operands-ok parts t.operands_typed)
    stmt-ok (Stmt.Array to parts) n t = (stored-ok to (only _ t.stored_typed), operands-ok parts t.operands_typed)
    stmt-ok (Stmt.Make to adt variant parts) n t =
        (stored-ok to (only _ t.stored_typed), operands-ok parts t.operands_typed)
    stmt-ok (Stmt.Close to closure parts) n t =
        (stored-ok to (only _ t.stored_typed), operands-ok parts t.operands_typed)
    stmt-ok (Stmt.NewBox to operand) n t = (stored-ok to (only _ t.stored_typed), (one-ok operand t.operands_typed).0)
    stmt-ok (Stmt.Unsize to trait_no from) n t =
        let o = one-ok from t.operands_typed in (stored-ok to (only _ t.stored_typed), o.0, o.1)
    stmt-ok (Stmt.Borrow to unique of) n t =
        (stored-ok to (only _ t.stored_typed), index_at of (only _ t.others_typed))
    stmt-ok (Stmt.Touch place) n t = index_at place (only _ t.others_typed)
    stmt-ok (Stmt.Print operand) n t = (one-ok operand t.operands_typed).0
    stmt-ok (Stmt.Forget operand) n t = (one-ok operand t.operands_typed).0
    stmt-ok (Stmt.Free place) n t = absurd (false≢true n)

    stored-site : (to : graph.Place) → list_all (is_typed_place items body.locals) (to ∷ []) ≡ true →
        (site : EffectSite) → Some (site_of 0 to) ≡ Some site → STyped site
    stored-site to t site e =
        subst STyped (let x : Some (site_of 0 to) ≡ Some site = e in let y : site_of 0 to ≡ site = cc in y)
        (site-typed to (only _ t))

    pub stmt-stored : (stmt : Stmt) → Tested stmt → Stored (action_of 0 stmt)
    stmt-stored (Stmt.Put to from) t = stored-site to t.stored_typed
    stmt-stored (Stmt.Compare to op left right) t = stored-site to t.stored_typed
    stmt-stored (Stmt.Not to operand) t = stored-site to t.stored_typed
    stmt-stored (Stmt.Tuple to parts) t = stored-site to t.stored_typed
    stmt-stored (Stmt.Array to parts) t = stored-site to t.stored_typed
    stmt-stored (Stmt.Make to adt variant parts) t = stored-site to t.stored_typed
    stmt-stored (Stmt.Close to closure parts) t = stored-site to t.stored_typed
    stmt-stored (Stmt.NewBox to operand) t = stored-site to t.stored_typed
    stmt-stored (Stmt.Unsize to trait_no from) t = stored-site to t.stored_typed
    stmt-stored (Stmt.Borrow to unique of) t = stored-site to t.stored_typed
    stmt-stored (Stmt.Touch place) t = λ site e. absurd (none-some site e)
    stmt-stored (Stmt.Print operand) t = λ site e. absurd (none-some site e)
    stmt-stored (Stmt.Forget operand) t = λ site e. absurd (none-some site e)
    stmt-stored (Stmt.Free place) t = λ site e. absurd (none-some site e)

    abbrev May : Action → State → Type 0
    May = MayCall items local_ty local_ty' extends flags depth number most run run' good tie stays

    -- no statement calls a body
    pub stmt-may : (stmt : Stmt) (w : State) → May (action_of 0 stmt) w
    stmt-may (Stmt.Put to from) w = tt
    stmt-may other w = tt

    -- the actions of terminators
    pub math-ok : (to : graph.Place) (op : Math) (left right : Operand) → IsTyped to → AllTyped (left ∷ right ∷ []) →
        AOk (effects.Compute (site_of 0 to) op (operand_of 0 left) (operand_of 0 right))
    math-ok to op left right s t =
        let o = two-ok left right t in (stored-ok to s, o.0.0, o.0.1, o.1)

    pub negate-ok : (to : graph.Place) (operand : Operand) → IsTyped to → AllTyped (operand ∷ []) →
        AOk (effects.Negate (site_of 0 to) (operand_of 0 operand))
    negate-ok to operand s t = let o = one-ok operand t in (stored-ok to s, o.0, o.1)

    pub bounds-ok : (index : Operand) (count : ℕ) → AllTyped (index ∷ []) →
        AOk (effects.Bounds (operand_of 0 index) count)
    bounds-ok index count t = (one-ok index t).0

    pub ask-ok : (to : graph.Place) → IsTyped to → AOk (effects.Ask (site_of 0 to))
    ask-ok to s = stored-ok to s

    pub call-ok : (to : graph.Place) (callee : ℕ) (args : List Operand) → IsTyped to → AllTyped args →
        AOk (effects.Call (site_of 0 to) callee (operands_of 0 args))
    call-ok to callee args s t = (stored-ok to s, operands-ok args t)

    pub virtual-ok : (to : graph.Place) (trait_no method : ℕ) (args : List Operand) → IsTyped to → AllTyped args →
        AOk (effects.CallVirtual (site_of 0 to) trait_no method (operands_of 0 args))
    virtual-ok to trait_no method args s t = (stored-ok to s, operands-ok args t)

    pub stored-typed : (to : graph.Place) → IsTyped to → (site : EffectSite) → Some (site_of 0 to) ≡ Some site →
        STyped site
    stored-typed to t site e =
        subst STyped (let x : Some (site_of 0 to) ≡ Some site = e in let y : site_of 0 to ≡ site = cc in y)
        (site-typed to t)

  -- the operands of tests
  pub tested-ok : (operand : Operand) → AllTyped (operand ∷ []) → OOk (operand_of 0 operand)
  tested-ok operand t = (one-ok operand t).0
