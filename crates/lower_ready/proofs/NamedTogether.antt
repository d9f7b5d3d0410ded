-- What a reference names stays on each path of a lowered body, whose program is well typed, lowerable and breaks no
-- rule of borrows: only calls use the reference, it is made by one borrow, and no argument behind takes anything of
-- what it names.
use Rattle.std.proofs.Common.{◌≡◌, ℕ, ◌==◌, ◌&&◌, Bool, true, false, List, [], map, Option, Some, None, slice_get, refl, sym, ap, ◌∙◌, subst}
use Rattle.std.proofs.lemmas.Bool.{false≢true}
use Rattle.std.proofs.lemmas.Option.{none-some, same_Some, slice_get-map}
use Rattle.std.specs.Prelude.{option_map, option_and_then, is_some}
use Rattle.std.specs.Option.{option_map_or}
use Rattle.mir_ty.specs.declared.ty.Ty.{Ty}
use Rattle.mir_ty.specs.declared.ty.TyId.{TyId}
use Rattle.mir_ty.specs.ItemTable.{type_at}
use Rattle.cfg_graph.proofs.NoFaults.{broken-holds}
use Rattle.cfg_graph.specs.declared.graph.Block.{Block}
use Rattle.cfg_graph.specs.declared.graph.Body.{Body}
use Rattle.cfg_graph.specs.declared.place.Place as graph_place
use Rattle.cfg_graph.specs.declared.statement.Stmt.{Stmt}
use Rattle.cfg_graph.specs.Moves.Actions.{actions_on}
use Rattle.cfg_graph.specs.Moves.Paths.{IsPath}
use Rattle.cfg_graph.specs.NamedPlaces.{named_by, references_made, keeps_named}
use Rattle.cfg_graph.specs.Places.{named, place_id, ty_of_place}
use Rattle.cfg_graph.specs.Ready.{times_made}
use Rattle.cfg_graph.specs.Uses.{operands_of_stmt, stored_by_stmt, places_of_stmt}
use Rattle.cfg_graph.specs.WellFormed.LineFaults.{stmt_tests}
use Rattle.cfg_graph.specs.WellFormed.Typing.{places_have_types, stmt_has_types, stmt_is_typed}
use Rattle.store_model.specs.Places.Place.{Place, whole_local, place_ty}
use Rattle.store_model.specs.Places.TypeForms.{same_id, referent}
use Rattle.typed_tree.specs.Nodes.{nodes_of}
use Rattle.typed_tree.specs.Tree.{Node, BodyTree, ProgramTree}
use Rattle.src_meaning.specs.Locals.OfBody.{locals, local_ty, local_tys}
use Rattle.src_meaning.specs.Scopes.{Entry}
use Rattle.typing_rules.specs.Borrows.{broken_borrow}
use Rattle.well_typed.specs.Program.{WellTyped}
use Rattle.well_typed.specs.Types as types
use Rattle.soundness_frame.proofs.PassBlockTold.{in_block, block_within}
use Rattle.soundness_cells.proofs.PassCells.{NodeIn}
use Rattle.soundness_frame.proofs.PassTold.{KnownOf}
use Rattle.lower_rules.specs.Lower.{body_of}
use Rattle.lower_laws.specs.Lowerable.{IsLowerable}
use Rattle.lower_laws.proofs.Whole.{no_line_has_a_fault, no_local_has_a_fault}
use Rattle.lower_ready.proofs.NamedGraph.{only_passed}
use Rattle.lower_ready.proofs.NamedPassing as passing
use Rattle.lower_ready.proofs.NamedSaying as saying
use Rattle.lower_ready.proofs.NamedSource as source
use Rattle.lower_ready.proofs.NamedStays.{stays_unmade}
use Rattle.lower_ready.proofs.NamedTyped.{argument_borrows, callee_elsewhere}
use Rattle.lower_ready.proofs.NamedUsed.{MakingBorrow, made_by, some_made, made_by_one, whole_is}
use Rattle.lower_ready.proofs.OnceUses.{EachUsesWell}
use Rattle.lower_ready.proofs.References.{made_once}

and_right : (a b : Bool) → (a && b) ≡ true → b ≡ true
and_right true b e = e
and_right false b e = absurd (false≢true e)

-- what a reference of a type names is there, so it is one
referent_ref : (unique : Bool) (o : Option Ty) (r : TyId) → referent unique o ≡ Some r →
    is_some (option_and_then types.reference_in o) ≡ true
referent_ref unique (Some (Ty.Shared to)) r e = refl
referent_ref unique (Some (Ty.Unique to)) r e = refl
referent_ref false None r e = absurd (none-some r e)
referent_ref true None r e = absurd (none-some r e)
referent_ref false (Some ty) r e = absurd (none-some r e)
referent_ref true (Some ty) r e = absurd (none-some r e)

found_if : {A : Type 0} (test : A → Bool) (o : Option A) → option_map_or test o false ≡ true → (a : A) × (o ≡ Some a)
found_if test None h = absurd (false≢true h)
found_if test (Some a) h = (a, refl)

module _ (p : ProgramTree) (w : WellTyped p) (low : IsLowerable p) (n : ℕ) (tree : BodyTree)
    (there : slice_get p.bodies n ≡ Some tree) where
  abbrev pub body : Body
  body = body_of p.items tree

  -- ---- the local in which a reference is made

  -- it is of a reference type
  pub record Made (local : ℕ) : Type 0 where
    pub entry : Entry
    pub is_there : slice_get (locals p.items tree) local ≡ Some entry
    pub is_ref : types.is_reference p.items entry.ty ≡ true

  mapped : (es : List Entry) (k : ℕ) (id : TyId) → slice_get (map (λ (e : Entry). e.ty) es) k ≡ Some id →
      (e : Entry) × ((slice_get es k ≡ Some e) × (e.ty ≡ id))
  mapped es k id h = by (slice_get es k) refl (sym (slice_get-map (λ (e : Entry). e.ty) es k) ∙ h)
    where
      by : (o : Option Entry) → slice_get es k ≡ o → option_map (λ (e : Entry). e.ty) o ≡ Some id →
          (e : Entry) × ((slice_get es k ≡ Some e) × (e.ty ≡ id))
      by None s t = absurd (none-some id t)
      by (Some e) s t = (e, (s, same_Some e.ty id t))

  made_local : (local : ℕ) (place : Place) → named_by local (references_made body) ≡ Some place → Made local
  made_local local place e = of_ty (ty_of_place p.items body.locals m.to) refl named_ref
    where
      m : MakingBorrow body local place
      m = made_by body local place e

      typed : stmt_is_typed p.items body.locals (Stmt.Borrow m.to m.unique m.of) ≡ true
      typed = broken-holds (stmt_tests p.items (Rattle.std.proofs.Common.length p.bodies) body
          (Stmt.Borrow m.to m.unique m.of))
          ((no_line_has_a_fault p w low n tree there m.n m.block m.there).0 m.k (Stmt.Borrow m.to m.unique m.of) m.here)
          2 (3, stmt_is_typed p.items body.locals (Stmt.Borrow m.to m.unique m.of)) refl

      named_ref : is_some (option_and_then types.reference_in (ty_of_place p.items body.locals m.to)) ≡ true
      named_ref =
          let t = and_right (places_have_types p.items body.locals (stored_by_stmt (Stmt.Borrow m.to m.unique m.of))
          (operands_of_stmt (Stmt.Borrow m.to m.unique m.of)) (places_of_stmt (Stmt.Borrow m.to m.unique m.of)))
          (stmt_has_types p.items body.locals (Stmt.Borrow m.to m.unique m.of)) typed in
          let i = found_if (λ id. option_map_or (same_id id) (referent m.unique (ty_of_place p.items body.locals m.to))
          false) (place_id p.items body.locals m.of) t in
          let r = found_if (same_id i.0) (referent m.unique (ty_of_place p.items body.locals m.to))
          (ap (λ o. option_map_or (λ id. option_map_or (same_id id)
          (referent m.unique (ty_of_place p.items body.locals m.to)) false) o false) (sym i.1) ∙ t) in
          referent_ref m.unique (ty_of_place p.items body.locals m.to) r.0 r.1

      -- the type of a whole local
      local_is : place_id p.items body.locals m.to ≡ local_ty p.items tree local
      local_is = ap (place_ty p.items (slice_get body.locals)) (whole_is local m.to m.is_whole)
          ∙ none_more (local_ty p.items tree local)
        where
          none_more : (o : Option TyId) → option_and_then (λ id. Some id) o ≡ o
          none_more None = refl
          none_more (Some id) = refl

      of_id : (o : Option TyId) → local_ty p.items tree local ≡ o →
          is_some (option_and_then types.reference_in (option_and_then (type_at p.items) o)) ≡ true → Made local
      of_id None s r = absurd (false≢true r)
      of_id (Some id) s r =
          let it = mapped (locals p.items tree) local id s in
          record {
            entry = it.0;
            is_there = it.1.0;
            is_ref = ap (types.is_reference p.items) it.1.1 ∙ r;
          }

      of_ty : (o : Option Ty) → ty_of_place p.items body.locals m.to ≡ o →
          is_some (option_and_then types.reference_in (ty_of_place p.items body.locals m.to)) ≡ true → Made local
      of_ty o s r = of_id (local_ty p.items tree local) refl
          (ap (λ z. is_some (option_and_then types.reference_in (option_and_then (type_at p.items) z))) (sym local_is) ∙ r)

  -- it is made once, and each line uses the local well
  uses_well : (local : ℕ) (place : Place) → named_by local (references_made body) ≡ Some place →
      (times_made p.items body local ≡ 1) × EachUsesWell local body
  uses_well local place e =
      let m = made_local local place e in
      made_once p w n tree there (no_local_has_a_fault p w low n tree there) local m.entry m.is_there m.is_ref
      (some_made body local place e)

  -- ---- so what it names stays
  module _ (none : broken_borrow p ≡ None) (local : ℕ) where
    abbrev InBlock : Node → Type 0
    InBlock m = NodeIn (nodes_of tree.block) m

    abbrev Of : KnownOf
    Of = in_block p.items tree InBlock

    facts : (place : Place) → named_by local (references_made body) ≡ Some place →
        saying.CallFacts p.items tree body local place Of
    facts place e =
        let m = made_local local place e in
        let slot : local_ty p.items tree local ≡ Some m.entry.ty = slice_get-map (λ (x : Entry). x.ty)
        (locals p.items tree) local ∙ ap (option_map (λ (x : Entry). x.ty)) m.is_there in
        record {
          borrows = λ x first ty i typed at. argument_borrows p w n tree there local m.entry.ty slot m.is_ref x first ty i
              typed at;
          callees = λ x id ty callee value args i typed. callee_elsewhere p w n tree there local m.entry.ty slot m.is_ref x
              id ty callee value args i typed;
        }

    pub stays : (path : List ℕ) (given : List Bool) → IsPath p.items body path given →
        keeps_named body (actions_on body path) local ≡ true
    stays path given is = by (named_by local (references_made body)) refl
      where
        by : (o : Option Place) → named_by local (references_made body) ≡ o →
            keeps_named body (actions_on body path) local ≡ true
        by None e = stays_unmade body local e (actions_on body path)
        by (Some place) e =
            source.named_stays p w low n tree there local place
            (only_passed body local place (made_by_one body uses_well local place e))
            (block_within p w none n tree there InBlock (λ m i. i) (passing.Says p.items tree body local place)
            (saying.says p.items tree body local place Of (facts place e))) path given is
