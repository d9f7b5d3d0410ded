-- The parameters of a node that calls, and that its arguments are well typed for them.
use Rattle.std.proofs.Common.{◌≡◌, ℕ, List, [], ◌∷◌, Some, None, refl, ap, ◌∙◌}
use Rattle.std.specs.Prelude.{slice_get, option_and_then}
use Rattle.std.specs.Option.{option_map_or}
use Rattle.std.proofs.lemmas.Bool.{false≢true}
use Rattle.mir_ty.specs.declared.def.Sig.{Sig}
use Rattle.mir_ty.specs.declared.def.TraitDef.{TraitDef}
use Rattle.mir_ty.specs.declared.ty.TyId.{TyId}
use Rattle.mir_ty.specs.ItemTable.{ItemTable}
use Rattle.store_model.specs.Effects.{EffectSite, Operand, Action}
use Rattle.typed_tree.specs.Tree.{Node, Form, Nodes, a_node, BodyTree}
use Rattle.src_meaning.specs.Locals.OfBody.{local_ty}
use Rattle.well_typed.specs.Claim.{Holds, fact, both, some}
use Rattle.well_typed.specs.Nodes as typing
use Rattle.well_typed.specs.Places.{Context, Passed}
use Rattle.well_typed.specs.Types as types
use Rattle.soundness_values.proofs.CheckedBodies.{is_reference_param}
use Rattle.soundness_values.proofs.Checks.{head_of}
use Rattle.soundness.proofs.PassAloneArgs.{ParamsOf}
use Rattle.soundness_cells.proofs.PassFacts.{Standpoint, context}
use Rattle.soundness_frame.proofs.PassFrameHeads.{Calls, a_call, a_method, a_virtual, a_closure}
use Rattle.soundness_values.proofs.PlaceTypes.{some_holds}

module _ (items : ItemTable) (body : BodyTree) where
  abbrev K : Standpoint → Context
  K = context items

  one_and_more : (x : Standpoint) (receiver : Node) (args : Nodes) (ids : List TyId) →
      Holds (typing.first_and_rest (λ t. typing.typed (K x) (Passed t) receiver) (λ ts. typing.arguments (K x) ts args)
      ids) → Holds (typing.arguments (K x) ids (a_node receiver args))
  one_and_more x receiver args [] h = absurd (false≢true h)
  one_and_more x receiver args (id ∷ ids) h = h

  pub record Typed (x : Standpoint) (form : Form) (ns : Nodes) : Type 0 where
    pub ids : List TyId
    pub params : ParamsOf items body form ids
    pub typed : Holds (typing.arguments (K x) ids ns)

  pub typed_call : (x : Standpoint) (id : ℕ) (ty : TyId) (form : Form) (ns : Nodes)
      (action : EffectSite → List Operand → Action) → Calls form ns action → Holds (typing.row (K x) id ty form) →
      Typed x form ns
  typed_call x id ty _ _ _ (a_call callee args) h =
      let t = some_holds (slice_get items.bodies callee)
      (λ sig. both (fact (types.is_same ty sig.result)) (typing.arguments (K x) sig.params args)) h.0 in
      record { ids = t.0.params; params = (t.0, (t.1.0, refl)); typed = t.1.1.1 }
  typed_call x id ty _ _ _ (a_method callee receiver args) h =
      let t = some_holds (slice_get items.bodies callee) (λ sig. both (fact (types.is_same ty sig.result))
      (typing.first_and_rest (λ t. typing.typed (K x) (Passed t) receiver) (λ ts. typing.arguments (K x) ts args)
      sig.params)) h.0 in
      record {
        ids = t.0.params;
        params = (t.0, (t.1.0, refl));
        typed = one_and_more x receiver args t.0.params t.1.1.1;
      }
  typed_call x id ty _ _ _ (a_closure callee value args) h =
      let t = some_holds (slice_get items.bodies callee) (λ sig. both (fact (types.is_same ty sig.result))
      (typing.first_and_rest (λ t. typing.typed (K x) (Passed t) value) (λ ts. typing.arguments (K x) ts args)
      sig.params)) h.0 in
      record {
        ids = t.0.params;
        params = (t.0, (t.1.0, refl));
        typed = one_and_more x value args t.0.params t.1.1.1;
      }
  typed_call x id ty _ _ _ (a_virtual trait_no method receiver args) h =
      let d = some_holds (slice_get items.traits trait_no) (λ def. some (slice_get def.methods method)
      (λ sig. both (fact (types.is_same ty sig.result))
      (typing.first_and_rest (λ t. typing.typed (K x) (Passed t) receiver) (λ ts. typing.arguments (K x) ts args)
      sig.params))) h in
      let s = some_holds (slice_get d.0.methods method) (λ sig. both (fact (types.is_same ty sig.result))
      (typing.first_and_rest (λ t. typing.typed (K x) (Passed t) receiver) (λ ts. typing.arguments (K x) ts args)
      sig.params)) d.1.1 in
      record {
        ids = s.0.params;
        params = ((s.0.params, s.0.result), (head_so d.0 s.0 d.1.0 s.1.0, refl));
        typed = one_and_more x receiver args s.0.params s.1.1.1;
      }
    where
      head_so : (def : TraitDef) (sig : Sig) →
          slice_get items.traits trait_no ≡ Some def → slice_get def.methods method ≡ Some sig →
          head_of items (local_ty items body) (is_reference_param items body) trait_no method
          ≡ Some (sig.params, sig.result)
      head_so def sig e k = ap (option_and_then (λ (d : TraitDef).
          option_map_or (λ (s : Sig). Some (s.params, s.result)) (slice_get d.methods method) None)) e
          ∙ ap (λ o. option_map_or (λ (s : Sig). Some (s.params, s.result)) o None) k
