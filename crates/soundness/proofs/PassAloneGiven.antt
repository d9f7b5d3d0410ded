-- What is given of each node that calls: the parameters, that the locals of the arguments differ, and that none is in
-- what another names.
use Rattle.std.proofs.Common.{◌≡◌, ◌&&◌, not, true, false, ℕ, List, [], ◌∷◌, Option, Some, None, is_none, is_some, if◌then◌else◌, refl, sym, subst}
use Rattle.std.specs.Prelude.{slice_get, option_and_then}
use Rattle.std.specs.Cmp.{second_so}
use Rattle.std.proofs.lemmas.Bool.{false≢true}
use Rattle.mir_ty.specs.declared.ty.Ty.{Ty}
use Rattle.mir_ty.specs.declared.ty.TyId.{TyId}
use Rattle.mir_ty.specs.ItemTable.{type_at}
use Rattle.store_model.specs.Places.Place.{is_reference}
use Rattle.typed_tree.specs.Tree as tree
use Rattle.well_typed.specs.Claim.{Holds, fact, both}
use Rattle.well_typed.specs.Nodes as typing
use Rattle.well_typed.specs.Places.{Passed, form_of, is_borrow, is_taken}
use Rattle.well_typed.specs.Types as types
use Rattle.store_model.specs.Effects.{EffectSite, Operand, Action}
use Rattle.typed_tree.specs.Nodes.{nodes_of, nodes_in, nodes_among}
use Rattle.typed_tree.specs.Tree.{Node, node, Form, Nodes, BodyTree, ProgramTree}
use Rattle.soundness_values.proofs.Checks as checks
use Rattle.soundness_frame.proofs.PassWithin.{Outer}
use Rattle.soundness.proofs.PassAlonePassed.{Together, passed_together}
use Rattle.soundness.proofs.PassAloneTogether.{all_apart}
use Rattle.soundness.proofs.PassClosurePlain.{closure_plain}
use Rattle.soundness_cells.proofs.PassFacts.{Standpoint, context}
use Rattle.soundness_values.proofs.PlaceTypes.{some_holds}
use Rattle.src_meaning.specs.Locals.OfBody.{local_ty}
use Rattle.src_meaning.specs.Shape as shapes
use Rattle.soundness_values.specs.Laws.{IsSound}
use Rattle.soundness_values.proofs.CheckedBodies.{is_reference_param}
use Rattle.soundness.proofs.PassAloneArgs.{locals_of, names_of}
use Rattle.soundness.proofs.PassAloneBrings.{args_of}
use Rattle.soundness.proofs.PassAloneLeft.{block_rises, same_locals, nodes_so}
use Rattle.soundness.proofs.PassAloneOff.{all_off}
use Rattle.soundness.proofs.PassAloneRun.{Of, Stands}
use Rattle.soundness.proofs.PassAloneSuit.{distinct}
use Rattle.soundness.proofs.PassAloneTyped.{Typed, typed_call}
use Rattle.soundness_frame.proofs.PassArgsLeft.{Distinct, AllOff, named_of}
use Rattle.soundness.proofs.PassCallsAlone as alone
use Rattle.soundness_frame.proofs.PassFrameBodies.{any_place}
use Rattle.soundness_frame.proofs.PassFrameHeads.{Calls}
use Rattle.soundness_cells.proofs.PassRest.{own_local}
use Rattle.soundness_frame.proofs.PassTold.{Here, here_in}
use Rattle.soundness_frame.proofs.PassToldPlaces.{Rises}

module _ (p : ProgramTree) (sound : IsSound p) (n fuel : ℕ) (b : BodyTree) (at : slice_get p.bodies n ≡ Some b)
    (form : Form) (ns : Nodes) (action : EffectSite → List Operand → Action) (c : Calls form ns action)
    (places : shapes.Aliases) (loops : Outer) (id : ℕ) (stands : Stands p b places loops id form) where
  abbrev rise : Rises (nodes_of b.block)
  rise = block_rises p sound n b at

  pub given_params : Typed p.items b stands.x form ns
  given_params = typed_call p.items b stands.x id stands.ty form ns action c stands.typed

  -- what stands around the arguments
  pub given_here : Here p.items any_place (Of p b) stands.aliases places stands.x (nodes_among ns)
  given_here = subst (Here p.items any_place (Of p b) stands.aliases places stands.x) (nodes_so form ns action c)
      (here_in p.items any_place (Of p b) stands.aliases places stands.x (node id stands.at stands.ty stands.by form)
      (nodes_in form) stands.here)

  pub given_distinct : Distinct p.items (local_ty p.items b) (is_reference_param p.items b) (own_local p.items b)
      (locals_of (args_of p.items b (alone.also p sound n) fuel rise places ns))
  given_distinct = subst (Distinct p.items (local_ty p.items b) (is_reference_param p.items b) (own_local p.items b))
      (sym (same_locals p sound b (alone.also p sound n) fuel rise places ns)) (distinct p.items b ns given_here.rises)

  pub given_off : AllOff p.items (local_ty p.items b) (is_reference_param p.items b) (own_local p.items b)
      (locals_of (args_of p.items b (alone.also p sound n) fuel rise places ns))
      (names_of (args_of p.items b (alone.also p sound n) fuel rise places ns))
  given_off = subst (λ l. AllOff p.items (local_ty p.items b) (is_reference_param p.items b) (own_local p.items b) l
      (names_of (args_of p.items b (alone.also p sound n) fuel rise places ns)))
      (sym (same_locals p sound b (alone.also p sound n) fuel rise places ns))
      (all_off p b (alone.also p sound n) fuel rise stands.aliases places stands.x ns given_params.ids given_here
      given_params.typed)

  -- the callee of a closure is no reference
  plain_callee : (standing_ty : TyId) (x : Standpoint) (callee : Node) → is_reference (type_at p.items standing_ty) ≡
      false →
      Holds (typing.typed (context p.items x) (Passed standing_ty) callee) → is_borrow (form_of callee) ≡ false
  plain_callee want x (node key pos ty use_of value) r h = by_type (type_at p.items want) refl r h.0
    where
      taken : (form : Form) → Holds (is_taken (context p.items x) ty use_of form) → is_borrow form ≡ false
      taken (tree.Borrow unique base) h = absurd (false≢true (second_so (is_none use_of) false h))
      taken form h = refl

      by_type : (o : Option Ty) → type_at p.items want ≡ o → is_reference o ≡ false →
          Holds (if is_some (option_and_then types.reference_in o) && not (types.is_never p.items ty) then
          fact (is_borrow value && is_none use_of && types.is_same ty want)
          else both (is_taken (context p.items x) ty use_of value) (fact (types.fits p.items want ty))) →
          is_borrow value ≡ false
      by_type None e r h = taken value h.0
      by_type (Some (Ty.Shared to)) e r h = absurd (false≢true (sym r))
      by_type (Some (Ty.Unique to)) e r h = absurd (false≢true (sym r))
      by_type (Some t) e r h = taken value h.0

  no_callee : (callee : ℕ) (value : Node) (args : Nodes) → form ≡ tree.ClosureCall callee value args →
      is_borrow (form_of value) ≡ false
  no_callee callee value args e =
      let h = subst (λ f. Holds (typing.row (context p.items stands.x) id stands.ty f)) e stands.typed in
      let t = some_holds (slice_get p.items.bodies callee) (λ sig. both (fact (types.is_same stands.ty sig.result))
      (typing.first_and_rest (λ t. typing.typed (context p.items stands.x) (Passed t) value)
      (λ ts. typing.arguments (context p.items stands.x) ts args) sig.params)) h.0 in
      of_params t.0.params (closure_plain p sound.typed callee t.0 t.1.0 h.1) t.1.1.1
    where
      of_params : (tys : List TyId) → ((k : TyId) (j : ℕ) → slice_get tys j ≡ Some k →
          is_reference (type_at p.items k) ≡ false) →
          Holds (typing.first_and_rest (λ t. typing.typed (context p.items stands.x) (Passed t) value)
          (λ ts. typing.arguments (context p.items stands.x) ts args) tys) → is_borrow (form_of value) ≡ false
      of_params [] f h = absurd (false≢true h)
      of_params (t ∷ tys) f h = plain_callee t stands.x value (f t 0 refl) h.0

  -- the arguments as the rule of borrows compares them
  pub given_together : Together p.items any_place (Of p b) stands.aliases ns
  given_together = passed_together p.items any_place (Of p b) stands.aliases form ns action c stands.at no_callee
      stands.told

  -- what they name lies apart
  pub given_apart : checks.all_apart p.items (local_ty p.items b) (is_reference_param p.items b)
      (named_of p.items (local_ty p.items b) (is_reference_param p.items b) (own_local p.items b)
      (names_of (args_of p.items b (alone.also p sound n) fuel rise places ns))) ≡ true
  given_apart = all_apart p.items any_place (Of p b) stands.aliases places stands.x b (alone.also p sound n) fuel
      rise ns
      given_params.ids given_together.args given_together.argued given_here given_params.typed given_together.told
      given_together.free
