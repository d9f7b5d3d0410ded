-- What is left of calls: that each argument leaves what earlier ones name, and that what the arguments name suits the
-- parameters and lies apart, which the text tells.
use Rattle.std.proofs.Common.{◌≡◌, ℕ, List, [], ◌∷◌, Some, refl, ap, ◌∙◌}
use Rattle.std.specs.Prelude.{slice_get}
use Rattle.mir_ty.specs.declared.ty.TyId.{TyId}
use Rattle.store_model.specs.Effects.{EffectSite, Operand, Action}
use Rattle.typed_tree.specs.Nodes.{nodes_of, nodes_in, nodes_among, param_nodes}
use Rattle.typed_tree.specs.Tree as tree
use Rattle.typed_tree.specs.Tree.{node, Form, Nodes, no_node, a_node, BodyTree, ProgramTree}
use Rattle.src_meaning.specs.Forms.{LoopsAndGuards}
use Rattle.src_meaning.specs.Locals.OfBody.{local_of}
use Rattle.src_meaning.specs.Shape as shapes
use Rattle.soundness_values.specs.Laws.{IsSound}
use Rattle.soundness_values.proofs.AlsoTests.{Also}
use Rattle.soundness_frame.proofs.PassWithin.{Outer, passing, KeysAround}
use Rattle.soundness.proofs.PassAloneArgs.{ParamsOf, ArgsSuit, locals_of, locals_in, AllArgs, calls_by_args}
use Rattle.soundness.proofs.PassAloneBrings.{named_form, args_of, AllFit, AllLeave, all_ends}
use Rattle.soundness.proofs.PassAloneRun.{I, Does_, Drops, keeps, Stands, alone_by_calls}
use Rattle.soundness.proofs.PassCallsAlone as alone
use Rattle.soundness.proofs.PassCallsAlone.{AloneHolds}
use Rattle.soundness_cells.proofs.PassFirst.{body_at}
use Rattle.soundness_frame.proofs.PassFrameBodies.{any_place}
use Rattle.soundness_frame.proofs.PassFrameHeads.{Calls, a_call, a_method, a_virtual, a_closure}
use Rattle.soundness_cells.proofs.PassRefilled.{not_mark}
use Rattle.soundness_frame.proofs.PassToldPlaces.{Rises, rises_right}

-- the arguments are the nodes inside
pub nodes_so : (form : Form) (ns : Nodes) (action : EffectSite → List Operand → Action) → Calls form ns action →
    nodes_in form ≡ nodes_among ns
nodes_so _ _ _ (a_call callee args) = refl
nodes_so _ _ _ (a_method callee receiver args) = refl
nodes_so _ _ _ (a_virtual trait_no method receiver args) = refl
nodes_so _ _ _ (a_closure callee value args) = refl

module _ (p : ProgramTree) (sound : IsSound p) where
  pub block_rises : (n : ℕ) (b : BodyTree) → slice_get p.bodies n ≡ Some b → Rises (nodes_of b.block)
  block_rises n b e =
      let f = body_at p.items 0 p.items.bodies p.bodies sound.typed.1 n b e in
      rises_right (param_nodes b.params) (nodes_of b.block) f.1.1.1.1.1.0

  form_local : (b : BodyTree) (also : Also) (fuel : ℕ) (rise : Rises (nodes_of b.block)) (places : shapes.Aliases)
      (id : ℕ) (form : Form) → (named_form p.items b also fuel rise places id form).0 ≡ local_of p.items b id
  form_local b also fuel rise places id (tree.Borrow unique base) = refl
  form_local b also fuel rise places id form = refl

  pub same_locals : (b : BodyTree) (also : Also) (fuel : ℕ) (rise : Rises (nodes_of b.block)) (places : shapes.Aliases)
      (ns : Nodes) → locals_of (args_of p.items b also fuel rise places ns) ≡ locals_in p.items b ns
  same_locals b also fuel rise places no_node = refl
  same_locals b also fuel rise places (a_node (node id at ty by form) rest) =
      ap (λ l. l ∷ locals_of (args_of p.items b also fuel rise places rest))
      (form_local b also fuel rise places id form)
      ∙ ap (λ l. local_of p.items b id ∷ l) (same_locals b also fuel rise places rest)

  -- of a node that calls
  pub record CallLeft (n fuel : ℕ) (b : BodyTree) (rise : Rises (nodes_of b.block)) (form : Form) (ns : Nodes)
      (around : LoopsAndGuards) : Type 0 where
    pub ids : List TyId
    pub params : ParamsOf p.items b form ids
    pub suit : ArgsSuit p.items b ids (args_of p.items b (alone.also p sound n) fuel rise around.aliases ns)
    pub fit : AllFit p.items b (alone.also p sound n) fuel rise ns
    pub leave : AllLeave p.items b (alone.also p sound n) fuel rise around [] ns

  abbrev pub CallsLeft : Type 0
  CallsLeft = (n fuel : ℕ) (b : BodyTree) (e : slice_get p.bodies n ≡ Some b) (form : Form) (ns : Nodes)
      (action : EffectSite → List Operand → Action) → Calls form ns action → (id : ℕ) (around : LoopsAndGuards)
      (loops : Outer) →
      Stands p b around.aliases loops id form → KeysAround around (passing id loops) →
      CallLeft n fuel b (block_rises n b e) form ns around

  args_by_left : CallsLeft → AllArgs p sound
  args_by_left left n fuel b e form ns action c id around loops a w says ev =
      let k = left n fuel b e form ns action c id around loops says a.1 in
      let rise = block_rises n b e in
      let also = alone.also p sound n in
      record {
        args = args_of p.items b also fuel rise around.aliases ns;
        ids = k.ids;
        params = k.params;
        locals = same_locals b also fuel rise around.aliases ns;
        suit = k.suit;
        ends = all_ends p.items b also fuel rise (not_mark 8) (Does_ p.items b also) (Drops p.items b also) any_place
            any_place any_place
            (I p.items b also) (keeps p.items b also) (λ v i. i) ns around [] ev k.fit k.leave;
      }

  -- that is all that is left of the half on calls
  pub alone_by_left : CallsLeft → AloneHolds p sound
  alone_by_left left = alone_by_calls p sound (calls_by_args p sound (args_by_left left))
