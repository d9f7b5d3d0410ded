-- The half on calls holds: no run of a body of a sound program fails by a call, by a borrow, or by a test of protected
-- parameters, while all else holds. Of each call is shown what it asks, where the calls behind it are in order.
use Rattle.std.proofs.Common.{◌≡◌, inl, inr, ℕ, ◌+◌, ◌<◌, ◌≤◌, List, ◌++◌, Some, refl, ap, subst, arith}
use Rattle.std.specs.Prelude.{slice_get}
use Rattle.store_model.specs.Effects.{EffectSite, Operand, Action}
use Rattle.typed_tree.specs.Nodes.{number_of, nodes_of, nodes_in, nodes_among, param_nodes}
use Rattle.typed_tree.specs.Tree.{Node, node, Form, Nodes, BodyTree, ProgramTree}
use Rattle.src_meaning.specs.Forms.{LoopsAndGuards}
use Rattle.well_typed.specs.Places.{form_of}
use Rattle.soundness_values.specs.Laws.{IsSound}
use Rattle.soundness.proofs.PassAloneGiven.{given_params, given_here, given_distinct, given_off, given_together, given_apart}
use Rattle.soundness.proofs.PassAloneLeaves.{LeftAbove}
use Rattle.soundness.proofs.PassAloneLeft.{CallLeft, block_rises, nodes_so}
use Rattle.soundness.proofs.PassAloneOuter.{given_leave}
use Rattle.soundness.proofs.PassAloneRun.{Stands}
use Rattle.soundness.proofs.PassAloneSteps.{CallSteps, end, left_above, alone_by_steps}
use Rattle.soundness.proofs.PassAloneSuits.{all_fit, all_suit}
use Rattle.soundness.proofs.PassCallsAlone as alone
use Rattle.soundness.proofs.PassCallsAlone.{calls_by_alone}
use Rattle.soundness_cells.proofs.PassCells.{Above, NodeIn, above_in, rising}
use Rattle.soundness_cells.proofs.PassFirst.{body_at}
use Rattle.soundness_frame.proofs.PassFrameHeads.{Calls}
use Rattle.soundness_cells.proofs.PassRestSplit.{CallsHold}
use Rattle.soundness_frame.proofs.PassToldPlaces.{Rises}
use Rattle.soundness_frame.proofs.PassWithin.{Outer, passing, KeysAround}

-- a node with a number above that of another is not the first of all
inside_of : (whole call m : Node) → Rises (nodes_of whole) → NodeIn (nodes_of whole) call → NodeIn (nodes_of whole) m →
    number_of call < number_of m → NodeIn (nodes_in (form_of whole)) m
inside_of (node id at ty by form) call m r c (inr i) less = i
inside_of (node id at ty by form) call m r (inl d) (inl e) less =
    let high : number_of call < number_of m = less in
    let first : id ≡ number_of call = ap number_of d in
    let second : id ≡ number_of m = ap number_of e in
    let never : ⊥ = omega (high, first, second, arith) in absurd never
inside_of (node id at ty by form) call m r (inr j) (inl e) less =
    let high : number_of call < number_of m = less in
    let above : id < number_of call = above_in id (nodes_in form) call (rising (node id at ty by form)
    (nodes_in form) r).0 j in
    let second : id ≡ number_of m = ap number_of e in
    let never : ⊥ = omega (high, above, second, arith) in absurd never

module _ (p : ProgramTree) (sound : IsSound p) where
  all_rise : (n : ℕ) (b : BodyTree) → slice_get p.bodies n ≡ Some b → Rises (param_nodes b.params ++ nodes_of b.block)
  all_rise n b e = (body_at p.items 0 p.items.bodies p.bodies sound.typed.1 n b e).1.1.1.1.1.0

  module _ (n fuel : ℕ) (b : BodyTree) (at : slice_get p.bodies n ≡ Some b)
      (form : Form) (ns : Nodes) (action : EffectSite → List Operand → Action) (c : Calls form ns action) (id : ℕ)
      (around : LoopsAndGuards) (loops : Outer) (stands : Stands p b around.aliases loops id form) where
    call : Node
    call = node id stands.at stands.ty stands.by form

    above : Above id (nodes_among ns)
    above = subst (Above id) (nodes_so form ns action c)
        (rising (node id stands.at stands.ty stands.by form) (nodes_in form) stands.here.rises).0

    inside : (m : Node) → NodeIn (nodes_among ns) m → NodeIn (nodes_in (form_of b.block)) m
    inside m i = inside_of b.block (node id stands.at stands.ty stands.by form) m (block_rises p sound n b at)
        (stands.here.all (node id stands.at stands.ty stands.by form) (inl refl))
        ((given_here p sound n fuel b at form ns action c around.aliases loops id stands).all m i)
        (above_in id (nodes_among ns) m above i)

    -- what a call asks
    call_left : KeysAround around (passing id loops) → LeftAbove p sound n fuel b at id →
        CallLeft p sound n fuel b (block_rises p sound n b at) form ns around
    call_left keys left =
        let params = given_params p sound n fuel b at form ns action c around.aliases loops id stands in
        let standing = given_here p sound n fuel b at form ns action c around.aliases loops id stands in
        let together = given_together p sound n fuel b at form ns action c around.aliases loops id stands in
        record {
          ids = params.ids;
          params = params.params;
          suit = record {
            distinct = given_distinct p sound n fuel b at form ns action c around.aliases loops id stands;
            off = given_off p sound n fuel b at form ns action c around.aliases loops id stands;
            suit = all_suit p.items b (alone.also p sound n) fuel (all_rise n b at) stands.aliases around.aliases
                stands.x ns params.ids together.args together.argued inside standing params.typed together.told;
            apart = given_apart p sound n fuel b at form ns action c around.aliases loops id stands;
          };
          fit = all_fit p.items b (alone.also p sound n) fuel (all_rise n b at) stands.aliases around.aliases
              stands.x ns
              params.ids inside standing params.typed;
          leave = given_leave p sound n fuel b at form ns action c around loops id stands keys left;
        }

  pub all_steps : CallSteps p sound
  all_steps n fuel b at form ns action c id around loops stands keys left =
      call_left n fuel b at form ns action c id around loops stands keys left

  -- so all are
  pub all_above : (n fuel : ℕ) (b : BodyTree) (at : slice_get p.bodies n ≡ Some b) (least : ℕ) →
      LeftAbove p sound n fuel b at least
  all_above n fuel b at least =
      let enough : end p sound all_steps n fuel b at ≤ least + end p sound all_steps n fuel b at = omega arith in
      left_above p sound all_steps n fuel b at (end p sound all_steps n fuel b at) least enough

  -- so the half on calls holds
  pub calls_hold : CallsHold p sound.typed (alone.also p sound)
  calls_hold = calls_by_alone p sound (alone_by_steps p sound all_steps)
