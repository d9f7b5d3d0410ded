-- Of calls it is left to show each where those of nodes behind it are in order: their numbers are higher, and there are
-- but so many.
use Rattle.std.proofs.Common.{◌≡◌, inl, inr, ℕ, zero, suc, ◌+◌, ◌<◌, ◌≤◌, List, [], ◌∷◌, Some, refl, ap, arith}
use Rattle.std.specs.Prelude.{slice_get}
use Rattle.store_model.specs.Effects.{EffectSite, Operand, Action}
use Rattle.typed_tree.specs.Nodes.{number_of, nodes_of}
use Rattle.typed_tree.specs.Tree.{Node, node, Form, Nodes, BodyTree, ProgramTree}
use Rattle.src_meaning.specs.Forms.{LoopsAndGuards}
use Rattle.soundness_values.specs.Laws.{IsSound}
use Rattle.soundness_frame.proofs.PassWithin.{Outer, passing, KeysAround}
use Rattle.soundness.proofs.PassAloneLeaves.{LeftAbove}
use Rattle.soundness.proofs.PassAloneLeft.{CallLeft, block_rises, alone_by_left}
use Rattle.soundness.proofs.PassAloneRun.{Stands}
use Rattle.soundness.proofs.PassCallsAlone.{AloneHolds}
use Rattle.soundness_cells.proofs.PassCells.{NodeIn}
use Rattle.soundness_frame.proofs.PassFrameHeads.{Calls}

-- a number above those of some nodes
abbrev top : List Node → ℕ
top [] = 0
top (n ∷ ns) = suc (number_of n) + top ns

pub below_top : (ns : List Node) (m : Node) → NodeIn ns m → number_of m < top ns
below_top [] m i = absurd i
below_top (n ∷ ns) m (inl same) =
    let e : number_of n ≡ number_of m = ap number_of same in
    let less : number_of m < suc (number_of n) + top ns = omega (e, arith) in less
below_top (n ∷ ns) m (inr i) =
    let later : number_of m < top ns = below_top ns m i in
    let less : number_of m < suc (number_of n) + top ns = omega (later, arith) in less

module _ (p : ProgramTree) (sound : IsSound p) where
  -- one call, where those with higher numbers are in order
  abbrev pub CallSteps : Type 0
  CallSteps = (n fuel : ℕ) (b : BodyTree) (e : slice_get p.bodies n ≡ Some b) (form : Form) (ns : Nodes)
      (action : EffectSite → List Operand → Action) → Calls form ns action → (id : ℕ) (around : LoopsAndGuards)
      (loops : Outer) → Stands p b around.aliases loops id form → KeysAround around (passing id loops) → LeftAbove p
      sound n fuel b e id →
      CallLeft p sound n fuel b (block_rises p sound n b e) form ns around

  module _ (steps : CallSteps) (n fuel : ℕ) (b : BodyTree) (e : slice_get p.bodies n ≡ Some b) where
    abbrev pub end : ℕ
    end = top (nodes_of b.block)

    below_end : (form : Form) (id : ℕ) (around : LoopsAndGuards) (loops : Outer) →
        Stands p b around.aliases loops id form → id < end
    below_end form id around loops s = below_top (nodes_of b.block) (node id s.at s.ty s.by form)
        (s.here.all (node id s.at s.ty s.by form) (inl refl))

    pub left_above : (k least : ℕ) → end ≤ least + k → LeftAbove p sound n fuel b e least
    left_above zero least h form ns action c id around loops s a =
        let high : least < id = s.1 in
        let low : id < end = below_end form id around loops s.0 in
        absurd (let never : ⊥ = omega (h, high, low, arith) in never)
    left_above (suc k) least h form ns action c id around loops s a =
        let high : least < id = s.1 in
        let more : end ≤ id + k = omega (h, high, arith) in
        steps n fuel b e form ns action c id around loops s.0 a (left_above k id more)

    all_left : (form : Form) (ns : Nodes) (action : EffectSite → List Operand → Action) → Calls form ns action →
        (id : ℕ) (around : LoopsAndGuards) (loops : Outer) → Stands p b around.aliases loops id form →
        KeysAround around (passing id loops) → CallLeft p sound n fuel b (block_rises p sound n b e) form ns around
    all_left form ns action c id around loops s a =
        let enough : end ≤ id + end = omega arith in
        steps n fuel b e form ns action c id around loops s a (left_above end id enough)

  -- so no run fails by a call
  pub alone_by_steps : CallSteps → AloneHolds p sound
  alone_by_steps steps = alone_by_left p sound
      (λ n fuel b e form ns action c id around loops s a. all_left steps n fuel b e form ns action c id around loops
      s a)
