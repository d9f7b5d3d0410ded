-- The nodes of a form of several parts, whose nodes are seen through their boxes.
use Rattle.std.proofs.Common.{◌≡◌, ◌++◌, ◌∙◌, List, Option, refl, ap, sym, map}
use Rattle.std.specs.Prelude.{Box}
use Rattle.std.specs.declared.alloc.Global.{Global}
use Rattle.typed_tree.specs.declared.node.Form.{Form, Arm, Block, If, IfLet, Let, WhileLet}
use Rattle.typed_tree.specs.declared.node.Node.{Node}
use Rattle.typed_tree.specs.Nodes.{nodes_of, nodes_in, nodes_among, nodes_if_any}
use Rattle.typed_tree.specs.Tree as tree
use Rattle.typed_tree.specs.View.{tree_of, form_of, maybe_of, nodes_from}
use Rattle.typed_tree.specs.Branches.{nodes_in_branches}
use Rattle.typed_tree.proofs.Following.{two_behind}
use Rattle.typed_tree.proofs.PlainForms.{arm_seen, block_seen, if_let_seen, if_seen, let_seen, while_let_seen}

module _ (form : Form) (old first : List tree.Node) where
  -- a form that is seen to be another
  found_of : (f : Form) (plain : tree.Form) (group : tree.Form → List tree.Node) (new all : List tree.Node) → form ≡ f → form_of f ≡ plain → group plain ≡ all →
      new ≡ old ++ all → new ≡ old ++ group (form_of form)
  found_of f plain group new all is seen parts found =
      found ∙ ap (λ (l : List tree.Node). old ++ l) (sym parts) ∙ ap (λ (t : tree.Form). old ++ group t) (sym seen) ∙ ap (λ (g : Form). old ++ group (form_of g)) (sym is)

  pub operands_found : (new : List tree.Node) (a b : Box Node Global) (x y : Node) → nodes_in (form_of form) ≡ nodes_of (tree_of a.value) ++ nodes_of (tree_of b.value) →
      x ≡ a.value → y ≡ b.value → first ≡ old ++ nodes_of (tree_of x) → new ≡ first ++ nodes_of (tree_of y) → new ≡ old ++ nodes_in (form_of form)
  operands_found new a b x y parts is_x is_y is_first is_new =
      two_behind old first new _ _ _ is_first (parts ∙ (λ i. nodes_of (tree_of (sym is_x i)) ++ nodes_of (tree_of (sym is_y i)))) is_new

  pub operand_and_nodes_found : (new : List tree.Node) (a : Box Node Global) (l slice : List Node) (x : Node) →
      nodes_in (form_of form) ≡ nodes_of (tree_of a.value) ++ nodes_among (nodes_from (map tree_of l)) →
      x ≡ a.value → slice ≡ l → first ≡ old ++ nodes_of (tree_of x) → new ≡ first ++ nodes_among (nodes_from (map tree_of slice)) → new ≡ old ++ nodes_in (form_of form)
  operand_and_nodes_found new a l slice x parts is_x is_l is_first is_new =
      two_behind old first new _ _ _ is_first (parts ∙ (λ i. nodes_of (tree_of (sym is_x i)) ++ nodes_among (nodes_from (map tree_of (sym is_l i))))) is_new

  pub block_found : (new : List tree.Node) (s slice : List Node) (t : Option (Box Node Global)) → form ≡ Block s t → slice ≡ s →
      first ≡ old ++ nodes_among (nodes_from (map tree_of slice)) → new ≡ first ++ nodes_if_any (maybe_of t) → new ≡ old ++ nodes_in (form_of form)
  block_found new s slice t is is_s is_first is_new =
      found_of (Block s t) _ nodes_in new _ is (block_seen s t) refl
      (two_behind old first new _ _ _ is_first (λ i. nodes_among (nodes_from (map tree_of (sym is_s i))) ++ nodes_if_any (maybe_of t)) is_new)

  pub let_found : (new : List tree.Node) (p : Box Node Global) (v : Option (Box Node Global)) (x : Node) → form ≡ Let p v → x ≡ p.value →
      first ≡ old ++ nodes_of (tree_of x) → new ≡ first ++ nodes_if_any (maybe_of v) → new ≡ old ++ nodes_in (form_of form)
  let_found new p v x is is_x is_first is_new =
      found_of (Let p v) _ nodes_in new _ is (let_seen p v) refl
      (two_behind old first new _ _ _ is_first (λ i. nodes_of (tree_of (sym is_x i)) ++ nodes_if_any (maybe_of v)) is_new)

  module _ (second : List tree.Node) where
    -- three parts, one behind the other
    three : (new a b d : List tree.Node) → first ≡ old ++ a → second ≡ first ++ b → new ≡ second ++ d → new ≡ old ++ (a ++ b ++ d)
    three new a b d is_first is_second is_new =
        two_behind old second new (a ++ b) d _ (two_behind old first second a b _ is_first refl is_second) refl is_new

    pub if_found : (new : List tree.Node) (c t : Box Node Global) (o : Option (Box Node Global)) (x y : Node) → form ≡ If c t o → x ≡ c.value → y ≡ t.value →
        first ≡ old ++ nodes_of (tree_of x) → second ≡ first ++ nodes_of (tree_of y) → new ≡ second ++ nodes_if_any (maybe_of o) → new ≡ old ++ nodes_in_branches (form_of form)
    if_found new c t o x y is is_x is_y is_first is_second is_new =
        found_of (If c t o) _ nodes_in_branches new _ is (if_seen c t o) (λ i. nodes_of (tree_of (sym is_x i)) ++ nodes_of (tree_of (sym is_y i)) ++ nodes_if_any (maybe_of o))
        (three new _ _ _ is_first is_second is_new)

    pub arm_found : (new : List tree.Node) (p : Box Node Global) (g : Option (Box Node Global)) (b : Box Node Global) (x y : Node) → form ≡ Arm p g b → x ≡ p.value → y ≡ b.value →
        first ≡ old ++ nodes_of (tree_of x) → second ≡ first ++ nodes_if_any (maybe_of g) → new ≡ second ++ nodes_of (tree_of y) → new ≡ old ++ nodes_in_branches (form_of form)
    arm_found new p g b x y is is_x is_y is_first is_second is_new =
        found_of (Arm p g b) _ nodes_in_branches new _ is (arm_seen p g b) (λ i. nodes_of (tree_of (sym is_x i)) ++ nodes_if_any (maybe_of g) ++ nodes_of (tree_of (sym is_y i)))
        (three new _ _ _ is_first is_second is_new)

    pub while_let_found : (new : List tree.Node) (p s b : Box Node Global) (x y z : Node) → form ≡ WhileLet p s b → x ≡ p.value → y ≡ s.value → z ≡ b.value →
        first ≡ old ++ nodes_of (tree_of x) → second ≡ first ++ nodes_of (tree_of y) → new ≡ second ++ nodes_of (tree_of z) → new ≡ old ++ nodes_in_branches (form_of form)
    while_let_found new p s b x y z is is_x is_y is_z is_first is_second is_new =
        found_of (WhileLet p s b) _ nodes_in_branches new _ is (while_let_seen p s b) (λ i. nodes_of (tree_of (sym is_x i)) ++ nodes_of (tree_of (sym is_y i)) ++ nodes_of (tree_of (sym is_z i)))
        (three new _ _ _ is_first is_second is_new)

    module _ (third : List tree.Node) where
      pub if_let_found : (new : List tree.Node) (p s t : Box Node Global) (o : Option (Box Node Global)) (x y z : Node) → form ≡ IfLet p s t o →
          x ≡ p.value → y ≡ s.value → z ≡ t.value → first ≡ old ++ nodes_of (tree_of x) → second ≡ first ++ nodes_of (tree_of y) → third ≡ second ++ nodes_of (tree_of z) →
          new ≡ third ++ nodes_if_any (maybe_of o) → new ≡ old ++ nodes_in_branches (form_of form)
      if_let_found new p s t o x y z is is_x is_y is_z is_first is_second is_third is_new =
          found_of (IfLet p s t o) _ nodes_in_branches new _ is (if_let_seen p s t o)
          (λ i. nodes_of (tree_of (sym is_x i)) ++ nodes_of (tree_of (sym is_y i)) ++ nodes_of (tree_of (sym is_z i)) ++ nodes_if_any (maybe_of o))
          (two_behind old third new _ _ _ (three third _ _ _ is_first is_second is_third) refl is_new)
