-- What is found among the parts of a form is found in the form.
use Rattle.std.proofs.Common.{◌≡◌, ◌∙◌, ℕ, List, ◌++◌, Option, ◌⊎◌, inl, inr, ap, sym, map}
use Rattle.mir_base.specs.declared.operator.Cmp.{Cmp}
use Rattle.mir_base.specs.declared.operator.Math.{Math}
use Rattle.std.specs.Borrow.{Bor}
use Rattle.std.specs.Option.{option_or}
use Rattle.std.specs.Prelude.{Box}
use Rattle.std.specs.declared.alloc.Global.{Global}
use Rattle.typed_tree.specs.Tree as plain
use Rattle.typed_tree.specs.Nodes.{nodes_of, nodes_in, nodes_among, nodes_if_any, first_with}
use Rattle.typed_tree.specs.View.{tree_of, form_of, maybe_of, nodes_from, tree_found}
use Rattle.typed_tree.specs.declared.node.Form.{Form, And, Arithmetic, Arm, Assign, Block, ClosureCall, Comparison, If, IfLet, Index, Let, Match, MethodCall, Or, VirtualCall, While, WhileLet}
use Rattle.typed_tree.specs.declared.node.Node.{Node}
use Rattle.typed_tree.proofs.PlainForms.{and_seen, arithmetic_seen, arm_seen, assign_seen, block_seen, closure_call_seen, comparison_seen, if_let_seen, if_seen, index_seen, let_seen, match_seen, method_call_seen, or_seen, virtual_call_seen, while_let_seen, while_seen}
use Rattle.typed_tree.proofs.SearchLemmas.{found_either}

-- two operands of a form, whichever form it is
module _ (a b : Box Node Global) where
  index_nodes : (n : ℕ) → nodes_in (form_of (Index a b n)) ≡ nodes_of (tree_of a.value) ++ nodes_of (tree_of b.value)
  index_nodes n = ap nodes_in (index_seen a b n)

  arithmetic_nodes : (op : Math) → nodes_in (form_of (Arithmetic op a b)) ≡ nodes_of (tree_of a.value) ++ nodes_of (tree_of b.value)
  arithmetic_nodes op = ap nodes_in (arithmetic_seen op a b)

  comparison_nodes : (op : Cmp) → nodes_in (form_of (Comparison op a b)) ≡ nodes_of (tree_of a.value) ++ nodes_of (tree_of b.value)
  comparison_nodes op = ap nodes_in (comparison_seen op a b)

  and_nodes : nodes_in (form_of (And a b)) ≡ nodes_of (tree_of a.value) ++ nodes_of (tree_of b.value)
  and_nodes = ap nodes_in (and_seen a b)

  or_nodes : nodes_in (form_of (Or a b)) ≡ nodes_of (tree_of a.value) ++ nodes_of (tree_of b.value)
  or_nodes = ap nodes_in (or_seen a b)

  assign_nodes : nodes_in (form_of (Assign a b)) ≡ nodes_of (tree_of a.value) ++ nodes_of (tree_of b.value)
  assign_nodes = ap nodes_in (assign_seen a b)

  while_nodes : nodes_in (form_of (While a b)) ≡ nodes_of (tree_of a.value) ++ nodes_of (tree_of b.value)
  while_nodes = ap nodes_in (while_seen a b)

  pub two_operands : (form : Form) → ((n : ℕ) × form ≡ Index a b n) ⊎ (((op : Math) × form ≡ Arithmetic op a b) ⊎ (((op : Cmp) × form ≡ Comparison op a b) ⊎ ((form ≡ And a b) ⊎ ((form ≡ Or a b) ⊎ ((form ≡ Assign a b) ⊎ (form ≡ While a b)))))) →
      nodes_in (form_of form) ≡ nodes_of (tree_of a.value) ++ nodes_of (tree_of b.value)
  two_operands form (inl (n, is)) = ap (λ (f : Form). nodes_in (form_of f)) is ∙ index_nodes n
  two_operands form (inr (inl (op, is))) = ap (λ (f : Form). nodes_in (form_of f)) is ∙ arithmetic_nodes op
  two_operands form (inr (inr (inl (op, is)))) = ap (λ (f : Form). nodes_in (form_of f)) is ∙ comparison_nodes op
  two_operands form (inr (inr (inr (inl is)))) = ap (λ (f : Form). nodes_in (form_of f)) is ∙ and_nodes
  two_operands form (inr (inr (inr (inr (inl is))))) = ap (λ (f : Form). nodes_in (form_of f)) is ∙ or_nodes
  two_operands form (inr (inr (inr (inr (inr (inl is)))))) = ap (λ (f : Form). nodes_in (form_of f)) is ∙ assign_nodes
  two_operands form (inr (inr (inr (inr (inr (inr is)))))) = ap (λ (f : Form). nodes_in (form_of f)) is ∙ while_nodes

-- an operand of a form, and nodes
module _ (a : Box Node Global) (l : List Node) where
  method_call_nodes : (n : ℕ) → nodes_in (form_of (MethodCall n a l)) ≡ nodes_of (tree_of a.value) ++ nodes_among (nodes_from (map tree_of l))
  method_call_nodes n = ap nodes_in (method_call_seen n a l)

  virtual_call_nodes : (n : ℕ) (m : ℕ) → nodes_in (form_of (VirtualCall n m a l)) ≡ nodes_of (tree_of a.value) ++ nodes_among (nodes_from (map tree_of l))
  virtual_call_nodes n m = ap nodes_in (virtual_call_seen n m a l)

  closure_call_nodes : (n : ℕ) → nodes_in (form_of (ClosureCall n a l)) ≡ nodes_of (tree_of a.value) ++ nodes_among (nodes_from (map tree_of l))
  closure_call_nodes n = ap nodes_in (closure_call_seen n a l)

  match_nodes : nodes_in (form_of (Match a l)) ≡ nodes_of (tree_of a.value) ++ nodes_among (nodes_from (map tree_of l))
  match_nodes = ap nodes_in (match_seen a l)

  pub operand_and_nodes : (form : Form) → ((n : ℕ) × form ≡ MethodCall n a l) ⊎ (((n : ℕ) × (m : ℕ) × form ≡ VirtualCall n m a l) ⊎ (((n : ℕ) × form ≡ ClosureCall n a l) ⊎ (form ≡ Match a l))) →
      nodes_in (form_of form) ≡ nodes_of (tree_of a.value) ++ nodes_among (nodes_from (map tree_of l))
  operand_and_nodes form (inl (n, is)) = ap (λ (f : Form). nodes_in (form_of f)) is ∙ method_call_nodes n
  operand_and_nodes form (inr (inl (n, m, is))) = ap (λ (f : Form). nodes_in (form_of f)) is ∙ virtual_call_nodes n m
  operand_and_nodes form (inr (inr (inl (n, is)))) = ap (λ (f : Form). nodes_in (form_of f)) is ∙ closure_call_nodes n
  operand_and_nodes form (inr (inr (inr is))) = ap (λ (f : Form). nodes_in (form_of f)) is ∙ match_nodes

block_nodes : (s : List Node) (t : Option (Box Node Global)) →
    nodes_in (form_of (Block s t)) ≡ nodes_among (nodes_from (map tree_of s)) ++ nodes_if_any (maybe_of t)
block_nodes s o = ap nodes_in (block_seen s o)

let_nodes : (p : Box Node Global) (i : Option (Box Node Global)) →
    nodes_in (form_of (Let p i)) ≡ nodes_of (tree_of p.value) ++ nodes_if_any (maybe_of i)
let_nodes p o = ap nodes_in (let_seen p o)

if_nodes : (c t : Box Node Global) (o : Option (Box Node Global)) →
    nodes_in (form_of (If c t o)) ≡ nodes_of (tree_of c.value) ++ nodes_of (tree_of t.value) ++ nodes_if_any (maybe_of o)
if_nodes c t o = ap nodes_in (if_seen c t o)

if_let_nodes : (p s t : Box Node Global) (o : Option (Box Node Global)) →
    nodes_in (form_of (IfLet p s t o)) ≡ nodes_of (tree_of p.value) ++ nodes_of (tree_of s.value) ++ nodes_of (tree_of t.value) ++ nodes_if_any (maybe_of o)
if_let_nodes p s t o = ap nodes_in (if_let_seen p s t o)

arm_nodes : (p : Box Node Global) (g : Option (Box Node Global)) (b : Box Node Global) →
    nodes_in (form_of (Arm p g b)) ≡ nodes_of (tree_of p.value) ++ nodes_if_any (maybe_of g) ++ nodes_of (tree_of b.value)
arm_nodes p o b = ap nodes_in (arm_seen p o b)

while_let_nodes : (p s b : Box Node Global) →
    nodes_in (form_of (WhileLet p s b)) ≡ nodes_of (tree_of p.value) ++ nodes_of (tree_of s.value) ++ nodes_of (tree_of b.value)
while_let_nodes p s b = ap nodes_in (while_let_seen p s b)

-- what is found below a box, by the node that was read there
below : (id : ℕ) (b : Box Node Global) (x : Node) (found : Option (Bor Node)) → x ≡ b.value → tree_found found ≡ first_with id (nodes_of (tree_of x)) →
    tree_found found ≡ first_with id (nodes_of (tree_of b.value))
below id b x found is there = there ∙ ap (λ (n : Node). first_with id (nodes_of (tree_of n))) is

module _ (id : ℕ) (form : Form) where
  -- the nodes of a form, by those of another that it is
  in_form : (same : Form) (nodes : List plain.Node) (found : Option (Bor Node)) → form ≡ same → nodes_in (form_of same) ≡ nodes →
      tree_found found ≡ first_with id nodes → tree_found found ≡ first_with id (nodes_in (form_of form))
  in_form same nodes found is parts there =
      there ∙ ap (λ (l : List plain.Node). first_with id l) (sym parts) ∙ ap (λ (f : Form). first_with id (nodes_in (form_of f))) (sym is)

  -- what was found in the parts of a form, and which of them is the first
  module _ (r₁ r₂ both : Option (Bor Node)) where
    pub in_operands : (a b : Box Node Global) (x y : Node) → nodes_in (form_of form) ≡ nodes_of (tree_of a.value) ++ nodes_of (tree_of b.value) →
        x ≡ a.value → y ≡ b.value →
        tree_found r₁ ≡ first_with id (nodes_of (tree_of x)) → tree_found r₂ ≡ first_with id (nodes_of (tree_of y)) →
        both ≡ option_or r₁ r₂ → tree_found both ≡ first_with id (nodes_in (form_of form))
    in_operands a b x y parts is_x is_y found₁ found₂ is_both =
        found_either id _ _ _ _ _ is_both (below id a x r₁ is_x found₁) (below id b y r₂ is_y found₂) ∙ ap (λ (l : List plain.Node). first_with id l) (sym parts)

    pub in_operand_and_nodes : (a : Box Node Global) (l slice : List Node) (x : Node) →
        nodes_in (form_of form) ≡ nodes_of (tree_of a.value) ++ nodes_among (nodes_from (map tree_of l)) → x ≡ a.value → slice ≡ l →
        tree_found r₁ ≡ first_with id (nodes_of (tree_of x)) → tree_found r₂ ≡ first_with id (nodes_among (nodes_from (map tree_of slice))) →
        both ≡ option_or r₁ r₂ → tree_found both ≡ first_with id (nodes_in (form_of form))
    in_operand_and_nodes a l slice x parts is_x is_l found₁ found₂ is_both =
        found_either id _ _ _ _ _ is_both (below id a x r₁ is_x found₁) (found₂ ∙ ap (λ (n : List Node). first_with id (nodes_among (nodes_from (map tree_of n)))) is_l)
        ∙ ap (λ (n : List plain.Node). first_with id n) (sym parts)

    pub in_block : (s slice : List Node) (t : Option (Box Node Global)) → form ≡ Block s t → slice ≡ s →
        tree_found r₁ ≡ first_with id (nodes_among (nodes_from (map tree_of slice))) → tree_found r₂ ≡ first_with id (nodes_if_any (maybe_of t)) →
        both ≡ option_or r₁ r₂ → tree_found both ≡ first_with id (nodes_in (form_of form))
    in_block s slice t is is_s found₁ found₂ is_both =
        in_form (Block s t) _ both is (block_nodes s t)
        (found_either id _ _ _ _ _ is_both (found₁ ∙ ap (λ (l : List Node). first_with id (nodes_among (nodes_from (map tree_of l)))) is_s) found₂)

    pub in_let : (p : Box Node Global) (i : Option (Box Node Global)) (x : Node) → form ≡ Let p i → x ≡ p.value →
        tree_found r₁ ≡ first_with id (nodes_of (tree_of x)) → tree_found r₂ ≡ first_with id (nodes_if_any (maybe_of i)) →
        both ≡ option_or r₁ r₂ → tree_found both ≡ first_with id (nodes_in (form_of form))
    in_let p i x is is_x found₁ found₂ is_both =
        in_form (Let p i) _ both is (let_nodes p i) (found_either id _ _ _ _ _ is_both (below id p x r₁ is_x found₁) found₂)

    module _ (r₃ three : Option (Bor Node)) where
      pub in_if : (c t : Box Node Global) (o : Option (Box Node Global)) (x y : Node) → form ≡ If c t o → x ≡ c.value → y ≡ t.value →
          tree_found r₁ ≡ first_with id (nodes_of (tree_of x)) → tree_found r₂ ≡ first_with id (nodes_of (tree_of y)) →
          tree_found r₃ ≡ first_with id (nodes_if_any (maybe_of o)) →
          both ≡ option_or r₁ r₂ → three ≡ option_or both r₃ → tree_found three ≡ first_with id (nodes_in (form_of form))
      in_if c t o x y is is_x is_y found₁ found₂ found₃ is_both is_three =
          in_form (If c t o) _ three is (if_nodes c t o)
          (found_either id _ _ _ _ _ is_three (found_either id _ _ _ _ _ is_both (below id c x r₁ is_x found₁) (below id t y r₂ is_y found₂)) found₃)

      pub in_arm : (p : Box Node Global) (g : Option (Box Node Global)) (b : Box Node Global) (x y : Node) → form ≡ Arm p g b → x ≡ p.value → y ≡ b.value →
          tree_found r₁ ≡ first_with id (nodes_of (tree_of x)) → tree_found r₂ ≡ first_with id (nodes_if_any (maybe_of g)) →
          tree_found r₃ ≡ first_with id (nodes_of (tree_of y)) →
          both ≡ option_or r₁ r₂ → three ≡ option_or both r₃ → tree_found three ≡ first_with id (nodes_in (form_of form))
      in_arm p g b x y is is_x is_y found₁ found₂ found₃ is_both is_three =
          in_form (Arm p g b) _ three is (arm_nodes p g b)
          (found_either id _ _ _ _ _ is_three (found_either id _ _ _ _ _ is_both (below id p x r₁ is_x found₁) found₂) (below id b y r₃ is_y found₃))

      pub in_while_let : (p s b : Box Node Global) (x y z : Node) → form ≡ WhileLet p s b → x ≡ p.value → y ≡ s.value → z ≡ b.value →
          tree_found r₁ ≡ first_with id (nodes_of (tree_of x)) → tree_found r₂ ≡ first_with id (nodes_of (tree_of y)) →
          tree_found r₃ ≡ first_with id (nodes_of (tree_of z)) →
          both ≡ option_or r₁ r₂ → three ≡ option_or both r₃ → tree_found three ≡ first_with id (nodes_in (form_of form))
      in_while_let p s b x y z is is_x is_y is_z found₁ found₂ found₃ is_both is_three =
          in_form (WhileLet p s b) _ three is (while_let_nodes p s b)
          (found_either id _ _ _ _ _ is_three (found_either id _ _ _ _ _ is_both (below id p x r₁ is_x found₁) (below id s y r₂ is_y found₂)) (below id b z r₃ is_z found₃))

      module _ (r₄ four : Option (Bor Node)) where
        pub in_if_let : (p s t : Box Node Global) (o : Option (Box Node Global)) (x y z : Node) → form ≡ IfLet p s t o →
            x ≡ p.value → y ≡ s.value → z ≡ t.value →
            tree_found r₁ ≡ first_with id (nodes_of (tree_of x)) → tree_found r₂ ≡ first_with id (nodes_of (tree_of y)) →
            tree_found r₃ ≡ first_with id (nodes_of (tree_of z)) → tree_found r₄ ≡ first_with id (nodes_if_any (maybe_of o)) →
            both ≡ option_or r₁ r₂ → three ≡ option_or both r₃ → four ≡ option_or three r₄ → tree_found four ≡ first_with id (nodes_in (form_of form))
        in_if_let p s t o x y z is is_x is_y is_z found₁ found₂ found₃ found₄ is_both is_three is_four =
            in_form (IfLet p s t o) _ four is (if_let_nodes p s t o)
            (found_either id _ _ _ _ _ is_four
            (found_either id _ _ _ _ _ is_three (found_either id _ _ _ _ _ is_both (below id p x r₁ is_x found₁) (below id s y r₂ is_y found₂)) (below id t z r₃ is_z found₃))
            found₄)
