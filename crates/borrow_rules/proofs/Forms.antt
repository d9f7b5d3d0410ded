-- What a form, a node and an argument do, by their plain form.
use Rattle.std.proofs.Common.{◌≡◌, ◌∙◌, ◌∷◌, ◌⊎◌, inl, inr, ℕ, Bool, true, false, List, Option, refl, ap, sym, map}
use Rattle.std.specs.Prelude.{Box}
use Rattle.std.specs.declared.alloc.Global.{Global}
use Rattle.mir_base.specs.declared.operator.Cmp.{Cmp}
use Rattle.mir_base.specs.declared.operator.Math.{Math}
use Rattle.mir_base.specs.declared.place_in_text.Pos.{Pos}
use Rattle.typed_tree.proofs.PlainForms.{node_seen, and_seen, arithmetic_seen, comparison_seen, method_call_seen, or_seen, virtual_call_seen, while_seen}
use Rattle.typed_tree.specs.Tree as tree
use Rattle.typed_tree.specs.Tree.{node}
use Rattle.typed_tree.specs.View.{tree_of, form_of, nodes_from}
use Rattle.typed_tree.specs.declared.node.Form.{Form, And, Arithmetic, Comparison, MethodCall, Or, VirtualCall, While}
use Rattle.typed_tree.specs.declared.node.Node.{Node}
use Rattle.typing_rules.specs.Accesses.{◌⊕◌, Aliases, Referring, CollectedAccesses, access_by, argument, arguments, inside, passed_together, own_access, place_of, refers_by, root_of, told}
use Rattle.borrow_rules.specs.Forms.{argument_told, call_told, parts_told}

-- two operands, of whichever form
module _ (A : Aliases) (at : Pos) (form : Form) (a b : Box Node Global) (x y : Node) (is_x : x ≡ a.value) (is_y : y ≡ b.value) where
  two_told : (f : Form) (plain : tree.Form) → form ≡ f → form_of f ≡ plain → parts_told A at plain ≡ (told A (tree_of a.value) ⊕ told A (tree_of b.value)) →
      parts_told A at (form_of form) ≡ (told A (tree_of x) ⊕ told A (tree_of y))
  two_told f plain is seen parts =
      ap (λ (g : Form). parts_told A at (form_of g)) is ∙ ap (parts_told A at) seen ∙ parts ∙ (λ i. told A (tree_of (sym is_x i)) ⊕ told A (tree_of (sym is_y i)))

  pub operands_told : ((op : Math) × form ≡ Arithmetic op a b) ⊎ (((op : Cmp) × form ≡ Comparison op a b) ⊎ ((form ≡ And a b) ⊎ ((form ≡ Or a b) ⊎ (form ≡ While a b)))) →
      parts_told A at (form_of form) ≡ (told A (tree_of x) ⊕ told A (tree_of y))
  operands_told (inl (op, is)) = two_told (Arithmetic op a b) _ is (arithmetic_seen op a b) refl
  operands_told (inr (inl (op, is))) = two_told (Comparison op a b) _ is (comparison_seen op a b) refl
  operands_told (inr (inr (inl is))) = two_told (And a b) _ is (and_seen a b) refl
  operands_told (inr (inr (inr (inl is)))) = two_told (Or a b) _ is (or_seen a b) refl
  operands_told (inr (inr (inr (inr is)))) = two_told (While a b) _ is (while_seen a b) refl

-- a receiver, and then nodes, of whichever call
module _ (A : Aliases) (form : Form) (a : Box Node Global) (l slice : List Node) (x : Node) (is_x : x ≡ a.value) (is_l : slice ≡ l) where
  with_receiver : (f : Form) (plain : tree.Form) → form ≡ f → form_of f ≡ plain →
      call_told A plain ≡ passed_together (argument_told A true (tree_of a.value) ∷ arguments A (nodes_from (map tree_of l))) →
      call_told A (form_of form) ≡ passed_together (argument_told A true (tree_of x) ∷ arguments A (nodes_from (map tree_of slice)))
  with_receiver f plain is seen parts =
      ap (λ (g : Form). call_told A (form_of g)) is ∙ ap (call_told A) seen ∙ parts
      ∙ (λ i. passed_together (argument_told A true (tree_of (sym is_x i)) ∷ arguments A (nodes_from (map tree_of (sym is_l i)))))

  pub method_told : ((n : ℕ) × form ≡ MethodCall n a l) ⊎ ((n : ℕ) × (m : ℕ) × form ≡ VirtualCall n m a l) →
      call_told A (form_of form) ≡ passed_together (argument_told A true (tree_of x) ∷ arguments A (nodes_from (map tree_of slice)))
  method_told (inl (n, is)) = with_receiver (MethodCall n a l) _ is (method_call_seen n a l) refl
  method_told (inr (n, m, is)) = with_receiver (VirtualCall n m a l) _ is (virtual_call_seen n m a l) refl

module _ (aliases : Aliases) where
  -- what a node does is what is inside it, and its own use
  pub told_by_form : (n : Node) → told aliases (tree_of n)
      ≡ (inside aliases (tree_of n) ⊕ own_access (access_by n.by) (place_of aliases (tree_of n)) (root_of (tree_of n)) n.at)
  told_by_form n =
      let shape = node_seen n in
      ap (told aliases) shape
      ∙ (λ i. inside aliases (sym shape i) ⊕ own_access (access_by n.by) (place_of aliases (sym shape i)) (root_of (sym shape i)) n.at)

  -- an argument by its form
  pub argument_by_form : (n : Node) (is_receiver : Bool) (refers : Option Referring) (own : CollectedAccesses) → refers ≡ refers_by aliases (form_of n.form)
      → own ≡ told aliases (tree_of n)
      → record { refers = refers; is_receiver = is_receiver; at = n.at; told = own } ≡ argument_told aliases is_receiver (tree_of n)
  argument_by_form n is_receiver refers own is_refers is_own =
      let shape = node_seen n in
      (λ i. record { refers = is_refers i; is_receiver = is_receiver; at = n.at; told = (is_own ∙ ap (told aliases) shape) i })
      ∙ ap (argument_told aliases is_receiver) (sym shape)

  -- an argument that is no receiver
  pub plain_argument : (n : tree.Node) → argument_told aliases false n ≡ argument aliases n
  plain_argument (node id at ty by form) = refl
