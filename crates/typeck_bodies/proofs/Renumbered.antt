-- A form whose parts were renumbered is the form renumbered.
use Rattle.std.proofs.Common.{◌≡◌, ◌∙◌, ℕ, Bool, List, Option, ap, sym, map}
use Rattle.std.specs.Prelude.{Box}
use Rattle.std.specs.declared.alloc.Global.{Global}
use Rattle.mir_base.specs.declared.operator.Cmp.{Cmp}
use Rattle.mir_base.specs.declared.operator.Math.{Math}
use Rattle.typed_tree.proofs.PlainForms.{and_seen, arithmetic_seen, arm_seen, array_pattern_seen, array_seen, assign_seen, block_seen, borrow_seen, call_seen, closure_call_seen, closure_seen, comparison_seen, deref_seen, drop_value_seen, evaluate_seen, field_seen, forget_seen, if_let_seen, if_seen, index_seen, let_seen, loop_seen, match_seen, method_call_seen, negate_seen, new_box_seen, not_seen, or_pattern_seen, or_seen, print_seen, return_seen, tuple_pattern_seen, tuple_seen, unsize_seen, virtual_call_seen, while_let_seen, while_seen}
use Rattle.typed_tree.specs.Tree as tree
use Rattle.typed_tree.specs.View.{form_of, maybe_of, nodes_from, tree_of}
use Rattle.typed_tree.specs.declared.node.Form as form
use Rattle.typed_tree.specs.declared.node.Form.{Form}
use Rattle.typed_tree.specs.declared.node.Node.{Node}
use Rattle.typing_rules.specs.Numbered.{form_renumbered, maybe_renumbered, nodes_renumbered, renumbered}

module _ (f : ℕ → ℕ) (whole : Form) where
  -- what a form was, and what was made of it
  made : (old new : Form) (before after : tree.Form) → whole ≡ old → form_of old ≡ before → form_of new ≡ after →
      after ≡ form_renumbered f before → form_of new ≡ form_renumbered f (form_of whole)
  made old new before after is was is_new same =
      is_new ∙ same ∙ ap (form_renumbered f) (sym was) ∙ ap (λ (x : Form). form_renumbered f (form_of x)) (sym is)

  pub index_made : (length : ℕ) (a p : Box Node Global) (b q : Box Node Global) → whole ≡ form.Index a b length →
      tree_of p.value ≡ renumbered f (tree_of a.value) → tree_of q.value ≡ renumbered f (tree_of b.value) →
      form_of (form.Index p q length) ≡ form_renumbered f (form_of whole)
  index_made length a p b q is h i =
      made (form.Index a b length) (form.Index p q length) _ _ is (index_seen a b length) (index_seen p q length) (λ z. tree.Index (h z) (i z) length)

  pub arithmetic_made : (operator : Math) (a p : Box Node Global) (b q : Box Node Global) → whole ≡ form.Arithmetic operator a b →
      tree_of p.value ≡ renumbered f (tree_of a.value) → tree_of q.value ≡ renumbered f (tree_of b.value) →
      form_of (form.Arithmetic operator p q) ≡ form_renumbered f (form_of whole)
  arithmetic_made operator a p b q is h i =
      made (form.Arithmetic operator a b) (form.Arithmetic operator p q) _ _ is (arithmetic_seen operator a b) (arithmetic_seen operator p q) (λ z. tree.Arithmetic operator (h z) (i z))

  pub comparison_made : (operator : Cmp) (a p : Box Node Global) (b q : Box Node Global) → whole ≡ form.Comparison operator a b →
      tree_of p.value ≡ renumbered f (tree_of a.value) → tree_of q.value ≡ renumbered f (tree_of b.value) →
      form_of (form.Comparison operator p q) ≡ form_renumbered f (form_of whole)
  comparison_made operator a p b q is h i =
      made (form.Comparison operator a b) (form.Comparison operator p q) _ _ is (comparison_seen operator a b) (comparison_seen operator p q) (λ z. tree.Comparison operator (h z) (i z))

  pub and_made : (a p : Box Node Global) (b q : Box Node Global) → whole ≡ form.And a b →
      tree_of p.value ≡ renumbered f (tree_of a.value) → tree_of q.value ≡ renumbered f (tree_of b.value) →
      form_of (form.And p q) ≡ form_renumbered f (form_of whole)
  and_made a p b q is h i =
      made (form.And a b) (form.And p q) _ _ is (and_seen a b) (and_seen p q) (λ z. tree.And (h z) (i z))

  pub or_made : (a p : Box Node Global) (b q : Box Node Global) → whole ≡ form.Or a b →
      tree_of p.value ≡ renumbered f (tree_of a.value) → tree_of q.value ≡ renumbered f (tree_of b.value) →
      form_of (form.Or p q) ≡ form_renumbered f (form_of whole)
  or_made a p b q is h i =
      made (form.Or a b) (form.Or p q) _ _ is (or_seen a b) (or_seen p q) (λ z. tree.Or (h z) (i z))

  pub assign_made : (a p : Box Node Global) (b q : Box Node Global) → whole ≡ form.Assign a b →
      tree_of p.value ≡ renumbered f (tree_of a.value) → tree_of q.value ≡ renumbered f (tree_of b.value) →
      form_of (form.Assign p q) ≡ form_renumbered f (form_of whole)
  assign_made a p b q is h i =
      made (form.Assign a b) (form.Assign p q) _ _ is (assign_seen a b) (assign_seen p q) (λ z. tree.Assign (h z) (i z))

  pub method_call_made : (body : ℕ) (a p : Box Node Global) (b q : List Node) → whole ≡ form.MethodCall body a b →
      tree_of p.value ≡ renumbered f (tree_of a.value) → nodes_from (map tree_of q) ≡ nodes_renumbered f (nodes_from (map tree_of b)) →
      form_of (form.MethodCall body p q) ≡ form_renumbered f (form_of whole)
  method_call_made body a p b q is h i =
      made (form.MethodCall body a b) (form.MethodCall body p q) _ _ is (method_call_seen body a b) (method_call_seen body p q) (λ z. tree.MethodCall body (h z) (i z))

  pub virtual_call_made : (trait_no : ℕ) (method : ℕ) (a p : Box Node Global) (b q : List Node) → whole ≡ form.VirtualCall trait_no method a b →
      tree_of p.value ≡ renumbered f (tree_of a.value) → nodes_from (map tree_of q) ≡ nodes_renumbered f (nodes_from (map tree_of b)) →
      form_of (form.VirtualCall trait_no method p q) ≡ form_renumbered f (form_of whole)
  virtual_call_made trait_no method a p b q is h i =
      made (form.VirtualCall trait_no method a b) (form.VirtualCall trait_no method p q) _ _ is (virtual_call_seen trait_no method a b) (virtual_call_seen trait_no method p q) (λ z. tree.VirtualCall trait_no method (h z) (i z))

  pub closure_call_made : (body : ℕ) (a p : Box Node Global) (b q : List Node) → whole ≡ form.ClosureCall body a b →
      tree_of p.value ≡ renumbered f (tree_of a.value) → nodes_from (map tree_of q) ≡ nodes_renumbered f (nodes_from (map tree_of b)) →
      form_of (form.ClosureCall body p q) ≡ form_renumbered f (form_of whole)
  closure_call_made body a p b q is h i =
      made (form.ClosureCall body a b) (form.ClosureCall body p q) _ _ is (closure_call_seen body a b) (closure_call_seen body p q) (λ z. tree.ClosureCall body (h z) (i z))

  pub block_made : (a p : List Node) (b q : Option (Box Node Global)) → whole ≡ form.Block a b →
      nodes_from (map tree_of p) ≡ nodes_renumbered f (nodes_from (map tree_of a)) → maybe_of q ≡ maybe_renumbered f (maybe_of b) →
      form_of (form.Block p q) ≡ form_renumbered f (form_of whole)
  block_made a p b q is h i =
      made (form.Block a b) (form.Block p q) _ _ is (block_seen a b) (block_seen p q) (λ z. tree.Block (h z) (i z))

  pub let_made : (a p : Box Node Global) (b q : Option (Box Node Global)) → whole ≡ form.Let a b →
      tree_of p.value ≡ renumbered f (tree_of a.value) → maybe_of q ≡ maybe_renumbered f (maybe_of b) →
      form_of (form.Let p q) ≡ form_renumbered f (form_of whole)
  let_made a p b q is h i =
      made (form.Let a b) (form.Let p q) _ _ is (let_seen a b) (let_seen p q) (λ z. tree.Let (h z) (i z))

  pub if_made : (a p : Box Node Global) (b q : Box Node Global) (c r : Option (Box Node Global)) → whole ≡ form.If a b c →
      tree_of p.value ≡ renumbered f (tree_of a.value) → tree_of q.value ≡ renumbered f (tree_of b.value) → maybe_of r ≡ maybe_renumbered f (maybe_of c) →
      form_of (form.If p q r) ≡ form_renumbered f (form_of whole)
  if_made a p b q c r is h i j =
      made (form.If a b c) (form.If p q r) _ _ is (if_seen a b c) (if_seen p q r) (λ z. tree.If (h z) (i z) (j z))

  pub if_let_made : (a p : Box Node Global) (b q : Box Node Global) (c r : Box Node Global) (d s : Option (Box Node Global)) → whole ≡ form.IfLet a b c d →
      tree_of p.value ≡ renumbered f (tree_of a.value) → tree_of q.value ≡ renumbered f (tree_of b.value) → tree_of r.value ≡ renumbered f (tree_of c.value) → maybe_of s ≡ maybe_renumbered f (maybe_of d) →
      form_of (form.IfLet p q r s) ≡ form_renumbered f (form_of whole)
  if_let_made a p b q c r d s is h i j k =
      made (form.IfLet a b c d) (form.IfLet p q r s) _ _ is (if_let_seen a b c d) (if_let_seen p q r s) (λ z. tree.IfLet (h z) (i z) (j z) (k z))

  pub match_made : (a p : Box Node Global) (b q : List Node) → whole ≡ form.Match a b →
      tree_of p.value ≡ renumbered f (tree_of a.value) → nodes_from (map tree_of q) ≡ nodes_renumbered f (nodes_from (map tree_of b)) →
      form_of (form.Match p q) ≡ form_renumbered f (form_of whole)
  match_made a p b q is h i =
      made (form.Match a b) (form.Match p q) _ _ is (match_seen a b) (match_seen p q) (λ z. tree.Match (h z) (i z))

  pub arm_made : (a p : Box Node Global) (b q : Option (Box Node Global)) (c r : Box Node Global) → whole ≡ form.Arm a b c →
      tree_of p.value ≡ renumbered f (tree_of a.value) → maybe_of q ≡ maybe_renumbered f (maybe_of b) → tree_of r.value ≡ renumbered f (tree_of c.value) →
      form_of (form.Arm p q r) ≡ form_renumbered f (form_of whole)
  arm_made a p b q c r is h i j =
      made (form.Arm a b c) (form.Arm p q r) _ _ is (arm_seen a b c) (arm_seen p q r) (λ z. tree.Arm (h z) (i z) (j z))

  pub while_made : (a p : Box Node Global) (b q : Box Node Global) → whole ≡ form.While a b →
      tree_of p.value ≡ renumbered f (tree_of a.value) → tree_of q.value ≡ renumbered f (tree_of b.value) →
      form_of (form.While p q) ≡ form_renumbered f (form_of whole)
  while_made a p b q is h i =
      made (form.While a b) (form.While p q) _ _ is (while_seen a b) (while_seen p q) (λ z. tree.While (h z) (i z))

  pub while_let_made : (a p : Box Node Global) (b q : Box Node Global) (c r : Box Node Global) → whole ≡ form.WhileLet a b c →
      tree_of p.value ≡ renumbered f (tree_of a.value) → tree_of q.value ≡ renumbered f (tree_of b.value) → tree_of r.value ≡ renumbered f (tree_of c.value) →
      form_of (form.WhileLet p q r) ≡ form_renumbered f (form_of whole)
  while_let_made a p b q c r is h i j =
      made (form.WhileLet a b c) (form.WhileLet p q r) _ _ is (while_let_seen a b c) (while_let_seen p q r) (λ z. tree.WhileLet (h z) (i z) (j z))

  pub field_made : (part : ℕ) (a p : Box Node Global) → whole ≡ form.Field a part →
      tree_of p.value ≡ renumbered f (tree_of a.value) →
      form_of (form.Field p part) ≡ form_renumbered f (form_of whole)
  field_made part a p is h =
      made (form.Field a part) (form.Field p part) _ _ is (field_seen a part) (field_seen p part) (λ z. tree.Field (h z) part)

  pub deref_made : (a p : Box Node Global) → whole ≡ form.Deref a →
      tree_of p.value ≡ renumbered f (tree_of a.value) →
      form_of (form.Deref p) ≡ form_renumbered f (form_of whole)
  deref_made a p is h =
      made (form.Deref a) (form.Deref p) _ _ is (deref_seen a) (deref_seen p) (λ z. tree.Deref (h z))

  pub not_made : (a p : Box Node Global) → whole ≡ form.Not a →
      tree_of p.value ≡ renumbered f (tree_of a.value) →
      form_of (form.Not p) ≡ form_renumbered f (form_of whole)
  not_made a p is h =
      made (form.Not a) (form.Not p) _ _ is (not_seen a) (not_seen p) (λ z. tree.Not (h z))

  pub negate_made : (a p : Box Node Global) → whole ≡ form.Negate a →
      tree_of p.value ≡ renumbered f (tree_of a.value) →
      form_of (form.Negate p) ≡ form_renumbered f (form_of whole)
  negate_made a p is h =
      made (form.Negate a) (form.Negate p) _ _ is (negate_seen a) (negate_seen p) (λ z. tree.Negate (h z))

  pub new_box_made : (a p : Box Node Global) → whole ≡ form.NewBox a →
      tree_of p.value ≡ renumbered f (tree_of a.value) →
      form_of (form.NewBox p) ≡ form_renumbered f (form_of whole)
  new_box_made a p is h =
      made (form.NewBox a) (form.NewBox p) _ _ is (new_box_seen a) (new_box_seen p) (λ z. tree.NewBox (h z))

  pub print_made : (a p : Box Node Global) → whole ≡ form.Print a →
      tree_of p.value ≡ renumbered f (tree_of a.value) →
      form_of (form.Print p) ≡ form_renumbered f (form_of whole)
  print_made a p is h =
      made (form.Print a) (form.Print p) _ _ is (print_seen a) (print_seen p) (λ z. tree.Print (h z))

  pub drop_value_made : (a p : Box Node Global) → whole ≡ form.DropValue a →
      tree_of p.value ≡ renumbered f (tree_of a.value) →
      form_of (form.DropValue p) ≡ form_renumbered f (form_of whole)
  drop_value_made a p is h =
      made (form.DropValue a) (form.DropValue p) _ _ is (drop_value_seen a) (drop_value_seen p) (λ z. tree.DropValue (h z))

  pub forget_made : (a p : Box Node Global) → whole ≡ form.Forget a →
      tree_of p.value ≡ renumbered f (tree_of a.value) →
      form_of (form.Forget p) ≡ form_renumbered f (form_of whole)
  forget_made a p is h =
      made (form.Forget a) (form.Forget p) _ _ is (forget_seen a) (forget_seen p) (λ z. tree.Forget (h z))

  pub borrow_made : (unique : Bool) (a p : Box Node Global) → whole ≡ form.Borrow unique a →
      tree_of p.value ≡ renumbered f (tree_of a.value) →
      form_of (form.Borrow unique p) ≡ form_renumbered f (form_of whole)
  borrow_made unique a p is h =
      made (form.Borrow unique a) (form.Borrow unique p) _ _ is (borrow_seen unique a) (borrow_seen unique p) (λ z. tree.Borrow unique (h z))

  pub unsize_made : (trait_no : ℕ) (a p : Box Node Global) → whole ≡ form.Unsize trait_no a →
      tree_of p.value ≡ renumbered f (tree_of a.value) →
      form_of (form.Unsize trait_no p) ≡ form_renumbered f (form_of whole)
  unsize_made trait_no a p is h =
      made (form.Unsize trait_no a) (form.Unsize trait_no p) _ _ is (unsize_seen trait_no a) (unsize_seen trait_no p) (λ z. tree.Unsize trait_no (h z))

  pub evaluate_made : (a p : Box Node Global) → whole ≡ form.Evaluate a →
      tree_of p.value ≡ renumbered f (tree_of a.value) →
      form_of (form.Evaluate p) ≡ form_renumbered f (form_of whole)
  evaluate_made a p is h =
      made (form.Evaluate a) (form.Evaluate p) _ _ is (evaluate_seen a) (evaluate_seen p) (λ z. tree.Evaluate (h z))

  pub loop_made : (a p : Box Node Global) → whole ≡ form.Loop a →
      tree_of p.value ≡ renumbered f (tree_of a.value) →
      form_of (form.Loop p) ≡ form_renumbered f (form_of whole)
  loop_made a p is h =
      made (form.Loop a) (form.Loop p) _ _ is (loop_seen a) (loop_seen p) (λ z. tree.Loop (h z))

  pub return_made : (a p : Option (Box Node Global)) → whole ≡ form.Return a →
      maybe_of p ≡ maybe_renumbered f (maybe_of a) →
      form_of (form.Return p) ≡ form_renumbered f (form_of whole)
  return_made a p is h =
      made (form.Return a) (form.Return p) _ _ is (return_seen a) (return_seen p) (λ z. tree.Return (h z))

  pub call_made : (body : ℕ) (a p : List Node) → whole ≡ form.Call body a →
      nodes_from (map tree_of p) ≡ nodes_renumbered f (nodes_from (map tree_of a)) →
      form_of (form.Call body p) ≡ form_renumbered f (form_of whole)
  call_made body a p is h =
      made (form.Call body a) (form.Call body p) _ _ is (call_seen body a) (call_seen body p) (λ z. tree.Call body (h z))

  pub tuple_made : (a p : List Node) → whole ≡ form.Tuple a →
      nodes_from (map tree_of p) ≡ nodes_renumbered f (nodes_from (map tree_of a)) →
      form_of (form.Tuple p) ≡ form_renumbered f (form_of whole)
  tuple_made a p is h =
      made (form.Tuple a) (form.Tuple p) _ _ is (tuple_seen a) (tuple_seen p) (λ z. tree.Tuple (h z))

  pub array_made : (a p : List Node) → whole ≡ form.Array a →
      nodes_from (map tree_of p) ≡ nodes_renumbered f (nodes_from (map tree_of a)) →
      form_of (form.Array p) ≡ form_renumbered f (form_of whole)
  array_made a p is h =
      made (form.Array a) (form.Array p) _ _ is (array_seen a) (array_seen p) (λ z. tree.Array (h z))

  pub closure_made : (closure : ℕ) (a p : List Node) → whole ≡ form.Closure closure a →
      nodes_from (map tree_of p) ≡ nodes_renumbered f (nodes_from (map tree_of a)) →
      form_of (form.Closure closure p) ≡ form_renumbered f (form_of whole)
  closure_made closure a p is h =
      made (form.Closure closure a) (form.Closure closure p) _ _ is (closure_seen closure a) (closure_seen closure p) (λ z. tree.Closure closure (h z))

  pub tuple_pattern_made : (a p : List Node) → whole ≡ form.TuplePattern a →
      nodes_from (map tree_of p) ≡ nodes_renumbered f (nodes_from (map tree_of a)) →
      form_of (form.TuplePattern p) ≡ form_renumbered f (form_of whole)
  tuple_pattern_made a p is h =
      made (form.TuplePattern a) (form.TuplePattern p) _ _ is (tuple_pattern_seen a) (tuple_pattern_seen p) (λ z. tree.TuplePattern (h z))

  pub array_pattern_made : (a p : List Node) → whole ≡ form.ArrayPattern a →
      nodes_from (map tree_of p) ≡ nodes_renumbered f (nodes_from (map tree_of a)) →
      form_of (form.ArrayPattern p) ≡ form_renumbered f (form_of whole)
  array_pattern_made a p is h =
      made (form.ArrayPattern a) (form.ArrayPattern p) _ _ is (array_pattern_seen a) (array_pattern_seen p) (λ z. tree.ArrayPattern (h z))

  pub or_pattern_made : (a p : List Node) → whole ≡ form.OrPattern a →
      nodes_from (map tree_of p) ≡ nodes_renumbered f (nodes_from (map tree_of a)) →
      form_of (form.OrPattern p) ≡ form_renumbered f (form_of whole)
  or_pattern_made a p is h =
      made (form.OrPattern a) (form.OrPattern p) _ _ is (or_pattern_seen a) (or_pattern_seen p) (λ z. tree.OrPattern (h z))
