-- The rows in a form, by the forms with several parts: what each part gives, one behind the other.
use Rattle.std.proofs.Common.{◌≡◌, ◌⊎◌, inl, inr, ◌++◌, ◌∷◌, [], ℕ, Bool, List, Option, rules, refl, ap, sym, subst, map}
use Rattle.std.specs.Prelude.{Box}
use Rattle.std.specs.declared.alloc.Global.{Global}
use Rattle.mir_base.specs.declared.operator.Cmp.{Cmp}
use Rattle.mir_base.specs.declared.operator.Math.{Math}
use Rattle.mir_base.specs.declared.place_in_text.NodeId.{NodeId}
use Rattle.scope_table.specs.Table.{rows, rows_in, rows_of_arms, arm_rows_of, alone_rows, alone_if_any, operand_rows, statement_rows, matched_rows, let_rows, pattern_rows, pattern_rows_in, arm_rows, where_true, where_false, idle, is_idle, is_arm, temporary_of, by_name, inner, both_in, entry_in, reached_in, initial, let_name, nothing, name_in, row}
use Rattle.scope_table.specs.declared.row.MadeAround.{MadeAround}
use Rattle.scope_table.specs.declared.row.ScopeRow.{ScopeRow}
use Rattle.scope_table.specs.declared.row.Within.{Within}
use Rattle.typed_tree.specs.declared.node.Form.{Form, Index, Arithmetic, Comparison, And, Or, Assign, MethodCall, VirtualCall, ClosureCall, Block, If, IfLet, Match, Arm, While, WhileLet, the_lemmas}
use Rattle.typed_tree.specs.declared.node.Node.{Node}
use Rattle.typed_tree.specs.Nodes.{nodes_of, nodes_in}
use Rattle.typed_tree.specs.Tree.{node, present}
use Rattle.typed_tree.specs.Tree as tree
use Rattle.typed_tree.specs.View.{tree_of, form_of, maybe_of, nodes_from}

-- `a` and `b` are what two boxes of the form hold
module _ (w : Within) (id : NodeId) (form : Form) (first second : Box Node Global) (a b : Node)
    (is_a : a ≡ first.value) (is_b : b ≡ second.value) where
  pub in_index : (made : MadeAround) (length : ℕ) → made ≡ nothing → form ≡ Index first second length →
      rows_in w id (form_of form) ≡ rows w (reached_in w.temporary (tree_of a)) (tree_of a) ++ rows w made (tree_of b)
  in_index made length is_made is = rw (is, is_a, is_b, is_made) (search (rules, the_lemmas))

  pub in_arithmetic : (operator : Math) → form ≡ Arithmetic operator first second → rows_in w id (form_of form)
      ≡ rows (inner id w) (entry_in id (tree_of a)) (tree_of a) ++ rows (inner id w) (entry_in id (tree_of b))
      (tree_of b)
  in_arithmetic operator is = rw (is, is_a, is_b) (search (rules, the_lemmas))

  pub in_comparison : (operator : Cmp) → form ≡ Comparison operator first second → rows_in w id (form_of form)
      ≡ rows (inner id w) (entry_in id (tree_of a)) (tree_of a) ++ rows (inner id w) (entry_in id (tree_of b))
      (tree_of b)
  in_comparison operator is = rw (is, is_a, is_b) (search (rules, the_lemmas))

  pub in_and : form ≡ And first second → rows_in w id (form_of form) ≡ alone_rows (tree_of a)
      ++ alone_rows (tree_of b)
  in_and is = rw (is, is_a, is_b) (search (rules, the_lemmas))

  pub in_or : form ≡ Or first second → rows_in w id (form_of form) ≡ alone_rows (tree_of a) ++ alone_rows (tree_of b)
  in_or is = rw (is, is_a, is_b) (search (rules, the_lemmas))

  -- of the forms that have the same parts
  pub in_two_operands : ((x : Math) × form ≡ Arithmetic x first second) ⊎ ((x : Cmp) × form ≡ Comparison x first second)
      → rows_in w id (form_of form) ≡ rows (inner id w) (entry_in id (tree_of a)) (tree_of a)
      ++ rows (inner id w) (entry_in id (tree_of b)) (tree_of b)
  in_two_operands (inl e) = in_arithmetic e.0 e.1
  in_two_operands (inr e) = in_comparison e.0 e.1

  pub in_assign : (inside : Within) → inside ≡ inner id w → form ≡ Assign second first → rows_in w id (form_of form)
      ≡ rows (inner id w) (entry_in id (tree_of a)) (tree_of a)
      ++ rows inside (reached_in inside.temporary (tree_of b)) (tree_of b)
  in_assign inside is_inside is = rw (is, is_a, is_b, is_inside) (search (rules, the_lemmas))

  pub in_if : (otherwise : Option (Box Node Global)) → form ≡ If first second otherwise → rows_in w id (form_of form)
      ≡ alone_rows (tree_of a) ++ alone_rows (tree_of b) ++ alone_if_any (maybe_of otherwise)
  in_if otherwise is = rw (is, is_a, is_b) (search (rules, the_lemmas))

  pub in_while : form ≡ While first second → rows_in w id (form_of form) ≡ alone_rows (tree_of a)
      ++ alone_rows (tree_of b)
  in_while is = rw (is, is_a, is_b) (search (rules, the_lemmas))

  pub in_two_alone : (form ≡ And first second) ⊎ ((form ≡ Or first second) ⊎ (form ≡ While first second)) →
      rows_in w id (form_of form) ≡ alone_rows (tree_of a) ++ alone_rows (tree_of b)
  in_two_alone (inl e) = in_and e
  in_two_alone (inr (inl e)) = in_or e
  in_two_alone (inr (inr e)) = in_while e

  pub in_while_let : (body : Box Node Global) (d : Node) → d ≡ body.value → form ≡ WhileLet second first body →
      rows_in w id (form_of form) ≡ matched_rows id (tree_of a) (tree_of b) ++ alone_rows (tree_of d)
  in_while_let body d is_d is = rw (is, is_a, is_b, is_d) (search (rules, the_lemmas))

  pub in_if_let : (then : Box Node Global) (otherwise : Option (Box Node Global)) (d : Node) → d ≡ then.value →
      form ≡ IfLet second first then otherwise → rows_in w id (form_of form) ≡ matched_rows id (tree_of a) (tree_of b)
      ++ alone_rows (tree_of d) ++ alone_if_any (maybe_of otherwise)
  in_if_let then otherwise d is_d is = rw (is, is_a, is_b, is_d) (search (rules, the_lemmas))

-- `a` is what a box of the form holds, and `slice` a list of it
module _ (w : Within) (id : NodeId) (form : Form) (first : Box Node Global) (a : Node) (nodes slice : List Node)
    (is_a : a ≡ first.value) (is_slice : slice ≡ nodes) where
  pub in_match : form ≡ Match first nodes → rows_in w id (form_of form) ≡ rows w (reached_in w.temporary (tree_of a))
      (tree_of a) ++ rows_of_arms w.temporary (nodes_from (map tree_of slice))
  in_match is = rw (is, is_a, is_slice) (search (rules, the_lemmas))

  pub in_method_call : (inside : Within) (body : ℕ) → inside ≡ inner id w → form ≡ MethodCall body first nodes →
      rows_in w id (form_of form) ≡ rows (inner id w) (entry_in id (tree_of a)) (tree_of a)
      ++ operand_rows inside id (nodes_from (map tree_of slice))
  in_method_call inside body is_inside is = rw (is, is_a, is_slice, is_inside) (search (rules, the_lemmas))

  pub in_virtual_call : (inside : Within) (trait_no method : ℕ) → inside ≡ inner id w →
      form ≡ VirtualCall trait_no method first nodes → rows_in w id (form_of form) ≡ rows (inner id w)
      (entry_in id (tree_of a)) (tree_of a) ++ operand_rows inside id (nodes_from (map tree_of slice))
  in_virtual_call inside trait_no method is_inside is = rw (is, is_a, is_slice, is_inside)
      (search (rules, the_lemmas))

  pub in_closure_call : (inside : Within) (body : ℕ) → inside ≡ inner id w → form ≡ ClosureCall body first nodes →
      rows_in w id (form_of form) ≡ rows (inner id w) (entry_in id (tree_of a)) (tree_of a)
      ++ operand_rows inside id (nodes_from (map tree_of slice))
  in_closure_call inside body is_inside is = rw (is, is_a, is_slice, is_inside) (search (rules, the_lemmas))

  pub in_called : (inside : Within) → inside ≡ inner id w → ((x : ℕ) × form ≡ MethodCall x first nodes)
      ⊎ (((x : ℕ) × (y : ℕ) × form ≡ VirtualCall x y first nodes) ⊎ ((x : ℕ) × form ≡ ClosureCall x first nodes)) →
      rows_in w id (form_of form) ≡ rows (inner id w) (entry_in id (tree_of a)) (tree_of a)
      ++ operand_rows inside id (nodes_from (map tree_of slice))
  in_called inside is_inside (inl e) = in_method_call inside e.0 is_inside e.1
  in_called inside is_inside (inr (inl e)) = in_virtual_call inside e.0 e.1 is_inside e.2
  in_called inside is_inside (inr (inr e)) = in_closure_call inside e.0 is_inside e.1

pub in_block : (w inside : Within) (id : NodeId) (form : Form) (nodes slice : List Node)
    (tail : Option (Box Node Global)) → slice ≡ nodes → inside ≡ inner id w → form ≡ Block nodes tail →
    rows_in w id (form_of form) ≡ statement_rows inside (nodes_from (map tree_of slice))
    ++ alone_if_any (maybe_of tail)
in_block w inside id form nodes slice tail is_slice is_inside is = rw (is, is_slice, is_inside)
    (search (rules, the_lemmas))

form_of-Arm : (pattern body : Box Node Global) (guard : Option (Box Node Global)) →
    form_of (Arm pattern guard body) ≡ tree.Arm (tree_of pattern.value) (maybe_of guard) (tree_of body.value)
form_of-Arm pattern body guard = search (rules, the_lemmas)

pub in_arm : (t id : NodeId) (form : Form) (pattern body : Box Node Global) (guard : Option (Box Node Global))
    (a b : Node) (own : ScopeRow) (made name : MadeAround) → a ≡ pattern.value → b ≡ body.value → made ≡ nothing →
    own ≡ row id t made → name ≡ name_in id → form ≡ Arm pattern guard body → arm_rows_of t id (form_of form)
    ≡ (own ∷ []) ++ alone_if_any (maybe_of guard) ++ pattern_rows t name (tree_of a) ++ alone_rows (tree_of b)
in_arm t id form pattern body guard a b own made name is_a is_b is_made is_own is_name is =
    rw (is, is_a, is_b, is_own, is_made, is_name) (ap (arm_rows_of t id) (form_of-Arm pattern body guard))

pub of_value : (id scope : NodeId) (value pattern : Node) (name : MadeAround) →
    name ≡ let_name id scope (form_of pattern.form) → let_rows id scope (tree_of pattern) (present (tree_of value))
    ≡ rows (both_in id) (initial id (form_of pattern.form) (tree_of value))
    (tree_of value) ++ pattern_rows id name (tree_of pattern)
of_value id scope value pattern name is_name = rw is_name (search (rules, the_lemmas))

pub of_matched : (within : Within) (id : NodeId) (scrutinee pattern : tree.Node) (name : MadeAround) → within ≡ both_in id →
    name ≡ name_in id → matched_rows id scrutinee pattern
    ≡ rows within (reached_in within.temporary scrutinee) scrutinee ++ pattern_rows id name pattern
of_matched within id scrutinee pattern name is_within is_name = rw (is_within, is_name) refl

tree_of-node : (n : Node) → tree_of n ≡ node n.id.0 n.at n.ty n.by (form_of n.form)
tree_of-node n = search (rules, the_lemmas)

pub of_node : (w : Within) (made : MadeAround) (n : Node) (asked : Bool) (temporary : NodeId) (own : ScopeRow) →
    asked ≡ is_idle (form_of n.form) → temporary ≡ temporary_of n.id (form_of n.form) w.temporary →
    own ≡ row n.id temporary made → rows w made (tree_of n) ≡ rows_in w n.id (form_of n.form)
    ++ where_true asked (idle w.temporary (nodes_in (form_of n.form))) ++ (own ∷ [])
of_node w made n asked temporary own is_asked is_temporary is_own = rw (is_own, is_asked, is_temporary)
    (ap (rows w made) (tree_of-node n))

pub of_arm : (t : NodeId) (n : Node) (done : Bool) → done ≡ is_arm (form_of n.form) → arm_rows t (tree_of n)
    ≡ arm_rows_of t n.id (form_of n.form) ++ where_false done (idle t (nodes_of (tree_of n)))
of_arm t n done is_done =
    let all : arm_rows t (tree_of n) ≡ arm_rows_of t n.id (form_of n.form) ++ where_false (is_arm (form_of n.form))
    (idle t (nodes_of (tree_of n))) =
    subst (λ (x : tree.Node). arm_rows t x ≡ arm_rows_of t n.id (form_of n.form)
    ++ where_false (is_arm (form_of n.form)) (idle t (nodes_of x))) (sym (tree_of-node n)) refl in
    rw is_done all

pub of_pattern : (t : NodeId) (name made : MadeAround) (n : Node) (own : ScopeRow) → made ≡ by_name name (form_of n.form) →
    own ≡ row n.id t made → pattern_rows t name (tree_of n) ≡ (own ∷ []) ++ pattern_rows_in t name (form_of n.form)
of_pattern t name made n own is_made is_own = rw (is_own, is_made) (ap (pattern_rows t name) (tree_of-node n))
