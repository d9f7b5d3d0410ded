-- The locals of a form of several parts, whose nodes are seen through their boxes.
use Rattle.std.proofs.Common.{◌≡◌, ◌++◌, ◌∙◌, ℕ, List, Option, ◌⊎◌, inl, inr, true, false, refl, ap, sym, map}
use Rattle.std.specs.Prelude.{Box}
use Rattle.std.specs.declared.alloc.Global.{Global}
use Rattle.mir_base.specs.declared.operator.Cmp.{Cmp}
use Rattle.mir_base.specs.declared.operator.Math.{Math}
use Rattle.mir_ty.specs.ItemTable.{ItemTable}
use Rattle.src_meaning.specs.Locals.OfBody.{cells, reached_cells, cells_in, all_cells, cells_if_any, initial_cells}
use Rattle.src_meaning.specs.Scopes.{Entry}
use Rattle.typed_tree.specs.declared.node.Form.{Form, And, Arithmetic, Arm, Assign, Block, ClosureCall, Comparison, If, IfLet, Index, Let, Match, MethodCall, Or, VirtualCall, While, WhileLet}
use Rattle.typed_tree.specs.declared.node.Node.{Node}
use Rattle.typed_tree.proofs.PlainForms.{node_seen, and_seen, arithmetic_seen, arm_seen, assign_seen, block_seen, closure_call_seen, comparison_seen, if_let_seen, if_seen, index_seen, let_seen, match_seen, method_call_seen, or_seen, virtual_call_seen, while_let_seen, while_seen}
use Rattle.typed_tree.specs.Tree as tree
use Rattle.typed_tree.specs.View.{tree_of, form_of, maybe_of, nodes_from}
use Rattle.lower_locals.specs.Groups.{has_branches, has_members, has_operands, has_place, has_statements}
use Rattle.lower_locals.specs.Own.{where_true}
use Rattle.lower_locals.specs.View.{locals_if_any, asked_of_initialiser}
use Rattle.lower_locals.specs.declared.own.AskedAs.{AskedAs}
use Rattle.typed_tree.proofs.Following.{two_behind, three_behind}
use Rattle.lower_locals.proofs.OwnFirst.{initialiser}

-- how parts are asked for that may be missing
around_if_any : (items : ItemTable) (v : tree.MaybeNode) → cells_if_any items false v ≡ locals_if_any items AskedAs.Around v
around_if_any items tree.absent = refl
around_if_any items (tree.present n) = refl

own_if_any : (items : ItemTable) (v : tree.MaybeNode) → cells_if_any items true v ≡ locals_if_any items AskedAs.Own v
own_if_any items tree.absent = refl
own_if_any items (tree.present n) = refl

module _ (items : ItemTable) where
  abbrev pub operated : tree.Form → List Entry
  operated f = where_true (has_operands f) (cells_in items f)

  abbrev pub in_place : tree.Form → List Entry
  in_place f = where_true (has_place f) (cells_in items f)

  abbrev pub membered : tree.Form → List Entry
  membered f = where_true (has_members f) (cells_in items f)

  abbrev pub branched : tree.Form → List Entry
  branched f = where_true (has_branches f) (cells_in items f)

  abbrev pub stated : tree.Form → List Entry
  stated f = where_true (has_statements f) (cells_in items f)

  -- what is found of a node, by the node that was read in its box
  abbrev own : Node → List Entry
  own n = cells items true (tree_of n)

  abbrev around : Node → List Entry
  around n = cells items false (tree_of n)

  abbrev reached : Node → List Entry
  reached n = reached_cells items (tree_of n)

  module _ (form : Form) (old first : List Entry) where
    -- a form that is seen to be another
    found_of : (f : Form) (plain : tree.Form) (group : tree.Form → List Entry) (new all : List Entry) → form ≡ f → form_of f ≡ plain → group plain ≡ all →
        new ≡ old ++ all → new ≡ old ++ group (form_of form)
    found_of f plain group new all is seen parts found =
        found ∙ ap (λ (l : List Entry). old ++ l) (sym parts) ∙ ap (λ (t : tree.Form). old ++ group t) (sym seen) ∙ ap (λ (g : Form). old ++ group (form_of g)) (sym is)

    -- two operands, of whichever form
    module _ (new : List Entry) (a b : Box Node Global) (x y : Node) (is_x : x ≡ a.value) (is_y : y ≡ b.value) where
      two : (f : Form) (plain : tree.Form) (group : tree.Form → List Entry) (A B : Node → List Entry) → form ≡ f → form_of f ≡ plain → group plain ≡ A a.value ++ B b.value →
          first ≡ old ++ A x → new ≡ first ++ B y → new ≡ old ++ group (form_of form)
      two f plain group A B is seen parts is_first is_new =
          found_of f plain group new _ is seen (parts ∙ (λ i. A (sym is_x i) ++ B (sym is_y i))) (two_behind old first new _ _ _ is_first refl is_new)

      pub operands_found : ((op : Math) × form ≡ Arithmetic op a b) ⊎ ((op : Cmp) × form ≡ Comparison op a b) → first ≡ old ++ own x → new ≡ first ++ own y → new ≡ old ++ operated (form_of form)
      operands_found (inl (op, is)) = two (Arithmetic op a b) _ operated own own is (arithmetic_seen op a b) refl
      operands_found (inr (op, is)) = two (Comparison op a b) _ operated own own is (comparison_seen op a b) refl

      pub shortcut_found : (form ≡ And a b) ⊎ (form ≡ Or a b) → first ≡ old ++ own x → new ≡ first ++ around y → new ≡ old ++ operated (form_of form)
      shortcut_found (inl is) = two (And a b) _ operated own around is (and_seen a b) refl
      shortcut_found (inr is) = two (Or a b) _ operated own around is (or_seen a b) refl

      pub reaching_found : ((n : ℕ) × form ≡ Index a b n) ⊎ (form ≡ Assign a b) → first ≡ old ++ reached x → new ≡ first ++ own y → new ≡ old ++ in_place (form_of form)
      reaching_found (inl (n, is)) = two (Index a b n) _ in_place reached own is (index_seen a b n) refl
      reaching_found (inr is) = two (Assign a b) _ in_place reached own is (assign_seen a b) refl

    -- an operand, and then nodes, of whichever call
    module _ (new : List Entry) (a : Box Node Global) (l slice : List Node) (x : Node) (is_x : x ≡ a.value) (is_l : slice ≡ l) where
      with_nodes : (f : Form) (plain : tree.Form) → form ≡ f → form_of f ≡ plain → membered plain ≡ own a.value ++ all_cells items (nodes_from (map tree_of l)) →
          first ≡ old ++ own x → new ≡ first ++ all_cells items (nodes_from (map tree_of slice)) → new ≡ old ++ membered (form_of form)
      with_nodes f plain is seen parts is_first is_new =
          found_of f plain membered new _ is seen (parts ∙ (λ i. own (sym is_x i) ++ all_cells items (nodes_from (map tree_of (sym is_l i))))) (two_behind old first new _ _ _ is_first refl is_new)

      pub call_found : ((n : ℕ) × form ≡ MethodCall n a l) ⊎ (((n : ℕ) × (m : ℕ) × form ≡ VirtualCall n m a l) ⊎ ((n : ℕ) × form ≡ ClosureCall n a l)) →
          first ≡ old ++ own x → new ≡ first ++ all_cells items (nodes_from (map tree_of slice)) → new ≡ old ++ membered (form_of form)
      call_found (inl (n, is)) = with_nodes (MethodCall n a l) _ is (method_call_seen n a l) refl
      call_found (inr (inl (n, m, is))) = with_nodes (VirtualCall n m a l) _ is (virtual_call_seen n m a l) refl
      call_found (inr (inr (n, is))) = with_nodes (ClosureCall n a l) _ is (closure_call_seen n a l) refl

    pub block_found : (new : List Entry) (s slice : List Node) (t : Option (Box Node Global)) → form ≡ Block s t → slice ≡ s →
        first ≡ old ++ all_cells items (nodes_from (map tree_of slice)) → new ≡ first ++ locals_if_any items AskedAs.Around (maybe_of t) → new ≡ old ++ stated (form_of form)
    block_found new s slice t is is_s is_first is_new =
        found_of (Block s t) _ stated new _ is (block_seen s t) refl
        (two_behind old first new _ _ _ is_first
        (ap (λ (l : List Node). all_cells items (nodes_from (map tree_of l)) ++ cells_if_any items false (maybe_of t)) (sym is_s)
        ∙ ap (λ (l : List Entry). all_cells items (nodes_from (map tree_of slice)) ++ l) (around_if_any items (maybe_of t)))
        is_new)

    pub match_found : (new : List Entry) (s : Box Node Global) (a slice : List Node) (x : Node) → form ≡ Match s a → x ≡ s.value → slice ≡ a →
        first ≡ old ++ reached x → new ≡ first ++ all_cells items (nodes_from (map tree_of slice)) → new ≡ old ++ branched (form_of form)
    match_found new s a slice x is is_x is_a is_first is_new =
        found_of (Match s a) _ branched new _ is (match_seen s a) refl
        (two_behind old first new _ _ _ is_first (λ i. reached (sym is_x i) ++ all_cells items (nodes_from (map tree_of (sym is_a i)))) is_new)

    pub let_found : (new : List Entry) (p : Box Node Global) (v : Option (Box Node Global)) (x y : Node) (asked : AskedAs) → form ≡ Let p v → x ≡ p.value → y ≡ p.value →
        asked ≡ asked_of_initialiser (form_of y.form) →
        first ≡ old ++ own x → new ≡ first ++ locals_if_any items asked (maybe_of v) → new ≡ old ++ stated (form_of form)
    let_found new p v x y asked is is_x is_y is_asked is_first is_new =
        let n = p.value in
        found_of (Let p v) _ stated new _ is (let_seen p v) refl
        (two_behind old first new _ _ _ is_first
        (ap (λ (y : Node). own y ++ initial_cells items (tree_of n) (maybe_of v)) (sym is_x)
        ∙ ap (λ (l : List Entry). own x ++ l)
        (ap (λ (t : tree.Node). initial_cells items t (maybe_of v)) (node_seen n)
        ∙ initialiser items n.id.0 n.at n.ty n.by (form_of n.form) (maybe_of v)
        ∙ ap (λ (a : AskedAs). locals_if_any items a (maybe_of v)) (sym (is_asked ∙ ap (λ (m : Node). asked_of_initialiser (form_of m.form)) is_y))))
        is_new)

    pub while_found : (new : List Entry) (c b : Box Node Global) (x y : Node) → form ≡ While c b → x ≡ c.value → y ≡ b.value →
        first ≡ old ++ own x → new ≡ first ++ own y → new ≡ old ++ stated (form_of form)
    while_found new c b x y is is_x is_y is_first is_new =
        found_of (While c b) _ stated new _ is (while_seen c b) refl (two_behind old first new _ _ _ is_first (λ i. own (sym is_x i) ++ own (sym is_y i)) is_new)

    module _ (second : List Entry) where
      pub if_found : (new : List Entry) (c t : Box Node Global) (o : Option (Box Node Global)) (x y : Node) → form ≡ If c t o → x ≡ c.value → y ≡ t.value →
          first ≡ old ++ own x → second ≡ first ++ around y → new ≡ second ++ locals_if_any items AskedAs.Around (maybe_of o) → new ≡ old ++ branched (form_of form)
      if_found new c t o x y is is_x is_y is_first is_second is_new =
          found_of (If c t o) _ branched new _ is (if_seen c t o) refl
          (three_behind old first second new _ _ _ _ is_first is_second
          (λ i. own (sym is_x i) ++ around (sym is_y i) ++ around_if_any items (maybe_of o) i) is_new)

      pub arm_found : (new : List Entry) (p : Box Node Global) (g : Option (Box Node Global)) (b : Box Node Global) (x y : Node) → form ≡ Arm p g b →
          x ≡ p.value → y ≡ b.value →
          first ≡ old ++ own x → second ≡ first ++ locals_if_any items AskedAs.Own (maybe_of g) → new ≡ second ++ around y → new ≡ old ++ branched (form_of form)
      arm_found new p g b x y is is_x is_y is_first is_second is_new =
          found_of (Arm p g b) _ branched new _ is (arm_seen p g b) refl
          (three_behind old first second new _ _ _ _ is_first is_second
          (λ i. own (sym is_x i) ++ own_if_any items (maybe_of g) i ++ around (sym is_y i)) is_new)

      pub while_let_found : (new : List Entry) (p s b : Box Node Global) (x y z : Node) → form ≡ WhileLet p s b → x ≡ p.value → y ≡ s.value → z ≡ b.value →
          first ≡ old ++ own x → second ≡ first ++ reached y → new ≡ second ++ own z → new ≡ old ++ stated (form_of form)
      while_let_found new p s b x y z is is_x is_y is_z is_first is_second is_new =
          found_of (WhileLet p s b) _ stated new _ is (while_let_seen p s b) refl
          (three_behind old first second new _ _ _ _ is_first is_second
          (λ i. own (sym is_x i) ++ reached (sym is_y i) ++ own (sym is_z i)) is_new)

      module _ (third : List Entry) where
        pub if_let_found : (new : List Entry) (p s t : Box Node Global) (o : Option (Box Node Global)) (x y z : Node) → form ≡ IfLet p s t o →
            x ≡ p.value → y ≡ s.value → z ≡ t.value →
            first ≡ old ++ own x → second ≡ first ++ reached y → third ≡ second ++ around z → new ≡ third ++ locals_if_any items AskedAs.Around (maybe_of o) →
            new ≡ old ++ branched (form_of form)
        if_let_found new p s t o x y z is is_x is_y is_z is_first is_second is_third is_new =
            found_of (IfLet p s t o) _ branched new _ is (if_let_seen p s t o) refl
            (two_behind old third new (own x ++ reached y ++ around z) _ _
            (three_behind old first second third _ _ _ _ is_first is_second refl is_third)
            (λ i. own (sym is_x i) ++ reached (sym is_y i) ++ around (sym is_z i) ++ around_if_any items (maybe_of o) i)
            is_new)
