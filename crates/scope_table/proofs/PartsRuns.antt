-- Each form runs its parts only where the table says: one line a form.
use Rattle.std.proofs.Common.{ℕ, Bool, true, false, List, [], ◌∷◌, ◌++◌, Option, refl, ap}
use Rattle.mir_base.specs.declared.place_in_text.Pos.{Pos}
use Rattle.mir_ty.specs.declared.ty.TyId.{TyId}
use Rattle.mir_ty.specs.Facts.{needs_drop}
use Rattle.mir_ty.specs.ItemTable.{ItemTable}
use Rattle.scope_table.proofs.Fresh.{Fresh, fresh_left, fresh_right, fresh_missing, fresh_inside}
use Rattle.scope_table.proofs.PartsRows.{in_scope_for}
use Rattle.scope_table.proofs.PartsRules.{Standing, first_ones, last_ones, mean, other, means, others, Same, Kept, operand_comes, reached_comes, scrutinised_comes, alone_comes, same_keys, same_moved, operands_same, same_fields, same_field_keys, fields_same, condition_same, branch_same, arms_same, guarded_same, taken_same, if_taken_same, if_taken_comes, block_same, letting_same, jump_same}
use Rattle.scope_table.proofs.Rules.{condition_nothing, alone_nothing, ends_nothing, stands_alone}
use Rattle.scope_table.proofs.SameRules.{opens, comes_of, same, same_then, then_same, choosing_same, scope_same, own_scope_same, pending_there, acting_same, turns_same}
use Rattle.scope_table.specs.declared.row.Within.{Within}
use Rattle.scope_table.specs.Law.{Held, entered, StandsIn}
use Rattle.scope_table.specs.Lines.{meaning_with, each_field as fields_with}
use Rattle.scope_table.specs.Parts.{Evaluated, ByItself, AsOperand, Reached, AsArm, each, own_scope_if, parts, within}
use Rattle.scope_table.specs.PartsLaw.{opened_in, heads_of, left_by, SameWhere, SameAs, Instead, PartsAreKept, RunsPartsOnlyThere}
use Rattle.scope_table.specs.Table.{named, both_in}
use Rattle.src_meaning.specs.Evaluation as evaluation
use Rattle.src_meaning.specs.Evaluation.{Evaluates, MakesInto, values_of, fields_of, to_own_key, a_value, a_place, a_scope, meaning, meaning_of, meanings, meaning_if_any, in_number_order}
use Rattle.src_meaning.specs.Forms as forms
use Rattle.src_meaning.specs.Forms.{Destination, Into, coerced, LoopsAndGuards, in_loop, loop_destination, Meaning, moved, all_moved, acts, deliver, put_unit, alone, operand, operands, scrutinised, arms_in_order, is_never, place_of}
use Rattle.src_meaning.specs.Scopes.{Breaks, Returns, Value, At, Does, ◌>>◌, back_in}
use Rattle.src_meaning.specs.Shape.{NodeHead, head, Shape, operand_at, shape_of}
use Rattle.store_model.specs.Effects as effects
use Rattle.store_model.specs.Effects.{EffectSite, Operand, Action, Effects}
use Rattle.typed_tree.specs.declared.node.Use.{Use}
use Rattle.typed_tree.specs.Nodes.{nodes_of, nodes_in, nodes_among, nodes_if_any}
use Rattle.typed_tree.specs.Tree.{Node, node, Form, Nodes, a_node, Number, Truth, UnitValue, Variable, Captured, Field, Index, Deref, Not, Negate, Arithmetic, Comparison, And, Or, Assign, Call, MethodCall, VirtualCall, ClosureCall, Make, Tuple, Array, Closure, NewBox, Print, Ask, DropValue, Forget, Panic, Borrow, Unsize, Block, Let, Evaluate, If, IfLet, Match, Arm, Loop, While, WhileLet, Break, Continue, Return, Wildcard, Binding, NumberPattern, TruthPattern, StructPattern, VariantPattern, TuplePattern, ArrayPattern, OrPattern}

module _ {W : Type 0} (items : ItemTable) (p : Effects W) (fuel : ℕ) where
  -- one meaning does the same as another, in each of its roles, if its parts are kept: where it is run by itself, and
  -- where it is not
  pub record Follows (H : Held) (kept : Bool → Type 0) (one another : Meaning W) : Type 0 where
    pub evaluated : kept false → SameAs items p Evaluated H one another
    pub by_itself : kept true → SameAs items p ByItself H one another
    pub reached : kept false → SameAs items p Reached H one another
    pub as_arm : kept false → SameAs items p AsArm H one another

  -- a node without parts
  of_leaf : (H : Held) (kept : Bool → Type 0) (n : Meaning W) → SameAs items p AsArm H n n → Follows H kept n n
  of_leaf H kept n arms = record {
    evaluated = λ k around to. same H (n.evaluate around false to);
    by_itself = λ k around to. same H (alone items p around n to);
    reached = λ k around. same H (n.reach around);
    as_arm = λ k. arms;
  }

  module _ (H : Held) (kept : Bool → Type 0) (h : NodeHead) (s : Shape) where
    of_value : (e e' : Evaluates items p fuel) →
        ((own : Bool) → kept own → (around : LoopsAndGuards) (to : Destination) →
        SameWhere H (e around own to) (e' around own to)) →
        Follows H kept (a_value items p fuel h s e) (a_value items p fuel h s e')
    of_value e e' line =
        let key = to_own_key (is_never items h.ty) h.id in
        record {
          evaluated = λ k around to. line false k around (key to);
          by_itself = λ k around to S is x. ap (back_in S) (line true k around (key to) S is x);
          reached = λ k around.
              pending_there items p H s.in_destination h _ _
              (same_then H (e around false (key (Into h.id))) (e' around false (key (Into h.id))) _
              (line false k around (key (Into h.id))));
          as_arm = λ k matched next after one around to. same H (At Value);
        }

    of_scope : (d d' : MakesInto items p fuel) →
        ((own : Bool) → kept own → (around : LoopsAndGuards) (to : Destination) →
        SameWhere (opened_in h.id (own_scope_if own) H) (d around to) (d' around to)) →
        Follows H kept (a_scope items p fuel h s d) (a_scope items p fuel h s d')
    of_scope d d' line =
        of_value _ _ (λ own k around to. own_scope_same items p H h own (d around to) (d' around to)
        (line own k around to))

    of_place : (r r' : LoopsAndGuards → Does W) →
        ((own : Bool) → kept own → (around : LoopsAndGuards) →
        SameWhere (opened_in h.id (own_scope_if own) H) (r around) (r' around)) →
        Follows H kept (a_place items p fuel h s r) (a_place items p fuel h s r')
    of_place r r' line =
        let key = to_own_key (is_never items h.ty) h.id in
        let used = λ (around : LoopsAndGuards) (to : Destination). deliver items p h
        (λ site. effects.Put site (operand_at h (s.place around.aliases))) to in
        record {
          evaluated = λ k around to. same_then H (r around) (r' around) (used around (key to)) (line false k around);
          by_itself = λ k around to S is x.
              ap (back_in S) (scope_same items p H h.id true (r around >> used around (key to))
              (r' around >> used around (key to))
              (same_then (opens h.id true H) (r around) (r' around) (used around (key to)) (line true k around)) S is
              x);
          reached = λ k around. line false k around;
          as_arm = λ k matched next after one around to. same H (At Value);
        }

module _ {W : Type 0} (items : ItemTable) (p : Effects W) (fuel : ℕ) (instead : Instead W) (w : Within) (H : Held)
    (id : ℕ) (at : Pos) (ty : TyId) (by : Option Use) where
  abbrev h : NodeHead
  h = head id ty by

  abbrev m : Node → Meaning W
  m n = mean items p fuel instead n

  abbrev o : Node → Meaning W
  o n = other items p fuel instead n

  abbrev ms : Nodes → List (Meaning W)
  ms nodes = means items p fuel instead nodes

  abbrev os : Nodes → List (Meaning W)
  os nodes = others items p fuel instead nodes

  abbrev before : Form → Meaning W
  before form = meaning_of items p fuel form h (shape_of items form h)

  -- in the scope of a form, in the scopes of what has none, and in that of a scrutinee
  abbrev K : Bool → Held
  K own = opens id own H

  abbrev L : Bool → Held
  L own = opened_in id (own_scope_if own) H

  abbrev w_in : Bool → Within
  w_in own = within (named id) (own ∷ []) w

  abbrev w_at : Bool → Within
  w_at own = within (named id) (own_scope_if own) w

  abbrev Line : Form → Type 0
  Line form =
      StandsIn w (heads_of H) → Fresh (heads_of H) (nodes_of (node id at ty by form)) → Follows items p fuel H
      (λ own. PartsAreKept items p fuel instead (named id) w H (parts own form))
      (meaning_with items p fuel (other items p fuel instead) form h (shape_of items form h))
      (meaning_of items p fuel form h (shape_of items form h))

  inside : (form : Form) (own : Bool) → StandsIn w (heads_of H) →
      Fresh (heads_of H) (nodes_of (node id at ty by form)) → Standing (w_in own) (K own) (nodes_in form)
  inside form own st g = record {
    stands = in_scope_for own w H id st g.0;
    fresh = fresh_inside (heads_of H) id own (nodes_in form) g.1.0 g.1.1;
  }

  beside : (form : Form) (own : Bool) → StandsIn w (heads_of H) →
      Fresh (heads_of H) (nodes_of (node id at ty by form)) → Standing (w_at own) (L own) (nodes_in form)
  beside form true st g = inside form true st g
  beside form false st g = record { stands = st; fresh = g.1.1 }

  -- the scope of a scrutinee, within those in which the form stands
  matched : (form : Form) (own : Bool) → StandsIn w (heads_of H) →
      Fresh (heads_of H) (nodes_of (node id at ty by form)) →
      Standing (both_in (named id)) (opens id true (L own)) (nodes_in form)
  matched form own st g = record {
    stands = stands_alone (heads_of (L own)) id;
    fresh = fresh_inside (heads_of (L own)) id true (nodes_in form) g.1.0 (beside form own st g).fresh;
  }

  missing : (form : Form) (own : Bool) → StandsIn w (heads_of H) →
      Fresh (heads_of H) (nodes_of (node id at ty by form)) → Fresh (heads_of (L own)) (nodes_in form)
  missing form own st g = (beside form own st g).fresh

  -- a form with one operand, with two
  one_operand : (n : Node) (act : LoopsAndGuards → Destination → Does W) →
      ((own : Bool) → Same items p fuel instead AsOperand (K own) n → (around : LoopsAndGuards) (to : Destination) →
      SameWhere H (forms.acting items p h around own (o n ∷ []) (act around to))
      (forms.acting items p h around own (m n ∷ []) (act around to)))
  one_operand n act own k around to =
      acting_same items p H h around own (o n ∷ []) (m n ∷ []) (act around to) (act around to)
      (same_then (K own) (operand items p around (o n)) (operand items p around (m n)) (At Value) (k around)) refl refl

  two_operands : (a b : Node) (own : Bool) → Standing (w_in own) (K own) (nodes_of a) →
      Same items p fuel instead AsOperand (K own) a →
      Same items p fuel instead AsOperand (entered (left_by (w_in own) AsOperand a) (K own)) b →
      (act : Does W) (around : LoopsAndGuards) → SameWhere H (forms.acting items p h around own (o a ∷ o b ∷ []) act)
      (forms.acting items p h around own (m a ∷ m b ∷ []) act)
  two_operands a b own st one another act around =
      let made = entered (left_by (w_in own) AsOperand a) (K own) in
      acting_same items p H h around own (o a ∷ o b ∷ []) (m a ∷ m b ∷ []) act act
      (then_same (K own) made (operand items p around (o a)) (operand items p around (m a))
      (operands items p around (o b ∷ [])) (operands items p around (m b ∷ []))
      (one around) (operand_comes items p fuel instead (w_in own) (K own) a st around)
      (same_then made (operand items p around (o b)) (operand items p around (m b)) (At Value) (another around))) refl
      refl

  many_operands : (nodes : Nodes) (own : Bool) → Standing (w_in own) (K own) (nodes_among nodes) →
      Kept items p fuel instead (w_in own) (K own) (each AsOperand nodes) →
      (action : EffectSite → List Operand → Action) (around : LoopsAndGuards) (to : Destination) →
      SameWhere H (forms.acting items p h around own (os nodes)
      (deliver items p h (λ site. action site (all_moved id (os nodes))) to))
      (forms.acting items p h around own (ms nodes)
      (deliver items p h (λ site. action site (all_moved id (ms nodes))) to))
  many_operands nodes own st k action around to =
      acting_same items p H h around own (os nodes) (ms nodes) _ _
      (operands_same items p fuel instead (w_in own) (K own) nodes st k around) (same_keys items p fuel instead nodes)
      (ap (λ (l : List Operand). deliver items p h (λ site. action site l) to)
      (same_moved items p fuel instead id nodes))

  first_and_others : (n : Node) (nodes : Nodes) (own : Bool) →
      Standing (w_in own) (K own) (nodes_of n ++ nodes_among nodes) → Same items p fuel instead AsOperand (K own) n →
      Kept items p fuel instead (w_in own) (entered (left_by (w_in own) AsOperand n) (K own)) (each AsOperand nodes) →
      (action : EffectSite → List Operand → Action) (around : LoopsAndGuards) (to : Destination) →
      SameWhere H (forms.acting items p h around own (o n ∷ os nodes)
      (deliver items p h (λ site. action site (all_moved id (o n ∷ os nodes))) to))
      (forms.acting items p h around own (m n ∷ ms nodes)
      (deliver items p h (λ site. action site (all_moved id (m n ∷ ms nodes))) to))
  first_and_others n nodes own st one k action around to =
      many_operands (a_node n nodes) own st (one, k) action around to

  line : (form : Form) → Line form
  line (Number value) st g =
      of_leaf items p fuel H _ (before (Number value)) (λ matched next after one around to. same H (At Value))
  line (Truth value) st g =
      of_leaf items p fuel H _ (before (Truth value)) (λ matched next after one around to. same H (At Value))
  line UnitValue st g =
      of_leaf items p fuel H _ (before UnitValue) (λ matched next after one around to. same H (At Value))
  line (Variable key) st g =
      of_leaf items p fuel H _ (before (Variable key)) (λ matched next after one around to. same H (At Value))
  line (Captured closure number name) st g =
      of_leaf items p fuel H _ (before (Captured closure number name))
      (λ matched next after one around to. same H (At Value))
  line (Field base number) st g = of_place items p fuel H _ h _ _ _ (λ own k around. k.0.0 around)
  line (Deref base) st g = of_place items p fuel H _ h _ _ _ (λ own k around. k.0.0 around)
  line (Index base index length) st g = of_place items p fuel H _ h _ _ _ (λ own k around.
      then_same (L own) (entered (left_by (w_at own) Reached base) (L own)) ((o base).reach around)
      ((m base).reach around) _ _ (k.0.0 around)
      (reached_comes items p fuel instead (w_at own) (L own) base
      (first_ones (w_at own) (L own) (nodes_of base) (nodes_of index) (beside (Index base index length) own st g))
      around)
      (same_then (entered (left_by (w_at own) Reached base) (L own))
      ((o index).evaluate around false (Into (m index).head.id))
      ((m index).evaluate around false (Into (m index).head.id)) _ (k.0.1.0 around (Into (m index).head.id))))
  line (Not operand) st g =
      of_value items p fuel H _ h _ _ _ (λ own k around to. one_operand operand
      (λ around to. deliver items p h (λ site. effects.Not site (moved id (m operand).head.id)) to) own k.0.0 around to)
  line (Negate operand) st g =
      of_value items p fuel H _ h _ _ _ (λ own k around to. one_operand operand
      (λ around to. deliver items p h (λ site. effects.Negate site (moved id (m operand).head.id)) to) own k.0.0
      around to)
  line (Arithmetic operator left right) st g = of_value items p fuel H _ h _ _ _ (λ own k around to.
      two_operands left right own (first_ones (w_in own) (K own) (nodes_of left) (nodes_of right)
      (inside (Arithmetic operator left right) own st g)) k.0.0 k.0.1.0
      (deliver items p h (λ site. effects.Compute site operator (moved id (m left).head.id)
      (moved id (m right).head.id)) to) around)
  line (Comparison operator left right) st g = of_value items p fuel H _ h _ _ _ (λ own k around to.
      two_operands left right own (first_ones (w_in own) (K own) (nodes_of left) (nodes_of right)
      (inside (Comparison operator left right) own st g)) k.0.0 k.0.1.0
      (deliver items p h (λ site. effects.Compare site operator (moved id (m left).head.id)
      (moved id (m right).head.id)) to) around)
  line (And left right) st g = of_scope items p fuel H _ h _ _ _ (λ own k around to.
      let says = evaluation.shortcut items p fuel h false to in
      condition_same items p fuel instead (L own) left around (alone items p around (o right) to)
      (alone items p around (m right) to) says says k.0.0 (k.0.1.0 around to) (same (L own) says))
  line (Or left right) st g = of_scope items p fuel H _ h _ _ _ (λ own k around to.
      let says = evaluation.shortcut items p fuel h true to in
      condition_same items p fuel instead (L own) left around says says (alone items p around (o right) to)
      (alone items p around (m right) to) k.0.0 (same (L own) says) (k.0.1.0 around to))
  line (Assign target value) st g = of_value items p fuel H _ h _ _ _ (λ own k around to.
      let made = entered (left_by (w_in own) AsOperand value) (K own) in
      let stores = forms.replacing items p (needs_drop items (m target).head.ty) (forms.site_of (m target) around)
      (m value).head.id >> put_unit items p h to in
      scope_same items p H id own _ _
      (then_same (K own) made (operand items p around (o value)) (operand items p around (m value)) _ _ (k.0.0 around)
      (operand_comes items p fuel instead (w_in own) (K own) value
      (last_ones (w_in own) (K own) (nodes_of target) (nodes_of value) (inside (Assign target value) own st g)) around)
      (same_then made ((o target).reach around) ((m target).reach around) stores (k.0.1.0 around))))
  line (Call body args) st g =
      of_value items p fuel H _ h _ _ _ (λ own k around to. many_operands args own (inside (Call body args) own st g)
      k.0 (λ site. effects.Call site body) around to)
  line (MethodCall body receiver args) st g =
      of_value items p fuel H _ h _ _ _ (λ own k around to. first_and_others receiver args own
      (inside (MethodCall body receiver args) own st g) k.0.0 k.0.1 (λ site. effects.Call site body) around to)
  line (VirtualCall trait_no method receiver args) st g =
      of_value items p fuel H _ h _ _ _ (λ own k around to. first_and_others receiver args own
      (inside (VirtualCall trait_no method receiver args) own st g) k.0.0 k.0.1
      (λ site. effects.CallVirtual site trait_no method) around to)
  line (ClosureCall body callee args) st g =
      of_value items p fuel H _ h _ _ _ (λ own k around to. first_and_others callee args own
      (inside (ClosureCall body callee args) own st g) k.0.0 k.0.1 (λ site. effects.Call site body) around to)
  line (Make adt variant fields) st g = of_value items p fuel H _ h _ _ _ (λ own k around to.
      acting_same items p H h around own (values_of (fields_with items p fuel o fields))
      (values_of (fields_of items p fuel fields)) _ _
      (fields_same items p fuel instead (w_in own) (K own) fields (inside (Make adt variant fields) own st g) k.0
      around) (same_field_keys items p fuel instead fields)
      (ap (λ (l : List Operand). deliver items p h (λ site. effects.Build site (effects.OfVariant adt variant) l) to)
      (same_fields items p fuel instead id fields)))
  line (Tuple elements) st g =
      of_value items p fuel H _ h _ _ _ (λ own k around to. many_operands elements own
      (inside (Tuple elements) own st g) k.0 (λ site. effects.Build site effects.OfTuple) around to)
  line (Array elements) st g =
      of_value items p fuel H _ h _ _ _ (λ own k around to. many_operands elements own
      (inside (Array elements) own st g) k.0 (λ site. effects.Build site effects.OfArray) around to)
  line (Closure closure captures) st g =
      of_value items p fuel H _ h _ _ _ (λ own k around to. many_operands captures own
      (inside (Closure closure captures) own st g) k.0 (λ site. effects.Build site (effects.OfClosure closure)) around
      to)
  line (NewBox content) st g =
      of_value items p fuel H _ h _ _ _ (λ own k around to. one_operand content
      (λ around to. deliver items p h (λ site. effects.NewBox site (moved id (m content).head.id)) to) own k.0.0
      around to)
  line (Print operand) st g =
      of_value items p fuel H _ h _ _ _ (λ own k around to. one_operand operand
      (λ around to. evaluation.unit_after items p fuel h (effects.Print (moved id (m operand).head.id)) to) own k.0.0
      around to)
  line Ask st g = of_leaf items p fuel H _ (before Ask) (λ matched next after one around to. same H (At Value))
  line (DropValue dropped) st g =
      of_value items p fuel H _ h _ _ _ (λ own k around to. scope_same items p H id own _ _
      (same_then (K own) (operand items p around (o dropped)) (operand items p around (m dropped))
      (put_unit items p h to) (k.0.0 around)))
  line (Forget operand) st g =
      of_value items p fuel H _ h _ _ _ (λ own k around to. one_operand operand
      (λ around to. evaluation.unit_after items p fuel h (effects.Forget (moved id (m operand).head.id)) to) own k.0.0
      around to)
  line Panic st g = of_leaf items p fuel H _ (before Panic) (λ matched next after one around to. same H (At Value))
  line (Borrow unique base) st g = of_value items p fuel H _ h _ _ _ (λ own k around to.
      own_scope_same items p H h own _ _ (same_then (L own) ((o base).reach around) ((m base).reach around)
      (deliver items p h (λ site. effects.Borrow (record site { node = (m base).head.id }) unique
      (forms.site_of (m base) around)) to) (k.0.0 around)))
  line (Unsize trait_no operand) st g = record {
    evaluated = λ k around to.
        k.0.0 around (coerced (m operand).head.id trait_no (to_own_key (is_never items ty) id to));
    by_itself = λ k around to.
        k.0.0 around (coerced (m operand).head.id trait_no (to_own_key (is_never items ty) id to));
    reached = λ k around.
        pending_there items p H false h _ _
        (same_then H _ _ _ (k.0.0 around
        (coerced (m operand).head.id trait_no (to_own_key (is_never items ty) id (Into id)))));
    as_arm = λ k matched next after one around to. same H (At Value);
  }
  line (Block stmts tail) st g = of_value items p fuel H _ h _ _ _ (λ own k around to.
      scope_same items p H id own _ _ (block_same items p fuel instead (w_in own) (K own) h stmts tail
      (first_ones (w_in own) (K own) (nodes_among stmts) (nodes_if_any tail) (inside (Block stmts tail) own st g)) k.0
      around to))
  line (Let pattern initialiser) st g =
      of_value items p fuel H _ h _ _ _ (λ own k around to. letting_same items p fuel instead (both_in (named id)) H h
      pattern initialiser k.0 around)
  line (Evaluate expression) st g =
      of_value items p fuel H _ h _ _ _ (λ own k around to. scope_same items p H id true _ _ (k.0.0 around))
  line (If condition consequent otherwise) st g = of_scope items p fuel H _ h _ _ _ (λ own k around to.
      condition_same items p fuel instead (L own) condition around _ _ _ _ k.0.0 (k.0.1.0 around to)
      (branch_same items p fuel instead (w_at own) (L own) otherwise around to (put_unit items p h to) k.0.1.1))
  line (IfLet pattern scrutinee consequent otherwise) st g = of_scope items p fuel H _ h _ _ _ (λ own k around to.
      let form = IfLet pattern scrutinee consequent otherwise in
      let before = nodes_of pattern ++ nodes_of scrutinee in
      let all = (before ++ nodes_of consequent) in
      let inside_st = first_ones (both_in (named id)) (opens id true (L own)) all (nodes_if_any otherwise)
      (matched form own st g) in
      if_taken_same items p fuel instead (L own) h pattern scrutinee
      (last_ones (both_in (named id)) (opens id true (L own)) (nodes_of pattern) (nodes_of scrutinee)
      (first_ones (both_in (named id)) (opens id true (L own)) before (nodes_of consequent) inside_st))
      (fresh_missing (heads_of (L own)) (nodes_of scrutinee)
      (fresh_right (heads_of (L own)) (nodes_of pattern) (nodes_of scrutinee)
      (fresh_left (heads_of (L own)) before (nodes_of consequent)
      (fresh_left (heads_of (L own)) all (nodes_if_any otherwise) (missing form own st g)))))
      around _ _ _ _ k.0.0 (k.0.1.1.0 around to)
      (branch_same items p fuel instead (w_at own) (L own) otherwise around to (put_unit items p h to) k.1.0))
  line (Match scrutinee arms) st g = of_value items p fuel H _ h _ _ _ (λ own k around to.
      let made = entered (left_by (w_at own) Reached scrutinee) (L own) in
      own_scope_same items p H h own _ _
      (then_same (L own) made (scrutinised items p around (o scrutinee)) (scrutinised items p around (m scrutinee)) _ _
      (same_then (L own) ((o scrutinee).reach around) ((m scrutinee).reach around) _ (k.0.0 around))
      (scrutinised_comes items p fuel instead (w_at own) (L own) scrutinee
      (first_ones (w_at own) (L own) (nodes_of scrutinee) (nodes_among arms) (beside (Match scrutinee arms) own st g))
      around)
      (arms_same items p fuel instead (w_at own) made arms (place_of (m scrutinee) around) k.0.1 around to)))
  line (Arm pattern guard body) st g = record {
    evaluated = λ k around to. same H (At Value);
    by_itself = λ k around to. same H _;
    reached = λ k around. same H _;
    as_arm = λ k matched next after one around to.
        choosing_same H _ _ _ next after
        (guarded_same items p fuel instead w H pattern matched guard around _ _ next after k.0
        (taken_same items p fuel instead w.temporary H h pattern body matched around to k.1.0.1.0) one) one;
  }
  line (Loop body) st g = of_scope items p fuel H _ h _ _ _ (λ own k around to.
      let inner = in_loop id to around in
      turns_same items p (L own) id fuel _ _ (k.0.0 inner (Into (m body).head.id))
      (alone_comes items p fuel instead (L own) body inner (Into (m body).head.id)))
  line (While condition body) st g = of_scope items p fuel H _ h _ _ _ (λ own k around to.
      let inner = in_loop id to around in
      let ends = forms.ends_loop items p h to in
      let turn = alone items p inner (m body) (Into (m body).head.id) in
      turns_same items p (L own) id fuel _ _
      (condition_same items p fuel instead (L own) condition inner _ _ ends ends k.0.0
      (k.0.1.0 inner (Into (m body).head.id)) (same (L own) ends))
      (comes_of (L own) [] (forms.condition items p inner (m condition) turn ends)
      (condition_nothing items p inner (m condition) turn ends
      (alone_nothing items p inner (m body) (Into (m body).head.id)) (ends_nothing items p h to) (heads_of (L own)))))
  line (WhileLet pattern scrutinee body) st g = of_scope items p fuel H _ h _ _ _ (λ own k around to.
      let form = WhileLet pattern scrutinee body in
      let before = nodes_of pattern ++ nodes_of scrutinee in
      let inner = in_loop id to around in
      let ends = forms.ends_loop items p h to in
      let in_scrutinee = last_ones (both_in (named id)) (opens id true (L own)) (nodes_of pattern)
      (nodes_of scrutinee) (first_ones (both_in (named id)) (opens id true (L own)) before (nodes_of body)
      (matched form own st g)) in
      let out = fresh_missing (heads_of (L own)) (nodes_of scrutinee)
      (fresh_right (heads_of (L own)) (nodes_of pattern) (nodes_of scrutinee)
      (fresh_left (heads_of (L own)) before (nodes_of body) (missing form own st g))) in
      turns_same items p (L own) id fuel _ _
      (if_taken_same items p fuel instead (L own) h pattern scrutinee in_scrutinee out inner _ _ ends ends k.0.0
      (k.0.1.1.0 inner (Into (m body).head.id)) (same (L own) ends))
      (if_taken_comes items p fuel instead (L own) h pattern scrutinee in_scrutinee out inner
      (alone items p inner (m body) (Into (m body).head.id)) ends
      (alone_comes items p fuel instead _ body inner (Into (m body).head.id))
      (comes_of (L own) [] ends (ends_nothing items p h to (heads_of (L own))))))
  line (Break loop value) st g = of_scope items p fuel H _ h _ _ _ (λ own k around to.
      same_then (L own) _ _ (At (Breaks loop))
      (jump_same items p fuel instead (w_at own) (L own) h value k.0 around (loop_destination loop around.loops)))
  line (Continue loop) st g =
      of_leaf items p fuel H _ (before (Continue loop)) (λ matched next after one around to. same H (At Value))
  line (Return value) st g = of_scope items p fuel H _ h _ _ _ (λ own k around to.
      same_then (L own) _ _ (At Returns) (jump_same items p fuel instead (w_at own) (L own) h value k.0 around
      around.answer))
  line Wildcard st g =
      of_leaf items p fuel H _ (before Wildcard) (λ matched next after one around to. same H (At Value))
  line (Binding name) st g =
      of_leaf items p fuel H _ (before (Binding name)) (λ matched next after one around to. same H (At Value))
  line (NumberPattern value) st g =
      of_leaf items p fuel H _ (before (NumberPattern value)) (λ matched next after one around to. same H (At Value))
  line (TruthPattern value) st g =
      of_leaf items p fuel H _ (before (TruthPattern value)) (λ matched next after one around to. same H (At Value))
  line (StructPattern fields) st g =
      of_leaf items p fuel H _ (before (StructPattern fields)) (λ matched next after one around to. same H (At Value))
  line (VariantPattern variant is_test fields) st g =
      of_leaf items p fuel H _ (before (VariantPattern variant is_test fields))
      (λ matched next after one around to. same H (At Value))
  line (TuplePattern elements) st g =
      of_leaf items p fuel H _ (before (TuplePattern elements)) (λ matched next after one around to. same H (At Value))
  line (ArrayPattern elements) st g =
      of_leaf items p fuel H _ (before (ArrayPattern elements)) (λ matched next after one around to. same H (At Value))
  line (OrPattern alternatives) st g =
      of_leaf items p fuel H _ (before (OrPattern alternatives)) (λ matched next after one around to. same H (At Value))

module _ {W : Type 0} (items : ItemTable) (p : Effects W) (fuel : ℕ) (instead : Instead W) where
  pub runs_only_there : (w : Within) (H : Held) (n : Node) → StandsIn w (heads_of H) →
      Fresh (heads_of H) (nodes_of n) → RunsPartsOnlyThere items p fuel instead w H n
  runs_only_there w H (node id at ty by form) st g =
      let lines = line items p fuel instead w H id at ty by form st g in
      record {
        evaluated = λ k. lines.evaluated k;
        by_itself = λ k. lines.by_itself k;
        reached = λ k. lines.reached k;
        as_arm = λ k. lines.as_arm k;
      }
