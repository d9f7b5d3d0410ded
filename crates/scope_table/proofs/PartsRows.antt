-- The table has the rows of the parts of each form, and takes the scopes to stand as they do for each part.
use Rattle.std.proofs.Common.{◌≡◌, ◌∙◌, Bool, true, false, ℕ, List, [], ◌∷◌, ◌++◌, refl, sym, ap, append_assoc, append-nil}
use Rattle.mir_base.specs.declared.place_in_text.NodeId.{NodeId}
use Rattle.mir_base.specs.declared.place_in_text.Pos.{Pos}
use Rattle.mir_ty.specs.declared.ty.TyId.{TyId}
use Rattle.scope_table.proofs.Entering.{Missing}
use Rattle.scope_table.proofs.Fresh.{Fresh, fresh_of}
use Rattle.scope_table.proofs.OneName.{Kind, one_name, no_name, kind_in}
use Rattle.scope_table.proofs.Rules.{stands_inside, stands_alone}
use Rattle.scope_table.specs.declared.row.MadeAround.{MadeAround}
use Rattle.scope_table.specs.declared.row.ScopeRow.{ScopeRow}
use Rattle.scope_table.specs.declared.row.Within.{Within}
use Rattle.scope_table.specs.Law.{Held, StandsIn}
use Rattle.scope_table.specs.Parts.{Role, Evaluated, ByItself, AsOperand, AsArm, if_any, each, each_field, own_scope_if, let_role, parts, within, rows_of, rows_of_steps, rows_of_parts, names_of_let, within_node, HasRowsOfItsParts}
use Rattle.scope_table.specs.PartsLaw.{opened_in, heads_of, PartsStand, TableHasTheParts}
use Rattle.scope_table.specs.Table.{nothing, named, both_in, inner, row, reached_in, name_in, alone_rows, initial, let_name, rows, rows_in, alone_if_any, rows_if_any, operand_rows, field_rows, statement_rows, let_rows, arm_rows_of, rows_of_arms, is_arm, where_true, where_false, form_of, pattern_rows}
use Rattle.typed_tree.specs.declared.node.Use.{Use}
use Rattle.typed_tree.specs.Nodes.{number_of, nodes_of}
use Rattle.typed_tree.specs.Tree.{Node, node, Form, Nodes, no_node, a_node, Fields, no_field, a_field, MaybeNode, absent, present, Number, Truth, UnitValue, Variable, Captured, Field, Index, Deref, Not, Negate, Arithmetic, Comparison, And, Or, Assign, Call, MethodCall, VirtualCall, ClosureCall, Make, Tuple, Array, Closure, NewBox, Print, Ask, DropValue, Forget, Panic, Borrow, Unsize, Block, Let, Evaluate, If, IfLet, Match, Arm, Loop, While, WhileLet, Break, Continue, Return, Wildcard, Binding, NumberPattern, TruthPattern, StructPattern, VariantPattern, TuplePattern, ArrayPattern, OrPattern}
use Rattle.std.specs.Prelude.{Option}

-- Rows of steps that are put together in another order.

module _ {A : Type 0} where
  many : (a x : List A) → a ≡ x → a ≡ (x ++ []) ++ []
  many a x is = is ∙ sym (append-nil (x ++ []) ∙ append-nil x)

  one : (a : List A) → a ≡ ((a ++ []) ++ []) ++ []
  one a = many a (a ++ []) (sym (append-nil a))

  more : (a b x : List A) → b ≡ x → a ++ b ≡ ((a ++ x) ++ []) ++ []
  more a b x is = many (a ++ b) (a ++ x) (ap (λ (c : List A). a ++ c) is)

  two : (a b : List A) → a ++ b ≡ ((a ++ (b ++ [])) ++ []) ++ []
  two a b = more a b (b ++ []) (sym (append-nil b))

  three : (a b c x : List A) → c ≡ x → (a ++ b) ++ c ≡ ((a ++ (b ++ x)) ++ []) ++ []
  three a b c x is = append_assoc a b c ∙ more a (b ++ c) (b ++ x) (ap (λ (d : List A). b ++ d) is)

  four : (a b c d x : List A) → d ≡ x → ((a ++ b) ++ c) ++ d ≡ ((a ++ (b ++ (c ++ []))) ++ (x ++ [])) ++ []
  four a b c d x is =
      ap (λ (l : List A). l ++ d) (append_assoc a b c)
      ∙ ap (λ (l : List A). (a ++ (b ++ l)) ++ d) (sym (append-nil c))
      ∙ ap (λ (l : List A). (a ++ (b ++ (c ++ []))) ++ l) (is ∙ sym (append-nil x))
      ∙ sym (append-nil ((a ++ (b ++ (c ++ []))) ++ (x ++ [])))

  of_an_arm : (own : A) (g b c x : List A) → g ≡ x → own ∷ ((g ++ b) ++ c) ≡ own ∷ (x ++ ((b ++ (c ++ [])) ++ []))
  of_an_arm own g b c x is =
      ap (λ (l : List A). own ∷ l)
      (append_assoc g b c ∙ ap (λ (l : List A). g ++ (b ++ l)) (sym (append-nil c)) ∙ ap
      (λ (l : List A). l ++ (b ++ (c ++ []))) is
      ∙ ap (λ (l : List A). x ++ l) (sym (append-nil (b ++ (c ++ [])))))

-- Rows of several parts.

operand_steps : (w : Within) (nodes : Nodes) → operand_rows w w.innermost nodes ≡ rows_of_steps w (each AsOperand nodes)
operand_steps w no_node = refl
operand_steps w (a_node first rest) = ap (λ (l : List ScopeRow). rows_of w AsOperand first ++ l) (operand_steps w rest)

field_steps : (w : Within) (fields : Fields) → field_rows w w.innermost fields
    ≡ rows_of_steps w (each_field AsOperand fields)
field_steps w no_field = refl
field_steps w (a_field number value rest) =
    ap (λ (l : List ScopeRow). rows_of w AsOperand value ++ l) (field_steps w rest)

arm_steps : (w : Within) (arms : Nodes) → rows_of_arms w.temporary arms ≡ rows_of_steps w (each AsArm arms)
arm_steps w no_node = refl
arm_steps w (a_node first rest) = ap (λ (l : List ScopeRow). rows_of w AsArm first ++ l) (arm_steps w rest)

alone_steps : (w : Within) (o : MaybeNode) → alone_if_any o ≡ rows_of_steps w (if_any ByItself o)
alone_steps w absent = refl
alone_steps w (present value) = sym (append-nil (rows_of w ByItself value))

any_steps : (w : Within) (o : MaybeNode) → rows_if_any w o ≡ rows_of_steps w (if_any Evaluated o)
any_steps w absent = refl
any_steps w (present value) = sym (append-nil (rows_of w Evaluated value))

block_steps : (w : Within) (statements : Nodes) (tail : MaybeNode) → statement_rows w statements ++ alone_if_any tail
    ≡ rows_of_steps w (each Evaluated statements ++ if_any ByItself tail)
block_steps w no_node tail = alone_steps w tail
block_steps w (a_node first rest) tail =
    append_assoc (rows_of w Evaluated first) (statement_rows w rest) (alone_if_any tail)
    ∙ ap (λ (l : List ScopeRow). rows_of w Evaluated first ++ l) (block_steps w rest tail)

let_step : (id : NodeId) (form : Form) (value : Node) → rows (both_in id) (initial id form value) value
    ≡ rows_of (both_in id) (let_role form) value
let_step id form value = by form (kind_in form)
  where
    by : (form : Form) → Kind form → rows (both_in id) (initial id form value) value
        ≡ rows_of (both_in id) (let_role form) value
    by _ (one_name text) = refl
    by _ (no_name form none first name unnamed role) =
        ap (λ (made : MadeAround). rows (both_in id) made value) (first id value) ∙ ap
        (λ (r : Role). rows_of (both_in id) r value) (sym role)

-- One line a form.

module _ (w : Within) (id : ℕ) (at : Pos) (ty : TyId) (by : Option Use) where
  abbrev of_own : Bool → Form → Within
  of_own own form = within_node own (node id at ty by form) w

  of_let : (own : Bool) (n : Node) (pattern : Node) (o : MaybeNode) →
      let_rows (named id) (within_node own n w).innermost pattern o
      ≡ rows_of_parts (named id) w (parts own (Let pattern o)) ++ names_of_let (within_node own n w) (named id)
      (Let pattern o)
  of_let own n pattern absent = refl
  of_let own n pattern (present value) =
      ap (λ (l : List ScopeRow). l ++ pattern_rows (named id)
      (let_name (named id) (within_node own n w).innermost (form_of pattern)) pattern)
      (let_step (named id) (form_of pattern) value ∙ sym (append-nil _ ∙ append-nil _))

  form_rows : (own : Bool) (form : Form) → rows_in (of_own own form) (named id) form
      ≡ where_false (is_arm form) (rows_of_parts (named id) w (parts own form)) ++ names_of_let (of_own own form)
      (named id) form
  form_rows true (Index base index length) = two _ _
  form_rows false (Index base index length) = two _ _
  form_rows true (Arithmetic operator left right) = two _ _
  form_rows false (Arithmetic operator left right) = two _ _
  form_rows true (Comparison operator left right) = two _ _
  form_rows false (Comparison operator left right) = two _ _
  form_rows true (And left right) = two _ _
  form_rows false (And left right) = two _ _
  form_rows true (Or left right) = two _ _
  form_rows false (Or left right) = two _ _
  form_rows true (Assign target value) = two _ _
  form_rows false (Assign target value) = two _ _
  form_rows true (Call body args) = many _ _ (operand_steps (both_in (named id)) args)
  form_rows false (Call body args) = many _ _ (operand_steps (inner (named id) w) args)
  form_rows true (MethodCall body receiver args) = more _ _ _ (operand_steps (both_in (named id)) args)
  form_rows false (MethodCall body receiver args) = more _ _ _ (operand_steps (inner (named id) w) args)
  form_rows true (VirtualCall trait_no method receiver args) = more _ _ _ (operand_steps (both_in (named id)) args)
  form_rows false (VirtualCall trait_no method receiver args) = more _ _ _ (operand_steps (inner (named id) w) args)
  form_rows true (ClosureCall body callee args) = more _ _ _ (operand_steps (both_in (named id)) args)
  form_rows false (ClosureCall body callee args) = more _ _ _ (operand_steps (inner (named id) w) args)
  form_rows true (Make adt variant fields) = many _ _ (field_steps (both_in (named id)) fields)
  form_rows false (Make adt variant fields) = many _ _ (field_steps (inner (named id) w) fields)
  form_rows true (Tuple elements) = many _ _ (operand_steps (both_in (named id)) elements)
  form_rows false (Tuple elements) = many _ _ (operand_steps (inner (named id) w) elements)
  form_rows true (Array elements) = many _ _ (operand_steps (both_in (named id)) elements)
  form_rows false (Array elements) = many _ _ (operand_steps (inner (named id) w) elements)
  form_rows true (Closure closure captures) = many _ _ (operand_steps (both_in (named id)) captures)
  form_rows false (Closure closure captures) = many _ _ (operand_steps (inner (named id) w) captures)
  form_rows true (Block statements tail) = many _ _ (block_steps (both_in (named id)) statements tail)
  form_rows false (Block statements tail) = many _ _ (block_steps (inner (named id) w) statements tail)
  form_rows own (Let pattern initialiser) = of_let own (node id at ty by (Let pattern initialiser)) pattern initialiser
  form_rows own (Evaluate expression) = one _
  form_rows true (If condition consequent otherwise) = three _ _ _ _ (alone_steps (both_in (named id)) otherwise)
  form_rows false (If condition consequent otherwise) = three _ _ _ _ (alone_steps w otherwise)
  form_rows true (IfLet pattern scrutinee consequent otherwise) =
      four (rows (both_in (named id)) (reached_in (named id) scrutinee) scrutinee)
      (pattern_rows (named id) (name_in (named id)) pattern) (alone_rows consequent) _ _
      (alone_steps (both_in (named id)) otherwise)
  form_rows false (IfLet pattern scrutinee consequent otherwise) =
      four (rows (both_in (named id)) (reached_in (named id) scrutinee) scrutinee)
      (pattern_rows (named id) (name_in (named id)) pattern) (alone_rows consequent) _ _ (alone_steps w otherwise)
  form_rows true (Match scrutinee arms) = more _ _ _ (arm_steps (both_in (named id)) arms)
  form_rows false (Match scrutinee arms) = more _ _ _ (arm_steps w arms)
  form_rows true (While condition body) = two _ _
  form_rows false (While condition body) = two _ _
  form_rows true (WhileLet pattern scrutinee body) =
      three (rows (both_in (named id)) (reached_in (named id) scrutinee) scrutinee)
      (pattern_rows (named id) (name_in (named id)) pattern) (alone_rows body) _ (sym (append-nil _))
  form_rows false (WhileLet pattern scrutinee body) =
      three (rows (both_in (named id)) (reached_in (named id) scrutinee) scrutinee)
      (pattern_rows (named id) (name_in (named id)) pattern) (alone_rows body) _ (sym (append-nil _))
  form_rows true (Break loop value) = many _ _ (any_steps (both_in (named id)) value)
  form_rows false (Break loop value) = many _ _ (any_steps w value)
  form_rows true (Return value) = many _ _ (any_steps (both_in (named id)) value)
  form_rows false (Return value) = many _ _ (any_steps w value)
  form_rows own (Number value) = refl
  form_rows own (Truth value) = refl
  form_rows own UnitValue = refl
  form_rows own (Variable key) = refl
  form_rows own (Captured closure part name) = refl
  form_rows own Ask = refl
  form_rows own Panic = refl
  form_rows own (Arm pattern guard body) = refl
  form_rows own (Continue loop) = refl
  form_rows own Wildcard = refl
  form_rows own (Binding name) = refl
  form_rows own (NumberPattern value) = refl
  form_rows own (TruthPattern value) = refl
  form_rows own (StructPattern fields) = refl
  form_rows own (VariantPattern variant is_test fields) = refl
  form_rows own (TuplePattern elements) = refl
  form_rows own (ArrayPattern elements) = refl
  form_rows own (OrPattern alternatives) = refl
  form_rows true other = one _
  form_rows false other = one _

  own_rows : (own : Bool) (form : Form) → arm_rows_of w.temporary (named id) form
      ≡ where_true (is_arm form) (row (named id) w.temporary nothing ∷ rows_of_parts (named id) w (parts own form))
  own_rows own (Arm pattern guard body) = of_an_arm _ _ _ _ _ (alone_steps w guard)
  own_rows own other = refl

has_rows : (own : Bool) (w : Within) (n : Node) → HasRowsOfItsParts own w n
has_rows own w (node id at ty by form) = record {
  of_form = form_rows w id at ty by own form;
  of_arm = own_rows w id at ty by own form;
}

-- Where the parts stand.

pub in_scope_for : (own : Bool) (w : Within) (H : Held) (id : ℕ) → StandsIn w (heads_of H) → Missing (heads_of H) id →
    StandsIn (within (named id) (own ∷ []) w) (heads_of (opened_in id (own ∷ []) H))
in_scope_for true w H id st g = stands_alone (heads_of H) id
in_scope_for false w H id st g = stands_inside w (heads_of H) id st g

pub in_no_scope : (own : Bool) (w : Within) (H : Held) (id : ℕ) → StandsIn w (heads_of H) →
    StandsIn (within (named id) (own_scope_if own) w) (heads_of (opened_in id (own_scope_if own) H))
in_no_scope true w H id st = stands_alone (heads_of H) id
in_no_scope false w H id st = st

in_scrutinee_scope : (own : Bool) (H : Held) (id : ℕ) →
    StandsIn (both_in (named id)) (heads_of (opened_in id (true ∷ own_scope_if own) H))
in_scrutinee_scope own H id = stands_alone (heads_of (opened_in id (own_scope_if own) H)) id

module _ (w : Within) (H : Held) (id : ℕ) where
  stand : (own : Bool) (form : Form) → StandsIn w (heads_of H) → Missing (heads_of H) id →
      PartsStand (named id) w H (parts own form)
  stand own (Number value) st g = tt
  stand own (Truth value) st g = tt
  stand own UnitValue st g = tt
  stand own (Variable key) st g = tt
  stand own (Captured closure part name) st g = tt
  stand own (Field base part) st g = (in_no_scope own w H id st, tt)
  stand own (Index base index length) st g = (in_no_scope own w H id st, tt)
  stand own (Deref base) st g = (in_no_scope own w H id st, tt)
  stand own (And left right) st g = (in_no_scope own w H id st, tt)
  stand own (Or left right) st g = (in_no_scope own w H id st, tt)
  stand own Ask st g = tt
  stand own Panic st g = tt
  stand own (Borrow unique base) st g = (in_no_scope own w H id st, tt)
  stand own (Unsize trait_no operand) st g = (st, tt)
  stand own (Let pattern initialiser) st g = (stands_alone (heads_of H) id, tt)
  stand own (Evaluate expression) st g = (stands_alone (heads_of H) id, tt)
  stand own (If condition consequent otherwise) st g = (in_no_scope own w H id st, tt)
  stand own (IfLet pattern scrutinee consequent otherwise) st g =
      (in_scrutinee_scope own H id, (in_no_scope own w H id st, tt))
  stand own (Match scrutinee arms) st g = (in_no_scope own w H id st, tt)
  stand own (Arm pattern guard body) st g = (st, (in_scope_for false w H id st g, tt))
  stand own (Loop body) st g = (in_no_scope own w H id st, tt)
  stand own (While condition body) st g = (in_no_scope own w H id st, tt)
  stand own (WhileLet pattern scrutinee body) st g = (in_scrutinee_scope own H id, tt)
  stand own (Break loop value) st g = (in_no_scope own w H id st, tt)
  stand own (Continue loop) st g = tt
  stand own (Return value) st g = (in_no_scope own w H id st, tt)
  stand own Wildcard st g = tt
  stand own (Binding name) st g = tt
  stand own (NumberPattern value) st g = tt
  stand own (TruthPattern value) st g = tt
  stand own (StructPattern fields) st g = tt
  stand own (VariantPattern variant is_test fields) st g = tt
  stand own (TuplePattern elements) st g = tt
  stand own (ArrayPattern elements) st g = tt
  stand own (OrPattern alternatives) st g = tt
  stand own other st g = (in_scope_for own w H id st g, tt)

stands : (own : Bool) (w : Within) (H : Held) (n : Node) → StandsIn w (heads_of H) →
    Missing (heads_of H) (number_of n) → PartsStand (named (number_of n)) w H (parts own (form_of n))
stands own w H (node id at ty by form) st g = stand w H id own form st g

missing_of : (H : Held) (n : Node) → Fresh (heads_of H) (nodes_of n) → Missing (heads_of H) (number_of n)
missing_of H (node id at ty by form) g = g.0

pub table_has_the_parts : (own : Bool) → TableHasTheParts own
table_has_the_parts own = record {
  rows = λ w n. has_rows own w n;
  stand = λ w H n st new.
      stands own w H n st (missing_of H n (fresh_of (heads_of H) (nodes_of n) new.distinct new.not_open));
}
