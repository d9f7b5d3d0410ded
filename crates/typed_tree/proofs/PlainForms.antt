-- The plain form of each form, whose nodes are seen through their boxes, and the plain tree of a node.
use Rattle.std.proofs.Common.{◌≡◌, ◌∙◌, ℕ, Bool, List, Option, None, Some, rules, ap, sym, map}
use Rattle.std.specs.Prelude.{Box}
use Rattle.std.specs.declared.alloc.Global.{Global}
use Rattle.mir_base.specs.declared.operator.Cmp.{Cmp}
use Rattle.mir_base.specs.declared.operator.Math.{Math}
use Rattle.typed_tree.specs.Tree as tree
use Rattle.typed_tree.specs.View.{tree_of, form_of, field_of, form_layer, node_layer, field_layer, maybe_of, nodes_from, fields_from}
use Rattle.typed_tree.specs.declared.node.Form as form
use Rattle.typed_tree.specs.declared.node.Form.{Form, Form-F, fold-roll-Form, the_lemmas}
use Rattle.typed_tree.specs.declared.node.Form.TheViews.{rolls-And, rolls-Arithmetic, rolls-Arm, rolls-Array, rolls-ArrayPattern, rolls-Assign, rolls-Block, rolls-Borrow, rolls-Call, rolls-Closure, rolls-ClosureCall, rolls-Comparison, rolls-Deref, rolls-DropValue, rolls-Evaluate, rolls-Field, rolls-Forget, rolls-If, rolls-IfLet, rolls-Index, rolls-Let, rolls-Loop, rolls-Make, rolls-Match, rolls-MethodCall, rolls-Negate, rolls-NewBox, rolls-Not, rolls-Or, rolls-OrPattern, rolls-Print, rolls-Return, rolls-Tuple, rolls-TuplePattern, rolls-Unsize, rolls-VirtualCall, rolls-While, rolls-WhileLet}
use Rattle.typed_tree.specs.declared.node.Node.{Node}
use Rattle.typed_tree.specs.declared.node.NumberedField.{NumberedField}

pub node_seen : (n : Node) → tree_of n ≡ tree.node n.id.0 n.at n.ty n.by (form_of n.form)
node_seen n = search (rules, the_lemmas)

pub value_seen : (field : NumberedField) → (field_of field).1 ≡ tree_of field.value
value_seen field = search (rules, the_lemmas)

pub index_seen : (base index : Box Node Global) (length : ℕ) → form_of (form.Index base index length)
    ≡ tree.Index (tree_of base.value) (tree_of index.value) length
index_seen base index length =
    ap form_of (sym (rolls-Index base index length))
    ∙ fold-roll-Form tree.Form tree.Node (ℕ × tree.Node) form_layer node_layer field_layer
    (Form-F.Index base index length)

pub deref_seen : (base : Box Node Global) → form_of (form.Deref base)
    ≡ tree.Deref (tree_of base.value)
deref_seen base =
    ap form_of (sym (rolls-Deref base))
    ∙ fold-roll-Form tree.Form tree.Node (ℕ × tree.Node) form_layer node_layer field_layer
    (Form-F.Deref base)

pub field_seen : (base : Box Node Global) (part : ℕ) → form_of (form.Field base part)
    ≡ tree.Field (tree_of base.value) part
field_seen base part =
    ap form_of (sym (rolls-Field base part))
    ∙ fold-roll-Form tree.Form tree.Node (ℕ × tree.Node) form_layer node_layer field_layer
    (Form-F.Field base part)

pub not_seen : (operand : Box Node Global) → form_of (form.Not operand)
    ≡ tree.Not (tree_of operand.value)
not_seen operand =
    ap form_of (sym (rolls-Not operand))
    ∙ fold-roll-Form tree.Form tree.Node (ℕ × tree.Node) form_layer node_layer field_layer
    (Form-F.Not operand)

pub negate_seen : (operand : Box Node Global) → form_of (form.Negate operand)
    ≡ tree.Negate (tree_of operand.value)
negate_seen operand =
    ap form_of (sym (rolls-Negate operand))
    ∙ fold-roll-Form tree.Form tree.Node (ℕ × tree.Node) form_layer node_layer field_layer
    (Form-F.Negate operand)

pub arithmetic_seen : (operator : Math) (left right : Box Node Global) → form_of (form.Arithmetic operator left right)
    ≡ tree.Arithmetic operator (tree_of left.value) (tree_of right.value)
arithmetic_seen operator left right =
    ap form_of (sym (rolls-Arithmetic operator left right))
    ∙ fold-roll-Form tree.Form tree.Node (ℕ × tree.Node) form_layer node_layer field_layer
    (Form-F.Arithmetic operator left right)

pub comparison_seen : (operator : Cmp) (left right : Box Node Global) → form_of (form.Comparison operator left right)
    ≡ tree.Comparison operator (tree_of left.value) (tree_of right.value)
comparison_seen operator left right =
    ap form_of (sym (rolls-Comparison operator left right))
    ∙ fold-roll-Form tree.Form tree.Node (ℕ × tree.Node) form_layer node_layer field_layer
    (Form-F.Comparison operator left right)

pub and_seen : (left right : Box Node Global) → form_of (form.And left right)
    ≡ tree.And (tree_of left.value) (tree_of right.value)
and_seen left right =
    ap form_of (sym (rolls-And left right))
    ∙ fold-roll-Form tree.Form tree.Node (ℕ × tree.Node) form_layer node_layer field_layer
    (Form-F.And left right)

pub or_seen : (left right : Box Node Global) → form_of (form.Or left right)
    ≡ tree.Or (tree_of left.value) (tree_of right.value)
or_seen left right =
    ap form_of (sym (rolls-Or left right))
    ∙ fold-roll-Form tree.Form tree.Node (ℕ × tree.Node) form_layer node_layer field_layer
    (Form-F.Or left right)

pub assign_seen : (place value : Box Node Global) → form_of (form.Assign place value)
    ≡ tree.Assign (tree_of place.value) (tree_of value.value)
assign_seen place value =
    ap form_of (sym (rolls-Assign place value))
    ∙ fold-roll-Form tree.Form tree.Node (ℕ × tree.Node) form_layer node_layer field_layer
    (Form-F.Assign place value)

pub call_seen : (body : ℕ) (args : List Node) → form_of (form.Call body args)
    ≡ tree.Call body (nodes_from (map tree_of args))
call_seen body args =
    ap form_of (sym (rolls-Call body args))
    ∙ fold-roll-Form tree.Form tree.Node (ℕ × tree.Node) form_layer node_layer field_layer
    (Form-F.Call body args)

pub method_call_seen : (body : ℕ) (receiver : Box Node Global) (args : List Node) → form_of (form.MethodCall body receiver args)
    ≡ tree.MethodCall body (tree_of receiver.value) (nodes_from (map tree_of args))
method_call_seen body receiver args =
    ap form_of (sym (rolls-MethodCall body receiver args))
    ∙ fold-roll-Form tree.Form tree.Node (ℕ × tree.Node) form_layer node_layer field_layer
    (Form-F.MethodCall body receiver args)

pub virtual_call_seen : (trait_no method : ℕ) (receiver : Box Node Global) (args : List Node) → form_of (form.VirtualCall trait_no method receiver args)
    ≡ tree.VirtualCall trait_no method (tree_of receiver.value) (nodes_from (map tree_of args))
virtual_call_seen trait_no method receiver args =
    ap form_of (sym (rolls-VirtualCall trait_no method receiver args))
    ∙ fold-roll-Form tree.Form tree.Node (ℕ × tree.Node) form_layer node_layer field_layer
    (Form-F.VirtualCall trait_no method receiver args)

pub closure_call_seen : (body : ℕ) (callee : Box Node Global) (args : List Node) → form_of (form.ClosureCall body callee args)
    ≡ tree.ClosureCall body (tree_of callee.value) (nodes_from (map tree_of args))
closure_call_seen body callee args =
    ap form_of (sym (rolls-ClosureCall body callee args))
    ∙ fold-roll-Form tree.Form tree.Node (ℕ × tree.Node) form_layer node_layer field_layer
    (Form-F.ClosureCall body callee args)

pub make_seen : (adt variant : ℕ) (fields : List NumberedField) → form_of (form.Make adt variant fields)
    ≡ tree.Make adt variant (fields_from (map field_of fields))
make_seen adt variant fields =
    ap form_of (sym (rolls-Make adt variant fields))
    ∙ fold-roll-Form tree.Form tree.Node (ℕ × tree.Node) form_layer node_layer field_layer
    (Form-F.Make adt variant fields)

pub tuple_seen : (parts : List Node) → form_of (form.Tuple parts)
    ≡ tree.Tuple (nodes_from (map tree_of parts))
tuple_seen parts =
    ap form_of (sym (rolls-Tuple parts))
    ∙ fold-roll-Form tree.Form tree.Node (ℕ × tree.Node) form_layer node_layer field_layer
    (Form-F.Tuple parts)

pub array_seen : (elements : List Node) → form_of (form.Array elements)
    ≡ tree.Array (nodes_from (map tree_of elements))
array_seen elements =
    ap form_of (sym (rolls-Array elements))
    ∙ fold-roll-Form tree.Form tree.Node (ℕ × tree.Node) form_layer node_layer field_layer
    (Form-F.Array elements)

pub closure_seen : (closure : ℕ) (captures : List Node) → form_of (form.Closure closure captures)
    ≡ tree.Closure closure (nodes_from (map tree_of captures))
closure_seen closure captures =
    ap form_of (sym (rolls-Closure closure captures))
    ∙ fold-roll-Form tree.Form tree.Node (ℕ × tree.Node) form_layer node_layer field_layer
    (Form-F.Closure closure captures)

pub new_box_seen : (content : Box Node Global) → form_of (form.NewBox content)
    ≡ tree.NewBox (tree_of content.value)
new_box_seen content =
    ap form_of (sym (rolls-NewBox content))
    ∙ fold-roll-Form tree.Form tree.Node (ℕ × tree.Node) form_layer node_layer field_layer
    (Form-F.NewBox content)

pub print_seen : (operand : Box Node Global) → form_of (form.Print operand)
    ≡ tree.Print (tree_of operand.value)
print_seen operand =
    ap form_of (sym (rolls-Print operand))
    ∙ fold-roll-Form tree.Form tree.Node (ℕ × tree.Node) form_layer node_layer field_layer
    (Form-F.Print operand)

pub drop_value_seen : (operand : Box Node Global) → form_of (form.DropValue operand)
    ≡ tree.DropValue (tree_of operand.value)
drop_value_seen operand =
    ap form_of (sym (rolls-DropValue operand))
    ∙ fold-roll-Form tree.Form tree.Node (ℕ × tree.Node) form_layer node_layer field_layer
    (Form-F.DropValue operand)

pub forget_seen : (operand : Box Node Global) → form_of (form.Forget operand)
    ≡ tree.Forget (tree_of operand.value)
forget_seen operand =
    ap form_of (sym (rolls-Forget operand))
    ∙ fold-roll-Form tree.Form tree.Node (ℕ × tree.Node) form_layer node_layer field_layer
    (Form-F.Forget operand)

pub borrow_seen : (unique : Bool) (base : Box Node Global) → form_of (form.Borrow unique base)
    ≡ tree.Borrow unique (tree_of base.value)
borrow_seen unique base =
    ap form_of (sym (rolls-Borrow unique base))
    ∙ fold-roll-Form tree.Form tree.Node (ℕ × tree.Node) form_layer node_layer field_layer
    (Form-F.Borrow unique base)

pub unsize_seen : (trait_no : ℕ) (operand : Box Node Global) → form_of (form.Unsize trait_no operand)
    ≡ tree.Unsize trait_no (tree_of operand.value)
unsize_seen trait_no operand =
    ap form_of (sym (rolls-Unsize trait_no operand))
    ∙ fold-roll-Form tree.Form tree.Node (ℕ × tree.Node) form_layer node_layer field_layer
    (Form-F.Unsize trait_no operand)

pub block_seen : (statements : List Node) (tail : Option (Box Node Global)) → form_of (form.Block statements tail)
    ≡ tree.Block (nodes_from (map tree_of statements)) (maybe_of tail)
block_seen statements None =
    ap form_of (sym (rolls-Block statements None))
    ∙ fold-roll-Form tree.Form tree.Node (ℕ × tree.Node) form_layer node_layer field_layer
    (Form-F.Block statements None)
block_seen statements (Some part) =
    ap form_of (sym (rolls-Block statements (Some part)))
    ∙ fold-roll-Form tree.Form tree.Node (ℕ × tree.Node) form_layer node_layer field_layer
    (Form-F.Block statements (Some part))

pub let_seen : (pattern : Box Node Global) (initialiser : Option (Box Node Global)) → form_of (form.Let pattern initialiser)
    ≡ tree.Let (tree_of pattern.value) (maybe_of initialiser)
let_seen pattern None =
    ap form_of (sym (rolls-Let pattern None))
    ∙ fold-roll-Form tree.Form tree.Node (ℕ × tree.Node) form_layer node_layer field_layer
    (Form-F.Let pattern None)
let_seen pattern (Some part) =
    ap form_of (sym (rolls-Let pattern (Some part)))
    ∙ fold-roll-Form tree.Form tree.Node (ℕ × tree.Node) form_layer node_layer field_layer
    (Form-F.Let pattern (Some part))

pub evaluate_seen : (expression : Box Node Global) → form_of (form.Evaluate expression)
    ≡ tree.Evaluate (tree_of expression.value)
evaluate_seen expression =
    ap form_of (sym (rolls-Evaluate expression))
    ∙ fold-roll-Form tree.Form tree.Node (ℕ × tree.Node) form_layer node_layer field_layer
    (Form-F.Evaluate expression)

pub if_seen : (condition then : Box Node Global) (otherwise : Option (Box Node Global)) → form_of (form.If condition then otherwise)
    ≡ tree.If (tree_of condition.value) (tree_of then.value) (maybe_of otherwise)
if_seen condition then None =
    ap form_of (sym (rolls-If condition then None))
    ∙ fold-roll-Form tree.Form tree.Node (ℕ × tree.Node) form_layer node_layer field_layer
    (Form-F.If condition then None)
if_seen condition then (Some part) =
    ap form_of (sym (rolls-If condition then (Some part)))
    ∙ fold-roll-Form tree.Form tree.Node (ℕ × tree.Node) form_layer node_layer field_layer
    (Form-F.If condition then (Some part))

pub if_let_seen : (pattern scrutinee then : Box Node Global) (otherwise : Option (Box Node Global)) → form_of (form.IfLet pattern scrutinee then otherwise)
    ≡ tree.IfLet (tree_of pattern.value) (tree_of scrutinee.value) (tree_of then.value) (maybe_of otherwise)
if_let_seen pattern scrutinee then None =
    ap form_of (sym (rolls-IfLet pattern scrutinee then None))
    ∙ fold-roll-Form tree.Form tree.Node (ℕ × tree.Node) form_layer node_layer field_layer
    (Form-F.IfLet pattern scrutinee then None)
if_let_seen pattern scrutinee then (Some part) =
    ap form_of (sym (rolls-IfLet pattern scrutinee then (Some part)))
    ∙ fold-roll-Form tree.Form tree.Node (ℕ × tree.Node) form_layer node_layer field_layer
    (Form-F.IfLet pattern scrutinee then (Some part))

pub match_seen : (scrutinee : Box Node Global) (arms : List Node) → form_of (form.Match scrutinee arms)
    ≡ tree.Match (tree_of scrutinee.value) (nodes_from (map tree_of arms))
match_seen scrutinee arms =
    ap form_of (sym (rolls-Match scrutinee arms))
    ∙ fold-roll-Form tree.Form tree.Node (ℕ × tree.Node) form_layer node_layer field_layer
    (Form-F.Match scrutinee arms)

pub arm_seen : (pattern : Box Node Global) (guard : Option (Box Node Global)) (body : Box Node Global) → form_of (form.Arm pattern guard body)
    ≡ tree.Arm (tree_of pattern.value) (maybe_of guard) (tree_of body.value)
arm_seen pattern None body =
    ap form_of (sym (rolls-Arm pattern None body))
    ∙ fold-roll-Form tree.Form tree.Node (ℕ × tree.Node) form_layer node_layer field_layer
    (Form-F.Arm pattern None body)
arm_seen pattern (Some part) body =
    ap form_of (sym (rolls-Arm pattern (Some part) body))
    ∙ fold-roll-Form tree.Form tree.Node (ℕ × tree.Node) form_layer node_layer field_layer
    (Form-F.Arm pattern (Some part) body)

pub loop_seen : (body : Box Node Global) → form_of (form.Loop body)
    ≡ tree.Loop (tree_of body.value)
loop_seen body =
    ap form_of (sym (rolls-Loop body))
    ∙ fold-roll-Form tree.Form tree.Node (ℕ × tree.Node) form_layer node_layer field_layer
    (Form-F.Loop body)

pub while_seen : (condition body : Box Node Global) → form_of (form.While condition body)
    ≡ tree.While (tree_of condition.value) (tree_of body.value)
while_seen condition body =
    ap form_of (sym (rolls-While condition body))
    ∙ fold-roll-Form tree.Form tree.Node (ℕ × tree.Node) form_layer node_layer field_layer
    (Form-F.While condition body)

pub while_let_seen : (pattern scrutinee body : Box Node Global) → form_of (form.WhileLet pattern scrutinee body)
    ≡ tree.WhileLet (tree_of pattern.value) (tree_of scrutinee.value) (tree_of body.value)
while_let_seen pattern scrutinee body =
    ap form_of (sym (rolls-WhileLet pattern scrutinee body))
    ∙ fold-roll-Form tree.Form tree.Node (ℕ × tree.Node) form_layer node_layer field_layer
    (Form-F.WhileLet pattern scrutinee body)

pub return_seen : (value : Option (Box Node Global)) → form_of (form.Return value)
    ≡ tree.Return (maybe_of value)
return_seen None =
    ap form_of (sym (rolls-Return None))
    ∙ fold-roll-Form tree.Form tree.Node (ℕ × tree.Node) form_layer node_layer field_layer
    (Form-F.Return None)
return_seen (Some part) =
    ap form_of (sym (rolls-Return (Some part)))
    ∙ fold-roll-Form tree.Form tree.Node (ℕ × tree.Node) form_layer node_layer field_layer
    (Form-F.Return (Some part))

pub tuple_pattern_seen : (parts : List Node) → form_of (form.TuplePattern parts)
    ≡ tree.TuplePattern (nodes_from (map tree_of parts))
tuple_pattern_seen parts =
    ap form_of (sym (rolls-TuplePattern parts))
    ∙ fold-roll-Form tree.Form tree.Node (ℕ × tree.Node) form_layer node_layer field_layer
    (Form-F.TuplePattern parts)

pub array_pattern_seen : (elements : List Node) → form_of (form.ArrayPattern elements)
    ≡ tree.ArrayPattern (nodes_from (map tree_of elements))
array_pattern_seen elements =
    ap form_of (sym (rolls-ArrayPattern elements))
    ∙ fold-roll-Form tree.Form tree.Node (ℕ × tree.Node) form_layer node_layer field_layer
    (Form-F.ArrayPattern elements)

pub or_pattern_seen : (alternatives : List Node) → form_of (form.OrPattern alternatives)
    ≡ tree.OrPattern (nodes_from (map tree_of alternatives))
or_pattern_seen alternatives =
    ap form_of (sym (rolls-OrPattern alternatives))
    ∙ fold-roll-Form tree.Form tree.Node (ℕ × tree.Node) form_layer node_layer field_layer
    (Form-F.OrPattern alternatives)

-- the same, by what was read of it: `x`, `y` and `z` are what boxes of the form hold, and `slice` is a list of it
module _ (whole : Form) (first : Box Node Global) (x : Node) (is_x : x ≡ first.value) where
  pub borrow_form : (unique : Bool) → whole ≡ form.Borrow unique first → form_of whole ≡ tree.Borrow unique (tree_of x)
  borrow_form unique is = ap form_of is ∙ borrow_seen unique first ∙ ap (λ (n : Node). tree.Borrow unique (tree_of n)) (sym is_x)

  pub let_form : (initialiser : Option (Box Node Global)) → whole ≡ form.Let first initialiser
      → form_of whole ≡ tree.Let (tree_of x) (maybe_of initialiser)
  let_form initialiser is =
      ap form_of is ∙ let_seen first initialiser ∙ ap (λ (n : Node). tree.Let (tree_of n) (maybe_of initialiser)) (sym is_x)

  module _ (nodes slice : List Node) (is_slice : slice ≡ nodes) where
    pub virtual_call_form : (trait_no method : ℕ) → whole ≡ form.VirtualCall trait_no method first nodes
        → form_of whole ≡ tree.VirtualCall trait_no method (tree_of x) (nodes_from (map tree_of slice))
    virtual_call_form trait_no method is =
        ap form_of is ∙ virtual_call_seen trait_no method first nodes
        ∙ (λ i. tree.VirtualCall trait_no method (tree_of (sym is_x i)) (nodes_from (map tree_of (sym is_slice i))))

    pub closure_call_form : (body : ℕ) → whole ≡ form.ClosureCall body first nodes
        → form_of whole ≡ tree.ClosureCall body (tree_of x) (nodes_from (map tree_of slice))
    closure_call_form body is =
        ap form_of is ∙ closure_call_seen body first nodes
        ∙ (λ i. tree.ClosureCall body (tree_of (sym is_x i)) (nodes_from (map tree_of (sym is_slice i))))

    pub match_form : whole ≡ form.Match first nodes → form_of whole ≡ tree.Match (tree_of x) (nodes_from (map tree_of slice))
    match_form is =
        ap form_of is ∙ match_seen first nodes
        ∙ (λ i. tree.Match (tree_of (sym is_x i)) (nodes_from (map tree_of (sym is_slice i))))

  module _ (second : Box Node Global) (y : Node) (is_y : y ≡ second.value) where
    pub index_form : (count : ℕ) → whole ≡ form.Index first second count
        → form_of whole ≡ tree.Index (tree_of x) (tree_of y) count
    index_form count is =
        ap form_of is ∙ index_seen first second count ∙ (λ i. tree.Index (tree_of (sym is_x i)) (tree_of (sym is_y i)) count)

    pub assign_form : whole ≡ form.Assign first second → form_of whole ≡ tree.Assign (tree_of x) (tree_of y)
    assign_form is = ap form_of is ∙ assign_seen first second ∙ (λ i. tree.Assign (tree_of (sym is_x i)) (tree_of (sym is_y i)))

    pub if_form : (otherwise : Option (Box Node Global)) → whole ≡ form.If first second otherwise
        → form_of whole ≡ tree.If (tree_of x) (tree_of y) (maybe_of otherwise)
    if_form otherwise is =
        ap form_of is ∙ if_seen first second otherwise
        ∙ (λ i. tree.If (tree_of (sym is_x i)) (tree_of (sym is_y i)) (maybe_of otherwise))

    pub arm_form : (guard : Option (Box Node Global)) → whole ≡ form.Arm first guard second
        → form_of whole ≡ tree.Arm (tree_of x) (maybe_of guard) (tree_of y)
    arm_form guard is =
        ap form_of is ∙ arm_seen first guard second
        ∙ (λ i. tree.Arm (tree_of (sym is_x i)) (maybe_of guard) (tree_of (sym is_y i)))

    module _ (third : Box Node Global) (z : Node) (is_z : z ≡ third.value) where
      pub if_let_form : (otherwise : Option (Box Node Global)) → whole ≡ form.IfLet first second third otherwise
          → form_of whole ≡ tree.IfLet (tree_of x) (tree_of y) (tree_of z) (maybe_of otherwise)
      if_let_form otherwise is =
          ap form_of is ∙ if_let_seen first second third otherwise
          ∙ (λ i. tree.IfLet (tree_of (sym is_x i)) (tree_of (sym is_y i)) (tree_of (sym is_z i)) (maybe_of otherwise))

      pub while_let_form : whole ≡ form.WhileLet first second third
          → form_of whole ≡ tree.WhileLet (tree_of x) (tree_of y) (tree_of z)
      while_let_form is =
          ap form_of is ∙ while_let_seen first second third
          ∙ (λ i. tree.WhileLet (tree_of (sym is_x i)) (tree_of (sym is_y i)) (tree_of (sym is_z i)))

module _ (whole : Form) (nodes slice : List Node) (is_slice : slice ≡ nodes) where
  pub call_form : (body : ℕ) → whole ≡ form.Call body nodes → form_of whole ≡ tree.Call body (nodes_from (map tree_of slice))
  call_form body is =
      ap form_of is ∙ call_seen body nodes ∙ ap (λ (l : List Node). tree.Call body (nodes_from (map tree_of l))) (sym is_slice)

  pub tuple_form : whole ≡ form.Tuple nodes → form_of whole ≡ tree.Tuple (nodes_from (map tree_of slice))
  tuple_form is =
      ap form_of is ∙ tuple_seen nodes ∙ ap (λ (l : List Node). tree.Tuple (nodes_from (map tree_of l))) (sym is_slice)

  pub array_form : whole ≡ form.Array nodes → form_of whole ≡ tree.Array (nodes_from (map tree_of slice))
  array_form is =
      ap form_of is ∙ array_seen nodes ∙ ap (λ (l : List Node). tree.Array (nodes_from (map tree_of l))) (sym is_slice)

  pub closure_form : (closure : ℕ) → whole ≡ form.Closure closure nodes
      → form_of whole ≡ tree.Closure closure (nodes_from (map tree_of slice))
  closure_form closure is =
      ap form_of is ∙ closure_seen closure nodes
      ∙ ap (λ (l : List Node). tree.Closure closure (nodes_from (map tree_of l))) (sym is_slice)

  pub block_form : (tail : Option (Box Node Global)) → whole ≡ form.Block nodes tail
      → form_of whole ≡ tree.Block (nodes_from (map tree_of slice)) (maybe_of tail)
  block_form tail is =
      ap form_of is ∙ block_seen nodes tail
      ∙ ap (λ (l : List Node). tree.Block (nodes_from (map tree_of l)) (maybe_of tail)) (sym is_slice)

module _ (whole : Form) (fields slice : List NumberedField) (is_slice : slice ≡ fields) where
  pub make_form : (adt variant : ℕ) → whole ≡ form.Make adt variant fields
      → form_of whole ≡ tree.Make adt variant (fields_from (map field_of slice))
  make_form adt variant is =
      ap form_of is ∙ make_seen adt variant fields
      ∙ ap (λ (l : List NumberedField). tree.Make adt variant (fields_from (map field_of l))) (sym is_slice)
