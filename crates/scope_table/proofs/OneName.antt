-- Forms by what the table and the evaluation ask of them: whether a pattern is one name, whether a value is made in a
-- destination of its own.
use Rattle.std.proofs.Common.{◌≡◌, ℕ, false, List, length, Some, None, refl}
use Rattle.mir_base.specs.declared.place_in_text.NodeId.{NodeId}
use Rattle.mir_ty.specs.ItemTable.{ItemTable}
use Rattle.scope_table.specs.declared.row.MadeAround.{MadeAround}
use Rattle.scope_table.specs.Table.{has_destination, by_name, let_name, pending_if_value, initial, form_of}
use Rattle.src_meaning.specs.Forms.{operand, statements}
use Rattle.src_meaning.specs.Shape.{NodeHead, head, shape, shape_of}
use Rattle.typed_tree.specs.Tree.{Node, node, Form, Number, Truth, UnitValue, Variable, Captured, Field, Index, Deref, Not, Negate, Arithmetic, Comparison, And, Or, Assign, Call, MethodCall, VirtualCall, ClosureCall, Make, Tuple, Array, Closure, NewBox, Print, Ask, DropValue, Forget, Panic, Borrow, Unsize, Block, Let, Evaluate, If, IfLet, Match, Arm, Loop, While, WhileLet, Break, Continue, Return, Wildcard, Binding, NumberPattern, TruthPattern, StructPattern, VariantPattern, TuplePattern, ArrayPattern, OrPattern}
use Rattle.scope_table.specs.Parts.{OfLet, let_role}

-- whether a pattern is one name
pub data Kind : Form → Type 0 where
  one_name : (text : List ℕ) → Kind (Binding text)
  no_name : (form : Form) → ((items : ItemTable) (h : NodeHead) → (shape_of items form h).is_binding ≡ false) →
      ((id : NodeId) (n : Node) → initial id form n ≡ pending_if_value id n) → ((id scope : NodeId) → (let_name id scope form).entry ≡ Some scope) → ((name : MadeAround) → (by_name name form).entry ≡ None) → let_role form ≡ OfLet → Kind form

pub kind_in : (form : Form) → Kind form
kind_in UnitValue = no_name UnitValue (λ items h. refl) (λ id n. refl) (λ id scope. refl) (λ name. refl) refl
kind_in (Captured closure part name) = no_name (Captured closure part name) (λ items h. refl) (λ id n. refl) (λ id scope. refl) (λ name. refl) refl
kind_in Ask = no_name Ask (λ items h. refl) (λ id n. refl) (λ id scope. refl) (λ name. refl) refl
kind_in Panic = no_name Panic (λ items h. refl) (λ id n. refl) (λ id scope. refl) (λ name. refl) refl
kind_in Wildcard = no_name Wildcard (λ items h. refl) (λ id n. refl) (λ id scope. refl) (λ name. refl) refl
kind_in (Binding name) = one_name name
kind_in other = no_name other (λ items h. refl) (λ id n. refl) (λ id scope. refl) (λ name. refl) refl

-- a value that is made in a destination of its own
pub destination_same : (items : ItemTable) (n : Node) → (shape items n).in_destination ≡ has_destination (form_of n)
destination_same items (node id at ty by form) = by_form form
  where
    by_form : (form : Form) → (shape_of items form (head id ty by)).in_destination ≡ has_destination form
    by_form (Number value) = refl
    by_form other = refl
