-- A form that is in no group does nothing.
use Rattle.std.proofs.Common.{◌≡◌, refl, subst, true, false, Bool}
use Rattle.mir_ty.specs.ItemTable.{ItemTable}
use Rattle.src_meaning.specs.Forms.{LoopsAndGuards, Destination}
use Rattle.src_meaning.specs.Shape.{NodeHead, Shape}
use Rattle.typed_tree.specs.Tree as tree
use Rattle.typed_tree.specs.Tree.{Form}
use Rattle.lower_code.specs.Code.{Nothing}
use Rattle.lower_code.specs.Forms.{code_of_form}
use Rattle.lower_code.specs.Groups.{IsCodeIn, is_leaf, is_statement}
use Rattle.lower_forms.specs.Parted.{reaches_any, is_any_operator, takes_any}
use Rattle.lower_forms.specs.Scoped.{may_be_scope}
use Rattle.lower_code.specs.View.{done}
use Rattle.lower_code.specs.declared.code.Code.{Code}
use Rattle.lower_code.specs.declared.context.Context.{Context}

module _ (items : ItemTable) (h : NodeHead) (s : Shape) (around : LoopsAndGuards) (own : Bool) (to : Destination) where
  pub does_nothing : (form : Form) → is_leaf form ≡ false → reaches_any form ≡ false → is_any_operator form ≡ false → takes_any form ≡ false → may_be_scope form ≡ false → is_statement form ≡ false → done (code_of_form items form h s) around own to ≡ Nothing
  does_nothing (tree.Number value) in_leaf in_place in_operator in_call in_scoped in_statement = let never : true ≡ false = in_leaf in cc
  does_nothing (tree.Truth value) in_leaf in_place in_operator in_call in_scoped in_statement = let never : true ≡ false = in_leaf in cc
  does_nothing tree.UnitValue in_leaf in_place in_operator in_call in_scoped in_statement = let never : true ≡ false = in_leaf in cc
  does_nothing (tree.Variable key) in_leaf in_place in_operator in_call in_scoped in_statement = let never : true ≡ false = in_leaf in cc
  does_nothing (tree.Captured closure part name) in_leaf in_place in_operator in_call in_scoped in_statement = let never : true ≡ false = in_leaf in cc
  does_nothing tree.Ask in_leaf in_place in_operator in_call in_scoped in_statement = let never : true ≡ false = in_leaf in cc
  does_nothing tree.Panic in_leaf in_place in_operator in_call in_scoped in_statement = let never : true ≡ false = in_leaf in cc
  does_nothing (tree.Continue loop) in_leaf in_place in_operator in_call in_scoped in_statement = let never : true ≡ false = in_leaf in cc
  does_nothing (tree.Field base part) in_leaf in_place in_operator in_call in_scoped in_statement = let never : true ≡ false = in_place in cc
  does_nothing (tree.Index base index count) in_leaf in_place in_operator in_call in_scoped in_statement = let never : true ≡ false = in_place in cc
  does_nothing (tree.Deref base) in_leaf in_place in_operator in_call in_scoped in_statement = let never : true ≡ false = in_place in cc
  does_nothing (tree.Borrow unique base) in_leaf in_place in_operator in_call in_scoped in_statement = let never : true ≡ false = in_place in cc
  does_nothing (tree.Assign place value) in_leaf in_place in_operator in_call in_scoped in_statement = let never : true ≡ false = in_place in cc
  does_nothing (tree.Not operand) in_leaf in_place in_operator in_call in_scoped in_statement = let never : true ≡ false = in_operator in cc
  does_nothing (tree.Negate operand) in_leaf in_place in_operator in_call in_scoped in_statement = let never : true ≡ false = in_operator in cc
  does_nothing (tree.Arithmetic operator left right) in_leaf in_place in_operator in_call in_scoped in_statement = let never : true ≡ false = in_operator in cc
  does_nothing (tree.Comparison operator left right) in_leaf in_place in_operator in_call in_scoped in_statement = let never : true ≡ false = in_operator in cc
  does_nothing (tree.NewBox content) in_leaf in_place in_operator in_call in_scoped in_statement = let never : true ≡ false = in_operator in cc
  does_nothing (tree.Print operand) in_leaf in_place in_operator in_call in_scoped in_statement = let never : true ≡ false = in_operator in cc
  does_nothing (tree.Forget operand) in_leaf in_place in_operator in_call in_scoped in_statement = let never : true ≡ false = in_operator in cc
  does_nothing (tree.DropValue operand) in_leaf in_place in_operator in_call in_scoped in_statement = let never : true ≡ false = in_operator in cc
  does_nothing (tree.Unsize trait_no operand) in_leaf in_place in_operator in_call in_scoped in_statement = let never : true ≡ false = in_operator in cc
  does_nothing (tree.Call body args) in_leaf in_place in_operator in_call in_scoped in_statement = let never : true ≡ false = in_call in cc
  does_nothing (tree.MethodCall body receiver args) in_leaf in_place in_operator in_call in_scoped in_statement = let never : true ≡ false = in_call in cc
  does_nothing (tree.VirtualCall trait_no method receiver args) in_leaf in_place in_operator in_call in_scoped in_statement = let never : true ≡ false = in_call in cc
  does_nothing (tree.ClosureCall body callee args) in_leaf in_place in_operator in_call in_scoped in_statement = let never : true ≡ false = in_call in cc
  does_nothing (tree.Make adt variant fields) in_leaf in_place in_operator in_call in_scoped in_statement = let never : true ≡ false = in_call in cc
  does_nothing (tree.Tuple parts) in_leaf in_place in_operator in_call in_scoped in_statement = let never : true ≡ false = in_call in cc
  does_nothing (tree.Array elements) in_leaf in_place in_operator in_call in_scoped in_statement = let never : true ≡ false = in_call in cc
  does_nothing (tree.Closure closure captures) in_leaf in_place in_operator in_call in_scoped in_statement = let never : true ≡ false = in_call in cc
  does_nothing (tree.Block stmts tail) in_leaf in_place in_operator in_call in_scoped in_statement = let never : true ≡ false = in_statement in cc
  does_nothing (tree.Let pattern initialiser) in_leaf in_place in_operator in_call in_scoped in_statement = let never : true ≡ false = in_statement in cc
  does_nothing (tree.Evaluate expression) in_leaf in_place in_operator in_call in_scoped in_statement = let never : true ≡ false = in_statement in cc
  does_nothing (tree.Arm pattern guarded m) in_leaf in_place in_operator in_call in_scoped in_statement = refl
  does_nothing tree.Wildcard in_leaf in_place in_operator in_call in_scoped in_statement = refl
  does_nothing (tree.Binding name) in_leaf in_place in_operator in_call in_scoped in_statement = refl
  does_nothing (tree.NumberPattern value) in_leaf in_place in_operator in_call in_scoped in_statement = refl
  does_nothing (tree.TruthPattern value) in_leaf in_place in_operator in_call in_scoped in_statement = refl
  does_nothing (tree.StructPattern fields) in_leaf in_place in_operator in_call in_scoped in_statement = refl
  does_nothing (tree.VariantPattern variant is_test fields) in_leaf in_place in_operator in_call in_scoped in_statement = refl
  does_nothing (tree.TuplePattern parts) in_leaf in_place in_operator in_call in_scoped in_statement = refl
  does_nothing (tree.ArrayPattern elements) in_leaf in_place in_operator in_call in_scoped in_statement = refl
  does_nothing (tree.OrPattern alternatives) in_leaf in_place in_operator in_call in_scoped in_statement = refl
  does_nothing other in_leaf in_place in_operator in_call in_scoped in_statement = let never : true ≡ false = in_scoped in cc

-- what a group says of a form that is not in it
pub not_in : (group : Form → Bool) (items : ItemTable) (form : Form) (at : Context) (before after : Code) (is : Bool) → is ≡ false → IsCodeIn group items form at before after is → (group form ≡ false) × (after ≡ before)
not_in group items form at before after is is_false said = subst (IsCodeIn group items form at before after) is_false said
