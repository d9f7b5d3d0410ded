-- Typed trees without what an example does not say: places in the text, names, and in which order types are numbered.
use Rattle.std.specs.Prelude.{ℕ, zero, suc, List, [], ◌∷◌, map, length, Option, Some, None, slice_get}
use Rattle.std.specs.List.{flat_map, position as position_of}
use Rattle.std.specs.Str.{bytes_eq}
use Rattle.mir_base.specs.declared.int_kind.IntKind.{IntKind}
use Rattle.mir_base.specs.declared.place_in_text.Pos.{Pos}
use Rattle.mir_ty.specs.declared.ty.Ty.{Ty}
use Rattle.mir_ty.specs.declared.ty.TyId.{TyId}
use Rattle.mir_ty.specs.ItemTable.{ItemTable}
use Rattle.typed_tree.specs.Tree.{Node, node, Nodes, no_node, a_node, Fields, no_field, a_field, MaybeNode, absent, present, Form, Number, Truth, UnitValue, Variable, Captured, Field, Index, Deref, Not, Negate, Arithmetic, Comparison, And, Or, Assign, Call, MethodCall, VirtualCall, ClosureCall, Make, Tuple, Array, Closure, NewBox, Print, Ask, DropValue, Forget, Panic, Borrow, Unsize, Block, Let, Evaluate, If, IfLet, Match, Arm, Loop, While, WhileLet, Break, Continue, Return, Wildcard, Binding, NumberPattern, TruthPattern, StructPattern, VariantPattern, TuplePattern, ArrayPattern, OrPattern, ParamTree, BodyTree, ProgramTree}
use Rattle.typing_rules.proofs.Words.{Outcome, Typed, outcome}

-- ---- a type in numbers, whatever its number in the table is

abbrev kind_number : IntKind → ℕ
kind_number IntKind.I32 = 0
kind_number IntKind.I64 = 1
kind_number IntKind.U32 = 2
kind_number IntKind.U64 = 3
kind_number IntKind.Usize = 4

abbrev spelled_ty : (TyId → List ℕ) → Ty → List ℕ
spelled_ty inside (Ty.Int kind) = 0 ∷ kind_number kind ∷ []
spelled_ty inside Ty.Bool = 1 ∷ []
spelled_ty inside Ty.Unit = 2 ∷ []
spelled_ty inside Ty.Never = 3 ∷ []
spelled_ty inside (Ty.Adt n) = 4 ∷ n ∷ []
spelled_ty inside (Ty.Tuple parts) = 5 ∷ length parts ∷ flat_map inside parts
spelled_ty inside (Ty.Array element count) = 6 ∷ count ∷ inside element
spelled_ty inside (Ty.Boxed content) = 7 ∷ inside content
spelled_ty inside (Ty.Dyn n) = 8 ∷ n ∷ []
spelled_ty inside (Ty.Shared to) = 9 ∷ inside to
spelled_ty inside (Ty.Unique to) = 10 ∷ inside to
spelled_ty inside (Ty.Closure n) = 11 ∷ n ∷ []

abbrev spelled_if : (TyId → List ℕ) → Option Ty → List ℕ
spelled_if inside None = []
spelled_if inside (Some ty) = spelled_ty inside ty

-- to so many types inside one another
abbrev spelled : ℕ → ItemTable → TyId → List ℕ
spelled zero items ty = []
spelled (suc n) items ty = spelled_if (spelled n items) (slice_get items.types ty.0)

abbrev or_zero : Option ℕ → ℕ
or_zero None = 0
or_zero (Some n) = n

-- the number of the same type in another table
abbrev same_in : ItemTable → ItemTable → TyId → TyId
same_in others items ty =
    record {
      0 = or_zero (position_of (λ t. bytes_eq (spelled_if (spelled 5 others) (Some t)) (spelled 6 items ty)) others.types);
    }

-- ---- trees

abbrev here : Pos
here = record { line = 1; col = 1 }

abbrev no_name : List ℕ → List ℕ
no_name name = []

module _ (f : TyId → TyId) where
  abbrev mutual
    bare : Node → Node
    bare (node id at ty by form) = node id here (f ty) by (bare_form form)

    bare_form : Form → Form
    bare_form (Number value) = Number value
    bare_form (Truth value) = Truth value
    bare_form UnitValue = UnitValue
    bare_form (Variable key) = Variable key
    bare_form (Captured closure part name) = Captured closure part (no_name name)
    bare_form (Field base part) = Field (bare base) part
    bare_form (Index base index count) = Index (bare base) (bare index) count
    bare_form (Deref base) = Deref (bare base)
    bare_form (Not operand) = Not (bare operand)
    bare_form (Negate operand) = Negate (bare operand)
    bare_form (Arithmetic operator left right) = Arithmetic operator (bare left) (bare right)
    bare_form (Comparison operator left right) = Comparison operator (bare left) (bare right)
    bare_form (And left right) = And (bare left) (bare right)
    bare_form (Or left right) = Or (bare left) (bare right)
    bare_form (Assign place value) = Assign (bare place) (bare value)
    bare_form (Call body args) = Call body (bare_nodes args)
    bare_form (MethodCall body receiver args) = MethodCall body (bare receiver) (bare_nodes args)
    bare_form (VirtualCall trait_no method receiver args) =
        VirtualCall trait_no method (bare receiver) (bare_nodes args)
    bare_form (ClosureCall body callee args) = ClosureCall body (bare callee) (bare_nodes args)
    bare_form (Make adt variant fields) = Make adt variant (bare_fields fields)
    bare_form (Tuple parts) = Tuple (bare_nodes parts)
    bare_form (Array elements) = Array (bare_nodes elements)
    bare_form (Closure closure captures) = Closure closure (bare_nodes captures)
    bare_form (NewBox content) = NewBox (bare content)
    bare_form (Print operand) = Print (bare operand)
    bare_form Ask = Ask
    bare_form (DropValue operand) = DropValue (bare operand)
    bare_form (Forget operand) = Forget (bare operand)
    bare_form Panic = Panic
    bare_form (Borrow unique base) = Borrow unique (bare base)
    bare_form (Unsize trait_no operand) = Unsize trait_no (bare operand)
    bare_form (Block statements tail) = Block (bare_nodes statements) (bare_maybe tail)
    bare_form (Let pattern initialiser) = Let (bare pattern) (bare_maybe initialiser)
    bare_form (Evaluate expression) = Evaluate (bare expression)
    bare_form (If condition body otherwise) = If (bare condition) (bare body) (bare_maybe otherwise)
    bare_form (IfLet pattern scrutinee body otherwise) =
        IfLet (bare pattern) (bare scrutinee) (bare body) (bare_maybe otherwise)
    bare_form (Match scrutinee arms) = Match (bare scrutinee) (bare_nodes arms)
    bare_form (Arm pattern guard body) = Arm (bare pattern) (bare_maybe guard) (bare body)
    bare_form (Loop body) = Loop (bare body)
    bare_form (While condition body) = While (bare condition) (bare body)
    bare_form (WhileLet pattern scrutinee body) = WhileLet (bare pattern) (bare scrutinee) (bare body)
    bare_form (Break loop value) = Break loop (bare_maybe value)
    bare_form (Continue loop) = Continue loop
    bare_form (Return value) = Return (bare_maybe value)
    bare_form Wildcard = Wildcard
    bare_form (Binding name) = Binding (no_name name)
    bare_form (NumberPattern value) = NumberPattern value
    bare_form (TruthPattern value) = TruthPattern value
    bare_form (StructPattern fields) = StructPattern (bare_fields fields)
    bare_form (VariantPattern variant is_test fields) = VariantPattern variant is_test (bare_fields fields)
    bare_form (TuplePattern parts) = TuplePattern (bare_nodes parts)
    bare_form (ArrayPattern elements) = ArrayPattern (bare_nodes elements)
    bare_form (OrPattern alternatives) = OrPattern (bare_nodes alternatives)

    bare_nodes : Nodes → Nodes
    bare_nodes no_node = no_node
    bare_nodes (a_node first rest) = a_node (bare first) (bare_nodes rest)

    bare_fields : Fields → Fields
    bare_fields no_field = no_field
    bare_fields (a_field number value rest) = a_field number (bare value) (bare_fields rest)

    bare_maybe : MaybeNode → MaybeNode
    bare_maybe absent = absent
    bare_maybe (present value) = present (bare value)

  abbrev bare_param : ParamTree → ParamTree
  bare_param p = record { pattern = bare p.pattern; ty = f p.ty }

  abbrev bare_body : BodyTree → BodyTree
  bare_body b =
      record { number = b.number; params = map bare_param b.params; answer = f b.answer; block = bare b.block }

-- the bodies of an example, and those of a text as its types are numbered
abbrev pub trees : ProgramTree → List BodyTree
trees example = map (bare_body (λ ty. ty)) example.bodies

abbrev of_outcome : ProgramTree → Outcome → List BodyTree
of_outcome example (Typed p) = map (bare_body (same_in example.items p.items)) p.bodies
of_outcome example _ = []

abbrev pub trees_of : ProgramTree → List ℕ → List BodyTree
trees_of example text = of_outcome example (outcome text)
