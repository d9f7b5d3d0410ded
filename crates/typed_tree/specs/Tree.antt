-- A typed program as plain data, without the places in memory where its nodes lie: what its meaning and its lowering
-- go by. The forms are those of The Rust Reference, "Expressions", "Statements" and "Patterns". Nothing in a node is
-- to be looked up by name: it has the numbers of the entry, part, variant, body, trait, method or loop that it means.
-- A binding and a captured variable have their names as well, which are printed where a use is refused.
use Rattle.std.specs.Prelude.{ℕ, ℤ, Bool, List, Option, Contains}
use Rattle.mir_base.specs.declared.operator.Cmp.{Cmp}
use Rattle.mir_base.specs.declared.operator.Math.{Math}
use Rattle.mir_base.specs.declared.place_in_text.Pos.{Pos}
use Rattle.mir_ty.specs.declared.ty.Ty.{Ty}
use Rattle.mir_ty.specs.declared.ty.TyId.{TyId}
use Rattle.mir_ty.specs.ItemTable.{ItemTable}
use Rattle.typed_tree.specs.declared.node.Use.{Use}

mutual
  -- a node: its number, its place in the text, its type, how it uses its place if it is one, and its form
  pub data Node : Type 0 where
    node : (id : ℕ) (at : Pos) (ty : TyId) (by : Option Use) (form : Form) → Node

  pub data Form : Type 0 where
    -- literals
    Number : (value : ℤ) → Form
    Truth : (value : Bool) → Form
    UnitValue : Form
    -- places: each reference and box on the way to a field or a method is gone through by a node of its own
    Variable : (key : ℕ) → Form
    Captured : (closure part : ℕ) (name : List ℕ) → Form
    Field : (base : Node) (part : ℕ) → Form
    Index : (base index : Node) (length : ℕ) → Form
    Deref : (base : Node) → Form
    -- operators and assignment
    Not : (operand : Node) → Form
    Negate : (operand : Node) → Form
    Arithmetic : (operator : Math) (left right : Node) → Form
    Comparison : (operator : Cmp) (left right : Node) → Form
    And : (left right : Node) → Form
    Or : (left right : Node) → Form
    Assign : (place value : Node) → Form
    -- calls: a receiver that is borrowed is a node that borrows
    Call : (body : ℕ) (args : Nodes) → Form
    MethodCall : (body : ℕ) (receiver : Node) (args : Nodes) → Form
    VirtualCall : (trait_no method : ℕ) (receiver : Node) (args : Nodes) → Form
    ClosureCall : (body : ℕ) (callee : Node) (args : Nodes) → Form
    -- constructors: the fields of a struct or a variant in the order in which they are written
    Make : (adt variant : ℕ) (fields : Fields) → Form
    Tuple : (parts : Nodes) → Form
    Array : (elements : Nodes) → Form
    Closure : (closure : ℕ) (captures : Nodes) → Form
    -- built-in calls
    NewBox : (content : Node) → Form
    Print : (operand : Node) → Form
    Ask : Form
    DropValue : (operand : Node) → Form
    Forget : (operand : Node) → Form
    Panic : Form
    -- references, and the coercion of a box to a boxed trait object
    Borrow : (unique : Bool) (base : Node) → Form
    Unsize : (trait_no : ℕ) (operand : Node) → Form
    -- blocks and statements
    Block : (statements : Nodes) (tail : MaybeNode) → Form
    Let : (pattern : Node) (initialiser : MaybeNode) → Form
    Evaluate : (expression : Node) → Form
    -- branches, arms and loops; a jump names its loop by the loop's number
    If : (condition then : Node) (otherwise : MaybeNode) → Form
    IfLet : (pattern scrutinee then : Node) (otherwise : MaybeNode) → Form
    Match : (scrutinee : Node) (arms : Nodes) → Form
    Arm : (pattern : Node) (guard : MaybeNode) (body : Node) → Form
    Loop : (body : Node) → Form
    While : (condition body : Node) → Form
    WhileLet : (pattern scrutinee body : Node) → Form
    Break : (loop : ℕ) (value : MaybeNode) → Form
    Continue : (loop : ℕ) → Form
    Return : (value : MaybeNode) → Form
    -- patterns: a binding makes an entry under its own number; a variant of an enum with one variant is no test
    Wildcard : Form
    Binding : (name : List ℕ) → Form
    NumberPattern : (value : ℤ) → Form
    TruthPattern : (value : Bool) → Form
    StructPattern : (fields : Fields) → Form
    VariantPattern : (variant : ℕ) (is_test : Bool) (fields : Fields) → Form
    TuplePattern : (parts : Nodes) → Form
    ArrayPattern : (elements : Nodes) → Form
    OrPattern : (alternatives : Nodes) → Form

  -- nodes in the order in which they are written
  pub data Nodes : Type 0 where
    no_node : Nodes
    a_node : (first : Node) (rest : Nodes) → Nodes

  -- numbered fields in the order in which they are written
  pub data Fields : Type 0 where
    no_field : Fields
    a_field : (number : ℕ) (value : Node) (rest : Fields) → Fields

  pub data MaybeNode : Type 0 where
    absent : MaybeNode
    present : (value : Node) → MaybeNode

pub record ParamTree : Type 0 where
  pub pattern : Node
  pub ty : TyId

-- a body: its number among the bodies of its program, its parameters, the type of its result, and its block
pub record BodyTree : Type 0 where
  pub number : ℕ
  pub params : List ParamTree
  pub answer : TyId
  pub block : Node

pub record ProgramTree : Type 0 where
  pub items : ItemTable
  pub bodies : List BodyTree

-- A program's table of items has `bool`, which comparisons, tests of literals and drop flags have as their type, and
-- `()`, also where its text names neither.
pub record IsProgram (program : ProgramTree) : Type 0 where
  pub has_bool : Contains program.items.types Ty.Bool
  pub has_unit : Contains program.items.types Ty.Unit
