-- The syntax tree by its forms: what a row of the grammar says, without the marks between its parts. A form is one of a
-- sort: an expression, a pattern, a type. Each node has the place of its first token. Parentheses are nodes; the value
-- of a block stands by itself, as its tail.
use Rattle.std.specs.Prelude.{ℕ, zero, suc, ◌+◌, ◌/◌, ◌%◌, nat_lt, Bool, List, [], ◌∷◌, Option, if◌then◌else◌}
use Rattle.mir_base.specs.declared.int_kind.IntKind.{IntKind}
use Rattle.mir_base.specs.declared.operator.Cmp.{Cmp}
use Rattle.mir_base.specs.declared.operator.Math.{Math}
use Rattle.mir_base.specs.declared.place_in_text.Pos.{Pos}

-- a name, by its bytes; a name where it stands
abbrev pub Word : Type 0
Word = List ℕ

abbrev pub Named : Type 0
Named = Pos × Word

-- a number in decimal digits, in so many rounds at most; 48 is the code of 0
abbrev pub digits : ℕ → ℕ → Word → Word
digits zero n behind = behind
digits (suc more) n behind = if nat_lt n 10 then (48 + n) ∷ behind else digits more (n / 10) ((48 + n % 10) ∷ behind)

-- A number needs no more rounds than that: each round but the last makes it less.
abbrev pub number_word : ℕ → Word
number_word n = digits (suc n) n []

-- how the parts of a struct or a variant are written: none, as a list, by their names
pub data FieldsKind : Type 0 where
  Unit_ : FieldsKind
  Tuple_ : FieldsKind
  Fields_ : FieldsKind

-- how a method takes `self`
pub data Receiver : Type 0 where
  ByValue : Receiver
  ByShared : Receiver
  ByUnique : Receiver

mutual
  pub data Syn : Type 0 where
    syn : (at : Pos) (form : Shape) → Syn

  -- a form by its sort; a sort with one form has its parts here
  pub data Shape : Type 0 where
    AName : (name : Word) → Shape
    ALabel : (name : Word) → Shape
    AnExpression : (expression : Expression) → Shape
    AStatement : (statement : Statement) → Shape
    APattern : (pattern : Pattern) → Shape
    AType : (ty : WrittenType) → Shape
    AnItem : (item : Item) → Shape
    AParam : (param : Param) → Shape
    AField : (name : Word) (ty : Syn) → Shape
    AVariant : (name : Word) (kind : FieldsKind) (fields : Syns) → Shape
    AnInit : (name : Word) (value : MaybeSyn) → Shape
    AFieldPattern : (name : Word) (pattern : MaybeSyn) → Shape
    AnArm : (pattern : Syn) (guard : MaybeSyn) (body : Syn) → Shape
    -- what is no row of the grammar
    Odd : Shape

  -- a path begins with a name or, with none, with `Self`
  pub data Expression : Type 0 where
    Literal : (value : ℕ) (suffix : Option IntKind) → Expression
    TruthLiteral : (value : Bool) → Expression
    Path : (first : Option Word) (second : Option Word) → Expression
    Minus : (operand : Syn) → Expression
    Bang : (operand : Syn) → Expression
    Star : (operand : Syn) → Expression
    Ampersand : (unique : Bool) (operand : Syn) → Expression
    Calculate : (operator : Math) (left right : Syn) → Expression
    Compare : (operator : Cmp) (left right : Syn) → Expression
    Both : (left right : Syn) → Expression
    Either : (left right : Syn) → Expression
    Store : (place value : Syn) → Expression
    CallOf : (callee : Syn) (args : Syns) → Expression
    MethodOf : (receiver : Syn) (name : Word) (args : Syns) → Expression
    FieldOf : (base : Syn) (name : Word) → Expression
    PartOf : (base : Syn) (number : ℕ) → Expression
    ElementOf : (base index : Syn) → Expression
    StructOf : (first : Option Word) (second : Option Word) (inits : Syns) → Expression
    Parens : (inside : Syn) → Expression
    TupleOf : (parts : Syns) → Expression
    ArrayOf : (elements : Syns) → Expression
    Braces : (statements : Syns) (tail : MaybeSyn) → Expression
    IfElse : (condition body : Syn) (otherwise : MaybeSyn) → Expression
    IfLetElse : (pattern scrutinee body : Syn) (otherwise : MaybeSyn) → Expression
    MatchOn : (scrutinee : Syn) (arms : Syns) → Expression
    LoopOf : (label : Option Word) (body : Syn) → Expression
    WhileOf : (label : Option Word) (condition body : Syn) → Expression
    WhileLetOf : (label : Option Word) (pattern scrutinee body : Syn) → Expression
    BreakOf : (label : Option Word) (value : MaybeSyn) → Expression
    ContinueOf : (label : Option Word) → Expression
    ReturnOf : (value : MaybeSyn) → Expression
    MoveOf : (captures : Syns) (params : Syns) (answer : MaybeSyn) (body : Syn) → Expression
    PanicOf : Expression

  pub data Statement : Type 0 where
    LetOf : (pattern : Syn) (ty : MaybeSyn) (value : MaybeSyn) → Statement
    Empty : Statement
    Semi : (expression : Syn) → Statement

  -- the last `..` of a list stands by itself
  pub data Pattern : Type 0 where
    AnyPattern : Pattern
    BindPattern : (name : Word) → Pattern
    LiteralPattern : (is_negative : Bool) (value : ℕ) (suffix : Option IntKind) → Pattern
    TruthPattern : (value : Bool) → Pattern
    PathPattern : (first : Option Word) (second : Option Word) → Pattern
    PartsPattern : (first : Option Word) (second : Option Word) (parts : Syns) (dots : Bool) → Pattern
    FieldsPattern : (first : Option Word) (second : Option Word) (fields : Syns) (dots : Bool) → Pattern
    ParensPattern : (inside : Syn) → Pattern
    TuplePattern : (parts : Syns) (dots : Bool) → Pattern
    ArrayPattern : (elements : Syns) (dots : Bool) → Pattern
    Alternatives : (patterns : Syns) → Pattern

  pub data WrittenType : Type 0 where
    NamedType : (name : Word) → WrittenType
    GenericType : (name : Word) (content : Syn) → WrittenType
    DynType : (name : Word) (trait_ : Named) → WrittenType
    SelfType : WrittenType
    ParensType : (inside : Syn) → WrittenType
    TupleType : (parts : Syns) → WrittenType
    ArrayType : (element : Syn) (count : ℕ) (suffix : Option IntKind) → WrittenType
    NeverType : WrittenType
    RefType : (unique : Bool) (to : Syn) → WrittenType

  pub data Item : Type 0 where
    StructItem : (derives : List Named) (name : Named) (kind : FieldsKind) (fields : Syns) → Item
    EnumItem : (derives : List Named) (name : Named) (variants : Syns) → Item
    TraitItem : (name : Named) (heads : Syns) → Item
    ImplItem : (trait_ : Option Named) (name : Named) (methods : Syns) → Item
    -- a function, a method, or with no block the head of a trait's method
    FnItem : (name : Named) (params : Syns) (answer : MaybeSyn) (block : MaybeSyn) → Item

  pub data Param : Type 0 where
    ParamOf : (pattern ty : Syn) → Param
    SelfParam : (receiver : Receiver) → Param

  pub data Syns : Type 0 where
    no_syn : Syns
    a_syn : (first : Syn) (rest : Syns) → Syns

  pub data MaybeSyn : Type 0 where
    nothing : MaybeSyn
    just : (value : Syn) → MaybeSyn

abbrev pub at_of : Syn → Pos
at_of (syn at form) = at

abbrev pub shape_of : Syn → Shape
shape_of (syn at form) = form

abbrev pub list_of : Syns → List Syn
list_of no_syn = []
list_of (a_syn first rest) = first ∷ list_of rest
