-- What is so of the nodes of a text, by where they stand and by their rows.
use Rattle.std.proofs.Common.{◌≡◌, Bool, true, false, List, ◌⊎◌, IsTrue}
use Rattle.mir_base.specs.declared.place_in_text.Pos.{Pos}
use Rattle.src_tree.specs.declared.place.GrammarPlace.{GrammarPlace}
use Rattle.src_tree.specs.declared.place.Start.{Start}
use Rattle.src_tree.specs.declared.row.GrammarRow.{GrammarRow}
use Rattle.src_tree.specs.declared.row.Sort.{Sort}
use Rattle.src_tree.specs.Grammar.{sort_of}
use Rattle.src_tree.specs.Layout.{SyntaxNode, Parts, end, tok, sub}
use Rattle.src_ast.specs.Syntax.{Word, syn, AName, Syns, a_syn}
use Rattle.src_ast.specs.View.{view, is_ident, is_label}
use Rattle.typing_rules.specs.Items.{bodies_in}
use Rattle.typing_rules.specs.Written.{WrittenScope}
use Rattle.well_typed.specs.Claim.{Holds}
use Rattle.typing_soundness.specs.Closures.{BodySyn, closures_of, function_text}
use Rattle.typing_soundness.specs.Heads.{bodies_text, inner_text}
use Rattle.typing_soundness.specs.Named.{field_named, variant_named, head_named, item_named}
use Rattle.typing_soundness.specs.Shapes.{shaped, is_block, no_self, variant_shaped, function_shaped, item_shaped}
use Rattle.typing_soundness.proofs.Tokens.{IsTextName}

abbrev pub Tree : Type 0
Tree = SyntaxNode Pos

abbrev pub Held : Type 0
Held = Parts Pos

-- its bodies are the closures in it, in their order
abbrev pub Tells : Tree → Type 0
Tells g = (around : WrittenScope) (rest : List BodySyn) → bodies_text around (bodies_in g) rest ≡ closures_of around (view g) rest

-- there are no closures in it
abbrev pub IsSilent : Tree → Type 0
IsSilent g = (around : WrittenScope) (rest : List BodySyn) → closures_of around (view g) rest ≡ rest

pub record IsName (g : Tree) : Type 0 where
  pub tells : Tells g
  pub silent : IsSilent g
  pub at : Pos
  pub word : Word
  pub is : view g ≡ syn at (AName word)
  pub named : IsTextName word

pub record IsLabel (g : Tree) : Type 0 where
  pub tells : Tells g
  pub silent : IsSilent g
  pub is : is_label (view g) ≡ true

-- a type, a pattern, a field, a pattern of a field
pub record IsQuiet (g : Tree) : Type 0 where
  pub tells : Tells g
  pub silent : IsSilent g
  pub no_name : is_ident (view g) ≡ false
  pub field : Holds (field_named (view g))

-- a parameter, which may be `self` or not
pub record IsParam (self : Bool) (g : Tree) : Type 0 where
  pub quiet : IsQuiet g
  pub other : self ≡ false → (rest : Syns) → no_self (a_syn (view g) rest) ≡ no_self rest

pub record IsVariant (g : Tree) : Type 0 where
  pub quiet : IsQuiet g
  pub shape : Holds (variant_shaped (view g))
  pub name : Holds (variant_named (view g))

pub record IsHead (g : Tree) : Type 0 where
  pub quiet : IsQuiet g
  pub shape : Holds (function_shaped (view g))
  pub name : Holds (head_named (view g))

-- an expression, a statement, an arm, an initialiser of a field
pub record IsExpr (g : Tree) : Type 0 where
  pub tells : Tells g
  pub shape : Holds (shaped (view g))
  pub no_name : is_ident (view g) ≡ false
  pub no_label : is_label (view g) ≡ false

pub record IsBlock (g : Tree) : Type 0 where
  pub expr : IsExpr g
  pub block : IsTrue (is_block (view g))

pub record IsMethod (g : Tree) : Type 0 where
  pub tells : (around : WrittenScope) (rest : List BodySyn) → bodies_text around (bodies_in g) rest ≡ function_text around (view
      g) rest
  pub no_name : is_ident (view g) ≡ false
  pub shape : Holds (function_shaped (view g))
  pub name : Holds (head_named (view g))

pub record IsItem (g : Tree) : Type 0 where
  pub tells : (around : WrittenScope) (rest : List BodySyn) → bodies_text around (bodies_in g) rest ≡ inner_text around (view
      g) rest
  pub shape : Holds (item_shaped (view g))
  pub names : Holds (item_named (view g))

-- ---- by row

-- `self` stands where it may
abbrev pub PatternIs : Bool → GrammarRow → Tree → Type 0
PatternIs self GrammarRow.Param g = IsParam false g
PatternIs self GrammarRow.SelfParam g = IsParam self g
PatternIs self GrammarRow.Arm g = IsExpr g
PatternIs self GrammarRow.LastArm g = IsExpr g
PatternIs self _ g = IsQuiet g

abbrev pub ExprIs : GrammarRow → Tree → Type 0
ExprIs GrammarRow.Block g = IsBlock g
ExprIs _ g = IsExpr g

abbrev pub SortIs : Bool → Sort → GrammarRow → Tree → Type 0
SortIs self Sort.File r g = Unit {0}
SortIs self Sort.Item r g = IsItem g
SortIs self Sort.Method r g = IsMethod g
SortIs self Sort.Head r g = IsHead g
SortIs self Sort.Field r g = IsQuiet g
SortIs self Sort.Variant r g = IsVariant g
SortIs self Sort.Name r g = IsName g
SortIs self Sort.Type_ r g = IsQuiet g
SortIs self Sort.Pattern r g = PatternIs self r g
SortIs self Sort.FieldPattern r g = IsQuiet g
SortIs self Sort.Expr r g = ExprIs r g
SortIs self Sort.FieldInit r g = IsExpr g
SortIs self Sort.Label r g = IsLabel g

abbrev pub RowIs : Bool → GrammarRow → Tree → Type 0
RowIs self r g = SortIs self (sort_of r) r g

-- ---- by place

abbrev pub AtPattern : Start → Bool → Tree → Type 0
AtPattern Start.IsParam self g = IsParam self g
AtPattern Start.IsArm self g = IsExpr g
AtPattern _ self g = IsQuiet g

abbrev pub AtExpr : Start → Tree → Type 0
AtExpr Start.OnlyBlock g = IsBlock g
AtExpr Start.OnlyLabel g = Unit {0}
AtExpr Start.Jump g = IsExpr g ⊎ IsLabel g
AtExpr Start.JumpInHead g = IsExpr g ⊎ IsLabel g
AtExpr _ g = IsExpr g

abbrev pub AtSort : Sort → Start → Bool → Tree → Type 0
AtSort Sort.File start self g = Unit {0}
AtSort Sort.Item start self g = IsItem g
AtSort Sort.Method start self g = IsMethod g
AtSort Sort.Head start self g = IsHead g
AtSort Sort.Field start self g = IsQuiet g
AtSort Sort.Variant start self g = IsVariant g
AtSort Sort.Name start self g = IsName g
AtSort Sort.Type_ start self g = IsQuiet g
AtSort Sort.Pattern start self g = AtPattern start self g
AtSort Sort.FieldPattern start self g = IsQuiet g
AtSort Sort.Expr start self g = AtExpr start g
AtSort Sort.FieldInit start self g = IsExpr g
AtSort Sort.Label start self g = IsLabel g

abbrev pub Stands : GrammarPlace → Tree → Type 0
Stands c g = AtSort c.sort c.start c.head g

-- ---- parts

-- so of each part
abbrev pub Each : (Tree → Type 0) → Held → Type 0
Each F end = Unit {0}
Each F (tok t rest) = Each F rest
Each F (sub g rest) = F g × Each F rest

-- of the first of some, and of the others
abbrev pub EachBut : (Tree → Type 0) → (Tree → Type 0) → Held → Type 0
EachBut F G end = Unit {0}
EachBut F G (tok t rest) = EachBut F G rest
EachBut F G (sub g rest) = F g × Each G rest
