-- A form as one of a sort, if it is one.
use Rattle.std.specs.Prelude.{Option, Some, None}
use Rattle.src_ast.specs.Syntax.{Shape, AnExpression, AStatement, APattern, AType, AnItem, AParam, AField, AVariant, AnInit, AFieldPattern, AnArm, Expression, Statement, Pattern, WrittenType, Item, Param}

abbrev pub expression_part : Shape → Option Expression
expression_part (AnExpression e) = Some e
expression_part _ = None

abbrev pub statement_part : Shape → Option Statement
statement_part (AStatement s) = Some s
statement_part _ = None

abbrev pub pattern_part : Shape → Option Pattern
pattern_part (APattern p) = Some p
pattern_part _ = None

abbrev pub type_part : Shape → Option WrittenType
type_part (AType t) = Some t
type_part _ = None

abbrev pub item_part : Shape → Option Item
item_part (AnItem i) = Some i
item_part _ = None

abbrev pub param_part : Shape → Option Param
param_part (AParam p) = Some p
param_part _ = None

-- a sort with one form is the form itself
abbrev pub field_part : Shape → Option Shape
field_part (AField name ty) = Some (AField name ty)
field_part _ = None

abbrev pub variant_part : Shape → Option Shape
variant_part (AVariant name kind fields) = Some (AVariant name kind fields)
variant_part _ = None

abbrev pub init_part : Shape → Option Shape
init_part (AnInit name value) = Some (AnInit name value)
init_part _ = None

abbrev pub field_pattern_part : Shape → Option Shape
field_pattern_part (AFieldPattern name pattern) = Some (AFieldPattern name pattern)
field_pattern_part _ = None

abbrev pub arm_part : Shape → Option Shape
arm_part (AnArm pattern guard body) = Some (AnArm pattern guard body)
arm_part _ = None
