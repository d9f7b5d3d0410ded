-- The forms of patterns, as they are borrowed from a tree.
use Rattle.std.specs.Prelude.{Option, Some, None}
use Rattle.src_ast.specs.declared.pattern.FieldPatternForm.{FieldPatternForm}
use Rattle.src_ast.specs.declared.pattern.PatternForm.{PatternForm}
use Rattle.src_ast.specs.Seen.{syn_of, nodes_of, maybe_of, word_of}
use Rattle.src_ast.specs.Syntax.{Shape, AFieldPattern, Pattern, AnyPattern, BindPattern, LiteralPattern, TruthPattern, PathPattern, PartsPattern, FieldsPattern, ParensPattern, TuplePattern, ArrayPattern, Alternatives}

abbrev pub pattern_of : PatternForm → Option Pattern
pattern_of PatternForm.Wild = Some AnyPattern
pattern_of (PatternForm.Bind name) = Some (BindPattern name.now)
pattern_of (PatternForm.Literal is_negative value suffix) = Some (LiteralPattern is_negative value suffix)
pattern_of (PatternForm.Truth value) = Some (TruthPattern value)
pattern_of (PatternForm.Path path) = Some (PathPattern (word_of path.first) (word_of path.second))
pattern_of (PatternForm.Parts path parts dots) =
    Some (PartsPattern (word_of path.first) (word_of path.second) (nodes_of parts) dots)
pattern_of (PatternForm.Fields path fields dots) =
    Some (FieldsPattern (word_of path.first) (word_of path.second) (nodes_of fields) dots)
pattern_of (PatternForm.Parens inside) = Some (ParensPattern (syn_of inside.now))
pattern_of (PatternForm.Tuple parts dots) = Some (TuplePattern (nodes_of parts) dots)
pattern_of (PatternForm.Array elements dots) = Some (ArrayPattern (nodes_of elements) dots)
pattern_of (PatternForm.Or patterns) = Some (Alternatives (nodes_of patterns))
pattern_of PatternForm.Other = None

abbrev pub field_pattern_of : FieldPatternForm → Shape
field_pattern_of f = AFieldPattern f.name.now (maybe_of f.pattern)
