-- How large a pattern is: a part is smaller than the whole.
use Rattle.std.specs.Prelude.{ℕ, suc, ◌+◌, Option, Some, None}
use Rattle.src_ast.specs.Syntax.{Syn, syn, Shape, APattern, AFieldPattern, Pattern, PartsPattern, FieldsPattern, ParensPattern, TuplePattern, ArrayPattern, Alternatives, Syns, no_syn, a_syn, MaybeSyn, nothing, just}

abbrev mutual
  pub size : Syn → ℕ
  size (syn at form) = suc (form_size form)

  pub form_size : Shape → ℕ
  form_size (APattern p) = pattern_size p
  form_size (AFieldPattern name inside) = maybe_size inside
  form_size _ = 0

  pub pattern_size : Pattern → ℕ
  pattern_size (PartsPattern first second parts dots) = sizes parts
  pattern_size (FieldsPattern first second fields dots) = sizes fields
  pattern_size (ParensPattern inside) = size inside
  pattern_size (TuplePattern parts dots) = sizes parts
  pattern_size (ArrayPattern elements dots) = sizes elements
  pattern_size (Alternatives patterns) = sizes patterns
  pattern_size _ = 0

  pub sizes : Syns → ℕ
  sizes no_syn = 0
  sizes (a_syn first rest) = suc (size first + sizes rest)

  pub maybe_size : MaybeSyn → ℕ
  maybe_size nothing = 0
  maybe_size (just inside) = size inside

abbrev pub seen_size : Option Pattern → ℕ
seen_size None = 0
seen_size (Some p) = pattern_size p

abbrev pub seen_field_size : Option Shape → ℕ
seen_field_size None = 0
seen_field_size (Some form) = form_size form
