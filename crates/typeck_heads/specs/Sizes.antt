-- How large a type is as it is written: a part is smaller than the whole.
use Rattle.std.specs.Prelude.{ℕ, suc, ◌+◌, Option, Some, None}
use Rattle.src_ast.specs.Syntax.{Syn, syn, Shape, AType, WrittenType, GenericType, ParensType, TupleType, ArrayType, RefType, Syns, no_syn, a_syn}

abbrev mutual
  pub size : Syn → ℕ
  size (syn at form) = suc (form_size form)

  pub form_size : Shape → ℕ
  form_size (AType t) = type_size t
  form_size _ = 0

  pub type_size : WrittenType → ℕ
  type_size (GenericType name content) = size content
  type_size (ParensType inside) = size inside
  type_size (TupleType parts) = sizes parts
  type_size (ArrayType element count suffix) = size element
  type_size (RefType unique to) = size to
  type_size _ = 0

  pub sizes : Syns → ℕ
  sizes no_syn = 0
  sizes (a_syn first rest) = suc (size first + sizes rest)

abbrev pub seen_size : Option WrittenType → ℕ
seen_size None = 0
seen_size (Some t) = type_size t
