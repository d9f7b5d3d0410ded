-- The forms of types, as they are borrowed from a tree.
use Rattle.std.specs.Prelude.{Option, Some, None}
use Rattle.src_ast.specs.declared.ty.TypeForm.{TypeForm}
use Rattle.src_ast.specs.Seen.{syn_of, nodes_of}
use Rattle.src_ast.specs.Syntax.{WrittenType, NamedType, GenericType, DynType, SelfType, ParensType, TupleType, ArrayType, NeverType, RefType}

abbrev pub type_of : TypeForm → Option WrittenType
type_of (TypeForm.Name name) = Some (NamedType name.now)
type_of (TypeForm.Generic name content) = Some (GenericType name.now (syn_of content.now))
type_of (TypeForm.Dyn name trait_at trait_name) = Some (DynType name.now (trait_at, trait_name.now))
type_of TypeForm.SelfType = Some SelfType
type_of (TypeForm.Parens inside) = Some (ParensType (syn_of inside.now))
type_of (TypeForm.Tuple parts) = Some (TupleType (nodes_of parts))
type_of (TypeForm.Array element count suffix) = Some (ArrayType (syn_of element.now) count suffix)
type_of TypeForm.Never = Some NeverType
type_of (TypeForm.Reference unique to) = Some (RefType unique (syn_of to.now))
type_of TypeForm.Other = None
