-- The forms of what items are made of, as they are borrowed from a tree: parameters, fields, variants.
use Rattle.std.specs.Prelude.{Option, Some, None}
use Rattle.src_ast.specs.declared.part.FieldForm.{FieldForm}
use Rattle.src_ast.specs.declared.part.ParamForm.{ParamForm}
use Rattle.src_ast.specs.declared.part.Receiver.{Receiver as Borrowed}
use Rattle.src_ast.specs.declared.part.VariantForm.{VariantForm}
use Rattle.src_ast.specs.ItemForms.{kind_seen}
use Rattle.src_ast.specs.Seen.{syn_of, nodes_of}
use Rattle.src_ast.specs.Syntax.{Receiver, ByValue, ByShared, ByUnique, Shape, AField, AVariant, Param, ParamOf, SelfParam}

abbrev pub receiver_seen : Borrowed → Receiver
receiver_seen Borrowed.Value = ByValue
receiver_seen Borrowed.Shared = ByShared
receiver_seen Borrowed.Unique = ByUnique

abbrev pub param_of : ParamForm → Option Param
param_of (ParamForm.Pattern pattern ty) = Some (ParamOf (syn_of pattern.now) (syn_of ty.now))
param_of (ParamForm.SelfValue receiver) = Some (SelfParam (receiver_seen receiver))
param_of ParamForm.Other = None

abbrev pub field_of : FieldForm → Shape
field_of f = AField f.name.now (syn_of f.ty.now)

abbrev pub variant_of : VariantForm → Shape
variant_of v = AVariant v.name.now (kind_seen v.kind) (nodes_of v.fields)
