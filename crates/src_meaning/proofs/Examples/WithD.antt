-- What most examples begin with: a struct with a `Drop` body that does nothing, and a function that takes it.
--     struct D(i32);
--     impl Drop for D { fn drop(&mut self) {} }
--     fn take(x: D) {}
use Rattle.std.specs.Prelude.{◌++◌, ℕ, ◌+◌, ℤ, [], ◌∷◌, Some, codes}
use Rattle.mir_ty.specs.declared.ty.Ty.{Ty}
use Rattle.mir_ty.specs.declared.ty.TyId.{TyId}
use Rattle.mir_ty.specs.ItemTable.{ItemTable}
use Rattle.typed_tree.specs.declared.node.Use.{Use}
use Rattle.typed_tree.specs.Tree.{Node, Number, Make, Block, no_node, absent, BodyTree}
use Rattle.src_meaning.proofs.Examples.Words.{a_name, i32, unit, scalars, n, used, fields, body, param, ty_no, struct, head}

abbrev pub d_ty : TyId
d_ty = ty_no 4

abbrev pub unique_d_ty : TyId
unique_d_ty = ty_no 5

abbrev pub shared_d_ty : TyId
shared_d_ty = ty_no 6

-- these items and then others: their types are numbered from 7, their structs and enums from 1, their bodies from 2
abbrev pub with_d : ItemTable → ItemTable
with_d others = record others {
  types = scalars ++ Ty.Adt 0 ∷ Ty.Unique d_ty ∷ Ty.Shared d_ty ∷ others.types;
  adts = struct (codes "D") (i32 ∷ []) (Some 0) ∷ others.adts;
  bodies = head (codes "D::drop") (unique_d_ty ∷ []) unit ∷ head (codes "take") (d_ty ∷ []) unit ∷ others.bodies;
}

-- `D(number)`
abbrev pub d : ℕ → ℤ → Node
d id number = n id d_ty (Make 0 0 (fields ((0, n (id + 1) i32 (Number number)) ∷ [])))

abbrev pub drop_d : BodyTree
drop_d = body 0 (param (used 0 unique_d_ty Use.Copy a_name) unique_d_ty ∷ []) unit (n 1 unit (Block no_node absent))

abbrev pub take : BodyTree
take = body 1 (param (used 0 d_ty Use.Move a_name) d_ty ∷ []) unit (n 1 unit (Block no_node absent))
