-- What the examples of panics begin with: a struct whose `Drop` body panics at a negative number.
--     struct N(i32);
--     impl Drop for N { fn drop(&mut self) { if self.0 < 0 { panic!() } } }
use Rattle.std.specs.Prelude.{◌++◌, ℕ, ◌+◌, ℤ, pos, [], ◌∷◌, Some, codes}
use Rattle.mir_base.specs.declared.operator.Cmp.{Cmp}
use Rattle.mir_ty.specs.declared.ty.Ty.{Ty}
use Rattle.mir_ty.specs.declared.ty.TyId.{TyId}
use Rattle.mir_ty.specs.ItemTable.{ItemTable}
use Rattle.typed_tree.specs.declared.node.Use.{Use}
use Rattle.typed_tree.specs.Tree.{Node, Number, Variable, Field, Deref, Comparison, Make, Panic, Block, If, no_node, absent, present, BodyTree}
use Rattle.src_meaning.proofs.Examples.Words.{a_name, i32, unit, bool, never, scalars, n, used, fields, body, param, ty_no, struct, head}

abbrev pub n_ty : TyId
n_ty = ty_no 4

abbrev pub unique_n_ty : TyId
unique_n_ty = ty_no 5

-- these items and then others: their types are numbered from 6, their structs and enums from 1, their bodies from 1
abbrev pub with_n : ItemTable → ItemTable
with_n others = record others {
  types = scalars ++ Ty.Adt 0 ∷ Ty.Unique n_ty ∷ others.types;
  adts = struct (codes "N") (i32 ∷ []) (Some 0) ∷ others.adts;
  bodies = head (codes "N::drop") (unique_n_ty ∷ []) unit ∷ others.bodies;
}

-- `N(number)`
abbrev pub nn : ℕ → ℤ → Node
nn id number = n id n_ty (Make 0 0 (fields ((0, n (id + 1) i32 (Number number)) ∷ [])))

abbrev pub drop_n : BodyTree
drop_n = body 0 (param (used 0 unique_n_ty Use.Copy a_name) unique_n_ty ∷ []) unit
    (n 1 unit (Block no_node (present (n 2 unit (If
    (n 3 bool (Comparison Cmp.Lt (used 4 i32 Use.Copy (Field (n 5 n_ty (Deref (n 6 unique_n_ty (Variable 0)))) 0))
    (n 7 i32 (Number (pos 0)))))
    (n 8 never (Block no_node (present (n 9 never Panic))))
    absent)))))
