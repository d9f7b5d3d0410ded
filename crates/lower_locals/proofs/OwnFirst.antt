-- The locals of a node are its own, and then those of its parts.
use Rattle.std.proofs.Common.{◌≡◌, ◌++◌, ℕ, Bool, true, false, Option, refl}
use Rattle.mir_base.specs.declared.place_in_text.Pos.{Pos}
use Rattle.mir_ty.specs.declared.ty.TyId.{TyId}
use Rattle.mir_ty.specs.ItemTable.{ItemTable}
use Rattle.src_meaning.specs.Forms.{is_never}
use Rattle.src_meaning.specs.Locals.OfBody.{cells_in}
use Rattle.typed_tree.specs.declared.node.Use.{Use}
use Rattle.typed_tree.specs.Tree.{node, Form, MaybeNode, absent, present}
use Rattle.typed_tree.specs.Tree as tree
use Rattle.src_meaning.specs.Locals.OfBody as of_body
use Rattle.lower_locals.specs.Own.{own_local}
use Rattle.lower_locals.specs.View.{locals_of, locals_if_any, asked_of_initialiser}
use Rattle.lower_locals.specs.declared.own.AskedAs.{AskedAs}

module _ (items : ItemTable) (id : ℕ) (at : Pos) (ty : TyId) (by : Option Use) where
  by_type : (asked : AskedAs) (never : Bool) (form : Form) → is_never items ty ≡ never → locals_of items asked (node id at ty by form) ≡ own_local items asked id ty form ++ cells_in items form
  by_type AskedAs.Reached never (tree.Variable key) e = refl
  by_type AskedAs.Reached never (tree.Captured closure part name) e = refl
  by_type AskedAs.Reached never (tree.Field base part) e = refl
  by_type AskedAs.Reached never (tree.Index base index length) e = refl
  by_type AskedAs.Reached never (tree.Deref base) e = refl
  by_type AskedAs.Own true (tree.Variable key) e = rw e refl
  by_type AskedAs.Own true form e = rw e refl
  by_type AskedAs.Own false (tree.Variable key) e = rw e refl
  by_type AskedAs.Own false form e = rw e refl
  by_type AskedAs.Around true (tree.Variable key) e = rw e refl
  by_type AskedAs.Around true form e = rw e refl
  by_type AskedAs.Around false (tree.Variable key) e = rw e refl
  by_type AskedAs.Around false form e = rw e refl
  by_type AskedAs.Reached true form e = rw e refl
  by_type AskedAs.Reached false form e = rw e refl

  pub own_first : (asked : AskedAs) (form : Form) → locals_of items asked (node id at ty by form) ≡ own_local items asked id ty form ++ cells_in items form
  own_first asked form = by_type asked (is_never items ty) form refl

-- the value of a `let`
pub initialiser : (items : ItemTable) (id : ℕ) (at : Pos) (ty : TyId) (by : Option Use) (form : Form) (value : MaybeNode) → of_body.initial_cells items (node id at ty by form) value ≡ locals_if_any items (asked_of_initialiser form) value
initialiser items id at ty by (tree.Binding name) absent = refl
initialiser items id at ty by form absent = refl
initialiser items id at ty by (tree.Binding name) (present value) = refl
initialiser items id at ty by form (present value) = refl
