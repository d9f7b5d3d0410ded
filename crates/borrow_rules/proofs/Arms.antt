-- What is told of a node as an arm is told by its form.
use Rattle.std.proofs.Common.{◌≡◌, ℕ, Option, refl}
use Rattle.mir_base.specs.declared.place_in_text.Pos.{Pos}
use Rattle.mir_ty.specs.declared.ty.TyId.{TyId}
use Rattle.typed_tree.specs.declared.node.Use.{Use}
use Rattle.typed_tree.specs.Tree.{node, Form, Arm}
use Rattle.typing_rules.specs.Accesses.{Aliases, AccessPlace, told_arm}
use Rattle.borrow_rules.specs.Forms.{arm_told}

pub by_form : (aliases : Aliases) (scrutinee : Option AccessPlace) (id : ℕ) (at : Pos) (ty : TyId) (by : Option Use) (form : Form) → told_arm aliases scrutinee (node id at ty by form) ≡ arm_told aliases scrutinee form
by_form aliases scrutinee id at ty by (Arm pattern guard body) = refl
by_form aliases scrutinee id at ty by _ = refl
