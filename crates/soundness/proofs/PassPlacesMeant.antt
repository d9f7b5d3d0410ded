-- What a form that is no place means, where it is reached as one: a temporary, whatever the effects are.
use Rattle.std.proofs.Common.{◌≡◌, ℕ, false, Option, refl, sym}
use Rattle.std.proofs.lemmas.Bool.{false≢true}
use Rattle.mir_ty.specs.declared.ty.TyId.{TyId}
use Rattle.mir_ty.specs.ItemTable.{ItemTable}
use Rattle.store_model.specs.Effects.{Effects}
use Rattle.typed_tree.specs.declared.node.Use.{Use}
use Rattle.typed_tree.specs.Tree as tree
use Rattle.typed_tree.specs.Tree.{Form}
use Rattle.src_meaning.specs.Evaluation.{meaning_of}
use Rattle.src_meaning.specs.Forms as forms
use Rattle.src_meaning.specs.Forms.{Meaning}
use Rattle.src_meaning.specs.Shape.{head, shape_of}
use Rattle.well_typed.specs.Places.{is_place}

module _ {V : Type 0} (items : ItemTable) (r : Effects V) (fuel : ℕ) where
  abbrev pub Of : Form → ℕ → TyId → Option Use → Meaning V
  Of form id ty by = meaning_of items r fuel form (head id ty by) (shape_of items form (head id ty by))

  pub temporary_meant : (form : Form) (id : ℕ) (ty : TyId) (by : Option Use) → is_place form ≡ false →
      (Of form id ty by).reach
      ≡ forms.temporary items r (Of form id ty by).head (Of form id ty by).shape (Of form id ty by).evaluate
  temporary_meant (tree.Variable key) id ty by e = absurd (false≢true (sym e))
  temporary_meant (tree.Captured closure part name) id ty by e = absurd (false≢true (sym e))
  temporary_meant (tree.Field base part) id ty by e = absurd (false≢true (sym e))
  temporary_meant (tree.Index base index length) id ty by e = absurd (false≢true (sym e))
  temporary_meant (tree.Deref base) id ty by e = absurd (false≢true (sym e))
  temporary_meant form id ty by e = refl
