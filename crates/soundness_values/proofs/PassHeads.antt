-- Of the meaning of a node: its head and its shape are those of the node; and a pattern that is one name is nothing
-- else. One line a form.
use Rattle.std.proofs.Common.{◌≡◌, ℕ, true, refl}
use Rattle.std.proofs.lemmas.Bool.{false≢true}
use Rattle.mir_ty.specs.ItemTable.{ItemTable}
use Rattle.store_model.specs.Effects.{Effects}
use Rattle.typed_tree.specs.Nodes.{number_of}
use Rattle.typed_tree.specs.Tree as tree
use Rattle.typed_tree.specs.Tree.{Node, node, Form}
use Rattle.src_meaning.specs.Evaluation.{meaning, meaning_of}
use Rattle.src_meaning.specs.Shape.{NodeHead, head, Shape, shape, shape_of}
use Rattle.well_typed.specs.Places.{ty_of}

-- a pattern that is one name
abbrev pub IsName : Form → Type 0
IsName (tree.Binding name) = Unit {0}
IsName form = ⊥

module _ {V : Type 0} (items : ItemTable) (q : Effects V) (fuel : ℕ) where
  head_of : (form : Form) (h : NodeHead) (s : Shape) → (meaning_of items q fuel form h s).head ≡ h
  head_of (tree.Number value) h s = refl
  head_of other h s = refl

  shape_is_of : (form : Form) (h : NodeHead) (s : Shape) → (meaning_of items q fuel form h s).shape ≡ s
  shape_is_of (tree.Number value) h s = refl
  shape_is_of other h s = refl

  pub type_is : (n : Node) → (meaning items q fuel n).head.ty ≡ ty_of n
  type_is (node id at ty by form) = λ i. (head_of form (head id ty by) (shape_of items form (head id ty by)) i).ty

  pub number_is : (n : Node) → (meaning items q fuel n).head.id ≡ number_of n
  number_is (node id at ty by form) = λ i. (head_of form (head id ty by) (shape_of items form (head id ty by)) i).id

  pub shape_is : (n : Node) → (meaning items q fuel n).shape ≡ shape items n
  shape_is (node id at ty by form) = shape_is_of form (head id ty by) (shape_of items form (head id ty by))

  pub named_form : (form : Form) (h : NodeHead) → (shape_of items form h).is_binding ≡ true → IsName form
  named_form (tree.Binding name) h e = tt
  named_form other h e = absurd (false≢true e)
