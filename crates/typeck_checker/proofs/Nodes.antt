-- The parts of a node's plain tree.
use Rattle.std.proofs.Common.{◌≡◌, rules, ap, sym, ◌∙◌, Some}
use Rattle.typed_tree.specs.Tree.{node}
use Rattle.typed_tree.specs.View.{tree_of, form_of}
use Rattle.typed_tree.specs.declared.node.Form.{the_lemmas}
use Rattle.typed_tree.specs.declared.node.Node.{Node}
use Rattle.typed_tree.specs.declared.node.Use.{Use}
use Rattle.typing_rules.specs.Places.{place_in_text, used}
use Rattle.well_typed.specs.Places as forms
use Rattle.well_typed.specs.Places.{ty_of}

pub shape : (n : Node) → tree_of n ≡ node n.id.0 n.at n.ty n.by (form_of n.form)
shape n = search (rules, the_lemmas)

pub ty_same : (n : Node) → ty_of (tree_of n) ≡ n.ty
ty_same n = ap ty_of (shape n)

pub at_same : (n : Node) → place_in_text (tree_of n) ≡ n.at
at_same n = ap place_in_text (shape n)

pub used_so : (n : Node) (by : Use) → tree_of (record n { by = Some by }) ≡ used by (tree_of n)
used_so n by = shape (record n { by = Some by }) ∙ sym (ap (used by) (shape n))

pub form_same : (n : Node) → forms.form_of (tree_of n) ≡ form_of n.form
form_same n = ap forms.form_of (shape n)
