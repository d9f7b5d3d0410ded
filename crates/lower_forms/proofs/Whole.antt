-- The code of a form, and what comes behind it, are the code of a node.
use Rattle.std.proofs.Common.{◌≡◌, ◌∙◌, ℕ, Bool, List, Option, ap}
use Rattle.mir_base.specs.declared.place_in_text.Pos.{Pos}
use Rattle.mir_ty.specs.ItemTable.{ItemTable}
use Rattle.mir_ty.specs.declared.ty.TyId.{TyId}
use Rattle.src_meaning.specs.Evaluation.{to_own_key}
use Rattle.src_meaning.specs.Forms.{LoopsAndGuards, Destination, is_never}
use Rattle.src_meaning.specs.Shape.{NodeHead, head, shape, shape_of}
use Rattle.typed_tree.specs.Tree as tree
use Rattle.typed_tree.specs.Tree.{Form}
use Rattle.typed_tree.specs.declared.node.Use.{Use}
use Rattle.lower_code.specs.Forms.{code, code_of_form}
use Rattle.lower_code.specs.Ops.{CodeWord, onto}
use Rattle.lower_code.specs.View.{done}
use Rattle.lower_code.specs.Wanted.{Category, code_for, own_in, made_into, finished_onto}
use Rattle.lower_code.proofs.Wanting.{of_node}

pub of_words : (items : ItemTable) (w : Category) (id : ℕ) (at : Pos) (ty : TyId) (by : Option Use) (form : Form) (around : LoopsAndGuards) (h : NodeHead) (own : Bool) (to : Destination) (before words after : List CodeWord) → h ≡ head id ty by → own ≡ own_in w → to ≡ to_own_key (is_never items ty) id (made_into w id) → words ≡ onto (done (code_of_form items form h (shape_of items form h)) around own to) before → after ≡ finished_onto items w (shape items (tree.node id at ty by form)).is_place (head id ty by) (shape items (tree.node id at ty by form)) around words → after ≡ onto (code_for w (code items (tree.node id at ty by form)) around) before
of_words items w id at ty by form around h own to before words after heads owns goes made finished =
    finished
    ∙ ap (finished_onto items w (shape items (tree.node id at ty by form)).is_place (head id ty by) (shape items (tree.node id at ty by form)) around)
    (made ∙ (λ i. onto (done (code_of_form items form (heads i) (shape_of items form (heads i))) around (owns i) (goes i)) before))
    ∙ of_node items w id ty by form around before
