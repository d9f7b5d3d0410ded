-- Forms that may be a scope for temporaries of their own.
use Rattle.std.specs.Prelude.{Bool, true, false, ◌||◌, ◌≡◌}
use Rattle.mir_ty.specs.ItemTable.{ItemTable}
use Rattle.typed_tree.specs.Tree.{Form}
use Rattle.lower_code.specs.declared.code.Code.{Code}
use Rattle.lower_code.specs.declared.context.Context.{Context}
use Rattle.lower_code.specs.Ops.{onto, own_scope_onto}
use Rattle.lower_code.specs.View.{ops_of, form_code}
use Rattle.lower_forms.specs.Parted.{is_condition, is_on_pattern, is_plain_loop, is_while_let, is_jump}

-- branches, loops, and the ways out of loops and bodies
abbrev pub may_be_scope : Form → Bool
may_be_scope form =
    is_condition form || is_on_pattern form || is_plain_loop form || is_while_let form || is_jump form

-- in its own scope, if it is one, what stands there is the code of a form of a group; a form that is not in it changes
-- nothing
abbrev pub IsScopedIn : (Form → Bool) → ItemTable → Form → Context → (before after : Code) → Bool → Type 0
IsScopedIn group items form at before after false = (group form ≡ false) × (after ≡ before)
IsScopedIn group items form at before after true =
    own_scope_onto at.head.id.0 at.own (ops_of after) ≡ onto (form_code items form at) (ops_of before)
