-- The parameters of a body put entries where the table says; and so all of a body does.
use Rattle.std.proofs.Common.{◌∙◌, ℕ, Bool, List, [], ◌∷◌, ◌++◌, Option, refl, sym, ap, subst}
use Rattle.mir_base.specs.declared.place_in_text.NodeId.{NodeId}
use Rattle.mir_ty.specs.declared.ty.TyId.{TyId}
use Rattle.mir_ty.specs.ItemTable.{ItemTable}
use Rattle.scope_table.proofs.Naming.{names}
use Rattle.scope_table.proofs.Rules.{innermost_puts, bind_enters, put_innermost}
use Rattle.scope_table.proofs.Runs.{then_enters, at_value, changing_enters}
use Rattle.scope_table.specs.declared.row.ScopeRow.{ScopeRow}
use Rattle.scope_table.specs.Law.{ScopeHead, enter_if_any, entered, IsInnermost, Enters, PutsWhereTheTableSays}
use Rattle.scope_table.specs.Table.{named, row, param_rows, pattern_rows_in, rows_of_params, name_in, form_of}
use Rattle.src_meaning.specs.Programs.{names_of_param, params_entered}
use Rattle.src_meaning.specs.Scopes.{Entry, innermost, with_entry, Does, ◌>>◌, changing}
use Rattle.src_meaning.specs.Shape.{head, shape, shape_of}
use Rattle.store_model.specs.Effects.{Effects}
use Rattle.store_model.specs.Places.Place.{whole_local}
use Rattle.typed_tree.specs.Nodes.{number_of}
use Rattle.typed_tree.specs.Tree.{ParamTree, Node, node, Form}
use Rattle.scope_table.proofs.OneName.{Kind, one_name, no_name, kind_in}
use Rattle.scope_table.proofs.Putting.{puts}

module _ {W : Type 0} (items : ItemTable) (p : Effects W) (fuel : ℕ) where
  -- Parameters.

  module _ (heads : List ScopeHead) (scope : NodeId) (in_i : IsInnermost scope heads) where
    param_names : (n : Node) → Enters heads (pattern_rows_in scope (name_in scope) (form_of n)) (names_of_param items p fuel (shape items n).is_binding ((shape items n).bindings (whole_local (number_of n))))
    param_names (node id at ty by form) = named_by form (kind_in form)
      where
        named_by : (form : Form) → Kind form → Enters heads (pattern_rows_in scope (name_in scope) form) (names_of_param items p fuel (shape_of items form (head id ty by)).is_binding ((shape_of items form (head id ty by)).bindings (whole_local id)))
        named_by _ (one_name text) = at_value heads
        named_by _ (no_name form none first name unnamed role) =
            let bounds = (shape_of items form (head id ty by)).bindings (whole_local id) in
            let A = pattern_rows_in scope (name_in scope) form in
            subst (λ (b : Bool). Enters heads A (names_of_param items p fuel b bounds)) (sym (none items (head id ty by)))
            (bind_enters items p heads scope.0 innermost (put_innermost items p heads scope in_i) A bounds
            (λ H. sym (ap (λ (o : Option NodeId). entered A (enter_if_any o (named id) H)) (unnamed (name_in scope)))
            ∙ names items scope (name_in scope) scope refl (node id at ty by form) (whole_local id) H))

    one_param : (n : Node) (ty : TyId) (rest : List ScopeRow) (next : Does W) → Enters heads rest next → Enters heads (param_rows scope n ++ rest) (changing (innermost (with_entry (record { key = number_of n; ty = ty }))) >> (names_of_param items p fuel (shape items n).is_binding ((shape items n).bindings (whole_local (number_of n))) >> next))
    one_param (node id at own_ty by form) ty rest next then_made =
        let n = node id at own_ty by form in
        let e : Entry = record { key = id; ty = ty } in
        let inside = pattern_rows_in scope (name_in scope) form in
        let own = row (named id) scope (name_in scope) in
        let bound : Does W = names_of_param items p fuel (shape items n).is_binding ((shape items n).bindings (whole_local id)) in
        then_enters heads (own ∷ []) (inside ++ rest) (changing (innermost (with_entry e))) (bound >> next)
        (changing_enters heads (own ∷ []) (innermost (with_entry e)) (λ S is. innermost_puts (with_entry e) id (λ s. refl) scope S (subst (IsInnermost scope) (sym is) in_i)))
        (then_enters heads inside rest bound next (param_names n) then_made)

    pub params_law : (params : List ParamTree) → Enters heads (rows_of_params scope params) (params_entered items p fuel params)
    params_law [] = at_value heads
    params_law (param ∷ params) = one_param param.pattern param.ty (rows_of_params scope params) (params_entered items p fuel params) (params_law params)

pub table_is_right : (W : Type 0) → PutsWhereTheTableSays W
table_is_right W = record {
  nodes = λ items p fuel heads w n st new. puts items p fuel heads w n st new;
  params = λ items p fuel heads scope params in_i. params_law items p fuel heads scope in_i params;
}
