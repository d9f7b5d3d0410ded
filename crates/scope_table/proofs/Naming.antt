-- The names of a pattern: the rows of the table make the entries of its bindings, in their order.
use Rattle.std.proofs.Common.{◌≡◌, ◌∙◌, ℕ, suc, Bool, true, false, List, [], ◌∷◌, ◌++◌, Option, Some, refl, sym, ap}
use Rattle.mir_base.specs.declared.place_in_text.NodeId.{NodeId}
use Rattle.mir_ty.specs.ItemTable.{ItemTable}
use Rattle.scope_table.proofs.Entering.{entered_append}
use Rattle.scope_table.specs.declared.row.MadeAround.{MadeAround}
use Rattle.scope_table.specs.declared.row.ScopeRow.{ScopeRow}
use Rattle.scope_table.specs.Law.{Held, enter, enter_if_any, entered}
use Rattle.scope_table.specs.Table.{named, row, idle, by_name, has_parts, where_true, where_false, pattern_rows, part_rows, pattern_rows_of_fields, pattern_rows_among}
use Rattle.src_meaning.specs.Shape.{NodeHead, head, BoundName, extended, shape, shape_of, in_fields, in_parts}
use Rattle.store_model.specs.Places.Place.{Step, ToPart, ToField, Place}
use Rattle.typed_tree.specs.Nodes.{nodes_in}
use Rattle.typed_tree.specs.Tree.{Node, node, Form, Nodes, no_node, a_node, Fields, no_field, a_field, Number, Truth, UnitValue, Variable, Captured, Field, Index, Deref, Not, Negate, Arithmetic, Comparison, And, Or, Assign, Call, MethodCall, VirtualCall, ClosureCall, Make, Tuple, Array, Closure, NewBox, Print, Ask, DropValue, Forget, Panic, Borrow, Unsize, Block, Let, Evaluate, If, IfLet, Match, Arm, Loop, While, WhileLet, Break, Continue, Return, Wildcard, Binding, NumberPattern, TruthPattern, StructPattern, VariantPattern, TuplePattern, ArrayPattern, OrPattern}

-- the entries of names, one after the other
abbrev pub named_in : (scope : ℕ) → List BoundName → Held → Held
named_in scope [] H = H
named_in scope (b ∷ bounds) H = named_in scope bounds (enter scope b.key H)

pub named_append : (scope : ℕ) (A B : List BoundName) (H : Held) → named_in scope (A ++ B) H ≡ named_in scope B (named_in scope A H)
named_append scope [] B H = refl
named_append scope (b ∷ A) B H = named_append scope A B (enter scope b.key H)

pub idle_same : (t : NodeId) (nodes : List Node) (H : Held) → entered (idle t nodes) H ≡ H
idle_same t [] H = refl
idle_same t (n ∷ nodes) H = idle_same t nodes H

pub where_same : (b : Bool) (t : NodeId) (nodes : List Node) (H : Held) → entered (where_true b (idle t nodes)) H ≡ H
where_same true t nodes H = idle_same t nodes H
where_same false t nodes H = refl

unless_same : (b : Bool) (t : NodeId) (nodes : List Node) (H : Held) → entered (where_false b (idle t nodes)) H ≡ H
unless_same true t nodes H = refl
unless_same false t nodes H = idle_same t nodes H

module _ (items : ItemTable) (t : NodeId) (name : MadeAround) (scope : NodeId) (is : name.entry ≡ Some scope) where
  abbrev Names : List ScopeRow → List BoundName → Type 0
  Names A bounds = (H : Held) → entered A H ≡ named_in scope.0 bounds H

  mutual
    pub names : (n : Node) (place : Place) → Names (pattern_rows t name n) ((shape items n).bindings place)
    names (node id at ty by form) place H =
        entered_append (row (named id) t (by_name name form) ∷ part_rows t name form) (where_false (has_parts form) (idle t (nodes_in form))) H
        ∙ unless_same (has_parts form) t (nodes_in form) (entered (part_rows t name form) (enter_if_any (by_name name form).entry (named id) H))
        ∙ in_form form (head id ty by) place H

    in_form : (form : Form) (h : NodeHead) (place : Place) (H : Held) → entered (part_rows t name form) (enter_if_any (by_name name form).entry (named h.id) H) ≡ named_in scope.0 ((shape_of items form h).bindings place) H
    in_form (Binding name) h place H = ap (λ (o : Option NodeId). enter_if_any o (named h.id) H) is
    in_form (StructPattern fields) h place H = field_names fields ToPart place H
    in_form (VariantPattern variant is_test fields) h place H = field_names fields (ToField variant) place H
    in_form (TuplePattern parts) h place H = part_names parts 0 place H
    in_form (ArrayPattern elements) h place H = part_names elements 0 place H
    in_form other h place H = refl

    field_names : (fields : Fields) (step : ℕ → Step) (place : Place) → Names (pattern_rows_of_fields t name fields) ((in_fields items fields step).bindings place)
    field_names no_field step place H = refl
    field_names (a_field number value rest) step place H =
        entered_append (pattern_rows t name value) (pattern_rows_of_fields t name rest) H
        ∙ field_names rest step place (entered (pattern_rows t name value) H)
        ∙ ap (named_in scope.0 ((in_fields items rest step).bindings place)) (names value (extended (step number) place) H)
        ∙ sym (named_append scope.0 ((shape items value).bindings (extended (step number) place)) ((in_fields items rest step).bindings place) H)

    part_names : (nodes : Nodes) (n : ℕ) (place : Place) → Names (pattern_rows_among t name nodes) ((in_parts items nodes n).bindings place)
    part_names no_node n place H = refl
    part_names (a_node first rest) n place H =
        entered_append (pattern_rows t name first) (pattern_rows_among t name rest) H
        ∙ part_names rest (suc n) place (entered (pattern_rows t name first) H)
        ∙ ap (named_in scope.0 ((in_parts items rest (suc n)).bindings place)) (names first (extended (ToPart n) place) H)
        ∙ sym (named_append scope.0 ((shape items first).bindings (extended (ToPart n) place)) ((in_parts items rest (suc n)).bindings place) H)
