-- When a typed pattern is well typed for the place that it takes apart (The Rust Reference, "Patterns").
use Rattle.std.specs.Prelude.{ℕ, nat_lt, Bool, true, false, ◌&&◌, ◌||◌, not, List, [], ◌∷◌, Option, Some, None, is_none, length, replicate, suc, if◌then◌else◌}
use Rattle.std.specs.List.{filter_map}
use Rattle.std.specs.Option.{option_map_or}
use Rattle.mir_ty.specs.declared.ty.TyId.{TyId}
use Rattle.mir_ty.specs.Facts.{is_copy, has_drop_impl}
use Rattle.mir_ty.specs.ItemTable.{ItemTable}
use Rattle.mir_ty.specs.Parts.{field_ty}
use Rattle.typed_tree.specs.declared.node.Use.{Use}
use Rattle.typed_tree.specs.Nodes.{nodes_of, nodes_among}
use Rattle.typed_tree.specs.Tree.{Node, node, Form, Nodes, no_node, a_node, Fields, no_field, a_field, Wildcard, Binding, NumberPattern, TruthPattern, StructPattern, VariantPattern, TuplePattern, ArrayPattern, OrPattern}
use Rattle.well_typed.specs.Claim.{Claim, fact, ◌&◌, some, nothing}
use Rattle.well_typed.specs.Names.{are_distinct_numbers}
use Rattle.well_typed.specs.Places.{InScope, is_by, taking}
use Rattle.well_typed.specs.Types.{is_same, is_unit, is_bool, is_dyn, is_number_of, adt_of, tuple_of, array_of, is_enum, adt_at}

abbrev pub binding_name : Node → Option (List ℕ)
binding_name (node id at ty by (Binding name)) = Some name
binding_name _ = None

abbrev pub binding_entry : Node → Option InScope
binding_entry (node id at ty by (Binding name)) = Some record { key = id; ty = ty; is_in_guard = false }
binding_entry _ = None

-- the names of a pattern in their order, and the entries that they make
abbrev pub names_of : Node → List (List ℕ)
names_of pattern = filter_map binding_name (nodes_of pattern)

abbrev pub entries_of : Node → List InScope
entries_of pattern = filter_map binding_entry (nodes_of pattern)

-- what is known of the place: every value of its type has to be taken, as in a `let` and by a parameter; and it may be
-- moved out of
pub record Matched : Type 0 where
  pub takes_all : Bool
  pub may_move : Bool

abbrev pub within : Bool → Matched → Matched
within drops m = record m { may_move = not drops && m.may_move }

abbrev pub field_numbers : Fields → List ℕ
field_numbers no_field = []
field_numbers (a_field number value rest) = number ∷ field_numbers rest

abbrev pub count_of : Nodes → ℕ
count_of no_node = 0
count_of (a_node first rest) = suc (count_of rest)

abbrev is_same_truth : Bool → Bool → Bool
is_same_truth a b = if a then b else not b

abbrev pub has_no_names : List (List ℕ) → Bool
has_no_names [] = true
has_no_names (name ∷ names) = false

-- `()` and `(..)` stand for `()` as for a tuple
abbrev pub tuple_types : ItemTable → TyId → Option (List TyId)
tuple_types items ty = if is_unit items ty then Some [] else tuple_of items ty

module _ (items : ItemTable) where
  abbrev pub variant_count : ℕ → ℕ
  variant_count n = option_map_or (λ def. length def.variants) (adt_at items n) 0

  abbrev pub is_test_by : Bool → Option Use → Bool
  is_test_by true by = is_by Use.Test by
  is_test_by false by = is_none by

  abbrev mutual
    -- a pattern for a place of a type
    pub pattern : Matched → TyId → Node → Claim
    pattern m want (node id at ty by form) = fact (is_same ty want) & pattern_row m ty by form

    pub pattern_row : Matched → TyId → Option Use → Form → Claim
    pattern_row m ty by Wildcard = fact (is_none by)
    pattern_row m ty by (Binding name) =
        fact (is_by (taking items ty) by) & fact (is_copy items ty || (m.may_move && not (is_dyn items ty)))
    pattern_row m ty by (NumberPattern value) =
        fact (is_by Use.Test by && not m.takes_all) & fact (is_number_of items ty value)
    pattern_row m ty by (TruthPattern value) = fact (is_by Use.Test by && not m.takes_all) & fact (is_bool items ty)
    pattern_row m ty by (StructPattern fields) =
        fact (is_none by) & some (adt_of items ty) (λ n. fact (not (is_enum items n))) &
        fact (are_distinct_numbers (field_numbers fields)) & field_patterns (within (has_drop_impl items ty) m) ty 0
        fields
    pattern_row m ty by (VariantPattern variant is_test fields) =
        fact (is_test_by is_test by && not (is_test && m.takes_all)) &
        some (adt_of items ty) (λ n. fact (is_enum items n && nat_lt variant (variant_count n)) &
        fact (is_same_truth is_test (nat_lt 1 (variant_count n)))) &
        fact (are_distinct_numbers (field_numbers fields)) &
        field_patterns (within (has_drop_impl items ty) m) ty variant fields
    pattern_row m ty by (TuplePattern parts) =
        fact (is_none by) & some (tuple_types items ty) (λ tys. part_patterns m tys parts)
    pattern_row m ty by (ArrayPattern elements) =
        fact (is_none by) & some (array_of items ty) (λ a. part_patterns m (replicate a.1 a.0) elements)
    pattern_row m ty by (OrPattern alternatives) =
        fact (is_none by && has_no_names (filter_map binding_name (nodes_among alternatives))) &
        fact (nat_lt 1 (count_of alternatives)) & each_pattern m ty alternatives
    pattern_row m ty by _ = fact false

    -- patterns of numbered fields of a variant; what is left out is not looked at
    pub field_patterns : Matched → TyId → ℕ → Fields → Claim
    field_patterns m ty variant no_field = nothing
    field_patterns m ty variant (a_field number value rest) =
        some (field_ty items ty variant number) (λ want. pattern m want value) & field_patterns m ty variant rest

    pub part_patterns : Matched → List TyId → Nodes → Claim
    part_patterns m tys no_node = nothing
    part_patterns m [] (a_node first rest) = fact false
    part_patterns m (ty ∷ tys) (a_node first rest) = pattern m ty first & part_patterns m tys rest

    pub each_pattern : Matched → TyId → Nodes → Claim
    each_pattern m ty no_node = nothing
    each_pattern m ty (a_node first rest) = pattern m ty first & each_pattern m ty rest
