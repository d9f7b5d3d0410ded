use Rattle.std.proofs.Common.{◌≡◌, ◌++◌, map, drop}
use Rattle.cfg_graph.specs.Places.{named}
use Rattle.mir_ty.specs.ItemTable.{ItemTable}
use Rattle.src_meaning.specs.Shape.{in_fields, in_parts}
use Rattle.typed_tree.specs.View.{tree_of, field_of, nodes_from, fields_from}
use Rattle.pattern_lower.specs.Seen.{bound_of, to_field}
use Rattle.pattern_lower.proofs.binding.+bindings.Given as goal

abbrev pub invariant-add_of_fields-loop-field : goal.invariant-add_of_fields-loop-field
invariant-add_of_fields-loop-field l =
    (items : ItemTable) → map bound_of l.found ++ (in_fields items (fields_from (map field_of (drop l.field-index l.fields))) (to_field l.variant)).bindings (named l.place) ≡ map bound_of l.fn.found ++ (in_fields items (fields_from (map field_of l.fields)) (to_field l.variant)).bindings (named l.place)

abbrev pub invariant-add_of_parts-loop-part : goal.invariant-add_of_parts-loop-part
invariant-add_of_parts-loop-part l =
    (items : ItemTable) → map bound_of l.found ++ (in_parts items (nodes_from (map tree_of (drop l.part-index l.parts))) l.number).bindings (named l.place) ≡ map bound_of l.fn.found ++ (in_parts items (nodes_from (map tree_of l.parts)) 0).bindings (named l.place)
