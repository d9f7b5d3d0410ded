use Rattle.std.proofs.Common.{◌≡◌, ◌++◌, map, drop}
use Rattle.typed_tree.specs.View.{tree_of, field_of, nodes_from, fields_from}
use Rattle.typing_rules.specs.Accesses as rules
use Rattle.borrow_rules.specs.AccessView.{bound_in, place_if_any}
use Rattle.borrow_rules.proofs.bindings.+bindings.Given as goal

abbrev pub invariant-add_fields-loop-field : goal.invariant-add_fields-loop-field
invariant-add_fields-loop-field l =
    map bound_in l.bounds ++ rules.bound_fields (place_if_any l.place) (fields_from (map field_of (drop l.field-index l.fields)))
    ≡ map bound_in l.fn.bounds ++ rules.bound_fields (place_if_any l.place) (fields_from (map field_of l.fields))

abbrev pub invariant-add_parts-loop-pattern : goal.invariant-add_parts-loop-pattern
invariant-add_parts-loop-pattern l =
    record {
      number : l.number ≡ l.pattern-index;
      bounds : map bound_in l.bounds ++ rules.bound_parts (place_if_any l.place) l.pattern-index (nodes_from (map tree_of (drop l.pattern-index l.parts)))
          ≡ map bound_in l.fn.bounds ++ rules.bound_parts (place_if_any l.place) 0 (nodes_from (map tree_of l.parts));
    }
