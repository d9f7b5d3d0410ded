use Rattle.std.proofs.Common.{◌≡◌, map, drop}
use Rattle.cfg_graph.specs.Places.{named}
use Rattle.typed_tree.specs.View.{tree_of, nodes_from, fields_from, field_of}
use Rattle.lower_code.specs.Forms as forms
use Rattle.lower_code.specs.Ops.{arms_onto}
use Rattle.lower_code.specs.Wanted.{AsOperand}
use Rattle.lower_code.specs.View.{ops_of, around_of, wanted_of, destination_of}
use Rattle.lower_code.proofs.Nodes.{each_onto}
use Rattle.lower_forms.proofs.forms.+forms.Given as goal

abbrev pub invariant-nodes_code-loop-node : goal.invariant-nodes_code-loop-node
invariant-nodes_code-loop-node l =
    each_onto (wanted_of l.wanted) (around_of l.around) (forms.codes l.items (nodes_from (map tree_of (drop l.node-index l.nodes)))) (ops_of l.code)
    ≡ each_onto (wanted_of l.wanted) (around_of l.around) (forms.codes l.items (nodes_from (map tree_of l.nodes))) (ops_of l.fn.code)

abbrev pub invariant-fields_code-loop-field : goal.invariant-fields_code-loop-field
invariant-fields_code-loop-field l =
    each_onto AsOperand (around_of l.around) (forms.codes_of_fields l.items (fields_from (map field_of (drop l.field-index l.fields)))) (ops_of l.code)
    ≡ each_onto AsOperand (around_of l.around) (forms.codes_of_fields l.items (fields_from (map field_of l.fields))) (ops_of l.fn.code)

abbrev pub invariant-arms_code-loop-arm : goal.invariant-arms_code-loop-arm
invariant-arms_code-loop-arm l =
    arms_onto (forms.arms (forms.codes l.items (nodes_from (map tree_of (drop l.arm-index l.arms)))) (named l.matched) (around_of l.around) (destination_of l.to)) (ops_of l.code)
    ≡ arms_onto (forms.arms (forms.codes l.items (nodes_from (map tree_of l.arms))) (named l.matched) (around_of l.around) (destination_of l.to)) (ops_of l.fn.code)
