use Rattle.lower_forms.proofs.Elements.{of_element}
use Rattle.typed_tree.proofs.PlainForms.{array_form, block_form, call_form, closure_form, index_form, make_form, match_form, tuple_form, virtual_call_form}
use Rattle.lower_forms.proofs.Grouped.{does_nothing, not_in}
use Rattle.lower_forms.proofs.OfOperands.{on_all, each, of_nodes, of_first_and_nodes, of_fields}
use Rattle.lower_forms.proofs.Statements.{of_match, of_block, of_declared, of_parts, parted}
use Rattle.lower_forms.proofs.Whole.{of_words}
use Rattle.lower_forms.specs.Scoped.{may_be_scope}
use Rattle.src_meaning.specs.FieldKeys.{field_keys, moved_fields}
use Rattle.cfg_graph.specs.Places.{named}
use Rattle.mir_ty.specs.ItemTable.{ItemTable}
use Rattle.pattern_lower.specs.Seen.{bound_of}
use Rattle.lower_code.proofs.Nodes.{each_onto, codes_onto, so_many, so_many_fields, as_operands}
use Rattle.lower_code.specs.Code as plain
use Rattle.lower_code.specs.Code.{Code}
use Rattle.lower_code.specs.Forms.{code, codes_of_fields, acting, deliver, array_around, reach_element, NodeWords, codes, matching, touched, code_if_any, tail_of, statements, declared, letting, operands}
use Rattle.lower_code.specs.Groups.{is_leaf, is_statement}
use Rattle.lower_forms.specs.Parted.{reaches_any, is_any_operator, takes_any}
use Rattle.lower_code.specs.Ops as ops
use Rattle.lower_code.specs.Ops.{CodeWord, onto, Then, Acts, InScope, thens}
use Rattle.lower_code.specs.View.{ops_of, around_of, destination_of, keys_seen, form_code, head_of, wanted_of}
use Rattle.lower_code.specs.Wanted.{codes_for, AsOperand, Category, code_for, made_into, finished_onto}
use Rattle.lower_code.specs.declared.code.Code as words
use Rattle.src_meaning.specs.Evaluation.{in_number_order, to_own_key}
use Rattle.src_meaning.specs.Forms.{site_of_key, LoopsAndGuards, is_never}
use Rattle.src_meaning.specs.Shape.{shape_of, shape, BoundName, head}
use Rattle.std.proofs.Common.{rules, ◌≡◌, ◌∙◌, ◌∷◌, ℕ, List, ap, sym, map, false, length}
use Rattle.std.proofs.Math.ListN.{drop_of_length-le}
use Rattle.std.proofs.lemmas.Result.{on_ok_weaker}
use Rattle.store_model.specs.Effects as effects
use Rattle.store_model.specs.Effects.{EffectSite, Operand, Action}
use Rattle.store_model.specs.Places.Place.{Place, whole_local}
use Rattle.typed_tree.specs.Tree as tree
use Rattle.typed_tree.specs.Tree.{Fields, Form, MaybeNode}
use Rattle.typed_tree.specs.View.{tree_of, form_of, nodes_from, fields_from, field_of, maybe_of}
use Rattle.typed_tree.specs.declared.node.Form.{the_lemmas}
use Rattle.typed_tree.specs.declared.node.Node.{Node}
use Rattle.typed_tree.specs.declared.node.NumberedField.{NumberedField}
use Rattle.lower_forms.proofs.forms.+forms.Goals as goal

pub call_code-returns-in_ok-call_body-in-Call : goal.call_code-returns-in_ok-call_body-in-Call
call_code-returns-in_ok-call_body-in-Call t c =
    let items : ItemTable = c.args.items.now in
    let nodes : List Node = c.as_slice-args.result.now in
    let action : EffectSite → List Operand → Action = λ site. effects.Call site c.in-Call.body in
    let before : List CodeWord = ops_of c.args.code.now in
    let is : on_all c.args.at (each items nodes) action ≡ form_code items (form_of c.args.form.now) c.args.at =
    ap (λ (form : Form). form_code items form c.args.at) (sym (call_form _ _ _ c.as_slice-args.ensures _ c.in-Call.is)) in
    of_nodes items c.args.at nodes (keys_seen c.in_ok-keys-in-Call.keys) action before (ops_of c.nodes_code.new.code) (ops_of c.call_body.new.code)
    c.in_ok-call_body-in-Call.ensures c.in_ok-nodes_code-in-Call.ensures c.in_ok-keys-in-Call.ensures
    ∙ ap (λ (made : Code). onto made before) is

pub make_code-returns-in_ok-built_of_keys-in-Tuple : goal.make_code-returns-in_ok-built_of_keys-in-Tuple
make_code-returns-in_ok-built_of_keys-in-Tuple t c =
    let items : ItemTable = c.args.items.now in
    let nodes : List Node = c.as_slice-parts.result.now in
    let action : EffectSite → List Operand → Action = λ site. effects.Build site effects.OfTuple in
    let before : List CodeWord = ops_of c.args.code.now in
    let is : on_all c.args.at (each items nodes) action ≡ form_code items (form_of c.args.form.now) c.args.at =
    ap (λ (form : Form). form_code items form c.args.at) (sym (tuple_form _ _ _ c.as_slice-parts.ensures c.in-Tuple.is)) in
    of_nodes items c.args.at nodes (keys_seen c.in_ok-keys-in-Tuple.keys) action before (ops_of c.nodes_code.new.code) (ops_of c.built_of_keys.new.code)
    c.in_ok-built_of_keys-in-Tuple.ensures c.in_ok-nodes_code-in-Tuple.ensures c.in_ok-keys-in-Tuple.ensures
    ∙ ap (λ (made : Code). onto made before) is

pub make_code-returns-in_ok-built_of_keys-in-Array : goal.make_code-returns-in_ok-built_of_keys-in-Array
make_code-returns-in_ok-built_of_keys-in-Array t c =
    let items : ItemTable = c.args.items.now in
    let nodes : List Node = c.as_slice-elements.result.now in
    let action : EffectSite → List Operand → Action = λ site. effects.Build site effects.OfArray in
    let before : List CodeWord = ops_of c.args.code.now in
    let is : on_all c.args.at (each items nodes) action ≡ form_code items (form_of c.args.form.now) c.args.at =
    ap (λ (form : Form). form_code items form c.args.at) (sym (array_form _ _ _ c.as_slice-elements.ensures c.in-Array.is)) in
    of_nodes items c.args.at nodes (keys_seen c.in_ok-keys-in-Array.keys) action before (ops_of c.nodes_code-in-Array.new.code) (ops_of c.built_of_keys-in-Array.new.code)
    c.in_ok-built_of_keys-in-Array.ensures c.in_ok-nodes_code-in-Array.ensures c.in_ok-keys-in-Array.ensures
    ∙ ap (λ (made : Code). onto made before) is

pub make_code-returns-in_ok-built_of_keys-in-Closure : goal.make_code-returns-in_ok-built_of_keys-in-Closure
make_code-returns-in_ok-built_of_keys-in-Closure t c =
    let items : ItemTable = c.args.items.now in
    let nodes : List Node = c.as_slice-captures.result.now in
    let action : EffectSite → List Operand → Action = λ site. effects.Build site (effects.OfClosure c.in-Closure.closure) in
    let before : List CodeWord = ops_of c.args.code.now in
    let is : on_all c.args.at (each items nodes) action ≡ form_code items (form_of c.args.form.now) c.args.at =
    ap (λ (form : Form). form_code items form c.args.at) (sym (closure_form _ _ _ c.as_slice-captures.ensures _ c.in-Closure.is)) in
    of_nodes items c.args.at nodes (keys_seen c.in_ok-keys-in-Closure.keys) action before (ops_of c.nodes_code-in-Closure.new.code) (ops_of c.built_of_keys-in-Closure.new.code)
    c.in_ok-built_of_keys-in-Closure.ensures c.in_ok-nodes_code-in-Closure.ensures c.in_ok-keys-in-Closure.ensures
    ∙ ap (λ (made : Code). onto made before) is

pub call_code-returns-in_ok-call_body-in-MethodCall : goal.call_code-returns-in_ok-call_body-in-MethodCall
call_code-returns-in_ok-call_body-in-MethodCall t c =
    let items : ItemTable = c.args.items.now in
    let first : Node = c.deref-first.result.now in
    let nodes : List Node = c.as_slice-args-in-MethodCall.result.now in
    let action : EffectSite → List Operand → Action = λ site. effects.Call site c.in-MethodCall.body in
    let before : List CodeWord = ops_of c.args.code.now in
    let is : on_all c.args.at (code items (tree_of first) ∷ each items nodes) action ≡ form_code items (form_of c.args.form.now) c.args.at =
    search (rules, the_lemmas) in
    let keys : keys_seen c.in_ok-keys-in-MethodCall.keys ≡ first.id.0 ∷ map (λ n. n.id.0) nodes = c.in_ok-keys-in-MethodCall.ensures in
    of_first_and_nodes items c.args.at nodes (keys_seen c.in_ok-keys-in-MethodCall.keys) action before first
    (ops_of c.node_code-in-MethodCall.new.code) (ops_of c.nodes_code-in-MethodCall.new.code) (ops_of c.push-in-MethodCall.new.self) (ops_of c.call_body-in-MethodCall.new.code)
    c.in_ok-call_body-in-MethodCall.ensures c.in_ok-push-in-MethodCall.ensures c.in_ok-nodes_code-in-MethodCall.ensures c.in_ok-node_code-in-MethodCall.ensures keys
    ∙ ap (λ (made : Code). onto made before) is

pub call_code-returns-in_ok-called_virtual-in-VirtualCall : goal.call_code-returns-in_ok-called_virtual-in-VirtualCall
call_code-returns-in_ok-called_virtual-in-VirtualCall t c =
    let items : ItemTable = c.args.items.now in
    let first : Node = c.deref-receiver.result.now in
    let nodes : List Node = c.as_slice-args-in-VirtualCall.result.now in
    let action : EffectSite → List Operand → Action = λ site. effects.CallVirtual site c.in-VirtualCall.trait_no c.in-VirtualCall.method in
    let before : List CodeWord = ops_of c.args.code.now in
    let is : on_all c.args.at (code items (tree_of first) ∷ each items nodes) action ≡ form_code items (form_of c.args.form.now) c.args.at =
    ap (λ (form : Form). form_code items form c.args.at) (sym (virtual_call_form _ _ _ c.deref-receiver.ensures _ _ c.as_slice-args-in-VirtualCall.ensures _ _ c.in-VirtualCall.is)) in
    let keys : keys_seen c.in_ok-keys-in-VirtualCall.keys ≡ first.id.0 ∷ map (λ n. n.id.0) nodes = c.in_ok-keys-in-VirtualCall.ensures in
    of_first_and_nodes items c.args.at nodes (keys_seen c.in_ok-keys-in-VirtualCall.keys) action before first
    (ops_of c.node_code.new.code) (ops_of c.nodes_code-in-VirtualCall.new.code) (ops_of c.push.new.self) (ops_of c.called_virtual.new.code)
    c.in_ok-called_virtual-in-VirtualCall.ensures c.in_ok-push-in-VirtualCall.ensures c.in_ok-nodes_code-in-VirtualCall.ensures c.in_ok-node_code-in-VirtualCall.ensures keys
    ∙ ap (λ (made : Code). onto made before) is

pub make_code-returns-in_ok-make_adt-in-Make : goal.make_code-returns-in_ok-make_adt-in-Make
make_code-returns-in_ok-make_adt-in-Make t c =
    let items : ItemTable = c.args.items.now in
    let fields : Fields = fields_from (map field_of c.as_slice-fields.result.now) in
    let id : ℕ = c.args.at.head.id.0 in
    let action : EffectSite → Action =
    λ site. effects.Build site (effects.OfVariant c.in-Make.adt c.in-Make.variant) (moved_fields id (in_number_order (field_keys fields))) in
    let is : acting id (around_of c.args.at.around) c.args.at.own (codes_of_fields items fields) (deliver id action (destination_of c.args.at.to)) ≡ form_code items (form_of c.args.form.now) c.args.at =
    ap (λ (form : Form). form_code items form c.args.at) (sym (make_form _ _ _ c.as_slice-fields.ensures _ _ c.in-Make.is)) in
    of_fields items c.args.at fields action (ops_of c.args.code.now) (ops_of c.fields_code.new.code) (ops_of c.make_adt.new.code)
    c.in_ok-make_adt-in-Make.ensures c.in_ok-fields_code-in-Make.ensures
    ∙ ap (λ (made : Code). onto made (ops_of c.args.code.now)) is

pub part_code-returns-in_ok-element-in-Index : goal.part_code-returns-in_ok-element-in-Index
part_code-returns-in_ok-element-in-Index t c =
    let items : ItemTable = c.args.items.now in
    let base : tree.Node = tree_of c.deref-base.result.now in
    let index : tree.Node = tree_of c.deref-index.result.now in
    let number : (code items index).head.id ≡ c.deref-index.result.now.id.0 = search (rules, the_lemmas) in
    let is : reach_element (head_of c.args.at.head) (shape_of items (tree.Index base index c.in-Index.length) (head_of c.args.at.head)) (code items base) (code items index) c.in-Index.length (around_of c.args.at.around) ≡ form_code items (form_of c.args.form.now) c.args.at =
    ap (λ (form : Form). form_code items form c.args.at) (sym (index_form _ _ _ c.deref-base.ensures _ _ c.deref-index.ensures _ c.in-Index.is)) in
    of_element items (head_of c.args.at.head) (around_of c.args.at.around) base index c.in-Index.length
    (named c.in_ok-array-in-Index.array) (ops_of c.args.code.now) (ops_of c.node_code.new.code) (ops_of c.node_code-in-Index.new.code) (ops_of c.element.new.code)
    (c.in_ok-element-in-Index.ensures
    ∙ ap (λ (n : ℕ). Then ∷ Then ∷ Then ∷ Acts n (effects.Bounds (effects.Copied (site_of_key n)) c.in-Index.length) ∷ Acts c.args.at.head.id.0 (effects.Touch (record { node = c.args.at.head.id.0; place = named c.in_ok-array-in-Index.array })) ∷ ops_of c.node_code-in-Index.new.code) (sym number))
    c.in_ok-node_code-in-Index-2.ensures c.in_ok-node_code-in-Index.ensures
    (c.in_ok-array-in-Index.ensures ∙ ap array_around c.in_ok-place-in-Index.ensures)
    ∙ ap (λ (made : Code). onto made (ops_of c.args.code.now)) is

pub pattern_code-returns-in_ok-push-in-Match-3 : goal.pattern_code-returns-in_ok-push-in-Match-3
pattern_code-returns-in_ok-push-in-Match-3 t c =
    let items : ItemTable = c.args.items.now in
    let scrutinee : tree.Node = tree_of c.deref-scrutinee.result.now in
    let ms : List NodeWords = codes items (nodes_from (map tree_of c.as_slice.result.now)) in
    let place : Place = named c.in_ok-place-in-Match.place in
    let number : (code items scrutinee).head.id ≡ c.deref-scrutinee.result.now.id.0 = search (rules, the_lemmas) in
    let form : form_of c.args.form.now ≡ tree.Match scrutinee (nodes_from (map tree_of c.as_slice.result.now)) =
    match_form _ _ _ c.deref-scrutinee.ensures _ _ c.as_slice.ensures c.in-Match.is in
    let is : matching (head_of c.args.at.head) (code items scrutinee) ms (around_of c.args.at.around) c.args.at.own (destination_of c.args.at.to) ≡ form_code items (form_of c.args.form.now) c.args.at =
    ap (λ (form : Form). form_code items form c.args.at) (sym form) in
    of_match items (head_of c.args.at.head) (around_of c.args.at.around) c.args.at.own (destination_of c.args.at.to) ms place (ops_of c.args.code.now) scrutinee
    (ops_of c.node_code-in-Match.new.code) (ops_of c.borrow_scrutinee.new.code) (ops_of c.arms_code.new.code) (ops_of c.push-in-Match-2.new.self)
    (c.in_ok-push-in-Match-3.ensures ∙ ap (λ (rest : List CodeWord). Then ∷ rest) c.in_ok-push-in-Match-2.ensures)
    (c.in_ok-arms_code-in-Match.ensures ∙ ap (Rattle.lower_code.specs.Ops.arms_onto (Rattle.lower_code.specs.Forms.arms ms place (around_of c.args.at.around) (destination_of c.args.at.to))) c.in_ok-push-in-Match.ensures)
    (c.in_ok-borrow_scrutinee-in-Match.ensures ∙ ap (λ (n : ℕ). Then ∷ onto (touched (shape items scrutinee).is_place (record { node = n; place = place })) (ops_of c.node_code-in-Match.new.code)) (sym number))
    c.in_ok-node_code-in-Match.ensures c.in_ok-place-in-Match.ensures
    ∙ ap (λ (made : Code). onto made (ops_of c.args.code.now)) is

pub statement_code-returns-in_ok-push-in-Block-2 : goal.statement_code-returns-in_ok-push-in-Block-2
statement_code-returns-in_ok-push-in-Block-2 t c =
    let items : ItemTable = c.args.items.now in
    let ms : List NodeWords = codes items (nodes_from (map tree_of c.as_slice.result.now)) in
    let tail : Code =
    tail_of items (head_of c.args.at.head) (code_if_any items (maybe_of c.in-Block.tail)) (around_of c.args.at.around)
    (destination_of c.args.at.to) in
    let is : plain.InScope c.args.at.head.id.0 c.args.at.own (plain.Then (statements (around_of c.args.at.around) ms) tail) ≡ form_code items (form_of c.args.form.now) c.args.at =
    ap (λ (form : Form). form_code items form c.args.at) (sym (block_form _ _ _ c.as_slice.ensures _ c.in-Block.is)) in
    let scoped : ops_of c.push-in-Block.new.self ≡ InScope c.args.at.head.id.0 c.args.at.own ∷ Then ∷ ops_of c.tail_code.new.code =
    c.in_ok-push-in-Block-2.ensures
    ∙ ap (λ (rest : List CodeWord). InScope c.args.at.head.id.0 c.args.at.own ∷ rest) c.in_ok-push-in-Block.ensures in
    of_block c.args.at.head.id.0 c.args.at.own (around_of c.args.at.around) ms tail (ops_of c.args.code.now)
    (ops_of c.nodes_code.new.code) (ops_of c.tail_code.new.code) (ops_of c.push-in-Block.new.self)
    scoped c.in_ok-tail_code-in-Block.ensures c.in_ok-nodes_code-in-Block.ensures
    ∙ ap (λ (made : Code). onto made (ops_of c.args.code.now)) is

pub let_code-returns-in_ok-names-in-None : goal.let_code-returns-in_ok-names-in-None
let_code-returns-in_ok-names-in-None t c =
    let items : ItemTable = c.args.items.now in
    let pattern : tree.Node = tree_of c.args.pattern.now in
    let bounds : List BoundName = map bound_of c.as_slice.result.now in
    let are : bounds ≡ (shape items pattern).bindings (whole_local 0) =
    ap (map bound_of) c.as_slice.ensures ∙ c.in_ok-names-in-None.ensures.bindings items ∙ ap (shape items pattern).bindings c.in_ok-place-in-None.ensures in
    let letting_of : MaybeNode → List CodeWord =
    λ value. onto (letting items (head_of c.args.at.head) (code items pattern) (code_if_any items value) (around_of c.args.at.around)) (ops_of c.args.code.now) in
    let then_all : ops_of c.declare_bindings.new.code ≡ onto (declared items bounds) (ops_of c.args.code.now) → ops_of c.declare_bindings.new.code ≡ letting_of (maybe_of c.args.initialiser.now) =
    λ made. of_declared items (head_of c.args.at.head) (around_of c.args.at.around) bounds (ops_of c.args.code.now) pattern
    (ops_of c.declare_bindings.new.code) made are
    ∙ ap (λ initialiser. letting_of (maybe_of initialiser)) (sym c.in-None.is) in
    on_ok_weaker c.declare_bindings.result then_all c.declare_bindings.ensures

pub let_code-returns-in_ok-names-in-Some-2 : goal.let_code-returns-in_ok-names-in-Some-2
let_code-returns-in_ok-names-in-Some-2 t c =
    let items : ItemTable = c.args.items.now in
    let n : Node = c.deref-value.result.now in
    let pattern : tree.Node = tree_of c.args.pattern.now in
    let bounds : List BoundName = map bound_of c.as_slice-in-Some-2.result.now in
    let place : Place = named c.in_ok-place-in-Some-2.place in
    let around : LoopsAndGuards = around_of c.args.at.around in
    let before : List CodeWord = ops_of c.args.code.now in
    let reached : List CodeWord = ops_of c.node_code-in-Some-2.new.code in
    let is_value : maybe_of c.args.initialiser.now ≡ tree.present (tree_of n) =
    ap maybe_of c.in-Some-2.is ∙ ap (λ (n : Node). tree.present (tree_of n)) (sym c.deref-value.ensures) in
    let headed : (code items (tree_of n)).head ≡ head n.id.0 n.ty n.by = search (rules, the_lemmas) in
    let are : bounds ≡ (shape items pattern).bindings place =
    ap (map bound_of) c.as_slice-in-Some-2.ensures ∙ c.in_ok-names-in-Some-2.ensures.bindings items in
    let letting_of : MaybeNode → List CodeWord =
    λ value. onto (letting items (head_of c.args.at.head) (code items pattern) (code_if_any items value) around) before in
    let then_all : ops_of c.let_parts.new.code ≡ parted items (head_of c.args.at.head) around before (tree_of n) (head n.id.0 n.ty n.by) bounds reached → ops_of c.let_parts.new.code ≡ letting_of (maybe_of c.args.initialiser.now) =
    λ made. of_parts items (head_of c.args.at.head) around before pattern (tree_of n) (head n.id.0 n.ty n.by) bounds place reached
    (ops_of c.let_parts.new.code) made headed c.in_ok-node_code-in-Some-2.ensures are c.in_ok-place-in-Some-2.ensures
    (sym c.is_one_name.ensures ∙ c.if-is_one_name.false)
    ∙ ap letting_of (sym is_value) in
    on_ok_weaker c.let_parts.result then_all c.let_parts.ensures

pub nodes_code-returns : goal.nodes_code-returns
nodes_code-returns t c =
    let each : List Node → List NodeWords = λ nodes. codes c.args.items.now (nodes_from (map tree_of nodes)) in
    let ms : List NodeWords = each c.args.nodes.now in
    let before : List CodeWord = ops_of c.args.code.now in
    let so_far : List NodeWords → List CodeWord → List CodeWord = each_onto (wanted_of c.args.wanted) (around_of c.args.around) in
    let made : ops_of c.loop-node.code ≡ so_far ms before =
    sym (ap (λ (rest : List Node). so_far (each rest) (ops_of c.loop-node.code)) (drop_of_length-le c.args.nodes.now c.loop-node-test.false))
    ∙ c.loop-node.invariant in
    let then_all : ops_of c.join_codes.new.code ≡ thens (length c.args.nodes.now) (ops.Nothing ∷ ops_of c.loop-node.code) → ops_of c.join_codes.new.code ≡ onto (codes_for (wanted_of c.args.wanted) ms (around_of c.args.around)) before =
    λ joined. joined
    ∙ ap (λ (rest : List CodeWord). thens (length c.args.nodes.now) (ops.Nothing ∷ rest)) made
    ∙ ap (λ (n : ℕ). thens n (ops.Nothing ∷ so_far ms before)) (sym (so_many c.args.items.now c.args.nodes.now))
    ∙ codes_onto (wanted_of c.args.wanted) (around_of c.args.around) ms before in
    on_ok_weaker c.join_codes.result then_all c.join_codes.ensures

pub fields_code-returns : goal.fields_code-returns
fields_code-returns t c =
    let each : List NumberedField → List NodeWords = λ fields. codes_of_fields c.args.items.now (fields_from (map field_of fields)) in
    let ms : List NodeWords = each c.args.fields.now in
    let before : List CodeWord = ops_of c.args.code.now in
    let so_far : List NodeWords → List CodeWord → List CodeWord = each_onto AsOperand (around_of c.args.around) in
    let made : ops_of c.loop-field.code ≡ so_far ms before =
    sym (ap (λ (rest : List NumberedField). so_far (each rest) (ops_of c.loop-field.code)) (drop_of_length-le c.args.fields.now c.loop-field-test.false))
    ∙ c.loop-field.invariant in
    let then_all : ops_of c.join_codes.new.code ≡ thens (length c.args.fields.now) (ops.Nothing ∷ ops_of c.loop-field.code) → ops_of c.join_codes.new.code ≡ onto (operands (around_of c.args.around) ms) before =
    λ joined. joined
    ∙ ap (λ (rest : List CodeWord). thens (length c.args.fields.now) (ops.Nothing ∷ rest)) made
    ∙ ap (λ (n : ℕ). thens n (ops.Nothing ∷ so_far ms before)) (sym (so_many_fields c.args.items.now c.args.fields.now))
    ∙ codes_onto AsOperand (around_of c.args.around) ms before
    ∙ ap (λ (all : Code). onto all before) (as_operands ms (around_of c.args.around)) in
    on_ok_weaker c.join_codes.result then_all c.join_codes.ensures

pub node_code-returns : goal.node_code-returns
node_code-returns t c =
    let items : ItemTable = c.args.items.now in
    let n : Node = c.args.node.now in
    let w : Category = wanted_of c.args.wanted in
    let around : LoopsAndGuards = around_of c.args.around in
    let before : List CodeWord = ops_of c.args.code.now in
    let goes : destination_of c.own_destination.result ≡ to_own_key (is_never items n.ty) n.id.0 (made_into w n.id.0) =
    c.own_destination.ensures ∙ ap (to_own_key (is_never items n.ty) n.id.0) c.destination_in.ensures in
    let is : tree_of n ≡ tree.node n.id.0 n.at n.ty n.by (form_of n.form) = search (rules, the_lemmas) in
    let with_tree : tree.Node → List CodeWord =
    λ t. finished_onto items w (shape items t).is_place (head n.id.0 n.ty n.by) (shape items t) around (ops_of c.form_words.new.code) in
    let then_all : ops_of c.finish_node.new.code ≡ with_tree (tree_of n) → ops_of c.finish_node.new.code ≡ onto (code_for w (code items (tree_of n)) around) before =
    λ made.
    of_words items w n.id.0 n.at n.ty n.by (form_of n.form) around (head_of c.head_at.result) c.is_own_scope.result
    (destination_of c.own_destination.result) before (ops_of c.form_words.new.code) (ops_of c.finish_node.new.code)
    c.head_at.ensures c.is_own_scope.ensures goes c.in_ok-form_words.ensures (made ∙ ap with_tree is)
    ∙ ap (λ (t : tree.Node). onto (code_for w (code items t) around) before) (sym is) in
    on_ok_weaker c.finish_node.result then_all c.finish_node.ensures

pub form_words-returns : goal.form_words-returns
form_words-returns t c =
    let items : ItemTable = c.args.items.now in
    let form : Form = form_of c.args.form.now in
    let at : Rattle.lower_code.specs.declared.context.Context.Context = c.args.at in
    let code : words.Code = c.args.code.now in
    let leaf : (is_leaf form ≡ false) × (c.leaf_code.new.code ≡ code) =
    not_in is_leaf items form at code c.leaf_code.new.code c.in_ok-leaf_code.field-0 c.if-branch.false c.in_ok-leaf_code.ensures in
    let place : (reaches_any form ≡ false) × (c.place_code.new.code ≡ c.leaf_code.new.code) =
    not_in reaches_any items form at c.leaf_code.new.code c.place_code.new.code c.in_ok-place_code.field-0 c.if-branch-2.false c.in_ok-place_code.ensures in
    let operator : (is_any_operator form ≡ false) × (c.operator_code.new.code ≡ c.place_code.new.code) =
    not_in is_any_operator items form at c.place_code.new.code c.operator_code.new.code c.in_ok-operator_code.field-0 c.if-branch-3.false c.in_ok-operator_code.ensures in
    let call : (takes_any form ≡ false) × (c.operands_code.new.code ≡ c.operator_code.new.code) =
    not_in takes_any items form at c.operator_code.new.code c.operands_code.new.code c.in_ok-operands_code.field-0 c.if-branch-4.false c.in_ok-operands_code.ensures in
    let scoped : (may_be_scope form ≡ false) × (c.scoped_code.new.code ≡ c.operands_code.new.code) =
    not_in may_be_scope items form at c.operands_code.new.code c.scoped_code.new.code c.in_ok-scoped_code.field-0 c.if-branch-5.false c.in_ok-scoped_code.ensures in
    let statement : (is_statement form ≡ false) × (c.statement_code.new.code ≡ c.scoped_code.new.code) =
    not_in is_statement items form at c.scoped_code.new.code c.statement_code.new.code c.in_ok-statement_code.field-0 c.if-branch-6.false c.in_ok-statement_code.ensures in
    let same : c.statement_code.new.code ≡ code = statement.1 ∙ scoped.1 ∙ call.1 ∙ operator.1 ∙ place.1 ∙ leaf.1 in
    let nothing : form_code items form at ≡ plain.Nothing =
    does_nothing items (head_of at.head) (shape_of items form (head_of at.head)) (around_of at.around) at.own (destination_of at.to)
    form leaf.0 place.0 operator.0 call.0 scoped.0 statement.0 in
    let then_all : ops_of c.push.new.self ≡ ops.Nothing ∷ ops_of c.statement_code.new.code → ops_of c.push.new.self ≡ onto (form_code items form at) (ops_of code) =
    λ pushed. pushed ∙ ap (λ (c : words.Code). ops.Nothing ∷ ops_of c) same ∙ ap (λ (c : Code). onto c (ops_of code)) (sym nothing) in
    on_ok_weaker c.push.result then_all c.push.ensures
