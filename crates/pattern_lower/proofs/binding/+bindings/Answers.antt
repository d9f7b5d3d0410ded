use Rattle.std.proofs.Common.{rules, ◌≡◌, ◌++◌, sym, ap, ◌∙◌, map}
use Rattle.std.proofs.lemmas.Result.{on_ok_weaker}
use Rattle.cfg_graph.specs.Places.{named}
use Rattle.mir_ty.specs.ItemTable.{ItemTable}
use Rattle.src_meaning.specs.Shape.{shape, in_fields, in_parts}
use Rattle.typed_tree.specs.declared.node.Form.{the_lemmas}
use Rattle.typed_tree.specs.View.{tree_of, field_of, nodes_from, fields_from}
use Rattle.store_model.specs.Places.Place.{ToPart, ToField}
use Rattle.pattern_lower.specs.Seen.{bound_of}
use Rattle.pattern_lower.proofs.Following.{one_pushed_for}
use Rattle.pattern_lower.proofs.binding.+bindings.Goals as goal

pub add_bindings-returns-in-StructPattern : goal.add_bindings-returns-in-StructPattern
add_bindings-returns-in-StructPattern t c =
    let at : (items : ItemTable) → (shape items (tree_of c.args.pattern.now)).bindings (named c.args.place.now) ≡ (in_fields items (fields_from (map field_of c.as_slice.result.now)) ToPart).bindings (named c.args.place.now) = λ items. search (rules, the_lemmas) in
    let then_all : ((items : ItemTable) → map bound_of c.add_of_fields.new.found ≡ map bound_of c.args.found.now ++ (in_fields items (fields_from (map field_of c.as_slice.result.now)) ToPart).bindings (named c.args.place.now)) → (items : ItemTable) → map bound_of c.add_of_fields.new.found ≡ map bound_of c.args.found.now ++ (shape items (tree_of c.args.pattern.now)).bindings (named c.args.place.now) =
    λ found items. found items ∙ ap (λ bounds. map bound_of c.args.found.now ++ bounds) (sym (at items)) in
    on_ok_weaker _ then_all c.add_of_fields.ensures

pub add_bindings-returns-in-VariantPattern : goal.add_bindings-returns-in-VariantPattern
add_bindings-returns-in-VariantPattern t c =
    let at : (items : ItemTable) → (shape items (tree_of c.args.pattern.now)).bindings (named c.args.place.now) ≡ (in_fields items (fields_from (map field_of c.as_slice-in-VariantPattern.result.now)) (ToField c.in-VariantPattern.variant)).bindings (named c.args.place.now) = λ items. search (rules, the_lemmas) in
    let then_all : ((items : ItemTable) → map bound_of c.add_of_fields-in-VariantPattern.new.found ≡ map bound_of c.args.found.now ++ (in_fields items (fields_from (map field_of c.as_slice-in-VariantPattern.result.now)) (ToField c.in-VariantPattern.variant)).bindings (named c.args.place.now)) → (items : ItemTable) → map bound_of c.add_of_fields-in-VariantPattern.new.found ≡ map bound_of c.args.found.now ++ (shape items (tree_of c.args.pattern.now)).bindings (named c.args.place.now) =
    λ found items. found items ∙ ap (λ bounds. map bound_of c.args.found.now ++ bounds) (sym (at items)) in
    on_ok_weaker _ then_all c.add_of_fields-in-VariantPattern.ensures

pub add_bindings-returns-in-TuplePattern : goal.add_bindings-returns-in-TuplePattern
add_bindings-returns-in-TuplePattern t c =
    let at : (items : ItemTable) → (shape items (tree_of c.args.pattern.now)).bindings (named c.args.place.now) ≡ (in_parts items (nodes_from (map tree_of c.as_slice-in-TuplePattern.result.now)) 0).bindings (named c.args.place.now) = λ items. search (rules, the_lemmas) in
    let then_all : ((items : ItemTable) → map bound_of c.add_of_parts.new.found ≡ map bound_of c.args.found.now ++ (in_parts items (nodes_from (map tree_of c.as_slice-in-TuplePattern.result.now)) 0).bindings (named c.args.place.now)) → (items : ItemTable) → map bound_of c.add_of_parts.new.found ≡ map bound_of c.args.found.now ++ (shape items (tree_of c.args.pattern.now)).bindings (named c.args.place.now) =
    λ found items. found items ∙ ap (λ bounds. map bound_of c.args.found.now ++ bounds) (sym (at items)) in
    on_ok_weaker _ then_all c.add_of_parts.ensures

pub add_bindings-returns-in_ok-copy_place-in-Binding : goal.add_bindings-returns-in_ok-copy_place-in-Binding
add_bindings-returns-in_ok-copy_place-in-Binding t c = on_ok_weaker _ (one_pushed_for bound_of _ _ _ _ (λ items. search (rules, the_lemmas))) c.push.ensures.pushed
