use Rattle.std.proofs.Common.{rules, ◌≡◌, ◌∷◌, ◌++◌, ◌∙◌, List, [], sym, ap, map}
use Rattle.std.proofs.lemmas.Result.{IfOk-weaker}
use Rattle.src_meaning.specs.Locals.OfBody.{cells_in, locals}
use Rattle.src_meaning.specs.Scopes.{Entry}
use Rattle.typed_tree.specs.declared.body.Param.{Param}
use Rattle.typed_tree.specs.declared.node.Form.{the_lemmas}
use Rattle.typed_tree.specs.Nodes.{number_of}
use Rattle.typed_tree.specs.Tree.{node}
use Rattle.typed_tree.specs.View.{tree_of, form_of, param_tree, body_of}
use Rattle.lower_locals.specs.View.{entry_of, param_entry, inside, inside_params}
use Rattle.lower_locals.proofs.Bodies.{locals_are}
use Rattle.typed_tree.proofs.PlainForms.{node_seen}
use Rattle.lower_locals.proofs.body.locals.Goals as goal

pub returns : goal.returns
returns c =
    let items = c.args.items.now in
    let body = c.args.body.now in
    let block = body.block in
    let trees = map param_tree body.params in
    let answer : Entry = record { key = number_of (tree_of block); ty = body.result } in
    let inside_block = cells_in items (form_of block.form) in
    let tree : tree_of block ≡ node block.id.0 block.at block.ty block.by (form_of block.form) = node_seen block in
    let first : map entry_of c.push.new.self ≡ answer ∷ [] = search (rules, the_lemmas) in
    let params : map entry_of c.add_params.new.found ≡ map entry_of c.push.new.self ++ map param_entry trees =
    c.in_ok-add_params.ensures ∙ ap (λ (l : List Param). map entry_of c.push.new.self ++ map param_entry (map param_tree l)) c.as_slice.ensures in
    let in_params : map entry_of c.add_in_params.new.found ≡ map entry_of c.add_params.new.found ++ inside_params items trees =
    c.in_ok-add_in_params.ensures ∙ ap (λ (l : List Param). map entry_of c.add_params.new.found ++ inside_params items (map param_tree l)) c.as_slice-2.ensures in
    let in_block : map entry_of c.add_parts.new.found ≡ map entry_of c.add_in_params.new.found ++ inside_block = c.in_ok-add_parts.ensures in
    let all =
    in_block ∙ ap (λ (l : List Entry). l ++ inside_block) in_params
    ∙ ap (λ (l : List Entry). l ++ inside_params items trees ++ inside_block) params
    ∙ ap (λ (l : List Entry). l ++ map param_entry trees ++ inside_params items trees ++ inside_block) first
    ∙ ap (λ n. answer ∷ map param_entry trees ++ inside_params items trees ++ inside items n) (sym tree)
    ∙ sym (locals_are items (body_of body)) in
    IfOk-weaker c.of.result (λ (found : List Entry). found ≡ map entry_of c.add_parts.new.found)
    (λ (found : List Entry). found ≡ locals items (body_of body)) (λ found is. is ∙ all) c.of.ensures
