use Rattle.std.proofs.Common.{◌≡◌, ◌++◌, ℕ, Some, None, true, List, map, slice_get, rules, append-nil, ap, sym, ◌∙◌}
use Rattle.std.proofs.lemmas.Result.{on_ok_weaker}
use Rattle.typed_tree.specs.Nodes.{number_of}
use Rattle.typed_tree.specs.View.{body_of, tree_of}
use Rattle.typed_tree.specs.declared.body.Param.{Param}
use Rattle.typed_tree.specs.declared.node.Form.{the_lemmas}
use Rattle.typing_rules.specs.Borrows.{replaced_self, replacements}
use Rattle.typing_rules.specs.Check.{Broken}
use Rattle.mir_ty.specs.DropBodies.{is_drop_body}
use Rattle.borrow_rules.specs.Answers.{fault_in}
use Rattle.borrow_rules.specs.View.{params_in}
use Rattle.borrow_rules.proofs.Selves.{with_self, without_self}
use Rattle.borrow_rules.proofs.first_broken.add_replaced_self.Goals as goal

pub returns-in-None : goal.returns-in-None
returns-in-None c =
    let items = c.args.items.now in
    let body = c.args.body.now in
    let before : List Broken = map fault_in c.args.faults.now.items in
    let drops : is_drop_body items body.number ≡ true = search rules in
    let at : slice_get body.params 0 ≡ None = search rules in
    sym (ap (λ (l : List Broken). before ++ l) (without_self items (params_in c.args.found.now.keys) body at drops) ∙ append-nil before)

pub returns-in-Some : goal.returns-in-Some
returns-in-Some c =
    let items = c.args.items.now in
    let body = c.args.body.now in
    let params = params_in c.args.found.now.keys in
    let self : Param = c.in-Some.param.now in
    let before : List Broken = map fault_in c.args.faults.now.items in
    let after : List Broken = map fault_in c.add_replacements.new.faults.items in
    let drops : is_drop_body items body.number ≡ true = search rules in
    let at : slice_get body.params 0 ≡ Some self = search rules in
    let number : self.pattern.id.0 ≡ number_of (tree_of self.pattern) = search (rules, the_lemmas) in
    let is : replacements items params self.pattern.id.0 (body_of body) ≡ replaced_self items params (body_of body) =
    ap (λ (k : ℕ). replacements items params k (body_of body)) number ∙ sym (with_self items params body self at drops) in
    let then_all : (after ≡ before ++ replacements items params self.pattern.id.0 (body_of body)) → after ≡ before ++ replaced_self items params (body_of body) =
    λ e. e ∙ ap (λ (l : List Broken). before ++ l) is in
    on_ok_weaker c.add_replacements.result then_all c.add_replacements.ensures
