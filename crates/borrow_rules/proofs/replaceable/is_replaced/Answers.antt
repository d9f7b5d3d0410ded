use Rattle.std.proofs.Common.{ap, sym, ◌∙◌}
use Rattle.std.specs.List.{list_any}
use Rattle.typing_rules.specs.Replaced.{bodies_of, is_among}
use Rattle.borrow_rules.specs.View.{callee_in, params_in}
use Rattle.borrow_rules.proofs.Lists.{any_method}
use Rattle.borrow_rules.proofs.replaceable.is_replaced.Goals as goal

pub returns-in-OfTrait : goal.returns-in-OfTrait
returns-in-OfTrait c =
    c.is_any_found.ensures
    ∙ sym (any_method (params_in c.args.found.now.keys) c.in-OfTrait.trait_no c.in-OfTrait.method c.args.passing.now.number c.args.items.now.impls)
    ∙ ap (λ callee. list_any (is_among (params_in c.args.found.now.keys) c.args.passing.now.number) (bodies_of c.args.items.now (callee_in callee))) (sym c.in-OfTrait.is)
