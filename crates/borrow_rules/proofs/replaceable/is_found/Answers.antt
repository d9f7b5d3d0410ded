use Rattle.std.proofs.Common.{◌≡◌, rules, sym, ◌∙◌}
use Rattle.std.specs.List.{list_any}
use Rattle.typing_rules.specs.Replaced.{is_param}
use Rattle.borrow_rules.specs.View.{param_in}
use Rattle.borrow_rules.specs.declared.facts.ParamNo.{ParamNo}
use Rattle.borrow_rules.proofs.Sets.{any_map}
use Rattle.borrow_rules.proofs.replaceable.is_found.Goals as goal

pub returns : goal.returns
returns c =
    let direct : c.contains.result ≡ list_any (λ (k : ParamNo). is_param c.args.body c.args.number (param_in k)) c.args.found.now.keys = search rules in
    direct ∙ sym (any_map (is_param c.args.body c.args.number) param_in c.args.found.now.keys)
