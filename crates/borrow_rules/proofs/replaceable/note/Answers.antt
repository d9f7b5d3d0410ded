use Rattle.std.proofs.Common.{◌≡◌, true, false, rules}
use Rattle.typing_rules.specs.Replaced.{is_among}
use Rattle.borrow_rules.specs.Found.{is_shown}
use Rattle.borrow_rules.specs.View.{fact_in, params_in}
use Rattle.borrow_rules.proofs.Noting.{with_key}
use Rattle.borrow_rules.proofs.replaceable.note.Goals as goal

pub returns : goal.returns
returns c =
    let shown : is_shown c.args.items.now (params_in c.args.found.now.keys) (fact_in c.args.fact.now) ≡ true = search rules in
    let out : is_among (params_in c.args.found.now.keys) c.args.fact.now.param.number c.args.fact.now.param.body ≡ false = search rules in
    (shown, out, with_key c.args.fact.now.param c.args.found.now.keys c.insert.new.self.keys c.in_ok-insert.field-0 c.in_ok-insert.ensures.keys c.in_ok-insert.ensures.added)
