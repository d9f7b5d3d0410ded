use Rattle.std.proofs.Common.{rules, ◌∙◌, ap, nat_eq}
use Rattle.std.specs.HashMap.{get}
use Rattle.lower_locals.specs.Places.{near_at, either}
use Rattle.lower_locals.proofs.Placing.{none_yet}
use Rattle.lower_locals.proofs.places.NumbersByKey.new.Goals as goal

pub returns : goal.returns
returns c = λ key.
    ap (λ row. either (near_at c.args.first.0 row key) (get nat_eq c.new.result key)) (c.from_vec.ensures ∙ c.in_ok-vec.ensures.items_if_clones_equal (λ y h. h))
    ∙ none_yet c.args.first.0 c.args.count key (get nat_eq c.new.result key) (search rules)
