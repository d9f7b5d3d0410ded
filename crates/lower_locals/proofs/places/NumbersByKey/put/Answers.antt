use Rattle.std.proofs.Common.{rules, ◌∙◌, sym, ap, nat_eq}
use Rattle.std.specs.HashMap.{get}
use Rattle.lower_locals.specs.Places.{near_at, either}
use Rattle.lower_locals.proofs.Placing.{row_from, row_within, put_near, put_far}
use Rattle.lower_locals.proofs.places.NumbersByKey.put.Goals as goal

pub overflow_sub-at : goal.overflow_sub-at
overflow_sub-at c = row_from c.args.self.now.first c.args.self.now.near c.args.key.0 _ (sym c.near_at.ensures ∙ c.in-Some.is)

pub set-requires : goal.set-requires
set-requires c = row_within c.args.self.now.first c.args.self.now.near c.args.key.0 _ (sym c.near_at.ensures ∙ c.in-Some.is)

pub returns-in_ok-stored-in-Some : goal.returns-in_ok-stored-in-Some
returns-in_ok-stored-in-Some c = λ other.
    ap (λ row. either (near_at c.args.self.now.first row other) (get nat_eq c.args.self.now.far other)) c.set.ensures
    ∙ put_near c.args.self.now.first c.args.self.now.near c.args.key.0 c.args.number _ _ (get nat_eq c.args.self.now.far)
    (sym c.near_at.ensures ∙ c.in-Some.is) (search rules) other

pub returns-in_ok-insert-in-None : goal.returns-in_ok-insert-in-None
returns-in_ok-insert-in-None c = λ other.
    put_far c.args.self.now.first c.args.self.now.near c.args.key.0 c.args.number (get nat_eq c.args.self.now.far) (get nat_eq c.insert.new.self)
    (sym c.near_at.ensures ∙ c.in-None.is) c.in_ok-insert-in-None.ensures.updates.0 other
