use Rattle.std.proofs.Common.{rules, ◌≡◌, ◌==◌, ◌∙◌, ◌+◌, map, sym, ap, length}
use Rattle.std.specs.List.{position}
use Rattle.std.specs.Option.{option_map_or}
use Rattle.lower_locals.specs.View.{entry_of, keys}
use Rattle.lower_locals.proofs.Positions.{keys_are}
use Rattle.lower_locals.proofs.table.Locals.local_of.Goals as goal

first : goal.returns-clause-first
first c =
    let seen : c.args.self.now ≡ map entry_of c.self.inside.locals = search rules in
    c.find.ensures ∙ c.self.invariant c.args.key.0 ∙ ap (λ ks. position (λ k. k == c.args.key.0) ks) (sym (ap keys seen ∙ keys_are c.self.inside.locals))

pub returns-clause-first : goal.returns-clause-first
returns-clause-first c = first c

pub returns-clause-among : goal.returns-clause-among
returns-clause-among c =
    ap (λ o. option_map_or (λ n. n) o (length (keys c.args.self.now) + c.args.key.0)) (sym (first c))
