use Rattle.std.proofs.Common.{ℕ, Option, ◌||◌, ◌==◌, false, ap, sym, ◌∙◌}
use Rattle.std.specs.List.{list_any}
use Rattle.std.specs.Option.{option_map_or}
use Rattle.mir_ty.proofs.Sets.{like_number, put}
use Rattle.mir_ty.proofs.drop_bodies.add_drop_body.Goals as goal

pub returns-in_ok-insert-in-Some : goal.returns-in_ok-insert-in-Some
returns-in_ok-insert-in-Some c =
    λ body.
    put (λ (a : ℕ) (b : ℕ). a == b) (λ (n : ℕ). n == body) c.in-Some.body c.args.bodies.now.keys c.insert.new.self.keys c.in_ok-insert-in-Some.field-0
    (λ x p q. like_number body c.in-Some.body x p q) c.in_ok-insert-in-Some.ensures.keys c.in_ok-insert-in-Some.ensures.added
    ∙ ap (λ (o : Option ℕ). list_any (λ (n : ℕ). n == body) c.args.bodies.now.keys || option_map_or (λ (b : ℕ). b == body) o false) (sym c.in-Some.is)
