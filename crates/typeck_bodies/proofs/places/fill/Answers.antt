use Rattle.std.proofs.Common.{◌≡◌, ◌+◌, ◌-◌, ◌<◌, ℕ, rules, refl, get_or, slice_set, length, drop, ap, ◌∙◌, arith}
use Rattle.typeck_bodies.specs.Places.{place_by}
use Rattle.typing_rules.specs.Numbered.{place_among}
use Rattle.typeck_bodies.proofs.Placed.{one_more}
use Rattle.typeck_bodies.proofs.places.fill.Goals as goal

pub loop-done-preserved : goal.loop-done-preserved
loop-done-preserved c k =
    let numbers = c.args.numbers.now in
    let at : ℕ = length numbers - 1 - c.loop-done.done in
    let here : at ≡ length numbers - (c.loop-done.done + 1) = omega arith in
    let before : length numbers - c.loop-done.done ≡ at + 1 = omega arith in
    let number : ℕ = get_or numbers at 0 in
    let is : c.in-Ok.place ≡ at = search rules in
    let wide : number < length c.widen.new.table = search rules in
    let earlier : place_by c.widen.new.table c.args.count k ≡ at + 1 + place_among (drop (at + 1) numbers) k =
    (c.in_ok-widen.ensures).same k ∙ c.loop-done.invariant k
    ∙ ap (λ n. n + place_among (drop n numbers) k) before in
    ap (λ t. place_by t c.args.count k) c.set.ensures
    ∙ ap (λ n. place_by (slice_set c.widen.new.table number n) c.args.count k) is
    ∙ one_more numbers c.widen.new.table c.args.count at number k (omega arith) refl wide earlier
    ∙ ap (λ n. n + place_among (drop n numbers) k) here
