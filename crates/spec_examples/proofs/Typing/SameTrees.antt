-- The typed trees of the worked programs, typed from their texts, are those whose runs are computed in `src_meaning`.
use Rattle.std.proofs.Common.{◌≡◌, List, [], ◌∷◌, ℕ, refl}
use Rattle.std.specs.Prelude.{codes}
use Rattle.typing_rules.proofs.Accepted as accepted
use Rattle.typing_rules.proofs.Words.{text}
use Rattle.spec_examples.proofs.Typing.Bare.{trees, trees_of}
use Rattle.src_meaning.proofs.Examples.Closures as closures
use Rattle.src_meaning.proofs.Examples.Conditions as conditions
use Rattle.src_meaning.proofs.Examples.JobQueue as job_queue
use Rattle.src_meaning.proofs.Examples.LiteralTests as literal_tests
use Rattle.src_meaning.proofs.Examples.Locals as locals
use Rattle.src_meaning.proofs.Examples.Patterns as patterns
use Rattle.src_meaning.proofs.Examples.Temporaries as temporaries
use Rattle.src_meaning.proofs.Examples.TraitObjects as trait_objects

locals_two : trees_of locals.two accepted.two_locals ≡ trees locals.two
locals_two = refl

locals_again : trees_of locals.again accepted.assigned_again ≡ trees locals.again
locals_again = refl

conditions_moved_if : trees_of conditions.moved_if accepted.moved_if ≡ trees conditions.moved_if
conditions_moved_if = refl

trait_objects_shown : trees_of trait_objects.shown accepted.trait_objects ≡ trees trait_objects.shown
trait_objects_shown = refl

job_queue_job_queue : trees_of job_queue.job_queue accepted.job_queue ≡ trees job_queue.job_queue
job_queue_job_queue = refl

closures_called : trees_of closures.called accepted.closure ≡ trees closures.called
closures_called = refl

abbrev closures_dropped_text : List ℕ
closures_dropped_text = text (
    codes "struct D(i32);" ∷
    codes "impl Drop for D { fn drop(&mut self) {} }" ∷
    codes "fn take(x: D) {}" ∷
    codes "fn main() { let a = D(1); let b = D(2); let c = move [b, a] |n: i32| { print(n); take(a);" ∷
    codes "}; }" ∷
    [])

closures_dropped : trees_of closures.dropped closures_dropped_text ≡ trees closures.dropped
closures_dropped = refl

abbrev patterns_params_text : List ℕ
patterns_params_text = text (
    codes "struct D(i32);" ∷
    codes "impl Drop for D { fn drop(&mut self) {} }" ∷
    codes "fn take(x: D) {}" ∷
    codes "fn p((x, _): (D, D), (_, y): (D, D)) {}" ∷
    codes "fn pair() -> (D, D) { (D(1), D(2)) }" ∷
    codes "fn main() { p((D(1), D(2)), (D(3), D(4))); }" ∷
    [])

patterns_params : trees_of patterns.params patterns_params_text ≡ trees patterns.params
patterns_params = refl

abbrev patterns_of_let_text : List ℕ
patterns_of_let_text = text (
    codes "struct D(i32);" ∷
    codes "impl Drop for D { fn drop(&mut self) {} }" ∷
    codes "fn take(x: D) {}" ∷
    codes "fn p((x, _): (D, D), (_, y): (D, D)) {}" ∷
    codes "fn pair() -> (D, D) { (D(1), D(2)) }" ∷
    codes "fn main() { let (a, _) = pair(); print(7); }" ∷
    [])

patterns_of_let : trees_of patterns.of_let patterns_of_let_text ≡ trees patterns.of_let
patterns_of_let = refl

abbrev patterns_match_text : List ℕ
patterns_match_text = text (
    codes "struct D(i32);" ∷
    codes "impl Drop for D { fn drop(&mut self) {} }" ∷
    codes "fn take(x: D) {}" ∷
    codes "enum J { None, One(D, i32) }" ∷
    codes "fn p((x, _): (D, D), (_, y): (D, D)) {}" ∷
    codes "fn pair() -> (D, D) { (D(1), D(2)) }" ∷
    codes "fn main() { let j = J::One(D(1), 4); match j { J::One(d, n) if n == ask() => take(d)," ∷
    codes "J::One(_, n) => print(n), J::None => {} } }" ∷
    [])

patterns_match : trees_of patterns.match_ patterns_match_text ≡ trees patterns.match_
patterns_match = refl

abbrev patterns_or_text : List ℕ
patterns_or_text = text (
    codes "struct D(i32);" ∷
    codes "impl Drop for D { fn drop(&mut self) {} }" ∷
    codes "fn take(x: D) {}" ∷
    codes "fn p((x, _): (D, D), (_, y): (D, D)) {}" ∷
    codes "fn pair() -> (D, D) { (D(1), D(2)) }" ∷
    codes "fn main() { match (1, 2) { (1, _) | (_, 2) if ask() == 0 => print(1), _ => print(2) } }" ∷
    [])

patterns_or : trees_of patterns.or_ patterns_or_text ≡ trees patterns.or_
patterns_or = refl

abbrev temporaries_tail_text : List ℕ
temporaries_tail_text = text (
    codes "struct D(i32);" ∷
    codes "impl Drop for D { fn drop(&mut self) {} }" ∷
    codes "fn take(x: D) {}" ∷
    codes "enum J { None, One(i32) }" ∷
    codes "fn g(r: &D) -> i32 { 5 }" ∷
    codes "fn h() -> i32 { let x = D(1); g(&D(2)) }" ∷
    codes "fn main() { print(h()); }" ∷
    codes "fn j(r: &D) -> J { J::None }" ∷
    [])

temporaries_tail : trees_of temporaries.tail temporaries_tail_text ≡ trees temporaries.tail
temporaries_tail = refl

abbrev temporaries_if_let_text : List ℕ
temporaries_if_let_text = text (
    codes "struct D(i32);" ∷
    codes "impl Drop for D { fn drop(&mut self) {} }" ∷
    codes "fn take(x: D) {}" ∷
    codes "enum J { None, One(i32) }" ∷
    codes "fn g(r: &D) -> i32 { 5 }" ∷
    codes "fn h() -> i32 { let x = D(1); g(&D(2)) }" ∷
    codes "fn main() { if let J::One(b) = j(&D(1)) { print(1); } else { print(2); } }" ∷
    codes "fn j(r: &D) -> J { J::None }" ∷
    [])

temporaries_if_let : trees_of temporaries.if_let temporaries_if_let_text ≡ trees temporaries.if_let
temporaries_if_let = refl

abbrev temporaries_if_text : List ℕ
temporaries_if_text = text (
    codes "struct D(i32);" ∷
    codes "impl Drop for D { fn drop(&mut self) {} }" ∷
    codes "fn take(x: D) {}" ∷
    codes "enum J { None, One(i32) }" ∷
    codes "fn g(r: &D) -> i32 { 5 }" ∷
    codes "fn h() -> i32 { let x = D(1); g(&D(2)) }" ∷
    codes "fn main() { if g(&D(1)) == 5 { print(1); } }" ∷
    codes "fn j(r: &D) -> J { J::None }" ∷
    [])

temporaries_if : trees_of temporaries.if_ temporaries_if_text ≡ trees temporaries.if_
temporaries_if = refl

abbrev temporaries_match_text : List ℕ
temporaries_match_text = text (
    codes "struct D(i32);" ∷
    codes "impl Drop for D { fn drop(&mut self) {} }" ∷
    codes "fn take(x: D) {}" ∷
    codes "enum J { None, One(i32) }" ∷
    codes "fn g(r: &D) -> i32 { 5 }" ∷
    codes "fn h() -> i32 { let x = D(1); g(&D(2)) }" ∷
    codes "fn main() { match g(&D(1)) { 5 => { print(1); }, _ => {} }; }" ∷
    codes "fn j(r: &D) -> J { J::None }" ∷
    [])

temporaries_match : trees_of temporaries.match_ temporaries_match_text ≡ trees temporaries.match_
temporaries_match = refl

abbrev literal_tests_literal_text : List ℕ
literal_tests_literal_text = text (
    codes "fn main() { match 1 { 1 => print(7), _ => {} } }" ∷
    [])

literal_tests_literal : trees_of literal_tests.literal literal_tests_literal_text ≡ trees literal_tests.literal
literal_tests_literal = refl
