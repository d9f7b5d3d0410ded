use Rattle.std.proofs.Common.{◌≡◌, ℕ, List}
use Rattle.listing_parts.specs.Numbers.{number_in}
use Rattle.listing_parts.proofs.NumberTables.{from}
use Rattle.listing_parts.proofs.heads.adt_numbers.Given as goal

abbrev pub invariant-loop-n : goal.invariant-loop-n
invariant-loop-n l = (q : List ℕ) → number_in l.numbers l.count q ≡ from (λ one. one.name) l.items.adts l.n q
