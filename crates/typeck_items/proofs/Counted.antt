-- How many nodes there are.
use Rattle.std.proofs.Common.{◌≡◌, ◌==◌, ℕ, suc, zero, ◌+◌, Bool, true, false, length, nat_le, refl, ap, sym, ◌∙◌, arith}
use Rattle.std.proofs.lemmas.Bool.Decides.{nat_tests}
use Rattle.src_ast.specs.Seen.{is_none}
use Rattle.src_ast.specs.Syntax.{Syns, no_syn, a_syn, list_of}
use Rattle.typing_rules.specs.Program.{count_of}

not_zero : (n : ℕ) → false ≡ (suc n == 0)
not_zero n = grind (arith, nat_tests)

pub none_counted : (ss : Syns) → is_none ss ≡ (count_of ss == 0)
none_counted no_syn = refl
none_counted (a_syn first rest) = not_zero (length (list_of rest))

one_less : (n m : ℕ) → nat_le (suc n) (suc m) ≡ nat_le n m
one_less n m = grind (arith, nat_tests)

none_left : (n : ℕ) → nat_le (suc n) 0 ≡ false
none_left n = grind (arith, nat_tests)

no_more : (m : ℕ) → nat_le 0 m ≡ true
no_more m = grind (arith, nat_tests)
