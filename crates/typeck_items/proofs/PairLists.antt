-- Pairs of names that are looked up.
use Rattle.std.proofs.Common.{◌≡◌, ◌&&◌, ◌||◌, not, List, [], ◌∷◌, map, reverse, refl, ap, ◌∙◌}
use Rattle.std.specs.Cmp.Lexicographic.{nat_list_eq_equiv}
use Rattle.std.specs.List.{list_any}
use Rattle.std.specs.Str.{bytes_eq}
use Rattle.std.specs.String.{string_bytes}
use Rattle.src_ast.specs.Syntax.{Word}
use Rattle.typing_rules.specs.Program.{Seen, is_seen}
use Rattle.typeck_items.specs.declared.pairs.NamePair.{NamePair}
use Rattle.typeck_items.specs.contracts.pairs.NamePairPartialEq.TheImpl as pair
use Rattle.typeck_items.proofs.NameLists.{reversed_any}

abbrev pub pairs_of : List NamePair → Seen
pairs_of keys = map (λ (k : NamePair). (string_bytes k.owner, string_bytes k.name)) keys

any_seen : (k : NamePair) (keys : List NamePair) →
    list_any (pair.ghosts.eq k) keys ≡ is_seen (string_bytes k.owner) (string_bytes k.name) (pairs_of keys)
any_seen k [] = refl
any_seen k (x ∷ xs) =
    λ i. (nat_list_eq_equiv.symm (string_bytes k.owner) (string_bytes x.owner) i && nat_list_eq_equiv.symm (string_bytes k.name) (string_bytes x.name) i)
    || any_seen k xs i

-- a pair is new in whatever order
pub is_new_pair : (k : NamePair) (keys : List NamePair) (owner name : Word) → string_bytes k.owner ≡ owner → string_bytes k.name ≡ name →
    not (list_any (pair.ghosts.eq k) keys) ≡ not (is_seen owner name (reverse (pairs_of keys)))
is_new_pair k keys owner name o n =
    ap not (any_seen k keys ∙ (λ i. is_seen (o i) (n i) (pairs_of keys))
    ∙ reversed_any (λ s. bytes_eq s.0 owner && bytes_eq s.1 name) (pairs_of keys))
