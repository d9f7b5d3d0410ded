-- The first place of a node's number among rows.
use Rattle.std.proofs.Common.{◌≡◌, ◌==◌, ◌+◌, ◌<◌, ℕ, Bool, cond, nat_eq, List, map, drop, get_or, length, Option, Some, sym, ap, ◌∙◌}
use Rattle.std.specs.List.{position, position_from}
use Rattle.std.proofs.lemmas.Iterator.Adapters.{position_from-zero}
use Rattle.std.proofs.lemmas.List.{at_drop_more}
use Rattle.scope_table.specs.Lookup.{node_of}
use Rattle.scope_table.specs.declared.row.ScopeRow.{ScopeRow}

pub position_is : {X : Type 0} (p : X → Bool) (xs : List X) → position p xs ≡ position_from p 0 xs
position_is p xs = position_from-zero p xs

-- a node's first place, one row earlier
pub one_earlier : (rows : List ScopeRow) (n m : ℕ) (d : ScopeRow) (id : ℕ) (before : Option ℕ) → m + 1 ≡ n → m < length rows →
    before ≡ position_from (λ k. k == id) n (map node_of (drop n rows)) →
    cond (nat_eq (node_of (get_or rows m d)) id) (Some m) before
    ≡ position_from (λ k. k == id) m (map node_of (drop m rows))
one_earlier rows n m d id before is_next less so_far =
    ap (λ o. cond (nat_eq (node_of (get_or rows m d)) id) (Some m) o)
    (so_far ∙ ap (λ n. position_from (λ k. k == id) n (map node_of (drop n rows))) (sym is_next))
    ∙ sym (at_drop_more (λ rest. position_from (λ k. k == id) m (map node_of rest)) rows m d less)
