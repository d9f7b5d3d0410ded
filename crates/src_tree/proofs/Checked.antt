-- The checks, computed.
use Rattle.std.proofs.Common.{◌≡◌, Bool, true, false, refl}
use Rattle.src_tree.specs.declared.row.Sort.{Sort}
use Rattle.src_tree.specs.declared.place.Start.{Start}
use Rattle.src_tree.specs.Grammar.{entry, joined, items}
use Rattle.src_tree.proofs.Samples.{samples, every}
use Rattle.src_tree.proofs.Follow.{places, good, ok, entry_ok, joined_ok}

pub entries_ok : (s : Sort) (h : Bool) (st : Start) → every (λ t. entry_ok h (entry record { sort = s; head = h; start = st } t)) samples ≡ true
entries_ok Sort.File false st = refl
entries_ok Sort.File true st = refl
entries_ok _ false st = refl
entries_ok _ true st = refl

pub joined_all_ok : (s : Sort) (h : Bool) (st : Start) → every (λ t. joined_ok h (joined record { sort = s; head = h; start = st } t)) samples ≡ true
joined_all_ok Sort.File h st = refl
joined_all_ok Sort.Expr false st = refl
joined_all_ok Sort.Expr true st = refl
joined_all_ok Sort.Pattern false st = refl
joined_all_ok Sort.Pattern true st = refl
joined_all_ok _ h st = refl

pub items_ok : ok false items ≡ true
items_ok = refl

pub places_good : every good places ≡ true
places_good = refl
