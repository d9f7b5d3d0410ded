-- Each cell of a body is found under its key, and under no other; the numbers of nodes rise.
use Rattle.std.proofs.Common.{◌≡◌, ℕ, zero, suc, ◌+◌, ◌==◌, not, nat_lt, Bool, true, false, List, [], ◌∷◌, length, map, Some, None, slice_get, cond, sym, ap, subst, ◌∙◌, arith}
use Rattle.std.proofs.lemmas.Bool.{lt-ltb, ltb-true, eqb-true}
use Rattle.std.proofs.lemmas.Option.{none-some, same_Some, slice_get_within, slice_get-map}
use Rattle.std.proofs.lemmas.List.Folds.{find_at}
use Rattle.std.specs.Prelude.{option_map}
use Rattle.std.specs.List.{position_or_len}
use Rattle.std.specs.Option.{option_map_or}
use Rattle.typed_tree.specs.Nodes.{number_of}
use Rattle.typed_tree.specs.Tree.{Node}
use Rattle.src_meaning.specs.Locals.OfBody.{local_among}
use Rattle.src_meaning.specs.Scopes.{Entry}
use Rattle.well_typed.specs.Names.{do_rise}
use Rattle.lower_laws.proofs.Base as base
use Rattle.lower_laws.proofs.Base.{Ground, untrue, and_first, and_second, same_id, found}
use Rattle.lower_laws.proofs.LineCells.{OfKeys, Distinct}
use Rattle.lower_laws.proofs.Names as names
use Rattle.lower_laws.proofs.Patterns as pattern_lines

-- ---- a key finds its cell
pub found_at : (P : ℕ → Type 0) (es : List Entry) (i : ℕ) (e : Entry) → slice_get es i ≡ Some e → OfKeys P es → P e.key
found_at P [] i e is h = absurd (none-some e is)
found_at P (x ∷ es) zero e is h = subst (λ (z : Entry). P z.key) (same_Some x e is) h.0
found_at P (x ∷ es) (suc i) e is h = found_at P es i e is h.1

pub slot : (es : List Entry) (i : ℕ) (e : Entry) → slice_get es i ≡ Some e → Distinct es → position_or_len (λ k. k == e.key) (map (λ e. e.key) es) ≡ i
slot [] i e is d = absurd (none-some e is)
slot (x ∷ es) zero e is d = ap (λ (b : Bool). cond (not b) (1 + position_or_len (λ k. k == e.key) (map (λ e. e.key) es)) 0) (names.equal_too x.key e.key (ap (λ (z : Entry). z.key) (same_Some x e is)))
slot (x ∷ es) (suc i) e is d =
    ap (λ (b : Bool). cond (not b) (1 + position_or_len (λ k. k == e.key) (map (λ e. e.key) es)) 0) (found_at (λ k. (x.key == k) ≡ false) es i e is d.0)
    ∙ (let again = slot es i e is d.1 in let on : 1 + position_or_len (λ k. k == e.key) (map (λ e. e.key) es) ≡ suc i = omega (again, arith) in on)

pub key_at : (es : List Entry) (i : ℕ) (e : Entry) → slice_get es i ≡ Some e → slice_get (map (λ e. e.key) es) i ≡ Some e.key
key_at es i e is = slice_get-map (λ e. e.key) es i ∙ ap (option_map (λ (e : Entry). e.key)) is

pub own_slot : (es : List Entry) (i : ℕ) (e : Entry) → slice_get es i ≡ Some e → Distinct es → local_among (map (λ e. e.key) es) e.key ≡ i
own_slot es i e is d =
    let keys = map (λ (e : Entry). e.key) es in
    let within = lt-ltb i (length keys) (slice_get_within keys i e.key (key_at es i e is)) in
    ap (λ (k : ℕ). option_map_or (λ n. n) (cond (nat_lt k (length keys)) (Some k) None) (length keys + e.key)) (slot es i e is d)
    ∙ ap (λ (b : Bool). option_map_or (λ n. n) (cond b (Some i) None) (length keys + e.key)) within

pub one_key : (keys : List ℕ) (i k key : ℕ) → slice_get keys i ≡ Some key → local_among keys k ≡ i → k ≡ key
one_key keys i k key is e = by (nat_lt (position_or_len (λ j. j == k) keys) (length keys)) e
  where
    by : (b : Bool) → option_map_or (λ n. n) (cond b (Some (position_or_len (λ j. j == k) keys)) None) (length keys + k) ≡ i → k ≡ key
    by true e = sym (eqb-true key k (pattern_lines.found_so (λ j. j == k) keys key (find_at (λ j. j == k) keys ∙ ap (slice_get keys) e ∙ is)))
    by false e = absurd (let l = slice_get_within keys i key is in let never : ⊥ = omega (e, l, arith) in never)

-- ---- numbers that rise, one after the other, rise above all before them
abbrev pub FirstOver : ℕ → List ℕ → Bool
FirstOver n [] = true
FirstOver n (m ∷ ns) = nat_lt n m

pub all_over : (g : Ground) (n : ℕ) (ns : List Node) → do_rise (n ∷ map number_of ns) ≡ true → base.Over g n ns
all_over g n [] h = tt
all_over g n (m ∷ ns) h =
    let less = and_first (FirstOver n (map number_of (m ∷ ns))) _ h in
    let rest = and_second (FirstOver n (map number_of (m ∷ ns))) _ h in (
      less,
      further n (number_of m) ns less (all_over g (number_of m) ns rest),
    )
  where
    further : (n m : ℕ) (ns : List Node) → nat_lt n m ≡ true → base.Over g m ns → base.Over g n ns
    further n m [] less h = tt
    further n m (k ∷ ns) less h = (lt-ltb n (number_of k) (let a = ltb-true n m less in let b = ltb-true m (number_of k) h.0 in omega (a, b, arith)), further n m ns less h.1)

pub rising : (g : Ground) (ns : List Node) → do_rise (map number_of ns) ≡ true → base.Rise g ns
rising g [] h = tt
rising g (n ∷ ns) h = (all_over g (number_of n) ns h, rising g ns (and_second (FirstOver (number_of n) (map number_of ns)) _ h))
