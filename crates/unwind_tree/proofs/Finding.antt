-- Where a destination is pending.
use Rattle.std.proofs.Common.{◌≡◌, ◌∙◌, ◌+◌, ◌==◌, ℕ, suc, nat_lt, Bool, true, false, List, [], ◌∷◌, ◌++◌, take, drop, Option, Some, None, slice_get, slice_set, refl, sym, ap, subst, true≢false, arith}
use Rattle.std.specs.List.{position, list_any}
use Rattle.std.specs.Option.{option_map, is_some}
use Rattle.std.specs.Prelude.{get_or}
use Rattle.std.proofs.lemmas.List.Quantifiers.{position-Some}
use Rattle.std.proofs.Math.Seq.{split_at}
use Rattle.std.proofs.lemmas.Bool.Decides.{nat_tests}
use Rattle.std.proofs.lemmas.Option.{none-some, slice_get-map}
use Rattle.unwind_tree.proofs.Rooms.{some_same}
use Rattle.cfg_graph.proofs.Rests.{position-any}
use Rattle.mir_base.specs.declared.place_in_text.Key.{Key}
use Rattle.unwind_tree.specs.Rooms.{seen, seen_all, has_key, IsAbsentFrom, IsFoundAt, IsTakenFrom}
use Rattle.unwind_tree.specs.Trees.{OpenScope, IsPending}
use Rattle.unwind_tree.specs.declared.scope.Pending.{Pending}
use Rattle.unwind_tree.specs.declared.scope.Scope.{Scope}

pub further_out : (key : Key) (S : List Scope) (n m : ℕ) (x : Scope) → IsAbsentFrom key n S → m + 1 ≡ n → slice_get S m ≡ Some x →
    position (has_key key) x.pending.items ≡ None → IsAbsentFrom key m S
further_out key S n m x absent next there none k scope h is = by (nat_lt m k) refl
  where
    by : (b : Bool) → nat_lt m k ≡ b → position (has_key key) scope.pending.items ≡ None
    by true e = absent k scope (grind (arith, nat_tests)) is
    by false e =
        let same : k ≡ m = grind (arith, nat_tests) in
        let equal : x ≡ scope = some_same x scope (sym there ∙ ap (slice_get S) (sym same) ∙ is) in
        subst (λ (s : Scope). position (has_key key) s.pending.items ≡ None) equal none

same_number : (n : ℕ) → (n == n) ≡ true
same_number n = grind (arith, nat_tests)

-- one that is among some is found there
any_there : (p : Pending → Bool) (before behind : List Pending) (d : Pending) → p d ≡ true → list_any p (before ++ d ∷ behind) ≡ true
any_there p [] behind d h = rw h refl
any_there p (first ∷ before) behind d h = by (p first) refl (any_there p before behind d h)
  where
    by : (b : Bool) → p first ≡ b → list_any p (before ++ d ∷ behind) ≡ true → list_any p (first ∷ before ++ d ∷ behind) ≡ true
    by true e rest = rw e refl
    by false e rest = rw e rest

-- a scope that contracts see
seen_at : (S : List Scope) (n : ℕ) (o : OpenScope) → slice_get (seen_all S) n ≡ Some o → (x : Scope) × (slice_get S n ≡ Some x) × (seen x ≡ o)
seen_at S n o is = by (slice_get S n) refl
  where
    by : (found : Option Scope) → slice_get S n ≡ found → (x : Scope) × (slice_get S n ≡ Some x) × (seen x ≡ o)
    by (Some x) e = (x, e, some_same (seen x) o (sym (slice_get-map seen S n ∙ ap (option_map seen) e) ∙ is))
    by None e = absurd (none-some _ (sym (slice_get-map seen S n ∙ ap (option_map seen) e) ∙ is))

-- what is pending is found
pub is_not_absent : (key : Key) (S : List Scope) → IsPending key (seen_all S) → IsAbsentFrom key 0 S → ⊥
is_not_absent key S pending absent =
    let found = seen_at S pending.number pending.is_in.scope pending.is_in.there in
    let x = found.0 in
    let items : x.pending.items ≡ pending.before ++ pending.destination ∷ pending.behind = ap (λ (o : OpenScope). o.pending) found.2 ∙ pending.is_in.pending in
    let here : has_key key pending.destination ≡ true = subst (λ (k : Key). has_key k pending.destination ≡ true) pending.has_key (same_number _) in
    let any : list_any (has_key key) x.pending.items ≡ true =
    ap (list_any (has_key key)) items ∙ any_there (has_key key) pending.before pending.behind pending.destination here in
    let none : is_some (position (has_key key) x.pending.items) ≡ false = ap is_some (absent pending.number x (omega arith) found.1) in
    true≢false (sym any ∙ sym (position-any (has_key key) x.pending.items) ∙ none)

-- a key by its number
pub key_is : (key : Key) (d : Pending) → has_key key d ≡ true → d.scheduled.key ≡ key
key_is key d h =
    let same : d.scheduled.key.0 ≡ key.0 = grind (arith, nat_tests) in
    ap (λ n. (let k : Key = record { 0 = n } in k)) same

-- one that was found is taken out
pub taken_from : (key : Key) (S : List Scope) (n i : ℕ) (x y : Scope) (p : Pending) → IsFoundAt key n i S → slice_get S n ≡ Some x →
    p ≡ get_or x.pending.items i p → y.entries ≡ x.entries → y.pending.items ≡ take i x.pending.items ++ drop (i + 1) x.pending.items →
    IsTakenFrom key p S (slice_set S n y)
taken_from key S n i x y p found there value entries items =
    let same : found.scope ≡ x = some_same found.scope x (sym found.there ∙ there) in
    let at : position (has_key key) x.pending.items ≡ Some i = subst (λ (s : Scope). position (has_key key) s.pending.items ≡ Some i) same found.at_place in
    let facts = position-Some (has_key key) x.pending.items i p at in
    let next : suc i ≡ i + 1 = omega arith in
    record {
      number = n;
      taken = record {
        scope = x;
        left = y;
        there = there;
        how = record {
          before = take i x.pending.items;
          behind = drop (i + 1) x.pending.items;
          has_key = key_is key p (subst (λ (q : Pending). has_key key q ≡ true) (sym value) facts.1);
          was = split_at x.pending.items i p facts.0
              ∙ ap (λ (q : Pending). take i x.pending.items ++ q ∷ drop (suc i) x.pending.items) (sym value)
              ∙ ap (λ k. take i x.pending.items ++ p ∷ drop k x.pending.items) next;
          holds = (entries, items);
        };
        is = refl;
      };
    }
