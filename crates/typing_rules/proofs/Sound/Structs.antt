-- Structs and variants by the names of their fields: each is given once.
use Rattle.std.proofs.Common.{◌≡◌, ◌≢◌, ℕ, zero, suc, ◌≤◌, ◌+◌, Bool, true, false, ◌&&◌, ◌||◌, ◌==◌, not, if◌then◌else◌, List, [], ◌∷◌, ◌++◌, length, slice_get, Option, Some, None, IsTrue, ◌⊎◌, inl, inr, refl, ap, sym, subst, ◌∙◌, arith}
use Rattle.std.specs.Prelude.{nat_eq}
use Rattle.std.specs.List.{list_any}
use Rattle.std.proofs.lemmas.Bool.{eqb-true, true≢false}
use Rattle.std.proofs.lemmas.List.{append_assoc}
use Rattle.mir_base.specs.declared.place_in_text.Pos.{Pos}
use Rattle.mir_base.specs.declared.rule.Rule.{Rule}
use Rattle.mir_ty.specs.declared.adt.Variant.{Variant}
use Rattle.mir_ty.specs.declared.ty.Ty.{Ty}
use Rattle.mir_ty.specs.declared.ty.TyId.{TyId}
use Rattle.typed_tree.specs.Tree as tree
use Rattle.typed_tree.specs.Tree.{Node, Fields, no_field, a_field}
use Rattle.well_typed.specs.Claim.{Holds, some}
use Rattle.well_typed.specs.Names.{are_distinct_numbers}
use Rattle.well_typed.specs.Nodes.{typed, made_fields}
use Rattle.well_typed.specs.Patterns.{field_numbers}
use Rattle.well_typed.specs.Places.{Wanted}
use Rattle.well_typed.specs.Types.{variant_at}
use Rattle.well_typed.proofs.ClaimLemmas.{and_true, true_left, true_right}
use Rattle.typing_rules.specs.Check.{Check, TypingState}
use Rattle.typing_rules.specs.Places.{a_node_of}
use Rattle.typing_rules.specs.Promises.{Gives, TypingSpot, at_spot, Stands, Knows, IsTemporary}
use Rattle.typing_rules.specs.RowPromises.{AreInits, SoundInits}
use Rattle.typing_rules.specs.Rows.{Given, is_given, all_given, are_known, struct_row}
use Rattle.typing_rules.specs.Scope.{Env}
use Rattle.typing_rules.proofs.Sound.Fitted.{fitted_gives, passed_ends, same_self}
use Rattle.typing_rules.proofs.Sound.Gives.{bind, with_ready, obeyed, after_number, numbered, grows_trans, grows_number, knows_later, knows_number}
use Rattle.typing_rules.proofs.Sound.Interned.{interned_sound}
use Rattle.typing_rules.proofs.Sound.Named.{adt_made, make_row, variant_later}
use Rattle.typing_rules.proofs.Sound.Operators.{or_cases, as_wanted}

-- ---- as many numbers as there are below a bound, each of these among them, differ

abbrev Has : List ℕ → ℕ → Type 0
Has xs k = IsTrue (list_any (nat_eq k) xs)

or_left : (a b : Bool) → IsTrue a → IsTrue (a || b)
or_left true b h = refl
or_left false b h = absurd (cc)

or_right : (a b : Bool) → IsTrue b → IsTrue (a || b)
or_right true b h = refl
or_right false b h = h

has_left : (xs ys : List ℕ) (k : ℕ) → Has xs k → Has (xs ++ ys) k
has_left [] ys k h = absurd (cc)
has_left (x ∷ xs) ys k h = by (has_left xs ys k) (or_cases (nat_eq k x) (list_any (nat_eq k) xs) h)
  where
    by : (Has xs k → Has (xs ++ ys) k) → IsTrue (nat_eq k x) ⊎ Has xs k → Has (x ∷ (xs ++ ys)) k
    by on (inl same) = or_left _ _ same
    by on (inr more) = or_right (nat_eq k x) _ (on more)

has_right : (xs ys : List ℕ) (k : ℕ) → Has ys k → Has (xs ++ ys) k
has_right [] ys k h = h
has_right (x ∷ xs) ys k h = or_right (nat_eq k x) _ (has_right xs ys k h)

has_cases : (xs ys : List ℕ) (k : ℕ) → Has (xs ++ ys) k → Has xs k ⊎ Has ys k
has_cases [] ys k h = inr h
has_cases (x ∷ xs) ys k h = by (has_cases xs ys k) (or_cases (nat_eq k x) (list_any (nat_eq k) (xs ++ ys)) h)
  where
    by : (Has (xs ++ ys) k → Has xs k ⊎ Has ys k) → IsTrue (nat_eq k x) ⊎ Has (xs ++ ys) k → Has (x ∷ xs) k ⊎ Has ys k
    by on (inl same) = inl (or_left _ _ same)
    by on (inr more) = next (on more)
      where
        next : Has xs k ⊎ Has ys k → Has (x ∷ xs) k ⊎ Has ys k
        next (inl h) = inl (or_right (nat_eq k x) _ h)
        next (inr h) = inr h

-- a list without the first of a number in it
abbrev without : ℕ → List ℕ → List ℕ
without k [] = []
without k (x ∷ xs) = if nat_eq k x then xs else x ∷ without k xs

without_length : (k : ℕ) (xs : List ℕ) → Has xs k → suc (length (without k xs)) ≡ length xs
without_length k [] h = absurd (cc)
without_length k (x ∷ xs) h = by (without_length k xs) (nat_eq k x) h
  where
    by : (Has xs k → suc (length (without k xs)) ≡ length xs) → (b : Bool) → IsTrue (b || list_any (nat_eq k) xs) → suc
        (length (if b then xs else x ∷ without k xs)) ≡ suc (length xs)
    by on true h = refl
    by on false h = ap suc (on h)

without_has : (k j : ℕ) (xs : List ℕ) → (j ≡ k → ⊥) → Has xs j → Has (without k xs) j
without_has k j [] other h = h
without_has k j (x ∷ xs) other h = by (without_has k j xs other) (nat_eq k x) refl (or_cases (nat_eq j x) (list_any
    (nat_eq j)
    xs) h)
  where
    by : (Has xs j → Has (without k xs) j) → (b : Bool) → nat_eq k x ≡ b → IsTrue (nat_eq j x) ⊎ Has xs j → Has (if b
        then xs
        else x ∷ without k xs) j
    by on true e (inl same) = absurd (other (eqb-true j x same ∙ sym (eqb-true k x e)))
    by on true e (inr more) = more
    by on false e (inl same) = or_left _ _ same
    by on false e (inr more) = or_right (nat_eq j x) _ (on more)

at_least : (n : ℕ) (xs : List ℕ) → ((k : ℕ) → suc k ≤ n → Has xs k) → n ≤ length xs
at_least zero xs all = omega arith
at_least (suc n) xs all =
    let has = all n (omega arith) in
    let rest = at_least n (without n xs) (λ k below. without_has n k xs (λ e. omega (arith, below, e)) (all k (omega (
      arith,
      below,
    )))) in
    let shorter = without_length n xs has in omega (arith, rest, shorter)

length_join : (xs ys : List ℕ) → length (xs ++ ys) ≡ length xs + length ys
length_join [] ys = omega arith
length_join (x ∷ xs) ys = let on = length_join xs ys in omega (arith, on)

differ : (n : ℕ) (before xs : List ℕ) → ((k : ℕ) → suc k ≤ n → Has (before ++ xs) k) → length (before ++ xs) ≡ n →
    IsTrue
    (are_distinct_numbers xs)
differ n before [] all e = refl
differ n before (x ∷ xs) all e =
    by (list_any (nat_eq x) xs) refl (differ n (before ++ x ∷ []) xs (λ k below. subst (λ ys. Has ys k) (sym
    (append_assoc
    before (x ∷ []) xs)) (all k below)) (ap length (append_assoc before (x ∷ []) xs) ∙ e))
  where
    still : Has xs x → (k : ℕ) → suc k ≤ n → Has (before ++ xs) k
    still again k below = case_ (has_cases before (x ∷ xs) k (all k below))
      where
        case_ : Has before k ⊎ Has (x ∷ xs) k → Has (before ++ xs) k
        case_ (inl h) = has_left before xs k h
        case_ (inr h) = either (or_cases (nat_eq k x) (list_any (nat_eq k) xs) h)
          where
            either : IsTrue (nat_eq k x) ⊎ Has xs k → Has (before ++ xs) k
            either (inl same) = has_right before xs k (subst (Has xs) (sym (eqb-true k x same)) again)
            either (inr h) = has_right before xs k h

    by : (b : Bool) → list_any (nat_eq x) xs ≡ b → IsTrue (are_distinct_numbers xs) → IsTrue (not b &&
        are_distinct_numbers xs)
    by true again on =
        let enough = at_least n (before ++ xs) (still again) in
        let a = length_join before xs in let b = length_join before (x ∷ xs) in absurd (omega (arith, enough, a, b, e))
    by false none on = on

-- ---- the fields that are given

abbrev somes : Given → List ℕ
somes [] = []
somes (None ∷ given) = somes given
somes (Some n ∷ given) = n ∷ somes given

given_has : (k : ℕ) (given : Given) → is_given k given ≡ list_any (nat_eq k) (somes given)
given_has k [] = refl
given_has k (None ∷ given) = given_has k given
given_has k (Some n ∷ given) = ap (λ b. nat_eq k n || b) (given_has k given)

all_have : (n : ℕ) (given : Given) → IsTrue (all_given n given) → (k : ℕ) → suc k ≤ n → Has (somes given) k
all_have zero given h k below = absurd (omega (arith, below))
all_have (suc n) given h k below =
    by (nat_eq k n) refl (subst IsTrue (given_has n given) (true_left (is_given n given) (all_given n given) h)) (λ
    less.
    all_have n given (true_right (is_given n given) (all_given n given) h) k less)
  where
    by : (b : Bool) → nat_eq k n ≡ b → Has (somes given) n → (suc k ≤ n → Has (somes given) k) → Has (somes given) k
    by true e has on = subst (Has (somes given)) (sym (eqb-true k n e)) has
    by false e has on = on (omega (arith, below, other e))
      where
        other : nat_eq k n ≡ false → k ≢ n
        other e same = true≢false (sym (subst (λ m. IsTrue (nat_eq k m)) same (same_self k)) ∙ e)

known_length : (given : Given) → IsTrue (are_known given) → length (somes given) ≡ length given
known_length [] h = refl
known_length (None ∷ given) h = absurd (let no_ : IsTrue false = h in cc)
known_length (Some n ∷ given) h = ap suc (known_length given h)

inits_numbers : (env : Env) (v : Variant) (w : TypingState) (fs : Fields) (given : Given) → IsTrue (are_known given) →
    AreInits env v w
    fs given → field_numbers fs ≡ somes given
inits_numbers env v w no_field [] h are = refl
inits_numbers env v w no_field (k ∷ given) h are = absurd are
inits_numbers env v w (a_field number value rest) [] h are = absurd are
inits_numbers env v w (a_field number value rest) (None ∷ given) h are = absurd (let no_ : IsTrue false = h in cc)
inits_numbers env v w (a_field number value rest) (Some n ∷ given) h are =
    let on = inits_numbers env v w rest given h are.1 in λ i. are.0.0 i ∷ on i

inits_hold : (env : Env) (v : Variant) (w : TypingState) (p : TypingSpot) → Stands env w p → (fs : Fields) (given : Given) → IsTrue
    (are_known given) → AreInits env v w fs given → Holds (made_fields (at_spot w.items env.answer p) v.fields fs)
inits_hold env v w p stands no_field [] h are = refl
inits_hold env v w p stands no_field (k ∷ given) h are = absurd are
inits_hold env v w p stands (a_field number value rest) [] h are = absurd are
inits_hold env v w p stands (a_field number value rest) (None ∷ given) h are = absurd (let no_ : IsTrue false = h in cc)
inits_hold env v w p stands (a_field number value rest) (Some n ∷ given) h are =
    let value_ = are.0.1.2 in (
      subst (λ o. Holds (some o (λ t. typed (at_spot w.items env.answer p) (Wanted t) value))) (sym (ap (slice_get
          v.fields)
          are.0.0 ∙ are.0.1.1)) (as_wanted (at_spot w.items env.answer p) are.0.1.0 value (value_.holds p stands)
          value_.fit),
      inits_hold env v w p stands rest given h are.1,
    )

pub struct_sound : (env : Env) (at : Pos) (adt variant : ℕ) (v : Variant) (fields : Check (Fields × Given)) →
    SoundInits env v
    fields → (expected : Option TyId) (s : TypingState) → variant_at s.items adt variant ≡ Some v → Knows env s → Gives s
    (IsTemporary env
    expected) (struct_row at adt variant v.fields fields expected s)
struct_sound env at adt variant v fields good expected s has k =
    with_ready λ all. after_number (bind (interned_sound (Ty.Adt adt) (numbered s) (adt_made s.items all adt)) λ ty t
    g d.
    bind (good t (knows_later env g (knows_number env k))) λ fs u h e.
    bind (fitted_gives env expected (a_node_of s.next_node at ty (tree.Make adt variant fs.0)) u refl) λ n x i f.
    obeyed Rule.T04 at (all_given (length v.fields) fs.1 && length fs.1 == length v.fields) _ λ counted.
    obeyed Rule.T12 at (are_known fs.1) _ λ known.
    passed_ends env expected x s.next_node at ty (tree.Make adt variant fs.0) n refl (λ w p. refl) f λ w ready l.
    let on = grows_trans h (grows_trans i l) in
    let are = e w (grows_trans i l) in
    let numbers = inits_numbers env v w fs.0 fs.1 known are in
    let as_many = known_length fs.1 known ∙ eqb-true (length fs.1) (length v.fields) (true_right (all_given (length
    v.fields)
    fs.1) _ counted) in (
      (Ty.Adt adt, d w on, tt),
      λ p stands.
          make_row (at_spot w.items env.answer p) ty s.next_node adt variant v fs.0 (d w on) (variant_later
          (grows_trans (grows_trans
          (grows_number s) g) on).items adt variant ∙ has)
          (and_true _ _ (subst (λ ns. IsTrue (are_distinct_numbers ns)) (sym numbers) (differ (length v.fields) []
          (somes fs.1)
          (all_have (length v.fields) fs.1 (true_left (all_given (length v.fields) fs.1) _ counted)) as_many)) (subst
          (λ m. IsTrue (m
          == length v.fields)) (sym (ap length numbers ∙ as_many)) (same_self (length v.fields))))
          (inits_hold env v w p stands fs.0 fs.1 known are),
    ))
