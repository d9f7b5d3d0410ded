-- What is known of types by the table's own lists of truth values.
use Rattle.std.proofs.Common.{◌≡◌, ℕ, ◌+◌, ◌<◌, ◌≤◌, Bool, true, false, not, cond, ◌&&◌, List, [], ◌∷◌, ◌++◌, length, slice_get, set, get_or, count_by, Some, All, Contains, MatchBool, ◌⊎◌, inl, inr, refl, sym, ap, subst, ◌∙◌, arith}
use Rattle.std.specs.Bool.{⊤}
use Rattle.std.proofs.lemmas.Bool.{false≢true, cases_eq, cases_order, and_parts, not-true}
use Rattle.std.proofs.lemmas.List.{length-set, get_or-set_other, get_or_append_left, get_or_push, get_or_past, length_push}
use Rattle.std.proofs.lemmas.List.Sums.{sum_by-set}
use Rattle.std.proofs.lemmas.Option.{slice_get_within, same_Some}
use Rattle.mir_ty.specs.declared.ty.Ty.{Ty}
use Rattle.mir_ty.specs.declared.ty.TyId.{TyId}
use Rattle.mir_ty.specs.Facts.{Rule, by_rule}
use Rattle.mir_ty.specs.AreItems.{types_in, AreDistinct}
use Rattle.mir_ty.specs.Known.{known_by, IsShown, IsSettledAt, IsBehindAt, IsAllShown}
use Rattle.mir_ty.proofs.ListLemmas.{slice_get-append_left, slice_get-last, slice_get-push_cases, All-slice_get, Contains-slice_get}
use Rattle.mir_ty.proofs.FixedPoint.{IsWithin, IsGrowing, ShowsNoLess, in_rounds-least, by_rule-settled, by_rule-wider}
use Rattle.mir_ty.proofs.Rules.{AgreeBelow, AreBelow, AsksBelow}

bool_same : (a b : Bool) → (a ≡ true → b ≡ true) → (b ≡ true → a ≡ true) → a ≡ b
bool_same true b ab ba = sym (ab refl)
bool_same false true ab ba = ba refl
bool_same false false ab ba = refl

module _ (types : List Ty) (rule : Rule) (growing : IsGrowing rule) where
  -- where nothing is known too early and nothing is left, all is known
  pub all_shown : (known : List Bool) → IsShown types rule known → ((id : TyId) → IsSettledAt types rule known id) → IsAllShown types rule known
  all_shown known shown settled id = bool_same _ _ (shown id) (in_rounds-least types rule growing (known_by known) settled (length types) id)

  pub shown_from_all : (known : List Bool) → IsAllShown types rule known → IsShown types rule known
  shown_from_all known all id h = sym (all id) ∙ h

  pub settled_from_all : (known : List Bool) → IsAllShown types rule known → (id : TyId) → IsSettledAt types rule known id
  settled_from_all known all id ty is h =
      all id ∙ by_rule-settled types rule growing id ty is (growing.grows _ _ (shown_from_all known all) ty h)

  -- what the rule shows may be noted
  pub shown_noted : (known : List Bool) (n : ℕ) (ty : Ty) → IsShown types rule known → slice_get types n ≡ Some ty → rule (known_by known) ty ≡ true → IsShown types rule (set known n true)
  shown_noted known n ty shown is h id k = by (cases_eq id.0 n)
    where
      by : (id.0 ≡ n) ⊎ (id.0 ≡ n → ⊥) → by_rule types rule id ≡ true
      by (inl same) = by_rule-settled types rule growing id ty (ap (slice_get types) same ∙ is) (growing.grows _ _ shown ty h)
      by (inr other) = shown id (sym (get_or-set_other known n id.0 true false other) ∙ k)

-- with a rule that shows no less, nothing is known too early
module _ (types : List Ty) (rule rule' : Rule) (growing : IsGrowing rule) (growing' : IsGrowing rule') (wider : ShowsNoLess rule rule') where
  pub shown_wider : (known : List Bool) → IsShown types rule known → IsShown types rule' known
  shown_wider known shown id h = by_rule-wider types types rule rule' growing growing' (λ _ _ e. e) wider id (shown id h)

  -- and where it shows the same of the types of the table, all is known
  pub all_unchanged : (known : List Bool) → ((id : TyId) (P : TyId → Bool) (ty : Ty) → slice_get types id.0 ≡ Some ty → rule' P ty ≡ rule P ty)
      → IsAllShown types rule known → IsAllShown types rule' known
  all_unchanged known same all =
      all_shown types rule' growing' known (shown_wider known (shown_from_all types rule growing known all))
      (λ id ty is h. settled_from_all types rule growing known all id ty is (sym (same id _ ty is) ∙ h))

-- one more type, of which is noted what the rule shows
module _ (types : List Ty) (rule : Rule) (growing : IsGrowing rule) (known : List Bool) (ty : Ty) (asks : AsksBelow (length types) rule) where
  abbrev types' : List Ty
  types' = types ++ ty ∷ []

  abbrev known' : List Bool
  known' = known ++ rule (known_by known) ty ∷ []

  agree : length known ≡ length types → AgreeBelow (length types) (known_by known') (known_by known)
  agree long id below = get_or_append_left known (rule (known_by known) ty ∷ []) false id.0 (omega arith)

  wider : IsWithin (by_rule types rule) (by_rule types' rule)
  wider = by_rule-wider types types' rule rule growing growing (λ id t is. slice_get-append_left types (ty ∷ []) id.0 t is) (λ _ _ e. e)

  within : IsAllShown types rule known → IsWithin (known_by known) (by_rule types' rule)
  within all id h = wider id (sym (all id) ∙ h)

  shown_more : length known ≡ length types → IsAllShown types rule known → IsShown types' rule known'
  shown_more long all id h = by (cases_order id.0 (length types))
    where
      by : (id.0 ≡ length types) ⊎ ((id.0 < length types) ⊎ (length types < id.0)) → by_rule types' rule id ≡ true
      by (inl same) =
          let is : slice_get types' id.0 ≡ Some ty = ap (slice_get types') same ∙ slice_get-last types ty in
          let shows : rule (known_by known) ty ≡ true = sym (get_or_push known (rule (known_by known) ty) false id.0 (omega arith)) ∙ h in
          by_rule-settled types' rule growing id ty is (growing.grows _ _ (within all) ty shows)
      by (inr (inl less)) = within all id (sym (agree long id less) ∙ h)
      by (inr (inr more)) = absurd (false≢true (sym (get_or_past known' id.0 false (omega (arith, length_push known (rule (known_by known) ty)))) ∙ h))

  settled_more : length known ≡ length types → All (λ t. AreBelow (length types) (types_in t)) types → AreBelow (length types) (types_in ty)
      → IsAllShown types rule known → (id : TyId) → IsSettledAt types' rule known' id
  settled_more long below here all id t is h = by (slice_get-push_cases types ty id.0 t is)
    where
      by : (slice_get types id.0 ≡ Some t) ⊎ ((id.0 ≡ length types) × (ty ≡ t)) → known_by known' id ≡ true
      by (inl old) =
          let shows : rule (known_by known) t ≡ true = sym (asks.asks _ _ (agree long) t (All-slice_get (λ t. AreBelow (length types) (types_in t)) types id.0 t below old)) ∙ h in
          agree long id (slice_get_within types id.0 t old) ∙ settled_from_all types rule growing known all id t old shows
      by (inr new) =
          let shows : rule (known_by known) ty ≡ true = sym (asks.asks _ _ (agree long) ty here) ∙ subst (λ t. rule (known_by known') t ≡ true) (sym new.1) h in
          get_or_push known (rule (known_by known) ty) false id.0 (omega arith) ∙ shows

  pub all_more : length known ≡ length types → All (λ t. AreBelow (length types) (types_in t)) types → AreBelow (length types) (types_in ty)
      → IsAllShown types rule known → IsAllShown types' rule known'
  all_more long below here all = all_shown types' rule growing known' (shown_more long all) (settled_more long below here all)

-- how far a round over the types has come, which goes from the last to the first, from what was known before it
pub record IsNoting (types : List Ty) (rule : Rule) (before known : List Bool) (noted : Bool) (n : ℕ) : Type 0 where
  pub long : length known ≡ length types
  pub shown : IsShown types rule known
  pub more : count_by not known + cond noted 1 0 ≤ count_by not before
  pub settled : noted ≡ false → (id : TyId) → n ≤ id.0 → IsSettledAt types rule known id

-- a type noted is one fewer of which it is not known
count_by-noted : (known : List Bool) (n : ℕ) → n < length known → get_or known n false ≡ false → count_by not (set known n true) + 1 ≡ count_by not known
count_by-noted known n below was =
    let set_at = sum_by-set (λ b. cond (not b) 1 0) known n true false below in
    let one : ◌≡◌ {A = ℕ} (cond (not (get_or known n false)) 1 0) 1 = ap (λ b. cond (not b) 1 0) was in
    omega (arith, set_at, one)

known_else : (a b : Bool) → (not a && b) ≡ false → b ≡ true → a ≡ true
known_else true b none shows = refl
known_else false b none shows = absurd (false≢true (sym none ∙ shows))

module _ (types : List Ty) (rule : Rule) (growing : IsGrowing rule) (before known : List Bool) (noted : Bool) (n m : ℕ) (next : m ≡ n + 1) (ty : Ty) (at : slice_get types n ≡ Some ty) where
  pub noting_yes : (not (get_or known n false) && rule (known_by known) ty) ≡ true → IsNoting types rule before known noted m → IsNoting types rule before (set known n true) true n
  noting_yes news r =
      let p = and_parts (not (get_or known n false)) (rule (known_by known) ty) news in
      let fewer = count_by-noted known n (omega (arith, r.long, slice_get_within types n ty at)) (not-true (get_or known n false) p.0) in
      record {
        long = length-set known n true ∙ r.long;
        shown = shown_noted types rule growing known n ty r.shown at p.1;
        more = omega (arith, r.more, fewer);
        settled = λ e. absurd (false≢true (sym e));
      }

  pub noting_no : (not (get_or known n false) && rule (known_by known) ty) ≡ false → IsNoting types rule before known noted m → IsNoting types rule before known noted n
  noting_no none r = record {
    long = r.long;
    shown = r.shown;
    more = r.more;
    settled = λ e id below t is h. by e id t is h (cases_eq id.0 n) below;
  }
    where
      by : noted ≡ false → (id : TyId) (t : Ty) → slice_get types id.0 ≡ Some t → rule (known_by known) t ≡ true → (id.0 ≡ n) ⊎ (id.0 ≡ n → ⊥) → n ≤ id.0 → known_by known id ≡ true
      by e id t is h (inr other) below = r.settled e id (omega arith) t is h
      by e id t is h (inl same) below =
          let the_type : t ≡ ty = same_Some t ty (sym is ∙ ap (slice_get types) same ∙ at) in
          let shows : rule (known_by known) ty ≡ true = subst (λ t. rule (known_by known) t ≡ true) the_type h in
          ap (λ k. get_or known k false) same ∙ known_else (get_or known n false) (rule (known_by known) ty) none shows

-- where it begins a round
pub noting_first : (types : List Ty) (rule : Rule) (known : List Bool) → length known ≡ length types → IsShown types rule known → IsNoting types rule known known false (length types)
noting_first types rule known long shown =
    record { long = long; shown = shown; more = omega arith; settled = λ _ id past ty is. absurd (omega (arith, slice_get_within types id.0 ty is)) }

-- where it ends one
pub noting_last : (types : List Ty) (rule : Rule) (before known : List Bool) (noted : Bool) → IsNoting types rule before known noted 0
    → MatchBool noted ⊤ ((id : TyId) → IsSettledAt types rule known id)
noting_last types rule before known true r = tt
noting_last types rule before known false r = λ id. r.settled refl id (omega arith)

-- where the one type that may be behind is none of the table, none is
pub all_behind : (types : List Ty) (rule : Rule) (growing : IsGrowing rule) (known : List Bool) (added : Ty) → IsBehindAt types rule known added → ¬ Contains types added → IsAllShown types rule known
all_behind types rule growing known added behind absent =
    all_shown types rule growing known behind.shown
    (λ id ty is h. behind.settled id ty is (λ same. absent (Contains-slice_get types id.0 added (is ∙ ap Some same))) h)

-- and where the rule shows no more of that one, neither
pub all_caught_up : (types : List Ty) (rule : Rule) (growing : IsGrowing rule) (known : List Bool) (added : Ty) (n : ℕ) → AreDistinct types → slice_get types n ≡ Some added
    → (not (get_or known n false) && rule (known_by known) added) ≡ false → IsBehindAt types rule known added → IsAllShown types rule known
all_caught_up types rule growing known added n distinct at none behind =
    all_shown types rule growing known behind.shown (λ id ty is h. by id ty is h (cases_eq id.0 n))
  where
    by : (id : TyId) (ty : Ty) → slice_get types id.0 ≡ Some ty → rule (known_by known) ty ≡ true → (id.0 ≡ n) ⊎ (id.0 ≡ n → ⊥) → known_by known id ≡ true
    by id ty is h (inr other) = behind.settled id ty is (λ same. other (distinct id.0 n added (is ∙ ap Some same) at)) h
    by id ty is h (inl same) =
        let the_type : ty ≡ added = same_Some ty added (sym is ∙ ap (slice_get types) same ∙ at) in
        let shows : rule (known_by known) added ≡ true = subst (λ t. rule (known_by known) t ≡ true) the_type h in
        ap (λ k. get_or known k false) same ∙ known_else (get_or known n false) (rule (known_by known) added) none shows
