-- A round over the types, from the first to the last, in which is noted of which a rule shows something.
use Rattle.std.proofs.Common.{◌≡◌, ℕ, ◌+◌, ◌<◌, ◌≤◌, Bool, true, false, not, cond, ◌&&◌, List, length, slice_get, set, get_or, count_by, Some, MatchBool, ◌⊎◌, inl, inr, refl, sym, ap, subst, ◌∙◌, arith}
use Rattle.std.specs.Bool.{⊤}
use Rattle.std.proofs.lemmas.Bool.{false≢true, cases_eq, and_parts, not-true}
use Rattle.std.proofs.lemmas.List.{length-set}
use Rattle.std.proofs.lemmas.List.Sums.{sum_by-set}
use Rattle.std.proofs.lemmas.Option.{slice_get_within, same_Some}
use Rattle.mir_ty.specs.declared.ty.Ty.{Ty}
use Rattle.mir_ty.specs.declared.ty.TyId.{TyId}
use Rattle.mir_ty.specs.Facts.{Rule}
use Rattle.mir_ty.specs.Known.{known_by, IsShown, IsSettledAt}
use Rattle.mir_ty.proofs.FixedPoint.{IsGrowing}
use Rattle.mir_ty.proofs.KnownLemmas.{shown_noted}

-- how far a round has come from what was known before it
pub record IsNoting (types : List Ty) (rule : Rule) (before known : List Bool) (noted : Bool) (n : ℕ) : Type 0 where
  pub long : length known ≡ length types
  pub shown : IsShown types rule known
  pub more : count_by not known + cond noted 1 0 ≤ count_by not before
  pub settled : noted ≡ false → (id : TyId) → id.0 < n → IsSettledAt types rule known id

-- a type noted is one fewer of which it is not known
count_by-noted : (known : List Bool) (n : ℕ) → n < length known → get_or known n false ≡ false → count_by not (set known n true) + 1 ≡ count_by not known
count_by-noted known n below was =
    let set_at = sum_by-set (λ b. cond (not b) 1 0) known n true false below in
    let one : ◌≡◌ {A = ℕ} (cond (not (get_or known n false)) 1 0) 1 = ap (λ b. cond (not b) 1 0) was in
    omega (arith, set_at, one)

known_else : (a b : Bool) → (not a && b) ≡ false → b ≡ true → a ≡ true
known_else true b none shows = refl
known_else false b none shows = absurd (false≢true (sym none ∙ shows))

module _ (types : List Ty) (rule : Rule) (growing : IsGrowing rule) (before known : List Bool) (noted : Bool) (n : ℕ) (ty : Ty) (at : slice_get types n ≡ Some ty) where
  pub noting_yes : (not (get_or known n false) && rule (known_by known) ty) ≡ true → IsNoting types rule before known noted n → IsNoting types rule before (set known n true) true (n + 1)
  noting_yes news r =
      let p = and_parts (not (get_or known n false)) (rule (known_by known) ty) news in
      let fewer = count_by-noted known n (omega (arith, r.long, slice_get_within types n ty at)) (not-true (get_or known n false) p.0) in
      record {
        long = length-set known n true ∙ r.long;
        shown = shown_noted types rule growing known n ty r.shown at p.1;
        more = omega (arith, r.more, fewer);
        settled = λ e. absurd (false≢true (sym e));
      }

  pub noting_no : (not (get_or known n false) && rule (known_by known) ty) ≡ false → IsNoting types rule before known noted n → IsNoting types rule before known noted (n + 1)
  noting_no none r = record {
    long = r.long;
    shown = r.shown;
    more = r.more;
    settled = λ e id below t is h. by e id t is h (cases_eq id.0 n) below;
  }
    where
      by : noted ≡ false → (id : TyId) (t : Ty) → slice_get types id.0 ≡ Some t → rule (known_by known) t ≡ true → (id.0 ≡ n) ⊎ (id.0 ≡ n → ⊥) → id.0 < n + 1 → known_by known id ≡ true
      by e id t is h (inr other) below = r.settled e id (omega arith) t is h
      by e id t is h (inl same) below =
          let the_type : t ≡ ty = same_Some t ty (sym is ∙ ap (slice_get types) same ∙ at) in
          let shows : rule (known_by known) ty ≡ true = subst (λ t. rule (known_by known) t ≡ true) the_type h in
          ap (λ k. get_or known k false) same ∙ known_else (get_or known n false) (rule (known_by known) ty) none shows

-- where it begins a round
pub noting_first : (types : List Ty) (rule : Rule) (known : List Bool) → length known ≡ length types → IsShown types rule known → IsNoting types rule known known false 0
noting_first types rule known long shown = record { long = long; shown = shown; more = omega arith; settled = λ _ id below. absurd (omega arith) }

-- where it ends one
pub noting_last : (types : List Ty) (rule : Rule) (before known : List Bool) (noted : Bool) (n : ℕ) → length types ≤ n → IsNoting types rule before known noted n
    → MatchBool noted ⊤ ((id : TyId) → IsSettledAt types rule known id)
noting_last types rule before known true n end r = tt
noting_last types rule before known false n end r = λ id ty is. r.settled refl id (omega (arith, slice_get_within types id.0 ty is)) ty is
