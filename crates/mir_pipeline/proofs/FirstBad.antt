-- The first body with a bad use, body by body.
use Rattle.std.proofs.Common.{◌≡◌, ◌<◌, ◌≤◌, ◌+◌, ℕ, Bool, true, false, List, [], length, Some, None, get_or, refl, sym, subst, arith, inl, inr, ltb-true, ltb-false}
use Rattle.std.specs.Prelude.{◌⊎◌, nat_lt, slice_get}
use Rattle.std.proofs.lemmas.Option.{slice_get-get_or, slice_get_within}
use Rattle.move_errors.specs.Reaches.{MeetsNone}
use Rattle.cfg_graph.specs.declared.graph.Body.{Body}
use Rattle.cfg_graph.specs.declared.graph.Graph.{Graph}
use Rattle.cfg_graph.specs.Moves.BadUses.{UseRule, U1, U2}
use Rattle.move_errors.specs.Refusal.{IsRefused, IsRefusal}
use Rattle.move_errors.specs.declared.errors.BadUse.{BadUse}
use Rattle.move_errors.specs.declared.errors.UseError.{UseError}
use Rattle.mir_pipeline.specs.Building.{HasFirstBad}
use Rattle.mir_pipeline.specs.Graphs.{IsFirstBad, UsesStand}

-- no body before this number meets a bad use
abbrev pub StandsBefore : Graph → ℕ → Type 0
StandsBefore graph number = (n : ℕ) (body : Body) → n < number → slice_get graph.bodies n ≡ Some body → MeetsNone graph.items body

below_or_same : (n m : ℕ) → n < m + 1 → (n < m) ⊎ (n ≡ m)
below_or_same n m h = go (nat_lt n m) refl
  where
    go : (b : Bool) → nat_lt n m ≡ b → (n < m) ⊎ (n ≡ m)
    go true e = inl (ltb-true n m e)
    go false e = inr (let past = ltb-false n m e in omega (arith, past, h))

one_more_by : (graph : Graph) (number : ℕ) → StandsBefore graph number →
    ((found : Body) → slice_get graph.bodies number ≡ Some found → MeetsNone graph.items found) →
    (n : ℕ) (body : Body) → (n < number) ⊎ (n ≡ number) → slice_get graph.bodies n ≡ Some body → MeetsNone graph.items body
one_more_by graph number before own n body (inl less) there = before n body less there
one_more_by graph number before own n body (inr same) there = own body (subst (λ (k : ℕ). slice_get graph.bodies k ≡ Some body) same there)

pub one_more : (graph : Graph) (number : ℕ) → StandsBefore graph number →
    ((found : Body) → slice_get graph.bodies number ≡ Some found → MeetsNone graph.items found) → StandsBefore graph (number + 1)
one_more graph number before own n body less there = one_more_by graph number before own n body (below_or_same n number less) there

pub all_stand : (graph : Graph) (number : ℕ) → length graph.bodies ≤ number → StandsBefore graph number → UsesStand graph
all_stand graph number whole before n body there =
    let within = slice_get_within graph.bodies n body there in
    before n body (omega (arith, within, whole)) there

first_refused : (graph : Graph) (number : ℕ) (body : Body) (rule : UseRule) (bad : BadUse) → slice_get graph.bodies number ≡ Some body → StandsBefore graph number →
    IsRefused graph.items body number rule bad → IsFirstBad graph rule bad
first_refused graph number body rule bad there before refused =
    let same = sym refused.body_is in
    record {
      body = body;
      there = subst (λ (n : ℕ). slice_get graph.bodies n ≡ Some body) same there;
      refused = subst (λ (n : ℕ). IsRefused graph.items body n rule bad) same refused;
      first = λ n earlier less. before n earlier (subst (λ (m : ℕ). n < m) refused.body_is less);
    }

by_body : (graph : Graph) (number : ℕ) (body : Body) (error : UseError) → slice_get graph.bodies number ≡ Some body → StandsBefore graph number →
    IsRefusal graph.items body number error → HasFirstBad graph error
by_body graph number body (UseError.U1 bad) there before refused = first_refused graph number body U1 bad there before refused
by_body graph number body (UseError.U2 bad) there before refused = first_refused graph number body U2 bad there before refused
by_body graph number body UseError.Memory there before refused = tt

abbrev some_body : Body
some_body = record { params = 0; locals = []; blocks = [] }

pub is_first : (graph : Graph) (number : ℕ) (error : UseError) → number < length graph.bodies → StandsBefore graph number →
    ((found : Body) → slice_get graph.bodies number ≡ Some found → IsRefusal graph.items found number error) → HasFirstBad graph error
is_first graph number error within before refused =
    by_body graph number (get_or graph.bodies number some_body) error (slice_get-get_or graph.bodies number some_body within) before
    (refused (get_or graph.bodies number some_body) (slice_get-get_or graph.bodies number some_body within))
