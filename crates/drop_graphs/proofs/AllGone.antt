-- What may be gone in each body of a graph, and what is planned of each, body by body.
use Rattle.std.proofs.Common.{◌≡◌, ◌⊎◌, inl, inr, ◌∙◌, ◌∷◌, [], ◌++◌, ◌+◌, ◌≤◌, ℕ, List, Some, length, slice_get, refl, sym, ap, subst, arith}
use Rattle.std.proofs.lemmas.List.{length_push}
use Rattle.std.proofs.lemmas.Option.{none-some}
use Rattle.mir_ty.proofs.ListLemmas.{slice_get-push_cases}
use Rattle.mir_ty.specs.ItemTable.{ItemTable}
use Rattle.cfg_graph.specs.declared.graph.Body.{Body}
use Rattle.cfg_graph.specs.declared.graph.Graph.{Graph}
use Rattle.drop_plans.specs.Analysed.{IsGone}
use Rattle.drop_plans.specs.declared.analyses.Gone.{Gone}
use Rattle.drop_bodies.specs.Planning.{IsPlanned}
use Rattle.drop_bodies.specs.declared.body.PlannedBody.{PlannedBody}
use Rattle.drop_graphs.specs.GoneIn.{AreGoneIn, ArePlanned}

-- of the first bodies, so many, there is one of these each, of which this holds
pub record AreTo {X : Type 0} (P : ItemTable → Body → X → Type 0) (graph : Graph) (count : ℕ) (xs : List X) : Type 0 where
  pub long : length xs ≡ count
  pub each : (n : ℕ) (body : Body) (x : X) → slice_get graph.bodies n ≡ Some body → slice_get xs n ≡ Some x →
      P graph.items body x

module _ {X : Type 0} (P : ItemTable → Body → X → Type 0) (graph : Graph) where
  pub none-to : AreTo P graph 0 []
  none-to = record { long = refl; each = λ n body x at there. absurd (none-some x there) }

  pub one-more-to : (count : ℕ) (xs : List X) → AreTo P graph count xs → (last : X) →
      ((found : Body) → slice_get graph.bodies count ≡ Some found → P graph.items found last) →
      AreTo P graph (count + 1) (xs ++ last ∷ [])
  one-more-to count xs are last own = record {
    long = (let l = length_push xs last in let s = are.long in omega (l, s, arith));
    each = λ n body x at there. by n body x at (slice_get-push_cases xs last n x there);
  }
    where
      by : (n : ℕ) (body : Body) (x : X) → slice_get graph.bodies n ≡ Some body →
          (slice_get xs n ≡ Some x) ⊎ ((n ≡ length xs) × (last ≡ x)) → P graph.items body x
      by n body x at (inl before) = are.each n body x at before
      by n body x at (inr here) =
          subst (P graph.items body) here.1 (own body (ap (slice_get graph.bodies) (sym (here.0 ∙ are.long)) ∙ at))

abbrev pub AreGoneTo : Graph → ℕ → List Gone → Type 0
AreGoneTo = AreTo IsGone

abbrev pub ArePlannedTo : Graph → ℕ → List PlannedBody → Type 0
ArePlannedTo = AreTo IsPlanned

pub none-gone : (graph : Graph) → AreGoneTo graph 0 []
none-gone graph = none-to IsGone graph

pub one-more-gone : (graph : Graph) (count : ℕ) (gone : List Gone) → AreGoneTo graph count gone → (last : Gone) →
    ((found : Body) → slice_get graph.bodies count ≡ Some found → IsGone graph.items found last) →
    AreGoneTo graph (count + 1) (gone ++ last ∷ [])
one-more-gone graph = one-more-to IsGone graph

pub all-gone : (graph : Graph) (count : ℕ) (gone : List Gone) → length graph.bodies ≤ count → count ≤ length graph.bodies →
    AreGoneTo graph count gone → AreGoneIn graph gone
all-gone graph count gone low high are = record {
  long = (let l = are.long in omega (l, low, high, arith));
  each = are.each;
}

pub all-planned : (graph : Graph) (count : ℕ) (plans : List PlannedBody) → count ≡ length graph.bodies →
    ArePlannedTo graph count plans → ArePlanned graph plans
all-planned graph count plans all are = record { long = are.long ∙ all; each = are.each }
