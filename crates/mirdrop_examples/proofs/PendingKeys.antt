-- Which destinations are pending in a tree of one new scope, and once one was added.
use Rattle.std.proofs.Common.{◌≡◌, ◌∙◌, ◌∷◌, [], ◌++◌, ℕ, zero, suc, List, Some, slice_get, refl, sym, ap}
use Rattle.std.proofs.lemmas.Option.{none-some, same_Some}
use Rattle.mir_base.specs.declared.place_in_text.Key.{Key}
use Rattle.unwind_tree.specs.Trees.{OpenScope, a_scope, changed_at, with_pending, IsPending}
use Rattle.unwind_tree.specs.declared.scope.Pending.{Pending}

pub one-scope : (old new : List OpenScope) → old ≡ [] → new ≡ old ++ a_scope ∷ [] → new ≡ a_scope ∷ []
one-scope old new none entered = entered ∙ ap (λ l. l ++ a_scope ∷ []) none

-- in a new scope nothing is pending
pub none-pending : (key : Key) (scopes : List OpenScope) → scopes ≡ a_scope ∷ [] → IsPending key scopes → ⊥
none-pending key scopes is pending =
    by pending.number (ap (λ l. slice_get l pending.number) (sym is) ∙ pending.is_in.there) pending.before pending.is_in.pending
  where
    none : (before : List Pending) → [] ≡ before ++ pending.destination ∷ pending.behind → ⊥
    none [] e = absurd (let never : [] ≡ pending.destination ∷ pending.behind = e in cc)
    none (x ∷ before) e = absurd (let never : [] ≡ x ∷ (before ++ pending.destination ∷ pending.behind) = e in cc)

    by : (n : ℕ) → slice_get (a_scope ∷ []) n ≡ Some pending.is_in.scope → (before : List Pending) →
        pending.is_in.scope.pending ≡ before ++ pending.destination ∷ pending.behind → ⊥
    by zero there before e =
        none before (ap (λ (scope : OpenScope). scope.pending) (same_Some a_scope pending.is_in.scope there) ∙ e)
    by (suc n) there before e = none-some pending.is_in.scope there

-- a destination that was added to it is
pub one-pending : (destination : Pending) (before after : List OpenScope) → before ≡ a_scope ∷ [] →
    after ≡ changed_at 0 (with_pending destination) before → IsPending destination.scheduled.key after
one-pending destination before after is added = record {
  number = 0;
  destination = destination;
  before = [];
  behind = [];
  has_key = refl;
  is_in = record {
    scope = with_pending destination a_scope;
    there = ap (λ l. slice_get l 0) (added ∙ ap (changed_at 0 (with_pending destination)) is);
    pending = refl;
  };
}
