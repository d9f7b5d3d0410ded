-- From effects to runs: where the effects on values follow effects that check what they do, and no list of choices
-- makes the checks complain or comes to a refused use, a run goes on or panics with what is known then, or it ends
-- as a run may at any point (no tick, a second panic). It never halts by a missing step.
use Rattle.std.proofs.Common.{◌≡◌, ℕ, Bool, true, false, List, [], ◌++◌, sym, ◌∙◌, subst}
use Rattle.mir_ty.specs.ItemTable.{ItemTable}
use Rattle.store_model.specs.Effects.{Halt, Aborted, OutOfTicks, Stuck, StuckAt, BadUse, BadStore, NoChoice, Infeasible, Unreachable, Out, Go, Unwind, Halts, Effects}
use Rattle.store_model.proofs.Effects.Following.{Relation, FollowsOut, goes_on, unwinds, halts, lapsed, outlived, refused, FollowsEffects, one_bound}
use Rattle.soundness_values.proofs.Feeding.{Refuses, fed}
use Rattle.src_meaning.proofs.ProgramsFollow.{activation_follow}
use Rattle.src_meaning.proofs.RunLaws.{located}
use Rattle.src_meaning.specs.Locals.Effects.{at_locals}
use Rattle.src_meaning.specs.Programs.{activation}
use Rattle.typed_tree.specs.Tree.{BodyTree}

-- a run may end at any point by a second panic, or for want of a tick
abbrev pub MayEnd : Halt → Type 0
MayEnd Aborted = Unit {0}
MayEnd OutOfTicks = Unit {0}
MayEnd halt = ⊥

-- What is shown of the second run alone, for every list of choices: what holds where it goes on and where it panics.
-- It never halts by a missing step, nor by a refused use where its list is taken to the end; where it halts by its
-- list its state shows that. The fuel for turns may end it.
abbrev pub ShowsHalt : {V : Type 0} → (V → Bool) → (V → List Bool) → Halt → V → Type 0
ShowsHalt lost choices Aborted v = Unit {0}
ShowsHalt lost choices OutOfTicks v = Unit {0}
ShowsHalt lost choices Stuck v = ⊥
ShowsHalt lost choices (StuckAt body block) v = ⊥
ShowsHalt lost choices (BadUse site) v = choices v ≡ [] → ⊥
ShowsHalt lost choices (BadStore site) v = choices v ≡ [] → ⊥
ShowsHalt lost choices NoChoice v = lost v ≡ true
ShowsHalt lost choices Infeasible v = lost v ≡ true
ShowsHalt lost choices Unreachable v = lost v ≡ true

abbrev pub Shows : {V : Type 0} → (V → Bool) → (V → List Bool) → (V → Type 0) → (V → Type 0) → Out V → Type 0
Shows lost choices returned panicked (Go v) = returned v
Shows lost choices returned panicked (Unwind v) = panicked v
Shows lost choices returned panicked (Halts halt v) = ShowsHalt lost choices halt v

-- how a run on values ends
pub data Ends {W : Type 0} (K : Type 0) (related : W → K → Type 0) (lapses : Halt → W → Type 0)
    (returned panicked : K → Type 0) : Out W → Type 0 where
  goes : (w : W) (c : K) → related w c → returned c → Ends K related lapses returned panicked (Go w)
  panics : (w : W) (c : K) → related w c → panicked c → Ends K related lapses returned panicked (Unwind w)
  ends : (halt : Halt) (w : W) → lapses halt w → Ends K related lapses returned panicked (Halts halt w)
  stops : (halt : Halt) (w : W) (c : K) → MayEnd halt → related w c → Ends K related lapses returned panicked
      (Halts halt w)

module _ {W V : Type 0} (K : Type 0) (feed : List Bool → K → V) (related : W → K → Type 0)
    (lapses : Halt → W → Type 0)
    (lost : V → Bool) (never_lost : (list : List Bool) (c : K) → lost (feed list c) ≡ false)
    (choices : V → List Bool)
    (all_taken : (c : K) → choices (feed [] c) ≡ [])
    (returned panicked : V → Type 0) where
  abbrev F : Relation W V
  F = fed K feed related lapses

  abbrev E : Out W → Type 0
  E = Ends K related lapses (λ c. returned (feed [] c)) (λ c. panicked (feed [] c))

  not_lost : {A : Type 0} (c : K) → lost (feed [] c) ≡ true → A
  not_lost c e = absurd (let never : false ≡ true = sym (never_lost [] c) ∙ e in let no : ⊥ = cc in no)

  no_refusal : (halt : Halt) (c : K) → Refuses halt → ShowsHalt lost choices halt (feed [] c) → ⊥
  no_refusal Aborted c r s = r
  no_refusal OutOfTicks c r s = r
  no_refusal Stuck c r s = s
  no_refusal (StuckAt body block) c r s = s
  no_refusal (BadUse site) c r s = s (all_taken c)
  no_refusal (BadStore site) c r s = s (all_taken c)
  no_refusal NoChoice c r s = r
  no_refusal Infeasible c r s = r
  no_refusal Unreachable c r s = r

  as_known : (halt : Halt) (w : W) (c : K) → related w c → ShowsHalt lost choices halt (feed [] c) → E (Halts halt w)
  as_known Aborted w c k s = stops Aborted w c tt k
  as_known OutOfTicks w c k s = stops OutOfTicks w c tt k
  as_known Stuck w c k s = absurd s
  as_known (StuckAt body block) w c k s = absurd s
  as_known (BadUse site) w c k s = absurd (s (all_taken c))
  as_known (BadStore site) w c k s = absurd (s (all_taken c))
  as_known NoChoice w c k s = not_lost c s
  as_known Infeasible w c k s = not_lost c s
  as_known Unreachable w c k s = not_lost c s

  pub ends_of : {n : Unit {0}} {o : Out W} {g : List Bool → Out V} → FollowsOut F n o g →
      ((list : List Bool) → Shows lost choices returned panicked (g list)) → E o
  ends_of (goes_on n w c l g k d) s = goes w c k (subst (Shows lost choices returned panicked) (d []) (s (l ++ [])))
  ends_of (unwinds n w c l g k d) s =
      panics w c k (subst (Shows lost choices returned panicked) (d []) (s (l ++ [])))
  ends_of (halts n halt w c l g k d) s =
      as_known halt w c k (subst (Shows lost choices returned panicked) (d []) (s (l ++ [])))
  ends_of (lapsed n halt w g k) s = ends halt w k
  ends_of (outlived n halt w later shadow g k d) s = absurd k
  ends_of (refused n o halt c l g k d) s =
      absurd (no_refusal halt c k (subst (Shows lost choices returned panicked) (d []) (s (l ++ []))))

  -- a run of a body
  pub body_ends : (items : ItemTable) (local_of : ℕ → ℕ) (p : Effects W) (q : Effects V) → FollowsEffects F p q →
      (fuel : ℕ) (body : BodyTree) (w : W) (c : K) → related w c →
      ((list : List Bool) → Shows lost choices returned panicked
      (activation items (at_locals local_of q) fuel body (feed list c))) →
      E (activation items (at_locals local_of p) fuel body w)
  body_ends items local_of p q follow fuel body w c k s =
      ends_of (activation_follow F items (at_locals local_of p) (at_locals local_of q)
      (located F local_of p q follow)
      fuel fuel (one_bound fuel) body tt w c k) s
