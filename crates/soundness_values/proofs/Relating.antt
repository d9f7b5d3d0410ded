-- The relation of a run on values with a checked free run, whatever it says of two states; and how what follows a free
-- run follows a checked one whose test holds: the facts may be others where it panics.
use Rattle.std.proofs.Common.{◌≡◌, ℕ, Bool, true, false, List, [], ◌++◌, refl, ap}
use Rattle.store_model.proofs.Effects.Following.{Relation}
use Rattle.store_model.specs.declared.address.Addr.{Addr}
use Rattle.store_model.specs.Effects.{Halt, Aborted, OutOfTicks, Stuck, BadUse, BadStore, Out, Go, Unwind, Halts, Choice, Yes, No, Neither}
use Rattle.store_model.specs.Abstract.Effects.{AbstractState}
use Rattle.store_model.specs.Abstract.Presence.{Presence}
use Rattle.store_model.specs.Concrete.Location.{Setting}
use Rattle.store_model.specs.Concrete.State.{State}
use Rattle.soundness_values.proofs.Doing.{FollowsOut, goes_on, unwinds, lapsed, refused, FollowsChoice, takes, declines, lapsed_choice, refused_choice}
use Rattle.soundness_values.proofs.Checked.{Checking, with_facts, chosen_with, if_ok, chosen_if_ok}
use Rattle.soundness_values.proofs.Dropped.{Lapses, feeding}
use Rattle.soundness_values.proofs.Facts.{Facts}
use Rattle.soundness_values.proofs.Feeding.{fed}
use Rattle.soundness_values.proofs.Known.{Target}
use Rattle.soundness_values.proofs.Running.{Passed, Runs}
use Rattle.soundness_values.proofs.Taking.{MayLapse, rel}

-- what is present, and the facts
abbrev pub Kept : Type 0
Kept = List (ℕ × Presence) × Facts

abbrev pub feeds : List Bool → Kept → Checking Facts
feeds t k = record { free = feeding t k.0; facts = k.1; lost = false }

module _ (said : State → Kept → Type 0) (halted : State → Type 0) where
  abbrev pub checked_rel : Relation State (Checking Facts)
  checked_rel = fed Kept feeds said (Lapses halted)

  -- where a test fails, the checked run complains
  pub if_allowed : (b : Bool) (k : Kept) (o : Out State) (g : List Bool → Out (Checking Facts)) →
      (b ≡ true → FollowsOut checked_rel tt o g) → FollowsOut checked_rel tt o (λ t. if_ok b (feeds t k) (g t))
  if_allowed true k o g f = f refl
  if_allowed false k o g f = refused tt o Stuck k [] _ tt (λ rest. refl)

  pub chosen_if_allowed : (b : Bool) (k : Kept) (o : Choice State) (g : List Bool → Choice (Checking Facts)) →
      (b ≡ true → FollowsChoice checked_rel tt o g) →
      FollowsChoice checked_rel tt o (λ t. chosen_if_ok b (feeds t k) (g t))
  chosen_if_allowed true k o g f = f refl
  chosen_if_allowed false k o g f = refused_choice tt o Stuck k [] _ tt (λ rest. refl)

  module _ (setting : Setting) (number : ℕ) (targets : List Target) (uniques : List Addr) (base : State)
      (is_target : ℕ → Bool) (passed : Passed setting number targets uniques base is_target) where
    abbrev R : State → List (ℕ × Presence) → Facts → Type 0
    R = Runs setting number targets uniques base is_target

    abbrev rels : Facts → Relation State AbstractState
    rels = rel setting number targets uniques base is_target passed

    -- what is known where an effect goes on, from that the free run does so too
    abbrev pub Goes : Out State → (List Bool → Out AbstractState) → (goal went : Facts) → Type 0
    Goes o g goal went = (l : List Bool) (v : State) (c : List (ℕ × Presence)) → o ≡ Go v →
        ((rest : List Bool) → g (l ++ rest) ≡ Go (feeding rest c)) → R v c goal → said v (c, went)

    abbrev pub Panics : Out State → (List Bool → Out AbstractState) → (goal unwound : Facts) → Type 0
    Panics o g goal unwound = (l : List Bool) (v : State) (c : List (ℕ × Presence)) → o ≡ Unwind v →
        ((rest : List Bool) → g (l ++ rest) ≡ Unwind (feeding rest c)) → R v c goal → said v (c, unwound)

    -- it may end so
    abbrev pub Ends : Out State → Type 0
    Ends o = (halt : Halt) (v : State) → o ≡ Halts halt v → MayLapse halt v → halted v

    lapse : (halt : Halt) (w : State) (g : List Bool → Out (Checking Facts)) → MayLapse halt w → halted w →
        FollowsOut checked_rel tt (Halts halt w) g
    lapse Aborted w g k h = lapsed tt Aborted w g h
    lapse OutOfTicks w g k h = lapsed tt OutOfTicks w g h
    lapse other w g k h = absurd k

    pub checked_out : (goal went unwound : Facts) (o : Out State) (g : List Bool → Out AbstractState) →
        Goes o g goal went → Panics o g goal unwound → Ends o → FollowsOut (rels goal) tt o g →
        FollowsOut checked_rel tt o (λ t. with_facts went unwound (g t))
    checked_out goal went unwound _ _ a b h (goes_on n w c l g k d) =
        goes_on n w (c, went) l _ (a l w c refl d k) (λ rest. ap (with_facts went unwound) (d rest))
    checked_out goal went unwound _ _ a b h (unwinds n w c l g k d) =
        unwinds n w (c, unwound) l _ (b l w c refl d k) (λ rest. ap (with_facts went unwound) (d rest))
    checked_out goal went unwound _ _ a b h (lapsed n halt w g k) = lapse halt w _ k (h halt w refl k)
    checked_out goal went unwound _ _ a b h (refused n o Stuck c l g k d) =
        refused n o Stuck (c, unwound) l _ tt (λ rest. ap (with_facts went unwound) (d rest))
    checked_out goal went unwound _ _ a b h (refused n o (BadUse site) c l g k d) =
        refused n o (BadUse site) (c, unwound) l _ tt (λ rest. ap (with_facts went unwound) (d rest))
    checked_out goal went unwound _ _ a b h (refused n o (BadStore site) c l g k d) =
        refused n o (BadStore site) (c, unwound) l _ tt (λ rest. ap (with_facts went unwound) (d rest))
    checked_out goal went unwound _ _ a b h (refused n o other c l g k d) = absurd k

    -- the same of a condition
    abbrev pub Takes : Choice State → (List Bool → Choice AbstractState) → (goal taken : Facts) → Type 0
    Takes o g goal taken = (l : List Bool) (v : State) (c : List (ℕ × Presence)) → o ≡ Yes v →
        ((rest : List Bool) → g (l ++ rest) ≡ Yes (feeding rest c)) → R v c goal → said v (c, taken)

    abbrev pub Declines : Choice State → (List Bool → Choice AbstractState) → (goal declined : Facts) → Type 0
    Declines o g goal declined = (l : List Bool) (v : State) (c : List (ℕ × Presence)) → o ≡ No v →
        ((rest : List Bool) → g (l ++ rest) ≡ No (feeding rest c)) → R v c goal → said v (c, declined)

    abbrev pub EndsChoice : Choice State → Type 0
    EndsChoice o = (halt : Halt) (v : State) → o ≡ Neither halt v → MayLapse halt v → halted v

    lapse_choice : (halt : Halt) (w : State) (g : List Bool → Choice (Checking Facts)) → MayLapse halt w → halted w →
        FollowsChoice checked_rel tt (Neither halt w) g
    lapse_choice Aborted w g k h = lapsed_choice tt Aborted w g h
    lapse_choice OutOfTicks w g k h = lapsed_choice tt OutOfTicks w g h
    lapse_choice other w g k h = absurd k

    pub checked_choice : (goal taken declined : Facts) (o : Choice State) (g : List Bool → Choice AbstractState) →
        Takes o g goal taken → Declines o g goal declined → EndsChoice o → FollowsChoice (rels goal) tt o g →
        FollowsChoice checked_rel tt o (λ t. chosen_with taken declined (g t))
    checked_choice goal taken declined _ _ a b h (takes n w c l g k d) =
        takes n w (c, taken) l _ (a l w c refl d k) (λ rest. ap (chosen_with taken declined) (d rest))
    checked_choice goal taken declined _ _ a b h (declines n w c l g k d) =
        declines n w (c, declined) l _ (b l w c refl d k) (λ rest. ap (chosen_with taken declined) (d rest))
    checked_choice goal taken declined _ _ a b h (lapsed_choice n halt w g k) = lapse_choice halt w _ k
        (h halt w refl k)
    checked_choice goal taken declined _ _ a b h (refused_choice n o Stuck c l g k d) =
        refused_choice n o Stuck (c, declined) l _ tt (λ rest. ap (chosen_with taken declined) (d rest))
    checked_choice goal taken declined _ _ a b h (refused_choice n o (BadUse site) c l g k d) =
        refused_choice n o (BadUse site) (c, declined) l _ tt (λ rest. ap (chosen_with taken declined) (d rest))
    checked_choice goal taken declined _ _ a b h (refused_choice n o (BadStore site) c l g k d) =
        refused_choice n o (BadStore site) (c, declined) l _ tt (λ rest. ap (chosen_with taken declined) (d rest))
    checked_choice goal taken declined _ _ a b h (refused_choice n o other c l g k d) = absurd k
