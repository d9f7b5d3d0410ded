-- The relation of a run on values with one that takes choices: the first says which choices the second is fed with,
-- and what is known of a state of the first is what the second has.
use Rattle.std.proofs.Common.{Bool, List, [], ◌++◌, refl, append_assoc}
use Rattle.store_model.specs.Effects.{Halt, Aborted, OutOfTicks, Stuck, StuckAt, BadUse, BadStore, NoChoice, Infeasible, Unreachable}
use Rattle.store_model.proofs.Effects.Following.{Relation}

-- where the second run refuses: a refused use, or a check that complains (which is a missing step)
abbrev pub Refuses : Halt → Type 0
Refuses Aborted = ⊥
Refuses OutOfTicks = ⊥
Refuses Stuck = Unit {0}
Refuses (StuckAt body block) = ⊥
Refuses (BadUse site) = Unit {0}
Refuses (BadStore site) = Unit {0}
Refuses NoChoice = ⊥
Refuses Infeasible = ⊥
Refuses Unreachable = ⊥

-- a run on values is fed into one with choices; what is known of a value state does not depend on a stage
abbrev pub fed : {W V : Type 0} (K : Type 0) → (List Bool → K → V) → (W → K → Type 0) → (Halt → W → Type 0) →
    Relation W V
fed K feed related lapses = record {
  Known = K;
  Choices = List Bool;
  feed = feed;
  none = [];
  joined = λ a b. a ++ b;
  from_none = λ t. refl;
  associates = λ a b c. append_assoc a b c;
  Stage = Unit {0};
  related = λ n w c. related w c;
  halted = λ n w c. related w c;
  at_halt = λ n w c r. r;
  lapses = λ n halt w. lapses halt w;
  outlives = λ n halt w later. ⊥;
  refuses = Refuses;
}
