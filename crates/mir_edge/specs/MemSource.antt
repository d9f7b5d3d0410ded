-- A source over bytes in memory.
use Rattle.std.specs.Prelude.{ℕ, List, min, length, drop}
use Rattle.mir_edge.specs.Faults.{one_more}

-- the bytes that are left, how many a call gives at most, the numbers of the calls that fail, counted
-- from 0, how many calls there were, and the count of faults
pub record MemSourceState : Type 0 where
  pub unread : List ℕ
  pub piece : ℕ
  pub failing : List ℕ
  pub calls : ℕ
  pub faults : ℕ

-- how many bytes a call that does not fail gives to a piece of this length
abbrev pub count_given : MemSourceState → ℕ → ℕ
count_given source room = min (min source.piece room) (length source.unread)

-- the source after a call that gave n bytes
abbrev pub after_giving : ℕ → MemSourceState → MemSourceState
after_giving n source =
    record source { unread = drop n source.unread; calls = one_more source.calls }

-- the source after a call that failed
abbrev pub after_failing : MemSourceState → MemSourceState
after_failing source =
    record source { calls = one_more source.calls; faults = one_more source.faults }
