-- A sink over memory.
use Rattle.std.specs.Prelude.{ℕ, ◌-◌, ◌<◌, ◌⊎◌, List, ◌++◌, min, take, Contains}
use Rattle.mir_edge.specs.Faults.{one_more}

-- the bytes that were taken, for how many more there is room, how many a call takes at most, the
-- numbers of the calls that fail, counted from 0, how many calls there were, and the count of faults
pub record MemSinkState : Type 0 where
  pub taken : List ℕ
  pub room : ℕ
  pub piece : ℕ
  pub failing : List ℕ
  pub calls : ℕ
  pub faults : ℕ

-- how many bytes of a piece of this length a call would take
abbrev pub count_taken : MemSinkState → ℕ → ℕ
count_taken sink offered = min sink.piece offered

-- the call is one of those that fail, or there is too little room for the bytes that it would take
abbrev pub Refuses : MemSinkState → ℕ → Type 0
Refuses sink offered = Contains sink.failing sink.calls ⊎ (sink.room < count_taken sink offered)

-- the sink after a call that took the first n bytes of a piece
abbrev pub after_taking : ℕ → List ℕ → MemSinkState → MemSinkState
after_taking n piece sink =
    record sink {
      taken = sink.taken ++ take n piece;
      room = sink.room - n;
      calls = one_more sink.calls;
    }

-- the sink after a call that failed
abbrev pub after_failing : MemSinkState → MemSinkState
after_failing sink = record sink { calls = one_more sink.calls; faults = one_more sink.faults }
