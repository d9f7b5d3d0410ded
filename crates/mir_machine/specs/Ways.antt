-- The ways on from a terminator.
use Rattle.std.specs.Prelude.{ℕ}
use Rattle.cfg_graph.specs.declared.terminator.Term.{Term}
use Rattle.cfg_graph.specs.declared.terminator.Unwind.{Unwind}
use Rattle.mir_machine.specs.declared.tasks.Post.{Post}

-- the block in which a body goes on, and where a panic goes on, of a terminator that has both
abbrev pub ways_of : Term → ℕ × Unwind
ways_of (Term.Math to op left right onward unwind) = (onward, unwind)
ways_of (Term.Negate to of onward unwind) = (onward, unwind)
ways_of (Term.Bounds index length onward unwind) = (onward, unwind)
ways_of (Term.Call to body args onward unwind) = (onward, unwind)
ways_of (Term.Virtual to trait_no method args onward unwind) = (onward, unwind)
ways_of (Term.Ask to onward unwind) = (onward, unwind)
ways_of (Term.DropAt place onward unwind) = (onward, unwind)
ways_of term = (0, Unwind.Resume)

abbrev pub post_of : ℕ → ℕ → Term → Post
post_of number block term = record {
  number = number;
  block = block;
  onward = (ways_of term).0;
  unwind = (ways_of term).1;
}
