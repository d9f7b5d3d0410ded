-- What a run tells: its events, the oldest first.
use Rattle.std.specs.Prelude.{List}
use Rattle.mir_base.specs.declared.trace.Event.{Event}

abbrev pub Trace : Type 0
Trace = List Event
