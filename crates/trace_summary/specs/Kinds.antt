-- Which events tell how a value with a serial number begins or ends.
use Rattle.std.specs.Prelude.{Bool, true, false}
use Rattle.mir_base.specs.declared.trace.Event.{Event}

abbrev pub is_made : Event → Bool
is_made (Event.Make adt serial) = true
is_made (Event.Boxed serial) = true
is_made event = false

abbrev pub is_dropped : Event → Bool
is_dropped (Event.Dropped adt serial) = true
is_dropped event = false

abbrev pub is_freed : Event → Bool
is_freed (Event.Freed serial) = true
is_freed event = false

abbrev pub is_forgotten : Event → Bool
is_forgotten (Event.ForgotMade adt serial) = true
is_forgotten (Event.ForgotBox serial) = true
is_forgotten event = false
